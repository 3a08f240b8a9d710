use Rattle.std.proofs.Common.{◌≡◌, Result, Ok, Err, OnOk, OnErr, slice_set, ◌∙◌, sym, ap}
use Rattle.std.proofs.lemmas.List.{map-set, set-get_or}
use Rattle.script_links.specs.Plain.{with_written}
use Rattle.script_links.specs.Kept.{plain_link, plain_links}
use Rattle.script_links.proofs.Connected.{changed_at, unchanged_at}
use Rattle.script_links.proofs.connections.Connections.write.Goals as goal

on_ok : (P Q : Type 0) {A E : Type 0} (result : Result A E) → (P → Q) → OnOk result P → OnOk result Q
on_ok P Q (Ok value) f p = f p
on_ok P Q (Err error) f p = p

on_err : (P Q : Type 0) {A E : Type 0} (result : Result A E) → (P → Q) → OnErr result P → OnErr result Q
on_err P Q (Ok value) f p = p
on_err P Q (Err error) f p = f p

pub returns-clause-ok : goal.returns-clause-ok
returns-clause-ok c =
    on_ok _ _ c.write.result
    (changed_at c.args.self.now.items.items c.args.c c.index_mut.result.now c.write.new.self (with_written c.args.bytes.now) c.requires c.index_mut.ensures.value)
    c.write.ensures.ok

pub returns-clause-err : goal.returns-clause-err
returns-clause-err c =
    on_err _ _ c.write.result (unchanged_at c.args.self.now.items.items c.args.c c.index_mut.result.now c.write.new.self c.requires c.index_mut.ensures.value)
    c.write.ensures.err
