use Rattle.std.proofs.Common.{◌≡◌, None, [], ap, ◌∙◌, sym}
use Rattle.std.proofs.lemmas.Bool.{eqb-true}
use Rattle.conn_state.specs.Phase.{ConnView, left_to_write, size_asked}
use Rattle.conn_table.specs.Table.{slot_of}
use Rattle.cell_loop.proofs.ClosingOff.{none_by, nothing_in, lean_there, lean_fed, lean_reads}
use Rattle.cell_loop.proofs.loop_part.LoopPart.lean_move.Goals as goal

pub conn-requires : goal.conn-requires
conn-requires c = lean_there c.args.self.now c.args.c c.requires.under_way c.requires.lean

pub conn-requires-2 : goal.conn-requires-2
conn-requires-2 c = lean_there c.args.self.now c.args.c c.requires.under_way c.requires.lean

pub returns-then-is_some-clause-moved : goal.returns-then-is_some-clause-moved
returns-then-is_some-clause-moved c = λ s play longest t. c.admit.ensures.moved s play tt t

pub read-requires-clause-reads : goal.read-requires-clause-reads
read-requires-clause-reads c =
    let left : left_to_write (slot_of c.args.c c.args.self.now.table.slots).conn.phase ≡ [] =
    sym (c.pending.ensures.left ∙ ap (λ (v : ConnView). left_to_write v.phase) c.conn.ensures.state)
    ∙ nothing_in c.pending.result.now (eqb-true _ _ (sym c.is_empty.ensures ∙ c.if-not-is_empty.false)) in
    let unasked : size_asked (slot_of c.args.c c.args.self.now.table.slots).conn.phase ≡ None =
    sym (c.asks.ensures.size ∙ ap (λ (v : ConnView). size_asked v.phase) c.conn-2.ensures.state) ∙ none_by c.asks.result (sym c.is_some.ensures ∙ c.if-is_some.false) in
    lean_reads c.args.self.now c.args.c c.requires.under_way c.requires.lean left unasked

pub read-requires-clause-fed : goal.read-requires-clause-fed
read-requires-clause-fed c = lean_fed c.args.self.now c.args.c c.requires.under_way c.requires.lean
