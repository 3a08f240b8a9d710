use Rattle.std.proofs.Common.{List, [], ◌∷◌, All, sym, subst}
use Rattle.std.proofs.lemmas.List.Elements.{All-nil, All-cons, All-append}
use Rattle.call_rules.specs.Entries.{CallEntry}
use Rattle.run_report.specs.Entries.{IsPlainEntry}
use Rattle.thrift_host.proofs.journal.ReportedListJournal.append.Goals as goal

pub invariant_of-self : goal.invariant_of-self
invariant_of-self c =
    subst (λ (es : List CallEntry). All IsPlainEntry es) (sym c.append.ensures.entered)
    (All-append IsPlainEntry c.self.inside.list.entries (c.args.entry ∷ []) c.self.invariant
    (All-cons IsPlainEntry c.args.entry [] (record { call = c.requires.call; answer = c.requires.answer }) (All-nil IsPlainEntry)))
