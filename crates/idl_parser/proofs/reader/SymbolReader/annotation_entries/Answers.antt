use Rattle.std.proofs.Common.{◌∙◌, ap, sym, [], ◌∷◌, ◌++◌}
use Rattle.idl_parser.specs.Phrases.{none}
use Rattle.idl_parser.specs.Reading.{done}
use Rattle.idl_parser.proofs.Rows.{onward, finished, ended, handed_on, neither_ahead, below, all_read}
use Rattle.idl_parser.proofs.Firsts.{first_of_entry}
use Rattle.idl_parser.proofs.reader.SymbolReader.annotation_entries.Goals as goal

pub returns-then-not-is_next : goal.returns-then-not-is_next
returns-then-not-is_next c =
    finished first_of_entry c.entries.invariant.1 (sym c.is_next.ensures ∙ c.if-not-is_next.true)
    ∙ ap (λ x. done x c.entries.self) (neither_ahead c.entries.invariant.0)

pub returns-in_err-annotation_entry : goal.returns-in_err-annotation_entry
returns-in_err-annotation_entry c =
    handed_on (λ _. none) c.in_err-annotation_entry.field-0.0 c.annotation_entry.new.self c.from_residual.result c.from_residual.ensures.1 first_of_entry c.entries.invariant.1 (below c.entries._round c.entries-test.true)
    (sym c.is_next.ensures ∙ c.if-not-is_next.false) c.in_err-annotation_entry.ensures

pub entries-preserved : goal.entries-preserved
entries-preserved c = (
  c.entries.invariant.0 ++ none ∷ [],
  onward c.entries.invariant.1 (below c.entries._round c.entries-test.true) (sym c.is_next.ensures ∙ c.if-not-is_next.false) none c.annotation_entry.new.self c.in_ok-annotation_entry.ensures,
)

pub returns : goal.returns
returns c =
    ended first_of_entry c.entries.invariant.1 (all_read c.entries._round c.entries-test.false)
    ∙ ap (λ x. done x c.entries.self) (neither_ahead c.entries.invariant.0)
