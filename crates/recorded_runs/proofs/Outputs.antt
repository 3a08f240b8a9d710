-- What was written to each connection of a run, as a report asks for it.
use Rattle.std.proofs.Common.{◌≡◌, ℕ, suc, List, [], ◌∷◌, length, refl, sym, ap, ◌∙◌}
use Rattle.streams.specs.declared.marks.Mark.{Mark}
use Rattle.host_model.specs.declared.cause.EndCause.{EndCause}
use Rattle.host_model.specs.Marks.{marks_of, output}
use Rattle.run_report.specs.Written.{outputs}
use Rattle.cell_core.specs.Rehearsed.{AreWritten, written_from}

-- it is the same for as many causes as connections
outputs_are : (tape : List Mark) (c : ℕ) (causes : List EndCause) → written_from tape c (length causes) ≡ outputs tape c causes
outputs_are tape c [] = refl
outputs_are tape c (cause ∷ causes) = ap (λ rows. output (marks_of c tape) ∷ rows) (outputs_are tape (suc c) causes)

-- what is written to each, as the report is handed it
pub written_so : (tape marks : List Mark) (causes ends : List EndCause) (outs rows : List (List ℕ)) → marks ≡ tape → ends ≡ causes → rows ≡ outs
    → AreWritten (length causes) tape outs → rows ≡ outputs marks 0 ends
written_so tape marks causes ends outs rows same_tape same_causes same_outs are =
    same_outs ∙ are ∙ outputs_are tape 0 causes ∙ ap (λ (t : List Mark). outputs t 0 causes) (sym same_tape) ∙ ap (outputs marks 0) (sym same_causes)
