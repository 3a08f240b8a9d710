-- What a given value of a program is worth, as a check asks for it.
use Rattle.std.proofs.Common.{◌≡◌, ℕ, slice_get, Option, Some, None, Result, Ok, Err, subst}
use Rattle.std.specs.Prelude.{⊤, MatchOption}
use Rattle.idl_token.specs.declared.Place.{Place}
use Rattle.thrift_value.specs.declared.value.Value.{Value}
use Rattle.idl_include.specs.Numbering.{Filed}
use Rattle.idl_include.specs.Program.{Program}
use Rattle.idl_include.specs.Spots.{GivenValue, values_of}
use Rattle.schema.specs.PlainKind.{PlainKind}
use Rattle.schema.specs.SchemaOf.{schema_of}
use Rattle.check_model.specs.Worths.{ConstFlaw, flawed}
use Rattle.check_model.specs.Evaluation.{given_worth}
use Rattle.check_model.specs.Passes.{HasConstFlaw}
use Rattle.check_model.specs.Resolved.{TypeMeans}
use Rattle.idl_const.specs.declared.faults.ConstFault.{ConstFault}
use Rattle.idl_const.specs.Flaws.{flaw_of, IsEvaluated}
use Rattle.check_passes.specs.Given.{IsGivenWorth}
use Rattle.const_evaluator.specs.declared.ground.ProgramGround.{ProgramGround}
use Rattle.const_evaluator.specs.ProgramGrounds.{ground_program, ground_setting, IsProgramGround}

-- what evaluating answers
abbrev pub Evaluated : Type 0
Evaluated = Result Value (Place × ConstFault)

module _ (g : ProgramGround) (right : IsProgramGround g) (which : ℕ) (v : Filed GivenValue) (kind : PlainKind) (there : slice_get (values_of (ground_program g)) which ≡ Some v)
    (means : TypeMeans (ground_program g) v.file v.item.type kind) where
  at_fault : (at : Place) (o : Option ConstFlaw) → MatchOption o ⊤ (λ flaw. given_worth (ground_setting g) which kind v ≡ flawed at flaw)
      → MatchOption o ⊤ (HasConstFlaw (ground_program g) v.file v.item at)
  at_fault at None h = tt
  at_fault at (Some flaw) h = record { schema = schema_of g.schema.now; made = right.made; kind = kind; means = means; which = which; number = right.own which v there; worth = h }

  own_worth : (result : Evaluated) → IsEvaluated (given_worth (ground_setting g) which kind v) result → IsGivenWorth (ground_program g) v result
  own_worth (Ok value) h = record {
    schema = schema_of g.schema.now;
    made = right.made;
    kind = kind;
    means = means;
    worth = record { which = which; number = right.own which v there; count = h.0; worth = h.1 };
  }
  own_worth (Err e) h = at_fault e.0 (flaw_of e.1) h

-- the same of a program that is the ground's
pub worth_of_given : (g : ProgramGround) (program named : Program) → ground_program g ≡ program → named ≡ program → IsProgramGround g → (which : ℕ) (v : Filed GivenValue) (kind : PlainKind)
    → slice_get (values_of program) which ≡ Some v → TypeMeans named v.file v.item.type kind
    → (result : Evaluated) → ((u : Filed GivenValue) → slice_get (values_of (ground_program g)) which ≡ Some u → IsEvaluated (given_worth (ground_setting g) which kind u) result)
    → IsGivenWorth program v result
worth_of_given g program named here same right which v kind there means result worth =
    let P : Program → Type 0 = λ p. slice_get (values_of p) which ≡ Some v → TypeMeans p v.file v.item.type kind → IsGivenWorth p v result in
    subst P here (λ t m. own_worth g right which v kind t m result (worth v t)) there (subst (λ (p : Program). TypeMeans p v.file v.item.type kind) same means)
