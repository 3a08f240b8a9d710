-- A program has one first fault at most, and none beside a schema.
use Rattle.std.proofs.Common.{◌≡◌, ℕ, List, ap, sym, subst, ◌∙◌}
use Rattle.std.specs.List.{AllByRecursion}
use Rattle.idl_token.specs.declared.Place.{Place}
use Rattle.idl_include.specs.Program.{Program}
use Rattle.idl_include.specs.Spots.{GivenValue, Spotted, given_name, type_use, parent_use, typedef_spot, field_spot, thrown_spot, enum_value_spot, struct_spot, service_spot, function_spot, value_spot, Spot}
use Rattle.thrift_value.specs.Tree.{Tree}
use Rattle.check_model.specs.Worths.{ConstFlaw, Worth, valued, flawed}
use Rattle.check_model.specs.Evaluation.{given_worth}
use Rattle.check_model.specs.Passes.{Pass, dotted_name, duplicate_name, unknown_type, typedef_cycle, field_id, duplicate_id, enum_number, service_cycle, duplicate_function, oneway_not_void, oneway_throws, not_exception, struct_loop, bad_constant, HasConstFlaw}
use Rattle.check_model.specs.FirstFlaw.{of_value, ProgramFlaw, IsValueFlaw, IsAtFault, IsClearAt, FindsNothing, IsFirstOf, IsFirstFlaw, HasNoFlaw}
use Rattle.idl_include.specs.Loading.{Loaded, loaded, stopped}
use Rattle.check_model.specs.ProgramSchema.{ProgramVerdict, accepted_as, not_loaded, at_fault, IsVerdictOfLoaded}
use Rattle.check_model.proofs.FirstOnes.{somes, first_is_one, holds_at_split}
use Rattle.check_model.proofs.Meanings.{one_meaning}
use Rattle.check_model.proofs.OneSchema.{one_partial, one_schema}

-- the place of a fault, if there is one
place_or : {A : Type 0} → Place → Worth A → Place
place_or d (valued x n) = d
place_or d (flawed at flaw) = at

-- the kind of a fault, if there is one
flaw_or : {A : Type 0} → ConstFlaw → Worth A → ConstFlaw
flaw_or d (valued x n) = d
flaw_or d (flawed at flaw) = flaw

module _ (program : Program) (file : ℕ) (v : GivenValue) (at in_other : Place) (flaw other : ConstFlaw)
    (p : HasConstFlaw program file v at flaw) (q : HasConstFlaw program file v in_other other) where
  same_worth : ◌≡◌ {A = Worth Tree} (flawed at flaw) (flawed in_other other)
  same_worth =
      sym p.worth
      ∙ (λ i. given_worth (record { program = program; schema = one_partial program p.schema q.schema p.made q.made i })
      (somes p.which q.which (sym p.number ∙ q.number) i)
      (one_meaning program file v.type p.kind q.kind p.means q.means i) (record { file = file; item = v }))
      ∙ q.worth

  same_const_flaw : (at ≡ in_other) × (flaw ≡ other)
  unfolding place_or flaw_or
  same_const_flaw = (ap (place_or at) same_worth, ap (flaw_or flaw) same_worth)

one_value_flaw : (program : Program) (file : ℕ) (shown : Spotted) (f g : ProgramFlaw) → IsValueFlaw program file shown f → IsValueFlaw program file shown g → f ≡ g
one_value_flaw program file (value_spot v) f g p q =
    let same = same_const_flaw program file v p.0 q.0 p.1 q.1 p.2 q.2 in
    p.3 ∙ (λ i. record { file = file; at = same.0 i; kind = of_value (same.1 i) }) ∙ sym q.3
one_value_flaw program file (given_name _ _) f g p q = absurd p
one_value_flaw program file (type_use _) f g p q = absurd p
one_value_flaw program file (parent_use _) f g p q = absurd p
one_value_flaw program file (typedef_spot _ _) f g p q = absurd p
one_value_flaw program file (field_spot _ _) f g p q = absurd p
one_value_flaw program file (thrown_spot _) f g p q = absurd p
one_value_flaw program file (enum_value_spot _ _) f g p q = absurd p
one_value_flaw program file (struct_spot _ _) f g p q = absurd p
one_value_flaw program file (service_spot _ _) f g p q = absurd p
one_value_flaw program file (function_spot _ _ _) f g p q = absurd p

-- at a spot a pass finds one fault at most
pub one_fault : (pass : Pass) (program : Program) (spot : Spot) (f g : ProgramFlaw) → IsAtFault pass program spot f → IsAtFault pass program spot g → f ≡ g
one_fault bad_constant program spot f g p q = one_value_flaw program spot.file spot.shows f g p q
one_fault dotted_name program spot f g p q = p.1 ∙ sym q.1
one_fault duplicate_name program spot f g p q = p.1 ∙ sym q.1
one_fault unknown_type program spot f g p q = p.1 ∙ sym q.1
one_fault typedef_cycle program spot f g p q = p.1 ∙ sym q.1
one_fault field_id program spot f g p q = p.1 ∙ sym q.1
one_fault duplicate_id program spot f g p q = p.1 ∙ sym q.1
one_fault enum_number program spot f g p q = p.1 ∙ sym q.1
one_fault service_cycle program spot f g p q = p.1 ∙ sym q.1
one_fault duplicate_function program spot f g p q = p.1 ∙ sym q.1
one_fault oneway_not_void program spot f g p q = p.1 ∙ sym q.1
one_fault oneway_throws program spot f g p q = p.1 ∙ sym q.1
one_fault not_exception program spot f g p q = p.1 ∙ sym q.1
one_fault struct_loop program spot f g p q = p.1 ∙ sym q.1

-- a pass has one first fault at most
one_first : (program : Program) (pass : Pass) (f g : ProgramFlaw) → IsFirstOf program pass f → IsFirstOf program pass g → f ≡ g
one_first program pass f g p q =
    let R : Spot → Type 0 = λ spot. (flaw : ProgramFlaw) × IsAtFault pass program spot flaw in
    let same = first_is_one (IsClearAt program pass) R (λ spot clear fault. clear fault.0 fault.1)
    p.before p.spot p.after q.before q.spot q.after (sym p.split ∙ q.split) p.clear (f, p.here) q.clear (g, q.here) in
    let P : Spot → Type 0 = λ spot. IsAtFault pass program spot f in
    one_fault pass program q.spot f g (subst P same p.here) q.here

-- a pass that finds nothing has no first fault
nothing_first : (program : Program) (pass : Pass) (f : ProgramFlaw) → FindsNothing program pass → IsFirstOf program pass f → ⊥
nothing_first program pass f nothing p =
    let P : List Spot → Type 0 = λ spots. AllByRecursion (IsClearAt program pass) spots in
    holds_at_split (IsClearAt program pass) p.before p.spot p.after (subst P p.split nothing) f p.here

-- a program has one first fault at most
pub one_flaw : (program : Program) (f g : ProgramFlaw) → IsFirstFlaw program f → IsFirstFlaw program g → f ≡ g
one_flaw program f g p q =
    let R : Pass → Type 0 = λ pass. (flaw : ProgramFlaw) × IsFirstOf program pass flaw in
    let same = first_is_one (FindsNothing program) R (λ pass nothing fault. nothing_first program pass fault.0 nothing fault.1)
    p.earlier p.pass p.later q.earlier q.pass q.later (sym p.split ∙ q.split) p.clear (f, p.first) q.clear (g, q.first) in
    let P : Pass → Type 0 = λ pass. IsFirstOf program pass f in
    one_first program q.pass f g (subst P same p.first) q.first

-- a program without a fault has no first fault
pub no_flaw_beside : (program : Program) (f : ProgramFlaw) → HasNoFlaw program → IsFirstFlaw program f → ⊥
no_flaw_beside program f none p =
    let P : List Pass → Type 0 = λ ps. AllByRecursion (FindsNothing program) ps in
    nothing_first program p.pass f (holds_at_split (FindsNothing program) p.earlier p.pass p.later (subst P p.split none)) p.first

-- what loading comes to has one verdict at most
pub one_verdict_on : (l : Loaded) (v w : ProgramVerdict) → IsVerdictOfLoaded l v → IsVerdictOfLoaded l w → v ≡ w
one_verdict_on (loaded program) (accepted_as a) (accepted_as b) p q = ap accepted_as (one_schema program a b p q)
one_verdict_on (loaded program) (accepted_as a) (at_fault g) p q = absurd (no_flaw_beside program g p.faultless q)
one_verdict_on (loaded program) (accepted_as a) (not_loaded g) p q = absurd q
one_verdict_on (loaded program) (at_fault f) (accepted_as b) p q = absurd (no_flaw_beside program f q.faultless p)
one_verdict_on (loaded program) (at_fault f) (at_fault g) p q = ap at_fault (one_flaw program f g p q)
one_verdict_on (loaded program) (at_fault f) (not_loaded g) p q = absurd q
one_verdict_on (loaded program) (not_loaded f) w p q = absurd p
one_verdict_on (stopped flaw) (not_loaded f) (not_loaded g) p q = ap not_loaded (p ∙ sym q)
one_verdict_on (stopped flaw) (not_loaded f) (accepted_as b) p q = absurd q
one_verdict_on (stopped flaw) (not_loaded f) (at_fault g) p q = absurd q
one_verdict_on (stopped flaw) (accepted_as a) w p q = absurd p
one_verdict_on (stopped flaw) (at_fault f) w p q = absurd p
