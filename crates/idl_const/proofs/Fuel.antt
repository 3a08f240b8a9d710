-- How many evaluations are left doesn't matter where there are as many as values are free.
use Rattle.std.proofs.Common.{◌≡◌, ℕ, zero, suc, ◌≤◌, Bool, true, false, List, [], ◌∷◌, map, length, slice_get, Some, refl, sym, ap, ◌∙◌, arith}
use Rattle.std.specs.Option.{option_map}
use Rattle.std.specs.Prelude.{slice_set}
use Rattle.schema.specs.PlainKind.{PlainKind}
use Rattle.idl_include.specs.Numbering.{Filed}
use Rattle.idl_include.specs.Spots.{GivenValue, values_of}
use Rattle.check_model.specs.Evaluation.{Setting, on_entering, named_worth, is_free}
use Rattle.idl_const.specs.Given.{FiledTree, tree_given}
use Rattle.idl_const.specs.Marks.{free_count}
use Rattle.idl_const.proofs.Entering.{count_entered, cycle_by}

pub none_free : (free : List Bool) (which : ℕ) → free_count free ≡ 0 → is_free free which ≡ false
none_free [] which e = refl
none_free (true ∷ more) which e = absurd (omega (arith, e))
none_free (false ∷ more) zero e = refl
none_free (false ∷ more) (suc which) e = none_free more which e

enough_by : (s : Setting) (n left : ℕ) (free : List Bool) (which : ℕ) (kind : PlainKind) (levels count : ℕ) (b : Bool) → is_free free which ≡ b
    → ((less : is_free free which ≡ true) (w : ℕ) (k : PlainKind) (l c : ℕ) → named_worth s left (slice_set free which false) w k l c ≡ named_worth s n (slice_set free which false) w k l c)
    → named_worth s (suc left) free which kind levels count ≡ named_worth s (suc n) free which kind levels count
unfolding named_worth
enough_by s n left free which kind levels count false is same =
    cycle_by s (suc left) free which kind levels count is ∙ sym (cycle_by s (suc n) free which kind levels count is)
enough_by s n left free which kind levels count true is same =
    λ i. on_entering s (λ w k l c. same is w k l c i) (is_free free which) (slice_get (values_of s.program) which) kind levels count

pub enough : (s : Setting) (n left : ℕ) (free : List Bool) (which : ℕ) (kind : PlainKind) (levels count : ℕ) → free_count free ≡ n → n ≤ left
    → named_worth s left free which kind levels count ≡ named_worth s n free which kind levels count
enough s zero left free which kind levels count few most =
    cycle_by s left free which kind levels count (none_free free which few) ∙ sym (cycle_by s zero free which kind levels count (none_free free which few))
enough s (suc n) zero free which kind levels count few most = absurd (omega (arith, most))
enough s (suc n) (suc left) free which kind levels count few most =
    enough_by s n left free which kind levels count (is_free free which) refl
    (λ is w k l c. enough s n left (slice_set free which false) w k l c (omega (arith, few, count_entered free which is)) (omega (arith, most)))

pub count_le : (free : List Bool) → free_count free ≤ length free
count_le [] = omega arith
count_le (true ∷ more) = omega (arith, count_le more)
count_le (false ∷ more) = omega (arith, count_le more)

pub marks_length : {A : Type 0} (xs : List A) → length (map (λ (x : A). true) xs) ≡ length xs
marks_length [] = refl
marks_length (x ∷ xs) = ap suc (marks_length xs)

-- a value that is given is free where all are
pub given_free : (xs : List (Filed GivenValue)) (which : ℕ) (t : FiledTree) → option_map tree_given (slice_get xs which) ≡ Some t → is_free (map (λ v. true) xs) which ≡ true
given_free [] which t e = cc
given_free (x ∷ xs) zero t e = refl
given_free (x ∷ xs) (suc which) t e = given_free xs which t e
