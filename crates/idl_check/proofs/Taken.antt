-- Values of a program, until they are taken.
use Rattle.std.proofs.Common.{◌≡◌, ℕ, zero, suc, List, [], ◌∷◌, map, Option, Some, None, slice_get, get_or, Result, Ok, Err, IfOk, sym, subst, ◌∙◌}
use Rattle.std.specs.List.{AllZip}
use Rattle.thrift_value.specs.declared.value.Value.{Value}
use Rattle.thrift_value.specs.TreeOf.{tree_of}
use Rattle.idl_token.specs.declared.Place.{Place}
use Rattle.idl_include.specs.Program.{Program}
use Rattle.idl_include.specs.Spots.{values_of}
use Rattle.check_model.proofs.FirstOnes.{somes, none_some}
use Rattle.const_evaluator.specs.Places.{number_at_place, ArePlaces}
use Rattle.check_passes.specs.Given.{HasOwnWorth, AreWorth}
use Rattle.idl_check.specs.declared.worths.Worths.{Worths}
use Rattle.idl_check.specs.Taking.{AreLeft, AreWorths, IsWorthAt, value_given}

-- what stands at one place of two lists, the second of which is all there
zip_there : {A B V : Type 0} (R : A → B → Type 0) (f : V → B) (ws : List A) (ms : List V) (k : ℕ) (a : A) (x : V) → AllZip R ws (map f ms)
    → slice_get ws k ≡ Some a → get_or (map Some ms) k None ≡ Some x → R a (f x)
zip_there R f [] ms k a x h e there = absurd (none_some a e)
zip_there R f (b ∷ ws) [] k a x h e there = absurd h
zip_there {A} {B} {V} R f (b ∷ ws) (m ∷ ms) zero a x h e there =
    let P : A → Type 0 = λ c. R c (f x) in
    let Q : V → Type 0 = λ n. R b (f n) in
    subst P (somes b a e) (subst Q (somes m x there) h.0)
zip_there R f (b ∷ ws) (m ∷ ms) (suc k) a x h e there = zip_there R f ws ms k a x h.1 e there

-- all values are there
pub all_left : (program : Program) (made : List Value) → AreWorth program made → AreLeft program (map Some made)
all_left program made h = λ which value there v e. zip_there (HasOwnWorth program) tree_of (values_of program) made which v value h.1 e there

-- all values are there, each by its place
pub worths_made : (program : Program) (w : Worths) (made : List Value) → ArePlaces program w.places.now → AreWorth program made → w.values.items ≡ map Some made → AreWorths program w
worths_made program w made places h is = record {
  places = places;
  left = subst (AreLeft program) (sym is) (all_left program made h);
}

-- what is taken by its place is what is given there
pub taken_there : (program : Program) (old : Worths) (file : ℕ) (owner : Place) (n : ℕ) (x : Value) → AreWorths program old
    → number_at_place old.places.now file owner ≡ Some n → get_or old.values.items n None ≡ Some x → IsWorthAt program file owner (tree_of x)
taken_there program old file owner n x right found there = λ which type tree e.
    let v = value_given file owner type tree in
    let same : n ≡ which = somes n which (sym found ∙ (right.places.numbers file owner ∙ right.places.own which v e)) in
    let P : ℕ → Type 0 = λ k. get_or old.values.items k None ≡ Some x in
    right.left which x (subst P same there) v e

-- what stays there is right
pub still_left : (program : Program) (old new : List (Option Value)) → ((k : ℕ) (value : Value) → get_or new k None ≡ Some value → get_or old k None ≡ Some value)
    → AreLeft program old → AreLeft program new
still_left program old new kept left = λ which value there. left which value (kept which value there)

-- what taking the value of a number answers
pub take_kept : {E : Type 0} (program : Program) (old new : Worths) (file : ℕ) (owner : Place) (n : ℕ) (result : Result Value E) → AreWorths program old
    → new.places.now ≡ old.places.now → number_at_place old.places.now file owner ≡ Some n → IfOk result (λ x. get_or old.values.items n None ≡ Some x)
    → ((k : ℕ) (value : Value) → get_or new.values.items k None ≡ Some value → get_or old.values.items k None ≡ Some value)
    → IfOk result (λ x. IsWorthAt program file owner (tree_of x) × AreWorths program new)
take_kept program old new file owner n (Err e) right same found there kept = tt
take_kept program old new file owner n (Ok x) right same found there kept = (
  taken_there program old file owner n x right found there,
  record {
    places = subst (ArePlaces program) (sym same) right.places;
    left = still_left program old.values.items new.values.items kept right.left;
  },
)
