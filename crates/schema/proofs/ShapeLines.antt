-- The shapes of sorted functions.
use Rattle.std.proofs.Common.{◌≡◌, ℕ, ◌+◌, ◌<◌, false, List, [], ◌∷◌, length, map, get_or, subst, sym, arith}
use Rattle.std.specs.Borrow.{Bor}
use Rattle.std.specs.Prelude.{IsPermutation}
use Rattle.std.specs.List.Sorted.{IsSortedBy}
use Rattle.std.proofs.lemmas.List.{get_or-map, length-map}
use Rattle.std.proofs.lemmas.List.Sorted.{IsPermutation-map}
use Rattle.schema.specs.declared.types.FnDesc.{FnDesc}
use Rattle.schema.specs.Inherited.{functions_of}
use Rattle.schema.specs.PlainSchema.{PlainFunction, PlainSchema}
use Rattle.schema.specs.Shapes.{AreShapesOf, is_named_before, is_shown_before, shape_line, shown_function}

-- functions that are lent in order are in order
sorted_shown : (fs : List (Bor FnDesc)) → IsSortedBy is_shown_before fs → IsSortedBy is_named_before (map shown_function fs)
sorted_shown [] sorted k d low within = absurd (omega arith)
sorted_shown (f ∷ fs) sorted k d low within =
    let short : k + 1 < length (f ∷ fs) = omega (arith, length-map fs shown_function) in
    let at_k = get_or-map shown_function (f ∷ fs) k f d (omega arith) in
    let behind = get_or-map shown_function (f ∷ fs) (k + 1) f d short in
    subst (λ (a : PlainFunction). is_named_before a (get_or (map shown_function (f ∷ fs)) k d) ≡ false) (sym behind)
    (subst (λ (b : PlainFunction). is_named_before (shown_function (get_or (f ∷ fs) (k + 1) f)) b ≡ false) (sym at_k)
    (sorted k f low short))

-- the lines of all functions, sorted
pub shapes_of : (s : PlainSchema) (which : ℕ) (all sorted : List (Bor FnDesc)) (lines : List (List ℕ))
    → map shown_function all ≡ functions_of s.services which → IsPermutation all sorted → IsSortedBy is_shown_before sorted
    → lines ≡ map (shape_line s) (map shown_function sorted) → AreShapesOf s which lines
shapes_of s which all sorted lines is_all permuted rising each = record {
  functions = map shown_function sorted;
  all = subst (λ fs. IsPermutation fs (map shown_function sorted)) is_all (IsPermutation-map shown_function all sorted permuted);
  by_name = sorted_shown sorted rising;
  each = each;
}
