-- Tables of names, one name more at a time, and what they find.
use Rattle.std.proofs.Common.{◌≡◌, ℕ, zero, suc, ◌+◌, ◌<◌, Bool, true, false, cond, List, [], ◌∷◌, ◌++◌, map, length, get_or, take, slice_get, Option, Some, None, Bor, refl, sym, ap, ◌∙◌, arith, append_assoc, length-append}
use Rattle.std.specs.Prelude.{◌&&◌, find}
use Rattle.std.proofs.Math.Path.{fun_ext}
use Rattle.std.proofs.lemmas.List.{length-map, length-take-le, map-append}
use Rattle.std.specs.Option.{option_map, option_or, option_and_then, option_copied}
use Rattle.std.specs.List.{position_from}
use Rattle.std.specs.Str.{bytes_eq}
use Rattle.idl_names.specs.NameMaps.{NameMap, number_of_name, number_if, HasOneMore}
use Rattle.idl_names.proofs.Marked.{taken_more}
use Rattle.idl_names.proofs.Numbered.{position_one_more}
use Rattle.schema.specs.declared.types.FnDesc.{FnDesc}
use Rattle.schema.specs.Inherited.{functions_of}
use Rattle.schema.specs.LookUp.{is_named, function_named}
use Rattle.schema.specs.PlainSchema.{PlainSchema}
use Rattle.schema.specs.SchemaOf.{plain_function}
use Rattle.schema.specs.Shapes.{shown_function}
use Rattle.compat_check.specs.Tables.{HasOneMoreIf}

-- ---- one name more

or_none : {A : Type 0} (o : Option A) → o ≡ option_or o None
or_none None = refl
or_none (Some x) = refl

pub not_noted : (holds : Bool) (name : List ℕ) (place : ℕ) (m : NameMap) → holds ≡ false → HasOneMoreIf holds name place m m
not_noted holds name place m off other =
    or_none (number_of_name m other) ∙ ap (λ b. option_or (number_of_name m other) (number_if (b && bytes_eq name other) place)) (sym off)

pub noted : (holds : Bool) (name : List ℕ) (number place : ℕ) (old new : NameMap) → holds ≡ true → number ≡ place → HasOneMore name number old new
    → HasOneMoreIf holds name place old new
noted holds name number place old new on counted more other =
    more other ∙ (λ i. option_or (number_of_name old other) (number_if (sym on i && bytes_eq name other) (counted i)))

-- names are those of the first items of these names that pass a test
abbrev pub FindsFirst : {B : Type 0} → (B → Bool) → (B → List ℕ) → NameMap → List B → Type 0
FindsFirst holds text m items = (name : List ℕ) → number_of_name m name ≡ position_from (λ x. holds x && bytes_eq (text x) name) 0 items

pub noted_next : {A B : Type 0} (view : A → B) (holds : B → Bool) (text : B → List ℕ) (items : List A) (n : ℕ) (x : A) (test : Bool) (name : List ℕ) (old new : NameMap)
    → n < length items → x ≡ get_or items n x → test ≡ holds (view x) → name ≡ text (view x) → HasOneMoreIf test name n old new
    → FindsFirst holds text old (map view (take n items)) → FindsFirst holds text new (map view (take (n + 1) items))
noted_next {A} {B} view holds text items n x test name old new inside here tested named more so_far other =
    let passes : B → Bool = λ y. holds y && bytes_eq (text y) other in
    let front : List B = map view (take n items) in
    let longer : map view (take (n + 1) items) ≡ front ++ view x ∷ [] = ap (map view) (taken_more items n x inside here) ∙ map-append view (take n items) (x ∷ []) in
    let place : n ≡ 0 + length front = omega (arith, length-map (take n items) view, length-take-le n items (omega arith)) in
    more other
    ∙ (λ i. option_or (so_far other i) (number_if (tested i && bytes_eq (named i) other) (place i)))
    ∙ sym (position_one_more passes 0 front (view x))
    ∙ ap (position_from passes 0) (sym longer)

-- ---- what stands at the place of a name

there : {A : Type 0} (before : List A) (x : A) (xs : List A) (i : ℕ) → length before ≡ i → slice_get (before ++ x ∷ xs) i ≡ Some x
there [] x xs zero size = refl
there [] x xs (suc i) size = absurd (omega (arith, size))
there (y ∷ before) x xs zero size = absurd (omega (arith, size))
there (y ∷ before) x xs (suc i) size = there before x xs i (omega (arith, size))

found_by : {A : Type 0} (b : Bool) (test : A → Bool) (x : A) (xs : List A) (i : ℕ) (before : List A) → length before ≡ i
    → option_and_then (slice_get (before ++ x ∷ xs)) (position_from test (i + 1) xs) ≡ find test xs
    → option_and_then (slice_get (before ++ x ∷ xs)) (cond b (Some i) (position_from test (i + 1) xs)) ≡ cond b (Some x) (find test xs)
found_by true test x xs i before size rest = there before x xs i size
found_by false test x xs i before size rest = rest

find_at : {A : Type 0} (test : A → Bool) (before xs : List A) (i : ℕ) → length before ≡ i → option_and_then (slice_get (before ++ xs)) (position_from test i xs) ≡ find test xs
find_at test before [] i size = refl
find_at test before (x ∷ xs) i size =
    let longer : length (before ++ x ∷ []) ≡ i + 1 = omega (arith, length-append before (x ∷ []), size) in
    found_by (test x) test x xs i before size
    (ap (λ l. option_and_then (slice_get l) (position_from test (i + 1) xs)) (sym (append_assoc before (x ∷ []) xs)) ∙ find_at test (before ++ x ∷ []) xs (i + 1) longer)

-- a table of a service's functions has them by name
pub has_functions : (s : PlainSchema) (which : ℕ) (functions lent : List (Bor FnDesc)) (places : NameMap) → lent ≡ functions → map shown_function functions ≡ functions_of s.services which
    → ((name : List ℕ) → number_of_name places name ≡ position_from (is_named name) 0 (map shown_function lent))
    → (λ name. option_and_then (slice_get (map shown_function functions)) (number_of_name places name)) ≡ function_named s which
has_functions s which functions lent places same all found =
    fun_ext (λ name.
    ap (option_and_then (slice_get (map shown_function functions))) (found name)
    ∙ ap (λ fs. option_and_then (slice_get (map shown_function functions)) (position_from (is_named name) 0 (map shown_function fs))) same
    ∙ find_at (is_named name) [] (map shown_function functions) 0 refl
    ∙ ap (find (is_named name)) all)

-- a function at its place
pub function_there : (functions : List (Bor FnDesc)) (i : ℕ) (o : Option (Bor FnDesc)) → o ≡ slice_get functions i
    → option_map plain_function (option_copied o) ≡ slice_get (map shown_function functions) i
function_there functions i o is = ap (λ r. option_map plain_function (option_copied r)) is ∙ mapped functions i
  where
    mapped : (fs : List (Bor FnDesc)) (k : ℕ) → option_map plain_function (option_copied (slice_get fs k)) ≡ slice_get (map shown_function fs) k
    mapped [] k = refl
    mapped (f ∷ fs) zero = refl
    mapped (f ∷ fs) (suc k) = mapped fs k
