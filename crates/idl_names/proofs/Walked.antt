-- Lists that are made of the items of another, one after another.
use Rattle.std.proofs.Common.{◌≡◌, ◌<◌, ◌≤◌, ◌+◌, ◌<ℤ◌, inl, inr, ℕ, ℤ, Bool, false, Option, None, Some, arith, List, [], ◌∷◌, ◌++◌, map, length, get_or, take, drop, refl, ap, sym, ◌∙◌, append_assoc}
use Rattle.std.specs.Prelude.{◌+ℤ◌, pos}
use Rattle.std.proofs.lemmas.List.{append-nil, map-append, at_drop_all}
use Rattle.idl_parser.specs.declared.tree.Field.{Field}
use Rattle.idl_parser.specs.declared.tree.EnumValue.{EnumValue}
use Rattle.idl_include.specs.Declarations.{FieldDecl, EnumValueDecl}
use Rattle.idl_include.specs.DeclaredIn.{field_in, enum_value_in}
use Rattle.idl_include.specs.FieldIds.{id_behind, one_more_unnumbered, ids_behind}
use Rattle.idl_include.specs.EnumNumbers.{number_or, numbers_from}
use Rattle.idl_include.specs.Spots.{Spotted, Spot, in_file}
use Rattle.idl_names.specs.EnumRange.{has_32_bits, fit_marks, IsNextAs}
use Rattle.idl_names.proofs.Marked.{left_more, taken_more}

-- what was made so far and what the rest makes is what all make
pub walk_next : {S A B D : Type 0} (walk : S → List A → List B) (own : S → A → List B) (next : S → A → S)
    → ((s : S) (a : A) (more : List A) → walk s (a ∷ more) ≡ own s a ++ walk (next s a) more)
    → (g : D → A) (xs : List D) (i : ℕ) (x : D) (s s' : S) (old new all : List B) → i < length xs → x ≡ get_or xs i x
    → s' ≡ next s (g x) → new ≡ old ++ own s (g x) → old ++ walk s (map g (drop i xs)) ≡ all → new ++ walk s' (map g (drop (i + 1) xs)) ≡ all
walk_next walk own next step g xs i x s s' old new all l here state made so_far =
    let more = map g (drop (i + 1) xs) in
    (λ j. made j ++ walk (state j) more)
    ∙ append_assoc old (own s (g x)) (walk (next s (g x)) more)
    ∙ ap (λ m. old ++ m) (sym (step s (g x) more))
    ∙ ap (λ r. old ++ walk s (map g r)) (sym (left_more xs i x l here))
    ∙ so_far

-- nothing is left behind the last
pub walk_end : {A B : Type 0} (walk : List A → List B) (xs : List A) (i : ℕ) (old all : List B) → length xs ≤ i → walk [] ≡ [] → old ++ walk (drop i xs) ≡ all → old ≡ all
walk_end walk xs i old all past none so_far = sym (append-nil old) ∙ ap (λ more. old ++ more) (sym (at_drop_all walk xs i past ∙ none)) ∙ so_far

pub ids_next : (xs : List Field) (i : ℕ) (x : Field) (unnumbered : ℕ) (id : ℤ) (old new all : List ℤ) → i < length xs → x ≡ get_or xs i x
    → id ≡ id_behind unnumbered (field_in x).id → new ≡ old ++ id ∷ [] → old ++ ids_behind unnumbered (map field_in (drop i xs)) ≡ all
    → new ++ ids_behind (one_more_unnumbered unnumbered (field_in x).id) (map field_in (drop (i + 1) xs)) ≡ all
ids_next xs i x unnumbered id old new all l here e made so_far =
    walk_next ids_behind (λ u (f : FieldDecl). id_behind u f.id ∷ []) (λ u (f : FieldDecl). one_more_unnumbered u f.id) (λ _ _ _. refl)
    field_in xs i x unnumbered (one_more_unnumbered unnumbered (field_in x).id) old new all l here refl (made ∙ ap (λ n. old ++ n ∷ []) e) so_far

pub numbers_next : (xs : List EnumValue) (i : ℕ) (x : EnumValue) (next number after : ℤ) (old new all : List ℤ) → i < length xs → x ≡ get_or xs i x
    → number ≡ number_or next (enum_value_in x).number → after ≡ number +ℤ pos 1 → new ≡ old ++ number ∷ []
    → old ++ numbers_from next (map enum_value_in (drop i xs)) ≡ all → new ++ numbers_from after (map enum_value_in (drop (i + 1) xs)) ≡ all
numbers_next xs i x next number after old new all l here e f made so_far =
    walk_next numbers_from (λ n (v : EnumValueDecl). number_or n v.number ∷ []) (λ n (v : EnumValueDecl). number_or n v.number +ℤ pos 1) (λ _ _ _. refl)
    enum_value_in xs i x next after old new all l here (f ∙ ap (λ n. n +ℤ pos 1) e) (made ∙ ap (λ n. old ++ n ∷ []) e) so_far

-- ---- numbers that have 32 bits or not

too_large : (n : ℤ) → pos 2147483647 <ℤ n → has_32_bits n ≡ false
too_large n l = grind arith

-- a number that is the next has 32 bits where that has
pub same_fit : (number next : ℤ) → IsNextAs number next → has_32_bits number ≡ has_32_bits next
same_fit number next (inl e) = ap has_32_bits e
same_fit number next (inr l) = too_large number l.0 ∙ sym (too_large next l.1)

-- the same of a value that may have a number
pub same_number : (number next : ℤ) (o : Option ℤ) → IsNextAs number next → IsNextAs (number_or number o) (number_or next o)
same_number number next None h = h
same_number number next (Some n) h = inl refl

pub fits_next : (xs : List EnumValue) (i : ℕ) (x : EnumValue) (next number n : ℤ) (old new all : List Bool) → i < length xs → x ≡ get_or xs i x
    → IsNextAs number next → n ≡ number_or number (enum_value_in x).number → new ≡ old ++ has_32_bits n ∷ []
    → old ++ fit_marks next (map enum_value_in (drop i xs)) ≡ all
    → new ++ fit_marks (number_or next (enum_value_in x).number +ℤ pos 1) (map enum_value_in (drop (i + 1) xs)) ≡ all
fits_next xs i x next number n old new all l here h e made so_far =
    let same : has_32_bits n ≡ has_32_bits (number_or next (enum_value_in x).number) =
    ap has_32_bits e ∙ same_fit (number_or number (enum_value_in x).number) (number_or next (enum_value_in x).number) (same_number number next (enum_value_in x).number h) in
    walk_next fit_marks (λ m (v : EnumValueDecl). has_32_bits (number_or m v.number) ∷ []) (λ m (v : EnumValueDecl). number_or m v.number +ℤ pos 1) (λ _ _ _. refl)
    enum_value_in xs i x next (number_or next (enum_value_in x).number +ℤ pos 1) old new all l here refl (made ∙ ap (λ b. old ++ b ∷ []) same) so_far

-- ---- spots

pub in_file_append : (file : ℕ) (xs ys : List Spotted) → in_file file (xs ++ ys) ≡ in_file file xs ++ in_file file ys
in_file_append file xs ys = map-append (λ (x : Spotted). record { file = file; shows = x }) xs ys

-- what is made of an item behind those before it
pub prefix_next : {A D : Type 0} (walk : List A → List A → List Spotted) (own : List A → A → List Spotted)
    → ((before : List A) (a : A) (more : List A) → walk before (a ∷ more) ≡ own before a ++ walk (before ++ a ∷ []) more)
    → (g : D → A) (file : ℕ) (xs : List D) (i : ℕ) (x : D) (old new all : List Spot) → i < length xs → x ≡ get_or xs i x
    → new ≡ old ++ in_file file (own (map g (take i xs)) (g x))
    → old ++ in_file file (walk (map g (take i xs)) (map g (drop i xs))) ≡ all
    → new ++ in_file file (walk (map g (take (i + 1) xs)) (map g (drop (i + 1) xs))) ≡ all
prefix_next {A} walk own step g file xs i x old new all l here made so_far =
    walk_next (λ s left. in_file file (walk s left)) (λ s a. in_file file (own s a)) (λ s a. s ++ a ∷ [])
    (λ s a more. ap (in_file file) (step s a more) ∙ in_file_append file (own s a) (walk (s ++ a ∷ []) more))
    g xs i x (map g (take i xs)) (map g (take (i + 1) xs)) old new all l here
    (ap (map g) (taken_more xs i x l here) ∙ map-append g (take i xs) (x ∷ [])) made so_far
