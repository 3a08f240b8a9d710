-- How what a sink takes of a text in one call goes on in the next.
use Rattle.std.proofs.Common.{◌≡◌, ℕ, ℤ, codes, ◌+◌, ◌<◌, ◌≤◌, List, [], ◌∷◌, ◌++◌, length, drop, get_or, map, Option, Some, None, Result, Ok, Err, refl, sym, ap, ◌∙◌, subst, append_assoc, add-one, arith, drop-cons}
use Rattle.std.specs.List.{flat_map}
use Rattle.std.specs.Prelude.{MatchResult}
use Rattle.std.specs.Result.{IsErr}
use Rattle.streams.specs.Cause.{Rose}
use Rattle.streams.specs.Content.{told_more}
use Rattle.streams.specs.Taken.{IsTakenBut}
use Rattle.streams.proofs.Taking.{none_taken, taken_on, taken_of_more}
use Rattle.text_out.specs.Decimal.{decimal_of}
use Rattle.text_out.specs.Hex.{hex_of}
use Rattle.thrift_value.specs.declared.value.Value.{Value}
use Rattle.thrift_value.specs.TreeOf.{tree_of, field_tree, pair_tree, field_trees, item_trees, pair_trees}
use Rattle.value_text.specs.Handing.{HandsOver, BreaksOff, HandsText}
use Rattle.value_text.specs.ValueText.{number_and_letter, tree_text, listed_fields, listed_items, listed_pairs, further_fields, further_items, further_pairs}

told_twice : (x : Option (List ℕ)) (a b : List ℕ) → told_more (told_more x a) b ≡ told_more x (a ++ b)
told_twice None a b = refl
told_twice (Some c) a b = ap Some (append_assoc c a b)

-- what was left is taken on
pub handed_on : (x y z : Option (List ℕ)) (f g h : ℕ) (text left rest : List ℕ) → HandsOver x y f g text left → HandsOver y z g h left rest → HandsOver x z f h text rest
handed_on x y z f g h text left rest one two =
    record {
      front = one.front ++ two.front;
      taken = two.taken ∙ ap (λ t. told_more t two.front) one.taken ∙ told_twice x one.front two.front;
      whole = one.whole ∙ ap (λ t. one.front ++ t) two.whole ∙ sym (append_assoc one.front two.front rest);
      kept = two.kept ∙ one.kept;
    }

-- of a longer text more is left
pub handed_of_more : (x y : Option (List ℕ)) (f g : ℕ) (text left more : List ℕ) → HandsOver x y f g text left → HandsOver x y f g (text ++ more) (left ++ more)
handed_of_more x y f g text left more one =
    record { front = one.front; taken = one.taken; whole = ap (λ t. t ++ more) one.whole ∙ append_assoc one.front left more; kept = one.kept }

pub broken_of_more : (x y : Option (List ℕ)) (f g : ℕ) (text more : List ℕ) → BreaksOff x y f g text → BreaksOff x y f g (text ++ more)
broken_of_more x y f g text more one =
    record { lost = one.lost ++ more; part = taken_of_more x y text one.lost more one.part; later = one.later; rose = one.rose }

pub broken_on : (x y z : Option (List ℕ)) (f g h : ℕ) (text left : List ℕ) → HandsOver x y f g text left → BreaksOff y z g h left → BreaksOff x z f h text
broken_on x y z f g h text left one two =
    let first : IsTakenBut x y text left = record { front = one.front; taken = one.taken; whole = one.whole } in
    record {
      lost = two.lost;
      part = taken_on x y z text left two.lost first two.part;
      later = subst (λ n. n ≤ h) one.kept two.later;
      rose = subst (λ n. Rose n h) one.kept two.rose;
    }

-- a write failed, and took nothing
pub breaks_here : (x y : Option (List ℕ)) (f g : ℕ) (text : List ℕ) → y ≡ x → f ≤ g → Rose f g → BreaksOff x y f g text
breaks_here x y f g text same later rose =
    record { lost = text; part = subst (λ o. IsTakenBut x o text text) (sym same) (none_taken x text); later = later; rose = rose }

-- an error that is handed on, in front of what was to come
pub breaks : {A E : Type 0} (x y : Option (List ℕ)) (f g : ℕ) (text more : List ℕ) (result : Result A E) → IsErr result → BreaksOff x y f g text
    → HandsText x y f g (text ++ more) result
breaks x y f g text more (Ok a) e one = absurd (let g : ⊥ = cc in g)
breaks x y f g text more (Err e) h one = broken_of_more x y f g text more one

-- a text behind one that was taken
pub goes_on : {A E : Type 0} (x y z : Option (List ℕ)) (f g h : ℕ) (text more : List ℕ) (result : Result A E) → HandsOver x y f g text []
    → HandsText y z g h more result → HandsText x z f h (text ++ more) result
goes_on x y z f g h text more (Ok a) one two = handed_on x y z f g h (text ++ more) more [] (handed_of_more x y f g text [] more one) two
goes_on x y z f g h text more (Err e) one two = broken_on x y z f g h (text ++ more) more (handed_of_more x y f g text [] more one) two

-- a text that broke off behind a part that was taken
pub fails_on : {A E : Type 0} (x y z : Option (List ℕ)) (f g h : ℕ) (text left : List ℕ) (result : Result A E) → IsErr result → HandsOver x y f g text left
    → BreaksOff y z g h left → HandsText x z f h text result
fails_on x y z f g h text left (Ok a) e one two = absurd (let g : ⊥ = cc in g)
fails_on x y z f g h text left (Err e) _ one two = broken_on x y z f g h text left one two

-- a part in front was taken, or broke off
pub part_handed : (x y : Option (List ℕ)) (f g : ℕ) (text part rest : List ℕ) → text ≡ part ++ rest → HandsOver x y f g part [] → HandsOver x y f g text rest
part_handed x y f g text part rest is one = subst (λ t. HandsOver x y f g t rest) (sym is) (handed_of_more x y f g part [] rest one)

pub part_breaks : {A E : Type 0} (x y : Option (List ℕ)) (f g : ℕ) (text part rest : List ℕ) (P : A → Type 0) (result : Result A E) → text ≡ part ++ rest → IsErr result
    → BreaksOff x y f g part → MatchResult result P (λ _. BreaksOff x y f g text)
part_breaks x y f g text part rest P (Ok a) is e one = absurd (let g : ⊥ = cc in g)
part_breaks x y f g text part rest P (Err e) is _ one = subst (λ t. BreaksOff x y f g t) (sym is) (broken_of_more x y f g part rest one)

-- the texts of what is left of a list begin with its first one
pub texts_left : {X : Type 0} (t : X → List ℕ) (xs : List X) (i : ℕ) (d item : X) → i < length xs → item ≡ get_or xs i d
    → flat_map t (drop i xs) ≡ t item ++ flat_map t (drop (i + 1) xs)
texts_left t xs i d item h is =
    ap (flat_map t) (drop-cons xs i d h) ∙ (λ k. t (sym is k) ++ flat_map t (drop (sym (add-one i) k) xs))

-- the next of a list's texts is taken
pub next_handed : {X : Type 0} (t : X → List ℕ) (xs : List X) (i : ℕ) (d item : X) (x y z : Option (List ℕ)) (f g h : ℕ) (text : List ℕ)
    → i < length xs → item ≡ get_or xs i d → HandsOver x y f g text (flat_map t (drop i xs)) → HandsOver y z g h (t item) []
    → HandsOver x z f h text (flat_map t (drop (i + 1) xs))
next_handed t xs i d item x y z f g h text small is one two =
    handed_on x y z f g h text (flat_map t (drop i xs)) (flat_map t (drop (i + 1) xs)) one
    (subst (λ s. HandsOver y z g h s (flat_map t (drop (i + 1) xs))) (sym (texts_left t xs i d item small is))
    (handed_of_more y z g h (t item) [] (flat_map t (drop (i + 1) xs)) two))

-- or it breaks off there
pub next_fails : {A E X : Type 0} (t : X → List ℕ) (xs : List X) (i : ℕ) (d item : X) (x y z : Option (List ℕ)) (f g h : ℕ) (text : List ℕ) (result : Result A E)
    → i < length xs → item ≡ get_or xs i d → HandsOver x y f g text (flat_map t (drop i xs)) → IsErr result → HandsText y z g h (t item) result
    → HandsText x z f h text result
next_fails t xs i d item x y z f g h text (Ok a) small is one e two = absurd (let g : ⊥ = cc in g)
next_fails t xs i d item x y z f g h text (Err e) small is one _ two =
    broken_on x y z f g h text (flat_map t (drop i xs)) one
    (subst (λ s. BreaksOff y z g h s) (sym (texts_left t xs i d item small is)) (broken_of_more y z g h (t item) (flat_map t (drop (i + 1) xs)) two))

-- an error that is handed on, with nothing to come
pub breaks_last : {A E : Type 0} (x y : Option (List ℕ)) (f g : ℕ) (text : List ℕ) (result : Result A E) → IsErr result → BreaksOff x y f g text
    → HandsText x y f g text result
breaks_last x y f g text (Ok a) e one = absurd (let g : ⊥ = cc in g)
breaks_last x y f g text (Err e) h one = one

-- the same in front of what was to come
pub hands_more : {A E : Type 0} (x y : Option (List ℕ)) (f g : ℕ) (text more : List ℕ) (result : Result A E) → IsErr result → HandsText x y f g text result
    → HandsText x y f g (text ++ more) result
hands_more x y f g text more (Ok a) e one = absurd (let g : ⊥ = cc in g)
hands_more x y f g text more (Err e) h one = broken_of_more x y f g text more one

-- two texts that were taken
pub both_handed : (x y z : Option (List ℕ)) (f g h : ℕ) (text more : List ℕ) → HandsOver x y f g text [] → HandsOver y z g h more [] → HandsOver x z f h (text ++ more) []
both_handed x y z f g h text more one two = handed_on x y z f g h (text ++ more) more [] (handed_of_more x y f g text [] more one) two

-- the first text of a list is taken
pub first_handed : {X : Type 0} (t : X → List ℕ) (xs : List X) (x y : Option (List ℕ)) (f g : ℕ) (text whole : List ℕ)
    → whole ≡ text ++ flat_map t xs → HandsOver x y f g text [] → HandsOver x y f g whole (flat_map t (drop 0 xs))
first_handed t xs x y f g text whole is one = subst (λ s. HandsOver x y f g s (flat_map t xs)) (sym is) (handed_of_more x y f g text [] (flat_map t xs) one)

-- the same of another form of a text
pub hands_same : {A E : Type 0} (x y : Option (List ℕ)) (f g : ℕ) (text other : List ℕ) (result : Result A E) → text ≡ other
    → HandsText x y f g text result → HandsText x y f g other result
hands_same x y f g text other result e h = subst (λ t. HandsText x y f g t result) e h

-- the two digits of a byte
abbrev pub byte_hex : ℕ → List ℕ
byte_hex b = hex_of (b ∷ [])

-- a field, an element and a pair behind others
abbrev pub next_field : ℤ × Value → List ℕ
next_field f = (codes "," ++ number_and_letter f.0 (codes "=")) ++ tree_text (tree_of f.1)

abbrev pub next_item : Value → List ℕ
next_item x = codes "," ++ tree_text (tree_of x)

abbrev pub next_pair : Value × Value → List ℕ
next_pair p = (codes "," ++ tree_text (tree_of p.0)) ++ (codes "=" ++ tree_text (tree_of p.1))

pub fields_are_flat : (fields : List (ℤ × Value)) → flat_map next_field fields ≡ further_fields (field_trees (map field_tree fields))
fields_are_flat [] = refl
fields_are_flat (f ∷ fields) = field_in_front f.0 (tree_text (tree_of f.1)) _ _ (fields_are_flat fields)
  where
    field_in_front : (id : ℤ) (value left right : List ℕ) → left ≡ right
        → (codes "," ++ (number_and_letter id (codes "=") ++ value)) ++ left ≡ codes "," ++ (decimal_of id ++ (codes "=" ++ (value ++ right)))
    field_in_front id value left right e =
        ap (λ t. codes "," ++ t)
        (append_assoc (decimal_of id ++ codes "=") value left ∙ append_assoc (decimal_of id) (codes "=") (value ++ left)
        ∙ ap (λ t. decimal_of id ++ (codes "=" ++ (value ++ t))) e)

pub items_are_flat : (items : List Value) → flat_map next_item items ≡ further_items (item_trees (map tree_of items))
items_are_flat [] = refl
items_are_flat (x ∷ items) = ap (λ t. codes "," ++ (tree_text (tree_of x) ++ t)) (items_are_flat items)

pub pairs_are_flat : (pairs : List (Value × Value)) → flat_map next_pair pairs ≡ further_pairs (pair_trees (map pair_tree pairs))
pairs_are_flat [] = refl
pairs_are_flat (p ∷ pairs) =
    let key : List ℕ = tree_text (tree_of p.0) in
    let value : List ℕ = tree_text (tree_of p.1) in
    ap (λ t. codes "," ++ t)
    (append_assoc key (codes "=" ++ value) (flat_map next_pair pairs) ∙ ap (λ t. key ++ (codes "=" ++ (value ++ t))) (pairs_are_flat pairs))

-- the text of all begins with that of the first
listed_begin : (fields : List (ℤ × Value)) (first : ℤ × Value) (more : List (ℤ × Value)) → fields ≡ first ∷ more
    → listed_fields (field_trees (map field_tree fields)) ≡ (number_and_letter first.0 (codes "=") ++ tree_text (tree_of first.1)) ++ flat_map next_field more
listed_begin fields first more is =
    let id : List ℕ = decimal_of first.0 in
    let value : List ℕ = tree_text (tree_of first.1) in
    ap (λ fs. listed_fields (field_trees (map field_tree fs))) is
    ∙ ap (λ t. id ++ (codes "=" ++ (value ++ t))) (sym (fields_are_flat more))
    ∙ sym (append_assoc (id ++ codes "=") value (flat_map next_field more) ∙ append_assoc id (codes "=") (value ++ flat_map next_field more))

-- what opens a struct, and its fields
abbrev pub opened_fields : List (ℤ × Value) → List ℕ
opened_fields fields = codes "{" ++ listed_fields (field_trees (map field_tree fields))

abbrev pub first_field : ℤ × Value → List ℕ
first_field f = (codes "{" ++ number_and_letter f.0 (codes "=")) ++ tree_text (tree_of f.1)

pub fields_begin : (fields : List (ℤ × Value)) (first : ℤ × Value) (more : List (ℤ × Value)) → fields ≡ first ∷ more
    → opened_fields fields ≡ first_field first ++ flat_map next_field more
fields_begin fields first more is = ap (λ t. codes "{" ++ t) (listed_begin fields first more is)

pub items_begin : (items : List Value) (first : Value) (more : List Value) → items ≡ first ∷ more
    → listed_items (item_trees (map tree_of items)) ≡ tree_text (tree_of first) ++ flat_map next_item more
items_begin items first more is =
    ap (λ xs. listed_items (item_trees (map tree_of xs))) is ∙ ap (λ t. tree_text (tree_of first) ++ t) (sym (items_are_flat more))

pub pairs_begin : (pairs : List (Value × Value)) (first : Value × Value) (more : List (Value × Value)) → pairs ≡ first ∷ more
    → listed_pairs (pair_trees (map pair_tree pairs)) ≡ (tree_text (tree_of first.0) ++ (codes "=" ++ tree_text (tree_of first.1))) ++ flat_map next_pair more
pairs_begin pairs first more is =
    let key : List ℕ = tree_text (tree_of first.0) in
    let value : List ℕ = tree_text (tree_of first.1) in
    ap (λ ps. listed_pairs (pair_trees (map pair_tree ps))) is
    ∙ ap (λ t. key ++ (codes "=" ++ (value ++ t))) (sym (pairs_are_flat more))
    ∙ sym (append_assoc key (codes "=" ++ value) (flat_map next_pair more))

-- nothing is there to be taken
pub nothing_handed : (x : Option (List ℕ)) (f : ℕ) (text : List ℕ) → text ≡ [] → HandsOver x x f f text []
nothing_handed x f text none =
    let kept = none_taken x [] in
    subst (λ t. HandsOver x x f f t []) (sym none) (record { front = kept.front; taken = kept.taken; whole = kept.whole; kept = refl })

-- the text of none
pub no_fields_told : (fields : List (ℤ × Value)) → length fields ≡ 0 → codes "{" ≡ opened_fields fields
no_fields_told [] none = refl
no_fields_told (f ∷ fields) none = absurd (omega (arith, none))

pub no_items_told : (items : List Value) → length items ≡ 0 → listed_items (item_trees (map tree_of items)) ≡ []
no_items_told [] none = refl
no_items_told (x ∷ items) none = absurd (omega (arith, none))

pub no_pairs_told : (pairs : List (Value × Value)) → length pairs ≡ 0 → listed_pairs (pair_trees (map pair_tree pairs)) ≡ []
no_pairs_told [] none = refl
no_pairs_told (p ∷ pairs) none = absurd (omega (arith, none))
