-- Numbers by place, one more at a time.
use Rattle.std.proofs.Common.{◌≡◌, ◌≢◌, ◌⊎◌, ◌≤◌, ◌<◌, ◌+◌, ℕ, zero, suc, ◌==◌, eqb, Bool, true, false, inl, inr, List, [], ◌∷◌, ◌++◌, map, length, get_or, take, slice_get, Option, None, Some, is_some, refl, ap, sym, subst, ◌∙◌, arith, zero-add}
use Rattle.std.specs.Prelude.{◌&&◌}
use Rattle.std.specs.Option.{option_or}
use Rattle.std.specs.List.{position_from}
use Rattle.std.specs.Map.{lookup}
use Rattle.std.proofs.lemmas.List.{length-take-le, get_or_default}
use Rattle.std.proofs.lemmas.Bool.Decides.{eqb_tells}
use Rattle.indexmap.specs.IndexMap.{get, insert_entry}
use Rattle.indexmap.proofs.CallerLemmas.{insert_entry-new}
use Rattle.idl_token.specs.declared.Place.{Place}
use Rattle.idl_include.specs.Program.{Program}
use Rattle.idl_include.specs.Numbering.{Filed}
use Rattle.idl_include.specs.Spots.{GivenValue, values_of}
use Rattle.idl_include.specs.ConstNames.{same_place, value_number}
use Rattle.idl_names.specs.declared.spot.GivenTree.{GivenTree}
use Rattle.idl_names.specs.NameMaps.{number_if}
use Rattle.idl_names.specs.SpotsIn.{filed_value}
use Rattle.idl_names.proofs.Numbered.{none_from_test, behind, position_one_more}
use Rattle.idl_names.proofs.Marked.{taken_more}
use Rattle.idl_names.proofs.Found.{position_map}
use Rattle.idl_names.proofs.Based.{take_past}
use Rattle.const_evaluator.specs.declared.places.ValuePlaces.{ValuePlaces}
use Rattle.const_evaluator.specs.Places.{PlaceKey, PlaceMap, is_key_of, number_of_place, HasNewPlace, number_at_place, ArePlaces}

-- ---- one place more

one_behind : (test : PlaceKey → Bool) (es : List (PlaceKey × ℕ)) (k : PlaceKey) (v : ℕ) → lookup test (es ++ (k, v) ∷ []) ≡ option_or (lookup test es) (number_if (test k) v)
one_behind test [] k v = refl
one_behind test (e ∷ es) k v = behind (test e.0) e.1 (lookup test es) (lookup test (es ++ (k, v) ∷ [])) (number_if (test k) v) (one_behind test es k v)

pub new_place : (old new : PlaceMap) (file : ℕ) (owner : Place) (number : ℕ) → is_some (number_of_place old file owner) ≡ false
    → new.entries ≡ insert_entry (λ (x y : PlaceKey). ((x.0 == y.0) && (x.1 == y.1)) && (x.2 == y.2)) old.entries (file, owner.line, owner.column) number
    → HasNewPlace file owner number old new
new_place old new file owner number gone entries =
    let eq : PlaceKey → PlaceKey → Bool = λ x y. ((x.0 == y.0) && (x.1 == y.1)) && (x.2 == y.2) in
    let k : PlaceKey = (file, owner.line, owner.column) in
    let none : get eq old k ≡ None = none_from_test (number_of_place old file owner) gone in
    record {
      absent = none;
      found = λ f other. ap (lookup (is_key_of f other)) (entries ∙ insert_entry-new eq old k number none) ∙ one_behind (is_key_of f other) old.entries k number;
    }

-- ---- given values, one after another

-- a value is given for what stands at a place in a file
abbrev pub is_given_at : ℕ → Place → GivenTree → Bool
is_given_at file owner v = (v.file == file) && same_place v.owner owner

eqb_either_way : (a b : ℕ) → eqb a b ≡ eqb b a
eqb_either_way a b = by (eqb_tells a b) (eqb_tells b a)
  where
    by : ((eqb a b ≡ true) × (a ≡ b)) ⊎ ((eqb a b ≡ false) × (a ≢ b)) → ((eqb b a ≡ true) × (b ≡ a)) ⊎ ((eqb b a ≡ false) × (b ≢ a)) → eqb a b ≡ eqb b a
    by (inl (t, e)) (inl (u, f)) = t ∙ sym u
    by (inl (t, e)) (inr (u, f)) = absurd (f (sym e))
    by (inr (t, e)) (inl (u, f)) = absurd (e (sym f))
    by (inr (t, e)) (inr (u, f)) = t ∙ sym u

and_right : (a b c : Bool) → ((a && b) && c) ≡ (a && (b && c))
and_right true b c = refl
and_right false b c = refl

at_as_given : (file : ℕ) (owner : Place) (v : GivenTree) → is_key_of file owner (v.file, v.owner.line, v.owner.column) ≡ is_given_at file owner v
at_as_given file owner v =
    and_right (file == v.file) (owner.line == v.owner.line) (owner.column == v.owner.column)
    ∙ (λ i. eqb_either_way file v.file i && (eqb_either_way owner.line v.owner.line i && eqb_either_way owner.column v.owner.column i))

-- numbers by place are those of the first values
abbrev pub FindsPlaces : PlaceMap → List GivenTree → Type 0
FindsPlaces m values = (file : ℕ) (owner : Place) → number_of_place m file owner ≡ position_from (is_given_at file owner) 0 values

-- each of so many values has its own place
abbrev pub HaveOwnPlaces : PlaceMap → List GivenTree → ℕ → Type 0
HaveOwnPlaces m values count =
    (k : ℕ) (d : GivenTree) → k < count → number_of_place m (get_or values k d).file (get_or values k d).owner ≡ Some k

pub found_next : (values : List GivenTree) (n number : ℕ) (x : GivenTree) (old new : PlaceMap) → n < length values → x ≡ get_or values n x → number ≡ n
    → HasNewPlace x.file x.owner number old new → FindsPlaces old (take n values) → FindsPlaces new (take (n + 1) values)
found_next values n number x old new l here counted more so_far file owner =
    let test : GivenTree → Bool = is_given_at file owner in
    let place : number ≡ 0 + length (take n values) = counted ∙ sym (zero-add (length (take n values)) ∙ length-take-le n values (omega arith)) in
    more.found file owner
    ∙ (λ i. option_or (so_far file owner i) (number_if (at_as_given file owner x i) (place i)))
    ∙ sym (position_one_more test 0 (take n values) x)
    ∙ ap (position_from test 0) (sym (taken_more values n x l here))

same_itself : (a : ℕ) → eqb a a ≡ true
same_itself a = by (eqb_tells a a)
  where
    by : ((eqb a a ≡ true) × (a ≡ a)) ⊎ ((eqb a a ≡ false) × (a ≢ a)) → eqb a a ≡ true
    by (inl (t, e)) = t
    by (inr (t, n)) = absurd (n refl)

is_key_of_itself : (file : ℕ) (owner : Place) → is_key_of file owner (file, owner.line, owner.column) ≡ true
is_key_of_itself file owner = λ i. (same_itself file i && same_itself owner.line i) && same_itself owner.column i

kept_or : {A : Type 0} (o : Option A) (p : Option A) (x : A) → o ≡ Some x → option_or o p ≡ Some x
kept_or None p x e = absurd (let no : ⊥ = cc in no)
kept_or (Some y) p x e = e

pub own_next : (values : List GivenTree) (n number : ℕ) (x : GivenTree) (old new : PlaceMap) → n < length values → x ≡ get_or values n x → number ≡ n
    → HasNewPlace x.file x.owner number old new → HaveOwnPlaces old values n → HaveOwnPlaces new values (n + 1)
own_next values n number x old new l here counted more so_far k d near = by (eqb_tells k n)
  where
    by : ((eqb k n ≡ true) × (k ≡ n)) ⊎ ((eqb k n ≡ false) × (k ≢ n)) → number_of_place new (get_or values k d).file (get_or values k d).owner ≡ Some k
    by (inl (t, e)) =
        let same : get_or values k d ≡ x = ap (λ j. get_or values j d) e ∙ get_or_default values n d x l ∙ sym here in
        ap (λ (v : GivenTree). number_of_place new v.file v.owner) same
        ∙ more.found x.file x.owner
        ∙ (λ i. option_or (more.absent i) (number_if (is_key_of_itself x.file x.owner i) number))
        ∙ ap Some (counted ∙ sym e)
    by (inr (t, ne)) =
        more.found (get_or values k d).file (get_or values k d).owner
        ∙ kept_or (number_of_place old (get_or values k d).file (get_or values k d).owner)
        (number_if (is_key_of (get_or values k d).file (get_or values k d).owner (x.file, x.owner.line, x.owner.column)) number) k
        (so_far k d (omega arith))

-- ---- all of them

mapped_at : {A B : Type 0} (f : A → B) (xs : List A) (k : ℕ) (v : B) → slice_get (map f xs) k ≡ Some v → (x : A) × (k < length xs) × (get_or xs k x ≡ x) × (f x ≡ v)
mapped_at f [] k v e = absurd (let no : ⊥ = cc in no)
mapped_at f (x ∷ xs) zero v e = (x, omega arith, refl, cc)
mapped_at f (x ∷ xs) (suc k) v e = let r = mapped_at f xs k v e in (r.0, omega arith, r.2, r.3)

pub all_placed : (values : List GivenTree) (places : ValuePlaces) (n : ℕ) → length values ≤ n → FindsPlaces places.numbers (take n values) → HaveOwnPlaces places.numbers values n
    → (program : Program) → map filed_value values ≡ values_of program → ArePlaces program places
unfolding value_number
all_placed values places n past found own program are =
    let all : FindsPlaces places.numbers values = subst (FindsPlaces places.numbers) (take_past values n past) found in
    let numbers : (file : ℕ) (owner : Place) → number_at_place places file owner ≡ value_number program file owner =
    λ file owner.
    all file owner
    ∙ sym (position_map filed_value (λ (v : Filed GivenValue). (v.file == file) && same_place v.item.owner owner) 0 values)
    ∙ ap (position_from (λ (v : Filed GivenValue). (v.file == file) && same_place v.item.owner owner) 0) are in
    record {
      numbers = numbers;
      own = λ which v e.
          let r = mapped_at filed_value values which v (ap (λ (vs : List (Filed GivenValue)). slice_get vs which) are ∙ e) in
          sym (numbers v.file v.item.owner)
          ∙ ap (λ (w : Filed GivenValue). number_of_place places.numbers w.file w.item.owner) (sym r.3)
          ∙ ap (λ (g : GivenTree). number_of_place places.numbers g.file g.owner) (sym r.2)
          ∙ own which r.0 (omega (arith, r.1));
    }
