-- The pass over the values of a program, by the list of its values.
use Rattle.std.proofs.Common.{◌≡◌, ◌≤◌, ◌<◌, ◌+◌, ℕ, zero, suc, arith, List, [], ◌∷◌, ◌++◌, length, get_or, map, take, drop, slice_get, Option, None, Some, refl, ap, sym, subst, ◌∙◌}
use Rattle.std.specs.List.{AllByRecursion, AllZip, cons_option, filter_map}
use Rattle.std.proofs.lemmas.List.{map-append, take_more}
use Rattle.thrift_value.specs.declared.value.Value.{Value}
use Rattle.thrift_value.specs.Tree.{Tree}
use Rattle.thrift_value.specs.TreeOf.{tree_of}
use Rattle.idl_token.specs.declared.Place.{Place}
use Rattle.idl_include.specs.Program.{Program}
use Rattle.idl_include.specs.Numbering.{Filed}
use Rattle.idl_include.specs.Spots.{GivenValue, Spotted, given_name, type_use, parent_use, typedef_spot, field_spot, thrown_spot, enum_value_spot, struct_spot, service_spot, function_spot, value_spot, Spot, spots_of, value_at, values_of}
use Rattle.check_model.specs.Worths.{ConstFlaw, Worth, valued, flawed}
use Rattle.check_model.specs.Evaluation.{given_worth}
use Rattle.check_model.specs.Passes.{bad_constant, HasConstFlaw}
use Rattle.check_model.specs.FirstFlaw.{ProgramFlaw, IsValueFlaw, IsClearAt, FindsNothing, IsFirstOf}
use Rattle.check_model.proofs.FirstOnes.{somes, none_some, heads, rests}
use Rattle.check_model.proofs.Meanings.{one_meaning}
use Rattle.check_model.proofs.OneSchema.{one_partial}
use Rattle.idl_names.specs.declared.spot.GivenTree.{GivenTree}
use Rattle.idl_names.specs.SpotsIn.{filed_value}
use Rattle.check_passes.specs.declared.faults.CheckFault.{CheckFault}
use Rattle.check_passes.specs.Faults.{TellsFlaw}
use Rattle.check_passes.specs.Given.{HasOwnWorth, IsFlawAt, AreGivenValues, AreWorth}
use Rattle.check_passes.proofs.InOrder.{tells_more}
use Rattle.check_passes.proofs.FirstSpots.{split_here, whole}

-- ---- what is picked from a list

-- an item from which one of the picked items comes, between those from which those before and behind it come
record PickedAt {A B : Type 0} (pick : A → Option B) (xs : List A) (front : List B) (y : B) : Type 0 where
  before : List A
  item : A
  after : List A
  split : xs ≡ before ++ item ∷ after
  here : pick item ≡ Some y
  those : filter_map pick before ≡ front

module _ {A B : Type 0} (pick : A → Option B) where
  -- the first item is passed over, and is that from which this one comes, or an earlier one comes from it
  passed_over : (x : A) (xs : List A) (front : List B) (y : B) → pick x ≡ None → PickedAt pick xs front y → PickedAt pick (x ∷ xs) front y
  passed_over x xs front y p rest = record {
    before = x ∷ rest.before;
    item = rest.item;
    after = rest.after;
    split = λ i. x ∷ rest.split i;
    here = rest.here;
    those = ap (λ (o : Option B). cons_option o (filter_map pick rest.before)) p ∙ rest.those;
  }

  taken_first : (x : A) (xs : List A) (y : B) → pick x ≡ Some y → PickedAt pick (x ∷ xs) [] y
  taken_first x xs y p = record { before = []; item = x; after = xs; split = refl; here = p; those = refl }

  taken_before : (x : A) (xs : List A) (z : B) (front : List B) (y : B) → pick x ≡ Some z → PickedAt pick xs front y → PickedAt pick (x ∷ xs) (z ∷ front) y
  taken_before x xs z front y p rest = record {
    before = x ∷ rest.before;
    item = rest.item;
    after = rest.after;
    split = λ i. x ∷ rest.split i;
    here = rest.here;
    those = ap (λ (o : Option B). cons_option o (filter_map pick rest.before)) p ∙ (λ i. z ∷ rest.those i);
  }

  -- where those behind the first item are told
  Rest : List A → Type 0
  Rest xs = (front : List B) (y : B) (back : List B) → filter_map pick xs ≡ front ++ y ∷ back → PickedAt pick xs front y

  picked_by : (x : A) (xs : List A) → Rest xs → (o : Option B) (front : List B) (y : B) (back : List B) → pick x ≡ o
      → cons_option o (filter_map pick xs) ≡ front ++ y ∷ back → PickedAt pick (x ∷ xs) front y
  unfolding Rest
  picked_by x xs rest None front y back p e = passed_over x xs front y p (rest front y back e)
  picked_by x xs rest (Some z) [] y back p e = taken_first x xs y (p ∙ ap Some (heads z y (filter_map pick xs) back e))
  picked_by x xs rest (Some z) (w ∷ front) y back p e =
      taken_before x xs w front y (p ∙ ap Some (heads z w (filter_map pick xs) (front ++ y ∷ back) e))
      (rest front y back (rests z w (filter_map pick xs) (front ++ y ∷ back) e))

  picked_at : (xs : List A) → Rest xs
  unfolding Rest
  picked_at [] [] y back e = cc
  picked_at [] (z ∷ front) y back e = cc
  picked_at (x ∷ xs) front y back e = picked_by x xs (picked_at xs) (pick x) front y back refl e

  -- what holds of those that are picked, and of the others, holds of all
  module _ (P : A → Type 0) (Q : B → Type 0) (others : (x : A) → pick x ≡ None → P x) (picked : (x : A) (y : B) → pick x ≡ Some y → Q y → P x) where
    one_more : (x : A) (xs : List A) → (AllByRecursion Q (filter_map pick xs) → AllByRecursion P xs) → (o : Option B) → pick x ≡ o
        → AllByRecursion Q (cons_option o (filter_map pick xs)) → AllByRecursion P (x ∷ xs)
    one_more x xs rest None e h = (others x e, rest h)
    one_more x xs rest (Some y) e h = (picked x y e h.0, rest h.1)

    all_picked : (xs : List A) → AllByRecursion Q (filter_map pick xs) → AllByRecursion P xs
    all_picked [] h = tt
    all_picked (x ∷ xs) h = one_more x xs (all_picked xs) (pick x) refl h

zipped : {A B : Type 0} (R : A → B → Type 0) (xs : List A) (ys : List B) → AllZip R xs ys → AllByRecursion (λ x. (y : B) × R x y) xs
zipped R [] ys h = tt
zipped R (x ∷ xs) [] h = absurd h
zipped R (x ∷ xs) (y ∷ ys) h = ((y, h.0), zipped R xs ys h.1)

-- ---- values

-- what is worth something has no fault
module _ (program : Program) (file : ℕ) (v : GivenValue) (value : Tree) (at : Place) (flaw : ConstFlaw)
    (p : HasOwnWorth program (record { file = file; item = v }) value) (q : HasConstFlaw program file v at flaw) where
  both : ◌≡◌ {A = Worth Tree} (valued value p.worth.count) (flawed at flaw)
  both =
      sym p.worth.worth
      ∙ (λ i. given_worth (record { program = program; schema = one_partial program p.schema q.schema p.made q.made i })
      (somes p.worth.which q.which (sym p.worth.number ∙ q.number) i)
      (one_meaning program file v.type p.kind q.kind p.means q.means i) (record { file = file; item = v }))
      ∙ q.worth

  not_both : ⊥
  not_both = let e = both in cc

own_clear : (program : Program) (v : Filed GivenValue) (value : Tree) → HasOwnWorth program v value → (flaw : ProgramFlaw) → IsFlawAt program v flaw → ⊥
own_clear program v value p flaw q = not_both program v.file v.item value q.0 q.1 p q.2

-- at a spot without a value no value is at fault
no_value : (program : Program) (file : ℕ) (shown : Spotted) (flaw : ProgramFlaw) → value_at file shown ≡ None → IsValueFlaw program file shown flaw → ⊥
no_value program file (value_spot v) flaw e q = cc
no_value program file (given_name _ _) flaw e q = q
no_value program file (type_use _) flaw e q = q
no_value program file (parent_use _) flaw e q = q
no_value program file (typedef_spot _ _) flaw e q = q
no_value program file (field_spot _ _) flaw e q = q
no_value program file (thrown_spot _) flaw e q = q
no_value program file (enum_value_spot _ _) flaw e q = q
no_value program file (struct_spot _ _) flaw e q = q
no_value program file (service_spot _ _) flaw e q = q
no_value program file (function_spot _ _ _) flaw e q = q

-- at a spot with a value this one is at fault
at_value : (program : Program) (file : ℕ) (shown : Spotted) (v : Filed GivenValue) → value_at file shown ≡ Some v
    → (flaw : ProgramFlaw) → (IsFlawAt program v flaw → IsValueFlaw program file shown flaw) × (IsValueFlaw program file shown flaw → IsFlawAt program v flaw)
at_value program file (value_spot w) v e flaw =
    let P : Filed GivenValue → Type 0 = λ x. IsFlawAt program x flaw in
    let same : ◌≡◌ {A = Filed GivenValue} (record { file = file; item = w }) v = somes (record { file = file; item = w }) v e in
    (λ h. subst P (sym same) h, λ h. subst P same h)
at_value program file (given_name _ _) v e flaw = absurd (none_some v e)
at_value program file (type_use _) v e flaw = absurd (none_some v e)
at_value program file (parent_use _) v e flaw = absurd (none_some v e)
at_value program file (typedef_spot _ _) v e flaw = absurd (none_some v e)
at_value program file (field_spot _ _) v e flaw = absurd (none_some v e)
at_value program file (thrown_spot _) v e flaw = absurd (none_some v e)
at_value program file (enum_value_spot _ _) v e flaw = absurd (none_some v e)
at_value program file (struct_spot _ _) v e flaw = absurd (none_some v e)
at_value program file (service_spot _ _) v e flaw = absurd (none_some v e)
at_value program file (function_spot _ _ _) v e flaw = absurd (none_some v e)

-- the value of a spot, if it shows one
abbrev pub value_there : Spot → Option (Filed GivenValue)
value_there s = value_at s.file s.shows

-- a given value is worth something
abbrev pub IsWorthSome : Program → Filed GivenValue → Type 0
IsWorthSome program v = (value : Tree) × HasOwnWorth program v value

clear_spots : (program : Program) (spots : List Spot) → AllByRecursion (IsWorthSome program) (filter_map value_there spots)
    → AllByRecursion (IsClearAt program bad_constant) spots
clear_spots program spots h =
    all_picked value_there (IsClearAt program bad_constant) (IsWorthSome program)
    (λ s e flaw q. no_value program s.file s.shows flaw e q)
    (λ s v e w flaw q. own_clear program v w.0 w.1 flaw ((at_value program s.file s.shows v e flaw).1 q)) spots h

pub no_value_flaw : (program : Program) (trees : List Tree) → AllZip (HasOwnWorth program) (values_of program) trees → FindsNothing program bad_constant
unfolding values_of
no_value_flaw program trees h = clear_spots program (spots_of program) (zipped (HasOwnWorth program) (values_of program) trees h)

pub first_value_flaw : (program : Program) (front back : List (Filed GivenValue)) (v : Filed GivenValue) (trees : List Tree) (flaw : ProgramFlaw)
    → values_of program ≡ front ++ v ∷ back → AllZip (HasOwnWorth program) front trees → IsFlawAt program v flaw → IsFirstOf program bad_constant flaw
unfolding values_of Rest
first_value_flaw program front back v trees flaw e h q =
    let p = picked_at value_there (spots_of program) front v back e in
    let P : List (Filed GivenValue) → Type 0 = λ xs. AllByRecursion (IsWorthSome program) xs in
    record {
      before = p.before;
      spot = p.item;
      after = p.after;
      split = p.split;
      clear = clear_spots program p.before (subst P (sym p.those) (zipped (HasOwnWorth program) front trees h));
      here = (at_value program p.item.file p.item.shows v p.here flaw).0 q;
    }

-- one more value is worth something
pub zip_behind : {A B : Type 0} (R : A → B → Type 0) (xs : List A) (ys : List B) (x : A) (y : B) → AllZip R xs ys → R x y → AllZip R (xs ++ x ∷ []) (ys ++ y ∷ [])
zip_behind R [] [] x y h r = (r, tt)
zip_behind R [] (z ∷ ys) x y h r = absurd h
zip_behind R (w ∷ xs) [] x y h r = absurd h
zip_behind R (w ∷ xs) (z ∷ ys) x y h r = (h.0, zip_behind R xs ys x y h.1 r)

-- ---- values in memory

mapped_at : {A B : Type 0} (f : A → B) (xs : List A) (i : ℕ) (x : A) → i < length xs → x ≡ get_or xs i x → slice_get (map f xs) i ≡ Some (f x)
mapped_at f [] i x l e = absurd (omega arith)
mapped_at f (y ∷ xs) zero x l e = ap (λ z. Some (f z)) (sym e)
mapped_at f (y ∷ xs) (suc i) x l e = mapped_at f xs i x (omega arith) e

module _ (program : Program) (values : List GivenTree) (given : AreGivenValues program values) (i which : ℕ) (x : GivenTree) (l : i < length values)
    (here : x ≡ get_or values i x) (number : which ≡ i) where
  pub given_there : slice_get (values_of program) which ≡ Some (filed_value x)
  given_there =
      (λ j. slice_get (sym given j) (number j)) ∙ mapped_at filed_value values i x l here

  taken : map filed_value (take (i + 1) values) ≡ map filed_value (take i values) ++ filed_value x ∷ []
  taken = ap (map filed_value) (take_more values i x l ∙ ap (λ (y : GivenTree). take i values ++ y ∷ []) (sym here)) ∙ map-append filed_value (take i values) (x ∷ [])

  split : values_of program ≡ map filed_value (take i values) ++ filed_value x ∷ map filed_value (drop (suc i) values)
  split = sym given ∙ ap (map filed_value) (split_here values i x l here) ∙ map-append filed_value (take i values) (x ∷ drop (suc i) values)

  pub worth_next : (made new : List Value) (value : Value) → AllZip (HasOwnWorth program) (map filed_value (take i values)) (map tree_of made)
      → HasOwnWorth program (filed_value x) (tree_of value) → new ≡ made ++ value ∷ []
      → AllZip (HasOwnWorth program) (map filed_value (take (i + 1) values)) (map tree_of new)
  worth_next made new value h w e =
      let trees : map tree_of new ≡ map tree_of made ++ tree_of value ∷ [] = ap (map tree_of) e ∙ map-append tree_of made (value ∷ []) in
      let all = zip_behind (HasOwnWorth program) (map filed_value (take i values)) (map tree_of made) (filed_value x) (tree_of value) h w in
      let P : List (Filed GivenValue) → Type 0 = λ vs. AllZip (HasOwnWorth program) vs (map tree_of new) in
      let Q : List Tree → Type 0 = λ ts. AllZip (HasOwnWorth program) (map filed_value (take i values) ++ filed_value x ∷ []) ts in
      subst P (sym taken) (subst Q (sym trees) all)

  pub fault_met : (made : List Value) (fault : CheckFault) → AllZip (HasOwnWorth program) (map filed_value (take i values)) (map tree_of made)
      → TellsFlaw (IsFlawAt program (filed_value x)) fault → TellsFlaw (IsFirstOf program bad_constant) fault
  fault_met made fault h f =
      tells_more (IsFlawAt program (filed_value x)) (IsFirstOf program bad_constant)
      (λ flaw q. first_value_flaw program (map filed_value (take i values)) (map filed_value (drop (suc i) values)) (filed_value x) (map tree_of made) flaw split h q)
      fault f

pub all_worth : (program : Program) (values : List GivenTree) (n : ℕ) (made : List Value) → AreGivenValues program values → length values ≤ n
    → AllZip (HasOwnWorth program) (map filed_value (take n values)) (map tree_of made) → AreWorth program made
all_worth program values n made given past h =
    let P : List (Filed GivenValue) → Type 0 = λ vs. AllZip (HasOwnWorth program) vs (map tree_of made) in
    let all = subst P (ap (map filed_value) (whole values n past) ∙ given) h in
    (no_value_flaw program (map tree_of made) all, all)
