-- Steps of the loops that test whether a value is tidy.
use Rattle.std.specs.Prelude.{◌↔◌, IsTrue}
use Rattle.std.proofs.Common.{◌≡◌, ℕ, ℤ, Bool, true, false, true≢false, ◌+◌, ◌-◌, ◌≤◌, ◌<◌, ◌<ℤ◌, List, [], ◌∷◌, length, drop, get_or, map, Less, sym, ap, ◌∙◌, subst, arith, rules, length-drop}
use Rattle.std.proofs.lemmas.Int.{ints}
use Rattle.std.proofs.lemmas.List.{drop_more}
use denote.Enum.Bare.{sameb, differs_true, differs_false}
use mathlib.Core.Bool.{not}
use Rattle.thrift_value.specs.contracts.tag.Tag.{the_type}
use Rattle.thrift_value.specs.declared.tag.Tag.{Tag}
use Rattle.thrift_value.specs.Tree.{Tree, of_struct, of_map, of_set, FieldTrees, no_fields, field, ItemTrees, no_items, item, PairTrees, no_pairs, pair}
use Rattle.thrift_value.specs.Order.{tree_cmp}
use Rattle.thrift_value.specs.Tidy.{IsTidy, AreTidyFields, AreTidyItems, AreTidyPairs, IsBelowIds, IsBelowItems, IsBelowKeys, AreRisingFields, AreRisingItems, AreRisingPairs}
use Rattle.thrift_value.specs.TreeOf.{tree_of, field_tree, pair_tree, field_trees, item_trees, pair_trees}
use Rattle.thrift_value.proofs.TotalOrder.{tree_cmp_total}

-- whether a tag differs from the wanted one
pub tag_is : (found tag wanted : Tag) (differs : Bool) → found ≡ tag → differs ≡ not (sameb the_type found wanted) → differs ≡ false → tag ≡ wanted
tag_is found tag wanted differs is flag off = sym is ∙ differs_false the_type (search rules) found wanted (sym flag ∙ off)

pub tag_is_not : (found tag wanted : Tag) (differs : Bool) → found ≡ tag → differs ≡ not (sameb the_type found wanted) → differs ≡ true → tag ≡ wanted → ⊥
tag_is_not found tag wanted differs is flag on same = differs_true the_type found wanted (sym flag ∙ on) (is ∙ same)

-- what is below an id, a value or a key is below all that it is below
IsBelowIds-lower : (i j : ℤ) (more : FieldTrees) → i <ℤ j → IsBelowIds j more → IsBelowIds i more
IsBelowIds-lower i j no_fields low below = tt
IsBelowIds-lower i j (field k _ more) low below = (omega (arith, ints, below.0), IsBelowIds-lower i j more low below.1)

IsBelowItems-lower : (x y : Tree) (more : ItemTrees) → tree_cmp x y ≡ Less → IsBelowItems y more → IsBelowItems x more
IsBelowItems-lower x y no_items low below = tt
IsBelowItems-lower x y (item z more) low below = (tree_cmp_total.trans x y z low below.0, IsBelowItems-lower x y more low below.1)

IsBelowKeys-lower : (x y : Tree) (more : PairTrees) → tree_cmp x y ≡ Less → IsBelowKeys y more → IsBelowKeys x more
IsBelowKeys-lower x y no_pairs low below = tt
IsBelowKeys-lower x y (pair z _ more) low below = (tree_cmp_total.trans x y z low below.0, IsBelowKeys-lower x y more low below.1)

-- a fact of a list that follows from one of each two neighbours
pub record IsChain {A : Type 0} (R : A → A → Type 0) (P : List A → Type 0) : Type 0 where
  pub none : P []
  pub one : (x : A) → P (x ∷ [])
  pub more : (x y : A) (xs : List A) → R x y → P (y ∷ xs) → P (x ∷ (y ∷ xs))
  pub tail : (x : A) (xs : List A) → P (x ∷ xs) → P xs

pub rising_fields : IsChain (λ f g. f.0 <ℤ g.0) (λ fs. AreRisingFields (field_trees (map field_tree fs)))
rising_fields = record {
  none = tt;
  one = λ _. (tt, tt);
  more = λ f g fs low rest. ((low, IsBelowIds-lower f.0 g.0 (field_trees (map field_tree fs)) low rest.0), rest);
  tail = λ _ _ all. all.1;
}

pub rising_items : IsChain (λ x y. tree_cmp (tree_of x) (tree_of y) ≡ Less) (λ xs. AreRisingItems (item_trees (map tree_of xs)))
rising_items = record {
  none = tt;
  one = λ _. (tt, tt);
  more = λ x y xs low rest. ((low, IsBelowItems-lower (tree_of x) (tree_of y) (item_trees (map tree_of xs)) low rest.0), rest);
  tail = λ _ _ all. all.1;
}

pub rising_pairs : IsChain (λ p q. tree_cmp (tree_of p.0) (tree_of q.0) ≡ Less) (λ ps. AreRisingPairs (pair_trees (map pair_tree ps)))
rising_pairs = record {
  none = tt;
  one = λ _. (tt, tt);
  more = λ p q ps low rest. ((low, IsBelowKeys-lower (tree_of p.0) (tree_of q.0) (pair_trees (map pair_tree ps)) low rest.0), rest);
  tail = λ _ _ all. all.1;
}

module _ {A : Type 0} {R : A → A → Type 0} {P : List A → Type 0} (is : IsChain R P) (W : Type 0) where
  -- one neighbour further
  pub chained : (xs : List A) (i : ℕ) (x y : A) → 1 ≤ i → i < length xs → x ≡ get_or xs (i - 1) x → y ≡ get_or xs i y → R x y
      → P (drop (i - 1) xs) ↔ W → P (drop ((i + 1) - 1) xs) ↔ W
  chained xs i x y low high here there next kept =
      let back : i - 1 + 1 ≡ i = omega arith in
      let on : (i + 1) - 1 ≡ i = omega arith in
      let two : drop i xs ≡ y ∷ drop (i + 1) xs = drop_more xs i y high ∙ ap (λ z. z ∷ drop (i + 1) xs) (sym there) in
      let one : drop (i - 1) xs ≡ x ∷ drop i xs =
      drop_more xs (i - 1) x (omega arith) ∙ ap (λ z. z ∷ drop (i - 1 + 1) xs) (sym here) ∙ ap (λ k. x ∷ drop k xs) back in
      let all : drop (i - 1) xs ≡ x ∷ (y ∷ drop (i + 1) xs) = one ∙ ap (λ zs. x ∷ zs) two in
      let rest : drop ((i + 1) - 1) xs ≡ y ∷ drop (i + 1) xs = ap (λ k. drop k xs) on ∙ two in (
        λ p. kept.0 (subst P (sym all) (is.more x y (drop (i + 1) xs) next (subst P rest p))),
        λ w. subst P (sym rest) (is.tail x (y ∷ drop (i + 1) xs) (subst P all (kept.1 w))),
      )

  short : (zs : List A) → length zs ≤ 1 → P zs
  short [] h = is.none
  short (x ∷ []) h = is.one x
  short (x ∷ (y ∷ zs)) h = absurd (omega arith)

  -- no neighbour is left
  pub chained_all : (xs : List A) (i : ℕ) → 1 ≤ i → length xs ≤ i → P (drop (i - 1) xs) ↔ W → W
  chained_all xs i low high kept = kept.0 (short (drop (i - 1) xs) (omega (arith, length-drop (i - 1) xs)))

-- a tidy struct, and a tidy set
pub tidy_struct : (x : Tree) (fields : FieldTrees) → x ≡ of_struct fields → IsTidy x ↔ (AreTidyFields fields × AreRisingFields fields)
tidy_struct x _ is = (
  λ tidy. let at = subst IsTidy is tidy in ((at.tagged, at.in_order.1), at.in_order.0),
  λ h. subst IsTidy (sym is) (record { tagged = h.0.0; in_order = (h.1, h.0.1) }),
)

pub tidy_set : (x : Tree) (element : Tag) (items : ItemTrees) → x ≡ of_set element items → IsTidy x ↔ (AreTidyItems element items × AreRisingItems items)
tidy_set x element items is = (
  λ tidy. let at = subst IsTidy is tidy in ((at.tagged, at.in_order.1), at.in_order.0),
  λ h. subst IsTidy (sym is) (record { tagged = h.0.0; in_order = (h.1, h.0.1) }),
)

-- a tidy map
pub tidy_map : (x : Tree) (key value : Tag) (pairs : PairTrees) → x ≡ of_map key value pairs → IsTidy x ↔ (AreTidyPairs key value pairs × AreRisingPairs pairs)
tidy_map x key value pairs is = (
  λ tidy. let at = subst IsTidy is tidy in ((at.tagged, at.in_order.1), at.in_order.0),
  λ h. subst IsTidy (sym is) (record { tagged = h.0.0; in_order = (h.1, h.0.1) }),
)

module _ {R T W : Type 0} (both : W ↔ (T × R)) where
  -- of two tests the first has failed
  pub first_failed : (R → false ≡ true) → IsTrue false ↔ W
  first_failed not = (λ no. absurd (true≢false (sym no)), λ w. not (both.0 w).1)

  -- the first has passed, so the second decides
  pub second_decides : (b : Bool) → R → IsTrue b ↔ T → IsTrue b ↔ W
  second_decides b r decides = (λ yes. both.1 (decides.0 yes, r), λ w. decides.1 (both.0 w).0)
