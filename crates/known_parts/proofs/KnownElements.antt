-- The loops over items and pairs of which what is known is kept.
use Rattle.std.proofs.Common.{◌≡◌, ℕ, suc, List, [], ◌∷◌, ◌++◌, map, Option, Some, None, Result, Ok, Err, refl, sym, ap, ◌∙◌}
use Rattle.std.specs.Option.{option_map}
use Rattle.thrift_value.specs.declared.tag.Tag.{Tag}
use Rattle.thrift_value.specs.declared.value.Value.{Value}
use Rattle.thrift_value.specs.declared.value.Items.{Items}
use Rattle.thrift_value.specs.declared.value.Pairs.{Pairs}
use Rattle.thrift_value.specs.declared.wire_fault.WireFault.{WireFault}
use Rattle.thrift_value.specs.Tree.{Tree, ItemTrees, no_items, item, PairTrees, no_pairs, pair}
use Rattle.thrift_value.specs.TreeOf.{tree_of, items_of, pairs_of, pair_tree, item_trees, pair_trees, items_tree, pairs_tree}
use Rattle.schema.specs.PlainKind.{PlainKind}
use Rattle.schema.specs.PlainSchema.{PlainSchema}
use Rattle.wire_model.specs.Answering.{FaultsOrNoMemory, FaultsExactly}
use Rattle.wire_model.specs.AtPlace.{passed_over}
use Rattle.wire_model.specs.Decoder.{Unread, go_on, give}
use Rattle.wire_model.specs.Reading.{value, item_list, pair_list}
use Rattle.wire_model.specs.Wire.{Wire}
use Rattle.wire_walk.specs.Walked.{prepended}
use Rattle.wire_walk.proofs.Faults.{fails_on, fails_same, on_ok}
use Rattle.wire_walk.proofs.PassedOver.{Reading}
use Rattle.known_parts.specs.Known.{known, known_items, known_pairs, with_known_item, with_known_pair}
use Rattle.known_parts.specs.KnownAt.{read_seen, both_known}
use Rattle.known_parts.proofs.Knowing.{seen_fails, passed_fails}

pub map_at_end : {A B : Type 0} (f : A → B) (xs : List A) (x : A) → map f (xs ++ x ∷ []) ≡ map f xs ++ f x ∷ []
map_at_end f [] x = refl
map_at_end f (y ∷ ys) x = ap (λ zs. f y ∷ zs) (map_at_end f ys x)

-- elements in front of those that are known
abbrev pub before_known : {E T : Type 0} → (E → T → T) → List E → Option T → Option T
before_known cons xs more = option_map (prepended cons xs) more

-- one element in front, where it is known
abbrev pub one_known : {E T : Type 0} → (E → T → T) → Option E → Option T → Option T
one_known cons None more = None
one_known cons (Some x) more = option_map (cons x) more

module _ {E T : Type 0} (cons : E → T → T) where
  joined : (xs : List E) (x : E) (more : T) → prepended cons (xs ++ x ∷ []) more ≡ prepended cons xs (cons x more)
  joined [] x more = refl
  joined (y ∷ ys) x more = ap (cons y) (joined ys x more)

  pub none_before : (r : Reading (Option T)) → read_seen (before_known cons []) r ≡ r
  none_before (Ok x) = by x.0 x.1
    where
      by : (o : Option T) (rest : Unread) → read_seen (before_known cons []) (Ok (o, rest)) ≡ Ok (o, rest)
      by None rest = refl
      by (Some t) rest = refl
  none_before (Err fault) = refl

  pub one_before : (xs : List E) (x : E) (r : Reading (Option T)) → read_seen (before_known cons (xs ++ x ∷ [])) r ≡ read_seen (before_known cons xs) (read_seen (one_known cons (Some x)) r)
  one_before xs x (Ok y) = by y.0 y.1
    where
      by : (o : Option T) (rest : Unread) → read_seen (before_known cons (xs ++ x ∷ [])) (Ok (o, rest)) ≡ read_seen (before_known cons xs) (read_seen (one_known cons (Some x)) (Ok (o, rest)))
      by None rest = refl
      by (Some t) rest = ap (λ z. Ok (Some z, rest)) (joined xs x t)
  one_before xs x (Err fault) = refl

-- nothing is known, and this is left
abbrev pub nothing_known : {T : Type 0} → Unread → Reading (Option T)
nothing_known rest = Ok (None, rest)

-- where one is not known, the others only count as passed over
pub others_passed : {A E T : Type 0} (see : A → Option T) (cons : E → T → T) (xs : List E) (r : Reading A) (after : Unread) → passed_over r ≡ Ok after
    → read_seen (before_known cons xs) (read_seen (one_known cons None) (read_seen see r)) ≡ nothing_known after
others_passed see cons xs (Ok y) after e = let same : y.1 ≡ after = cc in ap nothing_known same
others_passed see cons xs (Err f) after e = absurd cc

module _ (wire : Wire) (s : PlainSchema) (levels : ℕ) where
  -- items

  abbrev pub known_item_list : PlainKind → Tag → ℕ → Unread → Reading (Option ItemTrees)
  known_item_list kind tag count rest = read_seen (λ all. known_items s all kind) (item_list (value wire levels) tag count rest)

  abbrev pub AreItemsKnown : PlainKind → Tag → List Value → ℕ → Unread → ℕ → Unread → Type 0
  AreItemsKnown kind tag items count rest all start =
      read_seen (before_known item (map tree_of items)) (known_item_list kind tag count rest) ≡ known_item_list kind tag all start

  item_put : (part : Option Tree) (more : Option ItemTrees) → with_known_item part more ≡ one_known item part more
  item_put None more = refl
  item_put (Some x) None = refl
  item_put (Some x) (Some ys) = refl

  items_opened : (kind : PlainKind) (v : Reading Tree) (k : Unread → Reading ItemTrees)
      → read_seen (λ all. known_items s all kind) (go_on v (λ x r. go_on (k r) (λ more. give (item x more))))
      ≡ go_on (read_seen (λ x. known s x kind) v) (λ part r. read_seen (one_known item part) (read_seen (λ all. known_items s all kind) (k r)))
  items_opened kind (Ok x) k = by (k x.1)
    where
      by : (m : Reading ItemTrees) → read_seen (λ all. known_items s all kind) (go_on m (λ more. give (item x.0 more)))
          ≡ read_seen (one_known item (known s x.0 kind)) (read_seen (λ all. known_items s all kind) m)
      by (Ok y) = ap (λ o. Ok (o, y.1)) (item_put (known s x.0 kind) (known_items s y.0 kind))
      by (Err fault) = refl
  items_opened kind (Err fault) k = refl

  next_items : (kind : PlainKind) (tag : Tag) (left : ℕ) (rest : Unread) → known_item_list kind tag (suc left) rest
      ≡ go_on (read_seen (λ x. known s x kind) (value wire levels tag rest)) (λ part r. read_seen (one_known item part) (known_item_list kind tag left r))
  unfolding item_list
  next_items kind tag left rest = items_opened kind (value wire levels tag rest) (item_list (value wire levels) tag left)

  module _ (kind : PlainKind) (tag : Tag) where
    pub known_items_begin : (items : List Value) (count all : ℕ) (start : Unread) → items ≡ [] → count ≡ all → AreItemsKnown kind tag items count start all start
    known_items_begin items count all start none same =
        (λ i. read_seen (before_known item (map tree_of (none i))) (known_item_list kind tag (same i) start)) ∙ none_before item (known_item_list kind tag all start)

    pub known_items_fail : (items : List Value) (count left : ℕ) (rest : Unread) (all : ℕ) (start : Unread) (fault : WireFault) → count ≡ suc left
        → AreItemsKnown kind tag items count rest all start → FaultsOrNoMemory fault (read_seen (λ x. known s x kind) (value wire levels tag rest))
        → FaultsOrNoMemory fault (known_item_list kind tag all start)
    known_items_fail items count left rest all start fault more kept h =
        fails_same fault _ _ ((λ i. read_seen (before_known item (map tree_of items)) (known_item_list kind tag (sym more i) rest)) ∙ kept)
        (seen_fails (before_known item (map tree_of items)) fault (known_item_list kind tag (suc left) rest)
        (fails_same fault _ _ (sym (next_items kind tag left rest)) (fails_on fault (read_seen (λ x. known s x kind) (value wire levels tag rest)) _ h)))

    pub known_items_step : (items new : List Value) (x : Value) (part : Option Value) (count left : ℕ) (rest behind : Unread) (all : ℕ) (start : Unread) → count ≡ suc left
        → AreItemsKnown kind tag items count rest all start → part ≡ Some x → read_seen (λ y. known s y kind) (value wire levels tag rest) ≡ Ok (option_map tree_of part, behind)
        → new ≡ items ++ x ∷ [] → AreItemsKnown kind tag new left behind all start
    known_items_step items new x part count left rest behind all start more kept there read is =
        let opened : known_item_list kind tag (suc left) rest ≡ read_seen (one_known item (Some (tree_of x))) (known_item_list kind tag left behind) =
        next_items kind tag left rest ∙ on_ok (read_seen (λ y. known s y kind) (value wire levels tag rest)) _ (option_map tree_of part) behind read
        ∙ ap (λ o. read_seen (one_known item (option_map tree_of o)) (known_item_list kind tag left behind)) there in
        (λ i. read_seen (before_known item ((ap (map tree_of) is ∙ map_at_end tree_of items x) i)) (known_item_list kind tag left behind))
        ∙ one_before item (map tree_of items) (tree_of x) (known_item_list kind tag left behind)
        ∙ ap (read_seen (before_known item (map tree_of items))) (sym opened)
        ∙ (λ i. read_seen (before_known item (map tree_of items)) (known_item_list kind tag (sym more i) rest)) ∙ kept

    misfit_opened : (items : List Value) (part : Option Value) (count left : ℕ) (rest behind : Unread) (all : ℕ) (start : Unread) → count ≡ suc left
        → AreItemsKnown kind tag items count rest all start → part ≡ None → read_seen (λ y. known s y kind) (value wire levels tag rest) ≡ Ok (option_map tree_of part, behind)
        → known_item_list kind tag all start ≡ read_seen (before_known item (map tree_of items)) (read_seen (one_known item None) (known_item_list kind tag left behind))
    misfit_opened items part count left rest behind all start more kept there read =
        sym kept ∙ (λ i. read_seen (before_known item (map tree_of items)) (known_item_list kind tag (more i) rest))
        ∙ ap (read_seen (before_known item (map tree_of items)))
        (next_items kind tag left rest ∙ on_ok (read_seen (λ y. known s y kind) (value wire levels tag rest)) _ (option_map tree_of part) behind read
        ∙ ap (λ o. read_seen (one_known item (option_map tree_of o)) (known_item_list kind tag left behind)) there)

    pub known_items_misfit : (items : List Value) (part : Option Value) (count left : ℕ) (rest behind after : Unread) (all : ℕ) (start : Unread) → count ≡ suc left
        → AreItemsKnown kind tag items count rest all start → part ≡ None → read_seen (λ y. known s y kind) (value wire levels tag rest) ≡ Ok (option_map tree_of part, behind)
        → passed_over (item_list (value wire levels) tag left behind) ≡ Ok after → known_item_list kind tag all start ≡ nothing_known after
    known_items_misfit items part count left rest behind after all start more kept there read e =
        misfit_opened items part count left rest behind all start more kept there read
        ∙ others_passed (λ all. known_items s all kind) item (map tree_of items) (item_list (value wire levels) tag left behind) after e

    pub known_items_misfit_fail : (items : List Value) (part : Option Value) (count left : ℕ) (rest behind : Unread) (all : ℕ) (start : Unread) (fault : WireFault) → count ≡ suc left
        → AreItemsKnown kind tag items count rest all start → part ≡ None → read_seen (λ y. known s y kind) (value wire levels tag rest) ≡ Ok (option_map tree_of part, behind)
        → FaultsExactly fault (passed_over (item_list (value wire levels) tag left behind)) → FaultsOrNoMemory fault (known_item_list kind tag all start)
    known_items_misfit_fail items part count left rest behind all start fault more kept there read h =
        fails_same fault _ _ (sym (misfit_opened items part count left rest behind all start more kept there read))
        (passed_fails fault (item_list (value wire levels) tag left behind) _
        (λ f e. ap (λ m. read_seen (before_known item (map tree_of items)) (read_seen (one_known item None) (read_seen (λ all. known_items s all kind) m))) e) h)

    joined_items : (xs : List Tree) → prepended item xs no_items ≡ item_trees xs
    joined_items [] = refl
    joined_items (x ∷ xs) = ap (item x) (joined_items xs)

    pub known_items_end : (items : List Value) (made : Items) (count : ℕ) (rest : Unread) (all : ℕ) (start : Unread) → count ≡ 0
        → AreItemsKnown kind tag items count rest all start → items_of made ≡ items → known_item_list kind tag all start ≡ Ok (Some (items_tree made), rest)
    unfolding item_list
    known_items_end items made count rest all start none kept is =
        sym kept ∙ (λ i. read_seen (before_known item (map tree_of items)) (known_item_list kind tag (none i) rest))
        ∙ ap (λ t. Ok (Some t, rest)) (joined_items (map tree_of items) ∙ ap (λ xs. item_trees (map tree_of xs)) (sym is))
