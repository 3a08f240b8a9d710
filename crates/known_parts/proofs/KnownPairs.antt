-- The loop over pairs of which what is known is kept.
use Rattle.std.proofs.Common.{◌≡◌, ℕ, suc, List, [], ◌∷◌, ◌++◌, map, Option, Some, None, Result, Ok, Err, refl, sym, ap, ◌∙◌}
use Rattle.std.specs.Option.{option_map}
use Rattle.thrift_value.specs.declared.tag.Tag.{Tag}
use Rattle.thrift_value.specs.declared.value.Value.{Value}
use Rattle.thrift_value.specs.declared.value.Pairs.{Pairs}
use Rattle.thrift_value.specs.declared.wire_fault.WireFault.{WireFault}
use Rattle.thrift_value.specs.Tree.{Tree, PairTrees, no_pairs, pair}
use Rattle.thrift_value.specs.TreeOf.{tree_of, pairs_of, pair_tree, pair_trees, pairs_tree}
use Rattle.schema.specs.PlainKind.{PlainKind}
use Rattle.schema.specs.PlainSchema.{PlainSchema}
use Rattle.wire_model.specs.Answering.{FaultsOrNoMemory, FaultsExactly}
use Rattle.wire_model.specs.AtPlace.{passed_over}
use Rattle.wire_model.specs.Decoder.{Unread, go_on, give}
use Rattle.wire_model.specs.Reading.{value, pair_list}
use Rattle.wire_model.specs.Wire.{Wire}
use Rattle.wire_walk.specs.Walked.{prepended}
use Rattle.wire_walk.proofs.Faults.{fails_on, fails_same, on_ok}
use Rattle.wire_walk.proofs.PassedOver.{Reading}
use Rattle.known_parts.specs.Known.{known, known_pairs, with_known_pair}
use Rattle.known_parts.specs.KnownAt.{read_seen, both_known}
use Rattle.known_parts.proofs.Knowing.{seen_fails, passed_fails}
use Rattle.known_parts.proofs.KnownElements.{map_at_end, before_known, one_known, none_before, one_before, nothing_known, others_passed}

-- a pair in front of others
abbrev pub pair_of : Tree × Tree → PairTrees → PairTrees
pair_of p more = pair p.0 p.1 more

module _ (wire : Wire) (s : PlainSchema) (levels : ℕ) where
  abbrev pub known_pair_list : PlainKind → PlainKind → Tag → Tag → ℕ → Unread → Reading (Option PairTrees)
  known_pair_list key value_kind k v count rest = read_seen (λ all. known_pairs s all key value_kind) (pair_list (value wire levels) k v count rest)

  abbrev pub ArePairsKnown : PlainKind → PlainKind → Tag → Tag → List (Value × Value) → ℕ → Unread → ℕ → Unread → Type 0
  ArePairsKnown key value_kind k v pairs count rest all start =
      read_seen (before_known pair_of (map pair_tree pairs)) (known_pair_list key value_kind k v count rest) ≡ known_pair_list key value_kind k v all start

  pair_put : (key value : Option Tree) (more : Option PairTrees) → with_known_pair key value more ≡ one_known pair_of (both_known key value) more
  pair_put None value more = refl
  pair_put (Some x) None more = refl
  pair_put (Some x) (Some y) None = refl
  pair_put (Some x) (Some y) (Some ps) = refl

  module _ (key value_kind : PlainKind) where
    -- what is known of what follows a key
    abbrev behind_known_key : (Unread → Reading Tree) → (Unread → Reading PairTrees) → Option Tree → Unread → Reading (Option PairTrees)
    behind_known_key v k part r =
        go_on (read_seen (λ x. known s x value_kind) (v r)) (λ other behind. read_seen (one_known pair_of (both_known part other)) (read_seen (λ all. known_pairs s all key value_kind) (k behind)))

    pairs_opened : (u : Reading Tree) (v : Unread → Reading Tree) (k : Unread → Reading PairTrees)
        → read_seen (λ all. known_pairs s all key value_kind) (go_on u (λ x r. go_on (v r) (λ y q. go_on (k q) (λ more. give (pair x y more)))))
        ≡ go_on (read_seen (λ x. known s x key) u) (behind_known_key v k)
    pairs_opened (Ok x) v k = by_value (v x.1)
      where
        by_rest : (y : Tree) (m : Reading PairTrees) → read_seen (λ all. known_pairs s all key value_kind) (go_on m (λ more. give (pair x.0 y more)))
            ≡ read_seen (one_known pair_of (both_known (known s x.0 key) (known s y value_kind))) (read_seen (λ all. known_pairs s all key value_kind) m)
        by_rest y (Ok z) = ap (λ o. Ok (o, z.1)) (pair_put (known s x.0 key) (known s y value_kind) (known_pairs s z.0 key value_kind))
        by_rest y (Err fault) = refl

        by_value : (w : Reading Tree) → read_seen (λ all. known_pairs s all key value_kind) (go_on w (λ y q. go_on (k q) (λ more. give (pair x.0 y more))))
            ≡ go_on (read_seen (λ y. known s y value_kind) w) (λ other behind. read_seen (one_known pair_of (both_known (known s x.0 key) other)) (read_seen (λ all. known_pairs s all key value_kind) (k behind)))
        by_value (Ok y) = by_rest y.0 (k y.1)
        by_value (Err fault) = refl
    pairs_opened (Err fault) v k = refl

    module _ (k v : Tag) where
      next_pairs : (left : ℕ) (rest : Unread) → known_pair_list key value_kind k v (suc left) rest
          ≡ go_on (read_seen (λ x. known s x key) (value wire levels k rest)) (behind_known_key (value wire levels v) (pair_list (value wire levels) k v left))
      unfolding pair_list
      next_pairs left rest = pairs_opened (value wire levels k rest) (value wire levels v) (pair_list (value wire levels) k v left)

      pub known_pairs_begin : (pairs : List (Value × Value)) (count all : ℕ) (start : Unread) → pairs ≡ [] → count ≡ all → ArePairsKnown key value_kind k v pairs count start all start
      known_pairs_begin pairs count all start none same =
          (λ i. read_seen (before_known pair_of (map pair_tree (none i))) (known_pair_list key value_kind k v (same i) start)) ∙ none_before pair_of (known_pair_list key value_kind k v all start)

      pub known_key_fails : (pairs : List (Value × Value)) (count left : ℕ) (rest : Unread) (all : ℕ) (start : Unread) (fault : WireFault) → count ≡ suc left
          → ArePairsKnown key value_kind k v pairs count rest all start → FaultsOrNoMemory fault (read_seen (λ x. known s x key) (value wire levels k rest))
          → FaultsOrNoMemory fault (known_pair_list key value_kind k v all start)
      known_key_fails pairs count left rest all start fault more kept h =
          fails_same fault _ _ ((λ i. read_seen (before_known pair_of (map pair_tree pairs)) (known_pair_list key value_kind k v (sym more i) rest)) ∙ kept)
          (seen_fails (before_known pair_of (map pair_tree pairs)) fault (known_pair_list key value_kind k v (suc left) rest)
          (fails_same fault _ _ (sym (next_pairs left rest)) (fails_on fault (read_seen (λ x. known s x key) (value wire levels k rest)) _ h)))

      -- what is read where the key's part is known
      key_opened : (part : Option Value) (left : ℕ) (rest between : Unread) → read_seen (λ x. known s x key) (value wire levels k rest) ≡ Ok (option_map tree_of part, between)
          → known_pair_list key value_kind k v (suc left) rest ≡ behind_known_key (value wire levels v) (pair_list (value wire levels) k v left) (option_map tree_of part) between
      key_opened part left rest between read =
          next_pairs left rest ∙ on_ok (read_seen (λ x. known s x key) (value wire levels k rest)) (behind_known_key (value wire levels v) (pair_list (value wire levels) k v left)) (option_map tree_of part) between read

      pub known_value_fails : (pairs : List (Value × Value)) (part : Option Value) (count left : ℕ) (rest between : Unread) (all : ℕ) (start : Unread) (fault : WireFault) → count ≡ suc left
          → ArePairsKnown key value_kind k v pairs count rest all start → read_seen (λ x. known s x key) (value wire levels k rest) ≡ Ok (option_map tree_of part, between)
          → FaultsOrNoMemory fault (read_seen (λ x. known s x value_kind) (value wire levels v between)) → FaultsOrNoMemory fault (known_pair_list key value_kind k v all start)
      known_value_fails pairs part count left rest between all start fault more kept read h =
          fails_same fault _ _ ((λ i. read_seen (before_known pair_of (map pair_tree pairs)) (known_pair_list key value_kind k v (sym more i) rest)) ∙ kept)
          (seen_fails (before_known pair_of (map pair_tree pairs)) fault (known_pair_list key value_kind k v (suc left) rest)
          (fails_same fault _ _ (sym (key_opened part left rest between read)) (fails_on fault (read_seen (λ x. known s x value_kind) (value wire levels v between)) _ h)))

      -- what is read where both parts are known
      both_opened : (part other : Option Value) (found : Option (Value × Value)) (left : ℕ) (rest between behind : Unread) → read_seen (λ x. known s x key) (value wire levels k rest) ≡ Ok (option_map tree_of part, between)
          → read_seen (λ x. known s x value_kind) (value wire levels v between) ≡ Ok (option_map tree_of other, behind)
          → option_map pair_tree found ≡ both_known (option_map tree_of part) (option_map tree_of other)
          → known_pair_list key value_kind k v (suc left) rest ≡ read_seen (one_known pair_of (option_map pair_tree found)) (known_pair_list key value_kind k v left behind)
      both_opened part other found left rest between behind first second both =
          key_opened part left rest between first
          ∙ on_ok (read_seen (λ x. known s x value_kind) (value wire levels v between)) _ (option_map tree_of other) behind second
          ∙ ap (λ o. read_seen (one_known pair_of o) (known_pair_list key value_kind k v left behind)) (sym both)

      pub known_pairs_step : (pairs new : List (Value × Value)) (p : Value × Value) (part other : Option Value) (found : Option (Value × Value)) (count left : ℕ) (rest between behind : Unread) (all : ℕ) (start : Unread)
          → count ≡ suc left → ArePairsKnown key value_kind k v pairs count rest all start
          → read_seen (λ x. known s x key) (value wire levels k rest) ≡ Ok (option_map tree_of part, between)
          → read_seen (λ x. known s x value_kind) (value wire levels v between) ≡ Ok (option_map tree_of other, behind)
          → option_map pair_tree found ≡ both_known (option_map tree_of part) (option_map tree_of other) → found ≡ Some p
          → new ≡ pairs ++ p ∷ [] → ArePairsKnown key value_kind k v new left behind all start
      known_pairs_step pairs new p part other found count left rest between behind all start more kept first second both there is =
          let opened : known_pair_list key value_kind k v (suc left) rest ≡ read_seen (one_known pair_of (Some (pair_tree p))) (known_pair_list key value_kind k v left behind) =
          both_opened part other found left rest between behind first second both
          ∙ ap (λ o. read_seen (one_known pair_of (option_map pair_tree o)) (known_pair_list key value_kind k v left behind)) there in
          (λ i. read_seen (before_known pair_of ((ap (map pair_tree) is ∙ map_at_end pair_tree pairs p) i)) (known_pair_list key value_kind k v left behind))
          ∙ one_before pair_of (map pair_tree pairs) (pair_tree p) (known_pair_list key value_kind k v left behind)
          ∙ ap (read_seen (before_known pair_of (map pair_tree pairs))) (sym opened)
          ∙ (λ i. read_seen (before_known pair_of (map pair_tree pairs)) (known_pair_list key value_kind k v (sym more i) rest)) ∙ kept

      misfit_opened : (pairs : List (Value × Value)) (part other : Option Value) (found : Option (Value × Value)) (count left : ℕ) (rest between behind : Unread) (all : ℕ) (start : Unread)
          → count ≡ suc left → ArePairsKnown key value_kind k v pairs count rest all start
          → read_seen (λ x. known s x key) (value wire levels k rest) ≡ Ok (option_map tree_of part, between)
          → read_seen (λ x. known s x value_kind) (value wire levels v between) ≡ Ok (option_map tree_of other, behind)
          → option_map pair_tree found ≡ both_known (option_map tree_of part) (option_map tree_of other) → found ≡ None
          → known_pair_list key value_kind k v all start ≡ read_seen (before_known pair_of (map pair_tree pairs)) (read_seen (one_known pair_of None) (known_pair_list key value_kind k v left behind))
      misfit_opened pairs part other found count left rest between behind all start more kept first second both there =
          sym kept ∙ (λ i. read_seen (before_known pair_of (map pair_tree pairs)) (known_pair_list key value_kind k v (more i) rest))
          ∙ ap (read_seen (before_known pair_of (map pair_tree pairs)))
          (both_opened part other found left rest between behind first second both ∙ ap (λ o. read_seen (one_known pair_of (option_map pair_tree o)) (known_pair_list key value_kind k v left behind)) there)

      pub known_pairs_misfit : (pairs : List (Value × Value)) (part other : Option Value) (found : Option (Value × Value)) (count left : ℕ) (rest between behind after : Unread) (all : ℕ) (start : Unread)
          → count ≡ suc left → ArePairsKnown key value_kind k v pairs count rest all start
          → read_seen (λ x. known s x key) (value wire levels k rest) ≡ Ok (option_map tree_of part, between)
          → read_seen (λ x. known s x value_kind) (value wire levels v between) ≡ Ok (option_map tree_of other, behind)
          → option_map pair_tree found ≡ both_known (option_map tree_of part) (option_map tree_of other) → found ≡ None
          → passed_over (pair_list (value wire levels) k v left behind) ≡ Ok after → known_pair_list key value_kind k v all start ≡ nothing_known after
      known_pairs_misfit pairs part other found count left rest between behind after all start more kept first second both there e =
          misfit_opened pairs part other found count left rest between behind all start more kept first second both there
          ∙ others_passed (λ all. known_pairs s all key value_kind) pair_of (map pair_tree pairs) (pair_list (value wire levels) k v left behind) after e

      pub known_pairs_misfit_fail : (pairs : List (Value × Value)) (part other : Option Value) (found : Option (Value × Value)) (count left : ℕ) (rest between behind : Unread) (all : ℕ) (start : Unread) (fault : WireFault)
          → count ≡ suc left → ArePairsKnown key value_kind k v pairs count rest all start
          → read_seen (λ x. known s x key) (value wire levels k rest) ≡ Ok (option_map tree_of part, between)
          → read_seen (λ x. known s x value_kind) (value wire levels v between) ≡ Ok (option_map tree_of other, behind)
          → option_map pair_tree found ≡ both_known (option_map tree_of part) (option_map tree_of other) → found ≡ None
          → FaultsExactly fault (passed_over (pair_list (value wire levels) k v left behind)) → FaultsOrNoMemory fault (known_pair_list key value_kind k v all start)
      known_pairs_misfit_fail pairs part other found count left rest between behind all start fault more kept first second both there h =
          fails_same fault _ _ (sym (misfit_opened pairs part other found count left rest between behind all start more kept first second both there))
          (passed_fails fault (pair_list (value wire levels) k v left behind) _
          (λ f e. ap (λ m. read_seen (before_known pair_of (map pair_tree pairs)) (read_seen (one_known pair_of None) (read_seen (λ all. known_pairs s all key value_kind) m))) e) h)

      joined_pairs : (xs : List (Tree × Tree)) → prepended pair_of xs no_pairs ≡ pair_trees xs
      joined_pairs [] = refl
      joined_pairs (p ∷ ps) = ap (pair p.0 p.1) (joined_pairs ps)

      pub known_pairs_end : (pairs : List (Value × Value)) (made : Pairs) (count : ℕ) (rest : Unread) (all : ℕ) (start : Unread) → count ≡ 0
          → ArePairsKnown key value_kind k v pairs count rest all start → pairs_of made ≡ pairs → known_pair_list key value_kind k v all start ≡ Ok (Some (pairs_tree made), rest)
      unfolding pair_list
      known_pairs_end pairs made count rest all start none kept is =
          sym kept ∙ (λ i. read_seen (before_known pair_of (map pair_tree pairs)) (known_pair_list key value_kind k v (none i) rest))
          ∙ ap (λ t. Ok (Some t, rest)) (joined_pairs (map pair_tree pairs) ∙ ap (λ xs. pair_trees (map pair_tree xs)) (sym is))
