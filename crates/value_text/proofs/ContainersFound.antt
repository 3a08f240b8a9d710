-- What is read as a struct, a map, a set or a list is the text of that value, and so with all values.
use Rattle.std.proofs.Common.{◌≡◌, ℕ, zero, suc, min, Bool, true, false, cond, ℤ, codes, List, [], ◌∷◌, ◌++◌, length, Option, Some, None, Result, Ok, Err, refl, sym, ap, subst, ◌∙◌, append_assoc, arith}
use Rattle.std.specs.Prelude.{FitsSigned}
use Rattle.std.specs.Int.{w16}
use Rattle.thrift_value.specs.declared.tag.Tag.{Tag}
use Rattle.thrift_value.specs.declared.tag.Tag.TheVariants as tags
use Rattle.thrift_value.specs.Tags.{tag_of}
use Rattle.thrift_value.specs.Tree.{Tree, of_struct, of_map, of_set, of_list}
use Rattle.thrift_value.specs.TreeOf.{field_trees, item_trees, pair_trees}
use Rattle.text_out.specs.Decimal.{decimal_of}
use Rattle.value_text.specs.declared.form.Form.{Form}
use Rattle.value_text.specs.declared.form.Form.TheVariants.{Alone, Holding}
use Rattle.value_text.specs.declared.form.Leaf.TheVariants.{Yes, No, Number, Double, Uuid, Quoted}
use Rattle.value_text.specs.declared.form.Container.{Container}
use Rattle.value_text.specs.declared.form.Container.TheVariants.{Struct, Map, Set, List as ListForm}
use Rattle.value_text.specs.ValueText.{tree_text, tag_word, listed_fields, listed_items, listed_pairs}
use Rattle.value_text.specs.Fronts.{◌>>=◌, behind_word, tag_or, tag_among, all_tags, tag_at, integer_at}
use Rattle.value_text.specs.Rows.{list_at}
use Rattle.value_text.specs.Reading.{form_at, is_form_wanted, is_wanted, id_comes_behind, id_at, assigned_at, field_text_at, comes_behind, item_at, last_key, has_level, pair_text_at, struct_text_at, head_text_at, map_head_at, map_at, set_at, list_value_at, container_tag, formed_at, value_by, deeper_at, value_text_at}
use Rattle.value_text.proofs.Choices.{went_on, held, one_ok}
use Rattle.value_text.proofs.RowLaws.{shown, list_found}
use Rattle.value_text.proofs.Numbers.{integer_found}
use Rattle.value_text.proofs.GoodTrees.{IsGood, FieldFits, ItemFits, PairFits, good_fields, good_items, good_pairs}
use Rattle.value_text.proofs.LeafLaws.{kind_is}
use Rattle.value_text.proofs.Shows.{show_field, show_pair, listed_fields_is, listed_items_is, listed_pairs_is}
use Rattle.value_text.proofs.ContainersAgain.{items_text, pairs_text}
use Rattle.value_text.proofs.TextsFound.{IsFound, FindsValues, past_found, form_found, bool_found, number_found, double_found, uuid_found, bytes_found, signed16}

-- ---- entries

id_found : (last : Option (ℤ × Tree)) (text : List ℕ) (z : ℤ) (rest : List ℕ) → id_at last text ≡ Ok (z, rest) → (text ≡ decimal_of z ++ rest) × FitsSigned w16 z × (id_comes_behind last z ≡ true)
unfolding id_at
id_found last text z rest e =
    let n = went_on (integer_at 32767 text) (λ n. cond (id_comes_behind last n.0) (Ok n) (Err (length n.1))) (z, rest) e in
    let found = integer_found 32767 text n.0.0 n.0.1 (omega arith) (omega arith) n.1 in
    let test = held (id_comes_behind last n.0.0) (Ok n.0) (length n.0.1) (z, rest) n.2 in
    subst (λ (y : ℤ × List ℕ). (text ≡ decimal_of y.0 ++ y.1) × FitsSigned w16 y.0 × (id_comes_behind last y.0 ≡ true)) (one_ok n.0 (z, rest) test.1) (found.0, signed16 n.0.0 found.1, test.0)

assigned_found : (most levels : ℕ) → FindsValues most levels → (wanted : Option Tag) (text : List ℕ) (x : Tree) (rest : List ℕ) → assigned_at (value_text_at most levels) wanted text ≡ Ok (x, rest)
    → (behind : List ℕ) × (text ≡ 61 ∷ behind) × IsFound wanted levels behind x rest
unfolding assigned_at
assigned_found most levels finds wanted text x rest e =
    let mark = went_on (behind_word (codes "=") text) (λ behind. value_text_at most levels wanted behind) (x, rest) e in
    (mark.0, past_found (codes "=") text mark.0 mark.1, finds wanted mark.0 x rest mark.2)

field_found : (most levels : ℕ) → FindsValues most levels → (last : Option (ℤ × Tree)) (text : List ℕ) (f : ℤ × Tree) (rest : List ℕ) → field_text_at (value_text_at most levels) last text ≡ Ok (f, rest)
    → (text ≡ show_field f ++ rest) × FieldFits levels last f
unfolding field_text_at
field_found most levels finds last text f rest e =
    let id = went_on (id_at last text) (λ id. assigned_at (value_text_at most levels) None id.1 >>= λ x. Ok ((id.0, x.0), x.1)) (f, rest) e in
    let x = went_on (assigned_at (value_text_at most levels) None id.0.1) (λ x. Ok ((id.0.0, x.0), x.1)) (f, rest) id.2 in
    let first = id_found last text id.0.0 id.0.1 id.1 in
    let value = assigned_found most levels finds None id.0.1 x.0.0 x.0.1 x.1 in
    subst (λ (y : (ℤ × Tree) × List ℕ). (text ≡ show_field y.0 ++ y.1) × FieldFits levels last y.0) (one_ok ((id.0.0, x.0.0), x.0.1) (f, rest) x.2) (
      first.0 ∙ ap (λ t. decimal_of id.0.0 ++ t) (value.1 ∙ ap (λ t. 61 ∷ t) value.2.whole) ∙ sym (append_assoc (decimal_of id.0.0) (61 ∷ tree_text x.0.0) x.0.1),
      record { rises = first.2; id = first.1; good = value.2.good },
    )

item_found : (most levels : ℕ) → FindsValues most levels → (rising : Bool) (tag : Tag) (last : Option Tree) (text : List ℕ) (x : Tree) (rest : List ℕ) → item_at rising tag (value_text_at most levels) last text ≡ Ok (x, rest)
    → (text ≡ tree_text x ++ rest) × ItemFits rising tag levels last x
unfolding item_at
item_found most levels finds false tag last text x rest e =
    let value = went_on (value_text_at most levels (Some tag) text) (λ y. Ok y) (x, rest) e in
    let found = finds (Some tag) text value.0.0 value.0.1 value.1 in
    subst (λ (y : Tree × List ℕ). (text ≡ tree_text y.0 ++ y.1) × ItemFits false tag levels last y.0) (one_ok value.0 (x, rest) value.2)
    (found.whole, record { rises = λ e. absurd cc; kind = kind_is tag (tag_of value.0.0) found.kind; good = found.good })
item_found most levels finds true tag last text x rest e =
    let value = went_on (value_text_at most levels (Some tag) text) (λ y. cond (comes_behind last y.0) (Ok y) (Err (length y.1))) (x, rest) e in
    let found = finds (Some tag) text value.0.0 value.0.1 value.1 in
    let test = held (comes_behind last value.0.0) (Ok value.0) (length value.0.1) (x, rest) value.2 in
    subst (λ (y : Tree × List ℕ). (text ≡ tree_text y.0 ++ y.1) × ItemFits true tag levels last y.0) (one_ok value.0 (x, rest) test.1)
    (found.whole, record { rises = λ _. test.0; kind = kind_is tag (tag_of value.0.0) found.kind; good = found.good })

pair_found : (most levels : ℕ) → FindsValues most levels → (key tag : Tag) (last : Option (Tree × Tree)) (text : List ℕ) (p : Tree × Tree) (rest : List ℕ) → pair_text_at levels key tag (value_text_at most levels) last text ≡ Ok (p, rest)
    → (text ≡ show_pair p ++ rest) × PairFits key tag levels last p
unfolding pair_text_at
pair_found most levels finds key tag last text p rest e =
    let value = value_text_at most levels in
    let k = went_on (cond (has_level levels tag) (item_at true key value (last_key last) text) (Err (length text))) (λ k. assigned_at value (Some tag) k.1 >>= λ x. Ok ((k.0, x.0), x.1)) (p, rest) e in
    let x = went_on (assigned_at value (Some tag) k.0.1) (λ x. Ok ((k.0.0, x.0), x.1)) (p, rest) k.2 in
    let room = held (has_level levels tag) (item_at true key value (last_key last) text) (length text) k.0 k.1 in
    let first = item_found most levels finds true key (last_key last) text k.0.0 k.0.1 room.1 in
    let second = assigned_found most levels finds (Some tag) k.0.1 x.0.0 x.0.1 x.1 in
    subst (λ (y : (Tree × Tree) × List ℕ). (text ≡ show_pair y.0 ++ y.1) × PairFits key tag levels last y.0) (one_ok ((k.0.0, x.0.0), x.0.1) (p, rest) x.2) (
      first.0 ∙ ap (λ t. tree_text k.0.0 ++ t) (second.1 ∙ ap (λ t. 61 ∷ t) second.2.whole) ∙ sym (append_assoc (tree_text k.0.0) (61 ∷ tree_text x.0.0) x.0.1),
      record { rises = first.1.rises refl; key_kind = first.1.kind; kind = kind_is tag (tag_of x.0.0) second.2.kind; key_good = first.1.good; good = second.2.good },
    )

-- ---- values that hold others

-- the text of a value of a kind and so many levels stands in front
record IsHeld (levels : ℕ) (tag : Tag) (text : List ℕ) (x : Tree) (rest : List ℕ) : Type 0 where
  whole : text ≡ tree_text x ++ rest
  good : IsGood levels x
  kind : tag_of x ≡ tag

tag_or_found : (r : Result (List ℕ) ℕ) (tag : Tag) (others : ℕ → Result (Tag × List ℕ) ℕ) (text : List ℕ) (found : Tag) (rest : List ℕ) → behind_word (tag_word tag) text ≡ r
    → ((left : ℕ) → others left ≡ Ok (found, rest) → text ≡ tag_word found ++ rest) → tag_or r tag others ≡ Ok (found, rest) → text ≡ tag_word found ++ rest
tag_or_found (Ok behind) tag others text found rest is more e =
    subst (λ (y : Tag × List ℕ). text ≡ tag_word y.0 ++ y.1) (one_ok (tag, behind) (found, rest) e) (past_found (tag_word tag) text behind is)
tag_or_found (Err left) tag others text found rest is more e = more left e

tags_found : (choices : List Tag) (furthest : ℕ) (text : List ℕ) (found : Tag) (rest : List ℕ) → tag_among choices furthest text ≡ Ok (found, rest) → text ≡ tag_word found ++ rest
tags_found [] furthest text found rest e = absurd cc
tags_found (tag ∷ choices) furthest text found rest e =
    tag_or_found (behind_word (tag_word tag) text) tag (λ left. tag_among choices (min left furthest) text) text found rest refl (λ left. tags_found choices (min left furthest) text found rest) e

tag_found : (text : List ℕ) (found : Tag) (rest : List ℕ) → tag_at text ≡ Ok (found, rest) → text ≡ tag_word found ++ rest
unfolding tag_at
tag_found text found rest e = tags_found all_tags (length text) text found rest e

struct_found : (most levels : ℕ) → FindsValues most levels → (text : List ℕ) (x : Tree) (rest : List ℕ) → struct_text_at most (value_text_at most levels) text ≡ Ok (x, rest) → IsHeld (suc levels) tags.Struct text x rest
unfolding struct_text_at
struct_found most levels finds text x rest e =
    let inside = went_on (behind_word (codes "{") text) (λ inside. list_at (field_text_at (value_text_at most levels)) 125 most inside >>= λ fields. Ok (of_struct (field_trees fields.0), fields.1)) (x, rest) e in
    let fields = went_on (list_at (field_text_at (value_text_at most levels)) 125 most inside.0) (λ fields. Ok (of_struct (field_trees fields.0), fields.1)) (x, rest) inside.2 in
    let read = list_found show_field (FieldFits levels) (field_text_at (value_text_at most levels)) 125 (field_found most levels finds) most inside.0 fields.0.0 fields.0.1 fields.1 in
    let good = good_fields levels None fields.0.0 read.1 in
    let listed = listed_fields (field_trees fields.0.0) in
    subst (λ (y : Tree × List ℕ). IsHeld (suc levels) tags.Struct text y.0 y.1) (one_ok (of_struct (field_trees fields.0.0), fields.0.1) (x, rest) fields.2)
    (record {
      whole = past_found (codes "{") text inside.0 inside.1 ∙ ap (λ t. 123 ∷ t) (read.0 ∙ ap (λ t. t ++ 125 ∷ fields.0.1) (sym (listed_fields_is fields.0.0)) ∙ sym (append_assoc listed (125 ∷ []) fields.0.1));
      good = record { tagged = good.tagged; in_order = (good.rising, good.in_order); in_range = good.in_range; depth = omega (arith, good.depth) };
      kind = refl;
    })

head_found : (word text : List ℕ) (tag : Tag) (rest : List ℕ) → head_text_at word text ≡ Ok (tag, rest) → text ≡ word ++ (tag_word tag ++ 62 ∷ 91 ∷ rest)
unfolding head_text_at
head_found word text tag rest e =
    let named = went_on (behind_word word text) (λ named. tag_at named >>= λ t. behind_word (codes ">[") t.1 >>= λ behind. Ok (t.0, behind)) (tag, rest) e in
    let t = went_on (tag_at named.0) (λ t. behind_word (codes ">[") t.1 >>= λ behind. Ok (t.0, behind)) (tag, rest) named.2 in
    let opened = went_on (behind_word (codes ">[") t.0.1) (λ behind. Ok (t.0.0, behind)) (tag, rest) t.2 in
    subst (λ (y : Tag × List ℕ). text ≡ word ++ (tag_word y.0 ++ 62 ∷ 91 ∷ y.1)) (one_ok (t.0.0, opened.0) (tag, rest) opened.2)
    (past_found word text named.0 named.1 ∙ ap (λ u. word ++ u) (tag_found named.0 t.0.0 t.0.1 t.1 ∙ ap (λ u. tag_word t.0.0 ++ u) (past_found (codes ">[") t.0.1 opened.0 opened.1)))

-- elements that were read, behind what opens them
items_whole : (word text : List ℕ) (tag : Tag) (xs : List Tree) (inside rest : List ℕ) → text ≡ word ++ (tag_word tag ++ 62 ∷ 91 ∷ inside) → inside ≡ shown tree_text xs ++ 93 ∷ rest
    → text ≡ (word ++ (tag_word tag ++ (62 ∷ 91 ∷ (listed_items (item_trees xs) ++ 93 ∷ [])))) ++ rest
items_whole word text tag xs inside rest head read =
    head ∙ ap (λ t. word ++ (tag_word tag ++ 62 ∷ 91 ∷ t)) (read ∙ ap (λ t. t ++ 93 ∷ rest) (sym (listed_items_is xs))) ∙ sym (items_text word tag (listed_items (item_trees xs)) rest)

set_found : (most levels : ℕ) → FindsValues most levels → (text : List ℕ) (x : Tree) (rest : List ℕ) → set_at most (value_text_at most levels) text ≡ Ok (x, rest) → IsHeld (suc levels) tags.Set text x rest
unfolding set_at
set_found most levels finds text x rest e =
    let head = went_on (head_text_at (codes "set<") text) (λ h. list_at (item_at true h.0 (value_text_at most levels)) 93 most h.1 >>= λ items. Ok (of_set h.0 (item_trees items.0), items.1)) (x, rest) e in
    let items = went_on (list_at (item_at true head.0.0 (value_text_at most levels)) 93 most head.0.1) (λ items. Ok (of_set head.0.0 (item_trees items.0), items.1)) (x, rest) head.2 in
    let read = list_found tree_text (ItemFits true head.0.0 levels) (item_at true head.0.0 (value_text_at most levels)) 93 (item_found most levels finds true head.0.0) most head.0.1 items.0.0 items.0.1 items.1 in
    let good = good_items true head.0.0 levels None items.0.0 read.1 in
    subst (λ (y : Tree × List ℕ). IsHeld (suc levels) tags.Set text y.0 y.1) (one_ok (of_set head.0.0 (item_trees items.0.0), items.0.1) (x, rest) items.2)
    (record {
      whole = items_whole (codes "set<") text head.0.0 items.0.0 head.0.1 items.0.1 (head_found (codes "set<") text head.0.0 head.0.1 head.1) read.0;
      good = record { tagged = good.tagged; in_order = (good.rise refl, good.in_order); in_range = good.in_range; depth = omega (arith, good.depth) };
      kind = refl;
    })

list_value_found : (most levels : ℕ) → FindsValues most levels → (text : List ℕ) (x : Tree) (rest : List ℕ) → list_value_at most (value_text_at most levels) text ≡ Ok (x, rest) → IsHeld (suc levels) tags.List text x rest
unfolding list_value_at
list_value_found most levels finds text x rest e =
    let head = went_on (head_text_at (codes "list<") text) (λ h. list_at (item_at false h.0 (value_text_at most levels)) 93 most h.1 >>= λ items. Ok (of_list h.0 (item_trees items.0), items.1)) (x, rest) e in
    let items = went_on (list_at (item_at false head.0.0 (value_text_at most levels)) 93 most head.0.1) (λ items. Ok (of_list head.0.0 (item_trees items.0), items.1)) (x, rest) head.2 in
    let read = list_found tree_text (ItemFits false head.0.0 levels) (item_at false head.0.0 (value_text_at most levels)) 93 (item_found most levels finds false head.0.0) most head.0.1 items.0.0 items.0.1 items.1 in
    let good = good_items false head.0.0 levels None items.0.0 read.1 in
    subst (λ (y : Tree × List ℕ). IsHeld (suc levels) tags.List text y.0 y.1) (one_ok (of_list head.0.0 (item_trees items.0.0), items.0.1) (x, rest) items.2)
    (record {
      whole = items_whole (codes "list<") text head.0.0 items.0.0 head.0.1 items.0.1 (head_found (codes "list<") text head.0.0 head.0.1 head.1) read.0;
      good = record { tagged = good.tagged; in_order = good.in_order; in_range = good.in_range; depth = omega (arith, good.depth) };
      kind = refl;
    })

map_head_found : (text : List ℕ) (key tag : Tag) (rest : List ℕ) → map_head_at text ≡ Ok (key, tag, rest) → text ≡ codes "map<" ++ (tag_word key ++ 44 ∷ (tag_word tag ++ 62 ∷ 123 ∷ rest))
unfolding map_head_at
map_head_found text key tag rest e =
    let named = went_on (behind_word (codes "map<") text) (λ named. tag_at named >>= λ k. behind_word (codes ",") k.1 >>= λ next. tag_at next >>= λ t. behind_word (codes ">{") t.1 >>= λ behind. Ok (k.0, t.0, behind)) (key, tag, rest) e in
    let k = went_on (tag_at named.0) (λ k. behind_word (codes ",") k.1 >>= λ next. tag_at next >>= λ t. behind_word (codes ">{") t.1 >>= λ behind. Ok (k.0, t.0, behind)) (key, tag, rest) named.2 in
    let next = went_on (behind_word (codes ",") k.0.1) (λ next. tag_at next >>= λ t. behind_word (codes ">{") t.1 >>= λ behind. Ok (k.0.0, t.0, behind)) (key, tag, rest) k.2 in
    let t = went_on (tag_at next.0) (λ t. behind_word (codes ">{") t.1 >>= λ behind. Ok (k.0.0, t.0, behind)) (key, tag, rest) next.2 in
    let opened = went_on (behind_word (codes ">{") t.0.1) (λ behind. Ok (k.0.0, t.0.0, behind)) (key, tag, rest) t.2 in
    subst (λ (y : Tag × Tag × List ℕ). text ≡ codes "map<" ++ (tag_word y.0 ++ 44 ∷ (tag_word y.1 ++ 62 ∷ 123 ∷ y.2))) (one_ok (k.0.0, t.0.0, opened.0) (key, tag, rest) opened.2)
    (past_found (codes "map<") text named.0 named.1 ∙ ap (λ u. codes "map<" ++ u) (tag_found named.0 k.0.0 k.0.1 k.1 ∙ ap (λ u. tag_word k.0.0 ++ u) (past_found (codes ",") k.0.1 next.0 next.1
    ∙ ap (λ u. 44 ∷ u) (tag_found next.0 t.0.0 t.0.1 t.1 ∙ ap (λ u. tag_word t.0.0 ++ u) (past_found (codes ">{") t.0.1 opened.0 opened.1)))))

map_found : (most levels : ℕ) → FindsValues most levels → (text : List ℕ) (x : Tree) (rest : List ℕ) → map_at most levels (value_text_at most levels) text ≡ Ok (x, rest) → IsHeld (suc levels) tags.Map text x rest
unfolding map_at
map_found most levels finds text x rest e =
    let head = went_on (map_head_at text) (λ h. list_at (pair_text_at levels h.0 h.1 (value_text_at most levels)) 125 most h.2 >>= λ pairs. Ok (of_map h.0 h.1 (pair_trees pairs.0), pairs.1)) (x, rest) e in
    let pairs = went_on (list_at (pair_text_at levels head.0.0 head.0.1 (value_text_at most levels)) 125 most head.0.2) (λ pairs. Ok (of_map head.0.0 head.0.1 (pair_trees pairs.0), pairs.1)) (x, rest) head.2 in
    let read = list_found show_pair (PairFits head.0.0 head.0.1 levels) (pair_text_at levels head.0.0 head.0.1 (value_text_at most levels)) 125 (pair_found most levels finds head.0.0 head.0.1) most head.0.2 pairs.0.0 pairs.0.1 pairs.1 in
    let good = good_pairs head.0.0 head.0.1 levels None pairs.0.0 read.1 in
    subst (λ (y : Tree × List ℕ). IsHeld (suc levels) tags.Map text y.0 y.1) (one_ok (of_map head.0.0 head.0.1 (pair_trees pairs.0.0), pairs.0.1) (x, rest) pairs.2)
    (record {
      whole = map_head_found text head.0.0 head.0.1 head.0.2 head.1
          ∙ ap (λ t. codes "map<" ++ (tag_word head.0.0 ++ 44 ∷ (tag_word head.0.1 ++ 62 ∷ 123 ∷ t))) (read.0 ∙ ap (λ t. t ++ 125 ∷ pairs.0.1) (sym (listed_pairs_is pairs.0.0)))
          ∙ sym (pairs_text head.0.0 head.0.1 (listed_pairs (pair_trees pairs.0.0)) pairs.0.1);
      good = record { tagged = good.tagged; in_order = (good.rising, good.in_order); in_range = good.in_range; depth = omega (arith, good.depth) };
      kind = refl;
    })

-- ---- all values

as_found : (wanted : Option Tag) (levels : ℕ) (kind : Tag) (text : List ℕ) (x : Tree) (rest : List ℕ) → is_wanted wanted kind ≡ true → IsHeld levels kind text x rest → IsFound wanted levels text x rest
as_found wanted levels kind text x rest allowed is = record { whole = is.whole; good = is.good; kind = subst (λ t. is_wanted wanted t ≡ true) (sym is.kind) allowed }

abbrev FindsContainers : ℕ → ℕ → Type 0
FindsContainers most levels = (container : Container) (text : List ℕ) (x : Tree) (rest : List ℕ) → deeper_at most levels container text ≡ Ok (x, rest) → IsHeld levels (container_tag container) text x rest

no_level : (most : ℕ) → FindsContainers most 0
unfolding deeper_at
no_level most container text x rest e = absurd cc

one_level : (most levels : ℕ) → FindsValues most levels → FindsContainers most (suc levels)
unfolding deeper_at value_text_at
one_level most levels finds Struct text x rest e = struct_found most levels finds text x rest e
one_level most levels finds Map text x rest e = map_found most levels finds text x rest e
one_level most levels finds Set text x rest e = set_found most levels finds text x rest e
one_level most levels finds ListForm text x rest e = list_value_found most levels finds text x rest e

formed_found : (most levels : ℕ) → FindsContainers most levels → (wanted : Option Tag) (form : Form) (text : List ℕ) (x : Tree) (rest : List ℕ) → is_form_wanted wanted form ≡ true
    → formed_at most (deeper_at most levels) wanted form text ≡ Ok (x, rest) → IsFound wanted levels text x rest
formed_found most levels deep wanted (Alone Yes) text x rest allowed e = bool_found levels wanted true (codes "true") text x rest refl allowed e
formed_found most levels deep wanted (Alone No) text x rest allowed e = bool_found levels wanted false (codes "false") text x rest refl allowed e
formed_found most levels deep wanted (Alone Number) text x rest allowed e = number_found levels wanted text x rest e
formed_found most levels deep wanted (Alone Double) text x rest allowed e = double_found levels wanted text x rest allowed e
formed_found most levels deep wanted (Alone Uuid) text x rest allowed e = uuid_found levels wanted text x rest allowed e
formed_found most levels deep wanted (Alone Quoted) text x rest allowed e = bytes_found most levels wanted text x rest allowed e
formed_found most levels deep wanted (Holding container) text x rest allowed e = as_found wanted levels (container_tag container) text x rest allowed (deep container text x rest e)

by_containers : (most levels : ℕ) → FindsContainers most levels → FindsValues most levels
unfolding value_text_at value_by
by_containers most levels deep wanted text x rest e =
    let form = went_on (form_at wanted text) (λ form. formed_at most (deeper_at most levels) wanted form text) (x, rest) e in
    formed_found most levels deep wanted form.0 text x rest (form_found wanted text form.0 form.1) form.2

-- what is read as a value is its text, and it has one
pub values_found : (most levels : ℕ) → FindsValues most levels
values_found most zero = by_containers most 0 (no_level most)
values_found most (suc levels) = by_containers most (suc levels) (one_level most levels (values_found most levels))
