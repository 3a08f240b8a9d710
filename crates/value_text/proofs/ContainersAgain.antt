-- Structs, maps, sets and lists are read back, and so all values that have a text.
use Rattle.std.proofs.Common.{◌≡◌, ℕ, zero, suc, ◌+◌, ◌<◌, Bool, true, false, ℤ, codes, List, [], ◌∷◌, ◌++◌, length, flat_map, None, Result, Ok, refl, ap, subst, ◌∙◌, append_assoc, length-append, arith}
use Rattle.std.proofs.lemmas.List.Elements.{recursion_from_All}
use Rattle.thrift_value.specs.declared.tag.Tag.{Tag}
use Rattle.thrift_value.specs.declared.tag.Tag.TheVariants as tags
use Rattle.thrift_value.specs.Tree.{Tree, of_bool, of_i8, of_i16, of_i32, of_i64, of_double, of_bytes, of_struct, of_map, of_set, of_list, of_uuid, FieldTrees, ItemTrees, PairTrees}
use Rattle.thrift_value.specs.TreeOf.{field_trees, item_trees, pair_trees}
use Rattle.text_out.specs.Quoted.{quoted_byte}
use Rattle.value_text.specs.declared.form.Container.TheVariants.{Struct, Map, Set, List as ListForm}
use Rattle.value_text.specs.declared.form.Form.TheVariants.{Holding}
use Rattle.value_text.specs.ValueText.{tree_text, tag_word, listed_fields, listed_items, listed_pairs}
use Rattle.value_text.specs.Fronts.{◌>>=◌, behind_word, tag_at}
use Rattle.value_text.specs.Rows.{list_at}
use Rattle.value_text.specs.Reading.{value_text_at, deeper_at, struct_text_at, map_at, set_at, list_value_at, head_text_at, map_head_at, field_text_at, item_at, pair_text_at}
use Rattle.value_text.proofs.RowLaws.{AreChained, shown, list_again}
use Rattle.value_text.proofs.GoodTrees.{IsGood, FieldFits, ItemFits, PairFits, chained_fields, chained_items, chained_pairs}
use Rattle.value_text.proofs.LeafLaws.{i8_again, i16_again, i32_again, i64_again}
use Rattle.value_text.proofs.Shows.{show_field, show_pair, listed_fields_is, listed_items_is, listed_pairs_is, as_fields, as_items, as_pairs, FitsShort, roomy, few, bytes_are_few}
use Rattle.value_text.proofs.TextsAgain.{ReadsValues, field_again, item_again, pair_again, item_open, field_open, pair_open, form_is, by_form, by_number, bool_again, double_again, uuid_again, bytes_again}

-- the word of a tag
tag_again : (tag : Tag) (rest : List ℕ) → tag_at (tag_word tag ++ rest) ≡ Ok (tag, rest)
unfolding tag_at
tag_again tags.Bool rest = refl
tag_again tags.I8 rest = refl
tag_again tags.I16 rest = refl
tag_again tags.I32 rest = refl
tag_again tags.I64 rest = refl
tag_again tags.Double rest = refl
tag_again tags.Bytes rest = refl
tag_again tags.Struct rest = refl
tag_again tags.Map rest = refl
tag_again tags.Set rest = refl
tag_again tags.List rest = refl
tag_again tags.Uuid rest = refl

-- what a list that was read makes
abbrev made : {A : Type 0} → (List A → Tree) → List A × List ℕ → Result (Tree × List ℕ) ℕ
made make x = Ok (make x.0, x.1)

struct_again : (most levels : ℕ) → ReadsValues most levels → (fs : List (ℤ × Tree)) (rest : List ℕ) → length (tree_text (of_struct (field_trees fs))) < most → IsGood (suc levels) (of_struct (field_trees fs))
    → struct_text_at most (value_text_at most levels) (tree_text (of_struct (field_trees fs)) ++ rest) ≡ Ok (of_struct (field_trees fs), rest)
unfolding struct_text_at
struct_again most levels reads fs rest short good =
    let is = listed_fields_is fs in
    let long = length-append (listed_fields (field_trees fs)) (125 ∷ []) in
    let same : length (listed_fields (field_trees fs)) ≡ length (shown show_field fs) = ap length is in
    let chained = chained_fields levels None fs (record { above = tt; rising = good.in_order.0; tagged = good.tagged; in_order = good.in_order.1; in_range = good.in_range; depth = omega (arith, good.depth) }) in
    let read = list_again show_field (FitsShort show_field (FieldFits levels) most) (field_text_at (value_text_at most levels)) 125 (field_again most levels reads) refl
    (λ f behind fits. field_open levels f behind fits.0.id) most fs rest
    (few show_field (FieldFits levels) most fs (omega (arith, short, long, same))) (roomy show_field (FieldFits levels) most None fs (omega (arith, short, long, same)) chained) in
    ap (λ t. list_at (field_text_at (value_text_at most levels)) 125 most t >>= made (λ x. of_struct (field_trees x)))
    (append_assoc (listed_fields (field_trees fs)) (125 ∷ []) rest ∙ ap (λ t. t ++ 125 ∷ rest) is)
    ∙ ap (λ r. r >>= made (λ x. of_struct (field_trees x))) read

-- what opens elements
head_again : (word : List ℕ) (tag : Tag) (rest : List ℕ) → ((text : List ℕ) → behind_word word (word ++ text) ≡ Ok text) → head_text_at word (word ++ (tag_word tag ++ 62 ∷ 91 ∷ rest)) ≡ Ok (tag, rest)
unfolding head_text_at
head_again word tag rest passes =
    ap (λ r. r >>= λ named. tag_at named >>= λ t. behind_word (codes ">[") t.1 >>= λ behind. Ok (t.0, behind)) (passes (tag_word tag ++ 62 ∷ 91 ∷ rest))
    ∙ ap (λ r. r >>= λ t. behind_word (codes ">[") t.1 >>= λ behind. Ok (t.0, behind)) (tag_again tag (62 ∷ 91 ∷ rest))

-- the text of elements, up to what follows
pub items_text : (word : List ℕ) (tag : Tag) (items rest : List ℕ) → (word ++ (tag_word tag ++ (62 ∷ 91 ∷ (items ++ 93 ∷ [])))) ++ rest ≡ word ++ (tag_word tag ++ 62 ∷ 91 ∷ (items ++ 93 ∷ rest))
items_text word tag items rest =
    append_assoc word (tag_word tag ++ (62 ∷ 91 ∷ (items ++ 93 ∷ []))) rest
    ∙ ap (λ t. word ++ t) (append_assoc (tag_word tag) (62 ∷ 91 ∷ (items ++ 93 ∷ [])) rest ∙ ap (λ t. tag_word tag ++ 62 ∷ 91 ∷ t) (append_assoc items (93 ∷ []) rest))

-- how long the elements' text may be
items_short : (word : List ℕ) (tag : Tag) (items : List ℕ) (most : ℕ) → length (word ++ (tag_word tag ++ (62 ∷ 91 ∷ (items ++ 93 ∷ [])))) < most → length items + 1 < most
items_short word tag items most short =
    omega (arith, short, length-append word (tag_word tag ++ (62 ∷ 91 ∷ (items ++ 93 ∷ []))), length-append (tag_word tag) (62 ∷ 91 ∷ (items ++ 93 ∷ [])), length-append items (93 ∷ []))

items_again : (most levels : ℕ) → ReadsValues most levels → (rising : Bool) (tag : Tag) (xs : List Tree) (rest : List ℕ) → length (listed_items (item_trees xs)) + 1 < most
    → AreChained (ItemFits rising tag levels) None xs → list_at (item_at rising tag (value_text_at most levels)) 93 most (listed_items (item_trees xs) ++ 93 ∷ rest) ≡ Ok (xs, rest)
items_again most levels reads rising tag xs rest short chained =
    let is = listed_items_is xs in
    let same : length (listed_items (item_trees xs)) ≡ length (shown tree_text xs) = ap length is in
    ap (λ t. list_at (item_at rising tag (value_text_at most levels)) 93 most (t ++ 93 ∷ rest)) is
    ∙ list_again tree_text (FitsShort tree_text (ItemFits rising tag levels) most) (item_at rising tag (value_text_at most levels)) 93 (item_again most levels reads rising tag) refl
    (λ x behind fits. item_open x behind fits.0.good.in_range) most xs rest
    (few tree_text (ItemFits rising tag levels) most xs (omega (arith, short, same))) (roomy tree_text (ItemFits rising tag levels) most None xs (omega (arith, short, same)) chained)

set_again : (most levels : ℕ) → ReadsValues most levels → (tag : Tag) (xs : List Tree) (rest : List ℕ) → length (tree_text (of_set tag (item_trees xs))) < most → IsGood (suc levels) (of_set tag (item_trees xs))
    → set_at most (value_text_at most levels) (tree_text (of_set tag (item_trees xs)) ++ rest) ≡ Ok (of_set tag (item_trees xs), rest)
unfolding set_at
set_again most levels reads tag xs rest short good =
    let items = listed_items (item_trees xs) in
    let chained = chained_items true tag levels None xs (record { above = λ _. tt; rise = λ _. good.in_order.0; tagged = good.tagged; in_order = good.in_order.1; in_range = good.in_range; depth = omega (arith, good.depth) }) in
    ap (λ t. head_text_at (codes "set<") t >>= λ h. list_at (item_at true h.0 (value_text_at most levels)) 93 most h.1 >>= λ x. Ok (of_set h.0 (item_trees x.0), x.1)) (items_text (codes "set<") tag items rest)
    ∙ ap (λ r. r >>= λ h. list_at (item_at true h.0 (value_text_at most levels)) 93 most h.1 >>= λ x. Ok (of_set h.0 (item_trees x.0), x.1)) (head_again (codes "set<") tag (items ++ 93 ∷ rest) (λ text. refl))
    ∙ ap (λ r. r >>= λ x. Ok (of_set tag (item_trees x.0), x.1)) (items_again most levels reads true tag xs rest (items_short (codes "set<") tag items most short) chained)

list_value_again : (most levels : ℕ) → ReadsValues most levels → (tag : Tag) (xs : List Tree) (rest : List ℕ) → length (tree_text (of_list tag (item_trees xs))) < most → IsGood (suc levels) (of_list tag (item_trees xs))
    → list_value_at most (value_text_at most levels) (tree_text (of_list tag (item_trees xs)) ++ rest) ≡ Ok (of_list tag (item_trees xs), rest)
unfolding list_value_at
list_value_again most levels reads tag xs rest short good =
    let items = listed_items (item_trees xs) in
    let chained = chained_items false tag levels None xs (record { above = λ e. absurd cc; rise = λ e. absurd cc; tagged = good.tagged; in_order = good.in_order; in_range = good.in_range; depth = omega (arith, good.depth) }) in
    ap (λ t. head_text_at (codes "list<") t >>= λ h. list_at (item_at false h.0 (value_text_at most levels)) 93 most h.1 >>= λ x. Ok (of_list h.0 (item_trees x.0), x.1)) (items_text (codes "list<") tag items rest)
    ∙ ap (λ r. r >>= λ h. list_at (item_at false h.0 (value_text_at most levels)) 93 most h.1 >>= λ x. Ok (of_list h.0 (item_trees x.0), x.1)) (head_again (codes "list<") tag (items ++ 93 ∷ rest) (λ text. refl))
    ∙ ap (λ r. r >>= λ x. Ok (of_list tag (item_trees x.0), x.1)) (items_again most levels reads false tag xs rest (items_short (codes "list<") tag items most short) chained)

-- what opens pairs
map_head_again : (key tag : Tag) (rest : List ℕ) → map_head_at (codes "map<" ++ (tag_word key ++ 44 ∷ (tag_word tag ++ 62 ∷ 123 ∷ rest))) ≡ Ok (key, tag, rest)
unfolding map_head_at
map_head_again key tag rest =
    ap (λ r. r >>= λ k. behind_word (codes ",") k.1 >>= λ next. tag_at next >>= λ t. behind_word (codes ">{") t.1 >>= λ behind. Ok (k.0, t.0, behind)) (tag_again key (44 ∷ (tag_word tag ++ 62 ∷ 123 ∷ rest)))
    ∙ ap (λ r. r >>= λ t. behind_word (codes ">{") t.1 >>= λ behind. Ok (key, t.0, behind)) (tag_again tag (62 ∷ 123 ∷ rest))

pub pairs_text : (key tag : Tag) (pairs rest : List ℕ)
    → (codes "map<" ++ (tag_word key ++ (44 ∷ (tag_word tag ++ (62 ∷ 123 ∷ (pairs ++ 125 ∷ [])))))) ++ rest ≡ codes "map<" ++ (tag_word key ++ 44 ∷ (tag_word tag ++ 62 ∷ 123 ∷ (pairs ++ 125 ∷ rest)))
pairs_text key tag pairs rest =
    ap (λ t. codes "map<" ++ t) (append_assoc (tag_word key) (44 ∷ (tag_word tag ++ (62 ∷ 123 ∷ (pairs ++ 125 ∷ [])))) rest
    ∙ ap (λ t. tag_word key ++ 44 ∷ t) (append_assoc (tag_word tag) (62 ∷ 123 ∷ (pairs ++ 125 ∷ [])) rest ∙ ap (λ t. tag_word tag ++ 62 ∷ 123 ∷ t) (append_assoc pairs (125 ∷ []) rest)))

pairs_short : (key tag : Tag) (pairs : List ℕ) (most : ℕ) → length (codes "map<" ++ (tag_word key ++ (44 ∷ (tag_word tag ++ (62 ∷ 123 ∷ (pairs ++ 125 ∷ [])))))) < most → length pairs + 1 < most
pairs_short key tag pairs most short =
    omega (arith, short, length-append (tag_word key) (44 ∷ (tag_word tag ++ (62 ∷ 123 ∷ (pairs ++ 125 ∷ [])))), length-append (tag_word tag) (62 ∷ 123 ∷ (pairs ++ 125 ∷ [])), length-append pairs (125 ∷ []))

map_again : (most levels : ℕ) → ReadsValues most levels → (key tag : Tag) (ps : List (Tree × Tree)) (rest : List ℕ) → length (tree_text (of_map key tag (pair_trees ps))) < most → IsGood (suc levels) (of_map key tag (pair_trees ps))
    → map_at most levels (value_text_at most levels) (tree_text (of_map key tag (pair_trees ps)) ++ rest) ≡ Ok (of_map key tag (pair_trees ps), rest)
unfolding map_at
map_again most levels reads key tag ps rest short good =
    let pairs = listed_pairs (pair_trees ps) in
    let is = listed_pairs_is ps in
    let same : length pairs ≡ length (shown show_pair ps) = ap length is in
    let room : length pairs + 1 < most = pairs_short key tag pairs most short in
    let chained = chained_pairs key tag levels None ps (record { above = tt; rising = good.in_order.0; tagged = good.tagged; in_order = good.in_order.1; in_range = good.in_range; depth = omega (arith, good.depth) }) in
    ap (λ t. map_head_at t >>= λ h. list_at (pair_text_at levels h.0 h.1 (value_text_at most levels)) 125 most h.2 >>= λ x. Ok (of_map h.0 h.1 (pair_trees x.0), x.1)) (pairs_text key tag pairs rest)
    ∙ ap (λ r. r >>= λ h. list_at (pair_text_at levels h.0 h.1 (value_text_at most levels)) 125 most h.2 >>= λ x. Ok (of_map h.0 h.1 (pair_trees x.0), x.1)) (map_head_again key tag (pairs ++ 125 ∷ rest))
    ∙ ap (λ t. list_at (pair_text_at levels key tag (value_text_at most levels)) 125 most (t ++ 125 ∷ rest) >>= λ x. Ok (of_map key tag (pair_trees x.0), x.1)) is
    ∙ ap (λ r. r >>= λ x. Ok (of_map key tag (pair_trees x.0), x.1))
    (list_again show_pair (FitsShort show_pair (PairFits key tag levels) most) (pair_text_at levels key tag (value_text_at most levels)) 125 (pair_again most levels reads key tag) refl
    (λ p behind fits. pair_open p behind fits.0.key_good.in_range) most ps rest
    (few show_pair (PairFits key tag levels) most ps (omega (arith, room, same))) (roomy show_pair (PairFits key tag levels) most None ps (omega (arith, room, same)) chained))

-- values that hold others are read back, where so many levels may be opened
record ReadsContainers (most levels : ℕ) : Type 0 where
  struct : (fields : FieldTrees) (rest : List ℕ) → length (tree_text (of_struct fields)) < most → IsGood levels (of_struct fields)
      → deeper_at most levels Struct (tree_text (of_struct fields) ++ rest) ≡ Ok (of_struct fields, rest)
  map : (key tag : Tag) (pairs : PairTrees) (rest : List ℕ) → length (tree_text (of_map key tag pairs)) < most → IsGood levels (of_map key tag pairs)
      → deeper_at most levels Map (tree_text (of_map key tag pairs) ++ rest) ≡ Ok (of_map key tag pairs, rest)
  set : (tag : Tag) (items : ItemTrees) (rest : List ℕ) → length (tree_text (of_set tag items)) < most → IsGood levels (of_set tag items)
      → deeper_at most levels Set (tree_text (of_set tag items) ++ rest) ≡ Ok (of_set tag items, rest)
  list : (tag : Tag) (items : ItemTrees) (rest : List ℕ) → length (tree_text (of_list tag items)) < most → IsGood levels (of_list tag items)
      → deeper_at most levels ListForm (tree_text (of_list tag items) ++ rest) ≡ Ok (of_list tag items, rest)

no_level : (most : ℕ) → ReadsContainers most 0
no_level most = record {
  struct = λ fields rest short good. absurd (omega (arith, good.depth));
  map = λ key tag pairs rest short good. absurd (omega (arith, good.depth));
  set = λ tag items rest short good. absurd (omega (arith, good.depth));
  list = λ tag items rest short good. absurd (omega (arith, good.depth));
}

struct_deeper : (most levels : ℕ) → ReadsValues most levels → (fields : FieldTrees) (rest : List ℕ) → length (tree_text (of_struct fields)) < most → IsGood (suc levels) (of_struct fields)
    → deeper_at most (suc levels) Struct (tree_text (of_struct fields) ++ rest) ≡ Ok (of_struct fields, rest)
unfolding deeper_at value_text_at
struct_deeper most levels reads fields rest =
    let fs = as_fields fields in
    subst (λ (t : FieldTrees). length (tree_text (of_struct t)) < most → IsGood (suc levels) (of_struct t) → deeper_at most (suc levels) Struct (tree_text (of_struct t) ++ rest) ≡ Ok (of_struct t, rest)) fs.1
    (λ short good. struct_again most levels reads fs.0 rest short good)

map_deeper : (most levels : ℕ) → ReadsValues most levels → (key tag : Tag) (pairs : PairTrees) (rest : List ℕ) → length (tree_text (of_map key tag pairs)) < most → IsGood (suc levels) (of_map key tag pairs)
    → deeper_at most (suc levels) Map (tree_text (of_map key tag pairs) ++ rest) ≡ Ok (of_map key tag pairs, rest)
unfolding deeper_at value_text_at
map_deeper most levels reads key tag pairs rest =
    let ps = as_pairs pairs in
    subst (λ (t : PairTrees). length (tree_text (of_map key tag t)) < most → IsGood (suc levels) (of_map key tag t) → deeper_at most (suc levels) Map (tree_text (of_map key tag t) ++ rest) ≡ Ok (of_map key tag t, rest)) ps.1
    (λ short good. map_again most levels reads key tag ps.0 rest short good)

set_deeper : (most levels : ℕ) → ReadsValues most levels → (tag : Tag) (items : ItemTrees) (rest : List ℕ) → length (tree_text (of_set tag items)) < most → IsGood (suc levels) (of_set tag items)
    → deeper_at most (suc levels) Set (tree_text (of_set tag items) ++ rest) ≡ Ok (of_set tag items, rest)
unfolding deeper_at value_text_at
set_deeper most levels reads tag items rest =
    let xs = as_items items in
    subst (λ (t : ItemTrees). length (tree_text (of_set tag t)) < most → IsGood (suc levels) (of_set tag t) → deeper_at most (suc levels) Set (tree_text (of_set tag t) ++ rest) ≡ Ok (of_set tag t, rest)) xs.1
    (λ short good. set_again most levels reads tag xs.0 rest short good)

list_deeper : (most levels : ℕ) → ReadsValues most levels → (tag : Tag) (items : ItemTrees) (rest : List ℕ) → length (tree_text (of_list tag items)) < most → IsGood (suc levels) (of_list tag items)
    → deeper_at most (suc levels) ListForm (tree_text (of_list tag items) ++ rest) ≡ Ok (of_list tag items, rest)
unfolding deeper_at value_text_at
list_deeper most levels reads tag items rest =
    let xs = as_items items in
    subst (λ (t : ItemTrees). length (tree_text (of_list tag t)) < most → IsGood (suc levels) (of_list tag t) → deeper_at most (suc levels) ListForm (tree_text (of_list tag t) ++ rest) ≡ Ok (of_list tag t, rest)) xs.1
    (λ short good. list_value_again most levels reads tag xs.0 rest short good)

one_level : (most levels : ℕ) → ReadsValues most levels → ReadsContainers most (suc levels)
one_level most levels reads = record {
  struct = struct_deeper most levels reads;
  map = map_deeper most levels reads;
  set = set_deeper most levels reads;
  list = list_deeper most levels reads;
}

-- a value is read back, where those that hold others are
by_containers : (most levels : ℕ) → ReadsContainers most levels → ReadsValues most levels
by_containers most levels deep wanted (of_bool truth) rest short good e = bool_again most levels wanted truth rest e
by_containers most levels deep wanted (of_i8 n) rest short good e = by_number most levels wanted (tree_text (of_i8 n) ++ rest) (of_i8 n) rest (i8_again wanted n rest good.in_range e)
by_containers most levels deep wanted (of_i16 n) rest short good e = by_number most levels wanted (tree_text (of_i16 n) ++ rest) (of_i16 n) rest (i16_again wanted n rest good.in_range e)
by_containers most levels deep wanted (of_i32 n) rest short good e = by_number most levels wanted (tree_text (of_i32 n) ++ rest) (of_i32 n) rest (i32_again wanted n rest good.in_range e)
by_containers most levels deep wanted (of_i64 n) rest short good e = by_number most levels wanted (tree_text (of_i64 n) ++ rest) (of_i64 n) rest (i64_again wanted n rest good.in_range e)
by_containers most levels deep wanted (of_double n) rest short good e = double_again most levels wanted n rest good.in_range e
by_containers most levels deep wanted (of_uuid n) rest short good e = uuid_again most levels wanted n rest good.in_range e
by_containers most levels deep wanted (of_bytes bytes) rest short good e =
    bytes_again most levels wanted bytes rest (omega (arith, short, bytes_are_few bytes, length-append (flat_map quoted_byte bytes) (34 ∷ []))) (recursion_from_All (λ b. b < 256) bytes good.in_range) e
by_containers most levels deep wanted (of_struct fields) rest short good e =
    by_form most levels wanted (tree_text (of_struct fields) ++ rest) (Holding Struct) (form_is wanted 123 _ (Holding Struct) refl e) ∙ deep.struct fields rest short good
by_containers most levels deep wanted (of_map key tag pairs) rest short good e =
    by_form most levels wanted (tree_text (of_map key tag pairs) ++ rest) (Holding Map) (form_is wanted 109 _ (Holding Map) refl e) ∙ deep.map key tag pairs rest short good
by_containers most levels deep wanted (of_set tag items) rest short good e =
    by_form most levels wanted (tree_text (of_set tag items) ++ rest) (Holding Set) (form_is wanted 115 _ (Holding Set) refl e) ∙ deep.set tag items rest short good
by_containers most levels deep wanted (of_list tag items) rest short good e =
    by_form most levels wanted (tree_text (of_list tag items) ++ rest) (Holding ListForm) (form_is wanted 108 _ (Holding ListForm) refl e) ∙ deep.list tag items rest short good

-- the text of each value of so many levels is read as that value
pub values_again : (most levels : ℕ) → ReadsValues most levels
values_again most zero = by_containers most 0 (no_level most)
values_again most (suc levels) = by_containers most (suc levels) (one_level most levels (values_again most levels))
