-- The loops that write fields, items and pairs: what was written, and the text of what is left, is the text of all.
use Rattle.std.proofs.Common.{◌≡◌, Bool, ℕ, suc, ℤ, pos, ◌+◌, ◌<◌, ◌≤◌, ◌^◌, List, [], ◌∷◌, ◌++◌, map, length, drop, get_or, Result, Ok, Err, refl, sym, ap, ◌∙◌, subst, arith, append_assoc}
use Rattle.std.specs.Prelude.{OnOk, OnErr, FitsSigned, All}
use Rattle.std.specs.Int.{w16}
use Rattle.std.proofs.lemmas.List.{length-drop}
use Rattle.std.proofs.Math.Seq.{drop-cons}
use Rattle.thrift_value.specs.declared.tag.Tag.{Tag}
use Rattle.thrift_value.specs.declared.value.Value.{Value}
use Rattle.thrift_value.specs.declared.value.Value.TheVariants as values
use Rattle.thrift_value.specs.declared.value.Fields.{Fields}
use Rattle.thrift_value.specs.declared.value.Items.{Items}
use Rattle.thrift_value.specs.declared.value.Pairs.{Pairs}
use Rattle.thrift_value.specs.Ranges.{IsInRange, AreFieldsInRange, AreItemsInRange, ArePairsInRange}
use Rattle.thrift_value.specs.Measures.{depth_of, fields_depth, items_depth, pairs_depth}
use Rattle.thrift_value.specs.Tree.{Tree, of_bool, of_struct, of_map, of_set, of_list}
use Rattle.thrift_value.specs.TreeOf.{tree_of, fields_of, items_of, pairs_of, field_tree, pair_tree, field_trees, item_trees, pair_trees}
use Rattle.thrift_value.proofs.Trees.{tree_of-Bytes, tree_of-is_Struct, tree_of-is_Map, tree_of-is_Set, tree_of-is_List}
use Rattle.thrift_value.proofs.Lengths.{len_items, len_pairs}
use Rattle.wire_model.specs.Encoder.{Encoder, text, fields_text, items_text, pairs_text, heading, behind_heading}
use Rattle.thrift_value.specs.Sizes.{HasSmallSizes, HaveFieldsSmallSizes, HaveItemsSmallSizes, HavePairsSmallSizes}
use Rattle.wire_model.specs.Wire.{FieldHeader, stop}
use Rattle.wire_walk.specs.Steps.{Grows, OnBehind}

append_nil : (xs : List ℕ) → xs ++ [] ≡ xs
append_nil [] = refl
append_nil (x ∷ xs) = ap (λ t. x ∷ t) (append_nil xs)

-- a list that grew

pub grows_none : (xs : List ℕ) → Grows xs xs
grows_none xs = record { more = []; is = sym (append_nil xs) }

pub grows_more : (old now new t : List ℕ) → Grows old now → new ≡ now ++ t → Grows old new
grows_more old now new t g is = record { more = g.more ++ t; is = is ∙ ap (λ z. z ++ t) g.is ∙ append_assoc old g.more t }

pub grows_on : (old now new : List ℕ) → Grows old now → Grows now new → Grows old new
grows_on old now new g h = grows_more old now new h.more g h.is

-- a result that is handed on

pub on_ok_by : {T E : Type 0} (P Q : Type 0) (r : Result T E) → (P → Q) → OnOk r P → OnOk r Q
on_ok_by P Q (Ok x) f h = f h
on_ok_by P Q (Err e) f h = tt

-- what is so in any case
pub on_ok_all : {T E : Type 0} (P : Type 0) (r : Result T E) → P → OnOk r P
on_ok_all P (Ok x) h = h
on_ok_all P (Err e) h = tt

pub on_err_by : {T E : Type 0} (P Q : Type 0) (r : Result T E) → (P → Q) → OnErr r P → OnErr r Q
on_err_by P Q (Ok x) f h = tt
on_err_by P Q (Err e) f h = f h

-- two texts, one behind the other
pub both_written : (old now new s t : List ℕ) → now ≡ old ++ s → new ≡ now ++ t → new ≡ old ++ (s ++ t)
both_written old now new s t a b = b ∙ ap (λ z. z ++ t) a ∙ append_assoc old s t

-- the first of what is left
module _ {A : Type 0} where
  cut : (xs : List A) (i : ℕ) (x : A) → i < length xs → x ≡ get_or xs i x → drop i xs ≡ x ∷ drop (i + 1) xs
  cut xs i x within is =
      let on : suc i ≡ i + 1 = omega arith in
      drop-cons xs i x within ∙ ap (λ y. y ∷ drop (suc i) xs) (sym is) ∙ ap (λ k. x ∷ drop k xs) on

  nothing : (ys : List A) → length ys ≡ 0 → ys ≡ []
  nothing [] size = refl
  nothing (y ∷ ys) size = absurd (omega arith)

  over : (xs : List A) (i : ℕ) → length xs ≤ i → drop i xs ≡ []
  over xs i end = nothing (drop i xs) (omega (arith, length-drop i xs))

-- items

pub record AreItemsWritten (encoder : Encoder) (left all : List Value) (old now : List ℕ) : Type 0 where
  pub written : now ++ items_text encoder (item_trees (map tree_of left)) ≡ old ++ items_text encoder (item_trees (map tree_of all))
  pub small : HaveItemsSmallSizes (item_trees (map tree_of left))
  pub low : items_depth (item_trees (map tree_of left)) ≤ items_depth (item_trees (map tree_of all))
  pub grown : Grows old now
  pub ranged : AreItemsInRange (item_trees (map tree_of left)) → AreItemsInRange (item_trees (map tree_of all))

pub items_written_begin : (encoder : Encoder) (all : List Value) (old : List ℕ) → HaveItemsSmallSizes (item_trees (map tree_of all))
    → AreItemsWritten encoder all all old old
items_written_begin encoder all old small = record { written = refl; small = small; low = omega arith; grown = grows_none old; ranged = λ r. r }

items_first : (encoder : Encoder) (x : Value) (more all : List Value) (old now : List ℕ)
    → AreItemsWritten encoder (x ∷ more) all old now → HasSmallSizes (tree_of x) × (depth_of (tree_of x) ≤ items_depth (item_trees (map tree_of all)))
items_first encoder x more all old now kept = (kept.small.0, omega (arith, kept.low))

items_rest : (encoder : Encoder) (x : Value) (more all : List Value) (old now new : List ℕ)
    → AreItemsWritten encoder (x ∷ more) all old now → new ≡ now ++ text encoder (tree_of x) → IsInRange (tree_of x) → AreItemsWritten encoder more all old new
items_rest encoder x more all old now new kept is own = record {
  written =
      ap (λ z. z ++ items_text encoder (item_trees (map tree_of more))) is
      ∙ append_assoc now (text encoder (tree_of x)) (items_text encoder (item_trees (map tree_of more))) ∙ kept.written;
  small = kept.small.1;
  low = omega (arith, kept.low);
  grown = grows_more old now new (text encoder (tree_of x)) kept.grown is;
  ranged = λ r. kept.ranged (own, r);
}

pub item_ready : (encoder : Encoder) (xs : List Value) (i : ℕ) (x : Value) (old now : List ℕ) → i < length xs → x ≡ get_or xs i x
    → AreItemsWritten encoder (drop i xs) xs old now → HasSmallSizes (tree_of x) × (depth_of (tree_of x) ≤ items_depth (item_trees (map tree_of xs)))
item_ready encoder xs i x old now within is kept =
    items_first encoder x (drop (i + 1) xs) xs old now (subst (λ ys. AreItemsWritten encoder ys xs old now) (cut xs i x within is) kept)

pub item_written : (encoder : Encoder) (xs : List Value) (i : ℕ) (x : Value) (old now new : List ℕ) → i < length xs → x ≡ get_or xs i x
    → AreItemsWritten encoder (drop i xs) xs old now → new ≡ now ++ text encoder (tree_of x) → IsInRange (tree_of x) → AreItemsWritten encoder (drop (i + 1) xs) xs old new
item_written encoder xs i x old now new within is kept =
    items_rest encoder x (drop (i + 1) xs) xs old now new (subst (λ ys. AreItemsWritten encoder ys xs old now) (cut xs i x within is) kept)

items_last : (encoder : Encoder) (xs : List Value) (old now : List ℕ)
    → AreItemsWritten encoder [] xs old now → now ≡ old ++ items_text encoder (item_trees (map tree_of xs))
items_last encoder xs old now kept = sym (append_nil now) ∙ kept.written

pub items_written : (encoder : Encoder) (xs : List Value) (i : ℕ) (old now : List ℕ) → length xs ≤ i
    → AreItemsWritten encoder (drop i xs) xs old now → now ≡ old ++ items_text encoder (item_trees (map tree_of xs))
items_written encoder xs i old now end kept =
    items_last encoder xs old now (subst (λ ys. AreItemsWritten encoder ys xs old now) (over xs i end) kept)

pub items_in_range : (encoder : Encoder) (xs : List Value) (i : ℕ) (old now : List ℕ) → length xs ≤ i
    → AreItemsWritten encoder (drop i xs) xs old now → AreItemsInRange (item_trees (map tree_of xs))
items_in_range encoder xs i old now end kept = (subst (λ ys. AreItemsWritten encoder ys xs old now) (over xs i end) kept).ranged tt

-- pairs

pub record ArePairsWritten (encoder : Encoder) (left all : List (Value × Value)) (old now : List ℕ) : Type 0 where
  pub written : now ++ pairs_text encoder (pair_trees (map pair_tree left)) ≡ old ++ pairs_text encoder (pair_trees (map pair_tree all))
  pub small : HavePairsSmallSizes (pair_trees (map pair_tree left))
  pub low : pairs_depth (pair_trees (map pair_tree left)) ≤ pairs_depth (pair_trees (map pair_tree all))
  pub grown : Grows old now
  pub ranged : ArePairsInRange (pair_trees (map pair_tree left)) → ArePairsInRange (pair_trees (map pair_tree all))

pub pairs_written_begin : (encoder : Encoder) (all : List (Value × Value)) (old : List ℕ) → HavePairsSmallSizes (pair_trees (map pair_tree all))
    → ArePairsWritten encoder all all old old
pairs_written_begin encoder all old small = record { written = refl; small = small; low = omega arith; grown = grows_none old; ranged = λ r. r }

pairs_first : (encoder : Encoder) (p : Value × Value) (more all : List (Value × Value)) (old now : List ℕ)
    → ArePairsWritten encoder (p ∷ more) all old now
    → (HasSmallSizes (tree_of p.0) × (depth_of (tree_of p.0) ≤ pairs_depth (pair_trees (map pair_tree all)))) × (HasSmallSizes (tree_of p.1) × (depth_of (tree_of p.1) ≤ pairs_depth (pair_trees (map pair_tree all))))
pairs_first encoder p more all old now kept =
    ((kept.small.0, omega (arith, kept.low)), (kept.small.1, omega (arith, kept.low)))

pairs_rest : (encoder : Encoder) (p : Value × Value) (more all : List (Value × Value)) (old now between new : List ℕ)
    → ArePairsWritten encoder (p ∷ more) all old now → between ≡ now ++ text encoder (tree_of p.0) → new ≡ between ++ text encoder (tree_of p.1)
    → IsInRange (tree_of p.0) → IsInRange (tree_of p.1) → ArePairsWritten encoder more all old new
pairs_rest encoder p more all old now between new kept key is own_key own = record {
  written =
      ap (λ z. z ++ pairs_text encoder (pair_trees (map pair_tree more))) is
      ∙ append_assoc between (text encoder (tree_of p.1)) (pairs_text encoder (pair_trees (map pair_tree more)))
      ∙ ap (λ z. z ++ (text encoder (tree_of p.1) ++ pairs_text encoder (pair_trees (map pair_tree more)))) key
      ∙ append_assoc now (text encoder (tree_of p.0)) (text encoder (tree_of p.1) ++ pairs_text encoder (pair_trees (map pair_tree more))) ∙ kept.written;
  small = kept.small.2;
  low = omega (arith, kept.low);
  grown = grows_more old between new (text encoder (tree_of p.1)) (grows_more old now between (text encoder (tree_of p.0)) kept.grown key) is;
  ranged = λ r. kept.ranged (own_key, own, r);
}

pub pair_ready : (encoder : Encoder) (xs : List (Value × Value)) (i : ℕ) (p : Value × Value) (old now : List ℕ) → i < length xs → p ≡ get_or xs i p
    → ArePairsWritten encoder (drop i xs) xs old now
    → (HasSmallSizes (tree_of p.0) × (depth_of (tree_of p.0) ≤ pairs_depth (pair_trees (map pair_tree xs)))) × (HasSmallSizes (tree_of p.1) × (depth_of (tree_of p.1) ≤ pairs_depth (pair_trees (map pair_tree xs))))
pair_ready encoder xs i p old now within is kept =
    pairs_first encoder p (drop (i + 1) xs) xs old now (subst (λ ys. ArePairsWritten encoder ys xs old now) (cut xs i p within is) kept)

pub pair_written : (encoder : Encoder) (xs : List (Value × Value)) (i : ℕ) (p : Value × Value) (old now between new : List ℕ) → i < length xs → p ≡ get_or xs i p
    → ArePairsWritten encoder (drop i xs) xs old now → between ≡ now ++ text encoder (tree_of p.0) → new ≡ between ++ text encoder (tree_of p.1)
    → IsInRange (tree_of p.0) → IsInRange (tree_of p.1) → ArePairsWritten encoder (drop (i + 1) xs) xs old new
pair_written encoder xs i p old now between new within is kept =
    pairs_rest encoder p (drop (i + 1) xs) xs old now between new (subst (λ ys. ArePairsWritten encoder ys xs old now) (cut xs i p within is) kept)

pairs_last : (encoder : Encoder) (xs : List (Value × Value)) (old now : List ℕ)
    → ArePairsWritten encoder [] xs old now → now ≡ old ++ pairs_text encoder (pair_trees (map pair_tree xs))
pairs_last encoder xs old now kept = sym (append_nil now) ∙ kept.written

pub pairs_written : (encoder : Encoder) (xs : List (Value × Value)) (i : ℕ) (old now : List ℕ) → length xs ≤ i
    → ArePairsWritten encoder (drop i xs) xs old now → now ≡ old ++ pairs_text encoder (pair_trees (map pair_tree xs))
pairs_written encoder xs i old now end kept =
    pairs_last encoder xs old now (subst (λ ys. ArePairsWritten encoder ys xs old now) (over xs i end) kept)

pub pairs_in_range : (encoder : Encoder) (xs : List (Value × Value)) (i : ℕ) (old now : List ℕ) → length xs ≤ i
    → ArePairsWritten encoder (drop i xs) xs old now → ArePairsInRange (pair_trees (map pair_tree xs))
pairs_in_range encoder xs i old now end kept = (subst (λ ys. ArePairsWritten encoder ys xs old now) (over xs i end) kept).ranged tt

-- fields

pub record AreFieldsWritten (encoder : Encoder) (last : ℤ) (left all : List (ℤ × Value)) (old now : List ℕ) : Type 0 where
  pub written : now ++ fields_text encoder last (field_trees (map field_tree left)) ≡ old ++ fields_text encoder (pos 0) (field_trees (map field_tree all))
  pub small : HaveFieldsSmallSizes (field_trees (map field_tree left))
  pub low : fields_depth (field_trees (map field_tree left)) ≤ fields_depth (field_trees (map field_tree all))
  pub grown : Grows old now
  pub ranged : AreFieldsInRange (field_trees (map field_tree left)) → AreFieldsInRange (field_trees (map field_tree all))

pub fields_written_begin : (encoder : Encoder) (all : List (ℤ × Value)) (old : List ℕ) → HaveFieldsSmallSizes (field_trees (map field_tree all))
    → AreFieldsWritten encoder (pos 0) all all old old
fields_written_begin encoder all old small = record { written = refl; small = small; low = omega arith; grown = grows_none old; ranged = λ r. r }

fields_first : (encoder : Encoder) (last : ℤ) (f : ℤ × Value) (more all : List (ℤ × Value)) (old now : List ℕ)
    → AreFieldsWritten encoder last (f ∷ more) all old now → HasSmallSizes (tree_of f.1) × (depth_of (tree_of f.1) ≤ fields_depth (field_trees (map field_tree all)))
fields_first encoder last f more all old now kept = (kept.small.0, omega (arith, kept.low))

fields_rest : (encoder : Encoder) (last : ℤ) (f : ℤ × Value) (more all : List (ℤ × Value)) (old now between new : List ℕ) (h : FieldHeader)
    → AreFieldsWritten encoder last (f ∷ more) all old now → h ≡ heading encoder.flags f.0 (tree_of f.1)
    → between ≡ now ++ encoder.header last h → new ≡ between ++ behind_heading h (text encoder (tree_of f.1))
    → FitsSigned w16 f.0 → IsInRange (tree_of f.1) → AreFieldsWritten encoder f.0 more all old new
fields_rest encoder last f more all old now between new h kept headed first second fits own_range =
    let others : List ℕ = fields_text encoder f.0 (field_trees (map field_tree more)) in
    let own : List ℕ = text encoder (tree_of f.1) in
    record {
      written =
          ap (λ z. z ++ others) (both_written now between new (encoder.header last h) (behind_heading h own) first second)
          ∙ append_assoc now (encoder.header last h ++ behind_heading h own) others
          ∙ ap (λ z. now ++ z) (append_assoc (encoder.header last h) (behind_heading h own) others)
          ∙ ap (λ (g : FieldHeader). now ++ (encoder.header last g ++ (behind_heading g own ++ others))) headed
          ∙ kept.written;
      small = kept.small.1;
      low = omega (arith, kept.low);
      grown = grows_more old between new (behind_heading h own) (grows_more old now between (encoder.header last h) kept.grown first) second;
      ranged = λ r. kept.ranged (fits, own_range, r);
    }

pub field_ready : (encoder : Encoder) (last : ℤ) (xs : List (ℤ × Value)) (i : ℕ) (f : ℤ × Value) (old now : List ℕ) → i < length xs → f ≡ get_or xs i f
    → AreFieldsWritten encoder last (drop i xs) xs old now → HasSmallSizes (tree_of f.1) × (depth_of (tree_of f.1) ≤ fields_depth (field_trees (map field_tree xs)))
field_ready encoder last xs i f old now within is kept =
    fields_first encoder last f (drop (i + 1) xs) xs old now (subst (λ ys. AreFieldsWritten encoder last ys xs old now) (cut xs i f within is) kept)

pub field_written : (encoder : Encoder) (last : ℤ) (xs : List (ℤ × Value)) (i : ℕ) (f : ℤ × Value) (old now between new : List ℕ) (h : FieldHeader)
    → i < length xs → f ≡ get_or xs i f
    → AreFieldsWritten encoder last (drop i xs) xs old now → h ≡ heading encoder.flags f.0 (tree_of f.1)
    → between ≡ now ++ encoder.header last h → new ≡ between ++ behind_heading h (text encoder (tree_of f.1))
    → FitsSigned w16 f.0 → IsInRange (tree_of f.1) → AreFieldsWritten encoder f.0 (drop (i + 1) xs) xs old new
field_written encoder last xs i f old now between new h within is kept =
    fields_rest encoder last f (drop (i + 1) xs) xs old now between new h (subst (λ ys. AreFieldsWritten encoder last ys xs old now) (cut xs i f within is) kept)

fields_last : (encoder : Encoder) (last : ℤ) (xs : List (ℤ × Value)) (old now new : List ℕ)
    → AreFieldsWritten encoder last [] xs old now → new ≡ now ++ encoder.header last stop
    → new ≡ old ++ fields_text encoder (pos 0) (field_trees (map field_tree xs))
fields_last encoder last xs old now new kept is = is ∙ kept.written

pub fields_written : (encoder : Encoder) (last : ℤ) (xs : List (ℤ × Value)) (i : ℕ) (old now new : List ℕ) → length xs ≤ i
    → AreFieldsWritten encoder last (drop i xs) xs old now → new ≡ now ++ encoder.header last stop
    → new ≡ old ++ fields_text encoder (pos 0) (field_trees (map field_tree xs))
fields_written encoder last xs i old now new end kept =
    fields_last encoder last xs old now new (subst (λ ys. AreFieldsWritten encoder last ys xs old now) (over xs i end) kept)

pub fields_in_range : (encoder : Encoder) (last : ℤ) (xs : List (ℤ × Value)) (i : ℕ) (old now : List ℕ) → length xs ≤ i
    → AreFieldsWritten encoder last (drop i xs) xs old now → AreFieldsInRange (field_trees (map field_tree xs))
fields_in_range encoder last xs i old now end kept = (subst (λ ys. AreFieldsWritten encoder last ys xs old now) (over xs i end) kept).ranged tt

-- the range of a field's value, told by what stands behind its header
pub own_in_range : (flags : Bool) (id : ℤ) (x : Tree) (h : FieldHeader) → h ≡ heading flags id x → OnBehind h (IsInRange x) → IsInRange x
own_in_range flags id (of_bool b) h is own = tt
own_in_range flags id x h is own = subst (λ (g : FieldHeader). OnBehind g (IsInRange x)) is own

-- a value by its kind

pub bytes_small : (v : Value) (t : List ℕ) → v ≡ values.Bytes t → HasSmallSizes (tree_of v) → length t < 2 ^ 31
bytes_small v t is small = subst HasSmallSizes (ap tree_of is ∙ tree_of-Bytes t) small

pub bytes_in_range : (v : Value) (t : List ℕ) → v ≡ values.Bytes t → All (λ b. b < 256) t → IsInRange (tree_of v)
bytes_in_range v t is each = subst IsInRange (sym (ap tree_of is ∙ tree_of-Bytes t)) each

pub bytes_text : (encoder : Encoder) (v : Value) (t : List ℕ) → v ≡ values.Bytes t → encoder.span t ≡ text encoder (tree_of v)
bytes_text encoder v t is = ap (text encoder) (sym (ap tree_of is ∙ tree_of-Bytes t))

-- a struct, its fields as a slice
pub record IsStruct (encoder : Encoder) (v : Value) (xs : List (ℤ × Value)) : Type 0 where
  pub small : HaveFieldsSmallSizes (field_trees (map field_tree xs))
  pub deep : depth_of (tree_of v) ≡ fields_depth (field_trees (map field_tree xs)) + 1
  pub ranged : AreFieldsInRange (field_trees (map field_tree xs)) → IsInRange (tree_of v)
  pub text_is : fields_text encoder (pos 0) (field_trees (map field_tree xs)) ≡ text encoder (tree_of v)

pub struct_parts : (encoder : Encoder) (v : Value) (fields : Fields) (xs : List (ℤ × Value)) → v ≡ values.Struct fields → xs ≡ fields_of fields
    → HasSmallSizes (tree_of v) → IsStruct encoder v xs
struct_parts encoder v fields xs is same small =
    let tree : tree_of v ≡ of_struct (field_trees (map field_tree xs)) = tree_of-is_Struct v fields is ∙ ap (λ ys. of_struct (field_trees (map field_tree ys))) (sym same) in
    record {
      small = subst HasSmallSizes tree small;
      deep = ap depth_of tree;
      ranged = λ r. subst IsInRange (sym tree) r;
      text_is = ap (text encoder) (sym tree);
    }

pub record IsMap (encoder : Encoder) (v : Value) (key value : Tag) (ps : List (Value × Value)) : Type 0 where
  pub count : length ps < 2 ^ 31
  pub small : HavePairsSmallSizes (pair_trees (map pair_tree ps))
  pub deep : depth_of (tree_of v) ≡ pairs_depth (pair_trees (map pair_tree ps)) + 1
  pub ranged : ArePairsInRange (pair_trees (map pair_tree ps)) → IsInRange (tree_of v)
  pub text_is : encoder.pairs key value (length ps) ++ pairs_text encoder (pair_trees (map pair_tree ps)) ≡ text encoder (tree_of v)

pub map_parts : (encoder : Encoder) (v : Value) (key value : Tag) (pairs : Pairs) (ps : List (Value × Value)) → v ≡ values.Map key value pairs → ps ≡ pairs_of pairs
    → HasSmallSizes (tree_of v) → IsMap encoder v key value ps
map_parts encoder v key value pairs ps is same small =
    let tree : tree_of v ≡ of_map key value (pair_trees (map pair_tree ps)) =
    tree_of-is_Map v key value pairs is ∙ ap (λ ys. of_map key value (pair_trees (map pair_tree ys))) (sym same) in
    let sized : HasSmallSizes (of_map key value (pair_trees (map pair_tree ps))) = subst HasSmallSizes tree small in
    record {
      count = subst (λ n. n < 2 ^ 31) (len_pairs ps) sized.0;
      small = sized.1;
      deep = ap depth_of tree;
      ranged = λ r. subst IsInRange (sym tree) r;
      text_is = ap (λ n. encoder.pairs key value n ++ pairs_text encoder (pair_trees (map pair_tree ps))) (sym (len_pairs ps)) ∙ ap (text encoder) (sym tree);
    }

pub record IsItems (encoder : Encoder) (v : Value) (element : Tag) (xs : List Value) : Type 0 where
  pub count : length xs < 2 ^ 31
  pub small : HaveItemsSmallSizes (item_trees (map tree_of xs))
  pub deep : depth_of (tree_of v) ≡ items_depth (item_trees (map tree_of xs)) + 1
  pub ranged : AreItemsInRange (item_trees (map tree_of xs)) → IsInRange (tree_of v)
  pub text_is : encoder.items element (length xs) ++ items_text encoder (item_trees (map tree_of xs)) ≡ text encoder (tree_of v)

pub set_parts : (encoder : Encoder) (v : Value) (element : Tag) (items : Items) (xs : List Value) → v ≡ values.Set element items → xs ≡ items_of items
    → HasSmallSizes (tree_of v) → IsItems encoder v element xs
set_parts encoder v element items xs is same small =
    let tree : tree_of v ≡ of_set element (item_trees (map tree_of xs)) =
    tree_of-is_Set v element items is ∙ ap (λ ys. of_set element (item_trees (map tree_of ys))) (sym same) in
    let sized : HasSmallSizes (of_set element (item_trees (map tree_of xs))) = subst HasSmallSizes tree small in
    record {
      count = subst (λ n. n < 2 ^ 31) (len_items xs) sized.0;
      small = sized.1;
      deep = ap depth_of tree;
      ranged = λ r. subst IsInRange (sym tree) r;
      text_is = ap (λ n. encoder.items element n ++ items_text encoder (item_trees (map tree_of xs))) (sym (len_items xs)) ∙ ap (text encoder) (sym tree);
    }

pub list_parts : (encoder : Encoder) (v : Value) (element : Tag) (items : Items) (xs : List Value) → v ≡ values.List element items → xs ≡ items_of items
    → HasSmallSizes (tree_of v) → IsItems encoder v element xs
list_parts encoder v element items xs is same small =
    let tree : tree_of v ≡ of_list element (item_trees (map tree_of xs)) =
    tree_of-is_List v element items is ∙ ap (λ ys. of_list element (item_trees (map tree_of ys))) (sym same) in
    let sized : HasSmallSizes (of_list element (item_trees (map tree_of xs))) = subst HasSmallSizes tree small in
    record {
      count = subst (λ n. n < 2 ^ 31) (len_items xs) sized.0;
      small = sized.1;
      deep = ap depth_of tree;
      ranged = λ r. subst IsInRange (sym tree) r;
      text_is = ap (λ n. encoder.items element n ++ items_text encoder (item_trees (map tree_of xs))) (sym (len_items xs)) ∙ ap (text encoder) (sym tree);
    }
