-- What is read is spelled there.
use Rattle.std.specs.Prelude.{ℤ, pos, FitsSigned}
use Rattle.std.specs.Int.{w16}
use Rattle.std.proofs.Common.{◌≡◌, ℕ, zero, suc, ◌+◌, ◌≤◌, List, [], ◌++◌, length, Ok, inl, inr, refl, sym, ap, subst, ◌∙◌, append_assoc, arith, rules}
use Rattle.std.proofs.lemmas.List.{length-append}
use Rattle.thrift_value.specs.declared.tag.Tag.{Tag}
use Rattle.thrift_value.specs.declared.tag.Tag.TheVariants as tags
use Rattle.thrift_value.specs.declared.wire_fault.WireFault.TheVariants.{TooDeep}
use Rattle.thrift_value.specs.Tree.{Tree, of_bool, of_bytes, of_struct, of_map, of_set, of_list, FieldTrees, no_fields, field, ItemTrees, no_items, item, PairTrees, no_pairs, pair}
use Rattle.thrift_value.specs.Tags.{tag_of}
use Rattle.thrift_value.specs.Measures.{depth_of, fields_depth, items_depth, pairs_depth, count_of, fields_count, items_count, pairs_count}
use Rattle.wire_model.specs.Decoder.{Unread, Decoder, ◌>>=◌, give, fail, count_value}
use Rattle.wire_model.specs.Wire.{FieldHeader, stop, typed, flagged, Wire, IsScalar}
use Rattle.wire_model.specs.Reading.{item_list, pair_list, field_behind, field_list, parts, layer, value}
use Rattle.wire_model.specs.Format.{Format, TwoParts, Spells, SpellsFields, SpellsItems, SpellsPairs}
use Rattle.thrift_value.specs.Sizes.{items_len, pairs_len}
use Rattle.wire_model.specs.Place.{TakenOff}
use Rattle.wire_num.specs.Encoded.{AreByteSized}
use Rattle.wire_model.specs.Protocol.{IsInFront, IsProtocol}
use Rattle.wire_model.specs.Encoder.{Encoder}
use Rattle.wire_model.proofs.Steps.{went_on, ok_is, Moved, Moved-none, Moved-then, Moved_of_found, bytes_after, counted}

-- a reader of values takes spellings of them
abbrev Takes : Format → ℕ → (Tag → Decoder Tree) → Type 0
Takes format levels read = (tag : Tag) (before after : Unread) (x : Tree) → AreByteSized before.bytes → read tag before ≡ Ok (x, after) → TakenOff format levels tag x before after

Moved_of_taken : (format : Format) (levels : ℕ) (tag : Tag) (x : Tree) (before after : Unread) (t : TakenOff format levels tag x before after) → Moved before after t.text (count_of x)
Moved_of_taken format levels tag x before after t = record { whole = t.whole; count_is = t.count; bytes = t.bytes }

suc_is : {m n : ℕ} → suc m ≡ suc n → m ≡ n
suc_is e = omega arith

zero-suc : {n : ℕ} → zero ≡ suc n → ⊥
zero-suc e = omega arith

-- ---- items

record TakenItems (format : Format) (levels : ℕ) (tag : Tag) (size : ℕ) (xs : ItemTrees) (before after : Unread) : Type 0 where
  text : List ℕ
  moved : Moved before after text (items_count xs)
  spells : SpellsItems format tag xs text
  len : items_len xs ≡ size
  depth : items_depth xs ≤ levels

items_taken : (format : Format) (levels : ℕ) (read : Tag → Decoder Tree) → Takes format levels read → (tag : Tag) (size : ℕ) (before after : Unread) (xs : ItemTrees)
    → AreByteSized before.bytes → item_list read tag size before ≡ Ok (xs, after) → TakenItems format levels tag size xs before after
unfolding item_list
items_taken format levels read takes tag zero before after xs fits e =
    subst (λ (y : ItemTrees × Unread). TakenItems format levels tag zero y.0 before y.1) (ok_is (no_items, before) (xs, after) e)
    (record { text = []; moved = Moved-none before; spells = refl; len = refl; depth = omega arith })
items_taken format levels read takes tag (suc size) before after xs fits e =
    let one = went_on (read tag before) (λ x. item_list read tag size >>= λ more. give (item x more)) (xs, after) e in
    let x = one.0.0 in
    let middle = one.0.1 in
    let two = went_on (item_list read tag size middle) (λ more. give (item x more)) (xs, after) one.2 in
    let t = takes tag before middle x fits one.1 in
    let ts = items_taken format levels read takes tag size middle two.0.1 two.0.0 (bytes_after before middle t.text t.whole fits) two.1 in
    subst (λ (y : ItemTrees × Unread). TakenItems format levels tag (suc size) y.0 before y.1) (ok_is (item x two.0.0, two.0.1) (xs, after) two.2)
    (record {
      text = t.text ++ ts.text;
      moved = Moved-then before middle two.0.1 t.text ts.text (count_of x) (items_count two.0.0) (Moved_of_taken format levels tag x before middle t) ts.moved;
      spells = (t.kind, record { front = t.text; back = ts.text; whole = refl; first = t.spells; second = ts.spells });
      len = ap suc ts.len;
      depth = let a : depth_of x ≤ levels = t.depth in let b : items_depth two.0.0 ≤ levels = ts.depth in omega arith;
    })

-- ---- pairs

record TakenPairs (format : Format) (levels : ℕ) (key_tag value_tag : Tag) (size : ℕ) (ps : PairTrees) (before after : Unread) : Type 0 where
  text : List ℕ
  moved : Moved before after text (pairs_count ps)
  spells : SpellsPairs format key_tag value_tag ps text
  len : pairs_len ps ≡ size
  depth : pairs_depth ps ≤ levels

pairs_taken : (format : Format) (levels : ℕ) (read : Tag → Decoder Tree) → Takes format levels read → (t u : Tag) (size : ℕ) (before after : Unread) (ps : PairTrees)
    → AreByteSized before.bytes → pair_list read t u size before ≡ Ok (ps, after) → TakenPairs format levels t u size ps before after
unfolding pair_list
pairs_taken format levels read takes t u zero before after ps fits e =
    subst (λ (y : PairTrees × Unread). TakenPairs format levels t u zero y.0 before y.1) (ok_is (no_pairs, before) (ps, after) e)
    (record { text = []; moved = Moved-none before; spells = refl; len = refl; depth = omega arith })
pairs_taken format levels read takes t u (suc size) before after ps fits e =
    let one = went_on (read t before) (λ k. read u >>= λ x. pair_list read t u size >>= λ more. give (pair k x more)) (ps, after) e in
    let k = one.0.0 in
    let second = one.0.1 in
    let two = went_on (read u second) (λ x. pair_list read t u size >>= λ more. give (pair k x more)) (ps, after) one.2 in
    let x = two.0.0 in
    let third = two.0.1 in
    let three = went_on (pair_list read t u size third) (λ more. give (pair k x more)) (ps, after) two.2 in
    let tk = takes t before second k fits one.1 in
    let fits_second = bytes_after before second tk.text tk.whole fits in
    let tx = takes u second third x fits_second two.1 in
    let ts = pairs_taken format levels read takes t u size third three.0.1 three.0.0 (bytes_after second third tx.text tx.whole fits_second) three.1 in
    let both : Moved before three.0.1 (tk.text ++ (tx.text ++ ts.text)) (count_of k + (count_of x + pairs_count three.0.0)) =
    Moved-then before second three.0.1 tk.text (tx.text ++ ts.text) (count_of k) (count_of x + pairs_count three.0.0) (Moved_of_taken format levels t k before second tk)
    (Moved-then second third three.0.1 tx.text ts.text (count_of x) (pairs_count three.0.0) (Moved_of_taken format levels u x second third tx) ts.moved) in
    subst (λ (y : PairTrees × Unread). TakenPairs format levels t u (suc size) y.0 before y.1) (ok_is (pair k x three.0.0, three.0.1) (ps, after) three.2)
    (record {
      text = tk.text ++ (tx.text ++ ts.text);
      moved = subst (Moved before three.0.1 (tk.text ++ (tx.text ++ ts.text))) (omega arith) both;
      spells = (
        tk.kind,
        tx.kind,
        record {
          front = tk.text;
          back = tx.text ++ ts.text;
          whole = refl;
          first = tk.spells;
          second = record { front = tx.text; back = ts.text; whole = refl; first = tx.spells; second = ts.spells };
        },
      );
      len = ap suc ts.len;
      depth = let a : depth_of k ≤ levels = tk.depth in let b : depth_of x ≤ levels = tx.depth in let d : pairs_depth three.0.0 ≤ levels = ts.depth in omega arith;
    })

-- ---- fields

record TakenFields (format : Format) (levels : ℕ) (last : ℤ) (fs : FieldTrees) (before after : Unread) : Type 0 where
  text : List ℕ
  moved : Moved before after text (fields_count fs)
  spells : SpellsFields format last fs text
  end : fields_count fs + 1 ≤ length text
  depth : fields_depth fs ≤ levels

abbrev TakesFields : Format → ℕ → ℤ → Decoder FieldTrees → Type 0
TakesFields format levels last others = (before after : Unread) (fs : FieldTrees) → AreByteSized before.bytes → others before ≡ Ok (fs, after) → TakenFields format levels last fs before after

-- behind the header that was found
behind_taken : (wire : Wire) (format : Format) (encoder : Encoder) (p : IsProtocol wire format encoder) (levels : ℕ) (read : Tag → Decoder Tree) → Takes format levels read
    → (others : ℤ → Decoder FieldTrees) → ((id : ℤ) → FitsSigned w16 id → TakesFields format levels id (others id))
    → (last : ℤ) → FitsSigned w16 last → (h : FieldHeader) (before middle after : Unread) (fs : FieldTrees) → AreByteSized before.bytes
    → IsInFront (format.header last) h before middle → field_behind read others h middle ≡ Ok (fs, after) → TakenFields format levels last fs before after
unfolding field_behind
behind_taken wire format encoder p levels read takes others rest_takes last last_fits stop before middle after fs fits f e =
    subst (λ (y : FieldTrees × Unread). TakenFields format levels last y.0 before y.1) (ok_is (no_fields, middle) (fs, after) e)
    (record {
      text = f.text;
      moved = Moved_of_found stop before middle f;
      spells = f.spells;
      end = let b : 1 ≤ length f.text = (p.field last last_fits).byte stop f.text f.spells in omega arith;
      depth = omega arith;
    })
behind_taken wire format encoder p levels read takes others rest_takes last last_fits (typed id tag) before middle after fs fits f e =
    let one = went_on (read tag middle) (λ x. others id >>= λ more. give (field id x more)) (fs, after) e in
    let x = one.0.0 in
    let third = one.0.1 in
    let two = went_on (others id third) (λ more. give (field id x more)) (fs, after) one.2 in
    let fits_middle = bytes_after before middle f.text f.whole fits in
    let t = takes tag middle third x fits_middle one.1 in
    let ts = rest_takes id (p.id last id tag f.text f.spells) third two.0.1 two.0.0 (bytes_after middle third t.text t.whole fits_middle) two.1 in
    let header : Moved before third (f.text ++ t.text) (0 + count_of x) =
    Moved-then before middle third f.text t.text 0 (count_of x) (Moved_of_found (typed id tag) before middle f) (Moved_of_taken format levels tag x middle third t) in
    let all : Moved before two.0.1 ((f.text ++ t.text) ++ ts.text) ((0 + count_of x) + fields_count two.0.0) =
    Moved-then before third two.0.1 (f.text ++ t.text) ts.text (0 + count_of x) (fields_count two.0.0) header ts.moved in
    subst (λ (y : FieldTrees × Unread). TakenFields format levels last y.0 before y.1) (ok_is (field id x two.0.0, two.0.1) (fs, after) two.2)
    (record {
      text = (f.text ++ t.text) ++ ts.text;
      moved = subst (Moved before two.0.1 ((f.text ++ t.text) ++ ts.text)) (omega arith) all;
      spells = record {
        front = f.text ++ t.text;
        back = ts.text;
        whole = refl;
        first = inl (record { front = f.text; back = t.text; whole = refl; first = subst (λ (k : Tag). format.header last (typed id k) f.text) (sym t.kind) f.spells; second = t.spells });
        second = ts.spells;
      };
      end = let a : 0 + count_of x ≤ length (f.text ++ t.text) = header.bytes in let b : fields_count two.0.0 + 1 ≤ length ts.text = ts.end in omega (arith, length-append (f.text ++ t.text) ts.text);
      depth = let a : depth_of x ≤ levels = t.depth in let b : fields_depth two.0.0 ≤ levels = ts.depth in omega arith;
    })
behind_taken wire format encoder p levels read takes others rest_takes last last_fits (flagged id flag) before middle after fs fits f e =
    let one = went_on (count_value middle) (λ x. others id >>= λ more. give (field id (of_bool flag) more)) (fs, after) e in
    let third = one.0.1 in
    let two = went_on (others id third) (λ more. give (field id (of_bool flag) more)) (fs, after) one.2 in
    let fits_middle = bytes_after before middle f.text f.whole fits in
    let c = counted middle one.0 one.1 in
    let b : 1 ≤ length f.text = (p.field last last_fits).byte (flagged id flag) f.text f.spells in
    let ts = rest_takes id (p.flagged_id last id flag f.text f.spells) third two.0.1 two.0.0 (subst AreByteSized (sym c.1) fits_middle) two.1 in
    let header : Moved before third f.text 1 =
    record {
      whole = f.whole ∙ ap (λ (s : List ℕ). f.text ++ s) (sym c.1);
      count_is = let u : suc third.budget ≡ middle.budget = c.0 in let v : middle.budget ≡ before.budget = f.budget in omega arith;
      bytes = b;
    } in
    subst (λ (y : FieldTrees × Unread). TakenFields format levels last y.0 before y.1) (ok_is (field id (of_bool flag) two.0.0, two.0.1) (fs, after) two.2)
    (record {
      text = f.text ++ ts.text;
      moved = Moved-then before third two.0.1 f.text ts.text 1 (fields_count two.0.0) header ts.moved;
      spells = record { front = f.text; back = ts.text; whole = refl; first = inr (record { flag = flag; is_bool = refl; header = f.spells }); second = ts.spells };
      end = let d : fields_count two.0.0 + 1 ≤ length ts.text = ts.end in omega (arith, length-append f.text ts.text);
      depth = let d : fields_depth two.0.0 ≤ levels = ts.depth in omega arith;
    })

fields_taken : (wire : Wire) (format : Format) (encoder : Encoder) (p : IsProtocol wire format encoder) (levels : ℕ) (read : Tag → Decoder Tree) → Takes format levels read
    → (most : ℕ) (last : ℤ) → FitsSigned w16 last → TakesFields format levels last (field_list wire read most last)
unfolding field_list
fields_taken wire format encoder p levels read takes zero last last_fits before after fs fits e = absurd cc
fields_taken wire format encoder p levels read takes (suc most) last last_fits before after fs fits e =
    let one = went_on (wire.field last before) (λ h. field_behind read (field_list wire read most) h) (fs, after) e in
    behind_taken wire format encoder p levels read takes (field_list wire read most) (λ id id_fits. fields_taken wire format encoder p levels read takes most id id_fits) last last_fits
    one.0.0 before one.0.1 after fs fits ((p.field last last_fits).found before one.0.1 one.0.0 fits one.1) one.2

-- ---- a value

-- what a value holds, once it was counted
record TakenParts (format : Format) (levels : ℕ) (tag : Tag) (x : Tree) (before after : Unread) : Type 0 where
  text : List ℕ
  whole : before.bytes ≡ text ++ after.bytes
  spells : Spells format x text
  kind : tag_of x ≡ tag
  depth : depth_of x ≤ levels
  count : count_of x + after.budget ≡ suc before.budget
  bytes : count_of x ≤ length text

-- a number, a bool or bytes
leaf_taken : (format : Format) (levels : ℕ) (tag : Tag) (x : Tree) (before after : Unread) {IsText : Tree → List ℕ → Type 0} (f : IsInFront IsText x before after)
    → Spells format x f.text → tag_of x ≡ tag → depth_of x ≡ 0 → count_of x ≡ 1 → 1 ≤ length f.text → TakenParts format levels tag x before after
leaf_taken format levels tag x before after f spells kind depth count bytes =
    record {
      text = f.text;
      whole = f.whole;
      spells = spells;
      kind = kind;
      depth = omega arith;
      count = let y : after.budget ≡ before.budget = f.budget in omega arith;
      bytes = omega arith;
    }

-- each tag but those of bytes, structs and containers
scalar_taken : (format : Format) (levels : ℕ) (tag : Tag) → IsScalar tag → (x : Tree) (before after : Unread) → (f : IsInFront (λ y text. (tag_of y ≡ tag) × format.scalar y text) x before after)
    → 1 ≤ length f.text → TakenParts format levels tag x before after
scalar_taken format levels tag is_scalar (of_bytes bytes) before after f b = absurd (subst IsScalar (sym f.spells.0) is_scalar)
scalar_taken format levels tag is_scalar (of_struct fs) before after f b = absurd (subst IsScalar (sym f.spells.0) is_scalar)
scalar_taken format levels tag is_scalar (of_map t u ps) before after f b = absurd (subst IsScalar (sym f.spells.0) is_scalar)
scalar_taken format levels tag is_scalar (of_set t xs) before after f b = absurd (subst IsScalar (sym f.spells.0) is_scalar)
scalar_taken format levels tag is_scalar (of_list t xs) before after f b = absurd (subst IsScalar (sym f.spells.0) is_scalar)
scalar_taken format levels tag is_scalar x before after f b = leaf_taken format levels tag x before after f f.spells.1 f.spells.0 refl refl b

-- a header and what it announces
joined_count : (before middle after : Unread) (s t : List ℕ) (n : ℕ) → before.bytes ≡ s ++ middle.bytes → middle.budget ≡ before.budget → 1 ≤ length s → Moved middle after t n
    → (before.bytes ≡ (s ++ t) ++ after.bytes) × ((n + 1) + after.budget ≡ suc before.budget) × (n + 1 ≤ length (s ++ t))
joined_count before middle after s t n whole left b m = (
  whole ∙ ap (λ (x : List ℕ). s ++ x) m.whole ∙ sym (append_assoc s t after.bytes),
  let c : n + after.budget ≡ middle.budget = m.count_is in omega arith,
  let d : n ≤ length t = m.bytes in omega (arith, length-append s t),
)

-- a list or a set
record TakenItemsWhole (format : Format) (levels : ℕ) (make : Tag → ItemTrees → Tree) (x : Tree) (before after : Unread) : Type 0 where
  tag : Tag
  items : ItemTrees
  made : make tag items ≡ x
  text : List ℕ
  whole : before.bytes ≡ text ++ after.bytes
  spells : TwoParts (format.items tag (items_len items)) (SpellsItems format tag items) text
  depth : items_depth items ≤ levels
  count : (items_count items + 1) + after.budget ≡ suc before.budget
  bytes : items_count items + 1 ≤ length text

items_parts : (wire : Wire) (format : Format) (encoder : Encoder) (p : IsProtocol wire format encoder) (levels : ℕ) (read : Tag → Decoder Tree) → Takes format levels read
    → (make : Tag → ItemTrees → Tree) (before after : Unread) (x : Tree) → AreByteSized before.bytes
    → (wire.items >>= λ found. item_list read found.0 found.1 >>= λ items. give (make found.0 items)) before ≡ Ok (x, after)
    → TakenItemsWhole format levels make x before after
items_parts wire format encoder p levels read takes make before after x fits e =
    let one = went_on (wire.items before) (λ found. item_list read found.0 found.1 >>= λ items. give (make found.0 items)) (x, after) e in
    let h = one.0.0 in
    let middle = one.0.1 in
    let two = went_on (item_list read h.0 h.1 middle) (λ items. give (make h.0 items)) (x, after) one.2 in
    let f = p.items.found before middle h fits one.1 in
    let b = p.items.byte h f.text f.spells in
    let t = items_taken format levels read takes h.0 h.1 middle two.0.1 two.0.0 (bytes_after before middle f.text f.whole fits) two.1 in
    let j = joined_count before middle two.0.1 f.text t.text (items_count two.0.0) f.whole f.budget b t.moved in
    subst (λ (z : Tree × Unread). TakenItemsWhole format levels make z.0 before z.1) (ok_is (make h.0 two.0.0, two.0.1) (x, after) two.2)
    (record {
      tag = h.0;
      items = two.0.0;
      made = refl;
      text = f.text ++ t.text;
      whole = j.0;
      spells = record { front = f.text; back = t.text; whole = refl; first = subst (λ (n : ℕ). format.items h.0 n f.text) (sym t.len) f.spells; second = t.spells };
      depth = t.depth;
      count = j.1;
      bytes = j.2;
    })

map_parts : (wire : Wire) (format : Format) (encoder : Encoder) (p : IsProtocol wire format encoder) (levels : ℕ) (read : Tag → Decoder Tree) → Takes format levels read
    → (before after : Unread) (x : Tree) → AreByteSized before.bytes
    → (wire.pairs >>= λ found. pair_list read found.0 found.1 found.2 >>= λ pairs. give (of_map found.0 found.1 pairs)) before ≡ Ok (x, after)
    → TakenParts format (suc levels) tags.Map x before after
map_parts wire format encoder p levels read takes before after x fits e =
    let one = went_on (wire.pairs before) (λ found. pair_list read found.0 found.1 found.2 >>= λ pairs. give (of_map found.0 found.1 pairs)) (x, after) e in
    let h = one.0.0 in
    let middle = one.0.1 in
    let two = went_on (pair_list read h.0 h.1 h.2 middle) (λ pairs. give (of_map h.0 h.1 pairs)) (x, after) one.2 in
    let f = p.pairs.found before middle h fits one.1 in
    let b = p.pairs.byte h f.text f.spells in
    let t = pairs_taken format levels read takes h.0 h.1 h.2 middle two.0.1 two.0.0 (bytes_after before middle f.text f.whole fits) two.1 in
    let j = joined_count before middle two.0.1 f.text t.text (pairs_count two.0.0) f.whole f.budget b t.moved in
    subst (λ (z : Tree × Unread). TakenParts format (suc levels) tags.Map z.0 before z.1) (ok_is (of_map h.0 h.1 two.0.0, two.0.1) (x, after) two.2)
    (record {
      text = f.text ++ t.text;
      whole = j.0;
      spells = record { front = f.text; back = t.text; whole = refl; first = subst (λ (n : ℕ). format.pairs h.0 h.1 n f.text) (sym t.len) f.spells; second = t.spells };
      kind = refl;
      depth = let d : pairs_depth two.0.0 ≤ levels = t.depth in omega arith;
      count = j.1;
      bytes = j.2;
    })

struct_parts : (wire : Wire) (format : Format) (encoder : Encoder) (p : IsProtocol wire format encoder) (levels : ℕ) (read : Tag → Decoder Tree) → Takes format levels read
    → (before after : Unread) (x : Tree) → AreByteSized before.bytes
    → (field_list wire read (length before.bytes) (pos 0) >>= λ fields. give (of_struct fields)) before ≡ Ok (x, after)
    → TakenParts format (suc levels) tags.Struct x before after
struct_parts wire format encoder p levels read takes before after x fits e =
    let one = went_on (field_list wire read (length before.bytes) (pos 0) before) (λ fields. give (of_struct fields)) (x, after) e in
    let t = fields_taken wire format encoder p levels read takes (length before.bytes) (pos 0) (search rules) before one.0.1 one.0.0 fits one.1 in
    subst (λ (z : Tree × Unread). TakenParts format (suc levels) tags.Struct z.0 before z.1) (ok_is (of_struct one.0.0, one.0.1) (x, after) one.2)
    (record {
      text = t.text;
      whole = t.moved.whole;
      spells = t.spells;
      kind = refl;
      depth = let d : fields_depth one.0.0 ≤ levels = t.depth in omega arith;
      count = let c : fields_count one.0.0 + one.0.1.budget ≡ before.budget = t.moved.count_is in omega arith;
      bytes = t.end;
    })

parts_taken : (wire : Wire) (format : Format) (encoder : Encoder) (p : IsProtocol wire format encoder) (levels : ℕ) (read : Tag → Decoder Tree)
    → ((l : ℕ) → levels ≡ suc l → Takes format l read) → (tag : Tag) (before after : Unread) (x : Tree) → AreByteSized before.bytes
    → parts wire levels read tag before ≡ Ok (x, after) → TakenParts format levels tag x before after
unfolding parts
parts_taken wire format encoder p levels read takes tags.Bytes before after x fits e =
    let one = went_on (wire.span before) (λ text. give (of_bytes text)) (x, after) e in
    let f = p.span.found before one.0.1 one.0.0 fits one.1 in
    let b = p.span.byte one.0.0 f.text f.spells in
    subst (λ (z : Tree × Unread). TakenParts format levels tags.Bytes z.0 before z.1) (ok_is (of_bytes one.0.0, one.0.1) (x, after) one.2)
    (record {
      text = f.text;
      whole = f.whole;
      spells = f.spells;
      kind = refl;
      depth = omega arith;
      count = let y : one.0.1.budget ≡ before.budget = f.budget in omega arith;
      bytes = b;
    })
parts_taken wire format encoder p zero read takes tags.Struct before after x fits e = absurd cc
parts_taken wire format encoder p (suc l) read takes tags.Struct before after x fits e = struct_parts wire format encoder p l read (takes l refl) before after x fits e
parts_taken wire format encoder p zero read takes tags.Map before after x fits e = absurd cc
parts_taken wire format encoder p (suc l) read takes tags.Map before after x fits e = map_parts wire format encoder p l read (takes l refl) before after x fits e
parts_taken wire format encoder p zero read takes tags.Set before after x fits e = absurd cc
parts_taken wire format encoder p (suc l) read takes tags.Set before after x fits e =
    let t = items_parts wire format encoder p l read (takes l refl) (λ tag xs. of_set tag xs) before after x fits e in
    subst (λ (z : Tree). TakenParts format (suc l) tags.Set z before after) t.made
    (record { text = t.text; whole = t.whole; spells = t.spells; kind = refl; depth = let d : items_depth t.items ≤ l = t.depth in omega arith; count = t.count; bytes = t.bytes })
parts_taken wire format encoder p zero read takes tags.List before after x fits e = absurd cc
parts_taken wire format encoder p (suc l) read takes tags.List before after x fits e =
    let t = items_parts wire format encoder p l read (takes l refl) (λ tag xs. of_list tag xs) before after x fits e in
    subst (λ (z : Tree). TakenParts format (suc l) tags.List z before after) t.made
    (record { text = t.text; whole = t.whole; spells = t.spells; kind = refl; depth = let d : items_depth t.items ≤ l = t.depth in omega arith; count = t.count; bytes = t.bytes })
parts_taken wire format encoder p levels read takes tag before after x fits e =
    let f = (p.scalar tag tt).found before after x fits e in
    scalar_taken format levels tag tt x before after f ((p.scalar tag tt).byte x f.text f.spells)

layer_taken : (wire : Wire) (format : Format) (encoder : Encoder) (p : IsProtocol wire format encoder) (levels : ℕ) (read : Tag → Decoder Tree)
    → ((l : ℕ) → levels ≡ suc l → Takes format l read) → Takes format levels (layer wire levels read)
unfolding layer
layer_taken wire format encoder p levels read takes tag before after x fits e =
    let one = went_on (count_value before) (λ _. parts wire levels read tag) (x, after) e in
    let middle = one.0.1 in
    let c = counted before one.0 one.1 in
    let t = parts_taken wire format encoder p levels read takes tag middle after x (subst AreByteSized (sym c.1) fits) one.2 in
    record {
      text = t.text;
      whole = sym c.1 ∙ t.whole;
      spells = t.spells;
      kind = t.kind;
      depth = t.depth;
      count = let a : suc middle.budget ≡ before.budget = c.0 in let b : count_of x + after.budget ≡ suc middle.budget = t.count in omega arith;
      bytes = t.bytes;
    }

pub value_taken : (wire : Wire) (format : Format) (encoder : Encoder) (p : IsProtocol wire format encoder) (levels : ℕ) → Takes format levels (value wire levels)
unfolding value
value_taken wire format encoder p zero = layer_taken wire format encoder p zero (λ _. fail TooDeep) (λ l e. absurd (zero-suc e))
value_taken wire format encoder p (suc levels) =
    layer_taken wire format encoder p (suc levels) (value wire levels) (λ l e. subst (λ (k : ℕ). Takes format k (value wire levels)) (suc_is e) (value_taken wire format encoder p levels))
