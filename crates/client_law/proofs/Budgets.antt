-- What reads with more values to come reads the same, unless there are too many values for it now.
use Rattle.std.specs.Prelude.{⊤, ℤ, pos}
use Rattle.std.proofs.Common.{◌≡◌, ◌⊎◌, inl, inr, ℕ, zero, suc, ◌+◌, ◌-◌, Bool, true, false, cond, eqb, List, Result, Ok, Err, refl, sym, ap, ◌∙◌, arith}
use Rattle.std.proofs.lemmas.Bool.{eqb-false, ne_eqb}
use Rattle.thrift_value.specs.declared.tag.Tag.{Tag}
use Rattle.thrift_value.specs.declared.tag.Tag.TheVariants as tags
use Rattle.thrift_value.specs.declared.wire_fault.WireFault.{WireFault}
use Rattle.thrift_value.specs.declared.wire_fault.WireFault.TheVariants.{Short, TooDeep, TooMany}
use Rattle.thrift_value.specs.Tree.{Tree, of_bool, of_bytes, of_struct, of_map, of_set, of_list, FieldTrees, no_fields, field, ItemTrees, no_items, item, PairTrees, no_pairs, pair}
use Rattle.wire_model.specs.Decoder.{Unread, Decoder, go_on, ◌>>=◌, give, fail, room, count_value}
use Rattle.wire_model.specs.Wire.{FieldHeader, stop, typed, flagged, Wire}
use Rattle.wire_model.specs.Reading.{deeper, item_list, pair_list, field_behind, field_list, parts, layer, value}
use Rattle.wire_model.specs.Protocol.{recounted, IsUncounted, ArePartsUncounted}

-- the same bytes, and so many more values that may come
abbrev pub and_values : ℕ → Unread → Unread
and_values more unread = record { bytes = unread.bytes; budget = unread.budget + more }

abbrev pub with_values : {A : Type 0} → ℕ → Result (A × Unread) WireFault → Result (A × Unread) WireFault
with_values more (Ok x) = Ok (x.0, and_values more x.1)
with_values more (Err fault) = Err fault

-- where a reader hasn't too many values, it reads the same with more to come
abbrev pub IsRelieved : {A : Type 0} → (Unread → Result (A × Unread) WireFault) → Type 0
IsRelieved reader = (unread : Unread) (more : ℕ) → (reader unread ≡ Err TooMany) ⊎ (reader (and_values more unread) ≡ with_values more (reader unread))

then_by : {B : Type 0} (q r s : Result (B × Unread) WireFault) (more : ℕ) → q ≡ r
    → (s ≡ Err TooMany) ⊎ (r ≡ with_values more s) → (s ≡ Err TooMany) ⊎ (q ≡ with_values more s)
then_by q r s more e (inl many) = inl many
then_by q r s more e (inr same) = inr (e ∙ same)

go_on_relieved : {A B : Type 0} (r q : Result (A × Unread) WireFault) (f : A → Unread → Result (B × Unread) WireFault) (more : ℕ)
    → (r ≡ Err TooMany) ⊎ (q ≡ with_values more r) → ((x : A) → IsRelieved (f x)) → (go_on r f ≡ Err TooMany) ⊎ (go_on q f ≡ with_values more (go_on r f))
go_on_relieved r q f more (inl many) h = inl (ap (λ (z : Result _ WireFault). go_on z f) many)
go_on_relieved (Ok x) q f more (inr e) h =
    then_by (go_on q f) (f x.0 (and_values more x.1)) (f x.0 x.1) more (ap (λ (z : Result _ WireFault). go_on z f) e) (h x.0 x.1 more)
go_on_relieved (Err d) q f more (inr e) h = inr (ap (λ (z : Result _ WireFault). go_on z f) e)

then_relieved : {A B : Type 0} (reader : Unread → Result (A × Unread) WireFault) (f : A → Unread → Result (B × Unread) WireFault)
    → IsRelieved reader → ((x : A) → IsRelieved (f x)) → IsRelieved (reader >>= f)
then_relieved reader f h k = λ unread more. go_on_relieved (reader unread) (reader (and_values more unread)) f more (h unread more) k

give_relieved : {A : Type 0} (x : A) → IsRelieved (give x)
give_relieved x = λ unread more. inr refl

fail_relieved : {A : Type 0} (fault : WireFault) → IsRelieved {A = A} (fail fault)
fail_relieved fault = λ unread more. inr refl

room_relieved : IsRelieved room
room_relieved = λ unread more. inr refl

-- a part that counts no value
recounted_more : {A : Type 0} (r : Result (A × Unread) WireFault) (n more : ℕ) → with_values more (recounted n r) ≡ recounted (n + more) r
recounted_more (Ok x) n more = refl
recounted_more (Err fault) n more = refl

part_relieved : {A : Type 0} (reader : Unread → Result (A × Unread) WireFault) → IsUncounted reader → IsRelieved reader
part_relieved reader is = λ unread more.
    inr (is unread.bytes unread.budget (unread.budget + more)
    ∙ sym (ap (with_values more) (is unread.bytes unread.budget unread.budget) ∙ recounted_more (reader unread) unread.budget more))

one_counted : List ℕ → ℕ → Result (⊤ × Unread) WireFault
one_counted bytes n = Ok (tt, record { bytes = bytes; budget = n })

counted_if : (b : Bool) (unread : Unread) (more : ℕ) → eqb unread.budget 0 ≡ b
    → (count_value unread ≡ Err TooMany) ⊎ (count_value (and_values more unread) ≡ with_values more (count_value unread))
unfolding one_counted
counted_if true unread more e = inl (ap (λ (b : Bool). cond b (Err TooMany) (one_counted unread.bytes (unread.budget - 1))) e)
counted_if false unread more e =
    let some = eqb-false unread.budget 0 e in
    let more_some : eqb (unread.budget + more) 0 ≡ false = ne_eqb (unread.budget + more) 0 (λ same. some (omega (arith, same))) in
    let less : unread.budget + more - 1 ≡ unread.budget - 1 + more = omega (arith, some) in
    inr (ap (λ (b : Bool). cond b (Err TooMany) (one_counted unread.bytes (unread.budget + more - 1))) more_some
    ∙ ap (one_counted unread.bytes) less
    ∙ sym (ap (λ (b : Bool). with_values more (cond b (Err TooMany) (one_counted unread.bytes (unread.budget - 1)))) e))

counted : IsRelieved count_value
counted = λ unread more. counted_if (eqb unread.budget 0) unread more refl

deeper_relieved : (levels : ℕ) → IsRelieved (deeper levels)
deeper_relieved zero = fail_relieved TooDeep
deeper_relieved (suc levels) = give_relieved tt

module _ (v : Tag → Decoder Tree) (h : (tag : Tag) → IsRelieved (v tag)) where
  items_relieved : (tag : Tag) (count : ℕ) → IsRelieved (item_list v tag count)
  unfolding item_list
  items_relieved tag zero = give_relieved no_items
  items_relieved tag (suc count) =
      then_relieved (v tag) (λ x. item_list v tag count >>= λ xs. give (item x xs)) (h tag) (λ x.
      then_relieved (item_list v tag count) (λ xs. give (item x xs)) (items_relieved tag count) (λ xs. give_relieved (item x xs)))

  pairs_relieved : (k w : Tag) (count : ℕ) → IsRelieved (pair_list v k w count)
  unfolding pair_list
  pairs_relieved k w zero = give_relieved no_pairs
  pairs_relieved k w (suc count) =
      let last : Tree → Tree → PairTrees → Unread → Result (PairTrees × Unread) WireFault = λ y x xs. give (pair y x xs) in
      let second : Tree → Tree → Unread → Result (PairTrees × Unread) WireFault = λ y x. pair_list v k w count >>= last y x in
      let first : Tree → Unread → Result (PairTrees × Unread) WireFault = λ y. v w >>= second y in
      then_relieved (v k) first (h k) (λ y.
      then_relieved (v w) (second y) (h w) (λ x.
      then_relieved (pair_list v k w count) (last y x) (pairs_relieved k w count) (λ xs. give_relieved (pair y x xs))))

  behind_relieved : (others : ℤ → Decoder FieldTrees) → ((id : ℤ) → IsRelieved (others id)) → (header : FieldHeader) → IsRelieved (field_behind v others header)
  unfolding field_behind
  behind_relieved others k stop = give_relieved no_fields
  behind_relieved others k (typed id tag) =
      let last : Tree → FieldTrees → Unread → Result (FieldTrees × Unread) WireFault = λ x xs. give (field id x xs) in
      then_relieved (v tag) (λ x. others id >>= last x) (h tag) (λ x.
      then_relieved (others id) (last x) (k id) (λ xs. give_relieved (field id x xs)))
  behind_relieved others k (flagged id b) =
      let last : FieldTrees → Unread → Result (FieldTrees × Unread) WireFault = λ xs. give (field id (of_bool b) xs) in
      then_relieved count_value (λ _. others id >>= last) counted (λ _.
      then_relieved (others id) last (k id) (λ xs. give_relieved (field id (of_bool b) xs)))

  module _ (wire : Wire) (s : ArePartsUncounted wire) where
    fields_relieved : (most : ℕ) (last : ℤ) → IsRelieved (field_list wire v most last)
    unfolding field_list
    fields_relieved zero last = fail_relieved Short
    fields_relieved (suc most) last =
        then_relieved (wire.field last) (field_behind v (field_list wire v most)) (part_relieved (wire.field last) (s.field last))
        (behind_relieved (field_list wire v most) (λ id. fields_relieved most id))

    struct_relieved : (most : ℕ) → IsRelieved (field_list wire v most (pos 0) >>= λ fs. give (of_struct fs))
    struct_relieved most = then_relieved (field_list wire v most (pos 0)) (λ fs. give (of_struct fs)) (fields_relieved most (pos 0)) (λ fs. give_relieved (of_struct fs))

    parts_relieved : (levels : ℕ) (tag : Tag) → IsRelieved (parts wire levels v tag)
    unfolding parts
    parts_relieved levels tags.Bytes = then_relieved wire.span (λ text. give (of_bytes text)) (part_relieved wire.span s.span) (λ text. give_relieved (of_bytes text))
    parts_relieved levels tags.Struct =
        let rest : ℕ → Unread → Result (Tree × Unread) WireFault = λ most. field_list wire v most (pos 0) >>= λ fs. give (of_struct fs) in
        then_relieved (deeper levels) (λ _. room >>= rest) (deeper_relieved levels) (λ _. then_relieved room rest room_relieved struct_relieved)
    parts_relieved levels tags.Map =
        let last : Tag × Tag × ℕ → PairTrees → Unread → Result (Tree × Unread) WireFault = λ found ps. give (of_map found.0 found.1 ps) in
        let second : Tag × Tag × ℕ → Unread → Result (Tree × Unread) WireFault = λ found. pair_list v found.0 found.1 found.2 >>= last found in
        then_relieved (deeper levels) (λ _. wire.pairs >>= second) (deeper_relieved levels) (λ _.
        then_relieved wire.pairs second (part_relieved wire.pairs s.pairs) (λ found.
        then_relieved (pair_list v found.0 found.1 found.2) (last found) (pairs_relieved found.0 found.1 found.2) (λ ps. give_relieved (of_map found.0 found.1 ps))))
    parts_relieved levels tags.Set =
        let last : Tag × ℕ → ItemTrees → Unread → Result (Tree × Unread) WireFault = λ found xs. give (of_set found.0 xs) in
        let second : Tag × ℕ → Unread → Result (Tree × Unread) WireFault = λ found. item_list v found.0 found.1 >>= last found in
        then_relieved (deeper levels) (λ _. wire.items >>= second) (deeper_relieved levels) (λ _.
        then_relieved wire.items second (part_relieved wire.items s.items) (λ found.
        then_relieved (item_list v found.0 found.1) (last found) (items_relieved found.0 found.1) (λ xs. give_relieved (of_set found.0 xs))))
    parts_relieved levels tags.List =
        let last : Tag × ℕ → ItemTrees → Unread → Result (Tree × Unread) WireFault = λ found xs. give (of_list found.0 xs) in
        let second : Tag × ℕ → Unread → Result (Tree × Unread) WireFault = λ found. item_list v found.0 found.1 >>= last found in
        then_relieved (deeper levels) (λ _. wire.items >>= second) (deeper_relieved levels) (λ _.
        then_relieved wire.items second (part_relieved wire.items s.items) (λ found.
        then_relieved (item_list v found.0 found.1) (last found) (items_relieved found.0 found.1) (λ xs. give_relieved (of_list found.0 xs))))
    parts_relieved levels tags.Bool = part_relieved (wire.scalar tags.Bool) (s.scalar tags.Bool tt)
    parts_relieved levels tags.I8 = part_relieved (wire.scalar tags.I8) (s.scalar tags.I8 tt)
    parts_relieved levels tags.I16 = part_relieved (wire.scalar tags.I16) (s.scalar tags.I16 tt)
    parts_relieved levels tags.I32 = part_relieved (wire.scalar tags.I32) (s.scalar tags.I32 tt)
    parts_relieved levels tags.I64 = part_relieved (wire.scalar tags.I64) (s.scalar tags.I64 tt)
    parts_relieved levels tags.Double = part_relieved (wire.scalar tags.Double) (s.scalar tags.Double tt)
    parts_relieved levels tags.Uuid = part_relieved (wire.scalar tags.Uuid) (s.scalar tags.Uuid tt)

    layer_relieved : (levels : ℕ) (tag : Tag) → IsRelieved (layer wire levels v tag)
    unfolding layer
    layer_relieved levels tag = then_relieved count_value (λ _. parts wire levels v tag) counted (λ _. parts_relieved levels tag)

pub value_relieved : (wire : Wire) → ArePartsUncounted wire → (levels : ℕ) (tag : Tag) → IsRelieved (value wire levels tag)
unfolding value
value_relieved wire s zero tag = layer_relieved (λ _. fail TooDeep) (λ _. fail_relieved TooDeep) wire s zero tag
value_relieved wire s (suc levels) tag = layer_relieved (value wire levels) (λ t. value_relieved wire s levels t) wire s (suc levels) tag
