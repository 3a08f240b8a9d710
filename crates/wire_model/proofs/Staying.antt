-- A result that isn't Short stays, whatever follows the bytes.
use Rattle.std.specs.Prelude.{⊤, ℤ, pos}
use Rattle.std.proofs.Common.{◌≡◌, ◌⊎◌, inl, inr, ℕ, zero, suc, ◌-◌, ◌≤◌, Bool, true, false, cond, eqb, List, ◌++◌, length, drop, Result, Ok, Err, refl, sym, ap, ◌∙◌, arith}
use Rattle.std.proofs.lemmas.List.{length-append, drop-append-le}
use Rattle.thrift_value.specs.declared.tag.Tag.{Tag}
use Rattle.thrift_value.specs.declared.tag.Tag.TheVariants as tags
use Rattle.thrift_value.specs.declared.wire_fault.WireFault.{WireFault}
use Rattle.thrift_value.specs.declared.wire_fault.WireFault.TheVariants.{Short, TooDeep, TooMany}
use Rattle.thrift_value.specs.Tree.{Tree, of_bool, of_bytes, of_struct, of_map, of_set, of_list, FieldTrees, no_fields, field, ItemTrees, no_items, item, PairTrees, no_pairs, pair}
use Rattle.wire_model.specs.Decoder.{Unread, Decoder, go_on, ◌>>=◌, give, fail, room, count_value}
use Rattle.wire_model.specs.Wire.{FieldHeader, stop, typed, flagged, Wire}
use Rattle.wire_model.specs.Reading.{deeper, item_list, pair_list, field_behind, field_list, parts, layer, value}
use Rattle.wire_model.specs.Place.{most_levels, most_values, placed, struct_at}
use Rattle.wire_model.specs.Protocol.{and_more, with_more, StaysAs, ArePartsStable}

-- one step and then the next
then_by : {B : Type 0} (q : Result (B × Unread) WireFault) (r s : Result (B × Unread) WireFault) (more : List ℕ) → q ≡ r
    → (s ≡ Err Short) ⊎ (r ≡ with_more more s) → (s ≡ Err Short) ⊎ (q ≡ with_more more s)
then_by q r s more e (inl short) = inl short
then_by q r s more e (inr same) = inr (e ∙ same)

go_on_stays : {A B : Type 0} (r q : Result (A × Unread) WireFault) (f g : A → Unread → Result (B × Unread) WireFault) (more : List ℕ)
    → (r ≡ Err Short) ⊎ (q ≡ with_more more r) → ((x : A) → StaysAs (f x) (g x)) → (go_on r f ≡ Err Short) ⊎ (go_on q g ≡ with_more more (go_on r f))
go_on_stays r q f g more (inl short) h = inl (ap (λ (z : Result _ WireFault). go_on z f) short)
go_on_stays (Ok x) q f g more (inr e) h =
    then_by (go_on q g) (g x.0 (and_more more x.1)) (f x.0 x.1) more (ap (λ (z : Result _ WireFault). go_on z g) e) (h x.0 x.1 more)
go_on_stays (Err d) q f g more (inr e) h = inr (ap (λ (z : Result _ WireFault). go_on z g) e)

pub then_stays : {A B : Type 0} (one other : Unread → Result (A × Unread) WireFault) (f g : A → Unread → Result (B × Unread) WireFault)
    → StaysAs one other → ((x : A) → StaysAs (f x) (g x)) → StaysAs (one >>= f) (other >>= g)
then_stays one other f g h k = λ unread more. go_on_stays (one unread) (other (and_more more unread)) f g more (h unread more) k

pub give_stays : {A : Type 0} (x : A) → StaysAs (give x) (give x)
give_stays x = λ unread more. inr refl

pub fail_stays : {A : Type 0} (fault : WireFault) → StaysAs {A = A} (fail fault) (fail fault)
fail_stays fault = λ unread more. inr refl

counted_stays_if : (b : Bool) (unread : Unread) (more : List ℕ) → eqb unread.budget 0 ≡ b → (count_value unread ≡ Err Short) ⊎ (count_value (and_more more unread) ≡ with_more more (count_value unread))
counted_stays_if true unread more e =
    inr (ap (λ (b : Bool). cond b (Err TooMany) (Ok (tt, record { bytes = unread.bytes ++ more; budget = unread.budget - 1 }))) e
    ∙ sym (ap (λ (b : Bool). with_more more (cond b (Err TooMany) (Ok (tt, record { bytes = unread.bytes; budget = unread.budget - 1 })))) e))
counted_stays_if false unread more e =
    inr (ap (λ (b : Bool). cond b (Err TooMany) (Ok (tt, record { bytes = unread.bytes ++ more; budget = unread.budget - 1 }))) e
    ∙ sym (ap (λ (b : Bool). with_more more (cond b (Err TooMany) (Ok (tt, record { bytes = unread.bytes; budget = unread.budget - 1 })))) e))

counted_stays : StaysAs count_value count_value
counted_stays = λ unread more. counted_stays_if (eqb unread.budget 0) unread more refl

deeper_stays : (levels : ℕ) → StaysAs (deeper levels) (deeper levels)
deeper_stays zero = fail_stays TooDeep
deeper_stays (suc levels) = give_stays tt

items_stay : (v : Tag → Decoder Tree) → ((tag : Tag) → StaysAs (v tag) (v tag)) → (tag : Tag) (count : ℕ) → StaysAs (item_list v tag count) (item_list v tag count)
unfolding item_list
items_stay v h tag zero = give_stays no_items
items_stay v h tag (suc count) =
    then_stays (v tag) (v tag) (λ x. item_list v tag count >>= λ xs. give (item x xs)) (λ x. item_list v tag count >>= λ xs. give (item x xs)) (h tag) (λ x.
    then_stays (item_list v tag count) (item_list v tag count) (λ xs. give (item x xs)) (λ xs. give (item x xs)) (items_stay v h tag count) (λ xs. give_stays (item x xs)))

pairs_stay : (v : Tag → Decoder Tree) → ((tag : Tag) → StaysAs (v tag) (v tag)) → (k w : Tag) (count : ℕ) → StaysAs (pair_list v k w count) (pair_list v k w count)
unfolding pair_list
pairs_stay v h k w zero = give_stays no_pairs
pairs_stay v h k w (suc count) =
    let last : Tree → Tree → PairTrees → Unread → Result (PairTrees × Unread) WireFault = λ y x xs. give (pair y x xs) in
    let second : Tree → Tree → Unread → Result (PairTrees × Unread) WireFault = λ y x. pair_list v k w count >>= last y x in
    let first : Tree → Unread → Result (PairTrees × Unread) WireFault = λ y. v w >>= second y in
    then_stays (v k) (v k) first first (h k) (λ y.
    then_stays (v w) (v w) (second y) (second y) (h w) (λ x.
    then_stays (pair_list v k w count) (pair_list v k w count) (last y x) (last y x) (pairs_stay v h k w count) (λ xs. give_stays (pair y x xs))))

behind_stays : (v : Tag → Decoder Tree) → ((tag : Tag) → StaysAs (v tag) (v tag)) → (one other : ℤ → Decoder FieldTrees) → ((id : ℤ) → StaysAs (one id) (other id)) → (h : FieldHeader)
    → StaysAs (field_behind v one h) (field_behind v other h)
unfolding field_behind
behind_stays v h one other k stop = give_stays no_fields
behind_stays v h one other k (typed id tag) =
    let last : Tree → FieldTrees → Unread → Result (FieldTrees × Unread) WireFault = λ x xs. give (field id x xs) in
    then_stays (v tag) (v tag) (λ x. one id >>= last x) (λ x. other id >>= last x) (h tag) (λ x.
    then_stays (one id) (other id) (last x) (last x) (k id) (λ xs. give_stays (field id x xs)))
behind_stays v h one other k (flagged id b) =
    let last : FieldTrees → Unread → Result (FieldTrees × Unread) WireFault = λ xs. give (field id (of_bool b) xs) in
    then_stays count_value count_value (λ _. one id >>= last) (λ _. other id >>= last) counted_stays (λ _.
    then_stays (one id) (other id) last last (k id) (λ xs. give_stays (field id (of_bool b) xs)))

-- more headers may come where there are more bytes
fields_stay : (wire : Wire) → ArePartsStable wire → (v : Tag → Decoder Tree) → ((tag : Tag) → StaysAs (v tag) (v tag)) → (most all : ℕ) → most ≤ all → (last : ℤ)
    → StaysAs (field_list wire v most last) (field_list wire v all last)
unfolding field_list
fields_stay wire s v h zero all le last = λ unread more. inl refl
fields_stay wire s v h (suc most) zero le last = absurd (let f : ⊥ = omega arith in f)
fields_stay wire s v h (suc most) (suc all) le last =
    then_stays (wire.field last) (wire.field last) (field_behind v (field_list wire v most)) (field_behind v (field_list wire v all)) (s.field last)
    (behind_stays v h (field_list wire v most) (field_list wire v all) (λ id. fields_stay wire s v h most all (omega arith) id))

fields_in_room_stay : (wire : Wire) → ArePartsStable wire → (v : Tag → Decoder Tree) → ((tag : Tag) → StaysAs (v tag) (v tag))
    → StaysAs (room >>= λ most. field_list wire v most (pos 0) >>= λ fs. give (of_struct fs)) (room >>= λ most. field_list wire v most (pos 0) >>= λ fs. give (of_struct fs))
fields_in_room_stay wire s v h = λ unread more.
    then_stays (field_list wire v (length unread.bytes) (pos 0)) (field_list wire v (length (unread.bytes ++ more)) (pos 0)) (λ fs. give (of_struct fs)) (λ fs. give (of_struct fs))
    (fields_stay wire s v h (length unread.bytes) (length (unread.bytes ++ more)) (omega (arith, length-append unread.bytes more)) (pos 0)) (λ fs. give_stays (of_struct fs)) unread more

parts_stay : (wire : Wire) → ArePartsStable wire → (levels : ℕ) (v : Tag → Decoder Tree) → ((tag : Tag) → StaysAs (v tag) (v tag)) → (tag : Tag) → StaysAs (parts wire levels v tag) (parts wire levels v tag)
unfolding parts
parts_stay wire s levels v h tags.Bytes = then_stays wire.span wire.span (λ text. give (of_bytes text)) (λ text. give (of_bytes text)) s.span (λ text. give_stays (of_bytes text))
parts_stay wire s levels v h tags.Struct =
    let rest : ⊤ → Unread → Result (Tree × Unread) WireFault = λ _. room >>= λ most. field_list wire v most (pos 0) >>= λ fs. give (of_struct fs) in
    then_stays (deeper levels) (deeper levels) rest rest (deeper_stays levels) (λ _. fields_in_room_stay wire s v h)
parts_stay wire s levels v h tags.Map =
    let last : Tag × Tag × ℕ → PairTrees → Unread → Result (Tree × Unread) WireFault = λ found ps. give (of_map found.0 found.1 ps) in
    let second : Tag × Tag × ℕ → Unread → Result (Tree × Unread) WireFault = λ found. pair_list v found.0 found.1 found.2 >>= last found in
    then_stays (deeper levels) (deeper levels) (λ _. wire.pairs >>= second) (λ _. wire.pairs >>= second) (deeper_stays levels) (λ _.
    then_stays wire.pairs wire.pairs second second s.pairs (λ found.
    then_stays (pair_list v found.0 found.1 found.2) (pair_list v found.0 found.1 found.2) (last found) (last found) (pairs_stay v h found.0 found.1 found.2) (λ ps. give_stays (of_map found.0 found.1 ps))))
parts_stay wire s levels v h tags.Set =
    let last : Tag × ℕ → ItemTrees → Unread → Result (Tree × Unread) WireFault = λ found xs. give (of_set found.0 xs) in
    let second : Tag × ℕ → Unread → Result (Tree × Unread) WireFault = λ found. item_list v found.0 found.1 >>= last found in
    then_stays (deeper levels) (deeper levels) (λ _. wire.items >>= second) (λ _. wire.items >>= second) (deeper_stays levels) (λ _.
    then_stays wire.items wire.items second second s.items (λ found.
    then_stays (item_list v found.0 found.1) (item_list v found.0 found.1) (last found) (last found) (items_stay v h found.0 found.1) (λ xs. give_stays (of_set found.0 xs))))
parts_stay wire s levels v h tags.List =
    let last : Tag × ℕ → ItemTrees → Unread → Result (Tree × Unread) WireFault = λ found xs. give (of_list found.0 xs) in
    let second : Tag × ℕ → Unread → Result (Tree × Unread) WireFault = λ found. item_list v found.0 found.1 >>= last found in
    then_stays (deeper levels) (deeper levels) (λ _. wire.items >>= second) (λ _. wire.items >>= second) (deeper_stays levels) (λ _.
    then_stays wire.items wire.items second second s.items (λ found.
    then_stays (item_list v found.0 found.1) (item_list v found.0 found.1) (last found) (last found) (items_stay v h found.0 found.1) (λ xs. give_stays (of_list found.0 xs))))
parts_stay wire s levels v h tags.Bool = s.scalar tags.Bool tt
parts_stay wire s levels v h tags.I8 = s.scalar tags.I8 tt
parts_stay wire s levels v h tags.I16 = s.scalar tags.I16 tt
parts_stay wire s levels v h tags.I32 = s.scalar tags.I32 tt
parts_stay wire s levels v h tags.I64 = s.scalar tags.I64 tt
parts_stay wire s levels v h tags.Double = s.scalar tags.Double tt
parts_stay wire s levels v h tags.Uuid = s.scalar tags.Uuid tt

layer_stays : (wire : Wire) → ArePartsStable wire → (levels : ℕ) (v : Tag → Decoder Tree) → ((tag : Tag) → StaysAs (v tag) (v tag)) → (tag : Tag) → StaysAs (layer wire levels v tag) (layer wire levels v tag)
unfolding layer
layer_stays wire s levels v h tag =
    then_stays count_value count_value (λ _. parts wire levels v tag) (λ _. parts wire levels v tag) counted_stays (λ _. parts_stay wire s levels v h tag)

pub value_stays : (wire : Wire) → ArePartsStable wire → (levels : ℕ) (tag : Tag) → StaysAs (value wire levels tag) (value wire levels tag)
unfolding value
value_stays wire s zero tag = layer_stays wire s zero (λ _. fail TooDeep) (λ _. fail_stays TooDeep) tag
value_stays wire s (suc levels) tag = layer_stays wire s (suc levels) (value wire levels) (λ t. value_stays wire s levels t) tag

-- ---- faults

not_short : {A : Type 0} (r q : Result (A × Unread) WireFault) (more : List ℕ) (fault : WireFault) → r ≡ Err fault → (fault ≡ Short → ⊥)
    → (r ≡ Err Short) ⊎ (q ≡ with_more more r) → q ≡ Err fault
not_short r q more fault e other (inl short) = absurd (other (let same : Err fault ≡ Err Short = sym e ∙ short in cc))
not_short r q more fault e other (inr same) = same ∙ ap (with_more more) e

pub value_fault_stays : (wire : Wire) → ArePartsStable wire → (levels : ℕ) (tag : Tag) (unread : Unread) (more : List ℕ) (fault : WireFault) → value wire levels tag unread ≡ Err fault → (fault ≡ Short → ⊥)
    → value wire levels tag (and_more more unread) ≡ Err fault
value_fault_stays wire s levels tag unread more fault e other =
    not_short (value wire levels tag unread) (value wire levels tag (and_more more unread)) more fault e other (value_stays wire s levels tag unread more)

placed_fault : (size : ℕ) (r : Result (Tree × Unread) WireFault) (fault : WireFault) → placed size r ≡ Err fault → r ≡ Err fault
placed_fault size (Ok x) fault e = absurd cc
placed_fault size (Err d) fault e = cc

pub struct_fault_stays : (wire : Wire) → ArePartsStable wire → (bytes more : List ℕ) (at : ℕ) (fault : WireFault) → at ≤ length bytes → struct_at wire bytes at ≡ Err fault → (fault ≡ Short → ⊥)
    → struct_at wire (bytes ++ more) at ≡ Err fault
struct_fault_stays wire s bytes more at fault within e other =
    let here : Unread = record { bytes = drop at bytes; budget = most_values } in
    let found = placed_fault (length bytes) (value wire most_levels tags.Struct here) fault e in
    ap (λ (t : List ℕ). placed (length (bytes ++ more)) (value wire most_levels tags.Struct (record { bytes = t; budget = most_values }))) (drop-append-le at bytes more within)
    ∙ ap (placed (length (bytes ++ more))) (value_fault_stays wire s most_levels tags.Struct here more fault found other)
