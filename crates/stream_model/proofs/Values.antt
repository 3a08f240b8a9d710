-- The plan of a value follows its decoder.
use Rattle.std.specs.Prelude.{⊤, ℤ, pos, negsuc}
use Rattle.std.specs.Int.{Width, w8, w16, w32, w64, w128, byte_len}
use Rattle.std.proofs.Common.{◌≡◌, ℕ, zero, suc, ◌+◌, ◌-◌, ◌≤◌, ◌<◌, Bool, true, false, cond, eqb, List, length, slice_index, Option, Some, None, Result, Ok, Err, refl, sym, ap, ◌∙◌, subst, arith}
use Rattle.wire_num.specs.Fixed.{unsigned_of, signed_of}
use Rattle.thrift_value.specs.declared.tag.Tag.{Tag}
use Rattle.thrift_value.specs.declared.tag.Tag.TheVariants as tags
use Rattle.thrift_value.specs.declared.wire_fault.WireFault.{WireFault}
use Rattle.thrift_value.specs.declared.wire_fault.WireFault.TheVariants.{Short, BadType, BadSize, TooDeep}
use Rattle.thrift_value.specs.Tree.{Tree, of_bool, of_i8, of_i16, of_i32, of_i64, of_double, of_uuid, of_bytes, of_struct, of_map, of_set, of_list, FieldTrees, no_fields, field, ItemTrees, no_items, item, PairTrees, no_pairs, pair}
use Rattle.wire_model.specs.Decoder.{Unread, Decoder, go_on, ◌>>=◌, give, fail, count_value}
use Rattle.wire_model.specs.Pieces.{byte, some_bytes, within_room, tag_or_fault}
use Rattle.wire_model.specs.Wire.{FieldHeader, stop, typed, flagged, Wire}
use Rattle.wire_model.specs.Reading.{deeper, item_list, pair_list, field_behind, field_list, parts, layer, value}
use Rattle.binary_codec.specs.Codes.{tag_of_code}
use Rattle.binary_codec.specs.Reading.{unsigned, signed, tag_coded, header_coded, binary_field, binary_scalar, unsigned_size, binary_size, binary_span, items_coded, pairs_coded, binary_items, binary_pairs, binary}
use Rattle.stream_model.specs.declared.fault.StreamFault.TheVariants.{Body, TooLong}
use Rattle.stream_model.specs.Plan.{Plan, Values, needs, faulty, counted_plan, opened_plan, byte_plan, size_plan, sized, tag_plan, coded, items_coded_plan, items_header_plan, pairs_coded_plan, pairs_header_plan, items_plan, pairs_plan, fields_plan, parts_plan, value_plan}
use Rattle.stream_model.specs.Progress.{MessageProgress, Refused, progress}
use Rattle.stream_model.proofs.Following.{Meets, Follows, Passes, moved, went, then_follows, then_passes, passes_on, give_follows, give_passes, fail_follows, fail_passes, lacked, meant_meet, meant_follow, some_follow, room_follows, counted_passes}

byte_follows : (max : ℕ) → Follows max byte (λ budget next. byte_plan (λ code. next code budget))
byte_follows max = meant_follow max 1 (λ front. slice_index front 0)

signed_follows : (max : ℕ) (width : Width) → Follows max (signed width) (λ budget next. needs (byte_len width) (λ bytes. next (signed_of width bytes) budget))
signed_follows max width = meant_follow max (byte_len width) (signed_of width)

unsigned_follows : (max : ℕ) (width : Width)
    → Follows max (unsigned width) (λ budget next. needs (byte_len width) (λ bytes. next (unsigned_of width bytes) budget))
unsigned_follows max width = meant_follow max (byte_len width) (unsigned_of width)

-- ---- sizes

size_follows_if : (max : ℕ) (z : ℤ) → Follows max (unsigned_size z >>= within_room) (λ budget next. size_plan (λ size. next size budget) z)
size_follows_if max (pos size) = then_follows max (give size) within_room (λ budget next. next size budget) (λ n budget next. Rattle.stream_model.specs.Plan.room n (next n budget)) (give_follows max size) (λ n. room_follows max n)
size_follows_if max (negsuc _) = λ unread next le. (max - length unread.bytes, refl)

size_follows : (max : ℕ) → Follows max binary_size (λ budget next. sized (λ size. next size budget))
unfolding binary_size
size_follows max =
    then_follows max (signed w32) (λ z. unsigned_size z >>= within_room) (λ budget next. needs 4 (λ bytes. next (signed_of w32 bytes) budget)) (λ z budget next. size_plan (λ size. next size budget) z)
    (signed_follows max w32) (λ z. size_follows_if max z)

span_follows : (max : ℕ) → Follows max binary_span (λ budget next. sized (λ size. needs size (λ text. next text budget)))
unfolding binary_span
span_follows max =
    then_follows max binary_size some_bytes (λ budget next. sized (λ size. next size budget)) (λ size budget next. needs size (λ text. next text budget)) (size_follows max) (λ size. some_follow max size)

-- ---- codes

tag_follows_if : (max code : ℕ) (o : Option Tag) → Follows max (tag_or_fault code o) (λ budget next. tag_plan code (λ tag. next tag budget) o)
tag_follows_if max code (Some tag) = give_follows max tag
tag_follows_if max code None = fail_follows Tag max (BadType code)

tag_follows : (max code : ℕ) → Follows max (tag_coded code) (λ budget next. coded code (λ tag. next tag budget))
unfolding tag_coded
tag_follows max code = tag_follows_if max code (tag_of_code code)

items_follow_if : (max : ℕ) (b : Bool) (code size : ℕ)
    → Follows {A = Tag × ℕ} max (cond b (give (tags.Bool, size)) (tag_coded code >>= λ tag. give (tag, size)))
    (λ budget next. cond b (next (tags.Bool, size) budget) (coded code (λ tag. next (tag, size) budget)))
items_follow_if max true code size = give_follows max (tags.Bool, size)
items_follow_if max false code size =
    then_follows max (tag_coded code) (λ tag. give (tag, size)) (λ budget next. coded code (λ tag. next tag budget)) (λ tag budget next. next (tag, size) budget)
    (tag_follows max code) (λ tag. give_follows max (tag, size))

items_follow : (max : ℕ) → Follows max binary_items (λ budget next. items_header_plan (λ tag size. next (tag, size) budget))
unfolding binary_items
items_follow max =
    then_follows max byte (λ code. binary_size >>= items_coded code) (λ budget next. byte_plan (λ code. next code budget))
    (λ code budget next. sized (λ size. items_coded_plan code size (λ tag n. next (tag, n) budget))) (byte_follows max) (λ code.
    then_follows max binary_size (items_coded code) (λ budget next. sized (λ size. next size budget)) (λ size budget next. items_coded_plan code size (λ tag n. next (tag, n) budget))
    (size_follows max) (λ size. items_follow_if max (eqb size 0) code size))

pairs_follow_if : (max : ℕ) (b : Bool) (key val size : ℕ)
    → Follows {A = Tag × Tag × ℕ} max (cond b (give (tags.Bool, tags.Bool, size)) (tag_coded key >>= λ key_tag. tag_coded val >>= λ value_tag. give (key_tag, value_tag, size)))
    (λ budget next. cond b (next (tags.Bool, tags.Bool, size) budget) (coded key (λ key_tag. coded val (λ value_tag. next (key_tag, value_tag, size) budget))))
pairs_follow_if max true key val size = give_follows max (tags.Bool, tags.Bool, size)
pairs_follow_if max false key val size =
    then_follows max (tag_coded key) (λ key_tag. tag_coded val >>= λ value_tag. give (key_tag, value_tag, size)) (λ budget next. coded key (λ tag. next tag budget))
    (λ key_tag budget next. coded val (λ value_tag. next (key_tag, value_tag, size) budget)) (tag_follows max key) (λ key_tag.
    then_follows max (tag_coded val) (λ value_tag. give (key_tag, value_tag, size)) (λ budget next. coded val (λ tag. next tag budget)) (λ value_tag budget next. next (key_tag, value_tag, size) budget)
    (tag_follows max val) (λ value_tag. give_follows max (key_tag, value_tag, size)))

pairs_follow : (max : ℕ) → Follows max binary_pairs (λ budget next. pairs_header_plan (λ key value size. next (key, value, size) budget))
unfolding binary_pairs
pairs_follow max =
    then_follows max byte (λ key. byte >>= λ val. binary_size >>= λ size. pairs_coded key val size) (λ budget next. byte_plan (λ code. next code budget))
    (λ key budget next. byte_plan (λ val. sized (λ size. pairs_coded_plan key val size (λ k v n. next (k, v, n) budget)))) (byte_follows max) (λ key.
    then_follows max byte (λ val. binary_size >>= λ size. pairs_coded key val size) (λ budget next. byte_plan (λ code. next code budget))
    (λ val budget next. sized (λ size. pairs_coded_plan key val size (λ k v n. next (k, v, n) budget))) (byte_follows max) (λ val.
    then_follows max binary_size (λ size. pairs_coded key val size) (λ budget next. sized (λ size. next size budget)) (λ size budget next. pairs_coded_plan key val size (λ k v n. next (k, v, n) budget))
    (size_follows max) (λ size. pairs_follow_if max (eqb size 0) key val size)))

-- ---- elements

abbrev AllPass : ℕ → (Tag → Decoder Tree) → Values → Type 0
AllPass max v vp = (tag : Tag) → Passes max (v tag) (vp tag)

items_pass : (max : ℕ) (v : Tag → Decoder Tree) (vp : Values) → AllPass max v vp → (tag : Tag) (count : ℕ)
    → Passes max (item_list v tag count) (items_plan vp tag count)
unfolding item_list
items_pass max v vp h tag zero = give_passes max no_items
items_pass max v vp h tag (suc count) =
    passes_on max (v tag) (λ x. item_list v tag count >>= λ xs. give (item x xs)) (vp tag) (items_plan vp tag count) (h tag) (λ x.
    passes_on max (item_list v tag count) (λ xs. give (item x xs)) (items_plan vp tag count) (λ budget next. next budget) (items_pass max v vp h tag count) (λ xs. give_passes max (item x xs)))

pairs_pass : (max : ℕ) (v : Tag → Decoder Tree) (vp : Values) → AllPass max v vp → (k w : Tag) (count : ℕ)
    → Passes max (pair_list v k w count) (pairs_plan vp k w count)
unfolding pair_list
pairs_pass max v vp h k w zero = give_passes max no_pairs
pairs_pass max v vp h k w (suc count) =
    passes_on max (v k) (λ y. v w >>= λ x. pair_list v k w count >>= λ xs. give (pair y x xs)) (vp k) (λ budget next. vp w budget (λ c. pairs_plan vp k w count c next)) (h k) (λ y.
    passes_on max (v w) (λ x. pair_list v k w count >>= λ xs. give (pair y x xs)) (vp w) (pairs_plan vp k w count) (h w) (λ x.
    passes_on max (pair_list v k w count) (λ xs. give (pair y x xs)) (pairs_plan vp k w count) (λ budget next. next budget) (pairs_pass max v vp h k w count) (λ xs. give_passes max (pair y x xs))))

-- ---- fields

abbrev header_plan : ℕ → (FieldHeader → Plan) → Plan
header_plan code next = cond (eqb code 0) (next stop) (coded code (λ tag. needs 2 (λ bytes. next (typed (signed_of w16 bytes) tag))))

header_follows_if : (max : ℕ) (b : Bool) (code : ℕ) → Follows max (cond b (give stop) (tag_coded code >>= λ tag. signed w16 >>= λ id. give (typed id tag)))
    (λ budget next. cond b (next stop budget) (coded code (λ tag. needs 2 (λ bytes. next (typed (signed_of w16 bytes) tag) budget))))
header_follows_if max true code = give_follows max stop
header_follows_if max false code =
    then_follows max (tag_coded code) (λ tag. signed w16 >>= λ id. give (typed id tag)) (λ budget next. coded code (λ tag. next tag budget))
    (λ tag budget next. needs 2 (λ bytes. next (typed (signed_of w16 bytes) tag) budget)) (tag_follows max code) (λ tag.
    then_follows max (signed w16) (λ id. give (typed id tag)) (λ budget next. needs 2 (λ bytes. next (signed_of w16 bytes) budget)) (λ id budget next. next (typed id tag) budget)
    (signed_follows max w16) (λ id. give_follows max (typed id tag)))

-- a header takes a byte at least
field_meets : (max : ℕ) (last : ℤ) (unread : Unread) (next : FieldHeader → ℕ → Plan) → length unread.bytes ≤ max
    → Meets max (length unread.bytes - 1) next (binary_field last unread) (progress max (max - length unread.bytes) (byte_plan (λ code. header_plan code (λ h. next h unread.budget))) unread.bytes)
unfolding binary_field
field_meets max last unread next le =
    went max (length unread.bytes - 1) (byte unread) header_coded (λ code budget. header_plan code (λ h. next h budget)) next
    (progress max (max - length unread.bytes) (byte_plan (λ code. header_plan code (λ h. next h unread.budget))) unread.bytes)
    (meant_meet max 1 (λ front. slice_index front 0) unread (λ code budget. header_plan code (λ h. next h budget)) le)
    (λ code u within. header_follows_if max (eqb code 0) code u next (omega arith))

-- what follows a header
abbrev behind_plan : Values → (ℕ → (ℕ → Plan) → Plan) → FieldHeader → ℕ → (ℕ → Plan) → Plan
behind_plan vp others stop budget next = next budget
behind_plan vp others (typed id tag) budget next = vp tag budget (λ b. others b next)
behind_plan vp others (flagged id flag) budget next = counted_plan budget (λ b. others b next)

-- the same, of bytes that are at most so many
abbrev PassesWithin : {A : Type 0} → ℕ → ℕ → (Unread → Result (A × Unread) WireFault) → (ℕ → (ℕ → Plan) → Plan) → Type 0
PassesWithin max most decoder plan = (unread : Unread) (next : ℕ → Plan) → length unread.bytes ≤ max → length unread.bytes ≤ most
    → Meets max (length unread.bytes) (λ _. next) (decoder unread) (progress max (max - length unread.bytes) (plan unread.budget next) unread.bytes)

then_within : {A B : Type 0} (max most : ℕ) (d : Unread → Result (A × Unread) WireFault) (f : A → Unread → Result (B × Unread) WireFault) (p q : ℕ → (ℕ → Plan) → Plan)
    → Passes max d p → ((x : A) → PassesWithin max most (f x) q) → PassesWithin max most (d >>= f) (λ budget next. p budget (λ b. q b next))
then_within max most d f p q h k = λ unread next le few.
    went max (length unread.bytes) (d unread) f (λ _ b. q b next) (λ _. next) (progress max (max - length unread.bytes) (p unread.budget (λ b. q b next)) unread.bytes)
    (h unread (λ b. q b next) le) (λ x u within. k x u next (omega arith) (omega arith))

give_behind : {A B : Type 0} (max most : ℕ) (d : Unread → Result (A × Unread) WireFault) (g : A → B) (p : ℕ → (ℕ → Plan) → Plan)
    → PassesWithin max most d p → PassesWithin max most (d >>= λ x. give (g x)) p
give_behind max most d g p h = λ unread next le few.
    went max (length unread.bytes) (d unread) (λ x. give (g x)) (λ _. next) (λ _. next) (progress max (max - length unread.bytes) (p unread.budget next) unread.bytes)
    (h unread next le few) (λ x u within. (refl, omega arith))

behind_passes : (max most : ℕ) (v : Tag → Decoder Tree) (vp : Values) → AllPass max v vp → (others : ℤ → Decoder FieldTrees) (p : ℕ → (ℕ → Plan) → Plan)
    → ((id : ℤ) → PassesWithin max most (others id) p) → (h : FieldHeader) → PassesWithin max most (field_behind v others h) (behind_plan vp p h)
unfolding field_behind
behind_passes max most v vp all others p rest stop = λ unread next le few. (refl, omega arith)
behind_passes max most v vp all others p rest (typed id tag) =
    then_within max most (v tag) (λ x. others id >>= λ more. give (field id x more)) (vp tag) p (all tag) (λ x. give_behind max most (others id) (λ more. field id x more) p (rest id))
behind_passes max most v vp all others p rest (flagged id flag) =
    then_within max most count_value (λ one. others id >>= λ more. give (field id (of_bool flag) more)) (λ budget next. counted_plan budget next) p (counted_passes max)
    (λ one. give_behind max most (others id) (λ more. field id (of_bool flag) more) p (rest id))

fields_pass : (max : ℕ) (v : Tag → Decoder Tree) (vp : Values) → AllPass max v vp → (most fuel : ℕ) → most ≤ fuel → (last : ℤ)
    → PassesWithin max most (field_list binary v most last) (fields_plan vp fuel)
unfolding field_list
fields_pass max v vp all zero zero le last = λ unread next within few. (max - length unread.bytes, refl)
fields_pass max v vp all zero (suc fuel) le last = λ unread next within few.
    (max - length unread.bytes, lacked max 1 (λ bytes. header_plan (slice_index bytes 0) (λ h. behind_plan vp (fields_plan vp fuel) h unread.budget next)) unread.bytes (omega arith) within)
fields_pass max v vp all (suc most) zero le last = absurd (let f : ⊥ = omega arith in f)
fields_pass max v vp all (suc most) (suc fuel) le last = λ unread next within few.
    moved max (length unread.bytes - 1) (length unread.bytes) (λ _. next) (field_list binary v (suc most) last unread)
    (progress max (max - length unread.bytes) (fields_plan vp (suc fuel) unread.budget next) unread.bytes)
    (progress max (max - length unread.bytes) (fields_plan vp (suc fuel) unread.budget next) unread.bytes) (omega arith) refl
    (went max (length unread.bytes - 1) (binary_field last unread) (field_behind v (field_list binary v most)) (λ h b. behind_plan vp (fields_plan vp fuel) h b next) (λ _. next)
    (progress max (max - length unread.bytes) (fields_plan vp (suc fuel) unread.budget next) unread.bytes)
    (field_meets max last unread (λ h b. behind_plan vp (fields_plan vp fuel) h b next) within)
    (λ h u short. behind_passes max most v vp all (field_list binary v most) (fields_plan vp fuel) (λ id. fields_pass max v vp all most fuel (omega arith) id) h u next (omega arith) (omega arith)))

-- ---- parts

deeper_passes : (max levels : ℕ) → Passes max (deeper levels) (λ budget next. opened_plan levels (next budget))
deeper_passes max zero = fail_passes ⊤ max TooDeep
deeper_passes max (suc levels) = λ unread next le. (refl, omega arith)

parts_pass : (max levels : ℕ) (v : Tag → Decoder Tree) (vp : Values) → AllPass max v vp → (tag : Tag)
    → Passes max (parts binary levels v tag) (parts_plan max levels vp tag)
unfolding parts binary_scalar
parts_pass max levels v vp all tags.Bytes =
    then_passes max binary_span (λ text. give (of_bytes text)) (λ budget next. sized (λ size. needs size (λ text. next text budget))) (λ text budget next. next budget) (span_follows max) (λ text. give_passes max (of_bytes text))
parts_pass max levels v vp all tags.Struct =
    passes_on max (deeper levels) (λ level. Rattle.wire_model.specs.Decoder.room >>= λ most. field_list binary v most (pos 0) >>= λ fields. give (of_struct fields))
    (λ budget next. opened_plan levels (next budget)) (fields_plan vp max) (deeper_passes max levels) (λ level unread next le.
    give_behind max (length unread.bytes) (field_list binary v (length unread.bytes) (pos 0)) (λ fields. of_struct fields) (fields_plan vp max)
    (fields_pass max v vp all (length unread.bytes) max le (pos 0)) unread next le (omega arith))
parts_pass max levels v vp all tags.Map =
    passes_on max (deeper levels) (λ level. binary_pairs >>= λ found. pair_list v found.0 found.1 found.2 >>= λ ps. give (of_map found.0 found.1 ps))
    (λ budget next. opened_plan levels (next budget)) (λ budget next. pairs_header_plan (λ key_tag value_tag size. pairs_plan vp key_tag value_tag size budget next)) (deeper_passes max levels) (λ level.
    then_passes max binary_pairs (λ found. pair_list v found.0 found.1 found.2 >>= λ ps. give (of_map found.0 found.1 ps)) (λ budget next. pairs_header_plan (λ key value size. next (key, value, size) budget))
    (λ found. pairs_plan vp found.0 found.1 found.2) (pairs_follow max) (λ found.
    passes_on max (pair_list v found.0 found.1 found.2) (λ ps. give (of_map found.0 found.1 ps)) (pairs_plan vp found.0 found.1 found.2) (λ budget next. next budget)
    (pairs_pass max v vp all found.0 found.1 found.2) (λ ps. give_passes max (of_map found.0 found.1 ps))))
parts_pass max levels v vp all tags.Set =
    passes_on max (deeper levels) (λ level. binary_items >>= λ found. item_list v found.0 found.1 >>= λ xs. give (of_set found.0 xs))
    (λ budget next. opened_plan levels (next budget)) (λ budget next. items_header_plan (λ tag size. items_plan vp tag size budget next)) (deeper_passes max levels) (λ level.
    then_passes max binary_items (λ found. item_list v found.0 found.1 >>= λ xs. give (of_set found.0 xs)) (λ budget next. items_header_plan (λ tag size. next (tag, size) budget))
    (λ found. items_plan vp found.0 found.1) (items_follow max) (λ found.
    passes_on max (item_list v found.0 found.1) (λ xs. give (of_set found.0 xs)) (items_plan vp found.0 found.1) (λ budget next. next budget)
    (items_pass max v vp all found.0 found.1) (λ xs. give_passes max (of_set found.0 xs))))
parts_pass max levels v vp all tags.List =
    passes_on max (deeper levels) (λ level. binary_items >>= λ found. item_list v found.0 found.1 >>= λ xs. give (of_list found.0 xs))
    (λ budget next. opened_plan levels (next budget)) (λ budget next. items_header_plan (λ tag size. items_plan vp tag size budget next)) (deeper_passes max levels) (λ level.
    then_passes max binary_items (λ found. item_list v found.0 found.1 >>= λ xs. give (of_list found.0 xs)) (λ budget next. items_header_plan (λ tag size. next (tag, size) budget))
    (λ found. items_plan vp found.0 found.1) (items_follow max) (λ found.
    passes_on max (item_list v found.0 found.1) (λ xs. give (of_list found.0 xs)) (items_plan vp found.0 found.1) (λ budget next. next budget)
    (items_pass max v vp all found.0 found.1) (λ xs. give_passes max (of_list found.0 xs))))
parts_pass max levels v vp all tags.Bool =
    then_passes max byte (λ b. give (of_bool (eqb b 1))) (λ budget next. byte_plan (λ code. next code budget)) (λ b budget next. next budget) (byte_follows max) (λ b. give_passes max (of_bool (eqb b 1)))
parts_pass max levels v vp all tags.I8 =
    then_passes max (signed w8) (λ n. give (of_i8 n)) (λ budget next. needs 1 (λ bytes. next (signed_of w8 bytes) budget)) (λ n budget next. next budget) (signed_follows max w8) (λ n. give_passes max (of_i8 n))
parts_pass max levels v vp all tags.I16 =
    then_passes max (signed w16) (λ n. give (of_i16 n)) (λ budget next. needs 2 (λ bytes. next (signed_of w16 bytes) budget)) (λ n budget next. next budget) (signed_follows max w16) (λ n. give_passes max (of_i16 n))
parts_pass max levels v vp all tags.I32 =
    then_passes max (signed w32) (λ n. give (of_i32 n)) (λ budget next. needs 4 (λ bytes. next (signed_of w32 bytes) budget)) (λ n budget next. next budget) (signed_follows max w32) (λ n. give_passes max (of_i32 n))
parts_pass max levels v vp all tags.I64 =
    then_passes max (signed w64) (λ n. give (of_i64 n)) (λ budget next. needs 8 (λ bytes. next (signed_of w64 bytes) budget)) (λ n budget next. next budget) (signed_follows max w64) (λ n. give_passes max (of_i64 n))
parts_pass max levels v vp all tags.Double =
    then_passes max (unsigned w64) (λ n. give (of_double n)) (λ budget next. needs 8 (λ bytes. next (unsigned_of w64 bytes) budget)) (λ n budget next. next budget) (unsigned_follows max w64) (λ n. give_passes max (of_double n))
parts_pass max levels v vp all tags.Uuid =
    then_passes max (unsigned w128) (λ n. give (of_uuid n)) (λ budget next. needs 16 (λ bytes. next (unsigned_of w128 bytes) budget)) (λ n budget next. next budget) (unsigned_follows max w128) (λ n. give_passes max (of_uuid n))

layer_passes : (max levels : ℕ) (v : Tag → Decoder Tree) (vp : Values) → AllPass max v vp → (tag : Tag)
    → Passes max (layer binary levels v tag) (λ budget next. counted_plan budget (λ b. parts_plan max levels vp tag b next))
unfolding layer
layer_passes max levels v vp all tag =
    passes_on max count_value (λ one. parts binary levels v tag) (λ budget next. counted_plan budget next) (parts_plan max levels vp tag) (counted_passes max) (λ one. parts_pass max levels v vp all tag)

pub value_passes : (max levels : ℕ) (tag : Tag) → Passes max (value binary levels tag) (value_plan max levels tag)
unfolding value
value_passes max zero tag = layer_passes max zero (λ other. fail TooDeep) (λ other c more. faulty (Body TooDeep)) (λ other. fail_passes Tree max TooDeep) tag
value_passes max (suc levels) tag = layer_passes max (suc levels) (value binary levels) (value_plan max levels) (λ t. value_passes max levels t) tag
