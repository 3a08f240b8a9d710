-- What a message asks for, item by item (Thrift binary protocol, 'Message', 'Struct', 'List and Set', 'Map').
use Rattle.std.specs.Prelude.{ℕ, zero, suc, ℤ, pos, negsuc, List, slice_index, Option, Some, None, ◌==◌, ◌&&◌, ◌||◌, if◌then◌else◌}
use Rattle.std.specs.Int.{w32}
use Rattle.wire_num.specs.Fixed.{unsigned_of, signed_of}
use Rattle.streams.specs.declared.outcomes.EnvelopeFault.TheVariants.{Version, NameSize, MessageType}
use Rattle.thrift_value.specs.declared.tag.Tag.{Tag}
use Rattle.thrift_value.specs.declared.tag.Tag.TheVariants as tags
use Rattle.thrift_value.specs.declared.wire_fault.WireFault.TheVariants.{BadType, BadSize, TooDeep, TooMany}
use Rattle.wire_model.specs.Place.{most_levels, most_values}
use Rattle.binary_codec.specs.Codes.{tag_of_code}
use Rattle.binary_codec.specs.Faults.{scalar_len}
use Rattle.envelope.specs.Said.{call, call_without_reply}
use Rattle.envelope.specs.Spelling.{strict_mark, strict_version}
use Rattle.stream_model.specs.declared.fault.StreamFault.{StreamFault}
use Rattle.stream_model.specs.declared.fault.StreamFault.TheVariants.{Envelope, Body, TooLong}

-- so many bytes, and then by what they are; room for so many bytes at least; a fault; or the end
pub data Plan : Type 0 where
  needs : (count : ℕ) (next : List ℕ → Plan) → Plan
  room : (count : ℕ) (next : Plan) → Plan
  faulty : (fault : StreamFault) → Plan
  ends : Plan

-- one more value, of so many that may still come
abbrev pub counted_plan : ℕ → (ℕ → Plan) → Plan
counted_plan zero next = faulty (Body TooMany)
counted_plan (suc budget) next = next budget

-- one more level, of so many that may still be opened
abbrev pub opened_plan : ℕ → Plan → Plan
opened_plan zero next = faulty (Body TooDeep)
opened_plan (suc levels) next = next

-- a byte
abbrev pub byte_plan : (ℕ → Plan) → Plan
byte_plan next = needs 1 (λ bytes. next (slice_index bytes 0))

-- a length or size that isn't negative, of bytes or of elements, each of which is a byte at least
abbrev pub size_plan : (ℕ → Plan) → ℤ → Plan
size_plan next (pos size) = room size (next size)
size_plan next (negsuc _) = faulty (Body BadSize)

abbrev pub sized : (ℕ → Plan) → Plan
sized next = needs 4 (λ bytes. size_plan next (signed_of w32 bytes))

-- the tag of a code
abbrev pub tag_plan : ℕ → (Tag → Plan) → Option Tag → Plan
tag_plan code next (Some tag) = next tag
tag_plan code next None = faulty (Body (BadType code))

abbrev pub coded : ℕ → (Tag → Plan) → Plan
coded code next = tag_plan code next (tag_of_code code)

-- the header of a list or set: an empty one has the tag bool
abbrev pub items_coded_plan : ℕ → ℕ → (Tag → ℕ → Plan) → Plan
items_coded_plan code size next = if size == 0 then next tags.Bool size else coded code (λ tag. next tag size)

abbrev pub items_header_plan : (Tag → ℕ → Plan) → Plan
items_header_plan next = byte_plan (λ code. sized (λ size. items_coded_plan code size next))

-- the header of a map, alike
abbrev pub pairs_coded_plan : ℕ → ℕ → ℕ → (Tag → Tag → ℕ → Plan) → Plan
pairs_coded_plan key value size next =
    if size == 0 then next tags.Bool tags.Bool size else coded key (λ key_tag. coded value (λ value_tag. next key_tag value_tag size))

abbrev pub pairs_header_plan : (Tag → Tag → ℕ → Plan) → Plan
pairs_header_plan next = byte_plan (λ key. byte_plan (λ value. sized (λ size. pairs_coded_plan key value size next)))

-- the plans of values: of a tag, with so many values that may still come, and what follows by how many may come then
abbrev pub Values : Type 0
Values = Tag → ℕ → (ℕ → Plan) → Plan

abbrev pub items_plan : Values → Tag → ℕ → ℕ → (ℕ → Plan) → Plan
items_plan value tag zero budget next = next budget
items_plan value tag (suc count) budget next = value tag budget (λ b. items_plan value tag count b next)

abbrev pub pairs_plan : Values → Tag → Tag → ℕ → ℕ → (ℕ → Plan) → Plan
pairs_plan value key_tag value_tag zero budget next = next budget
pairs_plan value key_tag value_tag (suc count) budget next =
    value key_tag budget (λ b. value value_tag b (λ c. pairs_plan value key_tag value_tag count c next))

-- A field's head, and its value and the fields behind it. Each head takes a byte at least, so there are at most `most` of them
abbrev pub fields_plan : Values → ℕ → ℕ → (ℕ → Plan) → Plan
fields_plan value zero budget next = faulty TooLong
fields_plan value (suc most) budget next =
    byte_plan (λ code. if code == 0 then next budget else coded code (λ tag. needs 2 (λ id. value tag budget (λ b. fields_plan value most b next))))

-- what a value of each tag holds
abbrev pub parts_plan : ℕ → ℕ → Values → Values
parts_plan most levels value tags.Bytes budget next = sized (λ size. needs size (λ text. next budget))
parts_plan most levels value tags.Struct budget next = opened_plan levels (fields_plan value most budget next)
parts_plan most levels value tags.Map budget next = opened_plan levels (pairs_header_plan (λ key_tag value_tag size. pairs_plan value key_tag value_tag size budget next))
parts_plan most levels value tags.Set budget next = opened_plan levels (items_header_plan (λ tag size. items_plan value tag size budget next))
parts_plan most levels value tags.List budget next = opened_plan levels (items_header_plan (λ tag size. items_plan value tag size budget next))
parts_plan most levels value tag budget next = needs (scalar_len tag) (λ number. next budget)

-- a value, with so many levels that may still be opened
abbrev pub value_plan : ℕ → ℕ → Values
value_plan most zero tag budget next = counted_plan budget (λ b. parts_plan most zero (λ other c more. faulty (Body TooDeep)) tag b next)
value_plan most (suc levels) tag budget next = counted_plan budget (λ b. parts_plan most (suc levels) (value_plan most levels) tag b next)

-- behind a head of this type the struct of the arguments
abbrev pub call_plan : ℕ → ℕ → Plan
call_plan most kind =
    if kind == call || kind == call_without_reply then value_plan most most_levels tags.Struct most_values (λ budget. ends) else faulty (Envelope (MessageType kind))

-- a name of this length
abbrev pub name_plan : Plan → ℤ → Plan
name_plan next (pos size) = needs size (λ name. next)
name_plan next (negsuc _) = faulty (Envelope NameSize)

abbrev pub strict_plan : ℕ → List ℕ → Plan
strict_plan most first =
    if slice_index first 0 == strict_mark && slice_index first 1 == strict_version
    then needs 4 (λ bytes. name_plan (needs 4 (λ id. call_plan most (slice_index first 3))) (signed_of w32 bytes))
    else faulty (Envelope (Version (unsigned_of w32 first)))

abbrev pub old_plan : ℕ → ℤ → Plan
old_plan most size = name_plan (byte_plan (λ kind. needs 4 (λ id. call_plan most kind))) size

abbrev pub either_plan : ℕ → ℤ → List ℕ → Plan
either_plan most (pos size) first = old_plan most (pos size)
either_plan most (negsuc _) first = strict_plan most first

-- a message of at most `most` bytes
abbrev pub message_plan : ℕ → Plan
message_plan most = needs 4 (λ first. either_plan most (signed_of w32 first) first)
