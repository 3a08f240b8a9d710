-- Reading the struct at a place of the bytes, and the bounds on what is read.
use Rattle.std.specs.Prelude.{◌≡◌, ◌≤◌, ℕ, ◌+◌, ◌-◌, List, ◌++◌, length, drop, Result, Ok, Err}
use Rattle.thrift_value.specs.declared.wire_fault.WireFault.{WireFault}
use Rattle.thrift_value.specs.declared.tag.Tag.{Tag}
use Rattle.thrift_value.specs.declared.tag.Tag.TheVariants.{Struct}
use Rattle.thrift_value.specs.Tree.{Tree}
use Rattle.thrift_value.specs.Tags.{tag_of}
use Rattle.thrift_value.specs.Measures.{depth_of, count_of}
use Rattle.wire_model.specs.Decoder.{Unread}
use Rattle.wire_model.specs.Wire.{Wire}
use Rattle.wire_model.specs.Reading.{value}
use Rattle.wire_model.specs.Format.{Format, Spells}
pub use Rattle.limits.specs.Limits.{most_levels, most_values}

-- what was read, with the place behind it in bytes of this length
abbrev pub placed : ℕ → Result (Tree × Unread) WireFault → Result (Tree × ℕ) WireFault
placed size (Ok x) = Ok (x.0, size - length x.1.bytes)
placed size (Err fault) = Err fault

-- this struct, with this place behind it
abbrev pub found_struct : Tree → ℕ → Result (Tree × ℕ) WireFault
found_struct x behind = Ok (x, behind)

-- the struct at a place and the place behind it, or the fault that comes first
abbrev pub struct_at : Wire → List ℕ → ℕ → Result (Tree × ℕ) WireFault
struct_at wire bytes at =
    placed (length bytes) (value wire most_levels Struct (record { bytes = drop at bytes; budget = most_values }))

-- a struct that may be read
pub record IsWithinBounds (x : Tree) : Type 0 where
  pub is_struct : tag_of x ≡ Struct
  pub depth : depth_of x ≤ most_levels
  pub count : count_of x ≤ most_values

-- a spelling of the value stands at a place, up to the place behind it
pub record IsEncodedAt (format : Format) (bytes : List ℕ) (at : ℕ) (x : Tree) (behind : ℕ) : Type 0 where
  pub text : List ℕ
  pub more : List ℕ
  pub within : at ≤ length bytes
  pub whole : drop at bytes ≡ text ++ more
  pub spells : Spells format x text
  pub end : behind ≡ at + length text

-- What reading a value of a tag took: the bytes that spell it, and its number of values of those that may still come. It
-- has no more levels than may be opened, and no more values than bytes.
pub record TakenOff (format : Format) (levels : ℕ) (tag : Tag) (x : Tree) (before after : Unread) : Type 0 where
  pub text : List ℕ
  pub whole : before.bytes ≡ text ++ after.bytes
  pub spells : Spells format x text
  pub kind : tag_of x ≡ tag
  pub depth : depth_of x ≤ levels
  pub count : count_of x + after.budget ≡ before.budget
  pub bytes : count_of x ≤ length text
