-- What holds of both protocols holds of each.
use Rattle.std.proofs.Common.{◌≡◌, ◌+◌, ◌≤◌, ℕ, List, ◌++◌, length}
use Rattle.envelope.specs.declared.head.Protocol.{Protocol}
use Rattle.envelope.specs.declared.head.Protocol.TheVariants.{Binary, Compact}
use Rattle.thrift_value.specs.declared.tag.Tag.TheVariants.{Struct}
use Rattle.thrift_value.specs.Measures.{depth_of}
use Rattle.thrift_value.specs.Plain.{plain}
use Rattle.thrift_value.specs.Ranges.{IsInRange}
use Rattle.thrift_value.specs.Sizes.{HasSmallSizes}
use Rattle.thrift_value.specs.Tags.{tag_of}
use Rattle.thrift_value.specs.Tidy.{IsWellTagged}
use Rattle.thrift_value.specs.Tree.{Tree}
use Rattle.wire_model.specs.Encoder.{text}
use Rattle.wire_model.specs.Place.{most_levels, struct_at}
use Rattle.call_model.specs.Arguments.{wire_of}
use Rattle.call_model.specs.Replies.{encoder_of}
use Rattle.call_model.proofs.ReadBack.{StructsAreRead}
use Rattle.client_law.proofs.Written.{IsReadOrMany}

pub each_read : StructsAreRead Binary → StructsAreRead Compact → (p : Protocol) → StructsAreRead p
each_read binary compact Binary = binary
each_read binary compact Compact = compact

-- what is written of a struct in a protocol is read, or has too many values
abbrev pub StructsAreReadOrMany : Protocol → Type 0
StructsAreReadOrMany p = (x : Tree) (front more : List ℕ) → IsWellTagged x → IsInRange x → HasSmallSizes x → tag_of x ≡ Struct → depth_of x ≤ most_levels
    → IsReadOrMany (plain x) (length front + length (text (encoder_of p) x)) (struct_at (wire_of p) (front ++ (text (encoder_of p) x ++ more)) (length front))

pub each_written : StructsAreReadOrMany Binary → StructsAreReadOrMany Compact → (p : Protocol) → StructsAreReadOrMany p
each_written binary compact Binary = binary
each_written binary compact Compact = compact
