use Rattle.std.proofs.Common.{◌≡◌, Result, Err, refl, sym, subst}
use Rattle.thrift_value.specs.declared.tag.Tag.{Tag}
use Rattle.thrift_value.specs.declared.tag.Tag.TheVariants as tags
use Rattle.thrift_value.specs.declared.wire_fault.WireFault.{WireFault}
use Rattle.thrift_value.specs.declared.wire_fault.WireFault.TheVariants.{Short}
use Rattle.thrift_value.specs.Tree.{Tree}
use Rattle.wire_model.specs.Answering.{AnswersExactly}
use Rattle.wire_model.specs.Decoder.{Unread}
use Rattle.compact_codec.specs.Reading.{compact_scalar}
use Rattle.compact_codec.proofs.codec.CompactCodec.scalar.Goals as goal

-- the answer for a tag that is known
for_tag : {X : Type 0} (view : X → Tree × Unread) (result : Result X WireFault) (tag known : Tag) (rest : Unread) → tag ≡ known
    → AnswersExactly view result (compact_scalar known rest) → AnswersExactly view result (compact_scalar tag rest)
for_tag view result tag known rest is h = subst (λ t. AnswersExactly view result (compact_scalar t rest)) (sym is) h

-- no other tag is that of a number or a bool
no_scalar : (tag : Tag) (rest : Unread) → (tag ≡ tags.Bool → ⊥) → (tag ≡ tags.I8 → ⊥) → (tag ≡ tags.I16 → ⊥) → (tag ≡ tags.I32 → ⊥) → (tag ≡ tags.I64 → ⊥) → (tag ≡ tags.Double → ⊥) → (tag ≡ tags.Uuid → ⊥)
    → compact_scalar tag rest ≡ Err Short
unfolding compact_scalar
no_scalar tags.Bool rest a b c d e f g = absurd (a refl)
no_scalar tags.I8 rest a b c d e f g = absurd (b refl)
no_scalar tags.I16 rest a b c d e f g = absurd (c refl)
no_scalar tags.I32 rest a b c d e f g = absurd (d refl)
no_scalar tags.I64 rest a b c d e f g = absurd (e refl)
no_scalar tags.Double rest a b c d e f g = absurd (f refl)
no_scalar tags.Bytes rest a b c d e f g = refl
no_scalar tags.Struct rest a b c d e f g = refl
no_scalar tags.Map rest a b c d e f g = refl
no_scalar tags.Set rest a b c d e f g = refl
no_scalar tags.List rest a b c d e f g = refl
no_scalar tags.Uuid rest a b c d e f g = absurd (g refl)

pub returns-in-Bool : goal.returns-in-Bool
returns-in-Bool c = for_tag _ c.bool_value.result c.args.tag _ c.args.rest c.in-Bool.is c.bool_value.ensures

pub returns-in-I8 : goal.returns-in-I8
returns-in-I8 c = for_tag _ c.i8_value.result c.args.tag _ c.args.rest c.in-I8.is c.i8_value.ensures

pub returns-in-I16 : goal.returns-in-I16
returns-in-I16 c = for_tag _ c.i16_value.result c.args.tag _ c.args.rest c.in-I16.is c.i16_value.ensures

pub returns-in-I32 : goal.returns-in-I32
returns-in-I32 c = for_tag _ c.i32_value.result c.args.tag _ c.args.rest c.in-I32.is c.i32_value.ensures

pub returns-in-I64 : goal.returns-in-I64
returns-in-I64 c = for_tag _ c.i64_value.result c.args.tag _ c.args.rest c.in-I64.is c.i64_value.ensures

pub returns-in-Double : goal.returns-in-Double
returns-in-Double c = for_tag _ c.double_value.result c.args.tag _ c.args.rest c.in-Double.is c.double_value.ensures

pub returns-in-Uuid : goal.returns-in-Uuid
returns-in-Uuid c = for_tag _ c.uuid_value.result c.args.tag _ c.args.rest c.in-Uuid.is c.uuid_value.ensures

pub returns-in_default : goal.returns-in_default
returns-in_default c = no_scalar c.args.tag c.args.rest c.in_default.not-Bool c.in_default.not-I8 c.in_default.not-I16 c.in_default.not-I32 c.in_default.not-I64 c.in_default.not-Double c.in_default.not-Uuid
