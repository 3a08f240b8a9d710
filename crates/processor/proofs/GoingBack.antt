-- What may go back is small, and how a field of it is written.
use Rattle.std.proofs.Common.{◌≡◌, ℕ, pos, true, List, ◌++◌, Result, Ok, Err, ap, ◌∙◌, append_assoc}
use Rattle.std.specs.Prelude.{nat_le, ◌&&◌, OnOk}
use Rattle.std.proofs.lemmas.Bool.{and_parts}
use Rattle.schema.specs.PlainKind.{PlainKind}
use Rattle.schema.specs.PlainSchema.{PlainStruct}
use Rattle.struct_skew.specs.TidyTests.{is_tidy, has_small_sizes}
use Rattle.struct_skew.specs.WrittenTests.{is_written_as, may_be_written}
use Rattle.struct_skew.proofs.Deciding.{decides_sizes}
use Rattle.thrift_value.specs.Measures.{depth_of}
use Rattle.thrift_value.specs.Sizes.{HasSmallSizes}
use Rattle.thrift_value.specs.Tree.{Tree}
use Rattle.wire_model.specs.Encoder.{Encoder, behind_heading}
use Rattle.wire_model.specs.Wire.{FieldHeader}
use Rattle.call_model.specs.Replies.{deepest_result, may_go_back}

-- what may go back has lengths and sizes that have an encoding
pub small_where_it_may : (structs : List PlainStruct) (kind : PlainKind) (value : Tree) → may_go_back structs kind value ≡ true → HasSmallSizes value
unfolding may_go_back
small_where_it_may structs kind value is =
    let tidied = and_parts (is_tidy value) (nat_le (depth_of value) deepest_result && may_be_written structs kind value) is in
    let written = and_parts (nat_le (depth_of value) deepest_result) (may_be_written structs kind value) tidied.1 in
    let sized = and_parts (is_written_as structs kind value) (has_small_sizes value) written.1 in
    (decides_sizes value).0 sized.1

-- a field's header, told in two ways, and what stands behind it
pub behind_header : {T E : Type 0} (r : Result T E) (encoder : Encoder) (g h : FieldHeader) (old mid new own : List ℕ) → g ≡ h → mid ≡ old ++ encoder.header (pos 0) g
    → OnOk r (new ≡ mid ++ behind_heading g own) → OnOk r (new ≡ old ++ (encoder.header (pos 0) h ++ behind_heading h own))
behind_header (Ok x) encoder g h old mid new own same first second =
    second
    ∙ ap (λ z. z ++ behind_heading g own) first
    ∙ append_assoc old (encoder.header (pos 0) g) (behind_heading g own)
    ∙ ap (λ (k : FieldHeader). old ++ (encoder.header (pos 0) k ++ behind_heading k own)) same
behind_header (Err e) encoder g h old mid new own same first second = tt
