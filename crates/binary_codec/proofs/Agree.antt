-- The parts together.
use Rattle.std.specs.Prelude.{ℕ, ℤ, FitsSigned}
use Rattle.std.specs.Int.{w16, w32}
use Rattle.std.proofs.Common.{◌≡◌, ◌++◌, List, length, Ok, refl, subst}
use Rattle.thrift_value.specs.declared.tag.Tag.{Tag}
use Rattle.thrift_value.specs.Tags.{tag_of}
use Rattle.thrift_value.specs.Tree.{Tree, of_bool}
use Rattle.wire_model.specs.Wire.{FieldHeader, stop, typed, flagged, IsScalar}
use Rattle.wire_num.specs.Fixed.{unsigned_bytes}
use Rattle.wire_model.specs.Protocol.{DecodesPart, IsFlaggedBy, IsProtocol}
use Rattle.wire_model.specs.Encoder.{heading}
use Rattle.binary_codec.specs.Faults.{HasHeaderFault, HasScalarFault, HasSizeFault, HasItemsFault, HasPairsFault}
use Rattle.binary_codec.specs.Reading.{binary_field, binary_scalar, binary_span, binary_items, binary_pairs, binary}
use Rattle.binary_codec.specs.Spelling.{IsHeader, IsScalarText, IsSpan, IsItems, IsPairs, binary_format}
use Rattle.binary_codec.specs.Written.{header_text, binary_encoder}
use Rattle.binary_codec.proofs.Leaves.{field_found, field_only, field_byte, span_found, span_only, span_byte}
use Rattle.binary_codec.proofs.Scalars.{scalar_found, scalar_only, scalar_byte, scalar_written, scalar_range}
use Rattle.binary_codec.proofs.Containers.{items_found, items_only, items_byte, items_written, items_range, pairs_found, pairs_only, pairs_byte, pairs_written, pairs_range}
use Rattle.binary_codec.proofs.FaultTable.{field_fault_found, field_fault_only, scalar_fault_found, scalar_fault_only, span_fault_found, span_fault_only, items_fault_found, items_fault_only, pairs_fault_found, pairs_fault_only}
use Rattle.binary_codec.proofs.PartsStay.{parts_stay}
use Rattle.binary_codec.proofs.PartsUncounted.{parts_uncounted}
use Rattle.binary_codec.proofs.ShortParts.{field_mends, scalar_mends, span_mends, items_mends, pairs_mends}

field_decodes : (last : ℤ) → DecodesPart (binary_field last) (IsHeader last) (λ _. 0) HasHeaderFault
field_decodes last = record {
  found = λ before after h fits e. field_found last before after h fits e;
  only = λ h text more left is enough. field_only last h text more left is;
  byte = field_byte last;
  fault_found = field_fault_found last;
  fault_only = λ unread fault fits h. field_fault_only last unread fault h;
  mends = field_mends last;
}

scalar_decodes : (tag : Tag) → IsScalar tag → DecodesPart (binary_scalar tag) (λ x text. (tag_of x ≡ tag) × IsScalarText x text) (λ _. 0) (HasScalarFault tag)
scalar_decodes tag is = record {
  found = λ before after x fits e. scalar_found tag is before after x fits e;
  only = λ x text more left h enough. subst (λ (k : Tag). binary_scalar k (record { bytes = text ++ more; budget = left }) ≡ Ok (x, record { bytes = more; budget = left })) h.0 (scalar_only x text more left h.1);
  byte = λ x text h. scalar_byte x text h.1;
  fault_found = scalar_fault_found tag is;
  fault_only = λ unread fault fits h. scalar_fault_only tag is unread fault h;
  mends = scalar_mends tag is;
}

span_decodes : DecodesPart binary_span IsSpan (λ _. 0) HasSizeFault
span_decodes = record {
  found = λ before after x fits e. span_found before after x fits e;
  only = λ x text more left is enough. span_only x text more left is;
  byte = span_byte;
  fault_found = span_fault_found;
  fault_only = λ unread fault fits h. span_fault_only unread fault h;
  mends = span_mends;
}

items_decodes : DecodesPart binary_items (λ found. IsItems found.0 found.1) (λ found. found.1) HasItemsFault
items_decodes = record {
  found = λ before after x fits e. items_found before after x fits e;
  only = items_only;
  byte = items_byte;
  fault_found = items_fault_found;
  fault_only = λ unread fault fits h. items_fault_only unread fault h;
  mends = items_mends;
}

pairs_decodes : DecodesPart binary_pairs (λ found. IsPairs found.0 found.1 found.2) (λ found. found.2) HasPairsFault
pairs_decodes = record {
  found = λ before after x fits e. pairs_found before after x fits e;
  only = pairs_only;
  byte = pairs_byte;
  fault_found = pairs_fault_found;
  fault_only = λ unread fault fits h. pairs_fault_only unread fault h;
  mends = pairs_mends;
}

header_written : (last id : ℤ) (x : Tree) → FitsSigned w16 id → IsHeader last (heading binary_encoder.flags id x) (header_text last (heading binary_encoder.flags id x))
header_written last id (of_bool b) fits = (fits, refl)
header_written last id x fits = (fits, refl)

header_flag : (last : ℤ) (header : FieldHeader) (text : List ℕ) → IsHeader last header text → IsFlaggedBy binary_encoder.flags header
header_flag last stop text h = tt
header_flag last (typed id tag) text h = refl
header_flag last (flagged id flag) text h = absurd h

pub leaves_agree : IsProtocol binary binary_format binary_encoder
leaves_agree = record {
  field = λ last fits. field_decodes last;
  id = λ last id tag text h. h.0;
  flagged_id = λ last id flag text h. absurd h;
  header_flag = header_flag;
  scalar = scalar_decodes;
  span = span_decodes;
  items = items_decodes;
  pairs = pairs_decodes;
  stays = parts_stay;
  uncounted = parts_uncounted;
  stop_written = λ last. refl;
  header_written = λ last id x last_fits fits. header_written last id x fits;
  scalar_written = scalar_written;
  span_written = λ bytes small each. record { size = small; each = each; whole = refl };
  items_written = items_written;
  pairs_written = pairs_written;
  scalar_range = λ x text is h. scalar_range x text h;
  span_range = λ bytes text h. (h.size, h.each);
  span_end = λ bytes text h. (unsigned_bytes w32 (length bytes), h.whole);
  items_range = items_range;
  pairs_range = pairs_range;
}
