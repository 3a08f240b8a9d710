-- The parts together.
use Rattle.std.specs.Prelude.{ℕ, ℤ, FitsSigned}
use Rattle.std.specs.Int.{w16}
use Rattle.std.proofs.Common.{◌≡◌, ◌++◌, List, Ok, refl, subst}
use Rattle.thrift_value.specs.declared.tag.Tag.{Tag}
use Rattle.thrift_value.specs.declared.tag.Tag.TheVariants as tags
use Rattle.thrift_value.specs.Tags.{tag_of}
use Rattle.thrift_value.specs.Tree.{Tree, of_bool}
use Rattle.wire_model.specs.Wire.{FieldHeader, stop, typed, flagged, IsScalar}
use Rattle.wire_model.specs.Protocol.{DecodesPart, ArePartsStable, IsFlaggedBy, IsProtocol}
use Rattle.wire_model.specs.Encoder.{heading}
use Rattle.compact_codec.specs.Codes.{compact_code, flag_code}
use Rattle.compact_codec.specs.Faults.{HasFieldFault, HasNumberFault, HasLengthFault, HasListFault, HasMapFault}
use Rattle.compact_codec.specs.Reading.{compact_field, compact_scalar, compact_span, compact_items, compact_pairs, compact}
use Rattle.compact_codec.specs.Spelling.{IsCompactHeader, IsCompactScalar, IsCompactSpan, IsCompactItems, IsCompactPairs, compact_format}
use Rattle.compact_codec.specs.Written.{compact_header, compact_encoder}
use Rattle.compact_codec.proofs.Containers.{items_found, items_only, items_byte, items_written, items_range, items_stay, pairs_found, pairs_only, pairs_byte, pairs_written, pairs_range, pairs_stay}
use Rattle.compact_codec.proofs.FaultTable.{scalar_fault_found, scalar_fault_only, items_fault_found, items_fault_only, pairs_fault_found, pairs_fault_only}
use Rattle.compact_codec.proofs.FieldHeaders.{field_found, field_only, field_byte, field_fault_found, field_fault_only, field_stays, typed_heading, heading_range, heading_written}
use Rattle.compact_codec.proofs.PartsUncounted.{parts_uncounted}
use Rattle.compact_codec.proofs.Scalars.{scalar_found, scalar_only, scalar_byte, scalar_written, scalar_range, scalar_stays}
use Rattle.compact_codec.proofs.ShortParts.{field_mends, scalar_mends, span_mends, items_mends, pairs_mends}
use Rattle.compact_codec.proofs.Sizes.{span_found, span_only, span_byte, span_written, span_fault_found, span_fault_only, span_stays}

field_decodes : (last : ℤ) → FitsSigned w16 last → DecodesPart (compact_field last) (IsCompactHeader last) (λ _. 0) (HasFieldFault last)
field_decodes last last_fits = record {
  found = λ before after h fits e. field_found last last_fits before after h fits e;
  only = λ h text more left is enough. field_only last h text more left is;
  byte = field_byte last;
  fault_found = field_fault_found last;
  fault_only = λ unread fault fits h. field_fault_only last unread fault h;
  mends = field_mends last;
}

scalar_decodes : (tag : Tag) → IsScalar tag → DecodesPart (compact_scalar tag) (λ x text. (tag_of x ≡ tag) × IsCompactScalar x text) (λ _. 0) (HasNumberFault tag)
scalar_decodes tag is = record {
  found = λ before after x fits e. scalar_found tag is before after x fits e;
  only = λ x text more left h enough. subst (λ (k : Tag). compact_scalar k (record { bytes = text ++ more; budget = left }) ≡ Ok (x, record { bytes = more; budget = left })) h.0 (scalar_only x text more left h.1);
  byte = λ x text h. scalar_byte x text h.1;
  fault_found = scalar_fault_found tag is;
  fault_only = λ unread fault fits h. scalar_fault_only tag is unread fault h;
  mends = scalar_mends tag is;
}

span_decodes : DecodesPart compact_span IsCompactSpan (λ _. 0) HasLengthFault
span_decodes = record {
  found = λ before after x fits e. span_found before after x fits e;
  only = λ x text more left is enough. span_only x text more left is;
  byte = span_byte;
  fault_found = span_fault_found;
  fault_only = λ unread fault fits h. span_fault_only unread fault h;
  mends = span_mends;
}

items_decodes : DecodesPart compact_items (λ found. IsCompactItems found.0 found.1) (λ found. found.1) HasListFault
items_decodes = record {
  found = λ before after x fits e. items_found before after x fits e;
  only = items_only;
  byte = items_byte;
  fault_found = items_fault_found;
  fault_only = λ unread fault fits h. items_fault_only unread fault h;
  mends = items_mends;
}

pairs_decodes : DecodesPart compact_pairs (λ found. IsCompactPairs found.0 found.1 found.2) (λ found. found.2) HasMapFault
pairs_decodes = record {
  found = λ before after x fits e. pairs_found before after x fits e;
  only = pairs_only;
  byte = pairs_byte;
  fault_found = pairs_fault_found;
  fault_only = λ unread fault fits h. pairs_fault_only unread fault h;
  mends = pairs_mends;
}

header_written : (last id : ℤ) (x : Tree) → FitsSigned w16 id → IsCompactHeader last (heading compact_encoder.flags id x) (compact_header last (heading compact_encoder.flags id x))
header_written last id (of_bool flag) fits = heading_written last id (flag_code flag) fits
header_written last id x fits = heading_written last id (compact_code (tag_of x)) fits

parts_stay : ArePartsStable compact
parts_stay = record { field = field_stays; scalar = scalar_stays; span = span_stays; items = items_stay; pairs = pairs_stay }

header_flag : (last : ℤ) (header : FieldHeader) (text : List ℕ) → IsCompactHeader last header text → IsFlaggedBy compact_encoder.flags header
header_flag last stop text h = tt
header_flag last (typed id tags.Bool) text h = absurd h
header_flag last (typed id tag) text h = refl
header_flag last (flagged id flag) text h = refl

pub leaves_agree : IsProtocol compact compact_format compact_encoder
leaves_agree = record {
  field = field_decodes;
  id = λ last id tag text h. heading_range last id (compact_code tag) text (typed_heading last id tag text h);
  flagged_id = λ last id flag text h. heading_range last id (flag_code flag) text h;
  header_flag = header_flag;
  scalar = scalar_decodes;
  span = span_decodes;
  items = items_decodes;
  pairs = pairs_decodes;
  stays = parts_stay;
  uncounted = parts_uncounted;
  stop_written = λ last. refl;
  header_written = λ last id x last_fits fits. header_written last id x fits;
  scalar_written = scalar_written;
  span_written = span_written;
  items_written = items_written;
  pairs_written = pairs_written;
  scalar_range = λ x text is h. scalar_range x text h;
  span_range = λ bytes text h. (h.size, h.each);
  span_end = λ bytes text h. (h.sized, h.whole);
  items_range = items_range;
  pairs_range = pairs_range;
}
