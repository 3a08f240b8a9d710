use Rattle.std.proofs.Common.{◌≡◌, [], ◌∷◌, refl, arith}
use Rattle.std.specs.Fmt.{decimal}
use Rattle.std.proofs.lemmas.Fmt.{decimal_digit}
use Rattle.envelope.specs.Readout.{head_at, whole_head, either_head, strict_head, old_head, version, name_of, sized_name, compact_rest, compact_head, call_type}
use Rattle.envelope.specs.Exception.{failure_struct, exception_head, compact_text_field, compact_code_field}
use Rattle.envelope.specs.Spelling.{compact_id, compact_name}
use Rattle.wire_model.specs.Reading.{value, layer, parts, field_list, field_behind, item_list, pair_list}
use Rattle.binary_codec.specs.Codes.{tag_of_code}
use Rattle.binary_codec.specs.Reading.{binary_field, binary_scalar, binary_size, binary_span, binary_items, binary_pairs, tag_coded}
use Rattle.compact_codec.specs.Codes.{compact_tag}
use Rattle.compact_codec.specs.Reading.{compact_field, compact_scalar, compact_size, compact_span, compact_items, compact_pairs, tag_in_half}
use Rattle.call_model.specs.Arguments.{arguments_at}
use Rattle.call_model.specs.Decisions.{decided_on_head, decided_on_service, decided_on_function, refused, failure_frame}
use Rattle.call_model.proofs.examples.faults_are_told.Goals as goal

pub returns-clause-silent : goal.returns-clause-silent
unfolding decided_on_head decided_on_service decided_on_function refused failure_frame arguments_at head_at whole_head either_head strict_head old_head version name_of sized_name compact_rest compact_head call_type failure_struct exception_head value layer parts field_list field_behind item_list pair_list binary_field binary_scalar binary_size binary_span binary_items binary_pairs tag_coded tag_of_code
returns-clause-silent c = refl

pub returns-clause-compact : goal.returns-clause-compact
unfolding decided_on_head decided_on_service decided_on_function refused failure_frame arguments_at head_at whole_head either_head strict_head old_head version name_of sized_name compact_rest compact_head call_type failure_struct exception_head value layer parts field_list field_behind item_list pair_list binary_field binary_scalar binary_size binary_span binary_items binary_pairs tag_coded tag_of_code compact_field compact_scalar compact_size compact_span compact_items compact_pairs tag_in_half compact_tag compact_id compact_name compact_text_field compact_code_field
returns-clause-compact c = refl

pub returns-clause-bad_type : goal.returns-clause-bad_type
unfolding decided_on_head decided_on_service decided_on_function refused failure_frame arguments_at head_at whole_head either_head strict_head old_head version name_of sized_name compact_rest compact_head call_type failure_struct exception_head value layer parts field_list field_behind item_list pair_list binary_field binary_scalar binary_size binary_span binary_items binary_pairs tag_coded tag_of_code
returns-clause-bad_type c = let five : decimal 5 ≡ 53 ∷ [] = decimal_digit 5 (omega arith) in rw five

pub returns-clause-two_of_a_union : goal.returns-clause-two_of_a_union
unfolding decided_on_head decided_on_service decided_on_function refused failure_frame arguments_at head_at whole_head either_head strict_head old_head version name_of sized_name compact_rest compact_head call_type failure_struct exception_head value layer parts field_list field_behind item_list pair_list binary_field binary_scalar binary_size binary_span binary_items binary_pairs tag_coded tag_of_code
returns-clause-two_of_a_union c = refl

pub returns-clause-deep : goal.returns-clause-deep
unfolding decided_on_head decided_on_service decided_on_function refused failure_frame arguments_at head_at whole_head either_head strict_head old_head version name_of sized_name compact_rest compact_head call_type failure_struct exception_head value layer parts field_list field_behind item_list pair_list binary_field binary_scalar binary_size binary_span binary_items binary_pairs tag_coded tag_of_code
returns-clause-deep c = refl

pub returns-clause-too_deep : goal.returns-clause-too_deep
unfolding decided_on_head decided_on_service decided_on_function refused failure_frame arguments_at head_at whole_head either_head strict_head old_head version name_of sized_name compact_rest compact_head call_type failure_struct exception_head value layer parts field_list field_behind item_list pair_list binary_field binary_scalar binary_size binary_span binary_items binary_pairs tag_coded tag_of_code
returns-clause-too_deep c = refl
