use Rattle.std.proofs.Common.{refl}
use Rattle.envelope.specs.Readout.{head_at, whole_head, either_head, strict_head, old_head, version, name_of, sized_name, compact_rest, compact_head, call_type}
use Rattle.envelope.specs.Exception.{failure_struct, exception_head}
use Rattle.wire_model.specs.Reading.{value, layer, parts, field_list, field_behind, item_list, pair_list}
use Rattle.binary_codec.specs.Codes.{tag_of_code}
use Rattle.binary_codec.specs.Reading.{binary_field, binary_scalar, binary_size, binary_span, binary_items, binary_pairs, tag_coded}
use Rattle.compact_codec.specs.Codes.{compact_tag}
use Rattle.compact_codec.specs.Reading.{compact_field, compact_scalar, compact_size, compact_span, compact_items, compact_pairs, tag_in_half}
use Rattle.call_model.specs.Arguments.{arguments_at}
use Rattle.call_model.specs.Decisions.{decided_on_head, decided_on_service, decided_on_function, refused, failure_frame}
use Rattle.call_model.proofs.examples.calls_are_decided.Goals as goal

pub returns-clause-ping : goal.returns-clause-ping
unfolding decided_on_head decided_on_service decided_on_function refused failure_frame arguments_at head_at whole_head either_head strict_head old_head version name_of sized_name compact_rest compact_head call_type failure_struct exception_head value layer parts field_list field_behind item_list pair_list binary_field binary_scalar binary_size binary_span binary_items binary_pairs tag_coded tag_of_code
returns-clause-ping c = refl

pub returns-clause-add : goal.returns-clause-add
unfolding decided_on_head decided_on_service decided_on_function refused failure_frame arguments_at head_at whole_head either_head strict_head old_head version name_of sized_name compact_rest compact_head call_type failure_struct exception_head value layer parts field_list field_behind item_list pair_list binary_field binary_scalar binary_size binary_span binary_items binary_pairs tag_coded tag_of_code
returns-clause-add c = refl

pub returns-clause-compact : goal.returns-clause-compact
unfolding decided_on_head decided_on_service decided_on_function refused failure_frame arguments_at head_at whole_head either_head strict_head old_head version name_of sized_name compact_rest compact_head call_type failure_struct exception_head value layer parts field_list field_behind item_list pair_list binary_field binary_scalar binary_size binary_span binary_items binary_pairs tag_coded tag_of_code compact_field compact_scalar compact_size compact_span compact_items compact_pairs tag_in_half compact_tag
returns-clause-compact c = refl

pub returns-clause-old_head : goal.returns-clause-old_head
unfolding decided_on_head decided_on_service decided_on_function refused failure_frame arguments_at head_at whole_head either_head strict_head old_head version name_of sized_name compact_rest compact_head call_type failure_struct exception_head value layer parts field_list field_behind item_list pair_list binary_field binary_scalar binary_size binary_span binary_items binary_pairs tag_coded tag_of_code
returns-clause-old_head c = refl

pub returns-clause-sent_oneway : goal.returns-clause-sent_oneway
unfolding decided_on_head decided_on_service decided_on_function refused failure_frame arguments_at head_at whole_head either_head strict_head old_head version name_of sized_name compact_rest compact_head call_type failure_struct exception_head value layer parts field_list field_behind item_list pair_list binary_field binary_scalar binary_size binary_span binary_items binary_pairs tag_coded tag_of_code
returns-clause-sent_oneway c = refl

pub returns-clause-declared_oneway : goal.returns-clause-declared_oneway
unfolding decided_on_head decided_on_service decided_on_function refused failure_frame arguments_at head_at whole_head either_head strict_head old_head version name_of sized_name compact_rest compact_head call_type failure_struct exception_head value layer parts field_list field_behind item_list pair_list binary_field binary_scalar binary_size binary_span binary_items binary_pairs tag_coded tag_of_code
returns-clause-declared_oneway c = refl

pub returns-clause-inherited : goal.returns-clause-inherited
unfolding decided_on_head decided_on_service decided_on_function refused failure_frame arguments_at head_at whole_head either_head strict_head old_head version name_of sized_name compact_rest compact_head call_type failure_struct exception_head value layer parts field_list field_behind item_list pair_list binary_field binary_scalar binary_size binary_span binary_items binary_pairs tag_coded tag_of_code
returns-clause-inherited c = refl

pub returns-clause-of_a_service : goal.returns-clause-of_a_service
unfolding decided_on_head decided_on_service decided_on_function refused failure_frame arguments_at head_at whole_head either_head strict_head old_head version name_of sized_name compact_rest compact_head call_type failure_struct exception_head value layer parts field_list field_behind item_list pair_list binary_field binary_scalar binary_size binary_span binary_items binary_pairs tag_coded tag_of_code
returns-clause-of_a_service c = refl

pub returns-clause-skipped : goal.returns-clause-skipped
unfolding decided_on_head decided_on_service decided_on_function refused failure_frame arguments_at head_at whole_head either_head strict_head old_head version name_of sized_name compact_rest compact_head call_type failure_struct exception_head value layer parts field_list field_behind item_list pair_list binary_field binary_scalar binary_size binary_span binary_items binary_pairs tag_coded tag_of_code
returns-clause-skipped c = refl
