use Rattle.std.proofs.Common.{refl}
use Rattle.envelope.specs.Readout.{head_at, whole_head, either_head, strict_head, old_head, version, name_of, sized_name, compact_rest, compact_head, call_type}
use Rattle.envelope.specs.Exception.{failure_struct, exception_head}
use Rattle.envelope.specs.Spelling.{compact_id, compact_name}
use Rattle.wire_model.specs.Reading.{value, layer, parts, field_list, field_behind, item_list, pair_list}
use Rattle.binary_codec.specs.Codes.{tag_of_code}
use Rattle.binary_codec.specs.Reading.{binary_field, binary_scalar, binary_size, binary_span, binary_items, binary_pairs, tag_coded}
use Rattle.call_model.specs.Arguments.{arguments_at}
use Rattle.call_model.specs.Decisions.{decided_on_head, decided_on_service, decided_on_function, refused, failure_frame}
use Rattle.call_model.specs.Replies.{may_go_back, reply_head, within_frame, result_frame, reply_of_function, reply_of_service, reply_to_head}
use Rattle.call_model.proofs.examples.a_default_is_asked.Goals as goal

pub returns-clause-first : goal.returns-clause-first
unfolding decided_on_head decided_on_service decided_on_function refused failure_frame arguments_at head_at whole_head either_head strict_head old_head version name_of sized_name compact_rest compact_head call_type failure_struct exception_head value layer parts field_list field_behind item_list pair_list binary_field binary_scalar binary_size binary_span binary_items binary_pairs tag_coded tag_of_code
returns-clause-first c = refl

pub returns-clause-reply : goal.returns-clause-reply
unfolding may_go_back reply_head within_frame result_frame reply_of_function reply_of_service reply_to_head failure_frame head_at whole_head either_head strict_head old_head version name_of sized_name compact_rest compact_head call_type failure_struct exception_head compact_id compact_name
returns-clause-reply c = refl

pub returns-clause-second : goal.returns-clause-second
unfolding decided_on_head decided_on_service decided_on_function refused failure_frame arguments_at head_at whole_head either_head strict_head old_head version name_of sized_name compact_rest compact_head call_type failure_struct exception_head value layer parts field_list field_behind item_list pair_list binary_field binary_scalar binary_size binary_span binary_items binary_pairs tag_coded tag_of_code
returns-clause-second c = refl

pub returns-clause-another : goal.returns-clause-another
unfolding decided_on_head decided_on_service decided_on_function refused failure_frame arguments_at head_at whole_head either_head strict_head old_head version name_of sized_name compact_rest compact_head call_type failure_struct exception_head value layer parts field_list field_behind item_list pair_list binary_field binary_scalar binary_size binary_span binary_items binary_pairs tag_coded tag_of_code
returns-clause-another c = refl

pub returns-clause-unknown : goal.returns-clause-unknown
unfolding decided_on_head decided_on_service decided_on_function refused failure_frame arguments_at head_at whole_head either_head strict_head old_head version name_of sized_name compact_rest compact_head call_type failure_struct exception_head value layer parts field_list field_behind item_list pair_list binary_field binary_scalar binary_size binary_span binary_items binary_pairs tag_coded tag_of_code
returns-clause-unknown c = refl
