use Rattle.std.proofs.Common.{refl}
use Rattle.envelope.specs.Readout.{head_at, whole_head, either_head, strict_head, old_head, version, name_of, sized_name, compact_rest, compact_head, call_type}
use Rattle.envelope.specs.Exception.{failure_struct, exception_head}
use Rattle.wire_model.specs.Reading.{value, layer, parts, field_list, field_behind, item_list, pair_list}
use Rattle.binary_codec.specs.Codes.{tag_of_code}
use Rattle.binary_codec.specs.Reading.{binary_field, binary_scalar, binary_size, binary_span, binary_items, binary_pairs, tag_coded}
use Rattle.call_model.specs.Arguments.{arguments_at}
use Rattle.call_model.specs.Decisions.{decided_on_head, decided_on_service, decided_on_function, refused, failure_frame}
use Rattle.call_model.proofs.examples.one_service_is_named.Goals as goal

pub returns-clause-unknown : goal.returns-clause-unknown
unfolding decided_on_head decided_on_service decided_on_function refused failure_frame arguments_at head_at whole_head either_head strict_head old_head version name_of sized_name compact_rest compact_head call_type failure_struct exception_head value layer parts field_list field_behind item_list pair_list binary_field binary_scalar binary_size binary_span binary_items binary_pairs tag_coded tag_of_code
returns-clause-unknown c = refl

pub returns-clause-known : goal.returns-clause-known
unfolding decided_on_head decided_on_service decided_on_function refused failure_frame arguments_at head_at whole_head either_head strict_head old_head version name_of sized_name compact_rest compact_head call_type failure_struct exception_head value layer parts field_list field_behind item_list pair_list binary_field binary_scalar binary_size binary_span binary_items binary_pairs tag_coded tag_of_code
returns-clause-known c = refl

pub returns-clause-no_method : goal.returns-clause-no_method
unfolding decided_on_head decided_on_service decided_on_function refused failure_frame arguments_at head_at whole_head either_head strict_head old_head version name_of sized_name compact_rest compact_head call_type failure_struct exception_head value layer parts field_list field_behind item_list pair_list binary_field binary_scalar binary_size binary_span binary_items binary_pairs tag_coded tag_of_code
returns-clause-no_method c = refl

pub returns-clause-silent : goal.returns-clause-silent
unfolding decided_on_head decided_on_service decided_on_function refused failure_frame arguments_at head_at whole_head either_head strict_head old_head version name_of sized_name compact_rest compact_head call_type failure_struct exception_head value layer parts field_list field_behind item_list pair_list binary_field binary_scalar binary_size binary_span binary_items binary_pairs tag_coded tag_of_code
returns-clause-silent c = refl
