use Rattle.std.proofs.Common.{refl}
use Rattle.wire_model.specs.Reading.{value, layer, parts, field_list, field_behind, item_list, pair_list}
use Rattle.binary_codec.specs.Codes.{tag_of_code}
use Rattle.binary_codec.specs.Reading.{binary_field, binary_scalar, binary_size, binary_span, binary_items, binary_pairs, tag_coded}
use Rattle.binary_codec.proofs.examples.first_faults.Goals as goal

pub returns-clause-no_end : goal.returns-clause-no_end
unfolding value layer parts field_list field_behind item_list pair_list binary_field binary_scalar binary_size binary_span binary_items binary_pairs tag_coded tag_of_code
returns-clause-no_end c = refl

pub returns-clause-half_a_header : goal.returns-clause-half_a_header
unfolding value layer parts field_list field_behind item_list pair_list binary_field binary_scalar binary_size binary_span binary_items binary_pairs tag_coded tag_of_code
returns-clause-half_a_header c = refl

pub returns-clause-type_before_id : goal.returns-clause-type_before_id
unfolding value layer parts field_list field_behind item_list pair_list binary_field binary_scalar binary_size binary_span binary_items binary_pairs tag_coded tag_of_code
returns-clause-type_before_id c = refl

pub returns-clause-negative_length : goal.returns-clause-negative_length
unfolding value layer parts field_list field_behind item_list pair_list binary_field binary_scalar binary_size binary_span binary_items binary_pairs tag_coded tag_of_code
returns-clause-negative_length c = refl

pub returns-clause-long_length : goal.returns-clause-long_length
unfolding value layer parts field_list field_behind item_list pair_list binary_field binary_scalar binary_size binary_span binary_items binary_pairs tag_coded tag_of_code
returns-clause-long_length c = refl

pub returns-clause-size_before_type : goal.returns-clause-size_before_type
unfolding value layer parts field_list field_behind item_list pair_list binary_field binary_scalar binary_size binary_span binary_items binary_pairs tag_coded tag_of_code
returns-clause-size_before_type c = refl

pub returns-clause-room_before_type : goal.returns-clause-room_before_type
unfolding value layer parts field_list field_behind item_list pair_list binary_field binary_scalar binary_size binary_span binary_items binary_pairs tag_coded tag_of_code
returns-clause-room_before_type c = refl

pub returns-clause-element_type : goal.returns-clause-element_type
unfolding value layer parts field_list field_behind item_list pair_list binary_field binary_scalar binary_size binary_span binary_items binary_pairs tag_coded tag_of_code
returns-clause-element_type c = refl

pub returns-clause-key_type_first : goal.returns-clause-key_type_first
unfolding value layer parts field_list field_behind item_list pair_list binary_field binary_scalar binary_size binary_span binary_items binary_pairs tag_coded tag_of_code
returns-clause-key_type_first c = refl

pub returns-clause-huge_list : goal.returns-clause-huge_list
unfolding value layer parts field_list field_behind item_list pair_list binary_field binary_scalar binary_size binary_span binary_items binary_pairs tag_coded tag_of_code
returns-clause-huge_list c = refl

pub returns-clause-sixty_five_levels : goal.returns-clause-sixty_five_levels
unfolding value layer parts field_list field_behind item_list pair_list binary_field binary_scalar binary_size binary_span binary_items binary_pairs tag_coded tag_of_code
returns-clause-sixty_five_levels c = refl

pub returns-clause-number_before_level : goal.returns-clause-number_before_level
unfolding value layer parts field_list field_behind item_list pair_list binary_field binary_scalar binary_size binary_span binary_items binary_pairs tag_coded tag_of_code
returns-clause-number_before_level c = refl

pub returns-clause-level_before_header : goal.returns-clause-level_before_header
unfolding value layer parts field_list field_behind item_list pair_list binary_field binary_scalar binary_size binary_span binary_items binary_pairs tag_coded tag_of_code
returns-clause-level_before_header c = refl

pub returns-clause-one_value_too_many : goal.returns-clause-one_value_too_many
unfolding value layer parts field_list field_behind item_list pair_list binary_field binary_scalar binary_size binary_span binary_items binary_pairs tag_coded tag_of_code
returns-clause-one_value_too_many c = refl

pub returns-clause-no_stop : goal.returns-clause-no_stop
unfolding value layer parts field_list field_behind item_list pair_list binary_field binary_scalar binary_size binary_span binary_items binary_pairs tag_coded tag_of_code
returns-clause-no_stop c = refl

pub returns-clause-half_a_uuid : goal.returns-clause-half_a_uuid
unfolding value layer parts field_list field_behind item_list pair_list binary_field binary_scalar binary_size binary_span binary_items binary_pairs tag_coded tag_of_code
returns-clause-half_a_uuid c = refl

pub returns-clause-type_behind_a_uuid : goal.returns-clause-type_behind_a_uuid
unfolding value layer parts field_list field_behind item_list pair_list binary_field binary_scalar binary_size binary_span binary_items binary_pairs tag_coded tag_of_code
returns-clause-type_behind_a_uuid c = refl
