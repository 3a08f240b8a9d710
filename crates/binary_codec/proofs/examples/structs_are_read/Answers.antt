use Rattle.std.proofs.Common.{refl}
use Rattle.wire_model.specs.Reading.{value, layer, parts, field_list, field_behind, item_list, pair_list}
use Rattle.binary_codec.specs.Codes.{tag_of_code}
use Rattle.binary_codec.specs.Reading.{binary_field, binary_scalar, binary_size, binary_span, binary_items, binary_pairs, tag_coded}
use Rattle.binary_codec.proofs.examples.structs_are_read.Goals as goal

pub returns-clause-nothing : goal.returns-clause-nothing
unfolding value layer parts field_list field_behind item_list pair_list binary_field binary_scalar binary_size binary_span binary_items binary_pairs tag_coded tag_of_code
returns-clause-nothing c = refl

pub returns-clause-numbers : goal.returns-clause-numbers
unfolding value layer parts field_list field_behind item_list pair_list binary_field binary_scalar binary_size binary_span binary_items binary_pairs tag_coded tag_of_code
returns-clause-numbers c = refl

pub returns-clause-untold_tag : goal.returns-clause-untold_tag
unfolding value layer parts field_list field_behind item_list pair_list binary_field binary_scalar binary_size binary_span binary_items binary_pairs tag_coded tag_of_code
returns-clause-untold_tag c = refl

pub returns-clause-map : goal.returns-clause-map
unfolding value layer parts field_list field_behind item_list pair_list binary_field binary_scalar binary_size binary_span binary_items binary_pairs tag_coded tag_of_code
returns-clause-map c = refl

pub returns-clause-any_byte_is_false : goal.returns-clause-any_byte_is_false
unfolding value layer parts field_list field_behind item_list pair_list binary_field binary_scalar binary_size binary_span binary_items binary_pairs tag_coded tag_of_code
returns-clause-any_byte_is_false c = refl

pub returns-clause-one_is_true : goal.returns-clause-one_is_true
unfolding value layer parts field_list field_behind item_list pair_list binary_field binary_scalar binary_size binary_span binary_items binary_pairs tag_coded tag_of_code
returns-clause-one_is_true c = refl

pub returns-clause-sixty_four_levels : goal.returns-clause-sixty_four_levels
unfolding value layer parts field_list field_behind item_list pair_list binary_field binary_scalar binary_size binary_span binary_items binary_pairs tag_coded tag_of_code
returns-clause-sixty_four_levels c = refl

pub returns-clause-any_code_of_nothing : goal.returns-clause-any_code_of_nothing
unfolding value layer parts field_list field_behind item_list pair_list binary_field binary_scalar binary_size binary_span binary_items binary_pairs tag_coded tag_of_code
returns-clause-any_code_of_nothing c = refl

pub returns-clause-any_codes_of_no_pairs : goal.returns-clause-any_codes_of_no_pairs
unfolding value layer parts field_list field_behind item_list pair_list binary_field binary_scalar binary_size binary_span binary_items binary_pairs tag_coded tag_of_code
returns-clause-any_codes_of_no_pairs c = refl

pub returns-clause-repeats_in_wire_order : goal.returns-clause-repeats_in_wire_order
unfolding value layer parts field_list field_behind item_list pair_list binary_field binary_scalar binary_size binary_span binary_items binary_pairs tag_coded tag_of_code
returns-clause-repeats_in_wire_order c = refl

pub returns-clause-uuid : goal.returns-clause-uuid
unfolding value layer parts field_list field_behind item_list pair_list binary_field binary_scalar binary_size binary_span binary_items binary_pairs tag_coded tag_of_code
returns-clause-uuid c = refl
