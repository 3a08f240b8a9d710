use Rattle.std.proofs.Common.{refl}
use Rattle.wire_model.specs.Reading.{value, layer, parts, field_list, field_behind, item_list, pair_list}
use Rattle.compact_codec.specs.Codes.{compact_tag}
use Rattle.compact_codec.specs.Reading.{compact_field, compact_scalar, compact_size, compact_span, compact_items, compact_pairs, tag_in_half}
use Rattle.compact_codec.proofs.examples.first_faults.Goals as goal

pub returns-clause-no_end : goal.returns-clause-no_end
unfolding value layer parts field_list field_behind item_list pair_list compact_field compact_scalar compact_size compact_span compact_items compact_pairs tag_in_half compact_tag
returns-clause-no_end c = refl

pub returns-clause-half_a_header : goal.returns-clause-half_a_header
unfolding value layer parts field_list field_behind item_list pair_list compact_field compact_scalar compact_size compact_span compact_items compact_pairs tag_in_half compact_tag
returns-clause-half_a_header c = refl

pub returns-clause-no_stop : goal.returns-clause-no_stop
unfolding value layer parts field_list field_behind item_list pair_list compact_field compact_scalar compact_size compact_span compact_items compact_pairs tag_in_half compact_tag
returns-clause-no_stop c = refl

pub returns-clause-no_type : goal.returns-clause-no_type
unfolding value layer parts field_list field_behind item_list pair_list compact_field compact_scalar compact_size compact_span compact_items compact_pairs tag_in_half compact_tag
returns-clause-no_type c = refl

pub returns-clause-a_delta_alone : goal.returns-clause-a_delta_alone
unfolding value layer parts field_list field_behind item_list pair_list compact_field compact_scalar compact_size compact_span compact_items compact_pairs tag_in_half compact_tag
returns-clause-a_delta_alone c = refl

pub returns-clause-type_before_id : goal.returns-clause-type_before_id
unfolding value layer parts field_list field_behind item_list pair_list compact_field compact_scalar compact_size compact_span compact_items compact_pairs tag_in_half compact_tag
returns-clause-type_before_id c = refl

pub returns-clause-id_above : goal.returns-clause-id_above
unfolding value layer parts field_list field_behind item_list pair_list compact_field compact_scalar compact_size compact_span compact_items compact_pairs tag_in_half compact_tag
returns-clause-id_above c = refl

pub returns-clause-long_number : goal.returns-clause-long_number
unfolding value layer parts field_list field_behind item_list pair_list compact_field compact_scalar compact_size compact_span compact_items compact_pairs tag_in_half compact_tag
returns-clause-long_number c = refl

pub returns-clause-long_id : goal.returns-clause-long_id
unfolding value layer parts field_list field_behind item_list pair_list compact_field compact_scalar compact_size compact_span compact_items compact_pairs tag_in_half compact_tag
returns-clause-long_id c = refl

pub returns-clause-large_length : goal.returns-clause-large_length
unfolding value layer parts field_list field_behind item_list pair_list compact_field compact_scalar compact_size compact_span compact_items compact_pairs tag_in_half compact_tag
returns-clause-large_length c = refl

pub returns-clause-long_length : goal.returns-clause-long_length
unfolding value layer parts field_list field_behind item_list pair_list compact_field compact_scalar compact_size compact_span compact_items compact_pairs tag_in_half compact_tag
returns-clause-long_length c = refl

pub returns-clause-room_before_type : goal.returns-clause-room_before_type
unfolding value layer parts field_list field_behind item_list pair_list compact_field compact_scalar compact_size compact_span compact_items compact_pairs tag_in_half compact_tag
returns-clause-room_before_type c = refl

pub returns-clause-element_type : goal.returns-clause-element_type
unfolding value layer parts field_list field_behind item_list pair_list compact_field compact_scalar compact_size compact_span compact_items compact_pairs tag_in_half compact_tag
returns-clause-element_type c = refl

pub returns-clause-key_type_first : goal.returns-clause-key_type_first
unfolding value layer parts field_list field_behind item_list pair_list compact_field compact_scalar compact_size compact_span compact_items compact_pairs tag_in_half compact_tag
returns-clause-key_type_first c = refl

pub returns-clause-byte_of_codes_counts : goal.returns-clause-byte_of_codes_counts
unfolding value layer parts field_list field_behind item_list pair_list compact_field compact_scalar compact_size compact_span compact_items compact_pairs tag_in_half compact_tag
returns-clause-byte_of_codes_counts c = refl

pub returns-clause-sixty_five_levels : goal.returns-clause-sixty_five_levels
unfolding value layer parts field_list field_behind item_list pair_list compact_field compact_scalar compact_size compact_span compact_items compact_pairs tag_in_half compact_tag
returns-clause-sixty_five_levels c = refl

pub returns-clause-number_before_level : goal.returns-clause-number_before_level
unfolding value layer parts field_list field_behind item_list pair_list compact_field compact_scalar compact_size compact_span compact_items compact_pairs tag_in_half compact_tag
returns-clause-number_before_level c = refl

pub returns-clause-level_before_header : goal.returns-clause-level_before_header
unfolding value layer parts field_list field_behind item_list pair_list compact_field compact_scalar compact_size compact_span compact_items compact_pairs tag_in_half compact_tag
returns-clause-level_before_header c = refl

pub returns-clause-one_value_too_many : goal.returns-clause-one_value_too_many
unfolding value layer parts field_list field_behind item_list pair_list compact_field compact_scalar compact_size compact_span compact_items compact_pairs tag_in_half compact_tag
returns-clause-one_value_too_many c = refl

pub returns-clause-a_flag_counts : goal.returns-clause-a_flag_counts
unfolding value layer parts field_list field_behind item_list pair_list compact_field compact_scalar compact_size compact_span compact_items compact_pairs tag_in_half compact_tag
returns-clause-a_flag_counts c = refl

pub returns-clause-half_a_uuid : goal.returns-clause-half_a_uuid
unfolding value layer parts field_list field_behind item_list pair_list compact_field compact_scalar compact_size compact_span compact_items compact_pairs tag_in_half compact_tag
returns-clause-half_a_uuid c = refl
