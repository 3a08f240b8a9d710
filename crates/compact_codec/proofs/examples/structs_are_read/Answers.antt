use Rattle.std.proofs.Common.{refl}
use Rattle.wire_model.specs.Reading.{value, layer, parts, field_list, field_behind, item_list, pair_list}
use Rattle.compact_codec.specs.Codes.{compact_tag}
use Rattle.compact_codec.specs.Reading.{compact_field, compact_scalar, compact_size, compact_span, compact_items, compact_pairs, tag_in_half}
use Rattle.compact_codec.proofs.examples.structs_are_read.Goals as goal

pub returns-clause-nothing : goal.returns-clause-nothing
unfolding value layer parts field_list field_behind item_list pair_list compact_field compact_scalar compact_size compact_span compact_items compact_pairs tag_in_half compact_tag
returns-clause-nothing c = refl

pub returns-clause-numbers : goal.returns-clause-numbers
unfolding value layer parts field_list field_behind item_list pair_list compact_field compact_scalar compact_size compact_span compact_items compact_pairs tag_in_half compact_tag
returns-clause-numbers c = refl

pub returns-clause-success : goal.returns-clause-success
unfolding value layer parts field_list field_behind item_list pair_list compact_field compact_scalar compact_size compact_span compact_items compact_pairs tag_in_half compact_tag
returns-clause-success c = refl

pub returns-clause-headers : goal.returns-clause-headers
unfolding value layer parts field_list field_behind item_list pair_list compact_field compact_scalar compact_size compact_span compact_items compact_pairs tag_in_half compact_tag
returns-clause-headers c = refl

pub returns-clause-map : goal.returns-clause-map
unfolding value layer parts field_list field_behind item_list pair_list compact_field compact_scalar compact_size compact_span compact_items compact_pairs tag_in_half compact_tag
returns-clause-map c = refl

pub returns-clause-longer_number : goal.returns-clause-longer_number
unfolding value layer parts field_list field_behind item_list pair_list compact_field compact_scalar compact_size compact_span compact_items compact_pairs tag_in_half compact_tag
returns-clause-longer_number c = refl

pub returns-clause-longer_id : goal.returns-clause-longer_id
unfolding value layer parts field_list field_behind item_list pair_list compact_field compact_scalar compact_size compact_span compact_items compact_pairs tag_in_half compact_tag
returns-clause-longer_id c = refl

pub returns-clause-sixteen_bits : goal.returns-clause-sixteen_bits
unfolding value layer parts field_list field_behind item_list pair_list compact_field compact_scalar compact_size compact_span compact_items compact_pairs tag_in_half compact_tag
returns-clause-sixteen_bits c = refl

pub returns-clause-any_code_of_nothing : goal.returns-clause-any_code_of_nothing
unfolding value layer parts field_list field_behind item_list pair_list compact_field compact_scalar compact_size compact_span compact_items compact_pairs tag_in_half compact_tag
returns-clause-any_code_of_nothing c = refl

pub returns-clause-size_behind : goal.returns-clause-size_behind
unfolding value layer parts field_list field_behind item_list pair_list compact_field compact_scalar compact_size compact_span compact_items compact_pairs tag_in_half compact_tag
returns-clause-size_behind c = refl

pub returns-clause-empty_map : goal.returns-clause-empty_map
unfolding value layer parts field_list field_behind item_list pair_list compact_field compact_scalar compact_size compact_span compact_items compact_pairs tag_in_half compact_tag
returns-clause-empty_map c = refl

pub returns-clause-sixty_four_levels : goal.returns-clause-sixty_four_levels
unfolding value layer parts field_list field_behind item_list pair_list compact_field compact_scalar compact_size compact_span compact_items compact_pairs tag_in_half compact_tag
returns-clause-sixty_four_levels c = refl

pub returns-clause-uuid : goal.returns-clause-uuid
unfolding value layer parts field_list field_behind item_list pair_list compact_field compact_scalar compact_size compact_span compact_items compact_pairs tag_in_half compact_tag
returns-clause-uuid c = refl
