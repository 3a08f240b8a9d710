use Rattle.std.proofs.Common.{refl}
use Rattle.envelope.specs.Readout.{reply_head_at, whole_head, either_head, strict_head, old_head, version, name_of, sized_name, compact_rest, compact_head, reply_kind}
use Rattle.wire_model.specs.Reading.{value, layer, parts, field_list, field_behind, item_list, pair_list}
use Rattle.binary_codec.specs.Codes.{tag_of_code}
use Rattle.binary_codec.specs.Reading.{binary_field, binary_scalar, binary_size, binary_span, binary_items, binary_pairs, tag_coded}
use Rattle.compact_codec.specs.Codes.{compact_tag}
use Rattle.compact_codec.specs.Reading.{compact_field, compact_scalar, compact_size, compact_span, compact_items, compact_pairs, tag_in_half}
use Rattle.client_desk.proofs.rows.worked_replies.Goals as goal

pub returns-clause-number : goal.returns-clause-number
unfolding reply_head_at whole_head either_head strict_head old_head version name_of sized_name compact_rest compact_head reply_kind value layer parts field_list field_behind item_list pair_list binary_field binary_scalar binary_size binary_span binary_items binary_pairs tag_coded tag_of_code compact_field compact_scalar compact_size compact_span compact_items compact_pairs tag_in_half compact_tag
returns-clause-number c = refl

pub returns-clause-compact : goal.returns-clause-compact
unfolding reply_head_at whole_head either_head strict_head old_head version name_of sized_name compact_rest compact_head reply_kind value layer parts field_list field_behind item_list pair_list binary_field binary_scalar binary_size binary_span binary_items binary_pairs tag_coded tag_of_code compact_field compact_scalar compact_size compact_span compact_items compact_pairs tag_in_half compact_tag
returns-clause-compact c = refl

pub returns-clause-last : goal.returns-clause-last
unfolding reply_head_at whole_head either_head strict_head old_head version name_of sized_name compact_rest compact_head reply_kind value layer parts field_list field_behind item_list pair_list binary_field binary_scalar binary_size binary_span binary_items binary_pairs tag_coded tag_of_code compact_field compact_scalar compact_size compact_span compact_items compact_pairs tag_in_half compact_tag
returns-clause-last c = refl

pub returns-clause-last_that_fits : goal.returns-clause-last_that_fits
unfolding reply_head_at whole_head either_head strict_head old_head version name_of sized_name compact_rest compact_head reply_kind value layer parts field_list field_behind item_list pair_list binary_field binary_scalar binary_size binary_span binary_items binary_pairs tag_coded tag_of_code compact_field compact_scalar compact_size compact_span compact_items compact_pairs tag_in_half compact_tag
returns-clause-last_that_fits c = refl

pub returns-clause-behind : goal.returns-clause-behind
unfolding reply_head_at whole_head either_head strict_head old_head version name_of sized_name compact_rest compact_head reply_kind value layer parts field_list field_behind item_list pair_list binary_field binary_scalar binary_size binary_span binary_items binary_pairs tag_coded tag_of_code compact_field compact_scalar compact_size compact_span compact_items compact_pairs tag_in_half compact_tag
returns-clause-behind c = refl

pub returns-clause-void : goal.returns-clause-void
unfolding reply_head_at whole_head either_head strict_head old_head version name_of sized_name compact_rest compact_head reply_kind value layer parts field_list field_behind item_list pair_list binary_field binary_scalar binary_size binary_span binary_items binary_pairs tag_coded tag_of_code compact_field compact_scalar compact_size compact_span compact_items compact_pairs tag_in_half compact_tag
returns-clause-void c = refl

pub returns-clause-missing : goal.returns-clause-missing
unfolding reply_head_at whole_head either_head strict_head old_head version name_of sized_name compact_rest compact_head reply_kind value layer parts field_list field_behind item_list pair_list binary_field binary_scalar binary_size binary_span binary_items binary_pairs tag_coded tag_of_code compact_field compact_scalar compact_size compact_span compact_items compact_pairs tag_in_half compact_tag
returns-clause-missing c = refl

pub returns-clause-another_type : goal.returns-clause-another_type
unfolding reply_head_at whole_head either_head strict_head old_head version name_of sized_name compact_rest compact_head reply_kind value layer parts field_list field_behind item_list pair_list binary_field binary_scalar binary_size binary_span binary_items binary_pairs tag_coded tag_of_code compact_field compact_scalar compact_size compact_span compact_items compact_pairs tag_in_half compact_tag
returns-clause-another_type c = refl

pub returns-clause-thrown : goal.returns-clause-thrown
unfolding reply_head_at whole_head either_head strict_head old_head version name_of sized_name compact_rest compact_head reply_kind value layer parts field_list field_behind item_list pair_list binary_field binary_scalar binary_size binary_span binary_items binary_pairs tag_coded tag_of_code compact_field compact_scalar compact_size compact_span compact_items compact_pairs tag_in_half compact_tag
returns-clause-thrown c = refl

pub returns-clause-exception : goal.returns-clause-exception
unfolding reply_head_at whole_head either_head strict_head old_head version name_of sized_name compact_rest compact_head reply_kind value layer parts field_list field_behind item_list pair_list binary_field binary_scalar binary_size binary_span binary_items binary_pairs tag_coded tag_of_code compact_field compact_scalar compact_size compact_span compact_items compact_pairs tag_in_half compact_tag
returns-clause-exception c = refl

pub returns-clause-bare_exception : goal.returns-clause-bare_exception
unfolding reply_head_at whole_head either_head strict_head old_head version name_of sized_name compact_rest compact_head reply_kind value layer parts field_list field_behind item_list pair_list binary_field binary_scalar binary_size binary_span binary_items binary_pairs tag_coded tag_of_code compact_field compact_scalar compact_size compact_span compact_items compact_pairs tag_in_half compact_tag
returns-clause-bare_exception c = refl

pub returns-clause-text_for_a_code : goal.returns-clause-text_for_a_code
unfolding reply_head_at whole_head either_head strict_head old_head version name_of sized_name compact_rest compact_head reply_kind value layer parts field_list field_behind item_list pair_list binary_field binary_scalar binary_size binary_span binary_items binary_pairs tag_coded tag_of_code compact_field compact_scalar compact_size compact_span compact_items compact_pairs tag_in_half compact_tag
returns-clause-text_for_a_code c = refl

pub returns-clause-another_id : goal.returns-clause-another_id
unfolding reply_head_at whole_head either_head strict_head old_head version name_of sized_name compact_rest compact_head reply_kind value layer parts field_list field_behind item_list pair_list binary_field binary_scalar binary_size binary_span binary_items binary_pairs tag_coded tag_of_code compact_field compact_scalar compact_size compact_span compact_items compact_pairs tag_in_half compact_tag
returns-clause-another_id c = refl

pub returns-clause-another_name : goal.returns-clause-another_name
unfolding reply_head_at whole_head either_head strict_head old_head version name_of sized_name compact_rest compact_head reply_kind value layer parts field_list field_behind item_list pair_list binary_field binary_scalar binary_size binary_span binary_items binary_pairs tag_coded tag_of_code compact_field compact_scalar compact_size compact_span compact_items compact_pairs tag_in_half compact_tag
returns-clause-another_name c = refl

pub returns-clause-call : goal.returns-clause-call
unfolding reply_head_at whole_head either_head strict_head old_head version name_of sized_name compact_rest compact_head reply_kind value layer parts field_list field_behind item_list pair_list binary_field binary_scalar binary_size binary_span binary_items binary_pairs tag_coded tag_of_code compact_field compact_scalar compact_size compact_span compact_items compact_pairs tag_in_half compact_tag
returns-clause-call c = refl

pub returns-clause-short : goal.returns-clause-short
unfolding reply_head_at whole_head either_head strict_head old_head version name_of sized_name compact_rest compact_head reply_kind value layer parts field_list field_behind item_list pair_list binary_field binary_scalar binary_size binary_span binary_items binary_pairs tag_coded tag_of_code compact_field compact_scalar compact_size compact_span compact_items compact_pairs tag_in_half compact_tag
returns-clause-short c = refl
