use Rattle.std.proofs.Common.{refl}
use Rattle.envelope.specs.Readout.{head_at, whole_head, either_head, strict_head, old_head, version, name_of, sized_name, compact_rest, compact_head, call_type}
use Rattle.envelope.specs.Exception.{failure_struct, exception_head, compact_text_field, compact_code_field}
use Rattle.envelope.specs.Spelling.{compact_id, compact_name}
use Rattle.call_model.specs.Decisions.{failure_frame}
use Rattle.call_model.specs.Replies.{may_go_back, reply_head, within_frame, result_frame, reply_of_function, reply_of_service, reply_to_head}
use Rattle.call_model.proofs.examples.replies_are_tested.Goals as goal

pub returns-clause-flag : goal.returns-clause-flag
unfolding may_go_back reply_head within_frame result_frame reply_of_function reply_of_service reply_to_head failure_frame head_at whole_head either_head strict_head old_head version name_of sized_name compact_rest compact_head call_type failure_struct exception_head compact_id compact_name
returns-clause-flag c = refl

pub returns-clause-levels : goal.returns-clause-levels
unfolding may_go_back reply_head within_frame result_frame reply_of_function reply_of_service reply_to_head failure_frame head_at whole_head either_head strict_head old_head version name_of sized_name compact_rest compact_head call_type failure_struct exception_head compact_id compact_name
returns-clause-levels c = refl

pub returns-clause-too_deep : goal.returns-clause-too_deep
unfolding may_go_back reply_head within_frame result_frame reply_of_function reply_of_service reply_to_head failure_frame head_at whole_head either_head strict_head old_head version name_of sized_name compact_rest compact_head call_type failure_struct exception_head compact_id compact_name compact_text_field compact_code_field
returns-clause-too_deep c = refl

pub returns-clause-exception : goal.returns-clause-exception
unfolding may_go_back reply_head within_frame result_frame reply_of_function reply_of_service reply_to_head failure_frame head_at whole_head either_head strict_head old_head version name_of sized_name compact_rest compact_head call_type failure_struct exception_head compact_id compact_name
returns-clause-exception c = refl

pub returns-clause-untidy : goal.returns-clause-untidy
unfolding may_go_back reply_head within_frame result_frame reply_of_function reply_of_service reply_to_head failure_frame head_at whole_head either_head strict_head old_head version name_of sized_name compact_rest compact_head call_type failure_struct exception_head compact_id compact_name
returns-clause-untidy c = refl

pub returns-clause-longest : goal.returns-clause-longest
unfolding may_go_back reply_head within_frame result_frame reply_of_function reply_of_service reply_to_head failure_frame head_at whole_head either_head strict_head old_head version name_of sized_name compact_rest compact_head call_type failure_struct exception_head compact_id compact_name
returns-clause-longest c = refl

pub returns-clause-longer : goal.returns-clause-longer
unfolding may_go_back reply_head within_frame result_frame reply_of_function reply_of_service reply_to_head failure_frame head_at whole_head either_head strict_head old_head version name_of sized_name compact_rest compact_head call_type failure_struct exception_head compact_id compact_name
returns-clause-longer c = refl
