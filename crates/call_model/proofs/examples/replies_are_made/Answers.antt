use Rattle.std.proofs.Common.{refl}
use Rattle.envelope.specs.Readout.{head_at, whole_head, either_head, strict_head, old_head, version, name_of, sized_name, compact_rest, compact_head, call_type}
use Rattle.envelope.specs.Exception.{failure_struct, exception_head}
use Rattle.envelope.specs.Spelling.{compact_id, compact_name}
use Rattle.call_model.specs.Decisions.{failure_frame}
use Rattle.call_model.specs.Replies.{may_go_back, reply_head, within_frame, result_frame, reply_of_function, reply_of_service, reply_to_head}
use Rattle.call_model.proofs.examples.replies_are_made.Goals as goal

pub returns-clause-nothing : goal.returns-clause-nothing
unfolding may_go_back reply_head within_frame result_frame reply_of_function reply_of_service reply_to_head failure_frame head_at whole_head either_head strict_head old_head version name_of sized_name compact_rest compact_head call_type failure_struct exception_head compact_id compact_name
returns-clause-nothing c = refl

pub returns-clause-sum : goal.returns-clause-sum
unfolding may_go_back reply_head within_frame result_frame reply_of_function reply_of_service reply_to_head failure_frame head_at whole_head either_head strict_head old_head version name_of sized_name compact_rest compact_head call_type failure_struct exception_head compact_id compact_name
returns-clause-sum c = refl

pub returns-clause-compact : goal.returns-clause-compact
unfolding may_go_back reply_head within_frame result_frame reply_of_function reply_of_service reply_to_head failure_frame head_at whole_head either_head strict_head old_head version name_of sized_name compact_rest compact_head call_type failure_struct exception_head compact_id compact_name
returns-clause-compact c = refl

pub returns-clause-old_head : goal.returns-clause-old_head
unfolding may_go_back reply_head within_frame result_frame reply_of_function reply_of_service reply_to_head failure_frame head_at whole_head either_head strict_head old_head version name_of sized_name compact_rest compact_head call_type failure_struct exception_head compact_id compact_name
returns-clause-old_head c = refl

pub returns-clause-thrown : goal.returns-clause-thrown
unfolding may_go_back reply_head within_frame result_frame reply_of_function reply_of_service reply_to_head failure_frame head_at whole_head either_head strict_head old_head version name_of sized_name compact_rest compact_head call_type failure_struct exception_head compact_id compact_name
returns-clause-thrown c = refl

pub returns-clause-without_its_service : goal.returns-clause-without_its_service
unfolding may_go_back reply_head within_frame result_frame reply_of_function reply_of_service reply_to_head failure_frame head_at whole_head either_head strict_head old_head version name_of sized_name compact_rest compact_head call_type failure_struct exception_head compact_id compact_name
returns-clause-without_its_service c = refl

pub returns-clause-another_type : goal.returns-clause-another_type
unfolding may_go_back reply_head within_frame result_frame reply_of_function reply_of_service reply_to_head failure_frame head_at whole_head either_head strict_head old_head version name_of sized_name compact_rest compact_head call_type failure_struct exception_head compact_id compact_name
returns-clause-another_type c = refl

pub returns-clause-broken : goal.returns-clause-broken
unfolding may_go_back reply_head within_frame result_frame reply_of_function reply_of_service reply_to_head failure_frame head_at whole_head either_head strict_head old_head version name_of sized_name compact_rest compact_head call_type failure_struct exception_head compact_id compact_name
returns-clause-broken c = refl

pub returns-clause-nothing_to_give : goal.returns-clause-nothing_to_give
unfolding may_go_back reply_head within_frame result_frame reply_of_function reply_of_service reply_to_head failure_frame head_at whole_head either_head strict_head old_head version name_of sized_name compact_rest compact_head call_type failure_struct exception_head compact_id compact_name
returns-clause-nothing_to_give c = refl

pub returns-clause-undeclared : goal.returns-clause-undeclared
unfolding may_go_back reply_head within_frame result_frame reply_of_function reply_of_service reply_to_head failure_frame head_at whole_head either_head strict_head old_head version name_of sized_name compact_rest compact_head call_type failure_struct exception_head compact_id compact_name
returns-clause-undeclared c = refl

pub returns-clause-too_large : goal.returns-clause-too_large
unfolding may_go_back reply_head within_frame result_frame reply_of_function reply_of_service reply_to_head failure_frame head_at whole_head either_head strict_head old_head version name_of sized_name compact_rest compact_head call_type failure_struct exception_head compact_id compact_name
returns-clause-too_large c = refl
