use Rattle.std.proofs.Common.{refl}
use Rattle.envelope.specs.Spelling.{compact_id, compact_name}
use Rattle.envelope.specs.Exception.{compact_text_field, compact_code_field, failure_struct, exception_head}
use Rattle.envelope.proofs.examples.exceptions_are_written.Goals as goal

pub returns-clause-no_method : goal.returns-clause-no_method
unfolding failure_struct exception_head
returns-clause-no_method c = refl

pub returns-clause-no_service : goal.returns-clause-no_service
unfolding failure_struct exception_head
returns-clause-no_service c = refl

pub returns-clause-bad_arguments : goal.returns-clause-bad_arguments
unfolding failure_struct exception_head
returns-clause-bad_arguments c = refl

pub returns-clause-compact : goal.returns-clause-compact
unfolding compact_id compact_name compact_text_field compact_code_field failure_struct exception_head
returns-clause-compact c = refl

pub returns-clause-compact_numbers : goal.returns-clause-compact_numbers
unfolding compact_id compact_name compact_text_field compact_code_field failure_struct exception_head
returns-clause-compact_numbers c = refl
