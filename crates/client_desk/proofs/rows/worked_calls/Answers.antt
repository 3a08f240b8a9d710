use Rattle.std.proofs.Common.{refl}
use Rattle.envelope.specs.Spelling.{compact_id, compact_name}
use Rattle.client_desk.specs.Asking.{call_message, may_go_out}
use Rattle.client_desk.proofs.rows.worked_calls.Goals as goal

pub returns-clause-add : goal.returns-clause-add
unfolding may_go_out call_message compact_id compact_name
returns-clause-add c = refl

pub returns-clause-compact : goal.returns-clause-compact
unfolding may_go_out call_message compact_id compact_name
returns-clause-compact c = refl

pub returns-clause-of_a_service : goal.returns-clause-of_a_service
unfolding may_go_out call_message compact_id compact_name
returns-clause-of_a_service c = refl

pub returns-clause-oneway : goal.returns-clause-oneway
unfolding may_go_out call_message compact_id compact_name
returns-clause-oneway c = refl

pub returns-clause-absent : goal.returns-clause-absent
unfolding may_go_out call_message compact_id compact_name
returns-clause-absent c = refl

pub returns-clause-no_method : goal.returns-clause-no_method
unfolding may_go_out call_message compact_id compact_name
returns-clause-no_method c = refl

pub returns-clause-another_type : goal.returns-clause-another_type
unfolding may_go_out call_message compact_id compact_name
returns-clause-another_type c = refl

pub returns-clause-longest : goal.returns-clause-longest
unfolding may_go_out call_message compact_id compact_name
returns-clause-longest c = refl

pub returns-clause-longer : goal.returns-clause-longer
unfolding may_go_out call_message compact_id compact_name
returns-clause-longer c = refl
