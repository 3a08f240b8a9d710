use Rattle.std.proofs.Common.{refl}
use Rattle.script_model.proofs.examples.rehearsals_that_leave_one_open.Goals as goal

pub returns-clause-no_end : goal.returns-clause-no_end
returns-clause-no_end c = refl

pub returns-clause-empty_piece : goal.returns-clause-empty_piece
returns-clause-empty_piece c = refl

pub returns-clause-no_bytes : goal.returns-clause-no_bytes
returns-clause-no_bytes c = refl

pub returns-clause-empty_write : goal.returns-clause-empty_write
returns-clause-empty_write c = refl

pub returns-clause-no_such_worker : goal.returns-clause-no_such_worker
returns-clause-no_such_worker c = refl

pub returns-clause-no_room : goal.returns-clause-no_room
returns-clause-no_room c = refl
