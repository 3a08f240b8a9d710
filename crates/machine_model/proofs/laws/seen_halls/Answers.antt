use Rattle.machine_model.proofs.Filling.{fill, all_allowed, seen_suffices}
use Rattle.machine_model.proofs.laws.seen_halls.Goals as goal

pub returns-clause-filled : goal.returns-clause-filled
returns-clause-filled g c r opening entries log may history = fill r opening entries log may history

pub returns-clause-allowed : goal.returns-clause-allowed
returns-clause-allowed g c r opening asks allowed = all_allowed r opening asks allowed

pub returns-clause-suffices : goal.returns-clause-suffices
returns-clause-suffices g c r opening seat log op history allowed may = seen_suffices r opening seat log op history allowed may
