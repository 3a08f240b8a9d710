use Rattle.machine_model.proofs.Breaking.{broken_rose, told_rose, closed_rose, whole_count}
use Rattle.machine_model.proofs.Telling.{turns_close}
use Rattle.machine_model.proofs.laws.trouble_shows.Goals as goal

pub returns-clause-broken : goal.returns-clause-broken
returns-clause-broken g c r opening log opened history broken = broken_rose r opening log opened history broken

pub returns-clause-whole : goal.returns-clause-whole
returns-clause-whole g c r opening log history whole = (whole_count r opening log history whole).1

pub returns-clause-told : goal.returns-clause-told
returns-clause-told g c r opening log opened history told = told_rose r opening log opened history told

pub returns-clause-closed : goal.returns-clause-closed
returns-clause-closed g c r opening log opened history rule closed = closed_rose r opening log opened history rule closed

pub returns-clause-turns : goal.returns-clause-turns
returns-clause-turns g c d asks turns = turns_close d asks turns
