use Rattle.stream_model.proofs.Settling.{settled_stays, all_settle, settled_within, settled_by_its_bytes, no_fewer_settle}
use Rattle.stream_model.proofs.laws.settled_messages_stay.Goals as goal

pub returns-clause-stays : goal.returns-clause-stays
returns-clause-stays c = settled_stays

pub returns-clause-all : goal.returns-clause-all
returns-clause-all c = all_settle

pub returns-clause-within : goal.returns-clause-within
returns-clause-within c = settled_within

pub returns-clause-by_its_bytes : goal.returns-clause-by_its_bytes
returns-clause-by_its_bytes c = settled_by_its_bytes

pub returns-clause-by_no_fewer : goal.returns-clause-by_no_fewer
returns-clause-by_no_fewer c = no_fewer_settle
