use Rattle.stream_model.proofs.Splitting.{split_is_found, only_split}
use Rattle.stream_model.proofs.laws.streams_split_in_one_way.Goals as goal

pub returns-clause-found : goal.returns-clause-found
returns-clause-found c = split_is_found

pub returns-clause-only : goal.returns-clause-only
returns-clause-only c = only_split
