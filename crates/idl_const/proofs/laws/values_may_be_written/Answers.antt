use Rattle.idl_const.proofs.ValuesWritten.{evaluated_written, given_written, given_written_whole}
use Rattle.idl_const.proofs.laws.values_may_be_written.Goals as goal

pub returns-clause-anywhere : goal.returns-clause-anywhere
returns-clause-anywhere c s partial sound short file kind tree value count known few e = evaluated_written s partial sound short file kind tree value count known few e

pub returns-clause-given : goal.returns-clause-given
returns-clause-given c s partial sound short which kind v value count known few e = given_written s partial sound short which kind v value count known few e

pub returns-clause-whole : goal.returns-clause-whole
returns-clause-whole c = given_written_whole
