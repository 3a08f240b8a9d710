use Rattle.machine_model.proofs.Determining.{there_is, same_answer, same_hall, wanting, broken_where, count_kept, count_told}
use Rattle.machine_model.proofs.laws.one_answer.Goals as goal

pub returns-clause-some : goal.returns-clause-some
returns-clause-some g c r old op can = there_is r old op can

pub returns-clause-answer : goal.returns-clause-answer
returns-clause-answer g c r old new other op answer reply a b free free' = same_answer r old new other op answer reply a b free free'

pub returns-clause-hall : goal.returns-clause-hall
returns-clause-hall g c r old new other op answer a b n = same_hall r old new other op answer a b n

pub returns-clause-want : goal.returns-clause-want
returns-clause-want g c r old new key call t = wanting r old new key call t

pub returns-clause-broken : goal.returns-clause-broken
returns-clause-broken g c r old new key call answer t = broken_where r old new key call answer t

pub returns-clause-count : goal.returns-clause-count
returns-clause-count g c r old new op answer t n = count_kept r old new op answer t n

pub returns-clause-told : goal.returns-clause-told
returns-clause-told g c r old new op answer t n = count_told r old new op answer t n
