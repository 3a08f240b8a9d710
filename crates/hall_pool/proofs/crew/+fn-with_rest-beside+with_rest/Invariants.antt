use Rattle.std.proofs.Common.{◌+◌, ◌*◌, vec_len}
use Rattle.hall_pool.proofs.crew.+fn-with_rest-beside+with_rest.Given as goal

abbrev pub decreases-with_rest : goal.decreases-with_rest
decreases-with_rest g l = 2 * vec_len l.seats

abbrev pub decreases-beside : goal.decreases-beside
decreases-beside g l = 2 * vec_len l.seats + 1
