use Rattle.cell_loop.proofs.Composing.{then_comes}
use Rattle.cell_loop.proofs.move_laws.doings_compose.Goals as goal

pub returns : goal.returns
returns c one other old mid new first second = then_comes one other old mid new first second
