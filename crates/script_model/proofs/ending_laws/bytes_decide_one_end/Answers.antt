use Rattle.script_model.proofs.OneEnd.{one_end}
use Rattle.script_model.proofs.ending_laws.bytes_decide_one_end.Goals as goal

pub returns : goal.returns
returns g c d bytes one other small = one_end d small (λ size more. c.less_than_a_frame.ensures.payload d.max size more small) bytes one other
