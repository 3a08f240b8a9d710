use Rattle.script_model.proofs.OneEnd.{LessThanAFrame}
use Rattle.script_model.proofs.FedEnds.{each_ends, ended_at, answered}
use Rattle.script_model.proofs.ending_laws.fed_connections_end_by_their_pieces.Goals as goal

pub returns-clause-each : goal.returns-clause-each
returns-clause-each g c d r memories budget script tape journal causes x headline fed goes = each_ends d r memories budget script tape journal causes headline fed goes x

pub returns-clause-whole : goal.returns-clause-whole
returns-clause-whole g c d r memories budget script tape journal causes x small headline fed goes within nowhere memory on =
    let partial : LessThanAFrame d.max = λ size more. c.less_than_a_frame.ensures.payload d.max size more small in (
      ended_at d r memories budget script tape journal causes headline fed goes small partial x within nowhere memory on,
      answered d r memories budget script tape journal causes headline fed goes small partial x within nowhere memory on,
    )
