use Rattle.plain_machine.proofs.Seeing.{Counting}
use Rattle.plain_machine.proofs.conn_events.open_among.Given as goal

abbrev pub invariant-loop-conn : goal.invariant-loop-conn
invariant-loop-conn l = Counting l.conns l.conn-index l.count
