use Rattle.std.proofs.Common.{List, ℕ, sym, subst}
use Rattle.port_calls.proofs.SentBytes.{HasSentBut, sent_on}
use Rattle.port_calls.proofs.sending.send_all.Goals as goal

pub pieces-preserved : goal.pieces-preserved
pieces-preserved g c =
    subst (λ (rest : List ℕ). HasSentBut c.args.bytes.now rest (g.P.Pipe.state c.args.pipe.now) (g.P.Pipe.state c.send.new.self)) (sym c.split_at.ensures.back)
    (sent_on c.args.bytes.now c.pieces.rest.now c.in_ok-count.count (g.P.Pipe.state c.args.pipe.now) (g.P.Pipe.state c.pieces.pipe) (g.P.Pipe.state c.send.new.self)
    c.pieces.invariant c.in_ok-count.ensures.sends)
