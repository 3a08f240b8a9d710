use Rattle.std.proofs.Common.{Vec, Global, ℕ}
use Rattle.port_calls.proofs.Hanging.{hung_up, asking_cause}
use Rattle.port_calls.proofs.asking.ask_port.Goals as goal

pub returns-in-Ok-clause-called : goal.returns-in-Ok-clause-called
returns-in-Ok-clause-called g c =
    hung_up (λ (v : Vec ℕ Global). v.items) c.args.frame.now c.args.waits c.args.most c.args.port _ _ _ _ _ _ c.in-Ok.ensures.made c.talk-result.ensures.talked c.dial.ensures.same
    c.hang_up.ensures.called c.in-Ok.ensures.handed c.hang_up.ensures.handed

pub returns-in-Ok-clause-cause : goal.returns-in-Ok-clause-cause
returns-in-Ok-clause-cause g c =
    asking_cause (λ (v : Vec ℕ Global). v.items) c.args.frame.now c.args.waits c.args.most c.args.port _ _ _ _ _ _ _ (c.in-Ok.ensures.cause.kept (λ e. absurd (let f : ⊥ = cc in f)))
    c.in-Ok.ensures.made c.talk-result.ensures.talked c.hang_up.ensures.cause
