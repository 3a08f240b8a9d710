use Rattle.std.proofs.Common.{rules, ◌≡◌, Vec, Global, ℕ, Option, Result, Err, sym, subst}
use Rattle.port_calls.specs.Exchanging.{HasTalked}
use Rattle.port_calls.specs.declared.asking_fault.AskingFault.{AskingFault}
use Rattle.port_calls.specs.declared.asking_fault.AskingFault.TheVariants as faults
use Rattle.port_calls.proofs.Talking.{unsent}
use Rattle.port_calls.proofs.asking.talk.Goals as goal

pub returns-in_err-send_all : goal.returns-in_err-send_all
returns-in_err-send_all g c =
    let is : c.from_residual.result ≡ Err faults.NetFault = search (rules, c.from_residual.ensures) in
    record {
      talked = subst (λ (r : Result (Option (Vec ℕ Global)) AskingFault). HasTalked (λ (v : Vec ℕ Global). v.items) c.args.frame.now c.args.waits c.args.most (g.P.Pipe.state c.args.pipe.now) (g.P.Pipe.state c.send_all.new.pipe) r)
          (sym is)
          (unsent (λ (v : Vec ℕ Global). v.items) c.args.frame.now c.args.waits c.args.most (g.P.Pipe.state c.args.pipe.now) (g.P.Pipe.state c.send_all.new.pipe) _ c.in_err-send_all.ensures.sent);
    }
