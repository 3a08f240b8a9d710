use Rattle.std.proofs.Common.{rules, ◌≡◌, ◌<◌, ◌≤◌, ◌∙◌, Vec, Global, ℕ, length, pos, Result, Err, refl, sym, subst}
use Rattle.host_model.specs.Frames.{size_bytes}
use Rattle.port_calls.specs.Exchanging.{HasHeardFrame, fault_of}
use Rattle.port_calls.specs.declared.asking_fault.AskingFault.{AskingFault}
use Rattle.port_calls.proofs.Framing.{short_payload, unheard_payload}
use Rattle.port_calls.proofs.hearing.hear_frame.Goals as goal

pub returns-in_err-payload : goal.returns-in_err-payload
returns-in_err-payload g c =
    let all : 4 ≤ length c.in_ok-size.size.items = search (rules, c.len.ensures, c.if-len-lt4.false) in
    let is : size_bytes c.size_of-size.result ≡ c.in_ok-size.size.items = c.size_of-size.ensures ∙ c.as_slice.ensures.value in
    let counts : pos c.in-Some.count ≡ c.size_of-size.result = search (rules, c.in-Some.ensures.2) in
    let whole : c.from_residual-in_err-payload.result ≡ Err (fault_of c.in_err-payload.field-0.0) = search (rules, c.from_residual-in_err-payload.ensures) in
    record {
      heard = subst (λ (r : Result (Vec ℕ Global) AskingFault). HasHeardFrame c.args.most (λ (v : Vec ℕ Global). v.items) (g.P.Pipe.state c.args.pipe.now) (g.P.Pipe.state c.hear-2.new.pipe) r) (sym whole)
          (unheard_payload c.args.most (λ (v : Vec ℕ Global). v.items) (λ (v : Vec ℕ Global). v.items) _ _ _ c.in_ok-size.size c.size_of-size.result c.in-Some.count c.in_ok-size.ensures.heard all is
          counts c.in-Some.ensures.0 c.in-Some.ensures.1 c.requires.most c.in_err-payload.field-0.0 (fault_of c.in_err-payload.field-0.0) c.less_than_a_frame.ensures.payload
          c.in_err-payload.ensures.heard refl);
    }

pub returns-then-len-count : goal.returns-then-len-count
returns-then-len-count g c =
    let all : 4 ≤ length c.in_ok-size.size.items = search (rules, c.len.ensures, c.if-len-lt4.false) in
    let less : length c.in_ok-payload.payload.items < c.in-Some.count = search (rules, c.len-2.ensures, c.if-len-count.true) in
    let is : size_bytes c.size_of-size.result ≡ c.in_ok-size.size.items = c.size_of-size.ensures ∙ c.as_slice.ensures.value in
    let counts : pos c.in-Some.count ≡ c.size_of-size.result = search (rules, c.in-Some.ensures.2) in
    record {
      heard = short_payload c.args.most (λ (v : Vec ℕ Global). v.items) (λ (v : Vec ℕ Global). v.items) _ _ _ c.in_ok-size.size c.size_of-size.result c.in-Some.count c.in_ok-size.ensures.heard all is
          counts c.in-Some.ensures.0 c.in-Some.ensures.1 c.requires.most c.in_ok-payload.payload c.less_than_a_frame.ensures.payload c.in_ok-payload.ensures.heard less;
    }
