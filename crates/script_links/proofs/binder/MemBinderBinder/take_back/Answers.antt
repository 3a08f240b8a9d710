use Rattle.std.proofs.Common.{◌≡◌, [], ◌∷◌, ◌++◌, Some, ap, ◌∙◌}
use Rattle.streams.specs.Cause.{next_if_faulty}
use Rattle.outside.specs.Binding.{one_more_back}
use Rattle.script_links.specs.Listens.{ListeningScript}
use Rattle.script_links.specs.Binding.{BinderState}
use Rattle.script_links.specs.Past.{past_in_chain}
use Rattle.std.specs.Box.{with_value}
use Rattle.script_links.specs.declared.past.PastChain.{Behind}
use Rattle.script_links.proofs.PastRows.{past_behind}
use Rattle.script_links.proofs.binder.MemBinderBinder.take_back.Goals as goal

pub returns-clause-after : goal.returns-clause-after
returns-clause-after c =
    let before : past_in_chain c.replace.result ≡ c.args.self.now.past = ap past_in_chain c.replace.ensures.value ∙ ap (λ (b : BinderState). b.past) c.self.view_is in
    let tape : c.tape_of-tape.result ≡ c.args.links.served.tape = c.tape_of-tape.ensures ∙ ap (λ (l : ListeningScript). l.served.tape) c.links.view_is in
    let over : c.links.inside.serving.over ≡ c.args.links.served.over = ap (λ (l : ListeningScript). l.served.over) c.links.view_is in
    let listening : record { port = c.links.inside.port; accept = c.links.inside.accept } ≡ c.args.links.listening = ap (λ (l : ListeningScript). l.listening) c.links.view_is in
    let net : c.links.inside.net_faults ≡ c.args.links.net_faults = ap (λ (l : ListeningScript). l.net_faults) c.links.view_is in
    let handed : c.take_back.new.self ≡ one_more_back c.args.self.now.handed = c.take_back.ensures ∙ ap (λ (b : BinderState). one_more_back b.handed) c.self.view_is in
    let whole : past_in_chain (Behind (with_value c.links.inside.room c.replace.result) (record { tape = c.tape_of-tape.result; over = c.links.inside.serving.over; port = c.links.inside.port; accept = c.links.inside.accept }))
    ≡ c.args.self.now.past ++ record { tape = c.args.links.served.tape; over = c.args.links.served.over; listening = c.args.links.listening } ∷ [] =
    past_behind (with_value c.links.inside.room c.replace.result) (record { tape = c.tape_of-tape.result; over = c.links.inside.serving.over; port = c.links.inside.port; accept = c.links.inside.accept })
    ∙ (λ i. before i ++ record { tape = tape i; over = over i; listening = listening i } ∷ []) in
    c.count_links.ensures ∙ (λ i. record {
      script = (c.self.view_is i).script;
      calls = (c.self.view_is i).calls;
      plan = (c.self.view_is i).plan;
      answer = (c.self.view_is i).answer;
      faults = next_if_faulty (net i) (c.self.view_is i).faults;
      past = whole i;
      called = (c.self.view_is i).called;
      handed = handed i;
    })

pub returns-clause-past : goal.returns-clause-past
returns-clause-past c = ap (λ (b : BinderState). Some b.past) (returns-clause-after c)

pub returns-clause-cause : goal.returns-clause-cause
returns-clause-cause c = ap (λ (b : BinderState). b.faults) (returns-clause-after c)

pub returns-clause-called_same : goal.returns-clause-called_same
returns-clause-called_same c = ap (λ (b : BinderState). Some b.called) (returns-clause-after c)

pub returns-clause-handed : goal.returns-clause-handed
returns-clause-handed c = ap (λ (b : BinderState). b.handed) (returns-clause-after c)
