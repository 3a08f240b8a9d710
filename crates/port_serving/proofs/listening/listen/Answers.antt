use Rattle.std.proofs.Common.{◌≡◌, false, Err, refl, sym, ap, subst, ◌∙◌}
use Rattle.std.proofs.lemmas.Result.{err_from_is_err_and}
use Rattle.outside.specs.LinksState.{Listening}
use Rattle.outside.specs.Binding.{told_past, one_more_back}
use Rattle.port_serving.specs.Steps.{PortState, EndsListening}
use Rattle.port_serving.proofs.Linking.{fresh_back, they_listen}
use Rattle.port_serving.specs.Answered.{goes_on}
use Rattle.port_serving.proofs.Answering.{unbound, broken_off, binding_goes_on, summary_over}
use Rattle.port_serving.proofs.PlaceServed.{same_count}
use Rattle.port_serving.proofs.listening.listen.Goals as goal

pub take_back-requires : goal.take_back-requires
take_back-requires g c = they_listen _ _ c.in_ok-links.ensures.made.listens

pub returns-in_err-links-clause-listening : goal.returns-in_err-links-clause-listening
returns-in_err-links-clause-listening g c =
    let p = err_from_is_err_and c.from_residual.result c.from_residual.ensures.1 in
    let at : Listening = record { port = c.args.port; accept = c.args.accept } in
    let before : PortState =
    (record { past = g.B.Binder.past c.args.binder.now; handed = g.B.Binder.handed c.args.binder.now; taken = g.K.Sink.taken c.args.output.now }) in
    let now : PortState =
    (record { past = g.B.Binder.past c.listen.new.self; handed = g.B.Binder.handed c.listen.new.self; taken = g.K.Sink.taken c.args.output.now }) in
    rw (p.1, p.2)
    (unbound c.in_err-links.field-0.0 before now at (record { past = c.in_err-links.ensures.same; handed = c.in_err-links.ensures.handed; taken = refl }))

pub returns-in-Err-clause-listening : goal.returns-in-Err-clause-listening
returns-in-Err-clause-listening g c =
    let at : Listening = record { port = c.args.port; accept = c.args.accept } in
    let before : PortState =
    (record { past = g.B.Binder.past c.args.binder.now; handed = g.B.Binder.handed c.args.binder.now; taken = g.K.Sink.taken c.args.output.now }) in
    let now : PortState =
    (record { past = g.B.Binder.past c.take_back.new.self; handed = g.B.Binder.handed c.take_back.new.self; taken = g.K.Sink.taken c.write_listening.new.out }) in
    subst (λ f. EndsListening f before now at) (sym c.from.ensures)
    (broken_off c.in-Err.fault before now at
    (record {
      back = fresh_back before.past now.past at (g.B.L.Links.state c.in_ok-links.links) c.in_ok-links.ensures.made
          (c.take_back.ensures.past ∙ ap (λ o. told_past o (g.B.L.Links.state c.in_ok-links.links)) c.in_ok-links.ensures.same);
      once = c.take_back.ensures.handed ∙ ap one_more_back c.in_ok-links.ensures.handed;
      begun = c.in-Err.ensures.told;
    }))

pub returns-in_err-links-clause-binder_kept : goal.returns-in_err-links-clause-binder_kept
returns-in_err-links-clause-binder_kept g c =
    let p = err_from_is_err_and c.from_residual.result c.from_residual.ensures.1 in
    rw (p.1, p.2) (λ over. absurd (binding_goes_on c.in_err-links.field-0.0 over))

pub returns-in_err-links-clause-output_kept : goal.returns-in_err-links-clause-output_kept
returns-in_err-links-clause-output_kept g c = λ over not_it. refl

pub returns-in-Err-clause-binder_kept : goal.returns-in-Err-clause-binder_kept
returns-in-Err-clause-binder_kept g c = λ over.
    same_count (g.B.L.Links.state c.in_ok-links.links).net_faults _ _ c.in_ok-links.ensures.made.faultless c.take_back.ensures.cause
    ∙ c.in_ok-links.ensures.cause.kept (λ e. let never : ⊥ = cc in never)

pub returns-in-Err-clause-output_kept : goal.returns-in-Err-clause-output_kept
returns-in-Err-clause-output_kept g c = λ over not_it.
    absurd (not_it (ap Err (c.from.ensures ∙ summary_over c.in-Err.fault (subst (λ f. goes_on f ≡ false) c.from.ensures over))))

pub returns-in-Ok-clause-binder_kept : goal.returns-in-Ok-clause-binder_kept
returns-in-Ok-clause-binder_kept g c = λ over. c.in_ok-links.ensures.cause.kept (λ e. let never : ⊥ = cc in never)

pub returns-in-Ok-clause-output_kept : goal.returns-in-Ok-clause-output_kept
returns-in-Ok-clause-output_kept g c = λ over not_it. c.in-Ok.ensures.cause.kept (λ e. let never : ⊥ = cc in never)
