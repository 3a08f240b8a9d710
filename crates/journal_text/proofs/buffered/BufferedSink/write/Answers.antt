use Rattle.std.proofs.Common.{◌≡◌, ◌+◌, ◌++◌, Some, length, sym, ap, subst, arith, ◌∙◌, length-append}
use Rattle.std.specs.List.{concat}
use Rattle.std.proofs.lemmas.List.{take_all}
use Rattle.streams.specs.Content.{HasWritten}
use Rattle.journal_text.specs.Buffers.{entered_since}
use Rattle.journal_text.proofs.Buffering.{held_on, written_in}
use Rattle.journal_text.proofs.buffered.BufferedSink.write.Goals as goal

pub invariant_of-self : goal.invariant_of-self
invariant_of-self g c =
    let size : length c.hold.new.held.items ≡ length c.self.inside.held.items + length c.args.bytes.now =
    ap length c.hold.ensures.items ∙ length-append c.self.inside.held.items c.args.bytes.now in (
      held_on (g.K.Sink.taken c.self.inside.start.value) (g.K.Sink.taken c.self.inside.sink) (concat c.self.inside.passed) c.self.inside.held.items c.hold.new.held.items c.args.bytes.now c.self.invariant.0 c.hold.ensures.items
          (omega (arith, size, c.if-bytes-room.true, c.len-room.ensures, c.self.inside.held.ok.0, c.self.invariant.0.bound)),
      omega (arith, c.self.invariant.1, c.hold.ensures.capacity),
    )

pub returns-then-bytes-room-clause-told : goal.returns-then-bytes-room-clause-told
returns-then-bytes-room-clause-told g c =
    subst
    (λ v. HasWritten (Some (entered_since (g.K.Sink.taken v.start) v.passed v.held)) (Some (entered_since (g.K.Sink.taken c.self.inside.start.value) (concat c.self.inside.passed) c.hold.new.held.items)) c.args.bytes.now
    (length c.args.bytes.now))
    c.self.view_is
    (written_in (g.K.Sink.taken c.self.inside.start.value) (concat c.self.inside.passed) c.self.inside.held.items c.hold.new.held.items c.args.bytes.now (length c.args.bytes.now)
    (c.hold.ensures.items ∙ ap (λ t. c.self.inside.held.items ++ t) (sym (take_all (length c.args.bytes.now) c.args.bytes.now (omega arith)))) (omega arith) (λ some. some))
