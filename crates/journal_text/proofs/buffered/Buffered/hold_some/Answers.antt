use Rattle.std.proofs.Common.{◌≤◌, Some, length, take, subst, refl, arith}
use Rattle.std.specs.List.{concat}
use Rattle.streams.specs.Content.{HasWritten}
use Rattle.journal_text.specs.Buffers.{most_held, entered_since}
use Rattle.journal_text.proofs.Buffering.{held_on, written_in, room_used, written_behind, passed_more}
use Rattle.journal_text.proofs.buffered.Buffered.hold_some.Goals as goal

pub invariant_of-self : goal.invariant_of-self
invariant_of-self g c = (
  held_on (g.K.Sink.taken c.self.inside.start.value) (g.K.Sink.taken c.self.inside.sink) (concat c.self.inside.passed) c.self.inside.held.items c.hold_front.new.held.items (take c.hold_front.result c.args.bytes.now)
      c.self.invariant.0 c.hold_front.ensures.items c.hold_front.ensures.bound,
  omega (arith, c.self.invariant.1, c.hold_front.ensures.capacity),
)

pub returns-then-count-lt-MOST_HELD-clause-told : goal.returns-then-count-lt-MOST_HELD-clause-told
returns-then-count-lt-MOST_HELD-clause-told g c =
    subst
    (λ v. HasWritten (Some (entered_since (g.K.Sink.taken v.start) v.passed v.held)) (Some (entered_since (g.K.Sink.taken c.self.inside.start.value) (concat c.self.inside.passed) c.hold_front.new.held.items)) c.args.bytes.now
    c.hold_front.result)
    c.self.view_is
    (written_in (g.K.Sink.taken c.self.inside.start.value) (concat c.self.inside.passed) c.self.inside.held.items c.hold_front.new.held.items c.args.bytes.now c.hold_front.result c.hold_front.ensures.items c.hold_front.ensures.count
    (λ some. c.hold_front.ensures.some))

pub invariant_of-self-2 : goal.invariant_of-self-2
invariant_of-self-2 g c =
    let full : most_held ≤ length c.self.inside.held.items = omega (arith, c.if-count-lt-MOST_HELD.false, c.len-count.ensures, c.self.inside.held.ok.0) in (
      room_used (g.K.Sink.taken c.self.inside.start.value) (g.K.Sink.taken c.self.inside.sink) (g.K.Sink.taken c.make_room.new.sink) (concat c.self.inside.passed) (concat c.push.new.self) c.self.inside.held.items c.make_room.new.held.items
          c.hold_front-2.new.held.items c.in_ok-passed.passed (take c.hold_front-2.result c.args.bytes.now) c.self.invariant.0 c.in_ok-passed.ensures.passed
          (passed_more c.self.inside.passed c.push.new.self c.in_ok-passed.passed c.push.ensures) c.hold_front-2.ensures.items full c.hold_front-2.ensures.more c.hold_front-2.ensures.bound,
      omega (arith, c.self.invariant.1, c.in_ok-passed.ensures.capacity, c.hold_front-2.ensures.capacity),
    )

pub returns-clause-told : goal.returns-clause-told
returns-clause-told g c =
    let full : most_held ≤ length c.self.inside.held.items = omega (arith, c.if-count-lt-MOST_HELD.false, c.len-count.ensures, c.self.inside.held.ok.0) in
    subst
    (λ v. HasWritten (Some (entered_since (g.K.Sink.taken v.start) v.passed v.held)) (Some (entered_since (g.K.Sink.taken c.self.inside.start.value) (concat c.push.new.self) c.hold_front-2.new.held.items)) c.args.bytes.now
    c.hold_front-2.result)
    c.self.view_is
    (written_behind (g.K.Sink.taken c.self.inside.start.value) (g.K.Sink.taken c.self.inside.sink) (g.K.Sink.taken c.make_room.new.sink) (concat c.self.inside.passed) (concat c.push.new.self) c.self.inside.held.items c.make_room.new.held.items
    c.hold_front-2.new.held.items c.in_ok-passed.passed (take c.hold_front-2.result c.args.bytes.now) c.self.invariant.0 c.in_ok-passed.ensures.passed
    (passed_more c.self.inside.passed c.push.new.self c.in_ok-passed.passed c.push.ensures) c.hold_front-2.ensures.items full c.hold_front-2.ensures.more c.args.bytes.now c.hold_front-2.result refl c.hold_front-2.ensures.count (λ some. c.hold_front-2.ensures.some))
