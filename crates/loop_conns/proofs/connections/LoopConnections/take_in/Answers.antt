use Rattle.std.proofs.Common.{◌≡◌, ℕ, Option, None, Some, IsSome, slice_index_or, refl, sym, ap, ◌∙◌, subst}
use Rattle.std.specs.Prelude.{is_some}
use Rattle.host_model.specs.declared.cause.EndCause.{EndCause}
use Rattle.conn_state.specs.Phase.{ConnView, cause_of, size_asked, IsReading, IsReady}
use Rattle.conn_state.specs.Step.{after_took}
use Rattle.conn_table.specs.Table.{TableView, slot_of}
use Rattle.conn_table.proofs.Placing.{value_of}
use Rattle.loop_conns.specs.declared.connections.ConnStage.TheVariants.{Gone}
use Rattle.loop_conns.specs.Ended.{HasSizeBy}
use Rattle.loop_conns.proofs.Testing.{none_by, is_whole, is_not_whole}
use Rattle.loop_conns.proofs.Making.{reading_on}
use Rattle.loop_conns.proofs.TakingIn.{HasTakenIn, taken_there, taken_state, taken_size, goes_part, goes_whole, goes_over}
use Rattle.loop_conns.proofs.connections.LoopConnections.take_in.Goals as goal

pub conn-conn-requires : goal.conn-conn-requires
conn-conn-requires g c =
    let taken : HasTakenIn c.args.max_frame c.args.c c.args.self.now c.args.bytes.now c.took.new.self =
    record {
      small = c.requires.small;
      there = c.requires.there;
      reading = c.requires.reading;
      some = c.requires.some;
      asked = c.requires.asked;
      are = c.took.ensures.bytes;
      has = c.requires.admitted;
      table = c.took.ensures.after;
    } in
    taken_there c.args.max_frame c.args.c c.args.self.now c.args.bytes.now c.took.new.self taken

pub release_and_close-requires-clause-size : goal.release_and_close-requires-clause-size
release_and_close-requires-clause-size g c κs within =
    let taken : HasTakenIn c.args.max_frame c.args.c c.args.self.now c.args.bytes.now c.took.new.self =
    record {
      small = c.requires.small;
      there = c.requires.there;
      reading = c.requires.reading;
      some = c.requires.some;
      asked = c.requires.asked;
      are = c.took.ensures.bytes;
      has = c.requires.admitted;
      table = c.took.ensures.after;
    } in
    subst (λ (o : Option ℕ). HasSizeBy (slice_index_or c.args.self.now.stages.items c.args.c Gone) o)
    (sym (taken_size c.args.max_frame c.args.c c.args.self.now c.args.bytes.now c.took.new.self taken)) c.requires.size

pub returns-then-is_some-clause-going : goal.returns-then-is_some-clause-going
returns-then-is_some-clause-going g c = λ first before asks going reads moves.
    let taken : HasTakenIn c.args.max_frame c.args.c c.args.self.now c.args.bytes.now c.took.new.self =
    record {
      small = c.requires.small;
      there = c.requires.there;
      reading = c.requires.reading;
      some = c.requires.some;
      asked = c.requires.asked;
      are = c.took.ensures.bytes;
      has = c.requires.admitted;
      table = c.took.ensures.after;
    } in
    let over : IsSome (cause_of (slot_of c.args.c c.took.new.self.slots).conn.phase) =
    ap is_some (sym (c.cause.ensures.cause ∙ ap (λ (v : ConnView). cause_of v.phase) c.conn-conn.ensures.state)) ∙ sym c.is_some.ensures ∙ c.if-is_some.true in
    let why : (x : EndCause) × (cause_of (slot_of c.args.c c.took.new.self.slots).conn.phase ≡ Some x) = value_of (cause_of (slot_of c.args.c c.took.new.self.slots).conn.phase) over in
    goes_over c.args.max_frame c.args.c c.args.self.now c.args.bytes.now c.took.new.self taken first before _ asks going reads moves c.release_and_close.new.self _ why.0
    (c.release_and_close.ensures.ended why.0 why.1) c.release_and_close.ensures.owing c.release_and_close.ensures.closed why.1

pub returns-then-frames-clause-going : goal.returns-then-frames-clause-going
returns-then-frames-clause-going g c = λ first before asks going reads moves.
    let taken : HasTakenIn c.args.max_frame c.args.c c.args.self.now c.args.bytes.now c.took.new.self =
    record {
      small = c.requires.small;
      there = c.requires.there;
      reading = c.requires.reading;
      some = c.requires.some;
      asked = c.requires.asked;
      are = c.took.ensures.bytes;
      has = c.requires.admitted;
      table = c.took.ensures.after;
    } in
    goes_whole c.args.max_frame c.args.c c.args.self.now c.args.bytes.now c.took.new.self taken first before _ asks going reads moves _ refl c.requires.link
    (is_whole c.args.c c.args.self.now.table c.took.new.self c.took.ensures.whole (slot_of c.args.c c.args.self.now.table.slots).conn c.conn-conn.result.now c.args.frames c.frames.result refl
    c.conn-conn.ensures.state c.requires.before c.frames.ensures c.if-frames.true)

pub returns-then-is_some-2-clause-going : goal.returns-then-is_some-2-clause-going
returns-then-is_some-2-clause-going g c = λ first before asks going reads moves.
    let taken : HasTakenIn c.args.max_frame c.args.c c.args.self.now c.args.bytes.now c.took.new.self =
    record {
      small = c.requires.small;
      there = c.requires.there;
      reading = c.requires.reading;
      some = c.requires.some;
      asked = c.requires.asked;
      are = c.took.ensures.bytes;
      has = c.requires.admitted;
      table = c.took.ensures.after;
    } in
    let none : cause_of (slot_of c.args.c c.took.new.self.slots).conn.phase ≡ None =
    none_by (cause_of (slot_of c.args.c c.took.new.self.slots).conn.phase)
    (ap is_some (sym (c.cause.ensures.cause ∙ ap (λ (v : ConnView). cause_of v.phase) c.conn-conn.ensures.state)) ∙ sym c.is_some.ensures ∙ c.if-is_some.false) in
    goes_part c.args.max_frame c.args.c c.args.self.now c.args.bytes.now c.took.new.self taken first before _ asks going reads moves _ refl c.requires.link none
    (is_not_whole c.args.c c.args.self.now.table c.took.new.self c.took.ensures.whole (slot_of c.args.c c.args.self.now.table.slots).conn c.conn-conn.result.now c.args.frames c.frames.result refl
    c.conn-conn.ensures.state c.requires.before c.frames.ensures c.if-frames.false)

pub returns-clause-going : goal.returns-clause-going
returns-clause-going g c = λ first before asks going reads moves.
    let taken : HasTakenIn c.args.max_frame c.args.c c.args.self.now c.args.bytes.now c.took.new.self =
    record {
      small = c.requires.small;
      there = c.requires.there;
      reading = c.requires.reading;
      some = c.requires.some;
      asked = c.requires.asked;
      are = c.took.ensures.bytes;
      has = c.requires.admitted;
      table = c.took.ensures.after;
    } in
    let none : cause_of (slot_of c.args.c c.took.new.self.slots).conn.phase ≡ None =
    none_by (cause_of (slot_of c.args.c c.took.new.self.slots).conn.phase)
    (ap is_some (sym (c.cause.ensures.cause ∙ ap (λ (v : ConnView). cause_of v.phase) c.conn-conn.ensures.state)) ∙ sym c.is_some.ensures ∙ c.if-is_some.false) in
    goes_part c.args.max_frame c.args.c c.args.self.now c.args.bytes.now c.took.new.self taken first before _ asks going reads moves _ refl c.requires.link none
    (is_not_whole c.args.c c.args.self.now.table c.took.new.self c.took.ensures.whole (slot_of c.args.c c.args.self.now.table.slots).conn c.conn-conn.result.now c.args.frames c.frames.result refl
    c.conn-conn.ensures.state c.requires.before c.frames.ensures c.if-frames.false)

pub returns-clause-step : goal.returns-clause-step
returns-clause-step g c = λ reads.
    let taken : HasTakenIn c.args.max_frame c.args.c c.args.self.now c.args.bytes.now c.took.new.self =
    record {
      small = c.requires.small;
      there = c.requires.there;
      reading = c.requires.reading;
      some = c.requires.some;
      asked = c.requires.asked;
      are = c.took.ensures.bytes;
      has = c.requires.admitted;
      table = c.took.ensures.after;
    } in
    let none : cause_of (slot_of c.args.c c.took.new.self.slots).conn.phase ≡ None =
    none_by (cause_of (slot_of c.args.c c.took.new.self.slots).conn.phase)
    (ap is_some (sym (c.cause.ensures.cause ∙ ap (λ (v : ConnView). cause_of v.phase) c.conn-conn.ensures.state)) ∙ sym c.is_some.ensures ∙ c.if-is_some.false) in
    let unasked : size_asked (slot_of c.args.c c.took.new.self.slots).conn.phase ≡ None =
    none_by (size_asked (slot_of c.args.c c.took.new.self.slots).conn.phase)
    (ap is_some (sym (c.asks.ensures.size ∙ ap (λ (v : ConnView). size_asked v.phase) c.conn-conn.ensures.state)) ∙ sym c.is_some-2.ensures ∙ c.if-is_some-2.false) in
    let state : (slot_of c.args.c c.took.new.self.slots).conn ≡ after_took c.args.max_frame (slot_of c.args.c c.args.self.now.table.slots).conn c.args.bytes.now = taken_state c.args.max_frame c.args.c c.args.self.now c.args.bytes.now c.took.new.self taken in (
      reads.0,
      subst (λ (v : ConnView). IsReading v.phase) (sym state)
          (reading_on c.args.max_frame (slot_of c.args.c c.args.self.now.table.slots).conn c.args.bytes.now c.requires.reading
          (sym (ap (λ (v : ConnView). cause_of v.phase) state) ∙ none)
          (λ r. (is_not_whole c.args.c c.args.self.now.table c.took.new.self c.took.ensures.whole (slot_of c.args.c c.args.self.now.table.slots).conn c.conn-conn.result.now c.args.frames c.frames.result refl
          c.conn-conn.ensures.state c.requires.before c.frames.ensures c.if-frames.false) (subst (λ (v : ConnView). IsReady v.phase) (sym state) r))
          (sym (ap (λ (v : ConnView). size_asked v.phase) state) ∙ unasked)),
    )

pub returns-then-is_some-clause-budget : goal.returns-then-is_some-clause-budget
returns-then-is_some-clause-budget g c = c.release_and_close.ensures.budget ∙ ap (λ (t : TableView). t.budget) c.took.ensures.after

pub returns-then-frames-clause-budget : goal.returns-then-frames-clause-budget
returns-then-frames-clause-budget g c = ap (λ (t : TableView). t.budget) c.took.ensures.after

pub returns-then-is_some-2-clause-budget : goal.returns-then-is_some-2-clause-budget
returns-then-is_some-2-clause-budget g c = ap (λ (t : TableView). t.budget) c.took.ensures.after

pub returns-clause-budget : goal.returns-clause-budget
returns-clause-budget g c = ap (λ (t : TableView). t.budget) c.took.ensures.after
