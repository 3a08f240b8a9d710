use Rattle.std.proofs.Common.{◌≡◌, Some, IsSome, slice_index_or, option_map, length, Vec, Global, ap, ◌∙◌, sym, refl, subst}
use Rattle.streams.specs.declared.marks.Mark.TheVariants.{Ended, ReadFailed}
use Rattle.host_model.specs.declared.cause.EndCause.{EndCause}
use Rattle.host_model.specs.declared.cause.EndCause.TheVariants.{ReadFault}
use Rattle.conn_state.specs.Phase.{ConnView, cause_of}
use Rattle.conn_state.specs.Step.{after_end_of_input}
use Rattle.conn_table.specs.Table.{slot_of}
use Rattle.conn_table.proofs.Placing.{value_of}
use Rattle.cell_loop.specs.declared.feed.Feed.{Feed}
use Rattle.cell_loop.specs.declared.feed.InputEnd.{InputEnd}
use Rattle.cell_loop.specs.declared.feed.InputEnd.TheVariants.{Ends, Fails}
use Rattle.cell_loop.specs.declared.loop_part.CellStage.TheVariants.{Lean}
use Rattle.cell_loop.specs.Feeds.{plain_finish}
use Rattle.cell_loop.specs.Closing.{StageHasSize, ClosesBehind}
use Rattle.conn_refinement.proofs.Tables.{state_there, state_is, state_size, state_but, state_count}
use Rattle.cell_loop.proofs.ClosingOff.{same_but}
use Rattle.cell_loop.proofs.Behind.{closes_on, closed_room, end_over, rests_behind, ends_behind, fails_behind}
use Rattle.cell_loop.proofs.ReadingOn.{reading, size_so}
use Rattle.cell_loop.proofs.Refeeding.{finish_at}
use Rattle.cell_loop.proofs.loop_part.LoopPart.read_behind.Goals as goal

pub release_and_close-requires-clause-there : goal.release_and_close-requires-clause-there
release_and_close-requires-clause-there c = state_there c.args.c _ c.args.self.now.table c.end_of_input.new.self c.requires.reads.1 c.end_of_input.ensures

pub release_and_close-requires-clause-over : goal.release_and_close-requires-clause-over
release_and_close-requires-clause-over c =
    subst (λ (v : ConnView). IsSome (cause_of v.phase)) (sym (state_is c.args.c _ c.args.self.now.table c.end_of_input.new.self c.requires.reads.1 c.end_of_input.ensures))
    (end_over (slot_of c.args.c c.args.self.now.table.slots).conn.phase)

pub release_and_close-requires-clause-size : goal.release_and_close-requires-clause-size
release_and_close-requires-clause-size c =
    subst (λ o. StageHasSize (slice_index_or c.args.self.now.stages.items c.args.c Lean) o)
    (sym (state_size c.args.c _ c.args.self.now.table c.end_of_input.new.self c.requires.reads.1 c.end_of_input.ensures))
    (size_so c.requires.under_way.setting c.args.c c.args.self.now c.requires.under_way.play
    (reading c.requires.under_way.setting c.args.c c.args.self.now c.requires.under_way.play c.requires.under_way.tied c.requires.reads))

pub returns-in-None-clause-moved : goal.returns-in-None-clause-moved
returns-in-None-clause-moved c = λ s play any t. (
  rests_behind s c.args.c c.args.self.now play t c.requires.reads c.requires.none
      (finish_at c.args.self.now.feeds.items c.args.c c.index.result.now c.requires.fed c.index.ensures ∙ ap (option_map plain_finish) c.in-None.is),
  (t, (refl, refl)),
)

pub returns-in-Some-Ends-clause-moved : goal.returns-in-Some-Ends-clause-moved
returns-in-Some-Ends-clause-moved c = λ s play any t.
    let cause : (x : EndCause) × (cause_of (after_end_of_input (slot_of c.args.c c.args.self.now.table.slots).conn.phase) ≡ Some x) =
    value_of (cause_of (after_end_of_input (slot_of c.args.c c.args.self.now.table.slots).conn.phase)) (end_over (slot_of c.args.c c.args.self.now.table.slots).conn.phase) in
    let closed : ClosesBehind c.args.c (Ended c.args.c) cause.0 c.args.self.now c.release_and_close.new.self =
    closes_on c.args.c (Ended c.args.c) cause.0 c.args.self.now (record c.args.self.now { table = c.end_of_input.new.self; tape = c.push.new.self }) c.release_and_close.new.self
    (state_but c.args.c _ c.args.self.now.table c.end_of_input.new.self c.requires.reads.1 c.end_of_input.ensures)
    (state_count c.args.c _ c.args.self.now.table c.end_of_input.new.self c.requires.reads.1 c.end_of_input.ensures) refl c.push.ensures.items c.push.ensures.capacity refl refl
    (c.release_and_close.ensures.closed cause.0
    (ap (λ (v : ConnView). cause_of v.phase) (state_is c.args.c _ c.args.self.now.table c.end_of_input.new.self c.requires.reads.1 c.end_of_input.ensures) ∙ cause.1)) in
    let own : c.in-Some-Ends.field-0 ≡ Ends = rw c.in-Some-Ends.is at c.in-Some-Ends.field-0-is in
    let known : c.index.result.now.finish ≡ Some Ends = c.in-Some-Ends.is ∙ ap (λ (k : InputEnd). Some k) own in
    ends_behind s c.args.c c.args.self.now play t c.requires.reads c.requires.none cause.0 c.release_and_close.new.self
    (finish_at c.args.self.now.feeds.items c.args.c c.index.result.now c.requires.fed c.index.ensures
    ∙ ap (option_map plain_finish) known)
    cause.1 closed

pub returns-in-Some-Ends-clause-room : goal.returns-in-Some-Ends-clause-room
returns-in-Some-Ends-clause-room c =
    let cause : (x : EndCause) × (cause_of (after_end_of_input (slot_of c.args.c c.args.self.now.table.slots).conn.phase) ≡ Some x) =
    value_of (cause_of (after_end_of_input (slot_of c.args.c c.args.self.now.table.slots).conn.phase)) (end_over (slot_of c.args.c c.args.self.now.table.slots).conn.phase) in
    let closed : ClosesBehind c.args.c (Ended c.args.c) cause.0 c.args.self.now c.release_and_close.new.self =
    closes_on c.args.c (Ended c.args.c) cause.0 c.args.self.now (record c.args.self.now { table = c.end_of_input.new.self; tape = c.push.new.self }) c.release_and_close.new.self
    (state_but c.args.c _ c.args.self.now.table c.end_of_input.new.self c.requires.reads.1 c.end_of_input.ensures)
    (state_count c.args.c _ c.args.self.now.table c.end_of_input.new.self c.requires.reads.1 c.end_of_input.ensures) refl c.push.ensures.items c.push.ensures.capacity refl refl
    (c.release_and_close.ensures.closed cause.0
    (ap (λ (v : ConnView). cause_of v.phase) (state_is c.args.c _ c.args.self.now.table c.end_of_input.new.self c.requires.reads.1 c.end_of_input.ensures) ∙ cause.1)) in
    closed_room c.args.c (Ended c.args.c) cause.0 c.args.self.now c.release_and_close.new.self closed c.requires.under_way.room

pub returns-in-Some-Ends-clause-feeds : goal.returns-in-Some-Ends-clause-feeds
returns-in-Some-Ends-clause-feeds c =
    let cause : (x : EndCause) × (cause_of (after_end_of_input (slot_of c.args.c c.args.self.now.table.slots).conn.phase) ≡ Some x) =
    value_of (cause_of (after_end_of_input (slot_of c.args.c c.args.self.now.table.slots).conn.phase)) (end_over (slot_of c.args.c c.args.self.now.table.slots).conn.phase) in
    ap (λ (v : Vec Feed Global). length v.items)
    (c.release_and_close.ensures.closed cause.0
    (ap (λ (v : ConnView). cause_of v.phase) (state_is c.args.c _ c.args.self.now.table c.end_of_input.new.self c.requires.reads.1 c.end_of_input.ensures) ∙ cause.1)).feeds

pub returns-in-Some-Fails-clause-moved : goal.returns-in-Some-Fails-clause-moved
returns-in-Some-Fails-clause-moved c = λ s play any t.
    let closed : ClosesBehind c.args.c (ReadFailed c.args.c) ReadFault c.args.self.now c.end.new.self =
    closes_on c.args.c (ReadFailed c.args.c) ReadFault c.args.self.now (record c.args.self.now { tape = c.push-in-Some-Fails.new.self }) c.end.new.self
    (same_but c.args.c c.args.self.now.table) refl refl c.push-in-Some-Fails.ensures.items c.push-in-Some-Fails.ensures.capacity refl refl c.end.ensures.closed in
    let own : c.in-Some-Fails.field-0 ≡ Fails = rw c.in-Some-Fails.is at c.in-Some-Fails.field-0-is in
    let known : c.index.result.now.finish ≡ Some Fails = c.in-Some-Fails.is ∙ ap (λ (k : InputEnd). Some k) own in
    fails_behind s c.args.c c.args.self.now play t c.requires.reads c.requires.none c.end.new.self
    (finish_at c.args.self.now.feeds.items c.args.c c.index.result.now c.requires.fed c.index.ensures
    ∙ ap (option_map plain_finish) known)
    closed
