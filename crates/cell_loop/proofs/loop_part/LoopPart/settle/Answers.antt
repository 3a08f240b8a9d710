use Rattle.std.proofs.Common.{◌≡◌, ◌<◌, None, Some, IsSome, ap, ◌∙◌, sym, refl, subst}
use Rattle.std.specs.Prelude.{is_some}
use Rattle.std.proofs.lemmas.List.{length-set}
use Rattle.host_model.specs.declared.cause.EndCause.{EndCause}
use Rattle.conn_state.specs.Phase.{ConnView, cause_of}
use Rattle.conn_state.specs.Step.{after_answer}
use Rattle.conn_table.specs.Slots.{slot_in}
use Rattle.conn_table.specs.Table.{slot_of, TakesRoom}
use Rattle.conn_table.proofs.Placing.{value_of}
use Rattle.cell_loop.specs.declared.loop_part.CellStage.TheVariants.{Lean, Asked}
use Rattle.conn_refinement.specs.Tables.{IsSameBut}
use Rattle.cell_loop.specs.Closing.{IsClosed}
use Rattle.conn_refinement.proofs.Tables.{place_of, but_then}
use Rattle.conn_refinement.proofs.Tables.{state_there, state_is, state_size, state_but, state_count, size_found, size_there, size_state, size_is, size_but, size_count, idle_answer}
use Rattle.cell_loop.proofs.ClosingOff.{close_is, none_by, asked_there, asked_size}
use Rattle.cell_loop.proofs.Settling.{settles_open, settles_over}
use Rattle.cell_loop.proofs.Behind.{gone_room}
use Rattle.cell_loop.proofs.Rooming.{room_kept, as_many}
use Rattle.cell_loop.proofs.loop_part.LoopPart.settle.Goals as goal

pub release-requires-clause-open : goal.release-requires-clause-open
release-requires-clause-open c =
    state_there c.args.c _ c.args.self.now.table c.answered.new.self (asked_there c.args.self.now c.args.c c.requires.under_way c.requires.asked) c.answered.ensures

pub release-requires-clause-admitted : goal.release-requires-clause-admitted
release-requires-clause-admitted c =
    subst (λ o. IsSome o) (sym (state_size c.args.c _ c.args.self.now.table c.answered.new.self (asked_there c.args.self.now c.args.c c.requires.under_way c.requires.asked) c.answered.ensures)) (asked_size c.args.self.now c.args.c c.requires.under_way c.requires.asked)

pub release-requires-clause-idle : goal.release-requires-clause-idle
release-requires-clause-idle c =
    subst (λ (v : ConnView). TakesRoom v.phase → ⊥) (sym (state_is c.args.c _ c.args.self.now.table c.answered.new.self (asked_there c.args.self.now c.args.c c.requires.under_way c.requires.asked) c.answered.ensures)) (idle_answer c.args.settled)

pub conn-requires : goal.conn-requires
conn-requires c =
    size_there c.args.c None c.answered.new.self c.release.new.self (state_there c.args.c _ c.args.self.now.table c.answered.new.self (asked_there c.args.self.now c.args.c c.requires.under_way c.requires.asked) c.answered.ensures) c.release.ensures

pub close-requires-clause-given_back : goal.close-requires-clause-given_back
close-requires-clause-given_back c =
    size_is c.args.c None c.answered.new.self c.release.new.self (state_there c.args.c _ c.args.self.now.table c.answered.new.self (asked_there c.args.self.now c.args.c c.requires.under_way c.requires.asked) c.answered.ensures) c.release.ensures

pub close-requires-clause-opened : goal.close-requires-clause-opened
close-requires-clause-opened c = place_of c.args.self.now.stages.items c.args.c Asked c.requires.asked

pub index_mut-requires : goal.index_mut-requires
index_mut-requires c = subst (λ n. c.args.c < n) (sym c.args.self.now.stages.ok.0) (place_of c.args.self.now.stages.items c.args.c Asked c.requires.asked)

pub returns-then-is_some-clause-taken : goal.returns-then-is_some-clause-taken
returns-then-is_some-clause-taken c =
    let there : IsSome (slot_in c.args.c c.answered.new.self.slots) = state_there c.args.c _ c.args.self.now.table c.answered.new.self (asked_there c.args.self.now c.args.c c.requires.under_way c.requires.asked) c.answered.ensures in
    let still : IsSome (slot_in c.args.c c.release.new.self.slots) = size_there c.args.c None c.answered.new.self c.release.new.self there c.release.ensures in
    let phase : (slot_of c.args.c c.release.new.self.slots).conn ≡ record (slot_of c.args.c c.args.self.now.table.slots).conn { phase = after_answer c.args.settled } =
    size_state c.args.c None c.answered.new.self c.release.new.self there c.release.ensures ∙ state_is c.args.c _ c.args.self.now.table c.answered.new.self (asked_there c.args.self.now c.args.c c.requires.under_way c.requires.asked) c.answered.ensures in
    let over : IsSome (cause_of (after_answer c.args.settled)) =
    ap is_some (sym (c.cause.ensures.cause ∙ ap (λ (v : ConnView). cause_of v.phase) (c.conn.ensures.state ∙ phase))) ∙ sym c.is_some.ensures ∙ c.if-is_some.true in
    let cause : (x : EndCause) × (cause_of (after_answer c.args.settled) ≡ Some x) = value_of (cause_of (after_answer c.args.settled)) over in
    let but : IsSameBut c.args.c c.args.self.now.table c.release.new.self =
    but_then c.args.c c.args.self.now.table c.answered.new.self c.release.new.self (state_but c.args.c _ c.args.self.now.table c.answered.new.self (asked_there c.args.self.now c.args.c c.requires.under_way c.requires.asked) c.answered.ensures)
    (size_but c.args.c None c.answered.new.self c.release.new.self there c.release.ensures) in
    let closed : IsClosed c.args.c cause.0 (record c.args.self.now { table = c.release.new.self }) c.close.new.self =
    close_is c.args.c cause.0 (record c.args.self.now { table = c.release.new.self }) c.close.new.self still c.close.ensures.table c.close.ensures.gone
    (c.close.ensures.stages cause.0 (ap (λ (v : ConnView). cause_of v.phase) phase ∙ cause.1)) c.close.ensures.tape c.close.ensures.capacity c.close.ensures.feeds c.close.ensures.ends in
    λ i s play later t first.
    settles_over s c.args.c i c.args.settled c.args.self.now c.close.new.self play later c.requires.asked c.requires.some t first
    (but_then c.args.c c.args.self.now.table c.release.new.self c.close.new.self.table but closed.table) closed.feeds cause.0 cause.1 closed.gone closed.stages closed.tape

pub returns-then-is_some-clause-room : goal.returns-then-is_some-clause-room
returns-then-is_some-clause-room c =
    let there : IsSome (slot_in c.args.c c.answered.new.self.slots) = state_there c.args.c _ c.args.self.now.table c.answered.new.self (asked_there c.args.self.now c.args.c c.requires.under_way c.requires.asked) c.answered.ensures in
    let still : IsSome (slot_in c.args.c c.release.new.self.slots) = size_there c.args.c None c.answered.new.self c.release.new.self there c.release.ensures in
    let phase : (slot_of c.args.c c.release.new.self.slots).conn ≡ record (slot_of c.args.c c.args.self.now.table.slots).conn { phase = after_answer c.args.settled } =
    size_state c.args.c None c.answered.new.self c.release.new.self there c.release.ensures ∙ state_is c.args.c _ c.args.self.now.table c.answered.new.self (asked_there c.args.self.now c.args.c c.requires.under_way c.requires.asked) c.answered.ensures in
    let over : IsSome (cause_of (after_answer c.args.settled)) =
    ap is_some (sym (c.cause.ensures.cause ∙ ap (λ (v : ConnView). cause_of v.phase) (c.conn.ensures.state ∙ phase))) ∙ sym c.is_some.ensures ∙ c.if-is_some.true in
    let cause : (x : EndCause) × (cause_of (after_answer c.args.settled) ≡ Some x) = value_of (cause_of (after_answer c.args.settled)) over in
    let closed : IsClosed c.args.c cause.0 (record c.args.self.now { table = c.release.new.self }) c.close.new.self =
    close_is c.args.c cause.0 (record c.args.self.now { table = c.release.new.self }) c.close.new.self still c.close.ensures.table c.close.ensures.gone
    (c.close.ensures.stages cause.0 (ap (λ (v : ConnView). cause_of v.phase) phase ∙ cause.1)) c.close.ensures.tape c.close.ensures.capacity c.close.ensures.feeds c.close.ensures.ends in
    gone_room c.args.c cause.0 (record c.args.self.now { table = c.release.new.self }) c.close.new.self closed
    (room_kept c.args.self.now (record c.args.self.now { table = c.release.new.self }) c.requires.under_way.room refl refl
    (as_many _ _ (size_count c.args.c None c.answered.new.self c.release.new.self there c.release.ensures
    ∙ state_count c.args.c _ c.args.self.now.table c.answered.new.self (asked_there c.args.self.now c.args.c c.requires.under_way c.requires.asked) c.answered.ensures)) refl)

pub returns-clause-taken : goal.returns-clause-taken
returns-clause-taken c =
    let there : IsSome (slot_in c.args.c c.answered.new.self.slots) = state_there c.args.c _ c.args.self.now.table c.answered.new.self (asked_there c.args.self.now c.args.c c.requires.under_way c.requires.asked) c.answered.ensures in
    let phase : (slot_of c.args.c c.release.new.self.slots).conn ≡ record (slot_of c.args.c c.args.self.now.table.slots).conn { phase = after_answer c.args.settled } =
    size_state c.args.c None c.answered.new.self c.release.new.self there c.release.ensures ∙ state_is c.args.c _ c.args.self.now.table c.answered.new.self (asked_there c.args.self.now c.args.c c.requires.under_way c.requires.asked) c.answered.ensures in
    let none : cause_of (after_answer c.args.settled) ≡ None =
    none_by (cause_of (after_answer c.args.settled))
    (ap is_some (sym (c.cause.ensures.cause ∙ ap (λ (v : ConnView). cause_of v.phase) (c.conn.ensures.state ∙ phase))) ∙ sym c.is_some.ensures ∙ c.if-is_some.false) in
    let but : IsSameBut c.args.c c.args.self.now.table c.release.new.self =
    but_then c.args.c c.args.self.now.table c.answered.new.self c.release.new.self (state_but c.args.c _ c.args.self.now.table c.answered.new.self (asked_there c.args.self.now c.args.c c.requires.under_way c.requires.asked) c.answered.ensures)
    (size_but c.args.c None c.answered.new.self c.release.new.self there c.release.ensures) in
    λ i s play later t first.
    settles_open s c.args.c i c.args.settled c.args.self.now _ play later c.requires.asked c.requires.some t first but refl
    (record { number = c.args.c; conn = (slot_of c.args.c c.answered.new.self.slots).conn; size = None })
    (size_found c.args.c None c.answered.new.self c.release.new.self there c.release.ensures)
    (state_is c.args.c _ c.args.self.now.table c.answered.new.self (asked_there c.args.self.now c.args.c c.requires.under_way c.requires.asked) c.answered.ensures) refl none refl refl

pub returns-clause-room : goal.returns-clause-room
returns-clause-room c =
    let there : IsSome (slot_in c.args.c c.answered.new.self.slots) = state_there c.args.c _ c.args.self.now.table c.answered.new.self (asked_there c.args.self.now c.args.c c.requires.under_way c.requires.asked) c.answered.ensures in
    room_kept c.args.self.now _ c.requires.under_way.room refl refl
    (as_many _ _ (size_count c.args.c None c.answered.new.self c.release.new.self there c.release.ensures
    ∙ state_count c.args.c _ c.args.self.now.table c.answered.new.self (asked_there c.args.self.now c.args.c c.requires.under_way c.requires.asked) c.answered.ensures)) (length-set c.args.self.now.stages.items c.args.c Lean)
