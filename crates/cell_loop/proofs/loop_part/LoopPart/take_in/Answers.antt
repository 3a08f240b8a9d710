use Rattle.std.proofs.Common.{◌≡◌, None, Some, IsSome, ap, ◌∙◌, sym, refl}
use Rattle.std.specs.Prelude.{is_some}
use Rattle.std.proofs.lemmas.List.{length-set}
use Rattle.host_model.specs.declared.cause.EndCause.{EndCause}
use Rattle.conn_state.specs.Phase.{ConnView, cause_of}
use Rattle.conn_table.specs.Table.{slot_of}
use Rattle.conn_table.proofs.Placing.{value_of}
use Rattle.cell_loop.specs.declared.loop_part.CellStage.TheVariants.{Whole}
use Rattle.cell_loop.specs.Closing.{IsClosed}
use Rattle.cell_loop.proofs.Rooming.{room_kept, as_many}
use Rattle.cell_loop.proofs.ClosingOff.{close_is, none_by}
use Rattle.cell_loop.proofs.Behind.{gone_room}
use Rattle.cell_loop.proofs.TakenIn.{takes_some}
use Rattle.cell_loop.proofs.TakingIn.{HasTaken, has_taken, is_whole, is_not_whole, taken_there, taken_size, taken_part, taken_whole, taken_over, taken_room}
use Rattle.cell_loop.proofs.loop_part.LoopPart.take_in.Goals as goal

pub took-requires-clause-some : goal.took-requires-clause-some
took-requires-clause-some c =
    takes_some c.requires.under_way.setting c.args.c c.args.self.now c.requires.under_way.play c.args.bytes.now c.requires.under_way.tied c.requires.reads c.requires.some c.requires.front

pub conn-requires-2 : goal.conn-requires-2
conn-requires-2 c =
    let taken : HasTaken c.args.c c.args.max_frame c.args.self.now (record c.pass_front.new.self { tape = c.push.new.self }) c.args.bytes.now =
    has_taken c.args.c c.args.max_frame c.args.self.now (record c.pass_front.new.self { tape = c.push.new.self }) c.args.bytes.now c.pass_front.new.self.tape
    c.requires.reads c.conn.ensures.admitted c.requires.some c.requires.small c.requires.front c.took.ensures.bytes c.pass_front.ensures.fed
    (c.pass_front.ensures.table ∙ c.took.ensures.after) c.pass_front.ensures.stages c.push.ensures.items c.push.ensures.capacity c.pass_front.ensures.tape c.pass_front.ensures.ends in
    taken_there c.args.c c.args.max_frame c.args.self.now (record c.pass_front.new.self { tape = c.push.new.self }) c.args.bytes.now taken

pub conn-requires-3 : goal.conn-requires-3
conn-requires-3 c =
    let taken : HasTaken c.args.c c.args.max_frame c.args.self.now (record c.pass_front.new.self { tape = c.push.new.self }) c.args.bytes.now =
    has_taken c.args.c c.args.max_frame c.args.self.now (record c.pass_front.new.self { tape = c.push.new.self }) c.args.bytes.now c.pass_front.new.self.tape
    c.requires.reads c.conn.ensures.admitted c.requires.some c.requires.small c.requires.front c.took.ensures.bytes c.pass_front.ensures.fed
    (c.pass_front.ensures.table ∙ c.took.ensures.after) c.pass_front.ensures.stages c.push.ensures.items c.push.ensures.capacity c.pass_front.ensures.tape c.pass_front.ensures.ends in
    taken_there c.args.c c.args.max_frame c.args.self.now (record c.pass_front.new.self { tape = c.push.new.self }) c.args.bytes.now taken

pub close-requires-clause-given_back : goal.close-requires-clause-given_back
close-requires-clause-given_back c =
    let taken : HasTaken c.args.c c.args.max_frame c.args.self.now (record c.pass_front.new.self { tape = c.push.new.self }) c.args.bytes.now =
    has_taken c.args.c c.args.max_frame c.args.self.now (record c.pass_front.new.self { tape = c.push.new.self }) c.args.bytes.now c.pass_front.new.self.tape
    c.requires.reads c.conn.ensures.admitted c.requires.some c.requires.small c.requires.front c.took.ensures.bytes c.pass_front.ensures.fed
    (c.pass_front.ensures.table ∙ c.took.ensures.after) c.pass_front.ensures.stages c.push.ensures.items c.push.ensures.capacity c.pass_front.ensures.tape c.pass_front.ensures.ends in
    let over : IsSome (cause_of (slot_of c.args.c c.pass_front.new.self.table.slots).conn.phase) =
    ap is_some (sym (c.cause.ensures.cause ∙ ap (λ (v : ConnView). cause_of v.phase) c.conn-2.ensures.state)) ∙ sym c.is_some.ensures ∙ c.if-is_some.true in
    taken_size c.args.c c.args.max_frame c.args.self.now (record c.pass_front.new.self { tape = c.push.new.self }) c.args.bytes.now taken c.requires.under_way over

pub returns-then-is_some-clause-moved : goal.returns-then-is_some-clause-moved
returns-then-is_some-clause-moved c =
    let taken : HasTaken c.args.c c.args.max_frame c.args.self.now (record c.pass_front.new.self { tape = c.push.new.self }) c.args.bytes.now =
    has_taken c.args.c c.args.max_frame c.args.self.now (record c.pass_front.new.self { tape = c.push.new.self }) c.args.bytes.now c.pass_front.new.self.tape
    c.requires.reads c.conn.ensures.admitted c.requires.some c.requires.small c.requires.front c.took.ensures.bytes c.pass_front.ensures.fed
    (c.pass_front.ensures.table ∙ c.took.ensures.after) c.pass_front.ensures.stages c.push.ensures.items c.push.ensures.capacity c.pass_front.ensures.tape c.pass_front.ensures.ends in
    let over : IsSome (cause_of (slot_of c.args.c c.pass_front.new.self.table.slots).conn.phase) =
    ap is_some (sym (c.cause.ensures.cause ∙ ap (λ (v : ConnView). cause_of v.phase) c.conn-2.ensures.state)) ∙ sym c.is_some.ensures ∙ c.if-is_some.true in
    let cause : (x : EndCause) × (cause_of (slot_of c.args.c c.pass_front.new.self.table.slots).conn.phase ≡ Some x) =
    value_of (cause_of (slot_of c.args.c c.pass_front.new.self.table.slots).conn.phase) over in
    let closed : IsClosed c.args.c cause.0 (record c.pass_front.new.self { tape = c.push.new.self }) c.close.new.self =
    close_is c.args.c cause.0 (record c.pass_front.new.self { tape = c.push.new.self }) c.close.new.self (taken_there c.args.c c.args.max_frame c.args.self.now (record c.pass_front.new.self { tape = c.push.new.self }) c.args.bytes.now taken) c.close.ensures.table c.close.ensures.gone (c.close.ensures.stages cause.0 cause.1) c.close.ensures.tape
    c.close.ensures.capacity c.close.ensures.feeds c.close.ensures.ends in
    taken_over c.args.c c.args.max_frame c.args.self.now (record c.pass_front.new.self { tape = c.push.new.self }) c.args.bytes.now taken cause.0 c.close.new.self closed cause.1

pub returns-then-is_some-clause-room : goal.returns-then-is_some-clause-room
returns-then-is_some-clause-room c =
    let taken : HasTaken c.args.c c.args.max_frame c.args.self.now (record c.pass_front.new.self { tape = c.push.new.self }) c.args.bytes.now =
    has_taken c.args.c c.args.max_frame c.args.self.now (record c.pass_front.new.self { tape = c.push.new.self }) c.args.bytes.now c.pass_front.new.self.tape
    c.requires.reads c.conn.ensures.admitted c.requires.some c.requires.small c.requires.front c.took.ensures.bytes c.pass_front.ensures.fed
    (c.pass_front.ensures.table ∙ c.took.ensures.after) c.pass_front.ensures.stages c.push.ensures.items c.push.ensures.capacity c.pass_front.ensures.tape c.pass_front.ensures.ends in
    let over : IsSome (cause_of (slot_of c.args.c c.pass_front.new.self.table.slots).conn.phase) =
    ap is_some (sym (c.cause.ensures.cause ∙ ap (λ (v : ConnView). cause_of v.phase) c.conn-2.ensures.state)) ∙ sym c.is_some.ensures ∙ c.if-is_some.true in
    let cause : (x : EndCause) × (cause_of (slot_of c.args.c c.pass_front.new.self.table.slots).conn.phase ≡ Some x) =
    value_of (cause_of (slot_of c.args.c c.pass_front.new.self.table.slots).conn.phase) over in
    let closed : IsClosed c.args.c cause.0 (record c.pass_front.new.self { tape = c.push.new.self }) c.close.new.self =
    close_is c.args.c cause.0 (record c.pass_front.new.self { tape = c.push.new.self }) c.close.new.self (taken_there c.args.c c.args.max_frame c.args.self.now (record c.pass_front.new.self { tape = c.push.new.self }) c.args.bytes.now taken) c.close.ensures.table c.close.ensures.gone (c.close.ensures.stages cause.0 cause.1) c.close.ensures.tape
    c.close.ensures.capacity c.close.ensures.feeds c.close.ensures.ends in
    gone_room c.args.c cause.0 (record c.pass_front.new.self { tape = c.push.new.self }) c.close.new.self closed (taken_room c.args.c c.args.max_frame c.args.self.now (record c.pass_front.new.self { tape = c.push.new.self }) c.args.bytes.now taken c.requires.under_way.room c.requires.room)

pub returns-then-frames-clause-moved : goal.returns-then-frames-clause-moved
returns-then-frames-clause-moved c =
    let taken : HasTaken c.args.c c.args.max_frame c.args.self.now (record c.pass_front.new.self { tape = c.push.new.self }) c.args.bytes.now =
    has_taken c.args.c c.args.max_frame c.args.self.now (record c.pass_front.new.self { tape = c.push.new.self }) c.args.bytes.now c.pass_front.new.self.tape
    c.requires.reads c.conn.ensures.admitted c.requires.some c.requires.small c.requires.front c.took.ensures.bytes c.pass_front.ensures.fed
    (c.pass_front.ensures.table ∙ c.took.ensures.after) c.pass_front.ensures.stages c.push.ensures.items c.push.ensures.capacity c.pass_front.ensures.tape c.pass_front.ensures.ends in
    taken_whole c.args.c c.args.max_frame c.args.self.now (record c.pass_front.new.self { tape = c.push.new.self }) c.args.bytes.now taken _ refl refl refl refl
    (is_whole c.args.c c.args.self.now.table c.took.new.self c.pass_front.new.self.table c.took.ensures.whole c.pass_front.ensures.table c.conn.result.now c.conn-3.result.now c.frames-frames.result c.frames.result c.conn.ensures.state c.conn-3.ensures.state c.frames-frames.ensures c.frames.ensures c.if-frames.true)

pub returns-then-frames-clause-room : goal.returns-then-frames-clause-room
returns-then-frames-clause-room c =
    let taken : HasTaken c.args.c c.args.max_frame c.args.self.now (record c.pass_front.new.self { tape = c.push.new.self }) c.args.bytes.now =
    has_taken c.args.c c.args.max_frame c.args.self.now (record c.pass_front.new.self { tape = c.push.new.self }) c.args.bytes.now c.pass_front.new.self.tape
    c.requires.reads c.conn.ensures.admitted c.requires.some c.requires.small c.requires.front c.took.ensures.bytes c.pass_front.ensures.fed
    (c.pass_front.ensures.table ∙ c.took.ensures.after) c.pass_front.ensures.stages c.push.ensures.items c.push.ensures.capacity c.pass_front.ensures.tape c.pass_front.ensures.ends in
    room_kept (record c.pass_front.new.self { tape = c.push.new.self }) _ (taken_room c.args.c c.args.max_frame c.args.self.now (record c.pass_front.new.self { tape = c.push.new.self }) c.args.bytes.now taken c.requires.under_way.room c.requires.room) refl refl (as_many _ _ refl) (length-set c.pass_front.new.self.stages.items c.args.c Whole)

pub returns-clause-moved : goal.returns-clause-moved
returns-clause-moved c =
    let taken : HasTaken c.args.c c.args.max_frame c.args.self.now (record c.pass_front.new.self { tape = c.push.new.self }) c.args.bytes.now =
    has_taken c.args.c c.args.max_frame c.args.self.now (record c.pass_front.new.self { tape = c.push.new.self }) c.args.bytes.now c.pass_front.new.self.tape
    c.requires.reads c.conn.ensures.admitted c.requires.some c.requires.small c.requires.front c.took.ensures.bytes c.pass_front.ensures.fed
    (c.pass_front.ensures.table ∙ c.took.ensures.after) c.pass_front.ensures.stages c.push.ensures.items c.push.ensures.capacity c.pass_front.ensures.tape c.pass_front.ensures.ends in
    let none : cause_of (slot_of c.args.c c.pass_front.new.self.table.slots).conn.phase ≡ None =
    none_by (cause_of (slot_of c.args.c c.pass_front.new.self.table.slots).conn.phase)
    (ap is_some (sym (c.cause.ensures.cause ∙ ap (λ (v : ConnView). cause_of v.phase) c.conn-2.ensures.state)) ∙ sym c.is_some.ensures ∙ c.if-is_some.false) in
    taken_part c.args.c c.args.max_frame c.args.self.now (record c.pass_front.new.self { tape = c.push.new.self }) c.args.bytes.now taken none
    (is_not_whole c.args.c c.args.self.now.table c.took.new.self c.pass_front.new.self.table c.took.ensures.whole c.pass_front.ensures.table c.conn.result.now c.conn-3.result.now c.frames-frames.result c.frames.result c.conn.ensures.state c.conn-3.ensures.state c.frames-frames.ensures c.frames.ensures c.if-frames.false)

pub returns-clause-room : goal.returns-clause-room
returns-clause-room c =
    let taken : HasTaken c.args.c c.args.max_frame c.args.self.now (record c.pass_front.new.self { tape = c.push.new.self }) c.args.bytes.now =
    has_taken c.args.c c.args.max_frame c.args.self.now (record c.pass_front.new.self { tape = c.push.new.self }) c.args.bytes.now c.pass_front.new.self.tape
    c.requires.reads c.conn.ensures.admitted c.requires.some c.requires.small c.requires.front c.took.ensures.bytes c.pass_front.ensures.fed
    (c.pass_front.ensures.table ∙ c.took.ensures.after) c.pass_front.ensures.stages c.push.ensures.items c.push.ensures.capacity c.pass_front.ensures.tape c.pass_front.ensures.ends in
    taken_room c.args.c c.args.max_frame c.args.self.now (record c.pass_front.new.self { tape = c.push.new.self }) c.args.bytes.now taken c.requires.under_way.room c.requires.room
