use Rattle.std.proofs.Common.{◌≡◌, ◌≢◌, ◌-◌, ◌<◌, ◌≤◌, [], None, Some, IsSome, refl, sym, ap, ◌∙◌, subst, arith}
use Rattle.std.specs.Prelude.{is_some}
use Rattle.host_model.specs.declared.cause.EndCause.{EndCause}
use Rattle.conn_state.specs.Phase.{ConnView, cause_of, left_to_write}
use Rattle.conn_table.specs.Table.{TableView, slot_of}
use Rattle.conn_table.proofs.Placing.{value_of}
use Rattle.conn_refinement.proofs.Tables.{state_there}
use Rattle.loop_conns.proofs.Testing.{none_by, none_in, some_in}
use Rattle.loop_conns.proofs.Replying.{ends_alike}
use Rattle.loop_conns.proofs.Settles.{IsAwaited, awaited, some_awaited, idle_now, size_still, HasAnswered, answered_there, answered_size, settles_over, settles_done, settles_writing}
use Rattle.loop_conns.proofs.connections.LoopConnections.settle.Goals as goal

pub answered-requires-clause-open : goal.answered-requires-clause-open
answered-requires-clause-open g c =
    let aw : IsAwaited (g.L.Links.state c.args.links.now) c.args.self.now c.requires.collected.2.2.loop c.args.key.c = awaited c.requires.collected.0 c.requires.collected.2.0 _ c.args.self.now c.requires.collected.2.1 c.requires.collected.2.2 c.args.key c.args.settled c.requires.collected.2.3 in
    aw.stands.here.there

pub answered-requires-clause-awaited : goal.answered-requires-clause-awaited
answered-requires-clause-awaited g c =
    let aw : IsAwaited (g.L.Links.state c.args.links.now) c.args.self.now c.requires.collected.2.2.loop c.args.key.c = awaited c.requires.collected.0 c.requires.collected.2.0 _ c.args.self.now c.requires.collected.2.1 c.requires.collected.2.2 c.args.key c.args.settled c.requires.collected.2.3 in
    aw.waits

pub release-requires-clause-open : goal.release-requires-clause-open
release-requires-clause-open g c =
    let aw : IsAwaited (g.L.Links.state c.args.links.now) c.args.self.now c.requires.collected.2.2.loop c.args.key.c = awaited c.requires.collected.0 c.requires.collected.2.0 _ c.args.self.now c.requires.collected.2.1 c.requires.collected.2.2 c.args.key c.args.settled c.requires.collected.2.3 in
    state_there c.args.key.c _ c.args.self.now.table c.answered.new.self aw.stands.here.there c.answered.ensures

pub release-requires-clause-admitted : goal.release-requires-clause-admitted
release-requires-clause-admitted g c =
    let aw : IsAwaited (g.L.Links.state c.args.links.now) c.args.self.now c.requires.collected.2.2.loop c.args.key.c = awaited c.requires.collected.0 c.requires.collected.2.0 _ c.args.self.now c.requires.collected.2.1 c.requires.collected.2.2 c.args.key c.args.settled c.requires.collected.2.3 in
    size_still c.args.key.c c.with_some_reply.result c.args.self.now.table c.answered.new.self aw.stands.here.there c.answered.ensures aw.size

pub release-requires-clause-idle : goal.release-requires-clause-idle
release-requires-clause-idle g c =
    let aw : IsAwaited (g.L.Links.state c.args.links.now) c.args.self.now c.requires.collected.2.2.loop c.args.key.c = awaited c.requires.collected.0 c.requires.collected.2.0 _ c.args.self.now c.requires.collected.2.1 c.requires.collected.2.2 c.args.key c.args.settled c.requires.collected.2.3 in
    idle_now c.args.key.c c.with_some_reply.result c.args.self.now.table c.answered.new.self aw.stands.here.there c.answered.ensures

pub conn-requires : goal.conn-requires
conn-requires g c =
    let aw : IsAwaited (g.L.Links.state c.args.links.now) c.args.self.now c.requires.collected.2.2.loop c.args.key.c = awaited c.requires.collected.0 c.requires.collected.2.0 _ c.args.self.now c.requires.collected.2.1 c.requires.collected.2.2 c.args.key c.args.settled c.requires.collected.2.3 in
    let has : HasAnswered c.args.key.c c.with_some_reply.result c.args.self.now.table c.answered.new.self c.release.new.self =
    record { there = aw.stands.here.there; answered = c.answered.ensures; released = c.release.ensures } in
    answered_there c.args.key.c c.with_some_reply.result c.args.self.now.table c.answered.new.self c.release.new.self has

pub overflow_sub-self : goal.overflow_sub-self
overflow_sub-self g c =
    some_awaited c.requires.collected.0 c.requires.collected.2.0 _ c.args.self.now c.requires.collected.2.1 c.requires.collected.2.2 c.args.key c.args.settled c.requires.collected.2.3

pub close-requires-clause-there : goal.close-requires-clause-there
close-requires-clause-there g c κs within =
    let aw : IsAwaited (g.L.Links.state c.args.links.now) c.args.self.now c.requires.collected.2.2.loop c.args.key.c = awaited c.requires.collected.0 c.requires.collected.2.0 _ c.args.self.now c.requires.collected.2.1 c.requires.collected.2.2 c.args.key c.args.settled c.requires.collected.2.3 in
    let has : HasAnswered c.args.key.c c.with_some_reply.result c.args.self.now.table c.answered.new.self c.release.new.self =
    record { there = aw.stands.here.there; answered = c.answered.ensures; released = c.release.ensures } in
    answered_there c.args.key.c c.with_some_reply.result c.args.self.now.table c.answered.new.self c.release.new.self has

pub close-requires-clause-over : goal.close-requires-clause-over
close-requires-clause-over g c κs within =
    let over : IsSome (cause_of (slot_of c.args.key.c c.release.new.self.slots).conn.phase) =
    ap is_some (sym (c.cause.ensures.cause ∙ ap (λ (v : ConnView). cause_of v.phase) c.conn.ensures.state)) ∙ sym c.is_some.ensures ∙ c.if-is_some.true in
    over

pub close-requires-clause-given_back : goal.close-requires-clause-given_back
close-requires-clause-given_back g c κs within =
    let aw : IsAwaited (g.L.Links.state c.args.links.now) c.args.self.now c.requires.collected.2.2.loop c.args.key.c = awaited c.requires.collected.0 c.requires.collected.2.0 _ c.args.self.now c.requires.collected.2.1 c.requires.collected.2.2 c.args.key c.args.settled c.requires.collected.2.3 in
    let has : HasAnswered c.args.key.c c.with_some_reply.result c.args.self.now.table c.answered.new.self c.release.new.self =
    record { there = aw.stands.here.there; answered = c.answered.ensures; released = c.release.ensures } in
    answered_size c.args.key.c c.with_some_reply.result c.args.self.now.table c.answered.new.self c.release.new.self has

pub close-requires-clause-known : goal.close-requires-clause-known
close-requires-clause-known g c κs within =
    let aw : IsAwaited (g.L.Links.state c.args.links.now) c.args.self.now c.requires.collected.2.2.loop c.args.key.c = awaited c.requires.collected.0 c.requires.collected.2.0 _ c.args.self.now c.requires.collected.2.1 c.requires.collected.2.2 c.args.key c.args.settled c.requires.collected.2.3 in
    aw.stands.known

pub close-requires-clause-link : goal.close-requires-clause-link
close-requires-clause-link g c κs within =
    let aw : IsAwaited (g.L.Links.state c.args.links.now) c.args.self.now c.requires.collected.2.2.loop c.args.key.c = awaited c.requires.collected.0 c.requires.collected.2.0 _ c.args.self.now c.requires.collected.2.1 c.requires.collected.2.2 c.args.key c.args.settled c.requires.collected.2.3 in
    aw.stands.here.link

pub returns-then-is_some-clause-going : goal.returns-then-is_some-clause-going
returns-then-is_some-clause-going g c =
    let over : IsSome (cause_of (slot_of c.args.key.c c.release.new.self.slots).conn.phase) =
    ap is_some (sym (c.cause.ensures.cause ∙ ap (λ (v : ConnView). cause_of v.phase) c.conn.ensures.state)) ∙ sym c.is_some.ensures ∙ c.if-is_some.true in
    let owed : 1 ≤ c.args.self.now.owing = some_awaited c.requires.collected.0 c.requires.collected.2.0 _ c.args.self.now c.requires.collected.2.1 c.requires.collected.2.2 c.args.key c.args.settled c.requires.collected.2.3 in
    let why : (x : EndCause) × (cause_of (slot_of c.args.key.c c.release.new.self.slots).conn.phase ≡ Some x) = value_of (cause_of (slot_of c.args.key.c c.release.new.self.slots).conn.phase) over in
    let less : c.close.new.self.owing ≡ c.args.self.now.owing - 1 = c.close.ensures.owing in
    λ max small first asks going own.
    let aw : IsAwaited (g.L.Links.state c.args.links.now) c.args.self.now going.loop c.args.key.c = awaited max first _ c.args.self.now asks going c.args.key c.args.settled own in
    let has : HasAnswered c.args.key.c c.with_some_reply.result c.args.self.now.table c.answered.new.self c.release.new.self =
    record { there = aw.stands.here.there; answered = c.answered.ensures; released = c.release.ensures } in
    settles_over max small first _ c.args.self.now asks going c.args.key c.args.settled c.with_some_reply.result c.with_some_reply.ensures own c.answered.new.self c.release.new.self has
    _ c.close.new.self why.0 why.1
    (ends_alike c.args.key.c why.0 (record c.args.self.now { table = c.release.new.self }) c.close.new.self (c.args.self.now.owing - 1) (c.close.ensures.ended why.0 why.1)) (omega arith) c.close.ensures.closed

pub index_mut-requires : goal.index_mut-requires
index_mut-requires g c =
    let aw : IsAwaited (g.L.Links.state c.args.links.now) c.args.self.now c.requires.collected.2.2.loop c.args.key.c = awaited c.requires.collected.0 c.requires.collected.2.0 _ c.args.self.now c.requires.collected.2.1 c.requires.collected.2.2 c.args.key c.args.settled c.requires.collected.2.3 in
    subst (λ n. c.args.key.c < n) (sym c.args.self.now.stages.ok.0) aw.stands.known.0

pub conn-requires-2 : goal.conn-requires-2
conn-requires-2 g c =
    let aw : IsAwaited (g.L.Links.state c.args.links.now) c.args.self.now c.requires.collected.2.2.loop c.args.key.c = awaited c.requires.collected.0 c.requires.collected.2.0 _ c.args.self.now c.requires.collected.2.1 c.requires.collected.2.2 c.args.key c.args.settled c.requires.collected.2.3 in
    let has : HasAnswered c.args.key.c c.with_some_reply.result c.args.self.now.table c.answered.new.self c.release.new.self =
    record { there = aw.stands.here.there; answered = c.answered.ensures; released = c.release.ensures } in
    answered_there c.args.key.c c.with_some_reply.result c.args.self.now.table c.answered.new.self c.release.new.self has

pub overflow_sub-self-then-is_empty : goal.overflow_sub-self-then-is_empty
overflow_sub-self-then-is_empty g c =
    some_awaited c.requires.collected.0 c.requires.collected.2.0 _ c.args.self.now c.requires.collected.2.1 c.requires.collected.2.2 c.args.key c.args.settled c.requires.collected.2.3

pub returns-then-is_empty-clause-going : goal.returns-then-is_empty-clause-going
returns-then-is_empty-clause-going g c =
    let none : cause_of (slot_of c.args.key.c c.release.new.self.slots).conn.phase ≡ None =
    none_by (cause_of (slot_of c.args.key.c c.release.new.self.slots).conn.phase)
    (ap is_some (sym (c.cause.ensures.cause ∙ ap (λ (v : ConnView). cause_of v.phase) c.conn.ensures.state)) ∙ sym c.is_some.ensures ∙ c.if-is_some.false) in
    let pending : c.pending.result.now ≡ left_to_write (slot_of c.args.key.c c.release.new.self.slots).conn.phase =
    c.pending.ensures.left ∙ ap (λ (v : ConnView). left_to_write v.phase) c.conn-2.ensures.state in
    let nothing : left_to_write (slot_of c.args.key.c c.release.new.self.slots).conn.phase ≡ [] = sym pending ∙ none_in c.pending.result.now (sym c.is_empty.ensures ∙ c.if-is_empty.true) in
    let owed : 1 ≤ c.args.self.now.owing = some_awaited c.requires.collected.0 c.requires.collected.2.0 _ c.args.self.now c.requires.collected.2.1 c.requires.collected.2.2 c.args.key c.args.settled c.requires.collected.2.3 in
    λ max small first asks going own.
    let aw : IsAwaited (g.L.Links.state c.args.links.now) c.args.self.now going.loop c.args.key.c = awaited max first _ c.args.self.now asks going c.args.key c.args.settled own in
    let has : HasAnswered c.args.key.c c.with_some_reply.result c.args.self.now.table c.answered.new.self c.release.new.self =
    record { there = aw.stands.here.there; answered = c.answered.ensures; released = c.release.ensures } in
    settles_done max small first _ c.args.self.now asks going c.args.key c.args.settled c.with_some_reply.result c.with_some_reply.ensures own c.answered.new.self c.release.new.self has
    _ refl refl refl none nothing (omega arith)

pub returns-clause-going : goal.returns-clause-going
returns-clause-going g c =
    let none : cause_of (slot_of c.args.key.c c.release.new.self.slots).conn.phase ≡ None =
    none_by (cause_of (slot_of c.args.key.c c.release.new.self.slots).conn.phase)
    (ap is_some (sym (c.cause.ensures.cause ∙ ap (λ (v : ConnView). cause_of v.phase) c.conn.ensures.state)) ∙ sym c.is_some.ensures ∙ c.if-is_some.false) in
    let pending : c.pending.result.now ≡ left_to_write (slot_of c.args.key.c c.release.new.self.slots).conn.phase =
    c.pending.ensures.left ∙ ap (λ (v : ConnView). left_to_write v.phase) c.conn-2.ensures.state in
    let some : left_to_write (slot_of c.args.key.c c.release.new.self.slots).conn.phase ≢ [] = λ e. some_in c.pending.result.now (sym c.is_empty.ensures ∙ c.if-is_empty.false) (pending ∙ e) in
    λ max small first asks going own.
    let aw : IsAwaited (g.L.Links.state c.args.links.now) c.args.self.now going.loop c.args.key.c = awaited max first _ c.args.self.now asks going c.args.key c.args.settled own in
    let has : HasAnswered c.args.key.c c.with_some_reply.result c.args.self.now.table c.answered.new.self c.release.new.self =
    record { there = aw.stands.here.there; answered = c.answered.ensures; released = c.release.ensures } in
    settles_writing max small first _ c.args.self.now asks going c.args.key c.args.settled c.with_some_reply.result c.with_some_reply.ensures own c.answered.new.self c.release.new.self has
    _ refl refl refl none some refl

pub returns-then-is_some-clause-budget : goal.returns-then-is_some-clause-budget
returns-then-is_some-clause-budget g c =
    c.close.ensures.budget ∙ ap (λ (t : TableView). t.budget) c.release.ensures ∙ ap (λ (t : TableView). t.budget) c.answered.ensures

pub returns-then-is_empty-clause-budget : goal.returns-then-is_empty-clause-budget
returns-then-is_empty-clause-budget g c =
    ap (λ (t : TableView). t.budget) c.release.ensures ∙ ap (λ (t : TableView). t.budget) c.answered.ensures

pub returns-clause-budget : goal.returns-clause-budget
returns-clause-budget g c =
    ap (λ (t : TableView). t.budget) c.release.ensures ∙ ap (λ (t : TableView). t.budget) c.answered.ensures
