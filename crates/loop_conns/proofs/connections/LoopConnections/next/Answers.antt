use Rattle.std.proofs.Common.{◌<◌, length, refl, arith}
use Rattle.std.proofs.lemmas.Bool.{eqb-true}
use Rattle.std.specs.Vec.{vec_capacity}
use Rattle.outside.specs.declared.answers.Hint.TheVariants.{Opened, Readable, Writable, Woken, Over}
use Rattle.loop_conns.proofs.Asked.{room_for_one, next_absent, said, none_opened, none_told, one_opened, over_so}
use Rattle.loop_conns.proofs.connections.LoopConnections.next.Goals as goal

pub add-requires-clause-room : goal.add-requires-clause-room
add-requires-clause-room g c =
    let h = said _ _ _ c.in-Ok-Opened.field-0 (Opened c.in-Ok-Opened.c) c.in-Ok-Opened.field-0-is c.in-Ok-Opened.ensures.answers in
    room_for_one c.full.result (length c.args.self.now.table.slots) c.full.ensures.full.1 c.full.ensures.few h.opens.room

pub add-requires-clause-closed : goal.add-requires-clause-closed
add-requires-clause-closed g c =
    let h = said _ _ _ c.in-Ok-Opened.field-0 (Opened c.in-Ok-Opened.c) c.in-Ok-Opened.field-0-is c.in-Ok-Opened.ensures.answers in
    next_absent _ _ _ c.args.self.now c.in-Ok-Opened.c c.requires.under_way h.opens

pub push_reserved-requires : goal.push_reserved-requires
push_reserved-requires g c =
    let room : length c.args.self.now.stages.items < vec_capacity c.args.self.now.stages = c.requires.place.0 in omega (arith, c.args.self.now.stages.ok.0)

pub push_reserved-requires-in-Ok-Opened : goal.push_reserved-requires-in-Ok-Opened
push_reserved-requires-in-Ok-Opened g c =
    let room : length c.args.self.now.causes.items < vec_capacity c.args.self.now.causes = c.requires.place.1 in omega (arith, c.args.self.now.causes.ok.0)

pub returns-in-Ok-Opened-clause-going : goal.returns-in-Ok-Opened-clause-going
returns-in-Ok-Opened-clause-going g c =
    let h = said _ _ _ c.in-Ok-Opened.field-0 (Opened c.in-Ok-Opened.c) c.in-Ok-Opened.field-0-is c.in-Ok-Opened.ensures.answers in
    one_opened _ _ _ c.args.self.now _ h (λ e. eqb-true c.args.self.now.owing 0 e) c.requires.held h.kept c.in-Ok-Opened.c _ h.opens
    (record {
      room = room_for_one c.full.result (length c.args.self.now.table.slots) c.full.ensures.full.1 c.full.ensures.few h.opens.room;
      table = c.add.ensures;
      stages = c.push_reserved.ensures.items;
      causes = c.push_reserved-in-Ok-Opened.ensures.items;
      owing = refl;
    })

pub returns-in-Ok-Readable-clause-going : goal.returns-in-Ok-Readable-clause-going
returns-in-Ok-Readable-clause-going g c =
    let h = said _ _ _ c.in-Ok-Readable.field-0 (Readable c.in-Ok-Readable.c) c.in-Ok-Readable.field-0-is c.in-Ok-Readable.ensures.answers in
    none_opened _ _ _ c.args.self.now _ h (λ e. eqb-true c.args.self.now.owing 0 e) c.requires.held h.kept h.opens

pub returns-in-Ok-Writable-clause-going : goal.returns-in-Ok-Writable-clause-going
returns-in-Ok-Writable-clause-going g c =
    let h = said _ _ _ c.in-Ok-Writable.field-0 (Writable c.in-Ok-Writable.c) c.in-Ok-Writable.field-0-is c.in-Ok-Writable.ensures.answers in
    none_opened _ _ _ c.args.self.now _ h (λ e. eqb-true c.args.self.now.owing 0 e) c.requires.held h.kept h.opens

pub returns-in-Ok-Woken-clause-going : goal.returns-in-Ok-Woken-clause-going
returns-in-Ok-Woken-clause-going g c =
    let h = said _ _ _ c.in-Ok-Woken.field-0 Woken c.in-Ok-Woken.field-0-is c.in-Ok-Woken.ensures.answers in
    none_opened _ _ _ c.args.self.now _ h (λ e. eqb-true c.args.self.now.owing 0 e) c.requires.held h.kept h.opens

pub returns-in-Ok-Over-clause-going : goal.returns-in-Ok-Over-clause-going
returns-in-Ok-Over-clause-going g c =
    let h = said _ _ _ c.in-Ok-Over.field-0 Over c.in-Ok-Over.field-0-is c.in-Ok-Over.ensures.answers in
    none_opened _ _ _ c.args.self.now _ h (λ e. eqb-true c.args.self.now.owing 0 e) c.requires.held h.kept h.opens

pub returns-in-Ok-Over-clause-over : goal.returns-in-Ok-Over-clause-over
returns-in-Ok-Over-clause-over g c =
    let h = said _ _ _ c.in-Ok-Over.field-0 Over c.in-Ok-Over.field-0-is c.in-Ok-Over.ensures.answers in
    over_so _ _ _ c.args.self.now _ h c.requires.under_way

pub returns-in-Err-clause-going : goal.returns-in-Err-clause-going
returns-in-Err-clause-going g c =
    none_told _ _ _ c.args.self.now _ c.in-Err.ensures.answers (λ e. eqb-true c.args.self.now.owing 0 e) c.requires.held c.in-Err.ensures.answers.opens

pub returns-in-Err-clause-failed : goal.returns-in-Err-clause-failed
returns-in-Err-clause-failed g c = c.in-Err.ensures.answers.failed
