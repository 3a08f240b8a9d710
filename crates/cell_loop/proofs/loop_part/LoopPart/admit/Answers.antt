use Rattle.std.proofs.Common.{Ok, true, false, ◌≡◌, ◌+◌, ◌<◌, ◌≤◌, IsSome, length, slice_index_or, ap, ◌∙◌, sym, refl, subst}
use Rattle.std.proofs.lemmas.Option.{get_or_from_slice_get}
use Rattle.std.proofs.lemmas.List.{length-set}
use Rattle.host_model.specs.declared.cause.EndCause.TheVariants.{NoMemory}
use Rattle.conn_table.specs.Slots.{slot_in}
use Rattle.conn_table.specs.Table.{TableView, slot_of, sizes_given, size_wanted, with_admitted}
use Rattle.conn_table.proofs.Rising.{count_put}
use Rattle.cell_loop.specs.declared.loop_part.CellStage.TheVariants.{Lean, Framed}
use Rattle.cell_loop.specs.LoopTied.{IsLoopTied}
use Rattle.cell_loop.specs.Closing.{StageHasSize, IsClosed}
use Rattle.conn_refinement.proofs.Tables.{place_of}
use Rattle.cell_loop.proofs.Rooming.{room_kept, as_many}
use Rattle.cell_loop.proofs.ClosingOff.{has_room, closed_behind, lean_there, lean_size, lean_phase, lean_going}
use Rattle.cell_loop.proofs.Refused.{admits_true, admits_false, same_there, same_going, same_size_so, same_in, same_count}
use Rattle.cell_loop.proofs.Admitting.{not_admitted, is_admitted, is_refused}
use Rattle.cell_loop.proofs.loop_part.LoopPart.admit.Goals as goal

pub admit-requires : goal.admit-requires
admit-requires c =
    record {
      «open» = lean_there c.args.self.now c.args.c c.requires.under_way c.requires.lean;
      held = c.requires.held;
      unadmitted = lean_size c.args.self.now c.args.c c.requires.under_way c.requires.lean;
    }

pub index_mut-requires : goal.index_mut-requires
index_mut-requires c = subst (λ n. c.args.c < n) (sym c.args.self.now.stages.ok.0) (place_of c.args.self.now.stages.items c.args.c Lean c.requires.lean)

pub end-requires : goal.end-requires
end-requires c =
    let there : IsSome (slot_in c.args.c c.args.self.now.table.slots) = lean_there c.args.self.now c.args.c c.requires.under_way c.requires.lean in
    record {
      there = same_there c.args.c c.args.self.now.table c.admit.new.self c.in-Err.ensures.1 there;
      going =
          same_going c.args.c c.args.self.now.table c.admit.new.self c.in-Err.ensures.1
          (lean_going (slot_of c.args.c c.args.self.now.table.slots).conn.phase (lean_phase c.args.self.now c.args.c c.requires.under_way c.requires.lean));
      outside = tt;
      size =
          same_size_so c.args.c c.args.self.now.table c.admit.new.self c.in-Err.ensures.1 (slice_index_or c.args.self.now.stages.items c.args.c Lean)
          (subst (λ k. StageHasSize k (slot_of c.args.c c.args.self.now.table.slots).size) (sym (get_or_from_slice_get c.args.self.now.stages.items c.args.c Lean Lean c.requires.lean))
          (lean_size c.args.self.now c.args.c c.requires.under_way c.requires.lean));
      opened = place_of c.args.self.now.stages.items c.args.c Lean c.requires.lean;
      room = has_room c.args.self.now c.args.c c.requires.under_way.room there;
    }

pub returns-in-Ok-true-clause-moved : goal.returns-in-Ok-true-clause-moved
returns-in-Ok-true-clause-moved c =
    let admits : (sizes_given c.args.self.now.table.slots + size_wanted (slot_of c.args.c c.args.self.now.table.slots).conn ≤ c.args.self.now.table.budget)
    × (c.admit.new.self ≡ with_admitted c.args.c c.args.self.now.table) = admits_true c.args.c c.args.self.now.table c.admit.new.self c.admit.result (let is : c.admit.result ≡ Ok true = cc in is) c.admit.ensures in
    λ s play w t.
    is_admitted s c.args.c c.args.self.now play c.requires.lean c.requires.held c.full.ensures.rising t _ admits.0 admits.1 refl refl refl

pub returns-in-Ok-true-clause-room : goal.returns-in-Ok-true-clause-room
returns-in-Ok-true-clause-room c =
    let admits : (sizes_given c.args.self.now.table.slots + size_wanted (slot_of c.args.c c.args.self.now.table.slots).conn ≤ c.args.self.now.table.budget)
    × (c.admit.new.self ≡ with_admitted c.args.c c.args.self.now.table) = admits_true c.args.c c.args.self.now.table c.admit.new.self c.admit.result (let is : c.admit.result ≡ Ok true = cc in is) c.admit.ensures in
    room_kept c.args.self.now _ c.requires.under_way.room refl refl (as_many _ _ (ap (λ (v : TableView). length v.slots) admits.1 ∙ count_put _ c.args.self.now.table.slots))
    (length-set c.args.self.now.stages.items c.args.c Framed)

pub returns-in-Ok-false-clause-moved : goal.returns-in-Ok-false-clause-moved
returns-in-Ok-false-clause-moved c =
    let admits : (c.args.self.now.table.budget < sizes_given c.args.self.now.table.slots + size_wanted (slot_of c.args.c c.args.self.now.table.slots).conn)
    × (c.admit.new.self ≡ c.args.self.now.table) = admits_false c.args.c c.args.self.now.table c.admit.new.self c.admit.result (let is : c.admit.result ≡ Ok false = cc in is) c.admit.ensures in
    λ s play w t. (
      not_admitted s c.args.c c.args.self.now play c.requires.lean c.requires.held c.full.ensures.rising t admits.0,
      (subst (λ (v : TableView). IsLoopTied s (record c.args.self.now { table = v }) play) (sym admits.1) t, (refl, refl)),
    )

pub returns-in-Err-clause-moved : goal.returns-in-Err-clause-moved
returns-in-Err-clause-moved c =
    let closed : IsClosed c.args.c NoMemory c.args.self.now c.end.new.self =
    closed_behind c.args.c NoMemory c.args.self.now c.end.new.self c.admit.new.self (same_in c.args.c c.args.self.now.table c.admit.new.self c.in-Err.ensures.1)
    (same_count c.args.c c.args.self.now.table c.admit.new.self c.in-Err.ensures.1) c.end.ensures.closed in
    λ s play w t. is_refused s c.args.c c.args.self.now play c.requires.lean c.requires.held c.full.ensures.rising t c.end.new.self c.in-Err.ensures.0 closed
