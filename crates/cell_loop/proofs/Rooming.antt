-- Room for the marks of closes, and for causes, is kept.
use Rattle.std.proofs.Common.{Vec, Global, ◌≡◌, ℕ, ◌+◌, ◌*◌, ◌^◌, ◌≤◌, List, [], ◌∷◌, ◌++◌, length, sym, ap, ◌∙◌, subst, length-append, arith}
use Rattle.std.specs.Vec.{vec_capacity}
use Rattle.streams.specs.declared.marks.Mark.{Mark}
use Rattle.streams.specs.Rows.{TapeView}
use Rattle.host_model.specs.declared.cause.EndCause.{EndCause}
use Rattle.conn_table.specs.Slots.{most_connections}
use Rattle.cell_loop.specs.declared.loop_part.LoopPart.{LoopPart}
use Rattle.cell_loop.specs.LoopTied.{HasRoomToClose}

-- no more of one than of another of which there are as many
pub as_many : (m n : ℕ) → m ≡ n → m ≤ n
as_many m n e = omega arith

-- one more mark
pub one_more : (tape : List Mark) (mark : Mark) → length (tape ++ mark ∷ []) ≡ length tape + 1
one_more tape mark = length-append tape (mark ∷ [])

-- Nothing was written, as many causes have room, and no more connections are open.
pub room_kept : (old new : LoopPart) → HasRoomToClose old → new.tape ≡ old.tape → new.ends ≡ old.ends → length new.table.slots ≤ length old.table.slots
    → length new.stages.items ≡ length old.stages.items → HasRoomToClose new
room_kept old new room tape ends fewer known =
    let marks : length new.tape.items ≡ length old.tape.items = ap (λ (t : TapeView). length t.items) tape in
    let for_tape : new.tape.capacity ≡ old.tape.capacity = ap (λ (t : TapeView). t.capacity) tape in
    let for_ends : vec_capacity new.ends ≡ vec_capacity old.ends = ap (λ (t : Vec EndCause Global). vec_capacity t) ends in
    let was : length old.tape.items + 2 * length old.table.slots ≤ old.tape.capacity = room.for_marks in
    let had : length old.stages.items ≤ vec_capacity old.ends = room.for_causes in
    record {
      for_marks = omega arith;
      for_causes = omega arith;
      none_yet = ap (λ (t : Vec EndCause Global). t.items) ends ∙ room.none_yet;
      numbered = subst (λ n. n ≤ 2 ^ 32) (sym known) room.numbered;
    }

-- There is room for the marks of a move, and one is written.
pub marked_room : (mark : Mark) (old mid new : LoopPart) → HasRoomToClose old → length mid.table.slots ≤ most_connections → length mid.tape.items + (1 + 2 * most_connections) ≤ mid.tape.capacity
    → new.tape.items ≡ mid.tape.items ++ mark ∷ [] → new.tape.capacity ≡ mid.tape.capacity → length new.table.slots ≤ length mid.table.slots
    → length new.stages.items ≡ length old.stages.items → new.ends ≡ old.ends → HasRoomToClose new
marked_room mark old mid new room few wide tape capacity slots known ends =
    let marks : length new.tape.items ≡ length mid.tape.items + 1 = ap length tape ∙ one_more mid.tape.items mark in
    let for_ends : vec_capacity new.ends ≡ vec_capacity old.ends = ap (λ (t : Vec EndCause Global). vec_capacity t) ends in
    let had : length old.stages.items ≤ vec_capacity old.ends = room.for_causes in
    record {
      for_marks = omega arith;
      for_causes = omega arith;
      none_yet = ap (λ (t : Vec EndCause Global). t.items) ends ∙ room.none_yet;
      numbered = subst (λ n. n ≤ 2 ^ 32) (sym known) room.numbered;
    }
