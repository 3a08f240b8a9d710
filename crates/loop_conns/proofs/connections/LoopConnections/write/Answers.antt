use Rattle.std.proofs.Common.{◌≡◌, ℕ, List, [], ◌∷◌, ◌<◌, ◌≤◌, ◌-◌, length, take, refl, sym, ap, ◌∙◌, subst, arith}
use Rattle.outside.specs.declared.answers.Taken.TheVariants.{Bytes, End, NotYet, Failed, NoMemory}
use Rattle.streams.specs.declared.marks.Mark.TheVariants.{Wrote}
use Rattle.host_model.specs.declared.cause.EndCause.TheVariants.{WriteFault, NoMemory as LackOfMemory}
use Rattle.conn_state.specs.Phase.{ConnView, left_to_write, IsReading}
use Rattle.conn_table.specs.Table.{TableView, slot_of}
use Rattle.conn_refinement.proofs.Tables.{state_is}
use Rattle.loop_conns.specs.Ended.{MovesOnly}
use Rattle.loop_conns.proofs.Standing.{Standing, standing}
use Rattle.loop_conns.proofs.Leaving.{write_moves}
use Rattle.loop_conns.proofs.Resting.{rests_goes}
use Rattle.loop_conns.proofs.Replying.{writes_part, writes_all, more_left, reads_behind, write_fails, writer_given_up, some_owing, ends_alike}
use Rattle.loop_conns.proofs.connections.LoopConnections.write.Goals as goal

pub conn-requires : goal.conn-requires
conn-requires g c =
    let st : Standing (g.L.Links.state c.args.links.now) c.args.self.now c.requires.under_way.2.2.loop c.args.c = standing c.requires.under_way.2.0 _ c.args.self.now c.requires.under_way.2.2.loop c.args.c c.requires.under_way.2.2.so_far.tied c.requires.writes.0 in
    st.here.there

pub write-requires-clause-open_still : goal.write-requires-clause-open_still
write-requires-clause-open_still g c =
    let st : Standing (g.L.Links.state c.args.links.now) c.args.self.now c.requires.under_way.2.2.loop c.args.c = standing c.requires.under_way.2.0 _ c.args.self.now c.requires.under_way.2.2.loop c.args.c c.requires.under_way.2.2.so_far.tied c.requires.writes.0 in
    st.here.link

pub write-requires-clause-some : goal.write-requires-clause-some
write-requires-clause-some g c =
    let left : c.pending-pending.result.now ≡ left_to_write (slot_of c.args.c c.args.self.now.table.slots).conn.phase =
    c.pending-pending.ensures.left ∙ ap (λ (v : ConnView). left_to_write v.phase) c.conn.ensures.state in
    let some : 0 < length (left_to_write (slot_of c.args.c c.args.self.now.table.slots).conn.phase) = c.requires.writes.1 in
    let long : length c.pending-pending.result.now ≡ length (left_to_write (slot_of c.args.c c.args.self.now.table.slots).conn.phase) = ap length left in
    omega arith

pub wrote-requires-clause-open : goal.wrote-requires-clause-open
wrote-requires-clause-open g c =
    let st : Standing (g.L.Links.state c.args.links.now) c.args.self.now c.requires.under_way.2.2.loop c.args.c = standing c.requires.under_way.2.0 _ c.args.self.now c.requires.under_way.2.2.loop c.args.c c.requires.under_way.2.2.so_far.tied c.requires.writes.0 in
    st.here.there

pub wrote-requires-clause-some : goal.wrote-requires-clause-some
wrote-requires-clause-some g c =
    let within : (1 ≤ c.in-Bytes.count) × (c.in-Bytes.count ≤ length c.pending-pending.result.now) = c.in-Bytes.ensures.writes.within in
    omega arith

pub wrote-requires-clause-pending : goal.wrote-requires-clause-pending
wrote-requires-clause-pending g c =
    let left : c.pending-pending.result.now ≡ left_to_write (slot_of c.args.c c.args.self.now.table.slots).conn.phase =
    c.pending-pending.ensures.left ∙ ap (λ (v : ConnView). left_to_write v.phase) c.conn.ensures.state in
    let long : length c.pending-pending.result.now ≡ length (left_to_write (slot_of c.args.c c.args.self.now.table.slots).conn.phase) = ap length left in
    let within : (1 ≤ c.in-Bytes.count) × (c.in-Bytes.count ≤ length c.pending-pending.result.now) = c.in-Bytes.ensures.writes.within in
    omega arith

pub returns-then-count-left-clause-going : goal.returns-then-count-left-clause-going
returns-then-count-left-clause-going g c =
    let left : c.pending-pending.result.now ≡ left_to_write (slot_of c.args.c c.args.self.now.table.slots).conn.phase =
    c.pending-pending.ensures.left ∙ ap (λ (v : ConnView). left_to_write v.phase) c.conn.ensures.state in
    let moves : MovesOnly c.args.c (Wrote c.args.c (take c.in-Bytes.count (left_to_write (slot_of c.args.c c.args.self.now.table.slots).conn.phase)) ∷ [])
    (length (left_to_write (slot_of c.args.c c.args.self.now.table.slots).conn.phase) ∷ []) (g.L.Links.state c.args.links.now) (g.L.Links.state c.write.new.self) =
    subst (λ (k : List ℕ). MovesOnly c.args.c (Wrote c.args.c (take c.in-Bytes.count k) ∷ []) (length k ∷ []) (g.L.Links.state c.args.links.now) (g.L.Links.state c.write.new.self)) left
    (write_moves c.args.c c.pending-pending.result.now _ _ (Bytes c.in-Bytes.count) c.in-Bytes.ensures.writes) in
    let long : length c.pending-pending.result.now ≡ length (left_to_write (slot_of c.args.c c.args.self.now.table.slots).conn.phase) = ap length left in
    let within : (1 ≤ c.in-Bytes.count) × (c.in-Bytes.count ≤ length c.pending-pending.result.now) = c.in-Bytes.ensures.writes.within in
    let fewer : c.in-Bytes.count < length c.pending-pending.result.now = c.if-count-left.true in
    λ max small first asks going.
    let st : Standing (g.L.Links.state c.args.links.now) c.args.self.now going.loop c.args.c = standing first _ c.args.self.now going.loop c.args.c going.so_far.tied c.requires.writes.0 in
    writes_part max small first _ c.args.self.now asks going c.args.c st c.requires.writes.0 c.requires.writes.1 c.in-Bytes.count _ _ within.0 (omega arith) moves
    (c.in-Bytes.ensures.writes.still_open ∙ st.here.link) c.wrote.ensures refl refl refl

pub returns-then-count-left-clause-step : goal.returns-then-count-left-clause-step
returns-then-count-left-clause-step g c =
    let st : Standing (g.L.Links.state c.args.links.now) c.args.self.now c.requires.under_way.2.2.loop c.args.c = standing c.requires.under_way.2.0 _ c.args.self.now c.requires.under_way.2.2.loop c.args.c c.requires.under_way.2.2.so_far.tied c.requires.writes.0 in
    let left : c.pending-pending.result.now ≡ left_to_write (slot_of c.args.c c.args.self.now.table.slots).conn.phase =
    c.pending-pending.ensures.left ∙ ap (λ (v : ConnView). left_to_write v.phase) c.conn.ensures.state in
    let long : length c.pending-pending.result.now ≡ length (left_to_write (slot_of c.args.c c.args.self.now.table.slots).conn.phase) = ap length left in
    let fewer : c.in-Bytes.count < length c.pending-pending.result.now = c.if-count-left.true in
    let more : 0 < length (left_to_write (slot_of c.args.c c.wrote.new.self.slots).conn.phase) =
    subst (λ (v : ConnView). 0 < length (left_to_write v.phase)) (sym (state_is c.args.c _ c.args.self.now.table c.wrote.new.self st.here.there c.wrote.ensures))
    (more_left c.in-Bytes.count (left_to_write (slot_of c.args.c c.args.self.now.table.slots).conn.phase) (omega arith)) in
    (c.requires.writes.0, more)

pub overflow_sub-self : goal.overflow_sub-self
overflow_sub-self g c =
    let st : Standing (g.L.Links.state c.args.links.now) c.args.self.now c.requires.under_way.2.2.loop c.args.c = standing c.requires.under_way.2.0 _ c.args.self.now c.requires.under_way.2.2.loop c.args.c c.requires.under_way.2.2.so_far.tied c.requires.writes.0 in
    some_owing c.requires.under_way.0 c.requires.under_way.1 c.requires.under_way.2.0 _ c.args.self.now c.requires.under_way.2.1 c.requires.under_way.2.2 c.args.c st c.requires.writes.0 c.requires.writes.1

pub overflow_sub-self-in-Failed : goal.overflow_sub-self-in-Failed
overflow_sub-self-in-Failed g c =
    let st : Standing (g.L.Links.state c.args.links.now) c.args.self.now c.requires.under_way.2.2.loop c.args.c = standing c.requires.under_way.2.0 _ c.args.self.now c.requires.under_way.2.2.loop c.args.c c.requires.under_way.2.2.so_far.tied c.requires.writes.0 in
    some_owing c.requires.under_way.0 c.requires.under_way.1 c.requires.under_way.2.0 _ c.args.self.now c.requires.under_way.2.1 c.requires.under_way.2.2 c.args.c st c.requires.writes.0 c.requires.writes.1

pub overflow_sub-self-in-NoMemory : goal.overflow_sub-self-in-NoMemory
overflow_sub-self-in-NoMemory g c =
    let st : Standing (g.L.Links.state c.args.links.now) c.args.self.now c.requires.under_way.2.2.loop c.args.c = standing c.requires.under_way.2.0 _ c.args.self.now c.requires.under_way.2.2.loop c.args.c c.requires.under_way.2.2.so_far.tied c.requires.writes.0 in
    some_owing c.requires.under_way.0 c.requires.under_way.1 c.requires.under_way.2.0 _ c.args.self.now c.requires.under_way.2.1 c.requires.under_way.2.2 c.args.c st c.requires.writes.0 c.requires.writes.1

pub end-requires-clause-there : goal.end-requires-clause-there
end-requires-clause-there g c κs within =
    let st : Standing (g.L.Links.state c.args.links.now) c.args.self.now c.requires.under_way.2.2.loop c.args.c = standing c.requires.under_way.2.0 _ c.args.self.now c.requires.under_way.2.2.loop c.args.c c.requires.under_way.2.2.so_far.tied c.requires.writes.0 in
    st.here.there

pub end-requires-clause-going : goal.end-requires-clause-going
end-requires-clause-going g c κs within =
    let st : Standing (g.L.Links.state c.args.links.now) c.args.self.now c.requires.under_way.2.2.loop c.args.c = standing c.requires.under_way.2.0 _ c.args.self.now c.requires.under_way.2.2.loop c.args.c c.requires.under_way.2.2.so_far.tied c.requires.writes.0 in
    st.going

pub end-requires-clause-size : goal.end-requires-clause-size
end-requires-clause-size g c κs within =
    let st : Standing (g.L.Links.state c.args.links.now) c.args.self.now c.requires.under_way.2.2.loop c.args.c = standing c.requires.under_way.2.0 _ c.args.self.now c.requires.under_way.2.2.loop c.args.c c.requires.under_way.2.2.so_far.tied c.requires.writes.0 in
    st.size

pub end-requires-clause-known : goal.end-requires-clause-known
end-requires-clause-known g c κs within =
    let st : Standing (g.L.Links.state c.args.links.now) c.args.self.now c.requires.under_way.2.2.loop c.args.c = standing c.requires.under_way.2.0 _ c.args.self.now c.requires.under_way.2.2.loop c.args.c c.requires.under_way.2.2.so_far.tied c.requires.writes.0 in
    st.known

pub end-requires-clause-link : goal.end-requires-clause-link
end-requires-clause-link g c κs within =
    let st : Standing (g.L.Links.state c.args.links.now) c.args.self.now c.requires.under_way.2.2.loop c.args.c = standing c.requires.under_way.2.0 _ c.args.self.now c.requires.under_way.2.2.loop c.args.c c.requires.under_way.2.2.so_far.tied c.requires.writes.0 in
    c.in-Failed.ensures.writes.still_open ∙ st.here.link

pub end-requires-in-NoMemory-clause-there : goal.end-requires-in-NoMemory-clause-there
end-requires-in-NoMemory-clause-there g c κs within =
    let st : Standing (g.L.Links.state c.args.links.now) c.args.self.now c.requires.under_way.2.2.loop c.args.c = standing c.requires.under_way.2.0 _ c.args.self.now c.requires.under_way.2.2.loop c.args.c c.requires.under_way.2.2.so_far.tied c.requires.writes.0 in
    st.here.there

pub end-requires-in-NoMemory-clause-going : goal.end-requires-in-NoMemory-clause-going
end-requires-in-NoMemory-clause-going g c κs within =
    let st : Standing (g.L.Links.state c.args.links.now) c.args.self.now c.requires.under_way.2.2.loop c.args.c = standing c.requires.under_way.2.0 _ c.args.self.now c.requires.under_way.2.2.loop c.args.c c.requires.under_way.2.2.so_far.tied c.requires.writes.0 in
    st.going

pub end-requires-in-NoMemory-clause-size : goal.end-requires-in-NoMemory-clause-size
end-requires-in-NoMemory-clause-size g c κs within =
    let st : Standing (g.L.Links.state c.args.links.now) c.args.self.now c.requires.under_way.2.2.loop c.args.c = standing c.requires.under_way.2.0 _ c.args.self.now c.requires.under_way.2.2.loop c.args.c c.requires.under_way.2.2.so_far.tied c.requires.writes.0 in
    st.size

pub end-requires-in-NoMemory-clause-known : goal.end-requires-in-NoMemory-clause-known
end-requires-in-NoMemory-clause-known g c κs within =
    let st : Standing (g.L.Links.state c.args.links.now) c.args.self.now c.requires.under_way.2.2.loop c.args.c = standing c.requires.under_way.2.0 _ c.args.self.now c.requires.under_way.2.2.loop c.args.c c.requires.under_way.2.2.so_far.tied c.requires.writes.0 in
    st.known

pub end-requires-in-NoMemory-clause-link : goal.end-requires-in-NoMemory-clause-link
end-requires-in-NoMemory-clause-link g c κs within =
    let st : Standing (g.L.Links.state c.args.links.now) c.args.self.now c.requires.under_way.2.2.loop c.args.c = standing c.requires.under_way.2.0 _ c.args.self.now c.requires.under_way.2.2.loop c.args.c c.requires.under_way.2.2.so_far.tied c.requires.writes.0 in
    c.in-NoMemory.ensures.writes.still_open ∙ st.here.link

pub returns-else-count-left-clause-going : goal.returns-else-count-left-clause-going
returns-else-count-left-clause-going g c =
    let st : Standing (g.L.Links.state c.args.links.now) c.args.self.now c.requires.under_way.2.2.loop c.args.c = standing c.requires.under_way.2.0 _ c.args.self.now c.requires.under_way.2.2.loop c.args.c c.requires.under_way.2.2.so_far.tied c.requires.writes.0 in
    let left : c.pending-pending.result.now ≡ left_to_write (slot_of c.args.c c.args.self.now.table.slots).conn.phase =
    c.pending-pending.ensures.left ∙ ap (λ (v : ConnView). left_to_write v.phase) c.conn.ensures.state in
    let moves : MovesOnly c.args.c (Wrote c.args.c (take c.in-Bytes.count (left_to_write (slot_of c.args.c c.args.self.now.table.slots).conn.phase)) ∷ [])
    (length (left_to_write (slot_of c.args.c c.args.self.now.table.slots).conn.phase) ∷ []) (g.L.Links.state c.args.links.now) (g.L.Links.state c.write.new.self) =
    subst (λ (k : List ℕ). MovesOnly c.args.c (Wrote c.args.c (take c.in-Bytes.count k) ∷ []) (length k ∷ []) (g.L.Links.state c.args.links.now) (g.L.Links.state c.write.new.self)) left
    (write_moves c.args.c c.pending-pending.result.now _ _ (Bytes c.in-Bytes.count) c.in-Bytes.ensures.writes) in
    let long : length c.pending-pending.result.now ≡ length (left_to_write (slot_of c.args.c c.args.self.now.table.slots).conn.phase) = ap length left in
    let within : (1 ≤ c.in-Bytes.count) × (c.in-Bytes.count ≤ length c.pending-pending.result.now) = c.in-Bytes.ensures.writes.within in
    let all : length c.pending-pending.result.now ≤ c.in-Bytes.count = c.if-count-left.false in
    let owed : 1 ≤ c.args.self.now.owing = some_owing c.requires.under_way.0 c.requires.under_way.1 c.requires.under_way.2.0 _ c.args.self.now c.requires.under_way.2.1 c.requires.under_way.2.2 c.args.c st c.requires.writes.0 c.requires.writes.1 in
    λ max small first asks going.
    let at : Standing (g.L.Links.state c.args.links.now) c.args.self.now going.loop c.args.c = standing first _ c.args.self.now going.loop c.args.c going.so_far.tied c.requires.writes.0 in
    writes_all max small first _ c.args.self.now asks going c.args.c at c.requires.writes.0 c.requires.writes.1 c.in-Bytes.count _ _ within.0 (omega arith) (omega arith) moves
    (c.in-Bytes.ensures.writes.still_open ∙ at.here.link) c.wrote.ensures refl refl (omega arith)

pub returns-else-count-left-clause-step : goal.returns-else-count-left-clause-step
returns-else-count-left-clause-step g c =
    let st : Standing (g.L.Links.state c.args.links.now) c.args.self.now c.requires.under_way.2.2.loop c.args.c = standing c.requires.under_way.2.0 _ c.args.self.now c.requires.under_way.2.2.loop c.args.c c.requires.under_way.2.2.so_far.tied c.requires.writes.0 in
    let left : c.pending-pending.result.now ≡ left_to_write (slot_of c.args.c c.args.self.now.table.slots).conn.phase =
    c.pending-pending.ensures.left ∙ ap (λ (v : ConnView). left_to_write v.phase) c.conn.ensures.state in
    let long : length c.pending-pending.result.now ≡ length (left_to_write (slot_of c.args.c c.args.self.now.table.slots).conn.phase) = ap length left in
    let all : length c.pending-pending.result.now ≤ c.in-Bytes.count = c.if-count-left.false in
    let reads : IsReading (slot_of c.args.c c.wrote.new.self.slots).conn.phase =
    subst (λ (v : ConnView). IsReading v.phase) (sym (state_is c.args.c _ c.args.self.now.table c.wrote.new.self st.here.there c.wrote.ensures))
    (reads_behind c.in-Bytes.count (left_to_write (slot_of c.args.c c.args.self.now.table.slots).conn.phase) (omega arith)) in
    (c.requires.writes.0, reads)

pub returns-in-Failed-clause-going : goal.returns-in-Failed-clause-going
returns-in-Failed-clause-going g c =
    let st : Standing (g.L.Links.state c.args.links.now) c.args.self.now c.requires.under_way.2.2.loop c.args.c = standing c.requires.under_way.2.0 _ c.args.self.now c.requires.under_way.2.2.loop c.args.c c.requires.under_way.2.2.so_far.tied c.requires.writes.0 in
    let owed : 1 ≤ c.args.self.now.owing = some_owing c.requires.under_way.0 c.requires.under_way.1 c.requires.under_way.2.0 _ c.args.self.now c.requires.under_way.2.1 c.requires.under_way.2.2 c.args.c st c.requires.writes.0 c.requires.writes.1 in
    let less : c.end.new.self.owing ≡ c.args.self.now.owing - 1 = c.end.ensures.owing in
    λ max small first asks going.
    let at : Standing (g.L.Links.state c.args.links.now) c.args.self.now going.loop c.args.c = standing first _ c.args.self.now going.loop c.args.c going.so_far.tied c.requires.writes.0 in
    write_fails max small first _ c.args.self.now asks going c.args.c at c.requires.writes.0 c.requires.writes.1 (g.L.Links.state c.write.new.self) _ c.end.new.self
    (ends_alike c.args.c WriteFault c.args.self.now c.end.new.self (c.args.self.now.owing - 1) c.end.ensures.ended) (omega arith)
    (write_moves c.args.c c.pending-pending.result.now _ _ Failed c.in-Failed.ensures.writes) c.in-Failed.ensures.writes.faults.1 c.end.ensures.closed

pub returns-in-NoMemory-clause-going : goal.returns-in-NoMemory-clause-going
returns-in-NoMemory-clause-going g c =
    let st : Standing (g.L.Links.state c.args.links.now) c.args.self.now c.requires.under_way.2.2.loop c.args.c = standing c.requires.under_way.2.0 _ c.args.self.now c.requires.under_way.2.2.loop c.args.c c.requires.under_way.2.2.so_far.tied c.requires.writes.0 in
    let owed : 1 ≤ c.args.self.now.owing = some_owing c.requires.under_way.0 c.requires.under_way.1 c.requires.under_way.2.0 _ c.args.self.now c.requires.under_way.2.1 c.requires.under_way.2.2 c.args.c st c.requires.writes.0 c.requires.writes.1 in
    let less : c.end-in-NoMemory.new.self.owing ≡ c.args.self.now.owing - 1 = c.end-in-NoMemory.ensures.owing in
    λ max small first asks going.
    let at : Standing (g.L.Links.state c.args.links.now) c.args.self.now going.loop c.args.c = standing first _ c.args.self.now going.loop c.args.c going.so_far.tied c.requires.writes.0 in
    writer_given_up max small first _ c.args.self.now asks going c.args.c at c.requires.writes.0 c.requires.writes.1 (g.L.Links.state c.write.new.self) _ c.end-in-NoMemory.new.self
    (ends_alike c.args.c LackOfMemory c.args.self.now c.end-in-NoMemory.new.self (c.args.self.now.owing - 1) c.end-in-NoMemory.ensures.ended) (omega arith)
    (write_moves c.args.c c.pending-pending.result.now _ _ NoMemory c.in-NoMemory.ensures.writes) c.end-in-NoMemory.ensures.closed

pub returns-in-NotYet-clause-going : goal.returns-in-NotYet-clause-going
returns-in-NotYet-clause-going g c =
    λ max small first asks going.
    rests_goes max first _ _ c.args.self.now asks going c.args.c (standing first _ c.args.self.now going.loop c.args.c going.so_far.tied c.requires.writes.0) (write_moves c.args.c c.pending-pending.result.now _ _ NotYet c.in-NotYet.ensures.writes) c.in-NotYet.ensures.writes.still_open

pub returns-in-End-clause-going : goal.returns-in-End-clause-going
returns-in-End-clause-going g c =
    λ max small first asks going.
    rests_goes max first _ _ c.args.self.now asks going c.args.c (standing first _ c.args.self.now going.loop c.args.c going.so_far.tied c.requires.writes.0) (write_moves c.args.c c.pending-pending.result.now _ _ End c.in-End.ensures.writes) c.in-End.ensures.writes.still_open

pub returns-then-count-left-clause-budget : goal.returns-then-count-left-clause-budget
returns-then-count-left-clause-budget g c = ap (λ (t : TableView). t.budget) c.wrote.ensures

pub returns-else-count-left-clause-budget : goal.returns-else-count-left-clause-budget
returns-else-count-left-clause-budget g c = ap (λ (t : TableView). t.budget) c.wrote.ensures
