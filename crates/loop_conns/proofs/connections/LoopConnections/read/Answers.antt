use Rattle.std.proofs.Common.{ℕ, Option, IsSome, slice_index_or, refl, sym, ap, ◌∙◌, subst}
use Rattle.outside.specs.declared.answers.Taken.TheVariants.{End as EndTaken, NotYet, Failed, NoMemory as NoRoom}
use Rattle.host_model.specs.declared.cause.EndCause.{EndCause}
use Rattle.host_model.specs.World.{end_behind}
use Rattle.conn_state.specs.Phase.{ConnView, cause_of}
use Rattle.conn_table.specs.Table.{TableView, slot_of}
use Rattle.conn_refinement.proofs.Tables.{state_there, state_is, state_size, state_but}
use Rattle.loop_conns.specs.declared.connections.ConnStage.TheVariants.{Gone}
use Rattle.loop_conns.specs.Ended.{HasSizeBy}
use Rattle.loop_conns.proofs.Ordering.{state_orderly}
use Rattle.loop_conns.proofs.Standing.{Standing, standing}
use Rattle.loop_conns.proofs.Owing.{owing_fits}
use Rattle.loop_conns.proofs.Resting.{rests_goes}
use Rattle.loop_conns.proofs.Testing.{end_over}
use Rattle.loop_conns.proofs.Leaving.{moves_none, read_moves, spent_then, input_ends, ended_cause, read_fails, reader_given_up}
use Rattle.loop_conns.proofs.connections.LoopConnections.read.Goals as goal

pub returns-then-frames-ge-MOST_FRAMES-clause-going : goal.returns-then-frames-ge-MOST_FRAMES-clause-going
returns-then-frames-ge-MOST_FRAMES-clause-going g c = λ first asks going.
    reader_given_up c.args.max_frame c.requires.small first _ _ _ c.args.self.now _ asks going c.args.c
    (standing first _ c.args.self.now going.loop c.args.c going.so_far.tied c.requires.reads.0) c.requires.reads.1 (moves_none c.args.c _) c.end.ensures.ended c.end.ensures.owing c.end.ensures.closed

pub release_and_close-requires-clause-there : goal.release_and_close-requires-clause-there
release_and_close-requires-clause-there g c κs within =
    state_there c.args.c _ c.args.self.now.table c.end_of_input.new.self (standing _ _ c.args.self.now c.requires.under_way.2.loop c.args.c c.requires.under_way.2.so_far.tied c.requires.reads.0).here.there c.end_of_input.ensures

pub release_and_close-requires-clause-over : goal.release_and_close-requires-clause-over
release_and_close-requires-clause-over g c κs within =
    let st : Standing (g.L.Links.state c.args.links.now) c.args.self.now c.requires.under_way.2.loop c.args.c = standing c.requires.under_way.0 _ c.args.self.now c.requires.under_way.2.loop c.args.c c.requires.under_way.2.so_far.tied c.requires.reads.0 in
    subst (λ (v : ConnView). IsSome (cause_of v.phase)) (sym (state_is c.args.c _ c.args.self.now.table c.end_of_input.new.self st.here.there c.end_of_input.ensures))
    (end_over (slot_of c.args.c c.args.self.now.table.slots).conn.phase)

pub release_and_close-requires-clause-size : goal.release_and_close-requires-clause-size
release_and_close-requires-clause-size g c κs within =
    let st : Standing (g.L.Links.state c.args.links.now) c.args.self.now c.requires.under_way.2.loop c.args.c = standing c.requires.under_way.0 _ c.args.self.now c.requires.under_way.2.loop c.args.c c.requires.under_way.2.so_far.tied c.requires.reads.0 in
    subst (λ (o : Option ℕ). HasSizeBy (slice_index_or c.args.self.now.stages.items c.args.c Gone) o)
    (sym (state_size c.args.c _ c.args.self.now.table c.end_of_input.new.self st.here.there c.end_of_input.ensures)) st.size

pub take_in-requires-clause-few : goal.take_in-requires-clause-few
take_in-requires-clause-few g c κs within = owing_fits c.args.max_frame c.requires.under_way.0 _ c.args.self.now c.requires.under_way.1 c.requires.under_way.2

pub returns-in-End-clause-going : goal.returns-in-End-clause-going
returns-in-End-clause-going g c = λ first asks going.
    let st : Standing (g.L.Links.state c.args.links.now) c.args.self.now going.loop c.args.c = standing first _ c.args.self.now going.loop c.args.c going.so_far.tied c.requires.reads.0 in
    let why : EndCause = end_behind (going.loop.conns c.args.c).held in
    input_ends c.args.max_frame c.requires.small first _ c.args.self.now asks going c.args.c st c.requires.reads.1 (g.L.Links.state c.read.new.self) _ c.release_and_close.new.self c.end_of_input.new.self
    (state_but c.args.c _ c.args.self.now.table c.end_of_input.new.self st.here.there c.end_of_input.ensures)
    (state_orderly c.args.c _ c.args.self.now.table c.end_of_input.new.self st.here.there c.end_of_input.ensures)
    (c.release_and_close.ensures.ended why
    (ap (λ (v : ConnView). cause_of v.phase) (state_is c.args.c _ c.args.self.now.table c.end_of_input.new.self st.here.there c.end_of_input.ensures)
    ∙ ended_cause c.args.max_frame c.requires.small first _ c.args.self.now asks going c.args.c st c.requires.reads.1)) c.release_and_close.ensures.owing
    (read_moves c.args.c c.read.new.into _ _ EndTaken c.in-End.ensures.reads)
    (spent_then _ _ c.in-End.ensures.reads.left (c.in-End.ensures.reads.ended refl)) c.release_and_close.ensures.closed

pub returns-in-NotYet-clause-going : goal.returns-in-NotYet-clause-going
returns-in-NotYet-clause-going g c = λ first asks going.
    rests_goes c.args.max_frame first _ _ c.args.self.now asks going c.args.c (standing first _ c.args.self.now going.loop c.args.c going.so_far.tied c.requires.reads.0)
    (read_moves c.args.c c.read.new.into _ _ NotYet c.in-NotYet.ensures.reads) c.in-NotYet.ensures.reads.still_open

pub returns-in-Failed-clause-going : goal.returns-in-Failed-clause-going
returns-in-Failed-clause-going g c = λ first asks going.
    read_fails c.args.max_frame c.requires.small first _ c.args.self.now asks going c.args.c
    (standing first _ c.args.self.now going.loop c.args.c going.so_far.tied c.requires.reads.0) c.requires.reads.1 (g.L.Links.state c.read.new.self) _ c.end-in-Failed.new.self
    c.end-in-Failed.ensures.ended c.end-in-Failed.ensures.owing (read_moves c.args.c c.read.new.into _ _ Failed c.in-Failed.ensures.reads) c.in-Failed.ensures.reads.faults.1 c.end-in-Failed.ensures.closed

pub returns-in-NoMemory-clause-going : goal.returns-in-NoMemory-clause-going
returns-in-NoMemory-clause-going g c = λ first asks going.
    reader_given_up c.args.max_frame c.requires.small first _ (g.L.Links.state c.read.new.self) _ c.args.self.now c.end-in-NoMemory.new.self asks going c.args.c
    (standing first _ c.args.self.now going.loop c.args.c going.so_far.tied c.requires.reads.0) c.requires.reads.1
    (read_moves c.args.c c.read.new.into _ _ NoRoom c.in-NoMemory.ensures.reads) c.end-in-NoMemory.ensures.ended c.end-in-NoMemory.ensures.owing c.end-in-NoMemory.ensures.closed

pub returns-in-End-clause-budget : goal.returns-in-End-clause-budget
returns-in-End-clause-budget g c = c.release_and_close.ensures.budget ∙ ap (λ (t : TableView). t.budget) c.end_of_input.ensures

pub conn-requires : goal.conn-requires
conn-requires g c =
    let st : Standing (g.L.Links.state c.args.links.now) c.args.self.now c.requires.under_way.2.loop c.args.c = standing c.requires.under_way.0 _ c.args.self.now c.requires.under_way.2.loop c.args.c c.requires.under_way.2.so_far.tied c.requires.reads.0 in
    st.here.there

pub read-requires-clause-open_still : goal.read-requires-clause-open_still
read-requires-clause-open_still g c =
    let st : Standing (g.L.Links.state c.args.links.now) c.args.self.now c.requires.under_way.2.loop c.args.c = standing c.requires.under_way.0 _ c.args.self.now c.requires.under_way.2.loop c.args.c c.requires.under_way.2.so_far.tied c.requires.reads.0 in
    st.here.link

pub end-requires-clause-there : goal.end-requires-clause-there
end-requires-clause-there g c κs within =
    let st : Standing (g.L.Links.state c.args.links.now) c.args.self.now c.requires.under_way.2.loop c.args.c = standing c.requires.under_way.0 _ c.args.self.now c.requires.under_way.2.loop c.args.c c.requires.under_way.2.so_far.tied c.requires.reads.0 in
    st.here.there

pub end-requires-clause-going : goal.end-requires-clause-going
end-requires-clause-going g c κs within =
    let st : Standing (g.L.Links.state c.args.links.now) c.args.self.now c.requires.under_way.2.loop c.args.c = standing c.requires.under_way.0 _ c.args.self.now c.requires.under_way.2.loop c.args.c c.requires.under_way.2.so_far.tied c.requires.reads.0 in
    st.going

pub end-requires-clause-size : goal.end-requires-clause-size
end-requires-clause-size g c κs within =
    let st : Standing (g.L.Links.state c.args.links.now) c.args.self.now c.requires.under_way.2.loop c.args.c = standing c.requires.under_way.0 _ c.args.self.now c.requires.under_way.2.loop c.args.c c.requires.under_way.2.so_far.tied c.requires.reads.0 in
    st.size

pub end-requires-clause-known : goal.end-requires-clause-known
end-requires-clause-known g c κs within =
    let st : Standing (g.L.Links.state c.args.links.now) c.args.self.now c.requires.under_way.2.loop c.args.c = standing c.requires.under_way.0 _ c.args.self.now c.requires.under_way.2.loop c.args.c c.requires.under_way.2.so_far.tied c.requires.reads.0 in
    st.known

pub end-requires-clause-link : goal.end-requires-clause-link
end-requires-clause-link g c κs within =
    let st : Standing (g.L.Links.state c.args.links.now) c.args.self.now c.requires.under_way.2.loop c.args.c = standing c.requires.under_way.0 _ c.args.self.now c.requires.under_way.2.loop c.args.c c.requires.under_way.2.so_far.tied c.requires.reads.0 in
    st.here.link

pub end-requires-in-Failed-clause-there : goal.end-requires-in-Failed-clause-there
end-requires-in-Failed-clause-there g c κs within =
    let st : Standing (g.L.Links.state c.args.links.now) c.args.self.now c.requires.under_way.2.loop c.args.c = standing c.requires.under_way.0 _ c.args.self.now c.requires.under_way.2.loop c.args.c c.requires.under_way.2.so_far.tied c.requires.reads.0 in
    st.here.there

pub end-requires-in-Failed-clause-going : goal.end-requires-in-Failed-clause-going
end-requires-in-Failed-clause-going g c κs within =
    let st : Standing (g.L.Links.state c.args.links.now) c.args.self.now c.requires.under_way.2.loop c.args.c = standing c.requires.under_way.0 _ c.args.self.now c.requires.under_way.2.loop c.args.c c.requires.under_way.2.so_far.tied c.requires.reads.0 in
    st.going

pub end-requires-in-Failed-clause-size : goal.end-requires-in-Failed-clause-size
end-requires-in-Failed-clause-size g c κs within =
    let st : Standing (g.L.Links.state c.args.links.now) c.args.self.now c.requires.under_way.2.loop c.args.c = standing c.requires.under_way.0 _ c.args.self.now c.requires.under_way.2.loop c.args.c c.requires.under_way.2.so_far.tied c.requires.reads.0 in
    st.size

pub end-requires-in-Failed-clause-known : goal.end-requires-in-Failed-clause-known
end-requires-in-Failed-clause-known g c κs within =
    let st : Standing (g.L.Links.state c.args.links.now) c.args.self.now c.requires.under_way.2.loop c.args.c = standing c.requires.under_way.0 _ c.args.self.now c.requires.under_way.2.loop c.args.c c.requires.under_way.2.so_far.tied c.requires.reads.0 in
    st.known

pub end-requires-in-Failed-clause-link : goal.end-requires-in-Failed-clause-link
end-requires-in-Failed-clause-link g c κs within =
    let st : Standing (g.L.Links.state c.args.links.now) c.args.self.now c.requires.under_way.2.loop c.args.c = standing c.requires.under_way.0 _ c.args.self.now c.requires.under_way.2.loop c.args.c c.requires.under_way.2.so_far.tied c.requires.reads.0 in
    c.in-Failed.ensures.reads.still_open ∙ st.here.link

pub end-requires-in-NoMemory-clause-there : goal.end-requires-in-NoMemory-clause-there
end-requires-in-NoMemory-clause-there g c κs within =
    let st : Standing (g.L.Links.state c.args.links.now) c.args.self.now c.requires.under_way.2.loop c.args.c = standing c.requires.under_way.0 _ c.args.self.now c.requires.under_way.2.loop c.args.c c.requires.under_way.2.so_far.tied c.requires.reads.0 in
    st.here.there

pub end-requires-in-NoMemory-clause-going : goal.end-requires-in-NoMemory-clause-going
end-requires-in-NoMemory-clause-going g c κs within =
    let st : Standing (g.L.Links.state c.args.links.now) c.args.self.now c.requires.under_way.2.loop c.args.c = standing c.requires.under_way.0 _ c.args.self.now c.requires.under_way.2.loop c.args.c c.requires.under_way.2.so_far.tied c.requires.reads.0 in
    st.going

pub end-requires-in-NoMemory-clause-size : goal.end-requires-in-NoMemory-clause-size
end-requires-in-NoMemory-clause-size g c κs within =
    let st : Standing (g.L.Links.state c.args.links.now) c.args.self.now c.requires.under_way.2.loop c.args.c = standing c.requires.under_way.0 _ c.args.self.now c.requires.under_way.2.loop c.args.c c.requires.under_way.2.so_far.tied c.requires.reads.0 in
    st.size

pub end-requires-in-NoMemory-clause-known : goal.end-requires-in-NoMemory-clause-known
end-requires-in-NoMemory-clause-known g c κs within =
    let st : Standing (g.L.Links.state c.args.links.now) c.args.self.now c.requires.under_way.2.loop c.args.c = standing c.requires.under_way.0 _ c.args.self.now c.requires.under_way.2.loop c.args.c c.requires.under_way.2.so_far.tied c.requires.reads.0 in
    st.known

pub end-requires-in-NoMemory-clause-link : goal.end-requires-in-NoMemory-clause-link
end-requires-in-NoMemory-clause-link g c κs within =
    let st : Standing (g.L.Links.state c.args.links.now) c.args.self.now c.requires.under_way.2.loop c.args.c = standing c.requires.under_way.0 _ c.args.self.now c.requires.under_way.2.loop c.args.c c.requires.under_way.2.so_far.tied c.requires.reads.0 in
    c.in-NoMemory.ensures.reads.still_open ∙ st.here.link

pub take_in-requires-clause-there : goal.take_in-requires-clause-there
take_in-requires-clause-there g c κs within =
    let st : Standing (g.L.Links.state c.args.links.now) c.args.self.now c.requires.under_way.2.loop c.args.c = standing c.requires.under_way.0 _ c.args.self.now c.requires.under_way.2.loop c.args.c c.requires.under_way.2.so_far.tied c.requires.reads.0 in
    st.here.there

pub take_in-requires-clause-size : goal.take_in-requires-clause-size
take_in-requires-clause-size g c κs within =
    let st : Standing (g.L.Links.state c.args.links.now) c.args.self.now c.requires.under_way.2.loop c.args.c = standing c.requires.under_way.0 _ c.args.self.now c.requires.under_way.2.loop c.args.c c.requires.under_way.2.so_far.tied c.requires.reads.0 in
    st.size

pub take_in-requires-clause-known : goal.take_in-requires-clause-known
take_in-requires-clause-known g c κs within =
    let st : Standing (g.L.Links.state c.args.links.now) c.args.self.now c.requires.under_way.2.loop c.args.c = standing c.requires.under_way.0 _ c.args.self.now c.requires.under_way.2.loop c.args.c c.requires.under_way.2.so_far.tied c.requires.reads.0 in
    st.known

pub take_in-requires-clause-link : goal.take_in-requires-clause-link
take_in-requires-clause-link g c κs within =
    let st : Standing (g.L.Links.state c.args.links.now) c.args.self.now c.requires.under_way.2.loop c.args.c = standing c.requires.under_way.0 _ c.args.self.now c.requires.under_way.2.loop c.args.c c.requires.under_way.2.so_far.tied c.requires.reads.0 in
    c.in-Bytes.ensures.reads.still_open ∙ st.here.link

pub end_of_input-requires-clause-open : goal.end_of_input-requires-clause-open
end_of_input-requires-clause-open g c =
    let st : Standing (g.L.Links.state c.args.links.now) c.args.self.now c.requires.under_way.2.loop c.args.c = standing c.requires.under_way.0 _ c.args.self.now c.requires.under_way.2.loop c.args.c c.requires.under_way.2.so_far.tied c.requires.reads.0 in
    st.here.there

pub release_and_close-requires-clause-known : goal.release_and_close-requires-clause-known
release_and_close-requires-clause-known g c κs within =
    let st : Standing (g.L.Links.state c.args.links.now) c.args.self.now c.requires.under_way.2.loop c.args.c = standing c.requires.under_way.0 _ c.args.self.now c.requires.under_way.2.loop c.args.c c.requires.under_way.2.so_far.tied c.requires.reads.0 in
    st.known

pub release_and_close-requires-clause-link : goal.release_and_close-requires-clause-link
release_and_close-requires-clause-link g c κs within =
    let st : Standing (g.L.Links.state c.args.links.now) c.args.self.now c.requires.under_way.2.loop c.args.c = standing c.requires.under_way.0 _ c.args.self.now c.requires.under_way.2.loop c.args.c c.requires.under_way.2.so_far.tied c.requires.reads.0 in
    c.in-End.ensures.reads.still_open ∙ st.here.link
