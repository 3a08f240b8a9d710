use Rattle.std.proofs.Common.{◌≡◌, ◌+◌, ◌<◌, ◌≤◌, Ok, true, false, IsSome, slice_index_or, refl, sym, ap, ◌∙◌, subst}
use Rattle.host_model.specs.declared.cause.EndCause.TheVariants.{NoMemory}
use Rattle.conn_state.specs.Phase.{HasNotEnded}
use Rattle.conn_table.specs.Slots.{slot_in}
use Rattle.conn_table.specs.Table.{TableView, slot_of, sizes_given, size_wanted, with_admitted, Admits}
use Rattle.loop_conns.specs.declared.connections.ConnStage.TheVariants.{Laden, Gone}
use Rattle.loop_conns.specs.Ended.{HasSizeBy, EndsConnection}
use Rattle.loop_conns.specs.Going.{HasNoRoom}
use Rattle.loop_conns.specs.Woven.{LoopIsRunning}
use Rattle.loop_conns.proofs.Tying.{set_at}
use Rattle.loop_conns.proofs.Standing.{Standing, standing}
use Rattle.loop_conns.proofs.Admits.{no_size, waiter_given_up, admitted_reads, admits_goes}
use Rattle.loop_conns.proofs.connections.LoopConnections.admit.Goals as goal

pub admit-requires-clause-open : goal.admit-requires-clause-open
admit-requires-clause-open g c =
    let st : Standing (g.L.Links.state c.args.links.now) c.args.self.now c.requires.under_way.2.2.loop c.args.c = standing c.requires.under_way.2.0 _ c.args.self.now c.requires.under_way.2.2.loop c.args.c c.requires.under_way.2.2.so_far.tied c.requires.waits.0 in
    st.here.there

pub admit-requires-clause-unadmitted : goal.admit-requires-clause-unadmitted
admit-requires-clause-unadmitted g c =
    let st : Standing (g.L.Links.state c.args.links.now) c.args.self.now c.requires.under_way.2.2.loop c.args.c = standing c.requires.under_way.2.0 _ c.args.self.now c.requires.under_way.2.2.loop c.args.c c.requires.under_way.2.2.so_far.tied c.requires.waits.0 in
    no_size c.requires.under_way.0 c.requires.under_way.1 c.requires.under_way.2.0 _ c.args.self.now c.requires.under_way.2.1 c.requires.under_way.2.2 c.args.c st c.requires.waits.0 c.requires.waits.1

pub index_mut-requires : goal.index_mut-requires
index_mut-requires g c =
    let st : Standing (g.L.Links.state c.args.links.now) c.args.self.now c.requires.under_way.2.2.loop c.args.c = standing c.requires.under_way.2.0 _ c.args.self.now c.requires.under_way.2.2.loop c.args.c c.requires.under_way.2.2.so_far.tied c.requires.waits.0 in
    subst (λ n. c.args.c < n) (sym c.args.self.now.stages.ok.0) st.known.0

pub end-requires-clause-there : goal.end-requires-clause-there
end-requires-clause-there g c κs within =
    let st : Standing (g.L.Links.state c.args.links.now) c.args.self.now c.requires.under_way.2.2.loop c.args.c = standing c.requires.under_way.2.0 _ c.args.self.now c.requires.under_way.2.2.loop c.args.c c.requires.under_way.2.2.so_far.tied c.requires.waits.0 in
    subst (λ (t : TableView). IsSome (slot_in c.args.c t.slots)) (sym c.in-Err.ensures.1) st.here.there

pub end-requires-clause-going : goal.end-requires-clause-going
end-requires-clause-going g c κs within =
    let st : Standing (g.L.Links.state c.args.links.now) c.args.self.now c.requires.under_way.2.2.loop c.args.c = standing c.requires.under_way.2.0 _ c.args.self.now c.requires.under_way.2.2.loop c.args.c c.requires.under_way.2.2.so_far.tied c.requires.waits.0 in
    subst (λ (t : TableView). HasNotEnded (slot_of c.args.c t.slots).conn.phase) (sym c.in-Err.ensures.1) st.going

pub end-requires-clause-size : goal.end-requires-clause-size
end-requires-clause-size g c κs within =
    let st : Standing (g.L.Links.state c.args.links.now) c.args.self.now c.requires.under_way.2.2.loop c.args.c = standing c.requires.under_way.2.0 _ c.args.self.now c.requires.under_way.2.2.loop c.args.c c.requires.under_way.2.2.so_far.tied c.requires.waits.0 in
    subst (λ (t : TableView). HasSizeBy (slice_index_or c.args.self.now.stages.items c.args.c Gone) (slot_of c.args.c t.slots).size) (sym c.in-Err.ensures.1) st.size

pub end-requires-clause-known : goal.end-requires-clause-known
end-requires-clause-known g c κs within =
    let st : Standing (g.L.Links.state c.args.links.now) c.args.self.now c.requires.under_way.2.2.loop c.args.c = standing c.requires.under_way.2.0 _ c.args.self.now c.requires.under_way.2.2.loop c.args.c c.requires.under_way.2.2.so_far.tied c.requires.waits.0 in
    st.known

pub end-requires-clause-link : goal.end-requires-clause-link
end-requires-clause-link g c κs within =
    let st : Standing (g.L.Links.state c.args.links.now) c.args.self.now c.requires.under_way.2.2.loop c.args.c = standing c.requires.under_way.2.0 _ c.args.self.now c.requires.under_way.2.2.loop c.args.c c.requires.under_way.2.2.so_far.tied c.requires.waits.0 in
    st.here.link

pub returns-in-Ok-true-clause-going : goal.returns-in-Ok-true-clause-going
returns-in-Ok-true-clause-going g c =
    let admits : (sizes_given c.args.self.now.table.slots + size_wanted (slot_of c.args.c c.args.self.now.table.slots).conn ≤ c.args.self.now.table.budget)
    × (c.admit.new.self ≡ with_admitted c.args.c c.args.self.now.table) =
    subst (λ r. Admits c.args.c c.args.self.now.table r c.admit.new.self) (let is : c.admit.result ≡ Ok true = cc in is) c.admit.ensures in
    λ max small first asks going.
    let at : Standing (g.L.Links.state c.args.links.now) c.args.self.now going.loop c.args.c = standing first _ c.args.self.now going.loop c.args.c going.so_far.tied c.requires.waits.0 in
    admits_goes max small first _ c.args.self.now asks going c.args.c at c.requires.waits.0 c.requires.waits.1 _ admits.1 admits.0 refl refl refl

pub returns-in-Ok-true-clause-step : goal.returns-in-Ok-true-clause-step
returns-in-Ok-true-clause-step g c =
    let st : Standing (g.L.Links.state c.args.links.now) c.args.self.now c.requires.under_way.2.2.loop c.args.c = standing c.requires.under_way.2.0 _ c.args.self.now c.requires.under_way.2.2.loop c.args.c c.requires.under_way.2.2.so_far.tied c.requires.waits.0 in
    let admits : (sizes_given c.args.self.now.table.slots + size_wanted (slot_of c.args.c c.args.self.now.table.slots).conn ≤ c.args.self.now.table.budget)
    × (c.admit.new.self ≡ with_admitted c.args.c c.args.self.now.table) =
    subst (λ r. Admits c.args.c c.args.self.now.table r c.admit.new.self) (let is : c.admit.result ≡ Ok true = cc in is) c.admit.ensures in (
      (λ e. let gone : Laden ≡ Gone = sym (set_at Gone c.args.c Laden c.args.self.now.stages.items _ st.known.0 refl).own ∙ e in cc),
      admitted_reads c.requires.under_way.0 c.requires.under_way.1 c.requires.under_way.2.0 _ c.args.self.now c.requires.under_way.2.1 c.requires.under_way.2.2 c.args.c st c.requires.waits.0 c.requires.waits.1 c.admit.new.self admits.1,
    )

pub returns-in-Ok-false-clause-going : goal.returns-in-Ok-false-clause-going
returns-in-Ok-false-clause-going g c =
    let admits : (c.args.self.now.table.budget < sizes_given c.args.self.now.table.slots + size_wanted (slot_of c.args.c c.args.self.now.table.slots).conn)
    × (c.admit.new.self ≡ c.args.self.now.table) =
    subst (λ r. Admits c.args.c c.args.self.now.table r c.admit.new.self) (let is : c.admit.result ≡ Ok false = cc in is) c.admit.ensures in
    λ max small first asks going. subst (λ (t : TableView). LoopIsRunning max first (g.L.Links.state c.args.links.now) (record c.args.self.now { table = t }) asks) (sym admits.1) going

pub returns-in-Ok-false-clause-step : goal.returns-in-Ok-false-clause-step
returns-in-Ok-false-clause-step g c =
    let st : Standing (g.L.Links.state c.args.links.now) c.args.self.now c.requires.under_way.2.2.loop c.args.c = standing c.requires.under_way.2.0 _ c.args.self.now c.requires.under_way.2.2.loop c.args.c c.requires.under_way.2.2.so_far.tied c.requires.waits.0 in
    let admits : (c.args.self.now.table.budget < sizes_given c.args.self.now.table.slots + size_wanted (slot_of c.args.c c.args.self.now.table.slots).conn)
    × (c.admit.new.self ≡ c.args.self.now.table) =
    subst (λ r. Admits c.args.c c.args.self.now.table r c.admit.new.self) (let is : c.admit.result ≡ Ok false = cc in is) c.admit.ensures in
    subst (λ (t : TableView). HasNoRoom t c.args.c) (sym admits.1) (st.here.there, c.requires.waits.1, admits.0)

pub returns-in-Err-clause-going : goal.returns-in-Err-clause-going
returns-in-Err-clause-going g c =
    λ max small first asks going.
    let at : Standing (g.L.Links.state c.args.links.now) c.args.self.now going.loop c.args.c = standing first _ c.args.self.now going.loop c.args.c going.so_far.tied c.requires.waits.0 in
    waiter_given_up max small first _ c.args.self.now asks going c.args.c at c.requires.waits.0 c.requires.waits.1 _ c.end.new.self
    (subst (λ (t : TableView). EndsConnection c.args.c NoMemory (record c.args.self.now { table = t }) c.end.new.self) c.in-Err.ensures.1 c.end.ensures.ended) c.end.ensures.owing c.end.ensures.closed

pub returns-in-Ok-true-clause-budget : goal.returns-in-Ok-true-clause-budget
returns-in-Ok-true-clause-budget g c =
    let admits : (sizes_given c.args.self.now.table.slots + size_wanted (slot_of c.args.c c.args.self.now.table.slots).conn ≤ c.args.self.now.table.budget)
    × (c.admit.new.self ≡ with_admitted c.args.c c.args.self.now.table) =
    subst (λ r. Admits c.args.c c.args.self.now.table r c.admit.new.self) (let is : c.admit.result ≡ Ok true = cc in is) c.admit.ensures in
    ap (λ (t : TableView). t.budget) admits.1

pub returns-in-Ok-false-clause-budget : goal.returns-in-Ok-false-clause-budget
returns-in-Ok-false-clause-budget g c =
    let admits : (c.args.self.now.table.budget < sizes_given c.args.self.now.table.slots + size_wanted (slot_of c.args.c c.args.self.now.table.slots).conn)
    × (c.admit.new.self ≡ c.args.self.now.table) =
    subst (λ r. Admits c.args.c c.args.self.now.table r c.admit.new.self) (let is : c.admit.result ≡ Ok false = cc in is) c.admit.ensures in
    ap (λ (t : TableView). t.budget) admits.1

pub returns-in-Err-clause-budget : goal.returns-in-Err-clause-budget
returns-in-Err-clause-budget g c =
    c.end.ensures.budget ∙ ap (λ (t : TableView). t.budget) c.in-Err.ensures.1
