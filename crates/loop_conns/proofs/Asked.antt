-- What links answer that are asked what is next, and what the loop makes of it.
use Rattle.std.proofs.Common.{◌≡◌, ℕ, ◌<◌, ◌≤◌, ◌⊎◌, ◌||◌, Bool, true, false, not, None, Result, Ok, length, slice_index_or, refl, sym, ap, ◌∙◌, subst, inl, inr, arith}
use Rattle.std.proofs.lemmas.Bool.{cases_lt, true≢false, not-true}
use Rattle.std.proofs.lemmas.List.{get_or_past}
use Rattle.outside.specs.declared.answers.Ask.{Ask}
use Rattle.outside.specs.declared.answers.Hint.{Hint}
use Rattle.outside.specs.declared.answers.Hint.TheVariants.{Over}
use Rattle.outside.specs.LinksState.{LinksState}
use Rattle.outside.specs.Asking.{OpensNext, OpensNone, says_over, AnswersAsk}
use Rattle.host_model.specs.declared.cause.EndCause.{EndCause}
use Rattle.host_model.specs.declared.cause.EndCause.TheVariants.{Stopped}
use Rattle.conn_table.specs.Slots.{most_connections, slot_in}
use Rattle.conn_table.specs.Table.{TableView}
use Rattle.machine_model.specs.Loop.{LoopConn, Loop}
use Rattle.loop_conns.specs.declared.connections.ConnStage.{ConnStage}
use Rattle.loop_conns.specs.declared.connections.ConnStage.TheVariants.{Lean, Laden, Gone}
use Rattle.loop_conns.specs.declared.connections.LoopConnections.{LoopConnections}
use Rattle.loop_conns.specs.Tied.{StageTells, AreTied}
use Rattle.loop_conns.specs.Going.{AnyLoopIsRunning, AllKeepGoing, AllComeSoFar, HasNoRoom, AreAllGone, IsAllOver}
use Rattle.loop_conns.proofs.Noting.{IsStill, noted_woven, noted_goes}
use Rattle.loop_conns.proofs.Opening.{IsAdded, opened_goes}
use Rattle.call_rules.specs.Desks.{longest_payload}

-- where not as many are open as may be, there is room for one more
pub room_for_one : (full : Bool) (open_now : ℕ) → (open_now ≡ most_connections → full ≡ true) → open_now ≤ most_connections → not full ≡ true → open_now < most_connections
room_for_one full open_now told few vacant = by (cases_lt open_now most_connections)
  where
    by : (open_now < most_connections) ⊎ (most_connections ≤ open_now) → open_now < most_connections
    by (inl l) = l
    by (inr l) = absurd (true≢false (sym (told (let e : open_now ≡ most_connections = omega arith in e)) ∙ not-true full vacant))

or_true : (b : Bool) → (b || true) ≡ true
or_true true = refl
or_true false = refl

-- one that isn't open on the links is gone
gone_so : (first links : LinksState) (table : TableView) (c : ℕ) (conn : LoopConn) (cause : EndCause) (place : ConnStage) → StageTells first links table c conn cause place
    → links.is_open c ≡ false → place ≡ Gone
gone_so first links table c conn cause Lean h closed = absurd (true≢false (sym h.0.link ∙ closed))
gone_so first links table c conn cause Laden h closed = absurd (true≢false (sym h.0.link ∙ closed))
gone_so first links table c conn cause Gone h closed = refl

none_open_gone : (first links : LinksState) (kept : LoopConnections) (loop : Loop) → AreTied first links kept loop → ((x : ℕ) → links.is_open x ≡ false) → AreAllGone kept
none_open_gone first links kept loop t none x = go (cases_lt x (length kept.stages.items))
  where
    go : (x < length kept.stages.items) ⊎ (length kept.stages.items ≤ x) → slice_index_or kept.stages.items x Gone ≡ Gone
    go (inl l) =
        let e : loop.count ≡ length kept.stages.items = t.stages in
        gone_so first links kept.table x (loop.conns x) (slice_index_or kept.causes.items x Stopped) (slice_index_or kept.stages.items x Gone) (t.each x (omega arith)) (none x)
    go (inr l) = get_or_past kept.stages.items x Gone l

-- an answer of which it is known what it says
pub said : {E : Type 0} (ask : Ask) (l0 l1 : LinksState) (hint known : Hint) → hint ≡ known → AnswersAsk {E = E} ask l0 l1 (Ok hint) → AnswersAsk {E = E} ask l0 l1 (Ok known)
said {E} ask l0 l1 hint known is h = subst (λ (k : Hint). AnswersAsk {E = E} ask l0 l1 (Ok k)) is h

module _ {E : Type 0} (ask : Ask) (l0 l1 : LinksState) (k0 : LoopConnections) (result : Result Hint E) (h : AnswersAsk ask l0 l1 result)
    (idle : ask.idle ≡ true → k0.owing ≡ 0) (no_room : ask.held ≡ true → (c : ℕ) × HasNoRoom k0.table c) where
  still : OpensNone l0 l1 → IsStill l0 l1
  still n = record { listens = h.listens; opened = n.opened; is_open = n.is_open; tape = n.tape; left = h.left; faults = h.faults; lengths = h.lengths; later = h.later }

  -- no connection was opened
  pub none_opened : l1.net_faults ≡ l0.net_faults → OpensNone l0 l1 → AllKeepGoing l0 k0 l1 k0
  none_opened same n max small first asks g = noted_goes max first l0 l1 k0 asks g ask idle no_room (still n) h.rests same

  -- none was, and the links may have failed
  pub none_told : OpensNone l0 l1 → AllComeSoFar l0 k0 l1 k0
  none_told n max small first asks g = (g.loop, noted_woven max first l0 l1 k0 asks g ask idle no_room (still n) h.rests)

  -- one was, and was added: the place was noted before
  pub one_opened : l1.net_faults ≡ l0.net_faults → (c : ℕ) (k1 : LoopConnections) → OpensNext ask c l0 l1 → IsAdded c k0 k1 → AllKeepGoing l0 k0 l1 k1
  one_opened same c k1 o a max small first asks g =
      let noted : LinksState = record l0 { rests = l1.rests } in
      let fits : max ≤ longest_payload = small in
      opened_goes max (omega arith) first noted l1 k0 k1 asks
      (noted_goes max first l0 noted k0 asks g ask idle no_room
      (record { listens = refl; opened = refl; is_open = λ x. refl; tape = refl; left = λ x. refl; faults = λ x. refl; lengths = refl; later = omega arith }) h.rests refl)
      c
      (record {
        number = o.number;
        opened = o.opened;
        few = o.few;
        is_open = o.is_open;
        others = o.others;
        tape = o.tape;
        listens = h.listens;
        left = h.left;
        faults = h.faults;
        lengths = h.lengths;
        rests = refl;
        kept = same;
      })
      a

-- all is over
pub over_so : {E : Type 0} (ask : Ask) (l0 l1 : LinksState) (kept : LoopConnections) (result : Result Hint E) → AnswersAsk ask l0 l1 result → AnyLoopIsRunning l0 kept → result ≡ Ok Over
    → IsAllOver l1 kept
over_so ask l0 l1 kept result h s is = (
  h.over ∙ ap (λ r. l0.over || says_over r) is ∙ or_true l0.over,
  none_open_gone s.2.0 l0 kept s.2.2.loop s.2.2.so_far.tied (h.none_open is),
)

-- the connection that is opened next isn't in the table
pub next_absent : (ask : Ask) (l0 l1 : LinksState) (kept : LoopConnections) (c : ℕ) → AnyLoopIsRunning l0 kept → OpensNext ask c l0 l1 → slot_in c kept.table.slots ≡ None
next_absent ask l0 l1 kept c s o =
    let t : AreTied s.2.0 l0 kept s.2.2.loop = s.2.2.so_far.tied in
    let number : c ≡ l0.opened = o.number in
    let opened : l0.opened ≡ s.2.2.loop.count = t.opened in
    (t.unopened c (omega arith)).0
