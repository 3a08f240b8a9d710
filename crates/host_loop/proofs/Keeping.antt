-- What calls of the loop's parts keep of it while it serves.
use Rattle.std.proofs.Common.{◌≡◌, ℕ, ◌≤◌, arith, Bool, true, false, IsSome, List, [], ◌∷◌, ◌++◌, refl, sym, ap, ◌∙◌, subst, inl, append-nil}
use Rattle.streams.specs.Cause.{Rose}
use Rattle.streams.specs.declared.outcomes.Settled.{Settled}
use Rattle.outside.specs.LinksState.{LinksState}
use Rattle.host_model.specs.declared.key.Key.{Key}
use Rattle.conn_table.specs.declared.run_limits.Limits.{Limits}
use Rattle.conn_table.specs.declared.run_limits.Outcome.{Outcome}
use Rattle.conn_table.specs.declared.run_limits.Outcome.TheVariants.{NetFault, JournalFault}
use Rattle.conn_table.specs.Slots.{slot_in}
use Rattle.conn_table.specs.Table.{TableView}
use Rattle.call_history.specs.Calls.{seat_ask}
use Rattle.call_rules.specs.PlainCalls.{PlainCall, PlainAnswer}
use Rattle.call_rules.specs.Desks.{DeskMeaning, desk_rules}
use Rattle.call_rules.specs.Handling.{ServiceState, handler_rules}
use Rattle.machine_model.specs.HallRule.{HallOperation, submit, collect, HallAnswer, done, empty, is_closed, outcome}
use Rattle.machine_model.specs.Merge.{AreTurns, OfTurns}
use Rattle.machine_model.specs.HallState.{HallState}
use Rattle.machine_model.specs.OwnCalls.{any_of, OwnAsksAllow}
use Rattle.machine_model.specs.OwnLoop.{CollectsItsOwn}
use Rattle.machine_model.specs.Trouble.{is_close}
use Rattle.seat_booth.specs.Seats.{BoothView, IsSeatOf}
use Rattle.hall_core.specs.Meant.{ServedHall}
use Rattle.hall_pool.specs.Turns.{asks_made, HasMadeTurns}
use Rattle.hall_pool.specs.Jobs.{HallSeat, AddsAsk}
use Rattle.loop_conns.specs.declared.connections.LoopConnections.{LoopConnections}
use Rattle.loop_conns.specs.Woven.{ServedAsk, HasWoven, LoopIsRunning}
use Rattle.loop_conns.specs.Going.{SomeLoopIsRunning, AnyLoopIsRunning, KeepsGoing, AllKeepGoing, AllComeSoFar, IsOpenAt, IsHandedOut, AllHandOut, collected_behind, IsCollected, GoesOnSettled, longest_payload}
use Rattle.loop_conns.proofs.Standing.{standing}
use Rattle.host_loop.specs.Asked.{SubmitsJob}
use Rattle.host_loop.specs.Going.{IsServing, HaltTells, IsHalted}
use Rattle.host_loop.proofs.Alike.{alike_goes}
use Rattle.host_loop.proofs.AskedMore.{none_last, asks_woven, asks_goes}

-- all calls of turns after which more may come are those of turns
pub turns_made : (desk : DeskMeaning) (own : HallSeat) → HasMadeTurns desk own.mine → OfTurns (desk_rules desk) (asks_made own.mine)
turns_made desk own t = (t.turns, subst (AreTurns (desk_rules desk)) (append-nil t.turns) (t.right [] tt), t.calls)

-- a count that rose since then rose since earlier
rose_since : (a b c : ℕ) → a ≤ b → Rose b c → Rose a c
rose_since a b c le rose = omega arith

-- seat 0 has made one call more
pub asks_more : (old new : HallSeat) (op : HallOperation PlainCall) (answer : HallAnswer PlainAnswer) → old.number ≡ 0 → AddsAsk old new op answer
    → asks_made new.mine ≡ asks_made old.mine ++ seat_ask 0 op answer ∷ []
asks_more old new op answer zeroth more = more ∙ ap (λ (n : ℕ). asks_made old.mine ++ seat_ask n op answer ∷ []) zeroth

module _ (desk : DeskMeaning) (limits : Limits) (booth : BoothView ServedHall) (first : LinksState) where
  module _ (l0 : LinksState) (k0 : LoopConnections) (seat own : HallSeat) (s : IsServing desk limits booth first l0 k0 seat own) where
    -- a loop that serves goes on
    pub goes_on : SomeLoopIsRunning limits.max_frame l0 k0
    goes_on = (first, asks_made seat.mine, s.going)

    pub some_goes_on : AnyLoopIsRunning l0 k0
    some_goes_on = (limits.max_frame, s.small, goes_on)

    -- one that is open is in the table
    pub is_there : (c : ℕ) → IsOpenAt c k0 → IsSome (slot_in c k0.table.slots)
    is_there c open_at = (standing first l0 k0 s.going.loop c s.going.so_far.tied open_at).here.there

    -- it may halt at any time
    pub halts : (ending : Outcome) → HaltTells limits first l0 k0 seat own ending → IsHalted desk limits booth first l0 k0 seat own ending
    halts ending why =
        record {
          small = s.small;
          opened = s.opened;
          woven = (s.going.loop, s.going.so_far);
          budget = s.budget;
          place = s.place;
          zeroth = s.zeroth;
          own_place = s.own_place;
          own_served = turns_made desk own s.own_turns;
          why = why;
        }

    -- A call over links keeps it.
    pub serves_on : (l1 : LinksState) (k1 : LoopConnections) → KeepsGoing limits.max_frame l0 k0 l1 k1 → k1.table.budget ≡ k0.table.budget
        → IsServing desk limits booth first l1 k1 seat own
    serves_on l1 k1 keeps budget =
        record {
          small = s.small;
          opened = s.opened;
          going = keeps first (asks_made seat.mine) s.going;
          collects = s.collects;
          not_closed = s.not_closed;
          budget = budget ∙ s.budget;
          place = s.place;
          zeroth = s.zeroth;
          own_place = s.own_place;
          own_turns = s.own_turns;
        }

    pub serves_on_all : (l1 : LinksState) (k1 : LoopConnections) → AllKeepGoing l0 k0 l1 k1 → k1.table.budget ≡ k0.table.budget → IsServing desk limits booth first l1 k1 seat own
    serves_on_all l1 k1 keeps budget = serves_on l1 k1 (keeps limits.max_frame s.small) budget

    -- The links have failed.
    pub fails_on : (l1 : LinksState) (k1 : LoopConnections) → AllComeSoFar l0 k0 l1 k1 → k1.table.budget ≡ k0.table.budget → Rose l0.net_faults l1.net_faults
        → IsHalted desk limits booth first l1 k1 seat own NetFault
    fails_on l1 k1 comes budget rose =
        record {
          small = s.small;
          opened = s.opened;
          woven = comes limits.max_frame s.small first (asks_made seat.mine) s.going;
          budget = budget ∙ s.budget;
          place = s.place;
          zeroth = s.zeroth;
          own_place = s.own_place;
          own_served = turns_made desk own s.own_turns;
          why = rose_since first.net_faults l0.net_faults l1.net_faults s.going.so_far.tied.net_faults rose;
        }

    -- More room for connections keeps it.
    pub serves_alike : (k1 : LoopConnections) → k1.table ≡ k0.table → k1.stages.items ≡ k0.stages.items → k1.causes.items ≡ k0.causes.items → k1.owing ≡ k0.owing
        → IsServing desk limits booth first l0 k1 seat own
    serves_alike k1 table stages causes owing =
        record {
          small = s.small;
          opened = s.opened;
          going = alike_goes limits.max_frame first l0 k0 k1 (asks_made seat.mine) table stages causes owing s.going;
          collects = s.collects;
          not_closed = s.not_closed;
          budget = ap (λ (t : TableView). t.budget) table ∙ s.budget;
          place = s.place;
          zeroth = s.zeroth;
          own_place = s.own_place;
          own_turns = s.own_turns;
        }

    -- A call of seat 0 keeps it, where what it asked goes on over these links.
    pub serves_behind : (l1 : LinksState) (k1 : LoopConnections) (new : HallSeat) (op : HallOperation PlainCall) (answer : HallAnswer PlainAnswer) → AddsAsk seat new op answer
        → LoopIsRunning limits.max_frame first l1 k1 (asks_made seat.mine ++ seat_ask 0 op answer ∷ []) → is_close op ≡ false → k1.table.budget ≡ k0.table.budget
        → IsSeatOf booth new → new.number ≡ 0 → CollectsItsOwn (asks_made new.mine) → IsServing desk limits booth first l1 k1 new own
    serves_behind l1 k1 new op answer more goes open_still budget place zeroth collects =
        let asks : asks_made new.mine ≡ asks_made seat.mine ++ seat_ask 0 op answer ∷ [] = asks_more seat new op answer s.zeroth more in
        record {
          small = s.small;
          opened = s.opened;
          going = subst (λ (l : List ServedAsk). LoopIsRunning limits.max_frame first l1 k1 l) (sym asks) goes;
          collects = collects;
          not_closed = ap (any_of is_close) asks ∙ none_last is_close (asks_made seat.mine) (seat_ask 0 op answer) s.not_closed open_still;
          budget = budget ∙ s.budget;
          place = place;
          zeroth = zeroth;
          own_place = s.own_place;
          own_turns = s.own_turns;
        }

    -- A call of seat 0 that finds the hall closed halts it.
    pub halts_behind : (k1 : LoopConnections) (new : HallSeat) (op : HallOperation PlainCall) → AddsAsk seat new op is_closed
        → HasWoven limits.max_frame first l0 k1 (asks_made seat.mine ++ seat_ask 0 op is_closed ∷ []) → k1.table.budget ≡ k0.table.budget → IsSeatOf booth new → new.number ≡ 0
        → IsHalted desk limits booth first l0 k1 new own JournalFault
    halts_behind k1 new op more woven budget place zeroth =
        let asks : asks_made new.mine ≡ asks_made seat.mine ++ seat_ask 0 op is_closed ∷ [] = asks_more seat new op is_closed s.zeroth more in
        record {
          small = s.small;
          opened = s.opened;
          woven = subst (λ (l : List ServedAsk). HasWoven limits.max_frame first l0 k1 l) (sym asks) woven;
          budget = budget ∙ s.budget;
          place = place;
          zeroth = zeroth;
          own_place = s.own_place;
          own_served = turns_made desk own s.own_turns;
          why =
              inl
              (record {
                front = asks_made seat.mine;
                ask = seat_ask 0 op is_closed;
                back = [];
                split = asks;
                answer = refl;
                not_closed = s.not_closed;
              });
        }

    -- nothing to be collected, now or any more
    pub serves_behind_none : (new : HallSeat) → AddsAsk seat new collect empty → IsSeatOf booth new → new.number ≡ 0 → CollectsItsOwn (asks_made new.mine)
        → IsServing desk limits booth first l0 k0 new own
    serves_behind_none new more place zeroth collects =
        serves_behind l0 k0 new collect empty more (asks_goes limits.max_frame first l0 k0 (asks_made seat.mine) s.going (seat_ask 0 collect empty) refl refl) refl refl place zeroth collects

    pub halts_at_collect : (new : HallSeat) → AddsAsk seat new collect is_closed → IsSeatOf booth new → new.number ≡ 0 → IsHalted desk limits booth first l0 k0 new own JournalFault
    halts_at_collect new more place zeroth =
        halts_behind k0 new collect more
        (s.going.loop, asks_woven limits.max_frame first l0 k0 (asks_made seat.mine) s.going.loop (seat_ask 0 collect is_closed) refl s.going.so_far) refl place zeroth

    module _ (new : HallSeat) (key : Key) (settled : Settled) (more : AddsAsk seat new collect (outcome key settled)) (collects : CollectsItsOwn (asks_made new.mine)) where
      -- the outcome that was collected
      own_behind : CollectsItsOwn (collected_behind (asks_made seat.mine) key settled)
      own_behind = subst (λ (l : List ServedAsk). CollectsItsOwn l) (asks_more seat new collect (outcome key settled) s.zeroth more) collects

      pub is_collected : (max : ℕ) × (max ≤ longest_payload) × IsCollected max l0 k0 key settled
      is_collected = (limits.max_frame, s.small, (first, asks_made seat.mine, s.going, own_behind))

      pub serves_settled : (l1 : LinksState) (k1 : LoopConnections) → ((max : ℕ) → max ≤ longest_payload → GoesOnSettled max l0 k0 l1 k1 key settled) → k1.table.budget ≡ k0.table.budget
          → IsSeatOf booth new → new.number ≡ 0 → IsServing desk limits booth first l1 k1 new own
      serves_settled l1 k1 settles budget place zeroth =
          serves_behind l1 k1 new collect (outcome key settled) more (settles limits.max_frame s.small first (asks_made seat.mine) s.going own_behind) refl budget place zeroth collects

    -- a payload that was handed out
    module _ (k1 : LoopConnections) (key : Key) (payload : List ℕ) (given : AllHandOut k0 k1 key payload) (budget : k1.table.budget ≡ k0.table.budget) where
      hands : IsHandedOut limits.max_frame l0 k1 key payload first (asks_made seat.mine)
      hands = given limits.max_frame s.small first l0 (asks_made seat.mine) s.going

      -- the loop may submit it
      pub may_submit_here : (opening : HallState PlainCall PlainAnswer ServiceState) → OwnAsksAllow handler_rules opening seat.number (asks_made seat.mine) (submit key payload)
      may_submit_here opening =
          subst (λ (n : ℕ). OwnAsksAllow handler_rules opening n (asks_made seat.mine) (submit key payload)) (sym s.zeroth) (hands.may s.collects opening)

      module _ (new : HallSeat) (took : Bool) (more : SubmitsJob seat new key payload took) (place : IsSeatOf booth new) (zeroth : new.number ≡ 0) where
        pub serves_taken : took ≡ true → CollectsItsOwn (asks_made new.mine) → IsServing desk limits booth first l0 k1 new own
        serves_taken is collects =
            serves_behind l0 k1 new (submit key payload) done (subst (SubmitsJob seat new key payload) is more) hands.taken refl budget place zeroth collects

        pub halts_refused : took ≡ false → IsHalted desk limits booth first l0 k1 new own JournalFault
        halts_refused is = halts_behind k1 new (submit key payload) (subst (SubmitsJob seat new key payload) is more) hands.refused budget place zeroth
