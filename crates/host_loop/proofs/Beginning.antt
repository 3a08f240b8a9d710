-- The loop as it begins: nothing has happened on its links, and no seat has made a call.
use Rattle.std.proofs.Common.{◌≡◌, ◌≤◌, Option, None, Some, IfSome, List, [], ◌∷◌, ◌++◌, length, refl, sym, ap, subst, arith}
use Rattle.std.specs.List.{AllByRecursion}
use Rattle.std.proofs.lemmas.Option.{none-some}
use Rattle.streams.specs.declared.marks.Mark.{Mark}
use Rattle.outside.specs.LinksState.{LinksState}
use Rattle.outside.specs.Opening.{AreFreshLinks}
use Rattle.host_model.proofs.Lists.{nil-cons}
use Rattle.conn_table.specs.declared.run_limits.Limits.{Limits}
use Rattle.conn_table.specs.Slots.{slot_in}
use Rattle.conn_table.specs.Table.{TableView}
use Rattle.call_history.specs.Calls.{seat_ask}
use Rattle.call_rules.specs.PlainCalls.{PlainCall, PlainAnswer}
use Rattle.call_rules.specs.Desks.{DeskMeaning}
use Rattle.machine_model.specs.HallRule.{collect, outcome}
use Rattle.machine_model.specs.SeenHall.{MayHave}
use Rattle.machine_model.specs.OwnLoop.{CollectsItsOwn}
use Rattle.machine_model.specs.Merge.{no_loop}
use Rattle.machine_model.proofs.Budgeting.{nothing_keeps}
use Rattle.seat_booth.specs.Seats.{BoothView, newcomer}
use Rattle.hall_core.specs.Meant.{ServedHall}
use Rattle.hall_pool.specs.Jobs.{HallSeat, IsOpenedFor}
use Rattle.hall_pool.proofs.Adding.{at_work_first}
use Rattle.loop_conns.specs.declared.connections.LoopConnections.{LoopConnections}
use Rattle.loop_conns.specs.Tied.{IsOrderly, AreTied}
use Rattle.loop_conns.specs.Woven.{ServedAsk, WeavesLent, IsPassedAtRest, LoopIsRunning}
use Rattle.loop_conns.specs.Going.{longest_payload}
use Rattle.host_loop.specs.Going.{IsServing}

-- a tape without marks may be that of no loop
no_marks : (o : Option (List Mark)) → IfSome o (λ marks. marks ≡ []) → MayHave o []
no_marks None h = tt
no_marks (Some marks) h = h

-- what there is none of
none_of : {X : Type 0} (o : Option (List X)) (P : List X → Type 0) → P [] → IfSome o (λ xs. xs ≡ []) → IfSome o P
none_of None P p h = tt
none_of (Some xs) P p h = subst P (sym h) p

none_collected : CollectsItsOwn {C = PlainCall} {A = PlainAnswer} []
none_collected front back seat key settled is = absurd (go front is)
  where
    go : (front : List ServedAsk) → [] ≡ front ++ seat_ask seat collect (outcome key settled) ∷ back → ⊥
    go [] e = nil-cons (seat_ask seat collect (outcome key settled)) back e
    go (x ∷ xs) e = nil-cons x (xs ++ seat_ask seat collect (outcome key settled) ∷ back) e

module _ (limits : Limits) (small : limits.max_frame ≤ longest_payload) (first : LinksState) (fresh : AreFreshLinks first) (kept : LoopConnections)
    (table : kept.table ≡ record { budget = limits.read_budget; slots = [] }) (stages : kept.stages.items ≡ []) (causes : kept.causes.items ≡ []) (owing : kept.owing ≡ 0) where
  tied : AreTied first first kept no_loop
  tied =
      record {
        tape = no_marks first.tape fresh.tape;
        count = sym (ap length causes);
        stages = sym (ap length stages);
        opened = fresh.opened;
        each = λ c l. absurd (omega arith);
        unopened = λ c l. (ap (λ (t : TableView). slot_in c t.slots) table, fresh.none_open c);
        numbered = omega arith;
        orderly = subst IsOrderly (sym table) (record { rising = tt; few = omega arith; within = omega arith });
        listens = refl;
        faults = λ c. omega arith;
        net_faults = omega arith;
      }

  goes_at_first : LoopIsRunning limits.max_frame first first kept []
  goes_at_first =
      record {
        loop = no_loop;
        so_far =
            record {
              weave = [];
              woven = refl;
              asked = refl;
              tied = tied;
              within = nothing_keeps limits.max_frame (omega arith) kept.table.budget;
              lengths = none_of first.lengths (λ lengths. WeavesLent limits.max_frame no_loop [] lengths no_loop) (refl, refl) fresh.lengths;
              rests = none_of first.rests (AllByRecursion (IsPassedAtRest limits.max_frame kept.table.budget [] no_loop)) tt fresh.rests;
            };
        phases = λ c l going. absurd (omega arith);
        none_left = λ c l over. absurd (omega arith);
        none_stopped = λ c is. none-some _ is;
        taken = refl;
        owing = owing;
        quiet = refl;
      }

  pub serves_at_first : (desk : DeskMeaning) (booth : BoothView ServedHall) (seat own : HallSeat) → IsOpenedFor desk booth → seat ≡ newcomer booth 0 → own ≡ newcomer booth 1
      → IsServing desk limits booth first first kept seat own
  serves_at_first desk booth seat own opened zeroth oneth =
      subst (λ (p : HallSeat × HallSeat). IsServing desk limits booth first first kept p.0 p.1) (λ i. (sym zeroth i, sym oneth i))
      (record {
        small = small;
        opened = opened;
        going = goes_at_first;
        collects = none_collected;
        not_closed = refl;
        budget = ap (λ (t : TableView). t.budget) table;
        place = record { booth = refl; opening = refl };
        zeroth = refl;
        own_place = record { booth = refl; opening = refl };
        own_turns = at_work_first desk;
      })
