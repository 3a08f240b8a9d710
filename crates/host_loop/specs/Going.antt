-- What holds of a loop while it serves, and what is known of it where it has halted.
use Rattle.std.specs.Prelude.{◌≡◌, ◌≤◌, ◌⊎◌, Bool, true, false, Result, MatchResult, ℕ, []}
use Rattle.streams.specs.Cause.{Rose}
use Rattle.outside.specs.LinksState.{LinksState}
use Rattle.conn_table.specs.declared.run_limits.Limits.{Limits}
use Rattle.conn_table.specs.declared.run_limits.Outcome.{Outcome}
use Rattle.conn_table.specs.declared.run_limits.Outcome.TheVariants.{All, NetFault, JournalFault, NoMemory}
use Rattle.call_rules.specs.Desks.{DeskMeaning, desk_rules}
use Rattle.machine_model.specs.Merge.{OfTurns}
use Rattle.machine_model.specs.OwnCalls.{any_of}
use Rattle.machine_model.specs.OwnLoop.{CollectsItsOwn}
use Rattle.machine_model.specs.Trouble.{is_close, any_fault_told}
use Rattle.seat_booth.specs.Seats.{BoothView, IsSeatOf}
use Rattle.hall_core.specs.declared.operation.HallOp.{HallOp}
use Rattle.hall_core.specs.declared.operation.HallReply.{HallReply}
use Rattle.hall_core.specs.Meant.{ServedHall}
use Rattle.hall_pool.specs.Turns.{asks_made, HasMadeTurns}
use Rattle.hall_pool.specs.Jobs.{HallSeat, IsOpenedFor}
use Rattle.hall_pool.specs.declared.workplace.Workplace.{Workplace}
use Rattle.loop_conns.specs.declared.connections.LoopConnections.{LoopConnections}
use Rattle.loop_conns.specs.Woven.{HasWoven, LoopIsRunning}
use Rattle.loop_conns.specs.Going.{longest_payload, AreAllGone}
use Rattle.host_loop.specs.Ending.{FindsItClosed}
use Rattle.host_loop.specs.declared.opening.Tools.{Tools}
use Rattle.host_loop.specs.declared.holdings.Run.{Run}
use Rattle.host_loop.specs.declared.holdings.Serving.{Serving}

-- tools with which nothing was done yet: no connection is known
pub record AreNewTools {B : Type 0} (budget : ℕ) (tools : Tools B) : Type 0 where
  pub table : tools.conns.table ≡ record { budget = budget; slots = [] }
  pub stages : tools.conns.stages.items ≡ []
  pub causes : tools.conns.causes.items ≡ []
  pub owing : tools.conns.owing ≡ 0

-- The loop serves, over links that were so when they came in: what it did is a part of a run, with its seat's calls, which are number 0's and have not closed the hall; and
-- its own worker has made whole turns.
pub record IsServing (desk : DeskMeaning) (limits : Limits) (booth : BoothView ServedHall) (first links : LinksState) (kept : LoopConnections) (loop_seat own_seat : HallSeat) : Type 0 where
  pub small : limits.max_frame ≤ longest_payload
  pub opened : IsOpenedFor desk booth
  pub going : LoopIsRunning limits.max_frame first links kept (asks_made loop_seat.mine)
  pub collects : CollectsItsOwn (asks_made loop_seat.mine)
  pub not_closed : any_of is_close (asks_made loop_seat.mine) ≡ false
  pub budget : kept.table.budget ≡ limits.read_budget
  pub place : IsSeatOf booth loop_seat
  pub zeroth : loop_seat.number ≡ 0
  pub own_place : IsSeatOf booth own_seat
  pub own_turns : HasMadeTurns desk own_seat.mine

-- all is over
abbrev pub is_all : Outcome → Bool
is_all All = true
is_all _ = false

-- Why it has halted: all is over; the links failed; it found the hall closed, or its own worker was told that the journal failed; or memory ran out.
abbrev pub HaltTells : Limits → LinksState → LinksState → LoopConnections → HallSeat → HallSeat → Outcome → Type 0
HaltTells limits first links kept loop_seat own_seat All =
    (links.over ≡ true) × AreAllGone kept × LoopIsRunning limits.max_frame first links kept (asks_made loop_seat.mine)
HaltTells limits first links kept loop_seat own_seat NetFault = Rose first.net_faults links.net_faults
HaltTells limits first links kept loop_seat own_seat JournalFault = FindsItClosed (asks_made loop_seat.mine) ⊎ (any_fault_told (asks_made own_seat.mine) ≡ true)
HaltTells limits first links kept loop_seat own_seat NoMemory = Unit {0}

-- The loop has halted: what it did is a part of a run, and its own worker has made turns.
pub record IsHalted (desk : DeskMeaning) (limits : Limits) (booth : BoothView ServedHall) (first links : LinksState) (kept : LoopConnections) (loop_seat own_seat : HallSeat) (outcome : Outcome) : Type 0 where
  pub small : limits.max_frame ≤ longest_payload
  pub opened : IsOpenedFor desk booth
  pub woven : HasWoven limits.max_frame first links kept (asks_made loop_seat.mine)
  pub budget : kept.table.budget ≡ limits.read_budget
  pub place : IsSeatOf booth loop_seat
  pub zeroth : loop_seat.number ≡ 0
  pub own_place : IsSeatOf booth own_seat
  pub own_served : OfTurns (desk_rules desk) (asks_made own_seat.mine)
  pub why : HaltTells limits first links kept loop_seat own_seat outcome

-- The loop has ended: it has halted, and no connection is open.
pub record IsAtEnd (desk : DeskMeaning) (limits : Limits) (booth : BoothView ServedHall) (first links : LinksState) (kept : LoopConnections) (loop_seat own_seat : HallSeat) (outcome : Outcome) : Type 0 where
  pub halted : IsHalted desk limits booth first links kept loop_seat own_seat outcome
  pub gone : AreAllGone kept

-- a loop at a hall, of any handlers and any journal
abbrev pub HallLoop : Type 0 → Type 0
HallLoop O = Serving O HallOp HallReply ServedHall

-- what such a loop stands on: a desk, a gate, and links with their bell
abbrev pub HallRun : Type 0 → Type 0 → Type 0 → Type 0 → Type 0 → Type 0
HallRun O D G L B = Run O D G L HallOp HallReply ServedHall B

-- where workers of such a hall work: with a desk, a gate and a bell
abbrev pub HallPlace : Type 0 → Type 0 → Type 0 → Type 0 → Type 0
HallPlace O D G B = Workplace O D G B HallOp HallReply ServedHall

-- What a loop in memory stands on is seen by what a desk means, and what links have told.
module _ {O D G L B : Type 0} (meaning : D → DeskMeaning) (state : L → LinksState) where
  -- the loop serves over these links, with all that it stands on
  abbrev pub Serves : HallRun O D G L B → L → HallLoop O → Type 0
  Serves run links loop = IsServing (meaning run.desk.now) run.limits run.booth.now (state run.first.value) (state links) loop.conns loop.seat loop.own

  -- it has halted there, for this reason
  abbrev pub Halts : HallRun O D G L B → L → HallLoop O → Outcome → Type 0
  Halts run links loop why = IsHalted (meaning run.desk.now) run.limits run.booth.now (state run.first.value) (state links) loop.conns loop.seat loop.own why

  -- it serves over some links
  abbrev pub ServesSomewhere : HallRun O D G L B → HallLoop O → Type 0
  ServesSomewhere run loop = (links : L) × Serves run links loop

  -- Over whichever links it served, it serves on where this is Ok, and else it has halted, for the reason that is told.
  abbrev pub KeepsServing : {T : Type 0} → HallRun O D G L B → HallLoop O → HallLoop O → Result T Outcome → Type 0
  KeepsServing run old new result = (links : L) → Serves run links old → MatchResult result (λ _. Serves run links new) (λ why. Halts run links new why)

  -- it has ended there, for this reason
  abbrev pub EndsOver : HallRun O D G L B → L → HallLoop O → Outcome → Type 0
  EndsOver run links loop why = IsAtEnd (meaning run.desk.now) run.limits run.booth.now (state run.first.value) (state links) loop.conns loop.seat loop.own why

  -- the loop serves in this place, over links as they came in
  abbrev pub BeginsToServe : HallPlace O D G B → Limits → L → HallLoop O → Type 0
  BeginsToServe place limits links loop = IsServing (meaning place.desk.now) limits place.booth.now (state links) (state links) loop.conns loop.seat loop.own

  -- it has ended in this place, over links that came in so, for this reason
  abbrev pub EndsIn : HallPlace O D G B → Limits → L → L → HallLoop O → Outcome → Type 0
  EndsIn place limits first links loop why = IsAtEnd (meaning place.desk.now) limits place.booth.now (state first) (state links) loop.conns loop.seat loop.own why
