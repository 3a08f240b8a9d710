-- What a script gives for its connections to move and to end, and a machine at which nothing can move.
use Rattle.std.specs.Prelude.{◌≡◌, ℕ, ◌<◌, ◌⊎◌, true, None, List, ◌∷◌, ◌++◌, length, get_or}
use Rattle.host_model.specs.Journal.{ServiceRules}
use Rattle.host_model.specs.DeskRules.{DeskRules}
use Rattle.script_model.specs.ScriptLines.{PlanLine, piece, turn_of_worker, PlanRule, takes_most, ScriptPlan, openings, ends_input, fails_input, some_line, rules_of}
use Rattle.script_model.specs.Playing.{MemoryAt, Play, conn_move, worker_move, collect_move}
use Rattle.script_model.specs.Rehearsing.{workers_among}

-- Nothing stops for good: each piece has a byte at least, and only bytes; each write that a rule bounds may take a byte; and a line moves only a worker that
-- there is.
pub record LetsAllMove (workers : ℕ) (script : ScriptPlan) : Type 0 where
  pub pieces : (above behind : List PlanLine) (c : ℕ) (bytes : List ℕ) → script.lines ≡ above ++ piece c bytes ∷ behind → (0 < length bytes) × ((i : ℕ) → get_or bytes i 0 < 256)
  pub writes : (c count : ℕ) (above behind : List PlanRule) → rules_of c script ≡ above ++ takes_most count ∷ behind → 0 < count
  pub turns : (above behind : List PlanLine) (w : ℕ) → script.lines ≡ above ++ turn_of_worker w ∷ behind → w < workers_among workers

-- and besides, each connection's input ends or fails
pub record LetsAllEnd (workers : ℕ) (script : ScriptPlan) : Type 0 where
  pub moves : LetsAllMove workers script
  pub inputs : (c : ℕ) → c < openings script.lines → (some_line (ends_input c) script.lines ≡ true) ⊎ (some_line (fails_input c) script.lines ≡ true)

-- nothing can move: no connection, no worker, and no outcome is collected
pub record IsStill {C A M : Type 0} (d : DeskRules C A) (r : ServiceRules C A M) (memory : ℕ → MemoryAt) (budget workers : ℕ) (play : Play C A M) : Type 0 where
  pub each_conn : (c : ℕ) → c < play.cell.loop.count → conn_move d r memory budget c play ≡ None
  pub each_worker : (w : ℕ) → w < workers_among workers → worker_move d r memory w play ≡ None
  pub collected : collect_move d r play ≡ None
