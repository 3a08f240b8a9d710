-- What each move of a play keeps, a pass over its connections, workers and outcomes keeps, and a run that is drained.
use Rattle.std.proofs.Common.{ℕ, zero, suc, Bool, true, false, ◌==◌, if◌then◌else◌, Option, None, Some, List, [], ◌∷◌, option_map}
use Rattle.std.specs.Prelude.{option_and_then}
use Rattle.host_model.specs.Journal.{ServiceRules}
use Rattle.host_model.specs.DeskRules.{DeskRules}
use Rattle.script_model.specs.ScriptLines.{count_up}
use Rattle.script_model.specs.Playing.{MemoryAt, Play, or_else, conn_move, worker_move, collect_move}
use Rattle.script_model.specs.Rehearsing.{workers_among, is_idle, left_by, goes_on_with, until_still, work_through, all_read, all_work, pass, drain}

module _ {X : Type 0} where
  -- where there is something, this holds of it
  abbrev pub Holds : (X → Type 0) → Option X → Type 0
  Holds P None = Unit {0}
  Holds P (Some x) = P x

  pub mapped : (P Q : X → Type 0) (f : X → X) (o : Option X) → ((x : X) → P x → Q (f x)) → Holds P o → Holds Q (option_map f o)
  mapped P Q f None on a = tt
  mapped P Q f (Some x) on a = on x a

  module _ (Kept : X → Type 0) where
    pub either : (b : Bool) (x y : Option X) → Holds Kept x → Holds Kept y → Holds Kept (if b then x else y)
    either true x y a b = a
    either false x y a b = b

    pub or_keeps : (x y : Option X) → Holds Kept x → Holds Kept y → Holds Kept (or_else x y)
    or_keeps None y a b = b
    or_keeps (Some x) y a b = a

    pub and_keeps : (f : X → Option X) (o : Option X) → Holds Kept o → ((x : X) → Kept x → Holds Kept (f x)) → Holds Kept (option_and_then f o)
    and_keeps f None a each = tt
    and_keeps f (Some x) a each = each x a

    pub goes_keeps : (x : X) (o : Option X) (again : X → Option X) → Kept x → Holds Kept o → ((next : X) → Kept next → Holds Kept (again next)) → Holds Kept (goes_on_with x o again)
    goes_keeps x None again k a each = k
    goes_keeps x (Some next) again k a each = each next a

    pub left_keeps : (x : X) (o : Option X) → Kept x → Holds Kept o → Kept (left_by x o)
    left_keeps x None k a = k
    left_keeps x (Some next) k a = a

    pub still_keeps : (n : ℕ) (move : X → Option X) → ((x : X) → Kept x → Holds Kept (move x)) → (x : X) → Kept x → Holds Kept (until_still n move x)
    still_keeps zero move each x k = goes_keeps x (move x) (λ next. None) k (each x k) (λ next a. tt)
    still_keeps (suc n) move each x k = goes_keeps x (move x) (λ next. until_still n move next) k (each x k) (λ next a. still_keeps n move each next a)

module _ {C A M : Type 0} (d : DeskRules C A) (r : ServiceRules C A M) (memory : ℕ → MemoryAt) (Kept : Play C A M → Type 0)
    (conn_keeps : (budget c : ℕ) (play : Play C A M) → Kept play → Holds Kept (conn_move d r memory budget c play))
    (worker_keeps : (w : ℕ) (play : Play C A M) → Kept play → Holds Kept (worker_move d r memory w play))
    (collect_keeps : (play : Play C A M) → Kept play → Holds Kept (collect_move d r play)) where
  through_keeps : (n w : ℕ) (play : Play C A M) → Kept play → Holds Kept (work_through d r memory n w play)
  through_keeps zero w play k = k
  through_keeps (suc n) w play k =
      goes_keeps Kept play (worker_move d r memory w play) (λ next. if is_idle (next.cell.workers w) then Some next else work_through d r memory n w next) k (worker_keeps w play k)
      (λ next a. either Kept (is_idle (next.cell.workers w)) (Some next) (work_through d r memory n w next) a (through_keeps n w next a))

  all_read_keeps : (fuel budget : ℕ) (cs : List ℕ) (play : Play C A M) → Kept play → Holds Kept (all_read d r memory fuel budget cs play)
  all_read_keeps fuel budget [] play k = k
  all_read_keeps fuel budget (c ∷ cs) play k =
      and_keeps Kept (λ next. all_read d r memory fuel budget cs next) (until_still fuel (conn_move d r memory budget c) play)
      (still_keeps Kept fuel (conn_move d r memory budget c) (conn_keeps budget c) play k) (λ next a. all_read_keeps fuel budget cs next a)

  all_work_keeps : (ws : List ℕ) (play : Play C A M) → Kept play → Holds Kept (all_work d r memory ws play)
  all_work_keeps [] play k = k
  all_work_keeps (w ∷ ws) play k =
      and_keeps Kept (λ next. all_work d r memory ws next) (work_through d r memory 3 w play) (through_keeps 3 w play k) (λ next a. all_work_keeps ws next a)

  pub pass_keeps : (fuel budget workers : ℕ) (play : Play C A M) → Kept play → Holds Kept (pass d r memory fuel budget workers play)
  pass_keeps fuel budget workers play k =
      and_keeps Kept (λ next. until_still fuel (collect_move d r) next)
      (option_and_then (λ next. all_work d r memory (count_up 0 (workers_among workers)) next) (all_read d r memory fuel budget (count_up 0 play.cell.loop.count) play))
      (and_keeps Kept (λ next. all_work d r memory (count_up 0 (workers_among workers)) next) (all_read d r memory fuel budget (count_up 0 play.cell.loop.count) play)
      (all_read_keeps fuel budget (count_up 0 play.cell.loop.count) play k) (λ next a. all_work_keeps (count_up 0 (workers_among workers)) next a))
      (λ next a. still_keeps Kept fuel (collect_move d r) collect_keeps next a)

  pub drain_keeps : (n fuel budget workers : ℕ) (play : Play C A M) → Kept play → Holds Kept (drain d r memory n fuel budget workers play)
  drain_keeps zero fuel budget workers play k = tt
  drain_keeps (suc n) fuel budget workers play k =
      and_keeps Kept (λ next. if next.moves == play.moves then Some play else drain d r memory n fuel budget workers next) (pass d r memory fuel budget workers play)
      (pass_keeps fuel budget workers play k)
      (λ next a. either Kept (next.moves == play.moves) (Some play) (drain d r memory n fuel budget workers next) k (drain_keeps n fuel budget workers next a))
