-- What loops over moves come to: one step and then what is left, and the end.
use Rattle.std.proofs.Common.{◌≡◌, ℕ, zero, suc, ◌+◌, ◌-◌, ◌<◌, ◌≤◌, ◌==◌, true, false, if◌then◌else◌, Option, None, Some, List, [], ◌++◌, length, slice_index_or, refl, sym, ap, ◌∙◌, subst, arith}
use Rattle.std.specs.Prelude.{option_and_then}
use Rattle.std.proofs.lemmas.Bool.{eq-eqb, ne_eqb}
use Rattle.call_rules.specs.Handling.{handler_rules}
use Rattle.script_model.specs.ScriptLines.{count_up}
use Rattle.script_model.specs.Playing.{MemoryAt, ample, conn_move, collect_move}
use Rattle.script_model.specs.Rehearsing.{workers_among, until_still, goes_on_with, is_idle, work_through, drain}
use Rattle.script_model.proofs.Stilling.{still_pass}
use Rattle.script_model.proofs.Spending.{IsLess, Lessened, conn_less, worker_less, collect_less}
use Rattle.cell_loop.specs.Settings.{CellSetting, ServedPlay, desk_of_setting}
use Rattle.cell_loop.specs.Moving.{IsSoFrom, memory_of, Doing, ComesTo, followed_by, HasNoMove, one_of_conn, one_of_worker, one_of_outcome, all_of_conn, all_of_conns, all_of_worker, all_of_workers, all_of_outcomes, one_pass, all_passes}
use Rattle.cell_loop.proofs.Arriving.{came_so}
use Rattle.cell_loop.proofs.Composing.{so_by, so_parts, both_counted, then_comes}

-- memory as it was is so at its own moves
pub so_at_first : (memories : List MemoryAt) → IsSoFrom (memory_of memories) 0 memories
so_at_first memories = so_by (memory_of memories) memories 0 (λ i l. let same : i + 0 ≡ i = omega arith in ap (λ k. slice_index_or memories k ample) same)

-- One thing is done and then another, and a third does both: with fuel for one step more.
pub comes_by : (f g h : Doing) (old mid new : ServedPlay) (one : ComesTo f old mid) (two : ComesTo g mid new)
    → ((passes enough : ℕ) (memory : ℕ → MemoryAt) → one.fuel + suc two.fuel ≤ passes → one.fuel + suc two.fuel ≤ enough → f passes enough memory old ≡ Some mid
    → ((n m : ℕ) → two.fuel ≤ n → two.fuel ≤ m → g n m memory mid ≡ Some new) → h passes enough memory old ≡ Some new)
    → ComesTo h old new
comes_by f g h old mid new one two does =
    let all : length (one.memories ++ two.memories) ≡ length two.memories + length one.memories = both_counted one.memories two.memories in
    let first : mid.moves ≡ length one.memories + old.moves = one.counted in
    let second : new.moves ≡ length two.memories + mid.moves = two.counted in
    let counted : new.moves ≡ length (one.memories ++ two.memories) + old.moves = omega arith in
    record {
      memories = one.memories ++ two.memories;
      counted = counted;
      fuel = one.fuel + suc two.fuel;
      leads = λ passes enough memory p e so.
          let parts : IsSoFrom memory old.moves one.memories × IsSoFrom memory (length one.memories + old.moves) two.memories =
          so_parts memory one.memories two.memories old.moves so in
          does passes enough memory p e (one.leads passes enough memory (omega arith) (omega arith) parts.0)
          (λ n m k l. two.leads n m memory k l (subst (λ x. IsSoFrom memory x two.memories) (sym first) parts.1));
    }

-- one thing is done, and another does the same, with fuel for one step more
pub comes_as : (f h : Doing) (old new : ServedPlay) (one : ComesTo f old new)
    → ((passes enough : ℕ) (memory : ℕ → MemoryAt) → suc one.fuel ≤ passes → suc one.fuel ≤ enough → f passes enough memory old ≡ Some new → h passes enough memory old ≡ Some new)
    → ComesTo h old new
comes_as f h old new one does =
    record {
      memories = one.memories;
      counted = one.counted;
      fuel = suc one.fuel;
      leads = λ passes enough memory p e so. does passes enough memory p e (one.leads passes enough memory (omega arith) (omega arith) so);
    }

-- where there is no move, another thing leaves all as it was
pub none_comes : (f h : Doing) (old : ServedPlay) → HasNoMove f old → ((passes enough : ℕ) (memory : ℕ → MemoryAt) → f passes enough memory old ≡ None → h passes enough memory old ≡ Some old)
    → ComesTo h old old
none_comes f h old none does =
    record { memories = []; counted = omega arith; fuel = 0; leads = λ passes enough memory p e so. does passes enough memory (none passes enough memory) }

-- nothing is done
pub stays_so : (h : Doing) (old : ServedPlay) → ((passes enough : ℕ) (memory : ℕ → MemoryAt) → h passes enough memory old ≡ Some old) → ComesTo h old old
stays_so h old does = record { memories = []; counted = omega arith; fuel = 0; leads = λ passes enough memory p e so. does passes enough memory }

-- what holds of each number above one holds of one that is large
above : (P : ℕ → Type 0) (a b n : ℕ) → a + suc b ≤ n → ((m : ℕ) → b ≤ m → P (suc m)) → P n
above P a b zero l f = absurd (let k : ⊥ = omega arith in k)
above P a b (suc n) l f = f n (omega arith)

-- a move, and then until there is none
still_step : {X : Type 0} (move : X → Option X) (n : ℕ) (old mid new : X) → move old ≡ Some mid → until_still n move mid ≡ Some new → until_still (suc n) move old ≡ Some new
still_step move n old mid new e f = ap (λ o. goes_on_with old o (λ next. until_still n move next)) e ∙ f

still_end : {X : Type 0} (move : X → Option X) (n : ℕ) (old : X) → move old ≡ None → until_still n move old ≡ Some old
still_end move zero old e = ap (λ o. goes_on_with old o (λ next. None)) e
still_end move (suc n) old e = ap (λ o. goes_on_with old o (λ next. until_still n move next)) e

pub conn_goes_on : (s : CellSetting) (c : ℕ) (old mid new : ServedPlay) → ComesTo (one_of_conn s c) old mid → ComesTo (all_of_conn s c) mid new → ComesTo (all_of_conn s c) old new
conn_goes_on s c old mid new one two =
    comes_by (one_of_conn s c) (all_of_conn s c) (all_of_conn s c) old mid new one two
    (λ passes enough memory p e first second.
    above (λ n. until_still n (conn_move (desk_of_setting s) handler_rules memory s.budget c) old ≡ Some new) one.fuel two.fuel enough e
    (λ m l. still_step (conn_move (desk_of_setting s) handler_rules memory s.budget c) m old mid new first (second m m l l)))

pub conn_ends : (s : CellSetting) (c : ℕ) (old : ServedPlay) → HasNoMove (one_of_conn s c) old → ComesTo (all_of_conn s c) old old
conn_ends s c old none =
    none_comes (one_of_conn s c) (all_of_conn s c) old none (λ passes enough memory e. still_end (conn_move (desk_of_setting s) handler_rules memory s.budget c) enough old e)

pub outcomes_go_on : (s : CellSetting) (old mid new : ServedPlay) → ComesTo (one_of_outcome s) old mid → ComesTo (all_of_outcomes s) mid new → ComesTo (all_of_outcomes s) old new
outcomes_go_on s old mid new one two =
    comes_by (one_of_outcome s) (all_of_outcomes s) (all_of_outcomes s) old mid new one two
    (λ passes enough memory p e first second.
    above (λ n. until_still n (collect_move (desk_of_setting s) handler_rules) old ≡ Some new) one.fuel two.fuel enough e
    (λ m l. still_step (collect_move (desk_of_setting s) handler_rules) m old mid new first (second m m l l)))

pub outcomes_end : (s : CellSetting) (old : ServedPlay) → HasNoMove (one_of_outcome s) old → ComesTo (all_of_outcomes s) old old
outcomes_end s old none =
    none_comes (one_of_outcome s) (all_of_outcomes s) old none (λ passes enough memory e. still_end (collect_move (desk_of_setting s) handler_rules) enough old e)

-- a worker's move that leaves it with a job, and then what is left of its moves
pub worker_goes_on : (s : CellSetting) (n w : ℕ) (old mid new : ServedPlay) → is_idle (mid.cell.workers w) ≡ false → ComesTo (one_of_worker s w) old mid → ComesTo (all_of_worker s n w) mid new
    → ComesTo (all_of_worker s (suc n) w) old new
worker_goes_on s n w old mid new busy one two =
    comes_by (one_of_worker s w) (all_of_worker s n w) (all_of_worker s (suc n) w) old mid new one two
    (λ passes enough memory p e first second.
    ap (λ o. goes_on_with old o (λ next. if is_idle (next.cell.workers w) then Some next else work_through (desk_of_setting s) handler_rules memory n w next)) first
    ∙ ap (λ b. if b then Some mid else work_through (desk_of_setting s) handler_rules memory n w mid) busy ∙ second passes enough (omega arith) (omega arith))

-- one that leaves it with none
pub worker_puts : (s : CellSetting) (n w : ℕ) (old new : ServedPlay) → is_idle (new.cell.workers w) ≡ true → ComesTo (one_of_worker s w) old new → ComesTo (all_of_worker s (suc n) w) old new
worker_puts s n w old new idle_ one =
    comes_as (one_of_worker s w) (all_of_worker s (suc n) w) old new one
    (λ passes enough memory p e first.
    ap (λ o. goes_on_with old o (λ next. if is_idle (next.cell.workers w) then Some next else work_through (desk_of_setting s) handler_rules memory n w next)) first
    ∙ ap (λ b. if b then Some new else work_through (desk_of_setting s) handler_rules memory n w new) idle_)

pub worker_ends : (s : CellSetting) (n w : ℕ) (old : ServedPlay) → HasNoMove (one_of_worker s w) old → ComesTo (all_of_worker s (suc n) w) old old
worker_ends s n w old none =
    none_comes (one_of_worker s w) (all_of_worker s (suc n) w) old none
    (λ passes enough memory e. ap (λ o. goes_on_with old o (λ next. if is_idle (next.cell.workers w) then Some next else work_through (desk_of_setting s) handler_rules memory n w next)) e)

pub worker_stops : (s : CellSetting) (w : ℕ) (old : ServedPlay) → ComesTo (all_of_worker s 0 w) old old
worker_stops s w old = stays_so (all_of_worker s 0 w) old (λ passes enough memory. refl)

-- the connections, the workers and the outcomes are a pass
pub pass_is : (s : CellSetting) (n m : ℕ) (old new : ServedPlay) → old.cell.loop.count ≡ n → workers_among s.workers ≡ m
    → ComesTo (followed_by (followed_by (all_of_conns s (count_up 0 n)) (all_of_workers s (count_up 0 m))) (all_of_outcomes s)) old new → ComesTo (one_pass s) old new
pass_is s n m old new count workers done =
    comes_as (followed_by (followed_by (all_of_conns s (count_up 0 n)) (all_of_workers s (count_up 0 m))) (all_of_outcomes s)) (one_pass s) old new done
    (λ passes enough memory p e first.
    ap (λ k. followed_by (followed_by (all_of_conns s (count_up 0 k)) (all_of_workers s (count_up 0 (workers_among s.workers)))) (all_of_outcomes s) passes enough memory old) count
    ∙ ap (λ k. followed_by (followed_by (all_of_conns s (count_up 0 n)) (all_of_workers s (count_up 0 k))) (all_of_outcomes s) passes enough memory old) workers ∙ first)

-- a pass that moves something, and then what is left
pub passes_go_on : (s : CellSetting) (old mid new : ServedPlay) → old.moves < mid.moves → ComesTo (one_pass s) old mid → ComesTo (all_passes s) mid new → ComesTo (all_passes s) old new
passes_go_on s old mid new more one two =
    comes_by (one_pass s) (all_passes s) (all_passes s) old mid new one two
    (λ passes enough memory p e first second.
    above (λ n. drain (desk_of_setting s) handler_rules memory n enough s.budget s.workers old ≡ Some new) one.fuel two.fuel passes p
    (λ n l. ap (option_and_then (λ next. if next.moves == old.moves then Some old else drain (desk_of_setting s) handler_rules memory n enough s.budget s.workers next)) first
    ∙ ap (λ b. if b then Some old else drain (desk_of_setting s) handler_rules memory n enough s.budget s.workers mid) (ne_eqb mid.moves old.moves (λ same. let f : ⊥ = omega arith in f))
    ∙ second n enough l (omega arith)))

-- a pass that moves nothing is the last one
pub passes_end : (s : CellSetting) (old new : ServedPlay) → new.moves ≡ old.moves → ComesTo (one_pass s) old new → ComesTo (all_passes s) old new
passes_end s old new none one =
    comes_as (one_pass s) (all_passes s) old new one
    (λ passes enough memory p e first.
    let same : old ≡ new = sym (still_pass (desk_of_setting s) handler_rules memory enough s.budget s.workers old new first none).0 in
    above (λ n. drain (desk_of_setting s) handler_rules memory n enough s.budget s.workers old ≡ Some new) one.fuel 0 passes (omega arith)
    (λ n l. ap (option_and_then (λ next. if next.moves == old.moves then Some old else drain (desk_of_setting s) handler_rules memory n enough s.budget s.workers next)) first
    ∙ ap (λ b. if b then Some old else drain (desk_of_setting s) handler_rules memory n enough s.budget s.workers new) (eq-eqb new.moves old.moves none) ∙ ap Some same))

-- each move counts one
pub conn_counts : (s : CellSetting) (c : ℕ) (old new : ServedPlay) → old.cell.hall.closed ≡ false → ComesTo (one_of_conn s c) old new → new.moves ≡ suc old.moves
conn_counts s c old new unclosed one =
    let at : (memory : ℕ → MemoryAt) × (n : ℕ) × (one_of_conn s c n n memory old ≡ Some new) = came_so (one_of_conn s c) old new one in
    let less : IsLess 0 old new =
    subst (λ o. Lessened (desk_of_setting s) handler_rules at.0 0 old o) at.2 (conn_less (desk_of_setting s) handler_rules at.0 0 s.budget c old unclosed) in
    less.moves

pub worker_counts : (s : CellSetting) (w : ℕ) (old new : ServedPlay) → old.cell.hall.closed ≡ false → ComesTo (one_of_worker s w) old new → new.moves ≡ suc old.moves
worker_counts s w old new unclosed one =
    let at : (memory : ℕ → MemoryAt) × (n : ℕ) × (one_of_worker s w n n memory old ≡ Some new) = came_so (one_of_worker s w) old new one in
    let less : IsLess (suc w) old new =
    subst (λ o. Lessened (desk_of_setting s) handler_rules at.0 (suc w) old o) at.2 (worker_less (desk_of_setting s) handler_rules at.0 (suc w) w old (omega arith) unclosed) in
    less.moves

pub outcome_counts : (s : CellSetting) (old new : ServedPlay) → old.cell.hall.closed ≡ false → ComesTo (one_of_outcome s) old new → new.moves ≡ suc old.moves
outcome_counts s old new unclosed one =
    let at : (memory : ℕ → MemoryAt) × (n : ℕ) × (one_of_outcome s n n memory old ≡ Some new) = came_so (one_of_outcome s) old new one in
    let less : IsLess 0 old new =
    subst (λ o. Lessened (desk_of_setting s) handler_rules at.0 0 old o) at.2 (collect_less (desk_of_setting s) handler_rules at.0 0 old unclosed) in
    less.moves

-- the next connection, and then those behind it
pub conns_step : (s : CellSetting) (n c : ℕ) → c < n → (old mid new : ServedPlay) → ComesTo (all_of_conn s c) old mid → ComesTo (all_of_conns s (count_up (c + 1) (n - (c + 1)))) mid new
    → ComesTo (all_of_conns s (count_up c (n - c))) old new
conns_step s n c below old mid new one two =
    let next : c + 1 ≡ suc c = omega arith in
    let one_more : suc (n - suc c) ≡ n - c = omega arith in
    let rest : ComesTo (all_of_conns s (count_up (suc c) (n - suc c))) mid new = subst (λ k. ComesTo (all_of_conns s (count_up k (n - k))) mid new) next two in
    subst (λ k. ComesTo (all_of_conns s (count_up c k)) old new) one_more
    (then_comes (all_of_conn s c) (all_of_conns s (count_up (suc c) (n - suc c))) old mid new one rest)

pub conns_end : (s : CellSetting) (n c : ℕ) → n ≤ c → (old : ServedPlay) → ComesTo (all_of_conns s (count_up c (n - c))) old old
conns_end s n c over old =
    let none : 0 ≡ n - c = omega arith in
    subst (λ k. ComesTo (all_of_conns s (count_up c k)) old old) none (stays_so (all_of_conns s []) old (λ passes enough memory. refl))

-- the next worker, and then those behind it
pub workers_step : (s : CellSetting) (n w : ℕ) → w < n → (old mid new : ServedPlay) → ComesTo (all_of_worker s 3 w) old mid → ComesTo (all_of_workers s (count_up (w + 1) (n - (w + 1)))) mid new
    → ComesTo (all_of_workers s (count_up w (n - w))) old new
workers_step s n w below old mid new one two =
    let next : w + 1 ≡ suc w = omega arith in
    let one_more : suc (n - suc w) ≡ n - w = omega arith in
    let rest : ComesTo (all_of_workers s (count_up (suc w) (n - suc w))) mid new = subst (λ k. ComesTo (all_of_workers s (count_up k (n - k))) mid new) next two in
    subst (λ k. ComesTo (all_of_workers s (count_up w k)) old new) one_more
    (then_comes (all_of_worker s 3 w) (all_of_workers s (count_up (suc w) (n - suc w))) old mid new one rest)

pub workers_end : (s : CellSetting) (n w : ℕ) → n ≤ w → (old : ServedPlay) → ComesTo (all_of_workers s (count_up w (n - w))) old old
workers_end s n w over old =
    let none : 0 ≡ n - w = omega arith in
    subst (λ k. ComesTo (all_of_workers s (count_up w k)) old old) none (stays_so (all_of_workers s []) old (λ passes enough memory. refl))
