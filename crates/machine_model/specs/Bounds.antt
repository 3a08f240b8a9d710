-- What bounds a run: how many payloads the hall has, and which connections still wait for it.
use Rattle.std.specs.Prelude.{◌≡◌, ◌≢◌, ℕ, zero, suc, ◌+◌, ◌<◌, None, List, length}
use Rattle.host_model.specs.Journal.{ServiceRules}
use Rattle.host_model.specs.DeskRules.{DeskRules, Invoke}
use Rattle.machine_model.specs.Loop.{LoopConn, Loop}

-- a number of each of the first n connections, summed
abbrev pub sum_among : (LoopConn → ℕ) → (ℕ → LoopConn) → ℕ → ℕ
sum_among f conns zero = 0
sum_among f conns (suc n) = f (conns n) + sum_among f conns n

-- how many payloads were submitted
abbrev pub all_submitted : Loop → ℕ
all_submitted loop = sum_among (λ conn. conn.submitted) loop.conns loop.count

-- how many were collected
abbrev pub all_collected : Loop → ℕ
all_collected loop = sum_among (λ conn. conn.collected) loop.conns loop.count

-- no connection was given up while its last payload was under way
abbrev pub NoneIsLeftBehind : Loop → Type 0
NoneIsLeftBehind loop = (c : ℕ) → c < loop.count → (loop.conns c).cause ≢ None → (loop.conns c).collected ≡ length (loop.conns c).payloads

-- each call that payloads make is for one of so many services
abbrev pub HasItsService : {C A M : Type 0} → DeskRules C A → ServiceRules C A M → ℕ → Type 0
HasItsService {C} d r slots = (payload : List ℕ) (call : C) → d.decide payload ≡ Invoke call → r.slot call < slots
