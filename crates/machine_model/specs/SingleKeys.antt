-- How often a key was submitted, and its outcome collected.
use Rattle.std.specs.Prelude.{ℕ, if◌then◌else◌}
use Rattle.host_model.specs.declared.key.Key.{Key}
use Rattle.machine_model.specs.HallState.{is_same}
use Rattle.machine_model.specs.HallRule.{HallOperation, submit, collect, HallAnswer, done, outcome}

-- one, where the job of this key was submitted
abbrev pub adds_this_key : {C A : Type 0} → Key → HallOperation C → HallAnswer A → ℕ
adds_this_key key (submit k payload) done = if is_same k key then 1 else 0
adds_this_key key _ _ = 0

-- one, where the outcome of this key was collected
abbrev pub frees_this_key : {C A : Type 0} → Key → HallOperation C → HallAnswer A → ℕ
frees_this_key key collect (outcome k settled) = if is_same k key then 1 else 0
frees_this_key key _ _ = 0
