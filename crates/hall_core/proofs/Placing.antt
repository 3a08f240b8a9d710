-- The walk that looks for a key.
use Rattle.std.proofs.Common.{◌≡◌, ℕ, ◌<◌, true, List, ◌++◌, length, take, drop}
use Rattle.host_model.specs.declared.key.Key.{Key}
use Rattle.machine_model.specs.HallState.{has_key, without}

-- the key stands at this place or behind it, and not in front
pub record Looks (key : Key) (keys : List Key) (place : ℕ) : Type 0 where
  pub there : has_key key (drop place keys) ≡ true
  pub passed : without key keys ≡ take place keys ++ without key (drop place keys)
  pub within : place < length keys
