-- How the walk of the grammar is tied to the bytes that came.
use Rattle.std.specs.Prelude.{◌≡◌, ℕ, ◌+◌, ◌≤◌, ◌<◌, List, ◌++◌, length, drop}
use Rattle.stream_model.specs.Progress.{progress, message_progress}
use Rattle.stream_reader.specs.Stages.{Walked, stage_len, walk_plan}

-- The walk stands within the bytes; whatever follows, they go on by its plan from there; and of the item under way, which stays within the message,
-- some bytes are missing.
pub record IsTied (w : Walked) (bytes : List ℕ) : Type 0 where
  pub at : w.at ≤ length bytes
  pub plan : (more : List ℕ) → message_progress w.most (bytes ++ more) ≡ progress w.most w.at (walk_plan w) (drop w.at bytes ++ more)
  pub fits : w.at + stage_len w.stage ≤ w.most
  pub missing : 1 ≤ stage_len w.stage → length bytes < w.at + stage_len w.stage
