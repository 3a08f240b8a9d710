-- Reading one message as its bytes come.
use Rattle.std.specs.Prelude.{ℕ, List, [], ◌∷◌}
use Rattle.stream_model.specs.declared.outcome.MessageProgress.{MessageProgress}
use Rattle.stream_model.specs.declared.outcome.MessageProgress.TheVariants.{Wants, Whole, Refused}
use Rattle.stream_model.specs.Progress.{message_progress}

-- a message of at most so many bytes: those that came, and for how many further ones there is room
pub record MessageRead : Type 0 where
  pub most : ℕ
  pub bytes : List ℕ
  pub room : ℕ

-- how many bytes are missing of the item under way
abbrev pub count_missing : MessageProgress → ℕ
count_missing (Wants count) = count
count_missing (Whole _) = 0
count_missing (Refused _ _) = 0

-- the same of these bytes; of none the four of a message's first number are, also where no message may have as many
abbrev pub bytes_missing : ℕ → List ℕ → ℕ
bytes_missing most [] = 4
bytes_missing most (byte ∷ bytes) = count_missing (message_progress most (byte ∷ bytes))
