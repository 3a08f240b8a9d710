-- What a pipe is to those who use it: a connection that was dialled.
use Rattle.std.specs.Prelude.{◌≡◌, ℕ, Bool, ◌||◌, ◌&&◌, nat_eq, nat_lt, List, Option, None, Some, Result, MatchResult, length}
use Rattle.streams.specs.Cause.{HasCause}
use Rattle.streams.specs.Content.{HasRead, HasWritten}

-- the port; the bytes that were written, and those that were read; the bytes that reads will still give; whether a read has answered the end; and how
-- many reads and how many writes failed. Bytes and end may be untold.
pub record PipeState : Type 0 where
  pub port : ℕ
  pub written : Option (List ℕ)
  pub given : Option (List ℕ)
  pub left : Option (List ℕ)
  pub ended : Option Bool
  pub read_faults : ℕ
  pub write_faults : ℕ

-- a read that was lent so much and gave so much has answered the end
abbrev pub is_end : ℕ → ℕ → Bool
is_end lent count = nat_lt 0 lent && nat_eq count 0

-- the end was answered, before or now
abbrev pub told_end : Option Bool → Bool → Option Bool
told_end None now = None
told_end (Some before) now = Some (before || now)

-- What a read answers and leaves: what was written stays.
pub record Receives {E : Type 0} (into : List ℕ) (old new : PipeState) (result : Result ℕ E) : Type 0 where
  pub port : new.port ≡ old.port
  pub written : new.written ≡ old.written
  pub write_faults : new.write_faults ≡ old.write_faults
  pub moved : MatchResult result
      (λ count. HasRead old.given new.given old.left new.left into count × (new.ended ≡ told_end old.ended (is_end (length into) count)))
      (λ _. (new.given ≡ old.given) × (new.left ≡ old.left) × (new.ended ≡ old.ended))
  pub cause : HasCause old.read_faults new.read_faults result

-- What a write answers and leaves: what was read, and what is left to read, stays.
pub record Sends {E : Type 0} (bytes : List ℕ) (old new : PipeState) (result : Result ℕ E) : Type 0 where
  pub port : new.port ≡ old.port
  pub given : new.given ≡ old.given
  pub left : new.left ≡ old.left
  pub ended : new.ended ≡ old.ended
  pub read_faults : new.read_faults ≡ old.read_faults
  pub told : MatchResult result (λ count. HasWritten old.written new.written bytes count) (λ _. new.written ≡ old.written)
  pub cause : HasCause old.write_faults new.write_faults result
