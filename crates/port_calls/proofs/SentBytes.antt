-- What is sent on a pipe in pieces.
use Rattle.std.proofs.Common.{◌≡◌, ℕ, List, take, drop, Ok, sym, ◌∙◌, take-append-drop}
use Rattle.streams.specs.Taken.{IsTakenBut}
use Rattle.streams.proofs.Taking.{taken_on}
use Rattle.outside.specs.Pipes.{PipeState, Sends}

-- of these bytes all but what is left was sent, and nothing was read
pub record HasSentBut (bytes left : List ℕ) (old new : PipeState) : Type 0 where
  pub port : new.port ≡ old.port
  pub given : new.given ≡ old.given
  pub ended : new.ended ≡ old.ended
  pub read_faults : new.read_faults ≡ old.read_faults
  pub told : IsTakenBut old.written new.written bytes left
  pub kept : new.write_faults ≡ old.write_faults

-- a piece more
pub sent_on : {E : Type 0} (bytes left : List ℕ) (count : ℕ) (old mid new : PipeState) → HasSentBut bytes left old mid → Sends {E = E} left mid new (Ok count)
    → HasSentBut bytes (drop count left) old new
sent_on bytes left count old mid new f s =
    let one : IsTakenBut mid.written new.written left (drop count left) =
    record { front = take count left; taken = s.told.told; whole = sym (take-append-drop count left) } in
    record {
      port = s.port ∙ f.port;
      given = s.given ∙ f.given;
      ended = s.ended ∙ f.ended;
      read_faults = s.read_faults ∙ f.read_faults;
      told = taken_on old.written mid.written new.written bytes left (drop count left) f.told one;
      kept = s.cause.kept ∙ f.kept;
    }
