-- What is known of a pipe on which was talked.
use Rattle.std.proofs.Common.{◌≡◌, ℕ, Bool, true, List, [], Ok, Err, inr, refl, ap, ◌∙◌}
use Rattle.streams.specs.Content.{told_more}
use Rattle.streams.specs.Taken.{IsTakenBut}
use Rattle.outside.specs.Pipes.{PipeState, told_end}
use Rattle.host_model.specs.Frames.{IsPartial}
use Rattle.host_model.proofs.Framing.{rest_nil, size_nil}
use Rattle.port_calls.specs.Exchanging.{HasSent, HasGot, HasMoved, HasTalked}
use Rattle.port_calls.specs.declared.asking_fault.AskingFault.TheVariants as faults
use Rattle.port_calls.proofs.HeardBytes.{told_none, no_end}

none_partial : (most : ℕ) → IsPartial most []
none_partial most = record { rest = rest_nil most; size = size_nil most }

module _ {A : Type 0} (payload : A → List ℕ) (bytes : List ℕ) (waits : Bool) (most : ℕ) where
  -- it couldn't be sent
  pub unsent : {B E : Type 0} (old new : PipeState) (e : E) → HasSent {A = B} bytes old new (Err e) → HasTalked payload bytes waits most old new (Err faults.NetFault)
  unsent old new e s =
      let begun : IsTakenBut old.written new.written bytes s.written.lost = s.written.taken in
      record {
        so = (
          record {
            sent = begun.front;
            read = [];
            moved = record { port = s.port; written = begun.taken; given = s.given ∙ told_none old.given; ended = s.ended ∙ no_end old.ended };
            begun = (s.written.lost, begun.whole);
            behind = λ some. absurd (some refl);
            partial = none_partial most;
          },
          inr (s.cause.failed refl),
        );
      }

  module _ {B E : Type 0} (old mid new : PipeState) (b : B) (s : HasSent {E = E} bytes old mid (Ok b)) (awaited : waits ≡ true) where
    -- it was sent, and these bytes were read then
    moved : (read : List ℕ) (end : Bool) → HasGot read end mid new → HasMoved bytes read end old new
    moved read end g = record {
      port = g.port ∙ s.port;
      written = g.written ∙ s.written;
      given = g.given ∙ ap (λ x. told_more x read) s.given;
      ended = g.ended ∙ ap (λ x. told_end x end) s.ended;
    }
