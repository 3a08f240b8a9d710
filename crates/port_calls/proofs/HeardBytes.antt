-- What is heard on a pipe in pieces.
use Rattle.std.proofs.Common.{◌≡◌, ℕ, Bool, true, false, List, [], ◌++◌, Option, Some, None, refl, sym, ap, ◌∙◌, append_assoc, append-nil}
use Rattle.streams.specs.Content.{told_more}
use Rattle.outside.specs.Pipes.{PipeState, told_end}
use Rattle.port_calls.specs.Exchanging.{HasGot}

-- these bytes were read and no end, nothing was sent, and no read failed
pub record HasHeardSoFar (bytes : List ℕ) (old new : PipeState) : Type 0 where
  pub got : HasGot bytes false old new
  pub kept : new.read_faults ≡ old.read_faults

pub told_twice : (x : Option (List ℕ)) (a b : List ℕ) → told_more (told_more x a) b ≡ told_more x (a ++ b)
told_twice None a b = refl
told_twice (Some c) a b = ap Some (append_assoc c a b)

pub told_none : (x : Option (List ℕ)) → x ≡ told_more x []
told_none None = refl
told_none (Some c) = ap Some (sym (append-nil c))

pub no_end : (x : Option Bool) → x ≡ told_end x false
no_end None = refl
no_end (Some true) = refl
no_end (Some false) = refl

pub end_behind : (x : Option Bool) (now : Bool) → told_end (told_end x false) now ≡ told_end x now
end_behind None now = refl
end_behind (Some true) now = refl
end_behind (Some false) now = refl

-- bytes were read, and more behind them
pub got_on : (first more : List ℕ) (end : Bool) (old mid new : PipeState) → HasGot first false old mid → HasGot more end mid new → HasGot (first ++ more) end old new
got_on first more end old mid new f g = record {
  port = g.port ∙ f.port;
  written = g.written ∙ f.written;
  write_faults = g.write_faults ∙ f.write_faults;
  given = g.given ∙ ap (λ t. told_more t more) f.given ∙ told_twice old.given first more;
  ended = g.ended ∙ ap (λ t. told_end t end) f.ended ∙ end_behind old.ended end;
}
