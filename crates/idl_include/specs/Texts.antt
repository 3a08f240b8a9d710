-- Texts behind references, as lists.
use Rattle.std.specs.Prelude.{ℕ, List, map}
use denote.Ref.{Bor}

-- the texts that references point to, in order
abbrev pub texts : List (Bor (List ℕ)) → List (List ℕ)
texts = map (λ (text : Bor (List ℕ)). text.now)
