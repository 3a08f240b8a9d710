-- Pairs that weren't seen before, each once.
use Rattle.std.specs.Prelude.{◌≡◌, ◌<◌, ℕ, suc, Option, Some, None, Bool, cond, ◌&&◌, ◌==◌, List, [], ◌∷◌, ◌++◌}
use Rattle.std.specs.Bool.{beq}
use Rattle.std.specs.List.{list_any}
use Rattle.compat_model.specs.Breaks.{PlainBreak, break_in_round}
use Rattle.compat_model.specs.StructPairs.{SchemaChange, StructPair}

-- two pairs are the same
abbrev pub is_same_pair : StructPair → StructPair → Bool
is_same_pair p q = beq p.backward q.backward && (p.from == q.from && p.to == q.to)

-- a pair was seen
abbrev pub was_pair_seen : List StructPair → StructPair → Bool
was_pair_seen seen p = list_any (is_same_pair p) seen

-- what was seen, with one more
abbrev pub seen_with : List StructPair → StructPair → List StructPair
seen_with seen p = cond (was_pair_seen seen p) seen (seen ++ p ∷ [])

-- what was seen, with some more
abbrev pub seen_with_each : List StructPair → List StructPair → List StructPair
seen_with_each seen [] = seen
seen_with_each seen (p ∷ ps) = seen_with_each (seen_with seen p) ps

-- those that weren't seen, in order, each once
abbrev pub fresh_pairs : List StructPair → List StructPair → List StructPair
fresh_pairs seen [] = []
fresh_pairs seen (p ∷ ps) = cond (was_pair_seen seen p) (fresh_pairs seen ps) (p ∷ fresh_pairs (seen_with seen p) ps)

-- what the rounds of pairs come to: the break of the first that has one, or none
abbrev pub IsFirstOfRounds : SchemaChange → Option PlainBreak → Type 0
IsFirstOfRounds ch None = (n : ℕ) → break_in_round ch (suc n) ≡ None
IsFirstOfRounds ch (Some b) = (n : ℕ) × (break_in_round ch (suc n) ≡ Some b) × ((k : ℕ) → k < n → break_in_round ch (suc k) ≡ None)
