-- What a call may answer, where a definition says what is projected.
use Rattle.std.specs.Prelude.{◌≡◌, ⊤, ℕ, List, ◌++◌, slice_set, Option, option_to_list, Result, Ok, Err, MatchResult}
use Rattle.struct_skew.specs.declared.fault.SkewFault.{SkewFault}
use Rattle.struct_skew.specs.declared.fault.SkewFault.TheVariants.{NoMemory}

-- the fault is the one that comes first; want of memory is free
abbrev pub SkewsOrNoMemory : {Y : Type 0} → SkewFault → Result Y SkewFault → Type 0
SkewsOrNoMemory NoMemory meant = ⊤
SkewsOrNoMemory fault meant = meant ≡ Err fault

-- what was answered, seen by view, is what is meant
abbrev pub ProjectsOrNoMemory : {X Y : Type 0} → (X → Y) → Result X SkewFault → Result Y SkewFault → Type 0
ProjectsOrNoMemory view (Ok x) meant = meant ≡ Ok (view x)
ProjectsOrNoMemory view (Err fault) meant = SkewsOrNoMemory fault meant

-- a value that was found, if there is one, is appended, or its fault is told
abbrev pub PutsSome : {X : Type 0} → Result (Option X) SkewFault → Result ⊤ SkewFault → List X → List X → Type 0
PutsSome (Ok x) out old new = MatchResult out (λ _. new ≡ old ++ option_to_list x) (λ fault. fault ≡ NoMemory)
PutsSome (Err fault) out old new = out ≡ Err fault

-- a value that was found stands at a place from then on, or its fault is told
abbrev pub PutsAt : {X : Type 0} → ℕ → Result X SkewFault → Result ⊤ SkewFault → List X → List X → Type 0
PutsAt place (Ok x) out old new = (out ≡ Ok tt) × (new ≡ slice_set old place x)
PutsAt place (Err fault) out old new = out ≡ Err fault
