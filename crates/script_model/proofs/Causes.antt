-- The cause by which a recorded connection ended is told by its tape and by what was read.
use Rattle.std.proofs.Common.{◌≡◌, ◌≢◌, ℕ, suc, ℤ, pos, negsuc, ◌<◌, ◌^◌, ◌==◌, true, true≢false, if◌then◌else◌, List, [], ◌∷◌, ◌++◌, length, refl, sym, ap, ◌∙◌, arith, append-nil, FitsSigned}
use Rattle.std.specs.List.{AllByRecursion}
use Rattle.std.specs.Int.{w32, from_be_bytes, cast_unsigned, cast_signed}
use Rattle.std.proofs.lemmas.Int.{to_z-of_z}
use Rattle.std.proofs.lemmas.Nat.{from_be_bytes-to_be_bytes_4}
use Rattle.streams.specs.declared.marks.Mark.{Mark}
use Rattle.streams.specs.declared.marks.Mark.TheVariants.{Opened, Read, Ended, Wrote, ReadFailed, WriteFailed, Closed}
use Rattle.host_model.specs.declared.cause.EndCause.{EndCause}
use Rattle.host_model.specs.declared.cause.EndCause.TheVariants.{End, Cut, SizeFault, Envelope, ReadFault, WriteFault, NoMemory, Stopped}
use Rattle.host_model.specs.Frames.{size_bytes, IsOutside}
use Rattle.host_model.specs.Marks.{Marks, IsTransfer, ending}
use Rattle.host_model.specs.Journal.{JournalEntry}
use Rattle.host_model.specs.DeskRules.{DeskRules}
use Rattle.host_model.specs.Conversation.{EndsBy, IsBrokenOff}
use Rattle.script_model.specs.Rehearsal.{is_scripted}
use Rattle.script_model.proofs.Marked.{kind_of}
use Rattle.script_model.proofs.Closing.{one_fault}

-- how many marks say that the input ended
abbrev pub ended_marks : List Mark → ℕ
ended_marks [] = 0
ended_marks (m ∷ ms) = if kind_of m == 2 then suc (ended_marks ms) else ended_marks ms

no_ended : (ts more : List Mark) → AllByRecursion IsTransfer ts → ended_marks (ts ++ more) ≡ ended_marks more
no_ended [] more a = refl
no_ended (Read c bytes ∷ ts) more a = no_ended ts more a.1
no_ended (Wrote c bytes ∷ ts) more a = no_ended ts more a.1
no_ended (Opened c ∷ ts) more a = absurd a.0
no_ended (Ended c ∷ ts) more a = absurd a.0
no_ended (ReadFailed c ∷ ts) more a = absurd a.0
no_ended (WriteFailed c ∷ ts) more a = absurd a.0
no_ended (Closed c ∷ ts) more a = absurd a.0

-- of a connection's marks only those of its cause say so
pub ended_by : (own : List Mark) (cause : EndCause) → Marks 0 own cause → ended_marks own ≡ ended_marks (ending 0 cause)
ended_by own cause m = ap ended_marks m.shape ∙ no_ended m.transfers (ending 0 cause) m.only

pub unsigned_small : (z : ℤ) → FitsSigned w32 z → cast_unsigned w32 z < 2 ^ 32
unsigned_small (pos k) fits = let s = fits.sfits in omega arith
unsigned_small (negsuc k) fits = let s = fits.sfits in omega arith

-- two sizes of the same bytes are one
pub one_size : (z z' : ℤ) → FitsSigned w32 z → FitsSigned w32 z' → size_bytes z ≡ size_bytes z' → z ≡ z'
one_size z z' fits fits' e =
    sym (to_z-of_z w32 z fits)
    ∙ ap (cast_signed w32)
    (sym (from_be_bytes-to_be_bytes_4 (cast_unsigned w32 z) (unsigned_small z fits)) ∙ ap (from_be_bytes w32) e
    ∙ from_be_bytes-to_be_bytes_4 (cast_unsigned w32 z') (unsigned_small z' fits'))
    ∙ to_z-of_z w32 z' fits'

-- bytes broken off are no size that no frame has
no_bad_rest : {C A : Type 0} (d : DeskRules C A) (ps : List (List ℕ)) (rest : List ℕ) (es : List (JournalEntry C A)) (out : List ℕ) (z : ℤ)
    → rest ≡ size_bytes z → IsOutside d.max z → IsBrokenOff d ps rest es out → ⊥
no_bad_rest d ps rest es out z is outside broken =
    let some : rest ≢ [] = λ none. let long : 0 ≡ 4 = ap length (sym none ∙ is) in let f : ⊥ = omega (arith, long) in f in
    (broken.behind some).1 z [] outside (is ∙ sym (append-nil (size_bytes z)))

-- no size is in no bytes
no_size : (z : ℤ) (rest : List ℕ) → rest ≡ size_bytes z → rest ≡ [] → ⊥
no_size z rest is none = let long : 0 ≡ 4 = ap length (sym none ∙ is) in let f : ⊥ = omega (arith, long) in f

-- want of memory where a head is refused, which the tape doesn't tell apart
abbrev pub MayMix : EndCause → EndCause → Type 0
MayMix (Envelope fault) NoMemory = Unit {0}
MayMix NoMemory (Envelope fault) = Unit {0}
MayMix _ _ = ⊥

module _ {C A : Type 0} (d : DeskRules C A) (rest : List ℕ) (ps ps' : List (List ℕ)) (es es' : List (JournalEntry C A)) (out out' : List ℕ) where
  -- two runs that have read the same, with as many marks of an ended input, ended by the same cause, where the text tells what the tape doesn't
  pub one_cause : (cause cause' : EndCause) → ps ≡ ps' → (MayMix cause cause' → ⊥) → is_scripted cause ≡ true → is_scripted cause' ≡ true
      → ended_marks (ending 0 cause) ≡ ended_marks (ending 0 cause') → EndsBy d ps rest es out cause → EndsBy d ps' rest es' out' cause' → cause ≡ cause'
  one_cause End End q a s s' n x y = refl
  one_cause End Cut q a s s' n x y = absurd (y.1 x.1)
  one_cause End (SizeFault z') q a s s' n x y = absurd (let f : ⊥ = omega (arith, n) in f)
  one_cause End NoMemory q a s s' n x y = absurd (let f : ⊥ = omega (arith, n) in f)
  one_cause End (Envelope fault') q a s s' n x y = absurd (let f : ⊥ = omega (arith, n) in f)
  one_cause End ReadFault q a s s' n x y = absurd (true≢false (sym s'))
  one_cause End WriteFault q a s s' n x y = absurd (true≢false (sym s'))
  one_cause End Stopped q a s s' n x y = absurd (true≢false (sym s'))
  one_cause Cut End q a s s' n x y = absurd (x.1 y.1)
  one_cause Cut Cut q a s s' n x y = refl
  one_cause Cut (SizeFault z') q a s s' n x y = absurd (let f : ⊥ = omega (arith, n) in f)
  one_cause Cut NoMemory q a s s' n x y = absurd (let f : ⊥ = omega (arith, n) in f)
  one_cause Cut (Envelope fault') q a s s' n x y = absurd (let f : ⊥ = omega (arith, n) in f)
  one_cause Cut ReadFault q a s s' n x y = absurd (true≢false (sym s'))
  one_cause Cut WriteFault q a s s' n x y = absurd (true≢false (sym s'))
  one_cause Cut Stopped q a s s' n x y = absurd (true≢false (sym s'))
  one_cause (SizeFault z) End q a s s' n x y = absurd (let f : ⊥ = omega (arith, n) in f)
  one_cause (SizeFault z) Cut q a s s' n x y = absurd (let f : ⊥ = omega (arith, n) in f)
  one_cause (SizeFault z) (SizeFault z') q a s s' n x y = ap SizeFault (one_size z z' x.2.0 y.2.0 (sym x.1 ∙ y.1))
  one_cause (SizeFault z) NoMemory q a s s' n x y = absurd (no_bad_rest d ps' rest es' out' z x.1 x.2 y)
  one_cause (SizeFault z) (Envelope fault') q a s s' n x y = absurd (no_size z rest x.1 y.1)
  one_cause (SizeFault z) ReadFault q a s s' n x y = absurd (true≢false (sym s'))
  one_cause (SizeFault z) WriteFault q a s s' n x y = absurd (true≢false (sym s'))
  one_cause (SizeFault z) Stopped q a s s' n x y = absurd (true≢false (sym s'))
  one_cause NoMemory End q a s s' n x y = absurd (let f : ⊥ = omega (arith, n) in f)
  one_cause NoMemory Cut q a s s' n x y = absurd (let f : ⊥ = omega (arith, n) in f)
  one_cause NoMemory (SizeFault z') q a s s' n x y = absurd (no_bad_rest d ps rest es out z' y.1 y.2 x)
  one_cause NoMemory NoMemory q a s s' n x y = refl
  one_cause NoMemory (Envelope fault') q a s s' n x y = absurd (a tt)
  one_cause NoMemory ReadFault q a s s' n x y = absurd (true≢false (sym s'))
  one_cause NoMemory WriteFault q a s s' n x y = absurd (true≢false (sym s'))
  one_cause NoMemory Stopped q a s s' n x y = absurd (true≢false (sym s'))
  one_cause (Envelope fault) End q a s s' n x y = absurd (let f : ⊥ = omega (arith, n) in f)
  one_cause (Envelope fault) Cut q a s s' n x y = absurd (let f : ⊥ = omega (arith, n) in f)
  one_cause (Envelope fault) (SizeFault z') q a s s' n x y = absurd (no_size z' rest y.1 x.1)
  one_cause (Envelope fault) NoMemory q a s s' n x y = absurd (a tt)
  one_cause (Envelope fault) (Envelope fault') q a s s' n x y = ap Envelope (one_fault d ps ps' fault fault' q x.0 y.0)
  one_cause (Envelope fault) ReadFault q a s s' n x y = absurd (true≢false (sym s'))
  one_cause (Envelope fault) WriteFault q a s s' n x y = absurd (true≢false (sym s'))
  one_cause (Envelope fault) Stopped q a s s' n x y = absurd (true≢false (sym s'))
  one_cause ReadFault cause' q a s s' n x y = absurd (true≢false (sym s))
  one_cause WriteFault cause' q a s s' n x y = absurd (true≢false (sym s))
  one_cause Stopped cause' q a s s' n x y = absurd (true≢false (sym s))
