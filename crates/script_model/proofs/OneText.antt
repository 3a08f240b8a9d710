-- One script has one report, where no connection ended for want of memory.
use Rattle.std.proofs.Common.{◌≡◌, ◌≢◌, ℕ, ℤ, pos, negsuc, ◌+◌, ◌<◌, ◌≤◌, ◌^◌, inl, inr, true, true≢false, List, [], ◌∷◌, ◌++◌, length, refl, sym, ap, ◌∙◌, subst, arith, append_assoc, append-nil, length-append}
use Rattle.std.specs.Int.{w32, to_be_bytes, from_be_bytes, cast_unsigned}
use Rattle.std.specs.List.{AllByRecursion, flat_map}
use Rattle.std.proofs.lemmas.Int.{ints}
use Rattle.std.proofs.lemmas.List.{length-map}
use Rattle.std.proofs.lemmas.Nat.{from_be_bytes-to_be_bytes_4}
use Rattle.streams.specs.declared.marks.Mark.{Mark}
use Rattle.streams.specs.declared.marks.Mark.TheVariants.{Opened, Read, Ended, Wrote, ReadFailed, WriteFailed, Closed}
use Rattle.host_model.specs.declared.cause.EndCause.{EndCause}
use Rattle.host_model.specs.declared.cause.EndCause.TheVariants.{End, Cut, SizeFault, Envelope, ReadFault, WriteFault, NoMemory, Stopped}
use Rattle.host_model.specs.Frames.{Frames, frame, size_bytes, IsOutside, IsRest}
use Rattle.host_model.specs.Marks.{connection_of, marks_of, IsTransfer, ending, input, output}
use Rattle.host_model.specs.Journal.{JournalEntry, ServiceRules, entries_of}
use Rattle.host_model.specs.DeskRules.{DeskRules}
use Rattle.streams.specs.declared.outcomes.EnvelopeFault.{EnvelopeFault}
use Rattle.host_model.specs.Conversation.{EndsBy, IsFinished, IsPrefix, IsInTurn, AllKeepConnection, LastCloses, but_last, called, sent}
use Rattle.host_model.specs.Report.{report}
use Rattle.host_model.proofs.Framing.{only_split, frames_read, a_split}
use Rattle.host_model.proofs.Filters.{marks_append}
use Rattle.host_model.proofs.Lists.{append_parts, nil-cons}
use Rattle.script_model.specs.Feeding.{Completes}
use Rattle.script_model.specs.Sending.{WritesTheRest}
use Rattle.script_model.specs.Arrival.{Arrival}
use Rattle.script_model.specs.Rehearsal.{IsReadToItsEnd, IsReportOfOneConnection, is_scripted}
use Rattle.script_model.proofs.Marked.{read_of, wrote_of, read_append, wrote_append, own_filter}
use Rattle.script_model.proofs.Determined.{RunOf, own_marks, own_entries, calls_of, two_reads, two_writes, same_split, same_journal}
use Rattle.script_model.proofs.Causes.{one_size, unsigned_small}
use Rattle.script_model.proofs.Closing.{all_front, joined, no_front_closes, one_close, one_fault}

-- no payload has a size that no frame has
not_outside : (max : ℕ) (z : ℤ) (size : ℕ) → max < 2 ^ 31 → 1 ≤ size → size ≤ max → IsOutside max z → cast_unsigned w32 z ≡ size → ⊥
not_outside max (pos k) size small some within outside e =
    let fits = outside.0.sfits in
    elim outside.1 [ inl below ↦ omega (arith, ints, below, e) | inr above ↦ omega (arith, ints, above, e) ]
not_outside max (negsuc k) size small some within outside e = let fits = outside.0.sfits in omega (arith, e)

-- no frame stands in front where such a size does
bad_rest : (max : ℕ) (z : ℤ) (more : List ℕ) → max < 2 ^ 31 → IsOutside max z → IsRest max (size_bytes z ++ more)
bad_rest max z more small outside payload others is e =
    let within : length payload ≤ max = is.within in
    let p = append_parts (size_bytes z) (to_be_bytes w32 (length payload)) more (payload ++ others) refl (e ∙ append_assoc (to_be_bytes w32 (length payload)) payload others) in
    let size : cast_unsigned w32 z ≡ length payload =
    sym (from_be_bytes-to_be_bytes_4 (cast_unsigned w32 z) (unsigned_small z outside.0)) ∙ ap (from_be_bytes w32) p.0
    ∙ from_be_bytes-to_be_bytes_4 (length payload) (omega (arith, within, small)) in
    not_outside max z (length payload) small is.some within outside size

-- bytes of which such a size was read split there
split_bad : (max : ℕ) (all read : List ℕ) (payloads : List (List ℕ)) (rest : List ℕ) (z : ℤ) → max < 2 ^ 31 → Frames max read payloads rest → rest ≡ size_bytes z
    → IsOutside max z → (p : IsPrefix read all) → Frames max all payloads (size_bytes z ++ p.0)
split_bad max all read payloads rest z small f is outside p =
    record {
      whole =
          p.1 ∙ ap (λ t. t ++ p.0) (f.whole ∙ ap (λ t. flat_map frame payloads ++ t) is) ∙ append_assoc (flat_map frame payloads) (size_bytes z) p.0;
      each = f.each;
      no_more = bad_rest max z p.0 small outside;
    }

-- a run that isn't broken off finished what it was asked
finished : {C A : Type 0} (d : DeskRules C A) (ps : List (List ℕ)) (rest : List ℕ) (es : List (JournalEntry C A)) (out : List ℕ) (cause : EndCause)
    → is_scripted cause ≡ true → cause ≢ NoMemory → EndsBy d ps rest es out cause → IsFinished d es ps out
finished d ps rest es out End s n e = e.2
finished d ps rest es out Cut s n e = e.3
finished d ps rest es out (SizeFault z) s n e = e.3
finished d ps rest es out NoMemory s n e = absurd (n refl)
finished d ps rest es out (Envelope fault) s n e = e.2
finished d ps rest es out ReadFault s n e = absurd (true≢false (sym s))
finished d ps rest es out WriteFault s n e = absurd (true≢false (sym s))
finished d ps rest es out Stopped s n e = absurd (true≢false (sym s))

module _ {C A : Type 0} (d : DeskRules C A) (small : d.max < 2 ^ 31) (all a a' : List ℕ) (p : IsPrefix a all) (p' : IsPrefix a' all)
    (ps ps' : List (List ℕ)) (rest rest' : List ℕ) (f : Frames d.max a ps rest) (f' : Frames d.max a' ps' rest')
    (es es' : List (JournalEntry C A)) (out out' : List ℕ) where
  -- what was read where one run found such a size, and the other one the end
  bad_behind : (z : ℤ) → a' ≡ all → rest ≡ size_bytes z → IsOutside d.max z → rest' ≡ size_bytes z ++ p.0
  bad_behind z whole is outside =
      (only_split d.max all rest' (size_bytes z ++ p.0) ps' ps small (subst (λ t. Frames d.max t ps' rest') whole f')
      (split_bad d.max all a ps rest z small f is outside p)).1

  no_size_in_none : (z : ℤ) → [] ≡ size_bytes z ++ p.0 → ⊥
  no_size_in_none z e = let long : 0 ≡ 4 + length p.0 = ap length e ∙ length-append (size_bytes z) p.0 in let f : ⊥ = omega (arith, long) in f

  both_bad : (z z' : ℤ) → rest ≡ size_bytes z → IsOutside d.max z → rest' ≡ size_bytes z' → IsOutside d.max z' → a ≡ a'
  both_bad z z' is outside is' outside' =
      let s = only_split d.max all (size_bytes z ++ p.0) (size_bytes z' ++ p'.0) ps ps' small (split_bad d.max all a ps rest z small f is outside p)
      (split_bad d.max all a' ps' rest' z' small f' is' outside' p') in
      let size : size_bytes z ≡ size_bytes z' = (append_parts (size_bytes z) (size_bytes z') p.0 p'.0 refl s.1).0 in
      let ends : rest ≡ rest' = is ∙ size ∙ sym is' in
      f.whole ∙ (λ i. flat_map frame (s.0 i) ++ ends i) ∙ sym f'.whole

module _ {C A : Type 0} (d : DeskRules C A) (small : d.max < 2 ^ 31) (all a a' : List ℕ) (p : IsPrefix a all) (p' : IsPrefix a' all)
    (ps ps' : List (List ℕ)) (rest rest' : List ℕ) (f : Frames d.max a ps rest) (f' : Frames d.max a' ps' rest')
    (es es' : List (JournalEntry C A)) (out out' : List ℕ) where
  -- all bytes, where the one run has read whole frames alone
  behind_close : rest ≡ [] → (more : List (List ℕ)) × (left : List ℕ) × Frames d.max all (ps ++ more) left
  behind_close none =
      let s = a_split d.max p.0 small in
      (s.0, s.1, subst (λ t. Frames d.max t (ps ++ s.0) s.1) (sym p.1) (joined d.max a p.0 rest s.1 ps s.0 none f s.2))

  -- no run that goes on to the end passes a head that is refused
  closes_before : (fault : EnvelopeFault) (left : List ℕ) → rest ≡ [] → LastCloses d ps fault → AllKeepConnection d ps' → Frames d.max all ps' left → ⊥
  closes_before fault left none c on g =
      let b = behind_close none in
      no_front_closes d ps b.0 fault (subst (AllKeepConnection d) (only_split d.max all left b.1 ps' (ps ++ b.0) small g b.2).0 on) c

module _ {C A : Type 0} (d : DeskRules C A) (small : d.max < 2 ^ 31) (all a a' : List ℕ) (p : IsPrefix a all) (p' : IsPrefix a' all)
    (ps ps' : List (List ℕ)) (rest rest' : List ℕ) (f : Frames d.max a ps rest) (f' : Frames d.max a' ps' rest')
    (es es' : List (JournalEntry C A)) (out out' : List ℕ) where
  -- two that end at a head that is refused have read the same
  both_close : (fault fault' : EnvelopeFault) → rest ≡ [] → rest' ≡ [] → LastCloses d ps fault → LastCloses d ps' fault' → AllKeepConnection d (but_last ps)
      → AllKeepConnection d (but_last ps') → a ≡ a'
  both_close fault fault' none none' c c' on on' =
      let b = behind_close d small all a a' p p' ps ps' rest rest' f f' es es' out out' none in
      let b' = behind_close d small all a' a p' p ps' ps rest' rest f' f es' es out' out none' in
      let split = only_split d.max all b.1 b'.1 (ps ++ b.0) (ps' ++ b'.0) small b.2 b'.2 in
      let same = one_close d ps ps' b.0 b'.0 fault fault' on on' c c' split.0 in
      let ends : rest ≡ rest' = none ∙ sym none' in
      f.whole ∙ (λ i. flat_map frame (same i) ++ ends i) ∙ sym f'.whole

module _ {C A : Type 0} (d : DeskRules C A) (small : d.max < 2 ^ 31) (all a a' : List ℕ) (p : IsPrefix a all) (p' : IsPrefix a' all)
    (ps ps' : List (List ℕ)) (rest rest' : List ℕ) (f : Frames d.max a ps rest) (f' : Frames d.max a' ps' rest')
    (es es' : List (JournalEntry C A)) (out out' : List ℕ) where
  -- two runs on the same bytes have read the same
  same_reads : (cause cause' : EndCause) → is_scripted cause ≡ true → is_scripted cause' ≡ true → cause ≢ NoMemory → cause' ≢ NoMemory
      → IsReadToItsEnd cause a all → IsReadToItsEnd cause' a' all → AllKeepConnection d (but_last ps) → AllKeepConnection d (but_last ps')
      → EndsBy d ps rest es out cause → EndsBy d ps' rest' es' out' cause' → a ≡ a'
  same_reads End End s s' n n' w w' o o' x y = w ∙ sym w'
  same_reads End Cut s s' n n' w w' o o' x y = w ∙ sym w'
  same_reads End (SizeFault z') s s' n n' w w' o o' x y = absurd (no_size_in_none d small all a' a p' p ps' ps rest' rest f' f es' es out' out z' (sym x.1 ∙ bad_behind d small all a' a p' p ps' ps rest' rest f' f es' es out' out z' w y.1 y.2))
  same_reads End NoMemory s s' n n' w w' o o' x y = absurd (n' refl)
  same_reads End (Envelope fault') s s' n n' w w' o o' x y = absurd (closes_before d small all a' a p' p ps' ps rest' rest f' f es' es out' out fault' rest y.1 y.0 x.0 (subst (λ t. Frames d.max t ps rest) w f))
  same_reads End ReadFault s s' n n' w w' o o' x y = absurd (true≢false (sym s'))
  same_reads End WriteFault s s' n n' w w' o o' x y = absurd (true≢false (sym s'))
  same_reads End Stopped s s' n n' w w' o o' x y = absurd (true≢false (sym s'))
  same_reads Cut End s s' n n' w w' o o' x y = w ∙ sym w'
  same_reads Cut Cut s s' n n' w w' o o' x y = w ∙ sym w'
  same_reads Cut (SizeFault z') s s' n n' w w' o o' x y = absurd (x.2 z' p'.0 y.2 (bad_behind d small all a' a p' p ps' ps rest' rest f' f es' es out' out z' w y.1 y.2))
  same_reads Cut NoMemory s s' n n' w w' o o' x y = absurd (n' refl)
  same_reads Cut (Envelope fault') s s' n n' w w' o o' x y = absurd (closes_before d small all a' a p' p ps' ps rest' rest f' f es' es out' out fault' rest y.1 y.0 x.0 (subst (λ t. Frames d.max t ps rest) w f))
  same_reads Cut ReadFault s s' n n' w w' o o' x y = absurd (true≢false (sym s'))
  same_reads Cut WriteFault s s' n n' w w' o o' x y = absurd (true≢false (sym s'))
  same_reads Cut Stopped s s' n n' w w' o o' x y = absurd (true≢false (sym s'))
  same_reads (SizeFault z) End s s' n n' w w' o o' x y = absurd (no_size_in_none d small all a a' p p' ps ps' rest rest' f f' es es' out out' z (sym y.1 ∙ bad_behind d small all a a' p p' ps ps' rest rest' f f' es es' out out' z w' x.1 x.2))
  same_reads (SizeFault z) Cut s s' n n' w w' o o' x y = absurd (y.2 z p.0 x.2 (bad_behind d small all a a' p p' ps ps' rest rest' f f' es es' out out' z w' x.1 x.2))
  same_reads (SizeFault z) (SizeFault z') s s' n n' w w' o o' x y = both_bad d small all a a' p p' ps ps' rest rest' f f' es es' out out' z z' x.1 x.2 y.1 y.2
  same_reads (SizeFault z) NoMemory s s' n n' w w' o o' x y = absurd (n' refl)
  same_reads (SizeFault z) (Envelope fault') s s' n n' w w' o o' x y = absurd (closes_before d small all a' a p' p ps' ps rest' rest f' f es' es out' out fault' (size_bytes z ++ p.0) y.1 y.0 x.0 (split_bad d.max all a ps rest z small f x.1 x.2 p))
  same_reads (SizeFault z) ReadFault s s' n n' w w' o o' x y = absurd (true≢false (sym s'))
  same_reads (SizeFault z) WriteFault s s' n n' w w' o o' x y = absurd (true≢false (sym s'))
  same_reads (SizeFault z) Stopped s s' n n' w w' o o' x y = absurd (true≢false (sym s'))
  same_reads NoMemory cause' s s' n n' w w' o o' x y = absurd (n refl)
  same_reads (Envelope fault) End s s' n n' w w' o o' x y = absurd (closes_before d small all a a' p p' ps ps' rest rest' f f' es es' out out' fault rest' x.1 x.0 y.0 (subst (λ t. Frames d.max t ps' rest') w' f'))
  same_reads (Envelope fault) Cut s s' n n' w w' o o' x y = absurd (closes_before d small all a a' p p' ps ps' rest rest' f f' es es' out out' fault rest' x.1 x.0 y.0 (subst (λ t. Frames d.max t ps' rest') w' f'))
  same_reads (Envelope fault) (SizeFault z') s s' n n' w w' o o' x y = absurd (closes_before d small all a a' p p' ps ps' rest rest' f f' es es' out out' fault (size_bytes z' ++ p'.0) x.1 x.0 y.0 (split_bad d.max all a' ps' rest' z' small f' y.1 y.2 p'))
  same_reads (Envelope fault) NoMemory s s' n n' w w' o o' x y = absurd (n' refl)
  same_reads (Envelope fault) (Envelope fault') s s' n n' w w' o o' x y = both_close d small all a a' p p' ps ps' rest rest' f f' es es' out out' fault fault' x.1 y.1 x.0 y.0 o o'
  same_reads (Envelope fault) ReadFault s s' n n' w w' o o' x y = absurd (true≢false (sym s'))
  same_reads (Envelope fault) WriteFault s s' n n' w w' o o' x y = absurd (true≢false (sym s'))
  same_reads (Envelope fault) Stopped s s' n n' w w' o o' x y = absurd (true≢false (sym s'))
  same_reads ReadFault cause' s s' n n' w w' o o' x y = absurd (true≢false (sym s))
  same_reads WriteFault cause' s s' n n' w w' o o' x y = absurd (true≢false (sym s))
  same_reads Stopped cause' s s' n n' w w' o o' x y = absurd (true≢false (sym s))

module _ {C A : Type 0} (d : DeskRules C A) (ps ps' : List (List ℕ)) where
  -- what goes on ends at no head that is refused
  goes_on_alone : (fault : EnvelopeFault) → ps ≡ ps' → AllKeepConnection d ps → LastCloses d ps' fault → ⊥
  goes_on_alone fault q on c = no_front_closes d ps' [] fault (subst (AllKeepConnection d) (q ∙ sym (append-nil ps')) on) c

module _ {C A : Type 0} (d : DeskRules C A) (ps ps' : List (List ℕ)) (rest : List ℕ) (es es' : List (JournalEntry C A)) (out out' : List ℕ) where
  -- and ended by the same cause
  same_cause : (cause cause' : EndCause) → ps ≡ ps' → is_scripted cause ≡ true → is_scripted cause' ≡ true → cause ≢ NoMemory → cause' ≢ NoMemory
      → EndsBy d ps rest es out cause → EndsBy d ps' rest es' out' cause' → cause ≡ cause'
  same_cause End End q s s' n n' x y = refl
  same_cause End Cut q s s' n n' x y = absurd (y.1 x.1)
  same_cause End (SizeFault z') q s s' n n' x y = absurd (let long : 0 ≡ 4 = ap length (sym x.1 ∙ y.1) in let f : ⊥ = omega (arith, long) in f)
  same_cause End NoMemory q s s' n n' x y = absurd (n' refl)
  same_cause End (Envelope fault') q s s' n n' x y = absurd (goes_on_alone d ps ps' fault' q x.0 y.0)
  same_cause End ReadFault q s s' n n' x y = absurd (true≢false (sym s'))
  same_cause End WriteFault q s s' n n' x y = absurd (true≢false (sym s'))
  same_cause End Stopped q s s' n n' x y = absurd (true≢false (sym s'))
  same_cause Cut End q s s' n n' x y = absurd (x.1 y.1)
  same_cause Cut Cut q s s' n n' x y = refl
  same_cause Cut (SizeFault z') q s s' n n' x y = absurd (x.2 z' [] y.2 (y.1 ∙ sym (append-nil (size_bytes z'))))
  same_cause Cut NoMemory q s s' n n' x y = absurd (n' refl)
  same_cause Cut (Envelope fault') q s s' n n' x y = absurd (goes_on_alone d ps ps' fault' q x.0 y.0)
  same_cause Cut ReadFault q s s' n n' x y = absurd (true≢false (sym s'))
  same_cause Cut WriteFault q s s' n n' x y = absurd (true≢false (sym s'))
  same_cause Cut Stopped q s s' n n' x y = absurd (true≢false (sym s'))
  same_cause (SizeFault z) End q s s' n n' x y = absurd (let long : 0 ≡ 4 = ap length (sym y.1 ∙ x.1) in let f : ⊥ = omega (arith, long) in f)
  same_cause (SizeFault z) Cut q s s' n n' x y = absurd (y.2 z [] x.2 (x.1 ∙ sym (append-nil (size_bytes z))))
  same_cause (SizeFault z) (SizeFault z') q s s' n n' x y = ap SizeFault (one_size z z' x.2.0 y.2.0 (sym x.1 ∙ y.1))
  same_cause (SizeFault z) NoMemory q s s' n n' x y = absurd (n' refl)
  same_cause (SizeFault z) (Envelope fault') q s s' n n' x y = absurd (goes_on_alone d ps ps' fault' q x.0 y.0)
  same_cause (SizeFault z) ReadFault q s s' n n' x y = absurd (true≢false (sym s'))
  same_cause (SizeFault z) WriteFault q s s' n n' x y = absurd (true≢false (sym s'))
  same_cause (SizeFault z) Stopped q s s' n n' x y = absurd (true≢false (sym s'))
  same_cause NoMemory cause' q s s' n n' x y = absurd (n refl)
  same_cause (Envelope fault) End q s s' n n' x y = absurd (goes_on_alone d ps' ps fault (sym q) y.0 x.0)
  same_cause (Envelope fault) Cut q s s' n n' x y = absurd (goes_on_alone d ps' ps fault (sym q) y.0 x.0)
  same_cause (Envelope fault) (SizeFault z') q s s' n n' x y = absurd (goes_on_alone d ps' ps fault (sym q) y.0 x.0)
  same_cause (Envelope fault) NoMemory q s s' n n' x y = absurd (n' refl)
  same_cause (Envelope fault) (Envelope fault') q s s' n n' x y = ap Envelope (one_fault d ps ps' fault fault' q x.0 y.0)
  same_cause (Envelope fault) ReadFault q s s' n n' x y = absurd (true≢false (sym s'))
  same_cause (Envelope fault) WriteFault q s s' n n' x y = absurd (true≢false (sym s'))
  same_cause (Envelope fault) Stopped q s s' n n' x y = absurd (true≢false (sym s'))
  same_cause ReadFault cause' q s s' n n' x y = absurd (true≢false (sym s))
  same_cause WriteFault cause' q s s' n n' x y = absurd (true≢false (sym s))
  same_cause Stopped cause' q s s' n n' x y = absurd (true≢false (sym s))

-- the last marks of a connection read nothing, and write nothing
ending_reads : (cause : EndCause) → read_of (ending 0 cause) ≡ []
ending_reads End = refl
ending_reads Cut = refl
ending_reads (SizeFault size) = refl
ending_reads (Envelope fault) = refl
ending_reads ReadFault = refl
ending_reads WriteFault = refl
ending_reads NoMemory = refl
ending_reads Stopped = refl

ending_writes : (cause : EndCause) → wrote_of (ending 0 cause) ≡ []
ending_writes End = refl
ending_writes Cut = refl
ending_writes (SizeFault size) = refl
ending_writes (Envelope fault) = refl
ending_writes ReadFault = refl
ending_writes WriteFault = refl
ending_writes NoMemory = refl
ending_writes Stopped = refl

-- of nothing at most the four bytes of a size are missing
few_missing : (max count : ℕ) → Completes max [] count → count ≤ 4
few_missing max count (some, inl four) = omega (arith, four)
few_missing max count (some, inr in_payload) =
    let long : 0 ≡ 4 + length in_payload.bytes = ap length in_payload.same ∙ length-append (to_be_bytes w32 in_payload.size) in_payload.bytes in
    absurd (let f : ⊥ = omega (arith, long) in f)

-- no frame is in so few bytes
short_rest : (max : ℕ) (bytes : List ℕ) → length bytes ≤ 4 → IsRest max bytes
short_rest max bytes few payload more is e =
    let some : 1 ≤ length payload = is.some in
    let long : length bytes ≡ length (frame payload) + length more = ap length e ∙ length-append (frame payload) more in
    let size : length (frame payload) ≡ 4 + length payload = length-append (to_be_bytes w32 (length payload)) payload in
    let f : ⊥ = omega (arith, some, few, long, size) in f

-- a write has nothing to write where all is sent
no_write_left : {C A : Type 0} (d : DeskRules C A) (small : d.max < 2 ^ 31) (es : List (JournalEntry C A)) (own : List Mark) (bytes : List ℕ)
    (ps : List (List ℕ)) (rest : List ℕ) → WritesTheRest d es own bytes → Frames d.max (input own) ps rest → output own ≡ sent d es 0 ps → ⊥
no_write_left d small es own bytes ps rest w f all =
    let split = only_split d.max (input own) w.rest rest w.payloads ps small w.frames f in
    let total : output own ++ bytes ≡ output own = w.whole ∙ ap (λ p. sent d es 0 p) split.0 ∙ sym all in
    let long : length (output own) + length bytes ≡ length (output own) = sym (length-append (output own) bytes) ∙ ap length total in
    let some : 0 < length bytes = w.some in
    let f : ⊥ = omega (arith, long, some) in f

module _ {C A M : Type 0} (d : DeskRules C A) (r : ServiceRules C A M) (memories : List M) (arrival : Arrival) (small : d.max < 2 ^ 31)
    (tape : List Mark) (journal : List (JournalEntry C A)) (cause : EndCause) (x : RunOf d r memories arrival tape journal cause) where
  -- the turn at a point of the tape
  turn_at : (f b : List Mark) → tape ≡ f ++ b → IsInTurn d (entries_of 0 journal) (marks_of 0 f)
  turn_at f b e = (x.headline.each 0 cause refl).turns (marks_of 0 f) (marks_of 0 b) (ap (marks_of 0) e ∙ marks_append 0 f b)

  -- nothing is read while a write is left
  read_or_write : (f b : List Mark) (a bytes rest : List ℕ) → tape ≡ f ++ Read 0 a ∷ b → (w : WritesTheRest d (entries_of 0 journal) (marks_of 0 f) bytes)
      → w.rest ≡ rest → ⊥
  read_or_write f b a bytes (first ∷ rest) e w is =
      let t = turn_at f (Read 0 a ∷ b) e in
      let split = only_split d.max (read_of f) t.rest w.rest t.payloads w.payloads small t.frames w.frames in
      no_write_left d small (entries_of 0 journal) (marks_of 0 f) bytes t.payloads t.rest w t.frames
      (t.first_sent (λ none. nil-cons first rest (sym none ∙ split.1 ∙ is)))
  read_or_write f b a bytes [] e w is =
      let es = entries_of 0 journal in
      let part = (x.served 0 cause refl).fed f b a e in
      let at_first = only_split d.max (read_of f) part.rest w.rest part.payloads w.payloads small part.frames w.frames in
      let few : part.missing ≤ 4 = few_missing d.max part.missing (subst (λ t. Completes d.max t part.missing) (at_first.1 ∙ is) part.completes) in
      let short : length a ≤ 4 = omega (arith, part.count, few) in
      let some : 0 < length a = part.some in
      let now : read_of (f ++ Read 0 a ∷ []) ≡ read_of f ++ a = read_append f (Read 0 a ∷ []) ∙ ap (λ t. read_of f ++ t) (append-nil a) in
      let then_wrote : wrote_of (f ++ Read 0 a ∷ []) ≡ wrote_of f = wrote_append f (Read 0 a ∷ []) ∙ append-nil (wrote_of f) in
      let frames : Frames d.max (read_of f ++ a) w.payloads a =
      frames_read d.max (read_of f) a w.payloads [] (subst (λ t. Frames d.max (read_of f) w.payloads t) is w.frames) (short_rest d.max a short) in
      let t = turn_at (f ++ Read 0 a ∷ []) b (e ∙ sym (append_assoc f (Read 0 a ∷ []) b)) in
      let split = only_split d.max (read_of f ++ a) t.rest a t.payloads w.payloads small (subst (λ m. Frames d.max m t.payloads t.rest) now t.frames) frames in
      let not_empty : t.rest ≡ [] → ⊥ = λ none. let long : length a ≡ 0 = ap length (sym split.1 ∙ none) in let f : ⊥ = omega (arith, long, some) in f in
      no_write_left d small es (marks_of 0 f) bytes w.payloads w.rest w w.frames
      (sym then_wrote ∙ t.first_sent not_empty ∙ ap (λ p. sent d es 0 p) split.0)

module _ {C A M : Type 0} (d : DeskRules C A) (r : ServiceRules C A M) (memories : List M) (arrival : Arrival) (small : d.max < 2 ^ 31)
    (tape tape' : List Mark) (journal journal' : List (JournalEntry C A)) (cause cause' : EndCause)
    (x : RunOf d r memories arrival tape journal cause) (y : RunOf d r memories arrival tape' journal' cause')
    (reads : read_of tape ≡ read_of tape') (same : journal ≡ journal') (fin : cause ≢ NoMemory) where
  -- where one run stops, all is read
  no_more_reads : (f b : List Mark) (bytes : List ℕ) → tape ≡ f ++ ending 0 cause → tape' ≡ f ++ Read 0 bytes ∷ b → ⊥
  no_more_reads f b bytes e e' =
      let all : read_of tape ≡ read_of f = ap read_of e ∙ read_append f (ending 0 cause) ∙ ap (λ t. read_of f ++ t) (ending_reads cause) ∙ append-nil (read_of f) in
      let more : read_of tape' ≡ read_of f ++ (bytes ++ read_of b) = ap read_of e' ∙ read_append f (Read 0 bytes ∷ b) in
      let long : length (read_of f) ≡ length (read_of f) + (length bytes + length (read_of b)) =
      ap length (sym all ∙ reads ∙ more) ∙ length-append (read_of f) (bytes ++ read_of b) ∙ ap (λ n. length (read_of f) + n) (length-append bytes (read_of b)) in
      let some : 0 < length bytes = ((y.served 0 cause' refl).fed f b bytes e').some in
      let f : ⊥ = omega (arith, long, some) in f

  -- and all is written
  no_more_writes : (f b : List Mark) (bytes : List ℕ) → tape ≡ f ++ ending 0 cause → tape' ≡ f ++ Wrote 0 bytes ∷ b → ⊥
  no_more_writes f b bytes e e' =
      let t = (x.headline.each 0 cause refl).talk in
      let all : read_of tape ≡ read_of f = ap read_of e ∙ read_append f (ending 0 cause) ∙ ap (λ t. read_of f ++ t) (ending_reads cause) ∙ append-nil (read_of f) in
      let out : wrote_of tape ≡ wrote_of f = ap wrote_of e ∙ wrote_append f (ending 0 cause) ∙ ap (λ t. wrote_of f ++ t) (ending_writes cause) ∙ append-nil (wrote_of f) in
      let done = finished d t.payloads t.rest (entries_of 0 journal) (wrote_of tape) cause (x.served 0 cause refl).allowed fin t.ended in
      no_write_left d small (entries_of 0 journal') (marks_of 0 f) bytes t.payloads t.rest ((y.served 0 cause' refl).written f b bytes e')
      (subst (λ m. Frames d.max m t.payloads t.rest) all t.frames)
      (sym out ∙ done.written ∙ ap (λ j. sent d (entries_of 0 j) 0 t.payloads) same)

module _ {C A M : Type 0} (d : DeskRules C A) (r : ServiceRules C A M) (memories : List M) (arrival : Arrival) (small : d.max < 2 ^ 31)
    (tape tape' : List Mark) (journal journal' : List (JournalEntry C A)) (cause cause' : EndCause)
    (x : RunOf d r memories arrival tape journal cause) (y : RunOf d r memories arrival tape' journal' cause')
    (reads : read_of tape ≡ read_of tape') (same : journal ≡ journal') (fin : cause ≢ NoMemory) (fin' : cause' ≢ NoMemory) where
  -- two runs that have read the same and called the same read and write the same
  same_transfers : (f t t' : List Mark) → tape ≡ f ++ (t ++ ending 0 cause) → tape' ≡ f ++ (t' ++ ending 0 cause')
      → AllByRecursion IsTransfer t → AllByRecursion IsTransfer t' → AllByRecursion (λ m. connection_of m ≡ 0) t
      → AllByRecursion (λ m. connection_of m ≡ 0) t' → t ≡ t'
  same_transfers f [] [] e e' i i' o o' = refl
  same_transfers f [] (Read c' b ∷ t') e e' i i' o o' =
      absurd (no_more_reads d r memories arrival small tape tape' journal journal' cause cause' x y reads same fin f (t' ++ ending 0 cause') b e (e' ∙ ap (λ k. f ++ Read k b ∷ (t' ++ ending 0 cause')) o'.0))
  same_transfers f [] (Wrote c' b ∷ t') e e' i i' o o' =
      absurd (no_more_writes d r memories arrival small tape tape' journal journal' cause cause' x y reads same fin f (t' ++ ending 0 cause') b e (e' ∙ ap (λ k. f ++ Wrote k b ∷ (t' ++ ending 0 cause')) o'.0))
  same_transfers f [] (Opened c' ∷ t') e e' i i' o o' = absurd i'.0
  same_transfers f [] (Ended c' ∷ t') e e' i i' o o' = absurd i'.0
  same_transfers f [] (ReadFailed c' ∷ t') e e' i i' o o' = absurd i'.0
  same_transfers f [] (WriteFailed c' ∷ t') e e' i i' o o' = absurd i'.0
  same_transfers f [] (Closed c' ∷ t') e e' i i' o o' = absurd i'.0
  same_transfers f (Read c a ∷ t) [] e e' i i' o o' =
      absurd (no_more_reads d r memories arrival small tape' tape journal' journal cause' cause y x (sym reads) (sym same) fin' f (t ++ ending 0 cause) a e' (e ∙ ap (λ k. f ++ Read k a ∷ (t ++ ending 0 cause)) o.0))
  same_transfers f (Read c a ∷ t) (Read c' b ∷ t') e e' i i' o o' =
      let bytes : a ≡ b = two_reads d r memories arrival small tape tape' journal journal' cause cause' x y f f (t ++ ending 0 cause) (t' ++ ending 0 cause') a b (e ∙ ap (λ k. f ++ Read k a ∷ (t ++ ending 0 cause)) o.0) (e' ∙ ap (λ k. f ++ Read k b ∷ (t' ++ ending 0 cause')) o'.0) refl in
      let own : c ≡ c' = o.0 ∙ sym o'.0 in
      let one : Read c a ≡ Read c' b = (λ j. Read (own j) (bytes j)) in
      let rest : t ≡ t' =
      same_transfers (f ++ Read c a ∷ []) t t' (e ∙ sym (append_assoc f (Read c a ∷ []) (t ++ ending 0 cause)))
      (e' ∙ ap (λ m. f ++ m ∷ (t' ++ ending 0 cause')) (sym one) ∙ sym (append_assoc f (Read c a ∷ []) (t' ++ ending 0 cause'))) i.1 i'.1 o.1 o'.1 in
      (λ j. one j ∷ rest j)
  same_transfers f (Read c a ∷ t) (Wrote c' b ∷ t') e e' i i' o o' =
      absurd (read_or_write d r memories arrival small tape journal cause x f (t ++ ending 0 cause) a b _ (e ∙ ap (λ k. f ++ Read k a ∷ (t ++ ending 0 cause)) o.0)
      (subst (λ j. WritesTheRest d (entries_of 0 j) (marks_of 0 f) b) (sym same)
      ((y.served 0 cause' refl).written f (t' ++ ending 0 cause') b (e' ∙ ap (λ k. f ++ Wrote k b ∷ (t' ++ ending 0 cause')) o'.0))) refl)
  same_transfers f (Read c a ∷ t) (Opened c' ∷ t') e e' i i' o o' = absurd i'.0
  same_transfers f (Read c a ∷ t) (Ended c' ∷ t') e e' i i' o o' = absurd i'.0
  same_transfers f (Read c a ∷ t) (ReadFailed c' ∷ t') e e' i i' o o' = absurd i'.0
  same_transfers f (Read c a ∷ t) (WriteFailed c' ∷ t') e e' i i' o o' = absurd i'.0
  same_transfers f (Read c a ∷ t) (Closed c' ∷ t') e e' i i' o o' = absurd i'.0
  same_transfers f (Wrote c a ∷ t) [] e e' i i' o o' =
      absurd (no_more_writes d r memories arrival small tape' tape journal' journal cause' cause y x (sym reads) (sym same) fin' f (t ++ ending 0 cause) a e' (e ∙ ap (λ k. f ++ Wrote k a ∷ (t ++ ending 0 cause)) o.0))
  same_transfers f (Wrote c a ∷ t) (Read c' b ∷ t') e e' i i' o o' =
      absurd (read_or_write d r memories arrival small tape' journal' cause' y f (t' ++ ending 0 cause') b a _ (e' ∙ ap (λ k. f ++ Read k b ∷ (t' ++ ending 0 cause')) o'.0)
      (subst (λ j. WritesTheRest d (entries_of 0 j) (marks_of 0 f) a) same
      ((x.served 0 cause refl).written f (t ++ ending 0 cause) a (e ∙ ap (λ k. f ++ Wrote k a ∷ (t ++ ending 0 cause)) o.0))) refl)
  same_transfers f (Wrote c a ∷ t) (Wrote c' b ∷ t') e e' i i' o o' =
      let bytes : a ≡ b = two_writes d r memories arrival small tape tape' journal journal' cause cause' x y f (t ++ ending 0 cause) (t' ++ ending 0 cause') a b (e ∙ ap (λ k. f ++ Wrote k a ∷ (t ++ ending 0 cause)) o.0) (e' ∙ ap (λ k. f ++ Wrote k b ∷ (t' ++ ending 0 cause')) o'.0) same in
      let own : c ≡ c' = o.0 ∙ sym o'.0 in
      let one : Wrote c a ≡ Wrote c' b = (λ j. Wrote (own j) (bytes j)) in
      let rest : t ≡ t' =
      same_transfers (f ++ Wrote c a ∷ []) t t' (e ∙ sym (append_assoc f (Wrote c a ∷ []) (t ++ ending 0 cause)))
      (e' ∙ ap (λ m. f ++ m ∷ (t' ++ ending 0 cause')) (sym one) ∙ sym (append_assoc f (Wrote c a ∷ []) (t' ++ ending 0 cause'))) i.1 i'.1 o.1 o'.1 in
      (λ j. one j ∷ rest j)
  same_transfers f (Wrote c a ∷ t) (Opened c' ∷ t') e e' i i' o o' = absurd i'.0
  same_transfers f (Wrote c a ∷ t) (Ended c' ∷ t') e e' i i' o o' = absurd i'.0
  same_transfers f (Wrote c a ∷ t) (ReadFailed c' ∷ t') e e' i i' o o' = absurd i'.0
  same_transfers f (Wrote c a ∷ t) (WriteFailed c' ∷ t') e e' i i' o o' = absurd i'.0
  same_transfers f (Wrote c a ∷ t) (Closed c' ∷ t') e e' i i' o o' = absurd i'.0
  same_transfers f (Opened c ∷ t) t' e e' i i' o o' = absurd i.0
  same_transfers f (Ended c ∷ t) t' e e' i i' o o' = absurd i.0
  same_transfers f (ReadFailed c ∷ t) t' e e' i i' o o' = absurd i.0
  same_transfers f (WriteFailed c ∷ t) t' e e' i i' o o' = absurd i.0
  same_transfers f (Closed c ∷ t) t' e e' i i' o o' = absurd i.0

-- Two runs on the same bytes, neither of which ended for want of memory, are one run.
pub same_run_of_bytes : {C A M : Type 0} (d : DeskRules C A) (r : ServiceRules C A M) (memories : List M) (arrival : Arrival) (small : d.max < 2 ^ 31)
    (tape tape' : List Mark) (journal journal' : List (JournalEntry C A)) (cause cause' : EndCause)
    (x : RunOf d r memories arrival tape journal cause) (y : RunOf d r memories arrival tape' journal' cause')
    → cause ≢ NoMemory → cause' ≢ NoMemory → (tape ≡ tape') × (journal ≡ journal') × (cause ≡ cause')
same_run_of_bytes d r memories arrival small tape tape' journal journal' cause cause' x y fin fin' =
    let c = x.headline.each 0 cause refl in
    let c' = y.headline.each 0 cause' refl in
    let t = c.talk in
    let t' = c'.talk in
    let s = x.served 0 cause refl in
    let s' = y.served 0 cause' refl in
    let es = entries_of 0 journal in
    let es' = entries_of 0 journal' in
    let reads : read_of tape ≡ read_of tape' =
    same_reads d small arrival.bytes (read_of tape) (read_of tape') s.front s'.front t.payloads t'.payloads t.rest t'.rest t.frames t'.frames es es' (wrote_of tape)
    (wrote_of tape') cause cause' s.allowed s'.allowed fin fin' s.to_its_end s'.to_its_end t.open_before t'.open_before t.ended t'.ended in
    let split = same_split d r memories arrival small tape tape' journal journal' cause cause' x y reads in
    let done = finished d t.payloads t.rest es (wrote_of tape) cause s.allowed fin t.ended in
    let done' = finished d t'.payloads t'.rest es' (wrote_of tape') cause' s'.allowed fin' t'.ended in
    let q : es ≡ journal = own_filter (λ e. e.key.c) journal (own_entries d r memories arrival tape journal cause x) in
    let q' : es' ≡ journal' = own_filter (λ e. e.key.c) journal' (own_entries d r memories arrival tape' journal' cause' y) in
    let called_same : calls_of es ≡ calls_of es' = done.done ∙ ap (λ p. called d 0 p) split.0 ∙ sym done'.done in
    let long : length journal ≡ length journal' =
    ap length (sym q) ∙ sym (length-map es _) ∙ ap length called_same ∙ length-map es' _ ∙ ap length q' in
    let same : journal ≡ journal' = same_journal d r memories arrival small tape tape' journal journal' cause cause' x y reads long in
    let m = c.marks in
    let m' = c'.marks in
    let own = own_marks d r memories arrival tape journal cause x in
    let own' = own_marks d r memories arrival tape' journal' cause' y in
    let e : tape ≡ Opened 0 ∷ (m.transfers ++ ending 0 cause) = sym (own_filter connection_of tape own) ∙ m.shape in
    let e' : tape' ≡ Opened 0 ∷ (m'.transfers ++ ending 0 cause') = sym (own_filter connection_of tape' own') ∙ m'.shape in
    let o = all_front (λ k. connection_of k ≡ 0) m.transfers (ending 0 cause) (subst (AllByRecursion (λ k. connection_of k ≡ 0)) e own).1 in
    let o' = all_front (λ k. connection_of k ≡ 0) m'.transfers (ending 0 cause') (subst (AllByRecursion (λ k. connection_of k ≡ 0)) e' own').1 in
    let transfers : m.transfers ≡ m'.transfers =
    same_transfers d r memories arrival small tape tape' journal journal' cause cause' x y reads same fin fin' (Opened 0 ∷ []) m.transfers m'.transfers e e' m.only m'.only o o' in
    let causes : cause ≡ cause' =
    same_cause d t.payloads t'.payloads t'.rest es es' (wrote_of tape) (wrote_of tape') cause cause' split.0 s.allowed s'.allowed fin fin'
    (subst (λ rest. EndsBy d t.payloads rest es (wrote_of tape) cause) split.1 t.ended) t'.ended in
    (e ∙ (λ i. Opened 0 ∷ (transfers i ++ ending 0 (causes i))) ∙ sym e', same, causes)

pub one_text : {C A M : Type 0} (d : DeskRules C A) (r : ServiceRules C A M) (memories : List M) (line : JournalEntry C A → List ℕ) (arrival : Arrival)
    (text other : List ℕ) → d.max < 2 ^ 31 → (x : IsReportOfOneConnection d r memories is_scripted line arrival text) (y : IsReportOfOneConnection d r memories is_scripted line arrival other)
    → x.cause ≢ NoMemory → y.cause ≢ NoMemory → text ≡ other
one_text d r memories line arrival text other small x y fin fin' =
    let same = same_run_of_bytes d r memories arrival small x.tape y.tape x.journal y.journal x.cause y.cause x.run y.run fin fin' in
    x.printed ∙ (λ i. report line (same.0 i) (same.1 i) (same.2 i ∷ [])) ∙ sym y.printed
