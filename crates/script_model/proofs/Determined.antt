-- Two runs on the same bytes, whose marks are of the same kinds and whose journals are of one length, are one run.
use Rattle.std.proofs.Common.{◌≡◌, ℕ, suc, ◌+◌, ◌-◌, ◌<◌, ◌≤◌, ◌^◌, ◌⊎◌, inl, inr, min, Option, None, Some, MatchOption, List, [], ◌∷◌, ◌++◌, length, map, slice_get, refl, sym, ap, ◌∙◌, subst, arith, append_assoc, append-nil, length-append}
use Rattle.std.specs.Int.{w32, to_be_bytes, from_be_bytes}
use Rattle.std.specs.List.{AllByRecursion}
use Rattle.std.proofs.lemmas.List.{length-map}
use Rattle.std.proofs.lemmas.Nat.{from_be_bytes-to_be_bytes_4}
use Rattle.streams.specs.declared.marks.Mark.{Mark}
use Rattle.streams.specs.declared.marks.Mark.TheVariants.{Read, Wrote}
use Rattle.host_model.specs.declared.cause.EndCause.{EndCause}
use Rattle.host_model.specs.declared.cause.EndCause.TheVariants.{End, Cut, SizeFault, Envelope, ReadFault, WriteFault, NoMemory, Stopped}
use Rattle.host_model.specs.Frames.{Frames}
use Rattle.host_model.specs.Marks.{connection_of, read_by, written_by}
use Rattle.host_model.specs.Journal.{JournalEntry, ServiceRules, Legal, IsAnswered, after_call, entries_of}
use Rattle.host_model.specs.DeskRules.{DeskRules}
use Rattle.host_model.specs.Conversation.{Done, EndsBy, but_last, called, called_by, sent}
use Rattle.host_model.proofs.Framing.{only_split}
use Rattle.host_model.proofs.Lists.{append_parts, cons_parts, nil-cons}
use Rattle.script_model.specs.Feeding.{Completes, TakesItsPart, piece_end}
use Rattle.script_model.specs.Arrival.{Arrival}
use Rattle.script_model.specs.Rehearsal.{IsRunOfArrivals, is_scripted}
use Rattle.script_model.proofs.Marked.{kind_of, same_mark, same_read, same_written, read_of, wrote_of, read_append, read_first, all_own, own_filter}

-- a run of one connection on these bytes
abbrev pub RunOf : {C A M : Type 0} → DeskRules C A → ServiceRules C A M → List M → Arrival → List Mark → List (JournalEntry C A) → EndCause → Type 0
RunOf d r memories arrival tape journal cause = IsRunOfArrivals d r memories is_scripted (λ c. arrival) tape journal (cause ∷ [])

-- how many bytes are missing is one number
missing_one : (max : ℕ) (rest : List ℕ) (m n : ℕ) → max < 2 ^ 31 → Completes max rest m → Completes max rest n → m ≡ n
missing_one max rest m n small (a, inl x) (b, inl y) = omega (arith, x, y)
missing_one max rest m n small (a, inl x) (b, inr y) =
    let long : length rest ≡ length (to_be_bytes w32 y.size) + length y.bytes = ap length y.same ∙ length-append (to_be_bytes w32 y.size) y.bytes in
    absurd (let f : ⊥ = omega (arith, a, x, long) in f)
missing_one max rest m n small (a, inr x) (b, inl y) =
    let long : length rest ≡ length (to_be_bytes w32 x.size) + length x.bytes = ap length x.same ∙ length-append (to_be_bytes w32 x.size) x.bytes in
    absurd (let f : ⊥ = omega (arith, b, y, long) in f)
missing_one max rest m n small (a, inr x) (b, inr y) =
    let p = append_parts (to_be_bytes w32 x.size) (to_be_bytes w32 y.size) x.bytes y.bytes refl (sym x.same ∙ y.same) in
    let within : x.size ≤ max = x.within in
    let within' : y.size ≤ max = y.within in
    let size : x.size ≡ y.size = sym (from_be_bytes-to_be_bytes_4 x.size (omega arith)) ∙ ap (from_be_bytes w32) p.0 ∙ from_be_bytes-to_be_bytes_4 y.size (omega arith) in
    let long : length x.bytes ≡ length y.bytes = ap length p.1 in
    omega (arith, size, long, x.all, y.all)

-- a read at one place has one length
pub one_length : (max : ℕ) (ends read bytes other : List ℕ) → max < 2 ^ 31 → TakesItsPart max ends read bytes → TakesItsPart max ends read other → length bytes ≡ length other
one_length max ends read bytes other small a b =
    let split = only_split max read a.rest b.rest a.payloads b.payloads small a.frames b.frames in
    let same : a.missing ≡ b.missing = missing_one max b.rest a.missing b.missing small (subst (λ r. Completes max r a.missing) split.1 a.completes) b.completes in
    a.count ∙ ap (λ n. min (min n 65536) (piece_end ends (length read) - length read)) same ∙ sym b.count

-- the same entries by the same keys and calls, since each answer is the service's
pub one_answer : {A M : Type 0} (f : M → A) (o : Option M) (a b : A) → MatchOption o ⊥ (λ m. a ≡ f m) → MatchOption o ⊥ (λ m. b ≡ f m) → a ≡ b
one_answer f None a b x y = absurd x
one_answer f (Some m) a b x y = x ∙ sym y

-- what a connection's entries are called by
abbrev pub calls_of : {C A : Type 0} → List (JournalEntry C A) → List (ℕ × C)
calls_of es = map (λ e. (e.key.i, e.call)) es

abbrev pub OwnEntries : {C A : Type 0} → List (JournalEntry C A) → Type 0
OwnEntries es = AllByRecursion (λ e. e.key.c ≡ 0) es

same_entries : {C A M : Type 0} (r : ServiceRules C A M) (memories : List M) (es fs : List (JournalEntry C A)) → OwnEntries es → OwnEntries fs
    → Legal r memories es → Legal r memories fs → calls_of es ≡ calls_of fs → es ≡ fs
same_entries r memories [] [] x y l k same = refl
same_entries r memories [] (f ∷ fs) x y l k same = absurd (let f : ⊥ = cc in f)
same_entries r memories (e ∷ es) [] x y l k same = absurd (let f : ⊥ = cc in f)
same_entries {C} {A} {M} r memories (e ∷ es) (f ∷ fs) x y l k same =
    let p = cons_parts (e.key.i, e.call) (f.key.i, f.call) (calls_of es) (calls_of fs) same in
    let number : e.key.i ≡ f.key.i = ap (λ (t : ℕ × C). t.0) p.0 in
    let call : e.call ≡ f.call = ap (λ (t : ℕ × C). t.1) p.0 in
    let own : e.key.c ≡ f.key.c = x.0 ∙ sym y.0 in
    let answered : IsAnswered r memories (record { key = e.key; call = f.call; answer = e.answer }) =
    subst (λ c. MatchOption (slice_get memories (r.slot c)) ⊥ (λ m. e.answer ≡ (r.rule c m).0)) call l.0 in
    let answer : e.answer ≡ f.answer = one_answer (λ m. (r.rule f.call m).0) (slice_get memories (r.slot f.call)) e.answer f.answer answered k.0 in
    let entry : e ≡ f = (λ i. record { key = record { c = own i; i = number i }; call = call i; answer = answer i }) in
    let rest : es ≡ fs =
    same_entries r (after_call r memories f.call) es fs x.1 y.1 (subst (λ c. Legal r (after_call r memories c) es) call l.1) k.1 p.1 in
    (λ i. entry i ∷ rest i)

-- the calls of payloads begin with those of all but the last
more_called : {C A : Type 0} (d : DeskRules C A) (i : ℕ) (ps : List (List ℕ)) → (more : List (ℕ × C)) × (called d i ps ≡ called d i (but_last ps) ++ more)
more_called d i [] = ([], refl)
more_called d i (p ∷ []) = (called d i (p ∷ []), refl)
more_called d i (p ∷ q ∷ ps) =
    let t = more_called d (suc i) (q ∷ ps) in
    (t.0, ap (λ c. called_by i (d.decide p) ++ c) t.1 ∙ sym (append_assoc (called_by i (d.decide p)) (called d (suc i) (but_last (q ∷ ps))) t.0))

none_more : {X : Type 0} (xs ys more : List X) → xs ≡ ys ++ more → length xs ≡ length ys → xs ≡ ys
none_more xs ys [] e l = e ∙ append-nil ys
none_more xs ys (m ∷ more) e l =
    let long : length xs ≡ length ys + length (m ∷ more) = ap length e ∙ length-append ys (m ∷ more) in absurd (let f : ⊥ = omega (arith, long, l) in f)

-- all payloads are called, or all but the last
abbrev pub IsDone : {C A : Type 0} → DeskRules C A → List (JournalEntry C A) → List (List ℕ) → Type 0
IsDone d es ps = Done d es ps ⊎ Done d es (but_last ps)

pub same_calls : {C A : Type 0} (d : DeskRules C A) (ps : List (List ℕ)) (es fs : List (JournalEntry C A)) → IsDone d es ps → IsDone d fs ps → length es ≡ length fs
    → calls_of es ≡ calls_of fs
same_calls d ps es fs (inl a) (inl b) l = a ∙ sym b
same_calls d ps es fs (inr a) (inr b) l = a ∙ sym b
same_calls d ps es fs (inl a) (inr b) l =
    let t = more_called d 0 ps in
    none_more (calls_of es) (calls_of fs) t.0 (a ∙ t.1 ∙ ap (λ c. c ++ t.0) (sym b)) (length-map es _ ∙ l ∙ sym (length-map fs _))
same_calls d ps es fs (inr a) (inl b) l =
    let t = more_called d 0 ps in
    sym (none_more (calls_of fs) (calls_of es) t.0 (b ∙ t.1 ∙ ap (λ c. c ++ t.0) (sym a)) (length-map fs _ ∙ sym l ∙ sym (length-map es _)))

-- it is so by whichever cause a connection ended
pub done_of : {C A : Type 0} (d : DeskRules C A) (ps : List (List ℕ)) (rest : List ℕ) (es : List (JournalEntry C A)) (out : List ℕ) (cause : EndCause)
    → EndsBy d ps rest es out cause → IsDone d es ps
done_of d ps rest es out End e = inl e.2.done
done_of d ps rest es out Cut e = inl e.3.done
done_of d ps rest es out (SizeFault z) e = inl e.3.done
done_of d ps rest es out (Envelope fault) e = inl e.2.done
done_of d ps rest es out ReadFault e = inl e.2.done
done_of d ps rest es out WriteFault e = inl e.2
done_of d ps rest es out NoMemory e = e.done
done_of d ps rest es out Stopped e = e.done

module _ {C A M : Type 0} (d : DeskRules C A) (r : ServiceRules C A M) (memories : List M) (arrival : Arrival) where
  -- all marks and entries are of connection 0
  pub own_marks : (tape : List Mark) (journal : List (JournalEntry C A)) (cause : EndCause) → RunOf d r memories arrival tape journal cause
      → AllByRecursion (λ m. connection_of m ≡ 0) tape
  own_marks tape journal cause x = all_own connection_of tape (λ c more. x.headline.no_marks c more)

  pub own_entries : (tape : List Mark) (journal : List (JournalEntry C A)) (cause : EndCause) → RunOf d r memories arrival tape journal cause → OwnEntries journal
  own_entries tape journal cause x = all_own (λ e. e.key.c) journal (λ c more. x.headline.no_entries c more)

  -- all bytes, with those of one read in sight
  with_read : (tape : List Mark) (journal : List (JournalEntry C A)) (cause : EndCause) (x : RunOf d r memories arrival tape journal cause)
      → (front back : List Mark) (bytes : List ℕ) → tape ≡ front ++ Read 0 bytes ∷ back
      → (more : List ℕ) × (arrival.bytes ≡ read_of front ++ (bytes ++ more))
  with_read tape journal cause x front back bytes e =
      let s = (x.served 0 cause refl).front in (
        read_of back ++ s.0,
        s.1 ∙ ap (λ t. read_of t ++ s.0) e ∙ ap (λ t. t ++ s.0) (read_append front (Read 0 bytes ∷ back))
            ∙ append_assoc (read_of front) (bytes ++ read_of back) s.0 ∙ ap (λ t. read_of front ++ t) (append_assoc bytes (read_of back) s.0),
      )

module _ {C A M : Type 0} (d : DeskRules C A) (r : ServiceRules C A M) (memories : List M) (arrival : Arrival) (small : d.max < 2 ^ 31)
    (tape tape' : List Mark) (journal journal' : List (JournalEntry C A)) (cause cause' : EndCause)
    (x : RunOf d r memories arrival tape journal cause) (y : RunOf d r memories arrival tape' journal' cause') where
  -- two reads after the same bytes have read the same
  pub two_reads : (f f' b b' : List Mark) (bytes other : List ℕ) → tape ≡ f ++ Read 0 bytes ∷ b → tape' ≡ f' ++ Read 0 other ∷ b'
      → read_of f ≡ read_of f' → bytes ≡ other
  two_reads f f' b b' bytes other e e' fronts =
      let part = (x.served 0 cause refl).fed f b bytes e in
      let part' = (y.served 0 cause' refl).fed f' b' other e' in
      let long : length bytes ≡ length other =
      one_length d.max arrival.ends (read_of f') bytes other small (subst (λ t. TakesItsPart d.max arrival.ends t bytes) fronts part) part' in
      let all = with_read d r memories arrival tape journal cause x f b bytes e in
      let all' = with_read d r memories arrival tape' journal' cause' y f' b' other e' in
      (append_parts bytes other all.0 all'.0 long
      (append_parts (read_of f) (read_of f') (bytes ++ all.0) (other ++ all'.0) (ap length fronts) (sym all.1 ∙ all'.1)).1).0

  -- marks of the same kinds read the same
  pub same_inputs : (f f' b b' : List Mark) → tape ≡ f ++ b → tape' ≡ f' ++ b' → read_of f ≡ read_of f'
      → AllByRecursion (λ m. connection_of m ≡ 0) b → AllByRecursion (λ m. connection_of m ≡ 0) b' → map kind_of b ≡ map kind_of b' → read_of b ≡ read_of b'
  same_inputs f f' [] [] e e' fronts own own' kinds = refl
  same_inputs f f' [] (n ∷ b') e e' fronts own own' kinds = absurd (nil-cons _ _ kinds)
  same_inputs f f' (m ∷ b) [] e e' fronts own own' kinds = absurd (nil-cons _ _ (sym kinds))
  same_inputs f f' (m ∷ b) (n ∷ b') e e' fronts own own' kinds =
      let k = cons_parts (kind_of m) (kind_of n) (map kind_of b) (map kind_of b') kinds in
      let one : read_by m ≡ read_by n =
      same_read 0 m n k.0 own.0 own'.0
      (λ bytes other is is'. two_reads f f' b b' bytes other (e ∙ ap (λ t. f ++ t ∷ b) is) (e' ∙ ap (λ t. f' ++ t ∷ b') is') fronts) in
      let step : read_of (m ∷ []) ≡ read_of (n ∷ []) = read_first m [] own.0 ∙ ap (λ t. t ++ []) one ∙ sym (read_first n [] own'.0) in
      let now : read_of (f ++ m ∷ []) ≡ read_of (f' ++ n ∷ []) = read_append f (m ∷ []) ∙ (λ i. fronts i ++ step i) ∙ sym (read_append f' (n ∷ [])) in
      let rest : read_of b ≡ read_of b' =
      same_inputs (f ++ m ∷ []) (f' ++ n ∷ []) b b' (e ∙ sym (append_assoc f (m ∷ []) b)) (e' ∙ sym (append_assoc f' (n ∷ []) b')) now own.1 own'.1 k.1 in
      read_first m b own.0 ∙ (λ i. one i ++ rest i) ∙ sym (read_first n b' own'.0)

  -- runs that read the same, with as many entries, have the same payloads and one journal
  pub same_split : read_of tape ≡ read_of tape' → ((x.headline.each 0 cause refl).talk.payloads ≡ (y.headline.each 0 cause' refl).talk.payloads)
      × ((x.headline.each 0 cause refl).talk.rest ≡ (y.headline.each 0 cause' refl).talk.rest)
  same_split reads =
      let t = (x.headline.each 0 cause refl).talk in
      let t' = (y.headline.each 0 cause' refl).talk in
      only_split d.max (read_of tape') t.rest t'.rest t.payloads t'.payloads small (subst (λ b. Frames d.max b t.payloads t.rest) reads t.frames) t'.frames

  pub same_journal : read_of tape ≡ read_of tape' → length journal ≡ length journal' → journal ≡ journal'
  same_journal reads long =
      let t = (x.headline.each 0 cause refl).talk in
      let t' = (y.headline.each 0 cause' refl).talk in
      let own = own_entries d r memories arrival tape journal cause x in
      let own' = own_entries d r memories arrival tape' journal' cause' y in
      let q : entries_of 0 journal ≡ journal = own_filter (λ e. e.key.c) journal own in
      let q' : entries_of 0 journal' ≡ journal' = own_filter (λ e. e.key.c) journal' own' in
      let done : IsDone d (entries_of 0 journal) t.payloads =
      done_of d t.payloads t.rest (entries_of 0 journal) (wrote_of tape) cause t.ended in
      let done' : IsDone d (entries_of 0 journal') t'.payloads =
      done_of d t'.payloads t'.rest (entries_of 0 journal') (wrote_of tape') cause' t'.ended in
      let calls : calls_of (entries_of 0 journal) ≡ calls_of (entries_of 0 journal') =
      same_calls d t'.payloads (entries_of 0 journal) (entries_of 0 journal') (subst (IsDone d (entries_of 0 journal)) (same_split reads).0 done) done'
      (ap length q ∙ long ∙ sym (ap length q')) in
      same_entries r memories journal journal' own own' x.headline.legal y.headline.legal (sym (ap calls_of q) ∙ calls ∙ ap calls_of q')

  -- two writes after the same marks have written the same
  pub two_writes : (f b b' : List Mark) (bytes other : List ℕ) → tape ≡ f ++ Wrote 0 bytes ∷ b → tape' ≡ f ++ Wrote 0 other ∷ b' → journal ≡ journal' → bytes ≡ other
  two_writes f b b' bytes other e e' same =
      let w = (x.served 0 cause refl).written f b bytes e in
      let w' = (y.served 0 cause' refl).written f b' other e' in
      let split = only_split d.max (read_of f) w.rest w'.rest w.payloads w'.payloads small w.frames w'.frames in
      let total : wrote_of f ++ bytes ≡ wrote_of f ++ other =
      w.whole ∙ (λ i. sent d (entries_of 0 (same i)) 0 (split.0 i)) ∙ sym w'.whole in
      (append_parts (wrote_of f) (wrote_of f) bytes other refl total).1

  -- marks of the same kinds are the same
  pub same_marks : (f b b' : List Mark) → tape ≡ f ++ b → tape' ≡ f ++ b' → AllByRecursion (λ m. connection_of m ≡ 0) b
      → AllByRecursion (λ m. connection_of m ≡ 0) b' → map kind_of b ≡ map kind_of b' → journal ≡ journal' → b ≡ b'
  same_marks f [] [] e e' own own' kinds same = refl
  same_marks f [] (n ∷ b') e e' own own' kinds same = absurd (nil-cons _ _ kinds)
  same_marks f (m ∷ b) [] e e' own own' kinds same = absurd (nil-cons _ _ (sym kinds))
  same_marks f (m ∷ b) (n ∷ b') e e' own own' kinds same =
      let k = cons_parts (kind_of m) (kind_of n) (map kind_of b) (map kind_of b') kinds in
      let reads : read_by m ≡ read_by n =
      same_read 0 m n k.0 own.0 own'.0
      (λ bytes other is is'. two_reads f f b b' bytes other (e ∙ ap (λ t. f ++ t ∷ b) is) (e' ∙ ap (λ t. f ++ t ∷ b') is') refl) in
      let writes : written_by m ≡ written_by n =
      same_written 0 m n k.0 own.0 own'.0
      (λ bytes other is is'. two_writes f b b' bytes other (e ∙ ap (λ t. f ++ t ∷ b) is) (e' ∙ ap (λ t. f ++ t ∷ b') is') same) in
      let one : m ≡ n = same_mark m n k.0 (own.0 ∙ sym own'.0) reads writes in
      let rest : b ≡ b' =
      same_marks (f ++ m ∷ []) b b' (e ∙ sym (append_assoc f (m ∷ []) b))
      (e' ∙ ap (λ t. f ++ t ∷ b') (sym one) ∙ sym (append_assoc f (m ∷ []) b')) own.1 own'.1 k.1 same in
      (λ i. one i ∷ rest i)
