-- The causes of a run are told by its tape, its journal, and the lines of its connections.
use Rattle.std.proofs.Common.{◌≡◌, ℕ, ℤ, pos, suc, ◌+◌, ◌<◌, ◌^◌, ◌==◌, if◌then◌else◌, Some, List, [], ◌∷◌, ◌++◌, length, codes, get_or, slice_get, refl, sym, ap, ◌∙◌, subst, arith, append_assoc}
use Rattle.streams.specs.declared.outcomes.EnvelopeFault.{EnvelopeFault}
use Rattle.streams.specs.declared.outcomes.EnvelopeFault.TheVariants.{Short}
use Rattle.streams.specs.declared.marks.Mark.{Mark}
use Rattle.host_model.specs.declared.cause.EndCause.{EndCause}
use Rattle.host_model.specs.declared.cause.EndCause.TheVariants.{End, Cut, SizeFault, Envelope, ReadFault, WriteFault, NoMemory, Stopped}
use Rattle.host_model.specs.Marks.{marks_of, input, output}
use Rattle.host_model.specs.Journal.{JournalEntry, ServiceRules, entries_of}
use Rattle.host_model.specs.DeskRules.{DeskRules}
use Rattle.host_model.specs.Conversation.{EndsBy, Talk}
use Rattle.host_model.specs.Headline.{Headline}
use Rattle.host_model.specs.Report.{numbered, cause_text, hex_or_dash, end_text, end_lines}
use Rattle.host_model.proofs.Framing.{only_split}
use Rattle.host_model.proofs.Lists.{cons_parts, append_parts}
use Rattle.script_model.proofs.Causes.{one_size}
use Rattle.script_model.proofs.Closing.{one_fault}
use Rattle.script_model.proofs.ReportLines.{line_behind}

-- the kind of a cause, by number, and what a cause has beside it
abbrev cause_kind : EndCause → ℕ
cause_kind End = 0
cause_kind Cut = 1
cause_kind (SizeFault size) = 2
cause_kind (Envelope fault) = 3
cause_kind ReadFault = 4
cause_kind WriteFault = 5
cause_kind NoMemory = 6
cause_kind Stopped = 7

abbrev size_told : EndCause → ℤ
size_told (SizeFault size) = size
size_told _ = pos 0

abbrev fault_told : EndCause → EnvelopeFault
fault_told (Envelope fault) = fault
fault_told _ = Short

-- the cause of this kind, with this size or this fault
abbrev cause_from : ℕ → ℤ → EnvelopeFault → EndCause
cause_from kind size fault =
    if kind == 0 then End else (if kind == 1 then Cut else (if kind == 2 then SizeFault size else (if kind == 3 then Envelope fault
    else (if kind == 4 then ReadFault else (if kind == 5 then WriteFault else (if kind == 6 then NoMemory else Stopped))))))

cause_again : (cause : EndCause) → cause ≡ cause_from (cause_kind cause) (size_told cause) (fault_told cause)
cause_again End = refl
cause_again Cut = refl
cause_again (SizeFault size) = refl
cause_again (Envelope fault) = refl
cause_again ReadFault = refl
cause_again WriteFault = refl
cause_again NoMemory = refl
cause_again Stopped = refl

-- a cause is of another's kind
of_kind : (cause other : EndCause) → cause_kind cause ≡ cause_kind other → other ≡ cause_from (cause_kind cause) (size_told other) (fault_told other)
of_kind cause other kind = cause_again other ∙ ap (λ k. cause_from k (size_told other) (fault_told other)) (sym kind)

-- two causes of one kind that the same payloads, rest, entries and bytes end by are one
one_cause : {C A : Type 0} (d : DeskRules C A) (ps : List (List ℕ)) (rest : List ℕ) (es : List (JournalEntry C A)) (out : List ℕ) (cause other : EndCause)
    → cause_kind cause ≡ cause_kind other → EndsBy d ps rest es out cause → EndsBy d ps rest es out other → cause ≡ other
one_cause d ps rest es out End other kind x y = sym (of_kind End other kind)
one_cause d ps rest es out Cut other kind x y = sym (of_kind Cut other kind)
one_cause d ps rest es out (SizeFault size) other kind x y =
    let is : other ≡ SizeFault (size_told other) = of_kind (SizeFault size) other kind in
    let z : EndsBy d ps rest es out (SizeFault (size_told other)) = subst (EndsBy d ps rest es out) is y in
    ap SizeFault (one_size size (size_told other) x.2.0 z.2.0 (sym x.1 ∙ z.1)) ∙ sym is
one_cause d ps rest es out (Envelope fault) other kind x y =
    let is : other ≡ Envelope (fault_told other) = of_kind (Envelope fault) other kind in
    let z : EndsBy d ps rest es out (Envelope (fault_told other)) = subst (EndsBy d ps rest es out) is y in
    ap Envelope (one_fault d ps ps fault (fault_told other) refl x.0 z.0) ∙ sym is
one_cause d ps rest es out ReadFault other kind x y = sym (of_kind ReadFault other kind)
one_cause d ps rest es out WriteFault other kind x y = sym (of_kind WriteFault other kind)
one_cause d ps rest es out NoMemory other kind x y = sym (of_kind NoMemory other kind)
one_cause d ps rest es out Stopped other kind x y = sym (of_kind Stopped other kind)

-- and so are two that end one talk
one_end : {C A : Type 0} (d : DeskRules C A) (bytes : List ℕ) (es : List (JournalEntry C A)) (out : List ℕ) (cause other : EndCause) → d.max < 2 ^ 31
    → cause_kind cause ≡ cause_kind other → Talk d bytes es out cause → Talk d bytes es out other → cause ≡ other
one_end d bytes es out cause other small kind x y =
    let split = only_split d.max bytes x.rest y.rest x.payloads y.payloads small x.frames y.frames in
    one_cause d y.payloads y.rest es out cause other kind
    (subst (λ rest. EndsBy d y.payloads rest es out cause) split.1 (subst (λ ps. EndsBy d ps x.rest es out cause) split.0 x.ended)) y.ended

-- the kind of a cause by its word, behind a blank
abbrev cause_read : List ℕ → ℕ
cause_read text =
    if get_or text 1 0 == 69 then (if get_or text 3 0 == 100 then 0 else 3) else (if get_or text 1 0 == 67 then 1
    else (if get_or text 1 0 == 83 then (if get_or text 2 0 == 105 then 2 else 7) else (if get_or text 1 0 == 82 then 4
    else (if get_or text 1 0 == 87 then 5 else 6))))

cause_told : (cause : EndCause) (more : List ℕ) → cause_read (32 ∷ (cause_text cause ++ more)) ≡ cause_kind cause
cause_told End more = refl
cause_told Cut more = refl
cause_told (SizeFault size) more = refl
cause_told (Envelope fault) more = refl
cause_told ReadFault more = refl
cause_told WriteFault more = refl
cause_told NoMemory more = refl
cause_told Stopped more = refl

-- a connection's line, and what stands behind it, in words
in_words : (c : ℕ) (cause : EndCause) (out more : List ℕ)
    → end_text c cause out ++ more ≡ numbered (codes "conn") c ++ 32 ∷ (cause_text cause ++ 32 ∷ (hex_or_dash out ++ more))
in_words c cause out more =
    append_assoc (numbered (codes "conn") c ++ 32 ∷ cause_text cause) (32 ∷ hex_or_dash out) more
    ∙ append_assoc (numbered (codes "conn") c) (32 ∷ cause_text cause) (32 ∷ (hex_or_dash out ++ more))

same_kind_told : (c : ℕ) (cause other : EndCause) (out more behind : List ℕ) → end_text c cause out ++ more ≡ end_text c other out ++ behind → cause_kind cause ≡ cause_kind other
same_kind_told c cause other out more behind e =
    let word : List ℕ = numbered (codes "conn") c in
    let x : List ℕ = 32 ∷ (cause_text cause ++ 32 ∷ (hex_or_dash out ++ more)) in
    let y : List ℕ = 32 ∷ (cause_text other ++ 32 ∷ (hex_or_dash out ++ behind)) in
    let rest : x ≡ y = (append_parts word word x y refl (sym (in_words c cause out more) ∙ e ∙ in_words c other out behind)).1 in
    sym (cause_told cause (32 ∷ (hex_or_dash out ++ more))) ∙ ap cause_read rest ∙ cause_told other (32 ∷ (hex_or_dash out ++ behind))

-- what holds of each cause, by its connection, the first of which is this
abbrev AllFrom : (ℕ → EndCause → Type 0) → ℕ → List EndCause → Type 0
AllFrom P at [] = Unit {0}
AllFrom P at (cause ∷ causes) = P at cause × AllFrom P (suc at) causes

all_from : (P : ℕ → EndCause → Type 0) (at : ℕ) (causes : List EndCause) → ((k : ℕ) (cause : EndCause) → slice_get causes k ≡ Some cause → P (at + k) cause) → AllFrom P at causes
all_from P at [] h = tt
all_from P at (cause ∷ causes) h =
    let first : at + 0 ≡ at = omega arith in
    (subst (λ n. P n cause) first (h 0 cause refl), all_from P (suc at) causes (λ k x is. let next : at + suc k ≡ suc at + k = omega arith in subst (λ n. P n x) next (h (suc k) x is)))

module _ {C A : Type 0} (d : DeskRules C A) (small : d.max < 2 ^ 31) (tape : List Mark) (journal : List (JournalEntry C A)) where
  -- a connection's talk ends by this cause
  abbrev EndsItsTalk : ℕ → EndCause → Type 0
  EndsItsTalk c cause = Talk d (input (marks_of c tape)) (entries_of c journal) (output (marks_of c tape)) cause

  -- lines of the same connections tell the same causes
  same_ends : (at : ℕ) (causes ends : List EndCause) (rest : List ℕ) → length causes ≡ length ends → AllFrom EndsItsTalk at causes → AllFrom EndsItsTalk at ends
      → end_lines tape at causes ++ rest ≡ end_lines tape at ends ++ rest → causes ≡ ends
  same_ends at [] [] rest counts x y e = refl
  same_ends at [] (end ∷ ends) rest counts x y e = absurd (let f : ⊥ = omega (arith, counts) in f)
  same_ends at (cause ∷ causes) [] rest counts x y e = absurd (let f : ⊥ = omega (arith, counts) in f)
  same_ends at (cause ∷ causes) (end ∷ ends) rest counts x y e =
      let out : List ℕ = output (marks_of at tape) in
      let more : List ℕ = 10 ∷ (end_lines tape (suc at) causes ++ rest) in
      let behind : List ℕ = 10 ∷ (end_lines tape (suc at) ends ++ rest) in
      let lines : end_text at cause out ++ more ≡ end_text at end out ++ behind =
      sym (line_behind (end_text at cause out) (end_lines tape (suc at) causes) rest) ∙ e ∙ line_behind (end_text at end out) (end_lines tape (suc at) ends) rest in
      let one : cause ≡ end =
      one_end d (input (marks_of at tape)) (entries_of at journal) out cause end small (same_kind_told at cause end out more behind lines) x.0 y.0 in
      let parts = append_parts (end_text at cause out) (end_text at end out) more behind (ap (λ z. length (end_text at z out)) one) lines in
      let others : causes ≡ ends =
      same_ends (suc at) causes ends rest (omega (arith, counts)) x.1 y.1
      (cons_parts 10 10 (end_lines tape (suc at) causes ++ rest) (end_lines tape (suc at) ends ++ rest) parts.1).1 in
      (λ i. one i ∷ others i)

  ends_talks : {M : Type 0} (r : ServiceRules C A M) (memories : List M) (causes : List EndCause) → Headline d r memories tape journal causes → AllFrom EndsItsTalk 0 causes
  ends_talks r memories causes x =
      all_from EndsItsTalk 0 causes
      (λ k cause is. let same : k ≡ 0 + k = omega arith in subst (λ n. EndsItsTalk n cause) same (x.each k cause is).talk)

  -- two lists of causes of one tape and one journal, whose lines are the same, are one
  pub same_causes : {M : Type 0} (r : ServiceRules C A M) (memories : List M) (causes ends : List EndCause) (rest : List ℕ) → length causes ≡ length ends
      → Headline d r memories tape journal causes → Headline d r memories tape journal ends → end_lines tape 0 causes ++ rest ≡ end_lines tape 0 ends ++ rest → causes ≡ ends
  same_causes r memories causes ends rest counts x y e =
      same_ends 0 causes ends rest counts (ends_talks r memories causes x) (ends_talks r memories ends y) e
