-- A report over one script is of one run.
use Rattle.std.proofs.Common.{◌≡◌, ℕ, ◌<◌, ◌^◌, List, [], ◌∷◌, ◌++◌, map, length, get_or, codes, refl, sym, ap, ◌∙◌, subst, arith, append_assoc}
use Rattle.std.specs.Fmt.{digits}
use Rattle.streams.specs.declared.marks.Mark.{Mark}
use Rattle.host_model.specs.declared.cause.EndCause.{EndCause}
use Rattle.host_model.specs.Marks.{marks_of, ending}
use Rattle.host_model.specs.Journal.{JournalEntry, ServiceRules, entries_of}
use Rattle.host_model.specs.DeskRules.{DeskRules}
use Rattle.host_model.specs.Conversation.{EndsBy}
use Rattle.host_model.specs.Report.{report, tape_lines, journal_lines, end_lines, numbered}
use Rattle.host_model.proofs.Lists.{append_parts}
use Rattle.text_out.specs.Line.{line_of}
use Rattle.host_model.specs.declared.cause.EndCause.TheVariants.{End, Cut, SizeFault, Envelope, ReadFault, WriteFault, NoMemory, Stopped}
use Rattle.script_model.specs.Arrival.{Arrival}
use Rattle.script_model.specs.Rehearsal.{HaveCallLines, IsReportOfOneConnection, is_scripted}
use Rattle.script_model.proofs.Marked.{kind_of, read_of, wrote_of}
use Rattle.script_model.proofs.Determined.{RunOf, own_marks, same_inputs, same_split, same_journal, same_marks}
use Rattle.script_model.proofs.ReportLines.{same_lines}
use Rattle.script_model.proofs.Causes.{ended_by, ended_marks, one_cause, MayMix}

-- Runs whose marks are of the same kinds, with as many entries, are one run.
pub same_run : {C A M : Type 0} (d : DeskRules C A) (r : ServiceRules C A M) (memories : List M) (arrival : Arrival) (small : d.max < 2 ^ 31)
    (tape tape' : List Mark) (journal journal' : List (JournalEntry C A)) (cause cause' : EndCause)
    (x : RunOf d r memories arrival tape journal cause) (y : RunOf d r memories arrival tape' journal' cause')
    → map kind_of tape ≡ map kind_of tape' → length journal ≡ length journal' → (tape ≡ tape' → journal ≡ journal' → MayMix cause cause' → ⊥)
    → (tape ≡ tape') × (journal ≡ journal') × (cause ≡ cause')
same_run d r memories arrival small tape tape' journal journal' cause cause' x y kinds long apart =
    let own = own_marks d r memories arrival tape journal cause x in
    let own' = own_marks d r memories arrival tape' journal' cause' y in
    let reads : read_of tape ≡ read_of tape' =
    same_inputs d r memories arrival small tape tape' journal journal' cause cause' x y [] [] tape tape' refl refl refl own own' kinds in
    let journals : journal ≡ journal' = same_journal d r memories arrival small tape tape' journal journal' cause cause' x y reads long in
    let tapes : tape ≡ tape' = same_marks d r memories arrival small tape tape' journal journal' cause cause' x y [] tape tape' refl refl own own' kinds journals in
    let c = x.headline.each 0 cause refl in
    let c' = y.headline.each 0 cause' refl in
    let split = same_split d r memories arrival small tape tape' journal journal' cause cause' x y reads in
    let counts : ended_marks (ending 0 cause) ≡ ended_marks (ending 0 cause') =
    sym (ended_by (marks_of 0 tape) cause c.marks) ∙ ap (λ t. ended_marks (marks_of 0 t)) tapes ∙ ended_by (marks_of 0 tape') cause' c'.marks in (
      tapes,
      journals,
      one_cause d c'.talk.rest c.talk.payloads c'.talk.payloads (entries_of 0 journal) (entries_of 0 journal') (wrote_of tape) (wrote_of tape') cause cause' split.0 (apart tapes journals)
          (x.served 0 cause refl).allowed (y.served 0 cause' refl).allowed counts
          (subst (λ rest. EndsBy d c.talk.payloads rest (entries_of 0 journal) (wrote_of tape) cause) split.1 c.talk.ended) c'.talk.ended,
    )

-- what stands behind the calls in reports that are equal
ends_alike : {C A : Type 0} (line : JournalEntry C A → List ℕ) (tape : List Mark) (journal : List (JournalEntry C A)) (cause cause' : EndCause)
    → report line tape journal (cause ∷ []) ≡ report line tape journal (cause' ∷ [])
    → end_lines tape 0 (cause ∷ []) ++ line_of (numbered (codes "calls") (length journal)) ≡ end_lines tape 0 (cause' ∷ []) ++ line_of (numbered (codes "calls") (length journal))
ends_alike line tape journal cause cause' e =
    let front = tape_lines tape ++ journal_lines line journal in
    let count = line_of (numbered (codes "calls") (length journal)) in
    (append_parts front front (end_lines tape 0 (cause ∷ []) ++ count) (end_lines tape 0 (cause' ∷ []) ++ count) refl
    (sym (append_assoc front (end_lines tape 0 (cause ∷ [])) count) ∙ e ∙ append_assoc front (end_lines tape 0 (cause' ∷ [])) count)).1

-- want of memory and a head that is refused have words of different first bytes
told_apart : {C A : Type 0} (line : JournalEntry C A → List ℕ) (tape : List Mark) (journal : List (JournalEntry C A)) (cause cause' : EndCause)
    → report line tape journal (cause ∷ []) ≡ report line tape journal (cause' ∷ []) → MayMix cause cause' → ⊥
unfolding digits
told_apart line tape journal End cause' e m = m
told_apart line tape journal Cut cause' e m = m
told_apart line tape journal (SizeFault z) cause' e m = m
told_apart line tape journal (Envelope fault) End e m = m
told_apart line tape journal (Envelope fault) Cut e m = m
told_apart line tape journal (Envelope fault) (SizeFault z') e m = m
told_apart line tape journal (Envelope fault) (Envelope fault') e m = m
told_apart line tape journal (Envelope fault) ReadFault e m = m
told_apart line tape journal (Envelope fault) WriteFault e m = m
told_apart line tape journal (Envelope fault) NoMemory e m = let b : 69 ≡ 78 = ap (λ t. get_or t 7 0) (ends_alike line tape journal (Envelope fault) NoMemory e) in let f : ⊥ = omega (arith, b) in f
told_apart line tape journal (Envelope fault) Stopped e m = m
told_apart line tape journal ReadFault cause' e m = m
told_apart line tape journal WriteFault cause' e m = m
told_apart line tape journal NoMemory End e m = m
told_apart line tape journal NoMemory Cut e m = m
told_apart line tape journal NoMemory (SizeFault z') e m = m
told_apart line tape journal NoMemory (Envelope fault') e m = let b : 78 ≡ 69 = ap (λ t. get_or t 7 0) (ends_alike line tape journal NoMemory (Envelope fault') e) in let f : ⊥ = omega (arith, b) in f
told_apart line tape journal NoMemory ReadFault e m = m
told_apart line tape journal NoMemory WriteFault e m = m
told_apart line tape journal NoMemory NoMemory e m = m
told_apart line tape journal NoMemory Stopped e m = m
told_apart line tape journal Stopped cause' e m = m

pub one_run : {C A M : Type 0} (d : DeskRules C A) (r : ServiceRules C A M) (memories : List M) (line : JournalEntry C A → List ℕ) (arrival : Arrival) (text : List ℕ)
    → d.max < 2 ^ 31 → (x y : IsReportOfOneConnection d r memories is_scripted line arrival text) → HaveCallLines line x.journal → HaveCallLines line y.journal
    → (x.tape ≡ y.tape) × (x.journal ≡ y.journal) × (x.cause ≡ y.cause)
one_run d r memories line arrival text small x y lines lines' =
    let told = same_lines line x.tape y.tape x.journal y.journal x.cause y.cause lines lines' (sym x.printed ∙ y.printed) in
    same_run d r memories arrival small x.tape y.tape x.journal y.journal x.cause y.cause x.run y.run told.0 told.1
    (λ tapes journals mix. told_apart line x.tape x.journal x.cause y.cause
    (sym x.printed ∙ y.printed ∙ (λ i. report line (sym tapes i) (sym journals i) (y.cause ∷ []))) mix)
