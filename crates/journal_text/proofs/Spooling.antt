-- How the lines of segments go to a sink, one segment after the other.
use Rattle.std.proofs.Common.{◌≡◌, ℕ, ◌+◌, ◌*◌, List, [], ◌++◌, take, drop, Option, sym, ap, ◌∙◌, subst, arith, append-nil, drop-drop}
use Rattle.std.proofs.Math.Seq.{take-add}
use Rattle.std.proofs.lemmas.Grind.{flat_map-append}
use Rattle.streams.specs.Content.{told_more}
use Rattle.text_out.specs.Line.{line_of}
use Rattle.value_text.specs.Handing.{HandsOver}
use Rattle.host_model.specs.Report.{journal_lines}
use Rattle.call_rules.specs.Entries.{CallEntry}
use Rattle.journal_text.specs.EntryText.{entry_text}
use Rattle.journal_text.specs.JournalStates.{IsTakenShort}
use Rattle.journal_text.specs.Segments.{segment_room, IsSpooledInPart}
use Rattle.journal_text.proofs.Written.{told_twice}

-- the lines of the first segments were taken, and the others are left
pub record IsSpooledTo (before now : Option (List ℕ)) (faults count : ℕ) (entries left : List CallEntry) : Type 0 where
  pub segments : ℕ
  pub left_are : left ≡ drop (segment_room * segments) entries
  pub taken : now ≡ told_more before (journal_lines entry_text (take (segment_room * segments) entries))
  pub kept : count ≡ faults

-- the next one is taken
pub next_spooled : (x y z : Option (List ℕ)) (f g h : ℕ) (entries left rest : List CallEntry) → IsSpooledTo x y f g entries left
    → HandsOver y z g h (journal_lines entry_text (take segment_room left)) [] → rest ≡ drop segment_room left → IsSpooledTo x z f h entries rest
next_spooled x y z f g h entries left rest to one rest_is =
    let n : ℕ = to.segments in
    let before : List CallEntry = take (segment_room * n) entries in
    let next : List CallEntry = take segment_room left in
    let more : segment_room * (n + 1) ≡ segment_room * n + segment_room = omega arith in
    let all : take (segment_room * (n + 1)) entries ≡ before ++ next =
    ap (λ k. take k entries) more ∙ take-add (segment_room * n) segment_room entries ∙ ap (λ r. before ++ take segment_room r) (sym to.left_are) in
    let lines : journal_lines entry_text (take (segment_room * (n + 1)) entries) ≡ journal_lines entry_text before ++ journal_lines entry_text next =
    ap (journal_lines entry_text) all ∙ flat_map-append (λ e. line_of (entry_text e)) before next in
    let passed : z ≡ told_more y (journal_lines entry_text next) =
    one.taken ∙ ap (told_more y) (sym (append-nil one.front) ∙ sym one.whole) in
    record {
      segments = n + 1;
      left_are = rest_is ∙ ap (drop segment_room) to.left_are ∙ drop-drop segment_room (segment_room * n) entries ∙ ap (λ k. drop k entries) (sym more);
      taken = passed ∙ ap (λ t. told_more t (journal_lines entry_text next)) to.taken
          ∙ told_twice x (journal_lines entry_text before) (journal_lines entry_text next) ∙ ap (told_more x) (sym lines);
      kept = one.kept ∙ to.kept;
    }

-- some of the next one is lost
pub spooled_short : (x y z : Option (List ℕ)) (f g : ℕ) (entries left same : List CallEntry) → IsSpooledTo x y f g entries left
    → IsTakenShort y z (journal_lines entry_text (take segment_room left)) → same ≡ left → IsSpooledInPart x z entries same
spooled_short x y z f g entries left same to short is =
    record {
      segments = to.segments;
      left_are = is ∙ to.left_are;
      part = subst (λ o. IsTakenShort o z (journal_lines entry_text (take segment_room same))) to.taken
          (subst (λ (es : List CallEntry). IsTakenShort y z (journal_lines entry_text (take segment_room es))) (sym is) short);
    }
