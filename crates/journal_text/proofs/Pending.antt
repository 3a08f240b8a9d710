-- How lines that stand in a buffer make up the bytes of a sink.
use Rattle.std.proofs.Common.{◌≡◌, ℕ, ◌+◌, ◌-◌, ◌^◌, Bool, true, false, List, [], ◌∷◌, ◌++◌, length, min, Option, Some, sym, ap, subst, ◌∙◌, arith, append-nil, length-append}
use Rattle.streams.specs.Content.{told_more}
use Rattle.streams.specs.Taken.{IsTakenInPart}
use Rattle.value_text.specs.Handing.{HandsOver, BreaksOff}
use Rattle.host_model.specs.Report.{journal_lines}
use Rattle.call_rules.specs.Entries.{CallEntry}
use Rattle.journal_text.specs.EntryText.{entry_text, call_line}
use Rattle.journal_text.specs.JournalStates.{appended_count, IsCutShort}
use Rattle.journal_text.specs.Spooled.{HasLinesWith, HasSomeLines, IsSpooled}
use Rattle.journal_text.proofs.Written.{told_none, told_twice, lines_with}

-- a line behind the lines of the entries
line_behind : (x y : Option (List ℕ)) (held : List ℕ) (entries : List CallEntry) (e : CallEntry) → HasLinesWith x y held entries
    → told_more (told_more y held) (call_line e) ≡ told_more x (journal_lines entry_text (entries ++ e ∷ []))
line_behind x y held entries e lines =
    ap (λ t. told_more t (call_line e)) lines ∙ told_twice x (journal_lines entry_text entries) (call_line e) ∙ ap (told_more x) (lines_with entries e)

-- an entry more, whose line was handed to the buffer whole
pub spooled_on : (x y z : Option (List ℕ)) (held rest : List ℕ) (entries longer : List CallEntry) (e : CallEntry) (count next f g : ℕ) (unwritten : Option CallEntry) (failed : Bool)
    → failed ≡ false → IsSpooled x y held entries count unwritten failed → HandsOver (told_more y held) (told_more z rest) f g (call_line e) [] → longer ≡ entries ++ e ∷ []
    → next ≡ min (count + 1) (2 ^ 64 - 1) → IsSpooled x z rest longer next unwritten failed
spooled_on x y z held rest entries longer e count next f g unwritten failed whole before one more one_more =
    let counted : count ≡ appended_count entries = before.counted in
    let length_is : length longer ≡ length entries + 1 = ap length more ∙ length-append entries (e ∷ []) in
    let passed : told_more z rest ≡ told_more (told_more y held) (call_line e) =
    one.taken ∙ ap (told_more (told_more y held)) (sym (append-nil one.front) ∙ sym one.whole) in
    record {
      counted = omega (arith, counted, length_is, one_more);
      lines = λ _. passed ∙ line_behind x y held entries e (before.lines whole) ∙ ap (λ es. told_more x (journal_lines entry_text es)) (sym more);
      none = before.none;
      begun = λ is. absurd (let never : ⊥ = cc in never);
    }

-- of a line a part was handed to the buffer: the sink has taken a beginning of the lines of the entries and of this one
pub line_short : (x y z : Option (List ℕ)) (held rest : List ℕ) (entries : List CallEntry) (e : CallEntry) (f g : ℕ) → HasLinesWith x y held entries
    → BreaksOff (told_more y held) (told_more z rest) f g (call_line e) → IsCutShort x z (journal_lines entry_text (entries ++ e ∷ []))
line_short x y z held rest entries e f g lines one =
    let lost : List ℕ = one.lost in
    let passed : told_more (told_more z rest) lost ≡ told_more (told_more y held) (call_line e) =
    ap (λ t. told_more t lost) one.part.taken ∙ told_twice (told_more y held) one.part.front lost ∙ ap (told_more (told_more y held)) (sym one.part.whole) in
    record { lost = rest ++ lost; rest = sym (told_twice z rest lost) ∙ passed ∙ line_behind x y held entries e lines }

pub spool_torn : (x y z : Option (List ℕ)) (held rest : List ℕ) (entries : List CallEntry) (e : CallEntry) (count f g : ℕ) (before_it unwritten : Option CallEntry) (failed torn : Bool)
    → failed ≡ false → IsSpooled x y held entries count before_it failed → BreaksOff (told_more y held) (told_more z rest) f g (call_line e) → torn ≡ true → unwritten ≡ Some e
    → IsSpooled x z rest entries count unwritten torn
spool_torn x y z held rest entries e count f g before_it unwritten failed torn whole before one is_torn unwritten_is =
    record {
      counted = before.counted;
      lines = λ is. absurd (let never : ⊥ = cc in never);
      none = λ is. absurd (let never : ⊥ = cc in never);
      begun = λ _. subst (HasSomeLines x z entries) (sym unwritten_is) (line_short x y z held rest entries e f g (before.lines whole) one);
    }

-- all that was held was handed to the sink
pub spool_emptied : (x y z : Option (List ℕ)) (held rest : List ℕ) (entries : List CallEntry) (count : ℕ) (unwritten : Option CallEntry) (failed : Bool) → failed ≡ false
    → IsSpooled x y held entries count unwritten failed → z ≡ told_more y held → rest ≡ [] → IsSpooled x z rest entries count unwritten failed
spool_emptied x y z held rest entries count unwritten failed whole before passed empty =
    record {
      counted = before.counted;
      lines = λ _. ap (told_more z) empty ∙ told_none z ∙ passed ∙ before.lines whole;
      none = before.none;
      begun = λ is. absurd (let never : ⊥ = cc in never);
    }

-- of what was held a part was handed to the sink
pub spool_broken : (x y z : Option (List ℕ)) (held rest : List ℕ) (entries : List CallEntry) (count : ℕ) (unwritten : Option CallEntry) (failed torn : Bool) → failed ≡ false
    → IsSpooled x y held entries count unwritten failed → IsTakenInPart y z held → torn ≡ true → IsSpooled x z rest entries count unwritten torn
spool_broken x y z held rest entries count unwritten failed torn whole before part is_torn =
    let passed : told_more z part.lost ≡ told_more y held =
    ap (λ t. told_more t part.lost) part.taken.taken ∙ told_twice y part.taken.front part.lost ∙ ap (told_more y) (sym part.taken.whole) in
    record {
      counted = before.counted;
      lines = λ is. absurd (let never : ⊥ = cc in never);
      none = λ is. absurd (let never : ⊥ = cc in never);
      begun = λ _. subst (HasSomeLines x z entries) (sym (before.none whole)) (record { lost = part.lost; rest = passed ∙ before.lines whole });
    }
