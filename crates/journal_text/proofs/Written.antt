-- How lines that go to a sink through a buffer make up its bytes.
use Rattle.std.proofs.Common.{◌≡◌, ℕ, ◌+◌, ◌-◌, ◌^◌, Bool, false, List, [], ◌∷◌, ◌++◌, length, min, Option, Result, Ok, Err, refl, sym, ap, ◌∙◌, arith, append-nil, length-append}
use Rattle.std.specs.Prelude.{MatchResult}
use Rattle.std.specs.List.{flat_map}
use Rattle.std.specs.Result.{IsErr}
use Rattle.std.proofs.lemmas.Grind.{flat_map-append}
use Rattle.streams.specs.Content.{told_more}
use Rattle.streams.specs.Taken.{IsTakenBut, IsTakenInPart}
use Rattle.streams.proofs.Taking.{none_taken, all_taken, all_told, taken_on}
use Rattle.value_text.specs.Handing.{HandsOver, BreaksOff}
use Rattle.text_out.specs.Line.{line_of}
use Rattle.call_rules.specs.Entries.{CallEntry}
use Rattle.journal_text.specs.EntryText.{entry_text, call_line}
use Rattle.journal_text.specs.JournalStates.{appended_count, IsWritten, IsCutShort}

-- nothing more changes nothing
pub told_none : (x : Option (List ℕ)) → told_more x [] ≡ x
told_none x = sym (all_told x x [] (none_taken x []))

-- two texts, one behind the other
pub told_twice : (x : Option (List ℕ)) (a b : List ℕ) → told_more (told_more x a) b ≡ told_more x (a ++ b)
told_twice x a b =
    let both : IsTakenBut x (told_more (told_more x a) b) (a ++ b) [] =
    taken_on x (told_more x a) (told_more (told_more x a) b) (a ++ b) b [] (record { front = a; taken = refl; whole = refl })
    (all_taken (told_more x a) (told_more (told_more x a) b) b refl) in
    all_told x (told_more (told_more x a) b) (a ++ b) both

-- what is told from an empty buffer on
from_empty : (x : Option (List ℕ)) (start text : List ℕ) → start ≡ [] → told_more (told_more x start) text ≡ told_more x text
from_empty x start text none = ap (λ s. told_more (told_more x s) text) none ∙ ap (λ t. told_more t text) (told_none x)

-- a line that was handed to the buffer whole
line_held : (x y : Option (List ℕ)) (start held line : List ℕ) (f g : ℕ) → start ≡ [] → HandsOver (told_more x start) (told_more y held) f g line []
    → told_more y held ≡ told_more x line
line_held x y start held line f g none one =
    one.taken ∙ ap (told_more (told_more x start)) (sym (append-nil one.front) ∙ sym one.whole) ∙ from_empty x start line none

-- and that was then handed to the sink
line_out : (x y z : Option (List ℕ)) (start held line : List ℕ) (f g : ℕ) → start ≡ [] → HandsOver (told_more x start) (told_more y held) f g line []
    → z ≡ told_more y held → z ≡ told_more x line
line_out x y z start held line f g none one passed = passed ∙ line_held x y start held line f g none one

-- or of which only a part was handed to the sink
line_held_back : (x y z : Option (List ℕ)) (start held line : List ℕ) (f g : ℕ) → start ≡ [] → HandsOver (told_more x start) (told_more y held) f g line []
    → IsTakenInPart y z held → IsCutShort x z line
line_held_back x y z start held line f g none one part =
    let rest : told_more z part.lost ≡ told_more y held =
    ap (λ t. told_more t part.lost) part.taken.taken ∙ told_twice y part.taken.front part.lost ∙ ap (told_more y) (sym part.taken.whole) in
    record { lost = part.lost; rest = rest ∙ line_held x y start held line f g none one }

-- or of which only a part was handed to the buffer
pub line_broken : (x y : Option (List ℕ)) (start held line : List ℕ) (f g : ℕ) → start ≡ [] → BreaksOff (told_more x start) (told_more y held) f g line
    → IsCutShort x y line
line_broken x y start held line f g none one =
    let handed : IsTakenBut (told_more x start) (told_more y held) line one.lost = one.part in
    let whole : told_more (told_more y held) one.lost ≡ told_more (told_more x start) line =
    ap (λ t. told_more t one.lost) handed.taken ∙ told_twice (told_more x start) handed.front one.lost ∙ ap (told_more (told_more x start)) (sym handed.whole) in
    record { lost = held ++ one.lost; rest = sym (told_twice y held one.lost) ∙ whole ∙ from_empty x start line none }

-- the answer of a call that breaks off
pub cut_result : {A E : Type 0} (x y : Option (List ℕ)) (line : List ℕ) (result : Result A E) → IsErr result → IsCutShort x y line
    → MatchResult result (λ _. y ≡ told_more x line) (λ _. IsCutShort x y line)
cut_result x y line (Ok a) e cut = absurd (let g : ⊥ = cc in g)
cut_result x y line (Err e) h cut = cut

-- the answer of a call that empties the buffer
pub line_flushed : {A E : Type 0} (x y z : Option (List ℕ)) (start held line : List ℕ) (f g : ℕ) (result : Result A E) → start ≡ []
    → HandsOver (told_more x start) (told_more y held) f g line [] → MatchResult result (λ _. z ≡ told_more y held) (λ _. IsTakenInPart y z held)
    → MatchResult result (λ _. z ≡ told_more x line) (λ _. IsCutShort x z line)
line_flushed x y z start held line f g (Ok a) none one passed = line_out x y z start held line f g none one passed
line_flushed x y z start held line f g (Err e) none one part = line_held_back x y z start held line f g none one part

-- the lines of the entries with one more
pub lines_with : (entries : List CallEntry) (e : CallEntry)
    → flat_map (λ e. line_of (entry_text e)) entries ++ call_line e ≡ flat_map (λ e. line_of (entry_text e)) (entries ++ e ∷ [])
lines_with entries e =
    ap (λ t. flat_map (λ e. line_of (entry_text e)) entries ++ t) (sym (append-nil (call_line e)))
    ∙ sym (flat_map-append (λ e. line_of (entry_text e)) entries (e ∷ []))

-- an entry more, whose line the sink took
pub written_on : (x y z : Option (List ℕ)) (held empty : List ℕ) (entries longer : List CallEntry) (e : CallEntry) (count next : ℕ) (torn : Bool) → torn ≡ false
    → IsWritten x y held entries count torn → z ≡ told_more y (call_line e) → empty ≡ [] → longer ≡ entries ++ e ∷ [] → next ≡ min (count + 1) (2 ^ 64 - 1)
    → IsWritten x z empty longer next torn
written_on x y z held empty entries longer e count next torn whole before taken none more one_more =
    let lines : List ℕ = flat_map (λ e. line_of (entry_text e)) entries in
    let counted : count ≡ appended_count entries = before.counted in
    let length_is : length longer ≡ length entries + 1 = ap length more ∙ length-append entries (e ∷ []) in
    record {
      counted = omega (arith, counted, length_is, one_more);
      passed_on = λ _. none;
      lines = λ _. taken ∙ ap (λ t. told_more t (call_line e)) (before.lines whole) ∙ told_twice x lines (call_line e) ∙ ap (told_more x) (lines_with entries e)
          ∙ ap (λ es. told_more x (flat_map (λ e. line_of (entry_text e)) es)) (sym more);
    }
