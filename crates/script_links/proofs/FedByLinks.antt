-- Links that have followed their script, and a loop that serves them, make a run that the script feeds.
use Rattle.std.proofs.Common.{◌≡◌, ℕ, ◌+◌, ◌-◌, ◌<◌, ◌≤◌, ◌⊎◌, Bool, true, false, min, Option, None, Some, List, [], ◌∷◌, ◌++◌, length, take, refl, sym, ap, ◌∙◌, subst, inl, inr, arith, take_all}
use Rattle.std.proofs.lemmas.Bool.{cases_lt}
use Rattle.std.proofs.lemmas.Option.{none-some, same_Some}
use Rattle.streams.specs.declared.marks.Mark.{Mark}
use Rattle.streams.specs.declared.marks.Mark.TheVariants.{Read, Ended, Wrote, ReadFailed, WriteFailed}
use Rattle.streams.specs.declared.rest_place.RestPlace.{RestPlace}
use Rattle.host_model.specs.Marks.{marks_of, input, output}
use Rattle.host_model.specs.Journal.{JournalEntry, entries_of}
use Rattle.host_model.specs.DeskRules.{DeskRules}
use Rattle.machine_model.specs.AtFronts.{IsOpenBehind}
use Rattle.machine_model.specs.Resting.{IsPlaceOfRest}
use Rattle.script_model.specs.Arrival.{bytes_of_pieces, ends_from}
use Rattle.script_model.specs.Feeding.{piece_end, TakesItsPart}
use Rattle.script_model.specs.ScriptLines.{PlanLine, resting, PlanRule, takes_most, blocks, fails, ScriptPlan, pieces_on, rule_of}
use Rattle.script_model.specs.Playing.{most_read}
use Rattle.script_model.specs.RestLines.{IsOverBudget, HasPlaceFor}
use Rattle.script_model.specs.Writing.{writes_in, WritesUnder}
use Rattle.script_model.specs.Fed.{IsFedBy}
use Rattle.script_links.specs.Shows.{IsNextOfPiece, taken_under}
use Rattle.script_links.specs.Followed.{rests_in, HasRestedBehind, FollowsScript}
use Rattle.script_links.specs.Serves.{LendsWhatIsMissing, OffersTheRest, ServesLinks}

part_taken : (max : ℕ) (pieces : List (List ℕ)) (read bytes : List ℕ) (lent : ℕ) → IsNextOfPiece pieces read bytes lent → LendsWhatIsMissing max read lent → TakesItsPart max (ends_from 0 pieces) read bytes
part_taken max pieces read bytes lent next lends =
    let count : length bytes ≡ min (min lent most_read) (piece_end (ends_from 0 pieces) (length read) - length read) = next.count in
    let smaller : lent ≡ min lends.missing 65536 = lends.smaller in
    record { payloads = lends.payloads; rest = lends.rest; frames = lends.frames; missing = lends.missing; completes = lends.completes; some = next.some; count = omega arith }

take_smaller : (count : ℕ) (left : List ℕ) → take (min count (length left)) left ≡ take count left
take_smaller count left = go (cases_lt count (length left))
  where
    go : (count < length left) ⊎ (length left ≤ count) → take (min count (length left)) left ≡ take count left
    go (inl l) = ap (λ n. take n left) (let e : min count (length left) ≡ count = omega arith in e)
    go (inr l) =
        ap (λ n. take n left) (let e : min count (length left) ≡ length left = omega arith in e) ∙ take_all (length left) left (omega arith) ∙ sym (take_all count left l)

module _ {C A : Type 0} (d : DeskRules C A) (es : List (JournalEntry C A)) (marks : List Mark) (bytes : List ℕ) (offered : ℕ) (o : OffersTheRest d es marks bytes offered) (some : 0 < length bytes) where
  under : (rule : Option PlanRule) → taken_under rule offered ≡ Some (length bytes) → WritesUnder rule d es marks bytes
  under None e =
      let all : offered ≡ length bytes = same_Some offered (length bytes) e in
      let whole : bytes ≡ o.left = o.front ∙ take_all (length bytes) o.left (let same : offered ≡ length o.left = o.all in omega arith) in
      record { payloads = o.payloads; rest = o.rest; frames = o.frames; some = some; whole = ap (λ xs. output marks ++ xs) whole ∙ o.unsent }
  under (Some (takes_most count)) e =
      let part : min count offered ≡ length bytes = same_Some (min count offered) (length bytes) e in
      record {
        payloads = o.payloads;
        rest = o.rest;
        frames = o.frames;
        offered = o.left;
        left = o.unsent;
        some = some;
        part = o.front ∙ ap (λ n. take n o.left) (sym part ∙ ap (min count) o.all) ∙ take_smaller count o.left;
      }
  under (Some blocks) e = absurd (none-some (length bytes) e)
  under (Some fails) e = absurd (none-some (length bytes) e)

pub fed : {C A : Type 0} (d : DeskRules C A) (budget : ℕ) (script : ScriptPlan) (tape : List Mark) (places : List RestPlace) (lengths : List ℕ) (journal : List (JournalEntry C A))
    → FollowsScript script tape places lengths → ServesLinks d budget tape places lengths journal → IsFedBy d budget script tape journal
fed d budget script tape places lengths journal f s = record {
  opened = f.opened;
  each_read = λ c. record {
    bytes = f.bytes c;
    reads = λ front back bytes e.
        let shown = f.marks front back (Read c bytes) e in
        part_taken d.max (pieces_on c script.lines) (input (marks_of c front)) bytes shown.0 shown.2 (s.reads front back c bytes shown.0 e shown.1);
    ended = λ front back e. f.marks front back (Ended c) e;
    failed = λ front back e. f.marks front back (ReadFailed c) e;
  };
  each_written = λ c. record {
    writes = λ front back bytes e.
        let shown = f.marks front back (Wrote c bytes) e in
        under d (entries_of c journal) (marks_of c front) bytes shown.0 (s.writes front back c bytes shown.0 e shown.1) shown.2 (rule_of script c (writes_in (marks_of c front))) shown.3;
    fails_so = λ front back e. f.marks front back (WriteFailed c) e;
  };
  rests = λ before behind e. place before (f.rests before behind e);
}
  where
    place : (before : List PlanLine) → HasRestedBehind before tape places → HasPlaceFor d budget before tape journal
    place before r =
        let rested : IsPlaceOfRest d journal r.front × (r.at.held ≡ true → IsOverBudget d.max budget r.front) = s.rests (rests_in before) r.at r.front r.back r.noted r.split r.place in
        record { front = r.front; back = r.back; split = r.split; opened = r.opened; no_more = r.no_more; at_rest = rested.0; all_read = all_or_over r.at.held refl rested.1 }
      where
        all_or_over : (held : Bool) → r.at.held ≡ held → (r.at.held ≡ true → IsOverBudget d.max budget r.front)
            → ((c : ℕ) → IsOpenBehind c r.front → input (marks_of c r.front) ≡ bytes_of_pieces (pieces_on c before)) ⊎ IsOverBudget d.max budget r.front
        all_or_over true is over = inr (over is)
        all_or_over false is over = inl (r.all_read is)
