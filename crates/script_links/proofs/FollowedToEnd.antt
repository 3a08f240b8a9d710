-- Links stay those of their script, follow it at each call, and have followed it to its end once all is over.
use Rattle.std.proofs.Common.{◌≡◌, ◌≢◌, ℕ, zero, suc, ◌+◌, ◌-◌, ◌<◌, ◌≤◌, ◌⊎◌, Bool, true, false, not, nat_lt, nat_le, if◌then◌else◌, List, [], ◌∷◌, ◌++◌, map, length, drop, take, refl, sym, ap, ◌∙◌, subst, inl, inr, arith, append-nil}
use Rattle.std.specs.List.{list_any}
use Rattle.std.proofs.lemmas.Bool.{cases_lt}
use Rattle.std.proofs.lemmas.List.{length-set}
use Rattle.outside.specs.declared.answers.Ask.{Ask}
use Rattle.outside.specs.declared.answers.Hint.TheVariants.{Opened, Over}
use Rattle.outside.specs.declared.answers.Taken.{Taken}
use Rattle.outside.specs.declared.answers.Taken.TheVariants.{Bytes, End, NotYet, Failed, NoMemory}
use Rattle.streams.specs.declared.marks.Mark.TheVariants.{Opened as OpenedMark}
use Rattle.outside.specs.Reading.{bytes_read}
use Rattle.host_model.specs.Marks.{marks_of, input}
use Rattle.host_model.specs.Conversation.{IsPrefix}
use Rattle.script_model.specs.Arrival.{bytes_of_pieces}
use Rattle.script_model.specs.ScriptLines.{PlanLine, ScriptPlan, openings, pieces_on, count_up}
use Rattle.script_model.specs.Playing.{InputFinish, finishes, faults}
use Rattle.script_links.specs.declared.step.Step.{Step}
use Rattle.script_links.specs.declared.step.Step.TheVariants.{Opens, Arrives, Ends, Fails, Rests, Passes}
use Rattle.script_links.specs.declared.step.Came.{Came}
use Rattle.script_links.specs.declared.step.Came.TheVariants.{Gives, Waits, GoesOn}
use Rattle.script_links.specs.ServedScript.{PlainLink, ServedScript, link_at, with_link, is_open_at, is_coming, is_sound_link}
use Rattle.script_links.specs.Plain.{Next, with_arrival, with_finish, with_opening, with_end, with_fault, with_closing, with_written, with_rule_used, with_ruled_fault, with_read, with_bytes_read, oldest_of, taken_by_read, taken_by_rules, left_by_read, left_by_write, left_by_close, MayComeTo, IsFrontOfPiece, after_step, came_of, is_open_link, next_so, next_from, next_of_blocked, next_of}
use Rattle.script_links.specs.Steps.{step_of}
use Rattle.script_links.specs.Shows.{EachShowsItsScript}
use Rattle.script_links.specs.Kept.{IsOverAtEnd}
use Rattle.script_links.specs.Followed.{plan_of_links, FollowsScript, AreLinksOf, FollowsSoFar, FollowsItsScript}
use Rattle.script_links.proofs.Connected.{open_is_there, coming_is_there}
use Rattle.script_links.proofs.Arriving.{kept_at}
use Rattle.script_links.proofs.Acting.{close_follows, read_follows, write_follows}
use Rattle.script_links.proofs.GoingOn.{next_follows}

-- the script of links stays: its lines, and what it brings each connection
pub record KeepsScript (s t : ServedScript) : Type 0 where
  pub lines : t.lines ≡ s.lines
  pub count : length t.links ≡ length s.links
  pub pieces : (c : ℕ) → (link_at t.links c).brought ≡ (link_at s.links c).brought
  pub rules : (c : ℕ) → (link_at t.links c).ruled ≡ (link_at s.links c).ruled

pub plan_kept : (s t : ServedScript) → KeepsScript s t → plan_of_links t ≡ plan_of_links s
plan_kept s t k = λ i. record { lines = k.lines i; count = k.count i; pieces = λ c. k.pieces c i; rules = λ c. k.rules c i }

pub links_before : (script : ScriptPlan) (s t : ServedScript) → KeepsScript s t → AreLinksOf script t → AreLinksOf script s
links_before script s t k own = record {
  sound = own.sound;
  lines = sym k.lines ∙ own.lines;
  count = sym k.count ∙ own.count;
  pieces = λ c below. sym (k.pieces c) ∙ own.pieces c (subst (λ n. c < n) (sym k.count) below);
  rules = λ c below. sym (k.rules c) ∙ own.rules c (subst (λ n. c < n) (sym k.count) below);
}

same_script : (s t : ServedScript) → t.lines ≡ s.lines → t.links ≡ s.links → KeepsScript s t
same_script s t lines links = record {
  lines = lines;
  count = ap length links;
  pieces = λ c. ap (λ (l : List PlainLink). (link_at l c).brought) links;
  rules = λ c. ap (λ (l : List PlainLink). (link_at l c).ruled) links;
}

changed_script : (s t : ServedScript) (c : ℕ) (change : PlainLink → PlainLink) → c < length s.links → t.lines ≡ s.lines → t.links ≡ with_link c change s.links
    → ((link : PlainLink) → (change link).brought ≡ link.brought) → ((link : PlainLink) → (change link).ruled ≡ link.ruled) → KeepsScript s t
changed_script s t c change below lines links brought ruled = record {
  lines = lines;
  count = ap length links ∙ length-set s.links c (change (link_at s.links c));
  pieces = λ x. ap (λ (l : List PlainLink). (link_at l x).brought) links ∙ kept_at s.links c change below (λ (l : PlainLink). l.brought) brought x;
  rules = λ x. ap (λ (l : List PlainLink). (link_at l x).ruled) links ∙ kept_at s.links c change below (λ (l : PlainLink). l.ruled) ruled x;
}

then_keeps : (s t u : ServedScript) → KeepsScript s t → KeepsScript t u → KeepsScript s u
then_keeps s t u k l = record { lines = l.lines ∙ k.lines; count = l.count ∙ k.count; pieces = λ c. l.pieces c ∙ k.pieces c; rules = λ c. l.rules c ∙ k.rules c }

-- changes of a connection leave what the script brings it
read_brought : (count : ℕ) (pieces : List (List ℕ)) (link : PlainLink) → ((with_read count pieces link).brought ≡ link.brought) × ((with_read count pieces link).ruled ≡ link.ruled)
read_brought count [] link = (refl, refl)
read_brought count (piece ∷ pieces) link = go (nat_lt count (length piece))
  where
    go : (b : Bool) → ((if b then record link { pieces = drop count piece ∷ pieces } else record link { pieces = pieces; arrived = link.arrived - 1 }).brought ≡ link.brought)
        × ((if b then record link { pieces = drop count piece ∷ pieces } else record link { pieces = pieces; arrived = link.arrived - 1 }).ruled ≡ link.ruled)
    go true = (refl, refl)
    go false = (refl, refl)

arrival_brought : (link : PlainLink) → ((with_arrival link).brought ≡ link.brought) × ((with_arrival link).ruled ≡ link.ruled)
arrival_brought link = go (nat_lt link.arrived (length link.pieces))
  where
    go : (b : Bool) → ((if b then record link { arrived = suc link.arrived } else link).brought ≡ link.brought) × ((if b then record link { arrived = suc link.arrived } else link).ruled ≡ link.ruled)
    go true = (refl, refl)
    go false = (refl, refl)

module _ (s : ServedScript) (c : ℕ) (here : is_open_at s.links c ≡ true) where
  below : c < length s.links
  below = open_is_there s.links c here

  pub close_keeps : KeepsScript s (left_by_close c s)
  close_keeps = changed_script s (left_by_close c s) c with_closing below refl refl (λ l. refl) (λ l. refl)

  pub read_keeps : (lent : ℕ) (bytes : List ℕ) (taken : Taken) → KeepsScript s (left_by_read c lent bytes taken s)
  read_keeps lent bytes (Bytes count) =
      changed_script s (left_by_read c lent bytes (Bytes count) s) c (with_bytes_read count) below refl refl (λ l. (read_brought count l.pieces l).0) (λ l. (read_brought count l.pieces l).1)
  read_keeps lent bytes End = changed_script s (left_by_read c lent bytes End s) c with_end below refl refl (λ l. refl) (λ l. refl)
  read_keeps lent bytes NotYet = same_script s s refl refl
  read_keeps lent bytes Failed = changed_script s (left_by_read c lent bytes Failed s) c with_fault below refl refl (λ l. refl) (λ l. refl)
  read_keeps lent bytes NoMemory = same_script s s refl refl

  pub write_keeps : (bytes : List ℕ) (taken : Taken) → KeepsScript s (left_by_write c bytes taken s)
  write_keeps bytes (Bytes count) = changed_script s (left_by_write c bytes (Bytes count) s) c (with_written (take count bytes)) below refl refl (λ l. refl) (λ l. refl)
  write_keeps bytes End = same_script s s refl refl
  write_keeps bytes NotYet = changed_script s (left_by_write c bytes NotYet s) c with_rule_used below refl refl (λ l. refl) (λ l. refl)
  write_keeps bytes Failed = changed_script s (left_by_write c bytes Failed s) c with_ruled_fault below refl refl (λ l. refl) (λ l. refl)
  write_keeps bytes NoMemory = same_script s s refl refl

on_open_keeps : (s : ServedScript) (c : ℕ) (change : PlainLink → PlainLink) → ((link : PlainLink) → (change link).brought ≡ link.brought) → ((link : PlainLink) → (change link).ruled ≡ link.ruled)
    → (b : Bool) → is_open_at s.links c ≡ b → KeepsScript s (if b then record s { links = with_link c change s.links } else s)
on_open_keeps s c change brought ruled true here = changed_script s (record s { links = with_link c change s.links }) c change (open_is_there s.links c here) refl refl brought ruled
on_open_keeps s c change brought ruled false shut = same_script s s refl refl

step_keeps : (ask : Ask) (s : ServedScript) (step : Step) → KeepsScript s (after_step ask s step)
step_keeps ask s Opens = go (is_coming (link_at s.links s.opened).stage) refl
  where
    go : (b : Bool) → is_coming (link_at s.links s.opened).stage ≡ b
        → KeepsScript s (if b then record s { opened = suc s.opened; links = with_link s.opened with_opening s.links; tape = s.tape ++ OpenedMark s.opened ∷ [] } else s)
    go true coming =
        changed_script s (record s { opened = suc s.opened; links = with_link s.opened with_opening s.links; tape = s.tape ++ OpenedMark s.opened ∷ [] }) s.opened with_opening
        (coming_is_there s.links s.opened coming) refl refl (λ l. refl) (λ l. refl)
    go false coming = same_script s s refl refl
step_keeps ask s (Arrives c) = on_open_keeps s c with_arrival (λ l. (arrival_brought l).0) (λ l. (arrival_brought l).1) (is_open_at s.links c) refl
step_keeps ask s (Ends c) = on_open_keeps s c (with_finish finishes) (λ l. refl) (λ l. refl) (is_open_at s.links c) refl
step_keeps ask s (Fails c) = on_open_keeps s c (with_finish faults) (λ l. refl) (λ l. refl) (is_open_at s.links c) refl
step_keeps ask s Rests = same_script s _ refl refl
step_keeps ask s Passes = same_script s s refl refl

abbrev end_so : ServedScript → Bool → Next
end_so s b = if not b then record { came = Gives Over; left = record s { over = true } } else record { came = Waits; left = s }

end_keeps : (s : ServedScript) (b : Bool) → KeepsScript s (end_so s b).left
end_keeps s true = same_script s s refl refl
end_keeps s false = same_script s (record s { over = true }) refl refl

from_keeps : (ask : Ask) (steps : List Step) (s : ServedScript) → KeepsScript s (next_from ask steps s).left
from_keeps ask [] s = end_keeps s (list_any is_open_link s.links)
from_keeps ask (step ∷ steps) s =
    by (came_of ask s step) (then_keeps s (record s { steps = steps }) (after_step ask (record s { steps = steps }) step) (same_script s (record s { steps = steps }) refl refl) (step_keeps ask (record s { steps = steps }) step))
    (from_keeps ask steps (after_step ask (record s { steps = steps }) step))
  where
    by : (came : Came) → KeepsScript s (after_step ask (record s { steps = steps }) step)
        → KeepsScript (after_step ask (record s { steps = steps }) step) (next_from ask steps (after_step ask (record s { steps = steps }) step)).left
        → KeepsScript s (next_so came s (after_step ask (record s { steps = steps }) step) (next_from ask steps (after_step ask (record s { steps = steps }) step))).left
    by (Gives hint) one more = one
    by Waits one more = same_script s s refl refl
    by GoesOn one more = then_keeps s (after_step ask (record s { steps = steps }) step) _ one more

pub next_keeps : (ask : Ask) (s : ServedScript) → KeepsScript s (next_of ask s).left
next_keeps ask s = by s.blocked
  where
    by : (blocked : List ℕ) → KeepsScript s (next_of_blocked ask s blocked).left
    by [] = from_keeps ask s.steps s
    by (c ∷ blocked) = same_script s (record s { blocked = blocked }) refl refl

-- so links follow whose script they are, after each call
module _ (s t : ServedScript) (follows : FollowsItsScript s) where
  pub read_on : (c lent : ℕ) (into : List ℕ) (taken : Taken) → is_open_at s.links c ≡ true → is_sound_link (link_at s.links c) ≡ true → 0 < lent → MayComeTo (taken_by_read lent (link_at s.links c)) taken
      → IsFrontOfPiece taken into (oldest_of (link_at s.links c)) → t ≡ left_by_read c lent (bytes_read into taken) taken s → FollowsItsScript t
  read_on c lent into taken here sound room comes front is script own =
      subst (FollowsSoFar script) (sym is)
      (read_follows script s (follows script (links_before script s (left_by_read c lent (bytes_read into taken) taken s) (read_keeps s c here lent (bytes_read into taken) taken) (subst (AreLinksOf script) is own)))
      c here lent into taken sound room comes front)

  pub write_on : (c : ℕ) (bytes : List ℕ) (taken : Taken) → is_open_at s.links c ≡ true → is_sound_link (link_at s.links c) ≡ true → 0 < length bytes → MayComeTo (taken_by_rules (length bytes) (link_at s.links c).rules) taken
      → t ≡ left_by_write c bytes taken s → FollowsItsScript t
  write_on c bytes taken here sound some comes is script own =
      subst (FollowsSoFar script) (sym is)
      (write_follows script s (follows script (links_before script s (left_by_write c bytes taken s) (write_keeps s c here bytes taken) (subst (AreLinksOf script) is own))) c here bytes taken sound some comes)

  pub close_on : (c : ℕ) → is_open_at s.links c ≡ true → t ≡ left_by_close c s → FollowsItsScript t
  close_on c here is script own =
      subst (FollowsSoFar script) (sym is)
      (close_follows script s (follows script (links_before script s (left_by_close c s) (close_keeps s c here) (subst (AreLinksOf script) is own))) c here)

  pub next_on : (ask : Ask) → t ≡ (next_of ask s).left → FollowsItsScript t
  next_on ask is script own =
      let before : AreLinksOf script s = links_before script s (next_of ask s).left (next_keeps ask s) (subst (AreLinksOf script) is own) in
      subst (FollowsSoFar script) (sym is) (next_follows script before.sound ask s before.count (follows script before))

-- and that all is over only where no step is left
pub read_over : (c lent : ℕ) (bytes : List ℕ) (taken : Taken) (s t : ServedScript) → IsOverAtEnd s → t ≡ left_by_read c lent bytes taken s → IsOverAtEnd t
read_over c lent bytes taken s t over is = subst IsOverAtEnd (sym is) (by taken)
  where
    by : (taken : Taken) → IsOverAtEnd (left_by_read c lent bytes taken s)
    by (Bytes count) = over
    by End = over
    by NotYet = over
    by Failed = over
    by NoMemory = over

pub write_over : (c : ℕ) (bytes : List ℕ) (taken : Taken) (s t : ServedScript) → IsOverAtEnd s → t ≡ left_by_write c bytes taken s → IsOverAtEnd t
write_over c bytes taken s t over is = subst IsOverAtEnd (sym is) (by taken)
  where
    by : (taken : Taken) → IsOverAtEnd (left_by_write c bytes taken s)
    by (Bytes count) = over
    by End = over
    by NotYet = over
    by Failed = over
    by NoMemory = over

-- Links that are over have followed their script to its end.
pub followed : (script : ScriptPlan) (s : ServedScript) → FollowsItsScript s → IsOverAtEnd s → AreLinksOf script s → s.over ≡ true → FollowsScript script s.tape s.rests s.lengths
followed script s follows ended own over = record {
  opened = f.told ∙ ap (count_up 0) (f.opened ∙ ap openings all_done);
  marks = subst (λ (lines : List PlanLine). EachShowsItsScript script lines s.lengths s.tape) all_done f.marks;
  bytes = λ c. prefix c (cases_lt c (length s.links));
  rests = λ before behind is. f.rests before behind (all_done ∙ is);
}
  where
    f : FollowsSoFar script s
    f = follows script own

    none_left : (lines : List PlanLine) → length (map step_of lines) ≡ 0 → lines ≡ []
    none_left [] e = refl
    none_left (line ∷ lines) e = absurd (let g : ⊥ = omega arith in g)

    all_done : f.done ≡ script.lines
    all_done = sym (f.split ∙ ap (λ xs. f.done ++ xs) (none_left f.left (sym (ap length f.steps) ∙ ended over)) ∙ append-nil f.done)

    prefix : (c : ℕ) → (c < length s.links) ⊎ (length s.links ≤ c) → IsPrefix (input (marks_of c s.tape)) (bytes_of_pieces (pieces_on c script.lines))
    prefix c (inl below) = (bytes_of_pieces (link_at s.links c).pieces, sym (f.each c below).leaves.bytes)
    prefix c (inr past) = (bytes_of_pieces (pieces_on c script.lines), ap (λ ms. input ms ++ bytes_of_pieces (pieces_on c script.lines)) (sym (f.none c past)))
