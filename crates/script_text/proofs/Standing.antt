-- What holds of what was read of a script, line by line.
use Rattle.std.proofs.Common.{◌≡◌, ℕ, zero, suc, ◌+◌, ◌≤◌, ◌||◌, Bool, true, false, not, cond, nat_le, max, List, [], ◌∷◌, ◌++◌, length, get_or, set, Option, Some, None, Result, Ok, Err, refl, ap, subst, ◌∙◌, arith, length-append, length-set}
use Rattle.std.proofs.lemmas.Bool.{leb-false, lt-leb, true≢false}
use Rattle.std.specs.Prelude.{MatchResult, ⊤}
use Rattle.std.specs.List.{list_any, AllByRecursion}
use Rattle.script_text.proofs.Cuts.{all-append}
use Rattle.script_model.specs.ScriptLines.{PlanLine, opening, piece, input_end, input_fault, resting, turn_of_conn, turn_of_worker, turn_of_outcome, PlanRule, one_if_opens, openings, some_line, ScriptPlan}
use Rattle.script_text.specs.declared.fault.ScriptFault.{ScriptFault}
use Rattle.script_text.specs.declared.fault.ScriptKind.{ScriptKind}
use Rattle.script_text.specs.declared.fault.ScriptKind.TheVariants.{NoEnd, NoWorker, Schedule, Rest}
use Rattle.script_text.specs.TextLines.{is_passed_over}
use Rattle.script_text.specs.LineForms.{SaidLine, runs, rules_so, said_of}
use Rattle.script_text.specs.Reading.{ScriptSoFar, nothing_read, is_turn, is_resting, fault_of_line, over_behind, rules_opened, with_said, unless_fault, read_said, read_line, fault_at, reads_on, read_from, plan_read, plan_of_lines}
use Rattle.script_text.proofs.Written.{IsRule, IsWritable, CanBeWritten, said_can}

-- the inputs after these lines, where those above left them so
abbrev pub over_all : List Bool → List PlanLine → List Bool
over_all over [] = over
over_all over (line ∷ lines) = over_all (over_behind line over) lines

-- no line has a fault behind those above it, and each can be written
abbrev pub Pass : ℕ → Bool → Bool → List Bool → List PlanLine → Type 0
Pass workers schedule rest over [] = ⊤
Pass workers schedule rest over (line ∷ lines) =
    ((fault_of_line workers schedule rest over (runs line) ≡ None) × IsWritable (runs line)) × Pass workers schedule rest (over_behind line over) lines

-- each rule can be written
abbrev pub AreRules : List PlanRule → Type 0
AreRules rules = AllByRecursion IsRule rules

-- what was read so far stands
pub record Stands (workers : ℕ) (schedule rest : Bool) (so : ScriptSoFar) : Type 0 where
  pub pass : Pass workers schedule rest [] so.lines
  pub over : over_all [] so.lines ≡ so.over
  pub rules : AllByRecursion AreRules so.rules
  pub count : length so.rules ≡ openings so.lines
  pub opened : length so.over ≡ openings so.lines

over_push : (over : List Bool) (lines : List PlanLine) (line : PlanLine) → over_all over (lines ++ line ∷ []) ≡ over_behind line (over_all over lines)
over_push over [] line = refl
over_push over (x ∷ lines) line = over_push (over_behind x over) lines line

pass_push : (workers : ℕ) (schedule rest : Bool) (over : List Bool) (lines : List PlanLine) (line : PlanLine) → Pass workers schedule rest over lines
    → fault_of_line workers schedule rest (over_all over lines) (runs line) ≡ None → IsWritable (runs line) → Pass workers schedule rest over (lines ++ line ∷ [])
pass_push workers schedule rest over [] line pass clear can = ((clear, can), tt)
pass_push workers schedule rest over (x ∷ lines) line pass clear can = (pass.0, pass_push workers schedule rest (over_behind x over) lines line pass.1 clear can)

openings_push : (lines : List PlanLine) (line : PlanLine) → openings (lines ++ line ∷ []) ≡ openings lines + one_if_opens line
openings_push [] line = omega arith
openings_push (x ∷ lines) line = omega (arith, openings_push lines line)

-- how many connections are opened after a line
pub over_count : (line : PlanLine) (over : List Bool) → length (over_behind line over) ≡ length over + one_if_opens line
over_count opening over = length-append over (false ∷ [])
over_count (piece c bytes) over = omega arith
over_count (input_end c) over = length-set over c true ∙ omega arith
over_count (input_fault c) over = length-set over c true ∙ omega arith
over_count resting over = omega arith
over_count (turn_of_conn c) over = omega arith
over_count (turn_of_worker w) over = omega arith
over_count turn_of_outcome over = omega arith

rules_count : (line : PlanLine) → length (rules_opened line) ≡ one_if_opens line
rules_count opening = refl
rules_count (piece c bytes) = refl
rules_count (input_end c) = refl
rules_count (input_fault c) = refl
rules_count resting = refl
rules_count (turn_of_conn c) = refl
rules_count (turn_of_worker w) = refl
rules_count turn_of_outcome = refl

opened_rules : (line : PlanLine) → AllByRecursion AreRules (rules_opened line)
opened_rules opening = (tt, tt)
opened_rules (piece c bytes) = tt
opened_rules (input_end c) = tt
opened_rules (input_fault c) = tt
opened_rules resting = tt
opened_rules (turn_of_conn c) = tt
opened_rules (turn_of_worker w) = tt
opened_rules turn_of_outcome = tt

pub rules_at : (rules : List (List PlanRule)) (c : ℕ) → AllByRecursion AreRules rules → AreRules (get_or rules c [])
rules_at [] c all = tt
rules_at (x ∷ rules) zero all = all.0
rules_at (x ∷ rules) (suc c) all = rules_at rules c all.1

rules_set : (rules : List (List PlanRule)) (c : ℕ) (new : List PlanRule) → AllByRecursion AreRules rules → AreRules new → AllByRecursion AreRules (set rules c new)
rules_set [] c new all are = tt
rules_set (x ∷ rules) zero new all are = (are, all.1)
rules_set (x ∷ rules) (suc c) new all are = (all.0, rules_set rules c new all.1 are)

module _ (workers : ℕ) (schedule rest : Bool) where
  -- a line more that has no fault
  said_stands : (so : ScriptSoFar) (said : SaidLine) → Stands workers schedule rest so → IsWritable said → fault_of_line workers schedule rest so.over said ≡ None
      → Stands workers schedule rest (with_said so said)
  said_stands so (runs line) stands can clear = record {
    pass = pass_push workers schedule rest [] so.lines line stands.pass (ap (λ over. fault_of_line workers schedule rest over (runs line)) stands.over ∙ clear) can;
    over = over_push [] so.lines line ∙ ap (over_behind line) stands.over;
    rules = all-append AreRules so.rules (rules_opened line) stands.rules (opened_rules line);
    count = length-append so.rules (rules_opened line) ∙ omega (arith, stands.count, rules_count line, openings_push so.lines line);
    opened = over_count line so.over ∙ omega (arith, stands.opened, openings_push so.lines line);
  }
  said_stands so (rules_so c rule) stands can clear = record {
    pass = stands.pass;
    over = stands.over;
    rules = rules_set so.rules c (get_or so.rules c [] ++ rule ∷ []) stands.rules (all-append IsRule (get_or so.rules c []) (rule ∷ []) (rules_at so.rules c stands.rules) (can.1, tt));
    count = length-set so.rules c (get_or so.rules c [] ++ rule ∷ []) ∙ stands.count;
    opened = stands.opened;
  }

  judged_stands : (so : ScriptSoFar) (said : SaidLine) → Stands workers schedule rest so → IsWritable said
      → (fault : Option ScriptKind) → fault_of_line workers schedule rest so.over said ≡ fault → MatchResult (unless_fault (with_said so said) fault) (Stands workers schedule rest) (λ kind. ⊤)
  judged_stands so said stands can None is = said_stands so said stands can is
  judged_stands so said stands can (Some kind) is = tt

  read_stands : (so : ScriptSoFar) → Stands workers schedule rest so → (said : Option SaidLine) → CanBeWritten said
      → MatchResult (read_said workers schedule rest so said) (Stands workers schedule rest) (λ kind. ⊤)
  read_stands so stands None can = tt
  read_stands so stands (Some said) can = judged_stands so said stands can (fault_of_line workers schedule rest so.over said) refl

  kept_stands : (so : ScriptSoFar) → Stands workers schedule rest so → (ignored : Bool) (read : Result ScriptSoFar ScriptKind) → MatchResult read (Stands workers schedule rest) (λ kind. ⊤)
      → MatchResult (cond ignored (Ok so) read) (Stands workers schedule rest) (λ kind. ⊤)
  kept_stands so stands true read h = stands
  kept_stands so stands false read h = h

  line_stands : (so : ScriptSoFar) → Stands workers schedule rest so → (line : List ℕ) → MatchResult (read_line workers schedule rest so line) (Stands workers schedule rest) (λ kind. ⊤)
  line_stands so stands line = kept_stands so stands (is_passed_over line) (read_said workers schedule rest so (said_of line)) (read_stands so stands (said_of line) (said_can line))

  end_stands : (number : ℕ) (so : ScriptSoFar) → Stands workers schedule rest so → (left : Bool) → list_any not so.over ≡ left
      → MatchResult (cond left (Err (fault_at number NoEnd)) (Ok so)) (λ so. Stands workers schedule rest so × (list_any not so.over ≡ false)) (λ fault. ⊤)
  end_stands number so stands true is = tt
  end_stands number so stands false is = (stands, is)

  further_stands : (number : ℕ) (further : ScriptSoFar → Result ScriptSoFar ScriptFault) (r : Result ScriptSoFar ScriptKind)
      → MatchResult r (Stands workers schedule rest) (λ kind. ⊤)
      → ((so : ScriptSoFar) → Stands workers schedule rest so → MatchResult (further so) (λ so. Stands workers schedule rest so × (list_any not so.over ≡ false)) (λ fault. ⊤))
      → MatchResult (reads_on number further r) (λ so. Stands workers schedule rest so × (list_any not so.over ≡ false)) (λ fault. ⊤)
  further_stands number further (Ok so) h next = next so h
  further_stands number further (Err kind) h next = tt

  all_stand : (lines : List (List ℕ)) (number : ℕ) (so : ScriptSoFar) → Stands workers schedule rest so
      → MatchResult (read_from workers schedule rest number so lines) (λ so. Stands workers schedule rest so × (list_any not so.over ≡ false)) (λ fault. ⊤)
  all_stand [] number so stands = end_stands number so stands (list_any not so.over) refl
  all_stand (line ∷ lines) number so stands =
      further_stands number (λ next. read_from workers schedule rest (number + 1) next lines) (read_line workers schedule rest so line) (line_stands so stands line)
      (λ next. all_stand lines (number + 1) next)

-- nothing that was read stands
nothing_stands : (workers : ℕ) (schedule rest : Bool) → Stands workers schedule rest nothing_read
nothing_stands workers schedule rest = record { pass = tt; over = refl; rules = tt; count = refl; opened = refl }

-- a script, as what was read in the end
pub record IsReadTo (workers : ℕ) (schedule rest : Bool) (script : ScriptPlan) : Type 0 where
  pub over : List Bool
  pub pass : Pass workers schedule rest [] script.lines
  pub over_is : over_all [] script.lines ≡ over
  pub rules : AllByRecursion AreRules script.rules
  pub count : length script.rules ≡ openings script.lines
  pub opened : length over ≡ openings script.lines
  pub ended : list_any not over ≡ false

read_to : (workers : ℕ) (schedule rest : Bool) (script : ScriptPlan) (r : Result ScriptSoFar ScriptFault)
    → MatchResult r (λ so. Stands workers schedule rest so × (list_any not so.over ≡ false)) (λ fault. ⊤) → plan_read r ≡ Ok script → IsReadTo workers schedule rest script
read_to workers schedule rest script (Ok so) h is =
    subst (λ (r : Result ScriptPlan ScriptFault). MatchResult r (IsReadTo workers schedule rest) (λ fault. ⊤)) is
    (record { over = so.over; pass = h.0.pass; over_is = h.0.over; rules = h.0.rules; count = h.0.count; opened = h.0.opened; ended = h.1 })
read_to workers schedule rest script (Err fault) h is = absurd (cc)

-- what holds of a script that was read
pub plan_stands : (workers : ℕ) (schedule rest : Bool) (lines : List (List ℕ)) (script : ScriptPlan) → plan_of_lines workers schedule rest lines ≡ Ok script
    → IsReadTo workers schedule rest script
plan_stands workers schedule rest lines script is =
    read_to workers schedule rest script (read_from workers schedule rest 1 nothing_read lines) (all_stand workers schedule rest lines 1 nothing_read (nothing_stands workers schedule rest)) is

-- the same for more workers, with lines of a schedule and with `rest` lines
pub unscheduled : (test : Bool) (fault : Option ScriptKind) → cond test (Some Schedule) fault ≡ None → fault ≡ None
unscheduled true fault is = absurd (cc)
unscheduled false fault is = is

pub unrested : (test : Bool) (fault : Option ScriptKind) → cond test (Some Rest) fault ≡ None → fault ≡ None
unrested true fault is = absurd (cc)
unrested false fault is = is

pub working : (test : Bool) → cond test (Some NoWorker) None ≡ None → test ≡ false
working true is = absurd (cc)
working false is = refl

wider_line : (workers : ℕ) (schedule rest : Bool) (over : List Bool) (line : PlanLine) → workers ≤ 8 → fault_of_line workers schedule rest over (runs line) ≡ None
    → fault_of_line 8 true true over (runs line) ≡ None
wider_line workers schedule rest over opening within clear = clear
wider_line workers schedule rest over (piece c bytes) within clear = clear
wider_line workers schedule rest over (input_end c) within clear = clear
wider_line workers schedule rest over (input_fault c) within clear = clear
wider_line workers schedule rest over resting within clear = refl
wider_line workers schedule rest over (turn_of_conn c) within clear = unscheduled (not schedule) _ clear
wider_line workers schedule rest over (turn_of_worker w) within clear =
    let few : nat_le (max workers 1) w ≡ false = working _ (unscheduled (not schedule) _ clear) in
    let below = leb-false (max workers 1) w few in
    ap (λ t. cond t (Some NoWorker) None) (lt-leb 8 w (omega (arith, below)))
wider_line workers schedule rest over turn_of_outcome within clear = refl

pub wider : (workers : ℕ) (schedule rest : Bool) (over : List Bool) (lines : List PlanLine) → workers ≤ 8 → Pass workers schedule rest over lines → Pass 8 true true over lines
wider workers schedule rest over [] within pass = tt
wider workers schedule rest over (line ∷ lines) within pass =
    ((wider_line workers schedule rest over line within pass.0.0, pass.0.1), wider workers schedule rest (over_behind line over) lines within pass.1)

-- and for any number of workers, with lines of a schedule or without, where there is none, and likewise `rest` lines
neither : (one other : Bool) → (one || other) ≡ false → (one ≡ false) × (other ≡ false)
neither true other is = absurd (true≢false is)
neither false other is = (refl, is)

rest_on : (rest : Bool) → (rest ≡ false → true ≡ false) → cond (not rest) (Some Rest) None ≡ None
rest_on true moving = refl
rest_on false moving = absurd (true≢false (moving refl))

quiet_line : (workers : ℕ) (schedule rest : Bool) (over : List Bool) (line : PlanLine) → is_turn line ≡ false → (rest ≡ false → is_resting line ≡ false) → fault_of_line 8 true true over (runs line) ≡ None
    → fault_of_line workers schedule rest over (runs line) ≡ None
quiet_line workers schedule rest over opening quiet moving clear = clear
quiet_line workers schedule rest over (piece c bytes) quiet moving clear = clear
quiet_line workers schedule rest over (input_end c) quiet moving clear = clear
quiet_line workers schedule rest over (input_fault c) quiet moving clear = clear
quiet_line workers schedule rest over resting quiet moving clear = rest_on rest moving
quiet_line workers schedule rest over (turn_of_conn c) quiet moving clear = absurd (true≢false quiet)
quiet_line workers schedule rest over (turn_of_worker w) quiet moving clear = absurd (true≢false quiet)
quiet_line workers schedule rest over turn_of_outcome quiet moving clear = absurd (true≢false quiet)

pub quiet_pass : (workers : ℕ) (schedule rest : Bool) (over : List Bool) (lines : List PlanLine) → some_line is_turn lines ≡ false
    → (rest ≡ false → some_line is_resting lines ≡ false) → Pass 8 true true over lines
    → Pass workers schedule rest over lines
quiet_pass workers schedule rest over [] quiet moving pass = tt
quiet_pass workers schedule rest over (line ∷ lines) quiet moving pass =
    let both = neither (is_turn line) (some_line is_turn lines) quiet in
    let none : rest ≡ false → (is_resting line ≡ false) × (some_line is_resting lines ≡ false) = λ off. neither (is_resting line) (some_line is_resting lines) (moving off) in
    ((quiet_line workers schedule rest over line both.0 (λ off. (none off).0) pass.0.0, pass.0.1), quiet_pass workers schedule rest (over_behind line over) lines both.1 (λ off. (none off).1) pass.1)
