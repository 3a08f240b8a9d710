-- The print of a script is read as the script.
use Rattle.std.proofs.Common.{◌≡◌, ℕ, ◌+◌, ◌<◌, ◌≤◌, ◌^◌, Bool, true, false, not, cond, nat_le, List, [], ◌∷◌, ◌++◌, length, get_or, set, take, map, Some, None, Result, Ok, Err, refl, sym, ap, subst, ◌∙◌, arith, length-append, length-set, append_assoc, append-nil, take_all}
use Rattle.std.proofs.lemmas.Bool.{leb-false, lt-leb, le-ltb}
use Rattle.std.proofs.lemmas.List.{get_or_at, set_at, take_more, length-take-le, map-append}
use Rattle.std.specs.List.{list_any, AllByRecursion}
use Rattle.script_text.proofs.Cuts.{all-append}
use Rattle.script_model.specs.ScriptLines.{PlanLine, opening, piece, input_end, input_fault, resting, turn_of_conn, turn_of_worker, turn_of_outcome, PlanRule, one_if_opens, openings, ScriptPlan}
use Rattle.script_text.specs.declared.fault.ScriptFault.{ScriptFault}
use Rattle.script_text.specs.declared.fault.ScriptKind.TheVariants.{NoEnd, NoConnection, TooMany, TooLong}
use Rattle.script_text.specs.TextLines.{longest_script, text_lines}
use Rattle.script_text.specs.LineForms.{SaidLine, runs, rules_so, said_of}
use Rattle.script_text.specs.Reading.{ScriptSoFar, fault_of_line, over_behind, with_rule, with_said, unless_fault, read_said, read_line, fault_at, reads_on, read_from, plan_read, plan_of_lines, script_of_text}
use Rattle.script_text.specs.Printing.{said_text, with_its_rules, said_from, said_in, print_of}
use Rattle.script_text.specs.Sound.{IsReadBack, IsKeptScript, IsUnscheduled, NeverRests}
use Rattle.script_text.proofs.Written.{IsWritable, said_written, not_ignored}
use Rattle.script_text.proofs.OneLine.{printed_lines}
use Rattle.script_text.proofs.Standing.{over_all, Pass, AreRules, rules_at, IsReadTo, plan_stands, wider, quiet_pass}

-- a line that is written and has no fault is read
line_on : (workers : ℕ) (schedule rest : Bool) (so : ScriptSoFar) (said : SaidLine) → IsWritable said → fault_of_line workers schedule rest so.over said ≡ None
    → read_line workers schedule rest so (said_text said) ≡ Ok (with_said so said)
line_on workers schedule rest so said can clear =
    ap (λ ignored. cond ignored (Ok so) (read_said workers schedule rest so (said_of (said_text said)))) (not_ignored said)
    ∙ ap (read_said workers schedule rest so) (said_written said can)
    ∙ ap (unless_fault (with_said so said)) clear

on : (workers : ℕ) (schedule rest : Bool) (number : ℕ) (so : ScriptSoFar) (said : SaidLine) (lines : List (List ℕ)) → IsWritable said → fault_of_line workers schedule rest so.over said ≡ None
    → read_from workers schedule rest number so (said_text said ∷ lines) ≡ read_from workers schedule rest (number + 1) (with_said so said) lines
on workers schedule rest number so said lines can clear =
    ap (reads_on number (λ next. read_from workers schedule rest (number + 1) next lines)) (line_on workers schedule rest so said can clear)

-- the rules of the connection that was opened last
abbrev opened_last : List PlanLine → List (List PlanRule) → List PlanRule → List Bool → ScriptSoFar
opened_last lines above rules over = record { lines = lines; rules = above ++ rules ∷ []; over = over }

rule_added : (above : List (List PlanRule)) (done : List PlanRule) (rule : PlanRule) → with_rule (length above) rule (above ++ done ∷ []) ≡ above ++ (done ++ rule ∷ []) ∷ []
rule_added above done rule =
    ap (λ own. set (above ++ done ∷ []) (length above) (own ++ rule ∷ [])) (get_or_at above done [] [] (length above) refl)
    ∙ set_at above done [] (done ++ rule ∷ []) (length above) refl

rules_on : (workers : ℕ) (schedule rest : Bool) (number : ℕ) (lines : List PlanLine) (above : List (List PlanRule)) (done rules : List PlanRule) (over : List Bool) (more : List (List ℕ))
    (last : ScriptSoFar) → length above < length over → length above < 2 ^ 32 → AreRules rules
    → ((k : ℕ) → read_from workers schedule rest k (opened_last lines above (done ++ rules) over) more ≡ Ok last)
    → read_from workers schedule rest number (opened_last lines above done over) (map said_text (map (rules_so (length above)) rules) ++ more) ≡ Ok last
rules_on workers schedule rest number lines above done [] over more last opened small are behind =
    ap (λ own. read_from workers schedule rest number (opened_last lines above own over) more) (sym (append-nil done)) ∙ behind number
rules_on workers schedule rest number lines above done (rule ∷ rules) over more last opened small are behind =
    let there : nat_le (length over) (length above) ≡ false = lt-leb (length over) (length above) opened in
    on workers schedule rest number (opened_last lines above done over) (rules_so (length above) rule) (map said_text (map (rules_so (length above)) rules) ++ more) (small, are.0)
    (ap (λ t. cond t (Some NoConnection) None) there)
    ∙ ap (λ own. read_from workers schedule rest (number + 1) (record { lines = lines; rules = own; over = over }) (map said_text (map (rules_so (length above)) rules) ++ more)) (rule_added above done rule)
    ∙ rules_on workers schedule rest (number + 1) lines above (done ++ rule ∷ []) rules over more last opened small are.1
    (λ k. ap (λ own. read_from workers schedule rest k (opened_last lines above own over) more) (append_assoc done (rule ∷ []) rules) ∙ behind k)

-- where a connection may be opened, few are
pub few_opened : (n : ℕ) (test : Bool) → nat_le 1024 n ≡ test → cond test (Some TooMany) None ≡ None → n < 1024
few_opened n true is clear = absurd (cc)
few_opened n false is clear = leb-false 1024 n is

-- what was read above, with the rules of the connections opened there
abbrev read_above : List PlanLine → List (List PlanRule) → List Bool → ScriptSoFar
read_above above rules over = record { lines = above; rules = take (length over) rules; over = over }

-- what is read in the end
abbrev read_whole : List PlanLine → List (List PlanRule) → List Bool → ScriptSoFar
read_whole lines rules over = record { lines = lines; rules = rules; over = over }

abbrev read_ok : List PlanLine → List (List PlanRule) → List Bool → Result ScriptSoFar ScriptFault
read_ok lines rules over = Ok (read_whole lines rules over)

-- the end of the lines, by whether an input has none
abbrev end_by : ℕ → ScriptSoFar → Bool → Result ScriptSoFar ScriptFault
end_by number so open_yet = cond open_yet (Err (fault_at number NoEnd)) (Ok so)

-- the lines of a print behind connection c
abbrev texts_from : ℕ → List (List PlanRule) → List PlanLine → List (List ℕ)
texts_from c rules lines = map said_text (said_from c rules lines)

-- These lines, behind those above, are read from their print as themselves.
abbrev AreReadBack : ℕ → Bool → Bool → List PlanLine → List (List PlanRule) → List Bool → List PlanLine → Type 0
AreReadBack workers schedule rest above rules over lines =
    (number : ℕ) → read_from workers schedule rest number (read_above above rules over) (texts_from (length over) rules lines) ≡ read_ok (above ++ lines) rules (over_all over lines)

end_read : (workers : ℕ) (schedule rest : Bool) (above : List PlanLine) (rules : List (List PlanRule)) (over : List Bool) → length rules ≡ length over + 0
    → list_any not over ≡ false → AreReadBack workers schedule rest above rules over []
end_read workers schedule rest above rules over count ended number =
    let whole : take (length over) rules ≡ rules = take_all (length over) rules (omega (arith, count)) in
    ap (end_by number (read_above above rules over)) ended
    ∙ ap (λ own. read_ok above own over) whole
    ∙ ap (λ own. read_ok own rules over) (sym (append-nil above))

-- a line that opens no connection
quiet_read : (workers : ℕ) (schedule rest : Bool) (above : List PlanLine) (rules : List (List PlanRule)) (over new : List Bool) (line : PlanLine) (lines : List PlanLine)
    → fault_of_line workers schedule rest over (runs line) ≡ None → IsWritable (runs line)
    → with_said (read_above above rules over) (runs line) ≡ read_whole (above ++ line ∷ []) (take (length over) rules ++ []) new
    → with_its_rules (length over) rules line ≡ runs line ∷ [] → one_if_opens line ≡ 0 → over_behind line over ≡ new → length new ≡ length over
    → AreReadBack workers schedule rest (above ++ line ∷ []) rules new lines → AreReadBack workers schedule rest above rules over (line ∷ lines)
quiet_read workers schedule rest above rules over new line lines clear can after alone none over_is same behind number =
    let place : length over + one_if_opens line ≡ length new = omega (arith, none, same) in
    let texts : texts_from (length over) rules (line ∷ lines) ≡ said_text (runs line) ∷ texts_from (length new) rules lines =
    ap (λ own. map said_text (own ++ said_from (length over + one_if_opens line) rules lines)) alone
    ∙ ap (λ c. said_text (runs line) ∷ texts_from c rules lines) place in
    let kept : take (length over) rules ++ [] ≡ take (length new) rules = append-nil (take (length over) rules) ∙ ap (λ n. take n rules) (sym same) in
    ap (read_from workers schedule rest number (read_above above rules over)) texts
    ∙ on workers schedule rest number (read_above above rules over) (runs line) (texts_from (length new) rules lines) can clear
    ∙ ap (λ so. read_from workers schedule rest (number + 1) so (texts_from (length new) rules lines))
    (after ∙ ap (λ own. read_whole (above ++ line ∷ []) own new) kept)
    ∙ behind (number + 1)
    ∙ ap (λ own. read_ok own rules (over_all new lines)) (append_assoc above (line ∷ []) lines)
    ∙ ap (λ own. read_ok (above ++ line ∷ lines) rules (over_all own lines)) (sym over_is)

-- a line that opens one, and its rules behind it
opening_read : (workers : ℕ) (schedule rest : Bool) (above : List PlanLine) (rules : List (List PlanRule)) (over : List Bool) (lines : List PlanLine)
    → fault_of_line workers schedule rest over (runs opening) ≡ None → AllByRecursion AreRules rules → length over < length rules
    → AreReadBack workers schedule rest (above ++ opening ∷ []) rules (over ++ false ∷ []) lines → AreReadBack workers schedule rest above rules over (opening ∷ lines)
opening_read workers schedule rest above rules over lines clear are within behind number =
    let c : ℕ = length over in
    let own : List PlanRule = get_or rules c [] in
    let one : length (over ++ false ∷ []) ≡ c + 1 = length-append over (false ∷ []) in
    let size : length (take c rules) ≡ c = length-take-le c rules (omega (arith, within)) in
    let few : c < 1024 = few_opened c (nat_le 1024 c) refl clear in
    let more : List (List ℕ) = texts_from (c + 1) rules lines in
    let texts : texts_from c rules (opening ∷ lines) ≡ said_text (runs opening) ∷ (map said_text (map (rules_so c) own) ++ more) =
    map-append said_text (with_its_rules c rules opening) (said_from (c + 1) rules lines) in
    let last : ScriptSoFar = read_whole (above ++ opening ∷ [] ++ lines) rules (over_all (over ++ false ∷ []) lines) in
    let rules_now : take c rules ++ own ∷ [] ≡ take (length (over ++ false ∷ [])) rules = sym (ap (λ n. take n rules) one ∙ take_more rules c [] within) in
    let behind_rules : (k : ℕ) → read_from workers schedule rest k (opened_last (above ++ opening ∷ []) (take c rules) ([] ++ own) (over ++ false ∷ [])) more ≡ Ok last =
    λ k. ap (λ now. read_from workers schedule rest k (record { lines = above ++ opening ∷ []; rules = now; over = over ++ false ∷ [] }) more) rules_now
    ∙ ap (λ n. read_from workers schedule rest k (read_above (above ++ opening ∷ []) rules (over ++ false ∷ [])) (texts_from n rules lines)) (sym one)
    ∙ behind k in
    let all_rules = rules_on workers schedule rest (number + 1) (above ++ opening ∷ []) (take c rules) [] own (over ++ false ∷ []) more last
    (omega (arith, one, size)) (omega (arith, size, few)) (rules_at rules c are) behind_rules in
    ap (read_from workers schedule rest number (read_above above rules over)) texts
    ∙ on workers schedule rest number (read_above above rules over) (runs opening) (map said_text (map (rules_so c) own) ++ more) tt clear
    ∙ subst (λ n. read_from workers schedule rest (number + 1) (opened_last (above ++ opening ∷ []) (take c rules) [] (over ++ false ∷ [])) (map said_text (map (rules_so n) own) ++ more) ≡ Ok last) size all_rules
    ∙ ap (λ whole. read_ok whole rules (over_all (over ++ false ∷ []) lines)) (append_assoc above (opening ∷ []) lines)

all_read : (workers : ℕ) (schedule rest : Bool) (above : List PlanLine) (rules : List (List PlanRule)) (over : List Bool) (lines : List PlanLine)
    → Pass workers schedule rest over lines → AllByRecursion AreRules rules → length rules ≡ length over + openings lines → list_any not (over_all over lines) ≡ false
    → AreReadBack workers schedule rest above rules over lines
all_read workers schedule rest above rules over [] pass are count ended = end_read workers schedule rest above rules over count ended
all_read workers schedule rest above rules over (opening ∷ lines) pass are count ended =
    let one : length (over ++ false ∷ []) ≡ length over + 1 = length-append over (false ∷ []) in
    opening_read workers schedule rest above rules over lines pass.0.0 are (omega (arith, count))
    (all_read workers schedule rest (above ++ opening ∷ []) rules (over ++ false ∷ []) lines pass.1 are (omega (arith, one, count)) ended)
all_read workers schedule rest above rules over (piece c bytes ∷ lines) pass are count ended =
    quiet_read workers schedule rest above rules over over (piece c bytes) lines pass.0.0 pass.0.1 refl refl refl refl refl
    (all_read workers schedule rest (above ++ piece c bytes ∷ []) rules over lines pass.1 are (omega (arith, count)) ended)
all_read workers schedule rest above rules over (input_end c ∷ lines) pass are count ended =
    let same : length (set over c true) ≡ length over = length-set over c true in
    quiet_read workers schedule rest above rules over (set over c true) (input_end c) lines pass.0.0 pass.0.1 refl refl refl refl same
    (all_read workers schedule rest (above ++ input_end c ∷ []) rules (set over c true) lines pass.1 are (omega (arith, same, count)) ended)
all_read workers schedule rest above rules over (input_fault c ∷ lines) pass are count ended =
    let same : length (set over c true) ≡ length over = length-set over c true in
    quiet_read workers schedule rest above rules over (set over c true) (input_fault c) lines pass.0.0 pass.0.1 refl refl refl refl same
    (all_read workers schedule rest (above ++ input_fault c ∷ []) rules (set over c true) lines pass.1 are (omega (arith, same, count)) ended)
all_read workers schedule rest above rules over (resting ∷ lines) pass are count ended =
    quiet_read workers schedule rest above rules over over resting lines pass.0.0 pass.0.1 refl refl refl refl refl
    (all_read workers schedule rest (above ++ resting ∷ []) rules over lines pass.1 are (omega (arith, count)) ended)
all_read workers schedule rest above rules over (turn_of_conn c ∷ lines) pass are count ended =
    quiet_read workers schedule rest above rules over over (turn_of_conn c) lines pass.0.0 pass.0.1 refl refl refl refl refl
    (all_read workers schedule rest (above ++ turn_of_conn c ∷ []) rules over lines pass.1 are (omega (arith, count)) ended)
all_read workers schedule rest above rules over (turn_of_worker w ∷ lines) pass are count ended =
    quiet_read workers schedule rest above rules over over (turn_of_worker w) lines pass.0.0 pass.0.1 refl refl refl refl refl
    (all_read workers schedule rest (above ++ turn_of_worker w ∷ []) rules over lines pass.1 are (omega (arith, count)) ended)
all_read workers schedule rest above rules over (turn_of_outcome ∷ lines) pass are count ended =
    quiet_read workers schedule rest above rules over over turn_of_outcome lines pass.0.0 pass.0.1 refl refl refl refl refl
    (all_read workers schedule rest (above ++ turn_of_outcome ∷ []) rules over lines pass.1 are (omega (arith, count)) ended)

-- a script that was read to its end is read from its print
read_again : (workers : ℕ) (schedule rest : Bool) (script : ScriptPlan) → IsReadTo workers schedule rest script → IsReadBack workers schedule rest script
read_again workers schedule rest script to =
    ap plan_read (all_read workers schedule rest [] script.rules [] script.lines to.pass to.rules (omega (arith, to.count)) (ap (list_any not) to.over_is ∙ to.ended) 1)

-- what was read is read from its print
pub plan_read_back : (workers : ℕ) (schedule rest : Bool) (lines : List (List ℕ)) (script : ScriptPlan) → plan_of_lines workers schedule rest lines ≡ Ok script
    → IsReadBack workers schedule rest script
plan_read_back workers schedule rest lines script is = read_again workers schedule rest script (plan_stands workers schedule rest lines script is)

-- and for more workers, with lines of a schedule and with `rest` lines
pub plan_is_script : (workers : ℕ) (schedule rest : Bool) (lines : List (List ℕ)) (script : ScriptPlan) → workers ≤ 8 → plan_of_lines workers schedule rest lines ≡ Ok script
    → IsKeptScript script
plan_is_script workers schedule rest lines script within is =
    let to = plan_stands workers schedule rest lines script is in
    read_again 8 true true script (record {
      over = to.over;
      pass = wider workers schedule rest [] script.lines within to.pass;
      over_is = to.over_is;
      rules = to.rules;
      count = to.count;
      opened = to.opened;
      ended = to.ended;
    })

-- and for any number of workers, with lines of a schedule or without, where it has none, and likewise `rest` lines
pub plan_unscheduled : (workers : ℕ) (schedule rest : Bool) (script : ScriptPlan) → IsKeptScript script → IsUnscheduled script → (rest ≡ false → NeverRests script)
    → IsReadBack workers schedule rest script
plan_unscheduled workers schedule rest script kept quiet moving =
    let to = plan_stands 8 true true (map said_text (said_in script)) script kept in
    read_again workers schedule rest script (record {
      over = to.over;
      pass = quiet_pass workers schedule rest [] script.lines quiet moving to.pass;
      over_is = to.over_is;
      rules = to.rules;
      count = to.count;
      opened = to.opened;
      ended = to.ended;
    })

-- each line of a print can be written
own_rules : (c : ℕ) (rules : List PlanRule) → c < 2 ^ 32 → AreRules rules → AllByRecursion IsWritable (map (rules_so c) rules)
own_rules c [] small are = tt
own_rules c (rule ∷ rules) small are = ((small, are.0), own_rules c rules small are.1)

moved_can : (rules : List (List PlanRule)) (lines : List PlanLine) (n m : ℕ) → n ≡ m → AllByRecursion IsWritable (said_from n rules lines)
    → AllByRecursion IsWritable (said_from m rules lines)
moved_can rules lines n m same can = subst (λ c. AllByRecursion IsWritable (said_from c rules lines)) same can

all_can : (workers : ℕ) (schedule rest : Bool) (rules : List (List PlanRule)) (over : List Bool) (lines : List PlanLine) → Pass workers schedule rest over lines
    → AllByRecursion AreRules rules → AllByRecursion IsWritable (said_from (length over) rules lines)
all_can workers schedule rest rules over [] pass are = tt
all_can workers schedule rest rules over (opening ∷ lines) pass are =
    let few : length over < 1024 = few_opened (length over) (nat_le 1024 (length over)) refl pass.0.0 in (
      tt,
      all-append IsWritable (map (rules_so (length over)) (get_or rules (length over) [])) (said_from (length over + 1) rules lines)
          (own_rules (length over) (get_or rules (length over) []) (omega (arith, few)) (rules_at rules (length over) are))
          (moved_can rules lines (length (over ++ false ∷ [])) (length over + 1) (length-append over (false ∷ [])) (all_can workers schedule rest rules (over ++ false ∷ []) lines pass.1 are)),
    )
all_can workers schedule rest rules over (piece c bytes ∷ lines) pass are =
    (pass.0.1, moved_can rules lines (length over) (length over + 0) (omega arith) (all_can workers schedule rest rules over lines pass.1 are))
all_can workers schedule rest rules over (input_end c ∷ lines) pass are =
    let same : length (set over c true) ≡ length over = length-set over c true in
    (pass.0.1, moved_can rules lines (length (set over c true)) (length over + 0) (omega (arith, same)) (all_can workers schedule rest rules (set over c true) lines pass.1 are))
all_can workers schedule rest rules over (input_fault c ∷ lines) pass are =
    let same : length (set over c true) ≡ length over = length-set over c true in
    (pass.0.1, moved_can rules lines (length (set over c true)) (length over + 0) (omega (arith, same)) (all_can workers schedule rest rules (set over c true) lines pass.1 are))
all_can workers schedule rest rules over (resting ∷ lines) pass are =
    (tt, moved_can rules lines (length over) (length over + 0) (omega arith) (all_can workers schedule rest rules over lines pass.1 are))
all_can workers schedule rest rules over (turn_of_conn c ∷ lines) pass are =
    (pass.0.1, moved_can rules lines (length over) (length over + 0) (omega arith) (all_can workers schedule rest rules over lines pass.1 are))
all_can workers schedule rest rules over (turn_of_worker w ∷ lines) pass are =
    (pass.0.1, moved_can rules lines (length over) (length over + 0) (omega arith) (all_can workers schedule rest rules over lines pass.1 are))
all_can workers schedule rest rules over (turn_of_outcome ∷ lines) pass are =
    (tt, moved_can rules lines (length over) (length over + 0) (omega arith) (all_can workers schedule rest rules over lines pass.1 are))

-- a print that isn't too long is read as its script
pub print_read : (workers : ℕ) (schedule rest : Bool) (script : ScriptPlan) → IsReadBack workers schedule rest script → length (print_of script) ≤ longest_script
    → script_of_text workers schedule rest (print_of script) ≡ Ok script
print_read workers schedule rest script back short =
    let to = plan_stands workers schedule rest (map said_text (said_in script)) script back in
    let texts : text_lines (print_of script) ≡ map said_text (said_in script) = printed_lines (said_in script) (all_can workers schedule rest script.rules [] script.lines to.pass to.rules) in
    ap (λ t. cond t (Err (fault_at 0 TooLong)) (plan_of_lines workers schedule rest (text_lines (print_of script)))) (le-ltb longest_script (length (print_of script)) short)
    ∙ ap (plan_of_lines workers schedule rest) texts
    ∙ back

-- a text with a script isn't too long
short_by : (workers : ℕ) (schedule rest : Bool) (text : List ℕ) (script : ScriptPlan) (long : Bool)
    → cond long (Err (fault_at 0 TooLong)) (plan_of_lines workers schedule rest (text_lines text)) ≡ Ok script → plan_of_lines workers schedule rest (text_lines text) ≡ Ok script
short_by workers schedule rest text script true is = absurd (cc)
short_by workers schedule rest text script false is = is

pub lines_read : (workers : ℕ) (schedule rest : Bool) (text : List ℕ) (script : ScriptPlan) → script_of_text workers schedule rest text ≡ Ok script → plan_of_lines workers schedule rest (text_lines text) ≡ Ok script
lines_read workers schedule rest text script is = short_by workers schedule rest text script _ is
