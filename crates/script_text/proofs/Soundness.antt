-- What every script is sound by.
use Rattle.std.proofs.Common.{◌≡◌, ℕ, zero, suc, ◌+◌, ◌<◌, ◌≤◌, ◌||◌, Bool, true, false, not, cond, nat_le, max, List, [], ◌∷◌, ◌++◌, length, get_or, set, map, Option, Some, None, refl, sym, ap, subst, ◌∙◌, ⊎_elim, arith, get_or-set_other, get_or-set_same}
use Rattle.std.proofs.lemmas.Bool.{leb-false, eq-eqb, ne_eqb, cases_eq, true≢false}
use Rattle.std.specs.List.{list_any}
use Rattle.script_model.specs.ScriptLines.{PlanLine, opening, piece, input_end, input_fault, resting, turn_of_conn, turn_of_worker, turn_of_outcome, PlanRule, takes_most, one_if_opens, openings, ScriptPlan, piece_by, pieces_on, some_line}
use Rattle.script_model.specs.Rehearsing.{workers_among}
use Rattle.script_text.specs.declared.fault.ScriptKind.{ScriptKind}
use Rattle.script_text.specs.declared.fault.ScriptKind.TheVariants.{NoConnection, AfterEnd, NoWorker, Schedule}
use Rattle.script_text.specs.LineForms.{runs}
use Rattle.script_text.specs.Reading.{conn_of_line, is_unopened, fault_of_line, over_behind}
use Rattle.script_text.specs.Printing.{said_text, said_in}
use Rattle.script_text.specs.Sound.{IsKeptScript, closes_input, EndsOnce, IsSoundPlan, MovesItsWorkers}
use Rattle.script_text.proofs.Numbers.{bytes_at}
use Rattle.script_text.proofs.Written.{IsWritable}
use Rattle.script_text.proofs.Standing.{over_all, Pass, AreRules, rules_at, over_count, unscheduled, unrested, working, IsReadTo, plan_stands}
use Rattle.script_text.proofs.ReadBack.{few_opened}

-- tests that a line without fault doesn't pass
connected : (test : Bool) (rest : Option ScriptKind) → cond test (Some NoConnection) rest ≡ None → (test ≡ false) × (rest ≡ None)
connected true rest is = absurd (cc)
connected false rest is = (refl, is)

not_ended : (test : Bool) (rest : Option ScriptKind) → cond test (Some AfterEnd) rest ≡ None → test ≡ false
not_ended true rest is = absurd (cc)
not_ended false rest is = refl

-- an input stays as it was where a connection is opened
pushed : (over : List Bool) (c : ℕ) → get_or (over ++ false ∷ []) c false ≡ get_or over c false
pushed [] zero = refl
pushed [] (suc c) = refl
pushed (x ∷ over) zero = refl
pushed (x ∷ over) (suc c) = pushed over c

-- and where another's is over
set_other : (over : List Bool) (x c : ℕ) → (x ≡ c → ⊥) → get_or (set over x true) c false ≡ get_or over c false
set_other over x c other = get_or-set_other over x c true false (λ same. other (sym same))

-- the tests of an input's line that has no fault: its connection is opened, and its input isn't over
input_clear : (over : List Bool) (x : ℕ) → cond (nat_le (length over) x) (Some NoConnection) (cond (get_or over x false) (Some AfterEnd) None) ≡ None
    → (x < length over) × (get_or over x false ≡ false)
input_clear over x clear =
    let both = connected (nat_le (length over) x) _ clear in
    (leb-false (length over) x both.0, not_ended (get_or over x false) None both.1)

-- another connection, where the input of this one is over
another : (over : List Bool) (x c : ℕ) → get_or over x false ≡ false → get_or over c false ≡ true → x ≡ c → ⊥
another over x c open_yet over_now same = true≢false (sym over_now ∙ ap (λ n. get_or over n false) (sym same) ∙ open_yet)

-- nothing of a connection's input stands after its end
record IsPast (c : ℕ) (lines : List PlanLine) : Type 0 where
  not_again : some_line (closes_input c) lines ≡ false
  no_piece : pieces_on c lines ≡ []

past_line : (c : ℕ) (line : PlanLine) (lines : List PlanLine) → closes_input c line ≡ false → piece_by c line ≡ [] → IsPast c lines → IsPast c (line ∷ lines)
past_line c line lines quiet none past = record {
  not_again = ap (λ t. t || some_line (closes_input c) lines) quiet ∙ past.not_again;
  no_piece = ap (λ own. own ++ pieces_on c lines) none ∙ past.no_piece;
}

past_end : (workers : ℕ) (schedule rest : Bool) (over : List Bool) (lines : List PlanLine) (c : ℕ) → Pass workers schedule rest over lines → get_or over c false ≡ true → IsPast c lines
past_end workers schedule rest over [] c pass is = record { not_again = refl; no_piece = refl }
past_end workers schedule rest over (opening ∷ lines) c pass is =
    past_line c opening lines refl refl (past_end workers schedule rest (over ++ false ∷ []) lines c pass.1 (pushed over c ∙ is))
past_end workers schedule rest over (piece x bytes ∷ lines) c pass is =
    let other = ne_eqb x c (another over x c (input_clear over x pass.0.0).1 is) in
    past_line c (piece x bytes) lines refl (ap (λ t. cond t (bytes ∷ []) []) other) (past_end workers schedule rest over lines c pass.1 is)
past_end workers schedule rest over (input_end x ∷ lines) c pass is =
    let apart = another over x c (input_clear over x pass.0.0).1 is in
    past_line c (input_end x) lines (ap (λ t. t || false) (ne_eqb x c apart)) refl (past_end workers schedule rest (set over x true) lines c pass.1 (set_other over x c apart ∙ is))
past_end workers schedule rest over (input_fault x ∷ lines) c pass is =
    let apart = another over x c (input_clear over x pass.0.0).1 is in
    past_line c (input_fault x) lines (ne_eqb x c apart) refl (past_end workers schedule rest (set over x true) lines c pass.1 (set_other over x c apart ∙ is))
past_end workers schedule rest over (resting ∷ lines) c pass is = past_line c resting lines refl refl (past_end workers schedule rest over lines c pass.1 is)
past_end workers schedule rest over (turn_of_conn x ∷ lines) c pass is = past_line c (turn_of_conn x) lines refl refl (past_end workers schedule rest over lines c pass.1 is)
past_end workers schedule rest over (turn_of_worker w ∷ lines) c pass is = past_line c (turn_of_worker w) lines refl refl (past_end workers schedule rest over lines c pass.1 is)
past_end workers schedule rest over (turn_of_outcome ∷ lines) c pass is = past_line c turn_of_outcome lines refl refl (past_end workers schedule rest over lines c pass.1 is)

-- the end stands after a line that is none
later : (c : ℕ) (x : PlanLine) (lines : List PlanLine) → closes_input c x ≡ false → EndsOnce lines c → EndsOnce (x ∷ lines) c
later c x lines quiet ends = record {
  above = x ∷ ends.above;
  line = ends.line;
  behind = ends.behind;
  split = ap (λ more. x ∷ more) ends.split;
  closes = ends.closes;
  not_before = ap (λ t. t || some_line (closes_input c) ends.above) quiet ∙ ends.not_before;
  not_again = ends.not_again;
  no_piece = ends.no_piece;
}

-- or is the first one
here : (c : ℕ) (x : PlanLine) (lines : List PlanLine) → closes_input c x ≡ true → IsPast c lines → EndsOnce (x ∷ lines) c
here c x lines closes past = record {
  above = [];
  line = x;
  behind = lines;
  split = refl;
  closes = closes;
  not_before = refl;
  not_again = past.not_again;
  no_piece = past.no_piece;
}

-- a line that lets an input end: this one's, or another's
closing : (workers : ℕ) (schedule rest : Bool) (over : List Bool) (x c : ℕ) (line : PlanLine) (lines : List PlanLine) → x < length over → Pass workers schedule rest (set over x true) lines
    → (x ≡ c → closes_input c line ≡ true) → ((x ≡ c → ⊥) → closes_input c line ≡ false) → ((x ≡ c → ⊥) → EndsOnce lines c) → EndsOnce (line ∷ lines) c
closing workers schedule rest over x c line lines opened pass closes quiet behind =
    ⊎_elim
    (λ same. here c line lines (closes same) (past_end workers schedule rest (set over x true) lines c pass
    (ap (λ n. get_or (set over x true) n false) (sym same) ∙ get_or-set_same over x true false opened)))
    (λ apart. later c line lines (quiet apart) (behind apart))
    (cases_eq x c)

ends_once : (workers : ℕ) (schedule rest : Bool) (over : List Bool) (lines : List PlanLine) (c : ℕ) → Pass workers schedule rest over lines
    → get_or over c false ≡ false → get_or (over_all over lines) c false ≡ true → EndsOnce lines c
ends_once workers schedule rest over [] c pass before now = absurd (true≢false (sym now ∙ before))
ends_once workers schedule rest over (opening ∷ lines) c pass before now = later c opening lines refl (ends_once workers schedule rest (over ++ false ∷ []) lines c pass.1 (pushed over c ∙ before) now)
ends_once workers schedule rest over (piece x bytes ∷ lines) c pass before now = later c (piece x bytes) lines refl (ends_once workers schedule rest over lines c pass.1 before now)
ends_once workers schedule rest over (input_end x ∷ lines) c pass before now =
    closing workers schedule rest over x c (input_end x) lines (input_clear over x pass.0.0).0 pass.1 (λ same. ap (λ t. t || false) (eq-eqb x c same)) (λ apart. ap (λ t. t || false) (ne_eqb x c apart))
    (λ apart. ends_once workers schedule rest (set over x true) lines c pass.1 (set_other over x c apart ∙ before) now)
ends_once workers schedule rest over (input_fault x ∷ lines) c pass before now =
    closing workers schedule rest over x c (input_fault x) lines (input_clear over x pass.0.0).0 pass.1 (eq-eqb x c) (ne_eqb x c)
    (λ apart. ends_once workers schedule rest (set over x true) lines c pass.1 (set_other over x c apart ∙ before) now)
ends_once workers schedule rest over (resting ∷ lines) c pass before now = later c resting lines refl (ends_once workers schedule rest over lines c pass.1 before now)
ends_once workers schedule rest over (turn_of_conn x ∷ lines) c pass before now = later c (turn_of_conn x) lines refl (ends_once workers schedule rest over lines c pass.1 before now)
ends_once workers schedule rest over (turn_of_worker w ∷ lines) c pass before now = later c (turn_of_worker w) lines refl (ends_once workers schedule rest over lines c pass.1 before now)
ends_once workers schedule rest over (turn_of_outcome ∷ lines) c pass before now = later c turn_of_outcome lines refl (ends_once workers schedule rest over lines c pass.1 before now)

-- where all inputs are over, each is
over_at_by : (x : Bool) (over : List Bool) → (not x || list_any not over) ≡ false → (x ≡ true) × (list_any not over ≡ false)
over_at_by true over is = (refl, is)
over_at_by false over is = absurd (true≢false is)

over_at : (over : List Bool) (c : ℕ) → list_any not over ≡ false → c < length over → get_or over c false ≡ true
over_at [] c all within = absurd (omega arith)
over_at (x ∷ over) zero all within = (over_at_by x over all).0
over_at (x ∷ over) (suc c) all within = over_at over c (over_at_by x over all).1 (omega arith)

-- how many connections are opened after these lines
over_all_count : (over : List Bool) (lines : List PlanLine) → length (over_all over lines) ≡ length over + openings lines
over_all_count over [] = omega arith
over_all_count over (line ∷ lines) = omega (arith, over_all_count (over_behind line over) lines, over_count line over)

-- a line in the middle has no fault
at_split : (workers : ℕ) (schedule rest : Bool) (over : List Bool) (above behind : List PlanLine) (line : PlanLine) → Pass workers schedule rest over (above ++ line ∷ behind)
    → (fault_of_line workers schedule rest (over_all over above) (runs line) ≡ None) × IsWritable (runs line)
at_split workers schedule rest over [] behind line pass = pass.0
at_split workers schedule rest over (x ∷ above) behind line pass = at_split workers schedule rest (over_behind x over) above behind line pass.1

-- and what stands behind it passes
pass_behind : (workers : ℕ) (schedule rest : Bool) (over : List Bool) (above behind : List PlanLine) (line : PlanLine) → Pass workers schedule rest over (above ++ line ∷ behind)
    → Pass workers schedule rest (over_behind line (over_all over above)) behind
pass_behind workers schedule rest over [] behind line pass = pass.1
pass_behind workers schedule rest over (x ∷ above) behind line pass = pass_behind workers schedule rest (over_behind x over) above behind line pass.1

-- a connection that a line speaks of is opened
opened_by : (over : List Bool) (of_line : Option ℕ) (c : ℕ) → of_line ≡ Some c → is_unopened (length over) of_line ≡ false → c < length over
opened_by over None c is clear = absurd (cc)
opened_by over (Some x) c is clear =
    let same : x ≡ c = cc in
    omega (arith, same, leb-false (length over) x clear)

-- few connections are opened
few_step : (workers : ℕ) (schedule rest : Bool) (over : List Bool) (line : PlanLine) → fault_of_line workers schedule rest over (runs line) ≡ None → length over ≤ 1024
    → length over + one_if_opens line ≤ 1024
few_step workers schedule rest over opening clear few = omega (arith, few_opened (length over) (nat_le 1024 (length over)) refl clear)
few_step workers schedule rest over (piece c bytes) clear few = omega (arith, few)
few_step workers schedule rest over (input_end c) clear few = omega (arith, few)
few_step workers schedule rest over (input_fault c) clear few = omega (arith, few)
few_step workers schedule rest over resting clear few = omega (arith, few)
few_step workers schedule rest over (turn_of_conn c) clear few = omega (arith, few)
few_step workers schedule rest over (turn_of_worker w) clear few = omega (arith, few)
few_step workers schedule rest over turn_of_outcome clear few = omega (arith, few)

few_lines : (workers : ℕ) (schedule rest : Bool) (over : List Bool) (lines : List PlanLine) → Pass workers schedule rest over lines → length over ≤ 1024 → length over + openings lines ≤ 1024
few_lines workers schedule rest over [] pass few = omega (arith, few)
few_lines workers schedule rest over (line ∷ lines) pass few =
    let size = over_count line over in
    let step = few_step workers schedule rest over line pass.0.0 few in
    omega (arith, size, step, few_lines workers schedule rest (over_behind line over) lines pass.1 (omega (arith, size, step)))

rule_in : (above behind : List PlanRule) (count : ℕ) → AreRules (above ++ takes_most count ∷ behind) → 0 < count
rule_in [] behind count are = are.0.0
rule_in (x ∷ above) behind count are = rule_in above behind count are.1

-- A worker that a line moves is there.
worker_by : (schedule : Bool) (workers w : ℕ) → cond (not schedule) (Some Schedule) (cond (nat_le (max workers 1) w) (Some NoWorker) None) ≡ None → w < workers_among workers
worker_by schedule workers w clear = go workers (leb-false (max workers 1) w (working (nat_le (max workers 1) w) (unscheduled (not schedule) _ clear)))
  where
    go : (n : ℕ) → w < max n 1 → w < workers_among n
    go zero l = omega (arith, l)
    go (suc n) l = omega (arith, l)

-- a connection that a line in the middle speaks of is opened above it
pub opened_at : (workers : ℕ) (schedule rest : Bool) (c : ℕ) (above behind : List PlanLine) (line : PlanLine) → Pass workers schedule rest [] (above ++ line ∷ behind) → conn_of_line line ≡ Some c
    → c < length (over_all [] above)
opened_at workers schedule rest c above behind line pass of_line =
    let clear : is_unopened (length (over_all [] above)) (conn_of_line line) ≡ false =
    (connected (is_unopened (length (over_all [] above)) (conn_of_line line)) _ (unrested _ _ (unscheduled _ _ (at_split workers schedule rest [] above behind line pass).0))).0 in
    opened_by (over_all [] above) (conn_of_line line) c of_line clear

-- behind a line that lets the input of a connection end there is no piece of it
pub behind_end : (workers : ℕ) (schedule rest : Bool) (c : ℕ) (above behind : List PlanLine) (line : PlanLine) → Pass workers schedule rest [] (above ++ line ∷ behind) → over_behind line (over_all [] above) ≡ set (over_all [] above) c true
    → c < length (over_all [] above) → pieces_on c behind ≡ []
behind_end workers schedule rest c above behind line pass is opened =
    let over : List Bool = over_all [] above in
    let later : Pass workers schedule rest (set over c true) behind = subst (λ now. Pass workers schedule rest now behind) is (pass_behind workers schedule rest [] above behind line pass) in
    (past_end workers schedule rest (set over c true) behind c later (get_or-set_same over c true false opened)).no_piece

-- what every script is sound by, by what it was read to
pub sound_by : (workers : ℕ) (schedule rest : Bool) (script : ScriptPlan) → IsReadTo workers schedule rest script → IsSoundPlan script
sound_by workers schedule rest script to =
    let passes : (above behind : List PlanLine) (line : PlanLine) → script.lines ≡ above ++ line ∷ behind
    → (fault_of_line workers schedule rest (over_all [] above) (runs line) ≡ None) × IsWritable (runs line) =
    λ above behind line is. at_split workers schedule rest [] above behind line (subst (λ lines. Pass workers schedule rest [] lines) is to.pass) in
    record {
      opened = λ above behind line c is of_line.
          omega (arith, opened_at workers schedule rest c above behind line (subst (λ lines. Pass workers schedule rest [] lines) is to.pass) of_line, over_all_count [] above);
      few = omega (arith, few_lines workers schedule rest [] script.lines to.pass (omega arith));
      with_rules = to.count;
      ends = λ c within. ends_once workers schedule rest [] script.lines c to.pass refl
          (ap (λ over. get_or over c false) to.over_is ∙ over_at to.over c to.ended (omega (arith, within, to.opened)));
      pieces = λ above behind c bytes is. ((passes above behind (piece c bytes) is).1.1.0, bytes_at bytes (passes above behind (piece c bytes) is).1.1.1);
      writes = λ c count above behind is. rule_in above behind count (subst AreRules is (rules_at script.rules c to.rules));
    }

pub sound : (script : ScriptPlan) → IsKeptScript script → IsSoundPlan script
sound script back = sound_by 8 true true script (plan_stands 8 true true (map said_text (said_in script)) script back)

-- and whom its lines move
pub workers_by : (workers : ℕ) (schedule rest : Bool) (script : ScriptPlan) → IsReadTo workers schedule rest script → MovesItsWorkers workers script
workers_by workers schedule rest script to above behind w is =
    worker_by schedule workers w (at_split workers schedule rest [] above behind (turn_of_worker w) (subst (λ lines. Pass workers schedule rest [] lines) is to.pass)).0
