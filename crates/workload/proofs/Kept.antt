-- The script of a workload has a print without a fault.
use Rattle.std.proofs.Common.{◌≡◌, ℕ, zero, suc, ◌+◌, ◌-◌, ◌*◌, ◌<◌, ◌≤◌, Bool, true, false, not, cond, min, nat_le, nat_lt, List, [], ◌∷◌, ◌++◌, length, get_or, set, take, drop, map, replicate, Some, None, Result, Ok, Err, refl, sym, ap, subst, ◌∙◌, arith, length-append, length-take, length-drop, append_assoc, append-nil}
use Rattle.std.proofs.lemmas.Bool.{lt-leb, ltb-true}
use Rattle.std.proofs.lemmas.List.{length-replicate, get_or_at, set_at, get_or-replicate}
use Rattle.std.proofs.lemmas.Grind.{flat_map-append}
use Rattle.std.specs.List.{list_any, flat_map, AllByRecursion}
use Rattle.script_model.specs.ScriptLines.{PlanLine, opening, piece, input_end, input_fault, resting, turn_of_conn, turn_of_worker, turn_of_outcome, PlanRule, ScriptPlan, count_up}
use Rattle.script_text.specs.declared.fault.ScriptFault.{ScriptFault}
use Rattle.script_text.specs.declared.fault.ScriptKind.TheVariants.{NoEnd, NoConnection, AfterEnd, TooMany}
use Rattle.script_text.specs.LineForms.{runs, said_of}
use Rattle.script_text.specs.Reading.{ScriptSoFar, nothing_read, fault_of_line, over_behind, rules_opened, with_said, unless_fault, read_said, read_line, fault_at, reads_on, read_from, plan_read, plan_of_lines}
use Rattle.script_text.specs.Printing.{said_text}
use Rattle.script_text.specs.Sound.{IsKeptScript}
use Rattle.script_text.proofs.Cuts.{all-append}
use Rattle.script_text.proofs.Numbers.{EachByte}
use Rattle.script_text.proofs.Written.{IsWritable, said_written, not_ignored}
use Rattle.script_text.proofs.Standing.{over_all, Pass}
use Rattle.script_text.proofs.ReadBack.{plan_is_script}
use Rattle.workload.specs.LoadPlan.{piece_size, piece_at, piece_line, round, rounds, most_pieces, plan_of_streams}

-- the texts of these lines
abbrev texts_of : List PlanLine → List (List ℕ)
texts_of lines = map (λ line. said_text (runs line)) lines

-- what has been read after these lines, where this was read before them
abbrev read_behind : ScriptSoFar → List PlanLine → ScriptSoFar
read_behind so [] = so
read_behind so (line ∷ lines) = read_behind (with_said so (runs line)) lines

-- one line
line_on : (so : ScriptSoFar) (line : PlanLine) → IsWritable (runs line) → fault_of_line 0 false false so.over (runs line) ≡ None
    → read_line 0 false false so (said_text (runs line)) ≡ Ok (with_said so (runs line))
line_on so line can clear =
    ap (λ ignored. cond ignored (Ok so) (read_said 0 false false so (said_of (said_text (runs line))))) (not_ignored (runs line))
    ∙ ap (read_said 0 false false so) (said_written (runs line) can)
    ∙ ap (unless_fault (with_said so (runs line))) clear

-- all lines, after which every input has ended
lines_on : (number : ℕ) (so : ScriptSoFar) (lines : List PlanLine) → Pass 0 false false so.over lines → list_any not (over_all so.over lines) ≡ false
    → read_from 0 false false number so (texts_of lines) ≡ Ok (read_behind so lines)
lines_on number so [] pass ended = ap (λ left. cond left (Err (fault_at number NoEnd)) (Ok so)) ended
lines_on number so (line ∷ lines) pass ended =
    ap (reads_on number (λ next. read_from 0 false false (number + 1) next (texts_of lines))) (line_on so line pass.0.1 pass.0.0)
    ∙ lines_on (number + 1) (with_said so (runs line)) lines pass.1 ended

lines_behind : (so : ScriptSoFar) (lines : List PlanLine) → (read_behind so lines).lines ≡ so.lines ++ lines
lines_behind so [] = sym (append-nil so.lines)
lines_behind so (line ∷ lines) = lines_behind (with_said so (runs line)) lines ∙ append_assoc so.lines (line ∷ []) lines

rules_behind : (so : ScriptSoFar) (lines : List PlanLine) → (read_behind so lines).rules ≡ so.rules ++ flat_map rules_opened lines
rules_behind so [] = sym (append-nil so.rules)
rules_behind so (line ∷ lines) = rules_behind (with_said so (runs line)) lines ∙ append_assoc so.rules (rules_opened line) (flat_map rules_opened lines)

-- These lines have no fault where the inputs stand so before them, and leave the inputs so; they open connections with these rules, none each.
record Goes (before : List Bool) (lines : List PlanLine) (behind : List Bool) (rules : List (List PlanRule)) : Type 0 where
  pass : Pass 0 false false before lines
  over : over_all before lines ≡ behind
  opened : flat_map rules_opened lines ≡ rules

pass_append : (before : List Bool) (xs ys : List PlanLine) → Pass 0 false false before xs → Pass 0 false false (over_all before xs) ys → Pass 0 false false before (xs ++ ys)
pass_append before [] ys pass then = then
pass_append before (x ∷ xs) ys pass then = (pass.0, pass_append (over_behind x before) xs ys pass.1 then)

over_append : (before : List Bool) (xs ys : List PlanLine) → over_all before (xs ++ ys) ≡ over_all (over_all before xs) ys
over_append before [] ys = refl
over_append before (x ∷ xs) ys = over_append (over_behind x before) xs ys

-- first these lines, and then those
goes_on : (a b c : List Bool) (xs ys : List PlanLine) (r s : List (List PlanRule)) → Goes a xs b r → Goes b ys c s → Goes a (xs ++ ys) c (r ++ s)
goes_on a b c xs ys r s first more = record {
  pass = pass_append a xs ys first.pass (subst (λ over. Pass 0 false false over ys) (sym first.over) more.pass);
  over = over_append a xs ys ∙ ap (λ over. over_all over ys) first.over ∙ more.over;
  opened = flat_map-append rules_opened xs ys ∙ ap (λ rs. rs ++ flat_map rules_opened ys) first.opened ∙ ap (λ rs. r ++ rs) more.opened;
}

-- the openings
opens : (n : ℕ) (before : List Bool) → length before + n ≤ 1024 → Goes before (replicate n opening) (before ++ replicate n false) (replicate n [])
opens zero before few = record { pass = tt; over = sym (append-nil before); opened = refl }
opens (suc n) before few =
    let one : length (before ++ false ∷ []) ≡ length before + 1 = length-append before (false ∷ []) in
    let more = opens n (before ++ false ∷ []) (omega (arith, one)) in
    record {
      pass = ((ap (λ t. cond t (Some TooMany) None) (lt-leb 1024 (length before) (omega arith)), tt), more.pass);
      over = more.over ∙ append_assoc before (false ∷ []) (replicate n false);
      opened = ap (λ rs. [] ∷ rs) more.opened;
    }

-- a piece of one of n connections
abbrev pub IsPieceUnder : ℕ → PlanLine → Type 0
IsPieceUnder n (piece c bytes) = (c < n) × ((0 < length bytes) × EachByte bytes)
IsPieceUnder n _ = ⊥

-- pieces, while all inputs go on
pieces_go : (n : ℕ) → n ≤ 8 → (lines : List PlanLine) → AllByRecursion (IsPieceUnder n) lines → Goes (replicate n false) lines (replicate n false) []
pieces_go n few [] all = record { pass = tt; over = refl; opened = refl }
pieces_go n few (piece c bytes ∷ lines) all =
    let more = pieces_go n few lines all.1 in
    let within : c < n = all.0.0 in
    let size : length (replicate n false) ≡ n = length-replicate n false in
    let there : nat_le (length (replicate n false)) c ≡ false = lt-leb (length (replicate n false)) c (omega (arith, size, within)) in
    let going : get_or (replicate n false) c false ≡ false = get_or-replicate n c false false within in
    record {
      pass = ((ap (λ t. cond t (Some NoConnection) (cond (get_or (replicate n false) c false) (Some AfterEnd) None)) there ∙ ap (λ t. cond t (Some AfterEnd) None) going, (omega (arith, within), all.0.1)), more.pass);
      over = more.over;
      opened = more.opened;
    }
pieces_go n few (opening ∷ lines) all = absurd all.0
pieces_go n few (input_end c ∷ lines) all = absurd all.0
pieces_go n few (input_fault c ∷ lines) all = absurd all.0
pieces_go n few (resting ∷ lines) all = absurd all.0
pieces_go n few (turn_of_conn c ∷ lines) all = absurd all.0
pieces_go n few (turn_of_worker w ∷ lines) all = absurd all.0
pieces_go n few (turn_of_outcome ∷ lines) all = absurd all.0

-- the inputs of i connections have ended, and those of m behind them go on
abbrev ended_of : ℕ → ℕ → List Bool
ended_of i m = replicate i true ++ replicate m false

-- the ends
ends_go : (m i : ℕ) → i + m ≤ 8 → Goes (ended_of i m) (map input_end (count_up i m)) (replicate (i + m) true) []
ends_go zero i few = record { pass = tt; over = append-nil (replicate i true) ∙ ap (λ n. replicate n true) (omega arith); opened = refl }
ends_go (suc m) i few =
    let size : length (replicate i true) ≡ i = length-replicate i true in
    let whole : length (ended_of i (suc m)) ≡ i + suc m = length-append (replicate i true) (replicate (suc m) false) ∙ omega (arith, size, length-replicate (suc m) false) in
    let there : nat_le (length (ended_of i (suc m))) i ≡ false = lt-leb (length (ended_of i (suc m))) i (omega (arith, whole)) in
    let going : get_or (ended_of i (suc m)) i false ≡ false = get_or_at (replicate i true) false (replicate m false) false i size in
    let next : set (ended_of i (suc m)) i true ≡ ended_of (suc i) m = set_at (replicate i true) false (replicate m false) true i size ∙ one_more i m in
    let more : Goes (ended_of (suc i) m) (map input_end (count_up (suc i) m)) (replicate (suc i + m) true) [] = ends_go m (suc i) (omega arith) in
    record {
      pass = (
        (ap (λ t. cond t (Some NoConnection) (cond (get_or (ended_of i (suc m)) i false) (Some AfterEnd) None)) there ∙ ap (λ t. cond t (Some AfterEnd) None) going, omega arith),
        subst (λ over. Pass 0 false false over (map input_end (count_up (suc i) m))) (sym next) more.pass,
      );
      over = ap (λ over. over_all over (map input_end (count_up (suc i) m))) next ∙ more.over ∙ ap (λ n. replicate n true) (omega arith);
      opened = more.opened;
    }
  where
    one_more : (i m : ℕ) → replicate i true ++ true ∷ replicate m false ≡ replicate (suc i) true ++ replicate m false
    one_more zero m = refl
    one_more (suc i) m = ap (λ bs. true ∷ bs) (one_more i m)

all_ended : (n : ℕ) → list_any not (replicate n true) ≡ false
all_ended zero = refl
all_ended (suc n) = all_ended n

each_drop : (k : ℕ) (bytes : List ℕ) → EachByte bytes → EachByte (drop k bytes)
each_drop zero bytes each = each
each_drop (suc k) [] each = tt
each_drop (suc k) (b ∷ bytes) each = each_drop k bytes each.1

each_take : (k : ℕ) (bytes : List ℕ) → EachByte bytes → EachByte (take k bytes)
each_take zero bytes each = tt
each_take (suc k) [] each = tt
each_take (suc k) (b ∷ bytes) each = (each.0, each_take k bytes each.1)

-- each connection's bytes are bytes
abbrev pub AllBytes : List (List ℕ) → Type 0
AllBytes streams = AllByRecursion EachByte streams

bytes_of : (streams : List (List ℕ)) (c : ℕ) → AllBytes streams → EachByte (get_or streams c [])
bytes_of [] c all = tt
bytes_of (x ∷ streams) zero all = all.0
bytes_of (x ∷ streams) (suc c) all = bytes_of streams c all.1

-- each of these has some lines, which are all of this kind
all_flat : {X : Type 0} (P : PlanLine → Type 0) (f : X → List PlanLine) (xs : List X) → AllByRecursion (λ x. AllByRecursion P (f x)) xs → AllByRecursion P (flat_map f xs)
all_flat P f [] all = tt
all_flat P f (x ∷ xs) all = all-append P (f x) (flat_map f xs) all.0 (all_flat P f xs all.1)

always : {X : Type 0} (P : X → Type 0) (xs : List X) → ((x : X) → P x) → AllByRecursion P xs
always P [] each = tt
always P (x ∷ xs) each = (each x, always P xs each)

counted_under : (P : ℕ → Type 0) (n from : ℕ) → ((k : ℕ) → k < from + n → P k) → AllByRecursion P (count_up from n)
counted_under P zero from each = tt
counted_under P (suc n) from each = (each from (omega arith), counted_under P n (suc from) (λ k h. each k (omega arith)))

one_piece : (n i c : ℕ) (bytes : List ℕ) → c < n → EachByte bytes → (there : Bool) → nat_lt (piece_size * i) (length bytes) ≡ there
    → AllByRecursion (IsPieceUnder n) (cond there (piece c (piece_at i bytes) ∷ []) [])
one_piece n i c bytes within each true is =
    let some : 61 * i < length bytes = ltb-true (61 * i) (length bytes) is in
    let left : length (drop (61 * i) bytes) ≡ length bytes - 61 * i = length-drop (61 * i) bytes in
    let size : length (piece_at i bytes) ≡ min 61 (length (drop (61 * i) bytes)) = length-take 61 (drop (61 * i) bytes) in
    ((within, (omega (arith, size, left, some), each_take 61 (drop (61 * i) bytes) (each_drop (61 * i) bytes each))), tt)
one_piece n i c bytes within each false is = tt

pub rounds_are_pieces : (streams : List (List ℕ)) → AllBytes streams → AllByRecursion (IsPieceUnder (length streams)) (rounds streams)
rounds_are_pieces streams all =
    all_flat (IsPieceUnder (length streams)) (round streams) (count_up 0 (most_pieces streams)) (always _ (count_up 0 (most_pieces streams)) (λ i.
    all_flat (IsPieceUnder (length streams)) (λ c. piece_line i c (get_or streams c [])) (count_up 0 (length streams)) (counted_under _ (length streams) 0 (λ c h.
    one_piece (length streams) i c (get_or streams c []) (omega arith) (bytes_of streams c all) _ refl))))

-- all lines of the script
whole_goes : (streams : List (List ℕ)) → length streams ≤ 8 → AllBytes streams
    → Goes [] (plan_of_streams streams).lines (replicate (length streams) true) (replicate (length streams) [] ++ ([] ++ []))
whole_goes streams few all =
    let n : ℕ = length streams in
    goes_on [] (replicate n false) (replicate n true) (replicate n opening) (rounds streams ++ map input_end (count_up 0 n)) (replicate n []) ([] ++ [])
    (opens n [] (omega arith))
    (goes_on (replicate n false) (replicate n false) (replicate n true) (rounds streams) (map input_end (count_up 0 n)) [] []
    (pieces_go n few (rounds streams) (rounds_are_pieces streams all))
    (subst (λ m. Goes (replicate n false) (map input_end (count_up 0 n)) (replicate m true) []) (omega arith) (ends_go n 0 (omega arith))))

-- a script, as what was read
abbrev read_as : List PlanLine → List (List PlanRule) → Result ScriptPlan ScriptFault
read_as lines rules = Ok (record { lines = lines; rules = rules })

-- where each connection has bytes, and there are few, the script is one
pub is_kept : (streams : List (List ℕ)) → length streams ≤ 8 → AllBytes streams → IsKeptScript (plan_of_streams streams)
is_kept streams few all =
    let n : ℕ = length streams in
    let plan : ScriptPlan = plan_of_streams streams in
    let goes = whole_goes streams few all in
    let ended : list_any not (over_all [] plan.lines) ≡ false = ap (list_any not) goes.over ∙ all_ended n in
    let read : plan_of_lines 0 false false (texts_of plan.lines) ≡ read_as (read_behind nothing_read plan.lines).lines (read_behind nothing_read plan.lines).rules =
    ap plan_read (lines_on 1 nothing_read plan.lines goes.pass ended) in
    let rules : (read_behind nothing_read plan.lines).rules ≡ replicate n [] = rules_behind nothing_read plan.lines ∙ goes.opened ∙ append-nil (replicate n []) in
    let same : read_as (read_behind nothing_read plan.lines).lines (read_behind nothing_read plan.lines).rules ≡ read_as plan.lines plan.rules =
    ap (λ lines. read_as lines (read_behind nothing_read plan.lines).rules) (lines_behind nothing_read plan.lines) ∙ ap (read_as plan.lines) rules in
    plan_is_script 0 false false (texts_of plan.lines) plan (omega arith) (read ∙ same)
