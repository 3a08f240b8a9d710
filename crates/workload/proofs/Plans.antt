-- What the script of a workload has none of: faults of inputs, and rules of writes. And how many connections it opens.
use Rattle.std.proofs.Common.{◌≡◌, ℕ, zero, suc, ◌+◌, ◌*◌, ◌||◌, Bool, true, false, cond, nat_lt, List, [], ◌∷◌, ◌++◌, length, get_or, map, replicate, refl, ap, ◌∙◌, arith}
use Rattle.std.specs.List.{flat_map, AllByRecursion}
use Rattle.host_model.proofs.Lists.{all-append}
use Rattle.script_model.specs.ScriptLines.{PlanLine, opening, piece, input_end, PlanRule, one_if_opens, openings, fails_input, some_line, rules_of, count_up}
use Rattle.workload.specs.LoadPlan.{connections_of, all_bytes, piece_at, piece_line, round, rounds, most_pieces, workload_plan}
use Rattle.workload.proofs.Pieces.{few_streams}

-- no rules
abbrev unruled : List PlanRule
unruled = []

none_at : (m c : ℕ) → get_or (replicate m unruled) c unruled ≡ unruled
none_at zero c = refl
none_at (suc m) zero = refl
none_at (suc m) (suc c) = none_at m c

pub no_rules : (seed size c : ℕ) → rules_of c (workload_plan seed size) ≡ []
no_rules seed size c = none_at (length (all_bytes seed size)) c

-- a line that opens no connection, and lets no input fail
pub record IsQuiet (line : PlanLine) : Type 0 where
  opens : one_if_opens line ≡ 0
  fails : (c : ℕ) → fails_input c line ≡ false

all_flat : {X : Type 0} (f : X → List PlanLine) → ((x : X) → AllByRecursion IsQuiet (f x)) → (xs : List X) → AllByRecursion IsQuiet (flat_map f xs)
all_flat f each [] = tt
all_flat f each (x ∷ xs) = all-append IsQuiet (f x) (flat_map f xs) (each x) (all_flat f each xs)

quiet_piece : (i c : ℕ) (bytes : List ℕ) → AllByRecursion IsQuiet (piece_line i c bytes)
quiet_piece i c bytes = go (nat_lt (61 * i) (length bytes))
  where
    go : (there : Bool) → AllByRecursion IsQuiet (cond there (piece c (piece_at i bytes) ∷ []) [])
    go true = (record { opens = refl; fails = λ x. refl }, tt)
    go false = tt

quiet_rounds : (streams : List (List ℕ)) → AllByRecursion IsQuiet (rounds streams)
quiet_rounds streams =
    all_flat (round streams) (λ i. all_flat (λ c. piece_line i c (get_or streams c [])) (λ c. quiet_piece i c (get_or streams c [])) (count_up 0 (length streams)))
    (count_up 0 (most_pieces streams))

quiet_ends : (cs : List ℕ) → AllByRecursion IsQuiet (map input_end cs)
quiet_ends [] = tt
quiet_ends (c ∷ cs) = (record { opens = refl; fails = λ x. refl }, quiet_ends cs)

-- the lines behind the openings
quiet_lines : (seed size : ℕ) → AllByRecursion IsQuiet (rounds (all_bytes seed size) ++ map input_end (count_up 0 (length (all_bytes seed size))))
quiet_lines seed size =
    all-append IsQuiet (rounds (all_bytes seed size)) (map input_end (count_up 0 (length (all_bytes seed size)))) (quiet_rounds (all_bytes seed size))
    (quiet_ends (count_up 0 (length (all_bytes seed size))))

none_fails : (c : ℕ) (lines : List PlanLine) → AllByRecursion IsQuiet lines → some_line (fails_input c) lines ≡ false
none_fails c [] all = refl
none_fails c (line ∷ lines) all = ap (λ b. b || some_line (fails_input c) lines) (all.0.fails c) ∙ none_fails c lines all.1

no_opening_fails : (c m : ℕ) (lines : List PlanLine) → some_line (fails_input c) (replicate m opening ++ lines) ≡ some_line (fails_input c) lines
no_opening_fails c zero lines = refl
no_opening_fails c (suc m) lines = no_opening_fails c m lines

pub no_fault : (seed size c : ℕ) → some_line (fails_input c) (workload_plan seed size).lines ≡ false
no_fault seed size c =
    let lines : List PlanLine = rounds (all_bytes seed size) ++ map input_end (count_up 0 (length (all_bytes seed size))) in
    no_opening_fails c (length (all_bytes seed size)) lines ∙ none_fails c lines (quiet_lines seed size)

none_opens : (lines : List PlanLine) → AllByRecursion IsQuiet lines → openings lines ≡ 0
none_opens [] all = refl
none_opens (line ∷ lines) all = let here = all.0.opens in let more = none_opens lines all.1 in omega (arith, here, more)

opened_first : (m : ℕ) (lines : List PlanLine) → openings (replicate m opening ++ lines) ≡ m + openings lines
opened_first zero lines = omega arith
opened_first (suc m) lines = let more = opened_first m lines in omega (arith, more)

pub openings_are : (seed size : ℕ) → openings (workload_plan seed size).lines ≡ connections_of size
openings_are seed size =
    let m : ℕ = length (all_bytes seed size) in
    let lines : List PlanLine = rounds (all_bytes seed size) ++ map input_end (count_up 0 m) in
    let first : openings (replicate m opening ++ lines) ≡ m + openings lines = opened_first m lines in
    let none : openings lines ≡ 0 = none_opens lines (quiet_lines seed size) in
    let few : m ≡ connections_of size = few_streams seed size in
    first ∙ ap (λ n. m + n) none ∙ (let e : m + 0 ≡ m = omega arith in e) ∙ few
