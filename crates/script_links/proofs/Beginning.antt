-- A script taken apart: each connection has its own pieces and rules, and what holds of the script holds of them.
use Rattle.std.proofs.Common.{◌≡◌, ◌≢◌, ℕ, zero, suc, ◌+◌, ◌*◌, ◌<◌, ◌≤◌, ◌^◌, Bool, true, false, ◌&&◌, ◌==◌, nat_lt, if◌then◌else◌, List, [], ◌∷◌, ◌++◌, map, length, replicate, drop, get_or, refl, sym, ap, ◌∙◌, subst, arith, append_assoc, length-append, ◌⊎◌, inl, inr}
use Rattle.std.specs.List.{list_all, count_by}
use Rattle.std.proofs.lemmas.Bool.{and_parts, cases_eq, eq-eqb, ne_eqb, lt-ltb, le-leb}
use Rattle.std.proofs.lemmas.List.{append-nil, map-append, length-set, length-map, get_or-set_same, get_or-set_other}
use Rattle.std.proofs.lemmas.List.Folds.{list_all-append}
use Rattle.script_model.specs.ScriptLines.{PlanLine, opening, piece, input_end, input_fault, resting, turn_of_conn, turn_of_worker, turn_of_outcome, PlanRule, takes_most, blocks, fails, ScriptPlan, piece_by, pieces_on, rules_of, openings, count_up}
use Rattle.script_text.specs.Sound.{IsSoundPlan}
use Rattle.script_links.specs.ServedScript.{PlainLink, ServedScript, no_link, link_at, is_coming, marks_owed, has_bytes, lets_some, is_sound_link}
use Rattle.script_links.specs.Steps.{step_of, is_rest}
use Rattle.script_links.specs.Fresh.{fresh_link, IsFresh, with_piece, with_line, dealt, fresh_links}
use Rattle.script_links.specs.Kept.{HasRoomFor}
use Rattle.script_links.proofs.Keeping.{both, all_set, all_at, owed_at_most}
use Rattle.script_text.specs.Plans.{plain_line, plain_rules}
use Rattle.script_text.specs.declared.lines.ScriptLine.{ScriptLine as LineKept}
use Rattle.script_text.specs.declared.lines.WriteRule.{WriteRule as RuleKept}
use Rattle.script_links.specs.declared.step.Step.{Step}
use Rattle.script_links.specs.declared.link.ScriptConn.{ScriptConn}
use Rattle.script_links.specs.Kept.{plain_link, plain_links}
use Rattle.script_links.specs.Shows.{transfers_in}
use Rattle.script_links.specs.Followed.{AreLinksOf, LinkFollows, FollowsSoFar}
use Rattle.streams.specs.declared.marks.Mark.{Mark}
use Rattle.host_model.specs.Marks.{marks_of}
use Rattle.host_model.proofs.Lists.{nil-cons, cons_parts}
use Rattle.script_model.specs.RestLines.{opened_in}
use Rattle.script_links.proofs.Pieces.{drop_some, drop_next}
use Rattle.script_links.proofs.LinkFollowing.{fresh_follows}

-- one line more is dealt
pub dealt_push : (lines : List PlanLine) (line : PlanLine) (rows : List (List (List ℕ))) → dealt (lines ++ line ∷ []) rows ≡ with_line line (dealt lines rows)
dealt_push [] line rows = refl
dealt_push (first ∷ lines) line rows = dealt_push lines line (with_line first rows)

length_with : (line : PlanLine) (rows : List (List (List ℕ))) → length (with_line line rows) ≡ length rows
length_with (piece c bytes) rows = length-set rows c _
length_with opening rows = refl
length_with (input_end c) rows = refl
length_with (input_fault c) rows = refl
length_with resting rows = refl
length_with (turn_of_conn c) rows = refl
length_with (turn_of_worker w) rows = refl
length_with turn_of_outcome rows = refl

pub length_dealt : (lines : List PlanLine) (rows : List (List (List ℕ))) → length (dealt lines rows) ≡ length rows
length_dealt [] rows = refl
length_dealt (line ∷ lines) rows = length_dealt lines (with_line line rows) ∙ length_with line rows

-- what a line adds to one row
row_with : (line : PlanLine) (rows : List (List (List ℕ))) (k : ℕ) → k < length rows → get_or (with_line line rows) k [] ≡ get_or rows k [] ++ piece_by k line
row_with (piece c bytes) rows k below = go (cases_eq k c)
  where
    go : (k ≡ c) ⊎ (k ≡ c → ⊥) → get_or (with_piece c bytes rows) k [] ≡ get_or rows k [] ++ (if c == k then bytes ∷ [] else [])
    go (inl same) =
        ap (λ n. get_or (with_piece n bytes rows) k []) (sym same) ∙ get_or-set_same rows k (get_or rows k [] ++ bytes ∷ []) [] below
        ∙ ap (λ b. get_or rows k [] ++ (if b then bytes ∷ [] else [])) (sym (eq-eqb c k (sym same)))
    go (inr other) =
        get_or-set_other rows c k (get_or rows c [] ++ bytes ∷ []) [] other ∙ sym (append-nil (get_or rows k []))
        ∙ ap (λ b. get_or rows k [] ++ (if b then bytes ∷ [] else [])) (sym (ne_eqb c k (λ e. other (sym e))))
row_with opening rows k below = sym (append-nil (get_or rows k []))
row_with (input_end c) rows k below = sym (append-nil (get_or rows k []))
row_with (input_fault c) rows k below = sym (append-nil (get_or rows k []))
row_with resting rows k below = sym (append-nil (get_or rows k []))
row_with (turn_of_conn c) rows k below = sym (append-nil (get_or rows k []))
row_with (turn_of_worker w) rows k below = sym (append-nil (get_or rows k []))
row_with turn_of_outcome rows k below = sym (append-nil (get_or rows k []))

-- what lines add to it
pub row_dealt : (lines : List PlanLine) (rows : List (List (List ℕ))) (k : ℕ) → k < length rows → get_or (dealt lines rows) k [] ≡ get_or rows k [] ++ pieces_on k lines
row_dealt [] rows k below = sym (append-nil (get_or rows k []))
row_dealt (line ∷ lines) rows k below =
    row_dealt lines (with_line line rows) k (subst (λ n. k < n) (sym (length_with line rows)) below)
    ∙ ap (λ xs. xs ++ pieces_on k lines) (row_with line rows k below) ∙ append_assoc (get_or rows k []) (piece_by k line) (pieces_on k lines)

-- rows that are empty
abbrev pub no_pieces : List (List ℕ)
no_pieces = []

empty_at : (n k : ℕ) → get_or (replicate n no_pieces) k [] ≡ []
empty_at zero k = refl
empty_at (suc n) zero = refl
empty_at (suc n) (suc k) = empty_at n k

length_empty : (n : ℕ) → length (replicate n no_pieces) ≡ n
length_empty zero = refl
length_empty (suc n) = ap suc (length_empty n)

-- connections to come, one more, and at one place
pub fresh_push : (rows : List (List (List ℕ))) (rules : List (List PlanRule)) (more : List PlanRule) → length rules < length rows
    → fresh_links rows (rules ++ more ∷ []) ≡ fresh_links rows rules ++ fresh_link (get_or rows (length rules) []) more ∷ []
fresh_push [] rules more below = absurd (let f : ⊥ = omega arith in f)
fresh_push (row ∷ rows) [] more below = ends rows
  where
    ends : (rows : List (List (List ℕ))) → fresh_link row more ∷ fresh_links rows [] ≡ fresh_link row more ∷ []
    ends [] = refl
    ends (other ∷ rows) = refl
fresh_push (row ∷ rows) (own ∷ rules) more below = ap (λ xs. fresh_link row own ∷ xs) (fresh_push rows rules more (omega arith))

pub fresh_at : (rows : List (List (List ℕ))) (rules : List (List PlanRule)) (c : ℕ) → c < length rows → c < length rules
    → link_at (fresh_links rows rules) c ≡ fresh_link (get_or rows c []) (get_or rules c [])
fresh_at [] rules c here there = absurd (let f : ⊥ = omega arith in f)
fresh_at (row ∷ rows) [] c here there = absurd (let f : ⊥ = omega arith in f)
fresh_at (row ∷ rows) (own ∷ rules) zero here there = refl
fresh_at (row ∷ rows) (own ∷ rules) (suc c) here there = fresh_at rows rules c (omega arith) (omega arith)

-- each piece of lines has a byte, where each line's does
all_dealt : (lines : List PlanLine) (rows : List (List (List ℕ)))
    → ((above behind : List PlanLine) (c : ℕ) (bytes : List ℕ) → lines ≡ above ++ piece c bytes ∷ behind → 0 < length bytes)
    → list_all (list_all has_bytes) rows ≡ true → list_all (list_all has_bytes) (dealt lines rows) ≡ true
all_dealt [] rows some all = all
all_dealt (line ∷ lines) rows some all =
    all_dealt lines (with_line line rows) (λ above behind c bytes is. some (line ∷ above) behind c bytes (ap (λ xs. line ∷ xs) is)) (by line (λ c bytes is. some [] lines c bytes (ap (λ l. l ∷ lines) is)))
  where
    row_ok : (c : ℕ) → list_all has_bytes (get_or rows c []) ≡ true
    row_ok c = at rows c all
      where
        at : (rows : List (List (List ℕ))) (c : ℕ) → list_all (list_all has_bytes) rows ≡ true → list_all has_bytes (get_or rows c []) ≡ true
        at [] c all = refl
        at (row ∷ rows) zero all = (and_parts _ _ all).0
        at (row ∷ rows) (suc c) all = at rows c (and_parts _ _ all).1

    by : (line : PlanLine) → ((c : ℕ) (bytes : List ℕ) → line ≡ piece c bytes → 0 < length bytes) → list_all (list_all has_bytes) (with_line line rows) ≡ true
    by (piece c bytes) long =
        all_set (list_all has_bytes) rows c (get_or rows c [] ++ bytes ∷ []) all
        (list_all-append has_bytes (get_or rows c []) (bytes ∷ [])
        ∙ both (list_all has_bytes (get_or rows c [])) (list_all has_bytes (bytes ∷ [])) (row_ok c) (both (has_bytes bytes) true (lt-ltb 0 (length bytes) (long c bytes refl)) refl))
    by opening long = all
    by (input_end c) long = all
    by (input_fault c) long = all
    by resting long = all
    by (turn_of_conn c) long = all
    by (turn_of_worker w) long = all
    by turn_of_outcome long = all

all_empty : (n : ℕ) → list_all (list_all has_bytes) (replicate n []) ≡ true
all_empty zero = refl
all_empty (suc n) = all_empty n

-- each rule that bounds a write lets it take a byte
rules_some : (rules : List PlanRule) → ((count : ℕ) (above behind : List PlanRule) → rules ≡ above ++ takes_most count ∷ behind → 0 < count) → list_all lets_some rules ≡ true
rules_some [] some = refl
rules_some (rule ∷ rules) some =
    both (lets_some rule) (list_all lets_some rules) (by rule (λ count is. some count [] rules (ap (λ r. r ∷ rules) is)))
    (rules_some rules (λ count above behind is. some count (rule ∷ above) behind (ap (λ xs. rule ∷ xs) is)))
  where
    by : (rule : PlanRule) → ((count : ℕ) → rule ≡ takes_most count → 0 < count) → lets_some rule ≡ true
    by (takes_most count) long = lt-ltb 0 count (long count refl)
    by blocks long = refl
    by fails long = refl

all_by_place : {X : Type 0} (p : X → Bool) (d : X) (xs : List X) → ((i : ℕ) → i < length xs → p (get_or xs i d) ≡ true) → list_all p xs ≡ true
all_by_place p d [] each = refl
all_by_place p d (x ∷ xs) each = both (p x) (list_all p xs) (each 0 (omega arith)) (all_by_place p d xs (λ i below. each (suc i) (omega arith)))

fresh_sound : (rows : List (List (List ℕ))) (rules : List (List PlanRule)) → list_all (list_all has_bytes) rows ≡ true → list_all (list_all lets_some) rules ≡ true
    → list_all is_sound_link (fresh_links rows rules) ≡ true
fresh_sound [] rules some bounds = refl
fresh_sound (row ∷ rows) [] some bounds = refl
fresh_sound (row ∷ rows) (own ∷ rules) some bounds =
    both (is_sound_link (fresh_link row own)) (list_all is_sound_link (fresh_links rows rules))
    (both (list_all has_bytes row) _ (and_parts _ _ some).0 (both _ _ (le-leb 0 (length row) (omega arith)) (both (list_all lets_some own) _ (and_parts _ _ bounds).0 refl)))
    (fresh_sound rows rules (and_parts _ _ some).1 (and_parts _ _ bounds).1)

-- links over a script, before anything has happened
pub begins : (script : ScriptPlan) (s : ServedScript) → s.lines ≡ map step_of script.lines → s.steps ≡ s.lines → s.links ≡ fresh_links (dealt script.lines (replicate (length script.rules) [])) script.rules
    → length s.links ≡ length script.rules → s.opened ≡ 0 → s.blocked ≡ [] → s.over ≡ false → s.tape ≡ [] → s.rests ≡ [] → s.lengths ≡ [] → IsFresh script s
begins script s lines steps links count opened blocked over tape rests lengths = record {
  lines = lines;
  steps = steps;
  opened = opened;
  count = count;
  each = λ c below.
      let rows : List (List (List ℕ)) = replicate (length script.rules) [] in
      let there : c < length script.rules = subst (λ n. c < n) count below in
      let wide : length (dealt script.lines rows) ≡ length script.rules = length_dealt script.lines rows ∙ length_empty (length script.rules) in
      let row : c < length rows = subst (λ n. c < n) (sym (length_empty (length script.rules))) there in
      ap (λ (l : List PlainLink). link_at l c) links ∙ fresh_at (dealt script.lines rows) script.rules c (subst (λ n. c < n) (sym wide) there) there
      ∙ ap (λ xs. fresh_link xs (rules_of c script)) (row_dealt script.lines rows c row ∙ ap (λ xs. xs ++ pieces_on c script.lines) (empty_at (length script.rules) c));
  blocked = blocked;
  over = over;
  tape = tape;
  rests = rests;
  lengths = lengths;
}

-- have room, where the script is sound, and room is taken for the marks of each connection and for each rest
pub begins_with_room : (script : ScriptPlan) (s : ServedScript) (marks places : ℕ) → IsSoundPlan script → s.links ≡ fresh_links (dealt script.lines (replicate (length script.rules) [])) script.rules
    → length s.links ≡ length script.rules → s.tape ≡ [] → s.rests ≡ [] → 3 * length s.links ≤ marks → count_by is_rest s.steps ≤ places → HasRoomFor marks places s
begins_with_room script s marks places sound links count tape rests enough each =
    let few : openings script.lines ≤ 1024 = sound.few in
    let same : length script.rules ≡ openings script.lines = sound.with_rules in
    let most : marks_owed s.links ≤ 3 * length s.links = owed_at_most s.links in
    let long : length s.tape ≡ 0 = ap length tape in
    let none : length s.rests ≡ 0 = ap length rests in
    record {
      sound =
          subst (λ (l : List PlainLink). list_all is_sound_link l ≡ true) (sym links)
          (fresh_sound (dealt script.lines (replicate (length script.rules) [])) script.rules
          (all_dealt script.lines (replicate (length script.rules) []) (λ above behind c bytes is. (sound.pieces above behind c bytes is).0) (all_empty (length script.rules)))
          (all_by_place (list_all lets_some) [] script.rules (λ c below. rules_some (rules_of c script) (λ most above behind is. sound.writes c most above behind is))));
      few = omega arith;
      for_marks = omega arith;
      for_rests = omega arith;
    }

-- the steps of lines, and their pieces dealt, with one line more
pub deal_steps : (steps now : List Step) (step : Step) (lines : List LineKept) (line : LineKept) → steps ≡ map step_of (map plain_line lines) → now ≡ steps ++ step ∷ [] → step ≡ step_of (plain_line line)
    → now ≡ map step_of (map plain_line (lines ++ line ∷ []))
deal_steps steps now step lines line are more is =
    more ∙ (λ i. are i ++ is i ∷ []) ∙ sym (ap (map step_of) (map-append plain_line lines (line ∷ [])) ∙ map-append step_of (map plain_line lines) (plain_line line ∷ []))

pub deal_rows : (first rows now : List (List (List ℕ))) (lines : List LineKept) (line : LineKept) → rows ≡ dealt (map plain_line lines) first → now ≡ with_line (plain_line line) rows
    → now ≡ dealt (map plain_line (lines ++ line ∷ [])) first
deal_rows first rows now lines line are more =
    more ∙ ap (with_line (plain_line line)) are ∙ sym (dealt_push (map plain_line lines) (plain_line line) first) ∙ sym (ap (λ ls. dealt ls first) (map-append plain_line lines (line ∷ [])))

-- connections to come, one more of them
pub coming_first : (rows : List (List (List ℕ))) → [] ≡ fresh_links rows []
coming_first [] = refl
coming_first (row ∷ rows) = refl

item_at : {X : Type 0} (n : ℕ) (xs ys : List X) (x d : X) → drop n xs ≡ x ∷ ys → get_or xs n d ≡ x
item_at zero [] ys x d e = absurd (nil-cons x ys e)
item_at zero (y ∷ xs) ys x d e = (cons_parts y x xs ys e).0
item_at (suc n) [] ys x d e = absurd (nil-cons x ys e)
item_at (suc n) (y ∷ xs) ys x d e = item_at n xs ys x d e

module _ (rows left behind : List (List (List ℕ))) (row : List (List ℕ)) (lists : List (List RuleKept)) (list : List RuleKept) (are : left ≡ drop (length lists) rows) (next : left ≡ row ∷ behind) where
  there : drop (length lists) rows ≡ row ∷ behind
  there = sym are ∙ next

  pub coming_left : behind ≡ drop (length (lists ++ list ∷ [])) rows
  coming_left =
      sym (drop_next (length lists) rows row behind there)
      ∙ ap (λ n. drop n rows) (let long : length (lists ++ list ∷ []) ≡ length lists + 1 = length-append lists (list ∷ []) in let e : suc (length lists) ≡ length (lists ++ list ∷ []) = omega arith in e)

  pub coming_links : (links now : List ScriptConn) (link : ScriptConn) → plain_links links ≡ fresh_links rows (map plain_rules lists) → plain_link link ≡ fresh_link row (plain_rules list)
      → now ≡ links ++ link ∷ [] → plain_links now ≡ fresh_links rows (map plain_rules (lists ++ list ∷ []))
  coming_links links now link so is more =
      let many : length (map plain_rules lists) ≡ length lists = length-map lists plain_rules in
      let below : length lists < length rows = drop_some (length lists) rows row behind there in
      let first : get_or rows (length (map plain_rules lists)) [] ≡ row = ap (λ n. get_or rows n []) many ∙ item_at (length lists) rows behind row [] there in
      ap plain_links more ∙ map-append plain_link links (link ∷ [])
      ∙ (λ i. so i ++ (is ∙ ap (λ r. fresh_link r (plain_rules list)) (sym first)) i ∷ [])
      ∙ sym (ap (fresh_links rows) (map-append plain_rules lists (list ∷ [])) ∙ fresh_push rows (map plain_rules lists) (plain_rules list) (omega arith))

-- links of a script, before anything has happened
pub are_links : (script : ScriptPlan) (s : ServedScript) → IsSoundPlan script → IsFresh script s → AreLinksOf script s
are_links script s sound fresh = record {
  sound = sound;
  lines = fresh.lines;
  count = fresh.count;
  pieces = λ c below. ap (λ (l : PlainLink). l.brought) (fresh.each c below);
  rules = λ c below. ap (λ (l : PlainLink). l.ruled) (fresh.each c below);
}
