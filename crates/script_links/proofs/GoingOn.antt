-- What links over a script leave that are asked what is next follows the script.
use Rattle.std.proofs.Common.{◌≡◌, ◌≢◌, ℕ, zero, suc, ◌+◌, ◌<◌, ◌≤◌, ◌⊎◌, Bool, true, false, ◌&&◌, ◌||◌, ◌==◌, not, nat_lt, if◌then◌else◌, Option, None, Some, List, [], ◌∷◌, ◌++◌, map, length, drop, refl, sym, ap, ◌∙◌, subst, inl, inr, arith, true≢false, eq-eqb, ne_eqb}
use Rattle.std.specs.List.{list_any}
use Rattle.std.proofs.lemmas.Bool.{cases_eq, and_parts, lt-ltb}
use Rattle.std.proofs.lemmas.List.{length-set}
use Rattle.std.proofs.lemmas.Option.{none-some}
use Rattle.host_model.proofs.Lists.{nil-cons, cons_parts}
use Rattle.streams.specs.declared.marks.Mark.TheVariants.{Opened as OpenedMark}
use Rattle.outside.specs.declared.answers.Ask.{Ask}
use Rattle.outside.specs.declared.answers.Hint.TheVariants.{Opened, Readable, Over}
use Rattle.script_model.specs.ScriptLines.{PlanLine, opening, piece, input_end, input_fault, resting, turn_of_conn, turn_of_worker, turn_of_outcome, ScriptPlan, one_if_opens, openings, piece_by, pieces_on, ends_input, fails_input, some_line}
use Rattle.script_model.specs.Playing.{InputFinish, finishes, faults, or_else}
use Rattle.script_text.specs.Reading.{conn_of_line}
use Rattle.script_text.specs.Sound.{IsSoundPlan}
use Rattle.script_links.specs.declared.link.LinkStage.{LinkStage}
use Rattle.script_links.specs.declared.link.LinkStage.TheVariants as stages
use Rattle.script_links.specs.declared.step.Step.{Step}
use Rattle.script_links.specs.declared.step.Step.TheVariants.{Opens, Arrives, Ends, Fails, Rests, Passes}
use Rattle.script_links.specs.declared.step.Came.{Came}
use Rattle.script_links.specs.declared.step.Came.TheVariants.{Gives, Waits, GoesOn}
use Rattle.script_links.specs.ServedScript.{PlainLink, ServedScript, link_at, with_link, is_coming, is_open_stage, is_open_at, is_closed_stage}
use Rattle.script_links.specs.Plain.{Next, with_arrival, with_finish, with_opening, came_of, after_step, on_open, may_rest, has_unread, is_open_link, next_so, next_from, next_of_blocked, next_of}
use Rattle.script_links.specs.Steps.{step_of}
use Rattle.script_links.specs.Followed.{one_if_rests, LinkFollows, AreLinksOf, FollowsSoFar}
use Rattle.script_links.proofs.Connected.{open_is_there, own_changed, other_same}
use Rattle.script_links.proofs.Going.{goes_on, after_keeps}
use Rattle.script_links.proofs.Arriving.{arrival_stage}
use Rattle.script_links.proofs.Marking.{some_front, some_last, openings-append}
use Rattle.script_links.proofs.Pieces.{drop_some, drop_next}
use Rattle.script_links.proofs.LinkFollowing.{line_link, passed_link, open_not_closed}
use Rattle.script_links.proofs.Following.{same_follows, line_follows, opening_follows, resting_follows}

neither_closed : (stage : LinkStage) → is_open_stage stage ≡ false → is_coming stage ≡ false → is_closed_stage stage ≡ true
neither_closed stages.Coming o e = absurd (true≢false e)
neither_closed stages.Open o e = absurd (true≢false o)
neither_closed stages.Ended o e = absurd (true≢false o)
neither_closed stages.Closed o e = refl

abbrev is_fault : InputFinish → Bool
is_fault finishes = false
is_fault faults = true

not_fault : faults ≡ finishes → ⊥
not_fault e = true≢false (ap is_fault e)

abbrev waits : Came → Bool
waits Waits = true
waits _ = false

-- the line behind which a step stands
module _ (script : ScriptPlan) (s : ServedScript) (f : FollowsSoFar script s) (sound : IsSoundPlan script) (many : length s.links ≡ length script.rules) (ask : Ask) (step : Step) (steps : List Step)
    (here : s.steps ≡ step ∷ steps) where
  abbrev behind : ServedScript
  behind = after_step ask (record s { steps = steps }) step

  all_links : length s.links ≡ openings script.lines
  all_links = many ∙ sound.with_rules

  module _ (line : PlanLine) (rest : List PlanLine) (is : f.left ≡ line ∷ rest) where
    both_steps : step_of line ∷ map step_of rest ≡ step ∷ steps
    both_steps = sym (f.steps ∙ ap (map step_of) is) ∙ here

    step_is : step_of line ≡ step
    step_is = (cons_parts (step_of line) step (map step_of rest) steps both_steps).0

    steps_are : steps ≡ map step_of rest
    steps_are = sym (cons_parts (step_of line) step (map step_of rest) steps both_steps).1

    split_here : script.lines ≡ f.done ++ line ∷ rest
    split_here = f.split ∙ ap (λ xs. f.done ++ xs) is

    -- a line that speaks of a connection speaks of one that was opened
    was_opened : (c : ℕ) → conn_of_line line ≡ Some c → is_coming (link_at s.links c).stage ≡ false
    was_opened c speaks =
        let before : c < openings f.done = sound.opened f.done rest line c split_here speaks in
        let opened : s.opened ≡ openings f.done = f.opened in
        f.came c (omega arith)

    -- nothing comes of a line for a connection
    nothing_for : (x : ℕ) → x < length s.links → (is_closed_stage (link_at s.links x).stage ≡ false → piece_by x line ≡ []) → LinkFollows script (f.done ++ line ∷ []) rest s.tape x (link_at s.links x)
    nothing_for x within none = passed_link script f.done f.left f.split s.tape x (link_at s.links x) (f.each x within) line rest is none

    -- a line of which nothing comes
    quiet_line : one_if_opens line ≡ 0 → one_if_rests line ≡ 0 → ((x : ℕ) → is_closed_stage (link_at s.links x).stage ≡ false → piece_by x line ≡ []) → FollowsSoFar script (record s { steps = steps })
    quiet_line opens rests none = line_follows script s f line rest is steps steps_are s.links refl opens rests (λ x. refl) (λ x within. nothing_for x within (none x))

    -- a line of which something comes on connection c, which is open
    module _ (c : ℕ) (open_still : is_open_at s.links c ≡ true) (change : PlainLink → PlainLink) (stage : (change (link_at s.links c)).stage ≡ (link_at s.links c).stage)
        (others : (x : ℕ) → (x ≡ c → ⊥) → piece_by x line ≡ []) (own : LinkFollows script (f.done ++ line ∷ []) rest s.tape c (change (link_at s.links c))) where
      below : c < length s.links
      below = open_is_there s.links c open_still

      stage_at : (x : ℕ) → is_coming (link_at (with_link c change s.links) x).stage ≡ is_coming (link_at s.links x).stage
      stage_at x = go (cases_eq x c)
        where
          go : (x ≡ c) ⊎ (x ≡ c → ⊥) → is_coming (link_at (with_link c change s.links) x).stage ≡ is_coming (link_at s.links x).stage
          go (inl e) =
              ap (λ n. is_coming (link_at (with_link c change s.links) n).stage) e ∙ ap (λ (l : PlainLink). is_coming l.stage) (own_changed c change s.links below) ∙ ap is_coming stage
              ∙ ap (λ n. is_coming (link_at s.links n).stage) (sym e)
          go (inr n) = ap (λ (l : PlainLink). is_coming l.stage) (other_same c x change s.links n)

      changed_line : one_if_opens line ≡ 0 → one_if_rests line ≡ 0 → FollowsSoFar script (record s { steps = steps; links = with_link c change s.links })
      changed_line opens rests =
          line_follows script s f line rest is steps steps_are (with_link c change s.links) (length-set s.links c (change (link_at s.links c))) opens rests stage_at (λ x within. each x within (cases_eq x c))
        where
          each : (x : ℕ) → x < length s.links → (x ≡ c) ⊎ (x ≡ c → ⊥) → LinkFollows script (f.done ++ line ∷ []) rest s.tape x (link_at (with_link c change s.links) x)
          each x within (inl e) =
              subst (λ n. LinkFollows script (f.done ++ line ∷ []) rest s.tape n (link_at (with_link c change s.links) n)) (sym e)
              (subst (LinkFollows script (f.done ++ line ∷ []) rest s.tape c) (sym (own_changed c change s.links below)) own)
          each x within (inr n) =
              subst (LinkFollows script (f.done ++ line ∷ []) rest s.tape x) (sym (other_same c x change s.links n)) (nothing_for x within (λ going. others x n))

  opening_line : (rest : List PlanLine) → f.left ≡ opening ∷ rest → FollowsSoFar script (after_step ask (record s { steps = steps }) Opens)
  opening_line rest is =
      let all : openings script.lines ≡ openings f.done + (1 + openings rest) = ap openings (split_here opening rest is) ∙ openings-append f.done (opening ∷ rest) in
      let opened : s.opened ≡ openings f.done = f.opened in
      let links : length s.links ≡ openings script.lines = all_links in
      let below : s.opened < length s.links = omega arith in
      let coming : is_coming (link_at s.links s.opened).stage ≡ true = f.coming s.opened below (omega arith) in
      subst (λ b. FollowsSoFar script (if b then record s { steps = steps; opened = suc s.opened; links = with_link s.opened with_opening s.links; tape = s.tape ++ OpenedMark s.opened ∷ [] } else record s { steps = steps }))
      (sym coming) (opening_follows script s f opening rest is steps (steps_are opening rest is) refl below)

  piece_line : (rest : List PlanLine) (c : ℕ) (bytes : List ℕ) → f.left ≡ piece c bytes ∷ rest → FollowsSoFar script (on_open c with_arrival (record s { steps = steps }))
  piece_line rest c bytes is = go (is_open_at s.links c) refl
    where
      link : PlainLink
      link = link_at s.links c

      own_piece : piece_by c (piece c bytes) ≡ bytes ∷ []
      own_piece = ap (λ b. if b then bytes ∷ [] else []) (eq-eqb c c refl)

      no_piece : (x : ℕ) → (x ≡ c → ⊥) → piece_by x (piece c bytes) ≡ []
      no_piece x n = ap (λ b. if b then bytes ∷ [] else []) (ne_eqb c x (λ e. n (sym e)))

      arrives : is_open_at s.links c ≡ true → LinkFollows script (f.done ++ piece c bytes ∷ []) rest s.tape c (with_arrival link)
      arrives here =
          let below : c < length s.links = open_is_there s.links c here in
          let own : LinkFollows script f.done f.left s.tape c link = f.each c below in
          let to_come : drop link.arrived link.pieces ≡ bytes ∷ pieces_on c rest =
          own.arrived (open_not_closed link.stage here) ∙ ap (pieces_on c) is ∙ ap (λ (xs : List (List ℕ)). xs ++ pieces_on c rest) own_piece in
          let more : link.arrived < length link.pieces = drop_some link.arrived link.pieces bytes (pieces_on c rest) to_come in
          subst (λ b. LinkFollows script (f.done ++ piece c bytes ∷ []) rest s.tape c (if b then record link { arrived = suc link.arrived } else link)) (sym (lt-ltb link.arrived (length link.pieces) more))
          (line_link script f.done f.left f.split s.tape c link own (piece c bytes) rest (record link { arrived = suc link.arrived }) refl refl refl
          (λ going. drop_next link.arrived link.pieces bytes (pieces_on c rest) to_come)
          (λ e. some_front (ends_input c) f.done (piece c bytes ∷ []) (own.ends e)) (λ e. some_front (fails_input c) f.done (piece c bytes ∷ []) (own.fails e)))

      closed : is_open_at s.links c ≡ false → (x : ℕ) → is_closed_stage (link_at s.links x).stage ≡ false → piece_by x (piece c bytes) ≡ []
      closed none x going = by (cases_eq x c)
        where
          by : (x ≡ c) ⊎ (x ≡ c → ⊥) → piece_by x (piece c bytes) ≡ []
          by (inl e) =
              let shut : is_closed_stage link.stage ≡ true = neither_closed link.stage none (was_opened (piece c bytes) rest is c refl) in
              absurd (true≢false (sym (ap (λ n. is_closed_stage (link_at s.links n).stage) e ∙ shut) ∙ going))
          by (inr n) = no_piece x n

      go : (b : Bool) → is_open_at s.links c ≡ b → FollowsSoFar script (if b then record s { steps = steps; links = with_link c with_arrival s.links } else record s { steps = steps })
      go true here = changed_line (piece c bytes) rest is c here with_arrival (arrival_stage link) no_piece (arrives here) refl refl
      go false none = quiet_line (piece c bytes) rest is refl refl (closed none)

  -- a line that says what comes after all pieces
  finish_line : (line : PlanLine) (rest : List PlanLine) (c : ℕ) (finish : InputFinish) → f.left ≡ line ∷ rest → one_if_opens line ≡ 0 → one_if_rests line ≡ 0 → ((x : ℕ) → piece_by x line ≡ [])
      → (finish ≡ finishes → ends_input c line ≡ true) → (finish ≡ faults → fails_input c line ≡ true) → FollowsSoFar script (on_open c (with_finish finish) (record s { steps = steps }))
  finish_line line rest c finish is opens rests none ends fails = go (is_open_at s.links c) refl
    where
      link : PlainLink
      link = link_at s.links c

      finish_in : InputFinish → Option InputFinish → InputFinish
      finish_in other None = other
      finish_in other (Some x) = x

      same_finish : (x y : InputFinish) → Some x ≡ Some y → x ≡ y
      same_finish x y e = ap (finish_in x) e

      known : (test : PlanLine → Bool) (want : InputFinish) (old : Option InputFinish) → (old ≡ Some want → some_line test f.done ≡ true) → (finish ≡ want → test line ≡ true)
          → or_else old (Some finish) ≡ Some want → some_line test (f.done ++ line ∷ []) ≡ true
      known test want None before now e = some_last test f.done line (now (same_finish finish want e))
      known test want (Some x) before now e = some_front test f.done (line ∷ []) (before e)

      says : is_open_at s.links c ≡ true → LinkFollows script (f.done ++ line ∷ []) rest s.tape c (with_finish finish link)
      says here =
          let own : LinkFollows script f.done f.left s.tape c link = f.each c (open_is_there s.links c here) in
          line_link script f.done f.left f.split s.tape c link own line rest (with_finish finish link) refl refl refl
          (λ going. own.arrived going ∙ ap (pieces_on c) is ∙ ap (λ (xs : List (List ℕ)). xs ++ pieces_on c rest) (none c))
          (known (ends_input c) finishes link.finish own.ends ends) (known (fails_input c) faults link.finish own.fails fails)

      go : (b : Bool) → is_open_at s.links c ≡ b → FollowsSoFar script (if b then record s { steps = steps; links = with_link c (with_finish finish) s.links } else record s { steps = steps })
      go true here = changed_line line rest is c here (with_finish finish) refl (λ x n. none x) (says here) opens rests
      go false shut = quiet_line line rest is opens rests (λ x going. none x)

  -- links rest
  rest_line : (rest : List PlanLine) → f.left ≡ resting ∷ rest → may_rest ask s.links ≡ true → FollowsSoFar script (after_step ask (record s { steps = steps }) Rests)
  rest_line rest is may =
      resting_follows script s f resting rest is steps (steps_are resting rest is) refl ask.held
      (λ free. read_all ask.idle ask.held (list_any has_unread s.links) may free)
    where
      read_all : (idle held unread : Bool) → (idle && (held || not unread)) ≡ true → held ≡ false → unread ≡ false
      read_all true true unread may free = absurd (true≢false free)
      read_all true false true may free = absurd (true≢false (sym may))
      read_all true false false may free = refl
      read_all false held unread may free = absurd (true≢false (sym may))

  may_or : (b : Bool) → waits (if b then GoesOn else Waits) ≡ false → b ≡ true
  may_or true e = refl
  may_or false e = absurd (true≢false e)

  -- a step that doesn't wait
  line_done : (line : PlanLine) (rest : List PlanLine) → f.left ≡ line ∷ rest → waits (came_of ask s (step_of line)) ≡ false → FollowsSoFar script (after_step ask (record s { steps = steps }) (step_of line))
  line_done opening rest is goes = opening_line rest is
  line_done (piece c bytes) rest is goes = piece_line rest c bytes is
  line_done (input_end c) rest is goes = finish_line (input_end c) rest c finishes is refl refl (λ x. refl) (λ e. eq-eqb c c refl) (λ e. absurd (not_fault (sym e)))
  line_done (input_fault c) rest is goes = finish_line (input_fault c) rest c faults is refl refl (λ x. refl) (λ e. absurd (not_fault e)) (λ e. eq-eqb c c refl)
  line_done resting rest is goes = rest_line rest is (may_or (may_rest ask s.links) goes)
  line_done (turn_of_conn c) rest is goes = quiet_line (turn_of_conn c) rest is refl refl (λ x going. refl)
  line_done (turn_of_worker w) rest is goes = quiet_line (turn_of_worker w) rest is refl refl (λ x going. refl)
  line_done turn_of_outcome rest is goes = quiet_line turn_of_outcome rest is refl refl (λ x going. refl)

  pub step_follows : waits (came_of ask s step) ≡ false → FollowsSoFar script behind
  step_follows goes = by f.left refl
    where
      by : (left : List PlanLine) → f.left ≡ left → FollowsSoFar script behind
      by [] is = absurd (nil-cons step steps (sym (f.steps ∙ ap (map step_of) is) ∙ here))
      by (line ∷ rest) is =
          subst (λ x. FollowsSoFar script (after_step ask (record s { steps = steps }) x)) (step_is line rest is)
          (line_done line rest is (subst (λ x. waits (came_of ask s x) ≡ false) (sym (step_is line rest is)) goes))

on_open_many : (s : ServedScript) (c : ℕ) (change : PlainLink → PlainLink) (b : Bool) → length (if b then record s { links = with_link c change s.links } else s).links ≡ length s.links
on_open_many s c change true = length-set s.links c (change (link_at s.links c))
on_open_many s c change false = refl

abbrev end_so : ServedScript → Bool → Next
end_so s b = if not b then record { came = Gives Over; left = record s { over = true } } else record { came = Waits; left = s }

-- what all steps come to leaves links that follow
module _ (script : ScriptPlan) (sound : IsSoundPlan script) (ask : Ask) where
  keeps_many : (s : ServedScript) (step : Step) → length (after_step ask s step).links ≡ length s.links
  keeps_many s Opens = go (is_coming (link_at s.links s.opened).stage)
    where
      go : (b : Bool) → length (if b then record s { opened = suc s.opened; links = with_link s.opened with_opening s.links; tape = s.tape ++ OpenedMark s.opened ∷ [] } else s).links ≡ length s.links
      go true = length-set s.links s.opened (with_opening (link_at s.links s.opened))
      go false = refl
  keeps_many s (Arrives c) = on_open_many s c with_arrival (is_open_at s.links c)
  keeps_many s (Ends c) = on_open_many s c (with_finish finishes) (is_open_at s.links c)
  keeps_many s (Fails c) = on_open_many s c (with_finish faults) (is_open_at s.links c)
  keeps_many s Rests = refl
  keeps_many s Passes = refl

  end_follows : (s : ServedScript) (b : Bool) → FollowsSoFar script s → FollowsSoFar script (end_so s b).left
  end_follows s true f = f
  end_follows s false f = same_follows script s f s.blocked true

  from_follows : (steps : List Step) (s : ServedScript) → s.steps ≡ steps → length s.links ≡ length script.rules → FollowsSoFar script s → FollowsSoFar script (next_from ask steps s).left
  from_follows [] s is many f = end_follows s (list_any is_open_link s.links) f
  from_follows (step ∷ steps) s is many f =
      by (came_of ask s step) (step_follows script s f sound many ask step steps is)
      (λ g. from_follows steps (after_step ask (record s { steps = steps }) step) (after_keeps ask (record s { steps = steps }) step) (keeps_many (record s { steps = steps }) step ∙ many) g)
    where
      by : (came : Came) → (waits came ≡ false → FollowsSoFar script (after_step ask (record s { steps = steps }) step))
          → (FollowsSoFar script (after_step ask (record s { steps = steps }) step) → FollowsSoFar script (next_from ask steps (after_step ask (record s { steps = steps }) step)).left)
          → FollowsSoFar script (next_so came s (after_step ask (record s { steps = steps }) step) (next_from ask steps (after_step ask (record s { steps = steps }) step))).left
      by (Gives hint) done more = done refl
      by Waits done more = f
      by GoesOn done more = more (done refl)

  pub next_follows : (s : ServedScript) → length s.links ≡ length script.rules → FollowsSoFar script s → FollowsSoFar script (next_of ask s).left
  next_follows s many f = by s.blocked
    where
      by : (blocked : List ℕ) → FollowsSoFar script (next_of_blocked ask s blocked).left
      by [] = from_follows s.steps s refl many f
      by (c ∷ blocked) = same_follows script s f blocked s.over
