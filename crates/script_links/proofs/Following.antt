-- Links over a script follow it, where one connection changes, and where a line is done.
use Rattle.std.proofs.Common.{◌≡◌, ◌≢◌, ℕ, zero, suc, ◌+◌, ◌<◌, ◌≤◌, ◌⊎◌, Bool, true, false, ◌&&◌, ◌||◌, nat_lt, if◌then◌else◌, Option, None, Some, List, [], ◌∷◌, ◌++◌, map, filter, length, take, drop, slice_get, refl, sym, ap, ◌∙◌, subst, inl, inr, arith, append_assoc, append-nil, length-append, true≢false}
use Rattle.std.specs.List.{list_any}
use Rattle.std.proofs.lemmas.Bool.{cases_eq, cases_lt, ltb-false}
use Rattle.std.proofs.lemmas.List.{length-set}
use Rattle.std.proofs.lemmas.Grind.{flat_map-append}
use Rattle.streams.specs.declared.marks.Mark.{Mark}
use Rattle.streams.specs.declared.marks.Mark.TheVariants.{Opened, Ended, ReadFailed}
use Rattle.streams.specs.declared.rest_place.RestPlace.{RestPlace}
use Rattle.host_model.specs.Marks.{connection_of, marks_of, input}
use Rattle.host_model.specs.Conversation.{IsPrefix}
use Rattle.machine_model.specs.OpenAtFronts.{opening_of, closing_of, marks_counted}
use Rattle.machine_model.specs.AtFronts.{IsOpenBehind}
use Rattle.machine_model.proofs.Taping.{marks_elsewhere}
use Rattle.script_model.specs.Arrival.{bytes_of_pieces}
use Rattle.script_model.specs.ScriptLines.{PlanLine, opening, resting, ScriptPlan, one_if_opens, openings, piece_by, pieces_on, ends_input, fails_input, some_line, count_up}
use Rattle.script_model.specs.RestLines.{opened_by, opened_in, TellsNoMore}
use Rattle.script_links.specs.declared.step.Step.{Step}
use Rattle.script_links.specs.declared.link.LinkStage.{LinkStage}
use Rattle.script_links.specs.declared.link.LinkStage.TheVariants as stages
use Rattle.script_links.specs.ServedScript.{PlainLink, ServedScript, link_at, with_link, is_coming, is_open_stage, is_open_at, is_closed_stage}
use Rattle.script_links.specs.Plain.{with_opening, has_unread}
use Rattle.script_links.specs.Steps.{step_of}
use Rattle.script_links.specs.Shows.{transfer_in, transfers_in, ShowsItsScript, EachShowsItsScript}
use Rattle.script_links.specs.Followed.{one_if_rests, rests_in, HasRestedBehind, LinkFollows, FollowsSoFar}
use Rattle.script_links.proofs.Connected.{own_changed, other_same}
use Rattle.script_links.proofs.Marking.{get_on, get_last, some_front, openings-append, rests-append, transfers-append, count_to, push_split, shows_on, shows_push}
use Rattle.script_links.proofs.LinkFollowing.{other_mark, arrived_so_far, opened_link, passed_link, open_not_closed}

-- a place of rest stays one, where the tape and the places grow
pub rested_on : (lines : List PlanLine) (tape more : List Mark) (places later : List RestPlace) → ((k : ℕ) (at : RestPlace) → slice_get places k ≡ Some at → slice_get later k ≡ Some at)
    → HasRestedBehind lines tape places → HasRestedBehind lines (tape ++ more) later
rested_on lines tape more places later grows r = record {
  front = r.front;
  back = r.back ++ more;
  split = ap (λ t. t ++ more) r.split ∙ append_assoc r.front r.back more;
  at = r.at;
  noted = grows (rests_in lines) r.at r.noted;
  place = r.place;
  opened = r.opened;
  no_more = r.no_more;
  all_read = r.all_read;
}

coming_not_open : (link : PlainLink) → is_coming link.stage ≡ true → (is_open_stage link.stage ≡ false) × (is_closed_stage link.stage ≡ false)
coming_not_open link e = by link.stage e
  where
    by : (stage : LinkStage) → is_coming stage ≡ true → (is_open_stage stage ≡ false) × (is_closed_stage stage ≡ false)
    by stages.Coming e = (refl, refl)
    by stages.Open e = absurd (true≢false (sym e))
    by stages.Ended e = absurd (true≢false (sym e))
    by stages.Closed e = absurd (true≢false (sym e))

-- where nothing is under way on connections, none of the open ones has a piece that it hasn't read
none_unread : (links : List PlainLink) (x : ℕ) → list_any has_unread links ≡ false → is_open_at links x ≡ true → (link_at links x).arrived ≡ 0
none_unread [] x none here = refl
none_unread (link ∷ links) x none here = go (has_unread link) refl x none here (none_unread links)
  where
    idle : (b : Bool) → (b && nat_lt 0 link.arrived) ≡ false → b ≡ true → link.arrived ≡ 0
    idle true e open_still = let l : link.arrived ≤ 0 = ltb-false 0 link.arrived e in omega arith
    idle false e open_still = absurd (true≢false (sym open_still))

    go : (b : Bool) → has_unread link ≡ b → (x : ℕ) → (b || list_any has_unread links) ≡ false → is_open_at (link ∷ links) x ≡ true
        → ((x : ℕ) → list_any has_unread links ≡ false → is_open_at links x ≡ true → (link_at links x).arrived ≡ 0) → (link_at (link ∷ links) x).arrived ≡ 0
    go true is x none here more = absurd (true≢false none)
    go false is zero none here more = idle (is_open_stage link.stage) is here
    go false is (suc x) none here more = more x none here

module _ (script : ScriptPlan) (s : ServedScript) (f : FollowsSoFar script s) where
  -- other parts of the links may change
  pub same_follows : (blocked : List ℕ) (over : Bool) → FollowsSoFar script (record s { blocked = blocked; over = over })
  same_follows blocked over = record {
    done = f.done;
    left = f.left;
    split = f.split;
    steps = f.steps;
    opened = f.opened;
    told = f.told;
    lent = f.lent;
    marks = f.marks;
    each = f.each;
    coming = f.coming;
    came = f.came;
    none = f.none;
    rest_count = f.rest_count;
    rests = f.rests;
  }

  module _ (c : ℕ) (below : c < length s.links) (change : PlainLink → PlainLink) where
    as_many : length (with_link c change s.links) ≡ length s.links
    as_many = length-set s.links c (change (link_at s.links c))

    -- each connection is to come as before, where the one that changes is
    stages_at : is_coming (change (link_at s.links c)).stage ≡ is_coming (link_at s.links c).stage → (x : ℕ)
        → is_coming (link_at (with_link c change s.links) x).stage ≡ is_coming (link_at s.links x).stage
    stages_at same x = go (cases_eq x c)
      where
        go : (x ≡ c) ⊎ (x ≡ c → ⊥) → is_coming (link_at (with_link c change s.links) x).stage ≡ is_coming (link_at s.links x).stage
        go (inl e) =
            ap (λ n. is_coming (link_at (with_link c change s.links) n).stage) e ∙ ap (λ (l : PlainLink). is_coming l.stage) (own_changed c change s.links below) ∙ same
            ∙ ap (λ n. is_coming (link_at s.links n).stage) (sym e)
        go (inr n) = ap (λ (l : PlainLink). is_coming l.stage) (other_same c x change s.links n)

    -- connection c changes, after a mark of its own that opens nothing
    pub marked_follows : (mark : Mark) (blocked lengths : List ℕ) → connection_of mark ≡ c → opened_by mark ≡ [] → length lengths ≡ length s.lengths + transfer_in mark
        → ((k x : ℕ) → slice_get s.lengths k ≡ Some x → slice_get lengths k ≡ Some x) → ShowsItsScript script f.done lengths s.tape mark
        → is_coming (change (link_at s.links c)).stage ≡ is_coming (link_at s.links c).stage
        → LinkFollows script f.done f.left (s.tape ++ mark ∷ []) c (change (link_at s.links c))
        → FollowsSoFar script (record s { links = with_link c change s.links; blocked = blocked; tape = s.tape ++ mark ∷ []; lengths = lengths })
    marked_follows mark blocked lengths own opens long grows shows stage mine = record {
      done = f.done;
      left = f.left;
      split = f.split;
      steps = f.steps;
      opened = f.opened;
      told = flat_map-append opened_by s.tape (mark ∷ []) ∙ ap (λ xs. opened_in s.tape ++ (xs ++ [])) opens ∙ append-nil (opened_in s.tape) ∙ f.told;
      lent =
          let more : transfers_in (s.tape ++ mark ∷ []) ≡ transfers_in s.tape + (transfer_in mark + 0) = transfers-append s.tape (mark ∷ []) in
          let before : length s.lengths ≡ transfers_in s.tape = f.lent in
          omega arith;
      marks = shows_push script f.done s.lengths lengths s.tape mark grows f.marks shows;
      each = λ x within. each_at x (subst (λ n. x < n) as_many within) (cases_eq x c);
      coming = λ x within before. stages_at stage x ∙ f.coming x (subst (λ n. x < n) as_many within) before;
      came = λ x before. stages_at stage x ∙ f.came x before;
      none = λ x past.
          let beyond : length s.links ≤ x = subst (λ n. n ≤ x) as_many past in
          marks_elsewhere c x s.tape (mark ∷ []) (λ e. let g : ⊥ = omega arith in g) (own, tt) ∙ f.none x beyond;
      rest_count = f.rest_count;
      rests = λ before behind is. rested_on before s.tape (mark ∷ []) s.rests s.rests (λ k at e. e) (f.rests before behind is);
    }
      where
        each_at : (x : ℕ) → x < length s.links → (x ≡ c) ⊎ (x ≡ c → ⊥) → LinkFollows script f.done f.left (s.tape ++ mark ∷ []) x (link_at (with_link c change s.links) x)
        each_at x within (inl e) =
            subst (λ n. LinkFollows script f.done f.left (s.tape ++ mark ∷ []) n (link_at (with_link c change s.links) n)) (sym e)
            (subst (LinkFollows script f.done f.left (s.tape ++ mark ∷ []) c) (sym (own_changed c change s.links below)) mine)
        each_at x within (inr n) =
            subst (LinkFollows script f.done f.left (s.tape ++ mark ∷ []) x) (sym (other_same c x change s.links n))
            (other_mark script f.done f.left s.tape c x mark (link_at s.links x) own n (f.each x within))

    -- connection c changes, and nothing is marked
    pub quiet_follows : (blocked : List ℕ) → is_coming (change (link_at s.links c)).stage ≡ is_coming (link_at s.links c).stage
        → LinkFollows script f.done f.left s.tape c (change (link_at s.links c)) → FollowsSoFar script (record s { links = with_link c change s.links; blocked = blocked })
    quiet_follows blocked stage mine = record {
      done = f.done;
      left = f.left;
      split = f.split;
      steps = f.steps;
      opened = f.opened;
      told = f.told;
      lent = f.lent;
      marks = f.marks;
      each = λ x within. each_at x (subst (λ n. x < n) as_many within) (cases_eq x c);
      coming = λ x within before. stages_at stage x ∙ f.coming x (subst (λ n. x < n) as_many within) before;
      came = λ x before. stages_at stage x ∙ f.came x before;
      none = λ x past. f.none x (subst (λ n. n ≤ x) as_many past);
      rest_count = f.rest_count;
      rests = f.rests;
    }
      where
        each_at : (x : ℕ) → x < length s.links → (x ≡ c) ⊎ (x ≡ c → ⊥) → LinkFollows script f.done f.left s.tape x (link_at (with_link c change s.links) x)
        each_at x within (inl e) =
            subst (λ n. LinkFollows script f.done f.left s.tape n (link_at (with_link c change s.links) n)) (sym e)
            (subst (LinkFollows script f.done f.left s.tape c) (sym (own_changed c change s.links below)) mine)
        each_at x within (inr n) = subst (LinkFollows script f.done f.left s.tape x) (sym (other_same c x change s.links n)) (f.each x within)

  module _ (line : PlanLine) (rest : List PlanLine) (is : f.left ≡ line ∷ rest) (steps : List Step) (steps_are : steps ≡ map step_of rest) where
    done_split : script.lines ≡ (f.done ++ line ∷ []) ++ rest
    done_split = f.split ∙ ap (λ xs. f.done ++ xs) is ∙ sym (append_assoc f.done (line ∷ []) rest)

    opened_then : openings (f.done ++ line ∷ []) ≡ openings f.done + one_if_opens line
    opened_then = let more : openings (f.done ++ line ∷ []) ≡ openings f.done + (one_if_opens line + 0) = openings-append f.done (line ∷ []) in omega arith

    rests_then : rests_in (f.done ++ line ∷ []) ≡ rests_in f.done + one_if_rests line
    rests_then = let more : rests_in (f.done ++ line ∷ []) ≡ rests_in f.done + (one_if_rests line + 0) = rests-append f.done (line ∷ []) in omega arith

    marks_then : EachShowsItsScript script (f.done ++ line ∷ []) s.lengths s.tape
    marks_then front back m e =
        shows_on script f.done (f.done ++ line ∷ []) s.lengths s.lengths (λ test t. some_front test f.done (line ∷ []) t) (λ k x t. t) front m (f.marks front back m e)

    -- places of the lines of rest after a line more
    rests_by : (tape : List Mark) (places : List RestPlace) → ((before behind : List PlanLine) → f.done ≡ before ++ resting ∷ behind → HasRestedBehind before tape places)
        → (line ≡ resting → HasRestedBehind f.done tape places) → (before behind : List PlanLine) → f.done ++ line ∷ [] ≡ before ++ resting ∷ behind → HasRestedBehind before tape places
    rests_by tape places earlier last before behind e =
        push_split (λ front l back. l ≡ resting → HasRestedBehind front tape places) f.done line last
        (λ front back l t r. earlier front back (t ∙ ap (λ x. front ++ x ∷ back) r)) before behind resting e refl

    rests_no : one_if_rests line ≡ 0 → line ≡ resting → ⊥
    rests_no none e = let one : one_if_rests line ≡ 1 = ap one_if_rests e in omega arith

    -- a line is done that neither opens a connection nor rests
    pub line_follows : (links : List PlainLink) → length links ≡ length s.links → one_if_opens line ≡ 0 → one_if_rests line ≡ 0
        → ((x : ℕ) → is_coming (link_at links x).stage ≡ is_coming (link_at s.links x).stage)
        → ((x : ℕ) → x < length s.links → LinkFollows script (f.done ++ line ∷ []) rest s.tape x (link_at links x))
        → FollowsSoFar script (record s { steps = steps; links = links })
    line_follows links long opens rests stages each = record {
      done = f.done ++ line ∷ [];
      left = rest;
      split = done_split;
      steps = steps_are;
      opened =
          let before : s.opened ≡ openings f.done = f.opened in
          let now : openings (f.done ++ line ∷ []) ≡ openings f.done + one_if_opens line = opened_then in
          omega arith;
      told = f.told;
      lent = f.lent;
      marks = marks_then;
      each = λ x within. each x (subst (λ n. x < n) long within);
      coming = λ x within before. stages x ∙ f.coming x (subst (λ n. x < n) long within) before;
      came = λ x before. stages x ∙ f.came x before;
      none = λ x past. f.none x (subst (λ n. n ≤ x) long past);
      rest_count =
          let before : length s.rests ≡ rests_in f.done = f.rest_count in
          let now : rests_in (f.done ++ line ∷ []) ≡ rests_in f.done + one_if_rests line = rests_then in
          omega arith;
      rests = rests_by s.tape s.rests f.rests (λ e. absurd (rests_no rests e));
    }

    -- a connection is opened
    pub opening_follows : line ≡ opening → s.opened < length s.links
        → FollowsSoFar script (record s { steps = steps; opened = suc s.opened; links = with_link s.opened with_opening s.links; tape = s.tape ++ Opened s.opened ∷ [] })
    opening_follows opens below = record {
      done = f.done ++ line ∷ [];
      left = rest;
      split = done_split;
      steps = steps_are;
      opened =
          let before : s.opened ≡ openings f.done = f.opened in
          let now : openings (f.done ++ line ∷ []) ≡ openings f.done + one_if_opens line = opened_then in
          let one : one_if_opens line ≡ 1 = ap one_if_opens opens in
          omega arith;
      told = flat_map-append opened_by s.tape (Opened s.opened ∷ []) ∙ ap (λ xs. xs ++ s.opened ∷ []) f.told ∙ sym (count_to s.opened);
      lent =
          let more : transfers_in (s.tape ++ Opened s.opened ∷ []) ≡ transfers_in s.tape + 0 = transfers-append s.tape (Opened s.opened ∷ []) in
          let before : length s.lengths ≡ transfers_in s.tape = f.lent in
          omega arith;
      marks = shows_push script (f.done ++ line ∷ []) s.lengths s.lengths s.tape (Opened s.opened) (λ k x e. e) marks_then tt;
      each = λ x within. each_at x (subst (λ n. x < n) as_before within) (cases_eq x s.opened);
      coming = λ x within before.
          other_stage x (λ e. let g : ⊥ = omega arith in g) ∙ f.coming x (subst (λ n. x < n) as_before within) (omega arith);
      came = λ x before. came_at x before (cases_eq x s.opened);
      none = λ x past.
          let beyond : length s.links ≤ x = subst (λ n. n ≤ x) as_before past in
          marks_elsewhere s.opened x s.tape (Opened s.opened ∷ []) (λ e. let g : ⊥ = omega arith in g) (refl, tt) ∙ f.none x beyond;
      rest_count =
          let before : length s.rests ≡ rests_in f.done = f.rest_count in
          let now : rests_in (f.done ++ line ∷ []) ≡ rests_in f.done + one_if_rests line = rests_then in
          let zero_is : one_if_rests line ≡ 0 = ap one_if_rests opens in
          omega arith;
      rests = rests_by (s.tape ++ Opened s.opened ∷ []) s.rests (λ before behind e. rested_on before s.tape (Opened s.opened ∷ []) s.rests s.rests (λ k at t. t) (f.rests before behind e))
          (λ e. absurd (rests_no (ap one_if_rests opens) e));
    }
      where
        as_before : length (with_link s.opened with_opening s.links) ≡ length s.links
        as_before = length-set s.links s.opened (with_opening (link_at s.links s.opened))

        passed : (x : ℕ) → x < length s.links → LinkFollows script (f.done ++ line ∷ []) rest s.tape x (link_at s.links x)
        passed x within =
            passed_link script f.done f.left f.split s.tape x (link_at s.links x) (f.each x within) line rest is
            (λ going. ap (λ (l : PlanLine). piece_by x l) opens)

        other_stage : (x : ℕ) → (x ≡ s.opened → ⊥) → is_coming (link_at (with_link s.opened with_opening s.links) x).stage ≡ is_coming (link_at s.links x).stage
        other_stage x n = ap (λ (l : PlainLink). is_coming l.stage) (other_same s.opened x with_opening s.links n)

        came_at : (x : ℕ) → x < suc s.opened → (x ≡ s.opened) ⊎ (x ≡ s.opened → ⊥) → is_coming (link_at (with_link s.opened with_opening s.links) x).stage ≡ false
        came_at x before (inl e) =
            ap (λ n. is_coming (link_at (with_link s.opened with_opening s.links) n).stage) e ∙ ap (λ (l : PlainLink). is_coming l.stage) (own_changed s.opened with_opening s.links below)
        came_at x before (inr n) = other_stage x n ∙ f.came x (omega (arith, n))

        each_at : (x : ℕ) → x < length s.links → (x ≡ s.opened) ⊎ (x ≡ s.opened → ⊥)
            → LinkFollows script (f.done ++ line ∷ []) rest (s.tape ++ Opened s.opened ∷ []) x (link_at (with_link s.opened with_opening s.links) x)
        each_at x within (inl e) =
            let stage : (is_open_stage (link_at s.links s.opened).stage ≡ false) × (is_closed_stage (link_at s.links s.opened).stage ≡ false) =
            coming_not_open (link_at s.links s.opened) (f.coming s.opened below (omega arith)) in
            subst (λ n. LinkFollows script (f.done ++ line ∷ []) rest (s.tape ++ Opened s.opened ∷ []) n (link_at (with_link s.opened with_opening s.links) n)) (sym e)
            (subst (LinkFollows script (f.done ++ line ∷ []) rest (s.tape ++ Opened s.opened ∷ []) s.opened) (sym (own_changed s.opened with_opening s.links below))
            (opened_link script (f.done ++ line ∷ []) rest done_split s.tape s.opened (link_at s.links s.opened) (passed s.opened below) stage.0 stage.1))
        each_at x within (inr n) =
            subst (LinkFollows script (f.done ++ line ∷ []) rest (s.tape ++ Opened s.opened ∷ []) x) (sym (other_same s.opened x with_opening s.links n))
            (other_mark script (f.done ++ line ∷ []) rest s.tape s.opened x (Opened s.opened) (link_at s.links x) refl n (passed x within))

    -- links rest at a line, and their place is noted
    pub resting_follows : line ≡ resting → (held : Bool) → (held ≡ false → list_any has_unread s.links ≡ false)
        → FollowsSoFar script (record s { steps = steps; rests = s.rests ++ record { place = length s.tape; held = held } ∷ [] })
    resting_follows rests_here held all_read = record {
      done = f.done ++ line ∷ [];
      left = rest;
      split = done_split;
      steps = steps_are;
      opened =
          let before : s.opened ≡ openings f.done = f.opened in
          let now : openings (f.done ++ line ∷ []) ≡ openings f.done + one_if_opens line = opened_then in
          let zero_is : one_if_opens line ≡ 0 = ap one_if_opens rests_here in
          omega arith;
      told = f.told;
      lent = f.lent;
      marks = marks_then;
      each = λ x within.
          passed_link script f.done f.left f.split s.tape x (link_at s.links x) (f.each x within) line rest is (λ going. ap (λ (l : PlanLine). piece_by x l) rests_here);
      coming = f.coming;
      came = f.came;
      none = f.none;
      rest_count =
          let before : length s.rests ≡ rests_in f.done = f.rest_count in
          let now : rests_in (f.done ++ line ∷ []) ≡ rests_in f.done + one_if_rests line = rests_then in
          let one : one_if_rests line ≡ 1 = ap one_if_rests rests_here in
          let more : length (s.rests ++ at ∷ []) ≡ length s.rests + 1 = length-append s.rests (at ∷ []) in
          omega arith;
      rests = rests_by s.tape (s.rests ++ at ∷ []) earlier (λ e. here);
    }
      where
        at : RestPlace
        at = record { place = length s.tape; held = held }

        earlier : (before behind : List PlanLine) → f.done ≡ before ++ resting ∷ behind → HasRestedBehind before s.tape (s.rests ++ at ∷ [])
        earlier before behind e =
            subst (λ t. HasRestedBehind before t (s.rests ++ at ∷ [])) (append-nil s.tape)
            (rested_on before s.tape [] s.rests (s.rests ++ at ∷ []) (λ k a t. get_on s.rests (at ∷ []) k a t) (f.rests before behind e))

        no_marks : (c : ℕ) → marks_of c s.tape ≡ [] → IsPrefix (input (marks_of c s.tape)) (bytes_of_pieces (pieces_on c f.done))
        no_marks c e = (bytes_of_pieces (pieces_on c f.done), ap (λ ms. input ms ++ bytes_of_pieces (pieces_on c f.done)) (sym e))

        no_more : (c : ℕ) → TellsNoMore f.done s.tape c
        no_more c = record {
          bytes = go (cases_lt c (length s.links));
          ended = λ front back e. (f.marks front back (Ended c) e).0;
          failed = λ front back e. (f.marks front back (ReadFailed c) e).0;
        }
          where
            go : (c < length s.links) ⊎ (length s.links ≤ c) → IsPrefix (input (marks_of c s.tape)) (bytes_of_pieces (pieces_on c f.done))
            go (inl below) = (f.each c below).seen
            go (inr past) = no_marks c (f.none c past)

        read_all : held ≡ false → (c : ℕ) → IsOpenBehind c s.tape → input (marks_of c s.tape) ≡ bytes_of_pieces (pieces_on c f.done)
        read_all free c open_there = go (cases_lt c (length s.links))
          where
            go : (c < length s.links) ⊎ (length s.links ≤ c) → input (marks_of c s.tape) ≡ bytes_of_pieces (pieces_on c f.done)
            go (inl below) =
                let here : is_open_at s.links c ≡ true = (f.each c below).is_open open_there in
                let none : (link_at s.links c).arrived ≡ 0 = none_unread s.links c (all_read free) here in
                sym (append-nil (input (marks_of c s.tape))) ∙ ap (λ n. input (marks_of c s.tape) ++ bytes_of_pieces (take n (link_at s.links c).pieces)) (sym none)
                ∙ arrived_so_far script f.done f.left f.split s.tape c (link_at s.links c) (f.each c below) (open_not_closed (link_at s.links c).stage here)
            go (inr past) =
                absurd (let g : ⊥ = omega (arith, subst (λ ms. marks_counted closing_of ms < marks_counted opening_of ms) (f.none c past) open_there) in g)

        here : HasRestedBehind f.done s.tape (s.rests ++ at ∷ [])
        here = record {
          front = s.tape;
          back = [];
          split = sym (append-nil s.tape);
          at = at;
          noted = subst (λ n. slice_get (s.rests ++ at ∷ []) n ≡ Some at) f.rest_count (get_last s.rests at);
          place = refl;
          opened = f.told ∙ ap (count_up 0) f.opened;
          no_more = no_more;
          all_read = read_all;
        }
