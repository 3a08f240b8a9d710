-- What links over a script answer that are asked what is next, as links tell it.
use Rattle.std.proofs.Common.{◌≡◌, ℕ, zero, suc, ◌+◌, ◌<◌, ◌^◌, Bool, true, false, ◌&&◌, ◌||◌, not, if◌then◌else◌, Some, List, [], ◌∷◌, ◌++◌, length, replicate, Result, Ok, refl, sym, ap, ◌∙◌, subst, arith, true≢false, append_assoc}
use Rattle.std.specs.List.{list_any}
use Rattle.std.proofs.lemmas.List.{append-nil}
use Rattle.streams.specs.declared.streams.Failed.{Failed}
use Rattle.streams.specs.declared.marks.Mark.{Mark}
use Rattle.streams.specs.declared.marks.Mark.TheVariants.{Opened as OpenedMark}
use Rattle.outside.specs.declared.answers.Ask.{Ask}
use Rattle.outside.specs.declared.answers.Hint.{Hint}
use Rattle.outside.specs.declared.answers.Hint.TheVariants.{Opened, Readable, Writable, Woken, Over}
use Rattle.outside.specs.Asking.{OpensNone, AnswerOpens, says_over, place_asked, NotesItsPlace, HasArrivedSince, MoreArrives, AnswersAsk}
use Rattle.script_model.specs.Arrival.{bytes_of_pieces}
use Rattle.script_model.specs.Playing.{finishes, faults}
use Rattle.script_links.specs.declared.step.Step.{Step}
use Rattle.script_links.specs.declared.step.Step.TheVariants.{Opens, Arrives, Ends, Fails, Rests, Passes}
use Rattle.script_links.specs.declared.step.Came.{Came}
use Rattle.script_links.specs.declared.step.Came.TheVariants.{Gives, Waits, GoesOn}
use Rattle.script_links.specs.ServedScript.{PlainLink, ServedScript, link_at, with_link, is_coming, is_open_stage, is_open_at}
use Rattle.script_links.specs.Plain.{Next, with_opening, with_arrival, with_finish, came_of, after_step, may_rest, is_open_link, has_unread, next_so, next_from, next_of_blocked, next_of, hint_of}
use Rattle.script_links.specs.Shown.{links_told, arrived_of}
use Rattle.streams.specs.declared.rest_place.RestPlace.{RestPlace}
use Rattle.script_links.specs.Kept.{IsOverAtEnd}
use Rattle.script_links.proofs.Going.{goes_on, after_keeps}
use Rattle.script_links.proofs.Connected.{open_is_there, coming_is_there, own_changed, other_same}
use Rattle.script_links.proofs.Arriving.{arrives_same, kept_at, arrives_at, nothing_since, piece_since, finish_since, arrival_pieces, arrival_faults, arrival_stage}

-- lines were passed over, at some of which links rested
pub record IsPassedOver (ask : Ask) (old new : ServedScript) : Type 0 where
  pub opened : new.opened ≡ old.opened
  pub links : new.links ≡ old.links
  pub over : new.over ≡ old.over
  pub tape : new.tape ≡ old.tape
  pub lengths : new.lengths ≡ old.lengths
  pub count : ℕ
  pub rests : new.rests ≡ old.rests ++ replicate count (place_asked old.tape ask)
  pub idle : ask.idle ≡ false → count ≡ 0

none_passed : (ask : Ask) (s : ServedScript) → IsPassedOver ask s s
none_passed ask s = record { opened = refl; links = refl; over = refl; tape = refl; lengths = refl; count = 0; rests = sym (append-nil s.rests); idle = λ e. refl }

pub or_false : (b : Bool) → (b || false) ≡ b
or_false true = refl
or_false false = refl

or_true : (b : Bool) → (b || true) ≡ true
or_true true = refl
or_true false = refl

-- the hint that is given
abbrev gives_some : Came → Bool
gives_some (Gives hint) = true
gives_some _ = false

abbrev hint_in : Hint → Came → Hint
hint_in other (Gives hint) = hint
hint_in other _ = other

same_hint : (one two : Hint) → Gives one ≡ Gives two → one ≡ two
same_hint one two e = ap (hint_in one) e

-- where no connection passes the test of being open, none is
none_is_open : (links : List PlainLink) (x : ℕ) → list_any is_open_link links ≡ false → is_open_at links x ≡ false
none_is_open [] x none = refl
none_is_open (link ∷ links) x none = go (is_open_stage link.stage) refl x none (none_is_open links)
  where
    go : (b : Bool) → is_open_stage link.stage ≡ b → (x : ℕ) → (b || list_any is_open_link links) ≡ false
        → ((x : ℕ) → list_any is_open_link links ≡ false → is_open_at links x ≡ false) → is_open_at (link ∷ links) x ≡ false
    go true is x none more = absurd (true≢false none)
    go false is zero none more = is
    go false is (suc x) none more = more x none

-- an answer is that all is over
abbrev SaysOver : Hint → Type 0
SaysOver hint = ◌≡◌ {A = Result Hint Failed} (Ok hint) (Ok Over)

-- what is answered, by what a call came to
abbrev pub AnswersSo : Ask → ServedScript → Next → Type 0
AnswersSo ask first next = elim next.came [ Gives hint ↦ AnswersAsk {E = Failed} ask (links_told first) (links_told next.left) (Ok hint) | Waits ↦ AnswersAsk {E = Failed} ask (links_told first) (links_told next.left) (Ok Woken) | GoesOn ↦ ⊥ ]

module _ (ask : Ask) (first s : ServedScript) (passed : IsPassedOver ask first s) where
  -- its place was noted
  notes : (t : ServedScript) → t.rests ≡ s.rests → NotesItsPlace ask (Some first.tape) (Some first.rests) (Some t.rests)
  notes t rests = (passed.count, ap Some (rests ∙ passed.rests), passed.idle)

  -- no connection was opened
  none_opened : (t : ServedScript) → t.opened ≡ s.opened → t.tape ≡ s.tape → ((x : ℕ) → is_open_at t.links x ≡ is_open_at s.links x) → OpensNone (links_told first) (links_told t)
  none_opened t opened tape same = record {
    opened = opened ∙ passed.opened;
    is_open = λ x. same x ∙ ap (λ (links : List PlainLink). is_open_at links x) passed.links;
    tape = ap Some (tape ∙ passed.tape);
  }

  -- what is answered where connections arrive so, and nothing else happens but what is opened
  answers_by : (t : ServedScript) (hint : Hint) → AnswerOpens {E = Failed} ask (links_told first) (links_told t) (Ok hint) → t.over ≡ (first.over || says_over {E = Failed} (Ok hint))
      → (SaysOver hint → (x : ℕ) → is_open_at first.links x ≡ false) → t.rests ≡ s.rests → t.lengths ≡ s.lengths
      → ((x : ℕ) → (link_at t.links x).pieces ≡ (link_at s.links x).pieces) → ((x : ℕ) → (link_at t.links x).faults ≡ (link_at s.links x).faults)
      → ((x : ℕ) → MoreArrives (Some (arrived_of (link_at s.links x))) (Some (arrived_of (link_at t.links x))) (Some (bytes_of_pieces (link_at t.links x).pieces)))
      → AnswersAsk {E = Failed} ask (links_told first) (links_told t) (Ok hint)
  answers_by t hint opens over closed rests lengths pieces counts arrives = record {
    listens = refl;
    opens = opens;
    over = over;
    none_open = closed;
    rests = notes t rests;
    lengths = ap Some (lengths ∙ passed.lengths);
    left = λ x. ap (λ xs. Some (bytes_of_pieces xs)) (pieces x ∙ ap (λ (links : List PlainLink). (link_at links x).pieces) passed.links);
    arrived = λ x.
        subst (λ (links : List PlainLink). MoreArrives (Some (arrived_of (link_at links x))) (Some (arrived_of (link_at t.links x))) (Some (bytes_of_pieces (link_at t.links x).pieces)))
        passed.links (arrives x);
    faults = λ x. counts x ∙ ap (λ (links : List PlainLink). (link_at links x).faults) passed.links;
    later = omega arith;
    failed = λ e. absurd (true≢false (sym e));
    kept = refl;
  }

  -- where no connection is changed
  answers_still : (t : ServedScript) (hint : Hint) → AnswerOpens {E = Failed} ask (links_told first) (links_told t) (Ok hint) → t.over ≡ (first.over || says_over {E = Failed} (Ok hint))
      → (SaysOver hint → (x : ℕ) → is_open_at first.links x ≡ false) → t.links ≡ s.links → t.rests ≡ s.rests → t.lengths ≡ s.lengths
      → AnswersAsk {E = Failed} ask (links_told first) (links_told t) (Ok hint)
  answers_still t hint opens over closed links rests lengths =
      answers_by t hint opens over closed rests lengths (λ x. ap (λ (l : List PlainLink). (link_at l x).pieces) links) (λ x. ap (λ (l : List PlainLink). (link_at l x).faults) links)
      (λ x. subst (λ (l : List PlainLink). MoreArrives (Some (arrived_of (link_at s.links x))) (Some (arrived_of (link_at l x))) (Some (bytes_of_pieces (link_at l x).pieces))) (sym links) (arrives_same s.links x))

  -- not over: nothing is said of it
  never_over : (hint : Hint) → says_over {E = Failed} (Ok hint) ≡ false → SaysOver hint → (x : ℕ) → is_open_at first.links x ≡ false
  never_over hint going e x = absurd (true≢false (sym (ap (λ (r : Result Hint Failed). says_over r) e) ∙ going))

  over_same : (t : ServedScript) → t.over ≡ s.over → t.over ≡ (first.over || false)
  over_same t same = same ∙ passed.over ∙ sym (or_false first.over)

  -- the loop is told that it may have been woken
  woken : AnswersAsk {E = Failed} ask (links_told first) (links_told s) (Ok Woken)
  woken = answers_still s Woken (none_opened s refl refl (λ x. refl)) (over_same s refl) (never_over Woken refl) refl refl refl

  -- something has come of connection c
  readable : (c : ℕ) (change : PlainLink → PlainLink) (steps : List Step) → c < length s.links → ((link : PlainLink) → (change link).stage ≡ link.stage)
      → ((link : PlainLink) → (change link).pieces ≡ link.pieces) → ((link : PlainLink) → (change link).faults ≡ link.faults)
      → ((link : PlainLink) → HasArrivedSince (arrived_of link) (arrived_of (change link)))
      → AnswersAsk {E = Failed} ask (links_told first) (links_told (record s { steps = steps; links = with_link c change s.links })) (Ok (Readable c))
  readable c change steps below stage pieces counts since =
      let t : ServedScript = record s { steps = steps; links = with_link c change s.links } in
      answers_by t (Readable c)
      (none_opened t refl refl (kept_at s.links c change below (λ (l : PlainLink). is_open_stage l.stage) (λ link. ap is_open_stage (stage link))))
      (over_same t refl) (never_over (Readable c) refl) refl refl (kept_at s.links c change below (λ (l : PlainLink). l.pieces) pieces)
      (kept_at s.links c change below (λ (l : PlainLink). l.faults) counts) (arrives_at s.links c change below since)

  -- the next connection is opened
  opened_next : (steps : List Step) → is_coming (link_at s.links s.opened).stage ≡ true → ask.room ≡ true → first.over ≡ false → s.opened + 1 < 2 ^ 32
      → AnswersAsk {E = Failed} ask (links_told first)
      (links_told (record s { steps = steps; opened = suc s.opened; links = with_link s.opened with_opening s.links; tape = s.tape ++ OpenedMark s.opened ∷ [] })) (Ok (Opened s.opened))
  opened_next steps coming room going few =
      let t : ServedScript = record s { steps = steps; opened = suc s.opened; links = with_link s.opened with_opening s.links; tape = s.tape ++ OpenedMark s.opened ∷ [] } in
      let below : s.opened < length s.links = coming_is_there s.links s.opened coming in
      answers_by t (Opened s.opened)
      (record {
        room = room;
        not_over = going;
        number = passed.opened;
        opened = refl;
        few = omega arith;
        within = tt;
        is_open = ap (λ (l : PlainLink). is_open_stage l.stage) (own_changed s.opened with_opening s.links below);
        others = λ x other.
            ap (λ (l : PlainLink). is_open_stage l.stage) (other_same s.opened x with_opening s.links other) ∙ ap (λ (links : List PlainLink). is_open_at links x) passed.links;
        tape = ap (λ (xs : List Mark). Some (xs ++ OpenedMark s.opened ∷ [])) passed.tape;
      })
      (over_same t refl) (never_over (Opened s.opened) refl) refl refl (kept_at s.links s.opened with_opening below (λ (l : PlainLink). l.pieces) (λ link. refl))
      (kept_at s.links s.opened with_opening below (λ (l : PlainLink). l.faults) (λ link. refl))
      (arrives_at s.links s.opened with_opening below (λ link. nothing_since (arrived_of link)))

  -- all is over
  over_now : list_any is_open_link s.links ≡ false → AnswersAsk {E = Failed} ask (links_told first) (links_told (record s { over = true })) (Ok Over)
  over_now none =
      let t : ServedScript = record s { over = true } in
      answers_still t Over (none_opened t refl refl (λ x. refl)) (sym (or_true first.over))
      (λ e x. sym (ap (λ (links : List PlainLink). is_open_at links x) passed.links) ∙ none_is_open s.links x none) refl refl refl

-- what a step leaves that is done, with these steps after it
abbrev left_behind : Ask → ServedScript → List Step → Step → ServedScript
left_behind ask s steps step = after_step ask (record s { steps = steps }) step

idle_so : (idle more may : Bool) → (idle && more) ≡ may → (if may then GoesOn else Waits) ≡ GoesOn → idle ≡ true
idle_so true more may is e = refl
idle_so false more true is e = is
idle_so false more false is e = absurd (true≢false (sym (ap goes_on e)))

one_more : (n : ℕ) (place : RestPlace) → replicate n place ++ place ∷ [] ≡ replicate (suc n) place
one_more zero place = refl
one_more (suc n) place = ap (λ xs. place ∷ xs) (one_more n place)

-- one more step is passed over
module _ (ask : Ask) (first s : ServedScript) (steps : List Step) (passed : IsPassedOver ask first s) where
  abbrev bare : ServedScript
  bare = record s { steps = steps }

  same_passed : IsPassedOver ask first bare
  same_passed = record { opened = passed.opened; links = passed.links; over = passed.over; tape = passed.tape; lengths = passed.lengths; count = passed.count; rests = passed.rests; idle = passed.idle }

  -- where a connection isn't open, nothing is done
  not_open : (c : ℕ) (change : PlainLink → PlainLink) (b : Bool) → (if b then Gives (Readable c) else GoesOn) ≡ GoesOn
      → IsPassedOver ask first (if b then record bare { links = with_link c change s.links } else bare)
  not_open c change true e = absurd (true≢false (sym (ap goes_on e)))
  not_open c change false e = same_passed

  not_coming : (b room : Bool) → (if b then (if room then Gives (Opened s.opened) else Waits) else GoesOn) ≡ GoesOn
      → IsPassedOver ask first (if b then record bare { opened = suc s.opened; links = with_link s.opened with_opening s.links; tape = s.tape ++ OpenedMark s.opened ∷ [] } else bare)
  not_coming true true e = absurd (true≢false (sym (ap goes_on e)))
  not_coming true false e = absurd (true≢false (sym (ap goes_on e)))
  not_coming false room e = same_passed

  passed_on : (step : Step) → came_of ask s step ≡ GoesOn → IsPassedOver ask first (left_behind ask s steps step)
  passed_on Opens e = not_coming (is_coming (link_at s.links s.opened).stage) ask.room e
  passed_on (Arrives c) e = not_open c with_arrival (is_open_at s.links c) e
  passed_on (Ends c) e = not_open c (with_finish finishes) (is_open_at s.links c) e
  passed_on (Fails c) e = not_open c (with_finish faults) (is_open_at s.links c) e
  passed_on Rests e =
      let idle : ask.idle ≡ true = idle_so ask.idle (ask.held || not (list_any has_unread s.links)) (may_rest ask s.links) refl e in
      let place : RestPlace = place_asked first.tape ask in
      record {
        opened = passed.opened;
        links = passed.links;
        over = passed.over;
        tape = passed.tape;
        lengths = passed.lengths;
        count = suc passed.count;
        rests =
            ap (λ (xs : List Mark). s.rests ++ place_asked xs ask ∷ []) passed.tape ∙ ap (λ xs. xs ++ place ∷ []) passed.rests
            ∙ append_assoc first.rests (replicate passed.count place) (place ∷ []) ∙ ap (λ xs. first.rests ++ xs) (one_more passed.count place);
        idle = λ no. absurd (true≢false (sym idle ∙ no));
      }
  passed_on Passes e = same_passed

-- What steps come to is an answer of links, where connections have numbers of 32 bits and it wasn't said that all is over.
module _ (ask : Ask) (first : ServedScript) (going : first.over ≡ false) (few : length first.links < 2 ^ 32) where
  few_opened : (s : ServedScript) → IsPassedOver ask first s → is_coming (link_at s.links s.opened).stage ≡ true → s.opened + 1 < 2 ^ 32
  few_opened s passed coming =
      let below : s.opened < length s.links = coming_is_there s.links s.opened coming in
      let same : length s.links ≡ length first.links = ap length passed.links in
      omega arith

  module _ (s : ServedScript) (steps : List Step) (passed : IsPassedOver ask first s) (hint : Hint) where
    abbrev Given : ServedScript → Type 0
    Given t = AnswersAsk {E = Failed} ask (links_told first) (links_told t) (Ok hint)

    gives_open : (coming room : Bool) → is_coming (link_at s.links s.opened).stage ≡ coming → ask.room ≡ room
        → (if coming then (if room then Gives (Opened s.opened) else Waits) else GoesOn) ≡ Gives hint
        → Given (if coming then record s { steps = steps; opened = suc s.opened; links = with_link s.opened with_opening s.links; tape = s.tape ++ OpenedMark s.opened ∷ [] } else record s { steps = steps })
    gives_open true true some room e =
        subst (λ (h : Hint). AnswersAsk {E = Failed} ask (links_told first) (links_told (record s { steps = steps; opened = suc s.opened; links = with_link s.opened with_opening s.links; tape = s.tape ++ OpenedMark s.opened ∷ [] })) (Ok h))
        (same_hint (Opened s.opened) hint e) (opened_next ask first s passed steps some room going (few_opened s passed some))
    gives_open true false some room e = absurd (true≢false (sym (ap gives_some e)))
    gives_open false room none is e = absurd (true≢false (sym (ap gives_some e)))

    gives_read : (c : ℕ) (change : PlainLink → PlainLink) → ((link : PlainLink) → (change link).stage ≡ link.stage) → ((link : PlainLink) → (change link).pieces ≡ link.pieces)
        → ((link : PlainLink) → (change link).faults ≡ link.faults) → ((link : PlainLink) → HasArrivedSince (arrived_of link) (arrived_of (change link)))
        → (b : Bool) → is_open_at s.links c ≡ b → (if b then Gives (Readable c) else GoesOn) ≡ Gives hint
        → Given (if b then record s { steps = steps; links = with_link c change s.links } else record s { steps = steps })
    gives_read c change stage pieces counts since true here e =
        subst (λ (h : Hint). AnswersAsk {E = Failed} ask (links_told first) (links_told (record s { steps = steps; links = with_link c change s.links })) (Ok h)) (same_hint (Readable c) hint e)
        (readable ask first s passed c change steps (open_is_there s.links c here) stage pieces counts since)
    gives_read c change stage pieces counts since false here e = absurd (true≢false (sym (ap gives_some e)))

    gives_rest : (b : Bool) → (if b then GoesOn else Waits) ≡ Gives hint → ⊥
    gives_rest true e = true≢false (sym (ap gives_some e))
    gives_rest false e = true≢false (sym (ap gives_some e))

    gives : (step : Step) → came_of ask s step ≡ Gives hint → Given (after_step ask (record s { steps = steps }) step)
    gives Opens e = gives_open (is_coming (link_at s.links s.opened).stage) ask.room refl refl e
    gives (Arrives c) e = gives_read c with_arrival arrival_stage arrival_pieces arrival_faults piece_since (is_open_at s.links c) refl e
    gives (Ends c) e = gives_read c (with_finish finishes) (λ link. refl) (λ link. refl) (λ link. refl) (finish_since finishes) (is_open_at s.links c) refl e
    gives (Fails c) e = gives_read c (with_finish faults) (λ link. refl) (λ link. refl) (λ link. refl) (finish_since faults) (is_open_at s.links c) refl e
    gives Rests e = absurd (gives_rest (may_rest ask s.links) e)
    gives Passes e = absurd (true≢false (sym (ap gives_some e)))

  at_the_end : (s : ServedScript) → IsPassedOver ask first s → (b : Bool) → list_any is_open_link s.links ≡ b
      → AnswersSo ask first (if not b then record { came = Gives Over; left = record s { over = true } } else record { came = Waits; left = s })
  at_the_end s passed true some = woken ask first s passed
  at_the_end s passed false none = over_now ask first s passed none

  answers_from : (steps : List Step) (s : ServedScript) → IsPassedOver ask first s → AnswersSo ask first (next_from ask steps s)
  answers_from [] s passed = at_the_end s passed (list_any is_open_link s.links) refl
  answers_from (step ∷ steps) s passed = by (came_of ask s step) refl (λ more. answers_from steps (left_behind ask s steps step) more)
    where
      by : (came : Came) → came_of ask s step ≡ came
          → (IsPassedOver ask first (left_behind ask s steps step) → AnswersSo ask first (next_from ask steps (left_behind ask s steps step)))
          → AnswersSo ask first (next_so came s (left_behind ask s steps step) (next_from ask steps (left_behind ask s steps step)))
      by (Gives hint) e more = gives s steps passed hint step e
      by Waits e more = woken ask first s passed
      by GoesOn e more = more (passed_on ask first s steps passed step e)

-- where it was said, no step is left
pub over_going : (s : ServedScript) (step : Step) (steps : List Step) → IsOverAtEnd s → s.steps ≡ step ∷ steps → s.over ≡ false
over_going s step steps ended is = go s.over refl
  where
    go : (b : Bool) → s.over ≡ b → s.over ≡ false
    go true e = let none : length s.steps ≡ 0 = ended e in let some : length s.steps ≡ suc (length steps) = ap length is in absurd (let f : ⊥ = omega arith in f)
    go false e = e

at_once : (ask : Ask) (s : ServedScript) (b : Bool) → list_any is_open_link s.links ≡ b
    → AnswersSo ask s (if not b then record { came = Gives Over; left = record s { over = true } } else record { came = Waits; left = s })
at_once ask s true some = woken ask s s (none_passed ask s)
at_once ask s false none = over_now ask s s (none_passed ask s) none

-- what links over a script answer that are asked what is next is an answer of links
pub next_answers : (ask : Ask) (s : ServedScript) → IsOverAtEnd s → length s.links < 2 ^ 32 → AnswersSo ask s (next_of ask s)
next_answers ask s ended few = by_blocked s.blocked
  where
    by_steps : (steps : List Step) → s.steps ≡ steps → AnswersSo ask s (next_from ask steps s)
    by_steps [] is = at_once ask s (list_any is_open_link s.links) refl
    by_steps (step ∷ steps) is = answers_from ask s (over_going s step steps ended is) few (step ∷ steps) s (none_passed ask s)

    by_blocked : (blocked : List ℕ) → AnswersSo ask s (next_of_blocked ask s blocked)
    by_blocked [] = by_steps s.steps refl
    by_blocked (c ∷ blocked) =
        let t : ServedScript = record s { blocked = blocked } in
        answers_still ask s s (none_passed ask s) t (Writable c) (none_opened ask s s (none_passed ask s) t refl refl (λ x. refl)) (over_same ask s s (none_passed ask s) t refl)
        (never_over ask s s (none_passed ask s) (Writable c) refl) refl refl refl

-- and what it leaves is over only where no step is left
none_over : (t : ServedScript) → t.over ≡ false → IsOverAtEnd t
none_over t going said = absurd (true≢false (sym said ∙ going))

either_over : (b : Bool) (x y : ServedScript) (over : Bool) → x.over ≡ over → y.over ≡ over → (if b then x else y).over ≡ over
either_over true x y over p q = p
either_over false x y over p q = q

after_over : (ask : Ask) (t : ServedScript) (step : Step) → (after_step ask t step).over ≡ t.over
after_over ask t Opens = either_over (is_coming (link_at t.links t.opened).stage) _ t t.over refl refl
after_over ask t (Arrives c) = either_over (is_open_at t.links c) _ t t.over refl refl
after_over ask t (Ends c) = either_over (is_open_at t.links c) _ t t.over refl refl
after_over ask t (Fails c) = either_over (is_open_at t.links c) _ t t.over refl refl
after_over ask t Rests = refl
after_over ask t Passes = refl

abbrev end_so : ServedScript → Bool → Next
end_so t b = if not b then record { came = Gives Over; left = record t { over = true } } else record { came = Waits; left = t }

last_over : (t : ServedScript) (b : Bool) → length t.steps ≡ 0 → IsOverAtEnd (end_so t b).left
last_over t true none said = none
last_over t false none said = none

from_over : (ask : Ask) (steps : List Step) (t : ServedScript) → length t.steps ≡ length steps → t.over ≡ false → IsOverAtEnd (next_from ask steps t).left
from_over ask [] t long going = last_over t (list_any is_open_link t.links) long
from_over ask (step ∷ steps) t long going = by (came_of ask t step) (from_over ask steps (left_behind ask t steps step))
  where
    no_more : (left_behind ask t steps step).over ≡ false
    no_more = after_over ask (record t { steps = steps }) step ∙ going

    by : (came : Came)
        → (length (left_behind ask t steps step).steps ≡ length steps → (left_behind ask t steps step).over ≡ false → IsOverAtEnd (next_from ask steps (left_behind ask t steps step)).left)
        → IsOverAtEnd (next_so came t (left_behind ask t steps step) (next_from ask steps (left_behind ask t steps step))).left
    by (Gives hint) more = none_over (left_behind ask t steps step) no_more
    by Waits more = none_over t going
    by GoesOn more = more (ap length (after_keeps ask (record t { steps = steps }) step)) no_more

pub next_over : (ask : Ask) (s : ServedScript) → IsOverAtEnd s → IsOverAtEnd (next_of ask s).left
next_over ask s ended = by_blocked s.blocked
  where
    by_steps : (steps : List Step) → s.steps ≡ steps → IsOverAtEnd (next_from ask steps s).left
    by_steps [] is = last_over s (list_any is_open_link s.links) (ap length is)
    by_steps (step ∷ steps) is = from_over ask (step ∷ steps) s (ap length is) (over_going s step steps ended is)

    by_blocked : (blocked : List ℕ) → IsOverAtEnd (next_of_blocked ask s blocked).left
    by_blocked [] = by_steps s.steps refl
    by_blocked (c ∷ blocked) = ended

-- the answer as a hint
pub answers_hint : (ask : Ask) (first : ServedScript) (came : Came) (left : ServedScript) → AnswersSo ask first (record { came = came; left = left })
    → AnswersAsk {E = Failed} ask (links_told first) (links_told left) (Ok (hint_of came))
answers_hint ask first (Gives hint) left answers = answers
answers_hint ask first Waits left answers = answers
answers_hint ask first GoesOn left answers = absurd answers
