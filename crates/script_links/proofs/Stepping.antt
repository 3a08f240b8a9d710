-- What single steps come to, by the tests that decide it.
use Rattle.std.proofs.Common.{◌≡◌, ℕ, suc, ◌+◌, ◌<◌, ◌≤◌, Bool, true, false, not, List, [], ◌∷◌, ◌++◌, length, drop, refl, sym, ap, ◌∙◌, if◌then◌else◌}
use Rattle.std.specs.List.{list_any}
use Rattle.streams.specs.declared.marks.Mark.TheVariants.{Opened as OpenedMark}
use Rattle.outside.specs.declared.answers.Ask.{Ask}
use Rattle.outside.specs.declared.answers.Hint.TheVariants.{Opened, Readable, Over}
use Rattle.script_model.specs.Playing.{finishes, faults}
use Rattle.script_links.specs.declared.link.LinkInputEnd.{LinkInputEnd}
use Rattle.script_links.specs.declared.link.LinkInputEnd.TheVariants.{Ends as EndsInput, Fails as FailsInput}
use Rattle.script_links.specs.declared.step.Step.TheVariants.{Opens, Arrives, Ends, Fails, Rests}
use Rattle.script_links.specs.declared.step.Came.{Came}
use Rattle.script_links.specs.declared.step.Came.TheVariants.{Gives, Waits, GoesOn}
use Rattle.script_links.specs.ServedScript.{PlainLink, ServedScript, link_at, with_link, is_coming, is_open_at}
use Rattle.script_links.specs.Plain.{Next, next_so, one_step, with_opening, with_arrival, with_finish, may_rest, is_open_link, next_at_end}
use Rattle.script_links.specs.Steps.{step_of_finish}
use Rattle.script_links.specs.Kept.{plain_link_finish}

module _ (ask : Ask) (s : ServedScript) where
  -- what is left where the first step is passed over
  abbrev pub passed : ServedScript
  passed = record s { steps = drop 1 s.steps }

  abbrev pub with_next_open : ServedScript
  with_next_open = record passed { opened = suc s.opened; links = with_link s.opened with_opening s.links; tape = s.tape ++ OpenedMark s.opened ∷ [] }

  abbrev pub with_changed : ℕ → (PlainLink → PlainLink) → ServedScript
  with_changed c change = record passed { links = with_link c change s.links }

  abbrev open_so : Bool → Bool → Next
  open_so coming room =
      next_so (if coming then (if room then Gives (Opened s.opened) else Waits) else GoesOn) s (if coming then with_next_open else passed)
      (record { came = GoesOn; left = if coming then with_next_open else passed })

  pub open_passes : is_coming (link_at s.links s.opened).stage ≡ false → one_step ask Opens s ≡ record { came = GoesOn; left = passed }
  open_passes none = ap (λ b. open_so b ask.room) none

  pub open_waits : is_coming (link_at s.links s.opened).stage ≡ true → ask.room ≡ false → one_step ask Opens s ≡ record { came = Waits; left = s }
  open_waits some room = ap (λ b. open_so b ask.room) some ∙ ap (λ b. open_so true b) room

  pub open_gives : is_coming (link_at s.links s.opened).stage ≡ true → ask.room ≡ true
      → one_step ask Opens s ≡ record { came = Gives (Opened s.opened); left = with_next_open }
  open_gives some room = ap (λ b. open_so b ask.room) some ∙ ap (λ b. open_so true b) room

  module _ (c : ℕ) where
    abbrev change_so : (PlainLink → PlainLink) → Bool → Next
    change_so change here =
        next_so (if here then Gives (Readable c) else GoesOn) s (if here then with_changed c change else passed)
        (record { came = GoesOn; left = if here then with_changed c change else passed })

    pub arrive_passes : is_open_at s.links c ≡ false → one_step ask (Arrives c) s ≡ record { came = GoesOn; left = passed }
    arrive_passes none = ap (change_so with_arrival) none

    pub arrive_gives : is_open_at s.links c ≡ true → one_step ask (Arrives c) s ≡ record { came = Gives (Readable c); left = with_changed c with_arrival }
    arrive_gives here = ap (change_so with_arrival) here

    pub finish_passes : (finish : LinkInputEnd) → is_open_at s.links c ≡ false → one_step ask (step_of_finish c finish) s ≡ record { came = GoesOn; left = passed }
    finish_passes EndsInput none = ap (change_so (with_finish finishes)) none
    finish_passes FailsInput none = ap (change_so (with_finish faults)) none

    pub finish_gives : (finish : LinkInputEnd) → is_open_at s.links c ≡ true
        → one_step ask (step_of_finish c finish) s ≡ record { came = Gives (Readable c); left = with_changed c (with_finish (plain_link_finish finish)) }
    finish_gives EndsInput here = ap (change_so (with_finish finishes)) here
    finish_gives FailsInput here = ap (change_so (with_finish faults)) here

  abbrev pub with_rest : ServedScript
  with_rest = record passed { rests = s.rests ++ record { place = length s.tape; held = ask.held } ∷ [] }

  abbrev rest_so : Bool → Next
  rest_so may = next_so (if may then GoesOn else Waits) s with_rest (record { came = GoesOn; left = with_rest })

  pub rest_passes : may_rest ask s.links ≡ true → one_step ask Rests s ≡ record { came = GoesOn; left = with_rest }
  rest_passes may = ap rest_so may

-- where no step is left
pub ends_over : (s : ServedScript) → list_any is_open_link s.links ≡ false → next_at_end s ≡ record { came = Gives Over; left = record s { over = true } }
ends_over s none = ap (λ b. if not b then record { came = Gives Over; left = record s { over = true } } else record { came = Waits; left = s }) none

pub ends_waiting : (s : ServedScript) → list_any is_open_link s.links ≡ true → next_at_end s ≡ record { came = Waits; left = s }
ends_waiting s some = ap (λ b. if not b then record { came = Gives Over; left = record s { over = true } } else record { came = Waits; left = s }) some
