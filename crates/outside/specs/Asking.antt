-- What links answer when they are asked what is next, and what that leaves.
use Rattle.std.specs.Prelude.{◌≡◌, ◌≢◌, ℕ, suc, ◌<◌, ◌≤◌, ◌^◌, Bool, true, false, ◌||◌, List, [], ◌∷◌, ◌++◌, length, replicate, Option, Some, None, IfSome, Result, Ok, Err, IsErr, OnOk}
use Rattle.streams.specs.Cause.{Rose}
use Rattle.streams.specs.declared.marks.Mark.{Mark}
use Rattle.streams.specs.declared.marks.Mark.TheVariants.{Opened as OpenedMark}
use Rattle.outside.specs.declared.answers.Ask.{Ask}
use Rattle.outside.specs.declared.answers.Hint.{Hint}
use Rattle.outside.specs.declared.answers.Hint.TheVariants.{Opened, Readable, Writable, Woken, Over}
use Rattle.streams.specs.Told.{told_with}
use Rattle.streams.specs.declared.rest_place.RestPlace.{RestPlace}
use Rattle.outside.specs.LinksState.{Arrived, LinksState}

-- The next connection was opened: numbers are given in order, only where there is room, never once all is over, and no more than are accepted.
pub record OpensNext (ask : Ask) (c : ℕ) (old new : LinksState) : Type 0 where
  pub room : ask.room ≡ true
  pub not_over : old.over ≡ false
  pub number : c ≡ old.opened
  pub opened : new.opened ≡ suc c
  pub few : new.opened < 2 ^ 32
  pub within : IfSome old.listens (λ listening. new.opened ≤ listening.accept)
  pub is_open : new.is_open c ≡ true
  pub others : (x : ℕ) → x ≢ c → new.is_open x ≡ old.is_open x
  pub tape : new.tape ≡ told_with old.tape (OpenedMark c ∷ [])

-- no connection was opened, and nothing marked
pub record OpensNone (old new : LinksState) : Type 0 where
  pub opened : new.opened ≡ old.opened
  pub is_open : (x : ℕ) → new.is_open x ≡ old.is_open x
  pub tape : new.tape ≡ old.tape

-- what an answer opens
abbrev pub AnswerOpens : {E : Type 0} → Ask → LinksState → LinksState → Result Hint E → Type 0
AnswerOpens ask old new (Ok (Opened c)) = OpensNext ask c old new
AnswerOpens ask old new (Ok (Readable c)) = OpensNone old new
AnswerOpens ask old new (Ok (Writable c)) = OpensNone old new
AnswerOpens ask old new (Ok Woken) = OpensNone old new
AnswerOpens ask old new (Ok Over) = OpensNone old new
AnswerOpens ask old new (Err e) = OpensNone old new

-- it says that all is over
abbrev pub says_over : {E : Type 0} → Result Hint E → Bool
says_over (Ok Over) = true
says_over _ = false

-- the place of a tape at which links are asked so
abbrev pub place_asked : List Mark → Ask → RestPlace
place_asked tape ask = record { place = length tape; held = ask.held }

-- that place noted so often after these; where no tape is told, never
abbrev pub noted_at : Option (List Mark) → Ask → ℕ → Option (List RestPlace) → Option (List RestPlace)
noted_at None ask count rests = rests
noted_at (Some tape) ask count rests = told_with rests (replicate count (place_asked tape ask))

-- The place at which links are asked may be noted, only where nothing is owed.
abbrev pub NotesItsPlace : Ask → Option (List Mark) → Option (List RestPlace) → Option (List RestPlace) → Type 0
NotesItsPlace ask tape old new = (count : ℕ) × (new ≡ noted_at tape ask count old) × (ask.idle ≡ false → count ≡ 0)

-- what has arrived is a beginning of what is left, and all of it where the end has arrived
pub record IsFrontOf (left : List ℕ) (arrived : Arrived) : Type 0 where
  pub later : List ℕ
  pub split : left ≡ arrived.bytes ++ later
  pub ended : arrived.ended ≡ true → later ≡ []

-- more may have arrived, but nothing after an end, and nothing that has arrived goes away
pub record HasArrivedSince (old new : Arrived) : Type 0 where
  pub more : List ℕ
  pub bytes : new.bytes ≡ old.bytes ++ more
  pub ended : old.ended ≡ true → new ≡ old

-- the same, where it is told; what is told at one time is told at each
abbrev pub MoreArrives : Option Arrived → Option Arrived → Option (List ℕ) → Type 0
MoreArrives None None left = Unit {0}
MoreArrives (Some old) (Some new) left = HasArrivedSince old new × IfSome left (λ bytes. IsFrontOf bytes new)
MoreArrives None (Some new) left = ⊥
MoreArrives (Some old) None left = ⊥

-- Links were asked what is next, and gave this answer. No byte is read or written meanwhile, but some may arrive; and a fault is counted just where they failed.
pub record AnswersAsk {E : Type 0} (ask : Ask) (old new : LinksState) (result : Result Hint E) : Type 0 where
  pub listens : new.listens ≡ old.listens
  pub opens : AnswerOpens ask old new result
  pub over : new.over ≡ (old.over || says_over result)
  pub none_open : result ≡ Ok Over → (x : ℕ) → old.is_open x ≡ false
  pub rests : NotesItsPlace ask old.tape old.rests new.rests
  pub lengths : new.lengths ≡ old.lengths
  pub left : (x : ℕ) → new.left x ≡ old.left x
  pub arrived : (x : ℕ) → MoreArrives (old.arrived x) (new.arrived x) (new.left x)
  pub faults : (x : ℕ) → new.faults x ≡ old.faults x
  pub later : old.net_faults ≤ new.net_faults
  pub failed : IsErr result → Rose old.net_faults new.net_faults
  pub kept : OnOk result (new.net_faults ≡ old.net_faults)
