-- What a binder answers, and what is kept of the links that came back to it.
use Rattle.std.specs.Prelude.{◌≡◌, ◌≢◌, ℕ, suc, ◌≤◌, Bool, List, [], ◌∷◌, ◌++◌, Option, Some, None, Result, Ok, Err}
use Rattle.streams.specs.Cause.{Rose}
use Rattle.streams.specs.declared.marks.Mark.{Mark}
use Rattle.outside.specs.declared.binder.BindFail.{BindFail}
use Rattle.outside.specs.declared.binder.BindFail.TheVariants.{Failed}
use Rattle.streams.specs.Told.{StartsEmpty}
use Rattle.outside.specs.LinksState.{Listening, LinksState}
use Rattle.outside.specs.Opening.{AreFreshLinks}

-- links that came back: their tape, whether it was said that all is over, and where they listened
pub record PastLinks : Type 0 where
  pub tape : List Mark
  pub over : Bool
  pub listening : Listening

-- Links listen so, and nothing has happened on them, nor failed; they tell their tape where the past is told.
pub record StartListening (past : Option (List PastLinks)) (listening : Listening) (links : LinksState) : Type 0 where
  pub fresh : AreFreshLinks links
  pub tape : StartsEmpty past links.tape
  pub listens : links.listens ≡ Some listening
  pub faultless : links.net_faults ≡ 0

-- the links that came back so far, and one that had this tape, where both are told
abbrev pub past_with : List PastLinks → Bool → Option (List Mark) → Option Listening → Option (List PastLinks)
past_with past over None listens = None
past_with past over (Some tape) None = None
past_with past over (Some tape) (Some listening) = Some (past ++ record { tape = tape; over = over; listening = listening } ∷ [])

-- the links that came back so far, and these, where they and their tape are told
abbrev pub told_past : Option (List PastLinks) → LinksState → Option (List PastLinks)
told_past None links = None
told_past (Some past) links = past_with past links.over links.tape links.listens

-- the count of faults never falls, links are said to have failed only where it rose, and with any other answer it is as before
pub record HasBindCause {A : Type 0} (before now : ℕ) (result : Result A BindFail) : Type 0 where
  pub later : before ≤ now
  pub failed : result ≡ Err Failed → Rose before now
  pub kept : result ≢ Err Failed → now ≡ before

-- how many links and pipes a binder has handed out, and how many of them have come back to it
pub record HandedOut : Type 0 where
  pub out : ℕ
  pub back : ℕ

-- one more was handed out
abbrev pub one_more_out : HandedOut → HandedOut
one_more_out handed = record handed { out = suc handed.out }

-- one more is handed out where links or a pipe were made, and none where not
abbrev pub HandsOut : {A E : Type 0} → HandedOut → HandedOut → Result A E → Type 0
HandsOut before now (Ok _) = now ≡ one_more_out before
HandsOut before now (Err _) = now ≡ before

-- one more has come back
abbrev pub one_more_back : HandedOut → HandedOut
one_more_back handed = record handed { back = suc handed.back }

-- one more was handed out, and has come back
abbrev pub there_and_back : HandedOut → HandedOut
there_and_back handed = one_more_back (one_more_out handed)
