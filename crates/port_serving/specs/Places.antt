-- Where connections are served, and what serving leaves behind there.
use Rattle.std.specs.Prelude.{◌≡◌, ℕ, Bool, List, [], ◌∷◌, Option, Some, IfSome}
use Rattle.streams.specs.declared.marks.Mark.{Mark}
use Rattle.streams.specs.Told.{told_with}
use Rattle.outside.specs.LinksState.{Listening}
use Rattle.outside.specs.Binding.{PastLinks, HandedOut}
use Rattle.streams.specs.Files.{File}

-- a place: the port and how many connections are accepted at most, and the name of the journal's file
pub record PortPlace : Type 0 where
  pub listening : Listening
  pub journal : List ℕ

-- What serving did to the files and to the binder, each as it was before and then: the files, the count of sinks that came back with a fault, the
-- links that came back, and how many links and pipes were handed out and have come back.
pub record PlaceChange : Type 0 where
  pub files_before : Option (List File)
  pub files : Option (List File)
  pub sink_faults_before : ℕ
  pub sink_faults : ℕ
  pub past_before : Option (List PastLinks)
  pub past : Option (List PastLinks)
  pub handed_before : HandedOut
  pub handed : HandedOut

-- Where the binder tells what came back, it is what came back before, and links more that listened here: with this tape, and by then it was said, or not, that all is
-- over.
abbrev pub HasLinksBack : (before now : Option (List PastLinks)) (listening : Listening) (tape : List Mark) (over : Bool) → Type 0
HasLinksBack before now listening tape over =
    IfSome now (λ past. told_with before (record { tape = tape; over = over; listening = listening } ∷ []) ≡ Some past)
