-- What is told of links and pipes whose answers are noted, while they are in use and once they came back.
use Rattle.std.specs.Prelude.{ℕ, Bool, List, [], ◌∷◌, Option, Some, None, Result, Ok}
use Rattle.streams.specs.declared.marks.Mark.{Mark}
use Rattle.streams.specs.declared.marks.Mark.TheVariants.{Opened as OpenedMark}
use Rattle.outside.specs.declared.answers.Hint.{Hint}
use Rattle.outside.specs.declared.answers.Hint.TheVariants.{Opened}
use Rattle.outside.specs.LinksState.{Listening, LinksState}
use Rattle.outside.specs.Pipes.{PipeState}
use Rattle.outside.specs.Binding.{PastLinks}
use Rattle.outside.specs.Calling.{PastPipe}

-- Links with this tape. Untold are the bytes that aren't read yet, what of them has arrived, the places of rest, and the
-- lengths of what was lent; all else is as it is inside.
abbrev pub told_links : LinksState → List Mark → LinksState
told_links inner tape =
    record inner { tape = Some tape; left = λ _. None; arrived = λ _. None; rests = None; lengths = None }

-- the mark of what an answer opened
abbrev pub marks_of_ask : {E : Type 0} → Result Hint E → List Mark
marks_of_ask (Ok (Opened c)) = OpenedMark c ∷ []
marks_of_ask _ = []

-- A pipe to which this was written and of which this was read, and that a read has answered the end or not. What reads
-- will still give is untold; port and faults are as they are inside.
abbrev pub told_pipe : PipeState → (written given : List ℕ) → Bool → PipeState
told_pipe inner written given ended =
    record inner { written = Some written; given = Some given; left = None; ended = Some ended }

-- where links listened; links that listen nowhere don't come back
abbrev pub place_listened : Option Listening → Listening
place_listened None = record { port = 0; accept = 0 }
place_listened (Some listening) = listening

-- links that came back with this tape
abbrev pub returned_links : LinksState → List Mark → PastLinks
returned_links inner tape = record { tape = tape; over = inner.over; listening = place_listened inner.listens }

-- a pipe that was hung up, to which this was written and of which this was read, its end or not
abbrev pub hung_up_pipe : PipeState → (written given : List ℕ) → Bool → PastPipe
hung_up_pipe inner written given ended = record { port = inner.port; written = written; read = given; ended = ended }
