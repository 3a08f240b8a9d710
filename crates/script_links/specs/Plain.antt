-- What links over a script do at each call, as a plain function of what is kept.
use Rattle.std.specs.Prelude.{◌≡◌, ◌≢◌, ℕ, suc, ◌-◌, ◌+◌, Bool, true, false, ◌&&◌, ◌||◌, not, min, nat_lt, nat_le, if◌then◌else◌, Option, None, Some, List, [], ◌∷◌, ◌++◌, length, take, drop, slice_get}
use Rattle.std.specs.List.{list_any}
use Rattle.streams.specs.Cause.{next_count}
use Rattle.streams.specs.declared.marks.Mark.TheVariants.{Opened as OpenedMark, Read, Ended as EndedMark, Wrote, ReadFailed, WriteFailed, Closed as ClosedMark}
use Rattle.outside.specs.declared.answers.Ask.{Ask}
use Rattle.outside.specs.declared.answers.Hint.{Hint}
use Rattle.outside.specs.declared.answers.Hint.TheVariants.{Opened, Readable, Writable, Woken, Over}
use Rattle.outside.specs.declared.answers.Taken.{Taken}
use Rattle.outside.specs.declared.answers.Taken.TheVariants.{Bytes, End, NotYet, Failed, NoMemory}
use Rattle.script_model.specs.ScriptLines.{PlanRule, takes_most, blocks, fails}
use Rattle.script_model.specs.Playing.{InputFinish, finishes, faults, most_read, or_else}
use Rattle.script_links.specs.declared.link.LinkStage.TheVariants.{Coming, Open, Ended, Closed}
use Rattle.script_links.specs.declared.step.Step.{Step}
use Rattle.script_links.specs.declared.step.Step.TheVariants.{Opens, Arrives, Ends, Fails, Rests, Passes}
use Rattle.script_links.specs.declared.step.Came.{Came}
use Rattle.script_links.specs.declared.step.Came.TheVariants.{Gives, Waits, GoesOn}
use Rattle.script_links.specs.ServedScript.{PlainLink, ServedScript, link_at, with_link, is_coming, is_open_stage, is_open_at}

-- what is left of the oldest piece that has arrived
abbrev pub oldest_of : PlainLink → Option (List ℕ)
oldest_of link = if nat_lt 0 link.arrived then slice_get link.pieces 0 else None

-- what comes after all pieces, once they have arrived
abbrev pub shown_finish : PlainLink → Option InputFinish
shown_finish link = if nat_le (length link.pieces) link.arrived then link.finish else None

-- one piece more has arrived, where one is left
abbrev pub with_arrival : PlainLink → PlainLink
with_arrival link = if nat_lt link.arrived (length link.pieces) then record link { arrived = suc link.arrived } else link

-- this comes after all pieces, where nothing is known to
abbrev pub with_finish : InputFinish → PlainLink → PlainLink
with_finish finish link = record link { finish = or_else link.finish (Some finish) }

-- it is opened, and closed
abbrev pub with_opening : PlainLink → PlainLink
with_opening link = record link { stage = Open }

abbrev pub with_closing : PlainLink → PlainLink
with_closing link = record link { stage = Closed }

-- its end was marked, or a fault, which is counted
abbrev pub with_end : PlainLink → PlainLink
with_end link = record link { stage = Ended }

abbrev pub with_fault : PlainLink → PlainLink
with_fault link = record link { stage = Ended; faults = next_count link.faults }

-- the oldest piece was read whole
abbrev pub with_piece_passed : PlainLink → PlainLink
with_piece_passed link = record link { pieces = drop 1 link.pieces; arrived = link.arrived - 1 }

-- so many bytes of the oldest of these pieces were read, of which so many have arrived
abbrev pub with_read : ℕ → List (List ℕ) → PlainLink → PlainLink
with_read count [] link = link
with_read count (piece ∷ pieces) link =
    if nat_lt count (length piece) then record link { pieces = drop count piece ∷ pieces } else record link { pieces = pieces; arrived = link.arrived - 1 }

abbrev pub with_bytes_read : ℕ → PlainLink → PlainLink
with_bytes_read count link = with_read count link.pieces link

-- the next rule is used up
abbrev pub with_rule_used : PlainLink → PlainLink
with_rule_used link = record link { rules = drop 1 link.rules }

-- a fault was marked that used it up
abbrev pub with_ruled_fault : PlainLink → PlainLink
with_ruled_fault link = with_fault (with_rule_used link)

-- these bytes were written
abbrev pub with_written : List ℕ → PlainLink → PlainLink
with_written bytes link = record (with_rule_used link) { written = link.written ++ bytes }

-- what a read after all that has arrived comes to
abbrev pub taken_at_finish : Option InputFinish → Taken
taken_at_finish None = NotYet
taken_at_finish (Some finishes) = End
taken_at_finish (Some faults) = Failed

-- what a read comes to for which so much is lent: of the oldest piece alone, at most 65,536 bytes
abbrev pub taken_of_piece : ℕ → Option InputFinish → Option (List ℕ) → Taken
taken_of_piece lent finish None = taken_at_finish finish
taken_of_piece lent finish (Some piece) = Bytes (min (min lent most_read) (length piece))

abbrev pub taken_by_read : ℕ → PlainLink → Taken
taken_by_read lent link = taken_of_piece lent (shown_finish link) (oldest_of link)

-- what a write of so many bytes comes to under the next rule, or under none
abbrev pub taken_by_rules : ℕ → List PlanRule → Taken
taken_by_rules offered [] = Bytes offered
taken_by_rules offered (takes_most count ∷ rules) = Bytes (min count offered)
taken_by_rules offered (blocks ∷ rules) = NotYet
taken_by_rules offered (fails ∷ rules) = Failed

-- a call comes to this, or there is no memory for it
abbrev pub MayComeTo : Taken → Taken → Type 0
MayComeTo meant (Bytes count) = Bytes count ≡ meant
MayComeTo meant End = End ≡ meant
MayComeTo meant NotYet = NotYet ≡ meant
MayComeTo meant Failed = Failed ≡ meant
MayComeTo meant NoMemory = Unit {0}

-- bytes that were read stand in front, and are those of this piece
abbrev pub IsFrontOfPiece : Taken → List ℕ → Option (List ℕ) → Type 0
IsFrontOfPiece (Bytes count) into (Some piece) = take count into ≡ take count piece
IsFrontOfPiece (Bytes count) into None = ⊥
IsFrontOfPiece _ into piece = Unit {0}

-- these bytes are so many of the front of this piece, or all of it
abbrev pub IsCopyOfFront : ℕ → List ℕ → Option (List ℕ) → Type 0
IsCopyOfFront count bytes (Some piece) = bytes ≡ take count piece
IsCopyOfFront count bytes None = ⊥

-- After a read of connection c that came to this, for which so much was lent; these are the bytes that were read.
abbrev pub left_by_read : ℕ → ℕ → List ℕ → Taken → ServedScript → ServedScript
left_by_read c lent bytes (Bytes count) s =
    record s { links = with_link c (with_bytes_read count) s.links; tape = s.tape ++ Read c bytes ∷ []; lengths = s.lengths ++ lent ∷ [] }
left_by_read c lent bytes End s = record s { links = with_link c with_end s.links; tape = s.tape ++ EndedMark c ∷ [] }
left_by_read c lent bytes NotYet s = s
left_by_read c lent bytes Failed s = record s { links = with_link c with_fault s.links; tape = s.tape ++ ReadFailed c ∷ [] }
left_by_read c lent bytes NoMemory s = s

-- After a write of these bytes that came to this.
abbrev pub left_by_write : ℕ → List ℕ → Taken → ServedScript → ServedScript
left_by_write c bytes (Bytes count) s =
    record s {
      links = with_link c (with_written (take count bytes)) s.links;
      tape = s.tape ++ Wrote c (take count bytes) ∷ [];
      lengths = s.lengths ++ length bytes ∷ [];
    }
left_by_write c bytes End s = s
left_by_write c bytes NotYet s = record s { links = with_link c with_rule_used s.links; blocked = s.blocked ++ c ∷ [] }
left_by_write c bytes Failed s =
    record s { links = with_link c with_ruled_fault s.links; tape = s.tape ++ WriteFailed c ∷ [] }
left_by_write c bytes NoMemory s = s

-- after the closing of connection c
abbrev pub left_by_close : ℕ → ServedScript → ServedScript
left_by_close c s = record s { links = with_link c with_closing s.links; tape = s.tape ++ ClosedMark c ∷ [] }

-- a connection is open
abbrev pub is_open_link : PlainLink → Bool
is_open_link link = is_open_stage link.stage

-- it is open and has an unread piece that has arrived
abbrev pub has_unread : PlainLink → Bool
has_unread link = is_open_stage link.stage && nat_lt 0 link.arrived

-- a line of rest is passed over
abbrev pub may_rest : Ask → List PlainLink → Bool
may_rest ask links = ask.idle && (ask.held || not (list_any has_unread links))

-- What a step comes to: the next connection is opened, where there is room; something arrives on one that is open; or links rest. What has nothing to be done
-- for is passed over.
abbrev pub came_of : Ask → ServedScript → Step → Came
came_of ask s Opens = if is_coming (link_at s.links s.opened).stage then (if ask.room then Gives (Opened s.opened) else Waits) else GoesOn
came_of ask s (Arrives c) = if is_open_at s.links c then Gives (Readable c) else GoesOn
came_of ask s (Ends c) = if is_open_at s.links c then Gives (Readable c) else GoesOn
came_of ask s (Fails c) = if is_open_at s.links c then Gives (Readable c) else GoesOn
came_of ask s Rests = if may_rest ask s.links then GoesOn else Waits
came_of ask s Passes = GoesOn

-- the same, but for connection c, where it is open
abbrev pub on_open : ℕ → (PlainLink → PlainLink) → ServedScript → ServedScript
on_open c change s = if is_open_at s.links c then record s { links = with_link c change s.links } else s

-- what a step leaves that doesn't wait
abbrev pub after_step : Ask → ServedScript → Step → ServedScript
after_step ask s Opens =
    if is_coming (link_at s.links s.opened).stage
    then record s { opened = suc s.opened; links = with_link s.opened with_opening s.links; tape = s.tape ++ OpenedMark s.opened ∷ [] } else s
after_step ask s (Arrives c) = on_open c with_arrival s
after_step ask s (Ends c) = on_open c (with_finish finishes) s
after_step ask s (Fails c) = on_open c (with_finish faults) s
after_step ask s Rests = record s { rests = s.rests ++ record { place = length s.tape; held = ask.held } ∷ [] }
after_step ask s Passes = s

-- no connection is open
abbrev pub are_closed : List PlainLink → Bool
are_closed links = not (list_any is_open_link links)

-- what links come to that are asked what is next, and what that leaves
pub record Next : Type 0 where
  pub came : Came
  pub left : ServedScript

-- where no step is left, all is over once no connection is open
abbrev pub next_at_end : ServedScript → Next
next_at_end s = if are_closed s.links then record { came = Gives Over; left = record s { over = true } } else record { came = Waits; left = s }

-- a step that waits is left; one that gives something is done, and so is one that is passed over, and the next ones go on from there
abbrev pub next_so : Came → ServedScript → ServedScript → Next → Next
next_so (Gives hint) before behind more = record { came = Gives hint; left = behind }
next_so Waits before behind more = record { came = Waits; left = before }
next_so GoesOn before behind more = more

-- the first of these steps
abbrev pub first_of : List Step → Option Step
first_of steps = slice_get steps 0

-- what a step comes to that is the first one left, and what it leaves
abbrev pub one_step : Ask → Step → ServedScript → Next
one_step ask step s =
    let behind : ServedScript = after_step ask (record s { steps = drop 1 s.steps }) step in next_so (came_of ask s step) s behind (record { came = GoesOn; left = behind })

-- what these steps come to, which are those that are left
abbrev pub next_from : Ask → List Step → ServedScript → Next
next_from ask [] s = next_at_end s
next_from ask (step ∷ steps) s =
    let behind : ServedScript = after_step ask (record s { steps = steps }) step in next_so (came_of ask s step) s behind (next_from ask steps behind)

-- what they come to, where no connection waits to be told that it may be written on
abbrev pub next_step : Ask → ServedScript → Next
next_step ask s = next_from ask s.steps s

-- a connection on which a write wasn't possible is told first
abbrev pub next_of_blocked : Ask → ServedScript → List ℕ → Next
next_of_blocked ask s [] = next_step ask s
next_of_blocked ask s (c ∷ blocked) = record { came = Gives (Writable c); left = record s { blocked = blocked } }

abbrev pub next_of : Ask → ServedScript → Next
next_of ask s = next_of_blocked ask s s.blocked

-- the hint that a call comes to: where it waits, that the bell may have been rung
abbrev pub hint_of : Came → Hint
hint_of (Gives hint) = hint
hint_of Waits = Woken
hint_of GoesOn = Woken
