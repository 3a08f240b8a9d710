-- What is kept in memory, as plain data, and what holds of it.
use Rattle.std.specs.Prelude.{◌≡◌, ℕ, ◌+◌, ◌*◌, ◌<◌, ◌≤◌, ◌^◌, true, List, [], ◌∷◌, map, length, drop, count_by, option_map}
use Rattle.std.specs.List.{list_all}
use Rattle.std.specs.Vec.{vec_capacity}
use Rattle.script_model.specs.Playing.{InputFinish, finishes, faults}
use Rattle.script_text.specs.Plans.{plain_rules}
use Rattle.script_links.specs.declared.link.LinkInputEnd.{LinkInputEnd}
use Rattle.script_links.specs.declared.link.LinkInputEnd.TheVariants.{Ends, Fails}
use Rattle.script_links.specs.declared.link.ScriptConn.{ScriptConn}
use Rattle.script_links.specs.declared.serving.ScriptServing.{ScriptServing}
use Rattle.script_links.specs.ServedScript.{PlainLink, ServedScript, with_link, marks_owed, is_sound_link}
use Rattle.script_links.specs.Plain.{with_end}
use Rattle.script_links.specs.Steps.{is_rest}

-- what comes after all pieces
abbrev pub plain_link_finish : LinkInputEnd → InputFinish
plain_link_finish Ends = finishes
plain_link_finish Fails = faults

-- pieces, of the first of which so many bytes were read
abbrev pub cut_pieces : ℕ → List (List ℕ) → List (List ℕ)
cut_pieces offset [] = []
cut_pieces offset (piece ∷ pieces) = drop offset piece ∷ pieces

-- a connection
abbrev pub plain_link : ScriptConn → PlainLink
plain_link link = record {
  stage = link.stage;
  brought = link.pieces.items;
  pieces = cut_pieces link.offset (drop link.passed link.pieces.items);
  arrived = link.arrived;
  finish = option_map plain_link_finish link.finish;
  ruled = plain_rules link.rules.items;
  rules = plain_rules (drop link.used link.rules.items);
  faults = link.faults;
  written = link.written.items;
}

-- the connections
abbrev pub plain_links : List ScriptConn → List PlainLink
plain_links links = map plain_link links

-- all that is kept
abbrev pub served_of : ScriptServing → ServedScript
served_of s = record {
  lines = s.steps.items;
  steps = drop s.done s.steps.items;
  opened = s.opened;
  links = plain_links s.links.items.items;
  blocked = s.blocked.items;
  over = s.over;
  tape = s.tape.items;
  rests = s.rests.items;
  lengths = s.lengths.items;
}

-- Connections are sound, their numbers have 32 bits, and where there is room for so many marks and so many places of rest, it is enough for those to come.
pub record HasRoomFor (marks places : ℕ) (s : ServedScript) : Type 0 where
  pub sound : list_all is_sound_link s.links ≡ true
  pub few : length s.links < 2 ^ 32
  pub for_marks : length s.tape + marks_owed s.links ≤ marks
  pub for_rests : length s.rests + count_by is_rest s.steps ≤ places

-- what is kept has room
abbrev pub IsKeptServing : ScriptServing → Type 0
IsKeptServing s = HasRoomFor s.tape.capacity (vec_capacity s.rests) (served_of s)

-- there is room for a mark of so many bytes, besides those that connections may be owed, and for a length
pub record HasMarkRoom (bytes : ℕ) (s : ScriptServing) : Type 0 where
  pub mark : length s.tape.items + (1 + 3 * length s.links.items.items) ≤ s.tape.capacity
  pub spare : bytes ≤ s.tape.spare
  pub lent : length s.lengths.items + 1 ≤ vec_capacity s.lengths

-- there is room for a mark of connection c, after which one of its closing is owed to it
abbrev pub HasEndRoom : ℕ → ScriptServing → Type 0
HasEndRoom c s = length s.tape.items + 1 + marks_owed (with_link c with_end (served_of s).links) ≤ s.tape.capacity

-- where it was said that all is over, no step is left
abbrev pub IsOverAtEnd : ServedScript → Type 0
IsOverAtEnd s = s.over ≡ true → length s.steps ≡ 0
