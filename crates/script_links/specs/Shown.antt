-- What links over a script tell: everything.
use Rattle.std.specs.Prelude.{ℕ, ◌&&◌, Bool, true, false, nat_le, Option, None, Some, length, take}
use Rattle.outside.specs.LinksState.{Arrived, LinksState}
use Rattle.script_model.specs.Arrival.{bytes_of_pieces}
use Rattle.script_model.specs.Playing.{InputFinish, finishes, faults}
use Rattle.script_links.specs.ServedScript.{PlainLink, ServedScript, link_at, is_open_at}
use Rattle.script_links.specs.Plain.{shown_finish}

-- the input ends
abbrev pub is_end_of_input : Option InputFinish → Bool
is_end_of_input None = false
is_end_of_input (Some finishes) = true
is_end_of_input (Some faults) = false

-- what has arrived of a connection
abbrev pub arrived_of : PlainLink → Arrived
arrived_of link = record { bytes = bytes_of_pieces (take link.arrived link.pieces); ended = is_end_of_input (shown_finish link) }

-- what is told
abbrev pub links_told : ServedScript → LinksState
links_told s = record {
  listens = None;
  opened = s.opened;
  is_open = λ c. is_open_at s.links c;
  over = s.over;
  tape = Some s.tape;
  left = λ c. Some (bytes_of_pieces (link_at s.links c).pieces);
  arrived = λ c. Some (arrived_of (link_at s.links c));
  rests = Some s.rests;
  lengths = Some s.lengths;
  faults = λ c. (link_at s.links c).faults;
  net_faults = 0;
}
