-- Links over a script that tell nothing of its bytes.
use Rattle.std.specs.Prelude.{ℕ, None}
use Rattle.outside.specs.LinksState.{LinksState}
use Rattle.script_links.specs.ServedScript.{ServedScript, link_at, is_open_at}

-- what is told: which connections were opened and are open, and what failed
abbrev pub untold : ServedScript → (net_faults : ℕ) → LinksState
untold s net_faults = record {
  listens = None;
  opened = s.opened;
  is_open = λ c. is_open_at s.links c;
  over = s.over;
  tape = None;
  left = λ _. None;
  arrived = λ _. None;
  rests = None;
  lengths = None;
  faults = λ c. (link_at s.links c).faults;
  net_faults = net_faults;
}
