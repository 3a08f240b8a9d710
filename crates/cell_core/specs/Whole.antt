-- What a setting is that rehearsals in memory are run with, and what a rehearsal comes to then.
use Rattle.std.specs.Prelude.{◌≡◌, ◌≤◌, length}
use Rattle.call_rules.specs.Desks.{IsDesk, longest_payload}
use Rattle.cell_loop.specs.Settings.{CellSetting}

-- The desk keeps what each desk does, and has a slot for each service; the longest payload is no longer than payloads may be, and the budget has room for it.
pub record IsFitting (s : CellSetting) : Type 0 where
  pub desk : IsDesk s.desk
  pub max : s.desk.max_frame ≤ longest_payload
  pub within : s.desk.max_frame ≤ s.budget
  pub slots : s.desk.slots ≡ length s.opening
