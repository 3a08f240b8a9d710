-- An office as a desk (Thrift: a processor).
use Rattle.std.specs.Prelude.{length}
use Rattle.call_rules.specs.Desks.{DeskMeaning}
use Rattle.call_model.specs.Offices.{PlainOffice}
use Rattle.call_model.specs.Decisions.{decision}
use Rattle.call_model.specs.Replies.{reply_of}

-- as many slots as services are bound, the longest payload, and its decisions and replies
abbrev pub desk_of : PlainOffice → DeskMeaning
desk_of office = record { slots = length office.bindings; max_frame = office.max_frame; decide = decision office; reply = reply_of office }
