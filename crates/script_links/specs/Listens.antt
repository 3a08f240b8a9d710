-- Links over a script that listen, of whose calls some may be to fail.
use Rattle.std.specs.Prelude.{ℕ, Bool, List, Some, if◌then◌else◌}
use Rattle.streams.specs.Cause.{next_count}
use Rattle.outside.specs.declared.answers.Ask.{Ask}
use Rattle.outside.specs.declared.answers.Taken.{Taken}
use Rattle.outside.specs.declared.answers.Taken.TheVariants.{Failed}
use Rattle.outside.specs.LinksState.{Listening, LinksState}
use Rattle.script_links.specs.ServedScript.{ServedScript, link_at}
use Rattle.script_links.specs.Plain.{next_of, left_by_read, left_by_write, taken_by_read, taken_by_rules}
use Rattle.script_links.specs.Shown.{links_told}
use Rattle.script_links.specs.Followed.{LinksPlan, plan_of_links}
use Rattle.script_links.specs.Failing.{FaultPlan, fails_next, read_fails, write_fails, after_asking, after_reading, after_writing}

-- links over a script, where they listen, which of their calls are to fail, and how often asking what is next failed
pub record ListeningScript : Type 0 where
  pub served : ServedScript
  pub listening : Listening
  pub plan : FaultPlan
  pub net_faults : ℕ

-- they listen there, and their script has come so far
abbrev pub listening_with : ListeningScript → ServedScript → ListeningScript
listening_with links served = record links { served = served }

-- what they tell
abbrev pub told_listening : Listening → ℕ → ServedScript → LinksState
told_listening listening net_faults served = record (links_told served) { listens = Some listening; net_faults = net_faults }

abbrev pub listening_told : ListeningScript → LinksState
listening_told links = told_listening links.listening links.net_faults links.served

-- what they were made of
abbrev pub plan_of_listening : ListeningScript → LinksPlan
plan_of_listening links = plan_of_links links.served

-- They were asked what is next: where that was to fail, a fault was counted; else the script went on.
abbrev pub left_by_asking : Ask → ListeningScript → ListeningScript
left_by_asking ask links =
    if fails_next links.plan.nexts then record links { plan = after_asking links.plan; net_faults = next_count links.net_faults }
    else record links { plan = after_asking links.plan; served = (next_of ask links.served).left }

-- what a call comes to that is to fail, or else to this
abbrev pub failed_or : Bool → Taken → Taken
failed_or fails taken = if fails then Failed else taken

-- what a read comes to for which so much is lent, and a write of so many bytes
abbrev pub taken_by_reading : ℕ → ℕ → ListeningScript → Taken
taken_by_reading c lent links = failed_or (read_fails c links.plan) (taken_by_read lent (link_at links.served.links c))

abbrev pub taken_by_writing : ℕ → ℕ → ListeningScript → Taken
taken_by_writing c offered links = failed_or (write_fails c links.plan) (taken_by_rules offered (link_at links.served.links c).rules)

-- After a read of connection c that came to this, for which so much was lent; these are the bytes that were read.
abbrev pub left_by_reading : ℕ → ℕ → List ℕ → Taken → ListeningScript → ListeningScript
left_by_reading c lent bytes taken links = record links { plan = after_reading c links.plan; served = left_by_read c lent bytes taken links.served }

-- after a write of these bytes that came to this
abbrev pub left_by_writing : ℕ → List ℕ → Taken → ListeningScript → ListeningScript
left_by_writing c bytes taken links = record links { plan = after_writing c links.plan; served = left_by_write c bytes taken links.served }
