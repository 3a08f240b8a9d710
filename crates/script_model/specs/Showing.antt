-- A rehearsal told by what shows of it: its tape, its journal and the causes of its connections.
use Rattle.std.specs.Prelude.{◌≡◌, ℕ, ◌<◌, List}
use Rattle.streams.specs.declared.marks.Mark.{Mark}
use Rattle.host_model.specs.declared.cause.EndCause.{EndCause}
use Rattle.host_model.specs.Journal.{JournalEntry, ServiceRules}
use Rattle.host_model.specs.DeskRules.{DeskRules}
use Rattle.machine_model.specs.Determined.{IsSameButFaults}
use Rattle.machine_model.specs.Machine.{Cell, IsFirst, HaveAllEnded}
use Rattle.script_model.specs.ScriptLines.{ScriptPlan}
use Rattle.script_model.specs.Playing.{MemoryAt}
use Rattle.script_model.specs.Rehearsing.{IsRehearsalOf}

-- Two machines that differ in nothing that shows: at most in the journal's count of faults, and in what stands at connections that aren't opened.
pub record ShowTheSame {C A M : Type 0} (one other : Cell C A M) : Type 0 where
  pub tape : one.loop.tape ≡ other.loop.tape
  pub count : one.loop.count ≡ other.loop.count
  pub conns : (c : ℕ) → c < one.loop.count → one.loop.conns c ≡ other.loop.conns c
  pub hall : IsSameButFaults one.hall other.hall
  pub workers : (w : ℕ) → one.workers w ≡ other.workers w

-- From some start with these memories the rehearsal of a script comes to this tape, this journal and these causes; at so many of its moves memory ran out.
pub record IsRehearsedTo {C A M : Type 0} (d : DeskRules C A) (r : ServiceRules C A M) (memories : List M) (memory : ℕ → MemoryAt) (budget workers : ℕ) (script : ScriptPlan)
    (wants : ℕ) (tape : List Mark) (journal : List (JournalEntry C A)) (causes : List EndCause) : Type 0 where
  pub first : Cell C A M
  pub last : Cell C A M
  pub is_first : IsFirst memories first
  pub rehearsed : IsRehearsalOf d r memory budget workers script wants first last
  pub same_tape : tape ≡ last.loop.tape
  pub same_journal : journal ≡ last.hall.journal
  pub ended : HaveAllEnded last.loop causes
