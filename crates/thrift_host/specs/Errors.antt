-- The line that a command adds to its errors.
use Rattle.std.specs.Prelude.{◌≡◌, ℕ, ◌⊎◌, List, [], Option, Some, None, take, codes, MatchOption}
use Rattle.streams.specs.Cause.{Rose}
use Rattle.streams.specs.Content.{told_more}
use Rattle.text_out.specs.Line.{line_of}
use Rattle.thrift_host.specs.declared.status.Status.{Status}
use Rattle.thrift_host.specs.declared.status.Status.TheVariants.{Done, Usage, IdlRefused, ScriptRefused, BindRefused, FileFault, ReadFault, WriteFault, NetFault, JournalFault, NoMemory, CallRefused, ReplyRefused, Incompatible}

-- What a call did to its errors: what they had taken before and after it, and how often they had failed.
pub record Errors : Type 0 where
  pub taken_before : Option (List ℕ)
  pub taken : Option (List ℕ)
  pub faults_before : ℕ
  pub faults : ℕ

-- the text was added to the errors, or a beginning of it where a write failed
pub record IsSaid (e : Errors) (text : List ℕ) : Type 0 where
  pub front : ℕ
  pub written : e.taken ≡ told_more e.taken_before (take front text)
  pub whole : (e.taken ≡ told_more e.taken_before text) ⊎ Rose e.faults_before e.faults

-- the errors' line of a status, where it has one fixed line; Done has none to write
abbrev pub error_text : Status → Option (List ℕ)
error_text Done = Some []
error_text Usage = Some (line_of (codes "thriftd: usage"))
error_text IdlRefused = None
error_text ScriptRefused = None
error_text BindRefused = None
error_text FileFault = Some (line_of (codes "thriftd: file fault"))
error_text ReadFault = Some (line_of (codes "thriftd: read fault"))
error_text WriteFault = Some (line_of (codes "thriftd: write fault"))
error_text NetFault = Some (line_of (codes "thriftd: net fault"))
error_text JournalFault = Some (line_of (codes "thriftd: journal fault"))
error_text NoMemory = Some (line_of (codes "thriftd: no memory"))
error_text CallRefused = None
error_text ReplyRefused = None
error_text Incompatible = Some (line_of (codes "thriftd: incompatible"))

-- the one fixed line of a status was added to the errors
abbrev pub IsLineSaid : Status → Errors → Type 0
IsLineSaid status e = MatchOption (error_text status) ⊥ (λ text. IsSaid e text)
