-- What a call of the reader may answer, where a definition says what the words are.
use Rattle.std.specs.Prelude.{◌≡◌, ⊤, Option, None, Some, Result, Ok, Err}
use Rattle.command_line.specs.declared.command.Command.{Command}
use Rattle.command_line.specs.declared.command.Command.TheVariants.{Check, Compat, Rehearse, Record, Serve, Workload, Call}
use Rattle.command_line.specs.declared.command.WordsFault.{WordsFault}
use Rattle.command_line.specs.declared.command.WordsFault.TheVariants.{Usage, NoMemory}
use Rattle.command_line.specs.declared.served.ServedIdl.{ServedIdl}
use Rattle.command_line.specs.declared.calling.AskedCall.{AskedCall}
use Rattle.command_line.specs.Calls.{PlainAsking}
use Rattle.command_line.specs.Served.{PlainServed}
use Rattle.command_line.specs.Words.{PlainCommand, checks, compares, rehearses, records, serves, runs, calls}

-- what is served, in memory, as plain data
abbrev pub plain_served : ServedIdl → PlainServed
plain_served s = record { idl = s.idl; protocol = s.protocol; workers = s.workers; pairs = s.pairs; default_service = s.default_service; limits = s.limits }

-- what is asked of a port, in memory, as plain data
abbrev pub plain_asking : AskedCall → PlainAsking
plain_asking c = record { idl = c.idl; protocol = c.protocol; name = c.name; method = c.method; args = c.args; multiplexed = c.multiplexed; port = c.port }

-- a command in memory, as plain data
abbrev pub plain_command : Command → PlainCommand
plain_command (Check idl) = checks idl
plain_command (Compat idls) = compares idls.old idls.new
plain_command (Rehearse served) = rehearses (plain_served served)
plain_command (Record served) = records (plain_served served)
plain_command (Serve served port accept journal) = serves (plain_served served) port accept journal
plain_command (Workload seed size workers) = runs seed size workers
plain_command (Call asked) = calls (plain_asking asked)

-- what was read is what the words are; Usage comes exactly where they are nothing, and want of memory is free
abbrev pub AnswersWords : Result Command WordsFault → Option PlainCommand → Type 0
AnswersWords (Ok read) meant = meant ≡ Some (plain_command read)
AnswersWords (Err Usage) meant = meant ≡ None
AnswersWords (Err NoMemory) meant = ⊤
