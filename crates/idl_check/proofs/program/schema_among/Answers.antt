use Rattle.streams.proofs.Causes.{on_ok}
use Rattle.idl_check.proofs.Telling.{from_loaded, from_stopped, quiet_on}
use Rattle.idl_check.proofs.program.schema_among.Goals as goal

pub returns-in-Ok-clause-schema : goal.returns-in-Ok-clause-schema
returns-in-Ok-clause-schema g c =
    from_loaded (g.F.Files.files c.args.files.now) c.args.main.now c.in-Ok.sources c.checked_schema.result c.each_file_is_read_as_one_thing.ensures.some
    c.in-Ok.ensures.told c.checked_schema.ensures.schema

pub returns-in-Err-clause-schema : goal.returns-in-Err-clause-schema
returns-in-Err-clause-schema g c =
    from_stopped (g.F.Files.files c.args.files.now) c.args.main.now c.in-Err.fault c.unloaded.result c.each_file_is_read_as_one_thing.ensures.some
    c.in-Err.ensures.told c.in-Err.ensures.read c.unloaded.ensures.why c.unloaded.ensures.unread

pub returns-in-Ok-clause-kept : goal.returns-in-Ok-clause-kept
returns-in-Ok-clause-kept g c = on_ok c.checked_schema.result c.in-Ok.ensures.kept

pub returns-in-Ok-clause-quiet : goal.returns-in-Ok-clause-quiet
returns-in-Ok-clause-quiet g c = quiet_on c.checked_schema.result c.in-Ok.ensures.kept
