use Rattle.std.proofs.Common.{refl, sym, ◌∙◌}
use Rattle.streams.specs.Cause.{Rose}
use Rattle.streams.proofs.Causes.{on_ok}
use Rattle.idl_check.proofs.Telling.{of_tutorial, of_file, never_rises, quiet_on}
use Rattle.idl_check.proofs.program.program_schema.Goals as goal

pub returns-then-eq-clause-schema : goal.returns-then-eq-clause-schema
returns-then-eq-clause-schema g c =
    of_tutorial (g.F.Files.files c.args.files.now) c.args.idl.now c.tutorial_schema.result (sym c.eq.ensures ∙ c.if-eq.true) c.tutorial_schema.ensures.schema

pub returns-clause-schema : goal.returns-clause-schema
returns-clause-schema g c =
    of_file (g.F.Files.files c.args.files.now) c.args.idl.now c.schema_among.result (sym c.eq.ensures ∙ c.if-eq.false) c.schema_among.ensures.schema

pub returns-then-eq-clause-rose : goal.returns-then-eq-clause-rose
returns-then-eq-clause-rose g c =
    let faults = g.F.Files.faults c.args.files.now in never_rises (Rose faults faults) c.tutorial_schema.result c.tutorial_schema.ensures.no_fault

pub returns-then-eq-clause-kept : goal.returns-then-eq-clause-kept
returns-then-eq-clause-kept g c = on_ok c.tutorial_schema.result refl

pub returns-then-eq-clause-quiet : goal.returns-then-eq-clause-quiet
returns-then-eq-clause-quiet g c = quiet_on c.tutorial_schema.result refl
