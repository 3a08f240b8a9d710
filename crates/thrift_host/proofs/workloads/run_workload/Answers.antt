use Rattle.std.proofs.Common.{refl}
use denote.Param.Send.{sendable}
use Rattle.processor.specs.Offices.{plain_office}
use Rattle.thrift_host.proofs.Shared.{office_sync, reported_send}
use Rattle.thrift_host.proofs.workloads.run_workload.Goals as goal

pub serve_workload-answered-requires-sync-D : goal.serve_workload-answered-requires-sync-D
serve_workload-answered-requires-sync-D g c κs within = search (sendable, office_sync)

pub serve_workload-answered-requires-clause-calculators : goal.serve_workload-answered-requires-clause-calculators
serve_workload-answered-requires-clause-calculators g c κs within = (plain_office c.args.office, refl, c.requires.calculators)

pub serve_workload-answered-requires-send-J : goal.serve_workload-answered-requires-send-J
serve_workload-answered-requires-send-J g c κs within = search (sendable, reported_send)
