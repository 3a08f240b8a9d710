use denote.Param.Send.{sendable}
use Rattle.thrift_host.proofs.Shared.{office_sync}
use Rattle.thrift_host.proofs.serving.run_port.Goals as goal

pub serve_port-came_to-requires-sync-D : goal.serve_port-came_to-requires-sync-D
serve_port-came_to-requires-sync-D g c κs within = search (sendable, office_sync)
