use Rattle.idl_check.proofs.Sited.{sites_of}
use Rattle.idl_check.proofs.sites.field_sites.Goals as goal

pub returns-in-Ok : goal.returns-in-Ok
returns-in-Ok c program structs services =
    sites_of program c.args.structs.now c.args.services.now c.new-sites.result.items c.put_all.new.sites.items c.new-sites.ensures.items c.in-Ok.ensures structs services
