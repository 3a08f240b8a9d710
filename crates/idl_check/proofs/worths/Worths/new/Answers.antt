use Rattle.idl_check.proofs.Taken.{worths_made}
use Rattle.idl_check.proofs.worths.Worths.new.Goals as goal

pub returns : goal.returns
returns c program places h =
    worths_made program (record { places = c.args.places; values = c.in_ok-values.values }) c.args.values.items places h c.in_ok-values.ensures
