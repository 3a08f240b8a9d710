use Rattle.struct_skew.proofs.FoundFunctions.{found_args, found_function}
use Rattle.struct_skew.proofs.laws.a_found_function_is_sound.Goals as goal

pub returns : goal.returns
returns c = record { args = found_args; sound = found_function }
