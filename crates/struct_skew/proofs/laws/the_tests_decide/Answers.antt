use Rattle.struct_skew.proofs.Deciding.{decides_tidy, decides_sizes, decides_written}
use Rattle.struct_skew.proofs.laws.the_tests_decide.Goals as goal

pub returns : goal.returns
returns c = record { tidy = decides_tidy; sizes = decides_sizes; written = decides_written }
