use Rattle.idl_include.specs.Loading.{program_of}
use Rattle.idl_include.proofs.laws.the_program_is_determined.Goals as goal

pub returns : goal.returns
returns c = λ files main r s p q. λ i. program_of (λ name. c.each_file_is_read_as_one_thing.ensures.one files r s p q name i) main
