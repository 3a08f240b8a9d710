use Rattle.thrift_value.proofs.laws.tidy_value_is_well_tagged.Goals as goal

pub returns : goal.returns
returns c = λ x tidy. tidy.tagged
