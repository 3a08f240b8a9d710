use Rattle.std.proofs.Common.{refl}
use Rattle.check_model.specs.WholeDoubles.{double_number, int_as_double, double_bits}
use Rattle.check_model.specs.TidyRows.{tidy_members, tidy_pairs}
use Rattle.check_model.proofs.examples.values.Goals as goal

pub returns-clause-half : goal.returns-clause-half
unfolding double_number int_as_double double_bits tidy_members tidy_pairs
returns-clause-half c = refl

pub returns-clause-fraction : goal.returns-clause-fraction
unfolding double_number int_as_double double_bits tidy_members tidy_pairs
returns-clause-fraction c = refl

pub returns-clause-no_digits_before : goal.returns-clause-no_digits_before
unfolding double_number int_as_double double_bits tidy_members tidy_pairs
returns-clause-no_digits_before c = refl

pub returns-clause-largest : goal.returns-clause-largest
unfolding double_number int_as_double double_bits tidy_members tidy_pairs
returns-clause-largest c = refl

pub returns-clause-too_large : goal.returns-clause-too_large
unfolding double_number int_as_double double_bits tidy_members tidy_pairs
returns-clause-too_large c = refl

pub returns-clause-two : goal.returns-clause-two
unfolding double_number int_as_double double_bits tidy_members tidy_pairs
returns-clause-two c = refl

pub returns-clause-minus_three : goal.returns-clause-minus_three
unfolding double_number int_as_double double_bits tidy_members tidy_pairs
returns-clause-minus_three c = refl

pub returns-clause-two_to_53 : goal.returns-clause-two_to_53
unfolding double_number int_as_double double_bits tidy_members tidy_pairs
returns-clause-two_to_53 c = refl

pub returns-clause-members : goal.returns-clause-members
unfolding double_number int_as_double double_bits tidy_members tidy_pairs
returns-clause-members c = refl

pub returns-clause-pairs : goal.returns-clause-pairs
unfolding double_number int_as_double double_bits tidy_members tidy_pairs
returns-clause-pairs c = refl

pub returns-clause-uuid : goal.returns-clause-uuid
returns-clause-uuid c = refl

pub returns-clause-short_uuid : goal.returns-clause-short_uuid
returns-clause-short_uuid c = refl

pub returns-clause-long_uuid : goal.returns-clause-long_uuid
returns-clause-long_uuid c = refl

pub returns-clause-moved_dash : goal.returns-clause-moved_dash
returns-clause-moved_dash c = refl
