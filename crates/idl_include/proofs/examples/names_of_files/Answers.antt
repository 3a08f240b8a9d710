use Rattle.std.proofs.Common.{refl}
use Rattle.idl_include.specs.FileNames.{included_name, cleaned, base_name}
use Rattle.idl_include.proofs.examples.names_of_files.Goals as goal

pub returns-clause-beside : goal.returns-clause-beside
unfolding included_name cleaned base_name
returns-clause-beside c = refl

pub returns-clause-above : goal.returns-clause-above
unfolding included_name cleaned base_name
returns-clause-above c = refl

pub returns-clause-too_far : goal.returns-clause-too_far
unfolding included_name cleaned base_name
returns-clause-too_far c = refl

pub returns-clause-from_the_root : goal.returns-clause-from_the_root
unfolding included_name cleaned base_name
returns-clause-from_the_root c = refl

pub returns-clause-behind_an_empty_segment : goal.returns-clause-behind_an_empty_segment
unfolding included_name cleaned base_name
returns-clause-behind_an_empty_segment c = refl

pub returns-clause-base : goal.returns-clause-base
unfolding included_name cleaned base_name
returns-clause-base c = refl
