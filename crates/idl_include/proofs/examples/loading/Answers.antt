use Rattle.std.proofs.Common.{refl}
use Rattle.idl_include.specs.FileNames.{included_name, cleaned, base_name}
use Rattle.idl_include.specs.Loading.{load_file, include_case}
use Rattle.idl_include.specs.Decoded.{declarations_of, includes_of}
use Rattle.idl_include.proofs.examples.loading.Goals as goal

pub returns-clause-two : goal.returns-clause-two
unfolding load_file include_case included_name cleaned base_name declarations_of includes_of
returns-clause-two c = refl

pub returns-clause-circle : goal.returns-clause-circle
unfolding load_file include_case included_name cleaned base_name declarations_of includes_of
returns-clause-circle c = refl

pub returns-clause-same_base : goal.returns-clause-same_base
unfolding load_file include_case included_name cleaned base_name declarations_of includes_of
returns-clause-same_base c = refl

pub returns-clause-no_file : goal.returns-clause-no_file
unfolding load_file include_case included_name cleaned base_name declarations_of includes_of
returns-clause-no_file c = refl
