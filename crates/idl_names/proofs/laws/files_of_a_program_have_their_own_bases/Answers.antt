use Rattle.idl_names.proofs.laws.files_of_a_program_have_their_own_bases.Goals as goal

pub returns : goal.returns
returns c = λ files are i d within. (are.begun.each i d within).base
