use Rattle.idl_include.proofs.Declaring.{declarations_are, includes_are}
use Rattle.idl_include.proofs.laws.a_document_declares_what_its_tree_does.Goals as goal

pub returns-clause-declarations : goal.returns-clause-declarations
returns-clause-declarations c = declarations_are

pub returns-clause-includes : goal.returns-clause-includes
returns-clause-includes c = includes_are
