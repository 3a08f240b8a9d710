-- Where chains of mere names end: each given value that is a mere name leads on to what its name stands for.
use Rattle.std.specs.Prelude.{ℕ, zero, suc, length, Option, Some, None}
use Rattle.idl_token.specs.declared.Place.{Place}
use Rattle.idl_include.specs.ConstExpr.{ConstExpr, name_const}
use Rattle.idl_include.specs.ConstNames.{ConstMeaning, enum_value, given_value, const_meaning}
use Rattle.idl_include.specs.Program.{Program}
use Rattle.idl_include.specs.Spots.{values_of}
use Rattle.idl_const.specs.declared.chains.ChainEnd.{ChainEnd}
use Rattle.idl_const.specs.declared.chains.ChainEnd.TheVariants as ends
use Rattle.idl_const.specs.Given.{FiledTree, tree_numbered}

-- where chains end that begin with given values
abbrev pub EndRule : Type 0
EndRule = ℕ → Option ChainEnd

-- where a chain ends that goes on with a name
abbrev pub end_of_name : EndRule → Option ConstMeaning → Option ChainEnd
end_of_name further None = Some ends.Unknown
end_of_name further (Some (enum_value which n)) = Some (ends.Number which n)
end_of_name further (Some (given_value next)) = further next

-- where a chain ends that begins with the given value of some number, which stands in a file: there, if it is no name
abbrev pub end_of_tree : Program → EndRule → ℕ → ℕ → ConstExpr → Option ChainEnd
end_of_tree program further which file (name_const name) = end_of_name further (const_meaning program file name.text)
end_of_tree program further which file _ = Some (ends.Value which)

-- the same of a value that may be there
abbrev pub end_of_given : Program → EndRule → ℕ → Option FiledTree → Option ChainEnd
end_of_given program further which None = None
end_of_given program further which (Some t) = end_of_tree program further which t.file t.item

-- where a chain of at most so many given values ends
unfoldable pub end_within : Program → ℕ → EndRule
end_within program zero which = None
end_within program (suc more) which = end_of_given program (end_within program more) which (tree_numbered program which)

-- Where the chain that begins with the given value of some number ends; it doesn't where it leads round.
unfoldable pub chain_end_of : Program → EndRule
chain_end_of program which = end_within program (length (values_of program)) which

-- the place of a mere name
abbrev pub name_place : ConstExpr → Option Place
name_place (name_const name) = Some name.at
name_place _ = None
