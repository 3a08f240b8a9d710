-- Where chains of mere names end, by links in memory.
use Rattle.std.specs.Prelude.{◌≡◌, ℕ, zero, suc, List, [], ◌∷◌, slice_get, slice_index_or, Option, Some, None}
use Rattle.std.specs.Option.{option_and_then}
use Rattle.idl_include.specs.DeclaredIn.{value_in}
use Rattle.idl_include.specs.Program.{Program}
use Rattle.idl_names.specs.declared.spot.GivenTree.{GivenTree}
use Rattle.idl_const.specs.declared.chains.ChainEnd.{ChainEnd}
use Rattle.idl_const.specs.ChainEnds.{EndRule, end_of_tree, chain_end_of}
use Rattle.const_evaluator.specs.declared.chain_ends.Link.{Link}
use Rattle.const_evaluator.specs.declared.chain_ends.Link.TheVariants as link

-- where a chain ends that goes on with a link
abbrev pub end_by : EndRule → Link → Option ChainEnd
end_by further (link.End e) = Some e
end_by further (link.Next next) = further next

-- the same of the link of some number
abbrev pub end_at_link : List Link → EndRule → EndRule
end_at_link links further which = option_and_then (end_by further) (slice_get links which)

-- where a chain of at most so many links ends
unfoldable pub linked_within : List Link → ℕ → EndRule
linked_within links zero which = None
linked_within links (suc more) which = end_at_link links (linked_within links more) which

-- a link says where the chain of a given value ends
abbrev pub IsLinkOf : Program → ℕ → GivenTree → Link → Type 0
IsLinkOf program which v l = (further : EndRule) → end_by further l ≡ end_of_tree program further which v.file (value_in v.tree.now)

-- links from some number on are those of given values
abbrev pub AreLinksFrom : Program → ℕ → List GivenTree → List Link → Type 0
AreLinksFrom program from [] [] = Unit {0}
AreLinksFrom program from (v ∷ values) (l ∷ links) = IsLinkOf program from v l × AreLinksFrom program (suc from) values links
AreLinksFrom program from _ _ = ⊥

-- what a table of ends tells
abbrev pub end_in : List (Option ChainEnd) → EndRule
end_in ends which = slice_index_or ends which None

-- a table tells no end where there is one
abbrev pub AreSettled : List Link → List (Option ChainEnd) → Type 0
AreSettled links ends = (which : ℕ) → end_in ends which ≡ None → end_at_link links (end_in ends) which ≡ None

-- it tells where each chain of a program ends
abbrev pub TellsEnds : Program → List (Option ChainEnd) → Type 0
TellsEnds program ends = (which : ℕ) → end_in ends which ≡ chain_end_of program which
