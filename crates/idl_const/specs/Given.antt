-- What stands for given values in memory.
use Rattle.std.specs.Prelude.{ℕ, Option}
use Rattle.std.specs.Option.{option_map}
use Rattle.std.specs.List.{slice_get}
use Rattle.std.specs.Borrow.{Bor}
use Rattle.idl_parser.specs.declared.tree.ConstTree.{ConstTree}
use Rattle.idl_include.specs.ConstExpr.{ConstExpr}
use Rattle.idl_include.specs.DeclaredIn.{value_in}
use Rattle.idl_include.specs.Numbering.{Filed}
use Rattle.idl_include.specs.Program.{Program}
use Rattle.idl_include.specs.Spots.{GivenValue, values_of}

-- a tree that stands in a file
abbrev pub FiledTree : Type 0
FiledTree = Filed ConstExpr

-- the same in memory
abbrev pub tree_filed : ℕ × Bor ConstTree → FiledTree
tree_filed t = record { file = t.0; item = value_in t.1.now }

-- the tree of a given value
abbrev pub tree_given : Filed GivenValue → FiledTree
tree_given v = record { file = v.file; item = v.item.tree }

-- the tree of the given value of some number
unfoldable pub tree_numbered : Program → ℕ → Option FiledTree
tree_numbered program which = option_map tree_given (slice_get (values_of program) which)

-- a key and its value
abbrev pub both_in : ConstTree × ConstTree → ConstExpr × ConstExpr
both_in p = (value_in p.0, value_in p.1)
