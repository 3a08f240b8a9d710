-- The text of a list and of a map of values.
use Rattle.std.proofs.Common.{◌≡◌, ◌++◌, codes, ap, ◌∙◌, rules}
use Rattle.std.specs.Global.{Vec}
use Rattle.idl_token.specs.declared.Place.{Place}
use Rattle.idl_parser.specs.declared.tree.ConstTree.{ConstTree}
use Rattle.idl_parser.specs.declared.tree.ConstTree as value
use Rattle.idl_parser.specs.declared.tree.ConstTree.TheFolds.{the_lemmas}
use Rattle.idl_printer.specs.Printed.{value_text, values_text, const_pairs_text}

map_text : (at : Place) (pairs : Vec (ConstTree × ConstTree)) → value_text (value.Map at pairs) ≡ codes "{" ++ (const_pairs_text pairs.items ++ codes "}")
map_text at pairs = search (rules, the_lemmas)

-- a value that is known to be a map
pub text_of_map : (v : ConstTree) (at : Place) (pairs : Vec (ConstTree × ConstTree)) → v ≡ value.Map at pairs → value_text v ≡ codes "{" ++ (const_pairs_text pairs.items ++ codes "}")
text_of_map v at pairs is = ap value_text is ∙ map_text at pairs

list_text : (at : Place) (items : Vec ConstTree) → value_text (value.List at items) ≡ codes "[" ++ (values_text items.items ++ codes "]")
list_text at items = search (rules, the_lemmas)

-- a value that is known to be a list
pub text_of_list : (v : ConstTree) (at : Place) (items : Vec ConstTree) → v ≡ value.List at items → value_text v ≡ codes "[" ++ (values_text items.items ++ codes "]")
text_of_list v at items is = ap value_text is ∙ list_text at items
