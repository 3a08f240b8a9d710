-- The text of a type that holds others.
use Rattle.std.proofs.Common.{◌≡◌, ◌++◌, codes, ap, ◌∙◌, rules}
use Rattle.std.specs.Global.{Box}
use Rattle.idl_token.specs.declared.Place.{Place}
use Rattle.idl_token.specs.declared.terminal.Terminal.TheVariants as word
use Rattle.idl_token.specs.Words.{keyword_text}
use Rattle.idl_parser.specs.declared.tree.TypeTree.{TypeTree}
use Rattle.idl_parser.specs.declared.tree.TypeTree as kind
use Rattle.idl_parser.specs.declared.tree.TypeTree.TheFolds.{the_lemmas}
use Rattle.idl_printer.specs.Printed.{type_text}

map_type_text : (at : Place) (k v : Box TypeTree)
    → type_text (kind.Map at k v) ≡ keyword_text word.Map ++ (codes "<" ++ (type_text k.value ++ (codes ", " ++ (type_text v.value ++ codes ">"))))
map_type_text at k v = search (rules, the_lemmas)

set_type_text : (at : Place) (x : Box TypeTree) → type_text (kind.Set at x) ≡ keyword_text word.Set ++ (codes "<" ++ (type_text x.value ++ codes ">"))
set_type_text at x = search (rules, the_lemmas)

list_type_text : (at : Place) (x : Box TypeTree) → type_text (kind.List at x) ≡ keyword_text word.List ++ (codes "<" ++ (type_text x.value ++ codes ">"))
list_type_text at x = search (rules, the_lemmas)

-- a type that is known to be a map, a set or a list
pub text_of_map_type : (t : TypeTree) (at : Place) (k v : Box TypeTree) → t ≡ kind.Map at k v
    → type_text t ≡ keyword_text word.Map ++ (codes "<" ++ (type_text k.value ++ (codes ", " ++ (type_text v.value ++ codes ">"))))
text_of_map_type t at k v is = ap type_text is ∙ map_type_text at k v

pub text_of_set_type : (t : TypeTree) (at : Place) (x : Box TypeTree) → t ≡ kind.Set at x → type_text t ≡ keyword_text word.Set ++ (codes "<" ++ (type_text x.value ++ codes ">"))
text_of_set_type t at x is = ap type_text is ∙ set_type_text at x

pub text_of_list_type : (t : TypeTree) (at : Place) (x : Box TypeTree) → t ≡ kind.List at x → type_text t ≡ keyword_text word.List ++ (codes "<" ++ (type_text x.value ++ codes ">"))
text_of_list_type t at x is = ap type_text is ∙ list_type_text at x
