-- Types as they are written (Thrift IDL, 'Types').
use Rattle.std.specs.Prelude.{List, [], ◌∷◌, ◌++◌}
use Rattle.idl_parser.specs.declared.tree.Base.{Base}
use Rattle.idl_include.specs.Written.{Written}

-- a type: a base type, a name, or a container with the types of what it holds
pub data TypeExpr : Type 0 where
  base_expr : Base → TypeExpr
  name_expr : Written → TypeExpr
  map_expr : TypeExpr → TypeExpr → TypeExpr
  set_expr : TypeExpr → TypeExpr
  list_expr : TypeExpr → TypeExpr

-- the names in a type, in reading order
abbrev pub names_in_type : TypeExpr → List Written
names_in_type (base_expr base) = []
names_in_type (name_expr name) = name ∷ []
names_in_type (map_expr key value) = names_in_type key ++ names_in_type value
names_in_type (set_expr member) = names_in_type member
names_in_type (list_expr element) = names_in_type element
