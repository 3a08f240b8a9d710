-- What stands before something in its list, and marks that say whether something before has the same name or id.
use Rattle.std.specs.Prelude.{ℕ, ℤ, List, [], ◌∷◌, ◌++◌, map, Bool}
use Rattle.std.specs.Ordering.{int_eq}
use Rattle.std.specs.List.{list_any}
use Rattle.idl_include.specs.Written.{Written}
use Rattle.idl_include.specs.Declarations.{FieldDecl, EnumValueDecl, declared_name}
use Rattle.idl_include.specs.DeclaredIn.{field_in, enum_value_in, definition_in}
use Rattle.idl_include.specs.Loading.{is_among}
use Rattle.idl_names.specs.declared.before.GivenBefore.{GivenBefore}
use Rattle.idl_names.specs.declared.before.GivenBefore.TheVariants as before

-- the names that were given before one in the same list
abbrev pub names_before : GivenBefore → List Written
names_before before.Nothing = []
names_before (before.Definitions ds) = map (λ d. declared_name (definition_in d)) ds.now
names_before (before.Fields fs) = map (λ (f : FieldDecl). f.name) (map field_in fs.now)
names_before (before.Values vs) = map (λ (v : EnumValueDecl). v.name) (map enum_value_in vs.now)

-- the texts of names
abbrev pub texts_of : List Written → List (List ℕ)
texts_of names = map (λ (name : Written). name.text) names

-- whether each name is one of those before it
abbrev pub name_marks : List (List ℕ) → List (List ℕ) → List Bool
name_marks before [] = []
name_marks before (name ∷ names) = is_among name before ∷ name_marks (before ++ name ∷ []) names

-- whether each id is one of those before it
abbrev pub id_marks : List ℤ → List ℤ → List Bool
id_marks before [] = []
id_marks before (id ∷ ids) = list_any (int_eq id) before ∷ id_marks (before ++ id ∷ []) ids
