-- The ids of the fields of a list: the number that is written, or else -1, -2 and so on, in order.
use Rattle.std.specs.Prelude.{ℕ, suc, ℤ, pos, neg_ℤ, List, [], ◌∷◌, Option, Some, None}
use Rattle.idl_include.specs.Declarations.{FieldDecl}

-- the id of a field behind so many without a written number
abbrev pub id_behind : ℕ → Option ℤ → ℤ
id_behind unnumbered (Some id) = id
id_behind unnumbered None = neg_ℤ (pos (suc unnumbered))

-- how many fields have no written number, once one more stands behind so many
abbrev pub one_more_unnumbered : ℕ → Option ℤ → ℕ
one_more_unnumbered unnumbered (Some id) = unnumbered
one_more_unnumbered unnumbered None = suc unnumbered

-- how many of the fields have no written number
abbrev pub unnumbered_in : List FieldDecl → ℕ
unnumbered_in [] = 0
unnumbered_in (field ∷ more) = one_more_unnumbered (unnumbered_in more) field.id

-- the ids of fields behind so many without a written number
abbrev pub ids_behind : ℕ → List FieldDecl → List ℤ
ids_behind unnumbered [] = []
ids_behind unnumbered (field ∷ more) = id_behind unnumbered field.id ∷ ids_behind (one_more_unnumbered unnumbered field.id) more

-- the ids of the fields of a list
unfoldable pub field_ids : List FieldDecl → List ℤ
field_ids fields = ids_behind 0 fields
