-- What is known of a field by those before it in its list.
use Rattle.std.specs.Prelude.{◌≡◌, ℕ, List, [], map}
use Rattle.std.specs.Ordering.{int_eq}
use Rattle.std.specs.List.{list_any}
use Rattle.idl_parser.specs.declared.tree.Field.{Field}
use Rattle.idl_include.specs.Declarations.{FieldDecl}
use Rattle.idl_include.specs.DeclaredIn.{field_in}
use Rattle.idl_include.specs.FieldIds.{id_behind, unnumbered_in, field_ids}
use Rattle.idl_include.specs.Loading.{is_among}
use Rattle.idl_names.specs.declared.fields.FieldMark.{FieldMark}
use Rattle.idl_names.specs.declared.fields.FieldMarks.{FieldMarks}
use Rattle.idl_names.specs.Before.{texts_of, name_marks, id_marks}

-- the names of fields, in order
abbrev pub field_texts : List Field → List (List ℕ)
field_texts fields = map (λ (f : Field). f.name.text) fields

-- what is said of a field behind others is right
pub record IsFieldMark (before : List Field) (field : Field) (mark : FieldMark) : Type 0 where
  pub name : mark.repeated_name ≡ is_among field.name.text (texts_of (map (λ (f : FieldDecl). f.name) (map field_in before)))
  pub id : mark.id ≡ id_behind (unnumbered_in (map field_in before)) (field_in field).id
  pub repeated : mark.repeated_id ≡ list_any (int_eq mark.id) (field_ids (map field_in before))

-- the same of all fields of a list
pub record AreFieldMarks (fields : List Field) (marks : FieldMarks) : Type 0 where
  pub names : marks.names.items ≡ name_marks [] (field_texts fields)
  pub ids : marks.ids.items ≡ field_ids (map field_in fields)
  pub repeats : marks.repeats.items ≡ id_marks [] marks.ids.items
