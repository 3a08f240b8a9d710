-- What a value is worth is the same by two rules for given values that look the same from every place.
use Rattle.std.proofs.Common.{◌≡◌, ℕ, ℤ, List, [], ◌∷◌, Option, Some, None, refl}
use Rattle.idl_token.specs.declared.Place.{Place}
use Rattle.thrift_value.specs.Tree.{Tree, item, pair}
use Rattle.idl_include.specs.ConstExpr.{ConstExpr, int_const, double_const, literal_const, name_const, list_const, map_const, ConstItems, no_consts, const_item, ConstEntries, no_entries, const_entry}
use Rattle.idl_include.specs.ConstNames.{ConstMeaning, enum_value, given_value, const_meaning}
use Rattle.schema.specs.declared.types.FieldsKind.{FieldsKind}
use Rattle.schema.specs.declared.types.FieldsKind.TheVariants as fields
use Rattle.schema.specs.PlainKind.{PlainKind}
use Rattle.schema.specs.PlainSchema.{PlainField}
use Rattle.check_model.specs.Worths.{valued, and_next, seen_at}
use Rattle.check_model.specs.Evaluation.{Setting, NamedWorth, FieldValue, name_worth, default_worth, field_worth, fields_worth, made_fields, last_given, with_field, opened, takes_brackets, takes_braces, element_kind, row_tree, braced, struct_numbered, default_of, field_of_key, worth_by, items_by, pairs_by, given_by}

-- they look the same from every place
abbrev pub AreSeenAlike : NamedWorth → NamedWorth → Type 0
AreSeenAlike named other = (which : ℕ) (kind : PlainKind) (levels count : ℕ) (at : Place) → seen_at at (named which kind levels count) ≡ seen_at at (other which kind levels count)

module _ (s : Setting) (named other : NamedWorth) (alike : AreSeenAlike named other) where
  name_alike : (kind : PlainKind) (levels count : ℕ) (at : Place) (m : Option ConstMeaning) → name_worth named kind levels count at m ≡ name_worth other kind levels count at m
  name_alike kind levels count at None = refl
  name_alike kind levels count at (Some (enum_value which number)) = refl
  name_alike kind levels count at (Some (given_value which)) = alike which kind levels count at

  default_alike : (at : Place) (levels count : ℕ) (f : PlainField) (default : Option ℕ) → default_worth named at levels count f default ≡ default_worth other at levels count f default
  default_alike at levels count f None = refl
  default_alike at levels count f (Some which) = λ i. and_next (alike which f.kind levels count at i) (λ value n. valued (Some value) n)

  field_alike : (at : Place) (levels count : ℕ) (f : PlainField) (default : Option ℕ) (value : Option Tree)
      → field_worth named at levels count f default value ≡ field_worth other at levels count f default value
  field_alike at levels count f default (Some value) = refl
  field_alike at levels count f default None = default_alike at levels count f default

  fields_alike : (default : ℤ → Option ℕ) (given : List FieldValue) (at : Place) (levels count : ℕ) (fs : List PlainField)
      → fields_worth named default given at levels count fs ≡ fields_worth other default given at levels count fs
  fields_alike default given at levels count [] = refl
  fields_alike default given at levels count (f ∷ more) = λ i.
      and_next (field_alike at levels count f (default f.id) (last_given f.id given) i) (λ value n.
      and_next (fields_alike default given at levels n more i) (λ rest m.
      valued (with_field f.id value rest) m))

  made_alike : (default : ℤ → Option ℕ) (at : Place) (levels : ℕ) (kind : FieldsKind) (items : List PlainField) (given : List FieldValue) (count : ℕ)
      → made_fields named default at levels kind items given count ≡ made_fields other default at levels kind items given count
  made_alike default at levels fields.Union items given count = refl
  made_alike default at levels fields.Struct items given count = fields_alike default given at levels count items
  made_alike default at levels fields.Exception items given count = fields_alike default given at levels count items
  made_alike default at levels fields.Args items given count = fields_alike default given at levels count items

  mutual
    pub worth_alike : (file : ℕ) (kind : PlainKind) (levels count : ℕ) (tree : ConstExpr) → worth_by s named file kind levels count tree ≡ worth_by s other file kind levels count tree
    worth_alike file kind levels count (int_const n at) = refl
    worth_alike file kind levels count (double_const digits) = refl
    worth_alike file kind levels count (literal_const literal) = refl
    worth_alike file kind levels count (name_const name) = name_alike kind levels count name.at (const_meaning s.program file name.text)
    worth_alike file kind levels count (list_const at items) = λ i. opened at (takes_brackets kind) levels count (λ left n.
        and_next (items_alike file (element_kind kind) left n items i) (λ made m. valued (row_tree kind made) m))
    worth_alike file kind levels count (map_const at entries) = λ i. opened at (takes_braces kind) levels count (λ left n.
        braced kind (λ key value. pairs_alike file key value left n entries i) (λ which.
        and_next (given_alike file (struct_numbered s.schema which).fields left n entries i) (λ given m.
        made_alike (default_of s.program which) at left (struct_numbered s.schema which).kind (struct_numbered s.schema which).fields given m i)))

    items_alike : (file : ℕ) (kind : PlainKind) (levels count : ℕ) (items : ConstItems) → items_by s named file kind levels count items ≡ items_by s other file kind levels count items
    items_alike file kind levels count no_consts = refl
    items_alike file kind levels count (const_item x more) = λ i.
        and_next (worth_alike file kind levels count x i) (λ value n.
        and_next (items_alike file kind levels n more i) (λ rest m. valued (item value rest) m))

    pairs_alike : (file : ℕ) (key value : PlainKind) (levels count : ℕ) (entries : ConstEntries)
        → pairs_by s named file key value levels count entries ≡ pairs_by s other file key value levels count entries
    pairs_alike file key value levels count no_entries = refl
    pairs_alike file key value levels count (const_entry k v more) = λ i.
        and_next (worth_alike file key levels count k i) (λ first n.
        and_next (worth_alike file value levels n v i) (λ second m.
        and_next (pairs_alike file key value levels m more i) (λ rest o. valued (pair first second rest) o)))

    given_alike : (file : ℕ) (items : List PlainField) (levels count : ℕ) (entries : ConstEntries)
        → given_by s named file items levels count entries ≡ given_by s other file items levels count entries
    given_alike file items levels count no_entries = refl
    given_alike file items levels count (const_entry key v more) = λ i.
        and_next (field_of_key items count key) (λ f n.
        and_next (worth_alike file f.kind levels n v i) (λ value m.
        and_next (given_alike file items levels m more i) (λ rest o. valued (record { id = f.id; value = value } ∷ rest) o)))
