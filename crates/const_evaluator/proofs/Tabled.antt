-- Tables of structs, one more at a time.
use Rattle.std.proofs.Common.{◌≡◌, ◌<◌, ◌+◌, ◌++◌, ◌⊎◌, inl, inr, ℕ, ℤ, zero, suc, List, [], ◌∷◌, map, length, get_or, take, slice_get, Option, Some, None, refl, ap, sym, subst, ◌∙◌, arith}
use Rattle.std.specs.Option.{option_map, option_and_then}
use Rattle.std.specs.Ordering.{int_eq}
use Rattle.std.specs.List.{find, position_from}
use Rattle.std.specs.Str.{bytes_eq}
use Rattle.std.proofs.lemmas.List.{length-take-le}
use Rattle.std.proofs.lemmas.Option.{slice_get-map}
use Rattle.schema.specs.declared.types.FieldDesc.{FieldDesc}
use Rattle.schema.specs.declared.types.StructDesc.{StructDesc}
use Rattle.schema.specs.PlainSchema.{PlainField}
use Rattle.schema.specs.SchemaOf.{plain_field, plain_struct}
use Rattle.idl_names.specs.NameMaps.{number_of_name}
use Rattle.check_model.specs.FieldLists.{NumberedField, fields_by_id}
use Rattle.idl_const.specs.FieldRows.{owed_in, owed_entries}
use Rattle.schema_bare.proofs.Zipped.{mapped_push, taken_push}
use Rattle.const_evaluator.specs.declared.given_fields.GivenFields.{GivenFields}
use Rattle.const_evaluator.specs.declared.struct_tables.StructTable.{StructTable}
use Rattle.const_evaluator.specs.GivenFields.{FiledFields, NumberRule, fields_given, default_number, default_by, default_among}
use Rattle.const_evaluator.specs.OwedFields.{owed_beside, HaveSameIds}
use Rattle.const_evaluator.specs.StructTables.{HaveRisingIds, struct_in_table, fields_in_table, IsStructTable, AreStructTables}
use Rattle.const_evaluator.proofs.OwedBeside.{owed_by_ids}

-- numbers of defaults by ids
abbrev by_ids : NumberRule → ℕ → List NumberedField → ℤ → Option ℕ
by_ids number file ss id = option_and_then (λ (f : NumberedField). default_number number file f.decl) (find (λ (f : NumberedField). int_eq f.id id) ss)

pub table_right : (number : NumberRule) (list : FiledFields) (sorted : List NumberedField) (fields : List FieldDesc) (t : StructTable) → fields ≡ t.desc.now.fields
    → sorted ≡ fields_by_id list.item → HaveRisingIds (map plain_field fields) → HaveSameIds sorted (map plain_field fields)
    → map owed_in t.owed.items ≡ owed_beside (λ (f : NumberedField). default_number number list.file f.decl) sorted (map plain_field fields)
    → ((name : List ℕ) → number_of_name t.places name ≡ position_from (λ (f : PlainField). bytes_eq f.name name) 0 (map plain_field fields))
    → IsStructTable (default_by number list) t
table_right number list sorted fields t here is rising same owed named =
    let all : List PlainField = fields_in_table t in
    let seen : map plain_field fields ≡ all = ap (map plain_field) here in
    record {
      named = λ name. named name ∙ ap (position_from (λ (f : PlainField). bytes_eq f.name name) 0) seen;
      owed =
          owed
          ∙ owed_by_ids (λ (f : NumberedField). default_number number list.file f.decl) sorted (map plain_field fields) rising same
          ∙ ap (λ (fs : List PlainField). owed_entries (by_ids number list.file sorted) fs) seen
          ∙ ap (λ (ss : List NumberedField). owed_entries (by_ids number list.file ss) all) is;
      rising = subst HaveRisingIds seen rising;
    }

-- it stands there, or it is the last
abbrev IsAtOrLast : {A : Type 0} → List A → A → A → ℕ → Type 0
IsAtOrLast xs x u k = (slice_get xs k ≡ Some u) ⊎ ((k ≡ length xs) × (Some x ≡ Some u))

one_further : {A : Type 0} (y : A) (xs : List A) (x u : A) (k : ℕ) → IsAtOrLast xs x u k → IsAtOrLast (y ∷ xs) x u (suc k)
one_further y xs x u k (inl h) = inl h
one_further y xs x u k (inr h) = inr (ap suc h.0, h.1)

got_more : {A : Type 0} (xs : List A) (x u : A) (k : ℕ) → slice_get (xs ++ x ∷ []) k ≡ Some u → IsAtOrLast xs x u k
got_more [] x u zero e = inr (refl, e)
got_more [] x u (suc k) e = inl e
got_more (y ∷ xs) x u zero e = inl e
got_more (y ∷ xs) x u (suc k) e = one_further y xs x u k (got_more xs x u k e)

-- what is there in a row of options
abbrev some_or : {A : Type 0} → A → Option A → A
some_or d None = d
some_or d (Some x) = x

-- one table more
right_by : (default : ℕ → ℤ → Option ℕ) (old : List StructTable) (t u : StructTable) (which : ℕ) → IsStructTable (default (length old)) t → AreStructTables default old
    → IsAtOrLast old t u which → IsStructTable (default which) u
right_by default old t u which own so_far (inl h) = so_far which u h
right_by default old t u which own so_far (inr h) =
    subst (λ (k : ℕ). IsStructTable (default k) u) (sym h.0)
    (subst (λ (o : Option StructTable). IsStructTable (default (length old)) (some_or t o)) h.1 own)

map_length : {A B : Type 0} (f : A → B) (xs : List A) → length (map f xs) ≡ length xs
map_length f [] = refl
map_length f (x ∷ xs) = ap suc (map_length f xs)

module _ (number : NumberRule) (lists : List GivenFields) (structs : List StructDesc) where
  abbrev default_here : ℕ → ℤ → Option ℕ
  default_here = default_among number (map fields_given lists)

  -- the default of the list at a place
  default_at : (i : ℕ) (list : GivenFields) → Some list ≡ slice_get lists i → default_by number (fields_given list) ≡ default_here i
  default_at i list there =
      let by : Option FiledFields → ℤ → Option ℕ = λ o id. option_and_then (λ (l : FiledFields). default_by number l id) o in
      ap by (ap (option_map fields_given) there ∙ sym (slice_get-map fields_given lists i))

  pub structs_next : (i : ℕ) (x : StructDesc) (t : StructTable) (old new : List StructTable) → i < length structs → x ≡ get_or structs i x → new ≡ old ++ t ∷ []
      → struct_in_table t ≡ plain_struct x → map struct_in_table old ≡ map plain_struct (take i structs) → map struct_in_table new ≡ map plain_struct (take (i + 1) structs)
  structs_next i x t old new inside here pushed own so_far =
      mapped_push struct_in_table old new t pushed ∙ (λ j. so_far j ++ own j ∷ []) ∙ sym (taken_push plain_struct structs i x inside here)

  -- as many tables as places so far
  count_is : (i : ℕ) (old : List StructTable) → i < length structs → map struct_in_table old ≡ map plain_struct (take i structs) → i ≡ length old
  count_is i old inside so_far =
      let sizes : length (map struct_in_table old) ≡ length (map plain_struct (take i structs)) = ap length so_far in
      omega (arith, sizes, map_length struct_in_table old, map_length plain_struct (take i structs), length-take-le i structs (omega (arith, inside)))

  pub right_next : (i : ℕ) (list : GivenFields) (t : StructTable) (old new : List StructTable) → i < length structs → Some list ≡ slice_get lists i → new ≡ old ++ t ∷ []
      → IsStructTable (default_by number (fields_given list)) t → map struct_in_table old ≡ map plain_struct (take i structs)
      → AreStructTables default_here old → AreStructTables default_here new
  right_next i list t old new inside there pushed own count so_far which u e =
      let here : IsStructTable (default_here (length old)) t =
      subst (λ (k : ℕ). IsStructTable (default_here k) t) (count_is i old inside count)
      (subst (λ (default : ℤ → Option ℕ). IsStructTable default t) (default_at i list there) own) in
      right_by default_here old t u which here so_far (got_more old t u which (subst (λ (ts : List StructTable). slice_get ts which ≡ Some u) pushed e))
