-- Declared fields by their places, as those that have to be there.
use Rattle.std.proofs.Common.{◌≡◌, ℕ, zero, suc, ◌+◌, ◌<◌, ◌≤◌, Bool, true, false, cond, List, [], ◌∷◌, ◌++◌, length, drop, get_or, Option, Some, None, refl, sym, ap, ap₂, ◌∙◌, append_assoc, append-nil, arith}
use Rattle.std.specs.Prelude.{⊤, map, not, ◌&&◌, ◌||◌, MatchOption, unwrap_or}
use Rattle.std.specs.List.{slice_get}
use Rattle.std.specs.Option.{option_map}
use Rattle.std.proofs.lemmas.List.{at_drop_all}
use Rattle.thrift_value.specs.Tree.{FieldTrees}
use Rattle.schema.specs.declared.types.FieldDesc.{FieldDesc}
use Rattle.schema.specs.declared.types.StructDesc.{StructDesc}
use Rattle.schema.specs.LookUp.{fields_at}
use Rattle.schema.specs.PlainSchema.{PlainField, PlainStruct, PlainSchema}
use Rattle.schema.specs.SchemaOf.{plain_field, plain_struct}
use Rattle.struct_skew.specs.Needs.{places_from, is_required_field}
use Rattle.struct_skew.specs.WrittenTests.{some_passes, has_field_tree, has_field_at, has_fields_at, has_fields_where, has_required_fields, has_its_fields, is_struct_written, are_fields_written_as}
use Rattle.struct_skew.proofs.Steps.{in_front}
use Rattle.struct_skew.proofs.StructsAt.{slice_get-map}

-- of a list's end, which begins at a place of the whole
there_from : (test : PlainField → Bool) (fields : FieldTrees) (all : List PlainField) (n : ℕ) (fs : List PlainField) → ((k : ℕ) → slice_get all (n + k) ≡ slice_get fs k)
    → has_fields_at all (places_from test n fs) fields ≡ has_fields_where test fs fields
there_from test _ all n [] at = refl
there_from test fields all n (f ∷ fs) at =
    by_test (test f) (there_from test fields all (n + 1) fs (λ k. ap (slice_get all) (omega arith) ∙ at (suc k)))
  where
    here : slice_get all n ≡ Some f
    here = ap (slice_get all) (omega arith) ∙ at zero

    by_test : (b : Bool) → has_fields_at all (places_from test (n + 1) fs) fields ≡ has_fields_where test fs fields
        → has_fields_at all (cond b (n ∷ places_from test (n + 1) fs) (places_from test (n + 1) fs)) fields
        ≡ ((not b || has_field_tree f.id fields) && has_fields_where test fs fields)
    by_test true rest = ap₂ (λ o r. some_passes o (λ g. has_field_tree g.id fields) && r) here rest
    by_test false rest = rest

-- the fields at the places of those that pass a test are these
pub there_at_places : (test : PlainField → Bool) (fields : FieldTrees) (fs : List PlainField) → has_fields_at fs (places_from test 0 fs) fields ≡ has_fields_where test fs fields
there_at_places test fields fs = there_from test fields fs 0 fs (λ k. ap (slice_get fs) (omega arith))

pub required_places : (fields : FieldTrees) (fs : List PlainField) → has_fields_at fs (places_from is_required_field 0 fs) fields ≡ has_required_fields fs fields
required_places fields fs = there_at_places is_required_field fields fs

-- a declared field in memory, at its place
pub at_place : (ds : List FieldDesc) (p : ℕ) (o : Option FieldDesc) (fields : FieldTrees) → o ≡ slice_get ds p
    → some_passes (option_map plain_field o) (λ f. has_field_tree f.id fields) ≡ has_field_at (map plain_field ds) p fields
at_place ds p o fields is = ap (λ x. some_passes x (λ f. has_field_tree f.id fields)) (ap (option_map plain_field) is ∙ sym (slice_get-map plain_field ds p))

-- a struct in memory, at its number
pub struct_there : (ds : List StructDesc) (which : ℕ) (d : StructDesc) → Some d ≡ slice_get ds which → slice_get (map plain_struct ds) which ≡ Some (plain_struct d)
struct_there ds which d is = slice_get-map plain_struct ds which ∙ ap (option_map plain_struct) (sym is)

-- what is known of each struct at a number is known of this one
pub known_there : {X : Type 0} (o : Option X) (at : PlainStruct → Type 0) (P : PlainStruct → X → Type 0) (d : PlainStruct) → at d
    → MatchOption o ⊤ (λ x. (e : PlainStruct) → at e → P e x) → MatchOption o ⊤ (P d)
known_there None at P d here known = tt
known_there (Some x) at P d here known = known d here

-- a struct that lacks some of its fields, and one that has them
pub struct_lacks : (structs : List PlainStruct) (o : Option PlainStruct) (d : PlainStruct) (fields : FieldTrees) → o ≡ Some d → false ≡ has_its_fields d fields
    → false ≡ is_struct_written structs o fields
struct_lacks structs o d fields here lacks =
    sym (ap (λ x. is_struct_written structs x fields) here ∙ ap (λ b. b && are_fields_written_as structs d.fields fields) (sym lacks))

pub struct_by_fields : (s : PlainSchema) (which : ℕ) (d : PlainStruct) (fields : FieldTrees) (r : Bool) → slice_get s.structs which ≡ Some d → true ≡ has_its_fields d fields
    → r ≡ are_fields_written_as s.structs (fields_at s which) fields → r ≡ is_struct_written s.structs (slice_get s.structs which) fields
struct_by_fields s which d fields r here has is =
    is ∙ ap (λ o. are_fields_written_as s.structs (unwrap_or (option_map (λ (x : PlainStruct). x.fields) o) []) fields) here
    ∙ sym (ap (λ x. is_struct_written s.structs x fields) here ∙ ap (λ b. b && are_fields_written_as s.structs d.fields fields) (sym has))

-- a walk that keeps the places of the items that pass a test
module _ {A B : Type 0} (seen : A → B) (test : B → Bool) (xs : List A) (old : List ℕ) (i : ℕ) where
  module _ (x : A) (low : i < length xs) (here : x ≡ get_or xs i x) (kept : old ++ places_from test i (map seen (drop i xs)) ≡ places_from test 0 (map seen xs)) where
    abbrev later : List ℕ
    later = places_from test (i + 1) (map seen (drop (i + 1) xs))

    tried : (old ++ cond (test (seen x)) (i ∷ later) later) ≡ places_from test 0 (map seen xs)
    tried = ap (λ ys. old ++ places_from test i (map seen ys)) (sym (in_front xs i x low here)) ∙ kept

    -- the item passes, and its place is kept
    pub place_kept : (new : List ℕ) → true ≡ test (seen x) → new ≡ old ++ i ∷ [] → new ++ later ≡ places_from test 0 (map seen xs)
    place_kept new passes put = ap (λ ps. ps ++ later) put ∙ append_assoc old (i ∷ []) later ∙ ap (λ b. old ++ cond b (i ∷ later) later) passes ∙ tried

    -- the item fails
    pub place_passed_over : (new : List ℕ) → false ≡ test (seen x) → new ≡ old → new ++ later ≡ places_from test 0 (map seen xs)
    place_passed_over new fails same = ap (λ ps. ps ++ later) same ∙ ap (λ b. old ++ cond b (i ∷ later) later) fails ∙ tried

  -- at the end all are kept
  pub places_kept : length xs ≤ i → old ++ places_from test i (map seen (drop i xs)) ≡ places_from test 0 (map seen xs) → old ≡ places_from test 0 (map seen xs)
  places_kept end kept = sym (append-nil old) ∙ ap (λ ps. old ++ ps) (sym (at_drop_all (λ ys. places_from test i (map seen ys)) xs i end)) ∙ kept
