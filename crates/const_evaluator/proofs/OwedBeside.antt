-- What is owed, one field more at a time; and by ids.
use Rattle.std.proofs.Common.{◌≡◌, ◌≤◌, ◌<◌, ◌+◌, ◌++◌, ℕ, ℤ, zero, suc, Bool, cond, List, [], ◌∷◌, map, length, get_or, drop, Option, Some, refl, ap, sym, subst, ◌∙◌, arith}
use Rattle.std.specs.Prelude.{◌<ℤ◌}
use Rattle.std.specs.Ordering.{int_eq}
use Rattle.std.specs.Option.{option_and_then}
use Rattle.std.specs.List.{find}
use Rattle.std.proofs.lemmas.List.{append-nil}
use Rattle.schema.specs.declared.types.FieldDesc.{FieldDesc}
use Rattle.schema.specs.PlainSchema.{PlainField}
use Rattle.schema.specs.SchemaOf.{plain_field}
use Rattle.check_model.specs.FieldLists.{NumberedField}
use Rattle.idl_names.proofs.Marked.{left_more}
use Rattle.idl_names.proofs.Listed.{past_end}
use Rattle.idl_const.specs.FieldEntries.{PlainFieldEntry}
use Rattle.idl_const.specs.FieldRows.{owed_before, owed_entries}
use Rattle.idl_const.proofs.DeclaredFields.{same_id, other_id}
use Rattle.schema_bare.specs.declared.sorted.FieldById.{FieldById}
use Rattle.schema_bare.specs.ById.{numbered_in}
use Rattle.const_evaluator.specs.OwedFields.{owed_beside, HaveSameIds}
use Rattle.const_evaluator.specs.StructTables.{HaveRisingIds}

-- ---- one field more

pub ids_next : (sorted : List FieldById) (fields : List FieldDesc) (i : ℕ) (s : FieldById) (f : FieldDesc) (all : Type 0) → i < length sorted → s ≡ get_or sorted i s
    → i < length fields → f ≡ get_or fields i f → s.id ≡ f.id → (HaveSameIds (map numbered_in (drop i sorted)) (map plain_field (drop i fields)) → all)
    → HaveSameIds (map numbered_in (drop (i + 1) sorted)) (map plain_field (drop (i + 1) fields)) → all
ids_next sorted fields i s f all m there l here same so_far rest =
    let P : List FieldById → Type 0 = λ ss. HaveSameIds (map numbered_in ss) (map plain_field (f ∷ drop (i + 1) fields)) in
    let Q : List FieldDesc → Type 0 = λ fs. HaveSameIds (map numbered_in (drop i sorted)) (map plain_field fs) in
    so_far (subst Q (sym (left_more fields i f l here)) (subst P (sym (left_more sorted i s m there)) (same, rest)))

pub owed_next : (number : NumberedField → Option ℕ) (sorted : List FieldById) (fields : List FieldDesc) (i : ℕ) (s : FieldById) (f : FieldDesc)
    (old new all : List PlainFieldEntry) → i < length sorted → s ≡ get_or sorted i s → i < length fields → f ≡ get_or fields i f
    → ((rest : List PlainFieldEntry) → new ++ rest ≡ old ++ owed_before (plain_field f) (number (numbered_in s)) rest)
    → old ++ owed_beside number (map numbered_in (drop i sorted)) (map plain_field (drop i fields)) ≡ all
    → new ++ owed_beside number (map numbered_in (drop (i + 1) sorted)) (map plain_field (drop (i + 1) fields)) ≡ all
owed_next number sorted fields i s f old new all m there l here put so_far =
    put (owed_beside number (map numbered_in (drop (i + 1) sorted)) (map plain_field (drop (i + 1) fields)))
    ∙ sym (λ j. old ++ owed_beside number (map numbered_in (left_more sorted i s m there j)) (map plain_field (left_more fields i f l here j)))
    ∙ so_far

pub ids_end : (sorted : List FieldById) (fields : List FieldDesc) (i : ℕ) (all : Type 0) → length fields ≤ i
    → (HaveSameIds (map numbered_in (drop i sorted)) (map plain_field (drop i fields)) → all) → all
ids_end sorted fields i all past so_far =
    let Q : List FieldDesc → Type 0 = λ fs. HaveSameIds (map numbered_in (drop i sorted)) (map plain_field fs) in
    so_far (subst Q (sym (past_end fields i past)) (none_left (map numbered_in (drop i sorted))))
  where
    none_left : (ss : List NumberedField) → HaveSameIds ss []
    none_left [] = tt
    none_left (s ∷ ss) = tt

pub owed_end : (number : NumberedField → Option ℕ) (sorted : List FieldById) (fields : List FieldDesc) (i : ℕ) (made all : List PlainFieldEntry) → length fields ≤ i
    → made ++ owed_beside number (map numbered_in (drop i sorted)) (map plain_field (drop i fields)) ≡ all → made ≡ all
owed_end number sorted fields i made all past so_far =
    sym (append-nil made)
    ∙ ap (λ (es : List PlainFieldEntry). made ++ es) (sym (none_owed (map numbered_in (drop i sorted))))
    ∙ sym (ap (λ (fs : List FieldDesc). made ++ owed_beside number (map numbered_in (drop i sorted)) (map plain_field fs)) (past_end fields i past))
    ∙ so_far
  where
    none_owed : (ss : List NumberedField) → owed_beside number ss [] ≡ []
    none_owed [] = refl
    none_owed (s ∷ ss) = refl

-- ---- by ids

-- the default of the field of each id has the number of the one beside it
abbrev AreTold : (ℤ → Option ℕ) → (NumberedField → Option ℕ) → List NumberedField → List PlainField → Type 0
AreTold default number sorted [] = Unit {0}
AreTold default number [] (f ∷ fields) = Unit {0}
AreTold default number (s ∷ sorted) (f ∷ fields) = (default f.id ≡ number s) × AreTold default number sorted fields

told : (default : ℤ → Option ℕ) (number : NumberedField → Option ℕ) (sorted : List NumberedField) (fields : List PlainField) → HaveSameIds sorted fields
    → AreTold default number sorted fields → owed_beside number sorted fields ≡ owed_entries default fields
told default number [] [] same h = refl
told default number (s ∷ sorted) [] same h = refl
told default number [] (f ∷ fields) same h = absurd same
told default number (s ∷ sorted) (f ∷ fields) same h =
    λ i. owed_before f (sym h.0 i) (told default number sorted fields same.1 h.1 i)

-- a field in front, whose id is below
in_front : (number : NumberedField → Option ℕ) (s : NumberedField) (all sorted : List NumberedField) (fields : List PlainField)
    → ((k : ℕ) (d : PlainField) → k < length fields → s.id <ℤ (get_or fields k d).id)
    → AreTold (λ id. option_and_then number (find (λ (f : NumberedField). int_eq f.id id) all)) number sorted fields
    → AreTold (λ id. option_and_then number (find (λ (f : NumberedField). int_eq f.id id) (s ∷ all))) number sorted fields
in_front number s all [] [] low h = tt
in_front number s all (t ∷ sorted) [] low h = tt
in_front number s all [] (f ∷ fields) low h = tt
in_front number s all (t ∷ sorted) (f ∷ fields) low h = (
  ap (λ (b : Bool). option_and_then number (cond b (Some s) (find (λ (g : NumberedField). int_eq g.id f.id) all))) (other_id s.id f.id (low zero f (omega arith))) ∙ h.0,
  in_front number s all sorted fields (λ k d inside. low (suc k) d (omega (arith, inside))) h.1,
)

all_told : (number : NumberedField → Option ℕ) (sorted : List NumberedField) (fields : List PlainField) → HaveRisingIds fields → HaveSameIds sorted fields
    → AreTold (λ id. option_and_then number (find (λ (f : NumberedField). int_eq f.id id) sorted)) number sorted fields
all_told number [] [] rising same = tt
all_told number (s ∷ sorted) [] rising same = tt
all_told number [] (f ∷ fields) rising same = absurd same
all_told number (s ∷ sorted) (f ∷ fields) rising same = (
  ap (λ (b : Bool). option_and_then number (cond b (Some s) (find (λ (g : NumberedField). int_eq g.id f.id) sorted))) (ap (λ n. int_eq n f.id) same.0 ∙ same_id f.id),
  in_front number s sorted sorted fields
      (λ k d inside. subst (λ (n : ℤ). n <ℤ (get_or fields k d).id) (sym same.0) (rising zero (suc k) d (omega arith) (omega (arith, inside))))
      (all_told number sorted fields (λ i j d low high. rising (suc i) (suc j) d (omega (arith, low)) (omega (arith, high))) same.1),
)

-- what is owed beside others is what is owed by ids
pub owed_by_ids : (number : NumberedField → Option ℕ) (sorted : List NumberedField) (fields : List PlainField) → HaveRisingIds fields → HaveSameIds sorted fields
    → owed_beside number sorted fields ≡ owed_entries (λ id. option_and_then number (find (λ (f : NumberedField). int_eq f.id id) sorted)) fields
owed_by_ids number sorted fields rising same =
    told (λ id. option_and_then number (find (λ (f : NumberedField). int_eq f.id id) sorted)) number sorted fields same (all_told number sorted fields rising same)
