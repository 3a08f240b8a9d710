-- Ranks tell which structs have a finite value.
use Rattle.std.proofs.Common.{◌≡◌, ◌↔◌, ◌⊎◌, inl, inr, ◌<◌, ◌≤◌, ◌+◌, ◌==◌, below_more, ℕ, zero, suc, Bool, true, false, not, Result, Ok, Err, IfOk, List, [], ◌∷◌, map, length, get_or, slice_get, Option, None, Some, refl, ap, sym, ◌∙◌, arith, true≢false}
use mathlib.Core.Bool.{beq}
use Rattle.std.specs.Prelude.{nat_lt, IsTrue, ◌&&◌, ◌||◌}
use Rattle.std.specs.List.{list_all, list_any}
use Rattle.std.specs.Option.{option_map_or}
use Rattle.std.proofs.lemmas.Bool.Decides.{Decides-ltb, not_from_Decides}
use Rattle.std.proofs.lemmas.List.{length-map}
use Rattle.schema.specs.declared.types.FieldDesc.{FieldDesc}
use Rattle.schema.specs.declared.types.StructDesc.{StructDesc}
use Rattle.schema.specs.declared.types.FieldsKind.{FieldsKind}
use Rattle.schema.specs.declared.types.FieldsKind.TheVariants as word
use Rattle.schema.specs.PlainKind.{kind_of}
use Rattle.schema.specs.PlainSchema.{PlainField, PlainStruct, PlainSchema}
use Rattle.schema.specs.SchemaOf.{plain_field, plain_struct}
use Rattle.check_model.specs.FiniteValues.{kind_has, field_allows, has_no_items, fields_have, has_value_within, HasFiniteValue}
use Rattle.check_model.proofs.FirstOnes.{somes, none_some}
use Rattle.check_model.proofs.Finite.{fields_below}
use Rattle.idl_types.proofs.Made.{mapped_at}
use Rattle.schema_bare.specs.Ranks.{unranked, rank_of, is_below, AreRanks}

below : (ranks : List ℕ) (bound n : ℕ) → is_below ranks bound n ≡ true → rank_of ranks n < bound
below ranks bound n e = (Decides-ltb (rank_of ranks n) bound).0 e

tested : (ranks : List ℕ) (bound n : ℕ) → rank_of ranks n < bound → is_below ranks bound n ≡ true
tested ranks bound n l = (Decides-ltb (rank_of ranks n) bound).1 l

in_range : (ranks : List ℕ) (n : ℕ) → rank_of ranks n < unranked → n < length ranks
in_range [] n l = absurd (omega arith)
in_range (r ∷ ranks) zero l = omega arith
in_range (r ∷ ranks) (suc n) l = let rest = in_range ranks n l in omega arith

there : {A : Type 0} (xs : List A) (n : ℕ) → n < length xs → (x : A) × (slice_get xs n ≡ Some x)
there [] n l = absurd (omega arith)
there (x ∷ xs) zero l = (x, refl)
there (x ∷ xs) (suc n) l = there xs n (omega arith)

module _ (schema : PlainSchema) (ranks : List ℕ) (are : AreRanks schema.structs ranks) where
  ranked_has : (m number : ℕ) → rank_of ranks number < m → rank_of ranks number < unranked → has_value_within schema m number ≡ true
  unfolding has_value_within
  ranked_has zero number l ranked = absurd (omega arith)
  ranked_has (suc m) number l ranked =
      let inside = in_range ranks number ranked in
      let few = are.within in
      let s = there schema.structs number (omega arith) in
      ap (λ (o : Option PlainStruct). option_map_or (λ (s : PlainStruct). fields_have (has_value_within schema m) s.kind s.fields) o false) s.1
      ∙ fields_below (is_below ranks (rank_of ranks number)) (has_value_within schema m)
      (λ n e. let lower = below ranks (rank_of ranks number) n e in ranked_has m n (omega arith) (omega arith))
      s.0.kind s.0.fields (are.tell number s.0 s.1 ∙ tested ranks unranked number ranked)

  -- a struct that has a value is ranked, where those are that have one a level less deep
  settled : (m number : ℕ) → ((n : ℕ) → has_value_within schema m n ≡ true → rank_of ranks n < unranked) → (o : Option PlainStruct) → slice_get schema.structs number ≡ o
      → option_map_or (λ (s : PlainStruct). fields_have (has_value_within schema m) s.kind s.fields) o false ≡ true
      → (b : Bool) → is_below ranks unranked number ≡ b → rank_of ranks number < unranked
  settled m number deeper None at e b is = absurd (true≢false (sym e))
  settled m number deeper (Some s) at e true is = below ranks unranked number is
  settled m number deeper (Some s) at e false is =
      let high : rank_of ranks number < unranked → ⊥ = not_from_Decides (is_below ranks unranked number) (Decides-ltb (rank_of ranks number) unranked) is in
      below ranks unranked number
      (sym (are.tell number s at)
      ∙ fields_below (has_value_within schema m) (is_below ranks (rank_of ranks number))
      (λ n f. let low = deeper n f in tested ranks (rank_of ranks number) n (omega arith)) s.kind s.fields e)

  has_ranked : (m number : ℕ) → has_value_within schema m number ≡ true → rank_of ranks number < unranked
  unfolding has_value_within
  has_ranked zero number e = absurd (true≢false (sym e))
  has_ranked (suc m) number e = settled m number (has_ranked m) (slice_get schema.structs number) refl e (is_below ranks unranked number) refl

  pub ranks_tell : (number : ℕ) → IsTrue (is_below ranks unranked number) ↔ HasFiniteValue schema number
  ranks_tell number = (
    (λ t. (suc (rank_of ranks number), ranked_has (suc (rank_of ranks number)) number (omega arith) (below ranks unranked number t))),
    (λ h. tested ranks unranked number (has_ranked h.0 number h.1)),
  )

-- marks of all ranks
pub marked : (ranks : List ℕ) (number : ℕ) → get_or (map (λ r. nat_lt r unranked) ranks) number false ≡ is_below ranks unranked number
marked [] number = refl
marked (r ∷ ranks) zero = refl
marked (r ∷ ranks) (suc number) = marked ranks number

-- ---- the check of ranks

-- ranks tell of the structs below this number
abbrev pub AreToldBelow : List PlainStruct → List ℕ → ℕ → Type 0
AreToldBelow structs ranks count = (number : ℕ) → number < count → (s : PlainStruct) → slice_get structs number ≡ Some s
    → fields_have (is_below ranks (rank_of ranks number)) s.kind s.fields ≡ is_below ranks unranked number

pub told_next : (structs : List StructDesc) (ranks : List ℕ) (i : ℕ) (x : StructDesc) → x ≡ get_or structs i x → i < length structs
    → fields_have (is_below ranks (rank_of ranks i)) x.kind (map plain_field x.fields) ≡ is_below ranks unranked i
    → AreToldBelow (map plain_struct structs) ranks i → AreToldBelow (map plain_struct structs) ranks (i + 1)
told_next structs ranks i x here l own so_far =
    let P : ℕ → Type 0 = λ number. (s : PlainStruct) → slice_get (map plain_struct structs) number ≡ Some s
    → fields_have (is_below ranks (rank_of ranks number)) s.kind s.fields ≡ is_below ranks unranked number in
    below_more P i so_far
    (λ s at.
    let same : s ≡ plain_struct x = somes s (plain_struct x) (sym at ∙ mapped_at plain_struct structs i x l here) in
    ap (λ (t : PlainStruct). fields_have (is_below ranks (rank_of ranks i)) t.kind t.fields) same ∙ own)

got_within : {A : Type 0} (xs : List A) (n : ℕ) (x : A) → slice_get xs n ≡ Some x → n < length xs
got_within [] n x e = absurd (none_some x e)
got_within (y ∷ xs) zero x e = omega arith
got_within (y ∷ xs) (suc n) x e = let rest = got_within xs n x e in omega arith

pub all_told : (structs : List StructDesc) (ranks : List ℕ) (n : ℕ) → length structs ≤ n → AreToldBelow (map plain_struct structs) ranks n
    → (number : ℕ) (s : PlainStruct) → slice_get (map plain_struct structs) number ≡ Some s
    → fields_have (is_below ranks (rank_of ranks number)) s.kind s.fields ≡ is_below ranks unranked number
all_told structs ranks n past so_far number s at =
    let inside : number < length (map plain_struct structs) = got_within (map plain_struct structs) number s at in
    let so_many : length (map plain_struct structs) ≡ length structs = length-map structs plain_struct in
    so_far number (omega arith) s at

pub not_empty : (fields : List FieldDesc) (a b : Bool) → (length fields == 0) ≡ false → a ≡ b → a ≡ (has_no_items fields || b)
not_empty [] a b e same = absurd (true≢false e)
not_empty (f ∷ fields) a b e same = same

any_mapped : (has : ℕ → Bool) (fields : List FieldDesc)
    → list_any (λ (f : FieldDesc). kind_has has (kind_of f.kind)) fields ≡ list_any (λ (f : PlainField). kind_has has f.kind) (map plain_field fields)
any_mapped has [] = refl
any_mapped has (f ∷ fields) = ap (λ b. kind_has has (kind_of f.kind) || b) (any_mapped has fields)

some_mapped : (has : ℕ → Bool) (fields : List FieldDesc)
    → (has_no_items fields || list_any (λ (f : FieldDesc). kind_has has (kind_of f.kind)) fields) ≡ fields_have has word.Union (map plain_field fields)
some_mapped has [] = refl
some_mapped has (f ∷ fields) = any_mapped has (f ∷ fields)

all_mapped : (has : ℕ → Bool) (fields : List FieldDesc)
    → list_all (λ (f : FieldDesc). field_allows has f.need (kind_of f.kind)) fields ≡ list_all (λ (f : PlainField). field_allows has f.need f.kind) (map plain_field fields)
all_mapped has [] = refl
all_mapped has (f ∷ fields) = ap (λ b. field_allows has f.need (kind_of f.kind) && b) (all_mapped has fields)

-- what a union has, and what another list of fields has
pub of_union : (has : ℕ → Bool) (k : FieldsKind) (fields : List FieldDesc) (b : Bool) → k ≡ word.Union
    → b ≡ (has_no_items fields || list_any (λ (f : FieldDesc). kind_has has (kind_of f.kind)) fields) → b ≡ fields_have has k (map plain_field fields)
of_union has k fields b is e = e ∙ some_mapped has fields ∙ ap (λ j. fields_have has j (map plain_field fields)) (sym is)

pub of_others : (has : ℕ → Bool) (k : FieldsKind) (fields : List FieldDesc) (b : Bool) → (k ≡ word.Struct) ⊎ ((k ≡ word.Exception) ⊎ (k ≡ word.Args))
    → b ≡ list_all (λ (f : FieldDesc). field_allows has f.need (kind_of f.kind)) fields → b ≡ fields_have has k (map plain_field fields)
of_others has k fields b (inl is) e = e ∙ all_mapped has fields ∙ ap (λ j. fields_have has j (map plain_field fields)) (sym is)
of_others has k fields b (inr (inl is)) e = e ∙ all_mapped has fields ∙ ap (λ j. fields_have has j (map plain_field fields)) (sym is)
of_others has k fields b (inr (inr is)) e = e ∙ all_mapped has fields ∙ ap (λ j. fields_have has j (map plain_field fields)) (sym is)

-- a rank that the check takes
pub told_here : (ranks : List ℕ) (i rank : ℕ) (x : StructDesc) (has : Bool) → rank ≡ rank_of ranks i
    → has ≡ fields_have (is_below ranks rank) x.kind (map plain_field x.fields) → not (beq has (nat_lt rank unranked)) ≡ false
    → fields_have (is_below ranks (rank_of ranks i)) x.kind (map plain_field x.fields) ≡ is_below ranks unranked i
told_here ranks i rank x has is own taken =
    ap (λ r. fields_have (is_below ranks r) x.kind (map plain_field x.fields)) (sym is)
    ∙ sym own
    ∙ alike has (nat_lt rank unranked) taken
    ∙ ap (λ r. nat_lt r unranked) is
  where
    alike : (a b : Bool) → not (beq a b) ≡ false → a ≡ b
    alike true true e = refl
    alike true false e = absurd (true≢false e)
    alike false true e = absurd (true≢false e)
    alike false false e = refl

-- what holds of what was made, if it was
pub if_made : {A E : Type 0} (r : Result A E) (P Q : A → Type 0) → IfOk r P → ((x : A) → P x → Q x) → IfOk r Q
if_made (Ok x) P Q h then_so = then_so x h
if_made (Err e) P Q h then_so = tt

-- which structs have a finite value, where ranks are right
pub finite_told : (schema : PlainSchema) (ranks : List ℕ) (finite : List Bool) → AreRanks schema.structs ranks → finite ≡ map (λ r. nat_lt r unranked) ranks
    → (number : ℕ) → IsTrue (get_or finite number false) ↔ HasFiniteValue schema number
finite_told schema ranks finite are is number =
    let same : get_or finite number false ≡ is_below ranks unranked number = ap (λ (bs : List Bool). get_or bs number false) is ∙ marked ranks number in
    let tells = ranks_tell schema ranks are number in
    ((λ t. tells.0 (sym same ∙ t)), (λ h. same ∙ tells.1 h))
