-- The fields of a struct that was written, as another struct reads them.
use Rattle.std.proofs.Common.{◌≡◌, ℕ, suc, ℤ, Bool, true, false, cond, List, [], ◌∷◌, length, Option, Some, None, Ok, Err, refl, sym, ap, ap₂, subst, ◌∙◌}
use Rattle.std.specs.Prelude.{⊤, MatchOption, ◌&&◌, ◌==◌, not, is_some}
use Rattle.std.specs.Ordering.{int_eq}
use Rattle.std.proofs.lemmas.Bool.{false≢true}
use Rattle.thrift_value.specs.Plain.{plain, plain_fields}
use Rattle.thrift_value.specs.Tidy.{IsBelowIds, AreRisingFields}
use Rattle.thrift_value.specs.Tree.{Tree, of_struct, FieldTrees, no_fields, field}
use Rattle.thrift_value.specs.TreeOf.{field_trees}
use Rattle.schema.specs.declared.types.FieldNeed.TheVariants as need
use Rattle.schema.specs.declared.types.FieldsKind.{FieldsKind}
use Rattle.schema.specs.PlainKind.{PlainKind}
use Rattle.schema.specs.PlainSchema.{PlainField, PlainStruct}
use Rattle.schema.specs.WrittenAs.{field_with_id, HasFieldTree}
use Rattle.struct_skew.specs.declared.fault.SkewFault.TheVariants.{Missing, UnionFields}
use Rattle.struct_skew.specs.Fits.{fits_kind}
use Rattle.struct_skew.specs.Offers.{Offer, last_offer, last_offer_behind}
use Rattle.struct_skew.specs.Projection.{is_required, is_union, counted_default, unsent_value, field_value, field_values, checked_struct, struct_value, meaning_of, offers_of}
use Rattle.struct_skew.specs.Results.{with_value, and_if_ok, with_field_value}
use Rattle.struct_skew.specs.Unions.{one_of_union}
use Rattle.struct_skew.proofs.Deciding.{required_need}
use Rattle.struct_skew.proofs.Each.{Each}
use Rattle.struct_skew.proofs.FieldValues.{checked_alike}
use Rattle.struct_skew.proofs.Rightness.{IsBelowDeclared, AreRisingDeclared, each_found}
use Rattle.compat_model.specs.KeptValues.{value_under_id, IsKeptUnder, AreFieldsKeptUnder}
use Rattle.compat_model.proofs.Values.{same_id, ids_turned, low_id, no_value, has_value, AreAmong, among_themselves}

-- what is read of a value under a type
pub record Reading (structs : List PlainStruct) (Strict : Type 0) (kind : PlainKind) (v : Tree) : Type 0 where
  pub value : Tree
  pub means : meaning_of structs (plain v) kind ≡ Ok value
  pub kept : Strict → IsKeptUnder structs kind v value

-- a field of a declared type is read, since it fits it
pub record FieldReading (structs : List PlainStruct) (Strict : Type 0) (kind : PlainKind) (v : Tree) : Type 0 where
  pub fits : fits_kind kind (plain v) ≡ true
  pub read : Reading structs Strict kind v

-- the same of each field whose id is declared
abbrev pub AreRead : List PlainStruct → Type 0 → List PlainField → FieldTrees → Type 0
AreRead structs Strict declared no_fields = ⊤
AreRead structs Strict declared (field id v more) =
    MatchOption (field_with_id id declared) ⊤ (λ (g : PlainField). FieldReading structs Strict g.kind v) × AreRead structs Strict declared more

-- what was said of the fields is said of each
read_under : (structs : List PlainStruct) (Strict : Type 0) (declared : List PlainField) (g : PlainField) (v : Tree) (fields : FieldTrees)
    → field_with_id g.id declared ≡ Some g → value_under_id g.id fields ≡ Some v → AreRead structs Strict declared fields → FieldReading structs Strict g.kind v
read_under structs Strict declared g v no_fields finds there read = absurd cc
read_under structs Strict declared g v (field id u more) finds there read = by_test (int_eq id g.id) refl (λ behind. read_under structs Strict declared g v more finds behind read.1)
  where
    by_test : (b : Bool) → int_eq id g.id ≡ b → (value_under_id g.id more ≡ Some v → FieldReading structs Strict g.kind v) → FieldReading structs Strict g.kind v
    by_test true e rest =
        let some : Some u ≡ Some v = sym (ap (λ t. cond t (Some u) (value_under_id g.id more)) e) ∙ there in
        let same : u ≡ v = cc in
        let found : field_with_id id declared ≡ Some g = ap (λ i. field_with_id i declared) (same_id id g.id e) ∙ finds in
        subst (FieldReading structs Strict g.kind) same (subst (λ o. MatchOption o ⊤ (λ (f : PlainField). FieldReading structs Strict f.kind u)) found read.0)
    by_test false e rest = rest (sym (ap (λ t. cond t (Some u) (value_under_id g.id more)) e) ∙ there)

-- how many declared fields were sent
abbrev pub sent_of : List PlainField → FieldTrees → ℕ
sent_of [] sent = 0
sent_of (f ∷ fs) sent = cond (is_some (value_under_id f.id sent)) (suc (sent_of fs sent)) (sent_of fs sent)

module _ (structs : List PlainStruct) (g : PlainField) where
  abbrev plain_offer : ℤ → Tree → Offer
  plain_offer id v = record { id = id; value = plain v; meaning = meaning_of structs (plain v) }

  abbrev last_behind : Option Offer → FieldTrees → Option Offer
  last_behind before fields = last_offer_behind g before (offers_of structs (plain_fields fields))

  -- one field more
  abbrev behind_one : Bool → Bool → Option Offer → ℤ → Tree → FieldTrees → Option Offer
  behind_one a b before id v more = last_behind (cond (a && b) (Some (plain_offer id v)) before) more

  -- what isn't there isn't offered
  not_offered : (before : Option Offer) (fields : FieldTrees) → value_under_id g.id fields ≡ None → last_behind before fields ≡ before
  not_offered before no_fields none = refl
  not_offered before (field id v more) none = by_test (int_eq id g.id) refl (not_offered before more)
    where
      by_test : (b : Bool) → int_eq id g.id ≡ b → (value_under_id g.id more ≡ None → last_behind before more ≡ before) → last_behind before (field id v more) ≡ before
      by_test true e rest = let some : Some v ≡ None = sym (ap (λ t. cond t (Some v) (value_under_id g.id more)) e) ∙ none in absurd cc
      by_test false e rest =
          ap (λ b. behind_one b (fits_kind g.kind (plain v)) before id v more) (ids_turned id g.id false e)
          ∙ rest (sym (ap (λ t. cond t (Some v) (value_under_id g.id more)) e) ∙ none)

  -- what is there, and fits, is offered
  is_offered : (which : ℕ) (kind : FieldsKind) (before : Option Offer) (fields : FieldTrees) (v : Tree) → AreRisingFields fields → value_under_id g.id fields ≡ Some v
      → fits_kind g.kind (plain v) ≡ true → field_value which kind g (last_behind before fields) ≡ with_value Some (meaning_of structs (plain v) g.kind)
  is_offered which kind before no_fields v rising there fits = absurd cc
  is_offered which kind before (field id u more) v rising there fits =
      by_test (int_eq id g.id) refl (λ behind. is_offered which kind before more v rising.1 behind fits)
    where
      by_test : (b : Bool) → int_eq id g.id ≡ b
          → (value_under_id g.id more ≡ Some v → field_value which kind g (last_behind before more) ≡ with_value Some (meaning_of structs (plain v) g.kind))
          → field_value which kind g (last_behind before (field id u more)) ≡ with_value Some (meaning_of structs (plain v) g.kind)
      by_test true e rest =
          let some : Some u ≡ Some v = sym (ap (λ t. cond t (Some u) (value_under_id g.id more)) e) ∙ there in
          let same : u ≡ v = cc in
          let fit : fits_kind g.kind (plain u) ≡ true = ap (λ x. fits_kind g.kind (plain x)) same ∙ fits in
          let none : value_under_id g.id more ≡ None = no_value g.id more (subst (λ i. IsBelowIds i more) (same_id id g.id e) rising.0) in
          ap (λ b. field_value which kind g (behind_one b (fits_kind g.kind (plain u)) before id u more)) (ids_turned id g.id true e)
          ∙ ap (λ b. field_value which kind g (behind_one true b before id u more)) fit
          ∙ ap (field_value which kind g) (not_offered (Some (plain_offer id u)) more none)
          ∙ ap (λ x. with_value Some (meaning_of structs (plain x) g.kind)) same
      by_test false e rest =
          ap (λ b. field_value which kind g (behind_one b (fits_kind g.kind (plain u)) before id u more)) (ids_turned id g.id false e)
          ∙ rest (sym (ap (λ t. cond t (Some u) (value_under_id g.id more)) e) ∙ there)

-- a struct's declared fields, each of which has to be there only where it is
module _ (structs : List PlainStruct) (Strict : Type 0) (which : ℕ) (e : PlainStruct) (declared_rise : AreRisingDeclared e.fields) (fields : FieldTrees) (rising : AreRisingFields fields)
    (read : AreRead structs Strict e.fields fields) (required : (g : PlainField) → field_with_id g.id e.fields ≡ Some g → g.need ≡ need.Required → HasFieldTree g.id fields) where
  abbrev offers : List Offer
  offers = offers_of structs (plain_fields fields)

  -- what is found for a declared field
  record FieldFound (g : PlainField) : Type 0 where
    found : Option Tree
    is : field_value which e.kind g (last_offer g offers) ≡ Ok found
    kept : (v : Tree) → value_under_id g.id fields ≡ Some v → Strict → MatchOption found ⊥ (IsKeptUnder structs g.kind v)
    counts : is_union e.kind ≡ true → is_some found ≡ is_some (value_under_id g.id fields)

  unsent_found : (g : PlainField) → (is_required g.need ≡ true → ⊥) → value_under_id g.id fields ≡ None → FieldFound g
  unsent_found g free none = by_need (is_required g.need) refl
    where
      is_unsent : field_value which e.kind g (last_offer g offers) ≡ unsent_value which e.kind g
      is_unsent = ap (field_value which e.kind g) (not_offered structs g None fields none)

      by_need : (b : Bool) → is_required g.need ≡ b → FieldFound g
      by_need true h = absurd (free h)
      by_need false h = record {
        found = counted_default e.kind g;
        is = is_unsent ∙ ap (λ b. cond b (Err (Missing which g.id)) (Ok (counted_default e.kind g))) h;
        kept = λ v there. let never : None ≡ Some v = sym none ∙ there in absurd cc;
        counts = λ union. ap is_some (ap (λ b. cond b None g.default) union ∙ sym none);
      }

  sent_found : (g : PlainField) (v : Tree) → FieldReading structs Strict g.kind v → value_under_id g.id fields ≡ Some v → FieldFound g
  sent_found g v reading there = record {
    found = Some reading.read.value;
    is = is_offered structs g which e.kind None fields v rising there reading.fits ∙ ap (with_value Some) reading.read.means;
    kept =
        λ u here strict.
        let some : Some v ≡ Some u = sym there ∙ here in
        let same : v ≡ u = cc in
        subst (λ x. IsKeptUnder structs g.kind x reading.read.value) same (reading.read.kept strict);
    counts = λ union. ap is_some (sym there);
  }

  field_found : (g : PlainField) → field_with_id g.id e.fields ≡ Some g → FieldFound g
  field_found g finds = by_value (value_under_id g.id fields) refl
    where
      by_value : (o : Option Tree) → value_under_id g.id fields ≡ o → FieldFound g
      by_value None is = unsent_found g (λ h. has_value g.id fields (required g finds ((required_need g.need).0 h)) is) is
      by_value (Some v) is = sent_found g v (read_under structs Strict e.fields g v fields finds is read) is

  -- what is found for declared fields
  record AllFound (fs : List PlainField) : Type 0 where
    found : List (ℤ × Tree)
    are : field_values which e.kind fs offers ≡ Ok found
    kept : (id : ℤ) (g : PlainField) (v : Tree) → field_with_id id fs ≡ Some g → value_under_id id fields ≡ Some v → Strict
        → MatchOption (value_under_id id (field_trees found)) ⊥ (IsKeptUnder structs g.kind v)
    count : is_union e.kind ≡ true → length found ≡ sent_of fs fields

  with_one : (f : PlainField) (fs : List PlainField) → FieldFound f → AllFound fs → AllFound (f ∷ fs)
  with_one f fs one rest = by_value one.found refl
    where
      of_rest : (id : ℤ) (g : PlainField) → int_eq f.id id ≡ false → field_with_id id (f ∷ fs) ≡ Some g → field_with_id id fs ≡ Some g
      of_rest id g off finds = sym (ap (λ b. cond b (Some f) (field_with_id id fs)) off) ∙ finds

      of_first : (id : ℤ) (g : PlainField) → int_eq f.id id ≡ true → field_with_id id (f ∷ fs) ≡ Some g → f ≡ g
      of_first id g on finds = let some : Some f ≡ Some g = sym (ap (λ b. cond b (Some f) (field_with_id id fs)) on) ∙ finds in cc

      first_kept : (id : ℤ) (g : PlainField) (v : Tree) → int_eq f.id id ≡ true → field_with_id id (f ∷ fs) ≡ Some g → value_under_id id fields ≡ Some v → Strict
          → MatchOption one.found ⊥ (IsKeptUnder structs g.kind v)
      first_kept id g v on finds there strict =
          subst (λ (x : PlainField). MatchOption one.found ⊥ (IsKeptUnder structs x.kind v)) (of_first id g on finds)
          (one.kept v (ap (λ i. value_under_id i fields) (same_id f.id id on) ∙ there) strict)

      by_value : (o : Option Tree) → one.found ≡ o → AllFound (f ∷ fs)
      by_value None is = record {
        found = rest.found;
        are = ap₂ (with_field_value f.id) (one.is ∙ ap Ok is) rest.are;
        kept = λ id g v finds there strict. by_test id g v finds there strict (int_eq f.id id) refl;
        count = λ union. rest.count union ∙ ap (λ b. cond b (suc (sent_of fs fields)) (sent_of fs fields)) (sym (ap is_some is) ∙ one.counts union);
      }
        where
          by_test : (id : ℤ) (g : PlainField) (v : Tree) → field_with_id id (f ∷ fs) ≡ Some g → value_under_id id fields ≡ Some v → Strict → (b : Bool) → int_eq f.id id ≡ b
              → MatchOption (value_under_id id (field_trees rest.found)) ⊥ (IsKeptUnder structs g.kind v)
          by_test id g v finds there strict true on =
              absurd (subst (λ o. MatchOption o ⊥ (IsKeptUnder structs g.kind v)) is (first_kept id g v on finds there strict))
          by_test id g v finds there strict false off = rest.kept id g v (of_rest id g off finds) there strict
      by_value (Some w) is = record {
        found = (f.id, w) ∷ rest.found;
        are = ap₂ (with_field_value f.id) (one.is ∙ ap Ok is) rest.are;
        kept = λ id g v finds there strict. by_test id g v finds there strict (int_eq f.id id) refl;
        count = λ union. ap suc (rest.count union) ∙ ap (λ b. cond b (suc (sent_of fs fields)) (sent_of fs fields)) (sym (ap is_some is) ∙ one.counts union);
      }
        where
          by_test : (id : ℤ) (g : PlainField) (v : Tree) → field_with_id id (f ∷ fs) ≡ Some g → value_under_id id fields ≡ Some v → Strict → (b : Bool) → int_eq f.id id ≡ b
              → MatchOption (value_under_id id (field_trees ((f.id, w) ∷ rest.found))) ⊥ (IsKeptUnder structs g.kind v)
          by_test id g v finds there strict true on =
              subst (λ b. MatchOption (cond b (Some w) (value_under_id id (field_trees rest.found))) ⊥ (IsKeptUnder structs g.kind v)) (sym on)
              (subst (λ o. MatchOption o ⊥ (IsKeptUnder structs g.kind v)) is (first_kept id g v on finds there strict))
          by_test id g v finds there strict false off =
              subst (λ b. MatchOption (cond b (Some w) (value_under_id id (field_trees rest.found))) ⊥ (IsKeptUnder structs g.kind v)) (sym off)
              (rest.kept id g v (of_rest id g off finds) there strict)

  all_found : (fs : List PlainField) → Each (λ (f : PlainField). field_with_id f.id e.fields ≡ Some f) fs → AllFound fs
  all_found [] each = record { found = []; are = refl; kept = λ id g v finds. absurd cc; count = λ union. refl }
  all_found (f ∷ fs) each = with_one f fs (field_found f each.0) (all_found fs each.1)

  -- each field that is declared is kept
  fields_kept : Strict → (found : AllFound e.fields) → (rest : FieldTrees) → AreAmong fields rest → AreFieldsKeptUnder structs e.fields rest (field_trees found.found)
  fields_kept strict found no_fields among = tt
  fields_kept strict found (field id v more) among = (by_declared (field_with_id id e.fields) refl, fields_kept strict found more among.1)
    where
      by_declared : (o : Option PlainField) → field_with_id id e.fields ≡ o
          → MatchOption o ⊤ (λ (g : PlainField). MatchOption (value_under_id id (field_trees found.found)) ⊥ (IsKeptUnder structs g.kind v))
      by_declared None is = tt
      by_declared (Some g) is = found.kept id g v is among.0 strict

  -- of a union one field is there
  module _ (one : is_union e.kind ≡ true → sent_of e.fields fields ≡ 1) where
    whole : (found : AllFound e.fields) → one_of_union which e.kind found.found ≡ Ok (of_struct (field_trees found.found))
    whole found = by_kind (is_union e.kind) refl
      where
        by_kind : (u : Bool) → is_union e.kind ≡ u
            → cond (u && not (length found.found == 1)) (Err (UnionFields which)) (Ok (of_struct (field_trees found.found))) ≡ Ok (of_struct (field_trees found.found))
        by_kind true h =
            ap (λ n. cond (not (n == 1)) (Err (UnionFields which)) (Ok (of_struct (field_trees found.found)))) (found.count h ∙ one h)
        by_kind false h = refl

    -- what is read of a struct, of which each declared field is kept
    pub record StructReading : Type 0 where
      pub value : FieldTrees
      pub means : struct_value which (Some e) offers ≡ Ok (of_struct value)
      pub kept : Strict → AreFieldsKeptUnder structs e.fields fields value

    pub struct_read : StructReading
    struct_read =
        let all = all_found e.fields (each_found e.fields declared_rise) in record {
          value = field_trees all.found;
          means =
              ap (λ r. and_if_ok r (checked_struct which e offers)) all.are ∙ checked_alike which e offers all.found all.are ∙ whole all;
          kept = λ strict. fields_kept strict all fields (among_themselves fields rising);
        }

-- of one field, one is sent where its id is declared
none_sent : (id : ℤ) (v : Tree) (fs : List PlainField) → IsBelowDeclared id fs → sent_of fs (field id v no_fields) ≡ 0
none_sent id v [] below = refl
none_sent id v (f ∷ fs) below =
    ap (λ b. cond (is_some (cond b (Some v) None)) (suc (sent_of fs (field id v no_fields))) (sent_of fs (field id v no_fields))) (low_id id f.id below.0) ∙ none_sent id v fs below.1

pub one_sent : (id : ℤ) (v : Tree) (fs : List PlainField) → AreRisingDeclared fs → is_some (field_with_id id fs) ≡ true → sent_of fs (field id v no_fields) ≡ 1
one_sent id v [] rising there = absurd (false≢true there)
one_sent id v (f ∷ fs) rising there = by_test (int_eq f.id id) refl (one_sent id v fs rising.1)
  where
    by_test : (b : Bool) → int_eq f.id id ≡ b → (is_some (field_with_id id fs) ≡ true → sent_of fs (field id v no_fields) ≡ 1) → sent_of (f ∷ fs) (field id v no_fields) ≡ 1
    by_test true on rest =
        ap (λ b. cond (is_some (cond b (Some v) None)) (suc (sent_of fs (field id v no_fields))) (sent_of fs (field id v no_fields))) (ids_turned f.id id true on)
        ∙ ap suc (none_sent id v fs (subst (λ i. IsBelowDeclared i fs) (same_id f.id id on) rising.0))
    by_test false off rest =
        ap (λ b. cond (is_some (cond b (Some v) None)) (suc (sent_of fs (field id v no_fields))) (sent_of fs (field id v no_fields))) (ids_turned f.id id false off)
        ∙ rest (sym (ap (λ b. is_some (cond b (Some f) (field_with_id id fs))) off) ∙ there)
