-- The fields of a struct's worth.
use Rattle.std.proofs.Common.{◌≡◌, ℕ, suc, ℤ, ◌≤◌, inl, inr, Bool, true, false, cond, List, [], ◌∷◌, Option, Some, None, refl, sym, ap, ◌∙◌, subst, arith}
use Rattle.std.specs.Prelude.{MatchOption}
use Rattle.std.specs.Option.{option_or, option_map_or}
use Rattle.std.specs.List.{find, AllByRecursion}
use Rattle.std.specs.Ordering.{int_eq}
use Rattle.std.specs.Str.{bytes_eq}
use Rattle.std.proofs.lemmas.Bool.Decides.{Decides-int_eq}
use Rattle.idl_token.specs.declared.Place.{Place}
use Rattle.idl_include.specs.ConstExpr.{ConstExpr, int_const, double_const, literal_const, name_const, list_const, map_const}
use Rattle.thrift_value.specs.Tree.{Tree, FieldTrees, no_fields, field}
use Rattle.thrift_value.specs.Tidy.{IsBelowIds, AreRisingFields}
use Rattle.schema.specs.declared.types.FieldNeed.{FieldNeed}
use Rattle.schema.specs.declared.types.FieldNeed.TheVariants.{Required, Default, Optional}
use Rattle.schema.specs.PlainKind.{PlainKind}
use Rattle.schema.specs.PlainSchema.{PlainField, PlainStruct, PlainSchema}
use Rattle.schema.specs.Sound.{IsKindIn}
use Rattle.schema.specs.WrittenAs.{field_with_id, HasFieldTree, IsOneField}
use Rattle.check_model.specs.Worths.{valued, flawed, and_next, seen_at, wrong_kind, unknown_field, missing_field}
use Rattle.check_model.specs.Evaluation.{NamedWorth, FieldValue, field_of_key, last_given, with_field, missing_worth, default_worth, field_worth, fields_worth, union_worth}
use Rattle.idl_const.proofs.Inverting.{same_valued, no_flaw, seen_valued, next_valued}
use Rattle.idl_const.proofs.Elements.{IsElement, EachField}
use Rattle.idl_const.proofs.DeclaredFields.{IsAmong, IsBelowAll, AreRising, found_among, IsDeclared}

-- what was made of a value, behind so many values and before so many
pub record IsMade (structs : List PlainStruct) (kind : PlainKind) (levels count : ℕ) (value : Tree) (n : ℕ) : Type 0 where
  pub element : IsElement structs kind levels value
  pub more : suc count ≤ n
  pub most : n ≤ 4000000

-- how many values there are behind others
pub record IsBehind (count n : ℕ) : Type 0 where
  pub no_fewer : count ≤ n
  pub most : count ≤ 4000000 → n ≤ 4000000

-- given values come to values of their types
abbrev pub AreMade : PlainSchema → NamedWorth → Type 0
AreMade schema named = (which : ℕ) (kind : PlainKind) (levels count : ℕ) (value : Tree) (n : ℕ)
    → IsKindIn schema kind → named which kind levels count ≡ valued value n → IsMade schema.structs kind levels count value n

module _ (schema : PlainSchema) (items : List PlainField) (levels : ℕ) where
  -- a value that is given is one of its field's type
  pub record IsGiven (v : FieldValue) : Type 0 where
    pub field : PlainField
    pub found : field_with_id v.id items ≡ Some field
    pub element : IsElement schema.structs field.kind levels v.value

  -- a value of the field of an id
  abbrev pub IsOfField : ℤ → Tree → Type 0
  IsOfField id value = (f : PlainField) × (field_with_id id items ≡ Some f) × IsElement schema.structs f.kind levels value

  -- what was given last
  last_by : (b : Bool) (id : ℤ) (v : FieldValue) (rest : Option Tree) (value : Tree) → int_eq v.id id ≡ b → IsGiven v → (rest ≡ Some value → IsOfField id value)
      → option_or rest (cond b (Some v.value) None) ≡ Some value → IsOfField id value
  last_by b id v (Some other) value is g on e = on e
  last_by true id v None value is g on e =
      let same : v.id ≡ id = (Decides-int_eq v.id id).0 is in
      let it : v.value ≡ value = cc in
      (g.field, ap (λ i. field_with_id i items) (sym same) ∙ g.found, subst (IsElement schema.structs g.field.kind levels) it g.element)
  last_by false id v None value is g on e = cc

  pub last_is : (given : List FieldValue) (id : ℤ) (value : Tree) → AllByRecursion IsGiven given → last_given id given ≡ Some value → IsOfField id value
  last_is [] id value h e = cc
  last_is (v ∷ more) id value h e = last_by (int_eq v.id id) id v (last_given id more) value refl h.0 (last_is more id value h.1) e

  -- a key of a field
  pub record IsKey (f : PlainField) (count n : ℕ) : Type 0 where
    pub among : IsAmong f items
    pub count_is : count ≡ n

  key_by : (o : Option PlainField) (at : Place) (count : ℕ) (f : PlainField) (n : ℕ) → (o ≡ Some f → IsAmong f items)
      → option_map_or (λ (f : PlainField). valued f count) o (flawed at unknown_field) ≡ valued f n → IsKey f count n
  key_by None at count f n on e = absurd (no_flaw at unknown_field f n e)
  key_by (Some g) at count f n on e = record { among = on (ap Some (same_valued g f count n e).0); count_is = (same_valued g f count n e).1 }

  pub key_is : (count : ℕ) (key : ConstExpr) (f : PlainField) (n : ℕ) → field_of_key items count key ≡ valued f n → IsKey f count n
  key_is count (literal_const name) f n e =
      key_by (find (λ (f : PlainField). bytes_eq f.name name.text) items) name.at count f n (found_among (λ (f : PlainField). bytes_eq f.name name.text) items f) e
  key_is count (int_const _ at) f n e = absurd (no_flaw at wrong_kind f n e)
  key_is count (double_const digits) f n e = absurd (no_flaw digits.at wrong_kind f n e)
  key_is count (name_const name) f n e = absurd (no_flaw name.at wrong_kind f n e)
  key_is count (list_const at _) f n e = absurd (no_flaw at wrong_kind f n e)
  key_is count (map_const at _) f n e = absurd (no_flaw at wrong_kind f n e)

  -- what became of a field: a value of its type, or none, which it may have
  pub record IsFieldMade (f : PlainField) (count : ℕ) (value : Option Tree) (n : ℕ) : Type 0 where
    pub element : MatchOption value (f.need ≡ Required → ⊥) (IsElement schema.structs f.kind levels)
    pub behind : IsBehind count n

  may_miss : (need : FieldNeed) (at : Place) (count : ℕ) (value : Option Tree) (n : ℕ) → missing_worth at count need ≡ valued value n
      → (None ≡ value) × (need ≡ Required → ⊥) × (count ≡ n)
  may_miss Required at count value n e = absurd (no_flaw at missing_field value n e)
  may_miss Default at count value n e = ((same_valued None value count n e).0, (λ is. cc), (same_valued None value count n e).1)
  may_miss Optional at count value n e = ((same_valued None value count n e).0, (λ is. cc), (same_valued None value count n e).1)

  default_made : (named : NamedWorth) → AreMade schema named → (at : Place) (count : ℕ) (f : PlainField) (default : Option ℕ) (value : Option Tree) (n : ℕ) → IsKindIn schema f.kind
      → default_worth named at levels count f default ≡ valued value n → IsFieldMade f count value n
  default_made named are at count f None value n kind e =
      let miss = may_miss f.need at count value n e in
      record {
        element = subst (λ v. MatchOption v (f.need ≡ Required → ⊥) (IsElement schema.structs f.kind levels)) miss.0 miss.1;
        behind = record { no_fewer = omega (arith, miss.2); most = λ m. omega (arith, m, miss.2) };
      }
  default_made named are at count f (Some which) value n kind e =
      let came = next_valued (seen_at at (named which f.kind levels count)) (λ value n. valued (Some value) n) value n e in
      let made = are which f.kind levels count came.first came.between kind (seen_valued at (named which f.kind levels count) came.first came.between came.before) in
      let same = same_valued (Some came.first) value came.between n came.behind in
      record {
        element = subst (λ v. MatchOption v (f.need ≡ Required → ⊥) (IsElement schema.structs f.kind levels)) same.0 made.element;
        behind = record { no_fewer = omega (arith, made.more, same.1); most = λ m. omega (arith, made.most, same.1) };
      }

  given_made : (f : PlainField) (value : Tree) → field_with_id f.id items ≡ Some f → IsOfField f.id value → IsElement schema.structs f.kind levels value
  given_made f value found it =
      let same : it.0 ≡ f = (let both : Some it.0 ≡ Some f = sym it.1 ∙ found in cc) in
      subst (λ (g : PlainField). IsElement schema.structs g.kind levels value) same it.2

  field_made : (named : NamedWorth) → AreMade schema named → (at : Place) (count : ℕ) (f : PlainField) (default : Option ℕ) (last : Option Tree) (value : Option Tree) (n : ℕ)
      → IsDeclared schema items f → ((v : Tree) → last ≡ Some v → IsOfField f.id v)
      → field_worth named at levels count f default last ≡ valued value n → IsFieldMade f count value n
  field_made named are at count f default None value n declared on e = default_made named are at count f default value n declared.kind e
  field_made named are at count f default (Some v) value n declared on e =
      let same = same_valued (Some v) value count n e in
      record {
        element = subst (λ v. MatchOption v (f.need ≡ Required → ⊥) (IsElement schema.structs f.kind levels)) same.0 (given_made f v declared.found (on v refl));
        behind = record { no_fewer = omega (arith, same.1); most = λ m. omega (arith, m, same.1) };
      }

  -- each field that has to be there is
  abbrev pub AreThere : List PlainField → FieldTrees → Type 0
  AreThere fs made = AllByRecursion (λ (f : PlainField). f.need ≡ Required → HasFieldTree f.id made) fs

  -- the fields that were made of some
  pub record AreFieldsMade (fs : List PlainField) (made : FieldTrees) : Type 0 where
    pub each : EachField schema.structs items levels made
    pub rising : AreRisingFields made
    pub below : (id : ℤ) → IsBelowAll id fs → IsBelowIds id made
    pub there : AreThere fs made

  there_behind : (fs : List PlainField) (id : ℤ) (value : Tree) (made : FieldTrees) → AreThere fs made → AreThere fs (field id value made)
  there_behind [] id value made h = tt
  there_behind (f ∷ more) id value made h = ((λ need. inr (h.0 need)), there_behind more id value made h.1)

  one_more_made : (f : PlainField) (more : List PlainField) (value : Option Tree) (rest : FieldTrees) → IsBelowAll f.id more → IsDeclared schema items f
      → MatchOption value (f.need ≡ Required → ⊥) (IsElement schema.structs f.kind levels) → AreFieldsMade more rest → AreFieldsMade (f ∷ more) (with_field f.id value rest)
  one_more_made f more None rest below declared may h = record {
    each = h.each;
    rising = h.rising;
    below = λ id b. h.below id b.1;
    there = ((λ need. absurd (may need)), h.there);
  }
  one_more_made f more (Some value) rest below declared is h = record {
    each = ((f, declared.found, is), h.each);
    rising = (h.below f.id below, h.rising);
    below = λ id b. (b.0, h.below id b.1);
    there = ((λ need. inl refl), there_behind more f.id value rest h.there);
  }

  pub fields_made : (named : NamedWorth) → AreMade schema named → (default : ℤ → Option ℕ) (given : List FieldValue) → AllByRecursion IsGiven given → (at : Place) (count : ℕ) (fs : List PlainField)
      → AreRising fs → AllByRecursion (IsDeclared schema items) fs → (made : FieldTrees) (n : ℕ) → fields_worth named default given at levels count fs ≡ valued made n
      → AreFieldsMade fs made × IsBehind count n
  fields_made named are default given all at count [] rising declared made n e =
      let same = same_valued no_fields made count n e in
      let none : AreFieldsMade [] no_fields = record { each = tt; rising = tt; below = (λ id b. tt); there = tt } in
      (subst (AreFieldsMade []) same.0 none, record { no_fewer = omega (arith, same.1); most = λ m. omega (arith, m, same.1) })
  fields_made named are default given all at count (f ∷ more) rising declared made n e =
      let first = next_valued (field_worth named at levels count f (default f.id) (last_given f.id given)) (λ value n. and_next (fields_worth named default given at levels n more) (λ rest m. valued (with_field f.id value rest) m)) made n e in
      let second = next_valued (fields_worth named default given at levels first.between more) (λ rest m. valued (with_field f.id first.first rest) m) made n first.behind in
      let one = field_made named are at count f (default f.id) (last_given f.id given) first.first first.between declared.0 (λ v is. last_is given f.id v all is) first.before in
      let others = fields_made named are default given all at first.between more rising.1 declared.1 second.first second.between second.before in
      let same = same_valued (with_field f.id first.first second.first) made second.between n second.behind in (
        subst (AreFieldsMade (f ∷ more)) same.0 (one_more_made f more first.first second.first rising.0 declared.0 one.element others.0),
        record { no_fewer = omega (arith, one.behind.no_fewer, others.1.no_fewer, same.1); most = λ m. (let between = one.behind.most m in let last = others.1.most between in omega (arith, last, same.1)) },
      )

  -- the one field of a union
  pub union_made : (given : List FieldValue) → AllByRecursion IsGiven given → (at : Place) (count : ℕ) (made : FieldTrees) (n : ℕ) → union_worth given at count ≡ valued made n
      → EachField schema.structs items levels made × AreRisingFields made × IsOneField made × (count ≡ n)
  union_made [] all at count made n e = absurd (no_flaw at wrong_kind made n e)
  union_made (v ∷ []) all at count made n e =
      let same = same_valued (field v.id v.value no_fields) made count n e in (
        subst (EachField schema.structs items levels) same.0 ((all.0.field, all.0.found, all.0.element), tt),
        subst AreRisingFields same.0 (tt, tt),
        subst IsOneField same.0 tt,
        same.1,
      )
  union_made (v ∷ w ∷ more) all at count made n e = absurd (no_flaw at wrong_kind made n e)
