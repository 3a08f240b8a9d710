-- Where no round has a break, the pairs that are reached are closed, and so values are kept.
use Rattle.std.proofs.Common.{◌≡◌, ℕ, suc, ℤ, Bool, true, false, true≢false, cond, List, [], Option, Some, None, Ok, Err, refl, sym, ap, subst, ◌∙◌}
use Rattle.std.specs.Prelude.{⊤, ◌&&◌, not, nat_lt, is_some, is_none, Contains, find, unwrap_or}
use Rattle.std.specs.List.{slice_get}
use Rattle.std.specs.Option.{option_map, option_or}
use Rattle.thrift_value.specs.Measures.{count_of, depth_of}
use Rattle.thrift_value.specs.Tree.{Tree}
use Rattle.schema.specs.declared.types.FieldNeed.TheVariants.{Required}
use Rattle.schema.specs.LookUp.{fields_at, field_at}
use Rattle.schema.specs.PlainKind.{kind_struct}
use Rattle.schema.specs.PlainSchema.{PlainField, PlainStruct, PlainSchema}
use Rattle.schema.specs.Sound.{IsSound}
use Rattle.schema.specs.WrittenAs.{field_with_id}
use Rattle.struct_skew.specs.declared.fault.SkewFault.TheVariants.{TooDeep, TooMany}
use Rattle.struct_skew.specs.Projection.{is_required, is_union, bounded}
use Rattle.struct_skew.specs.Results.{and_if_ok}
use Rattle.struct_skew.specs.WrittenTests.{some_passes}
use Rattle.struct_skew.proofs.Deciding.{required_need, union_kind}
use Rattle.struct_skew.proofs.Each.{Each}
use Rattle.compat_model.specs.declared.break_kind.BreakKind.{BreakKind}
use Rattle.compat_model.specs.declared.break_kind.BreakKind.TheVariants as breaks
use Rattle.compat_model.specs.Breaks.{break_under, written_struct_name, pair_break, IsCompatible}
use Rattle.compat_model.specs.Faults.{field_fault, first_at_fault, kind_fault, is_unknown, is_unlike, is_newly_required, lost_field, fields_fault, struct_fault}
use Rattle.compat_model.specs.KeptValues.{IsKeptUnder, IsKeptOrTooLarge, KeepsValues}
use Rattle.compat_model.specs.Likeness.{are_like, struct_places}
use Rattle.compat_model.specs.StructPairs.{SchemaChange, StructPair, writing_schema, reading_schema, pairs_at, field_places, pairs_within, pairs_reached}
use Rattle.compat_model.proofs.FoundIn.{declared_id, fails_at}
use Rattle.compat_model.proofs.Likenesses.{like_in}
use Rattle.compat_model.proofs.ReadValues.{AreClosedPairs, read}
use Rattle.compat_model.proofs.Standing.{StandsIn, stands, stands_flat, stands_mapped, each_standing, both_none, none_answers, found_stands}

-- what no test finds
none_found : (kind : BreakKind) (test : PlainField → Bool) (fs : List PlainField) → first_at_fault kind test fs ≡ None → find test fs ≡ None
none_found kind test fs none = by_found (find test fs) none
  where
    by_found : (o : Option PlainField) → option_map (field_fault kind) o ≡ None → o ≡ None
    by_found None e = refl
    by_found (Some f) e = absurd cc

none_mapped : {A B : Type 0} (h : A → B) (o : Option A) → option_map h o ≡ None → o ≡ None
none_mapped h None e = refl
none_mapped h (Some x) e = absurd cc

not_false : (b : Bool) → not b ≡ false → b ≡ true
not_false true e = refl
not_false false e = absurd (true≢false e)

none_not : {A : Type 0} (o : Option A) → is_none o ≡ false → is_some o ≡ true
none_not None e = absurd (true≢false e)
none_not (Some x) e = refl

-- neither or both are unions
alike_kinds : (one other : Bool) → kind_fault one other ≡ None → one ≡ other
alike_kinds true true e = refl
alike_kinds true false e = absurd cc
alike_kinds false true e = absurd cc
alike_kinds false false e = refl

-- a test that fails where a field is found
unlike_none : (read : List PlainField) (f g : PlainField) → field_with_id f.id read ≡ Some g → is_unlike read f ≡ false → are_like f.kind g.kind ≡ true
unlike_none read f g finds fails =
    not_false (are_like f.kind g.kind) (sym (ap (λ o. some_passes o (λ (x : PlainField). not (are_like f.kind x.kind))) finds) ∙ fails)

-- what has to be there for the reader had to be there for the writer
required_before : (written : List PlainField) (g : PlainField) → g.need ≡ Required → is_newly_required written g ≡ false
    → (f : PlainField) × (field_with_id g.id written ≡ Some f) × (f.need ≡ Required)
required_before written g need fails = by_found (field_with_id g.id written) refl
  where
    by_found : (o : Option PlainField) → field_with_id g.id written ≡ o → (f : PlainField) × (field_with_id g.id written ≡ Some f) × (f.need ≡ Required)
    by_found None is =
        absurd (true≢false (sym (ap (λ o. is_required Required && not (some_passes o (λ (f : PlainField). is_required f.need))) is) ∙ ap (λ n. is_required n && not (some_passes (field_with_id g.id written) (λ (f : PlainField). is_required f.need))) (sym need) ∙ fails))
    by_found (Some f) is = (
      f,
      is,
      (required_need f.need).0 (not_false (is_required f.need)
          (sym (ap (λ o. is_required Required && not (some_passes o (λ (x : PlainField). is_required x.need))) is) ∙ ap (λ n. is_required n && not (some_passes (field_with_id g.id written) (λ (x : PlainField). is_required x.need))) (sym need) ∙ fails)),
    )

-- of a union each field is known
union_known : (union : Bool) (written read : List PlainField) (f : PlainField) (id : ℤ) → union ≡ true → lost_field union written read ≡ None → field_with_id id written ≡ Some f
    → is_some (field_with_id id read) ≡ true
union_known union written read f id is none finds =
    let lost : find (is_unknown read) written ≡ None =
    none_found breaks.UnionField (is_unknown read) written (sym (ap (λ u. lost_field u written read) is) ∙ none) in
    ap (λ i. is_some (field_with_id i read)) (sym (declared_id id written f finds))
    ∙ none_not (field_with_id f.id read) (fails_at (is_unknown read) id written f lost finds)

module _ (ch : SchemaChange) (backward : Bool) where
  abbrev s : PlainSchema
  s = writing_schema ch backward

  abbrev t : PlainSchema
  t = reading_schema ch backward

  abbrev pair_of : ℕ → ℕ → StructPair
  pair_of a b = record { backward = backward; from = a; to = b }

  -- two structs are a pair that is reached
  abbrev IsReached : ℕ → ℕ → Type 0
  IsReached a b = (n : ℕ) × StandsIn (pair_of a b) (pairs_reached ch n)

  -- the structs at like places of their fields are reached too
  places_reached : (n a b : ℕ) (d e : PlainStruct) (f g : PlainField) (id : ℤ) → StandsIn (pair_of a b) (pairs_reached ch n) → slice_get s.structs a ≡ Some d → slice_get t.structs b ≡ Some e
      → field_with_id id d.fields ≡ Some f → field_with_id id e.fields ≡ Some g → Each (λ (p : ℕ × ℕ). IsReached p.0 p.1) (struct_places f.kind g.kind)
  places_reached n a b d e f g id here there_d there_e of_d of_e =
      each_standing (λ (p : ℕ × ℕ). IsReached p.0 p.1) (struct_places f.kind g.kind)
      (λ p among.
      let fields : fields_at s a ≡ d.fields = ap (λ o. unwrap_or (option_map (λ (x : PlainStruct). x.fields) o) []) there_d in
      let found : field_at t b f.id ≡ Some g =
      ap (λ o. field_with_id f.id (unwrap_or (option_map (λ (x : PlainStruct). x.fields) o) [])) there_e ∙ ap (λ i. field_with_id i e.fields) (declared_id id d.fields f of_d) ∙ of_e in
      let of_field : StandsIn (pair_of p.0 p.1) (pairs_at backward (field_places f (field_at t b f.id))) =
      subst (λ o. StandsIn (pair_of p.0 p.1) (pairs_at backward (field_places f o))) (sym found) (stands_mapped (λ (q : ℕ × ℕ). pair_of q.0 q.1) (struct_places f.kind g.kind) p among) in
      let field_stands : StandsIn f (fields_at s a) = subst (StandsIn f) (sym fields) (found_stands id d.fields f of_d) in
      let within : StandsIn (pair_of p.0 p.1) (pairs_within ch (pair_of a b)) =
      stands_flat (λ (x : PlainField). pairs_at backward (field_places x (field_at t b x.id))) (fields_at s a) f (pair_of p.0 p.1) field_stands of_field in
      (suc n, stands_flat (pairs_within ch) (pairs_reached ch n) (pair_of a b) (pair_of p.0 p.1) here within))

  module _ (compatible : IsCompatible ch) where
    no_fault : (n a b : ℕ) (d e : PlainStruct) → StandsIn (pair_of a b) (pairs_reached ch n) → slice_get s.structs a ≡ Some d → slice_get t.structs b ≡ Some e
        → option_or (kind_fault (is_union d.kind) (is_union e.kind)) (fields_fault (is_union d.kind) d.fields e.fields) ≡ None
    no_fault n a b d e here there_d there_e =
        (λ i.
        let one = some_passes (sym there_d i) (λ (x : PlainStruct). is_union x.kind) in
        let other = some_passes (sym there_e i) (λ (x : PlainStruct). is_union x.kind) in
        option_or (kind_fault one other)
        (fields_fault one (unwrap_or (option_map (λ (x : PlainStruct). x.fields) (sym there_d i)) []) (unwrap_or (option_map (λ (x : PlainStruct). x.fields) (sym there_e i)) [])))
        ∙ none_mapped (break_under (written_struct_name s a)) (struct_fault s a t b) (none_answers (pair_break ch) (pairs_reached ch n) (pair_of a b) (compatible (suc n)) here)

    closed : AreClosedPairs s t IsReached ⊤
    closed a b reached d e there_d there_e =
        let parts = both_none (kind_fault (is_union d.kind) (is_union e.kind)) (fields_fault (is_union d.kind) d.fields e.fields) (no_fault reached.0 a b d e reached.1 there_d there_e) in
        let kinds : is_union d.kind ≡ is_union e.kind = alike_kinds (is_union d.kind) (is_union e.kind) parts.0 in
        let fields =
        both_none (lost_field (is_union d.kind) d.fields e.fields) (option_or (first_at_fault breaks.Unlike (is_unlike e.fields) d.fields) (first_at_fault breaks.NewRequired (is_newly_required d.fields) e.fields)) parts.1 in
        let rest = both_none (first_at_fault breaks.Unlike (is_unlike e.fields) d.fields) (first_at_fault breaks.NewRequired (is_newly_required d.fields) e.fields) fields.1 in record {
          union = λ union. (union_kind d.kind).0 (kinds ∙ union);
          known = λ union f id finds. union_known (is_union d.kind) d.fields e.fields f id (kinds ∙ union) fields.0 finds;
          like =
              λ id f g of_d of_e.
              let found : field_with_id f.id e.fields ≡ Some g = ap (λ i. field_with_id i e.fields) (declared_id id d.fields f of_d) ∙ of_e in
              like_in IsReached ⊤ f.kind g.kind
              (unlike_none e.fields f g found (fails_at (is_unlike e.fields) id d.fields f (none_found breaks.Unlike (is_unlike e.fields) d.fields rest.0) of_d))
              (places_reached reached.0 a b d e f g id reached.1 there_d there_e of_d of_e);
          required =
              λ g finds need.
              required_before d.fields g need (fails_at (is_newly_required d.fields) g.id e.fields g (none_found breaks.NewRequired (is_newly_required d.fields) e.fields rest.1) finds);
        }

    within_bounds : (b : ℕ) (v w : Tree) (deep many : Bool) → IsKeptUnder t.structs (kind_struct b) v w
        → IsKeptOrTooLarge t b v (cond deep (Err TooDeep) (cond many (Err TooMany) (Ok w)))
    within_bounds b v w true many kept = tt
    within_bounds b v w false true kept = tt
    within_bounds b v w false false kept = kept

    pair_kept : (n a b : ℕ) → IsSound ch.old → IsSound ch.new → StandsIn (pair_of a b) (pairs_reached ch n) → KeepsValues s a t b
    pair_kept n a b old new here v tidy typed =
        let reading = read s t IsReached ⊤ (reader backward).all_else.structs closed (kind_struct a) (kind_struct b) v (n, here) tidy typed in
        subst (λ r. IsKeptOrTooLarge t b v (and_if_ok r bounded)) (sym reading.means)
        (within_bounds b v reading.value (nat_lt 64 (depth_of reading.value)) (nat_lt 4000000 (count_of reading.value)) (reading.kept tt))
      where
        reader : (way : Bool) → IsSound (reading_schema ch way)
        reader true = old
        reader false = new

pub values_kept : (ch : SchemaChange) (n : ℕ) (p : StructPair) → IsSound ch.old → IsSound ch.new → IsCompatible ch → Contains (pairs_reached ch n) p
    → KeepsValues (writing_schema ch p.backward) p.from (reading_schema ch p.backward) p.to
values_kept ch n p old new compatible among = pair_kept ch p.backward compatible n p.from p.to old new (stands (pairs_reached ch n) p among)
