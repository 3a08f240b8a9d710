-- How a client hears the struct of a reply.
use Rattle.std.proofs.Common.{◌≡◌, ℕ, ℤ, pos, ◌≤◌, Bool, true, false, cond, if◌then◌else◌, List, [], ◌∷◌, Option, Some, None, Result, Ok, Err, refl, sym, ap, subst, ◌∙◌}
use Rattle.std.specs.Prelude.{⊤, nat_le, ◌&&◌}
use Rattle.std.specs.Option.{option_map, option_or}
use Rattle.std.specs.Ordering.{int_eq}
use Rattle.std.specs.Result.{IsOk}
use Rattle.std.proofs.lemmas.Bool.{and_parts, leb-true, false≢true, false_from_ne_true}
use Rattle.std.proofs.lemmas.Bool.Decides.{Decides-int_eq}
use Rattle.schema.specs.LookUp.{function_named}
use Rattle.schema.specs.PlainKind.{PlainKind}
use Rattle.schema.specs.PlainSchema.{PlainField, PlainFunction, PlainSchema, PlainStruct}
use Rattle.schema.specs.WrittenAs.{field_with_id, IsWrittenAs}
use Rattle.struct_skew.specs.declared.fault.SkewFault.{SkewFault}
use Rattle.struct_skew.specs.declared.fault.SkewFault.TheVariants.{TooDeep, TooMany}
use Rattle.struct_skew.specs.Fits.{fits_kind}
use Rattle.struct_skew.specs.Projection.{bounded, meaning_of, meaning_within_bounds}
use Rattle.struct_skew.specs.Results.{and_if_ok}
use Rattle.struct_skew.specs.TidyTests.{is_tidy, has_small_sizes}
use Rattle.struct_skew.specs.WrittenTests.{is_written_as, may_be_written}
use Rattle.struct_skew.proofs.Deciding.{decides_sizes, decides_tidy, decides_written}
use Rattle.struct_skew.proofs.Filling.{fits_itself}
use Rattle.struct_skew.proofs.PlainAlike.{fits_alike, means_alike}
use Rattle.thrift_value.specs.Measures.{depth_of}
use Rattle.thrift_value.specs.Plain.{plain}
use Rattle.thrift_value.specs.Sizes.{HasSmallSizes}
use Rattle.thrift_value.specs.Tidy.{IsTidy}
use Rattle.thrift_value.specs.Tree.{Tree, FieldTrees, no_fields, field}
use Rattle.call_model.specs.Replies.{deepest_result, may_go_back}
use Rattle.client_desk.specs.Clients.{PlainClient}
use Rattle.client_desk.specs.declared.heard_fault.HeardFault.{HeardFault}
use Rattle.client_desk.specs.Hearing.{PlainHeard, success, throws, as_fitting, first_thrown, heard_fields, heard_meaning, heard_nothing, heard_reply, heard_result, heard_thrown, heard_value, last_as, result_in, thrown_as}
use Rattle.client_law.specs.HeardSo.{IsOfBounds, IsHeardAs}

-- ---- what may go back

pub record GoesBack (structs : List PlainStruct) (kind : PlainKind) (value : Tree) : Type 0 where
  pub tidy : IsTidy value
  pub levels : depth_of value ≤ deepest_result
  pub written : IsWrittenAs structs kind value
  pub sizes : HasSmallSizes value

pub goes_back : (structs : List PlainStruct) (kind : PlainKind) (value : Tree) → may_go_back structs kind value ≡ true → GoesBack structs kind value
unfolding may_go_back
goes_back structs kind value is =
    let tidied = and_parts (is_tidy value) (nat_le (depth_of value) deepest_result && may_be_written structs kind value) is in
    let written = and_parts (nat_le (depth_of value) deepest_result) (may_be_written structs kind value) tidied.1 in
    let fits = and_parts (is_written_as structs kind value) (has_small_sizes value) written.1 in
    record {
      tidy = (decides_tidy value).0 tidied.0;
      levels = leb-true (depth_of value) deepest_result written.0;
      written = ((decides_written structs kind value).0 written.1).fits;
      sizes = (decides_sizes value).0 fits.1;
    }

-- ---- a value as it means

abbrev IsBounded : Result Tree SkewFault → Type 0
IsBounded (Ok value) = ⊤
IsBounded (Err fault) = IsOfBounds fault

bounded_if : (deep many : Bool) (value : Tree) → IsBounded (cond deep (Err TooDeep) (cond many (Err TooMany) (Ok value)))
bounded_if true many value = tt
bounded_if false true value = tt
bounded_if false false value = tt

bounded_by : (r : Result Tree SkewFault) → IsOk r → IsBounded (and_if_ok r bounded)
bounded_by (Ok value) is = bounded_if _ _ value
bounded_by (Err fault) is = absurd (false≢true is)

heard_as : (s : PlainSchema) (made : Tree → PlainHeard) (kind : PlainKind) (value : Tree) (m : Result Tree SkewFault)
    → meaning_within_bounds s kind value ≡ m → IsBounded m → IsHeardAs s made kind value (heard_meaning made m)
heard_as s made kind value (Ok meant) is bounds = (meant, is, refl)
heard_as s made kind value (Err fault) is bounds = (is, bounds)

pub fits_back : (structs : List PlainStruct) (kind : PlainKind) (value : Tree) → GoesBack structs kind value → fits_kind kind (plain value) ≡ true
fits_back structs kind value back = fits_itself structs kind value back.written

pub value_heard : (s : PlainSchema) (made : Tree → PlainHeard) (kind : PlainKind) (value : Tree) → GoesBack s.structs kind value
    → IsOk (meaning_of s.structs (plain value) kind) → IsHeardAs s made kind value (heard_value s made kind (plain value))
value_heard s made kind value back means =
    let fit : fits_kind kind value ≡ true = sym (fits_alike kind value) ∙ fits_back s.structs kind value back in
    heard_as s made kind value (meaning_within_bounds s kind (plain value)) (sym (ap (λ r. and_if_ok r bounded) (means_alike s.structs kind value fit)))
    (bounded_by (meaning_of s.structs (plain value) kind) means)

-- ---- the fields that count

abbrev no_result : Option (PlainKind × Tree)
no_result = None

abbrev none_thrown : Option (PlainField × Tree)
none_thrown = None

abbrev thrown_is : PlainField → Tree → Option (PlainField × Tree)
thrown_is t value = Some (t, value)

abbrev nothing : Option Tree
nothing = None

abbrev heard_so : PlainHeard → Result PlainHeard HeardFault
heard_so heard = Ok heard

other_id : (id other : ℤ) → (id ≡ other → ⊥) → int_eq id other ≡ false
other_id id other differ = false_from_ne_true (int_eq id other) (λ t. differ ((Decides-int_eq id other).0 t))

-- a field that is alone
alone_as : (kind : PlainKind) (id wanted : ℤ) (value : Tree) (is : Bool) → int_eq id wanted ≡ is
    → last_as (as_fitting kind) wanted (field id value no_fields) ≡ (if is then as_fitting kind value else nothing)
alone_as kind id wanted value is e = ap (λ t. if t then as_fitting kind value else nothing) e

fitting_is : (kind : PlainKind) (value : Tree) → fits_kind kind value ≡ true → as_fitting kind value ≡ Some value
fitting_is kind value fit = ap (λ t. if t then Some value else nothing) fit

own_id : (id : ℤ) → int_eq id id ≡ true
own_id id = (Decides-int_eq id id).1 refl

result_found : (kind : PlainKind) (value : Tree) → fits_kind kind value ≡ true → result_in (Some kind) (field (pos 0) value no_fields) ≡ Some (kind, value)
result_found kind value fit =
    ap (option_map (λ (raw : Tree). (kind, raw))) (alone_as kind (pos 0) (pos 0) value true (own_id (pos 0)) ∙ fitting_is kind value fit)

no_result_in : (r : Option PlainKind) (id : ℤ) (value : Tree) → (id ≡ pos 0 → ⊥) → result_in r (field id value no_fields) ≡ no_result
no_result_in None id value differ = refl
no_result_in (Some kind) id value differ = ap (option_map (λ (raw : Tree). (kind, raw))) (alone_as kind id (pos 0) value false (other_id id (pos 0) differ))

nothing_sent : (r : Option PlainKind) → result_in r no_fields ≡ no_result
nothing_sent None = refl
nothing_sent (Some kind) = refl

none_sent : (fs : List PlainField) → first_thrown fs no_fields ≡ none_thrown
none_sent [] = refl
none_sent (f ∷ fs) = none_sent fs

same_field : (f g : PlainField) → Some f ≡ Some g → f ≡ g
same_field f g e = cc

thrown_here : (t : PlainField) (fs : List PlainField) (value : Tree) → fits_kind t.kind value ≡ true → first_thrown (t ∷ fs) (field t.id value no_fields) ≡ thrown_is t value
thrown_here t fs value fit =
    ap (λ o. option_or (thrown_as t o) (first_thrown fs (field t.id value no_fields))) (alone_as t.kind t.id t.id value true (own_id t.id) ∙ fitting_is t.kind value fit)

thrown_found : (fs : List PlainField) (t : PlainField) (value : Tree) → field_with_id t.id fs ≡ Some t → fits_kind t.kind value ≡ true
    → first_thrown fs (field t.id value no_fields) ≡ thrown_is t value
thrown_found [] t value is fit = absurd cc
thrown_found (u ∷ us) t value is fit = either (int_eq u.id t.id) refl is (thrown_found us t value)
  where
    either : (b : Bool) → int_eq u.id t.id ≡ b → cond b (Some u) (field_with_id t.id us) ≡ Some t
        → (field_with_id t.id us ≡ Some t → fits_kind t.kind value ≡ true → first_thrown us (field t.id value no_fields) ≡ thrown_is t value)
        → first_thrown (u ∷ us) (field t.id value no_fields) ≡ thrown_is t value
    either true e same rest = subst (λ (g : PlainField). first_thrown (g ∷ us) (field t.id value no_fields) ≡ thrown_is t value) (sym (same_field u t same)) (thrown_here t us value fit)
    either false e same rest =
        let apart : int_eq t.id u.id ≡ false = other_id t.id u.id (λ alike. false≢true (sym e ∙ (Decides-int_eq u.id t.id).1 (sym alike))) in
        ap (λ o. option_or (thrown_as u o) (first_thrown us (field t.id value no_fields))) (alone_as u.kind t.id u.id value false apart) ∙ rest same fit

-- ---- the fields of a reply

module _ (c : PlainClient) (method : List ℕ) (f : PlainFunction) (found : function_named c.schema c.service method ≡ Some f) where
  replied : (fields : FieldTrees) → heard_fields c method 2 fields ≡ heard_result c.schema f fields (result_in f.result fields)
  replied fields = ap (λ o. heard_reply c o fields) found

  pub success_heard : (kind : PlainKind) (value : Tree) → f.result ≡ Some kind → fits_kind kind value ≡ true
      → heard_fields c method 2 (field (pos 0) value no_fields) ≡ heard_value c.schema success kind value
  success_heard kind value gives fit =
      replied (field (pos 0) value no_fields)
      ∙ ap (λ r. heard_result c.schema f (field (pos 0) value no_fields) (result_in r (field (pos 0) value no_fields))) gives
      ∙ ap (heard_result c.schema f (field (pos 0) value no_fields)) (result_found kind value fit)

  pub throws_heard : (t : PlainField) (value : Tree) → field_with_id t.id f.throws ≡ Some t → (t.id ≡ pos 0 → ⊥) → fits_kind t.kind value ≡ true
      → heard_fields c method 2 (field t.id value no_fields) ≡ heard_value c.schema (throws t.id) t.kind value
  throws_heard t value is differ fit =
      replied (field t.id value no_fields)
      ∙ ap (heard_result c.schema f (field t.id value no_fields)) (no_result_in f.result t.id value differ)
      ∙ ap (heard_thrown c.schema f) (thrown_found f.throws t value is fit)

  pub empty_heard : heard_fields c method 2 no_fields ≡ heard_so (heard_nothing f.result)
  empty_heard =
      replied no_fields
      ∙ ap (heard_result c.schema f no_fields) (nothing_sent f.result)
      ∙ ap (heard_thrown c.schema f) (none_sent f.throws)
