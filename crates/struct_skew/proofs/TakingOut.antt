-- Raw fields taken out one by one, each for the choice that names it.
use Rattle.std.proofs.Common.{◌≡◌, ℕ, zero, suc, ℤ, pos, ◌+◌, ◌<◌, ◌≤◌, false, List, [], ◌∷◌, length, map, drop, get_or, slice_set, Option, Some, None, Result, Ok, Err, refl, sym, ap, ap₂, subst, ◌∙◌, arith}
use Rattle.std.specs.Prelude.{⊤, IfSome, max}
use Rattle.std.specs.List.{AllByRecursion, slice_get}
use Rattle.std.specs.Option.{option_map}
use Rattle.std.proofs.Math.Nat.{le-max_left, le-max_right, max-le}
use Rattle.thrift_value.specs.declared.value.Value as value
use Rattle.thrift_value.specs.declared.value.Value.{Value}
use Rattle.thrift_value.specs.Measures.{depth_of, fields_depth}
use Rattle.thrift_value.specs.TreeOf.{tree_of, field_tree, field_trees}
use Rattle.thrift_value.proofs.Trees.{tree_of-Bool}
use Rattle.schema.specs.declared.types.FieldsKind.{FieldsKind}
use Rattle.schema.specs.PlainSchema.{PlainField, PlainStruct}
use Rattle.struct_skew.specs.declared.fault.SkewFault.{SkewFault}
use Rattle.struct_skew.specs.declared.plan.Choice.{Choice}
use Rattle.struct_skew.specs.Answering.{ProjectsOrNoMemory, SkewsOrNoMemory, PutsSome}
use Rattle.struct_skew.specs.Offers.{Offer}
use Rattle.struct_skew.specs.Plan.{chosen_field, offer_at, planned_fields}
use Rattle.struct_skew.specs.Projection.{field_value}
use Rattle.struct_skew.specs.Results.{with_some, as_field}
use Rattle.struct_skew.specs.TakenOut.{named_field, without_named, NameApart, AreApart, value_if_sent, field_if_sent}
use Rattle.struct_skew.proofs.PlanSteps.{raw_offers}
use Rattle.struct_skew.proofs.Steps.{behind, gathered_some, in_front, not_gathered_some}

-- the value of the raw field that a choice names
abbrev pub named_value : List (ℤ × Value) → Option ℕ → Option Value
named_value sent named = option_map (λ field. field.1) (named_field sent named)

-- a declared field has what the value means that was sent for it
value_there : (structs : List PlainStruct) (which : ℕ) (kind : FieldsKind) (f : PlainField) (sent : List (ℤ × Value)) (named : Option ℕ)
    → field_value which kind f (offer_at (raw_offers structs sent) named) ≡ value_if_sent structs which kind f (option_map tree_of (named_value sent named))
value_there structs which kind f sent None = refl
value_there structs which kind f [] (Some i) = refl
value_there structs which kind f (x ∷ xs) (Some zero) = refl
value_there structs which kind f (x ∷ xs) (Some (suc i)) = value_there structs which kind f xs (Some i)

pub field_there : (structs : List PlainStruct) (which : ℕ) (kind : FieldsKind) (f : Option PlainField) (sent : List (ℤ × Value)) (c : Choice)
    → chosen_field which kind (raw_offers structs sent) c f ≡ field_if_sent structs which kind f (option_map tree_of (named_value sent c.sent))
field_there structs which kind (Some f) sent c = ap (as_field f.id) (value_there structs which kind f sent c.sent)
field_there structs which kind None sent c = refl

-- other raw fields stay
other_stays : (structs : List PlainStruct) (sent : List (ℤ × Value)) (i k : ℕ) (x : ℤ × Value) → (i ≡ k → ⊥)
    → slice_get (raw_offers structs (slice_set sent i x)) k ≡ slice_get (raw_offers structs sent) k
other_stays structs [] i k x other = refl
other_stays structs (y ∷ ys) zero zero x other = absurd (other refl)
other_stays structs (y ∷ ys) zero (suc k) x other = refl
other_stays structs (y ∷ ys) (suc i) zero x other = refl
other_stays structs (y ∷ ys) (suc i) (suc k) x other = other_stays structs ys i k x (λ e. other (ap suc e))

apart_stays : (structs : List PlainStruct) (sent : List (ℤ × Value)) (one other : Option ℕ) → ((i : ℕ) → one ≡ Some i → other ≡ Some i → ⊥)
    → offer_at (raw_offers structs (without_named sent one)) other ≡ offer_at (raw_offers structs sent) other
apart_stays structs sent None other apart = refl
apart_stays structs sent (Some i) None apart = refl
apart_stays structs sent (Some i) (Some k) apart = other_stays structs sent i k (pos 0, value.Bool false) (λ e. apart i refl (ap Some (sym e)))

-- the choices behind the one whose turn it is
pub rest_apart : (plan : List Choice) (i : ℕ) (c : Choice) → i < length plan → c ≡ get_or plan i c → AreApart (drop i plan)
    → AllByRecursion (NameApart c) (drop (i + 1) plan) × AreApart (drop (i + 1) plan)
rest_apart plan i c low here apart = subst AreApart (in_front plan i c low here) apart

-- a plan gives the same where the raw fields that it names stay
module _ (structs : List PlainStruct) (which : ℕ) (kind : FieldsKind) (fields : List PlainField) where
  chosen_alike : (one other : List Offer) (c : Choice) (f : Option PlainField) → offer_at one c.sent ≡ offer_at other c.sent
      → chosen_field which kind one c f ≡ chosen_field which kind other c f
  chosen_alike one other c (Some f) same = ap (λ o. as_field f.id (field_value which kind f o)) same
  chosen_alike one other c None same = refl

  planned_alike : (sent : List (ℤ × Value)) (c : Choice) (cs : List Choice) → AllByRecursion (NameApart c) cs
      → planned_fields which kind fields (raw_offers structs (without_named sent c.sent)) cs ≡ planned_fields which kind fields (raw_offers structs sent) cs
  planned_alike sent c [] apart = refl
  planned_alike sent c (d ∷ ds) apart =
      ap₂ with_some (chosen_alike (raw_offers structs (without_named sent c.sent)) (raw_offers structs sent) d (slice_get fields d.place) (apart_stays structs sent c.sent d.sent apart.0))
      (planned_alike sent c ds apart.1)

  module _ (first sent left : List (ℤ × Value)) (plan : List Choice) (i : ℕ) (c : Choice) (raw : Option Value) (value : Result (Option (ℤ × Value)) SkewFault)
      (low : i < length plan) (here : c ≡ get_or plan i c) (took : raw ≡ named_value sent c.sent)
      (means : ProjectsOrNoMemory (option_map field_tree) value (field_if_sent structs which kind (slice_get fields c.place) (option_map tree_of raw))) where
    meant : ProjectsOrNoMemory (option_map field_tree) value (chosen_field which kind (raw_offers structs sent) c (slice_get fields c.place))
    meant =
        subst (ProjectsOrNoMemory (option_map field_tree) value)
        (ap (λ r. field_if_sent structs which kind (slice_get fields c.place) (option_map tree_of r)) took ∙ sym (field_there structs which kind (slice_get fields c.place) sent c)) means

    front : (found : List (ℤ × Value)) → behind (map field_tree found) (planned_fields which kind fields (raw_offers structs sent) (drop i plan)) ≡ planned_fields which kind fields (raw_offers structs first) plan
        → behind (map field_tree found) (with_some (chosen_field which kind (raw_offers structs sent) c (slice_get fields c.place)) (planned_fields which kind fields (raw_offers structs sent) (drop (i + 1) plan)))
        ≡ planned_fields which kind fields (raw_offers structs first) plan
    front found kept = ap (λ cs. behind (map field_tree found) (planned_fields which kind fields (raw_offers structs sent) cs)) (sym (in_front plan i c low here)) ∙ kept

    -- one choice further
    pub planned_more : (found new : List (ℤ × Value)) (out : Result ⊤ SkewFault) (u : ⊤) → left ≡ without_named sent c.sent → PutsSome value out found new → out ≡ Ok u → AreApart (drop i plan)
        → behind (map field_tree found) (planned_fields which kind fields (raw_offers structs sent) (drop i plan)) ≡ planned_fields which kind fields (raw_offers structs first) plan
        → behind (map field_tree new) (planned_fields which kind fields (raw_offers structs left) (drop (i + 1) plan)) ≡ planned_fields which kind fields (raw_offers structs first) plan
    planned_more found new out u less put went apart kept =
        ap (λ s. behind (map field_tree new) (planned_fields which kind fields (raw_offers structs s) (drop (i + 1) plan))) less
        ∙ ap (behind (map field_tree new)) (planned_alike sent c (drop (i + 1) plan) (rest_apart plan i c low here apart).0)
        ∙ gathered_some field_tree (planned_fields which kind fields (raw_offers structs first) plan) value out u found new
        (chosen_field which kind (raw_offers structs sent) c (slice_get fields c.place)) (planned_fields which kind fields (raw_offers structs sent) (drop (i + 1) plan)) went meant put (front found kept)

    -- the fault of its field is that of all
    pub planned_fault : (found new : List (ℤ × Value)) (out : Result ⊤ SkewFault) (e : SkewFault) → PutsSome value out found new → out ≡ Err e
        → behind (map field_tree found) (planned_fields which kind fields (raw_offers structs sent) (drop i plan)) ≡ planned_fields which kind fields (raw_offers structs first) plan
        → SkewsOrNoMemory e (planned_fields which kind fields (raw_offers structs first) plan)
    planned_fault found new out e put went kept =
        not_gathered_some field_tree (planned_fields which kind fields (raw_offers structs first) plan) value out e found new
        (chosen_field which kind (raw_offers structs sent) c (slice_get fields c.place)) (planned_fields which kind fields (raw_offers structs sent) (drop (i + 1) plan)) went meant put (front found kept)

-- the value that is taken out is no deeper than all
abbrev fields_deep : List (ℤ × Value) → ℕ
fields_deep sent = fields_depth (field_trees (map field_tree sent))

value_deep : (sent : List (ℤ × Value)) (i n : ℕ) → fields_deep sent ≤ n → IfSome (option_map (λ field. field.1) (slice_get sent i)) (λ raw. depth_of (tree_of raw) ≤ n)
value_deep [] i n most = tt
value_deep (x ∷ xs) zero n most = let one = le-max_left (depth_of (tree_of x.1)) (fields_deep xs) in omega (arith, one, most)
value_deep (x ∷ xs) (suc i) n most = let more = le-max_right (depth_of (tree_of x.1)) (fields_deep xs) in value_deep xs i n (omega (arith, more, most))

pub named_deep : (sent : List (ℤ × Value)) (named : Option ℕ) (raw : Option Value) (n : ℕ) → raw ≡ named_value sent named → fields_deep sent ≤ n → IfSome raw (λ v. depth_of (tree_of v) ≤ n)
named_deep sent None raw n is most = subst (λ r. IfSome r (λ v. depth_of (tree_of v) ≤ n)) (sym is) tt
named_deep sent (Some i) raw n is most = subst (λ r. IfSome r (λ v. depth_of (tree_of v) ≤ n)) (sym is) (value_deep sent i n most)

-- nor are the others, and what stands in its place
max_both : (a b n : ℕ) → a ≤ n → b ≤ n → max a b ≤ n
max_both a b n one other = max-le one other

set_deep : (sent : List (ℤ × Value)) (i n : ℕ) → fields_deep sent ≤ n → fields_deep (slice_set sent i (pos 0, value.Bool false)) ≤ n
set_deep [] i n most = most
set_deep (x ∷ xs) zero n most =
    let more = le-max_right (depth_of (tree_of x.1)) (fields_deep xs) in
    max_both (depth_of (tree_of (value.Bool false))) (fields_deep xs) n (subst (λ t. depth_of t ≤ n) (sym (tree_of-Bool false)) (omega arith)) (omega (arith, more, most))
set_deep (x ∷ xs) (suc i) n most =
    let one = le-max_left (depth_of (tree_of x.1)) (fields_deep xs) in
    let more = le-max_right (depth_of (tree_of x.1)) (fields_deep xs) in
    max_both (depth_of (tree_of x.1)) (fields_deep (slice_set xs i (pos 0, value.Bool false))) n (omega (arith, one, most)) (set_deep xs i n (omega (arith, more, most)))

pub left_deep : (sent left : List (ℤ × Value)) (named : Option ℕ) (n : ℕ) → left ≡ without_named sent named → fields_deep sent ≤ n → fields_deep left ≤ n
left_deep sent left None n is most = subst (λ s. fields_deep s ≤ n) (sym is) most
left_deep sent left (Some i) n is most = subst (λ s. fields_deep s ≤ n) (sym is) (set_deep sent i n most)
