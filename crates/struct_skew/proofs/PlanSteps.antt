-- Steps of making a plan.
use Rattle.std.proofs.Common.{◌≡◌, ℕ, zero, suc, ◌+◌, ◌<◌, ℤ, List, [], ◌∷◌, ◌++◌, length, map, drop, get_or, Option, Some, sym, ap, subst, ◌∙◌, inl, inr, arith}
use Rattle.std.specs.Prelude.{IfSome, option_to_list}
use Rattle.std.specs.List.{slice_get}
use Rattle.std.proofs.lemmas.List.{drop_more}
use Rattle.thrift_value.specs.declared.value.Value.{Value}
use Rattle.thrift_value.specs.TreeOf.{tree_of, field_tree, field_trees}
use Rattle.schema.specs.declared.types.FieldsKind.{FieldsKind}
use Rattle.schema.specs.PlainSchema.{PlainField, PlainStruct}
use Rattle.struct_skew.specs.declared.plan.Choice.{Choice}
use Rattle.struct_skew.specs.Latest.{latest_of_each}
use Rattle.struct_skew.specs.Offers.{Offer, is_sent_for}
use Rattle.struct_skew.specs.Plan.{AllAt, place_cmp, unsent_choice, is_choice_at, Follows, IsThinned, KeepsFollowing, Plans}
use Rattle.struct_skew.specs.Projection.{meaning_of, offers_of}
use Rattle.struct_skew.proofs.PlanLaws.{AllAt-both, AllAt-then, Follows-in_order, Follows-more, plan_in_order}
use Rattle.struct_skew.proofs.PlannedFields.{Follows-start}

-- the raw fields of a struct, in memory
abbrev pub raw_offers : List PlainStruct → List (ℤ × Value) → List Offer
raw_offers structs sent = offers_of structs (field_trees (map field_tree sent))

abbrev pub raw_offer : List PlainStruct → ℤ × Value → Offer
raw_offer structs x = record { id = x.0; value = tree_of x.1; meaning = meaning_of structs (tree_of x.1) }

-- the raw field at a place
pub offer_there : (structs : List PlainStruct) (sent : List (ℤ × Value)) (i : ℕ) (x : ℤ × Value) → i < length sent → x ≡ get_or sent i x
    → slice_get (raw_offers structs sent) i ≡ Some (raw_offer structs x)
offer_there structs [] i x low here = absurd (omega arith)
offer_there structs (y ∷ ys) zero x low here = ap (λ z. Some (raw_offer structs z)) (sym here)
offer_there structs (y ∷ ys) (suc i) x low here = offer_there structs ys i x (omega arith) here

-- one raw field further
pub sent_more : (fields : List PlainField) (sent : List (ℤ × Value)) (i : ℕ) (x : ℤ × Value) (into new : List Choice) (choice : Option Choice)
    → i < length sent → x ≡ get_or sent i x → AllAt (λ q f. is_sent_for f x.0 (tree_of x.1) ≡ is_choice_at q choice) 0 fields
    → IfSome choice (λ c. c.sent ≡ Some i) → new ≡ into ++ option_to_list choice → (structs : List PlainStruct) (kind : FieldsKind)
    → AllAt (Follows kind (raw_offers structs sent) into (raw_offers structs (drop i sent))) 0 fields
    → AllAt (Follows kind (raw_offers structs sent) new (raw_offers structs (drop (i + 1) sent))) 0 fields
sent_more fields sent i x into new choice low here is named put structs kind kept =
    let front : drop i sent ≡ x ∷ drop (i + 1) sent = drop_more sent i x low ∙ ap (λ y. y ∷ drop (i + 1) sent) (sym here) in
    let P : List (ℤ × Value) → Type 0 = λ left. AllAt (Follows kind (raw_offers structs sent) into (raw_offers structs left)) 0 fields in
    let Q : List Choice → Type 0 = λ made. AllAt (Follows kind (raw_offers structs sent) made (raw_offers structs (drop (i + 1) sent))) 0 fields in
    subst Q (sym put)
    (AllAt-both (λ q f. is_sent_for f x.0 (tree_of x.1) ≡ is_choice_at q choice)
    (Follows kind (raw_offers structs sent) into (raw_offer structs x ∷ raw_offers structs (drop (i + 1) sent)))
    (Follows kind (raw_offers structs sent) (into ++ option_to_list choice) (raw_offers structs (drop (i + 1) sent)))
    (λ q f own kept_here. Follows-more kind (raw_offers structs sent) into (raw_offer structs x) (raw_offers structs (drop (i + 1) sent)) i choice q f
    (offer_there structs sent i x low here) named own kept_here)
    0 fields is (subst P front kept))

-- choices that are put in order, or stay as they are, lead to the same
pub thinned_follow : (fields : List PlainField) (kind : FieldsKind) (offers rest : List Offer) (old new : List Choice) → IsThinned old new
    → AllAt (Follows kind offers old rest) 0 fields → AllAt (Follows kind offers new rest) 0 fields
thinned_follow fields kind offers rest old new (inl same) kept = subst (λ cs. AllAt (Follows kind offers cs rest) 0 fields) (sym same) kept
thinned_follow fields kind offers rest old new (inr ordered) kept =
    subst (λ cs. AllAt (Follows kind offers cs rest) 0 fields) (sym ordered)
    (AllAt-then (Follows kind offers old rest) (Follows kind offers (latest_of_each place_cmp old) rest) (Follows-in_order kind offers old rest) 0 fields kept)

-- what is needed and what is sent, in order, is a plan
pub planned : (required defaulted : List ℕ) (fields : List PlainField) (sent : List (ℤ × Value)) (start one two all plan : List Choice)
    → start ≡ [] → one ≡ start ++ map unsent_choice required → two ≡ one ++ map unsent_choice defaulted → KeepsFollowing fields (field_trees (map field_tree sent)) two all
    → plan ≡ latest_of_each place_cmp all → Plans required defaulted fields (field_trees (map field_tree sent)) plan
planned required defaulted fields sent start one two all plan none first second leads ordered structs s same r d =
    let both : two ≡ map unsent_choice required ++ map unsent_choice defaulted =
    second ∙ ap (λ cs. cs ++ map unsent_choice defaulted) (first ∙ ap (λ cs. cs ++ map unsent_choice required) none) in
    let P : List PlainField → Type 0 = λ fs. AllAt (Follows s.kind (raw_offers structs sent) two (raw_offers structs sent)) 0 fs in
    plan_in_order s.kind (raw_offers structs sent) fields all plan
    (leads structs s.kind (subst P same (Follows-start s (raw_offers structs sent) two required defaulted r d both))) ordered
