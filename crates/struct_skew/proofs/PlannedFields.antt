-- A plan gives the fields that the declared ones have: those that it passes over have no value.
use Rattle.std.proofs.Common.{◌≡◌, ℕ, ◌+◌, ◌-◌, ◌≤◌, ◌<◌, ⊎_elim, Bool, true, false, true≢false, cond, List, [], ◌∷◌, ◌++◌, map, Option, Some, None, Ok, Err, Less, refl, sym, ap, ap₂, ◌∙◌, subst, arith}
use Rattle.std.specs.Prelude.{⊤, zero, suc, ◌==◌, ◌||◌, ◌&&◌, not, is_some}
use Rattle.std.specs.List.{slice_get}
use Rattle.std.specs.Ordering.{MatchOrdering}
use Rattle.std.proofs.lemmas.Cmp.{ranked}
use Rattle.std.proofs.lemmas.Bool.{ne_eqb}
use Rattle.std.proofs.lemmas.Bool.Decides.{eqb_tells}
use Rattle.std.proofs.lemmas.List.{map-append}
use Rattle.thrift_value.specs.Tree.{Tree}
use Rattle.schema.specs.declared.types.FieldsKind.{FieldsKind}
use Rattle.schema.specs.PlainSchema.{PlainField, PlainStruct}
use Rattle.struct_skew.specs.declared.fault.SkewFault.TheVariants.{Missing}
use Rattle.struct_skew.specs.declared.plan.Choice.{Choice}
use Rattle.struct_skew.specs.Latest.{ComesBefore, IsRisingBy}
use Rattle.struct_skew.specs.Needs.{needs_of, is_required_field, is_defaulted_field}
use Rattle.struct_skew.specs.Offers.{Offer, last_offer, last_offer_behind}
use Rattle.struct_skew.specs.Plan.{AllAt, place_cmp, unsent_choice, first_known, latest_at, has_choice, offer_at, offer_of, IsPassive, Suits, IsPlanFor, Follows, chosen_field, planned_fields}
use Rattle.struct_skew.specs.Projection.{is_required, counted_default, field_value, field_values}
use Rattle.struct_skew.specs.Results.{with_some, with_field_value}
use Rattle.struct_skew.proofs.PlanLaws.{AllAt-both, listed_places, front_lacks, unsent_named, latest_at-none, own_here, other_here}

-- the same from a number on
AllAt-from : {A : Type 0} (P Q : ℕ → A → Type 0) (n : ℕ) (xs : List A) → ((q : ℕ) (x : A) → n ≤ q → P q x → Q q x) → AllAt P n xs → AllAt Q n xs
AllAt-from P Q n [] f held = tt
AllAt-from P Q n (x ∷ xs) f held = (f n x (omega arith) held.0, AllAt-from P Q (n + 1) xs (λ q y low p. f q y (omega arith) p) held.1)

-- each choice is of a place from a number on
abbrev AreFrom : ℕ → List Choice → Type 0
AreFrom n [] = ⊤
AreFrom n (c ∷ cs) = (n ≤ c.place) × AreFrom n cs

less_place : (c d : Choice) → place_cmp c d ≡ Less → c.place < d.place
less_place c d e = subst (λ o. MatchOrdering o (c.place < d.place) (c.place ≡ d.place) (d.place < c.place)) e (ranked c.place d.place (place_cmp c d) refl)

AreFrom-behind : (n : ℕ) (c : Choice) (cs : List Choice) → n ≤ c.place → ComesBefore place_cmp c cs → AreFrom (n + 1) cs
AreFrom-behind n c [] low before = tt
AreFrom-behind n c (d ∷ ds) low before = (let less = less_place c d before.0 in omega (arith, less), AreFrom-behind n c ds low before.1)

AreFrom-low : (n : ℕ) (c : Choice) (cs : List Choice) → ComesBefore place_cmp c cs → n + 1 ≤ c.place → AreFrom (n + 1) cs
AreFrom-low n c [] before high = tt
AreFrom-low n c (d ∷ ds) before high = (let less = less_place c d before.0 in omega (arith, less), AreFrom-low n c ds before.1 high)

AreFrom-next : (n : ℕ) (cs : List Choice) → AreFrom (n + 1) cs → has_choice n cs ≡ false
AreFrom-next n [] from = refl
AreFrom-next n (c ∷ cs) from =
    let low = from.0 in ap₂ (λ a b. a || b) (ne_eqb c.place n (λ e. omega (arith, low, e))) (AreFrom-next n cs from.1)

module _ (which : ℕ) (kind : FieldsKind) (all : List PlainField) (offers : List Offer) where
  -- a field that is passed over
  passed_over : (f : PlainField) (fs : List PlainField) → IsPassive kind f → last_offer f offers ≡ None
      → field_values which kind (f ∷ fs) offers ≡ field_values which kind fs offers
  passed_over f fs passive unsent =
      ap (λ o. with_field_value f.id (field_value which kind f o) (field_values which kind fs offers)) unsent
      ∙ ap₂ (λ b d. with_field_value f.id (cond b (Err (Missing which f.id)) (Ok d)) (field_values which kind fs offers)) passive.unneeded passive.no_default

  -- choices past the last declared field give nothing
  planned_past : (n : ℕ) (cs : List Choice) → ((k : ℕ) → slice_get all (n + k) ≡ None) → AreFrom n cs → planned_fields which kind all offers cs ≡ Ok []
  planned_past n [] past from = refl
  planned_past n (c ∷ cs) past from =
      let low = from.0 in
      let place : c.place ≡ n + (c.place - n) = omega (arith, low) in
      ap (λ g. with_some (chosen_field which kind offers c g) (planned_fields which kind all offers cs)) (ap (slice_get all) place ∙ past (c.place - n))
      ∙ planned_past n cs past from.1

  -- the choices behind one suit what stands behind its field
  Suits-behind : (n : ℕ) (c : Choice) (cs : List Choice) (q : ℕ) (f : PlainField) → c.place ≡ n → n + 1 ≤ q → Suits kind offers (c ∷ cs) q f → Suits kind offers cs q f
  Suits-behind n c cs q f at low suits =
      let other : c.place ≡ q → ⊥ = λ e. omega (arith, e, at, low) in record {
        sent = ap (offer_of offers) (sym (no_second (latest_at q cs)) ∙ ap (first_known (latest_at q cs)) (sym (other_here q c other))) ∙ suits.sent;
        passive = λ lacks. suits.passive (ap₂ (λ a b. a || b) (ne_eqb c.place q other) lacks);
      }
    where
      no_second : (x : Option (Option ℕ)) → first_known x None ≡ x
      no_second (Some x) = refl
      no_second None = refl

  planned_from : (n : ℕ) (fs : List PlainField) (cs : List Choice) → ((k : ℕ) → slice_get all (n + k) ≡ slice_get fs k) → IsRisingBy place_cmp cs → AreFrom n cs
      → AllAt (Suits kind offers cs) n fs → planned_fields which kind all offers cs ≡ field_values which kind fs offers
  planned_from n [] cs here rising from suits = planned_past n cs here from
  planned_from n (f ∷ fs) [] here rising from suits =
      planned_from (n + 1) fs [] (λ k. ap (slice_get all) (omega arith) ∙ here (suc k)) tt tt suits.1
      ∙ sym (passed_over f fs (suits.0.passive refl) (sym suits.0.sent))
  planned_from n (f ∷ fs) (c ∷ cs) here rising from suits =
      ⊎_elim
      (λ own.
      let at : c.place ≡ n + 0 = omega (arith, own.1) in
      let low = from.0 in
      let behind : AreFrom (n + 1) cs = AreFrom-behind n c cs low rising.0 in
      let lacks : latest_at n cs ≡ None = latest_at-none n cs (AreFrom-next n cs behind) in
      let named : latest_at n (c ∷ cs) ≡ Some c.sent = ap₂ first_known lacks (own_here n c own.1) in
      let sent : offer_at offers c.sent ≡ last_offer f offers = ap (offer_of offers) (sym named) ∙ suits.0.sent in
      let rest : planned_fields which kind all offers cs ≡ field_values which kind fs offers =
      planned_from (n + 1) fs cs (λ k. ap (slice_get all) (omega arith) ∙ here (suc k)) rising.1 behind
      (AllAt-from (Suits kind offers (c ∷ cs)) (Suits kind offers cs) (n + 1) fs (λ q g high s. Suits-behind n c cs q g own.1 high s) suits.1) in
      ap (λ g. with_some (chosen_field which kind offers c g) (planned_fields which kind all offers cs)) (ap (slice_get all) at ∙ here zero)
      ∙ ap₂ (λ o more. with_field_value f.id (field_value which kind f o) more) sent rest)
      (λ other.
      let low = from.0 in
      let high : n + 1 ≤ c.place = omega (arith, low, other.1) in
      let behind : AreFrom (n + 1) (c ∷ cs) = (high, AreFrom-low n c cs rising.0 high) in
      let lacks : has_choice n (c ∷ cs) ≡ false = AreFrom-next n (c ∷ cs) behind in
      let unsent : last_offer f offers ≡ None = sym suits.0.sent ∙ ap (offer_of offers) (latest_at-none n (c ∷ cs) lacks) in
      planned_from (n + 1) fs (c ∷ cs) (λ k. ap (slice_get all) (omega arith) ∙ here (suc k)) rising behind suits.1
      ∙ sym (passed_over f fs (suits.0.passive lacks) unsent))
      (eqb_tells c.place n)

  -- a plan gives the fields that the declared ones have
  pub plan_gives : (cs : List Choice) → IsPlanFor kind all offers cs → planned_fields which kind all offers cs ≡ field_values which kind all offers
  plan_gives cs plan = planned_from 0 all cs (λ k. ap (slice_get all) (omega arith)) plan.rising (from_zero cs) plan.suits
    where
      from_zero : (ds : List Choice) → AreFrom 0 ds
      from_zero [] = tt
      from_zero (d ∷ ds) = (omega arith, from_zero ds)

-- what isn't true of a test
not_so : (b : Bool) (h : Bool) → (b ≡ true → h ≡ true) → h ≡ false → b ≡ false
not_so true h f e = absurd (true≢false (sym (f refl) ∙ e))
not_so false h f e = refl

back_lacks : (q : ℕ) (xs ys : List Choice) → has_choice q (xs ++ ys) ≡ false → has_choice q ys ≡ false
back_lacks q [] ys lacks = lacks
back_lacks q (x ∷ xs) ys lacks = back_lacks q xs ys (second (x.place == q) (has_choice q (xs ++ ys)) lacks)
  where
    second : (a b : Bool) → (a || b) ≡ false → b ≡ false
    second true b e = absurd (true≢false e)
    second false b e = e

-- at the start the choices are those of what a struct needs
pub Follows-start : (s : PlainStruct) (offers : List Offer) (choices : List Choice) (required defaulted : List ℕ) → required ≡ (needs_of s).required → defaulted ≡ (needs_of s).defaulted
    → choices ≡ map unsent_choice required ++ map unsent_choice defaulted → AllAt (Follows s.kind offers choices offers) 0 s.fields
Follows-start s offers choices required defaulted r d is =
    AllAt-both (λ q f. is_required_field f ≡ true → has_choice q (map unsent_choice (needs_of s).required) ≡ true)
    (λ q f. is_defaulted_field s.kind f ≡ true → has_choice q (map unsent_choice (needs_of s).defaulted) ≡ true)
    (Follows s.kind offers choices offers)
    (λ q f one other. follows q f one other) 0 s.fields (listed_places is_required_field 0 s.fields) (listed_places (is_defaulted_field s.kind) 0 s.fields)
  where
    both : choices ≡ map unsent_choice (needs_of s).required ++ map unsent_choice (needs_of s).defaulted
    both = is ∙ ap₂ (λ x y. map unsent_choice x ++ map unsent_choice y) r d

    whole : choices ≡ map unsent_choice ((needs_of s).required ++ (needs_of s).defaulted)
    whole = both ∙ sym (map-append unsent_choice (needs_of s).required (needs_of s).defaulted)

    defaults : (f : PlainField) → is_required f.need ≡ false → is_defaulted_field s.kind f ≡ false → counted_default s.kind f ≡ None
    defaults f unneeded e = nothing (counted_default s.kind f) (ap (λ b. not b && is_some (counted_default s.kind f)) (sym unneeded) ∙ e)
      where
        nothing : (o : Option Tree) → is_some o ≡ false → o ≡ None
        nothing (Some x) e = absurd (true≢false e)
        nothing None e = refl

    follows : (q : ℕ) (f : PlainField) → (is_required_field f ≡ true → has_choice q (map unsent_choice (needs_of s).required) ≡ true)
        → (is_defaulted_field s.kind f ≡ true → has_choice q (map unsent_choice (needs_of s).defaulted) ≡ true) → Follows s.kind offers choices offers q f
    follows q f one other = record {
      sent = ap (λ o. last_offer_behind f o offers) (ap (λ cs. offer_of offers (latest_at q cs)) whole ∙ unsent_named s.kind offers q ((needs_of s).required ++ (needs_of s).defaulted));
      passive = λ lacks.
          let all : has_choice q (map unsent_choice (needs_of s).required ++ map unsent_choice (needs_of s).defaulted) ≡ false = ap (has_choice q) (sym both) ∙ lacks in
          let unneeded : is_required f.need ≡ false = not_so (is_required f.need) (has_choice q (map unsent_choice (needs_of s).required)) one (front_lacks q (map unsent_choice (needs_of s).required) (map unsent_choice (needs_of s).defaulted) all) in record {
            unneeded = unneeded;
            no_default = defaults f unneeded (not_so (is_defaulted_field s.kind f) (has_choice q (map unsent_choice (needs_of s).defaulted)) other (back_lacks q (map unsent_choice (needs_of s).required) (map unsent_choice (needs_of s).defaulted) all));
          };
    }
