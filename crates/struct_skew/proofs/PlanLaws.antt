-- Plans: what is sent for each declared field, and what comes of the fields that are passed over.
use Rattle.std.proofs.Common.{◌≡◌, ℕ, ◌+◌, ◌<◌, ⊎_elim, Bool, true, false, true≢false, cond, List, [], ◌∷◌, ◌++◌, map, Option, Some, None, Ordering, Less, Equal, Greater, refl, sym, ap, ap₂, ◌∙◌, subst, append-nil, eq-eqb, ne_eqb, arith}
use Rattle.std.specs.Prelude.{IfSome, ◌==◌, ◌||◌, if◌then◌else◌, option_to_list}
use Rattle.std.specs.List.{slice_get}
use Rattle.std.specs.Ordering.{MatchOrdering}
use Rattle.std.specs.Cmp.{IsTotalOrder}
use Rattle.std.proofs.lemmas.Cmp.{ranked, nat_cmp_total, on_total}
use Rattle.std.proofs.lemmas.Bool.Decides.{eqb_tells}
use Rattle.schema.specs.declared.types.FieldsKind.{FieldsKind}
use Rattle.schema.specs.PlainSchema.{PlainField}
use Rattle.struct_skew.specs.declared.plan.Choice.{Choice}
use Rattle.struct_skew.specs.Latest.{by_order, with_earlier, latest_of_each}
use Rattle.struct_skew.specs.Needs.{places_from}
use Rattle.struct_skew.specs.Offers.{Offer, is_offer_of, last_offer_behind}
use Rattle.struct_skew.specs.Plan.{AllAt, place_cmp, unsent_choice, is_choice_at, first_known, latest_at, has_choice, offer_at, offer_of, Suits, IsPlanFor, Follows}
use Rattle.struct_skew.proofs.LatestLaws.{IsRisingBy-latest}

-- choices are in a total order
pub place_total : IsTotalOrder place_cmp
place_total = on_total (λ (c : Choice). c.place) nat_cmp_total

-- what follows at each place
pub AllAt-then : {A : Type 0} (P Q : ℕ → A → Type 0) → ((q : ℕ) (x : A) → P q x → Q q x) → (n : ℕ) (xs : List A) → AllAt P n xs → AllAt Q n xs
AllAt-then P Q f n [] held = tt
AllAt-then P Q f n (x ∷ xs) held = (f n x held.0, AllAt-then P Q f (n + 1) xs held.1)

pub AllAt-both : {A : Type 0} (P R Q : ℕ → A → Type 0) → ((q : ℕ) (x : A) → P q x → R q x → Q q x) → (n : ℕ) (xs : List A) → AllAt P n xs → AllAt R n xs → AllAt Q n xs
AllAt-both P R Q f n [] one other = tt
AllAt-both P R Q f n (x ∷ xs) one other = (f n x one.0 other.0, AllAt-both P R Q f (n + 1) xs one.1 other.1)

-- a choice's part of what is sent at a place
abbrev pub here : ℕ → Choice → Option (Option ℕ)
here q c = if c.place == q then Some c.sent else None

nothing_first : {A : Type 0} (x : Option A) → first_known x None ≡ x
nothing_first (Some x) = refl
nothing_first None = refl

-- one more choice behind the others
pub latest_at-push : (q : ℕ) (cs : List Choice) (c : Choice) → latest_at q (cs ++ c ∷ []) ≡ first_known (here q c) (latest_at q cs)
latest_at-push q [] c = sym (nothing_first (here q c))
latest_at-push q (d ∷ ds) c = ap (λ x. first_known x (here q d)) (latest_at-push q ds c) ∙ regrouped (here q c) (latest_at q ds) (here q d)
  where
    regrouped : (x y z : Option (Option ℕ)) → first_known (first_known x y) z ≡ first_known x (first_known y z)
    regrouped (Some x) y z = refl
    regrouped None y z = refl

-- a choice of another place says nothing here
pub other_here : (q : ℕ) (c : Choice) → (c.place ≡ q → ⊥) → here q c ≡ None
other_here q c other = ap (λ b. cond b (Some c.sent) None) (ne_eqb c.place q other)

pub own_here : (q : ℕ) (c : Choice) → c.place ≡ q → here q c ≡ Some c.sent
own_here q c own = ap (λ b. cond b (Some c.sent) None) (eq-eqb c.place q own)

neither : (a b : Bool) → (a || b) ≡ false → (a ≡ false) × (b ≡ false)
neither true b e = absurd (true≢false e)
neither false b e = (refl, e)

-- no choice, so nothing is sent
pub latest_at-none : (q : ℕ) (cs : List Choice) → has_choice q cs ≡ false → latest_at q cs ≡ None
latest_at-none q [] lacks = refl
latest_at-none q (c ∷ cs) lacks =
    let parts = neither (c.place == q) (has_choice q cs) lacks in
    ap₂ (λ x b. first_known x (cond b (Some c.sent) None)) (latest_at-none q cs parts.1) parts.0

pub none_latest_at : (q : ℕ) (cs : List Choice) → latest_at q cs ≡ None → has_choice q cs ≡ false
none_latest_at q [] none = refl
none_latest_at q (c ∷ cs) none =
    let parts = both_none (latest_at q cs) (here q c) none in
    ap₂ (λ a b. a || b) (no_test (c.place == q) c.sent parts.1) (none_latest_at q cs parts.0)
  where
    both_none : (x y : Option (Option ℕ)) → first_known x y ≡ None → (x ≡ None) × (y ≡ None)
    both_none (Some x) y e = absurd cc
    both_none None y e = (refl, e)

    no_test : (b : Bool) (s : Option ℕ) → cond b (Some s) None ≡ None → b ≡ false
    no_test true s e = absurd cc
    no_test false s e = refl

-- putting choices in order changes nothing of what is sent
same_place : (q : ℕ) (c d : Choice) (x : Option (Option ℕ)) → c.place ≡ d.place → first_known x (here q d) ≡ first_known (first_known x (here q d)) (here q c)
same_place q c d (Some x) same = refl
same_place q c d None same =
    ⊎_elim
    (λ own. own_here q d own.1 ∙ sym (ap (λ x. first_known x (here q c)) (own_here q d own.1)))
    (λ lacks. other_here q d lacks.1 ∙ sym (ap₂ first_known (other_here q d lacks.1) (other_here q c (λ e. lacks.1 (sym same ∙ e)))))
    (eqb_tells d.place q)

other_place : (q : ℕ) (c d : Choice) (x : Option (Option ℕ)) → d.place < c.place → first_known (first_known x (here q c)) (here q d) ≡ first_known (first_known x (here q d)) (here q c)
other_place q c d (Some x) below = refl
other_place q c d None below =
    ⊎_elim
    (λ own. let none : here q c ≡ None = other_here q c (λ e. omega (arith, e, own.1)) in
    ap (λ y. first_known y (here q d)) none ∙ sym (nothing_first (here q d)) ∙ ap (first_known (here q d)) (sym none))
    (λ lacks. let none : here q d ≡ None = other_here q d lacks.1 in
    ap (first_known (here q c)) none ∙ nothing_first (here q c) ∙ ap (λ y. first_known y (here q c)) (sym none))
    (eqb_tells d.place q)

latest_at-by : (o : Ordering) (q : ℕ) (c d : Choice) (ds : List Choice) → MatchOrdering o (c.place < d.place) (c.place ≡ d.place) (d.place < c.place)
    → latest_at q (with_earlier place_cmp c ds) ≡ first_known (latest_at q ds) (here q c)
    → latest_at q (by_order o (c ∷ (d ∷ ds)) (d ∷ ds) (d ∷ with_earlier place_cmp c ds)) ≡ first_known (latest_at q (d ∷ ds)) (here q c)
latest_at-by Less q c d ds order rest = refl
latest_at-by Equal q c d ds order rest = same_place q c d (latest_at q ds) order
latest_at-by Greater q c d ds order rest = ap (λ x. first_known x (here q d)) rest ∙ other_place q c d (latest_at q ds) order

latest_at-earlier : (q : ℕ) (c : Choice) (cs : List Choice) → latest_at q (with_earlier place_cmp c cs) ≡ first_known (latest_at q cs) (here q c)
latest_at-earlier q c [] = refl
latest_at-earlier q c (d ∷ ds) = latest_at-by (place_cmp c d) q c d ds (ranked c.place d.place (place_cmp c d) refl) (latest_at-earlier q c ds)

pub latest_at-in_order : (q : ℕ) (cs : List Choice) → latest_at q (latest_of_each place_cmp cs) ≡ latest_at q cs
latest_at-in_order q [] = refl
latest_at-in_order q (c ∷ cs) = latest_at-earlier q c (latest_of_each place_cmp cs) ∙ ap (λ x. first_known x (here q c)) (latest_at-in_order q cs)

-- of a longer list the front has no choice either
pub front_lacks : (q : ℕ) (xs ys : List Choice) → has_choice q (xs ++ ys) ≡ false → has_choice q xs ≡ false
front_lacks q [] ys lacks = refl
front_lacks q (x ∷ xs) ys lacks =
    let parts = neither (x.place == q) (has_choice q (xs ++ ys)) lacks in ap₂ (λ a b. a || b) parts.0 (front_lacks q xs ys parts.1)

module _ (kind : FieldsKind) (offers : List Offer) where
  named_offer : (choices : List Choice) (c : Choice) (o : Offer) (i q : ℕ) → slice_get offers i ≡ Some o → c.sent ≡ Some i
      → offer_of offers (latest_at q (choices ++ c ∷ [])) ≡ cond (c.place == q) (Some o) (offer_of offers (latest_at q choices))
  named_offer choices c o i q at sent =
      ap (offer_of offers) (latest_at-push q choices c) ∙ by_test (c.place == q)
    where
      by_test : (b : Bool) → offer_of offers (first_known (cond b (Some c.sent) None) (latest_at q choices)) ≡ cond b (Some o) (offer_of offers (latest_at q choices))
      by_test true = ap (offer_at offers) sent ∙ at
      by_test false = refl

  -- one more raw field, and the choice that comes of it, where one does
  pub Follows-more : (choices : List Choice) (o : Offer) (rest : List Offer) (i : ℕ) (choice : Option Choice) (q : ℕ) (f : PlainField)
      → slice_get offers i ≡ Some o → IfSome choice (λ c. c.sent ≡ Some i) → is_offer_of f o ≡ is_choice_at q choice
      → Follows kind offers choices (o ∷ rest) q f → Follows kind offers (choices ++ option_to_list choice) rest q f
  Follows-more choices o rest i None q f at sent is kept = record {
    sent = ap (λ cs. last_offer_behind f (offer_of offers (latest_at q cs)) rest) (append-nil choices)
        ∙ sym (ap (λ b. last_offer_behind f (cond b (Some o) (offer_of offers (latest_at q choices))) rest) is) ∙ kept.sent;
    passive = λ lacks. kept.passive (ap (has_choice q) (sym (append-nil choices)) ∙ lacks);
  }
  Follows-more choices o rest i (Some c) q f at sent is kept = record {
    sent = ap (λ x. last_offer_behind f x rest) (named_offer choices c o i q at sent)
        ∙ sym (ap (λ b. last_offer_behind f (cond b (Some o) (offer_of offers (latest_at q choices))) rest) is) ∙ kept.sent;
    passive = λ lacks. kept.passive (front_lacks q choices (c ∷ []) lacks);
  }

  -- choices in order, of each place the last, lead to the same
  pub Follows-in_order : (choices : List Choice) (rest : List Offer) (q : ℕ) (f : PlainField) → Follows kind offers choices rest q f → Follows kind offers (latest_of_each place_cmp choices) rest q f
  Follows-in_order choices rest q f kept = record {
    sent = ap (λ x. last_offer_behind f (offer_of offers x) rest) (latest_at-in_order q choices) ∙ kept.sent;
    passive = λ lacks. kept.passive (none_latest_at q choices (sym (latest_at-in_order q choices) ∙ latest_at-none q (latest_of_each place_cmp choices) lacks));
  }

  -- when no raw field is left, the choices in order are a plan
  Suits-in_order : (choices : List Choice) (q : ℕ) (f : PlainField) → Follows kind offers choices [] q f → Suits kind offers (latest_of_each place_cmp choices) q f
  Suits-in_order choices q f kept = record {
    sent = ap (offer_of offers) (latest_at-in_order q choices) ∙ kept.sent;
    passive = λ lacks. kept.passive (none_latest_at q choices (sym (latest_at-in_order q choices) ∙ latest_at-none q (latest_of_each place_cmp choices) lacks));
  }

  pub plan_in_order : (fields : List PlainField) (choices plan : List Choice) → AllAt (Follows kind offers choices []) 0 fields → plan ≡ latest_of_each place_cmp choices
      → IsPlanFor kind fields offers plan
  plan_in_order fields choices plan kept is =
      let P : List Choice → Type 0 = IsPlanFor kind fields offers in
      subst P (sym is) (record {
        rising = IsRisingBy-latest place_cmp place_total choices;
        suits = AllAt-then (Follows kind offers choices []) (Suits kind offers (latest_of_each place_cmp choices)) (Suits-in_order choices) 0 fields kept;
      })

  -- at the start the choices are those of what is needed
  pub unsent_named : (q : ℕ) (places : List ℕ) → offer_of offers (latest_at q (map unsent_choice places)) ≡ None
  unsent_named q [] = refl
  unsent_named q (p ∷ ps) = by_parts (latest_at q (map unsent_choice ps)) (p == q) (unsent_named q ps)
    where
      by_parts : (x : Option (Option ℕ)) (b : Bool) → offer_of offers x ≡ None → offer_of offers (first_known x (cond b (Some None) None)) ≡ None
      by_parts (Some s) b e = e
      by_parts None true e = refl
      by_parts None false e = refl

-- a place that is among those listed has a choice
has_first : (b : Bool) (x : Bool) → x ≡ true → (b || x) ≡ true
has_first true x e = refl
has_first false x e = e

has_more : (q : ℕ) (b : Bool) (n : ℕ) (places : List ℕ) → has_choice q (map unsent_choice places) ≡ true
    → has_choice q (map unsent_choice (cond b (n ∷ places) places)) ≡ true
has_more q true n places held = has_first (n == q) (has_choice q (map unsent_choice places)) held
has_more q false n places held = held

has_itself : (n : ℕ) (b : Bool) (places : List ℕ) → b ≡ true → has_choice n (map unsent_choice (cond b (n ∷ places) places)) ≡ true
has_itself n true places e = ap (λ t. t || has_choice n (map unsent_choice places)) (eq-eqb n n refl)
has_itself n false places e = absurd (true≢false (sym e))

pub listed_places : (test : PlainField → Bool) (n : ℕ) (fields : List PlainField)
    → AllAt (λ q f. test f ≡ true → has_choice q (map unsent_choice (places_from test n fields)) ≡ true) n fields
listed_places test n [] = tt
listed_places test n (f ∷ fs) = (
  has_itself n (test f) (places_from test (n + 1) fs),
  AllAt-then (λ q g. test g ≡ true → has_choice q (map unsent_choice (places_from test (n + 1) fs)) ≡ true)
      (λ q g. test g ≡ true → has_choice q (map unsent_choice (cond (test f) (n ∷ places_from test (n + 1) fs) (places_from test (n + 1) fs))) ≡ true)
      (λ q g held e. has_more q (test f) n (places_from test (n + 1) fs) (held e)) (n + 1) fs (listed_places test (n + 1) fs),
)
