-- Choices of which no two name the same raw field.
use Rattle.std.proofs.Common.{◌≡◌, ℕ, ◌+◌, ◌<◌, List, [], ◌∷◌, ◌++◌, map, Option, Some, None, Ordering, Less, Equal, Greater, sym, ap, subst, ◌∙◌, append-nil, inl, inr, arith}
use Rattle.std.specs.Prelude.{IfSome, option_to_list}
use Rattle.std.specs.List.{AllByRecursion}
use Rattle.std.proofs.lemmas.List.{map-append}
use Rattle.struct_skew.specs.declared.plan.Choice.{Choice}
use Rattle.struct_skew.specs.Latest.{by_order, with_earlier, latest_of_each}
use Rattle.struct_skew.specs.Plan.{place_cmp, unsent_choice, IsThinned}
use Rattle.struct_skew.specs.TakenOut.{NameApart, AreApart, AreApartBelow}

apart_flipped : (c d : Choice) → NameApart c d → NameApart d c
apart_flipped c d apart i one other = apart i other one

-- what holds of all holds of those that are kept in order
module _ (cmp : Choice → Choice → Ordering) (P : Choice → Type 0) where
  all_earlier : (x : Choice) (ys : List Choice) → P x → AllByRecursion P ys → AllByRecursion P (with_earlier cmp x ys)
  all_earlier x [] own held = (own, tt)
  all_earlier x (y ∷ ys) own held = by (cmp x y) (all_earlier x ys own held.1)
    where
      by : (o : Ordering) → AllByRecursion P (with_earlier cmp x ys) → AllByRecursion P (by_order o (x ∷ (y ∷ ys)) (y ∷ ys) (y ∷ with_earlier cmp x ys))
      by Less rest = (own, held)
      by Equal rest = held
      by Greater rest = (held.0, rest)

  all_latest : (xs : List Choice) → AllByRecursion P xs → AllByRecursion P (latest_of_each cmp xs)
  all_latest [] held = tt
  all_latest (x ∷ xs) held = all_earlier x (latest_of_each cmp xs) held.0 (all_latest xs held.1)

module _ (cmp : Choice → Choice → Ordering) where
  apart_earlier : (x : Choice) (ys : List Choice) → AllByRecursion (NameApart x) ys → AreApart ys → AreApart (with_earlier cmp x ys)
  apart_earlier x [] own apart = (tt, tt)
  apart_earlier x (y ∷ ys) own apart = by (cmp x y) (apart_earlier x ys own.1 apart.1)
    where
      by : (o : Ordering) → AreApart (with_earlier cmp x ys) → AreApart (by_order o (x ∷ (y ∷ ys)) (y ∷ ys) (y ∷ with_earlier cmp x ys))
      by Less rest = (own, apart)
      by Equal rest = apart
      by Greater rest = (all_earlier cmp (NameApart y) x ys (apart_flipped x y own.0) apart.0, rest)

  apart_latest : (xs : List Choice) → AreApart xs → AreApart (latest_of_each cmp xs)
  apart_latest [] apart = tt
  apart_latest (x ∷ xs) apart = apart_earlier x (latest_of_each cmp xs) (all_latest cmp (NameApart x) xs apart.0) (apart_latest xs apart.1)

below_more : (n : ℕ) (sent : Option ℕ) → IfSome sent (λ i. i < n) → IfSome sent (λ i. i < n + 1)
below_more n None low = tt
below_more n (Some i) low = omega (arith, low)

-- one choice more, of the raw field at the number
one_below : (n : ℕ) (cs : List Choice) (c : Choice) → c.sent ≡ Some n → AllByRecursion (λ (d : Choice). IfSome d.sent (λ i. i < n)) cs
    → AllByRecursion (λ (d : Choice). IfSome d.sent (λ i. i < n + 1)) (cs ++ c ∷ [])
one_below n [] c named low = (subst (λ o. IfSome o (λ i. i < n + 1)) (sym named) (omega arith), tt)
one_below n (d ∷ ds) c named low = (below_more n d.sent low.0, one_below n ds c named low.1)

apart_from : (n : ℕ) (d c : Choice) → c.sent ≡ Some n → IfSome d.sent (λ i. i < n) → NameApart d c
apart_from n d c named low i one other =
    let less : i < n = subst (λ o. IfSome o (λ k. k < n)) one low in
    let same : n ≡ i = cc in
    omega (arith, less, same)

all_apart_from : (d : Choice) (ds : List Choice) (c : Choice) → NameApart d c → AllByRecursion (NameApart d) ds → AllByRecursion (NameApart d) (ds ++ c ∷ [])
all_apart_from d [] c own held = (own, tt)
all_apart_from d (e ∷ es) c own held = (held.0, all_apart_from d es c own held.1)

one_apart : (n : ℕ) (cs : List Choice) (c : Choice) → c.sent ≡ Some n → AllByRecursion (λ (d : Choice). IfSome d.sent (λ i. i < n)) cs → AreApart cs → AreApart (cs ++ c ∷ [])
one_apart n [] c named low apart = (tt, tt)
one_apart n (d ∷ ds) c named low apart = (all_apart_from d ds c (apart_from n d c named low.0) apart.0, one_apart n ds c named low.1 apart.1)

all_below_more : (n : ℕ) (cs : List Choice) → AllByRecursion (λ (d : Choice). IfSome d.sent (λ i. i < n)) cs → AllByRecursion (λ (d : Choice). IfSome d.sent (λ i. i < n + 1)) cs
all_below_more n [] low = tt
all_below_more n (d ∷ ds) low = (below_more n d.sent low.0, all_below_more n ds low.1)

-- the choice that comes of the raw field at the number, if there is one
pub sent_apart : (n : ℕ) (into new : List Choice) (choice : Option Choice) → IfSome choice (λ c. c.sent ≡ Some n) → new ≡ into ++ option_to_list choice
    → AreApartBelow n into → AreApartBelow (n + 1) new
sent_apart n into new None named put apart =
    subst (AreApartBelow (n + 1)) (sym (put ∙ append-nil into)) (all_below_more n into apart.0, apart.1)
sent_apart n into new (Some c) named put apart =
    subst (AreApartBelow (n + 1)) (sym put) (one_below n into c named apart.0, one_apart n into c named apart.0 apart.1)

-- choices that are put in order, or stay as they are
pub thinned_apart : (n : ℕ) (old new : List Choice) → IsThinned old new → AreApartBelow n old → AreApartBelow n new
thinned_apart n old new (inl same) apart = subst (AreApartBelow n) (sym same) apart
thinned_apart n old new (inr ordered) apart =
    subst (AreApartBelow n) (sym ordered)
    (all_latest place_cmp (λ (d : Choice). IfSome d.sent (λ i. i < n)) old apart.0, apart_latest place_cmp old apart.1)

-- choices for which nothing is sent
unsent_below : (places : List ℕ) → AllByRecursion (λ (d : Choice). IfSome d.sent (λ i. i < 0)) (map unsent_choice places)
unsent_below [] = tt
unsent_below (p ∷ ps) = (tt, unsent_below ps)

unsent_apart_from : (p : ℕ) (places : List ℕ) → AllByRecursion (NameApart (unsent_choice p)) (map unsent_choice places)
unsent_apart_from p [] = tt
unsent_apart_from p (q ∷ qs) = (λ i one other. absurd cc, unsent_apart_from p qs)

unsent_apart : (places : List ℕ) → AreApart (map unsent_choice places)
unsent_apart [] = tt
unsent_apart (p ∷ ps) = (unsent_apart_from p ps, unsent_apart ps)

-- what is needed and what is sent, in order
pub planned_apart : (required defaulted : List ℕ) (start one two all plan : List Choice)
    → start ≡ [] → one ≡ start ++ map unsent_choice required → two ≡ one ++ map unsent_choice defaulted → (AreApartBelow 0 two → AreApart all)
    → plan ≡ latest_of_each place_cmp all → AreApart plan
planned_apart required defaulted start one two all plan none first second leads ordered =
    let both : two ≡ map unsent_choice (required ++ defaulted) =
    second ∙ ap (λ cs. cs ++ map unsent_choice defaulted) (first ∙ ap (λ cs. cs ++ map unsent_choice required) none) ∙ sym (map-append unsent_choice required defaulted) in
    subst AreApart (sym ordered)
    (apart_latest place_cmp all (leads (subst (AreApartBelow 0) (sym both) (unsent_below (required ++ defaulted), unsent_apart (required ++ defaulted)))))
