-- What makes a table of places, and what tables tell.
use Rattle.std.proofs.Common.{◌≡◌, ℕ, zero, suc, ◌+◌, ◌<◌, ◌≤◌, Bool, true, false, not, ◌&&◌, List, [], ◌∷◌, ◌++◌, length, map, take, take_all, get_or, refl, sym, ap, ◌∙◌, subst, ⊎_elim, arith}
use Rattle.std.specs.Prelude.{All, nat_lt, ◌==◌, ◌||◌, IsPermutation}
use Rattle.std.specs.List.{list_all, list_any, AllZip}
use Rattle.std.specs.List.Sorted.{IsSortedBy}
use Rattle.std.proofs.lemmas.Grind.{common_steps}
use Rattle.std.proofs.lemmas.List.{map-append}
use Rattle.std.proofs.lemmas.List.Folds.{list_any-append}
use Rattle.std.proofs.lemmas.Bool.{eq-eqb, or_left, or_right, and_parts, and_from, not-true, not_from_false, cases_order, lt-ltb, ltb-true}
use Rattle.std.proofs.lemmas.List.Elements.{All-weaker}
use Rattle.std.proofs.lemmas.List.Sorted.{All-permutation, list_any-IsPermutation}
use Rattle.std.proofs.lemmas.List.Sums.{AllPass-from_list_all, list_all-from_AllPass}
use Rattle.schema.specs.Inherited.{own_functions}
use Rattle.schema.specs.PlainSchema.{PlainFunction, PlainService}
use Rattle.schema.specs.declared.types.ServiceDesc.{ServiceDesc}
use Rattle.schema.specs.SchemaOf.{plain_service}
use Rattle.processor.specs.Tables.{has_all_below, is_placed_before, is_table, are_tables, table_at, rises, rises_from}

-- each number below n is one of these
pub all_below : (n : ℕ) (numbers : List ℕ) → ((k : ℕ) → k < n → list_any (λ number. number == k) numbers ≡ true) → has_all_below n numbers ≡ true
all_below zero numbers each = refl
all_below (suc n) numbers each =
    and_from (list_any (λ number. number == n) numbers) (has_all_below n numbers) (each n (omega arith)) (all_below n numbers (λ k low. each k (omega arith)))

-- one place more
pub place_more : (n number : ℕ) (places new : List ℕ) → ((k : ℕ) → k < n → list_any (λ place. place == k) places ≡ true) → number ≡ n → new ≡ places ++ number ∷ []
    → (k : ℕ) → k < n + 1 → list_any (λ place. place == k) new ≡ true
place_more n number places new each same is k low =
    let before : Bool = list_any (λ place. place == k) places in
    let more : list_any (λ place. place == k) new ≡ (before || (number == k || false)) = ap (list_any (λ place. place == k)) is ∙ list_any-append (λ place. place == k) places (number ∷ []) in
    more ∙ ⊎_elim
    (λ e. or_right before (number == k || false) (or_left (number == k) false (eq-eqb number k (same ∙ sym e))))
    (λ side. ⊎_elim (λ less. or_left before (number == k || false) (each k less)) (λ above. absurd (omega (arith, low, above))) side)
    (cases_order k n)

pub one_below : (n : ℕ) (numbers : List ℕ) → has_all_below n numbers ≡ true → (k : ℕ) → k < n → list_any (λ number. number == k) numbers ≡ true
one_below zero numbers all k low = absurd (omega (arith, low))
one_below (suc n) numbers all k low =
    let parts = and_parts (list_any (λ number. number == n) numbers) (has_all_below n numbers) all in
    ⊎_elim (λ same. subst (λ m. list_any (λ number. number == m) numbers ≡ true) (sym same) parts.0)
    (λ side. ⊎_elim (λ below. one_below n numbers parts.1 k below) (λ above. absurd (omega (arith, low, above))) side)
    (cases_order k n)

-- numbers in order
in_order_from : (before : ℕ → ℕ → Bool) (first : ℕ) (more : List ℕ)
    → ((k d : ℕ) → suc k < length (first ∷ more) → before (get_or (first ∷ more) (suc k) d) (get_or (first ∷ more) k d) ≡ false) → rises_from before first more ≡ true
in_order_from before first [] sorted = refl
in_order_from before first (next ∷ more) sorted =
    and_from (not (before next first)) (rises_from before next more) (not_from_false (before next first) (sorted 0 first (omega arith)))
    (in_order_from before next more (λ k d low. sorted (suc k) d (omega (arith, low))))

pub in_order : (before : ℕ → ℕ → Bool) (numbers : List ℕ) → IsSortedBy before numbers → rises before numbers ≡ true
in_order before [] sorted = refl
in_order before (first ∷ more) sorted =
    in_order_from before first more (λ k d low.
    let next : k + 1 ≡ suc k = omega arith in
    subst (λ m. before (get_or (first ∷ more) m d) (get_or (first ∷ more) k d) ≡ false) next (sorted k d (omega arith) (omega (arith, low))))

sorted_from : (before : ℕ → ℕ → Bool) (first : ℕ) (more : List ℕ) → rises_from before first more ≡ true
    → (k d : ℕ) → suc k < length (first ∷ more) → before (get_or (first ∷ more) (suc k) d) (get_or (first ∷ more) k d) ≡ false
sorted_from before first [] rising k d low = absurd (omega (arith, low))
sorted_from before first (next ∷ more) rising zero d low =
    not-true (before next first) (and_parts (not (before next first)) (rises_from before next more) rising).0
sorted_from before first (next ∷ more) rising (suc k) d low =
    sorted_from before next more (and_parts (not (before next first)) (rises_from before next more) rising).1 k d (omega (arith, low))

pub sorted : (before : ℕ → ℕ → Bool) (numbers : List ℕ) → rises before numbers ≡ true → IsSortedBy before numbers
sorted before [] rising k d from low = absurd (omega (arith, low))
sorted before (first ∷ more) rising k d from low =
    let next : suc k ≡ k + 1 = omega arith in
    subst (λ m. before (get_or (first ∷ more) m d) (get_or (first ∷ more) k d) ≡ false) next (sorted_from before first more rising k d (omega (arith, low)))

-- places in order, sorted, are a table
pub tabled : (functions : List PlainFunction) (n : ℕ) (places sorted_places : List ℕ) → length functions ≡ n
    → ((k : ℕ) → k < n → list_any (λ place. place == k) places ≡ true) → All (λ place. place < n) places
    → IsPermutation places sorted_places → IsSortedBy (is_placed_before functions) sorted_places → is_table functions sorted_places ≡ true
tabled functions n places sorted_places long each within moved by_name =
    let all : has_all_below (length functions) sorted_places ≡ true =
    all_below (length functions) sorted_places (λ k low. sym (list_any-IsPermutation (λ place. place == k) places sorted_places moved) ∙ each k (omega (arith, long, low))) in
    let few : list_all (λ place. nat_lt place (length functions)) sorted_places ≡ true =
    list_all-from_AllPass (λ place. nat_lt place (length functions)) sorted_places
    (All-permutation (λ place. nat_lt place (length functions) ≡ true) places sorted_places moved
    (All-weaker (λ place. place < n) (λ place. nat_lt place (length functions) ≡ true) (λ place low. lt-ltb place (length functions) (omega (arith, long, low))) places within)) in
    and_from (has_all_below (length functions) sorted_places) _ all
    (and_from (list_all (λ place. nat_lt place (length functions)) sorted_places) _ few (in_order (is_placed_before functions) sorted_places by_name))

-- the three parts of a table
module _ (functions : List PlainFunction) (places : List ℕ) (is : is_table functions places ≡ true) where
  parts : (has_all_below (length functions) places ≡ true) × ((list_all (λ place. nat_lt place (length functions)) places && rises (is_placed_before functions) places) ≡ true)
  parts = and_parts (has_all_below (length functions) places) (list_all (λ place. nat_lt place (length functions)) places && rises (is_placed_before functions) places) is

  pub table_each : (k : ℕ) → k < length functions → list_any (λ place. place == k) places ≡ true
  table_each = one_below (length functions) places parts.0

  pub table_within : All (λ place. place < length functions) places
  table_within =
      All-weaker (λ place. nat_lt place (length functions) ≡ true) (λ place. place < length functions) (λ place low. ltb-true place (length functions) low) places
      (AllPass-from_list_all (λ place. nat_lt place (length functions)) places
      (and_parts (list_all (λ place. nat_lt place (length functions)) places) (rises (is_placed_before functions) places) parts.1).0)

  pub table_sorted : IsSortedBy (is_placed_before functions) places
  table_sorted =
      sorted (is_placed_before functions) places
      (and_parts (list_all (λ place. nat_lt place (length functions)) places) (rises (is_placed_before functions) places) parts.1).1

-- a table of each service
pub are_all_tables : (services : List PlainService) (tables : List (List ℕ))
    → AllZip (λ (service : PlainService) (table : List ℕ). is_table service.functions table ≡ true) services tables → are_tables services tables ≡ true
are_all_tables [] [] all = refl
are_all_tables [] (table ∷ tables) all = absurd all
are_all_tables (service ∷ services) [] all = absurd all
are_all_tables (service ∷ services) (table ∷ tables) all =
    and_from (is_table service.functions table) (are_tables services tables) all.0 (are_all_tables services tables all.1)

pub table_of_each : (services : List PlainService) (tables : List (List ℕ)) → are_tables services tables ≡ true
    → (which : ℕ) → is_table (own_functions services which) (table_at tables which) ≡ true
table_of_each [] [] are which = refl
table_of_each [] (table ∷ tables) are which = absurd cc
table_of_each (service ∷ services) [] are which = absurd cc
table_of_each (service ∷ services) (table ∷ tables) are zero = (and_parts (is_table service.functions table) (are_tables services tables) are).0
table_of_each (service ∷ services) (table ∷ tables) are (suc which) =
    table_of_each services tables (and_parts (is_table service.functions table) (are_tables services tables) are).1 which

abbrev AreTabled : List ServiceDesc → List (List ℕ) → Type 0
AreTabled services tables =
    AllZip (λ (service : PlainService) (table : List ℕ). is_table service.functions table ≡ true) (map plain_service services) tables

-- one table more
zipped_more : (services : List PlainService) (tables : List (List ℕ)) (service : PlainService) (table : List ℕ)
    → AllZip (λ (v : PlainService) (t : List ℕ). is_table v.functions t ≡ true) services tables → is_table service.functions table ≡ true
    → AllZip (λ (v : PlainService) (t : List ℕ). is_table v.functions t ≡ true) (services ++ service ∷ []) (tables ++ table ∷ [])
zipped_more [] [] service table all one = (one, tt)
zipped_more [] (t ∷ ts) service table all one = absurd all
zipped_more (v ∷ vs) [] service table all one = absurd all
zipped_more (v ∷ vs) (t ∷ ts) service table all one = (all.0, zipped_more vs ts service table all.1 one)

taken_more : {A : Type 0} (xs : List A) (n : ℕ) (x : A) → n < length xs → x ≡ get_or xs n x → take (n + 1) xs ≡ take n xs ++ x ∷ []
taken_more xs n x inside here = grind (arith, common_steps, here, inside)

pub one_table_more : (services : List ServiceDesc) (n : ℕ) (service : ServiceDesc) (old new : List (List ℕ)) (table : List ℕ)
    → n < length services → service ≡ get_or services n service → new ≡ old ++ table ∷ [] → is_table (plain_service service).functions table ≡ true
    → AreTabled (take n services) old → AreTabled (take (n + 1) services) new
one_table_more services n service old new table inside here pushed one so_far =
    let longer : map plain_service (take (n + 1) services) ≡ map plain_service (take n services) ++ plain_service service ∷ [] =
    ap (map plain_service) (taken_more services n service inside here) ∙ map-append plain_service (take n services) (service ∷ []) in
    subst (λ (vs : List PlainService). AllZip (λ (v : PlainService) (t : List ℕ). is_table v.functions t ≡ true) vs new) (sym longer)
    (subst (λ (ts : List (List ℕ)). AllZip (λ (v : PlainService) (t : List ℕ). is_table v.functions t ≡ true) (map plain_service (take n services) ++ plain_service service ∷ []) ts)
    (sym pushed) (zipped_more (map plain_service (take n services)) old (plain_service service) table so_far one))

pub all_taken : (services : List ServiceDesc) (tables : List (List ℕ)) (n : ℕ) → length services ≤ n → AreTabled (take n services) tables
    → are_tables (map plain_service services) tables ≡ true
all_taken services tables n over all = are_all_tables (map plain_service services) tables (subst (λ (vs : List ServiceDesc). AreTabled vs tables) (take_all n services (omega (arith, over))) all)
