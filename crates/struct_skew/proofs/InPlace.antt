-- Items that are settled one by one, each in its own place.
use Rattle.std.proofs.Common.{◌≡◌, ℕ, zero, suc, ◌+◌, ◌<◌, ◌≤◌, List, [], ◌∷◌, ◌++◌, length, map, take, drop, get_or, slice_set, Result, Ok, Err, refl, sym, ap, subst, ◌∙◌, arith}
use Rattle.std.specs.Prelude.{⊤, max}
use Rattle.std.proofs.lemmas.List.{drop-drop, drop-set-lt, length-set, map-append, set-set, take_all, take_more_set}
use Rattle.std.proofs.Math.Nat.{le-max_left, le-max_right}
use Rattle.struct_skew.specs.declared.fault.SkewFault.{SkewFault}
use Rattle.struct_skew.specs.Answering.{SkewsOrNoMemory, ProjectsOrNoMemory, PutsAt}
use Rattle.struct_skew.specs.Results.{with_first}
use Rattle.struct_skew.proofs.Steps.{all_gathered, behind, behind_first, in_front, skews_on}

-- The items in front of a place are settled, and those behind it stand as they came. What the whole means is what those in front are,
-- and what the others mean.
pub record AreSettledTo {A B : Type 0} (view : A → B) (F : List A → Result (List B) SkewFault) (old now : List A) (i : ℕ) : Type 0 where
  pub size : length now ≡ length old
  pub left : drop i now ≡ drop i old
  pub kept : behind (map view (take i now)) (F (drop i old)) ≡ F old

behind_none : {B : Type 0} (r : Result (List B) SkewFault) → behind [] r ≡ r
behind_none (Ok ys) = refl
behind_none (Err e) = refl

-- at the start none is settled
pub settled_none : {A B : Type 0} (view : A → B) (F : List A → Result (List B) SkewFault) (items : List A) → AreSettledTo view F items items 0
settled_none view F items = record { size = refl; left = refl; kept = behind_none (F items) }

-- the item that is taken out stands in front of those that came behind it
pub front_of : {A : Type 0} (old now : List A) (i : ℕ) (x : A) → i < length now → ((d : A) → x ≡ get_or now i d) → drop i now ≡ drop i old → drop i old ≡ x ∷ drop (i + 1) old
front_of old now i x low here left =
    let next : drop (i + 1) now ≡ drop (i + 1) old = sym (drop-drop 1 i now) ∙ ap (drop 1) left ∙ drop-drop 1 i old in
    sym left ∙ in_front now i x low (here x) ∙ ap (λ xs. x ∷ xs) next

module _ {A B : Type 0} (view : A → B) (F : List A → Result (List B) SkewFault) (m : A → Result B SkewFault) (step : (x : A) (xs : List A) → F (x ∷ xs) ≡ with_first (m x) (F xs))
    (old now taken new : List A) (i : ℕ) (x hole : A) (low : i < length now) (here : (d : A) → x ≡ get_or now i d) (took : taken ≡ slice_set now i hole) where
  -- what the others mean, with that of the one that was taken out
  next_means : drop i now ≡ drop i old → with_first (m x) (F (drop (i + 1) old)) ≡ F (drop i old)
  next_means left = sym (ap F (front_of old now i x low here left) ∙ step x (drop (i + 1) old))

  -- one item further
  pub settled_more : (found : Result A SkewFault) (out : Result ⊤ SkewFault) (u : ⊤) → ProjectsOrNoMemory view found (m x) → PutsAt i found out taken new → out ≡ Ok u
      → AreSettledTo view F old now i → AreSettledTo view F old new (i + 1)
  settled_more (Ok y) out u means put went so =
      let is : new ≡ slice_set now i y = put.1 ∙ ap (λ zs. slice_set zs i y) took ∙ set-set now i hole y in
      let made : map view (take (i + 1) new) ≡ map view (take i now) ++ view y ∷ [] =
      ap (λ zs. map view (take (i + 1) zs)) is ∙ ap (map view) (take_more_set now i y low) ∙ map-append view (take i now) (y ∷ []) in
      record {
        size = ap length is ∙ length-set now i y ∙ so.size;
        left = ap (drop (i + 1)) is ∙ drop-set-lt (i + 1) now i y (omega arith) ∙ sym (drop-drop 1 i now) ∙ ap (drop 1) so.left ∙ drop-drop 1 i old;
        kept = ap (λ ys. behind ys (F (drop (i + 1) old))) made
            ∙ sym (behind_first (map view (take i now)) (view y) (F (drop (i + 1) old)))
            ∙ ap (λ r. behind (map view (take i now)) (with_first r (F (drop (i + 1) old)))) (sym means)
            ∙ ap (behind (map view (take i now))) (next_means so.left) ∙ so.kept;
      }
  settled_more (Err e) out u means put went so = absurd cc

  -- its fault is that of all
  pub settled_fault : (found : Result A SkewFault) (out : Result ⊤ SkewFault) (e : SkewFault) → ProjectsOrNoMemory view found (m x) → PutsAt i found out taken new → out ≡ Err e
      → AreSettledTo view F old now i → SkewsOrNoMemory e (F old)
  settled_fault (Ok y) out e means put went so = absurd (let no = put.0 in cc)
  settled_fault (Err f) out e means put went so =
      let same : f ≡ e = cc in
      subst (λ g. SkewsOrNoMemory g (F old)) same
      (skews_on f (m x) (F old)
      (λ is. sym so.kept ∙ ap (behind (map view (take i now))) (sym (next_means so.left) ∙ ap (λ r. with_first r (F (drop (i + 1) old))) is))
      means)

-- at the end all are settled
pub settled_all : {A B : Type 0} (view : A → B) (F : List A → Result (List B) SkewFault) (old now : List A) (i : ℕ) → F [] ≡ Ok [] → length now ≤ i
    → AreSettledTo view F old now i → F old ≡ Ok (map view now)
settled_all view F old now i none end so =
    all_gathered view (F old) F old i (take i now) none (subst (λ n. n ≤ i) so.size end) so.kept ∙ ap (λ ys. Ok (map view ys)) (take_all i now end)

-- what stands at a place has no more than all
pub one_within : {A : Type 0} (d : A → ℕ) (D : List A → ℕ) → ((x : A) (xs : List A) → D (x ∷ xs) ≡ max (d x) (D xs))
    → (xs : List A) (i : ℕ) (x : A) (rest : List A) (n : ℕ) → drop i xs ≡ x ∷ rest → D xs ≤ n → d x ≤ n
one_within d D step [] zero x rest n is most = absurd cc
one_within d D step [] (suc i) x rest n is most = absurd cc
one_within d D step (y ∷ ys) zero x rest n is most =
    let same : y ≡ x = cc in
    let all = step y ys in
    let one = le-max_left (d y) (D ys) in
    subst (λ z. d z ≤ n) same (omega (arith, all, one, most))
one_within d D step (y ∷ ys) (suc i) x rest n is most =
    let all = step y ys in
    let more = le-max_right (d y) (D ys) in
    one_within d D step ys i x rest n is (omega (arith, all, more, most))
