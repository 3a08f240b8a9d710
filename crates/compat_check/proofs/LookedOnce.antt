-- Pairs that are looked at once, in rounds, against all that are reached.
use Rattle.std.proofs.Common.{◌≡◌, inl, inr, ℕ, zero, suc, ◌+◌, ◌-◌, ◌<◌, Bool, true, false, cond, List, [], ◌∷◌, ◌++◌, Option, Some, None, Ordering, Less, Equal, Greater, nat_cmp, refl, sym, ap, ap₂, subst, ◌∙◌, append_assoc, arith}
use Rattle.std.specs.Prelude.{◌⊎◌, flat_map, ◌&&◌, ◌||◌, ◌==◌}
use Rattle.std.specs.Bool.{beq}
use Rattle.std.specs.Option.{option_or}
use Rattle.std.specs.Ordering.{MatchOrdering}
use Rattle.std.proofs.lemmas.Cmp.{ranked}
use Rattle.std.specs.Cmp.{booleans_Decides}
use Rattle.std.proofs.lemmas.Bool.{false≢true, and_from, and_parts, eqb-true, eq-eqb}
use Rattle.compat_model.specs.Breaks.{PlainBreak, pair_break, break_in_round}
use Rattle.compat_model.specs.InOrder.{first_answer}
use Rattle.compat_model.specs.StructPairs.{SchemaChange, StructPair, pairs_within, pairs_reached}
use Rattle.compat_model.proofs.Standing.{StandsIn, stands_left, stands_right, stands_flat, none_answers}
use Rattle.compat_check.specs.Fresh.{is_same_pair, was_pair_seen, seen_with, seen_with_each, fresh_pairs, IsFirstOfRounds}

abbrev Pairs : Type 0
Pairs = List StructPair

-- pairs that are the same
same_pair : (p q : StructPair) → is_same_pair p q ≡ true → q ≡ p
same_pair p q e =
    let both = and_parts (beq p.backward q.backward) (p.from == q.from && p.to == q.to) e in
    let numbers = and_parts (p.from == q.from) (p.to == q.to) both.1 in
    let way = (booleans_Decides p.backward q.backward).0 both.0 in
    let one = eqb-true p.from q.from numbers.0 in
    let other = eqb-true p.to q.to numbers.1 in
    λ i. record { backward = sym way i; from = sym one i; to = sym other i }

pair_itself : (p : StructPair) → is_same_pair p p ≡ true
pair_itself p =
    and_from (beq p.backward p.backward) (p.from == p.from && p.to == p.to) ((booleans_Decides p.backward p.backward).1 refl)
    (and_from (p.from == p.from) (p.to == p.to) (eq-eqb p.from p.from refl) (eq-eqb p.to p.to refl))

seen_stands : (seen : Pairs) (p : StructPair) → was_pair_seen seen p ≡ true → StandsIn p seen
seen_stands [] p e = absurd (false≢true e)
seen_stands (q ∷ qs) p e = by_test (is_same_pair p q) refl (seen_stands qs p)
  where
    by_test : (b : Bool) → is_same_pair p q ≡ b → (was_pair_seen qs p ≡ true → StandsIn p qs) → (q ≡ p) ⊎ StandsIn p qs
    by_test true same rest = inl (same_pair p q same)
    by_test false other rest = inr (rest (sym (ap (λ b. b || was_pair_seen qs p) other) ∙ e))

standing_seen : (seen : Pairs) (p : StructPair) → StandsIn p seen → was_pair_seen seen p ≡ true
standing_seen [] p held = absurd held
standing_seen (q ∷ qs) p (inl same) = ap (λ b. b || was_pair_seen qs p) (ap (is_same_pair p) same ∙ pair_itself p)
standing_seen (q ∷ qs) p (inr behind) = either (is_same_pair p q) (standing_seen qs p behind)
  where
    either : (b : Bool) → was_pair_seen qs p ≡ true → (b || was_pair_seen qs p) ≡ true
    either true e = refl
    either false e = e

-- what stands among what was seen, with more
with_kept : (seen : Pairs) (p q : StructPair) → StandsIn q seen → StandsIn q (seen_with seen p)
with_kept seen p q held = by_test (was_pair_seen seen p)
  where
    by_test : (b : Bool) → StandsIn q (cond b seen (seen ++ p ∷ []))
    by_test true = held
    by_test false = stands_left q seen (p ∷ []) held

with_itself : (seen : Pairs) (p : StructPair) → StandsIn p (seen_with seen p)
with_itself seen p = by_test (was_pair_seen seen p) refl
  where
    by_test : (b : Bool) → was_pair_seen seen p ≡ b → StandsIn p (cond b seen (seen ++ p ∷ []))
    by_test true e = seen_stands seen p e
    by_test false e = stands_right p seen (p ∷ []) (inl refl)

in_parts : (q : StructPair) (xs ys : Pairs) → StandsIn q (xs ++ ys) → StandsIn q xs ⊎ StandsIn q ys
in_parts q [] ys held = inr held
in_parts q (x ∷ xs) ys (inl same) = inl (inl same)
in_parts q (x ∷ xs) ys (inr behind) = moved (in_parts q xs ys behind)
  where
    moved : StandsIn q xs ⊎ StandsIn q ys → ((x ≡ q) ⊎ StandsIn q xs) ⊎ StandsIn q ys
    moved (inl front) = inl (inr front)
    moved (inr back) = inr back

with_parts : (seen : Pairs) (p q : StructPair) → StandsIn q (seen_with seen p) → StandsIn q seen ⊎ (p ≡ q)
with_parts seen p q = by_test (was_pair_seen seen p)
  where
    single : StandsIn q seen ⊎ StandsIn q (p ∷ []) → StandsIn q seen ⊎ (p ≡ q)
    single (inl front) = inl front
    single (inr (inl same)) = inr same
    single (inr (inr never)) = absurd never

    by_test : (b : Bool) → StandsIn q (cond b seen (seen ++ p ∷ [])) → StandsIn q seen ⊎ (p ≡ q)
    by_test true held = inl held
    by_test false held = single (in_parts q seen (p ∷ []) held)

all_kept : (seen ps : Pairs) (q : StructPair) → StandsIn q seen → StandsIn q (seen_with_each seen ps)
all_kept seen [] q held = held
all_kept seen (p ∷ ps) q held = all_kept (seen_with seen p) ps q (with_kept seen p q held)

all_there : (seen ps : Pairs) (q : StructPair) → StandsIn q ps → StandsIn q (seen_with_each seen ps)
all_there seen [] q held = absurd held
all_there seen (p ∷ ps) q (inl same) = all_kept (seen_with seen p) ps q (subst (λ r. StandsIn r (seen_with seen p)) same (with_itself seen p))
all_there seen (p ∷ ps) q (inr behind) = all_there (seen_with seen p) ps q behind

all_parts : (seen ps : Pairs) (q : StructPair) → StandsIn q (seen_with_each seen ps) → StandsIn q seen ⊎ StandsIn q ps
all_parts seen [] q held = inl held
all_parts seen (p ∷ ps) q held = moved (all_parts (seen_with seen p) ps q held)
  where
    first : StandsIn q seen ⊎ (p ≡ q) → StandsIn q seen ⊎ ((p ≡ q) ⊎ StandsIn q ps)
    first (inl held) = inl held
    first (inr same) = inr (inl same)

    moved : StandsIn q (seen_with seen p) ⊎ StandsIn q ps → StandsIn q seen ⊎ ((p ≡ q) ⊎ StandsIn q ps)
    moved (inl one) = first (with_parts seen p q one)
    moved (inr behind) = inr (inr behind)

-- lists one behind the other
pub fresh_one : (seen : Pairs) (p : StructPair) (ps : Pairs) → fresh_pairs seen (p ∷ ps) ≡ fresh_pairs seen (p ∷ []) ++ fresh_pairs (seen_with seen p) ps
fresh_one seen p ps = by_test (was_pair_seen seen p)
  where
    by_test : (b : Bool) → cond b (fresh_pairs seen ps) (p ∷ fresh_pairs (cond b seen (seen ++ p ∷ [])) ps) ≡ cond b [] (p ∷ []) ++ fresh_pairs (cond b seen (seen ++ p ∷ [])) ps
    by_test true = refl
    by_test false = refl

fresh_parts : (seen xs ys : Pairs) → fresh_pairs seen (xs ++ ys) ≡ fresh_pairs seen xs ++ fresh_pairs (seen_with_each seen xs) ys
fresh_parts seen [] ys = refl
fresh_parts seen (x ∷ xs) ys =
    fresh_one seen x (xs ++ ys) ∙ ap (λ r. fresh_pairs seen (x ∷ []) ++ r) (fresh_parts (seen_with seen x) xs ys)
    ∙ sym (append_assoc (fresh_pairs seen (x ∷ [])) (fresh_pairs (seen_with seen x) xs) (fresh_pairs (seen_with_each (seen_with seen x) xs) ys))
    ∙ ap (λ r. r ++ fresh_pairs (seen_with_each (seen_with seen x) xs) ys) (sym (fresh_one seen x xs))

with_both : (seen xs ys : Pairs) → seen_with_each seen (xs ++ ys) ≡ seen_with_each (seen_with_each seen xs) ys
with_both seen [] ys = refl
with_both seen (x ∷ xs) ys = with_both (seen_with seen x) xs ys

-- what was taken so far, and what of the rest is fresh, is what is taken of all
pub record Takes (first_seen first_taken all seen taken rest : Pairs) : Type 0 where
  pub taken_is : taken ++ fresh_pairs seen rest ≡ first_taken ++ fresh_pairs first_seen all
  pub seen_is : seen_with_each seen rest ≡ seen_with_each first_seen all

pub takes_some : (first_seen first_taken all seen taken xs rest left new_seen new_taken : Pairs) → left ≡ xs ++ rest
    → new_taken ≡ taken ++ fresh_pairs seen xs → new_seen ≡ seen_with_each seen xs → Takes first_seen first_taken all seen taken left
    → Takes first_seen first_taken all new_seen new_taken rest
takes_some first_seen first_taken all seen taken xs rest left new_seen new_taken split takes sees so_far = record {
  taken_is =
      (λ i. takes i ++ fresh_pairs (sees i) rest)
      ∙ append_assoc taken (fresh_pairs seen xs) (fresh_pairs (seen_with_each seen xs) rest)
      ∙ ap (λ r. taken ++ r) (sym (fresh_parts seen xs rest))
      ∙ ap (λ ys. taken ++ fresh_pairs seen ys) (sym split)
      ∙ so_far.taken_is;
  seen_is =
      ap (λ s. seen_with_each s rest) sees
      ∙ sym (with_both seen xs rest)
      ∙ ap (seen_with_each seen) (sym split)
      ∙ so_far.seen_is;
}

-- pairs that were all seen change nothing
with_seen : (seen : Pairs) (p : StructPair) → StandsIn p seen → seen_with seen p ≡ seen
with_seen seen p held = ap (λ b. cond b seen (seen ++ p ∷ [])) (standing_seen seen p held)

seen_skipped : (seen ps : Pairs) → ((q : StructPair) → StandsIn q ps → StandsIn q seen) → (fresh_pairs seen ps ≡ []) × (seen_with_each seen ps ≡ seen)
seen_skipped seen [] all = (refl, refl)
seen_skipped seen (p ∷ ps) all =
    let rest = seen_skipped seen ps (λ q behind. all q (inr behind)) in (
      ap (λ b. cond b (fresh_pairs seen ps) (p ∷ fresh_pairs (seen_with seen p) ps)) (standing_seen seen p (all p (inl refl))) ∙ rest.0,
      ap (λ s. seen_with_each s ps) (with_seen seen p (all p (inl refl))) ∙ rest.1,
    )

-- where none are fresh, all were seen
none_fresh : (seen ps : Pairs) → fresh_pairs seen ps ≡ [] → (q : StructPair) → StandsIn q ps → StandsIn q seen
none_fresh seen [] none q held = absurd held
none_fresh seen (p ∷ ps) none q held = by_test (was_pair_seen seen p) refl held (none_fresh seen ps)
  where
    by_test : (b : Bool) → was_pair_seen seen p ≡ b → (p ≡ q) ⊎ StandsIn q ps → (fresh_pairs seen ps ≡ [] → (r : StructPair) → StandsIn r ps → StandsIn r seen) → StandsIn q seen
    by_test true e (inl same) rest = subst (λ r. StandsIn r seen) same (seen_stands seen p e)
    by_test true e (inr behind) rest = rest (sym (ap (λ b. cond b (fresh_pairs seen ps) (p ∷ fresh_pairs (seen_with seen p) ps)) e) ∙ none) q behind
    by_test false e either rest =
        let never : (p ∷ fresh_pairs (seen_with seen p) ps) ≡ [] = sym (ap (λ b. cond b (fresh_pairs seen ps) (p ∷ fresh_pairs (seen_with seen p) ps)) e) ∙ none in absurd cc

module _ (C : StructPair → Pairs) where
  -- the pairs that are held in those that were seen were seen too
  abbrev AreHeld : Pairs → Pairs → Type 0
  AreHeld before seen = (p q : StructPair) → StandsIn p before → StandsIn q (C p) → StandsIn q seen

  held_more : (before seen : Pairs) (x : StructPair) → AreHeld before seen → AreHeld (seen_with before x) (seen_with_each seen (C x))
  held_more before seen x held p q stands of_p = by_part (with_parts before x p stands)
    where
      by_part : StandsIn p before ⊎ (x ≡ p) → StandsIn q (seen_with_each seen (C x))
      by_part (inl first) = all_kept seen (C x) q (held p q first of_p)
      by_part (inr same) = all_there seen (C x) q (subst (λ r. StandsIn q (C r)) (sym same) of_p)

  -- what is held in pairs that were seen before needs no second look
  abbrev SameFresh : Pairs → Pairs → Pairs → Type 0
  SameFresh seen xs ys = (fresh_pairs seen xs ≡ fresh_pairs seen ys) × (seen_with_each seen xs ≡ seen_with_each seen ys)

  same_behind : (seen xs ys zs : Pairs) → SameFresh (seen_with_each seen xs) ys zs → SameFresh seen (xs ++ ys) (xs ++ zs)
  same_behind seen xs ys zs same = (
    fresh_parts seen xs ys ∙ ap (λ r. fresh_pairs seen xs ++ r) same.0 ∙ sym (fresh_parts seen xs zs),
    with_both seen xs ys ∙ same.1 ∙ sym (with_both seen xs zs),
  )

  skipped_first : (seen xs ys zs : Pairs) → ((q : StructPair) → StandsIn q xs → StandsIn q seen) → SameFresh seen ys zs → SameFresh seen ys (xs ++ zs)
  skipped_first seen xs ys zs all same =
      let none = seen_skipped seen xs all in (
        same.0 ∙ sym (fresh_parts seen xs zs ∙ ap₂ (λ (front : Pairs) (s : Pairs). front ++ fresh_pairs s zs) none.0 none.1),
        same.1 ∙ sym (with_both seen xs zs ∙ ap (λ s. seen_with_each s zs) none.1),
      )

  pub looked_once : (before seen xs : Pairs) → AreHeld before seen → SameFresh seen (flat_map C (fresh_pairs before xs)) (flat_map C xs)
  looked_once before seen [] held = (refl, refl)
  looked_once before seen (x ∷ xs) held =
      by_test (was_pair_seen before x) refl (looked_once before seen xs held) (looked_once (seen_with before x) (seen_with_each seen (C x)) xs (held_more before seen x held))
    where
      by_test : (b : Bool) → was_pair_seen before x ≡ b → SameFresh seen (flat_map C (fresh_pairs before xs)) (flat_map C xs)
          → SameFresh (seen_with_each seen (C x)) (flat_map C (fresh_pairs (seen_with before x) xs)) (flat_map C xs)
          → SameFresh seen (flat_map C (cond b (fresh_pairs before xs) (x ∷ fresh_pairs (seen_with before x) xs))) (flat_map C (x ∷ xs))
      by_test true e skipped taken =
          skipped_first seen (C x) (flat_map C (fresh_pairs before xs)) (flat_map C xs) (λ q of_x. held x q (seen_stands before x e) of_x) skipped
      by_test false e skipped taken = same_behind seen (C x) (flat_map C (fresh_pairs (seen_with before x) xs)) (flat_map C xs) taken

  -- no break is passed over among those that weren't seen
  module _ {B : Type 0} (F : StructPair → Option B) where
    pub fresh_answer : (before xs : Pairs) → ((p : StructPair) → StandsIn p before → F p ≡ None) → first_answer F (fresh_pairs before xs) ≡ first_answer F xs
    fresh_answer before [] none = refl
    fresh_answer before (x ∷ xs) none = by_test (was_pair_seen before x) refl (F x) refl (fresh_answer before xs none) (fresh_answer (seen_with before x) xs)
      where
        by_test : (b : Bool) → was_pair_seen before x ≡ b → (o : Option B) → F x ≡ o → first_answer F (fresh_pairs before xs) ≡ first_answer F xs
            → (((p : StructPair) → StandsIn p (seen_with before x) → F p ≡ None) → first_answer F (fresh_pairs (seen_with before x) xs) ≡ first_answer F xs)
            → first_answer F (cond b (fresh_pairs before xs) (x ∷ fresh_pairs (seen_with before x) xs)) ≡ option_or (F x) (first_answer F xs)
        by_test true e o is skipped taken = skipped ∙ ap (λ a. option_or a (first_answer F xs)) (sym (none x (seen_stands before x e)))
        by_test false e (Some b) is skipped taken =
            ap (λ a. option_or a (first_answer F (fresh_pairs (seen_with before x) xs))) is ∙ ap (λ a. option_or a (first_answer F xs)) (sym is)
        by_test false e None is skipped taken = ap (option_or (F x)) (taken still)
          where
            still : (p : StructPair) → StandsIn p (seen_with before x) → F p ≡ None
            still p held = by_part (with_parts before x p held)
              where
                by_part : StandsIn p before ⊎ (x ≡ p) → F p ≡ None
                by_part (inl first) = none p first
                by_part (inr same) = ap F (sym same) ∙ is

-- numbers below the next, and before or behind another
last_or_earlier : (k n : ℕ) → k < suc n → (k < n) ⊎ (k ≡ n)
last_or_earlier k n low = by_order (nat_cmp k n) (ranked k n (nat_cmp k n) refl)
  where
    by_order : (o : Ordering) → MatchOrdering o (k < n) (k ≡ n) (n < k) → (k < n) ⊎ (k ≡ n)
    by_order Less lower = inl lower
    by_order Equal same = inr same
    by_order Greater high = absurd (omega (arith, low, high))

before_or_behind : (k n : ℕ) → (k < n) ⊎ ((m : ℕ) × (k ≡ n + m))
before_or_behind k n = by_order (nat_cmp k n) (ranked k n (nat_cmp k n) refl)
  where
    by_order : (o : Ordering) → MatchOrdering o (k < n) (k ≡ n) (n < k) → (k < n) ⊎ ((m : ℕ) × (k ≡ n + m))
    by_order Less lower = inl lower
    by_order Equal same = inr (0, omega (arith, same))
    by_order Greater high = inr (k - n, omega (arith, high))

-- where no item has an answer, none is found
no_answers : {A B : Type 0} (f : A → Option B) (xs : List A) → ((x : A) → StandsIn x xs → f x ≡ None) → first_answer f xs ≡ None
no_answers f [] none = refl
no_answers f (x ∷ xs) none = ap₂ option_or (none x (inl refl)) (no_answers f xs (λ y behind. none y (inr behind)))

-- what is held in pairs stands in a list of pairs
of_flat : (C : StructPair → Pairs) (xs : Pairs) (q : StructPair) → StandsIn q (flat_map C xs) → (p : StructPair) × StandsIn p xs × StandsIn q (C p)
of_flat C [] q held = absurd held
of_flat C (x ∷ xs) q held = by_part (in_parts q (C x) (flat_map C xs) held) (of_flat C xs q)
  where
    by_part : StandsIn q (C x) ⊎ StandsIn q (flat_map C xs) → (StandsIn q (flat_map C xs) → (p : StructPair) × StandsIn p xs × StandsIn q (C p))
        → (p : StructPair) × StandsIn p (x ∷ xs) × StandsIn q (C p)
    by_part (inl of_x) rest = (x, inl refl, of_x)
    by_part (inr behind) rest = let found = rest behind in (found.0, inr found.1, found.2)

-- from a round on all was seen
still_seen : (ch : SchemaChange) (before : Pairs) (n : ℕ) → ((p : StructPair) → StandsIn p (pairs_reached ch n) → StandsIn p before)
    → ((p q : StructPair) → StandsIn p before → StandsIn q (pairs_within ch p) → StandsIn q before) → (m : ℕ) (p : StructPair) → StandsIn p (pairs_reached ch (n + m)) → StandsIn p before
still_seen ch before n all held zero p stands =
    let same : n + 0 ≡ n = omega arith in
    all p (subst (λ k. StandsIn p (pairs_reached ch k)) same stands)
still_seen ch before n all held (suc m) p stands =
    let same : n + suc m ≡ suc (n + m) = omega arith in
    let reached : StandsIn p (pairs_reached ch (suc (n + m))) = subst (λ k. StandsIn p (pairs_reached ch k)) same stands in
    let from = of_flat (pairs_within ch) (pairs_reached ch (n + m)) p reached in
    held from.0 p (still_seen ch before n all held m from.0 from.1) from.2

module _ (ch : SchemaChange) where
  abbrev C : StructPair → Pairs
  C = pairs_within ch

  abbrev F : StructPair → Option PlainBreak
  F = pair_break ch

  -- a round: what is looked at are the pairs reached that weren't seen before, and none of those that were has a break
  pub record IsRound (seen current : Pairs) (n : ℕ) : Type 0 where
    pub before : Pairs
    pub current_is : current ≡ fresh_pairs before (pairs_reached ch n)
    pub seen_is : seen ≡ seen_with_each before (pairs_reached ch n)
    pub fine : (p : StructPair) → StandsIn p before → F p ≡ None
    pub held : AreHeld C before seen
    pub earlier : (k : ℕ) → k < n → break_in_round ch (suc k) ≡ None

  this_round : (seen current : Pairs) (n : ℕ) → IsRound seen current n → first_answer F current ≡ break_in_round ch (suc n)
  this_round seen current n round = ap (first_answer F) round.current_is ∙ fresh_answer C F round.before (pairs_reached ch n) round.fine

  pub next_round : (seen current next after later : Pairs) (n : ℕ) → IsRound seen current n → first_answer F current ≡ None → next ≡ flat_map C current
      → after ≡ seen_with_each seen next → later ≡ fresh_pairs seen next → IsRound after later (n + 1)
  next_round seen current next after later n round none next_is after_is later_is =
      let same : suc n ≡ n + 1 = omega arith in
      subst (IsRound after later) same stepped
    where
      all : SameFresh C seen next (flat_map C (pairs_reached ch n))
      all =
          subst (λ xs. SameFresh C seen xs (flat_map C (pairs_reached ch n))) (sym (next_is ∙ ap (flat_map C) round.current_is))
          (looked_once C round.before seen (pairs_reached ch n) round.held)

      none_here : break_in_round ch (suc n) ≡ None
      none_here = sym (this_round seen current n round) ∙ none

      after_all : after ≡ seen_with_each seen (pairs_reached ch (suc n))
      after_all = after_is ∙ all.1

      of_seen : (p : StructPair) → StandsIn p seen → StandsIn p round.before ⊎ StandsIn p (pairs_reached ch n)
      of_seen p stands = all_parts round.before (pairs_reached ch n) p (subst (StandsIn p) round.seen_is stands)

      fine : (p : StructPair) → StandsIn p round.before ⊎ StandsIn p (pairs_reached ch n) → F p ≡ None
      fine p (inl first) = round.fine p first
      fine p (inr here) = none_answers F (pairs_reached ch n) p none_here here

      held : (p q : StructPair) → StandsIn p round.before ⊎ StandsIn p (pairs_reached ch n) → StandsIn q (C p) → StandsIn q (seen_with_each seen (pairs_reached ch (suc n)))
      held p q (inl first) of_p = all_kept seen (pairs_reached ch (suc n)) q (round.held p q first of_p)
      held p q (inr here) of_p = all_there seen (pairs_reached ch (suc n)) q (stands_flat C (pairs_reached ch n) p q here of_p)

      earlier : (k : ℕ) → k < suc n → break_in_round ch (suc k) ≡ None
      earlier k low = by_order (last_or_earlier k n low)
        where
          by_order : (k < n) ⊎ (k ≡ n) → break_in_round ch (suc k) ≡ None
          by_order (inl lower) = round.earlier k lower
          by_order (inr same) = ap (λ j. break_in_round ch (suc j)) same ∙ none_here

      stepped : IsRound after later (suc n)
      stepped = record {
        before = seen;
        current_is = later_is ∙ all.0;
        seen_is = after_all;
        fine = λ p stands. fine p (of_seen p stands);
        held = λ p q stands of_p. subst (StandsIn q) (sym after_all) (held p q (of_seen p stands) of_p);
        earlier = earlier;
      }

  -- a round without fresh pairs is the last
  pub last_round : (seen current : Pairs) (n : ℕ) → IsRound seen current n → current ≡ [] → IsFirstOfRounds ch None
  last_round seen current n round empty = λ k. by_order k (before_or_behind k n)
    where
      all : (p : StructPair) → StandsIn p (pairs_reached ch n) → StandsIn p round.before
      all = none_fresh round.before (pairs_reached ch n) (sym round.current_is ∙ empty)

      seen_before : seen ≡ round.before
      seen_before = round.seen_is ∙ (seen_skipped round.before (pairs_reached ch n) all).1

      all_behind : (m : ℕ) (p : StructPair) → StandsIn p (pairs_reached ch (n + m)) → StandsIn p round.before
      all_behind = still_seen ch round.before n all (λ p q stands of_p. subst (StandsIn q) seen_before (round.held p q stands of_p))

      by_order : (k : ℕ) → (k < n) ⊎ ((m : ℕ) × (k ≡ n + m)) → break_in_round ch (suc k) ≡ None
      by_order k (inl low) = round.earlier k low
      by_order k (inr far) = no_answers F (pairs_reached ch k) (λ p stands. round.fine p (all_behind far.0 p (subst (λ j. StandsIn p (pairs_reached ch j)) far.1 stands)))

  pub found_in_round : (seen current : Pairs) (n : ℕ) (b : PlainBreak) → IsRound seen current n → first_answer F current ≡ Some b → IsFirstOfRounds ch (Some b)
  found_in_round seen current n b round is = (n, sym (this_round seen current n round) ∙ is, round.earlier)
