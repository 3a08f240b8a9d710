-- What is kept of a list, which connections a tape opens, and that as many end as are opened.
use Rattle.std.proofs.Common.{◌≡◌, ℕ, zero, suc, ◌+◌, ◌<◌, ◌≤◌, ◌⊎◌, ◌==◌, Bool, true, false, cond, List, [], ◌∷◌, ◌++◌, length, get_or, refl, sym, ap, ◌∙◌, subst, inl, inr, arith, eq-eqb}
use Rattle.std.specs.List.{filter, AllByRecursion}
use Rattle.std.proofs.lemmas.Bool.{cases_eq, cases_lt, eqb-false}
use Rattle.std.proofs.lemmas.Grind.{flat_map-append}
use Rattle.std.proofs.lemmas.Option.{slice_get-get_or}
use Rattle.streams.specs.declared.marks.Mark.{Mark}
use Rattle.streams.specs.declared.marks.Mark.TheVariants.{Opened, Read, Ended, Wrote, ReadFailed, WriteFailed, Closed}
use Rattle.host_model.specs.declared.cause.EndCause.{EndCause}
use Rattle.host_model.specs.declared.cause.EndCause.TheVariants.{End}
use Rattle.host_model.specs.Marks.{connection_of, marks_of, ending}
use Rattle.host_model.specs.Journal.{JournalEntry, ServiceRules}
use Rattle.host_model.specs.DeskRules.{DeskRules}
use Rattle.host_model.specs.Headline.{Headline}
use Rattle.host_model.proofs.Lists.{nil-cons, cons_parts, all-append}
use Rattle.script_model.specs.ScriptLines.{count_up}
use Rattle.script_model.specs.RestLines.{opened_by, opened_in}
use Rattle.script_model.proofs.OneFed.{all_at}

module _ {X : Type 0} (test : X → Bool) where
  -- an item that is kept stands among all, behind what is kept in front of it
  pub kept_at : (xs begun : List X) (x : X) (back : List X) → filter test xs ≡ begun ++ x ∷ back
      → (before behind : List X) × (xs ≡ before ++ x ∷ behind) × (filter test before ≡ begun)
  kept_at [] [] x back e = absurd (nil-cons x back e)
  kept_at [] (y ∷ begun) x back e = absurd (nil-cons y (begun ++ x ∷ back) e)
  kept_at (y ∷ xs) begun x back e = go (test y) refl begun e (λ f h. kept_at xs f x back h)
    where
      go : (here : Bool) → test y ≡ here → (front : List X) → cond here (y ∷ filter test xs) (filter test xs) ≡ front ++ x ∷ back
          → ((f : List X) → filter test xs ≡ f ++ x ∷ back → (before behind : List X) × (xs ≡ before ++ x ∷ behind) × (filter test before ≡ f))
          → (before behind : List X) × (y ∷ xs ≡ before ++ x ∷ behind) × (filter test before ≡ front)
      go true is [] e more = ([], xs, ap (λ z. z ∷ xs) (cons_parts y x (filter test xs) back e).0, refl)
      go true is (f ∷ front) e more =
          let parts = cons_parts y f (filter test xs) (front ++ x ∷ back) e in
          let t = more front parts.1 in
          (y ∷ t.0, t.1, ap (λ zs. y ∷ zs) t.2, ap (λ b. cond b (y ∷ filter test t.0) (filter test t.0)) is ∙ (λ i. parts.0 i ∷ t.3 i))
      go false is front e more =
          let t = more front e in
          (y ∷ t.0, t.1, ap (λ zs. y ∷ zs) t.2, ap (λ b. cond b (y ∷ filter test t.0) (filter test t.0)) is ∙ t.3)

  -- what holds of all holds of those that are kept
  pub all_kept : (P : X → Type 0) (xs : List X) → AllByRecursion P xs → AllByRecursion P (filter test xs)
  all_kept P [] all = tt
  all_kept P (x ∷ xs) all = go (test x) (all_kept P xs all.1)
    where
      go : (here : Bool) → AllByRecursion P (filter test xs) → AllByRecursion P (cond here (x ∷ filter test xs) (filter test xs))
      go true more = (all.0, more)
      go false more = more

-- where nothing is kept for keys from n on, all keys are below n
pub all_below : {X : Type 0} (key : X → ℕ) (n : ℕ) (xs : List X) → ((c : ℕ) → n ≤ c → filter (λ x. key x == c) xs ≡ []) → AllByRecursion (λ x. key x < n) xs
all_below key n [] none = tt
all_below {X} key n (x ∷ xs) none = (first (cases_lt (key x) n), all_below key n xs (λ c h. behind c (key x == c) (none c h)))
  where
    of_key : ℕ → List X
    of_key c = filter (λ y. key y == c) xs

    first : (key x < n) ⊎ (n ≤ key x) → key x < n
    first (inl low) = low
    first (inr high) =
        absurd (nil-cons x (of_key (key x)) (sym (none (key x) high) ∙ ap (λ b. cond b (x ∷ of_key (key x)) (of_key (key x))) (eq-eqb (key x) (key x) refl)))

    behind : (c : ℕ) (here : Bool) → cond here (x ∷ filter (λ y. key y == c) xs) (filter (λ y. key y == c) xs) ≡ [] → filter (λ y. key y == c) xs ≡ []
    behind c true e = absurd (nil-cons x (filter (λ y. key y == c) xs) (sym e))
    behind c false e = e

opener : (c : ℕ) (mark : Mark) → (connection_of mark ≡ c → ⊥) → AllByRecursion (λ x. x ≡ c → ⊥) (opened_by mark)
opener c (Opened x) other = (other, tt)
opener c (Read x bytes) other = tt
opener c (Ended x) other = tt
opener c (Wrote x bytes) other = tt
opener c (ReadFailed x) other = tt
opener c (WriteFailed x) other = tt
opener c (Closed x) other = tt

-- a connection without marks isn't opened
pub unopened : (c : ℕ) (tape : List Mark) → marks_of c tape ≡ [] → AllByRecursion (λ x. x ≡ c → ⊥) (opened_in tape)
unopened c [] e = tt
unopened c (mark ∷ tape) e = go (connection_of mark == c) refl e (unopened c tape)
  where
    go : (here : Bool) → (connection_of mark == c) ≡ here → cond here (mark ∷ marks_of c tape) (marks_of c tape) ≡ []
        → (marks_of c tape ≡ [] → AllByRecursion (λ x. x ≡ c → ⊥) (opened_in tape)) → AllByRecursion (λ x. x ≡ c → ⊥) (opened_by mark ++ opened_in tape)
    go true is e more = absurd (nil-cons mark (marks_of c tape) (sym e))
    go false is e more = all-append (λ x. x ≡ c → ⊥) (opened_by mark) (opened_in tape) (opener c mark (eqb-false (connection_of mark) c is)) (more e)

pub counted_in : (n from c : ℕ) → from ≤ c → c < from + n → AllByRecursion (λ x. x ≡ c → ⊥) (count_up from n) → ⊥
counted_in zero from c above below all = let f : ⊥ = omega arith in f
counted_in (suc n) from c above below all =
    elim (cases_eq from c) [ inl e ↦ all.0 e | inr other ↦ counted_in n (suc from) c (omega (arith, other)) (omega arith) all.1 ]

pub each_below : (n from m : ℕ) → from + n ≤ m → AllByRecursion (λ x. x < m) (count_up from n)
each_below zero from m h = tt
each_below (suc n) from m h = (omega arith, each_below n (suc from) m (omega arith))

-- a connection whose marks begin with its opening is one of those that are opened
pub opened_below : (n c : ℕ) (tape more : List Mark) → opened_in tape ≡ count_up 0 n → marks_of c tape ≡ Opened c ∷ more → c < n
opened_below n c tape more opened e =
    let t = kept_at (λ mark. connection_of mark == c) tape [] (Opened c) more e in
    let parts : opened_in tape ≡ opened_in t.0 ++ c ∷ opened_in t.1 = ap opened_in t.2 ∙ flat_map-append opened_by t.0 (Opened c ∷ t.1) in
    all_at (λ x. x < n) (opened_in t.0) (opened_in t.1) c (subst (AllByRecursion (λ x. x < n)) (sym opened ∙ parts) (each_below n 0 n (omega arith)))

module _ {C A M : Type 0} (d : DeskRules C A) (r : ServiceRules C A M) (memories : List M) (tape : List Mark) (journal : List (JournalEntry C A)) (causes : List EndCause)
    (n : ℕ) (headline : Headline d r memories tape journal causes) (opened : opened_in tape ≡ count_up 0 n) where
  ended_opened : (c : ℕ) → c < length causes → c < n
  ended_opened c h =
      let marks = (headline.each c (get_or causes c End) (slice_get-get_or causes c End h)).marks in
      opened_below n c tape (marks.transfers ++ ending c (get_or causes c End)) opened marks.shape

  opened_ended : (c : ℕ) → c < n → c < length causes
  opened_ended c h = go (cases_lt c (length causes))
    where
      go : (c < length causes) ⊎ (length causes ≤ c) → c < length causes
      go (inl low) = low
      go (inr high) = absurd (counted_in n 0 c (omega arith) (omega arith) (subst (AllByRecursion (λ x. x ≡ c → ⊥)) opened (unopened c tape (headline.no_marks c high))))

  -- there are as many causes as connections that are opened
  pub as_many_causes : length causes ≡ n
  as_many_causes = go (cases_lt (length causes) n) (cases_lt n (length causes))
    where
      go : (length causes < n) ⊎ (n ≤ length causes) → (n < length causes) ⊎ (length causes ≤ n) → length causes ≡ n
      go (inl low) other = let more = opened_ended (length causes) low in absurd (let f : ⊥ = omega (arith, more) in f)
      go (inr one) (inl high) = let more = ended_opened n high in absurd (let f : ⊥ = omega (arith, more) in f)
      go (inr one) (inr two) = omega (arith, one, two)
