-- A tape with one mark more: what its marks show of a script, and what the marks of each connection are.
use Rattle.std.proofs.Common.{◌≡◌, ◌≢◌, ℕ, zero, suc, ◌+◌, ◌<◌, ◌≤◌, ◌⊎◌, Bool, true, false, ◌||◌, Option, None, Some, List, [], ◌∷◌, ◌++◌, length, drop, slice_get, refl, sym, ap, ◌∙◌, subst, inl, inr, arith, append_assoc, append-nil}
use Rattle.std.proofs.lemmas.List.{same_from_push}
use Rattle.std.proofs.lemmas.Option.{none-some}
use Rattle.std.proofs.lemmas.Grind.{flat_map-append}
use Rattle.streams.specs.declared.marks.Mark.{Mark}
use Rattle.streams.specs.declared.marks.Mark.TheVariants.{Opened, Read, Ended, Wrote, ReadFailed, WriteFailed, Closed}
use Rattle.host_model.specs.Marks.{connection_of, marks_of, input}
use Rattle.host_model.proofs.Lists.{ends as empty_or_pushed, nil-cons}
use Rattle.machine_model.specs.OpenAtFronts.{marks_counted}
use Rattle.script_model.specs.ScriptLines.{PlanLine, ScriptPlan, one_if_opens, openings, some_line, count_up}
use Rattle.script_links.specs.Followed.{one_if_rests, rests_in}
use Rattle.script_links.specs.Shows.{transfer_in, transfers_in, ShowsItsScript, EachShowsItsScript}

-- items at their places in a longer list
pub get_on : {X : Type 0} (xs ys : List X) (k : ℕ) (x : X) → slice_get xs k ≡ Some x → slice_get (xs ++ ys) k ≡ Some x
get_on [] ys k x e = absurd (none-some x e)
get_on (y ∷ xs) ys zero x e = e
get_on (y ∷ xs) ys (suc k) x e = get_on xs ys k x e

pub get_last : {X : Type 0} (xs : List X) (x : X) → slice_get (xs ++ x ∷ []) (length xs) ≡ Some x
get_last [] x = refl
get_last (y ∷ xs) x = get_last xs x

-- where one more line is behind these
pub some_front : (test : PlanLine → Bool) (lines more : List PlanLine) → some_line test lines ≡ true → some_line test (lines ++ more) ≡ true
some_front test [] more e = absurd (let f : ⊥ = cc in f)
some_front test (line ∷ lines) more e = go (test line) (some_front test lines more) e
  where
    go : (b : Bool) → (some_line test lines ≡ true → some_line test (lines ++ more) ≡ true) → (b || some_line test lines) ≡ true → (b || some_line test (lines ++ more)) ≡ true
    go true behind e = refl
    go false behind e = behind e

pub some_last : (test : PlanLine → Bool) (lines : List PlanLine) (line : PlanLine) → test line ≡ true → some_line test (lines ++ line ∷ []) ≡ true
some_last test [] line e = ap (λ b. b || false) e
some_last test (first ∷ lines) line e = go (test first) (some_last test lines line e)
  where
    go : (b : Bool) → some_line test (lines ++ line ∷ []) ≡ true → (b || some_line test (lines ++ line ∷ [])) ≡ true
    go true behind = refl
    go false behind = behind

pub openings-append : (xs ys : List PlanLine) → openings (xs ++ ys) ≡ openings xs + openings ys
openings-append [] ys = omega arith
openings-append (x ∷ xs) ys = let more : openings (xs ++ ys) ≡ openings xs + openings ys = openings-append xs ys in omega arith

pub rests-append : (xs ys : List PlanLine) → rests_in (xs ++ ys) ≡ rests_in xs + rests_in ys
rests-append [] ys = omega arith
rests-append (x ∷ xs) ys = let more : rests_in (xs ++ ys) ≡ rests_in xs + rests_in ys = rests-append xs ys in omega arith

pub transfers-append : (xs ys : List Mark) → transfers_in (xs ++ ys) ≡ transfers_in xs + transfers_in ys
transfers-append [] ys = omega arith
transfers-append (x ∷ xs) ys = let more : transfers_in (xs ++ ys) ≡ transfers_in xs + transfers_in ys = transfers-append xs ys in omega arith

pub counted-append : (f : Mark → ℕ) (xs ys : List Mark) → marks_counted f (xs ++ ys) ≡ marks_counted f xs + marks_counted f ys
counted-append f [] ys = omega arith
counted-append f (x ∷ xs) ys = let more : marks_counted f (xs ++ ys) ≡ marks_counted f xs + marks_counted f ys = counted-append f xs ys in omega arith

-- one number more is counted up
count_behind : (from n : ℕ) → count_up from (suc n) ≡ count_up from n ++ (from + n) ∷ []
count_behind from zero = let e : from ≡ from + 0 = omega arith in ap (λ x. x ∷ []) e
count_behind from (suc n) = let e : suc from + n ≡ from + suc n = omega arith in ap (λ r. from ∷ r) (count_behind (suc from) n ∙ ap (λ x. count_up (suc from) n ++ x ∷ []) e)

pub count_to : (n : ℕ) → count_up 0 (suc n) ≡ count_up 0 n ++ n ∷ []
count_to n = let e : 0 + n ≡ n = omega arith in count_behind 0 n ∙ ap (λ x. count_up 0 n ++ x ∷ []) e

-- a split of a list that has one item more is one behind it, or one of the list before
module _ {X : Type 0} (P : List X → X → List X → Type 0) (xs : List X) (x : X) (last : P xs x []) (before : (front back : List X) (y : X) → xs ≡ front ++ y ∷ back → P front y (back ++ x ∷ [])) where
  pub push_split : (front back : List X) (y : X) → xs ++ x ∷ [] ≡ front ++ y ∷ back → P front y back
  push_split front back y e = go (empty_or_pushed back)
    where
      go : (back ≡ []) ⊎ ((ys : List X) × (z : X) × (back ≡ ys ++ z ∷ [])) → P front y back
      go (inl b) =
          let t : (xs ≡ front) × (x ≡ y) = same_from_push xs front x y (e ∙ ap (λ r. front ++ y ∷ r) b) in
          subst (λ (s : List X × X). P s.0 s.1 back) (λ i. (t.0 i, t.1 i)) (subst (P xs x) (sym b) last)
      go (inr b) =
          let t : (xs ≡ front ++ y ∷ b.0) × (x ≡ b.1) = same_from_push xs (front ++ y ∷ b.0) x b.1 (e ∙ ap (λ r. front ++ y ∷ r) b.2 ∙ sym (append_assoc front (y ∷ b.0) (b.1 ∷ []))) in
          subst (P front y) (ap (λ z. b.0 ++ z ∷ []) t.1 ∙ sym b.2) (before front b.0 y t.0)

-- what is shown stays so, where more lengths are known and more lines done
pub shows_on : (script : ScriptPlan) (done now : List PlanLine) (old new : List ℕ) → ((test : PlanLine → Bool) → some_line test done ≡ true → some_line test now ≡ true)
    → ((k x : ℕ) → slice_get old k ≡ Some x → slice_get new k ≡ Some x) → (front : List Mark) (mark : Mark) → ShowsItsScript script done old front mark → ShowsItsScript script now new front mark
shows_on script done now old new lines lengths front (Read c bytes) s = (s.0, lengths (transfers_in front) s.0 s.1, s.2)
shows_on script done now old new lines lengths front (Ended c) s = (lines _ s.0, s.1)
shows_on script done now old new lines lengths front (ReadFailed c) s = (lines _ s.0, s.1)
shows_on script done now old new lines lengths front (Wrote c bytes) s = (s.0, lengths (transfers_in front) s.0 s.1, s.2, s.3)
shows_on script done now old new lines lengths front (WriteFailed c) s = s
shows_on script done now old new lines lengths front (Opened c) s = tt
shows_on script done now old new lines lengths front (Closed c) s = tt

pub shows_push : (script : ScriptPlan) (done : List PlanLine) (old new : List ℕ) (tape : List Mark) (mark : Mark) → ((k x : ℕ) → slice_get old k ≡ Some x → slice_get new k ≡ Some x)
    → EachShowsItsScript script done old tape → ShowsItsScript script done new tape mark → EachShowsItsScript script done new (tape ++ mark ∷ [])
shows_push script done old new tape mark lengths each own =
    push_split (λ front m back. ShowsItsScript script done new front m) tape mark own
    (λ front back m e. shows_on script done done old new (λ test t. t) lengths front m (each front back m e))
