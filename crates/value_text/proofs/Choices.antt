-- Steps of readers: one after another, and choices by a test.
use Rattle.std.proofs.Common.{◌≡◌, ◌⊎◌, ℕ, Bool, true, false, cond, not, Option, Some, None, Result, Ok, Err, refl, ap, sym, ◌∙◌, inl, inr, true≢false}
use Rattle.std.specs.Prelude.{◌||◌}
use Rattle.value_text.specs.declared.stop.TextStop.{TextStop}
use Rattle.value_text.specs.declared.stop.TextStop.TheVariants as stop
use Rattle.value_text.specs.Answering.{LeavesAs}
use Rattle.value_text.specs.Fronts.{◌>>=◌}
use Rattle.value_text.specs.Rows.{found_or}

-- what was read by a reading that went on
pub went_on : {A B : Type 0} (r : Result A ℕ) (f : A → Result B ℕ) (y : B) → (r >>= f) ≡ Ok y → (x : A) × (r ≡ Ok x) × (f x ≡ Ok y)
went_on (Ok x) f y e = (x, refl, e)
went_on (Err left) f y e = absurd cc

-- which way a test went
pub chosen : {X : Type 0} (b : Bool) (x y z : X) → cond b x y ≡ z → ((b ≡ true) × (x ≡ z)) ⊎ ((b ≡ false) × (y ≡ z))
chosen true x y z e = inl (refl, e)
chosen false x y z e = inr (refl, e)

-- a test that has to hold
pub held : {A : Type 0} (b : Bool) (r : Result A ℕ) (left : ℕ) (y : A) → cond b r (Err left) ≡ Ok y → (b ≡ true) × (r ≡ Ok y)
held true r left y e = (refl, e)
held false r left y e = absurd cc

-- a test that mustn't hold
pub held_not : {A : Type 0} (b : Bool) (r : Result A ℕ) (left : ℕ) (y : A) → cond b (Err left) r ≡ Ok y → (b ≡ false) × (r ≡ Ok y)
held_not true r left y e = absurd cc
held_not false r left y e = (refl, e)

-- what may stand there, since it needn't rise or comes behind
pub follows : {X : Type 0} (rising c b : Bool) (x y : X) → b ≡ (not rising || c) → b ≡ true → cond (not rising) x (cond c x y) ≡ x
follows true true b x y is e = refl
follows true false b x y is e = absurd (true≢false (sym e ∙ is))
follows false c b x y is e = refl

-- what may not
pub follows_not : {X : Type 0} (rising c b : Bool) (x y : X) → b ≡ (not rising || c) → b ≡ false → cond (not rising) x (cond c x y) ≡ y
follows_not true true b x y is e = absurd (true≢false (sym is ∙ e))
follows_not true false b x y is e = refl
follows_not false c b x y is e = absurd (true≢false (sym is ∙ e))

abbrev read : {A : Type 0} → A → Result A ℕ
read x = Ok x

-- two answers that are one
pub one_ok : {A : Type 0} (x y : A) → read x ≡ read y → x ≡ y
one_ok x y e = cc

-- what was found
pub was_found : {A B : Type 0} (o : Option A) (f : A → B) (other y : B) → found_or o f other ≡ y → ((x : A) × (o ≡ Some x) × (f x ≡ y)) ⊎ ((o ≡ None) × (other ≡ y))
was_found (Some x) f other y e = inl (x, refl, e)
was_found None f other y e = inr (refl, e)

-- what has to be found
pub had_to : {A B : Type 0} (o : Option A) (f : A → Result B ℕ) (left : ℕ) (y : B) → found_or o f (Err left) ≡ Ok y → (x : A) × (o ≡ Some x) × (f x ≡ Ok y)
had_to (Some x) f left y e = (x, refl, e)
had_to None f left y e = absurd cc

-- two readings behind a first one are one behind both
pub joined : {A B C : Type 0} (r : Result A ℕ) (f : A → Result B ℕ) (k : B → Result C ℕ) → (r >>= λ x. f x >>= k) ≡ ((r >>= f) >>= k)
joined (Ok x) f k = refl
joined (Err left) f k = refl

-- a reading that stops stops what follows
pub stops_all : {A B : Type 0} (why : TextStop) (r : Result A ℕ) (f : A → Result B ℕ) (total : Result B ℕ) → total ≡ (r >>= f) → LeavesAs why r → LeavesAs why total
stops_all stop.NoMemory r f total is h = tt
stops_all (stop.Left left) r f total is h = is ∙ ap (λ z. z >>= f) h
