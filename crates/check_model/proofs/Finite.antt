-- Whether a struct has a finite value: it has one or it hasn't. Once a level more changes nothing, none does.
use Rattle.std.proofs.Common.{◌≡◌, ◌⊎◌, inl, inr, ℕ, zero, suc, ◌+◌, ◌<◌, ◌≤◌, Bool, true, false, ◌&&◌, ◌||◌, List, [], ◌∷◌, length, slice_get, Option, None, Some, refl, ap, sym, subst, ◌∙◌, arith}
use Rattle.std.specs.Option.{option_map_or}
use Rattle.std.specs.List.{list_any, list_all}
use Rattle.schema.specs.declared.types.FieldNeed.{FieldNeed}
use Rattle.schema.specs.declared.types.FieldNeed.TheVariants as wanted
use Rattle.schema.specs.declared.types.FieldsKind.{FieldsKind}
use Rattle.schema.specs.declared.types.FieldsKind.TheVariants as fields
use Rattle.schema.specs.PlainKind.{PlainKind, kind_bool, kind_i8, kind_i16, kind_i32, kind_i64, kind_double, kind_text, kind_binary, kind_uuid, kind_enum, kind_struct, kind_map, kind_set, kind_list}
use Rattle.schema.specs.PlainSchema.{PlainField, PlainStruct, PlainSchema}
use Rattle.check_model.specs.FiniteValues.{kind_has, field_allows, has_no_items, fields_have, has_value_within, HasFiniteValue}

-- what the one says, the other says too
abbrev pub Below : (ℕ → Bool) → (ℕ → Bool) → Type 0
Below f g = (n : ℕ) → f n ≡ true → g n ≡ true

never : false ≡ true → ⊥
never e = cc

kind_below : (f g : ℕ → Bool) → Below f g → (k : PlainKind) → kind_has f k ≡ true → kind_has g k ≡ true
kind_below f g below (kind_struct n) e = below n e
kind_below f g below kind_bool e = refl
kind_below f g below kind_i8 e = refl
kind_below f g below kind_i16 e = refl
kind_below f g below kind_i32 e = refl
kind_below f g below kind_i64 e = refl
kind_below f g below kind_double e = refl
kind_below f g below kind_uuid e = refl
kind_below f g below kind_text e = refl
kind_below f g below kind_binary e = refl
kind_below f g below (kind_enum _) e = refl
kind_below f g below (kind_map _ _) e = refl
kind_below f g below (kind_set _) e = refl
kind_below f g below (kind_list _) e = refl

field_below : (f g : ℕ → Bool) → Below f g → (n : FieldNeed) (k : PlainKind) → field_allows f n k ≡ true → field_allows g n k ≡ true
field_below f g below wanted.Required k e = kind_below f g below k e
field_below f g below wanted.Default k e = refl
field_below f g below wanted.Optional k e = refl

and_below : (a b c d : Bool) → (a ≡ true → c ≡ true) → (b ≡ true → d ≡ true) → (a && b) ≡ true → (c && d) ≡ true
and_below true b c d p q e = λ i. p refl i && q e i
and_below false b c d p q e = absurd (never e)

or_below : (a b c d : Bool) → (a ≡ true → c ≡ true) → (b ≡ true → d ≡ true) → (a || b) ≡ true → (c || d) ≡ true
or_below true b c d p q e = ap (λ x. x || d) (p refl)
or_below false b true d p q e = refl
or_below false b false d p q e = q e

all_below : (f g : ℕ → Bool) → Below f g → (xs : List PlainField) → list_all (λ (x : PlainField). field_allows f x.need x.kind) xs ≡ true
    → list_all (λ (x : PlainField). field_allows g x.need x.kind) xs ≡ true
all_below f g below [] e = refl
all_below f g below (x ∷ xs) e =
    and_below (field_allows f x.need x.kind) (list_all (λ (x : PlainField). field_allows f x.need x.kind) xs) (field_allows g x.need x.kind)
    (list_all (λ (x : PlainField). field_allows g x.need x.kind) xs) (field_below f g below x.need x.kind) (all_below f g below xs) e

any_below : (f g : ℕ → Bool) → Below f g → (xs : List PlainField) → list_any (λ (x : PlainField). kind_has f x.kind) xs ≡ true
    → list_any (λ (x : PlainField). kind_has g x.kind) xs ≡ true
any_below f g below [] e = absurd (never e)
any_below f g below (x ∷ xs) e =
    or_below (kind_has f x.kind) (list_any (λ (x : PlainField). kind_has f x.kind) xs) (kind_has g x.kind)
    (list_any (λ (x : PlainField). kind_has g x.kind) xs) (kind_below f g below x.kind) (any_below f g below xs) e

pub fields_below : (f g : ℕ → Bool) → Below f g → (k : FieldsKind) (xs : List PlainField) → fields_have f k xs ≡ true → fields_have g k xs ≡ true
fields_below f g below fields.Union xs e =
    or_below (has_no_items xs) (list_any (λ (x : PlainField). kind_has f x.kind) xs) (has_no_items xs) (list_any (λ (x : PlainField). kind_has g x.kind) xs)
    (λ h. h) (any_below f g below xs) e
fields_below f g below fields.Struct xs e = all_below f g below xs e
fields_below f g below fields.Exception xs e = all_below f g below xs e
fields_below f g below fields.Args xs e = all_below f g below xs e

-- one level more, of what a level less says
abbrev level_on : PlainSchema → (ℕ → Bool) → ℕ → Bool
level_on schema f n = option_map_or (λ (s : PlainStruct). fields_have f s.kind s.fields) (slice_get schema.structs n) false

pub struct_below : (f g : ℕ → Bool) → Below f g → (o : Option PlainStruct)
    → option_map_or (λ (s : PlainStruct). fields_have f s.kind s.fields) o false ≡ true → option_map_or (λ (s : PlainStruct). fields_have g s.kind s.fields) o false ≡ true
struct_below f g below None e = e
struct_below f g below (Some s) e = fields_below f g below s.kind s.fields e

rises : (schema : PlainSchema) (n : ℕ) → Below (has_value_within schema n) (has_value_within schema (suc n))
unfolding has_value_within
rises schema zero k e = absurd (never e)
rises schema (suc n) k e = struct_below (has_value_within schema n) (has_value_within schema (suc n)) (rises schema n) (slice_get schema.structs k) e

abbrev weight : Bool → ℕ
weight true = 1
weight false = 0

-- how many of the numbers below this one it says
count_below : ℕ → (ℕ → Bool) → ℕ
count_below zero f = 0
count_below (suc n) f = weight (f n) + count_below n f

weight_below : (a b : Bool) → (a ≡ true → b ≡ true) → ((a ≡ b) ⊎ (suc (weight a) ≡ weight b)) × (weight a ≤ weight b) × (weight b ≤ 1)
weight_below true true h = (inl refl, omega arith, omega arith)
weight_below true false h = absurd (never (h refl))
weight_below false true h = (inr refl, omega arith, omega arith)
weight_below false false h = (inl refl, omega arith, omega arith)

at_most : (n : ℕ) (f : ℕ → Bool) → count_below n f ≤ n
unfolding count_below
at_most zero f = omega arith
at_most (suc n) f =
    let h = (weight_below (f n) (f n) (λ e. e)).2 in
    let rest = at_most n f in
    omega arith

-- they say the same of the numbers below this one, or the second says more of them
Step : ℕ → (ℕ → Bool) → (ℕ → Bool) → Type 0
Step n f g = ((k : ℕ) → k < n → f k ≡ g k) ⊎ (suc (count_below n f) ≤ count_below n g)

no_fewer : (n : ℕ) (f g : ℕ → Bool) → Below f g → count_below n f ≤ count_below n g
unfolding count_below
no_fewer zero f g below = omega arith
no_fewer (suc n) f g below =
    let h = (weight_below (f n) (g n) (below n)).1 in
    let rest = no_fewer n f g below in
    omega arith

same_or_one : (n k : ℕ) → k < suc n → (k ≡ n) ⊎ (k < n)
same_or_one zero zero l = inl refl
same_or_one zero (suc k) l = absurd (let h : ⊥ = omega arith in h)
same_or_one (suc n) zero l = inr (omega arith)
same_or_one (suc n) (suc k) l = by (same_or_one n k (omega arith))
  where
    by : (k ≡ n) ⊎ (k < n) → (suc k ≡ suc n) ⊎ (suc k < suc n)
    by (inl e) = inl (ap suc e)
    by (inr h) = inr (omega arith)

step_by : (n : ℕ) (f g : ℕ → Bool) → Below f g → (f n ≡ g n) ⊎ (suc (weight (f n)) ≡ weight (g n)) → Step n f g → Step (suc n) f g
unfolding Step count_below
step_by n f g below (inl e) (inl same) = inl (λ k l. by k (same_or_one n k l))
  where
    by : (k : ℕ) → (k ≡ n) ⊎ (k < n) → f k ≡ g k
    by k (inl is) = ap f is ∙ e ∙ sym (ap g is)
    by k (inr l) = same k l
step_by n f g below (inl e) (inr more) =
    let h : weight (f n) ≡ weight (g n) = ap weight e in inr (omega arith)
step_by n f g below (inr e) step =
    let rest = no_fewer n f g below in inr (omega arith)

step : (n : ℕ) (f g : ℕ → Bool) → Below f g → Step n f g
unfolding Step
step zero f g below = inl (λ k l. absurd (let h : ⊥ = omega arith in h))
step (suc n) f g below = step_by n f g below (weight_below (f n) (g n) (below n)).0 (step n f g below)

-- of no struct nothing is said
past : (schema : PlainSchema) (f : ℕ → Bool) (xs : List PlainStruct) (k : ℕ) → length xs ≤ k
    → option_map_or (λ (s : PlainStruct). fields_have f s.kind s.fields) (slice_get xs k) false ≡ false
past schema f [] k l = refl
past schema f (x ∷ xs) zero l = absurd (let h : ⊥ = omega arith in h)
past schema f (x ∷ xs) (suc k) l = past schema f xs k (omega arith)

past_within : (schema : PlainSchema) (n k : ℕ) → length schema.structs ≤ k → has_value_within schema n k ≡ false
unfolding has_value_within
past_within schema zero k l = refl
past_within schema (suc n) k l = past schema (has_value_within schema n) schema.structs k l

inside_or_past : (n k : ℕ) → (k < n) ⊎ (n ≤ k)
inside_or_past zero k = inr (omega arith)
inside_or_past (suc n) zero = inl (omega arith)
inside_or_past (suc n) (suc k) = by (inside_or_past n k)
  where
    by : (k < n) ⊎ (n ≤ k) → (suc k < suc n) ⊎ (suc n ≤ suc k)
    by (inl l) = inl (omega arith)
    by (inr l) = inr (omega arith)

-- a level that one level more doesn't change
Settled : PlainSchema → ℕ → Type 0
Settled schema m = has_value_within schema m ≡ has_value_within schema (suc m)

settled : (schema : PlainSchema) (m : ℕ) → ((k : ℕ) → k < length schema.structs → has_value_within schema m k ≡ has_value_within schema (suc m) k) → Settled schema m
unfolding Settled
settled schema m same = λ i k. by k (inside_or_past (length schema.structs) k) i
  where
    by : (k : ℕ) → (k < length schema.structs) ⊎ (length schema.structs ≤ k) → has_value_within schema m k ≡ has_value_within schema (suc m) k
    by k (inl l) = same k l
    by k (inr l) = past_within schema m k l ∙ sym (past_within schema (suc m) k l)

-- after so many levels one is settled, or so many structs have a value
settles_by : (schema : PlainSchema) (n : ℕ) → (((m : ℕ) × Settled schema m) ⊎ (n ≤ count_below (length schema.structs) (has_value_within schema n)))
    → Step (length schema.structs) (has_value_within schema n) (has_value_within schema (suc n))
    → ((m : ℕ) × Settled schema m) ⊎ (suc n ≤ count_below (length schema.structs) (has_value_within schema (suc n)))
unfolding Step
settles_by schema n (inl h) s = inl h
settles_by schema n (inr l) (inl same) = inl (n, settled schema n same)
settles_by schema n (inr l) (inr more) = inr (omega arith)

settles : (schema : PlainSchema) (n : ℕ) → ((m : ℕ) × Settled schema m) ⊎ (n ≤ count_below (length schema.structs) (has_value_within schema n))
settles schema zero = inr (omega arith)
settles schema (suc n) =
    settles_by schema n (settles schema n) (step (length schema.structs) (has_value_within schema n) (has_value_within schema (suc n)) (rises schema n))

some_settled : (schema : PlainSchema) → (m : ℕ) × Settled schema m
some_settled schema = by (settles schema (suc (length schema.structs)))
  where
    by : ((m : ℕ) × Settled schema m) ⊎ (suc (length schema.structs) ≤ count_below (length schema.structs) (has_value_within schema (suc (length schema.structs))))
        → (m : ℕ) × Settled schema m
    by (inl h) = h
    by (inr l) = absurd (let most = at_most (length schema.structs) (has_value_within schema (suc (length schema.structs))) in let h : ⊥ = omega arith in h)

-- so many levels above a level
up : ℕ → ℕ → ℕ
up zero m = m
up (suc n) m = suc (up n m)

stays : (schema : PlainSchema) (m : ℕ) → Settled schema m → (n : ℕ) → has_value_within schema (up n m) ≡ has_value_within schema m
unfolding up has_value_within Settled
stays schema m s zero = refl
stays schema m s (suc n) = (λ i. level_on schema (stays schema m s n i)) ∙ sym s

lifted : (schema : PlainSchema) (n m k : ℕ) → has_value_within schema n k ≡ true → has_value_within schema (up m n) k ≡ true
unfolding up
lifted schema n zero k e = e
lifted schema n (suc m) k e = rises schema (up m n) k (lifted schema n m k e)

up_up : (n m : ℕ) → up n m ≡ n + m
unfolding up
up_up zero m = omega arith
up_up (suc n) m = let e = up_up n m in omega arith

pub has_or_not : (schema : PlainSchema) (k : ℕ) → HasFiniteValue schema k ⊎ (HasFiniteValue schema k → ⊥)
has_or_not schema k = by (has_value_within schema m k) refl
  where
    m : ℕ
    m = (some_settled schema).0

    by : (b : Bool) → has_value_within schema m k ≡ b → HasFiniteValue schema k ⊎ (HasFiniteValue schema k → ⊥)
    by true e = inl (m, e)
    by false e = inr (λ h.
        let first = lifted schema h.0 m k h.1 in
        let swap : up m h.0 ≡ up h.0 m = (let a = up_up m h.0 in let b = up_up h.0 m in omega arith) in
        let P : ℕ → Type 0 = λ n. has_value_within schema n k ≡ true in
        let second = subst P swap first in
        let same : has_value_within schema (up h.0 m) k ≡ has_value_within schema m k = ap (λ f. f k) (stays schema m (some_settled schema).1 h.0) in
        never (sym e ∙ sym same ∙ second))
