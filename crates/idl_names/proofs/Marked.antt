-- Marks of the items of a list, one more at a time.
use Rattle.std.proofs.Common.{◌≡◌, ◌<◌, ℕ, ℤ, zero, suc, ◌+◌, Bool, true, false, List, [], ◌∷◌, ◌++◌, map, length, get_or, take, drop, Bor, refl, ap, sym, ◌∙◌, arith, append_assoc, add-one}
use Rattle.std.specs.Prelude.{◌||◌, if◌then◌else◌}
use Rattle.std.specs.Ordering.{int_eq}
use Rattle.std.specs.List.{list_any}
use Rattle.std.specs.Str.{bytes_eq}
use Rattle.std.proofs.Math.Seq.{take-suc}
use Rattle.std.proofs.lemmas.List.{map-append}
use Rattle.std.proofs.lemmas.Slice.Eq.{bytes_eq-Decides}
use Rattle.std.proofs.lemmas.Bool.Decides.{Decides-int_eq}
use Rattle.indexmap.specs.IndexSet.{insert_key}
use Rattle.idl_names.specs.Before.{id_marks}
use Rattle.idl_include.specs.Loading.{is_among}
use Rattle.idl_names.specs.NameSets.{NameSet, has_name, HasNameToo, IdSet, has_id, HasIdToo}
use Rattle.idl_names.proofs.Numbered.{same_either_way}

-- ---- sets

or_false : (b : Bool) → (b || false) ≡ b
or_false true = refl
or_false false = refl

or_true : (b : Bool) → (b || true) ≡ true
or_true true = refl
or_true false = refl

pub or_right : (a b c : Bool) → (a || b) || c ≡ (a || (b || c))
or_right true b c = refl
or_right false b c = refl

pub any_push : {A : Type 0} (p : A → Bool) (xs : List A) (y : A) → list_any p (xs ++ y ∷ []) ≡ (list_any p xs || p y)
any_push p [] y = or_false (p y)
any_push p (x ∷ xs) y = ap (λ b. p x || b) (any_push p xs y) ∙ sym (or_right (p x) (list_any p xs) (p y))

pub any_same : {A : Type 0} (p q : A → Bool) → ((x : A) → p x ≡ q x) → (xs : List A) → list_any p xs ≡ list_any q xs
any_same p q same [] = refl
any_same p q same (x ∷ xs) = λ i. same x i || any_same p q same xs i

-- a key more: what equals the key equals what it stands for
key_too : {K : Type 0} (eq : K → K → Bool) (p : K → Bool) (k : K) → (p k ≡ true → (x : K) → eq k x ≡ p x)
    → (ks : List K) → list_any p (insert_key eq ks k) ≡ (list_any p ks || p k)
key_too eq p k same ks = by (list_any (eq k) ks) refl (p k) refl
  where
    by : (b : Bool) → list_any (eq k) ks ≡ b → (c : Bool) → p k ≡ c → list_any p (if b then ks else ks ++ k ∷ []) ≡ (list_any p ks || p k)
    by true e true f =
        let there : list_any p ks ≡ true = sym (any_same (eq k) p (same f) ks) ∙ e in
        there ∙ sym (or_true (list_any p ks)) ∙ ap (λ c. list_any p ks || c) (sym f)
    by true e false f = sym (or_false (list_any p ks)) ∙ ap (λ c. list_any p ks || c) (sym f)
    by false e c f = any_push p ks k

pub name_too : (old new : NameSet) (k : Bor (List ℕ)) → new.keys ≡ insert_key (λ (x y : Bor (List ℕ)). bytes_eq x.now y.now) old.keys k → HasNameToo k.now old new
name_too old new k e other =
    let p : Bor (List ℕ) → Bool = λ key. bytes_eq key.now other in
    let eq : Bor (List ℕ) → Bor (List ℕ) → Bool = λ x y. bytes_eq x.now y.now in
    ap (list_any p) e
    ∙ key_too eq p k (λ t x. same_either_way k.now x.now ∙ ap (bytes_eq x.now) ((bytes_eq-Decides k.now other).0 t)) old.keys

pub id_too : (old new : IdSet) (k : ℤ) → new.keys ≡ insert_key int_eq old.keys k → HasIdToo k old new
id_too old new k e other =
    ap (list_any (int_eq other)) e
    ∙ key_too int_eq (int_eq other) k (λ t x. ap (λ n. int_eq n x) (sym ((Decides-int_eq other k).0 t))) old.keys

-- ---- one item more of a list

pub taken_more : {A : Type 0} (xs : List A) (i : ℕ) (x : A) → i < length xs → x ≡ get_or xs i x → take (i + 1) xs ≡ take i xs ++ x ∷ []
taken_more xs i x l here = ap (λ k. take k xs) (add-one i) ∙ take-suc xs i x l ∙ ap (λ y. take i xs ++ y ∷ []) (sym here)

pub left_more : {A : Type 0} (xs : List A) (i : ℕ) (x : A) → i < length xs → x ≡ get_or xs i x → drop i xs ≡ x ∷ drop (i + 1) xs
left_more [] i x l here = absurd (omega arith)
left_more (y ∷ xs) zero x l here = ap (λ z. z ∷ xs) (sym here)
left_more (y ∷ xs) (suc i) x l here =
    let e : suc (i + 1) ≡ suc i + 1 = omega arith in
    left_more xs i x (omega arith) here ∙ ap (λ k. x ∷ drop k (y ∷ xs)) e

-- what stands in its place where nothing does doesn't count
pub there_either_way : {A : Type 0} (xs : List A) (i : ℕ) (x y : A) → i < length xs → get_or xs i x ≡ get_or xs i y
there_either_way [] i x y l = absurd (omega arith)
there_either_way (z ∷ xs) zero x y l = refl
there_either_way (z ∷ xs) (suc i) x y l = there_either_way xs i x y (omega arith)

-- marks so far, and those of the rest
pub marked_next : {A B : Type 0} (marks : List B → List B → List Bool) (mark : List B → B → Bool)
    → ((before : List B) (y : B) (more : List B) → marks before (y ∷ more) ≡ mark before y ∷ marks (before ++ y ∷ []) more)
    → (g : A → B) (xs : List A) (i : ℕ) (x : A) (old new : List Bool) → i < length xs → x ≡ get_or xs i x
    → new ≡ old ++ mark (map g (take i xs)) (g x) ∷ [] → old ++ marks (map g (take i xs)) (map g (drop i xs)) ≡ marks [] (map g xs)
    → new ++ marks (map g (take (i + 1) xs)) (map g (drop (i + 1) xs)) ≡ marks [] (map g xs)
marked_next {A} {B} marks mark step g xs i x old new l here pushed so_far =
    let before : List B = map g (take i xs) in
    let more : List B = map g (drop (i + 1) xs) in
    (λ j. pushed j ++ marks (map g (taken_more xs i x l here j)) more)
    ∙ ap (λ b. (old ++ mark before (g x) ∷ []) ++ marks b more) (map-append g (take i xs) (x ∷ []))
    ∙ append_assoc old (mark before (g x) ∷ []) (marks (before ++ g x ∷ []) more)
    ∙ ap (λ m. old ++ m) (sym (step before (g x) more))
    ∙ ap (λ r. old ++ marks before (map g r)) (sym (left_more xs i x l here))
    ∙ so_far

-- the same of a list as it is
pub id_marked_next : (xs : List ℤ) (i : ℕ) (x : ℤ) (old new : List Bool) → i < length xs → x ≡ get_or xs i x
    → new ≡ old ++ list_any (int_eq x) (take i xs) ∷ [] → old ++ id_marks (take i xs) (drop i xs) ≡ id_marks [] xs
    → new ++ id_marks (take (i + 1) xs) (drop (i + 1) xs) ≡ id_marks [] xs
id_marked_next xs i x old new l here pushed so_far =
    let more : List ℤ = drop (i + 1) xs in
    (λ j. pushed j ++ id_marks (taken_more xs i x l here j) more)
    ∙ append_assoc old (list_any (int_eq x) (take i xs) ∷ []) (id_marks (take i xs ++ x ∷ []) more)
    ∙ ap (λ r. old ++ id_marks (take i xs) r) (sym (left_more xs i x l here))
    ∙ so_far

pub has_next : (xs : List ℤ) (i : ℕ) (x : ℤ) (old new : IdSet) → i < length xs → x ≡ get_or xs i x
    → HasIdToo x old new → ((other : ℤ) → has_id old other ≡ list_any (int_eq other) (take i xs))
    → (other : ℤ) → has_id new other ≡ list_any (int_eq other) (take (i + 1) xs)
has_next xs i x old new l here too so_far other =
    too other
    ∙ ap (λ b. b || int_eq other x) (so_far other)
    ∙ sym (any_push (int_eq other) (take i xs) x)
    ∙ ap (list_any (int_eq other)) (sym (taken_more xs i x l here))

-- the same of names
pub name_seen_next : {A : Type 0} (g : A → List ℕ) (xs : List A) (i : ℕ) (x : A) (k : List ℕ) (old new : NameSet) → i < length xs → x ≡ get_or xs i x → k ≡ g x
    → HasNameToo k old new → ((other : List ℕ) → has_name old other ≡ is_among other (map g (take i xs)))
    → (other : List ℕ) → has_name new other ≡ is_among other (map g (take (i + 1) xs))
name_seen_next g xs i x k old new l here e too so_far other =
    too other
    ∙ (λ j. so_far other j || bytes_eq (e j) other)
    ∙ sym (any_push (λ n. bytes_eq n other) (map g (take i xs)) (g x))
    ∙ ap (is_among other) (sym (ap (map g) (taken_more xs i x l here) ∙ map-append g (take i xs) (x ∷ [])))
