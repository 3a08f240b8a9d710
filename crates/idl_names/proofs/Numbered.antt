-- Names with their numbers, one more at a time.
use Rattle.std.proofs.Common.{◌≡◌, ◌≢◌, ◌⊎◌, ◌<◌, ℕ, zero, suc, ◌+◌, ◌==◌, eqb, Bool, true, false, cond, inl, inr, List, [], ◌∷◌, ◌++◌, length, get_or, set, slice_get, Option, None, Some, Result, Ok, Err, OnOk, is_some, Bor, refl, ap, sym, subst, ◌∙◌, arith, true≢false, add-zero, add-one, zero-add, take}
use Rattle.std.specs.Prelude.{◌&&◌}
use Rattle.std.proofs.Math.Seq.{take-suc}
use Rattle.std.proofs.lemmas.List.{length-take-le}
use Rattle.std.specs.Option.{option_or, option_and_then}
use Rattle.std.specs.List.{position_from}
use Rattle.std.specs.Str.{bytes_eq}
use Rattle.std.specs.Map.{lookup}
use Rattle.std.proofs.lemmas.Slice.Eq.{bytes_eq-Decides}
use Rattle.std.proofs.lemmas.Bool.Decides.{same_from_decides, eqb_tells}
use Rattle.indexmap.specs.IndexMap.{insert_entry, get}
use Rattle.indexmap.proofs.CallerLemmas.{insert_entry-new}
use Rattle.idl_names.specs.NameMaps.{NameMap, number_of_name, number_in_file, number_if, HasOneMore, HasOneMoreIn}

-- ---- equal texts

pub same_either_way : (xs ys : List ℕ) → bytes_eq xs ys ≡ bytes_eq ys xs
same_either_way xs ys =
    let d = bytes_eq-Decides xs ys in
    let e = bytes_eq-Decides ys xs in
    same_from_decides (bytes_eq xs ys) (bytes_eq ys xs) d ((λ t. sym (e.0 t)), (λ p. e.1 (sym p)))

-- ---- options

option_or_none : {A : Type 0} (o : Option A) → option_or o None ≡ o
option_or_none None = refl
option_or_none (Some x) = refl

option_or_some : {A : Type 0} (o p : Option A) → is_some o ≡ true → option_or o p ≡ o
option_or_some None p e = absurd (true≢false (sym e))
option_or_some (Some x) p e = refl

pub none_from_test : {A : Type 0} (o : Option A) → is_some o ≡ false → o ≡ None
none_from_test None e = refl
none_from_test (Some x) e = absurd (true≢false e)

-- ---- one map

abbrev Entries : Type 0
Entries = List (Bor (List ℕ) × ℕ)

-- the number of a name among entries
abbrev among : List ℕ → Entries → Option ℕ
among other es = lookup (λ (key : Bor (List ℕ)). bytes_eq other key.now) es

pub behind : (b : Bool) (x : ℕ) (o p q : Option ℕ) → p ≡ option_or o q → cond b (Some x) p ≡ option_or (cond b (Some x) o) q
behind true x o p q e = refl
behind false x o p q e = e

one_behind : (es : Entries) (k : Bor (List ℕ)) (v : ℕ) (other : List ℕ) → among other (es ++ (k, v) ∷ []) ≡ option_or (among other es) (number_if (bytes_eq k.now other) v)
one_behind [] k v other = ap (λ (b : Bool). cond b (Some v) None) (same_either_way other k.now)
one_behind (e ∷ es) k v other =
    behind (bytes_eq other e.0.now) e.1 (among other es) (among other (es ++ (k, v) ∷ [])) (number_if (bytes_eq k.now other) v) (one_behind es k v other)

pub new_name : (old new : NameMap) (k : Bor (List ℕ)) (v : ℕ) → is_some (number_of_name old k.now) ≡ false
    → new.entries ≡ insert_entry (λ (x y : Bor (List ℕ)). bytes_eq x.now y.now) old.entries k v → HasOneMore k.now v old new
new_name old new k v absent entries other =
    let eq : Bor (List ℕ) → Bor (List ℕ) → Bool = λ x y. bytes_eq x.now y.now in
    ap (among other) (entries ∙ insert_entry-new eq old k v (none_from_test (get eq old k) absent))
    ∙ one_behind old.entries k v other

pub old_name : (m : NameMap) (name : List ℕ) (number : ℕ) → is_some (number_of_name m name) ≡ true → HasOneMore name number m m
old_name m name number there other = by (bytes_eq name other) refl
  where
    by : (b : Bool) → bytes_eq name other ≡ b → number_of_name m other ≡ option_or (number_of_name m other) (number_if b number)
    by true e =
        let same : name ≡ other = (bytes_eq-Decides name other).0 e in
        let P : List ℕ → Type 0 = λ n. is_some (number_of_name m n) ≡ true in
        sym (option_or_some (number_of_name m other) (Some number) (subst P same there))
    by false e = sym (option_or_none (number_of_name m other))

-- ---- maps by file

set_same : {A : Type 0} (xs : List A) (i : ℕ) (v : A) → i < length xs → slice_get (set xs i v) i ≡ Some v
set_same [] i v l = absurd (omega arith)
set_same (x ∷ xs) zero v l = refl
set_same (x ∷ xs) (suc i) v l = set_same xs i v (omega arith)

set_other : {A : Type 0} (xs : List A) (i j : ℕ) (v : A) → (i ≡ j → ⊥) → slice_get (set xs i v) j ≡ slice_get xs j
set_other [] i j v n = refl
set_other (x ∷ xs) zero zero v n = absurd (n refl)
set_other (x ∷ xs) zero (suc j) v n = refl
set_other (x ∷ xs) (suc i) zero v n = refl
set_other (x ∷ xs) (suc i) (suc j) v n = set_other xs i j v (λ e. n (ap suc e))

get_there : {A : Type 0} (xs : List A) (i : ℕ) (d : A) → i < length xs → slice_get xs i ≡ Some (get_or xs i d)
get_there [] i d l = absurd (omega arith)
get_there (x ∷ xs) zero d l = refl
get_there (x ∷ xs) (suc i) d l = get_there xs i d (omega arith)

pub one_more_in : (maps : List NameMap) (file : ℕ) (name : List ℕ) (number : ℕ) (old new : NameMap) → file < length maps → old ≡ get_or maps file old
    → HasOneMore name number old new → HasOneMoreIn file name number maps (set maps file new)
one_more_in maps file name number old new l here more f other = by (eqb_tells file f)
  where
    after : Option NameMap → Option ℕ
    after o = option_and_then (λ m. number_of_name m other) o

    was : slice_get maps file ≡ Some old
    was = get_there maps file old l ∙ ap Some (sym here)

    by : ((eqb file f ≡ true) × (file ≡ f)) ⊎ ((eqb file f ≡ false) × (file ≢ f))
        → number_in_file (set maps file new) f other ≡ option_or (number_in_file maps f other) (number_if ((file == f) && bytes_eq name other) number)
    by (inl (t, e)) =
        ap (λ (o : Option NameMap). option_and_then (λ m. number_of_name m other) o) (ap (λ k. slice_get (set maps file new) k) (sym e) ∙ set_same maps file new l)
        ∙ more other
        ∙ ap (λ (o : Option NameMap). option_or (option_and_then (λ m. number_of_name m other) o) (number_if (bytes_eq name other) number)) (sym was ∙ ap (slice_get maps) e)
        ∙ ap (λ (b : Bool). option_or (number_in_file maps f other) (number_if (b && bytes_eq name other) number)) (sym t)
    by (inr (t, n)) =
        ap (λ (o : Option NameMap). option_and_then (λ m. number_of_name m other) o) (set_other maps file f new n)
        ∙ sym (option_or_none (number_in_file maps f other))
        ∙ ap (λ (b : Bool). option_or (number_in_file maps f other) (number_if (b && bytes_eq name other) number)) (sym t)

-- ---- positions

position_behind : (b : Bool) (i : ℕ) (o p q : Option ℕ) → p ≡ option_or o q → cond b (Some i) p ≡ option_or (cond b (Some i) o) q
position_behind true i o p q e = refl
position_behind false i o p q e = e

pub position_one_more : {A : Type 0} (test : A → Bool) (i : ℕ) (xs : List A) (x : A)
    → position_from test i (xs ++ x ∷ []) ≡ option_or (position_from test i xs) (number_if (test x) (i + length xs))
position_one_more test i [] x = ap (λ n. number_if (test x) n) (sym (add-zero i))
position_one_more test i (y ∷ xs) x =
    position_behind (test y) i (position_from test (i + 1) xs) (position_from test (i + 1) (xs ++ x ∷ [])) (number_if (test x) (i + length (y ∷ xs)))
    (position_one_more test (i + 1) xs x ∙ ap (λ n. option_or (position_from test (i + 1) xs) (number_if (test x) n)) (omega arith))

pub noted_in : {A E : Type 0} (r : Result A E) (first maps : List NameMap) (file : ℕ) (name : List ℕ) (number : ℕ) (old new : NameMap)
    → ((f : ℕ) (other : List ℕ) → number_in_file maps f other ≡ number_in_file first f other) → file < length maps → old ≡ get_or maps file old
    → OnOk r (HasOneMore name number old new) → OnOk r (HasOneMoreIn file name number first (set maps file new))
noted_in (Ok x) first maps file name number old new same l here more = λ f other.
    one_more_in maps file name number old new l here more f other
    ∙ ap (λ (o : Option ℕ). option_or o (number_if ((file == f) && bytes_eq name other) number)) (same f other)
noted_in (Err e) first maps file name number old new same l here more = tt

-- ---- one item more of a list

pub noted_next : {A : Type 0} (file_of : A → ℕ) (text : A → List ℕ) (items : List A) (n number : ℕ) (x : A) (name : List ℕ) (old new : List NameMap)
    → n < length items → x ≡ get_or items n x → number ≡ n → name ≡ text x → HasOneMoreIn (file_of x) name number old new
    → ((file : ℕ) (other : List ℕ) → number_in_file old file other ≡ position_from (λ y. (file_of y == file) && bytes_eq (text y) other) 0 (take n items))
    → (file : ℕ) (other : List ℕ) → number_in_file new file other ≡ position_from (λ y. (file_of y == file) && bytes_eq (text y) other) 0 (take (n + 1) items)
noted_next {A} file_of text items n number x name old new l here counted named more so_far file other =
    let test : A → Bool = λ y. (file_of y == file) && bytes_eq (text y) other in
    let longer : take (n + 1) items ≡ take n items ++ x ∷ [] =
    ap (λ k. take k items) (add-one n) ∙ take-suc items n x l ∙ ap (λ y. take n items ++ y ∷ []) (sym here) in
    let place : number ≡ length (take n items) = counted ∙ sym (length-take-le n items (omega arith)) in
    more file other
    ∙ ap (λ (o : Option ℕ). option_or o (number_if ((file_of x == file) && bytes_eq name other) number)) (so_far file other)
    ∙ ap (λ (t : List ℕ). option_or (position_from test 0 (take n items)) (number_if ((file_of x == file) && bytes_eq t other) number)) named
    ∙ ap (λ k. option_or (position_from test 0 (take n items)) (number_if (test x) k)) (place ∙ sym (zero-add (length (take n items))))
    ∙ sym (position_one_more test 0 (take n items) x)
    ∙ ap (position_from test 0) (sym longer)
