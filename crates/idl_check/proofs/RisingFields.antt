-- The fields of a list stand by rising id, where no field has the id of one before it.
use Rattle.std.proofs.Common.{◌≡◌, inl, inr, ℕ, ◌+◌, ℤ, ◌<ℤ◌, Bool, true, false, if◌then◌else◌, int_le, List, [], ◌∷◌, ◌++◌, Option, None, Some, AllPairs, refl, sym, ap, subst, ◌∙◌, arith}
use Rattle.std.specs.List.{AllByRecursion, AllZip, list_any}
use Rattle.std.specs.Ordering.{int_eq}
use Rattle.std.proofs.lemmas.Bool.{or_cases, or_left, or_right}
use Rattle.std.proofs.lemmas.Bool.Decides.{Decides-int_eq}
use Rattle.std.proofs.lemmas.Int.{ints}
use Rattle.std.proofs.lemmas.List.Elements.{All-from_recursion}
use Rattle.std.proofs.lemmas.List.Kept.{AllPairs-cons}
use Rattle.idl_include.specs.Declarations.{FieldDecl}
use Rattle.idl_include.specs.FieldIds.{id_behind, one_more_unnumbered, unnumbered_in, ids_behind, field_ids}
use Rattle.schema.specs.PlainSchema.{PlainField}
use Rattle.check_model.specs.FieldLists.{NumberedField, numbered_behind, put_by_id, put_all_by_id, fields_by_id}
use Rattle.check_model.specs.Passes.{is_id_repeated}
use Rattle.check_model.proofs.Shown.{weaker}

-- numbers in order
below : (a b : ℤ) → int_le a b ≡ true → (a ≡ b → ⊥) → a <ℤ b
below a b le other = grind (arith, ints)

above : (a b : ℤ) → int_le a b ≡ false → b <ℤ a
above a b le = grind (arith, ints)

through : (a b c : ℤ) → a <ℤ b → b <ℤ c → a <ℤ c
through a b c l m = omega (arith, ints)

-- each field's id is below those of all behind it
abbrev pub Rise : List NumberedField → Type 0
Rise [] = Unit {0}
Rise (f ∷ fs) = AllByRecursion (λ (g : NumberedField). f.id <ℤ g.id) fs × Rise fs

module _ (Q : NumberedField → Type 0) where
  put_either : (b : Bool) (f other : NumberedField) (more put : List NumberedField) → Q f → Q other → AllByRecursion Q more → AllByRecursion Q put
      → AllByRecursion Q (if b then other ∷ put else f ∷ other ∷ more)
  put_either true f other more put h g k l = (g, l)
  put_either false f other more put h g k l = (h, (g, k))

  put_holds : (f : NumberedField) (more : List NumberedField) → Q f → AllByRecursion Q more → AllByRecursion Q (put_by_id f more)
  put_holds f [] h k = (h, tt)
  put_holds f (other ∷ more) h k = put_either (int_le other.id f.id) f other more (put_by_id f more) h k.0 k.1 (put_holds f more h k.1)

  all_put : (fs sorted : List NumberedField) → AllByRecursion Q fs → AllByRecursion Q sorted → AllByRecursion Q (put_all_by_id fs sorted)
  all_put [] sorted h k = k
  all_put (f ∷ fs) sorted h k = all_put fs (put_by_id f sorted) h.1 (put_holds f sorted h.0 k)

module _ (Q : FieldDecl → Type 0) where
  numbered_holds : (n : ℕ) (fs : List FieldDecl) → AllByRecursion Q fs → AllByRecursion (λ (f : NumberedField). Q f.decl) (numbered_behind n fs)
  numbered_holds n [] h = tt
  numbered_holds n (f ∷ fs) h = (h.0, numbered_holds (one_more_unnumbered n f.id) fs h.1)

  -- what holds of each field of a list holds of them by id
  pub by_id_holds : (fs : List FieldDecl) → AllByRecursion Q fs → AllByRecursion (λ (f : NumberedField). Q f.decl) (fields_by_id fs)
  unfolding fields_by_id
  by_id_holds fs h = all_put (λ (f : NumberedField). Q f.decl) (numbered_behind 0 fs) [] (numbered_holds 0 fs h) tt

abbrev Differs : ℤ → NumberedField → Type 0
Differs id g = g.id ≡ id → ⊥

put_rises_by : (f other : NumberedField) (more : List NumberedField) → Rise (other ∷ more) → Differs f.id other → Rise (put_by_id f more) → (b : Bool) → int_le other.id f.id ≡ b
    → Rise (if b then other ∷ put_by_id f more else f ∷ other ∷ more)
put_rises_by f other more rise differs put true e =
    (put_holds (λ (g : NumberedField). other.id <ℤ g.id) f more (below other.id f.id e differs) rise.0, put)
put_rises_by f other more rise differs put false e =
    let low = above other.id f.id e in
    ((low, weaker (λ (g : NumberedField). other.id <ℤ g.id) (λ (g : NumberedField). f.id <ℤ g.id) (λ g l. through f.id other.id g.id low l) more rise.0), rise)

put_rises : (f : NumberedField) (more : List NumberedField) → Rise more → AllByRecursion (Differs f.id) more → Rise (put_by_id f more)
put_rises f [] rise differ = (tt, tt)
put_rises f (other ∷ more) rise differ =
    put_rises_by f other more rise differ.0 (put_rises f more rise.1 differ.1) (int_le other.id f.id) refl

-- how many fields have no written number behind so many
swapped : (n : ℕ) (a b : Option ℤ) → one_more_unnumbered (one_more_unnumbered n a) b ≡ one_more_unnumbered (one_more_unnumbered n b) a
swapped n None None = refl
swapped n None (Some b) = refl
swapped n (Some a) None = refl
swapped n (Some a) (Some b) = refl

one_more_behind : (before : List FieldDecl) (f : FieldDecl) → one_more_unnumbered (unnumbered_in before) f.id ≡ unnumbered_in (before ++ f ∷ [])
one_more_behind [] f = refl
one_more_behind (x ∷ before) f =
    swapped (unnumbered_in before) x.id f.id ∙ ap (λ n. one_more_unnumbered n x.id) (one_more_behind before f)

-- the ids with one field more
abbrev count_behind : ℕ → List FieldDecl → ℕ
count_behind n [] = n
count_behind n (f ∷ fs) = count_behind (one_more_unnumbered n f.id) fs

more_counted : (n u : ℕ) (id : Option ℤ) → one_more_unnumbered n id + u ≡ n + one_more_unnumbered u id
more_counted n u None = omega arith
more_counted n u (Some id) = refl

counted_behind : (n : ℕ) (fs : List FieldDecl) → count_behind n fs ≡ n + unnumbered_in fs
counted_behind n [] = omega arith
counted_behind n (f ∷ fs) = counted_behind (one_more_unnumbered n f.id) fs ∙ more_counted n (unnumbered_in fs) f.id

ids_pushed : (n : ℕ) (before : List FieldDecl) (f : FieldDecl) → ids_behind n (before ++ f ∷ []) ≡ ids_behind n before ++ id_behind (count_behind n before) f.id ∷ []
ids_pushed n [] f = refl
ids_pushed n (x ∷ before) f = ap (λ ids. id_behind n x.id ∷ ids) (ids_pushed (one_more_unnumbered n x.id) before f)

field_ids_pushed : (before : List FieldDecl) (f : FieldDecl) → field_ids (before ++ f ∷ []) ≡ field_ids before ++ id_behind (unnumbered_in before) f.id ∷ []
unfolding field_ids
field_ids_pushed before f =
    let same : count_behind 0 before ≡ unnumbered_in before = omega (arith, counted_behind 0 before) in
    ids_pushed 0 before f ∙ ap (λ n. ids_behind 0 before ++ id_behind n f.id ∷ []) same

any_front : (test : ℤ → Bool) (xs ys : List ℤ) → list_any test xs ≡ true → list_any test (xs ++ ys) ≡ true
any_front test [] ys e = absurd (let f : false ≡ true = e in cc)
any_front test (x ∷ xs) ys e =
    elim (or_cases (test x) (list_any test xs) e) as (λ _. list_any test (x ∷ (xs ++ ys)) ≡ true) [
      | inl here ↦ or_left (test x) (list_any test (xs ++ ys)) here
      | inr later ↦ or_right (test x) (list_any test (xs ++ ys)) (any_front test xs ys later)
    ]

any_last : (test : ℤ → Bool) (xs : List ℤ) (y : ℤ) → test y ≡ true → list_any test (xs ++ y ∷ []) ≡ true
any_last test [] y e = or_left (test y) false e
any_last test (x ∷ xs) y e = or_right (test x) (list_any test (xs ++ y ∷ [])) (any_last test xs y e)

-- a field's id is among those of these fields
abbrev IsTaken : List FieldDecl → NumberedField → Type 0
IsTaken before g = list_any (int_eq g.id) (field_ids before) ≡ true

taken_still : (before : List FieldDecl) (f : FieldDecl) (g : NumberedField) → IsTaken before g → IsTaken (before ++ f ∷ []) g
taken_still before f g taken =
    let end = id_behind (unnumbered_in before) f.id ∷ [] in
    ap (list_any (int_eq g.id)) (field_ids_pushed before f) ∙ any_front (int_eq g.id) (field_ids before) end taken

taken_now : (before : List FieldDecl) (f : FieldDecl) → IsTaken (before ++ f ∷ []) (record { id = id_behind (unnumbered_in before) f.id; decl = f })
taken_now before f =
    let id = id_behind (unnumbered_in before) f.id in
    ap (list_any (int_eq id)) (field_ids_pushed before f) ∙ any_last (int_eq id) (field_ids before) id ((Decides-int_eq id id).1 refl)

-- no field has the id of one before it
abbrev pub AreFresh : List FieldDecl → List FieldDecl → Type 0
AreFresh before [] = Unit {0}
AreFresh before (f ∷ fs) = (is_id_repeated before f ≡ true → ⊥) × AreFresh (before ++ f ∷ []) fs

all_rise : (before fs : List FieldDecl) (sorted : List NumberedField) → AreFresh before fs → Rise sorted → AllByRecursion (IsTaken before) sorted
    → Rise (put_all_by_id (numbered_behind (unnumbered_in before) fs) sorted)
all_rise before [] sorted fresh rise taken = rise
all_rise before (f ∷ fs) sorted fresh rise taken =
    let id = id_behind (unnumbered_in before) f.id in
    let next : NumberedField = record { id = id; decl = f } in
    let differ : AllByRecursion (Differs id) sorted =
    weaker (IsTaken before) (Differs id) (λ g is same. fresh.0 (subst (λ z. list_any (int_eq z) (field_ids before) ≡ true) same is)) sorted taken in
    let later = all_rise (before ++ f ∷ []) fs (put_by_id next sorted) fresh.1 (put_rises next sorted rise differ)
    (put_holds (IsTaken (before ++ f ∷ [])) next sorted (taken_now before f) (weaker (IsTaken before) (IsTaken (before ++ f ∷ [])) (taken_still before f) sorted taken)) in
    subst (λ n. Rise (put_all_by_id (numbered_behind n fs) (put_by_id next sorted))) (sym (one_more_behind before f)) later

pub fields_rise : (fs : List FieldDecl) → AreFresh [] fs → Rise (fields_by_id fs)
unfolding fields_by_id
fields_rise fs fresh = all_rise [] fs [] fresh tt tt

-- the same of fields of a schema with these ids
module _ (R : NumberedField → PlainField → Type 0) (same_id : (f : NumberedField) (p : PlainField) → R f p → p.id ≡ f.id) where
  zip_above : (id : ℤ) (fs : List NumberedField) (ps : List PlainField) → AllZip R fs ps → AllByRecursion (λ (g : NumberedField). id <ℤ g.id) fs → AllByRecursion (λ (p : PlainField). id <ℤ p.id) ps
  zip_above id [] [] zip h = tt
  zip_above id [] (p ∷ ps) zip h = absurd zip
  zip_above id (f ∷ fs) [] zip h = absurd zip
  zip_above id (f ∷ fs) (p ∷ ps) zip h = (subst (λ z. id <ℤ z) (sym (same_id f p zip.0)) h.0, zip_above id fs ps zip.1 h.1)

  pub zip_rises : (fs : List NumberedField) (ps : List PlainField) → AllZip R fs ps → Rise fs → AllPairs (λ (p q : PlainField). p.id <ℤ q.id) ps
  zip_rises [] [] zip h = λ i j d low within. absurd (omega arith)
  zip_rises [] (p ∷ ps) zip h = absurd zip
  zip_rises (f ∷ fs) [] zip h = absurd zip
  zip_rises (f ∷ fs) (p ∷ ps) zip h =
      AllPairs-cons (λ (p q : PlainField). p.id <ℤ q.id) p ps
      (All-from_recursion (λ (q : PlainField). p.id <ℤ q.id) ps
      (subst (λ z. AllByRecursion (λ (q : PlainField). z <ℤ q.id) ps) (sym (same_id f p zip.0)) (zip_above f.id fs ps zip.1 h.0)))
      (zip_rises fs ps zip.1 h.1)
