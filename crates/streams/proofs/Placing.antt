-- How the first file of a name is found among files in memory, and what it is to put bytes there.
use Rattle.std.proofs.Common.{◌≡◌, ℕ, zero, suc, ◌+◌, ◌<◌, List, [], ◌∷◌, ◌++◌, length, drop, get_or, set, Some, None, IsSome, Bool, true, false, if◌then◌else◌, refl, ap, sym, ◌∙◌, subst, arith, add-one, drop-cons, map}
use Rattle.std.specs.Str.{bytes_eq}
use Rattle.std.proofs.lemmas.List.{length-map, map-set, map-append, get_or-map}
use Rattle.std.proofs.lemmas.Slice.Eq.{bytes_eq-Decides}
use Rattle.streams.specs.Files.{File, content_of}
use Rattle.streams.specs.Making.{with_file}
use Rattle.streams.specs.Places.{IsFirstAt, HasPassed}

-- one more has another name
pub one_passed : (files : List File) (name : List ℕ) (at : ℕ) (d : File) → at < length files → bytes_eq (get_or files at d).name name ≡ false
    → HasPassed files name at → HasPassed files name (at + 1)
one_passed files name at d here other passed =
    let front : drop at files ≡ get_or files at d ∷ drop (suc at) files = drop-cons files at d here in
    record {
      within = omega arith;
      found = passed.found ∙ ap (λ fs. content_of fs name) front
          ∙ ap (λ b. if b then Some (get_or files at d).bytes else content_of (drop (suc at) files) name) other
          ∙ ap (λ n. content_of (drop n files) name) (sym (add-one at));
      place = λ i first. subst (IsFirstAt files name) (omega arith)
          (passed.place (suc i) (subst (λ fs. IsFirstAt fs name (suc i)) (sym front) (other, subst (λ n. IsFirstAt (drop n files) name i) (add-one at) first)));
    }

-- this one has the name
pub first_here : (files : List File) (name : List ℕ) (at : ℕ) (d : File) → at < length files → bytes_eq (get_or files at d).name name ≡ true
    → HasPassed files name at → IsFirstAt files name at
first_here files name at d here same passed =
    let front : drop at files ≡ get_or files at d ∷ drop (suc at) files = drop-cons files at d here in
    subst (IsFirstAt files name) (omega arith) (passed.place 0 (subst (λ fs. IsFirstAt fs name 0) (sym front) same))

-- where it stands there is a file
pub first_within : (files : List File) (name : List ℕ) (at : ℕ) → IsFirstAt files name at → at < length files
first_within [] name at first = absurd first
first_within (file ∷ files) name zero first = omega arith
first_within (file ∷ files) name (suc at) first = omega (arith, first_within files name at first.1)

-- its bytes are put there
pub put_first : (files : List File) (name bytes : List ℕ) (at : ℕ) (d : File) → IsFirstAt files name at
    → set files at (record (get_or files at d) { bytes = bytes }) ≡ with_file files name bytes
put_first [] name bytes at d first = absurd first
put_first (file ∷ files) name bytes zero d first =
    sym (ap (λ b. if b then record file { bytes = bytes } ∷ files else file ∷ with_file files name bytes) first)
put_first (file ∷ files) name bytes (suc at) d first =
    ap (λ fs. file ∷ fs) (put_first files name bytes at d first.1)
    ∙ sym (ap (λ b. if b then record file { bytes = bytes } ∷ files else file ∷ with_file files name bytes) first.0)

-- where there is none, a new file stands behind the others
put_behind_by : (b : Bool) (file : File) (files : List File) (name bytes : List ℕ)
    → (content_of files name ≡ None → with_file files name bytes ≡ files ++ record { name = name; bytes = bytes } ∷ [])
    → (if b then Some file.bytes else content_of files name) ≡ None
    → (if b then record file { bytes = bytes } ∷ files else file ∷ with_file files name bytes) ≡ file ∷ files ++ record { name = name; bytes = bytes } ∷ []
put_behind_by true file files name bytes rest none = absurd (let no : ⊥ = cc in no)
put_behind_by false file files name bytes rest none = ap (λ fs. file ∷ fs) (rest none)

pub put_behind : (files : List File) (name bytes : List ℕ) → content_of files name ≡ None → with_file files name bytes ≡ files ++ record { name = name; bytes = bytes } ∷ []
put_behind [] name bytes none = refl
put_behind (file ∷ files) name bytes none = put_behind_by (bytes_eq file.name name) file files name bytes (put_behind files name bytes) none

-- the file of the name holds the bytes then
held_by : (b : Bool) (file : File) (files : List File) (name bytes : List ℕ) → bytes_eq file.name name ≡ b
    → content_of (with_file files name bytes) name ≡ Some bytes
    → content_of (if b then record file { bytes = bytes } ∷ files else file ∷ with_file files name bytes) name ≡ Some bytes
held_by true file files name bytes same rest = ap (λ b. if b then Some bytes else content_of files name) same
held_by false file files name bytes other rest = ap (λ b. if b then Some file.bytes else content_of (with_file files name bytes) name) other ∙ rest

pub file_held : (files : List File) (name bytes : List ℕ) → content_of (with_file files name bytes) name ≡ Some bytes
file_held [] name bytes = ap (λ b. if b then Some bytes else None) ((bytes_eq-Decides name name).1 refl)
file_held (file ∷ files) name bytes = held_by (bytes_eq file.name name) file files name bytes refl (file_held files name bytes)

-- so there is one
pub file_there : (files : List File) (name bytes : List ℕ) → IsSome (content_of (with_file files name bytes) name)
file_there files name bytes = subst IsSome (sym (file_held files name bytes)) refl

-- The same of items that stand for files, as code holds them.
module _ {A : Type 0} (view : A → File) (items : List A) (files : List File) (shown : files ≡ map view items) where
  at_place : (at : ℕ) (item : A) → at < length items → item ≡ get_or items at item → view item ≡ get_or files at (view item)
  at_place at item here is = ap view is ∙ sym (get_or-map view items at item (view item) here) ∙ ap (λ fs. get_or fs at (view item)) (sym shown)

  in_files : (at : ℕ) → at < length items → at < length files
  in_files at here = subst (λ n. at < n) (sym (length-map items view) ∙ ap length (sym shown)) here

  pub item_passed : (name : List ℕ) (at : ℕ) (item : A) → at < length items → item ≡ get_or items at item → bytes_eq (view item).name name ≡ false
      → HasPassed files name at → HasPassed files name (at + 1)
  item_passed name at item here is other passed =
      one_passed files name at (view item) (in_files at here) (subst (λ (f : File). bytes_eq f.name name ≡ false) (at_place at item here is) other) passed

  pub first_item : (name : List ℕ) (at : ℕ) (item : A) → at < length items → item ≡ get_or items at item → bytes_eq (view item).name name ≡ true
      → HasPassed files name at → IsFirstAt files name at
  first_item name at item here is same passed =
      first_here files name at (view item) (in_files at here) (subst (λ (f : File). bytes_eq f.name name ≡ true) (at_place at item here is) same) passed

  pub item_within : (name : List ℕ) (at : ℕ) → IsFirstAt files name at → at < length items
  item_within name at first = subst (λ n. at < n) (ap length shown ∙ length-map items view) (first_within files name at first)

  -- another item in its place, which is it but for its bytes
  pub item_put : (name bytes : List ℕ) (at : ℕ) (item new : A) → item ≡ get_or items at item → view new ≡ record (view item) { bytes = bytes }
      → IsFirstAt files name at → map view (set items at new) ≡ with_file files name bytes
  item_put name bytes at item new is changed first =
      map-set view items at new
      ∙ (λ i. set (sym shown i) at (changed i))
      ∙ ap (λ (f : File). set files at (record f { bytes = bytes })) (at_place at item (item_within name at first) is)
      ∙ put_first files name bytes at (view item) first

  -- one more behind them
  pub item_behind : (name bytes : List ℕ) (new : A) (now : List A) → now ≡ items ++ new ∷ [] → view new ≡ record { name = name; bytes = bytes }
      → content_of files name ≡ None → map view now ≡ with_file files name bytes
  item_behind name bytes new now more is none =
      ap (map view) more
      ∙ map-append view items (new ∷ [])
      ∙ (λ i. sym shown i ++ is i ∷ [])
      ∙ sym (put_behind files name bytes none)
