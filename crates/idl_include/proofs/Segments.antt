-- A segment more, and one fewer, where the last stands first.
use Rattle.std.proofs.Common.{◌≡◌, ℕ, Bool, true, false, not, ◌||◌, List, [], ◌∷◌, ◌++◌, reverse, refl, ap, sym, subst, ◌∙◌}
use Rattle.std.specs.Prelude.{if◌then◌else◌}
use Rattle.std.specs.Str.{bytes_eq}
use Rattle.std.proofs.lemmas.List.{reverse-append, map-append}
use Rattle.idl_include.specs.FileNames.{is_upward, with_upward}
use Rattle.idl_include.specs.Texts.{texts}
use denote.Ref.{Bor}

pub with_last : (xs : List (Bor (List ℕ))) (last : Bor (List ℕ)) → reverse (texts (xs ++ last ∷ [])) ≡ last.now ∷ reverse (texts xs)
with_last xs last =
    ap reverse (map-append (λ (text : Bor (List ℕ)). text.now) xs (last ∷ [])) ∙ reverse-append (texts xs) (last.now ∷ [])

holds_not : (b : Bool) → not b ≡ true → b ≡ false
holds_not true e = sym e
holds_not false e = refl

fails_not : (b : Bool) → not b ≡ false → b ≡ true
fails_not true e = refl
fails_not false e = sym e

pub taken_out : (all before : List (List ℕ)) (last segment : List ℕ) → all ≡ last ∷ before
    → not (bytes_eq last [] || is_upward last) ≡ true → before ≡ with_upward all segment
taken_out all before last segment e test =
    let P : List (List ℕ) → Type 0 = λ v. before ≡ with_upward v segment in
    subst P (sym e) (sym (ap (λ b. if b then segment ∷ last ∷ before else before) (holds_not (bytes_eq last [] || is_upward last) test)))

pub left_in : (all before : List (List ℕ)) (last segment : List ℕ) → all ≡ last ∷ before
    → not (bytes_eq last [] || is_upward last) ≡ false → segment ∷ last ∷ before ≡ with_upward all segment
left_in all before last segment e test =
    let P : List (List ℕ) → Type 0 = λ v. segment ∷ last ∷ before ≡ with_upward v segment in
    subst P (sym e) (sym (ap (λ b. if b then segment ∷ last ∷ before else before) (fails_not (bytes_eq last [] || is_upward last) test)))
