-- Values that hold no others are read back, and what is read stands there.
use Rattle.std.proofs.Common.{◌≡◌, ◌==◌, if◌then◌else◌, ◌⊎◌, ℕ, zero, suc, ◌+◌, ◌-◌, ◌^◌, ◌<◌, ◌≤◌, true, false, cond, ℤ, pos, negsuc, List, [], ◌∷◌, ◌++◌, length, Option, Some, None, Ok, Err, refl, sym, ap, subst, ◌∙◌, append_assoc, arith, inl, inr, eqb-true, eq-eqb}
use Rattle.std.proofs.lemmas.Fmt.{decimal_digit}
use Rattle.std.proofs.lemmas.Int.{ints}
use Rattle.std.specs.Prelude.{FitsSigned}
use Rattle.std.specs.Int.{w8, w16, w32, w64}
use Rattle.thrift_value.specs.declared.tag.Tag.{Tag}
use Rattle.thrift_value.specs.declared.tag.Tag.TheVariants as tags
use Rattle.thrift_value.specs.Tags.{rank}
use Rattle.thrift_value.specs.Tree.{Tree, of_i8, of_i16, of_i32, of_i64}
use Rattle.text_out.specs.Decimal.{natural_of, decimal_of}
use Rattle.value_text.specs.declared.form.Form.TheVariants.{Alone}
use Rattle.value_text.specs.declared.form.Leaf.TheVariants.{Number}
use Rattle.value_text.specs.ValueText.{tree_text}
use Rattle.value_text.specs.Fronts.{◌>>=◌, is_digit}
use Rattle.value_text.specs.Rows.{found_or}
use Rattle.value_text.specs.Reading.{form_of, form_or, form_at, is_wanted, is_number_wanted, greatest, fits_bits, typed_as, lettered, typed_at, number_text_at}
use Rattle.value_text.proofs.Numbers.{IsWithin, integer_again, decimal_begins}

-- the tag of each rank
abbrev tag_ranked : ℕ → Tag
tag_ranked n =
    if n == 0 then tags.Bool else if n == 1 then tags.I8 else if n == 2 then tags.I16 else if n == 3 then tags.I32 else if n == 4 then tags.I64
    else if n == 5 then tags.Double else if n == 6 then tags.Bytes else if n == 7 then tags.Struct else if n == 8 then tags.Map else if n == 9 then tags.Set
    else if n == 10 then tags.List else tags.Uuid

ranked : (tag : Tag) → tag_ranked (rank tag) ≡ tag
ranked tags.Bool = refl
ranked tags.I8 = refl
ranked tags.I16 = refl
ranked tags.I32 = refl
ranked tags.I64 = refl
ranked tags.Double = refl
ranked tags.Bytes = refl
ranked tags.Struct = refl
ranked tags.Map = refl
ranked tags.Set = refl
ranked tags.List = refl
ranked tags.Uuid = refl

-- where one tag is wanted only that may stand
pub wanted_is : (wanted : Option Tag) (tag : Tag) → is_wanted wanted tag ≡ true → (wanted ≡ None) ⊎ (wanted ≡ Some tag)
wanted_is None tag e = inl refl
wanted_is (Some only) tag e = inr (ap Some (sym (ranked only) ∙ ap tag_ranked (eqb-true (rank only) (rank tag) e) ∙ ranked tag))

-- a value of the tag that is wanted has it
pub kind_is : (wanted tag : Tag) → is_wanted (Some wanted) tag ≡ true → tag ≡ wanted
kind_is wanted tag e = sym (ranked tag) ∙ ap tag_ranked (sym (eqb-true (rank wanted) (rank tag) e)) ∙ ranked wanted

pub same_wanted : (tag : Tag) → is_wanted (Some tag) tag ≡ true
same_wanted tag = eq-eqb (rank tag) (rank tag) refl

-- ---- numbers

digit_form : (d : ℕ) → d < 10 → form_of (48 + d) ≡ Some (Alone Number)
digit_form zero low = refl
digit_form (suc zero) low = refl
digit_form (suc (suc zero)) low = refl
digit_form (suc (suc (suc zero))) low = refl
digit_form (suc (suc (suc (suc zero)))) low = refl
digit_form (suc (suc (suc (suc (suc zero))))) low = refl
digit_form (suc (suc (suc (suc (suc (suc zero)))))) low = refl
digit_form (suc (suc (suc (suc (suc (suc (suc zero))))))) low = refl
digit_form (suc (suc (suc (suc (suc (suc (suc (suc zero)))))))) low = refl
digit_form (suc (suc (suc (suc (suc (suc (suc (suc (suc zero))))))))) low = refl
digit_form (suc (suc (suc (suc (suc (suc (suc (suc (suc (suc d)))))))))) low = absurd (omega (arith, low))

-- the first byte of a number
pub number_begins : (z : ℤ) → FitsSigned w64 z → (b : ℕ) × (bs : List ℕ) × (decimal_of z ≡ b ∷ bs) × (form_of b ≡ Some (Alone Number)) × (b ≤ 57)
number_begins (pos zero) fits = (48, [], decimal_digit 0 (omega arith), refl, omega arith)
number_begins (pos (suc n)) fits =
    let found = decimal_begins (suc n) (omega (arith, fits.sfits)) (omega arith) in
    let byte : 48 + (found.0 - 48) ≡ found.0 = omega (arith, found.3, found.4) in
    (found.0, found.1, found.2, sym (ap form_of byte) ∙ digit_form (found.0 - 48) (omega (arith, found.3, found.4)), found.4)
number_begins (negsuc n) fits = (45, natural_of (suc n), refl, refl, omega arith)

pub number_form : (wanted : Option Tag) (z : ℤ) (rest : List ℕ) → FitsSigned w64 z → is_number_wanted wanted ≡ true → form_at wanted (decimal_of z ++ rest) ≡ Ok (Alone Number)
unfolding form_at
number_form wanted z rest fits so =
    let first = number_begins z fits in
    ap (λ t. form_at wanted (t ++ rest)) first.2
    ∙ ap (λ o. form_or o wanted (first.0 ∷ (first.1 ++ rest))) first.3
    ∙ ap (λ t. cond t (Ok (Alone Number)) (Err (length (first.0 ∷ (first.1 ++ rest))))) so

number_again : (wanted : Option Tag) (z : ℤ) (letter : ℕ) (x : Tree) (rest : List ℕ) → greatest wanted < 2 ^ 64 → IsWithin (greatest wanted) z → is_digit letter ≡ false → lettered wanted letter z ≡ Some x
    → number_text_at wanted (decimal_of z ++ letter ∷ rest) ≡ Ok (x, rest)
unfolding number_text_at typed_at
number_again wanted z letter x rest wide within none is =
    ap (λ r. r >>= λ n. typed_at wanted n.0 n.1) (integer_again (greatest wanted) z letter rest wide within none)
    ∙ ap (λ o. found_or o (λ y. Ok (y, rest)) (Err (length (letter ∷ rest)))) is

-- the numbers of so many bits pass the test, and no others
bits_pass : (bits most : ℕ) (z : ℤ) → 2 ^ (bits - 1) ≡ suc most → IsWithin most z → fits_bits bits z ≡ true
bits_pass bits most (pos n) is within = grind (arith, ints)
bits_pass bits most (negsuc n) is within = grind (arith, ints)

pub bits_tell : (bits most : ℕ) (z : ℤ) → 2 ^ (bits - 1) ≡ suc most → fits_bits bits z ≡ true → IsWithin most z
bits_tell bits most (pos n) is e = grind (arith, ints)
bits_tell bits most (negsuc n) is e = grind (arith, ints)

-- what a wanted tag allows of the integers of a type
record AllowsType (wanted : Option Tag) (most : ℕ) : Type 0 where
  number : is_number_wanted wanted ≡ true
  enough : most ≤ greatest wanted
  wide : greatest wanted < 2 ^ 64

allows_by : (wanted : Option Tag) (tag : Tag) (most : ℕ) → AllowsType None most → AllowsType (Some tag) most → is_wanted wanted tag ≡ true → AllowsType wanted most
allows_by wanted tag most any only e =
    elim (wanted_is wanted tag e) [
      | inl all ↦ subst (λ w. AllowsType w most) (sym all) any
      | inr one ↦ subst (λ w. AllowsType w most) (sym one) only
    ]

any_type : (most : ℕ) → most < 2 ^ 63 → AllowsType None most
any_type most low = record { number = refl; enough = omega (arith, low); wide = omega arith }

within_more : (most more : ℕ) (z : ℤ) → most ≤ more → IsWithin most z → IsWithin more z
within_more most more (pos n) le h = omega (arith, le, h)
within_more most more (negsuc n) le h = omega (arith, le, h)

-- a number of a type that may stand there has its letter
lettered_is : (wanted : Option Tag) (tag : Tag) (tree : ℤ → Tree) (bits most : ℕ) (z : ℤ) → 2 ^ (bits - 1) ≡ suc most → is_wanted wanted tag ≡ true → IsWithin most z
    → typed_as wanted tag tree bits z ≡ Some (tree z)
lettered_is wanted tag tree bits most z is allowed within =
    ap (λ t. cond t (cond (fits_bits bits z) (Some (tree z)) None) None) allowed
    ∙ ap (λ t. cond t (Some (tree z)) None) (bits_pass bits most z is within)

-- what is read again: the form of a number and the number
pub record IsNumberAgain (wanted : Option Tag) (text : List ℕ) (x : Tree) (rest : List ℕ) : Type 0 where
  pub form : form_at wanted text ≡ Ok (Alone Number)
  pub number : number_text_at wanted text ≡ Ok (x, rest)

fits_wide : (most : ℕ) (z : ℤ) → most < 2 ^ 63 → IsWithin most z → FitsSigned w64 z
fits_wide most (pos n) low h = record { sfits = omega (arith, low, h) }
fits_wide most (negsuc n) low h = record { sfits = omega (arith, low, h) }

typed_again : (wanted : Option Tag) (z : ℤ) (letter most : ℕ) (x : Tree) (rest : List ℕ) → most < 2 ^ 63 → AllowsType wanted most → IsWithin most z → is_digit letter ≡ false → lettered wanted letter z ≡ Some x
    → IsNumberAgain wanted ((decimal_of z ++ letter ∷ []) ++ rest) x rest
typed_again wanted z letter most x rest low allows within none is =
    let apart : (decimal_of z ++ letter ∷ []) ++ rest ≡ decimal_of z ++ letter ∷ rest = append_assoc (decimal_of z) (letter ∷ []) rest in
    subst (λ t. IsNumberAgain wanted t x rest) (sym apart)
    (record {
      form = number_form wanted z (letter ∷ rest) (fits_wide most z low within) allows.number;
      number = number_again wanted z letter x rest allows.wide (within_more most (greatest wanted) z allows.enough within) none is;
    })

pub fits8 : (z : ℤ) → FitsSigned w8 z → IsWithin 127 z
fits8 (pos n) fits = omega (arith, fits.sfits)
fits8 (negsuc n) fits = omega (arith, fits.sfits)

pub fits16 : (z : ℤ) → FitsSigned w16 z → IsWithin 32767 z
fits16 (pos n) fits = omega (arith, fits.sfits)
fits16 (negsuc n) fits = omega (arith, fits.sfits)

pub fits32 : (z : ℤ) → FitsSigned w32 z → IsWithin 2147483647 z
fits32 (pos n) fits = omega (arith, fits.sfits)
fits32 (negsuc n) fits = omega (arith, fits.sfits)

fits64 : (z : ℤ) → FitsSigned w64 z → IsWithin 9223372036854775807 z
fits64 (pos n) fits = omega (arith, fits.sfits)
fits64 (negsuc n) fits = omega (arith, fits.sfits)

pub i8_again : (wanted : Option Tag) (z : ℤ) (rest : List ℕ) → FitsSigned w8 z → is_wanted wanted tags.I8 ≡ true → IsNumberAgain wanted (tree_text (of_i8 z) ++ rest) (of_i8 z) rest
unfolding lettered
i8_again wanted z rest fits e =
    typed_again wanted z 98 127 (of_i8 z) rest (omega arith) (allows_by wanted tags.I8 127 (any_type 127 (omega arith)) (record { number = refl; enough = omega arith; wide = omega arith }) e) (fits8 z fits) refl
    (lettered_is wanted tags.I8 of_i8 8 127 z refl e (fits8 z fits))

pub i16_again : (wanted : Option Tag) (z : ℤ) (rest : List ℕ) → FitsSigned w16 z → is_wanted wanted tags.I16 ≡ true → IsNumberAgain wanted (tree_text (of_i16 z) ++ rest) (of_i16 z) rest
unfolding lettered
i16_again wanted z rest fits e =
    typed_again wanted z 115 32767 (of_i16 z) rest (omega arith) (allows_by wanted tags.I16 32767 (any_type 32767 (omega arith)) (record { number = refl; enough = omega arith; wide = omega arith }) e) (fits16 z fits) refl
    (lettered_is wanted tags.I16 of_i16 16 32767 z refl e (fits16 z fits))

pub i32_again : (wanted : Option Tag) (z : ℤ) (rest : List ℕ) → FitsSigned w32 z → is_wanted wanted tags.I32 ≡ true → IsNumberAgain wanted (tree_text (of_i32 z) ++ rest) (of_i32 z) rest
unfolding lettered
i32_again wanted z rest fits e =
    typed_again wanted z 105 2147483647 (of_i32 z) rest (omega arith) (allows_by wanted tags.I32 2147483647 (any_type 2147483647 (omega arith)) (record { number = refl; enough = omega arith; wide = omega arith }) e) (fits32 z fits) refl
    (lettered_is wanted tags.I32 of_i32 32 2147483647 z refl e (fits32 z fits))

pub i64_again : (wanted : Option Tag) (z : ℤ) (rest : List ℕ) → FitsSigned w64 z → is_wanted wanted tags.I64 ≡ true → IsNumberAgain wanted (tree_text (of_i64 z) ++ rest) (of_i64 z) rest
unfolding lettered
i64_again wanted z rest fits e =
    typed_again wanted z 108 9223372036854775807 (of_i64 z) rest (omega arith) (allows_by wanted tags.I64 9223372036854775807 (any_type 9223372036854775807 (omega arith)) (record { number = refl; enough = omega arith; wide = omega arith }) e) (fits64 z fits) refl
    (lettered_is wanted tags.I64 of_i64 64 9223372036854775807 z refl e (fits64 z fits))
