-- What is read as a value is the text of that value, which has one.
use Rattle.std.proofs.Common.{◌≡◌, ℕ, zero, suc, ◌^◌, ◌<◌, ◌≤◌, Bool, true, cond, eqb, ℤ, pos, negsuc, codes, List, [], ◌∷◌, ◌++◌, length, flat_map, get_or, Option, Some, None, Ok, refl, sym, ap, subst, ◌∙◌, append_assoc, arith, inl, inr, eqb-true}
use Rattle.std.proofs.lemmas.Nat.{be_bytes_8}
use Rattle.std.proofs.lemmas.List.Elements.{All-from_recursion}
use Rattle.std.specs.Prelude.{FitsSigned}
use Rattle.std.specs.Int.{w8, w16, w32, w64, w128, from_be_bytes}
use Rattle.wire_num.specs.Encoded.{AreByteSized}
use Rattle.wire_num.proofs.Halves.{wide_128}
use Rattle.thrift_value.specs.declared.tag.Tag.{Tag}
use Rattle.thrift_value.specs.declared.tag.Tag.TheVariants as tags
use Rattle.thrift_value.specs.Tags.{tag_of}
use Rattle.thrift_value.specs.Tree.{Tree, of_bool, of_i8, of_i16, of_i32, of_i64, of_double, of_uuid, of_bytes}
use Rattle.text_out.specs.Decimal.{decimal_of}
use Rattle.text_out.specs.Hex.{hex_of}
use Rattle.text_out.specs.Quoted.{quoted_byte}
use Rattle.value_text.specs.declared.form.Form.{Form}
use Rattle.value_text.specs.ValueText.{tree_text}
use Rattle.value_text.specs.Fronts.{◌>>=◌, behind_word, integer_at, hex_at, quoted_at}
use Rattle.value_text.specs.Reading.{form_of, form_or, form_at, is_form_wanted, is_wanted, greatest, fits_bits, typed_as, lettered, typed_at, number_text_at, bool_at, double_at, uuid_at, bytes_at, value_text_at}
use Rattle.value_text.proofs.Choices.{went_on, chosen, held, one_ok, had_to}
use Rattle.value_text.proofs.Numbers.{IsWithin, integer_found}
use Rattle.value_text.proofs.QuotedLaws.{AreBytes, hex_found, quoted_found}
use Rattle.value_text.proofs.GoodTrees.{IsGood}
use Rattle.value_text.proofs.LeafLaws.{bits_tell}

-- the text of a value of so many levels, of a tag that is wanted, stands in front
pub record IsFound (wanted : Option Tag) (levels : ℕ) (text : List ℕ) (x : Tree) (rest : List ℕ) : Type 0 where
  pub whole : text ≡ tree_text x ++ rest
  pub good : IsGood levels x
  pub kind : is_wanted wanted (tag_of x) ≡ true

abbrev pub FindsValues : ℕ → ℕ → Type 0
FindsValues most levels = (wanted : Option Tag) (text : List ℕ) (x : Tree) (rest : List ℕ) → value_text_at most levels wanted text ≡ Ok (x, rest) → IsFound wanted levels text x rest

-- bytes that had to stand there
pub past_found : (word text rest : List ℕ) → behind_word word text ≡ Ok rest → text ≡ word ++ rest
past_found [] text rest e = one_ok text rest e
past_found (c ∷ cs) [] rest e = absurd cc
past_found (c ∷ cs) (b ∷ bs) rest e =
    let test = held (eqb b c) (behind_word cs bs) (length (b ∷ bs)) rest e in
    ap (λ x. x ∷ bs) (eqb-true b c test.0) ∙ ap (λ t. c ∷ t) (past_found cs bs rest test.1)

form_or_found : (o : Option Form) (wanted : Option Tag) (text : List ℕ) (form : Form) → form_or o wanted text ≡ Ok form → is_form_wanted wanted form ≡ true
form_or_found None wanted text form e = absurd cc
form_or_found (Some f) wanted text form e =
    let test = held (is_form_wanted wanted f) (Ok f) (length text) form e in
    subst (λ g. is_form_wanted wanted g ≡ true) (one_ok f form test.1) test.0

-- a form that may stand there
pub form_found : (wanted : Option Tag) (text : List ℕ) (form : Form) → form_at wanted text ≡ Ok form → is_form_wanted wanted form ≡ true
unfolding form_at
form_found wanted [] form e = absurd cc
form_found wanted (b ∷ bs) form e = form_or_found (form_of b) wanted (b ∷ bs) form e

-- ---- values that hold no others

pub bool_found : (levels : ℕ) (wanted : Option Tag) (truth : Bool) (word text : List ℕ) (x : Tree) (rest : List ℕ) → tree_text (of_bool truth) ≡ word → is_wanted wanted tags.Bool ≡ true
    → bool_at truth word text ≡ Ok (x, rest) → IsFound wanted levels text x rest
unfolding bool_at
bool_found levels wanted truth word text x rest is allowed e =
    let read = went_on (behind_word word text) (λ r. Ok (of_bool truth, r)) (x, rest) e in
    subst (λ (y : Tree × List ℕ). IsFound wanted levels text y.0 y.1) (one_ok (of_bool truth, read.0) (x, rest) read.2)
    (record {
      whole = past_found word text read.0 read.1 ∙ ap (λ w. w ++ read.0) (sym is);
      good = record { tagged = tt; in_order = tt; in_range = tt; depth = omega arith };
      kind = allowed;
    })

one_tree : (y z : Tree) → Some y ≡ Some z → y ≡ z
one_tree y z e = cc

-- a number of a type, with its letter
ranged_found : (wanted : Option Tag) (tag : Tag) (tree : ℤ → Tree) (bits : ℕ) (n : ℤ) (x : Tree) → typed_as wanted tag tree bits n ≡ Some x → (is_wanted wanted tag ≡ true) × (fits_bits bits n ≡ true) × (tree n ≡ x)
ranged_found wanted tag tree bits n x e =
    elim (chosen (is_wanted wanted tag) (cond (fits_bits bits n) (Some (tree n)) None) None (Some x) e) [
      | inl allowed ↦
          elim (chosen (fits_bits bits n) (Some (tree n)) None (Some x) allowed.1) [
            | inl fits ↦ (allowed.0, fits.0, one_tree (tree n) x fits.1)
            | inr none ↦ absurd cc
          ]
      | inr none ↦ absurd cc
    ]

signed8 : (n : ℤ) → IsWithin 127 n → FitsSigned w8 n
signed8 (pos n) h = record { sfits = omega (arith, h) }
signed8 (negsuc n) h = record { sfits = omega (arith, h) }

pub signed16 : (n : ℤ) → IsWithin 32767 n → FitsSigned w16 n
signed16 (pos n) h = record { sfits = omega (arith, h) }
signed16 (negsuc n) h = record { sfits = omega (arith, h) }

signed32 : (n : ℤ) → IsWithin 2147483647 n → FitsSigned w32 n
signed32 (pos n) h = record { sfits = omega (arith, h) }
signed32 (negsuc n) h = record { sfits = omega (arith, h) }

signed64 : (n : ℤ) → IsWithin 9223372036854775807 n → FitsSigned w64 n
signed64 (pos n) h = record { sfits = omega (arith, h) }
signed64 (negsuc n) h = record { sfits = omega (arith, h) }

-- the tree of a number with this letter
record IsTyped (wanted : Option Tag) (letter : ℕ) (n : ℤ) (x : Tree) : Type 0 where
  text : tree_text x ≡ decimal_of n ++ letter ∷ []
  good : (levels : ℕ) → IsGood levels x
  kind : is_wanted wanted (tag_of x) ≡ true

lettered_found : (wanted : Option Tag) (letter : ℕ) (n : ℤ) (x : Tree) → lettered wanted letter n ≡ Some x → IsTyped wanted letter n x
unfolding lettered
lettered_found wanted letter n x e =
    elim (chosen (eqb letter 98) (typed_as wanted tags.I8 of_i8 8 n) _ (Some x) e) [
      | inl b ↦
          let is = ranged_found wanted tags.I8 of_i8 8 n x b.1 in
          subst (IsTyped wanted letter n) is.2 (record { text = ap (λ c. decimal_of n ++ c ∷ []) (sym (eqb-true letter 98 b.0)); good = λ levels. record { tagged = tt; in_order = tt; in_range = signed8 n (bits_tell 8 127 n refl is.1); depth = omega arith }; kind = is.0 })
      | inr not_b ↦
          elim (chosen (eqb letter 115) (typed_as wanted tags.I16 of_i16 16 n) _ (Some x) not_b.1) [
            | inl s ↦
                let is = ranged_found wanted tags.I16 of_i16 16 n x s.1 in
                subst (IsTyped wanted letter n) is.2 (record { text = ap (λ c. decimal_of n ++ c ∷ []) (sym (eqb-true letter 115 s.0)); good = λ levels. record { tagged = tt; in_order = tt; in_range = signed16 n (bits_tell 16 32767 n refl is.1); depth = omega arith }; kind = is.0 })
            | inr not_s ↦
                elim (chosen (eqb letter 105) (typed_as wanted tags.I32 of_i32 32 n) _ (Some x) not_s.1) [
                  | inl i ↦
                      let is = ranged_found wanted tags.I32 of_i32 32 n x i.1 in
                      subst (IsTyped wanted letter n) is.2 (record { text = ap (λ c. decimal_of n ++ c ∷ []) (sym (eqb-true letter 105 i.0)); good = λ levels. record { tagged = tt; in_order = tt; in_range = signed32 n (bits_tell 32 2147483647 n refl is.1); depth = omega arith }; kind = is.0 })
                  | inr not_i ↦
                      elim (chosen (eqb letter 108) (typed_as wanted tags.I64 of_i64 64 n) None (Some x) not_i.1) [
                        | inl l ↦
                            let is = ranged_found wanted tags.I64 of_i64 64 n x l.1 in
                            subst (IsTyped wanted letter n) is.2 (record { text = ap (λ c. decimal_of n ++ c ∷ []) (sym (eqb-true letter 108 l.0)); good = λ levels. record { tagged = tt; in_order = tt; in_range = signed64 n (bits_tell 64 9223372036854775807 n refl is.1); depth = omega arith }; kind = is.0 })
                        | inr none ↦ absurd cc
                      ]
                ]
          ]
    ]

typed_found : (levels : ℕ) (wanted : Option Tag) (n : ℤ) (before text : List ℕ) (x : Tree) (rest : List ℕ) → before ≡ decimal_of n ++ text → typed_at wanted n text ≡ Ok (x, rest) → IsFound wanted levels before x rest
unfolding typed_at
typed_found levels wanted n before [] x rest is e = absurd cc
typed_found levels wanted n before (b ∷ bs) x rest is e =
    let found = had_to (lettered wanted b n) (λ y. Ok (y, bs)) (length (b ∷ bs)) (x, rest) e in
    let typed = lettered_found wanted b n found.0 found.1 in
    subst (λ (y : Tree × List ℕ). IsFound wanted levels before y.0 y.1) (one_ok (found.0, bs) (x, rest) found.2)
    (record { whole = is ∙ sym (append_assoc (decimal_of n) (b ∷ []) bs) ∙ ap (λ t. t ++ bs) (sym typed.text); good = typed.good levels; kind = typed.kind })

most_is_enough : (wanted : Option Tag) → (greatest wanted < 2 ^ 63) × (9 ≤ greatest wanted)
most_is_enough None = (omega arith, omega arith)
most_is_enough (Some tags.I8) = (omega arith, omega arith)
most_is_enough (Some tags.I16) = (omega arith, omega arith)
most_is_enough (Some tags.I32) = (omega arith, omega arith)
most_is_enough (Some tag) = (omega arith, omega arith)

pub number_found : (levels : ℕ) (wanted : Option Tag) (text : List ℕ) (x : Tree) (rest : List ℕ) → number_text_at wanted text ≡ Ok (x, rest) → IsFound wanted levels text x rest
unfolding number_text_at
number_found levels wanted text x rest e =
    let n = went_on (integer_at (greatest wanted) text) (λ n. typed_at wanted n.0 n.1) (x, rest) e in
    let enough = most_is_enough wanted in
    let found = integer_found (greatest wanted) text n.0.0 n.0.1 enough.0 enough.1 n.1 in
    typed_found levels wanted n.0.0 text n.0.1 x rest found.0 n.2

each_byte : (bytes : List ℕ) → AreBytes bytes → (i : ℕ) → get_or bytes i 0 < 256
each_byte [] fits i = omega arith
each_byte (b ∷ bytes) fits zero = fits.0
each_byte (b ∷ bytes) fits (suc i) = each_byte bytes fits.1 i

eight_below : (bytes : List ℕ) → ((i : ℕ) → get_or bytes i 0 < 256) → from_be_bytes w64 bytes < 2 ^ 64
eight_below bytes fits = omega (arith, fits 0, fits 1, fits 2, fits 3, fits 4, fits 5, fits 6, fits 7)

pub double_found : (levels : ℕ) (wanted : Option Tag) (text : List ℕ) (x : Tree) (rest : List ℕ) → is_wanted wanted tags.Double ≡ true → double_at text ≡ Ok (x, rest) → IsFound wanted levels text x rest
unfolding double_at
double_found levels wanted text x rest allowed e =
    let digits = went_on (behind_word (codes "d") text) (λ digits. hex_at 8 digits >>= λ bytes. Ok (of_double (from_be_bytes w64 bytes.0), bytes.1)) (x, rest) e in
    let bytes = went_on (hex_at 8 digits.0) (λ bytes. Ok (of_double (from_be_bytes w64 bytes.0), bytes.1)) (x, rest) digits.2 in
    let hex = hex_found 8 digits.0 bytes.0.0 bytes.0.1 bytes.1 in
    let each = each_byte bytes.0.0 hex.2 in
    let back = be_bytes_8 bytes.0.0 (from_be_bytes w64 bytes.0.0) hex.1 each refl in
    subst (λ (y : Tree × List ℕ). IsFound wanted levels text y.0 y.1) (one_ok (of_double (from_be_bytes w64 bytes.0.0), bytes.0.1) (x, rest) bytes.2)
    (record {
      whole = past_found (codes "d") text digits.0 digits.1 ∙ ap (λ t. 100 ∷ t) (hex.0 ∙ ap (λ bs. hex_of bs ++ bytes.0.1) (sym back));
      good = record { tagged = tt; in_order = tt; in_range = eight_below bytes.0.0 each; depth = omega arith };
      kind = allowed;
    })

pub uuid_found : (levels : ℕ) (wanted : Option Tag) (text : List ℕ) (x : Tree) (rest : List ℕ) → is_wanted wanted tags.Uuid ≡ true → uuid_at text ≡ Ok (x, rest) → IsFound wanted levels text x rest
unfolding uuid_at
uuid_found levels wanted text x rest allowed e =
    let digits = went_on (behind_word (codes "u") text) (λ digits. hex_at 16 digits >>= λ bytes. Ok (of_uuid (from_be_bytes w128 bytes.0), bytes.1)) (x, rest) e in
    let bytes = went_on (hex_at 16 digits.0) (λ bytes. Ok (of_uuid (from_be_bytes w128 bytes.0), bytes.1)) (x, rest) digits.2 in
    let hex = hex_found 16 digits.0 bytes.0.0 bytes.0.1 bytes.1 in
    let each : AreByteSized bytes.0.0 = All-from_recursion (λ b. b < 256) bytes.0.0 hex.2 in
    subst (λ (y : Tree × List ℕ). IsFound wanted levels text y.0 y.1) (one_ok (of_uuid (from_be_bytes w128 bytes.0.0), bytes.0.1) (x, rest) bytes.2)
    (record {
      whole = past_found (codes "u") text digits.0 digits.1 ∙ ap (λ t. 117 ∷ t) (hex.0 ∙ ap (λ bs. hex_of bs ++ bytes.0.1) (sym (wide_128.back bytes.0.0 hex.1 each)));
      good = record { tagged = tt; in_order = tt; in_range = wide_128.below bytes.0.0 each; depth = omega arith };
      kind = allowed;
    })

pub bytes_found : (most levels : ℕ) (wanted : Option Tag) (text : List ℕ) (x : Tree) (rest : List ℕ) → is_wanted wanted tags.Bytes ≡ true → bytes_at most text ≡ Ok (x, rest) → IsFound wanted levels text x rest
unfolding bytes_at
bytes_found most levels wanted text x rest allowed e =
    let inside = went_on (behind_word (34 ∷ []) text) (λ inside. quoted_at most inside >>= λ bytes. Ok (of_bytes bytes.0, bytes.1)) (x, rest) e in
    let bytes = went_on (quoted_at most inside.0) (λ bytes. Ok (of_bytes bytes.0, bytes.1)) (x, rest) inside.2 in
    let quoted = quoted_found most inside.0 bytes.0.0 bytes.0.1 bytes.1 in
    subst (λ (y : Tree × List ℕ). IsFound wanted levels text y.0 y.1) (one_ok (of_bytes bytes.0.0, bytes.0.1) (x, rest) bytes.2)
    (record {
      whole = past_found (34 ∷ []) text inside.0 inside.1 ∙ ap (λ t. 34 ∷ t) (quoted.0 ∙ sym (append_assoc (flat_map quoted_byte bytes.0.0) (34 ∷ []) bytes.0.1));
      good = record { tagged = tt; in_order = tt; in_range = All-from_recursion (λ b. b < 256) bytes.0.0 quoted.1; depth = omega arith };
      kind = allowed;
    })
