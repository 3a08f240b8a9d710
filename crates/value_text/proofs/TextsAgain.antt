-- The text of each value that has one is read as that value, whatever follows.
use Rattle.std.proofs.Common.{◌≡◌, ℕ, ◌+◌, ◌^◌, ◌<◌, ◌≤◌, eqb, ne_eqb, pos, negsuc, Bool, true, false, cond, ℤ, codes, List, [], ◌∷◌, ◌++◌, length, flat_map, Option, Some, None, Ok, Err, refl, sym, ap, subst, ◌∙◌, append_assoc, length-append, arith, inl, inr}
use Rattle.std.proofs.lemmas.Bool.{cases_Bool}
use Rattle.std.proofs.lemmas.Nat.{from_be_bytes-to_be_bytes_8}
use Rattle.std.specs.Prelude.{FitsSigned}
use Rattle.std.specs.Int.{w16, w64, w128, to_be_bytes, from_be_bytes}
use Rattle.wire_num.proofs.Halves.{wide_128}
use Rattle.thrift_value.specs.declared.tag.Tag.{Tag}
use Rattle.thrift_value.specs.declared.tag.Tag.TheVariants as tags
use Rattle.thrift_value.specs.Tags.{tag_of}
use Rattle.thrift_value.specs.Tree.{Tree, of_bool, of_i8, of_i16, of_i32, of_i64, of_double, of_bytes, of_struct, of_map, of_set, of_list, of_uuid}
use Rattle.thrift_value.specs.Measures.{depth_of, fields_depth, items_depth, pairs_depth}
use Rattle.thrift_value.specs.Ranges.{IsInRange}
use Rattle.text_out.specs.Decimal.{decimal_of}
use Rattle.text_out.specs.Hex.{hex_of}
use Rattle.text_out.specs.Quoted.{quoted_byte}
use Rattle.value_text.specs.declared.form.Form.{Form}
use Rattle.value_text.specs.declared.form.Form.TheVariants.{Alone}
use Rattle.value_text.specs.declared.form.Leaf.TheVariants.{Yes, No, Number, Double, Uuid, Quoted}
use Rattle.value_text.specs.ValueText.{tree_text, tag_word, listed_fields, listed_items, listed_pairs}
use Rattle.value_text.specs.Fronts.{◌>>=◌, quoted_at}
use Rattle.value_text.specs.Rows.{rest_behind}
use Rattle.value_text.specs.Reading.{form_of, form_or, form_at, is_form_wanted, is_wanted, id_comes_behind, bool_at, double_at, uuid_at, bytes_at, formed_at, value_by, value_text_at, deeper_at, field_text_at, id_at, assigned_at, item_at, pair_text_at, has_level, comes_behind, last_key}
use Rattle.value_text.proofs.GoodTrees.{IsGood, FieldFits, ItemFits, PairFits}
use Rattle.value_text.proofs.QuotedLaws.{AreBytes, hex_again, quoted_again}
use Rattle.value_text.proofs.Numbers.{IsWithin, integer_again}
use Rattle.value_text.proofs.LeafLaws.{number_begins, fits8, fits16, fits32, IsNumberAgain, same_wanted}
use Rattle.value_text.proofs.Shows.{show_field, show_pair, FitsShort}

-- values of so many levels are read back, where so long a text may be read
abbrev pub ReadsValues : ℕ → ℕ → Type 0
ReadsValues most levels = (wanted : Option Tag) (x : Tree) (rest : List ℕ) → length (tree_text x) < most → IsGood levels x → is_wanted wanted (tag_of x) ≡ true
    → value_text_at most levels wanted (tree_text x ++ rest) ≡ Ok (x, rest)

-- a form that may stand there
pub form_is : (wanted : Option Tag) (b : ℕ) (bs : List ℕ) (form : Form) → form_of b ≡ Some form → is_form_wanted wanted form ≡ true → form_at wanted (b ∷ bs) ≡ Ok form
unfolding form_at
form_is wanted b bs form is allowed =
    ap (λ o. form_or o wanted (b ∷ bs)) is ∙ ap (λ t. cond t (Ok form) (Err (length (b ∷ bs)))) allowed

pub by_form : (most levels : ℕ) (wanted : Option Tag) (text : List ℕ) (form : Form) → form_at wanted text ≡ Ok form → value_text_at most levels wanted text ≡ formed_at most (deeper_at most levels) wanted form text
unfolding value_text_at value_by
by_form most levels wanted text form is = ap (λ r. r >>= λ f. formed_at most (deeper_at most levels) wanted f text) is

-- a text that is a number's
pub by_number : (most levels : ℕ) (wanted : Option Tag) (text : List ℕ) (x : Tree) (rest : List ℕ) → IsNumberAgain wanted text x rest → value_text_at most levels wanted text ≡ Ok (x, rest)
by_number most levels wanted text x rest is = by_form most levels wanted text (Alone Number) is.form ∙ is.number

pub bool_again : (most levels : ℕ) (wanted : Option Tag) (truth : Bool) (rest : List ℕ) → is_wanted wanted tags.Bool ≡ true → value_text_at most levels wanted (tree_text (of_bool truth) ++ rest) ≡ Ok (of_bool truth, rest)
unfolding bool_at
bool_again most levels wanted true rest e = by_form most levels wanted (codes "true" ++ rest) (Alone Yes) (form_is wanted 116 _ (Alone Yes) refl e)
bool_again most levels wanted false rest e = by_form most levels wanted (codes "false" ++ rest) (Alone No) (form_is wanted 102 _ (Alone No) refl e)

eight_bytes : (n : ℕ) → AreBytes (to_be_bytes w64 n)
eight_bytes n = (omega arith, (omega arith, (omega arith, (omega arith, (omega arith, (omega arith, (omega arith, (omega arith, tt))))))))

pub double_again : (most levels : ℕ) (wanted : Option Tag) (n : ℕ) (rest : List ℕ) → n < 2 ^ 64 → is_wanted wanted tags.Double ≡ true → value_text_at most levels wanted (tree_text (of_double n) ++ rest) ≡ Ok (of_double n, rest)
unfolding double_at
double_again most levels wanted n rest low e =
    by_form most levels wanted (tree_text (of_double n) ++ rest) (Alone Double) (form_is wanted 100 _ (Alone Double) refl e)
    ∙ ap (λ r. r >>= λ bytes. Ok (of_double (from_be_bytes w64 bytes.0), bytes.1)) (hex_again (to_be_bytes w64 n) rest (eight_bytes n))
    ∙ ap (λ m. Ok (of_double m, rest)) (from_be_bytes-to_be_bytes_8 n low)

sixteen_bytes : (n : ℕ) → AreBytes (to_be_bytes w128 n)
sixteen_bytes n = (
  omega arith,
  (
    omega arith,
    (
      omega arith,
      (
        omega arith,
        (
          omega arith,
          (
            omega arith,
            (
              omega arith,
              (
                omega arith,
                (omega arith, (omega arith, (omega arith, (omega arith, (omega arith, (omega arith, (omega arith, (omega arith, tt)))))))),
              ),
            ),
          ),
        ),
      ),
    ),
  ),
)

pub uuid_again : (most levels : ℕ) (wanted : Option Tag) (n : ℕ) (rest : List ℕ) → n < 2 ^ 128 → is_wanted wanted tags.Uuid ≡ true → value_text_at most levels wanted (tree_text (of_uuid n) ++ rest) ≡ Ok (of_uuid n, rest)
unfolding uuid_at
uuid_again most levels wanted n rest low e =
    by_form most levels wanted (tree_text (of_uuid n) ++ rest) (Alone Uuid) (form_is wanted 117 _ (Alone Uuid) refl e)
    ∙ ap (λ r. r >>= λ bytes. Ok (of_uuid (from_be_bytes w128 bytes.0), bytes.1)) (hex_again (to_be_bytes w128 n) rest (sixteen_bytes n))
    ∙ ap (λ m. Ok (of_uuid m, rest)) (wide_128.again n low)

pub bytes_again : (most levels : ℕ) (wanted : Option Tag) (bytes rest : List ℕ) → length bytes < most → AreBytes bytes → is_wanted wanted tags.Bytes ≡ true → value_text_at most levels wanted (tree_text (of_bytes bytes) ++ rest) ≡ Ok (of_bytes bytes, rest)
unfolding bytes_at
bytes_again most levels wanted bytes rest room fits e =
    by_form most levels wanted (tree_text (of_bytes bytes) ++ rest) (Alone Quoted) (form_is wanted 34 _ (Alone Quoted) refl e)
    ∙ ap (λ t. quoted_at most t >>= λ x. Ok (of_bytes x.0, x.1)) (append_assoc (flat_map quoted_byte bytes) (34 ∷ []) rest)
    ∙ ap (λ r. r >>= λ x. Ok (of_bytes x.0, x.1)) (quoted_again most bytes rest room fits)

-- ---- the entries of values that hold others

fits_within : (z : ℤ) → FitsSigned w16 z → IsWithin 32767 z
fits_within (pos n) fits = omega (arith, fits.sfits)
fits_within (negsuc n) fits = omega (arith, fits.sfits)

id_again : (last : Option (ℤ × Tree)) (z : ℤ) (rest : List ℕ) → FitsSigned w16 z → id_comes_behind last z ≡ true → id_at last (decimal_of z ++ 61 ∷ rest) ≡ Ok (z, 61 ∷ rest)
unfolding id_at
id_again last z rest fits rises =
    ap (λ r. r >>= λ n. cond (id_comes_behind last n.0) (Ok n) (Err (length n.1))) (integer_again 32767 z 61 rest (omega arith) (fits_within z fits) refl)
    ∙ ap (λ t. cond t (Ok (z, 61 ∷ rest)) (Err (length (61 ∷ rest)))) rises

assigned_again : (most levels : ℕ) → ReadsValues most levels → (wanted : Option Tag) (x : Tree) (rest : List ℕ) → length (tree_text x) < most → IsGood levels x → is_wanted wanted (tag_of x) ≡ true
    → assigned_at (value_text_at most levels) wanted (61 ∷ (tree_text x ++ rest)) ≡ Ok (x, rest)
unfolding assigned_at
assigned_again most levels reads wanted x rest short good e = reads wanted x rest short good e

pub field_again : (most levels : ℕ) → ReadsValues most levels → (last : Option (ℤ × Tree)) (f : ℤ × Tree) (rest : List ℕ) → FitsShort show_field (FieldFits levels) most last f
    → field_text_at (value_text_at most levels) last (show_field f ++ rest) ≡ Ok (f, rest)
unfolding field_text_at
field_again most levels reads last f rest fits =
    let short : length (tree_text f.1) < most = omega (arith, fits.1, length-append (decimal_of f.0) (61 ∷ tree_text f.1)) in
    ap (λ t. id_at last t >>= λ id. assigned_at (value_text_at most levels) None id.1 >>= λ x. Ok ((id.0, x.0), x.1)) (append_assoc (decimal_of f.0) (61 ∷ tree_text f.1) rest)
    ∙ ap (λ r. r >>= λ id. assigned_at (value_text_at most levels) None id.1 >>= λ x. Ok ((id.0, x.0), x.1)) (id_again last f.0 (tree_text f.1 ++ rest) fits.0.id fits.0.rises)
    ∙ ap (λ r. r >>= λ x. Ok ((f.0, x.0), x.1)) (assigned_again most levels reads None f.1 rest short fits.0.good refl)

of_kind : (tag : Tag) (x : Tree) → tag_of x ≡ tag → is_wanted (Some tag) (tag_of x) ≡ true
of_kind tag x is = subst (λ t. is_wanted (Some tag) t ≡ true) (sym is) (same_wanted tag)

pub item_again : (most levels : ℕ) → ReadsValues most levels → (rising : Bool) (tag : Tag) (last : Option Tree) (x : Tree) (rest : List ℕ) → FitsShort tree_text (ItemFits rising tag levels) most last x
    → item_at rising tag (value_text_at most levels) last (tree_text x ++ rest) ≡ Ok (x, rest)
unfolding item_at
item_again most levels reads false tag last x rest fits =
    ap (λ r. r >>= λ y. Ok y) (reads (Some tag) x rest fits.1 fits.0.good (of_kind tag x fits.0.kind))
item_again most levels reads true tag last x rest fits =
    ap (λ r. r >>= λ y. cond (comes_behind last y.0) (Ok y) (Err (length y.1))) (reads (Some tag) x rest fits.1 fits.0.good (of_kind tag x fits.0.kind))
    ∙ ap (λ t. cond t (Ok (x, rest)) (Err (length rest))) (fits.0.rises refl)

-- there is a level for the tag of each value of so many levels
leaf_level : (levels : ℕ) → cond (eqb levels 0) true true ≡ true
leaf_level levels = elim (cases_Bool (eqb levels 0)) [ inl e ↦ ap (λ t. cond t true true) e | inr e ↦ ap (λ t. cond t true true) e ]

inner_level : (levels depth : ℕ) → depth + 1 ≤ levels → cond (eqb levels 0) false true ≡ true
inner_level levels depth le = ap (λ t. cond t false true) (ne_eqb levels 0 (λ e. omega (arith, le, e)))

level_for : (levels : ℕ) (x : Tree) → depth_of x ≤ levels → has_level levels (tag_of x) ≡ true
level_for levels (of_bool b) le = leaf_level levels
level_for levels (of_i8 n) le = leaf_level levels
level_for levels (of_i16 n) le = leaf_level levels
level_for levels (of_i32 n) le = leaf_level levels
level_for levels (of_i64 n) le = leaf_level levels
level_for levels (of_double n) le = leaf_level levels
level_for levels (of_bytes bytes) le = leaf_level levels
level_for levels (of_uuid n) le = leaf_level levels
level_for levels (of_struct fields) le = inner_level levels (fields_depth fields) le
level_for levels (of_map key tag pairs) le = inner_level levels (pairs_depth pairs) le
level_for levels (of_set tag items) le = inner_level levels (items_depth items) le
level_for levels (of_list tag items) le = inner_level levels (items_depth items) le

pub pair_again : (most levels : ℕ) → ReadsValues most levels → (key tag : Tag) (last : Option (Tree × Tree)) (p : Tree × Tree) (rest : List ℕ) → FitsShort show_pair (PairFits key tag levels) most last p
    → pair_text_at levels key tag (value_text_at most levels) last (show_pair p ++ rest) ≡ Ok (p, rest)
unfolding pair_text_at
pair_again most levels reads key tag last p rest fits =
    let key_short : length (tree_text p.0) < most = omega (arith, fits.1, length-append (tree_text p.0) (61 ∷ tree_text p.1)) in
    let short : length (tree_text p.1) < most = omega (arith, fits.1, length-append (tree_text p.0) (61 ∷ tree_text p.1)) in
    let level : has_level levels tag ≡ true = subst (λ t. has_level levels t ≡ true) fits.0.kind (level_for levels p.1 fits.0.good.depth) in
    let value = value_text_at most levels in
    ap (λ t. cond (has_level levels tag) (item_at true key value (last_key last) t) (Err (length t)) >>= λ k. assigned_at value (Some tag) k.1 >>= λ x. Ok ((k.0, x.0), x.1)) (append_assoc (tree_text p.0) (61 ∷ tree_text p.1) rest)
    ∙ ap (λ b. cond b (item_at true key value (last_key last) (tree_text p.0 ++ 61 ∷ (tree_text p.1 ++ rest))) (Err (length (tree_text p.0 ++ 61 ∷ (tree_text p.1 ++ rest)))) >>= λ k. assigned_at value (Some tag) k.1 >>= λ x. Ok ((k.0, x.0), x.1)) level
    ∙ ap (λ r. r >>= λ k. assigned_at value (Some tag) k.1 >>= λ x. Ok ((k.0, x.0), x.1))
    (item_again most levels reads true key (last_key last) p.0 (61 ∷ (tree_text p.1 ++ rest)) (record { rises = λ _. fits.0.rises; kind = fits.0.key_kind; good = fits.0.key_good }, key_short))
    ∙ ap (λ r. r >>= λ x. Ok ((p.0, x.0), x.1)) (assigned_again most levels reads (Some tag) p.1 rest short fits.0.good (of_kind tag p.1 fits.0.kind))

-- the first byte of a value's text closes nothing
abbrev BeginsOpen : Tree → Type 0
BeginsOpen x = (b : ℕ) × (bs : List ℕ) × (tree_text x ≡ b ∷ bs) × (eqb b 93 ≡ false) × (eqb b 125 ≡ false)

number_open : (z : ℤ) (letter : List ℕ) → FitsSigned w64 z → (b : ℕ) × (bs : List ℕ) × (decimal_of z ++ letter ≡ b ∷ bs) × (eqb b 93 ≡ false) × (eqb b 125 ≡ false)
number_open z letter fits =
    let first = number_begins z fits in
    (first.0, first.1 ++ letter, ap (λ t. t ++ letter) first.2, ne_eqb first.0 93 (λ e. omega (arith, first.4, e)), ne_eqb first.0 125 (λ e. omega (arith, first.4, e)))

wider : (z : ℤ) (low : ℕ) → low < 2 ^ 63 → IsWithin low z → FitsSigned w64 z
wider (pos n) low le h = record { sfits = omega (arith, h, le) }
wider (negsuc n) low le h = record { sfits = omega (arith, h, le) }

value_open : (x : Tree) → IsInRange x → BeginsOpen x
value_open (of_bool true) h = (116, codes "rue", refl, refl, refl)
value_open (of_bool false) h = (102, codes "alse", refl, refl, refl)
value_open (of_i8 n) h = number_open n (codes "b") (wider n 127 (omega arith) (fits8 n h))
value_open (of_i16 n) h = number_open n (codes "s") (wider n 32767 (omega arith) (fits16 n h))
value_open (of_i32 n) h = number_open n (codes "i") (wider n 2147483647 (omega arith) (fits32 n h))
value_open (of_i64 n) h = number_open n (codes "l") h
value_open (of_double n) h = (100, hex_of (to_be_bytes w64 n), refl, refl, refl)
value_open (of_uuid n) h = (117, hex_of (to_be_bytes w128 n), refl, refl, refl)
value_open (of_bytes bytes) h = (34, flat_map quoted_byte bytes ++ 34 ∷ [], refl, refl, refl)
value_open (of_struct fields) h = (123, listed_fields fields ++ codes "}", refl, refl, refl)
value_open (of_map key tag pairs) h = (109, codes "ap<" ++ (tag_word key ++ (codes "," ++ (tag_word tag ++ (codes ">{" ++ (listed_pairs pairs ++ codes "}"))))), refl, refl, refl)
value_open (of_set tag items) h = (115, codes "et<" ++ (tag_word tag ++ (codes ">[" ++ (listed_items items ++ codes "]"))), refl, refl, refl)
value_open (of_list tag items) h = (108, codes "ist<" ++ (tag_word tag ++ (codes ">[" ++ (listed_items items ++ codes "]"))), refl, refl, refl)

-- a text that begins with another byte isn't closed
none_behind : (c b : ℕ) (bs text rest : List ℕ) → text ≡ b ∷ bs → eqb b c ≡ false → rest_behind c (text ++ rest) ≡ None
none_behind c b bs text rest is other = ap (λ t. rest_behind c (t ++ rest)) is ∙ ap (λ t. cond t (Some (bs ++ rest)) None) other

pub item_open : (x : Tree) (rest : List ℕ) → IsInRange x → rest_behind 93 (tree_text x ++ rest) ≡ None
item_open x rest h = let first = value_open x h in none_behind 93 first.0 first.1 (tree_text x) rest first.2 first.3

pub field_open : (levels : ℕ) (f : ℤ × Tree) (rest : List ℕ) → FitsSigned w16 f.0 → rest_behind 125 (show_field f ++ rest) ≡ None
field_open levels f rest h =
    let first = number_open f.0 (61 ∷ tree_text f.1) (wider f.0 32767 (omega arith) (fits16 f.0 h)) in
    none_behind 125 first.0 first.1 (show_field f) rest first.2 first.4

pub pair_open : (p : Tree × Tree) (rest : List ℕ) → IsInRange p.0 → rest_behind 125 (show_pair p ++ rest) ≡ None
pair_open p rest h =
    let first = value_open p.0 h in
    none_behind 125 first.0 (first.1 ++ 61 ∷ tree_text p.1) (show_pair p) rest (ap (λ t. t ++ 61 ∷ tree_text p.1) first.2) first.4
