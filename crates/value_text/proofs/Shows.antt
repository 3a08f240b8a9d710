-- The texts of fields, elements and pairs, entry by entry.
use Rattle.std.proofs.Common.{◌≡◌, ℕ, ◌+◌, ◌<◌, ◌≤◌, ◌==◌, nat_le, ◌&&◌, ℤ, List, [], ◌∷◌, ◌++◌, length, flat_map, Option, Some, refl, sym, ap, ◌∙◌, append_assoc, length-append, arith}
use Rattle.std.proofs.lemmas.Bool.{cond_both}
use Rattle.thrift_value.specs.Tree.{Tree, FieldTrees, no_fields, field, ItemTrees, no_items, item, PairTrees, no_pairs, pair}
use Rattle.thrift_value.specs.TreeOf.{field_trees, item_trees, pair_trees}
use Rattle.text_out.specs.Decimal.{decimal_of}
use Rattle.text_out.specs.Quoted.{quoted_byte}
use Rattle.value_text.specs.ValueText.{tree_text, listed_fields, further_fields, listed_items, further_items, listed_pairs, further_pairs}
use Rattle.value_text.proofs.RowLaws.{AreChained, shown, shown_behind}

-- a field's text and a pair's
abbrev pub show_field : ℤ × Tree → List ℕ
show_field f = decimal_of f.0 ++ 61 ∷ tree_text f.1

abbrev pub show_pair : Tree × Tree → List ℕ
show_pair p = tree_text p.0 ++ 61 ∷ tree_text p.1

further_fields_is : (fs : List (ℤ × Tree)) → further_fields (field_trees fs) ≡ shown_behind show_field fs
further_fields_is [] = refl
further_fields_is (f ∷ fs) =
    ap (λ t. 44 ∷ (decimal_of f.0 ++ 61 ∷ (tree_text f.1 ++ t))) (further_fields_is fs)
    ∙ ap (λ t. 44 ∷ t) (sym (append_assoc (decimal_of f.0) (61 ∷ tree_text f.1) (shown_behind show_field fs)))

pub listed_fields_is : (fs : List (ℤ × Tree)) → listed_fields (field_trees fs) ≡ shown show_field fs
listed_fields_is [] = refl
listed_fields_is (f ∷ fs) =
    ap (λ t. decimal_of f.0 ++ 61 ∷ (tree_text f.1 ++ t)) (further_fields_is fs)
    ∙ sym (append_assoc (decimal_of f.0) (61 ∷ tree_text f.1) (shown_behind show_field fs))

further_items_is : (xs : List Tree) → further_items (item_trees xs) ≡ shown_behind tree_text xs
further_items_is [] = refl
further_items_is (x ∷ xs) = ap (λ t. 44 ∷ (tree_text x ++ t)) (further_items_is xs)

pub listed_items_is : (xs : List Tree) → listed_items (item_trees xs) ≡ shown tree_text xs
listed_items_is [] = refl
listed_items_is (x ∷ xs) = ap (λ t. tree_text x ++ t) (further_items_is xs)

further_pairs_is : (ps : List (Tree × Tree)) → further_pairs (pair_trees ps) ≡ shown_behind show_pair ps
further_pairs_is [] = refl
further_pairs_is (p ∷ ps) =
    ap (λ t. 44 ∷ (tree_text p.0 ++ 61 ∷ (tree_text p.1 ++ t))) (further_pairs_is ps)
    ∙ ap (λ t. 44 ∷ t) (sym (append_assoc (tree_text p.0) (61 ∷ tree_text p.1) (shown_behind show_pair ps)))

pub listed_pairs_is : (ps : List (Tree × Tree)) → listed_pairs (pair_trees ps) ≡ shown show_pair ps
listed_pairs_is [] = refl
listed_pairs_is (p ∷ ps) =
    ap (λ t. tree_text p.0 ++ 61 ∷ (tree_text p.1 ++ t)) (further_pairs_is ps)
    ∙ sym (append_assoc (tree_text p.0) (61 ∷ tree_text p.1) (shown_behind show_pair ps))

-- the entries of a tree as a list
pub as_fields : (fields : FieldTrees) → (fs : List (ℤ × Tree)) × (field_trees fs ≡ fields)
as_fields no_fields = ([], refl)
as_fields (field id x more) = let others = as_fields more in ((id, x) ∷ others.0, ap (field id x) others.1)

pub as_items : (items : ItemTrees) → (xs : List Tree) × (item_trees xs ≡ items)
as_items no_items = ([], refl)
as_items (item x more) = let others = as_items more in (x ∷ others.0, ap (item x) others.1)

pub as_pairs : (pairs : PairTrees) → (ps : List (Tree × Tree)) × (pair_trees ps ≡ pairs)
as_pairs no_pairs = ([], refl)
as_pairs (pair k x more) = let others = as_pairs more in ((k, x) ∷ others.0, ap (pair k x) others.1)

-- entries of a short text are few, and each has a short text
module _ {A : Type 0} (show : A → List ℕ) (Fits : Option A → A → Type 0) (most : ℕ) where
  abbrev pub FitsShort : Option A → A → Type 0
  FitsShort last x = Fits last x × (length (show x) < most)

  few_behind : (xs : List A) → length xs ≤ length (shown_behind show xs)
  few_behind [] = omega arith
  few_behind (x ∷ xs) = omega (arith, few_behind xs, length-append (show x) (shown_behind show xs))

  pub few : (xs : List A) → length (shown show xs) + 1 < most → length xs < most
  few [] short = omega (arith, short)
  few (x ∷ xs) short = omega (arith, short, few_behind xs, length-append (show x) (shown_behind show xs))

  roomy_behind : (last : Option A) (xs : List A) → length (shown_behind show xs) < most → AreChained Fits last xs → AreChained FitsShort last xs
  roomy_behind last [] short h = tt
  roomy_behind last (x ∷ xs) short h = (
    (h.0, omega (arith, short, length-append (show x) (shown_behind show xs))),
    roomy_behind (Some x) xs (omega (arith, short, length-append (show x) (shown_behind show xs))) h.1,
  )

  pub roomy : (last : Option A) (xs : List A) → length (shown show xs) < most → AreChained Fits last xs → AreChained FitsShort last xs
  roomy last [] short h = tt
  roomy last (x ∷ xs) short h = (
    (h.0, omega (arith, short, length-append (show x) (shown_behind show xs))),
    roomy_behind (Some x) xs (omega (arith, short, length-append (show x) (shown_behind show xs))) h.1,
  )

-- a byte takes one between quotation marks, at least
byte_shown : (b : ℕ) → 0 < length (quoted_byte b)
byte_shown b =
    cond_both (b == 34) (92 ∷ 34 ∷ []) _ (λ t. 0 < length t) (λ _. omega arith)
    (λ _. cond_both (b == 92) (92 ∷ 92 ∷ []) _ (λ t. 0 < length t) (λ _. omega arith)
    (λ _. cond_both (nat_le 32 b && nat_le b 126) (b ∷ []) _ (λ t. 0 < length t) (λ _. omega arith) (λ _. omega arith)))

pub bytes_are_few : (bytes : List ℕ) → length bytes ≤ length (flat_map quoted_byte bytes)
bytes_are_few [] = omega arith
bytes_are_few (b ∷ bytes) = omega (arith, byte_shown b, bytes_are_few bytes, length-append (quoted_byte b) (flat_map quoted_byte bytes))
