-- The order of values is a total order: it is that of texts of numbers.
use Rattle.std.proofs.Common.{◌≡◌, ℕ, ℤ, pos, Bool, true, false, List, [], ◌∷◌, Ordering, Less, Equal, Greater, nat_cmp, refl, ◌∙◌, subst, arith}
use Rattle.std.specs.Ordering.{ordering_then, int_cmp, bool_cmp, on}
use Rattle.std.specs.Cmp.{IsTotalOrder}
use Rattle.std.specs.Cmp.Lexicographic.{slice_cmp}
use Rattle.std.proofs.lemmas.Bool.Decides.{nat_tests}
use Rattle.std.proofs.lemmas.Cmp.{lists_total, on_total, int_cmp_total}
use Rattle.thrift_value.specs.Tree.{Tree, of_bool, of_i8, of_i16, of_i32, of_i64, of_double, of_bytes, of_struct, of_map, of_set, of_list, of_uuid, FieldTrees, no_fields, field, ItemTrees, no_items, item, PairTrees, no_pairs, pair}
use Rattle.thrift_value.specs.Order.{tree_cmp, fields_cmp, items_cmp, pairs_cmp}

-- a bool as a number
abbrev pub bit : Bool → ℤ
bit false = pos 0
bit true = pos 1

-- the numbers of a value in front of others: its rank, and then what it holds; each element of a list stands behind a 1, and its end is a 0
abbrev pub byte_numbers : List ℕ → List ℤ → List ℤ
byte_numbers [] rest = pos 0 ∷ rest
byte_numbers (b ∷ bs) rest = pos 1 ∷ (pos b ∷ byte_numbers bs rest)

abbrev mutual
  pub numbers : Tree → List ℤ → List ℤ
  numbers (of_bool b) rest = pos 0 ∷ (bit b ∷ rest)
  numbers (of_i8 n) rest = pos 1 ∷ (n ∷ rest)
  numbers (of_i16 n) rest = pos 2 ∷ (n ∷ rest)
  numbers (of_i32 n) rest = pos 3 ∷ (n ∷ rest)
  numbers (of_i64 n) rest = pos 4 ∷ (n ∷ rest)
  numbers (of_double n) rest = pos 5 ∷ (pos n ∷ rest)
  numbers (of_bytes bs) rest = pos 6 ∷ byte_numbers bs rest
  numbers (of_struct fs) rest = pos 7 ∷ field_numbers fs rest
  numbers (of_map _ _ ps) rest = pos 8 ∷ pair_numbers ps rest
  numbers (of_set _ xs) rest = pos 9 ∷ item_numbers xs rest
  numbers (of_list _ xs) rest = pos 10 ∷ item_numbers xs rest
  numbers (of_uuid n) rest = pos 11 ∷ (pos n ∷ rest)

  pub field_numbers : FieldTrees → List ℤ → List ℤ
  field_numbers no_fields rest = pos 0 ∷ rest
  field_numbers (field id x xs) rest = pos 1 ∷ (id ∷ numbers x (field_numbers xs rest))

  pub item_numbers : ItemTrees → List ℤ → List ℤ
  item_numbers no_items rest = pos 0 ∷ rest
  item_numbers (item x xs) rest = pos 1 ∷ numbers x (item_numbers xs rest)

  pub pair_numbers : PairTrees → List ℤ → List ℤ
  pair_numbers no_pairs rest = pos 0 ∷ rest
  pair_numbers (pair k x xs) rest = pos 1 ∷ numbers k (numbers x (pair_numbers xs rest))

-- the order of texts of numbers
abbrev pub texts_cmp : List ℤ → List ℤ → Ordering
texts_cmp = slice_cmp int_cmp

then_assoc : (o p q : Ordering) → ordering_then (ordering_then o p) q ≡ ordering_then o (ordering_then p q)
then_assoc Less p q = refl
then_assoc Equal p q = refl
then_assoc Greater p q = refl

then_Equal : (o : Ordering) → ordering_then o Equal ≡ o
then_Equal Less = refl
then_Equal Equal = refl
then_Equal Greater = refl

bool_cmp-bit : (a b : Bool) → int_cmp (bit a) (bit b) ≡ bool_cmp a b
bool_cmp-bit false false = refl
bool_cmp-bit false true = refl
bool_cmp-bit true false = refl
bool_cmp-bit true true = refl

nat_cmp-pos : (m n : ℕ) → int_cmp (pos m) (pos n) ≡ nat_cmp m n
nat_cmp-pos m n = grind (arith, nat_tests)

-- what is in front decides, and else what is behind
texts_cmp-bytes : (a b : List ℕ) (s t : List ℤ) → texts_cmp (byte_numbers a s) (byte_numbers b t) ≡ ordering_then (slice_cmp nat_cmp a b) (texts_cmp s t)
texts_cmp-bytes [] [] s t = refl
texts_cmp-bytes [] (y ∷ ys) s t = refl
texts_cmp-bytes (x ∷ xs) [] s t = refl
texts_cmp-bytes (x ∷ xs) (y ∷ ys) s t = rw (nat_cmp-pos x y, texts_cmp-bytes xs ys s t, then_assoc) refl

mutual
  texts_cmp-numbers : (x y : Tree) (s t : List ℤ) → texts_cmp (numbers x s) (numbers y t) ≡ ordering_then (tree_cmp x y) (texts_cmp s t)
  texts_cmp-numbers (of_bool a) (of_bool b) s t = rw (bool_cmp-bit a b) refl
  texts_cmp-numbers (of_i8 a) (of_i8 b) s t = refl
  texts_cmp-numbers (of_i16 a) (of_i16 b) s t = refl
  texts_cmp-numbers (of_i32 a) (of_i32 b) s t = refl
  texts_cmp-numbers (of_i64 a) (of_i64 b) s t = refl
  texts_cmp-numbers (of_double a) (of_double b) s t = rw (nat_cmp-pos a b) refl
  texts_cmp-numbers (of_bytes a) (of_bytes b) s t = texts_cmp-bytes a b s t
  texts_cmp-numbers (of_struct a) (of_struct b) s t = texts_cmp-fields a b s t
  texts_cmp-numbers (of_map _ _ a) (of_map _ _ b) s t = texts_cmp-pairs a b s t
  texts_cmp-numbers (of_set _ a) (of_set _ b) s t = texts_cmp-items a b s t
  texts_cmp-numbers (of_list _ a) (of_list _ b) s t = texts_cmp-items a b s t
  texts_cmp-numbers (of_uuid a) (of_uuid b) s t = rw (nat_cmp-pos a b) refl
  texts_cmp-numbers x y s t = refl

  texts_cmp-fields : (a b : FieldTrees) (s t : List ℤ) → texts_cmp (field_numbers a s) (field_numbers b t) ≡ ordering_then (fields_cmp a b) (texts_cmp s t)
  texts_cmp-fields no_fields no_fields s t = refl
  texts_cmp-fields no_fields (field _ _ _) s t = refl
  texts_cmp-fields (field _ _ _) no_fields s t = refl
  texts_cmp-fields (field i x xs) (field j y ys) s t =
      rw (texts_cmp-numbers x y (field_numbers xs s) (field_numbers ys t), texts_cmp-fields xs ys s t, then_assoc, then_assoc) refl

  texts_cmp-items : (a b : ItemTrees) (s t : List ℤ) → texts_cmp (item_numbers a s) (item_numbers b t) ≡ ordering_then (items_cmp a b) (texts_cmp s t)
  texts_cmp-items no_items no_items s t = refl
  texts_cmp-items no_items (item _ _) s t = refl
  texts_cmp-items (item _ _) no_items s t = refl
  texts_cmp-items (item x xs) (item y ys) s t =
      rw (texts_cmp-numbers x y (item_numbers xs s) (item_numbers ys t), texts_cmp-items xs ys s t, then_assoc) refl

  texts_cmp-pairs : (a b : PairTrees) (s t : List ℤ) → texts_cmp (pair_numbers a s) (pair_numbers b t) ≡ ordering_then (pairs_cmp a b) (texts_cmp s t)
  texts_cmp-pairs no_pairs no_pairs s t = refl
  texts_cmp-pairs no_pairs (pair _ _ _) s t = refl
  texts_cmp-pairs (pair _ _ _) no_pairs s t = refl
  texts_cmp-pairs (pair j x xs) (pair k y ys) s t =
      rw (texts_cmp-numbers j k (numbers x (pair_numbers xs s)) (numbers y (pair_numbers ys t)), texts_cmp-numbers x y (pair_numbers xs s) (pair_numbers ys t), texts_cmp-pairs xs ys s t, then_assoc, then_assoc) refl

-- the numbers of a value alone
abbrev pub text : Tree → List ℤ
text x = numbers x []

pub tree_cmp-text : (x y : Tree) → on text texts_cmp x y ≡ tree_cmp x y
tree_cmp-text x y = texts_cmp-numbers x y [] [] ∙ then_Equal (tree_cmp x y)

pub tree_cmp_total : IsTotalOrder tree_cmp
tree_cmp_total = subst IsTotalOrder (λ i x y. tree_cmp-text x y i) (on_total text (lists_total int_cmp_total))
