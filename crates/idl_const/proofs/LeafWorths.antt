-- Values without others inside may be written as the types that they were evaluated against.
use Rattle.std.proofs.Common.{◌≡◌, ℕ, ℤ, pos, negsuc, ◌<◌, ◌^◌, nat_eq, Bool, true, false, cond, List, length, Option, Some, None, Ok, Err, refl, subst, arith}
use Rattle.thrift_value.specs.Tree.{Tree, of_bool, of_i8, of_i16, of_i32, of_i64, of_double, of_uuid, of_bytes}
use Rattle.idl_token.specs.Uuids.{uuid_number}
use Rattle.schema.specs.PlainKind.{PlainKind, kind_bool, kind_i8, kind_i16, kind_i32, kind_i64, kind_double, kind_text, kind_binary, kind_uuid, kind_enum}
use Rattle.schema.specs.PlainSchema.{PlainStruct}
use Rattle.check_model.specs.Worths.{ConstFlaw, wrong_kind, out_of_range, double_constant, bad_uuid}
use Rattle.check_model.specs.WholeDoubles.{double_number, int_as_double, double_bits}
use Rattle.check_model.specs.Scalars.{OneWorth, has_bits, doubled, as_uuid, truth, int_worth, double_worth, literal_worth, enum_worth}
use Rattle.idl_const.proofs.Elements.{IsElement}

-- a value, and what is wrong
abbrev ok_worth : Tree → OneWorth
ok_worth x = Ok x

abbrev err_worth : ConstFlaw → OneWorth
err_worth flaw = Err flaw

no_err : (flaw : ConstFlaw) (v : Tree) → err_worth flaw ≡ ok_worth v → ⊥
no_err flaw v e = cc

same_ok : (x v : Tree) → ok_worth x ≡ ok_worth v → x ≡ v
same_ok x v e = cc

module _ (structs : List PlainStruct) (levels : ℕ) where
  kept : (kind : PlainKind) (x v : Tree) → ok_worth x ≡ ok_worth v → IsElement structs kind levels x → IsElement structs kind levels v
  kept kind x v e h = subst (IsElement structs kind levels) (same_ok x v e) h

  kept_if : (b : Bool) (kind : PlainKind) (x v : Tree) (flaw : ConstFlaw) → cond b (ok_worth x) (err_worth flaw) ≡ ok_worth v → IsElement structs kind levels x → IsElement structs kind levels v
  kept_if true kind x v flaw e h = kept kind x v e h
  kept_if false kind x v flaw e h = absurd (no_err flaw v e)

  bool_is : (b : Bool) → IsElement structs kind_bool levels (of_bool b)
  bool_is b = record { written = tt; tag = refl; tagged = tt; ordered = tt; deep = omega arith; small = tt }

  i8_is : (n : ℤ) → IsElement structs kind_i8 levels (of_i8 n)
  i8_is n = record { written = tt; tag = refl; tagged = tt; ordered = tt; deep = omega arith; small = tt }

  i16_is : (n : ℤ) → IsElement structs kind_i16 levels (of_i16 n)
  i16_is n = record { written = tt; tag = refl; tagged = tt; ordered = tt; deep = omega arith; small = tt }

  i32_is : (n : ℤ) → IsElement structs kind_i32 levels (of_i32 n)
  i32_is n = record { written = tt; tag = refl; tagged = tt; ordered = tt; deep = omega arith; small = tt }

  i64_is : (n : ℤ) → IsElement structs kind_i64 levels (of_i64 n)
  i64_is n = record { written = tt; tag = refl; tagged = tt; ordered = tt; deep = omega arith; small = tt }

  double_is : (n : ℕ) → IsElement structs kind_double levels (of_double n)
  double_is n = record { written = tt; tag = refl; tagged = tt; ordered = tt; deep = omega arith; small = tt }

  enum_is : (which : ℕ) (n : ℤ) → IsElement structs (kind_enum which) levels (of_i32 n)
  enum_is which n = record { written = tt; tag = refl; tagged = tt; ordered = tt; deep = omega arith; small = tt }

  text_is : (bytes : List ℕ) → length bytes < 2 ^ 31 → IsElement structs kind_text levels (of_bytes bytes)
  text_is bytes few = record { written = tt; tag = refl; tagged = tt; ordered = tt; deep = omega arith; small = few }

  binary_is : (bytes : List ℕ) → length bytes < 2 ^ 31 → IsElement structs kind_binary levels (of_bytes bytes)
  binary_is bytes few = record { written = tt; tag = refl; tagged = tt; ordered = tt; deep = omega arith; small = few }

  uuid_is : (n : ℕ) → IsElement structs kind_uuid levels (of_uuid n)
  uuid_is n = record { written = tt; tag = refl; tagged = tt; ordered = tt; deep = omega arith; small = tt }

  truth_by : (a b : Bool) (v : Tree) → cond a (ok_worth (of_bool false)) (cond b (ok_worth (of_bool true)) (err_worth out_of_range)) ≡ ok_worth v → IsElement structs kind_bool levels v
  truth_by true b v e = kept kind_bool (of_bool false) v e (bool_is false)
  truth_by false b v e = kept_if b kind_bool (of_bool true) v out_of_range e (bool_is true)

  truth_is : (n : ℤ) (v : Tree) → truth n ≡ ok_worth v → IsElement structs kind_bool levels v
  truth_is (pos n) v e = truth_by (nat_eq n 0) (nat_eq n 1) v e
  truth_is (negsuc n) v e = absurd (no_err out_of_range v e)

  doubled_is : (o : Option ℤ) (v : Tree) → doubled o ≡ ok_worth v → IsElement structs kind_double levels v
  doubled_is None v e = absurd (no_err double_constant v e)
  doubled_is (Some n) v e = kept kind_double (of_double (double_bits n)) v e (double_is (double_bits n))

  as_uuid_is : (o : Option ℕ) (v : Tree) → as_uuid o ≡ ok_worth v → IsElement structs kind_uuid levels v
  as_uuid_is None v e = absurd (no_err bad_uuid v e)
  as_uuid_is (Some n) v e = kept kind_uuid (of_uuid n) v e (uuid_is n)

  pub int_element : (kind : PlainKind) (n : ℤ) (v : Tree) → int_worth kind n ≡ ok_worth v → IsElement structs kind levels v
  int_element kind_bool n v e = truth_is n v e
  int_element kind_i8 n v e = kept_if (has_bits 8 n) kind_i8 (of_i8 n) v out_of_range e (i8_is n)
  int_element kind_i16 n v e = kept_if (has_bits 16 n) kind_i16 (of_i16 n) v out_of_range e (i16_is n)
  int_element kind_i32 n v e = kept_if (has_bits 32 n) kind_i32 (of_i32 n) v out_of_range e (i32_is n)
  int_element kind_i64 n v e = kept_if (has_bits 64 n) kind_i64 (of_i64 n) v out_of_range e (i64_is n)
  int_element kind_double n v e = doubled_is (int_as_double n) v e
  int_element (kind_enum which) n v e = kept_if (has_bits 32 n) (kind_enum which) (of_i32 n) v out_of_range e (enum_is which n)
  int_element _ n v e = absurd (no_err wrong_kind v e)

  pub double_element : (kind : PlainKind) (text : List ℕ) (v : Tree) → double_worth kind text ≡ ok_worth v → IsElement structs kind levels v
  double_element kind_double text v e = doubled_is (double_number text) v e
  double_element _ text v e = absurd (no_err wrong_kind v e)

  pub literal_element : (kind : PlainKind) (bytes : List ℕ) (v : Tree) → length bytes < 2 ^ 31 → literal_worth kind bytes ≡ ok_worth v → IsElement structs kind levels v
  literal_element kind_text bytes v few e = kept kind_text (of_bytes bytes) v e (text_is bytes few)
  literal_element kind_binary bytes v few e = kept kind_binary (of_bytes bytes) v e (binary_is bytes few)
  literal_element kind_uuid bytes v few e = as_uuid_is (uuid_number bytes) v e
  literal_element _ bytes v few e = absurd (no_err wrong_kind v e)

  pub number_element : (kind : PlainKind) (which : ℕ) (n : ℤ) (v : Tree) → enum_worth kind which n ≡ ok_worth v → IsElement structs kind levels v
  number_element kind_i8 which n v e = kept_if (has_bits 8 n) kind_i8 (of_i8 n) v out_of_range e (i8_is n)
  number_element kind_i16 which n v e = kept_if (has_bits 16 n) kind_i16 (of_i16 n) v out_of_range e (i16_is n)
  number_element kind_i32 which n v e = kept_if (has_bits 32 n) kind_i32 (of_i32 n) v out_of_range e (i32_is n)
  number_element kind_i64 which n v e = kept_if (has_bits 64 n) kind_i64 (of_i64 n) v out_of_range e (i64_is n)
  number_element (kind_enum other) which n v e = kept_if (nat_eq other which) (kind_enum other) (of_i32 n) v wrong_kind e (enum_is other n)
  number_element _ which n v e = absurd (no_err wrong_kind v e)
