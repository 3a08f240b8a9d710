-- A service that passes the tests of a calculator is one.
use Rattle.std.proofs.Common.{◌≡◌, ℕ, ℤ, pos, Bool, true, false, not, ◌&&◌, codes, List, [], ◌∷◌, Option, Some, None, refl}
use Rattle.std.specs.Prelude.{MatchOption, is_none}
use Rattle.std.specs.List.{slice_get}
use Rattle.std.specs.Ordering.{int_eq}
use Rattle.std.proofs.lemmas.Bool.Decides.{Decides-int_eq}
use Rattle.thrift_value.specs.Tree.{Tree}
use Rattle.schema.specs.LookUp.{function_named}
use Rattle.schema.specs.PlainKind.{PlainKind, kind_i32, kind_enum, kind_struct}
use Rattle.schema.specs.PlainSchema.{PlainField, PlainStruct, PlainFunction, PlainSchema}
use Rattle.struct_skew.specs.Projection.{is_required, is_union}
use Rattle.struct_skew.specs.WrittenTests.{some_passes}
use Rattle.workload.specs.Calculators.{HoldsNumber, IsEnumKind, MayBeMissing, AreWorkFields, IsStructWith, IsWorkKind, AreTwoNumbers, AreNumberAndWork, TakesAndGivesNumber, IsCalculator}
use Rattle.workload.specs.CalculatorTests.{is_number, is_enum, holds_number, holds_enum, may_be_missing, are_work_fields, is_struct_with, passes_as_struct, is_work, are_two_numbers, are_number_and_work, gives_number, is_add, is_calculate, is_calculator}

both : (a b : Bool) → (a && b) ≡ true → (a ≡ true) × (b ≡ true)
both true b e = (refl, e)
both false b e = absurd cc

turned : (a : Bool) → not a ≡ true → a ≡ false
turned false e = refl
turned true e = absurd cc

missing : (o : Option Tree) → is_none o ≡ true → o ≡ None
missing None e = refl
missing (Some x) e = absurd cc

passed : {A : Type 0} (P : A → Type 0) (test : A → Bool) → ((x : A) → test x ≡ true → P x) → (o : Option A) → some_passes o test ≡ true → MatchOption o ⊥ P
passed P test each None e = absurd cc
passed P test each (Some x) e = each x e

number_kind : (kind : PlainKind) → is_number kind ≡ true → kind ≡ kind_i32
number_kind kind_i32 e = refl
number_kind kind e = absurd cc

enum_kind : (kind : PlainKind) → is_enum kind ≡ true → IsEnumKind kind
enum_kind (kind_enum which) e = tt
enum_kind kind e = absurd cc

some_number : (o : Option PlainKind) → some_passes o is_number ≡ true → o ≡ Some kind_i32
some_number None e = absurd cc
some_number (Some kind) e = let is = number_kind kind e in (λ i. Some (is i))

same_int : (a b : ℤ) → int_eq a b ≡ true → a ≡ b
same_int a b e = (Decides-int_eq a b).0 e

number_held : (id : ℤ) (f : PlainField) → holds_number id f ≡ true → HoldsNumber id f
number_held id f e = let t = both (int_eq f.id id) (is_number f.kind) e in (same_int f.id id t.0, number_kind f.kind t.1)

left_out : (id : ℤ) (f : PlainField) → may_be_missing id f ≡ true → MayBeMissing id f
left_out id f e =
    let t = both (int_eq f.id id) (not (is_required f.need) && is_none f.default) e in
    let u = both (not (is_required f.need)) (is_none f.default) t.1 in
    (same_int f.id id t.0, turned (is_required f.need) u.0, missing f.default u.1)

work_fields : (fields : List PlainField) → are_work_fields fields ≡ true → AreWorkFields fields
work_fields (a ∷ b ∷ op ∷ comment ∷ []) e =
    let one = both (holds_number (pos 1) a) (holds_number (pos 2) b && (holds_enum (pos 3) op && may_be_missing (pos 4) comment)) e in
    let two = both (holds_number (pos 2) b) (holds_enum (pos 3) op && may_be_missing (pos 4) comment) one.1 in
    let three = both (holds_enum (pos 3) op) (may_be_missing (pos 4) comment) two.1 in
    let third = both (int_eq op.id (pos 3)) (is_enum op.kind) three.0 in
    (number_held (pos 1) a one.0, number_held (pos 2) b two.0, (same_int op.id (pos 3) third.0, enum_kind op.kind third.1), left_out (pos 4) comment three.1)
work_fields fields e = absurd cc

struct_with : (P : List PlainField → Type 0) (test : List PlainField → Bool) → ((fields : List PlainField) → test fields ≡ true → P fields) → (d : PlainStruct)
    → is_struct_with test d ≡ true → IsStructWith P d
struct_with P test each d e = let t = both (not (is_union d.kind)) (test d.fields) e in (turned (is_union d.kind) t.0, each d.fields t.1)

struct_found : (P : List PlainField → Type 0) (test : List PlainField → Bool) → ((fields : List PlainField) → test fields ≡ true → P fields) → (structs : List PlainStruct) (which : ℕ)
    → passes_as_struct structs test which ≡ true → MatchOption (slice_get structs which) ⊥ (IsStructWith P)
struct_found P test each structs which e = passed (IsStructWith P) (is_struct_with test) (struct_with P test each) (slice_get structs which) e

work_kind : (structs : List PlainStruct) (kind : PlainKind) → is_work structs kind ≡ true → IsWorkKind structs kind
work_kind structs (kind_struct which) e = struct_found AreWorkFields are_work_fields work_fields structs which e
work_kind structs kind e = absurd cc

two_numbers : (fields : List PlainField) → are_two_numbers fields ≡ true → AreTwoNumbers fields
two_numbers (a ∷ b ∷ []) e =
    let t = both (holds_number (pos 1) a) (holds_number (pos 2) b) e in (number_held (pos 1) a t.0, number_held (pos 2) b t.1)
two_numbers fields e = absurd cc

number_and_work : (structs : List PlainStruct) (fields : List PlainField) → are_number_and_work structs fields ≡ true → AreNumberAndWork structs fields
number_and_work structs (a ∷ b ∷ []) e =
    let t = both (holds_number (pos 1) a) (int_eq b.id (pos 2) && is_work structs b.kind) e in
    let u = both (int_eq b.id (pos 2)) (is_work structs b.kind) t.1 in
    (number_held (pos 1) a t.0, (same_int b.id (pos 2) u.0, work_kind structs b.kind u.1))
number_and_work structs fields e = absurd cc

function_with : (structs : List PlainStruct) (P : List PlainField → Type 0) (test : List PlainField → Bool) → ((fields : List PlainField) → test fields ≡ true → P fields)
    → (f : PlainFunction) → (gives_number f && passes_as_struct structs test f.args) ≡ true → TakesAndGivesNumber structs P f
function_with structs P test each f e =
    let t = both (gives_number f) (passes_as_struct structs test f.args) e in
    let u = both (not f.oneway) (some_passes f.result is_number) t.0 in
    record { answered = turned f.oneway u.0; result = some_number f.result u.1; args = struct_found P test each structs f.args t.1 }

-- the tests tell a calculator
pub is_one : (s : PlainSchema) (service : ℕ) → is_calculator s service ≡ true → IsCalculator s service
is_one s service e =
    let t = both (some_passes (function_named s service (codes "add")) (is_add s)) (some_passes (function_named s service (codes "calculate")) (is_calculate s)) e in
    record {
      add =
          passed (TakesAndGivesNumber s.structs AreTwoNumbers) (is_add s) (function_with s.structs AreTwoNumbers are_two_numbers two_numbers)
          (function_named s service (codes "add")) t.0;
      calculate =
          passed (TakesAndGivesNumber s.structs (AreNumberAndWork s.structs)) (is_calculate s)
          (function_with s.structs (AreNumberAndWork s.structs) (are_number_and_work s.structs) (number_and_work s.structs))
          (function_named s service (codes "calculate")) t.1;
    }
