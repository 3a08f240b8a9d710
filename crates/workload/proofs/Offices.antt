-- What a calculator's office decides on the payloads of a workload, and what it replies.
use Rattle.std.proofs.Common.{◌≡◌, ℕ, ℤ, pos, ◌+◌, ◌^◌, ◌<◌, Bool, true, false, cond, codes, List, [], ◌∷◌, ◌++◌, length, Option, Some, None, Ok, refl, sym, ap, ◌∙◌, subst, inl, arith, append-nil}
use Rattle.std.specs.Prelude.{All, FitsSigned, MatchOption}
use Rattle.std.specs.Int.{w16, w32}
use Rattle.std.proofs.lemmas.Int.{ints}
use Rattle.std.proofs.lemmas.List.Elements.{All-from_recursion}
use Rattle.host_model.specs.Frames.{frame}
use Rattle.host_model.specs.DeskRules.{Invoke}
use Rattle.envelope.specs.declared.head.Protocol.{Protocol}
use Rattle.envelope.specs.declared.head.Protocol.TheVariants.{Binary}
use Rattle.envelope.specs.Said as said
use Rattle.envelope.specs.Said.{Said, IsCall, call}
use Rattle.envelope.specs.Spelling.{head_text}
use Rattle.envelope.specs.Readout.{head_at}
use Rattle.thrift_value.specs.Plain.{plain}
use Rattle.thrift_value.specs.Ranges.{IsInRange}
use Rattle.thrift_value.specs.Sizes.{HasSmallSizes}
use Rattle.thrift_value.specs.Tidy.{IsWellTagged}
use Rattle.thrift_value.specs.Tree.{Tree}
use Rattle.wire_model.specs.Encoder.{text}
use Rattle.wire_model.specs.Place.{struct_at, found_struct, IsWithinBounds}
use Rattle.binary_codec.specs.Reading.{binary}
use Rattle.binary_codec.specs.Written.{binary_encoder}
use Rattle.schema.specs.LookUp.{function_named}
use Rattle.schema.specs.PlainSchema.{PlainFunction, PlainSchema}
use Rattle.call_rules.specs.Examples.{two_numbers_passed, work_passed}
use Rattle.call_model.specs.Offices.{Binding, PlainOffice}
use Rattle.call_model.specs.Decisions.{decision}
use Rattle.call_model.specs.Replies.{reply_of}
use Rattle.workload.specs.Numbers.{first_number, second_number}
use Rattle.workload.specs.CallFrames.{call_head, adds}
use Rattle.workload.specs.Payloads.{call_text, add_payload, subtract_payload, payload_by}
use Rattle.workload.specs.Calls.{call_by, answered, reply_with}
use Rattle.workload.specs.Calculators.{TakesAndGivesNumber, AreTwoNumbers, AreNumberAndWork, IsCalculator, BindsCalculator, IsCalculatorsOffice}
use Rattle.workload.proofs.Projected.{two_projected, work_projected}
use Rattle.workload.proofs.Decided.{office_with, call_head_at, head_read, reply_message, decided, replied_with}

-- heads are read back
abbrev pub HeadsAreRead : Type 0
HeadsAreRead = (p : Protocol) (it : Said) (more : List ℕ) → said.FitsHead p it → IsCall it.kind
    → head_at p (head_text p it ++ more) ≡ Ok (record { name = it.name; kind = it.kind; id = it.id; behind = length (head_text p it) })

-- and so are structs
abbrev pub StructsAreRead : Type 0
StructsAreRead = (x : Tree) (front more : List ℕ) → IsWellTagged x → IsInRange x → HasSmallSizes x → IsWithinBounds x
    → struct_at binary (front ++ (text binary_encoder x ++ more)) (length front) ≡ found_struct (plain x) (length front + length (text binary_encoder x))

-- a struct that is written and read
record IsPassed (x : Tree) : Type 0 where
  tagged : IsWellTagged x
  range : IsInRange x
  sizes : HasSmallSizes x
  bounds : IsWithinBounds x
  same : plain x ≡ x

first_id : FitsSigned w16 (pos 1)
first_id = omega (arith, ints)

second_id : FitsSigned w16 (pos 2)
second_id = omega (arith, ints)

third_id : FitsSigned w16 (pos 3)
third_id = omega (arith, ints)

number_fits : (n : ℕ) → n < 2 ^ 31 → FitsSigned w32 (pos n)
number_fits n small = omega (arith, ints)

two_passed : (a b : ℕ) → a < 2 ^ 31 → b < 2 ^ 31 → IsPassed (two_numbers_passed (pos a) (pos b))
two_passed a b few less = record {
  tagged = (tt, (tt, tt));
  range = (first_id, number_fits a few, (second_id, number_fits b less, tt));
  sizes = (tt, (tt, tt));
  bounds = record { is_struct = refl; depth = omega arith; count = omega arith };
  same = refl;
}

passed_work : (k a b : ℕ) → k < 2 ^ 31 → a < 2 ^ 31 → b < 2 ^ 31 → IsPassed (work_passed (pos k) (pos a) (pos b) (pos 2))
passed_work k a b low few less = record {
  tagged = (tt, ((tt, (tt, (tt, tt))), tt));
  range = (first_id, number_fits k low, (second_id, (first_id, number_fits a few, (second_id, number_fits b less, (third_id, number_fits 2 (omega arith), tt))), tt));
  sizes = (tt, ((tt, (tt, (tt, tt))), tt));
  bounds = record { is_struct = refl; depth = omega arith; count = omega arith };
  same = refl;
}

add_bytes : All (λ b. b < 256) (codes "add")
add_bytes = All-from_recursion (λ b. b < 256) (codes "add") (omega arith, (omega arith, (omega arith, tt)))

calculate_bytes : All (λ b. b < 256) (codes "calculate")
calculate_bytes =
    All-from_recursion (λ b. b < 256) (codes "calculate")
    (omega arith, (omega arith, (omega arith, (omega arith, (omega arith, (omega arith, (omega arith, (omega arith, (omega arith, tt)))))))))

-- the function that is found, and what holds of it
one_found : (P : PlainFunction → Type 0) (o : Option PlainFunction) → MatchOption o ⊥ P → (f : PlainFunction) × (o ≡ Some f) × P f
one_found P None is = absurd is
one_found P (Some f) is = (f, refl, is)

one_bound : (s : PlainSchema) (bindings : List Binding) → BindsCalculator s bindings → (b : Binding) × (bindings ≡ b ∷ []) × IsCalculator s b.1
one_bound s (b ∷ []) is = (b, refl, is)
one_bound s bindings is = absurd is

office_is : (office : PlainOffice) (b : Binding) → office.bindings ≡ b ∷ [] → office.default_slot ≡ None → office.protocol ≡ Binary
    → office_with office.schema b office.max_frame ≡ office
office_is office b one none binary_is =
    λ i. record { schema = office.schema; bindings = sym one i; default_slot = sym none i; protocol = sym binary_is i; max_frame = office.max_frame }

module _ (heads : HeadsAreRead) (structs : StructsAreRead) where
  head_back : (method : List ℕ) (k : ℕ) (args : Tree) → length method < 2 ^ 31 → All (λ b. b < 256) method → k < 2 ^ 31
      → head_at Binary (call_text method k args) ≡ head_read (call_head_at method k (length (call_head method k)))
  head_back method k args short bytes low =
      heads Binary (record { name = method; kind = call; id = pos k }) (text binary_encoder args)
      (record { name = short; bytes = bytes; kind = omega arith; id = number_fits k low }) (inl refl)

  args_back : (method : List ℕ) (k : ℕ) (x : Tree) → IsPassed x
      → struct_at binary (call_text method k x) (length (call_head method k)) ≡ found_struct x (length (call_head method k) + length (text binary_encoder x))
  args_back method k x is =
      ap (λ xs. struct_at binary (call_head method k ++ xs) (length (call_head method k))) (sym (append-nil (text binary_encoder x)))
      ∙ structs x (call_head method k) [] is.tagged is.range is.sizes is.bounds
      ∙ ap (λ y. found_struct y (length (call_head method k) + length (text binary_encoder x))) is.same

  module _ (office : PlainOffice) (is : IsCalculatorsOffice office) (k : ℕ) (low : k < 2 ^ 31) where
    bound : (b : Binding) × (office.bindings ≡ b ∷ []) × IsCalculator office.schema b.1
    bound = one_bound office.schema office.bindings is.bound

    same : office_with office.schema bound.0 office.max_frame ≡ office
    same = office_is office bound.0 bound.1 is.no_default is.protocol

    adding : (f : PlainFunction) × (function_named office.schema bound.0.1 (codes "add") ≡ Some f) × TakesAndGivesNumber office.schema.structs AreTwoNumbers f
    adding = one_found (TakesAndGivesNumber office.schema.structs AreTwoNumbers) (function_named office.schema bound.0.1 (codes "add")) bound.2.add

    working : (f : PlainFunction) × (function_named office.schema bound.0.1 (codes "calculate") ≡ Some f)
        × TakesAndGivesNumber office.schema.structs (AreNumberAndWork office.schema.structs) f
    working =
        one_found (TakesAndGivesNumber office.schema.structs (AreNumberAndWork office.schema.structs)) (function_named office.schema bound.0.1 (codes "calculate"))
        bound.2.calculate

    module _ (a b : ℕ) (few : a < 2 ^ 31) (less : b < 2 ^ 31) where
      add_decided : decision office (add_payload k a b) ≡ Invoke (record { slot = 0; method = codes "add"; args = two_numbers_passed (pos a) (pos b); silent = false })
      unfolding add_payload
      add_decided =
          let x : Tree = two_numbers_passed (pos a) (pos b) in
          let payload : List ℕ = call_text (codes "add") k x in
          subst (λ o. decision o payload ≡ Invoke (record { slot = 0; method = codes "add"; args = x; silent = false })) same
          (decided office.schema bound.0 office.max_frame (codes "add") k x payload (length (call_head (codes "add") k))
          (length (call_head (codes "add") k) + length (text binary_encoder x)) adding.0
          (head_back (codes "add") k x (omega arith) add_bytes low) refl refl adding.1 adding.2.answered
          (args_back (codes "add") k x (two_passed a b few less)) (two_projected office.schema adding.0.args adding.2.args (pos a) (pos b)))

      add_replied : (n : ℤ) → reply_of office (add_payload k a b) (answered n) ≡ frame (reply_message (codes "add") k n)
      unfolding add_payload
      add_replied n =
          let x : Tree = two_numbers_passed (pos a) (pos b) in
          let payload : List ℕ = call_text (codes "add") k x in
          let size : length (reply_message (codes "add") k n) ≡ 23 = refl in
          subst (λ o. reply_of o payload (answered n) ≡ frame (reply_message (codes "add") k n)) same
          (replied_with office.schema bound.0 office.max_frame (codes "add") k x payload (length (call_head (codes "add") k))
          (length (call_head (codes "add") k) + length (text binary_encoder x)) adding.0
          (head_back (codes "add") k x (omega arith) add_bytes low) refl refl adding.1 adding.2.result n (omega (arith, size, is.room)))

      work_decided : decision office (subtract_payload k a b)
          ≡ Invoke (record { slot = 0; method = codes "calculate"; args = work_passed (pos k) (pos a) (pos b) (pos 2); silent = false })
      unfolding subtract_payload
      work_decided =
          let x : Tree = work_passed (pos k) (pos a) (pos b) (pos 2) in
          let payload : List ℕ = call_text (codes "calculate") k x in
          subst (λ o. decision o payload ≡ Invoke (record { slot = 0; method = codes "calculate"; args = x; silent = false })) same
          (decided office.schema bound.0 office.max_frame (codes "calculate") k x payload (length (call_head (codes "calculate") k))
          (length (call_head (codes "calculate") k) + length (text binary_encoder x)) working.0
          (head_back (codes "calculate") k x (omega arith) calculate_bytes low) refl refl working.1 working.2.answered
          (args_back (codes "calculate") k x (passed_work k a b low few less)) (work_projected office.schema working.0.args working.2.args (pos k) (pos a) (pos b) (pos 2)))

      work_replied : (n : ℤ) → reply_of office (subtract_payload k a b) (answered n) ≡ frame (reply_message (codes "calculate") k n)
      unfolding subtract_payload
      work_replied n =
          let x : Tree = work_passed (pos k) (pos a) (pos b) (pos 2) in
          let payload : List ℕ = call_text (codes "calculate") k x in
          let size : length (reply_message (codes "calculate") k n) ≡ 29 = refl in
          subst (λ o. reply_of o payload (answered n) ≡ frame (reply_message (codes "calculate") k n)) same
          (replied_with office.schema bound.0 office.max_frame (codes "calculate") k x payload (length (call_head (codes "calculate") k))
          (length (call_head (codes "calculate") k) + length (text binary_encoder x)) working.0
          (head_back (codes "calculate") k x (omega arith) calculate_bytes low) refl refl working.1 working.2.result n (omega (arith, size, is.room)))

      either_decided : (sum : Bool) → decision office (cond sum (add_payload k a b) (subtract_payload k a b))
          ≡ Invoke (record {
            slot = 0;
            method = cond sum (codes "add") (codes "calculate");
            args = cond sum (two_numbers_passed (pos a) (pos b)) (work_passed (pos k) (pos a) (pos b) (pos 2));
            silent = false;
          })
      either_decided true = add_decided
      either_decided false = work_decided

      either_replied : (sum : Bool) (n : ℤ) → reply_of office (cond sum (add_payload k a b) (subtract_payload k a b)) (answered n)
          ≡ frame (reply_message (cond sum (codes "add") (codes "calculate")) k n)
      either_replied true n = add_replied n
      either_replied false n = work_replied n

    -- the decision on the payload of frame k is its call
    pub decides : (x : ℕ) → x < 2 ^ 64 → decision office (payload_by k x) ≡ Invoke (call_by k x)
    decides x small = either_decided (first_number x) (second_number x) (omega arith) (omega arith) (adds k)

    -- the reply to it has the number
    pub replies : (x : ℕ) → x < 2 ^ 64 → (n : ℤ) → reply_of office (payload_by k x) (answered n) ≡ reply_with k n
    replies x small n = either_replied (first_number x) (second_number x) (omega arith) (omega arith) (adds k) n
