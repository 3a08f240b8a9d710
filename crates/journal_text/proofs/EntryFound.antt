-- What is read as an entry is the line of that entry, and the entry is plain.
use Rattle.std.proofs.Common.{◌≡◌, ℕ, zero, suc, ◌<◌, ◌≤◌, ◌^◌, ◌-◌, eqb, eqb-true, Bool, true, false, cond, codes, List, [], ◌∷◌, ◌++◌, length, take, drop, Some, None, Ok, IsTrue, refl, sym, ap, ◌∙◌, subst, append_assoc, take-append-drop, arith, inl, inr}
use Rattle.std.specs.Prelude.{All}
use Rattle.std.specs.List.{prefix_len}
use Rattle.std.proofs.lemmas.List.Folds.{length-prefix_len}
use Rattle.host_model.specs.declared.key.Key.{Key}
use Rattle.text_out.specs.Decimal.{natural_of, decimal_of}
use Rattle.std.proofs.lemmas.Fmt.{decimal_digit}
use Rattle.thrift_value.specs.declared.tag.Tag.TheVariants.{Struct}
use Rattle.thrift_value.specs.Tags.{tag_of}
use Rattle.thrift_value.specs.Tree.{Tree, of_bool, of_i8, of_i16, of_i32, of_i64, of_double, of_bytes, of_struct, of_map, of_set, of_list, of_uuid}
use Rattle.thrift_value.specs.Ranges.{IsInRange}
use Rattle.value_text.specs.ValueText.{tree_text}
use Rattle.value_text.specs.Fronts.{◌>>=◌, behind_word, positive_at, integer_at}
use Rattle.value_text.specs.Reading.{value_text_at, is_wanted, text_levels}
use Rattle.value_text.proofs.Choices.{went_on, chosen, held_not, one_ok}
use Rattle.value_text.proofs.GoodTrees.{IsGood}
use Rattle.value_text.proofs.Numbers.{positive_found, integer_found}
use Rattle.value_text.proofs.TextsFound.{past_found, signed16}
use Rattle.value_text.proofs.ContainersFound.{values_found}
use Rattle.call_rules.specs.PlainCalls.{PlainAnswer, success, empty, throws, broken, is_method_byte, IsPlainValue, IsPlainAnswer, IsStruct}
use Rattle.call_rules.specs.Entries.{CallEntry}
use Rattle.journal_text.specs.EntryText.{next_word, call_word, answered_text}
use Rattle.journal_text.specs.EntryReading.{CallFront, word_answer, natural_front, number_front, word_front, key_front, method_cut, method_front, arguments_front, thrown_front, success_front, answer_front, call_front, entry_with, entry_front, nothing_behind, line_front}
use Rattle.journal_text.specs.LineOf.{IsRangedAnswer, HasEntryLine, IsLineOf}
use Rattle.journal_text.proofs.EntryAgain.{one_more, parts_of}

-- a number that was read
natural_found : (most : ℕ) (text : List ℕ) (n : ℕ) (rest : List ℕ) → most < 2 ^ 64 → 9 ≤ most → natural_front most text ≡ Ok (n, rest) → (text ≡ natural_of n ++ rest) × (n ≤ most)
unfolding natural_front
natural_found most [] n rest wide wider e = absurd cc
natural_found most (b ∷ bs) n rest wide wider e =
    elim (chosen (eqb b 48) (Ok (0, bs)) (positive_at most (b ∷ bs)) (Ok (n, rest)) e) [
      | inl zero_in_front ↦
          let same = one_ok (0, bs) (n, rest) zero_in_front.1 in
          let text_is : b ∷ bs ≡ natural_of 0 ++ bs = ap (λ c. c ∷ bs) (eqb-true b 48 zero_in_front.0) ∙ ap (λ ds. ds ++ bs) (sym (decimal_digit 0 (omega arith))) in
          subst (λ (x : ℕ × List ℕ). (b ∷ bs ≡ natural_of x.0 ++ x.1) × (x.0 ≤ most)) same (text_is, omega arith)
      | inr other ↦ let found = positive_found most (b ∷ bs) n rest wide wider other.1 in (found.0, found.2)
    ]

number_found : (most : ℕ) (text : List ℕ) (n : ℕ) (rest : List ℕ) → most < 2 ^ 64 → 9 ≤ most → number_front most text ≡ Ok (n, rest) → (text ≡ next_word (natural_of n) ++ rest) × (n ≤ most)
unfolding number_front
number_found most text n rest wide wider e =
    let mark = went_on (behind_word (32 ∷ []) text) (natural_front most) (n, rest) e in
    let found = natural_found most mark.0 n rest wide wider mark.2 in
    (past_found (32 ∷ []) text mark.0 mark.1 ∙ ap (λ t. 32 ∷ t) found.0, found.1)

word_found : (text : List ℕ) (silent : Bool) (rest : List ℕ) → word_front text ≡ Ok (silent, rest) → text ≡ call_word silent ++ rest
unfolding word_front
word_found [] silent rest e = absurd cc
word_found (b ∷ bs) silent rest e =
    elim (chosen (eqb b 111) (behind_word (codes "oneway") (b ∷ bs) >>= λ rest. Ok (true, rest)) (behind_word (codes "call") (b ∷ bs) >>= λ rest. Ok (false, rest)) (Ok (silent, rest)) e) [
      | inl oneway ↦
          let mark = went_on (behind_word (codes "oneway") (b ∷ bs)) (λ rest. Ok (true, rest)) (silent, rest) oneway.1 in
          subst (λ (x : Bool × List ℕ). b ∷ bs ≡ call_word x.0 ++ x.1) (one_ok (true, mark.0) (silent, rest) mark.2) (past_found (codes "oneway") (b ∷ bs) mark.0 mark.1)
      | inr replied ↦
          let mark = went_on (behind_word (codes "call") (b ∷ bs)) (λ rest. Ok (false, rest)) (silent, rest) replied.1 in
          subst (λ (x : Bool × List ℕ). b ∷ bs ≡ call_word x.0 ++ x.1) (one_ok (false, mark.0) (silent, rest) mark.2) (past_found (codes "call") (b ∷ bs) mark.0 mark.1)
    ]

key_found : (text : List ℕ) (key : Key) (rest : List ℕ) → key_front text ≡ Ok (key, rest)
    → (text ≡ next_word (natural_of key.c) ++ (next_word (natural_of key.i) ++ rest)) × (key.c < 2 ^ 32) × (key.i < 2 ^ 64)
unfolding key_front
key_found text key rest e =
    let c = went_on (number_front (2 ^ 32 - 1) text) (λ c. number_front (2 ^ 64 - 1) c.1 >>= λ i. Ok (record { c = c.0; i = i.0 }, i.1)) (key, rest) e in
    let i = went_on (number_front (2 ^ 64 - 1) c.0.1) (λ i. Ok (record { c = c.0.0; i = i.0 }, i.1)) (key, rest) c.2 in
    let c_found = number_found (2 ^ 32 - 1) text c.0.0 c.0.1 (omega arith) (omega arith) c.1 in
    let i_found = number_found (2 ^ 64 - 1) c.0.1 i.0.0 i.0.1 (omega arith) (omega arith) i.1 in
    let whole : text ≡ next_word (natural_of c.0.0) ++ (next_word (natural_of i.0.0) ++ i.0.1) = c_found.0 ∙ ap (λ t. next_word (natural_of c.0.0) ++ t) i_found.0 in
    subst (λ (x : Key × List ℕ). (text ≡ next_word (natural_of x.0.c) ++ (next_word (natural_of x.0.i) ++ x.1)) × (x.0.c < 2 ^ 32) × (x.0.i < 2 ^ 64))
    (one_ok (record { c = c.0.0; i = i.0.0 }, i.0.1) (key, rest) i.2) (whole, omega (arith, c_found.1), omega (arith, i_found.1))

-- a prefix that passes a test, byte by byte
passes_on : (b : ℕ) (bs : List ℕ) (n : ℕ) (t : Bool) → is_method_byte b ≡ t → All (λ b. IsTrue (is_method_byte b)) (take n bs)
    → All (λ b. IsTrue (is_method_byte b)) (take (cond t (suc n) 0) (b ∷ bs))
passes_on b bs n true is all zero d less = is
passes_on b bs n true is all (suc k) d less = all k d (omega (arith, less))
passes_on b bs n false is all k d less = absurd (omega (arith, less))

prefix_passes : (xs : List ℕ) → All (λ b. IsTrue (is_method_byte b)) (take (prefix_len is_method_byte xs) xs)
prefix_passes [] = λ k d less. absurd (omega (arith, less))
prefix_passes (b ∷ bs) =
    subst (λ m. All (λ b. IsTrue (is_method_byte b)) (take (cond (is_method_byte b) m 0) (b ∷ bs))) (sym (one_more (prefix_len is_method_byte bs)))
    (passes_on b bs (prefix_len is_method_byte bs) (is_method_byte b) refl (prefix_passes bs))

some_by : (n : ℕ) → eqb n 0 ≡ false → 1 ≤ n
some_by zero e = absurd cc
some_by (suc n) e = omega arith

-- bytes that were cut off as a method
record IsCut (n : ℕ) (text method rest : List ℕ) : Type 0 where
  whole : text ≡ method ++ rest
  front : take n text ≡ method
  some : 1 ≤ n

cut_found : (n : ℕ) (text method rest : List ℕ) → method_cut n text ≡ Ok (method, rest) → IsCut n text method rest
cut_found n text method rest e =
    let test = held_not (eqb n 0) (Ok (take n text, drop n text)) (length text) (method, rest) e in
    let same = one_ok (take n text, drop n text) (method, rest) test.1 in
    record {
      whole = sym (take-append-drop n text) ∙ ap (λ (x : List ℕ × List ℕ). x.0 ++ x.1) same;
      front = ap (λ (x : List ℕ × List ℕ). x.0) same;
      some = some_by n test.0;
    }

-- a method that was read
record IsMethodFound (text method rest : List ℕ) : Type 0 where
  whole : text ≡ next_word method ++ rest
  some : 1 ≤ length method
  word : All (λ b. IsTrue (is_method_byte b)) method

method_found : (text method rest : List ℕ) → method_front text ≡ Ok (method, rest) → IsMethodFound text method rest
unfolding method_front
method_found text method rest e =
    let mark = went_on (behind_word (32 ∷ []) text) (λ behind. method_cut (prefix_len is_method_byte behind) behind) (method, rest) e in
    let cut = cut_found (prefix_len is_method_byte mark.0) mark.0 method rest mark.2 in
    record {
      whole = past_found (32 ∷ []) text mark.0 mark.1 ∙ ap (λ t. 32 ∷ t) cut.whole;
      some = omega (arith, cut.some, ap length cut.front, length-prefix_len is_method_byte mark.0);
      word = subst (All (λ b. IsTrue (is_method_byte b))) cut.front (prefix_passes mark.0);
    }

-- a value that was read as a struct is one
a_struct : (x : Tree) → is_wanted (Some Struct) (tag_of x) ≡ true → IsStruct x
a_struct (of_bool b) e = absurd cc
a_struct (of_i8 n) e = absurd cc
a_struct (of_i16 n) e = absurd cc
a_struct (of_i32 n) e = absurd cc
a_struct (of_i64 n) e = absurd cc
a_struct (of_double bits) e = absurd cc
a_struct (of_uuid bits) e = absurd cc
a_struct (of_bytes bytes) e = absurd cc
a_struct (of_struct fields) e = tt
a_struct (of_map key value pairs) e = absurd cc
a_struct (of_set element items) e = absurd cc
a_struct (of_list element items) e = absurd cc

plain_value : (x : Tree) → IsGood text_levels x → IsPlainValue x
plain_value x good = record { tidy = record { tagged = good.tagged; in_order = good.in_order }; levels = good.depth }

-- arguments that were read
record AreArgumentsFound (text : List ℕ) (x : Tree) (rest : List ℕ) : Type 0 where
  whole : text ≡ next_word (tree_text x) ++ rest
  arguments : IsStruct x
  plain : IsPlainValue x
  in_range : IsInRange x

arguments_found : (most : ℕ) (text : List ℕ) (x : Tree) (rest : List ℕ) → arguments_front most text ≡ Ok (x, rest) → AreArgumentsFound text x rest
unfolding arguments_front
arguments_found most text x rest e =
    let mark = went_on (behind_word (32 ∷ []) text) (λ behind. value_text_at most text_levels (Some Struct) behind) (x, rest) e in
    let found = values_found most text_levels (Some Struct) mark.0 x rest mark.2 in
    record {
      whole = past_found (32 ∷ []) text mark.0 mark.1 ∙ ap (λ t. 32 ∷ t) found.whole;
      arguments = a_struct x found.kind;
      plain = plain_value x found.good;
      in_range = found.good.in_range;
    }

-- an answer that was read
record IsAnswerFound (text : List ℕ) (a : PlainAnswer) (rest : List ℕ) : Type 0 where
  whole : text ≡ answered_text a ++ rest
  plain : IsPlainAnswer a
  in_range : IsRangedAnswer a

word_answer_found : (word text : List ℕ) (a b : PlainAnswer) (rest : List ℕ) → word ≡ answered_text a → IsPlainAnswer a → IsRangedAnswer a
    → word_answer word a text ≡ Ok (b, rest) → IsAnswerFound text b rest
unfolding word_answer
word_answer_found word text a b rest is plain in_range e =
    let mark = went_on (behind_word word text) (λ behind. Ok (a, behind)) (b, rest) e in
    subst (λ (x : PlainAnswer × List ℕ). IsAnswerFound text x.0 x.1) (one_ok (a, mark.0) (b, rest) mark.2)
    (record { whole = past_found word text mark.0 mark.1 ∙ ap (λ w. w ++ mark.0) is; plain = plain; in_range = in_range })

success_found : (most : ℕ) (text : List ℕ) (a : PlainAnswer) (rest : List ℕ) → success_front most text ≡ Ok (a, rest) → IsAnswerFound text a rest
unfolding success_front
success_found most text a rest e =
    let mark = went_on (behind_word (codes "ok ") text) (λ behind. value_text_at most text_levels None behind >>= λ x. Ok (success x.0, x.1)) (a, rest) e in
    let x = went_on (value_text_at most text_levels None mark.0) (λ x. Ok (success x.0, x.1)) (a, rest) mark.2 in
    let found = values_found most text_levels None mark.0 x.0.0 x.0.1 x.1 in
    subst (λ (x : PlainAnswer × List ℕ). IsAnswerFound text x.0 x.1) (one_ok (success x.0.0, x.0.1) (a, rest) x.2)
    (record {
      whole = past_found (codes "ok ") text mark.0 mark.1 ∙ ap (λ t. codes "ok " ++ t) found.whole;
      plain = plain_value x.0.0 found.good;
      in_range = found.good.in_range;
    })

thrown_found : (most : ℕ) (text : List ℕ) (a : PlainAnswer) (rest : List ℕ) → thrown_front most text ≡ Ok (a, rest) → IsAnswerFound text a rest
unfolding thrown_front
thrown_found most text a rest e =
    let mark = went_on (behind_word (codes "throws ") text)
    (λ behind. integer_at 32767 behind >>= λ id. behind_word (32 ∷ []) id.1 >>= λ r. value_text_at most text_levels None r >>= λ x. Ok (throws id.0 x.0, x.1)) (a, rest) e in
    let id = went_on (integer_at 32767 mark.0) (λ id. behind_word (32 ∷ []) id.1 >>= λ r. value_text_at most text_levels None r >>= λ x. Ok (throws id.0 x.0, x.1)) (a, rest) mark.2 in
    let gap = went_on (behind_word (32 ∷ []) id.0.1) (λ r. value_text_at most text_levels None r >>= λ x. Ok (throws id.0.0 x.0, x.1)) (a, rest) id.2 in
    let x = went_on (value_text_at most text_levels None gap.0) (λ x. Ok (throws id.0.0 x.0, x.1)) (a, rest) gap.2 in
    let number = integer_found 32767 mark.0 id.0.0 id.0.1 (omega arith) (omega arith) id.1 in
    let found = values_found most text_levels None gap.0 x.0.0 x.0.1 x.1 in
    let exception : id.0.1 ≡ 32 ∷ (tree_text x.0.0 ++ x.0.1) = past_found (32 ∷ []) id.0.1 gap.0 gap.1 ∙ ap (λ t. 32 ∷ t) found.whole in
    let behind : mark.0 ≡ (decimal_of id.0.0 ++ (32 ∷ tree_text x.0.0)) ++ x.0.1 =
    number.0 ∙ ap (λ t. decimal_of id.0.0 ++ t) exception ∙ sym (append_assoc (decimal_of id.0.0) (32 ∷ tree_text x.0.0) x.0.1) in
    subst (λ (x : PlainAnswer × List ℕ). IsAnswerFound text x.0 x.1) (one_ok (throws id.0.0 x.0.0, x.0.1) (a, rest) x.2)
    (record {
      whole = past_found (codes "throws ") text mark.0 mark.1 ∙ ap (λ t. codes "throws " ++ t) behind;
      plain = plain_value x.0.0 found.good;
      in_range = (signed16 id.0.0 number.1, found.good.in_range);
    })

answer_found : (most : ℕ) (text : List ℕ) (a : PlainAnswer) (rest : List ℕ) → answer_front most text ≡ Ok (a, rest) → IsAnswerFound text a rest
unfolding answer_front
answer_found most [] a rest e = absurd cc
answer_found most (b ∷ bs) a rest e =
    elim (chosen (eqb b 111) (success_front most (b ∷ bs)) _ (Ok (a, rest)) e) [
      | inl is_ok ↦ success_found most (b ∷ bs) a rest is_ok.1
      | inr not_ok ↦
          elim (chosen (eqb b 101) (word_answer (codes "empty") empty (b ∷ bs)) _ (Ok (a, rest)) not_ok.1) [
            | inl is_empty ↦ word_answer_found (codes "empty") (b ∷ bs) empty a rest refl tt tt is_empty.1
            | inr not_empty ↦
                elim (chosen (eqb b 116) (thrown_front most (b ∷ bs)) (word_answer (codes "broken") broken (b ∷ bs)) (Ok (a, rest)) not_empty.1) [
                  | inl is_thrown ↦ thrown_found most (b ∷ bs) a rest is_thrown.1
                  | inr is_broken ↦ word_answer_found (codes "broken") (b ∷ bs) broken a rest refl tt tt is_broken.1
                ]
          ]
    ]

-- a call that was read
record IsCallFound (text : List ℕ) (call : CallFront) (rest : List ℕ) : Type 0 where
  whole : text ≡ call_word call.silent ++ (next_word (natural_of call.key.c) ++ (next_word (natural_of call.key.i)
      ++ (next_word (natural_of call.slot) ++ (next_word call.method ++ (next_word (tree_text call.args) ++ rest)))))
  c : call.key.c < 2 ^ 32
  i : call.key.i < 2 ^ 64
  slot : call.slot < 2 ^ 32
  some : 1 ≤ length call.method
  word : All (λ b. IsTrue (is_method_byte b)) call.method
  arguments : IsStruct call.args
  plain : IsPlainValue call.args
  in_range : IsInRange call.args

abbrev found_call : Bool → Key → ℕ → List ℕ → Tree → CallFront
found_call silent key slot method args = record { silent = silent; key = key; slot = slot; method = method; args = args }

call_found : (most : ℕ) (text : List ℕ) (call : CallFront) (rest : List ℕ) → call_front most text ≡ Ok (call, rest) → IsCallFound text call rest
unfolding call_front
call_found most text call rest e =
    let word = went_on (word_front text) (λ word. key_front word.1 >>= λ key. number_front (2 ^ 32 - 1) key.1 >>= λ slot. method_front slot.1
    >>= λ method. arguments_front most method.1 >>= λ args. Ok (found_call word.0 key.0 slot.0 method.0 args.0, args.1)) (call, rest) e in
    let key = went_on (key_front word.0.1) (λ key. number_front (2 ^ 32 - 1) key.1 >>= λ slot. method_front slot.1
    >>= λ method. arguments_front most method.1 >>= λ args. Ok (found_call word.0.0 key.0 slot.0 method.0 args.0, args.1)) (call, rest) word.2 in
    let slot = went_on (number_front (2 ^ 32 - 1) key.0.1) (λ slot. method_front slot.1
    >>= λ method. arguments_front most method.1 >>= λ args. Ok (found_call word.0.0 key.0.0 slot.0 method.0 args.0, args.1)) (call, rest) key.2 in
    let method = went_on (method_front slot.0.1)
    (λ method. arguments_front most method.1 >>= λ args. Ok (found_call word.0.0 key.0.0 slot.0.0 method.0 args.0, args.1)) (call, rest) slot.2 in
    let args = went_on (arguments_front most method.0.1) (λ args. Ok (found_call word.0.0 key.0.0 slot.0.0 method.0.0 args.0, args.1)) (call, rest) method.2 in
    let key_is = key_found word.0.1 key.0.0 key.0.1 key.1 in
    let slot_is = number_found (2 ^ 32 - 1) key.0.1 slot.0.0 slot.0.1 (omega arith) (omega arith) slot.1 in
    let method_is = method_found slot.0.1 method.0.0 method.0.1 method.1 in
    let args_is = arguments_found most method.0.1 args.0.0 args.0.1 args.1 in
    let behind_method : slot.0.1 ≡ next_word method.0.0 ++ (next_word (tree_text args.0.0) ++ args.0.1) = method_is.whole ∙ ap (λ t. next_word method.0.0 ++ t) args_is.whole in
    let behind_key : key.0.1 ≡ next_word (natural_of slot.0.0) ++ (next_word method.0.0 ++ (next_word (tree_text args.0.0) ++ args.0.1)) =
    slot_is.0 ∙ ap (λ t. next_word (natural_of slot.0.0) ++ t) behind_method in
    subst (λ (x : CallFront × List ℕ). IsCallFound text x.0 x.1) (one_ok (found_call word.0.0 key.0.0 slot.0.0 method.0.0 args.0.0, args.0.1) (call, rest) args.2)
    (record {
      whole = word_found text word.0.0 word.0.1 word.1
          ∙ ap (λ t. call_word word.0.0 ++ t) (key_is.0 ∙ ap (λ t. next_word (natural_of key.0.0.c) ++ (next_word (natural_of key.0.0.i) ++ t)) behind_key);
      c = key_is.1;
      i = key_is.2;
      slot = omega (arith, slot_is.1);
      some = method_is.some;
      word = method_is.word;
      arguments = args_is.arguments;
      plain = args_is.plain;
      in_range = args_is.in_range;
    })

-- an entry that was read
record IsEntryFound (text : List ℕ) (e : CallEntry) (rest : List ℕ) : Type 0 where
  whole : text ≡ call_word e.call.silent ++ (next_word (natural_of e.key.c) ++ (next_word (natural_of e.key.i)
      ++ (next_word (natural_of e.call.slot) ++ (next_word e.call.method ++ (next_word (tree_text e.call.args) ++ (next_word (answered_text e.answer) ++ rest))))))
  has_line : HasEntryLine e

entry_found : (most : ℕ) (text : List ℕ) (e : CallEntry) (rest : List ℕ) → entry_front most text ≡ Ok (e, rest) → IsEntryFound text e rest
unfolding entry_front
entry_found most text e rest is =
    let call = went_on (call_front most text) (λ call. behind_word (32 ∷ []) call.1 >>= λ r. answer_front most r >>= λ a. Ok (entry_with call.0 a.0, a.1)) (e, rest) is in
    let gap = went_on (behind_word (32 ∷ []) call.0.1) (λ r. answer_front most r >>= λ a. Ok (entry_with call.0.0 a.0, a.1)) (e, rest) call.2 in
    let a = went_on (answer_front most gap.0) (λ a. Ok (entry_with call.0.0 a.0, a.1)) (e, rest) gap.2 in
    let call_is = call_found most text call.0.0 call.0.1 call.1 in
    let answer_is = answer_found most gap.0 a.0.0 a.0.1 a.1 in
    let behind_call : call.0.1 ≡ next_word (answered_text a.0.0) ++ a.0.1 = past_found (32 ∷ []) call.0.1 gap.0 gap.1 ∙ ap (λ t. 32 ∷ t) answer_is.whole in
    subst (λ (x : CallEntry × List ℕ). IsEntryFound text x.0 x.1) (one_ok (entry_with call.0.0 a.0.0, a.0.1) (e, rest) a.2)
    (record {
      whole = call_is.whole ∙ ap (λ t. call_word call.0.0.silent ++ (next_word (natural_of call.0.0.key.c) ++ (next_word (natural_of call.0.0.key.i)
          ++ (next_word (natural_of call.0.0.slot) ++ (next_word call.0.0.method ++ (next_word (tree_text call.0.0.args) ++ t)))))) behind_call;
      has_line = record {
        call = record { some = call_is.some; word = call_is.word; arguments = call_is.arguments; plain = call_is.plain };
        answer = answer_is.plain;
        in_range = record { c = call_is.c; i = call_is.i; slot = call_is.slot; args = call_is.in_range; answer = answer_is.in_range };
      };
    })

-- nothing is left behind a line
ends_found : (x : CallEntry) (rest : List ℕ) (e : CallEntry) → nothing_behind x rest ≡ Ok e → (x ≡ e) × (rest ≡ [])
ends_found x [] e is = (one_ok x e is, refl)
ends_found x (b ∷ bs) e is = absurd cc

-- what is read as an entry is its line
pub line_found : (most : ℕ) (line : List ℕ) (e : CallEntry) → line_front most line ≡ Ok e → IsLineOf line e
unfolding line_front
line_found most line e is =
    let x = went_on (entry_front most line) (λ x. behind_word (10 ∷ []) x.1 >>= λ rest. nothing_behind x.0 rest) e is in
    let newline = went_on (behind_word (10 ∷ []) x.0.1) (λ rest. nothing_behind x.0.0 rest) e x.2 in
    let end = ends_found x.0.0 newline.0 e newline.2 in
    let entry_is = entry_found most line x.0.0 x.0.1 x.1 in
    let behind : x.0.1 ≡ 10 ∷ [] = past_found (10 ∷ []) x.0.1 newline.0 newline.1 ∙ ap (λ t. 10 ∷ t) end.1 in
    subst (IsLineOf line) end.0
    (record {
      has_line = entry_is.has_line;
      whole = entry_is.whole ∙ ap (λ t. call_word x.0.0.call.silent ++ (next_word (natural_of x.0.0.key.c) ++ (next_word (natural_of x.0.0.key.i)
          ++ (next_word (natural_of x.0.0.call.slot) ++ (next_word x.0.0.call.method ++ (next_word (tree_text x.0.0.call.args) ++ (next_word (answered_text x.0.0.answer) ++ t))))))) behind
          ∙ sym (parts_of (call_word x.0.0.call.silent) (natural_of x.0.0.key.c) (natural_of x.0.0.key.i) (natural_of x.0.0.call.slot) x.0.0.call.method (tree_text x.0.0.call.args) (answered_text x.0.0.answer));
    })
