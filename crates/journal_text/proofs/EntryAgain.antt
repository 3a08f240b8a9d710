-- The line of each entry that has one is read as that entry.
use Rattle.std.proofs.Common.{◌≡◌, ℕ, zero, suc, ◌+◌, ◌<◌, ◌≤◌, ◌^◌, ◌-◌, ne_eqb, Bool, true, false, cond, List, [], ◌∷◌, ◌++◌, length, take, drop, Some, None, Result, Ok, Err, IsTrue, refl, sym, ap, ◌∙◌, append_assoc, arith, length-append}
use Rattle.std.specs.Prelude.{All}
use Rattle.std.specs.List.{prefix_len}
use Rattle.std.proofs.Math.Seq.{take-append_seam, drop-append_seam}
use Rattle.host_model.specs.declared.key.Key.{Key}
use Rattle.text_out.specs.Decimal.{natural_of, decimal_of}
use Rattle.std.proofs.lemmas.Fmt.{decimal_digit}
use Rattle.thrift_value.specs.declared.tag.Tag.TheVariants.{Struct}
use Rattle.thrift_value.specs.Ranges.{IsInRange}
use Rattle.thrift_value.specs.Tags.{tag_of}
use Rattle.thrift_value.specs.Tree.{Tree, of_struct}
use Rattle.value_text.specs.ValueText.{tree_text}
use Rattle.value_text.specs.Fronts.{◌>>=◌, behind_word, is_digit, positive_at, integer_at}
use Rattle.value_text.specs.Reading.{value_text_at, is_wanted, text_levels}
use Rattle.value_text.proofs.Choices.{one_ok}
use Rattle.value_text.proofs.GoodTrees.{IsGood}
use Rattle.value_text.proofs.Numbers.{decimal_begins, decimal_read_on, digits_end, integer_again}
use Rattle.value_text.proofs.LeafLaws.{fits16}
use Rattle.value_text.proofs.ContainersAgain.{values_again}
use Rattle.call_rules.specs.PlainCalls.{PlainAnswer, success, empty, throws, broken, is_method_byte, IsPlainValue, IsPlainCall, IsPlainAnswer, IsStruct}
use Rattle.call_rules.specs.Entries.{CallEntry}
use Rattle.journal_text.specs.EntryText.{next_word, call_word, answered_text, call_line}
use Rattle.journal_text.specs.EntryReading.{CallFront, call_read, word_answer, natural_front, number_front, word_front, key_front, method_cut, method_front, arguments_front, thrown_front, success_front, answer_front, call_front, entry_with, entry_front, nothing_behind, line_front}
use Rattle.journal_text.specs.LineOf.{IsRangedAnswer, IsRangedEntry, HasEntryLine}

-- a number, where no digit follows
natural_again : (most n c : ℕ) (rest : List ℕ) → most < 2 ^ 64 → n ≤ most → is_digit c ≡ false → natural_front most (natural_of n ++ c ∷ rest) ≡ Ok (n, c ∷ rest)
unfolding natural_front
natural_again most zero c rest wide low none = ap (λ ds. natural_front most (ds ++ c ∷ rest)) (decimal_digit 0 (omega arith))
natural_again most (suc m) c rest wide low none =
    let found = decimal_begins (suc m) (omega arith) (omega arith) in
    let whole : natural_of (suc m) ++ c ∷ rest ≡ found.0 ∷ (found.1 ++ c ∷ rest) = ap (λ ds. ds ++ c ∷ rest) found.2 in
    ap (natural_front most) whole
    ∙ ap (λ t. cond t (Ok (0, found.1 ++ c ∷ rest)) (positive_at most (found.0 ∷ (found.1 ++ c ∷ rest)))) (ne_eqb found.0 48 (λ e. omega (arith, e, found.3)))
    ∙ ap (positive_at most) (sym whole) ∙ decimal_read_on most (suc m) (omega arith) (omega arith) low (c ∷ rest) ∙ digits_end most (suc m) c rest none

number_again : (most n c : ℕ) (rest : List ℕ) → most < 2 ^ 64 → n ≤ most → is_digit c ≡ false → number_front most (next_word (natural_of n) ++ c ∷ rest) ≡ Ok (n, c ∷ rest)
unfolding number_front
number_again most n c rest wide low none = natural_again most n c rest wide low none

word_again : (silent : Bool) (rest : List ℕ) → word_front (call_word silent ++ rest) ≡ Ok (silent, rest)
unfolding word_front
word_again false rest = refl
word_again true rest = refl

key_again : (key : Key) (c : ℕ) (rest : List ℕ) → key.c < 2 ^ 32 → key.i < 2 ^ 64 → is_digit c ≡ false
    → key_front (next_word (natural_of key.c) ++ (next_word (natural_of key.i) ++ c ∷ rest)) ≡ Ok (key, c ∷ rest)
unfolding key_front
key_again key c rest low high none =
    ap (λ r. r >>= λ c. number_front (2 ^ 64 - 1) c.1 >>= λ i. Ok (record { c = c.0; i = i.0 }, i.1)) (number_again (2 ^ 32 - 1) key.c 32 (natural_of key.i ++ c ∷ rest) (omega arith) (omega arith) refl)
    ∙ ap (λ r. r >>= λ i. Ok (record { c = key.c; i = i.0 }, i.1)) (number_again (2 ^ 64 - 1) key.i c rest (omega arith) (omega arith) none)

pub one_more : (n : ℕ) → 1 + n ≡ suc n
one_more n = omega arith

-- how far a method goes
method_length : (method rest : List ℕ) → All (λ b. IsTrue (is_method_byte b)) method → prefix_len is_method_byte (method ++ 32 ∷ rest) ≡ length method
method_length [] rest all = refl
method_length (b ∷ method) rest all =
    ap (λ t. cond t (1 + prefix_len is_method_byte (method ++ 32 ∷ rest)) 0) (all 0 0 (omega arith))
    ∙ one_more (prefix_len is_method_byte (method ++ 32 ∷ rest)) ∙ ap suc (method_length method rest (λ k d less. all (suc k) d (omega (arith, less))))

abbrev cut_as : List ℕ → List ℕ → Result (List ℕ × List ℕ) ℕ
cut_as method rest = Ok (method, rest)

cut_again : (n : ℕ) (method rest : List ℕ) → n ≡ length method → 1 ≤ length method → method_cut n (method ++ rest) ≡ Ok (method, rest)
cut_again n method rest is some =
    let size : ℕ = length method in
    ap (λ k. method_cut k (method ++ rest)) is
    ∙ ap (λ t. cond t (Err (length (method ++ rest))) (cut_as (take size (method ++ rest)) (drop size (method ++ rest)))) (ne_eqb size 0 (λ e. omega (arith, some, e)))
    ∙ ap (λ xs. cut_as xs (drop size (method ++ rest))) (take-append_seam method rest)
    ∙ ap (cut_as method) (drop-append_seam method rest)

method_again : (method rest : List ℕ) → 1 ≤ length method → All (λ b. IsTrue (is_method_byte b)) method
    → method_front (next_word method ++ 32 ∷ rest) ≡ Ok (method, 32 ∷ rest)
unfolding method_front
method_again method rest some all = cut_again (prefix_len is_method_byte (method ++ 32 ∷ rest)) method (32 ∷ rest) (method_length method rest all) some

good_value : (x : Tree) → IsPlainValue x → IsInRange x → IsGood text_levels x
good_value x plain ranged = record { tagged = plain.tidy.tagged; in_order = plain.tidy.in_order; in_range = ranged; depth = plain.levels }

struct_wanted : (x : Tree) → IsStruct x → is_wanted (Some Struct) (tag_of x) ≡ true
struct_wanted (of_struct fields) is = refl
struct_wanted _ is = absurd is

arguments_again : (most : ℕ) (x : Tree) (rest : List ℕ) → length (tree_text x) < most → IsStruct x → IsPlainValue x → IsInRange x
    → arguments_front most (next_word (tree_text x) ++ rest) ≡ Ok (x, rest)
unfolding arguments_front
arguments_again most x rest short is plain ranged = values_again most text_levels (Some Struct) x rest short (good_value x plain ranged) (struct_wanted x is)

value_again : (most : ℕ) (x : Tree) (rest : List ℕ) → length (tree_text x) < most → IsPlainValue x → IsInRange x → value_text_at most text_levels None (tree_text x ++ rest) ≡ Ok (x, rest)
value_again most x rest short plain ranged = values_again most text_levels None x rest short (good_value x plain ranged) refl

-- what an answer's value is followed by plays no part
answer_again : (most : ℕ) (a : PlainAnswer) (rest : List ℕ) → length (answered_text a) < most → IsPlainAnswer a → IsRangedAnswer a
    → answer_front most (answered_text a ++ rest) ≡ Ok (a, rest)
unfolding answer_front success_front thrown_front word_answer
answer_again most (success x) rest short plain ranged =
    ap (λ r. r >>= λ v. Ok (success v.0, v.1)) (value_again most x rest (omega (arith, short)) plain ranged)
answer_again most empty rest short plain ranged = refl
answer_again most (throws id x) rest short plain ranged =
    let text : List ℕ = tree_text x in
    let id_first : (decimal_of id ++ (32 ∷ text)) ++ rest ≡ decimal_of id ++ 32 ∷ (text ++ rest) = append_assoc (decimal_of id) (32 ∷ text) rest in
    let shorter : length text < most = omega (arith, short, length-append (decimal_of id) (32 ∷ text)) in
    ap (λ t. integer_at 32767 t >>= λ id. behind_word (32 ∷ []) id.1 >>= λ r. value_text_at most text_levels None r >>= λ v. Ok (throws id.0 v.0, v.1)) id_first
    ∙ ap (λ r. r >>= λ id. behind_word (32 ∷ []) id.1 >>= λ r. value_text_at most text_levels None r >>= λ v. Ok (throws id.0 v.0, v.1))
    (integer_again 32767 id 32 (text ++ rest) (omega arith) (fits16 id ranged.0) refl)
    ∙ ap (λ r. r >>= λ v. Ok (throws id v.0, v.1)) (value_again most x rest shorter plain ranged.1)
answer_again most broken rest short plain ranged = refl

parts : (word c i slot method args answer end : List ℕ)
    → ((word ++ (c ++ (i ++ slot))) ++ ((method ++ args) ++ answer)) ++ end ≡ word ++ (c ++ (i ++ (slot ++ (method ++ (args ++ (answer ++ end))))))
parts word c i slot method args answer end = simp append_assoc

-- a line in its parts, one behind another
pub parts_of : (word c i slot method args answer : List ℕ)
    → ((word ++ (next_word c ++ (next_word i ++ next_word slot))) ++ ((next_word method ++ next_word args) ++ next_word answer)) ++ 10 ∷ []
    ≡ word ++ (next_word c ++ (next_word i ++ (next_word slot ++ (next_word method ++ (next_word args ++ (next_word answer ++ 10 ∷ []))))))
parts_of word c i slot method args answer =
    parts word (next_word c) (next_word i) (next_word slot) (next_word method) (next_word args) (next_word answer) (10 ∷ [])

-- the arguments and the answer are shorter than the line
length_parts : (word c i slot method args answer : List ℕ)
    → length args + length answer + 2 ≤ length (((word ++ (next_word c ++ (next_word i ++ next_word slot))) ++ ((next_word method ++ next_word args) ++ next_word answer)) ++ 10 ∷ [])
length_parts word c i slot method args answer = simp length-append (omega arith)

-- the call of an entry, in front of its answer
call_again : (most : ℕ) (e : CallEntry) (rest : List ℕ) → length (tree_text e.call.args) < most → IsPlainCall e.call → IsRangedEntry e
    → call_front most (call_word e.call.silent ++ (next_word (natural_of e.key.c) ++ (next_word (natural_of e.key.i)
    ++ (next_word (natural_of e.call.slot) ++ (next_word e.call.method ++ (next_word (tree_text e.call.args) ++ rest))))))
    ≡ Ok (record { silent = e.call.silent; key = e.key; slot = e.call.slot; method = e.call.method; args = e.call.args }, rest)
unfolding call_front
call_again most e rest short call ranged =
    let args : List ℕ = tree_text e.call.args ++ rest in
    let method : List ℕ = next_word e.call.method ++ 32 ∷ args in
    let slot : List ℕ = next_word (natural_of e.call.slot) ++ method in
    ap (λ r. r >>= λ word. key_front word.1 >>= λ key. number_front (2 ^ 32 - 1) key.1 >>= λ slot. method_front slot.1 >>= λ method. arguments_front most method.1
    >>= λ args. Ok (record { silent = word.0; key = key.0; slot = slot.0; method = method.0; args = args.0 }, args.1))
    (word_again e.call.silent (next_word (natural_of e.key.c) ++ (next_word (natural_of e.key.i) ++ slot)))
    ∙ ap (λ r. r >>= λ key. number_front (2 ^ 32 - 1) key.1 >>= λ slot. method_front slot.1 >>= λ method. arguments_front most method.1
    >>= λ args. Ok (record { silent = e.call.silent; key = key.0; slot = slot.0; method = method.0; args = args.0 }, args.1))
    (key_again e.key 32 (natural_of e.call.slot ++ method) ranged.c ranged.i refl)
    ∙ ap (λ r. r >>= λ slot. method_front slot.1 >>= λ method. arguments_front most method.1
    >>= λ args. Ok (record { silent = e.call.silent; key = e.key; slot = slot.0; method = method.0; args = args.0 }, args.1))
    (number_again (2 ^ 32 - 1) e.call.slot 32 (e.call.method ++ 32 ∷ args) (omega arith) (omega (arith, ranged.slot)) refl)
    ∙ ap (λ r. r >>= λ method. arguments_front most method.1
    >>= λ args. Ok (record { silent = e.call.silent; key = e.key; slot = e.call.slot; method = method.0; args = args.0 }, args.1))
    (method_again e.call.method args call.some call.word)
    ∙ ap (λ r. r >>= λ args. Ok (record { silent = e.call.silent; key = e.key; slot = e.call.slot; method = e.call.method; args = args.0 }, args.1))
    (arguments_again most e.call.args rest short call.arguments call.plain ranged.args)

-- what is read behind an answer, and behind a call
abbrev entry_by : CallFront → PlainAnswer × List ℕ → Result (CallEntry × List ℕ) ℕ
entry_by call answer = Ok (entry_with call answer.0, answer.1)

abbrev behind_call : ℕ → CallFront × List ℕ → Result (CallEntry × List ℕ) ℕ
behind_call most call = behind_word (32 ∷ []) call.1 >>= λ rest. answer_front most rest >>= λ answer. entry_by call.0 answer

-- what is read behind an entry
abbrev behind_entry : CallEntry × List ℕ → Result CallEntry ℕ
behind_entry e = behind_word (10 ∷ []) e.1 >>= λ rest. nothing_behind e.0 rest

-- the line of an entry is read as that entry
pub line_again : (most : ℕ) (e : CallEntry) → length (call_line e) ≤ most → HasEntryLine e → line_front most (call_line e) ≡ Ok e
unfolding line_front entry_front
line_again most e short has =
    let newline : List ℕ = 10 ∷ [] in
    let lengths = length_parts (call_word e.call.silent) (natural_of e.key.c) (natural_of e.key.i) (natural_of e.call.slot) e.call.method (tree_text e.call.args) (answered_text e.answer) in
    ap (λ t. line_front most t) (parts_of (call_word e.call.silent) (natural_of e.key.c) (natural_of e.key.i) (natural_of e.call.slot) e.call.method (tree_text e.call.args) (answered_text e.answer))
    ∙ ap (λ r. (r >>= behind_call most) >>= behind_entry)
    (call_again most e (next_word (answered_text e.answer) ++ newline) (omega (arith, short, lengths)) has.call has.in_range)
    ∙ ap (λ r. (r >>= entry_by (call_read e.key e.call)) >>= behind_entry)
    (answer_again most e.answer newline (omega (arith, short, lengths)) has.answer has.in_range.answer)

-- two entries with one line are one
pub one_entry : (x y : CallEntry) → HasEntryLine x → HasEntryLine y → call_line x ≡ call_line y → x ≡ y
one_entry x y first second same =
    let most : ℕ = length (call_line x) in
    let x_again : line_front most (call_line x) ≡ Ok x = line_again most x (omega arith) first in
    let y_again : line_front most (call_line y) ≡ Ok y = line_again most y (omega (arith, ap length same)) second in
    one_ok x y (sym x_again ∙ ap (line_front most) same ∙ y_again)
