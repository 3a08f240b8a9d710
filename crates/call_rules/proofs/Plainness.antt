-- What services answer is plain, and their memories stay of their kind.
use Rattle.std.proofs.Common.{◌≡◌, ℕ, ℤ, pos, ◌≤◌, ◌+◌, Bool, true, false, cond, List, Option, None, Some, Result, Ok, Err, max, Ordering, Less, Equal, Greater, refl, sym, subst, lit≤, arith}
use Rattle.std.specs.Prelude.{codes, IfOk}
use Rattle.std.specs.Int.{w32, int_wrapping_add}
use Rattle.std.proofs.lemmas.Int.{ints}
use Rattle.text_out.specs.Decimal.{decimal_of}
use Rattle.call_rules.specs.declared.kind.Kind.{Kind}
use Rattle.std.specs.Ordering.{match_ordering, is_eq}
use Rattle.std.specs.Str.{bytes_eq}
use Rattle.std.proofs.Math.Nat.{le-max_left}
use Rattle.std.proofs.lemmas.Option.{same_Some, none-some}
use Rattle.thrift_value.specs.declared.tag.Tag.{Tag}
use Rattle.thrift_value.specs.declared.tag.Tag.TheVariants.{I32, Bytes}
use Rattle.thrift_value.specs.Tree.{Tree, of_bool, of_i8, of_i16, of_i32, of_i64, of_double, of_bytes, of_struct, of_map, of_set, of_list, FieldTrees, no_fields, field, PairTrees, no_pairs, pair}
use Rattle.thrift_value.specs.Tags.{tag_of}
use Rattle.thrift_value.specs.Order.{tree_cmp}
use Rattle.thrift_value.specs.Tidy.{IsWellTagged, AreWellTaggedPairs, AreWellTaggedItems, AreItemsInOrder}
use Rattle.thrift_value.specs.Measures.{depth_of, fields_depth, items_depth}
use Rattle.call_rules.specs.declared.call.Answer.{Answer}
use Rattle.call_rules.specs.Answers.{plain_answer}
use Rattle.call_rules.specs.declared.kind.Kind.TheVariants.{Calculator, Store, Mirror}
use Rattle.call_rules.specs.PlainCalls.{PlainAnswer, success, empty, throws, broken, IsPlainValue, IsPlainAnswer}
use Rattle.call_rules.specs.Handled.{Handled, keeping, or_broken}
use Rattle.call_rules.specs.Memories.{pairs_in, texts_by, AreTextsBy, value_at_key, pairs_with, pairs_without, map_keys_of}
use Rattle.call_rules.specs.Arguments.{fields_in, first_value, value_with_id, argument, number_passed, bytes_passed, fields_passed}
use Rattle.call_rules.specs.CalculatorRule.{calculation, invalid_operation, calculated, work_done, calculate_answered, add_answered, kept_struct, get_struct_answered, calculator_rule}
use Rattle.call_rules.specs.StoreRule.{found_or_empty, kept_at, memory_with, get_answered, put_answered, swap_answered, forget_answered, store_rule}
use Rattle.call_rules.specs.Handling.{ServiceState, new_service, IsMemoryOf, HasItsMemory, kind_rule, handled, service_after}

-- bytes are a plain value
of_bytes_is_plain : (v : Tree) → tag_of v ≡ Bytes → IsPlainValue v
of_bytes_is_plain (of_bytes bs) is = record { tidy = record { tagged = tt; in_order = tt }; levels = omega arith }
of_bytes_is_plain _ is = absurd (cc)

of_bytes_has_no_levels : (v : Tree) → tag_of v ≡ Bytes → depth_of v ≡ 0
of_bytes_has_no_levels (of_bytes bs) is = refl
of_bytes_has_no_levels _ is = absurd (cc)

-- ---- pairs of texts

pairs_are : (tag : Tag) (memory : Tree) → AreTextsBy tag memory → AreWellTaggedPairs tag Bytes (pairs_in memory)
pairs_are tag (of_map k v pairs) are = are.2
pairs_are tag _ are = absurd are

-- a value that is found is bytes
found_by : (b : Bool) (w v : Tree) (rest : Option Tree) → tag_of w ≡ Bytes → (rest ≡ Some v → tag_of v ≡ Bytes) → cond b (Some w) rest ≡ Some v → tag_of v ≡ Bytes
found_by true w v rest here later e = subst (λ t. tag_of t ≡ Bytes) (same_Some w v e) here
found_by false w v rest here later e = later e

value_is_bytes : (tag : Tag) (key : Tree) (pairs : PairTrees) → AreWellTaggedPairs tag Bytes pairs → (v : Tree) → value_at_key key pairs ≡ Some v → tag_of v ≡ Bytes
value_is_bytes tag key no_pairs are v e = absurd (none-some v e)
value_is_bytes tag key (pair k w more) are v e = found_by (is_eq (tree_cmp key k)) w v (value_at_key key more) are.1 (value_is_bytes tag key more are.4 v) e

-- a text that is put keeps them
put_by : (o : Ordering) (tag : Tag) (key value k v : Tree) (more rest : PairTrees) → tag_of key ≡ tag → IsWellTagged key → tag_of value ≡ Bytes → IsWellTagged value
    → AreWellTaggedPairs tag Bytes (pair k v more) → AreWellTaggedPairs tag Bytes rest
    → AreWellTaggedPairs tag Bytes (match_ordering o (pair key value (pair k v more)) (pair k value more) (pair k v rest))
put_by Less tag key value k v more rest is_key tagged is_value value_tagged are later = (is_key, is_value, tagged, value_tagged, are)
put_by Equal tag key value k v more rest is_key tagged is_value value_tagged are later = (are.0, is_value, are.2, value_tagged, are.4)
put_by Greater tag key value k v more rest is_key tagged is_value value_tagged are later = (are.0, are.1, are.2, are.3, later)

put_keeps : (tag : Tag) (key value : Tree) (pairs : PairTrees) → tag_of key ≡ tag → IsWellTagged key → tag_of value ≡ Bytes → IsWellTagged value
    → AreWellTaggedPairs tag Bytes pairs → AreWellTaggedPairs tag Bytes (pairs_with key value pairs)
put_keeps tag key value no_pairs is_key tagged is_value value_tagged are = (is_key, is_value, tagged, value_tagged, tt)
put_keeps tag key value (pair k v more) is_key tagged is_value value_tagged are =
    put_by (tree_cmp key k) tag key value k v more (pairs_with key value more) is_key tagged is_value value_tagged are
    (put_keeps tag key value more is_key tagged is_value value_tagged are.4)

-- and so does one that is taken out
taken_by : (b : Bool) (tag : Tag) (k v : Tree) (more rest : PairTrees) → AreWellTaggedPairs tag Bytes (pair k v more) → AreWellTaggedPairs tag Bytes rest
    → AreWellTaggedPairs tag Bytes (cond b more (pair k v rest))
taken_by true tag k v more rest are later = are.4
taken_by false tag k v more rest are later = (are.0, are.1, are.2, are.3, later)

take_keeps : (tag : Tag) (key : Tree) (pairs : PairTrees) → AreWellTaggedPairs tag Bytes pairs → AreWellTaggedPairs tag Bytes (pairs_without key pairs)
take_keeps tag key no_pairs are = tt
take_keeps tag key (pair k v more) are =
    taken_by (is_eq (tree_cmp key k)) tag k v more (pairs_without key more) are (take_keeps tag key more are.4)

-- the keys of texts by texts are a plain list
keys_tagged : (pairs : PairTrees) → AreWellTaggedPairs Bytes Bytes pairs → AreWellTaggedItems Bytes (map_keys_of pairs)
keys_tagged no_pairs are = tt
keys_tagged (pair k v more) are = (are.0, are.2, keys_tagged more are.4)

keys_in_order : (pairs : PairTrees) → AreWellTaggedPairs Bytes Bytes pairs → AreItemsInOrder (map_keys_of pairs)
keys_in_order no_pairs are = tt
keys_in_order (pair k v more) are = ((of_bytes_is_plain k are.0).tidy.in_order, keys_in_order more are.4)

keys_flat : (pairs : PairTrees) → AreWellTaggedPairs Bytes Bytes pairs → items_depth (map_keys_of pairs) ≡ 0
keys_flat no_pairs are = refl
keys_flat (pair k v more) are =
    let here = of_bytes_has_no_levels k are.0 in let later = keys_flat more are.4 in
    (λ i. max (here i) (later i))

keys_are_plain : (pairs : PairTrees) → AreWellTaggedPairs Bytes Bytes pairs → IsPlainValue (of_list Bytes (map_keys_of pairs))
keys_are_plain pairs are =
    let flat = keys_flat pairs are in
    record { tidy = record { tagged = keys_tagged pairs are; in_order = keys_in_order pairs are }; levels = omega arith }

-- ---- what a call comes to

-- a plain answer, and a memory of texts
IsGood : Tag → Handled → Type 0
IsGood tag h = IsPlainAnswer h.answer × AreTextsBy tag h.memory

good : (tag : Tag) (h : Handled) → IsPlainAnswer h.answer → AreTextsBy tag h.memory → IsGood tag h
unfolding IsGood
good tag h plain are = (plain, are)

good_if : (tag : Tag) (b : Bool) (x y : Handled) → IsGood tag x → IsGood tag y → IsGood tag (cond b x y)
good_if tag true x y first second = first
good_if tag false x y first second = second

kept_good : (tag : Tag) (memory : Tree) (answer : PlainAnswer) → IsPlainAnswer answer → AreTextsBy tag memory → IsGood tag (keeping memory answer)
kept_good tag memory answer plain are = good tag (keeping memory answer) plain are

-- ---- the calculator

-- a struct of a number and a text
two_fields : (n : ℤ) (text : Tree) → tag_of text ≡ Bytes → IsPlainValue (of_struct (field (pos 1) (of_i32 n) (field (pos 2) text no_fields)))
two_fields n text is =
    let plain = (of_bytes_is_plain text is).tidy in
    record {
      tidy = record { tagged = (tt, (plain.tagged, tt)); in_order = (((omega (arith, ints), tt), (tt, tt)), (tt, (plain.in_order, tt))) };
      levels = subst (λ (n : ℕ). max 0 (max n 0) + 1 ≤ 64) (sym (of_bytes_has_no_levels text is)) (lit≤ tt);
    }

number_is_plain : (n : ℤ) → IsPlainValue (of_i32 n)
number_is_plain n = record { tidy = record { tagged = tt; in_order = tt }; levels = omega arith }

calculated_good : (memory : Tree) (logid op : ℤ) (r : Result ℤ (List ℕ)) → AreTextsBy I32 memory → IsGood I32 (calculated memory logid op r)
unfolding calculated
calculated_good memory logid op (Ok value) are =
    good I32 (calculated memory logid op (Ok value)) (number_is_plain value)
    (refl, refl, put_keeps I32 (of_i32 logid) (of_bytes (decimal_of value)) (pairs_in memory) refl tt refl tt (pairs_are I32 memory are))
calculated_good memory logid op (Err why) are = kept_good I32 memory (throws (pos 1) (invalid_operation op why)) (two_fields op (of_bytes why) refl) are

work_good : (memory : Tree) (logid : ℤ) (a b c : Option ℤ) → AreTextsBy I32 memory
    → IsGood I32 (or_broken memory a (λ x. or_broken memory b (λ y. or_broken memory c (λ op. calculated memory logid op (calculation op x y)))))
work_good memory logid None b c are = kept_good I32 memory broken tt are
work_good memory logid (Some x) None c are = kept_good I32 memory broken tt are
work_good memory logid (Some x) (Some y) None are = kept_good I32 memory broken tt are
work_good memory logid (Some x) (Some y) (Some op) are = calculated_good memory logid op (calculation op x y) are

calculate_good : (memory : Tree) (a : Option ℤ) (w : Option FieldTrees) → AreTextsBy I32 memory
    → IsGood I32 (or_broken memory a (λ logid. or_broken memory w (λ work. work_done memory logid work)))
unfolding work_done
calculate_good memory None w are = kept_good I32 memory broken tt are
calculate_good memory (Some logid) None are = kept_good I32 memory broken tt are
calculate_good memory (Some logid) (Some work) are =
    work_good memory logid (number_passed (value_with_id (pos 1) work)) (number_passed (value_with_id (pos 2) work)) (number_passed (value_with_id (pos 3) work)) are

add_good : (memory : Tree) (a b : Option ℤ) → AreTextsBy I32 memory
    → IsGood I32 (or_broken memory a (λ x. or_broken memory b (λ y. keeping memory (success (of_i32 (int_wrapping_add w32 x y))))))
add_good memory None b are = kept_good I32 memory broken tt are
add_good memory (Some x) None are = kept_good I32 memory broken tt are
add_good memory (Some x) (Some y) are = kept_good I32 memory (success (of_i32 (int_wrapping_add w32 x y))) (number_is_plain (int_wrapping_add w32 x y)) are

struct_is_plain : (key : ℤ) (found : Option Tree) → ((v : Tree) → found ≡ Some v → tag_of v ≡ Bytes) → IsPlainAnswer (kept_struct key found)
struct_is_plain key None are = tt
struct_is_plain key (Some text) are = two_fields key text (are text refl)

get_struct_good : (memory : Tree) (a : Option ℤ) → AreTextsBy I32 memory
    → IsGood I32 (or_broken memory a (λ key. keeping memory (kept_struct key (value_at_key (of_i32 key) (pairs_in memory)))))
get_struct_good memory None are = kept_good I32 memory broken tt are
get_struct_good memory (Some key) are =
    kept_good I32 memory (kept_struct key (value_at_key (of_i32 key) (pairs_in memory)))
    (struct_is_plain key (value_at_key (of_i32 key) (pairs_in memory)) (value_is_bytes I32 (of_i32 key) (pairs_in memory) (pairs_are I32 memory are))) are

calculator_good : (memory : Tree) (method : List ℕ) (args : Tree) → AreTextsBy I32 memory → IsGood I32 (calculator_rule memory method args)
unfolding add_answered calculate_answered get_struct_answered
calculator_good memory method args are =
    good_if I32 (bytes_eq method (codes "ping")) _ _ (kept_good I32 memory empty tt are)
    (good_if I32 (bytes_eq method (codes "zip")) _ _ (kept_good I32 memory empty tt are)
    (good_if I32 (bytes_eq method (codes "add")) _ _ (add_good memory (number_passed (argument (pos 1) args)) (number_passed (argument (pos 2) args)) are)
    (good_if I32 (bytes_eq method (codes "calculate")) _ _ (calculate_good memory (number_passed (argument (pos 1) args)) (fields_passed (argument (pos 2) args)) are)
    (good_if I32 (bytes_eq method (codes "getStruct")) _ _ (get_struct_good memory (number_passed (argument (pos 1) args)) are)
    (kept_good I32 memory broken tt are)))))

-- ---- the store

found_is_plain : (found : Option Tree) → ((v : Tree) → found ≡ Some v → IsPlainValue v) → IsPlainAnswer (found_or_empty found)
found_is_plain None plain = tt
found_is_plain (Some v) plain = plain v refl

kept_at_is_plain : (memory : Tree) (key : List ℕ) → AreTextsBy Bytes memory → IsPlainAnswer (kept_at memory key)
kept_at_is_plain memory key are =
    found_is_plain (value_at_key (of_bytes key) (pairs_in memory))
    (λ v e. of_bytes_is_plain v (value_is_bytes Bytes (of_bytes key) (pairs_in memory) (pairs_are Bytes memory are) v e))

stored : (memory : Tree) (key text : List ℕ) → AreTextsBy Bytes memory → AreTextsBy Bytes (memory_with memory key text)
unfolding memory_with
stored memory key text are = (refl, refl, put_keeps Bytes (of_bytes key) (of_bytes text) (pairs_in memory) refl tt refl tt (pairs_are Bytes memory are))

get_good : (memory : Tree) (a : Option (List ℕ)) → AreTextsBy Bytes memory → IsGood Bytes (or_broken memory a (λ key. keeping memory (kept_at memory key)))
get_good memory None are = kept_good Bytes memory broken tt are
get_good memory (Some key) are = kept_good Bytes memory (kept_at memory key) (kept_at_is_plain memory key are) are

put_good : (memory : Tree) (answer : List ℕ → PlainAnswer) (a b : Option (List ℕ)) → ((key : List ℕ) → IsPlainAnswer (answer key)) → AreTextsBy Bytes memory
    → IsGood Bytes (or_broken memory a (λ key. or_broken memory b (λ text. record { answer = answer key; memory = memory_with memory key text })))
put_good memory answer None b plain are = kept_good Bytes memory broken tt are
put_good memory answer (Some key) None plain are = kept_good Bytes memory broken tt are
put_good memory answer (Some key) (Some text) plain are =
    good Bytes (record { answer = answer key; memory = memory_with memory key text }) (plain key) (stored memory key text are)

forget_good : (memory : Tree) (a : Option (List ℕ)) → AreTextsBy Bytes memory
    → IsGood Bytes (or_broken memory a (λ key. record { answer = empty; memory = texts_by Bytes (pairs_without (of_bytes key) (pairs_in memory)) }))
forget_good memory None are = kept_good Bytes memory broken tt are
forget_good memory (Some key) are =
    good Bytes (record { answer = empty; memory = texts_by Bytes (pairs_without (of_bytes key) (pairs_in memory)) }) tt
    (refl, refl, take_keeps Bytes (of_bytes key) (pairs_in memory) (pairs_are Bytes memory are))

store_good : (memory : Tree) (method : List ℕ) (args : Tree) → AreTextsBy Bytes memory → IsGood Bytes (store_rule memory method args)
unfolding get_answered put_answered swap_answered forget_answered
store_good memory method args are =
    let first = bytes_passed (argument (pos 1) args) in
    let second = bytes_passed (argument (pos 2) args) in
    good_if Bytes (bytes_eq method (codes "get")) _ _ (get_good memory first are)
    (good_if Bytes (bytes_eq method (codes "put")) _ _ (put_good memory (λ _. empty) first second (λ _. tt) are)
    (good_if Bytes (bytes_eq method (codes "swap")) _ _ (put_good memory (kept_at memory) first second (λ key. kept_at_is_plain memory key are) are)
    (good_if Bytes (bytes_eq method (codes "keys")) _ _
    (kept_good Bytes memory (success (of_list Bytes (map_keys_of (pairs_in memory)))) (keys_are_plain (pairs_in memory) (pairs_are Bytes memory are)) are)
    (good_if Bytes (bytes_eq method (codes "forget")) _ _ (forget_good memory first are) (kept_good Bytes memory broken tt are)))))

-- ---- the mirror

first_is_plain : (args : Tree) → IsPlainValue args → IsPlainAnswer (found_or_empty (first_value (fields_in args)))
first_is_plain (of_struct no_fields) plain = tt
first_is_plain (of_struct (field id v more)) plain =
    let levels : max (depth_of v) (fields_depth more) + 1 ≤ 64 = plain.levels in
    let most : depth_of v ≤ max (depth_of v) (fields_depth more) = le-max_left (depth_of v) (fields_depth more) in
    record { tidy = record { tagged = plain.tidy.tagged.0; in_order = plain.tidy.in_order.1.0 }; levels = omega arith }
first_is_plain _ plain = tt

-- ---- all kinds

rule_is_plain : (kind : Kind) (memory : Tree) (method : List ℕ) (args : Tree) → IsMemoryOf kind memory → IsPlainValue args → IsPlainAnswer (kind_rule kind memory method args).answer
unfolding IsGood
rule_is_plain Calculator memory method args kept plain = (calculator_good memory method args kept).0
rule_is_plain Store memory method args kept plain = (store_good memory method args kept).0
rule_is_plain Mirror memory method args kept plain = first_is_plain args plain

rule_keeps : (kind : Kind) (memory : Tree) (method : List ℕ) (args : Tree) → IsMemoryOf kind memory → IsMemoryOf kind (kind_rule kind memory method args).memory
unfolding IsGood
rule_keeps Calculator memory method args kept = (calculator_good memory method args kept).1
rule_keeps Store memory method args kept = (store_good memory method args kept).1
rule_keeps Mirror memory method args kept = kept

pub answers_are_plain : (service : ServiceState) (method : List ℕ) (args : Tree) → HasItsMemory service → IsPlainValue args → IsPlainAnswer (handled service method args).answer
answers_are_plain service method args kept plain = rule_is_plain service.kind service.memory method args kept plain

-- so what was answered as the service answers, where anything was
pub answered_plainly : {E : Type 0} (service : ServiceState) (method : List ℕ) (args : Tree) (result : Result Answer E) → HasItsMemory service
    → IfOk result (λ answer. plain_answer answer ≡ (handled service method args).answer)
    → IsPlainValue args → IfOk result (λ answer. IsPlainAnswer (plain_answer answer))
answered_plainly service method args (Ok answer) kept is plain = subst IsPlainAnswer (sym is) (answers_are_plain service method args kept plain)
answered_plainly service method args (Err e) kept is plain = tt

pub services_are_kept : (service : ServiceState) (method : List ℕ) (args : Tree) → HasItsMemory service → HasItsMemory (service_after service method args)
services_are_kept service method args kept = rule_keeps service.kind service.memory method args kept

pub new_services_are_kept : (kind : Kind) → HasItsMemory (new_service kind)
new_services_are_kept Calculator = (refl, refl, tt)
new_services_are_kept Store = (refl, refl, tt)
new_services_are_kept Mirror = refl
