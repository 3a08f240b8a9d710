-- An entry's text has no newline.
use Rattle.std.proofs.Common.{◌≡◌, ◌≢◌, ℕ, zero, suc, ◌/◌, ◌%◌, ◌==◌, ◌&&◌, nat_le, ℤ, pos, negsuc, Bool, true, false, if◌then◌else◌, List, [], ◌∷◌, ◌++◌, get_or, codes, IsTrue, refl, sym, ap, ◌∙◌, arith}
use Rattle.std.specs.Prelude.{All}
use Rattle.std.specs.Int.{w64, w128, to_be_bytes}
use Rattle.std.specs.List.{flat_map}
use Rattle.std.proofs.lemmas.Bool.{true≢false}
use Rattle.text_out.specs.Bytes.{quotation_mark, escape_mark, hex_mark}
use Rattle.text_out.specs.Decimal.{natural_of, decimal_of}
use Rattle.text_out.specs.Hex.{hex_of, hex_digit_of}
use Rattle.text_out.specs.Quoted.{quoted_byte}
use Rattle.host_model.proofs.Lists.{all-append}
use Rattle.script_model.proofs.ReportLines.{IsOneLine, natural_one_line, plain_text}
use Rattle.thrift_value.specs.declared.tag.Tag.{Tag}
use Rattle.thrift_value.specs.declared.tag.Tag.TheVariants.{Bool as BoolTag, I8, I16, I32, I64, Double, Bytes, Struct, Map, Set, List as ListTag, Uuid}
use Rattle.thrift_value.specs.Tree.{Tree, of_bool, of_i8, of_i16, of_i32, of_i64, of_double, of_bytes, of_struct, of_map, of_set, of_list, of_uuid, FieldTrees, no_fields, field, ItemTrees, no_items, item, PairTrees, no_pairs, pair}
use Rattle.value_text.specs.ValueText.{tag_word, number_and_letter, tree_text, listed_fields, listed_items, listed_pairs, further_fields, further_items, further_pairs}
use Rattle.call_rules.specs.PlainCalls.{PlainAnswer, success, empty, throws, broken, is_method_byte, IsPlainCall}
use Rattle.call_rules.specs.Entries.{CallEntry}
use Rattle.journal_text.specs.EntryText.{next_word, call_word, front_text, asked_text, answered_text, entry_text}
use Rattle.journal_text.specs.Lines.{IsEntryText}

-- two texts, one behind the other
join : (xs ys : List ℕ) → IsOneLine xs → IsOneLine ys → IsOneLine (xs ++ ys)
join xs ys a b = all-append (λ b. b ≢ 10) xs ys a b

-- a text of two that a test chooses between
either : (t : Bool) (xs ys : List ℕ) → IsOneLine xs → IsOneLine ys → IsOneLine (if t then xs else ys)
either true xs ys a b = a
either false xs ys a b = b

-- what stands at a place of a text, or 0 behind its end
byte_at : (xs : List ℕ) (n : ℕ) → IsOneLine xs → get_or xs n 0 ≢ 10
byte_at [] n a e = omega (arith, e)
byte_at (x ∷ xs) zero a e = a.0 e
byte_at (x ∷ xs) (suc n) a e = byte_at xs n a.1 e

decimal_line : (z : ℤ) → IsOneLine (decimal_of z)
decimal_line (pos n) = natural_one_line n
decimal_line (negsuc n) = ((λ e. omega (arith, e)), natural_one_line (suc n))

digit_line : (n : ℕ) → hex_digit_of n ≢ 10
digit_line n = byte_at (codes "0123456789abcdef") n (plain_text (codes "0123456789abcdef") refl)

hex_line : (bytes : List ℕ) → IsOneLine (hex_of bytes)
hex_line [] = tt
hex_line (b ∷ bytes) = (digit_line (b / 16), (digit_line (b % 16), hex_line bytes))

-- a byte that stands as it is
printable_line : (b : ℕ) (t : Bool) (other : List ℕ) → (nat_le 0x20 b && nat_le b 0x7e) ≡ t → IsOneLine other → IsOneLine (if t then b ∷ [] else other)
printable_line b true other is a = ((λ e. true≢false (sym is ∙ ap (λ n. nat_le 0x20 n && nat_le n 0x7e) e)), tt)
printable_line b false other is a = a

quoted_byte_line : (b : ℕ) → IsOneLine (quoted_byte b)
quoted_byte_line b =
    let escaped : IsOneLine (escape_mark ∷ hex_mark ∷ hex_digit_of (b / 16) ∷ hex_digit_of (b % 16) ∷ []) =
    ((λ e. omega (arith, e)), ((λ e. omega (arith, e)), (digit_line (b / 16), (digit_line (b % 16), tt)))) in
    either (b == quotation_mark) _ _ ((λ e. omega (arith, e)), ((λ e. omega (arith, e)), tt))
    (either (b == escape_mark) _ _ ((λ e. omega (arith, e)), ((λ e. omega (arith, e)), tt))
    (printable_line b (nat_le 0x20 b && nat_le b 0x7e) _ refl escaped))

quoted_bytes_line : (bytes : List ℕ) → IsOneLine (flat_map quoted_byte bytes)
quoted_bytes_line [] = tt
quoted_bytes_line (b ∷ bytes) = join (quoted_byte b) (flat_map quoted_byte bytes) (quoted_byte_line b) (quoted_bytes_line bytes)

tag_line : (tag : Tag) → IsOneLine (tag_word tag)
tag_line BoolTag = plain_text (codes "bool") refl
tag_line I8 = plain_text (codes "i8") refl
tag_line I16 = plain_text (codes "i16") refl
tag_line I32 = plain_text (codes "i32") refl
tag_line I64 = plain_text (codes "i64") refl
tag_line Double = plain_text (codes "double") refl
tag_line Bytes = plain_text (codes "bytes") refl
tag_line Struct = plain_text (codes "struct") refl
tag_line Map = plain_text (codes "map") refl
tag_line Set = plain_text (codes "set") refl
tag_line ListTag = plain_text (codes "list") refl
tag_line Uuid = plain_text (codes "uuid") refl

number_line : (z : ℤ) (letter : List ℕ) → IsOneLine letter → IsOneLine (number_and_letter z letter)
number_line z letter a = join (decimal_of z) letter (decimal_line z) a

-- what opens the elements of a set or a list, them and what closes them
collection_line : (word inside : List ℕ) (tag : Tag) → IsOneLine word → IsOneLine inside → IsOneLine (word ++ (tag_word tag ++ (codes ">[" ++ (inside ++ codes "]"))))
collection_line word inside tag a b =
    join word _ a
    (join (tag_word tag) _ (tag_line tag) (join (codes ">[") _ (plain_text (codes ">[") refl) (join inside (codes "]") b (plain_text (codes "]") refl))))

mutual
  tree_line : (x : Tree) → IsOneLine (tree_text x)
  tree_line (of_bool true) = plain_text (codes "true") refl
  tree_line (of_bool false) = plain_text (codes "false") refl
  tree_line (of_i8 n) = number_line n (codes "b") (plain_text (codes "b") refl)
  tree_line (of_i16 n) = number_line n (codes "s") (plain_text (codes "s") refl)
  tree_line (of_i32 n) = number_line n (codes "i") (plain_text (codes "i") refl)
  tree_line (of_i64 n) = number_line n (codes "l") (plain_text (codes "l") refl)
  tree_line (of_double bits) = join (codes "d") (hex_of (to_be_bytes w64 bits)) (plain_text (codes "d") refl) (hex_line (to_be_bytes w64 bits))
  tree_line (of_uuid number) = join (codes "u") (hex_of (to_be_bytes w128 number)) (plain_text (codes "u") refl) (hex_line (to_be_bytes w128 number))
  tree_line (of_bytes bytes) =
      ((λ e. omega (arith, e)), join (flat_map quoted_byte bytes) (codes "\"") (quoted_bytes_line bytes) (plain_text (codes "\"") refl))
  tree_line (of_struct fields) =
      join (codes "{") _ (plain_text (codes "{") refl) (join (listed_fields fields) (codes "}") (fields_line fields) (plain_text (codes "}") refl))
  tree_line (of_map key value pairs) =
      join (codes "map<") _ (plain_text (codes "map<") refl) (join (tag_word key) _ (tag_line key) (join (codes ",") _ (plain_text (codes ",") refl)
      (join (tag_word value) _ (tag_line value) (join (codes ">{") _ (plain_text (codes ">{") refl)
      (join (listed_pairs pairs) (codes "}") (pairs_line pairs) (plain_text (codes "}") refl))))))
  tree_line (of_set element items) = collection_line (codes "set<") (listed_items items) element (plain_text (codes "set<") refl) (items_line items)
  tree_line (of_list element items) = collection_line (codes "list<") (listed_items items) element (plain_text (codes "list<") refl) (items_line items)

  fields_line : (fields : FieldTrees) → IsOneLine (listed_fields fields)
  fields_line no_fields = tt
  fields_line (field id value more) =
      join (decimal_of id) _ (decimal_line id) (join (codes "=") _ (plain_text (codes "=") refl) (join (tree_text value) _ (tree_line value) (more_fields_line more)))

  more_fields_line : (fields : FieldTrees) → IsOneLine (further_fields fields)
  more_fields_line no_fields = tt
  more_fields_line (field id value more) =
      join (codes ",") _ (plain_text (codes ",") refl) (join (decimal_of id) _ (decimal_line id)
      (join (codes "=") _ (plain_text (codes "=") refl) (join (tree_text value) _ (tree_line value) (more_fields_line more))))

  items_line : (items : ItemTrees) → IsOneLine (listed_items items)
  items_line no_items = tt
  items_line (item value more) = join (tree_text value) _ (tree_line value) (more_items_line more)

  more_items_line : (items : ItemTrees) → IsOneLine (further_items items)
  more_items_line no_items = tt
  more_items_line (item value more) = join (codes ",") _ (plain_text (codes ",") refl) (join (tree_text value) _ (tree_line value) (more_items_line more))

  pairs_line : (pairs : PairTrees) → IsOneLine (listed_pairs pairs)
  pairs_line no_pairs = tt
  pairs_line (pair key value more) =
      join (tree_text key) _ (tree_line key) (join (codes "=") _ (plain_text (codes "=") refl) (join (tree_text value) _ (tree_line value) (more_pairs_line more)))

  more_pairs_line : (pairs : PairTrees) → IsOneLine (further_pairs pairs)
  more_pairs_line no_pairs = tt
  more_pairs_line (pair key value more) =
      join (codes ",") _ (plain_text (codes ",") refl) (join (tree_text key) _ (tree_line key)
      (join (codes "=") _ (plain_text (codes "=") refl) (join (tree_text value) _ (tree_line value) (more_pairs_line more))))

next_line : (word : List ℕ) → IsOneLine word → IsOneLine (next_word word)
next_line word a = ((λ e. omega (arith, e)), a)

word_line : (silent : Bool) → IsOneLine (call_word silent)
word_line false = plain_text (codes "call") refl
word_line true = plain_text (codes "oneway") refl

answer_line : (answer : PlainAnswer) → IsOneLine (answered_text answer)
answer_line (success value) = join (codes "ok ") (tree_text value) (plain_text (codes "ok ") refl) (tree_line value)
answer_line empty = plain_text (codes "empty") refl
answer_line (throws id exception) =
    join (codes "throws ") _ (plain_text (codes "throws ") refl) (join (decimal_of id) _ (decimal_line id) (next_line (tree_text exception) (tree_line exception)))
answer_line broken = plain_text (codes "broken") refl

-- a method has no newline
method_byte_line : (b : ℕ) → IsTrue (is_method_byte b) → b ≢ 10
method_byte_line b is e = true≢false (sym is ∙ ap is_method_byte e)

method_line : (method : List ℕ) → All (λ b. IsTrue (is_method_byte b)) method → IsOneLine method
method_line [] all = tt
method_line (b ∷ method) all = (method_byte_line b (all 0 0 (omega arith)), method_line method (λ k d less. all (suc k) d (omega (arith, less))))

-- the first word, the blank behind it, and the rest
named_by : (silent : Bool) (numbers rest : List ℕ) → (call_word silent ++ next_word numbers) ++ rest ≡ (call_word silent ++ codes " ") ++ (numbers ++ rest)
named_by false numbers rest = refl
named_by true numbers rest = refl

pub entry_is_one_line : (e : CallEntry) → IsPlainCall e.call → IsEntryText e (entry_text e)
entry_is_one_line e plain =
    let numbers : List ℕ = natural_of e.key.c ++ (next_word (natural_of e.key.i) ++ next_word (natural_of e.call.slot)) in
    let rest : List ℕ = asked_text e.call.method e.call.args ++ next_word (answered_text e.answer) in
    record {
      named = (numbers ++ rest, named_by e.call.silent numbers rest);
      one =
          join (front_text e.call.silent e.key e.call.slot) rest
          (join (call_word e.call.silent) _ (word_line e.call.silent)
          (join (next_word (natural_of e.key.c)) _ (next_line (natural_of e.key.c) (natural_one_line e.key.c))
          (join (next_word (natural_of e.key.i)) _ (next_line (natural_of e.key.i) (natural_one_line e.key.i))
          (next_line (natural_of e.call.slot) (natural_one_line e.call.slot)))))
          (join (asked_text e.call.method e.call.args) (next_word (answered_text e.answer))
          (join (next_word e.call.method) (next_word (tree_text e.call.args)) (next_line e.call.method (method_line e.call.method plain.word))
          (next_line (tree_text e.call.args) (tree_line e.call.args)))
          (next_line (answered_text e.answer) (answer_line e.answer)));
    }
