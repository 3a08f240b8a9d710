-- What a line says can be written, and what is written is read as it.
use Rattle.std.proofs.Common.{◌≡◌, ℕ, zero, suc, ◌<◌, ◌^◌, Bool, true, false, cond, List, [], ◌∷◌, ◌++◌, length, codes, Option, Some, None, refl, ap, ◌∙◌, arith}
use Rattle.std.specs.Prelude.{MatchOption, ⊤, option_and_then}
use Rattle.std.specs.Option.{option_map}
use Rattle.std.specs.Str.{bytes_eq}
use Rattle.text_out.specs.Decimal.{natural_of}
use Rattle.text_out.specs.Hex.{hex_of}
use Rattle.text_out.proofs.HexLemmas.{unhex_of-hex_of}
use Rattle.script_model.specs.ScriptLines.{opening, piece, input_end, input_fault, resting, turn_of_conn, turn_of_worker, turn_of_outcome, PlanRule, takes_most, blocks, fails}
use Rattle.script_text.specs.TextLines.{TextParts, parts_around, is_space, is_passed_over}
use Rattle.script_text.specs.LineForms.{SaidLine, runs, rules_so, decimal_read, spelled_bytes, piece_on, takes_some, word_alone, word_of_number, word_with_more, words_behind, words_of_line, said_of}
use Rattle.script_text.specs.Printing.{said_text}
use Rattle.script_text.proofs.Cuts.{parts_of_word, parts_of_none}
use Rattle.script_text.proofs.Numbers.{EachByte, bytes_at, number_read, number_small, natural_word, some_are_bytes}

-- a rule can be written
abbrev pub IsRule : PlanRule → Type 0
IsRule (takes_most count) = (0 < count) × (count < 2 ^ 32)
IsRule _ = ⊤

-- a line can be written
abbrev pub IsWritable : SaidLine → Type 0
IsWritable (runs opening) = ⊤
IsWritable (runs (piece c bytes)) = (c < 2 ^ 32) × ((0 < length bytes) × EachByte bytes)
IsWritable (runs (input_end c)) = c < 2 ^ 32
IsWritable (runs (input_fault c)) = c < 2 ^ 32
IsWritable (runs resting) = ⊤
IsWritable (runs (turn_of_conn c)) = c < 2 ^ 32
IsWritable (runs (turn_of_worker w)) = w < 2 ^ 32
IsWritable (runs turn_of_outcome) = ⊤
IsWritable (rules_so c rule) = (c < 2 ^ 32) × IsRule rule

-- what is said, if anything, can be
abbrev pub CanBeWritten : Option SaidLine → Type 0
CanBeWritten said = MatchOption said ⊤ IsWritable

either : (test : Bool) (one other : Option SaidLine) → CanBeWritten one → CanBeWritten other → CanBeWritten (cond test one other)
either true one other a b = a
either false one other a b = b

numbered : (f : ℕ → Option SaidLine) (n : Option ℕ) → ((k : ℕ) → k < 2 ^ 32 → CanBeWritten (f k)) → MatchOption n ⊤ (λ k. k < 2 ^ 32) → CanBeWritten (option_and_then f n)
numbered f None each small = tt
numbered f (Some k) each small = each k small

alone_can : (word : List ℕ) → CanBeWritten (word_alone word)
alone_can word =
    either (bytes_eq word (codes "open")) (Some (runs opening)) _ tt
    (either (bytes_eq word (codes "rest")) (Some (runs resting)) _ tt
    (either (bytes_eq word (codes "collect")) (Some (runs turn_of_outcome)) None tt tt))

number_can : (word : List ℕ) (n : ℕ) → n < 2 ^ 32 → CanBeWritten (word_of_number word n)
number_can word n small =
    either (bytes_eq word (codes "end")) (Some (runs (input_end n))) _ small
    (either (bytes_eq word (codes "readfail")) (Some (runs (input_fault n))) _ small
    (either (bytes_eq word (codes "block")) (Some (rules_so n blocks)) _ (small, tt)
    (either (bytes_eq word (codes "writefail")) (Some (rules_so n fails)) _ (small, tt)
    (either (bytes_eq word (codes "loop")) (Some (runs (turn_of_conn n))) _ small
    (either (bytes_eq word (codes "work")) (Some (runs (turn_of_worker n))) None small tt)))))

piece_can : (c : ℕ) (bytes : Option (List ℕ)) → c < 2 ^ 32 → MatchOption bytes ⊤ (λ bs. (0 < length bs) × EachByte bs) → CanBeWritten (option_map (piece_on c) bytes)
piece_can c None small are = tt
piece_can c (Some bytes) small are = (small, are)

takes_can : (c count : ℕ) → c < 2 ^ 32 → count < 2 ^ 32 → CanBeWritten (takes_some c count)
takes_can c zero small fits = tt
takes_can c (suc n) small fits = (small, (omega arith, fits))

more_can : (word last : List ℕ) (c : ℕ) → c < 2 ^ 32 → CanBeWritten (word_with_more word last c)
more_can word last c small =
    either (bytes_eq word (codes "data")) _ _ (piece_can c (spelled_bytes last) small (some_are_bytes last))
    (either (bytes_eq word (codes "write")) _ None (numbered (takes_some c) (decimal_read last) (λ k fits. takes_can c k small fits) (number_small last)) tt)

behind_can : (word rest : List ℕ) (parts : Option TextParts) → CanBeWritten (words_behind word rest parts)
behind_can word rest None = numbered (word_of_number word) (decimal_read rest) (number_can word) (number_small rest)
behind_can word rest (Some parts) = numbered (word_with_more word parts.1) (decimal_read parts.0) (more_can word parts.1) (number_small parts.0)

line_can : (line : List ℕ) (parts : Option TextParts) → CanBeWritten (words_of_line line parts)
line_can line None = alone_can line
line_can line (Some parts) = behind_can parts.0 parts.1 (parts_around is_space parts.1)

-- what a line says can be written
pub said_can : (line : List ℕ) → CanBeWritten (said_of line)
said_can line = line_can line (parts_around is_space line)

-- a number behind a word
one_number : (word : List ℕ) (n : ℕ) → n < 2 ^ 32 → words_behind word (natural_of n) (parts_around is_space (natural_of n)) ≡ word_of_number word n
one_number word n small =
    ap (words_behind word (natural_of n)) (parts_of_none is_space (natural_of n) (natural_word n small))
    ∙ ap (option_and_then (word_of_number word)) (number_read (natural_of n) n small refl)

-- a number and something more
number_and_more : (word last : List ℕ) (n : ℕ) → n < 2 ^ 32
    → words_behind word (natural_of n ++ 32 ∷ last) (parts_around is_space (natural_of n ++ 32 ∷ last)) ≡ word_with_more word last n
number_and_more word last n small =
    ap (words_behind word (natural_of n ++ 32 ∷ last)) (parts_of_word is_space 32 (natural_of n) last refl (natural_word n small))
    ∙ ap (option_and_then (word_with_more word last)) (number_read (natural_of n) n small refl)

piece_written : (c : ℕ) (bytes : List ℕ) → 0 < length bytes → EachByte bytes → option_map (piece_on c) (spelled_bytes (hex_of bytes)) ≡ Some (runs (piece c bytes))
piece_written c [] some each = absurd (omega arith)
piece_written c (b ∷ bytes) some each = ap (option_map (piece_on c)) (unhex_of-hex_of (b ∷ bytes) (bytes_at (b ∷ bytes) each))

takes_written : (c count : ℕ) → 0 < count → count < 2 ^ 32 → option_and_then (takes_some c) (decimal_read (natural_of count)) ≡ Some (rules_so c (takes_most count))
takes_written c zero some small = absurd (omega arith)
takes_written c (suc n) some small = ap (option_and_then (takes_some c)) (number_read (natural_of (suc n)) (suc n) small refl)

-- what is written is read as it
pub said_written : (said : SaidLine) → IsWritable said → said_of (said_text said) ≡ Some said
said_written (runs opening) can = refl
said_written (runs (piece c bytes)) can = number_and_more (codes "data") (hex_of bytes) c can.0 ∙ piece_written c bytes can.1.0 can.1.1
said_written (runs (input_end c)) can = one_number (codes "end") c can
said_written (runs (input_fault c)) can = one_number (codes "readfail") c can
said_written (runs resting) can = refl
said_written (runs (turn_of_conn c)) can = one_number (codes "loop") c can
said_written (runs (turn_of_worker w)) can = one_number (codes "work") w can
said_written (runs turn_of_outcome) can = refl
said_written (rules_so c (takes_most count)) can = number_and_more (codes "write") (natural_of count) c can.0 ∙ takes_written c count can.1.0 can.1.1
said_written (rules_so c blocks) can = one_number (codes "block") c can.0
said_written (rules_so c fails) can = one_number (codes "writefail") c can.0

-- and it says something
pub not_ignored : (said : SaidLine) → is_passed_over (said_text said) ≡ false
not_ignored (runs opening) = refl
not_ignored (runs (piece c bytes)) = refl
not_ignored (runs (input_end c)) = refl
not_ignored (runs (input_fault c)) = refl
not_ignored (runs resting) = refl
not_ignored (runs (turn_of_conn c)) = refl
not_ignored (runs (turn_of_worker w)) = refl
not_ignored (runs turn_of_outcome) = refl
not_ignored (rules_so c (takes_most count)) = refl
not_ignored (rules_so c blocks) = refl
not_ignored (rules_so c fails) = refl
