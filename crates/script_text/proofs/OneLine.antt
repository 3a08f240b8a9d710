-- The lines of a print are those that it was printed from.
use Rattle.std.proofs.Common.{◌≡◌, ℕ, zero, suc, ◌/◌, ◌%◌, ◌<◌, ◌^◌, Bool, true, false, not, ◌&&◌, List, [], ◌∷◌, ◌++◌, codes, get_or, map, refl, sym, ap, ◌∙◌}
use Rattle.std.proofs.lemmas.Bool.{true≢false}
use Rattle.std.specs.List.{flat_map, list_all, AllByRecursion}
use Rattle.script_text.proofs.Cuts.{all-append}
use Rattle.text_out.specs.Decimal.{natural_of}
use Rattle.text_out.specs.Hex.{hex_of}
use Rattle.script_model.specs.ScriptLines.{opening, piece, input_end, input_fault, resting, turn_of_conn, turn_of_worker, turn_of_outcome, takes_most, blocks, fails}
use Rattle.script_text.specs.TextLines.{is_line_end, text_lines}
use Rattle.script_text.specs.LineForms.{SaidLine, runs, rules_so}
use Rattle.script_text.specs.Printing.{said_text, line_said}
use Rattle.script_text.proofs.Cuts.{IsFree, line_in_front}
use Rattle.script_text.proofs.Numbers.{natural_line}
use Rattle.script_text.proofs.Written.{IsWritable}

-- no byte is a newline
abbrev IsOneLine : List ℕ → Type 0
IsOneLine text = IsFree is_line_end text

joined : (xs ys : List ℕ) → IsOneLine xs → IsOneLine ys → IsOneLine (xs ++ ys)
joined xs ys a b = all-append (λ b. is_line_end b ≡ false) xs ys a b

at_place : (xs : List ℕ) (n : ℕ) → IsOneLine xs → is_line_end (get_or xs n 0) ≡ false
at_place [] n free = refl
at_place (x ∷ xs) zero free = free.0
at_place (x ∷ xs) (suc n) free = at_place xs n free.1

-- a text that passes the test is one line
one_by : (b : ℕ) (word : List ℕ) (test : Bool) → is_line_end b ≡ test → (list_all (λ x. not (is_line_end x)) word ≡ true → IsOneLine word)
    → (not test && list_all (λ x. not (is_line_end x)) word) ≡ true → IsOneLine (b ∷ word)
one_by b word true is rest e = absurd (true≢false (sym e))
one_by b word false is rest e = (is, rest e)

letters : (word : List ℕ) → list_all (λ x. not (is_line_end x)) word ≡ true → IsOneLine word
letters [] e = tt
letters (b ∷ word) e = one_by b word (is_line_end b) refl (letters word) e

digits : IsOneLine (codes "0123456789abcdef")
digits = letters (codes "0123456789abcdef") refl

hex_line : (bytes : List ℕ) → IsOneLine (hex_of bytes)
hex_line [] = tt
hex_line (b ∷ bytes) = (at_place (codes "0123456789abcdef") (b / 16) digits, (at_place (codes "0123456789abcdef") (b % 16) digits, hex_line bytes))

-- a word of letters in front
numbered : (word : List ℕ) (n : ℕ) → IsOneLine word → n < 2 ^ 32 → IsOneLine (word ++ natural_of n)
numbered word n free small = joined word (natural_of n) free (natural_line n small)

with_last : (word last : List ℕ) (n : ℕ) → IsOneLine word → IsOneLine last → n < 2 ^ 32 → IsOneLine (word ++ (natural_of n ++ 32 ∷ last))
with_last word last n free behind small = joined word (natural_of n ++ 32 ∷ last) free (joined (natural_of n) (32 ∷ last) (natural_line n small) (refl, behind))

said_line : (said : SaidLine) → IsWritable said → IsOneLine (said_text said)
said_line (runs opening) can = letters (codes "open") refl
said_line (runs (piece c bytes)) can = with_last (codes "data ") (hex_of bytes) c (letters (codes "data ") refl) (hex_line bytes) can.0
said_line (runs (input_end c)) can = numbered (codes "end ") c (letters (codes "end ") refl) can
said_line (runs (input_fault c)) can = numbered (codes "readfail ") c (letters (codes "readfail ") refl) can
said_line (runs resting) can = letters (codes "rest") refl
said_line (runs (turn_of_conn c)) can = numbered (codes "loop ") c (letters (codes "loop ") refl) can
said_line (runs (turn_of_worker w)) can = numbered (codes "work ") w (letters (codes "work ") refl) can
said_line (runs turn_of_outcome) can = letters (codes "collect") refl
said_line (rules_so c (takes_most count)) can = with_last (codes "write ") (natural_of count) c (letters (codes "write ") refl) (natural_line count can.1.1) can.0
said_line (rules_so c blocks) can = numbered (codes "block ") c (letters (codes "block ") refl) can.0
said_line (rules_so c fails) can = numbered (codes "writefail ") c (letters (codes "writefail ") refl) can.0

-- the lines of what was printed
pub printed_lines : (saids : List SaidLine) → AllByRecursion IsWritable saids → text_lines (flat_map line_said saids) ≡ map said_text saids
printed_lines [] can = refl
printed_lines (said ∷ saids) can =
    line_in_front (said_text said) (flat_map line_said saids) (said_line said can.0)
    ∙ ap (λ lines. said_text said ∷ lines) (printed_lines saids can.1)
