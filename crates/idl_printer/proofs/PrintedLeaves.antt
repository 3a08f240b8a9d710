-- Names, numbers and literals, as they are printed.
use Rattle.std.proofs.Common.{◌≡◌, ℕ, ℤ, true, List, [], ◌∷◌, refl, sym, ap, ◌∙◌, subst}
use Rattle.std.specs.Prelude.{FitsSigned}
use Rattle.std.specs.Int.{w64}
use Rattle.text_out.specs.Decimal.{decimal_of}
use Rattle.idl_token.specs.declared.Place.{Place}
use Rattle.idl_token.specs.declared.TokenKind.TheVariants as kind
use Rattle.idl_token.specs.Spellings.{parted}
use Rattle.idl_token.proofs.Spellings.{word as spells_word}
use Rattle.idl_token.specs.declared.terminal.Terminal.{Terminal}
use Rattle.idl_token.specs.declared.terminal.Terminal.TheVariants as word
use Rattle.idl_token.specs.Terminals.{same}
use Rattle.idl_parser.specs.Unplaced.{nowhere}
use Rattle.idl_parser.specs.Phrases.{text as leaf, number}
use Rattle.idl_parser.specs.Leaves.{literal_bytes, int_number}
use Rattle.idl_parser.specs.Parts.{identifier, decimal, integer, literal}
use Rattle.idl_printer.specs.Printed.{literal_text}
use Rattle.idl_printer.proofs.Marks.{AreSound}
use Rattle.idl_printer.proofs.PrintedPhrases.{Prints, prints_text}
use Rattle.idl_printer.proofs.PrintedNumbers.{decimal_is_read, number_fits}
use Rattle.idl_printer.proofs.PrintedLiterals.{printed_literal, literal_back}

pub prints_identifier : (k : Terminal) (bytes : List ℕ) (at : Place) → Prints parted identifier (leaf k bytes at) bytes
prints_identifier k bytes at = prints_text word.Identifier k bytes at

pub prints_decimal : (k : Terminal) (bytes : List ℕ) (at : Place) → Prints parted decimal (leaf k bytes at) bytes
prints_decimal k bytes at = prints_text word.Double k bytes at

pub prints_literal : (k : Terminal) (bytes : List ℕ) (at : Place) → Prints parted literal (leaf k bytes at) (literal_text bytes)
prints_literal k bytes at = record {
  print = λ ts rest sounds h.
      let e : leaf k bytes at ≡ leaf word.Literal (literal_bytes h.0.bytes) h.0.place = h.3 in
      let is : word.Literal ≡ k = cc in
      record {
        marks = record { kind = kind.Literal; bytes = literal_text bytes } ∷ [];
        spells = spells_word (literal_text bytes) kind.Literal (printed_literal bytes);
        stands = λ ts rest m. (
          leaf word.Literal (literal_bytes m.0.bytes) m.0.place,
          (m.0, ap (λ w. same w word.Literal) m.3, m.2 ∙ ap (λ r. m.0 ∷ r) m.5, refl),
          λ i. leaf (is i) ((ap literal_bytes m.4 ∙ literal_back bytes) i) nowhere,
        );
      };
}

pub prints_integer : (z : ℤ) (at : Place) → Prints parted integer (number z at) (decimal_of z)
prints_integer z at = record {
  print = λ ts rest sounds h.
      let e : number z at ≡ number (int_number h.0.bytes) h.0.place = h.3 in
      let is : int_number h.0.bytes ≡ z = cc in
      let s = (subst AreSound h.2 sounds).0 in
      let fits = subst (FitsSigned w64) is (number_fits h.0.bytes s.0 s.1 (subst (λ w. same w word.Int ≡ true) (sym s.2) h.1)) in
      let t = decimal_is_read z fits in
      record {
        marks = record { kind = kind.Int; bytes = decimal_of z } ∷ [];
        spells = spells_word (decimal_of z) kind.Int t.whole;
        stands = λ ts rest m. (
          number (int_number m.0.bytes) m.0.place,
          (m.0, ap (λ w. same w word.Int) m.3, m.2 ∙ ap (λ r. m.0 ∷ r) m.5, refl),
          λ i. number ((ap int_number m.4 ∙ t.number) i) nowhere,
        );
      };
}
