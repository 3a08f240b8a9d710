-- Phrases that a text spells: what was read as one is printed as such a text.
use Rattle.std.proofs.Common.{◌≡◌, ℕ, zero, suc, Bool, true, List, [], ◌∷◌, ◌++◌, map, codes, refl, sym, ap, ◌∙◌, subst, inl, inr}
use Rattle.std.specs.List.{flat_map}
use mathlib.Core.List.{append-nil}
use Rattle.std.proofs.lemmas.Bool.{eq-eqb}
use Rattle.std.proofs.lemmas.List.{append_assoc}
use Rattle.idl_token.specs.declared.Place.{Place}
use Rattle.idl_token.specs.Classes.{is_white}
use Rattle.idl_token.specs.Wholes.{sound, whole_of}
use Rattle.idl_token.specs.declared.terminal.Terminal.{Terminal}
use Rattle.idl_token.specs.Terminals.{code, same}
use Rattle.idl_parser.specs.Phrases.{Lexeme, Node, none, word, flag, text as leaf, given, pair, placed, place_at, Phrase, one, chain, either, maybe, many, marked, Times, Derives}
use Rattle.idl_parser.specs.Leaves.{sign, kept_word, flagged, text_leaf, neither, left_tree, right_tree}
use Rattle.idl_parser.specs.Symbols.{terminal_of}
use Rattle.idl_parser.specs.Trees.{row}
use Rattle.idl_parser.specs.Unplaced.{nowhere}
use Rattle.idl_printer.specs.Unplaced.{without_places}
use Rattle.idl_printer.specs.Printed.{behind_comma, separated}
use Rattle.idl_parser.proofs.Sound.{cut}
use Rattle.idl_token.specs.Spellings.{BareToken, parted, any, SpellsToken}
use Rattle.idl_token.proofs.Spellings.{joined, nothing as spells_nothing, white as spells_white, word as spells_word}
use Rattle.idl_printer.proofs.Marks.{Marked, marked_split, AreSound}

-- a text spells a phrase with a tree, places aside
pub record IsText (P : List ℕ → Bool) (p : Phrase) (x : Node) (text : List ℕ) : Type 0 where
  pub marks : List BareToken
  pub spells : SpellsToken P text marks
  pub stands : (ts rest : List Lexeme) → Marked ts marks rest → (n : Node) × Derives p ts n rest × (without_places n ≡ without_places x)

-- the same of a phrase with any tree
pub record IsWord (P : List ℕ → Bool) (p : Phrase) (text : List ℕ) : Type 0 where
  pub marks : List BareToken
  pub spells : SpellsToken P text marks
  pub stands : (ts rest : List Lexeme) → Marked ts marks rest → (n : Node) × Derives p ts n rest

-- what was read as this phrase with this tree is spelled by the text
pub record Prints (P : List ℕ → Bool) (p : Phrase) (x : Node) (text : List ℕ) : Type 0 where
  pub print : (ts rest : List Lexeme) → AreSound ts → Derives p ts x rest → IsText P p x text

-- what stands behind the second text may stand behind the first with the second
abbrev pub Glue : (List ℕ → Bool) → (List ℕ → Bool) → List ℕ → Type 0
Glue P Q second = (more : List ℕ) → Q more ≡ true → P (second ++ more) ≡ true

-- the phrase may be left out
pub record IsNothing (p : Phrase) : Type 0 where
  pub left_out : (ts : List Lexeme) → (y : Node) × Derives p ts y ts

sound_rest : (front rest : List Lexeme) → AreSound (front ++ rest) → AreSound rest
sound_rest [] rest h = h
sound_rest (t ∷ front) rest h = sound_rest front rest h.1

pub sound_behind : (p : Phrase) (ts : List Lexeme) (x : Node) (rest : List Lexeme) → Derives p ts x rest → AreSound ts → AreSound rest
sound_behind p ts x rest h sounds =
    let c = cut p ts x rest h in
    sound_rest c.front rest (subst AreSound c.is sounds)

-- other texts of the same symbols
pub prints_as : {P Q : List ℕ → Bool} {p : Phrase} {x : Node} {first second : List ℕ} → ((ms : List BareToken) → SpellsToken P first ms → SpellsToken Q second ms)
    → Prints P p x first → Prints Q p x second
prints_as as_well a_text = record {
  print = λ ts rest sounds h.
      let t = a_text.print ts rest sounds h in
      record { marks = t.marks; spells = as_well t.marks t.spells; stands = t.stands };
}

pub word_as : {P Q : List ℕ → Bool} {p : Phrase} {first second : List ℕ} → ((ms : List BareToken) → SpellsToken P first ms → SpellsToken Q second ms)
    → IsWord P p first → IsWord Q p second
word_as as_well a_text = record { marks = a_text.marks; spells = as_well a_text.marks a_text.spells; stands = a_text.stands }

-- white space in front and behind
white_front : (P : List ℕ → Bool) (text : List ℕ) (b : ℕ) → is_white b ≡ true → (ms : List BareToken) → SpellsToken P text ms → SpellsToken P (b ∷ text) ms
white_front P text b h ms u = joined any P (b ∷ []) text [] ms (spells_white b h) u (λ more p. refl)

white_end : (P : List ℕ → Bool) (text : List ℕ) (b : ℕ) → is_white b ≡ true → ((more : List ℕ) → P (b ∷ more) ≡ true) → (ms : List BareToken)
    → SpellsToken P text ms → SpellsToken any (text ++ b ∷ []) ms
white_end P text b h e ms u =
    subst (λ ns. SpellsToken any (text ++ b ∷ []) ns) (append-nil ms) (joined P any text (b ∷ []) ms [] u (spells_white b h) (λ more p. e more))

anywhere : (P : List ℕ → Bool) (text : List ℕ) (ms : List BareToken) → SpellsToken any text ms → SpellsToken P text ms
anywhere P text ms u more p = u more refl

pub prints_front : {P : List ℕ → Bool} {p : Phrase} {x : Node} {text : List ℕ} (b : ℕ) → is_white b ≡ true → Prints P p x text → Prints P p x (b ∷ text)
prints_front {P} {p} {x} {text} b h u = prints_as (white_front P text b h) u

pub prints_end : {P : List ℕ → Bool} {p : Phrase} {x : Node} {text : List ℕ} (b : ℕ) → is_white b ≡ true → ((more : List ℕ) → P (b ∷ more) ≡ true)
    → Prints P p x text → Prints any p x (text ++ b ∷ [])
prints_end {P} {p} {x} {text} b h e u = prints_as (white_end P text b h e) u

pub prints_anywhere : {P : List ℕ → Bool} {p : Phrase} {x : Node} {text : List ℕ} → Prints any p x text → Prints P p x text
prints_anywhere {P} {p} {x} {text} u = prints_as (anywhere P text) u

pub word_front : {P : List ℕ → Bool} {p : Phrase} {text : List ℕ} (b : ℕ) → is_white b ≡ true → IsWord P p text → IsWord P p (b ∷ text)
word_front {P} {p} {text} b h u = word_as (white_front P text b h) u

pub word_end : {P : List ℕ → Bool} {p : Phrase} {text : List ℕ} (b : ℕ) → is_white b ≡ true → ((more : List ℕ) → P (b ∷ more) ≡ true)
    → IsWord P p text → IsWord any p (text ++ b ∷ [])
word_end {P} {p} {text} b h e u = word_as (white_end P text b h e) u

-- one phrase and then another
text_pair : {P Q : List ℕ → Bool} {p q : Phrase} {a b : Node} {first second : List ℕ} → IsText P p a first → IsText Q q b second
    → Glue P Q second → IsText Q (chain pair p q) (pair a b) (first ++ second)
text_pair {P} {Q} {p} {q} {a} {b} {first} {second} a_text b_text glue = record {
  marks = a_text.marks ++ b_text.marks;
  spells = joined P Q first second a_text.marks b_text.marks a_text.spells b_text.spells glue;
  stands = λ ts rest m.
      let s = marked_split a_text.marks b_text.marks ts rest m in
      let l = a_text.stands ts s.0 s.1 in
      let r = b_text.stands s.0 rest s.2 in
      (pair l.0 r.0, (s.0, l.0, r.0, l.1, r.1, refl), λ i. pair (l.2 i) (r.2 i));
}

pub prints_pair : {P Q : List ℕ → Bool} {p q : Phrase} {a b : Node} {first second : List ℕ} → Prints P p a first → Prints Q q b second
    → Glue P Q second → Prints Q (chain pair p q) (pair a b) (first ++ second)
prints_pair {P} {Q} {p} {q} {a} {b} a_text b_text glue = record {
  print = λ ts rest sounds h.
      let e : pair a b ≡ pair h.1 h.2 = h.5 in
      let left : h.1 ≡ a = cc in
      let right : h.2 ≡ b = cc in
      text_pair (a_text.print ts h.0 sounds (subst (λ x. Derives p ts x h.0) left h.3))
      (b_text.print h.0 rest (sound_behind p ts h.1 h.0 h.3 sounds) (subst (λ x. Derives q h.0 x rest) right h.4)) glue;
}

pub prints_after : {P Q : List ℕ → Bool} {p q : Phrase} {x : Node} {first second : List ℕ} → IsWord P p first → Prints Q q x second
    → Glue P Q second → Prints Q (chain right_tree p q) x (first ++ second)
prints_after {P} {Q} {p} {q} {x} {first} {second} a_text b_text glue = record {
  print = λ ts rest sounds h.
      let t = b_text.print h.0 rest (sound_behind p ts h.1 h.0 h.3 sounds) (subst (λ y. Derives q h.0 y rest) (sym h.5) h.4) in
      record {
        marks = a_text.marks ++ t.marks;
        spells = joined P Q first second a_text.marks t.marks a_text.spells t.spells glue;
        stands = λ ts rest m.
            let s = marked_split a_text.marks t.marks ts rest m in
            let l = a_text.stands ts s.0 s.1 in
            let r = t.stands s.0 rest s.2 in
            (r.0, (s.0, l.0, r.0, l.1, r.1, refl), r.2);
      };
}

pub prints_before : {P Q : List ℕ → Bool} {p q : Phrase} {x : Node} {first second : List ℕ} → Prints P p x first → IsWord Q q second
    → Glue P Q second → Prints Q (chain left_tree p q) x (first ++ second)
prints_before {P} {Q} {p} {q} {x} {first} {second} a_text b_text glue = record {
  print = λ ts rest sounds h.
      let t = a_text.print ts h.0 sounds (subst (λ y. Derives p ts y h.0) (sym h.5) h.3) in
      record {
        marks = t.marks ++ b_text.marks;
        spells = joined P Q first second t.marks b_text.marks t.spells b_text.spells glue;
        stands = λ ts rest m.
            let s = marked_split t.marks b_text.marks ts rest m in
            let l = t.stands ts s.0 s.1 in
            let r = b_text.stands s.0 rest s.2 in
            (l.0, (s.0, l.0, r.0, l.1, r.1, refl), l.2);
      };
}

-- what may be left out is left out
pub prints_quiet : {P : List ℕ → Bool} {p q : Phrase} {x : Node} {text : List ℕ} → Prints P p x text → IsNothing q → Prints P (chain left_tree p q) x text
prints_quiet {P} {p} {q} a_text nothing = record {
  print = λ ts rest sounds h.
      let t = a_text.print ts h.0 sounds (subst (λ y. Derives p ts y h.0) (sym h.5) h.3) in
      record {
        marks = t.marks;
        spells = t.spells;
        stands = λ ts rest m.
            let l = t.stands ts rest m in
            let r = nothing.left_out rest in
            (l.0, (rest, l.0, r.0, l.1, r.1, refl), l.2);
      };
}

pub prints_quiet_front : {P : List ℕ → Bool} {p q : Phrase} {x : Node} {text : List ℕ} → IsNothing p → Prints P q x text → Prints P (chain right_tree p q) x text
prints_quiet_front {P} {p} {q} nothing a_text = record {
  print = λ ts rest sounds h.
      let t = a_text.print h.0 rest (sound_behind p ts h.1 h.0 h.3 sounds) (subst (λ y. Derives q h.0 y rest) (sym h.5) h.4) in
      record {
        marks = t.marks;
        spells = t.spells;
        stands = λ ts rest m.
            let l = nothing.left_out ts in
            let r = t.stands ts rest m in
            (r.0, (ts, l.0, r.0, l.1, r.1, refl), r.2);
      };
}

pub nothing_maybe : {f : Node → Node} {p : Phrase} → IsNothing (maybe f p)
nothing_maybe = record { left_out = λ ts. (none, inl (refl, refl)) }

pub nothing_both : {f : Node → Node → Node} {p q : Phrase} → IsNothing p → IsNothing q → IsNothing (chain f p q)
nothing_both {f} a_text b_text = record {
  left_out = λ ts.
      let l = a_text.left_out ts in
      let r = b_text.left_out ts in
      (f l.0 r.0, (ts, l.0, r.0, l.1, r.1, refl));
}

pub word_quiet : {P : List ℕ → Bool} {p q : Phrase} {text : List ℕ} → IsWord P p text → IsNothing q → IsWord P (chain neither p q) text
word_quiet a_text nothing = record {
  marks = a_text.marks;
  spells = a_text.spells;
  stands = λ ts rest m.
      let l = a_text.stands ts rest m in
      let r = nothing.left_out rest in
      (none, (rest, l.0, r.0, l.1, r.1, refl));
}

pub quiet_word : {P : List ℕ → Bool} {p q : Phrase} {text : List ℕ} → IsNothing p → IsWord P q text → IsWord P (chain neither p q) text
quiet_word nothing a_text = record {
  marks = a_text.marks;
  spells = a_text.spells;
  stands = λ ts rest m.
      let l = nothing.left_out ts in
      let r = a_text.stands ts rest m in
      (none, (ts, l.0, r.0, l.1, r.1, refl));
}

pub word_maybe : {P : List ℕ → Bool} {f : Node → Node} {p : Phrase} {text : List ℕ} → IsWord P p text → IsWord P (maybe f p) text
word_maybe {P} {f} a_text = record {
  marks = a_text.marks;
  spells = a_text.spells;
  stands = λ ts rest m. let l = a_text.stands ts rest m in (f l.0, inr (l.0, l.1, refl));
}

pub word_either : {P : List ℕ → Bool} {p q : Phrase} {text : List ℕ} → IsWord P p text → IsWord P (either p q) text
word_either a_text = record {
  marks = a_text.marks;
  spells = a_text.spells;
  stands = λ ts rest m. let l = a_text.stands ts rest m in (l.0, inl l.1);
}

-- one phrase or another, whichever was read
text_left : {P : List ℕ → Bool} {p q : Phrase} {x : Node} {text : List ℕ} → IsText P p x text → IsText P (either p q) x text
text_left a_text = record {
  marks = a_text.marks;
  spells = a_text.spells;
  stands = λ ts rest m. let l = a_text.stands ts rest m in (l.0, inl l.1, l.2);
}

text_right : {P : List ℕ → Bool} {p q : Phrase} {x : Node} {text : List ℕ} → IsText P q x text → IsText P (either p q) x text
text_right a_text = record {
  marks = a_text.marks;
  spells = a_text.spells;
  stands = λ ts rest m. let l = a_text.stands ts rest m in (l.0, inr l.1, l.2);
}

pub prints_either : {P : List ℕ → Bool} {p q : Phrase} {x : Node} {text : List ℕ} → Prints P p x text → Prints P q x text → Prints P (either p q) x text
prints_either a_text b_text = record {
  print = λ ts rest sounds h.
      elim h [
        | inl l ↦ text_left (a_text.print ts rest sounds l)
        | inr r ↦ text_right (b_text.print ts rest sounds r)
      ];
}

pub prints_never : {P : List ℕ → Bool} {p : Phrase} {x : Node} {text : List ℕ} → ((ts rest : List Lexeme) → Derives p ts x rest → ⊥) → Prints P p x text
prints_never none_reads = record { print = λ ts rest sounds h. absurd (none_reads ts rest h) }

-- a part that may be missing
text_given : {P : List ℕ → Bool} {p : Phrase} {x : Node} {text : List ℕ} → IsText P p x text → IsText P (maybe given p) (given x) text
text_given a_text = record {
  marks = a_text.marks;
  spells = a_text.spells;
  stands = λ ts rest m. let l = a_text.stands ts rest m in (given l.0, inr (l.0, l.1, refl), ap given l.2);
}

pub prints_given : {P : List ℕ → Bool} {p : Phrase} {x : Node} {text : List ℕ} → Prints P p x text → Prints P (maybe given p) (given x) text
prints_given {P} {p} {x} a_text = record {
  print = λ ts rest sounds h.
      elim h [
        | inl l ↦ let e : given x ≡ none = l.1 in absurd (cc)
        | inr r ↦
            let e : given x ≡ given r.0 = r.2 in
            let is : r.0 ≡ x = cc in
            text_given (a_text.print ts rest sounds (subst (λ y. Derives p ts y rest) is r.1))
      ];
}

pub prints_missing : {P : List ℕ → Bool} {p : Phrase} → Prints P (maybe given p) none []
prints_missing = record {
  print = λ ts rest sounds h. record {
    marks = [];
    spells = spells_nothing _;
    stands = λ ts rest m. (none, inl (m, refl), refl);
  };
}

-- a phrase with the place of its first symbol
pub prints_marked : {P : List ℕ → Bool} {p : Phrase} {x : Node} {text : List ℕ} (at : Place) → Prints P p x text → Prints P (marked p) (placed at x) text
prints_marked {P} {p} {x} at a_text = record {
  print = λ ts rest sounds h.
      let e : placed at x ≡ placed (place_at ts) h.0 = h.2 in
      let is : h.0 ≡ x = cc in
      let t = a_text.print ts rest sounds (subst (λ y. Derives p ts y rest) is h.1) in
      record {
        marks = t.marks;
        spells = t.spells;
        stands = λ ts rest m. let l = t.stands ts rest m in (placed (place_at ts) l.0, (l.0, l.1, refl), ap (placed nowhere) l.2);
      };
}

-- a word of a terminal
pub record IsWordOf (P : List ℕ → Bool) (k : Terminal) (text : List ℕ) : Type 0 where
  pub mark : BareToken
  pub what : terminal_of mark.kind mark.bytes ≡ k
  pub spells : SpellsToken P text (mark ∷ [])

pub word_of_as : {P Q : List ℕ → Bool} {k : Terminal} {first second : List ℕ} → ((ms : List BareToken) → SpellsToken P first ms → SpellsToken Q second ms)
    → IsWordOf P k first → IsWordOf Q k second
word_of_as as_well a_text = record { mark = a_text.mark; what = a_text.what; spells = as_well (a_text.mark ∷ []) a_text.spells }

pub word_of_front : {P : List ℕ → Bool} {k : Terminal} {text : List ℕ} (b : ℕ) → is_white b ≡ true → IsWordOf P k text → IsWordOf P k (b ∷ text)
word_of_front {P} {k} {text} b h u = word_of_as (white_front P text b h) u

pub word_of_end : {P : List ℕ → Bool} {k : Terminal} {text : List ℕ} (b : ℕ) → is_white b ≡ true → ((more : List ℕ) → P (b ∷ more) ≡ true)
    → IsWordOf P k text → IsWordOf any k (text ++ b ∷ [])
word_of_end {P} {k} {text} b h e u = word_of_as (white_end P text b h e) u

same_as : (k j : Terminal) → k ≡ j → same k j ≡ true
same_as k j e = eq-eqb (code k) (code j) (ap code e)

-- one symbol
record OneOf (k : Terminal) (ts rest : List Lexeme) : Type 0 where
  at : Lexeme
  alike : same at.what k ≡ true
  is : ts ≡ at ∷ rest

one_of : (k : Terminal) (m : BareToken) (ts rest : List Lexeme) → terminal_of m.kind m.bytes ≡ k → Marked ts (m ∷ []) rest → OneOf k ts rest
one_of k m ts rest what h = record {
  at = h.0;
  alike = same_as h.0.what k (h.3 ∙ what);
  is = h.2 ∙ ap (λ r. h.0 ∷ r) h.5;
}

pub sign_word : {P : List ℕ → Bool} {k : Terminal} {text : List ℕ} → IsWordOf P k text → IsWord P (sign k) text
sign_word {P} {k} w = record {
  marks = w.mark ∷ [];
  spells = w.spells;
  stands = λ ts rest m. let o = one_of k w.mark ts rest w.what m in (none, (o.at, o.alike, o.is, refl));
}

kept_text : {P : List ℕ → Bool} {k : Terminal} {text : List ℕ} (at : Place) → IsWordOf P k text → IsText P (kept_word k) (word k at) text
kept_text {P} {k} at w = record {
  marks = w.mark ∷ [];
  spells = w.spells;
  stands = λ ts rest m. let o = one_of k w.mark ts rest w.what m in (word k o.at.place, (o.at, o.alike, o.is, refl), refl);
}

pub prints_kept : {P : List ℕ → Bool} {text : List ℕ} (k j : Terminal) (at : Place) → IsWordOf P j text → Prints P (kept_word k) (word j at) text
prints_kept {P} {text} k j at w = record {
  print = λ ts rest sounds h.
      let e : word j at ≡ word k h.0.place = h.3 in
      let is : j ≡ k = cc in
      subst (λ i. IsText P (kept_word i) (word j at) text) is (kept_text at w);
}

flagged_text : {P : List ℕ → Bool} {k : Terminal} {text : List ℕ} → IsWordOf P k text → IsText P (flagged k) (flag k) text
flagged_text {P} {k} w = record {
  marks = w.mark ∷ [];
  spells = w.spells;
  stands = λ ts rest m. let o = one_of k w.mark ts rest w.what m in (flag k, (o.at, o.alike, o.is, refl), refl);
}

pub prints_flagged : {P : List ℕ → Bool} {text : List ℕ} (k j : Terminal) → IsWordOf P j text → Prints P (flagged k) (flag j) text
prints_flagged {P} {text} k j w = record {
  print = λ ts rest sounds h.
      let e : flag j ≡ flag k = h.3 in
      let is : j ≡ k = cc in
      subst (λ i. IsText P (flagged i) (flag j) text) is (flagged_text w);
}

-- a symbol that is kept as it stands
pub prints_text : (k j : Terminal) (bytes : List ℕ) (at : Place) → Prints parted (one k (text_leaf k)) (leaf j bytes at) bytes
prints_text k j bytes at = record {
  print = λ ts rest sounds h.
      let e : leaf j bytes at ≡ leaf k h.0.bytes h.0.place = h.3 in
      let is_kind : k ≡ j = cc in
      let is_bytes : h.0.bytes ≡ bytes = cc in
      let s = (subst AreSound h.2 sounds).0 in
      let whole : whole_of bytes ≡ sound s.0 = subst (λ b. whole_of b ≡ sound s.0) is_bytes s.1 in
      let what : terminal_of s.0 bytes ≡ h.0.what = subst (λ b. terminal_of s.0 b ≡ h.0.what) is_bytes s.2 in
      record {
        marks = record { kind = s.0; bytes = bytes } ∷ [];
        spells = spells_word bytes s.0 whole;
        stands = λ ts rest m. (
          leaf k m.0.bytes m.0.place,
          (m.0, subst (λ w. same w k ≡ true) (sym (m.3 ∙ what)) h.1, m.2 ∙ ap (λ r. m.0 ∷ r) m.5, refl),
          λ i. leaf (is_kind i) (m.4 i) nowhere,
        );
      };
}

-- a row of phrases
record RowIn (p : Phrase) (ts : List Lexeme) (a b : Node) (rest : List Lexeme) : Type 0 where
  mid : List Lexeme
  first : Derives p ts a mid
  more : Derives (many pair p) mid b rest

row_in : (p : Phrase) (ts : List Lexeme) (a b : Node) (rest : List Lexeme) (count : ℕ) → Times pair (Derives p) count ts (pair a b) rest → RowIn p ts a b rest
row_in p ts a b rest zero h = let e : pair a b ≡ none = h.1 in absurd (cc)
row_in p ts a b rest (suc count) h =
    let e : pair a b ≡ pair h.1 h.2 = h.5 in
    let left : h.1 ≡ a = cc in
    let right : h.2 ≡ b = cc in
    record {
      mid = h.0;
      first = subst (λ x. Derives p ts x h.0) left h.3;
      more = (count, subst (λ x. Times pair (Derives p) count h.0 x rest) right h.4);
    }

pub prints_empty : {P : List ℕ → Bool} {p : Phrase} → Prints P (many pair p) none []
prints_empty = record {
  print = λ ts rest sounds h. record {
    marks = [];
    spells = spells_nothing _;
    stands = λ ts rest m. (none, (zero, (m, refl)), refl);
  };
}

text_cons : {P Q : List ℕ → Bool} {p : Phrase} {a b : Node} {first second : List ℕ} → IsText P p a first → IsText Q (many pair p) b second
    → Glue P Q second → IsText Q (many pair p) (pair a b) (first ++ second)
text_cons {P} {Q} {p} {a} {b} {first} {second} a_text b_text glue = record {
  marks = a_text.marks ++ b_text.marks;
  spells = joined P Q first second a_text.marks b_text.marks a_text.spells b_text.spells glue;
  stands = λ ts rest m.
      let s = marked_split a_text.marks b_text.marks ts rest m in
      let l = a_text.stands ts s.0 s.1 in
      let r = b_text.stands s.0 rest s.2 in
      (pair l.0 r.0, (suc r.1.0, (s.0, l.0, r.0, l.1, r.1.1, refl)), λ i. pair (l.2 i) (r.2 i));
}

pub prints_cons : {P Q : List ℕ → Bool} {p : Phrase} {a b : Node} {first second : List ℕ} → Prints P p a first → Prints Q (many pair p) b second
    → Glue P Q second → Prints Q (many pair p) (pair a b) (first ++ second)
prints_cons {P} {Q} {p} {a} {b} a_text b_text glue = record {
  print = λ ts rest sounds h.
      let r = row_in p ts a b rest h.0 h.1 in
      text_cons (a_text.print ts r.mid sounds r.first) (b_text.print r.mid rest (sound_behind p ts a r.mid r.first sounds) r.more) glue;
}

-- a row of lines
pub prints_lines : {A : Type 0} (p : Phrase) (tree : A → Node) (line : A → List ℕ) → ((x : A) → Prints any p (tree x) (line x))
    → (xs : List A) → Prints any (many pair p) (row (map tree xs)) (flat_map line xs)
prints_lines p tree line each [] = prints_empty
prints_lines p tree line each (x ∷ xs) = prints_cons (each x) (prints_lines p tree line each xs) (λ more q. refl)

-- a row with commas between its items
pub prints_separated : {A : Type 0} (p : Phrase) (tree : A → Node) (item : A → List ℕ) → ((x : A) → Prints parted p (tree x) (item x))
    → ((x : A) → Prints any p (tree x) (item x ++ codes ", ")) → (xs : List A) → Prints parted (many pair p) (row (map tree xs)) (separated (map item xs))
prints_separated p tree item last other [] = prints_empty
prints_separated {A} p tree item last other (x ∷ xs) = go x xs
  where
    go : (x : A) (xs : List A) → Prints parted (many pair p) (pair (tree x) (row (map tree xs))) (item x ++ flat_map behind_comma (map item xs))
    go x [] = prints_cons (last x) prints_empty (λ more q. q)
    go x (y ∷ ys) =
        subst (λ t. Prints parted (many pair p) (pair (tree x) (row (map tree (y ∷ ys)))) t)
        (append_assoc (item x) (codes ", ") (item y ++ flat_map behind_comma (map item ys)))
        (prints_cons (other x) (go y ys) (λ more q. refl))
