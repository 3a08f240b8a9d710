-- A tree keeps no more than its symbols, and its names and literals are of them.
use Rattle.std.proofs.Common.{◌≡◌, inl, inr, ℕ, zero, suc, ◌+◌, ◌≤◌, true, List, ◌∷◌, length, ap, sym, subst, arith}
use Rattle.std.specs.List.{AllByRecursion}
use Rattle.idl_token.specs.declared.terminal.Terminal.{Terminal}
use Rattle.idl_token.specs.declared.terminal.Terminal.TheVariants as word
use Rattle.idl_token.specs.Limits.{longest_idl_text}
use Rattle.idl_token.specs.Terminals.{same}
use Rattle.idl_parser.specs.Phrases.{Lexeme, Node, none, word as word_node, flag, text, number, given, pair, placed, Phrase, one, deep, chain, either, maybe, many, marked, Times, Derives}
use Rattle.idl_check.specs.Identifiers.{IsIdentifier}

-- how many symbols a tree keeps
abbrev pub leaves : Node → ℕ
leaves none = 0
leaves (word_node k at) = 1
leaves (flag k) = 1
leaves (text k bytes at) = 1
leaves (number z at) = 1
leaves (given x) = leaves x
leaves (pair x y) = leaves x + leaves y
leaves (placed at x) = leaves x

-- the names in a tree are identifiers, and names and literals are no longer than a text
abbrev pub HasTexts : Node → Type 0
HasTexts none = Unit {0}
HasTexts (word_node k at) = Unit {0}
HasTexts (flag k) = Unit {0}
HasTexts (text k bytes at) = (same k word.Identifier ≡ true → IsIdentifier bytes) × (length bytes ≤ longest_idl_text)
HasTexts (number z at) = Unit {0}
HasTexts (given x) = HasTexts x
HasTexts (pair x y) = HasTexts x × HasTexts y
HasTexts (placed at x) = HasTexts x

-- a symbol that is a name is an identifier, and none is longer than a text
abbrev pub IsTextSymbol : Lexeme → Type 0
IsTextSymbol t = (same t.what word.Identifier ≡ true → IsIdentifier t.bytes) × (length t.bytes ≤ longest_idl_text)

-- of a symbol no more is kept than it has
pub record KeepsOne (k : Terminal) (f : Lexeme → Node) : Type 0 where
  pub names : (t : Lexeme) → same t.what k ≡ true → IsTextSymbol t → HasTexts (f t)
  pub few : (t : Lexeme) → leaves (f t) ≤ 1

-- the same of what is made of two trees, and of one
pub record KeepsBoth (join : Node → Node → Node) : Type 0 where
  pub names : (a b : Node) → HasTexts a → HasTexts b → HasTexts (join a b)
  pub few : (a b : Node) → leaves (join a b) ≤ leaves a + leaves b

pub record KeepsPart (f : Node → Node) : Type 0 where
  pub names : (a : Node) → HasTexts a → HasTexts (f a)
  pub few : (a : Node) → leaves (f a) ≤ leaves a

-- the same of all parts of a phrase
abbrev pub Keeps : Phrase → Type 0
Keeps (one k f) = KeepsOne k f
Keeps (deep k) = Unit {0}
Keeps (chain join p q) = KeepsBoth join × Keeps p × Keeps q
Keeps (either p q) = Keeps p × Keeps q
Keeps (maybe f p) = KeepsPart f × Keeps p
Keeps (many join p) = KeepsBoth join × Keeps p
Keeps (marked p) = Keeps p

-- what a tree has of some symbols, of which these are left
pub record Kept (ts : List Lexeme) (x : Node) (rest : List Lexeme) : Type 0 where
  pub names : HasTexts x
  pub left : AllByRecursion IsTextSymbol rest
  pub few : leaves x + length rest ≤ length ts

-- a phrase's symbols, wherever they stand
abbrev KeptBy : (List Lexeme → Node → List Lexeme → Type 0) → Type 0
KeptBy P = (ts : List Lexeme) (x : Node) (rest : List Lexeme) → P ts x rest → AllByRecursion IsTextSymbol ts → Kept ts x rest

nothing_kept : (ts : List Lexeme) (x : Node) (rest : List Lexeme) → ts ≡ rest → x ≡ none → AllByRecursion IsTextSymbol ts → Kept ts x rest
nothing_kept ts x rest split tree all =
    let no_leaves : leaves x ≡ 0 = ap leaves tree in
    let as_long : length ts ≡ length rest = ap length split in
    record { names = subst HasTexts (sym tree) tt; left = subst (AllByRecursion IsTextSymbol) split all; few = omega arith }

one_kept : (k : Terminal) (f : Lexeme → Node) → KeepsOne k f → (ts : List Lexeme) (x : Node) (rest : List Lexeme) (t : Lexeme) → same t.what k ≡ true → ts ≡ t ∷ rest → x ≡ f t
    → AllByRecursion IsTextSymbol ts → Kept ts x rest
one_kept k f h ts x rest t is split tree all =
    let here = subst (AllByRecursion IsTextSymbol) split all in
    let as_many : leaves x ≡ leaves (f t) = ap leaves tree in
    let as_long : length ts ≡ suc (length rest) = ap length split in
    let most : leaves (f t) ≤ 1 = h.few t in
    record { names = subst HasTexts (sym tree) (h.names t is here.0); left = here.1; few = omega arith }

both_kept : (join : Node → Node → Node) → KeepsBoth join → (ts : List Lexeme) (x : Node) (rest mid : List Lexeme) (a b : Node) → x ≡ join a b → Kept ts a mid → Kept mid b rest → Kept ts x rest
both_kept join h ts x rest mid a b tree first second =
    let as_many : leaves x ≡ leaves (join a b) = ap leaves tree in
    let most : leaves (join a b) ≤ leaves a + leaves b = h.few a b in
    record { names = subst HasTexts (sym tree) (h.names a b first.names second.names); left = second.left; few = omega arith }

part_kept : (f : Node → Node) → KeepsPart f → (ts : List Lexeme) (x : Node) (rest : List Lexeme) (a : Node) → x ≡ f a → Kept ts a rest → Kept ts x rest
part_kept f h ts x rest a tree inner =
    let as_many : leaves x ≡ leaves (f a) = ap leaves tree in
    let most : leaves (f a) ≤ leaves a = h.few a in
    record { names = subst HasTexts (sym tree) (h.names a inner.names); left = inner.left; few = omega arith }

times_kept : (join : Node → Node → Node) → KeepsBoth join → (P : List Lexeme → Node → List Lexeme → Type 0) → KeptBy P → (count : ℕ) → KeptBy (Times join P count)
times_kept join h P by zero ts x rest d all = nothing_kept ts x rest d.0 d.1 all
times_kept join h P by (suc count) ts x rest d all =
    let first = by ts d.1 d.0 d.3 all in
    both_kept join h ts x rest d.0 d.1 d.2 d.5 first (times_kept join h P by count d.0 d.2 rest d.4 first.left)

pub kept : (p : Phrase) → Keeps p → KeptBy (Derives p)
kept (one k f) h ts x rest d all = one_kept k f h ts x rest d.0 d.1 d.2 d.3 all
kept (deep k) h ts x rest d all = absurd d
kept (chain join p q) h ts x rest d all =
    let first = kept p h.1 ts d.1 d.0 d.3 all in
    both_kept join h.0 ts x rest d.0 d.1 d.2 d.5 first (kept q h.2 d.0 d.2 rest d.4 first.left)
kept (either p q) h ts x rest d all =
    elim d as (λ _. Kept ts x rest) [ inl l ↦ kept p h.0 ts x rest l all | inr r ↦ kept q h.1 ts x rest r all ]
kept (maybe f p) h ts x rest d all = elim d as (λ _. Kept ts x rest) [
  | inl l ↦ nothing_kept ts x rest l.0 l.1 all
  | inr r ↦ part_kept f h.0 ts x rest r.0 r.2 (kept p h.1 ts r.0 rest r.1 all)
]
kept (many join p) h ts x rest d all = times_kept join h.0 (Derives p) (kept p h.1) d.0 ts x rest d.1 all
kept (marked p) h ts x rest d all =
    let inner = kept p h ts d.0 rest d.1 all in
    let as_many : leaves x ≡ leaves d.0 = ap leaves d.2 in
    record { names = subst HasTexts (sym d.2) inner.names; left = inner.left; few = let most : leaves d.0 + length rest ≤ length ts = inner.few in omega arith }
