-- What is kept of a symbol.
use Rattle.std.specs.Prelude.{ℕ, ℤ, pos, Bool, true, false, List, [], ◌∷◌, ◌==◌, ◌-◌, take, drop, length, codes, nat_eq, if◌then◌else◌}
use Rattle.std.specs.Cmp.Lexicographic.{pointwise}
use Rattle.idl_token.specs.Bytes as byte
use Rattle.idl_token.specs.Numbers.{int_of}
use Rattle.idl_token.specs.declared.terminal.Terminal.{Terminal}
use Rattle.idl_parser.specs.Phrases.{Lexeme, Node, none, word, flag, text, number, Phrase, one}

-- the byte that a letter behind a backslash stands for
abbrev pub escaped : ℕ → ℕ
escaped b = if b == byte.lower_n then byte.newline else if b == byte.lower_t then byte.tab else if b == byte.lower_r then byte.carriage_return else b

-- bytes with escapes resolved, the first of them taken by a backslash or not
abbrev pub unescaped : Bool → List ℕ → List ℕ
unescaped taken [] = []
unescaped true (b ∷ bytes) = escaped b ∷ unescaped false bytes
unescaped false (b ∷ bytes) = if b == byte.backslash then unescaped true bytes else b ∷ unescaped false bytes

-- the bytes between a literal's first and last byte, with escapes resolved (Thrift IDL, 'Literal')
unfoldable pub literal_bytes : List ℕ → List ℕ
literal_bytes bytes = unescaped false (take (length bytes - 2) (drop 1 bytes))

-- the words for truth stand for the numbers 1 and 0
unfoldable pub int_number : List ℕ → ℤ
int_number bytes =
    if pointwise nat_eq bytes (codes "true") then pos 1
    else if pointwise nat_eq bytes (codes "false") then pos 0
    else int_of bytes

-- nothing is kept
abbrev pub no_leaf : Lexeme → Node
no_leaf t = none

-- the symbol and its place are kept
abbrev pub word_leaf : Terminal → Lexeme → Node
word_leaf k t = word k t.place

-- the symbol, its bytes and its place are kept
abbrev pub text_leaf : Terminal → Lexeme → Node
text_leaf k t = text k t.bytes t.place

-- what a literal stands for is kept
abbrev pub literal_leaf : Terminal → Lexeme → Node
literal_leaf k t = text k (literal_bytes t.bytes) t.place

-- the number of an integer is kept
abbrev pub number_leaf : Lexeme → Node
number_leaf t = number (int_number t.bytes) t.place

-- a symbol of which nothing is kept
abbrev pub sign : Terminal → Phrase
sign k = one k no_leaf

-- a symbol that is kept as a word
abbrev pub kept_word : Terminal → Phrase
kept_word k = one k (word_leaf k)

-- of two parts none is kept
abbrev pub neither : Node → Node → Node
neither a b = none

-- of two parts the first is kept
abbrev pub left_tree : Node → Node → Node
left_tree a b = a

-- of two parts the second is kept
abbrev pub right_tree : Node → Node → Node
right_tree a b = b

-- of a part nothing is kept
abbrev pub dropped : Node → Node
dropped a = none

-- a symbol that is kept without its place
abbrev pub flag_leaf : Terminal → Lexeme → Node
flag_leaf k t = flag k

-- a symbol of which it is kept that it was there
abbrev pub flagged : Terminal → Phrase
flagged k = one k (flag_leaf k)
