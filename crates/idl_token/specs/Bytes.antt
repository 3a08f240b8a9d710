-- Bytes of ASCII by their names.
use Rattle.std.specs.Prelude.{ℕ}

-- tab
abbrev pub tab : ℕ
tab = 9

-- newline
abbrev pub newline : ℕ
newline = 10

-- carriage return
abbrev pub carriage_return : ℕ
carriage_return = 13

-- space
abbrev pub space : ℕ
space = 32

-- `"`
abbrev pub double_quote : ℕ
double_quote = 34

-- `#`
abbrev pub hash : ℕ
hash = 35

-- `&`
abbrev pub ampersand : ℕ
ampersand = 38

-- `'`
abbrev pub single_quote : ℕ
single_quote = 39

-- `(`
abbrev pub open_paren : ℕ
open_paren = 40

-- `)`
abbrev pub close_paren : ℕ
close_paren = 41

-- `*`
abbrev pub star : ℕ
star = 42

-- `+`
abbrev pub plus : ℕ
plus = 43

-- `,`
abbrev pub comma : ℕ
comma = 44

-- `-`
abbrev pub minus : ℕ
minus = 45

-- `.`
abbrev pub dot : ℕ
dot = 46

-- `/`
abbrev pub slash : ℕ
slash = 47

-- `0`
abbrev pub digit_0 : ℕ
digit_0 = 48

-- `:`
abbrev pub colon : ℕ
colon = 58

-- `;`
abbrev pub semicolon : ℕ
semicolon = 59

-- `<`
abbrev pub less : ℕ
less = 60

-- `=`
abbrev pub equals : ℕ
equals = 61

-- `>`
abbrev pub greater : ℕ
greater = 62

-- `E`
abbrev pub upper_e : ℕ
upper_e = 69

-- `[`
abbrev pub open_bracket : ℕ
open_bracket = 91

-- `\`
abbrev pub backslash : ℕ
backslash = 92

-- `]`
abbrev pub close_bracket : ℕ
close_bracket = 93

-- `_`
abbrev pub underscore : ℕ
underscore = 95

-- `a`
abbrev pub lower_a : ℕ
lower_a = 97

-- `e`
abbrev pub lower_e : ℕ
lower_e = 101

-- `n`
abbrev pub lower_n : ℕ
lower_n = 110

-- `r`
abbrev pub lower_r : ℕ
lower_r = 114

-- `t`
abbrev pub lower_t : ℕ
lower_t = 116

-- `x`
abbrev pub lower_x : ℕ
lower_x = 120

-- `{`
abbrev pub open_brace : ℕ
open_brace = 123

-- `}`
abbrev pub close_brace : ℕ
close_brace = 125
