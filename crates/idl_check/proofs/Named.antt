-- Where loading stops there is a kind: it never stops for want of memory of the lexer or the parser.
use Rattle.std.proofs.Common.{◌≡◌, ◌≢◌, ℕ, zero, suc, Bool, true, false, cond, nat_le, List, [], ◌∷◌, ◌++◌, length, Option, Some, None, refl, sym, subst}
use Rattle.std.specs.Prelude.{⊤}
use Rattle.std.specs.Str.{bytes_eq, is_utf8}
use Rattle.std.specs.List.{list_any, position_from}
use Rattle.streams.specs.Files.{File, content_of}
use Rattle.idl_token.specs.declared.LexKind.{LexKind}
use Rattle.idl_token.specs.declared.LexKind.TheVariants as lex
use Rattle.idl_token.specs.declared.terminal.Terminal.{Terminal}
use Rattle.idl_token.specs.declared.terminal.Terminal.TheVariants as word
use Rattle.idl_token.specs.Terminals.{same}
use Rattle.idl_token.specs.Limits.{longest_idl_text}
use Rattle.idl_token.proofs.SomeOutcome.{no_want}
use Rattle.idl_parser.specs.declared.ParseKind.TheVariants as parse
use Rattle.idl_parser.specs.Phrases.{Lexeme}
use Rattle.idl_parser.specs.Faults.{kind_at, fault_kind}
use Rattle.idl_include.specs.Written.{Written}
use Rattle.idl_include.specs.FileNames.{base_name, included_name}
use Rattle.idl_include.specs.Decoded.{declarations_of, includes_of}
use Rattle.idl_include.specs.Program.{SourceFile, Program, base_of_file}
use Rattle.idl_include.specs.Readings.{LoadFlawKind, absent, too_long, bad_name, lexed_badly, parsed_badly, includes_itself, same_base, too_many, FileReading, read_as, unread, IsTextReadAs, IsReadWithin, IsHeldReadAs, IsReaderOf}
use Rattle.idl_include.specs.Loading.{most_files, LoadFlaw, Loaded, loaded, stopped, and_then, IncludeCase, refused_include, loaded_before, new_file, is_among, new_include, begun_or, include_case, linked, load_include, load_includes, load_read, load_within, load_file, program_of}
use Rattle.idl_check.specs.declared.kinds.IdlFaultKind.{IdlFaultKind}
use Rattle.idl_check.specs.declared.kinds.IdlFaultKind.TheVariants as kinds
use Rattle.idl_check.specs.FaultKinds.{kind_of_loading}

-- a flaw of loading has a kind
abbrev pub HasKind : LoadFlawKind → Type 0
HasKind flaw = (kind : IdlFaultKind) × (kind_of_loading flaw ≡ Some kind)

of_lexer : (is : LexKind) → is ≢ lex.NoMemory → HasKind (lexed_badly is)
of_lexer lex.BadByte other = (kinds.BadByte, refl)
of_lexer lex.OpenLiteral other = (kinds.OpenLiteral, refl)
of_lexer lex.OpenComment other = (kinds.OpenComment, refl)
of_lexer lex.BadEscape other = (kinds.BadEscape, refl)
of_lexer lex.BigNumber other = (kinds.BigNumber, refl)
of_lexer lex.NoMemory other = absurd (other refl)

left_out : (b : Bool) → HasKind (parsed_badly (cond b parse.Refused parse.Found))
left_out true = (kinds.Refused, refl)
left_out false = (kinds.Found, refl)

of_symbol : (deep : Bool) (what : Terminal) → HasKind (parsed_badly (kind_at deep what))
of_symbol true what = (kinds.TooDeep, refl)
of_symbol false what = left_out (same what word.Refused)

of_parser : (deep : Bool) (rest : List Lexeme) → HasKind (parsed_badly (fault_kind deep rest))
of_parser deep [] = of_symbol deep word.Identifier
of_parser deep (t ∷ rest) = of_symbol deep t.what

-- so has one of a file that can't be read
abbrev pub IsNamed : FileReading → Type 0
IsNamed (read_as tree) = ⊤
IsNamed (unread at kind) = HasKind kind

of_text : (text : List ℕ) (reading : FileReading) → IsTextReadAs text reading → IsNamed reading
of_text text (read_as tree) h = tt
of_text text (unread at (lexed_badly kind)) h = of_lexer kind (no_want text (record { at = at; kind = kind }) h)
of_text text (unread at (parsed_badly kind)) h =
    subst (λ k. HasKind (parsed_badly k)) (sym h.first.kind) (of_parser h.first.too_deep h.first.rest)
of_text text (unread at absent) h = absurd h
of_text text (unread at too_long) h = absurd h
of_text text (unread at bad_name) h = absurd h
of_text text (unread at includes_itself) h = absurd h
of_text text (unread at same_base) h = absurd h
of_text text (unread at too_many) h = absurd h

of_limited : (within : Bool) (text : List ℕ) (reading : FileReading) → IsReadWithin within text reading → IsNamed reading
of_limited true text reading h = of_text text reading h
of_limited false text reading h = subst IsNamed (sym h) (kinds.TooLong, refl)

of_held : (held : Option (List ℕ)) (reading : FileReading) → IsHeldReadAs held reading → IsNamed reading
of_held None reading h = subst IsNamed (sym h) (kinds.Absent, refl)
of_held (Some text) reading h = of_limited (nat_le (length text) longest_idl_text) text reading h

-- and one at which loading stops
abbrev pub EndsNamed : Loaded → Type 0
EndsNamed (loaded files) = ⊤
EndsNamed (stopped flaw) = HasKind flaw.kind

then_named : (l : Loaded) (next : Program → Loaded) → EndsNamed l → ((files : Program) → EndsNamed (next files)) → EndsNamed (and_then l next)
then_named (loaded files) next h k = k files
then_named (stopped flaw) next h k = h

abbrev pub CaseNamed : IncludeCase → Type 0
CaseNamed (refused_include flaw) = HasKind flaw
CaseNamed (loaded_before number) = ⊤
CaseNamed new_file = ⊤

either_named : (b : Bool) (x y : IncludeCase) → CaseNamed x → CaseNamed y → CaseNamed (cond b x y)
either_named true x y h k = h
either_named false x y h k = k

begun_named : (o : Option ℕ) (c : IncludeCase) → CaseNamed c → CaseNamed (begun_or o c)
begun_named (Some number) c h = tt
begun_named None c h = h

case_named : (is_name : Bool) (above : List (List ℕ)) (files : Program) (name : List ℕ) → CaseNamed (include_case is_name above files name)
unfolding include_case
case_named false above files name = (kinds.BadName, refl)
case_named true above files name =
    let fresh = either_named (list_any (λ (file : SourceFile). bytes_eq (base_of_file file) (base_name name)) files) (refused_include same_base) new_file
    (kinds.SameBase, refl) tt in
    let number = position_from (λ (file : SourceFile). bytes_eq file.name name) 0 files in
    either_named (is_among name above) (refused_include includes_itself) (begun_or number (new_include files name)) (kinds.Cycle, refl)
    (begun_named number (new_include files name) fresh)

include_named : (enter : Program → Loaded) → ((files : Program) → EndsNamed (enter files)) → (flaw : LoadFlaw) (of : ℕ) (c : IncludeCase) (files : Program)
    → CaseNamed c → EndsNamed (load_include enter flaw of c files)
include_named enter entered flaw of (refused_include kind) files h = h
include_named enter entered flaw of (loaded_before number) files h = tt
include_named enter entered flaw of new_file files h =
    then_named (enter files) (λ more. loaded (linked of (length files) more)) (entered files) (λ more. tt)

includes_named : (is_name : List ℕ → Bool) (enter : List ℕ → Program → Loaded) → ((name : List ℕ) (files : Program) → EndsNamed (enter name files))
    → (above : List (List ℕ)) (file : List ℕ) (of : ℕ) (wanted : List Written) (files : Program)
    → EndsNamed (load_includes is_name enter above file of wanted files)
includes_named is_name enter entered above file of [] files = tt
includes_named is_name enter entered above file of (w ∷ more) files =
    let name = included_name file w.text in
    let flaw : LoadFlaw = record { file = file; at = w.at; kind = too_many } in
    let meant = include_case (is_name w.text) above files name in
    then_named (load_include (enter name) flaw of meant files) (λ next. load_includes is_name enter above file of more next)
    (include_named (enter name) (entered name) flaw of meant files (case_named (is_name w.text) above files name))
    (λ next. includes_named is_name enter entered above file of more next)

read_named : (is_name : List ℕ → Bool) (enter : List ℕ → Program → Loaded) → ((name : List ℕ) (files : Program) → EndsNamed (enter name files))
    → (above : List (List ℕ)) (name : List ℕ) (reading : FileReading) (files : Program) → IsNamed reading
    → EndsNamed (load_read is_name enter above name reading files)
read_named is_name enter entered above name (unread at kind) files h = h
read_named is_name enter entered above name (read_as tree) files h =
    includes_named is_name enter entered above name (length files) (includes_of tree)
    (files ++ record { name = name; declarations = declarations_of tree; includes = [] } ∷ [])

within_named : (room : Bool) (is_name : List ℕ → Bool) (enter : List ℕ → Program → Loaded) → ((name : List ℕ) (files : Program) → EndsNamed (enter name files))
    → (above : List (List ℕ)) (name : List ℕ) (reading : FileReading) (files : Program) → IsNamed reading
    → EndsNamed (load_within room is_name enter above name reading files)
within_named false is_name enter entered above name reading files h = (kinds.TooMany, refl)
within_named true is_name enter entered above name reading files h = read_named is_name enter entered above name reading files h

file_named : (is_name : List ℕ → Bool) (reader : List ℕ → FileReading) → ((name : List ℕ) → IsNamed (reader name))
    → (levels : ℕ) (above : List (List ℕ)) (name : List ℕ) (files : Program) → EndsNamed (load_file is_name reader levels above name files)
unfolding load_file
file_named is_name reader named zero above name files = (kinds.TooMany, refl)
file_named is_name reader named (suc left) above name files =
    within_named (nat_le (suc (length files)) most_files) is_name (load_file is_name reader left (name ∷ above))
    (λ other more. file_named is_name reader named left (name ∷ above) other more) (name ∷ above) name (reader name) files (named name)

pub program_named : (files : List File) (reader : List ℕ → FileReading) (main : List ℕ) → IsReaderOf files reader → EndsNamed (program_of reader main)
unfolding program_of
program_named files reader main is =
    file_named is_utf8 reader (λ name. of_held (content_of files name) (reader name) (is name)) (suc most_files) [] main []
