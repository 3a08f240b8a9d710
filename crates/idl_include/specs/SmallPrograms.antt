-- Small documents, files and programs, for examples. Each stands on one line, so a place is a column.
use Rattle.std.specs.Prelude.{ℕ, ℤ, pos, ◌+◌, Bool, true, false, codes, List, [], ◌∷◌, Option, Some, None, if◌then◌else◌}
use Rattle.std.specs.Str.{bytes_eq}
use Rattle.idl_token.specs.declared.Place.{Place}
use Rattle.idl_token.specs.declared.terminal.Terminal.TheVariants as word
use Rattle.idl_parser.specs.declared.tree.Base.TheVariants as base
use Rattle.idl_parser.specs.declared.tree.Need.TheVariants as need
use Rattle.idl_parser.specs.declared.tree.StructKind.TheVariants as kind
use Rattle.idl_parser.specs.Phrases.{Node, none, word as word_node, text, number, given, pair, placed}
use Rattle.idl_include.specs.Written.{Written}
use Rattle.idl_parser.specs.Unplaced.{nowhere}
use Rattle.idl_include.specs.TypeExpr.{TypeExpr, base_expr, name_expr, list_expr}
use Rattle.idl_include.specs.ConstExpr.{ConstExpr, int_const, name_const, list_const, map_const, no_consts, const_item, no_entries}
use Rattle.idl_include.specs.Declarations.{FieldDecl, FunctionDecl, EnumValueDecl, Declaration, of_const, of_typedef, of_enum, of_struct_decl, of_service}
use Rattle.idl_include.specs.Program.{Program}
use Rattle.idl_include.specs.Readings.{FileReading, read_as, unread, absent}

-- a column of the one line
abbrev pub column : ℕ → Place
column n = record { line = 1; column = n }

-- a name at a column
abbrev pub written_at : List ℕ → ℕ → Written
written_at name n = record { text = name; at = column n }

-- the tree of `struct S { 1: i8 a = 200 }`
abbrev pub struct_tree : Node
struct_tree =
    pair none (pair (pair (word_node word.Struct (column 1)) (pair (text word.Identifier (codes "S") (column 8)) (pair
    (placed (column 12) (pair (given (number (pos 1) (column 12))) (pair none (pair (word_node word.I8 (column 15))
    (pair (text word.Identifier (codes "a") (column 18)) (given (number (pos 200) (column 22)))))))) none))) none)

-- a field without a word about its presence
abbrev pub small_field : ℕ → ℕ → TypeExpr → Written → Option ConstExpr → FieldDecl
small_field at id type name default = record { at = column at; id = Some (pos id); need = need.Default; type = type; name = name; default = default }

-- a struct of these fields
abbrev pub small_struct : List FieldDecl → Declaration
small_struct fields = of_struct_decl (record { name = written_at (codes "S") 8; kind = kind.Struct; fields = fields })

-- a program of one file
abbrev pub one_file : List Declaration → Program
one_file declarations = record { name = codes "a.thrift"; declarations = declarations; includes = [] } ∷ []

-- `struct S { 1: i8 a = 200 }`
abbrev pub narrow : Program
narrow = one_file (small_struct (small_field 12 1 (base_expr base.I8) (written_at (codes "a") 18) (Some (int_const (pos 200) (column 22))) ∷ []) ∷ [])

-- `struct S { 1: i32 a 1: i32 b }`
abbrev pub doubled_id : Program
doubled_id =
    one_file (small_struct (small_field 12 1 (base_expr base.I32) (written_at (codes "a") 19) None ∷ small_field 21 1 (base_expr base.I32) (written_at (codes "b") 28) None ∷ []) ∷ [])

-- `struct S { 1: S s = {} }`
abbrev pub takes_itself : Program
takes_itself = one_file (small_struct (small_field 12 1 (name_expr (written_at (codes "S") 15)) (written_at (codes "s") 17) (Some (map_const (column 21) no_entries)) ∷ []) ∷ [])

-- `const i32 A = B const list<i32> B = [A]`
abbrev pub crossed : Program
crossed = one_file (of_const (record { name = written_at (codes "A") 11; type = base_expr base.I32; value = name_const (written_at (codes "B") 15) })
    ∷ of_const (record {
      name = written_at (codes "B") 33;
      type = list_expr (base_expr base.I32);
      value = list_const (column 37) (const_item (name_const (written_at (codes "A") 38)) no_consts);
    }) ∷ [])

-- `[A]` at column 21
abbrev pub list_of_a : ConstExpr
list_of_a = list_const (column 21) (const_item (name_const (written_at (codes "A") 22)) no_consts)

-- `const list<i32> A = [A]`
abbrev pub lists_itself : Program
lists_itself = one_file (of_const (record { name = written_at (codes "A") 17; type = list_expr (base_expr base.I32); value = list_of_a }) ∷ [])

-- `enum E { X = 4, Y } const E C = E.Y`
abbrev pub named_number : Program
named_number = one_file (of_enum (record { name = written_at (codes "E") 6; values = record { name = written_at (codes "X") 10; number = Some (pos 4) } ∷ record { name = written_at (codes "Y") 17; number = None } ∷ [] })
    ∷ of_const (record { name = written_at (codes "C") 29; type = name_expr (written_at (codes "E") 27); value = name_const (written_at (codes "E.Y") 33) }) ∷ [])

-- the tree of a document of one include
abbrev pub including : List ℕ → Node
including name = pair (pair (pair (word_node word.Include (column 1)) (text word.Literal name (column 9))) none) none

-- a reader of two files in a folder, of which each may include the other
abbrev pub two_files : Node → Node → List ℕ → FileReading
two_files a b name =
    if bytes_eq name (codes "x/a.thrift") then read_as a
    else if bytes_eq name (codes "x/b.thrift") then read_as b
    else unread nowhere absent

-- a field with this number, or none
abbrev pub with_id : Option ℤ → FieldDecl
with_id id = record { at = nowhere; id = id; need = need.Default; type = base_expr base.Bool; name = written_at (codes "f") 1; default = None }

-- a value of an enum with this number, or none
abbrev pub with_number : Option ℤ → EnumValueDecl
with_number n = record { name = written_at (codes "v") 1; number = n }

-- each literal is a name
abbrev pub any_name : List ℕ → Bool
any_name literal = true

-- `typedef list<T> T`
abbrev pub aliases_itself : Program
aliases_itself = one_file (of_typedef (record { name = written_at (codes "T") 17; type = list_expr (name_expr (written_at (codes "T") 14)) }) ∷ [])

-- a function without arguments and result
abbrev pub small_function : List ℕ → ℕ → FunctionDecl
small_function name at = record { at = column at; oneway = false; result = None; name = written_at name (at + 5); arguments = []; throws = [] }

-- `service A { void f() } service B extends A { void f() }`
abbrev pub inherits_twice : Program
inherits_twice = one_file (of_service (record { name = written_at (codes "A") 9; parent = None; functions = small_function (codes "f") 13 ∷ [] })
    ∷ of_service (record { name = written_at (codes "B") 32; parent = Some (written_at (codes "A") 42); functions = small_function (codes "f") 46 ∷ [] }) ∷ [])

-- `service A extends A {}`
abbrev pub extends_itself : Program
extends_itself = one_file (of_service (record { name = written_at (codes "A") 9; parent = Some (written_at (codes "A") 19); functions = [] }) ∷ [])

-- `typedef X U struct T {} exception X {}`
abbrev pub named_kinds : Program
named_kinds = one_file (of_typedef (record { name = written_at (codes "U") 11; type = name_expr (written_at (codes "X") 9) })
    ∷ of_struct_decl (record { name = written_at (codes "T") 20; kind = kind.Struct; fields = [] })
    ∷ of_struct_decl (record { name = written_at (codes "X") 35; kind = kind.Exception; fields = [] }) ∷ [])
