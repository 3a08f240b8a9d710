-- A type means an exception where its kind is one.
use Rattle.std.proofs.Common.{◌≡◌, ◌↔◌, ℕ, Bool, true, false, List, slice_get, Option, None, Some, refl, ap, sym, ◌∙◌, true≢false}
use Rattle.std.specs.Prelude.{IsTrue}
use Rattle.std.specs.Option.{option_map_or}
use Rattle.idl_parser.specs.declared.tree.StructKind.{StructKind}
use Rattle.idl_parser.specs.declared.tree.StructKind.TheVariants as word
use Rattle.idl_include.specs.TypeExpr.{TypeExpr}
use Rattle.idl_include.specs.Declarations.{StructDecl}
use Rattle.idl_include.specs.Program.{Program}
use Rattle.idl_include.specs.Numbering.{Filed, structs_of}
use Rattle.schema.specs.PlainKind.{PlainKind, kind_bool, kind_i8, kind_i16, kind_i32, kind_i64, kind_double, kind_text, kind_binary, kind_uuid, kind_enum, kind_struct, kind_map, kind_set, kind_list}
use Rattle.check_model.specs.Resolved.{TypeMeans}
use Rattle.check_model.specs.Passes.{MeansException}
use Rattle.check_model.proofs.Meanings.{one_meaning}
use Rattle.idl_types.specs.Exceptions.{is_exception_word, is_exception_kind}

word_is : (w : StructKind) → is_exception_word w ≡ true → w ≡ word.Exception
word_is word.Struct e = absurd (true≢false (sym e))
word_is word.Union e = absurd (true≢false (sym e))
word_is word.Exception e = refl

-- the exception of a number
abbrev ExceptionAt : List (Filed StructDecl) → ℕ → Type 0
ExceptionAt structs number = (s : Filed StructDecl) × (slice_get structs number ≡ Some s) × (s.item.kind ≡ word.Exception)

there : (structs : List (Filed StructDecl)) (number : ℕ) (o : Option (Filed StructDecl)) → slice_get structs number ≡ o
    → option_map_or (λ (s : Filed StructDecl). is_exception_word s.item.kind) o false ≡ true → ExceptionAt structs number
there structs number None at e = absurd (true≢false (sym e))
there structs number (Some s) at e = (s, at, word_is s.item.kind e)

names_one : (program : Program) (file : ℕ) (t : TypeExpr) (k : PlainKind) → TypeMeans program file t k → is_exception_kind (structs_of program) k ≡ true → MeansException program file t
names_one program file t (kind_struct number) means e =
    let h = there (structs_of program) number (slice_get (structs_of program) number) refl e in (number, means, h.0, h.1, h.2)
names_one program file t kind_bool means e = absurd (true≢false (sym e))
names_one program file t kind_i8 means e = absurd (true≢false (sym e))
names_one program file t kind_i16 means e = absurd (true≢false (sym e))
names_one program file t kind_i32 means e = absurd (true≢false (sym e))
names_one program file t kind_i64 means e = absurd (true≢false (sym e))
names_one program file t kind_double means e = absurd (true≢false (sym e))
names_one program file t kind_uuid means e = absurd (true≢false (sym e))
names_one program file t kind_text means e = absurd (true≢false (sym e))
names_one program file t kind_binary means e = absurd (true≢false (sym e))
names_one program file t (kind_enum _) means e = absurd (true≢false (sym e))
names_one program file t (kind_map _ _) means e = absurd (true≢false (sym e))
names_one program file t (kind_set _) means e = absurd (true≢false (sym e))
names_one program file t (kind_list _) means e = absurd (true≢false (sym e))

pub kind_tells : (program : Program) (structs : List (Filed StructDecl)) (file : ℕ) (t : TypeExpr) (k : PlainKind) (b : Bool) → structs ≡ structs_of program
    → TypeMeans program file t k → b ≡ is_exception_kind structs k → IsTrue b ↔ MeansException program file t
kind_tells program structs file t k b all means is =
    let same : b ≡ is_exception_kind (structs_of program) k = is ∙ ap (λ ss. is_exception_kind ss k) all in (
      (λ e. names_one program file t k means (sym same ∙ e)),
      (λ h.
          same
          ∙ ap (is_exception_kind (structs_of program)) (one_meaning program file t k (kind_struct h.0) means h.1)
          ∙ ap (λ (o : Option (Filed StructDecl)). option_map_or (λ (s : Filed StructDecl). is_exception_word s.item.kind) o false) h.3
          ∙ ap is_exception_word h.4),
    )
