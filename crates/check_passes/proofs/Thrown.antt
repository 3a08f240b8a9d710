-- Which types mean an exception.
use Rattle.std.proofs.Common.{◌≡◌, ℕ, Bool, true, false, List, slice_get, Option, None, Some, refl, ap, sym, subst, ◌∙◌, true≢false}
use Rattle.std.specs.Prelude.{◌↔◌, IsTrue, not, Result, Ok, Err, IfOk}
use Rattle.std.specs.Option.{option_and_then, option_map, option_map_or}
use Rattle.idl_parser.specs.declared.tree.Base.{Base}
use Rattle.idl_parser.specs.declared.tree.Base.TheVariants as base
use Rattle.idl_parser.specs.declared.tree.Struct.{Struct}
use Rattle.idl_parser.specs.declared.tree.StructKind.{StructKind}
use Rattle.idl_parser.specs.declared.tree.StructKind.TheVariants as kinds
use Rattle.idl_include.specs.Written.{Written}
use Rattle.idl_include.specs.TypeExpr.{TypeExpr, base_expr, name_expr, map_expr, set_expr, list_expr}
use Rattle.idl_include.specs.Declarations.{StructDecl}
use Rattle.idl_include.specs.Program.{Program}
use Rattle.idl_include.specs.Numbering.{Filed, structs_of}
use Rattle.idl_include.specs.Names.{an_alias, type_named}
use Rattle.idl_names.specs.declared.filed.InFile.{InFile}
use Rattle.idl_names.specs.FiledIn.{filed_structs}
use Rattle.schema.specs.declared.types.TypeDesc.{TypeDesc}
use Rattle.schema.specs.PlainKind.{PlainKind, kind_bool, kind_i8, kind_i16, kind_i32, kind_i64, kind_double, kind_text, kind_binary, kind_uuid, kind_enum, kind_struct, kind_map, kind_set, kind_list}
use Rattle.check_model.specs.Resolved.{base_kind, named_kind, map_kind, kind_by, alias_kind, TypeMeans}
use Rattle.check_model.specs.Passes.{MeansException}
use Rattle.check_model.proofs.FirstOnes.{somes, none_some}
use Rattle.check_model.proofs.Meanings.{one_meaning}
use Rattle.check_passes.specs.Right.{alias_known, AreMeanings, AreStructsOf}
use Rattle.check_passes.specs.Exceptions.{struct_number_in, type_name, IsStructMeant, names_exception, declares_exception}

-- ---- types that mean no struct

not_base : (b : Base) (k : ℕ) → base_kind b ≡ kind_struct k → ⊥
not_base base.Bool k e = cc
not_base base.Byte k e = cc
not_base base.I8 k e = cc
not_base base.I16 k e = cc
not_base base.I32 k e = cc
not_base base.I64 k e = cc
not_base base.Double k e = cc
not_base base.Uuid k e = cc
not_base base.String k e = cc
not_base base.Binary k e = cc

not_map : (a b : Option PlainKind) (k : ℕ) → map_kind a b ≡ Some (kind_struct k) → ⊥
not_map (Some a) (Some b) k e = cc
not_map (Some a) None k e = cc
not_map None b k e = cc

not_set : (o : Option PlainKind) (k : ℕ) → option_map kind_set o ≡ Some (kind_struct k) → ⊥
not_set (Some a) k e = cc
not_set None k e = cc

not_list : (o : Option PlainKind) (k : ℕ) → option_map kind_list o ≡ Some (kind_struct k) → ⊥
not_list (Some a) k e = cc
not_list None k e = cc

base_is_none : (program : Program) (file : ℕ) (b : Base) → IsStructMeant program file (base_expr b) None
base_is_none program file b k p = not_base b k (somes (base_kind b) (kind_struct k) p.1)

map_is_none : (program : Program) (file : ℕ) (key value : TypeExpr) → IsStructMeant program file (map_expr key value) None
map_is_none program file key value k p =
    not_map (kind_by (alias_kind program p.0) program file key) (kind_by (alias_kind program p.0) program file value) k p.1

set_is_none : (program : Program) (file : ℕ) (member : TypeExpr) → IsStructMeant program file (set_expr member) None
set_is_none program file member k p = not_set (kind_by (alias_kind program p.0) program file member) k p.1

list_is_none : (program : Program) (file : ℕ) (element : TypeExpr) → IsStructMeant program file (list_expr element) None
list_is_none program file element k p = not_list (kind_by (alias_kind program p.0) program file element) k p.1

-- a type that is no name means no struct
pub nameless_is_none : (program : Program) (file : ℕ) (type : TypeExpr) → type_name type ≡ None → IsStructMeant program file type None
nameless_is_none program file (base_expr b) e = base_is_none program file b
nameless_is_none program file (name_expr name) e = absurd (none_some name (sym e))
nameless_is_none program file (map_expr key value) e = map_is_none program file key value
nameless_is_none program file (set_expr member) e = set_is_none program file member
nameless_is_none program file (list_expr element) e = list_is_none program file element

pub named_is : (type : TypeExpr) (name : Written) → type_name type ≡ Some name → type ≡ name_expr name
named_is (base_expr b) name e = absurd (none_some name e)
named_is (name_expr other) name e = ap name_expr (somes other name e)
named_is (map_expr key value) name e = absurd (none_some name e)
named_is (set_expr member) name e = absurd (none_some name e)
named_is (list_expr element) name e = absurd (none_some name e)

-- ---- typedefs

-- the struct of a kind that a type means
of_kind : (program : Program) (file : ℕ) (type : TypeExpr) (j : PlainKind) → TypeMeans program file type j → IsStructMeant program file type (struct_number_in j)
of_kind program file type (kind_struct n) m = m
of_kind program file type kind_bool m = λ k p. let e = one_meaning program file type kind_bool (kind_struct k) m p in cc
of_kind program file type kind_i8 m = λ k p. let e = one_meaning program file type kind_i8 (kind_struct k) m p in cc
of_kind program file type kind_i16 m = λ k p. let e = one_meaning program file type kind_i16 (kind_struct k) m p in cc
of_kind program file type kind_i32 m = λ k p. let e = one_meaning program file type kind_i32 (kind_struct k) m p in cc
of_kind program file type kind_i64 m = λ k p. let e = one_meaning program file type kind_i64 (kind_struct k) m p in cc
of_kind program file type kind_double m = λ k p. let e = one_meaning program file type kind_double (kind_struct k) m p in cc
of_kind program file type kind_uuid m = λ k p. let e = one_meaning program file type kind_uuid (kind_struct k) m p in cc
of_kind program file type kind_text m = λ k p. let e = one_meaning program file type kind_text (kind_struct k) m p in cc
of_kind program file type kind_binary m = λ k p. let e = one_meaning program file type kind_binary (kind_struct k) m p in cc
of_kind program file type (kind_enum n) m = λ k p. let e = one_meaning program file type (kind_enum n) (kind_struct k) m p in cc
of_kind program file type (kind_map a b) m = λ k p. let e = one_meaning program file type (kind_map a b) (kind_struct k) m p in cc
of_kind program file type (kind_set a) m = λ k p. let e = one_meaning program file type (kind_set a) (kind_struct k) m p in cc
of_kind program file type (kind_list a) m = λ k p. let e = one_meaning program file type (kind_list a) (kind_struct k) m p in cc

-- the struct of what a typedef is known to mean
alias_meant : (program : Program) (file : ℕ) (name : Written) (n deep : ℕ) (kind : PlainKind) → type_named program file name.text ≡ Some (an_alias n)
    → alias_kind program deep n ≡ Some kind → IsStructMeant program file (name_expr name) (struct_number_in kind)
alias_meant program file name n deep kind named m =
    of_kind program file (name_expr name) kind (deep, ap (option_and_then (named_kind (alias_kind program deep))) named ∙ m)

pub alias_told : (program : Program) (file : ℕ) (name : Written) (n : ℕ) (aliases : List (Option TypeDesc)) (found : Option ℕ) → AreMeanings program aliases
    → type_named program file name.text ≡ Some (an_alias n) → option_map struct_number_in (alias_known aliases n) ≡ Some found
    → IsStructMeant program file (name_expr name) found
alias_told program file name n aliases found right named told = by (alias_known aliases n) refl told
  where
    by : (o : Option PlainKind) → alias_known aliases n ≡ o → option_map struct_number_in o ≡ Some found → IsStructMeant program file (name_expr name) found
    by None e f = absurd (none_some found f)
    by (Some kind) e f =
        let m = right n kind e in
        subst (IsStructMeant program file (name_expr name)) (somes (struct_number_in kind) found f) (alias_meant program file name n m.0 kind named m.1)

-- ---- exceptions

is_exception : (kind : StructKind) → names_exception kind ≡ true → kind ≡ kinds.Exception
is_exception kinds.Exception e = refl
is_exception kinds.Struct e = cc
is_exception kinds.Union e = cc

declared : (o : Option (Filed StructDecl)) → option_map_or declares_exception o false ≡ true
    → (s : Filed StructDecl) × (o ≡ Some s) × (s.item.kind ≡ kinds.Exception)
declared (Some s) e = (s, refl, is_exception s.item.kind e)
declared None e = cc

structs_apart : (j k : ℕ) → kind_struct j ≡ kind_struct k → j ≡ k
structs_apart j k e = cc

pub none_told : (program : Program) (file : ℕ) (type : TypeExpr) → IsStructMeant program file type None → IsTrue false ↔ MeansException program file type
none_told program file type none = (λ e. absurd (true≢false (sym e)), λ m. absurd (none m.0 m.1))

pub exception_told : (program : Program) (file : ℕ) (type : TypeExpr) (structs : List (InFile Struct)) (k : ℕ) (b : Bool) → AreStructsOf program structs
    → b ≡ option_map_or declares_exception (slice_get (filed_structs structs) k) false → IsStructMeant program file type (Some k)
    → IsTrue b ↔ MeansException program file type
exception_told program file type structs k b same told m = (onward, back)
  where
    here : b ≡ option_map_or declares_exception (slice_get (structs_of program) k) false
    here = told ∙ ap (λ (xs : List (Filed StructDecl)). option_map_or declares_exception (slice_get xs k) false) same

    onward : IsTrue b → MeansException program file type
    onward e =
        let d = declared (slice_get (structs_of program) k) (sym here ∙ e) in
        (k, m, d.0, d.1, d.2)

    back : MeansException program file type → IsTrue b
    back x =
        let number : x.0 ≡ k = structs_apart x.0 k (one_meaning program file type (kind_struct x.0) (kind_struct k) x.1 m) in
        let there : slice_get (structs_of program) k ≡ Some x.2 = ap (slice_get (structs_of program)) (sym number) ∙ x.3 in
        here ∙ ap (λ (o : Option (Filed StructDecl)). option_map_or declares_exception o false) there ∙ ap names_exception x.4

-- ---- answers

pub ok_more : {A E : Type 0} (r : Result A E) (P Q : A → Type 0) → ((x : A) → P x → Q x) → IfOk r P → IfOk r Q
ok_more (Ok x) P Q f h = f x h
ok_more (Err e) P Q f h = tt

pub not_told : {P : Type 0} (b : Bool) → (IsTrue b ↔ P) → IsTrue (not b) ↔ (P → ⊥)
not_told true h = (λ e. absurd (true≢false (sym e)), λ none. absurd (none (h.0 refl)))
not_told false h = (λ e p. true≢false (sym (h.1 p)), λ none. refl)
