-- A type means one kind at most.
use Rattle.std.proofs.Common.{◌≡◌, ℕ, zero, suc, Option, None, Some, slice_get, refl, ap, sym, ◌∙◌}
use Rattle.std.specs.Option.{option_and_then, option_map}
use Rattle.idl_include.specs.TypeExpr.{TypeExpr, base_expr, name_expr, map_expr, set_expr, list_expr}
use Rattle.idl_include.specs.Declarations.{TypedefDecl}
use Rattle.idl_include.specs.Program.{Program}
use Rattle.idl_include.specs.Numbering.{Filed, typedefs_of}
use Rattle.idl_include.specs.Names.{NamedType, an_alias, an_enum, a_struct, type_named}
use Rattle.schema.specs.PlainKind.{PlainKind, kind_enum, kind_struct, kind_map, kind_set, kind_list}
use Rattle.check_model.specs.Resolved.{base_kind, named_kind, map_kind, kind_by, alias_kind, TypeMeans}
use Rattle.check_model.proofs.FirstOnes.{somes, none_some}

-- where both are there, they are the same
abbrev pub Agree : Option PlainKind → Option PlainKind → Type 0
Agree a b = (j k : PlainKind) → a ≡ Some j → b ≡ Some k → j ≡ k

same_agrees : (a : Option PlainKind) → Agree a a
same_agrees a j k e f = somes j k (sym e ∙ f)

maps_agree : (a b c d : Option PlainKind) → Agree a c → Agree b d → Agree (map_kind a b) (map_kind c d)
maps_agree (Some a) (Some b) (Some c) (Some d) p q j k e f =
    sym (somes (kind_map a b) j e) ∙ (λ i. kind_map (p a c refl refl i) (q b d refl refl i)) ∙ somes (kind_map c d) k f
maps_agree (Some a) (Some b) (Some c) None p q j k e f = absurd (none_some k f)
maps_agree (Some a) (Some b) None (Some d) p q j k e f = absurd (none_some k f)
maps_agree (Some a) (Some b) None None p q j k e f = absurd (none_some k f)
maps_agree (Some a) None c d p q j k e f = absurd (none_some j e)
maps_agree None (Some b) c d p q j k e f = absurd (none_some j e)
maps_agree None None c d p q j k e f = absurd (none_some j e)

wrapped_agree : (g : PlainKind → PlainKind) (a b : Option PlainKind) → Agree a b → Agree (option_map g a) (option_map g b)
wrapped_agree g (Some a) (Some b) p j k e f = sym (somes (g a) j e) ∙ ap g (p a b refl refl) ∙ somes (g b) k f
wrapped_agree g (Some a) None p j k e f = absurd (none_some k f)
wrapped_agree g None b p j k e f = absurd (none_some j e)

names_agree : (a b : ℕ → Option PlainKind) → ((n : ℕ) → Agree (a n) (b n)) → (o : Option NamedType)
    → Agree (option_and_then (named_kind a) o) (option_and_then (named_kind b) o)
names_agree a b p None j k e f = absurd (none_some j e)
names_agree a b p (Some (an_alias n)) j k e f = p n j k e f
names_agree a b p (Some (an_enum n)) j k e f = same_agrees (Some (kind_enum n)) j k e f
names_agree a b p (Some (a_struct n)) j k e f = same_agrees (Some (kind_struct n)) j k e f

kinds_agree : (a b : ℕ → Option PlainKind) → ((n : ℕ) → Agree (a n) (b n)) → (program : Program) (file : ℕ) (t : TypeExpr)
    → Agree (kind_by a program file t) (kind_by b program file t)
kinds_agree a b p program file (base_expr base) = same_agrees (Some (base_kind base))
kinds_agree a b p program file (name_expr name) = names_agree a b p (type_named program file name.text)
kinds_agree a b p program file (map_expr key value) =
    maps_agree (kind_by a program file key) (kind_by a program file value) (kind_by b program file key) (kind_by b program file value)
    (kinds_agree a b p program file key) (kinds_agree a b p program file value)
kinds_agree a b p program file (set_expr member) =
    wrapped_agree kind_set (kind_by a program file member) (kind_by b program file member) (kinds_agree a b p program file member)
kinds_agree a b p program file (list_expr element) =
    wrapped_agree kind_list (kind_by a program file element) (kind_by b program file element) (kinds_agree a b p program file element)

found_agree : (a b : Filed TypedefDecl → Option PlainKind) → ((t : Filed TypedefDecl) → Agree (a t) (b t)) → (o : Option (Filed TypedefDecl))
    → Agree (option_and_then a o) (option_and_then b o)
found_agree a b p None j k e f = absurd (none_some j e)
found_agree a b p (Some t) j k e f = p t j k e f

aliases_agree : (program : Program) (m n number : ℕ) → Agree (alias_kind program m number) (alias_kind program n number)
unfolding alias_kind
aliases_agree program zero n number j k e f = absurd (none_some j e)
aliases_agree program (suc m) zero number j k e f = absurd (none_some k f)
aliases_agree program (suc m) (suc n) number j k e f =
    found_agree (λ t. kind_by (alias_kind program m) program t.file t.item.type) (λ t. kind_by (alias_kind program n) program t.file t.item.type)
    (λ t. kinds_agree (alias_kind program m) (alias_kind program n) (aliases_agree program m n) program t.file t.item.type)
    (slice_get (typedefs_of program) number) j k e f

pub one_meaning : (program : Program) (file : ℕ) (t : TypeExpr) (j k : PlainKind) → TypeMeans program file t j → TypeMeans program file t k → j ≡ k
one_meaning program file t j k p q =
    kinds_agree (alias_kind program p.0) (alias_kind program q.0) (aliases_agree program p.0 q.0) program file t j k p.1 q.1
