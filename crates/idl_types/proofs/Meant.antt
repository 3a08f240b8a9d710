-- What is made where typedefs mean what is known of them is what the type means.
use Rattle.std.proofs.Common.{◌≡◌, ◌+◌, ◌≤◌, ℕ, zero, suc, Option, None, Some, List, slice_get, Result, Ok, Err, IfOk, refl, ap, ◌∙◌, arith}
use Rattle.std.specs.Option.{option_and_then, option_map}
use Rattle.idl_include.specs.TypeExpr.{TypeExpr, base_expr, name_expr, map_expr, set_expr, list_expr}
use Rattle.idl_include.specs.Declarations.{TypedefDecl}
use Rattle.idl_include.specs.Program.{Program}
use Rattle.idl_include.specs.Numbering.{Filed, typedefs_of}
use Rattle.idl_include.specs.Names.{NamedType, an_alias, an_enum, a_struct, type_named}
use Rattle.schema.specs.declared.types.TypeDesc.{TypeDesc}
use Rattle.schema.specs.PlainKind.{PlainKind, kind_of, kind_map, kind_set, kind_list}
use Rattle.check_model.specs.Resolved.{named_kind, map_kind, kind_by, alias_kind, TypeMeans}
use Rattle.check_model.proofs.FirstOnes.{somes, none_some}
use Rattle.idl_types.specs.Known.{known_kind, AreAliasTypes}

-- what the one knows the other knows
abbrev pub Keeps : Option PlainKind → Option PlainKind → Type 0
Keeps a b = (k : PlainKind) → a ≡ Some k → b ≡ Some k

maps_keep : (a b c d : Option PlainKind) → Keeps a c → Keeps b d → Keeps (map_kind a b) (map_kind c d)
maps_keep (Some a) (Some b) c d p q k e = (λ i. map_kind (p a refl i) (q b refl i)) ∙ e
maps_keep (Some a) None c d p q k e = absurd (none_some k e)
maps_keep None (Some b) c d p q k e = absurd (none_some k e)
maps_keep None None c d p q k e = absurd (none_some k e)

wrapped_keep : (g : PlainKind → PlainKind) (a b : Option PlainKind) → Keeps a b → Keeps (option_map g a) (option_map g b)
wrapped_keep g (Some a) b p k e = ap (option_map g) (p a refl) ∙ e
wrapped_keep g None b p k e = absurd (none_some k e)

names_keep : (a b : ℕ → Option PlainKind) → ((n : ℕ) → Keeps (a n) (b n)) → (o : Option NamedType)
    → Keeps (option_and_then (named_kind a) o) (option_and_then (named_kind b) o)
names_keep a b p None k e = absurd (none_some k e)
names_keep a b p (Some (an_alias n)) k e = p n k e
names_keep a b p (Some (an_enum n)) k e = e
names_keep a b p (Some (a_struct n)) k e = e

types_keep : (a b : ℕ → Option PlainKind) → ((n : ℕ) → Keeps (a n) (b n)) → (program : Program) (file : ℕ) (t : TypeExpr)
    → Keeps (kind_by a program file t) (kind_by b program file t)
types_keep a b p program file (base_expr base) k e = e
types_keep a b p program file (name_expr name) k e = names_keep a b p (type_named program file name.text) k e
types_keep a b p program file (map_expr key value) k e =
    maps_keep (kind_by a program file key) (kind_by a program file value) (kind_by b program file key) (kind_by b program file value)
    (types_keep a b p program file key) (types_keep a b p program file value) k e
types_keep a b p program file (set_expr member) k e =
    wrapped_keep kind_set (kind_by a program file member) (kind_by b program file member) (types_keep a b p program file member) k e
types_keep a b p program file (list_expr element) k e =
    wrapped_keep kind_list (kind_by a program file element) (kind_by b program file element) (types_keep a b p program file element) k e

found_keep : (a b : Filed TypedefDecl → Option PlainKind) → ((t : Filed TypedefDecl) → Keeps (a t) (b t)) → (o : Option (Filed TypedefDecl))
    → Keeps (option_and_then a o) (option_and_then b o)
found_keep a b p None k e = absurd (none_some k e)
found_keep a b p (Some t) k e = p t k e

-- what a typedef means that leads over others so many deep, it means deeper too
deeper : (program : Program) (m n : ℕ) → m ≤ n → (number : ℕ) → Keeps (alias_kind program m number) (alias_kind program n number)
unfolding alias_kind
deeper program zero n l number k e = absurd (none_some k e)
deeper program (suc m) zero l number k e = absurd (omega arith)
deeper program (suc m) (suc n) l number k e =
    found_keep (λ t. kind_by (alias_kind program m) program t.file t.item.type) (λ t. kind_by (alias_kind program n) program t.file t.item.type)
    (λ t. types_keep (alias_kind program m) (alias_kind program n) (deeper program m n (omega arith)) program t.file t.item.type)
    (slice_get (typedefs_of program) number) k e

both_known : (a b : Option PlainKind) (k : PlainKind) → map_kind a b ≡ Some k
    → (i : PlainKind) × (j : PlainKind) × (a ≡ Some i) × (b ≡ Some j) × (kind_map i j ≡ k)
both_known (Some i) (Some j) k e = (i, j, refl, refl, somes (kind_map i j) k e)
both_known (Some i) None k e = absurd (none_some k e)
both_known None (Some j) k e = absurd (none_some k e)
both_known None None k e = absurd (none_some k e)

inner_known : (g : PlainKind → PlainKind) (a : Option PlainKind) (k : PlainKind) → option_map g a ≡ Some k → (j : PlainKind) × (a ≡ Some j) × (g j ≡ k)
inner_known g (Some j) k e = (j, refl, somes (g j) k e)
inner_known g None k e = absurd (none_some k e)

module _ (program : Program) (made : List (Option TypeDesc)) (are : AreAliasTypes program made) where
  name_means : (o : Option NamedType) (k : PlainKind) → option_and_then (named_kind (known_kind made)) o ≡ Some k
      → (deep : ℕ) × (option_and_then (named_kind (alias_kind program deep)) o ≡ Some k)
  name_means None k e = absurd (none_some k e)
  name_means (Some (an_alias n)) k e = are.right n k e
  name_means (Some (an_enum n)) k e = (0, e)
  name_means (Some (a_struct n)) k e = (0, e)

  pub means : (file : ℕ) (t : TypeExpr) (k : PlainKind) → kind_by (known_kind made) program file t ≡ Some k → TypeMeans program file t k
  means file (base_expr b) k e = (0, e)
  means file (name_expr name) k e = name_means (type_named program file name.text) k e
  means file (map_expr key value) k e =
      let known = both_known (kind_by (known_kind made) program file key) (kind_by (known_kind made) program file value) k e in
      let x = means file key known.0 known.2 in
      let y = means file value known.1 known.3 in
      let d : ℕ = x.0 + y.0 in
      let p = types_keep (alias_kind program x.0) (alias_kind program d) (deeper program x.0 d (omega arith)) program file key known.0 x.1 in
      let q = types_keep (alias_kind program y.0) (alias_kind program d) (deeper program y.0 d (omega arith)) program file value known.1 y.1 in
      (d, (λ i. map_kind (p i) (q i)) ∙ ap Some known.4)
  means file (set_expr member) k e =
      let known = inner_known kind_set (kind_by (known_kind made) program file member) k e in
      let x = means file member known.0 known.1 in
      (x.0, ap (option_map kind_set) x.1 ∙ ap Some known.2)
  means file (list_expr element) k e =
      let known = inner_known kind_list (kind_by (known_kind made) program file element) k e in
      let x = means file element known.0 known.1 in
      (x.0, ap (option_map kind_list) x.1 ∙ ap Some known.2)

  -- so is what came of it
  pub result_means : {E : Type 0} (r : Result TypeDesc E) (file : ℕ) (t : TypeExpr) → IfOk r (λ kind. kind_by (known_kind made) program file t ≡ Some (kind_of kind))
      → IfOk r (λ kind. TypeMeans program file t (kind_of kind))
  result_means (Ok kind) file t e = means file t (kind_of kind) e
  result_means (Err fault) file t e = tt
