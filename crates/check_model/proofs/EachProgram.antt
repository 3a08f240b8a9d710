-- Each program has a schema or a first fault: what the later passes find, and what is built where none finds anything.
use Rattle.std.proofs.Common.{◌≡◌, inl, inr, ℕ, zero, suc, ◌+◌, ◌<◌, ◌==◌, ◌&&◌, Bool, true, false, cond, eq-eqb, List, [], ◌∷◌, map, Option, None, Some, length, slice_get, slice_index_or, refl, ap, sym, subst, ◌∙◌, arith}
use Rattle.std.specs.Option.{option_and_then, option_map}
use Rattle.std.specs.List.{AllByRecursion, Contains, cons_option, filter_map, position_from}
use Rattle.idl_token.specs.declared.Place.{Place}
use Rattle.idl_parser.specs.declared.tree.StructKind.{StructKind}
use Rattle.idl_parser.specs.declared.tree.StructKind.TheVariants as kind
use Rattle.thrift_value.specs.Tree.{Tree}
use Rattle.graph_cycles.specs.Walks.{Graph, Walk, LeadsTo, OnCycle}
use Rattle.idl_include.specs.Written.{Written}
use Rattle.idl_include.specs.TypeExpr.{TypeExpr, base_expr, name_expr, map_expr, set_expr, list_expr, names_in_type}
use Rattle.idl_include.specs.Declarations.{FieldDecl, FunctionDecl, TypedefDecl, StructDecl, ServiceDecl}
use Rattle.idl_include.specs.Program.{Program}
use Rattle.idl_include.specs.Numbering.{Filed, typedefs_of, structs_of, services_of}
use Rattle.idl_include.specs.Names.{NamedType, an_alias, an_enum, a_struct, type_named}
use Rattle.idl_include.specs.Cycles.{alias_graph}
use Rattle.idl_include.specs.ConstNames.{same_place}
use Rattle.idl_include.specs.Spots.{Spotted, type_use, thrown_spot, struct_spot, Spot, spots_of, default_spots, result_spots}
use Rattle.schema.specs.PlainKind.{PlainKind, kind_bool, kind_i8, kind_i16, kind_i32, kind_i64, kind_double, kind_text, kind_binary, kind_uuid, kind_enum, kind_struct, kind_map, kind_set, kind_list}
use Rattle.schema.specs.PlainSchema.{PlainConstant, PlainSchema}
use Rattle.check_model.specs.Resolved.{map_kind, named_kind, kind_by, alias_kind, TypeMeans}
use Rattle.check_model.specs.FiniteValues.{HasFiniteValue}
use Rattle.check_model.specs.SchemaParts.{DefaultRule, NoDefault, IsSchemaWith, IsPartialSchema}
use Rattle.check_model.specs.Passes.{unknown_type, typedef_cycle, not_exception, struct_loop, MeansException, HasNoFiniteValue, NeedsFiniteValue, FindsFault}
use Rattle.check_model.specs.FirstFlaw.{found_by, IsClearAt, FindsNothing}
use Rattle.check_model.proofs.FirstOnes.{somes, none_some}
use Rattle.check_model.proofs.Meanings.{one_meaning}
use Rattle.check_model.proofs.OneSchema.{one_partial}
use Rattle.check_model.proofs.Shown.{weaker, unmapped, AllFrom, TypeShown, FieldShown, FunctionShown, TypedefShown, StructShown, ServiceShown, structs_shown, services_shown, typedefs_shown}
use Rattle.check_model.proofs.Resolving.{Known, NamesKnown, type_means, each_alias, alias_within, from_at, zip_all}
use Rattle.check_model.proofs.Building.{TypeMade, FieldMade, ResultMade, FunctionMade, schema_made}
use Rattle.check_model.proofs.Finite.{has_or_not}
use Rattle.check_model.proofs.Existing.{Told, both_told, none_is_told}

-- a row past the last is empty
row_within : {A : Type 0} (f : A → List ℕ) (xs : List A) (a b : ℕ) → Contains (slice_index_or (map f xs) a []) b → a < length xs
row_within f [] a b h = absurd (let l = h.1 in let e : ⊥ = omega arith in e)
row_within f (x ∷ xs) zero b h = omega arith
row_within f (x ∷ xs) (suc a) b h = let l = row_within f xs a b h in omega arith

weaker_from : {A : Type 0} (Q R : ℕ → A → Type 0) → ((k : ℕ) (x : A) → Q k x → R k x) → (n : ℕ) (xs : List A) → AllFrom Q n xs → AllFrom R n xs
weaker_from Q R by n [] h = tt
weaker_from Q R by n (x ∷ xs) h = (by n x h.0, weaker_from Q R by (suc n) xs h.1)

un_numbered : {A : Type 0} (Q : A → Type 0) (n : ℕ) (xs : List A) → AllFrom (λ k x. Q x) n xs → AllByRecursion Q xs
un_numbered Q n [] h = tt
un_numbered Q n (x ∷ xs) h = (h.0, un_numbered Q (suc n) xs h.1)

-- what is picked is found
first_found : {A : Type 0} (o : Option A) (xs : List A) (y : A) (test : A → Bool) (i : ℕ) → o ≡ Some y → test y ≡ true
    → (k : ℕ) × (position_from test i (cons_option o xs) ≡ Some k)
first_found None xs y test i e t = absurd (none_some y e)
first_found (Some x) xs y test i e t = (i, ap (λ b. cond b (Some i) (position_from test (i + 1) xs)) (ap test (somes x y e) ∙ t))

test_found : {A : Type 0} (b : Bool) (test : A → Bool) (i : ℕ) (xs : List A) → ((k : ℕ) × (position_from test (i + 1) xs ≡ Some k))
    → (k : ℕ) × (cond b (Some i) (position_from test (i + 1) xs) ≡ Some k)
test_found true test i xs h = (i, refl)
test_found false test i xs h = h

later_found : {A : Type 0} (o : Option A) (xs : List A) (test : A → Bool) → ((i : ℕ) → (k : ℕ) × (position_from test i xs ≡ Some k)) → (i : ℕ)
    → (k : ℕ) × (position_from test i (cons_option o xs) ≡ Some k)
later_found None xs test h i = h i
later_found (Some x) xs test h i = test_found (test x) test i xs (h (i + 1))

pub picked_found : {A B : Type 0} (g : A → Option B) (xs : List A)
    → AllByRecursion (λ x. (y : B) (test : B → Bool) → g x ≡ Some y → test y ≡ true → (i : ℕ) → (k : ℕ) × (position_from test i (filter_map g xs) ≡ Some k)) xs
picked_found g [] = tt
picked_found {A} {B} g (x ∷ xs) = (
  λ y test e t i. first_found (g x) (filter_map g xs) y test i e t,
  weaker (λ z. (y : B) (test : B → Bool) → g z ≡ Some y → test y ≡ true → (i : ℕ) → (k : ℕ) × (position_from test i (filter_map g xs) ≡ Some k))
      (λ z. (y : B) (test : B → Bool) → g z ≡ Some y → test y ≡ true → (i : ℕ) → (k : ℕ) × (position_from test i (cons_option (g x) (filter_map g xs)) ≡ Some k))
      (λ z h y test e t i. later_found (g x) (filter_map g xs) test (h y test e t) i) xs (picked_found g xs),
)

pub same_itself : (file : ℕ) (at : Place) → ((file == file) && same_place at at) ≡ true
same_itself file at = λ i. eq-eqb file file refl i && (eq-eqb at.line at.line refl i && eq-eqb at.column at.column refl i)

-- what stands behind a kind that is known
map_parts : (a b : Option PlainKind) (k : PlainKind) → map_kind a b ≡ Some k → Known a × Known b
map_parts (Some a) (Some b) k e = ((a, refl), (b, refl))
map_parts (Some a) None k e = absurd (none_some k e)
map_parts None (Some b) k e = absurd (none_some k e)
map_parts None None k e = absurd (none_some k e)

wrapped_part : (g : PlainKind → PlainKind) (a : Option PlainKind) (k : PlainKind) → option_map g a ≡ Some k → Known a
wrapped_part g (Some a) k e = (a, refl)
wrapped_part g None k e = absurd (none_some k e)

map_both : (a b : Option PlainKind) → Known a → Known b → Known (map_kind a b)
map_both a b (j, e) (k, f) = (kind_map j k, λ i. map_kind (e i) (f i))

name_again : (a b : ℕ → Option PlainKind) (o : Option NamedType) (k : PlainKind) → ((c : ℕ) → o ≡ Some (an_alias c) → Known (b c))
    → option_and_then (named_kind a) o ≡ Some k → Known (option_and_then (named_kind b) o)
name_again a b None k by e = absurd (none_some k e)
name_again a b (Some (an_alias c)) k by e = by c refl
name_again a b (Some (an_enum c)) k by e = (kind_enum c, refl)
name_again a b (Some (a_struct c)) k by e = (kind_struct c, refl)

known_or_not : (o : Option PlainKind) → Told (Known o)
known_or_not (Some k) = inl (k, refl)
known_or_not None = inr (λ h. none_some h.0 h.1)

exception_told : (k : StructKind) → Told (k ≡ kind.Exception)
exception_told kind.Exception = inl refl
exception_told kind.Struct = inr (λ e. cc)
exception_told kind.Union = inr (λ e. cc)

needs_told : (k : StructKind) → Told (NeedsFiniteValue k)
needs_told kind.Union = inr (λ h. h)
needs_told kind.Struct = inl tt
needs_told kind.Exception = inl tt

-- the number of a struct, if it is one
abbrev struct_number : ℕ → PlainKind → ℕ
struct_number d (kind_struct n) = n
struct_number d _ = d

-- whether it is one
abbrev is_struct : PlainKind → Bool
is_struct (kind_struct n) = true
is_struct _ = false

module _ (program : Program) (leads : (graph : Graph) (a b : ℕ) → Told (LeadsTo graph a b))
    (on : (graph : Graph) (a m b : ℕ) → LeadsTo graph a m → LeadsTo graph m b → LeadsTo graph a b)
    (unknown : FindsNothing program unknown_type) (cycles : FindsNothing program typedef_cycle) where
  -- no name of a type is unknown
  abbrev pub Pu : ℕ → Spotted → Type 0
  Pu file x = IsClearAt program unknown_type (record { file = file; shows = x })

  abbrev Pc : ℕ → Spotted → Type 0
  Pc file x = IsClearAt program typedef_cycle (record { file = file; shows = x })

  pub known_of : (file : ℕ) (t : TypeExpr) → TypeShown Pu file t → NamesKnown program file t
  known_of file t h =
      weaker (λ (name : Written). Pu file (type_use name)) (λ (name : Written). type_named program file name.text ≡ None → ⊥)
      (λ name clear e. clear (record { file = file; at = name.at; kind = found_by unknown_type }) (e, refl)) (names_in_type t)
      (unmapped (Pu file) type_use (names_in_type t) h)

  typedefs_known : AllFrom (λ (k : ℕ) (t : Filed TypedefDecl). NamesKnown program t.file t.item.type) 0 (typedefs_of program)
  typedefs_known =
      weaker_from (TypedefShown Pu) (λ (k : ℕ) (t : Filed TypedefDecl). NamesKnown program t.file t.item.type)
      (λ k t h. known_of t.file t.item.type h.0) 0 (typedefs_of program) (typedefs_shown Pu program unknown)

  off_cycle : (a : ℕ) (x : Option (Filed TypedefDecl)) → slice_get (typedefs_of program) a ≡ x → a < length (typedefs_of program) → OnCycle (alias_graph program) a → ⊥
  off_cycle a (Some t) at l c =
      let clear = (from_at (TypedefShown Pc) 0 (typedefs_of program) (typedefs_shown Pc program cycles) a t at).1 in
      let zero_on : a ≡ 0 + a = omega arith in
      let Q : ℕ → Type 0 = λ n. OnCycle (alias_graph program) n in
      clear (record { file = t.file; at = t.item.name.at; kind = found_by typedef_cycle }) (subst Q zero_on c, refl)
  off_cycle a None at l c = past (typedefs_of program) a l at
    where
      past : (xs : List (Filed TypedefDecl)) (a : ℕ) → a < length xs → slice_get xs a ≡ None → ⊥
      past [] a l e = let h : ⊥ = omega arith in h
      past (x ∷ xs) zero l e = none_some x (sym e)
      past (x ∷ xs) (suc a) l e = past xs a (omega arith) e

  first_edge : (a : ℕ) (between : List ℕ) → Walk (alias_graph program) a between a → a < length (typedefs_of program)
  unfolding alias_graph
  first_edge a [] walk = row_within _ (typedefs_of program) a a walk
  first_edge a (m ∷ between) walk = row_within _ (typedefs_of program) a m walk.0

  acyclic : (a : ℕ) → OnCycle (alias_graph program) a → ⊥
  acyclic a c = off_cycle a (slice_get (typedefs_of program) a) refl (first_edge a c.0 c.1) c

  pub means : (file : ℕ) (t : TypeExpr) → NamesKnown program file t → (kind : PlainKind) × TypeMeans program file t kind
  means file t h = type_means program typedefs_known acyclic (on (alias_graph program)) file t h

  -- a type means something where it does with all typedefs followed
  again : (n : ℕ) (file : ℕ) (t : TypeExpr) (k : PlainKind) → kind_by (alias_kind program n) program file t ≡ Some k
      → Known (kind_by (alias_kind program (length (typedefs_of program))) program file t)
  again n file (base_expr b) k e = (k, e)
  again n file (name_expr name) k e =
      name_again (alias_kind program n) (alias_kind program (length (typedefs_of program))) (type_named program file name.text) k
      (λ c is. each_alias program typedefs_known acyclic (on (alias_graph program)) c (alias_within program file name.text c is)) e
  again n file (map_expr key value) k e =
      let parts = map_parts (kind_by (alias_kind program n) program file key) (kind_by (alias_kind program n) program file value) k e in
      map_both (kind_by (alias_kind program (length (typedefs_of program))) program file key) (kind_by (alias_kind program (length (typedefs_of program))) program file value)
      (again n file key parts.0.0 parts.0.1) (again n file value parts.1.0 parts.1.1)
  again n file (set_expr member) k e =
      let part = wrapped_part kind_set (kind_by (alias_kind program n) program file member) k e in
      let h = again n file member part.0 part.1 in (kind_set h.0, ap (option_map kind_set) h.1)
  again n file (list_expr element) k e =
      let part = wrapped_part kind_list (kind_by (alias_kind program n) program file element) k e in
      let h = again n file element part.0 part.1 in (kind_list h.0, ap (option_map kind_list) h.1)

  pub means_told : (file : ℕ) (t : TypeExpr) → Told ((kind : PlainKind) × TypeMeans program file t kind)
  means_told file t = by (known_or_not (kind_by (alias_kind program (length (typedefs_of program))) program file t))
    where
      by : Told (Known (kind_by (alias_kind program (length (typedefs_of program))) program file t)) → Told ((kind : PlainKind) × TypeMeans program file t kind)
      by (inl h) = inl (h.0, (length (typedefs_of program), h.1))
      by (inr n) = inr (λ h. n (again h.1.0 file t h.0 h.1.1))

  -- a schema, where more holds at each spot, and that says what defaults are
  module _ (D : DefaultRule) (Pv : ℕ → Spotted → Type 0)
      (says : (file : ℕ) (f : FieldDecl) (kind : PlainKind) → TypeMeans program file f.type kind → AllByRecursion (Pv file) (default_spots f f.default) → (default : Option Tree) × D file f kind default)
      (more : AllByRecursion (λ (s : Spot). Pv s.file s.shows) (spots_of program)) where
    field_said : (file : ℕ) (f : FieldDecl) → FieldShown Pu file f → FieldShown Pv file f → FieldMade D program file f
    field_said file f h g =
        let m = means file f.type (known_of file f.type h.0) in
        let d = says file f m.0 m.1 g.1 in
        (m.0, m.1, d.0, d.1)

    fields_said : (file : ℕ) (fs : List FieldDecl) → AllByRecursion (FieldShown Pu file) fs → AllByRecursion (FieldShown Pv file) fs → AllByRecursion (FieldMade D program file) fs
    fields_said file fs h g = zip_all (FieldShown Pu file) (FieldShown Pv file) (FieldMade D program file) (field_said file) fs h g

    result_said : (file : ℕ) (o : Option TypeExpr) → AllByRecursion (Pu file) (result_spots o) → ResultMade D program file o
    result_said file None h = tt
    result_said file (Some t) h = means file t (known_of file t h)

    function_said : (file : ℕ) (f : FunctionDecl) → FunctionShown Pu file f → FunctionShown Pv file f → FunctionMade D program file f
    function_said file f h g = (result_said file f.result h.0, fields_said file f.arguments h.1 g.1, fields_said file f.throws h.2 g.2)

    pub built : (constants : List PlainConstant) → (schema : PlainSchema) × IsSchemaWith D program schema × (schema.constants ≡ constants)
    built constants =
        schema_made D program
        (un_numbered (λ (t : Filed TypedefDecl). TypeMade D program t.file t.item.type) 0 (typedefs_of program)
        (weaker_from (λ (k : ℕ) (t : Filed TypedefDecl). NamesKnown program t.file t.item.type) (λ (k : ℕ) (t : Filed TypedefDecl). TypeMade D program t.file t.item.type)
        (λ k t h. means t.file t.item.type h) 0 (typedefs_of program) typedefs_known))
        (zip_all (StructShown Pu) (StructShown Pv) (λ (s : Filed StructDecl). AllByRecursion (FieldMade D program s.file) s.item.fields)
        (λ s h g. fields_said s.file s.item.fields h g) (structs_of program) (structs_shown Pu program unknown) (structs_shown Pv program more))
        (zip_all (ServiceShown Pu) (ServiceShown Pv) (λ (s : Filed ServiceDecl). AllByRecursion (FunctionMade D program s.file) s.item.functions)
        (λ s h g. zip_all (FunctionShown Pu s.file) (FunctionShown Pv s.file) (FunctionMade D program s.file) (function_said s.file) s.item.functions h g)
        (services_of program) (services_shown Pu program unknown) (services_shown Pv program more))
        constants

  nothing_more : (spots : List Spot) → AllByRecursion (λ (s : Spot). Unit {0}) spots
  nothing_more [] = tt
  nothing_more (s ∷ spots) = (tt, nothing_more spots)

  pub some_partial : (schema : PlainSchema) × IsPartialSchema program schema
  some_partial =
      let b = built NoDefault (λ file x. Unit {0}) (λ file f kind m h. (None, refl)) (nothing_more (spots_of program)) [] in
      (b.0, record { made = b.1; constants = b.2 })

  -- the later passes
  exception_of : (o : Option (Filed StructDecl)) → Told ((s : Filed StructDecl) × (o ≡ Some s) × (s.item.kind ≡ kind.Exception))
  exception_of None = inr (λ h. none_some h.0 h.1)
  exception_of (Some s) = by (exception_told s.item.kind)
    where
      by : Told (s.item.kind ≡ kind.Exception) → Told ((t : Filed StructDecl) × (Some s ≡ Some t) × (t.item.kind ≡ kind.Exception))
      by (inl e) = inl (s, refl, e)
      by (inr n) = inr (λ h. n (ap (λ (t : Filed StructDecl). t.item.kind) (somes s h.0 h.1) ∙ h.2))

  is_exception_told : (file : ℕ) (t : TypeExpr) → Told ((kind : PlainKind) × TypeMeans program file t kind) → Told (MeansException program file t)
  is_exception_told file t (inr n) = inr (λ h. n (kind_struct h.0, h.1))
  is_exception_told file t (inl (k, m)) = by k m
    where
      by_struct : (n : ℕ) → TypeMeans program file t (kind_struct n) → Told ((s : Filed StructDecl) × (slice_get (structs_of program) n ≡ Some s) × (s.item.kind ≡ kind.Exception)) → Told (MeansException program file t)
      by_struct n m (inl h) = inl (n, m, h.0, h.1, h.2)
      by_struct n m (inr none) = inr (λ h.
          let same : h.0 ≡ n = ap (struct_number 0) (one_meaning program file t (kind_struct h.0) (kind_struct n) h.1 m) in
          let P : ℕ → Type 0 = λ j. slice_get (structs_of program) j ≡ Some h.2 in
          none (h.2, subst P same h.3, h.4))

      no_struct : (k : PlainKind) → TypeMeans program file t k → is_struct k ≡ false → Told (MeansException program file t)
      no_struct k m e = inr (λ h. let f : true ≡ false = ap is_struct (one_meaning program file t (kind_struct h.0) k h.1 m) ∙ e in cc)

      by : (k : PlainKind) → TypeMeans program file t k → Told (MeansException program file t)
      by (kind_struct n) m = by_struct n m (exception_of (slice_get (structs_of program) n))
      by kind_bool m = no_struct kind_bool m refl
      by kind_i8 m = no_struct kind_i8 m refl
      by kind_i16 m = no_struct kind_i16 m refl
      by kind_i32 m = no_struct kind_i32 m refl
      by kind_i64 m = no_struct kind_i64 m refl
      by kind_double m = no_struct kind_double m refl
      by kind_uuid m = no_struct kind_uuid m refl
      by kind_text m = no_struct kind_text m refl
      by kind_binary m = no_struct kind_binary m refl
      by (kind_enum n) m = no_struct (kind_enum n) m refl
      by (kind_map a b) m = no_struct (kind_map a b) m refl
      by (kind_set a) m = no_struct (kind_set a) m refl
      by (kind_list a) m = no_struct (kind_list a) m refl

  pub not_exception_told : (file : ℕ) (x : Spotted) → Told (FindsFault not_exception program file x)
  not_exception_told file (thrown_spot f) = none_is_told (is_exception_told file f.type (means_told file f.type))
  not_exception_told file _ = inr (λ h. h)

  finite_told : (k : ℕ) → Told (HasFiniteValue some_partial.0 k) → Told (HasNoFiniteValue program k)
  finite_told k (inl h) = inr (λ n.
      let P : PlainSchema → Type 0 = λ s. HasFiniteValue s k in
      n.2 (subst P (one_partial program some_partial.0 n.0 some_partial.1 n.1) h))
  finite_told k (inr n) = inl (some_partial.0, some_partial.1, n)

  pub struct_loop_told : (file : ℕ) (x : Spotted) → Told (FindsFault struct_loop program file x)
  struct_loop_told file (struct_spot k s) = both_told (needs_told s.kind) (finite_told k (has_or_not some_partial.0 k))
  struct_loop_told file _ = inr (λ h. h)
