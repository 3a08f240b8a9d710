-- Where each name of a type is known and no typedef leads to itself, each type means something.
use Rattle.std.proofs.Common.{◌≡◌, ◌≢◌, ◌⊎◌, cond, eqb, eq-eqb, ne_eqb, ◌==◌, if◌then◌else◌, inl, inr, ℕ, zero, suc, ◌+◌, ◌<◌, ◌≤◌, Bool, true, false, List, [], ◌∷◌, map, Option, None, Some, length, slice_get, slice_index_or, refl, ap, sym, subst, ◌∙◌, arith}
use Rattle.std.specs.Option.{option_and_then, option_map, option_or}
use Rattle.std.specs.List.{AllByRecursion, Contains, filter_map, cons_option, position_from}
use Rattle.std.proofs.lemmas.Bool.Decides.{eqb_tells}
use Rattle.graph_cycles.specs.Walks.{LeadsTo, OnCycle}
use Rattle.idl_include.specs.Written.{Written}
use Rattle.idl_include.specs.TypeExpr.{TypeExpr, base_expr, name_expr, map_expr, set_expr, list_expr, names_in_type}
use Rattle.idl_include.specs.Program.{Program}
use Rattle.idl_include.specs.Declarations.{TypedefDecl, EnumDecl, StructDecl}
use Rattle.idl_include.specs.Numbering.{Filed, typedefs_of, enums_of, structs_of, is_filed_as, number_named}
use Rattle.idl_include.specs.Names.{Sought, sought, NamedType, an_alias, an_enum, a_struct, type_defined, type_named}
use Rattle.idl_include.specs.Cycles.{alias_in, aliases_below, alias_graph}
use Rattle.schema.specs.PlainKind.{PlainKind, kind_enum, kind_struct, kind_map, kind_set, kind_list}
use Rattle.check_model.specs.Resolved.{base_kind, named_kind, map_kind, kind_by, alias_kind, TypeMeans}
use Rattle.check_model.proofs.FirstOnes.{somes, none_some}
use Rattle.check_model.proofs.Shown.{front_all, back_all, weaker, AllFrom}

-- there is a kind
abbrev pub Known : Option PlainKind → Type 0
Known o = (kind : PlainKind) × (o ≡ Some kind)

-- a name stands for a type, and where that is a typedef, this says what it means
abbrev pub NameMeans : (ℕ → Option PlainKind) → Option NamedType → Type 0
NameMeans alias None = ⊥
NameMeans alias (Some (an_alias number)) = Known (alias number)
NameMeans alias (Some (an_enum _)) = Unit {0}
NameMeans alias (Some (a_struct _)) = Unit {0}

name_known : (alias : ℕ → Option PlainKind) (o : Option NamedType) → NameMeans alias o → Known (option_and_then (named_kind alias) o)
name_known alias None h = absurd h
name_known alias (Some (an_alias number)) h = h
name_known alias (Some (an_enum number)) h = (kind_enum number, refl)
name_known alias (Some (a_struct number)) h = (kind_struct number, refl)

map_known : (a b : Option PlainKind) → Known a → Known b → Known (map_kind a b)
map_known a b (j, e) (k, f) = (kind_map j k, λ i. map_kind (e i) (f i))

wrapped_known : (g : PlainKind → PlainKind) (a : Option PlainKind) → Known a → Known (option_map g a)
wrapped_known g a (j, e) = (g j, ap (option_map g) e)

pub type_known : (alias : ℕ → Option PlainKind) (program : Program) (file : ℕ) (t : TypeExpr)
    → AllByRecursion (λ (name : Written). NameMeans alias (type_named program file name.text)) (names_in_type t) → Known (kind_by alias program file t)
type_known alias program file (base_expr b) h = (base_kind b, refl)
type_known alias program file (name_expr name) h = name_known alias (type_named program file name.text) h.0
type_known alias program file (map_expr key value) h =
    let Q : Written → Type 0 = λ name. NameMeans alias (type_named program file name.text) in
    map_known (kind_by alias program file key) (kind_by alias program file value)
    (type_known alias program file key (front_all Q (names_in_type key) (names_in_type value) h))
    (type_known alias program file value (back_all Q (names_in_type key) (names_in_type value) h))
type_known alias program file (set_expr member) h = wrapped_known kind_set (kind_by alias program file member) (type_known alias program file member h)
type_known alias program file (list_expr element) h = wrapped_known kind_list (kind_by alias program file element) (type_known alias program file element h)

-- 1 or 0
abbrev weight : Bool → ℕ
weight true = 1
weight false = 0

-- how many of the numbers below this one pass a test
count_below : ℕ → (ℕ → Bool) → ℕ
count_below zero f = 0
count_below (suc n) f = weight (f n) + count_below n f

-- all but one
without : ℕ → (ℕ → Bool) → ℕ → Bool
without a f v = if v == a then false else f v

without_itself : (a : ℕ) (f : ℕ → Bool) → without a f a ≡ false
unfolding without
without_itself a f = ap (λ b. if b then false else f a) (eq-eqb a a refl)

without_other : (a : ℕ) (f : ℕ → Bool) (v : ℕ) → (v ≡ a → ⊥) → without a f v ≡ f v
unfolding without
without_other a f v n = ap (λ b. if b then false else f v) (ne_eqb v a n)

same_below : (n a : ℕ) (f : ℕ → Bool) → n ≤ a → count_below n (without a f) ≡ count_below n f
unfolding count_below
same_below zero a f l = refl
same_below (suc n) a f l =
    λ i. weight (without_other a f n (λ e. let h : ⊥ = omega arith in h) i) + same_below n a f (omega arith) i

told : (a b : ℕ) → ((eqb a b ≡ true) × (a ≡ b)) ⊎ ((eqb a b ≡ false) × (a ≢ b)) → (a ≡ b) ⊎ (a ≡ b → ⊥)
told a b (inl h) = inl h.1
told a b (inr h) = inr h.1

same_or_not : (a b : ℕ) → (a ≡ b) ⊎ (a ≡ b → ⊥)
same_or_not a b = told a b (eqb_tells a b)

at_last : (n : ℕ) (f : ℕ → Bool) → f n ≡ true → suc (count_below (suc n) (without n f)) ≡ count_below (suc n) f
unfolding count_below
at_last n f e =
    let first : weight (without n f n) ≡ 0 = ap weight (without_itself n f) in
    let second : weight (f n) ≡ 1 = ap weight e in
    let rest : count_below n (without n f) ≡ count_below n f = same_below n n f (omega arith) in
    omega arith

before_last : (n a : ℕ) (f : ℕ → Bool) → (a ≡ n → ⊥) → suc (count_below n (without a f)) ≡ count_below n f
    → suc (count_below (suc n) (without a f)) ≡ count_below (suc n) f
unfolding count_below
before_last n a f other e =
    let first : weight (without a f n) ≡ weight (f n) = ap weight (without_other a f n (λ h. other (sym h))) in
    omega arith

one_less_by : (n a : ℕ) (f : ℕ → Bool) → (a ≡ n) ⊎ (a ≡ n → ⊥) → f a ≡ true → ((a ≡ n → ⊥) → suc (count_below n (without a f)) ≡ count_below n f)
    → suc (count_below (suc n) (without a f)) ≡ count_below (suc n) f
one_less_by n a f (inl is) e rest =
    let P : ℕ → Type 0 = λ k. suc (count_below (suc n) (without k f)) ≡ count_below (suc n) f in
    subst P (sym is) (at_last n f (sym (ap f is) ∙ e))
one_less_by n a f (inr other) e rest = before_last n a f other (rest other)

one_less : (n a : ℕ) (f : ℕ → Bool) → a < n → f a ≡ true → suc (count_below n (without a f)) ≡ count_below n f
one_less zero a f l e = absurd (let h : ⊥ = omega arith in h)
one_less (suc n) a f l e = one_less_by n a f (same_or_not a n) e (λ other. one_less n a f (omega arith) e)

at_most_all : (n : ℕ) → count_below n (λ v. true) ≡ n
unfolding count_below
at_most_all zero = refl
at_most_all (suc n) = let rest = at_most_all n in omega arith

-- what is picked of a row is in the row of what is picked
further : (o : Option ℕ) (xs : List ℕ) (c : ℕ) → Contains xs c → Contains (cons_option o xs) c
further None xs c h = h
further (Some x) xs c h = (suc h.0, (let l = h.1 in omega arith), h.2)

first_picked : (o : Option ℕ) (xs : List ℕ) (c : ℕ) → o ≡ Some c → Contains (cons_option o xs) c
first_picked None xs c e = absurd (none_some c e)
first_picked (Some x) xs c e = (0, omega arith, somes x c e)

picked_in : {A : Type 0} (g : A → Option ℕ) (xs : List A) → AllByRecursion (λ x. (c : ℕ) → g x ≡ Some c → Contains (filter_map g xs) c) xs
picked_in g [] = tt
picked_in g (x ∷ xs) = (
  λ c e. first_picked (g x) (filter_map g xs) c e,
  weaker (λ y. (c : ℕ) → g y ≡ Some c → Contains (filter_map g xs) c) (λ y. (c : ℕ) → g y ≡ Some c → Contains (cons_option (g x) (filter_map g xs)) c)
      (λ y h c e. further (g x) (filter_map g xs) c (h c e)) xs (picked_in g xs),
)

-- what is found stands in the list
found_by : {A : Type 0} (test : A → Bool) (i : ℕ) (b : Bool) (xs : List A) (k : ℕ) → ((k : ℕ) → position_from test (i + 1) xs ≡ Some k → k < (i + 1) + length xs)
    → cond b (Some i) (position_from test (i + 1) xs) ≡ Some k → k < i + suc (length xs)
found_by test i true xs k rest e = let is : i ≡ k = somes i k e in omega arith
found_by test i false xs k rest e = let l = rest k e in omega arith

found_within : {A : Type 0} (test : A → Bool) (i : ℕ) (xs : List A) (k : ℕ) → position_from test i xs ≡ Some k → k < i + length xs
found_within test i [] k e = absurd (none_some k e)
found_within test i (x ∷ xs) k e = found_by test i (test x) xs k (λ j. found_within test (i + 1) xs j) e

alias_or_not : ℕ → Option NamedType → ℕ
alias_or_not d (Some (an_alias n)) = n
alias_or_not d _ = d

-- whether a name stands for a typedef
is_alias : Option NamedType → Bool
is_alias (Some (an_alias n)) = true
is_alias _ = false

alias_of_three : (n : ℕ) (a b c : Option ℕ) (k : ℕ) → ((j : ℕ) → a ≡ Some j → j < n)
    → option_or (option_map an_alias a) (option_or (option_map an_enum b) (option_map a_struct c)) ≡ Some (an_alias k) → k < n
unfolding alias_or_not is_alias
alias_of_three n (Some a) b c k h e = let is : a ≡ k = ap (alias_or_not 0) e in let l = h a refl in omega arith
alias_of_three n None (Some b) c k h e = absurd (let f : false ≡ true = ap is_alias e in cc)
alias_of_three n None None (Some c) k h e = absurd (let f : false ≡ true = ap is_alias e in cc)
alias_of_three n None None None k h e = absurd (let f : false ≡ true = ap is_alias e in cc)

alias_of_sought : (program : Program) (o : Option Sought) (k : ℕ) → option_and_then (type_defined program) o ≡ Some (an_alias k) → k < length (typedefs_of program)
alias_of_sought program None k e = absurd (none_some (an_alias k) e)
alias_of_sought program (Some s) k e =
    alias_of_three (length (typedefs_of program)) (number_named (λ (t : TypedefDecl). t.name) (typedefs_of program) s.file s.name)
    (number_named (λ (t : EnumDecl). t.name) (enums_of program) s.file s.name)
    (number_named (λ (t : StructDecl). t.name) (structs_of program) s.file s.name) k
    (λ j f. let l = found_within (is_filed_as (λ (t : TypedefDecl). t.name) s.file s.name) 0 (typedefs_of program) j f in omega arith) e

pub alias_within : (program : Program) (file : ℕ) (name : List ℕ) (k : ℕ) → type_named program file name ≡ Some (an_alias k) → k < length (typedefs_of program)
unfolding type_named
alias_within program file name k e = alias_of_sought program (sought program file name) k e

-- the row of a typedef
row_at : {A : Type 0} (f : A → List ℕ) (xs : List A) (a : ℕ) → a < length xs → (x : A) × (slice_get xs a ≡ Some x) × (slice_index_or (map f xs) a [] ≡ f x)
row_at f [] a l = absurd (let h : ⊥ = omega arith in h)
row_at f (x ∷ xs) zero l = (x, refl, refl)
row_at f (x ∷ xs) (suc a) l = row_at f xs a (omega arith)

pub from_at : {A : Type 0} (Q : ℕ → A → Type 0) (n : ℕ) (xs : List A) → AllFrom Q n xs → (a : ℕ) (x : A) → slice_get xs a ≡ Some x → Q (n + a) x
from_at {A} Q n [] h a x e = absurd (none_some x e)
from_at {A} Q n (y ∷ ys) h zero x e =
    let P : ℕ → Type 0 = λ k. Q k x in
    let R : A → Type 0 = λ z. Q n z in
    subst P (let f : n ≡ n + 0 = omega arith in f) (subst R (somes y x e) h.0)
from_at {A} Q n (y ∷ ys) h (suc a) x e =
    let P : ℕ → Type 0 = λ k. Q k x in
    subst P (let f : suc n + a ≡ n + suc a = omega arith in f) (from_at Q (suc n) ys h.1 a x e)

-- each name of a type stands for a type
abbrev pub NamesKnown : Program → ℕ → TypeExpr → Type 0
NamesKnown program file t = AllByRecursion (λ (name : Written). type_named program file name.text ≡ None → ⊥) (names_in_type t)

pub zip_all : {A : Type 0} (Q R S : A → Type 0) → ((x : A) → Q x → R x → S x) → (xs : List A) → AllByRecursion Q xs → AllByRecursion R xs → AllByRecursion S xs
zip_all Q R S by [] h k = tt
zip_all Q R S by (x ∷ xs) h k = (by x h.0 k.0, zip_all Q R S by xs h.1 k.1)

module _ (program : Program)
    (typedefs : AllFrom (λ (k : ℕ) (t : Filed TypedefDecl). NamesKnown program t.file t.item.type) 0 (typedefs_of program))
    (acyclic : (a : ℕ) → OnCycle (alias_graph program) a → ⊥)
    (on : (a m b : ℕ) → LeadsTo (alias_graph program) a m → LeadsTo (alias_graph program) m b → LeadsTo (alias_graph program) a b) where
  -- the typedefs that aren't free lead to this one
  abbrev Behind : (ℕ → Bool) → ℕ → Type 0
  Behind free a = (v : ℕ) → v < length (typedefs_of program) → free v ≡ false → LeadsTo (alias_graph program) v a

  free_cases : (b : Bool) → (b ≡ true) ⊎ (b ≡ false)
  free_cases true = inl refl
  free_cases false = inr refl

  -- a typedef to which an edge leads is free, and the one before it is behind it
  next_free : (free : ℕ → Bool) (a c : ℕ) → Behind free a → LeadsTo (alias_graph program) a c → c < length (typedefs_of program)
      → (free c ≡ true) ⊎ (free c ≡ false) → (c ≡ a) ⊎ (c ≡ a → ⊥) → without a free c ≡ true
  next_free free a c behind edge within (inl e) (inr other) = without_other a free c other ∙ e
  next_free free a c behind edge within (inr e) (inr other) = absurd (acyclic c (on c a c (behind c within e) edge))
  next_free free a c behind edge within f (inl is) =
      let P : ℕ → Type 0 = λ n. LeadsTo (alias_graph program) a n in
      absurd (acyclic a (subst P is edge))

  next_behind : (free : ℕ → Bool) (a c : ℕ) → Behind free a → LeadsTo (alias_graph program) a c → (v : ℕ) → v < length (typedefs_of program)
      → without a free v ≡ false → (v ≡ a) ⊎ (v ≡ a → ⊥) → LeadsTo (alias_graph program) v c
  next_behind free a c behind edge v within e (inl is) =
      let P : ℕ → Type 0 = λ n. LeadsTo (alias_graph program) n c in subst P (sym is) edge
  next_behind free a c behind edge v within e (inr other) = on v a c (behind v within (sym (without_other a free v other) ∙ e)) edge

  name_means : (alias : ℕ → Option PlainKind) (o : Option NamedType) → (o ≡ None → ⊥) → ((c : ℕ) → o ≡ Some (an_alias c) → Known (alias c)) → NameMeans alias o
  name_means alias None known by = known refl
  name_means alias (Some (an_alias c)) known by = by c refl
  name_means alias (Some (an_enum c)) known by = tt
  name_means alias (Some (a_struct c)) known by = tt

  found_alias : (o : Option NamedType) (c : ℕ) → o ≡ Some (an_alias c) → option_and_then alias_in o ≡ Some c
  found_alias o c e = ap (option_and_then alias_in) e

  at_typedef : (o : Option (Filed TypedefDecl)) (t : Filed TypedefDecl) (g : Filed TypedefDecl → Option PlainKind) → o ≡ Some t → Known (g t) → Known (option_and_then g o)
  at_typedef o t g e h = (h.0, ap (option_and_then g) e ∙ h.1)

  alias_known : (m : ℕ) (free : ℕ → Bool) (a : ℕ) → count_below (length (typedefs_of program)) free ≤ m → a < length (typedefs_of program) → free a ≡ true → Behind free a
      → Known (alias_kind program m a)
  unfolding alias_kind alias_graph
  alias_known zero free a few within e behind =
      absurd (let less = one_less (length (typedefs_of program)) a free within e in let h : ⊥ = omega arith in h)
  alias_known (suc m) free a few within e behind =
      let (t, at, row) = row_at (aliases_below program) (typedefs_of program) a within in
      let less = one_less (length (typedefs_of program)) a free within e in
      let g : Written → Option ℕ = λ name. option_and_then alias_in (type_named program t.file name.text) in
      let R : Written → Type 0 = λ name. (c : ℕ) → g name ≡ Some c → Contains (filter_map g (names_in_type t.item.type)) c in
      let K : Written → Type 0 = λ name. type_named program t.file name.text ≡ None → ⊥ in
      let S : Written → Type 0 = λ name. NameMeans (alias_kind program m) (type_named program t.file name.text) in
      let edge : (c : ℕ) → Contains (filter_map g (names_in_type t.item.type)) c → LeadsTo (alias_graph program) a c =
      λ c h. ([], subst (λ xs. Contains xs c) (sym row) h) in
      at_typedef (slice_get (typedefs_of program) a) t (λ (t : Filed TypedefDecl). kind_by (alias_kind program m) program t.file t.item.type) at
      (type_known (alias_kind program m) program t.file t.item.type
      (zip_all K R S (λ name known in_row. name_means (alias_kind program m) (type_named program t.file name.text) known (λ c is.
      let way = edge c (in_row c (found_alias (type_named program t.file name.text) c is)) in
      let inside = alias_within program t.file name.text c is in
      alias_known m (without a free) c (omega arith) inside
      (next_free free a c behind way inside (free_cases (free c)) (same_or_not c a))
      (λ v l f. next_behind free a c behind way v l f (same_or_not v a))))
      (names_in_type t.item.type) (from_at (λ k t. NamesKnown program t.file t.item.type) 0 (typedefs_of program) typedefs a t at)
      (picked_in g (names_in_type t.item.type))))

  pub each_alias : (c : ℕ) → c < length (typedefs_of program) → Known (alias_kind program (length (typedefs_of program)) c)
  each_alias c within =
      alias_known (length (typedefs_of program)) (λ v. true) c (let all = at_most_all (length (typedefs_of program)) in omega arith) within refl
      (λ v l e. absurd (let f : true ≡ false = e in cc))

  -- so a type each name of which is known means something
  pub type_means : (file : ℕ) (t : TypeExpr) → NamesKnown program file t → (kind : PlainKind) × TypeMeans program file t kind
  type_means file t known =
      let alias = alias_kind program (length (typedefs_of program)) in
      let h = type_known alias program file t
      (weaker (λ (name : Written). type_named program file name.text ≡ None → ⊥) (λ (name : Written). NameMeans alias (type_named program file name.text))
      (λ name k. name_means alias (type_named program file name.text) k (λ c is. each_alias c (alias_within program file name.text c is)))
      (names_in_type t) known) in
      (h.0, (length (typedefs_of program), h.1))
