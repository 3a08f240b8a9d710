-- That an office is sound, had where a value keeps no more than that it is so.
use Rattle.std.proofs.Common.{◌≡◌, ℕ, ℤ, List, [], ◌∷◌, Option, Some, None, arith}
use Rattle.std.proofs.Props.{props}
use Rattle.std.proofs.Math.Logic.{∥∥₁_elim, ∥∥₁_prop}
use Rattle.std.specs.Prelude.{⊤, All, MatchOption}
use Rattle.std.proofs.lemmas.List.Elements.{All-get_or, All-nil, All-cons, All-tail}
use Rattle.schema.specs.declared.types.FieldsKind.{FieldsKind}
use Rattle.schema.specs.declared.types.DefRef.{DefRef}
use Rattle.schema.specs.declared.types.DefRef.TheVariants.{Alias, Constant, Enum, Struct, Service}
use Rattle.schema.specs.PlainKind.{PlainKind, kind_enum, kind_struct, kind_map, kind_set, kind_list}
use Rattle.schema.specs.PlainSchema.{PlainField, PlainStruct, PlainEnum, PlainFunction, PlainService, PlainAlias, PlainConstant, PlainFile, PlainSchema}
use Rattle.schema.specs.Sound.{IsSchemaName, IsKindIn, IsStructOf, IsValueOf, IsSoundField, AreSoundFields, IsSoundStruct, IsSoundEnum, IsException, IsSoundFunction, IsSoundService, IsSoundAlias, IsSoundConstant, IsDefIn, AreSoundDefs, IsSoundFile, HasShortLists, IsSoundButConstants, IsSound}
use Rattle.struct_skew.proofs.Deciding.{decides_tidy, decides_written}
use Rattle.thrift_value.specs.Tree.{Tree}
use Rattle.call_model.specs.Offices.{PlainOffice, IsSoundOffice}

-- what is known to hold is had
abbrev Had : Type 0 → Type 0
Had A = ∥ A ∥₁ → A

-- a part of what is known to hold
part : {A B : Type 0} → (A → B) → ∥ A ∥₁ → ∥ B ∥₁
part f t = ∥∥₁_elim t ∥∥₁_prop (λ a. ∣ f a ∣₁)

one : {A : Type 0} → IsProp A → Had A
one p t = ∥∥₁_elim t p (λ a. a)

all : {A : Type 0} (P : A → Type 0) → ((x : A) → Had (P x)) → (xs : List A) → Had (All P xs)
all P had [] t = All-nil P
all P had (x ∷ xs) t =
    All-cons P x xs (had x (part (λ a. All-get_or P (x ∷ xs) 0 x (omega arith) a) t)) (all P had xs (part (All-tail P x xs) t))

where_some : {A : Type 0} (P : A → Type 0) → ((x : A) → Had (P x)) → (o : Option A) → Had (MatchOption o ⊤ P)
where_some P had None t = tt
where_some P had (Some x) t = had x t

of_some : {A : Type 0} (P : A → Type 0) → ((x : A) → Had (P x)) → (o : Option A) → Had (MatchOption o ⊥ P)
of_some P had None t = one (hlevel props) t
of_some P had (Some x) t = had x t

name : (n : List ℕ) → Had (IsSchemaName n)
name n t = record { some = one (hlevel props) (part (λ a. a.some) t); short = one (hlevel props) (part (λ a. a.short) t); bytes = one (hlevel props) (part (λ a. a.bytes) t) }

value : (s : PlainSchema) (kind : PlainKind) (v : Tree) → Had (IsValueOf s kind v)
value s kind v t =
    record {
      tidy = (decides_tidy v).0 (one (hlevel props) (part (λ a. (decides_tidy v).1 a.tidy) t));
      levels = one (hlevel props) (part (λ a. a.levels) t);
      written = (decides_written s.structs kind v).0 (one (hlevel props) (part (λ a. (decides_written s.structs kind v).1 a.written) t));
    }

kind_in : (s : PlainSchema) (kind : PlainKind) → Had (IsKindIn s kind)
kind_in s (kind_enum which) t = one (hlevel props) t
kind_in s (kind_struct which) t = one (hlevel props) t
kind_in s (kind_map key value) t = (kind_in s key (part (λ a. a.0) t), kind_in s value (part (λ a. a.1) t))
kind_in s (kind_set member) t = kind_in s member t
kind_in s (kind_list element) t = kind_in s element t
kind_in s _ t = tt

field : (s : PlainSchema) (f : PlainField) → Had (IsSoundField s f)
field s f t =
    record {
      name = name f.name (part (λ a. a.name) t);
      kind = kind_in s f.kind (part (λ a. a.kind) t);
      default = where_some (IsValueOf s f.kind) (value s f.kind) f.default (part (λ a. a.default) t);
    }

fields : (s : PlainSchema) (fs : List PlainField) → Had (AreSoundFields s fs)
fields s fs t = record { rising = one (hlevel props) (part (λ a. a.rising) t); each = all (IsSoundField s) (field s) fs (part (λ a. a.each) t) }

struct : (s : PlainSchema) (d : PlainStruct) → Had (IsSoundStruct s d)
struct s d t = record { file = one (hlevel props) (part (λ a. a.file) t); name = name d.name (part (λ a. a.name) t); fields = fields s d.fields (part (λ a. a.fields) t) }

enum : (s : PlainSchema) (e : PlainEnum) → Had (IsSoundEnum s e)
enum s e t =
    record { file = one (hlevel props) (part (λ a. a.file) t); name = name e.name (part (λ a. a.name) t); values = all _ (λ (v : List ℕ × ℤ). name v.0) e.values (part (λ a. a.values) t) }

of_kind : (s : PlainSchema) (kind : FieldsKind) (which : ℕ) → Had (IsStructOf s kind which)
of_kind s kind which t = of_some (λ (d : PlainStruct). d.kind ≡ kind) (λ d. one (hlevel props)) _ t

exception : (s : PlainSchema) (kind : PlainKind) → Had (IsException s kind)
exception s (kind_struct which) t = of_kind s _ which t
exception s _ t = one (hlevel props) t

function : (s : PlainSchema) (f : PlainFunction) → Had (IsSoundFunction s f)
function s f t =
    record {
      name = name f.name (part (λ a. a.name) t);
      args = of_kind s _ f.args (part (λ a. a.args) t);
      result = where_some (IsKindIn s) (kind_in s) f.result (part (λ a. a.result) t);
      throws = fields s f.throws (part (λ a. a.throws) t);
      exceptions = all _ (λ (x : PlainField). exception s x.kind) f.throws (part (λ a. a.exceptions) t);
    }

service : (s : PlainSchema) (v : PlainService) → Had (IsSoundService s v)
service s v t =
    record {
      file = one (hlevel props) (part (λ a. a.file) t);
      name = name v.name (part (λ a. a.name) t);
      parent = where_some _ (λ p. one (hlevel props)) v.parent (part (λ a. a.parent) t);
      functions = all (IsSoundFunction s) (function s) v.functions (part (λ a. a.functions) t);
    }

alias : (s : PlainSchema) (a : PlainAlias) → Had (IsSoundAlias s a)
alias s x t = record { file = one (hlevel props) (part (λ a. a.file) t); name = name x.name (part (λ a. a.name) t); kind = kind_in s x.kind (part (λ a. a.kind) t) }

constant : (s : PlainSchema) (c : PlainConstant) → Had (IsSoundConstant s c)
constant s x t =
    record {
      file = one (hlevel props) (part (λ a. a.file) t);
      name = name x.name (part (λ a. a.name) t);
      kind = kind_in s x.kind (part (λ a. a.kind) t);
      value = value s x.kind x.value (part (λ a. a.value) t);
    }

def_in : (s : PlainSchema) (d : DefRef) → Had (IsDefIn s d)
def_in s (Alias n) t = one (hlevel props) t
def_in s (Constant n) t = one (hlevel props) t
def_in s (Enum n) t = one (hlevel props) t
def_in s (Struct n) t = one (hlevel props) t
def_in s (Service n) t = one (hlevel props) t

defs : (s : PlainSchema) (ds : List DefRef) → Had (AreSoundDefs s ds)
defs s ds t = record { places = all (IsDefIn s) (def_in s) ds (part (λ a. a.places) t); names = one (hlevel props) (part (λ a. a.names) t) }

file : (s : PlainSchema) (f : PlainFile) → Had (IsSoundFile s f)
file s f t = record { includes = one (hlevel props) (part (λ a. a.includes) t); defs = defs s _ (part (λ a. a.defs) t) }

short : (s : PlainSchema) → Had (HasShortLists s)
short s t = one (hlevel props) t

but_constants : (s : PlainSchema) → Had (IsSoundButConstants s)
but_constants s t =
    record {
      short = short s (part (λ a. a.short) t);
      files = all (IsSoundFile s) (file s) s.files (part (λ a. a.files) t);
      bases = one (hlevel props) (part (λ a. a.bases) t);
      structs = all (IsSoundStruct s) (struct s) s.structs (part (λ a. a.structs) t);
      enums = all (IsSoundEnum s) (enum s) s.enums (part (λ a. a.enums) t);
      services = all (IsSoundService s) (service s) s.services (part (λ a. a.services) t);
      aliases = all (IsSoundAlias s) (alias s) s.aliases (part (λ a. a.aliases) t);
      no_loop = one (hlevel props) (part (λ a. a.no_loop) t);
      functions = one (hlevel props) (part (λ a. a.functions) t);
    }

schema : (s : PlainSchema) → Had (IsSound s)
schema s t =
    record {
      all_else = but_constants s (part (λ a. a.all_else) t);
      constants = all (IsSoundConstant s) (constant s) s.constants (part (λ a. a.constants) t);
      defs = all _ (λ (f : PlainFile). defs s f.defs) s.files (part (λ a. a.defs) t);
    }

-- an office that is known to be sound
pub sound_again : (office : PlainOffice) → ∥ IsSoundOffice office ∥₁ → IsSoundOffice office
sound_again office t =
    record {
      schema = schema office.schema (part (λ a. a.schema) t);
      some = one (hlevel props) (part (λ a. a.some) t);
      few = one (hlevel props) (part (λ a. a.few) t);
      names = one (hlevel props) (part (λ a. a.names) t);
      services = one (hlevel props) (part (λ a. a.services) t);
      default_slot = one (hlevel props) (part (λ a. a.default_slot) t);
      least = one (hlevel props) (part (λ a. a.least) t);
      most = one (hlevel props) (part (λ a. a.most) t);
    }
