-- A program has one schema at most, with defaults of one kind or without.
use Rattle.std.specs.List.{AllZip}
use Rattle.std.proofs.Common.{◌≡◌, ℕ, suc, ◌+◌, List, [], ◌∷◌, Option, None, Some, length, refl, ap, sym, subst, ◌∙◌}
use Rattle.thrift_value.specs.Tree.{Tree}
use Rattle.idl_include.specs.ConstExpr.{ConstExpr}
use Rattle.idl_include.specs.TypeExpr.{TypeExpr}
use Rattle.idl_include.specs.Declarations.{FieldDecl, FunctionDecl, TypedefDecl, ServiceDecl, ConstDecl}
use Rattle.idl_include.specs.Program.{Program}
use Rattle.idl_include.specs.Numbering.{Filed, typedefs_of, structs_of, services_of, constants_of}
use Rattle.idl_include.specs.Spots.{GivenValue}
use Rattle.schema.specs.declared.types.FieldsKind.{FieldsKind}
use Rattle.schema.specs.declared.types.FieldsKind.TheVariants as fields
use Rattle.schema.specs.PlainKind.{PlainKind}
use Rattle.schema.specs.PlainSchema.{PlainField, PlainStruct, PlainFunction, PlainService, PlainAlias, PlainConstant, PlainSchema}
use Rattle.check_model.specs.FieldLists.{NumberedField, FieldsDecl, fields_by_id, field_lists}
use Rattle.check_model.specs.Worths.{Worth, valued, flawed}
use Rattle.check_model.specs.Evaluation.{Setting, given_worth}
use Rattle.check_model.specs.SchemaParts.{IsAliasOf, DefaultRule, IsFieldOf, AreFieldsOf, IsStructFrom, ResultMeans, IsFunctionOf, AreFunctionsOf, IsServiceOf, AreServicesOf, IsSchemaWith, NoDefault, IsPartialSchema}
use Rattle.check_model.specs.ProgramSchema.{HasWorth, IsDefault, DefaultIn, IsConstantOf, IsSchemaOf}
use Rattle.check_model.proofs.FirstOnes.{zip_is_one, somes}
use Rattle.check_model.proofs.Meanings.{one_meaning}

-- of a field one default is said at most
abbrev pub IsOne : DefaultRule → Type 0
IsOne D = (file : ℕ) (f : FieldDecl) (kind : PlainKind) (a b : Option Tree) → D file f kind a → D file f kind b → a ≡ b

one_alias : (program : Program) (t : Filed TypedefDecl) (a b : PlainAlias) → IsAliasOf program t a → IsAliasOf program t b → a ≡ b
one_alias program t a b p q = λ i. record {
  file = (p.file ∙ sym q.file) i;
  name = (p.name ∙ sym q.name) i;
  kind = one_meaning program t.file t.item.type a.kind b.kind p.kind q.kind i;
}

one_field : (D : DefaultRule) → IsOne D → (program : Program) (file : ℕ) (list : FieldsKind) (f : NumberedField) (a b : PlainField)
    → IsFieldOf D program file list f a → IsFieldOf D program file list f b → a ≡ b
one_field D one program file list f a b p q =
    let kinds = one_meaning program file f.decl.type a.kind b.kind p.kind q.kind in
    let P : PlainKind → Type 0 = λ k. D file f.decl k a.default in
    λ i. record {
      id = (p.id ∙ sym q.id) i;
      need = (p.need ∙ sym q.need) i;
      kind = kinds i;
      name = (p.name ∙ sym q.name) i;
      default = one file f.decl b.kind a.default b.default (subst P kinds p.default) q.default i;
    }

module _ (D : DefaultRule) (one : IsOne D) (program : Program) where
  fields_are_one : (file : ℕ) (list : FieldsKind) (decls : List FieldDecl) (xs ys : List PlainField)
      → AreFieldsOf D program file list decls xs → AreFieldsOf D program file list decls ys → xs ≡ ys
  fields_are_one file list decls xs ys p q =
      zip_is_one (IsFieldOf D program file list) (one_field D one program file list) (fields_by_id decls) xs ys p q

  one_struct : (d : FieldsDecl) (a b : PlainStruct) → IsStructFrom D program d a → IsStructFrom D program d b → a ≡ b
  one_struct d a b p q = λ i. record {
    file = (p.file ∙ sym q.file) i;
    name = (p.name ∙ sym q.name) i;
    kind = (p.kind ∙ sym q.kind) i;
    fields = fields_are_one d.file d.kind d.fields a.fields b.fields p.fields q.fields i;
  }

  one_result : (file : ℕ) (t : Option TypeExpr) (a b : Option PlainKind) → ResultMeans program file t a → ResultMeans program file t b → a ≡ b
  one_result file None None None p q = refl
  one_result file None None (Some b) p q = absurd q
  one_result file None (Some a) b p q = absurd p
  one_result file (Some t) None b p q = absurd p
  one_result file (Some t) (Some a) None p q = absurd q
  one_result file (Some t) (Some a) (Some b) p q = ap Some (one_meaning program file t a b p q)

  one_function : (file number : ℕ) (f : FunctionDecl) (a b : PlainFunction) → IsFunctionOf D program file number f a → IsFunctionOf D program file number f b → a ≡ b
  one_function file number f a b p q = λ i. record {
    name = (p.name ∙ sym q.name) i;
    oneway = (p.oneway ∙ sym q.oneway) i;
    args = (p.args ∙ sym q.args) i;
    result = one_result file f.result a.result b.result p.result q.result i;
    throws = fields_are_one file fields.Args f.throws a.throws b.throws p.throws q.throws i;
  }

  functions_are_one : (file number : ℕ) (fs : List FunctionDecl) (xs ys : List PlainFunction)
      → AreFunctionsOf D program file number fs xs → AreFunctionsOf D program file number fs ys → xs ≡ ys
  functions_are_one file number [] [] [] p q = refl
  functions_are_one file number [] [] (b ∷ ys) p q = absurd q
  functions_are_one file number [] (a ∷ xs) bs p q = absurd p
  functions_are_one file number (f ∷ fs) [] bs p q = absurd p
  functions_are_one file number (f ∷ fs) (a ∷ xs) [] p q = absurd q
  functions_are_one file number (f ∷ fs) (a ∷ xs) (b ∷ ys) p q =
      λ i. one_function file number f a b p.0 q.0 i ∷ functions_are_one file (suc number) fs xs ys p.1 q.1 i

  one_service : (number : ℕ) (s : Filed ServiceDecl) (a b : PlainService) → IsServiceOf D program number s a → IsServiceOf D program number s b → a ≡ b
  one_service number s a b p q = λ i. record {
    file = (p.file ∙ sym q.file) i;
    name = (p.name ∙ sym q.name) i;
    parent = (p.parent ∙ sym q.parent) i;
    functions = functions_are_one s.file number s.item.functions a.functions b.functions p.functions q.functions i;
  }

  services_are_one : (number : ℕ) (ss : List (Filed ServiceDecl)) (xs ys : List PlainService)
      → AreServicesOf D program number ss xs → AreServicesOf D program number ss ys → xs ≡ ys
  services_are_one number [] [] [] p q = refl
  services_are_one number [] [] (b ∷ ys) p q = absurd q
  services_are_one number [] (a ∷ xs) bs p q = absurd p
  services_are_one number (s ∷ ss) [] bs p q = absurd p
  services_are_one number (s ∷ ss) (a ∷ xs) [] p q = absurd q
  services_are_one number (s ∷ ss) (a ∷ xs) (b ∷ ys) p q =
      λ i. one_service number s a b p.0 q.0 i ∷ services_are_one (number + length s.item.functions) ss xs ys p.1 q.1 i

  -- two schemas whose constants are the same
  pub one_schema_with : (a b : PlainSchema) → IsSchemaWith D program a → IsSchemaWith D program b → a.constants ≡ b.constants → a ≡ b
  one_schema_with a b p q constants = λ i. record {
    files = (p.files ∙ sym q.files) i;
    structs = zip_is_one (IsStructFrom D program) one_struct (field_lists program) a.structs b.structs p.structs q.structs i;
    enums = (p.enums ∙ sym q.enums) i;
    services = services_are_one (length (structs_of program)) (services_of program) a.services b.services p.services q.services i;
    aliases = zip_is_one (IsAliasOf program) (one_alias program) (typedefs_of program) a.aliases b.aliases p.aliases q.aliases i;
    constants = constants i;
  }

no_default_is_one : IsOne NoDefault
no_default_is_one file f kind a b p q = p ∙ sym q

-- a program has one schema without defaults and constants at most
pub one_partial : (program : Program) (a b : PlainSchema) → IsPartialSchema program a → IsPartialSchema program b → a ≡ b
one_partial program a b p q = one_schema_with NoDefault no_default_is_one program a b p.made q.made (p.constants ∙ sym q.constants)

-- what was made, if something was
value_or : {A : Type 0} → A → Worth A → A
value_or d (valued x n) = x
value_or d (flawed at flaw) = d

values : {A : Type 0} (x y : A) (m n : ℕ) → valued x m ≡ valued y n → x ≡ y
unfolding value_or
values x y m n e = ap (value_or x) e

one_worth : (s : Setting) (v : Filed GivenValue) (kind : PlainKind) (a b : Tree) → HasWorth s v kind a → HasWorth s v kind b → a ≡ b
one_worth s v kind a b p q =
    let which = somes p.which q.which (sym p.number ∙ q.number) in
    values a b p.count q.count (sym p.worth ∙ ap (λ n. given_worth s n kind v) which ∙ q.worth)

one_default_said : (s : Setting) (file : ℕ) (f : FieldDecl) (kind : PlainKind) (tree : Option ConstExpr) (a b : Option Tree)
    → IsDefault s file f kind tree a → IsDefault s file f kind tree b → a ≡ b
one_default_said s file f kind None a b p q = p ∙ sym q
one_default_said s file f kind (Some tree) a b p q =
    p.1 ∙ ap Some (one_worth s (record { file = file; item = record { owner = f.at; type = f.type; tree = tree } }) kind p.0 q.0 p.2 q.2) ∙ sym q.1

one_constant : (s : Setting) (c : Filed ConstDecl) (a b : PlainConstant) → IsConstantOf s c a → IsConstantOf s c b → a ≡ b
one_constant s c a b p q =
    let kinds = one_meaning s.program c.file c.item.type a.kind b.kind p.kind q.kind in
    let v : Filed GivenValue = record { file = c.file; item = record { owner = c.item.name.at; type = c.item.type; tree = c.item.value } } in
    let P : PlainKind → Type 0 = λ k. HasWorth s v k a.value in
    λ i. record {
      file = (p.file ∙ sym q.file) i;
      name = (p.name ∙ sym q.name) i;
      kind = kinds i;
      value = one_worth s v b.kind a.value b.value (subst P kinds p.value) q.value i;
    }

-- two schemas of a program over one without defaults and constants
one_schema_over : (s : Setting) (a b : PlainSchema) → IsSchemaWith (DefaultIn s) s.program a → IsSchemaWith (DefaultIn s) s.program b
    → (a.constants ≡ b.constants) → a ≡ b
one_schema_over s a b p q constants =
    one_schema_with (DefaultIn s) (λ file f kind x y. one_default_said s file f kind f.default x y) s.program a b p q constants

-- a program has one schema at most
pub one_schema : (program : Program) (a b : PlainSchema) → IsSchemaOf program a → IsSchemaOf program b → a ≡ b
one_schema program a b p q =
    let partial = one_partial program q.partial p.partial q.made p.made in
    let setting : PlainSchema → Setting = λ schema. record { program = program; schema = schema } in
    let P : PlainSchema → Type 0 = λ schema. IsSchemaWith (DefaultIn (setting schema)) program b in
    let Q : PlainSchema → Type 0 = λ schema. AllZip (IsConstantOf (setting schema)) (constants_of program) b.constants in
    one_schema_over (setting p.partial) a b p.whole (subst P partial q.whole)
    (zip_is_one (IsConstantOf (setting p.partial)) (one_constant (setting p.partial)) (constants_of program) a.constants b.constants
    p.constants (subst Q partial q.constants))
