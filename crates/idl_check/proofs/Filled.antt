-- A schema that got its defaults and constants is that of its program.
use Rattle.std.proofs.Common.{◌≡◌, ◌+◌, ℕ, suc, List, [], ◌∷◌, map, length, Option, Some, None, sym, subst, ◌∙◌}
use Rattle.std.specs.Option.{MatchOption}
use Rattle.std.specs.List.{AllByRecursion, AllZip}
use Rattle.thrift_value.specs.Tree.{Tree}
use Rattle.idl_token.specs.declared.Place.{Place}
use Rattle.idl_include.specs.TypeExpr.{TypeExpr}
use Rattle.idl_include.specs.ConstExpr.{ConstExpr}
use Rattle.idl_include.specs.Declarations.{FieldDecl, FunctionDecl, ServiceDecl, ConstDecl}
use Rattle.idl_include.specs.Program.{Program}
use Rattle.idl_include.specs.Numbering.{Filed, constants_of, structs_of, services_of, typedefs_of}
use Rattle.idl_include.specs.Spots.{values_of}
use Rattle.schema.specs.declared.types.FieldsKind.{FieldsKind}
use Rattle.schema.specs.declared.types.FieldsKind.TheVariants as fields
use Rattle.schema.specs.PlainKind.{PlainKind}
use Rattle.schema.specs.PlainSchema.{PlainField, PlainStruct, PlainFunction, PlainService, PlainConstant, PlainSchema}
use Rattle.check_model.specs.Resolved.{TypeMeans}
use Rattle.check_model.specs.FieldLists.{NumberedField, FieldsDecl, fields_by_id, field_lists}
use Rattle.check_model.specs.Evaluation.{Setting}
use Rattle.check_model.specs.SchemaParts.{NoDefault, IsFieldOf, AreFieldsOf, IsStructFrom, ResultMeans, IsFunctionOf, AreFunctionsOf, IsServiceOf, AreServicesOf, IsAliasOf, IsPartialSchema}
use Rattle.check_model.specs.ProgramSchema.{HasWorth, IsDefault, DefaultIn, IsConstantOf}
use Rattle.check_model.proofs.Meanings.{one_meaning}
use Rattle.check_model.proofs.OneSchema.{one_partial}
use Rattle.idl_check.proofs.RisingFields.{by_id_holds}
use Rattle.idl_check.specs.Taking.{IsWorthAt, value_given}
use Rattle.idl_check.specs.Sites.{AllZipped, sited}
use Rattle.idl_check.specs.Filling.{IsFieldFilled, AreDefaultsFilled, IsStructFilled, IsFunctionFilled, IsServiceFilled, IsConstantTaken, IsWholeSchema}
use Rattle.idl_check.proofs.Given.{IsIn, IsDefaultGiven, IsFieldGiven, IsConstantGiven, IsListGiven, AreThrownGiven, IsServiceGiven, constants_given, lists_are_given, services_given}

-- of what something was and what it became follows what it is
zipped_becomes : {A B : Type 0} (G : A → Type 0) (R S : A → B → Type 0) (F : A → B → B → Type 0) → ((a : A) (b c : B) → G a → R a b → F a b c → S a c)
    → (ws : List A) (bs cs : List B) → AllByRecursion G ws → AllZip R ws bs → AllZipped F ws bs cs → AllZip S ws cs
zipped_becomes G R S F by [] [] [] g r f = tt
zipped_becomes G R S F by [] [] (c ∷ cs) g r f = absurd f
zipped_becomes G R S F by [] (b ∷ bs) cs g r f = absurd r
zipped_becomes G R S F by (a ∷ ws) [] cs g r f = absurd r
zipped_becomes G R S F by (a ∷ ws) (b ∷ bs) [] g r f = absurd f
zipped_becomes G R S F by (a ∷ ws) (b ∷ bs) (c ∷ cs) g r f = (by a b c g.0 r.0 f.0, zipped_becomes G R S F by ws bs cs g.1 r.1 f.1)

zipped_unmapped : {A D B : Type 0} (g : D → A) (F : A → B → B → Type 0) (ds : List D) (bs cs : List B) → AllZipped F (map g ds) bs cs → AllZipped (λ d. F (g d)) ds bs cs
zipped_unmapped g F [] [] [] f = tt
zipped_unmapped g F [] [] (c ∷ cs) f = absurd f
zipped_unmapped g F [] (b ∷ bs) cs f = absurd f
zipped_unmapped g F (d ∷ ds) [] cs f = absurd f
zipped_unmapped g F (d ∷ ds) (b ∷ bs) [] f = absurd f
zipped_unmapped g F (d ∷ ds) (b ∷ bs) (c ∷ cs) f = (f.0, zipped_unmapped g F ds bs cs f.1)

module _ (program : Program) (partial : PlainSchema) (made : IsPartialSchema program partial) where
  abbrev setting : Setting
  setting = record { program = program; schema = partial }

  -- what a value is worth beside the schema without defaults
  worth_beside : (file : ℕ) (owner : Place) (type : TypeExpr) (tree : ConstExpr) (kind : PlainKind) (value : Tree) → IsIn (values_of program) (value_given file owner type tree)
      → TypeMeans program file type kind → IsWorthAt program file owner value → HasWorth setting (value_given file owner type tree) kind value
  worth_beside file owner type tree kind value among means at =
      let v = value_given file owner type tree in
      let h = at among.0 type tree among.1 in
      let P : PlainSchema → Type 0 = λ s. HasWorth (record { program = program; schema = s }) v h.kind value in
      let Q : PlainKind → Type 0 = λ k. HasWorth setting v k value in
      subst Q (one_meaning program file type h.kind kind h.means means) (subst P (one_partial program h.schema partial h.made made) h.worth)

  default_whole : (file : ℕ) (f : FieldDecl) (kind : PlainKind) (o : Option ConstExpr) (old new : Option Tree) → IsDefaultGiven program file f o → TypeMeans program file f.type kind
      → old ≡ None → MatchOption o (new ≡ old) (λ _. (value : Tree) × (new ≡ Some value) × IsWorthAt program file f.at value) → IsDefault setting file f kind o new
  default_whole file f kind None old new given means none filled = filled ∙ none
  default_whole file f kind (Some tree) old new given means none filled =
      (filled.0, filled.1, worth_beside file f.at f.type tree kind filled.0 given means filled.2)

  field_whole : (file : ℕ) (list : FieldsKind) (f : NumberedField) (old new : PlainField) → IsFieldGiven program file f.decl → IsFieldOf NoDefault program file list f old
      → IsFieldFilled program file f old new → IsFieldOf (DefaultIn setting) program file list f new
  field_whole file list f old new given is filled =
      let means = subst (TypeMeans program file f.decl.type) (sym filled.kind) is.kind in record {
        id = filled.id ∙ is.id;
        need = filled.need ∙ is.need;
        kind = means;
        name = filled.name ∙ is.name;
        default = default_whole file f.decl new.kind f.decl.default old.default new.default given means is.default filled.default;
      }

  fields_whole : (file : ℕ) (list : FieldsKind) (decls : List FieldDecl) (old new : List PlainField) → AllByRecursion (IsFieldGiven program file) decls
      → AreFieldsOf NoDefault program file list decls old → AreDefaultsFilled program file decls old new → AreFieldsOf (DefaultIn setting) program file list decls new
  fields_whole file list decls old new given are filled =
      zipped_becomes (λ (f : NumberedField). IsFieldGiven program file f.decl) (IsFieldOf NoDefault program file list) (IsFieldOf (DefaultIn setting) program file list)
      (IsFieldFilled program file) (field_whole file list) (fields_by_id decls) old new (by_id_holds (IsFieldGiven program file) decls given) are filled

  struct_whole : (d : FieldsDecl) (old new : PlainStruct) → IsListGiven program d → IsStructFrom NoDefault program d old → IsStructFilled program (sited d) old new
      → IsStructFrom (DefaultIn setting) program d new
  struct_whole d old new given from filled = record {
    file = filled.file ∙ from.file;
    name = filled.name ∙ from.name;
    kind = filled.kind ∙ from.kind;
    fields = fields_whole d.file d.kind d.fields old.fields new.fields given from.fields filled.fields;
  }

  function_whole : (file number : ℕ) (f : FunctionDecl) (old new : PlainFunction) → AreThrownGiven program file f → IsFunctionOf NoDefault program file number f old
      → IsFunctionFilled program file f old new → IsFunctionOf (DefaultIn setting) program file number f new
  function_whole file number f old new given of filled = record {
    name = filled.name ∙ of.name;
    oneway = filled.oneway ∙ of.oneway;
    args = filled.args ∙ of.args;
    result = subst (ResultMeans program file f.result) (sym filled.result) of.result;
    throws = fields_whole file fields.Args f.throws old.throws new.throws given of.throws filled.throws;
  }

  functions_whole : (file number : ℕ) (fs : List FunctionDecl) (old new : List PlainFunction) → AllByRecursion (AreThrownGiven program file) fs
      → AreFunctionsOf NoDefault program file number fs old → AllZipped (IsFunctionFilled program file) fs old new → AreFunctionsOf (DefaultIn setting) program file number fs new
  functions_whole file number [] [] [] g r f = tt
  functions_whole file number [] [] (c ∷ cs) g r f = absurd f
  functions_whole file number [] (b ∷ bs) cs g r f = absurd r
  functions_whole file number (a ∷ ws) [] cs g r f = absurd r
  functions_whole file number (a ∷ ws) (b ∷ bs) [] g r f = absurd f
  functions_whole file number (a ∷ ws) (b ∷ bs) (c ∷ cs) g r f =
      (function_whole file number a b c g.0 r.0 f.0, functions_whole file (suc number) ws bs cs g.1 r.1 f.1)

  service_whole : (args : ℕ) (s : Filed ServiceDecl) (old new : PlainService) → IsServiceGiven program s → IsServiceOf NoDefault program args s old → IsServiceFilled program s old new
      → IsServiceOf (DefaultIn setting) program args s new
  service_whole args s old new given of filled = record {
    file = filled.file ∙ of.file;
    name = filled.name ∙ of.name;
    parent = filled.parent ∙ of.parent;
    functions = functions_whole s.file args s.item.functions old.functions new.functions given of.functions filled.functions;
  }

  services_whole : (args : ℕ) (ss : List (Filed ServiceDecl)) (old new : List PlainService) → AllByRecursion (IsServiceGiven program) ss
      → AreServicesOf NoDefault program args ss old → AllZipped (IsServiceFilled program) ss old new → AreServicesOf (DefaultIn setting) program args ss new
  services_whole args [] [] [] g r f = tt
  services_whole args [] [] (c ∷ cs) g r f = absurd f
  services_whole args [] (b ∷ bs) cs g r f = absurd r
  services_whole args (a ∷ ws) [] cs g r f = absurd r
  services_whole args (a ∷ ws) (b ∷ bs) [] g r f = absurd f
  services_whole args (a ∷ ws) (b ∷ bs) (c ∷ cs) g r f =
      (service_whole args a b c g.0 r.0 f.0, services_whole (args + length a.item.functions) ws bs cs g.1 r.1 f.1)

  constants_whole : (cs : List (Filed ConstDecl)) (ps : List PlainConstant) → AllByRecursion (IsConstantGiven program) cs → AllZip (IsConstantTaken program) cs ps
      → AllZip (IsConstantOf setting) cs ps
  constants_whole [] [] g h = tt
  constants_whole [] (p ∷ ps) g h = absurd h
  constants_whole (c ∷ cs) [] g h = absurd h
  constants_whole (c ∷ cs) (p ∷ ps) g h = (
    record {
      file = h.0.file;
      name = h.0.name;
      kind = h.0.kind;
      value = worth_beside c.file c.item.name.at c.item.type c.item.value p.kind p.value g.0 h.0.kind h.0.value;
    },
    constants_whole cs ps g.1 h.1,
  )

  pub schema_whole : (new : PlainSchema) → new.files ≡ partial.files → new.aliases ≡ partial.aliases → new.enums ≡ partial.enums
      → AllZipped (IsStructFilled program) (map sited (field_lists program)) partial.structs new.structs
      → AllZipped (IsServiceFilled program) (services_of program) partial.services new.services
      → AllZip (IsConstantTaken program) (constants_of program) new.constants → IsWholeSchema program partial new
  schema_whole new f a e structs services constants = record {
    whole = record {
      files = f ∙ made.made.files;
      aliases = subst (AllZip (IsAliasOf program) (typedefs_of program)) (sym a) made.made.aliases;
      enums = e ∙ made.made.enums;
      structs =
          zipped_becomes (IsListGiven program) (IsStructFrom NoDefault program) (IsStructFrom (DefaultIn setting) program) (λ d. IsStructFilled program (sited d)) struct_whole
          (field_lists program) partial.structs new.structs (lists_are_given program) made.made.structs
          (zipped_unmapped sited (IsStructFilled program) (field_lists program) partial.structs new.structs structs);
      services = services_whole (length (structs_of program)) (services_of program) partial.services new.services (services_given program) made.made.services services;
    };
    constants = constants_whole (constants_of program) new.constants (constants_given program) constants;
  }
