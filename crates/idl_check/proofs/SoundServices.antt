-- The services of a program's schema are sound.
use Rattle.std.proofs.Common.{◌≡◌, ◌<◌, ◌≤◌, ◌+◌, ◌-◌, ℕ, zero, suc, List, [], ◌∷◌, ◌++◌, map, length, Option, None, Some, slice_get, All, refl, sym, subst, length-append, arith}
use Rattle.std.specs.Prelude.{MatchOption, ⊤}
use Rattle.std.specs.List.{AllByRecursion, flat_map}
use Rattle.std.proofs.lemmas.List.Elements.{All-from_recursion}
use Rattle.idl_include.specs.Declarations.{FieldDecl, FunctionDecl, ServiceDecl}
use Rattle.idl_include.specs.TypeExpr.{TypeExpr}
use Rattle.idl_include.specs.Program.{Program}
use Rattle.idl_include.specs.Numbering.{Filed, structs_of, services_of, functions_in, all_functions}
use Rattle.idl_include.specs.Cycles.{parent_named}
use Rattle.schema.specs.declared.types.FieldsKind.TheVariants as fields
use Rattle.schema.specs.PlainKind.{PlainKind}
use Rattle.schema.specs.PlainSchema.{PlainField, PlainFunction, PlainService, PlainSchema}
use Rattle.schema.specs.Sound.{IsSchemaName, IsKindIn, IsStructOf, IsException, IsPlaceIn, IsSoundFunction, IsSoundService}
use Rattle.check_model.specs.FieldLists.{NumberedField, fields_by_id, fields_of_struct, args_of_function, field_lists}
use Rattle.check_model.specs.SchemaParts.{DefaultRule, IsFieldOf, AreFieldsOf, IsStructFrom, ResultMeans, IsFunctionOf, AreFunctionsOf, IsServiceOf, AreServicesOf, IsSchemaWith}
use Rattle.idl_check.specs.Clean.{IsClean}
use Rattle.idl_check.specs.DeclaredTexts.{IsProgramOfTexts}
use Rattle.idl_check.proofs.RisingFields.{by_id_holds}
use Rattle.idl_check.proofs.TypeKinds.{parent_within}
use Rattle.idl_check.proofs.Sizes.{same_length}
use Rattle.idl_check.proofs.SchemaSizes.{service_size, kind_in}
use Rattle.idl_check.proofs.Clear.{MayBeThrown}
use Rattle.idl_check.proofs.Fine.{IsFineFunction, IsFineService, services_fine, without_numbers}
use Rattle.idl_check.proofs.SoundFields.{GivesValues, zip_turned, sound_fields, file_in}
use Rattle.idl_check.proofs.FileParts.{zip_at, at_mapped}
use Rattle.idl_check.proofs.Thrown.{struct_of_kind, is_exception}

some_at : {A : Type 0} (xs : List A) (k : ℕ) → k < length xs → (x : A) × (slice_get xs k ≡ Some x)
some_at [] k within = absurd (omega arith)
some_at (x ∷ xs) zero within = (x, refl)
some_at (x ∷ xs) (suc k) within = some_at xs k (omega arith)

-- an element behind a front
behind_at : {A : Type 0} (xs ys : List A) (k : ℕ) (y : A) → slice_get ys k ≡ Some y → slice_get (xs ++ ys) (length xs + k) ≡ Some y
behind_at {A} [] ys k y e = let P : ℕ → Type 0 = λ j. slice_get ys j ≡ Some y in subst P (let f : k ≡ 0 + k = omega arith in f) e
behind_at {A} (x ∷ xs) ys k y e =
    let P : ℕ → Type 0 = λ j. slice_get {X = A} (x ∷ (xs ++ ys)) j ≡ Some y in
    subst P (let f : suc (length xs + k) ≡ suc (length xs) + k = omega arith in f) (behind_at xs ys k y e)

-- the arguments of a function among the lists of fields
args_list_at : (program : Program) (k : ℕ) (f : Filed FunctionDecl) → slice_get (all_functions program) k ≡ Some f
    → slice_get (field_lists program) (length (structs_of program) + k) ≡ Some (args_of_function f)
unfolding field_lists
args_list_at program k f e =
    let structs = map fields_of_struct (structs_of program) in
    let P : ℕ → Type 0 = λ n. slice_get (structs ++ map args_of_function (all_functions program)) (n + k) ≡ Some (args_of_function f) in
    subst P (same_length fields_of_struct (structs_of program)) (behind_at structs (map args_of_function (all_functions program)) k (args_of_function f)
    (at_mapped args_of_function (all_functions program) k f e))

module _ (D : DefaultRule) (program : Program) (schema : PlainSchema) (texts : IsProgramOfTexts program) (is_clean : IsClean program) (whole : IsSchemaWith D program schema)
    (values : GivesValues D program schema) where
  args_struct : (number : ℕ) → length (structs_of program) ≤ number → number < length (structs_of program) + length (all_functions program) → IsStructOf schema fields.Args number
  args_struct number from within =
      let place = number - length (structs_of program) in
      let (f, at) = some_at (all_functions program) place (omega arith) in
      let (p, found, made) = zip_at (IsStructFrom D program) (field_lists program) schema.structs whole.structs (length (structs_of program) + place) (args_of_function f) (args_list_at program place f at) in
      subst (IsStructOf schema fields.Args) (let e : length (structs_of program) + place ≡ number = omega arith in e)
      (struct_of_kind schema (length (structs_of program) + place) p fields.Args found made.kind)

  result_in : (file : ℕ) (t : Option TypeExpr) (k : Option PlainKind) → ResultMeans program file t k → MatchOption k ⊤ (IsKindIn schema)
  result_in file None None means = tt
  result_in file None (Some k) means = absurd means
  result_in file (Some t) None means = absurd means
  result_in file (Some t) (Some k) means = kind_in D program schema whole file t k means

  thrown_in : (file : ℕ) (fs : List FieldDecl) (ps : List PlainField) → AllByRecursion (MayBeThrown program file) fs → AreFieldsOf D program file fields.Args fs ps
      → All (λ (t : PlainField). IsException schema t.kind) ps
  thrown_in file fs ps thrown are =
      All-from_recursion (λ (t : PlainField). IsException schema t.kind) ps
      (zip_turned (λ (f : NumberedField). MayBeThrown program file f.decl) (IsFieldOf D program file fields.Args) (λ (t : PlainField). IsException schema t.kind)
      (λ f p may of. is_exception D program schema whole file f.decl.type may p.kind of.kind) (fields_by_id fs) ps (by_id_holds (MayBeThrown program file) fs thrown) are)

  sound_function : (file number : ℕ) (f : FunctionDecl) (p : PlainFunction) → length (structs_of program) ≤ number → number < length (structs_of program) + length (all_functions program)
      → IsFineFunction program file f → IsFunctionOf D program file number f p → IsSoundFunction schema p
  sound_function file number f p from within fine of = record {
    name = subst IsSchemaName (sym of.name) fine.name;
    args = subst (IsStructOf schema fields.Args) (sym of.args) (args_struct number from within);
    result = result_in file f.result p.result of.result;
    throws = sound_fields D program schema texts is_clean whole values file fields.Args f.throws p.throws fine.throws fine.fresh_throws of.throws;
    exceptions = thrown_in file f.throws p.throws fine.thrown of.throws;
  }

  sound_functions : (file args : ℕ) (fs : List FunctionDecl) (ps : List PlainFunction) → length (structs_of program) ≤ args → args + length fs ≤ length (structs_of program) + length (all_functions program)
      → AllByRecursion (IsFineFunction program file) fs → AreFunctionsOf D program file args fs ps → AllByRecursion (IsSoundFunction schema) ps
  sound_functions file args [] [] from within fine are = tt
  sound_functions file args [] (p ∷ ps) from within fine are = absurd are
  sound_functions file args (f ∷ fs) [] from within fine are = absurd are
  sound_functions file args (f ∷ fs) (p ∷ ps) from within fine are =
      (sound_function file args f p from (omega arith) fine.0 are.0, sound_functions file (suc args) fs ps (omega arith) (omega arith) fine.1 are.1)

  parent_in : (a b : Option ℕ) → a ≡ b → MatchOption b ⊤ (λ k. k < length (services_of program)) → MatchOption a ⊤ (IsPlaceIn schema.services)
  parent_in a b same h =
      let P : Option ℕ → Type 0 = λ o. MatchOption o ⊤ (IsPlaceIn schema.services) in subst P (sym same) (wider b h)
    where
      wider : (o : Option ℕ) → MatchOption o ⊤ (λ k. k < length (services_of program)) → MatchOption o ⊤ (IsPlaceIn schema.services)
      wider None h = tt
      wider (Some k) h = omega (arith, h, service_size D program schema whole)

  sound_service : (args : ℕ) (s : Filed ServiceDecl) (p : PlainService) → length (structs_of program) ≤ args → args + length s.item.functions ≤ length (structs_of program) + length (all_functions program)
      → (number : ℕ) → IsFineService program number s → IsServiceOf D program args s p → IsSoundService schema p
  sound_service args s p from within number fine of = record {
    file = subst (λ n. n < length schema.files) (sym of.file) (file_in D program schema texts is_clean whole values s.file fine.file);
    name = subst IsSchemaName (sym of.name) fine.name;
    parent = parent_in p.parent (parent_named program s) of.parent (parent_within program s);
    functions = All-from_recursion (IsSoundFunction schema) p.functions (sound_functions s.file args s.item.functions p.functions from within fine.functions of.functions);
  }

  abbrev IsFineSomewhere : Filed ServiceDecl → Type 0
  IsFineSomewhere s = (number : ℕ) × IsFineService program number s

  services_sound : (args : ℕ) (ss : List (Filed ServiceDecl)) (ps : List PlainService) → length (structs_of program) ≤ args
      → args + length (flat_map functions_in ss) ≤ length (structs_of program) + length (all_functions program) → AllByRecursion IsFineSomewhere ss
      → AreServicesOf D program args ss ps → AllByRecursion (IsSoundService schema) ps
  services_sound args [] [] from within fine are = tt
  services_sound args [] (p ∷ ps) from within fine are = absurd are
  services_sound args (s ∷ ss) [] from within fine are = absurd are
  services_sound args (s ∷ ss) (p ∷ ps) from within fine are =
      let both = length-append (functions_in s) (flat_map functions_in ss) in
      let as_many = same_length (λ (f : FunctionDecl). let g : Filed FunctionDecl = record { file = s.file; item = f } in g) s.item.functions in (
        sound_service args s p from (omega (arith, within, both, as_many)) fine.0.0 fine.0.1 are.0,
        services_sound (args + length s.item.functions) ss ps (omega arith) (omega (arith, within, both, as_many)) fine.1 are.1,
      )

  pub sound_services : All (IsSoundService schema) schema.services
  unfolding all_functions
  sound_services =
      All-from_recursion (IsSoundService schema) schema.services
      (services_sound (length (structs_of program)) (services_of program) schema.services (omega arith) (omega arith)
      (without_numbers (IsFineService program) IsFineSomewhere (λ number s fine. (number, fine)) 0 (services_of program) (services_fine program texts is_clean)) whole.services)
