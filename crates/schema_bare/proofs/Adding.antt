-- Structs of a schema, some more at the end of others.
use Rattle.std.proofs.Common.{◌≡◌, ◌≤◌, ◌<◌, ◌+◌, ◌++◌, ℕ, List, [], ◌∷◌, map, length, get_or, take, Result, Ok, IfOk, refl, ap, sym, subst, ◌∙◌, append_assoc}
use Rattle.std.specs.List.{flat_map, AllZip}
use Rattle.std.proofs.lemmas.List.{append-nil, map-append, take_all}
use Rattle.idl_parser.specs.declared.tree.Function.{Function}
use Rattle.idl_parser.specs.declared.tree.Struct.{Struct}
use Rattle.idl_parser.specs.declared.tree.Service.{Service}
use Rattle.idl_include.specs.DeclaredIn.{function_in}
use Rattle.idl_include.specs.Program.{Program}
use Rattle.idl_include.specs.Numbering.{Filed, filed, structs_of, services_of, functions_in, all_functions}
use Rattle.idl_include.specs.Declarations.{ServiceDecl}
use Rattle.idl_names.specs.declared.filed.InFile.{InFile}
use Rattle.idl_names.specs.FiledIn.{filed_by, filed_structs, filed_services, service_declared}
use Rattle.idl_names.proofs.Marked.{taken_more}
use Rattle.schema.specs.declared.types.StructDesc.{StructDesc}
use Rattle.schema.specs.PlainSchema.{PlainStruct}
use Rattle.schema.specs.SchemaOf.{plain_struct}
use Rattle.check_model.specs.FieldLists.{FieldsDecl, fields_of_struct, args_of_function, field_lists}
use Rattle.check_model.specs.SchemaParts.{NoDefault, IsStructFrom}
use Rattle.schema_bare.specs.GivenLists.{struct_given, args_given, service_args, all_given}
use Rattle.schema_bare.specs.StructsAdded.{AreStructs, AddsStructs}
use Rattle.schema_bare.proofs.Zipped.{zip_push, mapped_push, taken_push}

pub adds_none : (program : Program) (made : List StructDesc) → AddsStructs program [] made made
adds_none program made = record { behind = λ front h. subst (λ (ds : List FieldsDecl). AreStructs program ds made) (sym (append-nil front)) h }

pub adds_one : (program : Program) (d : FieldsDecl) (one : StructDesc) (old new : List StructDesc) → new ≡ old ++ one ∷ []
    → IsStructFrom NoDefault program d (plain_struct one) → AddsStructs program (d ∷ []) old new
adds_one program d one old new pushed is = record {
  behind = λ front h.
      subst (λ (ps : List PlainStruct). AllZip (IsStructFrom NoDefault program) (front ++ d ∷ []) ps) (sym (mapped_push plain_struct old new one pushed))
      (zip_push (IsStructFrom NoDefault program) front (map plain_struct old) d (plain_struct one) h is);
}

-- some, and then some behind them
pub adds_more : (program : Program) (first more both : List FieldsDecl) (old mid new : List StructDesc) → both ≡ first ++ more
    → AddsStructs program first old mid → AddsStructs program more mid new → AddsStructs program both old new
adds_more program first more both old mid new is a b = record {
  behind = λ front h.
      subst (λ (ds : List FieldsDecl). AreStructs program ds new) (append_assoc front first more ∙ ap (λ (ds : List FieldsDecl). front ++ ds) (sym is))
      (b.behind (front ++ first) (a.behind front h));
}

-- the structs of one item more of a list
pub adds_next : {D : Type 0} (program : Program) (given : D → FieldsDecl) (items : List D) (i : ℕ) (x : D) (first old new : List StructDesc)
    → i < length items → x ≡ get_or items i x → AddsStructs program (given x ∷ []) old new
    → AddsStructs program (map given (take i items)) first old → AddsStructs program (map given (take (i + 1) items)) first new
adds_next program given items i x first old new l here own so_far =
    adds_more program (map given (take i items)) (given x ∷ []) (map given (take (i + 1) items)) first old new (taken_push given items i x l here) so_far own

pub adds_all : {D : Type 0} (program : Program) (given : D → FieldsDecl) (items : List D) (n : ℕ) (first new : List StructDesc) → length items ≤ n
    → AddsStructs program (map given (take n items)) first new → AddsStructs program (map given items) first new
adds_all program given items n first new past so_far =
    subst (λ (ds : List FieldsDecl). AddsStructs program ds first new) (ap (map given) (take_all n items past)) so_far

flat_push : {D : Type 0} (given : D → List FieldsDecl) (xs : List D) (x : D) → flat_map given (xs ++ x ∷ []) ≡ flat_map given xs ++ given x
flat_push given [] x = append-nil (given x)
flat_push given (y ∷ xs) x = ap (λ ds. given y ++ ds) (flat_push given xs x) ∙ sym (append_assoc (given y) (flat_map given xs) (given x))

-- the structs of one service more
pub adds_service : (program : Program) (services : List (InFile Service)) (i : ℕ) (x : InFile Service) (first old new : List StructDesc)
    → i < length services → x ≡ get_or services i x → AddsStructs program (service_args x) old new
    → AddsStructs program (flat_map service_args (take i services)) first old → AddsStructs program (flat_map service_args (take (i + 1) services)) first new
adds_service program services i x first old new l here own so_far =
    adds_more program (flat_map service_args (take i services)) (service_args x) (flat_map service_args (take (i + 1) services)) first old new
    (ap (flat_map service_args) (taken_more services i x l here) ∙ flat_push service_args (take i services) x) so_far own

pub adds_services : (program : Program) (services : List (InFile Service)) (n : ℕ) (first new : List StructDesc) → length services ≤ n
    → AddsStructs program (flat_map service_args (take n services)) first new → AddsStructs program (flat_map service_args services) first new
adds_services program services n first new past so_far =
    subst (λ (ds : List FieldsDecl). AddsStructs program ds first new) (ap (flat_map service_args) (take_all n services past)) so_far

-- ---- all lists of fields are those of the program

structs_given : (structs : List (InFile Struct)) → map struct_given structs ≡ map fields_of_struct (filed_structs structs)
structs_given [] = refl
structs_given (s ∷ structs) = ap (λ ds. struct_given s ∷ ds) (structs_given structs)

args_alike : (file : ℕ) (functions : List Function) → map (args_given file) functions ≡ map args_of_function (filed file (map function_in functions))
args_alike file [] = refl
args_alike file (f ∷ functions) = ap (λ ds. args_given file f ∷ ds) (args_alike file functions)

services_given : (services : List (InFile Service)) → flat_map service_args services ≡ map args_of_function (flat_map functions_in (filed_services services))
services_given [] = refl
services_given (s ∷ services) =
    (λ i. args_alike s.file s.item.now.functions.items i ++ services_given services i)
    ∙ sym (map-append args_of_function (functions_in (filed_by service_declared s)) (flat_map functions_in (filed_services services)))

pub lists_given : (program : Program) (structs : List (InFile Struct)) (services : List (InFile Service)) → filed_structs structs ≡ structs_of program
    → filed_services services ≡ services_of program → all_given structs services ≡ field_lists program
unfolding field_lists all_functions
lists_given program structs services s v =
    (λ i. (structs_given structs ∙ ap (map fields_of_struct) s) i ++ (services_given services ∙ ap (λ (ss : List (Filed ServiceDecl)). map args_of_function (flat_map functions_in ss)) v) i)

pub all_made : (program : Program) (structs : List (InFile Struct)) (services : List (InFile Service)) (none mid new : List StructDesc) → filed_structs structs ≡ structs_of program
    → filed_services services ≡ services_of program → none ≡ [] → AddsStructs program (map struct_given structs) none mid → AddsStructs program (flat_map service_args services) mid new
    → AllZip (IsStructFrom NoDefault program) (field_lists program) (map plain_struct new)
all_made program structs services none mid new s v empty a b =
    let start : AreStructs program [] none = subst (λ (made : List StructDesc). AreStructs program [] made) (sym empty) tt in
    subst (λ (ds : List FieldsDecl). AreStructs program ds new) (lists_given program structs services s v)
    ((adds_more program (map struct_given structs) (flat_map service_args services) (all_given structs services) none mid new refl a b).behind [] start)

-- what holds of what was made, if it was
pub read_ok : {A E : Type 0} (P : A → Type 0) (r : Result A E) (x : A) → r ≡ Ok x → IfOk r P → P x
read_ok {A} {E} P r x e h = let Q : Result A E → Type 0 = λ s. IfOk s P in subst Q e h
