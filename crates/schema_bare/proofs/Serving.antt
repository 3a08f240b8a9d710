-- Functions and services of a schema, one more at a time.
use Rattle.std.proofs.Common.{◌≡◌, ◌≤◌, ◌<◌, ◌+◌, ◌++◌, ℕ, suc, List, [], ◌∷◌, map, length, get_or, take, refl, ap, sym, subst, ◌∙◌, arith}
use Rattle.std.proofs.lemmas.List.{take_all, length-map, length-take-le}
use Rattle.idl_parser.specs.declared.tree.Function.{Function}
use Rattle.idl_parser.specs.declared.tree.Service.{Service}
use Rattle.idl_include.specs.Declarations.{FunctionDecl, ServiceDecl}
use Rattle.idl_include.specs.DeclaredIn.{function_in}
use Rattle.idl_include.specs.Program.{Program}
use Rattle.idl_include.specs.Numbering.{Filed}
use Rattle.idl_names.specs.declared.filed.InFile.{InFile}
use Rattle.idl_names.specs.FiledIn.{filed_by, filed_services, service_declared}
use Rattle.schema.specs.declared.types.FnDesc.{FnDesc}
use Rattle.schema.specs.declared.types.ServiceDesc.{ServiceDesc}
use Rattle.schema.specs.PlainSchema.{PlainFunction, PlainService}
use Rattle.schema.specs.SchemaOf.{plain_function, plain_service}
use Rattle.check_model.specs.SchemaParts.{NoDefault, IsFunctionOf, AreFunctionsOf, IsServiceOf, AreServicesOf}
use Rattle.schema_bare.proofs.Zipped.{mapped_push, taken_push}

functions_push : (program : Program) (file n m : ℕ) (fs : List FunctionDecl) (ps : List PlainFunction) (f : FunctionDecl) (p : PlainFunction) → m ≡ n + length fs
    → AreFunctionsOf NoDefault program file n fs ps → IsFunctionOf NoDefault program file m f p → AreFunctionsOf NoDefault program file n (fs ++ f ∷ []) (ps ++ p ∷ [])
functions_push program file n m [] [] f p e h is =
    let P : ℕ → Type 0 = λ k. IsFunctionOf NoDefault program file k f p in
    let same : m ≡ n = omega arith in
    (subst P same is, tt)
functions_push program file n m [] (q ∷ ps) f p e h is = absurd h
functions_push program file n m (g ∷ fs) [] f p e h is = absurd h
functions_push program file n m (g ∷ fs) (q ∷ ps) f p e h is = (h.0, functions_push program file (suc n) m fs ps f p (omega arith) h.1 is)

pub function_next : (program : Program) (file first args : ℕ) (functions : List Function) (i : ℕ) (x : Function) (one : FnDesc) (old new : List FnDesc)
    → i < length functions → x ≡ get_or functions i x → args ≡ first + i → new ≡ old ++ one ∷ []
    → IsFunctionOf NoDefault program file args (function_in x) (plain_function one)
    → AreFunctionsOf NoDefault program file first (map function_in (take i functions)) (map plain_function old)
    → AreFunctionsOf NoDefault program file first (map function_in (take (i + 1) functions)) (map plain_function new)
function_next program file first args functions i x one old new l here counted pushed is so_far =
    let so_many : length (map function_in (take i functions)) ≡ i = length-map (take i functions) function_in ∙ length-take-le i functions (omega arith) in
    let P : List FunctionDecl → Type 0 = λ fs. AreFunctionsOf NoDefault program file first fs (map plain_function new) in
    let Q : List PlainFunction → Type 0 = λ ps. AreFunctionsOf NoDefault program file first (map function_in (take i functions) ++ function_in x ∷ []) ps in
    subst P (sym (taken_push function_in functions i x l here))
    (subst Q (sym (mapped_push plain_function old new one pushed))
    (functions_push program file first args (map function_in (take i functions)) (map plain_function old) (function_in x) (plain_function one) (omega arith) so_far is))

pub functions_end : (program : Program) (file first : ℕ) (functions : List Function) (n : ℕ) (ps : List PlainFunction) → length functions ≤ n
    → AreFunctionsOf NoDefault program file first (map function_in (take n functions)) ps → AreFunctionsOf NoDefault program file first (map function_in functions) ps
functions_end program file first functions n ps past so_far =
    let P : List Function → Type 0 = λ fs. AreFunctionsOf NoDefault program file first (map function_in fs) ps in
    subst P (take_all n functions past) so_far

-- the number of the first struct behind those of the functions of services
abbrev pub behind_services : ℕ → List (Filed ServiceDecl) → ℕ
behind_services n [] = n
behind_services n (s ∷ ss) = behind_services (n + length s.item.functions) ss

one_service_behind : (n : ℕ) (ss : List (Filed ServiceDecl)) (s : Filed ServiceDecl) → behind_services n (ss ++ s ∷ []) ≡ behind_services n ss + length s.item.functions
one_service_behind n [] s = refl
one_service_behind n (t ∷ ss) s = one_service_behind (n + length t.item.functions) ss s

services_push : (program : Program) (n : ℕ) (ss : List (Filed ServiceDecl)) (ps : List PlainService) (s : Filed ServiceDecl) (p : PlainService)
    → AreServicesOf NoDefault program n ss ps → IsServiceOf NoDefault program (behind_services n ss) s p → AreServicesOf NoDefault program n (ss ++ s ∷ []) (ps ++ p ∷ [])
services_push program n [] [] s p h is = (is, tt)
services_push program n [] (q ∷ ps) s p h is = absurd h
services_push program n (t ∷ ss) [] s p h is = absurd h
services_push program n (t ∷ ss) (q ∷ ps) s p h is = (h.0, services_push program (n + length t.item.functions) ss ps s p h.1 is)

pub service_next : (program : Program) (first number : ℕ) (services : List (InFile Service)) (i : ℕ) (x : InFile Service) (one : ServiceDesc) (old new : List ServiceDesc)
    → i < length services → x ≡ get_or services i x → new ≡ old ++ one ∷ []
    → IsServiceOf NoDefault program number (filed_by service_declared x) (plain_service one)
    → number ≡ behind_services first (filed_services (take i services))
    → AreServicesOf NoDefault program first (filed_services (take i services)) (map plain_service old)
    → AreServicesOf NoDefault program first (filed_services (take (i + 1) services)) (map plain_service new)
service_next program first number services i x one old new l here pushed is counted so_far =
    let P : List (Filed ServiceDecl) → Type 0 = λ ss. AreServicesOf NoDefault program first ss (map plain_service new) in
    let Q : List PlainService → Type 0 = λ ps. AreServicesOf NoDefault program first (filed_services (take i services) ++ filed_by service_declared x ∷ []) ps in
    let R : ℕ → Type 0 = λ k. IsServiceOf NoDefault program k (filed_by service_declared x) (plain_service one) in
    subst P (sym (taken_push (filed_by service_declared) services i x l here))
    (subst Q (sym (mapped_push plain_service old new one pushed))
    (services_push program first (filed_services (take i services)) (map plain_service old) (filed_by service_declared x) (plain_service one) so_far (subst R counted is)))

pub number_next : (first number next : ℕ) (services : List (InFile Service)) (i : ℕ) (x : InFile Service) → i < length services → x ≡ get_or services i x
    → next ≡ number + length x.item.now.functions.items → number ≡ behind_services first (filed_services (take i services))
    → next ≡ behind_services first (filed_services (take (i + 1) services))
number_next first number next services i x l here moved counted =
    moved
    ∙ (λ j. counted j + sym (length-map x.item.now.functions.items function_in) j)
    ∙ sym (one_service_behind first (filed_services (take i services)) (filed_by service_declared x))
    ∙ ap (behind_services first) (sym (taken_push (filed_by service_declared) services i x l here))

pub services_end : (program : Program) (first : ℕ) (services : List (InFile Service)) (n : ℕ) (ps : List PlainService) → length services ≤ n
    → AreServicesOf NoDefault program first (filed_services (take n services)) ps → AreServicesOf NoDefault program first (filed_services services) ps
services_end program first services n ps past so_far =
    let P : List (InFile Service) → Type 0 = λ ss. AreServicesOf NoDefault program first (filed_services ss) ps in
    subst P (take_all n services past) so_far
