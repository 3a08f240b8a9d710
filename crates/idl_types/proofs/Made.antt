-- The type of one typedef more is made.
use Rattle.std.proofs.Common.{◌≡◌, ◌≢◌, ◌⊎◌, ◌≤◌, ◌<◌, inl, inr, eqb, true, false, ℕ, zero, suc, Option, None, Some, List, [], ◌∷◌, ◌++◌, map, length, get_or, set, slice_get, Result, Ok, Err, OnOk, refl, ap, sym, subst, ◌∙◌, arith, true≢false, is_some, IsSome}
use Rattle.std.specs.Option.{option_and_then, option_map}
use Rattle.std.specs.List.{list_all}
use Rattle.std.proofs.lemmas.Bool.Decides.{eqb_tells}
use Rattle.std.proofs.lemmas.List.{length-map}
use Rattle.idl_parser.specs.declared.tree.Typedef.{Typedef}
use Rattle.idl_include.specs.Declarations.{TypedefDecl}
use Rattle.idl_include.specs.DeclaredIn.{type_in}
use Rattle.idl_include.specs.Program.{Program}
use Rattle.idl_include.specs.Numbering.{Filed, typedefs_of}
use Rattle.idl_names.specs.declared.filed.InFile.{InFile}
use Rattle.idl_names.specs.FiledIn.{filed_by, filed_typedefs, typedef_declared}
use Rattle.schema.specs.declared.types.TypeDesc.{TypeDesc}
use Rattle.schema.specs.PlainKind.{PlainKind, kind_of}
use Rattle.check_model.specs.Resolved.{kind_by, alias_kind, TypeMeans}
use Rattle.idl_types.specs.Known.{known_kind, AreAliasTypes}

set_same : {A : Type 0} (xs : List A) (i : ℕ) (v : A) → i < length xs → slice_get (set xs i v) i ≡ Some v
set_same [] i v l = absurd (omega arith)
set_same (x ∷ xs) zero v l = refl
set_same (x ∷ xs) (suc i) v l = set_same xs i v (omega arith)

set_other : {A : Type 0} (xs : List A) (i j : ℕ) (v : A) → (i ≡ j → ⊥) → slice_get (set xs i v) j ≡ slice_get xs j
set_other [] i j v n = refl
set_other (x ∷ xs) zero zero v n = absurd (n refl)
set_other (x ∷ xs) zero (suc j) v n = refl
set_other (x ∷ xs) (suc i) zero v n = refl
set_other (x ∷ xs) (suc i) (suc j) v n = set_other xs i j v (λ e. n (ap suc e))

pub mapped_at : {A B : Type 0} (f : A → B) (xs : List A) (i : ℕ) (x : A) → i < length xs → x ≡ get_or xs i x → slice_get (map f xs) i ≡ Some (f x)
mapped_at f [] i x l here = absurd (omega arith)
mapped_at f (y ∷ xs) zero x l here = ap (λ z. Some (f z)) (sym here)
mapped_at f (y ∷ xs) (suc i) x l here = mapped_at f xs i x (omega arith) here

-- the typedef of this number means the type
alias_means : (program : Program) (typedefs : List (InFile Typedef)) (i : ℕ) (x : InFile Typedef) (k : PlainKind)
    → filed_typedefs typedefs ≡ typedefs_of program → i < length typedefs → x ≡ get_or typedefs i x → TypeMeans program x.file (type_in x.item.now.kind) k
    → (deep : ℕ) × (alias_kind program deep i ≡ Some k)
unfolding alias_kind
alias_means program typedefs i x k all l here means =
    let at : slice_get (typedefs_of program) i ≡ Some (filed_by typedef_declared x) =
    ap (λ (ts : List (Filed TypedefDecl)). slice_get ts i) (sym all) ∙ mapped_at (filed_by typedef_declared) typedefs i x l here in
    (suc means.0, ap (option_and_then (λ (t : Filed TypedefDecl). kind_by (alias_kind program means.0) program t.file t.item.type)) at ∙ means.1)

pub one_more_made : (program : Program) (typedefs : List (InFile Typedef)) (made : List (Option TypeDesc)) (i : ℕ) (x : InFile Typedef) (t : TypeDesc)
    → filed_typedefs typedefs ≡ typedefs_of program → i < length typedefs → x ≡ get_or typedefs i x → TypeMeans program x.file (type_in x.item.now.kind) (kind_of t)
    → i < length made → AreAliasTypes program made → AreAliasTypes program (set made i (Some t))
one_more_made program typedefs made i x t all l here means within are = record { right = λ number kind known. by number kind known (eqb_tells i number) }
  where
    after : Option (Option TypeDesc) → Option PlainKind
    after o = option_and_then (option_map kind_of) o

    by : (number : ℕ) (kind : PlainKind) → known_kind (set made i (Some t)) number ≡ Some kind
        → ((eqb i number ≡ true) × (i ≡ number)) ⊎ ((eqb i number ≡ false) × (i ≢ number)) → (deep : ℕ) × (alias_kind program deep number ≡ Some kind)
    by number kind known (inl (e, same)) =
        let own = alias_means program typedefs i x (kind_of t) all l here means in
        let is : Some (kind_of t) ≡ Some kind =
        sym (ap (λ (o : Option (Option TypeDesc)). option_and_then (option_map kind_of) o) (ap (slice_get (set made i (Some t))) (sym same) ∙ set_same made i (Some t) within)) ∙ known in
        (own.0, ap (alias_kind program own.0) (sym same) ∙ own.1 ∙ is)
    by number kind known (inr (e, other)) =
        are.right number kind (sym (ap (λ (o : Option (Option TypeDesc)). option_and_then (option_map kind_of) o) (set_other made i number (Some t) other)) ∙ known)

none_push : (made : List (Option TypeDesc)) → ((n : ℕ) → known_kind made n ≡ None) → (n : ℕ) → known_kind (made ++ None ∷ []) n ≡ None
none_push [] none zero = refl
none_push [] none (suc n) = refl
none_push (o ∷ made) none zero = none zero
none_push (o ∷ made) none (suc n) = none_push made (λ k. none (suc k)) n

pub none_next : (old new : List (Option TypeDesc)) → new ≡ old ++ None ∷ [] → ((n : ℕ) → known_kind old n ≡ None) → (n : ℕ) → known_kind new n ≡ None
none_next old new pushed none n = ap (λ made. known_kind made n) pushed ∙ none_push old none n

pub alias_put : {A E : Type 0} (r : Result A E) (program : Program) (typedefs : List (InFile Typedef)) (old new : List (Option TypeDesc)) (i : ℕ) (x : InFile Typedef) (t : TypeDesc)
    → filed_typedefs typedefs ≡ typedefs_of program → i < length typedefs → x ≡ get_or typedefs i x → TypeMeans program x.file (type_in x.item.now.kind) (kind_of t)
    → AreAliasTypes program old → OnOk r (i < length old) → OnOk r (new ≡ set old i (Some t)) → OnOk r (AreAliasTypes program new)
alias_put (Ok done) program typedefs old new i x t all l here means are within put =
    subst (λ (made : List (Option TypeDesc)). AreAliasTypes program made) (sym put) (one_more_made program typedefs old i x t all l here means within are)
alias_put (Err e) program typedefs old new i x t all l here means are within put = tt

some_known : (made : List (Option TypeDesc)) (n : ℕ) → list_all (λ (o : Option TypeDesc). is_some o) made ≡ true → n < length made → IsSome (known_kind made n)
some_known [] n e l = absurd (omega arith)
some_known (None ∷ made) n e l = absurd (true≢false (sym e))
some_known (Some kind ∷ made) zero e l = refl
some_known (Some kind ∷ made) (suc n) e l = some_known made n e (omega arith)

-- where each type is made, that of each typedef is known
pub all_known : (program : Program) (typedefs : List (InFile Typedef)) (made : List (Option TypeDesc)) → filed_typedefs typedefs ≡ typedefs_of program
    → length typedefs ≤ length made → list_all (λ (o : Option TypeDesc). is_some o) made ≡ true
    → (number : ℕ) → number < length (typedefs_of program) → IsSome (known_kind made number)
all_known program typedefs made all few e number l =
    let so_many : length typedefs ≡ length (typedefs_of program) = sym (length-map typedefs (filed_by typedef_declared)) ∙ ap length all in
    some_known made number e (omega arith)
