-- Each program has a schema or a first fault.
use Rattle.std.proofs.Common.{◌≡◌, ◌⊎◌, inl, inr, ℕ, zero, suc, ◌<◌, ◌≤◌, Bool, true, false, List, [], ◌∷◌, ◌++◌, Option, None, Some, is_some, length, slice_get, refl, ap, sym, subst, arith}
use Rattle.std.specs.Option.{option_map_or}
use Rattle.std.specs.List.{AllByRecursion}
use Rattle.graph_cycles.specs.Walks.{Graph, LeadsTo}
use Rattle.idl_include.specs.Declarations.{FunctionDecl, ServiceDecl}
use Rattle.idl_include.specs.Program.{Program}
use Rattle.idl_include.specs.Numbering.{Filed, services_of}
use Rattle.idl_include.specs.Names.{is_dotted, type_named, service_for_name}
use Rattle.idl_include.specs.Cycles.{alias_graph, parent_graph, functions_by_number, HasFunction, Inherits}
use Rattle.idl_include.specs.Spots.{Spotted, given_name, type_use, parent_use, typedef_spot, field_spot, enum_value_spot, service_spot, function_spot, Spot, spots_of}
use Rattle.check_model.specs.Scalars.{has_bits}
use Rattle.check_model.specs.FiniteValues.{has_no_items}
use Rattle.check_model.specs.Passes.{Pass, dotted_name, duplicate_name, unknown_type, typedef_cycle, field_id, duplicate_id, enum_number, service_cycle, duplicate_function, oneway_not_void, oneway_throws, is_repeated, is_bad_id, is_id_repeated, number_behind, FindsFault}
use Rattle.check_model.specs.FirstFlaw.{ProgramFlaw, IsAtFault, IsClearAt, FindsNothing, IsFirstOf}
use Rattle.check_model.proofs.FirstOnes.{none_some}

-- it is so, or it isn't
abbrev pub Told : Type 0 → Type 0
Told A = A ⊎ (A → ⊥)

pub bool_told : (b : Bool) → Told (b ≡ true)
bool_told true = inl refl
bool_told false = inr (λ e. cc)

pub not_told : (b : Bool) → Told (b ≡ false)
not_told false = inl refl
not_told true = inr (λ e. cc)

pub none_told : {A : Type 0} (o : Option A) → Told (o ≡ None)
none_told None = inl refl
none_told (Some x) = inr (λ e. none_some x (sym e))

pub both_told : {A B : Type 0} → Told A → Told B → Told (A × B)
both_told (inl a) (inl b) = inl (a, b)
both_told (inl a) (inr b) = inr (λ h. b h.1)
both_told (inr a) b = inr (λ h. a h.0)

pub one_told : {A B : Type 0} → Told A → Told B → Told (A ⊎ B)
one_told (inl a) b = inl (inl a)
one_told (inr a) (inl b) = inl (inr b)
one_told {A} {B} (inr a) (inr b) = inr neither
  where
    neither : A ⊎ B → ⊥
    neither (inl x) = a x
    neither (inr x) = b x

pub none_is_told : {A : Type 0} → Told A → Told (A → ⊥)
none_is_told (inl a) = inr (λ n. n a)
none_is_told (inr n) = inl n

-- some number below this one, or none
abbrev SomeBelow : ℕ → (ℕ → Type 0) → Type 0
SomeBelow n Q = ((k : ℕ) × Q k) ⊎ ((k : ℕ) → k < n → Q k → ⊥)

last_or : (n : ℕ) (Q : ℕ → Type 0) → Told (Q n) → SomeBelow n Q → SomeBelow (suc n) Q
last_or n Q (inl q) rest = inl (n, q)
last_or n Q (inr no_q) (inl h) = inl h
last_or n Q (inr no_q) (inr none) = inr (λ k l q. by k l q (places n k l))
  where
    places : (n k : ℕ) → k < suc n → (k ≡ n) ⊎ (k < n)
    places zero zero l = inl refl
    places zero (suc k) l = absurd (let h : ⊥ = omega arith in h)
    places (suc n) zero l = inr (omega arith)
    places (suc n) (suc k) l = elim (places n k (omega arith)) as (λ h. (suc k ≡ suc n) ⊎ (suc k < suc n)) [ inl e ↦ inl (ap suc e) | inr h ↦ inr (omega arith) ]

    by : (k : ℕ) → k < suc n → Q k → (k ≡ n) ⊎ (k < n) → ⊥
    by k l q (inl e) = no_q (subst Q e q)
    by k l q (inr h) = none k h q

some_below : (n : ℕ) (Q : ℕ → Type 0) → ((k : ℕ) → Told (Q k)) → SomeBelow n Q
some_below zero Q told = inr (λ k l q. let h : ⊥ = omega arith in h)
some_below (suc n) Q told = last_or n Q (told n) (some_below n Q told)

-- what a pass finds at a spot, made of what it finds there
pub found_or_clear : {F : Type 0} (g : ProgramFlaw) → Told F → ((flaw : ProgramFlaw) × (F × (flaw ≡ g))) ⊎ ((flaw : ProgramFlaw) → F × (flaw ≡ g) → ⊥)
found_or_clear g (inl f) = inl (g, (f, refl))
found_or_clear g (inr n) = inr (λ flaw h. n h.0)

module _ (program : Program) where
  -- a pass finds a fault at a spot, or nothing
  abbrev pub Judged : Pass → Spot → Type 0
  Judged pass spot = ((flaw : ProgramFlaw) × IsAtFault pass program spot flaw) ⊎ IsClearAt program pass spot

  -- the first spot at fault, or none
  abbrev FirstIn : Pass → List Spot → Type 0
  FirstIn pass spots = (before : List Spot) × (spot : Spot) × (after : List Spot) × (flaw : ProgramFlaw) × (spots ≡ before ++ spot ∷ after)
      × AllByRecursion (IsClearAt program pass) before × IsAtFault pass program spot flaw

  first_or : (pass : Pass) (spot : Spot) (spots : List Spot) → Judged pass spot → FirstIn pass spots ⊎ AllByRecursion (IsClearAt program pass) spots
      → FirstIn pass (spot ∷ spots) ⊎ AllByRecursion (IsClearAt program pass) (spot ∷ spots)
  first_or pass spot spots (inl h) rest = inl ([], spot, spots, h.0, refl, tt, h.1)
  first_or pass spot spots (inr n) (inl h) = inl (spot ∷ h.0, h.1, h.2, h.3, ap (λ xs. spot ∷ xs) h.4, (n, h.5), h.6)
  first_or pass spot spots (inr n) (inr h) = inr (n, h)

  first_in : (pass : Pass) → ((spot : Spot) → Judged pass spot) → (spots : List Spot) → FirstIn pass spots ⊎ AllByRecursion (IsClearAt program pass) spots
  first_in pass judge [] = inr tt
  first_in pass judge (spot ∷ spots) = first_or pass spot spots (judge spot) (first_in pass judge spots)

  searched_by : (pass : Pass) → FirstIn pass (spots_of program) ⊎ FindsNothing program pass → ((flaw : ProgramFlaw) × IsFirstOf program pass flaw) ⊎ FindsNothing program pass
  searched_by pass (inl h) = inl (h.3, record { before = h.0; spot = h.1; after = h.2; split = h.4; clear = h.5; here = h.6 })
  searched_by pass (inr n) = inr n

  pub searched : (pass : Pass) → ((spot : Spot) → Judged pass spot) → ((flaw : ProgramFlaw) × IsFirstOf program pass flaw) ⊎ FindsNothing program pass
  searched pass judge = searched_by pass (first_in pass judge (spots_of program))

  -- the passes that need no other
  pub dotted_told : (file : ℕ) (x : Spotted) → Told (FindsFault dotted_name program file x)
  dotted_told file (given_name before name) = bool_told (is_dotted name.text)
  dotted_told file _ = inr (λ h. h)

  pub duplicate_told : (file : ℕ) (x : Spotted) → Told (FindsFault duplicate_name program file x)
  duplicate_told file (given_name before name) = bool_told (is_repeated before name)
  duplicate_told file _ = inr (λ h. h)

  pub unknown_told : (file : ℕ) (x : Spotted) → Told (FindsFault unknown_type program file x)
  unknown_told file (type_use name) = none_told (type_named program file name.text)
  unknown_told file (parent_use name) = none_told (service_for_name program file name.text)
  unknown_told file _ = inr (λ h. h)

  pub field_id_told : (file : ℕ) (x : Spotted) → Told (FindsFault field_id program file x)
  field_id_told file (field_spot before f) = bool_told (is_bad_id before f.id)
  field_id_told file _ = inr (λ h. h)

  pub duplicate_id_told : (file : ℕ) (x : Spotted) → Told (FindsFault duplicate_id program file x)
  duplicate_id_told file (field_spot before f) = bool_told (is_id_repeated before f)
  duplicate_id_told file _ = inr (λ h. h)

  pub enum_number_told : (file : ℕ) (x : Spotted) → Told (FindsFault enum_number program file x)
  enum_number_told file (enum_value_spot before v) = not_told (has_bits 32 (number_behind before v))
  enum_number_told file _ = inr (λ h. h)

  pub oneway_not_void_told : (file : ℕ) (x : Spotted) → Told (FindsFault oneway_not_void program file x)
  oneway_not_void_told file (function_spot service before f) = both_told (bool_told f.oneway) (bool_told (is_some f.result))
  oneway_not_void_told file _ = inr (λ h. h)

  pub oneway_throws_told : (file : ℕ) (x : Spotted) → Told (FindsFault oneway_throws program file x)
  oneway_throws_told file (function_spot service before f) = both_told (bool_told f.oneway) (not_told (has_no_items f.throws))
  oneway_throws_told file _ = inr (λ h. h)

  -- those that look for cycles
  module _ (leads : (graph : Graph) (a b : ℕ) → Told (LeadsTo graph a b)) where
    pub typedef_cycle_told : (file : ℕ) (x : Spotted) → Told (FindsFault typedef_cycle program file x)
    typedef_cycle_told file (typedef_spot k name) = leads (alias_graph program) k k
    typedef_cycle_told file _ = inr (λ h. h)

    pub service_cycle_told : (file : ℕ) (x : Spotted) → Told (FindsFault service_cycle program file x)
    service_cycle_told file (service_spot k name) = leads (parent_graph program) k k
    service_cycle_told file _ = inr (λ h. h)

    -- no function is past the last service
    no_functions : (ss : List (Filed ServiceDecl)) (k : ℕ) (name : List ℕ) → length ss ≤ k
        → HasFunction (option_map_or (λ (s : Filed ServiceDecl). s.item.functions) (slice_get ss k) []) name → ⊥
    no_functions [] k name l h = cc
    no_functions (s ∷ ss) zero name l h = let f : ⊥ = omega arith in f
    no_functions (s ∷ ss) (suc k) name l h = no_functions ss k name (omega arith) h

    place_of : (n k : ℕ) → (k < n) ⊎ (n ≤ k)
    place_of zero k = inr (omega arith)
    place_of (suc n) zero = inl (omega arith)
    place_of (suc n) (suc k) = elim (place_of n k) as (λ h. (suc k < suc n) ⊎ (suc n ≤ suc k)) [ inl l ↦ inl (omega arith) | inr l ↦ inr (omega arith) ]

    inherits_by : (service : ℕ) (name : List ℕ) → SomeBelow (length (services_of program)) (λ a. LeadsTo (parent_graph program) service a × HasFunction (functions_by_number program a) name)
        → Told (Inherits program service name)
    inherits_by service name (inl h) = inl (h.0, h.1.0, h.1.1)
    inherits_by service name (inr none) = inr (λ h. by h.0 h.1 h.2 (place_of (length (services_of program)) h.0))
      where
        by : (a : ℕ) → LeadsTo (parent_graph program) service a → HasFunction (functions_by_number program a) name
            → (a < length (services_of program)) ⊎ (length (services_of program) ≤ a) → ⊥
        by a way has (inl l) = none a l (way, has)
        by a way has (inr l) = no_functions (services_of program) a name l has

    has_told : (fs : List FunctionDecl) (name : List ℕ) → Told (HasFunction fs name)
    has_told fs name = bool_told _

    pub duplicate_function_told : (file : ℕ) (x : Spotted) → Told (FindsFault duplicate_function program file x)
    duplicate_function_told file (function_spot service before f) =
        one_told (has_told before f.name.text)
        (inherits_by service f.name.text (some_below (length (services_of program))
        (λ a. LeadsTo (parent_graph program) service a × HasFunction (functions_by_number program a) f.name.text)
        (λ a. both_told (leads (parent_graph program) service a) (has_told (functions_by_number program a) f.name.text))))
    duplicate_function_told file _ = inr (λ h. h)
