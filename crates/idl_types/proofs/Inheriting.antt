-- What services offer and inherit, by the sets of their parents.
use Rattle.std.proofs.Common.{◌≡◌, ◌≢◌, ◌⊎◌, ◌<◌, ◌++◌, ℕ, zero, suc, eqb, Bool, true, false, inl, inr, List, [], ◌∷◌, map, length, get_or, slice_get, slice_index_or, Option, None, Some, Result, Ok, Err, OnOk, refl, ap, sym, subst, ◌∙◌, arith, true≢false}
use Rattle.std.specs.Prelude.{◌↔◌, ◌||◌}
use Rattle.std.specs.Option.{option_map_or}
use Rattle.std.specs.List.{list_any, Contains}
use Rattle.std.specs.Str.{bytes_eq}
use Rattle.std.proofs.lemmas.Bool.Decides.{eqb_tells}
use Rattle.idl_parser.specs.declared.tree.Function.{Function}
use Rattle.idl_parser.specs.declared.tree.Service.{Service}
use Rattle.graph_cycles.specs.Walks.{Graph, IsEdge, Walk, LeadsTo}
use Rattle.idl_include.specs.DeclaredIn.{function_in}
use Rattle.idl_include.specs.Declarations.{FunctionDecl, ServiceDecl}
use Rattle.idl_include.specs.Numbering.{Filed, services_of}
use Rattle.idl_include.specs.Program.{Program}
use Rattle.idl_include.specs.Cycles.{listed, parent_graph, functions_by_number, Inherits}
use Rattle.idl_names.specs.declared.filed.InFile.{InFile}
use Rattle.idl_names.specs.FiledIn.{filed_by, service_declared}
use Rattle.idl_names.specs.NameSets.{NameSet, has_name}
use Rattle.idl_types.specs.declared.offers.Offered.{Offered}
use Rattle.idl_types.specs.Rows.{parents_of}
use Rattle.idl_types.specs.Inherited.{is_function, functions_at, InheritsBy, Offers, is_in_set, is_in_base, IsBase, IsMade, HasBoth, AddsSet, IsSetOf, AreOffered, KeepsOffered, AreInherited}
use Rattle.idl_types.proofs.RowsMade.{parent_rows_are}

-- ---- edges

row_at : (parents : List (Option ℕ)) (service : ℕ) → slice_index_or (map listed parents) service [] ≡ listed (get_or parents service None)
row_at [] service = refl
row_at (p ∷ parents) zero = refl
row_at (p ∷ parents) (suc service) = row_at parents service

edge_in : (parents : List (Option ℕ)) (service to : ℕ) (parent : Option ℕ) → get_or parents service None ≡ parent → IsEdge (map listed parents) service to → Contains (listed parent) to
edge_in parents service to parent is edge = subst (λ (row : List ℕ). Contains row to) (row_at parents service ∙ ap listed is) edge

edge_to : (parents : List (Option ℕ)) (service parent : ℕ) → get_or parents service None ≡ Some parent → IsEdge (map listed parents) service parent
edge_to parents service parent is = subst (λ (row : List ℕ). Contains row parent) (sym (row_at parents service ∙ ap listed is)) (0, omega arith, refl)

none_in : (to : ℕ) → Contains (listed None) to → ⊥
none_in to (k, within, same) = omega arith

only_one : (parent to : ℕ) → Contains (listed (Some parent)) to → to ≡ parent
only_one parent to (zero, within, same) = sym same
only_one parent to (suc k, within, same) = absurd (omega arith)

-- ---- what is inherited

module _ (parents : List (Option ℕ)) (services : List (InFile Service)) (service : ℕ) (name : List ℕ) where
  nothing_inherited : get_or parents service None ≡ None → InheritsBy parents services service name → ⊥
  nothing_inherited is (ancestor, ([], walk), has) = none_in ancestor (edge_in parents service ancestor None is walk)
  nothing_inherited is (ancestor, (m ∷ between, walk), has) = none_in m (edge_in parents service m None is walk.0)

  inherited_of : (parent : ℕ) → get_or parents service None ≡ Some parent → InheritsBy parents services service name → Offers parents services parent name
  inherited_of parent is (ancestor, ([], walk), has) =
      let same : ancestor ≡ parent = only_one parent ancestor (edge_in parents service ancestor (Some parent) is walk) in
      inl (ap (λ (a : ℕ). is_function (functions_at services a) name) (sym same) ∙ has)
  inherited_of parent is (ancestor, (m ∷ between, walk), has) =
      let same : m ≡ parent = only_one parent m (edge_in parents service m (Some parent) is walk.0) in
      inr (ancestor, (between, subst (λ (a : ℕ). Walk (map listed parents) a between ancestor) same walk.1), has)

  inherits_offered : (parent : ℕ) → get_or parents service None ≡ Some parent → Offers parents services parent name → InheritsBy parents services service name
  inherits_offered parent is (inl has) = (parent, ([], edge_to parents service parent is), has)
  inherits_offered parent is (inr (ancestor, (between, walk), has)) = (ancestor, (parent ∷ between, (edge_to parents service parent is, walk)), has)

-- ---- sets

none_is_some : {A : Type 0} (x : A) → None ≡ Some x → ⊥
none_is_some x e = cc

module _ (parents : List (Option ℕ)) (services : List (InFile Service)) (sets : List NameSet) (made : List (Option ℕ)) (offered : AreOffered parents services sets made) where
  -- the set of a parent tells what is inherited
  pub base_tells : (service : ℕ) (parent base : Option ℕ) → get_or parents service None ≡ parent → IsBase made parent base → (name : List ℕ)
      → (is_in_base sets base name ≡ true) ↔ InheritsBy parents services service name
  base_tells service None None is h name = (λ e. absurd (true≢false (sym e)), λ i. absurd (nothing_inherited parents services service name is i))
  base_tells service None (Some which) is h name = absurd h
  base_tells service (Some parent) None is h name = absurd h
  base_tells service (Some parent) (Some which) is h name =
      let right = (offered parent which h).right name in
      (λ e. inherits_offered parents services service name parent is (right.0 e), λ i. right.1 (inherited_of parents services service name parent is i))

-- ---- one set more

no_more : (b : Bool) → (b || false) ≡ b
no_more true = refl
no_more false = refl

-- what is inherited or a service's own is in a set that has both
both_tell : {I : Type 0} (x a b : Bool) → x ≡ (a || b) → (a ≡ true) ↔ I → (x ≡ true) ↔ ((b ≡ true) ⊎ I)
both_tell x true b is tells = (λ e. inr (tells.0 refl), λ h. is)
both_tell {I} x false b is tells = (λ e. inl (sym is ∙ e), by)
  where
    by : (b ≡ true) ⊎ I → x ≡ true
    by (inl e) = is ∙ e
    by (inr i) = absurd (true≢false (sym (tells.1 i)))

kept_set : (sets : List NameSet) (set : NameSet) (k : ℕ) → k < length sets → slice_get (sets ++ set ∷ []) k ≡ slice_get sets k
kept_set [] set k l = absurd (omega arith)
kept_set (s ∷ sets) set zero l = refl
kept_set (s ∷ sets) set (suc k) l = kept_set sets set k (omega arith)

last_set : (sets : List NameSet) (set : NameSet) → slice_get (sets ++ set ∷ []) (length sets) ≡ Some set
last_set [] set = refl
last_set (s ∷ sets) set = last_set sets set

one_longer : (sets : List NameSet) (set : NameSet) → length (sets ++ set ∷ []) ≡ suc (length sets)
one_longer [] set = refl
one_longer (s ∷ sets) set = ap suc (one_longer sets set)

same_number : (a b : ℕ) → Some a ≡ Some b → a ≡ b
same_number a b e = cc

module _ (parents : List (Option ℕ)) (services : List (InFile Service)) (service : ℕ) (base : Option ℕ) (functions : List Function) (own : functions ≡ functions_at services service) where
  own_is : (name : List ℕ) → is_function functions name ≡ is_function (functions_at services service) name
  own_is name = ap (λ (fs : List Function). is_function fs name) own

  new_set : (sets : List NameSet) (made : List (Option ℕ)) (set : NameSet) → AreOffered parents services sets made → IsBase made (get_or parents service None) base
      → HasBoth sets base functions set → IsSetOf parents services (sets ++ set ∷ []) service (length sets)
  new_set sets made set offered is names = record {
    within = omega (arith, one_longer sets set);
    right = λ name.
        both_tell (is_in_set (sets ++ set ∷ []) (length sets) name) (is_in_base sets base name) (is_function (functions_at services service) name)
        (ap (λ (o : Option NameSet). option_map_or (λ (s : NameSet). has_name s name) o false) (last_set sets set)
        ∙ names name ∙ ap (λ b. is_in_base sets base name || b) (own_is name))
        (base_tells parents services sets made offered service (get_or parents service None) base refl is name);
  }

  old_set : (sets : List NameSet) (set : NameSet) (other which : ℕ) → IsSetOf parents services sets other which → IsSetOf parents services (sets ++ set ∷ []) other which
  old_set sets set other which is = record {
    within = omega (arith, one_longer sets set, is.within);
    right = λ name.
        subst (λ (b : Bool). (b ≡ true) ↔ Offers parents services other name)
        (ap (λ (o : Option NameSet). option_map_or (λ (s : NameSet). has_name s name) o false) (sym (kept_set sets set which is.within))) (is.right name);
  }

  with_new : (sets new : List NameSet) (made next : List (Option ℕ)) (set : NameSet) → new ≡ sets ++ set ∷ [] → IsMade service (length sets) made next
      → IsBase made (get_or parents service None) base → HasBoth sets base functions set → AreOffered parents services sets made → AreOffered parents services new next
  with_new sets new made next set pushed is_made is names offered other which at =
      subst (λ (ss : List NameSet). IsSetOf parents services ss other which) (sym pushed) (by (eqb_tells other service))
    where
      by : ((eqb other service ≡ true) × (other ≡ service)) ⊎ ((eqb other service ≡ false) × (other ≢ service)) → IsSetOf parents services (sets ++ set ∷ []) other which
      by (inl (t, e)) =
          let here : length sets ≡ which = same_number (length sets) which (sym is_made.here ∙ ap (λ (k : ℕ). get_or next k None) (sym e) ∙ at) in
          subst (λ (k : ℕ). IsSetOf parents services (sets ++ set ∷ []) other k) here
          (subst (λ (s : ℕ). IsSetOf parents services (sets ++ set ∷ []) s (length sets)) (sym e) (new_set sets made set offered is names))
      by (inr (t, n)) = old_set sets set other which (offered other which (sym (is_made.others other n) ∙ at))

pub adds_set : (parents : List (Option ℕ)) (services : List (InFile Service)) (service : ℕ) (parent base : Option ℕ) (functions : List Function) (old new : Offered)
    → functions ≡ functions_at services service → parent ≡ get_or parents service None → IsBase old.made.items parent base → AddsSet service base functions old new
    → KeepsOffered parents services old new
adds_set parents services service parent base functions old new own at is adds offered =
    with_new parents services service base functions own old.sets.items new.sets.items old.made.items new.made.items adds.set adds.pushed adds.made
    (subst (λ (p : Option ℕ). IsBase old.made.items p base) at is) adds.names offered

-- ---- a set that is shared

shared_set : (parents : List (Option ℕ)) (services : List (InFile Service)) (sets : List NameSet) (made : List (Option ℕ)) (service which : ℕ) (parent : Option ℕ)
    → AreOffered parents services sets made → get_or parents service None ≡ parent → IsBase made parent (Some which) → functions_at services service ≡ [] → IsSetOf parents services sets service which
shared_set parents services sets made service which None offered at is none = absurd is
shared_set parents services sets made service which (Some parent) offered at is none = record {
  within = (offered parent which is).within;
  right = λ name.
      both_tell (is_in_set sets which name) (is_in_set sets which name) (is_function (functions_at services service) name)
      (sym (no_more (is_in_set sets which name)) ∙ ap (λ (fs : List Function). is_in_set sets which name || is_function fs name) (sym none))
      (base_tells parents services sets made offered service (Some parent) (Some which) at is name);
}

pub shares_set : (parents : List (Option ℕ)) (services : List (InFile Service)) (sets : List NameSet) (made next : List (Option ℕ)) (service which : ℕ) (parent : Option ℕ) (functions : List Function)
    → functions ≡ functions_at services service → functions ≡ [] → parent ≡ get_or parents service None → IsBase made parent (Some which) → IsMade service which made next
    → AreOffered parents services sets made → AreOffered parents services sets next
shares_set parents services sets made next service which parent functions own none at is is_made offered other k found = by (eqb_tells other service)
  where
    by : ((eqb other service ≡ true) × (other ≡ service)) ⊎ ((eqb other service ≡ false) × (other ≢ service)) → IsSetOf parents services sets other k
    by (inl (t, e)) =
        let here : which ≡ k = same_number which k (sym is_made.here ∙ ap (λ (s : ℕ). get_or next s None) (sym e) ∙ found) in
        subst (λ (n : ℕ). IsSetOf parents services sets other n) here
        (subst (λ (s : ℕ). IsSetOf parents services sets s which) (sym e)
        (shared_set parents services sets made service which parent offered (sym at) is (sym own ∙ none)))
    by (inr (t, n)) = offered other k (sym (is_made.others other n) ∙ found)

empty : (functions : List Function) → length functions ≡ 0 → functions ≡ []
empty [] e = refl
empty (f ∷ functions) e = absurd (omega arith)

-- the same of what a function answers
pub shared : {A E : Type 0} (r : Result A E) (parents : List (Option ℕ)) (services : List (InFile Service)) (sets : List NameSet) (made given next : List (Option ℕ)) (service which : ℕ)
    (parent base : Option ℕ) (functions : List Function) → functions ≡ functions_at services service → length functions ≡ 0 → parent ≡ get_or parents service None → given ≡ made
    → IsBase given parent base → base ≡ Some which → OnOk r (IsMade service which made next)
    → OnOk r (AreOffered parents services sets made → AreOffered parents services sets next)
shared (Err e) parents services sets made given next service which parent base functions own none at same is some answered = tt
shared (Ok x) parents services sets made given next service which parent base functions own none at same is some answered =
    shares_set parents services sets made next service which parent functions own (empty functions none) at
    (subst (λ (ms : List (Option ℕ)). IsBase ms parent (Some which)) same (subst (λ (b : Option ℕ). IsBase given parent b) some is)) answered

pub added : {A E : Type 0} (r : Result A E) (parents : List (Option ℕ)) (services : List (InFile Service)) (service : ℕ) (parent base : Option ℕ) (functions : List Function) (given : List (Option ℕ))
    (old new : Offered) → functions ≡ functions_at services service → parent ≡ get_or parents service None → given ≡ old.made.items → IsBase given parent base
    → OnOk r (AddsSet service base functions old new) → OnOk r (KeepsOffered parents services old new)
added (Err e) parents services service parent base functions given old new own at same is answered = tt
added (Ok x) parents services service parent base functions given old new own at same is answered =
    adds_set parents services service parent base functions old new own at (subst (λ (ms : List (Option ℕ)). IsBase ms parent base) same is) answered

pub none_offered : (parents : List (Option ℕ)) (services : List (InFile Service)) (sets : List NameSet) (made : List (Option ℕ)) → ((k : ℕ) → get_or made k None ≡ None)
    → AreOffered parents services sets made
none_offered parents services sets made none service which at = absurd (none_is_some which (sym (none service) ∙ at))

-- ---- what is told of a program

any_mapped : (functions : List Function) (name : List ℕ) → is_function functions name ≡ list_any (λ (f : FunctionDecl). bytes_eq f.name.text name) (map function_in functions)
unfolding function_in
any_mapped [] name = refl
any_mapped (f ∷ functions) name = ap (λ b. bytes_eq f.name.text name || b) (any_mapped functions name)

functions_same : (services : List (InFile Service)) (a : ℕ) (name : List ℕ) → is_function (functions_at services a) name
    ≡ list_any (λ (f : FunctionDecl). bytes_eq f.name.text name)
    (option_map_or (λ (s : Filed ServiceDecl). s.item.functions) (slice_get (map (filed_by service_declared) services) a) [])
functions_same [] a name = refl
functions_same (s ∷ services) zero name = any_mapped s.item.now.functions.items name
functions_same (s ∷ services) (suc a) name = functions_same services a name

pub told : (program : Program) (parents : List (Option ℕ)) (services : List (InFile Service)) (sets : List NameSet) (made given inherited : List (Option ℕ))
    → AreOffered parents services sets made → given ≡ made → AreInherited given parents inherited
    → parents ≡ parents_of program → map (filed_by service_declared) services ≡ services_of program
    → (service : ℕ) (name : List ℕ) → (is_in_base sets (get_or inherited service None) name ≡ true) ↔ Inherits program service name
told program parents services sets made given inherited offered same are_bases are is service name = (λ e. to (tells.0 e), λ i. tells.1 (from i))
  where
    tells : (is_in_base sets (get_or inherited service None) name ≡ true) ↔ InheritsBy parents services service name
    tells =
        base_tells parents services sets made offered service (get_or parents service None) (get_or inherited service None) refl
        (subst (λ (ms : List (Option ℕ)). IsBase ms (get_or parents service None) (get_or inherited service None)) same (are_bases service)) name

    graph : map listed parents ≡ parent_graph program
    graph = ap (λ (ps : List (Option ℕ)). map listed ps) are ∙ parent_rows_are program

    has : (a : ℕ) → is_function (functions_at services a) name ≡ list_any (λ (f : FunctionDecl). bytes_eq f.name.text name) (functions_by_number program a)
    has a =
        functions_same services a name
        ∙ ap (λ (ss : List (Filed ServiceDecl)). list_any (λ (f : FunctionDecl). bytes_eq f.name.text name) (option_map_or (λ (s : Filed ServiceDecl). s.item.functions) (slice_get ss a) [])) is

    to : InheritsBy parents services service name → Inherits program service name
    to (a, leads, true_of) = (a, subst (λ (g : Graph). LeadsTo g service a) graph leads, sym (has a) ∙ true_of)

    from : Inherits program service name → InheritsBy parents services service name
    from (a, leads, true_of) = (a, subst (λ (g : Graph). LeadsTo g service a) (sym graph) leads, has a ∙ true_of)
