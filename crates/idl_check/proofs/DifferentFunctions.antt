-- The functions of each service of a program's schema, inherited ones included, have different names.
use Rattle.std.proofs.Common.{◌≡◌, ◌≢◌, ◌⊎◌, inl, inr, ◌+◌, ℕ, zero, suc, List, [], ◌∷◌, ◌++◌, map, length, Option, None, Some, slice_get, AllPairs, refl, sym, ap, subst, ◌∙◌, arith}
use Rattle.std.specs.Prelude.{unwrap_or}
use Rattle.std.specs.Option.{option_map, option_map_or}
use Rattle.std.specs.List.{AllByRecursion, list_any, flat_map}
use Rattle.std.specs.Str.{bytes_eq}
use Rattle.std.proofs.lemmas.Bool.{or_left, or_right}
use Rattle.std.proofs.lemmas.List.Elements.{All-from_recursion}
use Rattle.std.proofs.lemmas.List.Kept.{AllPairs-cons}
use Rattle.std.proofs.lemmas.Slice.Eq.{bytes_eq-Decides}
use Rattle.graph_cycles.specs.Walks.{IsEdge, LeadsTo}
use Rattle.idl_include.specs.Declarations.{FunctionDecl, ServiceDecl}
use Rattle.idl_include.specs.Program.{Program}
use Rattle.idl_include.specs.Numbering.{Filed, structs_of, services_of}
use Rattle.idl_include.specs.Cycles.{parent_graph, functions_by_number, HasFunction, Inherits}
use Rattle.schema.specs.Inherited.{parent_of, lineage_within, lineage, own_functions}
use Rattle.schema.specs.PlainSchema.{PlainFunction, PlainService, PlainSchema}
use Rattle.schema.specs.Sound.{HaveDifferentFunctions}
use Rattle.check_model.specs.SchemaParts.{DefaultRule, AreFunctionsOf, AreServicesOf, IsSchemaWith}
use Rattle.check_model.proofs.Resolving.{from_at}
use Rattle.check_model.proofs.Shown.{both_all, mapped, weaker}
use Rattle.idl_check.specs.Clean.{IsClean}
use Rattle.idl_check.specs.DeclaredTexts.{IsProgramOfTexts}
use Rattle.idl_check.proofs.Clear.{AreClearFunctions}
use Rattle.idl_check.proofs.Fine.{IsFineService, services_fine}
use Rattle.idl_check.proofs.NoLoop.{edge}

-- all of the names are different
abbrev Differ : List (List ℕ) → Type 0
Differ [] = Unit {0}
Differ (x ∷ xs) = AllByRecursion (λ y. x ≢ y) xs × Differ xs

-- names that are none of these
abbrev Apart : List (List ℕ) → List (List ℕ) → Type 0
Apart names others = AllByRecursion (λ x. AllByRecursion (λ y. x ≢ y) others) names

as_pairs : (xs : List (List ℕ)) → Differ xs → AllPairs (λ a b. a ≢ b) xs
as_pairs [] h = λ i j d low within. absurd (omega arith)
as_pairs (x ∷ xs) h = AllPairs-cons (λ a b. a ≢ b) x xs (All-from_recursion (λ y. x ≢ y) xs h.0) (as_pairs xs h.1)

both_differ : (xs ys : List (List ℕ)) → Differ xs → Differ ys → Apart xs ys → Differ (xs ++ ys)
both_differ [] ys h k apart = k
both_differ (x ∷ xs) ys h k apart = (both_all (λ y. x ≢ y) xs ys h.0 apart.0, both_differ xs ys h.1 k apart.1)

-- the names of functions
abbrev names_of : List FunctionDecl → List (List ℕ)
names_of functions = map (λ (f : FunctionDecl). f.name.text) functions

-- where no function has a name, it differs from each of theirs
no_function : (name : List ℕ) (fs : List FunctionDecl) → (HasFunction fs name → ⊥) → AllByRecursion (λ y. name ≢ y) (names_of fs)
no_function name [] none = tt
no_function name (f ∷ fs) none =
    let rest = list_any (λ (g : FunctionDecl). bytes_eq g.name.text name) fs in (
      λ same. none (or_left (bytes_eq f.name.text name) rest ((bytes_eq-Decides f.name.text name).1 (sym same))),
      no_function name fs (λ has. none (or_right (bytes_eq f.name.text name) rest has)),
    )

module _ (program : Program) (file service : ℕ) where
  -- no function has the name of one before it
  apart_from : (before fs : List FunctionDecl) → AreClearFunctions program file service before fs → AllByRecursion (λ (f : FunctionDecl). AllByRecursion (λ y. f.name.text ≢ y) (names_of before)) fs
  apart_from before [] h = tt
  apart_from before (f ∷ fs) h = (
    no_function f.name.text before (λ has. h.0.new (inl has)),
    weaker (λ (g : FunctionDecl). AllByRecursion (λ y. g.name.text ≢ y) (names_of (before ++ f ∷ []))) (λ (g : FunctionDecl). AllByRecursion (λ y. g.name.text ≢ y) (names_of before))
        (λ g apart. fewer before f g.name.text apart) fs (apart_from (before ++ f ∷ []) fs h.1),
  )
    where
      fewer : (before : List FunctionDecl) (f : FunctionDecl) (name : List ℕ) → AllByRecursion (λ y. name ≢ y) (names_of (before ++ f ∷ [])) → AllByRecursion (λ y. name ≢ y) (names_of before)
      fewer [] f name h = tt
      fewer (g ∷ before) f name h = (h.0, fewer before f name h.1)

  last_apart : (before : List FunctionDecl) (f : FunctionDecl) (name : List ℕ) → AllByRecursion (λ y. name ≢ y) (names_of (before ++ f ∷ [])) → f.name.text ≢ name
  last_apart [] f name h = λ same. h.0 (sym same)
  last_apart (g ∷ before) f name h = last_apart before f name h.1

  own_differ : (before fs : List FunctionDecl) → AreClearFunctions program file service before fs → Differ (names_of fs)
  own_differ before [] h = tt
  own_differ before (f ∷ fs) h = (
    mapped (λ y. f.name.text ≢ y) (λ (g : FunctionDecl). g.name.text) fs
        (weaker (λ (g : FunctionDecl). AllByRecursion (λ y. g.name.text ≢ y) (names_of (before ++ f ∷ []))) (λ (g : FunctionDecl). f.name.text ≢ g.name.text)
        (λ g apart. last_apart before f g.name.text apart) fs (apart_from (before ++ f ∷ []) fs h.1)),
    own_differ (before ++ f ∷ []) fs h.1,
  )

  none_inherited : (before fs : List FunctionDecl) → AreClearFunctions program file service before fs → AllByRecursion (λ name. Inherits program service name → ⊥) (names_of fs)
  none_inherited before [] h = tt
  none_inherited before (f ∷ fs) h = (λ inherits. h.0.new (inr inherits), none_inherited (before ++ f ∷ []) fs h.1)

module _ (D : DefaultRule) (program : Program) (schema : PlainSchema) (texts : IsProgramOfTexts program) (is_clean : IsClean program) (whole : IsSchemaWith D program schema) where
  -- the names of a service's own functions
  abbrev own_names : ℕ → List (List ℕ)
  own_names k = names_of (functions_by_number program k)

  -- they differ from one another, and from those of all that the service inherits from
  record IsOwn (k : ℕ) : Type 0 where
    differ : Differ (own_names k)
    inherited : AllByRecursion (λ name. Inherits program k name → ⊥) (own_names k)

  own_by : (k : ℕ) (o : Option (Filed ServiceDecl)) → slice_get (services_of program) k ≡ o → Differ (names_of (option_map_or (λ (s : Filed ServiceDecl). s.item.functions) o []))
      × AllByRecursion (λ name. Inherits program k name → ⊥) (names_of (option_map_or (λ (s : Filed ServiceDecl). s.item.functions) o []))
  own_by k None at = (tt, tt)
  own_by k (Some s) at =
      let fine : IsFineService program k s = subst (λ n. IsFineService program n s) (let e : 0 + k ≡ k = omega arith in e)
      (from_at (IsFineService program) 0 (services_of program) (services_fine program texts is_clean) k s at) in
      (own_differ program s.file k [] s.item.functions fine.clear, none_inherited program s.file k [] s.item.functions fine.clear)

  own : (k : ℕ) → IsOwn k
  own k = let h = own_by k (slice_get (services_of program) k) refl in record { differ = h.0; inherited = h.1 }

  -- a service leads to another
  abbrev Leads : ℕ → ℕ → Type 0
  Leads a b = LeadsTo (parent_graph program) a b

  apart_ancestor : (which ancestor : ℕ) → Leads which ancestor → Apart (own_names which) (own_names ancestor)
  apart_ancestor which ancestor way =
      weaker (λ name. Inherits program which name → ⊥) (λ name. AllByRecursion (λ y. name ≢ y) (own_names ancestor))
      (λ name none. no_function name (functions_by_number program ancestor) (λ has. none (ancestor, way, has))) (own_names which) (own which).inherited

  both_apart : (xs ys zs : List (List ℕ)) → Apart xs ys → Apart xs zs → Apart xs (ys ++ zs)
  both_apart [] ys zs h k = tt
  both_apart (x ∷ xs) ys zs h k = (both_all (λ y. x ≢ y) ys zs h.0 k.0, both_apart xs ys zs h.1 k.1)

  none_apart : (xs : List (List ℕ)) → Apart xs []
  none_apart [] = tt
  none_apart (x ∷ xs) = (tt, none_apart xs)

  all_apart : (which : ℕ) (ancestors : List ℕ) → AllByRecursion (Leads which) ancestors → Apart (own_names which) (flat_map own_names ancestors)
  all_apart which [] h = none_apart (own_names which)
  all_apart which (a ∷ ancestors) h = both_apart (own_names which) (own_names a) (flat_map own_names ancestors) (apart_ancestor which a h.0) (all_apart which ancestors h.1)

  -- the names of a lineage, and what stands behind its first service
  record IsGoodLineage (which : ℕ) (found : List ℕ) : Type 0 where
    differ : Differ (flat_map own_names found)
    reached : AllByRecursion (λ a. (a ≡ which) ⊎ Leads which a) found

  reached_on : (which parent a : ℕ) → IsEdge (parent_graph program) which parent → (a ≡ parent) ⊎ Leads parent a → Leads which a
  reached_on which parent a to (inl same) = ([], subst (IsEdge (parent_graph program) which) (sym same) to)
  reached_on which parent a to (inr way) = (parent ∷ way.0, (to, way.1))

  alone : (which : ℕ) → IsGoodLineage which (which ∷ [])
  alone which = record { differ = both_differ (own_names which) [] (own which).differ tt (none_apart (own_names which)); reached = (inl refl, tt) }

  with_more : (which parent : ℕ) (found : List ℕ) → IsEdge (parent_graph program) which parent → IsGoodLineage parent found → IsGoodLineage which (which ∷ found)
  with_more which parent found to good =
      let leads = weaker (λ a. (a ≡ parent) ⊎ Leads parent a) (Leads which) (λ a h. reached_on which parent a to h) found good.reached in
      record {
        differ = both_differ (own_names which) (flat_map own_names found) (own which).differ good.differ (all_apart which found leads);
        reached = (inl refl, weaker (Leads which) (λ a. (a ≡ which) ⊎ Leads which a) (λ a h. inr h) found leads);
      }

  good_by : (which : ℕ) (o : Option ℕ) (next : ℕ → List ℕ) → parent_of schema.services which ≡ o → ((parent : ℕ) → IsGoodLineage parent (next parent)) → IsGoodLineage which (which ∷ unwrap_or (option_map next o) [])
  good_by which None next e by = alone which
  good_by which (Some parent) next e by =
      with_more which parent (next parent) (edge D program schema whole which parent e) (by parent)

  good : (most which : ℕ) → IsGoodLineage which (lineage_within most schema.services which)
  good zero which = record { differ = tt; reached = tt }
  good (suc most) which =
      good_by which (parent_of schema.services which) (lineage_within most schema.services) refl (λ parent. good most parent)

  -- the schema's services have the program's functions
  function_names : (file args : ℕ) (fs : List FunctionDecl) (ps : List PlainFunction) → AreFunctionsOf D program file args fs ps → names_of fs ≡ map (λ (f : PlainFunction). f.name) ps
  function_names file args [] [] are = refl
  function_names file args [] (p ∷ ps) are = absurd are
  function_names file args (f ∷ fs) [] are = absurd are
  function_names file args (f ∷ fs) (p ∷ ps) are = λ i. sym are.0.name i ∷ function_names file (suc args) fs ps are.1 i

  own_are : (args : ℕ) (ss : List (Filed ServiceDecl)) (ps : List PlainService) → AreServicesOf D program args ss ps → (k : ℕ)
      → names_of (option_map_or (λ (s : Filed ServiceDecl). s.item.functions) (slice_get ss k) []) ≡ map (λ (f : PlainFunction). f.name) (own_functions ps k)
  own_are args [] [] are k = refl
  own_are args [] (p ∷ ps) are k = absurd are
  own_are args (s ∷ ss) [] are k = absurd are
  own_are args (s ∷ ss) (p ∷ ps) are zero = function_names s.file args s.item.functions p.functions are.0.functions
  own_are args (s ∷ ss) (p ∷ ps) are (suc k) = own_are (args + length s.item.functions) ss ps are.1 k

  map_joined : (name : PlainFunction → List ℕ) (xs ys : List PlainFunction) → map name xs ++ map name ys ≡ map name (xs ++ ys)
  map_joined name [] ys = refl
  map_joined name (x ∷ xs) ys = ap (λ zs. name x ∷ zs) (map_joined name xs ys)

  all_are : (found : List ℕ) → flat_map own_names found ≡ map (λ (f : PlainFunction). f.name) (flat_map (own_functions schema.services) found)
  all_are [] = refl
  all_are (k ∷ found) =
      let name = λ (f : PlainFunction). f.name in
      (λ i. own_are (length (structs_of program)) (services_of program) schema.services whole.services k i ++ all_are found i)
      ∙ map_joined name (own_functions schema.services k) (flat_map (own_functions schema.services) found)

  pub different_functions : HaveDifferentFunctions schema.services
  different_functions which place =
      let found = lineage schema.services which in
      subst (AllPairs (λ a b. a ≢ b)) (all_are found) (as_pairs (flat_map own_names found) (good (length schema.services) which).differ)
