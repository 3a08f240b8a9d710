-- No service of a program's schema reaches itself by what it extends.
use Rattle.std.proofs.Common.{◌≡◌, ◌+◌, ℕ, zero, suc, List, [], ◌∷◌, map, length, Option, None, Some, slice_get, refl, sym, ap, subst, ◌∙◌, arith}
use Rattle.std.specs.Option.{option_and_then}
use Rattle.std.specs.List.{Contains}
use Rattle.std.proofs.lemmas.Option.{get_or_from_slice_get}
use Rattle.graph_cycles.specs.Walks.{Walk, IsEdge, OnCycle}
use Rattle.idl_include.specs.Declarations.{ServiceDecl}
use Rattle.idl_include.specs.Program.{Program}
use Rattle.idl_include.specs.Numbering.{Filed, structs_of, services_of}
use Rattle.idl_include.specs.Cycles.{parent_named, listed, parent_graph}
use Rattle.schema.specs.Inherited.{parent_of}
use Rattle.schema.specs.PlainSchema.{PlainService, PlainSchema}
use Rattle.schema.specs.Sound.{Extends, HasNoServiceLoop}
use Rattle.check_model.specs.SchemaParts.{DefaultRule, AreServicesOf, IsSchemaWith}
use Rattle.check_model.proofs.FirstOnes.{somes, none_some}
use Rattle.check_model.proofs.Resolving.{from_at}
use Rattle.idl_check.specs.Clean.{IsClean}
use Rattle.idl_check.specs.DeclaredTexts.{IsProgramOfTexts}
use Rattle.idl_check.proofs.FileParts.{at_mapped}
use Rattle.idl_check.proofs.Fine.{IsFineService, services_fine}

-- a service of the schema is one of the program at its place, with the parent that is named there
service_behind : (D : DefaultRule) (program : Program) (args : ℕ) (ss : List (Filed ServiceDecl)) (ps : List PlainService) → AreServicesOf D program args ss ps → (k : ℕ) (p : PlainService)
    → slice_get ps k ≡ Some p → (s : Filed ServiceDecl) × (slice_get ss k ≡ Some s) × (p.parent ≡ parent_named program s)
service_behind D program args [] [] zip k p e = absurd (none_some p e)
service_behind D program args [] (q ∷ ps) zip k p e = absurd zip
service_behind D program args (s ∷ ss) [] zip k p e = absurd zip
service_behind D program args (s ∷ ss) (q ∷ ps) zip zero p e = (s, refl, ap (λ (x : PlainService). x.parent) (sym (somes q p e)) ∙ zip.0.parent)
service_behind D program args (s ∷ ss) (q ∷ ps) zip (suc k) p e = service_behind D program (args + length s.item.functions) ss ps zip.1 k p e

module _ (D : DefaultRule) (program : Program) (schema : PlainSchema) (is : IsSchemaWith D program schema) where
  edge_by : (child next : ℕ) (o : Option PlainService) → slice_get schema.services child ≡ o → option_and_then (λ (p : PlainService). p.parent) o ≡ Some next → IsEdge (parent_graph program) child next
  unfolding parent_graph
  edge_by child next None at e = absurd (none_some next e)
  edge_by child next (Some p) at e =
      let (s, found, parent) = service_behind D program (length (structs_of program)) (services_of program) schema.services is.services child p at in
      let row = at_mapped (λ s. listed (parent_named program s)) (services_of program) child s found in
      let is_row = get_or_from_slice_get (map (λ s. listed (parent_named program s)) (services_of program)) child (listed (parent_named program s)) [] row in
      let one : listed (parent_named program s) ≡ next ∷ [] = ap listed (sym parent ∙ e) in
      subst (λ xs. Contains xs next) (sym (is_row ∙ one)) (0, omega arith, refl)

  -- what a service extends is an edge of the program's graph
  pub edge : (child next : ℕ) → parent_of schema.services child ≡ Some next → IsEdge (parent_graph program) child next
  edge child next e = edge_by child next (slice_get schema.services child) refl e

  walk : (child parent : ℕ) (between : List ℕ) → Extends schema.services child between parent → Walk (parent_graph program) child between parent
  walk child parent [] way = edge child parent way
  walk child parent (next ∷ between) way = (edge child next way.0, walk next parent between way.1)

  starts_by : (child next : ℕ) (o : Option PlainService) → slice_get schema.services child ≡ o → option_and_then (λ (p : PlainService). p.parent) o ≡ Some next
      → (s : Filed ServiceDecl) × (slice_get (services_of program) child ≡ Some s)
  starts_by child next None at e = absurd (none_some next e)
  starts_by child next (Some p) at e =
      let h = service_behind D program (length (structs_of program)) (services_of program) schema.services is.services child p at in (h.0, h.1)

  starts : (child parent : ℕ) (between : List ℕ) → Extends schema.services child between parent → (s : Filed ServiceDecl) × (slice_get (services_of program) child ≡ Some s)
  starts child parent [] way = starts_by child parent (slice_get schema.services child) refl way
  starts child parent (next ∷ between) way = starts_by child next (slice_get schema.services child) refl way.0

  pub no_loop : IsProgramOfTexts program → IsClean program → HasNoServiceLoop schema.services
  no_loop texts is_clean which between way =
      let (s, at) = starts which which between way in
      let fine = from_at (IsFineService program) 0 (services_of program) (services_fine program texts is_clean) which s at in
      let Q : ℕ → Type 0 = λ n. OnCycle (parent_graph program) n in
      fine.acyclic (subst Q (let e : which ≡ 0 + which = omega arith in e) (between, walk which which between way))
