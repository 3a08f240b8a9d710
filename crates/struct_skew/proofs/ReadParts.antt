-- From what is known of a struct that was read to its projection.
use Rattle.std.proofs.Common.{◌≡◌, ℕ, Result, Ok, Err, refl, sym, ap, ◌∙◌}
use Rattle.thrift_value.specs.declared.wire_fault.WireFault.{WireFault}
use Rattle.thrift_value.specs.declared.wire_fault.WireFault.TheVariants as wire_fault
use Rattle.thrift_value.specs.Tree.{Tree, of_bool, of_i8, of_i16, of_i32, of_i64, of_double, of_bytes, of_struct, of_map, of_set, of_list, of_uuid, FieldTrees}
use Rattle.schema.specs.PlainSchema.{PlainSchema}
use Rattle.wire_model.specs.Answering.{FaultsOrNoMemory}
use Rattle.known_parts.specs.Known.{known_fields}
use Rattle.known_parts.specs.KnownAt.{known_struct, known_found}
use Rattle.struct_skew.specs.declared.fault.SkewFault.{SkewFault}
use Rattle.struct_skew.specs.declared.fault.SkewFault.TheVariants as skew_fault
use Rattle.struct_skew.specs.Answering.{SkewsOrNoMemory}
use Rattle.struct_skew.specs.Projection.{projection}
use Rattle.struct_skew.specs.ReadAs.{placed_projection, projected_read, arg_of_wire, arg_of_skew, ArgFaultsOrNoMemory}

-- what an answer has, else another
abbrev found_or : {A : Type 0} → A → Result A WireFault → A
found_or other (Ok x) = x
found_or other (Err fault) = other

module _ (s : PlainSchema) (which : ℕ) where
  -- the known part has the projection of the whole
  part_decides : (x : Tree) → ((fields : FieldTrees) → projection s which (of_struct (known_fields s which fields)) ≡ projection s which (of_struct fields))
      → projection s which (known_struct s which x) ≡ projection s which x
  part_decides (of_struct fields) law = law fields
  part_decides (of_bool _) law = refl
  part_decides (of_i8 _) law = refl
  part_decides (of_i16 _) law = refl
  part_decides (of_i32 _) law = refl
  part_decides (of_i64 _) law = refl
  part_decides (of_double _) law = refl
  part_decides (of_uuid _) law = refl
  part_decides (of_bytes _) law = refl
  part_decides (of_map _ _ _) law = refl
  part_decides (of_set _ _) law = refl
  part_decides (of_list _ _) law = refl

  pub read_decided : (r : Result (Tree × ℕ) WireFault) (t : Tree) (behind : ℕ) → ((fields : FieldTrees) → projection s which (of_struct (known_fields s which fields)) ≡ projection s which (of_struct fields))
      → known_found s which r ≡ Ok (t, behind) → placed_projection behind (projection s which t) ≡ projected_read s which r
  read_decided (Ok x) t behind law e =
      let part : known_struct s which x.0 ≡ t = ap (λ (q : Result (Tree × ℕ) WireFault). (found_or {A = Tree × ℕ} (known_struct s which x.0, x.1) q).0) e in
      let place : x.1 ≡ behind = ap (λ (q : Result (Tree × ℕ) WireFault). (found_or {A = Tree × ℕ} (known_struct s which x.0, x.1) q).1) e in
      (λ i. placed_projection (sym place i) (projection s which (sym part i))) ∙ ap (placed_projection x.1) (part_decides x.0 law)
  read_decided (Err fault) t behind law e = absurd cc

  fault_found : (r : Result (Tree × ℕ) WireFault) (fault : WireFault) → known_found s which r ≡ Err fault → r ≡ Err fault
  fault_found (Ok x) fault e = absurd cc
  fault_found (Err f) fault e = let same : f ≡ fault = cc in ap (λ (g : WireFault). Err g) same

  pub wire_faults : (r : Result (Tree × ℕ) WireFault) (fault : WireFault) → FaultsOrNoMemory fault (known_found s which r) → ArgFaultsOrNoMemory (arg_of_wire fault) (projected_read s which r)
  wire_faults r wire_fault.NoMemory h = tt
  wire_faults r wire_fault.Short h = ap (projected_read s which) (fault_found r wire_fault.Short h)
  wire_faults r (wire_fault.BadType n) h = ap (projected_read s which) (fault_found r (wire_fault.BadType n) h)
  wire_faults r wire_fault.BadSize h = ap (projected_read s which) (fault_found r wire_fault.BadSize h)
  wire_faults r wire_fault.LongVarint h = ap (projected_read s which) (fault_found r wire_fault.LongVarint h)
  wire_faults r wire_fault.FieldRange h = ap (projected_read s which) (fault_found r wire_fault.FieldRange h)
  wire_faults r wire_fault.TooDeep h = ap (projected_read s which) (fault_found r wire_fault.TooDeep h)
  wire_faults r wire_fault.TooMany h = ap (projected_read s which) (fault_found r wire_fault.TooMany h)

pub skew_faults : (behind : ℕ) (r : Result Tree SkewFault) (fault : SkewFault) → SkewsOrNoMemory fault r → ArgFaultsOrNoMemory (arg_of_skew fault) (placed_projection behind r)
skew_faults behind r skew_fault.NoMemory h = tt
skew_faults behind r (skew_fault.Missing which id) h = ap (placed_projection behind) h
skew_faults behind r (skew_fault.UnionFields which) h = ap (placed_projection behind) h
skew_faults behind r skew_fault.TooDeep h = ap (placed_projection behind) h
skew_faults behind r skew_fault.TooMany h = ap (placed_projection behind) h
