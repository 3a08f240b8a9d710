-- Arguments that are read in one pass are those that are read and then projected.
use Rattle.std.proofs.Common.{◌≡◌, ℕ, List, Result, Ok, Err, refl, sym, ap, ◌∙◌}
use Rattle.envelope.specs.declared.head.Protocol.{Protocol}
use Rattle.envelope.specs.Exception.{Failure}
use Rattle.schema.specs.PlainSchema.{PlainSchema}
use Rattle.struct_skew.specs.declared.arg_fault.ArgFault.{ArgFault}
use Rattle.struct_skew.specs.declared.arg_fault.ArgFault.TheVariants as arg_fault
use Rattle.struct_skew.specs.declared.fault.SkewFault.{SkewFault}
use Rattle.struct_skew.specs.declared.fault.SkewFault.TheVariants as skew_fault
use Rattle.struct_skew.specs.Projection.{projection}
use Rattle.struct_skew.specs.ReadAs.{ArgFaultsOrNoMemory, placed_projection, projected_read, read_then_projected}
use Rattle.thrift_value.specs.declared.wire_fault.WireFault.{WireFault}
use Rattle.thrift_value.specs.declared.wire_fault.WireFault.TheVariants as wire_fault
use Rattle.thrift_value.specs.Tree.{Tree}
use Rattle.wire_model.specs.Place.{struct_at}
use Rattle.call_model.specs.Arguments.{wire_of, projected_or_fault, read_as_arguments, arguments_at}
use Rattle.call_model.specs.Failures.{bad_arguments, wire_fault_text, skew_fault_text}

-- what was read and projected, as arguments or a failure
abbrev as_arguments : PlainSchema → Result (Tree × ℕ) ArgFault → Result Tree Failure
as_arguments s (Ok x) = Ok x.0
as_arguments s (Err (arg_fault.Wire fault)) = Err (bad_arguments (wire_fault_text fault))
as_arguments s (Err (arg_fault.Skew fault)) = Err (bad_arguments (skew_fault_text s fault))
as_arguments s (Err arg_fault.NoMemory) = Err (bad_arguments (wire_fault_text wire_fault.NoMemory))

projected_same : (s : PlainSchema) (behind : ℕ) (p : Result Tree SkewFault) → as_arguments s (placed_projection behind p) ≡ projected_or_fault s p
projected_same s behind (Ok value) = refl
projected_same s behind (Err fault) = refl

read_same : (s : PlainSchema) (which : ℕ) (r : Result (Tree × ℕ) WireFault) → as_arguments s (projected_read s which r) ≡ read_as_arguments s which r
read_same s which (Ok found) = projected_same s found.1 (projection s which found.0)
read_same s which (Err fault) = refl

module _ (s : PlainSchema) (protocol : Protocol) (which : ℕ) (payload : List ℕ) (at : ℕ) where
  -- what was read by type, as arguments, is what they are
  told : (r : Result (Tree × ℕ) ArgFault) → read_then_projected (wire_of protocol) s which payload at ≡ r → as_arguments s r ≡ arguments_at s protocol which payload at
  unfolding arguments_at
  told r e = ap (as_arguments s) (sym e) ∙ read_same s which (struct_at (wire_of protocol) payload at)

  pub arguments_read : (value : Tree) (behind : ℕ) → read_then_projected (wire_of protocol) s which payload at ≡ Ok (value, behind) → Ok value ≡ arguments_at s protocol which payload at
  arguments_read value behind e = told (Ok (value, behind)) e

  pub wire_refused : (fault : WireFault) → ArgFaultsOrNoMemory (arg_fault.Wire fault) (read_then_projected (wire_of protocol) s which payload at)
      → Err (bad_arguments (wire_fault_text fault)) ≡ arguments_at s protocol which payload at
  wire_refused wire_fault.NoMemory h = absurd h
  wire_refused wire_fault.Short h = told (Err (arg_fault.Wire wire_fault.Short)) h
  wire_refused (wire_fault.BadType n) h = told (Err (arg_fault.Wire (wire_fault.BadType n))) h
  wire_refused wire_fault.BadSize h = told (Err (arg_fault.Wire wire_fault.BadSize)) h
  wire_refused wire_fault.LongVarint h = told (Err (arg_fault.Wire wire_fault.LongVarint)) h
  wire_refused wire_fault.FieldRange h = told (Err (arg_fault.Wire wire_fault.FieldRange)) h
  wire_refused wire_fault.TooDeep h = told (Err (arg_fault.Wire wire_fault.TooDeep)) h
  wire_refused wire_fault.TooMany h = told (Err (arg_fault.Wire wire_fault.TooMany)) h

  pub skew_refused : (fault : SkewFault) → ArgFaultsOrNoMemory (arg_fault.Skew fault) (read_then_projected (wire_of protocol) s which payload at)
      → Err (bad_arguments (skew_fault_text s fault)) ≡ arguments_at s protocol which payload at
  skew_refused skew_fault.NoMemory h = absurd h
  skew_refused (skew_fault.Missing struct id) h = told (Err (arg_fault.Skew (skew_fault.Missing struct id))) h
  skew_refused (skew_fault.UnionFields struct) h = told (Err (arg_fault.Skew (skew_fault.UnionFields struct))) h
  skew_refused skew_fault.TooDeep h = told (Err (arg_fault.Skew skew_fault.TooDeep)) h
  skew_refused skew_fault.TooMany h = told (Err (arg_fault.Skew skew_fault.TooMany)) h
