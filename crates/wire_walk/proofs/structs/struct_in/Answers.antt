use Rattle.std.proofs.Common.{◌≡◌, ℕ, List, Ok, ap, ◌∙◌, subst}
use Rattle.std.proofs.lemmas.Result.{err_from_is_err_and}
use Rattle.thrift_value.specs.declared.tag.Tag.TheVariants.{Struct}
use Rattle.thrift_value.specs.TreeOf.{tree_of}
use Rattle.wire_model.specs.Decoder.{Unread}
use Rattle.wire_model.specs.Answering.{FaultsOrNoMemory}
use Rattle.wire_model.specs.Place.{most_values}
use Rattle.wire_model.proofs.Answered.{front, struct_in_front, placed_here, taken_here, fault_here, bytes_behind_place}
use Rattle.wire_walk.proofs.structs.struct_in.Goals as goal

pub overflow_sub-result : goal.overflow_sub-result
overflow_sub-result g c =
    let start : c.new-input.result ≡ front c.args.bytes.now c.args.at = c.new-input.ensures ∙ ap (λ (t : List ℕ). record { bytes = t; budget = most_values }) c.split_at.ensures.back in
    let read : struct_in_front g.C.WireProtocol.wire (front c.args.bytes.now c.args.at) ≡ Ok (tree_of c.in_ok-value.value, c.in_ok-value.rest) =
    subst (λ (r : Unread). struct_in_front g.C.WireProtocol.wire r ≡ Ok (tree_of c.in_ok-value.value, c.in_ok-value.rest)) start c.in_ok-value.ensures in
    rw c.bytes.ensures (taken_here g.C.WireProtocol.wire g.C.WireProtocol.format c.args.bytes.now c.args.at (tree_of c.in_ok-value.value) c.in_ok-value.rest
    (λ levels before after x. c.value_read_is_spelled.ensures levels Struct before after x)
    (bytes_behind_place c.args.bytes.now c.args.at c.type_inv.bytes) read)

pub returns : goal.returns
returns g c =
    let start : c.new-input.result ≡ front c.args.bytes.now c.args.at = c.new-input.ensures ∙ ap (λ (t : List ℕ). record { bytes = t; budget = most_values }) c.split_at.ensures.back in
    let read : struct_in_front g.C.WireProtocol.wire (front c.args.bytes.now c.args.at) ≡ Ok (tree_of c.in_ok-value.value, c.in_ok-value.rest) =
    subst (λ (r : Unread). struct_in_front g.C.WireProtocol.wire r ≡ Ok (tree_of c.in_ok-value.value, c.in_ok-value.rest)) start c.in_ok-value.ensures in
    rw c.bytes.ensures (placed_here g.C.WireProtocol.wire c.args.bytes.now c.args.at (tree_of c.in_ok-value.value) c.in_ok-value.rest read)

pub returns-in_err-value : goal.returns-in_err-value
returns-in_err-value g c =
    let start : c.new-input.result ≡ front c.args.bytes.now c.args.at = c.new-input.ensures ∙ ap (λ (t : List ℕ). record { bytes = t; budget = most_values }) c.split_at.ensures.back in
    let p = err_from_is_err_and c.from_residual.result c.from_residual.ensures.1 in
    rw (p.1, p.2)
    (fault_here g.C.WireProtocol.wire c.args.bytes.now c.args.at c.in_err-value.field-0.0
    (subst (λ (r : Unread). FaultsOrNoMemory c.in_err-value.field-0.0 (struct_in_front g.C.WireProtocol.wire r)) start c.in_err-value.ensures))
