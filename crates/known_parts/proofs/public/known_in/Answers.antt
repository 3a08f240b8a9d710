use Rattle.std.proofs.Common.{◌≡◌, ℕ, ◌≤◌, List, length, Ok, ap, sym, ◌∙◌, subst}
use Rattle.std.proofs.lemmas.Result.{err_from_is_err_and}
use Rattle.thrift_value.specs.declared.tag.Tag.TheVariants.{Struct}
use Rattle.thrift_value.specs.TreeOf.{tree_of}
use Rattle.schema.specs.SchemaOf.{schema_of}
use Rattle.wire_model.specs.Decoder.{Unread}
use Rattle.wire_model.specs.Answering.{FaultsOrNoMemory}
use Rattle.wire_model.specs.Place.{most_values, placed}
use Rattle.wire_model.proofs.Answered.{front, struct_in_front, taken_here, bytes_behind_place}
use Rattle.wire_walk.proofs.Faults.{fails_same}
use Rattle.known_parts.specs.KnownAt.{read_seen, known_struct}
use Rattle.known_parts.proofs.Knowing.{placed_fails}
use Rattle.known_parts.proofs.KnownWhole.{placed_known, was_read}
use Rattle.known_parts.proofs.public.known_in.Goals as goal

pub overflow_sub-result : goal.overflow_sub-result
overflow_sub-result g c =
    let s = schema_of c.args.schema.now in
    let start : c.new.result ≡ front c.args.bytes.now c.args.at = c.new.ensures ∙ ap (λ (t : List ℕ). record { bytes = t; budget = most_values }) c.split_at.ensures.back in
    let found = subst (λ (r : Unread). read_seen (known_struct s c.args.which) (struct_in_front g.W.WireProtocol.wire r) ≡ Ok (tree_of c.in_ok-value.value, c.in_ok-value.rest)) start c.in_ok-value.ensures in
    rw c.bytes.ensures (was_read s c.args.which (struct_in_front g.W.WireProtocol.wire (front c.args.bytes.now c.args.at)) (tree_of c.in_ok-value.value) c.in_ok-value.rest
    (λ after. length after.bytes ≤ length c.args.bytes.now) found
    (λ x behind read. taken_here g.W.WireProtocol.wire g.W.WireProtocol.format c.args.bytes.now c.args.at x behind
    (λ levels before after y. c.value_read_is_spelled.ensures levels Struct before after y)
    (bytes_behind_place c.args.bytes.now c.args.at c.type_inv.bytes) read))

pub returns : goal.returns
returns g c =
    let s = schema_of c.args.schema.now in
    let start : c.new.result ≡ front c.args.bytes.now c.args.at = c.new.ensures ∙ ap (λ (t : List ℕ). record { bytes = t; budget = most_values }) c.split_at.ensures.back in
    let found = subst (λ (r : Unread). read_seen (known_struct s c.args.which) (struct_in_front g.W.WireProtocol.wire r) ≡ Ok (tree_of c.in_ok-value.value, c.in_ok-value.rest)) start c.in_ok-value.ensures in
    rw c.bytes.ensures
    (sym (placed_known s c.args.which (length c.args.bytes.now) (struct_in_front g.W.WireProtocol.wire (front c.args.bytes.now c.args.at))) ∙ ap (placed (length c.args.bytes.now)) found)

pub returns-in_err-value : goal.returns-in_err-value
returns-in_err-value g c =
    let s = schema_of c.args.schema.now in
    let start : c.new.result ≡ front c.args.bytes.now c.args.at = c.new.ensures ∙ ap (λ (t : List ℕ). record { bytes = t; budget = most_values }) c.split_at.ensures.back in
    let p = err_from_is_err_and c.from_residual.result c.from_residual.ensures.1 in
    rw (p.1, p.2)
    (fails_same c.in_err-value.field-0.0 _ _ (placed_known s c.args.which (length c.args.bytes.now) (struct_in_front g.W.WireProtocol.wire (front c.args.bytes.now c.args.at)))
    (placed_fails (length c.args.bytes.now) c.in_err-value.field-0.0 _
    (subst (λ (r : Unread). FaultsOrNoMemory c.in_err-value.field-0.0 (read_seen (known_struct s c.args.which) (struct_in_front g.W.WireProtocol.wire r))) start c.in_err-value.ensures)))
