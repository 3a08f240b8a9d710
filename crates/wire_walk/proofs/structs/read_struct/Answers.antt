use Rattle.std.proofs.Common.{◌≤◌, ◌+◌, ℕ, length, Result, subst}
use Rattle.thrift_value.specs.declared.wire_fault.WireFault.{WireFault}
use Rattle.thrift_value.specs.Measures.{count_of}
use Rattle.thrift_value.specs.TreeOf.{tree_of}
use Rattle.thrift_value.specs.Tidy.{IsWellTagged}
use Rattle.thrift_value.specs.Sizes.{HasSmallSizes}
use Rattle.wire_model.specs.Answering.{AnswersOrNoMemory}
use Rattle.thrift_value.specs.Tree.{Tree}
use Rattle.wire_model.specs.Place.{struct_at, IsEncodedAt, IsWithinBounds}
use Rattle.wire_model.proofs.Answered.{bytes_fit, holds_of_read}
use Rattle.wire_walk.proofs.structs.read_struct.Goals as goal

pub returns-clause-found : goal.returns-clause-found
returns-clause-found g c =
    let law = c.struct_read_is_spelled.ensures c.args.bytes.now c.args.at in
    holds_of_read (λ x behind. IsEncodedAt g.C.WireProtocol.format c.args.bytes.now c.args.at x behind) (struct_at g.C.WireProtocol.wire c.args.bytes.now c.args.at)
    (λ x behind e. (law x behind (bytes_fit c.args.bytes.now c.type_inv.bytes) c.requires e).0) c.struct_in.result c.struct_in.ensures

pub returns-clause-bounds : goal.returns-clause-bounds
returns-clause-bounds g c =
    let law = c.struct_read_is_spelled.ensures c.args.bytes.now c.args.at in
    holds_of_read (λ x behind. IsWithinBounds x) (struct_at g.C.WireProtocol.wire c.args.bytes.now c.args.at)
    (λ x behind e. (law x behind (bytes_fit c.args.bytes.now c.type_inv.bytes) c.requires e).1) c.struct_in.result c.struct_in.ensures

pub returns-clause-tagged : goal.returns-clause-tagged
returns-clause-tagged g c =
    let law = c.struct_read_is_spelled.ensures c.args.bytes.now c.args.at in
    holds_of_read (λ x behind. IsWellTagged x) (struct_at g.C.WireProtocol.wire c.args.bytes.now c.args.at)
    (λ x behind e. let s = (law x behind (bytes_fit c.args.bytes.now c.type_inv.bytes) c.requires e).0 in (c.spelled_value_is_raw.ensures x s.text s.spells).0)
    c.struct_in.result c.struct_in.ensures

pub returns-clause-sizes : goal.returns-clause-sizes
returns-clause-sizes g c =
    let law = c.struct_read_is_spelled.ensures c.args.bytes.now c.args.at in
    holds_of_read (λ x behind. HasSmallSizes x) (struct_at g.C.WireProtocol.wire c.args.bytes.now c.args.at)
    (λ x behind e. let s = (law x behind (bytes_fit c.args.bytes.now c.type_inv.bytes) c.requires e).0 in (c.spelled_value_is_raw.ensures x s.text s.spells).2)
    c.struct_in.result c.struct_in.ensures

pub returns-clause-place : goal.returns-clause-place
returns-clause-place g c =
    let law = c.struct_read_is_spelled.ensures c.args.bytes.now c.args.at in
    holds_of_read (λ x behind. behind ≤ length c.args.bytes.now) (struct_at g.C.WireProtocol.wire c.args.bytes.now c.args.at)
    (λ x behind e. (law x behind (bytes_fit c.args.bytes.now c.type_inv.bytes) c.requires e).2) c.struct_in.result c.struct_in.ensures

pub returns-clause-count : goal.returns-clause-count
returns-clause-count g c =
    let law = c.struct_read_is_spelled.ensures c.args.bytes.now c.args.at in
    holds_of_read (λ x behind. c.args.at + count_of x ≤ behind) (struct_at g.C.WireProtocol.wire c.args.bytes.now c.args.at)
    (λ x behind e. (law x behind (bytes_fit c.args.bytes.now c.type_inv.bytes) c.requires e).3) c.struct_in.result c.struct_in.ensures

pub returns-clause-only : goal.returns-clause-only
returns-clause-only g c x behind stands bounds =
    subst (λ (q : Result (Tree × ℕ) WireFault). AnswersOrNoMemory (λ y. (tree_of y.0, y.1)) c.struct_in.result q)
    (c.struct_spelled_is_read.ensures c.args.bytes.now c.args.at x behind stands bounds) c.struct_in.ensures
