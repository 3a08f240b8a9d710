use Rattle.std.proofs.Common.{rules, ◌≡◌, ◌≤◌, ◌+◌, ◌++◌, ℕ, List, length, sym, ap, ◌∙◌, subst, length-append, arith}
use Rattle.stream_reader.specs.Reading.{MessageRead, bytes_missing}
use Rattle.stream_reader.specs.Stages.{stage_len}
use Rattle.stream_reader.specs.Tied.{IsTied}
use Rattle.stream_reader.proofs.Tying.{stepped_between, not_past}
use Rattle.stream_reader.proofs.message.MessageReader.take.Goals as goal

pub invariant_of-self-2 : goal.invariant_of-self-2
invariant_of-self-2 c = let
    w = c.self.inside.walk in
    let old = c.self.inside.bytes.items in
    let bytes = c.args.bytes.now in
    let all = c.extend_from_slice.new.self.items in
    let tied : IsTied w old = c.self.invariant.0 in
    let grown : all ≡ old ++ bytes = search (rules, c.extend_from_slice.ensures.items, c.unwrap.ensures) in
    let more : length all ≡ length old + length bytes = ap (λ (t : List ℕ). length t) grown ∙ length-append old bytes in
    let some : 1 ≤ stage_len w.stage = omega (arith, c.if-start-end.false, c.at-start.ensures, c.len.ensures) in
    let asked : length bytes ≤ bytes_missing w.most old = subst (λ (r : MessageRead). length bytes ≤ bytes_missing r.most r.bytes) (sym c.self.view_is) c.requires.missing in
    let within : length old + length bytes ≤ w.at + stage_len w.stage = not_past w old (length bytes) tied some asked in
    let whole : length all ≡ w.at + stage_len w.stage = omega (arith, more, within, c.if-len-end.false, c.at-start.ensures, c.len.ensures, c.len-2.ensures) in
    let end : c.at-start.result + c.len.result ≡ length all = omega (arith, whole, c.at-start.ensures, c.len.ensures) in (
      stepped_between w c.step.new.self old bytes all c.deref.result.now c.at-start.result (c.at-start.result + c.len.result) tied grown c.deref.ensures.value c.at-start.ensures end some whole
          c.step.ensures.plan c.step.ensures.fits c.step.ensures.most c.step.ensures.at,
      search (rules, c.extend_from_slice.ensures.capacity, c.self.invariant, c.requires.room, more),
      omega (arith, c.self.invariant.2),
    )
