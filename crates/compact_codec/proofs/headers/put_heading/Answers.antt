use Rattle.std.specs.Int.{w16, w32}
use Rattle.std.proofs.Common.{◌≡◌, ℕ, List, [], ◌∷◌, ◌++◌, ap, ◌∙◌, append_assoc, rules, ℤ, ◌-ℤ◌, FitsSigned, to_z, of_z}
use Rattle.std.proofs.lemmas.Int.{to_z-of_z}
use Rattle.wire_num.specs.Varint.{varint_bytes}
use Rattle.wire_num.specs.Zigzag.{zigzag}
use Rattle.wire_model.proofs.Answered.{on_ok_by}
use Rattle.compact_codec.specs.Written.{short_delta}
use Rattle.compact_codec.proofs.FieldHeaders.{no_delta, some_delta}
use Rattle.compact_codec.proofs.headers.put_heading.Goals as goal

-- the delta of the ids as they were passed
passed_delta : (last id : ℤ) (n : ℕ) → FitsSigned w16 last → FitsSigned w16 id
    → n ≡ short_delta (to_z w16 (of_z w16 id) -ℤ to_z w16 (of_z w16 last)) → n ≡ short_delta (id -ℤ last)
passed_delta last id n low high is =
    is
    ∙ ap (λ (z : ℤ). short_delta (z -ℤ to_z w16 (of_z w16 last))) (to_z-of_z w16 id high)
    ∙ ap (λ (z : ℤ). short_delta (id -ℤ z)) (to_z-of_z w16 last low)

pub returns-then-delta-eq0-clause-ok : goal.returns-then-delta-eq0-clause-ok
returns-then-delta-eq0-clause-ok c =
    let delta = passed_delta c.args.last c.args.id c.short_delta-delta.result c.ranges.last c.ranges.id c.short_delta-delta.ensures.delta in
    let id : c.zigzag32.result ≡ zigzag c.args.id = search rules in
    on_ok_by c.put_varint32.result
    (λ appended. appended
    ∙ ap (λ (t : List ℕ). t ++ varint_bytes w32 c.zigzag32.result) c.in_ok-put_u8.ensures.ok
    ∙ append_assoc c.args.into.now.items (c.args.code ∷ []) (varint_bytes w32 c.zigzag32.result)
    ∙ ap (λ (t : List ℕ). c.args.into.now.items ++ t)
    (no_delta c.args.last c.args.id c.args.code c.short_delta-delta.result c.zigzag32.result delta c.if-delta-eq0.true id))
    c.put_varint32.ensures.ok

pub returns-clause-ok : goal.returns-clause-ok
returns-clause-ok c =
    let delta = passed_delta c.args.last c.args.id c.short_delta-delta.result c.ranges.last c.ranges.id c.short_delta-delta.ensures.delta in
    on_ok_by c.put_u8-2.result
    (λ appended. appended
    ∙ ap (λ (t : List ℕ). c.args.into.now.items ++ t) (some_delta c.args.last c.args.id c.args.code c.short_delta-delta.result delta c.if-delta-eq0.false))
    c.put_u8-2.ensures.ok
