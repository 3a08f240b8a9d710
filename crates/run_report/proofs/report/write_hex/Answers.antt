use Rattle.std.proofs.Common.{◌≡◌, List, ℕ, [], ◌∷◌, ◌++◌, take, drop, ap, sym, subst, ◌∙◌, refl, take-append-drop}
use Rattle.text_out.specs.Hex.{hex_of}
use Rattle.streams.specs.Taken.{IsTakenBut}
use Rattle.streams.proofs.Taking.{next_taken, next_in_part, err_takes}
use Rattle.run_report.proofs.report.write_hex.Goals as goal

hex_of-append : (a b : List ℕ) → hex_of (a ++ b) ≡ hex_of a ++ hex_of b
hex_of-append [] b = refl
hex_of-append (x ∷ a) b = simp (hex_of-append a b)

hex_parts : (rest chunk behind : List ℕ) (n : ℕ) → chunk ≡ take n rest → behind ≡ drop n rest → hex_of rest ≡ hex_of chunk ++ hex_of behind
hex_parts rest chunk behind n f b =
    ap hex_of (sym (take-append-drop n rest)) ∙ hex_of-append (take n rest) (drop n rest) ∙ (λ i. hex_of (sym f i) ++ hex_of (sym b i))

pub returns-in_err-write_chunk-clause-told : goal.returns-in_err-write_chunk-clause-told
returns-in_err-write_chunk-clause-told g c =
    let e : hex_of c.chunks.rest.now ≡ hex_of c.split_at.result.0.now ++ hex_of c.split_at.result.1.now =
    hex_parts c.chunks.rest.now c.split_at.result.0.now c.split_at.result.1.now _ c.split_at.ensures.front c.split_at.ensures.back in
    err_takes _ _ _ _ c.from_residual.result c.from_residual.ensures.0
    (next_in_part _ (g.K.Sink.taken c.chunks.out) _ _ c.chunks.pending.items (hex_of c.split_at.result.0.now) (hex_of c.split_at.result.1.now)
    (subst
    (λ t. IsTakenBut (g.K.Sink.taken c.args.out.now) (g.K.Sink.taken c.chunks.out) (c.args.pending.now.items ++ hex_of c.args.bytes.now)
    (c.chunks.pending.items ++ t))
    e c.chunks.invariant.told)
    (c.in_err-write_chunk.ensures {u = tt}).told)

pub chunks-preserved : goal.chunks-preserved
chunks-preserved g c =
    let w = c.in_ok-write_chunk.ensures {u = tt} in
    let e : hex_of c.chunks.rest.now ≡ hex_of c.split_at.result.0.now ++ hex_of c.split_at.result.1.now =
    hex_parts c.chunks.rest.now c.split_at.result.0.now c.split_at.result.1.now _ c.split_at.ensures.front c.split_at.ensures.back in
    record {
      told = next_taken _ (g.K.Sink.taken c.chunks.out) _ _ c.chunks.pending.items (hex_of c.split_at.result.0.now) (hex_of c.split_at.result.1.now) _
          (subst
          (λ t. IsTakenBut (g.K.Sink.taken c.args.out.now) (g.K.Sink.taken c.chunks.out) (c.args.pending.now.items ++ hex_of c.args.bytes.now)
          (c.chunks.pending.items ++ t))
          e c.chunks.invariant.told)
          w.told;
      kept = w.cause.kept (λ e. absurd (let never : ⊥ = cc in never)) ∙ c.chunks.invariant.kept;
    }
