use Rattle.std.proofs.Common.{◌≡◌, ◌-◌, ◌+◌, ◌++◌, ◌∷◌, ◌<◌, ℕ, suc, [], List, Result, Ok, take, length, sym, ap, ◌∙◌, append-nil, take_all, arith}
use Rattle.std.proofs.lemmas.Grind.{common_steps}
use Rattle.std.proofs.lemmas.List.{take_more_set}
use Rattle.std.proofs.lemmas.Result.{err_from_is_err_and}
use Rattle.value_text.specs.declared.stop.TextStop.{TextStop}
use Rattle.value_text.specs.declared.stop.TextStop.TheVariants as stop
use Rattle.value_text.specs.Answering.{LeavesAs}
use Rattle.value_text.specs.Fronts.{◌>>=◌, hex_byte_at, hex_at}
use Rattle.value_text.proofs.RowSteps.{in_front, one_in_front, nothing_in_front}
use Rattle.value_text.proofs.fronts.hex_at.Goals as goal

abbrev bytes_answer : List ℕ → List ℕ → Result (List ℕ × List ℕ) ℕ
bytes_answer behind bytes = Ok (bytes, behind)

opened : (left less : ℕ) (bytes rest : List ℕ) → left ≡ suc less
    → in_front bytes (hex_at left rest) ≡ in_front bytes (hex_byte_at rest >>= λ byte. hex_at less byte.1 >>= λ more. Ok (byte.0 ∷ more.0, more.1))
unfolding hex_at
opened left less bytes rest is = ap (λ n. in_front bytes (hex_at n rest)) is

hex_stop : (whole : Result (List ℕ × List ℕ) ℕ) (why : TextStop) (left less : ℕ) (bytes rest : List ℕ) → left ≡ suc less → in_front bytes (hex_at left rest) ≡ whole
    → LeavesAs why (hex_byte_at rest) → LeavesAs why whole
hex_stop whole stop.NoMemory left less bytes rest is kept h = tt
hex_stop whole (stop.Left n) left less bytes rest is kept h =
    sym kept ∙ opened left less bytes rest is ∙ ap (λ r. in_front bytes (r >>= λ byte. hex_at less byte.1 >>= λ more. Ok (byte.0 ∷ more.0, more.1))) h

hex_put : (whole : Result (List ℕ × List ℕ) ℕ) (left less : ℕ) (bytes more rest : List ℕ) (b : ℕ) (behind : List ℕ) → left ≡ suc less → in_front bytes (hex_at left rest) ≡ whole
    → hex_byte_at rest ≡ Ok (b, behind) → more ≡ bytes ++ b ∷ [] → in_front more (hex_at less behind) ≡ whole
hex_put whole left less bytes more rest b behind is kept h put =
    ap (λ bs. in_front bs (hex_at less behind)) put
    ∙ sym (one_in_front bytes b (hex_at less behind))
    ∙ sym (ap (λ r. in_front bytes (r >>= λ byte. hex_at less byte.1 >>= λ more. Ok (byte.0 ∷ more.0, more.1))) h)
    ∙ sym (opened left less bytes rest is) ∙ kept

hex_end : (whole : Result (List ℕ × List ℕ) ℕ) (left : ℕ) (bytes all rest : List ℕ) → left ≡ 0 → in_front bytes (hex_at left rest) ≡ whole → bytes ≡ all → whole ≡ Ok (all, rest)
unfolding hex_at
hex_end whole left bytes all rest none kept is =
    sym kept ∙ ap (λ n. in_front bytes (hex_at n rest)) none ∙ ap (bytes_answer rest) (append-nil bytes ∙ is)

pub loop-i-init : goal.loop-i-init
loop-i-init g c = record { long = grind (arith, common_steps); read = nothing_in_front (hex_at (g.row.N - 0) c.args.text.now) ∙ ap (λ n. hex_at n c.args.text.now) (let all : g.row.N - 0 ≡ g.row.N = omega arith in all) }

pub returns-in_err-byte : goal.returns-in_err-byte
returns-in_err-byte g c =
    let p = err_from_is_err_and c.from_residual.result c.from_residual.ensures.1 in
    rw (p.1, p.2)
    (hex_stop _ c.in_err-byte.field-0.0 (g.row.N - c.loop-i.i) (g.row.N - (c.loop-i.i + 1)) (take c.loop-i.i c.loop-i.bytes) c.loop-i.rest.now
    (let more : g.row.N - c.loop-i.i ≡ suc (g.row.N - (c.loop-i.i + 1)) = omega arith in more) c.loop-i.invariant.read c.in_err-byte.ensures)

pub loop-i-preserved : goal.loop-i-preserved
loop-i-preserved g c =
    let within : c.loop-i.i < length c.loop-i.bytes = omega (arith, c.loop-i.invariant.long) in
    record {
      long = grind (arith, common_steps);
      read =
          hex_put _ (g.row.N - c.loop-i.i) (g.row.N - (c.loop-i.i + 1)) (take c.loop-i.i c.loop-i.bytes) _ c.loop-i.rest.now c.in_ok-byte.byte c.in_ok-byte.behind.now
          (let more : g.row.N - c.loop-i.i ≡ suc (g.row.N - (c.loop-i.i + 1)) = omega arith in more) c.loop-i.invariant.read c.in_ok-byte.ensures
          (take_more_set c.loop-i.bytes c.loop-i.i c.in_ok-byte.byte within);
    }

pub returns : goal.returns
returns g c =
    hex_end _ (g.row.N - c.loop-i.i) (take c.loop-i.i c.loop-i.bytes) c.loop-i.bytes c.loop-i.rest.now
    (let none : g.row.N - c.loop-i.i ≡ 0 = omega arith in none) c.loop-i.invariant.read
    (take_all c.loop-i.i c.loop-i.bytes (omega (arith, c.loop-i.invariant.long)))
