-- Entries with what is read behind them.
use Rattle.std.proofs.Common.{◌≡◌, ℕ, Bool, true, List, Result, Ok, Err, sym, ap, subst, ◌∙◌}
use Rattle.std.specs.Borrow.{Bor}
use Rattle.std.specs.Prelude.{MatchResult, if◌then◌else◌}
use Rattle.thrift_value.specs.declared.value.Value.{Value}
use Rattle.thrift_value.specs.Tree.{Tree}
use Rattle.thrift_value.specs.TreeOf.{tree_of, pair_tree}
use Rattle.value_text.specs.declared.stop.TextStop.{TextStop}
use Rattle.value_text.specs.Answering.{Gives, LeavesAs}
use Rattle.value_text.specs.Fronts.{◌>>=◌, stuck}
use Rattle.value_text.specs.Rows.{next_at}
use Rattle.value_text.proofs.Choices.{stops_all}

-- an entry, and the comma or the end behind it
pub row_joined : {T A : Type 0} (view : T → A) (entry : T) (rest : List ℕ) (read : Result (A × List ℕ) ℕ) (close : ℕ)
    (next : Result (Bool × Bor (List ℕ)) TextStop) (result : Result (T × Bool × Bor (List ℕ)) TextStop)
    → read ≡ Ok (view entry, rest) → Gives (λ r. (r.0, r.1.now)) next (next_at close rest)
    → MatchResult next (λ n. result ≡ Ok (entry, n.0, n.1)) (λ stop. result ≡ Err stop)
    → Gives {Y = A × Bool × List ℕ} (λ r. (view r.0, r.1, r.2.now)) result (read >>= λ x. next_at close x.1 >>= λ n. Ok (x.0, n.0, n.1))
row_joined {A = A} view entry rest read close (Ok n) result is given put =
    let total : Result (A × Bool × List ℕ) ℕ = read >>= λ x. next_at close x.1 >>= λ m. Ok (x.0, m.0, m.1) in
    subst (λ r. Gives {Y = A × Bool × List ℕ} (λ r. (view r.0, r.1, r.2.now)) r total) (sym put)
    (ap (λ r. r >>= λ x. next_at close x.1 >>= λ m. Ok (x.0, m.0, m.1)) is ∙ ap (λ r. r >>= λ m. Ok (view entry, m.0, m.1)) given)
row_joined {A = A} view entry rest read close (Err stop) result is given put =
    let total : Result (A × Bool × List ℕ) ℕ = read >>= λ x. next_at close x.1 >>= λ m. Ok (x.0, m.0, m.1) in
    subst (λ r. Gives {Y = A × Bool × List ℕ} (λ r. (view r.0, r.1, r.2.now)) r total) (sym put)
    (stops_all stop (next_at close rest) (λ m. Ok (view entry, m.0, m.1)) total (ap (λ r. r >>= λ x. next_at close x.1 >>= λ m. Ok (x.0, m.0, m.1)) is) given)

module _ (has : Bool) (item : Result (Tree × List ℕ) ℕ) (text : List ℕ) (behind : List ℕ → Result (Tree × List ℕ) ℕ) where
  -- a key, and what is read behind it
  abbrev paired : Tree × List ℕ → Result ((Tree × Tree) × List ℕ) ℕ
  paired k = behind k.1 >>= λ x. Ok ((k.0, x.0), x.1)

  -- a key that wasn't read
  pub pair_stops : (why : TextStop) → has ≡ true → LeavesAs why item → LeavesAs why ((if has then item else stuck text) >>= paired)
  pair_stops why holds h = stops_all why item paired _ (ap (λ b. (if b then item else stuck text) >>= paired) holds) h

  -- a key that was read, and the value behind it
  pub pair_joined : (one : Value) (rest : List ℕ) (value : Result (Value × Bor (List ℕ)) TextStop) (result : Result ((Value × Value) × Bor (List ℕ)) TextStop)
      → has ≡ true → item ≡ Ok (tree_of one, rest) → Gives (λ r. (tree_of r.0, r.1.now)) value (behind rest)
      → MatchResult value (λ v. result ≡ Ok ((one, v.0), v.1)) (λ stop. result ≡ Err stop)
      → Gives {Y = (Tree × Tree) × List ℕ} (λ r. (pair_tree r.0, r.1.now)) result ((if has then item else stuck text) >>= paired)
  pair_joined one rest (Ok v) result holds is given put =
      subst (λ r. Gives {Y = (Tree × Tree) × List ℕ} (λ r. (pair_tree r.0, r.1.now)) r ((if has then item else stuck text) >>= paired)) (sym put)
      (ap (λ b. (if b then item else stuck text) >>= paired) holds ∙ ap (λ r. r >>= paired) is ∙ ap (λ r. r >>= λ x. Ok ((tree_of one, x.0), x.1)) given)
  pair_joined one rest (Err stop) result holds is given put =
      subst (λ r. Gives {Y = (Tree × Tree) × List ℕ} (λ r. (pair_tree r.0, r.1.now)) r ((if has then item else stuck text) >>= paired)) (sym put)
      (stops_all stop (behind rest) (λ x. Ok ((tree_of one, x.0), x.1)) _ (ap (λ b. (if b then item else stuck text) >>= paired) holds ∙ ap (λ r. r >>= paired) is) given)
