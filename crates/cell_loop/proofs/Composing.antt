-- What comes of one thing that is done after another: what memory was like at the moves of both.
use Rattle.std.proofs.Common.{◌≡◌, ℕ, suc, ◌+◌, ◌<◌, ◌≤◌, List, [], ◌∷◌, ◌++◌, length, slice_index_or, sym, ap, ◌∙◌, subst, arith}
use Rattle.std.specs.Prelude.{option_and_then}
use Rattle.script_model.specs.Playing.{MemoryAt, ample}
use Rattle.cell_loop.specs.Settings.{ServedPlay}
use Rattle.cell_loop.specs.Moving.{IsSoFrom, Doing, ComesTo, followed_by}

-- memory that is so at these moves, from number n on
pub so_by : (memory : ℕ → MemoryAt) (memories : List MemoryAt) (n : ℕ) → ((i : ℕ) → i < length memories → memory (i + n) ≡ slice_index_or memories i ample) → IsSoFrom memory n memories
so_by memory [] n h = tt
so_by memory (m ∷ ms) n h =
    let here : 0 + n ≡ n = omega arith in (
      subst (λ k. memory k ≡ m) here (h 0 (omega arith)),
      so_by memory ms (suc n) (λ i l. let next : suc i + n ≡ i + suc n = omega arith in subst (λ k. memory k ≡ slice_index_or ms i ample) next (h (suc i) (omega arith))),
    )

-- memory at two rows of moves, one after the other
pub so_parts : (memory : ℕ → MemoryAt) (front back : List MemoryAt) (n : ℕ) → IsSoFrom memory n (front ++ back) → IsSoFrom memory n front × IsSoFrom memory (length front + n) back
so_parts memory [] back n so =
    let same : n ≡ 0 + n = omega arith in
    (tt, subst (λ k. IsSoFrom memory k back) same so)
so_parts memory (first ∷ front) back n so =
    let rest : IsSoFrom memory (suc n) front × IsSoFrom memory (length front + suc n) back = so_parts memory front back (suc n) so.1 in
    let same : length front + suc n ≡ suc (length front) + n = omega arith in
    ((so.0, rest.0), subst (λ k. IsSoFrom memory k back) same rest.1)

-- how many moves two rows have
pub both_counted : (front back : List MemoryAt) → length (front ++ back) ≡ length back + length front
both_counted [] back = let same : length back ≡ length back + 0 = omega arith in same
both_counted (first ∷ front) back =
    let rest : length (front ++ back) ≡ length back + length front = both_counted front back in
    let same : suc (length (front ++ back)) ≡ length back + suc (length front) = omega arith in
    same

-- what the first comes to, and then the second, both come to
pub then_comes : (f g : Doing) (old mid new : ServedPlay) → ComesTo f old mid → ComesTo g mid new → ComesTo (followed_by f g) old new
then_comes f g old mid new one two =
    let all : length (one.memories ++ two.memories) ≡ length two.memories + length one.memories = both_counted one.memories two.memories in
    let first : mid.moves ≡ length one.memories + old.moves = one.counted in
    let second : new.moves ≡ length two.memories + mid.moves = two.counted in
    let counted : new.moves ≡ length (one.memories ++ two.memories) + old.moves = omega arith in
    record {
      memories = one.memories ++ two.memories;
      counted = counted;
      fuel = one.fuel + two.fuel;
      leads = λ passes enough memory p e so.
          let parts : IsSoFrom memory old.moves one.memories × IsSoFrom memory (length one.memories + old.moves) two.memories =
          so_parts memory one.memories two.memories old.moves so in
          let p-one : one.fuel ≤ passes = omega arith in
          let e-one : one.fuel ≤ enough = omega arith in
          let p-two : two.fuel ≤ passes = omega arith in
          let e-two : two.fuel ≤ enough = omega arith in
          ap (option_and_then (λ next. g passes enough memory next)) (one.leads passes enough memory p-one e-one parts.0)
          ∙ two.leads passes enough memory p-two e-two (subst (λ k. IsSoFrom memory k two.memories) (sym first) parts.1);
    }
