-- What is under way is within the budget, and how many connections owe something.
use Rattle.std.proofs.Common.{◌≡◌, ◌≢◌, ℕ, zero, suc, ◌<◌, ◌≤◌, ◌^◌, Bool, true, false, ◌==◌, nat_lt, if◌then◌else◌, Option, None, Some, IsSome, List, [], ◌∷◌, ◌++◌, length, take, slice_index_or, refl, sym, ap, ◌∙◌, subst, eq-eqb, ne_eqb, arith}
use Rattle.std.specs.Int.{w32, to_be_bytes, from_be_bytes}
use Rattle.std.proofs.lemmas.Bool.{le-ltb}
use Rattle.std.proofs.lemmas.Nat.{from_be_bytes-to_be_bytes_4}
use Rattle.outside.specs.LinksState.{LinksState}
use Rattle.host_model.specs.declared.cause.EndCause.{EndCause}
use Rattle.host_model.specs.declared.cause.EndCause.TheVariants.{Stopped}
use Rattle.conn_state.specs.Phase.{Phase, sizing, held, framing, ready, waiting, writing, ended}
use Rattle.conn_table.specs.declared.places.Slot.{Slot}
use Rattle.conn_table.specs.Slots.{slot_in}
use Rattle.conn_table.specs.Table.{slot_of, size_given, sizes_given, HasItsSize}
use Rattle.conn_table.proofs.Sizing.{slot_is}
use Rattle.machine_model.specs.Loop.{LoopConn, Loop}
use Rattle.machine_model.specs.Bounds.{sum_among}
use Rattle.machine_model.specs.AtFronts.{size_begun, summed, begun_if_open, all_begun}
use Rattle.conn_refinement.specs.Phases.{PhaseTells, IsLean}
use Rattle.conn_refinement.specs.Weights.{weight_of, table_weight}
use Rattle.conn_refinement.proofs.Counting.{counted, sizes_total}
use Rattle.loop_conns.specs.declared.connections.ConnStage.{ConnStage}
use Rattle.loop_conns.specs.declared.connections.ConnStage.TheVariants.{Lean, Laden, Gone}
use Rattle.loop_conns.specs.declared.connections.LoopConnections.{LoopConnections}
use Rattle.loop_conns.specs.Tied.{IsLaden, StageTells, AreTied, PhasesTell}
use Rattle.loop_conns.specs.Woven.{ServedAsk, owed_by, all_owing, LoopIsRunning}

-- what bytes that are no more than a size begin
no_more : (bytes : List ℕ) → length bytes ≤ 4 → size_begun bytes ≡ 0
no_more bytes l = ap (λ b. if b then from_be_bytes w32 (take 4 bytes) else 0) (le-ltb 4 (length bytes) l)

begun_within_size : (size : ℕ) (bytes : List ℕ) → size < 2 ^ 32 → size_begun (to_be_bytes w32 size ++ bytes) ≤ size
begun_within_size size bytes fits = go (nat_lt 4 (length (to_be_bytes w32 size ++ bytes)))
  where
    same : from_be_bytes w32 (take 4 (to_be_bytes w32 size ++ bytes)) ≡ size
    same = from_be_bytes-to_be_bytes_4 size fits

    go : (b : Bool) → (if b then from_be_bytes w32 (take 4 (to_be_bytes w32 size ++ bytes)) else 0) ≤ size
    go true = let e : from_be_bytes w32 (take 4 (to_be_bytes w32 size ++ bytes)) ≡ size = same in omega arith
    go false = omega arith

-- what is under way of a connection that is open is 0, or within its size
lean_begun : (max : ℕ) (phase : Phase) (conn : LoopConn) → IsLean phase → PhaseTells max phase conn → size_begun conn.held ≡ 0
lean_begun max (sizing bytes) conn lean t = ap size_begun t.1 ∙ no_more bytes (let l : length bytes < 4 = t.2 in omega arith)
lean_begun max (held size) conn lean t = ap size_begun t.1 ∙ no_more (to_be_bytes w32 size) (omega arith)
lean_begun max (writing left) conn lean t = ap size_begun t.1 ∙ no_more [] (omega arith)
lean_begun max (framing size bytes) conn lean t = absurd lean
lean_begun max (ready number payload) conn lean t = absurd lean
lean_begun max (waiting number) conn lean t = absurd lean
lean_begun max (ended cause) conn lean t = absurd lean

laden_begun : (max : ℕ) (phase : Phase) (size : Option ℕ) (conn : LoopConn) → IsLaden phase → HasItsSize phase size → PhaseTells max phase conn → size_begun conn.held ≤ size_given size
laden_begun max (framing n bytes) size conn laden has t =
    subst (λ k. size_begun k ≤ size_given size) (sym t.1) (subst (λ o. size_begun (to_be_bytes w32 n ++ bytes) ≤ size_given o) (sym has) (begun_within_size n bytes t.4))
laden_begun max (ready number payload) size conn laden has t =
    let e : size_begun conn.held ≡ 0 = ap size_begun t.0.0 ∙ no_more [] (omega arith) in omega arith
laden_begun max (waiting number) size conn laden has t =
    let e : size_begun conn.held ≡ 0 = ap size_begun t.0.0 ∙ no_more [] (omega arith) in omega arith
laden_begun max (sizing bytes) size conn laden has t = absurd laden
laden_begun max (held n) size conn laden has t = absurd laden
laden_begun max (writing left) size conn laden has t = absurd laden
laden_begun max (ended cause) size conn laden has t = absurd laden

-- a sum over connections, and one over numbers that are no less
pub sums_within : (f : LoopConn → ℕ) (conns : ℕ → LoopConn) (h : ℕ → ℕ) (n : ℕ) → ((x : ℕ) → x < n → f (conns x) ≤ h x) → sum_among f conns n ≤ summed h n
sums_within f conns h zero each = omega arith
sums_within f conns h (suc n) each =
    let a : f (conns n) ≤ h n = each n (omega arith) in
    let t : sum_among f conns n ≤ summed h n = sums_within f conns h n (λ x l. each x (omega arith)) in
    omega arith

module _ (max : ℕ) (first links : LinksState) (kept : LoopConnections) (loop : Loop) (t : AreTied first links kept loop) (phases : PhasesTell max kept.table loop) where
  abbrev size_of : Slot → ℕ
  size_of slot = size_given slot.size

  there_weight : (c : ℕ) → IsSome (slot_in c kept.table.slots) → weight_of size_of (slot_in c kept.table.slots) ≡ size_given (slot_of c kept.table.slots).size
  there_weight c there = ap (weight_of size_of) (slot_is c kept.table.slots there)

  begun_so : (c : ℕ) (place : ConnStage) → c < loop.count → StageTells first links kept.table c (loop.conns c) (slice_index_or kept.causes.items c Stopped) place
      → begun_if_open (loop.conns c).cause (loop.conns c).held ≤ weight_of size_of (slot_in c kept.table.slots)
  begun_so c Lean l h =
      let none : size_begun (loop.conns c).held ≡ 0 = lean_begun max (slot_of c kept.table.slots).conn.phase (loop.conns c) h.1 (phases c l h.0.going).tells in
      let same : begun_if_open (loop.conns c).cause (loop.conns c).held ≡ 0 = ap (λ o. begun_if_open o (loop.conns c).held) h.0.going ∙ none in
      omega arith
  begun_so c Laden l h =
      let some : size_begun (loop.conns c).held ≤ size_given (slot_of c kept.table.slots).size =
      laden_begun max (slot_of c kept.table.slots).conn.phase (slot_of c kept.table.slots).size (loop.conns c) h.1 h.2 (phases c l h.0.going).tells in
      let same : begun_if_open (loop.conns c).cause (loop.conns c).held ≡ size_begun (loop.conns c).held = ap (λ o. begun_if_open o (loop.conns c).held) h.0.going in
      let weight : weight_of size_of (slot_in c kept.table.slots) ≡ size_given (slot_of c kept.table.slots).size = there_weight c h.0.there in
      omega arith
  begun_so c Gone l h =
      let same : begun_if_open (loop.conns c).cause (loop.conns c).held ≡ 0 = ap (λ o. begun_if_open o (loop.conns c).held) h.ended in
      omega arith

  -- the sizes under way are within the budget
  pub begun_fits : all_begun loop ≤ kept.table.budget
  begun_fits =
      let sum : summed (λ c. weight_of size_of (slot_in c kept.table.slots)) loop.count ≡ table_weight size_of kept.table.slots =
      counted size_of kept.table.slots (λ c. weight_of size_of (slot_in c kept.table.slots)) loop.count t.orderly.rising (λ x l. (t.unopened x l).0) (λ x l. refl) in
      let sizes : table_weight size_of kept.table.slots ≡ sizes_given kept.table.slots = sizes_total kept.table.slots in
      let within : sizes_given kept.table.slots ≤ kept.table.budget = t.orderly.within in
      let less : sum_among (λ k. begun_if_open k.cause k.held) loop.conns loop.count ≤ summed (λ c. weight_of size_of (slot_in c kept.table.slots)) loop.count =
      sums_within (λ k. begun_if_open k.cause k.held) loop.conns (λ c. weight_of size_of (slot_in c kept.table.slots)) loop.count (λ x l. begun_so x (slice_index_or kept.stages.items x Gone) l (t.each x l)) in
      omega arith

-- one, where it isn't 0
abbrev one_if_some : ℕ → ℕ
one_if_some n = if n == 0 then 0 else 1

-- what one connection owes
owed_at_most : (cause : Option EndCause) (conn : LoopConn) → owed_by cause conn ≤ 1
owed_at_most (Some cause) conn = omega arith
owed_at_most None conn = go (conn.collected == length conn.payloads) (length conn.left == 0)
  where
    go : (a b : Bool) → (if a then if b then 0 else 1 else 1) ≤ 1
    go true true = omega arith
    go true false = omega arith
    go false b = omega arith

ones : (n : ℕ) → summed (λ x. 1) n ≡ n
ones zero = refl
ones (suc n) = let t : summed (λ x. 1) n ≡ n = ones n in omega arith

pub owing_few : (loop : Loop) → all_owing loop ≤ loop.count
owing_few loop =
    let e : summed (λ x. 1) loop.count ≡ loop.count = ones loop.count in
    let l : sum_among (λ k. owed_by k.cause k) loop.conns loop.count ≤ summed (λ x. 1) loop.count =
    sums_within (λ k. owed_by k.cause k) loop.conns (λ x. 1) loop.count (λ x m. owed_at_most (loop.conns x).cause (loop.conns x)) in
    omega arith

pub owing_fits : (max : ℕ) (first links : LinksState) (kept : LoopConnections) (asks : List ServedAsk) → LoopIsRunning max first links kept asks → kept.owing ≤ 2 ^ 32
owing_fits max first links kept asks g =
    let a : kept.owing ≡ all_owing g.loop = g.owing in
    let b : all_owing g.loop ≤ g.loop.count = owing_few g.loop in
    let d : g.loop.count ≤ 2 ^ 32 = g.so_far.tied.numbered in
    omega arith

-- nothing, where all was collected and written
pub owes_none : (conn : LoopConn) → conn.collected ≡ length conn.payloads → conn.left ≡ [] → owed_by None conn ≡ 0
owes_none conn all nothing =
    ap (λ b. if b then if length conn.left == 0 then 0 else 1 else 1) (eq-eqb conn.collected (length conn.payloads) all)
    ∙ ap (λ (k : List ℕ). if length k == 0 then 0 else 1) nothing

-- one, where it wasn't
pub owes_outcome : (conn : LoopConn) → conn.collected ≢ length conn.payloads → owed_by None conn ≡ 1
owes_outcome conn n = ap (λ b. if b then if length conn.left == 0 then 0 else 1 else 1) (ne_eqb conn.collected (length conn.payloads) n)

pub owes_bytes : (conn : LoopConn) → conn.collected ≡ length conn.payloads → conn.left ≢ [] → owed_by None conn ≡ 1
owes_bytes conn all some =
    ap (λ b. if b then if length conn.left == 0 then 0 else 1 else 1) (eq-eqb conn.collected (length conn.payloads) all) ∙ go conn.left some
  where
    go : (left : List ℕ) → left ≢ [] → one_if_some (length left) ≡ 1
    go [] n = absurd (n refl)
    go (x ∷ xs) n = ap (λ b. if b then 0 else 1) (ne_eqb (suc (length xs)) 0 (λ e. let f : ⊥ = omega arith in f))
