-- What is known of a connection that is open.
use Rattle.std.proofs.Common.{◌≡◌, ℕ, ◌<◌, ◌≤◌, ◌⊎◌, Option, IsSome, [], length, slice_index_or, refl, inl, inr, arith}
use Rattle.std.proofs.lemmas.Bool.{cases_lt}
use Rattle.std.proofs.lemmas.List.{get_or_past}
use Rattle.outside.specs.LinksState.{LinksState}
use Rattle.host_model.specs.declared.cause.EndCause.TheVariants.{Stopped}
use Rattle.conn_state.specs.Phase.{Phase, sizing, held, framing, ready, waiting, writing, ended, IsReading, HasNotEnded}
use Rattle.conn_table.specs.Table.{slot_of, HasItsSize}
use Rattle.conn_table.proofs.Placing.{has_value}
use Rattle.machine_model.specs.Loop.{LoopConn, Loop}
use Rattle.conn_refinement.specs.Phases.{HasAllCollected, PhaseTells, IsLean}
use Rattle.loop_conns.specs.declared.connections.ConnStage.{ConnStage}
use Rattle.loop_conns.specs.declared.connections.ConnStage.TheVariants.{Lean, Laden, Gone}
use Rattle.loop_conns.specs.declared.connections.LoopConnections.{LoopConnections}
use Rattle.loop_conns.specs.Tied.{IsLaden, IsOpenOnLinks, StageTells, AreTied}
use Rattle.loop_conns.specs.Ended.{IsNumbered, HasSizeBy}
use Rattle.loop_conns.specs.Going.{IsOpenAt}

-- connection c, open: it is known, in the table, on the links and in the machine, and has a size by its place
pub record Standing (links : LinksState) (kept : LoopConnections) (loop : Loop) (c : ℕ) : Type 0 where
  pub below : c < loop.count
  pub known : IsNumbered c kept
  pub here : IsOpenOnLinks links kept.table c (loop.conns c) (slice_index_or kept.causes.items c Stopped)
  pub size : HasSizeBy (slice_index_or kept.stages.items c Gone) (slot_of c kept.table.slots).size
  pub going : HasNotEnded (slot_of c kept.table.slots).conn.phase

lean_going : (phase : Phase) → IsLean phase → HasNotEnded phase
lean_going (sizing bytes) h = tt
lean_going (held size) h = tt
lean_going (framing size bytes) h = tt
lean_going (ready number payload) h = tt
lean_going (waiting number) h = tt
lean_going (writing left) h = tt
lean_going (ended cause) h = h

laden_going : (phase : Phase) → IsLaden phase → HasNotEnded phase
laden_going (sizing bytes) h = tt
laden_going (held size) h = tt
laden_going (framing size bytes) h = tt
laden_going (ready number payload) h = tt
laden_going (waiting number) h = tt
laden_going (writing left) h = tt
laden_going (ended cause) h = h

laden_size : (phase : Phase) (size : Option ℕ) → IsLaden phase → HasItsSize phase size → IsSome size
laden_size (framing n bytes) size h is = has_value size n is
laden_size (ready number payload) size h is = has_value size (length payload) is
laden_size (waiting number) size h is = is
laden_size (sizing bytes) size h is = absurd h
laden_size (held n) size h is = absurd h
laden_size (writing left) size h is = absurd h
laden_size (ended cause) size h is = absurd h

module _ (first links : LinksState) (kept : LoopConnections) (loop : Loop) (c : ℕ) (t : AreTied first links kept loop) where
  abbrev Tells : ConnStage → Type 0
  Tells place = StageTells first links kept.table c (loop.conns c) (slice_index_or kept.causes.items c Stopped) place

  open_here : (place : ConnStage) → (place ≡ Gone → ⊥) → Tells place
      → IsOpenOnLinks links kept.table c (loop.conns c) (slice_index_or kept.causes.items c Stopped) × HasSizeBy place (slot_of c kept.table.slots).size × HasNotEnded (slot_of c kept.table.slots).conn.phase
  open_here Lean n h = (h.0, h.2, lean_going (slot_of c kept.table.slots).conn.phase h.1)
  open_here Laden n h = (h.0, laden_size (slot_of c kept.table.slots).conn.phase (slot_of c kept.table.slots).size h.1 h.2, laden_going (slot_of c kept.table.slots).conn.phase h.1)
  open_here Gone n h = absurd (n refl)

  opened : IsOpenAt c kept → c < loop.count
  opened is_open = go (cases_lt c (length kept.stages.items))
    where
      go : (c < length kept.stages.items) ⊎ (length kept.stages.items ≤ c) → c < loop.count
      go (inl l) = let e : loop.count ≡ length kept.stages.items = t.stages in omega arith
      go (inr l) = absurd (is_open (get_or_past kept.stages.items c Gone l))

  pub standing : IsOpenAt c kept → Standing links kept loop c
  standing is_open =
      let l : c < loop.count = opened is_open in
      let h : IsOpenOnLinks links kept.table c (loop.conns c) (slice_index_or kept.causes.items c Stopped) × HasSizeBy (slice_index_or kept.stages.items c Gone) (slot_of c kept.table.slots).size
      × HasNotEnded (slot_of c kept.table.slots).conn.phase = open_here (slice_index_or kept.stages.items c Gone) is_open (t.each c l) in
      let stages : loop.count ≡ length kept.stages.items = t.stages in
      let causes : loop.count ≡ length kept.causes.items = t.count in
      record { below = l; known = (omega arith, omega arith); here = h.0; size = h.1; going = h.2 }

-- what a phase in which bytes are read tells of the machine's connection
pub owes_nothing : (max : ℕ) (phase : Phase) (conn : LoopConn) → IsReading phase → PhaseTells max phase conn → HasAllCollected conn × (conn.left ≡ [])
owes_nothing max (sizing bytes) conn reads t = (t.0, t.3)
owes_nothing max (framing size bytes) conn reads t = (t.0, t.5)
owes_nothing max (held size) conn reads t = absurd reads
owes_nothing max (ready number payload) conn reads t = absurd reads
owes_nothing max (waiting number) conn reads t = absurd reads
owes_nothing max (writing left) conn reads t = absurd reads
owes_nothing max (ended cause) conn reads t = absurd reads
