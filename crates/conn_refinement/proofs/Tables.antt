-- What a table keeps where the state or the size of one connection has changed.
use Rattle.std.proofs.Common.{◌≡◌, ℕ, ◌<◌, ◌≤◌, ◌⊎◌, Option, Some, List, [], length, slice_get, sym, ap, ◌∙◌, subst, inl, inr, IsSome, refl, arith}
use Rattle.std.proofs.lemmas.Bool.{cases_lt}
use Rattle.std.proofs.lemmas.Option.{none-some, slice_get_past}
use Rattle.streams.specs.declared.outcomes.Settled.{Settled}
use Rattle.streams.specs.declared.outcomes.Settled.TheVariants.{Reply, Nothing, Close, NoMemory as NoRoom}
use Rattle.conn_state.specs.Phase.{ConnView}
use Rattle.conn_state.specs.Run.{EachIsByte}
use Rattle.conn_state.specs.Step.{after_answer}
use Rattle.conn_table.specs.declared.places.Slot.{Slot}
use Rattle.conn_table.specs.Slots.{slot_in, with_slot, without_number}
use Rattle.conn_table.specs.Table.{TableView, slot_of, with_state, with_size, TakesRoom}
use Rattle.conn_table.proofs.Placing.{has_value}
use Rattle.conn_table.proofs.Rising.{count_put}
use Rattle.conn_table.proofs.Sizing.{found_put, of_found, other_put, other_without}
use Rattle.conn_refinement.specs.Tables.{IsSameBut}

-- no byte is one
pub no_bytes : EachIsByte []
no_bytes i = omega arith

-- tables that differ in one connection
pub but_put : (table : TableView) (c : ℕ) (new : Slot) → new.number ≡ c → IsSameBut c table (record table { slots = with_slot new table.slots })
but_put table c new is = record { budget = refl; others = λ x n. other_put new x table.slots (λ e. n (sym is ∙ e)) }

pub but_gone : (table : TableView) (c : ℕ) → IsSameBut c table (record table { slots = without_number c table.slots })
but_gone table c = record { budget = refl; others = λ x n. other_without c x table.slots n }

pub but_then : (c : ℕ) (old mid new : TableView) → IsSameBut c old mid → IsSameBut c mid new → IsSameBut c old new
but_then c old mid new a b = record { budget = b.budget ∙ a.budget; others = λ x n. b.others x n ∙ a.others x n }

-- a place of a list that has an element
pub place_of : {X : Type 0} (xs : List X) (c : ℕ) (x : X) → slice_get xs c ≡ Some x → c < length xs
place_of xs c x e = go (cases_lt c (length xs))
  where
    go : (c < length xs) ⊎ (length xs ≤ c) → c < length xs
    go (inl l) = l
    go (inr l) = absurd (none-some x (sym (slice_get_past xs c l) ∙ e))

-- a connection in this state, with the size that it has
abbrev pub stated : ℕ → ConnView → List Slot → Slot
stated c conn slots = record { number = c; conn = conn; size = (slot_of c slots).size }

-- one with this size, in the state that it has
abbrev pub sized : ℕ → Option ℕ → List Slot → Slot
sized c size slots = record { number = c; conn = (slot_of c slots).conn; size = size }

-- the state of connection c has changed
module _ (c : ℕ) (conn : ConnView) (old new : TableView) (there : IsSome (slot_in c old.slots)) (is : new ≡ record old { slots = with_state c conn old.slots }) where
  pub state_found : slot_in c new.slots ≡ Some (stated c conn old.slots)
  state_found = ap (λ (t : TableView). slot_in c t.slots) is ∙ found_put (stated c conn old.slots) old.slots there

  pub state_there : IsSome (slot_in c new.slots)
  state_there = has_value (slot_in c new.slots) (stated c conn old.slots) state_found

  pub state_is : (slot_of c new.slots).conn ≡ conn
  state_is = ap (λ (k : Slot). k.conn) (of_found c new.slots (stated c conn old.slots) state_found)

  pub state_size : (slot_of c new.slots).size ≡ (slot_of c old.slots).size
  state_size = ap (λ (k : Slot). k.size) (of_found c new.slots (stated c conn old.slots) state_found)

  pub state_but : IsSameBut c old new
  state_but = subst (λ (t : TableView). IsSameBut c old t) (sym is) (but_put old c (stated c conn old.slots) refl)

  pub state_count : length new.slots ≡ length old.slots
  state_count = ap (λ (t : TableView). length t.slots) is ∙ count_put (stated c conn old.slots) old.slots

-- its size has changed
module _ (c : ℕ) (size : Option ℕ) (old new : TableView) (there : IsSome (slot_in c old.slots)) (is : new ≡ record old { slots = with_size c size old.slots }) where
  pub size_found : slot_in c new.slots ≡ Some (sized c size old.slots)
  size_found = ap (λ (t : TableView). slot_in c t.slots) is ∙ found_put (sized c size old.slots) old.slots there

  pub size_there : IsSome (slot_in c new.slots)
  size_there = has_value (slot_in c new.slots) (sized c size old.slots) size_found

  pub size_state : (slot_of c new.slots).conn ≡ (slot_of c old.slots).conn
  size_state = ap (λ (k : Slot). k.conn) (of_found c new.slots (sized c size old.slots) size_found)

  pub size_is : (slot_of c new.slots).size ≡ size
  size_is = ap (λ (k : Slot). k.size) (of_found c new.slots (sized c size old.slots) size_found)

  pub size_but : IsSameBut c old new
  size_but = subst (λ (t : TableView). IsSameBut c old t) (sym is) (but_put old c (sized c size old.slots) refl)

  pub size_count : length new.slots ≡ length old.slots
  size_count = ap (λ (t : TableView). length t.slots) is ∙ count_put (sized c size old.slots) old.slots

-- what is settled takes no room any more
pub idle_answer : (settled : Settled) → TakesRoom (after_answer settled) → ⊥
idle_answer (Reply reply) takes = takes
idle_answer Nothing takes = takes
idle_answer (Close fault) takes = takes
idle_answer NoRoom takes = takes
