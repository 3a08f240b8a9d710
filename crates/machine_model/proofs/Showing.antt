-- What the plain machine shows of a run of the tiny desk.
use Rattle.std.proofs.Common.{◌≡◌, ℕ, zero, suc, ◌+◌, ◌<◌, Option, None, Some, List, [], ◌∷◌, map, length, slice_get, refl, sym, ap, ◌∙◌, subst, arith}
use Rattle.std.proofs.lemmas.List.{length-map}
use Rattle.std.proofs.lemmas.Option.{none-some, same_Some}
use Rattle.streams.specs.declared.marks.Mark.{Mark}
use Rattle.host_model.specs.declared.cause.EndCause.{EndCause}
use Rattle.host_model.specs.Journal.{JournalEntry}
use Rattle.host_model.specs.TinyDesk.{tiny_desk, counting, IsTinyRun}
use Rattle.host_model.specs.Headline.{Headline}
use Rattle.machine_model.specs.HallState.{IsNew}
use Rattle.machine_model.specs.Loop.{LoopConn, Loop}
use Rattle.machine_model.specs.Machine.{Cell, MachineEvent, EventsLead, IsFirst, HaveAllEnded}
use Rattle.machine_model.specs.Plain.{Told, goes, event_told, run_plain}
use Rattle.machine_model.specs.Merge.{cell_at_first}
use Rattle.machine_model.specs.Tiny.{tiny_hall, causes_from, shown, LeadTo}

pub tiny_is_new : IsNew (5 ∷ []) tiny_hall
tiny_is_new = record { opened = record { jobs = refl; taken = refl; outcomes = refl; closed = refl; broken = refl }; memories = refl; journal = refl }

pub tiny_is_first : IsFirst (5 ∷ []) (cell_at_first tiny_hall)
tiny_is_first = record { tape = refl; count = refl; hall = tiny_is_new; workers = λ w. refl }

-- the causes of n connections
cause_numbers : (conns : ℕ → LoopConn) (c n : ℕ) → length (causes_from conns c n) ≡ n
cause_numbers conns c zero = refl
cause_numbers conns c (suc n) = ap suc (cause_numbers conns (suc c) n)

cause_at : (conns : ℕ → LoopConn) (c n x : ℕ) → x < n → slice_get (causes_from conns c n) x ≡ Some (conns (c + x)).cause
cause_at conns c zero x l = absurd (let f : ⊥ = omega arith in f)
cause_at conns c (suc n) zero l = let e : c ≡ c + 0 = omega arith in ap (λ y. Some (conns y).cause) e
cause_at conns c (suc n) (suc x) l =
    let e : suc c + x ≡ c + suc x = omega arith in cause_at conns (suc c) n x (omega arith) ∙ ap (λ y. Some (conns y).cause) e

some_at : (causes : List EndCause) (x : ℕ) (cause : Option EndCause) → slice_get (map Some causes) x ≡ Some cause → cause ≡ slice_get causes x
some_at [] x cause e = absurd (none-some cause e)
some_at (first ∷ causes) zero cause e = sym (same_Some (Some first) cause e)
some_at (first ∷ causes) (suc x) cause e = some_at causes x cause e

pub ended_by : (loop : Loop) (causes : List EndCause) → causes_from loop.conns 0 loop.count ≡ map Some causes → HaveAllEnded loop causes
ended_by loop causes e =
    record {
      count = sym (length-map causes Some) ∙ ap length (sym e) ∙ cause_numbers loop.conns 0 loop.count;
      each = λ c l. some_at causes c (loop.conns c).cause (ap (λ (xs : List (Option EndCause)). slice_get xs c) (sym e) ∙ cause_at loop.conns 0 loop.count c l
          ∙ (let n : 0 + c ≡ c = omega arith in ap (λ y. Some (loop.conns y).cause) n));
    }

-- what is shown is of a run
pub shown_meets : ((told : List Told) (cell : Cell ℕ ℕ ℕ) → run_plain tiny_desk counting told (Some (cell_at_first tiny_hall)) ≡ Some cell → EventsLead tiny_desk counting (cell_at_first tiny_hall) (map event_told told) cell)
    → ((events : List MachineEvent) (cell : Cell ℕ ℕ ℕ) (causes : List EndCause) → EventsLead tiny_desk counting (cell_at_first tiny_hall) events cell → HaveAllEnded cell.loop causes
    → Headline tiny_desk counting (5 ∷ []) cell.loop.tape cell.hall.journal causes)
    → (events : List MachineEvent) (tape : List Mark) (journal : List (JournalEntry ℕ ℕ)) (causes : List EndCause) → LeadTo events tape journal (map Some causes) → IsTinyRun tape journal causes
shown_meets runs law events tape journal causes e = go (run_plain tiny_desk counting (map goes events) (Some (cell_at_first tiny_hall))) refl e
  where
    go : (x : Option (Cell ℕ ℕ ℕ)) → run_plain tiny_desk counting (map goes events) (Some (cell_at_first tiny_hall)) ≡ x → shown x ≡ Some (tape, journal, map Some causes) → IsTinyRun tape journal causes
    go None r s = absurd (none-some (tape, journal, map Some causes) s)
    go (Some cell) r s =
        let t : (cell.loop.tape, cell.hall.journal, causes_from cell.loop.conns 0 cell.loop.count) ≡ (tape, journal, map Some causes) =
        same_Some (cell.loop.tape, cell.hall.journal, causes_from cell.loop.conns 0 cell.loop.count) (tape, journal, map Some causes) s in
        subst (λ (u : List Mark × List (JournalEntry ℕ ℕ)). Headline tiny_desk counting (5 ∷ []) u.0 u.1 causes) (λ i. ((t i).0, (t i).1))
        (law (map event_told (map goes events)) cell causes (runs (map goes events) cell r) (ended_by cell.loop causes (λ i. (t i).2)))
