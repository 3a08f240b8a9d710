use Rattle.std.proofs.Common.{◌≡◌, ℕ, ◌<◌, [], ◌∷◌, slice_get, refl, sym, subst, arith}
use Rattle.streams.specs.declared.marks.Mark.TheVariants.{Opened, Read, Ended, Wrote, Closed}
use Rattle.host_model.specs.declared.cause.EndCause.TheVariants.{End}
use Rattle.host_model.specs.TinyDesk.{tiny_desk, counting, tiny_entry, size_of_one}
use Rattle.machine_model.specs.Tiny.{tiny_hall}
use Rattle.machine_model.specs.Merge.{cell_at_first}
use Rattle.script_model.specs.ScriptLines.{opening, piece, input_end, ScriptPlan}
use Rattle.script_model.specs.Playing.{always_ample, Play}
use Rattle.script_model.specs.Rehearsing.{left_by, before_all, rehearsal}
use Rattle.script_model.specs.Rows.{tiny_script, frame_of_one, ShowsAll}
use Rattle.script_model.proofs.BarePlays.{shows_one}
use Rattle.script_model.proofs.examples.what_shows_of_a_call.Goals as goal

abbrev script : ScriptPlan
script = tiny_script (opening ∷ piece 0 (frame_of_one 1) ∷ input_end 0 ∷ []) []

abbrev play : Play ℕ ℕ ℕ
play = left_by (before_all (cell_at_first tiny_hall) script) (rehearsal tiny_desk counting always_ample 20 2 1 script (cell_at_first tiny_hall))

shown : ShowsAll 2 1 script (Opened 0 ∷ Read 0 size_of_one ∷ Read 0 (1 ∷ []) ∷ Wrote 0 (5 ∷ 5 ∷ []) ∷ Ended 0 ∷ Closed 0 ∷ []) (tiny_entry 0 5 ∷ []) (End ∷ [])
shown =
    record {
      first = cell_at_first tiny_hall;
      last = play.cell;
      is_first = record { tape = refl; count = refl; hall = record { opened = record { jobs = refl; taken = refl; outcomes = refl; closed = refl; broken = refl }; memories = refl; journal = refl }; workers = λ w. refl };
      rehearsed = record { fuel = 20; play = play; done = refl; count = refl; same = refl };
      same_tape = refl;
      same_journal = refl;
      ended = record { count = refl; each = λ c l. subst (λ n. (play.cell.loop.conns n).cause ≡ slice_get (End ∷ []) n) (sym (none_else c l)) refl };
    }
  where
    none_else : (c : ℕ) → c < 1 → c ≡ 0
    none_else c l = omega arith

pub returns-clause-shows : goal.returns-clause-shows
returns-clause-shows c = shown

pub returns-clause-no_other : goal.returns-clause-no_other
returns-clause-no_other c tape journal causes shows =
    let t = shows_one tiny_desk counting always_ample 2 1 script (5 ∷ []) 0 0 tape _ journal _ causes _ shows shown in (t.1, t.2, t.3)
