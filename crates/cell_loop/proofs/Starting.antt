-- The loop's part at its opening is tied to the play before the first line.
use Rattle.std.proofs.Common.{◌≡◌, length, refl, sym, ap, ◌∙◌, arith}
use Rattle.machine_model.specs.Machine.{IsFirst}
use Rattle.script_model.specs.ScriptLines.{ScriptPlan}
use Rattle.script_model.specs.Rehearsing.{before_all}
use Rattle.conn_table.specs.Slots.{slot_in}
use Rattle.conn_table.specs.Table.{TableView}
use Rattle.cell_loop.specs.declared.loop_part.LoopPart.{LoopPart}
use Rattle.cell_loop.specs.Settings.{CellSetting, ServedCell}
use Rattle.cell_loop.specs.LoopTied.{IsLoopTied, IsFreshPart}

pub starts_tied : (s : CellSetting) (part : LoopPart) (first : ServedCell) (script : ScriptPlan) → IsFirst s.opening first → IsFreshPart s script part → IsLoopTied s part (before_all first script)
starts_tied s part first script is_first fresh =
    let none : length part.stages.items ≡ 0 = ap length fresh.stages in
    record {
      budget = ap (λ (t : TableView). t.budget) fresh.table;
      tape = is_first.tape ∙ sym fresh.tape;
      count = is_first.count ∙ sym none;
      stages = λ c below. let f : ⊥ = omega arith in absurd f;
      unopened = λ c beyond. (ap (λ (t : TableView). slot_in c t.slots) fresh.table, refl);
      unread = λ c. sym (fresh.unread c);
      finish = λ c. sym (fresh.finish c);
      rules = λ c. sym (fresh.rules c);
      pieces = fresh.pieces;
      writes = fresh.writes;
      fed = omega arith;
    }
