use Rattle.std.proofs.Common.{◌≡◌, ◌≤◌, Vec, Global, map, length, sym, ap, ◌∙◌, inr}
use Rattle.script_model.specs.Ending.{LetsAllEnd}
use Rattle.script_text.specs.Plans.{plain_line}
use Rattle.script_text.specs.Sound.{IsSoundPlan}
use Rattle.hall_core.specs.Meant.{ServedHall}
use Rattle.cell_loop.specs.Settings.{CellSetting}
use Rattle.cell_core.specs.Parts.{parts_of}
use Rattle.cell_core.specs.Whole.{IsFitting}
use Rattle.cell_core.proofs.Opened.{all_good, lets_all, fresh_count}
use Rattle.cell_core.proofs.Finishing.{nothing_seen, begun_of_desk, begun_under_way, done_seen, done_counted, done_rehearsed, stop_under_way, stop_seen, stop_rose, stop_count}
use Rattle.cell_core.proofs.Givens.{max_given, within_given, slots_given, lines_good, plan_through, written_as, or_none_as, rose_as}
use Rattle.cell_core.proofs.rehearsal.rehearse.Goals as goal
use Rattle.call_rules.specs.Desks.{longest_payload}

pub returns-in-Err-clause-run : goal.returns-in-Err-clause-run
returns-in-Err-clause-run g c =
    let s : CellSetting = record { desk = g.D.Desk.meaning c.args.desk.now; opening = map g.H.Handler.service c.args.handlers.items; budget = c.args.limits.read_budget; workers = c.args.workers } in
    let max : s.desk.max_frame ≤ longest_payload = max_given s.desk.max_frame c.args.limits.max_frame c.args.limits.read_budget c.requires.can.longest c.requires.can.within c.requires.can.budget in
    nothing_seen s (g.J.Journal.told c.args.journal) (record { tape = c.nothing.result.tape; causes = c.nothing.result.ends; told = g.J.Journal.told c.nothing.result.journal; services = map g.H.Handler.service c.nothing.result.handlers.items; faults_before = g.J.Journal.faults c.args.journal; faults = g.J.Journal.faults c.nothing.result.journal }) max c.requires.empty c.nothing.ensures.tape.0 c.nothing.ensures.tape.1
    (ap g.J.Journal.told (c.nothing.ensures.kept.1 ∙ c.in-Err.ensures.err.1))
    (ap (λ (v : Vec g.row.H.Denot Global). map g.H.Handler.service v.items) (c.nothing.ensures.kept.0 ∙ c.in-Err.ensures.err.0))

pub returns-in-Err-made-clause-run : goal.returns-in-Err-made-clause-run
returns-in-Err-made-clause-run g c =
    let s : CellSetting = record { desk = g.D.Desk.meaning c.args.desk.now; opening = map g.H.Handler.service c.args.handlers.items; budget = c.args.limits.read_budget; workers = c.args.workers } in
    let max : s.desk.max_frame ≤ longest_payload = max_given s.desk.max_frame c.args.limits.max_frame c.args.limits.read_budget c.requires.can.longest c.requires.can.within c.requires.can.budget in
    nothing_seen s (g.J.Journal.told c.args.journal) (record { tape = c.nothing-in-Err-made.result.tape; causes = c.nothing-in-Err-made.result.ends; told = g.J.Journal.told c.nothing-in-Err-made.result.journal; services = map g.H.Handler.service c.nothing-in-Err-made.result.handlers.items; faults_before = g.J.Journal.faults c.args.journal; faults = g.J.Journal.faults c.nothing-in-Err-made.result.journal }) max c.requires.empty c.nothing-in-Err-made.ensures.tape.0 c.nothing-in-Err-made.ensures.tape.1
    (ap g.J.Journal.told c.nothing-in-Err-made.ensures.kept.1 ∙ c.into_parts-handlers.ensures.told ∙ ap (λ (h : ServedHall). h.told) c.in-Ok.ensures.hall)
    (ap (λ (v : Vec g.row.H.Denot Global). map g.H.Handler.service v.items) c.nothing-in-Err-made.ensures.kept.0 ∙ c.into_parts-handlers.ensures.services
    ∙ ap (λ (h : ServedHall). h.memories) c.in-Ok.ensures.hall)

pub returns-in-Err-clause-outs_or_none : goal.returns-in-Err-clause-outs_or_none
returns-in-Err-clause-outs_or_none g c = inr c.nothing.ensures.outs

pub returns-in-Err-made-clause-outs_or_none : goal.returns-in-Err-made-clause-outs_or_none
returns-in-Err-made-clause-outs_or_none g c = inr c.nothing-in-Err-made.ensures.outs

pub do_lines-requires-clause-under_way : goal.do_lines-requires-clause-under_way
do_lines-requires-clause-under_way g c κs within =
    let s : CellSetting = record { desk = g.D.Desk.meaning c.args.desk.now; opening = map g.H.Handler.service c.args.handlers.items; budget = c.args.limits.read_budget; workers = c.args.workers } in
    let sound : IsSoundPlan c.args.script.now = c.scripts_are_sound.ensures.sound c.args.script.now c.lines.ensures.sound in
    let max : s.desk.max_frame ≤ longest_payload = max_given s.desk.max_frame c.args.limits.max_frame c.args.limits.read_budget c.requires.can.longest c.requires.can.within c.requires.can.budget in
    let slots : s.desk.slots ≡ length s.opening = slots_given g.H.Handler.service c.args.handlers.items s.desk.slots c.requires.can.slots in
    begun_of_desk s c.args.script.now c.in-Ok-made.part c.in-Ok-made.workers.items (g.J.Journal.told c.args.journal) (g.J.Journal.faults c.args.journal)
    sound c.in-Ok-made.ensures.part c.in-Ok-made.ensures.workers c.requires.empty max c.in-Ok.hall c.in-Ok.ensures.hall slots

pub do_lines-requires-clause-longest : goal.do_lines-requires-clause-longest
do_lines-requires-clause-longest g c κs within = sym c.requires.can.longest

pub do_lines-requires-clause-good : goal.do_lines-requires-clause-good
do_lines-requires-clause-good g c κs within =
    let s : CellSetting = record { desk = g.D.Desk.meaning c.args.desk.now; opening = map g.H.Handler.service c.args.handlers.items; budget = c.args.limits.read_budget; workers = c.args.workers } in
    let sound : IsSoundPlan c.args.script.now = c.scripts_are_sound.ensures.sound c.args.script.now c.lines.ensures.sound in
    let max : s.desk.max_frame ≤ longest_payload = max_given s.desk.max_frame c.args.limits.max_frame c.args.limits.read_budget c.requires.can.longest c.requires.can.within c.requires.can.budget in
    let slots : s.desk.slots ≡ length s.opening = slots_given g.H.Handler.service c.args.handlers.items s.desk.slots c.requires.can.slots in
    lines_good (length c.in-Ok-made.part.feeds.items) (length c.in-Ok-made.workers.items) _ (map plain_line c.as_slice-lines.result.now) c.args.script.now.lines
    (begun_under_way s c.args.script.now c.in-Ok-made.part c.in-Ok-made.workers.items (g.J.Journal.told c.args.journal) (g.J.Journal.faults c.args.journal)
    sound c.in-Ok-made.ensures.part c.in-Ok-made.ensures.workers c.requires.empty max c.in-Ok.hall c.in-Ok.ensures.hall slots).counted (ap (map plain_line) c.as_slice-lines.ensures ∙ c.lines.ensures.lines)
    (all_good c.args.script.now sound c.args.workers c.requires.moves (length c.in-Ok-made.part.feeds.items) (fresh_count c.args.script.now.rules c.in-Ok-made.part.feeds.items c.in-Ok-made.ensures.part.feeds))

pub stopped-requires-clause-under_way : goal.stopped-requires-clause-under_way
stopped-requires-clause-under_way g c κs within =
    let s : CellSetting = record { desk = g.D.Desk.meaning c.args.desk.now; opening = map g.H.Handler.service c.args.handlers.items; budget = c.args.limits.read_budget; workers = c.args.workers } in
    let sound : IsSoundPlan c.args.script.now = c.scripts_are_sound.ensures.sound c.args.script.now c.lines.ensures.sound in
    let max : s.desk.max_frame ≤ longest_payload = max_given s.desk.max_frame c.args.limits.max_frame c.args.limits.read_budget c.requires.can.longest c.requires.can.within c.requires.can.budget in
    let slots : s.desk.slots ≡ length s.opening = slots_given g.H.Handler.service c.args.handlers.items s.desk.slots c.requires.can.slots in
    stop_under_way s c.args.script.now c.in-Ok-made.part c.in-Ok-made.workers.items (g.J.Journal.told c.args.journal) (g.J.Journal.faults c.args.journal)
    sound c.in-Ok-made.ensures.part c.in-Ok-made.ensures.workers c.requires.empty max c.in-Ok.hall c.in-Ok.ensures.hall slots
    (parts_of c.do_lines.new.self) c.in-Err-do_lines.stop c.in-Err-do_lines.ensures.err

pub returns-in-Ok-do_lines-clause-run : goal.returns-in-Ok-do_lines-clause-run
returns-in-Ok-do_lines-clause-run g c =
    let s : CellSetting = record { desk = g.D.Desk.meaning c.args.desk.now; opening = map g.H.Handler.service c.args.handlers.items; budget = c.args.limits.read_budget; workers = c.args.workers } in
    let sound : IsSoundPlan c.args.script.now = c.scripts_are_sound.ensures.sound c.args.script.now c.lines.ensures.sound in
    let max : s.desk.max_frame ≤ longest_payload = max_given s.desk.max_frame c.args.limits.max_frame c.args.limits.read_budget c.requires.can.longest c.requires.can.within c.requires.can.budget in
    let slots : s.desk.slots ≡ length s.opening = slots_given g.H.Handler.service c.args.handlers.items s.desk.slots c.requires.can.slots in
    let fits : IsFitting s =
    record {
      desk = g.met.D.Desk.holds c.args.desk.now;
      max = max;
      within = within_given s.desk.max_frame c.args.limits.max_frame c.args.limits.read_budget c.requires.can.longest c.requires.can.within;
      slots = slots;
    } in
    let lets : LetsAllEnd s.workers c.args.script.now = lets_all c.args.workers c.args.script.now c.requires.moves (c.kept_scripts_let_all_end.ensures.ends c.args.script.now c.lines.ensures.sound) in
    done_seen s c.args.script.now c.in-Ok-made.part c.in-Ok-made.workers.items (g.J.Journal.told c.args.journal) (g.J.Journal.faults c.args.journal)
    sound c.in-Ok-made.ensures.part c.in-Ok-made.ensures.workers c.requires.empty max c.in-Ok.hall c.in-Ok.ensures.hall slots
    (parts_of c.do_lines.new.self)
    (plan_through s (length c.in-Ok-made.workers.items) (record { part = c.in-Ok-made.part; hall = c.in-Ok.hall; workers = c.in-Ok-made.workers.items }) (parts_of c.do_lines.new.self)
    (map plain_line c.as_slice-lines.result.now) c.args.script.now.lines (ap (map plain_line) c.as_slice-lines.ensures ∙ c.lines.ensures.lines) c.in-Ok-do_lines.ensures.done)
    (λ memory wants first last is_first rehearsed. c.a_rehearsal_is_whole.ensures.ended s memory c.args.script.now wants first last fits is_first lets rehearsed)
    (record { tape = c.finished.result.tape; causes = c.finished.result.ends; told = g.J.Journal.told c.finished.result.journal; services = map g.H.Handler.service c.finished.result.handlers.items; faults_before = g.J.Journal.faults c.args.journal; faults = g.J.Journal.faults c.finished.result.journal }) c.finished.ensures.tape c.finished.ensures.ends c.finished.ensures.services c.finished.ensures.told

pub returns-in-Ok-do_lines-clause-all : goal.returns-in-Ok-do_lines-clause-all
returns-in-Ok-do_lines-clause-all g c =
    let s : CellSetting = record { desk = g.D.Desk.meaning c.args.desk.now; opening = map g.H.Handler.service c.args.handlers.items; budget = c.args.limits.read_budget; workers = c.args.workers } in
    let sound : IsSoundPlan c.args.script.now = c.scripts_are_sound.ensures.sound c.args.script.now c.lines.ensures.sound in
    let max : s.desk.max_frame ≤ longest_payload = max_given s.desk.max_frame c.args.limits.max_frame c.args.limits.read_budget c.requires.can.longest c.requires.can.within c.requires.can.budget in
    let slots : s.desk.slots ≡ length s.opening = slots_given g.H.Handler.service c.args.handlers.items s.desk.slots c.requires.can.slots in
    let fits : IsFitting s =
    record {
      desk = g.met.D.Desk.holds c.args.desk.now;
      max = max;
      within = within_given s.desk.max_frame c.args.limits.max_frame c.args.limits.read_budget c.requires.can.longest c.requires.can.within;
      slots = slots;
    } in
    let lets : LetsAllEnd s.workers c.args.script.now = lets_all c.args.workers c.args.script.now c.requires.moves (c.kept_scripts_let_all_end.ensures.ends c.args.script.now c.lines.ensures.sound) in
    λ all. done_rehearsed s c.args.script.now c.in-Ok-made.part c.in-Ok-made.workers.items (g.J.Journal.told c.args.journal) (g.J.Journal.faults c.args.journal)
    sound c.in-Ok-made.ensures.part c.in-Ok-made.ensures.workers c.requires.empty max c.in-Ok.hall c.in-Ok.ensures.hall slots
    (parts_of c.do_lines.new.self)
    (plan_through s (length c.in-Ok-made.workers.items) (record { part = c.in-Ok-made.part; hall = c.in-Ok.hall; workers = c.in-Ok-made.workers.items }) (parts_of c.do_lines.new.self)
    (map plain_line c.as_slice-lines.result.now) c.args.script.now.lines (ap (map plain_line) c.as_slice-lines.ensures ∙ c.lines.ensures.lines) c.in-Ok-do_lines.ensures.done)
    (λ memory wants first last is_first rehearsed. c.a_rehearsal_is_whole.ensures.ended s memory c.args.script.now wants first last fits is_first lets rehearsed)
    (record { tape = c.finished.result.tape; causes = c.finished.result.ends; told = g.J.Journal.told c.finished.result.journal; services = map g.H.Handler.service c.finished.result.handlers.items; faults_before = g.J.Journal.faults c.args.journal; faults = g.J.Journal.faults c.finished.result.journal }) c.finished.ensures.tape c.finished.ensures.ends c.finished.ensures.services c.finished.ensures.told
    (λ memory wants first last is_first rehearsed. c.a_rehearsal_is_whole.ensures.fed s memory c.args.script.now wants first last fits is_first lets sound.few
    (c.kept_scripts_let_all_end.ensures.pieces c.args.script.now c.lines.ensures.sound) rehearsed)
    (λ memory wants first last causes is_first rehearsed over none. c.a_rehearsal_is_whole.ensures.ample s memory c.args.script.now wants first last causes fits is_first rehearsed over none)

pub returns-in-Ok-do_lines-clause-outs : goal.returns-in-Ok-do_lines-clause-outs
returns-in-Ok-do_lines-clause-outs g c =
    let s : CellSetting = record { desk = g.D.Desk.meaning c.args.desk.now; opening = map g.H.Handler.service c.args.handlers.items; budget = c.args.limits.read_budget; workers = c.args.workers } in
    let sound : IsSoundPlan c.args.script.now = c.scripts_are_sound.ensures.sound c.args.script.now c.lines.ensures.sound in
    let max : s.desk.max_frame ≤ longest_payload = max_given s.desk.max_frame c.args.limits.max_frame c.args.limits.read_budget c.requires.can.longest c.requires.can.within c.requires.can.budget in
    let slots : s.desk.slots ≡ length s.opening = slots_given g.H.Handler.service c.args.handlers.items s.desk.slots c.requires.can.slots in
    let fits : IsFitting s =
    record {
      desk = g.met.D.Desk.holds c.args.desk.now;
      max = max;
      within = within_given s.desk.max_frame c.args.limits.max_frame c.args.limits.read_budget c.requires.can.longest c.requires.can.within;
      slots = slots;
    } in
    let lets : LetsAllEnd s.workers c.args.script.now = lets_all c.args.workers c.args.script.now c.requires.moves (c.kept_scripts_let_all_end.ensures.ends c.args.script.now c.lines.ensures.sound) in
    λ all. written_as (length c.finished.result.ends) (length c.do_lines.new.self.part.stages.items) c.finished.result.tape c.do_lines.new.self.part.tape.items c.finished.result.outs
    (done_counted s c.args.script.now c.in-Ok-made.part c.in-Ok-made.workers.items (g.J.Journal.told c.args.journal) (g.J.Journal.faults c.args.journal)
    sound c.in-Ok-made.ensures.part c.in-Ok-made.ensures.workers c.requires.empty max c.in-Ok.hall c.in-Ok.ensures.hall slots
    (parts_of c.do_lines.new.self)
    (plan_through s (length c.in-Ok-made.workers.items) (record { part = c.in-Ok-made.part; hall = c.in-Ok.hall; workers = c.in-Ok-made.workers.items }) (parts_of c.do_lines.new.self)
    (map plain_line c.as_slice-lines.result.now) c.args.script.now.lines (ap (map plain_line) c.as_slice-lines.ensures ∙ c.lines.ensures.lines) c.in-Ok-do_lines.ensures.done)
    (λ memory wants first last is_first rehearsed. c.a_rehearsal_is_whole.ensures.ended s memory c.args.script.now wants first last fits is_first lets rehearsed)
    (record { tape = c.finished.result.tape; causes = c.finished.result.ends; told = g.J.Journal.told c.finished.result.journal; services = map g.H.Handler.service c.finished.result.handlers.items; faults_before = g.J.Journal.faults c.args.journal; faults = g.J.Journal.faults c.finished.result.journal }) c.finished.ensures.tape c.finished.ensures.ends c.finished.ensures.services c.finished.ensures.told)
    c.finished.ensures.tape (c.finished.ensures.outs all)

pub returns-in-Ok-do_lines-clause-outs_or_none : goal.returns-in-Ok-do_lines-clause-outs_or_none
returns-in-Ok-do_lines-clause-outs_or_none g c =
    let s : CellSetting = record { desk = g.D.Desk.meaning c.args.desk.now; opening = map g.H.Handler.service c.args.handlers.items; budget = c.args.limits.read_budget; workers = c.args.workers } in
    let sound : IsSoundPlan c.args.script.now = c.scripts_are_sound.ensures.sound c.args.script.now c.lines.ensures.sound in
    let max : s.desk.max_frame ≤ longest_payload = max_given s.desk.max_frame c.args.limits.max_frame c.args.limits.read_budget c.requires.can.longest c.requires.can.within c.requires.can.budget in
    let slots : s.desk.slots ≡ length s.opening = slots_given g.H.Handler.service c.args.handlers.items s.desk.slots c.requires.can.slots in
    let fits : IsFitting s =
    record {
      desk = g.met.D.Desk.holds c.args.desk.now;
      max = max;
      within = within_given s.desk.max_frame c.args.limits.max_frame c.args.limits.read_budget c.requires.can.longest c.requires.can.within;
      slots = slots;
    } in
    let lets : LetsAllEnd s.workers c.args.script.now = lets_all c.args.workers c.args.script.now c.requires.moves (c.kept_scripts_let_all_end.ensures.ends c.args.script.now c.lines.ensures.sound) in
    or_none_as (length c.finished.result.ends) (length c.do_lines.new.self.part.stages.items) c.finished.result.tape c.do_lines.new.self.part.tape.items c.finished.result.outs
    (done_counted s c.args.script.now c.in-Ok-made.part c.in-Ok-made.workers.items (g.J.Journal.told c.args.journal) (g.J.Journal.faults c.args.journal)
    sound c.in-Ok-made.ensures.part c.in-Ok-made.ensures.workers c.requires.empty max c.in-Ok.hall c.in-Ok.ensures.hall slots
    (parts_of c.do_lines.new.self)
    (plan_through s (length c.in-Ok-made.workers.items) (record { part = c.in-Ok-made.part; hall = c.in-Ok.hall; workers = c.in-Ok-made.workers.items }) (parts_of c.do_lines.new.self)
    (map plain_line c.as_slice-lines.result.now) c.args.script.now.lines (ap (map plain_line) c.as_slice-lines.ensures ∙ c.lines.ensures.lines) c.in-Ok-do_lines.ensures.done)
    (λ memory wants first last is_first rehearsed. c.a_rehearsal_is_whole.ensures.ended s memory c.args.script.now wants first last fits is_first lets rehearsed)
    (record { tape = c.finished.result.tape; causes = c.finished.result.ends; told = g.J.Journal.told c.finished.result.journal; services = map g.H.Handler.service c.finished.result.handlers.items; faults_before = g.J.Journal.faults c.args.journal; faults = g.J.Journal.faults c.finished.result.journal }) c.finished.ensures.tape c.finished.ensures.ends c.finished.ensures.services c.finished.ensures.told)
    c.finished.ensures.tape c.finished.ensures.written

pub returns-in-Err-do_lines-clause-run : goal.returns-in-Err-do_lines-clause-run
returns-in-Err-do_lines-clause-run g c =
    let s : CellSetting = record { desk = g.D.Desk.meaning c.args.desk.now; opening = map g.H.Handler.service c.args.handlers.items; budget = c.args.limits.read_budget; workers = c.args.workers } in
    let sound : IsSoundPlan c.args.script.now = c.scripts_are_sound.ensures.sound c.args.script.now c.lines.ensures.sound in
    let max : s.desk.max_frame ≤ longest_payload = max_given s.desk.max_frame c.args.limits.max_frame c.args.limits.read_budget c.requires.can.longest c.requires.can.within c.requires.can.budget in
    let slots : s.desk.slots ≡ length s.opening = slots_given g.H.Handler.service c.args.handlers.items s.desk.slots c.requires.can.slots in
    stop_seen s c.args.script.now c.in-Ok-made.part c.in-Ok-made.workers.items (g.J.Journal.told c.args.journal) (g.J.Journal.faults c.args.journal)
    sound c.in-Ok-made.ensures.part c.in-Ok-made.ensures.workers c.requires.empty max c.in-Ok.hall c.in-Ok.ensures.hall slots
    (parts_of c.do_lines.new.self) c.in-Err-do_lines.stop c.in-Err-do_lines.ensures.err
    (record { tape = c.stopped.result.tape; causes = c.stopped.result.ends; told = g.J.Journal.told c.stopped.result.journal; services = map g.H.Handler.service c.stopped.result.handlers.items; faults_before = g.J.Journal.faults c.args.journal; faults = g.J.Journal.faults c.stopped.result.journal }) c.stopped.ensures.run c.stopped.ensures.services c.stopped.ensures.told
    (sym (ap (λ (h : ServedHall). h.faults) c.in-Ok.ensures.hall)) c.stopped.ensures.faults

pub returns-in-Err-do_lines-clause-fault : goal.returns-in-Err-do_lines-clause-fault
returns-in-Err-do_lines-clause-fault g c =
    let s : CellSetting = record { desk = g.D.Desk.meaning c.args.desk.now; opening = map g.H.Handler.service c.args.handlers.items; budget = c.args.limits.read_budget; workers = c.args.workers } in
    let sound : IsSoundPlan c.args.script.now = c.scripts_are_sound.ensures.sound c.args.script.now c.lines.ensures.sound in
    let max : s.desk.max_frame ≤ longest_payload = max_given s.desk.max_frame c.args.limits.max_frame c.args.limits.read_budget c.requires.can.longest c.requires.can.within c.requires.can.budget in
    let slots : s.desk.slots ≡ length s.opening = slots_given g.H.Handler.service c.args.handlers.items s.desk.slots c.requires.can.slots in
    λ fault. rose_as (g.J.Journal.faults c.args.journal) c.in-Ok.hall.faults (g.J.Journal.faults c.stopped.result.journal) c.do_lines.new.self.hall.faults
    (sym (ap (λ (h : ServedHall). h.faults) c.in-Ok.ensures.hall)) c.stopped.ensures.faults
    (stop_rose s c.args.script.now c.in-Ok-made.part c.in-Ok-made.workers.items (g.J.Journal.told c.args.journal) (g.J.Journal.faults c.args.journal)
    sound c.in-Ok-made.ensures.part c.in-Ok-made.ensures.workers c.requires.empty max c.in-Ok.hall c.in-Ok.ensures.hall slots
    (parts_of c.do_lines.new.self) c.in-Err-do_lines.stop c.in-Err-do_lines.ensures.err
    (c.stopped.ensures.fault fault))

pub returns-in-Err-clause-kept : goal.returns-in-Err-clause-kept
returns-in-Err-clause-kept g c = λ other. ap g.J.Journal.faults (c.nothing.ensures.kept.1 ∙ c.in-Err.ensures.err.1)

pub returns-in-Err-made-clause-kept : goal.returns-in-Err-made-clause-kept
returns-in-Err-made-clause-kept g c =
    λ other. ap g.J.Journal.faults c.nothing-in-Err-made.ensures.kept.1 ∙ c.into_parts-handlers.ensures.faults ∙ ap (λ (h : ServedHall). h.faults) c.in-Ok.ensures.hall

pub returns-in-Ok-do_lines-clause-kept : goal.returns-in-Ok-do_lines-clause-kept
returns-in-Ok-do_lines-clause-kept g c =
    λ other. c.finished.ensures.faults ∙ c.in-Ok-do_lines.ensures.done.count ∙ ap (λ (h : ServedHall). h.faults) c.in-Ok.ensures.hall

pub returns-in-Err-do_lines-clause-kept : goal.returns-in-Err-do_lines-clause-kept
returns-in-Err-do_lines-clause-kept g c =
    let s : CellSetting = record { desk = g.D.Desk.meaning c.args.desk.now; opening = map g.H.Handler.service c.args.handlers.items; budget = c.args.limits.read_budget; workers = c.args.workers } in
    let sound : IsSoundPlan c.args.script.now = c.scripts_are_sound.ensures.sound c.args.script.now c.lines.ensures.sound in
    let max : s.desk.max_frame ≤ longest_payload = max_given s.desk.max_frame c.args.limits.max_frame c.args.limits.read_budget c.requires.can.longest c.requires.can.within c.requires.can.budget in
    let slots : s.desk.slots ≡ length s.opening = slots_given g.H.Handler.service c.args.handlers.items s.desk.slots c.requires.can.slots in
    λ other. c.stopped.ensures.faults
    ∙ stop_count s c.args.script.now c.in-Ok-made.part c.in-Ok-made.workers.items (g.J.Journal.told c.args.journal) (g.J.Journal.faults c.args.journal)
    sound c.in-Ok-made.ensures.part c.in-Ok-made.ensures.workers c.requires.empty max c.in-Ok.hall c.in-Ok.ensures.hall slots
    (parts_of c.do_lines.new.self) c.in-Err-do_lines.stop c.in-Err-do_lines.ensures.err (λ broken. other (c.stopped.ensures.broken broken))
    ∙ ap (λ (h : ServedHall). h.faults) c.in-Ok.ensures.hall
