use Rattle.host_model.proofs.WrongRuns.{called_twice, replied_twice, not_replied, another_answer, end_in_a_frame, cut_behind_a_frame, good_size_refused, not_closed, replied_before_it_is_whole, read_on_before_the_reply, out_of_order, marks_of_nobody, entry_of_nobody, end_behind_a_refused_head, stopped_behind_a_bad_size, two_frames_at_once, write_fault_behind_the_reply, cut_behind_a_bad_size, good_head_refused, opened_twice, wrong_number, read_fault_behind_a_bad_size}
use Rattle.host_model.proofs.examples.wrong_runs.Goals as goal

pub returns-clause-called_twice : goal.returns-clause-called_twice
returns-clause-called_twice c = called_twice

pub returns-clause-replied_twice : goal.returns-clause-replied_twice
returns-clause-replied_twice c = replied_twice

pub returns-clause-not_replied : goal.returns-clause-not_replied
returns-clause-not_replied c = not_replied

pub returns-clause-another_answer : goal.returns-clause-another_answer
returns-clause-another_answer c = another_answer

pub returns-clause-end_in_a_frame : goal.returns-clause-end_in_a_frame
returns-clause-end_in_a_frame c = end_in_a_frame

pub returns-clause-cut_behind_a_frame : goal.returns-clause-cut_behind_a_frame
returns-clause-cut_behind_a_frame c = cut_behind_a_frame

pub returns-clause-good_size_refused : goal.returns-clause-good_size_refused
returns-clause-good_size_refused c = good_size_refused

pub returns-clause-not_closed : goal.returns-clause-not_closed
returns-clause-not_closed c = not_closed

pub returns-clause-replied_before_it_is_whole : goal.returns-clause-replied_before_it_is_whole
returns-clause-replied_before_it_is_whole c = replied_before_it_is_whole

pub returns-clause-read_on_before_the_reply : goal.returns-clause-read_on_before_the_reply
returns-clause-read_on_before_the_reply c = read_on_before_the_reply

pub returns-clause-out_of_order : goal.returns-clause-out_of_order
returns-clause-out_of_order c = out_of_order

pub returns-clause-marks_of_nobody : goal.returns-clause-marks_of_nobody
returns-clause-marks_of_nobody c = marks_of_nobody

pub returns-clause-entry_of_nobody : goal.returns-clause-entry_of_nobody
returns-clause-entry_of_nobody c = entry_of_nobody

pub returns-clause-end_behind_a_refused_head : goal.returns-clause-end_behind_a_refused_head
returns-clause-end_behind_a_refused_head c = end_behind_a_refused_head

pub returns-clause-stopped_behind_a_bad_size : goal.returns-clause-stopped_behind_a_bad_size
returns-clause-stopped_behind_a_bad_size c = stopped_behind_a_bad_size

pub returns-clause-two_frames_at_once : goal.returns-clause-two_frames_at_once
returns-clause-two_frames_at_once c = two_frames_at_once

pub returns-clause-write_fault_behind_the_reply : goal.returns-clause-write_fault_behind_the_reply
returns-clause-write_fault_behind_the_reply c = write_fault_behind_the_reply

pub returns-clause-cut_behind_a_bad_size : goal.returns-clause-cut_behind_a_bad_size
returns-clause-cut_behind_a_bad_size c = cut_behind_a_bad_size

pub returns-clause-good_head_refused : goal.returns-clause-good_head_refused
returns-clause-good_head_refused c = good_head_refused

pub returns-clause-opened_twice : goal.returns-clause-opened_twice
returns-clause-opened_twice c = opened_twice

pub returns-clause-wrong_number : goal.returns-clause-wrong_number
returns-clause-wrong_number c = wrong_number

pub returns-clause-read_fault_behind_a_bad_size : goal.returns-clause-read_fault_behind_a_bad_size
returns-clause-read_fault_behind_a_bad_size c = read_fault_behind_a_bad_size
