use Rattle.std.proofs.Common.{◌<◌, ◌≤◌, ◌^◌, arith}
use Rattle.call_rules.specs.Desks.{longest_payload}
use Rattle.call_model.specs.Desk.{desk_of}
use Rattle.thrift_host.specs.Runs.{arranged_office, answering_of}
use Rattle.thrift_host.proofs.EntryLines.{is_call_line}
use Rattle.thrift_host.proofs.laws.a_report_tells_its_run.Goals as goal

pub returns-clause-rehearsed : goal.returns-clause-rehearsed
returns-clause-rehearsed c = λ r a input s t text bounds before other x y.
    let sound = c.an_arranged_office_is_sound.ensures r a bounds in
    let most : (arranged_office r a).max_frame ≤ longest_payload = sound.most in
    let small : (desk_of (arranged_office r a)).max_frame < 2 ^ 31 = omega (arith, most) in
    c.a_report_of_an_input_tells_its_run.ensures.rehearsed (answering_of r a) input s t text bounds.workers small (c.an_office_is_a_desk.ensures.sound (arranged_office r a) sound)
    (record { named = λ e plain. is_call_line e (c.each_entry_is_one_line.ensures e plain); connections = c.lines_tell_connections.ensures }) before other x y

pub returns-clause-served : goal.returns-clause-served
returns-clause-served c = λ r a input s t text bounds before other x y.
    let sound = c.an_arranged_office_is_sound.ensures r a bounds in
    let most : (arranged_office r a).max_frame ≤ longest_payload = sound.most in
    let small : (desk_of (arranged_office r a)).max_frame < 2 ^ 31 = omega (arith, most) in
    c.a_report_of_an_input_tells_its_run.ensures.served (answering_of r a) input s t text bounds.workers small (c.an_office_is_a_desk.ensures.sound (arranged_office r a) sound)
    (record { named = λ e plain. is_call_line e (c.each_entry_is_one_line.ensures e plain); connections = c.lines_tell_connections.ensures }) before other x y
