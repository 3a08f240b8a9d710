use Rattle.std.proofs.Common.{◌≡◌, subst}
use Rattle.script_model.specs.Playing.{always_ample}
use Rattle.script_model.specs.Rehearsing.{IsRehearsalOf}
use Rattle.script_model.specs.Showing.{IsRehearsedTo}
use Rattle.script_model.proofs.BarePlays.{shows_one}
use Rattle.script_model.proofs.showing.what_shows_with_memory_is_one.Goals as goal

pub returns-clause-ample : goal.returns-clause-ample
returns-clause-ample g c d r memories memory budget workers script wants tape journal causes small shown none =
    let never : wants ≡ 0 =
    (c.want_of_memory_shows.ensures.exactly d r memories memory budget workers script wants shown.first shown.last causes small shown.is_first shown.rehearsed shown.ended).1 none in
    record {
      first = shown.first;
      last = shown.last;
      is_first = shown.is_first;
      rehearsed = c.a_rehearsal_is_a_run.ensures.with_ample_memory d r memory budget workers script shown.first shown.last small
          (subst (λ n. IsRehearsalOf d r memory budget workers script n shown.first shown.last) never shown.rehearsed);
      same_tape = shown.same_tape;
      same_journal = shown.same_journal;
      ended = shown.ended;
    }

pub returns-clause-one : goal.returns-clause-one
returns-clause-one g c d r memories memory memory_then budget workers script wants others tape marks journal entries causes ends small shown none shown_then none_then =
    let one : IsRehearsedTo d r memories always_ample budget workers script 0 tape journal causes =
    returns-clause-ample g c d r memories memory budget workers script wants tape journal causes small shown none in
    let two : IsRehearsedTo d r memories always_ample budget workers script 0 marks entries ends =
    returns-clause-ample g c d r memories memory_then budget workers script others marks entries ends small shown_then none_then in
    let t = shows_one d r always_ample budget workers script memories 0 0 tape marks journal entries causes ends one two in
    (t.1, t.2, t.3)
