use Rattle.std.proofs.Common.{List, ap, subst, ◌≡◌, ◌<◌, ◌-◌, ◌∙◌, ℕ, suc, length, refl, arith, rules}
use Rattle.idl_include.specs.declared.faults.LoadStop.TheVariants as stops
use Rattle.idl_include.specs.Loading.{loaded_before, new_file, linked}
use Rattle.idl_include.specs.SourcesOf.{program_in, AreBegun}
use Rattle.idl_include.specs.declared.sources.IdlFile.{IdlFile}
use Rattle.idl_include.specs.Begun.{written_in, include_meant, IsRefusedAt}
use Rattle.idl_include.specs.Steps.{load_stage}
use Rattle.streams.proofs.Causes.{on_ok}
use Rattle.idl_include.proofs.Stages.{ends_for_want}
use Rattle.idl_include.proofs.Begins.{no_level_ends}
use Rattle.idl_include.proofs.Included.{refused_ends, moves_keeping, before_goes, new_goes, new_ends, want_behind, new_name}
use Rattle.idl_include.proofs.Followed.{goes_none, followed_goes, followed_ends, all_followed, file_steps, ends_at_level, steps_err, steps_stopped, steps_longer, popped}
use Rattle.idl_include.proofs.walk.+walk.Goals as goal

-- a file

pub load_file-returns-then-levels-eq0-clause-steps : goal.load_file-returns-then-levels-eq0-clause-steps
load_file-returns-then-levels-eq0-clause-steps g t c =
    no_level_ends c.args.above.now.items _ _ c.args.name.now c.args.begun.now.items c.args.levels c.stop_at.result c.if-levels-eq0.true c.stop_at.ensures

pub load_file-returns-in_err-wanted-clause-steps : goal.load_file-returns-in_err-wanted-clause-steps
load_file-returns-in_err-wanted-clause-steps g t c =
    let e : c.args.levels ≡ suc (c.args.levels - 1) = omega arith in
    steps_err c.from_residual.result c.in_err-wanted.field-0.0 _ _ _ _ c.from_residual.ensures.1
    (ends_at_level c.args.levels (c.args.levels - 1) c.args.above.now.items c.args.name.now _ _ c.in_err-wanted.field-0.0 e (c.in_err-wanted.ensures.steps (c.args.levels - 1)))

pub load_file-returns-clause-steps : goal.load_file-returns-clause-steps
load_file-returns-clause-steps g t c =
    let e : c.args.levels ≡ suc (c.args.levels - 1) = omega arith in
    let same : c.len-of.result ≡ length c.args.begun.now.items = omega (arith, c.args.begun.now.ok.0, c.len-of.ensures) in
    file_steps c.args.levels (c.args.levels - 1) c.args.above.now.items c.«open».new.above.items c.args.name.now c.len-of.result c.in_ok-wanted.wanted.items c.as_slice.result.now _ _ _ c.follow_all-followed.result
    e same c.as_slice.ensures.value (c.in_ok-wanted.ensures.steps (c.args.levels - 1)) c.follow_all-followed.ensures.steps

pub load_file-returns-clause-above : goal.load_file-returns-clause-above
load_file-returns-clause-above g t c =
    popped c.follow_all-followed.result c.args.name.now c.args.above.now.items c.«open».new.above.items c.follow_all-followed.new.above.items _ c.in_ok-wanted.ensures.above c.follow_all-followed.ensures.above c.pop_front-name.ensures.rest

pub load_file-returns-clause-more : goal.load_file-returns-clause-more
load_file-returns-clause-more g t c =
    let one_more = c.in_ok-wanted.ensures.one_more in
    steps_longer c.follow_all-followed.result (length c.args.begun.now.items) _ _ _ _ c.follow_all-followed.ensures.steps (omega (arith, one_more))

-- includes

pub follow_all-loop-one-init : goal.follow_all-loop-one-init
follow_all-loop-one-init g t c =
    let begun : AreBegun c.args.begun.now.items = search rules in
    record { goes = goes_none _ _ begun; above = refl; sinks = refl }

pub follow_all-loop-one-preserved : goal.follow_all-loop-one-preserved
follow_all-loop-one-preserved g t c = record {
  goes = followed_goes c.args.levels c.args.above.now.items c.loop-one.above.items c.args.file.now c.args.of c.args.wanted.now c.loop-one.one-index c.one-item.result _ _ _ _
      c.loop-one-test.true c.one-item.is c.loop-one.invariant.above c.loop-one.invariant.goes c.in_ok-follow.ensures.steps;
  above = c.in_ok-follow.ensures.above ∙ c.loop-one.invariant.above;
  sinks = c.in_ok-follow.ensures.sinks ∙ c.loop-one.invariant.sinks;
}

pub follow_all-returns-in_err-follow-clause-steps : goal.follow_all-returns-in_err-follow-clause-steps
follow_all-returns-in_err-follow-clause-steps g t c =
    steps_err c.from_residual.result c.in_err-follow.field-0.0 _ _ _ _ c.from_residual.ensures.1
    (followed_ends c.args.levels c.args.above.now.items c.loop-one.above.items c.args.file.now c.args.of c.args.wanted.now c.loop-one.one-index c.one-item.result _ _ _ _ c.in_err-follow.field-0.0
    c.loop-one-test.true c.one-item.is c.loop-one.invariant.above c.loop-one.invariant.goes c.in_err-follow.ensures.steps)

pub follow_all-returns-clause-steps : goal.follow_all-returns-clause-steps
follow_all-returns-clause-steps g t c =
    all_followed c.args.levels c.args.above.now.items c.args.file.now c.args.of c.args.wanted.now c.loop-one.one-index _ _ _ c.loop-one-test.false c.loop-one.invariant.goes

-- one include

pub follow-returns-in_err-meaning-clause-steps : goal.follow-returns-in_err-meaning-clause-steps
follow-returns-in_err-meaning-clause-steps g t c =
    let w = written_in c.args.wanted.now in
    let stop = c.in_err-meaning.field-0.0 in
    let P : List IdlFile → Type 0 = λ xs. IsRefusedAt c.args.file.now w.at (include_meant c.args.above.now.items c.args.file.now w xs) stop in
    steps_err c.from_residual.result stop _ _ _ _ c.from_residual.ensures.1
    (refused_ends c.args.levels c.args.above.now.items c.args.file.now c.args.of w
    (load_stage (g.F.Files.files c.args.files.now) (g.F.Files.faults c.args.files.now) c.args.begun.now.items) stop
    (subst P c.as_slice.ensures.value c.in_err-meaning.ensures))

-- of a file that was begun before

pub follow-returns-in-Before-clause-steps : goal.follow-returns-in-Before-clause-steps
follow-returns-in-Before-clause-steps g t c =
    let w = written_in c.args.wanted.now in
    let P : List IdlFile → Type 0 = λ xs. include_meant c.args.above.now.items c.args.file.now w xs ≡ loaded_before c.in-Before.number in
    let m : P c.as_slice.result.now = (rw c.in-Before.is at c.in_ok-meaning.ensures).0 in
    steps_stopped c.link.result c.or_stop.result _ _ _ _ _ c.or_stop.ensures c.link.ensures.linked (ends_for_want _ _ _ stops.NoMemory refl (moves_keeping _ _ _ _ c.link.ensures.keeps) refl)
    (λ linked. before_goes c.args.levels c.args.above.now.items c.args.file.now c.args.of c.in-Before.number w (g.F.Files.files c.args.files.now) (g.F.Files.faults c.args.files.now)
    c.args.begun.now.items c.link.new.begun.items (subst P c.as_slice.ensures.value m) c.link.ensures.keeps linked)

pub follow-returns-in-Before-clause-above : goal.follow-returns-in-Before-clause-above
follow-returns-in-Before-clause-above g t c = on_ok c.or_stop.result refl

-- of a new one

pub follow-load_file-requires : goal.follow-load_file-requires
follow-load_file-requires g t c κs within =
    let begun : AreBegun c.args.begun.now.items = search rules in
    let m = rw c.in-New.is at c.in_ok-meaning.ensures in
    (omega (arith, c.requires.1.0), (search rules, (search rules, (search rules, (begun, new_name c.as_slice.result.now c.args.begun.now.items _ c.as_str.result.now c.as_slice.ensures.value (c.as_str.ensures.value ∙ m.1) m.2)))))

pub load_file-follow_all-followed-requires : goal.load_file-follow_all-followed-requires
load_file-follow_all-followed-requires g t c κs within =
    let e : c.args.levels ≡ suc (c.args.levels - 1) = omega arith in
    let more = c.in_ok-wanted.ensures.one_more in
    let inside : c.len-of.result < length c.«open».new.begun.items = omega (arith, more, c.args.begun.now.ok.0, c.len-of.ensures) in
    (omega (arith, c.requires.1.0, e), (search rules, (search rules, (search rules, ((c.in_ok-wanted.ensures.steps (c.args.levels - 1)).begun, inside)))))

pub follow-link-requires-in-New : goal.follow-link-requires-in-New
follow-link-requires-in-New g t c =
    let steps = c.in_ok-load_file-in-New.ensures.steps in
    let more = c.in_ok-load_file-in-New.ensures.more in
    let longer = steps.longer in
    let of : c.args.of < length c.args.begun.now.items = search rules in
    record {
      begun = steps.begun;
      of = omega (arith, of, longer);
      number = omega (arith, more, c.args.begun.now.ok.0, c.len-number.ensures);
    }

pub follow-returns-in_err-load_file-in-New-clause-steps : goal.follow-returns-in_err-load_file-in-New-clause-steps
follow-returns-in_err-load_file-in-New-clause-steps g t c =
    let w = written_in c.args.wanted.now in
    let a = load_stage (g.F.Files.files c.args.files.now) (g.F.Files.faults c.args.files.now) c.args.begun.now.items in
    let stop = c.in_err-load_file-in-New.field-0.0 in
    let P : List IdlFile → Type 0 = λ xs. include_meant c.args.above.now.items c.args.file.now w xs ≡ new_file in
    let m = rw c.in-New.is at c.in_ok-meaning.ensures in
    steps_err c.from_residual-in_err-load_file-in-New.result stop _ _ _ _ c.from_residual-in_err-load_file-in-New.ensures.1
    (new_ends c.args.levels c.args.above.now.items c.args.file.now c.args.of w a _ c.as_str.result.now stop
    (subst P c.as_slice.ensures.value m.0) (c.as_str.ensures.value ∙ m.1) c.in_err-load_file-in-New.ensures.steps)

pub follow-returns-in_ok-load_file-in-New-clause-steps : goal.follow-returns-in_ok-load_file-in-New-clause-steps
follow-returns-in_ok-load_file-in-New-clause-steps g t c =
    let w = written_in c.args.wanted.now in
    let a = load_stage (g.F.Files.files c.args.files.now) (g.F.Files.faults c.args.files.now) c.args.begun.now.items in
    let h = c.in_ok-load_file-in-New.ensures.steps in
    let P : List IdlFile → Type 0 = λ xs. include_meant c.args.above.now.items c.args.file.now w xs ≡ new_file in
    let m = rw c.in-New.is at c.in_ok-meaning.ensures in
    let same : c.len-number.result ≡ length c.args.begun.now.items = omega (arith, c.args.begun.now.ok.0, c.len-number.ensures) in
    steps_stopped c.link-in-New.result c.or_stop-in-New.result _ _ _ _ _ c.or_stop-in-New.ensures c.link-in-New.ensures.linked
    (want_behind _ _ _ _ stops.NoMemory refl h.moves (moves_keeping _ _ _ _ c.link-in-New.ensures.keeps) h.quiet)
    (λ l. new_goes c.args.levels c.args.above.now.items c.args.file.now c.args.of w a _ _ c.load_file.new.begun.items c.link-in-New.new.begun.items c.as_str.result.now
    (subst P c.as_slice.ensures.value m.0) (c.as_str.ensures.value ∙ m.1) h c.link-in-New.ensures.keeps
    (l ∙ ap (λ (n : ℕ). linked c.args.of n (program_in c.load_file.new.begun.items)) same))

pub follow-returns-in_ok-load_file-in-New-clause-above : goal.follow-returns-in_ok-load_file-in-New-clause-above
follow-returns-in_ok-load_file-in-New-clause-above g t c = on_ok c.or_stop-in-New.result c.in_ok-load_file-in-New.ensures.above
