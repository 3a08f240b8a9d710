use Rattle.std.proofs.Common.{◌≡◌, ℕ, suc, ◌+◌, ◌*◌, ◌<◌, ◌≤◌, true, false, List, [], ◌∷◌, length, drop, refl, sym, ap, ◌∙◌, subst, arith, add-one}
use Rattle.std.proofs.lemmas.Bool.{not-false, not-true}
use Rattle.std.specs.Vec.{vec_capacity}
use Rattle.script_links.specs.Kept.{served_of, plain_links}
use Rattle.streams.specs.declared.marks.Mark.TheVariants.{Opened as OpenedMark}
use Rattle.outside.specs.declared.answers.Hint.TheVariants.{Opened}
use Rattle.script_links.specs.declared.step.Came.TheVariants.{Gives, GoesOn}
use Rattle.script_links.specs.ServedScript.{ServedScript, link_at, is_coming, marks_owed_at}
use Rattle.script_links.specs.Plain.{with_opening}
use Rattle.script_links.proofs.Connected.{drop_on, coming_is_there, there_in_memory}
use Rattle.script_links.proofs.Stepping.{open_gives, open_passes, open_waits}
use Rattle.script_links.proofs.Keeping.{same_room, marked_room, sound_at, passed_rests, owed_coming, one_longer, room_to_open}
use Rattle.script_links.proofs.serving.ScriptServing.open.Goals as goal

pub returns-then-not-is_coming-clause-next : goal.returns-then-not-is_coming-clause-next
returns-then-not-is_coming-clause-next c =
    open_passes c.args.ask (served_of c.args.self.now) (sym c.is_coming.ensures ∙ c.if-not-is_coming.true)
    ∙ (λ i. record { came = GoesOn; left = record (served_of c.args.self.now) { steps = drop_on c.args.self.now.done c.args.self.now.steps.items i } })

pub returns-then-not-is_coming-clause-kept : goal.returns-then-not-is_coming-clause-kept
returns-then-not-is_coming-clause-kept c =
    same_room _ _ (served_of c.args.self.now) _ c.requires.kept c.args.self.now.tape.capacity (omega arith) refl refl refl
    (passed_rests c.args.self.now.done c.args.self.now.steps.items)

pub returns-then-not-ask-clause-next : goal.returns-then-not-ask-clause-next
returns-then-not-ask-clause-next c =
    open_waits c.args.ask (served_of c.args.self.now) (sym c.is_coming.ensures ∙ c.if-not-is_coming.false) (not-true c.args.ask.room c.if-not-ask.true)

pub returns-then-not-ask-clause-kept : goal.returns-then-not-ask-clause-kept
returns-then-not-ask-clause-kept c = c.requires.kept

pub open-requires : goal.open-requires
open-requires c =
    there_in_memory _ _ (coming_is_there (served_of c.args.self.now).links c.args.self.now.opened (sym c.is_coming.ensures ∙ c.if-not-is_coming.false))

pub push-requires-clause-room : goal.push-requires-clause-room
push-requires-clause-room c = room_to_open _ _ (served_of c.args.self.now) c.requires.kept (sym c.is_coming.ensures ∙ c.if-not-is_coming.false)

pub returns-clause-next : goal.returns-clause-next
returns-clause-next c =
    open_gives c.args.ask (served_of c.args.self.now) (sym c.is_coming.ensures ∙ c.if-not-is_coming.false) (not-false c.args.ask.room c.if-not-ask.false)
    ∙ (λ i. record {
      came = Gives (Opened c.args.self.now.opened);
      left = record (served_of c.args.self.now) {
        steps = drop_on c.args.self.now.done c.args.self.now.steps.items i;
        opened = sym (add-one c.args.self.now.opened) i;
        links = sym c.open.ensures i;
        tape = sym c.push.ensures.items i;
      };
    })

pub returns-clause-kept : goal.returns-clause-kept
returns-clause-kept c =
    let s : ServedScript = served_of c.args.self.now in
    let coming : is_coming (link_at s.links s.opened).stage ≡ true = sym c.is_coming.ensures ∙ c.if-not-is_coming.false in
    let below : s.opened < length s.links = coming_is_there s.links s.opened coming in
    let three : marks_owed_at (link_at s.links s.opened).stage ≡ 3 = owed_coming (link_at s.links s.opened).stage coming in
    let same : c.push.new.self.capacity ≡ c.args.self.now.tape.capacity = c.push.ensures.capacity in
    marked_room _ _ s _ c.requires.kept c.push.new.self.capacity s.opened with_opening below c.open.ensures (sound_at _ _ s s.opened c.requires.kept below)
    (omega arith) (one_longer s.tape c.push.new.self.items _ c.push.ensures.items) (omega arith) refl
    (passed_rests c.args.self.now.done c.args.self.now.steps.items)
