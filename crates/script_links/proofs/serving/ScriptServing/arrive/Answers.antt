use Rattle.std.proofs.Common.{◌≡◌, ℕ, suc, ◌+◌, ◌*◌, ◌<◌, ◌≤◌, true, false, List, [], ◌∷◌, length, drop, refl, sym, ap, ◌∙◌, subst, arith, add-one}
use Rattle.std.specs.Vec.{vec_capacity}
use Rattle.script_links.specs.Kept.{served_of, plain_links}
use Rattle.outside.specs.declared.answers.Hint.TheVariants.{Readable}
use Rattle.script_links.specs.declared.step.Came.TheVariants.{Gives, GoesOn}
use Rattle.script_links.specs.ServedScript.{ServedScript, is_open_at}
use Rattle.script_links.specs.Plain.{with_arrival}
use Rattle.script_links.specs.ServedScript.{link_at}
use Rattle.script_links.proofs.Connected.{drop_on, open_is_there, there_in_memory}
use Rattle.script_links.proofs.Stepping.{arrive_gives, arrive_passes}
use Rattle.script_links.proofs.Keeping.{same_room, eased_room, sound_at, passed_rests, arrival_sound, arrival_stands}
use Rattle.script_links.proofs.serving.ScriptServing.arrive.Goals as goal

pub returns-then-not-is_open-clause-next : goal.returns-then-not-is_open-clause-next
returns-then-not-is_open-clause-next c =
    arrive_passes c.args.ask (served_of c.args.self.now) c.args.c (sym c.is_open.ensures ∙ c.if-not-is_open.true)
    ∙ (λ i. record { came = GoesOn; left = record (served_of c.args.self.now) { steps = drop_on c.args.self.now.done c.args.self.now.steps.items i } })

pub returns-then-not-is_open-clause-kept : goal.returns-then-not-is_open-clause-kept
returns-then-not-is_open-clause-kept c =
    same_room _ _ (served_of c.args.self.now) _ c.requires.kept c.args.self.now.tape.capacity (omega arith) refl refl refl
    (passed_rests c.args.self.now.done c.args.self.now.steps.items)

pub arrive-requires : goal.arrive-requires
arrive-requires c = there_in_memory _ _ (open_is_there (served_of c.args.self.now).links c.args.c (sym c.is_open.ensures ∙ c.if-not-is_open.false))

pub returns-clause-next : goal.returns-clause-next
returns-clause-next c =
    arrive_gives c.args.ask (served_of c.args.self.now) c.args.c (sym c.is_open.ensures ∙ c.if-not-is_open.false)
    ∙ (λ i. record {
      came = Gives (Readable c.args.c);
      left = record (served_of c.args.self.now) { steps = drop_on c.args.self.now.done c.args.self.now.steps.items i; links = sym c.arrive.ensures i };
    })

pub returns-clause-kept : goal.returns-clause-kept
returns-clause-kept c =
    let s : ServedScript = served_of c.args.self.now in
    let here : is_open_at s.links c.args.c ≡ true = sym c.is_open.ensures ∙ c.if-not-is_open.false in
    let below : c.args.c < length s.links = open_is_there s.links c.args.c here in
    eased_room _ _ s _ c.requires.kept c.args.self.now.tape.capacity c.args.c with_arrival below c.arrive.ensures
    (arrival_sound (link_at s.links c.args.c) (sound_at _ _ s c.args.c c.requires.kept below)) (arrival_stands (link_at s.links c.args.c)) refl (omega arith) refl
    (passed_rests c.args.self.now.done c.args.self.now.steps.items)
