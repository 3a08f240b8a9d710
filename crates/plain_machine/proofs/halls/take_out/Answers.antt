use Rattle.std.proofs.Common.{length, refl, subst, arith, ◌≡◌}
use Rattle.plain_machine.proofs.Seeing.{Leaving, keeps_key, takes_key, keeps_all}
use Rattle.plain_machine.proofs.halls.take_out.Goals as goal

pub loop-place-init : goal.loop-place-init
loop-place-init c = record { unchanged = refl; so_far = refl }

pub loop-place-preserved : goal.loop-place-preserved
loop-place-preserved c =
    keeps_key c.args.key c.args.keys.now.items c.loop-place.keys.items c.loop-place.place c.index.result.now c.loop-place.invariant (omega arith) c.index.ensures (c.if-is_same.ensures {u = tt})

pub returns-then-is_same : goal.returns-then-is_same
returns-then-is_same c =
    takes_key c.args.key c.args.keys.now.items c.loop-place.keys.items c.remove.new.self.items c.loop-place.place c.index.result.now c.loop-place.invariant (omega arith) c.index.ensures
    (c.if-is_same.ensures {u = tt}) c.remove.ensures.items

pub returns : goal.returns
returns c =
    let all : c.loop-place.place ≡ length c.args.keys.now.items = omega arith in
    keeps_all c.args.key c.args.keys.now.items c.loop-place.keys.items (subst (Leaving c.args.key c.args.keys.now.items c.loop-place.keys.items) all c.loop-place.invariant)
