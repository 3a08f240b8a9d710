use Rattle.std.proofs.Common.{◌≡◌, ℕ, ◌+◌, ◌*◌, ◌≤◌, List, length, ap, ◌∙◌, subst, sym, arith}
use Rattle.std.specs.List.{count_by}
use Rattle.std.specs.Vec.{vec_capacity}
use Rattle.script_links.specs.Steps.{is_rest}
use Rattle.script_links.proofs.building.rooms.Goals as goal

pub returns-clause-no_marks : goal.returns-clause-no_marks
returns-clause-no_marks c = c.in_ok-reserve.ensures.items ∙ c.new-tape.ensures

pub returns-clause-marks : goal.returns-clause-marks
returns-clause-marks c =
    let none : length c.reserve.new.self.items ≡ 0 = ap length (c.in_ok-reserve.ensures.items ∙ c.new-tape.ensures) in
    let room : length c.reserve.new.self.items + 3 * length c.as_slice.result.now ≤ c.reserve.new.self.capacity = c.in_ok-reserve.ensures.room in
    let size : length c.as_slice.result.now ≡ length c.args.links.now.items.items = ap length c.as_slice.ensures.value in
    let enough : 3 * length c.args.links.now.items.items ≤ c.reserve.new.self.capacity = omega arith in
    enough

pub returns-clause-rests : goal.returns-clause-rests
returns-clause-rests c = subst (λ (n : ℕ). n ≤ vec_capacity c.in_ok-rests.rests) c.rests_among.ensures c.in_ok-rests.ensures.capacity
