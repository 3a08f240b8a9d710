use Rattle.std.proofs.Common.{rules, arith, ◌≡◌, ℕ, ◌∙◌, List, [], ◌∷◌, ap, subst}
use Rattle.seat_booth.specs.Seats.{SeatView, newcomer, EndsBooth}
use Rattle.seat_booth.specs.Sums.{Adds, added}
use Rattle.seat_booth.proofs.Added.{two_popped, sum_of_both}
use Rattle.seat_booth.proofs.running_sum.add_both.Goals as goal

pub returns : goal.returns
returns g c =
    let first = c.in-Some-Some.first in
    let second = c.in-Some-Some.second in
    let popped = two_popped c.pop-2.new.self.items (newcomer c.in-Ok.booth 0) (newcomer c.in-Ok.booth 1) first second (search rules) in
    let both = c.add_in_threads-first.ensures in
    let all : c.push_reserved-2.new.self.items ≡ c.add_in_threads-first.result.0 ∷ c.add_in_threads-first.result.1 ∷ [] = search rules in
    sum_of_both _ c.in-Ok.booth c.add_in_threads-first.result.0 c.add_in_threads-first.result.1 c.close.result.sum c.args.a c.args.b
    (subst (λ (l : List (SeatView ℕ ℕ ℕ)). EndsBooth Adds _ c.in-Ok.booth l c.close.result.sum) all c.close.ensures) (search rules)
    (both.first.0 ∙ ap (λ (p : SeatView ℕ ℕ ℕ). p.number) popped.1) (both.second.0 ∙ ap (λ (p : SeatView ℕ ℕ ℕ). p.number) popped.2)
    (both.first.1 ∙ (let none : added first.mine ≡ 0 = ap (λ (p : SeatView ℕ ℕ ℕ). added p.mine) popped.1 in omega arith)) (both.second.1 ∙ (let none : added second.mine ≡ 0 = ap (λ (p : SeatView ℕ ℕ ℕ). added p.mine) popped.2 in omega arith)) c.requires
