use Rattle.std.proofs.Common.{All, ◌+◌, vec_len, sym, subst, ap, ◌∙◌, arith}
use Rattle.std.proofs.lemmas.List.Elements.{All-push}
use Rattle.hall_pool.specs.Jobs.{HallSeat}
use Rattle.hall_pool.specs.Crew.{MayServe, HasServed}
use Rattle.hall_pool.proofs.Crews.{of_last, same_numbers, led_on, led_first}
use Rattle.hall_pool.proofs.crew.+fn-with_rest-beside+with_rest.Goals as goal

pub beside-with_rest-requires-clause-seats : goal.beside-with_rest-requires-clause-seats
beside-with_rest-requires-clause-seats g t c κs within = c.requires.seats

pub beside-with_rest-requires-clause-lead : goal.beside-with_rest-requires-clause-lead
beside-with_rest-requires-clause-lead g t c κs within = c.requires.lead

pub beside-returns : goal.beside-returns
beside-returns g t c = c.with_rest.ensures

pub beside-led-requires-clause-threads : goal.beside-led-requires-clause-threads
beside-led-requires-clause-threads g t c κs within = c.requires.threads

pub beside-led-requires-clause-seat : goal.beside-led-requires-clause-seat
beside-led-requires-clause-seat g t c κs within =
    let P : HallSeat → Type 0 = MayServe (g.D.Desk.meaning c.args.place.now.desk.now) c.args.place.now.booth.now in
    subst P (sym c.new-worker.ensures) (of_last P c.pop.new.self.items c.in-Some.seat c.args.seats.items c.in-Some.ensures.items c.requires.seats)

pub push_reserved-requires : goal.push_reserved-requires
push_reserved-requires g t c =
    let room = c.beside-led.ensures.rest.2.1.1.1 in
    let taken = c.in-Some.ensures in
    omega arith

pub returns-clause-seats : goal.returns-clause-seats
returns-clause-seats g t c =
    let P : HallSeat → Type 0 = HasServed (g.D.Desk.meaning c.args.place.now.desk.now) c.args.place.now.booth.now in
    subst (All P) (sym c.push_reserved.ensures.items)
    (All-push P c.beside-led.result.0.1.items c.into_seat.result c.beside-led.ensures.rest.2.1.0 (subst P (sym c.into_seat.ensures) c.beside-led.ensures.served.served))

pub returns-clause-numbers : goal.returns-clause-numbers
returns-clause-numbers g t c =
    same_numbers c.pop.new.self.items c.beside-led.result.0.1.items c.args.seats.items c.push_reserved.new.self.items c.in-Some.seat c.into_seat.result
    c.in-Some.ensures.items c.beside-led.ensures.rest.2.1.1.0
    (ap (λ (seat : HallSeat). seat.number) c.into_seat.ensures ∙ c.beside-led.ensures.served.number ∙ ap (λ (seat : HallSeat). seat.number) c.new-worker.ensures) c.push_reserved.ensures.items

pub returns-clause-led : goal.returns-clause-led
returns-clause-led g t c =
    let rest = c.beside-led.ensures.rest in
    let taken = c.in-Some.ensures in
    led_on c.args.lead.now _ (rest.0 + vec_len c.pop.new.self) (c.args.started + vec_len c.args.seats) (omega (arith, rest.1)) rest.2.0

pub returns-in_default-clause-led : goal.returns-in_default-clause-led
returns-in_default-clause-led g t c = led_first c.args.lead.now _ c.args.started _ (omega arith) c.call_and_close.ensures
