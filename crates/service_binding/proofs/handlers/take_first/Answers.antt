use Rattle.std.proofs.Common.{map, sym, ap, ◌∙◌}
use Rattle.std.specs.List.{position_from}
use Rattle.service_binding.specs.Handlers.{is_of_kind}
use Rattle.service_binding.proofs.Taking.{none_passes, takes_first}
use Rattle.service_binding.proofs.handlers.take_first.Goals as goal

pub returns-in-Some : goal.returns-in-Some
returns-in-Some g c =
    takes_first g.H.Handler.service c.args.kind c.args.left.now.items c.remove.new.self.items c.in-Some.place c.remove.result
    (ap (λ hs. position_from (is_of_kind c.args.kind) 0 (map g.H.Handler.service hs)) (sym c.deref.ensures.value) ∙ sym c.in-Some.ensures.found)
    c.remove.ensures.value c.remove.ensures.items

pub returns-in-None : goal.returns-in-None
returns-in-None g c =
    none_passes g.H.Handler.service (is_of_kind c.args.kind) 0 c.args.left.now.items
    (ap (λ hs. position_from (is_of_kind c.args.kind) 0 (map g.H.Handler.service hs)) (sym c.deref.ensures.value) ∙ sym c.in-None.ensures.found)
