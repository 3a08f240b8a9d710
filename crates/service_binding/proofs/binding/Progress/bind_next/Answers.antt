use Rattle.std.proofs.Common.{List, [], ◌∷◌, ◌++◌, map, sym, ap, ◌∙◌, subst}
use Rattle.std.proofs.lemmas.List.{map-append}
use Rattle.call_rules.specs.Handling.{ServiceState}
use Rattle.schema.specs.SchemaOf.{schema_of}
use Rattle.service_binding.specs.Steps.{AreLeftBehind}
use Rattle.service_binding.proofs.Progressing.{progress_more}
use Rattle.service_binding.proofs.binding.Progress.bind_next.Goals as goal

pub returns : goal.returns
returns g c = λ services handed so_far.
    let taken = c.in_ok-number.ensures services handed so_far.left_over in
    let entered = c.in_ok-enter.ensures in
    let left = subst (λ (hs : List ServiceState). AreLeftBehind services (c.args.before.now ++ c.args.pair.now ∷ []) hs) (sym (ap (map g.H.Handler.service) entered.2)) taken.1 in
    progress_more (schema_of c.args.schema.now) services c.args.before.now c.args.pair.now c.as_str.result.now c.in_ok-number.number
    (g.H.Handler.service c.in_ok-number.handler) c.args.self.now.names.items c.enter.new.self.names.items
    (map g.H.Handler.service c.args.self.now.bound.items) (map g.H.Handler.service c.enter.new.self.bound.items)
    (map g.H.Handler.service c.args.self.now.left.items) (map g.H.Handler.service c.enter.new.self.left.items) so_far taken.0 left
    c.as_str.ensures entered.0
    (ap (map g.H.Handler.service) entered.1 ∙ map-append g.H.Handler.service c.args.self.now.bound.items (c.in_ok-number.handler ∷ []))
