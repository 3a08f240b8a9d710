use Rattle.std.proofs.Common.{ℕ, ◌<◌, List, Option, Ok, length, map, sym, ap, ◌∙◌, subst}
use Rattle.std.specs.Prelude.{IfSome, option_map}
use Rattle.call_model.specs.Offices.{Binding}
use Rattle.processor.specs.Bound.{bound_names}
use Rattle.schema.specs.SchemaOf.{schema_of}
use Rattle.service_binding.specs.Binding.{AreBound}
use Rattle.service_binding.specs.Defaults.{slot_for_default}
use Rattle.thrift_host.specs.MayBeServed.{MayBeServed}
use Rattle.thrift_host.proofs.BoundServices.{may_be_served}
use Rattle.thrift_host.proofs.binding.bind.Goals as goal

pub returns-clause-served : goal.returns-clause-served
returns-clause-served g c =
    let names = c.with_default.ensures.names ∙ c.in_ok-bindings.ensures.names ∙ c.new.ensures in
    subst (λ (o : Option ℕ). MayBeServed (schema_of c.args.schema.now) (bound_names c.with_default.result) o) (sym c.with_default.ensures.default_slot)
    (subst (λ (bs : List Binding). MayBeServed (schema_of c.args.schema.now) bs c.in-Ok.slot) (sym names)
    (may_be_served (schema_of c.args.schema.now) c.in_ok-names.names.items c.in-Ok.slot (length c.args.pairs.now) c.requires.sound c.requires.some c.requires.few
    c.in_ok-names.ensures.names c.in_ok-names.ensures.different c.in_ok-names.ensures.places
    (subst (λ (bs : List Binding). IfSome c.in-Ok.slot (λ place. place < length bs)) c.deref.ensures.value c.in-Ok.ensures.within)))

pub returns-clause-bound : goal.returns-clause-bound
returns-clause-bound g c =
    subst
    (λ (bs : List Binding).
    AreBound (schema_of c.args.schema.now) (map g.H.Handler.service c.args.handlers.items) c.args.pairs.now bs (map g.H.Handler.service c.in_ok-names.bound.items))
    (sym (c.with_default.ensures.names ∙ c.in_ok-bindings.ensures.names ∙ c.new.ensures)) c.in_ok-names.ensures.bound

pub returns-clause-by_default : goal.returns-clause-by_default
returns-clause-by_default g c =
    ap (λ (bs : List Binding). slot_for_default bs (option_map (λ name. name.now) c.args.default_service))
    (c.with_default.ensures.names ∙ c.in_ok-bindings.ensures.names ∙ c.new.ensures ∙ sym c.deref.ensures.value) ∙ sym c.slot_for_default.ensures.is ∙ c.in-Ok.is
    ∙ ap Ok (sym c.with_default.ensures.default_slot)

pub returns-clause-slots : goal.returns-clause-slots
returns-clause-slots g c =
    c.in_ok-names.ensures.handlers ∙ sym (ap length (c.with_default.ensures.names ∙ c.in_ok-bindings.ensures.names ∙ c.new.ensures) ∙ c.in_ok-names.ensures.names)
