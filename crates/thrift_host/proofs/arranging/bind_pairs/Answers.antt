use Rattle.std.proofs.Common.{length, map, refl, sym, ap, ◌∙◌, subst, arith}
use Rattle.call_model.specs.Offices.{PlainOffice}
use Rattle.processor.specs.Bound.{bound_names, default_bound}
use Rattle.schema.specs.SchemaOf.{schema_of}
use Rattle.service_binding.specs.Defaults.{slot_for_default}
use Rattle.service_binding.specs.FirstRefusal.{IsRefusedFirst, OnRefusal}
use Rattle.thrift_host.proofs.arranging.bind_pairs.Goals as goal

pub new-office-requires-clause-sound : goal.new-office-requires-clause-sound
new-office-requires-clause-sound g c =
    c.in-Ok.ensures.served c.args.served.now.protocol c.args.served.now.limits.max_frame c.requires.bounds.least
    (omega (arith, c.requires.bounds.fits, c.requires.bounds.most))

pub returns-in-Ok-clause-tells : goal.returns-in-Ok-clause-tells
returns-in-Ok-clause-tells g c = λ files has.
    record {
      arranged =
          record {
            schema = schema_of c.args.schema;
            bindings = bound_names c.in-Ok.bindings;
            bound = map g.H.Handler.service c.in-Ok.handlers.items;
            default_slot = default_bound c.in-Ok.bindings;
            has = has;
            are_bound = c.in-Ok.ensures.bound;
            is_default = ap (slot_for_default (bound_names c.in-Ok.bindings)) (sym c.default_name-default_service.ensures) ∙ c.in-Ok.ensures.by_default;
          };
      office_is = c.new-office.ensures;
      services_are = refl;
    }

pub returns-in-Ok-clause-can : goal.returns-in-Ok-clause-can
returns-in-Ok-clause-can g c =
    record {
      workers = c.requires.bounds.workers;
      some = c.requires.bounds.least;
      within = c.requires.bounds.fits;
      budget = c.requires.bounds.most;
      longest = ap (λ (o : PlainOffice). o.max_frame) c.new-office.ensures;
      slots = c.in-Ok.ensures.slots ∙ sym (ap (λ (o : PlainOffice). length o.bindings) c.new-office.ensures);
    }

pub returns-in-Err-clause-tells : goal.returns-in-Err-clause-tells
returns-in-Err-clause-tells g c = λ files has. (
  schema_of c.args.schema,
  has,
  subst
      (λ name. OnRefusal c.in-Err.fault (IsRefusedFirst (schema_of c.args.schema) (map g.H.Handler.service c.args.handlers.items) c.args.served.now.pairs name))
      c.default_name-default_service.ensures c.in-Err.ensures.refused,
)
