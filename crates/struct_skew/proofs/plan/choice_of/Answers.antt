use Rattle.std.proofs.Common.{sym, ◌∙◌, map}
use Rattle.thrift_value.specs.TreeOf.{tree_of}
use Rattle.schema.specs.SchemaOf.{plain_field}
use Rattle.struct_skew.proofs.PlacesOfIds.{nowhere_sent, sent_misfit, sent_fits}
use Rattle.struct_skew.proofs.plan.choice_of.Goals as goal

pub returns-in_default-clause-choice : goal.returns-in_default-clause-choice
returns-in_default-clause-choice c =
    nowhere_sent c.args.id.now (tree_of c.args.value.now) (map plain_field c.args.declared.now) c.place_of.result c.in_default.is c.place_of.ensures

pub returns-then-not-fits_kind-clause-choice : goal.returns-then-not-fits_kind-clause-choice
returns-then-not-fits_kind-clause-choice c =
    sent_misfit c.args.id.now (tree_of c.args.value.now) c.args.declared.now c.in-Some.place c.index-declared-place.result c.in-Some.ensures c.index-declared-place.is
    (sym c.fits_kind.ensures ∙ c.if-not-fits_kind.true)

pub returns-clause-choice : goal.returns-clause-choice
returns-clause-choice c =
    sent_fits c.args.id.now (tree_of c.args.value.now) c.args.declared.now c.in-Some.place c.index-declared-place.result c.in-Some.ensures c.index-declared-place.is
    (sym c.fits_kind.ensures ∙ c.if-not-fits_kind.false)
