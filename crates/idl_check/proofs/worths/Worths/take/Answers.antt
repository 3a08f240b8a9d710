use Rattle.std.proofs.Common.{refl, sym, ◌∙◌}
use Rattle.idl_check.proofs.Taken.{take_kept}
use Rattle.idl_check.proofs.worths.Worths.take.Goals as goal

pub returns : goal.returns
returns c program right =
    take_kept program c.args.self.now (record { places = c.args.self.now.places; values = c.take_numbered.new.values }) c.args.file c.args.owner c.in-Some.which c.take_numbered.result right
    refl (sym c.number.ensures ∙ c.in-Some.is) c.take_numbered.ensures.taken c.take_numbered.ensures.kept
