use Rattle.std.proofs.Common.{sym, subst}
use Rattle.idl_include.specs.SourcesOf.{program_in}
use Rattle.const_evaluator.specs.ChainTables.{AreLinksFrom}
use Rattle.const_evaluator.proofs.ChainTabled.{if_told, tells_ends}
use Rattle.const_evaluator.proofs.chain_ends.chain_ends.Goals as goal

pub returns : goal.returns
returns c =
    let program = program_in c.args.constants.now in
    let links = c.as_slice.result.now in
    if_told c.linked_ends.result _ _ c.linked_ends.ensures
    (λ ends told. tells_ends program c.args.values.now links ends.items c.requires (subst (AreLinksFrom program 0 c.args.values.now) (sym c.as_slice.ensures.value) c.in_ok-links.ensures) told)
