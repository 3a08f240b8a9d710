use Rattle.std.proofs.Common.{◌≡◌, rules, subst}
use Rattle.idl_include.specs.SourcesOf.{program_in}
use Rattle.const_evaluator.specs.ChainTables.{IsLinkOf}
use Rattle.const_evaluator.proofs.ChainTabled.{links_next, links_end}
use Rattle.const_evaluator.proofs.chain_ends.links.Goals as goal

pub loop-number-preserved : goal.loop-number-preserved
loop-number-preserved c =
    let program = program_in c.args.constants.now in
    let same : c.in-Ok.number ≡ c.loop-number.number = search rules in
    links_next program c.args.values.now c.loop-number.number c.index-values-number.result c.link_of.result c.loop-number.links.items c.push.new.self.items c.loop-number-test.true
    c.index-values-number.is c.in_ok-push.ensures.items (subst (λ n. IsLinkOf program n c.index-values-number.result c.link_of.result) same c.link_of.ensures) c.loop-number.invariant

pub returns : goal.returns
returns c = links_end (program_in c.args.constants.now) c.args.values.now c.loop-number.number c.loop-number.links.items c.loop-number-test.false c.loop-number.invariant
