use Rattle.idl_include.specs.SourcesOf.{program_in}
use Rattle.const_evaluator.proofs.ChainTabled.{AreLinksSoFar}
use Rattle.const_evaluator.proofs.chain_ends.links.Given as goal

-- the links so far
abbrev pub invariant-loop-number : goal.invariant-loop-number
invariant-loop-number l = AreLinksSoFar (program_in l.constants) l.values l.number l.links.items
