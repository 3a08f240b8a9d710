use Rattle.std.proofs.Common.{◌≡◌, ◌++◌, map, drop}
use Rattle.idl_parser.specs.declared.tree.Include.{Include}
use Rattle.idl_include.specs.DeclaredIn.{literal_in}
use Rattle.idl_include.specs.Begun.{wanted_in}
use Rattle.idl_include.proofs.opening.wanted_files.Given as goal

abbrev pub invariant-loop-include : goal.invariant-loop-include
invariant-loop-include l =
    wanted_in l.all.items ++ map (λ (include : Include). literal_in include.file) (drop l.include-index l.includes) ≡ map (λ (include : Include). literal_in include.file) l.includes
