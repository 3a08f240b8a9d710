use Rattle.std.proofs.Common.{◌++◌, ◌∷◌, ◌+◌, ◌∙◌, List, [], map, drop, ap, sym, append_assoc}
use Rattle.std.proofs.lemmas.List.{at_drop_more}
use Rattle.idl_parser.specs.declared.tree.Include.{Include}
use Rattle.idl_include.specs.Written.{Written}
use Rattle.idl_include.specs.DeclaredIn.{literal_in}
use Rattle.idl_include.specs.Begun.{wanted_in}
use Rattle.idl_include.proofs.opening.wanted_files.Goals as goal

pub loop-include-preserved : goal.loop-include-preserved
loop-include-preserved c =
    let includes = c.args.includes.now in
    let at = c.loop-include.include-index in
    let one = c.include-item.result in
    let before = wanted_in c.loop-include.all.items in
    let literals : List Include → List Written = map (λ (include : Include). literal_in include.file) in
    let left = drop (at + 1) includes in
    ap (λ xs. xs ++ literals left) c.in_ok-want.ensures
    ∙ append_assoc before (literal_in one.file ∷ []) (literals left)
    ∙ ap (λ (include : Include). before ++ literals (include ∷ left)) c.include-item.is
    ∙ sym (at_drop_more (λ rest. before ++ literals rest) includes at one c.loop-include-test.true)
    ∙ c.loop-include.invariant
