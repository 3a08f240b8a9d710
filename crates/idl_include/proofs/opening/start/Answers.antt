use Rattle.std.proofs.Common.{List, map, ap, ◌∙◌}
use Rattle.idl_parser.specs.declared.tree.Include.{Include}
use Rattle.idl_include.specs.DeclaredIn.{literal_in, includes_of_document}
use Rattle.idl_include.proofs.opening.start.Goals as goal

pub returns-clause-started : goal.returns-clause-started
unfolding includes_of_document
returns-clause-started c = record {
  file = c.in_ok-file.file;
  fresh = c.in_ok-file.ensures;
  behind = c.in_ok-push.ensures.items;
  literals = c.in_ok-wanted.ensures ∙ ap (λ (includes : List Include). map (λ (include : Include). literal_in include.file) includes) c.as_slice.ensures.value;
}
