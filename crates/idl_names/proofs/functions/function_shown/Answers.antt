use Rattle.std.proofs.Common.{◌∙◌, ap, sym, map}
use Rattle.idl_parser.specs.declared.tree.Function.{Function}
use Rattle.idl_include.specs.DeclaredIn.{function_in}
use Rattle.idl_include.specs.Loading.{is_among}
use Rattle.idl_names.specs.Functions.{function_names}
use Rattle.idl_names.proofs.MarksAt.{marked_at, texts_in_functions}
use Rattle.idl_names.proofs.functions.function_shown.Goals as goal

pub invariant_of-result : goal.invariant_of-result
invariant_of-result c = record {
  marked =
      marked_at (λ (f : Function). f.name.text) c.args.functions.now c.split_at.result.0.now (function_names (map function_in c.split_at.result.0.now)) c.args.place
      c.index-functions-place.result c.args.repeated c.requires.place c.split_at.ensures.front (texts_in_functions c.split_at.result.0.now) c.requires.marked
      ∙ ap (λ (f : Function). is_among f.name.text (function_names (map function_in c.split_at.result.0.now))) (sym c.index-functions-place.is);
}
