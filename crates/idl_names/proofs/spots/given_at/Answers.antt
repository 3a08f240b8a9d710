use Rattle.std.proofs.Common.{◌∙◌, ap, sym, List, ℕ, map}
use Rattle.idl_parser.specs.declared.tree.Definition.{Definition}
use Rattle.idl_include.specs.Written.{Written}
use Rattle.idl_include.specs.Declarations.{declared_name}
use Rattle.idl_include.specs.DeclaredIn.{definition_in}
use Rattle.idl_include.specs.Loading.{is_among}
use Rattle.idl_names.specs.Before.{texts_of}
use Rattle.idl_names.proofs.MarksAt.{marked_at, texts_in_definitions}
use Rattle.idl_names.proofs.spots.given_at.Goals as goal

pub invariant_of-result : goal.invariant_of-result
invariant_of-result c =
    let texts : List (List ℕ) = texts_of (map (λ (d : Definition). declared_name (definition_in d)) c.split_at.result.0.now) in
    record {
      marked =
          marked_at (λ (d : Definition). (declared_name (definition_in d)).text) c.args.definitions.now c.split_at.result.0.now texts c.args.place
          c.index-definitions-place.result c.args.repeated c.requires.place c.split_at.ensures.front (texts_in_definitions c.split_at.result.0.now) c.requires.marked
          ∙ ap (λ (d : Definition). is_among (declared_name (definition_in d)).text texts) (sym c.index-definitions-place.is)
          ∙ ap (λ (w : Written). is_among w.text texts) (sym c.name_of.ensures);
    }
