use Rattle.std.proofs.Common.{◌++◌, ◌∙◌, Bool, false, List, [], map, take, get_or, refl, ap, sym}
use Rattle.idl_include.specs.Declarations.{declared_name}
use Rattle.idl_include.specs.DeclaredIn.{definition_in}
use Rattle.idl_include.specs.Numbering.{all_counted}
use Rattle.idl_include.specs.Spots.{in_file, spots_in_declarations}
use Rattle.idl_names.specs.Before.{names_before}
use Rattle.idl_names.specs.SpotsIn.{spots_in, counts_in}
use Rattle.idl_names.proofs.Spotted.{names_given, definition_next, counts_next, definitions_end, counts_end}
use Rattle.idl_names.proofs.spots.put_file.Goals as goal

pub loop-place-preserved : goal.loop-place-preserved
loop-place-preserved c = record {
  spots =
      definition_next c.args.file c.args.definitions.now c.loop-place.place c.index-definitions-place.result (counts_in c.loop-place.met) (counts_in c.in_ok-met.met)
      (names_before c.given_at-given.result.before) (spots_in c.loop-place.spots.items) (spots_in c.put_definition.new.spots.items)
      (spots_in c.args.spots.now.items ++ in_file c.args.file (spots_in_declarations [] (counts_in c.args.counts) (map definition_in c.args.definitions.now)))
      c.loop-place-test.true c.index-definitions-place.is c.given_at-given.ensures.before c.in_ok-met.ensures c.in_ok-put_definition.ensures c.loop-place.invariant.spots;
  counts =
      counts_next c.args.definitions.now c.loop-place.place c.index-definitions-place.result (counts_in c.loop-place.met) (counts_in c.in_ok-met.met)
      (all_counted (counts_in c.args.counts) (map definition_in c.args.definitions.now)) c.loop-place-test.true c.index-definitions-place.is c.in_ok-met.ensures
      c.loop-place.invariant.counts;
}

pub loop-place-init : goal.loop-place-init
loop-place-init c = record { spots = refl; counts = refl }

pub returns : goal.returns
returns c =
    let ds = c.args.definitions.now in
    let at = c.loop-place.place in
    record {
      spots = definitions_end c.args.file ds at (names_given (take at ds)) (counts_in c.loop-place.met) (spots_in c.loop-place.spots.items) _ c.loop-place-test.false c.loop-place.invariant.spots;
      counts = counts_end ds at (counts_in c.loop-place.met) _ c.loop-place-test.false c.loop-place.invariant.counts;
    }

pub given_at-given-requires : goal.given_at-given-requires
given_at-given-requires c = record {
  place = c.loop-place-test.true;
  marked = c.flag_at.ensures ∙ ap (λ (marks : List Bool). get_or marks c.loop-place.place false) (c.as_slice.ensures.value ∙ c.in_ok-marks.ensures);
}

pub put_definition-requires : goal.put_definition-requires
put_definition-requires c =
    c.given_at-given.ensures.name c.index-definitions-place.result ∙ ap (λ d. declared_name (definition_in d)) (sym c.index-definitions-place.is)
