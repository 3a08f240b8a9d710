use Rattle.std.proofs.Common.{List, [], ◌∷◌, ◌++◌, map, take, sym, ap, ◌∙◌, subst}
use Rattle.std.proofs.lemmas.List.{take_more}
use Rattle.service_binding.specs.Pairs.{NamedKind}
use Rattle.schema.specs.SchemaOf.{schema_of}
use Rattle.service_binding.specs.Binding.{IsRefused}
use Rattle.service_binding.specs.FirstRefusal.{IsFirstRefusal}
use Rattle.service_binding.specs.Steps.{IsBoundSoFar}
use Rattle.service_binding.proofs.Progressing.{on_fault, refused_at}
use Rattle.service_binding.proofs.binding.bound_pairs.Goals as goal

pub returns-in-Err-clause-refused : goal.returns-in-Err-clause-refused
returns-in-Err-clause-refused g c =
    let s = schema_of c.args.schema.now in
    let services = map g.H.Handler.service c.args.handlers.items in
    let place = c.loop-place.place in
    let pair = c.index-pairs-place.result in
    let names = c.loop-place.progress.names.items in
    let bound = map g.H.Handler.service c.loop-place.progress.bound.items in
    let left = map g.H.Handler.service c.loop-place.progress.left.items in
    let so_far = subst (λ (l : List NamedKind). IsBoundSoFar s services l names bound left) (sym c.split_at.ensures.front) c.loop-place.invariant.0 in
    on_fault c.in-Err.fault place c.at.result (IsRefused s services c.split_at.result.0.now pair) (IsFirstRefusal s services c.args.pairs.now) c.at.ensures
    (λ kind refused.
    refused_at s services c.args.pairs.now place pair kind names bound c.loop-place-test.true c.index-pairs-place.is c.loop-place.invariant.0.bound_so_far
    (subst (λ (l : List NamedKind). IsRefused s services l pair kind) c.split_at.ensures.front refused))
    (c.in-Err.ensures services c.loop-place.invariant.1 so_far)

pub loop-place-preserved : goal.loop-place-preserved
loop-place-preserved g c =
    let s = schema_of c.args.schema.now in
    let services = map g.H.Handler.service c.args.handlers.items in
    let place = c.loop-place.place in
    let pair = c.index-pairs-place.result in
    let names = c.loop-place.progress.names.items in
    let bound = map g.H.Handler.service c.loop-place.progress.bound.items in
    let left = map g.H.Handler.service c.loop-place.progress.left.items in
    let so_far = subst (λ (l : List NamedKind). IsBoundSoFar s services l names bound left) (sym c.split_at.ensures.front) c.loop-place.invariant.0 in
    let next = c.in_default.ensures services c.loop-place.invariant.1 so_far in
    let front =
    ap (λ (l : List NamedKind). l ++ pair ∷ []) c.split_at.ensures.front
    ∙ ap (λ (p : NamedKind). take place c.args.pairs.now ++ p ∷ []) c.index-pairs-place.is
    ∙ sym (take_more c.args.pairs.now place pair c.loop-place-test.true) in (
      subst
          (λ (l : List NamedKind). IsBoundSoFar s services l c.bind_next.new.self.names.items (map g.H.Handler.service c.bind_next.new.self.bound.items) (map g.H.Handler.service c.bind_next.new.self.left.items))
          front next,
      c.loop-place.invariant.1,
    )
