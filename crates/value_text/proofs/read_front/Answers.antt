use Rattle.std.proofs.Common.{◌<◌, length, subst, rules}
use Rattle.thrift_value.specs.TreeOf.{tree_of}
use Rattle.value_text.specs.Answering.{Answers}
use Rattle.value_text.proofs.Places.{front_is, front_again}
use Rattle.value_text.proofs.read_front.Goals as goal

pub returns-clause-found : goal.returns-clause-found
returns-clause-found c = front_is c.args.text.now c.args.at c.front_in.result c.requires c.front_in.ensures.exact

pub returns-clause-only : goal.returns-clause-only
returns-clause-only c =
    let short : length c.args.text.now < 18446744073709551615 = search rules in
    λ x more has stands. subst (λ f. Answers (λ y. (tree_of y.0, y.1)) c.front_in.result f) (front_again c.args.text.now c.args.at x more short c.requires has stands) c.front_in.ensures.exact
