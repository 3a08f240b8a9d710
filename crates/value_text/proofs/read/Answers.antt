use Rattle.std.proofs.Common.{◌<◌, length, subst, rules}
use Rattle.thrift_value.specs.TreeOf.{tree_of}
use Rattle.value_text.specs.Answering.{Answers}
use Rattle.value_text.proofs.Places.{text_is, text_again}
use Rattle.value_text.proofs.read.Goals as goal

pub returns-clause-found : goal.returns-clause-found
returns-clause-found c = text_is c.args.text.now c.whole_in.result c.whole_in.ensures

pub returns-clause-only : goal.returns-clause-only
returns-clause-only c =
    let short : length c.args.text.now < 18446744073709551615 = search rules in
    λ x is. subst (λ f. Answers tree_of c.whole_in.result f) (text_again c.args.text.now x short is) c.whole_in.ensures
