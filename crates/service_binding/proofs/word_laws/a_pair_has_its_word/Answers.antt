use Rattle.service_binding.proofs.PairWords.{pair_has_its_word}
use Rattle.service_binding.proofs.word_laws.a_pair_has_its_word.Goals as goal

pub returns : goal.returns
returns c = pair_has_its_word
