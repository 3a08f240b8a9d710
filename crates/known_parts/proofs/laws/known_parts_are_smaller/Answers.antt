use Rattle.known_parts.proofs.Smaller.{part_within}
use Rattle.known_parts.proofs.laws.known_parts_are_smaller.Goals as goal

pub returns : goal.returns
returns c = record {
  depth = λ s raw part kind is. (part_within s raw part kind is).0;
  count = λ s raw part kind is. (part_within s raw part kind is).1;
}
