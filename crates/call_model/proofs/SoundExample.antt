-- An office of the examples is sound.
use Rattle.std.proofs.Common.{[], codes, arith}
use Rattle.std.proofs.lemmas.List.Elements.{All-nil, All-cons}
use Rattle.envelope.specs.declared.head.Protocol.{Protocol}
use Rattle.schema.specs.Example.{example_schema}
use Rattle.schema.specs.Sound.{IsPlaceIn}
use Rattle.schema.proofs.ExampleIsSound.{example_sound}
use Rattle.call_model.specs.Offices.{Binding, IsSoundOffice}
use Rattle.call_model.specs.Examples.{example_office}

abbrev IsServed : Binding → Type 0
IsServed b = IsPlaceIn example_schema.services b.1

pub example_office_sound : (protocol : Protocol) → IsSoundOffice (example_office protocol)
example_office_sound protocol = record {
  schema = example_sound;
  some = omega arith;
  few = omega arith;
  names = λ i j d low within. absurd (omega arith);
  services = All-cons IsServed (codes "V", 0) [] (omega arith) (All-nil IsServed);
  default_slot = λ slot is. absurd cc;
  least = omega arith;
  most = omega arith;
}
