-- What is known of a client in memory, which keeps no more than that it is sound.
use Rattle.std.proofs.Common.{◌≤◌, [], ◌∷◌, None, arith}
use Rattle.std.proofs.Math.Logic.{∥∥₁_elim, ∥∥₁_prop}
use Rattle.std.proofs.lemmas.List.Elements.{All-nil, All-cons}
use Rattle.call_rules.specs.Desks.{longest_payload}
use Rattle.schema.specs.Sound.{IsSound, IsPlaceIn}
use Rattle.call_model.specs.Offices.{Binding, PlainOffice, IsSoundOffice}
use Rattle.call_model.proofs.SoundAgain.{sound_again}
use Rattle.client_desk.specs.Clients.{PlainClient, IsSoundClient}

-- the office that serves this client alone
abbrev pub office_of : PlainClient → PlainOffice
office_of c = record { schema = c.schema; bindings = (c.name, c.service) ∷ []; default_slot = None; protocol = c.protocol; max_frame = c.max_frame }

pub office_sound : (c : PlainClient) → IsSoundClient c → IsSoundOffice (office_of c)
office_sound c sound =
    record {
      schema = sound.schema;
      some = omega arith;
      few = omega arith;
      names = λ i j d below within. absurd (omega arith);
      services = All-cons (λ (b : Binding). IsPlaceIn c.schema.services b.1) (c.name, c.service) [] sound.service (All-nil _);
      default_slot = λ slot is. absurd cc;
      least = sound.least;
      most = sound.most;
    }

known : (c : PlainClient) → ∥ IsSoundClient c ∥₁ → IsSoundOffice (office_of c)
known c t = sound_again (office_of c) (∥∥₁_elim t ∥∥₁_prop (λ a. ∣ office_sound c a ∣₁))

pub schema_sound : (c : PlainClient) → ∥ IsSoundClient c ∥₁ → IsSound c.schema
schema_sound c t = (known c t).schema

pub frame_bounded : (c : PlainClient) → ∥ IsSoundClient c ∥₁ → c.max_frame ≤ longest_payload
frame_bounded c t = (known c t).most
