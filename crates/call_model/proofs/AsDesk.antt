-- An office is a desk.
use Rattle.std.proofs.Common.{◌≡◌, ℕ, List}
use Rattle.host_model.specs.DeskRules.{Invoke}
use Rattle.call_rules.specs.PlainCalls.{PlainCall, IsPlainCall}
use Rattle.call_rules.specs.Desks.{IsDesk}
use Rattle.schema.specs.PlainSchema.{PlainSchema}
use Rattle.schema.specs.Sound.{IsSound}
use Rattle.struct_skew.proofs.Bounds.{projection_bounded}
use Rattle.struct_skew.proofs.Projected.{projection_tidy, projection_typed}
use Rattle.call_model.specs.Offices.{PlainOffice, IsSoundOffice}
use Rattle.call_model.specs.Decisions.{decision}
use Rattle.call_model.specs.Desk.{desk_of}
use Rattle.call_model.proofs.Invoked.{TakesPlainly, IsDecidedCall, decided_call, struct_written}
use Rattle.call_model.proofs.Refused.{decided_framed}
use Rattle.call_model.proofs.Replied.{replied_framed}

takes_plainly : (s : PlainSchema) → IsSound s → TakesPlainly s
takes_plainly s sound which place raw value kind is = (
  record { tidy = projection_tidy s sound which place raw kind value is; levels = (projection_bounded s which raw value is).0 },
  struct_written s.structs which value (projection_typed s sound which place raw kind value is),
)

-- what is known of a call that is decided
pub known_call : (office : PlainOffice) → IsSoundOffice office → (payload : List ℕ) (call : PlainCall) → decision office payload ≡ Invoke call → IsDecidedCall office call
known_call office sound payload call is = decided_call office sound.schema (takes_plainly office.schema sound.schema) payload call is

pub plain_call : (office : PlainOffice) → IsSoundOffice office → (payload : List ℕ) (call : PlainCall) → decision office payload ≡ Invoke call → IsPlainCall call
plain_call office sound payload call is =
    let known = known_call office sound payload call is in
    record { some = known.word.some; word = known.word.bytes; arguments = known.args.1; plain = known.args.0 }

pub sound_desk : (office : PlainOffice) → IsSoundOffice office → IsDesk (desk_of office)
sound_desk office sound =
    record {
      few = sound.few;
      in_slots = λ payload call is. (known_call office sound payload call is).slot;
      plain = plain_call office sound;
      framed = decided_framed office sound;
      replied = replied_framed office sound;
    }
