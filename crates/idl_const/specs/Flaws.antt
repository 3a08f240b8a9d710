-- What the answers of an evaluation say. Want of memory says nothing.
use Rattle.std.specs.Prelude.{◌≡◌, ⊤, ℕ, Option, Some, None, MatchOption, Result, Ok, Err}
use Rattle.thrift_value.specs.declared.value.Value.{Value}
use Rattle.idl_token.specs.declared.Place.{Place}
use Rattle.thrift_value.specs.Tree.{Tree}
use Rattle.thrift_value.specs.TreeOf.{tree_of}
use Rattle.check_model.specs.Worths.{ConstFlaw, wrong_kind, out_of_range, unknown_name, double_constant, bad_uuid, const_cycle, unknown_field, missing_field, too_large, Worth, valued, flawed}
use Rattle.check_model.specs.Scalars.{OneWorth}
use Rattle.idl_const.specs.declared.faults.ConstFault.{ConstFault}
use Rattle.idl_const.specs.declared.faults.ConstFault.TheVariants as fault
use Rattle.idl_const.specs.declared.faults.ConstStop.{ConstStop}

-- the flaw that a fault tells; want of memory tells none
abbrev pub flaw_of : ConstFault → Option ConstFlaw
flaw_of fault.WrongKind = Some wrong_kind
flaw_of fault.OutOfRange = Some out_of_range
flaw_of fault.UnknownName = Some unknown_name
flaw_of fault.DoubleConstant = Some double_constant
flaw_of fault.BadUuid = Some bad_uuid
flaw_of fault.ConstCycle = Some const_cycle
flaw_of fault.UnknownField = Some unknown_field
flaw_of fault.MissingField = Some missing_field
flaw_of fault.TooLarge = Some too_large
flaw_of fault.NoMemory = None

-- the answer is what one value is worth
abbrev pub IsOneWorth : OneWorth → Result Value ConstFault → Type 0
IsOneWorth worth (Ok value) = worth ≡ Ok (tree_of value)
IsOneWorth worth (Err f) = MatchOption (flaw_of f) ⊤ (λ flaw. worth ≡ Err flaw)

-- evaluating stops with the first fault of this worth
abbrev pub StopsAs : {A : Type 0} → ConstStop → Worth A → Type 0
StopsAs stop worth = MatchOption (flaw_of stop.fault) ⊤ (λ flaw. worth ≡ flawed stop.at flaw)

-- the answer, behind so many values, is what the worth says
abbrev pub AnswersWorth : {A B : Type 0} → (A → B) → Result A ConstStop → ℕ → Worth B → Type 0
AnswersWorth view (Ok x) count worth = worth ≡ valued (view x) count
AnswersWorth view (Err stop) count worth = StopsAs stop worth

-- What evaluating answers: a value, or the place of the first fault and what is wrong there.
abbrev pub IsEvaluated : Worth Tree → Result Value (Place × ConstFault) → Type 0
IsEvaluated worth (Ok value) = (count : ℕ) × (worth ≡ valued (tree_of value) count)
IsEvaluated worth (Err e) = MatchOption (flaw_of e.1) ⊤ (λ flaw. worth ≡ flawed e.0 flaw)
