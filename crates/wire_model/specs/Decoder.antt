-- Decoders: what is decoded from the front of bytes, while the values that may still come are counted down.
use Rattle.std.specs.Prelude.{ℕ, ◌-◌, ⊤, List, length, Result, Ok, Err, ◌==◌, if◌then◌else◌}
use Rattle.wire_num.specs.declared.fault.NumFault.{NumFault}
use Rattle.thrift_value.specs.Faults.{wire_fault_of}
use Rattle.thrift_value.specs.declared.wire_fault.WireFault.{WireFault}
use Rattle.thrift_value.specs.declared.wire_fault.WireFault.TheVariants.{TooMany}

-- what is still to be read: the bytes, and how many more values may come
pub record Unread : Type 0 where
  pub bytes : List ℕ
  pub budget : ℕ

-- what is read from the front, and what is left then; or the fault that comes first
abbrev pub Decoder : Type 0 → Type 0
Decoder A = Unread → Result (A × Unread) WireFault

-- with what was read and what is left then, read on
abbrev pub go_on : {A B : Type 0} → Result (A × Unread) WireFault → (A → Unread → Result (B × Unread) WireFault) → Result (B × Unread) WireFault
go_on (Ok x) f = f x.0 x.1
go_on (Err fault) f = Err fault

infixl 10 ◌>>=◌
-- one reader after another
abbrev pub ◌>>=◌ : {A B : Type 0} → (Unread → Result (A × Unread) WireFault) → (A → Unread → Result (B × Unread) WireFault) → Unread → Result (B × Unread) WireFault
(reader >>= f) rest = go_on (reader rest) f

-- nothing is read, and this is the answer
abbrev pub give : {A : Type 0} → A → Unread → Result (A × Unread) WireFault
give x rest = Ok (x, rest)

-- nothing is read, and this is the fault
abbrev pub fail : {A : Type 0} → WireFault → Unread → Result (A × Unread) WireFault
fail fault rest = Err fault

-- how many bytes are left
abbrev pub room : Unread → Result (ℕ × Unread) WireFault
room rest = Ok (length rest.bytes, rest)

-- a result that counted no value
abbrev pub uncounted_result : {A : Type 0} → ℕ → Result (A × List ℕ) NumFault → Result (A × Unread) WireFault
uncounted_result budget (Ok x) = Ok (x.0, record { bytes = x.1; budget = budget })
uncounted_result budget (Err fault) = Err (wire_fault_of fault)

-- what stands in front of the bytes, where it is no value of its own
abbrev pub uncounted : {A : Type 0} → (List ℕ → Result (A × List ℕ) NumFault) → Unread → Result (A × Unread) WireFault
uncounted decoder unread = uncounted_result unread.budget (decoder unread.bytes)

-- one more value, or TooMany
abbrev pub count_value : Unread → Result (⊤ × Unread) WireFault
count_value rest = if rest.budget == 0 then Err TooMany else Ok (tt, record { bytes = rest.bytes; budget = rest.budget - 1 })
