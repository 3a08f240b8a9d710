-- What stands in front, where no value is counted: what was proved of its decoder holds of it.
use Rattle.std.proofs.Common.{◌≡◌, ◌⊎◌, inl, inr, ℕ, List, ◌++◌, Result, Ok, Err, refl, sym, ap}
use Rattle.wire_num.specs.declared.fault.NumFault.{NumFault}
use Rattle.wire_num.specs.declared.fault.NumFault.TheVariants as number
use Rattle.wire_num.specs.Encoded.{AreByteSized, Decodes}
use Rattle.thrift_value.specs.Faults.{wire_fault_of}
use Rattle.thrift_value.specs.declared.wire_fault.WireFault.{WireFault}
use Rattle.thrift_value.specs.declared.wire_fault.WireFault.TheVariants.{Short}
use Rattle.wire_model.specs.Decoder.{Unread, uncounted, uncounted_result}
use Rattle.wire_model.specs.Protocol.{IsInFront, StaysAs, and_more, with_more}
use Rattle.wire_model.proofs.Steps.{ok_is}

abbrev raw : {A : Type 0} → A → List ℕ → Result (A × List ℕ) NumFault
raw x behind = Ok (x, behind)

by_result : {A : Type 0} (r : Result (A × List ℕ) NumFault) (budget : ℕ) (after : Unread) (x : A) → uncounted_result budget r ≡ Ok (x, after) → (r ≡ raw x after.bytes) × (after.budget ≡ budget)
by_result (Ok y) budget after x e =
    let same : (y.0, record { bytes = y.1; budget = budget }) ≡ (x, after) = ok_is (y.0, record { bytes = y.1; budget = budget }) (x, after) e in (
      ap (λ (z : _ × Unread). raw z.0 z.1.bytes) same,
      sym (ap (λ (z : _ × Unread). z.1.budget) same),
    )
by_result (Err fault) budget after x e = absurd cc

pub uncounted_done : {A : Type 0} (decoder : List ℕ → Result (A × List ℕ) NumFault) (before after : Unread) (x : A) → uncounted decoder before ≡ Ok (x, after)
    → (decoder before.bytes ≡ raw x after.bytes) × (after.budget ≡ before.budget)
uncounted_done decoder before after x e = by_result (decoder before.bytes) before.budget after x e

pub uncounted_found : {A : Type 0} (decoder : List ℕ → Result (A × List ℕ) NumFault) (IsEncoding : A → List ℕ → Type 0) → Decodes decoder IsEncoding
    → (before after : Unread) (x : A) → AreByteSized before.bytes → uncounted decoder before ≡ Ok (x, after) → IsInFront IsEncoding x before after
uncounted_found decoder IsEncoding d before after x fits e =
    let b = by_result (decoder before.bytes) before.budget after x e in
    let f = d.found before.bytes after.bytes x fits b.0 in
    record { text = f.encoding; whole = f.whole; spells = f.is; budget = b.1 }

pub uncounted_only : {A : Type 0} (decoder : List ℕ → Result (A × List ℕ) NumFault) (IsEncoding : A → List ℕ → Type 0) → Decodes decoder IsEncoding
    → (x : A) (text more : List ℕ) (left : ℕ) → IsEncoding x text → uncounted decoder (record { bytes = text ++ more; budget = left }) ≡ Ok (x, record { bytes = more; budget = left })
uncounted_only decoder IsEncoding d x text more left is = ap (uncounted_result left) (d.only x text more is)

stays_by : {A : Type 0} (decoder : List ℕ → Result (A × List ℕ) NumFault) (IsEncoding : A → List ℕ → Type 0) → Decodes decoder IsEncoding
    → (r : Result (A × List ℕ) NumFault) (unread : Unread) (more : List ℕ) → decoder unread.bytes ≡ r
    → (uncounted_result unread.budget r ≡ Err Short) ⊎ (uncounted decoder (and_more more unread) ≡ with_more more (uncounted_result unread.budget r))
stays_by decoder IsEncoding d (Ok x) unread more e = inr (ap (uncounted_result unread.budget) (d.goes_on unread.bytes x.1 more x.0 e))
stays_by decoder IsEncoding d (Err number.Short) unread more e = inl refl
stays_by decoder IsEncoding d (Err number.LongVarint) unread more e =
    inr (ap (uncounted_result unread.budget) (d.stays unread.bytes more number.LongVarint e (λ same. let f : ⊥ = cc in f)))

pub uncounted_stays : {A : Type 0} (decoder : List ℕ → Result (A × List ℕ) NumFault) (IsEncoding : A → List ℕ → Type 0) → Decodes decoder IsEncoding
    → StaysAs (uncounted decoder) (uncounted decoder)
uncounted_stays decoder IsEncoding d = λ unread more. stays_by decoder IsEncoding d (decoder unread.bytes) unread more refl

fault_by : {A : Type 0} (r : Result (A × List ℕ) NumFault) (budget : ℕ) (fault : WireFault) → uncounted_result budget r ≡ Err fault → (f : NumFault) × (r ≡ Err f) × (wire_fault_of f ≡ fault)
fault_by (Ok x) budget fault e = absurd cc
fault_by (Err f) budget fault e = (f, refl, cc)

pub uncounted_fault : {A : Type 0} (decoder : List ℕ → Result (A × List ℕ) NumFault) (unread : Unread) (fault : WireFault) → uncounted decoder unread ≡ Err fault
    → (f : NumFault) × (decoder unread.bytes ≡ Err f) × (wire_fault_of f ≡ fault)
uncounted_fault decoder unread fault e = fault_by (decoder unread.bytes) unread.budget fault e
