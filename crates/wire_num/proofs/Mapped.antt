-- What was decoded as what it stands for: a decoder of the one is a decoder of the other.
use Rattle.std.proofs.Common.{◌≡◌, ℕ, List, ◌++◌, Result, subst, ap, ◌∙◌}
use Rattle.wire_num.specs.declared.fault.NumFault.{NumFault}
use Rattle.wire_num.specs.Decoding.{decoded_as}
use Rattle.wire_num.specs.Encoded.{Decodes}
use Rattle.wire_num.proofs.Fronts.{decoded, meant, meant_fault}

-- the encodings of what it stands for are those of what was decoded
pub mapped_decodes : {A B : Type 0} (decoder : List ℕ → Result (A × List ℕ) NumFault) (meaning : A → B) (IsOne : A → List ℕ → Type 0) (IsOther : B → List ℕ → Type 0) → Decodes decoder IsOne
    → ((x : A) (text : List ℕ) → IsOne x text → IsOther (meaning x) text) → ((y : B) (text : List ℕ) → IsOther y text → (x : A) × IsOne x text × (meaning x ≡ y))
    → Decodes (λ bytes. decoded_as meaning (decoder bytes)) IsOther
mapped_decodes decoder meaning IsOne IsOther d there back = record {
  found = λ bytes behind y fits e.
      let m = meant meaning (decoder bytes) y behind e in
      let f = d.found bytes behind m.0 fits m.1 in
      record { encoding = f.encoding; whole = f.whole; is = subst (λ z. IsOther z f.encoding) m.2 (there m.0 f.encoding f.is) };
  only = λ y encoding behind is.
      let b = back y encoding is in
      ap (decoded_as meaning) (d.only b.0 encoding behind b.1) ∙ ap (λ z. decoded (z, behind)) b.2;
  cut_off = λ y front rest is some.
      let b = back y (front ++ rest) is in
      ap (decoded_as meaning) (d.cut_off b.0 front rest b.1 some);
  stays = λ bytes behind fault e other. ap (decoded_as meaning) (d.stays bytes behind fault (meant_fault meaning (decoder bytes) fault e) other);
  goes_on = λ bytes behind more y e.
      let m = meant meaning (decoder bytes) y behind e in
      ap (decoded_as meaning) (d.goes_on bytes behind more m.0 m.1) ∙ ap (λ z. decoded (z, behind ++ more)) m.2;
}
