-- What is written of a struct is read, or it has too many values.
use Rattle.std.proofs.Common.{◌≡◌, ◌⊎◌, inl, inr, ℕ, ◌+◌, ◌-◌, ◌≤◌, List, ◌++◌, length, drop, Result, Ok, Err, refl, sym, ap, ◌∙◌, subst, arith}
use Rattle.std.proofs.lemmas.List.{length-append, drop_at}
use Rattle.thrift_value.specs.declared.tag.Tag.TheVariants.{Struct}
use Rattle.thrift_value.specs.declared.wire_fault.WireFault.{WireFault}
use Rattle.thrift_value.specs.declared.wire_fault.WireFault.TheVariants.{TooMany}
use Rattle.thrift_value.specs.Measures.{count_of, depth_of}
use Rattle.thrift_value.specs.Plain.{plain, HasMeasuresOf}
use Rattle.thrift_value.specs.Ranges.{IsInRange}
use Rattle.thrift_value.specs.Sizes.{HasSmallSizes}
use Rattle.thrift_value.specs.Tags.{tag_of}
use Rattle.thrift_value.specs.Tidy.{IsWellTagged}
use Rattle.thrift_value.specs.Tree.{Tree}
use Rattle.wire_model.specs.Decoder.{Unread}
use Rattle.wire_model.specs.Encoder.{Encoder, text}
use Rattle.wire_model.specs.Format.{Format, Spells}
use Rattle.wire_model.specs.Place.{most_levels, most_values, placed, found_struct, struct_at}
use Rattle.wire_model.specs.Protocol.{IsProtocol}
use Rattle.wire_model.specs.Reading.{value}
use Rattle.wire_model.specs.Wire.{Wire}
use Rattle.client_law.proofs.Budgets.{with_values, value_relieved}

-- how many values may still come plays no part in a place
same_place : (size more : ℕ) (r : Result (Tree × Unread) WireFault) → placed size (with_values more r) ≡ placed size r
same_place size more (Ok x) = refl
same_place size more (Err fault) = refl

-- what reading a struct came to
abbrev pub IsReadOrMany : Tree → ℕ → Result (Tree × ℕ) WireFault → Type 0
IsReadOrMany x behind read = (read ≡ Err TooMany) ⊎ (read ≡ found_struct x behind)

module _ (wire : Wire) (format : Format) (encoder : Encoder) (protocol : IsProtocol wire format encoder)
    (spelled_is_read : (levels left : ℕ) (x : Tree) (spelling more : List ℕ) → Spells format x spelling → depth_of x ≤ levels → count_of x ≤ left
    → value wire levels (tag_of x) (record { bytes = spelling ++ more; budget = left }) ≡ Ok (x, record { bytes = more; budget = left - count_of x }))
    (written_is_spelled : (x : Tree) → IsWellTagged x → IsInRange x → HasSmallSizes x → Spells format (plain x) (text encoder x))
    (measures : (x : Tree) → HasMeasuresOf x (plain x)) where
  pub written_or_many : (x : Tree) (front more : List ℕ) → IsWellTagged x → IsInRange x → HasSmallSizes x → tag_of x ≡ Struct → depth_of x ≤ most_levels
      → IsReadOrMany (plain x) (length front + length (text encoder x)) (struct_at wire (front ++ (text encoder x ++ more)) (length front))
  written_or_many x front more tagged range sizes is depth =
      let written : List ℕ = text encoder x in
      let all : ℕ = length (front ++ (written ++ more)) in
      let m = measures x in
      let here : Unread = record { bytes = written ++ more; budget = most_values } in
      let there : Unread = record { bytes = more; budget = most_values + count_of (plain x) - count_of (plain x) } in
      let kind : tag_of (plain x) ≡ Struct = m.tag ∙ is in
      let shallow : depth_of (plain x) ≤ most_levels = omega (arith, m.depth, depth) in
      let with_more = spelled_is_read most_levels (most_values + count_of (plain x)) (plain x) written more (written_is_spelled x tagged range sizes) shallow (omega arith) in
      let read : value wire most_levels Struct (record { bytes = written ++ more; budget = most_values + count_of (plain x) }) ≡ Ok (plain x, there) =
      subst (λ tag. value wire most_levels tag (record { bytes = written ++ more; budget = most_values + count_of (plain x) }) ≡ Ok (plain x, there)) kind with_more in
      let place : all - length more ≡ length front + length written = omega (arith, length-append front (written ++ more), length-append written more) in
      let dropped : drop (length front) (front ++ (written ++ more)) ≡ written ++ more = drop_at front (written ++ more) (length front) refl in
      let at_front = ap (λ (t : List ℕ). placed all (value wire most_levels Struct (record { bytes = t; budget = most_values }))) dropped in
      either all at_front read place (value_relieved wire protocol.uncounted most_levels Struct here (count_of (plain x)))
    where
      either : (all : ℕ) → struct_at wire (front ++ (text encoder x ++ more)) (length front)
          ≡ placed all (value wire most_levels Struct (record { bytes = text encoder x ++ more; budget = most_values }))
          → value wire most_levels Struct (record { bytes = text encoder x ++ more; budget = most_values + count_of (plain x) })
          ≡ Ok (plain x, record { bytes = more; budget = most_values + count_of (plain x) - count_of (plain x) })
          → all - length more ≡ length front + length (text encoder x)
          → (value wire most_levels Struct (record { bytes = text encoder x ++ more; budget = most_values }) ≡ Err TooMany)
          ⊎ (value wire most_levels Struct (record { bytes = text encoder x ++ more; budget = most_values + count_of (plain x) })
          ≡ with_values (count_of (plain x)) (value wire most_levels Struct (record { bytes = text encoder x ++ more; budget = most_values })))
          → IsReadOrMany (plain x) (length front + length (text encoder x)) (struct_at wire (front ++ (text encoder x ++ more)) (length front))
      either all at_front read place (inl many) = inl (at_front ∙ ap (placed all) many)
      either all at_front read place (inr same) =
          inr (at_front
          ∙ sym (same_place all (count_of (plain x)) (value wire most_levels Struct (record { bytes = text encoder x ++ more; budget = most_values })))
          ∙ ap (placed all) (sym same ∙ read)
          ∙ ap (found_struct (plain x)) place)
