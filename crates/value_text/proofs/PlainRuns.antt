-- Bytes that stand in quoted text as they are.
use Rattle.std.proofs.Common.{◌≡◌, ℕ, suc, ◌+◌, Bool, true, false, cond, eqb, List, [], ◌∷◌, ◌++◌, take, drop, refl, ap, ◌∙◌, inl, inr, arith}
use Rattle.std.proofs.lemmas.Bool.{eqb-false}
use Rattle.std.specs.List.{flat_map, prefix_len}
use Rattle.text_out.specs.Quoted.{quoted_byte}
use Rattle.value_text.specs.Fronts.{is_printable}
use Rattle.value_text.specs.Plain.{is_plain}
use Rattle.value_text.proofs.Choices.{chosen}
use Rattle.value_text.proofs.QuotedLaws.{written_other, written_digits}

plain_is : (b : ℕ) → is_plain b ≡ true → quoted_byte b ≡ b ∷ []
plain_is b e =
    elim (chosen (eqb b 34) false (cond (eqb b 92) false (is_printable b)) true e) [
      | inl mark ↦ absurd (let g : ⊥ = cc in g)
      | inr other ↦
          elim (chosen (eqb b 92) false (is_printable b) true other.1) [
            | inl escape ↦ absurd (let g : ⊥ = cc in g)
            | inr more ↦ written_other b (eqb-false b 34 other.0) (eqb-false b 92 more.0) ∙ ap (λ t. cond t (b ∷ []) (written_digits b)) more.1
          ]
    ]

-- the bytes that are plain, and all others behind them
pub run_parts : (bs : List ℕ) → flat_map quoted_byte bs ≡ take (prefix_len is_plain bs) bs ++ flat_map quoted_byte (drop (prefix_len is_plain bs) bs)
run_parts [] = refl
run_parts (b ∷ bs) = by_test (is_plain b) refl (run_parts bs)
  where
    by_test : (t : Bool) → is_plain b ≡ t → flat_map quoted_byte bs ≡ take (prefix_len is_plain bs) bs ++ flat_map quoted_byte (drop (prefix_len is_plain bs) bs)
        → flat_map quoted_byte (b ∷ bs)
        ≡ take (cond t (1 + prefix_len is_plain bs) 0) (b ∷ bs) ++ flat_map quoted_byte (drop (cond t (1 + prefix_len is_plain bs) 0) (b ∷ bs))
    by_test true e more =
        let next : suc (prefix_len is_plain bs) ≡ 1 + prefix_len is_plain bs = omega arith in
        ap (λ t. t ++ flat_map quoted_byte bs) (plain_is b e) ∙ ap (λ t. b ∷ t) more ∙ ap (λ k. take k (b ∷ bs) ++ flat_map quoted_byte (drop k (b ∷ bs))) next
    by_test false e more = refl
