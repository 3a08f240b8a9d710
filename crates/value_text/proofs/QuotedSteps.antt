-- Reading quoted bytes one after another, as a loop does.
use Rattle.std.proofs.Common.{◌≡◌, ℕ, suc, List, [], ◌∷◌, ◌++◌, Option, Some, None, Result, Ok, sym, ap, ◌∙◌, append-nil}
use Rattle.value_text.specs.declared.stop.TextStop.{TextStop}
use Rattle.value_text.specs.declared.stop.TextStop.TheVariants as stop
use Rattle.value_text.specs.Answering.{LeavesAs}
use Rattle.value_text.specs.Fronts.{◌>>=◌, quoted_byte_at, byte_before, quoted_at}
use Rattle.value_text.proofs.RowSteps.{in_front, one_in_front}

abbrev byte_answer : List ℕ → Option ℕ → Result (Option ℕ × List ℕ) ℕ
byte_answer behind byte = Ok (byte, behind)

abbrev bytes_answer : List ℕ → List ℕ → Result (List ℕ × List ℕ) ℕ
bytes_answer behind bytes = Ok (bytes, behind)

module _ (most : ℕ) (text : List ℕ) where
  -- what was read so far, in front of what is read of the rest, is what is read of all
  abbrev pub AreQuoted : ℕ → List ℕ → List ℕ → Type 0
  AreQuoted left bytes rest = in_front bytes (quoted_at left rest) ≡ quoted_at most text

  opened : (left less : ℕ) (bytes rest : List ℕ) → left ≡ suc less
      → in_front bytes (quoted_at left rest) ≡ in_front bytes (quoted_byte_at rest >>= λ one. byte_before one.0 one.1 (quoted_at less))
  unfolding quoted_at
  opened left less bytes rest is = ap (λ n. in_front bytes (quoted_at n rest)) is

  pub quoted_stop : (why : TextStop) (left less : ℕ) (bytes rest : List ℕ) → left ≡ suc less → AreQuoted left bytes rest → LeavesAs why (quoted_byte_at rest) → LeavesAs why (quoted_at most text)
  quoted_stop stop.NoMemory left less bytes rest is kept h = tt
  quoted_stop (stop.Left n) left less bytes rest is kept h =
      sym kept ∙ opened left less bytes rest is ∙ ap (λ r. in_front bytes (r >>= λ one. byte_before one.0 one.1 (quoted_at less))) h

  pub byte_put : (left less : ℕ) (bytes more rest : List ℕ) (one : Option ℕ) (b : ℕ) (behind : List ℕ) → left ≡ suc less → AreQuoted left bytes rest
      → quoted_byte_at rest ≡ Ok (one, behind) → one ≡ Some b → more ≡ bytes ++ b ∷ [] → AreQuoted less more behind
  byte_put left less bytes more rest one b behind is kept h some put =
      ap (λ bs. in_front bs (quoted_at less behind)) put
      ∙ sym (one_in_front bytes b (quoted_at less behind))
      ∙ sym (ap (λ r. in_front bytes (r >>= λ one. byte_before one.0 one.1 (quoted_at less))) (h ∙ ap (byte_answer behind) some))
      ∙ sym (opened left less bytes rest is) ∙ kept

  pub quoted_end : (left less : ℕ) (bytes rest : List ℕ) (one : Option ℕ) (behind : List ℕ) → left ≡ suc less → AreQuoted left bytes rest
      → quoted_byte_at rest ≡ Ok (one, behind) → one ≡ None → quoted_at most text ≡ Ok (bytes, behind)
  quoted_end left less bytes rest one behind is kept h none =
      sym kept ∙ opened left less bytes rest is ∙ ap (λ r. in_front bytes (r >>= λ one. byte_before one.0 one.1 (quoted_at less))) (h ∙ ap (byte_answer behind) none)
      ∙ ap (bytes_answer behind) (append-nil bytes)
