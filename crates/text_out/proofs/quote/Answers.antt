use Rattle.std.proofs.Common.{◌≡◌, ℕ, ◌+◌, ◌<◌, List, [], ◌∷◌, ◌++◌, length, get_or, take, drop, vec_len, sym, ap, ◌∙◌, add-one, arith, append_assoc, drop-cons}
use Rattle.std.specs.List.{flat_map}
use Rattle.std.proofs.lemmas.List.{length-take, take-append-le}
use Rattle.text_out.specs.Quoted.{quoted_byte}
use Rattle.text_out.proofs.quote.Goals as goal

-- the text of what is left begins with that of the next byte
next_text : (bytes : List ℕ) (i : ℕ) → i < length bytes → flat_map quoted_byte (drop i bytes) ≡ quoted_byte (get_or bytes i 0) ++ flat_map quoted_byte (drop (i + 1) bytes)
next_text bytes i within =
    ap (flat_map quoted_byte) (drop-cons bytes i 0 within) ∙ (λ k. quoted_byte (get_or bytes i 0) ++ flat_map quoted_byte (drop (sym (add-one i) k) bytes))

-- one more text is written
written_on : (bytes : List ℕ) (i : ℕ) (now new whole : List ℕ) → i < length bytes → new ≡ now ++ quoted_byte (get_or bytes i 0)
    → now ++ (flat_map quoted_byte (drop i bytes) ++ 34 ∷ []) ≡ whole → new ++ (flat_map quoted_byte (drop (i + 1) bytes) ++ 34 ∷ []) ≡ whole
written_on bytes i now new whole within put kept =
    let text : List ℕ = quoted_byte (get_or bytes i 0) in
    let rest : List ℕ = flat_map quoted_byte (drop (i + 1) bytes) in
    ap (λ z. z ++ (rest ++ 34 ∷ [])) put
    ∙ append_assoc now text (rest ++ 34 ∷ [])
    ∙ ap (λ z. now ++ z) (sym (append_assoc text rest (34 ∷ [])) ∙ ap (λ z. z ++ 34 ∷ []) (sym (next_text bytes i within)))
    ∙ kept

-- and what was there before is kept
kept_on : (n : ℕ) (old now new t : List ℕ) → length old ≡ n → take n now ≡ old → new ≡ now ++ t → take n new ≡ old
kept_on n old now new t long kept put =
    ap (take n) put ∙ take-append-le n now t (omega (arith, ap length kept, length-take n now, long)) ∙ kept

pub loop-byte-preserved : goal.loop-byte-preserved
loop-byte-preserved c = record {
  written =
      written_on c.args.bytes.now c.loop-byte.byte-index c.loop-byte.into.items _ _ c.loop-byte-test.true c.in_ok-quote_byte.ensures.ok c.loop-byte.invariant.written;
  kept = kept_on (vec_len c.args.into.now) c.args.into.now.items c.loop-byte.into.items _ (quoted_byte (get_or c.args.bytes.now c.loop-byte.byte-index 0)) (omega arith) c.loop-byte.invariant.kept c.in_ok-quote_byte.ensures.ok;
}
