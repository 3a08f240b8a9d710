use Rattle.std.proofs.Common.{◌≡◌, ◌≤◌, ◌-◌, ℕ, List, [], ◌∷◌, Some, None, length, take, drop, slice_index_or, if◌then◌else◌, ap, sym, ◌∙◌, refl, arith, eq-eqb, ne_eqb}
use Rattle.std.proofs.lemmas.List.{take_rest}
use Rattle.value_text.specs.Rows.{rest_behind}
use Rattle.value_text.proofs.fronts.rest_behind.Goals as goal

-- the byte stands in front
behind_first : (c : ℕ) (text : List ℕ) → 1 ≤ length text → slice_index_or text 0 0 ≡ c → rest_behind c text ≡ Some (take (length text - 1) (drop 1 text))
behind_first c [] long is = let none : ⊥ = omega arith in elim none [ ]
behind_first c (b ∷ bs) long is = ap (λ k. if k then Some bs else None) (eq-eqb b c is) ∙ ap Some (sym (take_rest (b ∷ bs) 1))

-- another one does
behind_other : (c : ℕ) (text : List ℕ) → 1 ≤ length text → (slice_index_or text 0 0 ≡ c → ⊥) → rest_behind c text ≡ None
behind_other c [] long is = refl
behind_other c (b ∷ bs) long is = ap (λ k. if k then Some bs else None) (ne_eqb b c is)

pub returns-then-byte-wanted : goal.returns-then-byte-wanted
returns-then-byte-wanted c = behind_first c.args.wanted c.args.text.now c.in-len1-up.len_at_least c.if-byte-wanted.true

pub returns : goal.returns
returns c = behind_other c.args.wanted c.args.text.now c.in-len1-up.len_at_least c.if-byte-wanted.false
