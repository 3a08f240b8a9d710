-- What is read at a place of a text.
use Rattle.std.proofs.Common.{◌≡◌, ℕ, ◌+◌, ◌-◌, ◌<◌, ◌≤◌, List, [], ◌++◌, length, drop, cond, eqb, eqb-true, eq-eqb, append-nil, drop_of_length-le, IfOk, None, Result, Ok, Err, refl, sym, ap, subst, ◌∙◌, length-append, length-drop, drop-drop, drop_at, arith}
use Rattle.thrift_value.specs.declared.value.Value.{Value}
use Rattle.thrift_value.specs.Tree.{Tree}
use Rattle.thrift_value.specs.TreeOf.{tree_of}
use Rattle.value_text.specs.declared.fault.TextFault.{TextFault}
use Rattle.value_text.specs.ValueText.{tree_text}
use Rattle.value_text.specs.Answering.{Answers}
use Rattle.value_text.specs.Reading.{most_rounds, text_levels, value_text_at, at_place, front_at, ended, reading_of}
use Rattle.value_text.specs.Texts.{HasText, IsTextOf, IsTextAt}
use Rattle.value_text.proofs.Choices.{held, one_ok}
use Rattle.value_text.proofs.ContainersAgain.{values_again}
use Rattle.value_text.proofs.ContainersFound.{values_found}

placed_found : (size : ℕ) (r : Result (Tree × List ℕ) ℕ) (x : Tree) (behind : ℕ) → at_place size r ≡ Ok (x, behind) → (rest : List ℕ) × (r ≡ Ok (x, rest)) × (size - length rest ≡ behind)
placed_found size (Ok y) x behind e =
    let same = one_ok (y.0, size - length y.1) (x, behind) e in
    (y.1, ap (λ z. Ok (z, y.1)) (ap (λ (p : Tree × ℕ). p.0) same), ap (λ (p : Tree × ℕ). p.1) same)
placed_found size (Err left) x behind e = absurd cc

-- the place behind a text that stands at a place
end_is : (text : List ℕ) (at : ℕ) (front rest : List ℕ) → at ≤ length text → drop at text ≡ front ++ rest → length text - length rest ≡ at + length front
end_is text at front rest within is =
    let whole : length (drop at text) ≡ length (front ++ rest) = ap length is in
    omega (arith, within, whole, length-drop at text, length-append front rest)

rest_is : (text : List ℕ) (at : ℕ) (front rest : List ℕ) → drop at text ≡ front ++ rest → drop (at + length front) text ≡ rest
rest_is text at front rest is = sym (drop-drop (length front) at text) ∙ ap (drop (length front)) is ∙ drop_at front rest (length front) refl

pub front_found : (text : List ℕ) (at : ℕ) (x : Tree) (behind : ℕ) → at ≤ length text → front_at text at ≡ Ok (x, behind) → IsTextAt text at x behind
front_found text at x behind within e =
    let read = placed_found (length text) (value_text_at most_rounds text_levels None (drop at text)) x behind e in
    let found = values_found most_rounds text_levels None (drop at text) x read.0 read.1 in
    let end : behind ≡ at + length (tree_text x) = sym read.2 ∙ end_is text at (tree_text x) read.0 within found.whole in
    record {
      has_text = record { tidy = record { tagged = found.good.tagged; in_order = found.good.in_order }; depth = found.good.depth; in_range = found.good.in_range };
      stands = found.whole ∙ ap (λ r. tree_text x ++ r) (sym (ap (λ k. drop k text) end ∙ rest_is text at (tree_text x) read.0 found.whole));
      end = end;
    }

pub front_again : (text : List ℕ) (at : ℕ) (x : Tree) (more : List ℕ) → length text < most_rounds → at ≤ length text → HasText x → drop at text ≡ tree_text x ++ more
    → front_at text at ≡ Ok (x, at + length (tree_text x))
front_again text at x more short within has stands =
    let long : length (tree_text x) < most_rounds = omega (arith, short, ap length stands, length-drop at text, length-append (tree_text x) more) in
    ap (λ t. at_place (length text) (value_text_at most_rounds text_levels None t)) stands
    ∙ ap (at_place (length text)) (values_again most_rounds text_levels None x more long (record { tagged = has.tidy.tagged; in_order = has.tidy.in_order; in_range = has.in_range; depth = has.depth }) refl)
    ∙ ap (λ k. Ok (x, k)) (end_is text at (tree_text x) more within stands)

-- a text behind which nothing stands
ended_found : (text : List ℕ) (r : Result (Tree × ℕ) ℕ) (x : Tree) → front_at text 0 ≡ r → ended (length text) r ≡ Ok x → IsTextOf text x
ended_found text (Ok y) x is e =
    let test = held (eqb y.1 (length text)) (Ok y.0) y.1 x e in
    let found = front_found text 0 y.0 y.1 (omega arith) is in
    let end : y.1 ≡ length text = eqb-true y.1 (length text) test.0 in
    let nothing : drop y.1 text ≡ [] = drop_of_length-le text (omega (arith, end)) in
    subst (λ z. IsTextOf text z) (one_ok y.0 x test.1)
    (record { has_text = found.has_text; whole = found.stands ∙ ap (λ r. tree_text y.0 ++ r) nothing ∙ append-nil (tree_text y.0) })
ended_found text (Err place) x is e = absurd cc

-- a whole text
pub text_found : (text : List ℕ) (x : Tree) → reading_of text ≡ Ok x → IsTextOf text x
text_found text x e = ended_found text (front_at text 0) x refl e

pub text_again : (text : List ℕ) (x : Tree) → length text < most_rounds → IsTextOf text x → reading_of text ≡ Ok x
text_again text x short is =
    let read = front_again text 0 x [] short (omega arith) is.has_text (is.whole ∙ sym (append-nil (tree_text x))) in
    ap (ended (length text)) read ∙ ap (λ b. cond b (Ok x) (Err (0 + length (tree_text x)))) (eq-eqb (0 + length (tree_text x)) (length text) (omega (arith, ap length is.whole)))

-- what the answers of calls tell
pub front_is : (text : List ℕ) (at : ℕ) (r : Result (Value × ℕ) TextFault) → at ≤ length text → Answers (λ x. (tree_of x.0, x.1)) r (front_at text at) → IfOk r (λ x. IsTextAt text at (tree_of x.0) x.1)
front_is text at (Ok x) within given = front_found text at (tree_of x.0) x.1 within given
front_is text at (Err fault) within given = tt

pub text_is : (text : List ℕ) (r : Result Value TextFault) → Answers tree_of r (reading_of text) → IfOk r (λ v. IsTextOf text (tree_of v))
text_is text (Ok v) given = text_found text (tree_of v) given
text_is text (Err fault) given = tt
