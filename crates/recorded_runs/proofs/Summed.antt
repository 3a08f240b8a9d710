-- One answer more is summed up.
use Rattle.std.proofs.Common.{◌≡◌, ℕ, suc, ℤ, ◌+◌, ◌+ℤ◌, ◌<◌, List, ◌∷◌, length, get_or, drop, sym, ap, ◌∙◌, arith, add-one, drop-cons}
use Rattle.std.proofs.lemmas.Int.{ints}
use Rattle.call_rules.specs.Entries.{CallEntry}
use Rattle.workload.specs.SummaryText.{answer_adds, sum_of_answers}

pub one_summed : (journal : List CallEntry) (i : ℕ) (e : CallEntry) (sum whole : ℤ) → i < length journal → e ≡ get_or journal i e
    → sum +ℤ sum_of_answers (drop i journal) ≡ whole → (sum +ℤ answer_adds e.answer) +ℤ sum_of_answers (drop (i + 1) journal) ≡ whole
one_summed journal i e sum whole within is so =
    let split : drop i journal ≡ e ∷ drop (i + 1) journal =
    drop-cons journal i e within ∙ ap (λ x. x ∷ drop (suc i) journal) (sym is) ∙ ap (λ n. e ∷ drop n journal) (sym (add-one i)) in
    let parts : sum_of_answers (drop i journal) ≡ answer_adds e.answer +ℤ sum_of_answers (drop (i + 1) journal) = ap sum_of_answers split in
    omega (arith, ints)
