-- A command with one option more.
use Rattle.std.proofs.Common.{◌≡◌, ◌∙◌, ℕ, ◌+◌, ◌<◌, suc, List, length, drop, sym, ap, ap₂, arith, Bor, drop-cons}
use Rattle.std.specs.List.{slice_index_or}
use Rattle.clap.specs.Words.{App, Rule, Text, with_rule}
use Rattle.command_line.specs.Clapped.{option_rule, with_options}
use Rattle.command_line.specs.Lent.{lent_words}

pub options_next : (whole a b : App) (r : Rule) (names : List (Bor Text)) (i : ℕ) (d : Bor Text) → i < length names → b ≡ with_rule a r → r ≡ option_rule (slice_index_or names i d).now
    → with_options a (lent_words (drop i names)) ≡ whole → with_options b (lent_words (drop (i + 1) names)) ≡ whole
options_next whole a b r names i d within made is so_far =
    let next : i + 1 ≡ suc i = omega arith in
    ap₂ (λ (c : App) (k : ℕ). with_options c (lent_words (drop k names))) (made ∙ ap (with_rule a) is) next
    ∙ sym (ap (λ ns. with_options a (lent_words ns)) (drop-cons names i d within)) ∙ so_far
