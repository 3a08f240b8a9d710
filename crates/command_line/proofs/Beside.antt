-- The words beside a name, as clap hands them out.
use Rattle.std.proofs.Common.{◌≡◌, ◌∙◌, List, [], map, Option, Some, None, ap, Bor}
use Rattle.std.specs.Prelude.{MatchOption, option_map, unwrap_or}
use Rattle.clap.specs.Matches.{matched_of, raw_values}
use Rattle.clap.specs.Walk.{Text, all_of, rows_of}
use Rattle.clap.specs.declared.parser.matches.Found.{Found}
use Rattle.clap.proofs.WalkLemmas.{raw_values-rows}
use Rattle.command_line.specs.Lent.{lent_words}

held : (o : Option (Bor (List (Bor Text)))) (result : List (Bor Text)) (all : Option (List Text)) → MatchOption o (result ≡ []) (λ lent. result ≡ lent.now)
    → option_map (λ s. map (λ v. v.now) s.now) o ≡ all → lent_words result ≡ unwrap_or all []
held None result all is e = ap lent_words is ∙ ap (λ a. unwrap_or a []) e
held (Some lent) result all is e = ap lent_words is ∙ ap (λ a. unwrap_or a []) e

pub words_held : (o : Option (Bor (List (Bor Text)))) (result : List (Bor Text)) (f : Found) (id : Text) → MatchOption o (result ≡ []) (λ lent. result ≡ lent.now)
    → option_map (λ s. map (λ v. v.now) s.now) o ≡ option_map raw_values (matched_of f id) → lent_words result ≡ unwrap_or (all_of id (rows_of f)) []
words_held o result f id is raw = held o result (all_of id (rows_of f)) is (raw ∙ raw_values-rows f id)
