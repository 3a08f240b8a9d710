-- A parse by clap, and what the words say.
use Rattle.std.proofs.Common.{◌≡◌, ◌∙◌, true, false, List, [], Option, Some, None, refl, sym, ap, subst, ⊎_elim}
use Rattle.std.proofs.Math.Path.{fun_ext}
use Rattle.std.specs.Prelude.{option_map}
use Rattle.std.specs.List.{list_all}
use Rattle.clap.specs.Kinds.{HasKind, Kinds}
use Rattle.clap.specs.Matches.{found_of}
use Rattle.clap.specs.Values.{kind_of}
use Rattle.clap.specs.Walk.{Row, Text, nothing_held, rows_after, rows_of, walk_from}
use Rattle.clap.specs.Simple.{App, HasMatchesOf, is_simple, matches_of, names_of}
use Rattle.clap.specs.Faults.{built_fault, fault_of, is_simple_and_free}
use Rattle.clap.specs.declared.error.Error.{Error}
use Rattle.clap.specs.declared.error.kind.ErrorKind.TheVariants.{OutOfMemory}
use Rattle.clap.specs.declared.parser.matches.ArgMatches.{ArgMatches}
use Rattle.clap.proofs.FaultLemmas.{leaf_fault}
use Rattle.command_line.specs.Clapped.{bare_app, is_fit, row_words, with_options}
use Rattle.command_line.specs.Options.{NamedWords, Sayings, has_option, said_behind, words_beside, words_left}
use Rattle.command_line.proofs.Fitness.{none_fit}
use Rattle.command_line.proofs.Rows.{rows_say}
use Rattle.command_line.proofs.Table.{built_is, built_shape, made, made_is, made_is_free, made_is_simple}
use Rattle.command_line.proofs.Telling.{Tells, failing, left_rows, words_told}

-- words that aren't handed to clap say nothing
pub unsaid : (names words : List Text) → has_option names [] ≡ false → list_all is_fit words ≡ false → None ≡ said_behind names words
unsaid names words no_empty unfit = sym (ap (option_map words_beside) (none_fit names no_empty words unfit [] None))

module _ (names : List Text) (no_empty : has_option names [] ≡ false) (words : List Text) (fit : list_all is_fit words ≡ true) where
  fault_is : fault_of (made names) words ≡ failing names no_empty (walk_from nothing_held) words
  fault_is =
      ap (λ (a : App). built_fault a nothing_held words) (built_is names)
      ∙ leaf_fault (record { top = built_shape names; subs = [] }) nothing_held words refl

  rows_are : matches_of (made names) words ≡ left_rows names no_empty (walk_from nothing_held) words
  rows_are = ap (λ (a : App). rows_after a.top.rules (names_of a) words) (built_is names)

  said_by : (o : Option NamedWords) → Tells names no_empty (walk_from nothing_held) words o → failing names no_empty (walk_from nothing_held) words ≡ []
      → Some (row_words (left_rows names no_empty (walk_from nothing_held) words)) ≡ option_map words_beside o
  said_by None t e = absurd (t e)
  said_by (Some pairs) t e =
      let same : row_words (left_rows names no_empty (walk_from nothing_held) words) ≡ words_beside pairs = fun_ext (λ name. rows_say pairs _ name t.1) in
      ap (λ (said : Sayings). Some said) same

  none_by : (o : Option NamedWords) → Tells names no_empty (walk_from nothing_held) words o → (failing names no_empty (walk_from nothing_held) words ≡ [] → ⊥)
      → None ≡ option_map words_beside o
  none_by None t bad = refl
  none_by (Some pairs) t bad = absurd (bad t.0)

  -- where clap has no fault, the rows are what the words say
  pub said : (a : App) (m : ArgMatches) → a ≡ with_options bare_app names → fault_of a words ≡ [] → HasMatchesOf a words m
      → Some (row_words (rows_of (found_of m))) ≡ said_behind names words
  said a m is fine has =
      let made_so : a ≡ made names = is ∙ made_is names in
      let simple : is_simple a ≡ true = ap is_simple made_so ∙ made_is_simple names in
      let rows : rows_of (found_of m) ≡ left_rows names no_empty (walk_from nothing_held) words =
      (has simple).0 ∙ ap (λ (b : App). matches_of b words) made_so ∙ rows_are in
      ap (λ (rs : List Row). Some (row_words rs)) rows
      ∙ said_by (words_left names [] None words) (words_told names no_empty words fit)
      (sym fault_is ∙ sym (ap (λ (b : App). fault_of b words) made_so) ∙ fine)

  -- where it has one, and memory didn't run out, the words are none
  pub refused : (a : App) (e : Error) → a ≡ with_options bare_app names → (kind_of e ≡ OutOfMemory → ⊥) → HasKind (fault_of a words) e
      → None ≡ said_behind names words
  refused a e is memory has =
      let made_so : a ≡ made names = is ∙ made_is names in
      none_by (words_left names [] None words) (words_told names no_empty words fit)
      (λ fine.
      let none : fault_of a words ≡ [] = ap (λ (b : App). fault_of b words) made_so ∙ fault_is ∙ fine in
      let kinds : HasKind [] e = subst (λ (k : Kinds). HasKind k e) none has in
      ⊎_elim (λ m. memory m) (λ f. f) kinds)

  -- the app is one whose faults are known
  pub free_so : (a : App) → a ≡ with_options bare_app names → is_simple_and_free a ≡ true
  free_so a is = ap (λ (b : App). is_simple_and_free b) (is ∙ made_is names) ∙ made_is_free names
