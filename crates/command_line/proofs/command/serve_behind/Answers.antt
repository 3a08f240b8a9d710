use Rattle.std.proofs.Common.{rules, ◌≡◌, ◌∙◌, map, Option, Some, string_bytes, sym, ap, subst}
use Rattle.std.specs.Prelude.{IfOk, option_and_then, option_map}
use Rattle.command_line.specs.Answering.{plain_command}
use Rattle.command_line.specs.Clapped.{sorted_said}
use Rattle.command_line.specs.Lent.{lent_words}
use Rattle.command_line.specs.Options.{said_behind}
use Rattle.command_line.specs.Words.{PlainCommand, serve_options, serve_said}
use Rattle.command_line.proofs.command.serve_behind.Goals as goal

pub returns-in-Some : goal.returns-in-Some
returns-in-Some c =
    let names : lent_words c.as_slice.result.now ≡ serve_options = search rules in
    let said : Some (sorted_said c.in-Some.sorted) ≡ said_behind serve_options (map string_bytes c.args.words.now) =
    ap (option_map sorted_said) (sym c.in-Some.is) ∙ c.in_ok-sorted.ensures ∙ ap (λ ns. said_behind ns (map string_bytes c.args.words.now)) names in
    subst (λ (o : Option PlainCommand). IfOk c.serve_said.result (λ read. option_map plain_command read ≡ o)) (ap (option_and_then serve_said) said) c.serve_said.ensures
