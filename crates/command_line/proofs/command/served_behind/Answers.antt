use Rattle.std.proofs.Common.{rules, ◌≡◌, ◌∙◌, map, Option, Some, string_bytes, sym, ap, subst}
use Rattle.std.specs.Prelude.{IfOk, option_and_then, option_map}
use Rattle.command_line.specs.Answering.{plain_served}
use Rattle.command_line.specs.Clapped.{sorted_said}
use Rattle.command_line.specs.Lent.{lent_words}
use Rattle.command_line.specs.Options.{said_behind}
use Rattle.command_line.specs.Served.{PlainServed, served_said}
use Rattle.command_line.specs.Words.{served_options}
use Rattle.command_line.proofs.command.served_behind.Goals as goal

pub returns-in-Some : goal.returns-in-Some
returns-in-Some c =
    let names : lent_words c.as_slice.result.now ≡ served_options = search rules in
    let said : Some (sorted_said c.in-Some.sorted) ≡ said_behind served_options (map string_bytes c.args.words.now) =
    ap (option_map sorted_said) (sym c.in-Some.is) ∙ c.in_ok-sorted.ensures ∙ ap (λ ns. said_behind ns (map string_bytes c.args.words.now)) names in
    subst (λ (o : Option PlainServed). IfOk c.served_said.result (λ read. option_map plain_served read ≡ o)) (ap (option_and_then served_said) said) c.served_said.ensures
