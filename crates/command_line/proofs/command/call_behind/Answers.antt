use Rattle.std.proofs.Common.{rules, ◌≡◌, ◌∙◌, map, Option, Some, None, ◌++◌, string_bytes, sym, ap, subst}
use Rattle.std.specs.Prelude.{IfOk, option_and_then, option_map}
use Rattle.command_line.specs.Answering.{plain_asking}
use Rattle.command_line.specs.Calls.{PlainAsking, asking_said}
use Rattle.command_line.specs.Clapped.{sorted_said}
use Rattle.command_line.specs.Flagless.{flag_word, flagless_words}
use Rattle.command_line.specs.Lent.{lent_words}
use Rattle.command_line.specs.Options.{said_behind}
use Rattle.command_line.specs.Words.{call_flags, call_options}
use Rattle.command_line.proofs.FlagWords.{said_flagless}
use Rattle.command_line.proofs.command.call_behind.Goals as goal

pub returns-in_default : goal.returns-in_default
returns-in_default c =
    let flags : lent_words c.as_slice.result.now ≡ map flag_word call_flags = search rules in
    let made : None ≡ flagless_words (map flag_word call_flags) (map string_bytes c.args.words.now) =
    ap (option_map (λ all. map string_bytes all.items)) (sym c.in_default.is) ∙ c.in_ok-words.ensures ∙ ap (λ ns. flagless_words ns (map string_bytes c.args.words.now)) flags in
    sym (ap (option_and_then asking_said) (said_flagless call_options call_flags (map string_bytes c.args.words.now) None made))

pub returns-in-Some-2 : goal.returns-in-Some-2
returns-in-Some-2 c =
    let flags : lent_words c.as_slice.result.now ≡ map flag_word call_flags = search rules in
    let names : lent_words c.as_slice-2.result.now ≡ call_options ++ call_flags = search rules in
    let made : Some (map string_bytes c.in-Some.words.items) ≡ flagless_words (map flag_word call_flags) (map string_bytes c.args.words.now) =
    ap (option_map (λ all. map string_bytes all.items)) (sym c.in-Some.is) ∙ c.in_ok-words.ensures ∙ ap (λ ns. flagless_words ns (map string_bytes c.args.words.now)) flags in
    let said : Some (sorted_said c.in-Some-2.sorted) ≡ said_behind (call_options ++ call_flags) (map string_bytes c.in-Some.words.items) =
    ap (option_map sorted_said) (sym c.in-Some-2.is) ∙ c.in_ok-sorted.ensures ∙ ap (λ ns. said_behind ns (map string_bytes c.as_slice-3.result.now)) names
    ∙ ap (λ ws. said_behind (call_options ++ call_flags) (map string_bytes ws)) c.as_slice-3.ensures.value in
    subst (λ (o : Option PlainAsking). IfOk c.asking_said.result (λ read. option_map plain_asking read ≡ o))
    (ap (option_and_then asking_said) (said ∙ sym (said_flagless call_options call_flags (map string_bytes c.args.words.now) (Some (map string_bytes c.in-Some.words.items)) made)))
    c.asking_said.ensures

pub returns : goal.returns
returns c =
    let flags : lent_words c.as_slice.result.now ≡ map flag_word call_flags = search rules in
    let names : lent_words c.as_slice-2.result.now ≡ call_options ++ call_flags = search rules in
    let made : Some (map string_bytes c.in-Some.words.items) ≡ flagless_words (map flag_word call_flags) (map string_bytes c.args.words.now) =
    ap (option_map (λ all. map string_bytes all.items)) (sym c.in-Some.is) ∙ c.in_ok-words.ensures ∙ ap (λ ns. flagless_words ns (map string_bytes c.args.words.now)) flags in
    let said : None ≡ said_behind (call_options ++ call_flags) (map string_bytes c.in-Some.words.items) =
    ap (option_map sorted_said) (sym c.in-None.is) ∙ c.in_ok-sorted.ensures ∙ ap (λ ns. said_behind ns (map string_bytes c.as_slice-3.result.now)) names
    ∙ ap (λ ws. said_behind (call_options ++ call_flags) (map string_bytes ws)) c.as_slice-3.ensures.value in
    ap (option_and_then asking_said) (said ∙ sym (said_flagless call_options call_flags (map string_bytes c.args.words.now) (Some (map string_bytes c.in-Some.words.items)) made))
