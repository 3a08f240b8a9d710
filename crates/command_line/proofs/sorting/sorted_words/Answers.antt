use Rattle.std.proofs.Common.{rules, ◌≡◌, true, false, map, string_bytes}
use Rattle.std.specs.List.{list_all}
use Rattle.clap.specs.Words.{app_of}
use Rattle.command_line.specs.Clapped.{is_fit}
use Rattle.command_line.specs.Lent.{lent_words}
use Rattle.command_line.proofs.Sorts.{free_so, refused, said, unsaid}
use Rattle.command_line.proofs.sorting.sorted_words.Goals as goal

pub returns-then-not-are_fit : goal.returns-then-not-are_fit
returns-then-not-are_fit c =
    let unfit : list_all is_fit (map string_bytes c.args.words.now) ≡ false = search rules in
    unsaid (lent_words c.args.names.now) (map string_bytes c.args.words.now) c.requires unfit

pub returns-in-Ok : goal.returns-in-Ok
returns-in-Ok c =
    let fit : list_all is_fit (map string_bytes c.args.words.now) ≡ true = search rules in
    let names = lent_words c.args.names.now in
    let words = map string_bytes c.args.words.now in
    let free = free_so names c.requires words fit (app_of c.in_ok-command.command) c.in_ok-command.ensures in
    said names c.requires words fit (app_of c.in_ok-command.command) c.in-Ok.matches c.in_ok-command.ensures (c.in-Ok.ensures.kinds free) c.in-Ok.ensures.matches

pub returns-else-is_want_of_memory : goal.returns-else-is_want_of_memory
returns-else-is_want_of_memory c =
    let fit : list_all is_fit (map string_bytes c.args.words.now) ≡ true = search rules in
    let names = lent_words c.args.names.now in
    let words = map string_bytes c.args.words.now in
    let free = free_so names c.requires words fit (app_of c.in_ok-command.command) c.in_ok-command.ensures in
    refused names c.requires words fit (app_of c.in_ok-command.command) c.in-Err.error c.in_ok-command.ensures
    (c.is_want_of_memory.ensures c.if-is_want_of_memory.false) (c.in-Err.ensures.kinds free)
