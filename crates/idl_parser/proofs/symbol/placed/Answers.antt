use Rattle.std.proofs.Common.{◌≡◌, ◌≤◌, ◌-◌, ◌∙◌, length, drop, sym, ap, subst, arith}
use Rattle.idl_token.specs.Tokens.{token_bytes}
use Rattle.idl_parser.specs.Symbols.{terminal_of}
use Rattle.idl_parser.specs.ReaderCalls.{start, place_behind}
use Rattle.idl_parser.proofs.Places.{behind_more, walk_is_place, few_taken}
use Rattle.idl_parser.proofs.symbol.placed.Goals as goal

pub returns-clause-is : goal.returns-clause-is
returns-clause-is c =
    let what : c.terminal_of.result ≡ terminal_of c.args.token.kind (token_bytes c.args.text.now c.args.token) =
    c.terminal_of.ensures ∙ ap (terminal_of c.args.token.kind) c.part-bytes.ensures in
    let place = c.place_behind-place.ensures.is
    ∙ (λ i. place_behind (c.requires.place i) (c.part.ensures i))
    ∙ behind_more start c.args.text.now c.args.at c.args.token.from c.requires.before
    ∙ walk_is_place c.args.text.now c.args.token.from in
    λ i. record { what = what i; bytes = token_bytes c.args.text.now c.args.token; place = place i }

pub returns-clause-place : goal.returns-clause-place
returns-clause-place c =
    c.place_behind-place.ensures.is
    ∙ (λ i. place_behind (c.requires.place i) (c.part.ensures i))
    ∙ behind_more start c.args.text.now c.args.at c.args.token.from c.requires.before

pub returns-clause-line : goal.returns-clause-line
returns-clause-line c =
    let few : length c.part.result.now ≤ c.args.token.from - c.args.at =
    subst (λ bytes. length bytes ≤ c.args.token.from - c.args.at) (sym c.part.ensures) (few_taken (c.args.token.from - c.args.at) (drop c.args.at c.args.text.now)) in
    omega (arith, few, c.place_behind-place.ensures.line, c.requires.before, c.requires.line)

pub returns-clause-column : goal.returns-clause-column
returns-clause-column c =
    let few : length c.part.result.now ≤ c.args.token.from - c.args.at =
    subst (λ bytes. length bytes ≤ c.args.token.from - c.args.at) (sym c.part.ensures) (few_taken (c.args.token.from - c.args.at) (drop c.args.at c.args.text.now)) in
    omega (arith, few, c.place_behind-place.ensures.column, c.requires.before, c.requires.column)
