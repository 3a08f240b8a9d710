use Rattle.std.proofs.Common.{◌≡◌, drop}
use Rattle.idl_token.specs.Words.{terminal_in}
use Rattle.idl_token.proofs.words.terminal_in.Given as goal

-- what is found from here is what is found from the front
abbrev pub invariant-loop-word : goal.invariant-loop-word
invariant-loop-word l =
    terminal_in (λ row. row.0.now) (λ row. row.1) (drop l.word-index l.rows) l.text ≡ terminal_in (λ row. row.0.now) (λ row. row.1) l.rows l.text
