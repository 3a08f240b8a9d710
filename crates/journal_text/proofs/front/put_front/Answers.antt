use Rattle.std.proofs.Common.{◌++◌, ◌∷◌, [], drop, ap, ◌∙◌, arith}
use Rattle.std.proofs.lemmas.List.{drop_all}
use Rattle.text_out.specs.Decimal.{natural_of}
use Rattle.call_rules.specs.PlainCalls.{PlainCall}
use Rattle.journal_text.specs.EntryText.{next_word, call_word, front_text}
use Rattle.journal_text.proofs.FrontRoom.{words_put}
use Rattle.journal_text.proofs.front.put_front.Goals as goal

pub returns-clause-put : goal.returns-clause-put
returns-clause-put c =
    words_put (call_word c.call.inside.silent) (next_word (natural_of c.args.key.now.c)) (next_word (natural_of c.args.key.now.i)) (next_word (natural_of c.call.inside.slot))
    (drop c.put_word.result c.put_word.new.room) (drop c.put_number-connection.result c.put_number-connection.new.room) (drop c.put_number-number.result c.put_number-number.new.room)
    (drop c.put_number-slot.result c.put_number-slot.new.room) (drop c.put_byte-end.result c.put_byte-end.new.room) (drop 70 c.args.room.now)
    c.put_word.ensures.put
    (c.put_number-connection.ensures.put ∙ ap (λ n. next_word (natural_of n) ++ drop c.put_number-number.result c.put_number-number.new.room) c.from-2.ensures)
    c.put_number-number.ensures.put
    (c.put_number-slot.ensures.put ∙ ap (λ n. next_word (natural_of n) ++ drop c.put_byte-end.result c.put_byte-end.new.room) c.from.ensures)
    c.put_byte-end.ensures.put
    (drop_all 70 c.args.room.now (omega (arith, c.requires)))
    ∙ ap (λ (x : PlainCall). front_text x.silent c.args.key.now x.slot ++ 32 ∷ []) c.call.view_is
