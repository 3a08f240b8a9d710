-- An entry's text tells the entry's connection.
use Rattle.std.proofs.Common.{◌≡◌, ℕ, Bool, true, false, List, ◌∷◌, ◌++◌, codes, refl, sym, ap, ◌∙◌, arith, append_assoc}
use Rattle.std.proofs.lemmas.Fmt.{decimal_injective}
use Rattle.text_out.specs.Decimal.{natural_of}
use Rattle.script_model.specs.Telling.{TellsConnections}
use Rattle.script_model.proofs.ReportLines.{IsWithout, natural_without, plain_without, cut_at}
use Rattle.call_rules.specs.Entries.{CallEntry}
use Rattle.journal_text.specs.EntryText.{next_word, call_word, asked_text, answered_text, entry_text}

-- the first word has no blank
word_without : (silent : Bool) → IsWithout 32 (call_word silent)
word_without false = plain_without 32 (codes "call") refl
word_without true = plain_without 32 (codes "oneway") refl

-- what stands behind the connection and a blank
abbrev behind_connection : CallEntry → List ℕ
behind_connection e =
    (natural_of e.key.i ++ next_word (natural_of e.call.slot)) ++ (asked_text e.call.method e.call.args ++ next_word (answered_text e.answer))

-- the first word, the connection, and the rest
in_words : (e : CallEntry) → entry_text e ≡ call_word e.call.silent ++ 32 ∷ (natural_of e.key.c ++ 32 ∷ behind_connection e)
in_words e =
    let word : List ℕ = call_word e.call.silent in
    let number : List ℕ = natural_of e.key.c in
    let rest : List ℕ = 32 ∷ (natural_of e.key.i ++ next_word (natural_of e.call.slot)) in
    let more : List ℕ = asked_text e.call.method e.call.args ++ next_word (answered_text e.answer) in
    append_assoc word (32 ∷ (number ++ rest)) more ∙ ap (λ t. word ++ 32 ∷ t) (append_assoc number rest more)

pub one_connection : TellsConnections entry_text
one_connection e f low high same =
    let words : call_word e.call.silent ++ 32 ∷ (natural_of e.key.c ++ 32 ∷ behind_connection e)
    ≡ call_word f.call.silent ++ 32 ∷ (natural_of f.key.c ++ 32 ∷ behind_connection f) =
    sym (in_words e) ∙ same ∙ in_words f in
    let numbers : natural_of e.key.c ++ 32 ∷ behind_connection e ≡ natural_of f.key.c ++ 32 ∷ behind_connection f =
    (cut_at 32 (call_word e.call.silent) (call_word f.call.silent) _ _ (word_without e.call.silent) (word_without f.call.silent) words).1 in
    decimal_injective e.key.c f.key.c (omega (arith, low)) (omega (arith, high))
    (cut_at 32 (natural_of e.key.c) (natural_of f.key.c) (behind_connection e) (behind_connection f) (natural_without 32 e.key.c (omega arith)) (natural_without 32 f.key.c (omega arith))
    numbers).0
