use Rattle.std.proofs.Common.{◌≡◌, List, ℕ, Ok, Result, codes, ap, ◌∙◌}
use Rattle.std.proofs.lemmas.Result.{err_from_is_err_and}
use Rattle.thrift_value.specs.declared.tag.Tag.{Tag}
use Rattle.value_text.specs.Fronts.{◌>>=◌, behind_word, tag_at}
use Rattle.value_text.specs.Heads.{tag_behind}
use Rattle.value_text.specs.Reading.{head_text_at}
use Rattle.value_text.proofs.Choices.{joined, stops_all}
use Rattle.value_text.proofs.heads.head_at.Goals as goal

-- what is read behind the tag
abbrev behind_tag : Tag × List ℕ → Result (Tag × List ℕ) ℕ
behind_tag tag = behind_word (codes ">[") tag.1 >>= λ rest. Ok (tag.0, rest)

by_tag : (word text : List ℕ) → head_text_at word text ≡ (tag_behind word text >>= behind_tag)
unfolding head_text_at
by_tag word text = joined (behind_word word text) tag_at behind_tag

pub returns-in_err-tag : goal.returns-in_err-tag
returns-in_err-tag c =
    let p = err_from_is_err_and c.from_residual.result c.from_residual.ensures.1 in
    rw (p.1, p.2) (stops_all c.in_err-tag.field-0.0 (tag_behind c.args.word.now c.args.text.now) behind_tag _ (by_tag c.args.word.now c.args.text.now) c.in_err-tag.ensures)

pub returns-in_err-rest : goal.returns-in_err-rest
returns-in_err-rest c =
    let p = err_from_is_err_and c.from_residual-in_err-rest.result c.from_residual-in_err-rest.ensures.1 in
    rw (p.1, p.2) (stops_all c.in_err-rest.field-0.0 (behind_word (codes ">[") c.in_ok-tag.behind.now) (λ rest. Ok (c.in_ok-tag.tag, rest)) _
    (by_tag c.args.word.now c.args.text.now ∙ ap (λ r. r >>= behind_tag) c.in_ok-tag.ensures) c.in_err-rest.ensures)

pub returns : goal.returns
returns c =
    by_tag c.args.word.now c.args.text.now ∙ ap (λ r. r >>= behind_tag) c.in_ok-tag.ensures ∙ ap (λ r. r >>= λ rest. Ok (c.in_ok-tag.tag, rest)) c.in_ok-rest.ensures
