use Rattle.std.proofs.Common.{◌≡◌, List, ℕ, Ok, Result, codes, ap, ◌∙◌}
use Rattle.std.proofs.lemmas.Result.{err_from_is_err_and}
use Rattle.thrift_value.specs.declared.tag.Tag.{Tag}
use Rattle.value_text.specs.Fronts.{◌>>=◌, behind_word, tag_at}
use Rattle.value_text.specs.Heads.{tag_behind}
use Rattle.value_text.specs.Reading.{map_head_at}
use Rattle.value_text.proofs.Choices.{joined, stops_all}
use Rattle.value_text.proofs.heads.map_head_at.Goals as goal

-- what is read behind the key's tag, and behind that of the values
abbrev behind_tags : Tag → Tag × List ℕ → Result (Tag × Tag × List ℕ) ℕ
behind_tags key tag = behind_word (codes ">{") tag.1 >>= λ rest. Ok (key, tag.0, rest)

abbrev behind_key : Tag × List ℕ → Result (Tag × Tag × List ℕ) ℕ
behind_key key = tag_behind (codes ",") key.1 >>= behind_tags key.0

by_tags : (text : List ℕ) → map_head_at text ≡ (tag_behind (codes "map<") text >>= behind_key)
unfolding map_head_at
by_tags text =
    ap (λ f. behind_word (codes "map<") text >>= λ named. tag_at named >>= f) (λ i key. joined (behind_word (codes ",") key.1) tag_at (behind_tags key.0) i)
    ∙ joined (behind_word (codes "map<") text) tag_at behind_key

by_values : (text : List ℕ) (key : Tag) (behind : List ℕ) → tag_behind (codes "map<") text ≡ Ok (key, behind)
    → map_head_at text ≡ (tag_behind (codes ",") behind >>= behind_tags key)
by_values text key behind is = by_tags text ∙ ap (λ r. r >>= behind_key) is

pub returns-in_err-key : goal.returns-in_err-key
returns-in_err-key c =
    let p = err_from_is_err_and c.from_residual.result c.from_residual.ensures.1 in
    rw (p.1, p.2) (stops_all c.in_err-key.field-0.0 (tag_behind (codes "map<") c.args.text.now) behind_key _ (by_tags c.args.text.now) c.in_err-key.ensures)

pub returns-in_err-tag : goal.returns-in_err-tag
returns-in_err-tag c =
    let p = err_from_is_err_and c.from_residual-in_err-tag.result c.from_residual-in_err-tag.ensures.1 in
    rw (p.1, p.2) (stops_all c.in_err-tag.field-0.0 (tag_behind (codes ",") c.in_ok-key.behind.now) (behind_tags c.in_ok-key.key) _
    (by_values c.args.text.now c.in_ok-key.key c.in_ok-key.behind.now c.in_ok-key.ensures) c.in_err-tag.ensures)

pub returns-in_err-rest : goal.returns-in_err-rest
returns-in_err-rest c =
    let p = err_from_is_err_and c.from_residual-in_err-rest.result c.from_residual-in_err-rest.ensures.1 in
    rw (p.1, p.2) (stops_all c.in_err-rest.field-0.0 (behind_word (codes ">{") c.in_ok-tag.behind.now) (λ rest. Ok (c.in_ok-key.key, c.in_ok-tag.tag, rest)) _
    (by_values c.args.text.now c.in_ok-key.key c.in_ok-key.behind.now c.in_ok-key.ensures ∙ ap (λ r. r >>= behind_tags c.in_ok-key.key) c.in_ok-tag.ensures) c.in_err-rest.ensures)

pub returns : goal.returns
returns c =
    by_values c.args.text.now c.in_ok-key.key c.in_ok-key.behind.now c.in_ok-key.ensures ∙ ap (λ r. r >>= behind_tags c.in_ok-key.key) c.in_ok-tag.ensures
    ∙ ap (λ r. r >>= λ rest. Ok (c.in_ok-key.key, c.in_ok-tag.tag, rest)) c.in_ok-rest.ensures
