use Rattle.std.proofs.Common.{◌≡◌, ℕ, List, [], ◌∷◌, ◌++◌, codes, option_map, sym, ap, ◌∙◌, append_assoc}
use Rattle.std.specs.List.{slice_get}
use Rattle.text_out.specs.Line.{line_of}
use Rattle.service_binding.specs.Pairs.{NamedKind}
use Rattle.service_binding.specs.Refusals.{pair_at_text, reason_word}
use Rattle.service_binding.proofs.refusals.put_parts.Goals as goal

joined : (before front word : List ℕ) → ((before ++ front) ++ 32 ∷ []) ++ (word ++ 10 ∷ []) ≡ before ++ ((front ++ 32 ∷ word) ++ 10 ∷ [])
joined before front word =
    append_assoc (before ++ front) (32 ∷ []) (word ++ 10 ∷ [])
    ∙ append_assoc before front (32 ∷ (word ++ 10 ∷ []))
    ∙ ap (λ l. before ++ l) (sym (append_assoc front (32 ∷ word) (10 ∷ [])))

pub returns-clause-ok : goal.returns-clause-ok
returns-clause-ok c =
    let before = c.args.into.now.items in
    let front : List NamedKind → List ℕ = λ pairs. codes "thriftd: bind " ++ pair_at_text (slice_get pairs c.args.place) (option_map (λ name. name.now) c.args.default_service) in
    let word : c.as_bytes.result.now ≡ reason_word c.args.kind = c.as_bytes.ensures.value ∙ c.reason_word.ensures in
    let written : c.push.new.self.items ≡ (before ++ front c.args.pairs.now) ++ 32 ∷ [] =
    c.in_ok-push.ensures.items ∙ ap (λ l. l ++ 32 ∷ []) (c.in_ok-put_front.ensures.ok ∙ ap (λ pairs. before ++ front pairs) c.as_slice.ensures) in
    c.in_ok-line.ensures.ok
    ∙ ap (λ l. l ++ line_of c.as_bytes.result.now) written
    ∙ ap (λ w. ((before ++ front c.args.pairs.now) ++ 32 ∷ []) ++ line_of w) word
    ∙ joined before (front c.args.pairs.now) (reason_word c.args.kind)
