use Rattle.std.proofs.Common.{◌≡◌, ◌++◌, ◌∷◌, [], ◌∙◌, ◌+◌, ◌<◌, ℕ, List, length, drop, get_or, ap, sym}
use Rattle.std.specs.List.{flat_map}
use Rattle.std.proofs.lemmas.List.{drop_more}
use Rattle.idl_printer.specs.Printed.{escape_of, literal_text}
use Rattle.idl_printer.proofs.Appends.{lined_through, put_behind}
use Rattle.idl_printer.proofs.value_printer.put_literal.Goals as goal

-- one byte further in a walk that puts each byte's text
byte_put : (line : ℕ → List ℕ) (xs : List ℕ) (i : ℕ) (old new whole : List ℕ) → i < length xs → new ≡ old ++ line (get_or xs i 0)
    → old ++ flat_map line (drop i xs) ≡ whole → new ++ flat_map line (drop (i + 1) xs) ≡ whole
byte_put line xs i old new whole low put kept =
    put_behind new old (line (get_or xs i 0)) (flat_map line (drop (i + 1) xs)) put ∙ ap (λ ys. old ++ flat_map line ys) (sym (drop_more xs i 0 low)) ∙ kept

pub loop-byte-preserved : goal.loop-byte-preserved
loop-byte-preserved c =
    byte_put escape_of c.args.bytes.now c.loop-byte.byte-index c.loop-byte.into.items c.put_byte.new.into.items _ c.loop-byte-test.true c.in_ok-put_byte.ensures c.loop-byte.invariant

pub returns : goal.returns
unfolding literal_text
returns c =
    let text = flat_map escape_of c.args.bytes.now in
    c.in_ok-push-2.ensures.items
    ∙ put_behind c.loop-byte.into.items c.push.new.self.items text (34 ∷ []) (lined_through escape_of c.args.bytes.now c.loop-byte.byte-index _ _ c.loop-byte-test.false c.loop-byte.invariant)
    ∙ put_behind c.push.new.self.items c.args.into.now.items (34 ∷ []) (text ++ 34 ∷ []) c.in_ok-push.ensures.items
