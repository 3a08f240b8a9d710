use Rattle.std.proofs.Common.{subst, ℕ, List}
use Rattle.text_out.specs.Hex.{hex_of}
use Rattle.value_text.specs.Handing.{HandsText}
use Rattle.value_text.proofs.spelling.spell_wide.Goals as goal

pub returns : goal.returns
returns g c =
    subst
    (λ (bytes : List ℕ). HandsText (g.K.Sink.taken c.args.out.now) (g.K.Sink.taken c.spell_hex.new.out) (g.K.Sink.faults c.args.out.now) (g.K.Sink.faults c.spell_hex.new.out) (hex_of bytes) c.spell_hex.result)
    c.to_be_bytes.ensures c.spell_hex.ensures
