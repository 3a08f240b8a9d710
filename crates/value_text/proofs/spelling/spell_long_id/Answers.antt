use Rattle.std.proofs.Common.{◌≡◌, [], ◌∷◌, ap, rules, codes, FitsSigned, to_z, of_z}
use Rattle.std.specs.Int.{w64}
use Rattle.std.proofs.lemmas.Int.{to_z-of_z}
use Rattle.value_text.specs.ValueText.{number_and_letter}
use Rattle.value_text.proofs.Handed.{goes_on, breaks, hands_same}
use Rattle.value_text.proofs.spelling.spell_long_id.Goals as goal

pub returns-in_err-hand_over : goal.returns-in_err-hand_over
returns-in_err-hand_over g c =
    breaks (g.K.Sink.taken c.args.out.now) (g.K.Sink.taken c.hand_over.new.out) (g.K.Sink.faults c.args.out.now) (g.K.Sink.faults c.hand_over.new.out) (c.args.mark ∷ []) (number_and_letter c.args.number (codes "=")) c.from_residual.result c.from_residual.ensures.0 (c.in_err-hand_over.ensures {u = tt})

pub returns : goal.returns
returns g c =
    let fits : FitsSigned w64 c.args.number = search rules in
    let same : to_z w64 (of_z w64 c.args.number) ≡ c.args.number = to_z-of_z w64 c.args.number fits in
    hands_same (g.K.Sink.taken c.args.out.now) (g.K.Sink.taken c.spell_digits.new.out) (g.K.Sink.faults c.args.out.now) (g.K.Sink.faults c.spell_digits.new.out) (c.args.mark ∷ number_and_letter (to_z w64 (of_z w64 c.args.number)) (codes "=")) (c.args.mark ∷ number_and_letter c.args.number (codes "=")) c.spell_digits.result
    (ap (λ n. c.args.mark ∷ number_and_letter n (codes "=")) same)
    (goes_on (g.K.Sink.taken c.args.out.now) (g.K.Sink.taken c.hand_over.new.out) (g.K.Sink.taken c.spell_digits.new.out) (g.K.Sink.faults c.args.out.now) (g.K.Sink.faults c.hand_over.new.out) (g.K.Sink.faults c.spell_digits.new.out) (c.args.mark ∷ []) (number_and_letter (to_z w64 (of_z w64 c.args.number)) (codes "=")) c.spell_digits.result
    (c.in_ok-hand_over.ensures {u = tt})
    (c.spell_digits.ensures))
