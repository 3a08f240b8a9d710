use Rattle.std.proofs.Common.{ℕ, zero, suc, ◌≤◌, pos, [], ◌∷◌, List, refl, inl, inr, arith}
use Rattle.streams.specs.declared.marks.Mark.{Mark}
use Rattle.streams.specs.declared.marks.Mark.TheVariants.{Opened, Read}
use Rattle.host_model.specs.TinyDesk.{size_of_one}
use Rattle.host_model.proofs.Framing.{rest_size}
use Rattle.machine_model.specs.AtFronts.{size_in, AreSizesBehind}
use Rattle.script_model.proofs.examples.a_front_over_the_budget.Goals as goal

-- two sizes of one byte
abbrev two_ones : ℕ → ℕ
two_ones zero = 1
two_ones (suc zero) = 1
two_ones (suc (suc c)) = 0

abbrev two_sizes : List Mark
two_sizes = Opened 0 ∷ Opened 1 ∷ Read 0 size_of_one ∷ Read 1 size_of_one ∷ []

each : AreSizesBehind 1 size_in two_sizes two_ones
each zero = inr (record { is_open = omega arith; payloads = []; rest = size_of_one; frames = record { whole = refl; each = tt; no_more = rest_size 1 (pos 1) }; same = refl })
each (suc zero) = inr (record { is_open = omega arith; payloads = []; rest = size_of_one; frames = record { whole = refl; each = tt; no_more = rest_size 1 (pos 1) }; same = refl })
each (suc (suc c)) = inl refl

within : (c : ℕ) → two_ones c ≤ 1
within zero = omega arith
within (suc zero) = omega arith
within (suc (suc c)) = omega arith

pub returns : goal.returns
returns c = record { sizes = two_ones; count = 2; each = each; within = within; more = omega arith }
