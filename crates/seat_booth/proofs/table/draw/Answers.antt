use Rattle.std.proofs.Common.{rules, ℕ, ◌+◌, ◌%◌, ◌^◌, sym, subst}
use mathlib.Core.Option.{none}
use Rattle.atomic_table.specs.Table.{Allows, step}
use Rattle.seat_booth.specs.Steps.{drew}
use Rattle.seat_booth.proofs.Moves.{Rule, draws}
use Rattle.seat_booth.proofs.table.draw.Goals as goal

pub fetch_add-requires : goal.fetch_add-requires
fetch_add-requires g c = let slots : ℕ = c.args.shared.now.table_id.slots in let id : ℕ = c.args.token.now.id in (
  search rules,
  search rules,
  subst (λ m. Allows (Rule g.O.Object.meaning g.O.Object.gives g.O.Object.may (g.O.Object.meaning c.args.shared.now.key.object.value) c.args.shared.now.key.seats) slots id m 0 (λ n. (n + 1) % 2 ^ 64) (drew (step slots 0 1 0 none) m))
      (sym c.requires.stage) (draws _ _ _ _ _ slots id _ _),
)
