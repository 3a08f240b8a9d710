use Rattle.std.proofs.Common.{rules, ℕ, sym, subst}
use mathlib.Core.Option.{none}
use Rattle.atomic_table.specs.Table.{Allows, step}
use Rattle.seat_booth.specs.Steps.{looked}
use Rattle.seat_booth.proofs.Moves.{Rule, looks}
use Rattle.seat_booth.proofs.table.look.Goals as goal

pub load-found-requires : goal.load-found-requires
load-found-requires g c = let slots : ℕ = c.args.shared.now.table_id.slots in let id : ℕ = c.args.token.now.id in (
  search rules,
  search rules,
  subst (λ m. Allows (Rule g.O.Object.meaning g.O.Object.gives g.O.Object.may (g.O.Object.meaning c.args.shared.now.key.object.value) c.args.shared.now.key.seats) slots id m 16 (λ n. n) (looked g.O.Object.meaning g.O.Object.gives g.O.Object.may (step slots 16 0 0 none) m))
      (sym c.requires.stage) (looks _ _ _ _ _ slots id _ _ _ (search rules)),
)
