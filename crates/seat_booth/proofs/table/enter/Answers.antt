use Rattle.std.proofs.Common.{rules, ℕ, ◌+◌, ◌%◌, ◌^◌, Option, sym, subst}
use mathlib.Core.Option.{none}
use Rattle.atomic_table.specs.Table.{Me, Allows, step}
use Rattle.seat_booth.specs.Steps.{entered}
use Rattle.seat_booth.proofs.Moves.{Rule, enters}
use Rattle.seat_booth.proofs.table.enter.Goals as goal

pub fetch_add-requires : goal.fetch_add-requires
fetch_add-requires g c = let slots : ℕ = c.args.shared.now.table_id.slots in let id : ℕ = c.args.token.now.id in let r = c.requires.ready in (
  search rules,
  search rules,
  subst (λ (z : Me _ _ × Option _). Allows (Rule g.O.Object.meaning g.O.Object.gives g.O.Object.may (g.O.Object.meaning c.args.shared.now.key.object.value) c.args.shared.now.key.seats) slots id z.0 16 (λ n. (n + 1) % 2 ^ 64) (entered z.1 (step slots 16 1 0 none) z.0))
      (λ i. (sym r.now i, sym r.named i)) (enters _ _ _ _ _ slots id _ _ _ _ _ (search rules) r.bounded r.given r.stands r.seat r.allowed),
)
