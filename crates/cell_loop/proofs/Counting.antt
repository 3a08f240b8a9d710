-- How many connections of a play are open, and what their admitted sizes add up to, is what the table counts.
use Rattle.std.proofs.Common.{◌≡◌, ℕ, zero, suc, ◌+◌, ◌<◌, ◌≤◌, ◌⊎◌, Option, None, Some, List, [], ◌∷◌, length, slice_index_or, if◌then◌else◌, refl, sym, ap, ◌∙◌, inl, inr, IsSome, eq-eqb, ne_eqb, arith}
use Rattle.std.specs.List.{AllByRecursion}
use Rattle.std.proofs.lemmas.Bool.{cases_eq, cases_lt}
use Rattle.std.proofs.lemmas.Option.{none-some}
use Rattle.conn_table.specs.declared.places.Slot.{Slot}
use Rattle.conn_table.specs.Slots.{slot_in, HaveRisingNumbers}
use Rattle.conn_table.specs.Table.{slot_of, size_given, sizes_given}
use Rattle.conn_table.proofs.Sizing.{slot_is}
use Rattle.machine_model.specs.Loop.{LoopConn, count_if_open, open_among}
use Rattle.script_model.specs.Playing.{size_or_zero, all_admitted}
use Rattle.conn_refinement.specs.Weights.{weight_of}
use Rattle.conn_refinement.proofs.Counting.{counted, sizes_total, ones_total, open_summed}
use Rattle.cell_loop.specs.declared.loop_part.CellStage.{CellStage}
use Rattle.cell_loop.specs.declared.loop_part.CellStage.TheVariants.{Lean, Framed, Whole, Asked, Over}
use Rattle.cell_loop.specs.declared.loop_part.LoopPart.{LoopPart}
use Rattle.cell_loop.specs.Settings.{CellSetting, ServedPlay}
use Rattle.cell_loop.specs.LoopTied.{CellStageTells, IsLoopTied}

same_size : (size : Option ℕ) → size_or_zero size ≡ size_given size
same_size None = refl
same_size (Some size) = refl

module _ (s : CellSetting) (part : LoopPart) (play : ServedPlay) (tied : IsLoopTied s part play) (rising : HaveRisingNumbers part.table.slots) where
  abbrev Tells : ℕ → CellStage → Type 0
  Tells c stage = CellStageTells s.desk.max_frame part.table c (play.cell.loop.conns c) (play.admitted c) stage

  kept_weight : (w : Slot → ℕ) (c : ℕ) → IsSome (slot_in c part.table.slots) → weight_of w (slot_in c part.table.slots) ≡ w (slot_of c part.table.slots)
  kept_weight w c there = ap (weight_of w) (slot_is c part.table.slots there)

  size_told : (c : ℕ) (stage : CellStage) → Tells c stage → size_or_zero (play.admitted c) ≡ weight_of (λ (slot : Slot). size_given slot.size) (slot_in c part.table.slots)
  size_told c Lean t = ap size_or_zero t.2 ∙ sym (kept_weight (λ (slot : Slot). size_given slot.size) c t.0.there ∙ ap size_given t.1)
  size_told c Framed t = ap size_or_zero t.1.1 ∙ same_size (slot_of c part.table.slots).size ∙ sym (kept_weight (λ (slot : Slot). size_given slot.size) c t.0.there)
  size_told c Whole t = ap size_or_zero t.1.1 ∙ same_size (slot_of c part.table.slots).size ∙ sym (kept_weight (λ (slot : Slot). size_given slot.size) c t.0.there)
  size_told c Asked t = ap size_or_zero t.1.1 ∙ same_size (slot_of c part.table.slots).size ∙ sym (kept_weight (λ (slot : Slot). size_given slot.size) c t.0.there)
  size_told c (Over cause) t = ap size_or_zero t.1 ∙ sym (ap (weight_of (λ (slot : Slot). size_given slot.size)) t.0)

  open_told : (c : ℕ) (stage : CellStage) → Tells c stage → count_if_open (play.cell.loop.conns c).cause ≡ weight_of (λ slot. 1) (slot_in c part.table.slots)
  open_told c Lean t = ap count_if_open t.0.tied.going ∙ sym (kept_weight (λ slot. 1) c t.0.there)
  open_told c Framed t = ap count_if_open t.0.tied.going ∙ sym (kept_weight (λ slot. 1) c t.0.there)
  open_told c Whole t = ap count_if_open t.0.tied.going ∙ sym (kept_weight (λ slot. 1) c t.0.there)
  open_told c Asked t = ap count_if_open t.0.tied.going ∙ sym (kept_weight (λ slot. 1) c t.0.there)
  open_told c (Over cause) t = ap count_if_open t.2 ∙ sym (ap (weight_of (λ slot. 1)) t.0)

  known : play.cell.loop.count ≡ length part.stages.items
  known = tied.count

  within : (x : ℕ) → x < play.cell.loop.count → x < length part.stages.items
  within x l = let e : play.cell.loop.count ≡ length part.stages.items = known in omega arith

  beyond : (x : ℕ) → play.cell.loop.count ≤ x → slot_in x part.table.slots ≡ None
  beyond x l = let e : play.cell.loop.count ≡ length part.stages.items = known in (tied.unopened x (omega arith)).0

  pub sizes_summed : all_admitted play ≡ sizes_given part.table.slots
  sizes_summed =
      counted (λ (slot : Slot). size_given slot.size) part.table.slots (λ c. size_or_zero (play.admitted c)) play.cell.loop.count rising beyond
      (λ x l. size_told x (slice_index_or part.stages.items x Lean) (tied.stages x (within x l)))
      ∙ sizes_total part.table.slots

  pub open_counted : open_among play.cell.loop.conns play.cell.loop.count ≡ length part.table.slots
  open_counted =
      open_summed play.cell.loop.conns play.cell.loop.count
      ∙ counted (λ slot. 1) part.table.slots (λ c. count_if_open (play.cell.loop.conns c).cause) play.cell.loop.count rising beyond
      (λ x l. open_told x (slice_index_or part.stages.items x Lean) (tied.stages x (within x l)))
      ∙ ones_total part.table.slots
