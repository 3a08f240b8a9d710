use Rattle.std.proofs.Common.{Vec, Global, ◌≡◌, ◌++◌, ◌<◌, ◌≤◌, length, take, slice_index_or, ap, ◌∙◌, refl, arith}
use Rattle.std.specs.Vec.{vec_capacity}
use Rattle.streams.specs.Rows.{TapeView}
use Rattle.cell_loop.specs.declared.loop_part.CellStage.{CellStage}
use Rattle.cell_loop.specs.declared.loop_part.CellStage.TheVariants.{Lean}
use Rattle.cell_loop.specs.Closing.{end_told}
use Rattle.cell_loop.proofs.Telling.{ends_of, told_more, told_fits, all_told}
use Rattle.cell_loop.proofs.loop_part.LoopPart.tell_ends.Goals as goal

pub loop-c-init : goal.loop-c-init
loop-c-init c = (c.requires.none_yet, refl, refl, refl)

pub tell_end-requires : goal.tell_end-requires
tell_end-requires c =
    let same : length c.loop-c.self.stages.items ≡ length c.args.self.now.stages.items = ap (λ (v : Vec CellStage Global). length v.items) c.loop-c.invariant.3 in
    let below : c.loop-c.c < length c.args.self.now.stages.items = omega (arith, c.args.self.now.stages.ok.0) in
    let told : length c.loop-c.self.ends.items ≡ length (ends_of (take c.loop-c.c c.args.self.now.stages.items)) = ap length c.loop-c.invariant.0 in
    let few : length (ends_of (take c.loop-c.c c.args.self.now.stages.items)) ≤ c.loop-c.c = told_fits c.args.self.now.stages.items c.loop-c.c (omega arith) in
    let wide : vec_capacity c.loop-c.self.ends ≡ vec_capacity c.args.self.now.ends = c.loop-c.invariant.1 in
    let room : length c.args.self.now.stages.items ≤ vec_capacity c.args.self.now.ends = c.requires.room in
    record { known = omega arith; room = omega arith }

pub loop-c-preserved : goal.loop-c-preserved
loop-c-preserved c =
    let below : c.loop-c.c < length c.args.self.now.stages.items = omega (arith, c.args.self.now.stages.ok.0) in (
      c.tell_end.ensures.ends ∙ (λ i. c.loop-c.invariant.0 i ++ end_told (slice_index_or (c.loop-c.invariant.3 i).items c.loop-c.c Lean))
          ∙ told_more c.args.self.now.stages.items c.loop-c.c below,
      c.tell_end.ensures.capacity ∙ c.loop-c.invariant.1,
      c.tell_end.ensures.tape ∙ c.loop-c.invariant.2,
      c.tell_end.ensures.stages ∙ c.loop-c.invariant.3,
    )

pub returns : goal.returns
returns c =
    let all : c.loop-c.c ≡ length c.args.self.now.stages.items = omega (arith, c.args.self.now.stages.ok.0) in
    record {
      ends = λ causes over. c.loop-c.invariant.0 ∙ all_told c.args.self.now causes c.loop-c.c all over;
      tape = ap (λ (v : TapeView). v.items) c.loop-c.invariant.2;
      stages = c.loop-c.invariant.3;
    }
