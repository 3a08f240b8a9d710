use Rattle.std.proofs.Common.{Result, Ok, Err, OnErr}
use Rattle.cell_loop.proofs.Becoming.{refed_tied}
use Rattle.cell_loop.proofs.loop_part.LoopPart.read.Goals as goal

-- what holds anyway holds of an error
on_err : {A E : Type 0} (result : Result A E) (P : Type 0) → P → OnErr result P
on_err (Ok x) P p = tt
on_err (Err e) P p = p

pub returns-in_err-read_piece-clause-err : goal.returns-in_err-read_piece-clause-err
returns-in_err-read_piece-clause-err c =
    on_err c.from_residual.result _
    (λ s play t. c.in_err-read_piece.ensures.err s play
    (refed_tied s c.args.c c.args.self.now c.begin_piece.new.self play t c.begin_piece.ensures.table c.begin_piece.ensures.tape c.begin_piece.ensures.stages c.begin_piece.ensures.fed))

pub returns-clause-moved : goal.returns-clause-moved
returns-clause-moved c = λ s play w t.
    c.read_behind.ensures.moved s play tt
    (refed_tied s c.args.c c.args.self.now c.begin_piece.new.self play t c.begin_piece.ensures.table c.begin_piece.ensures.tape c.begin_piece.ensures.stages c.begin_piece.ensures.fed)
