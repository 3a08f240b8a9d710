-- The loop's part stays tied where a connection has ended, and is gone.
use Rattle.std.proofs.Common.{Vec, Global, ◌≡◌, ℕ, suc, ◌<◌, Option, None, Some, List, [], ◌∷◌, ◌++◌, length, slice_set, refl, sym, ap, subst, arith}
use Rattle.streams.specs.declared.marks.Mark.{Mark}
use Rattle.host_model.specs.declared.cause.EndCause.{EndCause}
use Rattle.conn_table.specs.Slots.{slot_in}
use Rattle.machine_model.specs.Loop.{LoopConn}
use Rattle.script_model.specs.ScriptLines.{PlanRule}
use Rattle.script_model.specs.Playing.{MemoryAt, ample, InputFinish}
use Rattle.cell_loop.specs.declared.feed.Feed.{Feed}
use Rattle.cell_loop.specs.declared.loop_part.CellStage.TheVariants.{Over}
use Rattle.cell_loop.specs.declared.loop_part.LoopPart.{LoopPart}
use Rattle.cell_loop.specs.Settings.{CellSetting, ServedPlay}
use Rattle.cell_loop.specs.Moving.{Doing, ComesTo}
use Rattle.cell_loop.specs.LoopTied.{IsLoopTied}
use Rattle.conn_refinement.specs.Tables.{IsSameBut}
use Rattle.cell_loop.specs.Closing.{HasStand}
use Rattle.cell_loop.proofs.Tying.{AreFeedsTied, HasChanged, changed_tied, stand_set}

-- one move that is the same however memory is
pub once : (doing : Doing) (old new : ServedPlay) → new.moves ≡ suc old.moves → ((passes enough : ℕ) (memory : ℕ → MemoryAt) → doing passes enough memory old ≡ Some new) → ComesTo doing old new
once doing old new counted does =
    let is_next : new.moves ≡ suc old.moves = counted in
    record { memories = ample ∷ []; counted = omega arith; fuel = 0; leads = λ passes enough memory p e so. does passes enough memory }

-- feeds that are the same are tied to the same
pub same_feeds : (old new : Vec Feed Global) (unread : ℕ → List (List ℕ)) (finish : ℕ → Option InputFinish) (rules : ℕ → List PlanRule) → new ≡ old
    → AreFeedsTied old.items unread finish rules → AreFeedsTied new.items unread finish rules
same_feeds old new unread finish rules e t = subst (λ (f : Vec Feed Global). AreFeedsTied f.items unread finish rules) (sym e) t

pub as_many_feeds : (old new : Vec Feed Global) → new ≡ old → length new.items ≡ length old.items
as_many_feeds old new e = ap (λ (f : Vec Feed Global). length f.items) e

pub over_tied : (s : CellSetting) (c : ℕ) (cause : EndCause) (old new : LoopPart) (play next : ServedPlay) (conn : LoopConn) (marks : List Mark) → IsLoopTied s old play
    → c < length old.stages.items → IsSameBut c old.table new.table → slot_in c new.table.slots ≡ None → new.stages.items ≡ slice_set old.stages.items c (Over cause)
    → new.tape.items ≡ old.tape.items ++ marks → conn.cause ≡ Some cause → HasChanged c conn None marks play next → length new.feeds.items ≡ length old.feeds.items
    → AreFeedsTied new.feeds.items next.unread next.finish next.rules → IsLoopTied s new next
over_tied s c cause old new play next conn marks t l table gone stages tape ended play_is count feeds =
    changed_tied s c old new play next conn None (Over cause) marks t l table
    (subst (λ xs. HasStand c (Over cause) old.stages.items xs) (sym stages) (stand_set old.stages.items c (Over cause) l)) tape play_is count feeds (gone, refl, ended)
