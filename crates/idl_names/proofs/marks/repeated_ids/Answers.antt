use Rattle.std.proofs.Common.{◌≡◌, ◌++◌, ◌∷◌, [], pos, get_or, take, ap, refl, ◌∙◌}
use Rattle.std.specs.Ordering.{int_eq}
use Rattle.std.specs.List.{list_any}
use Rattle.idl_names.specs.Before.{id_marks}
use Rattle.idl_names.proofs.Marked.{there_either_way, id_marked_next, has_next}
use Rattle.idl_names.proofs.Walked.{walk_end}
use Rattle.idl_names.proofs.marks.repeated_ids.Goals as goal

pub loop-id-init : goal.loop-id-init
loop-id-init c =
    record {
      marked = ap (λ marks. marks ++ id_marks [] c.args.ids.now) c.new-marks.ensures.items;
      seen = λ other. ap (list_any (int_eq other)) c.new-seen.ensures.empty;
    }

pub loop-id-preserved : goal.loop-id-preserved
loop-id-preserved c =
    let ids = c.args.ids.now in
    let at = c.loop-id.id-index in
    let id = get_or ids at (pos 0) in
    let here : id ≡ get_or ids at id = there_either_way ids at (pos 0) id c.loop-id-test.true in
    let invariant = c.loop-id.invariant in
    let after = c.in_ok-put_id_mark.ensures in
    record {
      marked = id_marked_next ids at id c.loop-id.marks.items c.put_id_mark.new.marks.items c.loop-id-test.true here
          (after.marked ∙ ap (λ was. c.loop-id.marks.items ++ was ∷ []) (invariant.seen id)) invariant.marked;
      seen = has_next ids at id c.loop-id.seen c.put_id_mark.new.seen c.loop-id-test.true here after.after invariant.seen;
    }

pub returns : goal.returns
returns c =
    let ids = c.args.ids.now in
    let at = c.loop-id.id-index in
    walk_end (id_marks (take at ids)) ids at c.loop-id.marks.items _ c.loop-id-test.false refl c.loop-id.invariant.marked
