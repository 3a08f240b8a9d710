use Rattle.std.proofs.Common.{◌++◌, ◌∷◌, [], map, take, ap, refl, ◌∙◌}
use Rattle.std.specs.Str.{bytes_eq}
use Rattle.std.specs.List.{list_any}
use Rattle.idl_include.specs.Loading.{is_among}
use Rattle.idl_names.specs.Before.{name_marks}
use Rattle.idl_names.specs.NameSets.{has_name}
use Rattle.idl_names.proofs.Marked.{marked_next, name_seen_next}
use Rattle.idl_names.proofs.Walked.{walk_end}
use Rattle.idl_names.proofs.marks.repeated_names.Goals as goal

pub loop-item-init : goal.loop-item-init
loop-item-init g c =
    record {
      marked = ap (λ marks. marks ++ name_marks [] (map g.D.Named.text c.args.items.now)) c.new-marks.ensures.items;
      seen = λ other. ap (list_any (λ key. bytes_eq key.now other)) c.new-seen.ensures.empty;
    }

pub loop-item-preserved : goal.loop-item-preserved
loop-item-preserved g c =
    let text = g.D.Named.text in
    let invariant = c.loop-item.invariant in
    let own = c.name_bytes.ensures in
    record {
      marked = marked_next name_marks (λ before name. is_among name before) (λ _ _ _. refl) text c.args.items.now c.loop-item.item-index c.item-item.result
          c.loop-item.marks.items c.put_name_mark.new.marks.items c.loop-item-test.true c.item-item.is
          (c.in_ok-put_name_mark.ensures.marked ∙ ap (λ was. c.loop-item.marks.items ++ was ∷ []) (ap (has_name c.loop-item.seen) own ∙ invariant.seen (text c.item-item.result))) invariant.marked;
      seen = name_seen_next text c.args.items.now c.loop-item.item-index c.item-item.result c.name_bytes.result.now c.loop-item.seen c.put_name_mark.new.seen
          c.loop-item-test.true c.item-item.is own c.in_ok-put_name_mark.ensures.after invariant.seen;
    }

pub returns : goal.returns
returns g c =
    let text = g.D.Named.text in
    let items = c.args.items.now in
    let at = c.loop-item.item-index in
    walk_end (λ left. name_marks (map text (take at items)) (map text left)) items at c.loop-item.marks.items _ c.loop-item-test.false refl c.loop-item.invariant.marked
