use Rattle.std.proofs.Common.{Some}
use Rattle.idl_const.proofs.FieldPlaces.{got}
use Rattle.const_evaluator.specs.Places.{number_at_place}
use Rattle.const_evaluator.proofs.Tabled.{structs_next, right_next}
use Rattle.const_evaluator.proofs.struct_tables.struct_tables.Goals as goal

pub loop-number-preserved : goal.loop-number-preserved
loop-number-preserved c = record {
  structs =
      structs_next (number_at_place c.args.places.now) c.args.lists.now c.args.structs.now c.loop-number.number c.index-structs-number.result c.in_ok-table.table
      c.loop-number.tables.items c.push.new.self.items c.loop-number-test.true c.index-structs-number.is c.in_ok-push.ensures.items c.in_ok-table.ensures.desc
      c.loop-number.invariant.structs;
  right =
      right_next (number_at_place c.args.places.now) c.args.lists.now c.args.structs.now c.loop-number.number c.in-Some.list.now c.in_ok-table.table c.loop-number.tables.items
      c.push.new.self.items c.loop-number-test.true (got c.args.lists.now c.loop-number.number (Some c.in-Some.list) c.in-Some.ensures.lookup) c.in_ok-push.ensures.items
      c.in_ok-table.ensures.right c.loop-number.invariant.structs c.loop-number.invariant.right;
}
