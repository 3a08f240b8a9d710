use Rattle.std.proofs.Common.{◌≡◌, ◌+◌, ◌*◌, map, drop}
use Rattle.std.specs.VecDeque.{deque_len}
use Rattle.thrift_value.specs.TreeOf.{tree_of, pair_tree}
use Rattle.schema.specs.PlainKind.{kind_of}
use Rattle.idl_include.specs.DeclaredIn.{value_in, items_in, entries_in}
use Rattle.check_model.specs.Evaluation.{items_by, pairs_by, given_by, struct_numbered}
use Rattle.idl_const.specs.FieldEntries.{entry_in, given_in_memory, AreGivenFor, entries_worth}
use Rattle.idl_const.specs.Given.{both_in}
use Rattle.idl_const.specs.Marks.{worth_where}
use Rattle.idl_const.proofs.InFront.{items_front, pairs_front, given_front, fields_front}
use Rattle.idl_const.proofs.walk.+walk.Given as goal

abbrev pub decreases-value : goal.decreases-value
decreases-value g l = 16 * l.levels + 7

abbrev pub decreases-named : goal.decreases-named
decreases-named g l = 16 * l.levels + 6

abbrev pub decreases-given : goal.decreases-given
decreases-given g l = 16 * l.levels + 5

abbrev pub decreases-entered : goal.decreases-entered
decreases-entered g l = 16 * l.levels + 4

abbrev pub decreases-unnamed : goal.decreases-unnamed
decreases-unnamed g l = 16 * l.levels + 3

abbrev pub decreases-bracketed : goal.decreases-bracketed
decreases-bracketed g l = 16 * l.levels + 2

abbrev pub decreases-braced : goal.decreases-braced
decreases-braced g l = 16 * l.levels + 2

abbrev pub decreases-mapped : goal.decreases-mapped
decreases-mapped g l = 16 * l.levels + 1

abbrev pub decreases-structured : goal.decreases-structured
decreases-structured g l = 16 * l.levels + 1

abbrev pub decreases-items : goal.decreases-items
decreases-items g l = 16 * l.levels + 8

abbrev pub decreases-pairs : goal.decreases-pairs
decreases-pairs g l = 16 * l.levels + 8

abbrev pub decreases-fields : goal.decreases-fields
decreases-fields g l = 16 * l.levels + 12

abbrev pub decreases-given_fields : goal.decreases-given_fields
decreases-given_fields g l = 16 * l.levels + 8

abbrev pub decreases-owed_fields : goal.decreases-owed_fields
decreases-owed_fields g l = 16 * l.levels + 10

abbrev pub decreases-entry_value : goal.decreases-entry_value
decreases-entry_value g l = 16 * l.levels + 9

-- what was made, in front of what the rest comes to, is what all comes to
abbrev pub invariant-items-loop-tree : goal.invariant-items-loop-tree
invariant-items-loop-tree g l = let s = g.G.Ground.setting l.ground in record {
  made : items_front (map tree_of l.made.items) (items_by s (worth_where s l.fn.work.free.items) l.file (kind_of l.kind) l.levels l.work.values (items_in (map value_in (drop l.tree-index l.trees))))
      ≡ items_by s (worth_where s l.fn.work.free.items) l.file (kind_of l.kind) l.levels l.fn.work.values (items_in (map value_in l.trees));
  free : l.work.free.items ≡ l.fn.work.free.items;
}

abbrev pub invariant-pairs-loop-first : goal.invariant-pairs-loop-first
invariant-pairs-loop-first g l = let s = g.G.Ground.setting l.ground in record {
  made : pairs_front (map pair_tree l.made.items) (pairs_by s (worth_where s l.fn.work.free.items) l.file (kind_of l.key) (kind_of l.held) l.levels l.work.values (entries_in (map both_in (drop l.first-index l.entries))))
      ≡ pairs_by s (worth_where s l.fn.work.free.items) l.file (kind_of l.key) (kind_of l.held) l.levels l.fn.work.values (entries_in (map both_in l.entries));
  free : l.work.free.items ≡ l.fn.work.free.items;
}

abbrev pub invariant-given_fields-loop-key : goal.invariant-given_fields-loop-key
invariant-given_fields-loop-key g l = let s = g.G.Ground.setting l.ground in let fields = (struct_numbered s.schema l.which).fields in record {
  made : given_front (map given_in_memory l.given.items) (given_by s (worth_where s l.fn.work.free.items) l.file fields l.levels l.work.values (entries_in (map both_in (drop l.key-index l.entries))))
      ≡ given_by s (worth_where s l.fn.work.free.items) l.file fields l.levels l.fn.work.values (entries_in (map both_in l.entries));
  known : AreGivenFor fields (map given_in_memory l.given.items);
  free : l.work.free.items ≡ l.fn.work.free.items;
}

abbrev pub invariant-owed_fields-loop-entry : goal.invariant-owed_fields-loop-entry
invariant-owed_fields-loop-entry g l = let s = g.G.Ground.setting l.ground in record {
  made : fields_front l.made.items (entries_worth (worth_where s l.fn.work.free.items) l.at l.levels l.work.values (map entry_in l.row.items))
      ≡ entries_worth (worth_where s l.fn.work.free.items) l.at l.levels l.fn.work.values (map entry_in l.fn.row.items);
  free : l.work.free.items ≡ l.fn.work.free.items;
}

abbrev pub decreases-owed_fields-loop-entry : goal.decreases-owed_fields-loop-entry
decreases-owed_fields-loop-entry g l = deque_len l.row
