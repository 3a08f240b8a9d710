use Rattle.std.proofs.Common.{◌+◌, ◌*◌, map}
use Rattle.idl_parser.specs.Phrases.{pair}
use Rattle.idl_parser.specs.Starts.{value_starts}
use Rattle.idl_parser.specs.Constants.{list_item, map_entry, value_of}
use Rattle.idl_parser.specs.ReaderCalls.{most}
use Rattle.idl_parser.specs.Trees.{value_node, entry_node}
use Rattle.idl_parser.proofs.Rows.{SoFar}
use Rattle.idl_parser.proofs.reader.SymbolReader.+value_reader.Given as goal

abbrev pub invariant-list_items-row : goal.invariant-list_items-row
invariant-list_items-row l = SoFar most l._round pair (list_item (value_of l.levels)) value_starts l.fn.self l.self (map value_node l.all.items)

abbrev pub invariant-map_entries-row : goal.invariant-map_entries-row
invariant-map_entries-row l = SoFar most l._round pair (map_entry (value_of l.levels)) value_starts l.fn.self l.self (map entry_node l.all.items)

abbrev pub decreases-value : goal.decreases-value
decreases-value l = 10 * l.levels + 1

abbrev pub decreases-inner_value : goal.decreases-inner_value
decreases-inner_value l = 10 * l.levels

abbrev pub decreases-collection : goal.decreases-collection
decreases-collection l = 10 * l.levels + 9

abbrev pub decreases-list_value : goal.decreases-list_value
decreases-list_value l = 10 * l.levels + 6

abbrev pub decreases-list_items : goal.decreases-list_items
decreases-list_items l = 10 * l.levels + 5

abbrev pub decreases-list_item : goal.decreases-list_item
decreases-list_item l = 10 * l.levels + 4

abbrev pub decreases-map_value : goal.decreases-map_value
decreases-map_value l = 10 * l.levels + 8

abbrev pub decreases-map_entries : goal.decreases-map_entries
decreases-map_entries l = 10 * l.levels + 7

abbrev pub decreases-map_entry : goal.decreases-map_entry
decreases-map_entry l = 10 * l.levels + 6

abbrev pub decreases-entry_end : goal.decreases-entry_end
decreases-entry_end l = 10 * l.levels + 5
