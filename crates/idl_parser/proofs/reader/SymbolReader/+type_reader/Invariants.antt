use Rattle.std.proofs.Common.{◌+◌, ◌*◌}
use Rattle.idl_parser.proofs.reader.SymbolReader.+type_reader.Given as goal

abbrev pub decreases-type_tree : goal.decreases-type_tree
decreases-type_tree l = 8 * l.levels + 4

abbrev pub decreases-bare_type : goal.decreases-bare_type
decreases-bare_type l = 8 * l.levels + 3

abbrev pub decreases-inner_type : goal.decreases-inner_type
decreases-inner_type l = 8 * l.levels + 2

abbrev pub decreases-container : goal.decreases-container
decreases-container l = 8 * l.levels + 9

abbrev pub decreases-list_type : goal.decreases-list_type
decreases-list_type l = 8 * l.levels + 8

abbrev pub decreases-map_type : goal.decreases-map_type
decreases-map_type l = 8 * l.levels + 8

abbrev pub decreases-set_type : goal.decreases-set_type
decreases-set_type l = 8 * l.levels + 8

abbrev pub decreases-type_before : goal.decreases-type_before
decreases-type_before l = 8 * l.levels + 5

abbrev pub decreases-map_end : goal.decreases-map_end
decreases-map_end l = 8 * l.levels + 6
