-- What spots in memory show.
use Rattle.std.specs.Prelude.{List, map}
use Rattle.idl_include.specs.DeclaredIn.{name_in, type_in, value_in, field_in, function_in, enum_value_in}
use Rattle.idl_include.specs.Numbering.{Filed, Counts}
use Rattle.idl_include.specs.Spots.{GivenValue, Spotted, given_name, type_use, parent_use, typedef_spot, field_spot, thrown_spot, enum_value_spot, struct_spot, service_spot, function_spot, value_spot, Spot}
use Rattle.idl_names.specs.declared.spot.GivenTree.{GivenTree}
use Rattle.idl_names.specs.declared.spot.ShownIn.{ShownIn}
use Rattle.idl_names.specs.declared.spot.ShownIn.TheVariants as shows
use Rattle.idl_names.specs.declared.spot.SpotIn.{SpotIn}
use Rattle.idl_names.specs.declared.counts.DefinitionCounts.{DefinitionCounts}
use Rattle.idl_names.specs.FiledIn.{struct_declared}
use Rattle.idl_names.specs.Before.{names_before}

-- a value that a program gives
abbrev pub given_value_in : GivenTree → GivenValue
given_value_in g = record { owner = g.owner; type = type_in g.kind.now; tree = value_in g.tree.now }

-- a given value, with the number of its file
abbrev pub filed_value : GivenTree → Filed GivenValue
filed_value g = record { file = g.file; item = given_value_in g }

-- what is shown at a spot
abbrev pub shown_in : ShownIn → Spotted
shown_in (shows.Given given) = given_name (names_before given.before) (name_in given.name.now)
shown_in (shows.TypeUse name) = type_use (name_in name.now)
shown_in (shows.ParentUse name) = parent_use (name_in name.now)
shown_in (shows.Typedef number name) = typedef_spot number (name_in name.now)
shown_in (shows.Field f) = field_spot (map field_in f.before.now) (field_in f.field.now)
shown_in (shows.Thrown field) = thrown_spot (field_in field.now)
shown_in (shows.EnumValue v) = enum_value_spot (map enum_value_in v.before.now) (enum_value_in v.value.now)
shown_in (shows.Struct number s) = struct_spot number (struct_declared s.now)
shown_in (shows.Service number name) = service_spot number (name_in name.now)
shown_in (shows.Function f) = function_spot f.service (map function_in f.before.now) (function_in f.function.now)
shown_in (shows.Value v) = value_spot (given_value_in v)

-- a spot
abbrev pub spot_in : SpotIn → Spot
spot_in s = record { file = s.file; shows = shown_in s.shown }

-- spots in order
abbrev pub spots_in : List SpotIn → List Spot
spots_in = map spot_in

-- how many definitions of each kind there are
abbrev pub counts_in : DefinitionCounts → Counts
counts_in n = record { aliases = n.aliases; constants = n.constants; enums = n.enums; structs = n.structs; services = n.services }
