-- The numbers that are shown along the spots of a program: of typedefs, of structs with unions and exceptions, and of services.
use Rattle.std.specs.Prelude.{ℕ, List, Option, Some, None}
use Rattle.std.specs.List.{filter_map}
use Rattle.idl_include.specs.Spots.{Spotted, typedef_spot, struct_spot, service_spot, Spot}

-- the number of a typedef, if one is shown
abbrev pub typedef_shown : Spotted → Option ℕ
typedef_shown (typedef_spot number name) = Some number
typedef_shown _ = None

-- the number of a struct, union or exception, if one is shown
abbrev pub struct_shown : Spotted → Option ℕ
struct_shown (struct_spot number s) = Some number
struct_shown _ = None

-- the number of a service, if one is shown
abbrev pub service_shown : Spotted → Option ℕ
service_shown (service_spot number name) = Some number
service_shown _ = None

-- the numbers that are shown at spots, in order
abbrev pub numbers_shown : (Spotted → Option ℕ) → List Spot → List ℕ
numbers_shown shown spots = filter_map (λ (s : Spot). shown s.shows) spots
