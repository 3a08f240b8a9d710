use Rattle.std.proofs.Common.{◌≡◌, ℕ, List, ◌==◌, take}
use Rattle.std.specs.Prelude.{◌&&◌}
use Rattle.std.specs.List.{position_from}
use Rattle.std.specs.Str.{bytes_eq}
use Rattle.idl_names.specs.NameMaps.{number_in_file}
use Rattle.idl_names.proofs.name_maps.name_maps.Given as goal

abbrev pub invariant-loop-number : goal.invariant-loop-number
invariant-loop-number g l = (file : ℕ) (name : List ℕ) → number_in_file l.maps.items file name
    ≡ position_from (λ x. (x.file == file) && bytes_eq (g.D.Named.text x.item.now) name) 0 (take l.number l.items)
