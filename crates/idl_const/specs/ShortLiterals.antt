-- Literals whose lengths have an encoding.
use Rattle.std.specs.Prelude.{◌≡◌, ⊤, ◌<◌, ◌^◌, ℕ, length, slice_get, Some}
use Rattle.idl_include.specs.ConstExpr.{ConstExpr, literal_const, list_const, map_const, ConstItems, no_consts, const_item, ConstEntries, no_entries, const_entry}
use Rattle.idl_include.specs.Numbering.{Filed}
use Rattle.idl_include.specs.Program.{Program}
use Rattle.idl_include.specs.Spots.{GivenValue, values_of}

abbrev mutual
  -- each literal in a value has fewer than 2^31 bytes
  pub HasShortLiterals : ConstExpr → Type 0
  HasShortLiterals (literal_const literal) = length literal.text < 2 ^ 31
  HasShortLiterals (list_const at items) = HaveItemsShortLiterals items
  HasShortLiterals (map_const at entries) = HaveEntriesShortLiterals entries
  HasShortLiterals _ = ⊤

  -- the same of the values of a list
  pub HaveItemsShortLiterals : ConstItems → Type 0
  HaveItemsShortLiterals no_consts = ⊤
  HaveItemsShortLiterals (const_item x more) = HasShortLiterals x × HaveItemsShortLiterals more

  -- the same of keys with their values
  pub HaveEntriesShortLiterals : ConstEntries → Type 0
  HaveEntriesShortLiterals no_entries = ⊤
  HaveEntriesShortLiterals (const_entry key value more) = HasShortLiterals key × HasShortLiterals value × HaveEntriesShortLiterals more

-- the same of each value that a program gives
abbrev pub GivesShortLiterals : Program → Type 0
GivesShortLiterals program = (which : ℕ) (v : Filed GivenValue) → slice_get (values_of program) which ≡ Some v → HasShortLiterals v.item.tree
