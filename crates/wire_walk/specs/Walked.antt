-- A walk: what is read at each level, and a walk that has come so far, with what was read in front of what reading gives from
-- there.
use Rattle.std.specs.Prelude.{ℕ, zero, suc, List, [], ◌∷◌, Result, Ok, Err}
use Rattle.thrift_value.specs.declared.tag.Tag.{Tag}
use Rattle.thrift_value.specs.declared.wire_fault.WireFault.{WireFault}
use Rattle.thrift_value.specs.declared.wire_fault.WireFault.TheVariants.{TooDeep}
use Rattle.thrift_value.specs.Tree.{Tree, ItemTrees}
use Rattle.wire_model.specs.Decoder.{Unread, Decoder, ◌>>=◌, give, fail}
use Rattle.wire_model.specs.Reading.{deeper, item_list, parts, value}
use Rattle.wire_model.specs.Wire.{Wire}

-- how the values below a level are read, if one more may be opened
unfoldable pub read_below : Wire → ℕ → Tag → Decoder Tree
read_below wire zero tag = fail TooDeep
read_below wire (suc levels) tag = value wire levels tag

-- what a value of a tag holds, once it is counted
abbrev pub held : Wire → ℕ → Tag → Decoder Tree
held wire levels tag = parts wire levels (read_below wire levels) tag

-- what a set and a list hold alike: the tag of the elements, and the elements
unfoldable pub elements : Wire → ℕ → Decoder (Tag × ItemTrees)
elements wire levels = do
  level ← deeper levels
  found ← wire.items
  items ← item_list (read_below wire levels) found.0 found.1
  give (found.0, items)

-- elements in front of more of them
abbrev pub prepended : {E T : Type 0} → (E → T → T) → List E → T → T
prepended cons [] more = more
prepended cons (x ∷ xs) more = cons x (prepended cons xs more)

-- elements in front of what is read
abbrev pub in_front : {E T : Type 0} → (E → T → T) → List E → Result (T × Unread) WireFault → Result (T × Unread) WireFault
in_front cons xs (Ok read) = Ok (prepended cons xs read.0, read.1)
in_front cons xs (Err fault) = Err fault
