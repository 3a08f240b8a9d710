-- Spellings: which bytes stand for a value.
use Rattle.std.specs.Prelude.{◌≡◌, ℕ, ℤ, pos, Bool, List, [], ◌++◌, ◌⊎◌}
use Rattle.thrift_value.specs.declared.tag.Tag.{Tag}
use Rattle.thrift_value.specs.declared.wire_fault.WireFault.{WireFault}
use Rattle.thrift_value.specs.Sizes.{items_len, pairs_len}
use Rattle.thrift_value.specs.Tree.{Tree, of_bool, of_bytes, of_struct, of_map, of_set, of_list, FieldTrees, no_fields, field, ItemTrees, no_items, item, PairTrees, no_pairs, pair}
use Rattle.thrift_value.specs.Tags.{tag_of}
use Rattle.wire_model.specs.Wire.{FieldHeader, stop, typed, flagged}

-- The first faults of what a protocol has by itself: which bytes, of all that are left, have which first fault, at the header
-- behind the field `last`; a number or bool of a tag; a text; the header of a list or set, and of a map. It is said of the bytes
-- alone, by cases on the fault.
pub record FaultTable : Type 1 where
  pub field : ℤ → WireFault → List ℕ → Type 0
  pub scalar : Tag → WireFault → List ℕ → Type 0
  pub span : WireFault → List ℕ → Type 0
  pub items : WireFault → List ℕ → Type 0
  pub pairs : WireFault → List ℕ → Type 0

-- The spellings of what a protocol has by itself: which bytes are a header behind the field `last`; a number or bool; a
-- text with its length; the header of a list or set, and of a map, with its number of elements. Each says which numbers
-- may stand there; beside them the first faults. Own choice: the header of an empty container has the tag bool, whatever its bytes are.
pub record Format : Type 1 where
  pub header : ℤ → FieldHeader → List ℕ → Type 0
  pub scalar : Tree → List ℕ → Type 0
  pub span : List ℕ → List ℕ → Type 0
  pub items : Tag → ℕ → List ℕ → Type 0
  pub pairs : Tag → Tag → ℕ → List ℕ → Type 0
  pub faults : FaultTable

-- a text in two parts, the one behind the other
pub record TwoParts (First Second : List ℕ → Type 0) (text : List ℕ) : Type 0 where
  pub front : List ℕ
  pub back : List ℕ
  pub whole : text ≡ front ++ back
  pub first : First front
  pub second : Second back

-- the text is a header that has the value of a bool field, behind which nothing follows
pub record IsFlagged (format : Format) (last id : ℤ) (x : Tree) (text : List ℕ) : Type 0 where
  pub flag : Bool
  pub is_bool : x ≡ of_bool flag
  pub header : format.header last (flagged id flag) text

-- the text is a field behind the field `last`: its header and its value, or a header that has the value
abbrev pub IsField : Format → ℤ → ℤ → Tree → (List ℕ → Type 0) → List ℕ → Type 0
IsField format last id x Value text = TwoParts (format.header last (typed id (tag_of x))) Value text ⊎ IsFlagged format last id x text

abbrev mutual
  -- the bytes spell the value (Thrift binary and compact protocol, 'Struct', 'List and Set', 'Map')
  pub Spells : Format → Tree → List ℕ → Type 0
  Spells format (of_bytes bytes) text = format.span bytes text
  Spells format (of_struct fields) text = SpellsFields format (pos 0) fields text
  Spells format (of_map key value pairs) text =
      TwoParts (format.pairs key value (pairs_len pairs)) (λ t. SpellsPairs format key value pairs t) text
  Spells format (of_set element items) text =
      TwoParts (format.items element (items_len items)) (λ t. SpellsItems format element items t) text
  Spells format (of_list element items) text =
      TwoParts (format.items element (items_len items)) (λ t. SpellsItems format element items t) text
  Spells format x text = format.scalar x text

  -- the bytes spell the fields behind the field `last`, and the end of their struct
  pub SpellsFields : Format → ℤ → FieldTrees → List ℕ → Type 0
  SpellsFields format last no_fields text = format.header last stop text
  SpellsFields format last (field id x more) text =
      TwoParts (IsField format last id x (λ t. Spells format x t)) (λ t. SpellsFields format id more t) text

  -- the bytes spell the items, each of this tag
  pub SpellsItems : Format → Tag → ItemTrees → List ℕ → Type 0
  SpellsItems format element no_items text = text ≡ []
  SpellsItems format element (item x more) text =
      (tag_of x ≡ element) × TwoParts (λ t. Spells format x t) (λ t. SpellsItems format element more t) text

  -- the bytes spell the pairs, each key and each value of its tag
  pub SpellsPairs : Format → Tag → Tag → PairTrees → List ℕ → Type 0
  SpellsPairs format key value no_pairs text = text ≡ []
  SpellsPairs format key value (pair k x more) text =
      (tag_of k ≡ key) × (tag_of x ≡ value) × TwoParts (λ t. Spells format k t)
      (TwoParts (λ t. Spells format x t) (λ t. SpellsPairs format key value more t)) text
