-- Reading a value, opened one layer.
use Rattle.std.proofs.Common.{◌≡◌, ℕ, zero, suc, pos, length, Result, Ok, Err, refl, sym, ap, ◌∙◌}
use Rattle.std.specs.Prelude.{⊤}
use Rattle.thrift_value.specs.declared.tag.Tag.{Tag}
use Rattle.thrift_value.specs.declared.tag.Tag.TheVariants as tags
use Rattle.thrift_value.specs.declared.wire_fault.WireFault.{WireFault}
use Rattle.thrift_value.specs.declared.wire_fault.WireFault.TheVariants.{TooDeep}
use Rattle.thrift_value.specs.Tree.{Tree, ItemTrees, of_bytes, of_struct, of_map, of_set, of_list}
use Rattle.wire_model.specs.Answering.{FaultsOrNoMemory}
use Rattle.wire_model.specs.Decoder.{Unread, Decoder, go_on, give, count_value}
use Rattle.wire_model.specs.Reading.{layer, parts, value, field_list, item_list, pair_list}
use Rattle.wire_model.specs.Wire.{Wire}
use Rattle.wire_walk.specs.Walked.{read_below, held, elements}
use Rattle.wire_walk.proofs.Faults.{fails_on, fails_same, on_ok}

-- a value is the layer over the values below it
value_is : (wire : Wire) (levels : ℕ) (tag : Tag) (rest : Unread) → value wire levels tag rest ≡ layer wire levels (read_below wire levels) tag rest
unfolding value read_below
value_is wire zero tag rest = refl
value_is wire (suc levels) tag rest = refl

-- the value isn't counted
layer_not_counted : (wire : Wire) (levels : ℕ) (tag : Tag) (rest : Unread) (fault : WireFault) → FaultsOrNoMemory fault (count_value rest)
    → FaultsOrNoMemory fault (layer wire levels (read_below wire levels) tag rest)
unfolding layer
layer_not_counted wire levels tag rest fault h = fails_on fault (count_value rest) (λ (_ : ⊤). parts wire levels (read_below wire levels) tag) h

pub not_counted : (wire : Wire) (levels : ℕ) (tag : Tag) (rest : Unread) (fault : WireFault) → FaultsOrNoMemory fault (count_value rest)
    → FaultsOrNoMemory fault (value wire levels tag rest)
not_counted wire levels tag rest fault h = fails_same fault _ _ (sym (value_is wire levels tag rest)) (layer_not_counted wire levels tag rest fault h)

-- once it is counted
layer_counted : (wire : Wire) (levels : ℕ) (tag : Tag) (rest behind : Unread) → count_value rest ≡ Ok (tt, behind)
    → layer wire levels (read_below wire levels) tag rest ≡ parts wire levels (read_below wire levels) tag behind
unfolding layer
layer_counted wire levels tag rest behind one = on_ok (count_value rest) (λ (_ : ⊤). parts wire levels (read_below wire levels) tag) tt behind one

pub counted : (wire : Wire) (levels : ℕ) (tag : Tag) (rest behind : Unread) → count_value rest ≡ Ok (tt, behind)
    → value wire levels tag rest ≡ parts wire levels (read_below wire levels) tag behind
counted wire levels tag rest behind one = value_is wire levels tag rest ∙ layer_counted wire levels tag rest behind one

-- a text
pub bytes_is : (wire : Wire) (levels : ℕ) (tag : Tag) (rest behind : Unread) → count_value rest ≡ Ok (tt, behind) → tag ≡ tags.Bytes
    → value wire levels tag rest ≡ go_on (wire.span behind) (λ text. give (of_bytes text))
unfolding parts
bytes_is wire levels tag rest behind one is =
    counted wire levels tag rest behind one ∙ ap (λ t. parts wire levels (read_below wire levels) t behind) is

-- a struct
pub struct_is : (wire : Wire) (levels n : ℕ) (tag : Tag) (rest behind : Unread) → count_value rest ≡ Ok (tt, behind) → tag ≡ tags.Struct → levels ≡ suc n
    → value wire levels tag rest
    ≡ go_on (field_list wire (value wire n) (length behind.bytes) (pos 0) behind) (λ fields. give (of_struct fields))
unfolding parts read_below
struct_is wire levels n tag rest behind one is deep =
    counted wire levels tag rest behind one ∙ (λ i. parts wire (deep i) (read_below wire (deep i)) (is i) behind)

-- a map
pub map_is : (wire : Wire) (levels n : ℕ) (tag : Tag) (rest behind : Unread) → count_value rest ≡ Ok (tt, behind) → tag ≡ tags.Map → levels ≡ suc n
    → value wire levels tag rest
    ≡ go_on (wire.pairs behind) (λ found inside. go_on (pair_list (value wire n) found.0 found.1 found.2 inside) (λ pairs. give (of_map found.0 found.1 pairs)))
unfolding parts read_below
map_is wire levels n tag rest behind one is deep =
    counted wire levels tag rest behind one ∙ (λ i. parts wire (deep i) (read_below wire (deep i)) (is i) behind)

-- a set
pub set_is : (wire : Wire) (levels n : ℕ) (tag : Tag) (rest behind : Unread) → count_value rest ≡ Ok (tt, behind) → tag ≡ tags.Set → levels ≡ suc n
    → value wire levels tag rest
    ≡ go_on (wire.items behind) (λ found inside. go_on (item_list (value wire n) found.0 found.1 inside) (λ items. give (of_set found.0 items)))
unfolding parts read_below
set_is wire levels n tag rest behind one is deep =
    counted wire levels tag rest behind one ∙ (λ i. parts wire (deep i) (read_below wire (deep i)) (is i) behind)

-- a list
pub list_is : (wire : Wire) (levels n : ℕ) (tag : Tag) (rest behind : Unread) → count_value rest ≡ Ok (tt, behind) → tag ≡ tags.List → levels ≡ suc n
    → value wire levels tag rest
    ≡ go_on (wire.items behind) (λ found inside. go_on (item_list (value wire n) found.0 found.1 inside) (λ items. give (of_list found.0 items)))
unfolding parts read_below
list_is wire levels n tag rest behind one is deep =
    counted wire levels tag rest behind one ∙ (λ i. parts wire (deep i) (read_below wire (deep i)) (is i) behind)

-- a number or a bool
scalar_part : (wire : Wire) (levels : ℕ) (read_below : Tag → Decoder Tree) (tag : Tag) (rest : Unread)
    → (tag ≡ tags.Bytes → ⊥) → (tag ≡ tags.Struct → ⊥) → (tag ≡ tags.Map → ⊥) → (tag ≡ tags.Set → ⊥) → (tag ≡ tags.List → ⊥)
    → wire.scalar tag rest ≡ parts wire levels read_below tag rest
unfolding parts
scalar_part wire levels read_below tags.Bool rest a b c d e = refl
scalar_part wire levels read_below tags.I8 rest a b c d e = refl
scalar_part wire levels read_below tags.I16 rest a b c d e = refl
scalar_part wire levels read_below tags.I32 rest a b c d e = refl
scalar_part wire levels read_below tags.I64 rest a b c d e = refl
scalar_part wire levels read_below tags.Double rest a b c d e = refl
scalar_part wire levels read_below tags.Uuid rest a b c d e = refl
scalar_part wire levels read_below tags.Bytes rest a b c d e = absurd (a refl)
scalar_part wire levels read_below tags.Struct rest a b c d e = absurd (b refl)
scalar_part wire levels read_below tags.Map rest a b c d e = absurd (c refl)
scalar_part wire levels read_below tags.Set rest a b c d e = absurd (d refl)
scalar_part wire levels read_below tags.List rest a b c d e = absurd (e refl)

pub scalar_is : (wire : Wire) (levels : ℕ) (tag : Tag) (rest behind : Unread) → count_value rest ≡ Ok (tt, behind)
    → (tag ≡ tags.Bytes → ⊥) → (tag ≡ tags.Struct → ⊥) → (tag ≡ tags.Map → ⊥) → (tag ≡ tags.Set → ⊥) → (tag ≡ tags.List → ⊥)
    → wire.scalar tag behind ≡ value wire levels tag rest
scalar_is wire levels tag rest behind one a b c d e =
    scalar_part wire levels (read_below wire levels) tag behind a b c d e ∙ sym (counted wire levels tag rest behind one)

-- a value is counted first
pub counted_first : (wire : Wire) (levels : ℕ) (tag : Tag) (rest : Unread)
    → value wire levels tag rest ≡ go_on (count_value rest) (λ (_ : ⊤). parts wire levels (read_below wire levels) tag)
unfolding layer
counted_first wire levels tag rest = value_is wire levels tag rest

-- what a value holds, once it is counted

-- a value of a tag that is known
pub held_is : (wire : Wire) (levels : ℕ) (tag known : Tag) (rest : Unread) → tag ≡ known → held wire levels known rest ≡ held wire levels tag rest
held_is wire levels tag known rest is = ap (λ t. held wire levels t rest) (sym is)

-- a text
pub text_held : (wire : Wire) (levels : ℕ) (tag : Tag) (rest : Unread) → tag ≡ tags.Bytes
    → go_on (wire.span rest) (λ text. give (of_bytes text)) ≡ held wire levels tag rest
unfolding parts
text_held wire levels tag rest is = held_is wire levels tag tags.Bytes rest is

-- a set and a list are made of their elements
made_with : {A : Type 0} (make : Tag → ItemTrees → A) (element : Tag) (read : Result (ItemTrees × Unread) WireFault)
    → go_on {A = Tag × ItemTrees} (go_on read (λ items. give (element, items))) (λ x. give (make x.0 x.1)) ≡ go_on read (λ items. give (make element items))
made_with make element (Ok items) = refl
made_with make element (Err fault) = refl

made_of : {A : Type 0} (make : Tag → ItemTrees → A) (list : Tag → ℕ → Decoder ItemTrees) (found : Result ((Tag × ℕ) × Unread) WireFault)
    → go_on {A = Tag × ItemTrees} (go_on found (λ f inside. go_on (list f.0 f.1 inside) (λ items. give (f.0, items)))) (λ x. give (make x.0 x.1))
    ≡ go_on found (λ f inside. go_on (list f.0 f.1 inside) (λ items. give (make f.0 items)))
made_of make list (Ok f) = made_with make f.0.0 (list f.0.0 f.0.1 f.1)
made_of make list (Err fault) = refl

set_opened : (wire : Wire) (levels : ℕ) (rest : Unread) → go_on {A = Tag × ItemTrees} (elements wire levels rest) (λ x. give (of_set x.0 x.1)) ≡ held wire levels tags.Set rest
unfolding parts elements
set_opened wire zero rest = refl
set_opened wire (suc levels) rest = made_of of_set (item_list (read_below wire (suc levels))) (wire.items rest)

pub set_held : (wire : Wire) (levels : ℕ) (tag : Tag) (rest : Unread) → tag ≡ tags.Set
    → go_on {A = Tag × ItemTrees} (elements wire levels rest) (λ x. give (of_set x.0 x.1)) ≡ held wire levels tag rest
set_held wire levels tag rest is = set_opened wire levels rest ∙ held_is wire levels tag tags.Set rest is

list_opened : (wire : Wire) (levels : ℕ) (rest : Unread) → go_on {A = Tag × ItemTrees} (elements wire levels rest) (λ x. give (of_list x.0 x.1)) ≡ held wire levels tags.List rest
unfolding parts elements
list_opened wire zero rest = refl
list_opened wire (suc levels) rest = made_of of_list (item_list (read_below wire (suc levels))) (wire.items rest)

pub list_held : (wire : Wire) (levels : ℕ) (tag : Tag) (rest : Unread) → tag ≡ tags.List
    → go_on {A = Tag × ItemTrees} (elements wire levels rest) (λ x. give (of_list x.0 x.1)) ≡ held wire levels tag rest
list_held wire levels tag rest is = list_opened wire levels rest ∙ held_is wire levels tag tags.List rest is

-- no level is left
pub no_struct : (wire : Wire) (levels : ℕ) (rest : Unread) → levels ≡ 0 → held wire levels tags.Struct rest ≡ Err TooDeep
unfolding parts
no_struct wire levels rest none = ap (λ n. held wire n tags.Struct rest) none

pub no_map : (wire : Wire) (levels : ℕ) (rest : Unread) → levels ≡ 0 → held wire levels tags.Map rest ≡ Err TooDeep
unfolding parts
no_map wire levels rest none = ap (λ n. held wire n tags.Map rest) none

pub no_elements : (wire : Wire) (levels : ℕ) (rest : Unread) → levels ≡ 0 → elements wire levels rest ≡ Err TooDeep
unfolding elements
no_elements wire levels rest none = ap (λ n. elements wire n rest) none

-- a struct
pub struct_held : (wire : Wire) (levels n : ℕ) (rest : Unread) → levels ≡ suc n
    → go_on (field_list wire (value wire n) (length rest.bytes) (pos 0) rest) (λ fields. give (of_struct fields)) ≡ held wire levels tags.Struct rest
unfolding parts read_below
struct_held wire levels n rest deep = ap (λ m. held wire m tags.Struct rest) (sym deep)

-- a map
pub map_held : (wire : Wire) (levels n : ℕ) (rest : Unread) → levels ≡ suc n
    → go_on (wire.pairs rest) (λ found inside. go_on (pair_list (value wire n) found.0 found.1 found.2 inside) (λ pairs. give (of_map found.0 found.1 pairs)))
    ≡ held wire levels tags.Map rest
unfolding parts read_below
map_held wire levels n rest deep = ap (λ m. held wire m tags.Map rest) (sym deep)

-- the elements of a set or list
pub elements_held : (wire : Wire) (levels n : ℕ) (rest : Unread) → levels ≡ suc n
    → go_on (wire.items rest) (λ found inside. go_on (item_list (value wire n) found.0 found.1 inside) (λ items. give (found.0, items)))
    ≡ elements wire levels rest
unfolding elements read_below
elements_held wire levels n rest deep = ap (λ m. elements wire m rest) (sym deep)

-- a number or a bool
pub scalar_held : (wire : Wire) (levels : ℕ) (tag : Tag) (rest : Unread)
    → (tag ≡ tags.Bytes → ⊥) → (tag ≡ tags.Struct → ⊥) → (tag ≡ tags.Map → ⊥) → (tag ≡ tags.Set → ⊥) → (tag ≡ tags.List → ⊥)
    → wire.scalar tag rest ≡ held wire levels tag rest
scalar_held wire levels tag rest a b c d e = scalar_part wire levels (read_below wire levels) tag rest a b c d e
