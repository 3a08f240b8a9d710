-- What is spelled is read, whatever follows.
use Rattle.std.specs.Prelude.{ℤ, pos, FitsSigned}
use Rattle.std.specs.Int.{w16}
use Rattle.std.proofs.Common.{◌≡◌, ℕ, zero, suc, ◌+◌, ◌-◌, ◌≤◌, List, ◌++◌, length, Result, Ok, inl, inr, refl, sym, ap, subst, ◌∙◌, append_assoc, arith, rules}
use Rattle.std.proofs.lemmas.List.{length-append}
use Rattle.thrift_value.specs.declared.tag.Tag.{Tag}
use Rattle.thrift_value.specs.declared.tag.Tag.TheVariants as tags
use Rattle.thrift_value.specs.declared.wire_fault.WireFault.{WireFault}
use Rattle.thrift_value.specs.declared.wire_fault.WireFault.TheVariants.{TooDeep}
use Rattle.thrift_value.specs.Tree.{Tree, of_bool, of_bytes, of_struct, of_map, of_set, of_list, FieldTrees, no_fields, field, ItemTrees, no_items, item, PairTrees, no_pairs, pair}
use Rattle.thrift_value.specs.Tags.{tag_of}
use Rattle.thrift_value.specs.Measures.{depth_of, fields_depth, items_depth, pairs_depth, count_of, fields_count, items_count, pairs_count}
use Rattle.wire_model.specs.Decoder.{Unread, Decoder, ◌>>=◌, give, fail, count_value}
use Rattle.wire_model.specs.Wire.{stop, typed, flagged, Wire}
use Rattle.wire_model.specs.Reading.{item_list, pair_list, field_behind, field_list, parts, layer, value}
use Rattle.wire_model.specs.Format.{Format, TwoParts, IsField, IsFlagged, Spells, SpellsFields, SpellsItems, SpellsPairs}
use Rattle.thrift_value.specs.Sizes.{items_len, pairs_len}
use Rattle.wire_model.specs.Protocol.{IsProtocol}
use Rattle.wire_model.specs.Encoder.{Encoder}
use Rattle.wire_model.proofs.Steps.{goes_on, one_counts}

abbrev rest : List ℕ → ℕ → Unread
rest bytes left = record { bytes = bytes; budget = left }

same_rest : (a b : List ℕ) (m n : ℕ) → a ≡ b → m ≡ n → rest a m ≡ rest b n
same_rest a b m n p q = ap (λ (t : List ℕ). rest t m) p ∙ ap (λ (k : ℕ). rest b k) q

-- a text in two parts in front of more
split : (text front back more : List ℕ) → text ≡ front ++ back → text ++ more ≡ front ++ (back ++ more)
split text front back more e = ap (λ (t : List ℕ). t ++ more) e ∙ append_assoc front back more

-- in so many levels this value, and these fields, are read where they are spelled
abbrev GivesValue : Wire → Format → ℕ → Tree → Type 0
GivesValue wire format levels x = (left : ℕ) (text more : List ℕ) → Spells format x text
    → value wire levels (tag_of x) (rest (text ++ more) (count_of x + left)) ≡ Ok (x, rest more left)

abbrev GivesFields : Wire → Format → ℕ → FieldTrees → Type 0
GivesFields wire format levels fs = (most : ℕ) (last : ℤ) (left : ℕ) (text more : List ℕ) → FitsSigned w16 last → SpellsFields format last fs text → length text ≤ most
    → field_list wire (value wire levels) most last (rest (text ++ more) (fields_count fs + left)) ≡ Ok (fs, rest more left)

layer_step : (wire : Wire) (levels : ℕ) (read : Tag → Decoder Tree) (tag : Tag) (bytes : List ℕ) (n left : ℕ) (y : Result (Tree × Unread) WireFault) → n ≡ suc left
    → parts wire levels read tag (rest bytes left) ≡ y → layer wire levels read tag (rest bytes n) ≡ y
unfolding layer
layer_step wire levels read tag bytes n left y e h = goes_on (count_value (rest bytes n)) (λ _. parts wire levels read tag) tt (rest bytes left) y (one_counts bytes n left e) h

-- ---- a field

field_valued : (wire : Wire) (format : Format) (encoder : Encoder) (p : IsProtocol wire format encoder) (l : ℕ) (id : ℤ) (x : Tree) (xs : FieldTrees)
    → GivesValue wire format l x → GivesFields wire format l xs → (most : ℕ) (last : ℤ) (left : ℕ) (text front back more : List ℕ) → FitsSigned w16 last
    → text ≡ front ++ back → (k : TwoParts (format.header last (typed id (tag_of x))) (Spells format x) front) → SpellsFields format id xs back → length text ≤ suc most
    → field_list wire (value wire l) (suc most) last (rest (text ++ more) ((count_of x + fields_count xs) + left)) ≡ Ok (field id x xs, rest more left)
unfolding field_list field_behind
field_valued wire format encoder p l id x xs x_given xs_given most last left text front back more last_fits e k h room =
    let read = value wire l in
    let others = field_list wire read most in
    let b : 1 ≤ length k.front = (p.field last last_fits).byte (typed id (tag_of x)) k.front k.first in
    let front_is : length front ≡ length k.front + length k.back = ap length k.whole ∙ length-append k.front k.back in
    let text_is : length text ≡ length front + length back = ap length e ∙ length-append front back in
    let behind : List ℕ = back ++ more in
    let start : rest (text ++ more) ((count_of x + fields_count xs) + left) ≡ rest (k.front ++ (k.back ++ behind)) (count_of x + (fields_count xs + left)) =
    same_rest _ _ _ _ (split text front back more e ∙ split front k.front k.back behind k.whole) (omega arith) in
    ap (λ (r : Unread). field_list wire read (suc most) last r) start
    ∙ goes_on (wire.field last (rest (k.front ++ (k.back ++ behind)) (count_of x + (fields_count xs + left)))) (λ found. field_behind read others found)
    (typed id (tag_of x)) (rest (k.back ++ behind) (count_of x + (fields_count xs + left))) _
    ((p.field last last_fits).only (typed id (tag_of x)) k.front (k.back ++ behind) (count_of x + (fields_count xs + left)) k.first (omega arith))
    (goes_on (read (tag_of x) (rest (k.back ++ behind) (count_of x + (fields_count xs + left)))) (λ y. others id >>= λ more. give (field id y more))
    x (rest behind (fields_count xs + left)) _ (x_given (fields_count xs + left) k.back behind k.second)
    (goes_on (others id (rest behind (fields_count xs + left))) (λ more. give (field id x more)) xs (rest more left) _
    (xs_given most id left back more (p.id last id (tag_of x) k.front k.first) h (omega arith)) refl))

field_flagged : (wire : Wire) (format : Format) (encoder : Encoder) (p : IsProtocol wire format encoder) (l : ℕ) (id : ℤ) (x : Tree) (xs : FieldTrees)
    → GivesFields wire format l xs → (most : ℕ) (last : ℤ) (left : ℕ) (text front back more : List ℕ) → FitsSigned w16 last
    → text ≡ front ++ back → (k : IsFlagged format last id x front) → SpellsFields format id xs back → length text ≤ suc most
    → field_list wire (value wire l) (suc most) last (rest (text ++ more) ((count_of x + fields_count xs) + left)) ≡ Ok (field id x xs, rest more left)
unfolding field_list field_behind
field_flagged wire format encoder p l id x xs xs_given most last left text front back more last_fits e k h room =
    let read = value wire l in
    let others = field_list wire read most in
    let b : 1 ≤ length front = (p.field last last_fits).byte (flagged id k.flag) front k.header in
    let text_is : length text ≡ length front + length back = ap length e ∙ length-append front back in
    let behind : List ℕ = back ++ more in
    let one : count_of x ≡ 1 = ap count_of k.is_bool in
    let n : ℕ = suc (fields_count xs + left) in
    let start : rest (text ++ more) ((count_of x + fields_count xs) + left) ≡ rest (front ++ behind) n =
    same_rest _ _ _ _ (split text front back more e) (omega arith) in
    ap (λ (r : Unread). field_list wire read (suc most) last r) start
    ∙ goes_on (wire.field last (rest (front ++ behind) n)) (λ found. field_behind read others found) (flagged id k.flag) (rest behind n) _
    ((p.field last last_fits).only (flagged id k.flag) front behind n k.header (omega arith))
    (goes_on (count_value (rest behind n)) (λ _. others id >>= λ more. give (field id (of_bool k.flag) more)) tt (rest behind (fields_count xs + left)) _ (one_counts behind n (fields_count xs + left) refl)
    (goes_on (others id (rest behind (fields_count xs + left))) (λ more. give (field id (of_bool k.flag) more)) xs (rest more left) _
    (xs_given most id left back more (p.flagged_id last id k.flag front k.header) h (omega arith))
    (ap (λ (y : Tree). Ok (field id y xs, rest more left)) (sym k.is_bool))))

-- the text of a field is a byte at least
field_byte : (wire : Wire) (format : Format) (encoder : Encoder) (p : IsProtocol wire format encoder) (last id : ℤ) (x : Tree) → FitsSigned w16 last → (text : List ℕ)
    → IsField format last id x (Spells format x) text → 1 ≤ length text
field_byte wire format encoder p last id x last_fits text (inl k) =
    let b : 1 ≤ length k.front = (p.field last last_fits).byte (typed id (tag_of x)) k.front k.first in
    let text_is : length text ≡ length k.front + length k.back = ap length k.whole ∙ length-append k.front k.back in
    omega arith
field_byte wire format encoder p last id x last_fits text (inr k) = (p.field last last_fits).byte (flagged id k.flag) text k.header

fields_ended : (wire : Wire) (format : Format) (encoder : Encoder) (p : IsProtocol wire format encoder) (l : ℕ) → GivesFields wire format l no_fields
unfolding field_list field_behind
fields_ended wire format encoder p l zero last left text more last_fits h room =
    let b : 1 ≤ length text = (p.field last last_fits).byte stop text h in absurd (let f : ⊥ = omega arith in f)
fields_ended wire format encoder p l (suc most) last left text more last_fits h room =
    ap (λ (n : ℕ). field_list wire (value wire l) (suc most) last (rest (text ++ more) n)) (omega arith)
    ∙ goes_on (wire.field last (rest (text ++ more) left)) (λ found. field_behind (value wire l) (field_list wire (value wire l) most) found) stop (rest more left) _
    ((p.field last last_fits).only stop text more left h (omega arith)) refl

fields_more : (wire : Wire) (format : Format) (encoder : Encoder) (p : IsProtocol wire format encoder) (l : ℕ) (id : ℤ) (x : Tree) (xs : FieldTrees)
    → GivesValue wire format l x → GivesFields wire format l xs → GivesFields wire format l (field id x xs)
fields_more wire format encoder p l id x xs x_given xs_given zero last left text more last_fits j room =
    let b : 1 ≤ length j.front = field_byte wire format encoder p last id x last_fits j.front j.first in
    let text_is : length text ≡ length j.front + length j.back = ap length j.whole ∙ length-append j.front j.back in
    absurd (let f : ⊥ = omega arith in f)
fields_more wire format encoder p l id x xs x_given xs_given (suc most) last left text more last_fits j room =
    elim j.first as (λ _. field_list wire (value wire l) (suc most) last (rest (text ++ more) ((count_of x + fields_count xs) + left)) ≡ Ok (field id x xs, rest more left)) [
      | inl k ↦ field_valued wire format encoder p l id x xs x_given xs_given most last left text j.front j.back more last_fits j.whole k j.second room
      | inr k ↦ field_flagged wire format encoder p l id x xs xs_given most last left text j.front j.back more last_fits j.whole k j.second room
    ]

-- ---- how many bytes a value takes at least

joined_bytes : (First Second : List ℕ → Type 0) (text : List ℕ) (j : TwoParts First Second text) (m n : ℕ) → m ≤ length j.front → n ≤ length j.back → m + n ≤ length text
joined_bytes First Second text j m n p q =
    let text_is : length text ≡ length j.front + length j.back = ap length j.whole ∙ length-append j.front j.back in
    omega arith

fields_bytes : (wire : Wire) (format : Format) (encoder : Encoder) (p : IsProtocol wire format encoder) (last : ℤ) → FitsSigned w16 last → (fs : FieldTrees) (text : List ℕ)
    → SpellsFields format last fs text → 1 ≤ length text
fields_bytes wire format encoder p last last_fits no_fields text h = (p.field last last_fits).byte stop text h
fields_bytes wire format encoder p last last_fits (field id x xs) text j =
    let b = joined_bytes (IsField format last id x (Spells format x)) (SpellsFields format id xs) text j 1 0 (field_byte wire format encoder p last id x last_fits j.front j.first) (omega arith) in
    omega arith

pub value_bytes : (wire : Wire) (format : Format) (encoder : Encoder) (p : IsProtocol wire format encoder) (x : Tree) (text : List ℕ) → Spells format x text → 1 ≤ length text
value_bytes wire format encoder p (of_bytes bytes) text h = p.span.byte bytes text h
value_bytes wire format encoder p (of_struct fs) text h = fields_bytes wire format encoder p (pos 0) (search rules) fs text h
value_bytes wire format encoder p (of_map t u ps) text j =
    let b = joined_bytes (format.pairs t u (pairs_len ps)) (SpellsPairs format t u ps) text j 1 0 (p.pairs.byte (t, u, pairs_len ps) j.front j.first) (omega arith) in omega arith
value_bytes wire format encoder p (of_set t xs) text j =
    let b = joined_bytes (format.items t (items_len xs)) (SpellsItems format t xs) text j 1 0 (p.items.byte (t, items_len xs) j.front j.first) (omega arith) in omega arith
value_bytes wire format encoder p (of_list t xs) text j =
    let b = joined_bytes (format.items t (items_len xs)) (SpellsItems format t xs) text j 1 0 (p.items.byte (t, items_len xs) j.front j.first) (omega arith) in omega arith
value_bytes wire format encoder p x text h = (p.scalar (tag_of x) tt).byte x text (refl, h)

items_bytes : (wire : Wire) (format : Format) (encoder : Encoder) (p : IsProtocol wire format encoder) (t : Tag) (xs : ItemTrees) (text : List ℕ) → SpellsItems format t xs text
    → items_len xs ≤ length text
items_bytes wire format encoder p t no_items text h = omega arith
items_bytes wire format encoder p t (item x xs) text h =
    let b = joined_bytes (Spells format x) (SpellsItems format t xs) text h.1 1 (items_len xs) (value_bytes wire format encoder p x h.1.front h.1.first) (items_bytes wire format encoder p t xs h.1.back h.1.second) in
    omega arith

pairs_bytes : (wire : Wire) (format : Format) (encoder : Encoder) (p : IsProtocol wire format encoder) (t u : Tag) (ps : PairTrees) (text : List ℕ) → SpellsPairs format t u ps text
    → pairs_len ps ≤ length text
pairs_bytes wire format encoder p t u no_pairs text h = omega arith
pairs_bytes wire format encoder p t u (pair k x ps) text h =
    let j = h.2.second in
    let a = joined_bytes (Spells format x) (SpellsPairs format t u ps) h.2.back j 0 (pairs_len ps) (omega arith) (pairs_bytes wire format encoder p t u ps j.back j.second) in
    let b = joined_bytes (Spells format k) (TwoParts (Spells format x) (SpellsPairs format t u ps)) text h.2 1 (pairs_len ps) (value_bytes wire format encoder p k h.2.front h.2.first) (omega arith) in
    omega arith

-- ---- items and pairs

abbrev GivesItems : Wire → Format → ℕ → ItemTrees → Type 0
GivesItems wire format levels xs = (t : Tag) (left : ℕ) (text more : List ℕ) → SpellsItems format t xs text
    → item_list (value wire levels) t (items_len xs) (rest (text ++ more) (items_count xs + left)) ≡ Ok (xs, rest more left)

abbrev GivesPairs : Wire → Format → ℕ → PairTrees → Type 0
GivesPairs wire format levels ps = (t u : Tag) (left : ℕ) (text more : List ℕ) → SpellsPairs format t u ps text
    → pair_list (value wire levels) t u (pairs_len ps) (rest (text ++ more) (pairs_count ps + left)) ≡ Ok (ps, rest more left)

items_ended : (wire : Wire) (format : Format) (l : ℕ) → GivesItems wire format l no_items
unfolding item_list
items_ended wire format l t left text more e =
    ap (λ (r : Unread). give no_items r) (same_rest (text ++ more) more (0 + left) left (ap (λ (s : List ℕ). s ++ more) e) (omega arith))

items_more : (wire : Wire) (format : Format) (l : ℕ) (x : Tree) (xs : ItemTrees) → GivesValue wire format l x → GivesItems wire format l xs → GivesItems wire format l (item x xs)
unfolding item_list
items_more wire format l x xs x_given xs_given t left text more h =
    let read = value wire l in
    let j = h.1 in
    let behind : List ℕ = j.back ++ more in
    let n : ℕ = items_count xs + left in
    let one : read t (rest (j.front ++ behind) (count_of x + n)) ≡ Ok (x, rest behind n) =
    subst (λ (k : Tag). read k (rest (j.front ++ behind) (count_of x + n)) ≡ Ok (x, rest behind n)) h.0 (x_given n j.front behind j.first) in
    ap (λ (r : Unread). item_list read t (suc (items_len xs)) r) (same_rest _ _ _ _ (split text j.front j.back more j.whole) (omega arith))
    ∙ goes_on (read t (rest (j.front ++ behind) (count_of x + n))) (λ y. item_list read t (items_len xs) >>= λ more. give (item y more)) x (rest behind n) _ one
    (goes_on (item_list read t (items_len xs) (rest behind n)) (λ more. give (item x more)) xs (rest more left) _ (xs_given t left j.back more j.second) refl)

pairs_ended : (wire : Wire) (format : Format) (l : ℕ) → GivesPairs wire format l no_pairs
unfolding pair_list
pairs_ended wire format l t u left text more e =
    ap (λ (r : Unread). give no_pairs r) (same_rest (text ++ more) more (0 + left) left (ap (λ (s : List ℕ). s ++ more) e) (omega arith))

pairs_more : (wire : Wire) (format : Format) (l : ℕ) (k x : Tree) (ps : PairTrees) → GivesValue wire format l k → GivesValue wire format l x → GivesPairs wire format l ps
    → GivesPairs wire format l (pair k x ps)
unfolding pair_list
pairs_more wire format l k x ps k_given x_given ps_given t u left text more h =
    let read = value wire l in
    let i = h.2 in
    let j = h.2.second in
    let behind : List ℕ = j.back ++ more in
    let n : ℕ = pairs_count ps + left in
    let m : ℕ = count_of x + n in
    let one : read t (rest (i.front ++ (j.front ++ behind)) (count_of k + m)) ≡ Ok (k, rest (j.front ++ behind) m) =
    subst (λ (v : Tag). read v (rest (i.front ++ (j.front ++ behind)) (count_of k + m)) ≡ Ok (k, rest (j.front ++ behind) m)) h.0 (k_given m i.front (j.front ++ behind) i.first) in
    let two : read u (rest (j.front ++ behind) m) ≡ Ok (x, rest behind n) =
    subst (λ (v : Tag). read v (rest (j.front ++ behind) m) ≡ Ok (x, rest behind n)) h.1 (x_given n j.front behind j.first) in
    ap (λ (r : Unread). pair_list read t u (suc (pairs_len ps)) r)
    (same_rest _ _ _ _ (split text i.front i.back more i.whole ∙ ap (λ (s : List ℕ). i.front ++ s) (split i.back j.front j.back more j.whole)) (omega arith))
    ∙ goes_on (read t (rest (i.front ++ (j.front ++ behind)) (count_of k + m))) (λ y. read u >>= λ z. pair_list read t u (pairs_len ps) >>= λ more. give (pair y z more))
    k (rest (j.front ++ behind) m) _ one
    (goes_on (read u (rest (j.front ++ behind) m)) (λ z. pair_list read t u (pairs_len ps) >>= λ more. give (pair k z more)) x (rest behind n) _ two
    (goes_on (pair_list read t u (pairs_len ps) (rest behind n)) (λ more. give (pair k x more)) ps (rest more left) _ (ps_given t u left j.back more j.second) refl))

-- ---- containers and structs

struct_given : (wire : Wire) (format : Format) (encoder : Encoder) (p : IsProtocol wire format encoder) (l : ℕ) (fs : FieldTrees) → GivesFields wire format l fs
    → GivesValue wire format (suc l) (of_struct fs)
unfolding value parts
struct_given wire format encoder p l fs given left text more h =
    let read = value wire l in
    let bytes = text ++ more in
    let n : ℕ = fields_count fs + left in
    layer_step wire (suc l) read tags.Struct bytes ((fields_count fs + 1) + left) n _ (omega arith)
    (goes_on (field_list wire read (length bytes) (pos 0) (rest bytes n)) (λ fields. give (of_struct fields)) fs (rest more left) _
    (given (length bytes) (pos 0) left text more (search rules) h (omega (arith, length-append text more))) refl)

list_given : (wire : Wire) (format : Format) (encoder : Encoder) (p : IsProtocol wire format encoder) (l : ℕ) (make : Tag → ItemTrees → Tree) (t : Tag) (xs : ItemTrees)
    → GivesItems wire format l xs → (left : ℕ) (text more : List ℕ) → TwoParts (format.items t (items_len xs)) (SpellsItems format t xs) text
    → (wire.items >>= λ found. item_list (value wire l) found.0 found.1 >>= λ items. give (make found.0 items)) (rest (text ++ more) (items_count xs + left)) ≡ Ok (make t xs, rest more left)
list_given wire format encoder p l make t xs given left text more j =
    let read = value wire l in
    let n : ℕ = items_count xs + left in
    let behind : List ℕ = j.back ++ more in
    let enough : items_len xs ≤ length j.back = items_bytes wire format encoder p t xs j.back j.second in
    ap (λ (r : Unread). (wire.items >>= λ found. item_list read found.0 found.1 >>= λ items. give (make found.0 items)) r) (same_rest _ _ n n (split text j.front j.back more j.whole) refl)
    ∙ goes_on (wire.items (rest (j.front ++ behind) n)) (λ found. item_list read found.0 found.1 >>= λ items. give (make found.0 items)) (t, items_len xs) (rest behind n) _
    (p.items.only (t, items_len xs) j.front behind n j.first (omega (arith, length-append j.back more)))
    (goes_on (item_list read t (items_len xs) (rest behind n)) (λ items. give (make t items)) xs (rest more left) _ (given t left j.back more j.second) refl)

map_given : (wire : Wire) (format : Format) (encoder : Encoder) (p : IsProtocol wire format encoder) (l : ℕ) (t u : Tag) (ps : PairTrees) → GivesPairs wire format l ps
    → GivesValue wire format (suc l) (of_map t u ps)
unfolding value parts
map_given wire format encoder p l t u ps given left text more j =
    let read = value wire l in
    let n : ℕ = pairs_count ps + left in
    let behind : List ℕ = j.back ++ more in
    let enough : pairs_len ps ≤ length j.back = pairs_bytes wire format encoder p t u ps j.back j.second in
    layer_step wire (suc l) read tags.Map (text ++ more) ((pairs_count ps + 1) + left) n _ (omega arith)
    (ap (λ (r : Unread). (wire.pairs >>= λ found. pair_list read found.0 found.1 found.2 >>= λ pairs. give (of_map found.0 found.1 pairs)) r)
    (same_rest _ _ n n (split text j.front j.back more j.whole) refl)
    ∙ goes_on (wire.pairs (rest (j.front ++ behind) n)) (λ found. pair_list read found.0 found.1 found.2 >>= λ pairs. give (of_map found.0 found.1 pairs)) (t, u, pairs_len ps) (rest behind n) _
    (p.pairs.only (t, u, pairs_len ps) j.front behind n j.first (omega (arith, length-append j.back more)))
    (goes_on (pair_list read t u (pairs_len ps) (rest behind n)) (λ pairs. give (of_map t u pairs)) ps (rest more left) _ (given t u left j.back more j.second) refl))

module _ (wire : Wire) (format : Format) (encoder : Encoder) (p : IsProtocol wire format encoder) where
  mutual
    unfolding value parts

    pub value_given : (x : Tree) (levels : ℕ) → depth_of x ≤ levels → GivesValue wire format levels x
    value_given (of_bytes bytes) zero d left text more h =
        layer_step wire zero (λ _. fail TooDeep) tags.Bytes (text ++ more) (1 + left) left _ (omega arith)
        (goes_on (wire.span (rest (text ++ more) left)) (λ found. give (of_bytes found)) bytes (rest more left) _ (p.span.only bytes text more left h (omega arith)) refl)
    value_given (of_bytes bytes) (suc l) d left text more h =
        layer_step wire (suc l) (value wire l) tags.Bytes (text ++ more) (1 + left) left _ (omega arith)
        (goes_on (wire.span (rest (text ++ more) left)) (λ found. give (of_bytes found)) bytes (rest more left) _ (p.span.only bytes text more left h (omega arith)) refl)
    value_given (of_struct fs) zero d left text more h = absurd (let f : ⊥ = omega arith in f)
    value_given (of_struct fs) (suc l) d left text more h = struct_given wire format encoder p l fs (fields_given fs l (omega arith)) left text more h
    value_given (of_map t u ps) zero d left text more h = absurd (let f : ⊥ = omega arith in f)
    value_given (of_map t u ps) (suc l) d left text more h = map_given wire format encoder p l t u ps (pairs_given ps l (omega arith)) left text more h
    value_given (of_set t xs) zero d left text more h = absurd (let f : ⊥ = omega arith in f)
    value_given (of_set t xs) (suc l) d left text more h =
        layer_step wire (suc l) (value wire l) tags.Set (text ++ more) ((items_count xs + 1) + left) (items_count xs + left) _ (omega arith)
        (list_given wire format encoder p l (λ tag items. of_set tag items) t xs (items_given xs l (omega arith)) left text more h)
    value_given (of_list t xs) zero d left text more h = absurd (let f : ⊥ = omega arith in f)
    value_given (of_list t xs) (suc l) d left text more h =
        layer_step wire (suc l) (value wire l) tags.List (text ++ more) ((items_count xs + 1) + left) (items_count xs + left) _ (omega arith)
        (list_given wire format encoder p l (λ tag items. of_list tag items) t xs (items_given xs l (omega arith)) left text more h)
    value_given x zero d left text more h =
        layer_step wire zero (λ _. fail TooDeep) (tag_of x) (text ++ more) (1 + left) left _ (omega arith) ((p.scalar (tag_of x) tt).only x text more left (refl, h) (omega arith))
    value_given x (suc l) d left text more h =
        layer_step wire (suc l) (value wire l) (tag_of x) (text ++ more) (1 + left) left _ (omega arith) ((p.scalar (tag_of x) tt).only x text more left (refl, h) (omega arith))

    fields_given : (fs : FieldTrees) (l : ℕ) → fields_depth fs ≤ l → GivesFields wire format l fs
    fields_given no_fields l d = fields_ended wire format encoder p l
    fields_given (field id x xs) l d = fields_more wire format encoder p l id x xs (value_given x l (omega arith)) (fields_given xs l (omega arith))

    items_given : (xs : ItemTrees) (l : ℕ) → items_depth xs ≤ l → GivesItems wire format l xs
    items_given no_items l d = items_ended wire format l
    items_given (item x xs) l d = items_more wire format l x xs (value_given x l (omega arith)) (items_given xs l (omega arith))

    pairs_given : (ps : PairTrees) (l : ℕ) → pairs_depth ps ≤ l → GivesPairs wire format l ps
    pairs_given no_pairs l d = pairs_ended wire format l
    pairs_given (pair k x ps) l d = pairs_more wire format l k x ps (value_given k l (omega arith)) (value_given x l (omega arith)) (pairs_given ps l (omega arith))

-- with as many values left as it has, or more
pub spelled_given : (wire : Wire) (format : Format) (encoder : Encoder) (p : IsProtocol wire format encoder) (levels left : ℕ) (x : Tree) (text more : List ℕ)
    → Spells format x text → depth_of x ≤ levels → count_of x ≤ left
    → value wire levels (tag_of x) (record { bytes = text ++ more; budget = left }) ≡ Ok (x, record { bytes = more; budget = left - count_of x })
spelled_given wire format encoder p levels left x text more h d c =
    ap (λ (n : ℕ). value wire levels (tag_of x) (rest (text ++ more) n)) (omega arith) ∙ value_given wire format encoder p x levels d (left - count_of x) text more h
