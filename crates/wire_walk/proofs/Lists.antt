-- The loops over fields, items and pairs.
use Rattle.std.proofs.Common.{◌≡◌, ℕ, suc, ℤ, pos, Bool, List, [], ◌∷◌, ◌++◌, map, length, Result, Ok, Err, refl, sym, ap, ◌∙◌}
use Rattle.std.specs.Prelude.{⊤}
use Rattle.thrift_value.specs.declared.tag.Tag.{Tag}
use Rattle.thrift_value.specs.declared.value.Value.{Value}
use Rattle.thrift_value.specs.declared.value.Fields.{Fields}
use Rattle.thrift_value.specs.declared.value.Items.{Items}
use Rattle.thrift_value.specs.declared.value.Pairs.{Pairs}
use Rattle.thrift_value.specs.declared.wire_fault.WireFault.{WireFault}
use Rattle.thrift_value.specs.declared.wire_fault.WireFault.TheVariants.{Short}
use Rattle.thrift_value.specs.Tree.{Tree, of_bool, FieldTrees, no_fields, field, no_items, item, PairTrees, no_pairs, pair}
use Rattle.thrift_value.specs.TreeOf.{tree_of, fields_of, items_of, pairs_of, field_tree, pair_tree, field_trees, item_trees, pair_trees, fields_tree, items_tree, pairs_tree}
use Rattle.wire_model.specs.Answering.{FaultsOrNoMemory}
use Rattle.wire_model.specs.Decoder.{Unread, go_on, give, count_value}
use Rattle.wire_model.specs.Reading.{value, field_list, field_behind, item_list, pair_list}
use Rattle.wire_model.specs.Wire.{FieldHeader, stop, typed, flagged, Wire}
use Rattle.wire_walk.specs.Walked.{prepended, in_front}
use Rattle.wire_walk.proofs.Faults.{fails_on, fails_front, fails_same, on_ok, front_push, front_none}

map_push : {A B : Type 0} (f : A → B) (xs : List A) (x : A) → map f (xs ++ x ∷ []) ≡ map f xs ++ f x ∷ []
map_push f [] x = refl
map_push f (y ∷ ys) x = ap (λ zs. f y ∷ zs) (map_push f ys x)

-- items

-- items read so far, in front of what reading gives for the others, are what reading gives for all
abbrev pub AreItemsRead : Wire → ℕ → Tag → List Value → ℕ → Unread → ℕ → Unread → Type 0
AreItemsRead wire levels tag items count rest all start =
    in_front item (map tree_of items) (item_list (value wire levels) tag count rest) ≡ item_list (value wire levels) tag all start

pub items_begin : (wire : Wire) (levels : ℕ) (tag : Tag) (items : List Value) (count all : ℕ) (start : Unread) → items ≡ [] → count ≡ all
    → AreItemsRead wire levels tag items count start all start
items_begin wire levels tag items count all start none same =
    (λ i. in_front item (map tree_of (none i)) (item_list (value wire levels) tag (same i) start))
    ∙ front_none item (item_list (value wire levels) tag all start)

pub items_fail : (wire : Wire) (levels : ℕ) (tag : Tag) (items : List Value) (count left : ℕ) (rest : Unread) (all : ℕ) (start : Unread) (fault : WireFault)
    → count ≡ suc left → AreItemsRead wire levels tag items count rest all start → FaultsOrNoMemory fault (value wire levels tag rest)
    → FaultsOrNoMemory fault (item_list (value wire levels) tag all start)
unfolding item_list
items_fail wire levels tag items count left rest all start fault more kept h =
    fails_same fault _ _ ((λ i. in_front item (map tree_of items) (item_list (value wire levels) tag (sym more i) rest)) ∙ kept)
    (fails_front item (map tree_of items) fault (item_list (value wire levels) tag (suc left) rest)
    (fails_on fault (value wire levels tag rest) _ h))

pub items_step : (wire : Wire) (levels : ℕ) (tag : Tag) (items new : List Value) (x : Value) (count left : ℕ) (rest behind : Unread) (all : ℕ) (start : Unread)
    → count ≡ suc left → AreItemsRead wire levels tag items count rest all start → value wire levels tag rest ≡ Ok (tree_of x, behind)
    → new ≡ items ++ x ∷ [] → AreItemsRead wire levels tag new left behind all start
unfolding item_list
items_step wire levels tag items new x count left rest behind all start more kept read is =
    let opened : item_list (value wire levels) tag (suc left) rest
    ≡ go_on (item_list (value wire levels) tag left behind) (λ xs r. Ok (item (tree_of x) xs, r)) =
    on_ok (value wire levels tag rest) _ (tree_of x) behind read in
    (λ i. in_front item ((ap (map tree_of) is ∙ map_push tree_of items x) i) (item_list (value wire levels) tag left behind))
    ∙ front_push item (map tree_of items) (tree_of x) (item_list (value wire levels) tag left behind)
    ∙ ap (in_front item (map tree_of items)) (sym opened)
    ∙ (λ i. in_front item (map tree_of items) (item_list (value wire levels) tag (sym more i) rest))
    ∙ kept

joined_items : (xs : List Tree) → prepended item xs no_items ≡ item_trees xs
joined_items [] = refl
joined_items (x ∷ xs) = ap (item x) (joined_items xs)

pub items_end : (wire : Wire) (levels : ℕ) (tag : Tag) (items : List Value) (made : Items) (count : ℕ) (rest : Unread) (all : ℕ) (start : Unread)
    → count ≡ 0 → AreItemsRead wire levels tag items count rest all start → items_of made ≡ items
    → item_list (value wire levels) tag all start ≡ Ok (items_tree made, rest)
unfolding item_list
items_end wire levels tag items made count rest all start none kept is =
    sym kept
    ∙ (λ i. in_front item (map tree_of items) (item_list (value wire levels) tag (none i) rest))
    ∙ ap (λ t. Ok (t, rest)) (joined_items (map tree_of items) ∙ ap (λ xs. item_trees (map tree_of xs)) (sym is))

-- pairs

abbrev pub pair_of : Tree × Tree → PairTrees → PairTrees
pair_of p more = pair p.0 p.1 more

abbrev pub ArePairsRead : Wire → ℕ → Tag → Tag → List (Value × Value) → ℕ → Unread → ℕ → Unread → Type 0
ArePairsRead wire levels k v pairs count rest all start =
    in_front pair_of (map pair_tree pairs) (pair_list (value wire levels) k v count rest) ≡ pair_list (value wire levels) k v all start

pub pairs_begin : (wire : Wire) (levels : ℕ) (k v : Tag) (pairs : List (Value × Value)) (count all : ℕ) (start : Unread) → pairs ≡ [] → count ≡ all
    → ArePairsRead wire levels k v pairs count start all start
pairs_begin wire levels k v pairs count all start none same =
    (λ i. in_front pair_of (map pair_tree (none i)) (pair_list (value wire levels) k v (same i) start))
    ∙ front_none pair_of (pair_list (value wire levels) k v all start)

pub pairs_fail : (wire : Wire) (levels : ℕ) (k v : Tag) (pairs : List (Value × Value)) (count left : ℕ) (rest : Unread) (all : ℕ) (start : Unread) (fault : WireFault)
    → count ≡ suc left → ArePairsRead wire levels k v pairs count rest all start → FaultsOrNoMemory fault (value wire levels k rest)
    → FaultsOrNoMemory fault (pair_list (value wire levels) k v all start)
unfolding pair_list
pairs_fail wire levels k v pairs count left rest all start fault more kept h =
    fails_same fault _ _ ((λ i. in_front pair_of (map pair_tree pairs) (pair_list (value wire levels) k v (sym more i) rest)) ∙ kept)
    (fails_front pair_of (map pair_tree pairs) fault (pair_list (value wire levels) k v (suc left) rest)
    (fails_on fault (value wire levels k rest) _ h))

pub pairs_fail_later : (wire : Wire) (levels : ℕ) (k v : Tag) (pairs : List (Value × Value)) (x : Tree) (count left : ℕ) (rest between : Unread) (all : ℕ) (start : Unread) (fault : WireFault)
    → count ≡ suc left → ArePairsRead wire levels k v pairs count rest all start → value wire levels k rest ≡ Ok (x, between)
    → FaultsOrNoMemory fault (value wire levels v between) → FaultsOrNoMemory fault (pair_list (value wire levels) k v all start)
unfolding pair_list
pairs_fail_later wire levels k v pairs x count left rest between all start fault more kept key h =
    fails_same fault _ _ ((λ i. in_front pair_of (map pair_tree pairs) (pair_list (value wire levels) k v (sym more i) rest)) ∙ kept)
    (fails_front pair_of (map pair_tree pairs) fault (pair_list (value wire levels) k v (suc left) rest)
    (fails_same fault _ _ (sym (on_ok (value wire levels k rest) _ x between key))
    (fails_on fault (value wire levels v between) _ h)))

pub pairs_step : (wire : Wire) (levels : ℕ) (k v : Tag) (pairs new : List (Value × Value)) (p : Value × Value) (count left : ℕ) (rest between behind : Unread) (all : ℕ) (start : Unread)
    → count ≡ suc left → ArePairsRead wire levels k v pairs count rest all start → value wire levels k rest ≡ Ok (tree_of p.0, between)
    → value wire levels v between ≡ Ok (tree_of p.1, behind)
    → new ≡ pairs ++ p ∷ [] → ArePairsRead wire levels k v new left behind all start
unfolding pair_list
pairs_step wire levels k v pairs new p count left rest between behind all start more kept key read is =
    let opened : pair_list (value wire levels) k v (suc left) rest
    ≡ go_on (pair_list (value wire levels) k v left behind) (λ ps r. Ok (pair_of (pair_tree p) ps, r)) =
    on_ok (value wire levels k rest) _ (tree_of p.0) between key
    ∙ on_ok (value wire levels v between) _ (tree_of p.1) behind read in
    (λ i. in_front pair_of ((ap (map pair_tree) is ∙ map_push pair_tree pairs p) i) (pair_list (value wire levels) k v left behind))
    ∙ front_push pair_of (map pair_tree pairs) (pair_tree p) (pair_list (value wire levels) k v left behind)
    ∙ ap (in_front pair_of (map pair_tree pairs)) (sym opened)
    ∙ (λ i. in_front pair_of (map pair_tree pairs) (pair_list (value wire levels) k v (sym more i) rest))
    ∙ kept

joined_pairs : (ps : List (Tree × Tree)) → prepended pair_of ps no_pairs ≡ pair_trees ps
joined_pairs [] = refl
joined_pairs (p ∷ ps) = ap (pair p.0 p.1) (joined_pairs ps)

pub pairs_end : (wire : Wire) (levels : ℕ) (k v : Tag) (pairs : List (Value × Value)) (made : Pairs) (count : ℕ) (rest : Unread) (all : ℕ) (start : Unread)
    → count ≡ 0 → ArePairsRead wire levels k v pairs count rest all start → pairs_of made ≡ pairs
    → pair_list (value wire levels) k v all start ≡ Ok (pairs_tree made, rest)
unfolding pair_list
pairs_end wire levels k v pairs made count rest all start none kept is =
    sym kept
    ∙ (λ i. in_front pair_of (map pair_tree pairs) (pair_list (value wire levels) k v (none i) rest))
    ∙ ap (λ t. Ok (t, rest)) (joined_pairs (map pair_tree pairs) ∙ ap (λ xs. pair_trees (map pair_tree xs)) (sym is))

-- fields

abbrev pub field_of : ℤ × Tree → FieldTrees → FieldTrees
field_of f more = field f.0 f.1 more

abbrev pub AreFieldsRead : Wire → ℕ → List (ℤ × Value) → ℕ → ℤ → Unread → Unread → Type 0
AreFieldsRead wire levels fields most last rest start =
    in_front field_of (map field_tree fields) (field_list wire (value wire levels) most last rest)
    ≡ field_list wire (value wire levels) (length start.bytes) (pos 0) start

pub fields_begin : (wire : Wire) (levels : ℕ) (fields : List (ℤ × Value)) (most : ℕ) (start : Unread) → fields ≡ [] → most ≡ length start.bytes
    → AreFieldsRead wire levels fields most (pos 0) start start
fields_begin wire levels fields most start none same =
    (λ i. in_front field_of (map field_tree (none i)) (field_list wire (value wire levels) (same i) (pos 0) start))
    ∙ front_none field_of (field_list wire (value wire levels) (length start.bytes) (pos 0) start)

-- the header is at fault
pub fields_fail : (wire : Wire) (levels : ℕ) (fields : List (ℤ × Value)) (most left : ℕ) (last : ℤ) (rest start : Unread) (fault : WireFault)
    → most ≡ suc left → AreFieldsRead wire levels fields most last rest start → FaultsOrNoMemory fault (wire.field last rest)
    → FaultsOrNoMemory fault (field_list wire (value wire levels) (length start.bytes) (pos 0) start)
unfolding field_list
fields_fail wire levels fields most left last rest start fault more kept h =
    fails_same fault _ _ ((λ i. in_front field_of (map field_tree fields) (field_list wire (value wire levels) (sym more i) last rest)) ∙ kept)
    (fails_front field_of (map field_tree fields) fault (field_list wire (value wire levels) (suc left) last rest)
    (fails_on fault (wire.field last rest) _ h))

-- the fields behind a header
behind_header : (wire : Wire) (levels left : ℕ) (last : ℤ) (rest behind : Unread) (h : FieldHeader) → wire.field last rest ≡ Ok (h, behind)
    → field_list wire (value wire levels) (suc left) last rest ≡ field_behind (value wire levels) (field_list wire (value wire levels) left) h behind
unfolding field_list
behind_header wire levels left last rest behind h read =
    on_ok (wire.field last rest) (λ (found : FieldHeader). field_behind (value wire levels) (field_list wire (value wire levels) left) found) h behind read

-- what is kept, with the next header opened
opened_field : (wire : Wire) (levels : ℕ) (fields : List (ℤ × Value)) (most left : ℕ) (last : ℤ) (rest behind start : Unread) (h : FieldHeader)
    → most ≡ suc left → AreFieldsRead wire levels fields most last rest start → wire.field last rest ≡ Ok (h, behind)
    → in_front field_of (map field_tree fields) (field_behind (value wire levels) (field_list wire (value wire levels) left) h behind)
    ≡ field_list wire (value wire levels) (length start.bytes) (pos 0) start
opened_field wire levels fields most left last rest behind start h more kept read =
    ap (in_front field_of (map field_tree fields)) (sym (behind_header wire levels left last rest behind h read))
    ∙ (λ i. in_front field_of (map field_tree fields) (field_list wire (value wire levels) (sym more i) last rest)) ∙ kept

-- the field's value is at fault
pub field_value_fails : (wire : Wire) (levels : ℕ) (fields : List (ℤ × Value)) (most left : ℕ) (last : ℤ) (rest behind start : Unread) (id : ℤ) (tag : Tag) (fault : WireFault)
    → most ≡ suc left → AreFieldsRead wire levels fields most last rest start → wire.field last rest ≡ Ok (typed id tag, behind)
    → FaultsOrNoMemory fault (value wire levels tag behind)
    → FaultsOrNoMemory fault (field_list wire (value wire levels) (length start.bytes) (pos 0) start)
unfolding field_behind
field_value_fails wire levels fields most left last rest behind start id tag fault more kept read h =
    fails_same fault _ _ (opened_field wire levels fields most left last rest behind start (typed id tag) more kept read)
    (fails_front field_of (map field_tree fields) fault _
    (fails_on fault (value wire levels tag behind) _ h))

-- a flag is one value too many
pub flag_fails : (wire : Wire) (levels : ℕ) (fields : List (ℤ × Value)) (most left : ℕ) (last : ℤ) (rest behind start : Unread) (id : ℤ) (b : Bool) (fault : WireFault)
    → most ≡ suc left → AreFieldsRead wire levels fields most last rest start → wire.field last rest ≡ Ok (flagged id b, behind)
    → FaultsOrNoMemory fault (count_value behind)
    → FaultsOrNoMemory fault (field_list wire (value wire levels) (length start.bytes) (pos 0) start)
unfolding field_behind
flag_fails wire levels fields most left last rest behind start id b fault more kept read f =
    fails_same fault _ _ (opened_field wire levels fields most left last rest behind start (flagged id b) more kept read)
    (fails_front field_of (map field_tree fields) fault _ (fails_on fault (count_value behind) _ f))

-- a field more
pub field_step : (wire : Wire) (levels : ℕ) (fields new : List (ℤ × Value)) (most left : ℕ) (last : ℤ) (rest behind inside start : Unread) (id : ℤ) (tag : Tag) (x : Value)
    → most ≡ suc left → AreFieldsRead wire levels fields most last rest start → wire.field last rest ≡ Ok (typed id tag, behind)
    → value wire levels tag behind ≡ Ok (tree_of x, inside) → new ≡ fields ++ (id, x) ∷ []
    → AreFieldsRead wire levels new left id inside start
unfolding field_behind
field_step wire levels fields new most left last rest behind inside start id tag x more kept read found is =
    let others : Result (FieldTrees × Unread) WireFault = field_list wire (value wire levels) left id inside in
    let added : ℤ × Value = (id, x) in
    (λ i. in_front field_of ((ap (map field_tree) is ∙ map_push field_tree fields added) i) others)
    ∙ front_push field_of (map field_tree fields) (field_tree added) others
    ∙ ap (in_front field_of (map field_tree fields))
    (sym (on_ok (value wire levels tag behind) (λ y. (λ r. go_on (field_list wire (value wire levels) left id r) (λ ys. give (field id y ys)))) (tree_of x) inside found))
    ∙ opened_field wire levels fields most left last rest behind start (typed id tag) more kept read

pub flag_step : (wire : Wire) (levels : ℕ) (fields new : List (ℤ × Value)) (most left : ℕ) (last : ℤ) (rest behind inside start : Unread) (id : ℤ) (b : Bool) (x : Value)
    → most ≡ suc left → AreFieldsRead wire levels fields most last rest start → wire.field last rest ≡ Ok (flagged id b, behind)
    → count_value behind ≡ Ok (tt, inside) → tree_of x ≡ of_bool b → new ≡ fields ++ (id, x) ∷ []
    → AreFieldsRead wire levels new left id inside start
unfolding field_behind
flag_step wire levels fields new most left last rest behind inside start id b x more kept read one tree is =
    let others : Result (FieldTrees × Unread) WireFault = field_list wire (value wire levels) left id inside in
    let added : ℤ × Value = (id, x) in
    (λ i. in_front field_of ((ap (map field_tree) is ∙ map_push field_tree fields added) i) others)
    ∙ front_push field_of (map field_tree fields) (field_tree added) others
    ∙ (λ i. in_front field_of (map field_tree fields) (go_on others (λ ys r. Ok (field id (tree i) ys, r))))
    ∙ ap (in_front field_of (map field_tree fields))
    (sym (on_ok (count_value behind) (λ (_ : ⊤). (λ r. go_on (field_list wire (value wire levels) left id r) (λ ys. give (field id (of_bool b) ys)))) tt inside one))
    ∙ opened_field wire levels fields most left last rest behind start (flagged id b) more kept read

joined_fields : (fs : List (ℤ × Tree)) → prepended field_of fs no_fields ≡ field_trees fs
joined_fields [] = refl
joined_fields (f ∷ fs) = ap (field f.0 f.1) (joined_fields fs)

-- the end of the struct
pub fields_end : (wire : Wire) (levels : ℕ) (fields : List (ℤ × Value)) (made : Fields) (most left : ℕ) (last : ℤ) (rest behind start : Unread)
    → most ≡ suc left → AreFieldsRead wire levels fields most last rest start → wire.field last rest ≡ Ok (stop, behind) → fields_of made ≡ fields
    → field_list wire (value wire levels) (length start.bytes) (pos 0) start ≡ Ok (fields_tree made, behind)
unfolding field_behind
fields_end wire levels fields made most left last rest behind start more kept read is =
    sym (opened_field wire levels fields most left last rest behind start stop more kept read)
    ∙ ap (λ t. Ok (t, behind)) (joined_fields (map field_tree fields) ∙ ap (λ xs. field_trees (map field_tree xs)) (sym is))

-- as many headers as bytes, and no end
pub fields_run_out : (wire : Wire) (levels : ℕ) (fields : List (ℤ × Value)) (most : ℕ) (last : ℤ) (rest start : Unread)
    → most ≡ 0 → AreFieldsRead wire levels fields most last rest start
    → field_list wire (value wire levels) (length start.bytes) (pos 0) start ≡ Err Short
unfolding field_list
fields_run_out wire levels fields most last rest start none kept =
    sym kept ∙ (λ i. in_front field_of (map field_tree fields) (field_list wire (value wire levels) (none i) last rest))
