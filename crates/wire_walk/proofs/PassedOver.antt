-- Passing over values, step by step.
use Rattle.std.specs.Prelude.{⊤}
use Rattle.std.proofs.Common.{◌≡◌, ℕ, suc, ℤ, pos, Bool, length, Result, Ok, Err, refl, sym, ap, subst, ◌∙◌}
use Rattle.thrift_value.specs.declared.tag.Tag.{Tag}
use Rattle.thrift_value.specs.declared.wire_fault.WireFault.{WireFault}
use Rattle.thrift_value.specs.declared.wire_fault.WireFault.TheVariants.{Short, BadType, BadSize, LongVarint, FieldRange, TooDeep, TooMany, NoMemory}
use Rattle.thrift_value.specs.Tree.{Tree, of_bool, FieldTrees, field, item, PairTrees, pair}
use Rattle.wire_model.specs.Answering.{FaultsExactly, AnswersExactly}
use Rattle.wire_model.specs.AtPlace.{passed_over}
use Rattle.wire_model.specs.Decoder.{Unread, go_on, give, count_value}
use Rattle.wire_model.specs.Reading.{value, field_list, field_behind, item_list, pair_list}
use Rattle.wire_model.specs.Wire.{FieldHeader, stop, typed, flagged, Wire}
use Rattle.wire_walk.proofs.Faults.{on_ok}

-- a reading with what it leaves
abbrev pub Reading : Type 0 → Type 0
Reading A = Result (A × Unread) WireFault

-- faults

-- the same fault of another reading, where a fault of the one is one of the other
pub faults_by : {X Y : Type 0} (fault : WireFault) (r : Result X WireFault) (s : Result Y WireFault)
    → ((f : WireFault) → r ≡ Err f → s ≡ Err f) → FaultsExactly fault r → FaultsExactly fault s
faults_by Short r s on h = on Short h
faults_by (BadType n) r s on h = on (BadType n) h
faults_by BadSize r s on h = on BadSize h
faults_by LongVarint r s on h = on LongVarint h
faults_by FieldRange r s on h = on FieldRange h
faults_by TooDeep r s on h = on TooDeep h
faults_by TooMany r s on h = on TooMany h
faults_by NoMemory r s on h = absurd h

-- a step that is at fault
pub stops_at : {A B : Type 0} (fault : WireFault) (whole : Reading B) (r : Reading A) (k : A → Unread → Reading B)
    → whole ≡ go_on r k → FaultsExactly fault r → FaultsExactly fault (passed_over whole)
stops_at fault whole r k is h = faults_by fault r (passed_over whole) (λ f e. ap passed_over (is ∙ ap (λ x. go_on x k) e)) h

fault_passed : {A : Type 0} (r : Reading A) (fault : WireFault) → passed_over r ≡ Err fault → r ≡ Err fault
fault_passed (Ok x) fault e = absurd cc
fault_passed (Err f) fault e = let same : f ≡ fault = cc in ap (λ (y : WireFault). Err y) same

-- the same of a step that is passed over
pub stops_over : {A B : Type 0} (fault : WireFault) (whole : Reading B) (r : Reading A) (k : A → Unread → Reading B)
    → whole ≡ go_on r k → FaultsExactly fault (passed_over r) → FaultsExactly fault (passed_over whole)
stops_over fault whole r k is h = stops_at fault whole r k is (faults_by fault (passed_over r) r (λ f e. fault_passed r f e) h)

-- the whole is the one part, which is at fault
pub scalar_stops : {A : Type 0} (fault : WireFault) (r whole : Reading A) → r ≡ whole → FaultsExactly fault r → FaultsExactly fault (passed_over whole)
scalar_stops fault r whole is h = faults_by fault r (passed_over whole) (λ f e. ap passed_over (sym is ∙ e)) h

pub faults_same : {X : Type 0} (fault : WireFault) (r s : Result X WireFault) → r ≡ s → FaultsExactly fault r → FaultsExactly fault s
faults_same fault r s e h = subst (λ x. FaultsExactly fault x) e h

pub exactly_too_deep : {A : Type 0} (fault : WireFault) (r : Reading A) → fault ≡ TooDeep → r ≡ Err TooDeep → FaultsExactly fault (passed_over r)
exactly_too_deep fault r is e = subst (λ f. FaultsExactly f (passed_over r)) (sym is) (ap passed_over e)

-- answers

-- what is made of what was read doesn't matter
pub passed_given : {A B : Type 0} (r : Reading A) (f : A → B) → passed_over (go_on r (λ x. give (f x))) ≡ passed_over r
passed_given (Ok x) f = refl
passed_given (Err fault) f = refl

-- a step that was passed over
pub passes : {A B : Type 0} (r : Reading A) (k : A → Unread → Reading B) (behind : Unread) (m : Result Unread WireFault)
    → passed_over r ≡ Ok behind → ((x : A) → passed_over (k x behind) ≡ m) → passed_over (go_on r k) ≡ m
passes (Ok x) k behind m e each = let same : x.1 ≡ behind = cc in ap (λ (s : Unread). passed_over (k x.0 s)) same ∙ each x.0
passes (Err fault) k behind m e each = absurd cc

-- the same answer, where what is left is the same
pub answers_same : (result : Result Unread WireFault) (r s : Result Unread WireFault) → r ≡ s → AnswersExactly (λ x. x) result r → AnswersExactly (λ x. x) result s
answers_same result r s e h = subst (λ x. AnswersExactly (λ y. y) result x) e h

-- items

-- what is left behind the items that are still to come is what is left behind all
abbrev pub AreItemsPassed : Wire → ℕ → Tag → ℕ → Unread → ℕ → Unread → Type 0
AreItemsPassed wire levels tag count rest all start =
    passed_over (item_list (value wire levels) tag count rest) ≡ passed_over (item_list (value wire levels) tag all start)

next_item : (wire : Wire) (levels : ℕ) (tag : Tag) (left : ℕ) (rest behind : Unread) → passed_over (value wire levels tag rest) ≡ Ok behind
    → passed_over (item_list (value wire levels) tag (suc left) rest) ≡ passed_over (item_list (value wire levels) tag left behind)
unfolding item_list
next_item wire levels tag left rest behind e =
    passes (value wire levels tag rest) _ behind _ e (λ x. passed_given (item_list (value wire levels) tag left behind) (item x))

pub items_fail_exactly : (wire : Wire) (levels : ℕ) (tag : Tag) (count left : ℕ) (rest : Unread) (all : ℕ) (start : Unread) (fault : WireFault)
    → count ≡ suc left → AreItemsPassed wire levels tag count rest all start → FaultsExactly fault (passed_over (value wire levels tag rest))
    → FaultsExactly fault (passed_over (item_list (value wire levels) tag all start))
unfolding item_list
items_fail_exactly wire levels tag count left rest all start fault more kept h =
    faults_same fault _ _ ((λ i. passed_over (item_list (value wire levels) tag (sym more i) rest)) ∙ kept)
    (stops_over fault (item_list (value wire levels) tag (suc left) rest) (value wire levels tag rest) _ refl h)

pub items_pass : (wire : Wire) (levels : ℕ) (tag : Tag) (count left : ℕ) (rest behind : Unread) (all : ℕ) (start : Unread)
    → count ≡ suc left → AreItemsPassed wire levels tag count rest all start → passed_over (value wire levels tag rest) ≡ Ok behind
    → AreItemsPassed wire levels tag left behind all start
items_pass wire levels tag count left rest behind all start more kept e =
    sym (next_item wire levels tag left rest behind e) ∙ (λ i. passed_over (item_list (value wire levels) tag (sym more i) rest)) ∙ kept

pub items_passed : (wire : Wire) (levels : ℕ) (tag : Tag) (count : ℕ) (rest : Unread) (all : ℕ) (start : Unread)
    → count ≡ 0 → AreItemsPassed wire levels tag count rest all start → passed_over (item_list (value wire levels) tag all start) ≡ Ok rest
unfolding item_list
items_passed wire levels tag count rest all start none kept =
    sym kept ∙ (λ i. passed_over (item_list (value wire levels) tag (none i) rest))

-- pairs

abbrev pub ArePairsPassed : Wire → ℕ → Tag → Tag → ℕ → Unread → ℕ → Unread → Type 0
ArePairsPassed wire levels k v count rest all start =
    passed_over (pair_list (value wire levels) k v count rest) ≡ passed_over (pair_list (value wire levels) k v all start)

-- what is read behind a key
abbrev pub behind_key : Wire → ℕ → Tag → Tag → ℕ → Tree → Unread → Result (PairTrees × Unread) WireFault
behind_key wire levels k v left key between =
    go_on (value wire levels v between) (λ x r. go_on (pair_list (value wire levels) k v left r) (λ more. give (pair key x more)))

next_pair : (wire : Wire) (levels : ℕ) (k v : Tag) (left : ℕ) (rest between behind : Unread) → passed_over (value wire levels k rest) ≡ Ok between
    → passed_over (value wire levels v between) ≡ Ok behind
    → passed_over (pair_list (value wire levels) k v (suc left) rest) ≡ passed_over (pair_list (value wire levels) k v left behind)
unfolding pair_list
next_pair wire levels k v left rest between behind key e =
    passes (value wire levels k rest) (behind_key wire levels k v left) between _ key
    (λ x. passes (value wire levels v between) (λ y r. go_on (pair_list (value wire levels) k v left r) (λ more. give (pair x y more))) behind _ e
    (λ y. passed_given (pair_list (value wire levels) k v left behind) (pair x y)))

pub pairs_fail_exactly : (wire : Wire) (levels : ℕ) (k v : Tag) (count left : ℕ) (rest : Unread) (all : ℕ) (start : Unread) (fault : WireFault)
    → count ≡ suc left → ArePairsPassed wire levels k v count rest all start → FaultsExactly fault (passed_over (value wire levels k rest))
    → FaultsExactly fault (passed_over (pair_list (value wire levels) k v all start))
unfolding pair_list
pairs_fail_exactly wire levels k v count left rest all start fault more kept h =
    faults_same fault _ _ ((λ i. passed_over (pair_list (value wire levels) k v (sym more i) rest)) ∙ kept)
    (stops_over fault (pair_list (value wire levels) k v (suc left) rest) (value wire levels k rest) (behind_key wire levels k v left) refl h)

-- the value behind a key is at fault
value_at_fault : (wire : Wire) (levels : ℕ) (k v : Tag) (left : ℕ) (between : Unread) (fault : WireFault) (read : Result (Tree × Unread) WireFault)
    → passed_over read ≡ Ok between → FaultsExactly fault (passed_over (value wire levels v between))
    → FaultsExactly fault (passed_over (go_on read (behind_key wire levels k v left)))
value_at_fault wire levels k v left between fault (Ok x) e h =
    let same : x.1 ≡ between = cc in
    subst (λ s. FaultsExactly fault (passed_over (behind_key wire levels k v left x.0 s))) (sym same)
    (stops_over fault (behind_key wire levels k v left x.0 between) (value wire levels v between) _ refl h)
value_at_fault wire levels k v left between fault (Err f) e h = absurd cc

pub pairs_fail_exactly_later : (wire : Wire) (levels : ℕ) (k v : Tag) (count left : ℕ) (rest between : Unread) (all : ℕ) (start : Unread) (fault : WireFault)
    → count ≡ suc left → ArePairsPassed wire levels k v count rest all start → passed_over (value wire levels k rest) ≡ Ok between
    → FaultsExactly fault (passed_over (value wire levels v between)) → FaultsExactly fault (passed_over (pair_list (value wire levels) k v all start))
unfolding pair_list
pairs_fail_exactly_later wire levels k v count left rest between all start fault more kept key h =
    faults_same fault _ _ ((λ i. passed_over (pair_list (value wire levels) k v (sym more i) rest)) ∙ kept)
    (value_at_fault wire levels k v left between fault (value wire levels k rest) key h)

pub pairs_pass : (wire : Wire) (levels : ℕ) (k v : Tag) (count left : ℕ) (rest between behind : Unread) (all : ℕ) (start : Unread)
    → count ≡ suc left → ArePairsPassed wire levels k v count rest all start → passed_over (value wire levels k rest) ≡ Ok between
    → passed_over (value wire levels v between) ≡ Ok behind → ArePairsPassed wire levels k v left behind all start
pairs_pass wire levels k v count left rest between behind all start more kept key e =
    sym (next_pair wire levels k v left rest between behind key e) ∙ (λ i. passed_over (pair_list (value wire levels) k v (sym more i) rest)) ∙ kept

pub pairs_passed : (wire : Wire) (levels : ℕ) (k v : Tag) (count : ℕ) (rest : Unread) (all : ℕ) (start : Unread)
    → count ≡ 0 → ArePairsPassed wire levels k v count rest all start → passed_over (pair_list (value wire levels) k v all start) ≡ Ok rest
unfolding pair_list
pairs_passed wire levels k v count rest all start none kept =
    sym kept ∙ (λ i. passed_over (pair_list (value wire levels) k v (none i) rest))

-- fields

abbrev pub AreFieldsPassed : Wire → ℕ → ℕ → ℤ → Unread → Unread → Type 0
AreFieldsPassed wire levels most last rest start =
    passed_over (field_list wire (value wire levels) most last rest) ≡ passed_over (field_list wire (value wire levels) (length start.bytes) (pos 0) start)

-- the fields of a struct, of which so many headers may still come
abbrev pub fields_left : Wire → ℕ → ℕ → ℤ → Unread → Result (FieldTrees × Unread) WireFault
fields_left wire levels left last rest = field_list wire (value wire levels) left last rest

-- what is read of a struct at its next header
opened_by : (wire : Wire) (levels most left : ℕ) (last : ℤ) (rest behind start : Unread) (h : FieldHeader)
    → most ≡ suc left → AreFieldsPassed wire levels most last rest start → wire.field last rest ≡ Ok (h, behind)
    → passed_over (field_behind (value wire levels) (field_list wire (value wire levels) left) h behind)
    ≡ passed_over (field_list wire (value wire levels) (length start.bytes) (pos 0) start)
unfolding field_list
opened_by wire levels most left last rest behind start h more kept read =
    ap passed_over (sym (on_ok (wire.field last rest) (λ (found : FieldHeader). field_behind (value wire levels) (field_list wire (value wire levels) left) found) h behind read))
    ∙ (λ i. passed_over (field_list wire (value wire levels) (sym more i) last rest)) ∙ kept

pub header_fails_exactly : (wire : Wire) (levels most left : ℕ) (last : ℤ) (rest start : Unread) (fault : WireFault)
    → most ≡ suc left → AreFieldsPassed wire levels most last rest start → FaultsExactly fault (wire.field last rest)
    → FaultsExactly fault (passed_over (field_list wire (value wire levels) (length start.bytes) (pos 0) start))
unfolding field_list
header_fails_exactly wire levels most left last rest start fault more kept h =
    faults_same fault _ _ ((λ i. passed_over (field_list wire (value wire levels) (sym more i) last rest)) ∙ kept)
    (stops_at fault (field_list wire (value wire levels) (suc left) last rest) (wire.field last rest) _ refl h)

pub field_fails_exactly : (wire : Wire) (levels most left : ℕ) (last : ℤ) (rest behind start : Unread) (id : ℤ) (tag : Tag) (fault : WireFault)
    → most ≡ suc left → AreFieldsPassed wire levels most last rest start → wire.field last rest ≡ Ok (typed id tag, behind)
    → FaultsExactly fault (passed_over (value wire levels tag behind))
    → FaultsExactly fault (passed_over (field_list wire (value wire levels) (length start.bytes) (pos 0) start))
unfolding field_behind
field_fails_exactly wire levels most left last rest behind start id tag fault more kept read h =
    faults_same fault _ _ (opened_by wire levels most left last rest behind start (typed id tag) more kept read)
    (stops_over fault (field_behind (value wire levels) (field_list wire (value wire levels) left) (typed id tag) behind) (value wire levels tag behind) _ refl h)

pub flag_fails_exactly : (wire : Wire) (levels most left : ℕ) (last : ℤ) (rest behind start : Unread) (id : ℤ) (b : Bool) (fault : WireFault)
    → most ≡ suc left → AreFieldsPassed wire levels most last rest start → wire.field last rest ≡ Ok (flagged id b, behind)
    → FaultsExactly fault (count_value behind)
    → FaultsExactly fault (passed_over (field_list wire (value wire levels) (length start.bytes) (pos 0) start))
unfolding field_behind
flag_fails_exactly wire levels most left last rest behind start id b fault more kept read h =
    faults_same fault _ _ (opened_by wire levels most left last rest behind start (flagged id b) more kept read)
    (stops_at fault (field_behind (value wire levels) (field_list wire (value wire levels) left) (flagged id b) behind) (count_value behind) _ refl h)

pub field_passes : (wire : Wire) (levels most left : ℕ) (last : ℤ) (rest behind inside start : Unread) (id : ℤ) (tag : Tag)
    → most ≡ suc left → AreFieldsPassed wire levels most last rest start → wire.field last rest ≡ Ok (typed id tag, behind)
    → passed_over (value wire levels tag behind) ≡ Ok inside → AreFieldsPassed wire levels left id inside start
unfolding field_behind
field_passes wire levels most left last rest behind inside start id tag more kept read e =
    sym (passes (value wire levels tag behind) (λ x r. go_on (fields_left wire levels left id r) (λ ys. give (field id x ys))) inside _ e
    (λ x. passed_given (fields_left wire levels left id inside) (field id x)))
    ∙ opened_by wire levels most left last rest behind start (typed id tag) more kept read

pub flag_passes : (wire : Wire) (levels most left : ℕ) (last : ℤ) (rest behind inside start : Unread) (id : ℤ) (b : Bool)
    → most ≡ suc left → AreFieldsPassed wire levels most last rest start → wire.field last rest ≡ Ok (flagged id b, behind)
    → count_value behind ≡ Ok (tt, inside) → AreFieldsPassed wire levels left id inside start
unfolding field_behind
flag_passes wire levels most left last rest behind inside start id b more kept read one =
    sym (passes (count_value behind) (λ (_ : ⊤) r. go_on (fields_left wire levels left id r) (λ ys. give (field id (of_bool b) ys))) inside _ (ap passed_over one)
    (λ x. passed_given (fields_left wire levels left id inside) (field id (of_bool b))))
    ∙ opened_by wire levels most left last rest behind start (flagged id b) more kept read

pub fields_passed : (wire : Wire) (levels most left : ℕ) (last : ℤ) (rest behind start : Unread)
    → most ≡ suc left → AreFieldsPassed wire levels most last rest start → wire.field last rest ≡ Ok (stop, behind)
    → passed_over (field_list wire (value wire levels) (length start.bytes) (pos 0) start) ≡ Ok behind
unfolding field_behind
fields_passed wire levels most left last rest behind start more kept read =
    sym (opened_by wire levels most left last rest behind start stop more kept read)

pub headers_run_out : (wire : Wire) (levels most : ℕ) (last : ℤ) (rest start : Unread)
    → most ≡ 0 → AreFieldsPassed wire levels most last rest start
    → passed_over (field_list wire (value wire levels) (length start.bytes) (pos 0) start) ≡ Err Short
unfolding field_list
headers_run_out wire levels most last rest start none kept =
    sym kept ∙ (λ i. passed_over (field_list wire (value wire levels) (none i) last rest))
