-- One step of a reading is one unfolding of its plan.
use Rattle.std.proofs.Common.{◌≡◌, ℕ, zero, suc, ℤ, pos, negsuc, ◌+◌, ◌-◌, ◌≤◌, ◌<◌, ◌==◌, ◌&&◌, slice_index, Bool, true, false, cond, nat_lt, subst, List, [], ◌∷◌, ◌++◌, length, reverse, take, drop, refl, sym, ap, ◌∙◌, arith}
use Rattle.std.proofs.lemmas.List.{reverse-append, length-reverse}
use Rattle.std.proofs.lemmas.Bool.{le-ltb, lt-ltb, eqb-true, ne_eqb}
use Rattle.std.specs.Int.{w32}
use Rattle.wire_num.specs.Fixed.{unsigned_of}
use Rattle.streams.specs.declared.outcomes.EnvelopeFault.TheVariants.{NameSize, Version}
use Rattle.envelope.specs.Spelling.{strict_mark, strict_version}
use Rattle.stream_reader.specs.declared.stage.HeadItem.TheVariants.{NameSize as NameLen}
use Rattle.thrift_value.specs.declared.tag.Tag.{Tag}
use Rattle.thrift_value.specs.declared.tag.Tag.TheVariants as tags
use Rattle.thrift_value.specs.declared.wire_fault.WireFault.TheVariants.{BadSize, TooDeep, TooMany}
use Rattle.stream_model.specs.declared.fault.StreamFault.TheVariants.{Body as BodyFault, Envelope, TooLong}
use Rattle.stream_model.specs.Plan.{Plan, Values, needs, faulty, byte_plan, size_plan, coded, parts_plan, fields_plan, value_plan, name_plan, either_plan, strict_plan}
use Rattle.stream_model.specs.declared.outcome.MessageProgress.{MessageProgress}
use Rattle.stream_model.specs.declared.outcome.MessageProgress.TheVariants.{Refused as RefusedAt, Wants}
use Rattle.stream_model.specs.Progress.{progress}
use Rattle.stream_reader.specs.declared.stage.HeadItem.{HeadItem}
use Rattle.stream_reader.specs.declared.stage.BodyItem.{BodyItem}
use Rattle.stream_reader.specs.declared.stage.BodyItem.TheVariants.{FieldId}
use Rattle.stream_reader.specs.declared.stage.BodyItem.TheVariants as parts
use Rattle.stream_reader.specs.declared.stage.Level.{Level}
use Rattle.stream_reader.specs.declared.stage.Level.TheVariants.{Fields, Items, Keys, Values as PairValues}
use Rattle.stream_reader.specs.declared.stage.ReadStage.{ReadStage}
use Rattle.stream_reader.specs.declared.stage.ReadStage.TheVariants.{Head, Body, Whole, Refused}
use Rattle.stream_reader.specs.Stages.{Walked, plan_behind, rest_plan, walk_plan, stage_plan, stage_len, id_plan, head_next, body_next, stage_next, field_plan, GoesOnAs, IsSamePlace, first_stage, field_stage, name_stage, old_name_stage, opens_level, is_used_up, IsNegative}

one_less : (n : ℕ) → n ≡ suc n - 1
one_less n = omega arith

one_more : (n : ℕ) → suc n ≡ n + 1
one_more n = omega arith

-- a struct begins with the header of a field
pub fields_begin : (most at levels budget : ℕ) (stack : List Level) (heads : ℕ)
    → fields_plan (value_plan most levels) heads budget (plan_behind most (suc levels) stack)
    ≡ walk_plan (record { most = most; at = at; levels = levels; budget = budget; stack = stack; stage = field_stage heads })
fields_begin most at levels budget stack zero = refl
fields_begin most at levels budget stack (suc heads) = refl

-- a value that opens no level
leaf_parts : (value : Values) (most at levels inner budget : ℕ) (stack : List Level) (tag : Tag) → opens_level tag ≡ false
    → parts_plan most inner value tag budget (plan_behind most levels stack)
    ≡ walk_plan (record { most = most; at = at; levels = levels; budget = budget; stack = stack; stage = first_stage most tag })
leaf_parts value most at levels inner budget stack tags.Bool e = refl
leaf_parts value most at levels inner budget stack tags.I8 e = refl
leaf_parts value most at levels inner budget stack tags.Double e = refl
leaf_parts value most at levels inner budget stack tags.I16 e = refl
leaf_parts value most at levels inner budget stack tags.I32 e = refl
leaf_parts value most at levels inner budget stack tags.I64 e = refl
leaf_parts value most at levels inner budget stack tags.Bytes e = refl
leaf_parts value most at levels inner budget stack tags.Uuid e = refl
leaf_parts value most at levels inner budget stack tags.Struct e = absurd cc
leaf_parts value most at levels inner budget stack tags.Map e = absurd cc
leaf_parts value most at levels inner budget stack tags.Set e = absurd cc
leaf_parts value most at levels inner budget stack tags.List e = absurd cc

pub leaf_begins : (most at levels budget : ℕ) (stack : List Level) (tag : Tag) → opens_level tag ≡ false → 1 ≤ budget
    → value_plan most levels tag budget (plan_behind most levels stack)
    ≡ walk_plan (record { most = most; at = at; levels = levels; budget = budget - 1; stack = stack; stage = first_stage most tag })
leaf_begins most at levels zero stack tag e some = absurd (let f : ⊥ = omega arith in f)
leaf_begins most at zero (suc budget) stack tag e some =
    leaf_parts (λ other c more. faulty (BodyFault TooDeep)) most at zero zero budget stack tag e
    ∙ ap (λ (n : ℕ). walk_plan (record { most = most; at = at; levels = zero; budget = n; stack = stack; stage = first_stage most tag })) (one_less budget)
leaf_begins most at (suc levels) (suc budget) stack tag e some =
    leaf_parts (value_plan most levels) most at (suc levels) (suc levels) budget stack tag e
    ∙ ap (λ (n : ℕ). walk_plan (record { most = most; at = at; levels = suc levels; budget = n; stack = stack; stage = first_stage most tag })) (one_less budget)

-- one that opens one
level_parts : (most at levels budget : ℕ) (stack : List Level) (tag : Tag) → opens_level tag ≡ true
    → parts_plan most (suc levels) (value_plan most levels) tag budget (plan_behind most (suc levels) stack)
    ≡ walk_plan (record { most = most; at = at; levels = levels; budget = budget; stack = stack; stage = first_stage most tag })
level_parts most at levels budget stack tags.Bool e = absurd cc
level_parts most at levels budget stack tags.I8 e = absurd cc
level_parts most at levels budget stack tags.Double e = absurd cc
level_parts most at levels budget stack tags.I16 e = absurd cc
level_parts most at levels budget stack tags.I32 e = absurd cc
level_parts most at levels budget stack tags.I64 e = absurd cc
level_parts most at levels budget stack tags.Bytes e = absurd cc
level_parts most at levels budget stack tags.Uuid e = absurd cc
level_parts most at levels budget stack tags.Struct e = fields_begin most at levels budget stack most
level_parts most at levels budget stack tags.Map e = refl
level_parts most at levels budget stack tags.Set e = refl
level_parts most at levels budget stack tags.List e = refl

pub level_begins : (most at levels budget : ℕ) (stack : List Level) (tag : Tag) → opens_level tag ≡ true → 1 ≤ budget → 1 ≤ levels
    → value_plan most levels tag budget (plan_behind most levels stack)
    ≡ walk_plan (record { most = most; at = at; levels = levels - 1; budget = budget - 1; stack = stack; stage = first_stage most tag })
level_begins most at levels zero stack tag e some l = absurd (let f : ⊥ = omega arith in f)
level_begins most at zero (suc budget) stack tag e some l = absurd (let f : ⊥ = omega arith in f)
level_begins most at (suc levels) (suc budget) stack tag e some l =
    level_parts most at levels budget stack tag e
    ∙ ap (λ (n : ℕ). walk_plan (record { most = most; at = at; levels = levels; budget = n; stack = stack; stage = first_stage most tag })) (one_less budget)
    ∙ ap (λ (n : ℕ). walk_plan (record { most = most; at = at; levels = n; budget = suc budget - 1; stack = stack; stage = first_stage most tag })) (one_less levels)

-- no further value may come, or no further level be opened
pub none_left : (most levels budget : ℕ) (next : ℕ → Plan) (tag : Tag) → budget ≡ 0 → value_plan most levels tag budget next ≡ faulty (BodyFault TooMany)
none_left most zero zero next tag e = refl
none_left most (suc levels) zero next tag e = refl
none_left most levels (suc budget) next tag e = absurd cc

deep_parts : (value : Values) (most budget : ℕ) (next : ℕ → Plan) (tag : Tag) → opens_level tag ≡ true → parts_plan most zero value tag budget next ≡ faulty (BodyFault TooDeep)
deep_parts value most budget next tags.Bool e = absurd cc
deep_parts value most budget next tags.I8 e = absurd cc
deep_parts value most budget next tags.Double e = absurd cc
deep_parts value most budget next tags.I16 e = absurd cc
deep_parts value most budget next tags.I32 e = absurd cc
deep_parts value most budget next tags.I64 e = absurd cc
deep_parts value most budget next tags.Bytes e = absurd cc
deep_parts value most budget next tags.Uuid e = absurd cc
deep_parts value most budget next tags.Struct e = refl
deep_parts value most budget next tags.Map e = refl
deep_parts value most budget next tags.Set e = refl
deep_parts value most budget next tags.List e = refl

pub too_deep : (most levels budget : ℕ) (next : ℕ → Plan) (tag : Tag) → opens_level tag ≡ true → 1 ≤ budget → levels ≡ 0
    → value_plan most levels tag budget next ≡ faulty (BodyFault TooDeep)
too_deep most zero zero next tag o some e = absurd (let f : ⊥ = omega arith in f)
too_deep most zero (suc budget) next tag o some e = deep_parts (λ other c more. faulty (BodyFault TooDeep)) most budget next tag o
too_deep most (suc levels) budget next tag o some e = absurd cc

-- ---- the stack

-- the top of a stack
pub stack_top : (frames rest : List Level) (frame : Level) → frames ≡ rest ++ frame ∷ [] → reverse frames ≡ frame ∷ reverse rest
stack_top frames rest frame e = ap (λ (t : List Level). reverse t) e ∙ reverse-append rest (frame ∷ [])

pub reversed_len : (frames : List Level) → length (reverse frames) ≡ length frames
reversed_len frames = length-reverse frames

-- behind the last value of all the message ends
pub none_open : (w : Walked) → w.stack ≡ [] → rest_plan w ≡ walk_plan (record w { stage = Whole })
none_open w e = ap (λ (t : List Level). plan_behind w.most w.levels t w.budget) e

not_none : (n : ℕ) → (suc n == 0) ≡ true → ⊥
not_none n e = let same : suc n ≡ 0 = eqb-true (suc n) 0 e in omega (arith, same)

-- behind the last of its parts a list, set or map ends
pub used_up : (most levels budget : ℕ) (level : Level) (stack : List Level) → is_used_up level ≡ true
    → plan_behind most levels (level ∷ stack) budget ≡ plan_behind most (levels + 1) stack budget
used_up most levels budget (Fields heads) stack e = absurd cc
used_up most levels budget (Items tag zero) stack e = ap (λ (n : ℕ). plan_behind most n stack budget) (one_more levels)
used_up most levels budget (Items tag (suc left)) stack e = absurd (not_none left e)
used_up most levels budget (Keys key value zero) stack e = ap (λ (n : ℕ). plan_behind most n stack budget) (one_more levels)
used_up most levels budget (Keys key value (suc left)) stack e = absurd (not_none left e)
used_up most levels budget (PairValues key value left) stack e = absurd cc

-- before that one more comes
pub items_more : (most levels budget left : ℕ) (tag : Tag) (stack : List Level) → is_used_up (Items tag left) ≡ false
    → plan_behind most levels (Items tag left ∷ stack) budget ≡ value_plan most levels tag budget (plan_behind most levels (Items tag (left - 1) ∷ stack))
items_more most levels budget zero tag stack e = absurd cc
items_more most levels budget (suc left) tag stack e = ap (λ (n : ℕ). value_plan most levels tag budget (plan_behind most levels (Items tag n ∷ stack))) (one_less left)

pub pairs_more : (most levels budget left : ℕ) (key value : Tag) (stack : List Level) → is_used_up (Keys key value left) ≡ false
    → plan_behind most levels (Keys key value left ∷ stack) budget ≡ value_plan most levels key budget (plan_behind most levels (PairValues key value (left - 1) ∷ stack))
pairs_more most levels budget zero key value stack e = absurd cc
pairs_more most levels budget (suc left) key value stack e = ap (λ (n : ℕ). value_plan most levels key budget (plan_behind most levels (PairValues key value n ∷ stack))) (one_less left)

-- the next field, and the value of a pair
pub next_field : (v old : Walked) (level : Level) (heads : ℕ) (stage : ReadStage) → v ≡ old → level ≡ Fields heads → stage ≡ field_stage heads
    → plan_behind old.most old.levels (level ∷ old.stack) old.budget
    ≡ walk_plan (record { most = v.most; at = v.at; levels = v.levels; budget = v.budget; stack = v.stack; stage = stage })
next_field v old level heads stage same is made =
    subst (λ (w : Walked). plan_behind w.most w.levels (level ∷ w.stack) w.budget
    ≡ walk_plan (record { most = v.most; at = v.at; levels = v.levels; budget = v.budget; stack = v.stack; stage = stage })) same
    (ap (λ (l : Level). plan_behind v.most v.levels (l ∷ v.stack) v.budget) is
    ∙ fields_begin v.most v.at v.levels v.budget v.stack heads
    ∙ ap (λ (t : ReadStage). walk_plan (record { most = v.most; at = v.at; levels = v.levels; budget = v.budget; stack = v.stack; stage = t })) (sym made))

pub pair_value : (most levels budget left : ℕ) (key value : Tag) (stack : List Level)
    → plan_behind most levels (PairValues key value left ∷ stack) budget ≡ value_plan most levels value budget (plan_behind most levels (Keys key value left ∷ stack))
pair_value most levels budget left key value stack = refl

-- a field's value, behind its id
pub field_goes_on : (w : Walked) (heads code : ℕ) (tag : Tag) (stack : List Level) → 1 ≤ code → ((next : Tag → Plan) → coded code next ≡ next tag)
    → stack ≡ Fields heads ∷ w.stack
    → field_plan w heads code ≡ walk_plan (record { most = w.most; at = w.at; levels = w.levels; budget = w.budget; stack = stack; stage = Body (FieldId tag) })
field_goes_on w heads code tag stack some is pushed = let
    value : Tag → Plan = λ t. needs 2 (λ id. value_plan w.most w.levels t w.budget (plan_behind w.most w.levels (Fields heads ∷ w.stack))) in
    ap (λ (b : Bool). cond b (plan_behind w.most (suc w.levels) w.stack w.budget) (coded code value)) (ne_eqb code 0 (λ e. omega (arith, e, some)))
    ∙ is value
    ∙ ap (λ (t : List Level). needs 2 (λ id. value_plan w.most w.levels tag w.budget (plan_behind w.most w.levels t))) (sym pushed)

-- ---- sizes

long_if : (most at count : ℕ) (g : MessageProgress) → most < at + count → cond (nat_lt most (at + count)) (RefusedAt at TooLong) g ≡ RefusedAt at TooLong
long_if most at count g long = ap (λ (b : Bool). cond b (RefusedAt at TooLong) g) (lt-ltb most (at + count) long)

fits_if : (most at count : ℕ) (g : MessageProgress) → at + count ≤ most → cond (nat_lt most (at + count)) (RefusedAt at TooLong) g ≡ g
fits_if most at count g fits = ap (λ (b : Bool). cond b (RefusedAt at TooLong) g) (le-ltb most (at + count) fits)

-- a size below 0
pub negative_size : (most at : ℕ) (number : ℤ) (next : ℕ → Plan) (bytes : List ℕ) → IsNegative number
    → progress most at (size_plan next number) bytes ≡ RefusedAt at (BodyFault BadSize)
negative_size most at (pos size) next bytes n = absurd n
negative_size most at (negsuc size) next bytes n = refl

-- one that passes the end
pub too_large : (most at size : ℕ) (number : ℤ) (next : ℕ → Plan) (bytes : List ℕ) → number ≡ pos size → at ≤ most → most - at < size
    → progress most at (size_plan next number) bytes ≡ RefusedAt at TooLong
too_large most at size number next bytes e w l =
    ap (λ (z : ℤ). progress most at (size_plan next z) bytes) e ∙ long_if most at size (progress most at (next size) bytes) (omega arith)

-- one that doesn't
pub room_follows : (most at size : ℕ) (number : ℤ) (next : ℕ → Plan) (plan : Plan) → number ≡ pos size → at + size ≤ most
    → ((bytes : List ℕ) → progress most at (next size) bytes ≡ progress most at plan bytes)
    → (bytes : List ℕ) → progress most at (size_plan next number) bytes ≡ progress most at plan bytes
room_follows most at size number next plan e fits on bytes =
    ap (λ (z : ℤ). progress most at (size_plan next z) bytes) e ∙ fits_if most at size (progress most at (next size) bytes) fits ∙ on bytes

pub room_is : (most at size : ℕ) (number : ℤ) (next : ℕ → Plan) (plan : Plan) → number ≡ pos size → at + size ≤ most → next size ≡ plan
    → (bytes : List ℕ) → progress most at (size_plan next number) bytes ≡ progress most at plan bytes
room_is most at size number next plan e fits on =
    room_follows most at size number next plan e fits (λ bytes. ap (λ (p : Plan). progress most at p bytes) on)

-- nothing is needed for an item without bytes
pub none_needed : (most at size : ℕ) (next : List ℕ → Plan) (plan : Plan) → at + size ≤ most → size ≡ 0 → next [] ≡ plan
    → (bytes : List ℕ) → progress most at (needs size next) bytes ≡ progress most at plan bytes
none_needed most at (suc size) next plan fits none on bytes = absurd cc
none_needed most at zero next plan fits none on bytes = let
    plan_behind : MessageProgress = progress most (at + 0) (next (take 0 bytes)) (drop 0 bytes) in
    let same : at + 0 ≡ at = omega arith in
    fits_if most at 0 (cond (nat_lt (length bytes) 0) (Wants (0 - length bytes)) plan_behind) fits
    ∙ ap (λ (b : Bool). cond b (Wants (0 - length bytes)) plan_behind) (le-ltb (length bytes) 0 (omega arith))
    ∙ ap (λ (n : ℕ). progress most n (next (take 0 bytes)) (drop 0 bytes)) same
    ∙ ap (λ (p : Plan). progress most at p bytes) on

-- an item that passes the end
pub past_the_end : (w : Walked) (stage : ReadStage) (bytes : List ℕ) → w.at ≤ w.most → w.most - w.at < stage_len stage
    → progress w.most w.at (stage_plan w stage) bytes ≡ RefusedAt w.at TooLong
past_the_end w (Head item) bytes within l = long_if w.most w.at (stage_len (Head item)) _ (omega arith)
past_the_end w (Body item) bytes within l = long_if w.most w.at (stage_len (Body item)) _ (omega arith)
past_the_end w Whole bytes within l = absurd (let f : ⊥ = omega arith in f)
past_the_end w (Refused fault) bytes within l = absurd (let f : ⊥ = omega arith in f)

-- ---- heads

pub strict_first : (most : ℕ) (number : ℤ) (first : List ℕ) → IsNegative number → either_plan most number first ≡ strict_plan most first
strict_first most (pos size) first n = absurd n
strict_first most (negsuc size) first n = refl

pub old_first : (most size : ℕ) (number : ℤ) (first : List ℕ) → number ≡ pos size
    → either_plan most number first ≡ needs size (λ name. byte_plan (λ kind. id_plan most kind))
old_first most size number first e = ap (λ (z : ℤ). either_plan most z first) e

pub negative_name : (next : Plan) (number : ℤ) → IsNegative number → name_plan next number ≡ faulty (Envelope NameSize)
negative_name next (pos size) n = absurd n
negative_name next (negsuc size) n = refl

-- a name, or none
name_if : (v : Walked) (kind size : ℕ) → v.at ≤ v.most → (bytes : List ℕ) → progress v.most v.at (needs size (λ name. id_plan v.most kind)) bytes
    ≡ progress v.most v.at (walk_plan (record { most = v.most; at = v.at; levels = v.levels; budget = v.budget; stack = v.stack; stage = name_stage kind size })) bytes
name_if v kind zero within bytes = none_needed v.most v.at 0 (λ name. id_plan v.most kind) (id_plan v.most kind) (omega (arith, within)) refl refl bytes
name_if v kind (suc size) within bytes = refl

pub name_follows : (v old : Walked) (kind size : ℕ) (number : ℤ) (stage : ReadStage) → v ≡ old → number ≡ pos size → stage ≡ name_stage kind size → old.at ≤ old.most
    → (bytes : List ℕ) → progress v.most v.at (name_plan (id_plan old.most kind) number) bytes
    ≡ progress v.most v.at (walk_plan (record { most = v.most; at = v.at; levels = v.levels; budget = v.budget; stack = v.stack; stage = stage })) bytes
name_follows v old kind size number stage same e made within bytes =
    ap (λ (w : Walked). progress v.most v.at (name_plan (id_plan w.most kind) number) bytes) (sym same)
    ∙ ap (λ (z : ℤ). progress v.most v.at (name_plan (id_plan v.most kind) z) bytes) e
    ∙ name_if v kind size (subst (λ (w : Walked). w.at ≤ w.most) (sym same) within) bytes
    ∙ ap (λ (t : ReadStage). progress v.most v.at (walk_plan (record { most = v.most; at = v.at; levels = v.levels; budget = v.budget; stack = v.stack; stage = t })) bytes) (sym made)

old_name_if : (v : Walked) (size : ℕ) → v.at ≤ v.most → (bytes : List ℕ)
    → progress v.most v.at (needs size (λ name. byte_plan (λ kind. id_plan v.most kind))) bytes
    ≡ progress v.most v.at (walk_plan (record { most = v.most; at = v.at; levels = v.levels; budget = v.budget; stack = v.stack; stage = old_name_stage size })) bytes
old_name_if v zero within bytes =
    none_needed v.most v.at 0 (λ name. byte_plan (λ kind. id_plan v.most kind)) (byte_plan (λ kind. id_plan v.most kind)) (omega (arith, within)) refl refl bytes
old_name_if v (suc size) within bytes = refl

pub old_name_follows : (v old : Walked) (size : ℕ) (stage : ReadStage) → v ≡ old → stage ≡ old_name_stage size → old.at ≤ old.most → (bytes : List ℕ)
    → progress v.most v.at (needs size (λ name. byte_plan (λ kind. id_plan old.most kind))) bytes
    ≡ progress v.most v.at (walk_plan (record { most = v.most; at = v.at; levels = v.levels; budget = v.budget; stack = v.stack; stage = stage })) bytes
old_name_follows v old size stage same made within bytes =
    ap (λ (w : Walked). progress v.most v.at (needs size (λ name. byte_plan (λ kind. id_plan w.most kind))) bytes) (sym same)
    ∙ old_name_if v size (subst (λ (w : Walked). w.at ≤ w.most) (sym same) within) bytes
    ∙ ap (λ (t : ReadStage). progress v.most v.at (walk_plan (record { most = v.most; at = v.at; levels = v.levels; budget = v.budget; stack = v.stack; stage = t })) bytes) (sym made)

-- ---- an item, which is known

pub head_known : (v old : Walked) (item is : HeadItem) (bytes : List ℕ) → v ≡ old → item ≡ is → (more : List ℕ)
    → progress v.most v.at (head_next old.most item bytes) more ≡ progress v.most v.at (head_next v.most is bytes) more
head_known v old item is bytes same e more =
    ap (λ (w : Walked). progress v.most v.at (head_next w.most item bytes) more) (sym same) ∙ ap (λ (i : HeadItem). progress v.most v.at (head_next v.most i bytes) more) e

pub body_known : (v old : Walked) (item is : BodyItem) (bytes : List ℕ) → v ≡ old → item ≡ is → (more : List ℕ)
    → progress v.most v.at (body_next old item bytes) more ≡ progress v.most v.at (body_next v is bytes) more
body_known v old item is bytes same e more =
    ap (λ (w : Walked). progress v.most v.at (body_next w item bytes) more) (sym same) ∙ ap (λ (i : BodyItem). progress v.most v.at (body_next v i bytes) more) e

-- ---- one step of several

-- what is asked for behind an item doesn't rest on the place
body_anywhere : (v : Walked) (at : ℕ) (item : BodyItem) (bytes : List ℕ)
    → body_next (record { most = v.most; at = at; levels = v.levels; budget = v.budget; stack = v.stack; stage = v.stage }) item bytes ≡ body_next v item bytes
body_anywhere v at (parts.FieldType heads) bytes = refl
body_anywhere v at (parts.FieldId tag) bytes = refl
body_anywhere v at (parts.Number tag) bytes = refl
body_anywhere v at parts.TextSize bytes = refl
body_anywhere v at (parts.Text size) bytes = refl
body_anywhere v at parts.ItemsType bytes = refl
body_anywhere v at (parts.ItemsSize code) bytes = refl
body_anywhere v at parts.KeyType bytes = refl
body_anywhere v at (parts.ValueType key) bytes = refl
body_anywhere v at (parts.PairsSize key value) bytes = refl

stage_anywhere : (v : Walked) (at : ℕ) (stage : ReadStage) (bytes : List ℕ)
    → stage_next (record { most = v.most; at = at; levels = v.levels; budget = v.budget; stack = v.stack; stage = v.stage }) stage bytes ≡ stage_next v stage bytes
stage_anywhere v at (Head item) bytes = refl
stage_anywhere v at (Body item) bytes = body_anywhere v at item bytes
stage_anywhere v at Whole bytes = refl
stage_anywhere v at (Refused fault) bytes = refl

then_follows : (one two : Walked) (plan : Plan) → GoesOnAs plan one → GoesOnAs (walk_plan one) two → IsSamePlace one two → GoesOnAs plan two
then_follows one two plan f g same bytes =
    ap (λ (n : ℕ). progress n two.at plan bytes) same.most
    ∙ ap (λ (n : ℕ). progress one.most n plan bytes) same.at
    ∙ f bytes
    ∙ ap (λ (n : ℕ). progress one.most n (walk_plan one) bytes) (sym same.at)
    ∙ ap (λ (n : ℕ). progress n two.at (walk_plan one) bytes) (sym same.most)
    ∙ g bytes

-- the bytes are taken, and what is read next is looked at
pub both_follow : (v old one two : Walked) (at : ℕ) (bytes : List ℕ) → v ≡ old
    → GoesOnAs (stage_next (record { most = v.most; at = at; levels = v.levels; budget = v.budget; stack = v.stack; stage = v.stage }) v.stage bytes) one
    → GoesOnAs (walk_plan one) two → IsSamePlace one two → GoesOnAs (stage_next old old.stage bytes) two
both_follow v old one two at bytes same f g place =
    subst (λ (w : Walked). GoesOnAs (stage_next w w.stage bytes) two) same
    (subst (λ (p : Plan). GoesOnAs p two) (stage_anywhere v at v.stage bytes)
    (then_follows one two (stage_next (record { most = v.most; at = at; levels = v.levels; budget = v.budget; stack = v.stack; stage = v.stage }) v.stage bytes) f g place))

-- a strict head of this version, and of another one
pub strict_begins : (most : ℕ) (first : List ℕ) → (slice_index first 0 == strict_mark && slice_index first 1 == strict_version) ≡ true
    → strict_plan most first ≡ needs 4 (head_next most (NameLen (slice_index first 3)))
strict_begins most first e =
    ap (λ (b : Bool). cond b (needs 4 (head_next most (NameLen (slice_index first 3)))) (faulty (Envelope (Version (unsigned_of w32 first))))) e

pub other_version : (most : ℕ) (first : List ℕ) → (slice_index first 0 == strict_mark && slice_index first 1 == strict_version) ≡ false
    → strict_plan most first ≡ faulty (Envelope (Version (unsigned_of w32 first)))
other_version most first e =
    ap (λ (b : Bool). cond b (needs 4 (head_next most (NameLen (slice_index first 3)))) (faulty (Envelope (Version (unsigned_of w32 first))))) e
