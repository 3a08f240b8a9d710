-- Where the reading of a message stands, and what its grammar still asks for there.
use Rattle.std.specs.Prelude.{⊤, ◌≡◌, ℕ, zero, suc, ℤ, pos, negsuc, ◌≤◌, Bool, true, false, ◌==◌, if◌then◌else◌, List, [], ◌∷◌, slice_index, nat_lt}
use Rattle.std.specs.Int.{w32}
use Rattle.wire_num.specs.Fixed.{signed_of}
use Rattle.thrift_value.specs.declared.tag.Tag.{Tag}
use Rattle.thrift_value.specs.declared.tag.Tag.TheVariants as tags
use Rattle.binary_codec.specs.Faults.{scalar_len}
use Rattle.stream_model.specs.declared.fault.StreamFault.TheVariants.{TooLong}
use Rattle.stream_model.specs.Plan.{Plan, needs, faulty, ends, byte_plan, size_plan, sized, coded, items_coded_plan, pairs_coded_plan, items_plan, pairs_plan, fields_plan, value_plan, call_plan, name_plan, either_plan}
use Rattle.stream_model.specs.declared.outcome.MessageProgress.{MessageProgress}
use Rattle.stream_model.specs.declared.outcome.MessageProgress.TheVariants.{Wants, Whole as WholeAt, Refused as RefusedAt}
use Rattle.stream_model.specs.Progress.{progress}
use Rattle.stream_reader.specs.declared.stage.HeadItem.{HeadItem}
use Rattle.stream_reader.specs.declared.stage.HeadItem.TheVariants as heads
use Rattle.stream_reader.specs.declared.stage.BodyItem.{BodyItem}
use Rattle.stream_reader.specs.declared.stage.BodyItem.TheVariants as parts
use Rattle.stream_reader.specs.declared.stage.ReadStage.{ReadStage}
use Rattle.stream_reader.specs.declared.stage.ReadStage.TheVariants.{Head, Body, Whole, Refused}
use Rattle.stream_reader.specs.declared.stage.Level.{Level}
use Rattle.stream_reader.specs.declared.stage.Level.TheVariants.{Fields, Items, Keys, Values}

-- how many bytes an item of a head has
abbrev pub head_len : HeadItem → ℕ
head_len heads.First = 4
head_len (heads.NameSize _) = 4
head_len (heads.Name _ size) = size
head_len (heads.SequenceId _) = 4
head_len (heads.OldName size) = size
head_len heads.OldType = 1

-- how many bytes an item of a struct has
abbrev pub body_len : BodyItem → ℕ
body_len (parts.FieldType _) = 1
body_len (parts.FieldId _) = 2
body_len (parts.Number tag) = scalar_len tag
body_len parts.TextSize = 4
body_len (parts.Text size) = size
body_len parts.ItemsType = 1
body_len (parts.ItemsSize _) = 4
body_len parts.KeyType = 1
body_len (parts.ValueType _) = 1
body_len (parts.PairsSize _ _) = 4

-- how many bytes are read next
abbrev pub stage_len : ReadStage → ℕ
stage_len (Head item) = head_len item
stage_len (Body item) = body_len item
stage_len Whole = 0
stage_len (Refused _) = 0

-- an item has a byte at least
abbrev pub HasItemBytes : ReadStage → Type 0
HasItemBytes (Head item) = 1 ≤ head_len item
HasItemBytes (Body item) = 1 ≤ body_len item
HasItemBytes Whole = ⊤
HasItemBytes (Refused _) = ⊤

-- how many levels an item keeps open that stand on no stack: that of a struct whose next field it is, or of a container whose header it is part of
abbrev pub body_levels : BodyItem → ℕ
body_levels (parts.FieldType _) = 1
body_levels (parts.FieldId _) = 0
body_levels (parts.Number _) = 0
body_levels parts.TextSize = 0
body_levels (parts.Text _) = 0
body_levels parts.ItemsType = 1
body_levels (parts.ItemsSize _) = 1
body_levels parts.KeyType = 1
body_levels (parts.ValueType _) = 1
body_levels (parts.PairsSize _ _) = 1

abbrev pub held_levels : ReadStage → ℕ
held_levels (Head _) = 0
held_levels (Body item) = body_levels item
held_levels Whole = 0
held_levels (Refused _) = 0

-- The reading of a message: how many bytes it may have and how many were read, how many further levels may be opened and values may come, the open
-- levels, the innermost first, and what is read next
pub record Walked : Type 0 where
  pub most : ℕ
  pub at : ℕ
  pub levels : ℕ
  pub budget : ℕ
  pub stack : List Level
  pub stage : ReadStage

-- what is asked for behind a value, by how many further values may come
abbrev pub plan_behind : ℕ → ℕ → List Level → ℕ → Plan
plan_behind most levels [] budget = ends
plan_behind most levels (Fields heads ∷ stack) budget = fields_plan (value_plan most levels) heads budget (plan_behind most (suc levels) stack)
plan_behind most levels (Items tag left ∷ stack) budget = items_plan (value_plan most levels) tag left budget (plan_behind most (suc levels) stack)
plan_behind most levels (Keys key value left ∷ stack) budget = pairs_plan (value_plan most levels) key value left budget (plan_behind most (suc levels) stack)
plan_behind most levels (Values key value left ∷ stack) budget =
    value_plan most levels value budget (λ b. pairs_plan (value_plan most levels) key value left b (plan_behind most (suc levels) stack))

abbrev pub rest_plan : Walked → Plan
rest_plan w = plan_behind w.most w.levels w.stack w.budget

-- the items of a list or set, and the pairs of a map, whose header was read
abbrev pub opened_items : Walked → Tag → ℕ → Plan
opened_items w tag size = items_plan (value_plan w.most w.levels) tag size w.budget (plan_behind w.most (suc w.levels) w.stack)

abbrev pub opened_pairs : Walked → Tag → Tag → ℕ → Plan
opened_pairs w key value size = pairs_plan (value_plan w.most w.levels) key value size w.budget (plan_behind w.most (suc w.levels) w.stack)

-- behind the code of a field, or the stop
abbrev pub field_plan : Walked → ℕ → ℕ → Plan
field_plan w heads code =
    if code == 0 then plan_behind w.most (suc w.levels) w.stack w.budget
    else coded code (λ tag. needs 2 (λ id. value_plan w.most w.levels tag w.budget (λ b. fields_plan (value_plan w.most w.levels) heads b (plan_behind w.most (suc w.levels) w.stack))))

-- behind the type of a head
abbrev pub id_plan : ℕ → ℕ → Plan
id_plan most kind = needs 4 (λ id. call_plan most kind)

-- what is asked for behind the bytes of an item
abbrev pub head_next : ℕ → HeadItem → List ℕ → Plan
head_next most heads.First bytes = either_plan most (signed_of w32 bytes) bytes
head_next most (heads.NameSize kind) bytes = name_plan (id_plan most kind) (signed_of w32 bytes)
head_next most (heads.Name kind _) bytes = id_plan most kind
head_next most (heads.SequenceId kind) bytes = call_plan most kind
head_next most (heads.OldName _) bytes = byte_plan (λ kind. id_plan most kind)
head_next most heads.OldType bytes = id_plan most (slice_index bytes 0)

abbrev pub body_next : Walked → BodyItem → List ℕ → Plan
body_next w (parts.FieldType heads) bytes = field_plan w heads (slice_index bytes 0)
body_next w (parts.FieldId tag) bytes = value_plan w.most w.levels tag w.budget (plan_behind w.most w.levels w.stack)
body_next w (parts.Number _) bytes = rest_plan w
body_next w parts.TextSize bytes = size_plan (λ size. needs size (λ text. rest_plan w)) (signed_of w32 bytes)
body_next w (parts.Text _) bytes = rest_plan w
body_next w parts.ItemsType bytes = sized (λ size. items_coded_plan (slice_index bytes 0) size (opened_items w))
body_next w (parts.ItemsSize code) bytes = size_plan (λ size. items_coded_plan code size (opened_items w)) (signed_of w32 bytes)
body_next w parts.KeyType bytes = byte_plan (λ value. sized (λ size. pairs_coded_plan (slice_index bytes 0) value size (opened_pairs w)))
body_next w (parts.ValueType key) bytes = sized (λ size. pairs_coded_plan key (slice_index bytes 0) size (opened_pairs w))
body_next w (parts.PairsSize key value) bytes = size_plan (λ size. pairs_coded_plan key value size (opened_pairs w)) (signed_of w32 bytes)

abbrev pub stage_next : Walked → ReadStage → List ℕ → Plan
stage_next w (Head item) bytes = head_next w.most item bytes
stage_next w (Body item) bytes = body_next w item bytes
stage_next w Whole bytes = ends
stage_next w (Refused fault) bytes = faulty fault

-- what is still asked for
abbrev pub stage_plan : Walked → ReadStage → Plan
stage_plan w (Head item) = needs (head_len item) (head_next w.most item)
stage_plan w (Body item) = needs (body_len item) (body_next w item)
stage_plan w Whole = ends
stage_plan w (Refused fault) = faulty fault

abbrev pub walk_plan : Walked → Plan
walk_plan w = stage_plan w w.stage

-- what became of a message of which nothing is read any more
abbrev pub decided_at : ℕ → ReadStage → MessageProgress
decided_at at Whole = WholeAt at
decided_at at (Refused fault) = RefusedAt at fault
decided_at at (Head _) = Wants 0
decided_at at (Body _) = Wants 0

-- whatever bytes come, the reading goes on by this plan
abbrev pub GoesOnAs : Plan → Walked → Type 0
GoesOnAs plan w = (bytes : List ℕ) → progress w.most w.at plan bytes ≡ progress w.most w.at (walk_plan w) bytes

-- a number is below 0
abbrev pub IsNegative : ℤ → Type 0
IsNegative (pos _) = ⊥
IsNegative (negsuc _) = ⊤

-- one message is read still: as long, and as much of it
pub record IsSamePlace (old new : Walked) : Type 0 where
  pub most : new.most ≡ old.most
  pub at : new.at ≡ old.at

-- a struct or container is a level
abbrev pub opens_level : Tag → Bool
opens_level tags.Struct = true
opens_level tags.Map = true
opens_level tags.Set = true
opens_level tags.List = true
opens_level _ = false

-- what is read of a struct with at most so many headers, each of which is a byte at least
abbrev pub field_stage : ℕ → ReadStage
field_stage zero = Refused TooLong
field_stage (suc heads) = Body (parts.FieldType heads)

-- what is read first of a value
abbrev pub first_stage : ℕ → Tag → ReadStage
first_stage most tags.Bytes = Body parts.TextSize
first_stage most tags.Struct = field_stage most
first_stage most tags.Map = Body parts.KeyType
first_stage most tags.Set = Body parts.ItemsType
first_stage most tags.List = Body parts.ItemsType
first_stage most tag = Body (parts.Number tag)

-- what is read first of a message of at most so many bytes
abbrev pub message_stage : ℕ → ReadStage
message_stage most = if nat_lt most 4 then Refused TooLong else Head heads.First

-- what is read behind the length of a name, of which an empty one is no item
abbrev pub name_stage : ℕ → ℕ → ReadStage
name_stage kind zero = Head (heads.SequenceId kind)
name_stage kind (suc size) = Head (heads.Name kind (suc size))

abbrev pub old_name_stage : ℕ → ReadStage
old_name_stage zero = Head heads.OldType
old_name_stage (suc size) = Head (heads.OldName (suc size))

-- nothing was read of a message of at most so many bytes
pub record IsNewWalk (max : ℕ) (w : Walked) : Type 0 where
  pub most : w.most ≡ max
  pub at : w.at ≡ 0
  pub stage : w.stage ≡ message_stage max

-- nothing more comes of a list, set or map
abbrev pub is_used_up : Level → Bool
is_used_up (Fields _) = false
is_used_up (Items _ left) = left == 0
is_used_up (Keys _ _ left) = left == 0
is_used_up (Values _ _ _) = false
