-- Each call that is decided is plain, and its slot is one of those that are bound.
use Rattle.std.proofs.Common.{◌≡◌, ℕ, suc, pos, ◌-◌, ◌<◌, Bool, true, false, List, length, Option, Some, None, Result, Ok, Err, refl, sym, ap, subst}
use Rattle.std.specs.Prelude.{⊤, option_and_then}
use Rattle.std.specs.List.{slice_get}
use Rattle.std.specs.Option.{option_map}
use Rattle.std.proofs.lemmas.Option.{slice_get_within}
use Rattle.std.proofs.lemmas.Slice.Eq.{bytes_eq-Decides}
use Rattle.streams.specs.declared.outcomes.EnvelopeFault.{EnvelopeFault}
use Rattle.host_model.specs.DeskRules.{DeskDecision, Invoke}
use Rattle.call_rules.specs.PlainCalls.{PlainCall, IsPlainValue, IsStruct}
use Rattle.envelope.specs.declared.head.Head.{Head}
use Rattle.envelope.specs.declared.head.Protocol.{Protocol}
use Rattle.envelope.specs.Exception.{Failure}
use Rattle.envelope.specs.Readout.{head_at}
use Rattle.schema.specs.PlainKind.{kind_struct}
use Rattle.schema.specs.PlainSchema.{PlainFunction, PlainStruct, PlainSchema}
use Rattle.schema.specs.Sound.{IsSound, IsPlaceIn, IsSchemaName}
use Rattle.schema.specs.WrittenAs.{IsWrittenAs}
use Rattle.struct_skew.specs.declared.fault.SkewFault.{SkewFault}
use Rattle.struct_skew.specs.Projection.{projection}
use Rattle.thrift_value.specs.declared.tag.Tag.TheVariants as tags
use Rattle.thrift_value.specs.declared.wire_fault.WireFault.{WireFault}
use Rattle.thrift_value.specs.Tags.{tag_of}
use Rattle.thrift_value.specs.Tree.{Tree, of_struct, FieldTrees}
use Rattle.wire_model.specs.Decoder.{Decoder, Unread, ◌>>=◌, give, room, count_value}
use Rattle.wire_model.specs.Place.{struct_at, placed}
use Rattle.wire_model.specs.Reading.{deeper, field_list, parts, layer, value}
use Rattle.wire_model.specs.Wire.{Wire}
use Rattle.wire_model.proofs.Steps.{went_on, ok_is}
use Rattle.call_model.specs.Offices.{Binding, PlainOffice}
use Rattle.call_model.specs.Names.{Bound, bound_at, slot_asked, service_part, method_part, service_asked, function_asked}
use Rattle.call_model.specs.Arguments.{wire_of, projected_or_fault, read_as_arguments, arguments_at}
use Rattle.call_model.specs.Decisions.{is_silent, refused, call_made, decided_on_function, decided_on_service, decided_on_head, decision}
use Rattle.call_model.proofs.Found.{function_sound, args_place}

-- what is read under the tag of structs is one
struct_read : (wire : Wire) (levels : ℕ) (before : Unread) (x : Tree × Unread) → value wire (suc levels) tags.Struct before ≡ Ok x → tag_of x.0 ≡ tags.Struct
unfolding value layer parts
struct_read wire levels before x e =
    let behind : FieldTrees → Decoder Tree = λ fields. give (of_struct fields) in
    let holds : ℕ → Decoder Tree = λ most. field_list wire (value wire levels) most (pos 0) >>= behind in
    let opened : ⊤ → Decoder Tree = λ level. room >>= holds in
    let one = went_on (count_value before) (λ counted. parts wire (suc levels) (value wire levels) tags.Struct) x e in
    let level = went_on (deeper (suc levels) one.0.1) opened x one.2 in
    let most = went_on (room level.0.1) holds x level.2 in
    let fields = went_on (field_list wire (value wire levels) most.0.0 (pos 0) most.0.1) behind x most.2 in
    ap (λ (y : Tree × Unread). tag_of y.0) (sym (ok_is (of_struct fields.0.0, fields.0.1) x fields.2))

abbrev found_at : Tree × ℕ → Result (Tree × ℕ) WireFault
found_at x = Ok x

same_found : (x y : Tree × ℕ) → found_at x ≡ found_at y → x ≡ y
same_found x y e = cc

placed_struct : (size : ℕ) (r : Result (Tree × Unread) WireFault) (found : Tree × ℕ) → ((x : Tree × Unread) → r ≡ Ok x → tag_of x.0 ≡ tags.Struct)
    → placed size r ≡ Ok found → tag_of found.0 ≡ tags.Struct
placed_struct size (Ok x) found is e =
    subst (λ (y : Tree × ℕ). tag_of y.0 ≡ tags.Struct) (same_found (x.0, size - length x.1.bytes) found e) (is x refl)
placed_struct size (Err fault) found is e = absurd cc

found_struct : (wire : Wire) (bytes : List ℕ) (at : ℕ) (found : Tree × ℕ) → struct_at wire bytes at ≡ Ok found → tag_of found.0 ≡ tags.Struct
found_struct wire bytes at found e = placed_struct (length bytes) _ found (struct_read wire 63 _) e

-- what is written under the type of a struct is one
pub struct_written : (structs : List PlainStruct) (which : ℕ) (value : Tree) → IsWrittenAs structs (kind_struct which) value → IsStruct value
struct_written structs which (of_struct _) is = tt
struct_written structs which value is = absurd is

-- a projection on the struct at a number is a plain struct
abbrev pub ProjectsPlainly : PlainSchema → ℕ → Type 0
ProjectsPlainly s which = (raw value : Tree) → tag_of raw ≡ tags.Struct → projection s which raw ≡ Ok value → IsPlainValue value × IsStruct value

abbrev taken : Tree → Result Tree Failure
taken args = Ok args

same_args : (x y : Tree) → taken x ≡ taken y → x ≡ y
same_args x y e = cc

projected_plain : (s : PlainSchema) (which : ℕ) → ProjectsPlainly s which → (raw : Tree) → tag_of raw ≡ tags.Struct → (r : Result Tree SkewFault) (args : Tree)
    → projection s which raw ≡ r → projected_or_fault s r ≡ taken args → IsPlainValue args × IsStruct args
projected_plain s which plainly raw is (Ok value) args same e =
    subst (λ (v : Tree). IsPlainValue v × IsStruct v) (same_args value args e) (plainly raw value is same)
projected_plain s which plainly raw is (Err fault) args same e = absurd cc

read_plain : (s : PlainSchema) (which : ℕ) → ProjectsPlainly s which → (r : Result (Tree × ℕ) WireFault) (args : Tree)
    → ((found : Tree × ℕ) → r ≡ Ok found → tag_of found.0 ≡ tags.Struct) → read_as_arguments s which r ≡ taken args → IsPlainValue args × IsStruct args
read_plain s which plainly (Ok found) args is e = projected_plain s which plainly found.0 (is found refl) (projection s which found.0) args refl e
read_plain s which plainly (Err fault) args is e = absurd cc

arguments_plain : (s : PlainSchema) (p : Protocol) (which : ℕ) → ProjectsPlainly s which → (payload : List ℕ) (at : ℕ) (args : Tree)
    → arguments_at s p which payload at ≡ taken args → IsPlainValue args × IsStruct args
unfolding arguments_at
arguments_plain s p which plainly payload at args e =
    read_plain s which plainly (struct_at (wire_of p) payload at) args (found_struct (wire_of p) payload at) e

-- what is known of a call that is decided
pub record IsDecidedCall (office : PlainOffice) (call : PlainCall) : Type 0 where
  pub slot : call.slot < length office.bindings
  pub word : IsSchemaName call.method
  pub args : IsPlainValue call.args × IsStruct call.args

-- the functions of the schema take what is projected
abbrev pub TakesPlainly : PlainSchema → Type 0
TakesPlainly s = (which : ℕ) → IsPlaceIn s.structs which → ProjectsPlainly s which

abbrev Decided : Type 0
Decided = DeskDecision PlainCall

abbrev makes : PlainCall → Decided
makes call = Invoke call

same_call : (x y : PlainCall) → makes x ≡ makes y → x ≡ y
same_call x y e = cc

refused_no_call : (p : Protocol) (head : Head) (silent : Bool) (failure : Failure) (call : PlainCall) → refused p head silent failure ≡ makes call → ⊥
unfolding refused
refused_no_call p head true failure call e = cc
refused_no_call p head false failure call e = cc

called_is : (office : PlainOffice) (head : Head) (bound : Bound) (f : PlainFunction) (args : Result Tree Failure) (call : PlainCall)
    → bound.slot < length office.bindings → IsSchemaName (method_part head.name) → ((x : Tree) → args ≡ taken x → IsPlainValue x × IsStruct x)
    → call_made office head bound f args ≡ makes call → IsDecidedCall office call
called_is office head bound f (Ok args) call slot word plain e =
    subst (IsDecidedCall office) (same_call _ call e) (record { slot = slot; word = word; args = plain args refl })
called_is office head bound f (Err failure) call slot word plain e =
    absurd (refused_no_call office.protocol head (is_silent head f) failure call e)

on_function : (office : PlainOffice) → IsSound office.schema → TakesPlainly office.schema → (payload : List ℕ) (head : Head) (bound : Bound) (o : Option PlainFunction) (call : PlainCall)
    → bound.slot < length office.bindings → function_asked office bound head.name ≡ o → decided_on_function office payload head bound o ≡ makes call
    → IsDecidedCall office call
unfolding decided_on_function
on_function office sound plainly payload head bound (Some f) call slot found e =
    let known = function_sound office.schema sound bound.service (method_part head.name) f found in
    let name : f.name ≡ method_part head.name = (bytes_eq-Decides f.name (method_part head.name)).0 known.1 in
    called_is office head bound f (arguments_at office.schema office.protocol f.args payload head.behind) call slot (subst IsSchemaName name known.0.name)
    (arguments_plain office.schema office.protocol f.args
    (plainly f.args (args_place office.schema sound bound.service (method_part head.name) f found)) payload head.behind) e
on_function office sound plainly payload head bound None call slot found e = absurd (refused_no_call _ _ _ _ call e)

bound_slot : (bindings : List Binding) (o : Option ℕ) (bound : Bound) → option_and_then (bound_at bindings) o ≡ Some bound → bound.slot < length bindings
bound_slot bindings None bound e = absurd cc
bound_slot bindings (Some slot) bound e = there (slice_get bindings slot) refl e
  where
    there : (b : Option Binding) → slice_get bindings slot ≡ b
        → option_map (λ (x : Binding). record { slot = slot; service = x.1 }) b ≡ Some bound → bound.slot < length bindings
    there None is e = absurd cc
    there (Some b) is e =
        let same : slot ≡ bound.slot = cc in
        subst (λ n. n < length bindings) same (slice_get_within bindings slot b is)

on_service : (office : PlainOffice) → IsSound office.schema → TakesPlainly office.schema → (payload : List ℕ) (head : Head) (o : Option Bound) (call : PlainCall)
    → service_asked office.default_slot office.bindings head.name ≡ o → decided_on_service office payload head o ≡ makes call → IsDecidedCall office call
unfolding decided_on_service
on_service office sound plainly payload head (Some bound) call found e =
    on_function office sound plainly payload head bound (function_asked office bound head.name) call
    (bound_slot office.bindings (slot_asked office.default_slot office.bindings (service_part head.name)) bound found) refl e
on_service office sound plainly payload head None call found e = absurd (refused_no_call _ _ _ _ call e)

on_head : (office : PlainOffice) → IsSound office.schema → TakesPlainly office.schema → (payload : List ℕ) (r : Result Head EnvelopeFault) (call : PlainCall)
    → decided_on_head office payload r ≡ makes call → IsDecidedCall office call
unfolding decided_on_head
on_head office sound plainly payload (Ok head) call e = on_service office sound plainly payload head (service_asked office.default_slot office.bindings head.name) call refl e
on_head office sound plainly payload (Err fault) call e = absurd cc

-- a call that is decided
pub decided_call : (office : PlainOffice) → IsSound office.schema → TakesPlainly office.schema → (payload : List ℕ) (call : PlainCall)
    → decision office payload ≡ Invoke call → IsDecidedCall office call
decided_call office sound plainly payload call e = on_head office sound plainly payload (head_at office.protocol payload) call e
