-- The breaks of a change, in order.
use Rattle.std.specs.Prelude.{◌≡◌, ◌<◌, ℕ, zero, suc, ℤ, pos, Bool, not, cond, ◌==◌, List, [], Option, Some, None, unwrap_or, find}
use Rattle.std.specs.List.{slice_get}
use Rattle.std.specs.Option.{option_map, option_map_or, option_or}
use Rattle.schema.specs.Inherited.{functions_of}
use Rattle.schema.specs.LookUp.{function_named}
use Rattle.schema.specs.PlainSchema.{PlainField, PlainStruct, PlainFunction, PlainService, PlainSchema}
use Rattle.schema.specs.WrittenAs.{field_with_id}
use Rattle.struct_skew.specs.WrittenTests.{some_passes}
use Rattle.compat_model.specs.declared.break_kind.BreakKind.{BreakKind}
use Rattle.compat_model.specs.declared.break_kind.BreakKind.TheVariants as breaks
use Rattle.compat_model.specs.Faults.{StructFault, holds_for_one_alone, struct_fault}
use Rattle.compat_model.specs.InOrder.{first_answer, first_answer_from}
use Rattle.compat_model.specs.Likeness.{are_like, are_like_results}
use Rattle.compat_model.specs.NamedThings.{is_main_struct, main_struct_named, main_service_named}
use Rattle.compat_model.specs.StructPairs.{SchemaChange, StructPair, writing_schema, reading_schema, pairs_reached}

-- a break: whose it is, the field's id where it is one of a field or an exception, and else 0
pub record PlainBreak : Type 0 where
  pub name : List ℕ
  pub id : ℤ
  pub kind : BreakKind

-- a break of a thing as a whole
abbrev pub whole_break : BreakKind → List ℕ → PlainBreak
whole_break kind name = record { name = name; id = pos 0; kind = kind }

-- the break that a fault is, under a name
abbrev pub break_under : List ℕ → StructFault → PlainBreak
break_under name fault = record { name = name; id = fault.id; kind = fault.kind }

-- the name of the struct at a number
abbrev pub written_struct_name : PlainSchema → ℕ → List ℕ
written_struct_name s which = unwrap_or (option_map (λ (d : PlainStruct). d.name) (slice_get s.structs which)) []

-- the break of a pair, under the name of the struct that is written
abbrev pub pair_break : SchemaChange → StructPair → Option PlainBreak
pair_break ch p =
    let s : PlainSchema = writing_schema ch p.backward in
    option_map (break_under (written_struct_name s p.from)) (struct_fault s p.from (reading_schema ch p.backward) p.to)

-- a struct of the old main file has gone, or isn't read
abbrev pub break_of_struct : SchemaChange → ℕ → PlainStruct → Option PlainBreak
break_of_struct ch which d =
    cond (is_main_struct d)
    (option_map_or (λ other. option_map (break_under d.name) (struct_fault ch.old which ch.new other)) (main_struct_named ch.new d.name) (Some (whole_break breaks.Gone d.name)))
    None

-- a break where a test holds
abbrev pub break_if : Bool → PlainBreak → Option PlainBreak
break_if test b = cond test (Some b) None

-- a function throws under this id what its callers don't know there
abbrev pub is_unknown_exception : List PlainField → PlainField → Bool
is_unknown_exception known t = not (some_passes (field_with_id t.id known) (λ (k : PlainField). are_like t.kind k.kind))

-- the break of a function and of the one of its name: oneway or not, its arguments, its result, and what it throws
abbrev pub break_of_functions : SchemaChange → PlainFunction → PlainFunction → Option PlainBreak
break_of_functions ch f g =
    option_or (break_if (holds_for_one_alone f.oneway g.oneway) (whole_break breaks.Oneway f.name))
    (option_or (option_map (break_under f.name) (struct_fault ch.old f.args ch.new g.args))
    (option_or (break_if (not (are_like_results g.result f.result)) (whole_break breaks.Result f.name))
    (option_map (λ (t : PlainField). record { name = f.name; id = t.id; kind = breaks.Throws }) (find (is_unknown_exception f.throws) g.throws))))

-- the same of a function of the old schema, where a service of the new one may have lost it
abbrev pub break_of_function : SchemaChange → ℕ → PlainFunction → Option PlainBreak
break_of_function ch other f = option_map_or (break_of_functions ch f) (function_named ch.new other f.name) (Some (whole_break breaks.Gone f.name))

-- a service of the old main file has gone, or the first of its functions, inherited ones last, that has a break
abbrev pub break_of_service : SchemaChange → ℕ → PlainService → Option PlainBreak
break_of_service ch which v =
    cond (v.file == 0)
    (option_map_or (λ other. first_answer (break_of_function ch other) (functions_of ch.old.services which)) (main_service_named ch.new v.name)
    (Some (whole_break breaks.Gone v.name)))
    None

-- the first break of what is named: structs, and then services
abbrev pub first_named_break : SchemaChange → Option PlainBreak
first_named_break ch = option_or (first_answer_from (break_of_struct ch) 0 ch.old.structs) (first_answer_from (break_of_service ch) 0 ch.old.services)

-- the first break of a round: in round 0 of what is named, in round n + 1 of the pairs that are reached in n steps; so round 1 adds those of results and exceptions
abbrev pub break_in_round : SchemaChange → ℕ → Option PlainBreak
break_in_round ch zero = first_named_break ch
break_in_round ch (suc n) = first_answer (pair_break ch) (pairs_reached ch n)

-- each side reads what the other writes: there is no break in any round
abbrev pub IsCompatible : SchemaChange → Type 0
IsCompatible ch = (n : ℕ) → break_in_round ch n ≡ None

-- the first break of a change: that of the first round that has one
pub record IsFirstBreak (ch : SchemaChange) (b : PlainBreak) : Type 0 where
  pub round : ℕ
  pub here : break_in_round ch round ≡ Some b
  pub before : (k : ℕ) → k < round → break_in_round ch k ≡ None
