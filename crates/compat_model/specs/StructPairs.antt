-- Pairs of structs, of which values of the first are written and read as the second.
use Rattle.std.specs.Prelude.{ℕ, zero, suc, Bool, true, false, cond, ◌==◌, List, [], ◌∷◌, ◌++◌, map, flat_map, Option}
use Rattle.std.specs.Option.{option_map_or}
use Rattle.schema.specs.Inherited.{functions_of}
use Rattle.schema.specs.LookUp.{fields_at, field_at, function_named}
use Rattle.schema.specs.PlainSchema.{PlainField, PlainStruct, PlainFunction, PlainService, PlainSchema}
use Rattle.schema.specs.WrittenAs.{field_with_id}
use Rattle.compat_model.specs.InOrder.{gathered_from}
use Rattle.compat_model.specs.Likeness.{struct_places, result_places}
use Rattle.compat_model.specs.NamedThings.{is_main_struct, main_struct_named, main_service_named}

-- a schema and the one that comes after it
pub record SchemaChange : Type 0 where
  pub old : PlainSchema
  pub new : PlainSchema

-- a struct that is written and one that it is read as: of the old schema and the new one or, backward, the other way round
pub record StructPair : Type 0 where
  pub backward : Bool
  pub from : ℕ
  pub to : ℕ

-- the schema that writes, and the one that reads
abbrev pub writing_schema : SchemaChange → Bool → PlainSchema
writing_schema ch backward = cond backward ch.new ch.old

abbrev pub reading_schema : SchemaChange → Bool → PlainSchema
reading_schema ch backward = cond backward ch.old ch.new

-- pairs of one direction
abbrev pub pairs_at : Bool → List (ℕ × ℕ) → List StructPair
pairs_at backward places = map (λ p. record { backward = backward; from = p.0; to = p.1 }) places

-- the structs at like places of a field and of the one that may have its id
abbrev pub field_places : PlainField → Option PlainField → List (ℕ × ℕ)
field_places f other = option_map_or (λ (g : PlainField). struct_places f.kind g.kind) other []

-- the pairs that a pair's fields hold: by rising id, and within a type from the left
abbrev pub pairs_within : SchemaChange → StructPair → List StructPair
pairs_within ch p =
    flat_map (λ (f : PlainField). pairs_at p.backward (field_places f (field_at (reading_schema ch p.backward) p.to f.id)))
    (fields_at (writing_schema ch p.backward) p.from)

-- a struct of the old main file, with the one of its name
abbrev pub pairs_of_struct : SchemaChange → ℕ → PlainStruct → List StructPair
pairs_of_struct ch which d =
    cond (is_main_struct d) (option_map_or (λ other. pairs_at false ((which, other) ∷ [])) (main_struct_named ch.new d.name) []) []

-- which pairs a function and the one of its name give
abbrev pub PairsOfFunctions : Type 0
PairsOfFunctions = PlainFunction → PlainFunction → List StructPair

-- those of the functions of a service of the old main file, where the service of its name has functions of their names
abbrev pub pairs_of_service : SchemaChange → PairsOfFunctions → ℕ → PlainService → List StructPair
pairs_of_service ch pairs which v =
    cond (v.file == 0)
    (option_map_or (λ other. flat_map (λ (f : PlainFunction). option_map_or (pairs f) (function_named ch.new other f.name) []) (functions_of ch.old.services which))
    (main_service_named ch.new v.name) [])
    []

-- the arguments of a function are written by the old schema
abbrev pub argument_pairs : PairsOfFunctions
argument_pairs f g = pairs_at false ((f.args, g.args) ∷ [])

-- its result and the exceptions that it throws are written by the new one: the result's structs first, then by rising id
abbrev pub answer_pairs : PairsOfFunctions
answer_pairs f g =
    pairs_at true (result_places g.result f.result) ++ flat_map (λ (t : PlainField). pairs_at true (field_places t (field_with_id t.id f.throws))) g.throws

-- the pairs of what is named: of the old main file's structs, then of all functions' arguments, then of their results and exceptions
abbrev pub named_pairs : SchemaChange → List StructPair
named_pairs ch =
    gathered_from (pairs_of_struct ch) 0 ch.old.structs
    ++ (gathered_from (pairs_of_service ch argument_pairs) 0 ch.old.services ++ gathered_from (pairs_of_service ch answer_pairs) 0 ch.old.services)

-- the pairs that are reached in so many steps, in order; one that is reached in two ways stands there twice
abbrev pub pairs_reached : SchemaChange → ℕ → List StructPair
pairs_reached ch zero = named_pairs ch
pairs_reached ch (suc n) = flat_map (pairs_within ch) (pairs_reached ch n)
