-- The example is a sound schema.
use Rattle.std.proofs.Common.{◌≡◌, ℕ, zero, suc, pos, true, List, [], ◌∷◌, get_or, Option, Some, codes, refl, ap, arith}
use Rattle.std.specs.Prelude.{◌≢◌, ◌<ℤ◌, IsTrue, unwrap_or, All, AllPairs}
use Rattle.std.specs.Fmt.{decimal}
use Rattle.std.proofs.lemmas.Fmt.{decimal_digit}
use Rattle.std.proofs.lemmas.List.Sorted.{IsPermutation-refl}
use Rattle.std.proofs.lemmas.Option.{none-some}
use Rattle.thrift_value.specs.declared.tag.Tag.TheVariants.{Bool as BoolTag}
use Rattle.thrift_value.specs.Tree.{of_bool, of_i8, of_list, of_struct, field, no_fields, item, no_items}
use Rattle.schema.specs.declared.types.FieldNeed.TheVariants.{Required}
use Rattle.schema.specs.PlainKind.{kind_bool, kind_list, kind_struct}
use Rattle.schema.specs.WrittenAs.{HasFieldTree, IsWrittenAs}
use Rattle.schema.specs.Example.{example_first, example_second, example_union, example_required, example_needy, example_field, example_struct, example_args, example_function, example_service, example_file, example_schema}
use Rattle.schema.specs.PlainSchema.{PlainField, PlainFile}
use Rattle.schema.specs.SchemaText.{schema_text, field_in_text, struct_in_text, service_in_text, function_in_text, file_in_text}
use Rattle.schema.specs.Shapes.{AreShapesOf}
use Rattle.schema.specs.declared.types.DefRef.TheVariants as definition
use Rattle.schema.specs.Sound.{def_name, is_name_byte, AreSoundDefs, Extends, HasNoServiceLoop, HaveDifferentFunctions, IsDefIn, IsException, IsPlaceIn, IsSound, IsSoundAlias, IsSoundConstant, IsSoundEnum, IsSoundField, IsSoundFile, IsSoundFunction, IsSoundService, IsSoundStruct}

-- what holds of each of no, one and two items
all_none : {A : Type 0} (P : A → Type 0) → All P []
all_none P k d within = absurd (omega arith)

all_one : {A : Type 0} (P : A → Type 0) (x : A) → P x → All P (x ∷ [])
all_one P x is zero d within = is
all_one P x is (suc k) d within = absurd (omega arith)

all_two : {A : Type 0} (P : A → Type 0) (x y : A) → P x → P y → All P (x ∷ y ∷ [])
all_two P x y is_x is_y zero d within = is_x
all_two P x y is_x is_y (suc zero) d within = is_y
all_two P x y is_x is_y (suc (suc k)) d within = absurd (omega arith)

-- the same of pairs of items
pairs_none : {A : Type 0} (R : A → A → Type 0) → AllPairs R []
pairs_none R i j d low within = absurd (omega arith)

pairs_one : {A : Type 0} (R : A → A → Type 0) (x : A) → AllPairs R (x ∷ [])
pairs_one R x i j d low within = absurd (omega arith)

pairs_two : {A : Type 0} (R : A → A → Type 0) (x y : A) → R x y → AllPairs R (x ∷ y ∷ [])
pairs_two R x y is zero zero d low within = absurd (omega arith)
pairs_two R x y is zero (suc zero) d low within = is
pairs_two R x y is zero (suc (suc j)) d low within = absurd (omega arith)
pairs_two R x y is (suc i) j d low within = absurd (omega arith)

-- the tests of a name's bytes, of ids and of names
abbrev IsLetter : ℕ → Type 0
IsLetter b = IsTrue (is_name_byte b)

abbrev Rises : PlainField → PlainField → Type 0
Rises f g = f.id <ℤ g.id

abbrev AreUnlike : List ℕ → List ℕ → Type 0
AreUnlike a b = a ≢ b

-- the names of the two definitions
different_names : (let some : Option (List ℕ) = Some (codes "S") in some) ≡ Some (codes "V") → ⊥
different_names same = omega (arith, ap (λ (o : Option (List ℕ)). get_or (unwrap_or o []) 0 0) same)

sound_field : IsSoundField example_schema example_field
sound_field = record {
  name = record { some = omega arith; short = omega arith; bytes = all_one IsLetter 97 refl };
  kind = tt;
  default = record { tidy = record { tagged = tt; in_order = tt }; levels = omega arith; written = record { fits = tt; sizes = tt } };
}

sound_struct : IsSoundStruct example_schema example_struct
sound_struct = record {
  file = omega arith;
  name = record { some = omega arith; short = omega arith; bytes = all_one IsLetter 83 refl };
  fields = record { rising = pairs_one Rises example_field; each = all_one (IsSoundField example_schema) example_field sound_field };
}

sound_args : IsSoundStruct example_schema example_args
sound_args = record {
  file = omega arith;
  name = record { some = omega arith; short = omega arith; bytes = all_one IsLetter 102 refl };
  fields = record { rising = pairs_none Rises; each = all_none (IsSoundField example_schema) };
}

sound_function : IsSoundFunction example_schema example_function
sound_function = record {
  name = record { some = omega arith; short = omega arith; bytes = all_one IsLetter 102 refl };
  args = refl;
  result = omega arith;
  throws = record { rising = pairs_none Rises; each = all_none (IsSoundField example_schema) };
  exceptions = all_none (λ (t : PlainField). IsException example_schema t.kind);
}

sound_service : IsSoundService example_schema example_service
sound_service = record {
  file = omega arith;
  name = record { some = omega arith; short = omega arith; bytes = all_one IsLetter 86 refl };
  parent = tt;
  functions = all_one (IsSoundFunction example_schema) example_function sound_function;
}

sound_defs : AreSoundDefs example_schema (definition.Struct 0 ∷ definition.Service 0 ∷ [])
sound_defs = record {
  places = all_two (IsDefIn example_schema) (definition.Struct 0) (definition.Service 0) (omega arith) (omega arith);
  names = pairs_two (λ a b. def_name example_schema a ≢ def_name example_schema b) (definition.Struct 0) (definition.Service 0) (λ same. different_names same);
}

sound_file : IsSoundFile example_schema example_file
sound_file = record { includes = all_none (IsPlaceIn example_schema.files); defs = sound_defs }

-- it extends no service
no_parent : (which parent : ℕ) → Extends (example_service ∷ []) which [] parent → ⊥
no_parent zero parent is = none-some parent is
no_parent (suc which) parent is = none-some parent is

no_loop : HasNoServiceLoop (example_service ∷ [])
no_loop which [] up = no_parent which which up
no_loop which (next ∷ between) up = no_parent which next up.0

different : HaveDifferentFunctions (example_service ∷ [])
different zero place = pairs_one AreUnlike (codes "f")
different (suc which) place = absurd (omega arith)

pub example_sound : IsSound example_schema
example_sound = record {
  all_else = record {
    short = record { files = omega arith; structs = omega arith; enums = omega arith; services = omega arith; aliases = omega arith; constants = omega arith };
    files = all_one (IsSoundFile example_schema) example_file sound_file;
    bases = pairs_one AreUnlike (codes "t");
    structs = all_two (IsSoundStruct example_schema) example_struct example_args sound_struct sound_args;
    enums = all_none (IsSoundEnum example_schema);
    services = all_one (IsSoundService example_schema) example_service sound_service;
    aliases = all_none (IsSoundAlias example_schema);
    no_loop = no_loop;
    functions = different;
  };
  constants = all_none (IsSoundConstant example_schema);
  defs = all_one (λ (f : PlainFile). AreSoundDefs example_schema f.defs) example_file sound_defs;
}

-- its one shape
pub example_shapes : AreShapesOf example_schema 0 (codes "f():list<struct>" ∷ [])
example_shapes = record {
  functions = example_function ∷ [];
  all = IsPermutation-refl (example_function ∷ []);
  by_name = λ k d low within. absurd (omega arith);
  each = refl;
}

-- its text
pub example_text : schema_text example_schema ≡ codes "file t\nstruct S\n  1 default bool a = true\nservice V\n  list<t.S> f()\n"
unfolding field_in_text struct_in_text function_in_text service_in_text file_in_text
example_text = let one : decimal 1 ≡ 49 ∷ [] = decimal_digit 1 (omega arith) in rw one

-- values that may not be written: a union of two fields, a struct without a field that has to be there, one with a field that it hasn't
pub two_of_a_union : IsWrittenAs (example_union ∷ []) (kind_struct 0) (of_struct (field (pos 1) (of_bool true) (field (pos 2) (of_bool true) no_fields))) → ⊥
two_of_a_union written = written.0.of_union refl

pub none_of_a_union : IsWrittenAs (example_union ∷ []) (kind_struct 0) (of_struct no_fields) → ⊥
none_of_a_union written = written.0.of_union refl

pub required_is_missing : IsWrittenAs (example_needy ∷ []) (kind_struct 0) (of_struct no_fields) → ⊥
required_is_missing written = written.0.required 0 example_required (omega arith) refl

pub undeclared_id : IsWrittenAs (example_struct ∷ []) (kind_struct 0) (of_struct (field (pos 2) (of_bool true) no_fields)) → ⊥
undeclared_id written = written.1.0

pub another_type : IsWrittenAs (example_struct ∷ []) (kind_list kind_bool) (of_list BoolTag (item (of_bool true) (item (of_i8 (pos 1)) no_items))) → ⊥
another_type written = written.1.0

-- and one that may
pub one_of_a_union : IsWrittenAs (example_union ∷ []) (kind_struct 0) (of_struct (field (pos 2) (of_bool true) no_fields))
one_of_a_union = (record { required = all_two Needs example_first example_second (λ need. absurd (cc)) (λ need. absurd (cc)); of_union = λ kind. tt }, (tt, tt))
  where
    Needs : PlainField → Type 0
    Needs f = f.need ≡ Required → HasFieldTree f.id (field (pos 2) (of_bool true) no_fields)
