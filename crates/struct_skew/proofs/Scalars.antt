-- What the tree of a value is that isn't of some kinds.
use Rattle.std.proofs.Common.{◌≡◌, ℕ, ℤ, Bool, List, refl, sym, subst}
use Rattle.thrift_value.specs.declared.tag.Tag.{Tag}
use Rattle.thrift_value.specs.declared.value.Value as value
use Rattle.thrift_value.specs.declared.value.Value.{Value, Value-F, roll-Value, out-Value, roll-out-Value}
use Rattle.thrift_value.specs.declared.value.Value.TheOpen as layer
use Rattle.thrift_value.specs.declared.value.Value.TheViews.{rolls-Bool, rolls-I8, rolls-I16, rolls-I32, rolls-I64, rolls-Double, rolls-Bytes, rolls-Struct, rolls-Map, rolls-Set, rolls-List, rolls-Uuid}
use Rattle.thrift_value.specs.declared.value.Fields.{Fields}
use Rattle.thrift_value.specs.declared.value.Items.{Items}
use Rattle.thrift_value.specs.declared.value.Pairs.{Pairs}
use Rattle.thrift_value.specs.TreeOf.{tree_of}
use Rattle.thrift_value.proofs.Trees.{tree_of-Bool, tree_of-I8, tree_of-I16, tree_of-I32, tree_of-I64, tree_of-Double, tree_of-Uuid, tree_of-Bytes, tree_of-Struct}
use Rattle.struct_skew.proofs.Fitting.{IsNoContainer}
use Rattle.struct_skew.proofs.MeaningsOfKinds.{IsScalar}
use Rattle.struct_skew.proofs.OneTest.{IsNumber}

-- Q holds of each kind of value
record OfEach (Q : Value → Type 0) : Type 0 where
  bool : (b : Bool) → Q (value.Bool b)
  i8 : (n : ℤ) → Q (value.I8 n)
  i16 : (n : ℤ) → Q (value.I16 n)
  i32 : (n : ℤ) → Q (value.I32 n)
  i64 : (n : ℤ) → Q (value.I64 n)
  double : (n : ℕ) → Q (value.Double n)
  bytes : (text : List ℕ) → Q (value.Bytes text)
  struct_ : (fields : Fields) → Q (value.Struct fields)
  map_ : (k w : Tag) (pairs : Pairs) → Q (value.Map k w pairs)
  set : (t : Tag) (items : Items) → Q (value.Set t items)
  list : (t : Tag) (items : Items) → Q (value.List t items)
  uuid : (n : ℕ) → Q (value.Uuid n)

module _ (Q : Value → Type 0) (is : OfEach Q) where
  by_layer : (x : Value-F Value Fields Items Pairs) → Q (roll-Value x)
  by_layer (layer.Bool b) = subst Q (sym (rolls-Bool b)) (is.bool b)
  by_layer (layer.I8 n) = subst Q (sym (rolls-I8 n)) (is.i8 n)
  by_layer (layer.I16 n) = subst Q (sym (rolls-I16 n)) (is.i16 n)
  by_layer (layer.I32 n) = subst Q (sym (rolls-I32 n)) (is.i32 n)
  by_layer (layer.I64 n) = subst Q (sym (rolls-I64 n)) (is.i64 n)
  by_layer (layer.Double n) = subst Q (sym (rolls-Double n)) (is.double n)
  by_layer (layer.Bytes text) = subst Q (sym (rolls-Bytes text)) (is.bytes text)
  by_layer (layer.Struct fields) = subst Q (sym (rolls-Struct fields)) (is.struct_ fields)
  by_layer (layer.Map k w pairs) = subst Q (sym (rolls-Map k w pairs)) (is.map_ k w pairs)
  by_layer (layer.Set t items) = subst Q (sym (rolls-Set t items)) (is.set t items)
  by_layer (layer.List t items) = subst Q (sym (rolls-List t items)) (is.list t items)
  by_layer (layer.Uuid n) = subst Q (sym (rolls-Uuid n)) (is.uuid n)

  of_each : (v : Value) → Q v
  of_each v = subst Q (roll-out-Value v) (by_layer (out-Value v))

-- a value is no bytes, no struct, no map, no set and no list
abbrev NoBytes : Value → Type 0
NoBytes v = (text : List ℕ) → v ≡ value.Bytes text → ⊥

abbrev NoStruct : Value → Type 0
NoStruct v = (fields : Fields) → v ≡ value.Struct fields → ⊥

abbrev NoMap : Value → Type 0
NoMap v = (k w : Tag) (pairs : Pairs) → v ≡ value.Map k w pairs → ⊥

abbrev NoSet : Value → Type 0
NoSet v = (t : Tag) (items : Items) → v ≡ value.Set t items → ⊥

abbrev NoList : Value → Type 0
NoList v = (t : Tag) (items : Items) → v ≡ value.List t items → ⊥

pub scalar_else : (v : Value) → NoStruct v → NoMap v → NoSet v → NoList v → IsScalar (tree_of v)
scalar_else = of_each (λ v. NoStruct v → NoMap v → NoSet v → NoList v → IsScalar (tree_of v)) (record {
  bool = λ b _ _ _ _. subst IsScalar (sym (tree_of-Bool b)) tt;
  i8 = λ n _ _ _ _. subst IsScalar (sym (tree_of-I8 n)) tt;
  i16 = λ n _ _ _ _. subst IsScalar (sym (tree_of-I16 n)) tt;
  i32 = λ n _ _ _ _. subst IsScalar (sym (tree_of-I32 n)) tt;
  i64 = λ n _ _ _ _. subst IsScalar (sym (tree_of-I64 n)) tt;
  double = λ n _ _ _ _. subst IsScalar (sym (tree_of-Double n)) tt;
  bytes = λ text _ _ _ _. subst IsScalar (sym (tree_of-Bytes text)) tt;
  struct_ = λ fields none _ _ _. absurd (none fields refl);
  map_ = λ k w pairs _ none _ _. absurd (none k w pairs refl);
  set = λ t items _ _ none _. absurd (none t items refl);
  list = λ t items _ _ _ none. absurd (none t items refl);
  uuid = λ n _ _ _ _. subst IsScalar (sym (tree_of-Uuid n)) tt;
})

pub number_else : (v : Value) → NoBytes v → NoStruct v → NoMap v → NoSet v → NoList v → IsNumber (tree_of v)
number_else = of_each (λ v. NoBytes v → NoStruct v → NoMap v → NoSet v → NoList v → IsNumber (tree_of v)) (record {
  bool = λ b _ _ _ _ _. subst IsNumber (sym (tree_of-Bool b)) tt;
  i8 = λ n _ _ _ _ _. subst IsNumber (sym (tree_of-I8 n)) tt;
  i16 = λ n _ _ _ _ _. subst IsNumber (sym (tree_of-I16 n)) tt;
  i32 = λ n _ _ _ _ _. subst IsNumber (sym (tree_of-I32 n)) tt;
  i64 = λ n _ _ _ _ _. subst IsNumber (sym (tree_of-I64 n)) tt;
  double = λ n _ _ _ _ _. subst IsNumber (sym (tree_of-Double n)) tt;
  bytes = λ text none _ _ _ _. absurd (none text refl);
  struct_ = λ fields _ none _ _ _. absurd (none fields refl);
  map_ = λ k w pairs _ _ none _ _. absurd (none k w pairs refl);
  set = λ t items _ _ _ none _. absurd (none t items refl);
  list = λ t items _ _ _ _ none. absurd (none t items refl);
  uuid = λ n _ _ _ _ _. subst IsNumber (sym (tree_of-Uuid n)) tt;
})

pub no_container_else : (v : Value) → NoMap v → NoSet v → NoList v → IsNoContainer (tree_of v)
no_container_else = of_each (λ v. NoMap v → NoSet v → NoList v → IsNoContainer (tree_of v)) (record {
  bool = λ b _ _ _. subst IsNoContainer (sym (tree_of-Bool b)) tt;
  i8 = λ n _ _ _. subst IsNoContainer (sym (tree_of-I8 n)) tt;
  i16 = λ n _ _ _. subst IsNoContainer (sym (tree_of-I16 n)) tt;
  i32 = λ n _ _ _. subst IsNoContainer (sym (tree_of-I32 n)) tt;
  i64 = λ n _ _ _. subst IsNoContainer (sym (tree_of-I64 n)) tt;
  double = λ n _ _ _. subst IsNoContainer (sym (tree_of-Double n)) tt;
  bytes = λ text _ _ _. subst IsNoContainer (sym (tree_of-Bytes text)) tt;
  struct_ = λ fields _ _ _. subst IsNoContainer (sym (tree_of-Struct fields)) tt;
  map_ = λ k w pairs none _ _. absurd (none k w pairs refl);
  set = λ t items _ none _. absurd (none t items refl);
  list = λ t items _ _ none. absurd (none t items refl);
  uuid = λ n _ _ _. subst IsNoContainer (sym (tree_of-Uuid n)) tt;
})
