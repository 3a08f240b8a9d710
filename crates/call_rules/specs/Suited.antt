-- Which services a handler can serve: those whose functions have these shapes.
use Rattle.std.specs.Prelude.{◌≡◌, ⊤, ℕ, List, [], ◌∷◌, codes}
use Rattle.call_rules.specs.declared.kind.Kind.{Kind}
use Rattle.call_rules.specs.declared.kind.Kind.TheVariants.{Calculator, Store, Mirror}

-- the shapes of the tutorial's calculator, a line a function
abbrev pub calculator_shapes : List (List ℕ)
calculator_shapes =
    codes "add(1:i32,2:i32):i32" ∷ codes "calculate(1:i32,2:struct):i32 throws(1:struct)" ∷ codes "getStruct(1:i32):struct"
    ∷ codes "ping():void" ∷ codes "oneway zip():void" ∷ []

-- the shapes of a store
abbrev pub store_shapes : List (List ℕ)
store_shapes =
    codes "oneway forget(1:bytes):void" ∷ codes "get(1:bytes):bytes" ∷ codes "keys():list<bytes>" ∷ codes "put(1:bytes,2:bytes):void"
    ∷ codes "swap(1:bytes,2:bytes):bytes" ∷ []

-- a handler of this kind can serve a service of these shapes; a mirror can serve any
abbrev pub IsSuited : Kind → List (List ℕ) → Type 0
IsSuited Calculator shapes = shapes ≡ calculator_shapes
IsSuited Store shapes = shapes ≡ store_shapes
IsSuited Mirror shapes = ⊤
