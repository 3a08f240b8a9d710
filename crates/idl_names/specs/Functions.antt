-- Functions: their names, and what is looked at in one.
use Rattle.std.specs.Prelude.{ℕ, List, [], ◌∷◌, ◌++◌, map}
use Rattle.idl_include.specs.Declarations.{FunctionDecl}
use Rattle.idl_include.specs.Spots.{Spotted, given_name, result_spots, spots_in_fields, spots_in_throws}

-- the names of functions, in order
abbrev pub function_names : List FunctionDecl → List (List ℕ)
function_names functions = map (λ (f : FunctionDecl). f.name.text) functions

-- what is looked at in a function after the function itself
abbrev pub inside_function : FunctionDecl → List Spotted
inside_function f = result_spots f.result ++ given_name [] f.name ∷ (spots_in_fields [] f.arguments ++ spots_in_throws [] f.throws)
