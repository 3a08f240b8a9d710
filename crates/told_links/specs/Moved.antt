-- What was moved so far, once a call has answered.
use Rattle.std.specs.Prelude.{ℕ, Bool, ◌||◌, List, ◌++◌, take, Result, Ok, Err}
use Rattle.outside.specs.Pipes.{is_end}

-- the bytes that went one way, those of this call included
abbrev pub moved_after : {E : Type 0} → List ℕ → List ℕ → Result ℕ E → List ℕ
moved_after before bytes (Ok count) = before ++ take count bytes
moved_after before bytes (Err e) = before

-- whether a read has answered the end, this one included, to which so much was lent
abbrev pub ended_after : {E : Type 0} → Bool → ℕ → Result ℕ E → Bool
ended_after before lent (Ok count) = before || is_end lent count
ended_after before lent (Err e) = before
