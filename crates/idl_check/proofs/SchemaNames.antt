-- An identifier without a dot is a name of a schema.
use Rattle.std.proofs.Common.{◌≡◌, ℕ, Bool, true, false, ◌||◌, List, [], ◌∷◌, IsTrue, refl}
use Rattle.std.specs.List.{AllByRecursion, list_any}
use Rattle.std.specs.Char.{is_ascii_digit}
use Rattle.std.proofs.lemmas.Bool.{or_left, or_right}
use Rattle.std.proofs.lemmas.List.Elements.{All-from_recursion}
use Rattle.idl_token.specs.Classes.{is_word_byte}
use Rattle.idl_include.specs.Names.{is_dot, is_dotted}
use Rattle.schema.specs.Sound.{is_name_byte, IsSchemaName}
use Rattle.idl_check.specs.Identifiers.{IsIdentifier}

-- the tests of a byte: a digit, a capital, a small letter, `_`, `.`
tests : (digit upper lower under dot : Bool) → (((upper || lower) || under) || digit || dot) ≡ true → (dot ≡ true → ⊥) → (digit || upper || lower || under) ≡ true
tests true upper lower under dot e no_dot = refl
tests false true lower under dot e no_dot = refl
tests false false true under dot e no_dot = refl
tests false false false true dot e no_dot = refl
tests false false false false true e no_dot = absurd (no_dot refl)
tests false false false false false e no_dot = e

name_byte : (b : ℕ) → is_word_byte b ≡ true → (is_dot b ≡ true → ⊥) → IsTrue (is_name_byte b)
name_byte b e no_dot = tests (is_ascii_digit b) _ _ _ (is_dot b) e no_dot

name_bytes : (name : List ℕ) → AllByRecursion (λ b. is_word_byte b ≡ true) name → (is_dotted name ≡ true → ⊥) → AllByRecursion (λ b. IsTrue (is_name_byte b)) name
name_bytes [] h no_dot = tt
name_bytes (b ∷ name) h no_dot =
    (name_byte b h.0 (λ e. no_dot (or_left (is_dot b) (list_any is_dot name) e)), name_bytes name h.1 (λ e. no_dot (or_right (is_dot b) (list_any is_dot name) e)))

pub schema_name : (name : List ℕ) → IsIdentifier name → (is_dotted name ≡ true → ⊥) → IsSchemaName name
schema_name name is no_dot = record {
  some = is.some;
  short = is.short;
  bytes = All-from_recursion (λ b. IsTrue (is_name_byte b)) name (name_bytes name is.bytes no_dot);
}
