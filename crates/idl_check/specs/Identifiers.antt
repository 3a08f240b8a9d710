-- Names as a document gives them.
use Rattle.std.specs.Prelude.{◌≡◌, ◌≤◌, ℕ, true, List, length}
use Rattle.std.specs.List.{AllByRecursion}
use Rattle.idl_token.specs.Classes.{is_word_byte}
use Rattle.idl_token.specs.Limits.{longest_idl_text}

-- one or more letters, digits, `.` or `_`, and no more than a text has bytes (Thrift IDL, 'Identifier')
pub record IsIdentifier (name : List ℕ) : Type 0 where
  pub some : 1 ≤ length name
  pub short : length name ≤ longest_idl_text
  pub bytes : AllByRecursion (λ b. is_word_byte b ≡ true) name
