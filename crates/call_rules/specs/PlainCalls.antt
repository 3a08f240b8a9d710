-- Calls and answers as plain data, over trees.
use Rattle.std.specs.Prelude.{◌≡◌, ◌≤◌, ⊤, ℕ, ℤ, pos, Bool, false, ◌&&◌, ◌||◌, ◌==◌, nat_le, if◌then◌else◌, List, length, All, IsTrue, refl}
use Rattle.std.specs.Coded.{Coded, code_by, coded×, coded_ℕ, coded_ℤ, coded_bool, coded_list}
use Rattle.thrift_value.specs.Tree.{Tree, of_bool, of_struct}
use Rattle.thrift_value.specs.Tidy.{IsTidy}
use Rattle.thrift_value.specs.Measures.{depth_of}
use Rattle.thrift_value.specs.Codes.{tree_code}

-- a call: the slot of its service, the method's name, the struct of its arguments, and whether it gets no reply
pub record PlainCall : Type 0 where
  pub slot : ℕ
  pub method : List ℕ
  pub args : Tree
  pub silent : Bool

-- what a call is answered with: a value; nothing, also where there is no result; an exception that the function declares, under its
-- id; or nothing that a caller may see
pub data PlainAnswer : Type 0 where
  success : (value : Tree) → PlainAnswer
  empty : PlainAnswer
  throws : (id : ℤ) (exception : Tree) → PlainAnswer
  broken : PlainAnswer

-- a letter, a digit or `_` (Thrift IDL, 'Identifier')
abbrev pub is_method_byte : ℕ → Bool
is_method_byte b =
    (nat_le 48 b && nat_le b 57) || (nat_le 65 b && nat_le b 90) || (nat_le 97 b && nat_le b 122) || b == 95

-- the most levels that the values of a call and of an answer have
abbrev pub deepest_plain : ℕ
deepest_plain = 64

-- a value that a message has room for: tidy, and not too deep
pub record IsPlainValue (value : Tree) : Type 0 where
  pub tidy : IsTidy value
  pub levels : depth_of value ≤ deepest_plain

-- the value is a struct
abbrev pub IsStruct : Tree → Type 0
IsStruct (of_struct _) = ⊤
IsStruct _ = ⊥

-- a call that names a method and has the arguments of one
pub record IsPlainCall (call : PlainCall) : Type 0 where
  pub some : 1 ≤ length call.method
  pub word : All (λ b. IsTrue (is_method_byte b)) call.method
  pub arguments : IsStruct call.args
  pub plain : IsPlainValue call.args

-- an answer whose value, where it has one, is plain
abbrev pub IsPlainAnswer : PlainAnswer → Type 0
IsPlainAnswer (success value) = IsPlainValue value
IsPlainAnswer empty = ⊤
IsPlainAnswer (throws _ exception) = IsPlainValue exception
IsPlainAnswer broken = ⊤

-- a call is told by its four parts
abbrev pub plain_call_code : Coded PlainCall
plain_call_code =
    code_by (ℕ × (List ℕ × (Tree × Bool))) (coded× coded_ℕ (coded× (coded_list coded_ℕ) (coded× tree_code coded_bool)))
    (λ c. (c.slot, (c.method, (c.args, c.silent))))
    (λ p. record { slot = p.0; method = p.1.0; args = p.1.1.0; silent = p.1.1.1 })
    (λ _. refl)

-- an answer by its kind, its id and its value; where it has none of them a 0 or a false stands
abbrev pub answer_parts : PlainAnswer → ℕ × (ℤ × Tree)
answer_parts (success value) = (0, (pos 0, value))
answer_parts empty = (1, (pos 0, of_bool false))
answer_parts (throws id exception) = (2, (id, exception))
answer_parts broken = (3, (pos 0, of_bool false))

-- the answer of these parts
abbrev pub answer_by : ℕ × (ℤ × Tree) → PlainAnswer
answer_by p = if p.0 == 0 then success p.1.1 else if p.0 == 1 then empty else if p.0 == 2 then throws p.1.0 p.1.1 else broken

-- the answer of an answer's parts is that answer
pub same_answer : (answer : PlainAnswer) → answer_by (answer_parts answer) ≡ answer
same_answer (success value) = refl
same_answer empty = refl
same_answer (throws id exception) = refl
same_answer broken = refl

-- an answer is told by its parts
abbrev pub plain_answer_code : Coded PlainAnswer
plain_answer_code = code_by (ℕ × (ℤ × Tree)) (coded× coded_ℕ (coded× coded_ℤ tree_code)) answer_parts answer_by same_answer
