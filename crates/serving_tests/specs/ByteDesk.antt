-- A desk with one service, that replies with a payload's first byte.
use Rattle.std.specs.Prelude.{ℕ, List, [], ◌∷◌, ◌==◌, IsTrue}
use Rattle.std.proofs.Common.{refl, subst, lit<, lit≤, ◌≡◌, ◌<◌}
use Rattle.std.proofs.lemmas.List.Elements.{All-from_recursion}
use Rattle.host_model.specs.DeskRules.{DeskDecision, Close, Silent, Reply, Invoke}
use Rattle.thrift_value.specs.Tree.{of_struct, no_fields}
use Rattle.call_rules.specs.PlainCalls.{PlainCall, IsPlainCall, is_method_byte}
use Rattle.call_rules.specs.Desks.{DeskMeaning, IsWholeFrame, IsDesk}

-- the call of a payload with this first byte; that of 1 is silent
abbrev pub byte_call : ℕ → PlainCall
byte_call first = record { slot = 0; method = 112 ∷ []; args = of_struct no_fields; silent = first == 1 }

-- each payload makes a call
abbrev pub byte_decision : List ℕ → DeskDecision PlainCall
byte_decision [] = Silent
byte_decision (first ∷ bytes) = Invoke (byte_call first)

-- the frame of a payload's first byte
abbrev pub byte_reply : List ℕ → List ℕ
byte_reply [] = 0 ∷ 0 ∷ 0 ∷ 1 ∷ 0 ∷ []
byte_reply (first ∷ bytes) = 0 ∷ 0 ∷ 0 ∷ 1 ∷ first ∷ []

-- what the desk means
abbrev pub byte_desk : DeskMeaning
byte_desk = record { slots = 1; max_frame = 8; decide = byte_decision; reply = λ payload answer. byte_reply payload }

call_is_plain : (first : ℕ) → IsPlainCall (byte_call first)
call_is_plain first =
    record {
      some = lit≤ tt;
      word = All-from_recursion (λ (b : ℕ). IsTrue (is_method_byte b)) (112 ∷ []) (refl, tt);
      arguments = tt;
      plain = record { tidy = record { tagged = tt; in_order = (tt, tt) }; levels = lit≤ tt };
    }

one_byte_is_whole : (byte : ℕ) → IsWholeFrame (0 ∷ 0 ∷ 0 ∷ 1 ∷ byte ∷ [])
one_byte_is_whole byte = record { payload = byte ∷ []; is = record { some = lit≤ tt; within = lit≤ tt }; whole = refl }

the_call : (first : ℕ) (call : PlainCall) → Invoke (byte_call first) ≡ Invoke call → byte_call first ≡ call
the_call first call is = cc

in_slots : (payload : List ℕ) (call : PlainCall) → byte_decision payload ≡ Invoke call → call.slot < 1
in_slots [] call is = absurd (cc)
in_slots (first ∷ bytes) call is = subst (λ (c : PlainCall). c.slot < 1) (the_call first call is) (lit< tt)

plain : (payload : List ℕ) (call : PlainCall) → byte_decision payload ≡ Invoke call → IsPlainCall call
plain [] call is = absurd (cc)
plain (first ∷ bytes) call is = subst IsPlainCall (the_call first call is) (call_is_plain first)

no_reply : (payload reply : List ℕ) → byte_decision payload ≡ Reply reply → IsWholeFrame reply
no_reply [] reply is = absurd (cc)
no_reply (first ∷ bytes) reply is = absurd (cc)

whole : (payload : List ℕ) → IsWholeFrame (byte_reply payload)
whole [] = one_byte_is_whole 0
whole (first ∷ bytes) = one_byte_is_whole first

-- it is a desk
pub byte_desk_holds : IsDesk byte_desk
byte_desk_holds =
    record {
      few = lit< tt;
      in_slots = in_slots;
      plain = plain;
      framed = λ payload reply short is. no_reply payload reply is;
      replied = λ payload answer short called. whole payload;
    }
