-- A reply of which a part is written.
use Rattle.std.proofs.Common.{◌≡◌, ℕ, ◌<◌, List, [], ◌∷◌, length, drop, refl, sym, arith, length-drop}
use Rattle.conn_state.specs.Phase.{writing}
use Rattle.conn_state.specs.Step.{after_wrote}

-- where bytes are left, they are written next
after_wrote-some : (left : List ℕ) → 0 < length left → after_wrote left ≡ writing left
after_wrote-some [] some = absurd (omega arith)
after_wrote-some (byte ∷ left) some = refl

pub after_wrote-part : (reply : List ℕ) (done : ℕ) → done < length reply → writing (drop done reply) ≡ after_wrote (drop done reply)
after_wrote-part reply done part = sym (after_wrote-some (drop done reply) (omega (arith, length-drop done reply)))
