-- What tests in code tell.
use Rattle.std.proofs.Common.{◌≡◌, ◌≢◌, ◌↔◌, ℕ, suc, ◌<◌, ◌≤◌, ◌==◌, true, false, Option, None, Some, IsSome, List, [], ◌∷◌, length, refl, sym, ap, ◌∙◌, arith}
use Rattle.std.specs.Prelude.{is_some}
use Rattle.std.proofs.lemmas.Bool.{true≢false, eqb-true}
use Rattle.conn_state.specs.Phase.{Phase, ConnView, sizing, held, framing, ready, waiting, writing, ended, cause_of, IsReady}
use Rattle.conn_state.specs.Step.{after_end_of_input}
use Rattle.conn_table.specs.Table.{TableView, slot_of}

-- what has no value
pub none_by : {X : Type 0} (o : Option X) → is_some o ≡ false → o ≡ None
none_by None e = refl
none_by (Some x) e = absurd (true≢false e)

-- a list without items, and one with some
pub none_in : (xs : List ℕ) → (length xs == 0) ≡ true → xs ≡ []
none_in [] e = refl
none_in (x ∷ xs) e = absurd (let f : ⊥ = omega (arith, eqb-true (suc (length xs)) 0 e) in f)

pub some_in : (xs : List ℕ) → (length xs == 0) ≡ false → xs ≢ []
some_in xs e is = true≢false (sym (ap (λ (l : List ℕ). length l == 0) is) ∙ e)

-- an end of the input ends it
pub end_over : (phase : Phase) → IsSome (cause_of (after_end_of_input phase))
end_over (sizing []) = refl
end_over (sizing (byte ∷ bytes)) = refl
end_over (held size) = refl
end_over (framing size bytes) = refl
end_over (ready number payload) = refl
end_over (waiting number) = refl
end_over (writing left) = refl
end_over (ended cause) = refl

-- whether one more frame is counted tells whether a payload is whole
module _ (c : ℕ) (old took : TableView) (whole_if : (slot_of c old.slots).conn.frames < (slot_of c took.slots).conn.frames ↔ IsReady (slot_of c took.slots).conn.phase) (one other : ConnView)
    (before later : ℕ) (one_is : one ≡ (slot_of c old.slots).conn) (other_is : other ≡ (slot_of c took.slots).conn) (before_is : before ≡ one.frames) (later_is : later ≡ other.frames) where
  was : before ≡ (slot_of c old.slots).conn.frames
  was = before_is ∙ ap (λ (v : ConnView). v.frames) one_is

  is_now : later ≡ (slot_of c took.slots).conn.frames
  is_now = later_is ∙ ap (λ (v : ConnView). v.frames) other_is

  pub is_whole : before < later → IsReady (slot_of c took.slots).conn.phase
  is_whole more = whole_if.0 (omega (arith, was, is_now))

  pub is_not_whole : later ≤ before → IsReady (slot_of c took.slots).conn.phase → ⊥
  is_not_whole fewer at =
      let more : (slot_of c old.slots).conn.frames < (slot_of c took.slots).conn.frames = whole_if.1 at in
      omega (arith, was, is_now)
