-- Readers, step by step.
use Rattle.std.specs.Prelude.{⊤}
use Rattle.std.proofs.Common.{◌≡◌, ◌⊎◌, inl, inr, ℕ, suc, ◌+◌, ◌-◌, ◌<◌, ◌≤◌, Bool, true, false, cond, eqb, List, [], ◌++◌, length, Result, Ok, Err, refl, sym, ap, subst, ◌∙◌, append_assoc, arith}
use Rattle.std.proofs.lemmas.Bool.{eqb-false, ne_eqb}
use Rattle.std.proofs.lemmas.List.{length-append, drop_at}
use Rattle.std.proofs.lemmas.List.Elements.{All-drop}
use Rattle.thrift_value.specs.declared.wire_fault.WireFault.{WireFault}
use Rattle.thrift_value.specs.declared.wire_fault.WireFault.TheVariants.{TooMany}
use Rattle.wire_model.specs.Decoder.{Unread, go_on, count_value}
use Rattle.wire_num.specs.Encoded.{AreByteSized}
use Rattle.wire_model.specs.Protocol.{IsInFront}

-- a step that did not fail
pub went_on : {A B : Type 0} (r : Result (A × Unread) WireFault) (f : A → Unread → Result (B × Unread) WireFault) (y : B × Unread)
    → go_on r f ≡ Ok y → (x : A × Unread) × (r ≡ Ok x) × (f x.0 x.1 ≡ Ok y)
went_on (Ok x) f y e = (x, refl, e)
went_on (Err d) f y e = absurd cc

-- a step that does not fail
pub goes_on : {A B : Type 0} (r : Result (A × Unread) WireFault) (f : A → Unread → Result (B × Unread) WireFault) (x : A) (next : Unread) (y : Result (B × Unread) WireFault)
    → r ≡ Ok (x, next) → f x next ≡ y → go_on r f ≡ y
goes_on r f x next y e h = ap (λ (q : Result _ WireFault). go_on q f) e ∙ h

abbrev done : {A : Type 0} → A × Unread → Result (A × Unread) WireFault
done x = Ok x

pub ok_is : {A : Type 0} (x y : A × Unread) → done x ≡ done y → x ≡ y
ok_is x y e = cc

err_is : {A : Type 0} (one other : WireFault) → ◌≡◌ {A = Result A WireFault} (Err one) (Err other) → one ≡ other
err_is one other e = cc

-- a step that failed, or the next one did
pub failed : {A B : Type 0} (r : Result (A × Unread) WireFault) (f : A → Unread → Result (B × Unread) WireFault) (fault : WireFault)
    → go_on r f ≡ Err fault → (r ≡ Err fault) ⊎ ((x : A × Unread) × (r ≡ Ok x) × (f x.0 x.1 ≡ Err fault))
failed (Ok x) f fault e = inr (x, refl, e)
failed (Err d) f fault e = inl (ap (λ (k : WireFault). Err k) (err_is d fault e))

-- a step that fails
pub fails : {A B : Type 0} (r : Result (A × Unread) WireFault) (f : A → Unread → Result (B × Unread) WireFault) (fault : WireFault)
    → r ≡ Err fault → go_on r f ≡ Err fault
fails r f fault e = ap (λ (q : Result _ WireFault). go_on q f) e

-- what was read in front, how many values it was, and what is left
pub record Moved (before after : Unread) (text : List ℕ) (count : ℕ) : Type 0 where
  pub whole : before.bytes ≡ text ++ after.bytes
  pub count_is : count + after.budget ≡ before.budget
  pub bytes : count ≤ length text

pub Moved-none : (before : Unread) → Moved before before [] 0
Moved-none before = record { whole = refl; count_is = omega arith; bytes = omega arith }

pub Moved-then : (a b c : Unread) (s t : List ℕ) (m n : ℕ) → Moved a b s m → Moved b c t n → Moved a c (s ++ t) (m + n)
Moved-then a b c s t m n p q =
    record {
      whole = p.whole ∙ ap (λ (x : List ℕ). s ++ x) q.whole ∙ sym (append_assoc s t c.bytes);
      count_is = let x : m + b.budget ≡ a.budget = p.count_is in let y : n + c.budget ≡ b.budget = q.count_is in omega arith;
      bytes = let x : m ≤ length s = p.bytes in let y : n ≤ length t = q.bytes in omega (arith, length-append s t);
    }

pub Moved_of_found : {A : Type 0} {IsText : A → List ℕ → Type 0} (x : A) (before after : Unread) (f : IsInFront IsText x before after) → Moved before after f.text 0
Moved_of_found x before after f = record { whole = f.whole; count_is = let y : after.budget ≡ before.budget = f.budget in omega arith; bytes = omega arith }

pub bytes_behind : (s t : List ℕ) → AreByteSized (s ++ t) → AreByteSized t
bytes_behind s t h = subst AreByteSized (drop_at s t (length s) refl) (All-drop (λ b. b < 256) (length s) (s ++ t) h)

pub bytes_after : (before after : Unread) (s : List ℕ) → before.bytes ≡ s ++ after.bytes → AreByteSized before.bytes → AreByteSized after.bytes
bytes_after before after s e h = bytes_behind s after.bytes (subst AreByteSized e h)

-- the counting of one value
counted_if : (b : Bool) (bytes : List ℕ) (left : ℕ) (x : ⊤ × Unread) → eqb left 0 ≡ b → cond b (Err TooMany) (done (tt, record { bytes = bytes; budget = left - 1 })) ≡ Ok x
    → (suc x.1.budget ≡ left) × (x.1.bytes ≡ bytes)
counted_if true bytes left x t e = absurd cc
counted_if false bytes left x t e =
    let same : (tt, record { bytes = bytes; budget = left - 1 }) ≡ x = ok_is (tt, record { bytes = bytes; budget = left - 1 }) x e in
    let some : left ≡ 0 → ⊥ = eqb-false left 0 t in
    (subst (λ (y : ⊤ × Unread). suc y.1.budget ≡ left) same (omega arith), sym (ap (λ (y : ⊤ × Unread). y.1.bytes) same))

pub counted : (before : Unread) (x : ⊤ × Unread) → count_value before ≡ Ok x → (suc x.1.budget ≡ before.budget) × (x.1.bytes ≡ before.bytes)
counted before x e = counted_if (eqb before.budget 0) before.bytes before.budget x refl e

pub one_counts : (bytes : List ℕ) (n left : ℕ) → n ≡ suc left → count_value (record { bytes = bytes; budget = n }) ≡ Ok (tt, record { bytes = bytes; budget = left })
one_counts bytes n left e =
    ap (λ (b : Bool). cond b (Err TooMany) (done (tt, record { bytes = bytes; budget = n - 1 }))) (ne_eqb n 0 (omega arith))
    ∙ ap (λ (k : ℕ). done (tt, record { bytes = bytes; budget = k })) (omega arith)
