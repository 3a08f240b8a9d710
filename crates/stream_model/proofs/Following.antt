-- Plans follow decoders: parts, and one after another.
use Rattle.std.specs.Prelude.{⊤, ℤ, pos, negsuc}
use Rattle.std.specs.Int.{Width, w8, w16, w32, w64, w128, byte_len}
use Rattle.std.proofs.Common.{◌≡◌, ℕ, zero, suc, ◌+◌, ◌-◌, ◌≤◌, ◌<◌, Bool, true, false, cond, eqb, nat_le, nat_lt, List, length, drop, take, Option, Some, None, Result, Ok, Err, refl, sym, ap, ◌∙◌, subst, arith}
use Rattle.std.proofs.lemmas.List.{length-drop}
use Rattle.std.proofs.lemmas.Bool.{leb-true, leb-false, le-ltb, lt-ltb, ne_eqb}
use Rattle.wire_num.specs.declared.fault.NumFault.{NumFault}
use Rattle.wire_num.specs.declared.fault.NumFault.TheVariants as number
use Rattle.wire_num.specs.Decoding.{decoded_as, decode_bytes}
use Rattle.thrift_value.specs.declared.wire_fault.WireFault.{WireFault}
use Rattle.thrift_value.specs.declared.wire_fault.WireFault.TheVariants.{Short, TooMany}
use Rattle.wire_model.specs.Decoder.{Unread, go_on, ◌>>=◌, give, fail, uncounted, uncounted_result, count_value}
use Rattle.stream_model.specs.declared.fault.StreamFault.TheVariants.{TooLong}
use Rattle.stream_model.specs.Plan.{Plan, needs, room, faulty, counted_plan}
use Rattle.stream_model.specs.Progress.{MessageProgress, Wants, Refused, progress}
use Rattle.stream_model.specs.Reading.{stream_fault}

-- Under bytes that are as many as a message may still have: the plan goes on behind what was decoded, of which at most so many bytes are left, or has its fault.
abbrev pub Meets : {A : Type 0} → ℕ → ℕ → (A → ℕ → Plan) → Result (A × Unread) WireFault → MessageProgress → Type 0
Meets max bound next (Ok x) g = (g ≡ progress max (max - length x.1.bytes) (next x.0 x.1.budget) x.1.bytes) × (length x.1.bytes ≤ bound)
Meets max bound next (Err fault) g = (at : ℕ) × (g ≡ Refused at (stream_fault fault))

-- a plan follows a decoder whose find it may look at
abbrev pub Follows : {A : Type 0} → ℕ → (Unread → Result (A × Unread) WireFault) → (ℕ → (A → ℕ → Plan) → Plan) → Type 0
Follows max decoder plan = (unread : Unread) (next : _ → ℕ → Plan) → length unread.bytes ≤ max
    → Meets max (length unread.bytes) next (decoder unread) (progress max (max - length unread.bytes) (plan unread.budget next) unread.bytes)

-- a plan follows a decoder whose find it doesn't look at
abbrev pub Passes : {A : Type 0} → ℕ → (Unread → Result (A × Unread) WireFault) → (ℕ → (ℕ → Plan) → Plan) → Type 0
Passes max decoder plan = (unread : Unread) (next : ℕ → Plan) → length unread.bytes ≤ max
    → Meets max (length unread.bytes) (λ _. next) (decoder unread) (progress max (max - length unread.bytes) (plan unread.budget next) unread.bytes)

-- with the same progress, and a looser bound
pub moved : {A : Type 0} (max small large : ℕ) (next : A → ℕ → Plan) (r : Result (A × Unread) WireFault) (g h : MessageProgress) → small ≤ large → g ≡ h
    → Meets max small next r h → Meets max large next r g
moved max small large next (Ok x) g h le e m = (e ∙ m.0, let a : length x.1.bytes ≤ small = m.1 in omega arith)
moved max small large next (Err fault) g h le e m = (m.0, e ∙ m.1)

-- one step and then the next
pub went : {A B : Type 0} (max bound : ℕ) (r : Result (A × Unread) WireFault) (f : A → Unread → Result (B × Unread) WireFault) (k : A → ℕ → Plan) (next : B → ℕ → Plan) (g : MessageProgress)
    → Meets max bound k r g
    → ((x : A) (u : Unread) → length u.bytes ≤ bound → Meets max (length u.bytes) next (f x u) (progress max (max - length u.bytes) (k x u.budget) u.bytes))
    → Meets max bound next (go_on r f) g
went max bound (Ok x) f k next g m then_meets =
    moved max (length x.1.bytes) bound next (f x.0 x.1) g (progress max (max - length x.1.bytes) (k x.0 x.1.budget) x.1.bytes) m.1 m.0 (then_meets x.0 x.1 m.1)
went max bound (Err fault) f k next g m then_meets = m

pub then_follows : {A B : Type 0} (max : ℕ) (d : Unread → Result (A × Unread) WireFault) (f : A → Unread → Result (B × Unread) WireFault)
    (p : ℕ → (A → ℕ → Plan) → Plan) (q : A → ℕ → (B → ℕ → Plan) → Plan) → Follows max d p → ((x : A) → Follows max (f x) (q x))
    → Follows max (d >>= f) (λ budget next. p budget (λ x b. q x b next))
then_follows max d f p q h k = λ unread next le.
    went max (length unread.bytes) (d unread) f (λ x b. q x b next) next (progress max (max - length unread.bytes) (p unread.budget (λ x b. q x b next)) unread.bytes)
    (h unread (λ x b. q x b next) le) (λ x u within. k x u next (omega arith))

pub then_passes : {A B : Type 0} (max : ℕ) (d : Unread → Result (A × Unread) WireFault) (f : A → Unread → Result (B × Unread) WireFault)
    (p : ℕ → (A → ℕ → Plan) → Plan) (q : A → ℕ → (ℕ → Plan) → Plan) → Follows max d p → ((x : A) → Passes max (f x) (q x))
    → Passes max (d >>= f) (λ budget next. p budget (λ x b. q x b next))
then_passes max d f p q h k = λ unread next le.
    went max (length unread.bytes) (d unread) f (λ x b. q x b next) (λ _. next) (progress max (max - length unread.bytes) (p unread.budget (λ x b. q x b next)) unread.bytes)
    (h unread (λ x b. q x b next) le) (λ x u within. k x u next (omega arith))

pub passes_on : {A B : Type 0} (max : ℕ) (d : Unread → Result (A × Unread) WireFault) (f : A → Unread → Result (B × Unread) WireFault)
    (p q : ℕ → (ℕ → Plan) → Plan) → Passes max d p → ((x : A) → Passes max (f x) q)
    → Passes max (d >>= f) (λ budget next. p budget (λ b. q b next))
passes_on max d f p q h k = λ unread next le.
    went max (length unread.bytes) (d unread) f (λ _ b. q b next) (λ _. next) (progress max (max - length unread.bytes) (p unread.budget (λ b. q b next)) unread.bytes)
    (h unread (λ b. q b next) le) (λ x u within. k x u next (omega arith))

pub give_follows : {A : Type 0} (max : ℕ) (x : A) → Follows max (give x) (λ budget next. next x budget)
give_follows max x = λ unread next le. (refl, omega arith)

pub give_passes : {A : Type 0} (max : ℕ) (x : A) → Passes max (give x) (λ budget next. next budget)
give_passes max x = λ unread next le. (refl, omega arith)

pub fail_follows : (A : Type 0) (max : ℕ) (fault : WireFault) → Follows {A = A} max (fail fault) (λ budget next. faulty (stream_fault fault))
fail_follows A max fault = λ unread next le. (max - length unread.bytes, refl)

pub fail_passes : (A : Type 0) (max : ℕ) (fault : WireFault) → Passes {A = A} max (fail fault) (λ budget next. faulty (stream_fault fault))
fail_passes A max fault = λ unread next le. (max - length unread.bytes, refl)

-- ---- items of so many bytes

-- where so many bytes are there
pub taken : (max size : ℕ) (next : List ℕ → Plan) (bytes : List ℕ) → size ≤ length bytes → length bytes ≤ max
    → progress max (max - length bytes) (needs size next) bytes ≡ progress max (max - length (drop size bytes)) (next (take size bytes)) (drop size bytes)
taken max size next bytes some le =
    let on : ℕ → MessageProgress = λ at. progress max at (next (take size bytes)) (drop size bytes) in
    ap (λ (b : Bool). cond b (Refused (max - length bytes) TooLong) (cond (nat_lt (length bytes) size) (Wants (size - length bytes)) (on ((max - length bytes) + size))))
    (le-ltb max ((max - length bytes) + size) (omega arith))
    ∙ ap (λ (b : Bool). cond b (Wants (size - length bytes)) (on ((max - length bytes) + size))) (le-ltb (length bytes) size some)
    ∙ ap on (omega (arith, length-drop size bytes))

-- where they aren't
pub lacked : (max size : ℕ) (next : List ℕ → Plan) (bytes : List ℕ) → length bytes < size → length bytes ≤ max
    → progress max (max - length bytes) (needs size next) bytes ≡ Refused (max - length bytes) TooLong
lacked max size next bytes few le =
    ap (λ (b : Bool). cond b (Refused (max - length bytes) TooLong)
    (cond (nat_lt (length bytes) size) (Wants (size - length bytes)) (progress max ((max - length bytes) + size) (next (take size bytes)) (drop size bytes))))
    (lt-ltb max ((max - length bytes) + size) (omega arith))

bytes_meet_if : {A : Type 0} (max size : ℕ) (meaning : List ℕ → A) (unread : Unread) (next : A → ℕ → Plan) → length unread.bytes ≤ max → (b : Bool)
    → nat_le size (length unread.bytes) ≡ b
    → Meets max (length unread.bytes - size) next (uncounted_result unread.budget (decoded_as meaning (cond b (Ok (take size unread.bytes, drop size unread.bytes)) (Err number.Short))))
    (progress max (max - length unread.bytes) (needs size (λ bytes. next (meaning bytes) unread.budget)) unread.bytes)
bytes_meet_if max size meaning unread next le true e =
    (taken max size (λ bytes. next (meaning bytes) unread.budget) unread.bytes (leb-true size (length unread.bytes) e) le, omega (arith, length-drop size unread.bytes))
bytes_meet_if max size meaning unread next le false e =
    (max - length unread.bytes, lacked max size (λ bytes. next (meaning bytes) unread.budget) unread.bytes (leb-false size (length unread.bytes) e) le)

-- so many bytes, as what they mean; so many fewer are left
pub meant_meet : {A : Type 0} (max size : ℕ) (meaning : List ℕ → A) (unread : Unread) (next : A → ℕ → Plan) → length unread.bytes ≤ max
    → Meets max (length unread.bytes - size) next (uncounted (λ bytes. decoded_as meaning (decode_bytes size bytes)) unread)
    (progress max (max - length unread.bytes) (needs size (λ bytes. next (meaning bytes) unread.budget)) unread.bytes)
meant_meet max size meaning unread next le = bytes_meet_if max size meaning unread next le (nat_le size (length unread.bytes)) refl

pub meant_follow : {A : Type 0} (max size : ℕ) (meaning : List ℕ → A)
    → Follows max (uncounted (λ bytes. decoded_as meaning (decode_bytes size bytes))) (λ budget next. needs size (λ bytes. next (meaning bytes) budget))
meant_follow max size meaning = λ unread next le.
    moved max (length unread.bytes - size) (length unread.bytes) next (uncounted (λ bytes. decoded_as meaning (decode_bytes size bytes)) unread)
    (progress max (max - length unread.bytes) (needs size (λ bytes. next (meaning bytes) unread.budget)) unread.bytes)
    (progress max (max - length unread.bytes) (needs size (λ bytes. next (meaning bytes) unread.budget)) unread.bytes) (omega arith) refl
    (meant_meet max size meaning unread next le)

some_meet_if : (max size : ℕ) (unread : Unread) (next : List ℕ → ℕ → Plan) → length unread.bytes ≤ max → (b : Bool) → nat_le size (length unread.bytes) ≡ b
    → Meets max (length unread.bytes) next (uncounted_result unread.budget (cond b (Ok (take size unread.bytes, drop size unread.bytes)) (Err number.Short)))
    (progress max (max - length unread.bytes) (needs size (λ bytes. next bytes unread.budget)) unread.bytes)
some_meet_if max size unread next le true e =
    (taken max size (λ bytes. next bytes unread.budget) unread.bytes (leb-true size (length unread.bytes) e) le, omega (arith, length-drop size unread.bytes))
some_meet_if max size unread next le false e =
    (max - length unread.bytes, lacked max size (λ bytes. next bytes unread.budget) unread.bytes (leb-false size (length unread.bytes) e) le)

pub some_follow : (max size : ℕ) → Follows max (uncounted (decode_bytes size)) (λ budget next. needs size (λ bytes. next bytes budget))
some_follow max size = λ unread next le. some_meet_if max size unread next le (nat_le size (length unread.bytes)) refl

-- ---- room

room_meets_if : (max size : ℕ) (unread : Unread) (next : ℕ → ℕ → Plan) → length unread.bytes ≤ max → (b : Bool) → nat_le size (length unread.bytes) ≡ b
    → Meets max (length unread.bytes) next (cond b (Ok (size, unread)) (Err Short)) (progress max (max - length unread.bytes) (room size (next size unread.budget)) unread.bytes)
room_meets_if max size unread next le true e =
    let some : size ≤ length unread.bytes = leb-true size (length unread.bytes) e in (
      ap (λ (b : Bool). cond b (Refused (max - length unread.bytes) TooLong) (progress max (max - length unread.bytes) (next size unread.budget) unread.bytes))
          (le-ltb max ((max - length unread.bytes) + size) (omega arith)),
      omega arith,
    )
room_meets_if max size unread next le false e =
    let few : length unread.bytes < size = leb-false size (length unread.bytes) e in (
      max - length unread.bytes,
      ap (λ (b : Bool). cond b (Refused (max - length unread.bytes) TooLong) (progress max (max - length unread.bytes) (next size unread.budget) unread.bytes))
          (lt-ltb max ((max - length unread.bytes) + size) (omega arith)),
    )

pub room_follows : (max size : ℕ)
    → Follows max (λ rest. cond (nat_le size (length rest.bytes)) (Ok (size, rest)) (Err Short)) (λ budget next. room size (next size budget))
room_follows max size = λ unread next le. room_meets_if max size unread next le (nat_le size (length unread.bytes)) refl

-- ---- values that are counted

abbrev done : ⊤ × Unread → Result (⊤ × Unread) WireFault
done x = Ok x

one_counts : (bytes : List ℕ) (left : ℕ) → count_value (record { bytes = bytes; budget = suc left }) ≡ Ok (tt, record { bytes = bytes; budget = left })
one_counts bytes left =
    ap (λ (b : Bool). cond b (Err TooMany) (done (tt, record { bytes = bytes; budget = suc left - 1 }))) (ne_eqb (suc left) 0 (omega arith))
    ∙ ap (λ (k : ℕ). done (tt, record { bytes = bytes; budget = k })) (omega arith)

counted_meets : (max : ℕ) (bytes : List ℕ) (budget : ℕ) (next : ℕ → Plan) → length bytes ≤ max
    → Meets max (length bytes) (λ _. next) (count_value (record { bytes = bytes; budget = budget })) (progress max (max - length bytes) (counted_plan budget next) bytes)
counted_meets max bytes zero next le = (max - length bytes, refl)
counted_meets max bytes (suc budget) next le =
    subst (λ (r : Result (⊤ × Unread) WireFault). Meets max (length bytes) (λ _. next) r (progress max (max - length bytes) (next budget) bytes)) (sym (one_counts bytes budget)) (refl, omega arith)

pub counted_passes : (max : ℕ) → Passes max count_value (λ budget next. counted_plan budget next)
counted_passes max = λ unread next le. counted_meets max unread.bytes unread.budget next le
