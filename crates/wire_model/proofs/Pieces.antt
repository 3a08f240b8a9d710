-- Pieces that more than one protocol reads: so many bytes, a byte, a length that isn't above the bytes that are left, the tag of a code.
use Rattle.std.specs.Prelude.{slice_index}
use Rattle.std.proofs.Common.{◌≡◌, ◌⊎◌, inl, inr, ℕ, ◌<◌, Bool, true, false, cond, leb, List, [], ◌∷◌, ◌++◌, length, Option, Some, None, Result, Ok, Err, refl, sym, ap, subst, ◌∙◌, append_assoc, arith}
use Rattle.std.proofs.lemmas.Bool.{leb-true, le-leb}
use Rattle.std.proofs.lemmas.List.{take_at, length-append}
use Rattle.std.proofs.lemmas.List.Elements.{All-take}
use Rattle.wire_num.specs.declared.fault.NumFault.{NumFault}
use Rattle.wire_num.specs.Decoding.{decoded_as, decode_bytes, decode_byte}
use Rattle.wire_num.specs.Encoded.{AreByteSized}
use Rattle.wire_num.specs.Fixed.{IsByte}
use Rattle.wire_num.proofs.Fronts.{front_found, front_only, front_short, front_fault, meant_fault}
use Rattle.wire_num.proofs.Numbers.{byte_decodes}
use Rattle.thrift_value.specs.Faults.{wire_fault_of}
use Rattle.thrift_value.specs.declared.tag.Tag.{Tag}
use Rattle.thrift_value.specs.declared.wire_fault.WireFault.{WireFault}
use Rattle.thrift_value.specs.declared.wire_fault.WireFault.TheVariants.{Short, BadType}
use Rattle.wire_model.specs.Decoder.{Unread, give, uncounted, uncounted_result}
use Rattle.wire_model.specs.Pieces.{byte, some_bytes, within_room, tag_or_fault}
use Rattle.wire_model.specs.Protocol.{StaysAs, and_more, with_more}
use Rattle.wire_model.proofs.Staying.{give_stays, fail_stays}
use Rattle.wire_model.proofs.Steps.{ok_is, bytes_behind}
use Rattle.wire_model.proofs.Uncounted.{uncounted_found, uncounted_stays, uncounted_fault, uncounted_done}

-- so many bytes stand in front
pub record Front (size : ℕ) (bytes : List ℕ) (before after : Unread) : Type 0 where
  pub whole : before.bytes ≡ bytes ++ after.bytes
  pub len : length bytes ≡ size
  pub budget : after.budget ≡ before.budget
  pub each : AreByteSized bytes

pub piece_found : (size : ℕ) (before after : Unread) (x : List ℕ) → AreByteSized before.bytes → some_bytes size before ≡ Ok (x, after) → Front size x before after
piece_found size before after x fits e =
    let done = uncounted_done (decode_bytes size) before after x e in
    let f = front_found size before.bytes x after.bytes done.0 in
    record {
      whole = f.whole;
      len = f.len;
      budget = done.1;
      each = subst AreByteSized (take_at x after.bytes size f.len) (All-take (λ b. b < 256) size (x ++ after.bytes) (subst AreByteSized f.whole fits));
    }

pub piece_given : (size : ℕ) (x more : List ℕ) (left : ℕ) → length x ≡ size → some_bytes size (record { bytes = x ++ more; budget = left }) ≡ Ok (x, record { bytes = more; budget = left })
piece_given size x more left len = ap (uncounted_result left) (front_only size x more len)

some_stay_if : (size : ℕ) (r : Result (List ℕ × List ℕ) NumFault) (unread : Unread) (more : List ℕ) → decode_bytes size unread.bytes ≡ r
    → (uncounted_result unread.budget r ≡ Err Short) ⊎ (some_bytes size (and_more more unread) ≡ with_more more (uncounted_result unread.budget r))
some_stay_if size (Ok x) unread more e =
    let f = front_found size unread.bytes x.0 x.1 e in
    inr (ap (λ (t : List ℕ). uncounted_result unread.budget (decode_bytes size t)) (ap (λ (t : List ℕ). t ++ more) f.whole ∙ append_assoc x.0 x.1 more)
    ∙ ap (uncounted_result unread.budget) (front_only size x.0 (x.1 ++ more) f.len))
some_stay_if size (Err fault) unread more e = inl (ap (λ (f : NumFault). Err (wire_fault_of f)) (front_fault size unread.bytes fault e).0)

pub some_stay : (size : ℕ) → StaysAs (some_bytes size) (some_bytes size)
some_stay size = λ unread more. some_stay_if size (decode_bytes size unread.bytes) unread more refl

pub record ByteFront (b : ℕ) (before after : Unread) : Type 0 where
  pub whole : before.bytes ≡ b ∷ after.bytes
  pub small : b < 256
  pub budget : after.budget ≡ before.budget

pub byte_found : (before after : Unread) (b : ℕ) → AreByteSized before.bytes → byte before ≡ Ok (b, after) → ByteFront b before after
byte_found before after b fits e =
    let f = uncounted_found decode_byte IsByte byte_decodes before after b fits e in
    record { whole = f.whole ∙ ap (λ (t : List ℕ). t ++ after.bytes) f.spells.1; small = f.spells.0; budget = f.budget }

pub byte_given : (b : ℕ) (more : List ℕ) (left : ℕ) → byte (record { bytes = b ∷ more; budget = left }) ≡ Ok (b, record { bytes = more; budget = left })
byte_given b more left = ap (λ (r : Result (List ℕ × List ℕ) NumFault). uncounted_result left (decoded_as (λ front. slice_index front 0) r)) (front_only 1 (b ∷ []) more refl)

pub byte_stays : StaysAs byte byte
byte_stays = uncounted_stays decode_byte IsByte byte_decodes

-- the bytes behind a byte are bytes
pub after_byte : (b : ℕ) (before after : Unread) → ByteFront b before after → AreByteSized before.bytes → AreByteSized after.bytes
after_byte b before after f fits = bytes_behind (b ∷ []) after.bytes (subst AreByteSized f.whole fits)

pub fixed_fault : {A : Type 0} (size : ℕ) (meaning : List ℕ → A) (unread : Unread) (fault : WireFault)
    → uncounted (λ bytes. decoded_as meaning (decode_bytes size bytes)) unread ≡ Err fault → (fault ≡ Short) × (length unread.bytes < size)
fixed_fault size meaning unread fault e =
    let u = uncounted_fault (λ bytes. decoded_as meaning (decode_bytes size bytes)) unread fault e in
    let f = front_fault size unread.bytes u.0 (meant_fault meaning (decode_bytes size unread.bytes) u.0 u.1) in
    (sym u.2 ∙ ap wire_fault_of f.0, f.1)

pub fixed_short : {A : Type 0} (size : ℕ) (meaning : List ℕ → A) (unread : Unread) → length unread.bytes < size
    → uncounted (λ bytes. decoded_as meaning (decode_bytes size bytes)) unread ≡ Err Short
fixed_short size meaning unread less = ap (λ (r : Result (List ℕ × List ℕ) NumFault). uncounted_result unread.budget (decoded_as meaning r)) (front_short size unread.bytes less)

pub none_is : (bytes : List ℕ) → length bytes < 1 → bytes ≡ []
none_is [] less = refl
none_is (b ∷ bytes) less = absurd (let f : ⊥ = omega arith in f)

pub byte_fault : (unread : Unread) (fault : WireFault) → byte unread ≡ Err fault → (fault ≡ Short) × (length unread.bytes < 1)
byte_fault unread fault e = fixed_fault 1 (λ front. slice_index front 0) unread fault e

pub byte_short : (unread : Unread) → length unread.bytes < 1 → byte unread ≡ Err Short
byte_short unread less = fixed_short 1 (λ front. slice_index front 0) unread less

abbrev pub sized : ℕ × Unread → Result (ℕ × Unread) WireFault
sized x = Ok x

pub room_found : (b : Bool) (size n : ℕ) (middle after : Unread) → leb size (length middle.bytes) ≡ b → cond b (sized (size, middle)) (Err Short) ≡ Ok (n, after) → ◌≡◌ {A = ℕ × Unread} (size, middle) (n, after)
room_found true size n middle after t e = ok_is (size, middle) (n, after) e
room_found false size n middle after t e = absurd cc

room_stays_if : (b : Bool) (size : ℕ) (unread : Unread) (more : List ℕ) → leb size (length unread.bytes) ≡ b
    → (cond b (sized (size, unread)) (Err Short) ≡ Err Short) ⊎ (within_room size (and_more more unread) ≡ with_more more (cond b (sized (size, unread)) (Err Short)))
room_stays_if false size unread more test = inl refl
room_stays_if true size unread more test =
    let enough = leb-true size (length unread.bytes) test in
    inr (ap (λ (z : Bool). cond z (sized (size, and_more more unread)) (Err Short)) (le-leb size (length (unread.bytes ++ more)) (omega (arith, length-append unread.bytes more))))

pub room_stays : (size : ℕ) → StaysAs (within_room size) (within_room size)
room_stays size = λ unread more. room_stays_if (leb size (length unread.bytes)) size unread more refl

pub tag_stays_if : (code : ℕ) (o : Option Tag) → StaysAs (tag_or_fault code o) (tag_or_fault code o)
tag_stays_if code None = fail_stays (BadType code)
tag_stays_if code (Some tag) = give_stays tag

pub given_no_fault : {A B : Type 0} (r : Result (A × Unread) WireFault) (f : A → B) (fault : WireFault) → ((r ≡ Err fault) ⊎ ((x : A × Unread) × (r ≡ Ok x) × (give (f x.0) x.1 ≡ Err fault))) → r ≡ Err fault
given_no_fault r f fault (inl e) = e
given_no_fault r f fault (inr on) = absurd (let x = on.2 in cc)
