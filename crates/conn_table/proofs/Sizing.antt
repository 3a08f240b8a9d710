-- What a change of one connection leaves of the others, of the sizes, and of what is admitted.
use Rattle.std.proofs.Common.{◌≡◌, ℕ, ◌+◌, ◌<◌, ◌≤◌, ◌⊎◌, Bool, true, false, ◌==◌, nat_lt, nat_le, ◌&&◌, ℤ, pos, negsuc, ◌++◌, if◌then◌else◌, Option, None, Some, List, [], ◌∷◌, length, unwrap_or, refl, sym, ap, ◌∙◌, subst, inl, inr, arith, eq-eqb, ne_eqb, length-append, ◌-◌, min, IsSome}
use Rattle.std.specs.List.{AllByRecursion}
use Rattle.std.proofs.lemmas.Bool.{false≢true, cases_eq, cases_lt, lt-ltb, le-ltb}
use Rattle.std.proofs.lemmas.Option.{none-some, same_Some}
use Rattle.std.specs.Int.{w32, from_be_bytes, cast_signed}
use Rattle.streams.specs.declared.outcomes.Settled.{Settled}
use Rattle.streams.specs.declared.outcomes.Settled.TheVariants.{Reply, Nothing, Close, NoMemory as NoRoom}
use Rattle.host_model.specs.declared.cause.EndCause.TheVariants.{SizeFault}
use Rattle.conn_state.specs.Phase.{Phase, ConnView, wanted, size_asked, sizing, held, framing, ready, waiting, writing, ended}
use Rattle.conn_state.specs.Step.{after_admission, after_size, after_payload_bytes, after_bytes, after_took, after_answer, after_wrote, after_end_of_input}
use Rattle.conn_table.specs.declared.places.Slot.{Slot}
use Rattle.conn_table.specs.Slots.{slot_in, with_slot, with_added, without_number}
use Rattle.conn_table.specs.Table.{TableView, fresh_slot, slot_of, with_state, size_given, sizes_given, TakesRoom, HasItsSize, IsAdmitted, IsSoundTable}
use Rattle.conn_table.proofs.Placing.{value_of, has_value}

-- what is kept of an open connection
pub slot_is : (c : ℕ) (slots : List Slot) → IsSome (slot_in c slots) → slot_in c slots ≡ Some (slot_of c slots)
slot_is c slots s = let v : (x : Slot) × (slot_in c slots ≡ Some x) = value_of (slot_in c slots) s in v.1 ∙ ap Some (sym (ap (λ o. unwrap_or o (fresh_slot c)) v.1))

pub of_found : (c : ℕ) (slots : List Slot) (slot : Slot) → slot_in c slots ≡ Some slot → slot_of c slots ≡ slot
of_found c slots slot e = ap (λ o. unwrap_or o (fresh_slot c)) e

-- it has its number
pub found_number : (c : ℕ) (slots : List Slot) (slot : Slot) → slot_in c slots ≡ Some slot → slot.number ≡ c
found_number c [] slot e = absurd (none-some slot e)
found_number c (s ∷ slots) slot e = go (cases_eq s.number c) (λ f. found_number c slots slot f)
  where
    go : (s.number ≡ c) ⊎ (s.number ≡ c → ⊥) → (slot_in c slots ≡ Some slot → slot.number ≡ c) → slot.number ≡ c
    go (inl is) again = sym (ap (λ (x : Slot). x.number) (same_Some s slot (sym (ap (λ t. if t then Some s else slot_in c slots) (eq-eqb s.number c is)) ∙ e))) ∙ is
    go (inr n) again = again (sym (ap (λ t. if t then Some s else slot_in c slots) (ne_eqb s.number c n)) ∙ e)

-- a connection that was put in the place of another is found
pub found_put : (new : Slot) (slots : List Slot) → IsSome (slot_in new.number slots) → slot_in new.number (with_slot new slots) ≡ Some new
found_put new [] s = absurd (false≢true s)
found_put new (x ∷ slots) s = go (cases_eq x.number new.number) (λ f. found_put new slots f)
  where
    go : (x.number ≡ new.number) ⊎ (x.number ≡ new.number → ⊥) → (IsSome (slot_in new.number slots) → slot_in new.number (with_slot new slots) ≡ Some new)
        → slot_in new.number (with_slot new (x ∷ slots)) ≡ Some new
    go (inl is) again =
        ap (λ t. slot_in new.number (if t then new ∷ slots else x ∷ with_slot new slots)) (eq-eqb x.number new.number is)
        ∙ ap (λ t. if t then Some new else slot_in new.number slots) (eq-eqb new.number new.number refl)
    go (inr n) again =
        ap (λ t. slot_in new.number (if t then new ∷ slots else x ∷ with_slot new slots)) (ne_eqb x.number new.number n)
        ∙ ap (λ t. if t then Some x else slot_in new.number (with_slot new slots)) (ne_eqb x.number new.number n)
        ∙ again (subst (λ t. IsSome (if t then Some x else slot_in new.number slots)) (ne_eqb x.number new.number n) s)

all_put : (P : Slot → Type 0) (new : Slot) (slots : List Slot) → AllByRecursion P slots → P new → AllByRecursion P (with_slot new slots)
all_put P new [] a p = tt
all_put P new (x ∷ slots) a p = step (x.number == new.number) (all_put P new slots a.1 p)
  where
    step : (b : Bool) → AllByRecursion P (with_slot new slots) → AllByRecursion P (if b then new ∷ slots else x ∷ with_slot new slots)
    step true rest = (p, a.1)
    step false rest = (a.0, rest)

pub all_found : (P : Slot → Type 0) (c : ℕ) (slots : List Slot) (slot : Slot) → AllByRecursion P slots → slot_in c slots ≡ Some slot → P slot
all_found P c [] slot a e = absurd (none-some slot e)
all_found P c (x ∷ slots) slot a e = go (cases_eq x.number c) (λ f. all_found P c slots slot a.1 f)
  where
    go : (x.number ≡ c) ⊎ (x.number ≡ c → ⊥) → (slot_in c slots ≡ Some slot → P slot) → P slot
    go (inl is) again = subst P (same_Some x slot (sym (ap (λ t. if t then Some x else slot_in c slots) (eq-eqb x.number c is)) ∙ e)) a.0
    go (inr n) again = again (sym (ap (λ t. if t then Some x else slot_in c slots) (ne_eqb x.number c n)) ∙ e)

-- the sizes, where one is put in the place of another
pub sizes_put : (new old : Slot) (slots : List Slot) → slot_in new.number slots ≡ Some old → sizes_given (with_slot new slots) + size_given old.size ≡ sizes_given slots + size_given new.size
sizes_put new old [] e = absurd (none-some old e)
sizes_put new old (x ∷ slots) e = go (cases_eq x.number new.number) (λ f. sizes_put new old slots f)
  where
    go : (x.number ≡ new.number) ⊎ (x.number ≡ new.number → ⊥) → (slot_in new.number slots ≡ Some old → sizes_given (with_slot new slots) + size_given old.size ≡ sizes_given slots + size_given new.size)
        → sizes_given (with_slot new (x ∷ slots)) + size_given old.size ≡ sizes_given (x ∷ slots) + size_given new.size
    go (inl is) again =
        let same : x ≡ old = same_Some x old (sym (ap (λ t. if t then Some x else slot_in new.number slots) (eq-eqb x.number new.number is)) ∙ e) in
        let k : size_given x.size ≡ size_given old.size = ap (λ (s : Slot). size_given s.size) same in
        let l : sizes_given (with_slot new (x ∷ slots)) ≡ size_given new.size + sizes_given slots =
        ap (λ t. sizes_given (if t then new ∷ slots else x ∷ with_slot new slots)) (eq-eqb x.number new.number is) in
        omega arith
    go (inr n) again =
        let t : sizes_given (with_slot new slots) + size_given old.size ≡ sizes_given slots + size_given new.size =
        again (sym (ap (λ t. if t then Some x else slot_in new.number slots) (ne_eqb x.number new.number n)) ∙ e) in
        let l : sizes_given (with_slot new (x ∷ slots)) ≡ size_given x.size + sizes_given (with_slot new slots) =
        ap (λ t. sizes_given (if t then new ∷ slots else x ∷ with_slot new slots)) (ne_eqb x.number new.number n) in
        omega arith

-- A connection changes its state and keeps its size: the table stays sound where the payload that takes room then has the size of the one before.
pub changed_sound : (slots : List Slot) (budget admitted c : ℕ) (new : Slot) → IsSoundTable slots budget admitted → IsSome (slot_in c slots) → new.number ≡ c → new.size ≡ (slot_of c slots).size
    → (HasItsSize (slot_of c slots).conn.phase (slot_of c slots).size → HasItsSize new.conn.phase (slot_of c slots).size) → IsSoundTable (with_slot new slots) budget admitted
changed_sound slots budget admitted c new s there number size room =
    let at : slot_in new.number slots ≡ Some (slot_of c slots) = ap (λ k. slot_in k slots) number ∙ slot_is c slots there in
    let t : sizes_given (with_slot new slots) + size_given (slot_of c slots).size ≡ sizes_given slots + size_given new.size = sizes_put new (slot_of c slots) slots at in
    let k : size_given new.size ≡ size_given (slot_of c slots).size = ap size_given size in
    let sum : admitted ≡ sizes_given slots = s.sum in
    record {
      sum = omega arith;
      within = s.within;
      each = all_put IsAdmitted new slots s.each (subst (HasItsSize new.conn.phase) (sym size) (room (all_found IsAdmitted c slots (slot_of c slots) s.each (slot_is c slots there))));
    }

-- A call of one connection's state in its place: the table stays sound, and nothing but the state is changed.
pub in_place : (old : TableView) (places : List Slot) (budget admitted c : ℕ) (conn : ConnView) → IsSoundTable places budget admitted
    → record { budget = budget; slots = places } ≡ old → IsSome (slot_in c old.slots)
    → ((size : Option ℕ) → HasItsSize (slot_of c old.slots).conn.phase size → HasItsSize conn.phase size)
    → IsSoundTable (with_state c conn places) budget admitted × (record { budget = budget; slots = with_state c conn places } ≡ record old { slots = with_state c conn old.slots })
in_place old places budget admitted c conn sound view there room =
    let open_there : IsSome (slot_in c places) = subst (λ (o : TableView). IsSome (slot_in c o.slots)) (sym view) there in
    let room_there : (size : Option ℕ) → HasItsSize (slot_of c places).conn.phase size → HasItsSize conn.phase size =
    subst (λ (o : TableView). (size : Option ℕ) → HasItsSize (slot_of c o.slots).conn.phase size → HasItsSize conn.phase size) (sym view) room in
    let new : Slot = record { number = c; conn = conn; size = (slot_of c places).size } in (
      changed_sound places budget admitted c new sound open_there refl refl (room_there (slot_of c places).size),
      ap (λ (o : TableView). record o { slots = with_state c conn o.slots }) view,
    )

-- which phases take no room
pub answer_room : (settled : Settled) (size : Option ℕ) → HasItsSize (after_answer settled) size
answer_room (Reply reply) size = tt
answer_room Nothing size = tt
answer_room (Close fault) size = tt
answer_room NoRoom size = tt

pub wrote_room : (left : List ℕ) (size : Option ℕ) → HasItsSize (after_wrote left) size
wrote_room [] size = tt
wrote_room (byte ∷ left) size = tt

pub end_room : (phase : Phase) (size : Option ℕ) → HasItsSize (after_end_of_input phase) size
end_room (sizing []) size = tt
end_room (sizing (byte ∷ bytes)) size = tt
end_room (held asked) size = tt
end_room (framing asked bytes) size = tt
end_room (ready number payload) size = tt
end_room (waiting number) size = tt
end_room (writing left) size = tt
end_room (ended cause) size = tt

-- a payload that is handed out was admitted
pub give_room : (phase : Phase) (number : ℕ) (payload : List ℕ) (size : Option ℕ) → phase ≡ ready number payload → HasItsSize phase size → IsSome size
give_room phase number payload size is has = let e : size ≡ Some (length payload) = subst (λ p. HasItsSize p size) is has in has_value size (length payload) e

-- nothing is asked of a phase that takes no room
pub idle_size : (phase : Phase) (size : Option ℕ) → (TakesRoom phase → ⊥) → HasItsSize phase size
idle_size (sizing bytes) size idle = tt
idle_size (held asked) size idle = tt
idle_size (framing asked bytes) size idle = absurd (idle tt)
idle_size (ready number payload) size idle = absurd (idle tt)
idle_size (waiting number) size idle = absurd (idle tt)
idle_size (writing left) size idle = tt
idle_size (ended cause) size idle = tt

-- a frame that is admitted has the size that it asked for
pub admitted_size : (phase : Phase) (new : ConnView) (size : ℕ) → size_asked phase ≡ Some size → new.phase ≡ after_admission phase → HasItsSize new.phase (Some size)
admitted_size phase new size asked is = subst (λ p. HasItsSize p (Some size)) (sym is) (go phase asked)
  where
    go : (phase : Phase) → size_asked phase ≡ Some size → HasItsSize (after_admission phase) (Some size)
    go (sizing bytes) e = tt
    go (held other) e = sym e
    go (framing other bytes) e = absurd (none-some size e)
    go (ready number payload) e = absurd (none-some size e)
    go (waiting number) e = refl
    go (writing left) e = tt
    go (ended cause) e = tt

either_size : (b : Bool) (x y : Phase) (size : Option ℕ) → HasItsSize x size → HasItsSize y size → HasItsSize (if b then x else y) size
either_size true x y size a b = a
either_size false x y size a b = b

size_none : (max : ℕ) (asked : ℤ) (size : Option ℕ) → HasItsSize (after_size max asked) size
size_none max (pos asked) size = either_size (nat_le 1 asked && nat_le asked max) (held asked) (ended (SizeFault (pos asked))) size tt tt
size_none max (negsuc asked) size = tt

-- bytes that were asked for leave a payload at its size, or make it whole
pub took_room : (max : ℕ) (view : ConnView) (bytes : List ℕ) → 0 < length bytes → length bytes ≤ wanted view.phase → (size : Option ℕ) → HasItsSize view.phase size
    → HasItsSize (after_took max view bytes).phase size
took_room max view bytes some asked size has = go view.phase asked has
  where
    whole : (n : ℕ) (part : List ℕ) → length bytes ≤ wanted (framing n part) → n ≤ length (part ++ bytes) → n ≡ length (part ++ bytes)
    whole n part few l =
        let e : length (part ++ bytes) ≡ length part + length bytes = length-append part bytes in
        let m : length bytes ≤ min (n - length part) 65536 = few in
        omega arith

    go : (phase : Phase) → length bytes ≤ wanted phase → HasItsSize phase size → HasItsSize (after_bytes max view.frames phase bytes).phase size
    go (sizing part) few has =
        either_size (nat_lt (length (part ++ bytes)) 4) (sizing (part ++ bytes)) (after_size max (cast_signed w32 (from_be_bytes w32 (part ++ bytes)))) size tt
        (size_none max (cast_signed w32 (from_be_bytes w32 (part ++ bytes))) size)
    go (held asked) few has = tt
    go (framing n part) few has = step (cases_lt (length (part ++ bytes)) n)
      where
        either : Bool → Phase
        either b = let v : ConnView = if b then record { frames = view.frames; phase = framing n (part ++ bytes) } else record { frames = view.frames + 1; phase = ready view.frames (part ++ bytes) } in v.phase

        step : (length (part ++ bytes) < n) ⊎ (n ≤ length (part ++ bytes)) → HasItsSize (after_payload_bytes view.frames n (part ++ bytes)).phase size
        step (inl l) =
            subst (λ b. HasItsSize (either b) size)
            (sym (lt-ltb (length (part ++ bytes)) n l)) has
        step (inr l) =
            subst (λ b. HasItsSize (either b) size)
            (sym (le-ltb (length (part ++ bytes)) n l)) (has ∙ ap Some (whole n part few l))
    go (ready number payload) few has = has
    go (waiting number) few has = has
    go (writing left) few has = tt
    go (ended cause) few has = tt

-- the same put back changes nothing
put_same : (new : Slot) (slots : List Slot) → slot_in new.number slots ≡ Some new → with_slot new slots ≡ slots
put_same new [] e = refl
put_same new (x ∷ slots) e = go (cases_eq x.number new.number) (λ f. put_same new slots f)
  where
    go : (x.number ≡ new.number) ⊎ (x.number ≡ new.number → ⊥) → (slot_in new.number slots ≡ Some new → with_slot new slots ≡ slots) → with_slot new (x ∷ slots) ≡ x ∷ slots
    go (inl is) again =
        let same : x ≡ new = same_Some x new (sym (ap (λ t. if t then Some x else slot_in new.number slots) (eq-eqb x.number new.number is)) ∙ e) in
        ap (λ t. if t then new ∷ slots else x ∷ with_slot new slots) (eq-eqb x.number new.number is) ∙ ap (λ s. s ∷ slots) (sym same)
    go (inr n) again =
        ap (λ t. if t then new ∷ slots else x ∷ with_slot new slots) (ne_eqb x.number new.number n)
        ∙ ap (λ l. x ∷ l) (again (sym (ap (λ t. if t then Some x else slot_in new.number slots) (ne_eqb x.number new.number n)) ∙ e))

-- what is kept of a number, put back, changes nothing
pub same_put : (c : ℕ) (slot : Slot) (slots : List Slot) → IsSome (slot_in c slots) → slot ≡ slot_of c slots → with_slot slot slots ≡ slots
same_put c slot slots there is =
    let own : (slot_of c slots).number ≡ c = found_number c slots (slot_of c slots) (slot_is c slots there) in
    ap (λ (s : Slot). with_slot s slots) is ∙ put_same (slot_of c slots) slots (ap (λ k. slot_in k slots) own ∙ slot_is c slots there)

-- one with another size and state is put in the place of one: the table is sound with the new sum
pub resized_sound : (slots : List Slot) (budget admitted next c : ℕ) (conn : ConnView) (size : Option ℕ) → IsSoundTable slots budget admitted → IsSome (slot_in c slots)
    → next + size_given (slot_of c slots).size ≡ admitted + size_given size → next ≤ budget → HasItsSize conn.phase size
    → IsSoundTable (with_slot (record { number = c; conn = conn; size = size }) slots) budget next
resized_sound slots budget admitted next c conn size s there sum within room =
    let new : Slot = record { number = c; conn = conn; size = size } in
    let t : sizes_given (with_slot new slots) + size_given (slot_of c slots).size ≡ sizes_given slots + size_given new.size = sizes_put new (slot_of c slots) slots (slot_is c slots there) in
    let before : admitted ≡ sizes_given slots = s.sum in
    record { sum = omega arith; within = within; each = all_put IsAdmitted new slots s.each room }

-- a size is one of those that are summed
pub size_below : (c : ℕ) (slots : List Slot) → IsSome (slot_in c slots) → size_given (slot_of c slots).size ≤ sizes_given slots
size_below c slots there =
    let t : sizes_given (with_slot (fresh_slot c) slots) + size_given (slot_of c slots).size ≡ sizes_given slots + 0 = sizes_put (fresh_slot c) (slot_of c slots) slots (slot_is c slots there) in
    omega arith

-- one more, whose size isn't admitted
pub more_sound : (slots : List Slot) (budget admitted : ℕ) (new : Slot) → IsSoundTable slots budget admitted → new.size ≡ None → IsAdmitted new → IsSoundTable (with_added new slots) budget admitted
more_sound slots budget admitted new s none room = record { sum = s.sum ∙ sym (sizes slots); within = s.within; each = all slots s.each }
  where
    nothing : size_given new.size ≡ 0
    nothing = ap size_given none

    sizes : (slots : List Slot) → sizes_given (with_added new slots) ≡ sizes_given slots
    sizes [] = omega (arith, nothing)
    sizes (x ∷ slots) = step (nat_lt x.number new.number) (sizes slots)
      where
        step : (b : Bool) → sizes_given (with_added new slots) ≡ sizes_given slots → sizes_given (if b then x ∷ with_added new slots else new ∷ (x ∷ slots)) ≡ size_given x.size + sizes_given slots
        step true rest = omega arith
        step false rest = omega (arith, nothing)

    all : (slots : List Slot) → AllByRecursion IsAdmitted slots → AllByRecursion IsAdmitted (with_added new slots)
    all [] a = (room, tt)
    all (x ∷ slots) a = step (nat_lt x.number new.number) (all slots a.1)
      where
        step : (b : Bool) → AllByRecursion IsAdmitted (with_added new slots) → AllByRecursion IsAdmitted (if b then x ∷ with_added new slots else new ∷ (x ∷ slots))
        step true rest = (a.0, rest)
        step false rest = (room, a)

-- one less, whose size isn't admitted
pub less_sound : (slots : List Slot) (budget admitted c : ℕ) → IsSoundTable slots budget admitted → IsSome (slot_in c slots) → (slot_of c slots).size ≡ None
    → IsSoundTable (without_number c slots) budget admitted
less_sound slots budget admitted c s there none = record { sum = s.sum ∙ sym (sizes slots (slot_is c slots there)); within = s.within; each = all slots s.each }
  where
    nothing : (x : Slot) → x ≡ slot_of c slots → size_given x.size ≡ 0
    nothing x e = ap (λ (k : Slot). size_given k.size) e ∙ ap size_given none

    sizes : (xs : List Slot) → slot_in c xs ≡ Some (slot_of c slots) → sizes_given (without_number c xs) ≡ sizes_given xs
    sizes [] e = refl
    sizes (x ∷ xs) e = go (cases_eq x.number c) (λ f. sizes xs f)
      where
        go : (x.number ≡ c) ⊎ (x.number ≡ c → ⊥) → (slot_in c xs ≡ Some (slot_of c slots) → sizes_given (without_number c xs) ≡ sizes_given xs) → sizes_given (without_number c (x ∷ xs)) ≡ sizes_given (x ∷ xs)
        go (inl is) again =
            let k : size_given x.size ≡ 0 = nothing x (same_Some x (slot_of c slots) (sym (ap (λ t. if t then Some x else slot_in c xs) (eq-eqb x.number c is)) ∙ e)) in
            let l : sizes_given (without_number c (x ∷ xs)) ≡ sizes_given xs = ap (λ t. sizes_given (if t then xs else x ∷ without_number c xs)) (eq-eqb x.number c is) in
            omega arith
        go (inr n) again =
            let k : sizes_given (without_number c xs) ≡ sizes_given xs = again (sym (ap (λ t. if t then Some x else slot_in c xs) (ne_eqb x.number c n)) ∙ e) in
            let l : sizes_given (without_number c (x ∷ xs)) ≡ size_given x.size + sizes_given (without_number c xs) = ap (λ t. sizes_given (if t then xs else x ∷ without_number c xs)) (ne_eqb x.number c n) in
            omega arith

    all : (xs : List Slot) → AllByRecursion IsAdmitted xs → AllByRecursion IsAdmitted (without_number c xs)
    all [] a = tt
    all (x ∷ xs) a = step (x.number == c) (all xs a.1)
      where
        step : (b : Bool) → AllByRecursion IsAdmitted (without_number c xs) → AllByRecursion IsAdmitted (if b then xs else x ∷ without_number c xs)
        step true rest = a.1
        step false rest = (a.0, rest)

-- a change of one connection is none of another's
pub other_put : (new : Slot) (x : ℕ) (slots : List Slot) → (new.number ≡ x → ⊥) → slot_in x (with_slot new slots) ≡ slot_in x slots
other_put new x [] n = refl
other_put new x (s ∷ slots) n = go (cases_eq s.number new.number) (other_put new x slots n)
  where
    go : (s.number ≡ new.number) ⊎ (s.number ≡ new.number → ⊥) → slot_in x (with_slot new slots) ≡ slot_in x slots → slot_in x (with_slot new (s ∷ slots)) ≡ slot_in x (s ∷ slots)
    go (inl is) again =
        ap (λ t. slot_in x (if t then new ∷ slots else s ∷ with_slot new slots)) (eq-eqb s.number new.number is)
        ∙ ap (λ t. if t then Some new else slot_in x slots) (ne_eqb new.number x n)
        ∙ sym (ap (λ t. if t then Some s else slot_in x slots) (ne_eqb s.number x (λ e. n (sym is ∙ e))))
    go (inr a) again =
        ap (λ t. slot_in x (if t then new ∷ slots else s ∷ with_slot new slots)) (ne_eqb s.number new.number a)
        ∙ ap (λ r. if s.number == x then Some s else r) again

pub other_more : (new : Slot) (x : ℕ) (slots : List Slot) → (new.number ≡ x → ⊥) → slot_in x (with_added new slots) ≡ slot_in x slots
other_more new x [] n = ap (λ t. if t then Some new else None) (ne_eqb new.number x n)
other_more new x (s ∷ slots) n = step (nat_lt s.number new.number) (other_more new x slots n)
  where
    step : (b : Bool) → slot_in x (with_added new slots) ≡ slot_in x slots → slot_in x (if b then s ∷ with_added new slots else new ∷ (s ∷ slots)) ≡ slot_in x (s ∷ slots)
    step true again = ap (λ r. if s.number == x then Some s else r) again
    step false again = ap (λ t. if t then Some new else slot_in x (s ∷ slots)) (ne_eqb new.number x n)

pub found_more : (new : Slot) (slots : List Slot) → slot_in new.number slots ≡ None → slot_in new.number (with_added new slots) ≡ Some new
found_more new [] e = ap (λ t. if t then Some new else None) (eq-eqb new.number new.number refl)
found_more new (s ∷ slots) e = go (cases_eq s.number new.number) (λ f. found_more new slots f)
  where
    step : (b : Bool) → slot_in new.number (with_added new slots) ≡ Some new → (s.number ≡ new.number → ⊥) → slot_in new.number (if b then s ∷ with_added new slots else new ∷ (s ∷ slots)) ≡ Some new
    step true again n = ap (λ t. if t then Some s else slot_in new.number (with_added new slots)) (ne_eqb s.number new.number n) ∙ again
    step false again n = ap (λ t. if t then Some new else slot_in new.number (s ∷ slots)) (eq-eqb new.number new.number refl)

    go : (s.number ≡ new.number) ⊎ (s.number ≡ new.number → ⊥) → (slot_in new.number slots ≡ None → slot_in new.number (with_added new slots) ≡ Some new)
        → slot_in new.number (with_added new (s ∷ slots)) ≡ Some new
    go (inl is) again = absurd (none-some s (sym e ∙ ap (λ t. if t then Some s else slot_in new.number slots) (eq-eqb s.number new.number is)))
    go (inr n) again =
        step (nat_lt s.number new.number) (again (sym (ap (λ t. if t then Some s else slot_in new.number slots) (ne_eqb s.number new.number n)) ∙ e)) n

pub other_without : (c x : ℕ) (slots : List Slot) → (c ≡ x → ⊥) → slot_in x (without_number c slots) ≡ slot_in x slots
other_without c x [] n = refl
other_without c x (s ∷ slots) n = go (cases_eq s.number c) (other_without c x slots n)
  where
    go : (s.number ≡ c) ⊎ (s.number ≡ c → ⊥) → slot_in x (without_number c slots) ≡ slot_in x slots → slot_in x (without_number c (s ∷ slots)) ≡ slot_in x (s ∷ slots)
    go (inl is) again =
        ap (λ t. slot_in x (if t then slots else s ∷ without_number c slots)) (eq-eqb s.number c is)
        ∙ sym (ap (λ t. if t then Some s else slot_in x slots) (ne_eqb s.number x (λ e. n (sym is ∙ e))))
    go (inr a) again =
        ap (λ t. slot_in x (if t then slots else s ∷ without_number c slots)) (ne_eqb s.number c a) ∙ ap (λ r. if s.number == x then Some s else r) again

-- the state that was put in the place of another
pub conn_put : (c : ℕ) (conn : ConnView) (slots : List Slot) → IsSome (slot_in c slots) → (slot_of c (with_state c conn slots)).conn ≡ conn
conn_put c conn slots there =
    let new : Slot = record { number = c; conn = conn; size = (slot_of c slots).size } in
    ap (λ (s : Slot). s.conn) (of_found c (with_slot new slots) new (found_put new slots there))
