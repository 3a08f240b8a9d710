-- What a slab and its rows keep, once a slot is changed in its place.
use Rattle.std.proofs.Common.{◌≡◌, ℕ, ◌+◌, ◌<◌, ◌≤◌, IsSome, Option, None, Some, Result, Ok, Err, List, length, cond, is_some, sym, ap, ◌∙◌, subst, arith}
use Rattle.std.proofs.lemmas.List.Sums.{sum_by-set}
use Rattle.std.proofs.lemmas.Option.{same_Some}
use Rattle.conn_state.specs.Phase.{ConnView, size_asked}
use Rattle.conn_state.specs.Step.{after_admission}
use Rattle.slab.specs.Slab.{Slab, get, slab_len, with_value, Updates}
use Rattle.slab.proofs.SlabLemmas.{ContainsKey-within, Updates-with_value}
use Rattle.conn_table.specs.declared.places.Row.{Row}
use Rattle.conn_table.specs.declared.places.Slot.{Slot}
use Rattle.conn_table.specs.Places.{kept_in, AreSoundPlaces}
use Rattle.conn_table.specs.Rows.{key_in}
use Rattle.conn_table.specs.Slots.{slot_in, with_slot}
use Rattle.conn_table.specs.Table.{slot_of, with_state, with_size, size_wanted, AdmitsSlot, AdmitsFrame}
use Rattle.conn_table.proofs.Placing.{has_value, under, slot_under, placed_key, replaced}
use Rattle.conn_table.proofs.Sizing.{of_found, same_put}

abbrev counted : Option Slot → ℕ
counted o = cond (is_some o) 1 0

-- there are as many slots as before
same_count : (slab : Slab Slot) (key : ℕ) (old new : Slot) → get slab key ≡ Some old → slab_len (with_value slab key new) ≡ slab_len slab
same_count slab key old new at =
    let within : key < length slab.slots = ContainsKey-within slab key (has_value (get slab key) old at) in
    let sums : slab_len (with_value slab key new) + counted (get slab key) ≡ slab_len slab + counted (Some new) = sum_by-set counted slab.slots key (Some new) None within in
    let one : counted (get slab key) ≡ 1 = ap counted at in
    omega (arith, sums, one)

module _ (slab : Slab Slot) (rows : List Row) (capacity c key : ℕ) (slot : Slot) (sound : AreSoundPlaces slab rows capacity) (found : key_in c rows ≡ Some key) (at : get slab key ≡ Some slot) where
  own : slot.number ≡ c
  own = let t : (x : Slot) × (get slab key ≡ Some x) × (x.number ≡ c) = placed_key slab c key rows sound.placed found in ap (λ (x : Slot). x.number) (same_Some slot t.0 (sym at ∙ t.1)) ∙ t.2

  -- it is what is kept of its number
  pub kept_there : slot_of c (kept_in slab rows) ≡ slot
  kept_there = of_found c (kept_in slab rows) slot (slot_under slab c rows sound.placed ∙ ap (under slab) found ∙ at)

  kept_some : IsSome (slot_in c (kept_in slab rows))
  kept_some = has_value (slot_in c (kept_in slab rows)) slot (slot_under slab c rows sound.placed ∙ ap (under slab) found ∙ at)

  -- another slot of its number in its place
  changed : (new : Slot) → new.number ≡ c → AreSoundPlaces (with_value slab key new) rows capacity × (kept_in (with_value slab key new) rows ≡ with_slot new (kept_in slab rows))
  changed new same =
      let updates : Updates slab (with_value slab key new) key (Some new) = Updates-with_value slab key new (has_value (get slab key) slot at) in
      let r = replaced slab (with_value slab key new) key updates.others new rows updates.changed sound.rising sound.placed (ap (λ k. key_in k rows) same ∙ found) in (
        record {
          rising = sound.rising;
          placed = r.1;
          counted = same_count slab key slot new at ∙ sound.counted;
          few = sound.few;
          room = sound.room;
          rows_room = sound.rows_room;
        },
        r.0,
      )

  -- another state in its place
  pub state_changed : (conn : ConnView)
      → AreSoundPlaces (with_value slab key (record slot { conn = conn })) rows capacity × (kept_in (with_value slab key (record slot { conn = conn })) rows ≡ with_state c conn (kept_in slab rows))
  state_changed conn =
      let t = changed (record slot { conn = conn }) own in
      (t.0, t.1 ∙ (λ i. with_slot (record { number = own i; conn = conn; size = (sym kept_there i).size }) (kept_in slab rows)))

  -- another size in its place
  pub size_changed : (size : Option ℕ) (new : Slot) → new ≡ record slot { size = size }
      → AreSoundPlaces (with_value slab key new) rows capacity × (kept_in (with_value slab key new) rows ≡ with_size c size (kept_in slab rows))
  size_changed size new is =
      let t = changed new (ap (λ (s : Slot). s.number) is ∙ own) in
      (t.0, t.1 ∙ ap (λ s. with_slot s (kept_in slab rows)) is ∙ (λ i. with_slot (record { number = own i; conn = (sym kept_there i).conn; size = size }) (kept_in slab rows)))

  -- what is admitted in its place
  pub admitted : {E : Type 0} (room : ℕ) (r : Result (Option ℕ) E) (new : Slot) → AdmitsSlot room slot r new
      → AreSoundPlaces (with_value slab key new) rows capacity × AdmitsFrame room c (kept_in slab rows) r (kept_in (with_value slab key new) rows)
  admitted room (Ok (Some size)) new a =
      let t = changed new (ap (λ (s : Slot). s.number) a.2 ∙ own) in (
        t.0,
        (
          a.0,
          ap (λ (s : Slot). size_asked s.conn.phase) kept_there ∙ a.1,
          t.1 ∙ ap (λ s. with_slot s (kept_in slab rows)) a.2
              ∙ (λ i. with_slot (record {
                number = own i;
                conn = record (sym kept_there i).conn { phase = after_admission (sym kept_there i).conn.phase };
                size = Some size;
              }) (kept_in slab rows)),
        ),
      )
  admitted room (Ok None) new a =
      let t = changed new (ap (λ (s : Slot). s.number) a.1 ∙ own) in (
        t.0,
        (
          subst (λ (s : Slot). room < size_wanted s.conn) (sym kept_there) a.0,
          t.1 ∙ same_put c new (kept_in slab rows) kept_some (a.1 ∙ sym kept_there),
        ),
      )
  admitted room (Err error) new a =
      let t = changed new (ap (λ (s : Slot). s.number) a.1 ∙ own) in (
        t.0,
        (
          subst (λ (s : Slot). size_wanted s.conn ≤ room) (sym kept_there) a.0,
          t.1 ∙ same_put c new (kept_in slab rows) kept_some (a.1 ∙ sym kept_there),
        ),
      )

-- an admission, as it is seen
pub frame_as_seen : {E : Type 0} (room c : ℕ) (r : Result (Option ℕ) E) (old seen new : List Slot) → old ≡ seen → AdmitsFrame room c old r new → AdmitsFrame room c seen r new
frame_as_seen room c r old seen new is a = subst (λ l. AdmitsFrame room c l r new) is a
