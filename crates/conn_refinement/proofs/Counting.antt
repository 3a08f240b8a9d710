-- Numbers of connections, summed, are what a table adds up that keeps the open ones by rising number.
use Rattle.std.proofs.Common.{◌≡◌, ℕ, zero, suc, ◌+◌, ◌<◌, ◌≤◌, ◌⊎◌, ◌==◌, Option, None, Some, List, [], ◌∷◌, length, if◌then◌else◌, refl, sym, ap, ◌∙◌, inl, inr, eq-eqb, ne_eqb, arith}
use Rattle.std.specs.List.{AllByRecursion}
use Rattle.std.proofs.lemmas.Bool.{cases_eq, cases_lt}
use Rattle.std.proofs.lemmas.Option.{none-some}
use Rattle.conn_table.specs.declared.places.Slot.{Slot}
use Rattle.conn_table.specs.Slots.{slot_in, HaveRisingNumbers}
use Rattle.conn_table.specs.Table.{size_given, sizes_given}
use Rattle.machine_model.specs.Loop.{LoopConn, count_if_open, open_among}
use Rattle.machine_model.specs.AtFronts.{summed}
use Rattle.machine_model.proofs.Lists.{put_same, put_other}
use Rattle.conn_refinement.specs.Weights.{weight_of, table_weight}

-- numbers of which one is 0
abbrev zero_at : (ℕ → ℕ) → ℕ → ℕ → ℕ
zero_at f k x = if x == k then 0 else f x

-- numbers of which one is left out, summed
apart_below : (f : ℕ → ℕ) (k n : ℕ) → n ≤ k → summed (zero_at f k) n ≡ summed f n
apart_below f k zero l = refl
apart_below f k (suc n) l =
    let t : summed (zero_at f k) n ≡ summed f n = apart_below f k n (omega arith) in
    let same : zero_at f k n ≡ f n = put_other f k 0 n (λ e. let g : ⊥ = omega arith in g) in
    omega arith

apart : (f : ℕ → ℕ) (k n : ℕ) → k < n → summed f n ≡ summed (zero_at f k) n + f k
apart f k zero l = absurd (let g : ⊥ = omega arith in g)
apart f k (suc n) l = go (cases_eq n k) (λ below. apart f k n below)
  where
    go : (n ≡ k) ⊎ (n ≡ k → ⊥) → (k < n → summed f n ≡ summed (zero_at f k) n + f k) → summed f (suc n) ≡ summed (zero_at f k) (suc n) + f k
    go (inl e) again =
        let t : summed (zero_at f k) n ≡ summed f n = apart_below f k n (omega arith) in
        let z : zero_at f k n ≡ 0 = ap (zero_at f k) e ∙ put_same f k 0 in
        let m : f n ≡ f k = ap f e in
        omega arith
    go (inr d) again =
        let t : summed f n ≡ summed (zero_at f k) n + f k = again (below (cases_lt k n)) in
        let same : zero_at f k n ≡ f n = put_other f k 0 n d in
        omega arith
      where
        below : (k < n) ⊎ (n ≤ k) → k < n
        below (inl m) = m
        below (inr m) = absurd (d (let e : n ≡ k = omega arith in e))

-- where each is 0, so is their sum
none_counted : (f : ℕ → ℕ) (n : ℕ) → ((x : ℕ) → x < n → f x ≡ 0) → summed f n ≡ 0
none_counted f zero each = refl
none_counted f (suc n) each =
    let a : f n ≡ 0 = each n (omega arith) in
    let t : summed f n ≡ 0 = none_counted f n (λ x l. each x (omega arith)) in
    omega arith

-- a number below all isn't among them
pub not_above : (c : ℕ) (slots : List Slot) → AllByRecursion (λ (slot : Slot). c < slot.number) slots → slot_in c slots ≡ None
not_above c [] a = refl
not_above c (x ∷ slots) a =
    ap (λ t. if t then Some x else slot_in c slots) (ne_eqb x.number c (λ e. let l : c < x.number = a.0 in let f : x.number ≡ c = e in let g : ⊥ = omega arith in g)) ∙ not_above c slots a.1

-- Numbers that are the weights of what is kept under rising numbers add up to the same.
pub counted : (w : Slot → ℕ) (slots : List Slot) (f : ℕ → ℕ) (n : ℕ) → HaveRisingNumbers slots → ((x : ℕ) → n ≤ x → slot_in x slots ≡ None)
    → ((x : ℕ) → x < n → f x ≡ weight_of w (slot_in x slots)) → summed f n ≡ table_weight w slots
counted w [] f n rising beyond each = none_counted f n each
counted w (slot ∷ slots) f n rising beyond each =
    let rest : summed (zero_at f slot.number) n ≡ table_weight w slots = counted w slots (zero_at f slot.number) n rising.1 beyond_rest each_rest in
    let all : summed f n ≡ summed (zero_at f slot.number) n + f slot.number = apart f slot.number n within in
    let own : f slot.number ≡ w slot = each slot.number within ∙ ap (weight_of w) here in
    omega arith
  where
    here : slot_in slot.number (slot ∷ slots) ≡ Some slot
    here = ap (λ b. if b then Some slot else slot_in slot.number slots) (eq-eqb slot.number slot.number refl)

    elsewhere : (x : ℕ) → (slot.number ≡ x → ⊥) → slot_in x (slot ∷ slots) ≡ slot_in x slots
    elsewhere x d = ap (λ b. if b then Some slot else slot_in x slots) (ne_eqb slot.number x d)

    within : slot.number < n
    within = by (cases_lt slot.number n)
      where
        by : (slot.number < n) ⊎ (n ≤ slot.number) → slot.number < n
        by (inl l) = l
        by (inr l) = absurd (none-some slot (sym (beyond slot.number l) ∙ here))

    beyond_rest : (x : ℕ) → n ≤ x → slot_in x slots ≡ None
    beyond_rest x l = sym (elsewhere x (λ e. let e2 : slot.number ≡ x = e in let k : slot.number < n = within in let g : ⊥ = omega arith in g)) ∙ beyond x l

    each_rest : (x : ℕ) → x < n → zero_at f slot.number x ≡ weight_of w (slot_in x slots)
    each_rest x l = by (cases_eq x slot.number)
      where
        by : (x ≡ slot.number) ⊎ (x ≡ slot.number → ⊥) → zero_at f slot.number x ≡ weight_of w (slot_in x slots)
        by (inl e) =
            ap (zero_at f slot.number) e ∙ put_same f slot.number 0
            ∙ sym (ap (λ k. weight_of w (slot_in k slots)) e ∙ ap (weight_of w) (not_above slot.number slots rising.0))
        by (inr d) = put_other f slot.number 0 x d ∙ each x l ∙ ap (weight_of w) (elsewhere x (λ e. d (sym e)))

pub sizes_total : (slots : List Slot) → table_weight (λ (slot : Slot). size_given slot.size) slots ≡ sizes_given slots
sizes_total [] = refl
sizes_total (slot ∷ slots) = ap (λ n. size_given slot.size + n) (sizes_total slots)

pub ones_total : (slots : List Slot) → table_weight (λ slot. 1) slots ≡ length slots
ones_total [] = refl
ones_total (slot ∷ slots) = let t : table_weight (λ slot. 1) slots ≡ length slots = ones_total slots in omega arith

pub open_summed : (conns : ℕ → LoopConn) (n : ℕ) → open_among conns n ≡ summed (λ c. count_if_open (conns c).cause) n
open_summed conns zero = refl
open_summed conns (suc n) = ap (λ k. count_if_open (conns n).cause + k) (open_summed conns n)
