-- The seats of a crew, of which the last one is taken, and put back behind the others.
use Rattle.std.proofs.Common.{◌≡◌, ◌≤◌, ℕ, Option, None, Some, ◌∷◌, [], ◌++◌, List, length, refl, sym, ap, subst, ◌∙◌, All, arith}
use Rattle.std.specs.Prelude.{MatchOption}
use Rattle.std.proofs.lemmas.List.{drop_at, map-append}
use Rattle.std.proofs.lemmas.List.Elements.{All-drop}
use Rattle.hall_pool.specs.Jobs.{HallSeat}
use Rattle.hall_pool.specs.Crew.{numbers_of}

-- what holds of all seats holds of the last one
pub of_last : {A : Type 0} (P : A → Type 0) (others : List A) (last : A) (seats : List A) → seats ≡ others ++ last ∷ [] → All P seats → P last
of_last P others last seats are all =
    let alone : All P (last ∷ []) = subst (All P) (drop_at others (last ∷ []) (length others) refl) (All-drop P (length others) (others ++ last ∷ []) (subst (All P) are all)) in
    alone 0 last (omega arith)

-- the numbers stay, where those of the others do and the last seat comes back with its own
pub same_numbers : (others back_others seats back : List HallSeat) (last again : HallSeat) → seats ≡ others ++ last ∷ [] → numbers_of back_others ≡ numbers_of others
    → again.number ≡ last.number → back ≡ back_others ++ again ∷ [] → numbers_of back ≡ numbers_of seats
same_numbers others back_others seats back last again are stay same put =
    ap numbers_of put ∙ map-append (λ (seat : HallSeat). seat.number) back_others (again ∷ []) ∙ ap (λ (ns : List ℕ). ns ++ again.number ∷ []) stay
    ∙ ap (λ (n : ℕ). numbers_of others ++ n ∷ []) same ∙ sym (map-append (λ (seat : HallSeat). seat.number) others (last ∷ [])) ∙ sym (ap numbers_of are)

-- what has led, beside some number of workers, did so beside no more than a greater bound
pub led_on : {L : Type 0} (lead : Option L) (P : L → ℕ → Type 0) (low high : ℕ) → low ≤ high
    → MatchOption lead ⊥ (λ l. (n : ℕ) × (n ≤ low) × P l n) → MatchOption lead ⊥ (λ l. (n : ℕ) × (n ≤ high) × P l n)
led_on None P low high more led = led
led_on (Some l) P low high more led = (led.0, omega (arith, led.1), led.2)

-- and beside those that were started
pub led_first : {L : Type 0} (lead : Option L) (P : L → ℕ → Type 0) (started high : ℕ) → started ≤ high
    → MatchOption lead ⊥ (λ l. P l started) → MatchOption lead ⊥ (λ l. (n : ℕ) × (n ≤ high) × P l n)
led_first None P started high more led = led
led_first (Some l) P started high more led = (started, more, led)
