-- The seats of a new booth, the first two apart.
use Rattle.std.proofs.Common.{◌≡◌, ℕ, zero, suc, ◌+◌, List, ◌∷◌, length, All, refl, sym, ap, ◌∙◌, subst, arith}
use Rattle.std.specs.List.{AllByRecursion}
use Rattle.std.proofs.lemmas.List.Elements.{All-from_recursion}
use Rattle.call_rules.specs.Desks.{DeskMeaning}
use Rattle.seat_booth.specs.Seats.{BoothView, newcomers}
use Rattle.hall_core.specs.Meant.{ServedHall}
use Rattle.hall_pool.specs.Jobs.{HallSeat, IsOpenedFor}
use Rattle.hall_pool.specs.Crew.{MayServe, IsNewSeating}

module _ (booth : BoothView ServedHall) where
  -- seats before their first calls
  abbrev fresh : ℕ → ℕ → List HallSeat
  fresh from n = newcomers booth from n

  so_many : (from n : ℕ) → length (fresh from n) ≡ n
  so_many from zero = refl
  so_many from (suc n) = ap suc (so_many (suc from) n)

  -- a worker may take each
  each_may : (desk : DeskMeaning) → IsOpenedFor desk booth → (from n : ℕ) → AllByRecursion (MayServe desk booth) (fresh from n)
  each_may desk opened from zero = tt
  each_may desk opened from (suc n) = (record { opened = opened; place = record { booth = refl; opening = refl }; unused = refl }, each_may desk opened (suc from) n)

  pub new_seating : (n workers : ℕ) (first own : HallSeat) (crew : List HallSeat) → n ≡ workers + 2 → first ∷ own ∷ crew ≡ fresh 0 n → IsNewSeating booth workers first own crew
  new_seating zero workers first own crew many is = absurd (omega arith)
  new_seating (suc zero) workers first own crew many is = absurd (omega arith)
  new_seating (suc (suc n)) workers first own crew many is =
      let rest : crew ≡ fresh 2 n = cc in
      let left : n ≡ workers = omega arith in
      record {
        zeroth = cc;
        oneth = cc;
        many = ap length rest ∙ (so_many 2 n ∙ left);
        may_serve = λ desk opened. subst (All (MayServe desk booth)) (sym rest) (All-from_recursion (MayServe desk booth) (fresh 2 n) (each_may desk opened 2 n));
      }
