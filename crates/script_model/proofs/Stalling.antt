-- Where each open connection stands still, all that has arrived is read, or the sizes of the frames under way are over the budget.
use Rattle.std.proofs.Common.{◌≡◌, ℕ, zero, suc, ◌+◌, ◌<◌, ◌≤◌, ◌⊎◌, Option, None, Some, [], refl, sym, ap, ◌∙◌, subst, inl, inr, arith}
use Rattle.std.proofs.lemmas.Bool.{cases_eq, cases_lt}
use Rattle.std.proofs.lemmas.Option.{none-some}
use Rattle.host_model.specs.declared.cause.EndCause.{EndCause}
use Rattle.machine_model.specs.AtFronts.{size_in, IsSizeBehind, summed}
use Rattle.machine_model.proofs.Lists.{put_same, put_other}
use Rattle.machine_model.proofs.Taping.{TapeTells}
use Rattle.script_model.specs.RestLines.{IsOverBudget}
use Rattle.script_model.specs.Playing.{Play, at_number, size_or_zero, all_admitted}
use Rattle.script_model.proofs.Concluding.{IsHeld, IsStalled}
use Rattle.script_model.proofs.Tracing.{IsTraced}

-- numbers of which one is another, summed: as far as that one isn't among them, and where it is
summed_below : (f : ℕ → ℕ) (c v n : ℕ) → n ≤ c → summed (at_number f c v) n ≡ summed f n
summed_below f c v zero l = refl
summed_below f c v (suc n) l =
    let t : summed (at_number f c v) n ≡ summed f n = summed_below f c v n (omega arith) in
    let k : at_number f c v n ≡ f n = put_other f c v n (λ e. let g : ⊥ = omega arith in g) in
    omega arith

summed_with : (f : ℕ → ℕ) (c v n : ℕ) → c < n → f c ≡ 0 → summed (at_number f c v) n ≡ summed f n + v
summed_with f c v zero l z = absurd (let g : ⊥ = omega arith in g)
summed_with f c v (suc n) l z = go (cases_eq n c) (λ below. summed_with f c v n below z)
  where
    go : (n ≡ c) ⊎ (n ≡ c → ⊥) → (c < n → summed (at_number f c v) n ≡ summed f n + v) → summed (at_number f c v) (suc n) ≡ summed f (suc n) + v
    go (inl e) again =
        let t : summed (at_number f c v) n ≡ summed f n = summed_below f c v n (omega arith) in
        let k : at_number f c v n ≡ v = ap (at_number f c v) e ∙ put_same f c v in
        let m : f n ≡ 0 = ap f e ∙ z in
        omega arith
    go (inr d) again =
        let t : summed (at_number f c v) n ≡ summed f n + v = again (below (cases_lt c n)) in
        let k : at_number f c v n ≡ f n = put_other f c v n d in
        omega arith
      where
        below : (c < n) ⊎ (n ≤ c) → c < n
        below (inl m) = m
        below (inr m) = absurd (d (let e : n ≡ c = omega arith in e))

module _ {C A M : Type 0} (max budget : ℕ) (play : Play C A M)
    (stalled : (c : ℕ) → c < play.cell.loop.count → (play.cell.loop.conns c).cause ≡ None → IsStalled max budget play c)
    (admits : (c size : ℕ) → play.admitted c ≡ Some size → (c < play.cell.loop.count) × ((play.cell.loop.conns c).cause ≡ None))
    (tells : TapeTells max play.cell.loop) (traced : IsTraced play.cell.loop) where
  -- it is open
  abbrev IsNowOpen : ℕ → Type 0
  IsNowOpen c = (c < play.cell.loop.count) × ((play.cell.loop.conns c).cause ≡ None)

  -- one of the first n that are open is held, or all of them have read what has arrived
  held_or : (n : ℕ) → n ≤ play.cell.loop.count → ((c : ℕ) → c < n → (play.cell.loop.conns c).cause ≡ None → play.unread c ≡ []) ⊎ ((c : ℕ) × IsNowOpen c × IsHeld budget play c)
  held_or zero l = inl (λ c m o. absurd (let f : ⊥ = omega arith in f))
  held_or (suc n) l = go (held_or n (omega arith)) (play.cell.loop.conns n).cause refl
    where
      with_one : ((c : ℕ) → c < n → (play.cell.loop.conns c).cause ≡ None → play.unread c ≡ []) → ((play.cell.loop.conns n).cause ≡ None → play.unread n ≡ [])
          → (c : ℕ) → c < suc n → (play.cell.loop.conns c).cause ≡ None → play.unread c ≡ []
      with_one all one c m o = by (cases_lt c n)
        where
          by : (c < n) ⊎ (n ≤ c) → play.unread c ≡ []
          by (inl k) = all c k o
          by (inr k) = let e : c ≡ n = omega arith in ap play.unread e ∙ one (ap (λ x. (play.cell.loop.conns x).cause) (sym e) ∙ o)

      one_more : ((c : ℕ) → c < n → (play.cell.loop.conns c).cause ≡ None → play.unread c ≡ []) → (play.cell.loop.conns n).cause ≡ None → (play.unread n ≡ []) ⊎ IsHeld budget play n
          → ((c : ℕ) → c < suc n → (play.cell.loop.conns c).cause ≡ None → play.unread c ≡ []) ⊎ ((c : ℕ) × IsNowOpen c × IsHeld budget play c)
      one_more all o (inl e) = inl (with_one all (λ p. e))
      one_more all o (inr h) = inr (n, (omega arith, o), h)

      go : ((c : ℕ) → c < n → (play.cell.loop.conns c).cause ≡ None → play.unread c ≡ []) ⊎ ((c : ℕ) × IsNowOpen c × IsHeld budget play c) → (cause : Option EndCause)
          → (play.cell.loop.conns n).cause ≡ cause
          → ((c : ℕ) → c < suc n → (play.cell.loop.conns c).cause ≡ None → play.unread c ≡ []) ⊎ ((c : ℕ) × IsNowOpen c × IsHeld budget play c)
      go (inr h) cause e = inr h
      go (inl all) None e = one_more all e (stalled n (omega arith) e).reads
      go (inl all) (Some cause) e = inl (with_one all (λ p. absurd (none-some cause (sym p ∙ e))))

  -- the size of an open connection is that of its frame under way, after the tape
  size_behind : (c size : ℕ) → IsNowOpen c → size ≡ size_in (play.cell.loop.conns c).held → IsSizeBehind max size_in play.cell.loop.tape c size
  size_behind c size o e =
      record { is_open = traced.each c o.0 o.1; payloads = (play.cell.loop.conns c).payloads; rest = (play.cell.loop.conns c).held; frames = tells.frames c o.0; same = e }

  -- where one is held, its size and those that are admitted are over the budget
  over : (c : ℕ) → IsNowOpen c → IsHeld budget play c → IsOverBudget max budget play.cell.loop.tape
  over c o h = record { sizes = sizes; count = play.cell.loop.count; each = λ x. each x (cases_eq x c); within = λ x. within x (cases_eq x c); more = more }
    where
      others : ℕ → ℕ
      others x = size_or_zero (play.admitted x)

      size : ℕ
      size = size_in (play.cell.loop.conns c).held

      sizes : ℕ → ℕ
      sizes = at_number (λ x. size_or_zero (play.admitted x)) c (size_in (play.cell.loop.conns c).held)

      here : (x : ℕ) → x ≡ c → sizes x ≡ size
      here x e = ap sizes e ∙ put_same others c size

      there : (x : ℕ) → (x ≡ c → ⊥) → sizes x ≡ others x
      there x n = put_other others c size x n

      admitted : (x : ℕ) (admitted : Option ℕ) → play.admitted x ≡ admitted → (size_or_zero admitted ≡ 0) ⊎ (IsNowOpen x × (size_or_zero admitted ≡ size_in (play.cell.loop.conns x).held))
      admitted x None e = inl refl
      admitted x (Some n) e = let k : IsNowOpen x = admits x n e in inr (k, (stalled x k.0 k.1).admitted n e)

      each : (x : ℕ) → (x ≡ c) ⊎ (x ≡ c → ⊥) → (sizes x ≡ 0) ⊎ IsSizeBehind max size_in play.cell.loop.tape x (sizes x)
      each x (inl e) = inr (subst (λ y. IsSizeBehind max size_in play.cell.loop.tape y (sizes y)) (sym e) (size_behind c (sizes c) o (here c refl)))
      each x (inr n) = by (admitted x (play.admitted x) refl)
        where
          by : (others x ≡ 0) ⊎ (IsNowOpen x × (others x ≡ size_in (play.cell.loop.conns x).held)) → (sizes x ≡ 0) ⊎ IsSizeBehind max size_in play.cell.loop.tape x (sizes x)
          by (inl e) = inl (there x n ∙ e)
          by (inr k) = inr (size_behind x (sizes x) k.0 (there x n ∙ k.1))

      within : (x : ℕ) → (x ≡ c) ⊎ (x ≡ c → ⊥) → sizes x ≤ max
      within x (inl e) = let k : sizes x ≡ size = here x e in let l : size ≤ max = (stalled c o.0 o.1).within in omega arith
      within x (inr n) = by (admitted x (play.admitted x) refl)
        where
          by : (others x ≡ 0) ⊎ (IsNowOpen x × (others x ≡ size_in (play.cell.loop.conns x).held)) → sizes x ≤ max
          by (inl e) = let k : sizes x ≡ others x = there x n in omega arith
          by (inr t) =
              let k : sizes x ≡ others x = there x n in
              let e : others x ≡ size_in (play.cell.loop.conns x).held = t.1 in
              let l : size_in (play.cell.loop.conns x).held ≤ max = (stalled x t.0.0 t.0.1).within in
              omega arith

      more : budget < summed sizes play.cell.loop.count
      more =
          let e : summed sizes play.cell.loop.count ≡ summed others play.cell.loop.count + size = summed_with others c size play.cell.loop.count o.0 (ap size_or_zero h.none) in
          let l : budget < all_admitted play + size = h.more in
          omega arith

  pub all_read_or_over : ((c : ℕ) → IsNowOpen c → play.unread c ≡ []) ⊎ IsOverBudget max budget play.cell.loop.tape
  all_read_or_over = go (held_or play.cell.loop.count (omega arith))
    where
      go : ((c : ℕ) → c < play.cell.loop.count → (play.cell.loop.conns c).cause ≡ None → play.unread c ≡ []) ⊎ ((c : ℕ) × IsNowOpen c × IsHeld budget play c)
          → ((c : ℕ) → IsNowOpen c → play.unread c ≡ []) ⊎ IsOverBudget max budget play.cell.loop.tape
      go (inl all) = inl (λ c o. all c o.0 o.1)
      go (inr t) = inr (over t.0 t.1 t.2)
