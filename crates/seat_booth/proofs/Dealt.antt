-- How the seats are dealt one by one, and taken back.
use Rattle.std.proofs.Common.{◌≡◌, ℕ, zero, suc, ◌+◌, ◌-◌, ◌<◌, ◌≤◌, Option, Some, List, [], ◌∷◌, ◌++◌, map, length, sym, refl, ap, ◌∙◌, subst, arith}
use Rattle.std.specs.List.{AllByRecursion, All}
use Rattle.std.proofs.lemmas.List.Elements.{All-from_recursion}
use Rattle.atomic_table.specs.Seated.{TableId}
use Rattle.atomic_table.specs.Table.{Me}
use Rattle.seat_booth.specs.declared.view.CallStage.TheVariants.{Idle}
use Rattle.seat_booth.specs.declared.view.TokenView.{TokenView}
use mathlib.Core.List.{append_assoc}
use Rattle.seat_booth.specs.Seats.{BoothView, SeatView, IsSeatOf, newcomer, newcomers}
use Rattle.seat_booth.specs.Past.{view, seated, new_pasts, seat_view, past_of, past_of_seat, only_first, without_first}
use Rattle.seat_booth.specs.Steps.{TokenIsAt}

module _ (Q A M : Type 0) where
  newcomers-push : (s : BoothView M) (k n : ℕ) → newcomers {Q = Q} {A = A} s k (suc n) ≡ newcomers s k n ++ newcomer s (k + n) ∷ []
  newcomers-push s k zero = let e : k ≡ k + zero = omega arith in ap (λ (j : ℕ). newcomer s j ∷ []) e
  newcomers-push s k (suc n) = let e : suc k + n ≡ k + suc n = omega arith in ap (λ l. newcomer s k ∷ l) (newcomers-push s (suc k) n ∙ ap (λ (j : ℕ). newcomers s (suc k) n ++ newcomer s j ∷ []) e)

  pub newcomers-more : (s : BoothView M) (n : ℕ) → newcomers {Q = Q} {A = A} s 0 (n + 1) ≡ newcomers s 0 n ++ newcomer s n ∷ []
  newcomers-more s n = let e : n + 1 ≡ suc n = omega arith in let z : 0 + n ≡ n = omega arith in
      ap (newcomers s 0) e ∙ (newcomers-push s 0 n ∙ ap (λ (j : ℕ). newcomers s 0 n ++ newcomer s j ∷ []) z)

  length-newcomers : (s : BoothView M) (k n : ℕ) → length (newcomers {Q = Q} {A = A} s k n) ≡ n
  length-newcomers s k zero = refl
  length-newcomers s k (suc n) = omega (arith, length-newcomers s (suc k) n)

  newcomers_are : (s : BoothView M) (k n : ℕ) → AllByRecursion (IsSeatOf s) (newcomers {Q = Q} {A = A} s k n)
  newcomers_are s k zero = tt
  newcomers_are s k (suc n) = (record { booth = refl; opening = refl }, newcomers_are s (suc k) n)

  pub every_newcomer : (s : BoothView M) (n : ℕ) (items : List (SeatView Q A M)) → items ≡ newcomers s 0 n → (length items ≡ n) × All (IsSeatOf s) items
  every_newcomer s n items is = subst (λ (l : List (SeatView Q A M)). (length l ≡ n) × All (IsSeatOf s) l) (sym is) (length-newcomers s 0 n, All-from_recursion (IsSeatOf s) (newcomers s 0 n) (newcomers_are s 0 n))

module _ {O Q A M : Type 0} where
  -- the first seats are dealt, and the token has the others
  pub record IsDealt (s : BoothView M) (seats dealt : ℕ) (m : Me O (TokenView Q A M)) (given : List (SeatView Q A M)) : Type 0 where
    pub left : ℕ
    pub count : dealt + suc left ≡ seats
    pub token : m ≡ (view (Some s.opening) Idle (new_pasts dealt (suc left)), [])
    pub items : given ≡ newcomers s 0 dealt

  pub none_dealt : (s : BoothView M) (seats : ℕ) (m : Me O (TokenView Q A M)) → 1 ≤ seats → m ≡ (view (Some s.opening) Idle (new_pasts 0 seats), []) → IsDealt s seats 0 m []
  none_dealt s seats m some is = let e : seats ≡ suc (seats - 1) = omega arith in record {
    left = seats - 1;
    count = omega arith;
    token = is ∙ ap (λ (n : ℕ). (view (Some s.opening) Idle (new_pasts 0 n), [])) e;
    items = refl;
  }

  one_more : (s : BoothView M) (seats dealt left : ℕ) (m m' t : Me O (TokenView Q A M)) (items : List (SeatView Q A M)) → dealt + suc (suc left) ≡ seats → m ≡ (view (Some s.opening) Idle (new_pasts dealt (suc (suc left))), []) → items ≡ newcomers s 0 dealt
      → m' ≡ (without_first m.0, m.1) → t ≡ (only_first m.0, []) → IsDealt s seats (dealt + 1) m' (items ++ seat_view s.booth t.0 ∷ [])
  one_more s seats dealt left m m' t items count is are unchanged given = let up : suc dealt ≡ dealt + 1 = omega arith in record {
    left = left;
    count = omega arith;
    token = unchanged ∙ (ap (λ (x : Me O (TokenView Q A M)). (without_first x.0, x.1)) is ∙ ap (λ (n : ℕ). (view (Some s.opening) Idle (new_pasts n (suc left)), [])) up);
    items = ap (λ (x : Me O (TokenView Q A M)). items ++ seat_view s.booth x.0 ∷ []) given
        ∙ (ap (λ (x : Me O (TokenView Q A M)). items ++ seat_view s.booth (only_first x.0) ∷ []) is ∙ (ap (λ l. l ++ newcomer s dealt ∷ []) are ∙ sym (newcomers-more Q A M s dealt)));
  }

  pub more_dealt : (s : BoothView M) (seats dealt : ℕ) (m m' t : Me O (TokenView Q A M)) (items : List (SeatView Q A M)) (id : TableId) → IsDealt s seats dealt m items → dealt < seats - 1 → id ≡ s.booth
      → m' ≡ (without_first m.0, m.1) → t ≡ (only_first m.0, []) → IsDealt s seats (dealt + 1) m' (items ++ seat_view id t.0 ∷ [])
  more_dealt s seats dealt m m' t items id d low is_id unchanged given = let count : dealt + suc d.left ≡ seats = d.count in let some_left : suc (d.left - 1) ≡ d.left = omega arith in
      subst (λ (b : TableId). IsDealt s seats (dealt + 1) m' (items ++ seat_view b t.0 ∷ [])) (sym is_id)
      (one_more s seats dealt (d.left - 1) m m' t items (omega arith) (d.token ∙ ap (λ (n : ℕ). (view (Some s.opening) Idle (new_pasts dealt (suc n)), [])) (sym some_left)) d.items unchanged given)

  -- the last seat takes the token itself
  pub all_dealt : (s : BoothView M) (seats dealt : ℕ) (m : Me O (TokenView Q A M)) (items : List (SeatView Q A M)) (id : TableId) → IsDealt s seats dealt m items → dealt + 1 ≡ seats → id ≡ s.booth
      → items ++ seat_view id m.0 ∷ [] ≡ newcomers s 0 seats
  all_dealt s seats dealt m items id d last is_id = let count : dealt + suc d.left ≡ seats = d.count in let none_left : d.left ≡ 0 = omega arith in
      ap (λ (b : TableId). items ++ seat_view b m.0 ∷ []) is_id
      ∙ (ap (λ (x : Me O (TokenView Q A M)). items ++ seat_view s.booth x.0 ∷ []) (d.token ∙ ap (λ (n : ℕ). (view (Some s.opening) Idle (new_pasts dealt (suc n)), [])) none_left)
      ∙ (ap (λ l. l ++ newcomer s dealt ∷ []) d.items ∙ (sym (newcomers-more Q A M s dealt) ∙ ap (newcomers s 0) last)))

  pub some_to_deal : (s : BoothView M) (seats dealt : ℕ) (m : Me O (TokenView Q A M)) (items : List (SeatView Q A M)) → IsDealt s seats dealt m items → (m.0.stage ≡ Idle) × (0 < length m.0.pasts)
  some_to_deal s seats dealt m items d = subst (λ (x : Me O (TokenView Q A M)). (x.0.stage ≡ Idle) × (0 < length x.0.pasts)) (sym d.token) (refl, omega arith)

  -- the token of the seat that is dealt, and of the last one
  pub dealt_is_seat : (s : BoothView M) (seats dealt : ℕ) (m t : Me O (TokenView Q A M)) (items : List (SeatView Q A M)) → IsDealt s seats dealt m items → t ≡ (only_first m.0, []) → TokenIsAt Idle t × (dealt ≡ (past_of t.0).number)
  dealt_is_seat s seats dealt m t items d given =
      subst (λ (x : Me O (TokenView Q A M)). TokenIsAt Idle x × (dealt ≡ (past_of x.0).number)) (sym (given ∙ ap (λ (x : Me O (TokenView Q A M)). (only_first x.0, [])) d.token)) (refl, refl)

  pub last_is_seat : (s : BoothView M) (seats dealt : ℕ) (m : Me O (TokenView Q A M)) (items : List (SeatView Q A M)) → IsDealt s seats dealt m items → dealt + 1 ≡ seats → TokenIsAt Idle m × (seats - 1 ≡ (past_of m.0).number)
  last_is_seat s seats dealt m items d last = let count : dealt + suc d.left ≡ seats = d.count in let none_left : d.left ≡ 0 = omega arith in let number : seats - 1 ≡ dealt = omega arith in
      subst (λ (x : Me O (TokenView Q A M)). TokenIsAt Idle x × (seats - 1 ≡ (past_of x.0).number)) (sym (d.token ∙ ap (λ (n : ℕ). (view (Some s.opening) Idle (new_pasts dealt (suc n)), [])) none_left)) (refl, number)

  -- the last seats came back to the token, and the list has the others
  pub record IsGathered (s : BoothView M) (all : List (SeatView Q A M)) (there : List (SeatView Q A M)) (m : Me O (TokenView Q A M)) : Type 0 where
    pub back : List (SeatView Q A M)
    pub parts : all ≡ there ++ back
    pub token : m ≡ (view (Some s.opening) Idle (map past_of_seat back), [])

  pub first_back : (s : BoothView M) (all there : List (SeatView Q A M)) (seat : SeatView Q A M) (m : Me O (TokenView Q A M)) → all ≡ there ++ seat ∷ [] → IsSeatOf s seat → m ≡ (seated seat.opening Idle (past_of_seat seat), []) → IsGathered s all there m
  first_back s all there seat m parts is token = record {
    back = seat ∷ [];
    parts = parts;
    token = token ∙ ap (λ (o : Option M). (view o Idle (past_of_seat seat ∷ []), [])) is.opening;
  }

  pub one_back : (s : BoothView M) (all there there' : List (SeatView Q A M)) (seat : SeatView Q A M) (m m' t : Me O (TokenView Q A M)) → IsGathered s all there m → there ≡ there' ++ seat ∷ [] → t ≡ (seated seat.opening Idle (past_of_seat seat), [])
      → m' ≡ (view m.0.opening Idle (t.0.pasts ++ m.0.pasts), m.1) → IsGathered s all there' m'
  one_back s all there there' seat m m' t g parts token unchanged = record {
    back = seat ∷ g.back;
    parts = g.parts ∙ (ap (λ l. l ++ g.back) parts ∙ append_assoc there' (seat ∷ []) g.back);
    token = unchanged ∙ (ap (λ (x : Me O (TokenView Q A M)). (view m.0.opening Idle (x.0.pasts ++ m.0.pasts), m.1)) token
        ∙ ap (λ (x : Me O (TokenView Q A M)). (view x.0.opening Idle (past_of_seat seat ∷ x.0.pasts), x.1)) g.token);
  }

  pub all_back : (s : BoothView M) (all : List (SeatView Q A M)) (m : Me O (TokenView Q A M)) → IsGathered s all [] m → m ≡ (view (Some s.opening) Idle (map past_of_seat all), [])
  all_back s all m g = g.token ∙ ap (λ (l : List (SeatView Q A M)). (view (Some s.opening) Idle (map past_of_seat l), [])) (sym g.parts)
