-- Each step on a booth's table keeps its rule.
use Rattle.std.proofs.Common.{◌≡◌, ℕ, ◌+◌, ◌%◌, ◌^◌, ◌<◌, ◌≤◌, ◌≢◌, ◌⊎◌, Bool, true, false, cond, Option, Some, None, List, [], ◌∷◌, ◌++◌, length, get_or, set, sym, refl, ap, ◌∙◌, subst, inl, inr, ⊎_elim, arith, length-set, get_or-set_other, get_or-set_same, length-append, true≢false}
use mathlib.Core.Logic.{dite}
use mathlib.Core.Option.{none, some}
use mathlib.Core.List.{append-nil}
use native.Mathlib.Decide.{ℕ_discrete, dec_le}
use lib.ListN.{get_elem?}
use lib.Seq.{set-get_or}
use Rattle.atomic_table.specs.Table.{State, Me, step, keeps, takes, gives, stepped, Allows, Splits, Joins}
use Rattle.atomic_table.proofs.Lists.{at_set, at_snoc, set_here, set_again}
use Rattle.call_history.specs.declared.seat_call.SeatCall.{SeatCall}
use Rattle.seat_booth.specs.declared.view.Past.{Past}
use Rattle.seat_booth.specs.declared.view.CallStage.{CallStage}
use Rattle.seat_booth.specs.declared.view.CallStage.TheVariants.{Idle, Waits, Turn}
use Rattle.seat_booth.specs.declared.view.TokenView.{TokenView}
use Rattle.call_history.specs.History.{meaning_after}
use Rattle.call_history.specs.Calls.{calls_by}
use Rattle.seat_booth.specs.Weight.{total, below}
use Rattle.seat_booth.specs.Past.{view, first_past, other_pasts, seated}
use Rattle.seat_booth.specs.Tickets.{weight_of_one, waiting, turning, IsTurn, Fits, IsKnown, numbers, IsKept}
use Rattle.seat_booth.specs.Steps.{unchanged, caught_up, with_call, drew, looked, entered}
use Rattle.seat_booth.proofs.Weights.{total-append, total-set, total-plus, term_le, terms_le, total_le, below-suc, below-one, total-one, only, but, only-same, but-same, but-other, below-only, none_of, each_both, each_append}
use Rattle.call_history.specs.Laws.{meaning_after-push, calls_by-own, calls_by-other, IsHistory-push, AllAllowed-push, IsPrefix-push, IsPrefix-same}

true_or_false : (b : Bool) → (b ≡ true) ⊎ (b ≡ false)
true_or_false true = inl refl
true_or_false false = inr refl

-- where the object isn't out, no weight is
cond_out : (b : Bool) (n : ℕ) → cond b n 0 ≤ n
cond_out true n = omega arith
cond_out false n = omega arith

module _ {O Q A M : Type 0} (meaning : O → M) (gives_ : M → Q → A → M → Type 0) (may : M → ℕ → List (SeatCall Q A M) → Q → Type 0) (first : M) (seats : ℕ) where
  abbrev pub P : Type 0
  P = Past Q A M

  abbrev pub V : Type 0
  V = TokenView Q A M

  abbrev pub St : Type 0
  St = State O V

  abbrev pub Rule : St → Type 0
  Rule = IsKept meaning gives_ may first seats

  abbrev ticket_of : St → ℕ
  ticket_of s = get_or s.words 0 0

  abbrev serving_of : St → ℕ
  serving_of s = get_or s.words 16 0

  -- the views after one has changed
  pub known_set : (log : List (SeatCall Q A M)) (vs : List V) (me : ℕ) (w : V) → IsKnown first log w → ((j : ℕ) (v : V) → j ≢ me → get_elem? vs j ≡ some v → IsKnown first log v)
      → (j : ℕ) (v : V) → get_elem? (set vs me w) j ≡ some v → IsKnown first log v
  known_set log vs me w mine others j v e =
      ⊎_elim (λ (t : (j ≡ me) × (w ≡ v)). subst (IsKnown first log) t.1 mine) (λ (t : (j ≢ me) × (get_elem? vs j ≡ some v)). others j v t.0 t.1) (at_set vs me j w v e)

  few_tickets : (s : St) → Rule s → total (λ v. waiting weight_of_one v.stage) s.views + total (λ v. turning weight_of_one v.stage) s.views ≤ seats
  few_tickets s k =
      let more = total_le (λ v. waiting weight_of_one v.stage + turning weight_of_one v.stage) (numbers weight_of_one) s.views (λ j v e. let few = (k.each j v e).few in omega (arith, total-one v.pasts)) in
      omega (arith, more, total-plus (λ v. waiting weight_of_one v.stage) (λ v. turning weight_of_one v.stage) s.views, k.dealt weight_of_one, below-one seats)

  ticket_fits : (s : St) → Rule s → ticket_of s + 1 < 2 ^ 64
  ticket_fits s k = let room = k.room in let bounded = k.bounded in omega (arith, few_tickets s k, k.tickets weight_of_one, below-one (length k.log), below-one (ticket_of s))

  pub draws : (slots id : ℕ) (opened : Option M) (p : P) → Allows Rule slots id (seated opened Idle p, []) 0 (λ n. (n + 1) % 2 ^ 64) (drew (step slots 0 1 0 none) (seated opened Idle p, []))
  draws slots id opened p s k wide at small =
      let t : ℕ = ticket_of s in
      let v : V = seated opened Idle p in
      let w : V = seated opened (Waits t) p in
      let known = k.each id v at in
      let long = k.wide in
      let fits = ticket_fits s k in
      let next : (t + 1) % 2 ^ 64 ≡ t + 1 = omega arith in
      let n : ℕ = (t + 1) % 2 ^ 64 in
      let here : get_or (set s.words 0 n) 0 0 ≡ t + 1 = get_or-set_same s.words 0 n 0 (omega arith) ∙ next in (
        w,
        keeps,
        tt,
        record {
          log = k.log;
          out = k.out;
          history = k.history;
          allowed = k.allowed;
          room = k.room;
          wide = omega (arith, length-set s.words 0 n);
          passed = get_or-set_other s.words 0 16 n 0 (λ e. omega arith) ∙ k.passed;
          bounded = k.bounded;
          tickets = λ f. omega (arith, total-set (λ u. waiting f u.stage) s.views id v w at, total-set (λ u. turning f u.stage) s.views id v w at, k.tickets f, below-suc f t, ap (below f) here);
          turn = λ f. omega (arith, total-set (λ u. turning f u.stage) s.views id v w at, k.turn f);
          home = k.home;
          dealt = λ f. omega (arith, total-set (numbers f) s.views id v w at, k.dealt f);
          callers = k.callers;
          each = known_set k.log s.views id w (record { fits = known.fits; opening = known.opening; few = omega arith; whole = λ h. absurd h }) (λ j u _ e. k.each j u e);
        },
        refl,
      )

  -- a step that leaves the token as it is, and both words that count
  pub unmoved : (s : St) → Rule s → (i n id : ℕ) (v : V) (held : List (ℕ × O)) → get_elem? s.views id ≡ some v → get_or (set s.words i n) 0 0 ≡ ticket_of s → get_or (set s.words i n) 16 0 ≡ serving_of s
      → Rule (stepped s i n id held v keeps)
  unmoved s k i n id v held at first_word second_word = let long = k.wide in subst (λ (vs : List V). Rule record { words = set s.words i n; homes = s.homes; views = vs }) (sym (set_again s.views id v at)) record {
    log = k.log;
    out = k.out;
    history = k.history;
    allowed = k.allowed;
    room = k.room;
    wide = omega (arith, length-set s.words i n);
    passed = second_word ∙ k.passed;
    bounded = k.bounded;
    tickets = λ f. k.tickets f ∙ ap (below f) (sym first_word);
    turn = k.turn;
    home = k.home;
    dealt = k.dealt;
    callers = k.callers;
    each = k.each;
  }

  -- no token has the turn where one waits for it, so the object is at home
  at_home : (s : St) (k : Rule s) (id : ℕ) (v : V) → get_elem? s.views id ≡ some v → v.stage ≡ Waits (length k.log) → k.out ≡ false
  at_home s k id v at waits = let n : ℕ = length k.log in let f : ℕ → ℕ = only n in
      let mine : f n ≡ 1 = only-same n n refl in
      let waiting_here : waiting f v.stage ≡ f n = ap (waiting f) waits in
      let most = below-only n (ticket_of s) in
      let none_below = below-only n n in
      let is_zero = none_below.1 (omega arith) in
      let turned = k.turn f in
      ⊎_elim (λ (yes : k.out ≡ true). let out_now : cond k.out (f n) 0 ≡ f n = ap (λ (b : Bool). cond b (f n) 0) yes in absurd (omega (arith, term_le (λ u. waiting f u.stage) s.views id v at, k.tickets f, most.0))) (λ no. no) (true_or_false k.out)

  pub looks : (slots id : ℕ) (opened : Option M) (ticket : ℕ) (p : P) → 0 < slots → Allows Rule slots id (seated opened (Waits ticket) p, []) 16 (λ n. n) (looked meaning gives_ may (step slots 16 0 0 none) (seated opened (Waits ticket) p, []))
  looks slots id opened ticket p some_slot s k homes at small =
      let r : ℕ = serving_of s in
      let v : V = seated opened (Waits ticket) p in
      let long = k.wide in
      let same = set-get_or s.words 16 0 in
      let stays : Rule (stepped s 16 r id [] v keeps) = unmoved s k 16 r id v [] at (ap (λ ws. get_or ws 0 0) same) (ap (λ ws. get_or ws 16 0) same) in
      let known = k.each id v at in
      dite (ℕ_discrete r ticket)
      (λ hit. dite (dec_le (2 ^ 62) r)
      (λ spent. (v, keeps, tt, stays, ((λ _ room. absurd (omega arith)), (λ _. refl), λ _. refl)))
      (λ room.
      let passed : length k.log ≡ ticket = sym k.passed ∙ hit in
      let home = k.home (at_home s k id v at (ap Waits (sym passed))) in
      let not_out = at_home s k id v at (ap Waits (sym passed)) in
      let w : V = seated opened (Turn ticket) (caught_up k.log p) in
      let is_opened : opened ≡ Some first = known.opening (omega arith) in (
        w,
        takes 0 home.0,
        home.1,
        subst (λ (ws : List ℕ). Rule record { words = ws; homes = set s.homes 0 none; views = set s.views id w }) (sym same) record {
          log = k.log;
          out = true;
          history = k.history;
          allowed = k.allowed;
          room = k.room;
          wide = k.wide;
          passed = k.passed;
          bounded = k.bounded;
          tickets = λ f. omega (arith, total-set (λ u. waiting f u.stage) s.views id v w at, total-set (λ u. turning f u.stage) s.views id v w at, k.tickets f);
          turn = λ f. omega (arith, total-set (λ u. turning f u.stage) s.views id v w at, k.turn f, ap (λ (b : Bool). cond b (f (length k.log)) 0) not_out, ap f passed);
          home = λ no. absurd (true≢false no);
          dealt = λ f. omega (arith, total-set (numbers f) s.views id v w at, k.dealt f);
          callers = k.callers;
          each = known_set k.log s.views id w (record { fits = ((IsPrefix-same k.log, known.fits.0.1), tt); opening = λ _. is_opened; few = omega arith; whole = λ _. (refl, tt) }) (λ j u _ e. k.each j u e);
        },
        (
          (λ _ _. record {
            first = first;
            log = k.log;
            object = home.0;
            opened = is_opened;
            now = refl;
            stands = home.2;
            history = k.history;
            allowed = k.allowed;
            begins = known.fits.0.0;
            own = known.fits.0.1;
            bounded = omega arith;
            passed = passed;
          }),
          (λ not. absurd (not hit)),
          λ spent. absurd (room spent),
        ),
      )))
      (λ miss. (v, keeps, tt, stays, ((λ hit. absurd (miss hit)), (λ _. refl), λ _. refl)))

  -- the object is out with the one token that has the turn, and its ticket is the one that is served
  has_turn : (s : St) (k : Rule s) (id : ℕ) (v : V) (ticket : ℕ) → get_elem? s.views id ≡ some v → v.stage ≡ Turn ticket → (ticket ≡ length k.log) × (k.out ≡ true)
  has_turn s k id v ticket at is = let n : ℕ = length k.log in (
    dite (ℕ_discrete ticket n) (λ e. e) (λ not.
        let weighed : turning (but n) v.stage ≡ but n ticket = ap (turning (but n)) is in
        let is_one : but n ticket ≡ 1 = but-other n ticket not in
        let none_here : but n n ≡ 0 = but-same n n refl in
        absurd (omega (arith, term_le (λ u. turning (but n) u.stage) s.views id v at, k.turn (but n), cond_out k.out (but n n)))),
    ⊎_elim (λ yes. yes) (λ (no : k.out ≡ false).
        let weighed : turning weight_of_one v.stage ≡ 1 = ap (turning weight_of_one) is in
        let nothing : cond k.out (weight_of_one n) 0 ≡ 0 = ap (λ (b : Bool). cond b 1 0) no in
        absurd (omega (arith, term_le (λ u. turning weight_of_one u.stage) s.views id v at, k.turn weight_of_one))) (true_or_false k.out),
  )

  turn_weight : (stage : CallStage) → IsTurn stage → turning weight_of_one stage ≡ 1
  turn_weight Idle h = absurd h
  turn_weight (Waits t) h = absurd h
  turn_weight (Turn t) h = refl

  -- what another token knows is still known once a seat has made its call
  others_know : (s : St) (k : Rule s) (id : ℕ) (v : V) (ticket : ℕ) (p : P) (e : SeatCall Q A M) → get_elem? s.views id ≡ some v → v.stage ≡ Turn ticket → v.pasts ≡ p ∷ [] → e.seat ≡ p.number
      → (j : ℕ) (u : V) → j ≢ id → get_elem? s.views j ≡ some u → IsKnown first (k.log ++ e ∷ []) u
  others_know s k id v ticket p e at is pasts seat j u other there =
      let n : ℕ = p.number in
      let f : ℕ → ℕ = only n in
      let known = k.each j u there in
      let mine : numbers f v ≡ 1 = ap (total (λ (q : P). f q.number)) pasts ∙ (let here = only-same n n refl in omega arith) in
      let theirs : numbers f u ≡ 0 = omega (arith, terms_le (numbers f) s.views id j v u other at there, k.dealt f, (below-only n seats).0) in
      record {
        fits = each_both (λ (q : P). q.number ≢ n) (Fits k.log) (Fits (k.log ++ e ∷ [])) u.pasts
            (λ q not h. (IsPrefix-push q.seen k.log e h.0, calls_by-other q.number k.log e (λ same. not (sym same ∙ seat)) ∙ h.1)) (none_of (λ (q : P). q.number) n u.pasts theirs) known.fits;
        opening = known.opening;
        few = known.few;
        whole = λ turn. let one_turn : turning weight_of_one v.stage ≡ 1 = ap (turning weight_of_one) is in
            absurd (omega (arith, terms_le (λ (x : V). turning weight_of_one x.stage) s.views id j v u other at there, turn_weight u.stage turn, k.turn weight_of_one, cond_out k.out (weight_of_one (length k.log))));
      }

  pub enters : (slots id : ℕ) (opened : Option M) (ticket : ℕ) (p : P) (object : O) (e : SeatCall Q A M) → 0 < slots → ticket < 2 ^ 62 → gives_ (meaning_after first p.seen) e.op e.reply e.after → meaning object ≡ e.after
      → e.seat ≡ p.number → may first p.number p.mine e.op
      → Allows Rule slots id (seated opened (Turn ticket) p, (0, object) ∷ []) 16 (λ n. (n + 1) % 2 ^ 64) (entered (Some e) (step slots 16 1 0 none) (seated opened (Turn ticket) p, (0, object) ∷ []))
  enters slots id opened ticket p object e some_slot below_most given stands seat allowed s k homes at small =
      let log : List (SeatCall Q A M) = k.log in
      let v : V = seated opened (Turn ticket) p in
      let w : V = seated opened Idle (with_call e p) in
      let known = k.each id v at in
      let turn = has_turn s k id v ticket at refl in
      let whole : p.seen ≡ log = (known.whole tt).0 in
      let own : calls_by p.number log ≡ p.mine = known.fits.0.1 in
      let long = k.wide in
      let longer : length (log ++ e ∷ []) ≡ length log + 1 = length-append log (e ∷ []) in
      let served : serving_of s ≡ length log = k.passed in
      let is_ticket : ticket ≡ length log = turn.0 in
      let next : (serving_of s + 1) % 2 ^ 64 ≡ length log + 1 = omega arith in
      let n : ℕ = (serving_of s + 1) % 2 ^ 64 in
      let one_number = below-only p.number seats in
      let mine : numbers (only p.number) v ≡ 1 = (let here = only-same p.number p.number refl in omega arith) in
      let is_dealt : p.number < seats = dite (dec_le seats p.number) (λ high. absurd (let zero_there = one_number.1 high in omega (arith, term_le (numbers (only p.number)) s.views id v at, k.dealt (only p.number)))) (λ low. omega arith) in (
        w,
        gives,
        tt,
        record {
          log = log ++ e ∷ [];
          out = false;
          history = IsHistory-push gives_ first log e k.history (subst (λ (l : List (SeatCall Q A M)). gives_ (meaning_after first l) e.op e.reply e.after) whole given);
          allowed = AllAllowed-push may first log e k.allowed (subst (λ (z : ℕ × List (SeatCall Q A M)). may first z.0 z.1 e.op) (λ i. (sym seat i, (sym own ∙ ap (λ m. calls_by m log) (sym seat)) i)) allowed);
          room = k.room;
          wide = omega (arith, length-set s.words 16 n);
          passed = get_or-set_same s.words 16 n 0 (omega arith) ∙ (next ∙ sym longer);
          bounded = omega arith;
          tickets = λ f. omega (arith, total-set (λ u. waiting f u.stage) s.views id v w at, total-set (λ u. turning f u.stage) s.views id v w at, k.tickets f, ap f is_ticket, ap (below f) longer, below-suc f (length log), ap (below f) (get_or-set_other s.words 16 0 n 0 (λ x. omega arith)));
          turn = λ f. omega (arith, total-set (λ u. turning f u.stage) s.views id v w at, k.turn f, ap (λ (b : Bool). cond b (f (length log)) 0) turn.1, ap f is_ticket);
          home = λ _. (object, set_here s.homes 0 (some object) (omega arith), stands ∙ sym (meaning_after-push first log e));
          dealt = λ f. omega (arith, total-set (numbers f) s.views id v w at, k.dealt f);
          callers = each_append (λ (x : SeatCall Q A M). x.seat < seats) log (e ∷ []) k.callers (omega arith, tt);
          each = known_set (log ++ e ∷ []) s.views id w (record {
            fits = ((([], append-nil (p.seen ++ e ∷ []) ∙ ap (λ l. l ++ e ∷ []) whole), calls_by-own p.number log e seat ∙ ap (λ l. l ++ e ∷ []) own), tt);
            opening = known.opening;
            few = omega arith;
            whole = λ h. absurd h;
          }) (others_know s k id v ticket p e at refl refl seat);
        },
        refl,
      )

  pub keeps_all : (slots id i n : ℕ) (m : Me O V) → 32 ≤ i → Allows Rule slots id m i (λ _. n) (λ _. unchanged (step slots i n 0 none) m n)
  keeps_all slots id i n m far s k homes at small =
      (m.0, keeps, tt, unmoved s k i n id m.0 m.1 at (get_or-set_other s.words i 0 n 0 (λ e. omega arith)) (get_or-set_other s.words i 16 n 0 (λ e. omega arith)), refl)

  pub splits : (id : ℕ) (opened : Option M) (p : P) (ps : List P) → Splits Rule id (view opened Idle (p ∷ ps)) (view opened Idle ps) (view opened Idle (p ∷ []))
  splits id opened p ps s k at =
      let v : V = view opened Idle (p ∷ ps) in
      let left : V = view opened Idle ps in
      let right : V = view opened Idle (p ∷ []) in
      let known = k.each id v at in
      let is_opened : opened ≡ Some first = known.opening (omega arith) in
      let sum : (g : V → ℕ) → total g (set s.views id left ++ right ∷ []) + g v ≡ total g s.views + g left + g right = λ g. omega (arith, total-set g s.views id v left at, total-append g (set s.views id left) (right ∷ [])) in
      record {
        log = k.log;
        out = k.out;
        history = k.history;
        allowed = k.allowed;
        room = k.room;
        wide = k.wide;
        passed = k.passed;
        bounded = k.bounded;
        tickets = λ f. omega (arith, sum (λ u. waiting f u.stage), sum (λ u. turning f u.stage), k.tickets f);
        turn = λ f. omega (arith, sum (λ u. turning f u.stage), k.turn f);
        home = k.home;
        dealt = λ f. omega (arith, sum (numbers f), k.dealt f);
        callers = k.callers;
        each = λ j u e. ⊎_elim (λ there. known_set k.log s.views id left (record { fits = known.fits.1; opening = λ _. is_opened; few = omega arith; whole = λ h. absurd h }) (λ i x _ y. k.each i x y) j u there)
            (λ (is : right ≡ u). subst (IsKnown first k.log) is (record { fits = (known.fits.0, tt); opening = λ _. is_opened; few = omega arith; whole = λ h. absurd h })) (at_snoc (set s.views id left) right u j e);
      }

  pub joins : (id : ℕ) (opened : Option M) (ps : List P) (other : ℕ) (opened' : Option M) (ps' : List P) → opened ≡ Some first
      → Joins Rule id (view opened Idle ps) other (view opened' Idle ps') (view opened Idle (ps' ++ ps)) (view None Idle [])
  joins id opened ps other opened' ps' is_opened s k at apart there =
      let v : V = view opened Idle ps in
      let u : V = view opened' Idle ps' in
      let both : V = view opened Idle (ps' ++ ps) in
      let spent : V = view None Idle [] in
      let known = k.each id v at in
      let there_too : get_elem? s.views other ≡ some u = ⊎_elim (λ (t : (other ≡ id) × (both ≡ u)). absurd (apart t.0)) (λ t. t.1) (at_set s.views id other both u there) in
      let known' = k.each other u there_too in
      let sum : (g : V → ℕ) → total g (set (set s.views id both) other spent) + g v + g u ≡ total g s.views + g both + g spent = λ g. omega (arith, total-set g s.views id v both at, total-set g (set s.views id both) other u spent there) in
      let is_known : IsKnown first k.log both = record { fits = each_append (Fits k.log) ps' ps known'.fits known.fits; opening = λ _. is_opened; few = omega arith; whole = λ h. absurd h } in
      record {
        log = k.log;
        out = k.out;
        history = k.history;
        allowed = k.allowed;
        room = k.room;
        wide = k.wide;
        passed = k.passed;
        bounded = k.bounded;
        tickets = λ f. omega (arith, sum (λ x. waiting f x.stage), sum (λ x. turning f x.stage), k.tickets f);
        turn = λ f. omega (arith, sum (λ x. turning f x.stage), k.turn f);
        home = k.home;
        dealt = λ f. omega (arith, sum (numbers f), k.dealt f, total-append (λ (q : P). f q.number) ps' ps);
        callers = k.callers;
        each = known_set k.log (set s.views id both) other spent (record { fits = tt; opening = λ h. absurd (omega arith); few = omega arith; whole = λ h. absurd h })
            (λ i x _ y. known_set k.log s.views id both is_known (λ i' x' _ y'. k.each i' x' y') i x y);
      }

  pub splits_at : (id : ℕ) (opened : Option M) (stage : CallStage) (ps : List P) → stage ≡ Idle → 0 < length ps → Splits Rule id (view opened stage ps) (view opened stage (other_pasts ps)) (view opened Idle (first_past ps ∷ []))
  splits_at id opened stage [] is some_there = absurd (omega arith)
  splits_at id opened stage (p ∷ ps) is some_there = subst (λ (st : CallStage). Splits Rule id (view opened st (p ∷ ps)) (view opened st ps) (view opened Idle (p ∷ []))) (sym is) (splits id opened p ps)

  pub joins_at : (id other : ℕ) (v w : V) → v.stage ≡ Idle → w.stage ≡ Idle → v.opening ≡ Some first → Joins Rule id v other w (view v.opening v.stage (w.pasts ++ v.pasts)) (view None Idle [])
  joins_at id other v w is is' opened = subst (λ (z : CallStage × CallStage). Joins Rule id (view v.opening z.0 v.pasts) other (view w.opening z.1 w.pasts) (view v.opening z.0 (w.pasts ++ v.pasts)) (view None Idle [])) (λ i. (sym is i, sym is' i)) (joins id v.opening v.pasts other w.opening w.pasts opened)
