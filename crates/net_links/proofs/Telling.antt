-- What each change of the account is to those who use the links.
use Rattle.std.proofs.Common.{◌≡◌, ◌≢◌, ℕ, ◌<◌, ◌≤◌, ◌^◌, Bool, true, false, not, ◌&&◌, ◌||◌, nat_eq, nat_lt, List, [], ◌∷◌, ◌++◌, length, filter, Option, Some, Result, Ok, Err, refl, ap, sym, subst, ◌∙◌, arith}
use Rattle.std.proofs.lemmas.Bool.{and_parts, not-true, false≢true, eqb-true, eq-eqb, ne_eqb, ltb-true, or_right}
use Rattle.std.proofs.lemmas.List.Folds.{list_any-append}
use Rattle.std.proofs.lemmas.Map.Views.{any-filter_same}
use Rattle.streams.specs.Memory.{is_listed}
use Rattle.outside.specs.declared.answers.Ask.{Ask}
use Rattle.outside.specs.declared.answers.Hint.{Hint}
use Rattle.outside.specs.declared.answers.Hint.TheVariants.{Opened, Readable, Writable, Woken}
use Rattle.outside.specs.Asking.{OpensNone, AnswerOpens, AnswersAsk, says_over}
use Rattle.outside.specs.Closing.{Closes}
use Rattle.net_links.specs.Account.{LinksAccount, state_of, may_open, most_connections, NumbersNext, after_opening, after_closing, after_net_fault}
use Rattle.net_links.specs.Watching.{TellsWithin, AcceptsOne}

or_false : (b : Bool) → b ≡ (b || false)
or_false true = refl
or_false false = refl

-- a number that is put behind others is among them
listed_last : (ns : List ℕ) (c : ℕ) → is_listed (ns ++ c ∷ []) c ≡ true
listed_last ns c = list_any-append (λ n. nat_eq n c) ns (c ∷ []) ∙ or_right (is_listed ns c) (is_listed (c ∷ []) c) (ap (λ b. b || false) (eq-eqb c c refl))

-- and nothing else changes
listed_before : (ns : List ℕ) (c x : ℕ) → x ≢ c → is_listed (ns ++ c ∷ []) x ≡ is_listed ns x
listed_before ns c x apart =
    list_any-append (λ n. nat_eq n x) ns (c ∷ [])
    ∙ (ap (λ b. is_listed ns x || (b || false)) (ne_eqb c x (λ e. apart (sym e))) ∙ sym (or_false (is_listed ns x)))

-- a number that is taken out isn't among them
gone : (c : ℕ) (ns : List ℕ) → is_listed (filter (λ n. not (nat_eq n c)) ns) c ≡ false
gone c ns = any-filter_same (λ n. nat_eq n c) (λ n. not (nat_eq n c)) false (λ k same. ap not same) ns

-- and all others are, as before
kept : (c x : ℕ) (ns : List ℕ) → x ≢ c → is_listed (filter (λ n. not (nat_eq n c)) ns) x ≡ is_listed ns x
kept c x ns apart = any-filter_same (λ n. nat_eq n x) (λ n. not (nat_eq n c)) true (λ k same. ap not (ne_eqb k c (λ e. apart (sym (eqb-true k x same) ∙ e)))) ns

-- a connection that is closed
pub closes : (c : ℕ) (old new : LinksAccount) → new ≡ after_closing c old → Closes c (state_of old) (state_of new)
closes c old new is = subst (λ a. Closes c (state_of old) (state_of a)) (sym is) record {
  others = record {
    listens = refl;
    opened = refl;
    over = refl;
    rests = refl;
    net_faults = refl;
    is_open = λ x apart. kept c x old.numbers apart;
    left = λ x apart. refl;
    arrived = λ x apart. refl;
    faults = λ x apart. refl;
  };
  closed = gone c old.numbers;
  tape = refl;
  lengths = refl;
  left = refl;
  arrived = refl;
  faults = refl;
}

-- the number that the sockets tell of is the next one, and may be opened
pub numbers_next : {F : Type 0} (room : Bool) (old : LinksAccount) (number : Option ℕ) (told : Result Hint F) (c : ℕ) → NumbersNext room old number → TellsWithin number told
    → told ≡ Ok (Opened c) → (c ≡ old.opened) × ((room && may_open old) ≡ true)
numbers_next room old number told c may within told-is =
    let number-is : number ≡ Some c = subst (TellsWithin number) told-is within in
    subst (NumbersNext room old) number-is may

-- nothing is opened where nothing has changed
same : (a : LinksAccount) → OpensNone (state_of a) (state_of a)
same a = record { opened = refl; is_open = λ x. refl; tape = refl }

module _ {E : Type 0} where
  -- nothing could be told
  pub fails : (ask : Ask) (old new : LinksAccount) (e : E) → new ≡ after_net_fault old → old.net_faults ≤ new.net_faults → AnswersAsk ask (state_of old) (state_of new) (Err e)
  fails ask old new e is later = record {
    listens = ap (λ a. Some a.listening) is;
    opens = record { opened = ap (λ a. a.opened) is; is_open = λ x. ap (λ a. is_listed a.numbers x) is; tape = refl };
    over = ap (λ a. a.over) is ∙ or_false old.over;
    none_open = λ over. absurd (false≢true (ap says_over over));
    rests = (0, refl, λ busy. refl);
    lengths = refl;
    left = λ x. refl;
    arrived = λ x. tt;
    faults = λ x. ap (λ a. (state_of a).faults x) is;
    later = later;
    failed = omega (arith, ap (λ a. a.net_faults) is);
    kept = tt;
  }

  -- the next connection was opened, where it may be
  opens : (ask : Ask) (old new : LinksAccount) → (ask.room && may_open old) ≡ true → new ≡ after_opening old → new.opened < 2 ^ 32
      → AnswersAsk {E = E} ask (state_of old) (state_of new) (Ok (Opened old.opened))
  opens ask old new may is few =
      let roomy = and_parts ask.room (may_open old) may in
      let most = and_parts (not old.over && nat_lt old.opened old.listening.accept) (nat_lt (length old.numbers) most_connections) roomy.1 in
      let more = and_parts (not old.over) (nat_lt old.opened old.listening.accept) most.0 in
      record {
        listens = ap (λ a. Some a.listening) is;
        opens = record {
          room = roomy.0;
          not_over = not-true old.over more.0;
          number = refl;
          opened = ap (λ a. a.opened) is ∙ omega arith;
          few = few;
          within = omega (arith, ltb-true old.opened old.listening.accept more.1, ap (λ a. a.opened) is);
          is_open = ap (λ a. is_listed a.numbers old.opened) is ∙ listed_last old.numbers old.opened;
          others = λ x apart. ap (λ a. is_listed a.numbers x) is ∙ listed_before old.numbers old.opened x apart;
          tape = refl;
        };
        over = ap (λ a. a.over) is ∙ or_false old.over;
        none_open = λ over. absurd (false≢true (ap says_over over));
        rests = (0, refl, λ busy. refl);
        lengths = refl;
        left = λ x. refl;
        arrived = λ x. tt;
        faults = λ x. ap (λ a. (state_of a).faults x) is;
        later = omega (arith, ap (λ a. a.net_faults) is);
        failed = λ err. absurd (false≢true err);
        kept = ap (λ a. a.net_faults) is;
      }

  -- a connection that is taken in, or isn't
  pub takes_in : (ask : Ask) (old new : LinksAccount) (c : ℕ) (result : Result Hint E) → c ≡ old.opened → (ask.room && may_open old) ≡ true → AcceptsOne c old new result
      → AnswersAsk {E = E} ask (state_of old) (state_of new) result
  takes_in ask old new c (Ok hint) number may t =
      subst (λ h. AnswersAsk {E = E} ask (state_of old) (state_of new) (Ok h)) (ap Opened (sym number) ∙ sym t.0) (opens ask old new may t.1 t.2)
  takes_in ask old new c (Err e) number may t = fails ask old new e t.0 t.1

  -- nothing has changed that those who use the links see, and nothing is opened
  stays : (ask : Ask) (a : LinksAccount) (hint : Hint) → AnswerOpens {E = E} ask (state_of a) (state_of a) (Ok hint) → says_over {E = E} (Ok hint) ≡ false
      → AnswersAsk {E = E} ask (state_of a) (state_of a) (Ok hint)
  stays ask a hint opens goes_on = record {
    listens = refl;
    opens = opens;
    over = or_false a.over ∙ ap (λ b. a.over || b) (sym goes_on);
    none_open = λ is. absurd (false≢true (sym goes_on ∙ ap says_over is));
    rests = (0, refl, λ busy. refl);
    lengths = refl;
    left = λ x. refl;
    arrived = λ x. tt;
    faults = λ x. refl;
    later = omega arith;
    failed = λ err. absurd (false≢true err);
    kept = refl;
  }

  -- something is told of a link, or a bell has rung
  pub tells_readable : (ask : Ask) (old new : LinksAccount) (c : ℕ) → new ≡ old → AnswersAsk {E = E} ask (state_of old) (state_of new) (Ok (Readable c))
  tells_readable ask old new c is = subst (λ a. AnswersAsk {E = E} ask (state_of old) (state_of a) (Ok (Readable c))) (sym is) (stays ask old (Readable c) (same old) refl)

  pub tells_writable : (ask : Ask) (old new : LinksAccount) (c : ℕ) → new ≡ old → AnswersAsk {E = E} ask (state_of old) (state_of new) (Ok (Writable c))
  tells_writable ask old new c is = subst (λ a. AnswersAsk {E = E} ask (state_of old) (state_of a) (Ok (Writable c))) (sym is) (stays ask old (Writable c) (same old) refl)

  pub tells_ring : (ask : Ask) (old new : LinksAccount) → new ≡ old → AnswersAsk {E = E} ask (state_of old) (state_of new) (Ok Woken)
  tells_ring ask old new is = subst (λ a. AnswersAsk {E = E} ask (state_of old) (state_of a) (Ok Woken)) (sym is) (stays ask old Woken (same old) refl)
