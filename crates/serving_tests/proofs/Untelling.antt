-- Links that tell less of a script answer as links do.
use Rattle.std.proofs.Common.{◌≡◌, ℕ, ◌≤◌, Bool, true, false, ◌||◌, Result, Ok, Err, List, refl, arith}
use Rattle.streams.specs.Cause.{Rose}
use Rattle.streams.proofs.Causes.{on_ok}
use Rattle.streams.specs.declared.streams.Failed.{Failed}
use Rattle.outside.specs.declared.answers.Ask.{Ask}
use Rattle.outside.specs.declared.answers.Hint.{Hint}
use Rattle.outside.specs.declared.answers.Hint.TheVariants.{Opened, Readable, Writable, Woken, Over}
use Rattle.outside.specs.declared.answers.Taken.{Taken}
use Rattle.outside.specs.LinksState.{ChangesOnly}
use Rattle.outside.specs.Asking.{OpensNext, AnswerOpens, AnswersAsk}
use Rattle.outside.specs.Reading.{Reads}
use Rattle.outside.specs.Writing.{WritesToConnection}
use Rattle.outside.specs.Closing.{Closes}
use Rattle.script_links.specs.ServedScript.{ServedScript}
use Rattle.script_links.specs.Shown.{links_told}
use Rattle.serving_tests.specs.Untold.{untold}

none_rises : Rose 0 0 → ⊥
none_rises rose = omega arith

stays : (over : Bool) → over ≡ (over || false)
stays true = refl
stays false = refl

module _ (n : ℕ) (s t : ServedScript) where
  changes : (c : ℕ) → ChangesOnly c (links_told s) (links_told t) → ChangesOnly c (untold s n) (untold t n)
  changes c k = record {
    listens = refl;
    opened = k.opened;
    over = k.over;
    rests = refl;
    net_faults = refl;
    is_open = k.is_open;
    left = λ x other. refl;
    arrived = λ x other. refl;
    faults = k.faults;
  }

  pub reads : (c : ℕ) (into : List ℕ) (taken : Taken) → Reads c into (links_told s) (links_told t) taken → Reads c into (untold s n) (untold t n) taken
  reads c into taken r = record {
    others = changes c r.others;
    still_open = r.still_open;
    tape = refl;
    lengths = refl;
    within = r.within;
    left = refl;
    arrived = refl;
    ended = λ is. tt;
    not_yet = λ is. tt;
    nothing = λ is. absurd (cc);
    faults = r.faults;
  }

  pub writes : (c : ℕ) (bytes : List ℕ) (taken : Taken) → WritesToConnection c bytes (links_told s) (links_told t) taken → WritesToConnection c bytes (untold s n) (untold t n) taken
  writes c bytes taken w = record {
    others = changes c w.others;
    still_open = w.still_open;
    tape = refl;
    lengths = refl;
    within = w.within;
    left = refl;
    arrived = refl;
    no_end = w.no_end;
    faults = w.faults;
  }

  pub closes : (c : ℕ) → Closes c (links_told s) (links_told t) → Closes c (untold s n) (untold t n)
  closes c k = record {
    others = changes c k.others;
    closed = k.closed;
    tape = refl;
    lengths = refl;
    left = refl;
    arrived = refl;
    faults = k.faults;
  }

  module _ (ask : Ask) where
    opens_next : (c : ℕ) → OpensNext ask c (links_told s) (links_told t) → OpensNext ask c (untold s n) (untold t n)
    opens_next c o = record {
      room = o.room;
      not_over = o.not_over;
      number = o.number;
      opened = o.opened;
      few = o.few;
      within = tt;
      is_open = o.is_open;
      others = o.others;
      tape = refl;
    }

    opens : (result : Result Hint Failed) → AnswerOpens ask (links_told s) (links_told t) result → AnswerOpens ask (untold s n) (untold t n) result
    opens (Ok (Opened c)) o = opens_next c o
    opens (Ok (Readable c)) o = record { opened = o.opened; is_open = o.is_open; tape = refl }
    opens (Ok (Writable c)) o = record { opened = o.opened; is_open = o.is_open; tape = refl }
    opens (Ok Woken) o = record { opened = o.opened; is_open = o.is_open; tape = refl }
    opens (Ok Over) o = record { opened = o.opened; is_open = o.is_open; tape = refl }
    opens (Err e) o = record { opened = o.opened; is_open = o.is_open; tape = refl }

    pub answers : (result : Result Hint Failed) → AnswersAsk ask (links_told s) (links_told t) result → AnswersAsk ask (untold s n) (untold t n) result
    answers result a = record {
      listens = refl;
      opens = opens result a.opens;
      over = a.over;
      none_open = a.none_open;
      rests = (0, refl, λ is. refl);
      lengths = refl;
      left = λ x. refl;
      arrived = λ x. tt;
      faults = a.faults;
      later = omega arith;
      failed = λ is. absurd (none_rises (a.failed is));
      kept = on_ok result refl;
    }

-- nothing is told, and a fault more counted
pub fails : (s : ServedScript) (n m : ℕ) (ask : Ask) (e : Failed) → Rose n m → n ≤ m → AnswersAsk {E = Failed} ask (untold s n) (untold s m) (Err e)
fails s n m ask e rose later = record {
  listens = refl;
  opens = record { opened = refl; is_open = λ x. refl; tape = refl };
  over = stays s.over;
  none_open = λ is. absurd (cc);
  rests = (0, refl, λ is. refl);
  lengths = refl;
  left = λ x. refl;
  arrived = λ x. tt;
  faults = λ x. refl;
  later = later;
  failed = λ is. rose;
  kept = tt;
}
