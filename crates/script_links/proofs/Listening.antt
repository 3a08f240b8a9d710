-- Links over a script that listen answer as links do.
use Rattle.std.proofs.Common.{◌≡◌, ℕ, suc, ◌<◌, ◌≤◌, Bool, true, false, Result, Ok, Err, Some, List, length, refl, sym, ap, arith, true≢false, append-nil}
use Rattle.streams.specs.Cause.{Rose}
use Rattle.streams.specs.declared.streams.Failed.{Failed}
use Rattle.outside.specs.declared.answers.Ask.{Ask}
use Rattle.outside.specs.declared.answers.Hint.{Hint}
use Rattle.outside.specs.declared.answers.Hint.TheVariants.{Opened, Readable, Writable, Woken, Over}
use Rattle.outside.specs.declared.answers.Taken.{Taken}
use Rattle.outside.specs.LinksState.{Listening, ChangesOnly}
use Rattle.outside.specs.Asking.{OpensNext, AnswerOpens, AnswersAsk}
use Rattle.outside.specs.Reading.{Reads}
use Rattle.outside.specs.Writing.{WritesToConnection}
use Rattle.outside.specs.Closing.{Closes}
use Rattle.script_links.specs.ServedScript.{ServedScript}
use Rattle.script_links.specs.Shown.{links_told}
use Rattle.script_links.proofs.Connected.{open_is_there}
use Rattle.script_links.proofs.Arriving.{arrives_same}
use Rattle.script_links.proofs.Hinting.{or_false}
use Rattle.script_links.proofs.FollowedToEnd.{KeepsScript}
use Rattle.script_links.specs.Listens.{told_listening}

module _ (l : Listening) (n : ℕ) (s t : ServedScript) where
  changes : (c : ℕ) → ChangesOnly c (links_told s) (links_told t) → ChangesOnly c (told_listening l n s) (told_listening l n t)
  changes c k = record {
    listens = refl;
    opened = k.opened;
    over = k.over;
    rests = k.rests;
    net_faults = refl;
    is_open = k.is_open;
    left = k.left;
    arrived = k.arrived;
    faults = k.faults;
  }

  pub reads : (c : ℕ) (into : List ℕ) (taken : Taken) → Reads c into (links_told s) (links_told t) taken → Reads c into (told_listening l n s) (told_listening l n t) taken
  reads c into taken r = record {
    others = changes c r.others;
    still_open = r.still_open;
    tape = r.tape;
    lengths = r.lengths;
    within = r.within;
    left = r.left;
    arrived = r.arrived;
    ended = r.ended;
    not_yet = r.not_yet;
    nothing = r.nothing;
    faults = r.faults;
  }

  pub writes : (c : ℕ) (bytes : List ℕ) (taken : Taken) → WritesToConnection c bytes (links_told s) (links_told t) taken → WritesToConnection c bytes (told_listening l n s) (told_listening l n t) taken
  writes c bytes taken w = record {
    others = changes c w.others;
    still_open = w.still_open;
    tape = w.tape;
    lengths = w.lengths;
    within = w.within;
    left = w.left;
    arrived = w.arrived;
    no_end = w.no_end;
    faults = w.faults;
  }

  pub closes : (c : ℕ) → Closes c (links_told s) (links_told t) → Closes c (told_listening l n s) (told_listening l n t)
  closes c k = record {
    others = changes c k.others;
    closed = k.closed;
    tape = k.tape;
    lengths = k.lengths;
    left = k.left;
    arrived = k.arrived;
    faults = k.faults;
  }

  module _ (ask : Ask) (within : length t.links ≤ l.accept) where
    opens_next : (c : ℕ) → OpensNext ask c (links_told s) (links_told t) → OpensNext ask c (told_listening l n s) (told_listening l n t)
    opens_next c o =
        let below : c < length t.links = open_is_there t.links c o.is_open in
        let next : t.opened ≡ suc c = o.opened in
        record {
          room = o.room;
          not_over = o.not_over;
          number = o.number;
          opened = o.opened;
          few = o.few;
          within = omega arith;
          is_open = o.is_open;
          others = o.others;
          tape = o.tape;
        }

    opens : (hint : Hint) → AnswerOpens {E = Failed} ask (links_told s) (links_told t) (Ok hint) → AnswerOpens {E = Failed} ask (told_listening l n s) (told_listening l n t) (Ok hint)
    opens (Opened c) o = opens_next c o
    opens (Readable c) o = record { opened = o.opened; is_open = o.is_open; tape = o.tape }
    opens (Writable c) o = record { opened = o.opened; is_open = o.is_open; tape = o.tape }
    opens Woken o = record { opened = o.opened; is_open = o.is_open; tape = o.tape }
    opens Over o = record { opened = o.opened; is_open = o.is_open; tape = o.tape }

    pub answers : (hint : Hint) → AnswersAsk {E = Failed} ask (links_told s) (links_told t) (Ok hint) → AnswersAsk {E = Failed} ask (told_listening l n s) (told_listening l n t) (Ok hint)
    answers hint a = record {
      listens = refl;
      opens = opens hint a.opens;
      over = a.over;
      none_open = a.none_open;
      rests = a.rests;
      lengths = a.lengths;
      left = a.left;
      arrived = a.arrived;
      faults = a.faults;
      later = omega arith;
      failed = λ e. absurd (true≢false (sym e));
      kept = refl;
    }

-- links that fail when they are asked what is next count a fault, and nothing else has changed
pub fails_to_answer : (ask : Ask) (l : Listening) (n m : ℕ) (s : ServedScript) (e : Failed) → Rose n m → n ≤ m → AnswersAsk {E = Failed} ask (told_listening l n s) (told_listening l m s) (Err e)
fails_to_answer ask l n m s e rose later = record {
  listens = refl;
  opens = record { opened = refl; is_open = λ x. refl; tape = refl };
  over = sym (or_false s.over);
  none_open = λ is. absurd (true≢false (sym (ap is_answer is)));
  rests = (0, ap Some (sym (append-nil s.rests)), λ is. refl);
  lengths = refl;
  left = λ x. refl;
  arrived = λ x. arrives_same s.links x;
  faults = λ x. refl;
  later = later;
  failed = λ is. rose;
  kept = tt;
}
  where
    is_answer : Result Hint Failed → Bool
    is_answer (Ok hint) = true
    is_answer (Err e) = false

-- so many links at most stay so many
pub still_few : (most : ℕ) (s t : ServedScript) → KeepsScript s t → length s.links ≤ most → length t.links ≤ most
still_few most s t k few = let same : length t.links ≡ length s.links = k.count in omega arith
