-- Connections of a machine that are stopped, one after another: what they leave of the loop, and that it keeps within its budget.
use Rattle.std.proofs.Common.{◌≡◌, ◌≢◌, ℕ, zero, suc, ◌+◌, ◌<◌, ◌≤◌, ◌^◌, ◌⊎◌, Option, None, Some, List, [], ◌∷◌, ◌++◌, map, length, slice_get, refl, sym, ap, ◌∙◌, subst, inl, inr, arith, append_assoc, append-nil}
use Rattle.std.proofs.lemmas.Bool.{cases_eq}
use Rattle.std.proofs.lemmas.Option.{none-some}
use Rattle.streams.specs.declared.marks.Mark.{Mark}
use Rattle.streams.specs.declared.marks.Mark.TheVariants.{Closed}
use Rattle.host_model.specs.declared.cause.EndCause.{EndCause}
use Rattle.host_model.specs.declared.cause.EndCause.TheVariants.{Stopped}
use Rattle.host_model.specs.Journal.{ServiceRules}
use Rattle.host_model.specs.DeskRules.{DeskRules}
use Rattle.machine_model.specs.Loop.{LoopConn, Loop, changed, with_conn, with_cause}
use Rattle.machine_model.specs.Machine.{Cell, MachineEvent, EventsLead, IsFirst, HaveAllEnded}
use Rattle.machine_model.specs.Bounds.{sum_among}
use Rattle.machine_model.specs.AtFronts.{begun_if_open, all_begun, KeepsWithin}
use Rattle.machine_model.proofs.Lists.{put_same, put_other, get_within}
use Rattle.machine_model.proofs.Summing.{sum_changed}
use Rattle.machine_model.proofs.Merging.{runs-append}
use Rattle.machine_model.proofs.Budgeting.{run_within}
use Rattle.cell_loop.specs.Stops.{if_open, open_below, open_numbers, stop_of, stops_of, cause_or_stop, IsStopped}

-- ---- numbers among others

abbrev pub IsAmong : ℕ → List ℕ → Type 0
IsAmong c [] = ⊥
IsAmong c (n ∷ numbers) = (c ≡ n) ⊎ IsAmong c numbers

among_front : (c : ℕ) (xs ys : List ℕ) → IsAmong c xs → IsAmong c (xs ++ ys)
among_front c [] ys a = absurd a
among_front c (x ∷ xs) ys (inl e) = inl e
among_front c (x ∷ xs) ys (inr a) = inr (among_front c xs ys a)

among_back : (c : ℕ) (xs ys : List ℕ) → IsAmong c ys → IsAmong c (xs ++ ys)
among_back c [] ys a = a
among_back c (x ∷ xs) ys a = inr (among_back c xs ys a)

among_either : (c : ℕ) (xs ys : List ℕ) → IsAmong c (xs ++ ys) → IsAmong c xs ⊎ IsAmong c ys
among_either c [] ys a = inr a
among_either c (x ∷ xs) ys (inl e) = inl (inl e)
among_either c (x ∷ xs) ys (inr a) = go (among_either c xs ys a)
  where
    go : IsAmong c xs ⊎ IsAmong c ys → IsAmong c (x ∷ xs) ⊎ IsAmong c ys
    go (inl b) = inl (inr b)
    go (inr b) = inr b

-- the one number, where it is open
only_open : (c n : ℕ) (cause : Option EndCause) → IsAmong c (if_open cause n) → c ≡ n
only_open c n None (inl e) = e
only_open c n None (inr a) = absurd a
only_open c n (Some cause) a = absurd a

open_itself : (c : ℕ) (cause : Option EndCause) → cause ≡ None → IsAmong c (if_open cause c)
open_itself c None e = inl refl
open_itself c (Some cause) e = absurd (none-some cause (sym e))

-- the open ones below a number are below it
pub open_is_below : (conns : ℕ → LoopConn) (n c : ℕ) → IsAmong c (open_below conns n) → c < n
open_is_below conns zero c a = absurd a
open_is_below conns (suc n) c a = go (among_either c (open_below conns n) (if_open (conns n).cause n) a) (λ b. open_is_below conns n c b)
  where
    go : IsAmong c (open_below conns n) ⊎ IsAmong c (if_open (conns n).cause n) → (IsAmong c (open_below conns n) → c < n) → c < suc n
    go (inl b) before = let l : c < n = before b in omega arith
    go (inr b) before = let e : c ≡ n = only_open c n (conns n).cause b in omega arith

-- and each open one is among them
pub open_is_among : (conns : ℕ → LoopConn) (n c : ℕ) → c < n → (conns c).cause ≡ None → IsAmong c (open_below conns n)
open_is_among conns zero c l e = absurd (let f : ⊥ = omega arith in f)
open_is_among conns (suc n) c l e = go (cases_eq c n) (λ k. open_is_among conns n c k e)
  where
    go : (c ≡ n) ⊎ (c ≡ n → ⊥) → (c < n → IsAmong c (open_below conns n)) → IsAmong c (open_below conns n ++ if_open (conns n).cause n)
    go (inl same) before =
        subst (λ k. IsAmong k (open_below conns n ++ if_open (conns n).cause n)) (sym same)
        (among_back n (open_below conns n) (if_open (conns n).cause n) (open_itself n (conns n).cause (ap (λ k. (conns k).cause) (sym same) ∙ e)))
    go (inr other) before = among_front c (open_below conns n) (if_open (conns n).cause n) (before (omega arith))

-- where none is open, there is none among them
none_below : (conns : ℕ → LoopConn) (n : ℕ) → ((c : ℕ) → c < n → (conns c).cause ≢ None) → open_below conns n ≡ []
none_below conns zero each = refl
none_below conns (suc n) each =
    ap (λ xs. xs ++ if_open (conns n).cause n) (none_below conns n (λ c l. each c (omega arith))) ∙ none_open (conns n).cause (each n (omega arith))
  where
    none_open : (cause : Option EndCause) → cause ≢ None → if_open cause n ≡ []
    none_open None e = absurd (e refl)
    none_open (Some cause) e = refl

pub none_to_stop : (loop : Loop) (causes : List EndCause) → HaveAllEnded loop causes → open_numbers loop ≡ []
none_to_stop loop causes ended = none_below loop.conns loop.count each
  where
    each : (c : ℕ) → c < loop.count → (loop.conns c).cause ≢ None
    each c l e =
        let n : length causes ≡ loop.count = ended.count in
        let known : (cause : EndCause) × (slice_get causes c ≡ Some cause) = get_within causes c (omega arith) in
        none-some known.0 (sym e ∙ ended.each c l ∙ known.1)

-- ---- what stops leave

-- what is left of a loop by stops of these connections
pub record IsLeftByStops (numbers : List ℕ) (old new : Loop) : Type 0 where
  pub tape : new.tape ≡ old.tape ++ map Closed numbers
  pub count : new.count ≡ old.count
  pub caused : (c : ℕ) (cause : EndCause) → (old.conns c).cause ≡ Some cause → (new.conns c).cause ≡ Some cause
  pub stopped : (c : ℕ) → IsAmong c numbers → (new.conns c).cause ≡ Some Stopped
  pub others : (c : ℕ) → (IsAmong c numbers → ⊥) → new.conns c ≡ old.conns c

-- a loop of which connection c is stopped
abbrev stopped_at : Loop → ℕ → Loop
stopped_at loop c = changed loop c (with_cause (loop.conns c) Stopped) (Closed c ∷ [])

-- one more, before the others
left_more : (n : ℕ) (numbers : List ℕ) (old mid new : Loop) → (old.conns n).cause ≡ None → mid ≡ stopped_at old n → IsLeftByStops numbers mid new → IsLeftByStops (n ∷ numbers) old new
left_more n numbers old mid new is_open is rest =
    record {
      tape = rest.tape ∙ ap (λ (l : Loop). l.tape ++ map Closed numbers) is ∙ append_assoc old.tape (Closed n ∷ []) (map Closed numbers);
      count = rest.count ∙ ap (λ (l : Loop). l.count) is;
      caused = λ c cause e. rest.caused c cause (stays c cause e (cases_eq c n));
      stopped = λ c a. ends c a;
      others = λ c none. rest.others c (λ a. none (inr a)) ∙ ap (λ (l : Loop). l.conns c) is ∙ put_other old.conns n (with_cause (old.conns n) Stopped) c (λ e. none (inl e));
    }
  where
    own : (mid.conns n).cause ≡ Some Stopped
    own = ap (λ (l : Loop). (l.conns n).cause) is ∙ ap (λ (k : LoopConn). k.cause) (put_same old.conns n (with_cause (old.conns n) Stopped))

    stays : (c : ℕ) (cause : EndCause) → (old.conns c).cause ≡ Some cause → (c ≡ n) ⊎ (c ≡ n → ⊥) → (mid.conns c).cause ≡ Some cause
    stays c cause e (inl same) = absurd (none-some cause (sym is_open ∙ ap (λ k. (old.conns k).cause) (sym same) ∙ e))
    stays c cause e (inr other) =
        ap (λ (l : Loop). (l.conns c).cause) is ∙ ap (λ (k : LoopConn). k.cause) (put_other old.conns n (with_cause (old.conns n) Stopped) c other) ∙ e

    ends : (c : ℕ) → IsAmong c (n ∷ numbers) → (new.conns c).cause ≡ Some Stopped
    ends c (inl same) = rest.caused c Stopped (ap (λ k. (mid.conns k).cause) same ∙ own)
    ends c (inr a) = rest.stopped c a

module _ {C A M : Type 0} (d : DeskRules C A) (r : ServiceRules C A M) where
  pub stops_leave : (numbers : List ℕ) (old new : Cell C A M) → EventsLead d r old (map stop_of numbers) new → IsLeftByStops numbers old.loop new.loop
  stops_leave [] old new t =
      record {
        tape = ap (λ (x : Cell C A M). x.loop.tape) t ∙ sym (append-nil old.loop.tape);
        count = ap (λ (x : Cell C A M). x.loop.count) t;
        caused = λ c cause e. ap (λ (x : Cell C A M). (x.loop.conns c).cause) t ∙ e;
        stopped = λ c a. absurd a;
        others = λ c none. ap (λ (x : Cell C A M). x.loop.conns c) t;
      }
  stops_leave (n ∷ numbers) old new t =
      left_more n numbers old.loop t.0.loop new.loop t.1.1.0.1 (ap (λ (x : Cell C A M). x.loop) t.1.2 ∙ t.1.1.2) (stops_leave numbers t.0 new t.2)

  -- A run that stopped, as is said of it.
  pub is_stopped : (old new : Cell C A M) (tape : List Mark) (causes : List EndCause) → EventsLead d r old (stops_of old.loop) new → new.loop.tape ≡ tape → HaveAllEnded new.loop causes
      → IsStopped old.loop tape causes
  is_stopped old new tape causes lead same ended =
      record {
        closed = sym same ∙ left.tape;
        count = ended.count ∙ left.count;
        each = λ c l. go c l (old.loop.conns c).cause refl;
      }
    where
      left : IsLeftByStops (open_numbers old.loop) old.loop new.loop
      left = stops_leave (open_numbers old.loop) old new lead

      here : (c : ℕ) → c < old.loop.count → slice_get causes c ≡ (new.loop.conns c).cause
      here c l = let n : new.loop.count ≡ old.loop.count = left.count in sym (ended.each c (omega arith))

      go : (c : ℕ) → c < old.loop.count → (cause : Option EndCause) → (old.loop.conns c).cause ≡ cause → slice_get causes c ≡ Some (cause_or_stop cause)
      go c l None e = here c l ∙ left.stopped c (open_is_among old.loop.conns old.loop.count c l e)
      go c l (Some cause) e = here c l ∙ left.caused c cause e

  -- ---- within the budget

  -- a connection that is stopped has nothing under way
  less_begun : (loop : Loop) (c : ℕ) → c < loop.count → all_begun (stopped_at loop c) ≤ all_begun loop
  less_begun loop c l =
      let f : LoopConn → ℕ = λ conn. begun_if_open conn.cause conn.held in
      let e : sum_among f (with_conn loop.conns c (with_cause (loop.conns c) Stopped)) loop.count + f (loop.conns c) ≡ sum_among f loop.conns loop.count + 0 =
      sum_changed f loop.conns c (with_cause (loop.conns c) Stopped) loop.count l in
      omega arith

  pub stops_within : (small : d.max < 2 ^ 31) (budget : ℕ) (memories : List M) (first : Cell C A M) → IsFirst memories first → (numbers : List ℕ) (events : List MachineEvent) (old new : Cell C A M)
      → EventsLead d r first events old → KeepsWithin d.max budget old.loop → EventsLead d r old (map stop_of numbers) new → KeepsWithin d.max budget new.loop
  stops_within small budget memories first is_first [] events old new lead kept t = subst (λ (x : Cell C A M). KeepsWithin d.max budget x.loop) (sym t) kept
  stops_within small budget memories first is_first (n ∷ numbers) events old new lead kept t =
      let mid : Cell C A M = t.0 in
      let is : mid.loop ≡ stopped_at old.loop n = ap (λ (x : Cell C A M). x.loop) t.1.2 ∙ t.1.1.2 in
      let less : all_begun (stopped_at old.loop n) ≤ all_begun old.loop = less_begun old.loop n t.1.1.0.0 in
      let same : all_begun mid.loop ≡ all_begun (stopped_at old.loop n) = ap all_begun is in
      let now : all_begun old.loop ≤ budget = kept.now in
      stops_within small budget memories first is_first numbers (events ++ stop_of n ∷ []) mid new (runs-append d r first old mid events (stop_of n ∷ []) lead (mid, t.1, refl))
      (run_within d r small budget memories first old mid events (stop_of n) is_first lead kept t.1 (omega arith)) t.2
