-- What is known of who dialled, once the pipe was hung up.
use Rattle.std.proofs.Common.{◌≡◌, ℕ, ◌<◌, Bool, true, false, List, [], ◌∷◌, ◌++◌, Option, Some, None, Result, Ok, Err, inl, inr, refl, ap, subst, ◌∙◌, cond, lt-ltb, arith}
use Rattle.std.specs.Prelude.{◌⊎◌, ◌||◌, nat_lt}
use Rattle.streams.specs.Cause.{Rose, next_count}
use Rattle.streams.specs.Content.{told_more}
use Rattle.outside.specs.Pipes.{PipeState, told_end}
use Rattle.outside.specs.Binding.{HandedOut, one_more_out, one_more_back}
use Rattle.outside.specs.Calling.{PastPipe, Dialled, StartsCalling, called_with, told_called, next_if_either}
use Rattle.port_calls.specs.Exchanging.{HasMoved, HasNoFault, HasMovedInPart, HasTalked}
use Rattle.port_calls.specs.Asked.{exchanged, IsBrokenExchange, MayCome, PipeTells, TellsOneMore, MeansAsked, HasAskingCause}
use Rattle.port_calls.specs.declared.asking_fault.AskingFault.{AskingFault}
use Rattle.port_calls.specs.declared.asking_fault.AskingFault.TheVariants as faults

-- the row of a pipe on which this was written and that was read
told_row : (rows : List PastPipe) (port : ℕ) (fresh last : PipeState) (sent read : List ℕ) (end : Bool) → StartsCalling (Some rows) port fresh
    → HasMoved sent read end fresh last → told_called (Some rows) last ≡ Some (rows ++ exchanged port sent read end ∷ [])
told_row rows port fresh last sent read end s m =
    let where_to : last.port ≡ port = m.port ∙ s.port_is in
    let written : last.written ≡ Some sent = m.written ∙ ap (λ x. told_more x sent) s.written in
    let given : last.given ≡ Some read = m.given ∙ ap (λ x. told_more x read) s.given in
    let ended : last.ended ≡ Some end = m.ended ∙ ap (λ x. told_end x end) s.ended in
    λ i. called_with rows (where_to i) (written i) (given i) (ended i)

module _ {A : Type 0} (payload : A → List ℕ) (bytes : List ℕ) (waits : Bool) (most port : ℕ) where
  broken_off : (rows : List PastPipe) (now : Option (List PastPipe)) (fresh last : PipeState) → StartsCalling (Some rows) port fresh
      → HasMovedInPart bytes waits most fresh last → now ≡ told_called (Some rows) last → TellsOneMore (Some rows) now (IsBrokenExchange port bytes waits most)
  broken_off rows now fresh last s m is = (
    exchanged port m.sent m.read false,
    is ∙ told_row rows port fresh last m.sent m.read false s m.moved,
    record { port_is = refl; begun = m.begun; behind = m.behind; partial = m.partial; not_ended = refl },
  )

  told_so : (rows : List PastPipe) (now : Option (List PastPipe)) (fresh last : PipeState) (result : Result (Option A) AskingFault) → StartsCalling (Some rows) port fresh
      → HasTalked payload bytes waits most fresh last result → now ≡ told_called (Some rows) last → TellsOneMore (Some rows) now (PipeTells payload port bytes waits most result)
  told_so rows now fresh last (Ok None) s t is =
      (exchanged port bytes [] false, is ∙ told_row rows port fresh last bytes [] false s t.so.1, refl)
  told_so rows now fresh last (Ok (Some a)) s t is =
      (exchanged port bytes _ false, is ∙ told_row rows port fresh last bytes _ false s t.so.2, refl)
  told_so rows now fresh last (Err faults.Cut) s t is =
      (exchanged port bytes t.so.1 true, is ∙ told_row rows port fresh last bytes t.so.1 true s t.so.3, (t.so.1, t.so.2, refl))
  told_so rows now fresh last (Err (faults.SizeFault z)) s t is =
      (exchanged port bytes _ false, is ∙ told_row rows port fresh last bytes _ false s t.so.2, refl)
  told_so rows now fresh last (Err faults.NetFault) s t is = broken_off rows now fresh last s t.so.0 is
  told_so rows now fresh last (Err faults.NoMemory) s t is = broken_off rows now fresh last s t.so.0 is

  comes_of : (fresh last : PipeState) (result : Result (Option A) AskingFault) → HasTalked payload bytes waits most fresh last result → MayCome payload waits most result
  comes_of fresh last (Ok None) t = t.so.0
  comes_of fresh last (Ok (Some a)) t = (t.so.0, t.so.1)
  comes_of fresh last (Err faults.Cut) t = t.so.0
  comes_of fresh last (Err (faults.SizeFault z)) t = (t.so.0, t.so.1)
  comes_of fresh last (Err faults.NetFault) t = tt
  comes_of fresh last (Err faults.NoMemory) t = tt

  told_where : (before mid now : Option (List PastPipe)) (fresh last : PipeState) (result : Result (Option A) AskingFault) → StartsCalling before port fresh
      → HasTalked payload bytes waits most fresh last result → mid ≡ before → now ≡ told_called mid last → TellsOneMore before now (PipeTells payload port bytes waits most result)
  told_where None mid now fresh last result s t same is = is ∙ ap (λ c. told_called c last) same
  told_where (Some rows) mid now fresh last result s t same is = told_so rows now fresh last result s t (is ∙ ap (λ c. told_called c last) same)

  -- one pipe was dialled and hung up
  pub hung_up : (before mid now : Dialled) (fresh last : PipeState) (result : Result (Option A) AskingFault) → StartsCalling before.called port fresh
      → HasTalked payload bytes waits most fresh last result → mid.called ≡ before.called → now.called ≡ told_called mid.called last
      → mid.handed ≡ one_more_out before.handed → now.handed ≡ one_more_back mid.handed → MeansAsked payload before now port bytes waits most result
  hung_up before mid now fresh last result s t same is out back =
      record {
        comes = comes_of fresh last result t;
        so = inl (record { once = back ∙ ap one_more_back out; told = told_where before.called mid.called now.called fresh last result s t same is });
      }

or_true : (a b : Bool) → b ≡ true → (a || b) ≡ true
or_true true b e = refl
or_true false b e = e

either_rose : (reads writes count : ℕ) → Rose 0 reads ⊎ Rose 0 writes → next_if_either reads writes count ≡ next_count count
either_rose reads writes count (inl h) =
    let some : 0 < reads = (let rose : Rose 0 reads = h in omega arith) in
    ap (λ b. cond (b || nat_lt 0 writes) (next_count count) count) (lt-ltb 0 reads some)
either_rose reads writes count (inr h) =
    let some : 0 < writes = (let rose : Rose 0 writes = h in omega arith) in
    ap (λ b. cond b (next_count count) count) (or_true (nat_lt 0 reads) (nat_lt 0 writes) (lt-ltb 0 writes some))

module _ {A : Type 0} (payload : A → List ℕ) (bytes : List ℕ) (waits : Bool) (most port : ℕ) where
  -- nothing failed on the pipe
  none_failed : (called : Option (List PastPipe)) (fresh last : PipeState) (mid now : ℕ) → StartsCalling called port fresh → HasNoFault fresh last
      → now ≡ next_if_either last.read_faults last.write_faults mid → now ≡ mid
  none_failed called fresh last mid now s f is = is ∙ (λ i. next_if_either ((f.reads ∙ s.reads) i) ((f.writes ∙ s.writes) i) mid)

  kept_cause : (result : Result (Option A) AskingFault) (old now : ℕ) → now ≡ old → (result ≡ Err faults.NetFault → ⊥) → HasAskingCause old now result
  kept_cause result old now same other = record { failed = λ is. absurd (other is); kept = λ _. same }

  -- the count of who dialled says what came of it
  pub asking_cause : (called : Option (List PastPipe)) (fresh last : PipeState) (result : Result (Option A) AskingFault) (old mid now : ℕ) → mid ≡ old
      → StartsCalling called port fresh → HasTalked payload bytes waits most fresh last result → now ≡ next_if_either last.read_faults last.write_faults mid
      → HasAskingCause old now result
  asking_cause called fresh last (Ok None) old mid now same s t is = kept_cause (Ok None) old now (none_failed called fresh last mid now s t.so.2 is ∙ same) (λ e. absurd (let g : ⊥ = cc in g))
  asking_cause called fresh last (Ok (Some a)) old mid now same s t is = kept_cause (Ok (Some a)) old now (none_failed called fresh last mid now s t.so.3 is ∙ same) (λ e. absurd (let g : ⊥ = cc in g))
  asking_cause called fresh last (Err faults.Cut) old mid now same s t is = kept_cause (Err faults.Cut) old now (none_failed called fresh last mid now s t.so.4 is ∙ same) (λ e. absurd (let g : ⊥ = cc in g))
  asking_cause called fresh last (Err (faults.SizeFault z)) old mid now same s t is = kept_cause (Err (faults.SizeFault z)) old now (none_failed called fresh last mid now s t.so.3 is ∙ same) (λ e. absurd (let g : ⊥ = cc in g))
  asking_cause called fresh last (Err faults.NoMemory) old mid now same s t is = kept_cause (Err faults.NoMemory) old now (none_failed called fresh last mid now s t.so.1 is ∙ same) (λ e. absurd (let g : ⊥ = cc in g))
  asking_cause called fresh last (Err faults.NetFault) old mid now same s t is =
      let rose : Rose 0 last.read_faults ⊎ Rose 0 last.write_faults =
      subst (λ n. Rose n last.read_faults ⊎ Rose 0 last.write_faults) s.reads (subst (λ n. Rose fresh.read_faults last.read_faults ⊎ Rose n last.write_faults) s.writes t.so.1) in
      let now_is : now ≡ next_count mid = is ∙ either_rose last.read_faults last.write_faults mid rose in
      record { failed = λ _. omega arith; kept = λ other. absurd (other refl) }
