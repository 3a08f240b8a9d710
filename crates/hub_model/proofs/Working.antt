-- What a worker's turns at a hub are to one loop: turns of its own jobs, and at most a close beside them.
use Rattle.std.proofs.Common.{◌≡◌, ◌≢◌, ℕ, suc, Bool, true, false, ◌==◌, if◌then◌else◌, List, [], ◌∷◌, ◌++◌, map, refl, sym, ap, ◌∙◌, subst, inl, inr, ◌⊎◌, ne_eqb, arith}
use Rattle.std.specs.List.{flat_map}
use Rattle.std.proofs.lemmas.Bool.{cases_eq}
use Rattle.host_model.specs.Journal.{JournalEntry}
use Rattle.host_model.specs.DeskRules.{DeskRules}
use Rattle.call_history.specs.Calls.{calls_by, asks_of}
use Rattle.machine_model.specs.HallRule.{HallOperation, submit, take_job, apply, put, collect, close, HallAnswer, done, job, empty, is_closed, applied, no_memory}
use Rattle.machine_model.specs.OwnCalls.{HallCall, HallAsk}
use Rattle.machine_model.specs.Worker.{WorkerState, idle, holds, tried}
use Rattle.machine_model.specs.Merge.{WorkerTurn, worked, worked_by_call, found_none, stopped, AreTurns, op_with_answer}
use Rattle.machine_model.proofs.OwnOrder.{WorksTo}
use Rattle.hub_model.specs.HubState.{loop_of_conn, own_key}
use Rattle.hub_model.specs.HubRule.{HubOperation, submit_from, take_one, apply_one, put_one, collect_for, close_all, HubCall, HubAsk}
use Rattle.hub_model.specs.Seen.{calm, own_answer, seen_ask, seen_seat, asks_with, seen_asks, seen_calls}
use Rattle.hub_model.specs.Talk.{hub_pair, hub_asked, IsOfLoop, AsksAsLoop}
use Rattle.hub_model.proofs.AsksSeen.{zero_at, suc_at, front_other, by_seat, asks_seen}

module _ {C A : Type 0} (n l : ℕ) where
  abbrev pub seen_pair : HubOperation C × HallAnswer A → List (HallOperation C × HallAnswer A)
  seen_pair x = seen_ask n l x.0 x.1

  abbrev pub seen_pairs : List (HubOperation C × HallAnswer A) → List (HallOperation C × HallAnswer A)
  seen_pairs xs = flat_map seen_pair xs

module _ {C A : Type 0} (d : DeskRules C A) (n l : ℕ) where
  abbrev pub Any : WorkerState A → Type 0
  Any hand = Unit {0}

  abbrev Works : WorkerState A → List (HallOperation C × HallAnswer A) → Type 0
  Works hand asks = WorksTo d Any hand asks

  -- a turn and what follows
  pub turns_seen : (turns : List (WorkerTurn C A)) → AreTurns d turns → Works idle (seen_pairs n l (flat_map hub_asked turns))
  turns_seen [] t = tt
  turns_seen (worked key payload settled ∷ turns) t = go (loop_of_conn n key.c == l) (turns_seen turns t.1)
    where
      go : (b : Bool) → Works idle (seen_pairs n l (flat_map hub_asked turns))
          → Works idle ((if b then (take_job, job (own_key n key) payload) ∷ [] else []) ++ ((if b then (put (own_key n key) settled, done) ∷ [] else []) ++ seen_pairs n l (flat_map hub_asked turns)))
      go true rec = (holds (own_key n key) payload, (refl, refl), (idle, ((refl, t.0.1), refl), rec))
      go false rec = rec
  turns_seen (worked_by_call key payload call (applied a) settled ∷ turns) t = go (loop_of_conn n key.c == l) (turns_seen turns t.3)
    where
      go : (b : Bool) → Works idle (seen_pairs n l (flat_map hub_asked turns))
          → Works idle ((if b then (take_job, job (own_key n key) payload) ∷ [] else [])
          ++ ((if b then (apply (own_key n key) call, applied a) ∷ [] else []) ++ ((if b then (put (own_key n key) settled, done) ∷ [] else []) ++ seen_pairs n l (flat_map hub_asked turns))))
      go true rec =
          (holds (own_key n key) payload, (refl, refl), (tried (own_key n key) payload (applied a), (payload, refl, t.0, refl), (idle, ((refl, t.2.1), refl), rec)))
      go false rec = rec
  turns_seen (worked_by_call key payload call no_memory settled ∷ turns) t = go (loop_of_conn n key.c == l) (turns_seen turns t.3)
    where
      go : (b : Bool) → Works idle (seen_pairs n l (flat_map hub_asked turns))
          → Works idle ((if b then (take_job, job (own_key n key) payload) ∷ [] else [])
          ++ ((if b then (apply (own_key n key) call, no_memory) ∷ [] else []) ++ ((if b then (put (own_key n key) settled, done) ∷ [] else []) ++ seen_pairs n l (flat_map hub_asked turns))))
      go true rec =
          (holds (own_key n key) payload, (refl, refl), (tried (own_key n key) payload no_memory, (payload, refl, t.0, refl), (idle, ((refl, t.2.1), refl), rec)))
      go false rec = rec
  turns_seen (worked_by_call key payload call _ settled ∷ turns) t = absurd t.1
  turns_seen (found_none empty ∷ turns) t = turns_seen turns t.1
  turns_seen (found_none is_closed ∷ turns) t = turns_seen turns t.1
  turns_seen (found_none _ ∷ turns) t = absurd t.0
  turns_seen (stopped key payload call answer ∷ turns) t =
      subst (λ (ts : List (WorkerTurn C A)). Works idle (seen_pairs n l (flat_map hub_asked (stopped key payload call answer ∷ ts)))) (sym t.2) (go (loop_of_conn n key.c == l))
    where
      go : (b : Bool)
          → Works idle ((if b then (take_job, job (own_key n key) payload) ∷ [] else [])
          ++ ((if b then (apply (own_key n key) call, calm answer) ∷ [] else []) ++ ((close, done) ∷ [])))
      go true = (
        holds (own_key n key) payload,
        (refl, refl),
        (
          tried (own_key n key) payload (calm answer),
          (payload, refl, t.0, refl),
          (tried (own_key n key) payload (calm answer), refl, tt),
        ),
      )
      go false = (idle, refl, tt)

module _ {C A : Type 0} (n l : ℕ) where
  abbrev one : List (HallOperation C × HallAnswer A) → List (HallOperation C × HallAnswer A)
  one [] = []
  one (a ∷ asks) = a ∷ []

  one_if : (b : Bool) (a : HallOperation C × HallAnswer A) → one (if b then a ∷ [] else []) ≡ (if b then a ∷ [] else [])
  one_if true a = refl
  one_if false a = refl

  -- a call is seen as one at most
  short : (op : HubOperation C) (answer : HallAnswer A) → one (seen_ask n l op answer) ≡ seen_ask n l op answer
  short (submit_from m key payload) answer = one_if (m == l) (submit (own_key n key) payload, answer)
  short take_one (job key payload) = one_if (loop_of_conn n key.c == l) (take_job, job (own_key n key) payload)
  short take_one _ = refl
  short (apply_one key call) answer = one_if (loop_of_conn n key.c == l) (apply (own_key n key) call, calm answer)
  short (put_one key settled) answer = one_if (loop_of_conn n key.c == l) (put (own_key n key) settled, answer)
  short (collect_for m) answer = one_if (m == l) (collect, own_answer n answer)
  short close_all answer = refl

  pairs_with : (seat : ℕ) (asks : List (HallOperation C × HallAnswer A)) (rest : List (HallAsk C A)) → map op_with_answer (asks_with seat asks ++ rest) ≡ one asks ++ map op_with_answer rest
  pairs_with seat [] rest = refl
  pairs_with seat (a ∷ asks) rest = refl

  -- what is seen of asks, without their seat
  pub pairs_seen : (own : List (HubAsk C A)) → map op_with_answer (seen_asks n l own) ≡ seen_pairs n l (map hub_pair own)
  pairs_seen [] = refl
  pairs_seen (e ∷ own) =
      pairs_with (seen_seat l e.seat) (seen_ask n l e.op e.reply) (seen_asks n l own) ∙ (λ i. short e.op e.reply i ++ pairs_seen own i)

  -- no seat has the number behind this loop's
  none_by : (log : List (HubAsk C A)) → calls_by (suc l) (seen_asks n l log) ≡ []
  none_by [] = refl
  none_by (e ∷ log) = front_other (suc l) (seen_seat l e.seat) (seen_ask n l e.op e.reply) (seen_asks n l log) (apart (cases_eq e.seat l)) ∙ none_by log
    where
      apart : (e.seat ≡ l) ⊎ (e.seat ≡ l → ⊥) → seen_seat l e.seat ≡ suc l → ⊥
      apart (inl q) same = let both : 0 ≡ suc l = sym (zero_at l e.seat q) ∙ same in omega arith
      apart (inr m) same = let both : suc e.seat ≡ suc l = sym (suc_at l e.seat m) ∙ same in let q : e.seat ≡ l = omega arith in m q

-- what a seat asked of a hall, with the answers
abbrev pub pairs_of : {C A M : Type 0} → List (HallCall C A M) → ℕ → List (HallOperation C × HallAnswer A)
pairs_of log seat = map op_with_answer (calls_by seat (asks_of log))

module _ {C A M : Type 0} (n l : ℕ) (final : List (JournalEntry C A)) (log : List (HubCall C A M)) where
  -- what another seat asked, as it is seen
  pub seen_by_seat : (seat : ℕ) → seat ≢ l → pairs_of (seen_calls n l final log) (suc seat) ≡ seen_pairs n l (map hub_pair (calls_by seat (asks_of log)))
  seen_by_seat seat other =
      ap (λ (asks : List (HallAsk C A)). map op_with_answer (calls_by (suc seat) asks)) (asks_seen n l final log)
      ∙ ap (λ (s : ℕ). map op_with_answer (calls_by s (seen_asks n l (asks_of log)))) (sym (suc_at l seat other))
      ∙ ap (map op_with_answer) (by_seat n l seat (asks_of log)) ∙ pairs_seen n l (calls_by seat (asks_of log))

  pub none_seen : pairs_of (seen_calls n l final log) (suc l) ≡ []
  none_seen =
      ap (λ (asks : List (HallAsk C A)). map op_with_answer (calls_by (suc l) asks)) (asks_seen n l final log) ∙ ap (map op_with_answer) (none_by n l (asks_of log))

module _ {C A : Type 0} (d : DeskRules C A) (n l : ℕ) where
  -- of another loop no more is seen than that it closes the hub
  pub loop_seen : (m : ℕ) (own : List (HubAsk C A)) → m ≢ l → AsksAsLoop m own
      → WorksTo d (Any d n l) idle (seen_pairs n l (map hub_pair own))
  loop_seen m [] other a = tt
  loop_seen m (e ∷ own) other a = go e.op e.reply a.0 (loop_seen m own other a.1)
    where
      rest : List (HallOperation C × HallAnswer A)
      rest = seen_pairs n l (map hub_pair own)

      go : (op : HubOperation C) (answer : HallAnswer A) → IsOfLoop m op → WorksTo d (Any d n l) idle rest → WorksTo d (Any d n l) idle (seen_ask n l op answer ++ rest)
      go (submit_from k key payload) answer q rec =
          subst (λ (b : Bool). WorksTo d (Any d n l) idle ((if b then (submit (own_key n key) payload, answer) ∷ [] else []) ++ rest)) (sym (ne_eqb k l (λ s. other (sym q ∙ s)))) rec
      go take_one answer q rec = absurd q
      go (apply_one key call) answer q rec = absurd q
      go (put_one key settled) answer q rec = absurd q
      go (collect_for k) answer q rec =
          subst (λ (b : Bool). WorksTo d (Any d n l) idle ((if b then (collect, own_answer n answer) ∷ [] else []) ++ rest)) (sym (ne_eqb k l (λ s. other (sym q ∙ s)))) rec
      go close_all answer q rec = (idle, refl, rec)
