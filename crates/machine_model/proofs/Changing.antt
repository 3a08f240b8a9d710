-- What a step changes belongs to one connection, and all others keep what they had.
use Rattle.std.proofs.Common.{◌≡◌, ℕ, ◌<◌, ◌≤◌, ◌⊎◌, false, ◌==◌, if◌then◌else◌, Some, List, [], sym, ◌∙◌, subst, inl, inr, arith}
use Rattle.std.proofs.lemmas.Bool.{cases_eq}
use Rattle.host_model.specs.declared.key.Key.{Key}
use Rattle.host_model.specs.Journal.{ServiceRules, after, entries_of}
use Rattle.host_model.specs.DeskRules.{DeskRules}
use Rattle.host_model.specs.World.{unopened_endpoint, World, Act, ReachedBy}
use Rattle.machine_model.specs.Worker.{key_held}
use Rattle.machine_model.specs.Machine.{Cell}
use Rattle.machine_model.specs.Places.{PayloadPlace, held_by, jobs_of, outcomes_of, PayloadIsAt}
use Rattle.machine_model.proofs.Lists.{put_same, put_other}
use Rattle.machine_model.proofs.Standing.{EndpointIs, Sim, at_same, endpoint_same}

module _ {C A M : Type 0} (d : DeskRules C A) (r : ServiceRules C A M) (opening : List M) where
  -- a step's change: connection c, whose place is this one then
  pub record Change (old new : Cell C A M) (s : Sim d r opening old) (c : ℕ) (place : PayloadPlace) : Type 0 where
    pub acts : List (Act C A)
    pub world : World C A
    pub reached : ReachedBy d r opening acts world
    pub tape : world.tape ≡ new.loop.tape
    pub journal : world.journal ≡ new.hall.journal
    pub memories : new.hall.broken ≡ false → new.hall.memories ≡ after r opening new.hall.journal
    pub inside : c < new.loop.count
    pub before : (x : ℕ) → (x ≡ c → ⊥) → x < new.loop.count → x < old.loop.count
    pub more : old.loop.count ≤ new.loop.count
    pub conns : (x : ℕ) → (x ≡ c → ⊥) → old.loop.conns x ≡ new.loop.conns x
    pub endpoints : (x : ℕ) → (x ≡ c → ⊥) → s.world.endpoints x ≡ world.endpoints x
    pub jobs : (x : ℕ) → (x ≡ c → ⊥) → jobs_of x old.hall.jobs ≡ jobs_of x new.hall.jobs
    pub outcomes : (x : ℕ) → (x ≡ c → ⊥) → outcomes_of x old.hall.outcomes ≡ outcomes_of x new.hall.outcomes
    pub entries : (x : ℕ) → (x ≡ c → ⊥) → entries_of x old.hall.journal ≡ entries_of x new.hall.journal
    pub others : (x w : ℕ) → (x ≡ c → ⊥) → x < old.loop.count → s.place x ≡ held_by w → old.workers w ≡ new.workers w
    pub at : PayloadIsAt d new.workers (jobs_of c new.hall.jobs) (outcomes_of c new.hall.outcomes) (entries_of c new.hall.journal) c (new.loop.conns c) place
    pub endpoint : EndpointIs d (entries_of c new.hall.journal) (new.loop.conns c) (world.endpoints c) place
    pub workers : (w : ℕ) (key : Key) → key_held (new.workers w) ≡ Some key
        → ((key.c ≡ c) × (place ≡ held_by w)) ⊎ ((key.c ≡ c → ⊥) × (key_held (old.workers w) ≡ Some key))

  -- the places with this one at c
  abbrev places : (ℕ → PayloadPlace) → ℕ → PayloadPlace → ℕ → PayloadPlace
  places old c place x = if x == c then place else old x

  pub changed_one : (old new : Cell C A M) (s : Sim d r opening old) (c : ℕ) (place : PayloadPlace) → Change old new s c place → Sim d r opening new
  changed_one old new s c place k =
      record {
        acts = k.acts;
        world = k.world;
        reached = k.reached;
        tape = k.tape;
        journal = k.journal;
        memories = k.memories;
        place = places s.place c place;
        at = λ x l. at x l (cases_eq x c);
        endpoint = λ x l. endpoint x l (cases_eq x c);
        workers = λ w key h. workers w key (k.workers w key h);
        nobody = λ x l.
            let n : x ≡ c → ⊥ = λ e. let f : c < new.loop.count = k.inside in let g : ⊥ = omega arith in g in
            let m : old.loop.count ≤ new.loop.count = k.more in
            let t : (jobs_of x old.hall.jobs ≡ []) × (outcomes_of x old.hall.outcomes ≡ []) × (s.world.endpoints x ≡ unopened_endpoint) = s.nobody x (omega arith) in
            (sym (k.jobs x n) ∙ t.0, sym (k.outcomes x n) ∙ t.1, sym (k.endpoints x n) ∙ t.2);
      }
    where
      at : (x : ℕ) → x < new.loop.count → (x ≡ c) ⊎ (x ≡ c → ⊥)
          → PayloadIsAt d new.workers (jobs_of x new.hall.jobs) (outcomes_of x new.hall.outcomes) (entries_of x new.hall.journal) x (new.loop.conns x) (places s.place c place x)
      at x l (inl e) =
          subst (λ y. PayloadIsAt d new.workers (jobs_of y new.hall.jobs) (outcomes_of y new.hall.outcomes) (entries_of y new.hall.journal) y (new.loop.conns y) (places s.place c place y)) (sym e)
          (subst (PayloadIsAt d new.workers (jobs_of c new.hall.jobs) (outcomes_of c new.hall.outcomes) (entries_of c new.hall.journal) c (new.loop.conns c)) (sym (put_same s.place c place)) k.at)
      at x l (inr n) =
          at_same d old.workers new.workers x (jobs_of x old.hall.jobs) (jobs_of x new.hall.jobs) (outcomes_of x old.hall.outcomes) (outcomes_of x new.hall.outcomes)
          (entries_of x old.hall.journal) (entries_of x new.hall.journal) (old.loop.conns x) (new.loop.conns x) (s.place x) (places s.place c place x)
          (k.jobs x n) (k.outcomes x n) (k.entries x n) (k.conns x n) (sym (put_other s.place c place x n)) (λ w e. k.others x w n (k.before x n l) e) (s.at x (k.before x n l))

      endpoint : (x : ℕ) → x < new.loop.count → (x ≡ c) ⊎ (x ≡ c → ⊥)
          → EndpointIs d (entries_of x new.hall.journal) (new.loop.conns x) (k.world.endpoints x) (places s.place c place x)
      endpoint x l (inl e) =
          subst (λ y. EndpointIs d (entries_of y new.hall.journal) (new.loop.conns y) (k.world.endpoints y) (places s.place c place y)) (sym e)
          (subst (EndpointIs d (entries_of c new.hall.journal) (new.loop.conns c) (k.world.endpoints c)) (sym (put_same s.place c place)) k.endpoint)
      endpoint x l (inr n) =
          endpoint_same d (entries_of x old.hall.journal) (entries_of x new.hall.journal) (old.loop.conns x) (new.loop.conns x) (s.world.endpoints x) (k.world.endpoints x) (s.place x)
          (places s.place c place x) (k.entries x n) (k.conns x n) (k.endpoints x n) (sym (put_other s.place c place x n)) (s.endpoint x (k.before x n l))

      workers : (w : ℕ) (key : Key) → ((key.c ≡ c) × (place ≡ held_by w)) ⊎ ((key.c ≡ c → ⊥) × (key_held (old.workers w) ≡ Some key))
          → (key.c < new.loop.count) × (places s.place c place key.c ≡ held_by w)
      workers w key (inl t) =
          (subst (λ x. x < new.loop.count) (sym t.0) k.inside, subst (λ x. places s.place c place x ≡ held_by w) (sym t.0) (put_same s.place c place ∙ t.1))
      workers w key (inr t) =
          let h : (key.c < old.loop.count) × (s.place key.c ≡ held_by w) = s.workers w key t.1 in
          let f : key.c < old.loop.count = h.0 in
          let m : old.loop.count ≤ new.loop.count = k.more in
          (omega arith, put_other s.place c place key.c t.0 ∙ h.1)
