-- What holds of the world after any acts, and the headline of a world in which every connection has ended.
use Rattle.std.proofs.Common.{◌≡◌, ℕ, ◌^◌, ◌<◌, ◌≤◌, ◌⊎◌, None, Some, List, [], ◌∷◌, ◌++◌, length, slice_get, refl, sym, ap, ◌∙◌, subst, inl, inr, arith}
use Rattle.std.proofs.lemmas.Bool.{cases_eq}
use Rattle.std.proofs.lemmas.Option.{none-some, slice_get_past}
use Rattle.streams.specs.declared.marks.Mark.{Mark}
use Rattle.host_model.specs.declared.cause.EndCause.{EndCause}
use Rattle.host_model.specs.Marks.{marks_of, output}
use Rattle.host_model.specs.Journal.{JournalEntry, ServiceRules, Legal, after, entries_of, IsAnswered}
use Rattle.host_model.specs.DeskRules.{DeskRules, Invoke}
use Rattle.host_model.specs.Conversation.{but_last, Done, IsLast, Conversation}
use Rattle.host_model.specs.OrderBetween.{IsWhole}
use Rattle.host_model.specs.Headline.{Headline}
use Rattle.host_model.specs.World.{Stage, unopened, open_, pending, answered, over, over_pending, Endpoint, Move, marks_by, Moves, World, at_first, with_endpoint, Enters, Act, moves, enters, Acts, ReachedBy, HasEnded, StageSays, Moment}
use Rattle.host_model.proofs.Lists.{Always, always-append, always_nil, but_last-push}
use Rattle.host_model.proofs.Framing.{rest_nil}
use Rattle.host_model.proofs.Replies.{numbers_done}
use Rattle.host_model.proofs.Turning.{TurnSoFar, turn_of}
use Rattle.host_model.proofs.Talking.{Kept, KeptEndpoint, settled, numbers_kept}
use Rattle.host_model.proofs.Moving.{ends_broken_off, broken_off_waiting}
use Rattle.host_model.proofs.Endpoints.{endpoint_moved, endpoint_entered, settled_entering, done_entering}
use Rattle.host_model.proofs.Filters.{marks_append, marks_same, marks_other, endpoint_same, endpoint_other, entries_same, entries_other, of_entry, legal_push}
use Rattle.host_model.proofs.Ordering.{IsOrdered, in_order, ordered_all, ordered_push}

-- the journal is legal, each connection has kept its conversation, and calls stand in order
pub record SoFar {C A M : Type 0} (d : DeskRules C A) (r : ServiceRules C A M) (memories : List M) (world : World C A) : Type 0 where
  pub legal : Legal r memories world.journal
  pub each : (c : ℕ) → KeptEndpoint d c (marks_of c world.tape) (entries_of c world.journal) (world.endpoints c)
  pub order : Always (IsOrdered d world.journal) world.tape

module _ {C A M : Type 0} (d : DeskRules C A) (r : ServiceRules C A M) (memories : List M) where
  at_start : SoFar d r memories at_first
  at_start =
      record {
        legal = tt;
        each = λ c.
            record {
              frames = record { whole = refl; each = tt; no_more = rest_nil d.max };
              says = record { no_entries = refl; no_output = refl; no_payloads = refl; no_rest = refl };
              shape = refl;
              turns = always_nil (TurnSoFar d [] 0)
                  (record {
                    payloads = [];
                    rest = [];
                    frames = record { whole = refl; each = tt; no_more = rest_nil d.max };
                    state = inl (record {
                      settled = omega arith;
                      replying = record { before = ([], refl); within = ([], refl) };
                      first_sent = λ some. absurd (some refl);
                    });
                  });
            };
        order = always_nil (IsOrdered d [])
            (record {
              count = 0;
              within = omega arith;
              begun = λ x e at _. absurd (none-some e at);
              whole = λ y f at _. absurd (none-some f at);
            });
      }

  -- each entry's frame has been read whole
  whole_now : (old : World C A) → SoFar d r memories old → (y : ℕ) (f : JournalEntry C A) → slice_get old.journal y ≡ Some f → IsWhole d old.tape f
  whole_now old s y f at =
      let c : ℕ = f.key.c in
      let k : KeptEndpoint d c (marks_of c old.tape) (entries_of c old.journal) (old.endpoints c) = s.each c in
      record {
        payloads = (old.endpoints c).payloads;
        more = (old.endpoints c).held;
        bytes = k.frames.whole;
        each = k.frames.each;
        among =
            of_entry (λ (e : JournalEntry C A). e.key.i < length (old.endpoints c).payloads) old.journal y f at
            (numbers_kept d (entries_of c old.journal) (output (marks_of c old.tape)) (old.endpoints c).payloads (old.endpoints c).held (old.endpoints c).stage k.says);
      }

  after_move : (old : World C A) (c : ℕ) (move : Move) (endpoint : Endpoint) → Moves d (entries_of c old.journal) (old.endpoints c) move endpoint → SoFar d r memories old
      → SoFar d r memories (record { tape = old.tape ++ marks_by c move; journal = old.journal; endpoints = with_endpoint old.endpoints c endpoint })
  after_move old c move endpoint does s =
      record {
        legal = s.legal;
        each = λ x. go x (cases_eq x c);
        order =
            always-append (IsOrdered d old.journal) old.tape (marks_by c move) s.order
            (λ ts bs e. ordered_all d old.journal old.tape ts (whole_now old s));
      }
    where
      go : (x : ℕ) → (x ≡ c) ⊎ (x ≡ c → ⊥) → KeptEndpoint d x (marks_of x (old.tape ++ marks_by c move)) (entries_of x old.journal) (with_endpoint old.endpoints c endpoint x)
      go x (inl same) =
          subst (λ y. KeptEndpoint d y (marks_of y (old.tape ++ marks_by c move)) (entries_of y old.journal) (with_endpoint old.endpoints c endpoint y)) (sym same)
          (subst (λ m. KeptEndpoint d c m (entries_of c old.journal) (with_endpoint old.endpoints c endpoint c)) (sym (marks_same c old.tape move))
          (subst (KeptEndpoint d c (marks_of c old.tape ++ marks_by c move) (entries_of c old.journal)) (sym (endpoint_same old.endpoints c endpoint))
          (endpoint_moved d c (marks_of c old.tape) (entries_of c old.journal) move (old.endpoints c) endpoint does (s.each c))))
      go x (inr other) =
          subst (λ m. KeptEndpoint d x m (entries_of x old.journal) (with_endpoint old.endpoints c endpoint x)) (sym (marks_other c x old.tape move other))
          (subst (KeptEndpoint d x (marks_of x old.tape) (entries_of x old.journal)) (sym (endpoint_other old.endpoints c endpoint x other)) (s.each x))

  after_entry : (old : World C A) (e : JournalEntry C A) (before : List (List ℕ)) (p : List ℕ) (stage : Stage) → d.max < 2 ^ 31 → IsLast (old.endpoints e.key.c).payloads before p
      → Enters (old.endpoints e.key.c).stage stage → d.decide p ≡ Invoke e.call → e.key.i ≡ length before → IsAnswered r (after r memories old.journal) e
      → SoFar d r memories old
      → SoFar d r memories (record {
        tape = old.tape;
        journal = old.journal ++ e ∷ [];
        endpoints = with_endpoint old.endpoints e.key.c (record (old.endpoints e.key.c) { stage = stage });
      })
  after_entry old e before p stage small last enter is number is_answered s =
      let c : ℕ = e.key.c in
      let endpoint : Endpoint = old.endpoints c in
      let k : KeptEndpoint d c (marks_of c old.tape) (entries_of c old.journal) endpoint = s.each c in
      let n : settled endpoint.payloads endpoint.stage ≡ length (but_last endpoint.payloads) =
      settled_entering d c (marks_of c old.tape) (entries_of c old.journal) endpoint.payloads endpoint.stage stage enter in
      let b : length (but_last endpoint.payloads) ≡ length before = ap length (ap but_last last ∙ but_last-push before p) in
      let done : Done d (entries_of c old.journal) (but_last endpoint.payloads) =
      done_entering d c (marks_of c old.tape) (entries_of c old.journal) (output (marks_of c old.tape)) endpoint.payloads endpoint.held endpoint.stage stage enter k.says in
      record {
        legal = legal_push r memories old.journal e s.legal is_answered;
        each = λ x. go x (cases_eq x c);
        order = λ front back split.
            ordered_push d old.journal e front (settled endpoint.payloads endpoint.stage) small (omega arith)
            (k.turns (marks_of c front) (marks_of c back) (ap (marks_of c) split ∙ marks_append c front back))
            (numbers_done d e.key.i (entries_of c old.journal) (but_last endpoint.payloads) (omega arith) done)
            (s.order front back split);
      }
    where
      new : Endpoint
      new = record (old.endpoints e.key.c) { stage = stage }

      go : (x : ℕ) → (x ≡ e.key.c) ⊎ (x ≡ e.key.c → ⊥)
          → KeptEndpoint d x (marks_of x old.tape) (entries_of x (old.journal ++ e ∷ [])) (with_endpoint old.endpoints e.key.c (record (old.endpoints e.key.c) { stage = stage }) x)
      go x (inl same) =
          subst (λ y. KeptEndpoint d y (marks_of y old.tape) (entries_of y (old.journal ++ e ∷ [])) (with_endpoint old.endpoints e.key.c new y)) (sym same)
          (subst (λ es. KeptEndpoint d e.key.c (marks_of e.key.c old.tape) es (with_endpoint old.endpoints e.key.c new e.key.c))
          (sym (entries_same e.key.c old.journal e refl))
          (subst (KeptEndpoint d e.key.c (marks_of e.key.c old.tape) (entries_of e.key.c old.journal ++ e ∷ []))
          (sym (endpoint_same old.endpoints e.key.c new))
          (endpoint_entered d e.key.c (marks_of e.key.c old.tape) (entries_of e.key.c old.journal) e (old.endpoints e.key.c) before p stage last enter is number
          (s.each e.key.c))))
      go x (inr other) =
          subst (λ es. KeptEndpoint d x (marks_of x old.tape) es (with_endpoint old.endpoints e.key.c new x)) (sym (entries_other x old.journal e (λ q. other (sym q))))
          (subst (KeptEndpoint d x (marks_of x old.tape) (entries_of x old.journal)) (sym (endpoint_other old.endpoints e.key.c new x other)) (s.each x))

  pub so_far : (acts : List (Act C A)) (world : World C A) → d.max < 2 ^ 31 → ReachedBy d r memories acts world → SoFar d r memories world
  so_far [] world small reached = subst (SoFar d r memories) (sym reached) at_start
  so_far (moves c move ∷ acts) world small reached =
      subst (SoFar d r memories) (sym reached.2.2) (after_move reached.0 c move reached.2.0 reached.2.1 (so_far acts reached.0 small reached.1))
  so_far (enters e ∷ acts) world small reached =
      let t : Acts d r memories reached.0 (enters e) world = reached.2 in
      subst (SoFar d r memories) (sym t.8) (after_entry reached.0 e t.0 t.1 t.2 small t.3 t.4 t.5 t.6 t.7 (so_far acts reached.0 small reached.1))

module _ {C A : Type 0} (d : DeskRules C A) where
  -- a connection that has ended has had a whole conversation
  over_is : (c : ℕ) (own : List Mark) (es : List (JournalEntry C A)) (ps : List (List ℕ)) (held : List ℕ) (stage : Stage) (cause : EndCause)
      → HasEnded stage (Some cause) → Kept d c own es ps held stage → Conversation d c own es cause
  over_is c own es ps held unopened cause ended k = absurd ended
  over_is c own es ps held (open_ left) cause ended k = absurd ended
  over_is c own es ps held pending cause ended k = absurd ended
  over_is c own es ps held answered cause ended k = absurd ended
  over_is c own es ps held (over given) cause ended k =
      subst (Conversation d c own es) (sym ended)
      (record {
        talk = record { payloads = ps; rest = held; frames = k.frames; open_before = k.says.0; ended = k.says.1 };
        turns = λ front back split. turn_of d es (length ps) front (k.turns front back split);
        marks = k.shape;
      })
  over_is c own es ps held (over_pending given) cause ended k =
      subst (Conversation d c own es) (sym ended)
      (record {
        talk = record {
          payloads = ps;
          rest = held;
          frames = k.frames;
          open_before = k.says.1.on;
          ended = ends_broken_off d c own es ps held (output own) given k.says.0 (broken_off_waiting d c own es ps held k.says.1 (inr k.says.2));
        };
        turns = λ front back split. turn_of d es (length (but_last ps)) front (k.turns front back split);
        marks = k.shape;
      })

  -- a connection that was never opened has no marks and no entries
  never_opened : (c : ℕ) (own : List Mark) (es : List (JournalEntry C A)) (ps : List (List ℕ)) (held : List ℕ) (stage : Stage)
      → HasEnded stage None → Kept d c own es ps held stage → (own ≡ []) × (es ≡ [])
  never_opened c own es ps held unopened ended k = (k.shape, k.says.no_entries)
  never_opened c own es ps held (open_ left) ended k = absurd ended
  never_opened c own es ps held pending ended k = absurd ended
  never_opened c own es ps held answered ended k = absurd ended
  never_opened c own es ps held (over given) ended k = absurd ended
  never_opened c own es ps held (over_pending given) ended k = absurd ended

  pub meets : {M : Type 0} (r : ServiceRules C A M) (memories : List M) (acts : List (Act C A)) (world : World C A) (causes : List EndCause)
      → d.max < 2 ^ 31 → ReachedBy d r memories acts world → ((c : ℕ) → HasEnded (world.endpoints c).stage (slice_get causes c))
      → Headline d r memories world.tape world.journal causes
  meets {M} r memories acts world causes small reached ended =
      let s : SoFar d r memories world = so_far d r memories acts world small reached in
      record {
        legal = s.legal;
        order = in_order d world.tape world.journal s.order;
        each = λ c cause at.
            over_is c (marks_of c world.tape) (entries_of c world.journal) (world.endpoints c).payloads (world.endpoints c).held (world.endpoints c).stage cause
            (subst (HasEnded (world.endpoints c).stage) at (ended c)) (s.each c);
        no_marks = λ c l. (none s c l).0;
        no_entries = λ c l. (none s c l).1;
      }
    where
      none : SoFar d r memories world → (c : ℕ) → length causes ≤ c → (marks_of c world.tape ≡ []) × (entries_of c world.journal ≡ [])
      none s c l =
          never_opened c (marks_of c world.tape) (entries_of c world.journal) (world.endpoints c).payloads (world.endpoints c).held (world.endpoints c).stage
          (subst (HasEnded (world.endpoints c).stage) (slice_get_past causes c l) (ended c)) (s.each c)

  -- what a stage says of a connection that has kept its conversation
  stands_at : (c : ℕ) (own : List Mark) (es : List (JournalEntry C A)) (ps : List (List ℕ)) (held : List ℕ) (stage : Stage)
      → Kept d c own es ps held stage → StageSays d ps held es (output own) stage
  stands_at c own es ps held unopened k = (k.says.no_payloads, k.says.no_rest, k.says.no_entries, k.says.no_output)
  stands_at c own es ps held (open_ left) k = (k.says.on, k.says.size, k.says.done, k.says.sends)
  stands_at c own es ps held pending k = (k.says.0.on, k.says.0.none, k.says.1, k.says.0.written)
  stands_at c own es ps held answered k = (k.says.2, k.says.0.none, k.says.1, k.says.0.written)
  stands_at c own es ps held (over cause) k = k.says.1
  stands_at c own es ps held (over_pending cause) k =
      ends_broken_off d c own es ps held (output own) cause k.says.0 (broken_off_waiting d c own es ps held k.says.1 (inr k.says.2))

  pub stands : {M : Type 0} (r : ServiceRules C A M) (memories : List M) (acts : List (Act C A)) (world : World C A)
      → d.max < 2 ^ 31 → ReachedBy d r memories acts world → Moment d r memories world
  stands {M} r memories acts world small reached =
      let s : SoFar d r memories world = so_far d r memories acts world small reached in
      record {
        legal = s.legal;
        order = in_order d world.tape world.journal s.order;
        frames = λ c. (s.each c).frames;
        stands = λ c.
            stands_at c (marks_of c world.tape) (entries_of c world.journal) (world.endpoints c).payloads (world.endpoints c).held (world.endpoints c).stage (s.each c);
        turns = λ c front back split.
            turn_of d (entries_of c world.journal) (settled (world.endpoints c).payloads (world.endpoints c).stage) front ((s.each c).turns front back split);
      }
