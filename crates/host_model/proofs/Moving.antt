-- Each move of a connection keeps its conversation.
use Rattle.std.proofs.Common.{◌≡◌, ◌≢◌, ℕ, ◌≤◌, ◌⊎◌, ℤ, None, List, [], ◌∷◌, ◌++◌, length, refl, sym, ap, ◌∙◌, subst, inl, inr, arith, append_assoc, append-nil}
use Rattle.std.proofs.lemmas.List.{append_cancel_left}
use Rattle.streams.specs.declared.outcomes.EnvelopeFault.{EnvelopeFault}
use Rattle.streams.specs.declared.marks.Mark.{Mark}
use Rattle.streams.specs.declared.marks.Mark.TheVariants.{Opened, Read, Ended, Wrote, ReadFailed, WriteFailed, Closed}
use Rattle.host_model.specs.declared.cause.EndCause.{EndCause}
use Rattle.host_model.specs.declared.cause.EndCause.TheVariants.{End, Cut, SizeFault, Envelope, ReadFault, WriteFault, NoMemory, Stopped}
use Rattle.host_model.specs.Frames.{Frames, frame, size_bytes, IsPayload, IsRest, IsOutside, IsPartial, HasNoBadSize}
use Rattle.host_model.specs.Marks.{input, output, ending}
use Rattle.host_model.specs.Journal.{JournalEntry}
use Rattle.host_model.specs.DeskRules.{DeskRules, DeskDecision, Close, Silent, Reply, Invoke}
use Rattle.host_model.specs.Conversation.{but_last, sent, reply_for, answer_at, called_by, Done, IsPrefix, IsReplying, IsFinished, IsBrokenOff, KeepsConnection, AllKeepConnection, EndsBy}
use Rattle.host_model.specs.World.{Stage, unopened, open_, pending, answered, over, over_pending, NeedsNoCall, IsGivenUp, GivesUp, end_behind}
use Rattle.host_model.proofs.Lists.{Always, always-push, front_nil, but_last-push, length-but_last, all_push, all_but_last}
use Rattle.host_model.proofs.Framing.{frames_read, frames_whole, size_nil, rest_size}
use Rattle.host_model.proofs.Replies.{sent-push, sent_but_last, done_uncalled, reply_uncalled, called_by-uncalled}
use Rattle.host_model.proofs.Turning.{TurnSoFar}
use Rattle.host_model.proofs.Talking.{Kept, IsOpen, IsWaiting, kept_ending, running_push, input_push, output_push, turns_quiet, turns_later}

goes_on : {C : Type 0} (decision : DeskDecision C) → NeedsNoCall decision → KeepsConnection decision
goes_on (Close fault) n = absurd n
goes_on Silent n = tt
goes_on (Reply reply) n = tt
goes_on (Invoke call) n = absurd n

same_length : {X : Type 0} (xs : List X) → length xs ≤ length xs
same_length xs = omega arith

module _ {C A : Type 0} (d : DeskRules C A) (c : ℕ) (own : List Mark) (es : List (JournalEntry C A)) where
  pub kept_opens : Kept d c own es [] [] unopened → Kept d c (own ++ Opened c ∷ []) es [] [] (open_ [])
  kept_opens k =
      let i : input (own ++ Opened c ∷ []) ≡ input own = input_push own (Opened c) ∙ append-nil (input own) in
      let o : output (own ++ Opened c ∷ []) ≡ [] = output_push own (Opened c) ∙ append-nil (output own) ∙ k.says.no_output in
      record {
        frames = subst (λ r. Frames d.max r [] []) (sym i) k.frames;
        says = record {
          on = tt;
          done = subst (λ r. Done d r []) (sym k.says.no_entries) refl;
          size = size_nil d.max;
          sends = sym (append-nil (output (own ++ Opened c ∷ [])) ∙ o);
          most = (output (own ++ Opened c ∷ []), refl);
          none = λ _. refl;
        };
        shape = record { transfers = []; shape = ap (λ r. r ++ Opened c ∷ []) k.shape; only = tt };
        turns = turns_quiet d es 0 own (Opened c ∷ []) refl refl k.turns;
      }

  -- a turn of a connection that has nothing left to write
  turn_calm : (b : List ℕ) (ps : List (List ℕ)) (held : List ℕ) → IsOpen d es (output own) ps held [] → (rest : List ℕ)
      → Frames d.max (input (own ++ Read c b ∷ [])) ps rest → TurnSoFar d es (length ps) (own ++ Read c b ∷ [])
  turn_calm b ps held o rest frames =
      let out : output (own ++ Read c b ∷ []) ≡ output own = output_push own (Read c b) ∙ append-nil (output own) in
      let all : output own ≡ sent d es 0 ps = sym (o.sends ∙ append-nil (output own)) in
      record {
        payloads = ps;
        rest = rest;
        frames = frames;
        state = inl (record {
          settled = same_length ps;
          replying = record {
            before = subst (λ r. IsPrefix (sent d es 0 (but_last ps)) r) (sym out) o.most;
            within = ([], sym (append-nil (output (own ++ Read c b ∷ [])) ∙ out ∙ all));
          };
          first_sent = λ _. out ∙ all;
        });
      }

  pub kept_reads : (b : List ℕ) (ps : List (List ℕ)) (held : List ℕ) → IsPartial d.max (held ++ b) → Kept d c own es ps held (open_ [])
      → Kept d c (own ++ Read c b ∷ []) es ps (held ++ b) (open_ [])
  kept_reads b ps held part k =
      let out : output (own ++ Read c b ∷ []) ≡ output own = output_push own (Read c b) ∙ append-nil (output own) in
      let f : Frames d.max (input (own ++ Read c b ∷ [])) ps (held ++ b) =
      subst (λ r. Frames d.max r ps (held ++ b)) (sym (input_push own (Read c b))) (frames_read d.max (input own) b ps held k.frames part.rest) in
      record {
        frames = f;
        says = record {
          on = k.says.on;
          done = k.says.done;
          size = part.size;
          sends = k.says.sends ∙ ap (λ r. r ++ []) (sym out);
          most = subst (λ r. IsPrefix (sent d es 0 (but_last ps)) r) (sym out) k.says.most;
          none = λ n. absurd (n refl);
        };
        shape = running_push c own (Read c b) tt k.shape;
        turns = always-push (TurnSoFar d es (length ps)) own (Read c b) k.turns (turn_calm b ps held k.says (held ++ b) f);
      }

  pub kept_reads_frame : (b p : List ℕ) (ps : List (List ℕ)) (held : List ℕ) → IsPayload d.max p → held ++ b ≡ frame p → Kept d c own es ps held (open_ [])
      → Kept d c (own ++ Read c b ∷ []) es (ps ++ p ∷ []) [] pending
  kept_reads_frame b p ps held payload whole k =
      let out : output (own ++ Read c b ∷ []) ≡ output own = output_push own (Read c b) ∙ append-nil (output own) in
      let all : output own ≡ sent d es 0 ps = sym (k.says.sends ∙ append-nil (output own)) in
      let last : ps ≡ but_last (ps ++ p ∷ []) = sym (but_last-push ps p) in
      let f : Frames d.max (input (own ++ Read c b ∷ [])) (ps ++ p ∷ []) [] =
      subst (λ r. Frames d.max r (ps ++ p ∷ []) []) (sym (input_push own (Read c b))) (frames_whole d.max (input own) b ps held p k.frames payload whole) in
      record {
        frames = f;
        says = (
          record { on = subst (AllKeepConnection d) last k.says.on; none = refl; written = out ∙ all ∙ ap (sent d es 0) last },
          subst (Done d es) last k.says.done,
        );
        shape = running_push c own (Read c b) tt k.shape;
        turns =
            subst (λ r. Always (TurnSoFar d es (length r)) (own ++ Read c b ∷ [])) last
            (always-push (TurnSoFar d es (length ps)) own (Read c b) k.turns
            (record {
              payloads = ps ++ p ∷ [];
              rest = [];
              frames = f;
              state = inr (record { before = ps; p = p; last = refl; settled = same_length ps; none = refl; written = out ∙ all });
            }));
      }

  pub kept_reads_bad_size : (b : List ℕ) (z : ℤ) (ps : List (List ℕ)) (held : List ℕ) → IsOutside d.max z → held ++ b ≡ size_bytes z → Kept d c own es ps held (open_ [])
      → Kept d c (own ++ Read c b ∷ Closed c ∷ []) es ps (held ++ b) (over (SizeFault z))
  kept_reads_bad_size b z ps held outside size k =
      let out : output (own ++ Read c b ∷ []) ≡ output own = output_push own (Read c b) ∙ append-nil (output own) in
      let f : Frames d.max (input (own ++ Read c b ∷ [])) ps (held ++ b) =
      subst (λ r. Frames d.max r ps (held ++ b)) (sym (input_push own (Read c b)))
      (frames_read d.max (input own) b ps held k.frames (subst (IsRest d.max) (sym size) (rest_size d.max z))) in
      subst (λ r. Kept d c r es ps (held ++ b) (over (SizeFault z))) (append_assoc own (Read c b ∷ []) (Closed c ∷ []))
      (kept_ending d c (own ++ Read c b ∷ []) es ps (held ++ b) (length ps) (SizeFault z) (over (SizeFault z)) f (running_push c own (Read c b) tt k.shape)
      (always-push (TurnSoFar d es (length ps)) own (Read c b) k.turns (turn_calm b ps held k.says (held ++ b) f))
      (same_length ps)
      (all_but_last (λ p. KeepsConnection (d.decide p)) ps k.says.on, (k.says.on, size, outside, record { done = k.says.done; written = out ∙ sym (k.says.sends ∙ append-nil (output own)) }))
      (λ m. m))

  -- everything is written where nothing is left
  finished : (ps : List (List ℕ)) (held : List ℕ) → IsOpen d es (output own) ps held [] → IsFinished d es ps (output own)
  finished ps held o = record { done = o.done; written = sym (o.sends ∙ append-nil (output own)) }

  -- an open connection ends by a cause where what the cause says holds
  open_ends : (ps : List (List ℕ)) (held left : List ℕ) (cause : EndCause) → EndsBy d ps held es (output own) cause → Kept d c own es ps held (open_ left)
      → Kept d c (own ++ ending c cause) es ps held (over cause)
  open_ends ps held left cause says k =
      kept_ending d c own es ps held (length ps) cause (over cause) k.frames k.shape k.turns (same_length ps)
      (all_but_last (λ p. KeepsConnection (d.decide p)) ps k.says.on, says) (λ m. m)

  pub kept_ends : (ps : List (List ℕ)) (held : List ℕ) → Kept d c own es ps held (open_ []) → Kept d c (own ++ Ended c ∷ Closed c ∷ []) es ps held (over (end_behind held))
  kept_ends ps [] k = open_ends ps [] [] End (k.says.on, refl, finished ps [] k.says) k
  kept_ends ps (b ∷ bs) k = open_ends ps (b ∷ bs) [] Cut (k.says.on, (λ e. cc), k.says.size, finished ps (b ∷ bs) k.says) k

  pub kept_fails_read : (ps : List (List ℕ)) (held : List ℕ) → Kept d c own es ps held (open_ []) → Kept d c (own ++ ReadFailed c ∷ Closed c ∷ []) es ps held (over ReadFault)
  kept_fails_read ps held k = open_ends ps held [] ReadFault (k.says.on, k.says.size, finished ps held k.says) k

  replying_open : (ps : List (List ℕ)) (held left : List ℕ) → IsOpen d es (output own) ps held left → IsReplying d es ps (output own)
  replying_open ps held left o = record { before = o.most; within = (left, o.sends) }

  pub kept_fails_write : (ps : List (List ℕ)) (held left : List ℕ) → left ≢ [] → Kept d c own es ps held (open_ left)
      → Kept d c (own ++ WriteFailed c ∷ Closed c ∷ []) es ps held (over WriteFault)
  kept_fails_write ps held left some k =
      open_ends ps held left WriteFault (
        k.says.on,
        k.says.none some,
        k.says.done,
        replying_open ps held left k.says,
        (λ e. some (sym (append_cancel_left (output own) [] left (append-nil (output own) ∙ e ∙ k.says.sends)))),
      )
      k

  pub kept_writes : (b left : List ℕ) (ps : List (List ℕ)) (held : List ℕ) → b ≢ [] → Kept d c own es ps held (open_ (b ++ left))
      → Kept d c (own ++ Wrote c b ∷ []) es ps held (open_ left)
  kept_writes b left ps held some k =
      let i : input (own ++ Wrote c b ∷ []) ≡ input own = input_push own (Wrote c b) ∙ append-nil (input own) in
      let out : output (own ++ Wrote c b ∷ []) ≡ output own ++ b = output_push own (Wrote c b) in
      let none : held ≡ [] = k.says.none (λ e. some (front_nil b left e)) in
      let f : Frames d.max (input (own ++ Wrote c b ∷ [])) ps held = subst (λ r. Frames d.max r ps held) (sym i) k.frames in
      let sends : sent d es 0 ps ≡ output (own ++ Wrote c b ∷ []) ++ left =
      k.says.sends ∙ sym (append_assoc (output own) b left) ∙ ap (λ r. r ++ left) (sym out) in
      let most : IsPrefix (sent d es 0 (but_last ps)) (output (own ++ Wrote c b ∷ [])) =
      (k.says.most.0 ++ b, out ∙ ap (λ r. r ++ b) k.says.most.1 ∙ append_assoc (sent d es 0 (but_last ps)) k.says.most.0 b) in
      record {
        frames = f;
        says = record { on = k.says.on; done = k.says.done; size = k.says.size; sends = sends; most = most; none = λ _. none };
        shape = running_push c own (Wrote c b) tt k.shape;
        turns =
            always-push (TurnSoFar d es (length ps)) own (Wrote c b) k.turns
            (record {
              payloads = ps;
              rest = held;
              frames = f;
              state = inl (record {
                settled = same_length ps;
                replying = record { before = most; within = (left, sends) };
                first_sent = λ n. absurd (n none);
              });
            });
      }

  -- the last payload has had its say
  settled_open : (ps : List (List ℕ)) (p held left : List ℕ) → IsWaiting d es (output own) (ps ++ p ∷ []) held → AllKeepConnection d (ps ++ p ∷ []) → Done d es (ps ++ p ∷ [])
      → left ≡ reply_for d p (d.decide p) (answer_at es (length ps)) → IsOpen d es (output own) (ps ++ p ∷ []) held left
  settled_open ps p held left w on done e =
      record {
        on = on;
        done = done;
        size = subst (HasNoBadSize d.max) (sym w.none) (size_nil d.max);
        sends = sent-push d es ps p ∙ (λ i. (ap (sent d es 0) (sym (but_last-push ps p)) ∙ sym w.written) i ++ sym e i);
        most = ([], w.written ∙ sym (append-nil (sent d es 0 (but_last (ps ++ p ∷ [])))));
        none = λ _. w.none;
      }

  pub kept_settles : (ps : List (List ℕ)) (p held : List ℕ) → NeedsNoCall (d.decide p) → Kept d c own es (ps ++ p ∷ []) held pending
      → Kept d c own es (ps ++ p ∷ []) held (open_ (reply_for d p (d.decide p) None))
  kept_settles ps p held needs k =
      let e : but_last (ps ++ p ∷ []) ≡ ps = but_last-push ps p in
      record {
        frames = k.frames;
        says =
            settled_open ps p held (reply_for d p (d.decide p) None) k.says.0
            (all_push (λ q. KeepsConnection (d.decide q)) ps p (subst (AllKeepConnection d) e k.says.0.on) (goes_on (d.decide p) needs))
            (done_uncalled d es ps p (called_by-uncalled d (length ps) (d.decide p) needs) (subst (Done d es) e k.says.1))
            (reply_uncalled d p (d.decide p) (answer_at es (length ps)) needs);
        shape = k.shape;
        turns = turns_later d es (length (but_last (ps ++ p ∷ []))) (length (ps ++ p ∷ [])) own (length-but_last (ps ++ p ∷ [])) k.turns;
      }

  pub kept_replies : (ps : List (List ℕ)) (p held : List ℕ) → Kept d c own es (ps ++ p ∷ []) held answered
      → Kept d c own es (ps ++ p ∷ []) held (open_ (reply_for d p (d.decide p) (answer_at es (length ps))))
  kept_replies ps p held k =
      record {
        frames = k.frames;
        says = settled_open ps p held (reply_for d p (d.decide p) (answer_at es (length ps))) k.says.0 k.says.2 k.says.1 refl;
        shape = k.shape;
        turns = k.turns;
      }

  pub kept_closes : (ps : List (List ℕ)) (p held : List ℕ) (fault : EnvelopeFault) → d.decide p ≡ Close fault → Kept d c own es (ps ++ p ∷ []) held pending
      → Kept d c (own ++ Closed c ∷ []) es (ps ++ p ∷ []) held (over (Envelope fault))
  kept_closes ps p held fault is k =
      let e : but_last (ps ++ p ∷ []) ≡ ps = but_last-push ps p in
      kept_ending d c own es (ps ++ p ∷ []) held (length (but_last (ps ++ p ∷ []))) (Envelope fault) (over (Envelope fault)) k.frames k.shape k.turns
      (length-but_last (ps ++ p ∷ [])) (
        k.says.0.on,
        (
          (ps, p, refl, is),
          k.says.0.none,
          record {
            done = done_uncalled d es ps p (ap (called_by (length ps)) is) (subst (Done d es) e k.says.1);
            written =
                k.says.0.written ∙ ap (sent d es 0) e ∙ sym (append-nil (sent d es 0 ps))
                ∙ ap (λ r. sent d es 0 ps ++ reply_for d p r (answer_at es (length ps))) (sym is)
                ∙ sym (sent-push d es ps p);
          },
        ),
      )
      (λ m. m)

  pub ends_broken_off : (ps : List (List ℕ)) (held out : List ℕ) (cause : EndCause) → IsGivenUp cause → IsBrokenOff d ps held es out → EndsBy d ps held es out cause
  ends_broken_off ps held out NoMemory g left = left
  ends_broken_off ps held out Stopped g left = left
  ends_broken_off ps held out End g left = absurd g
  ends_broken_off ps held out Cut g left = absurd g
  ends_broken_off ps held out (SizeFault z) g left = absurd g
  ends_broken_off ps held out (Envelope fault) g left = absurd g
  ends_broken_off ps held out ReadFault g left = absurd g
  ends_broken_off ps held out WriteFault g left = absurd g

  ending_given_up : (cause : EndCause) → IsGivenUp cause → ending c cause ≡ Closed c ∷ []
  ending_given_up NoMemory g = refl
  ending_given_up Stopped g = refl
  ending_given_up End g = absurd g
  ending_given_up Cut g = absurd g
  ending_given_up (SizeFault z) g = absurd g
  ending_given_up (Envelope fault) g = absurd g
  ending_given_up ReadFault g = absurd g
  ending_given_up WriteFault g = absurd g

  -- a connection whose last payload has had no say is left with its entries
  pub broken_off_waiting : (ps : List (List ℕ)) (held : List ℕ) → IsWaiting d es (output own) ps held → Done d es ps ⊎ Done d es (but_last ps) → IsBrokenOff d ps held es (output own)
  broken_off_waiting ps held w done =
      let t : IsPrefix (sent d es 0 (but_last ps)) (sent d es 0 ps) = sent_but_last d es ps in
      record {
        done = done;
        replying = record {
          before = ([], w.written ∙ sym (append-nil (sent d es 0 (but_last ps))));
          within = (t.0, t.1 ∙ ap (λ r. r ++ t.0) (sym w.written));
        };
        behind = λ some. absurd (some w.none);
      }

  -- an open connection holds bytes only where everything is written
  broken_off_open : (ps : List (List ℕ)) (held left : List ℕ) → IsOpen d es (output own) ps held left → IsBrokenOff d ps held es (output own)
  broken_off_open ps held left o = record { done = inl o.done; replying = replying_open ps held left o; behind = go left o }
    where
      go : (left : List ℕ) → IsOpen d es (output own) ps held left → held ≢ [] → AllKeepConnection d ps × HasNoBadSize d.max held × IsFinished d es ps (output own)
      go [] o some = (o.on, o.size, finished ps held o)
      go (b ∷ bs) o some = absurd (some (o.none (λ e. cc)))

  pub kept_gives_up : (ps : List (List ℕ)) (held : List ℕ) (cause : EndCause) (stage new : Stage) → IsGivenUp cause → GivesUp stage cause new
      → Kept d c own es ps held stage → Kept d c (own ++ Closed c ∷ []) es ps held new
  kept_gives_up ps held cause stage new given gives k =
      subst (λ r. Kept d c (own ++ r) es ps held new) (ending_given_up cause given) (go stage gives k)
    where
      go : (stage : Stage) → GivesUp stage cause new → Kept d c own es ps held stage → Kept d c (own ++ ending c cause) es ps held new
      go unopened gives k = absurd gives
      go (open_ left) gives k =
          subst (λ r. Kept d c (own ++ ending c cause) es ps held r) (sym gives)
          (open_ends ps held left cause (ends_broken_off ps held (output own) cause given (broken_off_open ps held left k.says)) k)
      go pending gives k =
          subst (λ r. Kept d c (own ++ ending c cause) es ps held r) (sym gives)
          (kept_ending d c own es ps held (length (but_last ps)) cause (over_pending cause) k.frames k.shape k.turns (same_length (but_last ps))
          (given, k.says.0, k.says.1) (λ m. m))
      go answered gives k =
          subst (λ r. Kept d c (own ++ ending c cause) es ps held r) (sym gives)
          (kept_ending d c own es ps held (length ps) cause (over cause) k.frames k.shape k.turns (same_length ps)
          (k.says.0.on, ends_broken_off ps held (output own) cause given (broken_off_waiting ps held k.says.0 (inl k.says.1))) (λ m. m))
      go (over other) gives k = absurd gives
      go (over_pending other) gives k = absurd gives
