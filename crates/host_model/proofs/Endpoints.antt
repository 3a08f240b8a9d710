-- An endpoint keeps its conversation when it moves, and when the call of its pending payload is entered.
use Rattle.std.proofs.Common.{◌≡◌, ℕ, ◌+◌, ◌≤◌, None, List, [], ◌∷◌, ◌++◌, length, refl, sym, ap, ◌∙◌, subst, inl, arith, append-nil, length-append}
use Rattle.streams.specs.declared.marks.Mark.{Mark}
use Rattle.host_model.specs.declared.cause.EndCause.TheVariants.{Envelope}
use Rattle.host_model.specs.Marks.{output}
use Rattle.host_model.specs.Journal.{JournalEntry}
use Rattle.host_model.specs.DeskRules.{DeskRules, Invoke}
use Rattle.host_model.specs.Conversation.{but_last, reply_for, answer_at, Done, KeepsConnection, AllKeepConnection}
use Rattle.host_model.specs.World.{Stage, unopened, open_, pending, answered, over, over_pending, Endpoint, Move, opens, reads, reads_frame, reads_bad_size, ends, fails_read, settles, replies, closes, writes, fails_write, gives_up, marks_by, Moves, Enters}
use Rattle.host_model.proofs.Lists.{but_last-push, all_push}
use Rattle.host_model.proofs.Replies.{sent_kept, done_called}
use Rattle.host_model.proofs.Turning.{turn_later, turn_entered}
use Rattle.host_model.proofs.Talking.{Kept, KeptEndpoint, Says, IsWaiting, Shape, settled}
use Rattle.host_model.proofs.Moving.{kept_opens, kept_reads, kept_reads_frame, kept_reads_bad_size, kept_ends, kept_fails_read, kept_settles, kept_replies, kept_closes, kept_writes, kept_fails_write, kept_gives_up, ends_broken_off, broken_off_waiting}

module _ {C A : Type 0} (d : DeskRules C A) (c : ℕ) (own : List Mark) (es : List (JournalEntry C A)) where
  -- a payload that is entered was the first without its say
  pub settled_entering : (ps : List (List ℕ)) (stage new : Stage) → Enters stage new → settled ps stage ≡ length (but_last ps)
  settled_entering ps unopened new e = absurd e
  settled_entering ps (open_ left) new e = absurd e
  settled_entering ps pending new e = refl
  settled_entering ps answered new e = absurd e
  settled_entering ps (over cause) new e = absurd e
  settled_entering ps (over_pending cause) new e = refl

  pub done_entering : (out : List ℕ) (ps : List (List ℕ)) (held : List ℕ) (stage new : Stage) → Enters stage new → Says d es out ps held stage → Done d es (but_last ps)
  done_entering out ps held unopened new e s = absurd e
  done_entering out ps held (open_ left) new e s = absurd e
  done_entering out ps held pending new e s = s.1
  done_entering out ps held answered new e s = absurd e
  done_entering out ps held (over cause) new e s = absurd e
  done_entering out ps held (over_pending cause) new e s = s.2

  waiting_entered : (e : JournalEntry C A) (out : List ℕ) (ps : List (List ℕ)) (held : List ℕ) → length (but_last ps) ≤ e.key.i → IsWaiting d es out ps held
      → IsWaiting d (es ++ e ∷ []) out ps held
  waiting_entered e out ps held l w = record { on = w.on; none = w.none; written = w.written ∙ sym (sent_kept d es e (but_last ps) l) }

  says_entered : (e : JournalEntry C A) (ps : List (List ℕ)) (p held : List ℕ) (stage new : Stage) → Enters stage new → d.decide p ≡ Invoke e.call → e.key.i ≡ length ps
      → Says d es (output own) (ps ++ p ∷ []) held stage → Says d (es ++ e ∷ []) (output own) (ps ++ p ∷ []) held new
  says_entered e ps p held unopened new enters is number s = absurd enters
  says_entered e ps p held (open_ left) new enters is number s = absurd enters
  says_entered e ps p held answered new enters is number s = absurd enters
  says_entered e ps p held (over cause) new enters is number s = absurd enters
  says_entered e ps p held pending new enters is number s =
      let b : but_last (ps ++ p ∷ []) ≡ ps = but_last-push ps p in
      let l : length (but_last (ps ++ p ∷ [])) ≡ length ps = ap length b in
      subst (Says d (es ++ e ∷ []) (output own) (ps ++ p ∷ []) held) (sym enters) (
        waiting_entered e (output own) (ps ++ p ∷ []) held (omega arith) s.0,
        done_called d es e ps p is number (subst (Done d es) b s.1),
        all_push (λ q. KeepsConnection (d.decide q)) ps p (subst (AllKeepConnection d) b s.0.on) (subst KeepsConnection (sym is) tt),
      )
  says_entered e ps p held (over_pending cause) new enters is number s =
      let b : but_last (ps ++ p ∷ []) ≡ ps = but_last-push ps p in
      let l : length (but_last (ps ++ p ∷ [])) ≡ length ps = ap length b in
      subst (Says d (es ++ e ∷ []) (output own) (ps ++ p ∷ []) held) (sym enters) (
        s.1.on,
        ends_broken_off d c own (es ++ e ∷ []) (ps ++ p ∷ []) held (output own) cause s.0
            (broken_off_waiting d c own (es ++ e ∷ []) (ps ++ p ∷ []) held (waiting_entered e (output own) (ps ++ p ∷ []) held (omega arith) s.1)
            (inl (done_called d es e ps p is number (subst (Done d es) b s.2)))),
      )

  shape_entered : (stage new : Stage) → Enters stage new → Shape c own stage → Shape c own new
  shape_entered unopened new enters s = absurd enters
  shape_entered (open_ left) new enters s = absurd enters
  shape_entered pending new enters s = subst (Shape c own) (sym enters) s
  shape_entered answered new enters s = absurd enters
  shape_entered (over cause) new enters s = absurd enters
  shape_entered (over_pending cause) new enters s = subst (Shape c own) (sym enters) s

  settled_more : (ps : List (List ℕ)) (stage new : Stage) → Enters stage new → settled ps new ≡ length ps
  settled_more ps unopened new enters = absurd enters
  settled_more ps (open_ left) new enters = absurd enters
  settled_more ps pending new enters = ap (settled ps) enters
  settled_more ps answered new enters = absurd enters
  settled_more ps (over cause) new enters = absurd enters
  settled_more ps (over_pending cause) new enters = ap (settled ps) enters

  kept_entered : (e : JournalEntry C A) (ps : List (List ℕ)) (p held : List ℕ) (stage new : Stage) → Enters stage new → d.decide p ≡ Invoke e.call → e.key.i ≡ length ps
      → Kept d c own es (ps ++ p ∷ []) held stage → Kept d c own (es ++ e ∷ []) (ps ++ p ∷ []) held new
  kept_entered e ps p held stage new enters is number k =
      let b : length (but_last (ps ++ p ∷ [])) ≡ length ps = ap length (but_last-push ps p) in
      let n : settled (ps ++ p ∷ []) stage ≡ length (but_last (ps ++ p ∷ [])) = settled_entering (ps ++ p ∷ []) stage new enters in
      let m : settled (ps ++ p ∷ []) new ≡ length (ps ++ p ∷ []) = settled_more (ps ++ p ∷ []) stage new enters in
      let more : length (ps ++ p ∷ []) ≡ length ps + 1 = length-append ps (p ∷ []) in
      record {
        frames = k.frames;
        says = says_entered e ps p held stage new enters is number k.says;
        shape = shape_entered stage new enters k.shape;
        turns = λ front back split.
            turn_later d (es ++ e ∷ []) (settled (ps ++ p ∷ []) stage) (settled (ps ++ p ∷ []) new) front (omega arith)
            (turn_entered d es e (settled (ps ++ p ∷ []) stage) front (omega arith) (k.turns front back split));
      }

  pub endpoint_entered : (e : JournalEntry C A) (endpoint : Endpoint) (before : List (List ℕ)) (p : List ℕ) (new : Stage) → endpoint.payloads ≡ before ++ p ∷ [] → Enters endpoint.stage new
      → d.decide p ≡ Invoke e.call → e.key.i ≡ length before → KeptEndpoint d c own es endpoint → KeptEndpoint d c own (es ++ e ∷ []) (record endpoint { stage = new })
  endpoint_entered e endpoint before p new last enters is number k =
      subst (λ r. Kept d c own (es ++ e ∷ []) r endpoint.held new) (sym last)
      (kept_entered e before p endpoint.held endpoint.stage new enters is number (subst (λ r. Kept d c own es r endpoint.held endpoint.stage) last k))

  -- what an endpoint keeps at its stage and payloads
  at : (old : Endpoint) (stage : Stage) → old.stage ≡ stage → KeptEndpoint d c own es old → Kept d c own es old.payloads old.held stage
  at old stage e k = subst (Kept d c own es old.payloads old.held) e k

  at_last : (old : Endpoint) (stage : Stage) (before : List (List ℕ)) (p : List ℕ) → old.payloads ≡ before ++ p ∷ [] → old.stage ≡ stage → KeptEndpoint d c own es old
      → Kept d c own es (before ++ p ∷ []) old.held stage
  at_last old stage before p last e k = subst (λ r. Kept d c own es r old.held stage) last (at old stage e k)

  -- back from the payloads before the last one and the last one
  at_payloads : (marks : List Mark) (ps qs : List (List ℕ)) (held : List ℕ) (stage : Stage) → ps ≡ qs → Kept d c marks es qs held stage → Kept d c marks es ps held stage
  at_payloads marks ps qs held stage e k = subst (λ r. Kept d c marks es r held stage) (sym e) k

  no_marks : (ps : List (List ℕ)) (held : List ℕ) (stage : Stage) → Kept d c own es ps held stage → Kept d c (own ++ []) es ps held stage
  no_marks ps held stage k = subst (λ r. Kept d c r es ps held stage) (sym (append-nil own)) k

  pub endpoint_moved : (move : Move) (old new : Endpoint) → Moves d es old move new → KeptEndpoint d c own es old → KeptEndpoint d c (own ++ marks_by c move) es new
  endpoint_moved opens old new t k =
      subst (KeptEndpoint d c (own ++ marks_by c opens) es) (sym t.1) (kept_opens d c own es (subst (KeptEndpoint d c own es) t.0 k))
  endpoint_moved (reads bytes) old new t k =
      subst (KeptEndpoint d c (own ++ marks_by c (reads bytes)) es) (sym t.3)
      (subst (Kept d c (own ++ marks_by c (reads bytes)) es old.payloads (old.held ++ bytes)) (sym t.0) (kept_reads d c own es bytes old.payloads old.held t.2 (at old (open_ []) t.0 k)))
  endpoint_moved (reads_frame bytes payload) old new t k =
      subst (KeptEndpoint d c (own ++ marks_by c (reads_frame bytes payload)) es) (sym t.3)
      (kept_reads_frame d c own es bytes payload old.payloads old.held t.1 t.2 (at old (open_ []) t.0 k))
  endpoint_moved (reads_bad_size bytes size) old new t k =
      subst (KeptEndpoint d c (own ++ marks_by c (reads_bad_size bytes size)) es) (sym t.3)
      (kept_reads_bad_size d c own es bytes size old.payloads old.held t.1 t.2 (at old (open_ []) t.0 k))
  endpoint_moved ends old new t k =
      subst (KeptEndpoint d c (own ++ marks_by c ends) es) (sym t.1) (kept_ends d c own es old.payloads old.held (at old (open_ []) t.0 k))
  endpoint_moved fails_read old new t k =
      subst (KeptEndpoint d c (own ++ marks_by c fails_read) es) (sym t.1) (kept_fails_read d c own es old.payloads old.held (at old (open_ []) t.0 k))
  endpoint_moved settles old new t k =
      let stage : Stage = open_ (reply_for d t.1 (d.decide t.1) None) in
      subst (KeptEndpoint d c (own ++ []) es) (sym t.5)
      (no_marks old.payloads old.held stage
      (at_payloads own old.payloads (t.0 ++ t.1 ∷ []) old.held stage t.2 (kept_settles d c own es t.0 t.1 old.held t.4 (at_last old pending t.0 t.1 t.2 t.3 k))))
  endpoint_moved replies old new t k =
      let stage : Stage = open_ (reply_for d t.1 (d.decide t.1) (answer_at es (length t.0))) in
      subst (KeptEndpoint d c (own ++ []) es) (sym t.4)
      (no_marks old.payloads old.held stage
      (at_payloads own old.payloads (t.0 ++ t.1 ∷ []) old.held stage t.2 (kept_replies d c own es t.0 t.1 old.held (at_last old answered t.0 t.1 t.2 t.3 k))))
  endpoint_moved (closes fault) old new t k =
      subst (KeptEndpoint d c (own ++ marks_by c (closes fault)) es) (sym t.5)
      (at_payloads (own ++ marks_by c (closes fault)) old.payloads (t.0 ++ t.1 ∷ []) old.held (over (Envelope fault)) t.2
      (kept_closes d c own es t.0 t.1 old.held fault t.4 (at_last old pending t.0 t.1 t.2 t.3 k)))
  endpoint_moved (writes bytes) old new t k =
      subst (KeptEndpoint d c (own ++ marks_by c (writes bytes)) es) (sym t.3)
      (kept_writes d c own es bytes t.0 old.payloads old.held t.2 (at old (open_ (bytes ++ t.0)) t.1 k))
  endpoint_moved fails_write old new t k =
      subst (KeptEndpoint d c (own ++ marks_by c fails_write) es) (sym t.3)
      (kept_fails_write d c own es old.payloads old.held t.0 t.2 (at old (open_ t.0) t.1 k))
  endpoint_moved (gives_up cause) old new t k =
      subst (KeptEndpoint d c (own ++ marks_by c (gives_up cause)) es) (sym t.3)
      (kept_gives_up d c own es old.payloads old.held cause old.stage t.0 t.1 t.2 k)
