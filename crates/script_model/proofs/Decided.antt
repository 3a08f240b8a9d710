-- What was read of a connection, and what is left of its bytes, have decided its end.
use Rattle.std.proofs.Common.{◌≡◌, ℕ, List, [], ◌∷◌, ◌++◌, refl, sym, ap, ◌∙◌, subst, append_assoc, append-nil}
use Rattle.std.specs.List.{flat_map, AllByRecursion}
use Rattle.std.proofs.lemmas.Grind.{flat_map-append}
use Rattle.streams.specs.declared.marks.Mark.{Mark}
use Rattle.host_model.specs.declared.cause.EndCause.{EndCause}
use Rattle.host_model.specs.declared.cause.EndCause.TheVariants.{End, Cut, SizeFault, Envelope, ReadFault, WriteFault, NoMemory, Stopped}
use Rattle.host_model.specs.Conversation.{AllKeepConnection, EndsBy, Talk, but_last}
use Rattle.host_model.specs.DeskRules.{DeskRules}
use Rattle.host_model.specs.Frames.{Frames, frame, size_bytes, IsPayload, ArePayloads}
use Rattle.host_model.specs.Journal.{JournalEntry}
use Rattle.host_model.specs.Marks.{input}
use Rattle.host_model.proofs.Lists.{all_but_last, but_last-push}
use Rattle.script_model.specs.DecidedEnds.{EndsOn, IsOfBytes, MayBeUnread}

last_of : {X : Type 0} (P : X → Type 0) (xs : List X) (x : X) → AllByRecursion P (xs ++ x ∷ []) → P x
last_of P [] x all = all.0
last_of P (y ∷ xs) x all = last_of P xs x all.1

module _ {C A : Type 0} (d : DeskRules C A) (bytes left : List ℕ) (es : List (JournalEntry C A)) (out : List ℕ) where
  -- the frames, the rest behind them, and what is left
  joined : (payloads : List (List ℕ)) (rest : List ℕ) → bytes ≡ flat_map frame payloads ++ rest → bytes ++ left ≡ flat_map frame payloads ++ (rest ++ left)
  joined payloads rest e = ap (λ b. b ++ left) e ∙ append_assoc (flat_map frame payloads) rest left

  decided : (cause : EndCause) (payloads : List (List ℕ)) (rest : List ℕ) → Frames d.max bytes payloads rest → AllKeepConnection d (but_last payloads)
      → EndsBy d payloads rest es out cause → IsOfBytes cause → MayBeUnread cause left → EndsOn d (bytes ++ left) cause
  decided End payloads rest frames before ends of_bytes none =
      record {
        payloads = payloads;
        left = rest ++ left;
        whole = joined payloads rest frames.whole;
        each = frames.each;
        kept = ends.0;
        ended = (λ i. ends.1 i ++ none i);
      }
  decided Cut payloads rest frames before ends of_bytes none =
      let same : rest ≡ rest ++ left = sym (append-nil rest) ∙ ap (λ b. rest ++ b) (sym none) in
      record {
        payloads = payloads;
        left = rest;
        whole = joined payloads rest frames.whole ∙ ap (λ b. flat_map frame payloads ++ b) (sym same);
        each = frames.each;
        kept = ends.0;
        ended = (ends.1, record { rest = frames.no_more; size = ends.2 });
      }
  decided (SizeFault z) payloads rest frames before ends of_bytes none =
      record {
        payloads = payloads;
        left = rest ++ left;
        whole = joined payloads rest frames.whole;
        each = frames.each;
        kept = ends.0;
        ended = (left, ap (λ b. b ++ left) ends.1, ends.2);
      }
  decided (Envelope fault) payloads rest frames before ends of_bytes none =
      let first : List (List ℕ) = ends.0.0 in
      let p : List ℕ = ends.0.1 in
      let split : payloads ≡ first ++ p ∷ [] = ends.0.2 in
      let each : ArePayloads d.max (first ++ p ∷ []) = subst (ArePayloads d.max) split frames.each in
      let begun : but_last payloads ≡ first = ap but_last split ∙ but_last-push first p in
      let shape : flat_map frame payloads ≡ flat_map frame first ++ frame p =
      ap (flat_map frame) split ∙ flat_map-append frame first (p ∷ []) ∙ ap (λ b. flat_map frame first ++ b) (append-nil (frame p)) in
      record {
        payloads = first;
        left = frame p ++ left;
        whole =
            joined payloads rest frames.whole
            ∙ (λ i. shape i ++ (ends.1 i ++ left))
            ∙ append_assoc (flat_map frame first) (frame p) left;
        each = subst (ArePayloads d.max) (but_last-push first p) (all_but_last (IsPayload d.max) (first ++ p ∷ []) each);
        kept = subst (AllKeepConnection d) begun before;
        ended = (p, left, refl, last_of (IsPayload d.max) first p each, ends.0.3);
      }
  decided ReadFault payloads rest frames before ends of_bytes none = absurd of_bytes
  decided WriteFault payloads rest frames before ends of_bytes none = absurd of_bytes
  decided NoMemory payloads rest frames before ends of_bytes none = absurd of_bytes
  decided Stopped payloads rest frames before ends of_bytes none = absurd of_bytes

  pub talk_decides : (cause : EndCause) → Talk d bytes es out cause → IsOfBytes cause → MayBeUnread cause left → EndsOn d (bytes ++ left) cause
  talk_decides cause talk of_bytes none = decided cause talk.payloads talk.rest talk.frames talk.open_before talk.ended of_bytes none
