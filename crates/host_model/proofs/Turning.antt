-- Being in turn while the connection goes on: where n payloads are settled, there are no more, or one more that was just read.
use Rattle.std.proofs.Common.{◌≡◌, ◌≢◌, ℕ, ◌+◌, ◌≤◌, ◌⊎◌, List, [], ◌∷◌, ◌++◌, length, take, sym, ap, ◌∙◌, subst, inl, inr, arith, append-nil, length-append, take_all}
use Rattle.streams.specs.declared.marks.Mark.{Mark}
use Rattle.host_model.specs.Frames.{Frames}
use Rattle.host_model.specs.Marks.{input, output}
use Rattle.host_model.specs.Journal.{JournalEntry}
use Rattle.host_model.specs.DeskRules.{DeskRules}
use Rattle.host_model.specs.Conversation.{but_last, sent, IsPrefix, IsReplying, IsInTurn}
use Rattle.host_model.proofs.Lists.{but_last-push, length-but_last}
use Rattle.host_model.proofs.Replies.{sent_kept, sent_front, sent_but_last}

-- every payload is settled
pub record IsCalm {C A : Type 0} (d : DeskRules C A) (es : List (JournalEntry C A)) (n : ℕ) (payloads : List (List ℕ)) (rest out : List ℕ) : Type 0 where
  pub settled : length payloads ≤ n
  pub replying : IsReplying d es payloads out
  pub first_sent : rest ≢ [] → out ≡ sent d es 0 payloads

-- the last payload was just read, and has no reply yet
pub record IsFresh {C A : Type 0} (d : DeskRules C A) (es : List (JournalEntry C A)) (n : ℕ) (payloads : List (List ℕ)) (rest out : List ℕ) : Type 0 where
  pub before : List (List ℕ)
  pub p : List ℕ
  pub last : payloads ≡ before ++ p ∷ []
  pub settled : length before ≤ n
  pub none : rest ≡ []
  pub written : out ≡ sent d es 0 before

pub record TurnSoFar {C A : Type 0} (d : DeskRules C A) (es : List (JournalEntry C A)) (n : ℕ) (front : List Mark) : Type 0 where
  pub payloads : List (List ℕ)
  pub rest : List ℕ
  pub frames : Frames d.max (input front) payloads rest
  pub state : IsCalm d es n payloads rest (output front) ⊎ IsFresh d es n payloads rest (output front)

module _ {C A : Type 0} (d : DeskRules C A) where
  -- a payload with no reply yet leaves its whole reply to be written
  replying_fresh : (es : List (JournalEntry C A)) (n : ℕ) (payloads : List (List ℕ)) (rest out : List ℕ) → IsFresh d es n payloads rest out → IsReplying d es payloads out
  replying_fresh es n payloads rest out f =
      let w : out ≡ sent d es 0 (but_last payloads) = f.written ∙ ap (sent d es 0) (sym (ap but_last f.last ∙ but_last-push f.before f.p)) in
      let t : IsPrefix (sent d es 0 (but_last payloads)) (sent d es 0 payloads) = sent_but_last d es payloads in
      record { before = ([], w ∙ sym (append-nil (sent d es 0 (but_last payloads)))); within = (t.0, t.1 ∙ ap (λ r. r ++ t.0) (sym w)) }

  pub turn_of : (es : List (JournalEntry C A)) (n : ℕ) (front : List Mark) → TurnSoFar d es n front → IsInTurn d es front
  turn_of es n front t =
      elim t.state [
        | inl c ↦ record { payloads = t.payloads; rest = t.rest; frames = t.frames; replying = c.replying; first_sent = c.first_sent }
        | inr f ↦
            record {
              payloads = t.payloads;
              rest = t.rest;
              frames = t.frames;
              replying = replying_fresh es n t.payloads t.rest (output front) f;
              first_sent = λ some. absurd (some f.none);
            }
      ]

  -- it stays so while more payloads are settled
  pub turn_later : (es : List (JournalEntry C A)) (n m : ℕ) (front : List Mark) → n ≤ m → TurnSoFar d es n front → TurnSoFar d es m front
  turn_later es n m front l t =
      record {
        payloads = t.payloads;
        rest = t.rest;
        frames = t.frames;
        state = elim t.state [
          | inl c ↦ let k : length t.payloads ≤ n = c.settled in
              inl (record { settled = omega arith; replying = c.replying; first_sent = c.first_sent })
          | inr f ↦ let k : length f.before ≤ n = f.settled in
              inr (record { before = f.before; p = f.p; last = f.last; settled = omega arith; none = f.none; written = f.written })
        ];
      }

  -- while the call of a later payload is entered
  pub turn_entered : (es : List (JournalEntry C A)) (e : JournalEntry C A) (n : ℕ) (front : List Mark) → n ≤ e.key.i → TurnSoFar d es n front → TurnSoFar d (es ++ e ∷ []) n front
  turn_entered es e n front l t =
      record {
        payloads = t.payloads;
        rest = t.rest;
        frames = t.frames;
        state = elim t.state [
          | inl c ↦ let k : length t.payloads ≤ n = c.settled in
              let b : length (but_last t.payloads) ≤ length t.payloads = length-but_last t.payloads in
              let all : sent d (es ++ e ∷ []) 0 t.payloads ≡ sent d es 0 t.payloads = sent_kept d es e t.payloads (omega arith) in
              let most : sent d (es ++ e ∷ []) 0 (but_last t.payloads) ≡ sent d es 0 (but_last t.payloads) = sent_kept d es e (but_last t.payloads) (omega arith) in
              inl (record {
                settled = k;
                replying = record {
                  before = subst (λ r. IsPrefix r (output front)) (sym most) c.replying.before;
                  within = subst (λ r. IsPrefix (output front) r) (sym all) c.replying.within;
                };
                first_sent = λ some. c.first_sent some ∙ sym all;
              })
          | inr f ↦ let k : length f.before ≤ n = f.settled in
              inr (record {
                before = f.before;
                p = f.p;
                last = f.last;
                settled = k;
                none = f.none;
                written = f.written ∙ sym (sent_kept d es e f.before (omega arith));
              })
        ];
      }

  -- and while no bytes are read or written
  pub turn_quiet : (es : List (JournalEntry C A)) (n : ℕ) (front longer : List Mark) → input longer ≡ input front → output longer ≡ output front
      → TurnSoFar d es n front → TurnSoFar d es n longer
  turn_quiet es n front longer i o t =
      record {
        payloads = t.payloads;
        rest = t.rest;
        frames = subst (λ r. Frames d.max r t.payloads t.rest) (sym i) t.frames;
        state = subst (λ r. IsCalm d es n t.payloads t.rest r ⊎ IsFresh d es n t.payloads t.rest r) (sym o) t.state;
      }

  -- no more has been written than the replies to the payloads that are settled
  pub written_settled : (es : List (JournalEntry C A)) (n k : ℕ) (front : List Mark) → n ≤ k → (t : TurnSoFar d es n front)
      → length (output front) ≤ length (sent d es 0 (take k t.payloads))
  written_settled es n k front l t = go t.state
    where
      go : IsCalm d es n t.payloads t.rest (output front) ⊎ IsFresh d es n t.payloads t.rest (output front)
          → length (output front) ≤ length (sent d es 0 (take k t.payloads))
      go (inl c) =
          let m : length t.payloads ≤ n = c.settled in
          let w : IsPrefix (output front) (sent d es 0 t.payloads) = c.replying.within in
          let e : length (sent d es 0 (take k t.payloads)) ≡ length (output front) + length w.0 =
          ap (λ r. length (sent d es 0 r)) (take_all k t.payloads (omega arith)) ∙ ap length w.1 ∙ length-append (output front) w.0 in
          omega arith
      go (inr f) =
          let m : length f.before ≤ n = f.settled in
          let h : length (sent d es 0 f.before) ≤ length (sent d es 0 (take k (f.before ++ f.p ∷ []))) = sent_front d es k f.before f.p (omega arith) in
          let e : length (sent d es 0 (take k t.payloads)) ≡ length (sent d es 0 (take k (f.before ++ f.p ∷ []))) = ap (λ r. length (sent d es 0 (take k r))) f.last in
          let o : length (output front) ≡ length (sent d es 0 f.before) = ap length f.written in
          omega arith
