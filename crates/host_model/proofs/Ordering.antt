-- The order of the calls: at each point of the tape a number of entries, below which stand those whose replies have begun, and whose frames are whole.
use Rattle.std.proofs.Common.{◌≡◌, ℕ, ◌+◌, ◌^◌, ◌<◌, ◌≤◌, ◌⊎◌, min, Some, List, [], ◌∷◌, ◌++◌, length, take, slice_get, refl, sym, ap, ◌∙◌, subst, inl, inr, arith, append_assoc, length-append, length-take}
use Rattle.std.specs.List.{flat_map, AllByRecursion}
use Rattle.std.proofs.lemmas.Bool.{cases_eq, cases_lt}
use Rattle.std.proofs.lemmas.Grind.{flat_map-append}
use Rattle.std.proofs.lemmas.Option.{slice_get_within}
use Rattle.streams.specs.declared.marks.Mark.{Mark}
use Rattle.host_model.specs.Frames.{frame}
use Rattle.host_model.specs.Marks.{marks_of, input, output, read_by}
use Rattle.host_model.specs.Journal.{JournalEntry, entries_of}
use Rattle.host_model.specs.DeskRules.{DeskRules}
use Rattle.host_model.specs.Conversation.{sent}
use Rattle.host_model.specs.OrderBetween.{HasBegun, IsWhole, InOrder}
use Rattle.host_model.proofs.Lists.{Always}
use Rattle.host_model.proofs.Framing.{only_split}
use Rattle.host_model.proofs.Replies.{sent_kept}
use Rattle.host_model.proofs.Turning.{TurnSoFar, turn_entered, written_settled}
use Rattle.host_model.proofs.Filters.{marks_append, entries_same, entries_other, of_entry, get_push, get_front}

-- at this point of the tape the replies to entries from `count` on haven't begun, and the frames of those below it are whole
pub record IsOrdered {C A : Type 0} (d : DeskRules C A) (journal : List (JournalEntry C A)) (front : List Mark) : Type 0 where
  pub count : ℕ
  pub within : count ≤ length journal
  pub begun : (x : ℕ) (e : JournalEntry C A) → slice_get journal x ≡ Some e → HasBegun d journal front e → x < count
  pub whole : (y : ℕ) (f : JournalEntry C A) → slice_get journal y ≡ Some f → y < count → IsWhole d front f

module _ {C A : Type 0} (d : DeskRules C A) where
  pub in_order : (tape : List Mark) (journal : List (JournalEntry C A)) → Always (IsOrdered d journal) tape → InOrder d tape journal
  in_order tape journal a front back split x y e f at_x at_y begun part =
      let o : IsOrdered d journal front = a front back split in
      let l : x < o.count = o.begun x e at_x begun in
      elim (cases_lt y o.count) [ inl below ↦ absurd (part (o.whole y f at_y below)) | inr above ↦ omega arith ]

  -- a frame that is whole stays whole
  whole_longer : (front more : List Mark) (f : JournalEntry C A) → IsWhole d front f → IsWhole d (front ++ more) f
  whole_longer front more f w =
      let own : List Mark = marks_of f.key.c front in
      let new : List Mark = marks_of f.key.c more in
      record {
        payloads = w.payloads;
        more = w.more ++ input new;
        bytes =
            ap input (marks_append f.key.c front more) ∙ flat_map-append read_by own new ∙ ap (λ r. r ++ input new) w.bytes
            ∙ append_assoc (flat_map frame w.payloads) w.more (input new);
        each = w.each;
        among = w.among;
      }

  -- where each entry's frame is whole, every entry may have begun
  pub ordered_all : (journal : List (JournalEntry C A)) (front more : List Mark) → ((y : ℕ) (f : JournalEntry C A) → slice_get journal y ≡ Some f → IsWhole d front f)
      → IsOrdered d journal (front ++ more)
  ordered_all journal front more w =
      record {
        count = length journal;
        within = omega arith;
        begun = λ x e at _. slice_get_within journal x e at;
        whole = λ y f at _. whole_longer front more f (w y f at);
      }

  -- the reply to a new entry hasn't begun
  not_begun : (journal : List (JournalEntry C A)) (e : JournalEntry C A) (front : List Mark) (n : ℕ) → d.max < 2 ^ 31 → n ≤ e.key.i
      → TurnSoFar d (entries_of e.key.c journal) n (marks_of e.key.c front) → HasBegun d (journal ++ e ∷ []) front e → ⊥
  not_begun journal e front n small l t b =
      let es : List (JournalEntry C A) = entries_of e.key.c journal in
      let own : List Mark = marks_of e.key.c front in
      let t' : TurnSoFar d (es ++ e ∷ []) n own = turn_entered d es e n own l t in
      let w : length (output own) ≤ length (sent d (es ++ e ∷ []) 0 (take e.key.i t'.payloads)) = written_settled d (es ++ e ∷ []) n e.key.i own l t' in
      let same : b.payloads ≡ t'.payloads = (only_split d.max (input own) b.rest t'.rest b.payloads t'.payloads small b.frames t'.frames).0 in
      let h : length (sent d (entries_of e.key.c (journal ++ e ∷ [])) 0 (take e.key.i b.payloads)) < length (output own) = b.begun in
      let q : length (sent d (entries_of e.key.c (journal ++ e ∷ [])) 0 (take e.key.i b.payloads)) ≡ length (sent d (es ++ e ∷ []) 0 (take e.key.i t'.payloads)) =
      (λ i. length (sent d (entries_same e.key.c journal e refl i) 0 (take e.key.i (same i)))) in
      omega arith

  fewer_taken : (n : ℕ) (ps : List (List ℕ)) → length (take n ps) ≤ n
  fewer_taken n ps = let e : length (take n ps) ≡ min n (length ps) = length-take n ps in omega arith

  -- the reply to an earlier entry had begun without the new one
  begun_before : (journal : List (JournalEntry C A)) (e f : JournalEntry C A) (front : List Mark) → (e.key.c ≡ f.key.c → f.key.i < e.key.i)
      → HasBegun d (journal ++ e ∷ []) front f → HasBegun d journal front f
  begun_before journal e f front lower b =
      record {
        payloads = b.payloads;
        rest = b.rest;
        frames = b.frames;
        among = b.among;
        loud = b.loud;
        begun = subst (λ r. length r < length (output (marks_of f.key.c front))) (go (cases_eq e.key.c f.key.c)) b.begun;
      }
    where
      go : (e.key.c ≡ f.key.c) ⊎ (e.key.c ≡ f.key.c → ⊥)
          → sent d (entries_of f.key.c (journal ++ e ∷ [])) 0 (take f.key.i b.payloads) ≡ sent d (entries_of f.key.c journal) 0 (take f.key.i b.payloads)
      go (inl same) =
          let l : f.key.i < e.key.i = lower same in
          let m : length (take f.key.i b.payloads) ≤ f.key.i = fewer_taken f.key.i b.payloads in
          ap (λ r. sent d r 0 (take f.key.i b.payloads)) (entries_same f.key.c journal e same)
          ∙ sent_kept d (entries_of f.key.c journal) e (take f.key.i b.payloads) (omega arith)
      go (inr other) = ap (λ r. sent d r 0 (take f.key.i b.payloads)) (entries_other f.key.c journal e other)

  -- the order is kept while an entry is added
  pub ordered_push : (journal : List (JournalEntry C A)) (e : JournalEntry C A) (front : List Mark) (n : ℕ) → d.max < 2 ^ 31 → n ≤ e.key.i
      → TurnSoFar d (entries_of e.key.c journal) n (marks_of e.key.c front)
      → AllByRecursion (λ (f : JournalEntry C A). f.key.i < e.key.i) (entries_of e.key.c journal)
      → IsOrdered d journal front → IsOrdered d (journal ++ e ∷ []) front
  ordered_push journal e front n small l t lower o =
      let k : o.count ≤ length journal = o.within in
      let more : length (journal ++ e ∷ []) ≡ length journal + 1 = length-append journal (e ∷ []) in
      record {
        count = o.count;
        within = omega arith;
        begun = λ x f at b. go x f (get_push journal e x f at) b;
        whole = λ y f at below. o.whole y f (get_front journal e y f (omega arith) at) below;
      }
    where
      go : (x : ℕ) (f : JournalEntry C A) → (slice_get journal x ≡ Some f) ⊎ (e ≡ f) → HasBegun d (journal ++ e ∷ []) front f → x < o.count
      go x f (inl at) b =
          o.begun x f at
          (begun_before journal e f front
          (λ same. of_entry (λ (g : JournalEntry C A). g.key.i < e.key.i) journal x f at
          (subst (λ c. AllByRecursion (λ (g : JournalEntry C A). g.key.i < e.key.i) (entries_of c journal)) same lower)) b)
      go x f (inr same) b = absurd (not_begun journal e front n small l t (subst (HasBegun d (journal ++ e ∷ []) front) (sym same) b))
