-- What rehearsals that don't come to rest contradict: one payload was read before the next connection is opened, and more bytes, or its reply, are to come.
use Rattle.std.proofs.Common.{◌≡◌, ℕ, zero, suc, ◌<◌, ◌≤◌, ◌⊎◌, List, [], ◌∷◌, length, take, refl, sym, ap, ◌∙◌, subst, inl, inr, arith}
use Rattle.streams.specs.declared.marks.Mark.{Mark}
use Rattle.streams.specs.declared.marks.Mark.TheVariants.{Opened, Read}
use Rattle.host_model.specs.Marks.{marks_of, input, output}
use Rattle.host_model.specs.Journal.{JournalEntry, entries_of}
use Rattle.host_model.specs.Conversation.{sent}
use Rattle.host_model.specs.TinyDesk.{tiny_desk, tiny_entry, size_of_one}
use Rattle.host_model.proofs.Framing.{rest_nil}
use Rattle.host_model.proofs.Lists.{cons_parts, nil-cons}
use Rattle.machine_model.specs.AtFronts.{IsOpenBehind, summed}
use Rattle.script_model.specs.Arrival.{bytes_of_pieces}
use Rattle.script_model.specs.ScriptLines.{PlanLine, openings, pieces_on, count_up}
use Rattle.script_model.specs.RestLines.{opened_in, IsOverBudget, HasPlaceFor}
use Rattle.script_model.proofs.NotFed.{taken_front, one_size, unread}

-- connection 0 has sent a payload of one byte
abbrev pub one_payload : List Mark
one_payload = Opened 0 ∷ Read 0 size_of_one ∷ Read 0 (1 ∷ []) ∷ []

-- and then another connection is opened
abbrev then_opened : List Mark → List Mark
then_opened more = Opened 0 ∷ Read 0 size_of_one ∷ Read 0 (1 ∷ []) ∷ Opened 1 ∷ more

-- connection 0 is open, nothing was read but on it, and its payload is read or isn't
record IsReading (front : List Mark) : Type 0 where
  open_there : IsOpenBehind 0 front
  none : (c : ℕ) → input (marks_of (suc c) front) ≡ []
  so_far : (length (input (marks_of 0 front)) < 5) ⊎ (front ≡ one_payload)

-- so it is at each front at which just that one was opened
reading_at : (more : List Mark) (n : ℕ) → opened_in (take n (then_opened more)) ≡ 0 ∷ [] → IsReading (take n (then_opened more))
reading_at more zero o = absurd (nil-cons 0 [] o)
reading_at more (suc zero) o = record { open_there = omega arith; none = λ c. unread c (take 1 (then_opened more)) (inl refl, tt); so_far = inl (omega arith) }
reading_at more (suc (suc zero)) o = record { open_there = omega arith; none = λ c. unread c (take 2 (then_opened more)) (inl refl, (inl refl, tt)); so_far = inl (omega arith) }
reading_at more (suc (suc (suc zero))) o = record { open_there = omega arith; none = λ c. unread c (take 3 (then_opened more)) (inl refl, (inl refl, (inl refl, tt))); so_far = inr refl }
reading_at more (suc (suc (suc (suc n)))) o = absurd (nil-cons 1 (opened_in (take n more)) (sym (cons_parts 0 0 (1 ∷ opened_in (take n more)) [] o).1))

module _ (budget : ℕ) (lines : List PlanLine) (more : List Mark) (journal : List (JournalEntry ℕ ℕ)) (one : openings lines ≡ 1) (room : 2 ≤ budget)
    (h : HasPlaceFor tiny_desk budget lines (then_opened more) journal) where
  there : IsReading h.front
  there =
      let is : take (length h.front) (then_opened more) ≡ h.front = ap (take (length h.front)) h.split ∙ taken_front h.front h.back in
      subst IsReading is (reading_at more (length h.front) (ap opened_in is ∙ h.opened ∙ ap (count_up 0) one))

  -- all that arrived is read there
  all_there : input (marks_of 0 h.front) ≡ bytes_of_pieces (pieces_on 0 lines)
  all_there = go h.all_read
    where
      go : ((c : ℕ) → IsOpenBehind c h.front → input (marks_of c h.front) ≡ bytes_of_pieces (pieces_on c lines)) ⊎ IsOverBudget 2 budget h.front
          → input (marks_of 0 h.front) ≡ bytes_of_pieces (pieces_on 0 lines)
      go (inl read) = read 0 there.open_there
      go (inr o) =
          let l : summed o.sizes o.count ≤ 2 = one_size 2 h.front o.sizes there.none o.each o.within o.count in
          let m : budget < summed o.sizes o.count = o.more in
          absurd (let g : ⊥ = omega arith in g)

  -- so there is no place where more has arrived than that payload
  pub no_place_with_more : 5 < length (bytes_of_pieces (pieces_on 0 lines)) → ⊥
  no_place_with_more l = go there.so_far
    where
      same : length (input (marks_of 0 h.front)) ≡ length (bytes_of_pieces (pieces_on 0 lines))
      same = ap length all_there

      go : (length (input (marks_of 0 h.front)) < 5) ⊎ (h.front ≡ one_payload) → ⊥
      go (inl s) = omega (arith, same)
      go (inr e) = let n : length (input (marks_of 0 h.front)) ≡ 5 = ap (λ front. length (input (marks_of 0 front))) e in omega (arith, same)

  -- nor where it has arrived, and its call is made and its reply isn't written
  pub no_place_unwritten : journal ≡ tiny_entry 0 5 ∷ [] → 5 ≤ length (bytes_of_pieces (pieces_on 0 lines)) → ⊥
  no_place_unwritten made l = go there.so_far
    where
      same : length (input (marks_of 0 h.front)) ≡ length (bytes_of_pieces (pieces_on 0 lines))
      same = ap length all_there

      go : (length (input (marks_of 0 h.front)) < 5) ⊎ (h.front ≡ one_payload) → ⊥
      go (inl s) = omega (arith, same)
      go (inr e) =
          let written : output (marks_of 0 h.front) ≡ sent tiny_desk (entries_of 0 journal) 0 ((1 ∷ []) ∷ []) =
          h.at_rest.answered 0 there.open_there ((1 ∷ []) ∷ []) []
          (record { whole = ap (λ front. input (marks_of 0 front)) e; each = (record { some = omega arith; within = omega arith }, tt); no_more = rest_nil 2 }) in
          let none : [] ≡ output (marks_of 0 h.front) = ap (λ front. output (marks_of 0 front)) (sym e) in
          let all : sent tiny_desk (entries_of 0 journal) 0 ((1 ∷ []) ∷ []) ≡ 5 ∷ 5 ∷ [] = ap (λ js. sent tiny_desk (entries_of 0 js) 0 ((1 ∷ []) ∷ [])) made in
          nil-cons 5 (5 ∷ []) (none ∙ written ∙ all)
