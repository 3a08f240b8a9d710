-- What reads over a script leave, as links tell it.
use Rattle.std.proofs.Common.{◌≡◌, ℕ, suc, ◌+◌, ◌-◌, ◌<◌, ◌≤◌, Bool, true, false, min, nat_lt, nat_le, if◌then◌else◌, Option, None, Some, List, [], ◌∷◌, ◌++◌, length, take, drop, slice_get, refl, sym, ap, ◌∙◌, subst, arith, true≢false, append_assoc, length-append}
use Rattle.std.specs.List.{list_all}
use Rattle.std.proofs.lemmas.Bool.{and_parts, ltb-true, ltb-false, leb-true}
use Rattle.std.proofs.lemmas.List.{append-nil, take_all, take-append-drop}
use Rattle.std.proofs.lemmas.Option.{none-some, same_Some}
use Rattle.std.proofs.Math.Dec.{leb-suc-suc}
use Rattle.streams.specs.declared.marks.Mark.TheVariants.{Read, Ended as EndedMark, ReadFailed}
use Rattle.outside.specs.declared.answers.Taken.{Taken}
use Rattle.outside.specs.declared.answers.Taken.TheVariants.{Bytes, End, NotYet, Failed, NoMemory}
use Rattle.outside.specs.LinksState.{Arrived, nothing_arrived}
use Rattle.outside.specs.Reading.{Reads, bytes_read}
use Rattle.script_model.specs.Arrival.{bytes_of_pieces}
use Rattle.script_model.specs.Playing.{InputFinish, finishes, faults, most_read}
use Rattle.script_links.specs.ServedScript.{PlainLink, ServedScript, link_at, with_link, is_open_stage, is_open_at, has_bytes, is_sound_link}
use Rattle.script_links.specs.Plain.{oldest_of, shown_finish, with_read, with_bytes_read, with_end, with_fault, taken_at_finish, taken_of_piece, taken_by_read, left_by_read, MayComeTo, IsFrontOfPiece}
use Rattle.script_links.specs.Shown.{links_told, arrived_of, is_end_of_input}
use Rattle.script_links.proofs.Connected.{open_is_there, own_changed}
use Rattle.script_links.proofs.Keeping.{sound_parts, count_in}
use Rattle.script_links.proofs.Telling.{touches_only, stays, rises}

abbrev is_bytes : Taken → Bool
is_bytes (Bytes count) = true
is_bytes _ = false

abbrev says_end : Taken → Bool
says_end End = true
says_end _ = false

first_none : {X : Type 0} (xs : List X) → slice_get xs 0 ≡ None → xs ≡ []
first_none [] e = refl
first_none (x ∷ xs) e = absurd (none-some x (sym e))

first_some : {X : Type 0} (xs : List X) (x : X) → slice_get xs 0 ≡ Some x → xs ≡ x ∷ drop 1 xs
first_some [] x e = absurd (none-some x e)
first_some (y ∷ xs) x e = ap (λ k. k ∷ xs) (same_Some y x e)

-- a piece has arrived: it is the first one
pub oldest_is : (link : PlainLink) (piece : List ℕ) → oldest_of link ≡ Some piece → (0 < link.arrived) × (link.pieces ≡ piece ∷ drop 1 link.pieces)
oldest_is link piece e = go (nat_lt 0 link.arrived) refl e
  where
    go : (b : Bool) → nat_lt 0 link.arrived ≡ b → (if b then slice_get link.pieces 0 else None) ≡ Some piece → (0 < link.arrived) × (link.pieces ≡ piece ∷ drop 1 link.pieces)
    go true test e = (ltb-true 0 link.arrived test, first_some link.pieces piece e)
    go false test e = absurd (none-some piece e)

-- none has: nothing has arrived, and where as many have as there are, there are none
pub none_arrived : (link : PlainLink) → oldest_of link ≡ None → (take link.arrived link.pieces ≡ []) × (nat_le (length link.pieces) link.arrived ≡ true → link.pieces ≡ [])
none_arrived link e = go (nat_lt 0 link.arrived) refl e
  where
    empty : (pieces : List (List ℕ)) → length pieces ≤ 0 → pieces ≡ []
    empty [] short = refl
    empty (piece ∷ pieces) short = absurd (let f : ⊥ = omega arith in f)

    go : (b : Bool) → nat_lt 0 link.arrived ≡ b → (if b then slice_get link.pieces 0 else None) ≡ None
        → (take link.arrived link.pieces ≡ []) × (nat_le (length link.pieces) link.arrived ≡ true → link.pieces ≡ [])
    go true test e =
        let none : link.pieces ≡ [] = first_none link.pieces e in
        (ap (λ xs. take link.arrived xs) none ∙ take_all link.arrived [] (omega arith), λ all. none)
    go false test e =
        let no : link.arrived ≤ 0 = ltb-false 0 link.arrived test in
        let zero_is : link.arrived ≡ 0 = omega arith in
        (ap (λ n. take n link.pieces) zero_is, λ all. let short : length link.pieces ≤ link.arrived = leb-true (length link.pieces) link.arrived all in empty link.pieces (omega arith))

-- bytes of the first piece, off the front of it and others
front_off : (count : ℕ) (piece : List ℕ) (rest : List (List ℕ)) (b : Bool) → nat_lt count (length piece) ≡ b
    → piece ++ bytes_of_pieces rest ≡ take count piece ++ bytes_of_pieces (if b then drop count piece ∷ rest else rest)
front_off count piece rest true test =
    ap (λ xs. xs ++ bytes_of_pieces rest) (sym (take-append-drop count piece)) ∙ append_assoc (take count piece) (drop count piece) (bytes_of_pieces rest)
front_off count piece rest false test =
    ap (λ xs. xs ++ bytes_of_pieces rest) (sym (take_all count piece (ltb-false count (length piece) test)))

-- what is left, and what has arrived, once bytes of the first piece were read
module _ (count : ℕ) (link : PlainLink) (piece : List ℕ) (pieces : List (List ℕ)) (k : ℕ) where
  abbrev read_on : Bool → PlainLink
  read_on b = if b then record link { pieces = drop count piece ∷ pieces } else record link { pieces = pieces; arrived = link.arrived - 1 }

  left_off : (b : Bool) → nat_lt count (length piece) ≡ b → piece ++ bytes_of_pieces pieces ≡ take count piece ++ bytes_of_pieces (read_on b).pieces
  left_off true test = front_off count piece pieces true test
  left_off false test = front_off count piece pieces false test

  arrived_off : (b : Bool) → nat_lt count (length piece) ≡ b → link.arrived ≡ suc k
      → piece ++ bytes_of_pieces (take k pieces) ≡ take count piece ++ bytes_of_pieces (take (read_on b).arrived (read_on b).pieces)
  arrived_off true test is =
      front_off count piece (take k pieces) true test ∙ ap (λ n. take count piece ++ bytes_of_pieces (take n (drop count piece ∷ pieces))) (sym is)
  arrived_off false test is =
      let less : link.arrived - 1 ≡ k = omega arith in
      front_off count piece (take k pieces) false test ∙ ap (λ n. take count piece ++ bytes_of_pieces (take n pieces)) (sym less)

  ended_off : (b : Bool) → link.arrived ≡ suc k → (if nat_le (suc (length pieces)) (suc k) then link.finish else None) ≡ shown_finish (read_on b)
  ended_off true is = ap (λ n. if nat_le (suc (length pieces)) n then link.finish else None) (sym is)
  ended_off false is =
      let less : k ≡ link.arrived - 1 = omega arith in
      ap (λ t. if t then link.finish else None) (leb-suc-suc (length pieces) k) ∙ ap (λ n. if nat_le (length pieces) n then link.finish else None) less

-- the same, of a connection whose first piece it is
module _ (count : ℕ) (link : PlainLink) (piece : List ℕ) (some : 0 < link.arrived) (first : link.pieces ≡ piece ∷ drop 1 link.pieces) where
  abbrev pieces : List (List ℕ)
  pieces = drop 1 link.pieces

  abbrev k : ℕ
  k = link.arrived - 1

  count_is : link.arrived ≡ suc k
  count_is = omega arith

  read_is : with_bytes_read count link ≡ with_read count (piece ∷ pieces) link
  read_is = ap (λ xs. with_read count xs link) first

  pub left_then : bytes_of_pieces link.pieces ≡ take count piece ++ bytes_of_pieces (with_bytes_read count link).pieces
  left_then =
      ap bytes_of_pieces first ∙ left_off count link piece pieces k (nat_lt count (length piece)) refl
      ∙ ap (λ (l : PlainLink). take count piece ++ bytes_of_pieces l.pieces) (sym read_is)

  arrived_bytes : bytes_of_pieces (take link.arrived link.pieces) ≡ take count piece ++ (arrived_of (with_bytes_read count link)).bytes
  arrived_bytes =
      ap (λ xs. bytes_of_pieces (take link.arrived xs)) first ∙ ap (λ n. bytes_of_pieces (take n (piece ∷ pieces))) count_is
      ∙ arrived_off count link piece pieces k (nat_lt count (length piece)) refl count_is
      ∙ ap (λ (l : PlainLink). take count piece ++ bytes_of_pieces (take l.arrived l.pieces)) (sym read_is)

  arrived_end : shown_finish link ≡ shown_finish (with_bytes_read count link)
  arrived_end =
      ap (λ xs. if nat_le (length xs) link.arrived then link.finish else None) first ∙ ap (λ n. if nat_le (suc (length pieces)) n then link.finish else None) count_is
      ∙ ended_off count link piece pieces k (nat_lt count (length piece)) count_is ∙ ap shown_finish (sym read_is)

  pub arrived_then : arrived_of link ≡ record (arrived_of (with_bytes_read count link)) { bytes = take count piece ++ (arrived_of (with_bytes_read count link)).bytes }
  arrived_then = λ i. record { bytes = arrived_bytes i; ended = is_end_of_input (arrived_end i) }

-- a read after all that has arrived
finish_end : (finish : Option InputFinish) → End ≡ taken_at_finish finish → finish ≡ Some finishes
finish_end None e = absurd (true≢false (ap says_end e))
finish_end (Some finishes) e = refl
finish_end (Some faults) e = absurd (true≢false (ap says_end e))

abbrev says_later : Taken → Bool
says_later NotYet = true
says_later _ = false

finish_later : (finish : Option InputFinish) → NotYet ≡ taken_at_finish finish → finish ≡ None
finish_later None e = refl
finish_later (Some finishes) e = absurd (true≢false (ap says_later e))
finish_later (Some faults) e = absurd (true≢false (ap says_later e))

pub all_shown : (link : PlainLink) → shown_finish link ≡ Some finishes → nat_le (length link.pieces) link.arrived ≡ true
all_shown link e = go (nat_le (length link.pieces) link.arrived) refl e
  where
    go : (b : Bool) → nat_le (length link.pieces) link.arrived ≡ b → (if b then link.finish else None) ≡ Some finishes → nat_le (length link.pieces) link.arrived ≡ true
    go true test e = test
    go false test e = absurd (none-some finishes e)

module _ (c : ℕ) (into : List ℕ) (s : ServedScript) (here : is_open_at s.links c ≡ true) (sound : is_sound_link (link_at s.links c) ≡ true) (room : 0 < length into) where
  abbrev link : PlainLink
  link = link_at s.links c

  own : (change : PlainLink → PlainLink) → link_at (with_link c change s.links) c ≡ change link
  own change = own_changed c change s.links (open_is_there s.links c here)

  -- nothing has arrived, where no piece has
  none_there : oldest_of link ≡ None → (arrived_of link).bytes ≡ []
  none_there none = ap bytes_of_pieces (none_arrived link none).0

  bytes_come : (count : ℕ) (piece : List ℕ) → oldest_of link ≡ Some piece → Bytes count ≡ taken_of_piece (length into) (shown_finish link) (Some piece)
      → take count into ≡ take count piece → Reads c into (links_told s) (links_told (left_by_read c (length into) (take count into) (Bytes count) s)) (Bytes count)
  bytes_come count piece old comes front =
      let is : (0 < link.arrived) × (link.pieces ≡ piece ∷ drop 1 link.pieces) = oldest_is link piece old in
      let mine : link_at (with_link c (with_bytes_read count) s.links) c ≡ with_bytes_read count link = own (with_bytes_read count) in
      let full : has_bytes piece ≡ true = (and_parts _ _ (subst (λ xs. list_all has_bytes xs ≡ true) is.1 (sound_parts link sound).pieces)).0 in
      let long : 0 < length piece = ltb-true 0 (length piece) full in
      let same : count ≡ min (min (length into) most_read) (length piece) = ap count_in comes in
      record {
        others = touches_only c (with_bytes_read count) s s.blocked (s.tape ++ Read c (take count into) ∷ []) (s.lengths ++ length into ∷ []);
        still_open = ap (λ (l : PlainLink). is_open_stage l.stage) mine ∙ stage_kept count link.pieces;
        tape = refl;
        lengths = refl;
        within = (omega arith, omega arith);
        left =
            ap Some (left_then count link piece is.0 is.1 ∙ ap (λ xs. xs ++ bytes_of_pieces (with_bytes_read count link).pieces) (sym front)
            ∙ ap (λ (l : PlainLink). take count into ++ bytes_of_pieces l.pieces) (sym mine));
        arrived =
            ap Some (arrived_then count link piece is.0 is.1
            ∙ ap (λ xs. record (arrived_of (with_bytes_read count link)) { bytes = xs ++ (arrived_of (with_bytes_read count link)).bytes }) (sym front)
            ∙ ap (λ (l : PlainLink). record (arrived_of l) { bytes = take count into ++ (arrived_of l).bytes }) (sym mine));
        ended = λ e. absurd (true≢false (ap is_bytes e));
        not_yet = λ e. absurd (true≢false (ap is_bytes e));
        nothing = λ e. let empty : (arrived_of link).bytes ≡ [] = ap (λ (a : Arrived). a.bytes) (same_Some (arrived_of link) nothing_arrived e) in some_arrived piece is.0 is.1 long empty;
        faults = ap (λ (l : PlainLink). l.faults) mine ∙ faults_kept count link.pieces;
      }
    where
      stage_kept : (count : ℕ) (pieces : List (List ℕ)) → is_open_stage (with_read count pieces link).stage ≡ is_open_stage link.stage
      stage_kept count [] = refl
      stage_kept count (piece ∷ pieces) = go (nat_lt count (length piece))
        where
          go : (b : Bool) → is_open_stage (if b then record link { pieces = drop count piece ∷ pieces } else record link { pieces = pieces; arrived = link.arrived - 1 }).stage ≡ is_open_stage link.stage
          go true = refl
          go false = refl

      faults_kept : (count : ℕ) (pieces : List (List ℕ)) → (with_read count pieces link).faults ≡ link.faults
      faults_kept count [] = refl
      faults_kept count (piece ∷ pieces) = go (nat_lt count (length piece))
        where
          go : (b : Bool) → (if b then record link { pieces = drop count piece ∷ pieces } else record link { pieces = pieces; arrived = link.arrived - 1 }).faults ≡ link.faults
          go true = refl
          go false = refl

      some_arrived : (piece : List ℕ) → 0 < link.arrived → link.pieces ≡ piece ∷ drop 1 link.pieces → 0 < length piece → bytes_of_pieces (take link.arrived link.pieces) ≡ [] → ⊥
      some_arrived piece some first long empty =
          let k : ℕ = link.arrived - 1 in
          let is : link.arrived ≡ suc k = omega arith in
          let whole : bytes_of_pieces (take link.arrived link.pieces) ≡ piece ++ bytes_of_pieces (take k (drop 1 link.pieces)) =
          ap (λ xs. bytes_of_pieces (take link.arrived xs)) first ∙ ap (λ n. bytes_of_pieces (take n (piece ∷ drop 1 link.pieces))) is in
          let sum : length (piece ++ bytes_of_pieces (take k (drop 1 link.pieces))) ≡ length piece + length (bytes_of_pieces (take k (drop 1 link.pieces))) =
          length-append piece (bytes_of_pieces (take k (drop 1 link.pieces))) in
          let none : length (piece ++ bytes_of_pieces (take k (drop 1 link.pieces))) ≡ 0 = ap length (sym whole ∙ empty) in
          omega arith

  -- a read that fails, and one for which there is no memory
  fault_comes : Reads c into (links_told s) (links_told (left_by_read c (length into) [] Failed s)) Failed
  fault_comes =
      let mine : link_at (with_link c with_fault s.links) c ≡ with_fault link = own with_fault in
      record {
        others = touches_only c with_fault s s.blocked (s.tape ++ ReadFailed c ∷ []) s.lengths;
        still_open = ap (λ (l : PlainLink). is_open_stage l.stage) mine ∙ sym here;
        tape = refl;
        lengths = ap Some (sym (append-nil s.lengths));
        within = tt;
        left = ap (λ (l : PlainLink). Some (bytes_of_pieces l.pieces)) (sym mine);
        arrived = ap (λ (l : PlainLink). Some (arrived_of l)) (sym mine);
        ended = λ e. absurd (true≢false (sym (ap says_end e)));
        not_yet = λ e. absurd (true≢false (sym (ap says_later e)));
        nothing = λ e. tt;
        faults = rises link.faults (link_at (with_link c with_fault s.links) c).faults (sound_parts link sound).faults (ap (λ (l : PlainLink). l.faults) mine);
      }

  lack_comes : Reads c into (links_told s) (links_told s) NoMemory
  lack_comes = record {
    others = stays c (links_told s);
    still_open = refl;
    tape = ap Some (sym (append-nil s.tape));
    lengths = ap Some (sym (append-nil s.lengths));
    within = tt;
    left = refl;
    arrived = refl;
    ended = λ e. absurd (true≢false (sym (ap says_end e)));
    not_yet = λ e. absurd (true≢false (sym (ap says_later e)));
    nothing = λ e. tt;
    faults = refl;
  }

  pub reads_failed : (taken : Taken) → MayComeTo Failed taken → Reads c into (links_told s) (links_told (left_by_read c (length into) (bytes_read into taken) taken s)) taken
  reads_failed (Bytes count) comes = absurd (true≢false (ap is_bytes comes))
  reads_failed End comes = absurd (true≢false (ap says_end comes))
  reads_failed NotYet comes = absurd (true≢false (ap says_later comes))
  reads_failed Failed comes = fault_comes
  reads_failed NoMemory comes = lack_comes

  -- A read that comes to this, whose bytes stand in front of what was lent, is one of links.
  pub reads : (taken : Taken) → MayComeTo (taken_by_read (length into) link) taken → IsFrontOfPiece taken into (oldest_of link)
      → Reads c into (links_told s) (links_told (left_by_read c (length into) (bytes_read into taken) taken s)) taken
  reads taken comes front = by_oldest taken (oldest_of link) refl comes front
    where
      end_comes : oldest_of link ≡ None → End ≡ taken_at_finish (shown_finish link) → Reads c into (links_told s) (links_told (left_by_read c (length into) [] End s)) End
      end_comes none comes =
          let mine : link_at (with_link c with_end s.links) c ≡ with_end link = own with_end in
          let finish : shown_finish link ≡ Some finishes = finish_end (shown_finish link) comes in
          let empty : link.pieces ≡ [] = (none_arrived link none).1 (all_shown link finish) in
          record {
            others = touches_only c with_end s s.blocked (s.tape ++ EndedMark c ∷ []) s.lengths;
            still_open = ap (λ (l : PlainLink). is_open_stage l.stage) mine ∙ sym here;
            tape = refl;
            lengths = ap Some (sym (append-nil s.lengths));
            within = tt;
            left = ap (λ (l : PlainLink). Some (bytes_of_pieces l.pieces)) (sym mine);
            arrived = ap (λ (l : PlainLink). Some (arrived_of l)) (sym mine);
            ended = λ e. ap bytes_of_pieces empty;
            not_yet = λ e. absurd (true≢false (ap says_end e));
            nothing = λ e.
                absurd (true≢false (sym (ap is_end_of_input finish) ∙ ap (λ (a : Arrived). a.ended) (same_Some (arrived_of link) nothing_arrived e)));
            faults = ap (λ (l : PlainLink). l.faults) mine;
          }

      later_comes : oldest_of link ≡ None → NotYet ≡ taken_at_finish (shown_finish link) → Reads c into (links_told s) (links_told s) NotYet
      later_comes none comes = record {
        others = stays c (links_told s);
        still_open = refl;
        tape = ap Some (sym (append-nil s.tape));
        lengths = ap Some (sym (append-nil s.lengths));
        within = tt;
        left = refl;
        arrived = refl;
        ended = λ e. absurd (true≢false (ap says_later e));
        not_yet = λ e. λ i. record { bytes = none_there none i; ended = is_end_of_input (finish_later (shown_finish link) comes i) };
        nothing = λ e. tt;
        faults = refl;
      }

      by_oldest : (taken : Taken) (o : Option (List ℕ)) → oldest_of link ≡ o → MayComeTo (taken_of_piece (length into) (shown_finish link) o) taken → IsFrontOfPiece taken into o
          → Reads c into (links_told s) (links_told (left_by_read c (length into) (bytes_read into taken) taken s)) taken
      by_oldest (Bytes count) None is comes front = absurd front
      by_oldest (Bytes count) (Some piece) is comes front = bytes_come count piece is comes front
      by_oldest End None is comes front = end_comes is comes
      by_oldest End (Some piece) is comes front = absurd (true≢false (ap says_end comes))
      by_oldest NotYet None is comes front = later_comes is comes
      by_oldest NotYet (Some piece) is comes front = absurd (true≢false (ap says_later comes))
      by_oldest Failed o is comes front = fault_comes
      by_oldest NoMemory o is comes front = lack_comes
