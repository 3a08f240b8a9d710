-- Connections stay sound, and there is room for the marks that are owed.
use Rattle.std.proofs.Common.{◌≡◌, ◌≢◌, ℕ, zero, suc, ◌+◌, ◌*◌, ◌-◌, ◌^◌, ◌<◌, ◌≤◌, Bool, true, false, ◌&&◌, cond, nat_lt, nat_le, min, if◌then◌else◌, Option, None, Some, List, [], ◌∷◌, ◌++◌, length, take, drop, get_or, slice_set, refl, sym, ap, ◌∙◌, subst, arith, true≢false, length-append, length-drop, length-take}
use Rattle.std.specs.List.{list_all, count_by}
use Rattle.std.proofs.lemmas.Bool.{and_parts, ltb-true, leb-true, ltb-false, le-leb, lt-ltb}
use Rattle.std.proofs.Math.Nat.{min-le_right}
use Rattle.std.proofs.lemmas.List.{length-set}
use Rattle.std.proofs.lemmas.List.Sums.{sum_by-set, sum_by-cons}
use Rattle.script_links.specs.declared.link.LinkStage.{LinkStage}
use Rattle.script_links.specs.declared.link.LinkStage.TheVariants.{Coming, Open, Ended, Closed}
use Rattle.streams.specs.declared.rest_place.RestPlace.{RestPlace}
use Rattle.script_model.specs.ScriptLines.{PlanRule}
use Rattle.script_links.specs.declared.step.Step.{Step}
use Rattle.script_links.specs.ServedScript.{PlainLink, ServedScript, no_link, link_at, with_link, is_coming, is_open_stage, is_open_at, marks_owed_at, marks_owed, lets_some, has_bytes, is_sound_link}
use Rattle.script_links.specs.declared.step.Step.TheVariants.{Rests}
use Rattle.script_links.proofs.Connected.{drop_on, coming_is_there}
use Rattle.script_links.proofs.Going.{first_is}
use Rattle.script_links.specs.Plain.{first_of, with_arrival, with_opening, with_rule_used, with_fault, with_read, with_bytes_read, with_end, oldest_of, shown_finish, taken_of_piece, taken_by_read, IsFrontOfPiece, IsCopyOfFront}
use Rattle.outside.specs.declared.answers.Taken.{Taken}
use Rattle.outside.specs.declared.answers.Taken.TheVariants.{Bytes}
use Rattle.script_model.specs.Playing.{most_read}
use Rattle.script_links.specs.Steps.{is_rest}
use Rattle.script_links.specs.Kept.{HasRoomFor}

pub both : (a b : Bool) → a ≡ true → b ≡ true → (a && b) ≡ true
both a b p q = ap (λ x. x && b) p ∙ q

abbrev pub count_in : Taken → ℕ
count_in (Bytes count) = count
count_in _ = 0

-- a test that all pass, at one place, where one is changed, and where the first goes
pub all_at : {X : Type 0} (p : X → Bool) (xs : List X) (i : ℕ) (d : X) → list_all p xs ≡ true → i < length xs → p (get_or xs i d) ≡ true
all_at p [] i d all below = absurd (let f : ⊥ = omega arith in f)
all_at p (x ∷ xs) zero d all below = (and_parts (p x) (list_all p xs) all).0
all_at p (x ∷ xs) (suc i) d all below = all_at p xs i d (and_parts (p x) (list_all p xs) all).1 (omega arith)

pub all_set : {X : Type 0} (p : X → Bool) (xs : List X) (i : ℕ) (y : X) → list_all p xs ≡ true → p y ≡ true → list_all p (slice_set xs i y) ≡ true
all_set p [] i y all own = refl
all_set p (x ∷ xs) zero y all own = both (p y) (list_all p xs) own (and_parts (p x) (list_all p xs) all).1
all_set p (x ∷ xs) (suc i) y all own =
    both (p x) (list_all p (slice_set xs i y)) (and_parts (p x) (list_all p xs) all).0 (all_set p xs i y (and_parts (p x) (list_all p xs) all).1 own)

pub all_behind : {X : Type 0} (p : X → Bool) (xs : List X) → list_all p xs ≡ true → list_all p (drop 1 xs) ≡ true
all_behind p [] all = refl
all_behind p (x ∷ xs) all = (and_parts (p x) (list_all p xs) all).1

-- what a connection is sound by
pub record IsSoundLink (link : PlainLink) : Type 0 where
  pub pieces : list_all has_bytes link.pieces ≡ true
  pub arrived : nat_le link.arrived (length link.pieces) ≡ true
  pub rules : list_all lets_some link.rules ≡ true
  pub faults : nat_le link.faults (2 ^ 64 - 1) ≡ true

pub sound_parts : (link : PlainLink) → is_sound_link link ≡ true → IsSoundLink link
sound_parts link h =
    let one : (list_all has_bytes link.pieces ≡ true) × ((nat_le link.arrived (length link.pieces) && (list_all lets_some link.rules && nat_le link.faults (2 ^ 64 - 1))) ≡ true) = and_parts _ _ h in
    let two : (nat_le link.arrived (length link.pieces) ≡ true) × ((list_all lets_some link.rules && nat_le link.faults (2 ^ 64 - 1)) ≡ true) = and_parts _ _ one.1 in
    let three : (list_all lets_some link.rules ≡ true) × (nat_le link.faults (2 ^ 64 - 1) ≡ true) = and_parts _ _ two.1 in
    record { pieces = one.0; arrived = two.0; rules = three.0; faults = three.1 }

pub sound_whole : (link : PlainLink) → IsSoundLink link → is_sound_link link ≡ true
sound_whole link h = both _ _ h.pieces (both _ _ h.arrived (both _ _ h.rules h.faults))

-- each change leaves it sound
pub fault_sound : (link : PlainLink) → is_sound_link link ≡ true → is_sound_link (with_fault link) ≡ true
fault_sound link h =
    let parts : IsSoundLink link = sound_parts link h in
    sound_whole (with_fault link) (record { pieces = parts.pieces; arrived = parts.arrived; rules = parts.rules; faults = le-leb (min (link.faults + 1) (2 ^ 64 - 1)) (2 ^ 64 - 1) (min-le_right (link.faults + 1) (2 ^ 64 - 1)) })

pub rule_sound : (link : PlainLink) → is_sound_link link ≡ true → is_sound_link (with_rule_used link) ≡ true
rule_sound link h =
    let parts : IsSoundLink link = sound_parts link h in
    sound_whole (with_rule_used link) (record { pieces = parts.pieces; arrived = parts.arrived; rules = all_behind lets_some link.rules parts.rules; faults = parts.faults })

pub arrival_sound : (link : PlainLink) → is_sound_link link ≡ true → is_sound_link (with_arrival link) ≡ true
arrival_sound link h = go (nat_lt link.arrived (length link.pieces)) refl
  where
    go : (b : Bool) → nat_lt link.arrived (length link.pieces) ≡ b → is_sound_link (if b then record link { arrived = suc link.arrived } else link) ≡ true
    go true test =
        let parts : IsSoundLink link = sound_parts link h in
        let below : link.arrived < length link.pieces = ltb-true link.arrived (length link.pieces) test in
        sound_whole (record link { arrived = suc link.arrived })
        (record { pieces = parts.pieces; arrived = le-leb (suc link.arrived) (length link.pieces) (omega arith); rules = parts.rules; faults = parts.faults })
    go false test = h

pub read_sound : (count : ℕ) (link : PlainLink) → is_sound_link link ≡ true → 0 < link.arrived → is_sound_link (with_bytes_read count link) ≡ true
read_sound count link h some = go link.pieces (sound_parts link h).pieces (leb-true link.arrived (length link.pieces) (sound_parts link h).arrived)
  where
    parts : IsSoundLink link
    parts = sound_parts link h

    less : (piece : List ℕ) (pieces : List (List ℕ)) (b : Bool) → nat_lt count (length piece) ≡ b → list_all has_bytes (piece ∷ pieces) ≡ true → link.arrived ≤ length (piece ∷ pieces)
        → is_sound_link (if b then record link { pieces = drop count piece ∷ pieces } else record link { pieces = pieces; arrived = link.arrived - 1 }) ≡ true
    less piece pieces true test all within =
        let below : count < length piece = ltb-true count (length piece) test in
        let rest : has_bytes (drop count piece) ≡ true = lt-ltb 0 (length (drop count piece)) (let l : length (drop count piece) ≡ length piece - count = length-drop count piece in omega arith) in
        sound_whole (record link { pieces = drop count piece ∷ pieces })
        (record {
          pieces = both (has_bytes (drop count piece)) (list_all has_bytes pieces) rest (and_parts _ _ all).1;
          arrived = le-leb link.arrived (length (drop count piece ∷ pieces)) within;
          rules = parts.rules;
          faults = parts.faults;
        })
    less piece pieces false test all within =
        let long : suc (length pieces) ≡ length (piece ∷ pieces) = refl in
        sound_whole (record link { pieces = pieces; arrived = link.arrived - 1 })
        (record { pieces = (and_parts _ _ all).1; arrived = le-leb (link.arrived - 1) (length pieces) (omega arith); rules = parts.rules; faults = parts.faults })

    go : (pieces : List (List ℕ)) → list_all has_bytes pieces ≡ true → link.arrived ≤ length pieces → is_sound_link (with_read count pieces link) ≡ true
    go [] all within = h
    go (piece ∷ pieces) all within = less piece pieces (nat_lt count (length piece)) refl all within

-- how many marks are owed where one connection is changed, and at most
pub owed_changed : (c : ℕ) (change : PlainLink → PlainLink) (links : List PlainLink) → c < length links
    → marks_owed (with_link c change links) + marks_owed_at (link_at links c).stage ≡ marks_owed links + marks_owed_at (change (link_at links c)).stage
owed_changed c change links below = sum_by-set (λ (link : PlainLink). marks_owed_at link.stage) links c (change (link_at links c)) no_link below

three_at_most : (stage : LinkStage) → marks_owed_at stage ≤ 3
three_at_most Coming = omega arith
three_at_most Open = omega arith
three_at_most Ended = omega arith
three_at_most Closed = omega arith

pub owed_at_most : (links : List PlainLink) → marks_owed links ≤ 3 * length links
owed_at_most [] = omega arith
owed_at_most (link ∷ links) =
    let all : marks_owed (link ∷ links) ≡ marks_owed_at link.stage + marks_owed links = sum_by-cons (λ (l : PlainLink). marks_owed_at l.stage) link links in
    let own : marks_owed_at link.stage ≤ 3 = three_at_most link.stage in
    let more : marks_owed links ≤ 3 * length links = owed_at_most links in
    omega arith

pub owed_coming : (stage : LinkStage) → is_coming stage ≡ true → marks_owed_at stage ≡ 3
owed_coming Coming e = refl
owed_coming Open e = absurd (true≢false (sym e))
owed_coming Ended e = absurd (true≢false (sym e))
owed_coming Closed e = absurd (true≢false (sym e))

pub owed_open : (stage : LinkStage) → is_open_stage stage ≡ true → 1 ≤ marks_owed_at stage
owed_open Coming e = absurd (true≢false (sym e))
owed_open Open e = omega arith
owed_open Ended e = omega arith
owed_open Closed e = absurd (true≢false (sym e))

-- no more rests are to come after a step, and one less after a rest
pub rests_behind : (steps : List Step) → count_by is_rest (drop 1 steps) ≤ count_by is_rest steps
rests_behind [] = omega arith
rests_behind (step ∷ steps) =
    let all : count_by is_rest (step ∷ steps) ≡ cond (is_rest step) 1 0 + count_by is_rest steps = sum_by-cons (λ (s : Step). cond (is_rest s) 1 0) step steps in omega arith

pub rests_less : (steps : List Step) → first_of steps ≡ Some Rests → count_by is_rest (drop 1 steps) + 1 ≡ count_by is_rest steps
rests_less steps first =
    let is : steps ≡ Rests ∷ drop 1 steps = first_is steps Rests first in
    let all : count_by is_rest (Rests ∷ drop 1 steps) ≡ 1 + count_by is_rest (drop 1 steps) = sum_by-cons (λ (s : Step). cond (is_rest s) 1 0) Rests (drop 1 steps) in
    let same : count_by is_rest steps ≡ count_by is_rest (Rests ∷ drop 1 steps) = ap (λ (xs : List Step). count_by is_rest xs) is in
    omega arith

-- room stays, where connection c is changed
module _ (marks places : ℕ) (s t : ServedScript) (room : HasRoomFor marks places s) where
  pub changed_room : (more : ℕ) (c : ℕ) (change : PlainLink → PlainLink) → c < length s.links → t.links ≡ with_link c change s.links → is_sound_link (change (link_at s.links c)) ≡ true
      → length t.tape + marks_owed (with_link c change s.links) ≤ more → t.rests ≡ s.rests → count_by is_rest t.steps ≤ count_by is_rest s.steps → HasRoomFor more places t
  changed_room more c change below links own tape rests steps =
      let was : length s.rests + count_by is_rest s.steps ≤ places = room.for_rests in
      let same : length t.rests ≡ length s.rests = ap length rests in
      record {
        sound = subst (λ xs. list_all is_sound_link xs ≡ true) (sym links) (all_set is_sound_link s.links c (change (link_at s.links c)) room.sound own);
        few = subst (λ n. n < 2 ^ 32) (sym (ap length links ∙ length-set s.links c (change (link_at s.links c)))) room.few;
        for_marks = subst (λ xs. length t.tape + marks_owed xs ≤ more) (sym links) tape;
        for_rests = omega arith;
      }

  -- and where none is
  pub same_room : (more : ℕ) → marks ≤ more → t.links ≡ s.links → t.tape ≡ s.tape → t.rests ≡ s.rests → count_by is_rest t.steps ≤ count_by is_rest s.steps → HasRoomFor more places t
  same_room more enough links tape rests steps =
      let was : length s.rests + count_by is_rest s.steps ≤ places = room.for_rests in
      let fits : length s.tape + marks_owed s.links ≤ marks = room.for_marks in
      let same : length t.rests ≡ length s.rests = ap length rests in
      let long : length t.tape ≡ length s.tape = ap length tape in
      record {
        sound = subst (λ xs. list_all is_sound_link xs ≡ true) (sym links) room.sound;
        few = subst (λ n. n < 2 ^ 32) (sym (ap length links)) room.few;
        for_marks = subst (λ xs. length t.tape + marks_owed xs ≤ more) (sym links) (omega arith);
        for_rests = omega arith;
      }

  -- where one mark is made on connection c, of those that are owed to it
  pub marked_room : (more : ℕ) (c : ℕ) (change : PlainLink → PlainLink) → c < length s.links → t.links ≡ with_link c change s.links → is_sound_link (change (link_at s.links c)) ≡ true
      → marks_owed_at (change (link_at s.links c)).stage + 1 ≤ marks_owed_at (link_at s.links c).stage → length t.tape ≡ length s.tape + 1 → marks ≤ more → t.rests ≡ s.rests
      → count_by is_rest t.steps ≤ count_by is_rest s.steps → HasRoomFor more places t
  marked_room more c change below links own less tape enough rests steps =
      let sum : marks_owed (with_link c change s.links) + marks_owed_at (link_at s.links c).stage ≡ marks_owed s.links + marks_owed_at (change (link_at s.links c)).stage =
      owed_changed c change s.links below in
      let fits : length s.tape + marks_owed s.links ≤ marks = room.for_marks in
      changed_room more c change below links own (omega arith) rests steps

  -- where connection c is changed, and no more is owed to it
  pub eased_room : (more : ℕ) (c : ℕ) (change : PlainLink → PlainLink) → c < length s.links → t.links ≡ with_link c change s.links → is_sound_link (change (link_at s.links c)) ≡ true
      → marks_owed_at (change (link_at s.links c)).stage ≤ marks_owed_at (link_at s.links c).stage → t.tape ≡ s.tape → marks ≤ more → t.rests ≡ s.rests
      → count_by is_rest t.steps ≤ count_by is_rest s.steps → HasRoomFor more places t
  eased_room more c change below links own less tape enough rests steps =
      let sum : marks_owed (with_link c change s.links) + marks_owed_at (link_at s.links c).stage ≡ marks_owed s.links + marks_owed_at (change (link_at s.links c)).stage =
      owed_changed c change s.links below in
      let fits : length s.tape + marks_owed s.links ≤ marks = room.for_marks in
      let long : length t.tape ≡ length s.tape = ap length tape in
      changed_room more c change below links own (omega arith) rests steps

  -- where a mark is made that isn't owed to anyone
  pub extra_room : (more : ℕ) (c : ℕ) (change : PlainLink → PlainLink) → c < length s.links → t.links ≡ with_link c change s.links → is_sound_link (change (link_at s.links c)) ≡ true
      → marks_owed_at (change (link_at s.links c)).stage ≤ marks_owed_at (link_at s.links c).stage → length t.tape ≡ length s.tape + 1
      → length s.tape + (1 + 3 * length s.links) ≤ more → t.rests ≡ s.rests → count_by is_rest t.steps ≤ count_by is_rest s.steps → HasRoomFor more places t
  extra_room more c change below links own less tape enough rests steps =
      let sum : marks_owed (with_link c change s.links) + marks_owed_at (link_at s.links c).stage ≡ marks_owed s.links + marks_owed_at (change (link_at s.links c)).stage =
      owed_changed c change s.links below in
      let most : marks_owed s.links ≤ 3 * length s.links = owed_at_most s.links in
      changed_room more c change below links own (omega arith) rests steps

-- the connection at its place is sound
pub sound_at : (marks places : ℕ) (s : ServedScript) (c : ℕ) → HasRoomFor marks places s → c < length s.links → is_sound_link (link_at s.links c) ≡ true
sound_at marks places s c room below = all_at is_sound_link s.links c no_link room.sound below

-- and there is room for the mark of the next opening
pub room_to_open : (marks places : ℕ) (s : ServedScript) → HasRoomFor marks places s → is_coming (link_at s.links s.opened).stage ≡ true → length s.tape < marks
room_to_open marks places s room coming =
    let three : marks_owed_at (link_at s.links s.opened).stage ≡ 3 = owed_coming (link_at s.links s.opened).stage coming in
    let sum : marks_owed (with_link s.opened with_opening s.links) + marks_owed_at (link_at s.links s.opened).stage ≡ marks_owed s.links + 2 =
    owed_changed s.opened with_opening s.links (coming_is_there s.links s.opened coming) in
    let fits : length s.tape + marks_owed s.links ≤ marks = room.for_marks in
    omega arith

-- how long a tape is after one mark more
pub one_longer : {X : Type 0} (xs ys : List X) (x : X) → ys ≡ xs ++ x ∷ [] → length ys ≡ length xs + 1
one_longer xs ys x is = ap length is ∙ length-append xs (x ∷ [])

-- fewer rests after a step that is done
pub passed_rests : (n : ℕ) (steps : List Step) → count_by is_rest (drop (n + 1) steps) ≤ count_by is_rest (drop n steps)
passed_rests n steps = subst (λ xs. count_by is_rest xs ≤ count_by is_rest (drop n steps)) (drop_on n steps) (rests_behind (drop n steps))

-- a read leaves a connection as it stands
pub read_stands : (count : ℕ) (pieces : List (List ℕ)) (link : PlainLink) → (with_read count pieces link).stage ≡ link.stage
read_stands count [] link = refl
read_stands count (piece ∷ pieces) link = go (nat_lt count (length piece))
  where
    go : (b : Bool) → (if b then record link { pieces = drop count piece ∷ pieces } else record link { pieces = pieces; arrived = link.arrived - 1 }).stage ≡ link.stage
    go true = refl
    go false = refl

pub arrival_stands : (link : PlainLink) → marks_owed_at (with_arrival link).stage ≤ marks_owed_at link.stage
arrival_stands link = go (nat_lt link.arrived (length link.pieces))
  where
    go : (b : Bool) → marks_owed_at (if b then record link { arrived = suc link.arrived } else link).stage ≤ marks_owed_at link.stage
    go true = omega arith
    go false = omega arith

-- where one place of rest is noted at a step of rest
pub rested_room : (marks places : ℕ) (s t : ServedScript) → HasRoomFor marks places s → (more : ℕ) (n : ℕ) (items : List Step) → s.steps ≡ drop n items → first_of s.steps ≡ Some Rests
    → (place : RestPlace) → t.rests ≡ s.rests ++ place ∷ [] → more ≡ places → t.steps ≡ drop (n + 1) items → t.links ≡ s.links → t.tape ≡ s.tape → HasRoomFor marks more t
rested_room marks places s t room more n items is first place noted same steps links tape =
    let less : count_by is_rest (drop 1 s.steps) + 1 ≡ count_by is_rest s.steps = rests_less s.steps first in
    let behind : count_by is_rest t.steps ≡ count_by is_rest (drop 1 s.steps) =
    ap (λ (xs : List Step). count_by is_rest xs) (steps ∙ sym (drop_on n items) ∙ sym (ap (λ (xs : List Step). drop 1 xs) is)) in
    let fits : length s.rests + count_by is_rest s.steps ≤ places = room.for_rests in
    let long : length t.rests ≡ length s.rests + 1 = one_longer s.rests t.rests place noted in
    record {
      sound = subst (λ xs. list_all is_sound_link xs ≡ true) (sym links) room.sound;
      few = subst (λ n. n < 2 ^ 32) (sym (ap length links)) room.few;
      for_marks = subst (λ xs. length t.tape + marks_owed xs ≤ marks) (sym links) (subst (λ n. n + marks_owed s.links ≤ marks) (sym (ap length tape)) room.for_marks);
      for_rests = omega arith;
    }

-- after an end, or a fault, one mark is owed
pub end_owed : (links : List PlainLink) (c : ℕ) (change : PlainLink → PlainLink) → c < length links → marks_owed_at (change (link_at links c)).stage ≡ 1
    → marks_owed (with_link c change links) ≡ marks_owed (with_link c with_end links)
end_owed links c change below one =
    let sum : marks_owed (with_link c change links) + marks_owed_at (link_at links c).stage ≡ marks_owed links + marks_owed_at (change (link_at links c)).stage =
    owed_changed c change links below in
    let end : marks_owed (with_link c with_end links) + marks_owed_at (link_at links c).stage ≡ marks_owed links + 1 = owed_changed c with_end links below in
    omega arith

-- and in all three marks for each connection are owed at most
pub end_at_most : (links : List PlainLink) (c : ℕ) → marks_owed (with_link c with_end links) ≤ 3 * length links
end_at_most links c =
    let most : marks_owed (with_link c with_end links) ≤ 3 * length (with_link c with_end links) = owed_at_most (with_link c with_end links) in
    let same : length (with_link c with_end links) ≡ length links = length-set links c (with_end (link_at links c)) in
    omega arith

-- what a copy of the front of a piece tells
pub record IsCopied (lent count : ℕ) (bytes : List ℕ) (link : PlainLink) : Type 0 where
  pub piece : List ℕ
  pub oldest : oldest_of link ≡ Some piece
  pub same : bytes ≡ take count piece
  pub long : length bytes ≡ count
  pub within : count ≤ lent

pub copied : (lent count : ℕ) (bytes : List ℕ) (link : PlainLink) → taken_by_read lent link ≡ Bytes count → IsCopyOfFront count bytes (oldest_of link) → IsCopied lent count bytes link
copied lent count bytes link comes copy = go (oldest_of link) refl comes copy
  where
    go : (o : Option (List ℕ)) → oldest_of link ≡ o → taken_of_piece lent (shown_finish link) o ≡ Bytes count → IsCopyOfFront count bytes o → IsCopied lent count bytes link
    go None is comes copy = absurd copy
    go (Some piece) is comes copy =
        let same : min (min lent most_read) (length piece) ≡ count = ap count_in comes in
        let long : length (take count piece) ≡ min count (length piece) = length-take count piece in
        let mine : length bytes ≡ length (take count piece) = ap length copy in
        record { piece = piece; oldest = is; same = copy; long = omega arith; within = omega arith }

pub front_copied : (count : ℕ) (bytes into : List ℕ) (o : Option (List ℕ)) (piece : List ℕ) → o ≡ Some piece → take count into ≡ bytes → bytes ≡ take count piece → IsFrontOfPiece (Bytes count) into o
front_copied count bytes into o piece is front same = subst (λ (x : Option (List ℕ)). IsFrontOfPiece (Bytes count) into x) (sym is) (front ∙ same)
