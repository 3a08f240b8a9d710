-- What each call of links over a script leaves follows the script.
use Rattle.std.proofs.Common.{◌≡◌, ◌≢◌, ℕ, zero, suc, ◌+◌, ◌-◌, ◌<◌, ◌≤◌, Bool, true, false, min, nat_lt, nat_le, if◌then◌else◌, Option, None, Some, List, [], ◌∷◌, ◌++◌, filter, length, take, drop, slice_get, refl, sym, ap, ◌∙◌, subst, arith, append-nil, true≢false, length-append, length-take}
use Rattle.std.specs.List.{list_all}
use Rattle.std.proofs.lemmas.Bool.{and_parts, ltb-true, leb-true}
use Rattle.std.proofs.lemmas.Option.{none-some, same_Some}
use Rattle.streams.specs.declared.marks.Mark.{Mark}
use Rattle.streams.specs.declared.marks.Mark.TheVariants.{Read, Ended as EndedMark, Wrote, ReadFailed, WriteFailed, Closed as ClosedMark}
use Rattle.outside.specs.declared.answers.Taken.{Taken}
use Rattle.outside.specs.declared.answers.Taken.TheVariants.{Bytes, End, NotYet, Failed, NoMemory}
use Rattle.outside.specs.Reading.{bytes_read}
use Rattle.host_model.specs.Marks.{connection_of, marks_of, input}
use Rattle.script_model.specs.Arrival.{bytes_of_pieces}
use Rattle.script_model.specs.ScriptLines.{PlanLine, PlanRule, takes_most, blocks, fails, ScriptPlan, pieces_on, ends_input, fails_input, some_line, rules_of, governs, rule_of}
use Rattle.script_model.specs.Playing.{InputFinish, finishes, faults, most_read}
use Rattle.script_model.specs.RestLines.{opened_by}
use Rattle.script_model.specs.Writing.{writes_in}
use Rattle.script_model.proofs.Written.{next_left, none_left}
use Rattle.script_links.specs.declared.link.LinkStage.{LinkStage}
use Rattle.script_links.specs.declared.link.LinkStage.TheVariants as stages
use Rattle.script_links.specs.ServedScript.{PlainLink, ServedScript, link_at, with_link, is_coming, is_open_stage, is_open_at, has_bytes, lets_some, is_sound_link}
use Rattle.script_links.specs.Plain.{oldest_of, shown_finish, with_read, with_bytes_read, with_end, with_fault, with_closing, with_written, with_rule_used, with_ruled_fault, taken_at_finish, taken_of_piece, taken_by_read, taken_by_rules, left_by_read, left_by_write, left_by_close, MayComeTo, IsFrontOfPiece}
use Rattle.script_links.specs.Shows.{transfer_in, ShowsItsScript, IsReadThrough, IsNextOfPiece, taken_under}
use Rattle.script_links.specs.Followed.{LeavesPieces, LinkFollows, FollowsSoFar}
use Rattle.script_links.proofs.Connected.{open_is_there}
use Rattle.script_links.proofs.Keeping.{IsSoundLink, sound_parts, count_in, read_stands}
use Rattle.script_links.proofs.Reading.{oldest_is, none_arrived, all_shown}
use Rattle.script_links.proofs.Marking.{get_on, get_last}
use Rattle.script_links.proofs.Pieces.{leaves_read, coming_read, next_of_piece}
use Rattle.script_links.proofs.LinkFollowing.{marked_link, closed_link, blocked_link}
use Rattle.script_links.proofs.Following.{same_follows, marked_follows, quiet_follows}

open_not_coming : (stage : LinkStage) → is_open_stage stage ≡ true → is_coming stage ≡ false
open_not_coming stages.Coming e = absurd (true≢false (sym e))
open_not_coming stages.Open e = refl
open_not_coming stages.Ended e = refl
open_not_coming stages.Closed e = refl

abbrev is_bytes : Taken → Bool
is_bytes (Bytes count) = true
is_bytes _ = false

abbrev says_end : Taken → Bool
says_end End = true
says_end _ = false

abbrev says_failed : Taken → Bool
says_failed Failed = true
says_failed _ = false

abbrev says_later : Taken → Bool
says_later NotYet = true
says_later _ = false

finish_end : (finish : Option InputFinish) → End ≡ taken_at_finish finish → finish ≡ Some finishes
finish_end None e = absurd (true≢false (ap says_end e))
finish_end (Some finishes) e = refl
finish_end (Some faults) e = absurd (true≢false (ap says_end e))

finish_fault : (finish : Option InputFinish) → Failed ≡ taken_at_finish finish → finish ≡ Some faults
finish_fault None e = absurd (true≢false (ap says_failed e))
finish_fault (Some finishes) e = absurd (true≢false (ap says_failed e))
finish_fault (Some faults) e = refl

-- what is known to come after all pieces, where all have arrived
finish_known : (link : PlainLink) (finish : InputFinish) → shown_finish link ≡ Some finish → (link.finish ≡ Some finish) × (nat_le (length link.pieces) link.arrived ≡ true)
finish_known link finish e = go (nat_le (length link.pieces) link.arrived) refl e
  where
    go : (b : Bool) → nat_le (length link.pieces) link.arrived ≡ b → (if b then link.finish else None) ≡ Some finish
        → (link.finish ≡ Some finish) × (nat_le (length link.pieces) link.arrived ≡ true)
    go true test e = (e, test)
    go false test e = absurd (none-some finish e)

module _ (script : ScriptPlan) (s : ServedScript) (f : FollowsSoFar script s) (c : ℕ) (here : is_open_at s.links c ≡ true) where
  abbrev link : PlainLink
  link = link_at s.links c

  below : c < length s.links
  below = open_is_there s.links c here

  own : LinkFollows script f.done f.left s.tape c link
  own = f.each c below

  not_coming : is_coming link.stage ≡ false
  not_coming = open_not_coming link.stage here

  -- a closing
  pub close_follows : FollowsSoFar script (left_by_close c s)
  close_follows =
      marked_follows script s f c below with_closing (ClosedMark c) s.blocked s.lengths refl refl (omega arith) (λ k x e. e) tt (sym not_coming)
      (closed_link script f.done f.left f.split s.tape c link own)

  -- all pieces were read, where none is left
  read_through : link.pieces ≡ [] → IsReadThrough script c s.tape
  read_through none =
      sym (append-nil (input (marks_of c s.tape))) ∙ ap (λ (xs : List (List ℕ)). input (marks_of c s.tape) ++ bytes_of_pieces xs) (sym none) ∙ own.leaves.bytes

  -- a mark without bytes leaves what is left
  leaves_same : LeavesPieces (pieces_on c script.lines) (input (marks_of c s.tape) ++ []) link.pieces
  leaves_same = subst (λ read. LeavesPieces (pieces_on c script.lines) read link.pieces) (sym (append-nil (input (marks_of c s.tape)))) own.leaves

  no_write : filter governs link.rules ≡ drop (writes_in (marks_of c s.tape) + 0) (filter governs (rules_of c script))
  no_write = own.rules ∙ ap (λ n. drop n (filter governs (rules_of c script))) (let e : writes_in (marks_of c s.tape) ≡ writes_in (marks_of c s.tape) + 0 = omega arith in e)

  one_write : (rules : List PlanRule) → rules ≡ drop (suc (writes_in (marks_of c s.tape))) (filter governs (rules_of c script))
      → rules ≡ drop (writes_in (marks_of c s.tape) + 1) (filter governs (rules_of c script))
  one_write rules e = e ∙ ap (λ n. drop n (filter governs (rules_of c script))) (let e : suc (writes_in (marks_of c s.tape)) ≡ writes_in (marks_of c s.tape) + 1 = omega arith in e)

  -- its end, or a fault of a read
  end_follows : oldest_of link ≡ None → shown_finish link ≡ Some finishes → FollowsSoFar script (record s { links = with_link c with_end s.links; tape = s.tape ++ EndedMark c ∷ [] })
  end_follows none finish =
      let known : (link.finish ≡ Some finishes) × (nat_le (length link.pieces) link.arrived ≡ true) = finish_known link finishes finish in
      marked_follows script s f c below with_end (EndedMark c) s.blocked s.lengths refl refl (omega arith) (λ k x e. e)
      (own.ends known.0, read_through ((none_arrived link none).1 known.1)) (sym not_coming)
      (marked_link script f.done f.left f.split s.tape c link own (EndedMark c) (with_end link) refl refl refl here refl refl leaves_same refl no_write)

  fault_follows : oldest_of link ≡ None → shown_finish link ≡ Some faults → FollowsSoFar script (record s { links = with_link c with_fault s.links; tape = s.tape ++ ReadFailed c ∷ [] })
  fault_follows none finish =
      let known : (link.finish ≡ Some faults) × (nat_le (length link.pieces) link.arrived ≡ true) = finish_known link faults finish in
      marked_follows script s f c below with_fault (ReadFailed c) s.blocked s.lengths refl refl (omega arith) (λ k x e. e)
      (own.fails known.0, read_through ((none_arrived link none).1 known.1)) (sym not_coming)
      (marked_link script f.done f.left f.split s.tape c link own (ReadFailed c) (with_fault link) refl refl refl here refl refl leaves_same refl no_write)

  -- one more length is known behind those before
  module _ (lent : ℕ) where
    more_lengths : (k x : ℕ) → slice_get s.lengths k ≡ Some x → slice_get (s.lengths ++ lent ∷ []) k ≡ Some x
    more_lengths k x e = get_on s.lengths (lent ∷ []) k x e

    last_length : slice_get (s.lengths ++ lent ∷ []) (length s.lengths) ≡ Some lent
    last_length = get_last s.lengths lent

    one_more : length (s.lengths ++ lent ∷ []) ≡ length s.lengths + 1
    one_more = length-append s.lengths (lent ∷ [])

  -- bytes of the piece under way
  bytes_follow : (count lent : ℕ) (piece : List ℕ) → is_sound_link link ≡ true → 0 < lent → oldest_of link ≡ Some piece → count ≡ min (min lent most_read) (length piece)
      → FollowsSoFar script (record s { links = with_link c (with_bytes_read count) s.links; tape = s.tape ++ Read c (take count piece) ∷ []; lengths = s.lengths ++ lent ∷ [] })
  bytes_follow count lent piece sound room old is =
      let first : (0 < link.arrived) × (link.pieces ≡ piece ∷ drop 1 link.pieces) = oldest_is link piece old in
      let full : has_bytes piece ≡ true = (and_parts _ _ (subst (λ xs. list_all has_bytes xs ≡ true) first.1 (sound_parts link sound).pieces)).0 in
      let some : 0 < length piece = ltb-true 0 (length piece) full in
      let within : count ≤ length piece = omega arith in
      let cut : length (take count piece) ≡ min count (length piece) = length-take count piece in
      let long : length (take count piece) ≡ count = omega arith in
      let before : LeavesPieces (pieces_on c script.lines) (input (marks_of c s.tape)) (piece ∷ drop 1 link.pieces) =
      subst (LeavesPieces (pieces_on c script.lines) (input (marks_of c s.tape))) first.1 own.leaves in
      let read_is : with_bytes_read count link ≡ with_read count (piece ∷ drop 1 link.pieces) link = ap (λ xs. with_read count xs link) first.1 in
      marked_follows script s f c below (with_bytes_read count) (Read c (take count piece)) s.blocked (s.lengths ++ lent ∷ []) refl refl (one_more lent) (more_lengths lent) (
        lent,
        ap (slice_get (s.lengths ++ lent ∷ [])) (sym f.lent) ∙ last_length lent,
        next_of_piece (pieces_on c script.lines) (drop 1 link.pieces) (input (marks_of c s.tape)) piece count lent before some room is long,
      )
      (ap is_coming (read_stands count link.pieces link))
      (marked_link script f.done f.left f.split s.tape c link own (Read c (take count piece)) (with_bytes_read count link) refl refl refl here
      (ap is_open_stage (read_stands count link.pieces link) ∙ here) (same_finish link.pieces)
      (subst (λ (l : PlainLink). LeavesPieces (pieces_on c script.lines) (input (marks_of c s.tape) ++ take count piece) l.pieces) (sym read_is)
      (leaves_read (pieces_on c script.lines) (drop 1 link.pieces) (input (marks_of c s.tape)) piece count link within before))
      (ap (λ (l : PlainLink). drop l.arrived l.pieces) read_is ∙ coming_read count piece (drop 1 link.pieces) link first.0 ∙ ap (drop link.arrived) (sym first.1))
      (ap (filter governs) (same_rules link.pieces) ∙ no_write))
    where
      same_finish : (pieces : List (List ℕ)) → (with_read count pieces link).finish ≡ link.finish
      same_finish [] = refl
      same_finish (piece ∷ pieces) = go (nat_lt count (length piece))
        where
          go : (b : Bool) → (if b then record link { pieces = drop count piece ∷ pieces } else record link { pieces = pieces; arrived = link.arrived - 1 }).finish ≡ link.finish
          go true = refl
          go false = refl

      same_rules : (pieces : List (List ℕ)) → (with_read count pieces link).rules ≡ link.rules
      same_rules [] = refl
      same_rules (piece ∷ pieces) = go (nat_lt count (length piece))
        where
          go : (b : Bool) → (if b then record link { pieces = drop count piece ∷ pieces } else record link { pieces = pieces; arrived = link.arrived - 1 }).rules ≡ link.rules
          go true = refl
          go false = refl

  -- a read
  pub read_follows : (lent : ℕ) (into : List ℕ) (taken : Taken) → is_sound_link link ≡ true → 0 < lent → MayComeTo (taken_by_read lent link) taken → IsFrontOfPiece taken into (oldest_of link)
      → FollowsSoFar script (left_by_read c lent (bytes_read into taken) taken s)
  read_follows lent into taken sound room comes front = by_oldest taken (oldest_of link) refl comes front
    where
      by_oldest : (taken : Taken) (o : Option (List ℕ)) → oldest_of link ≡ o → MayComeTo (taken_of_piece lent (shown_finish link) o) taken → IsFrontOfPiece taken into o
          → FollowsSoFar script (left_by_read c lent (bytes_read into taken) taken s)
      by_oldest (Bytes count) None is comes front = absurd front
      by_oldest (Bytes count) (Some piece) is comes front =
          subst (λ bytes. FollowsSoFar script (record s { links = with_link c (with_bytes_read count) s.links; tape = s.tape ++ Read c bytes ∷ []; lengths = s.lengths ++ lent ∷ [] })) (sym front)
          (bytes_follow count lent piece sound room is (ap count_in comes))
      by_oldest End None is comes front = end_follows is (finish_end (shown_finish link) comes)
      by_oldest End (Some piece) is comes front = absurd (true≢false (ap says_end comes))
      by_oldest NotYet o is comes front = f
      by_oldest Failed None is comes front = fault_follows is (finish_fault (shown_finish link) comes)
      by_oldest Failed (Some piece) is comes front = absurd (true≢false (ap says_failed comes))
      by_oldest NoMemory o is comes front = f

  -- a write under a rule, or under none
  wrote_follows : (offered count : ℕ) (bytes : List ℕ) → length bytes ≡ count → 0 < count → taken_under (rule_of script c (writes_in (marks_of c s.tape))) offered ≡ Some count
      → filter governs (with_rule_used link).rules ≡ drop (suc (writes_in (marks_of c s.tape))) (filter governs (rules_of c script))
      → FollowsSoFar script (record s { links = with_link c (with_written bytes) s.links; tape = s.tape ++ Wrote c bytes ∷ []; lengths = s.lengths ++ offered ∷ [] })
  wrote_follows offered count bytes long some takes after =
      marked_follows script s f c below (with_written bytes) (Wrote c bytes) s.blocked (s.lengths ++ offered ∷ []) refl refl (one_more offered) (more_lengths offered)
      (offered, ap (slice_get (s.lengths ++ offered ∷ [])) (sym f.lent) ∙ last_length offered, omega arith, takes ∙ ap Some (sym long)) refl
      (marked_link script f.done f.left f.split s.tape c link own (Wrote c bytes) (with_written bytes link) refl refl refl here here refl leaves_same refl
      (one_write (filter governs (with_rule_used link).rules) after))

  failed_follows : rule_of script c (writes_in (marks_of c s.tape)) ≡ Some fails
      → filter governs (with_rule_used link).rules ≡ drop (suc (writes_in (marks_of c s.tape))) (filter governs (rules_of c script))
      → FollowsSoFar script (record s { links = with_link c with_ruled_fault s.links; tape = s.tape ++ WriteFailed c ∷ [] })
  failed_follows rule after =
      marked_follows script s f c below with_ruled_fault (WriteFailed c) s.blocked s.lengths refl refl (omega arith) (λ k x e. e) rule (sym not_coming)
      (marked_link script f.done f.left f.split s.tape c link own (WriteFailed c) (with_ruled_fault link) refl refl refl here refl refl leaves_same refl
      (one_write (filter governs (with_rule_used link).rules) after))

  blocked_follows : filter governs (with_rule_used link).rules ≡ filter governs link.rules → FollowsSoFar script (record s { links = with_link c with_rule_used s.links; blocked = s.blocked ++ c ∷ [] })
  blocked_follows same =
      quiet_follows script s f c below with_rule_used (s.blocked ++ c ∷ []) refl (blocked_link script f.done f.left f.split s.tape c link own same)

  -- a write
  pub write_follows : (bytes : List ℕ) (taken : Taken) → is_sound_link link ≡ true → 0 < length bytes → MayComeTo (taken_by_rules (length bytes) link.rules) taken → FollowsSoFar script (left_by_write c bytes taken s)
  write_follows bytes taken sound some comes = by_rules link.rules refl (sound_parts link sound).rules taken comes
    where
      made : ℕ
      made = writes_in (marks_of c s.tape)

      ruled : List PlanRule
      ruled = filter governs (rules_of c script)

      cut_long : (count : ℕ) → count ≤ length bytes → length (take count bytes) ≡ count
      cut_long count within = let cut : length (take count bytes) ≡ min count (length bytes) = length-take count bytes in omega arith

      by_rules : (rules : List PlanRule) → link.rules ≡ rules → list_all lets_some rules ≡ true → (taken : Taken) → MayComeTo (taken_by_rules (length bytes) rules) taken → FollowsSoFar script (left_by_write c bytes taken s)
      by_rules [] is lets (Bytes count) comes =
          let same : count ≡ length bytes = ap count_in comes in
          let left : drop made ruled ≡ [] = sym own.rules ∙ ap (filter governs) is in
          let none : (slice_get ruled made ≡ None) × (drop (suc made) ruled ≡ []) = none_left made ruled left in
          wrote_follows (length bytes) count (take count bytes) (cut_long count (omega arith)) (omega arith) (ap (λ o. taken_under o (length bytes)) none.0 ∙ ap Some (sym same))
          (ap (λ (xs : List PlanRule). filter governs (drop 1 xs)) is ∙ sym none.1)
      by_rules [] is lets End comes = absurd (true≢false (ap says_end comes))
      by_rules [] is lets NotYet comes = absurd (true≢false (ap says_later comes))
      by_rules [] is lets Failed comes = absurd (true≢false (ap says_failed comes))
      by_rules [] is lets NoMemory comes = f
      by_rules (takes_most most ∷ rules) is lets (Bytes count) comes =
          let same : count ≡ min most (length bytes) = ap count_in comes in
          let left : drop made ruled ≡ takes_most most ∷ filter governs rules = sym own.rules ∙ ap (filter governs) is in
          let next : (slice_get ruled made ≡ Some (takes_most most)) × (drop (suc made) ruled ≡ filter governs rules) = next_left made ruled (filter governs rules) (takes_most most) left in
          let one : 0 < most = ltb-true 0 most (and_parts _ _ lets).0 in
          wrote_follows (length bytes) count (take count bytes) (cut_long count (omega arith)) (omega arith) (ap (λ o. taken_under o (length bytes)) next.0 ∙ ap Some (sym same))
          (ap (λ (xs : List PlanRule). filter governs (drop 1 xs)) is ∙ sym next.1)
      by_rules (takes_most most ∷ rules) is lets End comes = absurd (true≢false (ap says_end comes))
      by_rules (takes_most most ∷ rules) is lets NotYet comes = absurd (true≢false (ap says_later comes))
      by_rules (takes_most most ∷ rules) is lets Failed comes = absurd (true≢false (ap says_failed comes))
      by_rules (takes_most most ∷ rules) is lets NoMemory comes = f
      by_rules (blocks ∷ rules) is lets NotYet comes = blocked_follows (ap (λ (xs : List PlanRule). filter governs (drop 1 xs)) is ∙ sym (ap (filter governs) is))
      by_rules (blocks ∷ rules) is lets (Bytes count) comes = absurd (true≢false (ap is_bytes comes))
      by_rules (blocks ∷ rules) is lets End comes = absurd (true≢false (ap says_end comes))
      by_rules (blocks ∷ rules) is lets Failed comes = absurd (true≢false (ap says_failed comes))
      by_rules (blocks ∷ rules) is lets NoMemory comes = f
      by_rules (fails ∷ rules) is lets Failed comes =
          let left : drop made ruled ≡ fails ∷ filter governs rules = sym own.rules ∙ ap (filter governs) is in
          let next : (slice_get ruled made ≡ Some fails) × (drop (suc made) ruled ≡ filter governs rules) = next_left made ruled (filter governs rules) fails left in
          failed_follows next.0 (ap (λ (xs : List PlanRule). filter governs (drop 1 xs)) is ∙ sym next.1)
      by_rules (fails ∷ rules) is lets (Bytes count) comes = absurd (true≢false (ap is_bytes comes))
      by_rules (fails ∷ rules) is lets End comes = absurd (true≢false (ap says_end comes))
      by_rules (fails ∷ rules) is lets NotYet comes = absurd (true≢false (ap says_later comes))
      by_rules (fails ∷ rules) is lets NoMemory comes = f
