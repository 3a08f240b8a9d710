-- A run on the pieces of one connection is fed by their script, and the other way round.
use Rattle.std.proofs.Common.{◌≡◌, ℕ, zero, suc, ◌+◌, ◌≤◌, Bool, true, false, true≢false, ◌==◌, Some, List, [], ◌∷◌, ◌++◌, map, slice_get, refl, sym, ap, ◌∙◌, subst, arith, append-nil}
use Rattle.std.specs.List.{AllByRecursion}
use Rattle.std.proofs.lemmas.Bool.{false≢true}
use Rattle.std.proofs.lemmas.Grind.{flat_map-append}
use Rattle.std.proofs.lemmas.Option.{none-some, same_Some}
use Rattle.streams.specs.declared.marks.Mark.{Mark}
use Rattle.streams.specs.declared.marks.Mark.TheVariants.{Opened, Read, Ended, Wrote, ReadFailed, WriteFailed, Closed}
use Rattle.host_model.specs.declared.cause.EndCause.{EndCause}
use Rattle.host_model.specs.declared.cause.EndCause.TheVariants.{End, Cut, SizeFault, Envelope, ReadFault, WriteFault, NoMemory, Stopped}
use Rattle.host_model.specs.Marks.{connection_of, marks_of, read_by, input, Marks, IsTransfer, ending}
use Rattle.host_model.specs.Journal.{JournalEntry, ServiceRules, entries_of}
use Rattle.host_model.specs.DeskRules.{DeskRules}
use Rattle.host_model.specs.Conversation.{IsPrefix}
use Rattle.host_model.specs.Headline.{Headline}
use Rattle.host_model.proofs.Lists.{cons_parts, front_nil}
use Rattle.script_model.specs.Arrival.{bytes_of_pieces, ends_from, arrival_of}
use Rattle.script_model.specs.Feeding.{EachReadTakesItsPart}
use Rattle.script_model.specs.Rehearsal.{is_scripted, IsReadToItsEnd, FollowsArrival, IsRunOfArrivals}
use Rattle.script_model.proofs.Marked.{kind_of, all_own, own_filter}
use Rattle.script_model.specs.ScriptLines.{PlanLine, piece, input_end, resting, openings, pieces_on, ends_input, some_line, count_up}
use Rattle.script_model.specs.Writing.{KeepsItsRules}
use Rattle.script_model.specs.RestLines.{opened_by, opened_in}
use Rattle.script_model.specs.Fed.{IsReadFrom, IsFedBy, script_of_one}

-- what holds of all elements holds of one among them
pub all_at : {X : Type 0} (P : X → Type 0) (xs ys : List X) (x : X) → AllByRecursion P (xs ++ x ∷ ys) → P x
all_at P [] ys x a = a.0
all_at P (z ∷ xs) ys x a = all_at P xs ys x a.1

-- an element that isn't among the first stands among the others
behind_first : {X : Type 0} (test : X → Bool) (ts es xs ys : List X) (x : X) → AllByRecursion (λ t. test t ≡ false) ts → test x ≡ true → ts ++ es ≡ xs ++ x ∷ ys
    → (ws : List X) × (xs ≡ ts ++ ws) × (es ≡ ws ++ x ∷ ys)
behind_first test [] es xs ys x none is e = (xs, refl, e)
behind_first test (t ∷ ts) es [] ys x none is e = absurd (true≢false (sym is ∙ ap test (sym (cons_parts t x (ts ++ es) ys e).0) ∙ none.0))
behind_first {X} test (t ∷ ts) es (z ∷ xs) ys x none is e =
    let p : (t ≡ z) × (ts ++ es ≡ xs ++ x ∷ ys) = cons_parts t z (ts ++ es) (xs ++ x ∷ ys) e in
    let r : (ws : List X) × (xs ≡ ts ++ ws) × (es ≡ ws ++ x ∷ ys) = behind_first test ts es xs ys x none.1 is p.1 in
    (r.0, (λ i. sym p.0 i ∷ r.1 i), r.2)

input-append : (xs ys : List Mark) → input (xs ++ ys) ≡ input xs ++ input ys
input-append xs ys = flat_map-append read_by xs ys

-- reads and writes are of no other kind, and open nothing
transfers_other : (k : ℕ) (ts : List Mark) → (1 == k) ≡ false → (3 == k) ≡ false → AllByRecursion IsTransfer ts → AllByRecursion (λ t. (kind_of t == k) ≡ false) ts
transfers_other k [] r w a = tt
transfers_other k (Read c bytes ∷ ts) r w a = (r, transfers_other k ts r w a.1)
transfers_other k (Wrote c bytes ∷ ts) r w a = (w, transfers_other k ts r w a.1)
transfers_other k (Opened c ∷ ts) r w a = absurd a.0
transfers_other k (Ended c ∷ ts) r w a = absurd a.0
transfers_other k (ReadFailed c ∷ ts) r w a = absurd a.0
transfers_other k (WriteFailed c ∷ ts) r w a = absurd a.0
transfers_other k (Closed c ∷ ts) r w a = absurd a.0

transfers_open_none : (ts : List Mark) → AllByRecursion IsTransfer ts → opened_in ts ≡ []
transfers_open_none [] a = refl
transfers_open_none (Read c bytes ∷ ts) a = transfers_open_none ts a.1
transfers_open_none (Wrote c bytes ∷ ts) a = transfers_open_none ts a.1
transfers_open_none (Opened c ∷ ts) a = absurd a.0
transfers_open_none (Ended c ∷ ts) a = absurd a.0
transfers_open_none (ReadFailed c ∷ ts) a = absurd a.0
transfers_open_none (WriteFailed c ∷ ts) a = absurd a.0
transfers_open_none (Closed c ∷ ts) a = absurd a.0

ending_opens_none : (cause : EndCause) → opened_in (ending 0 cause) ≡ []
ending_opens_none End = refl
ending_opens_none Cut = refl
ending_opens_none (SizeFault size) = refl
ending_opens_none (Envelope fault) = refl
ending_opens_none ReadFault = refl
ending_opens_none WriteFault = refl
ending_opens_none NoMemory = refl
ending_opens_none Stopped = refl

ending_reads_none : (cause : EndCause) → input (ending 0 cause) ≡ []
ending_reads_none End = refl
ending_reads_none Cut = refl
ending_reads_none (SizeFault size) = refl
ending_reads_none (Envelope fault) = refl
ending_reads_none ReadFault = refl
ending_reads_none WriteFault = refl
ending_reads_none NoMemory = refl
ending_reads_none Stopped = refl

-- the last marks of a scripted cause are of no failure
never_fails : (k : ℕ) (cause : EndCause) → is_scripted cause ≡ true → (2 == k) ≡ false → (6 == k) ≡ false → AllByRecursion (λ t. (kind_of t == k) ≡ false) (ending 0 cause)
never_fails k End s e c = (e, (c, tt))
never_fails k Cut s e c = (e, (c, tt))
never_fails k (SizeFault size) s e c = (c, tt)
never_fails k NoMemory s e c = (c, tt)
never_fails k (Envelope fault) s e c = (c, tt)
never_fails k ReadFault s e c = absurd (false≢true s)
never_fails k WriteFault s e c = absurd (false≢true s)
never_fails k Stopped s e c = absurd (false≢true s)

-- an input that has ended was read to its end
read_all : (cause : EndCause) (read all : List ℕ) (ws ys : List Mark) → is_scripted cause ≡ true → IsReadToItsEnd cause read all → ending 0 cause ≡ ws ++ Ended 0 ∷ ys → read ≡ all
read_all End read all ws ys s r e = r
read_all Cut read all ws ys s r e = r
read_all (SizeFault size) read all ws ys s r e =
    absurd (true≢false (all_at (λ t. (kind_of t == 2) ≡ false) ws ys (Ended 0) (subst (AllByRecursion (λ t. (kind_of t == 2) ≡ false)) e (refl, tt))))
read_all NoMemory read all ws ys s r e =
    absurd (true≢false (all_at (λ t. (kind_of t == 2) ≡ false) ws ys (Ended 0) (subst (AllByRecursion (λ t. (kind_of t == 2) ≡ false)) e (refl, tt))))
read_all (Envelope fault) read all ws ys s r e =
    absurd (true≢false (all_at (λ t. (kind_of t == 2) ≡ false) ws ys (Ended 0) (subst (AllByRecursion (λ t. (kind_of t == 2) ≡ false)) e (refl, tt))))
read_all ReadFault read all ws ys s r e = absurd (false≢true s)
read_all WriteFault read all ws ys s r e = absurd (false≢true s)
read_all Stopped read all ws ys s r e = absurd (false≢true s)

-- what the script of one connection says
pieces_there : (pieces : List (List ℕ)) → pieces_on 0 (map (piece 0) pieces ++ input_end 0 ∷ []) ≡ pieces
pieces_there [] = refl
pieces_there (p ∷ pieces) = ap (λ ps. p ∷ ps) (pieces_there pieces)

opens_no_more : (pieces : List (List ℕ)) → openings (map (piece 0) pieces ++ input_end 0 ∷ []) ≡ 0
opens_no_more [] = refl
opens_no_more (p ∷ pieces) = let t : openings (map (piece 0) pieces ++ input_end 0 ∷ []) ≡ 0 = opens_no_more pieces in omega arith

has_its_end : (pieces : List (List ℕ)) → some_line (ends_input 0) (map (piece 0) pieces ++ input_end 0 ∷ []) ≡ true
has_its_end [] = refl
has_its_end (p ∷ pieces) = has_its_end pieces

rests : PlanLine → Bool
rests resting = true
rests _ = false

rests_nowhere : (pieces : List (List ℕ)) → AllByRecursion (λ line. rests line ≡ false) (map (piece 0) pieces ++ input_end 0 ∷ [])
unfolding rests
rests_nowhere [] = (refl, tt)
rests_nowhere (p ∷ pieces) = (refl, rests_nowhere pieces)

no_rest : (pieces : List (List ℕ)) (before behind : List PlanLine) → (script_of_one pieces).lines ≡ before ++ resting ∷ behind → ⊥
unfolding rests
no_rest pieces before behind e =
    true≢false (all_at (λ line. rests line ≡ false) before behind resting (subst (AllByRecursion (λ line. rests line ≡ false)) e (refl, rests_nowhere pieces)))

module _ {C A M : Type 0} (d : DeskRules C A) (r : ServiceRules C A M) (memories : List M) (budget : ℕ) (pieces : List (List ℕ)) (tape : List Mark) (journal : List (JournalEntry C A))
    (cause : EndCause) (h : Headline d r memories tape journal (cause ∷ [])) (scripted : is_scripted cause ≡ true) where
  marks : Marks 0 (marks_of 0 tape) cause
  marks = (h.each 0 cause refl).marks

  all_of_it : AllByRecursion (λ m. connection_of m ≡ 0) tape
  all_of_it = all_own connection_of tape (λ c l. h.no_marks c l)

  shape : tape ≡ (Opened 0 ∷ marks.transfers) ++ ending 0 cause
  shape = sym (own_filter connection_of tape all_of_it) ∙ marks.shape

  -- each mark is of the one connection
  of_one : (front back : List Mark) (m : Mark) → tape ≡ front ++ m ∷ back → connection_of m ≡ 0
  of_one front back m e = all_at (λ x. connection_of x ≡ 0) front back m (subst (AllByRecursion (λ x. connection_of x ≡ 0)) e all_of_it)

  none_else : (c : ℕ) → input (marks_of (suc c) tape) ≡ []
  none_else c = ap input (h.no_marks (suc c) (let l : 1 ≤ suc c = omega arith in l))

  front_own : (front back : List Mark) → tape ≡ front ++ back → marks_of 0 front ≡ front
  front_own front back e = own_filter connection_of front (go front back (subst (AllByRecursion (λ x. connection_of x ≡ 0)) e all_of_it))
    where
      go : (xs ys : List Mark) → AllByRecursion (λ x. connection_of x ≡ 0) (xs ++ ys) → AllByRecursion (λ x. connection_of x ≡ 0) xs
      go [] ys a = tt
      go (x ∷ xs) ys a = (a.0, go xs ys a.1)

  -- a mark of this kind stands among the last ones, and before it all was read
  at_the_end : (k : ℕ) (front back : List Mark) (m : Mark) → (0 == k) ≡ false → (1 == k) ≡ false → (3 == k) ≡ false → (kind_of m == k) ≡ true → tape ≡ front ++ m ∷ back
      → (ws : List Mark) × (ending 0 cause ≡ ws ++ m ∷ back) × (input (marks_of 0 front) ≡ input (marks_of 0 tape))
  at_the_end k front back m o x w is e =
      let t : (ws : List Mark) × (front ≡ (Opened 0 ∷ marks.transfers) ++ ws) × (ending 0 cause ≡ ws ++ m ∷ back) =
      behind_first (λ y. kind_of y == k) (Opened 0 ∷ marks.transfers) (ending 0 cause) front back m (o, transfers_other k marks.transfers x w marks.only) is (sym shape ∙ e) in
      let none : input t.0 ≡ [] =
      front_nil (input t.0) (input (m ∷ back)) (sym (input-append t.0 (m ∷ back)) ∙ ap input (sym t.2) ∙ ending_reads_none cause) in
      let here : input (marks_of 0 front) ≡ input (Opened 0 ∷ marks.transfers) =
      ap input (front_own front (m ∷ back) e ∙ t.1) ∙ input-append (Opened 0 ∷ marks.transfers) t.0 ∙ ap (λ b. input (Opened 0 ∷ marks.transfers) ++ b) none
      ∙ append-nil (input (Opened 0 ∷ marks.transfers)) in
      let there : input (marks_of 0 tape) ≡ input (Opened 0 ∷ marks.transfers) =
      ap input marks.shape ∙ input-append (Opened 0 ∷ marks.transfers) (ending 0 cause) ∙ ap (λ b. input (Opened 0 ∷ marks.transfers) ++ b) (ending_reads_none cause)
      ∙ append-nil (input (Opened 0 ∷ marks.transfers)) in
      (t.0, t.2, here ∙ sym there)

  no_failure : (k : ℕ) (front back : List Mark) (m : Mark) → (0 == k) ≡ false → (1 == k) ≡ false → (3 == k) ≡ false → (2 == k) ≡ false → (6 == k) ≡ false → (kind_of m == k) ≡ true
      → tape ≡ front ++ m ∷ back → ⊥
  no_failure k front back m o x w en cl is e =
      let t : (ws : List Mark) × (ending 0 cause ≡ ws ++ m ∷ back) × (input (marks_of 0 front) ≡ input (marks_of 0 tape)) = at_the_end k front back m o x w is e in
      true≢false
      (sym is ∙ all_at (λ y. (kind_of y == k) ≡ false) t.0 back m (subst (AllByRecursion (λ y. (kind_of y == k) ≡ false)) t.1 (never_fails k cause scripted en cl)))

  opened_one : opened_in tape ≡ count_up 0 (openings (script_of_one pieces).lines)
  opened_one =
      ap opened_in shape ∙ flat_map-append opened_by (Opened 0 ∷ marks.transfers) (ending 0 cause)
      ∙ (λ i. (0 ∷ transfers_open_none marks.transfers marks.only i) ++ ending_opens_none cause i)
      ∙ ap (λ n. count_up 0 (1 + n)) (sym (opens_no_more pieces))

  module _ (f : FollowsArrival d is_scripted 0 (arrival_of pieces) tape (entries_of 0 journal) cause) where
    read : (c : ℕ) → IsReadFrom d.max (script_of_one pieces) tape c
    read zero =
        record {
          bytes = subst (λ ps. IsPrefix (input (marks_of 0 tape)) (bytes_of_pieces ps)) (sym (pieces_there pieces)) f.front;
          reads = subst (λ ps. EachReadTakesItsPart d.max 0 (ends_from 0 ps) tape) (sym (pieces_there pieces)) f.fed;
          ended = λ front back e. (
            has_its_end pieces,
            (let t : (ws : List Mark) × (ending 0 cause ≡ ws ++ Ended 0 ∷ back) × (input (marks_of 0 front) ≡ input (marks_of 0 tape)) =
                at_the_end 2 front back (Ended 0) refl refl refl refl e in
                t.2 ∙ read_all cause (input (marks_of 0 tape)) (bytes_of_pieces pieces) t.0 back scripted f.to_its_end t.1 ∙ ap bytes_of_pieces (sym (pieces_there pieces))),
          );
          failed = λ front back e. absurd (no_failure 4 front back (ReadFailed 0) refl refl refl refl refl refl e);
        }
    read (suc c) =
        record {
          bytes = (bytes_of_pieces (pieces_on (suc c) (script_of_one pieces).lines), ap (λ b. b ++ bytes_of_pieces (pieces_on (suc c) (script_of_one pieces).lines)) (sym (none_else c)));
          reads = λ front back bytes e. absurd (let n : suc c ≡ 0 = of_one front back (Read (suc c) bytes) e in let g : ⊥ = omega arith in g);
          ended = λ front back e. absurd (let n : suc c ≡ 0 = of_one front back (Ended (suc c)) e in let g : ⊥ = omega arith in g);
          failed = λ front back e. absurd (let n : suc c ≡ 0 = of_one front back (ReadFailed (suc c)) e in let g : ⊥ = omega arith in g);
        }

    written : (c : ℕ) → KeepsItsRules d (script_of_one pieces) c (entries_of c journal) tape
    written zero =
        record {
          writes = λ front back bytes e. f.written front back bytes e;
          fails_so = λ front back e. absurd (no_failure 5 front back (WriteFailed 0) refl refl refl refl refl refl e);
        }
    written (suc c) =
        record {
          writes = λ front back bytes e. absurd (let n : suc c ≡ 0 = of_one front back (Wrote (suc c) bytes) e in let g : ⊥ = omega arith in g);
          fails_so = λ front back e. absurd (let n : suc c ≡ 0 = of_one front back (WriteFailed (suc c)) e in let g : ⊥ = omega arith in g);
        }

    is_fed : IsFedBy d budget (script_of_one pieces) tape journal
    is_fed =
        record {
          opened = opened_one;
          each_read = read;
          each_written = written;
          rests = λ before behind e. absurd (no_rest pieces before behind e);
        }

  module _ (fed : IsFedBy d budget (script_of_one pieces) tape journal) where
    -- where the last marks say that the input ended, all was read
    ended_there : (ys : List Mark) → ending 0 cause ≡ Ended 0 ∷ ys → input (marks_of 0 tape) ≡ bytes_of_pieces pieces
    ended_there ys is =
        let e : tape ≡ (Opened 0 ∷ marks.transfers) ++ Ended 0 ∷ ys = shape ∙ ap (λ t. (Opened 0 ∷ marks.transfers) ++ t) is in
        let t : (ws : List Mark) × (ending 0 cause ≡ ws ++ Ended 0 ∷ ys) × (input (marks_of 0 (Opened 0 ∷ marks.transfers)) ≡ input (marks_of 0 tape)) =
        at_the_end 2 (Opened 0 ∷ marks.transfers) ys (Ended 0) refl refl refl refl e in
        sym t.2 ∙ ((fed.each_read 0).ended (Opened 0 ∷ marks.transfers) ys e).1 ∙ ap bytes_of_pieces (pieces_there pieces)

    -- an input that has ended was read to its end
    to_its_end : (given : EndCause) → cause ≡ given → is_scripted given ≡ true → IsReadToItsEnd given (input (marks_of 0 tape)) (bytes_of_pieces pieces)
    to_its_end End is s = ended_there (Closed 0 ∷ []) (ap (ending 0) is)
    to_its_end Cut is s = ended_there (Closed 0 ∷ []) (ap (ending 0) is)
    to_its_end (SizeFault size) is s = tt
    to_its_end (Envelope fault) is s = tt
    to_its_end NoMemory is s = tt
    to_its_end _ is s = absurd (false≢true s)

    follows : FollowsArrival d is_scripted 0 (arrival_of pieces) tape (entries_of 0 journal) cause
    follows =
        record {
          allowed = scripted;
          front = subst (λ ps. IsPrefix (input (marks_of 0 tape)) (bytes_of_pieces ps)) (pieces_there pieces) (fed.each_read 0).bytes;
          to_its_end = to_its_end cause refl scripted;
          fed = subst (λ ps. EachReadTakesItsPart d.max 0 (ends_from 0 ps) tape) (pieces_there pieces) (fed.each_read 0).reads;
          written = λ front back bytes e. (fed.each_written 0).writes front back bytes e;
        }

    served : (c : ℕ) (given : EndCause) → slice_get (cause ∷ []) c ≡ Some given → FollowsArrival d is_scripted c (arrival_of pieces) tape (entries_of c journal) given
    served zero given e = subst (FollowsArrival d is_scripted 0 (arrival_of pieces) tape (entries_of 0 journal)) (same_Some cause given e) follows
    served (suc c) given e = absurd (none-some given e)

module _ {C A M : Type 0} where
  pub fed_by_one : (d : DeskRules C A) (r : ServiceRules C A M) (memories : List M) (budget : ℕ) (pieces : List (List ℕ)) (tape : List Mark) (journal : List (JournalEntry C A)) (cause : EndCause)
      → IsRunOfArrivals d r memories is_scripted (λ c. arrival_of pieces) tape journal (cause ∷ []) → IsFedBy d budget (script_of_one pieces) tape journal
  fed_by_one d r memories budget pieces tape journal cause run =
      let f : FollowsArrival d is_scripted 0 (arrival_of pieces) tape (entries_of 0 journal) cause = run.served 0 cause refl in
      is_fed d r memories budget pieces tape journal cause run.headline f.allowed f

  pub run_on_one : (d : DeskRules C A) (r : ServiceRules C A M) (memories : List M) (budget : ℕ) (pieces : List (List ℕ)) (tape : List Mark) (journal : List (JournalEntry C A)) (cause : EndCause)
      → Headline d r memories tape journal (cause ∷ []) → is_scripted cause ≡ true → IsFedBy d budget (script_of_one pieces) tape journal
      → IsRunOfArrivals d r memories is_scripted (λ c. arrival_of pieces) tape journal (cause ∷ [])
  run_on_one d r memories budget pieces tape journal cause headline scripted fed =
      record { headline = headline; served = served d r memories budget pieces tape journal cause headline scripted fed }
