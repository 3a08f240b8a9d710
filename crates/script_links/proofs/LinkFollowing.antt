-- One connection follows its script: what a mark of its own leaves, and a line that is done.
use Rattle.std.proofs.Common.{◌≡◌, ◌≢◌, ℕ, zero, suc, ◌+◌, ◌<◌, ◌≤◌, ◌⊎◌, Bool, true, false, ◌==◌, if◌then◌else◌, Option, None, Some, List, [], ◌∷◌, ◌++◌, filter, length, take, drop, refl, sym, ap, ◌∙◌, subst, inl, inr, arith, append_assoc, append-nil, true≢false}
use Rattle.std.proofs.lemmas.Grind.{flat_map-append}
use Rattle.std.proofs.lemmas.Option.{none-some}
use Rattle.streams.specs.declared.marks.Mark.{Mark}
use Rattle.streams.specs.declared.marks.Mark.TheVariants.{Closed, Opened}
use Rattle.host_model.specs.Marks.{connection_of, marks_of, input, read_by}
use Rattle.host_model.specs.Conversation.{IsPrefix}
use Rattle.machine_model.specs.OpenAtFronts.{opening_of, closing_of, marks_counted}
use Rattle.machine_model.specs.AtFronts.{IsOpenBehind}
use Rattle.machine_model.proofs.Taping.{marks_here, marks_elsewhere, input-append}
use Rattle.script_model.specs.Arrival.{bytes_of_pieces}
use Rattle.script_model.specs.ScriptLines.{PlanLine, PlanRule, ScriptPlan, pieces_on, piece_by, ends_input, fails_input, some_line, rules_of, governs}
use Rattle.script_model.specs.Playing.{InputFinish, finishes, faults}
use Rattle.script_model.specs.Writing.{write_in, writes_in}
use Rattle.script_model.proofs.Written.{writes-append}
use Rattle.script_links.specs.declared.link.LinkStage.{LinkStage}
use Rattle.script_links.specs.declared.link.LinkStage.TheVariants.{Coming, Open, Ended, Closed as ClosedStage}
use Rattle.script_links.specs.ServedScript.{PlainLink, is_open_stage, is_closed_stage}
use Rattle.script_links.specs.Plain.{with_closing, with_opening, with_rule_used}
use Rattle.script_links.specs.Fresh.{fresh_link}
use Rattle.script_links.specs.Followed.{LeavesPieces, LinkFollows}
use Rattle.script_links.proofs.Marking.{counted-append, some_front}
use Rattle.script_links.proofs.Pieces.{read_and_arrived}

pub open_not_closed : (stage : LinkStage) → is_open_stage stage ≡ true → is_closed_stage stage ≡ false
open_not_closed Coming e = refl
open_not_closed Open e = refl
open_not_closed Ended e = refl
open_not_closed ClosedStage e = absurd (true≢false (sym e))

-- what a mark of connection c adds to its marks
pub input_behind : (c : ℕ) (tape : List Mark) (mark : Mark) → connection_of mark ≡ c → input (marks_of c (tape ++ mark ∷ [])) ≡ input (marks_of c tape) ++ read_by mark
input_behind c tape mark own =
    ap input (marks_here c tape (mark ∷ []) (own, tt)) ∙ input-append (marks_of c tape) (mark ∷ []) ∙ ap (λ xs. input (marks_of c tape) ++ xs) (append-nil (read_by mark))

pub writes_behind : (c : ℕ) (tape : List Mark) (mark : Mark) → connection_of mark ≡ c → writes_in (marks_of c (tape ++ mark ∷ [])) ≡ writes_in (marks_of c tape) + write_in mark
writes_behind c tape mark own =
    let all : writes_in (marks_of c (tape ++ mark ∷ [])) ≡ writes_in (marks_of c tape) + (write_in mark + 0) =
    ap writes_in (marks_here c tape (mark ∷ []) (own, tt)) ∙ writes-append (marks_of c tape) (mark ∷ []) in
    omega arith

pub counted_behind : (f : Mark → ℕ) (c : ℕ) (tape : List Mark) (mark : Mark) → connection_of mark ≡ c
    → marks_counted f (marks_of c (tape ++ mark ∷ [])) ≡ marks_counted f (marks_of c tape) + f mark
counted_behind f c tape mark own =
    let all : marks_counted f (marks_of c (tape ++ mark ∷ [])) ≡ marks_counted f (marks_of c tape) + (f mark + 0) =
    ap (marks_counted f) (marks_here c tape (mark ∷ []) (own, tt)) ∙ counted-append f (marks_of c tape) (mark ∷ []) in
    omega arith

-- a mark of another connection adds nothing
pub other_mark : (script : ScriptPlan) (done left : List PlanLine) (tape : List Mark) (c x : ℕ) (mark : Mark) (link : PlainLink) → connection_of mark ≡ c → (x ≡ c → ⊥)
    → LinkFollows script done left tape x link → LinkFollows script done left (tape ++ mark ∷ []) x link
other_mark script done left tape c x mark link own other f =
    let same : marks_of x tape ≡ marks_of x (tape ++ mark ∷ []) = sym (marks_elsewhere c x tape (mark ∷ []) other (own, tt)) in
    record {
      leaves = subst (λ ms. LeavesPieces (pieces_on x script.lines) (input ms) link.pieces) same f.leaves;
      arrived = f.arrived;
      seen = subst (λ ms. IsPrefix (input ms) (bytes_of_pieces (pieces_on x done))) same f.seen;
      ends = f.ends;
      fails = f.fails;
      rules = f.rules ∙ ap (λ ms. drop (writes_in ms) (filter governs (rules_of x script))) same;
      is_open = λ o. f.is_open (subst (λ ms. marks_counted closing_of ms < marks_counted opening_of ms) (sym same) o);
      once = subst (λ ms. marks_counted opening_of ms ≤ 1 + marks_counted closing_of ms) same f.once;
    }

-- before anything has happened
pub fresh_follows : (script : ScriptPlan) (c : ℕ) → LinkFollows script [] script.lines [] c (fresh_link (pieces_on c script.lines) (rules_of c script))
fresh_follows script c = record {
  leaves = record { bytes = refl; ends = λ at l. refl };
  arrived = λ open_still. refl;
  seen = ([], refl);
  ends = λ e. absurd (none-some finishes e);
  fails = λ e. absurd (none-some faults e);
  rules = refl;
  is_open = λ o. absurd (let f : ⊥ = omega (arith, o) in f);
  once = omega arith;
}

module _ (script : ScriptPlan) (done left : List PlanLine) (split : script.lines ≡ done ++ left) (tape : List Mark) (c : ℕ) (link : PlainLink) (f : LinkFollows script done left tape c link) where
  pieces_split : (lines more : List PlanLine) → pieces_on c (lines ++ more) ≡ pieces_on c lines ++ pieces_on c more
  pieces_split lines more = flat_map-append (piece_by c) lines more

  all_pieces : pieces_on c script.lines ≡ pieces_on c done ++ pieces_on c left
  all_pieces = ap (pieces_on c) split ∙ pieces_split done left

  -- what was read and has arrived is what the lines that are done brought
  pub arrived_so_far : is_closed_stage link.stage ≡ false → input (marks_of c tape) ++ bytes_of_pieces (take link.arrived link.pieces) ≡ bytes_of_pieces (pieces_on c done)
  arrived_so_far going = read_and_arrived (pieces_on c script.lines) (pieces_on c done) (pieces_on c left) link.pieces (input (marks_of c tape)) link.arrived all_pieces f.leaves (f.arrived going)

  -- after a mark of its own that neither opens nor closes it, while it is open
  pub marked_link : (mark : Mark) (later : PlainLink) → connection_of mark ≡ c → opening_of mark ≡ 0 → closing_of mark ≡ 0 → is_open_stage link.stage ≡ true
      → is_open_stage later.stage ≡ true → later.finish ≡ link.finish → LeavesPieces (pieces_on c script.lines) (input (marks_of c tape) ++ read_by mark) later.pieces
      → drop later.arrived later.pieces ≡ drop link.arrived link.pieces
      → filter governs later.rules ≡ drop (writes_in (marks_of c tape) + write_in mark) (filter governs (rules_of c script))
      → LinkFollows script done left (tape ++ mark ∷ []) c later
  marked_link mark later own opens closes here still finish leaves coming rules =
      let input_is : input (marks_of c (tape ++ mark ∷ [])) ≡ input (marks_of c tape) ++ read_by mark = input_behind c tape mark own in
      let writes_is : writes_in (marks_of c (tape ++ mark ∷ [])) ≡ writes_in (marks_of c tape) + write_in mark = writes_behind c tape mark own in
      let opened : marks_counted opening_of (marks_of c (tape ++ mark ∷ [])) ≡ marks_counted opening_of (marks_of c tape) + opening_of mark = counted_behind opening_of c tape mark own in
      let closed : marks_counted closing_of (marks_of c (tape ++ mark ∷ [])) ≡ marks_counted closing_of (marks_of c tape) + closing_of mark = counted_behind closing_of c tape mark own in
      let before : marks_counted opening_of (marks_of c tape) ≤ 1 + marks_counted closing_of (marks_of c tape) = f.once in
      let to_come : drop later.arrived later.pieces ≡ pieces_on c left = coming ∙ f.arrived (open_not_closed link.stage here) in
      record {
        leaves = subst (λ read. LeavesPieces (pieces_on c script.lines) read later.pieces) (sym input_is) leaves;
        arrived = λ going. to_come;
        seen = (
          bytes_of_pieces (take later.arrived later.pieces),
          sym (ap (λ read. read ++ bytes_of_pieces (take later.arrived later.pieces)) input_is
              ∙ read_and_arrived (pieces_on c script.lines) (pieces_on c done) (pieces_on c left) later.pieces (input (marks_of c tape) ++ read_by mark) later.arrived all_pieces leaves to_come),
        );
        ends = λ e. f.ends (sym finish ∙ e);
        fails = λ e. f.fails (sym finish ∙ e);
        rules = rules ∙ ap (λ n. drop n (filter governs (rules_of c script))) (sym writes_is);
        is_open = λ o. still;
        once = omega arith;
      }

  -- after its closing
  pub closed_link : LinkFollows script done left (tape ++ Closed c ∷ []) c (with_closing link)
  closed_link =
      let input_is : input (marks_of c (tape ++ Closed c ∷ [])) ≡ input (marks_of c tape) = input_behind c tape (Closed c) refl ∙ append-nil (input (marks_of c tape)) in
      let writes_is : writes_in (marks_of c (tape ++ Closed c ∷ [])) ≡ writes_in (marks_of c tape) + 0 = writes_behind c tape (Closed c) refl in
      let writes_same : writes_in (marks_of c (tape ++ Closed c ∷ [])) ≡ writes_in (marks_of c tape) = omega arith in
      let opened : marks_counted opening_of (marks_of c (tape ++ Closed c ∷ [])) ≡ marks_counted opening_of (marks_of c tape) + 0 = counted_behind opening_of c tape (Closed c) refl in
      let closed : marks_counted closing_of (marks_of c (tape ++ Closed c ∷ [])) ≡ marks_counted closing_of (marks_of c tape) + 1 = counted_behind closing_of c tape (Closed c) refl in
      let before : marks_counted opening_of (marks_of c tape) ≤ 1 + marks_counted closing_of (marks_of c tape) = f.once in
      record {
        leaves = subst (λ read. LeavesPieces (pieces_on c script.lines) read link.pieces) (sym input_is) f.leaves;
        arrived = λ going. absurd (true≢false going);
        seen = subst (λ read. IsPrefix read (bytes_of_pieces (pieces_on c done))) (sym input_is) f.seen;
        ends = f.ends;
        fails = f.fails;
        rules = f.rules ∙ ap (λ n. drop n (filter governs (rules_of c script))) (sym writes_same);
        is_open = λ o. absurd (let g : ⊥ = omega (arith, o) in g);
        once = omega arith;
      }

  -- after its opening
  pub opened_link : is_open_stage link.stage ≡ false → is_closed_stage link.stage ≡ false → LinkFollows script done left (tape ++ Opened c ∷ []) c (with_opening link)
  opened_link not_open going =
      let input_is : input (marks_of c (tape ++ Opened c ∷ [])) ≡ input (marks_of c tape) = input_behind c tape (Opened c) refl ∙ append-nil (input (marks_of c tape)) in
      let writes_is : writes_in (marks_of c (tape ++ Opened c ∷ [])) ≡ writes_in (marks_of c tape) + 0 = writes_behind c tape (Opened c) refl in
      let writes_same : writes_in (marks_of c (tape ++ Opened c ∷ [])) ≡ writes_in (marks_of c tape) = omega arith in
      let opened : marks_counted opening_of (marks_of c (tape ++ Opened c ∷ [])) ≡ marks_counted opening_of (marks_of c tape) + 1 = counted_behind opening_of c tape (Opened c) refl in
      let closed : marks_counted closing_of (marks_of c (tape ++ Opened c ∷ [])) ≡ marks_counted closing_of (marks_of c tape) + 0 = counted_behind closing_of c tape (Opened c) refl in
      let none : IsOpenBehind c tape → ⊥ = λ o. true≢false (sym (f.is_open o) ∙ not_open) in
      let before : marks_counted opening_of (marks_of c tape) ≤ marks_counted closing_of (marks_of c tape) = not_below (marks_counted closing_of (marks_of c tape)) (marks_counted opening_of (marks_of c tape)) none in
      record {
        leaves = subst (λ read. LeavesPieces (pieces_on c script.lines) read link.pieces) (sym input_is) f.leaves;
        arrived = λ open_still. f.arrived going;
        seen = subst (λ read. IsPrefix read (bytes_of_pieces (pieces_on c done))) (sym input_is) f.seen;
        ends = f.ends;
        fails = f.fails;
        rules = f.rules ∙ ap (λ n. drop n (filter governs (rules_of c script))) (sym writes_same);
        is_open = λ o. refl;
        once = omega arith;
      }
    where
      not_below : (x y : ℕ) → (x < y → ⊥) → y ≤ x
      not_below x y never = omega (arith, never)

  -- where a rule is used up that governs no write
  pub blocked_link : filter governs (with_rule_used link).rules ≡ filter governs link.rules → LinkFollows script done left tape c (with_rule_used link)
  blocked_link same = record {
    leaves = f.leaves;
    arrived = f.arrived;
    seen = f.seen;
    ends = f.ends;
    fails = f.fails;
    rules = same ∙ f.rules;
    is_open = f.is_open;
    once = f.once;
  }

  -- a line is done, which may bring it a piece, or say what comes after all of them
  pub line_link : (line : PlanLine) (rest : List PlanLine) (later : PlainLink) → later.pieces ≡ link.pieces → later.stage ≡ link.stage → later.rules ≡ link.rules
      → (is_closed_stage link.stage ≡ false → drop later.arrived later.pieces ≡ pieces_on c rest)
      → (later.finish ≡ Some finishes → some_line (ends_input c) (done ++ line ∷ []) ≡ true) → (later.finish ≡ Some faults → some_line (fails_input c) (done ++ line ∷ []) ≡ true)
      → LinkFollows script (done ++ line ∷ []) rest tape c later
  line_link line rest later pieces stage rules arrived ends fails = record {
    leaves = subst (LeavesPieces (pieces_on c script.lines) (input (marks_of c tape))) (sym pieces) f.leaves;
    arrived = λ going. arrived (sym (ap is_closed_stage stage) ∙ going);
    seen = (
      f.seen.0 ++ bytes_of_pieces (pieces_on c (line ∷ [])),
      ap bytes_of_pieces (pieces_split done (line ∷ [])) ∙ flat_map-append (λ (piece : List ℕ). piece) (pieces_on c done) (pieces_on c (line ∷ []))
          ∙ ap (λ xs. xs ++ bytes_of_pieces (pieces_on c (line ∷ []))) f.seen.1
          ∙ append_assoc (input (marks_of c tape)) f.seen.0 (bytes_of_pieces (pieces_on c (line ∷ []))),
    );
    ends = ends;
    fails = fails;
    rules = ap (filter governs) rules ∙ f.rules;
    is_open = λ o. ap is_open_stage stage ∙ f.is_open o;
    once = f.once;
  }

  -- a line that brings it nothing, or finds it closed
  pub passed_link : (line : PlanLine) (rest : List PlanLine) → left ≡ line ∷ rest → (is_closed_stage link.stage ≡ false → piece_by c line ≡ []) → LinkFollows script (done ++ line ∷ []) rest tape c link
  passed_link line rest is none =
      line_link line rest link refl refl refl (λ going. f.arrived going ∙ ap (pieces_on c) is ∙ ap (λ (xs : List (List ℕ)). xs ++ pieces_on c rest) (none going))
      (λ e. some_front (ends_input c) done (line ∷ []) (f.ends e)) (λ e. some_front (fails_input c) done (line ∷ []) (f.fails e))
