-- Each run keeps the split of the bytes taken.
use Rattle.std.proofs.Common.{◌≡◌, ℕ, ◌<◌, ◌^◌, List, [], ◌∷◌, ◌++◌, drop, refl, sym, subst, arith, append_assoc}
use Rattle.std.proofs.lemmas.List.{append-nil}
use Rattle.conn_state.specs.Phase.{Phase, ConnView, ready, waiting, ended, fresh_conn, left_to_write, bytes_held}
use Rattle.conn_state.specs.Step.{after_bytes, after_admission, after_answer, after_wrote, after_end_of_input}
use Rattle.conn_state.specs.Run.{ConnCall, took, admitted, refused, gave, answered, wrote, input_ended, ended_by, CallLeads, CallsLead, taken_by, taken, handed_by, given}
use Rattle.conn_state.specs.Split.{PhaseSays, Splits, StaysWithin}
use Rattle.conn_state.proofs.Partials.{size_is_partial}
use Rattle.conn_state.proofs.Keeps.{took_keeps, took_is_piece, left_of, stands_ended, stands_at_end, stands_admitted, stands_answered, stands_written, stands_given}

-- a call that takes no byte and hands out nothing
same_split : (max : ℕ) (bytes : List ℕ) (handed_out : List (ℕ × List ℕ)) (old : ConnView) (phase : Phase) (splits : Splits max bytes handed_out old)
    → PhaseSays max splits.payloads splits.rest handed_out phase → Splits max (bytes ++ []) (handed_out ++ []) (record old { phase = phase })
same_split max bytes handed_out old phase splits stands =
    let now : Splits max bytes handed_out (record old { phase = phase }) = record {
      payloads = splits.payloads;
      rest = splits.rest;
      frames = splits.frames;
      counted = splits.counted;
      stands = stands;
    } in
    subst (λ (xs : List ℕ). Splits max xs (handed_out ++ []) (record old { phase = phase })) (sym (append-nil bytes))
    (subst (λ (ps : List (ℕ × List ℕ)). Splits max bytes ps (record old { phase = phase })) (sym (append-nil handed_out)) now)

-- the payload that is whole is handed out
gave_keeps : (max : ℕ) (bytes : List ℕ) (handed_out : List (ℕ × List ℕ)) (old : ConnView) (number : ℕ) (payload : List ℕ) → Splits max bytes handed_out old
    → old.phase ≡ ready number payload → Splits max (bytes ++ []) (handed_out ++ (number, payload) ∷ []) (record old { phase = waiting number })
gave_keeps max bytes handed_out old number payload splits is =
    let stands : PhaseSays max splits.payloads splits.rest handed_out (ready number payload) =
    subst (λ (p : Phase). PhaseSays max splits.payloads splits.rest handed_out p) is splits.stands in
    let now : Splits max bytes (handed_out ++ (number, payload) ∷ []) (record old { phase = waiting number }) = record {
      payloads = splits.payloads;
      rest = splits.rest;
      frames = splits.frames;
      counted = splits.counted;
      stands = stands_given max splits.payloads splits.rest handed_out number payload stands;
    } in
    subst (λ (xs : List ℕ). Splits max xs (handed_out ++ (number, payload) ∷ []) (record old { phase = waiting number })) (sym (append-nil bytes)) now

-- where a view is known by an equation
at_view : (max : ℕ) (bytes : List ℕ) (handed_out : List (ℕ × List ℕ)) (new known : ConnView) → new ≡ known → Splits max bytes handed_out known → Splits max bytes handed_out new
at_view max bytes handed_out new known e splits = subst (λ (v : ConnView). Splits max bytes handed_out v) (sym e) splits

-- each call keeps the split
step_keeps : (max : ℕ) (bytes : List ℕ) (handed_out : List (ℕ × List ℕ)) (old : ConnView) (event : ConnCall) (new : ConnView) → max < 2 ^ 31 → Splits max bytes handed_out old
    → CallLeads max old event new → Splits max (bytes ++ taken_by event) (handed_out ++ handed_by event) new
step_keeps max bytes handed_out old (took piece) new small splits does =
    subst (λ (ps : List (ℕ × List ℕ)). Splits max (bytes ++ piece) ps new) (sym (append-nil handed_out))
    (at_view max (bytes ++ piece) handed_out new (after_bytes max old.frames old.phase piece) does.3
    (took_keeps max bytes piece handed_out old small splits does.0 does.1 does.2))
step_keeps max bytes handed_out old admitted new small splits does =
    at_view max (bytes ++ []) (handed_out ++ []) new (record old { phase = after_admission old.phase }) does.1
    (same_split max bytes handed_out old (after_admission old.phase) splits (stands_admitted max splits.payloads splits.rest handed_out old.phase does.0 splits.stands))
step_keeps max bytes handed_out old refused new small splits does =
    at_view max (bytes ++ []) (handed_out ++ []) new old does.1 (same_split max bytes handed_out old old.phase splits splits.stands)
step_keeps max bytes handed_out old (gave number payload) new small splits does =
    at_view max (bytes ++ []) (handed_out ++ (number, payload) ∷ []) new (record old { phase = waiting number }) does.1
    (gave_keeps max bytes handed_out old number payload splits does.0)
step_keeps max bytes handed_out old (answered settled) new small splits does =
    at_view max (bytes ++ []) (handed_out ++ []) new (record old { phase = after_answer settled }) does.1
    (same_split max bytes handed_out old (after_answer settled) splits (stands_answered max splits.payloads splits.rest handed_out old.phase settled does.0 splits.stands))
step_keeps max bytes handed_out old (wrote count) new small splits does =
    let left = drop count (left_to_write old.phase) in
    at_view max (bytes ++ []) (handed_out ++ []) new (record old { phase = after_wrote left }) does.2
    (same_split max bytes handed_out old (after_wrote left) splits (stands_written max splits.payloads splits.rest handed_out old.phase left (omega (arith, does.0, does.1)) splits.stands))
step_keeps max bytes handed_out old input_ended new small splits does =
    at_view max (bytes ++ []) (handed_out ++ []) new (record old { phase = after_end_of_input old.phase }) does.1
    (same_split max bytes handed_out old (after_end_of_input old.phase) splits (stands_at_end max splits.payloads splits.rest handed_out old.phase small does.0 splits.stands))
step_keeps max bytes handed_out old (ended_by cause) new small splits does =
    at_view max (bytes ++ []) (handed_out ++ []) new (record old { phase = ended cause }) does.2
    (same_split max bytes handed_out old (ended cause) splits
    (stands_ended max splits.payloads splits.rest handed_out cause does.1 (left_of max splits.payloads splits.rest handed_out old.phase small does.0 splits.stands)))

-- calls one after the other keep it
run_keeps : (max : ℕ) (bytes : List ℕ) (handed_out : List (ℕ × List ℕ)) (old : ConnView) (events : List ConnCall) (new : ConnView) → max < 2 ^ 31 → Splits max bytes handed_out old
    → CallsLead max old events new → Splits max (bytes ++ taken events) (handed_out ++ given events) new
run_keeps max bytes handed_out old [] new small splits runs =
    at_view max (bytes ++ []) (handed_out ++ []) new old runs (same_split max bytes handed_out old old.phase splits splits.stands)
run_keeps max bytes handed_out old (event ∷ events) new small splits runs =
    let between = step_keeps max bytes handed_out old event runs.0 small splits runs.1 in
    let rest = run_keeps max (bytes ++ taken_by event) (handed_out ++ handed_by event) runs.0 events new small between runs.2 in
    subst (λ (xs : List ℕ). Splits max xs (handed_out ++ (handed_by event ++ given events)) new) (append_assoc bytes (taken_by event) (taken events))
    (subst (λ (ps : List (ℕ × List ℕ)). Splits max ((bytes ++ taken_by event) ++ taken events) ps new) (append_assoc handed_out (handed_by event) (given events)) rest)

-- a new connection
fresh_splits : (max : ℕ) → Splits max [] [] fresh_conn
fresh_splits max = record {
  payloads = [];
  rest = [];
  frames = record { whole = refl; each = tt; no_more = (size_is_partial max [] (omega arith)).rest };
  counted = refl;
  stands = (refl, refl, (omega arith, λ i. omega arith));
}

pub run_splits : (max : ℕ) (events : List ConnCall) (view : ConnView) → max < 2 ^ 31 → CallsLead max fresh_conn events view → Splits max (taken events) (given events) view
run_splits max events view small runs = run_keeps max [] [] fresh_conn events view small (fresh_splits max) runs

pub piece_stays : (max : ℕ) (events : List ConnCall) (old new : ConnView) (bytes : List ℕ) → max < 2 ^ 31 → CallsLead max fresh_conn events old → CallLeads max old (took bytes) new
    → StaysWithin max old.frames (bytes_held old.phase ++ bytes) new.frames new.phase
piece_stays max events old new bytes small runs does =
    let splits = run_splits max events old small runs in
    subst (λ (v : ConnView). StaysWithin max old.frames (bytes_held old.phase ++ bytes) v.frames v.phase) (sym does.3)
    (took_is_piece max (taken events) bytes (given events) old small splits does.0 does.1 does.2)
