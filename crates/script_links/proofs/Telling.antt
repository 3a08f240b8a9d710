-- What writes and closings over a script leave, as links tell it.
use Rattle.std.proofs.Common.{◌≡◌, ℕ, ◌+◌, ◌-◌, ◌^◌, ◌<◌, ◌≤◌, Bool, true, false, min, nat_le, Some, List, [], ◌∷◌, ◌++◌, length, take, refl, sym, ap, ◌∙◌, arith, true≢false}
use Rattle.std.specs.List.{list_all}
use Rattle.std.proofs.lemmas.Bool.{and_parts, ltb-true, leb-true}
use Rattle.std.proofs.lemmas.List.{append-nil}
use Rattle.streams.specs.Cause.{next_count}
use Rattle.streams.specs.declared.marks.Mark.{Mark}
use Rattle.streams.specs.declared.marks.Mark.TheVariants.{Wrote, WriteFailed, Closed as ClosedMark}
use Rattle.outside.specs.declared.answers.Taken.{Taken}
use Rattle.outside.specs.declared.answers.Taken.TheVariants.{Bytes, End, NotYet, Failed, NoMemory}
use Rattle.outside.specs.LinksState.{LinksState, ChangesOnly}
use Rattle.outside.specs.Faults.{CountsItsFault, MovesWithin}
use Rattle.outside.specs.Writing.{WritesToConnection}
use Rattle.outside.specs.Closing.{Closes}
use Rattle.script_model.specs.Arrival.{bytes_of_pieces}
use Rattle.script_model.specs.ScriptLines.{PlanRule, takes_most, blocks, fails}
use Rattle.script_links.specs.ServedScript.{PlainLink, ServedScript, link_at, with_link, is_open_stage, is_open_at, lets_some, is_sound_link}
use Rattle.script_links.specs.Plain.{with_closing, with_written, with_rule_used, with_ruled_fault, taken_by_rules, left_by_write, left_by_close, MayComeTo}
use Rattle.script_links.specs.Shown.{links_told, arrived_of}
use Rattle.script_links.proofs.Connected.{open_is_there, own_changed, other_same}
use Rattle.script_links.proofs.Keeping.{sound_parts, count_in}

-- a change of connection c, of the tape, of the lengths and of what is to be told is seen nowhere else
pub touches_only : (c : ℕ) (change : PlainLink → PlainLink) (s : ServedScript) (blocked : List ℕ) (tape : List Mark) (lengths : List ℕ)
    → ChangesOnly c (links_told s) (links_told (record s { links = with_link c change s.links; blocked = blocked; tape = tape; lengths = lengths }))
touches_only c change s blocked tape lengths = record {
  listens = refl;
  opened = refl;
  over = refl;
  rests = refl;
  net_faults = refl;
  is_open = λ x other. ap (λ (l : PlainLink). is_open_stage l.stage) (other_same c x change s.links other);
  left = λ x other. ap (λ (l : PlainLink). Some (bytes_of_pieces l.pieces)) (other_same c x change s.links other);
  arrived = λ x other. ap (λ (l : PlainLink). Some (arrived_of l)) (other_same c x change s.links other);
  faults = λ x other. ap (λ (l : PlainLink). l.faults) (other_same c x change s.links other);
}

pub stays : (c : ℕ) (links : LinksState) → ChangesOnly c links links
stays c links = record {
  listens = refl;
  opened = refl;
  over = refl;
  rests = refl;
  net_faults = refl;
  is_open = λ x other. refl;
  left = λ x other. refl;
  arrived = λ x other. refl;
  faults = λ x other. refl;
}

-- a fault more is counted
pub rises : (before now : ℕ) → nat_le before (2 ^ 64 - 1) ≡ true → now ≡ next_count before → CountsItsFault Failed before now
rises before now within is =
    let most : before ≤ 2 ^ 64 - 1 = leb-true before (2 ^ 64 - 1) within in
    let next : now ≡ min (before + 1) (2 ^ 64 - 1) = is in
    (omega arith, omega arith)

abbrev is_bytes : Taken → Bool
is_bytes (Bytes count) = true
is_bytes _ = false

abbrev is_end_of_input : Taken → Bool
is_end_of_input End = true
is_end_of_input _ = false

abbrev is_later : Taken → Bool
is_later NotYet = true
is_later _ = false

-- what a rule lets a write take
within_rules : (offered count : ℕ) (rules : List PlanRule) → list_all lets_some rules ≡ true → 0 < offered → Bytes count ≡ taken_by_rules offered rules → MovesWithin offered (Bytes count)
within_rules offered count [] all some e = let same : count ≡ offered = ap count_in e in (omega arith, omega arith)
within_rules offered count (takes_most most ∷ rules) all some e =
    let same : count ≡ min most offered = ap count_in e in
    let one : 0 < most = ltb-true 0 most (and_parts _ _ all).0 in
    (omega arith, omega arith)
within_rules offered count (blocks ∷ rules) all some e = absurd (true≢false (ap is_bytes e))
within_rules offered count (fails ∷ rules) all some e = absurd (true≢false (ap is_bytes e))

no_end : (offered : ℕ) (rules : List PlanRule) → End ≡ taken_by_rules offered rules → ⊥
no_end offered [] e = true≢false (ap is_end_of_input e)
no_end offered (takes_most most ∷ rules) e = true≢false (ap is_end_of_input e)
no_end offered (blocks ∷ rules) e = true≢false (ap is_end_of_input e)
no_end offered (fails ∷ rules) e = true≢false (ap is_end_of_input e)

-- a closing
pub closes : (c : ℕ) (s : ServedScript) → is_open_at s.links c ≡ true → Closes c (links_told s) (links_told (left_by_close c s))
closes c s here =
    let own : link_at (with_link c with_closing s.links) c ≡ with_closing (link_at s.links c) = own_changed c with_closing s.links (open_is_there s.links c here) in
    record {
      others = touches_only c with_closing s s.blocked (s.tape ++ ClosedMark c ∷ []) s.lengths;
      closed = ap (λ (l : PlainLink). is_open_stage l.stage) own;
      tape = refl;
      lengths = refl;
      left = ap (λ (l : PlainLink). Some (bytes_of_pieces l.pieces)) own;
      arrived = ap (λ (l : PlainLink). Some (arrived_of l)) own;
      faults = ap (λ (l : PlainLink). l.faults) own;
    }

-- a write
module _ (c : ℕ) (bytes : List ℕ) (s : ServedScript) (here : is_open_at s.links c ≡ true) (sound : is_sound_link (link_at s.links c) ≡ true) (some : 0 < length bytes) where
  abbrev link : PlainLink
  link = link_at s.links c

  own : (change : PlainLink → PlainLink) → link_at (with_link c change s.links) c ≡ change link
  own change = own_changed c change s.links (open_is_there s.links c here)

  -- a write that fails, and one for which there is no memory
  write_fails : WritesToConnection c bytes (links_told s) (links_told (left_by_write c bytes Failed s)) Failed
  write_fails =
      let mine : link_at (with_link c with_ruled_fault s.links) c ≡ with_ruled_fault link = own with_ruled_fault in
      record {
        others = touches_only c with_ruled_fault s s.blocked (s.tape ++ WriteFailed c ∷ []) s.lengths;
        still_open = ap (λ (l : PlainLink). is_open_stage l.stage) mine ∙ sym here;
        tape = refl;
        lengths = ap Some (sym (append-nil s.lengths));
        within = tt;
        left = ap (λ (l : PlainLink). Some (bytes_of_pieces l.pieces)) mine;
        arrived = ap (λ (l : PlainLink). Some (arrived_of l)) mine;
        no_end = λ e. true≢false (sym (ap is_end_of_input e));
        faults = rises link.faults (link_at (with_link c with_ruled_fault s.links) c).faults (sound_parts link sound).faults (ap (λ (l : PlainLink). l.faults) mine);
      }

  write_lacks : WritesToConnection c bytes (links_told s) (links_told s) NoMemory
  write_lacks = record {
    others = stays c (links_told s);
    still_open = refl;
    tape = ap Some (sym (append-nil s.tape));
    lengths = ap Some (sym (append-nil s.lengths));
    within = tt;
    left = refl;
    arrived = refl;
    no_end = λ e. true≢false (sym (ap is_end_of_input e));
    faults = refl;
  }

  pub writes_failed : (taken : Taken) → MayComeTo Failed taken → WritesToConnection c bytes (links_told s) (links_told (left_by_write c bytes taken s)) taken
  writes_failed (Bytes count) comes = absurd (true≢false (ap is_bytes comes))
  writes_failed End comes = absurd (true≢false (ap is_end_of_input comes))
  writes_failed NotYet comes = absurd (true≢false (ap is_later comes))
  writes_failed Failed comes = write_fails
  writes_failed NoMemory comes = write_lacks

  pub writes : (taken : Taken) → MayComeTo (taken_by_rules (length bytes) link.rules) taken → WritesToConnection c bytes (links_told s) (links_told (left_by_write c bytes taken s)) taken
  writes (Bytes count) comes =
      let mine : link_at (with_link c (with_written (take count bytes)) s.links) c ≡ with_written (take count bytes) link = own (with_written (take count bytes)) in
      record {
        others = touches_only c (with_written (take count bytes)) s s.blocked (s.tape ++ Wrote c (take count bytes) ∷ []) (s.lengths ++ length bytes ∷ []);
        still_open = ap (λ (l : PlainLink). is_open_stage l.stage) mine;
        tape = refl;
        lengths = refl;
        within = within_rules (length bytes) count link.rules (sound_parts link sound).rules some comes;
        left = ap (λ (l : PlainLink). Some (bytes_of_pieces l.pieces)) mine;
        arrived = ap (λ (l : PlainLink). Some (arrived_of l)) mine;
        no_end = λ e. true≢false (ap is_bytes e);
        faults = ap (λ (l : PlainLink). l.faults) mine;
      }
  writes End comes = absurd (no_end (length bytes) link.rules comes)
  writes NotYet comes =
      let mine : link_at (with_link c with_rule_used s.links) c ≡ with_rule_used link = own with_rule_used in
      record {
        others = touches_only c with_rule_used s (s.blocked ++ c ∷ []) s.tape s.lengths;
        still_open = ap (λ (l : PlainLink). is_open_stage l.stage) mine;
        tape = ap Some (sym (append-nil s.tape));
        lengths = ap Some (sym (append-nil s.lengths));
        within = tt;
        left = ap (λ (l : PlainLink). Some (bytes_of_pieces l.pieces)) mine;
        arrived = ap (λ (l : PlainLink). Some (arrived_of l)) mine;
        no_end = λ e. true≢false (sym (ap is_end_of_input e));
        faults = ap (λ (l : PlainLink). l.faults) mine;
      }
  writes Failed comes = write_fails
  writes NoMemory comes = write_lacks
