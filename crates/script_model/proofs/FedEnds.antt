-- Each connection of a script that feeds a run has ended, and where nothing lets it fail, its pieces have decided how.
use Rattle.std.proofs.Common.{◌≡◌, ◌≢◌, ℕ, ◌^◌, ◌<◌, ◌⊎◌, ◌==◌, Bool, true, false, true≢false, Some, List, [], ◌∷◌, ◌++◌, slice_get, get_or, inl, inr, refl, sym, ap, ◌∙◌, subst, arith, append-nil}
use Rattle.std.proofs.lemmas.Grind.{flat_map-append}
use Rattle.std.proofs.lemmas.Option.{slice_get-get_or}
use Rattle.streams.specs.declared.marks.Mark.{Mark}
use Rattle.streams.specs.declared.marks.Mark.TheVariants.{Opened, Ended, ReadFailed, WriteFailed, Closed}
use Rattle.host_model.specs.declared.cause.EndCause.{EndCause}
use Rattle.host_model.specs.declared.cause.EndCause.TheVariants.{End, Cut, SizeFault, Envelope, ReadFault, WriteFault, NoMemory, Stopped}
use Rattle.host_model.specs.Conversation.{Conversation}
use Rattle.host_model.specs.DeskRules.{DeskRules}
use Rattle.host_model.specs.Frames.{Frames}
use Rattle.host_model.specs.Headline.{Headline}
use Rattle.host_model.specs.Journal.{JournalEntry, ServiceRules, entries_of}
use Rattle.host_model.specs.Marks.{connection_of, marks_of, read_by, input, output}
use Rattle.host_model.proofs.Framing.{rest_nil}
use Rattle.script_model.specs.Fed.{IsFedBy}
use Rattle.script_model.specs.ScriptLines.{ScriptPlan, fails_input, some_line, openings}
use Rattle.script_model.specs.Writing.{writes_in}
use Rattle.script_model.proofs.Openings.{kept_at, as_many_causes}
use Rattle.script_model.specs.DecidedEnds.{EndsOn}
use Rattle.script_model.specs.Failing.{FailsNowhere, EndsByItsPieces, IsAnsweredWhole, arriving_on}
use Rattle.script_model.proofs.Decided.{talk_decides}
use Rattle.script_model.proofs.OneEnd.{LessThanAFrame, one_end}

module _ {C A M : Type 0} (d : DeskRules C A) (r : ServiceRules C A M) (memories : List M) (budget : ℕ) (script : ScriptPlan) (tape : List Mark)
    (journal : List (JournalEntry C A)) (causes : List EndCause) (headline : Headline d r memories tape journal causes) (fed : IsFedBy d budget script tape journal)
    (goes : (x : ℕ) → slice_get causes x ≢ Some Stopped) where
  talked : (c : ℕ) (cause : EndCause) → slice_get causes c ≡ Some cause → Conversation d c (marks_of c tape) (entries_of c journal) cause
  talked c cause at = headline.each c cause at

  -- where the input has ended, all that arrives was read
  read_whole : (c : ℕ) (transfers : List Mark) → marks_of c tape ≡ (Opened c ∷ transfers) ++ Ended c ∷ Closed c ∷ [] → input (marks_of c tape) ≡ arriving_on script c
  read_whole c transfers e =
      let t = kept_at (λ mark. connection_of mark == c) tape (Opened c ∷ transfers) (Ended c) (Closed c ∷ []) e in
      ap input e ∙ flat_map-append read_by (Opened c ∷ transfers) (Ended c ∷ Closed c ∷ []) ∙ append-nil (input (Opened c ∷ transfers)) ∙ ap input (sym t.3)
      ∙ ((fed.each_read c).ended t.0 t.1 t.2).1

  whole_input : (c : ℕ) (cause : EndCause) → EndsOn d (input (marks_of c tape) ++ []) cause → input (marks_of c tape) ≡ arriving_on script c
      → EndsOn d (arriving_on script c) cause
  whole_input c cause ends read = subst (λ bytes. EndsOn d bytes cause) (append-nil (input (marks_of c tape)) ∙ read) ends

  some_input : (c : ℕ) (cause : EndCause) → EndsOn d (input (marks_of c tape) ++ (fed.each_read c).bytes.0) cause → EndsOn d (arriving_on script c) cause
  some_input c cause ends = subst (λ bytes. EndsOn d bytes cause) (sym (fed.each_read c).bytes.1) ends

  decided : (c : ℕ) (cause : EndCause) → slice_get causes c ≡ Some cause → FailsNowhere script c → (cause ≡ NoMemory) ⊎ EndsOn d (arriving_on script c) cause
  decided c End at nowhere =
      let conversation = talked c End at in
      inr (whole_input c End (talk_decides d (input (marks_of c tape)) [] (entries_of c journal) (output (marks_of c tape)) End conversation.talk tt refl)
      (read_whole c conversation.marks.transfers conversation.marks.shape))
  decided c Cut at nowhere =
      let conversation = talked c Cut at in
      inr (whole_input c Cut (talk_decides d (input (marks_of c tape)) [] (entries_of c journal) (output (marks_of c tape)) Cut conversation.talk tt refl)
      (read_whole c conversation.marks.transfers conversation.marks.shape))
  decided c (SizeFault z) at nowhere =
      inr (some_input c (SizeFault z) (talk_decides d (input (marks_of c tape)) (fed.each_read c).bytes.0 (entries_of c journal) (output (marks_of c tape)) (SizeFault z)
      (talked c (SizeFault z) at).talk tt tt))
  decided c (Envelope fault) at nowhere =
      inr (some_input c (Envelope fault) (talk_decides d (input (marks_of c tape)) (fed.each_read c).bytes.0 (entries_of c journal) (output (marks_of c tape)) (Envelope fault)
      (talked c (Envelope fault) at).talk tt tt))
  decided c ReadFault at nowhere =
      let marks = (talked c ReadFault at).marks in
      let t = kept_at (λ mark. connection_of mark == c) tape (Opened c ∷ marks.transfers) (ReadFailed c) (Closed c ∷ []) marks.shape in
      absurd (true≢false (sym ((fed.each_read c).failed t.0 t.1 t.2).0 ∙ nowhere.reads))
  decided c WriteFault at nowhere =
      let marks = (talked c WriteFault at).marks in
      let t = kept_at (λ mark. connection_of mark == c) tape (Opened c ∷ marks.transfers) (WriteFailed c) (Closed c ∷ []) marks.shape in
      absurd (nowhere.writes (writes_in (marks_of c t.0)) ((fed.each_written c).fails_so t.0 t.1 t.2))
  decided c NoMemory at nowhere = inl refl
  decided c Stopped at nowhere = absurd (goes c at)

  cause_at : (c : ℕ) → c < openings script.lines → slice_get causes c ≡ Some (get_or causes c End)
  cause_at c h =
      let count = as_many_causes d r memories tape journal causes (openings script.lines) headline fed.opened in slice_get-get_or causes c End (omega (arith, count, h))

  pub each_ends : (c : ℕ) → c < openings script.lines → EndsByItsPieces d script causes c
  each_ends c h = record { cause = get_or causes c End; ended = cause_at c h; decided = decided c (get_or causes c End) (cause_at c h) }

  module _ (small : d.max < 2 ^ 31) (partial : LessThanAFrame d.max) (c : ℕ) (h : c < openings script.lines) (nowhere : FailsNowhere script c)
      (memory : slice_get causes c ≢ Some NoMemory) (on : EndsOn d (arriving_on script c) End) where
    is_end : get_or causes c End ≡ End
    is_end = go (decided c (get_or causes c End) (cause_at c h) nowhere)
      where
        go : (get_or causes c End ≡ NoMemory) ⊎ EndsOn d (arriving_on script c) (get_or causes c End) → get_or causes c End ≡ End
        go (inl e) = absurd (memory (cause_at c h ∙ ap (λ x. Some x) e))
        go (inr ends) = one_end d small partial (arriving_on script c) (get_or causes c End) End ends on

    pub ended_at : slice_get causes c ≡ Some End
    ended_at = cause_at c h ∙ ap (λ x. Some x) is_end

    pub answered : IsAnsweredWhole d (arriving_on script c) (marks_of c tape) (entries_of c journal)
    answered =
        let conversation = talked c End ended_at in
        let read = read_whole c conversation.marks.transfers conversation.marks.shape in
        record {
          payloads = conversation.talk.payloads;
          frames = subst (λ rest. Frames d.max (arriving_on script c) conversation.talk.payloads rest) conversation.talk.ended.1
              (subst (λ bytes. Frames d.max bytes conversation.talk.payloads conversation.talk.rest) read conversation.talk.frames);
          read = read;
          finished = conversation.talk.ended.2;
        }
