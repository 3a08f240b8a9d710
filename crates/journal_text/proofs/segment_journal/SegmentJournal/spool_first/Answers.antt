use Rattle.std.proofs.Common.{◌≡◌, ◌≤◌, [], ◌++◌, length, take, drop, sym, ap, ◌∙◌, subst}
use Rattle.host_model.specs.Report.{journal_lines}
use Rattle.value_text.specs.Handing.{HandsOver}
use Rattle.value_text.proofs.Handed.{breaks_last, hands_same}
use Rattle.journal_text.specs.EntryText.{entry_text}
use Rattle.journal_text.specs.JournalStates.{IsTakenShort}
use Rattle.journal_text.specs.Segments.{chained, segment_room}
use Rattle.journal_text.proofs.Handing.{on_err}
use Rattle.journal_text.proofs.Segmented.{first_taken, first_dropped, last_taken, last_dropped, few, none_left}
use Rattle.journal_text.proofs.segment_journal.SegmentJournal.spool_first.Goals as goal

pub returns-in_err-spell_entries-in-Some-clause-handed : goal.returns-in_err-spell_entries-in-Some-clause-handed
returns-in_err-spell_entries-in-Some-clause-handed g c =
    let full = c.self.inside.full.items in
    let last = c.self.inside.last.items in
    let is : c.as_slice.result.now ≡ take segment_room c.args.self.now.entries =
    c.as_slice.ensures.value ∙ c.first.view_is
    ∙ sym (first_taken full last c.in-Some.first.now c.in-Some.first.now c.self.invariant.whole c.in-Some.ensures.item.3.0 c.in-Some.ensures.lookup)
    ∙ ap (λ v. take segment_room v.entries) c.self.view_is in
    hands_same (g.K.Sink.taken c.args.out.now) (g.K.Sink.taken c.spell_entries.new.out) (g.K.Sink.faults c.args.out.now) (g.K.Sink.faults c.spell_entries.new.out)
    (journal_lines entry_text c.as_slice.result.now) (journal_lines entry_text (take segment_room c.args.self.now.entries)) c.from_residual.result (ap (journal_lines entry_text) is)
    (breaks_last (g.K.Sink.taken c.args.out.now) (g.K.Sink.taken c.spell_entries.new.out) (g.K.Sink.faults c.args.out.now) (g.K.Sink.faults c.spell_entries.new.out)
    (journal_lines entry_text c.as_slice.result.now) c.from_residual.result c.from_residual.ensures.0 (c.in_err-spell_entries-in-Some.ensures {u = tt}).handed)

pub returns-in_err-spell_entries-in-None-clause-handed : goal.returns-in_err-spell_entries-in-None-clause-handed
returns-in_err-spell_entries-in-None-clause-handed g c =
    let full = c.self.inside.full.items in
    let last = c.self.inside.last.items in
    let few_last : length last ≤ 1024 = few (length last) c.self.inside.free c.self.invariant.held in
    let none : full ≡ [] = none_left full c.in-None.ensures.item.3 in
    let is : c.as_slice-in-None.result.now ≡ take segment_room c.args.self.now.entries =
    c.as_slice-in-None.ensures.value ∙ sym (last_taken full last none few_last) ∙ ap (λ v. take segment_room v.entries) c.self.view_is in
    let failed = c.from_residual-in_err-spell_entries-in-None in
    hands_same (g.K.Sink.taken c.args.out.now) (g.K.Sink.taken c.spell_entries-in-None.new.out) (g.K.Sink.faults c.args.out.now) (g.K.Sink.faults c.spell_entries-in-None.new.out)
    (journal_lines entry_text c.as_slice-in-None.result.now) (journal_lines entry_text (take segment_room c.args.self.now.entries)) failed.result (ap (journal_lines entry_text) is)
    (breaks_last (g.K.Sink.taken c.args.out.now) (g.K.Sink.taken c.spell_entries-in-None.new.out) (g.K.Sink.faults c.args.out.now) (g.K.Sink.faults c.spell_entries-in-None.new.out)
    (journal_lines entry_text c.as_slice-in-None.result.now) failed.result failed.ensures.0 (c.in_err-spell_entries-in-None.ensures {u = tt}).handed)

pub returns-in_err-spell_entries-in-Some-clause-short : goal.returns-in_err-spell_entries-in-Some-clause-short
returns-in_err-spell_entries-in-Some-clause-short g c =
    let full = c.self.inside.full.items in
    let last = c.self.inside.last.items in
    let is : c.as_slice.result.now ≡ take segment_room c.args.self.now.entries =
    c.as_slice.ensures.value ∙ c.first.view_is
    ∙ sym (first_taken full last c.in-Some.first.now c.in-Some.first.now c.self.invariant.whole c.in-Some.ensures.item.3.0 c.in-Some.ensures.lookup)
    ∙ ap (λ v. take segment_room v.entries) c.self.view_is in
    on_err c.from_residual.result
    (subst (λ es. IsTakenShort (g.K.Sink.taken c.args.out.now) (g.K.Sink.taken c.spell_entries.new.out) (journal_lines entry_text es)) is
    (c.in_err-spell_entries-in-Some.ensures {u = tt}).short)

pub returns-in_err-spell_entries-in-None-clause-short : goal.returns-in_err-spell_entries-in-None-clause-short
returns-in_err-spell_entries-in-None-clause-short g c =
    let full = c.self.inside.full.items in
    let last = c.self.inside.last.items in
    let few_last : length last ≤ 1024 = few (length last) c.self.inside.free c.self.invariant.held in
    let none : full ≡ [] = none_left full c.in-None.ensures.item.3 in
    let is : c.as_slice-in-None.result.now ≡ take segment_room c.args.self.now.entries =
    c.as_slice-in-None.ensures.value ∙ sym (last_taken full last none few_last) ∙ ap (λ v. take segment_room v.entries) c.self.view_is in
    on_err c.from_residual-in_err-spell_entries-in-None.result
    (subst (λ es. IsTakenShort (g.K.Sink.taken c.args.out.now) (g.K.Sink.taken c.spell_entries-in-None.new.out) (journal_lines entry_text es)) is
    (c.in_err-spell_entries-in-None.ensures {u = tt}).short)

pub returns-in_ok-spell_entries-in-Some-clause-handed : goal.returns-in_ok-spell_entries-in-Some-clause-handed
returns-in_ok-spell_entries-in-Some-clause-handed g c =
    let full = c.self.inside.full.items in
    let last = c.self.inside.last.items in
    let is : c.as_slice.result.now ≡ take segment_room c.args.self.now.entries =
    c.as_slice.ensures.value ∙ c.first.view_is
    ∙ sym (first_taken full last c.in-Some.first.now c.in-Some.first.now c.self.invariant.whole c.in-Some.ensures.item.3.0 c.in-Some.ensures.lookup)
    ∙ ap (λ v. take segment_room v.entries) c.self.view_is in
    subst
    (λ es. HandsOver (g.K.Sink.taken c.args.out.now) (g.K.Sink.taken c.spell_entries.new.out) (g.K.Sink.faults c.args.out.now) (g.K.Sink.faults c.spell_entries.new.out)
    (journal_lines entry_text es) []) is (c.in_ok-spell_entries-in-Some.ensures {u = tt}).handed

pub returns-in_ok-spell_entries-in-Some-clause-left : goal.returns-in_ok-spell_entries-in-Some-clause-left
returns-in_ok-spell_entries-in-Some-clause-left g c =
    let full = c.self.inside.full.items in
    let last = c.self.inside.last.items in
    ap (λ f. chained f ++ last) c.pop_front.ensures.rest ∙ sym (first_dropped full last c.self.invariant.whole c.in-Some.ensures.item.3.0)
    ∙ ap (λ v. drop segment_room v.entries) c.self.view_is

pub returns-in_ok-spell_entries-in-None-clause-handed : goal.returns-in_ok-spell_entries-in-None-clause-handed
returns-in_ok-spell_entries-in-None-clause-handed g c =
    let full = c.self.inside.full.items in
    let last = c.self.inside.last.items in
    let few_last : length last ≤ 1024 = few (length last) c.self.inside.free c.self.invariant.held in
    let none : full ≡ [] = none_left full c.in-None.ensures.item.3 in
    let is : c.as_slice-in-None.result.now ≡ take segment_room c.args.self.now.entries =
    c.as_slice-in-None.ensures.value ∙ sym (last_taken full last none few_last) ∙ ap (λ v. take segment_room v.entries) c.self.view_is in
    subst
    (λ es. HandsOver (g.K.Sink.taken c.args.out.now) (g.K.Sink.taken c.spell_entries-in-None.new.out) (g.K.Sink.faults c.args.out.now) (g.K.Sink.faults c.spell_entries-in-None.new.out)
    (journal_lines entry_text es) []) is (c.in_ok-spell_entries-in-None.ensures {u = tt}).handed

pub returns-in_ok-spell_entries-in-None-clause-left : goal.returns-in_ok-spell_entries-in-None-clause-left
returns-in_ok-spell_entries-in-None-clause-left g c =
    let full = c.self.inside.full.items in
    let last = c.self.inside.last.items in
    let few_last : length last ≤ 1024 = few (length last) c.self.inside.free c.self.invariant.held in
    let none : full ≡ [] = none_left full c.in-None.ensures.item.3 in
    ap (λ f. chained f ++ c.new.result.items) none ∙ c.new.ensures.items ∙ sym (last_dropped full last none few_last) ∙ ap (λ v. drop segment_room v.entries) c.self.view_is
