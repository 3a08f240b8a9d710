-- What a comparison means by how it ends.
use Rattle.std.proofs.Common.{◌≡◌, inl, inr, ℕ, true≢false, List, Option, refl, sym, subst, ap, ◌∙◌}
use Rattle.streams.specs.Files.{File}
use Rattle.schema.specs.PlainSchema.{PlainSchema}
use Rattle.schema.specs.Sound.{IsSound}
use Rattle.idl_check.specs.declared.refusal.NoSchema.{NoSchema}
use Rattle.idl_check.specs.declared.refusal.NoSchema.TheVariants as reasons
use Rattle.idl_check.specs.Telling.{TellsWhy}
use Rattle.idl_check.specs.Verdicts.{accepted, IsIdlVerdict, IsUnreadIdl}
use Rattle.compat_model.specs.Breaks.{PlainBreak, IsCompatible}
use Rattle.compat_model.specs.StructPairs.{SchemaChange}
use Rattle.compat_check.specs.declared.answering.Break.{Break}
use Rattle.compat_check.specs.Answered.{plain_break, IsBreakOrNoMemory}
use Rattle.compat_check.specs.Lines.{break_text}
use Rattle.recorded_runs.specs.Recorded.{Streams}
use Rattle.thrift_host.specs.declared.status.Status.{Status}
use Rattle.thrift_host.specs.declared.status.Status.TheVariants.{NetFault, JournalFault, ReadFault}
use Rattle.thrift_host.specs.Checks.{AreUntouched}
use Rattle.thrift_host.specs.Errors.{Errors}
use Rattle.thrift_host.specs.Steps.{EndsWithout, EndsWriting}
use Rattle.thrift_host.specs.Compats.{MeansCompat, SaysCompat, IsChangeOf, compatible_text}
use Rattle.thrift_host.specs.CompatSteps.{EndsBroken, EndsComparing, is_no_memory}
use Rattle.thrift_host.specs.Runs.{HasSchema}

-- ---- what is said of a word and of files as they stand later is said of the name that it is and of files as they stood

-- an IDL with a schema
pub named_schema : (files later : Option (List File)) (word name : List ℕ) (schema : PlainSchema) → later ≡ files → word ≡ name
    → IsIdlVerdict files word (accepted schema) × IsSound schema → HasSchema later name schema
named_schema files later word name schema stay same has =
    subst (λ fs. HasSchema fs name schema) (sym stay) (record { verdict = subst (λ idl. IsIdlVerdict files idl (accepted schema)) same has.0; sound = has.1 })

-- one without
pub named_reason : (files : Option (List File)) (word name : List ℕ) (reason : NoSchema) → word ≡ name
    → TellsWhy (IsIdlVerdict files word) (IsUnreadIdl files word) reason → TellsWhy (IsIdlVerdict files name) (IsUnreadIdl files name) reason
named_reason files word name reason same = subst (λ idl. TellsWhy (IsIdlVerdict files idl) (IsUnreadIdl files idl) reason) same

-- the one that comes after another
pub named_means : (files later : Option (List File)) (old word name : List ℕ) (ended : Status) (s : Streams) → later ≡ files → word ≡ name
    → MeansCompat later old word ended s → MeansCompat files old name ended s
named_means files later old word name ended s stay same h =
    subst (λ fs. MeansCompat fs old name ended s) stay (subst (λ new. MeansCompat later old new ended s) same h)

pub named_said : (files later : Option (List File)) (old word name : List ℕ) (ended : Status) (e : Errors) → later ≡ files → word ≡ name
    → SaysCompat later old word ended e → SaysCompat files old name ended e
named_said files later old word name ended e stay same h =
    subst (λ fs. SaysCompat fs old name ended e) stay (subst (λ new. SaysCompat later old new ended e) same h)

module _ (files : Option (List File)) (old new : List ℕ) (ended : Status) (e : Errors) where
  -- ---- one of the two has no schema

  module _ (s : Streams) (kept : AreUntouched s) where
    pub first_means : (reason : NoSchema) → TellsWhy (IsIdlVerdict files old) (IsUnreadIdl files old) reason → EndsWithout reason ended e → MeansCompat files old new ended s
    first_means (reasons.Refused r) why (inl is) = subst (λ st. MeansCompat files old new st s) (sym is.0) (inl (r.file, r.at, r.kind, why, kept))
    first_means (reasons.Refused r) why (inr is) = subst (λ st. MeansCompat files old new st s) (sym is.0) kept
    first_means reasons.FileFault why is = subst (λ st. MeansCompat files old new st s) (sym is.0) (inl why, kept)
    first_means reasons.NoMemory why is = subst (λ st. MeansCompat files old new st s) (sym is.0) kept

    pub second_means : (schema : PlainSchema) (reason : NoSchema) → HasSchema files old schema → TellsWhy (IsIdlVerdict files new) (IsUnreadIdl files new) reason
        → EndsWithout reason ended e → MeansCompat files old new ended s
    second_means schema (reasons.Refused r) has why (inl is) =
        subst (λ st. MeansCompat files old new st s) (sym is.0) (inr (schema, has.verdict, (r.file, r.at, r.kind, why, kept)))
    second_means schema (reasons.Refused r) has why (inr is) = subst (λ st. MeansCompat files old new st s) (sym is.0) kept
    second_means schema reasons.FileFault has why is = subst (λ st. MeansCompat files old new st s) (sym is.0) (inr (schema, has.verdict, why), kept)
    second_means schema reasons.NoMemory has why is = subst (λ st. MeansCompat files old new st s) (sym is.0) kept

  pub first_said : (reason : NoSchema) → TellsWhy (IsIdlVerdict files old) (IsUnreadIdl files old) reason → EndsWithout reason ended e → SaysCompat files old new ended e
  first_said (reasons.Refused r) why (inl is) = subst (λ st. SaysCompat files old new st e) (sym is.0) (inl (r.file, r.at, r.kind, why, is.1))
  first_said (reasons.Refused r) why (inr is) = subst (λ st. SaysCompat files old new st e) (sym is.0) is.1
  first_said reasons.FileFault why is = subst (λ st. SaysCompat files old new st e) (sym is.0) is.1
  first_said reasons.NoMemory why is = subst (λ st. SaysCompat files old new st e) (sym is.0) is.1

  pub second_said : (schema : PlainSchema) (reason : NoSchema) → HasSchema files old schema → TellsWhy (IsIdlVerdict files new) (IsUnreadIdl files new) reason
      → EndsWithout reason ended e → SaysCompat files old new ended e
  second_said schema (reasons.Refused r) has why (inl is) =
      subst (λ st. SaysCompat files old new st e) (sym is.0) (inr (schema, has.verdict, (r.file, r.at, r.kind, why, is.1)))
  second_said schema (reasons.Refused r) has why (inr is) = subst (λ st. SaysCompat files old new st e) (sym is.0) is.1
  second_said schema reasons.FileFault has why is = subst (λ st. SaysCompat files old new st e) (sym is.0) is.1
  second_said schema reasons.NoMemory has why is = subst (λ st. SaysCompat files old new st e) (sym is.0) is.1

  -- ---- both have one

  module _ (ch : SchemaChange) (are : IsChangeOf files old new ch) (left before now : Option (List ℕ)) where
    abbrev streams : Streams
    streams = record { left_before = left; left = left; taken_before = before; taken = now }

    abbrev Means : Status → Type 0
    Means st = MeansCompat files old new st streams

    pub compared_means : EndsComparing ch ended before now e → Means ended
    compared_means (inl (fine, inl (is, told))) = subst Means (sym is.0) (ch, are, fine, (refl, told))
    compared_means (inl (fine, inr (inl (is, part)))) = subst Means (sym is.0) (ch, are, (compatible_text, inl (fine, refl), (refl, part)))
    compared_means (inl (fine, inr (inr (is, same)))) = subst Means (sym is.0) (refl, same)
    compared_means (inr (inl (b, first, inl (is, told)))) = subst Means (sym is.0) (ch, are, (b, first, (refl, told)))
    compared_means (inr (inl (b, first, inr (inl (is, part))))) = subst Means (sym is.0) (ch, are, (break_text b, inr (b, first, refl), (refl, part)))
    compared_means (inr (inl (b, first, inr (inr (is, same))))) = subst Means (sym is.0) (refl, same)
    compared_means (inr (inr (is, same))) = subst Means (sym is.0) (refl, same)

    pub compared_said : EndsComparing ch ended before now e → SaysCompat files old new ended e
    compared_said (inl (fine, inl (is, told))) = subst (λ st. SaysCompat files old new st e) (sym is.0) is.1
    compared_said (inl (fine, inr (inl (is, part)))) = subst (λ st. SaysCompat files old new st e) (sym is.0) is.1
    compared_said (inl (fine, inr (inr (is, same)))) = subst (λ st. SaysCompat files old new st e) (sym is.0) is.1
    compared_said (inr (inl (b, first, inl (is, told)))) = subst (λ st. SaysCompat files old new st e) (sym is.0) is.1
    compared_said (inr (inl (b, first, inr (inl (is, part))))) = subst (λ st. SaysCompat files old new st e) (sym is.0) is.1
    compared_said (inr (inl (b, first, inr (inr (is, same))))) = subst (λ st. SaysCompat files old new st e) (sym is.0) is.1
    compared_said (inr (inr (is, same))) = subst (λ st. SaysCompat files old new st e) (sym is.0) is.1

-- ---- how a comparison ends

module _ (ch : SchemaChange) (ended : Status) (before now : Option (List ℕ)) (e : Errors) where
  pub ends_compatible : IsCompatible ch → EndsWriting ended before now compatible_text e → EndsComparing ch ended before now e
  ends_compatible fine (inl whole) = inl (fine, inl whole)
  ends_compatible fine (inr part) = inl (fine, inr (inl part))

  -- a break whose kind isn't want of memory is the first
  pub ends_broken : (b : Break) → IsBreakOrNoMemory ch b → EndsBroken (plain_break b) ended before now e → EndsComparing ch ended before now e
  ends_broken b (inl first) (inl (known, ends)) = inr (inl (plain_break b, first, ends))
  ends_broken b (inr none) (inl (known, ends)) = absurd (true≢false (sym (ap (λ (f : PlainBreak). is_no_memory f.kind) none) ∙ known))
  ends_broken b first (inr ends) = inr (inr ends)

-- ---- no other end

module _ (files : Option (List File)) (old new : List ℕ) (ended : Status) (s : Streams) (means : MeansCompat files old new ended s) where
  pub no_net : ended ≡ NetFault → ⊥
  no_net is = subst (λ st. MeansCompat files old new st s) is means

  pub no_journal : ended ≡ JournalFault → ⊥
  no_journal is = subst (λ st. MeansCompat files old new st s) is means

  pub no_read : ended ≡ ReadFault → ⊥
  no_read is = subst (λ st. MeansCompat files old new st s) is means
