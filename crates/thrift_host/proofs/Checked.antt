-- What a check means by how it ends.
use Rattle.std.proofs.Common.{◌≡◌, inl, inr, ℕ, List, Option, refl, sym, ap, ◌∙◌, subst}
use Rattle.streams.specs.Content.{told_more}
use Rattle.streams.specs.Files.{File}
use Rattle.streams.specs.Taken.{IsTakenInPart}
use Rattle.idl_check.specs.declared.refusal.NoSchema.{NoSchema}
use Rattle.idl_check.specs.declared.refusal.NoSchema.TheVariants as reasons
use Rattle.idl_check.specs.Telling.{TellsWhy}
use Rattle.idl_check.specs.Verdicts.{IsIdlVerdict, IsSchemaTextOf, IsUnreadIdl}
use Rattle.recorded_runs.specs.Recorded.{Streams}
use Rattle.thrift_host.specs.declared.status.Status.{Status}
use Rattle.thrift_host.specs.declared.status.Status.TheVariants.{NetFault, JournalFault}
use Rattle.thrift_host.specs.Checks.{AreUntouched, MeansCheck, SaysCheck}
use Rattle.thrift_host.specs.Errors.{Errors}
use Rattle.thrift_host.specs.Steps.{EndsWithout, EndsWriting}

module _ (files : Option (List File)) (idl : List ℕ) (ended : Status) (e : Errors) where
  -- the text of the schema was written, or a beginning of it
  pub printed_means : (left before now : Option (List ℕ)) (text : List ℕ) → IsSchemaTextOf files idl text → EndsWriting ended before now text e
      → MeansCheck files idl ended (record { left_before = left; left = left; taken_before = before; taken = now })
  printed_means left before now text (schema, verdict, is) (inl (ends, told)) =
      subst (λ st. MeansCheck files idl st (record { left_before = left; left = left; taken_before = before; taken = now })) (sym ends.0)
      (record { schema = schema; verdict = verdict; unread = refl; written = told ∙ ap (told_more before) is })
  printed_means left before now text (schema, verdict, is) (inr (ends, part)) =
      subst (λ st. MeansCheck files idl st (record { left_before = left; left = left; taken_before = before; taken = now })) (sym ends.0)
      (record { schema = schema; verdict = verdict; unread = refl; written = subst (IsTakenInPart before now) is part })

  pub printed_said : (before now : Option (List ℕ)) (text : List ℕ) → EndsWriting ended before now text e → SaysCheck files idl ended e
  printed_said before now text (inl (ends, told)) = subst (λ st. SaysCheck files idl st e) (sym ends.0) ends.1
  printed_said before now text (inr (ends, part)) = subst (λ st. SaysCheck files idl st e) (sym ends.0) ends.1

  -- there is no schema
  pub unprinted_means : (s : Streams) → AreUntouched s → (reason : NoSchema) → TellsWhy (IsIdlVerdict files idl) (IsUnreadIdl files idl) reason → EndsWithout reason ended e
      → MeansCheck files idl ended s
  unprinted_means s kept (reasons.Refused r) why (inl h) = subst (λ st. MeansCheck files idl st s) (sym h.0) (r.file, r.at, r.kind, why, kept)
  unprinted_means s kept (reasons.Refused r) why (inr h) = subst (λ st. MeansCheck files idl st s) (sym h.0) kept
  unprinted_means s kept reasons.FileFault why h = subst (λ st. MeansCheck files idl st s) (sym h.0) (why, kept)
  unprinted_means s kept reasons.NoMemory why h = subst (λ st. MeansCheck files idl st s) (sym h.0) kept

  pub unprinted_said : (reason : NoSchema) → TellsWhy (IsIdlVerdict files idl) (IsUnreadIdl files idl) reason → EndsWithout reason ended e → SaysCheck files idl ended e
  unprinted_said (reasons.Refused r) why (inl h) = subst (λ st. SaysCheck files idl st e) (sym h.0) (r.file, r.at, r.kind, why, h.1)
  unprinted_said (reasons.Refused r) why (inr h) = subst (λ st. SaysCheck files idl st e) (sym h.0) h.1
  unprinted_said reasons.FileFault why h = subst (λ st. SaysCheck files idl st e) (sym h.0) h.1
  unprinted_said reasons.NoMemory why h = subst (λ st. SaysCheck files idl st e) (sym h.0) h.1

-- what it never ends with
module _ (files : Option (List File)) (idl : List ℕ) (s : Streams) (ended : Status) (means : MeansCheck files idl ended s) where
  pub never_net : ended ≡ NetFault → ⊥
  never_net is = subst (λ status. MeansCheck files idl status s) is means

  pub never_journal : ended ≡ JournalFault → ⊥
  never_journal is = subst (λ status. MeansCheck files idl status s) is means
