-- One field more of those that a literal of a struct is made of.
use Rattle.std.proofs.Common.{◌≡◌, ℕ, ℤ, Bool, List, [], ◌∷◌, ◌++◌, map, append_assoc, Result, Ok, Err, Option, MatchResult, OnOk, refl, sym, ap, ◌∙◌, subst}
use Rattle.std.specs.Option.{option_map}
use Rattle.std.proofs.lemmas.List.{map-append}
use Rattle.std.specs.Prelude.{⊤}
use Rattle.idl_token.specs.declared.Place.{Place}
use Rattle.thrift_value.specs.declared.value.Value.{Value}
use Rattle.thrift_value.specs.Tree.{Tree, FieldTrees}
use Rattle.thrift_value.specs.TreeOf.{tree_of}
use Rattle.check_model.specs.Worths.{Worth, valued, flawed, and_next}
use Rattle.check_model.specs.Evaluation.{NamedWorth, with_field}
use Rattle.idl_const.specs.declared.faults.ConstFault.TheVariants as fault
use Rattle.idl_const.specs.declared.faults.ConstStop.{ConstStop}
use Rattle.idl_const.specs.declared.ground.FieldEntry.{FieldEntry}
use Rattle.idl_const.specs.Flaws.{StopsAs, AnswersWorth}
use Rattle.idl_const.specs.FieldEntries.{PlainFieldEntry, given_entry, given_in_memory, entry_in, entry_id, entry_worth, entries_worth, fields_in_front}
use Rattle.idl_const.proofs.InFront.{KeptResult, ok_is_no_err, fields_front}
use Rattle.idl_const.proofs.Stopping.{KeptOrNot, same_stop, says_nothing, stops_next}

-- a field that was kept stands in front of the others
kept_in_front : (fs new : List (ℤ × Value)) (id own : ℤ) (o : Option Tree) (w : Worth FieldTrees)
    → ((more : FieldTrees) → fields_in_front new more ≡ fields_in_front fs (with_field id o more)) → id ≡ own
    → fields_front new w ≡ fields_front fs (and_next w (λ rest k. valued (with_field own o rest) k))
kept_in_front fs new id own o (valued rest k) kept same = ap (λ t. valued t k) (kept rest ∙ ap (λ i. fields_in_front fs (with_field i o rest)) same)
kept_in_front fs new id own o (flawed at flaw) kept same = refl

module _ (named : NamedWorth) (at : Place) (levels n : ℕ) (e : PlainFieldEntry) (row rest : List PlainFieldEntry) (fs : List (ℤ × Value)) (all : Worth FieldTrees)
    (is : row ≡ e ∷ rest) (made : fields_front fs (entries_worth named at levels n row) ≡ all) where
  -- one more was made and kept, and marks stayed
  pub fields_step : (new : List (ℤ × Value)) (r : Result (Option Value) ConstStop) (id : ℤ) (m : ℕ) (after free first : List Bool)
      → AnswersWorth (option_map tree_of) r m (entry_worth named at levels n e)
      → MatchResult r (λ one. ((more : FieldTrees) → fields_in_front new more ≡ fields_in_front fs (with_field id (option_map tree_of one) more)) × ⊤) (λ stop. KeptResult ≡ Err stop)
      → id ≡ entry_id e → OnOk r (after ≡ free) → free ≡ first → (fields_front new (entries_worth named at levels m rest) ≡ all) × (after ≡ first)
  fields_step new (Ok one) id m after free first worth kept same stays is_first = (
    kept_in_front fs new id (entry_id e) (option_map tree_of one) (entries_worth named at levels m rest) kept.0 same
        ∙ (λ j. fields_front fs (and_next (sym worth j) (λ value n. and_next (entries_worth named at levels n rest) (λ more k. valued (with_field (entry_id e) value more) k))))
        ∙ (λ j. fields_front fs (entries_worth named at levels n (sym is j)))
        ∙ made,
    stays ∙ is_first,
  )
  fields_step new (Err stop) id m after free first worth kept same stays is_first = absurd (ok_is_no_err stop kept)

  entry_stops : (stop : ConstStop) → StopsAs stop (entry_worth named at levels n e) → StopsAs stop all
  entry_stops stop h =
      subst (StopsAs stop) made (subst (λ r. StopsAs stop (fields_front fs (entries_worth named at levels n r))) (sym is)
      (stops_next stop (entries_worth named at levels n (e ∷ rest)) (λ more k. valued (fields_in_front fs more) k)
      (stops_next stop (entry_worth named at levels n e) (λ value n. and_next (entries_worth named at levels n rest) (λ more k. valued (with_field (entry_id e) value more) k)) h)))

  -- one wasn't made or kept
  pub fields_stop : (r : Result (Option Value) ConstStop) (stop : ConstStop) (m : ℕ) → AnswersWorth (option_map tree_of) r m (entry_worth named at levels n e)
      → MatchResult r (λ one. ⊤ × (stop.fault ≡ fault.NoMemory)) (λ other. KeptOrNot stop ≡ Err other) → StopsAs stop all
  fields_stop (Ok one) stop m worth kept = says_nothing stop all kept.1
  fields_stop (Err other) stop m worth kept = entry_stops stop (subst (λ x. StopsAs x (entry_worth named at levels n e)) (same_stop stop other kept) worth)

-- a given value more was put at the end of a row
pub given_next : (row longer : List FieldEntry) (given left : List (ℤ × Value)) (p : ℤ × Value) (x : FieldEntry) (all : List PlainFieldEntry) → longer ≡ row ++ x ∷ [] → given ≡ p ∷ left
    → entry_in x ≡ given_entry (given_in_memory p) → map entry_in row ++ map given_entry (map given_in_memory given) ≡ all
    → map entry_in longer ++ map given_entry (map given_in_memory left) ≡ all
given_next row longer given left p x all put taken same kept =
    let rest = map given_entry (map given_in_memory left) in
    ap (λ r. map entry_in r ++ rest) put
    ∙ ap (λ l. l ++ rest) (map-append entry_in row (x ∷ []))
    ∙ append_assoc (map entry_in row) (entry_in x ∷ []) rest
    ∙ ap (λ e. map entry_in row ++ e ∷ rest) same
    ∙ ap (λ g. map entry_in row ++ map given_entry (map given_in_memory g)) (sym taken)
    ∙ kept
