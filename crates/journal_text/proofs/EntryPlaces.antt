-- The entry of a line, or the place of its fault.
use Rattle.std.proofs.Common.{◌≡◌, ℕ, ◌≤◌, List, length, IfOk, Result, Ok, Err, ap, subst, ◌∙◌}
use Rattle.call_rules.specs.Entries.{CallEntry}
use Rattle.value_text.specs.declared.fault.TextFault.{TextFault}
use Rattle.value_text.specs.Answering.{Answers}
use Rattle.value_text.specs.Reading.{most_rounds}
use Rattle.journal_text.specs.EntryReading.{line_front, placed_entry, entry_read}
use Rattle.journal_text.specs.LineOf.{IsLineOf}
use Rattle.journal_text.proofs.EntryAgain.{line_again}
use Rattle.journal_text.proofs.EntryFound.{line_found}

placed_found : (size : ℕ) (r : Result CallEntry ℕ) (e : CallEntry) → placed_entry size r ≡ Ok e → r ≡ Ok e
placed_found size (Ok x) e is = is
placed_found size (Err left) e is = absurd cc

-- what was answered as the entry of a line is its entry
pub entry_is : {X : Type 0} (view : X → CallEntry) (line : List ℕ) (r : Result X TextFault) → Answers view r (entry_read line) → IfOk r (λ x. IsLineOf line (view x))
entry_is view line (Ok x) given = line_found most_rounds line (view x) (placed_found (length line) (line_front most_rounds line) (view x) given)
entry_is view line (Err fault) given = tt

-- the line of an entry is read as that entry
pub entry_again : (line : List ℕ) (e : CallEntry) → length line ≤ most_rounds → IsLineOf line e → entry_read line ≡ Ok e
entry_again line e short is =
    ap entry_read is.whole ∙ ap (placed_entry _) (line_again most_rounds e (subst (λ t. length t ≤ most_rounds) is.whole short) is.has_line)
