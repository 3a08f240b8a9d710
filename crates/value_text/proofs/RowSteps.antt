-- Reading entries one after another, as a loop does.
use Rattle.std.proofs.Common.{◌≡◌, ℕ, suc, Bool, true, false, List, [], ◌∷◌, ◌++◌, Option, Some, None, Result, Ok, Err, map, refl, sym, ap, subst, ◌∙◌, append_assoc}
use Rattle.std.proofs.lemmas.List.{map_push}
use Rattle.value_text.specs.declared.stop.TextStop.{TextStop}
use Rattle.value_text.specs.declared.stop.TextStop.TheVariants as stop
use Rattle.value_text.specs.Answering.{LeavesAs}
use Rattle.value_text.specs.Fronts.{◌>>=◌}
use Rattle.value_text.specs.Rows.{last_of, row_at, entries_behind, rows_at}

-- the last entry, where one more was added
pub last_push : {A : Type 0} (xs : List A) (x : A) → last_of (xs ++ x ∷ []) ≡ Some x
last_push [] x = refl
last_push (y ∷ []) x = refl
last_push (y ∷ (z ∷ zs)) x = last_push (z ∷ zs) x

-- what was read before, and what is still read
abbrev pub in_front : {A : Type 0} → List A → Result (List A × List ℕ) ℕ → Result (List A × List ℕ) ℕ
in_front xs read = read >>= λ more. Ok (xs ++ more.0, more.1)

pub nothing_in_front : {A : Type 0} (r : Result (List A × List ℕ) ℕ) → in_front [] r ≡ r
nothing_in_front (Ok x) = refl
nothing_in_front (Err left) = refl

-- one more was read
pub one_in_front : {A : Type 0} (xs : List A) (x : A) (r : Result (List A × List ℕ) ℕ) → in_front xs (r >>= λ more. Ok (x ∷ more.0, more.1)) ≡ in_front (xs ++ x ∷ []) r
one_in_front xs x (Ok more) = ap (λ ys. Ok (ys, more.1)) (sym (append_assoc xs (x ∷ []) more.0))
one_in_front xs x (Err left) = refl

-- answers of rows
abbrev row_answer : {A : Type 0} → A → List ℕ → Bool → Result (A × Bool × List ℕ) ℕ
row_answer x behind more = Ok (x, more, behind)

abbrev list_answer : {A : Type 0} → List ℕ → List A → Result (List A × List ℕ) ℕ
list_answer behind xs = Ok (xs, behind)

-- the last of some items, where the list is seen by view
pub last_mapped : {A B : Type 0} (view : B → A) (xs rest : List B) (x : B) → xs ≡ rest ++ x ∷ [] → last_of (map view xs) ≡ Some (view x)
last_mapped view xs rest x is = ap (λ ys. last_of (map view ys)) is ∙ ap last_of (map_push view rest x) ∙ last_push (map view rest) (view x)

module _ {A : Type 0} (entry : Option A → List ℕ → Result (A × List ℕ) ℕ) (close : ℕ) (most : ℕ) (text : List ℕ) where
  -- what was read so far, in front of what is read of the rest, is what is read of all
  abbrev pub AreRead : ℕ → List A → List ℕ → Type 0
  AreRead left xs rest = in_front xs (rows_at entry close left (last_of xs) rest) ≡ rows_at entry close most None text

  opened : (left less : ℕ) (xs : List A) (rest : List ℕ) → left ≡ suc less
      → in_front xs (rows_at entry close left (last_of xs) rest) ≡ in_front xs (row_at entry close (last_of xs) rest >>= λ row. entries_behind row (rows_at entry close less))
  unfolding rows_at
  opened left less xs rest is = ap (λ n. in_front xs (rows_at entry close n (last_of xs) rest)) is

  pub rows_stop : (why : TextStop) (left less : ℕ) (xs : List A) (rest : List ℕ) → left ≡ suc less → AreRead left xs rest
      → LeavesAs why (row_at entry close (last_of xs) rest) → LeavesAs why (rows_at entry close most None text)
  rows_stop stop.NoMemory left less xs rest is kept h = tt
  rows_stop (stop.Left n) left less xs rest is kept h =
      sym kept ∙ opened left less xs rest is ∙ ap (λ r. in_front xs (r >>= λ row. entries_behind row (rows_at entry close less))) h

  pub row_read : (left less : ℕ) (xs : List A) (rest : List ℕ) (x : A) (behind : List ℕ) → left ≡ suc less → AreRead left xs rest
      → row_at entry close (last_of xs) rest ≡ Ok (x, true, behind) → AreRead less (xs ++ x ∷ []) behind
  row_read left less xs rest x behind is kept h =
      ap (λ last. in_front (xs ++ x ∷ []) (rows_at entry close less last behind)) (last_push xs x)
      ∙ sym (one_in_front xs x (rows_at entry close less (Some x) behind))
      ∙ sym (ap (λ r. in_front xs (r >>= λ row. entries_behind row (rows_at entry close less))) h)
      ∙ sym (opened left less xs rest is) ∙ kept

  pub last_row_read : (left less : ℕ) (xs : List A) (rest : List ℕ) (x : A) (behind : List ℕ) → left ≡ suc less → AreRead left xs rest
      → row_at entry close (last_of xs) rest ≡ Ok (x, false, behind) → rows_at entry close most None text ≡ Ok (xs ++ x ∷ [], behind)
  last_row_read left less xs rest x behind is kept h =
      sym kept ∙ opened left less xs rest is ∙ ap (λ r. in_front xs (r >>= λ row. entries_behind row (rows_at entry close less))) h

  -- a row that was read, where one more item was put behind the others
  pub row_put : {B : Type 0} (view : B → A) (left less : ℕ) (seen items more_items : List B) (rest : List ℕ) (x : B) (more : Bool) (behind : List ℕ) → seen ≡ items → left ≡ suc less → AreRead left (map view items) rest
      → row_at entry close (last_of (map view seen)) rest ≡ Ok (view x, more, behind) → more ≡ true → more_items ≡ items ++ x ∷ [] → AreRead less (map view more_items) behind
  row_put view left less seen items more_items rest x more behind same is kept h on put =
      subst (λ ys. AreRead less ys behind) (sym (ap (map view) put ∙ map_push view items x))
      (row_read left less (map view items) rest (view x) behind is kept (ap (λ ys. row_at entry close (last_of (map view ys)) rest) (sym same) ∙ h ∙ ap (row_answer (view x) behind) on))

  pub last_row_put : {B : Type 0} (view : B → A) (left less : ℕ) (seen items more_items : List B) (rest : List ℕ) (x : B) (more : Bool) (behind : List ℕ) → seen ≡ items → left ≡ suc less → AreRead left (map view items) rest
      → row_at entry close (last_of (map view seen)) rest ≡ Ok (view x, more, behind) → more ≡ false → more_items ≡ items ++ x ∷ [] → rows_at entry close most None text ≡ Ok (map view more_items, behind)
  last_row_put view left less seen items more_items rest x more behind same is kept h done put =
      last_row_read left less (map view items) rest (view x) behind is kept (ap (λ ys. row_at entry close (last_of (map view ys)) rest) (sym same) ∙ h ∙ ap (row_answer (view x) behind) done)
      ∙ ap (list_answer behind) (sym (ap (map view) put ∙ map_push view items x))

  pub row_stop : {B : Type 0} (view : B → A) (why : TextStop) (left less : ℕ) (seen items : List B) (rest : List ℕ) → seen ≡ items → left ≡ suc less → AreRead left (map view items) rest
      → LeavesAs why (row_at entry close (last_of (map view seen)) rest) → LeavesAs why (rows_at entry close most None text)
  row_stop view why left less seen items rest same is kept h =
      rows_stop why left less (map view items) rest is kept (subst (λ ys. LeavesAs why (row_at entry close (last_of (map view ys)) rest)) same h)
