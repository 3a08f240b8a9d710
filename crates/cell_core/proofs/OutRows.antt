-- The rows of what was written: one mark more.
use Rattle.std.proofs.Common.{◌≡◌, ◌≢◌, ℕ, zero, suc, ◌+◌, ◌<◌, ◌==◌, Bool, true, false, if◌then◌else◌, List, [], ◌∷◌, ◌++◌, map, length, replicate, set, get_or, refl, sym, ap, ◌∙◌, arith, append_assoc}
use Rattle.std.proofs.lemmas.Bool.{eq-eqb, ne_eqb}
use Rattle.std.proofs.lemmas.List.{append-nil}
use Rattle.std.proofs.lemmas.List.Elements.{filter-append}
use Rattle.std.proofs.lemmas.Grind.{flat_map-append}
use Rattle.streams.specs.declared.marks.Mark.{Mark}
use Rattle.streams.specs.declared.marks.Mark.TheVariants.{Opened, Read, Ended, Wrote, ReadFailed, WriteFailed, Closed}
use Rattle.host_model.specs.Marks.{connection_of, written_by, marks_of, output}
use Rattle.cell_core.specs.Rehearsed.{written_from, rows_behind}

-- a row that has grown, where there is one
pub row_grown : {R : Type 0} (f : R → List ℕ) (rows : List R) (c : ℕ) (old next : R) (bytes : List ℕ) → c < length rows → old ≡ get_or rows c old → f next ≡ f old ++ bytes
    → map f (set rows c next) ≡ set (map f rows) c (get_or (map f rows) c [] ++ bytes)
row_grown f [] c old next bytes there here grown = refl
row_grown f (row ∷ rows) zero old next bytes there here grown = (λ i. (grown ∙ ap (λ x. f x ++ bytes) here) i ∷ map f rows)
row_grown f (row ∷ rows) (suc c) old next bytes there here grown = ap (λ xs. f row ∷ xs) (row_grown f rows c old next bytes (omega arith) here grown)

-- empty rows are what an empty tape says
none_written : (n c : ℕ) → replicate n [] ≡ written_from [] c n
none_written zero c = refl
none_written (suc n) c = ap (λ xs. [] ∷ xs) (none_written n (suc c))

-- a mark more of a connection
own_mark : (c : ℕ) (tape : List Mark) (mark : Mark) → connection_of mark ≡ c → output (marks_of c (tape ++ mark ∷ [])) ≡ output (marks_of c tape) ++ written_by mark
own_mark c tape mark own =
    ap output (filter-append (λ m. connection_of m == c) tape (mark ∷ []) ∙ ap (λ b. marks_of c tape ++ (if b then mark ∷ [] else [])) (eq-eqb (connection_of mark) c own))
    ∙ flat_map-append written_by (marks_of c tape) (mark ∷ [])
    ∙ ap (λ xs. output (marks_of c tape) ++ xs) (append-nil (written_by mark))

-- a mark more of another
other_mark : (c : ℕ) (tape : List Mark) (mark : Mark) → connection_of mark ≢ c → output (marks_of c (tape ++ mark ∷ [])) ≡ output (marks_of c tape)
other_mark c tape mark other =
    ap output (filter-append (λ m. connection_of m == c) tape (mark ∷ []) ∙ ap (λ b. marks_of c tape ++ (if b then mark ∷ [] else [])) (ne_eqb (connection_of mark) c other)
    ∙ append-nil (marks_of c tape))

-- a mark by which nothing is written
quiet_mark : (tape : List Mark) (mark : Mark) (c n : ℕ) → written_by mark ≡ [] → written_from tape c n ≡ written_from (tape ++ mark ∷ []) c n
quiet_mark tape mark c zero quiet = refl
quiet_mark tape mark c (suc n) quiet = (λ i. same i ∷ quiet_mark tape mark (suc c) n quiet i)
  where
    same : output (marks_of c tape) ≡ output (marks_of c (tape ++ mark ∷ []))
    same = sym (ap output (filter-append (λ m. connection_of m == c) tape (mark ∷ [])) ∙ flat_map-append written_by (marks_of c tape) (marks_of c (mark ∷ []))
        ∙ ap (λ xs. output (marks_of c tape) ++ xs) (none_of (connection_of mark == c)) ∙ append-nil (output (marks_of c tape)))
      where
        none_of : (b : Bool) → output (if b then mark ∷ [] else []) ≡ []
        none_of true = append-nil (written_by mark) ∙ quiet
        none_of false = refl

-- a mark of a connection below these
mark_below : (tape : List Mark) (mark : Mark) (c n : ℕ) → connection_of mark < c → written_from tape c n ≡ written_from (tape ++ mark ∷ []) c n
mark_below tape mark c zero below = refl
mark_below tape mark c (suc n) below =
    (λ i. sym (other_mark c tape mark (λ e. let k : ⊥ = omega arith in k)) i ∷ mark_below tape mark (suc c) n (omega arith) i)

-- a write is one more in its row
write_added : (tape : List Mark) (mark : Mark) (c n k : ℕ) → connection_of mark ≡ c + k
    → set (written_from tape c n) k (get_or (written_from tape c n) k [] ++ written_by mark) ≡ written_from (tape ++ mark ∷ []) c n
write_added tape mark c zero k own = refl
write_added tape mark c (suc n) zero own =
    let here : connection_of mark ≡ c = omega arith in
    (λ i. sym (own_mark c tape mark here) i ∷ mark_below tape mark (suc c) n (omega arith) i)
write_added tape mark c (suc n) (suc k) own =
    (λ i. sym (other_mark c tape mark (λ e. let f : ⊥ = omega arith in f)) i ∷ write_added tape mark (suc c) n k (omega arith) i)

-- the rows after a mark more
behind_one : (tape : List Mark) (n : ℕ) (mark : Mark) → rows_behind (written_from tape 0 n) mark ≡ written_from (tape ++ mark ∷ []) 0 n
behind_one tape n (Opened c) = quiet_mark tape (Opened c) 0 n refl
behind_one tape n (Read c bytes) = quiet_mark tape (Read c bytes) 0 n refl
behind_one tape n (Ended c) = quiet_mark tape (Ended c) 0 n refl
behind_one tape n (Wrote c bytes) = write_added tape (Wrote c bytes) 0 n c (omega arith)
behind_one tape n (ReadFailed c) = quiet_mark tape (ReadFailed c) 0 n refl
behind_one tape n (WriteFailed c) = quiet_mark tape (WriteFailed c) 0 n refl
behind_one tape n (Closed c) = quiet_mark tape (Closed c) 0 n refl

-- the rows after more marks
abbrev pub rows_behind_all : List (List ℕ) → List Mark → List (List ℕ)
rows_behind_all rows [] = rows
rows_behind_all rows (mark ∷ marks) = rows_behind_all (rows_behind rows mark) marks

behind_all : (front marks : List Mark) (n : ℕ) → rows_behind_all (written_from front 0 n) marks ≡ written_from (front ++ marks) 0 n
behind_all front [] n = ap (λ t. written_from t 0 n) (sym (append-nil front))
behind_all front (mark ∷ marks) n =
    ap (λ rows. rows_behind_all rows marks) (behind_one front n mark) ∙ behind_all (front ++ mark ∷ []) marks n ∙ ap (λ t. written_from t 0 n) (append_assoc front (mark ∷ []) marks)

-- the rows after all marks of a tape
pub rows_of_all : (rows : List (List ℕ)) (marks : List Mark) (n : ℕ) → rows ≡ replicate n [] → rows_behind_all rows marks ≡ written_from marks 0 n
rows_of_all rows marks n empty = ap (λ r. rows_behind_all r marks) (empty ∙ none_written n 0) ∙ behind_all [] marks n
