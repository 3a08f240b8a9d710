-- A mark by its kind, its connection and its bytes; and lists in which all is of connection 0.
use Rattle.std.proofs.Common.{◌≡◌, ℕ, zero, suc, ◌≤◌, ◌==◌, Bool, true, false, cond, if◌then◌else◌, List, [], ◌∷◌, ◌++◌, filter, refl, sym, ap, ◌∙◌, arith, eq-eqb}
use Rattle.std.specs.List.{AllByRecursion}
use Rattle.std.proofs.lemmas.Grind.{flat_map-append}
use Rattle.streams.specs.declared.marks.Mark.{Mark}
use Rattle.streams.specs.declared.marks.Mark.TheVariants.{Opened, Read, Ended, Wrote, ReadFailed, WriteFailed, Closed}
use Rattle.host_model.specs.Marks.{connection_of, marks_of, read_by, written_by, input, output}
use Rattle.host_model.proofs.Lists.{nil-cons}
use Rattle.host_model.proofs.Filters.{marks_append}

-- the kind of a mark, by number
abbrev pub kind_of : Mark → ℕ
kind_of (Opened c) = 0
kind_of (Read c bytes) = 1
kind_of (Ended c) = 2
kind_of (Wrote c bytes) = 3
kind_of (ReadFailed c) = 4
kind_of (WriteFailed c) = 5
kind_of (Closed c) = 6

-- the mark of this kind and connection, with these bytes read or written
abbrev pub mark_from : ℕ → ℕ → List ℕ → List ℕ → Mark
mark_from kind c read wrote =
    if kind == 0 then Opened c else (if kind == 1 then Read c read else (if kind == 2 then Ended c else (if kind == 3 then Wrote c wrote
    else (if kind == 4 then ReadFailed c else (if kind == 5 then WriteFailed c else Closed c)))))

pub mark_again : (m : Mark) → mark_from (kind_of m) (connection_of m) (read_by m) (written_by m) ≡ m
mark_again (Opened c) = refl
mark_again (Read c bytes) = refl
mark_again (Ended c) = refl
mark_again (Wrote c bytes) = refl
mark_again (ReadFailed c) = refl
mark_again (WriteFailed c) = refl
mark_again (Closed c) = refl

-- marks that are equal in all of these are equal
pub same_mark : (m n : Mark) → kind_of m ≡ kind_of n → connection_of m ≡ connection_of n → read_by m ≡ read_by n → written_by m ≡ written_by n → m ≡ n
same_mark m n k c r w = sym (mark_again m) ∙ (λ i. mark_from (k i) (c i) (r i) (w i)) ∙ mark_again n

no_read : (n : Mark) → (kind_of n ≡ 1 → ⊥) → [] ≡ read_by n
no_read (Opened c) h = refl
no_read (Read c bytes) h = absurd (h refl)
no_read (Ended c) h = refl
no_read (Wrote c bytes) h = refl
no_read (ReadFailed c) h = refl
no_read (WriteFailed c) h = refl
no_read (Closed c) h = refl

no_written : (n : Mark) → (kind_of n ≡ 3 → ⊥) → [] ≡ written_by n
no_written (Opened c) h = refl
no_written (Read c bytes) h = refl
no_written (Ended c) h = refl
no_written (Wrote c bytes) h = absurd (h refl)
no_written (ReadFailed c) h = refl
no_written (WriteFailed c) h = refl
no_written (Closed c) h = refl

is_read : (n : Mark) → kind_of n ≡ 1 → n ≡ Read (connection_of n) (read_by n)
is_read (Opened c) k = absurd (let f : ⊥ = omega (arith, k) in f)
is_read (Read c bytes) k = refl
is_read (Ended c) k = absurd (let f : ⊥ = omega (arith, k) in f)
is_read (Wrote c bytes) k = absurd (let f : ⊥ = omega (arith, k) in f)
is_read (ReadFailed c) k = absurd (let f : ⊥ = omega (arith, k) in f)
is_read (WriteFailed c) k = absurd (let f : ⊥ = omega (arith, k) in f)
is_read (Closed c) k = absurd (let f : ⊥ = omega (arith, k) in f)

is_write : (n : Mark) → kind_of n ≡ 3 → n ≡ Wrote (connection_of n) (written_by n)
is_write (Opened c) k = absurd (let f : ⊥ = omega (arith, k) in f)
is_write (Read c bytes) k = absurd (let f : ⊥ = omega (arith, k) in f)
is_write (Ended c) k = absurd (let f : ⊥ = omega (arith, k) in f)
is_write (Wrote c bytes) k = refl
is_write (ReadFailed c) k = absurd (let f : ⊥ = omega (arith, k) in f)
is_write (WriteFailed c) k = absurd (let f : ⊥ = omega (arith, k) in f)
is_write (Closed c) k = absurd (let f : ⊥ = omega (arith, k) in f)

-- two marks of one kind and one connection have read the same, if two reads have
pub same_read : (at : ℕ) (m n : Mark) → kind_of m ≡ kind_of n → connection_of m ≡ at → connection_of n ≡ at
    → ((bytes other : List ℕ) → m ≡ Read at bytes → n ≡ Read at other → bytes ≡ other) → read_by m ≡ read_by n
same_read at (Opened c) n k x y h = no_read n (λ e. let f : ⊥ = omega (arith, k, e) in f)
same_read at (Read c bytes) n k x y h =
    h bytes (read_by n) (ap (λ c. Read c bytes) x) (is_read n (sym k) ∙ ap (λ c. Read c (read_by n)) y)
same_read at (Ended c) n k x y h = no_read n (λ e. let f : ⊥ = omega (arith, k, e) in f)
same_read at (Wrote c bytes) n k x y h = no_read n (λ e. let f : ⊥ = omega (arith, k, e) in f)
same_read at (ReadFailed c) n k x y h = no_read n (λ e. let f : ⊥ = omega (arith, k, e) in f)
same_read at (WriteFailed c) n k x y h = no_read n (λ e. let f : ⊥ = omega (arith, k, e) in f)
same_read at (Closed c) n k x y h = no_read n (λ e. let f : ⊥ = omega (arith, k, e) in f)

-- and have written the same, if two writes have
pub same_written : (at : ℕ) (m n : Mark) → kind_of m ≡ kind_of n → connection_of m ≡ at → connection_of n ≡ at
    → ((bytes other : List ℕ) → m ≡ Wrote at bytes → n ≡ Wrote at other → bytes ≡ other) → written_by m ≡ written_by n
same_written at (Opened c) n k x y h = no_written n (λ e. let f : ⊥ = omega (arith, k, e) in f)
same_written at (Read c bytes) n k x y h = no_written n (λ e. let f : ⊥ = omega (arith, k, e) in f)
same_written at (Ended c) n k x y h = no_written n (λ e. let f : ⊥ = omega (arith, k, e) in f)
same_written at (Wrote c bytes) n k x y h =
    h bytes (written_by n) (ap (λ c. Wrote c bytes) x) (is_write n (sym k) ∙ ap (λ c. Wrote c (written_by n)) y)
same_written at (ReadFailed c) n k x y h = no_written n (λ e. let f : ⊥ = omega (arith, k, e) in f)
same_written at (WriteFailed c) n k x y h = no_written n (λ e. let f : ⊥ = omega (arith, k, e) in f)
same_written at (Closed c) n k x y h = no_written n (λ e. let f : ⊥ = omega (arith, k, e) in f)

-- what connection 0 read and wrote by these marks
abbrev pub read_of : List Mark → List ℕ
read_of tape = input (marks_of 0 tape)

abbrev pub wrote_of : List Mark → List ℕ
wrote_of tape = output (marks_of 0 tape)

pub read_append : (xs ys : List Mark) → read_of (xs ++ ys) ≡ read_of xs ++ read_of ys
read_append xs ys = ap input (marks_append 0 xs ys) ∙ flat_map-append read_by (marks_of 0 xs) (marks_of 0 ys)

pub wrote_append : (xs ys : List Mark) → wrote_of (xs ++ ys) ≡ wrote_of xs ++ wrote_of ys
wrote_append xs ys = ap output (marks_append 0 xs ys) ∙ flat_map-append written_by (marks_of 0 xs) (marks_of 0 ys)

pub read_first : (m : Mark) (ms : List Mark) → connection_of m ≡ 0 → read_of (m ∷ ms) ≡ read_by m ++ read_of ms
read_first m ms own = ap (λ b. input (cond b (m ∷ marks_of 0 ms) (marks_of 0 ms))) (eq-eqb (connection_of m) 0 own)

-- where nothing is of another number, all is of number 0
tail_none : {X : Type 0} (b : Bool) (x : X) (xs : List X) → cond b (x ∷ xs) xs ≡ [] → xs ≡ []
tail_none true x xs e = absurd (nil-cons x xs (sym e))
tail_none false x xs e = e

own_number : {X : Type 0} (n : ℕ) (x : X) (f : ℕ → List X) → ((c : ℕ) → 1 ≤ c → cond (n == c) (x ∷ f c) (f c) ≡ []) → n ≡ 0
own_number zero x f none = refl
own_number (suc n) x f none =
    absurd (nil-cons x (f (suc n)) (sym (none (suc n) (omega arith)) ∙ ap (λ b. cond b (x ∷ f (suc n)) (f (suc n))) (eq-eqb (suc n) (suc n) refl)))

pub all_own : {X : Type 0} (number : X → ℕ) (xs : List X) → ((c : ℕ) → 1 ≤ c → filter (λ x. number x == c) xs ≡ [])
    → AllByRecursion (λ x. number x ≡ 0) xs
all_own number [] none = tt
all_own number (x ∷ xs) none = (
  own_number (number x) x (λ c. filter (λ y. number y == c) xs) none,
  all_own number xs (λ c more. tail_none (number x == c) x (filter (λ y. number y == c) xs) (none c more)),
)

pub own_filter : {X : Type 0} (number : X → ℕ) (xs : List X) → AllByRecursion (λ x. number x ≡ 0) xs → filter (λ x. number x == 0) xs ≡ xs
own_filter number [] own = refl
own_filter number (x ∷ xs) own =
    ap (λ b. cond b (x ∷ filter (λ y. number y == 0) xs) (filter (λ y. number y == 0) xs)) (eq-eqb (number x) 0 own.0) ∙ ap (λ r. x ∷ r) (own_filter number xs own.1)
