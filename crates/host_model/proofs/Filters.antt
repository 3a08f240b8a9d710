-- The marks and the entries of one connection, as the tape and the journal grow, and where entries stand.
use Rattle.std.proofs.Common.{◌≡◌, ℕ, zero, suc, ◌<◌, ◌⊎◌, Bool, true, false, cond, ◌==◌, if◌then◌else◌, Some, List, [], ◌∷◌, ◌++◌, length, slice_get, refl, sym, ap, ◌∙◌, subst, inl, inr, arith, append-nil, eq-eqb, ne_eqb}
use Rattle.std.specs.List.{AllByRecursion}
use Rattle.std.proofs.lemmas.List.Elements.{filter-append}
use Rattle.std.proofs.lemmas.Option.{none-some, same_Some}
use Rattle.streams.specs.declared.marks.Mark.{Mark}
use Rattle.host_model.specs.Marks.{connection_of, marks_of}
use Rattle.host_model.specs.Journal.{JournalEntry, ServiceRules, entries_of, after_call, after, IsAnswered, Legal}
use Rattle.host_model.specs.World.{Endpoint, Move, opens, reads, reads_frame, reads_bad_size, ends, fails_read, settles, replies, closes, writes, fails_write, gives_up, marks_by, with_endpoint}

all_of : (c : ℕ) (move : Move) → AllByRecursion (λ m. connection_of m ≡ c) (marks_by c move)
all_of c opens = (refl, tt)
all_of c (reads bytes) = (refl, tt)
all_of c (reads_frame bytes payload) = (refl, tt)
all_of c (reads_bad_size bytes size) = (refl, (refl, tt))
all_of c ends = (refl, (refl, tt))
all_of c fails_read = (refl, (refl, tt))
all_of c settles = tt
all_of c replies = tt
all_of c (closes fault) = (refl, tt)
all_of c (writes bytes) = (refl, tt)
all_of c fails_write = (refl, (refl, tt))
all_of c (gives_up cause) = (refl, tt)

own_marks : (c : ℕ) (ms : List Mark) → AllByRecursion (λ m. connection_of m ≡ c) ms → marks_of c ms ≡ ms
own_marks c [] a = refl
own_marks c (m ∷ ms) a =
    ap (λ b. cond b (m ∷ marks_of c ms) (marks_of c ms)) (eq-eqb (connection_of m) c a.0) ∙ ap (λ r. m ∷ r) (own_marks c ms a.1)

other_marks : (c x : ℕ) (ms : List Mark) → (x ≡ c → ⊥) → AllByRecursion (λ m. connection_of m ≡ c) ms → marks_of x ms ≡ []
other_marks c x [] n a = refl
other_marks c x (m ∷ ms) n a =
    ap (λ b. cond b (m ∷ marks_of x ms) (marks_of x ms)) (ne_eqb (connection_of m) x (λ e. n (sym e ∙ a.0))) ∙ other_marks c x ms n a.1

pub marks_append : (c : ℕ) (tape more : List Mark) → marks_of c (tape ++ more) ≡ marks_of c tape ++ marks_of c more
marks_append c tape more = filter-append (λ m. connection_of m == c) tape more

-- a move adds its marks to those of its connection
pub marks_same : (c : ℕ) (tape : List Mark) (move : Move) → marks_of c (tape ++ marks_by c move) ≡ marks_of c tape ++ marks_by c move
marks_same c tape move = marks_append c tape (marks_by c move) ∙ ap (λ r. marks_of c tape ++ r) (own_marks c (marks_by c move) (all_of c move))

-- and none to those of others
pub marks_other : (c x : ℕ) (tape : List Mark) (move : Move) → (x ≡ c → ⊥) → marks_of x (tape ++ marks_by c move) ≡ marks_of x tape
marks_other c x tape move n =
    marks_append x tape (marks_by c move) ∙ ap (λ r. marks_of x tape ++ r) (other_marks c x (marks_by c move) n (all_of c move)) ∙ append-nil (marks_of x tape)

pub endpoint_same : (endpoints : ℕ → Endpoint) (c : ℕ) (endpoint : Endpoint) → with_endpoint endpoints c endpoint c ≡ endpoint
endpoint_same endpoints c endpoint = ap (λ b. if b then endpoint else endpoints c) (eq-eqb c c refl)

pub endpoint_other : (endpoints : ℕ → Endpoint) (c : ℕ) (endpoint : Endpoint) (x : ℕ) → (x ≡ c → ⊥) → with_endpoint endpoints c endpoint x ≡ endpoints x
endpoint_other endpoints c endpoint x n = ap (λ b. if b then endpoint else endpoints x) (ne_eqb x c n)

module _ {C A : Type 0} where
  entries_push : (x : ℕ) (journal : List (JournalEntry C A)) (e : JournalEntry C A) → entries_of x (journal ++ e ∷ []) ≡ entries_of x journal ++ cond (e.key.c == x) (e ∷ []) []
  entries_push x journal e = filter-append (λ y. y.key.c == x) journal (e ∷ [])

  pub entries_same : (x : ℕ) (journal : List (JournalEntry C A)) (e : JournalEntry C A) → e.key.c ≡ x → entries_of x (journal ++ e ∷ []) ≡ entries_of x journal ++ e ∷ []
  entries_same x journal e same = entries_push x journal e ∙ ap (λ b. entries_of x journal ++ cond b (e ∷ []) []) (eq-eqb e.key.c x same)

  pub entries_other : (x : ℕ) (journal : List (JournalEntry C A)) (e : JournalEntry C A) → (e.key.c ≡ x → ⊥) → entries_of x (journal ++ e ∷ []) ≡ entries_of x journal
  entries_other x journal e n =
      entries_push x journal e ∙ ap (λ b. entries_of x journal ++ cond b (e ∷ []) []) (ne_eqb e.key.c x n) ∙ append-nil (entries_of x journal)

  behind_first : (P : JournalEntry C A → Type 0) (b : Bool) (e : JournalEntry C A) (es : List (JournalEntry C A)) → AllByRecursion P (cond b (e ∷ es) es) → AllByRecursion P es
  behind_first P true e es a = a.1
  behind_first P false e es a = a

  -- what holds of a connection's entries holds of each that the journal has
  pub of_entry : (P : JournalEntry C A → Type 0) (journal : List (JournalEntry C A)) (y : ℕ) (f : JournalEntry C A) → slice_get journal y ≡ Some f
      → AllByRecursion P (entries_of f.key.c journal) → P f
  of_entry P [] y f at a = absurd (none-some f at)
  of_entry P (e ∷ es) zero f at a =
      let same : e ≡ f = same_Some e f at in
      subst P same
      (subst (λ b. AllByRecursion P (cond b (e ∷ entries_of f.key.c es) (entries_of f.key.c es)))
      (eq-eqb e.key.c f.key.c (ap (λ r. r.key.c) same)) a).0
  of_entry P (e ∷ es) (suc y) f at a =
      of_entry P es y f at (behind_first P (e.key.c == f.key.c) e (entries_of f.key.c es) a)

  -- an element of a longer list is one of the list, or the new one
  pub get_push : (xs : List (JournalEntry C A)) (x : JournalEntry C A) (k : ℕ) (y : JournalEntry C A) → slice_get (xs ++ x ∷ []) k ≡ Some y → (slice_get xs k ≡ Some y) ⊎ (x ≡ y)
  get_push [] x zero y e = inr (same_Some x y e)
  get_push [] x (suc k) y e = absurd (none-some y e)
  get_push (z ∷ xs) x zero y e = inl e
  get_push (z ∷ xs) x (suc k) y e = get_push xs x k y e

  pub get_front : (xs : List (JournalEntry C A)) (x : JournalEntry C A) (k : ℕ) (y : JournalEntry C A) → k < length xs → slice_get (xs ++ x ∷ []) k ≡ Some y → slice_get xs k ≡ Some y
  get_front [] x k y l e = absurd (let f : ⊥ = omega arith in f)
  get_front (z ∷ xs) x zero y l e = e
  get_front (z ∷ xs) x (suc k) y l e = get_front xs x k y (omega arith) e

-- a legal history goes on with a call that is answered after it
pub legal_push : {C A M : Type 0} (r : ServiceRules C A M) (memories : List M) (journal : List (JournalEntry C A)) (e : JournalEntry C A) → Legal r memories journal
    → IsAnswered r (after r memories journal) e → Legal r memories (journal ++ e ∷ [])
legal_push r memories [] e l a = (a, tt)
legal_push r memories (x ∷ journal) e l a = (l.0, legal_push r (after_call r memories x.call) journal e l.1 a)
