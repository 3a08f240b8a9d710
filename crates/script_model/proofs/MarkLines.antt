-- A mark's line tells its kind and its connection.
use Rattle.std.proofs.Common.{◌≡◌, ℕ, ◌<◌, ◌^◌, List, [], ◌∷◌, ◌++◌, length, map, codes, refl, sym, ap, ◌∙◌, arith, append_assoc}
use Rattle.std.specs.List.{AllByRecursion}
use Rattle.std.proofs.lemmas.Fmt.{decimal_injective}
use Rattle.streams.specs.declared.marks.Mark.{Mark}
use Rattle.streams.specs.declared.marks.Mark.TheVariants.{Opened, Read, Ended, Wrote, ReadFailed, WriteFailed, Closed}
use Rattle.text_out.specs.Decimal.{natural_of}
use Rattle.host_model.specs.Marks.{connection_of, read_by, written_by}
use Rattle.host_model.specs.Report.{numbered, mark_text}
use Rattle.host_model.proofs.Lists.{nil-cons, cons_parts, append_parts}
use Rattle.script_model.proofs.Marked.{kind_of, mark_from, mark_again}
use Rattle.script_model.proofs.ReportLines.{natural_without, cut_at, same_kind}

-- what stands behind a word and a blank
behind_word : (word a b : List ℕ) → word ++ 32 ∷ a ≡ word ++ 32 ∷ b → a ≡ b
behind_word word a b e = (cons_parts 32 32 a b (append_parts word word (32 ∷ a) (32 ∷ b) refl e).1).1

-- the number behind a word
one_number : (word : List ℕ) (c x : ℕ) → c < 2 ^ 64 → x < 2 ^ 64 → numbered word c ≡ numbered word x → c ≡ x
one_number word c x low other e = decimal_injective c x low other (behind_word word (natural_of c) (natural_of x) e)

-- and the first of two numbers
pub first_number : (word a b : List ℕ) (c x : ℕ) → c < 2 ^ 64 → x < 2 ^ 64 → numbered word c ++ 32 ∷ a ≡ numbered word x ++ 32 ∷ b → c ≡ x
first_number word a b c x low other e =
    let whole : word ++ 32 ∷ (natural_of c ++ 32 ∷ a) ≡ word ++ 32 ∷ (natural_of x ++ 32 ∷ b) =
    sym (append_assoc word (32 ∷ natural_of c) (32 ∷ a)) ∙ e ∙ append_assoc word (32 ∷ natural_of x) (32 ∷ b) in
    decimal_injective c x low other
    (cut_at 32 (natural_of c) (natural_of x) a b (natural_without 32 c (omega arith)) (natural_without 32 x (omega arith))
    (behind_word word (natural_of c ++ 32 ∷ a) (natural_of x ++ 32 ∷ b) whole)).0

-- a mark's line is that of a mark of this kind
of_kind : (m n : Mark) → mark_text m ≡ mark_text n → mark_text n ≡ mark_text (mark_from (kind_of m) (connection_of n) (read_by n) (written_by n))
of_kind m n e = ap mark_text (sym (mark_again n) ∙ ap (λ k. mark_from k (connection_of n) (read_by n) (written_by n)) (sym (same_kind m n e)))

pub same_connection : (m n : Mark) → connection_of m < 2 ^ 64 → connection_of n < 2 ^ 64 → mark_text m ≡ mark_text n → connection_of m ≡ connection_of n
same_connection (Opened c) n low other e = one_number (codes "tape open") c (connection_of n) low other (e ∙ of_kind (Opened c) n e)
same_connection (Read c bytes) n low other e =
    first_number (codes "tape read") (natural_of (length bytes)) (natural_of (length (read_by n))) c (connection_of n) low other (e ∙ of_kind (Read c bytes) n e)
same_connection (Ended c) n low other e = one_number (codes "tape end") c (connection_of n) low other (e ∙ of_kind (Ended c) n e)
same_connection (Wrote c bytes) n low other e =
    first_number (codes "tape wrote") (natural_of (length bytes)) (natural_of (length (written_by n))) c (connection_of n) low other (e ∙ of_kind (Wrote c bytes) n e)
same_connection (ReadFailed c) n low other e = one_number (codes "tape readfail") c (connection_of n) low other (e ∙ of_kind (ReadFailed c) n e)
same_connection (WriteFailed c) n low other e = one_number (codes "tape writefail") c (connection_of n) low other (e ∙ of_kind (WriteFailed c) n e)
same_connection (Closed c) n low other e = one_number (codes "tape close") c (connection_of n) low other (e ∙ of_kind (Closed c) n e)

-- what a mark's line tells
abbrev pub head_of : Mark → ℕ × ℕ
head_of m = (kind_of m, connection_of m)

-- marks of the same lines are of the same kinds and the same connections
pub same_heads : (tape other : List Mark) → AllByRecursion (λ m. connection_of m < 2 ^ 64) tape → AllByRecursion (λ m. connection_of m < 2 ^ 64) other
    → map mark_text tape ≡ map mark_text other → map head_of tape ≡ map head_of other
same_heads [] [] low high e = refl
same_heads [] (n ∷ other) low high e = absurd (nil-cons (mark_text n) (map mark_text other) e)
same_heads (m ∷ tape) [] low high e = absurd (nil-cons (mark_text m) (map mark_text tape) (sym e))
same_heads (m ∷ tape) (n ∷ other) low high e =
    let p = cons_parts (mark_text m) (mark_text n) (map mark_text tape) (map mark_text other) e in
    let kind : kind_of m ≡ kind_of n = same_kind m n p.0 in
    let own : connection_of m ≡ connection_of n = same_connection m n low.0 high.0 p.0 in
    let head : head_of m ≡ head_of n = (λ i. (kind i, own i)) in
    let rest : map head_of tape ≡ map head_of other = same_heads tape other low.1 high.1 p.1 in
    (λ i. head i ∷ rest i)
