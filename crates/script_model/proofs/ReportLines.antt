-- The lines of a report are told: those of its marks, those of its entries, and what stands behind them.
use Rattle.std.proofs.Common.{◌≡◌, ◌≢◌, ℕ, zero, suc, ◌<◌, ◌⊎◌, inl, inr, ◌+◌, ◌/◌, ◌%◌, ◌==◌, nat_lt, ◌&&◌, not, Bool, true, false, cond, if◌then◌else◌, List, [], ◌∷◌, ◌++◌, length, map, codes, get_or, refl, sym, ap, ◌∙◌, subst, arith, append_assoc}
use Rattle.std.specs.Fmt.{digits, digits_onto, digit_glyph}
use Rattle.std.specs.List.{AllByRecursion, list_all}
use Rattle.std.proofs.lemmas.Bool.{eqb-false, true≢false}
use Rattle.std.proofs.lemmas.List.{length-map}
use Rattle.streams.specs.declared.marks.Mark.{Mark}
use Rattle.streams.specs.declared.marks.Mark.TheVariants.{Opened, Read, Ended, Wrote, ReadFailed, WriteFailed, Closed}
use Rattle.text_out.specs.Decimal.{natural_of}
use Rattle.text_out.specs.Line.{line_of}
use Rattle.host_model.specs.declared.cause.EndCause.{EndCause}
use Rattle.host_model.specs.Journal.{JournalEntry}
use Rattle.host_model.specs.Conversation.{IsPrefix}
use Rattle.host_model.specs.Report.{numbered, mark_text, tape_lines, journal_lines, end_lines, report}
use Rattle.host_model.proofs.Lists.{nil-cons, cons_parts, all-append}
use Rattle.script_model.specs.Rehearsal.{IsCallLine, HaveCallLines}
use Rattle.script_model.proofs.Marked.{kind_of}

-- a text without this byte
abbrev pub IsWithout : ℕ → List ℕ → Type 0
IsWithout sign text = AllByRecursion (λ b. b ≢ sign) text

-- a text of one line
abbrev pub IsOneLine : List ℕ → Type 0
IsOneLine text = IsWithout 10 text

glyph_at : (sign d : ℕ) (small : Bool) → sign < 48 → cond small (48 + d) (87 + d) ≢ sign
glyph_at sign d true low e = omega (arith, low, e)
glyph_at sign d false low e = omega (arith, low, e)

one_of : (sign : ℕ) (b : Bool) (xs ys : List ℕ) → IsWithout sign xs → IsWithout sign ys → IsWithout sign (cond b xs ys)
one_of sign true xs ys x y = x
one_of sign false xs ys x y = y

digits_without : (sign : ℕ) → sign < 48 → (k n : ℕ) (acc : List ℕ) → IsWithout sign acc → IsWithout sign (digits_onto k 10 false n acc)
digits_without sign low zero n acc a = a
digits_without sign low (suc k) n acc a =
    let here : IsWithout sign (digit_glyph false (n % 10) ∷ acc) = (glyph_at sign (n % 10) (nat_lt (n % 10) 10) low, a) in
    one_of sign (n / 10 == 0) _ _ here (digits_without sign low k (n / 10) (digit_glyph false (n % 10) ∷ acc) here)

-- a decimal has no byte in front of the digits, as a blank or a newline, however large its number
pub natural_without : (sign n : ℕ) → sign < 48 → IsWithout sign (natural_of n)
unfolding digits
natural_without sign n low = digits_without sign low 64 n [] tt

pub natural_one_line : (n : ℕ) → IsOneLine (natural_of n)
natural_one_line n = natural_without 10 n (omega arith)

-- a word without a newline, and a number
pub numbered_one_line : (word : List ℕ) (n : ℕ) → IsOneLine word → IsOneLine (numbered word n)
numbered_one_line word n a = all-append (λ b. b ≢ 10) word (32 ∷ natural_of n) a ((λ e. omega (arith, e)), natural_one_line n)

-- a text that passes the test is without this byte
abbrev pub has_not : ℕ → List ℕ → Bool
has_not sign word = list_all (λ b. not (b == sign)) word

next : (sign b : ℕ) (word : List ℕ) → (has_not sign word ≡ true → IsWithout sign word) → (test : Bool) → (b == sign) ≡ test
    → (not test && has_not sign word) ≡ true → IsWithout sign (b ∷ word)
next sign b word rest true is e = absurd (true≢false (sym e))
next sign b word rest false is e = ((λ same. eqb-false b sign is same), rest e)

pub plain_without : (sign : ℕ) (word : List ℕ) → has_not sign word ≡ true → IsWithout sign word
plain_without sign [] e = tt
plain_without sign (b ∷ word) e = next sign b word (plain_without sign word) (b == sign) refl e

pub plain_text : (word : List ℕ) → has_not 10 word ≡ true → IsOneLine word
plain_text word e = plain_without 10 word e

mark_one_line : (m : Mark) → IsOneLine (mark_text m)
mark_one_line (Opened c) = numbered_one_line (codes "tape open") c (plain_text (codes "tape open") refl)
mark_one_line (Read c bytes) = numbered_one_line (numbered (codes "tape read") c) (length bytes) (numbered_one_line (codes "tape read") c (plain_text (codes "tape read") refl))
mark_one_line (Ended c) = numbered_one_line (codes "tape end") c (plain_text (codes "tape end") refl)
mark_one_line (Wrote c bytes) = numbered_one_line (numbered (codes "tape wrote") c) (length bytes) (numbered_one_line (codes "tape wrote") c (plain_text (codes "tape wrote") refl))
mark_one_line (ReadFailed c) = numbered_one_line (codes "tape readfail") c (plain_text (codes "tape readfail") refl)
mark_one_line (WriteFailed c) = numbered_one_line (codes "tape writefail") c (plain_text (codes "tape writefail") refl)
mark_one_line (Closed c) = numbered_one_line (codes "tape close") c (plain_text (codes "tape close") refl)

-- where one text ends before a byte that it hasn't, the other does
pub cut_at : (sign : ℕ) (xs ys ts bs : List ℕ) → IsWithout sign xs → IsWithout sign ys → xs ++ sign ∷ ts ≡ ys ++ sign ∷ bs → (xs ≡ ys) × (ts ≡ bs)
cut_at sign [] [] ts bs a b e = (refl, (cons_parts sign sign ts bs e).1)
cut_at sign [] (y ∷ ys) ts bs a b e = absurd (b.0 (sym (cons_parts sign y ts (ys ++ sign ∷ bs) e).0))
cut_at sign (x ∷ xs) [] ts bs a b e = absurd (a.0 (cons_parts x sign (xs ++ sign ∷ ts) bs e).0)
cut_at sign (x ∷ xs) (y ∷ ys) ts bs a b e =
    let p = cons_parts x y (xs ++ sign ∷ ts) (ys ++ sign ∷ bs) e in
    let q = cut_at sign xs ys ts bs a.1 b.1 p.1 in
    ((λ i. p.0 i ∷ q.0 i), q.1)

-- the kind of a mark by its line
abbrev kind_read : List ℕ → ℕ
kind_read text =
    if get_or text 5 0 == 111 then 0 else (if get_or text 5 0 == 101 then 2 else (if get_or text 5 0 == 99 then 6
    else (if get_or text 5 0 == 114 then (if get_or text 9 0 == 32 then 1 else 4) else (if get_or text 7 0 == 111 then 3 else 5))))

kind_told : (m : Mark) → kind_read (mark_text m) ≡ kind_of m
kind_told (Opened c) = refl
kind_told (Read c bytes) = refl
kind_told (Ended c) = refl
kind_told (Wrote c bytes) = refl
kind_told (ReadFailed c) = refl
kind_told (WriteFailed c) = refl
kind_told (Closed c) = refl

-- each mark's line begins with `t`
mark_begins : (m : Mark) (more : List ℕ) → get_or (mark_text m ++ more) 0 0 ≡ 116
mark_begins (Opened c) more = refl
mark_begins (Read c bytes) more = refl
mark_begins (Ended c) more = refl
mark_begins (Wrote c bytes) more = refl
mark_begins (ReadFailed c) more = refl
mark_begins (WriteFailed c) more = refl
mark_begins (Closed c) more = refl

pub line_behind : (text lines rest : List ℕ) → (line_of text ++ lines) ++ rest ≡ text ++ 10 ∷ (lines ++ rest)
line_behind text lines rest = append_assoc (line_of text) lines rest ∙ append_assoc text (10 ∷ []) (lines ++ rest)

-- where the marks' lines end, if what follows them begins with no `t`
pub same_tape_lines : (tape tape' : List Mark) (rest rest' : List ℕ) → get_or rest 0 0 ≢ 116 → get_or rest' 0 0 ≢ 116
    → tape_lines tape ++ rest ≡ tape_lines tape' ++ rest' → (map mark_text tape ≡ map mark_text tape') × (rest ≡ rest')
same_tape_lines [] [] rest rest' n n' e = (refl, e)
same_tape_lines [] (m ∷ tape') rest rest' n n' e =
    absurd (n (ap (λ t. get_or t 0 0) (e ∙ line_behind (mark_text m) (tape_lines tape') rest') ∙ mark_begins m (10 ∷ (tape_lines tape' ++ rest'))))
same_tape_lines (m ∷ tape) [] rest rest' n n' e =
    absurd (n' (ap (λ t. get_or t 0 0) (sym e ∙ line_behind (mark_text m) (tape_lines tape) rest) ∙ mark_begins m (10 ∷ (tape_lines tape ++ rest))))
same_tape_lines (m ∷ tape) (m' ∷ tape') rest rest' n n' e =
    let p = cut_at 10 (mark_text m) (mark_text m') (tape_lines tape ++ rest) (tape_lines tape' ++ rest') (mark_one_line m) (mark_one_line m')
    (sym (line_behind (mark_text m) (tape_lines tape) rest) ∙ e ∙ line_behind (mark_text m') (tape_lines tape') rest') in
    let q = same_tape_lines tape tape' rest rest' n n' p.1 in
    ((λ i. p.0 i ∷ q.0 i), q.1)

-- marks of the same lines are of the same kinds
pub same_kind : (m m' : Mark) → mark_text m ≡ mark_text m' → kind_of m ≡ kind_of m'
same_kind m m' e = sym (kind_told m) ∙ ap kind_read e ∙ kind_told m'

same_kinds : (tape tape' : List Mark) → map mark_text tape ≡ map mark_text tape' → map kind_of tape ≡ map kind_of tape'
same_kinds [] [] e = refl
same_kinds [] (m ∷ tape') e = absurd (nil-cons (mark_text m) (map mark_text tape') e)
same_kinds (m ∷ tape) [] e = absurd (nil-cons (mark_text m) (map mark_text tape) (sym e))
same_kinds (m ∷ tape) (m' ∷ tape') e =
    let p = cons_parts (mark_text m) (mark_text m') (map mark_text tape) (map mark_text tape') e in
    let kind : kind_of m ≡ kind_of m' = same_kind m m' p.0 in
    let rest : map kind_of tape ≡ map kind_of tape' = same_kinds tape tape' p.1 in
    (λ i. kind i ∷ rest i)

-- a text that begins with one of two words has the byte of one of them at a place
begins_so : (at a b : ℕ) (one other text more : List ℕ) → ((t : List ℕ) → get_or ((one ++ t) ++ more) at 0 ≡ a) → ((t : List ℕ) → get_or ((other ++ t) ++ more) at 0 ≡ b)
    → IsPrefix one text ⊎ IsPrefix other text → (get_or (text ++ more) at 0 ≡ a) ⊎ (get_or (text ++ more) at 0 ≡ b)
begins_so at a b one other text more x y (inl p) = inl (ap (λ t. get_or (t ++ more) at 0) p.1 ∙ x p.0)
begins_so at a b one other text more x y (inr p) = inr (ap (λ t. get_or (t ++ more) at 0) p.1 ∙ y p.0)

neither : (a b c n : ℕ) → (n ≡ a) ⊎ (n ≡ b) → (a ≡ c → ⊥) → (b ≡ c → ⊥) → n ≢ c
neither a b c n (inl e) x y is = x (sym e ∙ is)
neither a b c n (inr e) x y is = y (sym e ∙ is)

-- no entry's line has an `o` in the second place, or an `s` in the fifth
call_second : (text more : List ℕ) → IsCallLine text → get_or (text ++ more) 1 0 ≢ 111
call_second text more c =
    neither 97 110 111 (get_or (text ++ more) 1 0)
    (begins_so 1 97 110 (codes "call ") (codes "oneway ") text more (λ t. refl) (λ t. refl) c.named)
    (λ e. omega (arith, e)) (λ e. omega (arith, e))

call_fifth : (text more : List ℕ) → IsCallLine text → get_or (text ++ more) 4 0 ≢ 115
call_fifth text more c =
    neither 32 97 115 (get_or (text ++ more) 4 0)
    (begins_so 4 32 97 (codes "call ") (codes "oneway ") text more (λ t. refl) (λ t. refl) c.named)
    (λ e. omega (arith, e)) (λ e. omega (arith, e))

-- what follows the entries' lines has such a byte: of `conn`, or of `calls`
abbrev pub IsBehindCalls : List ℕ → Type 0
IsBehindCalls text = (get_or text 1 0 ≡ 111) ⊎ (get_or text 4 0 ≡ 115)

no_call_behind : (text more : List ℕ) → IsCallLine text → IsBehindCalls (text ++ more) → ⊥
no_call_behind text more c (inl e) = call_second text more c e
no_call_behind text more c (inr e) = call_fifth text more c e

-- where the entries' lines end
pub same_call_lines : {C A : Type 0} (line : JournalEntry C A → List ℕ) (js ks : List (JournalEntry C A)) (rest rest' : List ℕ)
    → HaveCallLines line js → HaveCallLines line ks → IsBehindCalls rest → IsBehindCalls rest'
    → journal_lines line js ++ rest ≡ journal_lines line ks ++ rest' → (map line js ≡ map line ks) × (rest ≡ rest')
same_call_lines line [] [] rest rest' a b o o' e = (refl, e)
same_call_lines line [] (k ∷ ks) rest rest' a b o o' e =
    absurd (no_call_behind (line k) (10 ∷ (journal_lines line ks ++ rest')) b.0
    (subst IsBehindCalls (e ∙ line_behind (line k) (journal_lines line ks) rest') o))
same_call_lines line (j ∷ js) [] rest rest' a b o o' e =
    absurd (no_call_behind (line j) (10 ∷ (journal_lines line js ++ rest)) a.0
    (subst IsBehindCalls (sym e ∙ line_behind (line j) (journal_lines line js) rest) o'))
same_call_lines line (j ∷ js) (k ∷ ks) rest rest' a b o o' e =
    let p = cut_at 10 (line j) (line k) (journal_lines line js ++ rest) (journal_lines line ks ++ rest') a.0.one b.0.one
    (sym (line_behind (line j) (journal_lines line js) rest) ∙ e ∙ line_behind (line k) (journal_lines line ks) rest') in
    let q = same_call_lines line js ks rest rest' a.1 b.1 o o' p.1 in
    ((λ i. p.0 i ∷ q.0 i), q.1)

-- a report in two parts: the lines of the tape, and behind them those of the journal, of the connections, and of the number of calls
abbrev pub end_and_count : {C A : Type 0} → List Mark → List (JournalEntry C A) → List EndCause → List ℕ
end_and_count tape journal causes = end_lines tape 0 causes ++ line_of (numbered (codes "calls") (length journal))

in_parts : {C A : Type 0} (line : JournalEntry C A → List ℕ) (tape : List Mark) (journal : List (JournalEntry C A)) (causes : List EndCause)
    → report line tape journal causes ≡ tape_lines tape ++ (journal_lines line journal ++ end_and_count tape journal causes)
in_parts line tape journal causes =
    append_assoc (tape_lines tape ++ journal_lines line journal) (end_lines tape 0 causes) (line_of (numbered (codes "calls") (length journal)))
    ∙ append_assoc (tape_lines tape) (journal_lines line journal) (end_and_count tape journal causes)

-- behind the tape no line begins with `t`
call_first : (text more : List ℕ) → IsCallLine text → get_or (text ++ more) 0 0 ≢ 116
call_first text more c =
    neither 99 111 116 (get_or (text ++ more) 0 0)
    (begins_so 0 99 111 (codes "call ") (codes "oneway ") text more (λ t. refl) (λ t. refl) c.named)
    (λ e. omega (arith, e)) (λ e. omega (arith, e))

end_at_first : {C A : Type 0} (tape : List Mark) (journal : List (JournalEntry C A)) (causes : List EndCause) → get_or (end_and_count tape journal causes) 0 0 ≡ 99
end_at_first tape journal [] = refl
end_at_first tape journal (cause ∷ causes) = refl

no_mark_first : {C A : Type 0} (line : JournalEntry C A → List ℕ) (tape : List Mark) (journal js : List (JournalEntry C A)) (causes : List EndCause)
    → HaveCallLines line js → get_or (journal_lines line js ++ end_and_count tape journal causes) 0 0 ≢ 116
no_mark_first line tape journal [] causes lines is =
    let first : get_or (end_and_count tape journal causes) 0 0 ≡ 99 = end_at_first tape journal causes in
    let f : ⊥ = omega (arith, first, is) in f
no_mark_first line tape journal (j ∷ js) causes lines is =
    call_first (line j) (10 ∷ (journal_lines line js ++ end_and_count tape journal causes)) lines.0
    (sym (ap (λ t. get_or t 0 0) (line_behind (line j) (journal_lines line js) (end_and_count tape journal causes))) ∙ is)

end_behind_calls : {C A : Type 0} (tape : List Mark) (journal : List (JournalEntry C A)) (causes : List EndCause) → IsBehindCalls (end_and_count tape journal causes)
end_behind_calls tape journal [] = inr refl
end_behind_calls tape journal (cause ∷ causes) = inl refl

-- Two reports that are one text have the same lines of marks, the same lines of entries, and the same text behind them.
pub same_parts : {C A : Type 0} (line : JournalEntry C A → List ℕ) (tape tape' : List Mark) (journal journal' : List (JournalEntry C A)) (causes causes' : List EndCause)
    → HaveCallLines line journal → HaveCallLines line journal' → report line tape journal causes ≡ report line tape' journal' causes'
    → (map mark_text tape ≡ map mark_text tape') × (map line journal ≡ map line journal')
    × (end_and_count tape journal causes ≡ end_and_count tape' journal' causes')
same_parts line tape tape' journal journal' causes causes' lines lines' e =
    let p = same_tape_lines tape tape' (journal_lines line journal ++ end_and_count tape journal causes) (journal_lines line journal' ++ end_and_count tape' journal' causes')
    (no_mark_first line tape journal journal causes lines) (no_mark_first line tape' journal' journal' causes' lines')
    (sym (in_parts line tape journal causes) ∙ e ∙ in_parts line tape' journal' causes') in
    let q = same_call_lines line journal journal' (end_and_count tape journal causes) (end_and_count tape' journal' causes') lines lines'
    (end_behind_calls tape journal causes) (end_behind_calls tape' journal' causes') p.1 in
    (p.0, q.0, q.1)

-- So they have marks of the same kinds, and as many entries.
pub same_lines : {C A : Type 0} (line : JournalEntry C A → List ℕ) (tape tape' : List Mark) (journal journal' : List (JournalEntry C A)) (cause cause' : EndCause)
    → HaveCallLines line journal → HaveCallLines line journal'
    → report line tape journal (cause ∷ []) ≡ report line tape' journal' (cause' ∷ []) → (map kind_of tape ≡ map kind_of tape') × (length journal ≡ length journal')
same_lines line tape tape' journal journal' cause cause' lines lines' e =
    let p = same_parts line tape tape' journal journal' (cause ∷ []) (cause' ∷ []) lines lines' e in
    (same_kinds tape tape' p.0, sym (length-map journal line) ∙ ap length p.1 ∙ length-map journal' line)
