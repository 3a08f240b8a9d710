-- A whole text is a document, or its fault is the first one.
use Rattle.std.proofs.Common.{◌≡◌, Bool, true, false, ℕ, suc, ◌+◌, ◌≤◌, ◌<◌, List, [], ◌∷◌, ◌++◌, length, refl, sym, ap, ◌∙◌, subst, inl, inr, arith}
use mathlib.Core.List.{append-nil}
use Rattle.std.proofs.lemmas.List.{append_assoc, length-append}
use Rattle.idl_parser.specs.Phrases.{Lexeme, Node}
use Rattle.idl_parser.specs.Documents.{document, DocumentIn}
use Rattle.idl_parser.specs.FirstFault.{BeginsDocument, IsFirstSyntaxFault}
use Rattle.idl_parser.specs.Reading.{ParseResult, done, failed, rest_of, whole, read}
use Rattle.idl_parser.proofs.Sound.{cut, sound}
use Rattle.idl_parser.proofs.Complete.{complete}
use Rattle.idl_parser.proofs.Local.{moved, local}
use Rattle.idl_parser.proofs.Completion.{completable}
use Rattle.idl_parser.proofs.Deeper.{GoesOn, goes_on}
use Rattle.idl_parser.proofs.Room.{room}
use Rattle.idl_parser.proofs.Clear.{clear_document, can_be_document, nothing_behind}
use Rattle.idl_parser.proofs.OneMoreLevel.{deeper_document}

-- a document is read as itself
pub read_whole : (n levels : ℕ) (ts : List Lexeme) (d : Node) → DocumentIn levels ts d → length ts ≤ n → read n (document levels) ts ≡ done d []
read_whole n levels ts d h most = complete n (document levels) ts d [] (clear_document levels) h (nothing_behind levels) most

moved_rest : (o : ParseResult) (rest : List Lexeme) → rest_of (moved o rest) ≡ rest
moved_rest (done x r) rest = refl
moved_rest (failed d r) rest = refl

-- where the reading ends before a symbol, no document goes on with it
pub stuck_at : (n levels : ℕ) (front : List Lexeme) (t : Lexeme) (r : List Lexeme) → length (front ++ t ∷ r) ≤ n
    → rest_of (read n (document levels) (front ++ t ∷ r)) ≡ t ∷ r → BeginsDocument levels (front ++ t ∷ []) → ⊥
stuck_at n levels front t r most ends (w, d, h) =
    let us : List Lexeme = front ++ t ∷ w in
    let ts : List Lexeme = front ++ t ∷ r in
    let m : ℕ = n + length us in
    let h2 : DocumentIn levels us d = subst (λ k. DocumentIn levels k d) (append_assoc front (t ∷ []) w) h in
    let all : read m (document levels) us ≡ done d [] = read_whole m levels us d h2 (omega arith) in
    let same : read n (document levels) ts ≡ read m (document levels) ts = room n m (document levels) (clear_document levels) ts most (omega arith) in
    let there : rest_of (read m (document levels) ts) ≡ t ∷ r = ap rest_of (sym same) ∙ ends in
    elim (local m (document levels) t r w front) [
      | inl short ↦ let less : suc (length r) ≤ length r = subst (λ k. length k ≤ length r) there short in omega arith
      | inr a ↦
          let e : [] ≡ a.back ++ t ∷ w = ap rest_of (sym all ∙ a.right) ∙ moved_rest (read m (document levels) ts) (a.back ++ t ∷ w) in
          let l : 0 ≡ length a.back + suc (length w) = ap length e ∙ length-append a.back (t ∷ w) in
          omega arith
    ]

-- the same at the end of the text
stuck_end : (n levels : ℕ) (front : List Lexeme) (d : Bool) (x : Node) → length front ≤ n
    → read n (document levels) front ≡ failed d [] → DocumentIn levels front x → ⊥
stuck_end n levels front d x most ends h =
    let all = read_whole n levels front x h most in
    let e : failed d [] ≡ done x [] = sym ends ∙ all in cc

-- a front that is longer than another of the same symbols begins with it and the next symbol
pub longer : (front : List Lexeme) (t : Lexeme) (r front' rest' : List Lexeme) → front ++ t ∷ r ≡ front' ++ rest' → length rest' ≤ length r
    → (c : List Lexeme) × (front' ≡ (front ++ t ∷ []) ++ c)
longer [] t r [] rest' e h = let l : suc (length r) ≡ length rest' = ap length e in absurd (let no_room : ⊥ = omega arith in no_room)
longer [] t r (s ∷ front') rest' e h = let i : s ≡ t = cc in (front', ap (λ k. k ∷ front') i)
longer (s ∷ front) t r [] rest' e h =
    let l : suc (length (front ++ t ∷ r)) ≡ length rest' = ap length e in
    let k = length-append front (t ∷ r) in absurd (let no_room : ⊥ = omega (arith, k) in no_room)
longer (s ∷ front) t r (s' ∷ front') rest' e h =
    let tails : front ++ t ∷ r ≡ front' ++ rest' = cc in
    let i : s' ≡ s = cc in
    let next = longer front t r front' rest' tails h in
    (next.0, λ j. i j ∷ next.1 j)

-- a front of which a document is made
record Begun (levels : ℕ) (ts : List Lexeme) (rest : List Lexeme) : Type 0 where
  front : List Lexeme
  is : ts ≡ front ++ rest
  more : List Lexeme
  tree : Node
  goes : DocumentIn levels (front ++ more) tree

begun_by : (n levels : ℕ) (ts : List Lexeme) (o : ParseResult) → read n (document levels) ts ≡ o → Begun levels ts (rest_of o)
begun_by n levels ts (done x rest) e =
    let c = cut (document levels) ts x rest (sound n (document levels) ts x rest e) in
    let a = c.again [] in
    record { front = c.front; is = c.is; more = []; tree = a.0; goes = a.1 }
begun_by n levels ts (failed d rest) e =
    let c = completable n (document levels) ts rest d (clear_document levels) (can_be_document levels) e in
    let a = c.goes [] in
    record { front = c.front; is = c.is; more = c.more ++ []; tree = a.0; goes = a.1 }

-- with one more level the reading goes on behind a symbol
deep_at : (n levels : ℕ) (front : List Lexeme) (t : Lexeme) (r : List Lexeme)
    → length (rest_of (read n (document levels) (front ++ t ∷ r))) ≤ length r → BeginsDocument levels (front ++ t ∷ [])
deep_at n levels front t r less =
    let o = read n (document levels) (front ++ t ∷ r) in
    let b = begun_by n levels (front ++ t ∷ r) o refl in
    let c = longer front t r b.front (rest_of o) b.is less in (
      c.0 ++ b.more,
      b.tree,
      subst (λ k. DocumentIn levels k b.tree) (append_assoc (front ++ t ∷ []) c.0 b.more)
          (subst (λ k. DocumentIn levels (k ++ b.more) b.tree) c.1 b.goes),
    )

-- at which symbol the reading ended, and whether at a level too many
record Ended (o : ParseResult) (d : Bool) (rest : List Lexeme) : Type 0 where
  there : rest_of o ≡ rest
  deep : d ≡ true → o ≡ failed true rest
  plain : (o' : ParseResult) → d ≡ false → GoesOn o o' → rest_of o' ≡ rest
  at_end : rest ≡ [] → o ≡ failed d []

ended : (o : ParseResult) (d : Bool) (rest : List Lexeme) → whole o ≡ failed d rest → Ended o d rest
ended (done x []) d rest e = cc
ended (done x (t ∷ r)) d rest e =
    let s : t ∷ r ≡ rest = cc in
    let k : false ≡ d = cc in
    record {
      there = s;
      deep = λ is. let f : false ≡ true = k ∙ is in cc;
      plain = λ o' is g. ap rest_of g ∙ s;
      at_end = λ none_left. let f : t ∷ r ≡ [] = s ∙ none_left in cc;
    }
ended (failed true r) d rest e =
    let s : r ≡ rest = cc in
    let k : true ≡ d = cc in
    record {
      there = s;
      deep = λ is. ap (failed true) s;
      plain = λ o' is g. let f : true ≡ false = k ∙ is in cc;
      at_end = λ none_left. λ i. failed (k i) ((s ∙ none_left) i);
    }
ended (failed false r) d rest e =
    let s : r ≡ rest = cc in
    let k : false ≡ d = cc in
    record {
      there = s;
      deep = λ is. let f : false ≡ true = k ∙ is in cc;
      plain = λ o' is g. ap rest_of g ∙ s;
      at_end = λ none_left. λ i. failed (k i) ((s ∙ none_left) i);
    }

fault_with : (n levels : ℕ) (ts : List Lexeme) (d : Bool) (rest front : List Lexeme) → ts ≡ front ++ rest → BeginsDocument levels front → length ts ≤ n
    → Ended (read n (document levels) ts) d rest → IsFirstSyntaxFault levels ts rest d
fault_with n levels ts true [] front is before most ended =
    let on = goes_on n (document levels) (document (suc levels)) (deeper_document levels) ts in
    let less : length (rest_of (read n (document (suc levels)) ts)) < 0 =
    subst (λ o. GoesOn o (read n (document (suc levels)) ts)) (ended.deep refl) on in
    absurd (let no_room : ⊥ = omega arith in no_room)
fault_with n levels ts false [] front is before most ended =
    let whole_front : ts ≡ front = is ∙ append-nil front in
    record {
      front = front;
      is = is;
      before = before;
      here = λ x h. stuck_end n levels ts false x most (ended.at_end refl) (subst (λ k. DocumentIn levels k x) (sym whole_front) h);
      deep = (λ e. let f : false ≡ true = e in cc, λ e. absurd e);
    }
fault_with n levels ts true (t ∷ r) front is before most ended =
    let on = goes_on n (document levels) (document (suc levels)) (deeper_document levels) ts in
    let less : length (rest_of (read n (document (suc levels)) ts)) < length (t ∷ r) =
    subst (λ o. GoesOn o (read n (document (suc levels)) ts)) (ended.deep refl) on in
    let less_there : length (rest_of (read n (document (suc levels)) (front ++ t ∷ r))) < length (t ∷ r) =
    subst (λ k. length (rest_of (read n (document (suc levels)) k)) < length (t ∷ r)) is less in
    record {
      front = front;
      is = is;
      before = before;
      here = stuck_at n levels front t r (subst (λ k. length k ≤ n) is most)
          (subst (λ k. rest_of (read n (document levels) k) ≡ t ∷ r) is ended.there);
      deep = (λ e. deep_at n (suc levels) front t r (omega arith), λ e. refl);
    }
fault_with n levels ts false (t ∷ r) front is before most ended =
    let on = goes_on n (document levels) (document (suc levels)) (deeper_document levels) ts in
    let most2 : length (front ++ t ∷ r) ≤ n = subst (λ k. length k ≤ n) is most in
    record {
      front = front;
      is = is;
      before = before;
      here = stuck_at n levels front t r most2 (subst (λ k. rest_of (read n (document levels) k) ≡ t ∷ r) is ended.there);
      deep = (
        λ e. let f : false ≡ true = e in cc,
        λ e. absurd (stuck_at n (suc levels) front t r most2
            (subst (λ k. rest_of (read n (document (suc levels)) k) ≡ t ∷ r) is (ended.plain (read n (document (suc levels)) ts) refl on)) e),
      );
    }

pub fault_is_first : (n levels : ℕ) (ts rest : List Lexeme) (d : Bool) → length ts ≤ n → whole (read n (document levels) ts) ≡ failed d rest → IsFirstSyntaxFault levels ts rest d
fault_is_first n levels ts rest d most e =
    let o = read n (document levels) ts in
    let end = ended o d rest e in
    let b = begun_by n levels ts o refl in
    fault_with n levels ts d rest b.front (b.is ∙ ap (λ k. b.front ++ k) end.there) (b.more, b.tree, b.goes) most end

pub document_is_read : (n levels : ℕ) (ts : List Lexeme) (x : Node) (rest : List Lexeme) → whole (read n (document levels) ts) ≡ done x rest → DocumentIn levels ts x
document_is_read n levels ts x rest e = go (read n (document levels) ts) refl e
  where
    go : (o : ParseResult) → read n (document levels) ts ≡ o → whole o ≡ done x rest → DocumentIn levels ts x
    go (done y []) was e = let s : y ≡ x = cc in sound n (document levels) ts x [] (was ∙ ap (λ z. done z []) s)
    go (done y (t ∷ r)) was e = cc
    go (failed d r) was e = cc

-- some symbols are one document at most
pub one_document : (levels : ℕ) (ts : List Lexeme) (d e : Node) → DocumentIn levels ts d → DocumentIn levels ts e → d ≡ e
one_document levels ts d e a b =
    let both : done d [] ≡ done e [] =
    sym (read_whole (length ts) levels ts d a (omega arith)) ∙ read_whole (length ts) levels ts e b (omega arith) in cc

-- a document with one more level is the same
pub more_levels : (levels : ℕ) (ts : List Lexeme) (d : Node) → DocumentIn levels ts d → DocumentIn (suc levels) ts d
more_levels levels ts d h =
    let n = length ts in
    let on = goes_on n (document levels) (document (suc levels)) (deeper_document levels) ts in
    sound n (document (suc levels)) ts d []
    (subst (λ o. GoesOn o (read n (document (suc levels)) ts)) (read_whole n levels ts d h (omega arith)) on)

-- a document has no first fault
pub no_fault : (levels : ℕ) (ts rest : List Lexeme) (d : Node) (deep : Bool) → DocumentIn levels ts d → IsFirstSyntaxFault levels ts rest deep → ⊥
no_fault levels ts [] d deep h f = f.here d (subst (λ k. DocumentIn levels k d) (f.is ∙ append-nil f.front) h)
no_fault levels ts (t ∷ rest) d deep h f =
    f.here (rest, d, subst (λ k. DocumentIn levels k d) (f.is ∙ sym (append_assoc f.front (t ∷ []) rest)) h)
