-- The first fault is one.
use Rattle.std.proofs.Common.{◌≡◌, ◌↔◌, Bool, true, false, ℕ, suc, ◌<◌, ◌⊎◌, List, [], ◌∷◌, ◌++◌, length, refl, sym, ap, ◌∙◌, subst, inl, inr, arith}
use Rattle.std.proofs.lemmas.List.{append_assoc, length-append}
use Rattle.idl_token.specs.Places.{line_and_column}
use Rattle.idl_token.specs.declared.Token.{Token}
use Rattle.idl_parser.specs.declared.ParseFault.{ParseFault}
use Rattle.idl_parser.specs.Phrases.{Lexeme}
use Rattle.idl_parser.specs.Documents.{deepest, document, DocumentIn}
use Rattle.idl_parser.specs.FirstFault.{BeginsDocument, IsDeep, IsFirstSyntaxFault, AreDocument, HasFirstSyntaxFault}
use Rattle.idl_parser.specs.Reading.{ParseResult, done, failed, whole, read}
use Rattle.idl_parser.specs.Symbols.{lexemes}
use Rattle.idl_parser.specs.Faults.{next_place, fault_kind, IsFaultOf}
use Rattle.idl_parser.proofs.Faults.{longer, document_is_read, fault_is_first}

-- what goes on behind some symbols goes on behind the first of them
shorter : (levels : ℕ) (front more : List Lexeme) → BeginsDocument levels (front ++ more) → BeginsDocument levels front
shorter levels front more (w, d, h) = (more ++ w, d, subst (λ k. DocumentIn levels k d) (append_assoc front more w) h)

-- the rest behind one first fault isn't shorter than that behind another
not_shorter : (levels : ℕ) (ts rest left : List Lexeme) (deep further : Bool)
    → IsFirstSyntaxFault levels ts rest deep → IsFirstSyntaxFault levels ts left further → length left < length rest → ⊥
not_shorter levels ts [] left deep further a b less = let no_room : ⊥ = omega arith in no_room
not_shorter levels ts (t ∷ rest) left deep further a b less =
    let on = longer a.front t rest b.front left (sym a.is ∙ b.is) (omega arith) in
    a.here (shorter levels (a.front ++ t ∷ []) on.0 (subst (BeginsDocument levels) on.1 b.before))

-- equal lists cut where as much is left
record SameCut (front rest front' rest' : List Lexeme) : Type 0 where
  fronts : front ≡ front'
  rests : rest ≡ rest'

same_cut : (front rest front' rest' : List Lexeme) → front ++ rest ≡ front' ++ rest' → length rest ≡ length rest' → SameCut front rest front' rest'
same_cut [] rest [] rest' e l = record { fronts = refl; rests = e }
same_cut [] rest (s ∷ front') rest' e l =
    let k : length rest ≡ suc (length (front' ++ rest')) = ap length e in
    let m = length-append front' rest' in absurd (let no_room : ⊥ = omega (arith, k, l, m) in no_room)
same_cut (s ∷ front) rest [] rest' e l =
    let k : suc (length (front ++ rest)) ≡ length rest' = ap length e in
    let m = length-append front rest in absurd (let no_room : ⊥ = omega (arith, k, l, m) in no_room)
same_cut (s ∷ front) rest (s' ∷ front') rest' e l =
    let tails : front ++ rest ≡ front' ++ rest' = cc in
    let i : s ≡ s' = cc in
    let next = same_cut front rest front' rest' tails l in
    record { fronts = λ j. i j ∷ next.fronts j; rests = next.rests }

same_flag : {P : Type 0} (a b : Bool) → (a ≡ true) ↔ P → (b ≡ true) ↔ P → a ≡ b
same_flag true true f g = refl
same_flag true false f g = let e : false ≡ true = g.1 (f.0 refl) in cc
same_flag false true f g = let e : false ≡ true = f.1 (g.0 refl) in cc
same_flag false false f g = refl

cut_of_both : (levels : ℕ) (ts rest left : List Lexeme) (deep further : Bool)
    → (a : IsFirstSyntaxFault levels ts rest deep) → (b : IsFirstSyntaxFault levels ts left further) → SameCut a.front rest b.front left
cut_of_both levels ts rest left deep further a b =
    let no_less : length left < length rest → ⊥ = not_shorter levels ts rest left deep further a b in
    let no_more : length rest < length left → ⊥ = not_shorter levels ts left rest further deep b a in
    same_cut a.front rest b.front left (sym a.is ∙ b.is) (omega arith)

pub one_rest : (levels : ℕ) (ts rest left : List Lexeme) (deep further : Bool)
    → IsFirstSyntaxFault levels ts rest deep → IsFirstSyntaxFault levels ts left further → rest ≡ left
one_rest levels ts rest left deep further a b = (cut_of_both levels ts rest left deep further a b).rests

pub one_depth : (levels : ℕ) (ts rest left : List Lexeme) (deep further : Bool)
    → IsFirstSyntaxFault levels ts rest deep → IsFirstSyntaxFault levels ts left further → deep ≡ further
one_depth levels ts rest left deep further a b =
    let c = cut_of_both levels ts rest left deep further a b in
    let there : (deep ≡ true) ↔ IsDeep levels b.front left = subst (λ k. (deep ≡ true) ↔ k) (λ i. IsDeep levels (c.fronts i) (c.rests i)) a.deep in
    same_flag deep further there b.deep

pub one_fault : (text : List ℕ) (tokens : List Token) (f g : ParseFault) → IsFaultOf text tokens f → IsFaultOf text tokens g → f ≡ g
one_fault text tokens f g a b =
    let rest = one_rest deepest (lexemes text tokens) a.rest b.rest a.too_deep b.too_deep a.first b.first in
    let deep = one_depth deepest (lexemes text tokens) a.rest b.rest a.too_deep b.too_deep a.first b.first in
    let kind : f.kind ≡ g.kind = a.kind ∙ (λ i. fault_kind (deep i) (rest i)) ∙ sym b.kind in
    let at : f.at ≡ g.at = a.at ∙ ap (next_place (line_and_column text (length text))) rest ∙ sym b.at in
    λ i. record { at = at i; kind = kind i }

-- what the reading with one symbol of look-ahead makes of some symbols decides which
pub either_of_both : (levels : ℕ) (ts : List Lexeme) → AreDocument levels ts ⊎ HasFirstSyntaxFault levels ts
either_of_both levels ts = go (whole (read (length ts) (document levels) ts)) refl
  where
    go : (o : ParseResult) → whole (read (length ts) (document levels) ts) ≡ o → AreDocument levels ts ⊎ HasFirstSyntaxFault levels ts
    go (done x rest) e = inl (x, document_is_read (length ts) levels ts x rest e)
    go (failed deep rest) e = inr (rest, deep, fault_is_first (length ts) levels ts rest deep (omega arith) e)
