-- The bytes of each token are a token of its kind.
use Rattle.std.proofs.Common.{◌≡◌, ℕ, ◌+◌, ◌-◌, List, [], ◌∷◌, take, drop, sym, subst, arith}
use Rattle.std.specs.List.{All, AllByRecursion}
use Rattle.std.proofs.lemmas.List.Elements.{All-from_recursion}
use Rattle.idl_token.specs.Wholes.{sound, whole_of}
use Rattle.idl_token.specs.Tokens.{tokens_in, Cuts, AreTokensOf, IsOfItsKind}
use Rattle.idl_token.specs.declared.pieces.Piece.{Piece}
use Rattle.idl_token.specs.declared.pieces.Piece.TheVariants.{Blank, Token as Tok, Fault}
use Rattle.idl_token.specs.declared.Token.{Token}
use Rattle.idl_token.proofs.CutLemmas.{drop_drop}

kinds_from : (text : List ℕ) (at : ℕ) (ps : List Piece) → Cuts (drop at text) ps [] → AllByRecursion (IsOfItsKind text) (tokens_in at ps)
kinds_from text at [] cut = tt
kinds_from text at (Blank n ∷ ps) cut = kinds_from text (at + n) ps (subst (λ rest. Cuts rest ps []) (drop_drop at n text) cut.3)
kinds_from text at (Tok kind n ∷ ps) cut =
    let size : n ≡ at + n - at = omega arith in (
      subst (λ k. whole_of (take k (drop at text)) ≡ sound kind) size cut.2.1.is,
      kinds_from text (at + n) ps (subst (λ rest. Cuts rest ps []) (drop_drop at n text) cut.3),
    )
kinds_from text at (Fault kind place ∷ ps) cut = absurd cut.1

pub kinds_by_recursion : (text : List ℕ) (ts : List Token) → AreTokensOf ts text → AllByRecursion (IsOfItsKind text) ts
kinds_by_recursion text ts are = subst (AllByRecursion (IsOfItsKind text)) (sym are.are) (kinds_from text 0 are.pieces are.cut)

pub kinds : (text : List ℕ) (ts : List Token) → AreTokensOf ts text → All (IsOfItsKind text) ts
kinds text ts are = All-from_recursion (IsOfItsKind text) ts (kinds_by_recursion text ts are)
