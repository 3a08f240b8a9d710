use Rattle.std.proofs.Common.{◌≡◌, ◌∙◌, ◌+◌, ◌≤◌, ◌<◌, ◌∷◌, ◌++◌, List, map, append-nil, suc, drop, take, length, get_or, sym, ap, subst, arith, drop-cons}
use Rattle.idl_token.specs.Limits.{longest_idl_text}
use Rattle.idl_token.specs.declared.Token.{Token}
use Rattle.idl_token.specs.declared.TokenKind.TheVariants.{Keyword}
use Rattle.idl_token.specs.Tokens.{StandBetween}
use Rattle.idl_parser.specs.ReaderCalls.{start, place_behind, lexeme_of}
use Rattle.idl_parser.specs.Symbols.{lexemes}
use Rattle.std.proofs.lemmas.List.{drop_all}
use Rattle.idl_parser.proofs.Places.{earlier, bounded, made_on}
use Rattle.idl_parser.proofs.symbol.symbols.Goals as goal

abbrev no_token : Token
no_token = record { kind = Keyword; from = 0; to = 0 }

next_is : (tokens : List Token) (i : _) → i < length tokens → drop i tokens ≡ get_or tokens i no_token ∷ drop (i + 1) tokens
next_is tokens i h = let e : suc i ≡ i + 1 = omega arith in drop-cons tokens i no_token h ∙ ap (λ k. get_or tokens i no_token ∷ drop k tokens) e

pub placed-symbol-requires-clause-short : goal.placed-symbol-requires-clause-short
placed-symbol-requires-clause-short c =
    let order = subst (StandBetween c.tokens.at (length c.args.text.now)) (next_is c.args.tokens.now c.tokens.token-index c.tokens-test.true) c.tokens.invariant.order in
    let h = bounded c.tokens.at (length c.args.text.now) (get_or c.args.tokens.now c.tokens.token-index no_token) (drop (c.tokens.token-index + 1) c.args.tokens.now) order in
    let s : length c.args.text.now ≤ longest_idl_text = c.requires.short in
    omega arith

pub tokens-preserved : goal.tokens-preserved
tokens-preserved c =
    let t : Token = get_or c.args.tokens.now c.tokens.token-index no_token in
    let rest : List Token = drop (c.tokens.token-index + 1) c.args.tokens.now in
    let split : drop c.tokens.token-index c.args.tokens.now ≡ t ∷ rest = next_is c.args.tokens.now c.tokens.token-index c.tokens-test.true in
    let order : StandBetween c.tokens.at (length c.args.text.now) (t ∷ rest) = subst (StandBetween c.tokens.at (length c.args.text.now)) split c.tokens.invariant.order in
    let from : c.placed-symbol.result.from ≡ t.from = c.placed-symbol.ensures.from in
    let less : t.from < t.to = order.1 in
    let line : c.placed-symbol.result.place.line ≤ 1 + t.from = c.placed-symbol.ensures.line in
    let column : c.placed-symbol.result.place.column ≤ 1 + t.from = c.placed-symbol.ensures.column in
    record {
      order = earlier c.placed-symbol.result.from t.to (length c.args.text.now) rest (omega arith) order.2;
      line = omega arith;
      column = omega arith;
      place = c.placed-symbol.ensures.place ∙ ap (λ n. place_behind start (take n c.args.text.now)) (sym from);
      made = made_on c.args.text.now c.tokens.all.items c.push.new.self.items c.placed-symbol.result t (drop c.tokens.token-index c.args.tokens.now) rest c.args.tokens.now
          c.tokens.invariant.made split c.in_ok-push.ensures.items c.placed-symbol.ensures.is;
    }

pub placed-symbol-requires-clause-before : goal.placed-symbol-requires-clause-before
placed-symbol-requires-clause-before c =
    let order = subst (StandBetween c.tokens.at (length c.args.text.now)) (next_is c.args.tokens.now c.tokens.token-index c.tokens-test.true) c.tokens.invariant.order in
    order.0

pub placed-symbol-requires-clause-line : goal.placed-symbol-requires-clause-line
placed-symbol-requires-clause-line c = c.tokens.invariant.line

pub placed-symbol-requires-clause-column : goal.placed-symbol-requires-clause-column
placed-symbol-requires-clause-column c = c.tokens.invariant.column

pub placed-symbol-requires-clause-place : goal.placed-symbol-requires-clause-place
placed-symbol-requires-clause-place c = c.tokens.invariant.place

pub returns : goal.returns
returns c =
    sym (append-nil (map (lexeme_of c.args.text.now) c.tokens.all.items))
    ∙ ap (λ ts. map (lexeme_of c.args.text.now) c.tokens.all.items ++ lexemes c.args.text.now ts) (sym (drop_all c.tokens.token-index c.args.tokens.now c.tokens-test.false))
    ∙ c.tokens.invariant.made
