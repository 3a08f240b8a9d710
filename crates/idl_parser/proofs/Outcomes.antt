-- What the parts of an outcome tell of the reading of the parts of a phrase.
use Rattle.std.proofs.Common.{◌≡◌, Bool, true, false, List, ◌⊎◌, refl, sym, ap, ◌∙◌, inl, inr}
use Rattle.idl_parser.specs.Phrases.{Lexeme, Node}
use Rattle.idl_parser.specs.Reading.{ParseResult, done, failed, rest_of, map_tree, parse_then, choose}

pub cases : (b : Bool) → (b ≡ true) ⊎ (b ≡ false)
cases true = inl refl
cases false = inr refl

pub never : {P : Type 0} (b : Bool) → b ≡ true → b ≡ false → P
never b yes_is no_is = let e : true ≡ false = sym yes_is ∙ no_is in cc

pub record MadeDone (f : Node → Node) (o : ParseResult) (x : Node) (rest : List Lexeme) : Type 0 where
  pub tree : Node
  pub was : o ≡ done tree rest
  pub is : x ≡ f tree

pub made_done : (f : Node → Node) (o : ParseResult) (x : Node) (rest : List Lexeme) → map_tree f o ≡ done x rest → MadeDone f o x rest
made_done f (done a r) x rest e = record { tree = a; was = (let s : r ≡ rest = cc in ap (done a) s); is = cc }
made_done f (failed d r) x rest e = cc

pub made_failed : (f : Node → Node) (o : ParseResult) (d : Bool) (rest : List Lexeme) → map_tree f o ≡ failed d rest → o ≡ failed d rest
made_failed f (done a r) d rest e = cc
made_failed f (failed d' r) d rest e = e

pub record BothDone (join : Node → Node → Node) (o : ParseResult) (go : List Lexeme → ParseResult) (x : Node) (rest : List Lexeme) : Type 0 where
  pub mid : List Lexeme
  pub a : Node
  pub b : Node
  pub left : o ≡ done a mid
  pub right : go mid ≡ done b rest
  pub is : x ≡ join a b

pub both_done : (join : Node → Node → Node) (o : ParseResult) (go : List Lexeme → ParseResult) (x : Node) (rest : List Lexeme) → parse_then join o go ≡ done x rest → BothDone join o go x rest
both_done join (done a mid) go x rest e =
    let m = made_done (join a) (go mid) x rest e in
    record { mid = mid; a = a; b = m.tree; left = refl; right = m.was; is = m.is }
both_done join (failed d r) go x rest e = cc

pub record SecondFailed (o : ParseResult) (go : List Lexeme → ParseResult) (d : Bool) (rest : List Lexeme) : Type 0 where
  pub mid : List Lexeme
  pub a : Node
  pub left : o ≡ done a mid
  pub right : go mid ≡ failed d rest

pub one_failed : (join : Node → Node → Node) (o : ParseResult) (go : List Lexeme → ParseResult) (d : Bool) (rest : List Lexeme) → parse_then join o go ≡ failed d rest → (o ≡ failed d rest) ⊎ SecondFailed o go d rest
one_failed join (done a mid) go d rest e = inr (record { mid = mid; a = a; left = refl; right = made_failed (join a) (go mid) d rest e })
one_failed join (failed d' r) go d rest e = inl e

pub made_rest : (f : Node → Node) (o : ParseResult) → rest_of (map_tree f o) ≡ rest_of o
made_rest f (done a r) = refl
made_rest f (failed d r) = refl

pub which : (b : Bool) (x y o : ParseResult) → choose b x y ≡ o → ((b ≡ true) × (x ≡ o)) ⊎ ((b ≡ false) × (y ≡ o))
which true x y o e = inl (refl, e)
which false x y o e = inr (refl, e)

pub chosen : (b : Bool) (x y : ParseResult) → b ≡ true → choose b x y ≡ x
chosen b x y is = ap (λ c. choose c x y) is

pub passed : (b : Bool) (x y : ParseResult) → b ≡ false → choose b x y ≡ y
passed b x y is = ap (λ c. choose c x y) is
