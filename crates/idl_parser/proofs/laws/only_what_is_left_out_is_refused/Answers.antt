use Rattle.std.proofs.Common.{◌≡◌, ◌↔◌}
use Rattle.std.proofs.lemmas.List.Elements.{All-weaker}
use Rattle.idl_token.specs.Tokens.{token_bytes, IsOfItsKind}
use Rattle.idl_token.specs.declared.TokenKind.TheVariants as kind
use Rattle.idl_token.specs.declared.terminal.Terminal.TheVariants as word
use Rattle.idl_parser.specs.Symbols.{terminal_of}
use Rattle.idl_parser.proofs.KindSymbols.{refused_alone}
use Rattle.idl_parser.proofs.laws.only_what_is_left_out_is_refused.Goals as goal

pub returns : goal.returns
returns c = record {
  token = refused_alone;
  each = λ text tokens are.
      All-weaker (IsOfItsKind text) (λ t. (terminal_of t.kind (token_bytes text t) ≡ word.Refused) ↔ (t.kind ≡ kind.Refused))
      (λ t is. refused_alone t.kind (token_bytes text t) is) tokens (c.each_token_is_of_its_kind.ensures text tokens are);
}
