use Rattle.std.proofs.Common.{◌≢◌, ◌∙◌, ap, map, subst, sym, rules}
use Rattle.idl_parser.specs.declared.reader.Stop.TheVariants.{NoMemory}
use Rattle.idl_parser.specs.ReaderCalls.{lexeme_of, IntsFit}
use Rattle.idl_parser.specs.Faults.{next_place}
use Rattle.idl_parser.specs.Trees.{document_node}
use Rattle.idl_parser.proofs.Parsing.{document_of, fault_of}
use Rattle.idl_parser.proofs.Ints.{ints_fit}
use Rattle.idl_parser.proofs.parse.Goals as goal

pub new-reader-requires : goal.new-reader-requires
new-reader-requires c =
    subst IntsFit (sym (ap (map (lexeme_of c.args.text.now)) c.as_slice.ensures.value ∙ c.in_ok-all.ensures))
    (ints_fit c.an_integer_has_a_place_in_64_bits.ensures c.args.text.now c.args.tokens.now
    (c.each_token_is_of_its_kind.ensures c.args.text.now c.args.tokens.now c.requires.tokens))

pub returns-in-Ok-clause-ok : goal.returns-in-Ok-clause-ok
returns-in-Ok-clause-ok c =
    document_of c.args.text.now c.args.tokens.now c.new-reader.result c.whole_document.new.self (document_node c.in-Ok.document)
    (c.new-reader.ensures ∙ ap (map (lexeme_of c.args.text.now)) c.as_slice.ensures.value ∙ c.in_ok-all.ensures)
    c.in-Ok.ensures

pub returns : goal.returns
returns c = record {
  ok = tt;
  fault = λ named.
      let told : c.in-Err.stop ≢ NoMemory = search rules in
      fault_of c.args.text.now c.args.tokens.now _ c.new-reader.result c.whole_document.new.self c.in-Err.stop told
      (c.new-reader.ensures ∙ ap (map (lexeme_of c.args.text.now)) c.as_slice.ensures.value ∙ c.in_ok-all.ensures)
      c.requires.short (c.tokens_stand_in_order.ensures c.args.text.now c.args.tokens.now c.requires.tokens)
      c.in-Err.ensures
      (c.fault-kind.ensures.place ∙ ap (λ end. next_place end c.whole_document.new.self) c.place_at.ensures)
      c.fault-kind.ensures.kind;
}
