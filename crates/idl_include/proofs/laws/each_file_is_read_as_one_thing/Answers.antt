use Rattle.idl_include.proofs.OneReading.{some_reader, one_reader}
use Rattle.idl_include.proofs.laws.each_file_is_read_as_one_thing.Goals as goal

pub returns-clause-some : goal.returns-clause-some
returns-clause-some c = some_reader (record {
  lexed = c.tokens_or_a_first_fault.ensures;
  tokens = c.tokens_are_determined.ensures;
  apart = c.tokens_exclude_a_fault.ensures;
  lex_fault = c.the_fault_is_determined.ensures;
  parsed = c.a_document_or_a_first_fault.ensures;
  document = c.the_document_is_determined.ensures;
  no_fault = c.a_document_has_no_fault.ensures;
  parse_fault = c.the_first_fault_is_determined.ensures.of_a_text;
})

pub returns-clause-one : goal.returns-clause-one
returns-clause-one c = one_reader (record {
  lexed = c.tokens_or_a_first_fault.ensures;
  tokens = c.tokens_are_determined.ensures;
  apart = c.tokens_exclude_a_fault.ensures;
  lex_fault = c.the_fault_is_determined.ensures;
  parsed = c.a_document_or_a_first_fault.ensures;
  document = c.the_document_is_determined.ensures;
  no_fault = c.a_document_has_no_fault.ensures;
  parse_fault = c.the_first_fault_is_determined.ensures.of_a_text;
})
