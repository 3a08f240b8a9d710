-- What a call came to, from a value in memory.
use Rattle.thrift_value.specs.TreeOf.{tree_of}
use Rattle.client_desk.specs.declared.heard.Heard.{Heard}
use Rattle.client_desk.specs.declared.heard.Heard.TheVariants.{Success, Void, Missing, Throws, Exception}
use Rattle.client_desk.specs.Hearing.{PlainHeard, success, void, missing, throws, exception}

abbrev pub plain_heard : Heard → PlainHeard
plain_heard (Success value) = success (tree_of value)
plain_heard Void = void
plain_heard Missing = missing
plain_heard (Throws id value) = throws id (tree_of value)
plain_heard (Exception code text) = exception code text
