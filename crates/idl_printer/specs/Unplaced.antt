-- Trees without their places.
use Rattle.idl_parser.specs.Phrases.{Node, none, word, flag, text, number, given, pair, placed}
use Rattle.idl_parser.specs.Unplaced.{nowhere}

-- the tree with one place everywhere
abbrev pub without_places : Node → Node
without_places none = none
without_places (word k at) = word k nowhere
without_places (flag k) = flag k
without_places (text k bytes at) = text k bytes nowhere
without_places (number z at) = number z nowhere
without_places (given a) = given (without_places a)
without_places (pair a b) = pair (without_places a) (without_places b)
without_places (placed at a) = placed nowhere (without_places a)
