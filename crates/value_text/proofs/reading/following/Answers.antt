use Rattle.std.proofs.Common.{true, false, Ok, Err, length, refl}
use Rattle.std.specs.Option.{option_map, option_copied}
use Rattle.thrift_value.specs.TreeOf.{tree_of}
use Rattle.value_text.specs.Reading.{comes_behind}
use Rattle.value_text.proofs.Choices.{follows, follows_not}
use Rattle.value_text.proofs.reading.following.Goals as goal

pub returns-then-may_follow : goal.returns-then-may_follow
returns-then-may_follow c =
    follows c.args.rising (comes_behind (option_map tree_of (option_copied c.args.last)) (tree_of c.args.value)) true
    (Ok (tree_of c.args.value, c.args.rest.now)) (Err (length c.args.rest.now)) c.if-may_follow.ensures refl

pub returns : goal.returns
returns c =
    follows_not c.args.rising (comes_behind (option_map tree_of (option_copied c.args.last)) (tree_of c.args.value)) false
    (Ok (tree_of c.args.value, c.args.rest.now)) (Err (length c.args.rest.now)) c.if-may_follow.ensures refl
