use Rattle.stream_reader.specs.declared.stage.BodyItem.TheVariants.{KeyType, ValueType}
use Rattle.stream_reader.specs.Stages.{Walked}
use Rattle.stream_reader.proofs.Steps.{body_known}
use Rattle.stream_reader.proofs.walk.MessageWalk.take_body.Goals as goal

pub returns-in-KeyType-clause-plan : goal.returns-in-KeyType-clause-plan
returns-in-KeyType-clause-plan c = let
    w = c.self-in-KeyType.inside in
    let v : Walked = record { most = w.most; at = w.at; levels = w.levels; budget = w.budget; stack = w.stack; stage = w.stage } in
    body_known v c.args.self.now c.args.item KeyType c.args.bytes.now c.self-in-KeyType.view_is c.in-KeyType.is

pub returns-in-ValueType-clause-plan : goal.returns-in-ValueType-clause-plan
returns-in-ValueType-clause-plan c = let
    w = c.self-in-ValueType.inside in
    let v : Walked = record { most = w.most; at = w.at; levels = w.levels; budget = w.budget; stack = w.stack; stage = w.stage } in
    body_known v c.args.self.now c.args.item (ValueType c.in-ValueType.key) c.args.bytes.now c.self-in-ValueType.view_is c.in-ValueType.is
