use Rattle.stream_reader.specs.declared.stage.HeadItem.TheVariants.{Name, OldName, OldType}
use Rattle.stream_reader.specs.Stages.{Walked}
use Rattle.stream_reader.proofs.Steps.{head_known}
use Rattle.stream_reader.proofs.walk.MessageWalk.take_head.Goals as goal

pub returns-in-Name-clause-plan : goal.returns-in-Name-clause-plan
returns-in-Name-clause-plan c = let
    w = c.self.inside in
    let v : Walked = record { most = w.most; at = w.at; levels = w.levels; budget = w.budget; stack = w.stack; stage = w.stage } in
    head_known v c.args.self.now c.args.item (Name c.in-Name.kind c.in-Name.field-1) c.args.bytes.now c.self.view_is c.in-Name.is

pub returns-in-OldName-clause-plan : goal.returns-in-OldName-clause-plan
returns-in-OldName-clause-plan c = let
    w = c.self-in-OldName.inside in
    let v : Walked = record { most = w.most; at = w.at; levels = w.levels; budget = w.budget; stack = w.stack; stage = w.stage } in
    head_known v c.args.self.now c.args.item (OldName c.in-OldName.field-0) c.args.bytes.now c.self-in-OldName.view_is c.in-OldName.is

pub returns-in-OldType-clause-plan : goal.returns-in-OldType-clause-plan
returns-in-OldType-clause-plan c = let
    w = c.self-in-OldType.inside in
    let v : Walked = record { most = w.most; at = w.at; levels = w.levels; budget = w.budget; stack = w.stack; stage = w.stage } in
    head_known v c.args.self.now c.args.item OldType c.args.bytes.now c.self-in-OldType.view_is c.in-OldType.is
