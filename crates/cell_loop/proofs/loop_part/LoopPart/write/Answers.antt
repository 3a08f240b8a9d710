use Rattle.std.proofs.Common.{◌≡◌, ◌∷◌, Some, min, length, drop, true, ap, ◌∙◌}
use Rattle.conn_state.specs.Phase.{ConnView, left_to_write}
use Rattle.conn_table.specs.Table.{slot_of}
use Rattle.script_model.specs.ScriptLines.{takes_most, blocks, fails}
use Rattle.script_text.specs.declared.lines.WriteRule.TheVariants.{Takes, Block, Fails}
use Rattle.cell_loop.specs.Moving.{one_of_conn}
use Rattle.cell_loop.specs.Feeds.{rules_in}
use Rattle.cell_loop.specs.Closing.{Writes}
use Rattle.cell_loop.specs.LoopMoves.{LoopMoves, AnySetting}
use Rattle.cell_loop.proofs.RulesNext.{rules_none, rules_next, bounds_some, on_ok}
use Rattle.cell_loop.proofs.WritingOn.{writes_all, writes_some, blocks_once, fails_once}
use Rattle.cell_loop.proofs.loop_part.LoopPart.write.Goals as goal

pub returns-in-None-clause-moved : goal.returns-in-None-clause-moved
returns-in-None-clause-moved c =
    on_ok (Writes c.args.c (min (length c.pending-left.result.now) (length (left_to_write (slot_of c.args.c c.args.self.now.table.slots).conn.phase))) c.args.self.now c.write_most.new.self)
    (LoopMoves AnySetting (λ s. one_of_conn s c.args.c) c.args.self.now true c.write_most.new.self) c.write_most.result
    (λ w s play any t.
    writes_all s c.args.c c.args.self.now play c.requires.lean c.requires.left t (length c.pending-left.result.now) c.write_most.new.self
    (ap length c.pending-left.ensures.left ∙ ap (λ (v : ConnView). length (left_to_write v.phase)) c.conn.ensures.state)
    (t.rules c.args.c ∙ rules_none c.args.self.now.feeds.items c.args.c c.index.result.now c.requires.fed c.index.ensures c.next_rule.result c.next_rule.ensures c.in-None.is) w)
    c.write_most.ensures.wrote

pub returns-in_ok-write_most-in-Some-Takes-clause-moved : goal.returns-in_ok-write_most-in-Some-Takes-clause-moved
returns-in_ok-write_most-in-Some-Takes-clause-moved c =
    let some : c.next_rule.result ≡ Some (Takes c.in-Some-Takes.most) = c.in-Some-Takes.is ∙ ap Some c.in-Some-Takes.field-0-is in
    let are : rules_in c.args.self.now.feeds.items c.args.c ≡ takes_most c.in-Some-Takes.most ∷ drop 1 (rules_in c.args.self.now.feeds.items c.args.c) =
    rules_next c.args.self.now.feeds.items c.args.c c.index.result.now c.requires.fed c.index.ensures c.next_rule.result c.next_rule.ensures (Takes c.in-Some-Takes.most) some in
    λ s play any t.
    writes_some s c.args.c c.args.self.now play c.requires.lean c.requires.left t c.in-Some-Takes.most (drop 1 (rules_in c.args.self.now.feeds.items c.args.c))
    c.write_most-in-Some-Takes.new.self c.pass_rule.new.self
    (bounds_some (rules_in c.args.self.now.feeds.items c.args.c) c.in-Some-Takes.most (drop 1 (rules_in c.args.self.now.feeds.items c.args.c)) (t.writes c.args.c) are)
    (t.rules c.args.c ∙ are) c.in_ok-write_most-in-Some-Takes.ensures.wrote c.pass_rule.ensures.table c.pass_rule.ensures.tape c.pass_rule.ensures.stages c.pass_rule.ensures.fed

pub returns-in-Some-Block-clause-moved : goal.returns-in-Some-Block-clause-moved
returns-in-Some-Block-clause-moved c =
    let some : c.next_rule.result ≡ Some Block = c.in-Some-Block.is ∙ ap Some c.in-Some-Block.field-0-is in
    let are : rules_in c.args.self.now.feeds.items c.args.c ≡ blocks ∷ drop 1 (rules_in c.args.self.now.feeds.items c.args.c) =
    rules_next c.args.self.now.feeds.items c.args.c c.index.result.now c.requires.fed c.index.ensures c.next_rule.result c.next_rule.ensures Block some in
    λ s play any t.
    blocks_once s c.args.c c.args.self.now play c.requires.lean c.requires.left t (drop 1 (rules_in c.args.self.now.feeds.items c.args.c)) c.pass_rule-in-Some-Block.new.self
    (t.rules c.args.c ∙ are) c.pass_rule-in-Some-Block.ensures.table c.pass_rule-in-Some-Block.ensures.tape c.pass_rule-in-Some-Block.ensures.stages c.pass_rule-in-Some-Block.ensures.fed

pub returns-in-Some-Fails-clause-moved : goal.returns-in-Some-Fails-clause-moved
returns-in-Some-Fails-clause-moved c =
    let some : c.next_rule.result ≡ Some Fails = c.in-Some-Fails.is ∙ ap Some c.in-Some-Fails.field-0-is in
    let are : rules_in c.args.self.now.feeds.items c.args.c ≡ fails ∷ drop 1 (rules_in c.args.self.now.feeds.items c.args.c) =
    rules_next c.args.self.now.feeds.items c.args.c c.index.result.now c.requires.fed c.index.ensures c.next_rule.result c.next_rule.ensures Fails some in
    λ s play any t.
    fails_once s c.args.c c.args.self.now play c.requires.lean c.requires.left t (drop 1 (rules_in c.args.self.now.feeds.items c.args.c)) c.fail_write.new.self
    c.pass_rule-in-Some-Fails.new.self (t.rules c.args.c ∙ are) c.fail_write.ensures.closed c.pass_rule-in-Some-Fails.ensures.table c.pass_rule-in-Some-Fails.ensures.tape
    c.pass_rule-in-Some-Fails.ensures.stages c.pass_rule-in-Some-Fails.ensures.fed
