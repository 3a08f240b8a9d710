use Rattle.std.proofs.Common.{◌≡◌, ◌<◌, ◌≤◌, Vec, Global, length, ap, sym, subst, arith, rules}
use Rattle.conn_table.specs.Slots.{most_connections, HaveRisingNumbers}
use Rattle.conn_table.specs.Table.{TableView}
use Rattle.cell_loop.specs.declared.feed.Feed.{Feed}
use Rattle.cell_loop.specs.Closing.{HasMoreRoom}
use Rattle.cell_loop.proofs.Becoming.{more_room_tied}
use Rattle.cell_loop.proofs.Opening.{opens_one, opened_room}
use Rattle.cell_loop.proofs.loop_part.LoopPart.open_one.Goals as goal

pub returns-clause-moved : goal.returns-clause-moved
returns-clause-moved c =
    let more : HasMoreRoom c.args.self.now c.make_way.new.self = c.make_way.ensures.more in
    let known : length c.make_way.new.self.stages.items ≡ length c.args.self.now.stages.items = ap length more.stages in
    let fed : length c.make_way.new.self.feeds.items ≡ length c.args.self.now.feeds.items = ap (λ (v : Vec Feed Global). length v.items) more.feeds in
    let is : length c.make_way.new.self.stages.items ≡ c.in-Ok.c = first_of (omega (arith, c.args.self.now.stages.ok.0), search rules) in
    let left : length c.make_way.new.self.stages.items < length c.make_way.new.self.feeds.items =
    let some : length c.args.self.now.stages.items ≤ length c.args.self.now.feeds.items = c.requires.under_way.tied.fed in
    omega (arith, c.args.self.now.stages.ok.0, c.args.self.now.feeds.ok.0) in
    λ s play w t.
    opens_one s c.make_way.new.self c.add.new.self play c.in-Ok.c (more_room_tied s c.args.self.now c.make_way.new.self play more t) is c.add.ensures.table c.add.ensures.tape
    c.add.ensures.stages c.add.ensures.feeds left (subst (λ (v : TableView). HaveRisingNumbers v.slots) (sym more.table) c.requires.rising)
    (subst (λ (v : TableView). length v.slots < most_connections) (sym more.table) c.requires.fits)

pub returns-clause-room : goal.returns-clause-room
returns-clause-room c =
    let more : HasMoreRoom c.args.self.now c.make_way.new.self = c.make_way.ensures.more in
    let known : length c.make_way.new.self.stages.items ≡ length c.args.self.now.stages.items = ap length more.stages in
    let is : length c.make_way.new.self.stages.items ≡ c.in-Ok.c = first_of (omega (arith, c.args.self.now.stages.ok.0), search rules) in
    opened_room c.args.self.now c.make_way.new.self c.add.new.self c.in-Ok.c more c.requires.under_way.room c.requires.fits is (search rules) c.in_ok-make_way.ensures.for_mark
    c.in_ok-make_way.ensures.for_cause c.add.ensures.table c.add.ensures.tape c.add.ensures.capacity c.add.ensures.stages c.add.ensures.ends
