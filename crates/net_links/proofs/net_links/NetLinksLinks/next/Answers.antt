use Rattle.std.proofs.Common.{Ok, ap, ◌∙◌, subst}
use Rattle.net_links.specs.Account.{NumbersNext, after_net_fault}
use Rattle.net_links.specs.Watching.{AcceptsOne}
use Rattle.net_links.proofs.Telling.{numbers_next, takes_in, fails, tells_readable, tells_writable, tells_ring}
use Rattle.net_links.proofs.net_links.NetLinksLinks.next.Goals as goal

pub returns-in-Ok-Opened-clause-answers : goal.returns-in-Ok-Opened-clause-answers
returns-in-Ok-Opened-clause-answers g c =
    let told = c.in-Ok-Opened.is ∙ ap Ok c.in-Ok-Opened.field-0-is in
    let may = subst (λ a. NumbersNext c.args.ask.room a c.next_number-number.result) c.self.view_is c.next_number-number.ensures in
    let next = numbers_next c.args.ask.room c.args.self.now c.next_number-number.result c.watch.result c.in-Ok-Opened.c may c.watch.ensures told in
    takes_in c.args.ask c.args.self.now c.take_in.new.self c.in-Ok-Opened.c c.take_in.result next.0 next.1
    (subst (λ a. AcceptsOne c.in-Ok-Opened.c a c.take_in.new.self c.take_in.result) c.self.view_is c.take_in.ensures)

pub returns-in-Err-clause-answers : goal.returns-in-Err-clause-answers
returns-in-Err-clause-answers g c = fails c.args.ask _ _ _ (c.net_fault.ensures.account ∙ ap after_net_fault c.self.view_is) (rw (← c.self.view_is) c.net_fault.ensures.later)

pub returns-in-Ok-Readable-clause-answers : goal.returns-in-Ok-Readable-clause-answers
returns-in-Ok-Readable-clause-answers g c = tells_readable c.args.ask _ _ _ c.self.view_is

pub returns-in-Ok-Writable-clause-answers : goal.returns-in-Ok-Writable-clause-answers
returns-in-Ok-Writable-clause-answers g c = tells_writable c.args.ask _ _ _ c.self.view_is

pub returns-in-Ok-Woken-clause-answers : goal.returns-in-Ok-Woken-clause-answers
returns-in-Ok-Woken-clause-answers g c = tells_ring c.args.ask _ _ c.self.view_is
