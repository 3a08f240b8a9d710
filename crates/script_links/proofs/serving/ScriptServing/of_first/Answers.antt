use Rattle.std.proofs.Common.{◌≡◌, sym, subst}
use Rattle.outside.specs.Opening.{AreFreshLinks}
use Rattle.script_links.specs.ServedScript.{ServedScript}
use Rattle.script_links.specs.Kept.{served_of}
use Rattle.script_links.specs.Shown.{links_told}
use Rattle.script_links.specs.Followed.{AreFirstLinksOf, FollowsItsScript}
use Rattle.script_links.proofs.Firsts.{untouched, untouched_fresh, untouched_follow, first_untouched, first_links}
use Rattle.script_links.proofs.serving.ScriptServing.of_first.Goals as goal

pub returns-clause-own : goal.returns-clause-own
returns-clause-own c =
    subst (λ (s : ServedScript). AreFirstLinksOf c.args.most c.args.script s) (sym c.keep_first.ensures.first)
    (first_links c.args.most c.args.script (served_of c.in_ok-serving.serving) c.in_ok-serving.ensures.fresh)

pub returns-clause-fresh : goal.returns-clause-fresh
returns-clause-fresh c =
    subst (λ (s : ServedScript). AreFreshLinks (links_told s)) (sym c.keep_first.ensures.first)
    (untouched_fresh _ (first_untouched c.args.most (served_of c.in_ok-serving.serving) (untouched c.args.script (served_of c.in_ok-serving.serving) c.in_ok-serving.ensures.fresh)))

pub returns-clause-follows : goal.returns-clause-follows
returns-clause-follows c =
    subst FollowsItsScript (sym c.keep_first.ensures.first)
    (λ script own.
    untouched_follow script _ (first_untouched c.args.most (served_of c.in_ok-serving.serving) (untouched c.args.script (served_of c.in_ok-serving.serving) c.in_ok-serving.ensures.fresh)) own)
