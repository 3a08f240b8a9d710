use Rattle.std.proofs.Common.{◌≡◌, true, sym, ap, ◌∙◌, subst}
use Rattle.script_links.specs.ServedScript.{ServedScript}
use Rattle.script_links.specs.Kept.{served_of}
use Rattle.script_links.specs.Followed.{AreLinksOf, FollowsScript}
use Rattle.script_links.proofs.FollowedToEnd.{followed}
use Rattle.script_links.proofs.over_script.ScriptLinks.follow_their_script.Goals as goal

pub returns : goal.returns
returns c script own over =
    let s : ServedScript = served_of c.self.inside.serving in
    subst (λ (x : ServedScript). FollowsScript script x.tape x.rests x.lengths) c.self.view_is
    (followed script s c.self.invariant.2 c.self.invariant.1 (subst (AreLinksOf script) (sym c.self.view_is) own) (ap (λ (x : ServedScript). x.over) c.self.view_is ∙ over))
