use Rattle.std.proofs.Common.{Ok, [], ◌∷◌, ◌++◌, ap, ◌∙◌}
use Rattle.std.specs.Int.{w16}
use Rattle.std.proofs.lemmas.Int.{to_z-of_z}
use Rattle.idl_const.proofs.Kept.{field_kept}
use Rattle.idl_const.proofs.keeping.keep_field.Goals as goal

pub returns : goal.returns
returns c =
    rw (c.in_ok-one.was ∙ ap Ok c.in-Some.is)
    (λ more. field_kept c.args.list.now.items c.push.new.self.items c.args.id c.in-Some.one (c.in_ok-push.ensures.items ∙ ap (λ id. c.args.list.now.items ++ (id, c.in-Some.one) ∷ []) (to_z-of_z w16 c.args.id c.ranges.id)) more, tt)
