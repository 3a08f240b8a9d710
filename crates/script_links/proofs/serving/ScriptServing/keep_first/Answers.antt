use Rattle.std.proofs.Common.{◌≡◌, sym, ap, ◌∙◌, subst}
use Rattle.std.proofs.lemmas.List.{take-map}
use Rattle.std.specs.Vec.{vec_capacity}
use Rattle.script_links.specs.ServedScript.{ServedScript}
use Rattle.script_links.specs.Kept.{HasRoomFor, plain_link, plain_links, served_of}
use Rattle.script_links.specs.Fresh.{first_connections}
use Rattle.script_links.proofs.Firsts.{first_room}
use Rattle.script_links.proofs.serving.ScriptServing.keep_first.Goals as goal

pub returns-clause-first : goal.returns-clause-first
returns-clause-first c =
    λ i. record (served_of c.args.self.now) { links = (ap plain_links c.truncate.ensures.items ∙ sym (take-map plain_link c.args.most c.args.self.now.links.items.items)) i }

pub returns-clause-kept : goal.returns-clause-kept
returns-clause-kept c =
    subst (λ (s : ServedScript). HasRoomFor c.args.self.now.tape.capacity (vec_capacity c.args.self.now.rests) s) (sym (returns-clause-first c))
    (first_room c.args.most c.args.self.now.tape.capacity (vec_capacity c.args.self.now.rests) (served_of c.args.self.now) c.requires.kept)
