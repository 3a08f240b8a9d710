use Rattle.host_loop.proofs.Keeping.{some_goes_on, serves_on_all, is_there}
use Rattle.host_loop.proofs.visits.Serving+Hall+H+J.step.Goals as goal

pub has_reply-requires : goal.has_reply-requires
has_reply-requires g c = is_there _ _ _ _ _ _ _ _ c.requires.serving c.args.c c.requires.open

pub want-count-requires : goal.want-count-requires
want-count-requires g c = is_there _ _ _ _ _ _ _ _ c.requires.serving c.args.c c.requires.open

pub write-requires-clause-under_way : goal.write-requires-clause-under_way
write-requires-clause-under_way g c κs within = some_goes_on _ _ _ _ _ _ _ _ c.requires.serving

pub returns-then-has_reply-clause-serving : goal.returns-then-has_reply-clause-serving
returns-then-has_reply-clause-serving g c = serves_on_all _ _ _ _ _ _ _ _ c.requires.serving (g.L.Links.state c.write.new.links) c.write.new.self c.write.ensures.going c.write.ensures.budget
