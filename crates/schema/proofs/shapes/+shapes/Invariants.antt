use Rattle.schema.proofs.shapes.+shapes.Given as goal

-- the levels that are left
abbrev pub decreases-put_tags : goal.decreases-put_tags
decreases-put_tags l = l.levels
