use Rattle.schema.proofs.types_text.+types_text.Given as goal

-- the levels that are left
abbrev pub decreases-put_kind : goal.decreases-put_kind
decreases-put_kind l = l.levels
