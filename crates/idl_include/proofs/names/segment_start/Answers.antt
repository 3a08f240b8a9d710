use Rattle.idl_include.proofs.Starts.{start_is, whole_is, last_is, folder_is}
use Rattle.idl_include.proofs.names.segment_start.Goals as goal

pub returns-then-name-at-eq47-clause-last : goal.returns-then-name-at-eq47-clause-last
returns-then-name-at-eq47-clause-last c =
    last_is _ _ (start_is _ _ c.loop-at.invariant.within c.loop-at.invariant.behind (λ p. c.if-name-at-eq47.true))

pub returns-then-name-at-eq47-clause-folder : goal.returns-then-name-at-eq47-clause-folder
returns-then-name-at-eq47-clause-folder c =
    folder_is _ _ (start_is _ _ c.loop-at.invariant.within c.loop-at.invariant.behind (λ p. c.if-name-at-eq47.true))

pub returns-clause-last : goal.returns-clause-last
returns-clause-last c = last_is _ _ (whole_is _ _ c.loop-at-test.false c.loop-at.invariant.behind)

pub returns-clause-folder : goal.returns-clause-folder
returns-clause-folder c = folder_is _ _ (whole_is _ _ c.loop-at-test.false c.loop-at.invariant.behind)
