use Rattle.std.proofs.Common.{ℕ, List, subst}
use Rattle.std.specs.Str.{IsCharBoundary}
use Rattle.idl_include.proofs.Starts.{cut_is}
use Rattle.idl_include.proofs.names.folder.Goals as goal

pub range-requires-clause-end_boundary : goal.range-requires-clause-end_boundary
range-requires-clause-end_boundary c =
    let P : List ℕ → Type 0 = λ name. IsCharBoundary name c.segment_start-end.result in
    subst P c.as_bytes.ensures.value
    (cut_is _ _ c.as_bytes.ensures.utf8 c.segment_start-end.ensures.within c.segment_start-end.ensures.behind)
