-- What holds of all entries holds of one that was looked up.
use Rattle.std.proofs.Common.{◌≡◌, ℕ, List, All, Option, Some, None, IfSome, slice_get, sym, subst}
use Rattle.std.specs.Borrow.{Bor}
use Rattle.std.specs.Option.{option_copied}
use Rattle.std.proofs.lemmas.Option.{slice_get_within, get_or_from_slice_get}

pub holds_there : {X : Type 0} (P : X → Type 0) (xs : List X) (i : ℕ) (r : Option (Bor X)) → All P xs → option_copied r ≡ slice_get xs i → IfSome r (λ x. P x.now)
holds_there P xs i None all is = tt
holds_there P xs i (Some x) all is =
    subst P (get_or_from_slice_get xs i x.now x.now (sym is)) (all i x.now (slice_get_within xs i x.now (sym is)))
