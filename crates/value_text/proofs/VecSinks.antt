-- What a vector holds that was a sink for a while.
use Rattle.std.proofs.Common.{◌≡◌, ℕ, List, ◌++◌, length, take, Option, Some, Result, Ok, Err, sym, ap, ◌∙◌, take_at}
use Rattle.std.proofs.lemmas.Option.{same_Some}
use Rattle.std.specs.Prelude.{MatchResult, OnErr, IsOk}
use Rattle.std.specs.Result.{IsErr}
use Rattle.streams.specs.Taken.{IsTakenBut}
use Rattle.value_text.specs.Handing.{BreaksOff, HandsText}

-- what it held before stands in front
front_kept : (old now : List ℕ) (f g n : ℕ) (text : List ℕ) → n ≡ length old → BreaksOff (Some old) (Some now) f g text → take n now ≡ old
front_kept old now f g n text size broken =
    let part : IsTakenBut (Some old) (Some now) text broken.lost = broken.part in
    let is : now ≡ old ++ part.front = same_Some now (old ++ part.front) part.taken in
    ap (take n) is ∙ take_at old part.front n (sym size)

-- where a text broke off it is cut to what it held
pub cut_back : {A B E F : Type 0} (old mid now new : List ℕ) (f g n : ℕ) (text : List ℕ) (spelled : Result A E) (put : Result B F)
    → n ≡ length old → mid ≡ old → HandsText (Some mid) (Some now) f g text spelled → MatchResult put (λ _. IsOk spelled) (λ _. IsErr spelled)
    → OnErr put (new ≡ take n now) → OnErr put (new ≡ old)
cut_back old mid now new f g n text spelled (Ok b) size same handed went cut = tt
cut_back old mid now new f g n text (Ok a) (Err e) size same handed went cut = absurd (let h : ⊥ = cc in h)
cut_back old mid now new f g n text (Err d) (Err e) size same broken went cut =
    cut ∙ front_kept mid now f g n text (size ∙ ap length (sym same)) broken ∙ same
