-- What lies between a line's beginning and its end in a buffer.
use Rattle.std.proofs.Common.{◌≡◌, ℕ, suc, ◌+◌, ◌<◌, ◌≤◌, List, [], ◌∷◌, ◌++◌, length, take, drop, get_or, Option, None, Some, Result, Ok, Err, refl, sym, ap, ◌∙◌, subst, arith, append-nil, append_assoc, length-append}
use Rattle.std.specs.Prelude.{OnOk}
use Rattle.std.specs.List.{concat}
use Rattle.std.proofs.Math.Seq.{take-append_seam, drop-append_seam}
use Rattle.std.proofs.lemmas.List.Folds.{concat-append}
use Rattle.std.proofs.lemmas.Option.{same_Some}
use Rattle.streams.specs.Cause.{Rose}
use Rattle.streams.specs.Content.{HasWritten, told_more}
use Rattle.value_text.specs.Handing.{HandsOver, HandsText}
use Rattle.journal_text.specs.Buffers.{most_held, EntersBuffer, IsBuffer, measured, entered_since, PassesOn}
use Rattle.journal_text.proofs.Written.{told_none, told_twice}

-- two texts with fronts of one length
same_fronts : (c d a b : List ℕ) → length c ≡ length d → c ++ a ≡ d ++ b → (c ≡ d) × (a ≡ b)
same_fronts c d a b size same = (
  sym (take-append_seam c a) ∙ ap (take (length c)) same ∙ ap (λ n. take n (d ++ b)) size ∙ take-append_seam d b,
  sym (drop-append_seam c a) ∙ ap (drop (length c)) same ∙ ap (λ n. drop n (d ++ b)) size ∙ drop-append_seam d b,
)

-- what is measured can be told from what stands behind it
measured_tells : (x y : Option (List ℕ)) (a b : List ℕ) → measured x ++ a ≡ measured y ++ b → (x ≡ y) × (a ≡ b)
measured_tells None None a b same = (refl, ap (drop 1) same)
measured_tells None (Some d) a b same =
    let heads : 0 ≡ suc (length d) = ap (λ xs. get_or xs 0 0) same in absurd (omega (arith, heads))
measured_tells (Some c) None a b same =
    let heads : suc (length c) ≡ 0 = ap (λ xs. get_or xs 0 0) same in absurd (omega (arith, heads))
measured_tells (Some c) (Some d) a b same =
    let heads : suc (length c) ≡ suc (length d) = ap (λ xs. get_or xs 0 0) same in
    let parts : (c ≡ d) × (a ≡ b) = same_fronts c d a b (omega (arith, heads)) (ap (drop 1) same) in
    (ap Some parts.0, parts.1)

-- a text more went in: the line began over the same sink
went_in : (x y : Option (List ℕ)) (p q h k more : List ℕ) → Some (entered_since y q k) ≡ told_more (Some (entered_since x p h)) more
    → (y ≡ x) × (q ++ k ≡ (p ++ h) ++ more)
went_in x y p q h k more is =
    measured_tells y x (q ++ k) ((p ++ h) ++ more)
    (same_Some (entered_since y q k) (entered_since x p h ++ more) is ∙ append_assoc (measured x) (p ++ h) more)

-- A line went in over a sink that had taken x, where `held` was held: p was passed on, and h is held, when it began, and q and k at its end.
module _ (x start y z : Option (List ℕ)) (p q held h k line : List ℕ) (f g n : ℕ) (start_is : start ≡ x) (none : p ≡ []) (held_is : h ≡ held) (faults_are : g ≡ f)
    (buffer : IsBuffer y z q k) where
  gone_on : (more : List ℕ) → Some (entered_since y q k) ≡ told_more (Some (entered_since start p h)) more → (y ≡ x) × (q ++ k ≡ held ++ more)
  gone_on more is =
      let went : (y ≡ start) × (q ++ k ≡ (p ++ h) ++ more) = went_in start y p q h k more is in
      (went.0 ∙ start_is, went.1 ∙ ap (λ t. (t ++ h) ++ more) none ∙ ap (λ t. t ++ more) held_is)

  told_on : (more : List ℕ) → Some (entered_since y q k) ≡ told_more (Some (entered_since start p h)) more → told_more z k ≡ told_more (told_more x held) more
  told_on more is =
      let went : (y ≡ x) × (q ++ k ≡ held ++ more) = gone_on more is in
      ap (λ o. told_more o k) buffer.taken ∙ told_twice y q k ∙ ap (told_more y) went.1 ∙ ap (λ o. told_more o (held ++ more)) went.0 ∙ sym (told_twice x held more)

  -- it went through the buffer as it would have gone to the sink
  pub line_handed : {A E : Type 0} (result : Result A E) → HandsText (Some (entered_since start p h)) (Some (entered_since y q k)) g n line result
      → HandsText (told_more x held) (told_more z k) f n line result
  line_handed (Ok a) one =
      record { front = one.front; taken = told_on one.front one.taken; whole = one.whole; kept = one.kept ∙ faults_are }
  line_handed (Err e) one =
      record {
        lost = one.lost;
        part = record { front = one.part.front; taken = told_on one.part.front one.part.taken; whole = one.part.whole };
        later = subst (λ m. m ≤ n) faults_are one.later;
        rose = subst (λ m. Rose m n) faults_are one.rose;
      }

  -- and where there was room for it the sink has taken nothing
  entered_whole : HandsOver (Some (entered_since start p h)) (Some (entered_since y q k)) g n line [] → EntersBuffer x z held k line
  entered_whole one =
      let went : (y ≡ x) × (q ++ k ≡ held ++ one.front) = gone_on one.front one.taken in
      let all : q ++ k ≡ held ++ line = went.1 ∙ ap (λ t. held ++ t) (sym (append-nil one.front) ∙ sym one.whole) in
      let sizes : length q + length k ≡ length held + length line = sym (length-append q k) ∙ ap length all ∙ length-append held line in
      record {
        bound = buffer.bound;
        passes_nothing = λ fits.
            let empty : q ≡ [] = buffer.passes_late (omega (arith, sizes, fits)) in (
              buffer.taken ∙ ap (told_more y) empty ∙ told_none y ∙ went.0,
              ap (λ t. t ++ k) (sym empty) ∙ all,
            );
      }

  pub line_entered : {A E : Type 0} (result : Result A E) → HandsText (Some (entered_since start p h)) (Some (entered_since y q k)) g n line result
      → OnOk result (EntersBuffer x z held k line)
  line_entered (Ok a) one = entered_whole one
  line_entered (Err e) one = tt

-- a line begins
pub begun_anew : (start now : Option (List ℕ)) (passed held : List ℕ) → now ≡ start → passed ≡ [] → length held ≤ most_held → IsBuffer start now passed held
begun_anew start now passed held same none bound =
    record { taken = same ∙ sym (told_none start) ∙ ap (told_more start) (sym none); bound = bound; passes_late = λ few. none }

-- bytes are held for which there was room
pub held_on : (start now : Option (List ℕ)) (passed held longer more : List ℕ) → IsBuffer start now passed held → longer ≡ held ++ more → length longer ≤ most_held
    → IsBuffer start now passed longer
held_on start now passed held longer more b is bound =
    let size : length longer ≡ length held + length more = ap length is ∙ length-append held more in
    record { taken = b.taken; bound = bound; passes_late = λ few. b.passes_late (omega (arith, few, size)) }

entered_more : (start : Option (List ℕ)) (passed held longer more : List ℕ) → longer ≡ held ++ more
    → entered_since start passed longer ≡ entered_since start passed held ++ more
entered_more start passed held longer more is =
    ap (entered_since start passed) is
    ∙ sym (append_assoc (measured start) (passed ++ held) more ∙ ap (λ t. measured start ++ t) (append_assoc passed held more))

pub written_in : (start : Option (List ℕ)) (passed held longer bytes : List ℕ) (count : ℕ) → longer ≡ held ++ take count bytes → count ≤ length bytes → (0 < length bytes → 0 < count)
    → HasWritten (Some (entered_since start passed held)) (Some (entered_since start passed longer)) bytes count
written_in start passed held longer bytes count is bound some =
    record { bound = bound; some = some; told = ap Some (entered_more start passed held longer (take count bytes) is) }

-- bytes are passed on, of a buffer that is full, and others held in their place
module _ (start now later : Option (List ℕ)) (passed more held left longer piece end : List ℕ) (b : IsBuffer start now passed held) (on : PassesOn now later held left piece)
    (more_is : more ≡ passed ++ piece) (longer_is : longer ≡ left ++ end) (full : most_held ≤ length held) (some : length left < length longer) where
  pub room_used : length longer ≤ most_held → IsBuffer start later more longer
  room_used bound =
      let sizes : length held ≡ length piece + length left = ap length on.parts ∙ length-append piece left in
      let mores : length more ≡ length passed + length piece = ap length more_is ∙ length-append passed piece in
      record {
        taken = on.taken ∙ ap (λ o. told_more o piece) b.taken ∙ told_twice start passed piece ∙ ap (told_more start) (sym more_is);
        bound = bound;
        passes_late = λ few. absurd (omega (arith, few, sizes, mores, full, some));
      }

  entered_still : entered_since start more left ≡ entered_since start passed held
  entered_still =
      ap (λ t. measured start ++ (t ++ left)) more_is
      ∙ ap (λ t. measured start ++ t) (append_assoc passed piece left ∙ ap (λ t. passed ++ t) (sym on.parts))

  pub written_behind : (bytes : List ℕ) (count : ℕ) → end ≡ take count bytes → count ≤ length bytes → (0 < length bytes → 0 < count)
      → HasWritten (Some (entered_since start passed held)) (Some (entered_since start more longer)) bytes count
  written_behind bytes count end_is bound some_are =
      subst (λ t. HasWritten (Some t) (Some (entered_since start more longer)) bytes count) entered_still
      (written_in start more left longer bytes count (longer_is ∙ ap (λ t. left ++ t) end_is) bound some_are)

-- one more piece is its bytes more
pub passed_more : (old new : List (List ℕ)) (piece : List ℕ) → new ≡ old ++ piece ∷ [] → concat new ≡ concat old ++ piece
passed_more old new piece more = ap concat more ∙ concat-append old (piece ∷ []) ∙ ap (λ t. concat old ++ t) (append-nil piece)
