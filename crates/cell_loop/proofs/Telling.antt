-- The causes of the connections that have ended, one after the other.
use Rattle.std.proofs.Common.{◌≡◌, ℕ, suc, ◌+◌, ◌<◌, ◌≤◌, Some, List, [], ◌∷◌, ◌++◌, length, take, slice_get, slice_index_or, refl, sym, ap, ◌∙◌, arith}
use Rattle.std.proofs.lemmas.Option.{same_Some}
use Rattle.std.proofs.lemmas.List.{take_more, length-take-le, take_all}
use Rattle.host_model.specs.declared.cause.EndCause.{EndCause}
use Rattle.cell_loop.specs.declared.loop_part.CellStage.{CellStage}
use Rattle.cell_loop.specs.declared.loop_part.CellStage.TheVariants.{Lean, Framed, Whole, Asked, Over}
use Rattle.cell_loop.specs.declared.loop_part.LoopPart.{LoopPart}
use Rattle.cell_loop.specs.Closing.{end_told}
use Rattle.cell_loop.specs.LoopMoves.{AreAllOver}

-- the causes of all of these
abbrev pub ends_of : List CellStage → List EndCause
ends_of [] = []
ends_of (stage ∷ stages) = end_told stage ++ ends_of stages

append_none : {X : Type 0} (xs : List X) → xs ++ [] ≡ xs
append_none [] = refl
append_none (x ∷ xs) = ap (λ l. x ∷ l) (append_none xs)

joined : {X : Type 0} (xs ys zs : List X) → (xs ++ ys) ++ zs ≡ xs ++ (ys ++ zs)
joined [] ys zs = refl
joined (x ∷ xs) ys zs = ap (λ l. x ∷ l) (joined xs ys zs)

pub one_more_end : (stages : List CellStage) (stage : CellStage) → ends_of (stages ++ stage ∷ []) ≡ ends_of stages ++ end_told stage
one_more_end [] stage = append_none (end_told stage)
one_more_end (x ∷ stages) stage = ap (λ l. end_told x ++ l) (one_more_end stages stage) ∙ sym (joined (end_told x) (ends_of stages) (end_told stage))

one_at_most : (stage : CellStage) (causes : List EndCause) → length (end_told stage ++ causes) ≤ suc (length causes)
one_at_most Lean causes = omega arith
one_at_most Framed causes = omega arith
one_at_most Whole causes = omega arith
one_at_most Asked causes = omega arith
one_at_most (Over cause) causes = omega arith

-- no more have ended than are known
pub ends_fit : (stages : List CellStage) → length (ends_of stages) ≤ length stages
ends_fit [] = omega arith
ends_fit (stage ∷ stages) =
    let rest : length (ends_of stages) ≤ length stages = ends_fit stages in
    let own : length (end_told stage ++ ends_of stages) ≤ suc (length (ends_of stages)) = one_at_most stage (ends_of stages) in
    omega arith

all_ends : (stages : List CellStage) (causes : List EndCause) → length causes ≡ length stages
    → ((c : ℕ) (cause : EndCause) → slice_get causes c ≡ Some cause → slice_get stages c ≡ Some (Over cause)) → ends_of stages ≡ causes
all_ends [] [] count each = refl
all_ends [] (cause ∷ causes) count each = absurd (let f : ⊥ = omega arith in f)
all_ends (stage ∷ stages) [] count each = absurd (let f : ⊥ = omega arith in f)
all_ends (stage ∷ stages) (cause ∷ causes) count each =
    ap (λ k. end_told k ++ ends_of stages) (same_Some stage (Over cause) (each 0 cause refl))
    ∙ ap (λ l. cause ∷ l) (all_ends stages causes (let e : suc (length causes) ≡ suc (length stages) = count in omega arith) (λ c k is. each (suc c) k is))

-- the ends of one stage more
pub told_more : (stages : List CellStage) (i : ℕ) → i < length stages → ends_of (take i stages) ++ end_told (slice_index_or stages i Lean) ≡ ends_of (take (i + 1) stages)
told_more stages i below = sym (ap ends_of (take_more stages i Lean below) ∙ one_more_end (take i stages) (slice_index_or stages i Lean))

pub told_fits : (stages : List CellStage) (i : ℕ) → i ≤ length stages → length (ends_of (take i stages)) ≤ i
told_fits stages i within =
    let few : length (ends_of (take i stages)) ≤ length (take i stages) = ends_fit (take i stages) in
    let many : length (take i stages) ≡ i = length-take-le i stages within in
    omega arith

-- where each has ended, they are the causes of all
pub ends_are : (part : LoopPart) (causes : List EndCause) → AreAllOver part causes → ends_of part.stages.items ≡ causes
ends_are part causes over = all_ends part.stages.items causes over.count over.each

pub all_told : (part : LoopPart) (causes : List EndCause) (n : ℕ) → n ≡ length part.stages.items → AreAllOver part causes → ends_of (take n part.stages.items) ≡ causes
all_told part causes n all over = ap ends_of (take_all n part.stages.items (omega arith)) ∙ ends_are part causes over
