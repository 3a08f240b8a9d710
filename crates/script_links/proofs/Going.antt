-- Steps that are done one after another.
use Rattle.std.proofs.Common.{◌≡◌, ℕ, zero, ◌+◌, ◌<◌, Bool, true, false, Option, None, Some, List, [], ◌∷◌, drop, refl, sym, ap, subst, arith, if◌then◌else◌}
use Rattle.std.proofs.lemmas.Option.{none-some, same_Some}
use Rattle.outside.specs.declared.answers.Ask.{Ask}
use Rattle.outside.specs.declared.answers.Hint.{Hint}
use Rattle.script_links.specs.declared.step.Step.{Step}
use Rattle.script_links.specs.declared.step.Step.TheVariants.{Opens, Arrives, Ends, Fails, Rests, Passes}
use Rattle.script_links.specs.declared.step.Came.{Came}
use Rattle.script_links.specs.declared.step.Came.TheVariants.{Gives, Waits, GoesOn}
use Rattle.script_links.specs.ServedScript.{PlainLink, ServedScript, link_at, is_coming, is_open_at}
use Rattle.script_links.specs.Plain.{first_of, after_step, on_open, next_from, next_step, next_at_end}

-- the first of these steps, and those after it
pub first_is : (steps : List Step) (step : Step) → first_of steps ≡ Some step → steps ≡ step ∷ drop 1 steps
first_is [] step e = absurd (none-some step e)
first_is (other ∷ steps) step e = ap (λ s. s ∷ steps) (same_Some other step e)

pub none_is : (steps : List Step) → first_of steps ≡ None → steps ≡ []
none_is [] e = refl
none_is (step ∷ steps) e = absurd (none-some step (sym e))

-- it goes on
abbrev pub goes_on : Came → Bool
goes_on GoesOn = true
goes_on (Gives hint) = false
goes_on Waits = false

-- what either leaves
pub steps_either : (b : Bool) (x y : ServedScript) (steps : List Step) → x.steps ≡ steps → y.steps ≡ steps → (if b then x else y).steps ≡ steps
steps_either true x y steps p q = p
steps_either false x y steps p q = q

-- what is done at a step leaves the steps after it
pub after_keeps : (ask : Ask) (s : ServedScript) (step : Step) → (after_step ask s step).steps ≡ s.steps
after_keeps ask s Opens = steps_either (is_coming (link_at s.links s.opened).stage) _ s s.steps refl refl
after_keeps ask s (Arrives c) = steps_either (is_open_at s.links c) _ s s.steps refl refl
after_keeps ask s (Ends c) = steps_either (is_open_at s.links c) _ s s.steps refl refl
after_keeps ask s (Fails c) = steps_either (is_open_at s.links c) _ s s.steps refl refl
after_keeps ask s Rests = refl
after_keeps ask s Passes = refl

-- no step is left
pub at_last : (ask : Ask) (s : ServedScript) → first_of s.steps ≡ None → next_step ask s ≡ next_at_end s
at_last ask s none = ap (λ steps. next_from ask steps s) (none_is s.steps none)
