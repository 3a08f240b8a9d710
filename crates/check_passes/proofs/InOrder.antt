-- Passes, one after another.
use Rattle.std.proofs.Common.{◌≡◌, inl, inr, List, [], ◌∷◌, ◌++◌, Option, None, Some, refl, sym, subst}
use Rattle.std.specs.Prelude.{MatchOption, MatchResult, Result, Ok, Err, IfOk}
use Rattle.std.specs.List.{AllByRecursion}
use Rattle.idl_include.specs.Program.{Program}
use Rattle.check_model.specs.Passes.{Pass, passes}
use Rattle.check_model.specs.FirstFlaw.{FlawKind, ProgramFlaw, FindsNothing, IsFirstOf, IsFirstFlaw}
use Rattle.check_passes.specs.declared.faults.CheckFault.{CheckFault}
use Rattle.check_passes.specs.declared.faults.CheckKind.TheVariants as check
use Rattle.check_passes.specs.Faults.{flaw_told, TellsFlaw}
use Rattle.check_passes.specs.Passed.{IsFirstAmong, ArePassed}

pub tells_more : (P Q : ProgramFlaw → Type 0) → ((flaw : ProgramFlaw) → P flaw → Q flaw) → (fault : CheckFault) → TellsFlaw P fault → TellsFlaw Q fault
tells_more P Q f fault h = by (flaw_told fault.kind) h
  where
    by : (o : Option FlawKind) → MatchOption o (fault.kind ≡ check.NoMemory) (λ kind. P (record { file = fault.file; at = fault.at; kind = kind }))
        → MatchOption o (fault.kind ≡ check.NoMemory) (λ kind. Q (record { file = fault.file; at = fault.at; kind = kind }))
    by None h = h
    by (Some kind) h = f (record { file = fault.file; at = fault.at; kind = kind }) h

-- a fault of the first passes is one of all
pub first_behind : (program : Program) (ps qs : List Pass) (flaw : ProgramFlaw) → IsFirstAmong program ps flaw → IsFirstAmong program (ps ++ qs) flaw
first_behind program [] qs flaw h = absurd h
first_behind program (p ∷ ps) qs flaw (inl h) = inl h
first_behind program (p ∷ ps) qs flaw (inr h) = inr (h.0, first_behind program ps qs flaw h.1)

-- a fault of the later passes is one of all where the first find nothing
pub first_past : (program : Program) (ps qs : List Pass) (flaw : ProgramFlaw) → AllByRecursion (FindsNothing program) ps → IsFirstAmong program qs flaw
    → IsFirstAmong program (ps ++ qs) flaw
first_past program [] qs flaw none h = h
first_past program (p ∷ ps) qs flaw none h = inr (none.0, first_past program ps qs flaw none.1 h)

nothing_past : (program : Program) (ps qs : List Pass) → AllByRecursion (FindsNothing program) ps → AllByRecursion (FindsNothing program) qs
    → AllByRecursion (FindsNothing program) (ps ++ qs)
nothing_past program [] qs h k = k
nothing_past program (p ∷ ps) qs h k = (h.0, nothing_past program ps qs h.1 k)

pub stops : (program : Program) (ps qs : List Pass) (fault : CheckFault) → TellsFlaw (IsFirstAmong program ps) fault
    → TellsFlaw (IsFirstAmong program (ps ++ qs)) fault
stops program ps qs fault h = tells_more (IsFirstAmong program ps) (IsFirstAmong program (ps ++ qs)) (first_behind program ps qs) fault h

pub goes_on : {A : Type 0} (program : Program) (ps qs : List Pass) (result : Result A CheckFault) → AllByRecursion (FindsNothing program) ps
    → ArePassed program qs result → ArePassed program (ps ++ qs) result
goes_on program ps qs (Ok made) none h = nothing_past program ps qs none h
goes_on program ps qs (Err fault) none h =
    tells_more (IsFirstAmong program qs) (IsFirstAmong program (ps ++ qs)) (λ flaw k. first_past program ps qs flaw none k) fault h

-- what is kept where nothing was found
pub kept_passed : {A U : Type 0} (program : Program) (ps : List Pass) (item : A) (found : Result U CheckFault) (result : Result A CheckFault)
    → MatchResult found (λ _. result ≡ Ok item) (λ fault. result ≡ Err fault) → ArePassed program ps found → ArePassed program ps result
kept_passed program ps item (Ok u) result is passed = subst (λ r. ArePassed program ps r) (sym is) passed
kept_passed program ps item (Err fault) result is passed = subst (λ r. ArePassed program ps r) (sym is) passed

pub kept_typed : {A U E : Type 0} (P : A → Type 0) (item : A) (found : Result U E) (result : Result A E)
    → MatchResult found (λ _. result ≡ Ok item) (λ fault. result ≡ Err fault) → P item → IfOk result P
kept_typed P item (Ok u) result is right = subst (λ r. IfOk r P) (sym is) right
kept_typed P item (Err fault) result is right = subst (λ r. IfOk r P) (sym is) tt

-- what is known of an answer that is there
pub held_ok : {T E : Type 0} (P : T → Type 0) (r : Result T E) (x : T) → r ≡ Ok x → IfOk r P → P x
held_ok P r x is h = subst (λ s. IfOk s P) is h

-- ---- the first of all

record IsSplitAt (program : Program) (ps : List Pass) (flaw : ProgramFlaw) : Type 0 where
  earlier : List Pass
  pass : Pass
  later : List Pass
  split : ps ≡ earlier ++ pass ∷ later
  clear : AllByRecursion (FindsNothing program) earlier
  first : IsFirstOf program pass flaw

split_at_first : (program : Program) (ps : List Pass) (flaw : ProgramFlaw) → IsFirstAmong program ps flaw → IsSplitAt program ps flaw
split_at_first program [] flaw h = absurd h
split_at_first program (p ∷ ps) flaw (inl h) = record { earlier = []; pass = p; later = ps; split = refl; clear = tt; first = h }
split_at_first program (p ∷ ps) flaw (inr h) =
    let s = split_at_first program ps flaw h.1 in
    record { earlier = p ∷ s.earlier; pass = s.pass; later = s.later; split = λ i. p ∷ s.split i; clear = (h.0, s.clear); first = s.first }

pub first_is_flaw : (program : Program) (flaw : ProgramFlaw) → IsFirstAmong program passes flaw → IsFirstFlaw program flaw
first_is_flaw program flaw k =
    let s = split_at_first program passes flaw k in
    record { earlier = s.earlier; pass = s.pass; later = s.later; split = s.split; clear = s.clear; first = s.first }

pub first_of_all : (program : Program) (fault : CheckFault) → TellsFlaw (IsFirstAmong program passes) fault → TellsFlaw (IsFirstFlaw program) fault
first_of_all program fault h = tells_more (IsFirstAmong program passes) (IsFirstFlaw program) (first_is_flaw program) fault h
