-- The first spot at which a pass finds a fault.
use Rattle.std.proofs.Common.{◌≡◌, ◌≤◌, ◌<◌, ◌+◌, ℕ, zero, suc, Bool, true, false, inl, List, [], ◌∷◌, ◌++◌, length, get_or, take, drop, Option, Some, refl, ap, sym, subst, ◌∙◌, arith, true≢false}
use Rattle.std.specs.Prelude.{◌↔◌, IsTrue, ⊤, MatchOption}
use Rattle.std.specs.Option.{option_map}
use Rattle.std.specs.List.{AllByRecursion}
use Rattle.std.proofs.lemmas.List.{map-append, take_more}
use Rattle.idl_token.specs.declared.Place.{Place}
use Rattle.idl_include.specs.Program.{Program}
use Rattle.idl_include.specs.Spots.{Spot, spots_of}
use Rattle.idl_names.specs.declared.spot.SpotIn.{SpotIn}
use Rattle.idl_names.specs.SpotsIn.{shown_in, spot_in, spots_in}
use Rattle.check_model.specs.Passes.{Pass, bad_constant, FindsFault, place_shown}
use Rattle.check_model.specs.FirstFlaw.{FlawKind, found_by, ProgramFlaw, IsAtFault, IsClearAt}
use Rattle.check_passes.specs.declared.faults.CheckKind.{CheckKind}
use Rattle.check_passes.specs.declared.faults.CheckKind.TheVariants as check
use Rattle.check_passes.specs.Faults.{spot_pass, flaw_told, TellsFlaw}
use Rattle.check_passes.specs.Passed.{IsFirstAmong}

-- ---- lists

pub all_behind : {A : Type 0} (P : A → Type 0) (xs : List A) (x : A) → AllByRecursion P xs → P x → AllByRecursion P (xs ++ x ∷ [])
all_behind P [] x h p = (p, tt)
all_behind P (y ∷ xs) x h p = (h.0, all_behind P xs x h.1 p)

pub split_here : {A : Type 0} (xs : List A) (i : ℕ) (x : A) → i < length xs → x ≡ get_or xs i x → xs ≡ take i xs ++ x ∷ drop (suc i) xs
split_here [] i x l e = absurd (omega arith)
split_here (y ∷ xs) zero x l e = λ j. sym e j ∷ xs
split_here (y ∷ xs) (suc i) x l e = λ j. y ∷ split_here xs i x (omega arith) e j

pub whole : {A : Type 0} (xs : List A) (n : ℕ) → length xs ≤ n → take n xs ≡ xs
whole [] zero l = refl
whole [] (suc n) l = refl
whole (x ∷ xs) zero l = absurd (omega arith)
whole (x ∷ xs) (suc n) l = λ j. x ∷ whole xs n (omega arith) j

-- ---- passes over spots

-- the pass isn't the one over values
OnSpots : Option Pass → Type 0
OnSpots (Some bad_constant) = ⊥
OnSpots _ = ⊤

on_spots : (kind : CheckKind) → OnSpots (spot_pass kind)
unfolding OnSpots
on_spots check.DottedName = tt
on_spots check.DuplicateName = tt
on_spots check.UnknownType = tt
on_spots check.TypedefCycle = tt
on_spots check.FieldId = tt
on_spots check.DuplicateId = tt
on_spots check.EnumValue = tt
on_spots check.ServiceCycle = tt
on_spots check.DuplicateFunction = tt
on_spots check.OnewayNotVoid = tt
on_spots check.OnewayThrows = tt
on_spots check.NotException = tt
on_spots check.StructLoop = tt
on_spots (check.Const fault) = tt
on_spots check.NoMemory = tt

pub kind_told : (kind : CheckKind) (pass : Pass) → spot_pass kind ≡ Some pass → flaw_told kind ≡ Some (found_by pass)
kind_told (check.Const fault) pass e = cc
kind_told kind pass e = ap (option_map found_by) e

clear : (program : Program) (pass : Pass) (spot : Spot) → OnSpots (Some pass) → (FindsFault pass program spot.file spot.shows → ⊥) → IsClearAt program pass spot
unfolding OnSpots
clear program bad_constant spot o none flaw h = absurd o
clear program pass spot o none flaw h = none h.0

at_fault : (program : Program) (pass : Pass) (spot : Spot) → FindsFault pass program spot.file spot.shows
    → IsAtFault pass program spot (record { file = spot.file; at = place_shown spot.shows; kind = found_by pass })
at_fault program bad_constant spot h = absurd h
at_fault program pass spot h = (h, refl)

-- ---- a walk over spots

-- a pass finds nothing at the first of these spots
abbrev pub AreClear : Program → Pass → List SpotIn → ℕ → Type 0
AreClear program pass spots count = AllByRecursion (IsClearAt program pass) (spots_in (take count spots))

pub clear_next : (program : Program) (pass : Pass) (kind : CheckKind) (spots : List SpotIn) (i : ℕ) (x : SpotIn) (b : Bool) → spot_pass kind ≡ Some pass
    → i < length spots → x ≡ get_or spots i x → (IsTrue b ↔ FindsFault pass program x.file (shown_in x.shown)) → b ≡ false
    → AreClear program pass spots i → AreClear program pass spots (i + 1)
clear_next program pass kind spots i x b told l here tells failed before =
    let some : OnSpots (Some pass) = subst OnSpots told (on_spots kind) in
    let here_clear : IsClearAt program pass (spot_in x) = clear program pass (spot_in x) some (λ h. true≢false (sym (tells.1 h) ∙ failed)) in
    let shown : spots_in (take (i + 1) spots) ≡ spots_in (take i spots) ++ spot_in x ∷ [] =
    ap spots_in (take_more spots i x l ∙ ap (λ (y : SpotIn). take i spots ++ y ∷ []) (sym here)) ∙ map-append spot_in (take i spots) (x ∷ []) in
    subst (AllByRecursion (IsClearAt program pass)) (sym shown) (all_behind (IsClearAt program pass) (spots_in (take i spots)) (spot_in x) before here_clear)

pub tells : (P : ProgramFlaw → Type 0) (file : ℕ) (at : Place) (kind : CheckKind) (k : FlawKind) → flaw_told kind ≡ Some k → P (record { file = file; at = at; kind = k })
    → TellsFlaw P (record { file = file; at = at; kind = kind })
tells P file at kind k e h =
    let Q : Option FlawKind → Type 0 = λ o. MatchOption o (kind ≡ check.NoMemory) (λ k. P (record { file = file; at = at; kind = k })) in
    subst Q (sym e) h

pub found_here : (program : Program) (pass : Pass) (kind : CheckKind) (spots : List SpotIn) (i : ℕ) (x : SpotIn) (at : Place) (b : Bool) → spot_pass kind ≡ Some pass
    → i < length spots → x ≡ get_or spots i x → (IsTrue b ↔ FindsFault pass program x.file (shown_in x.shown)) → b ≡ true → at ≡ place_shown (shown_in x.shown)
    → spots_in spots ≡ spots_of program → AreClear program pass spots i
    → TellsFlaw (IsFirstAmong program (pass ∷ [])) (record { file = x.file; at = at; kind = kind })
found_here program pass kind spots i x at b told l here finds held placed whole before =
    let flaw : ProgramFlaw = record { file = x.file; at = at; kind = found_by pass } in
    let fault : IsAtFault pass program (spot_in x) flaw =
    subst (λ (a : Place). IsAtFault pass program (spot_in x) (record { file = x.file; at = a; kind = found_by pass })) (sym placed) (at_fault program pass (spot_in x) (finds.0 held)) in
    tells (IsFirstAmong program (pass ∷ [])) x.file at kind (found_by pass) (kind_told kind pass told)
    (inl (record {
      before = spots_in (take i spots);
      spot = spot_in x;
      after = spots_in (drop (suc i) spots);
      split = sym whole ∙ ap spots_in (split_here spots i x l here) ∙ map-append spot_in (take i spots) (x ∷ drop (suc i) spots);
      clear = before;
      here = fault;
    }))
