-- What given values are worth where one is entered, or can't be.
use Rattle.std.proofs.Common.{◌≡◌, ℕ, zero, suc, Bool, true, false, List, [], ◌∷◌, slice_get, Option, Some, None, Result, Ok, Err, refl, sym, ap, ◌∙◌, MatchOption}
use Rattle.std.specs.Option.{option_map}
use Rattle.std.specs.Prelude.{slice_set, ⊤, is_ok, OnOk}
use Rattle.std.proofs.lemmas.Bool.{false≢true}
use Rattle.idl_token.specs.declared.Place.{Place}
use Rattle.thrift_value.specs.declared.value.Value.{Value}
use Rattle.schema.specs.PlainKind.{PlainKind}
use Rattle.idl_include.specs.Numbering.{Filed}
use Rattle.idl_include.specs.Spots.{GivenValue, values_of}
use Rattle.check_model.specs.Worths.{ConstFlaw, flawed, const_cycle, seen_at}
use Rattle.check_model.specs.Evaluation.{Setting, NamedWorth, worth_by, on_entering, named_worth, is_free}
use Rattle.idl_const.specs.declared.faults.ConstStop.{ConstStop}
use Rattle.idl_const.specs.Flaws.{flaw_of, StopsAs}
use Rattle.idl_const.specs.declared.chains.ChainEnd.{ChainEnd}
use Rattle.idl_const.specs.ChainEnds.{chain_end_of}
use Rattle.idl_const.specs.Given.{FiledTree, tree_given, tree_numbered}
use Rattle.idl_const.specs.Marks.{free_count, no_place, end_worth, worth_by_end, entered_worth, entered_where, worth_where, EntersGiven}

-- one fewer is free once one is entered
pub count_entered : (free : List Bool) (which : ℕ) → is_free free which ≡ true → free_count free ≡ suc (free_count (slice_set free which false))
count_entered [] which is = absurd (false≢true is)
count_entered (true ∷ more) zero is = refl
count_entered (false ∷ more) zero is = absurd (false≢true is)
count_entered (true ∷ more) (suc which) is = ap suc (count_entered more which is)
count_entered (false ∷ more) (suc which) is = count_entered more which is

on_some : (s : Setting) (named : NamedWorth) (o : Option (Filed GivenValue)) (t : FiledTree) (kind : PlainKind) (levels count : ℕ) → option_map tree_given o ≡ Some t
    → on_entering s named true o kind levels count ≡ worth_by s named t.file kind levels count t.item
on_some s named None t kind levels count e = cc
on_some s named (Some v) t kind levels count e =
    let same : tree_given v ≡ t = cc in
    λ i. worth_by s named (same i).file kind levels count (same i).item

on_none : (s : Setting) (named : NamedWorth) (b : Bool) (o : Option (Filed GivenValue)) (kind : PlainKind) (levels count : ℕ) → option_map tree_given o ≡ None
    → on_entering s named b o kind levels count ≡ flawed (record { line = 0; column = 0 }) const_cycle
on_none s named true None kind levels count e = refl
on_none s named false None kind levels count e = refl
on_none s named b (Some v) kind levels count e = cc

on_false : (s : Setting) (named : NamedWorth) (o : Option (Filed GivenValue)) (kind : PlainKind) (levels count : ℕ)
    → on_entering s named false o kind levels count ≡ flawed (record { line = 0; column = 0 }) const_cycle
on_false s named None kind levels count = refl
on_false s named (Some v) kind levels count = refl

-- a value that is entered is worth what its tree is
pub worth_entered : (s : Setting) (free : List Bool) (which : ℕ) (t : FiledTree) (kind : PlainKind) (levels count : ℕ)
    → is_free free which ≡ true → tree_numbered s.program which ≡ Some t
    → entered_where s free which kind levels count ≡ worth_by s (worth_where s (slice_set free which false)) t.file kind levels count t.item
unfolding entered_where worth_where entered_worth tree_numbered
worth_entered s free which t kind levels count is e =
    let after = slice_set free which false in
    (λ i. entered_worth s (count_entered free which is i) free which kind levels count)
    ∙ (λ i. on_entering s (worth_by_end s (entered_worth s (free_count after) after)) (is i) (slice_get (values_of s.program) which) kind levels count)
    ∙ on_some s (worth_by_end s (entered_worth s (free_count after) after)) (slice_get (values_of s.program) which) t kind levels count e

pub cycle_by : (s : Setting) (left : ℕ) (free : List Bool) (which : ℕ) (kind : PlainKind) (levels count : ℕ) → is_free free which ≡ false
    → named_worth s left free which kind levels count ≡ flawed (record { line = 0; column = 0 }) const_cycle
unfolding named_worth
cycle_by s zero free which kind levels count is = refl
cycle_by s (suc left) free which kind levels count is =
    (λ i. on_entering s (named_worth s left (slice_set free which false)) (is i) (slice_get (values_of s.program) which) kind levels count)
    ∙ on_false s (named_worth s left (slice_set free which false)) (slice_get (values_of s.program) which) kind levels count

-- the same of one that is entered at the end of a chain
pub entered_shut : (s : Setting) (left : ℕ) (free : List Bool) (which : ℕ) (kind : PlainKind) (levels count : ℕ) → is_free free which ≡ false
    → entered_worth s left free which kind levels count ≡ flawed no_place const_cycle
unfolding entered_worth
entered_shut s zero free which kind levels count is = refl
entered_shut s (suc left) free which kind levels count is =
    let named = worth_by_end s (entered_worth s left (slice_set free which false)) in
    (λ i. on_entering s named (is i) (slice_get (values_of s.program) which) kind levels count) ∙ on_false s named (slice_get (values_of s.program) which) kind levels count

-- one that isn't free needs itself
pub worth_cycle : (s : Setting) (free : List Bool) (which : ℕ) (kind : PlainKind) (levels count : ℕ) (at : Place) → is_free free which ≡ false
    → seen_at at (entered_where s free which kind levels count) ≡ flawed at const_cycle
unfolding entered_where
worth_cycle s free which kind levels count at is = ap (seen_at at) (entered_shut s (free_count free) free which kind levels count is)

pub none_by : (s : Setting) (left : ℕ) (free : List Bool) (which : ℕ) (kind : PlainKind) (levels count : ℕ) → tree_numbered s.program which ≡ None
    → named_worth s left free which kind levels count ≡ flawed no_place const_cycle
unfolding named_worth tree_numbered
none_by s zero free which kind levels count e = refl
none_by s (suc left) free which kind levels count e =
    on_none s (named_worth s left (slice_set free which false)) (is_free free which) (slice_get (values_of s.program) which) kind levels count e

none_entered : (s : Setting) (left : ℕ) (free : List Bool) (which : ℕ) (kind : PlainKind) (levels count : ℕ) → tree_numbered s.program which ≡ None
    → entered_worth s left free which kind levels count ≡ flawed no_place const_cycle
unfolding entered_worth tree_numbered
none_entered s zero free which kind levels count e = refl
none_entered s (suc left) free which kind levels count e =
    on_none s (worth_by_end s (entered_worth s left (slice_set free which false))) (is_free free which) (slice_get (values_of s.program) which) kind levels count e

-- nor has one a worth that isn't there
pub worth_absent : (s : Setting) (free : List Bool) (which : ℕ) (kind : PlainKind) (levels count : ℕ) (at : Place) → tree_numbered s.program which ≡ None
    → seen_at at (entered_where s free which kind levels count) ≡ flawed at const_cycle
unfolding entered_where
worth_absent s free which kind levels count at e = ap (seen_at at) (none_entered s (free_count free) free which kind levels count e)

stopped_by : (s : Setting) (free : List Bool) (which : ℕ) (kind : PlainKind) (levels count : ℕ) (at found : Place) (o : Option ConstFlaw)
    → MatchOption o ⊤ (λ flaw. (found ≡ at) × (flaw ≡ const_cycle) × (is_free free which ≡ false))
    → MatchOption o ⊤ (λ flaw. seen_at at (entered_where s free which kind levels count) ≡ flawed found flaw)
stopped_by s free which kind levels count at found None h = tt
stopped_by s free which kind levels count at found (Some flaw) h =
    worth_cycle s free which kind levels count at h.2 ∙ (λ i. flawed (sym h.0 i) (sym h.1 i))

-- what can't be entered
pub refused : (s : Setting) (free after : List Bool) (which : ℕ) (kind : PlainKind) (levels count : ℕ) (at : Place) (stop : ConstStop) → EntersGiven which at (Err stop) free after
    → StopsAs stop (seen_at at (entered_where s free which kind levels count))
refused s free after which kind levels count at stop h = stopped_by s free which kind levels count at stop.at (flaw_of stop.fault) h

pub set_back : (free : List Bool) (which : ℕ) → is_free free which ≡ true → slice_set (slice_set free which false) which true ≡ free
set_back [] which is = refl
set_back (true ∷ more) zero is = refl
set_back (false ∷ more) zero is = absurd (false≢true is)
set_back (b ∷ more) (suc which) is = ap (λ l. b ∷ l) (set_back more which is)

-- what holds where something was made holds where that is told
pub told_too : {A B E F : Type 0} (P : Type 0) (made : Result A E) (result : Result B F) → is_ok result ≡ is_ok made → OnOk made P → OnOk result P
told_too P (Ok value) (Ok other) same h = h
told_too P (Err stop) (Ok other) same h = absurd (false≢true (sym same))
told_too P made (Err stop) same h = tt

-- what is left again
pub left_again : (made result : Result Value ConstStop) (free inside behind back : List Bool) (which : ℕ) → is_ok result ≡ is_ok made → is_free free which ≡ true
    → inside ≡ slice_set free which false → OnOk made (behind ≡ inside) → back ≡ slice_set behind which true → OnOk result (back ≡ free)
left_again (Ok value) (Ok other) free inside behind back which same is entered still left =
    left ∙ ap (λ l. slice_set l which true) (still ∙ entered) ∙ set_back free which is
left_again (Err stop) (Ok other) free inside behind back which same is entered still left = absurd (false≢true (sym same))
left_again made (Err stop) free inside behind back which same is entered still left = tt

-- what stands at the end of a chain
pub ended_at : (s : Setting) (free : List Bool) (which : ℕ) (o : Option ChainEnd) (kind : PlainKind) (levels count : ℕ) → o ≡ chain_end_of s.program which
    → worth_where s free which kind levels count ≡ end_worth (entered_where s free) kind levels count o
unfolding worth_where
ended_at s free which o kind levels count is = λ i. end_worth (entered_where s free) kind levels count (sym is i)
