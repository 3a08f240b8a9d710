-- One value more, or too many.
use Rattle.std.proofs.Common.{◌≡◌, ℕ, suc, ◌<◌, ◌≤◌, nat_le, Bool, true, false, Option, Some, None, Result, Ok, Err, MatchOption, sym, ap, ◌∙◌, subst, arith}
use Rattle.std.specs.Prelude.{⊤}
use Rattle.std.proofs.lemmas.Bool.Decides.{nat_tests}
use Rattle.idl_token.specs.declared.Place.{Place}
use Rattle.thrift_value.specs.Tree.{Tree}
use Rattle.thrift_value.specs.declared.value.Value.{Value}
use Rattle.thrift_value.specs.TreeOf.{tree_of}
use Rattle.check_model.specs.Worths.{ConstFlaw, Worth, valued, flawed, only_if, wrong_kind, too_large, most_const_values, one_more, one_level}
use Rattle.check_model.specs.Scalars.{OneWorth}
use Rattle.check_model.specs.Evaluation.{judged, single, opened}
use Rattle.idl_const.specs.declared.faults.ConstFault.{ConstFault}
use Rattle.idl_const.specs.Flaws.{flaw_of, IsOneWorth}

in_room : (n : ℕ) → n ≤ 4000000 → nat_le n 4000000 ≡ true
in_room n h = grind (arith, nat_tests)

past_room : (n : ℕ) → 4000000 < n → nat_le n 4000000 ≡ false
past_room n h = grind (arith, nat_tests)

-- there is room for one more
pub one_more_inside : (at : Place) (count : ℕ) → suc count ≤ 4000000 → (inside : ℕ → Worth Tree) → one_more at count inside ≡ inside (suc count)
unfolding most_const_values
one_more_inside at count h inside = ap (λ b. only_if b at too_large (inside (suc count))) (in_room (suc count) h)

-- there is none
pub one_more_past : (at : Place) (count : ℕ) → 4000000 ≤ count → (inside : ℕ → Worth Tree) → one_more at count inside ≡ flawed at too_large
unfolding most_const_values
one_more_past at count h inside = ap (λ b. only_if b at too_large (inside (suc count))) (past_room (suc count) (omega arith))

-- one value alone
pub single_is : (at : Place) (count n : ℕ) (one : Result Value ConstFault) (worth : OneWorth) (value : Value) → one ≡ Ok value → IsOneWorth worth one
    → single at count worth ≡ judged at (suc count) worth → n ≡ suc count → single at count worth ≡ valued (tree_of value) n
single_is at count n one worth value is h made more =
    let same : worth ≡ Ok (tree_of value) = subst (IsOneWorth worth) is h in
    made ∙ ap (judged at (suc count)) same ∙ ap (valued (tree_of value)) (sym more)

told_one : (at : Place) (count : ℕ) (worth : OneWorth) (o : Option ConstFlaw) → MatchOption o ⊤ (λ flaw. worth ≡ Err flaw)
    → single at count worth ≡ judged at (suc count) worth → MatchOption o ⊤ (λ flaw. single at count worth ≡ flawed at flaw)
told_one at count worth None h made = tt
told_one at count worth (Some flaw) h made = made ∙ ap (judged at (suc count)) h

pub single_stops : (at : Place) (count : ℕ) (one : Result Value ConstFault) (worth : OneWorth) (fault : ConstFault) → one ≡ Err fault → IsOneWorth worth one
    → single at count worth ≡ judged at (suc count) worth → MatchOption (flaw_of fault) ⊤ (λ flaw. single at count worth ≡ flawed at flaw)
single_stops at count one worth fault is h made = told_one at count worth (flaw_of fault) (subst (IsOneWorth worth) is h) made

-- a form that doesn't fit
pub form_refused : (at : Place) (fits : Bool) (levels count : ℕ) (inside : ℕ → ℕ → Worth Tree) → fits ≡ false
    → opened at fits levels count inside ≡ only_if fits at wrong_kind (one_level at levels (λ left. inside left (suc count)))
    → opened at fits levels count inside ≡ flawed at wrong_kind
form_refused at fits levels count inside refused made = made ∙ ap (λ b. only_if b at wrong_kind (one_level at levels (λ left. inside left (suc count)))) refused
