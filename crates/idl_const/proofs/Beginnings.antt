-- What evaluating comes to from its beginning, where of each chain the end alone is entered.
use Rattle.std.proofs.Common.{◌≡◌, ℕ, zero, suc, ◌≤◌, Bool, true, false, List, length, slice_get, Option, Some, None, refl, sym, ap, ◌∙◌, arith}
use Rattle.std.specs.Option.{option_map}
use Rattle.std.specs.Prelude.{slice_set}
use Rattle.std.proofs.Math.ListN.{length-set}
use Rattle.std.proofs.lemmas.Option.{none-some, same_Some}
use Rattle.idl_token.specs.declared.Place.{Place}
use Rattle.schema.specs.PlainKind.{PlainKind}
use Rattle.idl_include.specs.Numbering.{Filed}
use Rattle.idl_include.specs.Spots.{GivenValue, values_of}
use Rattle.check_model.specs.Worths.{most_const_levels, seen_at}
use Rattle.check_model.specs.Evaluation.{Setting, worth_by, named_worth, is_free, all_free, given_worth}
use Rattle.idl_const.specs.declared.chains.ChainEnd.{ChainEnd}
use Rattle.idl_const.specs.declared.chains.ChainEnd.TheVariants as ends
use Rattle.idl_const.specs.ChainEnds.{end_within, name_place}
use Rattle.idl_const.specs.Given.{FiledTree, tree_given, tree_numbered}
use Rattle.idl_const.specs.Marks.{free_count, worth_by_end, entered_worth, entered_where, worth_where}
use Rattle.idl_const.proofs.AllFree.{count_all}
use Rattle.idl_const.proofs.Entering.{count_entered}
use Rattle.idl_const.proofs.Fuel.{enough, count_le, marks_length, given_free}
use Rattle.idl_const.proofs.SeenAlike.{worth_alike}
use Rattle.idl_const.proofs.ChainLinks.{own_place, entered_by, ends_here, absent_within, EndsAs}
use Rattle.idl_const.proofs.ByEnds.{IsFreeFor, Agrees, by_ends, still_clear, shut_itself}

-- where all are free
free_by : (s : Setting) (k which : ℕ) (e : ChainEnd) (o : Option FiledTree) → tree_numbered s.program which ≡ o → end_within s.program k which ≡ Some e → is_free (all_free s.program) which ≡ true
unfolding tree_numbered
free_by s k which e None none h = absurd (none-some e (sym (absent_within s.program k which none) ∙ h))
free_by s k which e (Some t) some h = given_free (values_of s.program) which t some

all_clear : (s : Setting) (k which : ℕ) (e : ChainEnd) → end_within s.program k which ≡ Some e → IsFreeFor s (all_free s.program) k which
all_clear s zero which e h = tt
all_clear s (suc k) which e h = (
  free_by s (suc k) which e (tree_numbered s.program which) refl h,
  λ n l. all_clear s k n e (sym (l.within k) ∙ h),
)

all_agree : (s : Setting) → Agrees s (all_free s.program) (all_free s.program)
all_agree s = record {
  shut = λ which h. h;
  clear = λ k which e h unshut. all_clear s k which e h;
  few = omega (arith, count_all (values_of s.program));
}

-- where one that is no name isn't
one_agrees : (s : Setting) (which : ℕ) → EndsAs s which (ends.Value which) → Agrees s (slice_set (all_free s.program) which false) (slice_set (all_free s.program) which false)
one_agrees s which l =
    let marks = slice_set (all_free s.program) which false in
    record {
      shut = λ other h. h;
      clear = still_clear s (all_free s.program) marks which which 1 (shut_itself (all_free s.program) which) (l.within 0) (λ k other e h unshut. all_clear s k other e h);
      few = omega (arith, count_le marks, length-set (all_free s.program) which false, marks_length (values_of s.program));
    }

tree_is : (s : Setting) (which : ℕ) (v : Filed GivenValue) (t : FiledTree) → tree_numbered s.program which ≡ Some t → slice_get (values_of s.program) which ≡ Some v → t ≡ tree_given v
unfolding tree_numbered
tree_is s which v t tree given = same_Some t (tree_given v) (sym tree ∙ ap (option_map tree_given) given)

module _ (s : Setting) (which : ℕ) (kind : PlainKind) (v : Filed GivenValue) (t : FiledTree) (tree : tree_numbered s.program which ≡ Some t) (given : slice_get (values_of s.program) which ≡ Some v) where
  -- a given value that is no name, under evaluation itself
  pub itself_is : (free : List Bool) → name_place t.item ≡ None → free ≡ slice_set (all_free s.program) which false
      → worth_by s (worth_where s free) t.file kind 64 0 t.item ≡ given_worth s which kind v
  unfolding given_worth worth_where entered_where most_const_levels
  itself_is free no_name is =
      let after = slice_set (all_free s.program) which false in
      let same : t ≡ tree_given v = tree_is s which v t tree given in
      let here : EndsAs s which (ends.Value which) = ends_here s which v given v.item.tree refl (ap (λ (u : FiledTree). name_place u.item) (sym same) ∙ no_name) in
      (λ i. worth_by s (worth_where s (is i)) (same i).file kind 64 0 (same i).item)
      ∙ sym (worth_alike s (named_worth s (length (values_of s.program)) after) (worth_by_end s (entered_worth s (free_count after) after))
      (by_ends s (free_count after) (length (values_of s.program)) after after (one_agrees s which here) ((one_agrees s which here).few) (omega arith)) v.file kind 64 0 v.item.tree)

  free_there : is_free (all_free s.program) which ≡ true
  unfolding tree_numbered
  free_there = given_free (values_of s.program) which t tree

  given_by_all : (at : Place) → seen_at at (named_worth s (suc (free_count (slice_set (all_free s.program) which false))) (all_free s.program) which kind 64 0) ≡ seen_at at (given_worth s which kind v)
  unfolding given_worth most_const_levels
  given_by_all at =
      let after = slice_set (all_free s.program) which false in
      let few : free_count after ≤ length (values_of s.program) = omega (arith, count_le after, length-set (all_free s.program) which false, marks_length (values_of s.program)) in
      ap (seen_at at) (entered_by s which v given v.item.tree (free_count after) (all_free s.program) kind 64 0 refl free_there
      ∙ (λ i. worth_by s (λ w k l c. sym (enough s (free_count after) (length (values_of s.program)) after w k l c refl few) i) v.file kind 64 0 v.item.tree))

  own_given : (at : Place) → Some at ≡ name_place v.item.tree → seen_at at (given_worth s which kind v) ≡ given_worth s which kind v
  unfolding given_worth most_const_levels
  own_given at is = own_place s (named_worth s (length (values_of s.program)) (slice_set (all_free s.program) which false)) v.file kind 64 0 v.item.tree at is

  -- one that is a mere name
  pub named_is : (free : List Bool) (at : Place) → Some at ≡ name_place t.item → free ≡ all_free s.program
      → seen_at at (worth_where s free which kind 64 0) ≡ given_worth s which kind v
  unfolding worth_where entered_where
  named_is free at name is =
      let all = all_free s.program in
      let after = slice_set all which false in
      let free_one : free_count all ≡ suc (free_count after) = count_entered all which free_there in
      ap (λ (f : List Bool). seen_at at (worth_where s f which kind 64 0)) is
      ∙ sym (by_ends s (free_count all) (suc (free_count after)) all all (all_agree s) (omega (arith, free_one)) (omega arith) which kind 64 0 at)
      ∙ given_by_all at
      ∙ own_given at (name ∙ ap (λ (u : FiledTree). name_place u.item) (tree_is s which v t tree given))
