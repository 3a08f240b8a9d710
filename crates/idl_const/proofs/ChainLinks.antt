-- Chains of mere names, link by link: where they end, and what is worth the same along them.
use Rattle.std.proofs.Common.{◌≡◌, ℕ, zero, suc, ◌+◌, ◌≤◌, nat_le, Bool, true, false, List, slice_get, Option, Some, None, Ok, Err, refl, sym, ap, ◌∙◌, arith}
use Rattle.std.specs.Option.{option_map}
use Rattle.std.specs.Prelude.{slice_set}
use Rattle.std.proofs.lemmas.Bool.{false≢true}
use Rattle.std.proofs.lemmas.Option.{none-some, same_Some}
use Rattle.idl_token.specs.declared.Place.{Place}
use Rattle.thrift_value.specs.Tree.{Tree}
use Rattle.schema.specs.PlainKind.{PlainKind}
use Rattle.idl_include.specs.ConstExpr.{ConstExpr, int_const, double_const, literal_const, name_const, list_const, map_const}
use Rattle.idl_include.specs.ConstNames.{ConstMeaning, enum_value, given_value, const_meaning}
use Rattle.idl_include.specs.Numbering.{Filed}
use Rattle.idl_include.specs.Program.{Program}
use Rattle.idl_include.specs.Spots.{GivenValue, values_of}
use Rattle.idl_include.specs.Written.{Written}
use Rattle.check_model.specs.Worths.{Worth, valued, flawed, only_if, too_large, most_const_values, seen_at}
use Rattle.check_model.specs.Scalars.{OneWorth, enum_worth}
use Rattle.check_model.specs.Evaluation.{Setting, NamedWorth, judged, single, name_worth, worth_by, on_entering, named_worth, is_free}
use Rattle.idl_const.specs.declared.chains.ChainEnd.{ChainEnd}
use Rattle.idl_const.specs.declared.chains.ChainEnd.TheVariants as ends
use Rattle.idl_const.specs.ChainEnds.{EndRule, end_of_name, end_of_tree, end_of_given, end_within, name_place}
use Rattle.idl_const.specs.Given.{FiledTree, tree_given, tree_numbered}
use Rattle.idl_const.specs.Marks.{no_place, end_worth}

-- ---- what is seen from a place

pub seen_twice : (p at : Place) (worth : Worth Tree) → seen_at at (seen_at p worth) ≡ seen_at at worth
seen_twice p at (valued x count) = refl
seen_twice p at (flawed inside flaw) = refl

seen_judged : (p q at : Place) (count : ℕ) (worth : OneWorth) → seen_at at (judged p count worth) ≡ seen_at at (judged q count worth)
seen_judged p q at count (Ok value) = refl
seen_judged p q at count (Err flaw) = refl

seen_if : (b : Bool) (p q at : Place) (count : ℕ) (worth : OneWorth) → seen_at at (only_if b p too_large (judged p count worth)) ≡ seen_at at (only_if b q too_large (judged q count worth))
seen_if true p q at count worth = seen_judged p q at count worth
seen_if false p q at count worth = refl

-- one value looks the same wherever it stands
pub seen_single : (p q at : Place) (count : ℕ) (worth : OneWorth) → seen_at at (single p count worth) ≡ seen_at at (single q count worth)
seen_single p q at count worth = seen_if (nat_le (suc count) most_const_values) p q at (suc count) worth

own_judged : (at : Place) (count : ℕ) (worth : OneWorth) → seen_at at (judged at count worth) ≡ judged at count worth
own_judged at count (Ok value) = refl
own_judged at count (Err flaw) = refl

own_if : (b : Bool) (at : Place) (count : ℕ) (worth : OneWorth) → seen_at at (only_if b at too_large (judged at count worth)) ≡ only_if b at too_large (judged at count worth)
own_if true at count worth = own_judged at count worth
own_if false at count worth = refl

pub seen_own : (p at : Place) (count : ℕ) (worth : OneWorth) → seen_at at (single p count worth) ≡ single at count worth
seen_own p at count worth = seen_single p at at count worth ∙ own_if (nat_le (suc count) most_const_values) at (suc count) worth

own_name : (named : NamedWorth) (kind : PlainKind) (levels count : ℕ) (at : Place) (m : Option ConstMeaning) → seen_at at (name_worth named kind levels count at m) ≡ name_worth named kind levels count at m
own_name named kind levels count at None = refl
own_name named kind levels count at (Some (enum_value which n)) = own_if (nat_le (suc count) most_const_values) at (suc count) (enum_worth kind which n)
own_name named kind levels count at (Some (given_value which)) = seen_twice at at (named which kind levels count)

-- a name's faults are at the name
pub own_place : (s : Setting) (named : NamedWorth) (file : ℕ) (kind : PlainKind) (levels count : ℕ) (tree : ConstExpr) (at : Place) → Some at ≡ name_place tree
    → seen_at at (worth_by s named file kind levels count tree) ≡ worth_by s named file kind levels count tree
own_place s named file kind levels count (name_const name) at is =
    let here : at ≡ name.at = same_Some at name.at is in
    ap (λ p. seen_at p (name_worth named kind levels count name.at (const_meaning s.program file name.text))) here
    ∙ own_name named kind levels count name.at (const_meaning s.program file name.text)
own_place s named file kind levels count (int_const n p) at is = absurd (none-some at (sym is))
own_place s named file kind levels count (double_const digits) at is = absurd (none-some at (sym is))
own_place s named file kind levels count (literal_const literal) at is = absurd (none-some at (sym is))
own_place s named file kind levels count (list_const p items) at is = absurd (none-some at (sym is))
own_place s named file kind levels count (map_const p pairs) at is = absurd (none-some at (sym is))

-- ---- where chains end

grow_name : (f g : EndRule) → ((which : ℕ) (e : ChainEnd) → f which ≡ Some e → g which ≡ Some e) → (m : Option ConstMeaning) (e : ChainEnd)
    → end_of_name f m ≡ Some e → end_of_name g m ≡ Some e
grow_name f g on None e h = h
grow_name f g on (Some (enum_value which n)) e h = h
grow_name f g on (Some (given_value further)) e h = on further e h

grow_tree : (program : Program) (f g : EndRule) → ((which : ℕ) (e : ChainEnd) → f which ≡ Some e → g which ≡ Some e) → (which file : ℕ) (tree : ConstExpr) (e : ChainEnd)
    → end_of_tree program f which file tree ≡ Some e → end_of_tree program g which file tree ≡ Some e
grow_tree program f g on which file (name_const name) e h = grow_name f g on (const_meaning program file name.text) e h
grow_tree program f g on which file (int_const n at) e h = h
grow_tree program f g on which file (double_const digits) e h = h
grow_tree program f g on which file (literal_const literal) e h = h
grow_tree program f g on which file (list_const at items) e h = h
grow_tree program f g on which file (map_const at pairs) e h = h

grow_given : (program : Program) (f g : EndRule) → ((which : ℕ) (e : ChainEnd) → f which ≡ Some e → g which ≡ Some e) → (which : ℕ) (o : Option FiledTree) (e : ChainEnd)
    → end_of_given program f which o ≡ Some e → end_of_given program g which o ≡ Some e
grow_given program f g on which None e h = h
grow_given program f g on which (Some t) e h = grow_tree program f g on which t.file t.item e h

-- more values allowed, and the same end
pub grows : (program : Program) (n k which : ℕ) (e : ChainEnd) → k ≤ n → end_within program k which ≡ Some e → end_within program n which ≡ Some e
unfolding end_within
grows program n zero which e less h = absurd (none-some e h)
grows program zero (suc k) which e less h = absurd (omega (arith, less))
grows program (suc n) (suc k) which e less h =
    grow_given program (end_within program k) (end_within program n) (λ other d. grows program n k other d (omega (arith, less))) which (tree_numbered program which) e h

pub one_end : (program : Program) (j k which : ℕ) (d e : ChainEnd) → end_within program j which ≡ Some d → end_within program k which ≡ Some e → d ≡ e
one_end program j k which d e h i =
    same_Some d e (sym (grows program (j + k) j which d (omega arith) h) ∙ grows program (j + k) k which e (omega arith) i)

-- an end that is known, or none
pub data Found (o : Option ChainEnd) : Type 0 where
  not_found : o ≡ None → Found o
  found : (e : ChainEnd) → o ≡ Some e → Found o

pub found_in : (o : Option ChainEnd) → Found o
found_in None = not_found refl
found_in (Some e) = found e refl

-- the least number of values within which a chain ends
pub nearest : (program : Program) (k which : ℕ) (e : ChainEnd) → end_within program k which ≡ Some e
    → (j : ℕ) × (end_within program (suc j) which ≡ Some e) × (end_within program j which ≡ None)
unfolding end_within
nearest program zero which e h = absurd (none-some e h)
nearest program (suc k) which e h =
    elim (found_in (end_within program k which)) [
      | not_found none ↦ (k, h, none)
      | found d some ↦ nearest program k which e (some ∙ ap (λ x. Some x) (one_end program k (suc k) which d e some h))
    ]

-- ---- links

-- a given value is a mere name of another
pub record LeadsTo (s : Setting) (which further : ℕ) : Type 0 where
  pub within : (k : ℕ) → end_within s.program (suc k) which ≡ end_within s.program k further
  pub worth : (left : ℕ) (free : List Bool) → is_free free which ≡ true → (kind : PlainKind) (levels count : ℕ) (at : Place)
      → seen_at at (named_worth s (suc left) free which kind levels count) ≡ seen_at at (named_worth s left (slice_set free which false) further kind levels count)

-- its chain ends at once
pub record EndsAs (s : Setting) (which : ℕ) (e : ChainEnd) : Type 0 where
  pub within : (k : ℕ) → end_within s.program (suc k) which ≡ Some e
  pub own : (last : ℕ) → e ≡ ends.Value last → last ≡ which
  pub worth : (left : ℕ) (free : List Bool) → is_free free which ≡ true → (kind : PlainKind) (levels count : ℕ) (at : Place)
      → seen_at at (named_worth s (suc left) free which kind levels count)
      ≡ seen_at at (end_worth (λ last. on_entering s (named_worth s left (slice_set free which false)) true (slice_get (values_of s.program) last)) kind levels count (Some e))

-- one of the two, or there is no such value
pub data Linked (s : Setting) (which : ℕ) : Type 0 where
  absent : tree_numbered s.program which ≡ None → Linked s which
  leads : (further : ℕ) → LeadsTo s which further → Linked s which
  stops : (e : ChainEnd) → EndsAs s which e → Linked s which

abbrev ends_at_value : ChainEnd → Bool
ends_at_value (ends.Value which) = true
ends_at_value (ends.Number which n) = false
ends_at_value ends.Unknown = false

abbrev number_at_end : ChainEnd → ℕ
number_at_end (ends.Value which) = which
number_at_end (ends.Number which n) = 0
number_at_end ends.Unknown = 0

worth_there : (s : Setting) (which left : ℕ) (free : List Bool) → is_free free which ≡ true → (kind : PlainKind) (levels count : ℕ) (at : Place)
    → seen_at at (named_worth s (suc left) free which kind levels count)
    ≡ seen_at at (on_entering s (named_worth s left (slice_set free which false)) true (slice_get (values_of s.program) which) kind levels count)
unfolding named_worth
worth_there s which left free f kind levels count at =
    λ i. seen_at at (on_entering s (named_worth s left (slice_set free which false)) (f i) (slice_get (values_of s.program) which) kind levels count)

module _ (s : Setting) (which : ℕ) (v : Filed GivenValue) (there : slice_get (values_of s.program) which ≡ Some v) where
  within_by : (tree : ConstExpr) (k : ℕ) → v.item.tree ≡ tree → end_within s.program (suc k) which ≡ end_of_tree s.program (end_within s.program k) which v.file tree
  unfolding end_within tree_numbered
  within_by tree k is =
      ap (λ (o : Option (Filed GivenValue)). end_of_given s.program (end_within s.program k) which (option_map tree_given o)) there
      ∙ ap (λ (t : ConstExpr). end_of_tree s.program (end_within s.program k) which v.file t) is

  pub entered_by : (tree : ConstExpr) (left : ℕ) (free : List Bool) (kind : PlainKind) (levels count : ℕ) → v.item.tree ≡ tree → is_free free which ≡ true
      → named_worth s (suc left) free which kind levels count ≡ worth_by s (named_worth s left (slice_set free which false)) v.file kind levels count tree
  unfolding named_worth
  entered_by tree left free kind levels count is f =
      (λ i. on_entering s (named_worth s left (slice_set free which false)) (f i) (there i) kind levels count)
      ∙ ap (λ (t : ConstExpr). worth_by s (named_worth s left (slice_set free which false)) v.file kind levels count t) is

  name_entered : (name : Written) (m : Option ConstMeaning) (left : ℕ) (free : List Bool) (kind : PlainKind) (levels count : ℕ) → v.item.tree ≡ name_const name
      → const_meaning s.program v.file name.text ≡ m → is_free free which ≡ true
      → named_worth s (suc left) free which kind levels count ≡ name_worth (named_worth s left (slice_set free which false)) kind levels count name.at m
  name_entered name m left free kind levels count is means f =
      entered_by (name_const name) left free kind levels count is f
      ∙ ap (name_worth (named_worth s left (slice_set free which false)) kind levels count name.at) means

  linked_name : (name : Written) (m : Option ConstMeaning) → v.item.tree ≡ name_const name → const_meaning s.program v.file name.text ≡ m → Linked s which
  linked_name name None is means = stops ends.Unknown (record {
    within = λ k. within_by (name_const name) k is ∙ ap (end_of_name (end_within s.program k)) means;
    own = λ last e. absurd (false≢true (ap ends_at_value e));
    worth = λ left free f kind levels count at. ap (seen_at at) (name_entered name None left free kind levels count is means f);
  })
  linked_name name (Some (enum_value of n)) is means = stops (ends.Number of n) (record {
    within = λ k. within_by (name_const name) k is ∙ ap (end_of_name (end_within s.program k)) means;
    own = λ last e. absurd (false≢true (ap ends_at_value e));
    worth = λ left free f kind levels count at.
        ap (seen_at at) (name_entered name (Some (enum_value of n)) left free kind levels count is means f) ∙ seen_single name.at no_place at count (enum_worth kind of n);
  })
  linked_name name (Some (given_value further)) is means = leads further (record {
    within = λ k. within_by (name_const name) k is ∙ ap (end_of_name (end_within s.program k)) means;
    worth = λ left free f kind levels count at.
        ap (seen_at at) (name_entered name (Some (given_value further)) left free kind levels count is means f)
        ∙ seen_twice name.at at (named_worth s left (slice_set free which false) further kind levels count);
  })

  linked_end : (tree : ConstExpr) → v.item.tree ≡ tree → ((f : EndRule) → end_of_tree s.program f which v.file tree ≡ Some (ends.Value which)) → EndsAs s which (ends.Value which)
  linked_end tree is here = record {
    within = λ k. within_by tree k is ∙ here (end_within s.program k);
    own = λ last e. sym (ap number_at_end e);
    worth = worth_there s which;
  }

  -- what is no name ends its chain
  pub ends_here : (tree : ConstExpr) → v.item.tree ≡ tree → name_place tree ≡ None → EndsAs s which (ends.Value which)
  ends_here (name_const name) is no_name = absurd (none-some name.at (sym no_name))
  ends_here (int_const n at) is no_name = linked_end (int_const n at) is (λ f. refl)
  ends_here (double_const digits) is no_name = linked_end (double_const digits) is (λ f. refl)
  ends_here (literal_const literal) is no_name = linked_end (literal_const literal) is (λ f. refl)
  ends_here (list_const at items) is no_name = linked_end (list_const at items) is (λ f. refl)
  ends_here (map_const at pairs) is no_name = linked_end (map_const at pairs) is (λ f. refl)

  linked_tree : (tree : ConstExpr) → v.item.tree ≡ tree → Linked s which
  linked_tree (name_const name) is = linked_name name (const_meaning s.program v.file name.text) is refl
  linked_tree (int_const n at) is = stops (ends.Value which) (ends_here (int_const n at) is refl)
  linked_tree (double_const digits) is = stops (ends.Value which) (ends_here (double_const digits) is refl)
  linked_tree (literal_const literal) is = stops (ends.Value which) (ends_here (literal_const literal) is refl)
  linked_tree (list_const at items) is = stops (ends.Value which) (ends_here (list_const at items) is refl)
  linked_tree (map_const at pairs) is = stops (ends.Value which) (ends_here (map_const at pairs) is refl)

linked_by : (s : Setting) (which : ℕ) (o : Option (Filed GivenValue)) → slice_get (values_of s.program) which ≡ o → Linked s which
unfolding tree_numbered
linked_by s which None there = absent (ap (option_map tree_given) there)
linked_by s which (Some v) there = linked_tree s which v there v.item.tree refl

pub linked : (s : Setting) (which : ℕ) → Linked s which
linked s which = linked_by s which (slice_get (values_of s.program) which) refl

-- the chain of a value that isn't there doesn't end
pub absent_within : (program : Program) (k which : ℕ) → tree_numbered program which ≡ None → end_within program k which ≡ None
unfolding end_within
absent_within program zero which none = refl
absent_within program (suc k) which none = ap (end_of_given program (end_within program k) which) none
