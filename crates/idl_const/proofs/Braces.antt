-- What stands in braces.
use Rattle.std.proofs.Common.{◌≡◌, ℕ, Bool, true, false, List, map, Result, sym, ap, ◌∙◌, subst, rules, Vec, Global}
use Rattle.idl_token.specs.declared.Place.{Place}
use Rattle.thrift_value.specs.declared.value.Value.{Value}
use Rattle.thrift_value.specs.Tree.{Tree, FieldTrees, of_struct}
use Rattle.thrift_value.specs.TreeOf.{tree_of}
use Rattle.idl_parser.specs.declared.tree.ConstTree.{ConstTree}
use Rattle.idl_parser.specs.declared.tree.ConstTree as of
use Rattle.idl_parser.specs.declared.tree.ConstTree.TheFolds.{the_lemmas}
use Rattle.idl_include.specs.ConstExpr.{ConstEntries, list_const, map_const}
use Rattle.idl_include.specs.DeclaredIn.{value_in, items_in, entries_in}
use Rattle.schema.specs.PlainKind.{PlainKind, kind_struct}
use Rattle.check_model.specs.Worths.{Worth, valued, and_next}
use Rattle.check_model.specs.Evaluation.{Setting, NamedWorth, worth_by, pairs_by, given_by, opened, takes_braces, braced, struct_numbered, made_fields, default_of}
use Rattle.idl_const.specs.declared.faults.ConstStop.{ConstStop}
use Rattle.idl_const.specs.Flaws.{AnswersWorth}
use Rattle.idl_const.specs.Given.{both_in}
use Rattle.idl_const.specs.Marks.{worth_where}

pub map_is : (tree : ConstTree) (at : Place) (entries : Vec (ConstTree × ConstTree) Global) → tree ≡ of.Map at entries → value_in tree ≡ map_const at (entries_in (map both_in entries.items))
map_is tree at entries is = ap value_in is ∙ search (rules, the_lemmas)

pub list_is : (tree : ConstTree) (at : Place) (items : Vec ConstTree Global) → tree ≡ of.List at items → value_in tree ≡ list_const at (items_in (map value_in items.items))
list_is tree at items is = ap value_in is ∙ search (rules, the_lemmas)

module _ (s : Setting) (named : NamedWorth) (file levels count : ℕ) (at : Place) (entries : ConstEntries) where
  -- what is made of what stands in braces, by the type
  abbrev inside : PlainKind → ℕ → ℕ → Worth Tree
  inside kind left n =
      braced kind (λ key value. pairs_by s named file key value left n entries) (λ which.
      and_next (given_by s named file (struct_numbered s.schema which).fields left n entries) (λ given m.
      made_fields named (default_of s.program which) at left (struct_numbered s.schema which).kind (struct_numbered s.schema which).fields given m))

  -- a type that takes no braces
  pub unfit_worth : (kind : PlainKind) (r : Result Value ConstStop) (n : ℕ) → takes_braces kind ≡ false
      → ((inner : ℕ → ℕ → Worth Tree) → AnswersWorth tree_of r n (opened at false levels count inner)) → AnswersWorth tree_of r n (worth_by s named file kind levels count (map_const at entries))
  unfit_worth kind r n takes h = subst (λ b. AnswersWorth tree_of r n (opened at b levels count (inside kind))) (sym takes) (h (inside kind))

  -- a struct whose fields were made
  pub struct_worth : (which left n m : ℕ) (fields : FieldTrees) (value : Value)
      → ((inner : ℕ → ℕ → Worth Tree) → opened at true levels count inner ≡ inner left n)
      → and_next (given_by s named file (struct_numbered s.schema which).fields left n entries) (λ given m.
      made_fields named (default_of s.program which) at left (struct_numbered s.schema which).kind (struct_numbered s.schema which).fields given m) ≡ valued fields m
      → tree_of value ≡ of_struct fields → worth_by s named file (kind_struct which) levels count (map_const at entries) ≡ valued (tree_of value) m
  struct_worth which left n m fields value opening made is =
      opening (inside (kind_struct which)) ∙ ap (λ w. and_next w (λ made n. valued (of_struct made) n)) made ∙ ap (λ t. valued t m) (sym is)

-- the same where the fields were made under marks that are these
pub struct_where : (s : Setting) (free after : List Bool) (file levels count : ℕ) (at : Place) (entries : ConstEntries) (which left n m : ℕ) (fields : FieldTrees) (value : Value)
    → after ≡ free → ((inner : ℕ → ℕ → Worth Tree) → opened at true levels count inner ≡ inner left n)
    → and_next (given_by s (worth_where s after) file (struct_numbered s.schema which).fields left n entries) (λ given m.
    made_fields (worth_where s after) (default_of s.program which) at left (struct_numbered s.schema which).kind (struct_numbered s.schema which).fields given m) ≡ valued fields m
    → tree_of value ≡ of_struct fields → worth_by s (worth_where s free) file (kind_struct which) levels count (map_const at entries) ≡ valued (tree_of value) m
struct_where s free after file levels count at entries which left n m fields value same opening made is =
    struct_worth s (worth_where s free) file levels count at entries which left n m fields value opening
    (subst (λ f. and_next (given_by s (worth_where s f) file (struct_numbered s.schema which).fields left n entries) (λ given m.
    made_fields (worth_where s f) (default_of s.program which) at left (struct_numbered s.schema which).kind (struct_numbered s.schema which).fields given m) ≡ valued fields m) same made)
    is
