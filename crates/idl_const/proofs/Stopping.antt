-- What a fault in a part of a value makes of the whole.
use Rattle.std.proofs.Common.{◌≡◌, ℕ, ◌+◌, ◌<◌, List, ◌∷◌, map, length, get_or, drop, Option, Some, None, MatchOption, Result, Ok, Err, MatchResult, Bool, true, sym, ap, ◌∙◌, subst}
use Rattle.std.specs.Prelude.{⊤}
use Rattle.idl_token.specs.declared.Place.{Place}
use Rattle.thrift_value.specs.declared.value.Value.{Value}
use Rattle.thrift_value.specs.Tree.{Tree, ItemTrees, PairTrees, FieldTrees, pair, of_map, of_struct}
use Rattle.thrift_value.specs.TreeOf.{tree_of, pair_tree}
use Rattle.idl_parser.specs.declared.tree.ConstTree.{ConstTree}
use Rattle.idl_include.specs.ConstExpr.{ConstItems, ConstEntries, list_const, map_const}
use Rattle.idl_include.specs.DeclaredIn.{value_in, items_in, entries_in}
use Rattle.schema.specs.PlainKind.{PlainKind, kind_struct, kind_map}
use Rattle.schema.specs.PlainSchema.{PlainField}
use Rattle.check_model.specs.Worths.{ConstFlaw, Worth, valued, flawed, and_next}
use Rattle.check_model.specs.TidyRows.{tidy_pairs}
use Rattle.check_model.specs.Evaluation.{Setting, NamedWorth, FieldValue, worth_by, items_by, pairs_by, given_by, field_of_key, opened, takes_brackets, element_kind, kind_tag, row_tree, struct_numbered, made_fields, default_of}
use Rattle.idl_const.specs.declared.faults.ConstFault.TheVariants as fault
use Rattle.idl_const.specs.declared.faults.ConstStop.{ConstStop}
use Rattle.idl_const.specs.Flaws.{flaw_of, StopsAs, AnswersWorth}
use Rattle.idl_const.specs.Given.{both_in}
use Rattle.idl_const.specs.Marks.{worth_where}
use Rattle.idl_const.proofs.InFront.{items_front, pairs_front, given_front, rest_is}

flawed_next : {A B : Type 0} (o : Option ConstFlaw) (at : Place) (w : Worth A) (next : A → ℕ → Worth B)
    → MatchOption o ⊤ (λ flaw. w ≡ flawed at flaw) → MatchOption o ⊤ (λ flaw. and_next w next ≡ flawed at flaw)
flawed_next None at w next h = tt
flawed_next (Some flaw) at w next h = ap (λ z. and_next z next) h

-- a fault of the first part stops what follows
pub stops_next : {A B : Type 0} (stop : ConstStop) (w : Worth A) (next : A → ℕ → Worth B) → StopsAs stop w → StopsAs stop (and_next w next)
stops_next stop w next h = flawed_next (flaw_of stop.fault) stop.at w next h

-- want of memory says nothing
pub says_nothing : {A : Type 0} (stop : ConstStop) (w : Worth A) → stop.fault ≡ fault.NoMemory → StopsAs stop w
says_nothing stop w is = subst (λ f. MatchOption (flaw_of f) ⊤ (λ flaw. w ≡ flawed stop.at flaw)) (sym is) tt

abbrev pub KeptOrNot : ConstStop → Result ⊤ ConstStop
KeptOrNot stop = Err stop

pub same_stop : (stop other : ConstStop) → KeptOrNot stop ≡ Err other → other ≡ stop
same_stop stop other e = cc

-- the last part wasn't made or kept
pub not_kept : {A : Type 0} (r : Result Value ConstStop) (stop : ConstStop) (m : ℕ) (part : Worth Tree) (all : Worth A) → AnswersWorth tree_of r m part
    → MatchResult r (λ v. ⊤ × (stop.fault ≡ fault.NoMemory)) (λ other. KeptOrNot stop ≡ Err other) → (StopsAs stop part → StopsAs stop all) → StopsAs stop all
not_kept (Ok v) stop m part all made kept more = says_nothing stop all kept.1
not_kept (Err other) stop m part all made kept more = more (subst (λ x. StopsAs x part) (same_stop stop other kept) made)

module _ (s : Setting) (named : NamedWorth) (file levels i n : ℕ) (stop : ConstStop) where
  pub item_stops : (kind : PlainKind) (trees : List ConstTree) (x : ConstTree) (xs : List Value) (all : Worth ItemTrees) → i < length trees → x ≡ get_or trees i x
      → items_front (map tree_of xs) (items_by s named file kind levels n (items_in (map value_in (drop i trees)))) ≡ all
      → StopsAs stop (worth_by s named file kind levels n (value_in x)) → StopsAs stop all
  item_stops kind trees x xs all inside is made h =
      subst (StopsAs stop) made
      (stops_next stop (items_by s named file kind levels n (items_in (map value_in (drop i trees)))) _
      (subst (λ ts. StopsAs stop (items_by s named file kind levels n (items_in (map value_in ts)))) (sym (rest_is trees i x inside is))
      (stops_next stop (worth_by s named file kind levels n (value_in x)) _ h)))

  module _ (key held : PlainKind) (entries : List (ConstTree × ConstTree)) (p : ConstTree × ConstTree) (xs : List (Value × Value)) (all : Worth PairTrees)
      (inside : i < length entries) (is : p ≡ get_or entries i p) (made : pairs_front (map pair_tree xs) (pairs_by s named file key held levels n (entries_in (map both_in (drop i entries)))) ≡ all) where
    pair_stops : StopsAs stop (pairs_by s named file key held levels n (entries_in (map both_in (p ∷ drop (i + 1) entries)))) → StopsAs stop all
    pair_stops h =
        subst (StopsAs stop) made
        (stops_next stop (pairs_by s named file key held levels n (entries_in (map both_in (drop i entries)))) _
        (subst (λ es. StopsAs stop (pairs_by s named file key held levels n (entries_in (map both_in es)))) (sym (rest_is entries i p inside is)) h))

    pub first_stops : StopsAs stop (worth_by s named file key levels n (value_in p.0)) → StopsAs stop all
    first_stops h = pair_stops (stops_next stop (worth_by s named file key levels n (value_in p.0)) _ h)

    pub second_stops : (k : Tree) (m : ℕ) → worth_by s named file key levels n (value_in p.0) ≡ valued k m → StopsAs stop (worth_by s named file held levels m (value_in p.1)) → StopsAs stop all
    second_stops k m first h =
        pair_stops
        (subst (λ w. StopsAs stop (and_next w (λ first m. and_next (worth_by s named file held levels m (value_in p.1)) (λ second o. and_next (pairs_by s named file key held levels o (entries_in (map both_in (drop (i + 1) entries)))) (λ rest o. valued (pair first second rest) o))))) (sym first)
        (stops_next stop (worth_by s named file held levels m (value_in p.1)) _ h))

  module _ (items : List PlainField) (entries : List (ConstTree × ConstTree)) (p : ConstTree × ConstTree) (xs : List FieldValue) (all : Worth (List FieldValue))
      (inside : i < length entries) (is : p ≡ get_or entries i p) (made : given_front xs (given_by s named file items levels n (entries_in (map both_in (drop i entries)))) ≡ all) where
    given_stops : StopsAs stop (given_by s named file items levels n (entries_in (map both_in (p ∷ drop (i + 1) entries)))) → StopsAs stop all
    given_stops h =
        subst (StopsAs stop) made
        (stops_next stop (given_by s named file items levels n (entries_in (map both_in (drop i entries)))) _
        (subst (λ es. StopsAs stop (given_by s named file items levels n (entries_in (map both_in es)))) (sym (rest_is entries i p inside is)) h))

    pub key_stops : StopsAs stop (field_of_key items n (value_in p.0)) → StopsAs stop all
    key_stops h = given_stops (stops_next stop (field_of_key items n (value_in p.0)) _ h)

    pub field_stops : (f : PlainField) → field_of_key items n (value_in p.0) ≡ valued f n → StopsAs stop (worth_by s named file f.kind levels n (value_in p.1)) → StopsAs stop all
    field_stops f key h =
        given_stops
        (subst (λ w. StopsAs stop (and_next w (λ (f : PlainField) (n : ℕ). and_next (worth_by s named file f.kind levels n (value_in p.1)) (λ value m. and_next (given_by s named file items levels m (entries_in (map both_in (drop (i + 1) entries)))) (λ rest o. valued (record { id = f.id; value = value } ∷ rest) o))))) (sym key)
        (stops_next stop (worth_by s named file f.kind levels n (value_in p.1)) _ h))

-- what containers are made of
abbrev list_of : PlainKind → ItemTrees → ℕ → Worth Tree
list_of kind made m = valued (row_tree kind made) m

abbrev map_of : PlainKind → PlainKind → PairTrees → ℕ → Worth Tree
map_of key held made m = valued (of_map (kind_tag key) (kind_tag held) (tidy_pairs made)) m

abbrev struct_of : FieldTrees → ℕ → Worth Tree
struct_of made m = valued (of_struct made) m

abbrev fields_by : Setting → NamedWorth → ℕ → Place → ConstEntries → ℕ → ℕ → ℕ → Worth FieldTrees
fields_by s named file at entries which left n =
    and_next (given_by s named file (struct_numbered s.schema which).fields left n entries) (λ given m.
    made_fields named (default_of s.program which) at left (struct_numbered s.schema which).kind (struct_numbered s.schema which).fields given m)

-- a container that isn't opened
module _ (s : Setting) (named : NamedWorth) (file levels count : ℕ) (at : Place) (stop : ConstStop) where
  pub list_refused : (items : ConstItems) (kind : PlainKind) (fits : Bool) → fits ≡ takes_brackets kind → ((inside : ℕ → ℕ → Worth Tree) → StopsAs stop (opened at fits levels count inside))
      → StopsAs stop (worth_by s named file kind levels count (list_const at items))
  list_refused items kind fits form h =
      let inside : ℕ → ℕ → Worth Tree = λ left n. and_next (items_by s named file (element_kind kind) left n items) (list_of kind) in
      subst (λ b. StopsAs stop (opened at b levels count inside)) form (h inside)

  module _ (entries : ConstEntries) (h : (inside : ℕ → ℕ → Worth Tree) → StopsAs stop (opened at true levels count inside)) where
    pub map_refused : (key held : PlainKind) → StopsAs stop (worth_by s named file (kind_map key held) levels count (map_const at entries))
    map_refused key held = h (λ left n. and_next (pairs_by s named file key held left n entries) (map_of key held))

    pub struct_refused : (which : ℕ) → StopsAs stop (worth_by s named file (kind_struct which) levels count (map_const at entries))
    struct_refused which = h (λ left n. and_next (fields_by s named file at entries which left n) struct_of)

-- what is made where a container was opened, under marks that are these
module _ (s : Setting) (free after : List Bool) (file levels count left n : ℕ) (at : Place) (same : after ≡ free) where
  module _ (items : ConstItems) (kind element : PlainKind) (fits : Bool) (form : fits ≡ takes_brackets kind) (of : element ≡ element_kind kind)
      (opening : (inside : ℕ → ℕ → Worth Tree) → opened at fits levels count inside ≡ inside left n) where
    list_is : worth_by s (worth_where s free) file kind levels count (list_const at items)
        ≡ and_next (items_by s (worth_where s after) file element left n items) (list_of kind)
    list_is =
        (λ j. opened at (sym form j) levels count (λ left n. and_next (items_by s (worth_where s free) file (element_kind kind) left n items) (list_of kind)))
        ∙ opening (λ left n. and_next (items_by s (worth_where s free) file (element_kind kind) left n items) (list_of kind))
        ∙ (λ j. and_next (items_by s (worth_where s (sym same j)) file (sym of j) left n items) (list_of kind))

    pub list_stops : (stop : ConstStop) → StopsAs stop (items_by s (worth_where s after) file element left n items)
        → StopsAs stop (worth_by s (worth_where s free) file kind levels count (list_const at items))
    list_stops stop h = subst (StopsAs stop) (sym list_is) (stops_next stop (items_by s (worth_where s after) file element left n items) _ h)

    pub list_made : (m : ℕ) (made : ItemTrees) (tree : Tree) → items_by s (worth_where s after) file element left n items ≡ valued made m → tree ≡ row_tree kind made
        → worth_by s (worth_where s free) file kind levels count (list_const at items) ≡ valued tree m
    list_made m made tree h is = list_is ∙ ap (λ w. and_next w (list_of kind)) h ∙ ap (λ t. valued t m) (sym is)

  module _ (entries : ConstEntries) (opening : (inside : ℕ → ℕ → Worth Tree) → opened at true levels count inside ≡ inside left n) where
    module _ (key held : PlainKind) where
      map_is_of : worth_by s (worth_where s free) file (kind_map key held) levels count (map_const at entries)
          ≡ and_next (pairs_by s (worth_where s after) file key held left n entries) (map_of key held)
      map_is_of =
          opening (λ left n. and_next (pairs_by s (worth_where s free) file key held left n entries) (map_of key held))
          ∙ (λ j. and_next (pairs_by s (worth_where s (sym same j)) file key held left n entries) (map_of key held))

      pub map_stops : (stop : ConstStop) → StopsAs stop (pairs_by s (worth_where s after) file key held left n entries)
          → StopsAs stop (worth_by s (worth_where s free) file (kind_map key held) levels count (map_const at entries))
      map_stops stop h = subst (StopsAs stop) (sym map_is_of) (stops_next stop (pairs_by s (worth_where s after) file key held left n entries) _ h)

      pub map_made : (m : ℕ) (made : PairTrees) (tree : Tree) → pairs_by s (worth_where s after) file key held left n entries ≡ valued made m
          → tree ≡ of_map (kind_tag key) (kind_tag held) (tidy_pairs made)
          → worth_by s (worth_where s free) file (kind_map key held) levels count (map_const at entries) ≡ valued tree m
      map_made m made tree h is = map_is_of ∙ ap (λ w. and_next w (map_of key held)) h ∙ ap (λ t. valued t m) (sym is)

    module _ (which : ℕ) where
      struct_is : worth_by s (worth_where s free) file (kind_struct which) levels count (map_const at entries)
          ≡ and_next (fields_by s (worth_where s after) file at entries which left n) struct_of
      struct_is =
          opening (λ left n. and_next (fields_by s (worth_where s free) file at entries which left n) struct_of)
          ∙ (λ j. and_next (fields_by s (worth_where s (sym same j)) file at entries which left n) struct_of)

      pub struct_stops : (stop : ConstStop) → StopsAs stop (fields_by s (worth_where s after) file at entries which left n)
          → StopsAs stop (worth_by s (worth_where s free) file (kind_struct which) levels count (map_const at entries))
      struct_stops stop h = subst (StopsAs stop) (sym struct_is) (stops_next stop (fields_by s (worth_where s after) file at entries which left n) _ h)
