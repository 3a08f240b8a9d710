-- What was made of the first parts of a value, in front of what the others come to.
use Rattle.std.proofs.Common.{◌≡◌, ℕ, zero, suc, ℤ, ◌+◌, ◌<◌, ◌≤◌, List, [], ◌∷◌, ◌++◌, map, length, get_or, drop, Result, Ok, Err, MatchResult, OnOk, Bool, refl, sym, ap, ◌∙◌, subst, arith, add-one, drop-cons, append_assoc}
use Rattle.std.specs.Prelude.{⊤}
use Rattle.idl_token.specs.declared.Place.{Place}
use Rattle.thrift_value.specs.declared.value.Value.{Value}
use Rattle.thrift_value.specs.Tree.{Tree, FieldTrees, ItemTrees, no_items, item, PairTrees, no_pairs, pair}
use Rattle.thrift_value.specs.TreeOf.{tree_of, pair_tree, field_tree, item_trees, pair_trees, field_trees}
use Rattle.idl_parser.specs.declared.tree.ConstTree.{ConstTree}
use Rattle.idl_include.specs.ConstExpr.{ConstEntries}
use Rattle.idl_include.specs.DeclaredIn.{value_in, items_in, entries_in}
use Rattle.schema.specs.PlainKind.{PlainKind}
use Rattle.schema.specs.PlainSchema.{PlainField}
use Rattle.check_model.specs.Worths.{Worth, valued, flawed, and_next}
use Rattle.check_model.specs.Evaluation.{Setting, NamedWorth, FieldValue, worth_by, items_by, pairs_by, given_by, field_of_key}
use Rattle.idl_const.specs.declared.faults.ConstStop.{ConstStop}
use Rattle.idl_const.specs.Flaws.{AnswersWorth}
use Rattle.idl_const.specs.Given.{both_in}
use Rattle.idl_const.specs.FieldEntries.{PlainFieldEntry, entries_worth, fields_in_front, given_in_memory, HasFieldId, AreGivenFor}
use Rattle.idl_const.proofs.Kept.{fields_kept, given_more}

-- parts in front of others
abbrev pub prepended : {E T : Type 0} → (E → T → T) → List E → T → T
prepended cons [] more = more
prepended cons (x ∷ xs) more = cons x (prepended cons xs more)

-- the same of what others come to
abbrev pub in_front : {T : Type 0} → (T → T) → Worth T → Worth T
in_front put w = and_next w (λ more n. valued (put more) n)

abbrev pub items_front : List Tree → Worth ItemTrees → Worth ItemTrees
items_front xs w = in_front (prepended item xs) w

abbrev pub pair_of : Tree × Tree → PairTrees → PairTrees
pair_of p more = pair p.0 p.1 more

abbrev pub pairs_front : List (Tree × Tree) → Worth PairTrees → Worth PairTrees
pairs_front xs w = in_front (prepended pair_of xs) w

abbrev pub given_front : List FieldValue → Worth (List FieldValue) → Worth (List FieldValue)
given_front xs w = in_front (λ more. xs ++ more) w

abbrev pub fields_front : List (ℤ × Value) → Worth FieldTrees → Worth FieldTrees
fields_front fs w = in_front (fields_in_front fs) w

map_push : {A B : Type 0} (f : A → B) (xs : List A) (x : A) → map f (xs ++ x ∷ []) ≡ map f xs ++ f x ∷ []
map_push f [] x = refl
map_push f (y ∷ ys) x = ap (λ zs. f y ∷ zs) (map_push f ys x)

joined_push : {E T : Type 0} (cons : E → T → T) (xs : List E) (x : E) (more : T) → prepended cons (xs ++ x ∷ []) more ≡ prepended cons xs (cons x more)
joined_push cons [] x more = refl
joined_push cons (y ∷ ys) x more = ap (cons y) (joined_push cons ys x more)

-- one more part in front
front_push : {E T : Type 0} (cons : E → T → T) (xs : List E) (x : E) (w : Worth T)
    → in_front (prepended cons (xs ++ x ∷ [])) w ≡ in_front (prepended cons xs) (and_next w (λ rest m. valued (cons x rest) m))
front_push cons xs x (valued more n) = ap (λ made. valued made n) (joined_push cons xs x more)
front_push cons xs x (flawed at flaw) = refl

-- what is left of a list from an item on
pub rest_is : {A : Type 0} (xs : List A) (i : ℕ) (x : A) → i < length xs → x ≡ get_or xs i x → drop i xs ≡ x ∷ drop (i + 1) xs
rest_is xs i x inside is = drop-cons xs i x inside ∙ (λ j. sym is j ∷ drop (sym (add-one i) j) xs)

none_left : {A : Type 0} (i : ℕ) (xs : List A) → length xs ≤ i → drop i xs ≡ []
none_left zero [] h = refl
none_left (suc i) [] h = refl
none_left zero (x ∷ xs) h = absurd (omega arith)
none_left (suc i) (x ∷ xs) h = none_left i xs (omega arith)

-- the answer where something was kept
abbrev pub KeptResult : Result ⊤ ConstStop
KeptResult = Ok tt

pub ok_is_no_err : (stop : ConstStop) → KeptResult ≡ Err stop → ⊥
ok_is_no_err stop e = cc

module _ (s : Setting) (named : NamedWorth) (file : ℕ) where
  -- one item more
  items_push : (kind : PlainKind) (levels i : ℕ) (trees : List ConstTree) (x : ConstTree) (xs new : List Value) (v : Value) (n m : ℕ) (all : Worth ItemTrees)
      → i < length trees → x ≡ get_or trees i x
      → items_front (map tree_of xs) (items_by s named file kind levels n (items_in (map value_in (drop i trees)))) ≡ all
      → worth_by s named file kind levels n (value_in x) ≡ valued (tree_of v) m → new ≡ xs ++ v ∷ []
      → items_front (map tree_of new) (items_by s named file kind levels m (items_in (map value_in (drop (i + 1) trees)))) ≡ all
  items_push kind levels i trees x xs new v n m all inside is made worth kept =
      (λ j. items_front (map tree_of (kept j)) (items_by s named file kind levels m (items_in (map value_in (drop (i + 1) trees)))))
      ∙ (λ j. items_front (map_push tree_of xs v j) (items_by s named file kind levels m (items_in (map value_in (drop (i + 1) trees)))))
      ∙ front_push item (map tree_of xs) (tree_of v) (items_by s named file kind levels m (items_in (map value_in (drop (i + 1) trees))))
      ∙ (λ j. items_front (map tree_of xs) (and_next (sym worth j) (λ value n. and_next (items_by s named file kind levels n (items_in (map value_in (drop (i + 1) trees)))) (λ rest m. valued (item value rest) m))))
      ∙ (λ j. items_front (map tree_of xs) (items_by s named file kind levels n (items_in (map value_in (sym (rest_is trees i x inside is) j)))))
      ∙ made

  joined_items : (xs : List Tree) → prepended item xs no_items ≡ item_trees xs
  joined_items [] = refl
  joined_items (x ∷ xs) = ap (item x) (joined_items xs)

  pub items_end : (kind : PlainKind) (levels i : ℕ) (trees : List ConstTree) (xs : List Value) (n : ℕ) (all : Worth ItemTrees) → length trees ≤ i
      → items_front (map tree_of xs) (items_by s named file kind levels n (items_in (map value_in (drop i trees)))) ≡ all
      → all ≡ valued (item_trees (map tree_of xs)) n
  items_end kind levels i trees xs n all none made =
      sym made
      ∙ (λ j. items_front (map tree_of xs) (items_by s named file kind levels n (items_in (map value_in (none_left i trees none j)))))
      ∙ ap (λ t. valued t n) (joined_items (map tree_of xs))

  -- one item more, where it was made
  pub items_step : (kind : PlainKind) (levels i : ℕ) (trees : List ConstTree) (x : ConstTree) (xs new : List Value) (r : Result Value ConstStop) (n m : ℕ) (all : Worth ItemTrees)
      → i < length trees → x ≡ get_or trees i x
      → items_front (map tree_of xs) (items_by s named file kind levels n (items_in (map value_in (drop i trees)))) ≡ all
      → AnswersWorth tree_of r m (worth_by s named file kind levels n (value_in x))
      → MatchResult r (λ v. (new ≡ xs ++ v ∷ []) × ⊤) (λ stop. KeptResult ≡ Err stop)
      → items_front (map tree_of new) (items_by s named file kind levels m (items_in (map value_in (drop (i + 1) trees)))) ≡ all
  items_step kind levels i trees x xs new (Ok v) n m all inside is made worth kept = items_push kind levels i trees x xs new v n m all inside is made worth kept.0
  items_step kind levels i trees x xs new (Err stop) n m all inside is made worth kept = absurd (ok_is_no_err stop kept)

  -- one pair more
  pairs_push : (key held : PlainKind) (levels i : ℕ) (entries : List (ConstTree × ConstTree)) (p : ConstTree × ConstTree) (xs new : List (Value × Value)) (k v : Value) (n m o : ℕ) (all : Worth PairTrees)
      → i < length entries → p ≡ get_or entries i p
      → pairs_front (map pair_tree xs) (pairs_by s named file key held levels n (entries_in (map both_in (drop i entries)))) ≡ all
      → worth_by s named file key levels n (value_in p.0) ≡ valued (tree_of k) m → worth_by s named file held levels m (value_in p.1) ≡ valued (tree_of v) o → new ≡ xs ++ (k, v) ∷ []
      → pairs_front (map pair_tree new) (pairs_by s named file key held levels o (entries_in (map both_in (drop (i + 1) entries)))) ≡ all
  pairs_push key held levels i entries p xs new k v n m o all inside is made first second kept =
      let more : ConstEntries = entries_in (map both_in (drop (i + 1) entries)) in
      let last : Worth PairTrees = and_next (pairs_by s named file key held levels o more) (λ rest o. valued (pair (tree_of k) (tree_of v) rest) o) in
      (λ j. pairs_front (map pair_tree (kept j)) (pairs_by s named file key held levels o more))
      ∙ (λ j. pairs_front (map_push pair_tree xs (k, v) j) (pairs_by s named file key held levels o more))
      ∙ front_push pair_of (map pair_tree xs) (pair_tree (k, v)) (pairs_by s named file key held levels o more)
      ∙ (λ j. pairs_front (map pair_tree xs) (and_next (sym second j) (λ second o. and_next (pairs_by s named file key held levels o more) (λ rest o. valued (pair (tree_of k) second rest) o))))
      ∙ (λ j. pairs_front (map pair_tree xs) (and_next (sym first j) (λ first m. and_next (worth_by s named file held levels m (value_in p.1)) (λ second o. and_next (pairs_by s named file key held levels o more) (λ rest o. valued (pair first second rest) o)))))
      ∙ (λ j. pairs_front (map pair_tree xs) (pairs_by s named file key held levels n (entries_in (map both_in (sym (rest_is entries i p inside is) j)))))
      ∙ made

  -- one pair more, where it was made
  pub pairs_step : (key held : PlainKind) (levels i : ℕ) (entries : List (ConstTree × ConstTree)) (p : ConstTree × ConstTree) (xs new : List (Value × Value)) (k : Value) (r : Result Value ConstStop) (n m o : ℕ) (all : Worth PairTrees)
      → i < length entries → p ≡ get_or entries i p
      → pairs_front (map pair_tree xs) (pairs_by s named file key held levels n (entries_in (map both_in (drop i entries)))) ≡ all
      → worth_by s named file key levels n (value_in p.0) ≡ valued (tree_of k) m → AnswersWorth tree_of r o (worth_by s named file held levels m (value_in p.1))
      → MatchResult r (λ v. (new ≡ xs ++ (k, v) ∷ []) × ⊤) (λ stop. KeptResult ≡ Err stop)
      → pairs_front (map pair_tree new) (pairs_by s named file key held levels o (entries_in (map both_in (drop (i + 1) entries)))) ≡ all
  pairs_step key held levels i entries p xs new k (Ok v) n m o all inside is made first second kept =
      pairs_push key held levels i entries p xs new k v n m o all inside is made first second kept.0
  pairs_step key held levels i entries p xs new k (Err stop) n m o all inside is made first second kept = absurd (ok_is_no_err stop kept)

  joined_pairs : (ps : List (Tree × Tree)) → prepended pair_of ps no_pairs ≡ pair_trees ps
  joined_pairs [] = refl
  joined_pairs (p ∷ ps) = ap (pair p.0 p.1) (joined_pairs ps)

  pub pairs_end : (key held : PlainKind) (levels i : ℕ) (entries : List (ConstTree × ConstTree)) (xs : List (Value × Value)) (n : ℕ) (all : Worth PairTrees) → length entries ≤ i
      → pairs_front (map pair_tree xs) (pairs_by s named file key held levels n (entries_in (map both_in (drop i entries)))) ≡ all
      → all ≡ valued (pair_trees (map pair_tree xs)) n
  pairs_end key held levels i entries xs n all none made =
      sym made
      ∙ (λ j. pairs_front (map pair_tree xs) (pairs_by s named file key held levels n (entries_in (map both_in (none_left i entries none j)))))
      ∙ ap (λ t. valued t n) (joined_pairs (map pair_tree xs))

  given_in_front : (xs : List FieldValue) (x : FieldValue) (w : Worth (List FieldValue))
      → given_front (xs ++ x ∷ []) w ≡ given_front xs (and_next w (λ rest m. valued (x ∷ rest) m))
  given_in_front xs x (valued more n) = ap (λ made. valued made n) (append_assoc xs (x ∷ []) more)
  given_in_front xs x (flawed at flaw) = refl

  -- one value more that is given for a field
  given_push : (items : List PlainField) (levels i : ℕ) (entries : List (ConstTree × ConstTree)) (p : ConstTree × ConstTree) (f : PlainField) (xs new : List FieldValue) (v : Tree) (n m : ℕ) (all : Worth (List FieldValue))
      → i < length entries → p ≡ get_or entries i p
      → given_front xs (given_by s named file items levels n (entries_in (map both_in (drop i entries)))) ≡ all
      → field_of_key items n (value_in p.0) ≡ valued f n → worth_by s named file f.kind levels n (value_in p.1) ≡ valued v m → new ≡ xs ++ record { id = f.id; value = v } ∷ []
      → given_front new (given_by s named file items levels m (entries_in (map both_in (drop (i + 1) entries)))) ≡ all
  given_push items levels i entries p f xs new v n m all inside is made key worth kept =
      let more : ConstEntries = entries_in (map both_in (drop (i + 1) entries)) in
      (λ j. given_front (kept j) (given_by s named file items levels m more))
      ∙ given_in_front xs (record { id = f.id; value = v }) (given_by s named file items levels m more)
      ∙ (λ j. given_front xs (and_next (sym worth j) (λ value m. and_next (given_by s named file items levels m more) (λ rest o. valued (record { id = f.id; value = value } ∷ rest) o))))
      ∙ (λ j. given_front xs (and_next (sym key j) (λ (f : PlainField) (n : ℕ). and_next (worth_by s named file f.kind levels n (value_in p.1)) (λ value m. and_next (given_by s named file items levels m more) (λ rest o. valued (record { id = f.id; value = value } ∷ rest) o)))))
      ∙ (λ j. given_front xs (given_by s named file items levels n (entries_in (map both_in (sym (rest_is entries i p inside is) j)))))
      ∙ made

  given_map : (xs new : List (ℤ × Value)) (id : ℤ) (f : PlainField) (v : Value) → id ≡ f.id → new ≡ xs ++ (id, v) ∷ []
      → map given_in_memory new ≡ map given_in_memory xs ++ record { id = f.id; value = tree_of v } ∷ []
  given_map xs new id f v same is =
      ap (map given_in_memory) is ∙ map_push given_in_memory xs (id, v) ∙ ap (λ i. map given_in_memory xs ++ record { id = i; value = tree_of v } ∷ []) same

  -- one value more that is given for a field, where it was made
  pub given_step : (items : List PlainField) (levels i : ℕ) (entries : List (ConstTree × ConstTree)) (p : ConstTree × ConstTree) (f : PlainField) (id : ℤ) (xs new : List (ℤ × Value)) (r : Result Value ConstStop) (n m : ℕ) (all : Worth (List FieldValue))
      → i < length entries → p ≡ get_or entries i p
      → given_front (map given_in_memory xs) (given_by s named file items levels n (entries_in (map both_in (drop i entries)))) ≡ all
      → field_of_key items n (value_in p.0) ≡ valued f n → AnswersWorth tree_of r m (worth_by s named file f.kind levels n (value_in p.1))
      → MatchResult r (λ v. (new ≡ xs ++ (id, v) ∷ []) × ⊤) (λ stop. KeptResult ≡ Err stop) → id ≡ f.id
      → given_front (map given_in_memory new) (given_by s named file items levels m (entries_in (map both_in (drop (i + 1) entries)))) ≡ all
  given_step items levels i entries p f id xs new (Ok v) n m all inside is made key worth kept same =
      given_push items levels i entries p f (map given_in_memory xs) (map given_in_memory new) (tree_of v) n m all inside is made key worth (given_map xs new id f v same kept.0)
  given_step items levels i entries p f id xs new (Err stop) n m all inside is made key worth kept same = absurd (ok_is_no_err stop kept)

-- the same value is for a field
pub known_step : (items : List PlainField) (xs new : List (ℤ × Value)) (id : ℤ) (f : PlainField) (r : Result Value ConstStop)
    → AreGivenFor items (map given_in_memory xs) → HasFieldId items f.id → MatchResult r (λ v. (new ≡ xs ++ (id, v) ∷ []) × ⊤) (λ stop. KeptResult ≡ Err stop) → id ≡ f.id
    → AreGivenFor items (map given_in_memory new)
known_step items xs new id f (Ok v) h k kept same = given_more items xs new (id, v) h (subst (HasFieldId items) (sym same) k) kept.0
known_step items xs new id f (Err stop) h k kept same = absurd (ok_is_no_err stop kept)

-- all fields
pub fields_end : (named : NamedWorth) (at : Place) (levels n : ℕ) (row : List PlainFieldEntry) (fs : List (ℤ × Value)) (all : Worth FieldTrees) → row ≡ []
    → fields_front fs (entries_worth named at levels n row) ≡ all → all ≡ valued (field_trees (map field_tree fs)) n
fields_end named at levels n row fs all none made =
    sym made ∙ (λ j. fields_front fs (entries_worth named at levels n (none j))) ∙ ap (λ t. valued t n) (fields_kept fs)

-- marks that stayed
pub free_step : {A : Type 0} (r : Result Value ConstStop) (after free first : List Bool) (new : List A) (f : Value → List A) → OnOk r (after ≡ free) → free ≡ first
    → MatchResult r (λ v. (new ≡ f v) × ⊤) (λ stop. KeptResult ≡ Err stop) → after ≡ first
free_step (Ok v) after free first new f same is kept = same ∙ is
free_step (Err stop) after free first new f same is kept = absurd (ok_is_no_err stop kept)

-- nothing of nothing
pub none_mapped : {A B : Type 0} (f : A → B) (xs : List A) → length xs ≤ 0 → map f xs ≡ []
none_mapped f [] h = refl
none_mapped f (x ∷ xs) h = absurd (omega (arith, h))
