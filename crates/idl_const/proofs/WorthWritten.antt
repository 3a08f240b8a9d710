-- What a constant value is worth may be written as its type.
use Rattle.std.proofs.Common.{◌≡◌, ℕ, zero, suc, ℤ, ◌+◌, ◌≤◌, ◌<◌, true, List, [], ◌∷◌, length, Option, Some, None, refl, sym, ap, ◌∙◌, subst, arith}
use Rattle.std.specs.Prelude.{slice_get, slice_index_or}
use Rattle.std.specs.List.{AllByRecursion}
use Rattle.std.proofs.lemmas.Bool.{false≢true}
use Rattle.std.proofs.lemmas.List.Elements.{All-from_recursion}
use Rattle.idl_token.specs.declared.Place.{Place}
use Rattle.idl_include.specs.ConstExpr.{ConstExpr, int_const, double_const, literal_const, name_const, list_const, map_const, ConstItems, no_consts, const_item, ConstEntries, no_entries, const_entry}
use Rattle.idl_include.specs.ConstNames.{ConstMeaning, enum_value, given_value, const_meaning}
use Rattle.thrift_value.specs.Tree.{Tree, of_struct, of_map, FieldTrees, ItemTrees, no_items, item, PairTrees, no_pairs, pair}
use Rattle.thrift_value.specs.Sizes.{items_len, pairs_len}
use Rattle.schema.specs.declared.types.FieldNeed.TheVariants.{Required}
use Rattle.schema.specs.declared.types.FieldsKind.{FieldsKind}
use Rattle.schema.specs.declared.types.FieldsKind.TheVariants as fields
use Rattle.schema.specs.PlainKind.{PlainKind, kind_bool, kind_i8, kind_i16, kind_i32, kind_i64, kind_double, kind_text, kind_binary, kind_uuid, kind_enum, kind_struct, kind_map, kind_set, kind_list}
use Rattle.schema.specs.PlainSchema.{PlainField, PlainStruct, PlainSchema}
use Rattle.schema.specs.Sound.{IsKindIn}
use Rattle.schema.specs.WrittenAs.{HasItsFields, HasFieldTree}
use Rattle.thrift_value.specs.Tidy.{AreRisingFields}
use Rattle.check_model.specs.TidyRows.{tidy_pairs}
use Rattle.check_model.specs.Worths.{valued, and_next, unknown_name}
use Rattle.check_model.specs.Scalars.{int_worth, double_worth, literal_worth, enum_worth}
use Rattle.check_model.specs.Evaluation.{Setting, NamedWorth, FieldValue, kind_tag, name_worth, opened, takes_brackets, takes_braces, element_kind, row_tree, field_of_key, fields_worth, made_fields, struct_numbered, default_of, braced, worth_by, items_by, pairs_by, given_by}
use Rattle.idl_const.specs.ShortLiterals.{HasShortLiterals, HaveItemsShortLiterals, HaveEntriesShortLiterals}
use Rattle.idl_const.proofs.Inverting.{same_valued, no_flaw, seen_valued, next_valued, single_valued, opened_valued}
use Rattle.idl_const.proofs.TidyKept.{EachItem, EachPair}
use Rattle.idl_const.proofs.Elements.{IsElement, EachField, list_element, set_element, map_element, struct_element}
use Rattle.idl_const.proofs.LeafWorths.{int_element, double_element, literal_element, number_element}
use Rattle.idl_const.proofs.DeclaredFields.{AreRising, IsDeclared, each_among}
use Rattle.idl_const.proofs.FieldsWritten.{IsMade, IsBehind, AreMade, IsGiven, key_is, fields_made, union_made}

-- the fields of a struct are told apart by their ids, and those of a union may all be missing
pub record HasGoodFields (schema : PlainSchema) (d : PlainStruct) : Type 0 where
  pub rising : AreRising d.fields
  pub declared : AllByRecursion (IsDeclared schema d.fields) d.fields
  pub of_union : d.kind ≡ fields.Union → AllByRecursion (λ (f : PlainField). f.need ≡ Required → ⊥) d.fields

module _ (s : Setting) (named : NamedWorth) (file : ℕ) (good : (which : ℕ) → which < length s.schema.structs → HasGoodFields s.schema (struct_numbered s.schema which)) (are : AreMade s.schema named) where
  abbrev structs : List PlainStruct
  structs = s.schema.structs

  alone : (kind : PlainKind) (levels count : ℕ) (v : Tree) (n : ℕ) → IsElement structs kind levels v → suc count ≡ n → n ≤ 4000000 → IsMade structs kind levels count v n
  alone kind levels count v n is next most = record { element = is; more = omega (arith, next); most = most }

  moved : (kind : PlainKind) (left levels count : ℕ) (x v : Tree) (m n : ℕ) → levels ≡ suc left → x ≡ v → m ≡ n → IsMade structs kind (suc left) count x m → IsMade structs kind levels count v n
  moved kind left levels count x v m n less is next made =
      let there : IsMade structs kind (suc left) count v m = subst (λ t. IsMade structs kind (suc left) count t m) is made in
      let later : IsMade structs kind (suc left) count v n = subst (λ m. IsMade structs kind (suc left) count v m) next there in
      subst (λ l. IsMade structs kind l count v n) (sym less) later

  name_made : (kind : PlainKind) (levels count : ℕ) (at : Place) (m : Option ConstMeaning) (v : Tree) (n : ℕ) → IsKindIn s.schema kind → name_worth named kind levels count at m ≡ valued v n
      → IsMade structs kind levels count v n
  name_made kind levels count at None v n known e = absurd (no_flaw at unknown_name v n e)
  name_made kind levels count at (Some (enum_value which number)) v n known e =
      let one = single_valued at count (enum_worth kind which number) v n e in
      alone kind levels count v n (number_element structs levels kind which number v one.0) one.1 one.2
  name_made kind levels count at (Some (given_value which)) v n known e =
      are which kind levels count v n known (seen_valued at (named which kind levels count) v n e)

  -- items that were made, behind so many values
  pub record AreItemsMade (kind : PlainKind) (levels count : ℕ) (made : ItemTrees) (n : ℕ) : Type 0 where
    pub each : EachItem (IsElement structs kind levels) made
    pub fewer : items_len made + count ≤ n
    pub most : count ≤ 4000000 → n ≤ 4000000

  pub record ArePairsMade (key value : PlainKind) (levels count : ℕ) (made : PairTrees) (n : ℕ) : Type 0 where
    pub each : EachPair (IsElement structs key levels) (IsElement structs value levels) made
    pub fewer : pairs_len made + count ≤ n
    pub most : count ≤ 4000000 → n ≤ 4000000

  pub record AreGivenMade (items : List PlainField) (levels count : ℕ) (given : List FieldValue) (n : ℕ) : Type 0 where
    pub each : AllByRecursion (IsGiven s.schema items levels) given
    pub behind : IsBehind count n

  -- what is in brackets, by the type
  row_made : (kind : PlainKind) (left count : ℕ) (items : ItemTrees) (m : ℕ) → takes_brackets kind ≡ true → suc count ≤ 4000000 → AreItemsMade (element_kind kind) left (suc count) items m
      → IsMade structs kind (suc left) count (row_tree kind items) m
  row_made (kind_set member) left count items m takes room h = record {
    element = set_element structs member left items h.each (omega (arith, h.fewer, h.most room));
    more = omega (arith, h.fewer);
    most = h.most room;
  }
  row_made (kind_list element) left count items m takes room h = record {
    element = list_element structs element left items h.each (omega (arith, h.fewer, h.most room));
    more = omega (arith, h.fewer);
    most = h.most room;
  }
  row_made kind_bool left count items m takes room h = absurd (false≢true takes)
  row_made kind_i8 left count items m takes room h = absurd (false≢true takes)
  row_made kind_i16 left count items m takes room h = absurd (false≢true takes)
  row_made kind_i32 left count items m takes room h = absurd (false≢true takes)
  row_made kind_i64 left count items m takes room h = absurd (false≢true takes)
  row_made kind_double left count items m takes room h = absurd (false≢true takes)
  row_made kind_uuid left count items m takes room h = absurd (false≢true takes)
  row_made kind_text left count items m takes room h = absurd (false≢true takes)
  row_made kind_binary left count items m takes room h = absurd (false≢true takes)
  row_made (kind_enum which) left count items m takes room h = absurd (false≢true takes)
  row_made (kind_struct which) left count items m takes room h = absurd (false≢true takes)
  row_made (kind_map key value) left count items m takes room h = absurd (false≢true takes)

  element_known : (kind : PlainKind) → IsKindIn s.schema kind → IsKindIn s.schema (element_kind kind)
  element_known (kind_set member) known = known
  element_known (kind_list element) known = known
  element_known kind_bool known = known
  element_known kind_i8 known = known
  element_known kind_i16 known = known
  element_known kind_i32 known = known
  element_known kind_i64 known = known
  element_known kind_double known = known
  element_known kind_uuid known = known
  element_known kind_text known = known
  element_known kind_binary known = known
  element_known (kind_enum which) known = known
  element_known (kind_struct which) known = known
  element_known (kind_map key value) known = known

  bracketed : (kind : PlainKind) (levels count : ℕ) (at : Place) (items : ConstItems) (v : Tree) (n : ℕ) → IsKindIn s.schema kind
      → ((left c : ℕ) (made : ItemTrees) (m : ℕ) → IsKindIn s.schema (element_kind kind) → items_by s named file (element_kind kind) left c items ≡ valued made m → AreItemsMade (element_kind kind) left c made m)
      → opened at (takes_brackets kind) levels count (λ left n. and_next (items_by s named file (element_kind kind) left n items) (λ made m. valued (row_tree kind made) m)) ≡ valued v n
      → IsMade structs kind levels count v n
  bracketed kind levels count at items v n known on e =
      let o = opened_valued at (takes_brackets kind) levels count (λ left n. and_next (items_by s named file (element_kind kind) left n items) (λ made m. valued (row_tree kind made) m)) v n e in
      let came = next_valued (items_by s named file (element_kind kind) o.left (suc count) items) (λ made m. valued (row_tree kind made) m) v n o.made in
      let same = same_valued (row_tree kind came.first) v came.between n came.behind in
      let made = row_made kind o.left count came.first came.between o.fitting o.room (on o.left (suc count) came.first came.between (element_known kind known) came.before) in
      moved kind o.left levels count (row_tree kind came.first) v came.between n o.less same.0 same.1 made

  -- the fields of a struct that were made
  pub record IsStructMade (d : PlainStruct) (levels count : ℕ) (made : FieldTrees) (n : ℕ) : Type 0 where
    pub each : EachField structs d.fields levels made
    pub rising : AreRisingFields made
    pub its : HasItsFields d made
    pub behind : IsBehind count n

  no_need : (fs : List PlainField) (made : FieldTrees) → AllByRecursion (λ (f : PlainField). f.need ≡ Required → ⊥) fs → AllByRecursion (λ (f : PlainField). f.need ≡ Required → HasFieldTree f.id made) fs
  no_need [] made h = tt
  no_need (f ∷ more) made h = ((λ need. absurd (h.0 need)), no_need more made h.1)

  filled : (d : PlainStruct) → (d.kind ≡ fields.Union → ⊥) → HasGoodFields s.schema d → (default : ℤ → Option ℕ) (given : List FieldValue) (levels count : ℕ) → AllByRecursion (IsGiven s.schema d.fields levels) given
      → (at : Place) (made : FieldTrees) (n : ℕ) → fields_worth named default given at levels count d.fields ≡ valued made n → IsStructMade d levels count made n
  filled d other fine default given levels count all at made n e =
      let both = fields_made s.schema d.fields levels named are default given all at count d.fields fine.rising fine.declared made n e in
      record {
        each = both.0.each;
        rising = both.0.rising;
        its = record { required = All-from_recursion (λ (f : PlainField). f.need ≡ Required → HasFieldTree f.id made) d.fields both.0.there; of_union = λ is. absurd (other is) };
        behind = both.1;
      }

  -- by what kind of fields it has
  struct_made : (d : PlainStruct) (k : FieldsKind) → d.kind ≡ k → HasGoodFields s.schema d → (default : ℤ → Option ℕ) (given : List FieldValue) (levels count : ℕ) → AllByRecursion (IsGiven s.schema d.fields levels) given
      → (at : Place) (made : FieldTrees) (n : ℕ) → made_fields named default at levels k d.fields given count ≡ valued made n → IsStructMade d levels count made n
  struct_made d fields.Union is fine default given levels count all at made n e =
      let one = union_made s.schema d.fields levels given all at count made n e in
      record {
        each = one.0;
        rising = one.1;
        its = record { required = All-from_recursion (λ (f : PlainField). f.need ≡ Required → HasFieldTree f.id made) d.fields (no_need d.fields made (fine.of_union is)); of_union = λ same. one.2 };
        behind = record { no_fewer = omega (arith, one.3); most = λ m. omega (arith, m, one.3) };
      }
  struct_made d fields.Struct is fine default given levels count all at made n e = filled d (λ u. (let both : fields.Struct ≡ fields.Union = sym is ∙ u in cc)) fine default given levels count all at made n e
  struct_made d fields.Exception is fine default given levels count all at made n e = filled d (λ u. (let both : fields.Exception ≡ fields.Union = sym is ∙ u in cc)) fine default given levels count all at made n e
  struct_made d fields.Args is fine default given levels count all at made n e = filled d (λ u. (let both : fields.Args ≡ fields.Union = sym is ∙ u in cc)) fine default given levels count all at made n e

  there_get : {A : Type 0} (xs : List A) (k : ℕ) (d : A) → k < length xs → slice_get xs k ≡ Some (slice_index_or xs k d)
  there_get [] k d inside = absurd (omega (arith, inside))
  there_get (x ∷ xs) zero d inside = refl
  there_get (x ∷ xs) (suc k) d inside = there_get xs k d (omega (arith, inside))

  -- what is in braces, by the type
  map_made : (key value : PlainKind) (left count : ℕ) (made : PairTrees) (m : ℕ) → suc count ≤ 4000000 → ArePairsMade key value left (suc count) made m
      → IsMade structs (kind_map key value) (suc left) count (of_map (kind_tag key) (kind_tag value) (tidy_pairs made)) m
  map_made key value left count made m room h = record {
    element = map_element structs key value left made h.each (omega (arith, h.fewer, h.most room));
    more = omega (arith, h.fewer);
    most = h.most room;
  }

  braces_made : (kind : PlainKind) (left count : ℕ) (at : Place) (entries : ConstEntries) (v : Tree) (n : ℕ) → takes_braces kind ≡ true → IsKindIn s.schema kind → suc count ≤ 4000000
      → ((key value : PlainKind) (c : ℕ) (made : PairTrees) (m : ℕ) → IsKindIn s.schema key → IsKindIn s.schema value → pairs_by s named file key value left c entries ≡ valued made m → ArePairsMade key value left c made m)
      → ((items : List PlainField) (c : ℕ) (given : List FieldValue) (m : ℕ) → AllByRecursion (IsDeclared s.schema items) items → given_by s named file items left c entries ≡ valued given m → AreGivenMade items left c given m)
      → braced kind (λ key value. pairs_by s named file key value left (suc count) entries) (λ which.
      and_next (given_by s named file (struct_numbered s.schema which).fields left (suc count) entries) (λ given m.
      made_fields named (default_of s.program which) at left (struct_numbered s.schema which).kind (struct_numbered s.schema which).fields given m)) ≡ valued v n
      → IsMade structs kind (suc left) count v n
  braces_made (kind_map key value) left count at entries v n takes known room on_pairs on_given e =
      let came = next_valued (pairs_by s named file key value left (suc count) entries) (λ made n. valued (of_map (kind_tag key) (kind_tag value) (tidy_pairs made)) n) v n e in
      let same = same_valued (of_map (kind_tag key) (kind_tag value) (tidy_pairs came.first)) v came.between n came.behind in
      moved (kind_map key value) left (suc left) count (of_map (kind_tag key) (kind_tag value) (tidy_pairs came.first)) v came.between n refl same.0 same.1
      (map_made key value left count came.first came.between room (on_pairs key value (suc count) came.first came.between known.0 known.1 came.before))
  braces_made (kind_struct which) left count at entries v n takes known room on_pairs on_given e =
      let d = struct_numbered s.schema which in
      let fine = good which known in
      let came = next_valued (and_next (given_by s named file d.fields left (suc count) entries) (λ given m. made_fields named (default_of s.program which) at left d.kind d.fields given m)) (λ made n. valued (of_struct made) n) v n e in
      let first = next_valued (given_by s named file d.fields left (suc count) entries) (λ given m. made_fields named (default_of s.program which) at left d.kind d.fields given m) came.first came.between came.before in
      let given = on_given d.fields (suc count) first.first first.between fine.declared first.before in
      let made = struct_made d d.kind refl fine (default_of s.program which) first.first left first.between given.each at came.first came.between first.behind in
      let same = same_valued (of_struct came.first) v came.between n came.behind in
      moved (kind_struct which) left (suc left) count (of_struct came.first) v came.between n refl same.0 same.1
      (record {
        element = struct_element structs which d left came.first (there_get s.schema.structs which _ known) made.each made.rising made.its;
        more = omega (arith, given.behind.no_fewer, made.behind.no_fewer);
        most = made.behind.most (given.behind.most room);
      })
  braces_made kind_bool left count at _ v n takes known room on_pairs on_given e = absurd (false≢true takes)
  braces_made kind_i8 left count at _ v n takes known room on_pairs on_given e = absurd (false≢true takes)
  braces_made kind_i16 left count at _ v n takes known room on_pairs on_given e = absurd (false≢true takes)
  braces_made kind_i32 left count at _ v n takes known room on_pairs on_given e = absurd (false≢true takes)
  braces_made kind_i64 left count at _ v n takes known room on_pairs on_given e = absurd (false≢true takes)
  braces_made kind_double left count at _ v n takes known room on_pairs on_given e = absurd (false≢true takes)
  braces_made kind_uuid left count at _ v n takes known room on_pairs on_given e = absurd (false≢true takes)
  braces_made kind_text left count at _ v n takes known room on_pairs on_given e = absurd (false≢true takes)
  braces_made kind_binary left count at _ v n takes known room on_pairs on_given e = absurd (false≢true takes)
  braces_made (kind_enum which) left count at _ v n takes known room on_pairs on_given e = absurd (false≢true takes)
  braces_made (kind_set member) left count at _ v n takes known room on_pairs on_given e = absurd (false≢true takes)
  braces_made (kind_list element) left count at _ v n takes known room on_pairs on_given e = absurd (false≢true takes)

  in_braces : (kind : PlainKind) (levels count : ℕ) (at : Place) (entries : ConstEntries) (v : Tree) (n : ℕ) → IsKindIn s.schema kind
      → ((key value : PlainKind) (left c : ℕ) (made : PairTrees) (m : ℕ) → IsKindIn s.schema key → IsKindIn s.schema value → pairs_by s named file key value left c entries ≡ valued made m → ArePairsMade key value left c made m)
      → ((items : List PlainField) (left c : ℕ) (given : List FieldValue) (m : ℕ) → AllByRecursion (IsDeclared s.schema items) items → given_by s named file items left c entries ≡ valued given m → AreGivenMade items left c given m)
      → opened at (takes_braces kind) levels count (λ left n.
      braced kind (λ key value. pairs_by s named file key value left n entries) (λ which.
      and_next (given_by s named file (struct_numbered s.schema which).fields left n entries) (λ given m.
      made_fields named (default_of s.program which) at left (struct_numbered s.schema which).kind (struct_numbered s.schema which).fields given m))) ≡ valued v n
      → IsMade structs kind levels count v n
  in_braces kind levels count at entries v n known on_pairs on_given e =
      let o = opened_valued at (takes_braces kind) levels count (λ left n.
      braced kind (λ key value. pairs_by s named file key value left n entries) (λ which.
      and_next (given_by s named file (struct_numbered s.schema which).fields left n entries) (λ given m.
      made_fields named (default_of s.program which) at left (struct_numbered s.schema which).kind (struct_numbered s.schema which).fields given m))) v n e in
      moved kind o.left levels count v v n n o.less refl refl
      (braces_made kind o.left count at entries v n o.fitting known o.room (λ key value. on_pairs key value o.left) (λ items. on_given items o.left) o.made)

  -- one item more

  no_item : (kind : PlainKind) (levels count : ℕ) (made : ItemTrees) (n : ℕ) → valued no_items count ≡ valued made n → AreItemsMade kind levels count made n
  no_item kind levels count made n e =
      let same = same_valued no_items made count n e in
      record {
        each = subst (EachItem (IsElement structs kind levels)) same.0 tt;
        fewer = omega (arith, ap items_len same.0, same.1);
        most = λ m. omega (arith, m, same.1);
      }

  one_item : (kind : PlainKind) (levels count : ℕ) (x : ConstExpr) (more : ConstItems) (made : ItemTrees) (n : ℕ)
      → ((v : Tree) (m : ℕ) → worth_by s named file kind levels count x ≡ valued v m → IsMade structs kind levels count v m)
      → ((c : ℕ) (rest : ItemTrees) (m : ℕ) → items_by s named file kind levels c more ≡ valued rest m → AreItemsMade kind levels c rest m)
      → items_by s named file kind levels count (const_item x more) ≡ valued made n → AreItemsMade kind levels count made n
  one_item kind levels count x more made n on_first on_rest e =
      let first = next_valued (worth_by s named file kind levels count x) (λ value n. and_next (items_by s named file kind levels n more) (λ rest m. valued (item value rest) m)) made n e in
      let second = next_valued (items_by s named file kind levels first.between more) (λ rest m. valued (item first.first rest) m) made n first.behind in
      let one = on_first first.first first.between first.before in
      let others = on_rest first.between second.first second.between second.before in
      let same = same_valued (item first.first second.first) made second.between n second.behind in
      record {
        each = subst (EachItem (IsElement structs kind levels)) same.0 (one.element, others.each);
        fewer = omega (arith, one.more, others.fewer, same.1, ap items_len same.0);
        most = λ m. (let last = others.most one.most in omega (arith, last, same.1));
      }

  no_pair : (key value : PlainKind) (levels count : ℕ) (made : PairTrees) (n : ℕ) → valued no_pairs count ≡ valued made n → ArePairsMade key value levels count made n
  no_pair key value levels count made n e =
      let same = same_valued no_pairs made count n e in
      record {
        each = subst (EachPair (IsElement structs key levels) (IsElement structs value levels)) same.0 tt;
        fewer = omega (arith, ap pairs_len same.0, same.1);
        most = λ m. omega (arith, m, same.1);
      }

  one_pair : (key value : PlainKind) (levels count : ℕ) (k v : ConstExpr) (more : ConstEntries) (made : PairTrees) (n : ℕ)
      → ((w : Tree) (m : ℕ) → worth_by s named file key levels count k ≡ valued w m → IsMade structs key levels count w m)
      → ((c : ℕ) (w : Tree) (m : ℕ) → worth_by s named file value levels c v ≡ valued w m → IsMade structs value levels c w m)
      → ((c : ℕ) (rest : PairTrees) (m : ℕ) → pairs_by s named file key value levels c more ≡ valued rest m → ArePairsMade key value levels c rest m)
      → pairs_by s named file key value levels count (const_entry k v more) ≡ valued made n → ArePairsMade key value levels count made n
  one_pair key value levels count k v more made n on_key on_value on_rest e =
      let first = next_valued (worth_by s named file key levels count k) (λ first n. and_next (worth_by s named file value levels n v) (λ second m. and_next (pairs_by s named file key value levels m more) (λ rest o. valued (pair first second rest) o))) made n e in
      let second = next_valued (worth_by s named file value levels first.between v) (λ second m. and_next (pairs_by s named file key value levels m more) (λ rest o. valued (pair first.first second rest) o)) made n first.behind in
      let third = next_valued (pairs_by s named file key value levels second.between more) (λ rest o. valued (pair first.first second.first rest) o) made n second.behind in
      let one = on_key first.first first.between first.before in
      let two = on_value first.between second.first second.between second.before in
      let others = on_rest second.between third.first third.between third.before in
      let same = same_valued (pair first.first second.first third.first) made third.between n third.behind in
      record {
        each = subst (EachPair (IsElement structs key levels) (IsElement structs value levels)) same.0 (one.element, two.element, others.each);
        fewer = omega (arith, one.more, two.more, others.fewer, same.1, ap pairs_len same.0);
        most = λ m. (let last = others.most two.most in omega (arith, last, same.1));
      }

  none_given : (items : List PlainField) (levels count : ℕ) (given : List FieldValue) (n : ℕ) → valued [] count ≡ valued given n → AreGivenMade items levels count given n
  none_given items levels count given n e =
      let same = same_valued [] given count n e in
      record {
        each = subst (AllByRecursion (IsGiven s.schema items levels)) same.0 tt;
        behind = record { no_fewer = omega (arith, same.1); most = λ m. omega (arith, m, same.1) };
      }

  one_given : (items : List PlainField) (levels count : ℕ) (k v : ConstExpr) (more : ConstEntries) (given : List FieldValue) (n : ℕ) → AllByRecursion (IsDeclared s.schema items) items
      → ((kind : PlainKind) (c : ℕ) (w : Tree) (m : ℕ) → IsKindIn s.schema kind → worth_by s named file kind levels c v ≡ valued w m → IsMade structs kind levels c w m)
      → ((c : ℕ) (rest : List FieldValue) (m : ℕ) → given_by s named file items levels c more ≡ valued rest m → AreGivenMade items levels c rest m)
      → given_by s named file items levels count (const_entry k v more) ≡ valued given n → AreGivenMade items levels count given n
  one_given items levels count k v more given n declared on_value on_rest e =
      let first = next_valued (field_of_key items count k) (λ f n. and_next (worth_by s named file f.kind levels n v) (λ value m. and_next (given_by s named file items levels m more) (λ rest o. valued (record { id = f.id; value = value } ∷ rest) o))) given n e in
      let f = first.first in
      let second = next_valued (worth_by s named file f.kind levels first.between v) (λ value m. and_next (given_by s named file items levels m more) (λ rest o. valued (record { id = f.id; value = value } ∷ rest) o)) given n first.behind in
      let third = next_valued (given_by s named file items levels second.between more) (λ rest o. valued (record { id = f.id; value = second.first } ∷ rest) o) given n second.behind in
      let key = key_is s.schema items levels count k f first.between first.before in
      let is = each_among (IsDeclared s.schema items) items f declared key.among in
      let one = on_value f.kind first.between second.first second.between is.kind second.before in
      let others = on_rest second.between third.first third.between third.before in
      let same = same_valued (record { id = f.id; value = second.first } ∷ third.first) given third.between n third.behind in
      record {
        each = subst (AllByRecursion (IsGiven s.schema items levels)) same.0 (record { field = f; found = is.found; element = one.element }, others.each);
        behind = record {
          no_fewer = omega (arith, key.count_is, one.more, others.behind.no_fewer, same.1);
          most = λ m. (let last = others.behind.most one.most in omega (arith, last, same.1));
        };
      }

  mutual
    pub worth_made : (kind : PlainKind) (levels count : ℕ) (x : ConstExpr) (v : Tree) (n : ℕ) → IsKindIn s.schema kind → HasShortLiterals x → worth_by s named file kind levels count x ≡ valued v n
        → IsMade structs kind levels count v n
    worth_made kind levels count (int_const i at) v n known short e =
        let one = single_valued at count (int_worth kind i) v n e in
        alone kind levels count v n (int_element structs levels kind i v one.0) one.1 one.2
    worth_made kind levels count (double_const digits) v n known short e =
        let one = single_valued digits.at count (double_worth kind digits.text) v n e in
        alone kind levels count v n (double_element structs levels kind digits.text v one.0) one.1 one.2
    worth_made kind levels count (literal_const literal) v n known short e =
        let one = single_valued literal.at count (literal_worth kind literal.text) v n e in
        alone kind levels count v n (literal_element structs levels kind literal.text v short one.0) one.1 one.2
    worth_made kind levels count (name_const name) v n known short e = name_made kind levels count name.at (const_meaning s.program file name.text) v n known e
    worth_made kind levels count (list_const at items) v n known short e =
        bracketed kind levels count at items v n known (λ left c made m element_known made_is. items_made (element_kind kind) left c items made m element_known short made_is) e
    worth_made kind levels count (map_const at entries) v n known short e =
        in_braces kind levels count at entries v n known
        (λ key value left c made m key_known value_known made_is. pairs_made key value left c entries made m key_known value_known short made_is)
        (λ items left c given m declared given_is. given_made items left c entries given m declared short given_is) e

    items_made : (kind : PlainKind) (levels count : ℕ) (items : ConstItems) (made : ItemTrees) (n : ℕ) → IsKindIn s.schema kind → HaveItemsShortLiterals items
        → items_by s named file kind levels count items ≡ valued made n → AreItemsMade kind levels count made n
    items_made kind levels count no_consts made n known short e = no_item kind levels count made n e
    items_made kind levels count (const_item x more) made n known short e =
        one_item kind levels count x more made n (λ v m is. worth_made kind levels count x v m known short.0 is) (λ c rest m is. items_made kind levels c more rest m known short.1 is) e

    pairs_made : (key value : PlainKind) (levels count : ℕ) (entries : ConstEntries) (made : PairTrees) (n : ℕ) → IsKindIn s.schema key → IsKindIn s.schema value → HaveEntriesShortLiterals entries
        → pairs_by s named file key value levels count entries ≡ valued made n → ArePairsMade key value levels count made n
    pairs_made key value levels count no_entries made n key_known value_known short e = no_pair key value levels count made n e
    pairs_made key value levels count (const_entry k v more) made n key_known value_known short e =
        one_pair key value levels count k v more made n (λ w m is. worth_made key levels count k w m key_known short.0 is) (λ c w m is. worth_made value levels c v w m value_known short.1 is)
        (λ c rest m is. pairs_made key value levels c more rest m key_known value_known short.2 is) e

    given_made : (items : List PlainField) (levels count : ℕ) (entries : ConstEntries) (given : List FieldValue) (n : ℕ) → AllByRecursion (IsDeclared s.schema items) items → HaveEntriesShortLiterals entries
        → given_by s named file items levels count entries ≡ valued given n → AreGivenMade items levels count given n
    given_made items levels count no_entries given n declared short e = none_given items levels count given n e
    given_made items levels count (const_entry k v more) given n declared short e =
        one_given items levels count k v more given n declared (λ kind c w m known is. worth_made kind levels c v w m known short.1 is) (λ c rest m is. given_made items levels c more rest m declared short.2 is) e
