-- The loop over fields of which those that are known are kept.
use Rattle.std.proofs.Common.{◌≡◌, ℕ, suc, ℤ, pos, Bool, List, [], ◌∷◌, ◌++◌, map, length, Option, Some, None, Result, Ok, Err, refl, sym, ap, ◌∙◌}
use Rattle.std.specs.Prelude.{⊤}
use Rattle.std.specs.Option.{option_map}
use Rattle.thrift_value.specs.declared.tag.Tag.{Tag}
use Rattle.thrift_value.specs.declared.value.Value.{Value}
use Rattle.thrift_value.specs.declared.value.Fields.{Fields}
use Rattle.thrift_value.specs.declared.wire_fault.WireFault.{WireFault}
use Rattle.thrift_value.specs.declared.wire_fault.WireFault.TheVariants.{Short}
use Rattle.thrift_value.specs.Tree.{Tree, of_bool, FieldTrees, no_fields, field}
use Rattle.thrift_value.specs.TreeOf.{tree_of, fields_of, field_tree, field_trees, fields_tree}
use Rattle.schema.specs.LookUp.{field_at}
use Rattle.schema.specs.PlainSchema.{PlainField, PlainSchema}
use Rattle.wire_model.specs.declared.one_pass.FieldHead.TheVariants.{Field}
use Rattle.wire_model.specs.Answering.{FaultsOrNoMemory, FaultsExactly}
use Rattle.wire_model.specs.AtPlace.{head_of}
use Rattle.wire_model.specs.Decoder.{Unread, go_on, give, count_value}
use Rattle.wire_model.specs.Reading.{value, field_list, field_behind}
use Rattle.wire_model.specs.Wire.{FieldHeader, stop, typed, flagged, Wire}
use Rattle.wire_walk.specs.Walked.{prepended, in_front}
use Rattle.wire_walk.proofs.Faults.{fails_on, fails_front, fails_same, fails_told, on_ok, front_push, front_none}
use Rattle.wire_walk.proofs.Lists.{field_of}
use Rattle.wire_walk.proofs.PassedOver.{Reading}
use Rattle.known_parts.specs.Known.{known, known_by, known_fields, with_known}
use Rattle.known_parts.specs.KnownAt.{read_seen, head_value, known_value_at, with_some_more}
use Rattle.known_parts.proofs.Knowing.{seen_fails}
use Rattle.known_parts.proofs.KnownElements.{map_at_end}

module _ (wire : Wire) (s : PlainSchema) (levels which : ℕ) where
  abbrev pub known_field_list : ℕ → ℤ → Unread → Reading FieldTrees
  known_field_list most last rest = read_seen (known_fields s which) (field_list wire (value wire levels) most last rest)

  abbrev pub AreFieldsKnown : List (ℤ × Value) → ℕ → ℤ → Unread → Unread → Type 0
  AreFieldsKnown fields most last rest start =
      in_front field_of (map field_tree fields) (known_field_list most last rest) ≡ known_field_list (length start.bytes) (pos 0) start

  pub known_fields_begin : (fields : List (ℤ × Value)) (most : ℕ) (start : Unread) → fields ≡ [] → most ≡ length start.bytes → AreFieldsKnown fields most (pos 0) start start
  known_fields_begin fields most start none same =
      (λ i. in_front field_of (map field_tree (none i)) (known_field_list (same i) (pos 0) start)) ∙ front_none field_of (known_field_list (length start.bytes) (pos 0) start)

  field_opened : (id : ℤ) (v : Reading Tree) (k : Unread → Reading FieldTrees)
      → read_seen (known_fields s which) (go_on v (λ x r. go_on (k r) (λ more. give (field id x more))))
      ≡ go_on (read_seen (known_value_at s which id) v) (λ part r. read_seen (with_known id part) (read_seen (known_fields s which) (k r)))
  field_opened id (Ok x) k = by (k x.1)
    where
      by : (m : Reading FieldTrees) → read_seen (known_fields s which) (go_on m (λ more. give (field id x.0 more)))
          ≡ read_seen (with_known id (known_value_at s which id x.0)) (read_seen (known_fields s which) m)
      by (Ok y) = refl
      by (Err fault) = refl
  field_opened id (Err fault) k = refl

  flag_read : (b : Bool) (c : Reading ⊤) (m : Tree → Unread → Reading FieldTrees) → go_on c (λ _ r. m (of_bool b) r) ≡ go_on (go_on c (λ _ r. Ok (of_bool b, r))) m
  flag_read b (Ok x) m = refl
  flag_read b (Err fault) m = refl

  -- what is known where a field's head was read
  next_fields : (left : ℕ) (last id : ℤ) (tag : Tag) (flag : Option Bool) (rest behind : Unread) → wire.field last rest ≡ Ok (head_of (Field id tag flag), behind)
      → known_field_list (suc left) last rest
      ≡ go_on (read_seen (known_value_at s which id) (head_value wire levels (head_of (Field id tag flag)) behind)) (λ part r. read_seen (with_known id part) (known_field_list left id r))
  unfolding field_list field_behind
  next_fields left last id tag None rest behind read =
      ap (read_seen (known_fields s which)) (on_ok (wire.field last rest) (λ (found : FieldHeader). field_behind (value wire levels) (field_list wire (value wire levels) left) found) (typed id tag) behind read)
      ∙ field_opened id (value wire levels tag behind) (λ r. field_list wire (value wire levels) left id r)
  next_fields left last id tag (Some b) rest behind read =
      ap (read_seen (known_fields s which)) (on_ok (wire.field last rest) (λ (found : FieldHeader). field_behind (value wire levels) (field_list wire (value wire levels) left) found) (flagged id b) behind read
      ∙ flag_read b (count_value behind) (λ x r. go_on (field_list wire (value wire levels) left id r) (λ more. give (field id x more))))
      ∙ field_opened id (go_on (count_value behind) (λ _ r. Ok (of_bool b, r))) (λ r. field_list wire (value wire levels) left id r)

  pub known_head_fails : (fields : List (ℤ × Value)) (most left : ℕ) (last : ℤ) (rest start : Unread) (fault : WireFault) → most ≡ suc left
      → AreFieldsKnown fields most last rest start → FaultsExactly fault (wire.field last rest) → FaultsOrNoMemory fault (known_field_list (length start.bytes) (pos 0) start)
  unfolding field_list
  known_head_fails fields most left last rest start fault more kept h =
      fails_same fault _ _ ((λ i. in_front field_of (map field_tree fields) (known_field_list (sym more i) last rest)) ∙ kept)
      (fails_front field_of (map field_tree fields) fault (known_field_list (suc left) last rest)
      (seen_fails (known_fields s which) fault (field_list wire (value wire levels) (suc left) last rest)
      (fails_on fault (wire.field last rest) _ (fails_told fault (wire.field last rest) h))))

  pub known_part_fails : (fields : List (ℤ × Value)) (most left : ℕ) (last id : ℤ) (tag : Tag) (flag : Option Bool) (rest behind start : Unread) (fault : WireFault) → most ≡ suc left
      → AreFieldsKnown fields most last rest start → wire.field last rest ≡ Ok (head_of (Field id tag flag), behind)
      → FaultsOrNoMemory fault (read_seen (known_value_at s which id) (head_value wire levels (head_of (Field id tag flag)) behind))
      → FaultsOrNoMemory fault (known_field_list (length start.bytes) (pos 0) start)
  known_part_fails fields most left last id tag flag rest behind start fault more kept read h =
      fails_same fault _ _ ((λ i. in_front field_of (map field_tree fields) (known_field_list (sym more i) last rest)) ∙ kept)
      (fails_front field_of (map field_tree fields) fault (known_field_list (suc left) last rest)
      (fails_same fault _ _ (sym (next_fields left last id tag flag rest behind read))
      (fails_on fault (read_seen (known_value_at s which id) (head_value wire levels (head_of (Field id tag flag)) behind)) _ h)))

  -- one field more, where its value is known
  put_some : (fields : List (ℤ × Value)) (id : ℤ) (part : Option Value) (r : Reading FieldTrees)
      → in_front field_of (map field_tree (with_some_more fields (option_map (λ value. (id, value)) part))) r ≡ in_front field_of (map field_tree fields) (read_seen (with_known id (option_map tree_of part)) r)
  put_some fields id None r = ap (in_front field_of (map field_tree fields)) (same r)
    where
      same : (m : Reading FieldTrees) → m ≡ read_seen (with_known id None) m
      same (Ok x) = refl
      same (Err fault) = refl
  put_some fields id (Some v) r =
      ap (λ fs. in_front field_of fs r) (map_at_end field_tree fields (id, v)) ∙ front_push field_of (map field_tree fields) (id, tree_of v) r
      ∙ ap (in_front field_of (map field_tree fields)) (same r)
    where
      same : (m : Reading FieldTrees) → go_on m (λ more rest. Ok (field_of (id, tree_of v) more, rest)) ≡ read_seen (with_known id (Some (tree_of v))) m
      same (Ok x) = refl
      same (Err fault) = refl

  pub known_field_step : (fields new : List (ℤ × Value)) (part : Option Value) (most left : ℕ) (last id : ℤ) (tag : Tag) (flag : Option Bool) (rest behind inside start : Unread) → most ≡ suc left
      → AreFieldsKnown fields most last rest start → wire.field last rest ≡ Ok (head_of (Field id tag flag), behind)
      → read_seen (known_value_at s which id) (head_value wire levels (head_of (Field id tag flag)) behind) ≡ Ok (option_map tree_of part, inside)
      → new ≡ with_some_more fields (option_map (λ value. (id, value)) part) → AreFieldsKnown new left id inside start
  known_field_step fields new part most left last id tag flag rest behind inside start more kept read found is =
      ap (λ fs. in_front field_of (map field_tree fs) (known_field_list left id inside)) is
      ∙ put_some fields id part (known_field_list left id inside)
      ∙ ap (in_front field_of (map field_tree fields))
      (sym (next_fields left last id tag flag rest behind read
      ∙ on_ok (read_seen (known_value_at s which id) (head_value wire levels (head_of (Field id tag flag)) behind)) _ (option_map tree_of part) inside found))
      ∙ (λ i. in_front field_of (map field_tree fields) (known_field_list (sym more i) last rest)) ∙ kept

  joined_fields : (fs : List (ℤ × Tree)) → prepended field_of fs no_fields ≡ field_trees fs
  joined_fields [] = refl
  joined_fields (f ∷ fs) = ap (field f.0 f.1) (joined_fields fs)

  pub known_fields_end : (fields : List (ℤ × Value)) (made : Fields) (most left : ℕ) (last : ℤ) (rest behind start : Unread) → most ≡ suc left
      → AreFieldsKnown fields most last rest start → wire.field last rest ≡ Ok (stop, behind) → fields_of made ≡ fields
      → known_field_list (length start.bytes) (pos 0) start ≡ Ok (fields_tree made, behind)
  unfolding field_list field_behind
  known_fields_end fields made most left last rest behind start more kept read is =
      sym kept ∙ (λ i. in_front field_of (map field_tree fields) (known_field_list (more i) last rest))
      ∙ ap (λ m. in_front field_of (map field_tree fields) (read_seen (known_fields s which) m))
      (on_ok (wire.field last rest) (λ (found : FieldHeader). field_behind (value wire levels) (field_list wire (value wire levels) left) found) stop behind read)
      ∙ ap (λ t. Ok (t, behind)) (joined_fields (map field_tree fields) ∙ ap (λ xs. field_trees (map field_tree xs)) (sym is))

  pub known_fields_run_out : (fields : List (ℤ × Value)) (most : ℕ) (last : ℤ) (rest start : Unread) → most ≡ 0 → AreFieldsKnown fields most last rest start
      → known_field_list (length start.bytes) (pos 0) start ≡ Err Short
  unfolding field_list
  known_fields_run_out fields most last rest start none kept =
      sym kept ∙ (λ i. in_front field_of (map field_tree fields) (known_field_list (none i) last rest))

  -- a field whose header has its value, and one whose value follows
  pub flag_fails_known : (id : ℤ) (tag : Tag) (flag : Option Bool) (b : Bool) (rest : Unread) (fault : WireFault) → flag ≡ Some b → FaultsExactly fault (count_value rest)
      → FaultsOrNoMemory fault (read_seen (known_value_at s which id) (head_value wire levels (head_of (Field id tag flag)) rest))
  flag_fails_known id tag flag b rest fault is h =
      fails_same fault _ _ (λ i. read_seen (known_value_at s which id) (head_value wire levels (head_of (Field id tag (sym is i))) rest))
      (seen_fails (known_value_at s which id) fault (head_value wire levels (flagged id b) rest) (fails_on fault (count_value rest) _ (fails_told fault (count_value rest) h)))

  pub flag_known : (id : ℤ) (tag : Tag) (flag : Option Bool) (b : Bool) (rest behind : Unread) (part : Option Value) → flag ≡ Some b → count_value rest ≡ Ok (tt, behind)
      → option_map tree_of part ≡ known_value_at s which id (of_bool b)
      → read_seen (known_value_at s which id) (head_value wire levels (head_of (Field id tag flag)) rest) ≡ Ok (option_map tree_of part, behind)
  flag_known id tag flag b rest behind part is one found =
      (λ i. read_seen (known_value_at s which id) (head_value wire levels (head_of (Field id tag (is i))) rest))
      ∙ ap (read_seen (known_value_at s which id)) (on_ok (count_value rest) _ tt behind one) ∙ ap (λ o. Ok (o, behind)) (sym found)

  pub value_known : (id : ℤ) (tag : Tag) (flag : Option Bool) (f : PlainField) (rest : Unread) → flag ≡ None → Some f ≡ field_at s which id
      → read_seen (λ x. known s x f.kind) (value wire levels tag rest) ≡ read_seen (known_value_at s which id) (head_value wire levels (head_of (Field id tag flag)) rest)
  value_known id tag flag f rest none is = λ i. read_seen (λ x. known_by (known s x) (is i)) (head_value wire levels (head_of (Field id tag (sym none i))) rest)

  pub value_undeclared : (id : ℤ) (tag : Tag) (flag : Option Bool) (rest : Unread) → flag ≡ None → None ≡ field_at s which id
      → read_seen (λ x. None) (value wire levels tag rest) ≡ read_seen (known_value_at s which id) (head_value wire levels (head_of (Field id tag flag)) rest)
  value_undeclared id tag flag rest none is = λ i. read_seen (λ x. known_by (known s x) (is i)) (head_value wire levels (head_of (Field id tag (sym none i))) rest)
