-- What may be written under a type of a program's schema may be so whether defaults are told or not.
use Rattle.std.proofs.Common.{◌≡◌, ℕ, zero, suc, ℤ, Bool, true, false, cond, List, [], ◌∷◌, Option, Some, slice_get, sym, ap, subst, ◌∙◌}
use Rattle.std.specs.Prelude.{MatchOption}
use Rattle.std.specs.List.{AllByRecursion, AllZip}
use Rattle.std.specs.Ordering.{int_eq}
use Rattle.std.proofs.lemmas.List.Elements.{All-from_recursion, recursion_from_All}
use Rattle.thrift_value.specs.Tree.{Tree, of_bool, of_i8, of_i16, of_i32, of_i64, of_double, of_bytes, of_struct, of_map, of_set, of_list, of_uuid, FieldTrees, no_fields, field, ItemTrees, no_items, item, PairTrees, no_pairs, pair}
use Rattle.idl_include.specs.Program.{Program}
use Rattle.schema.specs.declared.types.FieldNeed.TheVariants.{Required}
use Rattle.schema.specs.declared.types.FieldsKind.{FieldsKind}
use Rattle.schema.specs.PlainKind.{PlainKind, kind_bool, kind_i8, kind_i16, kind_i32, kind_i64, kind_double, kind_text, kind_binary, kind_uuid, kind_enum, kind_struct, kind_map, kind_set, kind_list}
use Rattle.schema.specs.PlainSchema.{PlainField, PlainStruct, PlainSchema}
use Rattle.schema.specs.Sound.{IsValueOf}
use Rattle.schema.specs.WrittenAs.{field_with_id, HasFieldTree, HasItsFields, IsWrittenAs, AreFieldsWrittenAs, AreItemsWrittenAs, ArePairsWrittenAs}
use Rattle.check_model.specs.FieldLists.{NumberedField, FieldsDecl, fields_by_id, field_lists}
use Rattle.check_model.specs.SchemaParts.{DefaultRule, IsFieldOf, IsStructFrom, IsSchemaWith}
use Rattle.check_model.proofs.Meanings.{one_meaning}

-- fields that are the same but for their defaults
record IsSameField (f g : PlainField) : Type 0 where
  id : f.id ≡ g.id
  need : f.need ≡ g.need
  kind : f.kind ≡ g.kind

-- structs whose fields are
record IsSameStruct (p q : PlainStruct) : Type 0 where
  kind : p.kind ≡ q.kind
  fields : AllZip IsSameField p.fields q.fields

zip_both : {A B C : Type 0} (R : A → B → Type 0) (S : A → C → Type 0) (T : B → C → Type 0) → ((x : A) (y : B) (z : C) → R x y → S x z → T y z)
    → (xs : List A) (ys : List B) (zs : List C) → AllZip R xs ys → AllZip S xs zs → AllZip T ys zs
zip_both R S T by [] [] [] r s = tt
zip_both R S T by [] [] (z ∷ zs) r s = absurd s
zip_both R S T by [] (y ∷ ys) zs r s = absurd r
zip_both R S T by (x ∷ xs) [] zs r s = absurd r
zip_both R S T by (x ∷ xs) (y ∷ ys) [] r s = absurd s
zip_both R S T by (x ∷ xs) (y ∷ ys) (z ∷ zs) r s = (by x y z r.0 s.0, zip_both R S T by xs ys zs r.1 s.1)

-- a required field that is missing in neither
required : (trees : FieldTrees) (fs gs : List PlainField) → AllZip IsSameField fs gs
    → AllByRecursion (λ (f : PlainField). f.need ≡ Required → HasFieldTree f.id trees) fs → AllByRecursion (λ (g : PlainField). g.need ≡ Required → HasFieldTree g.id trees) gs
required trees [] [] same h = tt
required trees [] (g ∷ gs) same h = absurd same
required trees (f ∷ fs) [] same h = absurd same
required trees (f ∷ fs) (g ∷ gs) same h = (
  λ need. subst (λ i. HasFieldTree i trees) same.0.id (h.0 (same.0.need ∙ need)),
  required trees fs gs same.1 h.1,
)

has_its_fields : (p q : PlainStruct) (trees : FieldTrees) → IsSameStruct p q → HasItsFields p trees → HasItsFields q trees
has_its_fields p q trees same h =
    let P = λ (f : PlainField). f.need ≡ Required → HasFieldTree f.id trees in
    record {
      required = All-from_recursion P q.fields (required trees p.fields q.fields same.fields (recursion_from_All P p.fields h.required));
      of_union = λ union. h.of_union (same.kind ∙ union);
    }

-- a field with an id is found in both
module _ (P Q : PlainKind → Type 0) (by : (k : PlainKind) → P k → Q k) where
  abbrev Has : (PlainKind → Type 0) → Option PlainField → Type 0
  Has R o = MatchOption o ⊥ (λ (f : PlainField). R f.kind)

  found_case : (b c : Bool) → b ≡ c → (f g : PlainField) → f.kind ≡ g.kind → (o r : Option PlainField) → (Has P o → Has Q r) → Has P (cond b (Some f) o) → Has Q (cond c (Some g) r)
  found_case true true e f g same o r later h = by g.kind (subst P same h)
  found_case true false e f g same o r later h = cc
  found_case false true e f g same o r later h = cc
  found_case false false e f g same o r later h = later h

  found : (id : ℤ) (fs gs : List PlainField) → AllZip IsSameField fs gs → Has P (field_with_id id fs) → Has Q (field_with_id id gs)
  found id [] [] same h = h
  found id [] (g ∷ gs) same h = absurd same
  found id (f ∷ fs) [] same h = absurd same
  found id (f ∷ fs) (g ∷ gs) same h =
      found_case (int_eq f.id id) (int_eq g.id id) (ap (λ i. int_eq i id) same.0.id) f g same.0.kind (field_with_id id fs) (field_with_id id gs) (found id fs gs same.1) h

-- a struct by its number in both
struct_found : (R S : PlainStruct → Type 0) → ((p q : PlainStruct) → IsSameStruct p q → R p → S q) → (ps qs : List PlainStruct) → AllZip IsSameStruct ps qs → (which : ℕ)
    → MatchOption (slice_get ps which) ⊥ R → MatchOption (slice_get qs which) ⊥ S
struct_found R S by [] [] same which h = h
struct_found R S by [] (q ∷ qs) same which h = absurd same
struct_found R S by (p ∷ ps) [] same which h = absurd same
struct_found R S by (p ∷ ps) (q ∷ qs) same zero h = by p q same.0 h
struct_found R S by (p ∷ ps) (q ∷ qs) same (suc which) h = struct_found R S by ps qs same.1 which h

module _ (ps qs : List PlainStruct) (same : AllZip IsSameStruct ps qs) where
  mutual
    written : (kind : PlainKind) (value : Tree) → IsWrittenAs ps kind value → IsWrittenAs qs kind value
    written kind_bool (of_bool b) h = tt
    written kind_i8 (of_i8 n) h = tt
    written kind_i16 (of_i16 n) h = tt
    written kind_i32 (of_i32 n) h = tt
    written kind_i64 (of_i64 n) h = tt
    written kind_double (of_double n) h = tt
    written kind_uuid (of_uuid n) h = tt
    written kind_text (of_bytes b) h = tt
    written kind_binary (of_bytes b) h = tt
    written (kind_enum n) (of_i32 m) h = tt
    written (kind_struct which) (of_struct trees) h =
        struct_found (λ p. HasItsFields p trees × AreFieldsWrittenAs ps p.fields trees) (λ q. HasItsFields q trees × AreFieldsWrittenAs qs q.fields trees)
        (λ p q one k. (has_its_fields p q trees one k.0, fields_written p.fields q.fields one.fields trees k.1)) ps qs same which h
    written (kind_map key value) (of_map k v pairs) h = pairs_written key value pairs h
    written (kind_set member) (of_set k items) h = items_written member items h
    written (kind_list element) (of_list k items) h = items_written element items h
    written _ _ h = absurd h

    fields_written : (fs gs : List PlainField) → AllZip IsSameField fs gs → (trees : FieldTrees) → AreFieldsWrittenAs ps fs trees → AreFieldsWrittenAs qs gs trees
    fields_written fs gs alike no_fields h = tt
    fields_written fs gs alike (field id value more) h =
        (found (λ k. IsWrittenAs ps k value) (λ k. IsWrittenAs qs k value) (λ k g. written k value g) id fs gs alike h.0, fields_written fs gs alike more h.1)

    items_written : (kind : PlainKind) (items : ItemTrees) → AreItemsWrittenAs ps kind items → AreItemsWrittenAs qs kind items
    items_written kind no_items h = tt
    items_written kind (item value more) h = (written kind value h.0, items_written kind more h.1)

    pairs_written : (key_kind value_kind : PlainKind) (pairs : PairTrees) → ArePairsWrittenAs ps key_kind value_kind pairs → ArePairsWrittenAs qs key_kind value_kind pairs
    pairs_written key_kind value_kind no_pairs h = tt
    pairs_written key_kind value_kind (pair key value more) h = (written key_kind key h.0, written value_kind value h.1, pairs_written key_kind value_kind more h.2)

module _ (D E : DefaultRule) (program : Program) where
  same_fields : (file : ℕ) (list : FieldsKind) (fs : List NumberedField) (ps qs : List PlainField) → AllZip (IsFieldOf D program file list) fs ps → AllZip (IsFieldOf E program file list) fs qs
      → AllZip IsSameField ps qs
  same_fields file list fs ps qs =
      zip_both (IsFieldOf D program file list) (IsFieldOf E program file list) IsSameField (λ f p q a b. record {
        id = a.id ∙ sym b.id;
        need = a.need ∙ sym b.need;
        kind = one_meaning program file f.decl.type p.kind q.kind a.kind b.kind;
      }) fs ps qs

  same_struct : (d : FieldsDecl) (p q : PlainStruct) → IsStructFrom D program d p → IsStructFrom E program d q → IsSameStruct p q
  same_struct d p q a b = record { kind = a.kind ∙ sym b.kind; fields = same_fields d.file d.kind (fields_by_id d.fields) p.fields q.fields a.fields b.fields }

  pub value_of_both : (a b : PlainSchema) → IsSchemaWith D program a → IsSchemaWith E program b → (kind : PlainKind) (value : Tree) → IsValueOf a kind value → IsValueOf b kind value
  value_of_both a b of_a of_b kind value is =
      let same = zip_both (IsStructFrom D program) (IsStructFrom E program) IsSameStruct same_struct (field_lists program) a.structs b.structs of_a.structs of_b.structs in
      record {
        tidy = is.tidy;
        levels = is.levels;
        written = record { fits = written a.structs b.structs same kind value is.written.fits; sizes = is.written.sizes };
      }
