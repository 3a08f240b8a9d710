-- Two schemas of one program, whatever their defaults: what may be written under a type of the one may be written under it in the other.
use Rattle.std.proofs.Common.{◌≡◌, ℕ, zero, suc, ℤ, Bool, true, false, cond, List, [], ◌∷◌, Option, Some, sym, ◌∙◌, subst}
use Rattle.std.specs.Prelude.{MatchOption}
use Rattle.std.specs.List.{slice_get, AllByRecursion, AllZip}
use Rattle.std.specs.Ordering.{int_eq}
use Rattle.std.proofs.lemmas.List.Elements.{All-from_recursion, recursion_from_All}
use Rattle.idl_include.specs.Program.{Program}
use Rattle.thrift_value.specs.Tree.{Tree, of_bool, of_i8, of_i16, of_i32, of_i64, of_double, of_bytes, of_struct, of_map, of_set, of_list, of_uuid, FieldTrees, no_fields, field, ItemTrees, no_items, item, PairTrees, no_pairs, pair}
use Rattle.schema.specs.declared.types.FieldNeed.TheVariants.{Required}
use Rattle.schema.specs.declared.types.FieldsKind.{FieldsKind}
use Rattle.schema.specs.PlainKind.{PlainKind, kind_bool, kind_i8, kind_i16, kind_i32, kind_i64, kind_double, kind_text, kind_binary, kind_uuid, kind_enum, kind_struct, kind_map, kind_set, kind_list}
use Rattle.schema.specs.PlainSchema.{PlainField, PlainStruct, PlainSchema}
use Rattle.schema.specs.WrittenAs.{field_with_id, HasFieldTree, HasItsFields, IsWrittenAs, AreFieldsWrittenAs, AreItemsWrittenAs, ArePairsWrittenAs}
use Rattle.check_model.specs.FieldLists.{NumberedField, FieldsDecl, fields_by_id, field_lists}
use Rattle.check_model.specs.SchemaParts.{DefaultRule, IsFieldOf, IsStructFrom, IsSchemaWith}
use Rattle.check_model.proofs.Meanings.{one_meaning}

-- two fields have one id and one type, and have to be there alike
pub record AreAlikeFields (f g : PlainField) : Type 0 where
  pub id : f.id ≡ g.id
  pub need : g.need ≡ f.need
  pub kind : f.kind ≡ g.kind

-- the same of the fields of two structs of one kind
pub record AreAlikeStructs (a b : PlainStruct) : Type 0 where
  pub kind : b.kind ≡ a.kind
  pub fields : AllZip AreAlikeFields a.fields b.fields

-- what two lists have to do with a third they have to do with one another
zip_join : {A B C : Type 0} (R : A → B → Type 0) (S : A → C → Type 0) (T : B → C → Type 0) → ((x : A) (y : B) (z : C) → R x y → S x z → T y z)
    → (xs : List A) (ys : List B) (zs : List C) → AllZip R xs ys → AllZip S xs zs → AllZip T ys zs
zip_join R S T join [] [] [] h k = tt
zip_join R S T join [] [] (z ∷ zs) h k = absurd k
zip_join R S T join [] (y ∷ ys) zs h k = absurd h
zip_join R S T join (x ∷ xs) [] zs h k = absurd h
zip_join R S T join (x ∷ xs) (y ∷ ys) [] h k = absurd k
zip_join R S T join (x ∷ xs) (y ∷ ys) (z ∷ zs) h k = (join x y z h.0 k.0, zip_join R S T join xs ys zs h.1 k.1)

module _ (A B : DefaultRule) (program : Program) where
  fields_of_one : (file : ℕ) (list : FieldsKind) (d : NumberedField) (f g : PlainField) → IsFieldOf A program file list d f → IsFieldOf B program file list d g → AreAlikeFields f g
  fields_of_one file list d f g is this = record {
    id = is.id ∙ sym this.id;
    need = this.need ∙ sym is.need;
    kind = one_meaning program file d.decl.type f.kind g.kind is.kind this.kind;
  }

  structs_of_one : (d : FieldsDecl) (a b : PlainStruct) → IsStructFrom A program d a → IsStructFrom B program d b → AreAlikeStructs a b
  structs_of_one d a b is this = record {
    kind = this.kind ∙ sym is.kind;
    fields = zip_join (IsFieldOf A program d.file d.kind) (IsFieldOf B program d.file d.kind) AreAlikeFields (fields_of_one d.file d.kind) (fields_by_id d.fields) a.fields b.fields is.fields this.fields;
  }

  pub alike_structs : (a b : PlainSchema) → IsSchemaWith A program a → IsSchemaWith B program b → AllZip AreAlikeStructs a.structs b.structs
  alike_structs a b is this =
      zip_join (IsStructFrom A program) (IsStructFrom B program) AreAlikeStructs structs_of_one (field_lists program) a.structs b.structs is.structs this.structs

-- what is said of the struct at a place
struct_at : (first second : List PlainStruct) → AllZip AreAlikeStructs first second → (which : ℕ) (P Q : PlainStruct → Type 0) → ((s t : PlainStruct) → AreAlikeStructs s t → P s → Q t)
    → MatchOption (slice_get first which) ⊥ P → MatchOption (slice_get second which) ⊥ Q
struct_at [] second alike which P Q on h = absurd h
struct_at (s ∷ ss) [] alike which P Q on h = absurd alike
struct_at (s ∷ ss) (t ∷ ts) alike zero P Q on h = on s t alike.0 h
struct_at (s ∷ ss) (t ∷ ts) alike (suc which) P Q on h = struct_at ss ts alike.1 which P Q on h

-- what is said of the field of an id
field_by : (b : Bool) (f g : PlainField) (rest others : Option PlainField) (P Q : PlainField → Type 0) → (P f → Q g) → (MatchOption rest ⊥ P → MatchOption others ⊥ Q)
    → MatchOption (cond b (Some f) rest) ⊥ P → MatchOption (cond b (Some g) others) ⊥ Q
field_by true f g rest others P Q on more h = on h
field_by false f g rest others P Q on more h = more h

field_at : (fs gs : List PlainField) → AllZip AreAlikeFields fs gs → (id : ℤ) (P Q : PlainField → Type 0) → ((f g : PlainField) → AreAlikeFields f g → P f → Q g)
    → MatchOption (field_with_id id fs) ⊥ P → MatchOption (field_with_id id gs) ⊥ Q
field_at [] gs alike id P Q on h = absurd h
field_at (f ∷ fs) [] alike id P Q on h = absurd alike
field_at (f ∷ fs) (g ∷ gs) alike id P Q on h =
    subst (λ i. MatchOption (cond (int_eq i id) (Some g) (field_with_id id gs)) ⊥ Q) alike.0.id
    (field_by (int_eq f.id id) f g (field_with_id id fs) (field_with_id id gs) P Q (on f g alike.0) (field_at fs gs alike.1 id P Q on) h)

required_alike : (fs gs : List PlainField) → AllZip AreAlikeFields fs gs → (made : FieldTrees) → AllByRecursion (λ (f : PlainField). f.need ≡ Required → HasFieldTree f.id made) fs
    → AllByRecursion (λ (f : PlainField). f.need ≡ Required → HasFieldTree f.id made) gs
required_alike [] [] alike made h = tt
required_alike [] (g ∷ gs) alike made h = absurd alike
required_alike (f ∷ fs) [] alike made h = absurd alike
required_alike (f ∷ fs) (g ∷ gs) alike made h =
    ((λ need. subst (λ i. HasFieldTree i made) alike.0.id (h.0 (sym alike.0.need ∙ need))), required_alike fs gs alike.1 made h.1)

its_alike : (s t : PlainStruct) → AreAlikeStructs s t → (made : FieldTrees) → HasItsFields s made → HasItsFields t made
its_alike s t alike made h = record {
  required = All-from_recursion (λ (f : PlainField). f.need ≡ Required → HasFieldTree f.id made) t.fields
      (required_alike s.fields t.fields alike.fields made (recursion_from_All (λ (f : PlainField). f.need ≡ Required → HasFieldTree f.id made) s.fields h.required));
  of_union = λ union. h.of_union (sym alike.kind ∙ union);
}

module _ (first second : List PlainStruct) (alike : AllZip AreAlikeStructs first second) where
  mutual
    pub written_alike : (kind : PlainKind) (value : Tree) → IsWrittenAs first kind value → IsWrittenAs second kind value
    written_alike kind_bool (of_bool _) h = tt
    written_alike kind_i8 (of_i8 _) h = tt
    written_alike kind_i16 (of_i16 _) h = tt
    written_alike kind_i32 (of_i32 _) h = tt
    written_alike kind_i64 (of_i64 _) h = tt
    written_alike kind_double (of_double _) h = tt
    written_alike kind_uuid (of_uuid _) h = tt
    written_alike kind_text (of_bytes _) h = tt
    written_alike kind_binary (of_bytes _) h = tt
    written_alike (kind_enum _) (of_i32 _) h = tt
    written_alike (kind_struct which) (of_struct made) h =
        struct_at first second alike which (λ s. HasItsFields s made × AreFieldsWrittenAs first s.fields made) (λ t. HasItsFields t made × AreFieldsWrittenAs second t.fields made)
        (λ s t both k. (its_alike s t both made k.0, fields_alike s.fields t.fields both.fields made k.1)) h
    written_alike (kind_map key value) (of_map _ _ pairs) h = pairs_alike key value pairs h
    written_alike (kind_set member) (of_set _ items) h = items_alike member items h
    written_alike (kind_list element) (of_list _ items) h = items_alike element items h
    written_alike _ _ h = absurd h

    fields_alike : (fs gs : List PlainField) → AllZip AreAlikeFields fs gs → (made : FieldTrees) → AreFieldsWrittenAs first fs made → AreFieldsWrittenAs second gs made
    fields_alike fs gs both no_fields h = tt
    fields_alike fs gs both (field id value more) h = (
      field_at fs gs both id (λ f. IsWrittenAs first f.kind value) (λ g. IsWrittenAs second g.kind value)
          (λ f g one k. subst (λ kind. IsWrittenAs second kind value) one.kind (written_alike f.kind value k)) h.0,
      fields_alike fs gs both more h.1,
    )

    items_alike : (kind : PlainKind) (items : ItemTrees) → AreItemsWrittenAs first kind items → AreItemsWrittenAs second kind items
    items_alike kind no_items h = tt
    items_alike kind (item value more) h = (written_alike kind value h.0, items_alike kind more h.1)

    pairs_alike : (key value : PlainKind) (pairs : PairTrees) → ArePairsWrittenAs first key value pairs → ArePairsWrittenAs second key value pairs
    pairs_alike key value no_pairs h = tt
    pairs_alike key value (pair k v more) h = (written_alike key k h.0, written_alike value v h.1, pairs_alike key value more h.2)
