-- Constant values, and those that a program gives, may be written as the types that they are evaluated against.
use Rattle.std.proofs.Common.{◌≡◌, ℕ, zero, suc, ◌<◌, Bool, true, false, List, [], ◌∷◌, length, get_or, Option, Some, None, refl, sym, ◌∙◌, subst, arith, All}
use Rattle.std.specs.Prelude.{slice_get, slice_set}
use Rattle.std.specs.List.{AllByRecursion, AllZip}
use Rattle.std.proofs.lemmas.List.Elements.{recursion_from_All}
use Rattle.idl_include.specs.ConstExpr.{ConstExpr}
use Rattle.idl_include.specs.Numbering.{Filed}
use Rattle.idl_include.specs.Program.{Program}
use Rattle.idl_include.specs.Spots.{GivenValue, values_of}
use Rattle.thrift_value.specs.Tree.{Tree}
use Rattle.schema.specs.declared.types.FieldNeed.TheVariants.{Required, Optional}
use Rattle.schema.specs.declared.types.FieldsKind.TheVariants as fields
use Rattle.schema.specs.PlainKind.{PlainKind}
use Rattle.schema.specs.PlainSchema.{PlainField, PlainStruct, PlainSchema}
use Rattle.schema.specs.Sound.{IsKindIn, IsSoundField, IsSoundStruct, IsValueOf}
use Rattle.check_model.specs.FieldLists.{NumberedField, FieldsDecl, fields_by_id, field_lists}
use Rattle.check_model.specs.SchemaParts.{NoDefault, IsFieldOf, IsStructFrom, IsSchemaWith, IsPartialSchema}
use Rattle.check_model.specs.ProgramSchema.{DefaultIn}
use Rattle.check_model.specs.Worths.{valued, const_cycle, most_const_levels}
use Rattle.check_model.specs.Evaluation.{Setting, NamedWorth, struct_numbered, on_entering, named_worth, is_free, all_free, evaluated, given_worth}
use Rattle.idl_const.specs.ShortLiterals.{HasShortLiterals, GivesShortLiterals}
use Rattle.idl_const.proofs.AlikeSchemas.{alike_structs, written_alike}
use Rattle.idl_const.proofs.Inverting.{no_flaw}
use Rattle.idl_const.proofs.DeclaredFields.{AreRising, rising_from, found_again, IsDeclared, all_declared, each_among}
use Rattle.idl_const.proofs.FieldsWritten.{IsMade, AreMade}
use Rattle.idl_const.proofs.WorthWritten.{HasGoodFields, worth_made}

-- what a list is made of, at one place
zip_at : {A B : Type 0} (R : A → B → Type 0) (xs : List A) (ys : List B) (k : ℕ) (d : B) → AllZip R xs ys → k < length ys → (x : A) × R x (get_or ys k d)
zip_at R [] [] k d h inside = absurd (omega (arith, inside))
zip_at R [] (y ∷ ys) k d h inside = absurd h
zip_at R (x ∷ xs) [] k d h inside = absurd h
zip_at R (x ∷ xs) (y ∷ ys) zero d h inside = (x, h.0)
zip_at R (x ∷ xs) (y ∷ ys) (suc k) d h inside = zip_at R xs ys k d h.1 (omega (arith, inside))

-- no field of a union is required
no_need : (program : Program) (file : ℕ) (decls : List NumberedField) (plain : List PlainField) → AllZip (IsFieldOf NoDefault program file fields.Union) decls plain
    → AllByRecursion (λ (f : PlainField). f.need ≡ Required → ⊥) plain
no_need program file [] [] h = tt
no_need program file [] (p ∷ ps) h = absurd h
no_need program file (d ∷ ds) [] h = absurd h
no_need program file (d ∷ ds) (p ∷ ps) h = ((λ is. (let both : Optional ≡ Required = sym h.0.need ∙ is in cc)), no_need program file ds ps h.1)

union_from : (program : Program) (d : FieldsDecl) (p : PlainStruct) → IsStructFrom NoDefault program d p → p.kind ≡ fields.Union → AllByRecursion (λ (f : PlainField). f.need ≡ Required → ⊥) p.fields
union_from program d p is union =
    no_need program d.file (fields_by_id d.fields) p.fields
    (subst (λ k. AllZip (IsFieldOf NoDefault program d.file k) (fields_by_id d.fields) p.fields) (sym is.kind ∙ union) is.fields)

declared_all : (schema : PlainSchema) (items : List PlainField) → AreRising items → AllByRecursion (IsSoundField schema) items → AllByRecursion (IsDeclared schema items) items
declared_all schema items rising each =
    all_declared schema items items (λ f m. record { found = found_again items f rising m; kind = (each_among (IsSoundField schema) items f each m).kind })

-- the structs of a schema
good_fields : (program : Program) (schema : PlainSchema) → IsPartialSchema program schema → All (IsSoundStruct schema) schema.structs → (which : ℕ) → which < length schema.structs → HasGoodFields schema (struct_numbered schema which)
good_fields program schema partial sound which inside =
    let d = struct_numbered schema which in
    let is : IsSoundStruct schema d = sound which _ inside in
    let rising : AreRising d.fields = rising_from d.fields is.fields.rising in
    let from = zip_at (IsStructFrom NoDefault program) (field_lists program) schema.structs which (record { file = 0; name = []; kind = fields.Struct; fields = [] }) partial.made.structs inside in
    record {
      rising = rising;
      declared = declared_all schema d.fields rising (recursion_from_All (IsSoundField schema) d.fields is.fields.each);
      of_union = λ union. union_from program from.0 d from.1 union;
    }

module _ (s : Setting) (partial : IsPartialSchema s.program s.schema) (sound : All (IsSoundStruct s.schema) s.schema.structs) (short : GivesShortLiterals s.program) where
  entering : (named : NamedWorth) → AreMade s.schema named → (b : Bool) (o : Option (Filed GivenValue)) → ((g : Filed GivenValue) → o ≡ Some g → HasShortLiterals g.item.tree)
      → (kind : PlainKind) (levels count : ℕ) (v : Tree) (n : ℕ) → IsKindIn s.schema kind → on_entering s named b o kind levels count ≡ valued v n → IsMade s.schema.structs kind levels count v n
  entering named are true (Some g) few kind levels count v n known e =
      worth_made s named g.file (good_fields s.program s.schema partial sound) are kind levels count g.item.tree v n known (few g refl) e
  entering named are true None few kind levels count v n known e = absurd (no_flaw (record { line = 0; column = 0 }) const_cycle v n e)
  entering named are false None few kind levels count v n known e = absurd (no_flaw (record { line = 0; column = 0 }) const_cycle v n e)
  entering named are false (Some g) few kind levels count v n known e = absurd (no_flaw (record { line = 0; column = 0 }) const_cycle v n e)

  named_made : (left : ℕ) (free : List Bool) → AreMade s.schema (named_worth s left free)
  unfolding named_worth
  named_made zero free which kind levels count v n known e = absurd (no_flaw (record { line = 0; column = 0 }) const_cycle v n e)
  named_made (suc left) free which kind levels count v n known e =
      entering (named_worth s left (slice_set free which false)) (named_made left (slice_set free which false)) (is_free free which) (slice_get (values_of s.program) which)
      (short which) kind levels count v n known e

  value_of : (kind : PlainKind) (v : Tree) (n : ℕ) → IsMade s.schema.structs kind 64 0 v n → IsValueOf s.schema kind v
  value_of kind v n made = record {
    tidy = record { tagged = made.element.tagged; in_order = made.element.ordered };
    levels = made.element.deep;
    written = record { fits = made.element.written; sizes = made.element.small };
  }

  pub evaluated_written : (file : ℕ) (kind : PlainKind) (tree : ConstExpr) (value : Tree) (count : ℕ) → IsKindIn s.schema kind → HasShortLiterals tree
      → evaluated s file kind tree ≡ valued value count → IsValueOf s.schema kind value
  unfolding evaluated most_const_levels
  evaluated_written file kind tree value count known few e =
      value_of kind value count (worth_made s (named_worth s (length (values_of s.program)) (all_free s.program)) file (good_fields s.program s.schema partial sound)
      (named_made (length (values_of s.program)) (all_free s.program)) kind 64 0 tree value count known few e)

  pub given_written : (which : ℕ) (kind : PlainKind) (v : Filed GivenValue) (value : Tree) (count : ℕ) → IsKindIn s.schema kind → HasShortLiterals v.item.tree
      → given_worth s which kind v ≡ valued value count → IsValueOf s.schema kind value
  unfolding given_worth most_const_levels
  given_written which kind v value count known few e =
      value_of kind value count (worth_made s (named_worth s (length (values_of s.program)) (slice_set (all_free s.program) which false)) v.file (good_fields s.program s.schema partial sound)
      (named_made (length (values_of s.program)) (slice_set (all_free s.program) which false)) kind 64 0 v.item.tree value count known few e)

-- the same under the whole schema of the program
pub given_written_whole : (program : Program) (partial whole : PlainSchema) → IsPartialSchema program partial → IsSchemaWith (DefaultIn (record { program = program; schema = partial })) program whole
    → All (IsSoundStruct partial) partial.structs → GivesShortLiterals program
    → (which : ℕ) (kind : PlainKind) (v : Filed GivenValue) (value : Tree) (count : ℕ) → IsKindIn partial kind → HasShortLiterals v.item.tree
    → given_worth (record { program = program; schema = partial }) which kind v ≡ valued value count → IsValueOf whole kind value
given_written_whole program partial whole made this sound short which kind v value count known few e =
    let s : Setting = record { program = program; schema = partial } in
    let is = given_written s made sound short which kind v value count known few e in
    record {
      tidy = is.tidy;
      levels = is.levels;
      written = record {
        fits = written_alike partial.structs whole.structs (alike_structs NoDefault (DefaultIn s) program partial whole made.made this) kind value is.written.fits;
        sizes = is.written.sizes;
      };
    }
