-- A value has a meaning under the type that it was written under.
use Rattle.std.proofs.Common.{◌≡◌, ℕ, refl, sym, ap, subst, ◌∙◌}
use Rattle.std.specs.Prelude.{IsOk, is_some}
use Rattle.std.specs.List.{slice_get}
use Rattle.thrift_value.specs.Plain.{plain}
use Rattle.thrift_value.specs.Tidy.{IsTidy}
use Rattle.thrift_value.specs.Tree.{Tree}
use Rattle.schema.specs.PlainKind.{PlainKind, kind_bool, kind_i8, kind_i16, kind_i32, kind_i64, kind_double, kind_text, kind_binary, kind_uuid, kind_enum, kind_struct, kind_map, kind_set, kind_list}
use Rattle.schema.specs.PlainSchema.{PlainField, PlainStruct, PlainSchema}
use Rattle.schema.specs.Sound.{IsSound}
use Rattle.schema.specs.WrittenAs.{IsWrittenAs}
use Rattle.struct_skew.specs.Projection.{meaning_of}
use Rattle.struct_skew.proofs.Deciding.{union_kind}
use Rattle.compat_model.proofs.FoundIn.{same_some}
use Rattle.compat_model.proofs.Likenesses.{AreLikeIn}
use Rattle.compat_model.proofs.ReadValues.{ReadsStruct, AreClosedPairs, read}

-- a struct is read by itself
abbrev AreSame : ℕ → ℕ → Type 0
AreSame a b = a ≡ b

like_itself : (k : PlainKind) → AreLikeIn AreSame (⊥) k k
like_itself kind_bool = refl
like_itself kind_i8 = refl
like_itself kind_i16 = refl
like_itself kind_i32 = refl
like_itself kind_i64 = refl
like_itself kind_double = refl
like_itself kind_uuid = refl
like_itself kind_text = refl
like_itself kind_binary = refl
like_itself (kind_enum _) = refl
like_itself (kind_struct _) = refl
like_itself (kind_map key value) = ((λ never. absurd never), like_itself key, like_itself value)
like_itself (kind_set member) = ((λ never. absurd never), like_itself member)
like_itself (kind_list element) = like_itself element

module _ (s : PlainSchema) where
  reads_itself : (d : PlainStruct) → ReadsStruct s s AreSame (⊥) d d
  reads_itself d = record {
    union = (union_kind d.kind).0;
    known = λ union f id finds. ap is_some finds;
    like =
        λ id f g of_f of_g.
        subst (λ (x : PlainField). AreLikeIn AreSame (⊥) f.kind x.kind) (same_some f g (sym of_f ∙ of_g)) (like_itself f.kind);
    required = λ g finds need. (g, finds, need);
  }

  closed : AreClosedPairs s s AreSame (⊥)
  closed a b same d e there here =
      subst (ReadsStruct s s AreSame (⊥) d) (same_some d e (sym there ∙ ap (slice_get s.structs) same ∙ here)) (reads_itself d)

  pub has_meaning : (kind : PlainKind) (v : Tree) → IsSound s → IsTidy v → IsWrittenAs s.structs kind v → IsOk (meaning_of s.structs (plain v) kind)
  has_meaning kind v sound tidy typed =
      let reading = read s s AreSame (⊥) sound.all_else.structs closed kind kind v (like_itself kind) tidy typed in
      subst IsOk (sym reading.means) refl
