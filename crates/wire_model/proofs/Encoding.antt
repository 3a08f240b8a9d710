-- What is written is a spelling.
use Rattle.std.specs.Prelude.{ℤ, pos, FitsSigned}
use Rattle.std.specs.Int.{w16}
use Rattle.std.proofs.Common.{◌≡◌, ℕ, suc, Bool, true, false, List, [], ◌++◌, inl, inr, refl, sym, ap, subst, ◌∙◌, append_assoc, rules}
use Rattle.std.proofs.lemmas.List.{append-nil}
use Rattle.thrift_value.specs.declared.tag.Tag.{Tag}
use Rattle.thrift_value.specs.Tree.{Tree, of_bool, of_bytes, of_struct, of_map, of_set, of_list, FieldTrees, no_fields, field, ItemTrees, no_items, item, PairTrees, no_pairs, pair}
use Rattle.thrift_value.specs.Tags.{tag_of}
use Rattle.thrift_value.specs.Plain.{plain, plain_fields, plain_items, plain_pairs, HasMeasuresOf}
use Rattle.thrift_value.specs.Ranges.{IsInRange, AreFieldsInRange, AreItemsInRange, ArePairsInRange}
use Rattle.thrift_value.specs.Tidy.{IsWellTagged, AreWellTaggedFields, AreWellTaggedItems, AreWellTaggedPairs}
use Rattle.wire_model.specs.Wire.{FieldHeader, typed, flagged, Wire}
use Rattle.wire_model.specs.Format.{Format, IsField, Spells, SpellsFields, SpellsItems, SpellsPairs}
use Rattle.thrift_value.specs.Sizes.{items_len, pairs_len}
use Rattle.wire_model.specs.Protocol.{IsProtocol}
use Rattle.wire_model.specs.Encoder.{Encoder, heading, behind_heading, text, fields_text, items_text, pairs_text}
use Rattle.thrift_value.specs.Sizes.{HasSmallSizes, HaveFieldsSmallSizes, HaveItemsSmallSizes, HavePairsSmallSizes}

items_len-plain : (xs : ItemTrees) → items_len xs ≡ items_len (plain_items xs)
items_len-plain no_items = refl
items_len-plain (item x xs) = ap suc (items_len-plain xs)

pairs_len-plain : (ps : PairTrees) → pairs_len ps ≡ pairs_len (plain_pairs ps)
pairs_len-plain no_pairs = refl
pairs_len-plain (pair k x ps) = ap suc (pairs_len-plain ps)

-- a field, from its header and its value
field_written : (format : Format) (flags : Bool) (last id : ℤ) (x : Tree) → tag_of x ≡ tag_of (plain x) → (h body : List ℕ) → format.header last (heading flags id x) h
    → Spells format (plain x) body → IsField format last id (plain x) (Spells format (plain x)) (h ++ behind_heading (heading flags id x) body)
field_written format true last id (of_bool b) same h body first second =
    inr (record { flag = b; is_bool = refl; header = subst (format.header last (flagged id b)) (sym (append-nil h)) first })
field_written format false last id (of_bool b) same h body first second = inl (record { front = h; back = body; whole = refl; first = first; second = second })
field_written format flags last id x same h body first second =
    inl (record { front = h; back = body; whole = refl; first = subst (λ (k : Tag). format.header last (typed id k) h) same first; second = second })

module _ (wire : Wire) (format : Format) (encoder : Encoder) (p : IsProtocol wire format encoder) (measures : (x : Tree) → HasMeasuresOf x (plain x)) where
  mutual
    pub value_written : (x : Tree) → IsWellTagged x → IsInRange x → HasSmallSizes x → Spells format (plain x) (text encoder x)
    value_written (of_bytes bytes) t r s = p.span_written bytes s r
    value_written (of_struct fs) t r s = fields_written fs (pos 0) (search rules) t r s
    value_written (of_map a b no_pairs) t r s =
        record { front = encoder.pairs a b 0; back = []; whole = refl; first = p.pairs_written a b 0 s.0; second = refl }
    value_written (of_map a b (pair k x ps)) t r s =
        record {
          front = encoder.pairs a b (suc (pairs_len ps));
          back = pairs_text encoder (pair k x ps);
          whole = refl;
          first = subst (λ (n : ℕ). format.pairs a b n (encoder.pairs a b (suc (pairs_len ps)))) (ap suc (pairs_len-plain ps)) (p.pairs_written a b (suc (pairs_len ps)) s.0);
          second = pairs_written (pair k x ps) a b t r s.1;
        }
    value_written (of_set a no_items) t r s = record { front = encoder.items a 0; back = []; whole = refl; first = p.items_written a 0 s.0; second = refl }
    value_written (of_set a (item x xs)) t r s =
        record {
          front = encoder.items a (suc (items_len xs));
          back = items_text encoder (item x xs);
          whole = refl;
          first = subst (λ (n : ℕ). format.items a n (encoder.items a (suc (items_len xs)))) (ap suc (items_len-plain xs)) (p.items_written a (suc (items_len xs)) s.0);
          second = items_written (item x xs) a t r s.1;
        }
    value_written (of_list a no_items) t r s = record { front = encoder.items a 0; back = []; whole = refl; first = p.items_written a 0 s.0; second = refl }
    value_written (of_list a (item x xs)) t r s =
        record {
          front = encoder.items a (suc (items_len xs));
          back = items_text encoder (item x xs);
          whole = refl;
          first = subst (λ (n : ℕ). format.items a n (encoder.items a (suc (items_len xs)))) (ap suc (items_len-plain xs)) (p.items_written a (suc (items_len xs)) s.0);
          second = items_written (item x xs) a t r s.1;
        }
    value_written x t r s = p.scalar_written x tt r

    fields_written : (fs : FieldTrees) (last : ℤ) → FitsSigned w16 last → AreWellTaggedFields fs → AreFieldsInRange fs → HaveFieldsSmallSizes fs
        → SpellsFields format last (plain_fields fs) (fields_text encoder last fs)
    fields_written no_fields last fits t r s = p.stop_written last
    fields_written (field id x xs) last fits t r s =
        let h : FieldHeader = heading encoder.flags id x in
        let body = behind_heading h (text encoder x) in
        record {
          front = encoder.header last h ++ body;
          back = fields_text encoder id xs;
          whole = sym (append_assoc (encoder.header last h) body (fields_text encoder id xs));
          first = field_written format encoder.flags last id x (sym (measures x).tag) (encoder.header last h) (text encoder x) (p.header_written last id x fits r.0) (value_written x t.0 r.1 s.0);
          second = fields_written xs id r.0 t.1 r.2 s.1;
        }

    items_written : (xs : ItemTrees) (a : Tag) → AreWellTaggedItems a xs → AreItemsInRange xs → HaveItemsSmallSizes xs → SpellsItems format a (plain_items xs) (items_text encoder xs)
    items_written no_items a t r s = refl
    items_written (item x xs) a t r s =
        ((measures x).tag ∙ t.0, record { front = text encoder x; back = items_text encoder xs; whole = refl; first = value_written x t.1 r.0 s.0; second = items_written xs a t.2 r.1 s.1 })

    pairs_written : (ps : PairTrees) (a b : Tag) → AreWellTaggedPairs a b ps → ArePairsInRange ps → HavePairsSmallSizes ps → SpellsPairs format a b (plain_pairs ps) (pairs_text encoder ps)
    pairs_written no_pairs a b t r s = refl
    pairs_written (pair k x ps) a b t r s = (
      (measures k).tag ∙ t.0,
      (measures x).tag ∙ t.1,
      record {
        front = text encoder k;
        back = text encoder x ++ pairs_text encoder ps;
        whole = refl;
        first = value_written k t.2 r.0 s.0;
        second = record { front = text encoder x; back = pairs_text encoder ps; whole = refl; first = value_written x t.3 r.1 s.1; second = pairs_written ps a b t.4 r.2 s.2 };
      },
    )
