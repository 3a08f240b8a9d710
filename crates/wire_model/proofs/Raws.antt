-- What is spelled is well tagged, in range, of small sizes, and plain.
use Rattle.std.specs.Prelude.{ℤ, pos, FitsSigned}
use Rattle.std.specs.Int.{w16}
use Rattle.std.proofs.Common.{◌≡◌, ℕ, suc, List, inl, inr, refl, sym, ap, subst, ◌∙◌}
use Rattle.thrift_value.specs.declared.tag.Tag.{Tag}
use Rattle.thrift_value.specs.declared.tag.Tag.TheVariants as tags
use Rattle.thrift_value.specs.Tree.{Tree, of_bytes, of_struct, of_map, of_set, of_list, FieldTrees, no_fields, field, ItemTrees, no_items, item, PairTrees, no_pairs, pair}
use Rattle.thrift_value.specs.Tags.{tag_of}
use Rattle.thrift_value.specs.Plain.{plain, plain_fields, plain_items, plain_pairs}
use Rattle.thrift_value.specs.Ranges.{IsInRange, AreFieldsInRange, AreItemsInRange, ArePairsInRange}
use Rattle.thrift_value.specs.Tidy.{IsWellTagged, AreWellTaggedFields, AreWellTaggedItems, AreWellTaggedPairs}
use Rattle.wire_model.specs.Wire.{Wire}
use Rattle.wire_model.specs.Format.{Format, IsField, Spells, SpellsFields, SpellsItems, SpellsPairs}
use Rattle.thrift_value.specs.Sizes.{items_len, pairs_len}
use Rattle.wire_model.specs.Protocol.{IsProtocol}
use Rattle.wire_model.specs.Encoder.{Encoder}
use Rattle.thrift_value.specs.Sizes.{HasSmallSizes, HaveFieldsSmallSizes, HaveItemsSmallSizes, HavePairsSmallSizes}

abbrev pub IsRaw : Tree → Type 0
IsRaw x = IsWellTagged x × IsInRange x × HasSmallSizes x × (plain x ≡ x)

abbrev AreRawFields : FieldTrees → Type 0
AreRawFields fs = AreWellTaggedFields fs × AreFieldsInRange fs × HaveFieldsSmallSizes fs × (plain_fields fs ≡ fs)

abbrev AreRawItems : Tag → ItemTrees → Type 0
AreRawItems t xs = AreWellTaggedItems t xs × AreItemsInRange xs × HaveItemsSmallSizes xs × (plain_items xs ≡ xs)

abbrev AreRawPairs : Tag → Tag → PairTrees → Type 0
AreRawPairs t u ps = AreWellTaggedPairs t u ps × ArePairsInRange ps × HavePairsSmallSizes ps × (plain_pairs ps ≡ ps)

raw_field : (wire : Wire) (format : Format) (encoder : Encoder) (p : IsProtocol wire format encoder) (last id : ℤ) (x : Tree) (text : List ℕ)
    → ((back : List ℕ) → Spells format x back → IsRaw x) → IsField format last id x (Spells format x) text → FitsSigned w16 id × IsRaw x
raw_field wire format encoder p last id x text raw (inl k) = (p.id last id (tag_of x) k.front k.first, raw k.back k.second)
raw_field wire format encoder p last id x text raw (inr k) =
    (p.flagged_id last id k.flag text k.header, subst IsRaw (sym k.is_bool) (tt, tt, tt, refl))

same_pair : (k l x y : Tree) (ps qs : PairTrees) → k ≡ l → x ≡ y → ps ≡ qs → pair k x ps ≡ pair l y qs
same_pair k l x y ps qs a b c = ap (λ (z : Tree). pair z x ps) a ∙ ap (λ (z : Tree). pair l z ps) b ∙ ap (λ (z : PairTrees). pair l y z) c

module _ (wire : Wire) (format : Format) (encoder : Encoder) (p : IsProtocol wire format encoder) where
  mutual
    pub raw_value : (x : Tree) (text : List ℕ) → Spells format x text → IsRaw x
    raw_value (of_bytes bytes) text h = let r = p.span_range bytes text h in (tt, r.1, r.0, refl)
    raw_value (of_struct fs) text h = let r = raw_fields fs (pos 0) text h in (r.0, r.1, r.2, ap (λ (z : FieldTrees). of_struct z) r.3)
    raw_value (of_map t u no_pairs) text j =
        let s = p.pairs_range t u 0 j.front j.first in
        (tt, tt, (s.0, tt), ap (λ (k : Tag). of_map k tags.Bool no_pairs) s.1 ∙ ap (λ (k : Tag). of_map t k no_pairs) s.2)
    raw_value (of_map t u (pair k x ps)) text j =
        let s = p.pairs_range t u (suc (pairs_len ps)) j.front j.first in
        let r = raw_pairs (pair k x ps) t u j.back j.second in
        (r.0, r.1, (s.0, r.2), ap (λ (z : PairTrees). of_map t u z) r.3)
    raw_value (of_set t no_items) text j =
        let s = p.items_range t 0 j.front j.first in (tt, tt, (s.0, tt), ap (λ (k : Tag). of_set k no_items) s.1)
    raw_value (of_set t (item x xs)) text j =
        let s = p.items_range t (suc (items_len xs)) j.front j.first in
        let r = raw_items (item x xs) t j.back j.second in
        (r.0, r.1, (s.0, r.2), ap (λ (z : ItemTrees). of_set t z) r.3)
    raw_value (of_list t no_items) text j =
        let s = p.items_range t 0 j.front j.first in (tt, tt, (s.0, tt), ap (λ (k : Tag). of_list k no_items) s.1)
    raw_value (of_list t (item x xs)) text j =
        let s = p.items_range t (suc (items_len xs)) j.front j.first in
        let r = raw_items (item x xs) t j.back j.second in
        (r.0, r.1, (s.0, r.2), ap (λ (z : ItemTrees). of_list t z) r.3)
    raw_value x text h = (tt, p.scalar_range x text tt h, tt, refl)

    raw_fields : (fs : FieldTrees) (last : ℤ) (text : List ℕ) → SpellsFields format last fs text → AreRawFields fs
    raw_fields no_fields last text h = (tt, tt, tt, refl)
    raw_fields (field id x xs) last text j =
        let a = raw_field wire format encoder p last id x j.front (λ back h. raw_value x back h) j.first in
        let r = raw_fields xs id j.back j.second in
        ((a.1.0, r.0), (a.0, a.1.1, r.1), (a.1.2, r.2), ap (λ (z : Tree). field id z (plain_fields xs)) a.1.3 ∙ ap (λ (z : FieldTrees). field id x z) r.3)

    raw_items : (xs : ItemTrees) (t : Tag) (text : List ℕ) → SpellsItems format t xs text → AreRawItems t xs
    raw_items no_items t text h = (tt, tt, tt, refl)
    raw_items (item x xs) t text h =
        let a = raw_value x h.1.front h.1.first in
        let r = raw_items xs t h.1.back h.1.second in
        ((h.0, a.0, r.0), (a.1, r.1), (a.2, r.2), ap (λ (z : Tree). item z (plain_items xs)) a.3 ∙ ap (λ (z : ItemTrees). item x z) r.3)

    raw_pairs : (ps : PairTrees) (t u : Tag) (text : List ℕ) → SpellsPairs format t u ps text → AreRawPairs t u ps
    raw_pairs no_pairs t u text h = (tt, tt, tt, refl)
    raw_pairs (pair k x ps) t u text h =
        let a = raw_value k h.2.front h.2.first in
        let b = raw_value x h.2.second.front h.2.second.first in
        let r = raw_pairs ps t u h.2.second.back h.2.second.second in
        ((h.0, h.1, a.0, b.0, r.0), (a.1, b.1, r.1), (a.2, b.2, r.2), same_pair (plain k) k (plain x) x (plain_pairs ps) ps a.3 b.3 r.3)
