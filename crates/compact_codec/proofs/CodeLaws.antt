-- Codes and tags.
use Rattle.std.proofs.Common.{◌≡◌, inl, inr, ℕ, zero, suc, ◌<◌, ◌≤◌, Bool, true, false, cond, eqb, Option, Some, None, Ok, Err, refl, sym, ap, subst, ◌∙◌, arith}
use Rattle.std.proofs.lemmas.Bool.{eqb-true, cases_lt}
use Rattle.thrift_value.specs.declared.tag.Tag.{Tag}
use Rattle.thrift_value.specs.declared.tag.Tag.TheVariants as tags
use Rattle.thrift_value.specs.declared.wire_fault.WireFault.{WireFault}
use Rattle.thrift_value.specs.declared.wire_fault.WireFault.TheVariants.{BadType}
use Rattle.wire_model.specs.Decoder.{Unread}
use Rattle.wire_model.specs.Pieces.{tag_or_fault}
use Rattle.wire_model.specs.Protocol.{StaysAs}
use Rattle.wire_model.proofs.Pieces.{tag_stays_if}
use Rattle.wire_model.proofs.Steps.{ok_is}
use Rattle.compact_codec.specs.Codes.{compact_code, IsCompactCode, compact_tag}
use Rattle.compact_codec.specs.Faults.{IsFreeCode, IsTakenCode}
use Rattle.compact_codec.specs.Reading.{tag_in_half}

abbrev some_tag : Tag → Option Tag
some_tag t = Some t

same_tag : (t u : Tag) → some_tag t ≡ some_tag u → t ≡ u
same_tag t u e = cc

-- what holds of a tag at its code holds of the one that is found
code_by : (P : Tag → ℕ → Type 0) (b : Bool) (code k : ℕ) (u t : Tag) (others : Option Tag) → P u k → (others ≡ Some t → P t code) → eqb code k ≡ b → cond b (Some u) others ≡ Some t → P t code
code_by P true code k u t others is more test e = subst (λ (n : ℕ). P t n) (sym (eqb-true code k test)) (subst (λ (v : Tag). P v k) (same_tag u t e) is)
code_by P false code k u t others is more test e = more e

code_if : (P : Tag → ℕ → Type 0) (code k : ℕ) (u t : Tag) (others : Option Tag) → P u k → (others ≡ Some t → P t code) → cond (eqb code k) (Some u) others ≡ Some t → P t code
code_if P code k u t others is more e = code_by P (eqb code k) code k u t others is more refl e

none_is_some : (P : Tag → ℕ → Type 0) (code : ℕ) (t : Tag) → None ≡ some_tag t → P t code
none_is_some P code t e = absurd cc

-- a code that has a tag is one of that tag's codes
abbrev pub IsIts : Tag → ℕ → Type 0
IsIts t code = IsCompactCode t code × IsTakenCode code

pub code_is : (code : ℕ) (t : Tag) → compact_tag code ≡ Some t → IsIts t code
unfolding compact_tag
code_is code t e =
    code_if IsIts code 1 tags.Bool t _ (inl refl, (omega arith, omega arith)) (λ e. code_if IsIts code 2 tags.Bool t _ (inr refl, (omega arith, omega arith)) (λ e. code_if IsIts code 3 tags.I8 t _ (refl, (omega arith, omega arith)) (λ e. code_if IsIts code 4 tags.I16 t _ (refl, (omega arith, omega arith)) (λ e. code_if IsIts code 5 tags.I32 t _ (refl, (omega arith, omega arith)) (λ e. code_if IsIts code 6 tags.I64 t _ (refl, (omega arith, omega arith)) (λ e. code_if IsIts code 7 tags.Double t _ (refl, (omega arith, omega arith)) (λ e. code_if IsIts code 8 tags.Bytes t _ (refl, (omega arith, omega arith)) (λ e. code_if IsIts code 9 tags.List t _ (refl, (omega arith, omega arith)) (λ e. code_if IsIts code 10 tags.Set t _ (refl, (omega arith, omega arith)) (λ e. code_if IsIts code 11 tags.Map t _ (refl, (omega arith, omega arith)) (λ e. code_if IsIts code 12 tags.Struct t _ (refl, (omega arith, omega arith)) (λ e. code_if IsIts code 13 tags.Uuid t _ (refl, (omega arith, omega arith)) (λ e. none_is_some IsIts code t e) e) e) e) e) e) e) e) e) e) e) e) e) e

pub tag_is : (t : Tag) (code : ℕ) → IsCompactCode t code → compact_tag code ≡ Some t
unfolding compact_tag
tag_is tags.Bool code (inl e) = ap compact_tag e
tag_is tags.Bool code (inr e) = ap compact_tag e
tag_is tags.I8 code e = ap compact_tag e
tag_is tags.I16 code e = ap compact_tag e
tag_is tags.I32 code e = ap compact_tag e
tag_is tags.I64 code e = ap compact_tag e
tag_is tags.Double code e = ap compact_tag e
tag_is tags.Bytes code e = ap compact_tag e
tag_is tags.Struct code e = ap compact_tag e
tag_is tags.Map code e = ap compact_tag e
tag_is tags.Set code e = ap compact_tag e
tag_is tags.List code e = ap compact_tag e
tag_is tags.Uuid code e = ap compact_tag e

-- each code that is taken has a tag, and no other
pub taken_tag : (code : ℕ) → IsTakenCode code → (t : Tag) × (compact_tag code ≡ Some t)
unfolding compact_tag
taken_tag zero h = absurd (let l : 0 < 0 = h.0 in let f : ⊥ = omega arith in f)
taken_tag (suc zero) h = (tags.Bool, refl)
taken_tag (suc (suc zero)) h = (tags.Bool, refl)
taken_tag (suc (suc (suc zero))) h = (tags.I8, refl)
taken_tag (suc (suc (suc (suc zero)))) h = (tags.I16, refl)
taken_tag (suc (suc (suc (suc (suc zero))))) h = (tags.I32, refl)
taken_tag (suc (suc (suc (suc (suc (suc zero)))))) h = (tags.I64, refl)
taken_tag (suc (suc (suc (suc (suc (suc (suc zero))))))) h = (tags.Double, refl)
taken_tag (suc (suc (suc (suc (suc (suc (suc (suc zero)))))))) h = (tags.Bytes, refl)
taken_tag (suc (suc (suc (suc (suc (suc (suc (suc (suc zero))))))))) h = (tags.List, refl)
taken_tag (suc (suc (suc (suc (suc (suc (suc (suc (suc (suc zero)))))))))) h = (tags.Set, refl)
taken_tag (suc (suc (suc (suc (suc (suc (suc (suc (suc (suc (suc zero))))))))))) h = (tags.Map, refl)
taken_tag (suc (suc (suc (suc (suc (suc (suc (suc (suc (suc (suc (suc zero)))))))))))) h = (tags.Struct, refl)
taken_tag (suc (suc (suc (suc (suc (suc (suc (suc (suc (suc (suc (suc (suc zero))))))))))))) h = (tags.Uuid, refl)
taken_tag (suc (suc (suc (suc (suc (suc (suc (suc (suc (suc (suc (suc (suc (suc n)))))))))))))) h = absurd (let l : (suc (suc (suc (suc (suc (suc (suc (suc (suc (suc (suc (suc (suc (suc n)))))))))))))) ≤ 13 = h.1 in let f : ⊥ = omega arith in f)

free_above : (code : ℕ) → 13 < code → code < 16 → compact_tag code ≡ None
unfolding compact_tag
free_above zero above small = absurd (let f : ⊥ = omega arith in f)
free_above (suc zero) above small = absurd (let f : ⊥ = omega arith in f)
free_above (suc (suc zero)) above small = absurd (let f : ⊥ = omega arith in f)
free_above (suc (suc (suc zero))) above small = absurd (let f : ⊥ = omega arith in f)
free_above (suc (suc (suc (suc zero)))) above small = absurd (let f : ⊥ = omega arith in f)
free_above (suc (suc (suc (suc (suc zero))))) above small = absurd (let f : ⊥ = omega arith in f)
free_above (suc (suc (suc (suc (suc (suc zero)))))) above small = absurd (let f : ⊥ = omega arith in f)
free_above (suc (suc (suc (suc (suc (suc (suc zero))))))) above small = absurd (let f : ⊥ = omega arith in f)
free_above (suc (suc (suc (suc (suc (suc (suc (suc zero)))))))) above small = absurd (let f : ⊥ = omega arith in f)
free_above (suc (suc (suc (suc (suc (suc (suc (suc (suc zero))))))))) above small = absurd (let f : ⊥ = omega arith in f)
free_above (suc (suc (suc (suc (suc (suc (suc (suc (suc (suc zero)))))))))) above small = absurd (let f : ⊥ = omega arith in f)
free_above (suc (suc (suc (suc (suc (suc (suc (suc (suc (suc (suc zero))))))))))) above small = absurd (let f : ⊥ = omega arith in f)
free_above (suc (suc (suc (suc (suc (suc (suc (suc (suc (suc (suc (suc zero)))))))))))) above small = absurd (let f : ⊥ = omega arith in f)
free_above (suc (suc (suc (suc (suc (suc (suc (suc (suc (suc (suc (suc (suc zero))))))))))))) above small = absurd (let f : ⊥ = omega arith in f)
free_above (suc (suc (suc (suc (suc (suc (suc (suc (suc (suc (suc (suc (suc (suc zero)))))))))))))) above small = refl
free_above (suc (suc (suc (suc (suc (suc (suc (suc (suc (suc (suc (suc (suc (suc (suc zero))))))))))))))) above small = refl
free_above (suc (suc (suc (suc (suc (suc (suc (suc (suc (suc (suc (suc (suc (suc (suc (suc n)))))))))))))))) above small = absurd (let f : ⊥ = omega arith in f)

pub free_tag : (code : ℕ) → IsFreeCode code → compact_tag code ≡ None
unfolding compact_tag
free_tag code (inl e) = ap compact_tag e
free_tag code (inr h) = free_above code h.0 h.1

pub none_is_free : (code : ℕ) → code < 16 → compact_tag code ≡ None → IsFreeCode code
none_is_free zero small none = inl refl
none_is_free (suc n) small none =
    elim (cases_lt 13 (suc n)) [
      | inl above ↦ inr (above, small)
      | inr le ↦
          let t = taken_tag (suc n) (omega arith, le) in
          absurd (let same : some_tag t.0 ≡ None = sym t.1 ∙ none in cc)
    ]

-- ---- as a step of a reading

tag_found_if : (o : Option Tag) (code : ℕ) (before after : Unread) (t : Tag) → compact_tag code ≡ o → tag_or_fault code o before ≡ Ok (t, after) → (compact_tag code ≡ Some t) × (after ≡ before)
tag_found_if None code before after t is e = absurd cc
tag_found_if (Some u) code before after t is e =
    let same : (u, before) ≡ (t, after) = ok_is (u, before) (t, after) e in
    (is ∙ ap (λ (y : Tag × Unread). some_tag y.0) same, sym (ap (λ (y : Tag × Unread). y.1) same))

pub tag_found : (code : ℕ) (before after : Unread) (t : Tag) → tag_in_half code before ≡ Ok (t, after) → IsIts t code × (after ≡ before)
unfolding tag_in_half
tag_found code before after t e =
    let f = tag_found_if (compact_tag code) code before after t refl e in
    (code_is code t f.0, f.1)

pub tag_given : (t : Tag) (code : ℕ) (r : Unread) → IsCompactCode t code → tag_in_half code r ≡ Ok (t, r)
unfolding tag_in_half
tag_given t code r is = ap (λ (o : Option Tag). tag_or_fault code o r) (tag_is t code is)

pub taken_given : (code : ℕ) (r : Unread) → IsTakenCode code → (t : Tag) × (tag_in_half code r ≡ Ok (t, r)) × IsCompactCode t code
unfolding tag_in_half
taken_given code r taken =
    let t = taken_tag code taken in
    (t.0, ap (λ (o : Option Tag). tag_or_fault code o r) t.1, (code_is code t.0 t.1).0)

pub tag_refused : (code : ℕ) (unread : Unread) → IsFreeCode code → tag_in_half code unread ≡ Err (BadType code)
unfolding tag_in_half
tag_refused code unread free = ap (λ (o : Option Tag). tag_or_fault code o unread) (free_tag code free)

tag_fault_if : (o : Option Tag) (code : ℕ) (unread : Unread) (fault : WireFault) → compact_tag code ≡ o → code < 16 → tag_or_fault code o unread ≡ Err fault → (fault ≡ BadType code) × IsFreeCode code
tag_fault_if None code unread fault is small e = (cc, none_is_free code small is)
tag_fault_if (Some t) code unread fault is small e = absurd cc

pub tag_fault : (code : ℕ) (unread : Unread) (fault : WireFault) → code < 16 → tag_in_half code unread ≡ Err fault → (fault ≡ BadType code) × IsFreeCode code
unfolding tag_in_half
tag_fault code unread fault small e = tag_fault_if (compact_tag code) code unread fault refl small e

pub tag_stays : (code : ℕ) → StaysAs (tag_in_half code) (tag_in_half code)
unfolding tag_in_half
tag_stays code = tag_stays_if code (compact_tag code)

-- each code takes half a byte
pub code_half : (t : Tag) (code : ℕ) → IsCompactCode t code → (0 < code) × (code < 16)
code_half tags.Bool code (inl e) = (omega arith, omega arith)
code_half tags.Bool code (inr e) = (omega arith, omega arith)
code_half tags.I8 code e = (omega arith, omega arith)
code_half tags.I16 code e = (omega arith, omega arith)
code_half tags.I32 code e = (omega arith, omega arith)
code_half tags.I64 code e = (omega arith, omega arith)
code_half tags.Double code e = (omega arith, omega arith)
code_half tags.Bytes code e = (omega arith, omega arith)
code_half tags.Struct code e = (omega arith, omega arith)
code_half tags.Map code e = (omega arith, omega arith)
code_half tags.Set code e = (omega arith, omega arith)
code_half tags.List code e = (omega arith, omega arith)
code_half tags.Uuid code e = (omega arith, omega arith)

pub written_code_is : (t : Tag) → IsCompactCode t (compact_code t)
written_code_is tags.Bool = inl refl
written_code_is tags.I8 = refl
written_code_is tags.I16 = refl
written_code_is tags.I32 = refl
written_code_is tags.I64 = refl
written_code_is tags.Double = refl
written_code_is tags.Bytes = refl
written_code_is tags.Struct = refl
written_code_is tags.Map = refl
written_code_is tags.Set = refl
written_code_is tags.List = refl
written_code_is tags.Uuid = refl

pub free_half : (code : ℕ) → IsFreeCode code → code < 16
free_half code (inl e) = omega arith
free_half code (inr h) = h.1
