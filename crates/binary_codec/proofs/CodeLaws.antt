-- Codes and tags.
use Rattle.std.proofs.Common.{◌≡◌, ℕ, ◌<◌, Bool, true, false, cond, eqb, Option, Some, None, Ok, refl, sym, ap, ◌∙◌, arith}
use Rattle.std.proofs.lemmas.Bool.{eqb-true}
use Rattle.thrift_value.specs.declared.tag.Tag.{Tag}
use Rattle.thrift_value.specs.declared.tag.Tag.TheVariants as tags
use Rattle.wire_model.specs.Decoder.{Unread}
use Rattle.wire_model.proofs.Steps.{ok_is}
use Rattle.binary_codec.specs.Codes.{code_of, tag_of_code}
use Rattle.wire_model.specs.Pieces.{tag_or_fault}
use Rattle.binary_codec.specs.Reading.{tag_coded}

abbrev some_tag : Tag → Option Tag
some_tag t = Some t

same_tag : (t u : Tag) → some_tag t ≡ some_tag u → t ≡ u
same_tag t u e = cc

code_by : (b : Bool) (code k : ℕ) (u t : Tag) (others : Option Tag) → code_of u ≡ k → (others ≡ Some t → code ≡ code_of t) → eqb code k ≡ b → cond b (Some u) others ≡ Some t
    → code ≡ code_of t
code_by true code k u t others is more test e = eqb-true code k test ∙ sym is ∙ ap code_of (same_tag u t e)
code_by false code k u t others is more test e = more e

code_if : (code k : ℕ) (u t : Tag) (others : Option Tag) → code_of u ≡ k → (others ≡ Some t → code ≡ code_of t) → cond (eqb code k) (Some u) others ≡ Some t → code ≡ code_of t
code_if code k u t others is more e = code_by (eqb code k) code k u t others is more refl e

none_is_some : (code : ℕ) (t : Tag) → None ≡ some_tag t → code ≡ code_of t
none_is_some code t e = absurd cc

-- a code that has a tag is that tag's code
pub code_is : (code : ℕ) (t : Tag) → tag_of_code code ≡ Some t → code ≡ code_of t
unfolding tag_of_code
code_is code t e =
    code_if code 2 tags.Bool t _ refl (λ e. code_if code 3 tags.I8 t _ refl (λ e. code_if code 4 tags.Double t _ refl (λ e. code_if code 6 tags.I16 t _ refl
    (λ e. code_if code 8 tags.I32 t _ refl (λ e. code_if code 10 tags.I64 t _ refl (λ e. code_if code 11 tags.Bytes t _ refl (λ e. code_if code 12 tags.Struct t _ refl
    (λ e. code_if code 13 tags.Map t _ refl (λ e. code_if code 14 tags.Set t _ refl (λ e. code_if code 15 tags.List t _ refl (λ e. code_if code 16 tags.Uuid t _ refl (none_is_some code t) e) e) e) e) e) e) e) e) e) e) e) e

pub tag_is : (t : Tag) → tag_of_code (code_of t) ≡ Some t
unfolding tag_of_code
tag_is tags.Bool = refl
tag_is tags.I8 = refl
tag_is tags.I16 = refl
tag_is tags.I32 = refl
tag_is tags.I64 = refl
tag_is tags.Double = refl
tag_is tags.Bytes = refl
tag_is tags.Struct = refl
tag_is tags.Map = refl
tag_is tags.Set = refl
tag_is tags.List = refl
tag_is tags.Uuid = refl

-- each code is a byte, and none is that of a struct's end
pub code_small : (t : Tag) → (code_of t < 256) × (0 < code_of t)
code_small tags.Bool = (omega arith, omega arith)
code_small tags.I8 = (omega arith, omega arith)
code_small tags.I16 = (omega arith, omega arith)
code_small tags.I32 = (omega arith, omega arith)
code_small tags.I64 = (omega arith, omega arith)
code_small tags.Double = (omega arith, omega arith)
code_small tags.Bytes = (omega arith, omega arith)
code_small tags.Struct = (omega arith, omega arith)
code_small tags.Map = (omega arith, omega arith)
code_small tags.Set = (omega arith, omega arith)
code_small tags.List = (omega arith, omega arith)
code_small tags.Uuid = (omega arith, omega arith)

tag_found_if : (o : Option Tag) (code : ℕ) (before after : Unread) (t : Tag) → tag_of_code code ≡ o → tag_or_fault code o before ≡ Ok (t, after) → (code ≡ code_of t) × (after ≡ before)
tag_found_if None code before after t is e = absurd cc
tag_found_if (Some u) code before after t is e =
    let same : (u, before) ≡ (t, after) = ok_is (u, before) (t, after) e in
    (code_is code u is ∙ ap (λ (y : Tag × Unread). code_of y.0) same, sym (ap (λ (y : Tag × Unread). y.1) same))

pub tag_found : (code : ℕ) (before after : Unread) (t : Tag) → tag_coded code before ≡ Ok (t, after) → (code ≡ code_of t) × (after ≡ before)
unfolding tag_coded
tag_found code before after t e = tag_found_if (tag_of_code code) code before after t refl e

pub tag_given : (t : Tag) (r : Unread) → tag_coded (code_of t) r ≡ Ok (t, r)
unfolding tag_coded
tag_given t r = ap (λ (o : Option Tag). tag_or_fault (code_of t) o r) (tag_is t)
