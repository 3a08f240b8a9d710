-- Compact heads: what is read is spelled there, and what is spelled is read, whatever follows.
use Rattle.std.specs.Prelude.{⊤}
use Rattle.std.specs.Int.{w32, cast_signed, cast_unsigned}
use Rattle.std.specs.List.{All}
use Rattle.std.proofs.Common.{◌≡◌, ℕ, ℤ, ◌+◌, ◌*◌, ◌/◌, ◌%◌, ◌^◌, ◌<◌, Bool, true, false, cond, eqb, ltb, List, ◌∷◌, ◌++◌, length, Ok, refl, sym, ap, ◌∙◌, subst, arith, FitsSigned, append_assoc}
use Rattle.std.proofs.lemmas.Bool.{eqb-true, eq-eqb, ltb-true, lt-ltb}
use Rattle.std.proofs.lemmas.Int.{of_z-to_z, to_z-of_z}
use Rattle.std.proofs.lemmas.List.Elements.{All-from_get_or}
use Rattle.wire_num.specs.Varint.{decode_varint, IsVarint, varint_bytes}
use Rattle.wire_num.proofs.Varints.{varint_decodes, put_32}
use Rattle.wire_num.proofs.Widths.{wide_32}
use Rattle.streams.specs.declared.outcomes.EnvelopeFault.TheVariants.{Version, NameSize}
use Rattle.envelope.specs.declared.head.Protocol.TheVariants.{Compact}
use Rattle.envelope.specs.Said.{Said, FitsHead}
use Rattle.envelope.specs.Spelling.{compact_form, compact_id, compact_name, compact_text, IsCompactSpelling}
use Rattle.envelope.specs.Readout.{head_bytes, in_head, head_byte, head_varint, accepted, sized_name, compact_rest, compact_head}
use Rattle.envelope.proofs.Pieces.{AreBytes, ok, fail, bind_found, bind_only, same_ok, decoded_in_head, all_bytes, bytes_behind, piece_found, piece_only, byte_found, byte_only, Found}

-- a varint in front
record IsVarintFront (bytes : List ℕ) (n : ℕ) (rest : List ℕ) : Type 0 where
  text : List ℕ
  whole : bytes ≡ text ++ rest
  spelled : IsVarint w32 n text
  rest_bytes : AreBytes rest

varint_found : (bytes : List ℕ) (r : ℕ × List ℕ) → AreBytes bytes → head_varint bytes ≡ Ok r → IsVarintFront bytes r.0 r.1
varint_found bytes r are e =
    let f = (varint_decodes w32).found bytes r.1 r.0 (all_bytes bytes are) (decoded_in_head (decode_varint w32 bytes) r e) in
    record { text = f.encoding; whole = f.whole; spelled = f.is; rest_bytes = bytes_behind bytes f.encoding r.1 f.whole are }

varint_only : (n : ℕ) (text rest : List ℕ) → IsVarint w32 n text → head_varint (text ++ rest) ≡ Ok (n, rest)
varint_only n text rest is = ap in_head ((varint_decodes w32).only n text rest is)

small_varint : (n : ℕ) (text : List ℕ) → IsVarint w32 n text → n < 2 ^ 32
small_varint n text is = omega (arith, is.spelled)

-- a byte that is accepted
accepted_by : (b : Bool) (n : ℕ) (x : ⊤) → cond b (ok tt) (fail ⊤ (Version n)) ≡ ok x → b ≡ true
accepted_by true n x e = refl
accepted_by false n x e = absurd cc

-- a name of a length of 31 bits
record IsSizedName (size : ℕ) (bytes name rest : List ℕ) : Type 0 where
  whole : bytes ≡ name ++ rest
  len : length name ≡ size
  small : size < 2 ^ 31
  name_bytes : All (λ b. b < 256) name

name_by : (b : Bool) (size : ℕ) (bytes : List ℕ) (r : List ℕ × List ℕ) → AreBytes bytes → ltb size (2 ^ 31) ≡ b → cond b (head_bytes size bytes) (fail (List ℕ × List ℕ) NameSize) ≡ ok r
    → IsSizedName size bytes r.0 r.1
name_by true size bytes r are test e =
    let p = piece_found size bytes r e in
    record { whole = p.whole; len = p.size; small = ltb-true size (2 ^ 31) test; name_bytes = All-from_get_or (λ b. b < 256) r.0 0 (λ i h. p.front_bytes are i) }
name_by false size bytes r are test e = absurd cc

name_found : (size : ℕ) (bytes : List ℕ) (r : List ℕ × List ℕ) → AreBytes bytes → sized_name size bytes ≡ Ok r → IsSizedName size bytes r.0 r.1
unfolding sized_name
name_found size bytes r are e = name_by (ltb size (2 ^ 31)) size bytes r are refl e

name_only : (name rest : List ℕ) → length name < 2 ^ 31 → sized_name (length name) (name ++ rest) ≡ Ok (name, rest)
unfolding sized_name
name_only name rest small =
    ap (λ (b : Bool). cond b (head_bytes (length name) (name ++ rest)) (fail (List ℕ × List ℕ) NameSize)) (lt-ltb (length name) (2 ^ 31) small) ∙ piece_only (length name) name rest refl

-- ---- what is read

-- behind the first two bytes
record IsRest (kind : ℕ) (bytes : List ℕ) (said : Said) (rest : List ℕ) : Type 0 where
  id : List ℕ
  size : List ℕ
  id_spelled : IsVarint w32 (cast_unsigned w32 said.id) id
  size_spelled : IsVarint w32 (length said.name) size
  whole : bytes ≡ (id ++ (size ++ said.name)) ++ rest
  typed : said.kind ≡ kind
  fits : FitsSigned w32 said.id
  name : length said.name < 2 ^ 31
  name_bytes : All (λ b. b < 256) said.name

rest_found : (kind : ℕ) (bytes : List ℕ) (r : Said × List ℕ) → AreBytes bytes → compact_rest kind bytes ≡ Ok r → IsRest kind bytes r.0 r.1
unfolding compact_rest
rest_found kind bytes r are e =
    let id = bind_found (head_varint bytes) _ r e in
    let i = varint_found bytes id.0 are id.1 in
    let size = bind_found (head_varint id.0.1) _ r id.2 in
    let s = varint_found id.0.1 size.0 i.rest_bytes size.1 in
    let name = bind_found (sized_name size.0.0 size.0.1) _ r size.2 in
    let n = name_found size.0.0 size.0.1 name.0 s.rest_bytes name.1 in
    let low : id.0.0 < 2 ^ 32 = small_varint id.0.0 i.text i.spelled in
    subst (λ (q : Said × List ℕ). IsRest kind bytes q.0 q.1) (same_ok (record { name = name.0.0; kind = kind; id = cast_signed w32 id.0.0 }, name.0.1) r name.2)
    (record {
      id = i.text;
      size = s.text;
      id_spelled = subst (λ (k : ℕ). IsVarint w32 k i.text) (sym (of_z-to_z w32 id.0.0 low)) i.spelled;
      size_spelled = subst (λ (k : ℕ). IsVarint w32 k s.text) (sym n.len) s.spelled;
      whole = i.whole
          ∙ ap (λ (t : List ℕ). i.text ++ t) (s.whole ∙ ap (λ (t : List ℕ). s.text ++ t) n.whole ∙ sym (append_assoc s.text name.0.0 name.0.1))
          ∙ sym (append_assoc i.text (s.text ++ name.0.0) name.0.1);
      typed = refl;
      fits = wide_32.fits id.0.0 low;
      name = subst (λ (k : ℕ). k < 2 ^ 31) (sym n.len) n.small;
      name_bytes = n.name_bytes;
    })

pub compact_found : (bytes : List ℕ) (r : Said × List ℕ) → AreBytes bytes → compact_head bytes ≡ Ok r → Found Compact bytes r.0 r.1
unfolding compact_head
compact_found bytes r are e =
    let mark = bind_found (head_byte bytes) _ r e in
    let m = byte_found bytes mark.0 are mark.1 in
    let good = bind_found (accepted (eqb mark.0.0 130) mark.0.0) _ r mark.2 in
    let typed = bind_found (head_byte mark.0.1) _ r good.2 in
    let t = byte_found mark.0.1 typed.0 m.rest_bytes typed.1 in
    let versioned = bind_found (accepted (eqb (typed.0.0 % 32) 1) typed.0.0) _ r typed.2 in
    let is_mark : mark.0.0 ≡ 130 = eqb-true mark.0.0 130 (accepted_by (eqb mark.0.0 130) mark.0.0 good.0 good.1) in
    let is_version : typed.0.0 % 32 ≡ 1 = eqb-true (typed.0.0 % 32) 1 (accepted_by (eqb (typed.0.0 % 32) 1) typed.0.0 versioned.0 versioned.1) in
    let b = rest_found (typed.0.0 / 32) typed.0.1 r t.rest_bytes versioned.2 in
    let kind : r.0.kind ≡ typed.0.0 / 32 = b.typed in
    let low = t.small in
    let second : typed.0.0 ≡ 32 * r.0.kind + 1 = omega arith in
    record {
      text = compact_form r.0 b.id b.size;
      whole = m.whole ∙ ap (λ (k : ℕ). k ∷ mark.0.1) is_mark
          ∙ ap (λ (l : List ℕ). 130 ∷ l) (t.whole ∙ ap (λ (k : ℕ). k ∷ typed.0.1) second ∙ ap (λ (l : List ℕ). (32 * r.0.kind + 1) ∷ l) b.whole);
      spells = record {
        range = record { name = b.name; bytes = b.name_bytes; kind = omega arith; id = b.fits };
        id = b.id;
        size = b.size;
        id_spelled = b.id_spelled;
        size_spelled = b.size_spelled;
        is = refl;
      };
    }

-- ---- what is spelled

rest_only : (said : Said) (id size more : List ℕ) → FitsHead Compact said → IsVarint w32 (cast_unsigned w32 said.id) id → IsVarint w32 (length said.name) size
    → compact_rest said.kind ((id ++ (size ++ said.name)) ++ more) ≡ Ok (said, more)
unfolding compact_rest
rest_only said id size more range is_id is_size =
    let behind : List ℕ = said.name ++ more in
    let parted : (id ++ (size ++ said.name)) ++ more ≡ id ++ (size ++ behind) =
    append_assoc id (size ++ said.name) more ∙ ap (λ (t : List ℕ). id ++ t) (append_assoc size said.name more) in
    bind_only (head_varint ((id ++ (size ++ said.name)) ++ more)) _ (cast_unsigned w32 said.id, size ++ behind)
    (ap head_varint parted ∙ varint_only (cast_unsigned w32 said.id) id (size ++ behind) is_id)
    ∙ bind_only (head_varint (size ++ behind)) _ (length said.name, behind) (varint_only (length said.name) size behind is_size)
    ∙ bind_only (sized_name (length said.name) behind) _ (said.name, more) (name_only said.name more range.name)
    ∙ ap (λ (z : ℤ). ok (let s : Said = record { name = said.name; kind = said.kind; id = z } in s, more)) (to_z-of_z w32 said.id range.id)

form_only : (said : Said) (id size more : List ℕ) → FitsHead Compact said → IsVarint w32 (cast_unsigned w32 said.id) id → IsVarint w32 (length said.name) size
    → compact_head (compact_form said id size ++ more) ≡ Ok (said, more)
unfolding compact_head
form_only said id size more range is_id is_size =
    let typed : ℕ = 32 * said.kind + 1 in
    let behind : List ℕ = (id ++ (size ++ said.name)) ++ more in
    let few = range.kind in
    bind_only (head_byte (130 ∷ typed ∷ behind)) _ (130, typed ∷ behind) (byte_only 130 (typed ∷ behind) (omega arith))
    ∙ bind_only (head_byte (typed ∷ behind)) _ (typed, behind) (byte_only typed behind (omega arith))
    ∙ bind_only (accepted (eqb (typed % 32) 1) typed) (λ _. compact_rest (typed / 32) behind) tt (ap (λ (b : Bool). accepted b typed) (eq-eqb (typed % 32) 1 (let e : (32 * said.kind + 1) % 32 ≡ 1 = omega arith in e)))
    ∙ ap (λ (k : ℕ). compact_rest k behind) (let e : (32 * said.kind + 1) / 32 ≡ said.kind = omega arith in e)
    ∙ rest_only said id size more range is_id is_size

pub compact_only : (said : Said) (text more : List ℕ) → IsCompactSpelling said text → compact_head (text ++ more) ≡ Ok (said, more)
compact_only said text more is = ap (λ (t : List ℕ). compact_head (t ++ more)) is.is ∙ form_only said is.id is.size more is.range is.id_spelled is.size_spelled

pub compact_written : (said : Said) → FitsHead Compact said → IsCompactSpelling said (compact_text said)
unfolding compact_id compact_name
compact_written said range = record {
  range = range;
  id = varint_bytes w32 (cast_unsigned w32 said.id);
  size = varint_bytes w32 (length said.name);
  id_spelled = put_32 (cast_unsigned w32 said.id) (wide_32.unsigned said.id range.id);
  size_spelled = put_32 (length said.name) (let small = range.name in omega arith);
  is = ap (λ (k : ℕ). 130 ∷ (32 * k + 1) ∷ (varint_bytes w32 (cast_unsigned w32 said.id) ++ (varint_bytes w32 (length said.name) ++ said.name)))
      (let few = range.kind in let e : said.kind % 8 ≡ said.kind = omega arith in e);
}
