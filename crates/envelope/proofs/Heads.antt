-- What is read is spelled there, and what is spelled is read, whatever follows.
use Rattle.std.proofs.Common.{◌≡◌, ℕ, ℤ, pos, negsuc, ◌-◌, ◌<◌, ◌≤◌, ◌^◌, Bool, true, false, ◌==◌, ◌&&◌, ◌||◌, inl, inr, if◌then◌else◌, List, [], ◌∷◌, ◌++◌, length, get_or, Result, Ok, Err, refl, sym, ap, ◌∙◌, subst, arith, FitsSigned, append_assoc}
use Rattle.std.specs.Int.{w32, from_be_bytes, cast_unsigned}
use Rattle.std.specs.Prelude.{⊤, IfOk}
use Rattle.std.proofs.lemmas.Bool.{eqb-true, and_parts, or_cases}
use Rattle.std.proofs.lemmas.List.{length-append}
use Rattle.std.proofs.lemmas.Int.{ints, of_z-to_z}
use Rattle.std.proofs.Math.Facts.{sfits_to_z}
use Rattle.wire_num.specs.Fixed.{signed_of, signed_bytes, unsigned_of}
use Rattle.streams.specs.declared.outcomes.EnvelopeFault.{EnvelopeFault}
use Rattle.streams.specs.declared.outcomes.EnvelopeFault.TheVariants.{Version, MessageType}
use Rattle.envelope.specs.declared.head.Protocol.{Protocol}
use Rattle.envelope.specs.declared.head.Protocol.TheVariants.{Binary, Compact}
use Rattle.envelope.specs.declared.head.Head.{Head}
use Rattle.envelope.specs.Said.{Said, FitsHead, IsCall}
use Rattle.envelope.specs.Spelling.{name_text, strict_text, old_text, IsSpelling, head_text}
use Rattle.envelope.specs.Readout.{◌>>=◌, head_bytes, head_byte, head_i32, name_of, version, strict_head, old_head, either_head, compact_head, whole_head, call_type, head_at, IsHead, IsHeadOrNoMemory, IsEncodedIn}
use Rattle.envelope.specs.declared.head.HeadFault.{HeadFault}
use Rattle.envelope.specs.declared.head.HeadFault.TheVariants.{Envelope, NoMemory}
use Rattle.envelope.proofs.Pieces.{AreBytes, ok, fail, bind_found, bind_only, same_ok, piece_found, piece_only, IsByteFront, byte_found, byte_only, IsNumber, number_found, number_only, read_number, IsName, name_found, name_only, spelled_number, Found, same_found}
use Rattle.envelope.proofs.CompactHeads.{compact_found, compact_only, compact_written}

-- the version that is accepted
version_by : (b : Bool) (first : List ℕ) (n : ℕ) → (get_or first 0 0 == 128 && get_or first 1 0 == 1) ≡ b
    → (if b then ok tt else fail ⊤ (Version n)) ≡ ok tt → (get_or first 0 0 ≡ 128) × (get_or first 1 0 ≡ 1)
version_by true first n test e =
    let parts = and_parts (get_or first 0 0 == 128) (get_or first 1 0 == 1) test in
    (eqb-true (get_or first 0 0) 128 parts.0, eqb-true (get_or first 1 0) 1 parts.1)
version_by false first n test e = absurd (cc)

version_found : (first : List ℕ) (x : ⊤) → version first ≡ Ok x → (get_or first 0 0 ≡ 128) × (get_or first 1 0 ≡ 1)
unfolding version
version_found first x e = version_by (get_or first 0 0 == 128 && get_or first 1 0 == 1) first (unsigned_of w32 first) refl e

four_bytes : (first : List ℕ) → length first ≡ 4 → first ≡ get_or first 0 0 ∷ get_or first 1 0 ∷ get_or first 2 0 ∷ get_or first 3 0 ∷ []
four_bytes [] size = absurd (omega arith)
four_bytes (a ∷ []) size = absurd (omega arith)
four_bytes (a ∷ b ∷ []) size = absurd (omega arith)
four_bytes (a ∷ b ∷ c ∷ []) size = absurd (omega arith)
four_bytes (a ∷ b ∷ c ∷ d ∷ []) size = refl
four_bytes (a ∷ b ∷ c ∷ d ∷ e ∷ more) size = absurd (omega arith)

-- behind the first four bytes of a strict head
strict_in : (first bytes named more rest name : List ℕ) (size id : ℤ) → length first ≡ 4 → AreBytes first
    → (get_or first 0 0 ≡ 128) × (get_or first 1 0 ≡ 1)
    → IsNumber bytes size named → IsName size named name more → IsNumber more id rest
    → Found Binary (first ++ bytes) (record { name = name; kind = get_or first 3 0; id = id }) rest
strict_in first bytes named more rest name size id four are versioned sized is_name last =
    let said : Said = record { name = name; kind = get_or first 3 0; id = id } in
    let b : length name < 2 ^ 31 = omega (arith, ints, is_name.size, sized.fits.sfits) in
    let front : first ≡ 128 ∷ 1 ∷ get_or first 2 0 ∷ get_or first 3 0 ∷ [] =
    four_bytes first four ∙ (λ i. versioned.0 i ∷ versioned.1 i ∷ get_or first 2 0 ∷ get_or first 3 0 ∷ []) in
    let numbered : bytes ≡ name_text name ++ more =
    sized.whole ∙ (λ i. signed_bytes w32 (is_name.size i) ++ is_name.whole i) ∙ sym (append_assoc (signed_bytes w32 (pos (length name))) name more) in
    let behind : bytes ≡ (name_text name ++ signed_bytes w32 id) ++ rest =
    numbered ∙ ap (λ t. name_text name ++ t) last.whole ∙ sym (append_assoc (name_text name) (signed_bytes w32 id) rest) in
    record {
      text = strict_text (get_or first 2 0) said;
      whole = (λ i. front i ++ behind i);
      spells = record {
        range = record { name = b; bytes = is_name.name_bytes; kind = are 3; id = last.fits };
        form = inl (record { unused = get_or first 2 0; byte = are 2; is = refl });
      };
    }

strict_found : (first bytes : List ℕ) (r : Said × List ℕ) → length first ≡ 4 → AreBytes first → AreBytes bytes → strict_head first bytes ≡ Ok r
    → Found Binary (first ++ bytes) r.0 r.1
unfolding strict_head
strict_found first bytes r four are are_behind e =
    let v = bind_found (version first) _ r e in
    let size = bind_found (head_i32 bytes) _ r v.2 in
    let sized = number_found bytes size.0 are_behind size.1 in
    let name = bind_found (name_of size.0.0 size.0.1) _ r size.2 in
    let named = name_found size.0.0 size.0.1 name.0 sized.rest_bytes name.1 in
    let id = bind_found (head_i32 name.0.1) _ r name.2 in
    let last = number_found name.0.1 id.0 named.rest_bytes id.1 in
    same_found Binary (first ++ bytes) (record { name = name.0.0; kind = get_or first 3 0; id = id.0.0 }, id.0.1) r id.2
    (strict_in first bytes size.0.1 name.0.1 id.0.1 name.0.0 size.0.0 id.0.0 four are (version_found first v.0 v.1) sized named last)

old_in : (first bytes named : List ℕ) (kind : ℕ) (more rest name : List ℕ) (size id : ℤ) → signed_bytes w32 size ≡ first → FitsSigned w32 size
    → IsName size bytes name named → IsByteFront named kind more → IsNumber more id rest
    → Found Binary (first ++ bytes) (record { name = name; kind = kind; id = id }) rest
old_in first bytes named kind more rest name size id spelled fits is_name typed last =
    let said : Said = record { name = name; kind = kind; id = id } in
    let b : length name < 2 ^ 31 = omega (arith, ints, is_name.size, fits.sfits) in
    let front : first ++ bytes ≡ name_text name ++ named =
    (λ i. sym spelled i ++ is_name.whole i) ∙ sym (append_assoc (signed_bytes w32 size) name named) ∙ (λ i. (signed_bytes w32 (is_name.size i) ++ name) ++ named) in
    let kinded : named ≡ kind ∷ (signed_bytes w32 id ++ rest) =
    typed.whole ∙ ap (λ (t : List ℕ). kind ∷ t) last.whole in
    record {
      text = old_text said;
      whole = front ∙ ap (λ t. name_text name ++ t) kinded ∙ sym (append_assoc (name_text name) (kind ∷ signed_bytes w32 id) rest);
      spells = record {
        range = record { name = b; bytes = is_name.name_bytes; kind = typed.small; id = last.fits };
        form = inr refl;
      };
    }

old_found : (first bytes : List ℕ) (size : ℤ) (r : Said × List ℕ) → signed_bytes w32 size ≡ first → FitsSigned w32 size → AreBytes bytes
    → old_head size bytes ≡ Ok r → Found Binary (first ++ bytes) r.0 r.1
unfolding old_head
old_found first bytes size r spelled fits are e =
    let name = bind_found (name_of size bytes) _ r e in
    let named = name_found size bytes name.0 are name.1 in
    let kind = bind_found (head_byte name.0.1) _ r name.2 in
    let typed = byte_found name.0.1 kind.0 named.rest_bytes kind.1 in
    let id = bind_found (head_i32 kind.0.1) _ r kind.2 in
    let last = number_found kind.0.1 id.0 typed.rest_bytes id.1 in
    same_found Binary (first ++ bytes) (record { name = name.0.0; kind = kind.0.0; id = id.0.0 }, id.0.1) r id.2
    (old_in first bytes name.0.1 kind.0.0 kind.0.1 id.0.1 name.0.0 size id.0.0 spelled fits named typed last)

either_found : (first bytes : List ℕ) (size : ℤ) (r : Said × List ℕ) → length first ≡ 4 → AreBytes first → AreBytes bytes
    → signed_bytes w32 size ≡ first → FitsSigned w32 size → either_head size first bytes ≡ Ok r → Found Binary (first ++ bytes) r.0 r.1
unfolding either_head
either_found first bytes (pos n) r four are are_behind spelled fits e = old_found first bytes (pos n) r spelled fits are_behind e
either_found first bytes (negsuc n) r four are are_behind spelled fits e = strict_found first bytes r four are are_behind e

-- a whole head that is read stands in front
pub whole_found : (p : Protocol) (bytes : List ℕ) (r : Said × List ℕ) → AreBytes bytes → whole_head p bytes ≡ Ok r → Found p bytes r.0 r.1
unfolding whole_head
whole_found Binary bytes r are e =
    let front = bind_found (head_bytes 4 bytes) _ r e in
    let p = piece_found 4 bytes front.0 front.1 in
    let s = spelled_number front.0.0 p.size (p.front_bytes are) in
    subst (λ b. Found Binary b r.0 r.1) (sym p.whole)
    (either_found front.0.0 front.0.1 (signed_of w32 front.0.0) r p.size (p.front_bytes are) (p.rest_bytes are) s.0 s.1 front.2)
whole_found Compact bytes r are e = compact_found bytes r are e

-- a strict head behind its first four bytes
strict_only : (unused : ℕ) (said : Said) (more : List ℕ) → FitsHead Binary said
    → strict_head (128 ∷ 1 ∷ unused ∷ said.kind ∷ []) ((name_text said.name ++ signed_bytes w32 said.id) ++ more) ≡ Ok (said, more)
unfolding strict_head version
strict_only unused said more range =
    let size : FitsSigned w32 (pos (length said.name)) = record { sfits = omega (arith, ints, range.name) } in
    let behind : (name_text said.name ++ signed_bytes w32 said.id) ++ more ≡ signed_bytes w32 (pos (length said.name)) ++ (said.name ++ (signed_bytes w32 said.id ++ more)) =
    append_assoc (name_text said.name) (signed_bytes w32 said.id) more ∙ append_assoc (signed_bytes w32 (pos (length said.name))) said.name (signed_bytes w32 said.id ++ more) in
    bind_only (head_i32 ((name_text said.name ++ signed_bytes w32 said.id) ++ more)) _ (pos (length said.name), said.name ++ (signed_bytes w32 said.id ++ more))
    (ap head_i32 behind ∙ number_only (pos (length said.name)) (said.name ++ (signed_bytes w32 said.id ++ more)) size)
    ∙ (bind_only (name_of (pos (length said.name)) (said.name ++ (signed_bytes w32 said.id ++ more))) _ (said.name, signed_bytes w32 said.id ++ more)
    (name_only said.name (signed_bytes w32 said.id ++ more))
    ∙ bind_only (head_i32 (signed_bytes w32 said.id ++ more)) _ (said.id, more) (number_only said.id more range.id))

-- an old head behind the length of its name
old_only : (said : Said) (more : List ℕ) → FitsHead Binary said
    → old_head (pos (length said.name)) ((said.name ++ (said.kind ∷ signed_bytes w32 said.id)) ++ more) ≡ Ok (said, more)
unfolding old_head
old_only said more range =
    bind_only (name_of (pos (length said.name)) ((said.name ++ (said.kind ∷ signed_bytes w32 said.id)) ++ more)) _ (said.name, (said.kind ∷ signed_bytes w32 said.id) ++ more)
    (ap (name_of (pos (length said.name))) (append_assoc said.name (said.kind ∷ signed_bytes w32 said.id) more) ∙ name_only said.name ((said.kind ∷ signed_bytes w32 said.id) ++ more))
    ∙ (bind_only (head_byte ((said.kind ∷ signed_bytes w32 said.id) ++ more)) _ (said.kind, signed_bytes w32 said.id ++ more)
    (byte_only said.kind (signed_bytes w32 said.id ++ more) range.kind)
    ∙ bind_only (head_i32 (signed_bytes w32 said.id ++ more)) _ (said.id, more) (number_only said.id more range.id))

-- the first four bytes of a strict head are a number below 0
strict_is_negative : (unused kind : ℕ) → unused < 256 → kind < 256 → (z : ℤ) → z ≡ signed_of w32 (128 ∷ 1 ∷ unused ∷ kind ∷ []) → (bytes : List ℕ) (first : List ℕ)
    → either_head z first bytes ≡ strict_head first bytes
unfolding either_head
strict_is_negative unused kind u k (pos n) is bytes first =
    let m : ℕ = from_be_bytes w32 (128 ∷ 1 ∷ unused ∷ kind ∷ []) in
    let small : m < 2 ^ 32 = omega arith in
    let fits : FitsSigned w32 (pos n) = subst (λ (z : ℤ). FitsSigned w32 z) (sym is) (sfits_to_z {w = w32} {n = m} (record { fits = small })) in
    let same : n ≡ m = ap (cast_unsigned w32) is ∙ of_z-to_z w32 m small in
    absurd (omega (arith, ints, fits.sfits, same))
strict_is_negative unused kind u k (negsuc n) is bytes first = refl

strict_whole : (unused : ℕ) (said : Said) (more : List ℕ) → unused < 256 → FitsHead Binary said → whole_head Binary (strict_text unused said ++ more) ≡ Ok (said, more)
unfolding whole_head
strict_whole unused said more byte range =
    let first : List ℕ = 128 ∷ 1 ∷ unused ∷ said.kind ∷ [] in
    let behind : List ℕ = (name_text said.name ++ signed_bytes w32 said.id) ++ more in
    bind_only (head_bytes 4 (strict_text unused said ++ more)) _ (first, behind) (piece_only 4 first behind refl)
    ∙ strict_is_negative unused said.kind byte range.kind (signed_of w32 first) refl behind first
    ∙ strict_only unused said more range

old_whole : (said : Said) (more : List ℕ) → FitsHead Binary said → whole_head Binary (old_text said ++ more) ≡ Ok (said, more)
unfolding whole_head either_head
old_whole said more range =
    let size : FitsSigned w32 (pos (length said.name)) = record { sfits = omega (arith, ints, range.name) } in
    let first : List ℕ = signed_bytes w32 (pos (length said.name)) in
    let behind : List ℕ = (said.name ++ (said.kind ∷ signed_bytes w32 said.id)) ++ more in
    let parted : old_text said ++ more ≡ first ++ behind =
    ap (λ t. t ++ more) (append_assoc first said.name (said.kind ∷ signed_bytes w32 said.id)) ∙ append_assoc first (said.name ++ (said.kind ∷ signed_bytes w32 said.id)) more in
    bind_only (head_bytes 4 (old_text said ++ more)) (λ (front : List ℕ × List ℕ). either_head (signed_of w32 front.0) front.0 front.1) (first, behind) (ap (head_bytes 4) parted ∙ piece_only 4 first behind refl)
    ∙ ap (λ z. either_head z first behind) (read_number (pos (length said.name)) size)
    ∙ old_only said more range

compact_whole : (bytes : List ℕ) → whole_head Compact bytes ≡ compact_head bytes
unfolding whole_head
compact_whole bytes = refl

-- a whole head that is spelled in front is read
pub whole_only : (p : Protocol) (said : Said) (text more : List ℕ) → IsSpelling p said text → whole_head p (text ++ more) ≡ Ok (said, more)
whole_only Binary said text more spells =
    elim spells.form [
      | inl strict ↦ ap (λ t. whole_head Binary (t ++ more)) strict.is ∙ strict_whole strict.unused said more strict.byte spells.range
      | inr old ↦ ap (λ t. whole_head Binary (t ++ more)) old ∙ old_whole said more spells.range
    ]
whole_only Compact said text more spells = compact_whole (text ++ more) ∙ compact_only said text more spells

-- the types of calls
type_by : (b : Bool) (kind : ℕ) → (kind == 1 || kind == 4) ≡ b → (if b then ok tt else fail ⊤ (MessageType kind)) ≡ ok tt → IsCall kind
type_by true kind test e = elim (or_cases (kind == 1) (kind == 4) test) [ inl one ↦ inl (eqb-true kind 1 one) | inr four ↦ inr (eqb-true kind 4 four) ]
type_by false kind test e = absurd (cc)

call_found : (kind : ℕ) (x : ⊤) → call_type kind ≡ Ok x → IsCall kind
unfolding call_type
call_found kind x e = type_by (kind == 1 || kind == 4) kind refl e

call_only : (kind : ℕ) → IsCall kind → call_type kind ≡ Ok tt
unfolding call_type
call_only kind (inl is) = ap (λ k. if k == 1 || k == 4 then ok tt else fail ⊤ (MessageType k)) is
call_only kind (inr is) = ap (λ k. if k == 1 || k == 4 then ok tt else fail ⊤ (MessageType k)) is

placed : (text more : List ℕ) → length (text ++ more) - length more ≡ length text
placed text more = omega (arith, length-append text more)

-- the head that is read stands in front
pub head_found : (p : Protocol) (bytes : List ℕ) (head : Head) → AreBytes bytes → head_at p bytes ≡ Ok head → IsEncodedIn p bytes head
unfolding head_at
head_found p bytes head are e =
    let whole = bind_found (whole_head p bytes) _ head e in
    let typed = bind_found (call_type whole.0.0.kind) _ head whole.2 in
    let found = whole_found p bytes whole.0 are whole.1 in
    subst (λ (h : Head). IsEncodedIn p bytes h) (same_ok _ head typed.2)
    (record {
      text = found.text;
      rest = whole.0.1;
      whole = found.whole;
      spelled = found.spells;
      call = call_found whole.0.0.kind typed.0 typed.1;
      behind = ap (λ (b : List ℕ). length b - length whole.0.1) found.whole ∙ placed found.text whole.0.1;
    })

-- a call's head that is spelled in front is read
pub head_only : (p : Protocol) (bytes : List ℕ) (said : Said) (text rest : List ℕ) → bytes ≡ text ++ rest → IsSpelling p said text → IsCall said.kind
    → head_at p bytes ≡ Ok (record { name = said.name; kind = said.kind; id = said.id; behind = length text })
unfolding head_at
head_only p bytes said text rest is spells call =
    ap (head_at p) is
    ∙ bind_only (whole_head p (text ++ rest)) _ (said, rest) (whole_only p said text rest spells)
    ∙ bind_only (call_type said.kind) _ tt (call_only said.kind call)
    ∙ ap (λ n. ok (let h : Head = record { name = said.name; kind = said.kind; id = said.id; behind = n } in h)) (placed text rest)

-- what is written is spelled
pub written_is_spelled : (p : Protocol) (said : Said) → FitsHead p said → IsSpelling p said (head_text p said)
written_is_spelled Binary said range = record { range = range; form = inl (record { unused = 0; byte = omega arith; is = refl }) }
written_is_spelled Compact said range = compact_written said range

pub read_back : (p : Protocol) (said : Said) (more : List ℕ) → FitsHead p said → IsCall said.kind
    → head_at p (head_text p said ++ more) ≡ Ok (record { name = said.name; kind = said.kind; id = said.id; behind = length (head_text p said) })
read_back p said more range call = head_only p (head_text p said ++ more) said (head_text p said) more refl (written_is_spelled p said range) call

append_nil_is : (text : List ℕ) → text ++ [] ≡ text
append_nil_is [] = refl
append_nil_is (x ∷ text) = ap (λ t. x ∷ t) (append_nil_is text)

-- a head and the bytes behind it
abbrev paired : Said → List ℕ → Said × List ℕ
paired said more = (said, more)

-- the same bytes read as two heads
both : (p : Protocol) (one other : Said) (text more : List ℕ) → IsSpelling p one text → IsSpelling p other (text ++ more) → paired one more ≡ paired other []
both p one other text more a b =
    same_ok (paired one more) (paired other [])
    (sym (whole_only p one text more a) ∙ ap (whole_head p) (sym (append_nil_is (text ++ more))) ∙ whole_only p other (text ++ more) [] b)

pub no_prefix : (p : Protocol) (one other : Said) (text more : List ℕ) → IsSpelling p one text → IsSpelling p other (text ++ more) → more ≡ []
no_prefix p one other text more a b = ap (λ (q : Said × List ℕ). q.1) (both p one other text more a b)

pub one_head : (p : Protocol) (one other : Said) (text : List ℕ) → IsSpelling p one text → IsSpelling p other text → one ≡ other
one_head p one other text a b =
    ap (λ (q : Said × List ℕ). q.0) (both p one other text [] a (subst (IsSpelling p other) (sym (append_nil_is text)) b))

-- what never is want of memory may as well be
pub or_no_memory : (result : Result Head HeadFault) (meant : Result Head EnvelopeFault) → IsHead result meant → IsHeadOrNoMemory result meant
or_no_memory (Ok head) meant exact = exact
or_no_memory (Err (Envelope fault)) meant exact = exact
or_no_memory (Err NoMemory) meant exact = tt

-- what an answer says, where it is the one that reading gives
pub found_by : (p : Protocol) (bytes : List ℕ) (result : Result Head HeadFault) → AreBytes bytes → IsHeadOrNoMemory result (head_at p bytes)
    → IfOk result (λ head. IsEncodedIn p bytes head)
found_by p bytes (Ok head) are exact = head_found p bytes head are exact
found_by p bytes (Err fault) are exact = tt

pub only_by : (p : Protocol) (bytes : List ℕ) (result : Result Head HeadFault) → IsHeadOrNoMemory result (head_at p bytes)
    → (said : Said) (text rest : List ℕ) → bytes ≡ text ++ rest → IsSpelling p said text → IsCall said.kind
    → IsHeadOrNoMemory result (Ok (record { name = said.name; kind = said.kind; id = said.id; behind = length text }))
only_by p bytes result exact said text rest is spells call =
    subst (λ (meant : Result Head EnvelopeFault). IsHeadOrNoMemory result meant) (head_only p bytes said text rest is spells call) exact

-- what is left is no more than there was
pub no_more : (p : Protocol) (bytes : List ℕ) (r : Said × List ℕ) → AreBytes bytes → whole_head p bytes ≡ Ok r → length r.1 ≤ length bytes
no_more p bytes r are e =
    let found = whole_found p bytes r are e in
    omega (arith, ap length found.whole, length-append found.text r.1)

-- the types of no call
refused_by_test : (b : Bool) (kind : ℕ) → (kind == 1 || kind == 4) ≡ b → (IsCall kind → ⊥)
    → (if b then ok tt else fail ⊤ (MessageType kind)) ≡ fail ⊤ (MessageType kind)
refused_by_test true kind test none = absurd (none (type_by true kind test refl))
refused_by_test false kind test none = refl

call_refused : (kind : ℕ) → (IsCall kind → ⊥) → call_type kind ≡ Err (MessageType kind)
unfolding call_type
call_refused kind none = refused_by_test (kind == 1 || kind == 4) kind refl none

head_refused : (p : Protocol) (bytes : List ℕ) (said : Said) (text rest : List ℕ) → bytes ≡ text ++ rest → IsSpelling p said text → (IsCall said.kind → ⊥)
    → head_at p bytes ≡ Err (MessageType said.kind)
unfolding head_at
head_refused p bytes said text rest is spells none =
    ap (head_at p) is
    ∙ bind_only (whole_head p (text ++ rest)) _ (said, rest) (whole_only p said text rest spells)
    ∙ ap (λ r. r >>= λ _. ok (let h : Head = record { name = said.name; kind = said.kind; id = said.id; behind = length (text ++ rest) - length rest } in h)) (call_refused said.kind none)

pub refused_by : (p : Protocol) (bytes : List ℕ) (result : Result Head HeadFault) → IsHeadOrNoMemory result (head_at p bytes)
    → (said : Said) (text rest : List ℕ) → bytes ≡ text ++ rest → IsSpelling p said text → (IsCall said.kind → ⊥)
    → IsHeadOrNoMemory result (Err (MessageType said.kind))
refused_by p bytes result exact said text rest is spells none =
    subst (λ (meant : Result Head EnvelopeFault). IsHeadOrNoMemory result meant) (head_refused p bytes said text rest is spells none) exact
