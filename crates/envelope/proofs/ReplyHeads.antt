-- The heads of what answers a call: what is read is spelled there, and what is written is read.
use Rattle.std.proofs.Common.{◌≡◌, ℕ, ◌-◌, Bool, true, false, ◌==◌, ◌||◌, inl, inr, if◌then◌else◌, List, ◌++◌, length, Result, Ok, Err, refl, ap, ◌∙◌, subst, arith}
use Rattle.std.specs.Prelude.{⊤, IfOk}
use Rattle.std.proofs.lemmas.Bool.{eqb-true, or_cases}
use Rattle.std.proofs.lemmas.List.{length-append}
use Rattle.streams.specs.declared.outcomes.EnvelopeFault.TheVariants.{MessageType}
use Rattle.envelope.specs.declared.head.Protocol.{Protocol}
use Rattle.envelope.specs.declared.head.Head.{Head}
use Rattle.envelope.specs.declared.head.HeadFault.{HeadFault}
use Rattle.envelope.specs.Said.{Said, FitsHead, IsReply}
use Rattle.envelope.specs.Spelling.{head_text}
use Rattle.envelope.specs.Readout.{whole_head, reply_kind, reply_head_at, IsHead, IsReplyIn}
use Rattle.envelope.proofs.Pieces.{AreBytes, ok, fail, bind_found, bind_only, same_ok}
use Rattle.envelope.proofs.Heads.{whole_found, whole_only, written_is_spelled}

-- the types of answers
type_by : (b : Bool) (kind : ℕ) → (kind == 2 || kind == 3) ≡ b → (if b then ok tt else fail ⊤ (MessageType kind)) ≡ ok tt → IsReply kind
type_by true kind test e = elim (or_cases (kind == 2) (kind == 3) test) [ inl two ↦ inl (eqb-true kind 2 two) | inr three ↦ inr (eqb-true kind 3 three) ]
type_by false kind test e = absurd (cc)

reply_found : (kind : ℕ) (x : ⊤) → reply_kind kind ≡ Ok x → IsReply kind
unfolding reply_kind
reply_found kind x e = type_by (kind == 2 || kind == 3) kind refl e

reply_only : (kind : ℕ) → IsReply kind → reply_kind kind ≡ Ok tt
unfolding reply_kind
reply_only kind (inl is) = ap (λ k. if k == 2 || k == 3 then ok tt else fail ⊤ (MessageType k)) is
reply_only kind (inr is) = ap (λ k. if k == 2 || k == 3 then ok tt else fail ⊤ (MessageType k)) is

placed : (text more : List ℕ) → length (text ++ more) - length more ≡ length text
placed text more = omega (arith, length-append text more)

-- the head that is read stands in front
reply_head_found : (p : Protocol) (bytes : List ℕ) (head : Head) → AreBytes bytes → reply_head_at p bytes ≡ Ok head → IsReplyIn p bytes head
unfolding reply_head_at
reply_head_found p bytes head are e =
    let whole = bind_found (whole_head p bytes) _ head e in
    let typed = bind_found (reply_kind whole.0.0.kind) _ head whole.2 in
    let found = whole_found p bytes whole.0 are whole.1 in
    subst (λ (h : Head). IsReplyIn p bytes h) (same_ok _ head typed.2)
    (record {
      text = found.text;
      rest = whole.0.1;
      whole = found.whole;
      spelled = found.spells;
      reply = reply_found whole.0.0.kind typed.0 typed.1;
      behind = ap (λ (b : List ℕ). length b - length whole.0.1) found.whole ∙ placed found.text whole.0.1;
    })

-- what an answer says, where it is the one that reading gives
pub reply_found_by : (p : Protocol) (bytes : List ℕ) (result : Result Head HeadFault) → AreBytes bytes → IsHead result (reply_head_at p bytes)
    → IfOk result (λ head. IsReplyIn p bytes head)
reply_found_by p bytes (Ok head) are exact = reply_head_found p bytes head are exact
reply_found_by p bytes (Err fault) are exact = tt

-- what is written of an answer is read
pub reply_read_back : (p : Protocol) (said : Said) (more : List ℕ) → FitsHead p said → IsReply said.kind
    → reply_head_at p (head_text p said ++ more) ≡ Ok (record { name = said.name; kind = said.kind; id = said.id; behind = length (head_text p said) })
unfolding reply_head_at
reply_read_back p said more range is =
    bind_only (whole_head p (head_text p said ++ more)) _ (said, more) (whole_only p said (head_text p said) more (written_is_spelled p said range))
    ∙ bind_only (reply_kind said.kind) _ tt (reply_only said.kind is)
    ∙ ap (λ n. ok (let h : Head = record { name = said.name; kind = said.kind; id = said.id; behind = n } in h)) (placed (head_text p said) more)
