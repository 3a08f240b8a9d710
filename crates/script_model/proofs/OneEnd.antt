-- Bytes end a connection by one cause.
use Rattle.std.proofs.Common.{◌≡◌, ℕ, ℤ, ◌+◌, ◌^◌, ◌<◌, ◌≤◌, List, [], ◌∷◌, ◌++◌, length, refl, sym, ap, ◌∙◌, subst, arith, append_assoc, length-append}
use Rattle.std.specs.Int.{w32, to_be_bytes}
use Rattle.std.specs.List.{flat_map}
use Rattle.streams.specs.declared.outcomes.EnvelopeFault.{EnvelopeFault}
use Rattle.host_model.specs.declared.cause.EndCause.{EndCause}
use Rattle.host_model.specs.declared.cause.EndCause.TheVariants.{End, Cut, SizeFault, Envelope, ReadFault, WriteFault, NoMemory, Stopped}
use Rattle.host_model.specs.Conversation.{KeepsConnection, AllKeepConnection}
use Rattle.host_model.specs.DeskRules.{DeskRules, DeskDecision, Close}
use Rattle.host_model.specs.Frames.{frame, size_bytes, IsPayload, ArePayloads, IsOutside, IsPartial}
use Rattle.host_model.proofs.Framing.{frame_parts}
use Rattle.host_model.proofs.Lists.{append_parts}
use Rattle.script_model.proofs.Causes.{one_size}
use Rattle.script_model.specs.DecidedEnds.{EndsOn, IsEndedBy}

-- what is less than a frame
abbrev pub LessThanAFrame : ℕ → Type 0
LessThanAFrame max = (size : ℕ) (bytes : List ℕ) → 1 ≤ size → size ≤ max → length bytes < size → IsPartial max (to_be_bytes w32 size ++ bytes)

no_frame : (p more : List ℕ) → frame p ++ more ≡ [] → ⊥
no_frame p more e =
    let l : length (frame p ++ more) ≡ 0 = ap length e in
    let k : length (frame p ++ more) ≡ length (frame p) + length more = length-append (frame p) more in
    let m : length (frame p) ≡ 4 + length p = length-append (to_be_bytes w32 (length p)) p in
    let f : ⊥ = omega arith in f

no_size : (z : ℤ) (more : List ℕ) → size_bytes z ++ more ≡ [] → ⊥
no_size z more e =
    let l : length (size_bytes z ++ more) ≡ 0 = ap length e in
    let k : length (size_bytes z ++ more) ≡ 4 + length more = length-append (size_bytes z) more in
    let f : ⊥ = omega arith in f

-- the fault of a decision that closes
fault_of : {C : Type 0} → EnvelopeFault → DeskDecision C → EnvelopeFault
fault_of usual (Close fault) = fault
fault_of usual _ = usual

module _ {C A : Type 0} (d : DeskRules C A) (small : d.max < 2 ^ 31) (partial : LessThanAFrame d.max) where
  one_close : (f g : EnvelopeFault) (decision : DeskDecision C) → decision ≡ Close f → decision ≡ Close g → f ≡ g
  unfolding fault_of
  one_close f g decision a b = ap (fault_of f) (sym a ∙ b)

  same_payload : (p q more left : List ℕ) → IsPayload d.max p → IsPayload d.max q → frame p ++ more ≡ frame q ++ left → p ≡ q
  same_payload p q more left a b e =
      let lp : length p ≤ d.max = a.within in let lq : length q ≤ d.max = b.within in (frame_parts p q more left (omega arith) (omega arith) e).0

  -- no size that no frame has stands in front of a frame
  no_bad_frame : (z : ℤ) (q more left : List ℕ) → IsOutside d.max z → IsPayload d.max q → size_bytes z ++ more ≡ frame q ++ left → ⊥
  no_bad_frame z q more left out is e =
      let some : 1 ≤ length q = is.some in
      let parts = append_parts (size_bytes z) (to_be_bytes w32 (length q)) more (q ++ left) refl (e ∙ append_assoc (to_be_bytes w32 (length q)) q left) in
      (partial (length q) [] some is.within (omega (arith, some))).size z [] out (ap (λ xs. xs ++ []) (sym parts.0))

  -- what is left ends a connection by one cause
  same_left : (left : List ℕ) (one other : EndCause) → IsEndedBy d left one → IsEndedBy d left other → one ≡ other
  same_left left End End a b = refl
  same_left left End Cut a b = absurd (b.0 a)
  same_left left End (SizeFault z) a b = absurd (no_size z b.0 (sym b.1 ∙ a))
  same_left left End (Envelope f) a b = absurd (no_frame b.0 b.1 (sym b.2 ∙ a))
  same_left left End ReadFault a b = absurd b
  same_left left End WriteFault a b = absurd b
  same_left left End NoMemory a b = absurd b
  same_left left End Stopped a b = absurd b
  same_left left Cut End a b = absurd (a.0 b)
  same_left left Cut Cut a b = refl
  same_left left Cut (SizeFault z) a b = absurd (a.1.size z b.0 b.2 b.1)
  same_left left Cut (Envelope f) a b = absurd (a.1.rest b.0 b.1 b.3 b.2)
  same_left left Cut ReadFault a b = absurd b
  same_left left Cut WriteFault a b = absurd b
  same_left left Cut NoMemory a b = absurd b
  same_left left Cut Stopped a b = absurd b
  same_left left (SizeFault z) End a b = absurd (no_size z a.0 (sym a.1 ∙ b))
  same_left left (SizeFault z) Cut a b = absurd (b.1.size z a.0 a.2 a.1)
  same_left left (SizeFault z) (SizeFault w) a b = ap SizeFault (one_size z w a.2.0 b.2.0 (append_parts (size_bytes z) (size_bytes w) a.0 b.0 refl (sym a.1 ∙ b.1)).0)
  same_left left (SizeFault z) (Envelope f) a b = absurd (no_bad_frame z b.0 a.0 b.1 a.2 b.3 (sym a.1 ∙ b.2))
  same_left left (SizeFault z) ReadFault a b = absurd b
  same_left left (SizeFault z) WriteFault a b = absurd b
  same_left left (SizeFault z) NoMemory a b = absurd b
  same_left left (SizeFault z) Stopped a b = absurd b
  same_left left (Envelope f) End a b = absurd (no_frame a.0 a.1 (sym a.2 ∙ b))
  same_left left (Envelope f) Cut a b = absurd (b.1.rest a.0 a.1 a.3 a.2)
  same_left left (Envelope f) (SizeFault z) a b = absurd (no_bad_frame z a.0 b.0 a.1 b.2 a.3 (sym b.1 ∙ a.2))
  same_left left (Envelope f) (Envelope g) a b = ap Envelope (one_close f g (d.decide a.0) a.4 (ap d.decide (same_payload a.0 b.0 a.1 b.1 a.3 b.3 (sym a.2 ∙ b.2)) ∙ b.4))
  same_left left (Envelope f) ReadFault a b = absurd b
  same_left left (Envelope f) WriteFault a b = absurd b
  same_left left (Envelope f) NoMemory a b = absurd b
  same_left left (Envelope f) Stopped a b = absurd b
  same_left left ReadFault other a b = absurd a
  same_left left WriteFault other a b = absurd a
  same_left left NoMemory other a b = absurd a
  same_left left Stopped other a b = absurd a

  -- no frame that keeps a connection stands in front of what ends it
  goes_on : (q more : List ℕ) (cause : EndCause) → IsPayload d.max q → KeepsConnection (d.decide q) → IsEndedBy d (frame q ++ more) cause → ⊥
  goes_on q more End is keeps e = no_frame q more e
  goes_on q more Cut is keeps e = e.1.rest q more is refl
  goes_on q more (SizeFault z) is keeps e = no_bad_frame z q e.0 more e.2 is (sym e.1)
  goes_on q more (Envelope fault) is keeps e = subst KeepsConnection (ap d.decide (same_payload q e.0 more e.1 is e.3 e.2) ∙ e.4) keeps
  goes_on q more ReadFault is keeps e = e
  goes_on q more WriteFault is keeps e = e
  goes_on q more NoMemory is keeps e = e
  goes_on q more Stopped is keeps e = e

  same_end : (ps qs : List (List ℕ)) (left more : List ℕ) (one other : EndCause) → ArePayloads d.max ps → ArePayloads d.max qs → AllKeepConnection d ps
      → AllKeepConnection d qs → flat_map frame ps ++ left ≡ flat_map frame qs ++ more → IsEndedBy d left one → IsEndedBy d more other → one ≡ other
  same_end [] [] left more one other a b k l e x y = same_left left one other x (subst (λ t. IsEndedBy d t other) (sym e) y)
  same_end [] (q ∷ qs) left more one other a b k l e x y =
      absurd (goes_on q (flat_map frame qs ++ more) one b.0 l.0 (subst (λ t. IsEndedBy d t one) (e ∙ append_assoc (frame q) (flat_map frame qs) more) x))
  same_end (p ∷ ps) [] left more one other a b k l e x y =
      absurd (goes_on p (flat_map frame ps ++ left) other a.0 k.0 (subst (λ t. IsEndedBy d t other) (sym e ∙ append_assoc (frame p) (flat_map frame ps) left) y))
  same_end (p ∷ ps) (q ∷ qs) left more one other a b k l e x y =
      let lp : length p ≤ d.max = a.0.within in
      let lq : length q ≤ d.max = b.0.within in
      let h : (p ≡ q) × (flat_map frame ps ++ left ≡ flat_map frame qs ++ more) =
      frame_parts p q (flat_map frame ps ++ left) (flat_map frame qs ++ more) (omega arith) (omega arith)
      (sym (append_assoc (frame p) (flat_map frame ps) left) ∙ e ∙ append_assoc (frame q) (flat_map frame qs) more) in
      same_end ps qs left more one other a.1 b.1 k.1 l.1 h.1 x y

  pub one_end : (bytes : List ℕ) (one other : EndCause) → EndsOn d bytes one → EndsOn d bytes other → one ≡ other
  one_end bytes one other x y = same_end x.payloads y.payloads x.left y.left one other x.each y.each x.kept y.kept (sym x.whole ∙ y.whole) x.ended y.ended
