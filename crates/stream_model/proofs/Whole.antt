-- A plan's message is whole exactly where a message stands in front.
use Rattle.std.specs.Prelude.{⊤, replicate}
use Rattle.std.proofs.Common.{◌≡◌, inl, inr, ℕ, ◌==◌, Bool, true, false, ◌||◌, cond, get_or, nat_lt, ◌+◌, ◌-◌, ◌≤◌, ◌<◌, List, ◌++◌, length, drop, take, Result, Ok, Err, refl, sym, ap, ◌∙◌, subst, append_assoc, arith}
use Rattle.std.proofs.lemmas.List.{length-append, length-drop, length-take-le, length-replicate, take-append-le, take-append-drop, take_all, get_or_past}
use Rattle.std.proofs.Math.Seq.{take-append-add}
use Rattle.std.proofs.lemmas.Bool.{eqb-true, eqb-false, ltb-true, ltb-false}
use Rattle.std.proofs.lemmas.List.Elements.{All-append, All-take, All-replicate, All-get_or}
use Rattle.wire_num.specs.Encoded.{AreByteSized}
use Rattle.streams.specs.declared.outcomes.EnvelopeFault.{EnvelopeFault}
use Rattle.streams.specs.declared.outcomes.EnvelopeFault.TheVariants.{MessageType}
use Rattle.thrift_value.specs.declared.tag.Tag.TheVariants.{Struct}
use Rattle.thrift_value.specs.declared.wire_fault.WireFault.{WireFault}
use Rattle.thrift_value.specs.Tree.{Tree}
use Rattle.thrift_value.specs.Tags.{tag_of}
use Rattle.thrift_value.specs.Measures.{count_of}
use Rattle.envelope.specs.declared.head.Protocol.TheVariants.{Binary}
use Rattle.envelope.specs.Said.{Said, call, call_without_reply, IsCall}
use Rattle.envelope.specs.Readout.{whole_head, call_type}
use Rattle.envelope.proofs.Heads.{whole_found, whole_only}
use Rattle.wire_model.specs.Decoder.{Unread}
use Rattle.wire_model.specs.Place.{most_levels, most_values}
use Rattle.wire_model.specs.Reading.{value}
use Rattle.wire_model.proofs.Taking.{value_taken}
use Rattle.wire_model.proofs.Steps.{bytes_behind}
use Rattle.wire_model.proofs.Giving.{spelled_given}
use Rattle.binary_codec.specs.Reading.{binary}
use Rattle.binary_codec.specs.Spelling.{binary_format}
use Rattle.binary_codec.specs.Written.{binary_encoder}
use Rattle.binary_codec.proofs.Agree.{leaves_agree}
use Rattle.stream_model.specs.declared.fault.StreamFault.{StreamFault}
use Rattle.stream_model.specs.Plan.{message_plan}
use Rattle.stream_model.specs.Progress.{MessageProgress, Wants, Whole, Refused, progress, message_progress, IsDecided, IsDecidedAt}
use Rattle.stream_model.specs.Reading.{head_fault, struct_end, call_end, head_end, message_end, IsReadAs}
use Rattle.stream_model.specs.Messages.{IsMessage}
use Rattle.stream_model.proofs.Settling.{settled_stays, all_settle, ends_within, wanted_is_behind, wanted_within, whole_is}
use Rattle.stream_model.proofs.Messages.{message_reads}

abbrev good : ⊤ → Result ⊤ EnvelopeFault
good x = Ok x

abbrev done : ℕ → Result ℕ StreamFault
done n = Ok n

ok_same : {m n : ℕ} → done m ≡ done n → m ≡ n
ok_same e = cc

-- these bytes and zeros behind them, as many as a message may have at least
abbrev padded : ℕ → List ℕ → List ℕ
padded max bytes = bytes ++ replicate max 0

-- the first of them, as many as a message may have
abbrev exactly : ℕ → List ℕ → List ℕ
exactly max bytes = take max (padded max bytes)

padded_length : (max : ℕ) (bytes : List ℕ) → length (padded max bytes) ≡ length bytes + max
padded_length max bytes = length-append bytes (replicate max 0) ∙ ap (λ (n : ℕ). length bytes + n) (length-replicate max 0)

exact_length : (max : ℕ) (bytes : List ℕ) → length (exactly max bytes) ≡ max
exact_length max bytes = length-take-le max (padded max bytes) (omega (arith, padded_length max bytes))

-- what is made of them is what is made of all
exact_is_padded : (max : ℕ) (bytes : List ℕ) → message_progress max (padded max bytes) ≡ message_progress max (exactly max bytes)
exact_is_padded max bytes =
    let front = exactly max bytes in
    let back = drop max (padded max bytes) in
    ap (message_progress max) (sym (take-append-drop max (padded max bytes)))
    ∙ settled_stays max 0 (message_plan max) front back (all_settle max 0 (message_plan max) front (omega (arith, exact_length max bytes)))

exact_reads : (max : ℕ) (bytes : List ℕ) → IsReadAs (message_end (exactly max bytes)) (message_progress max (exactly max bytes))
exact_reads max bytes =
    subst (λ (n : ℕ). IsReadAs (message_end (exactly max bytes)) (message_progress n (exactly max bytes))) (exact_length max bytes) (message_reads (exactly max bytes))

read_end : (r : Result ℕ StreamFault) (g : MessageProgress) (n : ℕ) → IsReadAs r g → g ≡ Whole n → r ≡ Ok n
read_end (Ok m) g n is e = ap (λ (k : ℕ). done k) (whole_is (sym is ∙ e))
read_end (Err fault) g n is e = absurd (let same : Refused is.0 fault ≡ Whole n = sym is.1 ∙ e in cc)

ended_read : (r : Result ℕ StreamFault) (g : MessageProgress) (n : ℕ) → IsReadAs r g → r ≡ Ok n → g ≡ Whole n
ended_read (Ok m) g n is e = is ∙ ap Whole (ok_same e)
ended_read (Err fault) g n is e = absurd cc

-- ---- from a whole message to its parts

each_if : (bytes : List ℕ) → AreByteSized bytes → (i : ℕ) (b : Bool) → nat_lt i (length bytes) ≡ b → get_or bytes i 0 < 256
each_if bytes h i true e = All-get_or (λ b. b < 256) bytes i 0 (ltb-true i (length bytes) e) h
each_if bytes h i false e = let past : get_or bytes i 0 ≡ 0 = get_or_past bytes i 0 (ltb-false i (length bytes) e) in omega arith

each_byte : (bytes : List ℕ) → AreByteSized bytes → (i : ℕ) → get_or bytes i 0 < 256
each_byte bytes h i = each_if bytes h i (nat_lt i (length bytes)) refl

call_kind_if : (kind : ℕ) (a b : Bool) → (kind == call) ≡ a → (kind == call_without_reply) ≡ b → (x : ⊤)
    → cond (a || b) (Ok (tt {0})) (Err (MessageType kind)) ≡ good x → IsCall kind
call_kind_if kind true b e f x is = inl (eqb-true kind call e)
call_kind_if kind false true e f x is = inr (eqb-true kind call_without_reply f)
call_kind_if kind false false e f x is = absurd cc

call_kind : (kind : ℕ) (x : ⊤) → call_type kind ≡ good x → IsCall kind
unfolding call_type
call_kind kind x e = call_kind_if kind (kind == call) (kind == call_without_reply) refl refl x e

record Parts (bytes : List ℕ) (n : ℕ) : Type 0 where
  said : Said
  behind : List ℕ
  args : Tree
  after : Unread
  head : whole_head Binary bytes ≡ Ok (said, behind)
  one : ⊤
  is_call : call_type said.kind ≡ good one
  read : value binary most_levels Struct (record { bytes = behind; budget = most_values }) ≡ Ok (args, after)
  end : length bytes - length after.bytes ≡ n

parts_by_struct : (bytes : List ℕ) (n : ℕ) (said : Said) (behind : List ℕ) (v : Result (Tree × Unread) WireFault)
    → whole_head Binary bytes ≡ Ok (said, behind) → (one : ⊤) → call_type said.kind ≡ good one
    → value binary most_levels Struct (record { bytes = behind; budget = most_values }) ≡ v → struct_end (length bytes) v ≡ Ok n → Parts bytes n
parts_by_struct bytes n said behind (Ok x) h one c v e = record { said = said; behind = behind; args = x.0; after = x.1; head = h; one = one; is_call = c; read = v; end = ok_same e }
parts_by_struct bytes n said behind (Err fault) h one c v e = absurd cc

parts_by_call : (bytes : List ℕ) (n : ℕ) (said : Said) (behind : List ℕ) (c : Result ⊤ EnvelopeFault) → whole_head Binary bytes ≡ Ok (said, behind)
    → call_type said.kind ≡ c
    → call_end (length bytes) behind c ≡ Ok n → Parts bytes n
parts_by_call bytes n said behind (Ok t) h c e =
    parts_by_struct bytes n said behind (value binary most_levels Struct (record { bytes = behind; budget = most_values })) h t c refl e
parts_by_call bytes n said behind (Err fault) h c e = absurd cc

parts_by_head : (bytes : List ℕ) (n : ℕ) (r : Result (Said × List ℕ) EnvelopeFault) → whole_head Binary bytes ≡ r → head_end (length bytes) r ≡ Ok n
    → Parts bytes n
parts_by_head bytes n (Ok x) h e = parts_by_call bytes n x.0 x.1 (call_type x.0.kind) h refl e
parts_by_head bytes n (Err fault) h e = absurd cc

parts_of : (bytes : List ℕ) (n : ℕ) → message_end bytes ≡ Ok n → Parts bytes n
parts_of bytes n e = parts_by_head bytes n (whole_head Binary bytes) refl e

-- the first bytes, as many as were read, are a message
message_of : (max n : ℕ) (bytes : List ℕ) → AreByteSized bytes → length bytes ≤ max → message_end bytes ≡ Ok n → IsMessage max (take n bytes)
message_of max n bytes are few e =
    let p = parts_of bytes n e in
    let h = whole_found Binary bytes (p.said, p.behind) (each_byte bytes are) p.head in
    let t = value_taken binary binary_format binary_encoder leaves_agree most_levels Struct (record { bytes = p.behind; budget = most_values }) p.after p.args (bytes_behind h.text p.behind (subst AreByteSized h.whole are)) p.read in
    let split : bytes ≡ (h.text ++ t.text) ++ p.after.bytes = h.whole ∙ ap (λ (b : List ℕ). h.text ++ b) t.whole ∙ sym (append_assoc h.text t.text p.after.bytes) in
    let long : length bytes ≡ length (h.text ++ t.text) + length p.after.bytes = ap length split ∙ length-append (h.text ++ t.text) p.after.bytes in
    let end : length bytes - length p.after.bytes ≡ n = p.end in
    let size : n ≡ length (h.text ++ t.text) = omega arith in
    let front : take n bytes ≡ h.text ++ t.text = ap (take n) split ∙ take-append-le n (h.text ++ t.text) p.after.bytes (omega arith) ∙ take_all n (h.text ++ t.text) (omega arith) in
    record {
      said = p.said;
      head = h.text;
      body = t.text;
      args = p.args;
      whole = front;
      spelled = h.spells;
      call = call_kind p.said.kind p.one p.is_call;
      struct_ = t.spells;
      within = record { is_struct = t.kind; depth = t.depth; count = let c : count_of p.args + p.after.budget ≡ most_values = t.count in omega arith };
      few = let a : length (take n bytes) ≡ length (h.text ++ t.text) = ap length front in omega arith;
    }

pub whole_is_message : (max : ℕ) (bytes : List ℕ) (n : ℕ) → AreByteSized bytes → message_progress max bytes ≡ Whole n
    → (n ≤ length bytes) × IsMessage max (take n bytes)
whole_is_message max bytes n are e =
    let within = ends_within max 0 (message_plan max) bytes n e in
    let short : n ≤ length bytes = let a : n ≤ 0 + length bytes = within.1 in omega arith in
    let stays : message_progress max (padded max bytes) ≡ message_progress max bytes =
    settled_stays max 0 (message_plan max) bytes (replicate max 0) (subst IsDecided (sym e) tt) in
    let here : message_progress max (exactly max bytes) ≡ Whole n = sym (exact_is_padded max bytes) ∙ stays ∙ e in
    let read : message_end (exactly max bytes) ≡ Ok n = read_end (message_end (exactly max bytes)) (message_progress max (exactly max bytes)) n (exact_reads max bytes) here in
    let inner = ends_within max 0 (message_plan max) (exactly max bytes) n here in
    let all : AreByteSized (exactly max bytes) = All-take (λ b. b < 256) max (padded max bytes) (All-append (λ b. b < 256) bytes (replicate max 0) are (All-replicate (λ b. b < 256) max 0 (omega arith))) in
    let m = message_of max n (exactly max bytes) all (omega (arith, exact_length max bytes)) read in
    let same : take n (exactly max bytes) ≡ take n bytes =
    sym (take-append-le n (exactly max bytes) (drop max (padded max bytes)) (let a : n ≤ 0 + length (exactly max bytes) = inner.1 in omega arith))
    ∙ ap (take n) (take-append-drop max (padded max bytes)) ∙ take-append-le n bytes (replicate max 0) short in
    (short, subst (IsMessage max) same m)

-- ---- from a message to its place

take_behind : (max : ℕ) (m t : List ℕ) → length m ≤ max → take max (m ++ t) ≡ m ++ take (max - length m) t
take_behind max m t few = ap (λ (n : ℕ). take n (m ++ t)) (omega arith) ∙ take-append-add m t (max - length m)

call_ok_if : (kind : ℕ) (a b : Bool) → (kind == call) ≡ a → (kind == call_without_reply) ≡ b → IsCall kind
    → cond (a || b) (Ok (tt {0})) (Err (MessageType kind)) ≡ good tt
call_ok_if kind true b e f c = refl
call_ok_if kind false true e f c = refl
call_ok_if kind false false e f (inl is) = absurd (eqb-false kind call e is)
call_ok_if kind false false e f (inr is) = absurd (eqb-false kind call_without_reply f is)

call_ok : (kind : ℕ) → IsCall kind → call_type kind ≡ good tt
unfolding call_type
call_ok kind c = call_ok_if kind (kind == call) (kind == call_without_reply) refl refl c

-- reading a message, whatever follows it
end_of : (max : ℕ) (m more : List ℕ) → IsMessage max m → message_end (m ++ more) ≡ Ok (length m)
end_of max m more is =
    let t : m ++ more ≡ is.head ++ (is.body ++ more) = ap (λ (b : List ℕ). b ++ more) is.whole ∙ append_assoc is.head is.body more in
    let h : whole_head Binary (m ++ more) ≡ Ok (is.said, is.body ++ more) = ap (whole_head Binary) t ∙ whole_only Binary is.said is.head (is.body ++ more) is.spelled in
    let v : value binary most_levels (tag_of is.args) (record { bytes = is.body ++ more; budget = most_values }) ≡ Ok (is.args, record { bytes = more; budget = most_values - count_of is.args }) =
    spelled_given binary binary_format binary_encoder leaves_agree most_levels most_values is.args is.body more is.struct_ is.within.depth is.within.count in
    let w : value binary most_levels Struct (record { bytes = is.body ++ more; budget = most_values }) ≡ Ok (is.args, record { bytes = more; budget = most_values - count_of is.args }) =
    subst (λ (k : _). value binary most_levels k (record { bytes = is.body ++ more; budget = most_values }) ≡ Ok (is.args, record { bytes = more; budget = most_values - count_of is.args })) is.within.is_struct v in
    let size = length (m ++ more) in
    ap (head_end size) h ∙ ap (call_end size (is.body ++ more)) (call_ok is.said.kind is.call) ∙ ap (struct_end size) w
    ∙ ap done (let l : length (m ++ more) ≡ length m + length more = length-append m more in omega arith)

unless_wanted : (max : ℕ) (m more pad : List ℕ) (g : MessageProgress) → message_progress max (m ++ more) ≡ g
    → message_progress max ((m ++ more) ++ pad) ≡ Whole (length m) → message_progress max (m ++ more) ≡ Whole (length m)
unless_wanted max m more pad (Wants k) e w =
    let at_end : IsDecidedAt (length m) (message_progress max ((m ++ more) ++ pad)) = subst (IsDecidedAt (length m)) (sym w) refl in
    let behind : 0 + length (m ++ more) + k ≤ length m = wanted_is_behind max 0 (message_plan max) (m ++ more) pad k (length m) e at_end in
    let some : 1 ≤ k = (wanted_within max 0 (message_plan max) (m ++ more) k e).0 in
    let long : length (m ++ more) ≡ length m + length more = length-append m more in absurd (let f : ⊥ = omega arith in f)
unless_wanted max m more pad (Whole n) e w = sym (settled_stays max 0 (message_plan max) (m ++ more) pad (subst IsDecided (sym e) tt)) ∙ w
unless_wanted max m more pad (Refused at fault) e w = sym (settled_stays max 0 (message_plan max) (m ++ more) pad (subst IsDecided (sym e) tt)) ∙ w

pub message_is_whole : (max : ℕ) (m more : List ℕ) → IsMessage max m → message_progress max (m ++ more) ≡ Whole (length m)
message_is_whole max m more is =
    let all = (m ++ more) ++ replicate max 0 in
    let t = take (max - length m) (more ++ replicate max 0) in
    let cut : exactly max (m ++ more) ≡ m ++ t = ap (take max) (append_assoc m more (replicate max 0)) ∙ take_behind max m (more ++ replicate max 0) is.few in
    let read : message_end (exactly max (m ++ more)) ≡ Ok (length m) = ap message_end cut ∙ end_of max m t is in
    let here : message_progress max (exactly max (m ++ more)) ≡ Whole (length m) =
    ended_read (message_end (exactly max (m ++ more))) (message_progress max (exactly max (m ++ more))) (length m) (exact_reads max (m ++ more)) read in
    unless_wanted max m more (replicate max 0) (message_progress max (m ++ more)) refl (exact_is_padded max (m ++ more) ∙ here)
