-- A host decides on what a client asks that the method is called.
use Rattle.std.proofs.Common.{◌≡◌, inl, inr, ℕ, ℤ, ◌+◌, ◌<◌, ◌≤◌, Bool, true, false, cond, if◌then◌else◌, List, [], ◌∷◌, ◌++◌, length, Some, None, Result, Ok, Err, refl, sym, ap, subst, ◌∙◌, arith, append-nil, FitsSigned}
use Rattle.std.specs.Prelude.{All, IsTrue, nat_le, is_ok, ◌&&◌, ◌==◌, ◌||◌}
use Rattle.std.specs.Int.{w32}
use Rattle.std.proofs.lemmas.Bool.{and_parts, leb-true, false≢true}
use Rattle.std.proofs.lemmas.Slice.Eq.{bytes_eq-Decides}
use Rattle.streams.specs.declared.outcomes.EnvelopeFault.{EnvelopeFault}
use Rattle.host_model.specs.DeskRules.{Invoke}
use Rattle.host_model.specs.Frames.{frame}
use Rattle.envelope.specs.declared.head.Head.{Head}
use Rattle.envelope.specs.declared.head.Protocol.{Protocol}
use Rattle.envelope.specs.declared.head.Protocol.TheVariants.{Binary, Compact}
use Rattle.envelope.specs.Said.{Said, FitsHead, IsCall, type_limit}
use Rattle.envelope.specs.Spelling.{head_text}
use Rattle.envelope.specs.Readout.{head_at}
use Rattle.schema.specs.LookUp.{function_named}
use Rattle.schema.specs.PlainKind.{kind_struct}
use Rattle.schema.specs.PlainSchema.{PlainFunction, PlainSchema}
use Rattle.schema.specs.Sound.{IsSchemaName, is_name_byte}
use Rattle.struct_skew.specs.declared.fault.SkewFault.{SkewFault}
use Rattle.struct_skew.specs.Projection.{bounded, projection}
use Rattle.struct_skew.specs.Results.{and_if_ok}
use Rattle.struct_skew.specs.TidyTests.{is_tidy}
use Rattle.struct_skew.specs.WrittenTests.{may_be_written}
use Rattle.struct_skew.proofs.PlainAlike.{means_alike}
use Rattle.thrift_value.specs.declared.tag.Tag.TheVariants.{Struct}
use Rattle.thrift_value.specs.Plain.{plain}
use Rattle.thrift_value.specs.Ranges.{IsInRange}
use Rattle.thrift_value.specs.Tags.{tag_of}
use Rattle.thrift_value.specs.Tidy.{IsTidy, IsWellTagged}
use Rattle.thrift_value.specs.Tree.{Tree, of_struct}
use Rattle.wire_model.specs.Encoder.{text}
use Rattle.wire_model.specs.Place.{struct_at, found_struct}
use Rattle.call_model.specs.Arguments.{wire_of, projected_or_fault, read_as_arguments, arguments_at}
use Rattle.call_model.specs.Decisions.{call_made, decided_on_function, decided_on_service, decided_on_head, decision}
use Rattle.call_model.specs.Names.{Bound}
use Rattle.call_model.specs.Offices.{PlainOffice}
use Rattle.call_model.specs.Replies.{encoder_of}
use Rattle.call_model.proofs.Found.{function_sound}
use Rattle.call_model.proofs.ReadBack.{StructsAreRead}
use Rattle.client_desk.specs.Asking.{asked_frame, asked_name, asked_of_function, asked_payload, asked_type, call_message, frame_within, is_small, may_go_out, GoesOut}
use Rattle.client_desk.specs.Clients.{PlainClient, IsSoundClient}
use Rattle.client_desk.specs.declared.ask_fault.AskFault.{AskFault}
use Rattle.client_desk.specs.declared.ask_fault.AskFault.TheVariants.{Unfit, TooLarge}
use Rattle.client_desk.proofs.GoingOut.{goes_out}
use Rattle.client_desk.proofs.Sizes.{call_longer}
use Rattle.client_law.specs.ServedAlone.{IsServedAlone}
use Rattle.client_law.proofs.Bytes.{all_bytes}
use Rattle.client_law.proofs.Names.{whole_method, only_asked, method_asked, said_bytes}

abbrev pub head_read : Head → Result Head EnvelopeFault
head_read head = Ok head

abbrev meant_as : Tree → Result Tree SkewFault
meant_as value = Ok value

abbrev gone_out : List ℕ → Result (List ℕ) AskFault
gone_out sent = Ok sent

-- ---- what was asked

if_ok : (t : Bool) (x : Result (List ℕ) AskFault) (fault : AskFault) (sent : List ℕ) → cond t x (Err fault) ≡ gone_out sent → (t ≡ true) × (x ≡ gone_out sent)
if_ok true x fault sent e = (refl, e)
if_ok false x fault sent e = absurd cc

same_sent : (x y : List ℕ) → gone_out x ≡ gone_out y → x ≡ y
same_sent x y e = cc

of_function : (c : PlainClient) (method : List ℕ) (args : Tree) (id : ℤ) (f : PlainFunction) (sent : List ℕ) → function_named c.schema c.service method ≡ Some f
    → asked_frame c method args id ≡ gone_out sent → asked_of_function c method args id (Some f) ≡ gone_out sent
of_function c method args id f sent found is = ap (asked_of_function c method args id) (sym found) ∙ is

pub record WasAsked (c : PlainClient) (f : PlainFunction) (method : List ℕ) (args : Tree) (id : ℤ) (sent : List ℕ) : Type 0 where
  pub may : may_go_out c.schema f.args args ≡ true
  pub within : length (asked_payload c f method args id) ≤ c.max_frame
  pub framed : sent ≡ frame (asked_payload c f method args id)

pub was_asked : (c : PlainClient) (method : List ℕ) (args : Tree) (id : ℤ) (f : PlainFunction) (sent : List ℕ) → function_named c.schema c.service method ≡ Some f
    → asked_frame c method args id ≡ gone_out sent → WasAsked c f method args id sent
was_asked c method args id f sent found is =
    let payload : List ℕ = asked_payload c f method args id in
    let one = if_ok (may_go_out c.schema f.args args) (frame_within c.max_frame payload) Unfit sent (of_function c method args id f sent found is) in
    let two = if_ok (nat_le (length payload) c.max_frame) (Ok (frame payload)) TooLarge sent one.1 in
    record { may = one.0; within = leb-true (length payload) c.max_frame two.0; framed = sym (same_sent (frame payload) sent two.1) }

-- ---- what it means

ok_value : (r : Result Tree SkewFault) → is_ok r ≡ true → (meant : Tree) × (r ≡ meant_as meant)
ok_value (Ok value) is = (value, refl)
ok_value (Err fault) is = absurd (false≢true is)

has_projection : (s : PlainSchema) (which : ℕ) (args : Tree) → may_go_out s which args ≡ true → (meant : Tree) × (projection s which args ≡ meant_as meant)
unfolding may_go_out
has_projection s which args is =
    let tidied = and_parts (is_tidy args) (is_small args && (may_be_written s.structs (kind_struct which) args && is_ok (projection s which args))) is in
    let sized = and_parts (is_small args) (may_be_written s.structs (kind_struct which) args && is_ok (projection s which args)) tidied.1 in
    ok_value (projection s which args) (and_parts (may_be_written s.structs (kind_struct which) args) (is_ok (projection s which args)) sized.1).1

-- the plain form of a struct has the same projection
plain_projection : (s : PlainSchema) (which : ℕ) (args : Tree) → tag_of args ≡ Struct → projection s which (plain args) ≡ projection s which args
plain_projection s which (of_struct sent) is = ap (λ r. and_if_ok r bounded) (means_alike s.structs (kind_struct which) (of_struct sent) refl)
plain_projection s which _ is = absurd cc

-- ---- the decision

is_oneway : (o : Bool) → (((if o then 4 else 1) == 4) || o) ≡ o
is_oneway true = refl
is_oneway false = refl

type_fits : (p : Protocol) (o : Bool) → (if o then 4 else 1) < type_limit p
type_fits Binary true = omega arith
type_fits Binary false = omega arith
type_fits Compact true = omega arith
type_fits Compact false = omega arith

is_call : (o : Bool) → IsCall (if o then 4 else 1)
is_call true = inr refl
is_call false = inl refl

-- the only host of a client
abbrev pub only_office : PlainClient → List ℕ → ℕ → PlainOffice
only_office c bound most = record { schema = c.schema; bindings = (bound, c.service) ∷ []; default_slot = None; protocol = c.protocol; max_frame = most }

pub same_office : (c : PlainClient) (office : PlainOffice) (alone : IsServedAlone c office) → only_office c alone.name office.max_frame ≡ office
same_office c office alone = λ i. record {
  schema = sym alone.schema i;
  bindings = sym alone.bindings i;
  default_slot = sym alone.default_slot i;
  protocol = sym alone.protocol i;
  max_frame = office.max_frame;
}

abbrev pub said_to : PlainClient → List ℕ → PlainFunction → ℤ → Said
said_to c method f id = record { name = asked_name c method; kind = asked_type f; id = id }

abbrev pub head_of : PlainClient → List ℕ → PlainFunction → ℤ → Head
head_of c method f id = record { name = asked_name c method; kind = asked_type f; id = id; behind = length (head_text c.protocol (said_to c method f id)) }

abbrev pub the_bound : PlainClient → Bound
the_bound c = record { slot = 0; service = c.service }

decided : (c : PlainClient) (bound : List ℕ) (most : ℕ) (method : List ℕ) (f : PlainFunction) (id : ℤ) (payload : List ℕ) (raw meant : Tree) (end : ℕ)
    → (c.named ≡ true → bound ≡ c.name) → IsSoundClient c → All (λ b. IsTrue (is_name_byte b)) method → function_named c.schema c.service method ≡ Some f
    → head_at c.protocol payload ≡ head_read (head_of c method f id)
    → struct_at (wire_of c.protocol) payload (head_of c method f id).behind ≡ found_struct raw end → projection c.schema f.args raw ≡ meant_as meant
    → decision (only_office c bound most) payload ≡ Invoke (record { slot = 0; method = method; args = meant; silent = f.oneway })
unfolding decided_on_head decided_on_service decided_on_function arguments_at
decided c bound most method f id payload raw meant end same sound letters found head read projected =
    let office : PlainOffice = only_office c bound most in
    let said : Head = head_of c method f id in
    let none = whole_method method letters in
    let own = method_asked c.name method c.named sound.whole none in
    ap (decided_on_head office payload) head
    ∙ ap (decided_on_service office payload said) (only_asked bound c.name method c.service c.named same sound.whole none)
    ∙ ap (decided_on_function office payload said (the_bound c)) (ap (function_named c.schema c.service) own ∙ found)
    ∙ ap (λ x. call_made office said (the_bound c) f (read_as_arguments c.schema f.args x)) read
    ∙ ap (λ x. call_made office said (the_bound c) f (projected_or_fault c.schema x)) projected
    ∙ (λ i. Invoke (record { slot = 0; method = own i; args = meant; silent = is_oneway f.oneway i }))

-- the head of what was asked is read
pub asked_head : ((p : Protocol) (said : Said) (more : List ℕ) → FitsHead p said → IsCall said.kind
    → head_at p (head_text p said ++ more) ≡ head_read (record { name = said.name; kind = said.kind; id = said.id; behind = length (head_text p said) }))
    → (c : PlainClient) (method : List ℕ) (f : PlainFunction) (args : Tree) (id : ℤ) → IsSoundClient c → IsSchemaName method → All (λ b. b < 256) c.name → FitsSigned w32 id
    → length (asked_payload c f method args id) ≤ c.max_frame → head_at c.protocol (asked_payload c f method args id) ≡ head_read (head_of c method f id)
unfolding call_message
asked_head heads c method f args id sound letters name_bytes fits within =
    let long = call_longer c.protocol (asked_name c method) f args id in
    let said : Said = said_to c method f id in
    let head : FitsHead c.protocol said = record {
      name = omega (arith, long, within, sound.most);
      bytes = said_bytes c.name method c.named name_bytes (all_bytes method letters.bytes);
      kind = type_fits c.protocol f.oneway;
      id = fits;
    } in
    heads c.protocol said (text (encoder_of c.protocol) args) head (is_call f.oneway)

-- what an office decides
abbrev IsDecided : PlainClient → PlainOffice → List ℕ → PlainFunction → Tree → List ℕ → Type 0
IsDecided c office method f args sent =
    (payload : List ℕ) × (meant : Tree) × (sent ≡ frame payload) × (projection c.schema f.args args ≡ Ok meant)
    × (decision office payload ≡ Invoke (record { slot = 0; method = method; args = meant; silent = f.oneway }))

module _ (heads : (p : Protocol) (said : Said) (more : List ℕ) → FitsHead p said → IsCall said.kind
    → head_at p (head_text p said ++ more) ≡ head_read (record { name = said.name; kind = said.kind; id = said.id; behind = length (head_text p said) }))
    (binary : StructsAreRead Binary) (compact : StructsAreRead Compact) (tagged : (x : Tree) → IsTidy x → IsWellTagged x) where
  structs : (p : Protocol) → StructsAreRead p
  structs Binary = binary
  structs Compact = compact

  args_read : (p : Protocol) (front : List ℕ) (args : Tree) → GoesOut args → IsInRange args
      → struct_at (wire_of p) (front ++ text (encoder_of p) args) (length front) ≡ found_struct (plain args) (length front + length (text (encoder_of p) args))
  args_read p front args out range =
      ap (λ t. struct_at (wire_of p) (front ++ t) (length front)) (sym (append-nil (text (encoder_of p) args)))
      ∙ structs p args front [] (tagged args out.tidy) range out.sizes (record { is_struct = out.is_struct; depth = out.depth; count = out.count })

  pub asked_is_decided : (c : PlainClient) (office : PlainOffice) (method : List ℕ) (f : PlainFunction) (args : Tree) (id : ℤ) (sent : List ℕ)
      → IsSoundClient c → IsServedAlone c office → function_named c.schema c.service method ≡ Some f → asked_frame c method args id ≡ Ok sent
      → IsInRange args → All (λ b. b < 256) c.name → FitsSigned w32 id → IsDecided c office method f args sent
  unfolding call_message
  asked_is_decided c office method f args id sent sound alone found is range name_bytes fits =
      let was = was_asked c method args id f sent found is in
      let out = goes_out c.schema f.args args was.may in
      let meant = has_projection c.schema f.args args was.may in
      let known = function_sound c.schema sound.schema c.service method f found in
      let own : f.name ≡ method = (bytes_eq-Decides f.name method).0 known.1 in
      let letters = subst (λ (n : List ℕ). IsSchemaName n) own known.0.name in
      let said : Said = said_to c method f id in
      let payload : List ℕ = asked_payload c f method args id in (
        payload,
        meant.0,
        was.framed,
        meant.1,
        subst (λ (o : PlainOffice). decision o payload ≡ Invoke (record { slot = 0; method = method; args = meant.0; silent = f.oneway })) (same_office c office alone)
            (decided c alone.name office.max_frame method f id payload (plain args) meant.0 (length (head_text c.protocol said) + length (text (encoder_of c.protocol) args)) alone.named sound letters.bytes found
            (asked_head heads c method f args id sound letters name_bytes fits was.within)
            (args_read c.protocol (head_text c.protocol said) args out range)
            (plain_projection c.schema f.args args out.is_struct ∙ meant.1)),
      )
