-- A client hears what its host replies.
use Rattle.std.proofs.Common.{◌≡◌, ◌⊎◌, inl, inr, ℕ, ℤ, ◌+◌, ◌<◌, ◌≤◌, Bool, true, false, if◌then◌else◌, List, [], ◌++◌, length, Option, Some, None, Ok, Err, refl, sym, ap, subst, ◌∙◌, arith, append-nil, FitsSigned}
use Rattle.std.specs.Prelude.{All, IsTrue, nat_le}
use Rattle.std.specs.Int.{w16, w32}
use Rattle.std.specs.Ordering.{int_eq}
use Rattle.std.specs.Result.{IsOk}
use Rattle.std.proofs.lemmas.Bool.{leb-true, leb-false, le-leb}
use Rattle.std.proofs.lemmas.Bool.Decides.{Decides-int_eq}
use Rattle.std.proofs.lemmas.Slice.Eq.{bytes_eq-Decides}
use Rattle.host_model.specs.Frames.{frame}
use Rattle.envelope.specs.declared.head.Head.{Head}
use Rattle.envelope.specs.declared.head.Protocol.{Protocol}
use Rattle.envelope.specs.declared.head.Protocol.TheVariants.{Binary, Compact}
use Rattle.envelope.specs.Exception.{Failure, exception_head, exception_text}
use Rattle.envelope.specs.Said.{Said, FitsHead, IsReply, type_limit}
use Rattle.envelope.specs.Spelling.{head_text}
use Rattle.envelope.specs.Readout.{head_at, reply_head_at}
use Rattle.call_rules.specs.PlainCalls as answers
use Rattle.schema.specs.LookUp.{function_named}
use Rattle.schema.specs.PlainKind.{PlainKind}
use Rattle.schema.specs.PlainSchema.{PlainFunction, PlainSchema}
use Rattle.schema.specs.Sound.{IsSound, IsSchemaName, is_name_byte}
use Rattle.schema.specs.WrittenAs.{IsWrittenAs}
use Rattle.struct_skew.specs.Fits.{fits_kind}
use Rattle.struct_skew.specs.Projection.{meaning_of}
use Rattle.thrift_value.specs.declared.wire_fault.WireFault.TheVariants as wire
use Rattle.thrift_value.specs.Measures.{count_of, depth_of}
use Rattle.thrift_value.specs.Plain.{plain}
use Rattle.thrift_value.specs.Ranges.{IsInRange}
use Rattle.thrift_value.specs.Sizes.{HasSmallSizes}
use Rattle.thrift_value.specs.Tidy.{IsTidy, IsWellTagged}
use Rattle.thrift_value.specs.Tree.{Tree, of_struct, FieldTrees, no_fields, field}
use Rattle.wire_model.specs.Encoder.{text}
use Rattle.wire_model.specs.Place.{most_levels, most_values, struct_at, found_struct}
use Rattle.call_model.specs.Arguments.{wire_of}
use Rattle.call_model.specs.Decisions.{failure_frame}
use Rattle.call_model.specs.Failures.{no_result, too_large}
use Rattle.call_model.specs.FailureValues.{failure_value, FitsFailure}
use Rattle.call_model.specs.Names.{method_part}
use Rattle.call_model.specs.Offices.{PlainOffice}
use Rattle.call_model.specs.Replies.{encoder_of, may_go_back, result_fields, reply_head, within_frame, result_frame, reply_of_function, reply_of_service, reply_to_head, reply_of}
use Rattle.call_model.proofs.ReadBack.{StructsAreRead}
use Rattle.client_desk.specs.Clients.{PlainClient, IsSoundClient}
use Rattle.client_desk.specs.declared.heard_fault.HeardFault.TheVariants.{WrongName, WrongId}
use Rattle.client_desk.specs.Hearing.{PlainHeard, heard, heard_fields, heard_head, heard_nothing, heard_struct, heard_value}
use Rattle.client_law.specs.HeardSo.{failed, reply_payload, IsHeardAs}
use Rattle.client_law.proofs.Asked.{head_of, head_read, only_office}
use Rattle.client_law.proofs.Bytes.{all_bytes}
use Rattle.client_law.proofs.Failed.{failure_fits}
use Rattle.client_law.proofs.HeardValues.{goes_back, fits_back, value_heard, empty_heard, GoesBack}
use Rattle.client_law.proofs.Names.{whole_method, only_asked, method_asked}
use Rattle.client_law.proofs.Each.{StructsAreReadOrMany}
use Rattle.client_law.proofs.Written.{IsReadOrMany}

abbrev pub fields_are : FieldTrees → Option FieldTrees
fields_are fields = Some fields

abbrev pub no_fields_are : Option FieldTrees
no_fields_are = None

-- ---- what the host replies

module _ (c : PlainClient) (bound : List ℕ) (most : ℕ) (method : List ℕ) (f : PlainFunction) (id : ℤ) (payload : List ℕ) (same : c.named ≡ true → bound ≡ c.name) (sound : IsSoundClient c)
    (letters : All (λ b. IsTrue (is_name_byte b)) method) (found : function_named c.schema c.service method ≡ Some f) (head : head_at c.protocol payload ≡ head_read (head_of c method f id)) where
  abbrev office : PlainOffice
  office = only_office c bound most

  abbrev said : Head
  said = head_of c method f id

  own : method_part said.name ≡ method
  own = method_asked c.name method c.named sound.whole (whole_method method letters)

  replied_by : (answer : answers.PlainAnswer) → reply_of office payload answer ≡ result_frame office said (result_fields c.schema.structs f answer)
  unfolding reply_to_head reply_of_service reply_of_function
  replied_by answer =
      ap (reply_to_head office answer) head
      ∙ ap (reply_of_service office said answer) (only_asked bound c.name method c.service c.named same sound.whole (whole_method method letters))
      ∙ ap (reply_of_function office said answer) (ap (function_named c.schema c.service) own ∙ found)

  sized : (reply : List ℕ) → length reply ≤ most → within_frame office said reply ≡ frame reply
  unfolding within_frame
  sized reply room = ap (λ t. if t then frame reply else failure_frame c.protocol said too_large) (le-leb (length reply) most room)

  pub some_replied : (answer : answers.PlainAnswer) (fields : FieldTrees) → result_fields c.schema.structs f answer ≡ fields_are fields
      → length (reply_payload c.protocol method id fields) ≤ most → reply_of office payload answer ≡ frame (reply_payload c.protocol method id fields)
  unfolding result_frame reply_head
  some_replied answer fields makes room =
      replied_by answer ∙ ap (result_frame office said) makes ∙ ap (λ name. within_frame office said (reply_payload c.protocol name id fields)) own
      ∙ sized (reply_payload c.protocol method id fields) room

  pub none_replied : (answer : answers.PlainAnswer) → result_fields c.schema.structs f answer ≡ no_fields_are
      → reply_of office payload answer ≡ frame (exception_text c.protocol method id (no_result method))
  unfolding result_frame failure_frame
  none_replied answer makes =
      replied_by answer ∙ ap (result_frame office said) makes ∙ ap (λ name. frame (exception_text c.protocol name id (no_result name))) own

-- ---- what the client hears

abbrev said_back : List ℕ → ℕ → ℤ → Said
said_back method kind id = record { name = method; kind = kind; id = id }

reply_fits : (p : Protocol) (n : ℕ) → n ≤ 3 → n < type_limit p
reply_fits Binary n few = omega arith
reply_fits Compact n few = omega arith

module _ (replies : (p : Protocol) (said : Said) (more : List ℕ) → FitsHead p said → IsReply said.kind
    → reply_head_at p (head_text p said ++ more) ≡ head_read (record { name = said.name; kind = said.kind; id = said.id; behind = length (head_text p said) }))
    (structs : (p : Protocol) → StructsAreRead p)
    (written : (p : Protocol) → StructsAreReadOrMany p)
    (failures : (p : Protocol) (name : List ℕ) (id : ℤ) (failure : Failure) → FitsFailure failure
    → struct_at (wire_of p) (exception_text p name id failure) (length (exception_head p name id)) ≡ found_struct (failure_value failure) (length (exception_text p name id failure)))
    (tagged : (x : Tree) → IsTidy x → IsWellTagged x)
    (means : (s : PlainSchema) (kind : PlainKind) (v : Tree) → IsSound s → IsTidy v → IsWrittenAs s.structs kind v → IsOk (meaning_of s.structs (plain v) kind)) where
  module _ (c : PlainClient) (sound : IsSoundClient c) (method : List ℕ) (name : IsSchemaName method) (id : ℤ) (fits : FitsSigned w32 id) (f : PlainFunction)
      (found : function_named c.schema c.service method ≡ Some f) where
    abbrev front : ℕ → List ℕ
    front kind = head_text c.protocol (said_back method kind id)

    fits_head : (kind : ℕ) → kind ≤ 3 → FitsHead c.protocol (said_back method kind id)
    fits_head kind few =
        let short = name.short in
        record { name = omega (arith, short); bytes = all_bytes method name.bytes; kind = reply_fits c.protocol kind few; id = fits }

    -- a message with this head is heard by its struct
    heard_by : (kind : ℕ) (rest : List ℕ) → kind ≤ 3 → IsReply kind
        → heard c method id (front kind ++ rest) ≡ heard_struct c method kind (struct_at (wire_of c.protocol) (front kind ++ rest) (length (front kind)))
    heard_by kind rest few is =
        let told = heard_struct c method kind (struct_at (wire_of c.protocol) (front kind ++ rest) (length (front kind))) in
        ap (heard_head c method id (front kind ++ rest)) (replies c.protocol (said_back method kind id) rest (fits_head kind few) is)
        ∙ ap (λ t. if t then (if int_eq id id then told else Err (WrongId id)) else Err WrongName) ((bytes_eq-Decides method method).1 refl)
        ∙ ap (λ t. if t then told else Err (WrongId id)) ((Decides-int_eq id id).1 refl)

    pub failed_heard : heard c method id (exception_text c.protocol method id (no_result method)) ≡ Ok (failed method)
    unfolding exception_head
    failed_heard =
        heard_by 3 _ (omega arith) (inr refl)
        ∙ ap (heard_struct c method 3) (failures c.protocol method id (no_result method) (failure_fits method name))

    -- a struct of a reply is read, or it has too many values
    Read : FieldTrees → Type 0
    Read fields =
        ((struct_at (wire_of c.protocol) (reply_payload c.protocol method id fields) (length (front 2)) ≡ Err wire.TooMany) × (most_values < count_of (of_struct fields)))
        ⊎ ((end : ℕ) × (struct_at (wire_of c.protocol) (reply_payload c.protocol method id fields) (length (front 2)) ≡ found_struct (plain (of_struct fields)) end))

    read : (fields : FieldTrees) → IsWellTagged (of_struct fields) → IsInRange (of_struct fields) → HasSmallSizes (of_struct fields) → depth_of (of_struct fields) ≤ most_levels → Read fields
    unfolding Read
    read fields tags range sizes depth = either (nat_le (count_of (of_struct fields)) most_values) refl
      where
        back : struct_at (wire_of c.protocol) (front 2 ++ text (encoder_of c.protocol) (of_struct fields)) (length (front 2))
            ≡ struct_at (wire_of c.protocol) (front 2 ++ (text (encoder_of c.protocol) (of_struct fields) ++ [])) (length (front 2))
        back = ap (λ t. struct_at (wire_of c.protocol) (front 2 ++ t) (length (front 2))) (sym (append-nil (text (encoder_of c.protocol) (of_struct fields))))

        or_many : most_values < count_of (of_struct fields)
            → IsReadOrMany (plain (of_struct fields)) (length (front 2) + length (text (encoder_of c.protocol) (of_struct fields)))
            (struct_at (wire_of c.protocol) (front 2 ++ (text (encoder_of c.protocol) (of_struct fields) ++ [])) (length (front 2)))
            → Read fields
        or_many more (inl many) = inl (back ∙ many, more)
        or_many more (inr found) = inr (length (front 2) + length (text (encoder_of c.protocol) (of_struct fields)), back ∙ found)

        either : (b : Bool) → nat_le (count_of (of_struct fields)) most_values ≡ b → Read fields
        either true e =
            inr (
              length (front 2) + length (text (encoder_of c.protocol) (of_struct fields)),
              back ∙ structs c.protocol (of_struct fields) (front 2) [] tags range sizes
                  (record { is_struct = refl; depth = depth; count = leb-true (count_of (of_struct fields)) most_values e }),
            )
        either false e =
            or_many (leb-false (count_of (of_struct fields)) most_values e) (written c.protocol (of_struct fields) (front 2) [] tags range sizes refl depth)

    heard_two : (fields : FieldTrees) → heard c method id (reply_payload c.protocol method id fields)
        ≡ heard_struct c method 2 (struct_at (wire_of c.protocol) (reply_payload c.protocol method id fields) (length (front 2)))
    heard_two fields = heard_by 2 (text (encoder_of c.protocol) (of_struct fields)) (omega arith) (inl refl)

    -- a value alone in its struct
    pub one_heard : (key : ℤ) (kind : PlainKind) (made : Tree → PlainHeard) (v : Tree) → FitsSigned w16 key → IsInRange v → may_go_back c.schema.structs kind v ≡ true
        → (fits_kind kind (plain v) ≡ true → heard_fields c method 2 (field key (plain v) no_fields) ≡ heard_value c.schema made kind (plain v))
        → IsHeardAs c.schema made kind v (heard c method id (reply_payload c.protocol method id (field key v no_fields)))
    unfolding Read
    one_heard key kind made v key_fits range may tells =
        let back = goes_back c.schema.structs kind v may in
        let shallow = back.levels in
        subst (IsHeardAs c.schema made kind v) (sym (heard_two (field key v no_fields)))
        (by_read back (read (field key v no_fields) (tagged v back.tidy, tt) (key_fits, range, tt) (back.sizes, tt) (omega (arith, shallow))))
      where
        by_read : GoesBack c.schema.structs kind v → Read (field key v no_fields)
            → IsHeardAs c.schema made kind v (heard_struct c method 2 (struct_at (wire_of c.protocol) (reply_payload c.protocol method id (field key v no_fields)) (length (front 2))))
        by_read back (inl many) =
            let more = many.1 in
            subst (λ r. IsHeardAs c.schema made kind v (heard_struct c method 2 r)) (sym many.0) (omega (arith, more))
        by_read back (inr found) =
            subst (λ r. IsHeardAs c.schema made kind v (heard_struct c method 2 r)) (sym found.1)
            (subst (IsHeardAs c.schema made kind v) (sym (tells (fits_back c.schema.structs kind v back)))
            (value_heard c.schema made kind v back (means c.schema kind v sound.schema back.tidy back.written)))

    pub nothing_heard : heard c method id (reply_payload c.protocol method id no_fields) ≡ Ok (heard_nothing f.result)
    unfolding Read
    nothing_heard = heard_two no_fields ∙ by_read (read no_fields tt tt tt (omega arith))
      where
        by_read : Read no_fields
            → heard_struct c method 2 (struct_at (wire_of c.protocol) (reply_payload c.protocol method id no_fields) (length (front 2))) ≡ Ok (heard_nothing f.result)
        by_read (inl many) = let more = many.1 in absurd (omega (arith, more))
        by_read (inr read) = ap (heard_struct c method 2) read.1 ∙ empty_heard c method f found
