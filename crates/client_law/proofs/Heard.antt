-- A client hears the answers that its host gives.
use Rattle.std.proofs.Common.{◌≡◌, ℕ, ℤ, pos, ◌<◌, Bool, true, false, if◌then◌else◌, List, ◌++◌, length, drop, Option, Some, None, Ok, refl, sym, ap, subst, ◌∙◌, arith, FitsSigned}
use Rattle.std.specs.Prelude.{All}
use Rattle.std.specs.Int.{w16, w32}
use Rattle.std.specs.Ordering.{int_eq}
use Rattle.std.specs.Result.{IsOk}
use Rattle.std.proofs.lemmas.Bool.Decides.{Decides-int_eq}
use Rattle.std.proofs.lemmas.Int.{ints}
use Rattle.std.proofs.lemmas.Slice.Eq.{bytes_eq-Decides}
use Rattle.host_model.specs.Frames.{frame}
use Rattle.envelope.specs.declared.head.Protocol.{Protocol}
use Rattle.envelope.specs.Exception.{Failure, exception_head, exception_text}
use Rattle.envelope.specs.Said.{Said, FitsHead, IsCall, IsReply}
use Rattle.envelope.specs.Spelling.{head_text}
use Rattle.envelope.specs.Readout.{head_at, reply_head_at}
use Rattle.call_rules.specs.PlainCalls as answers
use Rattle.schema.specs.LookUp.{function_named}
use Rattle.schema.specs.PlainKind.{PlainKind}
use Rattle.schema.specs.PlainSchema.{PlainField, PlainFunction, PlainSchema}
use Rattle.schema.specs.Sound.{IsSound, IsSchemaName}
use Rattle.schema.specs.WrittenAs.{field_with_id, IsWrittenAs}
use Rattle.struct_skew.specs.Fits.{fits_kind}
use Rattle.struct_skew.specs.Projection.{meaning_of}
use Rattle.thrift_value.specs.Plain.{plain}
use Rattle.thrift_value.specs.Ranges.{IsInRange}
use Rattle.thrift_value.specs.Tidy.{IsTidy, IsWellTagged}
use Rattle.thrift_value.specs.Tree.{Tree, FieldTrees, no_fields, field}
use Rattle.wire_model.specs.Place.{struct_at, found_struct}
use Rattle.call_model.specs.Arguments.{wire_of}
use Rattle.call_model.specs.Failures.{no_result}
use Rattle.call_model.specs.FailureValues.{failure_value, FitsFailure}
use Rattle.call_model.specs.Offices.{PlainOffice}
use Rattle.call_model.specs.Replies.{may_go_back, success_fields, throws_fields, result_fields, reply_of}
use Rattle.call_model.proofs.ReadBack.{StructsAreRead}
use Rattle.client_desk.specs.Clients.{PlainClient, IsSoundClient}
use Rattle.client_desk.specs.Hearing.{PlainHeard, success, throws, heard, heard_fields, heard_value}
use Rattle.client_law.specs.HeardSo.{failed, reply_payload, IsHeardAs, IsHeardIf, IsHeardSo, IsNotReplaced, IsResultHeard, IsThrownHeard}
use Rattle.client_law.proofs.Asked.{head_of, head_read, only_office}
use Rattle.client_law.proofs.HeardValues.{success_heard, throws_heard}
use Rattle.client_law.proofs.Each.{StructsAreReadOrMany}
use Rattle.call_model.proofs.Found.{found_is, function_sound}
use Rattle.client_desk.specs.Asking.{asked_frame, asked_payload}
use Rattle.client_law.specs.HeardSo.{IsAnswerInRange}
use Rattle.client_law.specs.ServedAlone.{IsServedAlone}
use Rattle.client_law.proofs.Asked.{asked_head, same_office, was_asked}
use Rattle.client_law.proofs.Replied.{fields_are, no_fields_are, some_replied, none_replied, failed_heard, one_heard, nothing_heard}

first_id : FitsSigned w16 (pos 0)
first_id = omega (arith, ints)

same_payload : (one other : List ℕ) → frame one ≡ frame other → one ≡ other
same_payload one other is = ap (drop 4) is

-- an answer is replied to with a frame that is heard so
abbrev pub IsAnswerHeard : PlainClient → PlainOffice → List ℕ → PlainFunction → ℤ → List ℕ → answers.PlainAnswer → Type 0
IsAnswerHeard c office method f id payload answer =
    (reply : List ℕ) × (reply_of office payload answer ≡ frame reply) × IsHeardSo c.schema method f answer (heard c method id reply)

abbrev alone_made : Bool → FieldTrees → Option FieldTrees
alone_made may fields = if may then Some fields else None

module _ (replies : (p : Protocol) (said : Said) (more : List ℕ) → FitsHead p said → IsReply said.kind
    → reply_head_at p (head_text p said ++ more) ≡ head_read (record { name = said.name; kind = said.kind; id = said.id; behind = length (head_text p said) }))
    (structs : (p : Protocol) → StructsAreRead p)
    (written : (p : Protocol) → StructsAreReadOrMany p)
    (failures : (p : Protocol) (name : List ℕ) (id : ℤ) (failure : Failure) → FitsFailure failure
    → struct_at (wire_of p) (exception_text p name id failure) (length (exception_head p name id)) ≡ found_struct (failure_value failure) (length (exception_text p name id failure)))
    (tagged : (x : Tree) → IsTidy x → IsWellTagged x)
    (means : (s : PlainSchema) (kind : PlainKind) (v : Tree) → IsSound s → IsTidy v → IsWrittenAs s.structs kind v → IsOk (meaning_of s.structs (plain v) kind)) where
  module _ (c : PlainClient) (bound : List ℕ) (most : ℕ) (method : List ℕ) (name : IsSchemaName method) (f : PlainFunction) (id : ℤ) (fits : FitsSigned w32 id) (payload : List ℕ)
      (same : c.named ≡ true → bound ≡ c.name) (sound : IsSoundClient c) (found : function_named c.schema c.service method ≡ Some f)
      (head : head_at c.protocol payload ≡ head_read (head_of c method f id)) where
    Heard : answers.PlainAnswer → Type 0
    Heard answer = IsAnswerHeard c (only_office c bound most) method f id payload answer

    some : (answer : answers.PlainAnswer) (fields : FieldTrees) → IsNotReplaced c f method id answer most → result_fields c.schema.structs f answer ≡ fields_are fields
        → reply_of (only_office c bound most) payload answer ≡ frame (reply_payload c.protocol method id fields)
    some answer fields room makes = some_replied c bound most method f id payload same sound name.bytes found head answer fields makes (room fields makes)

    none : (answer : answers.PlainAnswer) → result_fields c.schema.structs f answer ≡ no_fields_are
        → reply_of (only_office c bound most) payload answer ≡ frame (exception_text c.protocol method id (no_result method))
    none answer makes = none_replied c bound most method f id payload same sound name.bytes found head answer makes

    failure : heard c method id (exception_text c.protocol method id (no_result method)) ≡ Ok (failed method)
    failure = failed_heard replies structs written failures tagged means c sound method name id fits f found

    alone : (key : ℤ) (kind : PlainKind) (made : Tree → PlainHeard) (v : Tree) → FitsSigned w16 key → IsInRange v → may_go_back c.schema.structs kind v ≡ true
        → (fits_kind kind (plain v) ≡ true → heard_fields c method 2 (field key (plain v) no_fields) ≡ heard_value c.schema made kind (plain v))
        → IsHeardAs c.schema made kind v (heard c method id (reply_payload c.protocol method id (field key v no_fields)))
    alone = one_heard replies structs written failures tagged means c sound method name id fits f found

    success_answer : (v : Tree) → IsInRange v → IsNotReplaced c f method id (answers.success v) most → Heard (answers.success v)
    unfolding Heard
    success_answer v range room = of_result f.result refl
      where
        of_may : (kind : PlainKind) → f.result ≡ Some kind → (may : Bool) → may_go_back c.schema.structs kind v ≡ may → IsAnswerHeard c (only_office c bound most) method f id payload (answers.success v)
        of_may kind e true m =
            let fields : FieldTrees = field (pos 0) v no_fields in
            let makes = ap (λ r. success_fields c.schema.structs r v) e ∙ ap (λ t. alone_made t fields) m in (
              reply_payload c.protocol method id fields,
              some (answers.success v) fields room makes,
              subst (λ r. IsResultHeard c.schema method r v (heard c method id (reply_payload c.protocol method id fields))) (sym e)
                  (subst (λ t. IsHeardIf t c.schema method success kind v (heard c method id (reply_payload c.protocol method id fields))) (sym m)
                  (alone (pos 0) kind success v first_id range m (success_heard c method f found kind (plain v) e))),
            )
        of_may kind e false m =
            let makes = ap (λ r. success_fields c.schema.structs r v) e ∙ ap (λ t. alone_made t (field (pos 0) v no_fields)) m in (
              exception_text c.protocol method id (no_result method),
              none (answers.success v) makes,
              subst (λ r. IsResultHeard c.schema method r v (heard c method id (exception_text c.protocol method id (no_result method)))) (sym e)
                  (subst (λ t. IsHeardIf t c.schema method success kind v (heard c method id (exception_text c.protocol method id (no_result method)))) (sym m) failure),
            )

        of_result : (r : Option PlainKind) → f.result ≡ r → IsAnswerHeard c (only_office c bound most) method f id payload (answers.success v)
        of_result None e = (
          exception_text c.protocol method id (no_result method),
          none (answers.success v) (ap (λ r. success_fields c.schema.structs r v) e),
          subst (λ r. IsResultHeard c.schema method r v (heard c method id (exception_text c.protocol method id (no_result method)))) (sym e) failure,
        )
        of_result (Some kind) e = of_may kind e (may_go_back c.schema.structs kind v) refl

    throws_answer : (key : ℤ) (v : Tree) → FitsSigned w16 key → IsInRange v → All (λ (t : PlainField). t.id ≡ pos 0 → ⊥) f.throws
        → IsNotReplaced c f method id (answers.throws key v) most → Heard (answers.throws key v)
    unfolding Heard
    throws_answer key v key_fits range no_zero room = of_field (field_with_id key f.throws) refl
      where
        of_may : (t : PlainField) → field_with_id key f.throws ≡ Some t → (may : Bool) → may_go_back c.schema.structs t.kind v ≡ may
            → IsAnswerHeard c (only_office c bound most) method f id payload (answers.throws key v)
        of_may t e true m =
            let known = found_is (λ (t : PlainField). t.id ≡ pos 0 → ⊥) (λ (t : PlainField). int_eq t.id key) f.throws t no_zero e in
            let its : key ≡ t.id = sym ((Decides-int_eq t.id key).0 known.1) in
            let fields : FieldTrees = field t.id v no_fields in
            let makes = ap (λ o. throws_fields c.schema.structs o v) e ∙ ap (λ t. alone_made t fields) m in (
              reply_payload c.protocol method id fields,
              some (answers.throws key v) fields room makes,
              subst (λ o. IsThrownHeard c.schema method o v (heard c method id (reply_payload c.protocol method id fields))) (sym e)
                  (subst (λ b. IsHeardIf b c.schema method (throws t.id) t.kind v (heard c method id (reply_payload c.protocol method id fields))) (sym m)
                  (alone t.id t.kind (throws t.id) v (subst (λ (n : ℤ). FitsSigned w16 n) its key_fits) range m
                  (throws_heard c method f found t (plain v) (subst (λ (n : ℤ). field_with_id n f.throws ≡ Some t) its e) known.0))),
            )
        of_may t e false m =
            let makes = ap (λ o. throws_fields c.schema.structs o v) e ∙ ap (λ b. alone_made b (field t.id v no_fields)) m in (
              exception_text c.protocol method id (no_result method),
              none (answers.throws key v) makes,
              subst (λ o. IsThrownHeard c.schema method o v (heard c method id (exception_text c.protocol method id (no_result method)))) (sym e)
                  (subst (λ b. IsHeardIf b c.schema method (throws t.id) t.kind v (heard c method id (exception_text c.protocol method id (no_result method)))) (sym m) failure),
            )

        of_field : (o : Option PlainField) → field_with_id key f.throws ≡ o → IsAnswerHeard c (only_office c bound most) method f id payload (answers.throws key v)
        of_field None e = (
          exception_text c.protocol method id (no_result method),
          none (answers.throws key v) (ap (λ o. throws_fields c.schema.structs o v) e),
          subst (λ o. IsThrownHeard c.schema method o v (heard c method id (exception_text c.protocol method id (no_result method)))) (sym e) failure,
        )
        of_field (Some t) e = of_may t e (may_go_back c.schema.structs t.kind v) refl

    answer_heard : (answer : answers.PlainAnswer) → IsAnswerInRange answer → All (λ (t : PlainField). t.id ≡ pos 0 → ⊥) f.throws → IsNotReplaced c f method id answer most → Heard answer
    unfolding Heard
    answer_heard (answers.success v) range no_zero room = success_answer v range room
    answer_heard answers.empty range no_zero room =
        (reply_payload c.protocol method id no_fields, some answers.empty no_fields room refl, nothing_heard replies structs written failures tagged means c sound method name id fits f found)
    answer_heard (answers.throws key v) range no_zero room = throws_answer key v range.0 range.1 no_zero room
    answer_heard answers.broken range no_zero room = (exception_text c.protocol method id (no_result method), none answers.broken refl, failure)

  pub replied_is_heard : (heads : (p : Protocol) (said : Said) (more : List ℕ) → FitsHead p said → IsCall said.kind
      → head_at p (head_text p said ++ more) ≡ head_read (record { name = said.name; kind = said.kind; id = said.id; behind = length (head_text p said) }))
      → (c : PlainClient) (office : PlainOffice) (method : List ℕ) (f : PlainFunction) (args : Tree) (id : ℤ) (payload : List ℕ) (answer : answers.PlainAnswer)
      → IsSoundClient c → IsServedAlone c office → function_named c.schema c.service method ≡ Some f → asked_frame c method args id ≡ Ok (frame payload)
      → IsAnswerInRange answer → All (λ b. b < 256) c.name → FitsSigned w32 id → All (λ (t : PlainField). t.id ≡ pos 0 → ⊥) f.throws
      → IsNotReplaced c f method id answer office.max_frame → IsAnswerHeard c office method f id payload answer
  unfolding Heard
  replied_is_heard heads c office method f args id payload answer sound alone found is range name_bytes fits no_zero room =
      let was = was_asked c method args id f (frame payload) found is in
      let known = function_sound c.schema sound.schema c.service method f found in
      let own : f.name ≡ method = (bytes_eq-Decides f.name method).0 known.1 in
      let letters = subst (λ (n : List ℕ). IsSchemaName n) own known.0.name in
      let it_is : payload ≡ asked_payload c f method args id = same_payload payload (asked_payload c f method args id) was.framed in
      let head = ap (head_at c.protocol) it_is ∙ asked_head heads c method f args id sound letters name_bytes fits was.within in
      subst (λ (o : PlainOffice). IsAnswerHeard c o method f id payload answer) (same_office c office alone)
      (answer_heard c alone.name office.max_frame method letters f id fits payload alone.named sound found head answer range no_zero room)
