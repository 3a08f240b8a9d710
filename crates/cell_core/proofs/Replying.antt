-- What a job comes to is a whole frame, where it is a reply: so it has a byte.
use Rattle.std.proofs.Common.{◌≡◌, ◌≢◌, ℕ, ◌+◌, ◌≤◌, Bool, true, false, Some, List, [], length, sym, ap, ◌∙◌, refl, subst, if◌then◌else◌, ⊎_elim, arith, length-append}
use Rattle.std.specs.Int.{w32, to_be_bytes}
use Rattle.std.proofs.lemmas.Option.{none-some, same_Some}
use Rattle.streams.specs.declared.outcomes.Settled.{Settled}
use Rattle.streams.specs.declared.outcomes.Settled.TheVariants.{Reply as Replied, Nothing, Close as Closed}
use Rattle.host_model.specs.declared.key.Key.{Key}
use Rattle.host_model.specs.DeskRules.{DeskDecision, Close, Silent, Reply, Invoke}
use Rattle.call_rules.specs.PlainCalls.{PlainCall, PlainAnswer}
use Rattle.call_rules.specs.Desks.{DeskMeaning, desk_rules, longest_payload, IsDesk, IsAnsweredCall, IsWholeFrame}
use Rattle.machine_model.specs.Worker.{idle, holds, has_answer, has_none, settled_by, settled_with, settlement, SettlesAs}
use Rattle.cell_loop.specs.Settings.{PlainWorker}
use Rattle.cell_loop.specs.Replies.{IsReplySome}
use Rattle.cell_core.proofs.Permitting.{payload_held}

-- a whole frame has a byte
frame_some : (bytes : List ℕ) → IsWholeFrame bytes → bytes ≢ []
frame_some bytes whole none =
    let all : length bytes ≡ length (to_be_bytes w32 (length whole.payload)) + length whole.payload =
    ap length whole.whole ∙ length-append (to_be_bytes w32 (length whole.payload)) whole.payload in
    let zero_bytes : length bytes ≡ 0 = ap length none in
    let some : 1 ≤ length whole.payload = whole.is.some in
    let f : ⊥ = omega arith in
    f

module _ (desk : DeskMeaning) (is_desk : IsDesk desk) (settled : Settled) where
  -- what is put with no call
  by_decision : (payload : List ℕ) (decision : DeskDecision PlainCall) → length payload ≤ longest_payload → desk.decide payload ≡ decision → settled_by decision ≡ Some settled
      → IsReplySome settled
  by_decision payload (Close fault) short decided is = subst IsReplySome (same_Some (Closed fault) settled is) tt
  by_decision payload Silent short decided is = subst IsReplySome (same_Some Nothing settled is) tt
  by_decision payload (Reply reply) short decided is =
      subst IsReplySome (same_Some (Replied reply) settled is) (frame_some reply (is_desk.framed payload reply short decided))
  by_decision payload (Invoke call) short decided is = absurd (none-some settled is)

  -- and what by its call's answer
  by_answer : (payload : List ℕ) (answer : PlainAnswer) (decision : DeskDecision PlainCall) → length payload ≤ longest_payload → desk.decide payload ≡ decision
      → settled_with (desk_rules desk) payload answer decision ≡ Some settled → IsReplySome settled
  by_answer payload answer (Invoke call) short decided is = go call.silent refl is
    where
      go : (b : Bool) → call.silent ≡ b → (if b then Some Nothing else Some (Replied (desk.reply payload answer))) ≡ Some settled → IsReplySome settled
      go true e is = subst IsReplySome (same_Some Nothing settled is) tt
      go false e is =
          subst IsReplySome (same_Some (Replied (desk.reply payload answer)) settled is)
          (frame_some (desk.reply payload answer) (is_desk.replied payload answer short (subst IsAnsweredCall (sym decided) e)))
  by_answer payload answer (Close fault) short decided is = absurd (none-some settled is)
  by_answer payload answer Silent short decided is = absurd (none-some settled is)
  by_answer payload answer (Reply reply) short decided is = absurd (none-some settled is)

  by_worker : (worker : PlainWorker) → length (payload_held worker) ≤ longest_payload → settlement (desk_rules desk) worker ≡ Some settled → IsReplySome settled
  by_worker idle short is = absurd (none-some settled is)
  by_worker (holds key payload) short is = by_decision payload (desk.decide payload) short refl is
  by_worker (has_answer key payload answer) short is = by_answer payload answer (desk.decide payload) short refl is
  by_worker (has_none key payload) short is = absurd (none-some settled is)

  pub settled_some : (worker : PlainWorker) (key : Key) → length (payload_held worker) ≤ longest_payload → SettlesAs (desk_rules desk) worker key settled → IsReplySome settled
  settled_some worker key short settles = ⊎_elim (by_worker worker short) (λ lack. subst IsReplySome (sym lack) tt) settles.1
