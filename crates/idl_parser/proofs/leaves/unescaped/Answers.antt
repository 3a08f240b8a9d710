use Rattle.std.proofs.Common.{◌≡◌, ◌≢◌, ◌<◌, ◌+◌, ◌∙◌, ◌++◌, ◌∷◌, ℕ, Bool, true, false, List, [], length, get_or, drop, ap, sym, append_assoc, arith}
use Rattle.std.proofs.lemmas.List.{at_drop_more}
use Rattle.std.proofs.lemmas.Grind.{common_steps}
use Rattle.idl_parser.specs.Leaves.{unescaped}
use Rattle.idl_parser.proofs.leaves.unescaped.Goals as goal
use Rattle.idl_parser.proofs.leaves.unescaped.Goals.{then-not-taken+then-byte-eq92, else-not-taken+in_ok-push, else-not-taken-via-then-not-taken+else-byte-eq92, else-not-taken-via-else-not-taken, then-taken, else-taken}

plain : (b : ℕ) (more : List ℕ) → b ≢ 92 → unescaped false (b ∷ more) ≡ b ∷ unescaped false more
plain b more n = grind (arith, common_steps)

-- a byte that stands for none, and takes the next
passed : (bytes : List ℕ) (i : ℕ) (old new all : List ℕ) (was now : Bool) → i < length bytes → was ≡ false → get_or bytes i 0 ≡ 92 → new ≡ old → now ≡ true
    → old ++ unescaped was (drop i bytes) ≡ all → new ++ unescaped now (drop (i + 1) bytes) ≡ all
passed bytes i old new all was now l w e n t so_far =
    let more : List ℕ = drop (i + 1) bytes in
    (λ j. n j ++ unescaped (t j) more)
    ∙ sym (at_drop_more (λ left. old ++ unescaped false left) bytes i 0 l ∙ ap (λ b. old ++ unescaped false (b ∷ more)) e)
    ∙ ap (λ v. old ++ unescaped v (drop i bytes)) (sym w)
    ∙ so_far

-- a byte that stands for one
put : (bytes : List ℕ) (i next : ℕ) (old new all : List ℕ) (was now : Bool) → i < length bytes
    → ((more : List ℕ) → unescaped was (get_or bytes i 0 ∷ more) ≡ next ∷ unescaped false more) → new ≡ old ++ next ∷ [] → now ≡ false
    → old ++ unescaped was (drop i bytes) ≡ all → new ++ unescaped now (drop (i + 1) bytes) ≡ all
put bytes i next old new all was now l stands n t so_far =
    let more : List ℕ = drop (i + 1) bytes in
    (λ j. n j ++ unescaped (t j) more)
    ∙ append_assoc old (next ∷ []) (unescaped false more)
    ∙ sym (at_drop_more (λ left. old ++ unescaped was left) bytes i 0 l ∙ ap (λ bs. old ++ bs) (stands more))
    ∙ so_far

pub loop-byte-preserved : goal.loop-byte-preserved
loop-byte-preserved c =
    let bytes = c.args.bytes.now in
    let at = c.loop-byte.byte-index in
    let byte = get_or bytes at 0 in
    let old = c.loop-byte.all.items in
    let new = c.if-not-taken.all.items in
    let all = unescaped false bytes in
    let was = c.loop-byte.taken in
    let now = c.if-not-taken.taken in
    let within = c.loop-byte-test.true in
    let so_far = c.loop-byte.invariant in
    elim c.if-not-taken.branch [
      | then-not-taken+then-byte-eq92 w ↦
          passed bytes at old new all was now within w.if-not-taken.true w.if-byte-eq92.true (ap (λ v. v.items) w.all-is) w.taken-is so_far
      | else-not-taken+in_ok-push w ↦
          let pushed = ap (λ v. v.items) w.all-is ∙ w.in_ok-push.ensures.items in
          elim w.if-taken.branch [
            | then-taken u ↦
                put bytes at w.if-taken.next old new all was now within
                (λ more. ap (λ v. unescaped v (byte ∷ more)) u.if-taken.true ∙ ap (λ b. b ∷ unescaped false more) (sym (u.next-is ∙ u.escaped-next.ensures)))
                pushed w.taken-is so_far
            | else-taken u ↦
                elim w.else-not-taken.branch [
                  | else-not-taken-via-then-not-taken+else-byte-eq92 v ↦
                      put bytes at w.if-taken.next old new all was now within
                      (λ more. ap (λ b. unescaped b (byte ∷ more)) u.if-taken.false ∙ plain byte more v.if-byte-eq92.false ∙ ap (λ b. b ∷ unescaped false more) (sym u.next-is))
                      pushed w.taken-is so_far
                  | else-not-taken-via-else-not-taken v ↦ absurd (cc (v.if-not-taken.false, u.if-taken.false))
                ]
          ]
    ]
