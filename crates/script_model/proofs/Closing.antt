-- A payload that ends its connection is the last one that is read.
use Rattle.std.proofs.Common.{◌≡◌, ℕ, List, [], ◌∷◌, ◌++◌, refl, sym, ap, ◌∙◌, subst, append_assoc, append-nil}
use Rattle.std.specs.List.{AllByRecursion, flat_map}
use Rattle.std.proofs.lemmas.Grind.{flat_map-append}
use Rattle.std.proofs.lemmas.List.{same_from_push}
use Rattle.streams.specs.declared.outcomes.EnvelopeFault.{EnvelopeFault}
use Rattle.streams.specs.declared.outcomes.EnvelopeFault.TheVariants.{Short}
use Rattle.host_model.specs.Frames.{Frames, frame, IsPayload}
use Rattle.host_model.specs.DeskRules.{DeskRules, DeskDecision, Close, Silent, Reply, Invoke}
use Rattle.host_model.specs.Conversation.{but_last, AllKeepConnection, KeepsConnection, IsLast, LastCloses}
use Rattle.host_model.proofs.Lists.{cons_parts, but_last-push, all-append}

-- frames with frames behind them
pub joined : (max : ℕ) (a b rest more : List ℕ) (ps qs : List (List ℕ)) → rest ≡ [] → Frames max a ps rest → Frames max b qs more → Frames max (a ++ b) (ps ++ qs) more
joined max a b rest more ps qs none f g =
    let front : a ≡ flat_map frame ps = f.whole ∙ ap (λ r. flat_map frame ps ++ r) none ∙ append-nil (flat_map frame ps) in
    record {
      whole = (λ i. front i ++ g.whole i) ∙ sym (append_assoc (flat_map frame ps) (flat_map frame qs) more)
          ∙ ap (λ t. t ++ more) (sym (flat_map-append frame ps qs));
      each = all-append (IsPayload max) ps qs f.each g.each;
      no_more = g.no_more;
    }

-- what holds of all elements holds of those at the front
pub all_front : {X : Type 0} (P : X → Type 0) (xs ys : List X) → AllByRecursion P (xs ++ ys) → AllByRecursion P xs
all_front P [] ys a = tt
all_front P (x ∷ xs) ys a = (a.0, all_front P xs ys a.1)

all_last : {X : Type 0} (P : X → Type 0) (xs : List X) (x : X) → AllByRecursion P (xs ++ x ∷ []) → P x
all_last P [] x a = a.0
all_last P (y ∷ ys) x a = all_last P ys x a.1

-- the fault of a decision that ends the connection
fault_in : {C : Type 0} → DeskDecision C → EnvelopeFault
fault_in (Close fault) = fault
fault_in Silent = Short
fault_in (Reply reply) = Short
fault_in (Invoke call) = Short

module _ {C A : Type 0} (d : DeskRules C A) where
  -- no payload at the front of those that all go on ends the connection
  pub no_front_closes : (ps more : List (List ℕ)) (fault : EnvelopeFault) → AllKeepConnection d (ps ++ more) → LastCloses d ps fault → ⊥
  no_front_closes ps more fault on c =
      subst KeepsConnection c.3
      (all_last (λ p. KeepsConnection (d.decide p)) c.0 c.1 (subst (AllKeepConnection d) c.2 (all_front (λ p. KeepsConnection (d.decide p)) ps more on)))

  goes_not : (p : List ℕ) (fault : EnvelopeFault) → d.decide p ≡ Close fault → KeepsConnection (d.decide p) → ⊥
  goes_not p fault e on = subst KeepsConnection e on

  -- the first payload of these that ends the connection
  one_front : (before before' more more' : List (List ℕ)) (p p' : List ℕ) (fault fault' : EnvelopeFault) → AllKeepConnection d before → AllKeepConnection d before'
      → d.decide p ≡ Close fault → d.decide p' ≡ Close fault' → before ++ p ∷ more ≡ before' ++ p' ∷ more' → before ++ p ∷ [] ≡ before' ++ p' ∷ []
  one_front [] [] more more' p p' fault fault' on on' c c' e = ap (λ q. q ∷ []) (cons_parts p p' more more' e).0
  one_front [] (b ∷ bs) more more' p p' fault fault' on on' c c' e =
      absurd (goes_not p fault c (subst (λ q. KeepsConnection (d.decide q)) (sym (cons_parts p b more (bs ++ p' ∷ more') e).0) on'.0))
  one_front (b ∷ bs) [] more more' p p' fault fault' on on' c c' e =
      absurd (goes_not p' fault' c' (subst (λ q. KeepsConnection (d.decide q)) (cons_parts b p' (bs ++ p ∷ more) more' e).0 on.0))
  one_front (b ∷ bs) (b' ∷ bs') more more' p p' fault fault' on on' c c' e =
      let parts = cons_parts b b' (bs ++ p ∷ more) (bs' ++ p' ∷ more') e in
      let rest = one_front bs bs' more more' p p' fault fault' on.1 on'.1 c c' parts.1 in
      (λ i. parts.0 i ∷ rest i)

  -- two fronts of the same payloads, each of which ends the connection and none before it, are one
  pub one_close : (ps ps' more more' : List (List ℕ)) (fault fault' : EnvelopeFault) → AllKeepConnection d (but_last ps) → AllKeepConnection d (but_last ps')
      → LastCloses d ps fault → LastCloses d ps' fault' → ps ++ more ≡ ps' ++ more' → ps ≡ ps'
  one_close ps ps' more more' fault fault' on on' c c' e =
      let before : AllKeepConnection d c.0 = subst (AllKeepConnection d) (ap but_last c.2 ∙ but_last-push c.0 c.1) on in
      let before' : AllKeepConnection d c'.0 = subst (AllKeepConnection d) (ap but_last c'.2 ∙ but_last-push c'.0 c'.1) on' in
      c.2
      ∙ one_front c.0 c'.0 more more' c.1 c'.1 fault fault' before before' c.3 c'.3
      (sym (append_assoc c.0 (c.1 ∷ []) more) ∙ ap (λ t. t ++ more) (sym c.2) ∙ e ∙ ap (λ t. t ++ more') c'.2 ∙ append_assoc c'.0 (c'.1 ∷ []) more')
      ∙ sym c'.2

  -- and of one fault
  pub one_fault : (ps ps' : List (List ℕ)) (fault fault' : EnvelopeFault) → ps ≡ ps' → LastCloses d ps fault → LastCloses d ps' fault' → fault ≡ fault'
  unfolding fault_in
  one_fault ps ps' fault fault' same c c' =
      let last : c.1 ≡ c'.1 = (same_from_push c.0 c'.0 c.1 c'.1 (sym c.2 ∙ same ∙ c'.2)).1 in
      ap fault_in (sym c.3 ∙ ap d.decide last ∙ c'.3)
