-- A fault on the way is the fault of the whole.
use Rattle.std.proofs.Common.{◌≡◌, List, [], ◌∷◌, ◌++◌, Result, Ok, Err, refl, sym, ap, subst}
use Rattle.thrift_value.specs.declared.wire_fault.WireFault.{WireFault}
use Rattle.thrift_value.specs.declared.wire_fault.WireFault.TheVariants.{Short, BadType, BadSize, LongVarint, FieldRange, TooDeep, TooMany, NoMemory}
use Rattle.wire_model.specs.Answering.{FaultsOrNoMemory, AnswersOrNoMemory, FaultsExactly, AnswersExactly}
use Rattle.wire_model.specs.Decoder.{Unread, go_on}
use Rattle.wire_walk.specs.Walked.{prepended, in_front}

-- the same fault of another reading, where a fault of the one is one of the other
fails_by : {X Y : Type 0} (fault : WireFault) (r : Result X WireFault) (s : Result Y WireFault)
    → ((f : WireFault) → r ≡ Err f → s ≡ Err f) → FaultsOrNoMemory fault r → FaultsOrNoMemory fault s
fails_by Short r s on h = on Short h
fails_by (BadType n) r s on h = on (BadType n) h
fails_by BadSize r s on h = on BadSize h
fails_by LongVarint r s on h = on LongVarint h
fails_by FieldRange r s on h = on FieldRange h
fails_by TooDeep r s on h = on TooDeep h
fails_by TooMany r s on h = on TooMany h
fails_by NoMemory r s on h = tt

-- what follows isn't read
pub fails_on : {A B : Type 0} (fault : WireFault) (r : Result (A × Unread) WireFault) (k : A → Unread → Result (B × Unread) WireFault)
    → FaultsOrNoMemory fault r → FaultsOrNoMemory fault (go_on r k)
fails_on fault r k h = fails_by fault r (go_on r k) (λ f e. ap (λ x. go_on x k) e) h

-- what was read before doesn't matter
pub fails_front : {E T : Type 0} (cons : E → T → T) (xs : List E) (fault : WireFault) (r : Result (T × Unread) WireFault)
    → FaultsOrNoMemory fault r → FaultsOrNoMemory fault (in_front cons xs r)
fails_front cons xs fault r h = fails_by fault r (in_front cons xs r) (λ f e. ap (in_front cons xs) e) h

pub fails_same : {X : Type 0} (fault : WireFault) (r s : Result X WireFault) → r ≡ s → FaultsOrNoMemory fault r → FaultsOrNoMemory fault s
fails_same fault r s e h = subst (λ x. FaultsOrNoMemory fault x) e h

pub on_ok : {A B : Type 0} (r : Result (A × Unread) WireFault) (k : A → Unread → Result (B × Unread) WireFault) (x : A) (rest : Unread)
    → r ≡ Ok (x, rest) → go_on r k ≡ k x rest
on_ok r k x rest e = ap (λ z. go_on z k) e

-- one more element in front
joined_push : {E T : Type 0} (cons : E → T → T) (xs : List E) (x : E) (more : T) → prepended cons (xs ++ x ∷ []) more ≡ prepended cons xs (cons x more)
joined_push cons [] x more = refl
joined_push cons (y ∷ ys) x more = ap (cons y) (joined_push cons ys x more)

pub front_push : {E T : Type 0} (cons : E → T → T) (xs : List E) (x : E) (r : Result (T × Unread) WireFault)
    → in_front cons (xs ++ x ∷ []) r ≡ in_front cons xs (go_on r (λ more rest. Ok (cons x more, rest)))
front_push cons xs x (Ok read) = ap (λ more. Ok (more, read.1)) (joined_push cons xs x read.0)
front_push cons xs x (Err fault) = refl

pub front_none : {E T : Type 0} (cons : E → T → T) (r : Result (T × Unread) WireFault) → in_front cons [] r ≡ r
front_none cons (Ok read) = refl
front_none cons (Err fault) = refl

-- the same answer to the same reading
pub gives_same : {X Y : Type 0} (view : X → Y) (result : Result X WireFault) (r s : Result Y WireFault) → r ≡ s → AnswersOrNoMemory view result r → AnswersOrNoMemory view result s
gives_same view result r s e h = subst (λ x. AnswersOrNoMemory view result x) e h

pub too_deep : {X : Type 0} (fault : WireFault) (r : Result X WireFault) → fault ≡ TooDeep → r ≡ Err TooDeep → FaultsOrNoMemory fault r
too_deep fault r is e = subst (λ f. FaultsOrNoMemory f r) (sym is) e

-- what is told is given
pub fails_told : {X : Type 0} (fault : WireFault) (r : Result X WireFault) → FaultsExactly fault r → FaultsOrNoMemory fault r
fails_told NoMemory r h = tt
fails_told fault r h = h

pub gives_told : {X Y : Type 0} (view : X → Y) (result : Result X WireFault) (r : Result Y WireFault) → AnswersExactly view result r → AnswersOrNoMemory view result r
gives_told view (Ok x) r h = h
gives_told view (Err fault) r h = fails_told fault r h
