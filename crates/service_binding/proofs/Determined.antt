-- What is bound, and what is refused, is determined.
use Rattle.std.proofs.Common.{◌≡◌, ℕ, suc, List, [], ◌∷◌, ◌++◌, length, get_or, drop, Result, Ok, Err, refl, sym, ap, ap₂, ◌∙◌, subst, inl, inr, append_assoc, append-nil}
use Rattle.service_binding.specs.Binding.{AreBound, AreBoundBehind, IsBound, IsRefused, NumberedName}
use Rattle.call_rules.specs.Handling.{ServiceState}
use Rattle.call_rules.specs.Suited.{IsSuited}
use Rattle.service_binding.specs.Pairs.{NamedKind}
use Rattle.schema.specs.LookUp.{service_named}
use Rattle.schema.specs.PlainSchema.{PlainSchema}
use Rattle.schema.specs.Sound.{IsSound}
use Rattle.schema.proofs.OneShapes.{one_shapes}
use Rattle.service_binding.specs.declared.fault.BindKind.{BindKind}
use Rattle.service_binding.specs.FirstRefusal.{IsFirstRefusal}
use Rattle.service_binding.specs.Handlers.{handler_for}
use Rattle.service_binding.specs.Services.{HasShapes, is_name_taken, number_for}
use Rattle.service_binding.proofs.Served.{number_known, number_within}

-- what is answered twice is one answer
ok_once : {A E : Type 0} (r : Result A E) (a b : A) → r ≡ Ok a → r ≡ Ok b → a ≡ b
ok_once r a b p q = let e : Ok a ≡ Ok b = sym p ∙ q in cc

pub err_once : {A E : Type 0} (r : Result A E) (a b : E) → r ≡ Err a → r ≡ Err b → a ≡ b
err_once r a b p q = let e : Err a ≡ Err b = sym p ∙ q in cc

pub no_both : {A E : Type 0} (r : Result A E) (a : A) (b : E) → r ≡ Ok a → r ≡ Err b → ⊥
no_both r a b p q = let e : Ok a ≡ Err b = sym p ∙ q in let f : ⊥ = cc in f

-- a service has one list of shapes, so a handler suits it or doesn't
no_both_shapes : (s : PlainSchema) → IsSound s → (which : ℕ) (before : List NamedKind) (pair : NamedKind) (service other : ServiceState) → number_for s before pair ≡ Ok which
    → service ≡ other → HasShapes s which (IsSuited service.kind) → HasShapes s which (λ lines. IsSuited other.kind lines → ⊥) → ⊥
no_both_shapes s sound which before pair service other number same (lines, shapes, suits) (others, other_shapes, suits_not) =
    let known = number_known (is_name_taken before pair.0) (service_named s pair.0) which number in
    let one = one_shapes s which lines others sound (number_within s pair.0 which known.1) shapes other_shapes in
    suits_not (subst (λ (h : ServiceState). IsSuited h.kind others) same (subst (IsSuited service.kind) one suits))

-- a pair that is bound isn't refused
not_refused : (s : PlainSchema) (services : List ServiceState) (before : List NamedKind) (pair : NamedKind) (binding : NumberedName) (service : ServiceState) (kind : BindKind)
    → IsSound s → IsBound s services before pair binding service → IsRefused s services before pair kind → ⊥
not_refused s services before pair binding service kind sound is (inl refused) = no_both (number_for s before pair) binding.1 kind is.number refused
not_refused s services before pair binding service kind sound is (inr (inl none)) = no_both (handler_for services before pair) service kind is.handler none.handler
not_refused s services before pair binding service kind sound is (inr (inr (named, un))) =
    let number : binding.1 ≡ un.which = ok_once (number_for s before pair) binding.1 un.which is.number un.number in
    let handler = ok_once (handler_for services before pair) service un.service is.handler un.handler in
    no_both_shapes s sound binding.1 before pair service un.service is.number handler is.suits
    (subst (λ n. HasShapes s n (λ lines. IsSuited un.service.kind lines → ⊥)) (sym number) un.shapes)

-- a pair is refused for one reason
one_reason : (s : PlainSchema) (services : List ServiceState) (before : List NamedKind) (pair : NamedKind) (kind reason : BindKind)
    → IsRefused s services before pair kind → IsRefused s services before pair reason → kind ≡ reason
one_reason s services before pair kind reason (inl a) (inl b) = err_once (number_for s before pair) kind reason a b
one_reason s services before pair kind reason (inl a) (inr (inl b)) = absurd (no_both (number_for s before pair) b.which kind b.number a)
one_reason s services before pair kind reason (inl a) (inr (inr b)) = absurd (no_both (number_for s before pair) b.1.which kind b.1.number a)
one_reason s services before pair kind reason (inr (inl a)) (inl b) = absurd (no_both (number_for s before pair) a.which reason a.number b)
one_reason s services before pair kind reason (inr (inr a)) (inl b) = absurd (no_both (number_for s before pair) a.1.which reason a.1.number b)
one_reason s services before pair kind reason (inr (inl a)) (inr (inl b)) = err_once (handler_for services before pair) kind reason a.handler b.handler
one_reason s services before pair kind reason (inr (inl a)) (inr (inr b)) = absurd (no_both (handler_for services before pair) b.1.service kind b.1.handler a.handler)
one_reason s services before pair kind reason (inr (inr a)) (inr (inl b)) = absurd (no_both (handler_for services before pair) a.1.service reason a.1.handler b.handler)
one_reason s services before pair kind reason (inr (inr a)) (inr (inr b)) = a.0 ∙ sym b.0

-- bindings of no pairs
ended : (s : PlainSchema) (services : List ServiceState) (before : List NamedKind) (bindings : List NumberedName) (bound : List ServiceState)
    → AreBoundBehind s services before [] bindings bound → (bindings ≡ []) × (bound ≡ [])
ended s services before [] [] are = (refl, refl)
ended s services before [] (h ∷ bound) are = absurd are
ended s services before (b ∷ bindings) bound are = absurd are

-- bindings of a pair and others
record Begun (s : PlainSchema) (services : List ServiceState) (before : List NamedKind) (pair : NamedKind) (pairs : List NamedKind) (bindings : List NumberedName) (bound : List ServiceState) : Type 0 where
  binding : NumberedName
  more_bindings : List NumberedName
  service : ServiceState
  more_bound : List ServiceState
  whole_bindings : bindings ≡ binding ∷ more_bindings
  whole_bound : bound ≡ service ∷ more_bound
  first : IsBound s services before pair binding service
  more : AreBoundBehind s services (before ++ pair ∷ []) pairs more_bindings more_bound

begun : (s : PlainSchema) (services : List ServiceState) (before : List NamedKind) (pair : NamedKind) (pairs : List NamedKind) (bindings : List NumberedName) (bound : List ServiceState)
    → AreBoundBehind s services before (pair ∷ pairs) bindings bound → Begun s services before pair pairs bindings bound
begun s services before pair pairs [] bound are = absurd are
begun s services before pair pairs (b ∷ bindings) [] are = absurd are
begun s services before pair pairs (b ∷ bindings) (h ∷ bound) are =
    record { binding = b; more_bindings = bindings; service = h; more_bound = bound; whole_bindings = refl; whole_bound = refl; first = are.0; more = are.1 }

-- pairs are bound in one way
pub one_way : (s : PlainSchema) (services : List ServiceState) (before pairs : List NamedKind) (bindings others : List NumberedName) (bound taken : List ServiceState)
    → AreBoundBehind s services before pairs bindings bound → AreBoundBehind s services before pairs others taken → (bindings ≡ others) × (bound ≡ taken)
one_way s services before [] bindings others bound taken a b =
    let x = ended s services before bindings bound a in
    let y = ended s services before others taken b in
    (x.0 ∙ sym y.0, x.1 ∙ sym y.1)
one_way s services before (p ∷ pairs) bindings others bound taken a b =
    let x = begun s services before p pairs bindings bound a in
    let y = begun s services before p pairs others taken b in
    let more = one_way s services (before ++ p ∷ []) pairs x.more_bindings y.more_bindings x.more_bound y.more_bound x.more y.more in
    let name : x.binding.0 ≡ y.binding.0 = x.first.name ∙ sym y.first.name in
    let number : x.binding.1 ≡ y.binding.1 = ok_once (number_for s before p) x.binding.1 y.binding.1 x.first.number y.first.number in
    let handler : x.service ≡ y.service = ok_once (handler_for services before p) x.service y.service x.first.handler y.first.handler in
    let one : x.binding ≡ y.binding = λ i. (name i, number i) in
    (x.whole_bindings ∙ ap₂ (λ c cs. c ∷ cs) one more.0 ∙ sym y.whole_bindings, x.whole_bound ∙ ap₂ (λ c cs. c ∷ cs) handler more.1 ∙ sym y.whole_bound)

-- none of the pairs that are bound is refused
none_refused : (s : PlainSchema) (services : List ServiceState) → IsSound s → (front before : List NamedKind) (pair : NamedKind) (after : List NamedKind) (bindings : List NumberedName) (bound : List ServiceState) (kind : BindKind)
    → AreBoundBehind s services front (before ++ pair ∷ after) bindings bound → IsRefused s services (front ++ before) pair kind → ⊥
none_refused s services sound front [] pair after bindings bound kind are refused =
    let x = begun s services front pair after bindings bound are in
    not_refused s services front pair x.binding x.service kind sound x.first (subst (λ (l : List NamedKind). IsRefused s services l pair kind) (append-nil front) refused)
none_refused s services sound front (p ∷ before) pair after bindings bound kind are refused =
    let x = begun s services front p (before ++ pair ∷ after) bindings bound are in
    none_refused s services sound (front ++ p ∷ []) before pair after x.more_bindings x.more_bound kind x.more
    (subst (λ (l : List NamedKind). IsRefused s services l pair kind) (sym (append_assoc front (p ∷ []) before)) refused)

pub bound_or_refused : (s : PlainSchema) (services : List ServiceState) (pairs : List NamedKind) (bindings : List NumberedName) (bound : List ServiceState) (place : ℕ) (kind : BindKind)
    → IsSound s → AreBound s services pairs bindings bound → IsFirstRefusal s services pairs place kind → ⊥
bound_or_refused s services pairs bindings bound place kind sound are is =
    none_refused s services sound [] is.before is.pair is.after bindings bound kind
    (subst (λ (l : List NamedKind). AreBoundBehind s services [] l bindings bound) is.whole are) is.refused

-- a pair that is refused isn't bound in the same place
bound_there : (s : PlainSchema) (services : List ServiceState) → IsSound s → (front : List NamedKind) (pair other : NamedKind) (others : List NamedKind) (bindings : List NumberedName) (bound : List ServiceState) (kind : BindKind)
    → pair ≡ other → AreBoundBehind s services front (other ∷ others) bindings bound → IsRefused s services (front ++ []) pair kind → ⊥
bound_there s services sound front pair other others bindings bound kind same are refused =
    let x = begun s services front other others bindings bound are in
    let there = subst (λ (l : List NamedKind). IsRefused s services l pair kind) (append-nil front) refused in
    not_refused s services front other x.binding x.service kind sound x.first (subst (λ (p : NamedKind). IsRefused s services front p kind) same there)

-- there is one first refusal
one_refusal : (s : PlainSchema) (services : List ServiceState) → IsSound s → (front before others : List NamedKind) (pair other : NamedKind) (after behind : List NamedKind) (kind reason : BindKind)
    (bindings more : List NumberedName) (bound taken : List ServiceState) → before ++ pair ∷ after ≡ others ++ other ∷ behind
    → AreBoundBehind s services front before bindings bound → AreBoundBehind s services front others more taken
    → IsRefused s services (front ++ before) pair kind → IsRefused s services (front ++ others) other reason → (length before ≡ length others) × (kind ≡ reason)
one_refusal s services sound front [] [] pair other after behind kind reason bindings more bound taken e a b refused too =
    let same : pair ≡ other = ap (λ l. get_or l 0 pair) e in
    (refl, one_reason s services (front ++ []) other kind reason (subst (λ (p : NamedKind). IsRefused s services (front ++ []) p kind) same refused) too)
one_refusal s services sound front [] (q ∷ others) pair other after behind kind reason bindings more bound taken e a b refused too =
    absurd (bound_there s services sound front pair q others more taken kind (ap (λ l. get_or l 0 pair) e) b refused)
one_refusal s services sound front (p ∷ before) [] pair other after behind kind reason bindings more bound taken e a b refused too =
    absurd (bound_there s services sound front other p before bindings bound reason (sym (ap (λ l. get_or l 0 p) e)) a too)
one_refusal s services sound front (p ∷ before) (q ∷ others) pair other after behind kind reason bindings more bound taken e a b refused too =
    let x = begun s services front p before bindings bound a in
    let y = begun s services front q others more taken b in
    let same : q ≡ p = sym (ap (λ l. get_or l 0 p) e) in
    let second = subst (λ (r : NamedKind). AreBoundBehind s services (front ++ r ∷ []) others y.more_bindings y.more_bound) same y.more in
    let once = subst (λ (l : List NamedKind). IsRefused s services l pair kind) (sym (append_assoc front (p ∷ []) before)) refused in
    let twice = subst (λ (r : NamedKind). IsRefused s services ((front ++ r ∷ []) ++ others) other reason) same
    (subst (λ (l : List NamedKind). IsRefused s services l other reason) (sym (append_assoc front (q ∷ []) others)) too) in
    let rest = one_refusal s services sound (front ++ p ∷ []) before others pair other after behind kind reason x.more_bindings y.more_bindings x.more_bound y.more_bound
    (ap (drop 1) e) x.more second once twice in
    (ap suc rest.0, rest.1)

pub refused_once : (s : PlainSchema) (services : List ServiceState) (pairs : List NamedKind) (place other : ℕ) (kind reason : BindKind)
    → IsSound s → IsFirstRefusal s services pairs place kind → IsFirstRefusal s services pairs other reason → (place ≡ other) × (kind ≡ reason)
refused_once s services pairs place other kind reason sound x y =
    let one = one_refusal s services sound [] x.before y.before x.pair y.pair x.after y.after kind reason x.bindings y.bindings x.bound y.bound
    (sym x.whole ∙ y.whole) x.good y.good x.refused y.refused in
    (sym x.at ∙ one.0 ∙ y.at, one.1)
