-- What is settled stays, whatever follows the bytes.
use Rattle.std.proofs.Common.{◌≡◌, ℕ, ◌+◌, ◌-◌, ◌≤◌, ◌<◌, Bool, true, false, cond, nat_lt, List, ◌++◌, length, take, drop, refl, sym, ap, ◌∙◌, subst, arith}
use Rattle.std.proofs.lemmas.List.{length-append, length-drop, length-take-le, take-append-le, take-append-drop, drop-append-le}
use Rattle.std.proofs.lemmas.Bool.{le-ltb, ltb-false, ltb-true}
use Rattle.stream_model.specs.declared.fault.StreamFault.TheVariants.{TooLong}
use Rattle.stream_model.specs.Plan.{Plan, needs, room, faulty, ends}
use Rattle.stream_model.specs.Progress.{MessageProgress, Wants, Whole, Refused, progress, IsDecided, IsDecidedAt}

wants_is : {m n : ℕ} → Wants m ≡ Wants n → m ≡ n
wants_is e = cc

-- an item, by whether it would be too long and whether it is missing
abbrev needs_if : ℕ → ℕ → ℕ → (List ℕ → Plan) → List ℕ → Bool → Bool → MessageProgress
needs_if max at count next bytes long few =
    cond long (Refused at TooLong) (cond few (Wants (count - length bytes)) (progress max (at + count) (next (take count bytes)) (drop count bytes)))

-- where the bytes are there, more of them make no difference to an item
front_of_more : (max at count : ℕ) (next : List ℕ → Plan) (bytes more : List ℕ) → nat_lt max (at + count) ≡ false → count ≤ length bytes
    → progress max at (needs count next) (bytes ++ more) ≡ progress max (at + count) (next (take count bytes)) (drop count bytes ++ more)
front_of_more max at count next bytes more fits some =
    ap (λ (b : Bool). cond b (Refused at TooLong) (cond (nat_lt (length (bytes ++ more)) count) (Wants (count - length (bytes ++ more)))
    (progress max (at + count) (next (take count (bytes ++ more))) (drop count (bytes ++ more))))) fits
    ∙ ap (λ (b : Bool). cond b (Wants (count - length (bytes ++ more))) (progress max (at + count) (next (take count (bytes ++ more))) (drop count (bytes ++ more))))
    (le-ltb (length (bytes ++ more)) count (omega (arith, length-append bytes more)))
    ∙ ap (λ (t : List ℕ). progress max (at + count) (next t) (drop count (bytes ++ more))) (take-append-le count bytes more some)
    ∙ ap (λ (t : List ℕ). progress max (at + count) (next (take count bytes)) t) (drop-append-le count bytes more some)

needs_stays : (max at count : ℕ) (next : List ℕ → Plan) (bytes more : List ℕ) (long few : Bool) → nat_lt max (at + count) ≡ long
    → nat_lt (length bytes) count ≡ few
    → (IsDecided (progress max (at + count) (next (take count bytes)) (drop count bytes))
    → progress max (at + count) (next (take count bytes)) (drop count bytes ++ more) ≡ progress max (at + count) (next (take count bytes)) (drop count bytes))
    → IsDecided (needs_if max at count next bytes long few) → progress max at (needs count next) (bytes ++ more) ≡ needs_if max at count next bytes long few
needs_stays max at count next bytes more true few e d rest s =
    ap (λ (b : Bool). cond b (Refused at TooLong) (cond (nat_lt (length (bytes ++ more)) count) (Wants (count - length (bytes ++ more)))
    (progress max (at + count) (next (take count (bytes ++ more))) (drop count (bytes ++ more))))) e
needs_stays max at count next bytes more false true e d rest s = absurd s
needs_stays max at count next bytes more false false e d rest s =
    front_of_more max at count next bytes more e (ltb-false (length bytes) count d) ∙ rest s

room_stays : (max at count : ℕ) (g h : MessageProgress) (long : Bool) → (IsDecided h → g ≡ h) → IsDecided (cond long (Refused at TooLong) h)
    → cond long (Refused at TooLong) g ≡ cond long (Refused at TooLong) h
room_stays max at count g h true same s = refl
room_stays max at count g h false same s = same s

pub settled_stays : (max at : ℕ) (plan : Plan) (bytes more : List ℕ) → IsDecided (progress max at plan bytes)
    → progress max at plan (bytes ++ more) ≡ progress max at plan bytes
settled_stays max at (needs count next) bytes more s =
    needs_stays max at count next bytes more (nat_lt max (at + count)) (nat_lt (length bytes) count) refl refl
    (settled_stays max (at + count) (next (take count bytes)) (drop count bytes) more) s
settled_stays max at (room count next) bytes more s =
    room_stays max at count (progress max at next (bytes ++ more)) (progress max at next bytes) (nat_lt max (at + count)) (settled_stays max at next bytes more) s
settled_stays max at (faulty fault) bytes more s = refl
settled_stays max at ends bytes more s = refl

-- ---- as many bytes as a message may have settle it

needs_settle : (max at count : ℕ) (next : List ℕ → Plan) (bytes : List ℕ) → max ≤ at + length bytes → (long few : Bool)
    → nat_lt max (at + count) ≡ long → nat_lt (length bytes) count ≡ few
    → (max ≤ (at + count) + length (drop count bytes) → IsDecided (progress max (at + count) (next (take count bytes)) (drop count bytes)))
    → IsDecided (needs_if max at count next bytes long few)
needs_settle max at count next bytes all true few e d rest = tt
needs_settle max at count next bytes all false true e d rest =
    let a : at + count ≤ max = ltb-false max (at + count) e in let b : length bytes < count = ltb-true (length bytes) count d in absurd (let f : ⊥ = omega arith in f)
needs_settle max at count next bytes all false false e d rest = rest (omega (arith, length-drop count bytes))

room_settles : (at : ℕ) (g : MessageProgress) (long : Bool) → IsDecided g → IsDecided (cond long (Refused at TooLong) g)
room_settles at g true s = tt
room_settles at g false s = s

pub all_settle : (max at : ℕ) (plan : Plan) (bytes : List ℕ) → max ≤ at + length bytes → IsDecided (progress max at plan bytes)
all_settle max at (needs count next) bytes all =
    needs_settle max at count next bytes all (nat_lt max (at + count)) (nat_lt (length bytes) count) refl refl (all_settle max (at + count) (next (take count bytes)) (drop count bytes))
all_settle max at (room count next) bytes all = room_settles at (progress max at next bytes) (nat_lt max (at + count)) (all_settle max at next bytes all)
all_settle max at (faulty fault) bytes all = tt
all_settle max at ends bytes all = tt

-- ---- where it is settled

abbrev settled_if : ℕ → ℕ → ℕ → (List ℕ → Plan) → List ℕ → ℕ → Bool → Bool → Type 0
settled_if max at count next bytes n long few = IsDecidedAt n (needs_if max at count next bytes long few)

needs_at : (max at count : ℕ) (next : List ℕ → Plan) (bytes : List ℕ) (n : ℕ) (few : Bool) → nat_lt (length bytes) count ≡ few
    → settled_if max at count next bytes n false few
    → (IsDecidedAt n (progress max (at + count) (next (take count bytes)) (drop count bytes)) → (at + count ≤ n) × (n ≤ (at + count) + length (drop count bytes)))
    → (at + count ≤ n) × (n ≤ at + length bytes)
needs_at max at count next bytes n true d s rest = absurd s
needs_at max at count next bytes n false d s rest =
    let r = rest s in let some : count ≤ length bytes = ltb-false (length bytes) count d in
    let first : at + count ≤ n = r.0 in let last : n ≤ (at + count) + length (drop count bytes) = r.1 in
    (first, omega (arith, length-drop count bytes))

needs_within : (max at count : ℕ) (next : List ℕ → Plan) (bytes : List ℕ) (n : ℕ) (long few : Bool) → nat_lt (length bytes) count ≡ few
    → settled_if max at count next bytes n long few
    → (IsDecidedAt n (progress max (at + count) (next (take count bytes)) (drop count bytes)) → (at + count ≤ n) × (n ≤ (at + count) + length (drop count bytes)))
    → (at ≤ n) × (n ≤ at + length bytes)
needs_within max at count next bytes n true few d s rest = let e : at ≡ n = s in (omega arith, omega arith)
needs_within max at count next bytes n false few d s rest =
    let r = needs_at max at count next bytes n few d s rest in let first : at + count ≤ n = r.0 in (omega arith, r.1)

room_at : (at n count : ℕ) (g : MessageProgress) (bytes : List ℕ) (long : Bool) → IsDecidedAt n (cond long (Refused at TooLong) g)
    → (IsDecidedAt n g → (at ≤ n) × (n ≤ at + length bytes)) → (at ≤ n) × (n ≤ at + length bytes)
room_at at n count g bytes true s rest = let e : at ≡ n = s in (omega arith, omega arith)
room_at at n count g bytes false s rest = rest s

pub settled_within : (max at : ℕ) (plan : Plan) (bytes : List ℕ) (n : ℕ) → IsDecidedAt n (progress max at plan bytes) → (at ≤ n) × (n ≤ at + length bytes)
settled_within max at (needs count next) bytes n s =
    needs_within max at count next bytes n (nat_lt max (at + count)) (nat_lt (length bytes) count) refl s (settled_within max (at + count) (next (take count bytes)) (drop count bytes) n)
settled_within max at (room count next) bytes n s =
    room_at at n count (progress max at next bytes) bytes (nat_lt max (at + count)) s (settled_within max at next bytes n)
settled_within max at (faulty fault) bytes n s = let e : at ≡ n = s in (omega arith, omega arith)
settled_within max at ends bytes n s = let e : at ≡ n = s in (omega arith, omega arith)

pub whole_is : {m n : ℕ} → Whole m ≡ Whole n → m ≡ n
whole_is e = cc

pub ends_within : (max at : ℕ) (plan : Plan) (bytes : List ℕ) (n : ℕ) → progress max at plan bytes ≡ Whole n → (at ≤ n) × (n ≤ at + length bytes)
ends_within max at plan bytes n e = settled_within max at plan bytes n (subst (IsDecidedAt n) (sym e) refl)

-- ---- what is wanted

wanted_if : (max at count : ℕ) (next : List ℕ → Plan) (bytes : List ℕ) (k : ℕ) (long few : Bool) → nat_lt max (at + count) ≡ long
    → nat_lt (length bytes) count ≡ few
    → needs_if max at count next bytes long few ≡ Wants k
    → (progress max (at + count) (next (take count bytes)) (drop count bytes) ≡ Wants k → (1 ≤ k) × ((at + count) + length (drop count bytes) + k ≤ max))
    → (1 ≤ k) × (at + length bytes + k ≤ max)
wanted_if max at count next bytes k true few e d w rest = absurd cc
wanted_if max at count next bytes k false true e d w rest =
    let missing : length bytes < count = ltb-true (length bytes) count d in let fits : at + count ≤ max = ltb-false max (at + count) e in
    let is : count - length bytes ≡ k = wants_is w in (omega arith, omega arith)
wanted_if max at count next bytes k false false e d w rest =
    let some : count ≤ length bytes = ltb-false (length bytes) count d in
    let r = rest w in let last : (at + count) + length (drop count bytes) + k ≤ max = r.1 in (r.0, omega (arith, length-drop count bytes))

room_wants : (at k : ℕ) (g : MessageProgress) (long : Bool) → cond long (Refused at TooLong) g ≡ Wants k → g ≡ Wants k
room_wants at k g true e = absurd cc
room_wants at k g false e = e

-- at least one byte is wanted, and no more than a message may have
pub wanted_within : (max at : ℕ) (plan : Plan) (bytes : List ℕ) (k : ℕ) → progress max at plan bytes ≡ Wants k → (1 ≤ k) × (at + length bytes + k ≤ max)
wanted_within max at (needs count next) bytes k w =
    wanted_if max at count next bytes k (nat_lt max (at + count)) (nat_lt (length bytes) count) refl refl w (wanted_within max (at + count) (next (take count bytes)) (drop count bytes) k)
wanted_within max at (room count next) bytes k w = wanted_within max at next bytes k (room_wants at k (progress max at next bytes) (nat_lt max (at + count)) w)
wanted_within max at (faulty fault) bytes k w = absurd cc
wanted_within max at ends bytes k w = absurd cc

wanted_needs : (max at count : ℕ) (next : List ℕ → Plan) (bytes more : List ℕ) (k n : ℕ) (long few : Bool) → nat_lt max (at + count) ≡ long
    → nat_lt (length bytes) count ≡ few
    → needs_if max at count next bytes long few ≡ Wants k → IsDecidedAt n (progress max at (needs count next) (bytes ++ more))
    → (progress max (at + count) (next (take count bytes)) (drop count bytes) ≡ Wants k
    → IsDecidedAt n (progress max (at + count) (next (take count bytes)) (drop count bytes ++ more)) → (at + count) + length (drop count bytes) + k ≤ n)
    → at + length bytes + k ≤ n
wanted_needs max at count next bytes more k n true few e d w f rest = absurd cc
wanted_needs max at count next bytes more k n false true e d w f rest =
    let all = bytes ++ more in
    let missing : length bytes < count = ltb-true (length bytes) count d in
    let fits : settled_if max at count next all n false (nat_lt (length all) count) = subst (λ (b : Bool). settled_if max at count next all n b (nat_lt (length all) count)) e f in
    let r = needs_at max at count next all n (nat_lt (length all) count) refl fits (settled_within max (at + count) (next (take count all)) (drop count all) n) in
    let first : at + count ≤ n = r.0 in let is : count - length bytes ≡ k = wants_is w in omega arith
wanted_needs max at count next bytes more k n false false e d w f rest =
    let some : count ≤ length bytes = ltb-false (length bytes) count d in
    let behind : (at + count) + length (drop count bytes) + k ≤ n = rest w (subst (IsDecidedAt n) (front_of_more max at count next bytes more e some) f) in
    omega (arith, length-drop count bytes)

room_behind : (at k n least : ℕ) (g h : MessageProgress) (long : Bool) → cond long (Refused at TooLong) g ≡ Wants k
    → IsDecidedAt n (cond long (Refused at TooLong) h)
    → (g ≡ Wants k → IsDecidedAt n h → least + k ≤ n) → least + k ≤ n
room_behind at k n least g h true w f rest = absurd cc
room_behind at k n least g h false w f rest = rest w f

-- all that is wanted stands before the place at which it is settled
pub wanted_is_behind : (max at : ℕ) (plan : Plan) (bytes more : List ℕ) (k n : ℕ) → progress max at plan bytes ≡ Wants k
    → IsDecidedAt n (progress max at plan (bytes ++ more)) → at + length bytes + k ≤ n
wanted_is_behind max at (needs count next) bytes more k n w f =
    wanted_needs max at count next bytes more k n (nat_lt max (at + count)) (nat_lt (length bytes) count) refl refl w f
    (wanted_is_behind max (at + count) (next (take count bytes)) (drop count bytes) more k n)
wanted_is_behind max at (room count next) bytes more k n w f =
    room_behind at k n (at + length bytes) (progress max at next bytes) (progress max at next (bytes ++ more)) (nat_lt max (at + count)) w f (wanted_is_behind max at next bytes more k n)
wanted_is_behind max at (faulty fault) bytes more k n w f = absurd cc
wanted_is_behind max at ends bytes more k n w f = absurd cc

-- ---- the bytes up to the place settle it, and no fewer do

enough_if : (max at : ℕ) (plan : Plan) (front behind : List ℕ) (n : ℕ) (g : MessageProgress) → progress max at plan front ≡ g → n ≤ at + length front
    → IsDecidedAt n (progress max at plan (front ++ behind)) → progress max at plan front ≡ progress max at plan (front ++ behind)
enough_if max at plan front behind n (Wants k) e le s =
    let past : at + length front + k ≤ n = wanted_is_behind max at plan front behind k n e s in let some : 1 ≤ k = (wanted_within max at plan front k e).0 in
    absurd (let f : ⊥ = omega arith in f)
enough_if max at plan front behind n (Whole m) e le s = sym (settled_stays max at plan front behind (subst IsDecided (sym e) tt))
enough_if max at plan front behind n (Refused m fault) e le s = sym (settled_stays max at plan front behind (subst IsDecided (sym e) tt))

pub settled_by_its_bytes : (max at : ℕ) (plan : Plan) (bytes : List ℕ) (n : ℕ) → IsDecidedAt n (progress max at plan bytes)
    → progress max at plan (take (n - at) bytes) ≡ progress max at plan bytes
settled_by_its_bytes max at plan bytes n s =
    let within = settled_within max at plan bytes n s in
    let first : at ≤ n = within.0 in let last : n ≤ at + length bytes = within.1 in
    let front = take (n - at) bytes in
    let parts : front ++ drop (n - at) bytes ≡ bytes = take-append-drop (n - at) bytes in
    let long : length front ≡ n - at = length-take-le (n - at) bytes (omega arith) in
    enough_if max at plan front (drop (n - at) bytes) n (progress max at plan front) refl (omega arith) (subst (λ (b : List ℕ). IsDecidedAt n (progress max at plan b)) (sym parts) s)
    ∙ ap (progress max at plan) parts

place_of : (g : MessageProgress) → IsDecided g → (n : ℕ) × IsDecidedAt n g
place_of (Wants k) s = absurd s
place_of (Whole n) s = (n, refl)
place_of (Refused n fault) s = (n, refl)

same_place : (m n : ℕ) (g : MessageProgress) → IsDecidedAt m g → IsDecidedAt n g → m ≡ n
same_place m n (Wants k) a b = absurd a
same_place m n (Whole k) a b = sym a ∙ b
same_place m n (Refused k fault) a b = sym a ∙ b

pub no_fewer_settle : (max at : ℕ) (plan : Plan) (bytes : List ℕ) (n k : ℕ) → IsDecidedAt n (progress max at plan bytes) → at + k < n
    → IsDecided (progress max at plan (take k bytes)) → ⊥
no_fewer_settle max at plan bytes n k s less settled =
    let front = take k bytes in
    let place = place_of (progress max at plan front) settled in
    let inner = settled_within max at plan front place.0 place.1 in
    let stays : progress max at plan bytes ≡ progress max at plan front =
    ap (progress max at plan) (sym (take-append-drop k bytes)) ∙ settled_stays max at plan front (drop k bytes) settled in
    let same : n ≡ place.0 = same_place n place.0 (progress max at plan front) (subst (IsDecidedAt n) stays s) place.1 in
    let last : place.0 ≤ at + length front = inner.1 in
    let outer = settled_within max at plan bytes n s in
    let end : n ≤ at + length bytes = outer.1 in
    let long : length front ≡ k = length-take-le k bytes (omega arith) in
    omega arith
