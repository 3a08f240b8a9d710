-- The split of a stream into messages: that there is one, that it is the only one, and how it grows with the bytes.
use Rattle.std.specs.Prelude.{⊤}
use Rattle.std.proofs.Common.{◌≡◌, ℕ, zero, suc, ◌+◌, ◌-◌, ◌≤◌, ◌<◌, Bool, true, false, cond, nat_lt, List, [], ◌∷◌, ◌++◌, length, take, drop, refl, sym, ap, ◌∙◌, subst, append_assoc, append-nil, arith}
use Rattle.std.specs.List.{flat_map, AllByRecursion}
use Rattle.std.proofs.lemmas.List.{length-append, length-drop, take-append-drop, length-take-le, drop_at}
use Rattle.std.proofs.lemmas.List.Elements.{All-append, All-take, All-drop}
use Rattle.std.proofs.lemmas.Grind.{flat_map-append}
use Rattle.host_model.proofs.Lists.{append_parts}
use Rattle.wire_num.specs.Encoded.{AreByteSized}
use Rattle.stream_model.specs.declared.fault.StreamFault.{StreamFault}
use Rattle.stream_model.specs.declared.fault.StreamFault.TheVariants.{TooLong}
use Rattle.stream_model.specs.Plan.{message_plan}
use Rattle.stream_model.specs.Progress.{MessageProgress, Wants, Whole, Refused, progress, message_progress, IsDecided}
use Rattle.stream_model.specs.Messages.{IsMessage, AreMessages, IsMessageRest, joined_messages, Messages, split_next, split_by, split_of}
use Rattle.stream_model.proofs.Settling.{settled_stays, whole_is}
use Rattle.stream_model.proofs.Whole.{whole_is_message, message_is_whole}

-- two messages in front of the same bytes are the same
same_front : (max : ℕ) (m n r s : List ℕ) → IsMessage max m → IsMessage max n → m ++ r ≡ n ++ s → (m ≡ n) × (r ≡ s)
same_front max m n r s a b e =
    let long : length m ≡ length n = whole_is (sym (message_is_whole max m r a) ∙ ap (message_progress max) e ∙ message_is_whole max n s b) in
    append_parts m n r s long e

same_split : (max : ℕ) (ms ns : List (List ℕ)) (r s : List ℕ) → AreMessages max ms → AreMessages max ns → IsMessageRest max r → IsMessageRest max s
    → joined_messages ms ++ r ≡ joined_messages ns ++ s → (ms ≡ ns) × (r ≡ s)
same_split max [] [] r s a b x y e = (refl, e)
same_split max [] (n ∷ ns) r s a b x y e = absurd (x n (joined_messages ns ++ s) b.0 (e ∙ append_assoc n (joined_messages ns) s))
same_split max (m ∷ ms) [] r s a b x y e = absurd (y m (joined_messages ms ++ r) a.0 (sym e ∙ append_assoc m (joined_messages ms) r))
same_split max (m ∷ ms) (n ∷ ns) r s a b x y e =
    let h = same_front max m n (joined_messages ms ++ r) (joined_messages ns ++ s) a.0 b.0 (sym (append_assoc m (joined_messages ms) r) ∙ e ∙ append_assoc n (joined_messages ns) s) in
    let t = same_split max ms ns r s a.1 b.1 x y h.1 in
    (λ i. h.0 i ∷ t.0 i, t.1)

-- the messages of bytes and the rest behind them are the only ones
pub only_split : (max : ℕ) (bytes rest other : List ℕ) (messages others : List (List ℕ)) → Messages max bytes messages rest → Messages max bytes others other
    → (messages ≡ others) × (rest ≡ other)
only_split max bytes rest other messages others f g =
    same_split max messages others rest other f.each g.each f.no_more g.no_more (sym f.whole ∙ g.whole)

-- where no message is whole, none stands in front
none_in_front : (max : ℕ) (bytes : List ℕ) → ((n : ℕ) → message_progress max bytes ≡ Whole n → ⊥) → IsMessageRest max bytes
none_in_front max bytes never = λ message more is e. never (length message) (ap (message_progress max) e ∙ message_is_whole max message more is)

none_of_nothing_if : (b : Bool) (n : ℕ) → cond b (Refused 0 TooLong) (Wants 4) ≡ Whole n → ⊥
none_of_nothing_if true n e = absurd cc
none_of_nothing_if false n e = absurd cc

none_of_nothing : (max : ℕ) → IsMessageRest max []
none_of_nothing max = none_in_front max [] (λ n e. none_of_nothing_if (nat_lt max 4) n e)

nothing : (bytes : List ℕ) → length bytes ≤ 0 → bytes ≡ []
nothing [] le = refl
nothing (x ∷ xs) le = absurd (let f : ⊥ = omega arith in f)

-- a message has a byte at least
pub some_bytes : (max : ℕ) (bytes : List ℕ) → IsMessage max bytes → 1 ≤ length bytes
some_bytes max [] is = absurd (none_of_nothing max [] [] is refl)
some_bytes max (x ∷ xs) is = omega arith

abbrev SplitsInto : ℕ → List ℕ → List (List ℕ) × List ℕ → Type 0
SplitsInto max bytes r = Messages max bytes r.0 r.1

-- a message in front of a split
pub one_more : (max : ℕ) (m bytes : List ℕ) (ms : List (List ℕ)) (rest : List ℕ) → IsMessage max m → Messages max bytes ms rest
    → Messages max (m ++ bytes) (m ∷ ms) rest
one_more max m bytes ms rest is s = record {
  whole = ap (λ (b : List ℕ). m ++ b) s.whole ∙ sym (append_assoc m (joined_messages ms) rest);
  each = (is, s.each);
  no_more = s.no_more;
}

split_is_if : (most max : ℕ) (bytes : List ℕ) (g : MessageProgress) → message_progress max bytes ≡ g → AreByteSized bytes → length bytes ≤ suc most
    → ((others : List ℕ) → AreByteSized others → length others ≤ most → SplitsInto max others (split_by most max others))
    → SplitsInto max bytes (split_next (split_by most max) bytes g)
split_is_if most max bytes (Wants k) e are le others = record { whole = refl; each = tt; no_more = none_in_front max bytes (λ n w. let c : Wants k ≡ Whole n = sym e ∙ w in absurd cc) }
split_is_if most max bytes (Refused at fault) e are le others =
    record { whole = refl; each = tt; no_more = none_in_front max bytes (λ n w. let c : Refused at fault ≡ Whole n = sym e ∙ w in absurd cc) }
split_is_if most max bytes (Whole n) e are le others =
    let found = whole_is_message max bytes n are e in
    let fits : n ≤ length bytes = found.0 in
    let some : 1 ≤ length (take n bytes) = some_bytes max (take n bytes) found.1 in
    let long : length (take n bytes) ≡ n = length-take-le n bytes fits in
    let behind = drop n bytes in
    let rest = others behind (All-drop (λ b. b < 256) n bytes are) (omega (arith, length-drop n bytes)) in
    subst (λ (b : List ℕ). Messages max b (take n bytes ∷ (split_by most max behind).0) (split_by most max behind).1) (take-append-drop n bytes)
    (one_more max (take n bytes) behind (split_by most max behind).0 (split_by most max behind).1 found.1 rest)

split_is : (most max : ℕ) (bytes : List ℕ) → AreByteSized bytes → length bytes ≤ most → SplitsInto max bytes (split_by most max bytes)
split_is zero max bytes are le = record { whole = refl; each = tt; no_more = subst (IsMessageRest max) (sym (nothing bytes le)) (none_of_nothing max) }
split_is (suc most) max bytes are le = split_is_if most max bytes (message_progress max bytes) refl are le (split_is most max)

-- bytes split as is computed
pub split_is_found : (max : ℕ) (bytes : List ℕ) → AreByteSized bytes → Messages max bytes (split_of max bytes).0 (split_of max bytes).1
split_is_found max bytes are = split_is (length bytes) max bytes are (omega arith)

-- ---- more bytes

-- the messages of more bytes are those of the bytes, and then those of the rest with what follows
pub more_split : (max : ℕ) (bytes more : List ℕ) (ms ns : List (List ℕ)) (rest last : List ℕ) → Messages max bytes ms rest → Messages max (rest ++ more) ns last
    → AreMessages max (ms ++ ns) → Messages max (bytes ++ more) (ms ++ ns) last
more_split max bytes more ms ns rest last f g all = record {
  whole = ap (λ (b : List ℕ). b ++ more) f.whole ∙ append_assoc (joined_messages ms) rest more ∙ ap (λ (b : List ℕ). joined_messages ms ++ b) g.whole
      ∙ sym (append_assoc (joined_messages ms) (joined_messages ns) last) ∙ ap (λ (b : List ℕ). b ++ last) (sym (flat_map-append (λ (m : List ℕ). m) ms ns));
  each = all;
  no_more = g.no_more;
}

pub all_joined : (max : ℕ) (ms ns : List (List ℕ)) → AreMessages max ms → AreMessages max ns → AreMessages max (ms ++ ns)
all_joined max [] ns a b = b
all_joined max (m ∷ ms) ns a b = (a.0, all_joined max ms ns a.1 b)

sized_behind : (xs ys : List ℕ) → AreByteSized (xs ++ ys) → AreByteSized ys
sized_behind xs ys are = subst AreByteSized (drop_at xs ys (length xs) refl) (All-drop (λ b. b < 256) (length xs) (xs ++ ys) are)

rest_sized : (max : ℕ) (bytes : List ℕ) (ms : List (List ℕ)) (rest : List ℕ) → AreByteSized bytes → Messages max bytes ms rest → AreByteSized rest
rest_sized max bytes ms rest are s = sized_behind (joined_messages ms) rest (subst AreByteSized s.whole are)

-- as it is computed
pub more_is_found : (max : ℕ) (bytes more : List ℕ) → AreByteSized bytes → AreByteSized more
    → ((split_of max (bytes ++ more)).0 ≡ (split_of max bytes).0 ++ (split_of max ((split_of max bytes).1 ++ more)).0)
    × ((split_of max (bytes ++ more)).1 ≡ (split_of max ((split_of max bytes).1 ++ more)).1)
more_is_found max bytes more are rest_are =
    let s = split_of max bytes in
    let f = split_is_found max bytes are in
    let r = s.1 ++ more in
    let g = split_is_found max r (All-append (λ b. b < 256) s.1 more (rest_sized max bytes s.0 s.1 are f) rest_are) in
    let t = split_of max r in
    let both = more_split max bytes more s.0 t.0 s.1 t.1 f g (all_joined max s.0 t.0 f.each g.each) in
    let all = split_is_found max (bytes ++ more) (All-append (λ b. b < 256) bytes more are rest_are) in
    only_split max (bytes ++ more) (split_of max (bytes ++ more)).1 t.1 (split_of max (bytes ++ more)).0 (s.0 ++ t.0) all both

-- a stream that is at fault in front has no message
pub stopped : (most max : ℕ) (bytes : List ℕ) (at : ℕ) (fault : StreamFault) → message_progress max bytes ≡ Refused at fault
    → split_by most max bytes ≡ ([], bytes)
stopped zero max bytes at fault e = refl
stopped (suc most) max bytes at fault e = ap (split_next (split_by most max) bytes) e

-- no message stands in front of bytes that are at fault, whatever follows
pub no_message_behind : (max : ℕ) (bytes more : List ℕ) (at : ℕ) (fault : StreamFault) → message_progress max bytes ≡ Refused at fault
    → IsMessageRest max (bytes ++ more)
no_message_behind max bytes more at fault e =
    none_in_front max (bytes ++ more) (λ n w.
    let stays : message_progress max (bytes ++ more) ≡ Refused at fault = settled_stays max 0 (message_plan max) bytes more (subst IsDecided (sym e) tt) ∙ e in
    let c : Refused at fault ≡ Whole n = sym stays ∙ w in absurd cc)
