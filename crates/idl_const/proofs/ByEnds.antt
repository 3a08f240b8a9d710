-- Given values are worth the same where of each chain of mere names the end alone is entered.
use Rattle.std.proofs.Common.{◌≡◌, ℕ, zero, suc, ◌≤◌, Bool, true, false, List, [], ◌∷◌, length, slice_get, Option, Some, None, refl, sym, ap, ◌∙◌, subst, arith, inl, inr}
use Rattle.std.specs.Prelude.{slice_set, ⊤}
use Rattle.std.proofs.lemmas.Bool.{false≢true, cases_Bool}
use Rattle.std.proofs.lemmas.Option.{none-some, same_Some}
use Rattle.idl_token.specs.declared.Place.{Place}
use Rattle.thrift_value.specs.Tree.{Tree}
use Rattle.schema.specs.PlainKind.{PlainKind}
use Rattle.idl_include.specs.Numbering.{Filed}
use Rattle.idl_include.specs.Spots.{GivenValue, values_of}
use Rattle.check_model.specs.Worths.{Worth, flawed, const_cycle, seen_at}
use Rattle.check_model.specs.Evaluation.{Setting, NamedWorth, on_entering, named_worth, is_free}
use Rattle.idl_const.specs.declared.chains.ChainEnd.{ChainEnd}
use Rattle.idl_const.specs.declared.chains.ChainEnd.TheVariants as ends
use Rattle.idl_const.specs.ChainEnds.{end_within, chain_end_of}
use Rattle.idl_const.specs.Marks.{free_count, end_worth, worth_by_end, entered_worth}
use Rattle.idl_const.proofs.Entering.{count_entered, cycle_by, none_by, entered_shut}
use Rattle.idl_const.proofs.Fuel.{none_free}
use Rattle.idl_const.proofs.SeenAlike.{AreSeenAlike, worth_alike}
use Rattle.idl_const.proofs.ChainLinks.{grows, one_end, nearest, LeadsTo, EndsAs, absent, leads, stops, linked, absent_within}

-- ---- marks

still_other : (free : List Bool) (x which : ℕ) → (which ≡ x → ⊥) → is_free (slice_set free x false) which ≡ is_free free which
still_other [] x which other = refl
still_other (b ∷ more) zero zero other = absurd (other refl)
still_other (b ∷ more) zero (suc which) other = refl
still_other (b ∷ more) (suc x) zero other = refl
still_other (b ∷ more) (suc x) (suc which) other = still_other more x which (λ e. other (ap suc e))

pub still_shut : (free : List Bool) (x which : ℕ) → is_free free which ≡ false → is_free (slice_set free x false) which ≡ false
still_shut [] x which h = refl
still_shut (b ∷ more) zero zero h = refl
still_shut (b ∷ more) zero (suc which) h = h
still_shut (b ∷ more) (suc x) zero h = h
still_shut (b ∷ more) (suc x) (suc which) h = still_shut more x which h

pub shut_itself : (free : List Bool) (x : ℕ) → is_free (slice_set free x false) x ≡ false
shut_itself [] x = refl
shut_itself (b ∷ more) zero = refl
shut_itself (b ∷ more) (suc x) = shut_itself more x

-- what alone is shut by it
it_is : (free : List Bool) (x which : ℕ) → is_free free which ≡ true → is_free (slice_set free x false) which ≡ false → which ≡ x
it_is [] x which h shut = absurd (false≢true h)
it_is (b ∷ more) zero zero h shut = refl
it_is (b ∷ more) zero (suc which) h shut = absurd (false≢true (sym shut ∙ h))
it_is (b ∷ more) (suc x) zero h shut = absurd (false≢true (sym shut ∙ h))
it_is (b ∷ more) (suc x) (suc which) h shut = ap suc (it_is more x which h shut)

pub count_falls : (free : List Bool) (x : ℕ) → free_count (slice_set free x false) ≤ free_count free
count_falls [] x = omega arith
count_falls (true ∷ more) zero = omega arith
count_falls (false ∷ more) zero = omega arith
count_falls (true ∷ more) (suc x) = omega (arith, count_falls more x)
count_falls (false ∷ more) (suc x) = omega (arith, count_falls more x)

-- ---- chains that don't end, or not in what is free

-- a chain that leads round
cycles : (s : Setting) (k which left : ℕ) (free : List Bool) → end_within s.program k which ≡ None → free_count free ≤ k → (kind : PlainKind) (levels count : ℕ) (at : Place)
    → seen_at at (named_worth s left free which kind levels count) ≡ flawed at const_cycle
unfolding named_worth
cycles s zero which left free h few kind levels count at = ap (seen_at at) (cycle_by s left free which kind levels count (none_free free which (omega (arith, few))))
cycles s (suc k) which zero free h few kind levels count at = refl
cycles s (suc k) which (suc left) free h few kind levels count at =
    elim (cases_Bool (is_free free which)) [
      | inr f ↦ ap (seen_at at) (cycle_by s (suc left) free which kind levels count f)
      | inl f ↦ elim (linked s which) [
        | absent none ↦ ap (seen_at at) (none_by s (suc left) free which kind levels count none)
        | leads n l ↦ l.worth left free f kind levels count at
            ∙ cycles s k n left (slice_set free which false) (sym (l.within k) ∙ h) (omega (arith, few, count_entered free which f)) kind levels count at
        | stops e l ↦ absurd (none-some e (sym h ∙ l.within k))
      ]
    ]

-- a chain whose end is under evaluation
shut_cycles : (s : Setting) (k which last left : ℕ) (free : List Bool) → end_within s.program k which ≡ Some (ends.Value last) → is_free free last ≡ false
    → (kind : PlainKind) (levels count : ℕ) (at : Place) → seen_at at (named_worth s left free which kind levels count) ≡ flawed at const_cycle
unfolding named_worth end_within
shut_cycles s zero which last left free h shut kind levels count at = absurd (none-some (ends.Value last) h)
shut_cycles s (suc k) which last zero free h shut kind levels count at = refl
shut_cycles s (suc k) which last (suc left) free h shut kind levels count at =
    elim (cases_Bool (is_free free which)) [
      | inr f ↦ ap (seen_at at) (cycle_by s (suc left) free which kind levels count f)
      | inl f ↦ elim (linked s which) [
        | absent none ↦ ap (seen_at at) (none_by s (suc left) free which kind levels count none)
        | leads n l ↦ l.worth left free f kind levels count at
            ∙ shut_cycles s k n last left (slice_set free which false) (sym (l.within k) ∙ h) (still_shut free which last shut) kind levels count at
        | stops e l ↦ (
            let here : last ≡ which = l.own last (same_Some e (ends.Value last) (sym (l.within k) ∙ h)) in
            absurd (false≢true (sym shut ∙ ap (is_free free) here ∙ f)))
      ]
    ]

-- ---- chains that are free

-- so many links of a chain are free
abbrev pub IsFreeFor : Setting → List Bool → ℕ → ℕ → Type 0
IsFreeFor s free zero which = ⊤
IsFreeFor s free (suc k) which = (is_free free which ≡ true) × ((n : ℕ) → LeadsTo s which n → IsFreeFor s free k n)

-- a chain that doesn't lead over what is entered
keeps_free : (s : Setting) (free : List Bool) (x k which : ℕ) (e : ChainEnd) → ((j other : ℕ) → j ≤ k → end_within s.program j other ≡ Some e → other ≡ x → ⊥)
    → end_within s.program k which ≡ Some e → IsFreeFor s free k which → IsFreeFor s (slice_set free x false) k which
keeps_free s free x zero which e apart h is = tt
keeps_free s free x (suc k) which e apart h is = (
  still_other free x which (apart (suc k) which (omega arith) h) ∙ is.0,
  λ n l. keeps_free s free x k n e (λ j other less. apart j other (omega (arith, less))) (sym (l.within k) ∙ h) (is.1 n l),
)

-- a chain is followed to its end; what is kept on the way is known there
module _ (s : Setting) (e : ChainEnd) (Q : List Bool → Type 0) (keep : (free : List Bool) (x k : ℕ) → end_within s.program k x ≡ Some e → Q free → Q (slice_set free x false))
    (kind : PlainKind) (levels count : ℕ) (at : Place) (worth : Worth Tree)
    (finish : (last left : ℕ) (free : List Bool) → Q free → EndsAs s last e → free_count (slice_set free last false) ≤ left
    → seen_at at (end_worth (λ other. on_entering s (named_worth s left (slice_set free last false)) true (slice_get (values_of s.program) other)) kind levels count (Some e)) ≡ worth) where
  ended : (which left : ℕ) (free : List Bool) (d : ChainEnd) → EndsAs s which d → d ≡ e → is_free free which ≡ true → free_count free ≤ suc left → Q free
      → seen_at at (named_worth s (suc left) free which kind levels count) ≡ worth
  ended which left free d l same f most q =
      let here : EndsAs s which e = subst (EndsAs s which) same l in
      here.worth left free f kind levels count at ∙ finish which left free q here (omega (arith, most, count_entered free which f))

  follow : (j which left : ℕ) (free : List Bool) → end_within s.program (suc j) which ≡ Some e → end_within s.program j which ≡ None → IsFreeFor s free (suc j) which
      → free_count free ≤ left → Q free → seen_at at (named_worth s left free which kind levels count) ≡ worth
  unfolding end_within
  follow j which zero free h none is most q = absurd (omega (arith, most, count_entered free which is.0))
  follow zero which (suc left) free h none is most q =
      elim (linked s which) [
        | absent gone ↦ absurd (none-some e (sym (absent_within s.program 1 which gone) ∙ h))
        | leads n l ↦ absurd (none-some e (sym (l.within 0) ∙ h))
        | stops d l ↦ ended which left free d l (same_Some d e (sym (l.within 0) ∙ h)) is.0 most q
      ]
  follow (suc j) which (suc left) free h none is most q =
      elim (linked s which) [
        | absent gone ↦ absurd (none-some e (sym (absent_within s.program (suc (suc j)) which gone) ∙ h))
        | leads n l ↦ l.worth left free is.0 kind levels count at
            ∙ follow j n left (slice_set free which false) (sym (l.within (suc j)) ∙ h) (sym (l.within j) ∙ none)
            (keeps_free s free which (suc j) n e
            (λ i other less some same. none-some e (sym none ∙ grows s.program (suc j) i which e less (subst (λ v. end_within s.program i v ≡ Some e) same some)))
            (sym (l.within (suc j)) ∙ h) (is.1 n l))
            (omega (arith, most, count_entered free which is.0)) (keep free which (suc (suc j)) h q)
        | stops d l ↦ ended which left free d l (same_Some d e (sym (l.within (suc j)) ∙ h)) is.0 most q
      ]

  pub followed : (k which left : ℕ) (free : List Bool) → end_within s.program k which ≡ Some e → ((j : ℕ) → end_within s.program j which ≡ Some e → IsFreeFor s free j which)
      → free_count free ≤ left → Q free → seen_at at (named_worth s left free which kind levels count) ≡ worth
  followed k which left free h is most q =
      let near = nearest s.program k which e h in
      follow near.0 which left free near.1 near.2 (is (suc near.0) near.1) most q

-- ---- marks of ends beside marks of all

-- an end isn't under evaluation
abbrev pub IsOpen : List Bool → ChainEnd → Type 0
IsOpen marks (ends.Value last) = is_free marks last ≡ true
IsOpen marks (ends.Number which n) = ⊤
IsOpen marks ends.Unknown = ⊤

-- chains to unshut ends are free
abbrev pub AreClear : Setting → List Bool → List Bool → Type 0
AreClear s free marks = (k which : ℕ) (e : ChainEnd) → end_within s.program k which ≡ Some e → IsOpen marks e → IsFreeFor s free k which

-- the marks of ends say of chains what the marks of all say
pub record Agrees (s : Setting) (free marks : List Bool) : Type 0 where
  pub shut : (which : ℕ) → is_free marks which ≡ false → is_free free which ≡ false
  pub clear : AreClear s free marks
  pub few : free_count free ≤ length (values_of s.program)

-- the same on the way to an end
record Nearly (s : Setting) (marks : List Bool) (last : ℕ) (free : List Bool) : Type 0 where
  shut : (which : ℕ) → is_free marks which ≡ false → is_free free which ≡ false
  clear : AreClear s free (slice_set marks last false)
  few : free_count free ≤ length (values_of s.program)

-- chains to other ends don't lead over what has this end
pub still_clear : (s : Setting) (free marks : List Bool) (x last i : ℕ) → is_free marks last ≡ false → end_within s.program i x ≡ Some (ends.Value last)
    → AreClear s free marks → AreClear s (slice_set free x false) marks
still_clear s free marks x last i closed to clear k which e h unshut =
    keeps_free s free x k which e
    (λ j other less some same.
    let here : e ≡ ends.Value last = one_end s.program j i x e (ends.Value last) (subst (λ v. end_within s.program j v ≡ Some e) same some) to in
    false≢true (sym closed ∙ subst (IsOpen marks) here unshut))
    h (clear k which e h unshut)

was_free : (marks : List Bool) (x which : ℕ) → is_free (slice_set marks x false) which ≡ true → is_free marks which ≡ true
was_free marks x which h =
    elim (cases_Bool (is_free marks which)) [
      | inl f ↦ f
      | inr f ↦ absurd (false≢true (sym (still_shut marks x which f) ∙ h))
    ]

was_open : (marks : List Bool) (x : ℕ) (e : ChainEnd) → IsOpen (slice_set marks x false) e → IsOpen marks e
was_open marks x (ends.Value last) h = was_free marks x last h
was_open marks x (ends.Number which n) h = tt
was_open marks x ends.Unknown h = tt

begun : (s : Setting) (free marks : List Bool) (last : ℕ) → Agrees s free marks → Nearly s marks last free
begun s free marks last a = record {
  shut = a.shut;
  clear = λ k which e h unshut. a.clear k which e h (was_open marks last e unshut);
  few = a.few;
}

kept : (s : Setting) (marks : List Bool) (last : ℕ) (free : List Bool) (x k : ℕ) → end_within s.program k x ≡ Some (ends.Value last) → Nearly s marks last free
    → Nearly s marks last (slice_set free x false)
kept s marks last free x k to n = record {
  shut = λ which h. still_shut free x which (n.shut which h);
  clear = still_clear s free (slice_set marks last false) x last k (shut_itself marks last) to n.clear;
  few = omega (arith, n.few, count_falls free x);
}

done : (s : Setting) (marks : List Bool) (last : ℕ) (free : List Bool) → EndsAs s last (ends.Value last) → Nearly s marks last free
    → Agrees s (slice_set free last false) (slice_set marks last false)
done s marks last free l n =
    let after = kept s marks last free last 1 (l.within 0) n in
    record {
      shut = λ which h. elim (cases_Bool (is_free marks which)) [
        | inr f ↦ after.shut which f
        | inl f ↦ subst (λ v. is_free (slice_set free last false) v ≡ false) (sym (it_is marks last which f h)) (shut_itself free last)
      ];
      clear = after.clear;
      few = after.few;
    }

-- ---- the same worth

entering_alike : (s : Setting) (named other : NamedWorth) → AreSeenAlike named other → (o : Option (Filed GivenValue)) (kind : PlainKind) (levels count : ℕ)
    → on_entering s named true o kind levels count ≡ on_entering s other true o kind levels count
entering_alike s named other alike None kind levels count = refl
entering_alike s named other alike (Some v) kind levels count = worth_alike s named other alike v.file kind levels count v.item.tree

entered_free : (s : Setting) (m : ℕ) (marks : List Bool) (last : ℕ) → is_free marks last ≡ true → (kind : PlainKind) (levels count : ℕ)
    → entered_worth s (suc m) marks last kind levels count
    ≡ on_entering s (worth_by_end s (entered_worth s m (slice_set marks last false))) true (slice_get (values_of s.program) last) kind levels count
unfolding entered_worth
entered_free s m marks last f kind levels count =
    λ i. on_entering s (worth_by_end s (entered_worth s m (slice_set marks last false))) (f i) (slice_get (values_of s.program) last) kind levels count

-- an end that is entered by its marks is worth what it is by the marks of all
abbrev EntersAlike : Setting → List Bool → NamedWorth → Type 0
EntersAlike s marks entered =
    (last : ℕ) → is_free marks last ≡ true → (left : ℕ) (free : List Bool) → Agrees s (slice_set free last false) (slice_set marks last false) → free_count (slice_set free last false) ≤ left
    → (kind : PlainKind) (levels count : ℕ)
    → on_entering s (named_worth s left (slice_set free last false)) true (slice_get (values_of s.program) last) kind levels count ≡ entered last kind levels count

module _ (s : Setting) (left : ℕ) (free marks : List Bool) (a : Agrees s free marks) (most : free_count free ≤ left) (m : ℕ) (alike : EntersAlike s marks (entered_worth s m marks)) where
  at_value : (k which last : ℕ) → end_within s.program k which ≡ Some (ends.Value last) → is_free marks last ≡ true → (kind : PlainKind) (levels count : ℕ) (at : Place)
      → seen_at at (named_worth s left free which kind levels count) ≡ seen_at at (entered_worth s m marks last kind levels count)
  at_value k which last h f kind levels count at =
      followed s (ends.Value last) (Nearly s marks last) (kept s marks last) kind levels count at (seen_at at (entered_worth s m marks last kind levels count))
      (λ v n now q l few.
      let here : last ≡ v = l.own last refl in
      let P : ℕ → Type 0 = λ u. EndsAs s u (ends.Value last) → free_count (slice_set now u false) ≤ n
      → seen_at at (on_entering s (named_worth s n (slice_set now u false)) true (slice_get (values_of s.program) last) kind levels count) ≡ seen_at at (entered_worth s m marks last kind levels count) in
      subst P here (λ own less. ap (seen_at at) (alike last f n now (done s marks last now own q) less kind levels count)) l few)
      k which left free h (λ j to. a.clear j which (ends.Value last) to f) most (begun s free marks last a)

  at_end : (k which : ℕ) (e : ChainEnd) → end_within s.program k which ≡ Some e → (kind : PlainKind) (levels count : ℕ) (at : Place)
      → seen_at at (named_worth s left free which kind levels count) ≡ seen_at at (end_worth (entered_worth s m marks) kind levels count (Some e))
  at_end k which (ends.Value last) h kind levels count at =
      elim (cases_Bool (is_free marks last)) [
        | inl f ↦ at_value k which last h f kind levels count at
        | inr f ↦ shut_cycles s k which last left free h (a.shut last f) kind levels count at ∙ sym (ap (seen_at at) (entered_shut s m marks last kind levels count f))
      ]
  at_end k which (ends.Number of n) h kind levels count at =
      followed s (ends.Number of n) (λ now. ⊤) (λ now x i to q. tt) kind levels count at (seen_at at (end_worth (entered_worth s m marks) kind levels count (Some (ends.Number of n))))
      (λ v i now q l few. refl) k which left free h (λ j to. a.clear j which (ends.Number of n) to tt) most tt
  at_end k which ends.Unknown h kind levels count at =
      followed s ends.Unknown (λ now. ⊤) (λ now x i to q. tt) kind levels count at (seen_at at (end_worth (entered_worth s m marks) kind levels count (Some ends.Unknown)))
      (λ v i now q l few. refl) k which left free h (λ j to. a.clear j which ends.Unknown to tt) most tt

  by_end : (which : ℕ) (o : Option ChainEnd) → end_within s.program (length (values_of s.program)) which ≡ o → (kind : PlainKind) (levels count : ℕ) (at : Place)
      → seen_at at (named_worth s left free which kind levels count) ≡ seen_at at (end_worth (entered_worth s m marks) kind levels count o)
  by_end which None h kind levels count at = cycles s (length (values_of s.program)) which left free h a.few kind levels count at
  by_end which (Some e) h kind levels count at = at_end (length (values_of s.program)) which e h kind levels count at

  each_end : AreSeenAlike (named_worth s left free) (worth_by_end s (entered_worth s m marks))
  unfolding chain_end_of
  each_end which kind levels count at = by_end which (end_within s.program (length (values_of s.program)) which) refl kind levels count at

-- where the marks agree, given values look the same
pub by_ends : (s : Setting) (m left : ℕ) (free marks : List Bool) → Agrees s free marks → free_count free ≤ left → free_count marks ≤ m
    → AreSeenAlike (named_worth s left free) (worth_by_end s (entered_worth s m marks))
by_ends s zero left free marks a most few =
    each_end s left free marks a most zero (λ last f. absurd (omega (arith, few, count_entered marks last f)))
by_ends s (suc m) left free marks a most few =
    each_end s left free marks a most (suc m) (λ last f n now agrees less kind levels count.
    entering_alike s (named_worth s n (slice_set now last false)) (worth_by_end s (entered_worth s m (slice_set marks last false)))
    (by_ends s m n (slice_set now last false) (slice_set marks last false) agrees less (omega (arith, few, count_entered marks last f)))
    (slice_get (values_of s.program) last) kind levels count
    ∙ sym (entered_free s m marks last f kind levels count))
