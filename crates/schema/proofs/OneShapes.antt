-- The shapes of a service are determined: functions with different names have one order.
use Rattle.std.proofs.Common.{◌≡◌, ℕ, zero, suc, ◌<◌, true, false, List, [], ◌∷◌, length, map, get_or, Ordering, Less, Equal, Greater, ◌⊎◌, inl, inr, ⊎_elim, refl, sym, ap, subst, ◌∙◌, arith}
use Rattle.std.specs.Prelude.{◌≢◌, ⊤, AllPairs, Contains, IsPermutation}
use Rattle.std.specs.Str.{bytes_eq}
use Rattle.std.specs.FinMap.{nat_cmp-IsAntisymmetric, slice_cmp-IsAntisymmetric}
use Rattle.std.specs.List.Sorted.{IsSortedBy}
use Rattle.std.specs.Ordering.{nat_cmp, is_lt, ordering_reverse}
use Rattle.std.specs.Cmp.Lexicographic.{slice_cmp}
use Rattle.std.proofs.lemmas.Cmp.{nat_list_cmp_total, nat_list_eq_equiv}
use Rattle.std.proofs.lemmas.List.{get_or-map, length-map}
use Rattle.std.proofs.lemmas.List.Sorted.{ranks_by, sorted_far, Contains-permutation, IsPermutation-map, IsPermutation-sym}
use Rattle.std.proofs.lemmas.Map.Keys.{IsDistinct-IsPermutation}
use Rattle.std.proofs.lemmas.Map.Made.{AllPairs-from_IsDistinct, IsDistinct-from_AllPairs}
use Rattle.std.proofs.lemmas.Slice.Eq.{bytes_eq-Decides}
use Rattle.schema.specs.Inherited.{functions_of}
use Rattle.schema.specs.PlainSchema.{PlainFunction, PlainSchema}
use Rattle.schema.specs.Shapes.{AreShapesOf, is_named_before, shape_line}
use Rattle.schema.specs.Sound.{AreDifferent, IsPlaceIn, IsSound}

-- a function is one of these
abbrev Member : PlainFunction → List PlainFunction → Type 0
Member f [] = ⊥
Member f (g ∷ gs) = (f ≡ g) ⊎ Member f gs

member_of : (fs : List PlainFunction) (f : PlainFunction) (k : ℕ) → k < length fs → get_or fs k f ≡ f → Member f fs
member_of [] f k within is = absurd (omega arith)
member_of (g ∷ gs) f zero within is = inl (sym is)
member_of (g ∷ gs) f (suc k) within is = inr (member_of gs f k (omega arith) is)

contained : (fs : List PlainFunction) (f : PlainFunction) → Member f fs → Contains fs f
contained [] f is = absurd is
contained (g ∷ gs) f is =
    let later : Member f gs → Contains (g ∷ gs) f = λ is. let at : Contains gs f = contained gs f is in (suc at.0, omega (arith, at.1), at.2) in
    ⊎_elim (λ same. (zero, omega arith, sym same)) later is

moved : (fs gs : List PlainFunction) (f : PlainFunction) → IsPermutation fs gs → Member f fs → Member f gs
moved fs gs f permuted is =
    let at : Contains gs f = Contains-permutation fs gs f permuted (contained fs f is) in
    member_of gs f at.0 at.1 at.2

-- each function stands before all behind it
abbrev AllBehind : PlainFunction → List PlainFunction → Type 0
AllBehind f [] = ⊤
AllBehind f (g ∷ gs) = (is_named_before f g ≡ true) × AllBehind f gs

abbrev AllRise : List PlainFunction → Type 0
AllRise [] = ⊤
AllRise (f ∷ fs) = AllBehind f fs × AllRise fs

behind_it : (f : PlainFunction) (gs : List PlainFunction) (g : PlainFunction) → AllBehind f gs → Member g gs → is_named_before f g ≡ true
behind_it f [] g all is = absurd is
behind_it f (h ∷ gs) g all is =
    let later : Member g gs → is_named_before f g ≡ true = behind_it f gs g all.1 in
    ⊎_elim (λ same. ap (is_named_before f) same ∙ all.0) later is

-- of two functions only one stands before the other
not_both : (f g : PlainFunction) → is_named_before f g ≡ true → is_named_before g f ≡ true → ⊥
not_both f g one other =
    let order = ranks_by nat_list_cmp_total (λ (h : PlainFunction). h.name) in
    let no_other : is_named_before g f ≡ false = order.one_way f g one in cc

-- two rising lists with the same functions are one
one_order : (fs gs : List PlainFunction) → AllRise fs → AllRise gs → ((h : PlainFunction) → Member h fs → Member h gs) → ((h : PlainFunction) → Member h gs → Member h fs) → fs ≡ gs
one_order [] [] rising_f rising_g to from = refl
one_order [] (g ∷ gs) rising_f rising_g to from = absurd (from g (inl refl))
one_order (f ∷ fs) [] rising_f rising_g to from = absurd (to f (inl refl))
one_order (f ∷ fs) (g ∷ gs) rising_f rising_g to from =
    let crossed : Member f gs → Member g fs → f ≡ g = λ in_gs in_fs. absurd (not_both f g (behind_it f fs g rising_f.0 in_fs) (behind_it g gs f rising_g.0 in_gs)) in
    let first : f ≡ g = ⊎_elim (λ same. same) (λ in_gs. ⊎_elim (λ same. sym same) (crossed in_gs) (from g (inl refl))) (to f (inl refl)) in
    let not_f : (h : PlainFunction) → Member h fs → h ≡ g → ⊥ = λ h in_fs is.
    let low : is_named_before f h ≡ true = behind_it f fs h rising_f.0 in_fs in
    not_both f h low (subst (λ x. is_named_before h x ≡ true) (is ∙ sym first) (subst (λ x. is_named_before x h ≡ true) (first ∙ sym is) low)) in
    let not_g : (h : PlainFunction) → Member h gs → h ≡ f → ⊥ = λ h in_gs is.
    let low : is_named_before g h ≡ true = behind_it g gs h rising_g.0 in_gs in
    not_both g h low (subst (λ x. is_named_before h x ≡ true) (is ∙ first) (subst (λ x. is_named_before x h ≡ true) (sym first ∙ sym is) low)) in
    let rest : fs ≡ gs = one_order fs gs rising_f.1 rising_g.1
    (λ h in_fs. ⊎_elim (λ is. absurd (not_f h in_fs is)) (λ in_gs. in_gs) (to h (inr in_fs)))
    (λ h in_gs. ⊎_elim (λ is. absurd (not_g h in_gs is)) (λ in_fs. in_fs) (from h (inr in_gs))) in
    λ k. first k ∷ rest k

never : true ≡ false → ⊥
never same = cc

-- where a name isn't behind another one, it is before it
before_by : (f g : PlainFunction) → is_named_before g f ≡ false → f.name ≢ g.name → is_named_before f g ≡ true
before_by f g not_before other = by_answer (slice_cmp nat_cmp f.name g.name) refl
  where
    by_answer : (r : Ordering) → slice_cmp nat_cmp f.name g.name ≡ r → is_lt r ≡ true
    by_answer Less is = refl
    by_answer Equal is = absurd (other (slice_cmp-IsAntisymmetric nat_cmp-IsAntisymmetric f.name g.name is))
    by_answer Greater is =
        let back : slice_cmp nat_cmp g.name f.name ≡ Less = nat_list_cmp_total.antisymm g.name f.name ∙ ap ordering_reverse is in
        absurd (never (ap is_lt (sym back) ∙ not_before))

all_behind : (f : PlainFunction) (gs : List PlainFunction) → ((k : ℕ) (d : PlainFunction) → k < length gs → is_named_before f (get_or gs k d) ≡ true) → AllBehind f gs
all_behind f [] each = tt
all_behind f (g ∷ gs) each = (each zero g (omega arith), all_behind f gs (λ k d within. each (suc k) d (omega arith)))

all_rise : (fs : List PlainFunction) → ((i j : ℕ) (d : PlainFunction) → i < j → j < length fs → is_named_before (get_or fs i d) (get_or fs j d) ≡ true) → AllRise fs
all_rise [] each = tt
all_rise (f ∷ fs) each =
    (all_behind f fs (λ k d within. each zero (suc k) d (omega arith) (omega arith)), all_rise fs (λ i j d low within. each (suc i) (suc j) d (omega arith) (omega arith)))

-- sorted functions with different names rise
rises : (fs : List PlainFunction) → IsSortedBy is_named_before fs → AllPairs (λ a b. a ≢ b) (map (λ (f : PlainFunction). f.name) fs) → AllRise fs
rises fs sorted different = all_rise fs (λ i j d low within.
    let name = λ (f : PlainFunction). f.name in
    let at_i = get_or-map name fs i d d.name (omega arith) in
    let at_j = get_or-map name fs j d d.name within in
    let unlike : (get_or fs i d).name ≢ (get_or fs j d).name = λ same. different i j d.name low (omega (arith, length-map fs name)) (at_i ∙ same ∙ sym at_j) in
    before_by (get_or fs i d) (get_or fs j d) (sorted_far is_named_before (ranks_by nat_list_cmp_total name) fs sorted i j d (omega arith) within) unlike)

-- names that differ stay so when they change places
stay_different : (fs gs : List PlainFunction) → IsPermutation fs gs → AllPairs (λ a b. a ≢ b) (map (λ (f : PlainFunction). f.name) fs)
    → AllPairs (λ a b. a ≢ b) (map (λ (f : PlainFunction). f.name) gs)
stay_different fs gs permuted different =
    let name = λ (f : PlainFunction). f.name in
    AllPairs-from_IsDistinct {eq = bytes_eq} bytes_eq-Decides (map name gs)
    (IsDistinct-IsPermutation bytes_eq nat_list_eq_equiv.symm (map name fs) (map name gs) (IsPermutation-map name fs gs permuted)
    (IsDistinct-from_AllPairs {eq = bytes_eq} bytes_eq-Decides (map name fs) different))

pub one_shapes : (s : PlainSchema) (which : ℕ) (lines others : List (List ℕ)) → IsSound s → IsPlaceIn s.services which → AreShapesOf s which lines → AreShapesOf s which others → lines ≡ others
one_shapes s which lines others sound place one other =
    let all = functions_of s.services which in
    let different : AreDifferent (map (λ (f : PlainFunction). f.name) all) = sound.all_else.functions which place in
    let same : one.functions ≡ other.functions = one_order one.functions other.functions
    (rises one.functions one.by_name (stay_different all one.functions one.all different))
    (rises other.functions other.by_name (stay_different all other.functions other.all different))
    (λ h in_one. moved all other.functions h other.all (moved one.functions all h (IsPermutation-sym all one.functions one.all) in_one))
    (λ h in_other. moved all one.functions h one.all (moved other.functions all h (IsPermutation-sym all other.functions other.all) in_other)) in
    one.each ∙ ap (map (shape_line s)) same ∙ sym other.each
