-- Tables of the ends of chains, found link by link.
use Rattle.std.proofs.Common.{◌≡◌, ◌+◌, ◌++◌, ◌≤◌, ◌<◌, ◌⊎◌, inl, inr, ℕ, zero, suc, List, [], ◌∷◌, map, length, get_or, drop, slice_get, Option, Some, None, Result, Ok, Err, refl, sym, ap, ◌∙◌, subst, arith, append_assoc}
use Rattle.std.specs.Prelude.{slice_set, IfOk}
use Rattle.std.specs.Option.{option_map, option_and_then}
use Rattle.std.proofs.lemmas.Bool.{cases_lt}
use Rattle.std.proofs.lemmas.List.{append-nil}
use Rattle.std.proofs.lemmas.Option.{none-some}
use Rattle.idl_include.specs.DeclaredIn.{value_in}
use Rattle.idl_include.specs.Program.{Program}
use Rattle.idl_include.specs.Spots.{values_of}
use Rattle.idl_names.specs.declared.spot.GivenTree.{GivenTree}
use Rattle.idl_names.specs.SpotsIn.{filed_value}
use Rattle.idl_names.proofs.Marked.{left_more}
use Rattle.idl_names.proofs.Listed.{past_end}
use Rattle.idl_const.specs.declared.chains.ChainEnd.{ChainEnd}
use Rattle.idl_const.specs.ChainEnds.{EndRule, end_of_tree, end_of_given, end_within, chain_end_of}
use Rattle.idl_const.specs.Given.{tree_given, tree_numbered}
use Rattle.const_evaluator.specs.declared.chain_ends.Link.{Link}
use Rattle.const_evaluator.specs.declared.chain_ends.Link.TheVariants as link
use Rattle.const_evaluator.specs.ChainTables.{end_by, end_at_link, linked_within, IsLinkOf, AreLinksFrom, end_in, AreSettled, TellsEnds}

-- ---- links, one more at a time

-- whatever follows, these links are those of the values in front of it
abbrev pub AreLinksSoFar : Program → List GivenTree → ℕ → List Link → Type 0
AreLinksSoFar program values from links = (rest : List Link) → AreLinksFrom program from (drop from values) rest → AreLinksFrom program 0 values (links ++ rest)

pub links_next : (program : Program) (values : List GivenTree) (i : ℕ) (v : GivenTree) (l : Link) (old new : List Link) → i < length values → v ≡ get_or values i v → new ≡ old ++ l ∷ []
    → IsLinkOf program i v l → AreLinksSoFar program values i old → AreLinksSoFar program values (i + 1) new
links_next program values i v l old new inside here pushed own so_far rest h =
    let step : i + 1 ≡ suc i = omega arith in
    let behind : AreLinksFrom program (suc i) (drop (i + 1) values) rest = subst (λ n. AreLinksFrom program n (drop (i + 1) values) rest) step h in
    let both : AreLinksFrom program i (v ∷ drop (i + 1) values) (l ∷ rest) = (own, behind) in
    let all : AreLinksFrom program 0 values (old ++ l ∷ rest) = so_far (l ∷ rest) (subst (λ vs. AreLinksFrom program i vs (l ∷ rest)) (sym (left_more values i v inside here)) both) in
    subst (AreLinksFrom program 0 values) (sym (append_assoc old (l ∷ []) rest) ∙ ap (λ ls. ls ++ rest) (sym pushed)) all

pub links_end : (program : Program) (values : List GivenTree) (i : ℕ) (links : List Link) → length values ≤ i → AreLinksSoFar program values i links → AreLinksFrom program 0 values links
links_end program values i links past so_far =
    subst (AreLinksFrom program 0 values) (append-nil links) (so_far [] (subst (λ vs. AreLinksFrom program i vs []) (sym (past_end values i past)) tt))

-- ---- what links say of a program

link_at : (program : Program) (from which to : ℕ) (values : List GivenTree) (links : List Link) → to ≡ from + which → AreLinksFrom program from values links → (further : EndRule)
    → end_at_link links further which ≡ end_of_given program further to (option_map tree_given (slice_get (map filed_value values) which))
link_at program from which to [] [] e h further = refl
link_at program from which to [] (l ∷ links) e h further = absurd h
link_at program from which to (v ∷ values) [] e h further = absurd h
link_at program from zero to (v ∷ values) (l ∷ links) e h further =
    let same : from ≡ to = omega (arith, e) in
    h.0 further ∙ ap (λ n. end_of_tree program further n v.file (value_in v.tree.now)) same
link_at program from (suc which) to (v ∷ values) (l ∷ links) e h further = link_at program (suc from) which to values links (omega (arith, e)) h.1 further

pub same_ends : (program : Program) (values : List GivenTree) (links : List Link) → map filed_value values ≡ values_of program → AreLinksFrom program 0 values links → (k which : ℕ)
    → linked_within links k which ≡ end_within program k which
unfolding linked_within end_within tree_numbered
same_ends program values links are h zero which = refl
same_ends program values links are h (suc k) which =
    link_at program 0 which which values links (omega arith) h (linked_within links k)
    ∙ (λ i. end_of_given program (λ other. same_ends program values links are h k other i) which (option_map tree_given (slice_get (are i) which)))

as_many : (program : Program) (from : ℕ) (values : List GivenTree) (links : List Link) → AreLinksFrom program from values links → length links ≡ length (map filed_value values)
as_many program from [] [] h = refl
as_many program from [] (l ∷ links) h = absurd h
as_many program from (v ∷ values) [] h = absurd h
as_many program from (v ∷ values) (l ∷ links) h = ap suc (as_many program (suc from) values links h.1)

-- ends by links are the ends of chains
pub tells_ends : (program : Program) (values : List GivenTree) (links : List Link) (ends : List (Option ChainEnd)) → map filed_value values ≡ values_of program → AreLinksFrom program 0 values links
    → ((which : ℕ) → end_in ends which ≡ linked_within links (length links) which) → TellsEnds program ends
unfolding chain_end_of
tells_ends program values links ends are h told which =
    told which ∙ same_ends program values links are h (length links) which
    ∙ ap (λ n. end_within program n which) (as_many program 0 values links h ∙ ap length are)

pub if_told : {A E : Type 0} (r : Result A E) (P Q : A → Type 0) → IfOk r P → ((x : A) → P x → Q x) → IfOk r Q
if_told (Ok x) P Q h then_told = then_told x h
if_told (Err e) P Q h then_told = tt

-- ---- ends, one more at a time

behind_by : (f g : EndRule) → ((which : ℕ) (e : ChainEnd) → f which ≡ Some e → g which ≡ Some e) → (o : Option Link) (e : ChainEnd)
    → option_and_then (end_by f) o ≡ Some e → option_and_then (end_by g) o ≡ Some e
behind_by f g on None e h = h
behind_by f g on (Some (link.End d)) e h = h
behind_by f g on (Some (link.Next next)) e h = on next e h

linked_grows : (links : List Link) (n k which : ℕ) (e : ChainEnd) → k ≤ n → linked_within links k which ≡ Some e → linked_within links n which ≡ Some e
unfolding linked_within
linked_grows links n zero which e less h = absurd (none-some e h)
linked_grows links zero (suc k) which e less h = absurd (omega (arith, less))
linked_grows links (suc n) (suc k) which e less h =
    behind_by (linked_within links k) (linked_within links n) (λ other d. linked_grows links n k other d (omega (arith, less))) (slice_get links which) e h

-- a table of ends that are right within so many links
abbrev pub AreRightWithin : List Link → ℕ → List (Option ChainEnd) → Type 0
AreRightWithin links k ends = (which : ℕ) (e : ChainEnd) → end_in ends which ≡ Some e → linked_within links k which ≡ Some e

pub set_told : (ends : List (Option ChainEnd)) (which : ℕ) (end : Option ChainEnd) (other : ℕ) (e : ChainEnd) → end_in (slice_set ends which end) other ≡ Some e
    → (end_in ends other ≡ Some e) ⊎ ((which ≡ other) × (end ≡ Some e))
set_told [] which end other e h = inl h
set_told (x ∷ ends) zero end zero e h = inr (refl, h)
set_told (x ∷ ends) zero end (suc other) e h = inl h
set_told (x ∷ ends) (suc which) end zero e h = inl h
set_told (x ∷ ends) (suc which) end (suc other) e h = further (set_told ends which end other e h)
  where
    further : (end_in ends other ≡ Some e) ⊎ ((which ≡ other) × (end ≡ Some e)) → (end_in ends other ≡ Some e) ⊎ ((suc which ≡ suc other) × (end ≡ Some e))
    further (inl g) = inl g
    further (inr g) = inr (ap suc g.0, g.1)

-- the end of a link by a table in which it is put
pub put_told : (links : List Link) (ends : List (Option ChainEnd)) (which : ℕ) (end : Option ChainEnd) (other : ℕ) (e : ChainEnd) → end ≡ end_at_link links (end_in ends) which
    → end_in (slice_set ends which end) other ≡ Some e → (end_in ends other ≡ Some e) ⊎ (end_at_link links (end_in ends) other ≡ Some e)
put_told links ends which end other e is h = by_case (set_told ends which end other e h)
  where
    by_case : (end_in ends other ≡ Some e) ⊎ ((which ≡ other) × (end ≡ Some e)) → (end_in ends other ≡ Some e) ⊎ (end_at_link links (end_in ends) other ≡ Some e)
    by_case (inl g) = inl g
    by_case (inr g) = inr (ap (end_at_link links (end_in ends)) (sym g.0) ∙ sym is ∙ g.1)

right_by_case : (links : List Link) (k which : ℕ) (e : ChainEnd) (old : List (Option ChainEnd)) → AreRightWithin links k old
    → (end_in old which ≡ Some e) ⊎ (end_at_link links (end_in old) which ≡ Some e) → linked_within links (suc k) which ≡ Some e
unfolding linked_within
right_by_case links k which e old right (inl h) = linked_grows links (suc k) k which e (omega arith) (right which e h)
right_by_case links k which e old right (inr h) = behind_by (end_in old) (linked_within links k) right (slice_get links which) e h

pub right_more : (links : List Link) (k : ℕ) (old new : List (Option ChainEnd)) → AreRightWithin links k old
    → ((which : ℕ) (e : ChainEnd) → end_in new which ≡ Some e → (end_in old which ≡ Some e) ⊎ (end_at_link links (end_in old) which ≡ Some e)) → AreRightWithin links (k + 1) new
right_more links k old new right put which e h =
    let step : suc k ≡ k + 1 = omega arith in
    ap (λ n. linked_within links n which) (sym step) ∙ right_by_case links k which e old right (put which e h)

none_push : (ends : List (Option ChainEnd)) → ((which : ℕ) → end_in ends which ≡ None) → (which : ℕ) → end_in (ends ++ None ∷ []) which ≡ None
none_push [] none zero = refl
none_push [] none (suc which) = refl
none_push (x ∷ ends) none zero = none zero
none_push (x ∷ ends) none (suc which) = none_push ends (λ other. none (suc other)) which

pub none_next : (old new : List (Option ChainEnd)) → new ≡ old ++ None ∷ [] → ((which : ℕ) → end_in old which ≡ None) → (which : ℕ) → end_in new which ≡ None
none_next old new pushed none which = ap (λ es. end_in es which) pushed ∙ none_push old none which

pub none_right : (links : List Link) (ends : List (Option ChainEnd)) → ((which : ℕ) → end_in ends which ≡ None) → AreRightWithin links 0 ends
none_right links ends none which e h = absurd (none-some e (sym (none which) ∙ h))

-- ---- ends that are none

never_by : (links : List Link) (f g : EndRule) → ((which : ℕ) → f which ≡ None → g which ≡ None) → (o : Option Link) → option_and_then (end_by f) o ≡ None → option_and_then (end_by g) o ≡ None
never_by links f g on None h = h
never_by links f g on (Some (link.End e)) h = absurd (none-some e (sym h))
never_by links f g on (Some (link.Next next)) h = on next h

never : (links : List Link) (ends : List (Option ChainEnd)) → AreSettled links ends → (k which : ℕ) → end_in ends which ≡ None → linked_within links k which ≡ None
unfolding linked_within
never links ends settled zero which h = refl
never links ends settled (suc k) which h = never_by links (end_in ends) (linked_within links k) (never links ends settled k) (slice_get links which) (settled which h)

ends_by : (links : List Link) (ends : List (Option ChainEnd)) (m n which : ℕ) (o : Option ChainEnd) → m ≤ n → AreRightWithin links m ends → AreSettled links ends → end_in ends which ≡ o
    → o ≡ linked_within links n which
ends_by links ends m n which None most right settled is = sym (never links ends settled n which is)
ends_by links ends m n which (Some e) most right settled is = sym (linked_grows links n m which e most (right which e is))

pub all_ends : (links : List Link) (ends : List (Option ChainEnd)) (m n : ℕ) → m ≤ n → AreRightWithin links m ends → AreSettled links ends → (which : ℕ) → end_in ends which ≡ linked_within links n which
all_ends links ends m n most right settled which = ends_by links ends m n which (end_in ends which) most right settled refl

-- ---- links that were looked at

-- the links in front of a place are settled
abbrev pub AreSettledBelow : List Link → List (Option ChainEnd) → ℕ → Type 0
AreSettledBelow links ends i = (which : ℕ) → which < i → end_in ends which ≡ None → end_at_link links (end_in ends) which ≡ None

behind_past : (links : List Link) (further : EndRule) (which : ℕ) → length links ≤ which → end_at_link links further which ≡ None
behind_past [] further which past = refl
behind_past (l ∷ links) further zero past = absurd (omega (arith, past))
behind_past (l ∷ links) further (suc which) past = behind_past links further which (omega (arith, past))

pub settled_end : (links : List Link) (ends : List (Option ChainEnd)) (i : ℕ) → length links ≤ i → AreSettledBelow links ends i → AreSettled links ends
settled_end links ends i past below which h =
    elim (cases_lt which i) [
      | inl less ↦ below which less h
      | inr more ↦ behind_past links (end_in ends) which (omega (arith, past, more))
    ]
