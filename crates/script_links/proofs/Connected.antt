-- Connections in memory, and as plain data by their numbers.
use Rattle.std.proofs.Common.{◌≡◌, ◌≢◌, ℕ, zero, suc, ◌+◌, ◌<◌, Bool, true, false, ◌||◌, List, [], ◌∷◌, length, drop, get_or, slice_set, refl, sym, ap, ◌∙◌, subst, arith, true≢false}
use Rattle.std.proofs.lemmas.List.{map-set, set-get_or, drop-drop, length-map, get_or-map, get_or-set_same, get_or-set_other}
use Rattle.std.specs.List.{list_any}
use Rattle.script_links.specs.declared.link.ScriptConn.{ScriptConn}
use Rattle.script_links.specs.ServedScript.{PlainLink, no_link, link_at, with_link, is_open_stage, is_open_at, is_coming}
use Rattle.script_links.specs.Kept.{plain_link, plain_links}

-- the one at its place
pub at_place : (links : List ScriptConn) (c : ℕ) (link : ScriptConn) → c < length links → link ≡ get_or links c link → link_at (plain_links links) c ≡ plain_link link
at_place links c link below is = get_or-map plain_link links c link no_link below ∙ ap plain_link (sym is)

-- one is changed there
pub changed_at : (links : List ScriptConn) (c : ℕ) (old new : ScriptConn) (change : PlainLink → PlainLink) → c < length links → old ≡ get_or links c old
    → plain_link new ≡ change (plain_link old) → plain_links (slice_set links c new) ≡ with_link c change (plain_links links)
changed_at links c old new change below is so =
    map-set plain_link links c new ∙ ap (λ link. slice_set (plain_links links) c link) (so ∙ ap change (sym (at_place links c old below is)))

-- one that is as it was there changes nothing
pub unchanged_at : (links : List ScriptConn) (c : ℕ) (old new : ScriptConn) → c < length links → old ≡ get_or links c old → plain_link new ≡ plain_link old
    → plain_links (slice_set links c new) ≡ plain_links links
unchanged_at links c old new below is so =
    changed_at links c old new (λ link. link) below is so ∙ set-get_or (plain_links links) c no_link

-- a test of all of them
pub any_plain : (p : PlainLink → Bool) (links : List ScriptConn) → list_any (λ (link : ScriptConn). p (plain_link link)) links ≡ list_any p (plain_links links)
any_plain p [] = refl
any_plain p (link ∷ links) = ap (λ b. p (plain_link link) || b) (any_plain p links)

-- steps after one more
pub drop_on : {X : Type 0} (n : ℕ) (xs : List X) → drop 1 (drop n xs) ≡ drop (n + 1) xs
drop_on n xs = drop-drop 1 n xs

-- one that is open, or to come, is there
pub open_is_there : (links : List PlainLink) (c : ℕ) → is_open_at links c ≡ true → c < length links
open_is_there [] c here = absurd (true≢false (sym here))
open_is_there (link ∷ links) zero here = omega arith
open_is_there (link ∷ links) (suc c) here = let more : c < length links = open_is_there links c here in omega arith

pub coming_is_there : (links : List PlainLink) (c : ℕ) → is_coming (link_at links c).stage ≡ true → c < length links
coming_is_there [] c here = absurd (true≢false (sym here))
coming_is_there (link ∷ links) zero here = omega arith
coming_is_there (link ∷ links) (suc c) here = let more : c < length links = coming_is_there links c here in omega arith

-- there are as many in memory as plain ones
pub there_in_memory : (links : List ScriptConn) (c : ℕ) → c < length (plain_links links) → c < length links
there_in_memory links c below = subst (λ n. c < n) (length-map links plain_link) below

-- what is there once one is changed
pub own_changed : (c : ℕ) (change : PlainLink → PlainLink) (links : List PlainLink) → c < length links → link_at (with_link c change links) c ≡ change (link_at links c)
own_changed c change links below = get_or-set_same links c (change (link_at links c)) no_link below

pub other_same : (c x : ℕ) (change : PlainLink → PlainLink) (links : List PlainLink) → x ≢ c → link_at (with_link c change links) x ≡ link_at links x
other_same c x change links other = get_or-set_other links c x (change (link_at links c)) no_link other
