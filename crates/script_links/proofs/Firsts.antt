-- Links over a script, or over its first connections, before anything has happened.
use Rattle.std.proofs.Common.{◌≡◌, ℕ, zero, suc, ◌+◌, ◌<◌, ◌≤◌, ◌^◌, ◌⊎◌, Bool, true, false, ◌&&◌, min, Option, None, Some, List, [], ◌∷◌, ◌++◌, map, length, take, refl, sym, ap, ◌∙◌, subst, inl, inr, arith, length-take}
use Rattle.std.specs.List.{list_all}
use Rattle.std.proofs.lemmas.Bool.{and_parts, cases_lt}
use Rattle.std.proofs.lemmas.List.{get_or-take, get_or_past}
use Rattle.std.proofs.lemmas.List.Sums.{sum_by-cons}
use Rattle.streams.specs.declared.marks.Mark.{Mark}
use Rattle.outside.specs.Opening.{AreFreshLinks}
use Rattle.host_model.specs.Marks.{marks_of}
use Rattle.host_model.proofs.Lists.{nil-cons}
use Rattle.script_model.specs.ScriptLines.{PlanLine, resting, ScriptPlan, pieces_on, rules_of, count_up}
use Rattle.script_model.specs.RestLines.{opened_in}
use Rattle.script_links.specs.ServedScript.{PlainLink, ServedScript, no_link, link_at, is_coming, is_open_stage, is_open_at, marks_owed, marks_owed_at, is_sound_link}
use Rattle.script_links.specs.Fresh.{fresh_link, IsFresh, HaveNotBegun, first_connections}
use Rattle.script_links.specs.Kept.{HasRoomFor}
use Rattle.script_links.specs.Shown.{links_told}
use Rattle.script_links.specs.Shows.{transfers_in}
use Rattle.script_links.specs.Followed.{AreLinksOf, AreFirstLinksOf, LinkFollows, FollowsSoFar}
use Rattle.script_links.proofs.Keeping.{both}
use Rattle.script_links.proofs.LinkFollowing.{fresh_follows}

pub untouched : (script : ScriptPlan) (s : ServedScript) → IsFresh script s → HaveNotBegun s
untouched script s fresh = record {
  steps = fresh.steps;
  opened = fresh.opened;
  each = λ c below.
      let is : link_at s.links c ≡ fresh_link (pieces_on c script.lines) (rules_of c script) = fresh.each c below in
      is ∙ (λ i. fresh_link (sym (ap (λ (l : PlainLink). l.brought) is) i) (sym (ap (λ (l : PlainLink). l.ruled) is) i));
  blocked = fresh.blocked;
  over = fresh.over;
  tape = fresh.tape;
  rests = fresh.rests;
  lengths = fresh.lengths;
}

-- they are fresh links
pub untouched_fresh : (s : ServedScript) → HaveNotBegun s → AreFreshLinks (links_told s)
untouched_fresh s u = record {
  opened = u.opened;
  none_open = λ c. go c (cases_lt c (length s.links));
  over = u.over;
  tape = u.tape;
  rests = u.rests;
  lengths = u.lengths;
}
  where
    go : (c : ℕ) → (c < length s.links) ⊎ (length s.links ≤ c) → is_open_at s.links c ≡ false
    go c (inl below) = ap (λ (l : PlainLink). is_open_stage l.stage) (u.each c below)
    go c (inr past) = ap (λ (l : PlainLink). is_open_stage l.stage) (get_or_past s.links c no_link past)

-- they follow each script whose links they are
pub untouched_follow : (script : ScriptPlan) (s : ServedScript) → HaveNotBegun s → AreLinksOf script s → FollowsSoFar script s
untouched_follow script s u own = record {
  done = [];
  left = script.lines;
  split = refl;
  steps = u.steps ∙ own.lines;
  opened = u.opened;
  told = ap opened_in u.tape ∙ ap (count_up 0) (sym u.opened);
  lent = ap length u.lengths ∙ ap transfers_in (sym u.tape);
  marks = λ front back mark e. absurd (no_split front back mark (sym u.tape ∙ e));
  each = λ c below.
      subst (λ (t : List Mark). LinkFollows script [] script.lines t c (link_at s.links c)) (sym u.tape)
      (subst (LinkFollows script [] script.lines [] c) (sym (u.each c below ∙ (λ i. fresh_link (own.pieces c below i) (own.rules c below i)))) (fresh_follows script c));
  coming = λ c below past. ap (λ (l : PlainLink). is_coming l.stage) (u.each c below);
  came = λ c before. absurd (let none : s.opened ≡ 0 = u.opened in let f : ⊥ = omega arith in f);
  none = λ c past. ap (marks_of c) u.tape;
  rest_count = ap length u.rests;
  rests = λ before behind e. absurd (no_line before behind resting e);
}
  where
    no_split : (front back : List Mark) (mark : Mark) → [] ≡ front ++ mark ∷ back → ⊥
    no_split [] back mark e = nil-cons mark back e
    no_split (x ∷ front) back mark e = nil-cons x (front ++ mark ∷ back) e

    no_line : (front back : List PlanLine) (line : PlanLine) → [] ≡ front ++ line ∷ back → ⊥
    no_line [] back line e = nil-cons line back e
    no_line (x ∷ front) back line e = nil-cons x (front ++ line ∷ back) e

-- of the first connections: what each is, how many there are, and the room that they take
module _ (most : ℕ) (links : List PlainLink) where
  first_many : length (take most links) ≡ min most (length links)
  first_many = length-take most links

  first_at : (c : ℕ) → c < length (take most links) → (link_at (take most links) c ≡ link_at links c) × (c < length links)
  first_at c below =
      let many : length (take most links) ≡ min most (length links) = first_many in
      (get_or-take most links c no_link (omega arith), omega arith)

first_all : {X : Type 0} (p : X → Bool) (most : ℕ) (xs : List X) → list_all p xs ≡ true → list_all p (take most xs) ≡ true
first_all p zero xs all = refl
first_all p (suc most) [] all = refl
first_all p (suc most) (x ∷ xs) all = both (p x) (list_all p (take most xs)) (and_parts (p x) (list_all p xs) all).0 (first_all p most xs (and_parts (p x) (list_all p xs) all).1)

first_owed : (most : ℕ) (links : List PlainLink) → marks_owed (take most links) ≤ marks_owed links
first_owed zero links = omega arith
first_owed (suc most) [] = omega arith
first_owed (suc most) (link ∷ links) =
    let all : marks_owed (link ∷ links) ≡ marks_owed_at link.stage + marks_owed links = sum_by-cons (λ (l : PlainLink). marks_owed_at l.stage) link links in
    let some : marks_owed (link ∷ take most links) ≡ marks_owed_at link.stage + marks_owed (take most links) = sum_by-cons (λ (l : PlainLink). marks_owed_at l.stage) link (take most links) in
    let less : marks_owed (take most links) ≤ marks_owed links = first_owed most links in
    omega arith

pub first_room : (most marks places : ℕ) (s : ServedScript) → HasRoomFor marks places s → HasRoomFor marks places (first_connections most s)
first_room most marks places s room =
    let many : length (take most s.links) ≡ min most (length s.links) = first_many most s.links in
    let few : length s.links < 2 ^ 32 = room.few in
    let less : marks_owed (take most s.links) ≤ marks_owed s.links = first_owed most s.links in
    let fits : length s.tape + marks_owed s.links ≤ marks = room.for_marks in
    record { sound = first_all is_sound_link most s.links room.sound; few = omega arith; for_marks = omega arith; for_rests = room.for_rests }

pub first_untouched : (most : ℕ) (s : ServedScript) → HaveNotBegun s → HaveNotBegun (first_connections most s)
first_untouched most s u = record {
  steps = u.steps;
  opened = u.opened;
  each = λ c below.
      let at : (link_at (take most s.links) c ≡ link_at s.links c) × (c < length s.links) = first_at most s.links c below in
      subst (λ (l : PlainLink). l ≡ fresh_link l.brought l.ruled) (sym at.0) (u.each c at.1);
  blocked = u.blocked;
  over = u.over;
  tape = u.tape;
  rests = u.rests;
  lengths = u.lengths;
}

pub first_links : (most : ℕ) (script : ScriptPlan) (s : ServedScript) → IsFresh script s → AreFirstLinksOf most script (first_connections most s)
first_links most script s fresh = record {
  lines = fresh.lines;
  count = first_many most s.links ∙ ap (min most) fresh.count;
  pieces = λ c below.
      let at : (link_at (take most s.links) c ≡ link_at s.links c) × (c < length s.links) = first_at most s.links c below in
      ap (λ (l : PlainLink). l.brought) (at.0 ∙ fresh.each c at.1);
  rules = λ c below.
      let at : (link_at (take most s.links) c ≡ link_at s.links c) × (c < length s.links) = first_at most s.links c below in
      ap (λ (l : PlainLink). l.ruled) (at.0 ∙ fresh.each c at.1);
}
