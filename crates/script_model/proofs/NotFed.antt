-- What runs that aren't fed contradict.
use Rattle.std.proofs.Common.{◌≡◌, ℕ, zero, suc, ◌+◌, ◌-◌, ◌<◌, ◌≤◌, ◌⊎◌, Bool, true, false, cond, ◌==◌, min, List, [], ◌∷◌, ◌++◌, length, take, refl, sym, ap, ◌∙◌, subst, inl, inr, arith, length-take, length-append, ne_eqb}
use Rattle.std.specs.List.{AllByRecursion, flat_map}
use Rattle.std.proofs.lemmas.Bool.{true≢false}
use Rattle.streams.specs.declared.marks.Mark.{Mark}
use Rattle.streams.specs.declared.marks.Mark.TheVariants.{Opened, Read, Ended, Closed}
use Rattle.host_model.specs.Frames.{Frames, frame}
use Rattle.host_model.specs.Marks.{connection_of, marks_of, read_by, input}
use Rattle.host_model.specs.Journal.{JournalEntry}
use Rattle.host_model.specs.DeskRules.{DeskRules}
use Rattle.host_model.proofs.Lists.{cons_parts, nil-cons}
use Rattle.machine_model.specs.AtFronts.{IsOpenBehind, size_in, IsSizeBehind, AreSizesBehind, summed}
use Rattle.script_model.specs.Feeding.{piece_end, TakesItsPart}
use Rattle.script_model.specs.Arrival.{bytes_of_pieces}
use Rattle.script_model.specs.ScriptLines.{PlanLine, opening, piece, openings, pieces_on, ends_input, some_line, count_up}
use Rattle.script_model.specs.Writing.{WritesAtMost}
use Rattle.script_model.specs.RestLines.{opened_in, IsOverBudget, HasPlaceFor}

-- no more is read than is left of the piece
pub not_over : (max : ℕ) (ends read bytes : List ℕ) → TakesItsPart max ends read bytes → length bytes ≤ piece_end ends (length read) - length read
not_over max ends read bytes t = let e : length bytes ≡ min (min t.missing 65536) (piece_end ends (length read) - length read) = t.count in omega arith

-- no more is written than the rule says
pub not_more : {C A : Type 0} (count : ℕ) (d : DeskRules C A) (es : List (JournalEntry C A)) (marks : List Mark) (bytes : List ℕ) → WritesAtMost count d es marks bytes → length bytes ≤ count
not_more count d es marks bytes w =
    let e : length bytes ≡ length (take count w.offered) = ap length w.part in
    let f : length (take count w.offered) ≡ min count (length w.offered) = length-take count w.offered in
    omega arith

nothing : (xs : List ℕ) → length xs ≡ 0 → xs ≡ []
nothing [] e = refl
nothing (x ∷ xs) e = absurd (let g : ⊥ = omega arith in g)

-- no bytes have no rest
no_rest : (max : ℕ) (payloads : List (List ℕ)) (rest : List ℕ) → Frames max [] payloads rest → rest ≡ []
no_rest max payloads rest f =
    let n : 0 ≡ length (flat_map frame payloads ++ rest) = ap length f.whole in
    let m : length (flat_map frame payloads ++ rest) ≡ length (flat_map frame payloads) + length rest = length-append (flat_map frame payloads) rest in
    nothing rest (omega arith)

-- where nothing was read, no size is under way
no_sizes : (max : ℕ) (front : List Mark) (sizes : ℕ → ℕ) → ((c : ℕ) → input (marks_of c front) ≡ []) → AreSizesBehind max size_in front sizes → (n : ℕ) → summed sizes n ≡ 0
no_sizes max front sizes none are zero = refl
no_sizes max front sizes none are (suc n) = let t : summed sizes n ≡ 0 = no_sizes max front sizes none are n in let s : sizes n ≡ 0 = go (are n) in omega arith
  where
    go : (sizes n ≡ 0) ⊎ IsSizeBehind max size_in front n (sizes n) → sizes n ≡ 0
    go (inl z) = z
    go (inr s) = s.same ∙ ap size_in (no_rest max s.payloads s.rest (subst (λ b. Frames max b s.payloads s.rest) (none n) s.frames))

-- of two openings in front, one alone is the first
one_opened : (front back more : List Mark) → Opened 0 ∷ Opened 1 ∷ more ≡ front ++ back → opened_in front ≡ 0 ∷ [] → front ≡ Opened 0 ∷ []
one_opened [] back more e o = absurd (nil-cons 0 [] o)
one_opened (x ∷ []) back more e o = ap (λ (m : Mark). m ∷ []) (sym (cons_parts (Opened 0) x (Opened 1 ∷ more) back e).0)
one_opened (x ∷ y ∷ front) back more e o =
    let p : (Opened 0 ≡ x) × (Opened 1 ∷ more ≡ y ∷ (front ++ back)) = cons_parts (Opened 0) x (Opened 1 ∷ more) (y ∷ (front ++ back)) e in
    let q : (Opened 1 ≡ y) × (more ≡ front ++ back) = cons_parts (Opened 1) y more (front ++ back) p.1 in
    let k : 0 ∷ 1 ∷ opened_in front ≡ 0 ∷ [] = (λ i. opened_in (p.0 i ∷ q.0 i ∷ front)) ∙ o in
    absurd (nil-cons 1 (opened_in front) (sym (cons_parts 0 0 (1 ∷ opened_in front) [] k).1))

-- a second opening is no place of rest before the first connection's pieces were read
pub no_place : {C A : Type 0} (d : DeskRules C A) (budget : ℕ) (lines : List PlanLine) (bytes : List ℕ) (byte : ℕ) (more : List Mark) (journal : List (JournalEntry C A))
    → openings lines ≡ 1 → bytes_of_pieces (pieces_on 0 lines) ≡ byte ∷ bytes → HasPlaceFor d budget lines (Opened 0 ∷ Opened 1 ∷ more) journal → ⊥
no_place d budget lines bytes byte more journal one some h = go h.all_read
  where
    is : h.front ≡ Opened 0 ∷ []
    is = one_opened h.front h.back more h.split (h.opened ∙ ap (count_up 0) one)

    either : (b : Bool) → input (cond b (Opened 0 ∷ []) []) ≡ []
    either true = refl
    either false = refl

    none : (c : ℕ) → input (marks_of c h.front) ≡ []
    none c = ap (λ f. input (marks_of c f)) is ∙ either (0 == c)

    go : ((c : ℕ) → IsOpenBehind c h.front → input (marks_of c h.front) ≡ bytes_of_pieces (pieces_on c lines)) ⊎ IsOverBudget d.max budget h.front → ⊥
    go (inl read) = nil-cons byte bytes (sym (none 0) ∙ read 0 (subst (IsOpenBehind 0) (sym is) (omega arith)) ∙ some)
    go (inr o) = let z : summed o.sizes o.count ≡ 0 = no_sizes d.max h.front o.sizes none o.each o.count in let m : budget < summed o.sizes o.count = o.more in let g : ⊥ = omega arith in g

-- a front is taken from the whole
pub taken_front : {X : Type 0} (front back : List X) → take (length front) (front ++ back) ≡ front
taken_front [] back = refl
taken_front (x ∷ front) back = ap (λ l. x ∷ l) (taken_front front back)

-- where bytes were read on connection 0 alone, the sizes under way add up to one that a frame may have
pub one_size : (max : ℕ) (front : List Mark) (sizes : ℕ → ℕ) → ((c : ℕ) → input (marks_of (suc c) front) ≡ []) → AreSizesBehind max size_in front sizes → ((c : ℕ) → sizes c ≤ max)
    → (n : ℕ) → summed sizes n ≤ max
one_size max front sizes none are within zero = omega arith
one_size max front sizes none are within (suc zero) = let l : sizes 0 ≤ max = within 0 in omega arith
one_size max front sizes none are within (suc (suc n)) =
    let t : summed sizes (suc n) ≤ max = one_size max front sizes none are within (suc n) in
    let s : sizes (suc n) ≡ 0 = go (are (suc n)) in
    omega arith
  where
    go : (sizes (suc n) ≡ 0) ⊎ IsSizeBehind max size_in front (suc n) (sizes (suc n)) → sizes (suc n) ≡ 0
    go (inl z) = z
    go (inr s) = s.same ∙ ap size_in (no_rest max s.payloads s.rest (subst (λ b. Frames max b s.payloads s.rest) (none n) s.frames))

-- connection 1 is open, and nothing was read but on connection 0
record IsUnread (front : List Mark) : Type 0 where
  pub open_there : IsOpenBehind 1 front
  pub none : (c : ℕ) → input (marks_of (suc c) front) ≡ []

-- two are opened, bytes are read on the first, it is closed, and a third is opened
abbrev ended_first : List ℕ → List Mark → List Mark
ended_first bytes more = Opened 0 ∷ Opened 1 ∷ Read 0 bytes ∷ Closed 0 ∷ Opened 2 ∷ more

-- nothing is read by marks of which each is of connection 0, or tells of no bytes
pub unread : (c : ℕ) (marks : List Mark) → AllByRecursion (λ m. (connection_of m ≡ 0) ⊎ (read_by m ≡ [])) marks → input (marks_of (suc c) marks) ≡ []
unread c [] a = refl
unread c (m ∷ marks) a = go a.0 (unread c marks a.1)
  where
    pass : (b : Bool) → read_by m ≡ [] → input (marks_of (suc c) marks) ≡ [] → input (cond b (m ∷ marks_of (suc c) marks) (marks_of (suc c) marks)) ≡ []
    pass true none rest = (λ i. none i ++ rest i)
    pass false none rest = rest

    go : (connection_of m ≡ 0) ⊎ (read_by m ≡ []) → input (marks_of (suc c) marks) ≡ [] → input (marks_of (suc c) (m ∷ marks)) ≡ []
    go (inl first) rest =
        ap (λ b. input (cond b (m ∷ marks_of (suc c) marks) (marks_of (suc c) marks))) (ne_eqb (connection_of m) (suc c) (λ e. let f : connection_of m ≡ 0 = first in let g : ⊥ = omega arith in g)) ∙ rest
    go (inr none) rest = pass (connection_of m == suc c) none rest

-- so it is at each front at which just these two were opened
unread_at : (bytes : List ℕ) (more : List Mark) (n : ℕ) → opened_in (take n (ended_first bytes more)) ≡ 0 ∷ 1 ∷ [] → IsUnread (take n (ended_first bytes more))
unread_at bytes more zero o = absurd (nil-cons 0 (1 ∷ []) o)
unread_at bytes more (suc zero) o = absurd (nil-cons 1 [] (cons_parts 0 0 [] (1 ∷ []) o).1)
unread_at bytes more (suc (suc zero)) o = record { open_there = omega arith; none = λ c. unread c (take 2 (ended_first bytes more)) (inl refl, (inr refl, tt)) }
unread_at bytes more (suc (suc (suc zero))) o = record { open_there = omega arith; none = λ c. unread c (take 3 (ended_first bytes more)) (inl refl, (inr refl, (inl refl, tt))) }
unread_at bytes more (suc (suc (suc (suc zero)))) o = record { open_there = omega arith; none = λ c. unread c (take 4 (ended_first bytes more)) (inl refl, (inr refl, (inl refl, (inl refl, tt)))) }
unread_at bytes more (suc (suc (suc (suc (suc n))))) o =
    absurd (nil-cons 2 (opened_in (take n more)) (sym (cons_parts 1 1 (2 ∷ opened_in (take n more)) [] (cons_parts 0 0 (1 ∷ 2 ∷ opened_in (take n more)) (1 ∷ []) o).1).1))

-- nor is a third opening, where the second connection's piece wasn't read, and one size at most is under way
pub no_place_beside : {C A : Type 0} (d : DeskRules C A) (budget : ℕ) (one bytes : List ℕ) (byte : ℕ) (more : List Mark) (journal : List (JournalEntry C A)) → d.max ≤ budget
    → HasPlaceFor d budget (opening ∷ opening ∷ piece 0 one ∷ piece 1 (byte ∷ bytes) ∷ []) (ended_first one more) journal → ⊥
no_place_beside d budget one bytes byte more journal room h = go h.all_read
  where
    is : take (length h.front) (ended_first one more) ≡ h.front
    is = ap (take (length h.front)) h.split ∙ taken_front h.front h.back

    there : IsUnread h.front
    there = subst IsUnread is (unread_at one more (length h.front) (ap opened_in is ∙ h.opened))

    go : ((c : ℕ) → IsOpenBehind c h.front → input (marks_of c h.front) ≡ bytes_of_pieces (pieces_on c (opening ∷ opening ∷ piece 0 one ∷ piece 1 (byte ∷ bytes) ∷ []))) ⊎ IsOverBudget d.max budget h.front → ⊥
    go (inl read) = nil-cons byte (bytes ++ []) (sym (there.none 0) ∙ read 1 there.open_there)
    go (inr o) =
        let l : summed o.sizes o.count ≤ d.max = one_size d.max h.front o.sizes there.none o.each o.within o.count in
        let m : budget < summed o.sizes o.count = o.more in
        let g : ⊥ = omega arith in g

-- two are opened, and the input of the second has ended
abbrev ended_second : List Mark → List Mark
ended_second more = Opened 0 ∷ Opened 1 ∷ Ended 1 ∷ more

-- an input that ends after all lines has no place after its end, nor before it, where the first connection's pieces weren't read
pub no_place_past_an_end : {C A : Type 0} (d : DeskRules C A) (budget : ℕ) (lines : List PlanLine) (bytes : List ℕ) (byte : ℕ) (more : List Mark) (journal : List (JournalEntry C A))
    → openings lines ≡ 2 → bytes_of_pieces (pieces_on 0 lines) ≡ byte ∷ bytes → some_line (ends_input 1) lines ≡ false → HasPlaceFor d budget lines (ended_second more) journal → ⊥
no_place_past_an_end d budget lines bytes byte more journal two some none_ends h =
    go (length h.front) (ap (take (length h.front)) h.split ∙ taken_front h.front h.back)
  where
    either : (b e : Bool) → input (cond b (Opened 0 ∷ cond e (Opened 1 ∷ []) []) (cond e (Opened 1 ∷ []) [])) ≡ []
    either true true = refl
    either true false = refl
    either false true = refl
    either false false = refl

    unread_there : Opened 0 ∷ Opened 1 ∷ [] ≡ h.front → (c : ℕ) → input (marks_of c h.front) ≡ []
    unread_there is c = ap (λ f. input (marks_of c f)) (sym is) ∙ either (0 == c) (1 == c)

    behind_both : Opened 0 ∷ Opened 1 ∷ [] ≡ h.front
        → ((c : ℕ) → IsOpenBehind c h.front → input (marks_of c h.front) ≡ bytes_of_pieces (pieces_on c lines)) ⊎ IsOverBudget d.max budget h.front → ⊥
    behind_both is (inl read) = nil-cons byte bytes (sym (unread_there is 0) ∙ read 0 (subst (IsOpenBehind 0) is (omega arith)) ∙ some)
    behind_both is (inr o) =
        let z : summed o.sizes o.count ≡ 0 = no_sizes d.max h.front o.sizes (unread_there is) o.each o.count in let m : budget < summed o.sizes o.count = o.more in let g : ⊥ = omega arith in g

    opened_there : (front : List Mark) → front ≡ h.front → opened_in front ≡ 0 ∷ 1 ∷ []
    opened_there front is = ap opened_in is ∙ h.opened ∙ ap (count_up 0) two

    go : (n : ℕ) → take n (ended_second more) ≡ h.front → ⊥
    go zero is = nil-cons 0 (1 ∷ []) (opened_there [] is)
    go (suc zero) is = nil-cons 1 [] (cons_parts 0 0 [] (1 ∷ []) (opened_there (Opened 0 ∷ []) is)).1
    go (suc (suc zero)) is = behind_both is h.all_read
    go (suc (suc (suc n))) is = true≢false (sym ((h.no_more 1).ended (Opened 0 ∷ Opened 1 ∷ []) (take n more) (sym is)) ∙ none_ends)
