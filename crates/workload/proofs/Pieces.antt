-- The pieces of a connection, joined.
use Rattle.std.proofs.Common.{◌≡◌, ℕ, zero, suc, ◌+◌, ◌*◌, ◌<◌, ◌≤◌, ◌==◌, Bool, true, false, cond, nat_lt, List, [], ◌∷◌, ◌++◌, length, get_or, take, drop, map, replicate, refl, sym, ap, ◌∙◌, arith, append_assoc, append-nil, take-append-drop, eq-eqb, ne_eqb}
use Rattle.std.specs.List.{flat_map}
use Rattle.std.proofs.lemmas.Bool.{eqb-true, eqb-false, ltb-false}
use Rattle.std.proofs.lemmas.List.{drop_all, drop-drop}
use Rattle.std.proofs.lemmas.Grind.{flat_map-append}
use Rattle.script_model.specs.Arrival.{bytes_of_pieces}
use Rattle.script_model.specs.ScriptLines.{PlanLine, opening, piece, input_end, piece_by, pieces_on, count_up}
use Rattle.workload.specs.LoadPlan.{connections_of, bytes_on, all_bytes, pieces_of, most_pieces, piece_at, piece_line, round, rounds, plan_of_streams, workload_plan}

-- the bytes that lines bring to connection c
abbrev brought : ℕ → List PlanLine → List ℕ
brought c lines = bytes_of_pieces (pieces_on c lines)

brought_append : (c : ℕ) (xs ys : List PlanLine) → brought c (xs ++ ys) ≡ brought c xs ++ brought c ys
brought_append c xs ys = ap bytes_of_pieces (flat_map-append (piece_by c) xs ys) ∙ flat_map-append (λ p. p) (pieces_on c xs) (pieces_on c ys)

openings_bring : (c n : ℕ) → brought c (replicate n opening) ≡ []
openings_bring c zero = refl
openings_bring c (suc n) = openings_bring c n

ends_bring : (c : ℕ) (cs : List ℕ) → brought c (map input_end cs) ≡ []
ends_bring c [] = refl
ends_bring c (x ∷ cs) = ends_bring c cs

-- what lines bring that are made of items, one behind the other
brought_flat : {X : Type 0} (c : ℕ) (f : X → List PlanLine) (xs : List X) → brought c (flat_map f xs) ≡ flat_map (λ x. brought c (f x)) xs
brought_flat c f [] = refl
brought_flat c f (x ∷ xs) = brought_append c (f x) (flat_map f xs) ∙ ap (λ bs. brought c (f x) ++ bs) (brought_flat c f xs)

-- the line of another connection
other_brings : (c i x : ℕ) (bytes : List ℕ) → (x ≡ c → ⊥) → brought c (piece_line i x bytes) ≡ []
other_brings c i x bytes other = go (nat_lt (61 * i) (length bytes))
  where
    go : (there : Bool) → brought c (cond there (piece x (piece_at i bytes) ∷ []) []) ≡ []
    go true = ap (λ b. bytes_of_pieces (cond b (piece_at i bytes ∷ []) [] ++ [])) (ne_eqb x c other)
    go false = refl

-- its own line
own_brings : (c i : ℕ) (bytes : List ℕ) → brought c (piece_line i c bytes) ≡ piece_at i bytes
own_brings c i bytes = go (nat_lt (61 * i) (length bytes)) refl
  where
    go : (there : Bool) → nat_lt (61 * i) (length bytes) ≡ there → brought c (cond there (piece c (piece_at i bytes) ∷ []) []) ≡ piece_at i bytes
    go true is = ap (λ b. bytes_of_pieces (cond b (piece_at i bytes ∷ []) [] ++ [])) (eq-eqb c c refl) ∙ append-nil (piece_at i bytes)
    go false is = sym (ap (take 61) (drop_all (61 * i) bytes (ltb-false (61 * i) (length bytes) is)))

-- a round brings to each connection its piece
none_behind : (c i : ℕ) (streams : List (List ℕ)) (from n : ℕ) → c < from
    → flat_map (λ x. brought c (piece_line i x (get_or streams x []))) (count_up from n) ≡ []
none_behind c i streams from zero before = refl
none_behind c i streams from (suc n) before =
    ap (λ bs. bs ++ flat_map (λ x. brought c (piece_line i x (get_or streams x []))) (count_up (suc from) n))
    (other_brings c i from (get_or streams from []) (λ e. absurd (let f : ⊥ = omega (arith, e) in f)))
    ∙ none_behind c i streams (suc from) n (omega arith)

one_of_round : (c i : ℕ) (streams : List (List ℕ)) (from n : ℕ) → from ≤ c → c < from + n
    → flat_map (λ x. brought c (piece_line i x (get_or streams x []))) (count_up from n) ≡ piece_at i (get_or streams c [])
one_of_round c i streams from zero above below = absurd (let f : ⊥ = omega arith in f)
one_of_round c i streams from (suc n) above below = go (from == c) refl (λ later. one_of_round c i streams (suc from) n later (omega arith))
  where
    behind : List ℕ
    behind = flat_map (λ x. brought c (piece_line i x (get_or streams x []))) (count_up (suc from) n)

    go : (here : Bool) → (from == c) ≡ here → (suc from ≤ c → behind ≡ piece_at i (get_or streams c []))
        → brought c (piece_line i from (get_or streams from [])) ++ behind ≡ piece_at i (get_or streams c [])
    go true is more =
        let same : from ≡ c = eqb-true from c is in
        ap (λ bs. brought c (piece_line i from (get_or streams from [])) ++ bs) (none_behind c i streams (suc from) n (omega (arith, same)))
        ∙ append-nil (brought c (piece_line i from (get_or streams from [])))
        ∙ ap (λ x. brought c (piece_line i x (get_or streams x []))) same
        ∙ own_brings c i (get_or streams c [])
    go false is more =
        let other : from ≡ c → ⊥ = eqb-false from c is in
        ap (λ bs. bs ++ behind) (other_brings c i from (get_or streams from []) other)
        ∙ more (omega (arith, other))

round_brings : (c i : ℕ) (streams : List (List ℕ)) → c < length streams → brought c (round streams i) ≡ piece_at i (get_or streams c [])
round_brings c i streams within =
    brought_flat c (λ x. piece_line i x (get_or streams x [])) (count_up 0 (length streams)) ∙ one_of_round c i streams 0 (length streams) (omega arith) (omega arith)

flat_same : {X : Type 0} (f g : X → List ℕ) → ((x : X) → f x ≡ g x) → (xs : List X) → flat_map f xs ≡ flat_map g xs
flat_same f g same [] = refl
flat_same f g same (x ∷ xs) = λ i. same x i ++ flat_same f g same xs i

-- the pieces from number k on, and what is behind them, are what is behind the pieces before k
cut : (bytes : List ℕ) (k m : ℕ) → flat_map (λ i. piece_at i bytes) (count_up k m) ++ drop (61 * (k + m)) bytes ≡ drop (61 * k) bytes
cut bytes k zero = ap (λ n. drop n bytes) (let e : 61 * (k + 0) ≡ 61 * k = omega arith in e)
cut bytes k (suc m) =
    append_assoc (piece_at k bytes) (flat_map (λ i. piece_at i bytes) (count_up (suc k) m)) (drop (61 * (k + suc m)) bytes)
    ∙ ap (λ n. piece_at k bytes ++ (flat_map (λ i. piece_at i bytes) (count_up (suc k) m) ++ drop n bytes)) (let e : 61 * (k + suc m) ≡ 61 * (suc k + m) = omega arith in e)
    ∙ ap (λ bs. piece_at k bytes ++ bs) (cut bytes (suc k) m)
    ∙ ap (λ n. piece_at k bytes ++ drop n bytes) (let e : 61 * suc k ≡ 61 * k + 61 = omega arith in e)
    ∙ ap (λ bs. piece_at k bytes ++ bs) (sym (drop-drop 61 (61 * k) bytes))
    ∙ take-append-drop 61 (drop (61 * k) bytes)

enough : (bytes : List ℕ) → length bytes ≤ 61 * pieces_of bytes
enough bytes = omega arith

most_of : (streams : List (List ℕ)) (c : ℕ) → pieces_of (get_or streams c []) ≤ most_pieces streams
most_of [] c = omega arith
most_of (x ∷ streams) zero = omega arith
most_of (x ∷ streams) (suc c) = let more = most_of streams c in omega (arith, more)

rounds_bring : (c : ℕ) (streams : List (List ℕ)) → c < length streams → brought c (rounds streams) ≡ get_or streams c []
rounds_bring c streams within =
    let bytes : List ℕ = get_or streams c [] in
    let m : ℕ = most_pieces streams in
    let most : pieces_of bytes ≤ m = most_of streams c in
    let all : length bytes ≤ 61 * pieces_of bytes = enough bytes in
    let joined : List ℕ = flat_map (λ i. piece_at i bytes) (count_up 0 m) in
    brought_flat c (round streams) (count_up 0 m)
    ∙ flat_same (λ i. brought c (round streams i)) (λ i. piece_at i bytes) (λ i. round_brings c i streams within) (count_up 0 m)
    ∙ sym (append-nil joined)
    ∙ ap (λ bs. joined ++ bs) (sym (drop_all (61 * (0 + m)) bytes (omega (arith, most, all))))
    ∙ cut bytes 0 m

plan_brings : (c : ℕ) (streams : List (List ℕ)) → c < length streams → brought c (plan_of_streams streams).lines ≡ get_or streams c []
plan_brings c streams within =
    let n : ℕ = length streams in
    brought_append c (replicate n opening) (rounds streams ++ map input_end (count_up 0 n))
    ∙ ap (λ bs. bs ++ brought c (rounds streams ++ map input_end (count_up 0 n))) (openings_bring c n)
    ∙ brought_append c (rounds streams) (map input_end (count_up 0 n))
    ∙ ap (λ bs. brought c (rounds streams) ++ bs) (ends_bring c (count_up 0 n))
    ∙ append-nil (brought c (rounds streams))
    ∙ rounds_bring c streams within

counted : (f : ℕ → List ℕ) (n from c : ℕ) → c < n → get_or (map f (count_up from n)) c [] ≡ f (from + c)
counted f zero from c within = absurd (let g : ⊥ = omega arith in g)
counted f (suc n) from zero within = ap f (let e : from ≡ from + 0 = omega arith in e)
counted f (suc n) from (suc c) within = counted f n (suc from) c (omega arith) ∙ ap f (let e : suc from + c ≡ from + suc c = omega arith in e)

counted_size : (f : ℕ → List ℕ) (n from : ℕ) → length (map f (count_up from n)) ≡ n
counted_size f zero from = refl
counted_size f (suc n) from = ap suc (counted_size f n (suc from))

-- how many connections have bytes
pub few_streams : (seed size : ℕ) → length (all_bytes seed size) ≡ connections_of size
few_streams seed size = counted_size (bytes_on seed size (connections_of size)) (connections_of size) 0

-- the pieces of a connection are its bytes
pub pieces_joined : (seed size c : ℕ) → c < connections_of size
    → bytes_of_pieces (pieces_on c (workload_plan seed size).lines) ≡ bytes_on seed size (connections_of size) c
pieces_joined seed size c within =
    let n : ℕ = connections_of size in
    let size_is : length (all_bytes seed size) ≡ n = few_streams seed size in
    plan_brings c (all_bytes seed size) (omega (arith, size_is)) ∙ counted (bytes_on seed size n) n 0 c within
    ∙ ap (bytes_on seed size n) (let e : 0 + c ≡ c = omega arith in e)
