-- Lists of bytes and of payloads with one more at the end.
use Rattle.std.proofs.Common.{◌≡◌, ℕ, zero, suc, ◌+◌, ◌<◌, ◌^◌, List, [], ◌∷◌, ◌++◌, length, slice_index, sym, ap, ◌∙◌, arith, add-zero, zero-add}
use Rattle.std.proofs.lemmas.List.{append-nil}
use Rattle.std.specs.List.{enumerate_from, flat_map, AllByRecursion}
use Rattle.std.proofs.lemmas.List.Concat.{flat_map-append}
use Rattle.host_model.specs.Frames.{frame}
use Rattle.conn_state.specs.Run.{EachIsByte}

-- bytes behind bytes are bytes
pub bytes_append : (xs ys : List ℕ) → EachIsByte xs → EachIsByte ys → (i : ℕ) → slice_index (xs ++ ys) i < 2 ^ 8
bytes_append [] ys front back i = back i
bytes_append (x ∷ xs) ys front back zero = front 0
bytes_append (x ∷ xs) ys front back (suc i) = bytes_append xs ys (λ j. front (suc j)) back i

-- what holds of each and of one more
pub AllByRecursion-push : {X : Type 0} (P : X → Type 0) (xs : List X) (x : X) → AllByRecursion P xs → P x → AllByRecursion P (xs ++ x ∷ [])
AllByRecursion-push P [] x all here = (here, tt)
AllByRecursion-push P (y ∷ xs) x all here = (all.0, AllByRecursion-push P xs x all.1 here)

-- numbers for one more
enumerate_from-push : {X : Type 0} (n : ℕ) (xs : List X) (x : X) → enumerate_from n (xs ++ x ∷ []) ≡ enumerate_from n xs ++ (n + length xs, x) ∷ []
enumerate_from-push {X} n [] x = ap (λ (m : ℕ). let pairs : List (ℕ × X) = (m, x) ∷ [] in pairs) (sym (add-zero n))
enumerate_from-push {X} n (y ∷ xs) x =
    let moved : (n + 1) + length xs ≡ n + length (y ∷ xs) = omega arith in
    ap (λ (pairs : List (ℕ × X)). (n, y) ∷ pairs) (enumerate_from-push (n + 1) xs x ∙ ap (λ (m : ℕ). enumerate_from (n + 1) xs ++ (m, x) ∷ []) moved)

-- the payload behind those that were handed out is handed out under their number
pub handed_on : (before : List (List ℕ)) (payload : List ℕ) → enumerate_from 0 (before ++ payload ∷ []) ≡ enumerate_from 0 before ++ (length before, payload) ∷ []
handed_on before payload =
    enumerate_from-push 0 before payload ∙ ap (λ (n : ℕ). enumerate_from 0 before ++ (n, payload) ∷ []) (zero-add (length before))

-- the frames of payloads and of one more
pub frames_on : (payloads : List (List ℕ)) (payload : List ℕ) → flat_map frame payloads ++ frame payload ≡ flat_map frame (payloads ++ payload ∷ []) ++ []
frames_on payloads payload =
    sym (flat_map-append frame payloads (payload ∷ []) ∙ ap (λ (xs : List ℕ). flat_map frame payloads ++ xs) (append-nil (frame payload)))
    ∙ sym (append-nil (flat_map frame (payloads ++ payload ∷ [])))
