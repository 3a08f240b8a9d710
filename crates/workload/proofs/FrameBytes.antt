-- The frames of a workload, part by part, and that they are bytes.
use Rattle.std.proofs.Common.{◌≡◌, ℕ, ℤ, pos, zero, suc, ◌+◌, ◌<◌, Bool, true, false, cond, List, [], ◌∷◌, ◌++◌, codes, map, length, refl, sym, ap, subst, ◌∙◌, arith, append_assoc}
use Rattle.std.specs.Int.{w32, to_be_bytes, cast_unsigned}
use Rattle.std.specs.List.{flat_map}
use Rattle.wire_num.specs.Fixed.{signed_bytes}
use Rattle.script_model.specs.ScriptLines.{count_up}
use Rattle.script_text.proofs.Cuts.{all-append}
use Rattle.script_text.proofs.Numbers.{EachByte}
use Rattle.script_text.specs.Sound.{IsKeptScript}
use Rattle.workload.specs.Numbers.{number_at, first_number, second_number}
use Rattle.workload.specs.CallFrames.{call_head, number_field, work_struct, add_frame, subtract_frame, adds, frame_at}
use Rattle.workload.specs.LoadPlan.{connections_of, frames_on, bytes_on, all_bytes, workload_plan}
use Rattle.workload.proofs.Kept.{AllBytes, is_kept}

pub add_laid : (k a b : ℕ) → add_frame k a b ≡ signed_bytes w32 (pos 30) ++ (call_head (codes "add") k ++ (number_field 1 a ++ (number_field 2 b ++ 0 ∷ [])))
unfolding add_frame
add_laid k a b = refl

pub subtract_laid : (k a b : ℕ) → subtract_frame k a b
    ≡ signed_bytes w32 (pos 54) ++ (call_head (codes "calculate") k ++ (number_field 1 k ++ ((12 ∷ 0 ∷ 2 ∷ []) ++ (work_struct a b ++ 0 ∷ []))))
unfolding subtract_frame
subtract_laid k a b = refl

unsigned_each : (n : ℕ) → EachByte (to_be_bytes w32 n)
unsigned_each n = (omega arith, (omega arith, (omega arith, (omega arith, tt))))

signed_each : (z : ℤ) → EachByte (signed_bytes w32 z)
signed_each z = unsigned_each (cast_unsigned w32 z)

both : (xs ys : List ℕ) → EachByte xs → EachByte ys → EachByte (xs ++ ys)
both xs ys = all-append (λ b. b < 256) xs ys

field_each : (id n : ℕ) → id < 256 → EachByte (number_field id n)
field_each id n small = (omega arith, (omega arith, (small, signed_each (pos n))))

head_each : (method : List ℕ) (k : ℕ) → EachByte method → EachByte (call_head method k)
head_each method k each =
    both (128 ∷ 1 ∷ 0 ∷ 1 ∷ []) (signed_bytes w32 (pos (length method)) ++ method ++ signed_bytes w32 (pos k)) (omega arith, (omega arith, (omega arith, (omega arith, tt))))
    (both (signed_bytes w32 (pos (length method)) ++ method) (signed_bytes w32 (pos k)) (both (signed_bytes w32 (pos (length method))) method (signed_each (pos (length method))) each) (signed_each (pos k)))

end_each : EachByte (0 ∷ [])
end_each = (omega arith, tt)

add_each : (k a b : ℕ) → EachByte (add_frame k a b)
add_each k a b =
    let ends : List ℕ = 0 ∷ [] in
    let second : List ℕ = number_field 2 b ++ ends in
    let first : List ℕ = number_field 1 a ++ second in
    subst EachByte (sym (add_laid k a b))
    (both (signed_bytes w32 (pos 30)) (call_head (codes "add") k ++ first) (signed_each (pos 30))
    (both (call_head (codes "add") k) first (head_each (codes "add") k (omega arith, (omega arith, (omega arith, tt))))
    (both (number_field 1 a) second (field_each 1 a (omega arith)) (both (number_field 2 b) ends (field_each 2 b (omega arith)) end_each))))

work_each : (a b : ℕ) → EachByte (work_struct a b)
work_each a b =
    let ends : List ℕ = 0 ∷ [] in
    let third : List ℕ = number_field 3 2 ++ ends in
    both (number_field 1 a) (number_field 2 b ++ third) (field_each 1 a (omega arith))
    (both (number_field 2 b) third (field_each 2 b (omega arith)) (both (number_field 3 2) ends (field_each 3 2 (omega arith)) end_each))

calculate_each : EachByte (codes "calculate")
calculate_each = (omega arith, (omega arith, (omega arith, (omega arith, (omega arith, (omega arith, (omega arith, (omega arith, (omega arith, tt)))))))))

subtract_each : (k a b : ℕ) → EachByte (subtract_frame k a b)
subtract_each k a b =
    let ends : List ℕ = 0 ∷ [] in
    let work : List ℕ = (12 ∷ 0 ∷ 2 ∷ []) ++ (work_struct a b ++ ends) in
    let behind : List ℕ = number_field 1 k ++ work in
    subst EachByte (sym (subtract_laid k a b))
    (both (signed_bytes w32 (pos 54)) (call_head (codes "calculate") k ++ behind) (signed_each (pos 54))
    (both (call_head (codes "calculate") k) behind (head_each (codes "calculate") k calculate_each)
    (both (number_field 1 k) work (field_each 1 k (omega arith))
    (both (12 ∷ 0 ∷ 2 ∷ []) (work_struct a b ++ ends) (omega arith, (omega arith, (omega arith, tt))) (both (work_struct a b) ends (work_each a b) end_each)))))

either_each : (sum : Bool) (xs ys : List ℕ) → EachByte xs → EachByte ys → EachByte (cond sum xs ys)
either_each true xs ys one other = one
either_each false xs ys one other = other

pub frame_each : (seed k : ℕ) → EachByte (frame_at seed k)
frame_each seed k =
    let x : ℕ = number_at seed (k + 1) in
    either_each (adds k) (add_frame k (first_number x) (second_number x)) (subtract_frame k (first_number x) (second_number x))
    (add_each k (first_number x) (second_number x)) (subtract_each k (first_number x) (second_number x))

flat_each : (f : ℕ → List ℕ) → ((k : ℕ) → EachByte (f k)) → (ks : List ℕ) → EachByte (flat_map f ks)
flat_each f each [] = tt
flat_each f each (k ∷ ks) = both (f k) (flat_map f ks) (each k) (flat_each f each ks)

map_each : (f : ℕ → List ℕ) → ((c : ℕ) → EachByte (f c)) → (cs : List ℕ) → AllBytes (map f cs)
map_each f each [] = tt
map_each f each (c ∷ cs) = (each c, map_each f each cs)

counted_size : (f : ℕ → List ℕ) (n from : ℕ) → length (map f (count_up from n)) ≡ n
counted_size f zero from = refl
counted_size f (suc n) from = ap suc (counted_size f n (suc from))

pub streams_are_few : (seed size : ℕ) → length (all_bytes seed size) ≡ connections_of size
streams_are_few seed size = counted_size (bytes_on seed size (connections_of size)) (connections_of size) 0

pub streams_each : (seed size : ℕ) → AllBytes (all_bytes seed size)
streams_each seed size =
    map_each (bytes_on seed size (connections_of size))
    (λ c. flat_each (frame_at seed) (frame_each seed) (frames_on (connections_of size) c size)) (count_up 0 (connections_of size))

pub workload_is_kept : (seed size : ℕ) → IsKeptScript (workload_plan seed size)
workload_is_kept seed size =
    let few : length (all_bytes seed size) ≡ connections_of size = streams_are_few seed size in
    is_kept (all_bytes seed size) (omega (arith, few)) (streams_each seed size)

-- what is appended part by part
two : (old a b : List ℕ) {s t : List ℕ} → s ≡ old ++ a → t ≡ s ++ b → t ≡ old ++ (a ++ b)
two old a b {s} {t} e f = f ∙ ap (λ xs. xs ++ b) e ∙ append_assoc old a b

three : (old a b c : List ℕ) {s t u : List ℕ} → s ≡ old ++ a → t ≡ s ++ b → u ≡ t ++ c → u ≡ old ++ (a ++ (b ++ c))
three old a b c {s} {t} {u} e f g = two old a (b ++ c) e (two s b c f g)

pub four : (old a b c d : List ℕ) {s t u v : List ℕ} → s ≡ old ++ a → t ≡ s ++ b → u ≡ t ++ c → v ≡ u ++ d → v ≡ old ++ (a ++ (b ++ (c ++ d)))
four old a b c d {s} {t} {u} {v} e f g h = two old a (b ++ (c ++ d)) e (three s b c d f g h)

pub five : (old a b c d x : List ℕ) {s t u v w : List ℕ} → s ≡ old ++ a → t ≡ s ++ b → u ≡ t ++ c → v ≡ u ++ d → w ≡ v ++ x
    → w ≡ old ++ (a ++ (b ++ (c ++ (d ++ x))))
five old a b c d x {s} {t} {u} {v} {w} e f g h i = two old a (b ++ (c ++ (d ++ x))) e (four s b c d x f g h i)

pub six : (old a b c d x y : List ℕ) {s t u v w z : List ℕ} → s ≡ old ++ a → t ≡ s ++ b → u ≡ t ++ c → v ≡ u ++ d → w ≡ v ++ x → z ≡ w ++ y
    → z ≡ old ++ (a ++ (b ++ (c ++ (d ++ (x ++ y)))))
six old a b c d x y {s} {t} {u} {v} {w} {z} e f g h i j = two old a (b ++ (c ++ (d ++ (x ++ y)))) e (five s b c d x y f g h i j)
