-- The walk of the grammar stays tied to the bytes as they come.
use Rattle.std.proofs.Common.{◌≡◌, ℕ, ◌+◌, ◌-◌, ◌≤◌, ◌<◌, Bool, true, false, cond, nat_lt, subst, List, [], ◌∷◌, ◌++◌, length, take, drop, refl, sym, ap, ◌∙◌, append_assoc, append-nil, arith}
use Rattle.std.proofs.lemmas.List.{length-append, length-drop, take-append-le, drop-append-le}
use Rattle.std.proofs.Math.Seq.{take-length, take_all, drop-length}
use Rattle.std.proofs.lemmas.Bool.{le-ltb, lt-ltb, ltb-false}
use Rattle.stream_model.specs.declared.fault.StreamFault.TheVariants.{TooLong}
use Rattle.stream_model.specs.Plan.{Plan, needs, message_plan}
use Rattle.stream_model.specs.declared.outcome.MessageProgress.{MessageProgress}
use Rattle.stream_model.specs.declared.outcome.MessageProgress.TheVariants.{Wants, Refused as RefusedAt}
use Rattle.stream_model.specs.Progress.{progress, message_progress}
use Rattle.stream_reader.specs.declared.stage.ReadStage.{ReadStage}
use Rattle.stream_reader.specs.declared.stage.ReadStage.TheVariants.{Head, Body, Whole, Refused}
use Rattle.stream_reader.specs.Stages.{Walked, GoesOnAs, IsNewWalk, walk_plan, stage_plan, stage_next, stage_len, message_stage, decided_at, HasItemBytes}
use Rattle.stream_reader.specs.Reading.{bytes_missing, count_missing}
use Rattle.stream_reader.specs.Tied.{IsTied}

-- what is asked for is the item under way, if there is one
item_plan : (w : Walked) (stage : ReadStage) → 1 ≤ stage_len stage → stage_plan w stage ≡ needs (stage_len stage) (stage_next w stage)
item_plan w (Head item) some = refl
item_plan w (Body item) some = refl
item_plan w Whole some = absurd (let f : ⊥ = omega (arith, some) in f)
item_plan w (Refused fault) some = absurd (let f : ⊥ = omega (arith, some) in f)

-- ---- before the first byte

fresh_if : (most : ℕ) (more : List ℕ) (w : Walked) (b : Bool) → nat_lt most 4 ≡ b → w.most ≡ most → w.at ≡ 0 → w.stage ≡ cond b (Refused TooLong) (message_stage 4)
    → message_progress w.most more ≡ progress w.most w.at (walk_plan w) (drop w.at [] ++ more)
fresh_if most more w true e m a s = let
    long : nat_lt w.most 4 ≡ true = ap (λ (n : ℕ). nat_lt n 4) m ∙ e in
    ap (λ (b : Bool). cond b (RefusedAt 0 TooLong) (cond (nat_lt (length more) 4) (Wants (4 - length more)) (progress w.most 4 (stage_next w (message_stage 4) (take 4 more)) (drop 4 more)))) long
    ∙ ap (λ (n : ℕ). RefusedAt n TooLong) (sym a)
    ∙ ap (λ (t : ReadStage). progress w.most w.at (stage_plan w t) (drop w.at [] ++ more)) (sym s)
fresh_if most more w false e m a s =
    ap (λ (n : ℕ). progress w.most n (message_plan w.most) (drop n [] ++ more)) (sym a)
    ∙ ap (λ (t : ReadStage). progress w.most w.at (stage_plan w t) (drop w.at [] ++ more)) (sym s)

fits_first : (most : ℕ) (b : Bool) → nat_lt most 4 ≡ b → stage_len (cond b (Refused TooLong) (message_stage 4)) ≤ most
fits_first most true e = omega arith
fits_first most false e = ltb-false most 4 e

some_first : (b : Bool) → 1 ≤ stage_len (cond b (Refused TooLong) (message_stage 4)) → 0 < stage_len (cond b (Refused TooLong) (message_stage 4))
some_first true s = omega (arith, s)
some_first false s = omega arith

pub fresh_tied : (most : ℕ) (w : Walked) → IsNewWalk most w → IsTied w []
fresh_tied most w f = let
    first : stage_len w.stage ≡ stage_len (message_stage most) = ap (λ (t : ReadStage). stage_len t) f.stage in
    record {
      at = omega (arith, f.at);
      plan = λ more. fresh_if most more w (nat_lt most 4) refl f.most f.at f.stage;
      fits = let fits : stage_len (message_stage most) ≤ most = fits_first most (nat_lt most 4) refl in omega (arith, f.at, f.most, first, fits);
      missing = λ some. omega (arith, f.at, some);
    }

-- ---- more bytes

-- the bytes go on by the plan as before
grown_plan : (w : Walked) (old bytes more : List ℕ) → IsTied w old
    → message_progress w.most ((old ++ bytes) ++ more) ≡ progress w.most w.at (walk_plan w) (drop w.at (old ++ bytes) ++ more)
grown_plan w old bytes more k =
    ap (λ (t : List ℕ). message_progress w.most t) (append_assoc old bytes more)
    ∙ k.plan (bytes ++ more)
    ∙ ap (λ (t : List ℕ). progress w.most w.at (walk_plan w) t) (sym (append_assoc (drop w.at old) bytes more))
    ∙ ap (λ (t : List ℕ). progress w.most w.at (walk_plan w) (t ++ more)) (sym (drop-append-le w.at old bytes k.at))

-- of the item under way some are missing still
pub grown_tied : (w : Walked) (old bytes all : List ℕ) → IsTied w old → all ≡ old ++ bytes → (1 ≤ stage_len w.stage → length all < w.at + stage_len w.stage) → IsTied w all
grown_tied w old bytes all k e few =
    subst (λ (t : List ℕ). (1 ≤ stage_len w.stage → length t < w.at + stage_len w.stage) → IsTied w t) (sym e)
    (λ less. record {
      at = omega (arith, k.at, length-append old bytes);
      plan = λ more. grown_plan w old bytes more k;
      fits = k.fits;
      missing = less;
    }) few

-- an item that stays within the message, and whose bytes came
item_taken : (most at count : ℕ) (next : List ℕ → Plan) (bytes more : List ℕ) → at + count ≤ most → length bytes ≡ count
    → progress most at (needs count next) (bytes ++ more) ≡ progress most (at + count) (next bytes) more
item_taken most at count next bytes more fits same = let
    plan_behind : List ℕ → List ℕ → MessageProgress = λ front rest. progress most (at + count) (next front) rest in
    let front : take count (bytes ++ more) ≡ bytes = ap (λ (n : ℕ). take n (bytes ++ more)) (sym same) ∙ take-append-le (length bytes) bytes more (omega arith) ∙ take-length bytes in
    let rest : drop count (bytes ++ more) ≡ more = ap (λ (n : ℕ). drop n (bytes ++ more)) (sym same) ∙ drop-append-le (length bytes) bytes more (omega arith) ∙ ap (λ (t : List ℕ). t ++ more) (drop-length bytes) in
    ap (λ (b : Bool). cond b (RefusedAt at TooLong) (cond (nat_lt (length (bytes ++ more)) count) (Wants (count - length (bytes ++ more)))
    (plan_behind (take count (bytes ++ more)) (drop count (bytes ++ more))))) (le-ltb most (at + count) fits)
    ∙ ap (λ (b : Bool). cond b (Wants (count - length (bytes ++ more))) (plan_behind (take count (bytes ++ more)) (drop count (bytes ++ more))))
    (le-ltb (length (bytes ++ more)) count (omega (arith, length-append bytes more, same)))
    ∙ ap (λ (t : List ℕ). plan_behind t (drop count (bytes ++ more))) front
    ∙ ap (λ (t : List ℕ). plan_behind bytes t) rest

-- the item under way is whole, and the walk went on by its bytes
pub stepped_tied : (w new : Walked) (old bytes all item : List ℕ) → IsTied w old → all ≡ old ++ bytes → item ≡ drop w.at all → 1 ≤ stage_len w.stage
    → length all ≡ w.at + stage_len w.stage
    → GoesOnAs (stage_next w w.stage item) new → new.at + stage_len new.stage ≤ new.most → new.most ≡ w.most → new.at ≡ w.at + length item
    → IsTied new all
stepped_tied w new old bytes all item k e i some whole follows fits m a = let
    item_len : length item ≡ stage_len w.stage = ap (λ (t : List ℕ). length t) i ∙ length-drop w.at all ∙ omega (arith, whole) in
    let end : new.at ≡ length all = omega (arith, a, item_len, whole) in
    let none : drop new.at all ≡ [] = ap (λ (n : ℕ). drop n all) end ∙ drop-length all in
    let on : (more : List ℕ) → message_progress w.most (all ++ more) ≡ progress w.most w.at (walk_plan w) (item ++ more) =
    (λ more. ap (λ (t : List ℕ). message_progress w.most (t ++ more)) e ∙ grown_plan w old bytes more k
    ∙ ap (λ (t : List ℕ). progress w.most w.at (walk_plan w) (drop w.at t ++ more)) (sym e)
    ∙ ap (λ (t : List ℕ). progress w.most w.at (walk_plan w) (t ++ more)) (sym i)) in
    record {
      at = omega (arith, end);
      plan = λ more. ap (λ (n : ℕ). message_progress n (all ++ more)) m
          ∙ on more
          ∙ ap (λ (p : Plan). progress w.most w.at p (item ++ more)) (item_plan w w.stage some)
          ∙ item_taken w.most w.at (stage_len w.stage) (stage_next w w.stage) item more k.fits item_len
          ∙ ap (λ (n : ℕ). progress w.most n (stage_next w w.stage item) more) (sym (a ∙ ap (λ (n : ℕ). w.at + n) item_len))
          ∙ ap (λ (n : ℕ). progress n new.at (stage_next w w.stage item) more) (sym m)
          ∙ follows more
          ∙ ap (λ (t : List ℕ). progress new.most new.at (walk_plan new) (t ++ more)) (sym none);
      fits = fits;
      missing = λ more. omega (arith, end, more);
    }

-- the same, with the item's bytes between two places of the bytes as they are seen
pub stepped_between : (w new : Walked) (old bytes all seen : List ℕ) (start end : ℕ) → IsTied w old → all ≡ old ++ bytes → seen ≡ all → start ≡ w.at → end ≡ length all
    → 1 ≤ stage_len w.stage → length all ≡ w.at + stage_len w.stage
    → GoesOnAs (stage_next w w.stage (take (end - start) (drop start seen))) new → new.at + stage_len new.stage ≤ new.most → new.most ≡ w.most
    → new.at ≡ w.at + length (take (end - start) (drop start seen)) → IsTied new all
stepped_between w new old bytes all seen start end k e same s f some whole follows fits m a = let
    len : length (drop start seen) ≡ end - start = length-drop start seen ∙ ap (λ (t : List ℕ). length t - start) same ∙ ap (λ (n : ℕ). n - start) (sym f) in
    let item : take (end - start) (drop start seen) ≡ drop w.at all =
    take_all (end - start) (drop start seen) (omega (arith, len)) ∙ ap (λ (n : ℕ). drop n seen) s ∙ ap (λ (t : List ℕ). drop w.at t) same in
    stepped_tied w new old bytes all (take (end - start) (drop start seen)) k e item some whole follows fits m a

-- ---- what becomes of the bytes

so_far : (w : Walked) (bytes : List ℕ) → IsTied w bytes → message_progress w.most bytes ≡ progress w.most w.at (walk_plan w) (drop w.at bytes)
so_far w bytes k =
    ap (λ (t : List ℕ). message_progress w.most t) (sym (append-nil bytes)) ∙ k.plan [] ∙ ap (λ (t : List ℕ). progress w.most w.at (walk_plan w) t) (append-nil (drop w.at bytes))

item_wants : (most at count : ℕ) (next : List ℕ → Plan) (bytes : List ℕ) → at + count ≤ most → length bytes < count
    → progress most at (needs count next) bytes ≡ Wants (count - length bytes)
item_wants most at count next bytes fits few =
    ap (λ (b : Bool). cond b (RefusedAt at TooLong) (cond (nat_lt (length bytes) count) (Wants (count - length bytes)) (progress most (at + count) (next (take count bytes)) (drop count bytes))))
    (le-ltb most (at + count) fits)
    ∙ ap (λ (b : Bool). cond b (Wants (count - length bytes)) (progress most (at + count) (next (take count bytes)) (drop count bytes))) (lt-ltb (length bytes) count few)

pub some_wanted : (w : Walked) (bytes : List ℕ) → IsTied w bytes → 1 ≤ stage_len w.stage → message_progress w.most bytes ≡ Wants (w.at + stage_len w.stage - length bytes)
some_wanted w bytes k some = let
    rest : length (drop w.at bytes) ≡ length bytes - w.at = length-drop w.at bytes in
    so_far w bytes k
    ∙ ap (λ (p : Plan). progress w.most w.at p (drop w.at bytes)) (item_plan w w.stage some)
    ∙ item_wants w.most w.at (stage_len w.stage) (stage_next w w.stage) (drop w.at bytes) k.fits (omega (arith, rest, k.missing some, k.at))
    ∙ ap (λ (n : ℕ). Wants n) (omega (arith, rest, k.at))

decided_if : (w : Walked) (stage : ReadStage) (bytes : List ℕ) → HasItemBytes stage → stage_len stage ≡ 0 → progress w.most w.at (stage_plan w stage) bytes ≡ decided_at w.at stage
decided_if w (Head item) bytes some none = absurd (let f : ⊥ = omega (arith, some, none) in f)
decided_if w (Body item) bytes some none = absurd (let f : ⊥ = omega (arith, some, none) in f)
decided_if w Whole bytes some none = refl
decided_if w (Refused fault) bytes some none = refl

-- a reading that asks for nothing
pub decided : (w : Walked) (bytes : List ℕ) → IsTied w bytes → HasItemBytes w.stage → stage_len w.stage ≡ 0 → message_progress w.most bytes ≡ decided_at w.at w.stage
decided w bytes k some none = so_far w bytes k ∙ decided_if w w.stage (drop w.at bytes) some none

-- ---- what is missing

pub missing_of_some : (most : ℕ) (bytes : List ℕ) → 1 ≤ length bytes → bytes_missing most bytes ≡ count_missing (message_progress most bytes)
missing_of_some most [] some = absurd (let f : ⊥ = omega (arith, some) in f)
missing_of_some most (byte ∷ bytes) some = refl

wants_is : {m n : ℕ} → Wants m ≡ Wants n → m ≡ n
wants_is e = cc

first_wants : (most : ℕ) (b : Bool) (k : ℕ) → nat_lt most 4 ≡ b → cond b (RefusedAt 0 TooLong) (Wants 4) ≡ Wants k → k ≡ 4
first_wants most true k e same = absurd cc
first_wants most false k e same = sym (wants_is same)

-- bytes that are missing don't pass the item under way
pub not_past : (w : Walked) (old : List ℕ) (count : ℕ) → IsTied w old → 1 ≤ stage_len w.stage → count ≤ bytes_missing w.most old → length old + count ≤ w.at + stage_len w.stage
not_past w [] count k some few = let
    four : w.at + stage_len w.stage - 0 ≡ 4 = first_wants w.most (nat_lt w.most 4) (w.at + stage_len w.stage - 0) refl (some_wanted w [] k some) in
    omega (arith, four, few)
not_past w (byte ∷ bytes) count k some few = let
    same : bytes_missing w.most (byte ∷ bytes) ≡ w.at + stage_len w.stage - length (byte ∷ bytes) = ap (λ (g : MessageProgress). count_missing g) (some_wanted w (byte ∷ bytes) k some) in
    omega (arith, same, few, k.missing some)
