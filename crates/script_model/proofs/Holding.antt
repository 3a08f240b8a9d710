-- What a connection of a rehearsal holds: a beginning of a frame that fits, which goes on with any bytes.
use Rattle.std.proofs.Common.{◌≡◌, ◌≢◌, ℕ, ◌+◌, ◌-◌, ◌<◌, ◌≤◌, ◌⊎◌, Bool, true, false, ◌&&◌, ◌||◌, not, ◌==◌, nat_lt, nat_le, if◌then◌else◌, Option, None, Some, List, [], ◌∷◌, ◌++◌, length, take, drop, get_or, refl, sym, ap, ◌∙◌, subst, inl, inr, arith, length-append, length-take, length-drop}
use Rattle.std.specs.Int.{w32, to_be_bytes, from_be_bytes, cast_signed}
use Rattle.std.proofs.lemmas.Bool.{and_parts, eqb-true, ltb-true, leb-true, lt-ltb, le-ltb, le-leb, eq-eqb, cases_lt}
use Rattle.std.proofs.lemmas.List.{get_or-take, get_or_past, get_or_append_left, get_or-append-add, get_or-drop, take-append-le, take-append-drop}
use Rattle.std.proofs.lemmas.Nat.{be_bytes_4}
use Rattle.std.proofs.lemmas.Option.{none-some, same_Some}
use Rattle.streams.specs.declared.outcomes.Settled.{Settled}
use Rattle.streams.specs.declared.outcomes.Settled.TheVariants.{Reply, Nothing, Close, NoMemory as Lack}
use Rattle.host_model.specs.declared.cause.EndCause.{EndCause}
use Rattle.host_model.specs.declared.cause.EndCause.TheVariants.{Stopped, ReadFault, WriteFault}
use Rattle.host_model.specs.Frames.{frame}
use Rattle.host_model.specs.World.{end_behind}
use Rattle.machine_model.specs.Loop.{LoopConn, new_conn, FrameProgress, part, bad_size, whole, with_cause, read_more, submitted_more, conn_settled}
use Rattle.machine_model.specs.Plain.{when, is_empty, are_same, owes_nothing, is_size, is_whole, is_bad_size, progress_behind, progress_by, stays_in_size, Moved, progress_plain, reads_plain, ends_plain, fails_read_plain, writes_plain, fails_write_plain}
use Rattle.machine_model.specs.AtFronts.{size_in}
use Rattle.script_model.specs.Playing.{kept_while_open}

-- these are bytes
abbrev pub AreBytes : List ℕ → Type 0
AreBytes bytes = (i : ℕ) → get_or bytes i 0 < 256

pub no_bytes : AreBytes []
no_bytes i = subst (λ n. n < 256) (sym (get_or_past [] i 0 (omega arith))) (omega arith)

pub bytes_taken : (n : ℕ) (bytes : List ℕ) → AreBytes bytes → AreBytes (take n bytes)
bytes_taken n bytes are i = go (cases_lt i n)
  where
    go : (i < n) ⊎ (n ≤ i) → get_or (take n bytes) i 0 < 256
    go (inl l) = subst (λ x. x < 256) (sym (get_or-take n bytes i 0 l)) (are i)
    go (inr l) = subst (λ x. x < 256) (sym (get_or_past (take n bytes) i 0 (omega (arith, length-take n bytes)))) (omega arith)

pub bytes_left : (n : ℕ) (bytes : List ℕ) → AreBytes bytes → AreBytes (drop n bytes)
bytes_left n bytes are i = subst (λ x. x < 256) (sym (get_or-drop n bytes i 0)) (are (n + i))

pub bytes_joined : (xs ys : List ℕ) → AreBytes xs → AreBytes ys → AreBytes (xs ++ ys)
bytes_joined xs ys a b i = go (cases_lt i (length xs))
  where
    go : (i < length xs) ⊎ (length xs ≤ i) → get_or (xs ++ ys) i 0 < 256
    go (inl l) = subst (λ x. x < 256) (sym (get_or_append_left xs ys 0 i l)) (a i)
    go (inr l) =
        let e : length xs + (i - length xs) ≡ i = omega arith in
        subst (λ k. get_or (xs ++ ys) k 0 < 256) e (subst (λ x. x < 256) (sym (get_or-append-add xs ys (i - length xs) 0)) (b (i - length xs)))

pub size_long : (bytes : List ℕ) → 4 ≤ length bytes → size_in bytes ≡ from_be_bytes w32 (take 4 bytes)
size_long bytes l = ap (λ b. if b then 0 else from_be_bytes w32 (take 4 bytes)) (le-ltb (length bytes) 4 l)

pub size_more : (held bytes : List ℕ) → 4 ≤ length held → size_in (held ++ bytes) ≡ size_in held
size_more held bytes l =
    size_long (held ++ bytes) (omega (arith, length-append held bytes)) ∙ ap (from_be_bytes w32) (take-append-le 4 held bytes l) ∙ sym (size_long held l)

module _ (max : ℕ) where
  -- bytes of a frame under way: fewer than a size, or a size that a frame has, and less than the frame
  pub record Fits (held : List ℕ) : Type 0 where
    pub bytes : AreBytes held
    pub size : 4 ≤ length held → (1 ≤ size_in held) × (size_in held ≤ max) × (length held < 4 + size_in held)

  -- an admitted size is that of the frame under way on an open connection, or of a payload whose outcome isn't collected
  abbrev pub IsAdmitted : LoopConn → ℕ → Type 0
  IsAdmitted conn size = (conn.cause ≡ None) × ((conn.collected < length conn.payloads) ⊎ ((4 ≤ length conn.held) × (size ≡ size_in conn.held)))

  -- a connection that holds what fits, wasn't stopped, and has this size admitted, or none
  pub record ConnKeeps (conn : LoopConn) (admitted : Option ℕ) : Type 0 where
    pub fits : conn.cause ≡ None → Fits conn.held
    pub unstopped : conn.cause ≢ Some Stopped
    pub admits : (size : ℕ) → admitted ≡ Some size → IsAdmitted conn size

  pub fits_nothing : Fits []
  fits_nothing = record { bytes = no_bytes; size = λ l. absurd (let f : ⊥ = omega arith in f) }

  -- a connection that was just opened
  pub new_keeps : (admitted : Option ℕ) → admitted ≡ None → ConnKeeps new_conn admitted
  new_keeps admitted none =
      record { fits = λ e. fits_nothing; unstopped = λ e. none-some Stopped e; admits = λ size e. absurd (none-some size (sym none ∙ e)) }

  kept : (cause : Option EndCause) (admitted : Option ℕ) (size : ℕ) → kept_while_open cause admitted ≡ Some size → (cause ≡ None) × (admitted ≡ Some size)
  kept None admitted size e = (refl, e)
  kept (Some cause) admitted size e = absurd (none-some size e)

  -- one that has ended
  pub ended_keeps : (conn : LoopConn) (cause : EndCause) (admitted : Option ℕ) → cause ≢ Stopped → admitted ≡ None → ConnKeeps (with_cause conn cause) admitted
  ended_keeps conn cause admitted n none =
      record { fits = λ e. absurd (none-some cause (sym e)); unstopped = λ e. n (same_Some cause Stopped e); admits = λ size e. absurd (none-some size (sym none ∙ e)) }

  -- what it does, where it does something
  abbrev pub GoodMoved : Option ℕ → Moved → Type 0
  GoodMoved admitted None = Unit {0}
  GoodMoved admitted (Some moved) = ConnKeeps moved.0 (kept_while_open moved.0.cause admitted)

  tested : (admitted : Option ℕ) (b : Bool) (moved : Moved) → (b ≡ true → GoodMoved admitted moved) → GoodMoved admitted (when b moved)
  tested admitted true moved g = g refl
  tested admitted false moved g = tt

  end_is_no_stop : (held : List ℕ) → end_behind held ≢ Stopped
  end_is_no_stop [] e = let f : ⊥ = cc in f
  end_is_no_stop (byte ∷ bytes) e = let f : ⊥ = cc in f

  pub ends_keeps : (c : ℕ) (conn : LoopConn) (admitted : Option ℕ) → GoodMoved admitted (ends_plain c conn)
  ends_keeps c conn admitted = tested admitted (owes_nothing conn) _ (λ b. ended_keeps conn (end_behind conn.held) None (end_is_no_stop conn.held) refl)

  pub fails_read_keeps : (c : ℕ) (conn : LoopConn) (admitted : Option ℕ) → GoodMoved admitted (fails_read_plain c conn)
  fails_read_keeps c conn admitted = tested admitted (owes_nothing conn) _ (λ b. ended_keeps conn ReadFault None (λ e. let f : ⊥ = cc in f) refl)

  pub fails_write_keeps : (c : ℕ) (conn : LoopConn) (admitted : Option ℕ) → GoodMoved admitted (fails_write_plain c conn)
  fails_write_keeps c conn admitted = tested admitted (not (is_empty conn.left)) _ (λ b. ended_keeps conn WriteFault None (λ e. let f : ⊥ = cc in f) refl)

  pub writes_keeps : (c count : ℕ) (conn : LoopConn) (admitted : Option ℕ) → ConnKeeps conn admitted → GoodMoved admitted (writes_plain c count conn)
  writes_keeps c count conn admitted k =
      tested admitted (nat_le 1 count && nat_le count (length conn.left)) _
      (λ b. record { fits = k.fits; unstopped = k.unstopped; admits = λ size e. k.admits size (kept conn.cause admitted size e).1 })

  pub submitted_keeps : (conn : LoopConn) (admitted : Option ℕ) → ConnKeeps conn admitted → ConnKeeps (submitted_more conn) admitted
  submitted_keeps conn admitted k = record { fits = k.fits; unstopped = k.unstopped; admits = k.admits }

  -- a size less than a frame's is that of a part
  behind_part : (size : ℕ) (bytes : List ℕ) → progress_behind max size bytes ≡ Some part → (1 ≤ size) × (size ≤ max) × (length (drop 4 bytes) < size)
  behind_part size bytes e = go (is_size max size bytes && nat_lt (length (drop 4 bytes)) size) refl e
    where
      bad : (b : Bool) → when b (Some (bad_size (cast_signed w32 size))) ≡ Some part → ⊥
      bad true f = let g : bad_size (cast_signed w32 size) ≡ part = same_Some (bad_size (cast_signed w32 size)) part f in let h : ⊥ = cc in h
      bad false f = none-some part f

      rest : (b : Bool) → (if b then Some (whole (drop 4 bytes)) else when (is_bad_size max size bytes) (Some (bad_size (cast_signed w32 size)))) ≡ Some part → ⊥
      rest true f = let g : whole (drop 4 bytes) ≡ part = same_Some (whole (drop 4 bytes)) part f in let h : ⊥ = cc in h
      rest false f = bad (is_bad_size max size bytes) f

      go : (b : Bool) → (is_size max size bytes && nat_lt (length (drop 4 bytes)) size) ≡ b
          → (if b then Some part else if is_whole max bytes then Some (whole (drop 4 bytes)) else when (is_bad_size max size bytes) (Some (bad_size (cast_signed w32 size)))) ≡ Some part
          → (1 ≤ size) × (size ≤ max) × (length (drop 4 bytes) < size)
      go true s f =
          let t : (is_size max size bytes ≡ true) × (nat_lt (length (drop 4 bytes)) size ≡ true) = and_parts (is_size max size bytes) (nat_lt (length (drop 4 bytes)) size) s in
          let a : (nat_le 1 size ≡ true) × ((nat_le size max && are_same bytes (to_be_bytes w32 size ++ drop 4 bytes)) ≡ true) =
          and_parts (nat_le 1 size) (nat_le size max && are_same bytes (to_be_bytes w32 size ++ drop 4 bytes)) t.0 in
          let b : (nat_le size max ≡ true) × (are_same bytes (to_be_bytes w32 size ++ drop 4 bytes) ≡ true) = and_parts (nat_le size max) (are_same bytes (to_be_bytes w32 size ++ drop 4 bytes)) a.1 in
          (leb-true 1 size a.0, leb-true size max b.0, ltb-true (length (drop 4 bytes)) size t.1)
      go false s f = absurd (rest (is_whole max bytes) f)

  part_fits : (bytes : List ℕ) → AreBytes bytes → progress_by max bytes ≡ Some part → Fits bytes
  part_fits bytes are e =
      record {
        bytes = are;
        size = λ l. let f : progress_behind max (from_be_bytes w32 (take 4 bytes)) bytes ≡ Some part =
            sym (ap (λ b. if b then Some part else progress_behind max (from_be_bytes w32 (take 4 bytes)) bytes) (le-ltb (length bytes) 4 l)) ∙ e in
            let t : (1 ≤ from_be_bytes w32 (take 4 bytes)) × (from_be_bytes w32 (take 4 bytes) ≤ max) × (length (drop 4 bytes) < from_be_bytes w32 (take 4 bytes)) =
            behind_part (from_be_bytes w32 (take 4 bytes)) bytes f in
            let k : length (drop 4 bytes) ≡ length bytes - 4 = length-drop 4 bytes in
            subst (λ n. (1 ≤ n) × (n ≤ max) × (length bytes < 4 + n)) (sym (size_long bytes l)) (t.0, t.1, shorter (length (drop 4 bytes)) (length bytes) (from_be_bytes w32 (take 4 bytes)) k l t.2);
      }
    where
      shorter : (x n m : ℕ) → x ≡ n - 4 → 4 ≤ n → x < m → n < 4 + m
      shorter x n m e l k = omega arith

  -- what it has read
  pub reads_keeps : (c : ℕ) (bytes : List ℕ) (conn : LoopConn) (admitted : Option ℕ) → conn.cause ≡ None → AreBytes bytes → ConnKeeps conn admitted
      → GoodMoved admitted (reads_plain max c bytes conn)
  reads_keeps c bytes conn admitted open_ are k =
      tested admitted (owes_nothing conn && (not (is_empty bytes) && stays_in_size conn.held bytes)) _
      (λ b. let w : (owes_nothing conn ≡ true) × ((not (is_empty bytes) && stays_in_size conn.held bytes) ≡ true) = and_parts (owes_nothing conn) (not (is_empty bytes) && stays_in_size conn.held bytes) b in
      let v : ((conn.collected == length conn.payloads) ≡ true) × (is_empty conn.left ≡ true) = and_parts (conn.collected == length conn.payloads) (is_empty conn.left) w.0 in
      go (eqb-true conn.collected (length conn.payloads) v.0) (progress_by max (conn.held ++ bytes)) refl)
    where
      again : (size : ℕ) → IsAdmitted conn size → IsAdmitted (read_more conn bytes part) size
      again size a = (a.0, by a.1)
        where
          by : (conn.collected < length conn.payloads) ⊎ ((4 ≤ length conn.held) × (size ≡ size_in conn.held))
              → (conn.collected < length conn.payloads) ⊎ ((4 ≤ length (conn.held ++ bytes)) × (size ≡ size_in (conn.held ++ bytes)))
          by (inl l) = inl l
          by (inr t) = let l : 4 ≤ length conn.held = t.0 in inr (omega (arith, length-append conn.held bytes), t.1 ∙ sym (size_more conn.held bytes l))

      go : conn.collected ≡ length conn.payloads → (progress : Option FrameProgress) → progress_by max (conn.held ++ bytes) ≡ progress → GoodMoved admitted (progress_plain c conn bytes progress)
      go all None e = tt
      go all (Some part) e =
          record {
            fits = λ f. part_fits (conn.held ++ bytes) (bytes_joined conn.held bytes (k.fits open_).bytes are) e;
            unstopped = k.unstopped;
            admits = λ size f. again size (k.admits size (kept conn.cause admitted size f).1);
          }
      go all (Some (bad_size z)) e =
          record { fits = λ f. absurd (none-some _ (sym f)); unstopped = λ f. let g : ⊥ = cc in g; admits = λ size f. absurd (none-some size f) }
      go all (Some (whole payload)) e =
          record {
            fits = λ f. fits_nothing;
            unstopped = k.unstopped;
            admits = λ size f. (open_, inl (omega (arith, length-append conn.payloads (payload ∷ []))));
          }

  -- what it has collected: its size goes back
  pub settled_keeps : (conn : LoopConn) (settled : Settled) (admitted : Option ℕ) → ConnKeeps conn admitted → ConnKeeps (conn_settled conn.cause settled conn) None
  settled_keeps conn settled admitted k = go conn.cause refl settled
    where
      go : (cause : Option EndCause) → conn.cause ≡ cause → (settled : Settled) → ConnKeeps (conn_settled cause settled conn) None
      go None e (Reply reply) = record { fits = k.fits; unstopped = k.unstopped; admits = λ size f. absurd (none-some size f) }
      go None e Nothing = record { fits = k.fits; unstopped = k.unstopped; admits = λ size f. absurd (none-some size f) }
      go None e (Close fault) = record { fits = λ f. absurd (none-some _ (sym f)); unstopped = λ f. let g : ⊥ = cc in g; admits = λ size f. absurd (none-some size f) }
      go None e Lack = record { fits = λ f. absurd (none-some _ (sym f)); unstopped = λ f. let g : ⊥ = cc in g; admits = λ size f. absurd (none-some size f) }
      go (Some cause) e settled = record { fits = k.fits; unstopped = k.unstopped; admits = λ size f. absurd (none-some size f) }

  -- what bytes come to where they go on with what fits, and stay within what is missing
  same_self : (xs : List ℕ) → are_same xs xs ≡ true
  same_self [] = refl
  same_self (x ∷ xs) = ap (λ b. b && are_same xs xs) (eq-eqb x x refl) ∙ same_self xs

  same_by : (xs ys : List ℕ) → xs ≡ ys → are_same xs ys ≡ true
  same_by xs ys e = subst (λ zs. are_same xs zs ≡ true) e (same_self xs)

  both : (a b : Bool) → a ≡ true → b ≡ true → (a && b) ≡ true
  both true true e f = refl
  both true false e f = f
  both false b e f = e

  -- the first four bytes are those of their number
  back : (bytes : List ℕ) → AreBytes bytes → 4 ≤ length bytes → bytes ≡ to_be_bytes w32 (from_be_bytes w32 (take 4 bytes)) ++ drop 4 bytes
  back bytes are l =
      sym (take-append-drop 4 bytes) ∙ ap (λ xs. xs ++ drop 4 bytes) (sym (be_bytes_4 (take 4 bytes) (from_be_bytes w32 (take 4 bytes)) (omega (arith, length-take 4 bytes)) (bytes_taken 4 bytes are) refl))

  fits_32 : (bytes : List ℕ) → AreBytes bytes → from_be_bytes w32 bytes < 4294967296
  fits_32 bytes are = omega (arith, are 0, are 1, are 2, are 3)

  some_behind : (a b e : Bool) (x y z : FrameProgress) → (a ≡ true) ⊎ ((b ≡ true) ⊎ (e ≡ true)) → (if a then Some x else if b then Some y else when e (Some z)) ≢ None
  some_behind true b e x y z t f = none-some x (sym f)
  some_behind false true e x y z t f = none-some y (sym f)
  some_behind false false true x y z t f = none-some z (sym f)
  some_behind false false false x y z (inl t) f = let g : ⊥ = cc in g
  some_behind false false false x y z (inr (inl t)) f = let g : ⊥ = cc in g
  some_behind false false false x y z (inr (inr t)) f = let g : ⊥ = cc in g

  -- so much behind the first four bytes may be there
  abbrev MayStand : ℕ → ℕ → Type 0
  MayStand size behind = ((1 ≤ size) × (size ≤ max) × (behind ≤ size)) ⊎ (((size ≡ 0) ⊎ (max < size)) × (behind ≡ 0))

  may_progress : (bytes : List ℕ) → AreBytes bytes → 4 ≤ length bytes → MayStand (from_be_bytes w32 (take 4 bytes)) (length (drop 4 bytes))
      → progress_behind max (from_be_bytes w32 (take 4 bytes)) bytes ≢ None
  may_progress bytes are l may = some_behind _ _ _ part (whole (drop 4 bytes)) (bad_size (cast_signed w32 size)) (go may)
    where
      size : ℕ
      size = from_be_bytes w32 (take 4 bytes)

      p : List ℕ
      p = drop 4 bytes

      same : bytes ≡ to_be_bytes w32 size ++ p
      same = back bytes are l

      sized : 1 ≤ size → size ≤ max → is_size max size bytes ≡ true
      sized a b = both (nat_le 1 size) _ (le-leb 1 size a) (both (nat_le size max) _ (le-leb size max b) (same_by bytes (to_be_bytes w32 size ++ p) same))

      whole_is : size ≡ length p → 1 ≤ size → size ≤ max → is_whole max bytes ≡ true
      whole_is e a b =
          both (nat_le 1 (length p)) _ (le-leb 1 (length p) (omega arith))
          (both (nat_le (length p) max) _ (le-leb (length p) max (omega arith)) (same_by bytes (frame p) (same ∙ ap (λ n. to_be_bytes w32 n ++ p) e)))

      bad_is : (size ≡ 0) ⊎ (max < size) → p ≡ [] → is_bad_size max size bytes ≡ true
      bad_is o e =
          both (size == 0 || nat_lt max size) _ (outside o)
          (both (nat_lt size 4294967296) _ (lt-ltb size 4294967296 (fits_32 (take 4 bytes) (bytes_taken 4 bytes are)))
          (same_by bytes (to_be_bytes w32 size) (same ∙ ap (λ q. to_be_bytes w32 size ++ q) e)))
        where
          or_right : (a b : Bool) → b ≡ true → (a || b) ≡ true
          or_right true b f = refl
          or_right false b f = f

          outside : (size ≡ 0) ⊎ (max < size) → (size == 0 || nat_lt max size) ≡ true
          outside (inl f) = ap (λ b. b || nat_lt max size) (eq-eqb size 0 f)
          outside (inr f) = or_right (size == 0) (nat_lt max size) (lt-ltb max size f)

      nothing : (xs : List ℕ) → length xs ≡ 0 → xs ≡ []
      nothing [] e = refl
      nothing (x ∷ xs) e = absurd (let f : ⊥ = omega arith in f)

      go : MayStand size (length p) → ((is_size max size bytes && nat_lt (length p) size) ≡ true) ⊎ ((is_whole max bytes ≡ true) ⊎ (is_bad_size max size bytes ≡ true))
      go (inl t) = by (cases_lt (length p) size)
        where
          by : (length p < size) ⊎ (size ≤ length p) → ((is_size max size bytes && nat_lt (length p) size) ≡ true) ⊎ ((is_whole max bytes ≡ true) ⊎ (is_bad_size max size bytes ≡ true))
          by (inl k) = inl (both (is_size max size bytes) (nat_lt (length p) size) (sized t.0 t.1) (lt-ltb (length p) size k))
          by (inr k) = let m : length p ≤ size = t.2 in inr (inl (whole_is (omega arith) t.0 t.1))
      go (inr t) = inr (inr (bad_is t.0 (nothing p t.1)))

  -- so many bytes may be read behind what is held
  abbrev pub MayRead : List ℕ → ℕ → Type 0
  MayRead held count = ((length held < 4) × (length held + count ≤ 4)) ⊎ ((4 ≤ length held) × (length held + count ≤ 4 + size_in held))

  -- what fits goes on with so many bytes
  pub goes_on : (held bytes : List ℕ) → Fits held → AreBytes bytes → MayRead held (length bytes) → progress_by max (held ++ bytes) ≢ None
  goes_on held bytes fits are may e = go (cases_lt (length (held ++ bytes)) 4)
    where
      all : List ℕ
      all = held ++ bytes

      many : length all ≡ length held + length bytes
      many = length-append held bytes

      stands : 4 ≤ length all → MayRead held (length bytes) → MayStand (from_be_bytes w32 (take 4 all)) (length (drop 4 all))
      stands l (inl t) = by (cases_lt 0 size) (cases_lt max size)
        where
          size : ℕ
          size = from_be_bytes w32 (take 4 all)

          none : length (drop 4 all) ≡ 0
          none = let a : length held + length bytes ≤ 4 = t.1 in let m : length all ≡ length held + length bytes = many in omega (arith, length-drop 4 all)

          by : (0 < size) ⊎ (size ≤ 0) → (max < size) ⊎ (size ≤ max) → MayStand size (length (drop 4 all))
          by (inl a) (inr b) = inl (a, b, omega (arith, none))
          by a (inl b) = inr (inr b, none)
          by (inr a) b = inr (inl (omega arith), none)
      stands l (inr t) =
          let h : 4 ≤ length held = t.0 in
          let s : (1 ≤ size_in held) × (size_in held ≤ max) × (length held < 4 + size_in held) = fits.size h in
          let same : size_in held ≡ from_be_bytes w32 (take 4 all) = sym (size_more held bytes h) ∙ size_long all l in
          let within : length held + length bytes ≤ 4 + size_in held = t.1 in
          let few : length (drop 4 all) ≤ size_in held = fewer (length (drop 4 all)) (length all) (length held) (length bytes) (size_in held) (length-drop 4 all) many within in
          subst (λ n. MayStand n (length (drop 4 all))) same (inl (s.0, s.1, few))
        where
          fewer : (x n a b m : ℕ) → x ≡ n - 4 → n ≡ a + b → a + b ≤ 4 + m → x ≤ m
          fewer x n a b m e f l = omega arith

      go : (length all < 4) ⊎ (4 ≤ length all) → ⊥
      go (inl l) = none-some part (sym e ∙ ap (λ b. if b then Some part else progress_behind max (from_be_bytes w32 (take 4 all)) all) (lt-ltb (length all) 4 l))
      go (inr l) =
          may_progress all (bytes_joined held bytes fits.bytes are) l (stands l may)
          (sym (ap (λ b. if b then Some part else progress_behind max (from_be_bytes w32 (take 4 all)) all) (le-ltb (length all) 4 l)) ∙ e)
