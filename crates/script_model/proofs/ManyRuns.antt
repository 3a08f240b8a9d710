-- Two runs that one script feeds, with marks of the same kinds on the same connections and with entries of the same connections, are one run.
use Rattle.std.proofs.Common.{◌≡◌, ℕ, suc, ◌+◌, ◌<◌, ◌≤◌, ◌^◌, ◌⊎◌, inl, inr, ◌==◌, Bool, true, false, cond, Option, None, Some, MatchOption, List, [], ◌∷◌, ◌++◌, length, map, take, get_or, slice_get, refl, sym, ap, ◌∙◌, subst, arith, append_assoc, append-nil, eq-eqb, ne_eqb}
use Rattle.std.proofs.lemmas.Bool.{cases_eq, cases_lt}
use Rattle.std.proofs.lemmas.Grind.{flat_map-append}
use Rattle.std.proofs.lemmas.Option.{slice_get-get_or}
use Rattle.streams.specs.declared.marks.Mark.{Mark}
use Rattle.streams.specs.declared.marks.Mark.TheVariants.{Read}
use Rattle.host_model.specs.declared.cause.EndCause.{EndCause}
use Rattle.host_model.specs.declared.cause.EndCause.TheVariants.{End}
use Rattle.host_model.specs.Frames.{Frames}
use Rattle.host_model.specs.Marks.{connection_of, marks_of, read_by, written_by, input, output}
use Rattle.host_model.specs.Journal.{JournalEntry, ServiceRules, Legal, IsAnswered, after_call, entries_of}
use Rattle.host_model.specs.DeskRules.{DeskRules}
use Rattle.host_model.specs.Conversation.{sent}
use Rattle.host_model.specs.Headline.{Headline}
use Rattle.host_model.proofs.Filters.{marks_append}
use Rattle.host_model.proofs.Framing.{only_split}
use Rattle.host_model.proofs.Lists.{append_parts, cons_parts, nil-cons}
use Rattle.script_model.specs.Arrival.{bytes_of_pieces, ends_from}
use Rattle.script_model.specs.Feeding.{TakesItsPart}
use Rattle.script_model.specs.ScriptLines.{PlanRule, takes_most, blocks, fails, ScriptPlan, pieces_on, rule_of}
use Rattle.script_model.specs.Writing.{WritesUnder, KeepsItsRules, writes_in}
use Rattle.script_model.specs.Fed.{IsReadFrom}
use Rattle.script_model.proofs.Marked.{kind_of, same_mark, same_read, same_written}
use Rattle.script_model.proofs.Determined.{IsDone, calls_of, done_of, one_answer, one_length, same_calls}
use Rattle.script_model.proofs.MarkLines.{head_of}

-- what connection c read by these marks
abbrev pub read_on : ℕ → List Mark → List ℕ
read_on c tape = input (marks_of c tape)

read_on_append : (c : ℕ) (xs ys : List Mark) → read_on c (xs ++ ys) ≡ read_on c xs ++ read_on c ys
read_on_append c xs ys = ap input (marks_append c xs ys) ∙ flat_map-append read_by (marks_of c xs) (marks_of c ys)

-- what it read by one mark, which is of this connection or isn't
read_by_one : (here : Bool) (m : Mark) → input (cond here (m ∷ []) []) ≡ cond here (read_by m) []
read_by_one true m = append-nil (read_by m)
read_by_one false m = refl

same_by_one : (c : ℕ) (m n : Mark) → connection_of m ≡ connection_of n → read_by m ≡ read_by n → read_on c (m ∷ []) ≡ read_on c (n ∷ [])
same_by_one c m n own same = read_by_one (connection_of m == c) m ∙ (λ i. cond (own i == c) (same i) []) ∙ sym (read_by_one (connection_of n == c) n)

-- a read at the front of marks
read_first_on : (c : ℕ) (bytes : List ℕ) (back : List Mark) → read_on c (Read c bytes ∷ back) ≡ bytes ++ read_on c back
read_first_on c bytes back = ap (λ b. input (cond b (Read c bytes ∷ marks_of c back) (marks_of c back))) (eq-eqb c c refl)

module _ (max : ℕ) (script : ScriptPlan) (small : max < 2 ^ 31) (tape other : List Mark)
    (x : (c : ℕ) → IsReadFrom max script tape c) (y : (c : ℕ) → IsReadFrom max script other c) where
  abbrev all_bytes : ℕ → List ℕ
  all_bytes c = bytes_of_pieces (pieces_on c script.lines)

  abbrev all_ends : ℕ → List ℕ
  all_ends c = ends_from 0 (pieces_on c script.lines)

  -- all bytes of a connection, with those of one read in sight
  with_read : (c : ℕ) (t : List Mark) → IsReadFrom max script t c → (front back : List Mark) (bytes : List ℕ) → t ≡ front ++ Read c bytes ∷ back
      → (more : List ℕ) × (all_bytes c ≡ read_on c front ++ (bytes ++ more))
  with_read c t from front back bytes e =
      let behind : List ℕ = from.bytes.0 in
      let whole : read_on c t ≡ read_on c front ++ (bytes ++ read_on c back) =
      ap (read_on c) e ∙ read_on_append c front (Read c bytes ∷ back) ∙ ap (λ t. read_on c front ++ t) (read_first_on c bytes back) in (
        read_on c back ++ behind,
        from.bytes.1 ∙ ap (λ t. t ++ behind) whole ∙ append_assoc (read_on c front) (bytes ++ read_on c back) behind
            ∙ ap (λ t. read_on c front ++ t) (append_assoc bytes (read_on c back) behind),
      )

  -- two reads after the same bytes have read the same
  two_reads : (c : ℕ) (f g b d : List Mark) (bytes more : List ℕ) → tape ≡ f ++ Read c bytes ∷ b → other ≡ g ++ Read c more ∷ d
      → read_on c f ≡ read_on c g → bytes ≡ more
  two_reads c f g b d bytes more e h fronts =
      let part = (x c).reads f b bytes e in
      let other_part = (y c).reads g d more h in
      let long : length bytes ≡ length more =
      one_length max (all_ends c) (read_on c g) bytes more small (subst (λ t. TakesItsPart max (all_ends c) t bytes) fronts part) other_part in
      let all = with_read c tape (x c) f b bytes e in
      let all_other = with_read c other (y c) g d more h in
      (append_parts bytes more all.0 all_other.0 long
      (append_parts (read_on c f) (read_on c g) (bytes ++ all.0) (more ++ all_other.0) (ap length fronts) (sym all.1 ∙ all_other.1)).1).0

  -- marks of the same kinds and connections read the same
  pub same_reads_of_many : (f g b d : List Mark) → tape ≡ f ++ b → other ≡ g ++ d → ((c : ℕ) → read_on c f ≡ read_on c g) → map head_of b ≡ map head_of d
      → (c : ℕ) → read_on c b ≡ read_on c d
  same_reads_of_many f g [] [] e h fronts heads c = refl
  same_reads_of_many f g [] (n ∷ d) e h fronts heads c = absurd (nil-cons (head_of n) (map head_of d) heads)
  same_reads_of_many f g (m ∷ b) [] e h fronts heads c = absurd (nil-cons (head_of m) (map head_of b) (sym heads))
  same_reads_of_many f g (m ∷ b) (n ∷ d) e h fronts heads c =
      let p = cons_parts (head_of m) (head_of n) (map head_of b) (map head_of d) heads in
      let kind : kind_of m ≡ kind_of n = ap (λ (t : ℕ × ℕ). t.0) p.0 in
      let own : connection_of m ≡ connection_of n = ap (λ (t : ℕ × ℕ). t.1) p.0 in
      let at = connection_of n in
      let one : read_by m ≡ read_by n =
      same_read at m n kind own refl
      (λ bytes more is is_other. two_reads at f g b d bytes more (e ∙ ap (λ t. f ++ t ∷ b) is) (h ∙ ap (λ t. g ++ t ∷ d) is_other) (fronts at)) in
      let now : (x : ℕ) → read_on x (f ++ m ∷ []) ≡ read_on x (g ++ n ∷ []) =
      (λ x. read_on_append x f (m ∷ []) ∙ (λ i. fronts x i ++ same_by_one x m n own one i) ∙ sym (read_on_append x g (n ∷ []))) in
      let rest : read_on c b ≡ read_on c d =
      same_reads_of_many (f ++ m ∷ []) (g ++ n ∷ []) b d (e ∙ sym (append_assoc f (m ∷ []) b)) (h ∙ sym (append_assoc g (n ∷ []) d)) now p.1 c in
      read_on_append c (m ∷ []) b ∙ (λ i. same_by_one c m n own one i ++ rest i) ∙ sym (read_on_append c (n ∷ []) d)

-- a write after the same marks, with the same entries and under the same rule, has written the same
one_write : {C A : Type 0} (rule : Option PlanRule) (d : DeskRules C A) (es : List (JournalEntry C A)) (marks : List Mark) (bytes more : List ℕ) → d.max < 2 ^ 31
    → WritesUnder rule d es marks bytes → WritesUnder rule d es marks more → bytes ≡ more
one_write None d es marks bytes more small x y =
    let split = only_split d.max (input marks) x.rest y.rest x.payloads y.payloads small x.frames y.frames in
    (append_parts (output marks) (output marks) bytes more refl (x.whole ∙ ap (λ p. sent d es 0 p) split.0 ∙ sym y.whole)).1
one_write (Some (takes_most count)) d es marks bytes more small x y =
    let split = only_split d.max (input marks) x.rest y.rest x.payloads y.payloads small x.frames y.frames in
    let offered : x.offered ≡ y.offered =
    (append_parts (output marks) (output marks) x.offered y.offered refl (x.left ∙ ap (λ p. sent d es 0 p) split.0 ∙ sym y.left)).1 in
    x.part ∙ ap (take count) offered ∙ sym y.part
one_write (Some blocks) d es marks bytes more small x y = absurd x
one_write (Some fails) d es marks bytes more small x y = absurd x

module _ {C A : Type 0} (d : DeskRules C A) (script : ScriptPlan) (small : d.max < 2 ^ 31) (tape other : List Mark) (journal : List (JournalEntry C A))
    (x : (c : ℕ) → IsReadFrom d.max script tape c) (y : (c : ℕ) → IsReadFrom d.max script other c)
    (w : (c : ℕ) → KeepsItsRules d script c (entries_of c journal) tape) (v : (c : ℕ) → KeepsItsRules d script c (entries_of c journal) other) where
  -- marks of the same kinds and connections are the same
  pub same_marks_of_many : (f b g : List Mark) → tape ≡ f ++ b → other ≡ f ++ g → map head_of b ≡ map head_of g → b ≡ g
  same_marks_of_many f [] [] e h heads = refl
  same_marks_of_many f [] (n ∷ g) e h heads = absurd (nil-cons (head_of n) (map head_of g) heads)
  same_marks_of_many f (m ∷ b) [] e h heads = absurd (nil-cons (head_of m) (map head_of b) (sym heads))
  same_marks_of_many f (m ∷ b) (n ∷ g) e h heads =
      let p = cons_parts (head_of m) (head_of n) (map head_of b) (map head_of g) heads in
      let kind : kind_of m ≡ kind_of n = ap (λ (t : ℕ × ℕ). t.0) p.0 in
      let own : connection_of m ≡ connection_of n = ap (λ (t : ℕ × ℕ). t.1) p.0 in
      let at = connection_of n in
      let reads : read_by m ≡ read_by n =
      same_read at m n kind own refl
      (λ bytes more is is_other. two_reads d.max script small tape other x y at f f b g bytes more (e ∙ ap (λ t. f ++ t ∷ b) is) (h ∙ ap (λ t. f ++ t ∷ g) is_other) refl) in
      let writes : written_by m ≡ written_by n =
      same_written at m n kind own refl
      (λ bytes more is is_other. one_write (rule_of script at (writes_in (marks_of at f))) d (entries_of at journal) (marks_of at f) bytes more small
      ((w at).writes f b bytes (e ∙ ap (λ t. f ++ t ∷ b) is)) ((v at).writes f g more (h ∙ ap (λ t. f ++ t ∷ g) is_other))) in
      let one : m ≡ n = same_mark m n kind own reads writes in
      let rest : b ≡ g =
      same_marks_of_many (f ++ m ∷ []) b g (e ∙ sym (append_assoc f (m ∷ []) b))
      (h ∙ ap (λ t. f ++ t ∷ g) (sym one) ∙ sym (append_assoc f (m ∷ []) g)) p.1 in
      (λ i. one i ∷ rest i)

module _ {C A : Type 0} where
  -- the connection of an entry
  abbrev pub conn_of : JournalEntry C A → ℕ
  conn_of e = e.key.c

  -- its call, with the number of its frame
  abbrev call_of : JournalEntry C A → ℕ × C
  call_of e = (e.key.i, e.call)

  -- the calls of a connection's entries, where the first entry is its own or isn't
  calls_here : (c : ℕ) (e : JournalEntry C A) (es : List (JournalEntry C A)) → e.key.c ≡ c → calls_of (entries_of c (e ∷ es)) ≡ call_of e ∷ calls_of (entries_of c es)
  calls_here c e es own = ap (λ b. calls_of (cond b (e ∷ entries_of c es) (entries_of c es))) (eq-eqb e.key.c c own)

  calls_past : (c : ℕ) (e : JournalEntry C A) (es : List (JournalEntry C A)) → (e.key.c ≡ c → ⊥) → calls_of (entries_of c (e ∷ es)) ≡ calls_of (entries_of c es)
  calls_past c e es other = ap (λ b. calls_of (cond b (e ∷ entries_of c es) (entries_of c es))) (ne_eqb e.key.c c other)

  -- how many entries a connection has is told by the connections of all
  length_here : (here : Bool) (e : JournalEntry C A) (es : List (JournalEntry C A)) → length (cond here (e ∷ es) es) ≡ cond here (suc (length es)) (length es)
  length_here true e es = refl
  length_here false e es = refl

  as_many_entries : (c : ℕ) (es fs : List (JournalEntry C A)) → map conn_of es ≡ map conn_of fs → length (entries_of c es) ≡ length (entries_of c fs)
  as_many_entries c [] [] e = refl
  as_many_entries c [] (f ∷ fs) e = absurd (nil-cons (conn_of f) (map conn_of fs) e)
  as_many_entries c (x ∷ es) [] e = absurd (nil-cons (conn_of x) (map conn_of es) (sym e))
  as_many_entries c (x ∷ es) (f ∷ fs) e =
      let p = cons_parts (conn_of x) (conn_of f) (map conn_of es) (map conn_of fs) e in
      let rest : length (entries_of c es) ≡ length (entries_of c fs) = as_many_entries c es fs p.1 in
      length_here (x.key.c == c) x (entries_of c es) ∙ (λ i. cond (p.0 i == c) (suc (rest i)) (rest i)) ∙ sym (length_here (f.key.c == c) f (entries_of c fs))

  -- entries of the same connections, each of which has made the same calls, are the same, since each answer is the service's
  same_entries_of_many : {M : Type 0} (r : ServiceRules C A M) (memories : List M) (es fs : List (JournalEntry C A)) → Legal r memories es → Legal r memories fs
      → map conn_of es ≡ map conn_of fs → ((c : ℕ) → calls_of (entries_of c es) ≡ calls_of (entries_of c fs)) → es ≡ fs
  same_entries_of_many r memories [] [] l k conns calls = refl
  same_entries_of_many r memories [] (f ∷ fs) l k conns calls = absurd (nil-cons (conn_of f) (map conn_of fs) conns)
  same_entries_of_many r memories (e ∷ es) [] l k conns calls = absurd (nil-cons (conn_of e) (map conn_of es) (sym conns))
  same_entries_of_many r memories (e ∷ es) (f ∷ fs) l k conns calls =
      let p = cons_parts (conn_of e) (conn_of f) (map conn_of es) (map conn_of fs) conns in
      let own : e.key.c ≡ f.key.c = p.0 in
      let at = e.key.c in
      let q =
      cons_parts (call_of e) (call_of f) (calls_of (entries_of at es)) (calls_of (entries_of at fs))
      (sym (calls_here at e es refl) ∙ calls at ∙ calls_here at f fs (sym own)) in
      let number : e.key.i ≡ f.key.i = ap (λ (t : ℕ × C). t.0) q.0 in
      let call : e.call ≡ f.call = ap (λ (t : ℕ × C). t.1) q.0 in
      let answered : IsAnswered r memories (record { key = e.key; call = f.call; answer = e.answer }) =
      subst (λ c. MatchOption (slice_get memories (r.slot c)) ⊥ (λ m. e.answer ≡ (r.rule c m).0)) call l.0 in
      let answer : e.answer ≡ f.answer = one_answer (λ m. (r.rule f.call m).0) (slice_get memories (r.slot f.call)) e.answer f.answer answered k.0 in
      let entry : e ≡ f = (λ i. record { key = record { c = own i; i = number i }; call = call i; answer = answer i }) in
      let rest : es ≡ fs =
      same_entries_of_many r (after_call r memories f.call) es fs (subst (λ c. Legal r (after_call r memories c) es) call l.1) k.1 p.1
      (λ x. elim (cases_eq e.key.c x) [
        | inl same ↦ subst (λ c. calls_of (entries_of c es) ≡ calls_of (entries_of c fs)) same q.1
        | inr apart ↦ sym (calls_past x e es apart) ∙ calls x ∙ calls_past x f fs (λ same. apart (own ∙ same))
      ]) in
      (λ i. entry i ∷ rest i)

module _ {C A M : Type 0} (d : DeskRules C A) (r : ServiceRules C A M) (memories : List M) (small : d.max < 2 ^ 31) (tape other : List Mark)
    (journal entries : List (JournalEntry C A)) (causes ends : List EndCause) (x : Headline d r memories tape journal causes) (y : Headline d r memories other entries ends)
    (counts : length causes ≡ length ends) (reads : (c : ℕ) → read_on c tape ≡ read_on c other) (conns : map conn_of journal ≡ map conn_of entries) where
  -- each connection has made the same calls
  calls_on : (c : ℕ) → calls_of (entries_of c journal) ≡ calls_of (entries_of c entries)
  calls_on c = go (cases_lt c (length causes))
    where
      go : (c < length causes) ⊎ (length causes ≤ c) → calls_of (entries_of c journal) ≡ calls_of (entries_of c entries)
      go (inl low) =
          let low_other : c < length ends = omega (arith, low, counts) in
          let cause = get_or causes c End in
          let end = get_or ends c End in
          let t = (x.each c cause (slice_get-get_or causes c End low)).talk in
          let u = (y.each c end (slice_get-get_or ends c End low_other)).talk in
          let split =
          only_split d.max (read_on c other) t.rest u.rest t.payloads u.payloads small (subst (λ b. Frames d.max b t.payloads t.rest) (reads c) t.frames) u.frames in
          let done : IsDone d (entries_of c journal) t.payloads = done_of d t.payloads t.rest (entries_of c journal) (output (marks_of c tape)) cause t.ended in
          let done_other : IsDone d (entries_of c entries) u.payloads = done_of d u.payloads u.rest (entries_of c entries) (output (marks_of c other)) end u.ended in
          same_calls d u.payloads (entries_of c journal) (entries_of c entries) (subst (IsDone d (entries_of c journal)) split.0 done) done_other
          (as_many_entries c journal entries conns)
      go (inr high) = ap calls_of (x.no_entries c high) ∙ sym (ap calls_of (y.no_entries c (omega (arith, high, counts))))

  pub same_journal_of_many : journal ≡ entries
  same_journal_of_many = same_entries_of_many r memories journal entries x.legal y.legal conns calls_on
