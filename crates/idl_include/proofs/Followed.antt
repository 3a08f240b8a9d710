-- Includes are followed, one after another.
use Rattle.std.proofs.Common.{◌≡◌, ◌≤◌, ◌<◌, ◌+◌, ℕ, suc, true, false, List, ◌∷◌, length, drop, get_or, Result, Ok, Err, refl, ap, sym, subst, ◌∙◌, arith}
use Rattle.std.specs.Prelude.{IsOk, IsErrAnd, OnOk, MatchResult}
use Rattle.std.specs.Str.{is_utf8}
use Rattle.std.proofs.lemmas.List.{drop_more, at_drop_all}
use Rattle.idl_include.specs.Program.{Program}
use Rattle.idl_include.specs.Loading.{Loaded, and_then, load_includes, load_file}
use Rattle.idl_include.specs.declared.faults.LoadStop.{LoadStop}
use Rattle.idl_include.specs.declared.faults.LoadStop.TheVariants as stops
use Rattle.idl_include.specs.declared.opening.WantedFile.{WantedFile}
use Rattle.idl_include.specs.declared.sources.IdlFile.{IdlFile}
use Rattle.idl_include.specs.SourcesOf.{AreBegun}
use Rattle.idl_include.specs.Begun.{written_in, wanted_in}
use Rattle.idl_include.specs.Steps.{FileReader, LoadStage, file_left, includes_left, include_left, all_loaded, LoadProceeds, LoadEnds, LoadSteps}
use Rattle.idl_include.proofs.Stages.{moves_none, goes_on, goes_from, goes_to, goes_before, ends_on, ends_from, ends_before, steps_on}

pub goes_none : (a : LoadStage) (was : FileReader → Loaded) → AreBegun a.begun → LoadProceeds a a was was
goes_none a was begun = record { moves = moves_none a; longer = omega arith; begun = begun; comes = λ reader r. refl; quiet = refl }

-- the includes behind one
behind_one : ℕ → List (List ℕ) → List ℕ → ℕ → List WantedFile → FileReader → Program → Loaded
behind_one levels above file of wanted reader program = load_includes is_utf8 (load_file is_utf8 reader levels above) above file of (wanted_in wanted) program

one_is : (levels : ℕ) (above now : List (List ℕ)) (file : List ℕ) (of : ℕ) (wanted : List WantedFile) (i : ℕ) (one : WantedFile) (begun : List IdlFile) (reader : FileReader) → i < length wanted
    → one ≡ get_or wanted i one → now ≡ above
    → includes_left levels above file of (wanted_in (drop i wanted)) begun reader
    ≡ and_then (include_left levels now file of (written_in one) begun reader) (behind_one levels above file of (drop (i + 1) wanted) reader)
unfolding behind_one
one_is levels above now file of wanted i one begun reader l is same =
    ap (λ (ws : List WantedFile). includes_left levels above file of (wanted_in ws) begun reader) (drop_more wanted i one l ∙ ap (λ (w : WantedFile). w ∷ drop (i + 1) wanted) (sym is))
    ∙ ap (λ (a : List (List ℕ)). and_then (include_left levels a file of (written_in one) begun reader)
    (λ next. load_includes is_utf8 (load_file is_utf8 reader levels above) above file of (wanted_in (drop (i + 1) wanted)) next)) (sym same)

pub followed_goes : (levels : ℕ) (above now : List (List ℕ)) (file : List ℕ) (of : ℕ) (wanted : List WantedFile) (i : ℕ) (one : WantedFile) (a b c : LoadStage) (was : FileReader → Loaded)
    → i < length wanted → one ≡ get_or wanted i one → now ≡ above
    → LoadProceeds a b was (includes_left levels above file of (wanted_in (drop i wanted)) b.begun)
    → LoadProceeds b c (include_left levels now file of (written_in one) b.begun) (all_loaded c.begun)
    → LoadProceeds a c was (includes_left levels above file of (wanted_in (drop (i + 1) wanted)) c.begun)
unfolding behind_one
followed_goes levels above now file of wanted i one a b c was l is same g h =
    goes_on a b c was (includes_left levels above file of (wanted_in (drop i wanted)) b.begun) (includes_left levels above file of (wanted_in (drop (i + 1) wanted)) c.begun) g
    (goes_from b c (λ reader. and_then (include_left levels now file of (written_in one) b.begun reader) (behind_one levels above file of (drop (i + 1) wanted) reader))
    (includes_left levels above file of (wanted_in (drop i wanted)) b.begun) (includes_left levels above file of (wanted_in (drop (i + 1) wanted)) c.begun)
    (λ reader. one_is levels above now file of wanted i one b.begun reader l is same)
    (goes_before b c (include_left levels now file of (written_in one) b.begun) c.begun (behind_one levels above file of (drop (i + 1) wanted)) h))

pub followed_ends : (levels : ℕ) (above now : List (List ℕ)) (file : List ℕ) (of : ℕ) (wanted : List WantedFile) (i : ℕ) (one : WantedFile) (a b c : LoadStage) (was : FileReader → Loaded) (stop : LoadStop)
    → i < length wanted → one ≡ get_or wanted i one → now ≡ above
    → LoadProceeds a b was (includes_left levels above file of (wanted_in (drop i wanted)) b.begun)
    → LoadEnds b c (include_left levels now file of (written_in one) b.begun) stop
    → LoadEnds a c was stop
followed_ends levels above now file of wanted i one a b c was stop l is same g h =
    ends_on a b c was (includes_left levels above file of (wanted_in (drop i wanted)) b.begun) stop g
    (ends_from b c (λ reader. and_then (include_left levels now file of (written_in one) b.begun reader) (behind_one levels above file of (drop (i + 1) wanted) reader))
    (includes_left levels above file of (wanted_in (drop i wanted)) b.begun) stop
    (λ reader. one_is levels above now file of wanted i one b.begun reader l is same)
    (ends_before b c (include_left levels now file of (written_in one) b.begun) (behind_one levels above file of (drop (i + 1) wanted)) stop h))

pub all_followed : (levels : ℕ) (above : List (List ℕ)) (file : List ℕ) (of : ℕ) (wanted : List WantedFile) (i : ℕ) (a b : LoadStage) (was : FileReader → Loaded) → length wanted ≤ i
    → LoadProceeds a b was (includes_left levels above file of (wanted_in (drop i wanted)) b.begun) → LoadProceeds a b was (all_loaded b.begun)
all_followed levels above file of wanted i a b was l g =
    goes_to a b was (includes_left levels above file of (wanted_in (drop i wanted)) b.begun) (all_loaded b.begun)
    (λ reader. at_drop_all (λ (ws : List WantedFile). includes_left levels above file of (wanted_in ws) b.begun reader) wanted i l) g

-- a file that was begun, and its includes
pub file_steps : {A : Type 0} (levels n : ℕ) (above inside : List (List ℕ)) (name : List ℕ) (of : ℕ) (wanted slice : List WantedFile) (a b c : LoadStage) (result : Result A LoadStop) → levels ≡ suc n
    → of ≡ length a.begun → slice ≡ wanted
    → LoadProceeds a b (file_left (suc n) above name a.begun) (includes_left n inside name (length a.begun) (wanted_in wanted) b.begun)
    → LoadSteps result b c (includes_left n inside name of (wanted_in slice) b.begun) (λ _. all_loaded c.begun)
    → LoadSteps result a c (file_left levels above name a.begun) (λ _. all_loaded c.begun)
file_steps levels n above inside name of wanted slice a b c result e same here g h =
    steps_on a b c (file_left levels above name a.begun) (includes_left n inside name of (wanted_in slice) b.begun) (λ _. all_loaded c.begun) result
    (goes_from a b (file_left (suc n) above name a.begun) (file_left levels above name a.begun) (includes_left n inside name of (wanted_in slice) b.begun)
    (λ reader. ap (λ (k : ℕ). file_left k above name a.begun reader) e)
    (goes_to a b (file_left (suc n) above name a.begun) (includes_left n inside name (length a.begun) (wanted_in wanted) b.begun) (includes_left n inside name of (wanted_in slice) b.begun)
    (λ reader. ap (λ (k : ℕ). includes_left n inside name k (wanted_in wanted) b.begun reader) (sym same)
    ∙ ap (λ (ws : List WantedFile). includes_left n inside name of (wanted_in ws) b.begun reader) (sym here)) g))
    h

-- the same where the levels are counted down, or the names above spelled otherwise
pub ends_at_level : (levels n : ℕ) (above : List (List ℕ)) (name : List ℕ) (a b : LoadStage) (stop : LoadStop) → levels ≡ suc n → LoadEnds a b (file_left (suc n) above name a.begun) stop
    → LoadEnds a b (file_left levels above name a.begun) stop
ends_at_level levels n above name a b stop e h =
    ends_from a b (file_left (suc n) above name a.begun) (file_left levels above name a.begun) stop (λ reader. ap (λ (k : ℕ). file_left k above name a.begun reader) e) h

pub goes_inside : (n : ℕ) (inside other : List (List ℕ)) (name : List ℕ) (of : ℕ) (wanted : List WantedFile) (a b : LoadStage) (was : FileReader → Loaded) → inside ≡ other
    → LoadProceeds a b was (includes_left n other name of (wanted_in wanted) b.begun) → LoadProceeds a b was (includes_left n inside name of (wanted_in wanted) b.begun)
goes_inside n inside other name of wanted a b was e g =
    goes_to a b was (includes_left n other name of (wanted_in wanted) b.begun) (includes_left n inside name of (wanted_in wanted) b.begun)
    (λ reader. ap (λ (names : List (List ℕ)). includes_left n names name of (wanted_in wanted) b.begun reader) (sym e)) g

-- an end that is handed on
pub steps_err : {A : Type 0} (answer : Result A LoadStop) (stop : LoadStop) (a b : LoadStage) (was : FileReader → Loaded) (is : A → FileReader → Loaded) → IsErrAnd answer (λ e. e ≡ stop)
    → LoadEnds a b was stop → LoadSteps answer a b was is
steps_err (Ok x) stop a b was is given h = absurd given
steps_err (Err e) stop a b was is given h = subst (λ (s : LoadStop). LoadEnds a b was s) (sym given) h

-- a step behind which loading goes on, or for which there was no room
pub steps_stopped : {E : Type 0} (step : Result (Unit {0}) E) (answer : Result (Unit {0}) LoadStop) (a b : LoadStage) (was is : FileReader → Loaded) (P : Type 0)
    → MatchResult step (λ _. IsOk answer) (λ _. answer ≡ Err stops.NoMemory) → OnOk step P → LoadEnds a b was stops.NoMemory → (P → LoadProceeds a b was is)
    → LoadSteps answer a b was (λ _. is)
steps_stopped (Ok _) (Ok _) a b was is P s p ends goes = goes p
steps_stopped (Ok _) (Err e) a b was is P s p ends goes = let wrong : false ≡ true = s in absurd (cc wrong)
steps_stopped (Err _) answer a b was is P s p ends goes = subst (λ (r : Result (Unit {0}) LoadStop). LoadSteps r a b was (λ _. is)) (sym s) ends

pub steps_longer : {A : Type 0} (result : Result A LoadStop) (n : ℕ) (b c : LoadStage) (was : FileReader → Loaded) (is : A → FileReader → Loaded) → LoadSteps result b c was is → n < length b.begun
    → OnOk result (n < length c.begun)
steps_longer (Ok done) n b c was is h l = let longer : length b.begun ≤ length c.begun = h.longer in omega (arith, longer, l)
steps_longer (Err stop) n b c was is h l = tt

pub popped : {A : Type 0} (result : Result A LoadStop) (name : List ℕ) (above inside later after : List (List ℕ)) → inside ≡ name ∷ above → OnOk result (later ≡ inside) → after ≡ drop 1 later → OnOk result (after ≡ above)
popped (Ok done) name above inside later after e f g = g ∙ ap (λ (names : List (List ℕ)). drop 1 names) (f ∙ e)
popped (Err stop) name above inside later after e f g = tt
