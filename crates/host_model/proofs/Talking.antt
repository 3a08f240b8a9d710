-- What holds of a connection at each stage: of its frames, its marks, its turns, and of what it was sent.
use Rattle.std.proofs.Common.{◌≡◌, ◌≢◌, ℕ, ◌<◌, ◌≤◌, ◌⊎◌, List, [], ◌∷◌, ◌++◌, length, refl, sym, ap, ◌∙◌, subst, inl, inr, arith, append-nil}
use Rattle.std.specs.List.{AllByRecursion}
use Rattle.std.proofs.lemmas.Grind.{flat_map-append}
use Rattle.streams.specs.declared.marks.Mark.{Mark}
use Rattle.streams.specs.declared.marks.Mark.TheVariants.{Opened}
use Rattle.host_model.specs.declared.cause.EndCause.{EndCause}
use Rattle.host_model.specs.declared.cause.EndCause.TheVariants.{End, Cut, SizeFault, Envelope, ReadFault, WriteFault, NoMemory, Stopped}
use Rattle.host_model.specs.Frames.{Frames, HasNoBadSize}
use Rattle.host_model.specs.Marks.{Marks, input, output, read_by, written_by, IsTransfer, ending}
use Rattle.host_model.specs.Journal.{JournalEntry}
use Rattle.host_model.specs.DeskRules.{DeskRules}
use Rattle.host_model.specs.Conversation.{but_last, sent, Done, IsPrefix, AllKeepConnection, EndsBy}
use Rattle.host_model.specs.World.{Stage, unopened, open_, pending, answered, over, over_pending, IsGivenUp, Endpoint}
use Rattle.host_model.proofs.Lists.{Always, always-append, front_nil, length-but_last, all_push}
use Rattle.host_model.proofs.Replies.{numbers_done}
use Rattle.host_model.proofs.Turning.{TurnSoFar, turn_later, turn_quiet}

-- every payload is settled, and left is what isn't written of the last reply
pub record IsOpen {C A : Type 0} (d : DeskRules C A) (es : List (JournalEntry C A)) (out : List ℕ) (ps : List (List ℕ)) (held left : List ℕ) : Type 0 where
  pub on : AllKeepConnection d ps
  pub done : Done d es ps
  pub size : HasNoBadSize d.max held
  pub sends : sent d es 0 ps ≡ out ++ left
  pub most : IsPrefix (sent d es 0 (but_last ps)) out
  pub none : left ≢ [] → held ≡ []

-- the last payload has no reply yet
pub record IsWaiting {C A : Type 0} (d : DeskRules C A) (es : List (JournalEntry C A)) (out : List ℕ) (ps : List (List ℕ)) (held : List ℕ) : Type 0 where
  pub on : AllKeepConnection d (but_last ps)
  pub none : held ≡ []
  pub written : out ≡ sent d es 0 (but_last ps)

-- nothing has happened
pub record IsUnopened {C A : Type 0} (es : List (JournalEntry C A)) (out : List ℕ) (ps : List (List ℕ)) (held : List ℕ) : Type 0 where
  pub no_entries : es ≡ []
  pub no_output : out ≡ []
  pub no_payloads : ps ≡ []
  pub no_rest : held ≡ []

-- what the stage says
abbrev pub Says : {C A : Type 0} → DeskRules C A → List (JournalEntry C A) → List ℕ → List (List ℕ) → List ℕ → Stage → Type 0
Says d es out ps held unopened = IsUnopened es out ps held
Says d es out ps held (open_ left) = IsOpen d es out ps held left
Says d es out ps held pending = IsWaiting d es out ps held × Done d es (but_last ps)
Says d es out ps held answered = IsWaiting d es out ps held × Done d es ps × AllKeepConnection d ps
Says d es out ps held (over cause) = AllKeepConnection d (but_last ps) × EndsBy d ps held es out cause
Says d es out ps held (over_pending cause) = IsGivenUp cause × IsWaiting d es out ps held × Done d es (but_last ps)

-- the marks of a connection that has been opened and hasn't ended
pub record IsRunning (c : ℕ) (own : List Mark) : Type 0 where
  pub transfers : List Mark
  pub shape : own ≡ Opened c ∷ transfers
  pub only : AllByRecursion IsTransfer transfers

-- the marks that the stage allows
abbrev pub Shape : ℕ → List Mark → Stage → Type 0
Shape c own unopened = own ≡ []
Shape c own (over cause) = Marks c own cause
Shape c own (over_pending cause) = Marks c own cause
Shape c own (open_ left) = IsRunning c own
Shape c own pending = IsRunning c own
Shape c own answered = IsRunning c own

-- how many payloads have had their say
abbrev pub settled : List (List ℕ) → Stage → ℕ
settled ps pending = length (but_last ps)
settled ps (over_pending cause) = length (but_last ps)
settled ps unopened = length ps
settled ps (open_ left) = length ps
settled ps answered = length ps
settled ps (over cause) = length ps

-- a connection's marks, entries, payloads, held bytes and stage are one conversation so far
pub record Kept {C A : Type 0} (d : DeskRules C A) (c : ℕ) (own : List Mark) (es : List (JournalEntry C A)) (ps : List (List ℕ)) (held : List ℕ) (stage : Stage) : Type 0 where
  pub frames : Frames d.max (input own) ps held
  pub says : Says d es (output own) ps held stage
  pub shape : Shape c own stage
  pub turns : Always (TurnSoFar d es (settled ps stage)) own

abbrev pub KeptEndpoint : {C A : Type 0} → DeskRules C A → ℕ → List Mark → List (JournalEntry C A) → Endpoint → Type 0
KeptEndpoint d c own es endpoint = Kept d c own es endpoint.payloads endpoint.held endpoint.stage

-- one more mark adds its bytes
pub input_push : (own : List Mark) (m : Mark) → input (own ++ m ∷ []) ≡ input own ++ read_by m
input_push own m = flat_map-append read_by own (m ∷ []) ∙ ap (λ r. input own ++ r) (append-nil (read_by m))

pub output_push : (own : List Mark) (m : Mark) → output (own ++ m ∷ []) ≡ output own ++ written_by m
output_push own m = flat_map-append written_by own (m ∷ []) ∙ ap (λ r. output own ++ r) (append-nil (written_by m))

-- marks without bytes add none
pub input_quiet : (own more : List Mark) → input more ≡ [] → input (own ++ more) ≡ input own
input_quiet own more e = flat_map-append read_by own more ∙ ap (λ r. input own ++ r) e ∙ append-nil (input own)

pub output_quiet : (own more : List Mark) → output more ≡ [] → output (own ++ more) ≡ output own
output_quiet own more e = flat_map-append written_by own more ∙ ap (λ r. output own ++ r) e ∙ append-nil (output own)

no_input : (c : ℕ) (cause : EndCause) → input (ending c cause) ≡ []
no_input c End = refl
no_input c Cut = refl
no_input c (SizeFault z) = refl
no_input c (Envelope fault) = refl
no_input c ReadFault = refl
no_input c WriteFault = refl
no_input c NoMemory = refl
no_input c Stopped = refl

no_output : (c : ℕ) (cause : EndCause) → output (ending c cause) ≡ []
no_output c End = refl
no_output c Cut = refl
no_output c (SizeFault z) = refl
no_output c (Envelope fault) = refl
no_output c ReadFault = refl
no_output c WriteFault = refl
no_output c NoMemory = refl
no_output c Stopped = refl

-- the marks of a running connection, and one more move
pub running_push : (c : ℕ) (own : List Mark) (m : Mark) → IsTransfer m → IsRunning c own → IsRunning c (own ++ m ∷ [])
running_push c own m transfer r =
    record { transfers = r.transfers ++ m ∷ []; shape = ap (λ s. s ++ m ∷ []) r.shape; only = all_push IsTransfer r.transfers m r.only transfer }

-- the marks of a running connection that ends
marks_ended : (c : ℕ) (own : List Mark) (cause : EndCause) → IsRunning c own → Marks c (own ++ ending c cause) cause
marks_ended c own cause r = record { transfers = r.transfers; shape = ap (λ s. s ++ ending c cause) r.shape; only = r.only }

module _ {C A : Type 0} (d : DeskRules C A) where
  -- turns stay while marks without bytes are added
  pub turns_quiet : (es : List (JournalEntry C A)) (n : ℕ) (own more : List Mark) → input more ≡ [] → output more ≡ []
      → Always (TurnSoFar d es n) own → Always (TurnSoFar d es n) (own ++ more)
  turns_quiet es n own more i o a =
      always-append (TurnSoFar d es n) own more a
      (λ ts bs e.
      let x : input ts ≡ [] = front_nil (input ts) (input bs) (sym (ap input e ∙ flat_map-append read_by ts bs) ∙ i) in
      let y : output ts ≡ [] = front_nil (output ts) (output bs) (sym (ap output e ∙ flat_map-append written_by ts bs) ∙ o) in
      turn_quiet d es n own (own ++ ts) (input_quiet own ts x) (output_quiet own ts y) (a own [] (sym (append-nil own))))

  pub turns_later : (es : List (JournalEntry C A)) (n m : ℕ) (own : List Mark) → n ≤ m → Always (TurnSoFar d es n) own → Always (TurnSoFar d es m) own
  turns_later es n m own l a front back e = turn_later d es n m front l (a front back e)

  -- a running connection ends with a cause
  pub kept_ending : (c : ℕ) (own : List Mark) (es : List (JournalEntry C A)) (ps : List (List ℕ)) (held : List ℕ) (n : ℕ) (cause : EndCause) (new : Stage)
      → Frames d.max (input own) ps held → IsRunning c own → Always (TurnSoFar d es n) own → n ≤ settled ps new
      → Says d es (output own) ps held new → (Marks c (own ++ ending c cause) cause → Shape c (own ++ ending c cause) new)
      → Kept d c (own ++ ending c cause) es ps held new
  kept_ending c own es ps held n cause new frames running turns l says shape =
      record {
        frames = subst (λ r. Frames d.max r ps held) (sym (input_quiet own (ending c cause) (no_input c cause))) frames;
        says = subst (λ r. Says d es r ps held new) (sym (output_quiet own (ending c cause) (no_output c cause))) says;
        shape = shape (marks_ended c own cause running);
        turns = turns_quiet es (settled ps new) own (ending c cause) (no_input c cause) (no_output c cause) (turns_later es n (settled ps new) own l turns);
      }

  ends_done : (es : List (JournalEntry C A)) (out : List ℕ) (ps : List (List ℕ)) (held : List ℕ) (cause : EndCause) → EndsBy d ps held es out cause → Done d es ps ⊎ Done d es (but_last ps)
  ends_done es out ps held End r = inl r.2.done
  ends_done es out ps held Cut r = inl r.3.done
  ends_done es out ps held (SizeFault z) r = inl r.3.done
  ends_done es out ps held (Envelope fault) r = inl r.2.done
  ends_done es out ps held ReadFault r = inl r.2.done
  ends_done es out ps held WriteFault r = inl r.2
  ends_done es out ps held NoMemory r = r.done
  ends_done es out ps held Stopped r = r.done

  says_done : (es : List (JournalEntry C A)) (out : List ℕ) (ps : List (List ℕ)) (held : List ℕ) (stage : Stage) → Says d es out ps held stage → Done d es ps ⊎ Done d es (but_last ps)
  says_done es out ps held unopened s = inl (subst (λ r. Done d r ps) (sym s.no_entries) (subst (λ r. Done d [] r) (sym s.no_payloads) refl))
  says_done es out ps held (open_ left) s = inl s.done
  says_done es out ps held pending s = inr s.1
  says_done es out ps held answered s = inl s.1
  says_done es out ps held (over cause) s = ends_done es out ps held cause s.1
  says_done es out ps held (over_pending cause) s = inr s.2

  -- the entries have the payloads' numbers
  pub numbers_kept : (es : List (JournalEntry C A)) (out : List ℕ) (ps : List (List ℕ)) (held : List ℕ) (stage : Stage) → Says d es out ps held stage
      → AllByRecursion (λ (e : JournalEntry C A). e.key.i < length ps) es
  numbers_kept es out ps held stage s = go (says_done es out ps held stage s)
    where
      go : Done d es ps ⊎ Done d es (but_last ps) → AllByRecursion (λ (e : JournalEntry C A). e.key.i < length ps) es
      go (inl a) = numbers_done d (length ps) es ps (let l : length ps ≤ length ps = omega arith in l) a
      go (inr b) = numbers_done d (length ps) es (but_last ps) (length-but_last ps) b
