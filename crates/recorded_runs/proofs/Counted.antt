-- What is counted from a run of a workload is what is expected of it.
use Rattle.std.proofs.Common.{◌≡◌, ℕ, ℤ, ◌-◌, ◌*◌, ◌^◌, ◌≤◌, ◌≢◌, zero, suc, Bool, true, false, ◌||◌, Some, List, [], ◌∷◌, min, length, slice_get, refl, ap, ◌∙◌, arith}
use Rattle.streams.specs.declared.marks.Mark.{Mark}
use Rattle.host_model.specs.declared.cause.EndCause.{EndCause}
use Rattle.host_model.specs.declared.cause.EndCause.TheVariants.{NoMemory}
use Rattle.std.proofs.lemmas.Option.{none-some, same_Some}
use Rattle.host_model.specs.Marks.{input, output}
use Rattle.call_rules.specs.Entries.{CallEntry}
use Rattle.workload.specs.LoadPlan.{connections_of}
use Rattle.workload.specs.SummaryText.{workload_text, sum_of_answers}
use Rattle.workload.specs.ExpectedRun.{bytes_in, bytes_out, work_text}
use Rattle.workload.specs.Summed.{ComesToSum}
use Rattle.recorded_runs.specs.Summaries.{is_want, some_ran_out}
use Rattle.workload.proofs.Bounds.{read_few, written_few}

-- a count that stands still at its end, of few bytes
counted : (all few count size : ℕ) → all ≡ few → few ≤ 58 * size → size ≤ 1000000 → count ≡ min all (2 ^ 64 - 1) → count ≡ few
counted all few count size is most small e = omega (arith, is, most, small, e)

pub told : (seed size : ℕ) (tape : List Mark) (journal : List CallEntry) (causes : List EndCause) → size ≤ 1000000 → ComesToSum seed size tape journal causes
    → (text : List ℕ) (connections frames calls read written : ℕ) (sum : ℤ) → connections ≡ length causes → frames ≡ size → calls ≡ length journal
    → read ≡ min (length (input tape)) (2 ^ 64 - 1) → written ≡ min (length (output tape)) (2 ^ 64 - 1) → sum ≡ sum_of_answers journal
    → text ≡ workload_text connections frames calls read written sum → text ≡ work_text seed size
told seed size tape journal causes small comes text connections frames calls read written sum a b c d e f is =
    let first : connections ≡ connections_of size = a ∙ comes.connections in
    let third : calls ≡ size = c ∙ comes.calls in
    let few : bytes_in seed size ≤ 58 * size = read_few seed size in
    let less : bytes_out seed size ≤ 33 * size = written_few seed size in
    let fourth : read ≡ bytes_in seed size = counted (length (input tape)) (bytes_in seed size) read size comes.read few small d in
    let fifth : written ≡ bytes_out seed size = counted (length (output tape)) (bytes_out seed size) written size comes.written (omega (arith, less)) small e in
    is ∙ (λ i. workload_text (first i) (b i) (third i) (fourth i) (fifth i) ((f ∙ comes.sum) i))

neither : (a b : Bool) → (a || b) ≡ false → (a ≡ false) × (b ≡ false)
neither true b e = absurd cc
neither false b e = (refl, e)

not_both : (b : Bool) → b ≡ true → b ≡ false → ⊥
not_both true is e = cc
not_both false e is = cc

-- where none is said to have run out of memory, none has
pub none_ran_out : (causes : List EndCause) → some_ran_out causes ≡ false → (c : ℕ) → slice_get causes c ≢ Some NoMemory
none_ran_out [] e c at = none-some NoMemory at
none_ran_out (cause ∷ causes) e zero at = not_both (is_want cause) (ap is_want (same_Some cause NoMemory at)) (neither (is_want cause) (some_ran_out causes) e).0
none_ran_out (cause ∷ causes) e (suc c) at = none_ran_out causes (neither (is_want cause) (some_ran_out causes) e).1 c at
