-- What is one loop's among keys, jobs and entries.
use Rattle.std.proofs.Common.{◌≡◌, ℕ, ◌+◌, ◌*◌, Bool, true, false, ◌==◌, if◌then◌else◌, List, [], ◌∷◌, ◌++◌, map, filter, refl, sym, ap, ◌∙◌, inl, inr, ◌⊎◌}
use Rattle.std.proofs.lemmas.Bool.{false≢true, cases_eq, false_from_ne_true}
use Rattle.std.proofs.lemmas.Nat.{div-add-mod'}
use Rattle.std.proofs.lemmas.List.{map-append}
use Rattle.std.proofs.lemmas.List.Elements.{filter-append}
use Rattle.host_model.specs.declared.key.Key.{Key}
use Rattle.host_model.specs.Journal.{JournalEntry}
use Rattle.machine_model.specs.HallState.{key_of, is_same, Job, without}
use Rattle.machine_model.proofs.Lists.{own_push, own_push_other, own_first, own_first_other}
use Rattle.machine_model.proofs.Keys.{same_key, is_same_self}
use Rattle.hub_model.specs.HubState.{loop_of_conn, number_in_loop, own_key}
use Rattle.hub_model.specs.Seen.{own_job, own_entry, own_jobs, own_keys, own_entries}

-- connections of one loop with one number there are one
numbers_apart : (n l x y : ℕ) → loop_of_conn n x ≡ l → loop_of_conn n y ≡ l → number_in_loop n x ≡ number_in_loop n y → x ≡ y
numbers_apart n l x y p q e = sym (div-add-mod' x n) ∙ (λ i. e i * n + (p ∙ sym q) i) ∙ div-add-mod' y n

module _ (n l : ℕ) where
  abbrev job_place : Job → ℕ
  job_place j = loop_of_conn n j.key.c

  abbrev key_place : Key → ℕ
  key_place k = loop_of_conn n k.c

  abbrev entry_place : {C A : Type 0} → JournalEntry C A → ℕ
  entry_place e = loop_of_conn n e.key.c

  abbrev ok : Key → Key
  ok key = own_key n key

  abbrev oks : List Key → List Key
  oks keys = own_keys n l keys

  pub jobs_push : (jobs : List Job) (j : Job) → loop_of_conn n j.key.c ≡ l → own_jobs n l (jobs ++ j ∷ []) ≡ own_jobs n l jobs ++ own_job n j ∷ []
  jobs_push jobs j e = ap (map (own_job n)) (own_push job_place l jobs j e) ∙ map-append (own_job n) (filter (λ (x : Job). loop_of_conn n x.key.c == l) jobs) (j ∷ [])

  pub jobs_push_other : (jobs : List Job) (j : Job) → (loop_of_conn n j.key.c ≡ l → ⊥) → own_jobs n l (jobs ++ j ∷ []) ≡ own_jobs n l jobs
  jobs_push_other jobs j other = ap (map (own_job n)) (own_push_other job_place l jobs j other)

  pub jobs_first : (j : Job) (jobs : List Job) → loop_of_conn n j.key.c ≡ l → own_jobs n l (j ∷ jobs) ≡ own_job n j ∷ own_jobs n l jobs
  jobs_first j jobs e = ap (map (own_job n)) (own_first job_place l j jobs e)

  pub jobs_first_other : (j : Job) (jobs : List Job) → (loop_of_conn n j.key.c ≡ l → ⊥) → own_jobs n l (j ∷ jobs) ≡ own_jobs n l jobs
  jobs_first_other j jobs other = ap (map (own_job n)) (own_first_other job_place l j jobs other)

  pub keys_push : (keys : List Key) (k : Key) → loop_of_conn n k.c ≡ l → oks (keys ++ k ∷ []) ≡ oks keys ++ ok k ∷ []
  keys_push keys k e = ap (map ok) (own_push key_place l keys k e) ∙ map-append ok (filter (λ (x : Key). loop_of_conn n x.c == l) keys) (k ∷ [])

  pub keys_push_other : (keys : List Key) (k : Key) → (loop_of_conn n k.c ≡ l → ⊥) → oks (keys ++ k ∷ []) ≡ oks keys
  keys_push_other keys k other = ap (map ok) (own_push_other key_place l keys k other)

  pub keys_first : (k : Key) (keys : List Key) → loop_of_conn n k.c ≡ l → oks (k ∷ keys) ≡ ok k ∷ oks keys
  keys_first k keys e = ap (map ok) (own_first key_place l k keys e)

  pub keys_first_other : (k : Key) (keys : List Key) → (loop_of_conn n k.c ≡ l → ⊥) → oks (k ∷ keys) ≡ oks keys
  keys_first_other k keys other = ap (map ok) (own_first_other key_place l k keys other)

  pub entries_append : {C A : Type 0} (xs ys : List (JournalEntry C A)) → own_entries n l (xs ++ ys) ≡ own_entries n l xs ++ own_entries n l ys
  entries_append {C} {A} xs ys =
      ap (map (own_entry n)) (filter-append (λ (e : JournalEntry C A). loop_of_conn n e.key.c == l) xs ys)
      ∙ map-append (own_entry n) (filter (λ (e : JournalEntry C A). loop_of_conn n e.key.c == l) xs) (filter (λ (e : JournalEntry C A). loop_of_conn n e.key.c == l) ys)

  pub entries_one : {C A : Type 0} (e : JournalEntry C A) → loop_of_conn n e.key.c ≡ l → own_entries n l (e ∷ []) ≡ own_entry n e ∷ []
  entries_one {C} {A} e is = ap (map (own_entry n)) (own_first {X = JournalEntry C A} entry_place l e [] is)

  pub entries_none : {C A : Type 0} (e : JournalEntry C A) → (loop_of_conn n e.key.c ≡ l → ⊥) → own_entries n l (e ∷ []) ≡ []
  entries_none {C} {A} e other = ap (map (own_entry n)) (own_first_other {X = JournalEntry C A} entry_place l e [] other)

  -- a key of another loop that goes leaves this loop's keys
  pub without_other : (key : Key) (keys : List Key) → (loop_of_conn n key.c ≡ l → ⊥) → oks (without key keys) ≡ oks keys
  without_other key [] other = refl
  without_other key (k ∷ keys) other = go (is_same k key) refl (without_other key keys other)
    where
      behind : (loop_of_conn n k.c ≡ l) ⊎ (loop_of_conn n k.c ≡ l → ⊥) → oks (without key keys) ≡ oks keys → oks (k ∷ without key keys) ≡ oks (k ∷ keys)
      behind (inl e) rec = keys_first k (without key keys) e ∙ ap (λ (r : List Key). ok k ∷ r) rec ∙ sym (keys_first k keys e)
      behind (inr m) rec = keys_first_other k (without key keys) m ∙ rec ∙ sym (keys_first_other k keys m)

      go : (b : Bool) → is_same k key ≡ b → oks (without key keys) ≡ oks keys → oks (if b then keys else k ∷ without key keys) ≡ oks (k ∷ keys)
      go true e rec = sym (keys_first_other k keys (λ q. other (ap (λ (x : Key). loop_of_conn n x.c) (sym (same_key k key e)) ∙ q)))
      go false e rec = behind (cases_eq (loop_of_conn n k.c) l) rec

  pub differ : (x y : Key) → loop_of_conn n x.c ≡ l → loop_of_conn n y.c ≡ l → is_same x y ≡ false → is_same (ok x) (ok y) ≡ false
  differ x y p q other =
      false_from_ne_true (is_same (ok x) (ok y))
      (λ h. let e : ok x ≡ ok y = same_key (ok x) (ok y) h in
      let c : x.c ≡ y.c = numbers_apart n l x.c y.c p q (ap (λ (k : Key). k.c) e) in
      let same : x ≡ y = (λ i. key_of (c i) (ap (λ (k : Key). k.i) e i)) in
      false≢true (sym other ∙ ap (λ (k : Key). is_same x k) (sym same) ∙ is_same_self x))

  -- a key of this loop goes from its own
  pub without_own : (key : Key) (keys : List Key) → loop_of_conn n key.c ≡ l → oks (without key keys) ≡ without (ok key) (oks keys)
  without_own key [] p = refl
  without_own key (k ∷ keys) p = go (is_same k key) refl (without_own key keys p)
    where
      behind : (loop_of_conn n k.c ≡ l) ⊎ (loop_of_conn n k.c ≡ l → ⊥) → is_same k key ≡ false → oks (without key keys) ≡ without (ok key) (oks keys) → oks (k ∷ without key keys) ≡ without (ok key) (oks (k ∷ keys))
      behind (inl e) other rec =
          keys_first k (without key keys) e ∙ ap (λ (r : List Key). ok k ∷ r) rec
          ∙ sym (ap (λ (b : Bool). if b then oks keys else ok k ∷ without (ok key) (oks keys)) (differ k key e p other)) ∙ ap (without (ok key)) (sym (keys_first k keys e))
      behind (inr m) other rec = keys_first_other k (without key keys) m ∙ rec ∙ ap (without (ok key)) (sym (keys_first_other k keys m))

      go : (b : Bool) → is_same k key ≡ b → oks (without key keys) ≡ without (ok key) (oks keys) → oks (if b then keys else k ∷ without key keys) ≡ without (ok key) (oks (k ∷ keys))
      go true e rec =
          let same : k ≡ key = same_key k key e in
          let here : loop_of_conn n k.c ≡ l = ap (λ (x : Key). loop_of_conn n x.c) same ∙ p in
          let gone : is_same (ok k) (ok key) ≡ true = ap (λ (x : Key). is_same (ok x) (ok key)) same ∙ is_same_self (ok key) in
          sym (ap (λ (b : Bool). if b then oks keys else ok k ∷ without (ok key) (oks keys)) gone) ∙ ap (without (ok key)) (sym (keys_first k keys here))
      go false e rec = behind (cases_eq (loop_of_conn n k.c) l) e rec
