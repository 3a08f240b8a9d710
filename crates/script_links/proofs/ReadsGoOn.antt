-- What calls of links over a script leave, from what is known of a call.
use Rattle.std.proofs.Common.{◌≡◌, ℕ, ◌<◌, Bool, true, false, List, length, sym, subst}
use Rattle.outside.specs.declared.answers.Taken.{Taken}
use Rattle.outside.specs.Reading.{Reads, bytes_read}
use Rattle.script_links.specs.ServedScript.{ServedScript, link_at, is_open_at, is_sound_link}
use Rattle.script_links.specs.Plain.{oldest_of, taken_by_read, left_by_read, MayComeTo, IsFrontOfPiece}
use Rattle.script_links.specs.Shown.{links_told}
use Rattle.script_links.specs.Listens.{failed_or}
use Rattle.outside.specs.Writing.{WritesToConnection}
use Rattle.script_links.specs.Plain.{taken_by_rules, left_by_write}
use Rattle.script_links.proofs.Reading.{reads, reads_failed}
use Rattle.script_links.proofs.Telling.{writes, writes_failed}

pub reads_so : (c : ℕ) (into : List ℕ) (s t : ServedScript) (lent : ℕ) (taken : Taken) → length into ≡ lent → 0 < lent → is_open_at s.links c ≡ true → is_sound_link (link_at s.links c) ≡ true
    → MayComeTo (taken_by_read lent (link_at s.links c)) taken → IsFrontOfPiece taken into (oldest_of (link_at s.links c))
    → t ≡ left_by_read c lent (bytes_read into taken) taken s → Reads c into (links_told s) (links_told t) taken
reads_so c into s t lent taken same room here sound comes front is =
    let P : ℕ → Type 0 = λ n. 0 < n → MayComeTo (taken_by_read n (link_at s.links c)) taken → Reads c into (links_told s) (links_told (left_by_read c n (bytes_read into taken) taken s)) taken in
    subst (λ (x : ServedScript). Reads c into (links_told s) (links_told x) taken) (sym is) (subst P same (λ some own. reads c into s here sound some taken own front) room comes)

-- the same of a read that may be one that is to fail
pub reads_or_fails : (c : ℕ) (into : List ℕ) (s t : ServedScript) (lent : ℕ) (fails : Bool) (taken : Taken) → length into ≡ lent → 0 < lent → is_open_at s.links c ≡ true → is_sound_link (link_at s.links c) ≡ true
    → MayComeTo (failed_or fails (taken_by_read lent (link_at s.links c))) taken → IsFrontOfPiece taken into (oldest_of (link_at s.links c))
    → t ≡ left_by_read c lent (bytes_read into taken) taken s → Reads c into (links_told s) (links_told t) taken
reads_or_fails c into s t lent false taken same room here sound comes front is = reads_so c into s t lent taken same room here sound comes front is
reads_or_fails c into s t lent true taken same room here sound comes front is =
    let P : ℕ → Type 0 = λ n. 0 < n → Reads c into (links_told s) (links_told (left_by_read c n (bytes_read into taken) taken s)) taken in
    subst (λ (x : ServedScript). Reads c into (links_told s) (links_told x) taken) (sym is) (subst P same (λ some. reads_failed c into s here sound some taken comes) room)

-- and of a write
pub writes_or_fails : (c : ℕ) (bytes : List ℕ) (s t : ServedScript) (fails : Bool) (taken : Taken) → is_open_at s.links c ≡ true → is_sound_link (link_at s.links c) ≡ true → 0 < length bytes
    → MayComeTo (failed_or fails (taken_by_rules (length bytes) (link_at s.links c).rules)) taken → t ≡ left_by_write c bytes taken s → WritesToConnection c bytes (links_told s) (links_told t) taken
writes_or_fails c bytes s t false taken here sound some comes is =
    subst (λ (x : ServedScript). WritesToConnection c bytes (links_told s) (links_told x) taken) (sym is) (writes c bytes s here sound some taken comes)
writes_or_fails c bytes s t true taken here sound some comes is =
    subst (λ (x : ServedScript). WritesToConnection c bytes (links_told s) (links_told x) taken) (sym is) (writes_failed c bytes s here sound some taken comes)
