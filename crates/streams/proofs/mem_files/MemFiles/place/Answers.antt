use Rattle.std.proofs.Common.{rules, ◌≡◌, ◌<◌, length, true, false, ap, sym}
use Rattle.std.specs.Str.{bytes_eq}
use Rattle.std.specs.String.{string_bytes}
use Rattle.std.proofs.lemmas.Slice.Eq.{bytes_eq-Decides}
use Rattle.streams.proofs.Placing.{first_item, item_passed}
use Rattle.streams.proofs.mem_files.MemFiles.place.Goals as goal

pub returns-then-eq : goal.returns-then-eq
returns-then-eq c =
    let here : c.files.at < length c.self.inside.files.items = search (rules, c.len.ensures, c.files-test.true) in
    let same : bytes_eq (string_bytes c.index.result.now.0) c.args.name.now ≡ true = search (rules, c.as_str.ensures.value, c.eq.ensures, c.if-eq.true, bytes_eq-Decides) in
    first_item _ c.self.inside.files.items c.args.self.now.files (ap (λ s. s.files) (sym c.self.view_is)) c.args.name.now c.files.at c.index.result.now here
    c.index.ensures same c.files.invariant

pub files-preserved : goal.files-preserved
files-preserved c =
    let here : c.files.at < length c.self.inside.files.items = search (rules, c.len.ensures, c.files-test.true) in
    let other : bytes_eq (string_bytes c.index.result.now.0) c.args.name.now ≡ false = search (rules, c.as_str.ensures.value, c.eq.ensures, c.if-eq.false, bytes_eq-Decides) in
    item_passed _ c.self.inside.files.items c.args.self.now.files (ap (λ s. s.files) (sym c.self.view_is)) c.args.name.now c.files.at c.index.result.now here
    c.index.ensures other c.files.invariant
