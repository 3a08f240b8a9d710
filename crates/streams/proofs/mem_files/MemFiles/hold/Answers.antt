use Rattle.std.proofs.Common.{rules, ◌≡◌, None, [], ◌∷◌, ◌++◌, ap, sym, ◌∙◌}
use Rattle.streams.specs.Files.{content_of}
use Rattle.streams.proofs.Placing.{item_behind}
use Rattle.streams.proofs.mem_files.MemFiles.hold.Goals as goal

pub returns : goal.returns
returns c =
    let kept : c.put.new.self ≡ c.args.self.now = search (rules, c.if-put.ensures) in
    let none : content_of c.args.self.now.files c.args.name.now ≡ None = search (rules, c.if-put.ensures) in
    let view_is = c.self.view_is ∙ kept in
    let items : c.push.new.self.items ≡ c.self.inside.files.items ++ (c.in_ok-held.held, c.new-2.result) ∷ [] = search (rules, c.in_ok-push.ensures.items) in
    let behind = item_behind _ c.self.inside.files.items c.args.self.now.files (ap (λ s. s.files) (sym view_is)) c.args.name.now []
    (c.in_ok-held.held, c.new-2.result) c.push.new.self.items items (λ i. record { name = c.in_ok-held.ensures.ok i; bytes = c.new-2.ensures.items i }) none in
    λ i. record {
      files = behind i;
      fails = (view_is i).fails;
      sink_fails = (view_is i).sink_fails;
      call = (view_is i).call;
      faults = (view_is i).faults;
      wants = (view_is i).wants;
      sink_faults = (view_is i).sink_faults;
    }
