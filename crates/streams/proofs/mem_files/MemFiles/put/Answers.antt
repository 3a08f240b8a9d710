use Rattle.std.proofs.Common.{◌<◌, length, arith, refl, ap, sym}
use Rattle.streams.proofs.Placing.{item_within, item_put}
use Rattle.streams.proofs.mem_files.MemFiles.put.Goals as goal

pub index_mut-requires : goal.index_mut-requires
index_mut-requires c =
    let within : c.in-Some.at < length c.self.inside.files.items =
    item_within _ c.self.inside.files.items c.args.self.now.files (ap (λ s. s.files) (sym c.self.view_is)) c.args.name.now c.in-Some.at c.in-Some.ensures in
    omega (arith, within, c.self.inside.files.ok.0)

pub returns : goal.returns
returns c =
    let put = item_put _ c.self.inside.files.items c.args.self.now.files (ap (λ s. s.files) (sym c.self.view_is)) c.args.name.now c.args.bytes.items c.in-Some.at
    c.index_mut.result.now (c.index_mut.result.now.0, c.args.bytes) c.index_mut.ensures.value refl c.in-Some.ensures in
    λ i. record {
      files = put i;
      fails = (c.self.view_is i).fails;
      sink_fails = (c.self.view_is i).sink_fails;
      call = (c.self.view_is i).call;
      faults = (c.self.view_is i).faults;
      wants = (c.self.view_is i).wants;
      sink_faults = (c.self.view_is i).sink_faults;
    }
