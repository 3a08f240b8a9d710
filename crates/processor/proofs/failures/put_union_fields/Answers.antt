use Rattle.std.proofs.Common.{◌≡◌, ◌++◌, codes, List, ℕ, subst}
use Rattle.std.specs.Prelude.{OnOk}
use Rattle.processor.proofs.failures.put_union_fields.Goals as goal

pub returns : goal.returns
returns c =
    subst (λ (name : List ℕ). OnOk c.put_named.result (c.put_named.new.into.items ≡ c.args.into.now.items ++ (codes "UnionFields " ++ name))) c.struct_name.ensures c.put_named.ensures
