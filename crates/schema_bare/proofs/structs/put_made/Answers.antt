use Rattle.std.proofs.Common.{rules}
use Rattle.schema.specs.SchemaOf.{plain_struct}
use Rattle.check_model.specs.SchemaParts.{NoDefault, IsStructFrom}
use Rattle.schema_bare.proofs.Adding.{adds_one, read_ok}
use Rattle.schema_bare.proofs.structs.put_made.Goals as goal

pub returns : goal.returns
returns c = λ program d is.
    adds_one program d c.in_ok-one.one c.args.structs.now.items c.push.new.self.items (search (rules, c.in_ok-push.ensures.items))
    (read_ok (λ one. IsStructFrom NoDefault program d (plain_struct one)) c.args.made c.in_ok-one.one c.in_ok-one.was is)
