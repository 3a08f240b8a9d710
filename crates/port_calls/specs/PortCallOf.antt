-- A call that is asked for, from one in memory.
use Rattle.schema.specs.PlainSchema.{PlainSchema}
use Rattle.port_calls.specs.declared.call.PortCall.{PortCall}
use Rattle.port_calls.specs.Calls.{PlainPortCall}

-- a call of a service of a schema
abbrev pub plain_port_call : PlainSchema → PortCall → PlainPortCall
plain_port_call schema call =
    record {
      schema = schema;
      protocol = call.protocol;
      name = call.name.now;
      method = call.method.now;
      args = call.args.now;
      multiplexed = call.multiplexed;
      port = call.port;
    }
