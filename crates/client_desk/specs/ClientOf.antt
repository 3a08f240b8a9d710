-- Who calls, from a client in memory.
use Rattle.schema.specs.SchemaOf.{schema_of}
use Rattle.client_desk.specs.Clients.{PlainClient}
use Rattle.client_desk.specs.declared.client.Client.{Client}

-- a client
abbrev pub plain_client : Client → PlainClient
plain_client c =
    record { schema = schema_of c.schema; service = c.service; name = c.name; protocol = c.protocol; named = c.named; max_frame = c.max_frame }
