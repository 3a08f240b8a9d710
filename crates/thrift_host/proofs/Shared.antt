-- An office may be shared by threads, since each of its parts may, and a journal may be sent to one. A search for all of it at once runs out of steps.
use denote.Param.Send.{IsSend, IsSync, sendable}
use Rattle.std.proofs.vec.Vec.TheSendSync.{the_sync as vec_sync}
use Rattle.std.proofs.boxed.Box.TheSendSync.{the_sync as box_sync}
use Rattle.std.proofs.alloc.Global.TheSendSync.{the_sync as global_sync}
use Rattle.thrift_value.proofs.ByteText.TheSendSync.{the_sync as text_sync}
use Rattle.thrift_value.proofs.tag.Tag.TheSendSync.{the_field_sync as tag_sync}
use Rattle.thrift_value.specs.contracts.value.Value as Value
use Rattle.thrift_value.proofs.value.Value.TheLaws.TheKnot as values
use Rattle.schema.proofs.Listed.TheSendSync.{the_sync as listed_sync}
use Rattle.schema.proofs.types.EnumDesc.TheSendSync.{the_sync as enum_sync}
use Rattle.schema.proofs.types.FieldNeed.TheSendSync.{the_field_sync as need_sync}
use Rattle.schema.proofs.types.FieldsKind.TheSendSync.{the_field_sync as kind_sync}
use Rattle.schema.proofs.types.FileDesc.TheSendSync.{the_sync as file_sync}
use Rattle.schema.proofs.types.TypeDesc.TheLaws.TheKnot as types
use Rattle.schema.specs.contracts.types.AliasDesc as AliasDesc
use Rattle.schema.specs.contracts.types.ConstDesc as ConstDesc
use Rattle.schema.specs.contracts.types.FieldDesc as FieldDesc
use Rattle.schema.specs.contracts.types.FnDesc as FnDesc
use Rattle.schema.specs.contracts.types.Schema as Schema
use Rattle.schema.specs.contracts.types.ServiceDesc as ServiceDesc
use Rattle.schema.specs.contracts.types.StructDesc as StructDesc
use Rattle.schema.specs.contracts.types.TypeDesc as TypeDesc
use Rattle.processor.proofs.bindings.Bindings.TheSendSync.{the_field_sync as bindings_sync}
use Rattle.processor.specs.contracts.office.Office as Office
use Rattle.journal_text.proofs.Sent.{segment_journal_field_send}
use Rattle.thrift_host.specs.contracts.journal.ReportedList as ReportedList

type_sync : IsSync TypeDesc.the_row
type_sync = search (sendable, types.crosses, box_sync, global_sync) depth 12

type_field_sync : IsSync (TypeDesc.the_field).row
type_field_sync = search (sendable, types.crosses, box_sync, global_sync) depth 12

value_sync : IsSync Value.the_row
value_sync = search (sendable, values.crosses, vec_sync, global_sync, text_sync, tag_sync) depth 12

value_field_sync : IsSync (Value.the_field).row
value_field_sync = search (sendable, values.crosses, vec_sync, global_sync, text_sync, tag_sync) depth 12

field_sync : IsSync FieldDesc.the_row
field_sync = search (sendable, text_sync, need_sync, type_field_sync, value_sync) depth 12

struct_sync : IsSync StructDesc.the_row
struct_sync = search (sendable, text_sync, kind_sync, listed_sync, field_sync) depth 12

fn_sync : IsSync FnDesc.the_row
fn_sync = search (sendable, text_sync, type_sync, listed_sync, field_sync) depth 12

service_sync : IsSync ServiceDesc.the_row
service_sync = search (sendable, text_sync, listed_sync, fn_sync) depth 12

alias_sync : IsSync AliasDesc.the_row
alias_sync = search (sendable, text_sync, type_field_sync) depth 12

const_sync : IsSync ConstDesc.the_row
const_sync = search (sendable, text_sync, type_field_sync, value_field_sync) depth 12

schema_sync : IsSync (Schema.the_field).row
schema_sync = search (sendable, listed_sync, file_sync, struct_sync, enum_sync, service_sync, alias_sync, const_sync) depth 12

pub office_sync : IsSync Office.the_row
office_sync = search (sendable, schema_sync, bindings_sync) depth 12

pub reported_send : IsSend ReportedList.the_row
reported_send = search (sendable, segment_journal_field_send) depth 12
