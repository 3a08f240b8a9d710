use Rattle.std.proofs.Common.{◌≡◌, List, sym, subst, rules}
use Rattle.idl_include.specs.Loading.{loaded, program_of}
use Rattle.idl_include.specs.declared.sources.IdlFile.{IdlFile}
use Rattle.idl_include.specs.SourcesOf.{program_in, AreFiles}
use Rattle.idl_include.specs.Loads.{AreRead}
use Rattle.idl_include.proofs.Answered.{at_front, new_at_front, is_loaded, is_stopped, is_read_fault, are_files}
use Rattle.idl_include.proofs.walk.load.Goals as goal

pub load_file-requires : goal.load_file-requires
load_file-requires g c =
    let files = c.new-begun.result.items in
    (search rules, (at_front files c.new-begun.ensures.items, new_at_front c.args.main.now files c.new-begun.ensures.items))

pub returns-in-Ok-clause-told : goal.returns-in-Ok-clause-told
returns-in-Ok-clause-told g c = λ reader t.
    let P : List IdlFile → Type 0 = λ files. (program_of reader c.args.main.now ≡ loaded (program_in files)) × AreRead reader files in
    subst P (sym c.new.ensures) (is_loaded c.args.main.now c.new-above.result.items _ _ reader c.new-above.ensures.items c.new-begun.ensures.items c.in-Ok.ensures.steps t)

pub returns-in-Ok-clause-sound : goal.returns-in-Ok-clause-sound
returns-in-Ok-clause-sound g c =
    subst (λ (files : List IdlFile). AreFiles files) (sym c.new.ensures) (are_files _ _ _ _ c.in-Ok.ensures.steps c.in-Ok.ensures.more)

pub returns-in-Err-At-clause-told : goal.returns-in-Err-At-clause-told
returns-in-Err-At-clause-told g c = λ reader t.
    is_stopped c.args.main.now c.new-above.result.items _ _ reader c.in-Err-At.fault c.in-Err-At.field-0 c.in-Err-At.field-0-is c.new-above.ensures.items c.new-begun.ensures.items c.in-Err-At.ensures.steps t

pub returns-in-Err-At-clause-read : goal.returns-in-Err-At-clause-read
returns-in-Err-At-clause-read g c = λ file.
    is_read_fault c.each_file_is_read_as_one_thing.ensures.some c.args.main.now c.new-above.result.items _ _ c.in-Err-At.fault c.in-Err-At.field-0 c.in-Err-At.field-0-is c.new-above.ensures.items c.new-begun.ensures.items c.in-Err-At.ensures.steps file

pub returns-in-Ok-clause-kept : goal.returns-in-Ok-clause-kept
returns-in-Ok-clause-kept g c = c.in-Ok.ensures.steps.quiet
