-- What holds of every office in memory.
use Rattle.call_rules.specs.Desks.{IsDesk}
use Rattle.call_model.specs.Desk.{desk_of}
use Rattle.call_model.proofs.SoundAgain.{sound_again}
use Rattle.call_model.proofs.AsDesk.{sound_desk}
use Rattle.processor.specs.declared.office.Office.{Office}
use Rattle.processor.specs.Offices.{plain_office}

-- it is a desk
pub office_holds : (office : Office) → IsDesk (desk_of (plain_office office))
office_holds office = sound_desk (plain_office office) (sound_again (plain_office office) office.sound)
