use Rattle.cell_core.proofs.Rehearsals.{all_end, all_fed, shows_ample}
use Rattle.cell_core.proofs.laws.a_rehearsal_is_whole.Goals as goal

pub returns-clause-ended : goal.returns-clause-ended
returns-clause-ended c s memory script wants first last fits is_first lets rehearsed =
    all_end s (λ bytes. c.less_than_a_frame.ensures.size s.desk.max_frame bytes) (λ small size bytes. c.less_than_a_frame.ensures.payload s.desk.max_frame size bytes small) fits first is_first
    memory script wants last rehearsed lets

pub returns-clause-fed : goal.returns-clause-fed
returns-clause-fed c s memory script wants first last fits is_first lets few behind rehearsed =
    all_fed s (λ bytes. c.less_than_a_frame.ensures.size s.desk.max_frame bytes) (λ small size bytes. c.less_than_a_frame.ensures.payload s.desk.max_frame size bytes small) fits first is_first
    memory script wants last rehearsed lets few behind

pub returns-clause-ample : goal.returns-clause-ample
returns-clause-ample c s memory script wants first last causes fits is_first rehearsed over none =
    shows_ample s (λ bytes. c.less_than_a_frame.ensures.size s.desk.max_frame bytes) (λ small size bytes. c.less_than_a_frame.ensures.payload s.desk.max_frame size bytes small) fits first is_first
    memory script wants last rehearsed causes over none
