-- The level is the first word of the page.
use Rattle.soundness.proofs.Reading.{page-few, level_in}
use Rattle.soundness.proofs.table.SoundTable.level.Goals as goal

pub page_of-requires : goal.page_of-requires
page_of-requires c =
    let s = c.args.self.now in
    (s.long, page-few _ s.long s.holds _ c.requires)

pub returns : goal.returns
returns c =
    let s = c.args.self.now in
    level_in _ s.long s.holds _ c.requires _ c.page_of.ensures
