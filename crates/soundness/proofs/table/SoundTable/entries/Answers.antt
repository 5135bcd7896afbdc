-- The words of a page of a sound table are its entries, at most eight.
use native.Mathlib.Omega.{arith}
use mathlib.Core.Path.{◌∙◌}
use Rattle.soundness.proofs.Reading.{page-few, size-most, size_in, entries-read}
use Rattle.soundness.proofs.table.SoundTable.entries.Goals as goal

pub page_of-page-requires : goal.page_of-page-requires
page_of-page-requires c =
    let s = c.args.self.now in
    (s.long, page-few _ s.long s.holds _ c.requires)

pub entries_of-requires : goal.entries_of-requires
entries_of-requires c =
    let s = c.args.self.now in
    omega (arith, size_in _ s.long s.holds _ c.requires _ c.page_of-page.ensures, size-most _ s.long s.holds _ c.requires)

pub returns : goal.returns
returns c =
    let s = c.args.self.now in
    c.entries_of.ensures.items ∙ entries-read _ s.long s.holds _ c.requires _ c.page_of-page.ensures
