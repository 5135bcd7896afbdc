-- The entries that an iterator over a page has left.
use Rattle.std.specs.Prelude.{List, map}
use Rattle.pages.specs.declared.Entry.{Entry}
use Rattle.pages.specs.declared.iter.PageEntries.{PageEntries}
use Rattle.pages.specs.Layout.{decode_entry}

abbrev pub left : PageEntries → List Entry
left e = map decode_entry e.rest.now
