-- The nine are read before either page is written.
use Rattle.std.proofs.Common.{rules, ap, ◌∙◌}
use Rattle.pages.specs.Layout.{page_words}
use Rattle.placing.proofs.Stepping.{split-is}
use Rattle.placing.proofs.split_page.Goals as goal

pub returns : goal.returns
returns c =
    let a = c.args in
    split-is a.table.now c.page_of-page.result.now a.p.number a.k.number a.e c.ordered-es.result c.set_page.new.table c.set_page-2.new.table (search rules)
    (c.page_of-page.ensures ∙ ap (page_words a.table.now) c.index.ensures.same) c.ordered-es.ensures (search rules) (search rules)
