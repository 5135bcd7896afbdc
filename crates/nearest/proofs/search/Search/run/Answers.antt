-- What the search shows is what is found.
use mathlib.Core.Path.{ap, ◌∙◌}
use Rattle.nearest.proofs.Searching.{found-is}
use Rattle.nearest.proofs.search.Search.run.Goals as goal

pub returns : goal.returns
returns c =
    let s = c.args.self in
    let r = c.search-left.new.self in
    let left = c.search-left.result in
    ap (λ z. record { piece = z; opened = r.opened; left = left }) c.piece.ensures ∙ found-is s.table s.point _ r c.search-left.ensures.shows left c.search-left.ensures.left
