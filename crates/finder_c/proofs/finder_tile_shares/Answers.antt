-- The shares of the two rectangles that the words say. `search` finds it too, but of a wrong rectangle it only says that it gave up.
use mathlib.Core.Path.{ap₂, ◌∙◌}
use Rattle.tiles.specs.Calls.{shares_call}
use Rattle.finder_c.proofs.finder_tile_shares.Goals as goal

pub returns : goal.returns
returns c = c.from.ensures ∙ (c.tile_shares.ensures ∙ ap₂ shares_call c.from-piece.ensures c.from-reference.ensures)
