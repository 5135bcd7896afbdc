-- A small window is kept whole.
use mathlib.Core.Path.{ap₂, ◌∙◌}
use Rattle.query.specs.Window.{window_in}
use Rattle.query.proofs.Halves.{window-kept}
use Rattle.query.proofs.window.Window.new.Goals as goal

pub returns : goal.returns
returns c =
    let w = c.window_for-w.ensures in
    ap₂ window_in c.paired.ensures c.paired-2.ensures ∙ window-kept _ w.small ∙ w.window
