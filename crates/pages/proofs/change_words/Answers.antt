-- The words are lent as an array, and given back.
use Rattle.std.proofs.Common.{rules, refl, ◌≡◌}
use Rattle.pages.proofs.change_words.Goals as goal

pub returns : goal.returns
returns g c =
    let same : c.unwrap.result.now ≡ c.args.words.now = search rules in
    record { shown = c.unwrap.result; shows = same; left = _; met = c.change.ensures; leaves = refl }
