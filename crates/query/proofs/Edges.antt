-- What a walk knows of the entries of a page of a sound table: no edge exceeds 1,000,000, and each leads to a page or is a piece.
use Prim.Native.Nat.{ℕ, ◌-◌, ◌<◌}
use mathlib.Core.Path.{◌≡◌}
use mathlib.Core.Logic.{◌≢◌}
use mathlib.Core.List.{List}
use lib.ListN.{length, get_or}
use Rattle.pages.specs.Sizes.{PIECES}
use Rattle.pages.specs.Lists.{Every}
use Rattle.pages.specs.Rectangles.{Small}
use Rattle.pages.specs.Layout.{no_entry, page, table_in}
use Rattle.pages.proofs.Lists.{every-at, at_every}
use Rattle.pages.proofs.Small.{entries-small}
use Rattle.query.specs.Steps.{SoundPage}
use Rattle.query.proofs.Reading.{page-facts, piece-number, child-page}

pub page-small : (w : List ℕ) (p l : ℕ) → SoundPage w p l → Every (λ e. Small e.rect) (page (table_in w) p).entries
page-small w p l s = entries-small (table_in w) (page-facts w p l s) l p s.inside s.level

pub entry-small : (w : List ℕ) (p l : ℕ) → SoundPage w p l → (i : ℕ) → i < length (page (table_in w) p).entries → Small (get_or (page (table_in w) p).entries i no_entry).rect
entry-small w p l s i il = every-at (λ e. Small e.rect) (page (table_in w) p).entries no_entry (page-small w p l s) i il

-- what a walk knows of each entry of a leaf, and of a page above
module _ (w : List ℕ) (p l : ℕ) (s : SoundPage w p l) where
  pub piece-entries : l ≡ 0 → Every (λ e. Small e.rect × (e.r < PIECES)) (page (table_in w) p).entries
  piece-entries z = at_every _ (page (table_in w) p).entries no_entry (λ i il. (entry-small w p l s i il, piece-number w p l s i z il))

  pub child-entries : l ≢ 0 → Every (λ e. Small e.rect × SoundPage w e.r (l - 1)) (page (table_in w) p).entries
  child-entries z = at_every _ (page (table_in w) p).entries no_entry (λ i il. (entry-small w p l s i il, child-page w p l s i z il))
