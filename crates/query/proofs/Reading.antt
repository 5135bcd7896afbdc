-- The entries of a page of a sound table: pages one level lower, or piece numbers.
use Prim.Native.Nat.{ℕ, zero, suc, ◌-◌, ◌≤◌, ◌<◌}
use native.Mathlib.Omega.{arith}
use mathlib.Core.Path.{◌≡◌, refl, ◌∙◌}
use mathlib.Core.Logic.{◌≢◌}
use mathlib.Core.List.{List}
use lib.ListN.{length, get_or}
use lib.Dec.{T}
use Rattle.pages.specs.Sizes.{PIECES, TABLE_WORDS}
use Rattle.pages.specs.Layout.{no_entry, page, table_in}
use Rattle.pages.specs.Sound.{sound}
use Rattle.pages.proofs.Lists.{every-at}
use Rattle.pages.proofs.Facts.{Facts}
use Rattle.pages.proofs.Whole.{sound-in}
use Rattle.pages.proofs.Entries.{Fits, leaf-pieces, fits-above}
use Rattle.query.specs.Steps.{SoundPage}

module _ (w : List ℕ) (p l : ℕ) (s : SoundPage w p l) where
  pub page-facts : Facts (table_in w)
  page-facts = sound-in w s.holds

  -- an entry above the leaves leads to a page one level lower
  pub child-page : (i : ℕ) → l ≢ 0 → i < length (page (table_in w) p).entries → SoundPage w (get_or (page (table_in w) p).entries i no_entry).r (l - 1)
  child-page i n il = go l n s.level
    where
      go : (m : ℕ) → m ≢ 0 → (page (table_in w) p).level ≡ m → SoundPage w (get_or (page (table_in w) p).entries i no_entry).r (m - 1)
      go zero z e = absurd (z refl)
      go (suc m) z e =
          let f : Fits (table_in w).pages (suc m) (get_or (page (table_in w) p).entries i no_entry) =
          every-at (Fits (table_in w).pages (suc m)) (page (table_in w) p).entries no_entry (fits-above (table_in w) page-facts m p s.inside e) i il in
          record { words = s.words; holds = s.holds; inside = f.inside; level = omega (arith, f.lower) }

  -- an entry of a leaf holds a piece number
  pub piece-number : (i : ℕ) → l ≡ 0 → i < length (page (table_in w) p).entries → (get_or (page (table_in w) p).entries i no_entry).r < PIECES
  piece-number i z il =
      every-at (λ e. e.r < PIECES) (page (table_in w) p).entries no_entry
      (rw (leaf-pieces (page (table_in w) p) (s.level ∙ z)) at (page-facts.numbers p s.inside)) i il

-- a page at its own level, and the root
module _ (w : List ℕ) (words : TABLE_WORDS ≤ length w) (holds : T (sound w)) where
  pub own-page : (p : ℕ) → p < length (table_in w).pages → SoundPage w p (page (table_in w) p).level
  own-page p l = record { words = words; holds = holds; inside = l; level = refl }
