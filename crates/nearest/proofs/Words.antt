-- Pages and pieces as words: the order of the words is theirs, and those of a sound table fit.
use Prim.Native.Nat.{ℕ, zero, suc, ◌+◌, ◌*◌, ◌/◌, ◌%◌, ◌<◌}
use native.Mathlib.Omega.{arith}
use mathlib.Core.Path.{◌≡◌, refl}
use mathlib.Core.Logic.{◌≢◌}
use mathlib.Core.Bool.{Bool, true, false, cond}
use mathlib.Core.List.{List, []}
use lib.ListN.{length}
use lib.Dec.{T, ltb}
use borrow.Author.Tests.{ne_eqb}
use Rattle.std.proofs.lemmas.Grind.{common_steps}
use Rattle.pages.specs.declared.Entry.{Entry}
use Rattle.pages.specs.Sizes.{PIECES}
use Rattle.pages.specs.Lists.{Every}
use Rattle.pages.specs.Rectangles.{Small}
use Rattle.pages.specs.Layout.{Page, page, table_in}
use Rattle.pages.specs.Sound.{leaf, child_entries, piece_entries, sound}
use Rattle.pages.proofs.Lists.{every_map, every-both}
use Rattle.pages.proofs.Small.{entries-small}
use Rattle.pages.proofs.Facts.{Facts}
use Rattle.pages.proofs.Whole.{sound-in}
use Rattle.pages.proofs.Entries.{Fits, leaf-pieces, fits-above}
use Rattle.nearest.specs.Search.{near, before}
use Rattle.nearest.specs.Steps.{near_in, least_with}

-- what a word has room for
abbrev pub Fitting : Entry → Type 0
Fitting e = Small e.rect × (e.r < PIECES)

pub entries-fit : (w : List ℕ) → T (sound w) → (p : ℕ) → p < length (table_in w).pages → Every Fitting (page (table_in w) p).entries
entries-fit w h p pl = every-both (λ e. Small e.rect) (λ e. e.r < PIECES) Fitting (λ e a b. (a, b)) (page (table_in w) p).entries
    (entries-small (table_in w) F (page (table_in w) p).level p pl refl) (go (page (table_in w) p).level refl)
  where
    F : Facts (table_in w)
    F = sound-in w h

    go : (l : ℕ) → (page (table_in w) p).level ≡ l → Every (λ e. e.r < PIECES) (page (table_in w) p).entries
    go zero lv = rw (leaf-pieces (page (table_in w) p) lv) at (F.numbers p pl)
    go (suc l) lv = every_map (Fits (table_in w).pages (suc l)) (λ e. e.r < PIECES) (λ e f. omega (arith, f.inside, F.most)) (page (table_in w) p).entries (fits-above (table_in w) F l p pl lv)

pub before-words : (a b : ℕ) → before (near_in a) (near_in b) ≡ ltb a b
unfolding before
before-words a b = grind (arith, common_steps)

-- no piece is met above the leaves
pub least_above : (x y w : ℕ) (p : Page) → p.level ≢ 0 → least_with x y w (piece_entries p) ≡ w
unfolding least_with
least_above x y w p n = rw (ne_eqb p.level 0 n)

pub near-parts : (d n : ℕ) → n < PIECES → near_in (d * PIECES + n) ≡ near d n
near-parts d n l =
    let a : (d * PIECES + n) / PIECES ≡ d = omega arith in
    let b : (d * PIECES + n) % PIECES ≡ n = omega arith in
    λ i. near (a i) (b i)

-- of a page's children, and of its pieces
module _ (w : List ℕ) (h : T (sound w)) (p : ℕ) (pl : p < length (table_in w).pages) where
  pub children-fit : Every Fitting (child_entries (page (table_in w) p))
  children-fit = go (leaf (page (table_in w) p))
    where
      go : (b : Bool) → Every Fitting (cond b [] (page (table_in w) p).entries)
      go true = tt
      go false = entries-fit w h p pl

  pub pieces-fit : Every Fitting (piece_entries (page (table_in w) p))
  pieces-fit = go (leaf (page (table_in w) p))
    where
      go : (b : Bool) → Every Fitting (cond b (page (table_in w) p).entries [])
      go true = entries-fit w h p pl
      go false = tt
