-- The listing of a query.
use Rattle.std.specs.Prelude.{ℕ, zero, suc, Bool, cond, List, [], ◌∷◌, ◌++◌, ltb}
use Rattle.pages.specs.declared.Rect.{Rect}
use Rattle.pages.specs.Sizes.{PIECES}
use Rattle.pages.specs.Lists.{sum}
use Rattle.pages.specs.Layout.{Table}
use Rattle.pages.specs.Sound.{piece_entries, is}

-- the numbers below n that pass a test, "in rising number"
abbrev pub rising : ℕ → (ℕ → Bool) → List ℕ
rising zero p = []
rising (suc n) p = rising n p ++ cond (p n) (n ∷ []) []

-- how many entries in the leaves have the r c and an admitted rectangle
abbrev pub admitted_as : (Rect → Bool) → Table → ℕ → ℕ
admitted_as admit t c = sum (λ p. sum (λ e. cond (admit e.rect) (is c e) 0) (piece_entries p)) t.pages

-- "exactly the pieces whose rectangle stands to the reference in a configuration that the wish admits, each one time, in rising number"
unfoldable pub listing : (Rect → Bool) → Table → List ℕ
listing admit t = rising PIECES (λ c. ltb 0 (admitted_as admit t c))
