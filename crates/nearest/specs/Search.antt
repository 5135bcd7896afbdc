-- The search, sentence by sentence: "open pages from the root, always the unopened reached one of least squared distance from point to
-- rectangle, ties to the lower page number."
use Rattle.std.specs.Prelude.{ℕ, zero, suc, Bool, true, not, cond, ◌&&◌, ◌||◌, ltb, eqb, Option, Some, None}
use Rattle.std.specs.Prelude.{List, [], ◌∷◌, ◌++◌, map, filter}
use Rattle.pages.specs.declared.Entry.{Entry}
use Rattle.pages.specs.Lists.{all, concat_map, is_among}
use Rattle.pages.specs.Rectangles.{bounds}
use Rattle.pages.specs.Layout.{Table, page}
use Rattle.pages.specs.Sound.{child_entries, piece_entries}
use Rattle.nearest.specs.declared.Near.{Near}
use Rattle.nearest.specs.Distance.{distance_to}

-- a page or a piece, by its number, and its squared distance
abbrev pub near : ℕ → ℕ → Near
near d n = record { distance = d; number = n }

-- "of least squared distance .., ties to the lower page number"; of pieces, "ties to the lower number"
unfoldable pub before : Near → Near → Bool
before a b = ltb a.distance b.distance || (eqb a.distance b.distance && ltb a.number b.number)

-- the first in this order of one and some more
unfoldable pub first_from : Near → List Near → Near
unfolding before
first_from a [] = a
first_from a (b ∷ bs) = first_from (cond (before b a) b a) bs

-- and of some, if there are any
unfoldable pub nearest : List Near → Option Near
unfolding first_from
nearest [] = None
nearest (a ∷ xs) = Some (first_from a xs)

-- "no .. page is nearer than the best piece; while there is no piece, every page is nearer"
abbrev pub is_nearer : Option Near → Near → Bool
is_nearer None page = true
is_nearer (Some piece) page = ltb page.distance piece.distance

-- the number of the one that there is
abbrev pub number_in : Option Near → List ℕ
number_in None = []
number_in (Some a) = a.number ∷ []

-- in a table, where these pages have been opened, one after the other
module _ (t : Table) (opened : List ℕ) where
  -- "A page is reached when it is the root or its parent has been opened"
  unfoldable pub reached : List ℕ
  reached = t.root ∷ concat_map (λ p. map (λ e. e.r) (child_entries (page t p))) opened

  -- the "unopened reached" pages
  unfoldable pub unopened : List ℕ
  unfolding reached
  unopened = filter (λ p. not (is_among p opened)) reached

-- from the point (x, y)
module _ (x y : ℕ) where
  -- "from point to rectangle": a page's rectangle is the bounding rectangle of its entries
  abbrev pub page_near : Table → ℕ → Near
  page_near t p = near (distance_to x y (bounds (page t p).entries)) p

  abbrev pub piece_near : Entry → Near
  piece_near e = near (distance_to x y e.rect) e.r

  module _ (t : Table) (opened : List ℕ) where
    -- the unopened reached pages with their distances
    unfoldable pub waiting : List Near
    unfolding unopened distance_to bounds
    waiting = map (page_near t) (unopened t opened)

    -- "the best piece of the opened leaves (ties to the lower number)"
    unfoldable pub best : Option Near
    unfolding nearest distance_to
    best = nearest (concat_map (λ p. map piece_near (piece_entries (page t p))) opened)

    -- "no unopened reached page is nearer than the best piece"
    unfoldable pub none_nearer : Bool
    unfolding waiting best
    none_nearer = all (λ p. not (is_nearer best p)) waiting

    -- the pages opened after one turn more: "always the unopened reached one of least squared distance", unless none is nearer
    unfoldable pub opened_after : List ℕ
    unfolding none_nearer waiting nearest
    opened_after = cond none_nearer opened (opened ++ number_in (nearest waiting))

  -- "Stop when the allowance is spent": the pages that are opened on an allowance, in their order
  unfoldable pub opened_on : Table → ℕ → List ℕ
  unfolding opened_after
  opened_on t zero = []
  opened_on t (suc n) = opened_after t (opened_on t n)
