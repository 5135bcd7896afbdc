-- What the inner functions of check are held to: the pages under a page, and the marks that a walk over them leaves.
use Rattle.std.specs.Prelude.{ℕ, zero, suc, ◌+◌, ◌*◌, ◌≤◌, ◌<◌, ◌≡◌, Bool, true, false, ◌&&◌, cond, Option, is_some, IfSome, List, length, get_or, drop, T, eqb, leb}
use Rattle.pages.specs.Under.{under, seen}
use Rattle.pages.specs.declared.Rect.{Rect}
use Rattle.pages.specs.declared.Entry.{Entry}
use Rattle.pages.specs.Sizes.{PIECES, PAGE_HEAD, FANOUT, ENTRY_WORDS, PAGES, TOP_LEVEL, FEWEST, ROOT_LEAST}
use Rattle.pages.specs.Lists.{one, sum, sum_below, Every}
use Rattle.pages.specs.Rectangles.{valid, bounds}
use Rattle.pages.specs.Layout.{page, page_words, table_in}
use Rattle.pages.specs.Sound.{is, zeros}

-- how many marks q has, one at most
abbrev pub mark_of : List Bool → ℕ → ℕ
mark_of h q = one (get_or h q false)

-- below n, h' has f q more marks at each q than h
abbrev pub Adds : ℕ → List Bool → List Bool → (ℕ → ℕ) → Type 0
Adds n h h' f = (q : ℕ) → q < n → mark_of h' q ≡ mark_of h q + f q

-- there is room for f q more marks at each q
abbrev pub Room : ℕ → List Bool → (ℕ → ℕ) → Type 0
Room n h f = (q : ℕ) → q < n → mark_of h q + f q ≤ 1

-- the number of marks below n
unfoldable pub total_of : List Bool → ℕ → ℕ
total_of h n = sum_below n (mark_of h)

-- how often the walk from page p at level l comes to page q, and to an entry in a leaf with the r c
abbrev pub visits : List ℕ → ℕ → ℕ → ℕ → ℕ
visits w l p q = seen (λ x. one (eqb x q)) (table_in w).pages l p

abbrev pub stores : List ℕ → ℕ → ℕ → ℕ → ℕ
stores w l p c = under (is c) (table_in w).pages l p

-- the mark that page p is given
abbrev pub mark_at : ℕ → ℕ → ℕ
mark_at p = λ q. one (eqb p q)

-- what is asked of an entry in a leaf
abbrev pub IsPiece : Entry → Type 0
IsPiece e = T (valid e.rect) × (e.r < PIECES)

-- what is asked of a page's own words, at level l with m or more entries
abbrev pub shaped : List ℕ → ℕ → ℕ → Bool
shaped pg l m =
    eqb (get_or pg 0 0) l
    && (leb m (get_or pg 1 0) && (leb (get_or pg 1 0) FANOUT && zeros (drop (PAGE_HEAD + ENTRY_WORDS * get_or pg 1 0) pg)))

-- what is asked of page p itself, at level l with m or more entries
pub record Head (w : List ℕ) (l m p : ℕ) : Type 0 where
  pub inside : p < length (table_in w).pages
  pub level : (page (table_in w) p).level ≡ l
  pub enough : m ≤ length (page (table_in w) p).entries
  pub eight : length (page (table_in w) p).entries ≤ FANOUT
  pub blank : T (zeros (drop (PAGE_HEAD + ENTRY_WORDS * length (page (table_in w) p).entries) (page_words w p)))

-- and with all that is under it
unfoldable pub Tree : List ℕ → ℕ → ℕ → ℕ → Type 0
Tree w zero m p = Head w zero m p × Every IsPiece (page (table_in w) p).entries
Tree w (suc l) m p = Head w (suc l) m p × Every (λ e. Tree w l FEWEST e.r × (e.rect ≡ bounds (page (table_in w) e.r).entries)) (page (table_in w) p).entries

-- a test of P that adds f to the marks below n: passed where P holds and there is room
pub record Tested (n : ℕ) (P : Type 0) (f : ℕ → ℕ) (h : List Bool) (r : Bool) (h' : List Bool) : Type 0 where
  pub yes : r ≡ true → P × Adds n h h' f
  pub no : r ≡ false → P → Room n h f → ⊥

-- of a leaf's entries: with what bounds it is passed
pub record LeafTested (es : List Entry) (g : List Bool) (r : Option Rect) (g' : List Bool) : Type 0 where
  pub tested : Tested PIECES (Every IsPiece es) (λ c. sum (is c) es) g (is_some r) g'
  pub exact : IfSome r (λ b. b ≡ bounds es)

-- of page p with all that is under it
pub record Visited (w : List ℕ) (l m p : ℕ) (h g : List Bool) (r : Option Rect) (h' g' : List Bool) : Type 0 where
  pub yes : is_some r ≡ true → Tree w l m p × Adds PAGES h h' (visits w l p) × Adds PIECES g g' (stores w l p)
  pub no : is_some r ≡ false → Tree w l m p → Room PAGES h (visits w l p) → Room PIECES g (stores w l p) → ⊥
  pub exact : IfSome r (λ b. b ≡ bounds (page (table_in w) p).entries)

-- each page below k is marked, and as many piece numbers as word 2 says
abbrev pub Complete : List ℕ → ℕ → List Bool → List Bool → Type 0
Complete w k h g = (total_of h k ≡ k) × (total_of g PIECES ≡ get_or w 2 0)

-- the fewest entries of a root at a level
abbrev pub root_fewest : ℕ → ℕ
root_fewest l = cond (eqb l 0) 0 ROOT_LEAST

-- k, the root and its level as the words have them, within their limits
pub record Rooted (w : List ℕ) (k root level : ℕ) : Type 0 where
  pub count : k ≡ length (table_in w).pages
  pub most : k ≤ PAGES
  pub is : root ≡ (table_in w).root
  pub below : root < k
  pub at : level ≡ (page (table_in w) root).level
  pub low : level ≤ TOP_LEVEL
