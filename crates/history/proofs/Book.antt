-- What the book holds after a list of place calls: at each number the first call that brings a valid rectangle.
use Prim.Native.Nat.{ℕ, ◌≤◌, ◌<◌}
use native.Mathlib.Omega.{arith}
use native.Mathlib.Decide.{ℕ_discrete}
use mathlib.Core.Path.{◌≡◌, refl, sym, ap, ◌∙◌}
use mathlib.Core.Logic.{◌≢◌}
use mathlib.Core.Bool.{Bool, true, false, ◌&&◌, cond}
use mathlib.Core.List.{List, [], ◌∷◌}
use lib.Dec.{T, eqb}
use borrow.Author.Tests.{lt-ltb, le-ltb, eq-eqb, ne_eqb}
use Rattle.pages.specs.declared.Rect.{Rect}
use Rattle.pages.specs.Sizes.{PIECES}
use Rattle.pages.specs.Lists.{all_of}
use Rattle.pages.specs.Rectangles.{rect_of, valid}
use Rattle.history.specs.Book.{Slot, Call, Book, blank, stands, is_blank, writes, feed, fed, book_after, first_valid}
use Rattle.history.specs.Claims.{four}

-- computed examples, before any law
pub first-stays : book_after four 5 ≡ stands (rect_of 0 0 1 1)
unfolding four book_after
first-stays = refl

pub above-1023 : book_after four 1_024 ≡ blank
unfolding four book_after
above-1023 = refl

pub not_valid : book_after four 6 ≡ blank
unfolding four book_after
not_valid = refl

-- where a call writes
feed-writes : (b : Book) (c : Call) (n : ℕ) → feed b c n ≡ cond (writes b c && eqb n c.number) (stands c.rect) (b n)
unfolding feed
feed-writes b c n = refl

-- a slot stays as it is at another number
elsewhere : {A : Type 0} (x : Bool) (y z : A) → cond (x && false) y z ≡ z
elsewhere true y z = refl
elsewhere false y z = refl

feed-elsewhere : (b : Book) (c : Call) (n : ℕ) → n ≢ c.number → feed b c n ≡ b n
feed-elsewhere b c n e = feed-writes b c n ∙ rw (ne_eqb n c.number e) (elsewhere (writes b c) (stands c.rect) (b n))

-- one slot after one call
feed-at : (b : Book) (c : Call) (n : ℕ) → n < PIECES
    → feed b c n ≡ cond (is_blank (b n) && (eqb n c.number && valid c.rect)) (stands c.rect) (b n)
unfolding writes
feed-at b c n l = go (ℕ_discrete n c.number)
  where
    swap : (x y : Bool) → cond (all_of (true ∷ x ∷ y ∷ []) && true) (stands c.rect) (b c.number) ≡ cond (y && x) (stands c.rect) (b c.number)
    swap true true = refl
    swap true false = refl
    swap false true = refl
    swap false false = refl

    go : Dec (n ≡ c.number) → feed b c n ≡ cond (is_blank (b n) && (eqb n c.number && valid c.rect)) (stands c.rect) (b n)
    go (yes e) =
        feed-writes b c n
        ∙ rw (eq-eqb n c.number e, e)
        (ap (λ x. cond (all_of (x ∷ valid c.rect ∷ is_blank (b c.number) ∷ []) && true) (stands c.rect) (b c.number))
        (lt-ltb c.number PIECES (rw e at l)) ∙ swap (valid c.rect) (is_blank (b c.number)))
    go (no e) = feed-elsewhere b c n e ∙ rw (ne_eqb n c.number e) (sym (elsewhere (is_blank (b n)) (stands c.rect) (b n)))

-- a filled slot stays as it is, and a blank one takes the first valid rectangle
fed-at : (cs : List Call) (b : Book) (n : ℕ) → n < PIECES → fed b cs n ≡ cond (is_blank (b n)) (first_valid n cs) (b n)
unfolding fed first_valid is_blank
fed-at [] b n l = go (b n)
  where
    go : (s : Slot) → s ≡ cond (is_blank s) blank s
    go blank = refl
    go (stands r) = refl
fed-at (c ∷ cs) b n l =
    fed-at cs (feed b c) n l ∙ (ap (λ s. cond (is_blank s) (first_valid n cs) s) (feed-at b c n l) ∙ go (b n) (eqb n c.number && valid c.rect))
  where
    go : (s : Slot) (x : Bool) → (let t : Slot = cond (is_blank s && x) (stands c.rect) s in cond (is_blank t) (first_valid n cs) t)
        ≡ cond (is_blank s) (cond x (stands c.rect) (first_valid n cs)) s
    go blank true = refl
    go blank false = refl
    go (stands r) x = refl

pub book-first : (calls : List Call) (n : ℕ) → n < PIECES → book_after calls n ≡ first_valid n calls
unfolding book_after is_blank
book-first calls n l = fed-at calls (λ i. blank) n l

-- a number above 1,023 never stands
feed-other : (b : Book) (c : Call) (n : ℕ) → PIECES ≤ n → feed b c n ≡ b n
unfolding writes
feed-other b c n l = go (ℕ_discrete n c.number)
  where
    go : Dec (n ≡ c.number) → feed b c n ≡ b n
    go (yes e) =
        feed-writes b c n
        ∙ ap (λ x. cond (all_of (x ∷ valid c.rect ∷ is_blank (b c.number) ∷ []) && eqb n c.number) (stands c.rect) (b n))
        (le-ltb c.number PIECES (rw e at l))
    go (no e) = feed-elsewhere b c n e

fed-other : (cs : List Call) (b : Book) (n : ℕ) → PIECES ≤ n → fed b cs n ≡ b n
unfolding fed
fed-other [] b n l = refl
fed-other (c ∷ cs) b n l = fed-other cs (feed b c) n l ∙ feed-other b c n l

pub book-other : (calls : List Call) (n : ℕ) → PIECES ≤ n → book_after calls n ≡ blank
unfolding book_after
book-other calls n l = fed-other calls (λ i. blank) n l

-- what stands is valid
first-valid : (cs : List Call) (n : ℕ) (r : Rect) → first_valid n cs ≡ stands r → T (valid r)
unfolding first_valid
first-valid [] n r e = let z : ◌≡◌ {A = ℕ} 0 1 = cc in absurd (omega arith)
first-valid (c ∷ cs) n r e = go (eqb n c.number) (valid c.rect) refl e (first-valid cs n r)
  where
    go : (x y : Bool) → valid c.rect ≡ y → cond (x && y) (stands c.rect) (first_valid n cs) ≡ stands r → (first_valid n cs ≡ stands r → T (valid r)) → T (valid r)
    go true true v h k =
        let z : r ≡ c.rect = cc in
        rw (z, v) tt
    go true false v h k = k h
    go false y v h k = k h

pub book-valid : (calls : List Call) (n : ℕ) (r : Rect) → n < PIECES → book_after calls n ≡ stands r → T (valid r)
book-valid calls n r l e = first-valid calls n r (sym (book-first calls n l) ∙ e)
