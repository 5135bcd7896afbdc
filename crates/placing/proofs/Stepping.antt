-- The cases of each step, as the code goes through them.
use mathlib.Core.Path.{◌≡◌, refl, ap, ◌∙◌}
use Rattle.std.specs.Prelude.{Option, Some, None}
use mathlib.Core.List.{List, [], ◌∷◌, ◌++◌}
use Prim.Native.Nat.{ℕ, zero, suc, ◌+◌, ◌-◌, ◌≤◌, ◌<◌}
use native.Mathlib.Numerals.{sub-one}
use native.Mathlib.Omega.{arith}
use lib.ListN.{length, get_or, set, take, drop, length-drop}
use lib.Seq.{take_all}
use borrow.Author.Tests.{lt-ltb, le-ltb}
use Rattle.pages.specs.declared.Rect.{Rect}
use Rattle.pages.specs.declared.Entry.{Entry}
use Rattle.pages.specs.Sizes.{FANOUT, PAGES}
use Rattle.pages.specs.Rectangles.{entry_of}
use Rattle.pages.specs.Layout.{page_of, encode_page, page_words}
use Rattle.pages.specs.Readers.{entry_in, entries_in}
use Rattle.placing.specs.Place.{ordered}
use Rattle.pages.specs.Writes.{put_page}
use Rattle.placing.specs.Steps.{split_into, Written, entry_for_in, root_made, add_to, widen_entry, parted, settled, chosen_in, place_at, topped, place_in}

pub split-is : (t w : List ℕ) (p k : ℕ) (e : Entry) (es : List Entry) (u v : List ℕ) → length es ≡ 9 → w ≡ page_words t p → es ≡ ordered (entries_in w FANOUT ++ (e ∷ []))
    → u ≡ put_page t p (encode_page (page_of (get_or w 0 0) (take 4 es))) → v ≡ put_page u k (encode_page (page_of (get_or w 0 0) (take 5 (drop 4 es)))) → v ≡ split_into t p k e
unfolding split_into
split-is t w p k e es u v n a b f g =
    let d : take 5 (drop 4 es) ≡ drop 4 es = take_all 5 (drop 4 es) (simp length-drop (omega arith)) in
    g ∙ rw (f, d, b, a)

pub root-is : (t u : List ℕ) (r q level k : ℕ) (a b : Entry) → k < PAGES → k ≡ get_or t 0 0 → a ≡ entry_for_in t r → b ≡ entry_for_in t q
    → u ≡ put_page t k (encode_page (page_of level (a ∷ (b ∷ [])))) → set (set u 0 (k + 1)) 1 k ≡ root_made t r q level
unfolding root_made
root-is t u r q level k a b l is x y z = rw (z, x, y, is, lt-ltb (get_or t 0 0) PAGES (omega (arith, is, l)))

pub place_out : (l : ℕ) (t : List ℕ) (p : ℕ) (e : Entry) → PAGES ≤ p → (None, t) ≡ place_at l t p e
unfolding place_at
place_out zero t p e h = rw (le-ltb p PAGES h)
place_out (suc l) t p e h = rw (le-ltb p PAGES h)

pub place-leaf : (l : ℕ) (t : List ℕ) (p : ℕ) (e : Entry) (s : Written) → p < PAGES → l ≡ 0 → s ≡ add_to t p e → s ≡ place_at l t p e
unfolding place_at
place-leaf l t p e s h z f = f ∙ rw (z, lt-ltb p PAGES h)

place-above : (l : ℕ) (t : List ℕ) (p : ℕ) (e : Entry) → p < PAGES → (l ≡ 0 → ⊥) → let i = chosen_in (page_words t p) e.rect in
    let q = (entry_in (page_words t p) i).r in
    let s = place_at (l - 1) t q e in
    settled p i q e.rect s.0 s.1 ≡ place_at l t p e
unfolding place_at
place-above zero t p e h f = absurd (f refl)
place-above (suc l) t p e h f = rw (sub-one, lt-ltb p PAGES h)

-- the child was not split, or it was
module _ (l : ℕ) (t w : List ℕ) (p i : ℕ) (e x : Entry) (small : p < PAGES) (above : l ≡ 0 → ⊥) (a : w ≡ page_words t p) (b : i ≡ chosen_in w e.rect) (d : x ≡ entry_in w i) where
  step : (s : Written) → s ≡ place_at (l - 1) t x.r e → settled p i x.r e.rect s.0 s.1 ≡ place_at l t p e
  step s z = rw (z, d, b, a) (place-above l t p e small above)

  pub place-kept : (o : Option ℕ) (u v : List ℕ) → (o, u) ≡ place_at (l - 1) t x.r e → o ≡ None → v ≡ widen_entry u p i e.rect → (None, v) ≡ place_at l t p e
  place-kept o u v z n y = ap (λ j. (None, j)) y ∙ step (None, u) (rw n at z)

  pub place-parted : (o : Option ℕ) (k : ℕ) (u : List ℕ) (s : Written) → (o, u) ≡ place_at (l - 1) t x.r e → o ≡ Some k → s ≡ parted p i x.r k u → s ≡ place_at l t p e
  place-parted o k u s z n y = y ∙ step (Some k, u) (rw n at z)

pub placed-is : (t u v : List ℕ) (n level : ℕ) (r : Rect) (o : Option ℕ) → level ≡ get_or (page_words t (get_or t 1 0)) 0 0 → (o, u) ≡ place_at level t (get_or t 1 0) (entry_of r n)
    → v ≡ topped (get_or t 1 0) level o u → set v 2 (get_or t 2 0 + 1) ≡ place_in t n r
unfolding place_in
placed-is t u v n level r o same left q = rw (← same, ← left, q)
