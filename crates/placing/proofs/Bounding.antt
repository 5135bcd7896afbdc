-- Bounds are the least rectangle around: the same of two parts in their order, and widened where one entry is.
use Prim.Native.Nat.{ℕ, zero, suc, ◌<◌}
use native.Mathlib.Omega.{arith}
use native.Mathlib.Nat.{not-suc-le-zero, le_of_suc-le-suc}
use mathlib.Core.Path.{◌≡◌, refl, sym, ap, ◌∙◌, subst}
use mathlib.Core.Bool.{Bool, true, false, cond}
use mathlib.Core.List.{List, [], ◌∷◌, ◌++◌, append-nil}
use lib.ListN.{length, get_or, take, drop, set, length-take, length-drop, length-set, take-append-drop}
use lib.Seq.{get_or-set_same}
use Rattle.pages.specs.Lists.{Every}
use Rattle.pages.specs.declared.Rect.{Rect}
use Rattle.pages.specs.declared.Entry.{Entry}
use Rattle.pages.specs.Rectangles.{widen, widen_all, bounds}
use Rattle.pages.specs.Layout.{no_entry}
use Rattle.pages.proofs.Lists.{every-at, every_map, every_append, every_take, every_drop}
use Rattle.pages.proofs.Bounds.{bounds-last}
use Rattle.pages.proofs.Walk.{Within, bounds-each}
use Rattle.placing.specs.Place.{ordered}
use Rattle.placing.proofs.Sort.{length-ordered, every-ordered, ordered-every}

within_same : (a b : Rect) → Within a b → Within b a → a ≡ b
within_same a b p q =
    let e : a.x1 ≡ b.x1 = omega arith in
    let f : a.y1 ≡ b.y1 = omega arith in
    let g : a.x2 ≡ b.x2 = omega arith in
    let h : a.y2 ≡ b.y2 = omega arith in
    λ i. record { x1 = e i; y1 = f i; x2 = g i; y2 = h i }

widen-least : (a b r : Rect) → Within a r → Within b r → Within (widen a b) r
unfolding widen
widen-least a b r p q = omega arith

in_left : (a b r : Rect) → Within r a → Within r (widen a b)
unfolding widen
in_left a b r p = omega arith

in_right : (a b r : Rect) → Within r b → Within r (widen a b)
unfolding widen
in_right a b r p = omega arith

-- an entry's rectangle lies in r
abbrev In : Rect → Entry → Type 0
In r x = Within x.rect r

all-least : (a : Rect) (es : List Entry) (r : Rect) → Within a r → Every (In r) es → Within (widen_all a es) r
unfolding widen_all
all-least a [] r p h = p
all-least a (e ∷ es) r p h = all-least (widen a e.rect) es r (widen-least a e.rect r p h.0) h.1

bounds-least : (es : List Entry) (r : Rect) → 0 < length es → Every (In r) es → Within (bounds es) r
unfolding bounds
bounds-least [] r l h = absurd (not-suc-le-zero l)
bounds-least (e ∷ es) r l h = all-least e.rect es r h.0 h.1

-- the first four and the others of entries in their order
pub bounds-parts : (es : List Entry) → 4 < length es → widen (bounds (take 4 (ordered es))) (bounds (drop 4 (ordered es))) ≡ bounds es
bounds-parts es l =
    let xs : List Entry = take 4 (ordered es) in
    let ys : List Entry = drop 4 (ordered es) in
    let b : Rect = widen (bounds xs) (bounds ys) in
    let each : Every (In (bounds es)) (ordered es) = every-ordered (In (bounds es)) es (bounds-each es) in
    within_same b (bounds es)
    (widen-least (bounds xs) (bounds ys) (bounds es)
    (bounds-least xs (bounds es) (omega (arith, length-take 4 (ordered es), length-ordered es)) (every_take (In (bounds es)) 4 (ordered es) each))
    (bounds-least ys (bounds es) (omega (arith, length-drop 4 (ordered es), length-ordered es)) (every_drop (In (bounds es)) 4 (ordered es) each)))
    (bounds-least es b (omega arith) (ordered-every (In b) es (subst (Every (In b)) (take-append-drop 4 (ordered es)) (every_append (In b) xs ys
    (every_map (In (bounds xs)) (In b) (λ x p. in_left (bounds xs) (bounds ys) x.rect p) xs (bounds-each xs))
    (every_map (In (bounds ys)) (In b) (λ y p. in_right (bounds xs) (bounds ys) y.rect p) ys (bounds-each ys))))))

-- the order does not matter
widen-either : (a b : Rect) → widen a b ≡ widen b a
unfolding widen
widen-either a b = within_same (widen a b) (widen b a) (omega arith) (omega arith)

widen-swap : (a b c : Rect) → widen (widen a b) c ≡ widen (widen a c) b
unfolding widen
widen-swap a b c = within_same (widen (widen a b) c) (widen (widen a c) b) (omega arith) (omega arith)

all_more : (a b : Rect) (es : List Entry) → widen_all (widen a b) es ≡ widen (widen_all a es) b
unfolding widen_all
all_more a b [] = refl
all_more a b (e ∷ es) = ap (λ r. widen_all r es) (widen-swap a b e.rect) ∙ all_more (widen a e.rect) b es

-- y is set in the place of another entry
all_set : (a : Rect) (es : List Entry) (i : ℕ) (y : Entry) → i < length es → widen (widen_all a (set es i y)) (get_or es i no_entry).rect ≡ widen (widen_all a es) y.rect
unfolding widen_all
all_set a [] i y l = absurd (not-suc-le-zero l)
all_set a (e ∷ es) zero y l =
    ap (λ r. widen r e.rect) (all_more a y.rect es)
    ∙ (widen-swap (widen_all a es) y.rect e.rect ∙ ap (λ r. widen r y.rect) (sym (all_more a e.rect es)))
all_set a (e ∷ es) (suc i) y l = all_set (widen a e.rect) es i y (le_of_suc-le-suc l)

bounds-set : (es : List Entry) (i : ℕ) (y : Entry) → i < length es → widen (bounds (set es i y)) (get_or es i no_entry).rect ≡ widen (bounds es) y.rect
unfolding bounds
bounds-set [] i y l = absurd (not-suc-le-zero l)
bounds-set (e ∷ es) zero y l = sym (all_more y.rect e.rect es) ∙ (ap (λ r. widen_all r es) (widen-either y.rect e.rect) ∙ all_more e.rect y.rect es)
bounds-set (e ∷ es) (suc i) y l = all_set e.rect es i y (le_of_suc-le-suc l)

-- x of b became y of c, and z came besides
module _ (b c x y r : Rect) (p : Within x b) (q : Within y c) (s : widen c x ≡ widen b y) where
  grown-one : y ≡ widen x r → c ≡ widen b r
  unfolding widen
  grown-one e =
      let e₁ = ap (λ k. k.x1) e in let e₂ = ap (λ k. k.y1) e in let e₃ = ap (λ k. k.x2) e in let e₄ = ap (λ k. k.y2) e in
      let s₁ = ap (λ k. k.x1) s in let s₂ = ap (λ k. k.y1) s in let s₃ = ap (λ k. k.x2) s in let s₄ = ap (λ k. k.y2) s in
      within_same c (widen b r) (omega arith) (omega arith)

  grown-two : (z : Rect) → widen y z ≡ widen x r → widen c z ≡ widen b r
  unfolding widen
  grown-two z e =
      let e₁ = ap (λ k. k.x1) e in let e₂ = ap (λ k. k.y1) e in let e₃ = ap (λ k. k.x2) e in let e₄ = ap (λ k. k.y2) e in
      let s₁ = ap (λ k. k.x1) s in let s₂ = ap (λ k. k.y1) s in let s₃ = ap (λ k. k.x2) s in let s₄ = ap (λ k. k.y2) s in
      within_same (widen c z) (widen b r) (omega arith) (omega arith)

-- of a page in which y, or y and z, stand for the entry at place i, widened by r
pub bounds-renewed : (es : List Entry) (i : ℕ) (y z : Entry) (two : Bool) (r : Rect) → i < length es
    → cond two (widen y.rect z.rect) y.rect ≡ widen (get_or es i no_entry).rect r → bounds (set es i y ++ cond two (z ∷ []) []) ≡ widen (bounds es) r
bounds-renewed es i y z two r l = go two
  where
    fs : List Entry
    fs = set es i y

    x : Rect
    x = (get_or es i no_entry).rect

    fl : i < length fs
    fl = omega (arith, length-set es i y)

    p : Within x (bounds es)
    p = every-at (In (bounds es)) es no_entry (bounds-each es) i l

    q : Within y.rect (bounds fs)
    q = subst (In (bounds fs)) (get_or-set_same es i y no_entry l) (every-at (In (bounds fs)) fs no_entry (bounds-each fs) i fl)

    go : (b : Bool) → cond b (widen y.rect z.rect) y.rect ≡ widen x r → bounds (fs ++ cond b (z ∷ []) []) ≡ widen (bounds es) r
    go true e = bounds-last fs z (omega (arith, fl)) ∙ grown-two (bounds es) (bounds fs) x y.rect r p q (bounds-set es i y l) z.rect e
    go false e = ap bounds (append-nil fs) ∙ grown-one (bounds es) (bounds fs) x y.rect r p q (bounds-set es i y l) e
