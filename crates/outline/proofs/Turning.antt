-- The edges of an outline begun at another point, and of the reversed outline; totals over them.
use Prim.Native.Nat.{ℕ}
use mathlib.Core.Path.{◌≡◌, refl, sym, ap, ◌∙◌}
use mathlib.Core.List.{List, [], ◌∷◌, ◌++◌, append-nil, map, reverse, reverse-cons}
use lib.ListN.{take, drop, take-append-drop}
use Rattle.outline.specs.declared.Point.{Point}
use Rattle.outline.specs.declared.Edge.{Edge}
use Rattle.outline.specs.Outline.{edge, path, edges}
use Rattle.outline.specs.Claims.{begun_at}
use Rattle.outline.proofs.Heights.{flipped}
use Rattle.outline.proofs.Totals.{Sums, total, total-turn, total-reverse, total-map}

path-append : (p : Point) (xs : List Point) (q : Point) (ys : List Point) (r : Point) → path p (xs ++ (q ∷ ys)) r ≡ path p xs q ++ path q ys r
unfolding path
path-append p [] q ys r = refl
path-append p (x ∷ xs) q ys r = ap (λ (es : List Edge). edge p x ∷ es) (path-append x xs q ys r)

path-reverse : (p : Point) (xs : List Point) (q : Point) → path p (reverse xs) q ≡ reverse (map flipped (path q xs p))
unfolding path
path-reverse p [] q = refl
path-reverse p (x ∷ xs) q =
    ap (λ (ps : List Point). path p ps q) (reverse-cons x xs)
    ∙ path-append p (reverse xs) x [] q
    ∙ ap (λ (es : List Edge). es ++ (edge x q ∷ [])) (path-reverse p xs x)
    ∙ sym (reverse-cons (edge x q) (map flipped (path x xs p)))

module _ {A : Type 0} (S : Sums A) (f : Edge → A) where
  edges-turn : (xs ys : List Point) → total S f (edges (xs ++ ys)) ≡ total S f (edges (ys ++ xs))
  unfolding edges
  edges-turn [] ys = ap (λ (ps : List Point). total S f (edges ps)) (sym (append-nil ys))
  edges-turn (x ∷ xs) [] = ap (λ (ps : List Point). total S f (edges ps)) (append-nil (x ∷ xs))
  edges-turn (x ∷ xs) (y ∷ ys) =
      ap (total S f) (path-append x xs y ys x) ∙ total-turn S f (path x xs y) (path y ys x) ∙ sym (ap (total S f) (path-append y ys x xs y))

  pub total-begun : (ps : List Point) (k : ℕ) → total S f (edges (begun_at k ps)) ≡ total S f (edges ps)
  total-begun ps k = edges-turn (drop k ps) (take k ps) ∙ ap (λ (qs : List Point). total S f (edges qs)) (take-append-drop k ps)

  -- h is what turning an edge round does to its part
  pub total-reversed : (h : A → A) → h S.none ≡ S.none → ((a b : A) → h (S.op a b) ≡ S.op (h a) (h b)) → ((e : Edge) → f (flipped e) ≡ h (f e))
      → (ps : List Point) → total S f (edges (reverse ps)) ≡ h (total S f (edges ps))
  unfolding edges total
  total-reversed h z hom each [] = sym z
  total-reversed h z hom each (p ∷ ps) =
      ap (λ (qs : List Point). total S f (edges qs)) (reverse-cons p ps)
      ∙ edges-turn (reverse ps) (p ∷ [])
      ∙ ap (total S f) (path-reverse p ps p)
      ∙ total-reverse S f (map flipped (path p ps p))
      ∙ total-map S f flipped h z hom each (path p ps p)
