-- Words written over others.
use Prim.Native.Nat.{ℕ, ◌+◌}
use native.Mathlib.Omega.{arith}
use mathlib.Core.Path.{◌≡◌, sym, ap, ◌∙◌}
use mathlib.Core.List.{List, ◌++◌, append_assoc}
use lib.ListN.{length, take, drop, take-append-drop}
use lib.Seq.{drop-drop, take-add}

-- w with vs written over its words from place a on
abbrev pub over : List ℕ → ℕ → List ℕ → List ℕ
over w a vs = take a w ++ (vs ++ drop (a + length vs) w)

-- past a part that is the same
pub over-past : (w v : List ℕ) (c a : ℕ) (vs : List ℕ) → take c v ≡ take c w → drop c v ≡ over (drop c w) a vs → v ≡ over w (c + a) vs
over-past w v c a vs h k =
    let e1 : take (c + a) w ≡ take c w ++ take a (drop c w) = take-add c a w in
    let e2 : drop (a + length vs) (drop c w) ≡ drop (c + a + length vs) w = drop-drop (a + length vs) c w ∙ ap (λ m. drop m w) (assoc c a (length vs)) in
    sym (take-append-drop c v) ∙ (rw (h, k, e1, e2) (simp append_assoc))
  where
    assoc : (x y z : ℕ) → x + (y + z) ≡ x + y + z
    assoc x y z = omega arith
