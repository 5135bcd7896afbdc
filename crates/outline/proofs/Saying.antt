-- What the answer of an accepted point call says.
use Prim.Native.Nat.{ℕ, suc, ◌+◌, ◌%◌}
use mathlib.Core.Path.{◌≡◌, refl, sym, ap, subst, ◌∙◌}
use mathlib.Core.Bool.{Bool, true, false, ◌||◌, cond, or-true, false≢true}
use mathlib.Core.Logic.{◌↔◌, ⊎_elim}
use mathlib.Core.List.Memᴰ
use mathlib.Core.List.{List, [], ◌∷◌, Memᴰ}
use native.Mathlib.Omega.{arith}
use borrow.Author.Tests.{eq-eqb, eqb-true}
use Rattle.outline.specs.declared.Point.{Point}
use Rattle.outline.specs.declared.Edge.{Edge}
use Rattle.outline.specs.declared.Place.TheVariants as Place
use Rattle.outline.specs.Outline.{point, points, edges}
use Rattle.outline.specs.Place.{counts, is_on_edge, on_any, crossings, odd, place_of, number_of}
use Rattle.outline.specs.Refusals.{ACCEPTED}
use Rattle.outline.specs.Calls.{point_call}
use Rattle.outline.specs.Meaning.{LiesOn, Crosses}
use Rattle.outline.specs.Claims.{Number, none, one, other, OnOutline, OddCrossings}
use Rattle.outline.proofs.Means.{on-iff, crosses-iff}

module _ (p : Point) where
  abbrev Some : List Edge → Type 0
  Some es = (e : Edge) × Memᴰ e es × LiesOn e p

  some_of : (e : Edge) (es : List Edge) (b : Bool) → is_on_edge e p ≡ b → (on_any es p ≡ true → Some es) → (b || on_any es p) ≡ true → Some (e ∷ es)
  some_of e es true o rest t = (e, Memᴰ.head refl, (on-iff e p).0 o)
  some_of e es false o rest t = let s = rest t in (s.0, Memᴰ.tail s.1, s.2)

  some-on : (es : List Edge) → on_any es p ≡ true → Some es
  unfolding on_any
  some-on [] t = absurd (false≢true t)
  some-on (e ∷ es) t = some_of e es (is_on_edge e p) refl (some-on es) t

  on_some : (es : List Edge) (e : Edge) → Memᴰ e es → LiesOn e p → on_any es p ≡ true
  unfolding on_any
  on_some [] e m o = absurd (Memᴰ.not-nil m)
  on_some (f ∷ es) e m o =
      ⊎_elim (λ q. ap (λ (b : Bool). b || on_any es p) ((on-iff f p).1 (subst (λ (g : Edge). LiesOn g p) q o)))
      (λ r. ap (λ (b : Bool). is_on_edge f p || b) (on_some es e r o) ∙ or-true (is_on_edge f p))
      (Memᴰ.cases_cons m)

  pub any-iff : (es : List Edge) → (on_any es p ≡ true) ↔ Some es
  any-iff es = (some-on es, λ s. on_some es s.0 s.1 s.2)

  abbrev Counting : Edge → Type 0
  Counting e = Crosses e p

  -- the crossings are the number of the edges that cross the ray
  counted_of : (e : Edge) (es : List Edge) (n : ℕ) (b : Bool) → counts e p ≡ b → Number Counting es n → Number Counting (e ∷ es) (cond b 1 0 + n)
  counted_of e es n true t r = subst (Number Counting (e ∷ es)) (omega arith) (one ((crosses-iff e p).0 t) r)
  counted_of e es n false t r = subst (Number Counting (e ∷ es)) (omega arith) (other (λ o. false≢true (sym t ∙ (crosses-iff e p).1 o)) r)

  counted : (es : List Edge) → Number Counting es (crossings es p)
  unfolding crossings
  counted [] = none
  counted (e ∷ es) = counted_of e es (crossings es p) (counts e p) refl (counted es)

pub number_same : {B : Type 0} {P : B → Type 0} {bs : List B} {m n : ℕ} → Number P bs m → Number P bs n → m ≡ n
number_same none none = refl
number_same (one o r) (one o' r') = ap suc (number_same r r')
number_same (one o r) (other n r') = absurd (n o)
number_same (other n r) (one o r') = absurd (n o)
number_same (other n r) (other n' r') = number_same r r'

pub odd-iff : (ws : List ℕ) (p : Point) → (odd (crossings (edges (points ws)) p) ≡ true) ↔ OddCrossings ws p
odd-iff ws p = (
  λ t. (crossings (edges (points ws)) p, counted p (edges (points ws)), eqb-true _ _ t),
  λ o. eq-eqb _ 1 (subst (λ (n : ℕ). n % 2 ≡ 1) (number_same o.1 (counted p (edges (points ws)))) o.2),
)

-- a number of an accepted answer
abbrev number : Bool → Bool → ℕ
number on inside = number_of (cond on Place.On (cond inside Place.Inside Place.Outside))

place_is : (ws : List ℕ) (x y : ℕ) → (point_call ws x y).refusal ≡ ACCEPTED
    → (point_call ws x y).place ≡ number (on_any (edges (points ws)) (point x y)) (odd (crossings (edges (points ws)) (point x y)))
unfolding point_call place_of
place_is ws x y e = rw e

number-1 : (a b : Bool) → (number a b ≡ 1) ↔ (a ≡ true)
number-1 true b = (λ _. refl, λ _. refl)
number-1 false true = (λ e. absurd (omega (arith, e)), λ t. absurd (false≢true t))
number-1 false false = (λ e. absurd (omega (arith, e)), λ t. absurd (false≢true t))

number-2 : (a b : Bool) → (number a b ≡ 2) ↔ ((a ≡ true → ⊥) × (b ≡ true))
number-2 true b = (λ e. absurd (omega (arith, e)), λ t. absurd (t.0 refl))
number-2 false true = (λ _. (λ t. false≢true t, refl), λ _. refl)
number-2 false false = (λ e. absurd (omega (arith, e)), λ t. absurd (false≢true t.1))

number-3 : (a b : Bool) → (number a b ≡ 3) ↔ ((a ≡ true → ⊥) × (b ≡ true → ⊥))
number-3 true b = (λ e. absurd (omega (arith, e)), λ t. absurd (t.0 refl))
number-3 false true = (λ e. absurd (omega (arith, e)), λ t. absurd (t.1 refl))
number-3 false false = (λ _. (λ t. false≢true t, λ t. false≢true t), λ _. refl)

module _ (ws : List ℕ) (x y : ℕ) (accepted : (point_call ws x y).refusal ≡ ACCEPTED) where
  abbrev es : List Edge
  es = edges (points ws)

  abbrev p : Point
  p = point x y

  pub says_on : ((point_call ws x y).place ≡ 1) ↔ OnOutline ws p
  says_on =
      let n = number-1 (on_any es p) (odd (crossings es p)) in (
        λ e. (any-iff p es).0 (n.0 (sym (place_is ws x y accepted) ∙ e)),
        λ o. place_is ws x y accepted ∙ n.1 ((any-iff p es).1 o),
      )

  pub says-inside : ((point_call ws x y).place ≡ 2) ↔ ((OnOutline ws p → ⊥) × OddCrossings ws p)
  says-inside =
      let n = number-2 (on_any es p) (odd (crossings es p)) in (
        λ e. let t = n.0 (sym (place_is ws x y accepted) ∙ e) in (λ o. t.0 ((any-iff p es).1 o), (odd-iff ws p).0 t.1),
        λ o. place_is ws x y accepted ∙ n.1 (λ t. o.0 ((any-iff p es).0 t), (odd-iff ws p).1 o.1),
      )

  pub says-outside : ((point_call ws x y).place ≡ 3) ↔ ((OnOutline ws p → ⊥) × (OddCrossings ws p → ⊥))
  says-outside =
      let n = number-3 (on_any es p) (odd (crossings es p)) in (
        λ e. let t = n.0 (sym (place_is ws x y accepted) ∙ e) in (λ o. t.0 ((any-iff p es).1 o), λ o. t.1 ((odd-iff ws p).1 o)),
        λ o. place_is ws x y accepted ∙ n.1 (λ t. o.0 ((any-iff p es).0 t), λ t. o.1 ((odd-iff ws p).0 t)),
      )
