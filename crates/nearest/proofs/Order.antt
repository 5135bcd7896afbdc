-- The first of some pages or pieces by distance, ties to the lower number.
use Prim.Native.Nat.{ℕ, ◌≤◌, ◌<◌}
use native.Mathlib.Omega.{arith}
use mathlib.Core.Path.{◌≡◌, refl, sym, ap}
use mathlib.Core.Bool.{Bool, true, false, cond, false≢true}
use mathlib.Core.List.{List, [], ◌∷◌, ◌++◌}
use lib.ListN.{length, get_or}
use Rattle.std.specs.Prelude.{Option, Some, None, IfSome, MatchOption, is_some}
use Rattle.std.proofs.lemmas.Grind.{common_steps}
use Rattle.std.proofs.lemmas.Option.{none-some}
use Rattle.pages.specs.Lists.{Every}
use Rattle.pages.proofs.Lists.{at_every, every_map}
use Rattle.nearest.specs.declared.Near.{Near}
use Rattle.nearest.specs.Search.{near, before, first_from, nearest}
use Rattle.nearest.specs.Claims.{NoLater, IsFirst}

pub later_no : (a b : Near) → before b a ≡ false → NoLater a b
unfolding before
later_no a b e = (grind (arith, common_steps), λ z. grind (arith, common_steps))

before-not : (a b : Near) → NoLater a b → before b a ≡ false
unfolding before
before-not a b n = grind (arith, common_steps, n.0, n.1)

before-yes : (a b : Near) → before b a ≡ true → NoLater b a
unfolding before
before-yes a b e = (grind (arith, common_steps), λ z. grind (arith, common_steps))

not_before-trans : (a b c : Near) → NoLater a b → NoLater b c → NoLater a c
not_before-trans a b c h k = (omega (arith, h.0, k.0), λ z. omega (arith, h.1 (omega (arith, h.0, k.0)), k.1 (omega (arith, h.0, k.0))))

-- none before the other: the same
near-same : (a b : Near) → NoLater a b → NoLater b a → a ≡ b
near-same a b h k =
    let d : a.distance ≡ b.distance = omega (arith, h.0, k.0) in
    let n : a.number ≡ b.number = omega (arith, h.1 d, k.1 (sym d)) in
    λ i. near (d i) (n i)

-- the first of two
first : Near → Near → Near
first a b = cond (before b a) b a

first_not : (a b : Near) → NoLater (first a b) a × NoLater (first a b) b
unfolding first
first_not a b = go (before b a) refl
  where
    go : (t : Bool) → before b a ≡ t → NoLater (cond t b a) a × NoLater (cond t b a) b
    go true e = (before-yes a b e, (omega arith, λ z. omega arith))
    go false e = ((omega arith, λ z. omega arith), later_no a b e)

first-is : (P : Near → Type 0) (a b : Near) → P a → P b → P (first a b)
unfolding first
first-is P a b p q = go (before b a)
  where
    go : (t : Bool) → P (cond t b a)
    go true = q
    go false = p

first_from-each : (P : Near → Type 0) (a : Near) (xs : List Near) → P a → Every P xs → P (first_from a xs)
unfolding first_from first
first_from-each P a [] p h = p
first_from-each P a (b ∷ bs) p h = first_from-each P (first a b) bs (first-is P a b p h.0) h.1

first_from-least : (a : Near) (xs : List Near) → NoLater (first_from a xs) a × Every (NoLater (first_from a xs)) xs
unfolding first_from first
first_from-least a [] = ((omega arith, λ z. omega arith), tt)
first_from-least a (b ∷ bs) =
    let r = first_from-least (first a b) bs in
    let f = first_not a b in
    (not_before-trans _ (first a b) a r.0 f.0, (not_before-trans _ (first a b) b r.0 f.1, r.1))

first_from-append : (a : Near) (xs : List Near) (b : Near) → first_from a (xs ++ b ∷ []) ≡ cond (before b (first_from a xs)) b (first_from a xs)
unfolding first_from
first_from-append a [] b = refl
first_from-append a (c ∷ cs) b = first_from-append (cond (before c a) c a) cs b

-- what holds of all holds of the first, and none goes before it
pub nearest-each : (P : Near → Type 0) (xs : List Near) → Every P xs → IfSome (nearest xs) P
unfolding nearest
nearest-each P [] h = tt
nearest-each P (a ∷ xs) h = first_from-each P a xs h.0 h.1

pub nearest-least : (xs : List Near) → IfSome (nearest xs) (λ m. Every (NoLater m) xs)
unfolding nearest
nearest-least [] = tt
nearest-least (a ∷ xs) = first_from-least a xs

pub nearest-none : (xs : List Near) → nearest xs ≡ None → xs ≡ []
unfolding nearest
nearest-none [] e = refl
nearest-none (a ∷ xs) e = absurd (none-some (first_from a xs) (sym e))

-- it is one of them
pub nearest-first : (xs : List Near) → MatchOption (nearest xs) (xs ≡ []) (IsFirst xs)
nearest-first xs = go (nearest xs) (nearest-none xs) (nearest-each There xs (at_every There xs (near 0 0) (λ i l. (i, l, refl)))) (nearest-least xs)
  where
    There : Near → Type 0
    There a = (i : ℕ) × (i < length xs) × (get_or xs i (near 0 0) ≡ a)

    go : (o : Option Near) → (o ≡ None → xs ≡ []) → IfSome o There → IfSome o (λ m. Every (NoLater m) xs) → MatchOption o (xs ≡ []) (IsFirst xs)
    go None e h l = e refl
    go (Some a) e h l = record { there = h; first = l }

-- so one that passes all tests that all of them pass, and that none goes before, is the first
pub nearest-is : (xs : List Near) (z : Near) → ((fails : Near → Bool) → Every (λ a. fails a ≡ false) xs → fails z ≡ false) → Every (NoLater z) xs → nearest xs ≡ Some z
unfolding nearest
nearest-is [] z there least = absurd (false≢true (sym (there (λ a. true) tt)))
nearest-is (a ∷ xs) z there least =
    let m : Near = first_from a xs in
    let l = first_from-least a xs in
    let none = there (λ b. before b m) (before-not m a l.0, every_map (NoLater m) (λ b. before b m ≡ false) (before-not m) xs l.1) in
    ap Some (near-same m z (later_no m z none) (first_from-each (NoLater z) a xs least.0 least.1))

-- and of one more
abbrev pub with_one : Option Near → Near → Near
with_one None b = b
with_one (Some a) b = cond (before b a) b a

pub nearest-more : (xs : List Near) (b : Near) → nearest (xs ++ b ∷ []) ≡ Some (with_one (nearest xs) b)
unfolding nearest
nearest-more [] b = refl
nearest-more (a ∷ xs) b = ap Some (first_from-append a xs b)

every-front : (P : Near → Type 0) (xs ys : List Near) → Every P (xs ++ ys) → Every P xs
every-front P [] ys h = tt
every-front P (x ∷ xs) ys h = (h.0, every-front P xs ys h.1)

-- the first of more is no farther
pub nearest-nearer : (xs ys : List Near) → IfSome (nearest xs) (λ m. IfSome (nearest (xs ++ ys)) (λ n. n.distance ≤ m.distance))
unfolding nearest
nearest-nearer [] ys = tt
nearest-nearer (a ∷ xs) ys =
    let n : Near = first_from a (xs ++ ys) in
    let l = first_from-least a (xs ++ ys) in
    (first_from-each (NoLater n) a xs l.0 (every-front (NoLater n) xs ys l.1)).0

pub nearest-there : (xs ys : List Near) → is_some (nearest xs) ≡ true → is_some (nearest (xs ++ ys)) ≡ true
unfolding nearest
nearest-there [] ys e = absurd (false≢true e)
nearest-there (a ∷ xs) ys e = refl
