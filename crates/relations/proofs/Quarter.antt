-- The thirteen sets are the quarter-unit rule. One computed test over all entries compares the masks of the source and the sets of
-- document 01 with the zones of the ends; a quarter-unit interval with any zones that a page allows is at hand.
use mathlib.Core.Bool.{Bool, true, false, ◌&&◌, beq}
use mathlib.Core.List.{List, [], ◌∷◌}
use mathlib.Core.Logic.{◌↔◌}
use mathlib.Core.Path.{◌≡◌, refl, sym, ap, ap₂, subst, ◌∙◌}
use Prim.Native.Nat.{ℕ, zero, suc, ◌+◌, ◌-◌, ◌*◌, ◌%◌, ◌^◌, ◌≤◌, ◌<◌, min, max}
use native.Mathlib.Decide.{dec_lt}
use native.Mathlib.Omega.{arith}
use lib.Dec.{leb, ltb, eqb}
use lib.ListN.{get_or}
use borrow.Author.Tests.{le-leb, leb-true, ltb-true, eqb-true}
use Rattle.relations.specs.Axis.{CODES, IsCode, lines, code}
use Rattle.relations.specs.Sets.{bit}
use Rattle.relations.specs.Nodes.{inside, node_mask, Quarter}
use Rattle.relations.specs.Steps.{node_masks}
use Rattle.relations.proofs.Tests.{all_below, all_pairs, pair-at, all-at, beq-eq, both, and_left, and_right}
use Rattle.relations.proofs.Bits.{packed-of, listed_of}
use Rattle.relations.proofs.Sides.{below, at, above, is_code, of_code, in-quarters}
use Rattle.relations.proofs.Zones.{zone, zone-lt, zone-is, zone-mono, zone-before, feasible, by-zones, low, high, lower-zone, upper-zone}

-- the masks of the source
abbrev pub masks : List ℕ
masks = 1 ∷ 3 ∷ 295 ∷ 879 ∷ 8191 ∷ 288 ∷ 864 ∷ 8160 ∷ 256 ∷ 768 ∷ 7936 ∷ 6144 ∷ 4096 ∷ []

-- code d can lie inside code c, by the zones of the ends
abbrev within : ℕ → ℕ → Bool
within c d = leb (low c) (low d) && leb (high d) (high c)

entry : ℕ → ℕ → Bool
entry c d =
    beq (inside (suc c) (suc d)) (within (suc c) (suc d))
    && (beq (bit (get_or masks c 0) d) (within (suc c) (suc d)) && ltb (get_or masks c 0) (2 ^ CODES))

test : all_pairs entry CODES CODES ≡ true
unfolding entry inside bit all_pairs all_below
test = refl

module _ (c d : ℕ) (hc : c < CODES) (hd : d < CODES) where
  here : entry c d ≡ true
  here = pair-at entry CODES CODES c d test hc hd

  inside-within : inside (suc c) (suc d) ≡ within (suc c) (suc d)
  unfolding entry
  inside-within = beq-eq _ _ (and_left _ _ here)

  mask-here : (beq (bit (get_or masks c 0) d) (within (suc c) (suc d)) && ltb (get_or masks c 0) (2 ^ CODES)) ≡ true
  unfolding entry
  mask-here = and_right (beq (inside (suc c) (suc d)) (within (suc c) (suc d))) _ here

  mask-bit : bit (get_or masks c 0) d ≡ inside (suc c) (suc d)
  mask-bit = beq-eq _ _ (and_left _ _ mask-here) ∙ sym inside-within

  mask-small : get_or masks c 0 < 2 ^ CODES
  mask-small = ltb-true _ _ (and_right (beq (bit (get_or masks c 0) d) (within (suc c) (suc d))) _ mask-here)

-- the masks of the source are the thirteen sets
pub mask_at : (c : ℕ) → c < CODES → get_or masks c 0 ≡ node_mask (suc c)
unfolding node_mask
mask_at c l =
    packed-of (λ k. inside (suc c) (suc k)) CODES (get_or masks c 0) (mask-small c 0 l (omega arith)) (λ k h. mask-bit c k l h)

pub masks_are : masks ≡ node_masks
unfolding node_masks
masks_are = listed_of (λ c. node_mask (suc c)) CODES masks refl mask_at

code-within : (c d : ℕ) → IsCode c → IsCode d → inside c d ≡ within c d
code-within c d ic id =
    of_code (λ x. inside x d ≡ within x d)
    (λ h l. of_code (λ y. inside (suc h) y ≡ within (suc h) y) (λ k m. inside-within h k l m) d id) c ic

-- an interval from a code's lower zone to its upper one has that code
ends_right : ℕ → Bool
ends_right d = eqb (code (low (suc d)) (high (suc d)) 1 3) (suc d) && feasible (low (suc d)) (high (suc d))

ends-test : all_below ends_right CODES ≡ true
unfolding ends_right feasible all_below code lines
ends-test = refl

ends_at : (d : ℕ) → IsCode d → (code (low d) (high d) 1 3 ≡ d) × (feasible (low d) (high d) ≡ true)
unfolding ends_right
ends_at =
    of_code (λ d. (code (low d) (high d) 1 3 ≡ d) × (feasible (low d) (high d) ≡ true))
    (λ h l.
    let f = all-at ends_right CODES h ends-test l in
    let n = code (low (suc h)) (high (suc h)) 1 3 in
    (eqb-true n (suc h) (and_left _ _ f), and_right (eqb n (suc h)) _ f))

-- ---- a quarter-unit interval with given zones

module _ (P1 P2 q1 q2 : ℕ) (hp : P1 < P2) (hq : q1 < q2) where
  -- zones in quarter units
  zone4 : ℕ → ℕ
  zone4 x = zone (4 * q1) (4 * q2) x

  zone-quarters : (x : ℕ) → zone4 (4 * x) ≡ zone q1 q2 x
  unfolding zone4
  zone-quarters x =
      let u = in-quarters x q1 q2 in
      zone-is u.to-s1 u.to-s2 ∙ sym (zone-is u.to-q1 u.to-q2)

  at-start : zone4 (4 * q1) ≡ 1
  unfolding zone4
  at-start = zone-is (at refl) (below (omega arith))

  between : (x : ℕ) → 4 * q1 < x → x < 4 * q2 → zone4 x ≡ 2
  unfolding zone4
  between x h k = zone-is (above h) (below k)

  at-end : zone4 (4 * q2) ≡ 3
  unfolding zone4
  at-end = zone-is (above (omega arith)) (at refl)

  record Ends (w1 w2 : ℕ) : Type 0 where
    s1 : ℕ
    s2 : ℕ
    from_low : 4 * P1 ≤ s1
    order : s1 < s2
    to_high : s2 ≤ 4 * P2
    lower : zone4 s1 ≡ w1
    upper : zone4 s2 ≡ w2

  -- a point of each zone that has an end of the reference below it and one above it
  point : (w : ℕ) → 0 < w → w < 4 → (s : ℕ) × (zone4 s ≡ w)
  point zero h k = absurd (omega arith)
  point (suc zero) h k = (4 * q1, at-start)
  point (suc (suc zero)) h k = (4 * q1 + 1, between (4 * q1 + 1) (omega arith) (omega arith))
  point (suc (suc (suc zero))) h k = (4 * q2, at-end)
  point (suc (suc (suc (suc w)))) h k = absurd (omega arith)

  before : (x y : ℕ) → zone4 x < zone4 y → x < y
  unfolding zone4
  before = zone-before (4 * q1) (4 * q2)

  start : (w : ℕ) → w < 4 → zone q1 q2 P1 ≤ w → (s : ℕ) × (4 * P1 ≤ s) × (zone4 s ≡ w)
  start w h l = go (dec_lt (zone q1 q2 P1) w)
    where
      go : Dec (zone q1 q2 P1 < w) → (s : ℕ) × (4 * P1 ≤ s) × (zone4 s ≡ w)
      go (yes k) =
          let s = point w (omega arith) h in
          (s.0, omega (arith, before (4 * P1) s.0 (omega (arith, s.1, zone-quarters P1))), s.1)
      go (no k) = (4 * P1, omega arith, omega (arith, zone-quarters P1))

  stop : (w : ℕ) → 0 < w → w ≤ zone q1 q2 P2 → (s : ℕ) × (s ≤ 4 * P2) × (zone4 s ≡ w)
  stop w h l = go (dec_lt w (zone q1 q2 P2))
    where
      go : Dec (w < zone q1 q2 P2) → (s : ℕ) × (s ≤ 4 * P2) × (zone4 s ≡ w)
      go (yes k) =
          let s = point w h (omega (arith, zone-lt q1 q2 P2)) in
          (s.0, omega (arith, before s.0 (4 * P2) (omega (arith, s.1, zone-quarters P2))), s.1)
      go (no k) = (4 * P2, omega arith, omega (arith, zone-quarters P2))

  across : (w1 w2 : ℕ) → w1 < w2 → w2 < 5 → zone q1 q2 P1 ≤ w1 → w2 ≤ zone q1 q2 P2 → Ends w1 w2
  across w1 w2 h k l m =
      let a = start w1 (omega arith) l in
      let b = stop w2 (omega arith) m in
      record {
        s1 = a.0;
        s2 = b.0;
        from_low = a.1;
        order = before a.0 b.0 (omega (arith, a.2, b.2));
        to_high = b.1;
        lower = a.2;
        upper = b.2;
      }

  -- both ends in one zone, below, between or above the ends of the reference
  along : (w : ℕ) → w % 2 ≡ 0 → w < 5 → zone q1 q2 P1 ≤ w → w ≤ zone q1 q2 P2 → Ends w w
  unfolding zone4
  along zero e h l m =
      let u : 4 * P1 < 4 * q1 = before (4 * P1) (4 * q1) (omega (arith, zone-quarters P1, at-start)) in
      record {
        s1 = 4 * P1;
        s2 = 4 * P1 + 1;
        from_low = omega arith;
        order = omega arith;
        to_high = omega arith;
        lower = zone-is (below u) (below (omega arith));
        upper = zone-is (below (omega arith)) (below (omega arith));
      }
  along (suc (suc zero)) e h l m =
      let u : 4 * P1 < 4 * q2 = before (4 * P1) (4 * q2) (omega (arith, zone-quarters P1, at-end)) in
      let v : 4 * q1 < 4 * P2 = before (4 * q1) (4 * P2) (omega (arith, zone-quarters P2, at-start)) in
      record {
        s1 = max (4 * P1) (4 * q1 + 1);
        s2 = min (4 * P2) (4 * q2 - 1);
        from_low = omega arith;
        order = omega arith;
        to_high = omega arith;
        lower = between (max (4 * P1) (4 * q1 + 1)) (omega arith) (omega arith);
        upper = between (min (4 * P2) (4 * q2 - 1)) (omega arith) (omega arith);
      }
  along (suc (suc (suc (suc zero)))) e h l m =
      let v : 4 * q2 < 4 * P2 = before (4 * q2) (4 * P2) (omega (arith, zone-quarters P2, at-end)) in
      record {
        s1 = 4 * P2 - 1;
        s2 = 4 * P2;
        from_low = omega arith;
        order = omega arith;
        to_high = omega arith;
        lower = zone-is (above (omega arith)) (above (omega arith));
        upper = zone-is (above (omega arith)) (above v);
      }
  along (suc zero) e h l m = absurd (omega arith)
  along (suc (suc (suc zero))) e h l m = absurd (omega arith)
  along (suc (suc (suc (suc (suc w))))) e h l m = absurd (omega arith)

  ends : (w1 w2 : ℕ) → feasible w1 w2 ≡ true → zone q1 q2 P1 ≤ w1 → w2 ≤ zone q1 q2 P2 → Ends w1 w2
  unfolding feasible
  ends w1 w2 f l m = go (ltb w1 w2) refl
    where
      k : w2 < 5
      k = omega (arith, zone-lt q1 q2 P2)

      go : (b : Bool) → ltb w1 w2 ≡ b → Ends w1 w2
      go true e = across w1 w2 (ltb-true w1 w2 e) k l m
      go false e =
          let g : (eqb w1 w2 && eqb (w1 % 2) 0) ≡ true = simp e at f in
          let q : w1 ≡ w2 = eqb-true w1 w2 (and_left _ _ g) in
          let even : w1 % 2 ≡ 0 = eqb-true (w1 % 2) 0 (and_right (eqb w1 w2) _ g) in
          subst (λ (w : ℕ). Ends w1 w) q (along w1 even (omega (arith, k)) l (omega arith))

  -- ---- the law

  hq4 : 4 * q1 < 4 * q2
  hq4 = omega arith

  forward : (d : ℕ) → IsCode d → Quarter P1 P2 q1 q2 d → inside (code P1 P2 q1 q2) d ≡ true
  unfolding zone4
  forward d i r =
      let c = code P1 P2 q1 q2 in
      let lower : low d ≡ zone4 r.s1 = ap low (sym r.coded) ∙ lower-zone hq4 r.order in
      let upper : high d ≡ zone4 r.s2 = ap high (sym r.coded) ∙ upper-zone hq4 r.order in
      let l : low c ≤ low d =
      omega (arith, lower, lower-zone hq hp, zone-quarters P1, zone-mono (4 * q1) (4 * q2) r.from_low) in
      let m : high d ≤ high c =
      omega (arith, upper, upper-zone hq hp, zone-quarters P2, zone-mono (4 * q1) (4 * q2) r.to_high) in
      code-within c d (is_code P1 P2 q1 q2) i ∙ both (le-leb (low c) (low d) l) (le-leb (high d) (high c) m)

  backward : (d : ℕ) → IsCode d → inside (code P1 P2 q1 q2) d ≡ true → Quarter P1 P2 q1 q2 d
  unfolding zone4
  backward d i t =
      let c = code P1 P2 q1 q2 in
      let f = ends_at d i in
      let w : within c d ≡ true = sym (code-within c d (is_code P1 P2 q1 q2) i) ∙ t in
      let l = leb-true (low c) (low d) (and_left _ _ w) in
      let m = leb-true (high d) (high c) (and_right (leb (low c) (low d)) _ w) in
      let e = ends (low d) (high d) f.1 (omega (arith, l, lower-zone hq hp)) (omega (arith, m, upper-zone hq hp)) in
      record {
        s1 = e.s1;
        s2 = e.s2;
        from_low = e.from_low;
        order = e.order;
        to_high = e.to_high;
        coded = by-zones hq4 e.order ∙ ap₂ (λ (a b : ℕ). code a b 1 3) e.lower e.upper ∙ f.0;
      }

  -- the thirteen sets are the quarter-unit rule
  pub quarter : (d : ℕ) → IsCode d → Quarter P1 P2 q1 q2 d ↔ (inside (code P1 P2 q1 q2) d ≡ true)
  quarter d i = (forward d i, backward d i)
