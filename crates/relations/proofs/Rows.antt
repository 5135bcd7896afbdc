-- The thirteen rows of relations, clauses and queries: what each turn of the loops that gather them adds.
use mathlib.Core.Bool.{Bool, true, false, cond, ◌&&◌, and-true, and-false, and_assoc, or-false}
use mathlib.Core.List.{List, [], ◌∷◌, ◌++◌}
use mathlib.Core.Path.{◌≡◌, refl, sym, ap, ap₂, ◌∙◌}
use Prim.Native.Nat.{ℕ, zero, suc, ◌+◌, ◌/◌, ◌%◌, ◌^◌, ◌≤◌, ◌<◌}
use native.Mathlib.Nat.{add-zero, div-one}
use native.Mathlib.Numerals.{add-one}
use native.Mathlib.Omega.{arith}
use lib.Bits.{bit_and, bit_or, or_zero_r}
use lib.ListN.{length, get_or, set, take, replicate}
use lib.Pow.{shr-shr}
use lib.Seq.{take-suc, take_all}
use borrow.Author.Tests.{eq-eqb, ne_eqb, le-ltb}
use Rattle.relations.specs.declared.CodeSets.{CodeSets}
use Rattle.relations.specs.Sets.{member, bit, ones_from, packed, some_below, listed}
use Rattle.relations.specs.Axis.{CODES}
use Rattle.relations.specs.Relation.{RELATIONS, codes_of, in_relation, mask_of, sets_of}
use Rattle.relations.specs.Query.{named, admits, row_set, row_sets}
use Rattle.relations.specs.Steps.{relation_row, named_row, with_relation, cut_to}
use Rattle.relations.proofs.Bits.{bit-zero, bit-packed, none_above, packed_none, packed-same, packed-or, packed-and, listed_at, listed_same}
use Rattle.relations.proofs.Filled.{filled, filled_at, filled_more}

-- the test of the source
pub bit-on : (n k : ℕ) → n / 2 ^ k % 2 ≡ 1 → bit n k ≡ true
unfolding bit
bit-on n k e = eq-eqb (n / 2 ^ k % 2) 1 e

pub bit-off : (n k : ℕ) → (n / 2 ^ k % 2 ≡ 1 → ⊥) → bit n k ≡ false
unfolding bit
bit-off n k e = ne_eqb (n / 2 ^ k % 2) 1 e

-- ---- a relation

mask-bit : (codes : List ℕ) (h : ℕ) → h < CODES → bit (mask_of codes) h ≡ member (suc h) codes
unfolding mask_of
mask-bit codes h l = bit-packed (λ k. member (suc k) codes) CODES h l

pub row-there : (t h : ℕ) → h < CODES → bit (sets_of t).rows h ≡ true → (sets_of t).cols ≡ relation_row t (suc h)
unfolding relation_row in_relation sets_of mask_of
row-there t h l e =
    packed-same _ _ CODES
    (λ k _. ap (λ (b : Bool). b && member (suc k) (codes_of t).on_x) (sym e ∙ mask-bit (codes_of t).on_y h l))

pub row-empty : (t h : ℕ) → h < CODES → bit (sets_of t).rows h ≡ false → relation_row t (suc h) ≡ 0
unfolding relation_row in_relation sets_of
row-empty t h l e =
    packed_none _ CODES
    (λ k _. ap (λ (b : Bool). b && member (suc k) (codes_of t).on_x) (sym (mask-bit (codes_of t).on_y h l) ∙ e))

-- as the source adds a relation to row h
module _ (rows : List ℕ) (t h : ℕ) (s : CodeSets) (e : s ≡ sets_of t) (l : h < CODES) where
  abbrev pub added : ℕ → ℕ
  added k = bit_or (get_or rows k 0) (relation_row t (suc k))

  pub add_row : (now : List ℕ) → now ≡ filled added rows CODES h → bit s.rows h ≡ true → set now h (bit_or (get_or now h 0) s.cols) ≡ filled added rows CODES (h + 1)
  add_row now q b =
      ap (λ (x : List ℕ). set x h (bit_or (get_or x h 0) s.cols)) q
      ∙ filled_more added rows CODES h _ l
      (ap₂ bit_or (filled_at added rows CODES h l)
      (ap (λ (x : CodeSets). x.cols) e ∙ row-there t h l (ap (λ (x : CodeSets). bit x.rows h) (sym e) ∙ b)))

  pub leave-row : (now : List ℕ) → now ≡ filled added rows CODES h → bit s.rows h ≡ false → set now h (get_or now h 0) ≡ filled added rows CODES (h + 1)
  leave-row now q b =
      ap (λ (x : List ℕ). set x h (get_or x h 0)) q
      ∙ filled_more added rows CODES h _ l
      (filled_at added rows CODES h l
      ∙ sym (ap (bit_or (get_or rows h 0)) (row-empty t h l (ap (λ (x : CodeSets). bit x.rows h) (sym e) ∙ b)) ∙ or_zero_r (get_or rows h 0)))

-- ---- a clause, its relations one after the other

unfoldable pub gathered : List ℕ → List ℕ → List ℕ
gathered rows [] = rows
gathered rows (t ∷ ts) = gathered (with_relation rows t) ts

no-relation : (t i j : ℕ) → RELATIONS ≤ t → in_relation t i j ≡ false
unfolding in_relation
no-relation t i j l = simp (le-ltb t 8 (omega arith), le-ltb t RELATIONS l)

module _ (clause : ℕ) where
  -- as far as its relations below t
  upto : ℕ → ℕ → ℕ → Bool
  upto t h k = some_below (λ u. bit clause u && in_relation u (suc h) (suc k)) t

  part_row : ℕ → ℕ → ℕ
  part_row t h = packed (upto t h) CODES

  part_rows : ℕ → List ℕ
  part_rows t = listed (part_row t) CODES

  part_none : replicate CODES 0 ≡ part_rows 0
  unfolding part_rows part_row upto packed some_below listed
  part_none = refl

  part-take : (t : ℕ) → bit clause t ≡ true → with_relation (part_rows t) t ≡ part_rows (suc t)
  unfolding part_rows part_row upto some_below with_relation relation_row
  part-take t e =
      listed_same _ _ CODES
      (λ h l. ap (λ (r : ℕ). bit_or r (packed (λ k. in_relation t (suc h) (suc k)) CODES)) (listed_at (part_row t) CODES h l)
      ∙ packed-or (upto t h) (λ k. in_relation t (suc h) (suc k)) CODES
      ∙ packed-same _ _ CODES (λ k _. rw e))

  part-skip : (t : ℕ) → bit clause t ≡ false → part_rows t ≡ part_rows (suc t)
  unfolding part_rows part_row upto some_below
  part-skip t e = listed_same _ _ CODES (λ h _. packed-same _ _ CODES (λ k _. rw (e, or-false)))

  part-turn : (t : ℕ) (ts : List ℕ) → gathered (part_rows t) (cond (bit clause t) (t ∷ []) [] ++ ts) ≡ gathered (part_rows (suc t)) ts
  unfolding gathered
  part-turn t ts = go (bit clause t) refl
    where
      go : (b : Bool) → bit clause t ≡ b → gathered (part_rows t) (cond b (t ∷ []) [] ++ ts) ≡ gathered (part_rows (suc t)) ts
      go true e = ap (λ (r : List ℕ). gathered r ts) (part-take t e)
      go false e = ap (λ (r : List ℕ). gathered r ts) (part-skip t e)

  -- its ones from place t on
  part-ones : (k t : ℕ) → gathered (part_rows t) (ones_from t k (clause / 2 ^ t)) ≡ part_rows (t + k)
  unfolding ones_from gathered bit
  part-ones zero t = ap part_rows (sym (add-zero t))
  part-ones (suc k) t =
      let low : bit (clause / 2 ^ t) 0 ≡ bit clause t = bit-zero (clause / 2 ^ t) in
      let half : clause / 2 ^ t / 2 ≡ clause / 2 ^ suc t = shr-shr clause t 1 ∙ ap (λ (u : ℕ). clause / 2 ^ u) (add-one t) in
      let e : suc t + k ≡ t + suc k = omega arith in
      rw (low, half) (part-turn t _ ∙ part-ones k (suc t) ∙ ap part_rows e)

  -- all of them; those from place 40 on add nothing
  pub all-gathered : gathered (replicate CODES 0) (ones_from 0 64 clause) ≡ listed (λ h. named_row clause (suc h)) CODES
  unfolding part_rows part_row upto named_row named
  all-gathered =
      ap₂ (λ (r : List ℕ) (n : ℕ). gathered r (ones_from 0 64 n)) part_none (sym (div-one clause))
      ∙ part-ones 64 0
      ∙ listed_same _ _ CODES (λ h _. packed-same _ _ CODES (λ k _. none_above _ RELATIONS 24 (λ u l. rw (no-relation u (suc h) (suc k) l, and-false))))

-- as the source cuts row h
pub cut-row : (rows : List ℕ) (clause h : ℕ) (now named : List ℕ) → h < CODES → named ≡ listed (λ k. named_row clause (suc k)) CODES
    → now ≡ filled (λ k. bit_and (get_or rows k 0) (named_row clause (suc k))) rows CODES h
    → set now h (bit_and (get_or now h 0) (get_or named h 0)) ≡ filled (λ k. bit_and (get_or rows k 0) (named_row clause (suc k))) rows CODES (h + 1)
cut-row rows clause h now named l e q =
    ap (λ (x : List ℕ). set x h (bit_and (get_or x h 0) (get_or named h 0))) q
    ∙ filled_more cut rows CODES h _ l
    (ap₂ bit_and (filled_at cut rows CODES h l)
    (ap (λ (x : List ℕ). get_or x h 0) e ∙ listed_at (λ k. named_row clause (suc k)) CODES h l))
  where
    cut : ℕ → ℕ
    cut k = bit_and (get_or rows k 0) (named_row clause (suc k))

-- ---- a query, as far as its first clauses

pub admits-parts : (cs ds : List ℕ) (i j : ℕ) → admits (cs ++ ds) i j ≡ (admits cs i j && admits ds i j)
unfolding admits
admits-parts [] ds i j = refl
admits-parts (c ∷ cs) ds i j = ap (λ (b : Bool). named c i j && b) (admits-parts cs ds i j) ∙ sym (and_assoc (named c i j) _ _)

admits-more : (cs : List ℕ) (c i j : ℕ) → admits (cs ++ (c ∷ [])) i j ≡ (admits cs i j && named c i j)
unfolding admits
admits-more cs c i j = admits-parts cs (c ∷ []) i j ∙ ap (λ (b : Bool). admits cs i j && b) (and-true (named c i j))

pub query-none : replicate CODES 8191 ≡ row_sets []
unfolding row_sets row_set admits packed listed
query-none = refl

pub query-more : (cs : List ℕ) (n : ℕ) → n < length cs → cut_to (row_sets (take n cs)) (get_or cs n 0) ≡ row_sets (take (n + 1) cs)
unfolding row_sets row_set cut_to named_row
query-more cs n l =
    listed_same _ _ CODES
    (λ h m. ap (λ (r : ℕ). bit_and r (packed (λ k. named (get_or cs n 0) (suc h) (suc k)) CODES)) (listed_at (λ i. row_set (take n cs) (suc i)) CODES h m)
    ∙ packed-and (λ k. admits (take n cs) (suc h) (suc k)) (λ k. named (get_or cs n 0) (suc h) (suc k)) CODES
    ∙ packed-same _ _ CODES (λ k _. sym (admits-more (take n cs) (get_or cs n 0) (suc h) (suc k)) ∙ ap (λ (c : List ℕ). admits c (suc h) (suc k)) one_more))
  where
    one_more : take n cs ++ (get_or cs n 0 ∷ []) ≡ take (n + 1) cs
    one_more = sym (take-suc cs n 0 l) ∙ ap (λ (a : ℕ). take a cs) (sym (add-one n))

pub query-whole : (cs : List ℕ) (n : ℕ) → length cs ≤ n → row_sets (take n cs) ≡ row_sets cs
query-whole cs n h = ap row_sets (take_all n cs h)
