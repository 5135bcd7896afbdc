-- Demand 1 holds, by cases on the conditions: specs/Demand1 has the statement.
use Prim.Native.Nat.{ℕ}
use mathlib.Core.Path.{◌≡◌, refl, sym, ap, ◌∙◌, subst}
use mathlib.Core.Logic.{◌≢◌}
use mathlib.Core.Bool.{Bool, true, false, not, cond, ◌&&◌, ◌||◌}
use mathlib.Core.List.{List, [], ◌∷◌, ◌++◌}
use lib.ListN.{length, drop, replicate}
use lib.Dec.{leb, ltb, eqb}
use lib.IntN.{pos}
use borrow.Author.Tests.{ne_eqb}
use Rattle.outline.specs.Refusals.{wrong_count, within, outline_refusal}
use Rattle.outline.specs.Calls.{area_call, point_call}
use Rattle.tiles.specs.declared.Shares.{Shares}
use Rattle.tiles.specs.Tiles.{TILES, area_of, area_in}
use Rattle.tiles.specs.Calls.{shares_in, no_shares, shares_call}
use Rattle.pages.specs.Lists.{Every}
use Rattle.relations.specs.declared.AdmittedSet.{AdmittedSet}
use Rattle.relations.specs.Axis.{CODES}
use Rattle.relations.specs.Query.{CLAUSES, some_bad, refusal_of, answer, admitted_of}
use Rattle.pages.specs.declared.Rect.{Rect}
use Rattle.pages.specs.Sizes.{PIECES, TABLE_WORDS}
use Rattle.pages.specs.Rectangles.{valid}
use Rattle.pages.specs.Layout.{table_in}
use Rattle.pages.specs.Sound.{stored, sound}
use Rattle.pages.specs.Calls.{empty_words, empty_call}
use Rattle.soundness.specs.declared.Checked.{Checked}
use Rattle.soundness.specs.Calls.{check_call}
use Rattle.soundness.proofs.Answers.{refused_none}
use Rattle.placing.specs.Calls.{place_refusal, placed_words, place_sound, place_call}
use Rattle.query.specs.declared.Answer.{Answer}
use Rattle.query.specs.declared.Opened.{Opened}
use Rattle.query.specs.Calls.{no_answer, no_opened, sound_refusal, query_opened, query_answer, query_sound, query_call, opened_sound, opened_call, OpenedWords}
use Rattle.nearest.specs.declared.NearestAnswer.{NearestAnswer}
use Rattle.nearest.specs.Search.{opened_on}
use Rattle.nearest.specs.Calls.{found_on, answer_for, no_nearest, out_of_range, nearest_sound, nearest_call}
use Rattle.finder_c.specs.Demand1.{first_of, Numbered, empty_order, check_order, place_order, query_order, admitted_order, area_order, point_order, shares_order, nearest_order, Demand1}

-- of conditions that have one of the numbers
first-numbered : (cs : List (ℕ × Bool)) → Every (λ c. Numbered c.0) cs → Numbered (first_of cs)
first-numbered [] h = refl
first-numbered (c ∷ cs) h = go c.1 (first-numbered cs h.1)
  where
    go : (b : Bool) → Numbered (first_of cs) → Numbered (cond b c.0 (first_of cs))
    go true k = h.0
    go false k = k

-- empty

module _ (w v : List ℕ) where
  emptied : Bool → ℕ × List ℕ
  emptied b = cond b (1, w) (0, v)

  empty-order : (b : Bool) → (emptied b).0 ≡ cond b 1 0
  unfolding emptied
  empty-order true = refl
  empty-order false = refl

  empty-same : (b : Bool) → (emptied b).0 ≢ 0 → (emptied b).1 ≡ w
  unfolding emptied
  empty-same true n = refl
  empty-same false n = absurd (n refl)

-- check

module _ (n : ℕ) where
  answered : Bool → Bool → Checked
  answered a s = cond a (record { refusal = 1; pieces = 0 }) (cond s (record { refusal = 0; pieces = n }) (record { refusal = 6; pieces = 0 }))

  check-order : (a s : Bool) → (answered a s).refusal ≡ cond a 1 (cond (not s) 6 0)
  unfolding answered
  check-order true s = refl
  check-order false true = refl
  check-order false false = refl

-- place

module _ (w x : List ℕ) where
  abbrev refusing : Bool → Bool → Bool → ℕ
  refusing v l e = cond (not v) 2 (cond l 3 (cond e 0 7))

  placing : Bool → Bool → Bool → Bool → Bool → ℕ × List ℕ
  placing a s v l e = cond a (1, w) (cond s (cond (eqb (refusing v l e) 0) (0, x) (refusing v l e, w)) (6, w))

  place-order : (a s v l e : Bool) → (placing a s v l e).0 ≡ cond a 1 (cond (not s) 6 (cond (not v) 2 (cond l 3 (cond (not e) 7 0))))
  unfolding placing
  place-order true s v l e = refl
  place-order false false v l e = refl
  place-order false true false l e = refl
  place-order false true true true e = refl
  place-order false true true false true = refl
  place-order false true true false false = refl

  place_same : (a s v l e : Bool) → (placing a s v l e).0 ≢ 0 → (placing a s v l e).1 ≡ w
  unfolding placing
  place_same true s v l e n = refl
  place_same false false v l e n = refl
  place_same false true false l e n = refl
  place_same false true true true e n = refl
  place_same false true true false true n = absurd (n refl)
  place_same false true true false false n = refl

-- query and opened pages

abbrev asking : Bool → Bool → Bool → Bool → ℕ
asking v c b o = cond (not v) 2 (cond (eqb (cond c 4 (cond b 5 0)) 0) (cond o 8 0) (cond c 4 (cond b 5 0)))

module _ {A : Type 0} (refuse : ℕ → A) (done : A) where
  calling : Bool → Bool → Bool → Bool → Bool → Bool → A
  calling a s v c b o = cond a (refuse 1) (cond s (cond (eqb (asking v c b o) 0) done (refuse (asking v c b o))) (refuse 6))

  abbrev ordered : Bool → Bool → Bool → Bool → Bool → Bool → ℕ
  ordered a s v c b o = cond a 1 (cond (not s) 6 (cond (not v) 2 (cond c 4 (cond b 5 (cond o 8 0)))))

  -- either done, or refused by the first condition that holds
  call-cases : (P : A → ℕ → Type 0) → P done 0 → ((n : ℕ) → P (refuse n) n) → (a s v c b o : Bool) → P (calling a s v c b o) (ordered a s v c b o)
  unfolding calling
  call-cases P d r true s v c b o = r 1
  call-cases P d r false false v c b o = r 6
  call-cases P d r false true false c b o = r 2
  call-cases P d r false true true true b o = r 4
  call-cases P d r false true true false true o = r 5
  call-cases P d r false true true false false true = r 8
  call-cases P d r false true true false false false = d

module _ (w : List ℕ) (q : Rect) (clauses o : List ℕ) where
  abbrev counted : Bool
  counted = eqb (length clauses) 0 || ltb CLAUSES (length clauses)

  abbrev refused : ℕ → Answer × List ℕ
  refused n = (no_answer n, o)

  query-is : (P : Answer × List ℕ → ℕ → Type 0) → P (query_answer w q clauses o) 0 → ((n : ℕ) → P (refused n) n)
      → P (query_call w q clauses o) (first_of (query_order w q clauses o (table_in w).count))
  unfolding query_call query_sound sound_refusal refusal_of calling
  query-is P d r =
      call-cases refused (query_answer w q clauses o) P d r (ltb (length w) TABLE_WORDS) (sound w) (valid q) counted (some_bad clauses)
      (ltb (length o) (table_in w).count)

  opened-is : (P : Opened → ℕ → Type 0) → P (record { refusal = 0; count = length (query_opened w q clauses) }) 0 → ((n : ℕ) → P (no_opened n) n)
      → P (opened_call w q clauses o) (first_of (query_order w q clauses o (length (table_in w).pages)))
  unfolding opened_call opened_sound sound_refusal refusal_of calling
  opened-is P d r =
      call-cases no_opened (record { refusal = 0; count = length (query_opened w q clauses) }) P d r (ltb (length w) TABLE_WORDS) (sound w)
      (valid q) counted (some_bad clauses) (ltb (length o) (length (table_in w).pages))

  query-done : (query_answer w q clauses o).0.refusal ≡ 0
  unfolding query_answer
  query-done = refl

-- admitted set

module _ (clauses : List ℕ) where
  admitting : Bool → Bool → AdmittedSet
  admitting c b = answer (cond c 4 (cond b 5 0)) clauses

  admitted-order : (c b : Bool) → (admitting c b).refusal ≡ cond c 4 (cond b 5 0)
  unfolding admitting
  admitted-order true b = refl
  admitted-order false true = refl
  admitted-order false false = refl

  admitted-none : (c b : Bool) → (admitting c b).refusal ≢ 0 → ((admitting c b).count ≡ 0) × ((admitting c b).rows ≡ replicate CODES 0)
  unfolding admitting
  admitted-none true b n = (refl, refl)
  admitted-none false true n = (refl, refl)
  admitted-none false false n = absurd (n refl)

  admitted-first : (admitted_of clauses).refusal ≡ first_of (admitted_order clauses)
  unfolding admitted_of refusal_of admitting
  admitted-first = admitted-order (eqb (length clauses) 0 || ltb CLAUSES (length clauses)) (some_bad clauses)

  admitted-counts : (admitted_of clauses).refusal ≢ 0 → ((admitted_of clauses).count ≡ 0) × ((admitted_of clauses).rows ≡ replicate CODES 0)
  unfolding admitted_of refusal_of admitting
  admitted-counts = admitted-none (eqb (length clauses) 0 || ltb CLAUSES (length clauses)) (some_bad clauses)

-- the calls on an outline

outline-order : (wrong range : Bool) → ◌≡◌ {A = ℕ} (cond wrong 10 (cond range 0 11)) (cond wrong 10 (cond (not range) 11 0))
outline-order true range = refl
outline-order false true = refl
outline-order false false = refl

module _ (o : List ℕ) where
  area-first : (area_call o).refusal ≡ first_of (area_order o)
  unfolding area_call outline_refusal
  area-first = outline-order (wrong_count (length o)) (within o)

  area-zero : (area_call o).refusal ≢ 0 → (area_call o).twice_area ≡ pos 0
  unfolding area_call
  area-zero n = rw (ne_eqb _ 0 n)

  module _ (x y : ℕ) where
    point-first : (point_call o x y).refusal ≡ first_of (point_order o x y)
    unfolding point_call outline_refusal
    point-first = outline-order (wrong_count (length o)) (within (x ∷ (y ∷ o)))

    point-zero : (point_call o x y).refusal ≢ 0 → (point_call o x y).place ≡ 0
    unfolding point_call
    point-zero n = rw (ne_eqb _ 0 n)

-- the shares of a piece

module _ (piece reference : Rect) where
  sharing : Bool → Bool → Shares
  sharing v w = cond (v && w) (shares_in (area_in piece reference) (area_of piece)) no_shares

  sharing-order : (v w : Bool) → (sharing v w).refusal ≡ cond (not v) 2 (cond (not w) 2 0)
  unfolding sharing shares_in no_shares
  sharing-order false w = refl
  sharing-order true false = refl
  sharing-order true true = refl

  abbrev Zero : Shares → Type 0
  Zero s = (s.areas ≡ replicate TILES 0) × (s.thousandths ≡ replicate TILES 0) × (s.remainders ≡ replicate TILES 0)

  sharing-none : (v w : Bool) → (sharing v w).refusal ≢ 0 → Zero (sharing v w)
  unfolding sharing shares_in no_shares
  sharing-none false w n = (refl, refl, refl)
  sharing-none true false n = (refl, refl, refl)
  sharing-none true true n = absurd (n refl)

  shares-first : (shares_call piece reference).refusal ≡ first_of (shares_order piece reference)
  unfolding shares_call sharing
  shares-first = sharing-order (valid piece) (valid reference)

  shares-zero : (shares_call piece reference).refusal ≢ 0 → Zero (shares_call piece reference)
  unfolding shares_call sharing
  shares-zero = sharing-none (valid piece) (valid reference)

-- the calls on a table

module _ (w : List ℕ) where
  empty-first : (empty_call w).0 ≡ first_of (empty_order w)
  unfolding empty_call emptied
  empty-first = empty-order w (empty_words ++ drop TABLE_WORDS w) (ltb (length w) TABLE_WORDS)

  empty-leaves : (empty_call w).0 ≢ 0 → (empty_call w).1 ≡ w
  unfolding empty_call emptied
  empty-leaves = empty-same w (empty_words ++ drop TABLE_WORDS w) (ltb (length w) TABLE_WORDS)

  check-first : (check_call w).refusal ≡ first_of (check_order w)
  unfolding check_call answered
  check-first = check-order (table_in w).count (ltb (length w) TABLE_WORDS) (sound w)

  module _ (n : ℕ) (r : Rect) where
    place-first : (place_call w n r).0 ≡ first_of (place_order w n r)
    unfolding place_call place_sound place_refusal placing
    place-first = place-order w (placed_words w n r) (ltb (length w) TABLE_WORDS) (sound w) (valid r) (leb PIECES n) (eqb (stored (table_in w) n) 0)

    place-leaves : (place_call w n r).0 ≢ 0 → (place_call w n r).1 ≡ w
    unfolding place_call place_sound place_refusal placing
    place-leaves = place_same w (placed_words w n r) (ltb (length w) TABLE_WORDS) (sound w) (valid r) (leb PIECES n) (eqb (stored (table_in w) n) 0)

module _ (z : NearestAnswer) where
  nearing : Bool → Bool → Bool → Bool → NearestAnswer
  nearing a b c d = cond a (no_nearest 1) (cond b (cond c (no_nearest 13) (cond d (no_nearest 14) z)) (no_nearest 6))

  nearest-order : z.refusal ≡ 0 → (a b c d : Bool) → (nearing a b c d).refusal ≡ cond a 1 (cond (not b) 6 (cond c 13 (cond d 14 0)))
  unfolding nearing
  nearest-order e true b c d = refl
  nearest-order e false false c d = refl
  nearest-order e false true true d = refl
  nearest-order e false true false true = refl
  nearest-order e false true false false = e

  nearest-none : z.refusal ≡ 0 → (a b c d : Bool) → (nearing a b c d).refusal ≢ 0 → nearing a b c d ≡ no_nearest (nearing a b c d).refusal
  unfolding nearing
  nearest-none e true b c d n = refl
  nearest-none e false false c d n = refl
  nearest-none e false true true d n = refl
  nearest-none e false true false true n = refl
  nearest-none e false true false false n = absurd (n e)

module _ (w : List ℕ) (x y allowance : ℕ) where
  abbrev accepted : NearestAnswer
  accepted = answer_for (found_on x y (table_in w) (opened_on x y (table_in w) allowance))

  nearest-first : (nearest_call w x y allowance).refusal ≡ first_of (nearest_order w x y allowance)
  unfolding nearest_call nearest_sound nearing
  nearest-first = nearest-order accepted refl (ltb (length w) TABLE_WORDS) (sound w) (out_of_range x y allowance) (eqb (table_in w).count 0)

  nearest-zero : (nearest_call w x y allowance).refusal ≢ 0 → nearest_call w x y allowance ≡ no_nearest (nearest_call w x y allowance).refusal
  unfolding nearest_call nearest_sound nearing
  nearest-zero = nearest-none accepted refl (ltb (length w) TABLE_WORDS) (sound w) (out_of_range x y allowance) (eqb (table_in w).count 0)

-- a refusal of opened pages leaves the words: all of them come after none
opened-same : (w : List ℕ) (q : Rect) (clauses before after : List ℕ) (r : Opened) → OpenedWords w q clauses before after r
    → r.refusal ≢ 0 → (r.count ≡ 0) × (after ≡ before)
opened-same w q clauses before after r O n =
    let none : r.refusal ≢ 0 → r.count ≡ 0 =
    subst (λ x. x.refusal ≢ 0 → x.count ≡ 0) (sym O.result)
    (opened-is w q clauses before (λ x m. x.refusal ≢ 0 → x.count ≡ 0) (λ z. absurd (z refl)) (λ m z. refl)) in
    (none n, ap (λ m. drop m after) (sym (none n)) ∙ (O.rest ∙ ap (λ m. drop m before) (none n)))

pub demand1 : Demand1
demand1 = record {
  empty = empty-first;
  check = check-first;
  place = place-first;
  query = λ w q clauses o. query-is w q clauses o (λ x n. x.0.refusal ≡ n) (query-done w q clauses o) (λ n. refl);
  opened = λ w q clauses before after r O. ap (λ x. x.refusal) O.result
      ∙ opened-is w q clauses before (λ x n. x.refusal ≡ n) refl (λ n. refl);
  admitted = admitted-first;
  area = area-first;
  point = point-first;
  shares = shares-first;
  nearest = nearest-first;
  numbers = λ w n r clauses o needed. (
    first-numbered (empty_order w) (refl, tt),
    first-numbered (check_order w) (refl, (refl, tt)),
    first-numbered (place_order w n r) (refl, (refl, (refl, (refl, (refl, tt))))),
    first-numbered (query_order w r clauses o needed) (refl, (refl, (refl, (refl, (refl, (refl, tt)))))),
    first-numbered (admitted_order clauses) (refl, (refl, tt)),
  );
  outline-numbers = λ o x y. (first-numbered (area_order o) (refl, (refl, tt)), first-numbered (point_order o x y) (refl, (refl, tt)));
  shares-numbers = λ piece reference. first-numbered (shares_order piece reference) (refl, (refl, tt));
  nearest-numbers = λ w x y allowance. first-numbered (nearest_order w x y allowance) (refl, (refl, (refl, (refl, tt))));
  empty-leaves = empty-leaves;
  check-counts = refused_none;
  place-leaves = place-leaves;
  query-leaves = λ w q clauses o. query-is w q clauses o (λ x n. x.0.refusal ≢ 0 → (x.0.hits ≡ 0) × (x.0.opened ≡ 0) × (x.1 ≡ o))
      (λ z. absurd (z (query-done w q clauses o))) (λ n z. (refl, refl, refl));
  opened-leaves = opened-same;
  admitted-counts = admitted-counts;
  area-zero = area-zero;
  point-zero = point-zero;
  shares-zero = shares-zero;
  nearest-zero = nearest-zero;
}
