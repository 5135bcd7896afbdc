-- A search step by step: the root is opened, then what is taken, and at a stop it has opened all that the allowance has it open.
use Prim.Native.Nat.{ℕ, suc, ◌+◌, ◌≤◌, ◌<◌}
use native.Mathlib.Omega.{arith}
use mathlib.Core.Path.{◌≡◌, sym, ap, subst, ◌∙◌}
use mathlib.Core.Bool.{true}
use mathlib.Core.List.{List, [], ◌∷◌, ◌++◌}
use lib.ListN.{length, length-append}
use borrow.Author.Tests.{eq-eqb}
use Rattle.std.specs.Prelude.{Option, Some, None, option_map, MatchOption}
use Rattle.pages.specs.Sizes.{PAGES}
use Rattle.pages.specs.Lists.{sum, is_among}
use Rattle.pages.specs.Layout.{Table, page, table_in}
use Rattle.pages.specs.Sound.{child_entries}
use Rattle.pages.proofs.Lists.{sum-length}
use Rattle.pages.proofs.Facts.{Facts}
use Rattle.pages.proofs.Whole.{sound-in}
use Rattle.soundness.specs.declared.table.SoundTable.{SoundTable}
use Rattle.nearest.specs.declared.point.Point.{Point}
use Rattle.nearest.specs.declared.search.Search.{Search}
use Rattle.nearest.specs.declared.Near.{Near}
use Rattle.nearest.specs.declared.Nearest.{Nearest}
use Rattle.nearest.specs.Search.{nearest, reached, unopened, page_near, waiting, best, opened_on}
use Rattle.nearest.specs.Calls.{found_on}
use Rattle.nearest.specs.Steps.{near_in, piece_in, IsLeastDistance, searched_table, opened_for, Same, IsFresh, Opens, Shows}
use Rattle.nearest.proofs.Reached.{Walked, walked-none, walked-next, unopened-next, opens-inside, few}
use Rattle.nearest.proofs.Walk.{stays, opened-first, opened-walked}
use Rattle.nearest.proofs.Words.{children-fit, pieces-fit}
use Rattle.nearest.proofs.Shown.{NoWordNearer, Taken, least-nearest, none-waiting, stops, next-is, was-unopened, others-shown, opens-words, opens-best}

module _ (table : SoundTable) (point : Point) where
  abbrev x : ℕ
  x = point.x

  abbrev y : ℕ
  y = point.y

  abbrev t : Table
  t = table_in table.words.now

  F : Facts t
  F = sound-in table.words.now table.holds

  abbrev on : ℕ → List ℕ
  on n = opened_on x y t n

  -- page p is opened, which was waiting: in `old` its word is no more among the others
  module _ (opened : List ℕ) (W : Walked t opened) (p : ℕ) (here : is_among p (unopened t opened) ≡ true) (old : Search)
      (others : (g : Near → ℕ) → sum (λ w. g (near_in w)) old.waiting.items + g (page_near x y t p) ≡ sum (λ q. g (page_near x y t q)) (unopened t opened))
      (piece : piece_in old.best ≡ best x y t opened) (count : old.opened ≡ length opened) where
    inside : p < length t.pages
    inside = opens-inside t F opened W p here

    opened-shows : (new : Search) → Opens table point old p new → Shows table point new (opened ++ p ∷ [])
    opened-shows new o = record {
      words = λ g. ap (sum (λ w. g (near_in w))) o.waiting ∙ opens-words x y t F opened W p here (children-fit table.words.now table.holds p inside) old.waiting.items others g;
      piece = ap piece_in o.best ∙ opens-best x y t F point.x_most point.y_most opened p old.best piece (pieces-fit table.words.now table.holds p inside);
      count = omega (arith, o.count, count, length-append opened (p ∷ []));
    }

    -- there is room for its children
    opened-room : (length old.waiting.items + length (child_entries (page t p)) ≤ PAGES) × (old.opened < PAGES)
    opened-room =
        let few = few t F (opened ++ p ∷ []) (walked-next t F opened W p here) in
        let n = unopened-next t F opened W p here (λ q. 1) in
        let m = others (λ a. 1) in
        let l = length-append opened (p ∷ []) in (
          omega (
            arith,
            F.most,
            few,
            n,
            m,
            l,
            sum-length old.waiting.items,
            sum-length (unopened t opened),
            sum-length (unopened t (opened ++ p ∷ [])),
            sum-length (child_entries (page t p)),
          ),
          omega (arith, F.most, few, l, count),
        )

  -- a search that is to open page p next: the pages opened so far and p are those of an allowance of one more than their number
  pub record Ready (s : Search) (p : ℕ) : Type 0 where
    opened : List ℕ
    walked : Walked t opened
    waits : is_among p (unopened t opened) ≡ true
    others : (g : Near → ℕ) → sum (λ w. g (near_in w)) s.waiting.items + g (page_near x y t p) ≡ sum (λ q. g (page_near x y t q)) (unopened t opened)
    piece : piece_in s.best ≡ best x y t opened
    count : s.opened ≡ length opened
    next : opened ++ p ∷ [] ≡ on (s.opened + 1)

  module _ (s : Search) (p : ℕ) (r : Ready s p) where
    pub ready-inside : p < length t.pages
    ready-inside = inside r.opened r.walked p r.waits s r.others r.piece r.count

    pub ready-room : (length s.waiting.items + length (child_entries (page t p)) ≤ PAGES) × (s.opened < PAGES)
    ready-room = opened-room r.opened r.walked p r.waits s r.others r.piece r.count

    pub ready-shows : (new : Search) → Opens table point s p new → Shows table point new (on new.opened)
    ready-shows new o =
        subst (Shows table point new) (r.next ∙ ap on (sym o.count)) (opened-shows r.opened r.walked p r.waits s r.others r.piece r.count new o)

  -- the root is opened first
  pub root-ready : (s : Search) → IsFresh s → (p : ℕ) → p ≡ t.root → Ready s p
  unfolding unopened reached best nearest
  root-ready s fresh p root = record {
    opened = [];
    walked = walked-none t F;
    waits = rw (eq-eqb p t.root root);
    others = λ g. rw (fresh.waiting, root) (omega arith);
    piece = ap piece_in fresh.best;
    count = fresh.opened;
    next = ap (λ q. q ∷ []) root ∙ sym (opened-first x y t) ∙ ap on (omega (arith, fresh.opened));
  }

  -- then what is taken
  pub next-ready : (s : Search) → Shows table point s (on s.opened) → (rest : Search) (p : ℕ) → Taken s.waiting.items s.best p rest.waiting.items
      → rest.best ≡ s.best → rest.opened ≡ s.opened → Ready rest p
  next-ready s shows rest p taken same-best same-count = record {
    opened = on s.opened;
    walked = opened-walked x y t F s.opened;
    waits = was-unopened x y t s.waiting.items (on s.opened) shows.words s.best shows.piece p rest.waiting.items taken;
    others = others-shown x y t s.waiting.items (on s.opened) shows.words s.best shows.piece p rest.waiting.items taken;
    piece = ap piece_in same-best ∙ shows.piece;
    count = same-count ∙ shows.count;
    next = sym more ∙ ap on (omega (arith, same-count));
  }
    where
      more : on (suc s.opened) ≡ on s.opened ++ p ∷ []
      more = unfold opened_on in next-is x y t s.waiting.items (on s.opened) shows.words s.best shows.piece p rest.waiting.items taken

  -- at a stop, all that a larger allowance has it open is opened
  pub stop-shows : (s : Search) (m : ℕ) → Shows table point s (on s.opened) → s.opened ≤ m → NoWordNearer s.waiting.items s.best → Shows table point s (on m)
  stop-shows s m shows l none =
      subst (Shows table point s) (sym (stays x y t s.opened m l (stops x y t s.waiting.items (on s.opened) shows.words s.best shows.piece none))) shows

  -- what is found in the end
  module _ (opened : List ℕ) (s : Search) (shows : Shows table point s opened) where
    pub found-is : (left : Option ℕ) → MatchOption left (s.waiting.items ≡ []) (IsLeastDistance s.waiting.items)
        → ◌≡◌ {A = Nearest} (record { piece = piece_in s.best; opened = s.opened; left = left }) (found_on x y t opened)
    unfolding found_on
    found-is left h = λ i. record { piece = shows.piece i; opened = shows.count i; left = left-is left h i }
      where
        left-is : (left : Option ℕ) → MatchOption left (s.waiting.items ≡ []) (IsLeastDistance s.waiting.items) → left ≡ option_map (λ a. a.distance) (nearest (waiting x y t opened))
        left-is None e = sym (ap (option_map (λ a. a.distance)) (none-waiting x y t s.waiting.items opened shows.words e))
        left-is (Some d) l = ap Some l.is ∙ sym (ap (option_map (λ a. a.distance)) (least-nearest x y t s.waiting.items opened shows.words l.at l.word l.least))

-- in a search that goes on with the table and the point that it began with
module _ (s old : Search) (same : Same s old) (p : ℕ) (r : Ready s.table s.point old p) where
  pub open-inside : p < length (searched_table old).pages
  open-inside = subst (λ z. p < length (table_in z.words.now).pages) (sym same.table) (ready-inside s.table s.point old p r)

  pub open-room : length old.waiting.items + length (child_entries (page (searched_table old) p)) ≤ PAGES
  open-room =
      subst (λ z. length old.waiting.items + length (child_entries (page (table_in z.words.now) p)) ≤ PAGES) (sym same.table) (ready-room s.table s.point old p r).0

  pub open-few : old.opened < PAGES
  open-few = (ready-room s.table s.point old p r).1

  pub open-shows : (new : Search) → Opens old.table old.point old p new → Shows s.table s.point new (opened_for s new.opened)
  open-shows new o =
      ready-shows s.table s.point old p r new
      (subst (λ z. Opens z s.point old p new) same.table (subst (λ z. Opens old.table z old p new) same.point o))
