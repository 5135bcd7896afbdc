-- By the level: what was counted and visited, and what the entries left lead to, make the whole.
use Prim.Native.Nat.{◌-◌}
use native.Mathlib.Omega.{arith}
use mathlib.Core.Path.{refl, sym, ap, subst, ◌∙◌}
use lib.ListN.{length, length-append}
use Rattle.pages.specs.Lists.{concat_map, Every}
use Rattle.pages.specs.Left.{left}
use Rattle.query.specs.Opening.{opened_under}
use Rattle.pages.specs.Rectangles.{Small}
use Rattle.query.specs.Steps.{SoundPage}
use Rattle.query.specs.Search.{opens_in, table_of}
use Rattle.query.proofs.Edges.{child-entries}
use Rattle.query.proofs.Walking.{open_each, opened_one, opened-leaf, opened-above, open-step, shut-step, visit_one, visit-first, visit_none, VisitsAll-append}
use Rattle.query.proofs.searches.Search.+walk.Goals as goal

pub visit-requires-clause-room : goal.visit-requires-clause-room
visit-requires-clause-room g t c =
    let a = c.args in
    omega (arith, c.requires.room, opened_one (opens_in a.self.now) (table_of a.self.now).pages a.level a.p)

pub returns-then-level-eq0-clause-count : goal.returns-then-level-eq0-clause-count
returns-then-level-eq0-clause-count g t c =
    let a = c.args in
    omega (arith, ap length (opened-leaf (opens_in a.self.now) (table_of a.self.now).pages a.level a.p c.if-level-eq0.true))

pub returns-then-level-eq0-clause-visited : goal.returns-then-level-eq0-clause-visited
returns-then-level-eq0-clause-visited g t c =
    let a = c.args in
    rw (opened-leaf (opens_in a.self.now) (table_of a.self.now).pages a.level a.p c.if-level-eq0.true) (visit_one _ _ _ _ _ c.visit.ensures.visited)

pub loop-e-init : goal.loop-e-init
loop-e-init g t c =
    let a = c.args in
    let ps = (table_of a.self.now).pages in
    let z = c.if-level-eq0.false in
    let e = ap left c.into_iter-e-iterator.ensures.into_iter_gives ∙ c.entries-e-items.ensures in
    let above = opened-above (opens_in a.self.now) ps a.level a.p z in
    let still = ap (concat_map (open_each (opens_in a.self.now) ps (a.level - 1))) e in record {
      count = omega (arith, ap length above, ap length still);
      visited = λ w v. rw (above, ← still) (visit-first (g.V.Visitor.Visited a.self.now) _ _ _ w _ _ c.visit.ensures.visited v);
      limit = c.visit.ensures.limit;
      each = subst (Every (λ x. Small x.rect × SoundPage a.self.now.table.words.now x.r (a.level - 1))) (sym e) (child-entries a.self.now.table.words.now a.p a.level c.requires.page z);
    }

pub opens-requires : goal.opens-requires
opens-requires g t c =
    let a = c.args in
    (subst (Every (λ x. Small x.rect × SoundPage a.self.now.table.words.now x.r (a.level - 1))) c.in-Some.ensures.steps c.loop-e.invariant.each).0.0

pub walk-count-requires : goal.walk-count-requires
walk-count-requires g t c κs within =
    let a = c.args in
    let i = c.loop-e.invariant in
    let s = c.in-Some.ensures.steps in
    let z = c.if-level-eq0.false in
    let ps = (table_of a.self.now).pages in
    let y = sym c.opens.ensures ∙ c.if-opens.true in
    let rest = concat_map (open_each (opens_in a.self.now) ps (a.level - 1)) (left c.next.new.self) in
    let n = ap length (open-step (opens_in a.self.now) ps (a.level - 1) _ _ c.in-Some.e s y) ∙ length-append (opened_under (opens_in a.self.now) ps (a.level - 1) c.in-Some.e.r) rest in (
      omega arith,
      (
        within,
        (
          (subst (Every (λ x. Small x.rect × SoundPage a.self.now.table.words.now x.r (a.level - 1))) s i.each).0.1,
          (omega (arith, c.requires.few, i.count, n), rw i.limit (omega (arith, c.requires.room, i.count, n))),
        ),
      ),
    )

pub loop-e-preserved-then-opens : goal.loop-e-preserved-then-opens
loop-e-preserved-then-opens g t c =
    let a = c.args in
    let i = c.loop-e.invariant in
    let s = c.in-Some.ensures.steps in
    let ps = (table_of a.self.now).pages in
    let y = sym c.opens.ensures ∙ c.if-opens.true in
    let k = c.walk-count.ensures in
    let R = g.V.Visitor.Visited a.self.now in
    let opened = opened_under (opens_in a.self.now) ps (a.level - 1) c.in-Some.e.r in
    let rest = concat_map (open_each (opens_in a.self.now) ps (a.level - 1)) (left c.next.new.self) in
    let step = open-step (opens_in a.self.now) ps (a.level - 1) _ _ c.in-Some.e s y in record {
      count = omega (arith, i.count, k.count, ap length step, length-append opened rest);
      visited = λ w v. i.visited w (rw step (VisitsAll-append R opened rest _ _ w _ k.visited (rw k.count at v)));
      limit = k.limit ∙ i.limit;
      each = (subst (Every (λ x. Small x.rect × SoundPage a.self.now.table.words.now x.r (a.level - 1))) s i.each).1;
    }

pub loop-e-preserved : goal.loop-e-preserved
loop-e-preserved g t c =
    let a = c.args in
    let i = c.loop-e.invariant in
    let s = c.in-Some.ensures.steps in
    let ps = (table_of a.self.now).pages in
    let y = sym c.opens.ensures ∙ c.if-opens.false in
    let step = shut-step (opens_in a.self.now) ps (a.level - 1) _ _ c.in-Some.e s y in record {
      count = omega (arith, i.count, ap length step);
      visited = λ w v. i.visited w (rw step v);
      limit = i.limit;
      each = (subst (Every (λ x. Small x.rect × SoundPage a.self.now.table.words.now x.r (a.level - 1))) s i.each).1;
    }

pub returns-clause-count : goal.returns-clause-count
returns-clause-count g t c =
    let a = c.args in
    let none = ap (concat_map (open_each (opens_in a.self.now) (table_of a.self.now).pages (a.level - 1))) c.in-None.ensures.steps.0 in
    omega (arith, c.loop-e.invariant.count, ap length none)

pub returns-clause-visited : goal.returns-clause-visited
returns-clause-visited g t c =
    let a = c.args in
    let none = ap (concat_map (open_each (opens_in a.self.now) (table_of a.self.now).pages (a.level - 1))) c.in-None.ensures.steps.0 in
    c.loop-e.invariant.visited _ (rw none (visit_none _ _ _ _ refl))
