-- The root is opened, then one page a turn.
use native.Mathlib.Omega.{arith}
use mathlib.Core.Path.{◌≡◌, refl, sym, ap, subst, ◌∙◌}
use lib.ListN.{length}
use Rattle.std.specs.Prelude.{swap_remove}
use Rattle.std.proofs.lemmas.List.{get_or_default}
use Rattle.nearest.specs.Steps.{opened_for, Shows}
use Rattle.nearest.proofs.Shown.{none-nearer-least}
use Rattle.nearest.proofs.Searching.{root-ready, next-ready, stop-shows, open-inside, open-room, open-few, open-shows}
use Rattle.nearest.proofs.search.Search.search.Goals as goal
use Rattle.nearest.proofs.search.Search.search.Goals.{then-self-allowance-via-then-self-allowance, then-self-allowance-via-else-self-allowance+then-not-is_nearer}

pub loop-at-init : goal.loop-at-init
loop-at-init c =
    let s = c.args.self.now in record {
      ready = root-ready s.table s.point s c.requires.start _ c.root-p.ensures;
      some = omega (arith, c.requires.some, c.requires.start.opened);
      same = record { table = refl; point = refl };
    }

pub open-requires-clause-page : goal.open-requires-clause-page
open-requires-clause-page c =
    let i = c.loop-at.invariant in
    open-inside c.args.self.now c.loop-at.self i.same _ i.ready

pub open-requires-clause-room : goal.open-requires-clause-room
open-requires-clause-room c =
    let i = c.loop-at.invariant in
    open-room c.args.self.now c.loop-at.self i.same _ i.ready

pub open-requires-clause-few : goal.open-requires-clause-few
open-requires-clause-few c =
    let i = c.loop-at.invariant in
    open-few c.args.self.now c.loop-at.self i.same _ i.ready

pub returns-in_err-at-clause-shows : goal.returns-in_err-at-clause-shows
returns-in_err-at-clause-shows c =
    let s = c.args.self.now in
    let i = c.loop-at.invariant in
    let new = c.open.new.self in
    let shows = open-shows s c.loop-at.self i.same c.loop-at.p i.ready new c.open.ensures.opens in
    stop-shows s.table s.point new c.args.allowance shows (omega (arith, i.some, c.open.ensures.opens.count)) (λ k l. absurd (omega (arith, l, ap length c.in_err-at.ensures)))

pub returns-then-self-allowance-clause-shows : goal.returns-then-self-allowance-clause-shows
returns-then-self-allowance-clause-shows c =
    let s = c.args.self.now in
    let i = c.loop-at.invariant in
    let new = c.open.new.self in
    let shows = open-shows s c.loop-at.self i.same c.loop-at.p i.ready new c.open.ensures.opens in
    elim c.then-self-allowance.branch [
      | then-self-allowance-via-then-self-allowance w ↦
          let spent : new.opened ≡ c.args.allowance = omega (arith, w.if-self-allowance.true, i.some, c.open.ensures.opens.count) in
          subst (λ n. Shows s.table s.point new (opened_for s n)) spent shows
      | then-self-allowance-via-else-self-allowance+then-not-is_nearer w ↦
          stop-shows s.table s.point new c.args.allowance shows (omega (arith, i.some, c.open.ensures.opens.count))
          (none-nearer-least _ _ _ _ c.in_ok-at.ensures (sym w.is_nearer.ensures ∙ w.if-not-is_nearer.true))
    ]

pub loop-at-preserved : goal.loop-at-preserved
loop-at-preserved c =
    let s = c.args.self.now in
    let i = c.loop-at.invariant in
    let new = c.open.new.self in
    let o = c.open.ensures in
    let shows = open-shows s c.loop-at.self i.same c.loop-at.p i.ready new o.opens in
    let k = c.in_ok-at in
    let ws = new.waiting.items in
    let r = c.swap_remove-p in
    let out = r.ensures.value ∙ (get_or_default ws k.at r.result 0 k.ensures.inside ∙ k.ensures.there) in record {
      ready = next-ready s.table s.point new shows _ _
          (record {
            at = k.at;
            word = k.word;
            least = k.ensures;
            number = refl;
            nearer = sym c.is_nearer.ensures ∙ c.if-not-is_nearer.false;
            others = r.ensures.items ∙ ap (swap_remove ws k.at) out;
          })
          refl refl;
      some = omega (arith, i.some, o.opens.count, c.if-self-allowance.false);
      same = record { table = o.same.table ∙ i.same.table; point = o.same.point ∙ i.same.point };
    }
