-- `polynomial::roots::scan` meets its contract. The invariant is `Scanned` and `Gathered`.
use Rattle.std.proofs.Common.{subst, sym, le_refl, length}
use lib.Seq.{take-length}
use lib.Ieee.{nan}
use Rattle.polynomial.specs.Promises.Front.{Front}
use Rattle.polynomial.specs.Promises.Inside.{Ready, found}
use Rattle.polynomial.proofs.roots.Gathered.{counts_one, gathered_first, next_point, gathered_more}
use Rattle.polynomial.proofs.roots.Scanned.{scan_first, span, cross_room, scan_more, scan_last}
use Rattle.polynomial.proofs.roots.scan.Goals as goal

pub loop-i-init : goal.loop-i-init
loop-i-init c = let a = c.args in
    let n = length a.points.now in
    record {
      scanned = scan_first a.p.terms.now a.points.now n (le_refl n) a.out.now _ _ _ _ c.requires.1 c.requires.0
          (subst Ready (sym (take-length a.points.now)) c.requires.2) c.look-first.ensures.stands c.look-first.ensures.kept;
      gathered = gathered_first a.p.terms.now a.points.now nan _ c.requires.0 (counts_one _ _ _ c.from-near.ensures c.look-first.ensures.near_value);
    }

pub cross-k-requires : goal.cross-k-requires
cross-k-requires c = let a = c.args in
    let n = length a.points.now in
    let i = c.loop-i-test.true in
    let e = next_point a.p.terms.now a.points.now c.loop-i.points c.loop-i.near c.loop-i.i c.loop-i.invariant.gathered i nan in
    cross_room a.p.terms.now a.points.now n (le_refl n) _ _ _ _ _ _ _ c.loop-i.invariant.scanned i nan _ e c.look-seen.result.v _ _
    c.look-seen.ensures.stands c.look-seen.ensures.kept

pub invariant_of-ends : goal.invariant_of-ends
invariant_of-ends c = let a = c.args in
    let n = length a.points.now in
    let i = c.loop-i-test.true in
    let e = next_point a.p.terms.now a.points.now c.loop-i.points c.loop-i.near c.loop-i.i c.loop-i.invariant.gathered i nan in
    record { span = span a.p.terms.now a.points.now n (le_refl n) _ _ _ _ _ _ _ c.loop-i.invariant.scanned i nan _ e }

pub loop-i-preserved : goal.loop-i-preserved
loop-i-preserved c = let a = c.args in
    let n = length a.points.now in
    let i = c.loop-i-test.true in
    let e = next_point a.p.terms.now a.points.now c.loop-i.points c.loop-i.near c.loop-i.i c.loop-i.invariant.gathered i nan in
    record {
      scanned = scan_more a.p.terms.now a.points.now n (le_refl n) _ _ _ _ _ _ _ c.loop-i.invariant.scanned i nan _ e
          c.look-seen.result.v _ _ c.look-seen.ensures.stands c.look-seen.ensures.kept _ _ c.cross-k.ensures;
      gathered = gathered_more a.p.terms.now a.points.now c.loop-i.points c.loop-i.near c.loop-i.i c.loop-i.invariant.gathered i nan _ e
          _ (counts_one _ _ _ c.from-near-in-loop-i.ensures c.look-seen.ensures.near_value);
    }

pub returns-clause-roots : goal.returns-clause-roots
returns-clause-roots c =
    let a = c.args in
    let n = length a.points.now in
    subst (λ l. Front (found a.p.terms.now l) a.out.now c.loop-i.k c.loop-i.out) (take-length a.points.now)
    (scan_last a.p.terms.now a.points.now n (le_refl n) a.out.now _ _ _ _ _ _ _ _ c.look-first.ensures.kept
    c.loop-i.invariant.scanned c.loop-i-test.false)
