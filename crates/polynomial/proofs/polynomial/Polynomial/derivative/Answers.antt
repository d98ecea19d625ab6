-- `polynomial::polynomial::Polynomial::derivative` meets its contract. The loop's invariant: what is stored, and then the coefficients
-- from i on times their powers.
use Rattle.std.proofs.Common.{◌≡◌, suc, ◌^◌, ap, sym, ◌∙◌, List, [], ◌∷◌, ◌++◌, drop, append_assoc, arith, ℕ, ◌+◌, ◌<◌, length, get_or, add-one, ap₂}
use Rattle.std.proofs.Math.Seq.{drop-cons}
use mathlib.Core.List.{append-nil}
use lib.ListN.{drop_of_length-le}
use lib.Dec.{le→leb}
use lib.Ieee.{binary64, of_int, in_float}
use lib.IntN.{pos}
use Rattle.polynomial.specs.Compensated.{from, times}
use Rattle.polynomial.specs.Polynomial.{powered, derivative}
use Rattle.polynomial.specs.declared.compensated.Compensated.{Compensated}
use Rattle.polynomial.proofs.polynomial.Polynomial.derivative.Goals as goal

start : (p d : List Compensated) → d ≡ [] → d ++ powered 1 (drop 1 p) ≡ derivative p
unfolding powered derivative
start [] d e = ap (λ l. l ++ []) e
start (c ∷ cs) d e = ap (λ l. l ++ powered 1 cs) e

-- one more coefficient is stored
more : (p d e : List Compensated) (i : ℕ) (v z : Compensated) → i < length p → e ≡ d ++ v ∷ [] → v ≡ times (get_or p i z) (from (of_int binary64 (pos i)))
    → d ++ powered i (drop i p) ≡ derivative p → e ++ powered (i + 1) (drop (i + 1) p) ≡ derivative p
unfolding powered
more p d e i v z h E V W =
    ap₂ (λ l (j : ℕ). l ++ powered j (drop j p)) E (add-one i)
    ∙ append_assoc d (v ∷ []) (powered (suc i) (drop (suc i) p))
    ∙ ap (λ c. d ++ c ∷ powered (suc i) (drop (suc i) p)) V
    ∙ ap (λ l. d ++ powered i l) (sym (drop-cons p i z h))
    ∙ W

pub loop-i-init : goal.loop-i-init
loop-i-init c = record { long = ap (λ l. length l + 1) c.new-d.ensures; whole = start c.args.self.terms.now _ c.new-d.ensures }

pub int_to_float-i : goal.int_to_float-i
unfolding in_float
int_to_float-i c = le→leb c.loop-i.i (2 ^ 53) (omega arith)

pub loop-i-preserved : goal.loop-i-preserved
loop-i-preserved c = record {
  long = omega arith;
  whole = more c.args.self.terms.now c.loop-i.d.items _ c.loop-i.i c.mul.result _ c.loop-i-test.true c.push.ensures.items
      (c.mul.ensures ∙ ap (times _) c.from.ensures) c.loop-i.invariant.whole;
}

pub returns : goal.returns
unfolding powered
returns c =
    let e = drop_of_length-le c.args.self.terms.now {i = c.loop-i.i} c.loop-i-test.false in
    sym (append-nil c.loop-i.d.items) ∙ ap (λ l. c.loop-i.d.items ++ powered c.loop-i.i l) (sym e) ∙ c.loop-i.invariant.whole
