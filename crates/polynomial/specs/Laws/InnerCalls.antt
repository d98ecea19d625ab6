-- What the operation Roots says of inner calls: a fair one is taken. A call of at most nine coefficients that are small, between bounds that can be bisected,
-- is fair.
use Rattle.std.specs.Prelude.{ℕ, ◌+◌, ◌%◌, ◌≤◌, ◌≡◌, refl, Bool, true, false, not, ◌&&◌, ◌||◌, cond, List, [], ◌∷◌, pos, T, leb, length, Float, Ok, Err}
use Rattle.std.proofs.Common.{arith, ap, ap₂, ◌∙◌, lit<, le-leb, le-ltb, ne_eqb}
use Rattle.std.specs.Float.{fin}
use Rattle.std.specs.Float.Ieee.{neg, lt, le, eq, fits}
use Rattle.float.specs.Number.{abs, one_float}
use Rattle.float.specs.Trig.{four_float}
use Rattle.float.specs.Promises.Order.{Le, Within, Span}
use Rattle.float.specs.Laws.Le.{le→Le, Le→le, or_l}
use Rattle.float.specs.Laws.Within.{numeral, within→Le}
use Rattle.float.specs.Laws.Interval.{Le-trans}
use Rattle.float.specs.Laws.Range.{within_abs, nlt→Le}
use Rattle.float.specs.Laws.Under.{Under}
use Rattle.polynomial.specs.Roots.{roots}
use Rattle.polynomial.specs.Operation.{pairs, bad_length, bounds_hold, part_holds, parts_hold, largest_part, answer}
use Rattle.polynomial.specs.InnerCalls.{Call, parts, counts, taken, all_taken, Fair}
use Rattle.polynomial.specs.Promises.Lists.{All}
use Rattle.polynomial.specs.Laws.Enclosed.{all_most}
use Rattle.polynomial.specs.Laws.Size.{All-small, none, more}
use Rattle.polynomial.specs.declared.compensated.Compensated.{Compensated}
use Rattle.polynomial.specs.declared.refusals.Refusal.TheVariants.{BadPart, BadBounds, ShortResult}

-- ---- a fair call is taken

pairs_parts : (p : List Compensated) → pairs (parts p) ≡ p
unfolding pairs parts
pairs_parts [] = refl
pairs_parts (c ∷ cs) = ap (λ (l : List Compensated). c ∷ l) (pairs_parts cs)

twice : (p : List Compensated) → length (parts p) ≡ length p + length p
unfolding parts
twice [] = refl
twice (c ∷ cs) = let e = twice cs in omega arith

good_length : (p : List Compensated) → length p ≤ 9 → bad_length (parts p) ≡ false
good_length p h =
    let e = twice p in
    ap₂ ◌||◌ (ne_eqb (length (parts p) % 2) 1 (λ o. odd (length p) (length (parts p)) e o)) (le-ltb 18 (length (parts p)) (omega arith))
  where
    odd : (n m : ℕ) → m ≡ n + n → m % 2 ≡ 1 → ⊥
    odd n m e o = omega arith

yes : (b : Bool) → T b → b ≡ true
yes true t = refl
yes false t = absurd t

sizes_hold : (l : List Float) → All (λ x. T (lt (abs x) largest_part)) l → parts_hold l ≡ true
unfolding parts_hold le
sizes_hold [] h = refl
sizes_hold (x ∷ l) h = ap₂ ◌&&◌ (yes (part_holds x) (or_l (lt (abs x) largest_part) (eq (abs x) largest_part) h.0)) (sizes_hold l h.1)

by_tests : (a b c : Bool) (n : ℕ) → a ≡ true → b ≡ true → c ≡ true
    → counts (cond a (cond b (cond (c && c) (Ok n) (Err ShortResult)) (Err BadPart)) (Err BadBounds)) ≡ true
by_tests a b c n x y z = rw (x, y, z)

-- THEOREM: Roots, lent 509 places of each slice, answers a fair call with a count.
pub fair_taken : (c : Call) → Fair c → taken c ≡ true
unfolding taken answer
fair_taken c f =
    let p = c.coefficients in
    let n = length (roots p c.lower c.upper) in
    let e : taken c ≡ counts (cond (bounds_hold c.lower c.upper)
    (cond (parts_hold (parts p)) (cond (leb n 509 && leb n 509) (Ok n) (Err ShortResult)) (Err BadPart))
    (Err BadBounds)) = simp (good_length p f.few, pairs_parts p) in
    e
    ∙ by_tests (bounds_hold c.lower c.upper) (parts_hold (parts p)) (leb n 509) n
    (simp (
      yes (le (abs c.lower) four_float) f.lower_within,
      yes (le (abs c.upper) four_float) f.upper_within,
      yes (le c.lower c.upper)
          f.order,
    )) (sizes_hold (parts p) f.sizes) (le-leb n 509 f.places)

pub all_fair_taken : (cs : List Call) → All Fair cs → all_taken cs ≡ true
unfolding all_taken
all_fair_taken [] h = refl
all_fair_taken (c ∷ cs) h = ap₂ ◌&&◌ (fair_taken c h.0) (all_fair_taken cs h.1)

-- ---- a small call is fair

part_under : {x : Float} → Under 399 x → T (lt (abs x) largest_part)
unfolding le
part_under {x} u = go (lt (abs x) largest_part) (nlt→Le (abs x) largest_part (within_abs u).real tt)
  where
    go : (b : Bool) → (T (not b) → Le largest_part (abs x)) → T b
    go true k = tt
    go false k = absurd (Le→le (Le-trans (k tt) (within→Le tt tt (within_abs u)).0))

sizes_of : {p : List Compensated} → All-small 399 p → All (λ x. T (lt (abs x) largest_part)) (parts p)
unfolding parts
sizes_of none = tt
sizes_of (more s t) = (part_under s.high, (part_under s.low, sizes_of t))

abs_le : {x : Float} → Within four_float x → T (le (abs x) four_float)
abs_le h = Le→le (within→Le tt tt (within_abs h)).0

-- nine coefficients have at most 2 ^ 9 - 3 = 509 roots
pub small_fair : {p : List Compensated} (lower upper : Float) → Span 2 lower upper → All-small 399 p → length p ≤ 9
    → Fair (record { coefficients = p; lower = lower; upper = upper })
small_fair {p} lower upper s a l =
    record {
      lower_within = abs_le s.lo_within;
      upper_within = abs_le s.hi_within;
      order = Le→le s.order;
      few = l;
      sizes = sizes_of a;
      places = all_most lower upper 9 p l;
    }

-- the bounds of a squared norm's calls
pub one_span : Span 2 (neg one_float) one_float
unfolding neg le fits
one_span =
    record {
      room = lit< tt;
      lo_fits = tt;
      hi_fits = tt;
      lo_within = numeral (fin false 1 (pos 2)) (neg one_float) tt;
      hi_within = numeral (fin false 1 (pos 2)) one_float tt;
      order = le→Le (neg one_float) one_float tt tt tt;
    }
