-- The counts of units of a finite value that a format holds, as functions: it is `plus-units` of the format's smallest value, or minus `minus-units` of them.
-- So the comparisons are comparisons of whole numbers, and `width`, the units between two values, can be a loop's measure.
use Rattle.std.specs.Prelude.{◌≡◌, ℕ, suc, ◌+◌, ◌-◌, ◌*◌, ◌^◌, ◌<◌, ◌≤◌, Bool, true, false, not, ◌&&◌, T, ◌⊎◌, ◌↔◌, ℤ, pos, negsuc, nat_le, nat_lt, refl, Float}
use Rattle.std.proofs.Common.{sym, ap, ◌∙◌, inl, inr, le_of_eq, lt_irrefl, lt_of_lt_of_le, mul-one, zero-mul, mul_assoc, mul_comm, pow-suc, arith}
use Rattle.std.proofs.Common.{leb→le, pow-add}
use Rattle.std.proofs.Math.Path.{subst}
use Rattle.std.proofs.Math.Nat.{le_antisymm}
use Rattle.std.proofs.Math.Arith.{lt_of_le-ne}
use Rattle.std.specs.Float.{nan, inf, fin, Format}
use Rattle.std.specs.Float.Ieee.{prec, emax, low, up, down, neg, lt, eq, le, fits}
use Rattle.std.specs.Float.Ieee.Digits.{back}
use Rattle.std.specs.Float.Ieee.Fits.{and_l, and_r}
use Rattle.std.specs.Float.Ieee.Scale.{finite}
use Rattle.float.specs.Laws.Total.{eq_comm}
use Rattle.float.specs.Laws.Tests.{lt_not_eq, lt_before, total_le_lt}
use Rattle.float.specs.Promises.Order.{Le}
use Rattle.float.specs.Laws.Le.{le→Le, Le→le, or_r, or_split}
use Rattle.float.specs.Promises.Order.{Within}
use Rattle.float.specs.Laws.Within.{within→Le, fits→held, drop_pow}
use Rattle.float.specs.Laws.Range.{lt→Le, nlt→Le}
use Rattle.float.specs.Laws.Units.{Is, Is-neg, Is-Le, Le-Is}
use Rattle.float.specs.Promises.Order.{amount, plus_units, minus_units, width}

-- ---- the counts
-- for an exponent no less than the smallest value's
pub amount_is : (f : Format) (m : ℕ) (e : ℤ) → down e ≤ 2 ^ low f → m * up e * 2 ^ low f ≡ amount f m e * down e
amount_is f m (pos k) h = mul_assoc m (2 ^ k) (2 ^ low f) ∙ ap (λ (z : ℕ). m * z) (mul_comm (2 ^ k) (2 ^ low f) ∙ sym (pow-add 2 (low f) k))
    ∙ sym (mul-one (m * 2 ^ (low f + k)))
amount_is f m (negsuc k) h =
    ap (λ (z : ℕ). z * 2 ^ low f) (mul-one m)
    ∙ ap (λ (z : ℕ). m * z) (ap (λ (z : ℕ). 2 ^ z) (sym (back (low f) (suc k) (drop_pow (suc k) (low f) h))) ∙ pow-add 2 (low f - suc k) (suc k))
    ∙ sym (mul_assoc m (2 ^ (low f - suc k)) (2 ^ suc k))

pub fits_amount : (f : Format) (s : Bool) (m : ℕ) (e : ℤ) → T (fits f (fin s m e)) → m * up e * 2 ^ low f ≡ amount f m e * down e
fits_amount f s m e t =
    let b = nat_lt m (2 ^ prec f) in
    let c = nat_le (down e) (2 ^ low f) in
    let d = nat_lt (m * up e) (2 ^ suc (emax f) * down e) in
    amount_is f m e (leb→le (down e) (2 ^ low f) (and_l c d (and_r b (c && d) (fits→held f (fin s m e) t tt))))

pub whole_is : (f : Format) (x : Float) → T (fits f x) → T (finite x) → Is f x (plus_units f x) (minus_units f x) 0
whole_is f nan t p = absurd p
whole_is f (inf s) t p = absurd p
whole_is f (fin true m e) t p = record { real = tt; value = let a = fits_amount f true m e t in let b = zero-mul (down e) in omega arith }
whole_is f (fin false m e) t p = record { real = tt; value = let a = fits_amount f false m e t in let b = zero-mul (down e) in omega arith }

-- a power of two, with no bound on it
pub power_is : (f : Format) (k : ℕ) → Is f (fin false 1 (pos k)) (2 ^ (low f + k)) 0 0
power_is f k = record { real = tt; value = let a = pow-add 2 (low f) k in let b = mul_comm (2 ^ low f) (2 ^ k) in omega arith }

-- ---- the comparisons
not_both : (x y : Float) → T (lt x y) → T (lt y x) → ⊥
not_both x y h k = subst T (lt_before x y h) (total_le_lt y x k)

module _ (f : Format) (x y : Float) (p : T (fits f x)) (r : T (finite x)) (q : T (fits f y)) (s : T (finite y)) where
  pub Le-units : Le x y ↔ (plus_units f x + minus_units f y ≤ plus_units f y + minus_units f x)
  Le-units = (
    Le-Is f x y (plus_units f x) (minus_units f x) (plus_units f y) (minus_units f y) (whole_is f x p r) (whole_is f y q s),
    Is-Le f x y (plus_units f x) (minus_units f x) (plus_units f y) (minus_units f y) (whole_is f x p r) (whole_is f y q s),
  )

  pub le_units : T (le x y) ↔ (plus_units f x + minus_units f y ≤ plus_units f y + minus_units f x)
  le_units = ((λ h. Le-units.0 (le→Le x y r s h)), (λ h. Le→le (Le-units.1 h)))

module _ (f : Format) (x y : Float) (p : T (fits f x)) (r : T (finite x)) (q : T (fits f y)) (s : T (finite y)) where
  pub eq_units : T (eq x y) ↔ (plus_units f x + minus_units f y ≡ plus_units f y + minus_units f x)
  unfolding le
  eq_units = (
    (λ h. le_antisymm ((le_units f x y p r q s).0 (or_r (lt x y) (eq x y) h)) ((le_units f y x q s p r).0 (or_r (lt y x) (eq y x) (subst T (eq_comm x y) h)))),
    (λ h. go (or_split (lt x y) (eq x y) ((le_units f x y p r q s).1 (le_of_eq h)))
        (or_split (lt y x) (eq y x) ((le_units f y x q s p r).1 (le_of_eq (sym h))))),
  )
    where
      go : T (lt x y) ⊎ T (eq x y) → T (lt y x) ⊎ T (eq y x) → T (eq x y)
      go (inr e) k = e
      go (inl l) (inl k) = absurd (not_both x y l k)
      go (inl l) (inr e) = subst T (eq_comm y x) e

  pub lt_units : T (lt x y) ↔ (plus_units f x + minus_units f y < plus_units f y + minus_units f x)
  lt_units = (
    (λ h. lt_of_le-ne ((Le-units f x y p r q s).0 (lt→Le x y r s h)) (λ e. subst T (lt_not_eq x y h) (eq_units.1 e))),
    (λ h. go (lt x y) refl h),
  )
    where
      go : (b : Bool) → lt x y ≡ b → plus_units f x + minus_units f y < plus_units f y + minus_units f x → T b
      go true e h = tt
      go false e h = absurd (lt_irrefl _ (lt_of_lt_of_le h ((Le-units f y x q s p r).0 (nlt→Le x y r s (subst (λ (b : Bool). T (not b)) (sym e) tt)))))

-- a value of at most 2 ^ k in size
pub within_units : (f : Format) (k : ℕ) (x : Float) → T (fits f x) → Within (fin false 1 (pos k)) x
    → (plus_units f x ≤ 2 ^ (low f + k) + minus_units f x) × (minus_units f x ≤ plus_units f x + 2 ^ (low f + k))
within_units f k x t h =
    let B = fin false 1 (pos k) in
    let o = within→Le tt tt h in
    let w = whole_is f x t h.real in
    let a = Le-Is f x B (plus_units f x) (minus_units f x) (2 ^ (low f + k)) 0 w (power_is f k) o.0 in
    let b = Le-Is f (neg B) x 0 (2 ^ (low f + k)) (plus_units f x) (minus_units f x) (Is-neg f B (2 ^ (low f + k)) 0 0 (power_is f k)) w o.1 in
    (omega arith, omega arith)

pub width_within : (f : Format) (k : ℕ) (lo hi : Float) → T (fits f lo) → T (fits f hi) → Within (fin false 1 (pos k)) lo
    → Within (fin false 1 (pos k)) hi → width f lo hi ≤ 2 ^ suc (low f + k)
width_within f k lo hi s t g h =
    let a = within_units f k lo s g in
    let b = within_units f k hi t h in
    let e : 2 ^ suc (low f + k) ≡ 2 ^ (low f + k) * 2 = pow-suc 2 (low f + k) in
    omega arith
