-- `floor` gives the greatest whole number that is not above a finite value.
use Rattle.std.specs.Prelude.{◌≡◌, ℕ, zero, suc, ◌+◌, ◌*◌, ◌/◌, ◌%◌, ◌<◌, ◌≤◌, Bool, true, false, T, ℤ, pos, negsuc, ◌==◌}
use Rattle.std.proofs.Common.{ap, arith, eqb→eq}
use native.Mathlib.Nat.{div-mul-le_self, lt-div-mul-add, div-add-mod', lt_irrefl, suc-mul, zero-mul}
use Rattle.std.proofs.Math.IntN.{suc_ℤ}
use lib.Ieee.{Float, nan, inf, fin, up, down}
use lib.Ieee.Fits.{down_pos}
use Rattle.std.specs.Float.Ieee.Scale.{finite}
use Rattle.float.specs.Promises.Order.{Le}
use Rattle.float.specs.Number.{floor, minus}

-- k is the greatest whole number that is not above y
abbrev pub int : ℤ → Float
int (pos n) = fin false n (pos 0)
int (negsuc n) = fin true (suc n) (pos 0)

pub record Floor (y : Float) (k : ℤ) : Type 0 where
  pub reached : Le (int k) y
  pub last : Le (int (suc_ℤ k)) y → ⊥

up_floor : (a d : ℕ) → 0 < d → (suc (a / d) * d ≤ a) → ⊥
up_floor a d D h =
    let l : a < a / d * d + d = lt-div-mul-add D in
    let e : suc (a / d) * d ≡ a / d * d + d = suc-mul (a / d) d in
    lt_irrefl 0 (omega arith)

pub floor_is : (y : Float) → T (finite y) → Floor y (floor y)
floor_is nan p = absurd p
floor_is (inf s) p = absurd p
floor_is (fin false m e) p = record {
  reached = record { first = tt; second = tt; cross = let l = div-mul-le_self (m * up e) (down e) in low (m * up e) (m * up e / down e) (down e) l };
  last = λ h. up_floor (m * up e) (down e) (down_pos e) (high (m * up e) (suc (m * up e / down e)) (down e) h.cross);
}
  where
    low : (a q d : ℕ) → q * d ≤ a → q * 1 * d + 0 * 1 ≤ a * 1 + 0 * d
    low a q d h = let e : q * 1 * d ≡ q * d = ap (λ (z : ℕ). z * d) (native.Mathlib.Nat.mul-one q) in omega arith

    high : (a q d : ℕ) → q * 1 * d + 0 * 1 ≤ a * 1 + 0 * d → q * d ≤ a
    high a q d h = let e : q * 1 * d ≡ q * d = ap (λ (z : ℕ). z * d) (native.Mathlib.Nat.mul-one q) in omega arith
floor_is (fin true m e) p = go (m * up e / down e) (m * up e % down e) (m * up e % down e == 0) (div-add-mod' (m * up e) (down e))
    (native.Mathlib.Nat.mod-lt (m * up e) (down_pos e)) (eqb→eq (m * up e % down e) 0) (λ k. lib.Ieee.Fits.eq→eqb k)
  where
    one_d : (q d : ℕ) → q * 1 * d ≡ q * d
    one_d q d = ap (λ (z : ℕ). z * d) (native.Mathlib.Nat.mul-one q)

    go : (q r : ℕ) (b : Bool) → q * down e + r ≡ m * up e → r < down e → (T b → r ≡ 0) → (r ≡ 0 → T b) → Floor (fin true m e) (minus b q)
    go zero r true h k z w =
        let zz : r ≡ 0 = z tt in
        let e0 : 0 * down e ≡ 0 = zero-mul (down e) in
        let e1 : 0 * 1 * down e ≡ 0 = zero-mul (down e) in
        record {
          reached = record { first = tt; second = tt; cross = omega arith };
          last = λ l. let c = l.cross in let f1 = one_d 1 (down e) in lt_irrefl 0 (let D = down_pos e in omega arith);
        }
    go (suc zero) r true h k z w =
        let zz : r ≡ 0 = z tt in
        let f1 = one_d 1 (down e) in
        record {
          reached = record { first = tt; second = tt; cross = omega arith };
          last = λ l. let c = l.cross in let D = down_pos e in let e1 : 0 * 1 * down e ≡ 0 = zero-mul (down e) in lt_irrefl 0 (omega arith);
        }
    go (suc (suc q)) r true h k z w =
        let zz : r ≡ 0 = z tt in
        let f1 = one_d (suc (suc q)) (down e) in
        let f2 = one_d (suc q) (down e) in
        let f3 : suc (suc q) * down e ≡ suc q * down e + down e = suc-mul (suc q) (down e) in
        record {
          reached = record { first = tt; second = tt; cross = omega arith };
          last = λ l. let c = l.cross in let D = down_pos e in lt_irrefl 0 (omega arith);
        }
    go zero r false h k z w =
        let f1 = one_d 1 (down e) in
        let e0 : 0 * down e ≡ 0 = zero-mul (down e) in
        record {
          reached = record { first = tt; second = tt; cross = omega arith };
          last = λ l. let c = l.cross in let e1 : 0 * 1 * down e ≡ 0 = zero-mul (down e) in let rz : r ≡ 0 = omega arith in w rz;
        }
    go (suc q) r false h k z w =
        let f1 = one_d (suc (suc q)) (down e) in
        let f2 = one_d (suc q) (down e) in
        let f3 : suc (suc q) * down e ≡ suc q * down e + down e = suc-mul (suc q) (down e) in
        record { reached = record { first = tt; second = tt; cross = omega arith }; last = λ l. let c = l.cross in let rz : r ≡ 0 = omega arith in w rz }
