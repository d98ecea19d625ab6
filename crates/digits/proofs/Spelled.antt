-- How large the number is that hexadecimal digits stand for.
use Rattle.std.proofs.Common.{ℕ, zero, suc, ◌+◌, ◌*◌, ◌-◌, ◌^◌, ◌≤◌, ◌<◌, ◌≡◌, refl, Bool, true}
use Rattle.std.proofs.Common.{false, cond, ◌&&◌, List, leb, ltb, lit<, get_or, leb-true, length, take, zero-add, add-one, ◌∙◌}
use Rattle.std.specs.List.{between, list_all}
use Rattle.std.proofs.lemmas.List.Edits.{get_or-between, length-between}
use Rattle.std.proofs.lemmas.List.Folds.{list_all_more}
use Rattle.std.proofs.lemmas.List.{take_all}
use Rattle.std.proofs.Common.{pow-suc, arith}
use Rattle.std.proofs.Math.Nat.{pow-le-pow_right}
use Rattle.digits.specs.Hex.{is_digit, digit, digits, value}

either : (t : Bool) (x y : ℕ) → (t ≡ true → x < 16) → y < 16 → cond t x y < 16
either true x y f g = f refl
either false x y f g = g

pub digit_below : (b : ℕ) → digit b < 16
unfolding digit
digit_below b =
    either (ltb b 48) 0 _ (λ _. lit< tt)
    (either (leb b 57) (b - 48) _ (λ h. omega (arith, leb-true b 57 h))
    (either (ltb b 65) 0 _ (λ _. lit< tt)
    (either (leb b 70) (b - 55) 0 (λ h. omega (arith, leb-true b 70 h)) (lit< tt))))

pub value_below : (s : List ℕ) (at n : ℕ) → value s at n < 16 ^ n
unfolding value
value_below s at zero = lit< tt
value_below s at (suc n) =
    let m : value s at n < 16 ^ n = value_below s at n in
    let d : digit (get_or s (at + n) 0) < 16 = digit_below (get_or s (at + n) 0) in
    rw pow-suc (omega arith)

-- With one digit more it fits 64 bits, where there are fewer than 16.
pub more_fits : (s : List ℕ) (at i b : ℕ) → i < 16 → value s at i * 16 + digit b < 2 ^ 64
more_fits s at i b h =
    let v : value s at i < 16 ^ i = value_below s at i in
    let l : i ≤ 15 = omega arith in
    let p : 16 ^ i ≤ 16 ^ 15 = pow-le-pow_right (lit< tt) l in
    let d : digit b < 16 = digit_below b in
    omega arith

-- ---- digits in a part of the slice
module _ (s : List ℕ) (at e : ℕ) where
  value_in : (n : ℕ) → at + n ≤ e → value (between at e s) 0 n ≡ value s at n
  unfolding value
  value_in zero h = refl
  value_in (suc n) h = rw (value_in n (omega arith), zero-add, get_or-between s at e n 0 (omega arith))

  pub value_of_part : (n : ℕ) → at + n ≡ e → e ≤ length s → value (between at e s) 0 (length (between at e s)) ≡ value s at n
  value_of_part n f h =
      let l : length (between at e s) ≡ n = length-between s at e h ∙ omega arith in
      rw l (value_in n (omega arith))

  digits_in : (n : ℕ) → at + n ≤ e → e ≤ length s → list_all is_digit (take n (between at e s)) ≡ digits s at n
  unfolding digits
  digits_in zero h g = refl
  digits_in (suc n) h g =
      let l : n < length (between at e s) = rw (length-between s at e g) (omega arith) in
      let more : list_all is_digit (take (suc n) (between at e s)) ≡ (list_all is_digit (take n (between at e s)) && is_digit (get_or (between at e s) n 0)) =
      rw (← add-one) (list_all_more is_digit (between at e s) n 0 l) in
      more ∙ rw (digits_in n (omega arith) g, get_or-between s at e n 0 (omega arith))

  pub digits_of_part : (n : ℕ) → at + n ≡ e → e ≤ length s → list_all is_digit (between at e s) ≡ digits s at n
  digits_of_part n f h =
      let l : length (between at e s) ≤ n = rw (length-between s at e h) (omega arith) in
      rw (take_all n (between at e s) l) at (digits_in n (omega arith) h)
