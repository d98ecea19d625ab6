-- How many digits there are.
use Rattle.std.specs.Prelude.{ℕ, zero, suc, ◌/◌, ◌%◌, ◌*◌, ◌^◌, ◌≤◌, ◌<◌, ◌≡◌, refl, Bool, true, false, [], ◌∷◌, ◌++◌, ltb, length}
use Rattle.std.proofs.Common.{arith, pow-suc, sym, lit<, length-append, lt-ltb, le-ltb, ltb-true, ltb-false}
use Rattle.digits.specs.Hex.{spelled}
use Rattle.digits.specs.Promises.Based as Based
use Rattle.digits.specs.Decimal.{figure, digits, figures, whole}

pub length_spelled : (k n : ℕ) → length (spelled k n) ≡ k
unfolding spelled
length_spelled zero n = refl
length_spelled (suc k) n = rw (length-append, length_spelled k (n / 16)) (omega arith)

pub length_digits : (k n : ℕ) → length (digits k n) ≡ k
unfolding digits
length_digits zero n = refl
length_digits (suc k) n = rw (length-append, length_digits k (n / 10)) (omega arith)

pub length_based : (base k n : ℕ) → length (Based.digits base k n) ≡ k
unfolding Based.digits
length_based base zero n = refl
length_based base (suc k) n = rw (length-append, length_based base k (n / base)) (omega arith)

pub figures_one : (f n : ℕ) → n < 10 → figures f n ≡ figure n ∷ []
unfolding figures
figures_one zero n h = refl
figures_one (suc f) n h = rw (lt-ltb n 10 h)

pub figures_more : (f n : ℕ) → 10 ≤ n → figures (suc f) n ≡ figures f (n / 10) ++ (figure (n % 10) ∷ [])
unfolding figures
figures_more f n h = rw (le-ltb n 10 h)

pub ten_pos : (j : ℕ) → 0 < 10 ^ j
ten_pos zero = lit< tt
ten_pos (suc j) = let p : 10 ^ suc j ≡ 10 ^ j * 10 = pow-suc 10 j in let q : 0 < 10 ^ j = ten_pos j in omega arith

-- a fact by whether n has one digit
pub by_ten : {P : Type 0} (n : ℕ) → (n < 10 → P) → (10 ≤ n → P) → P
by_ten {P} n f g = go (ltb n 10) refl
  where
    go : (t : Bool) → t ≡ ltb n 10 → P
    go true e = f (ltb-true n 10 (sym e))
    go false e = g (ltb-false n 10 (sym e))

-- what has at most j + 1 digits
figures_short : (f n j : ℕ) → n ≤ f → n < 10 ^ suc j → length (figures f n) ≤ suc j
figures_short zero n j l h = rw (figures_one zero n (omega arith)) (omega arith)
figures_short (suc f) n zero l h = rw (figures_one (suc f) n h) (omega arith)
figures_short (suc f) n (suc j) l h =
    let p : 10 ^ suc (suc j) ≡ 10 ^ suc j * 10 = pow-suc 10 (suc j) in
    by_ten n
    (λ s. rw (figures_one (suc f) n s) (omega arith))
    (λ g.
    let r : length (figures f (n / 10)) ≤ suc j = figures_short f (n / 10) j (omega arith) (omega arith) in
    rw (figures_more f n g, length-append) (omega arith))

-- what has more than j digits
pub figures_long : (f n j : ℕ) → n ≤ f → 10 ^ j ≤ n → j < length (figures f n)
unfolding figures
figures_long zero n j l h = rw (few j h) (omega arith)
  where
    few : (j : ℕ) → 10 ^ j ≤ n → j ≡ 0
    few zero h = refl
    few (suc j) h = let p : 10 ^ suc j ≡ 10 ^ j * 10 = pow-suc 10 j in let q : 0 < 10 ^ j = ten_pos j in omega arith
figures_long (suc f) n zero l h =
    by_ten n
    (λ s. rw (figures_one (suc f) n s) (omega arith))
    (λ g. rw (figures_more f n g, length-append) (omega arith))
figures_long (suc f) n (suc j) l h =
    let p : 10 ^ suc j ≡ 10 ^ j * 10 = pow-suc 10 j in
    let q : 0 < 10 ^ j = ten_pos j in
    let g : 10 ≤ n = omega arith in
    let r : j < length (figures f (n / 10)) = figures_long f (n / 10) j (omega arith) (omega arith) in
    rw (figures_more f n g, length-append) (omega arith)

pub whole_short : (n j : ℕ) → n < 10 ^ suc j → length (whole n) ≤ suc j
whole_short n j h = figures_short n n j (omega arith) h

pub whole_long : (n j : ℕ) → 10 ^ j ≤ n → j < length (whole n)
whole_long n j h = figures_long n n j (omega arith) h
