-- Text in columns takes them all, and what is written from the right is the number in its columns.
use Rattle.std.specs.Prelude.{ℕ, zero, suc, ◌+◌, ◌-◌, ◌/◌, ◌%◌, ◌≤◌, ◌<◌, ◌≡◌, refl, Bool, true, false, cond, ◌&&◌, List, [], ◌∷◌, ◌++◌, leb, ltb}
use Rattle.std.specs.Prelude.{length, replicate}
use Rattle.std.proofs.Common.{arith, sym, ap, append_assoc, length-append, lt-ltb, leb-true}
use Rattle.std.proofs.lemmas.List.{length-replicate}
use Rattle.digits.specs.Decimal.{figure, figures, signed, blanks, columns}
use Rattle.digits.specs.Promises.Columns.{mark, before, number}
use Rattle.digits.specs.Laws.Lengths.{by_ten, figures_one, figures_more, figures_long}

pub length_columns : (k : ℕ) (t : List ℕ) → length (columns k t) ≡ k
length_columns k t = go (leb (length t) k) refl
  where
    go : (b : Bool) → b ≡ leb (length t) k → length (cond b (blanks (k - length t) ++ t) (replicate k 42)) ≡ k
    go true e = rw (length-append, length-replicate) (omega (arith, leb-true (length t) k (sym e)))
    go false e = length-replicate k 42

pub length_before : (k : ℕ) (s : Bool) (n : ℕ) → length (before k s n) ≡ k
unfolding before
length_before zero s n = refl
length_before (suc k) s n = rw (length-append, length_before k (s && ltb 0 n) (n / 10)) (omega arith)

pub replicate_last : (k b : ℕ) → replicate k b ++ (b ∷ []) ≡ replicate (suc k) b
replicate_last zero b = refl
replicate_last (suc k) b = ap (λ (l : List ℕ). b ∷ l) (replicate_last k b)

before_blank : (k : ℕ) → before k false 0 ≡ replicate k 32
unfolding before mark
before_blank zero = refl
before_blank (suc k) = rw (before_blank k) (replicate_last k 32)

before_minus : (k : ℕ) → before (suc k) true 0 ≡ replicate k 32 ++ (45 ∷ [])
unfolding before mark
before_minus k = rw (before_blank k)

-- where digits are left, the first of them
before_digit : (k : ℕ) (s : Bool) (n : ℕ) → 0 < n → before (suc k) s n ≡ number k s n
unfolding before mark
before_digit k true n h = rw (lt-ltb 0 n h)
before_digit k false n h = rw (lt-ltb 0 n h)

pub signed_append : (s : Bool) (t u : List ℕ) → signed s (t ++ u) ≡ signed s t ++ u
signed_append true t u = refl
signed_append false t u = refl

length_signed : (s : Bool) (t : List ℕ) → length t ≤ length (signed s t)
length_signed true t = omega arith
length_signed false t = omega arith

-- blanks, a minus and one digit
number_one : (k : ℕ) (s : Bool) (n : ℕ) → n < 10 → length (signed s (figure n ∷ [])) ≤ suc k
    → number k s n ≡ replicate (suc k - length (signed s (figure n ∷ []))) 32 ++ signed s (figure n ∷ [])
number_one k false n h l =
    let z : n / 10 ≡ 0 = omega arith in
    let m : n % 10 ≡ n = omega arith in
    let e : suc k - 1 ≡ k = omega arith in
    rw (z, m, e, before_blank k)
number_one zero true n h l = let w : ⊥ = omega arith in absurd w
number_one (suc k) true n h l =
    let z : n / 10 ≡ 0 = omega arith in
    let m : n % 10 ≡ n = omega arith in
    let e : suc (suc k) - 2 ≡ k = omega arith in
    rw (z, m, e, before_minus k) (append_assoc (replicate k 32) (45 ∷ []) (figure n ∷ []))

-- what the program writes from the right
pub number_is : (f n k : ℕ) (s : Bool) → n ≤ f → length (signed s (figures f n)) ≤ suc k
    → number k s n ≡ replicate (suc k - length (signed s (figures f n))) 32 ++ signed s (figures f n)
number_is zero n k s l h =
    let o : n < 10 = omega arith in
    rw (figures_one zero n o) (number_one k s n o (rw (figures_one zero n o) at h))
number_is (suc f) n k s l h =
    by_ten n
    (λ o. rw (figures_one (suc f) n o) (number_one k s n o (rw (figures_one (suc f) n o) at h)))
    (λ g. more k g (rw (figures_more f n g, signed_append, length-append) at h) (λ j. number_is f (n / 10) j s (omega arith)))
  where
    more : (k : ℕ) → 10 ≤ n → length (signed s (figures f (n / 10))) + 1 ≤ suc k
        → ((j : ℕ) → length (signed s (figures f (n / 10))) ≤ suc j
        → number j s (n / 10) ≡ replicate (suc j - length (signed s (figures f (n / 10)))) 32 ++ signed s (figures f (n / 10)))
        → number k s n ≡ replicate (suc k - length (signed s (figures (suc f) n))) 32 ++ signed s (figures (suc f) n)
    more zero g h r =
        let a : 0 < length (figures f (n / 10)) = figures_long f (n / 10) 0 (omega arith) (omega arith) in
        let w : ⊥ = omega (arith, length_signed s (figures f (n / 10))) in
        absurd w
    more (suc k) g h r =
        let e : suc (suc k) - (length (signed s (figures f (n / 10))) + 1) ≡ suc k - length (signed s (figures f (n / 10))) = omega arith in
        rw (before_digit k s (n / 10) (omega arith), figures_more f n g, signed_append, length-append, e, r k (omega arith))
        (append_assoc (replicate (suc k - length (signed s (figures f (n / 10)))) 32) (signed s (figures f (n / 10))) (figure (n % 10) ∷ []))
