-- A name is so many characters and then zeros: `is_name` says this byte by byte.
use Rattle.std.specs.Prelude.{ℕ, zero, suc, ◌≤◌, ◌<◌, ◌≡◌, refl, ◌↔◌, List, [], ◌∷◌, Bool, true, false, cond, get_or, eqb}
use Rattle.std.proofs.Common.{arith, sym, ap, ◌∙◌, eqb-true, eq-eqb}
use Rattle.std.proofs.lemmas.Bool.{false≢true}
use Rattle.float.specs.Laws.Tests.{and_left, and_right}
use Rattle.sheet.specs.Validate.{is_character, all_zero, is_name}

pub record Name (l : List ℕ) : Type 0 where
  pub characters : ℕ
  pub first : (i : ℕ) → i < characters → is_character (get_or l i 0) ≡ true
  pub rest : (i : ℕ) → characters ≤ i → get_or l i 0 ≡ 0

zeros_all : (l : List ℕ) → all_zero l ≡ true → (i : ℕ) → get_or l i 0 ≡ 0
unfolding all_zero
zeros_all [] q i = refl
zeros_all (b ∷ bs) q zero = eqb-true b 0 (and_left (eqb b 0) (all_zero bs) q)
zeros_all (b ∷ bs) q (suc i) = zeros_all bs (and_right (eqb b 0) (all_zero bs) q) i

all_zeros : (l : List ℕ) → ((i : ℕ) → get_or l i 0 ≡ 0) → all_zero l ≡ true
unfolding all_zero
all_zeros [] h = refl
all_zeros (b ∷ bs) h = rw (eq-eqb b 0 (h 0)) (all_zeros bs (λ i. h (suc i)))

-- a character in front
longer : (b : ℕ) (bs : List ℕ) → is_character b ≡ true → Name bs → Name (b ∷ bs)
longer b bs t n = record { characters = suc n.characters; first = first; rest = rest }
  where
    first : (i : ℕ) → i < suc n.characters → is_character (get_or (b ∷ bs) i 0) ≡ true
    first zero h = t
    first (suc i) h = n.first i (omega arith)

    rest : (i : ℕ) → suc n.characters ≤ i → get_or (b ∷ bs) i 0 ≡ 0
    rest zero h = absurd (omega arith)
    rest (suc i) h = n.rest i (omega arith)

name_to : (l : List ℕ) → is_name l ≡ true → Name l
unfolding is_name
name_to [] q = record { characters = 0; first = λ i h. absurd (omega arith); rest = λ i h. refl }
name_to (b ∷ bs) q = go (is_character b) refl q (name_to bs)
  where
    go : (c : Bool) → is_character b ≡ c → cond c (is_name bs) (all_zero (b ∷ bs)) ≡ true → (is_name bs ≡ true → Name bs) → Name (b ∷ bs)
    go true t h later = longer b bs t (later h)
    go false t h later = record { characters = 0; first = λ i l. absurd (omega arith); rest = λ i l. zeros_all (b ∷ bs) h i }

-- without its first character
shorter : (b : ℕ) (bs : List ℕ) → is_character b ≡ true → Name (b ∷ bs) → Name bs
shorter b bs t n = go n.characters refl
  where
    go : (k : ℕ) → n.characters ≡ k → Name bs
    go zero e = absurd (false≢true (sym (ap is_character (n.rest 0 (omega (arith, e)))) ∙ t))
    go (suc k) e =
        record { characters = k; first = λ i h. n.first (suc i) (omega (arith, e)); rest = λ i h. n.rest (suc i) (omega (arith, e)) }

-- one that begins with no character is zeros
no_character : (b : ℕ) (bs : List ℕ) → is_character b ≡ false → Name (b ∷ bs) → all_zero (b ∷ bs) ≡ true
no_character b bs t n = go n.characters refl
  where
    go : (k : ℕ) → n.characters ≡ k → all_zero (b ∷ bs) ≡ true
    go zero e = all_zeros (b ∷ bs) (λ i. n.rest i (omega (arith, e)))
    go (suc k) e = absurd (false≢true (sym t ∙ n.first 0 (omega (arith, e))))

name_from : (l : List ℕ) → Name l → is_name l ≡ true
unfolding is_name
name_from [] n = refl
name_from (b ∷ bs) n = go (is_character b) refl (name_from bs)
  where
    go : (c : Bool) → is_character b ≡ c → (Name bs → is_name bs ≡ true) → cond c (is_name bs) (all_zero (b ∷ bs)) ≡ true
    go true t later = later (shorter b bs t n)
    go false t later = no_character b bs t n

pub name_is : (l : List ℕ) → (is_name l ≡ true) ↔ Name l
name_is l = (name_to l, name_from l)
