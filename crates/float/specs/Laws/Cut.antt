-- A fraction rounded to the nearest multiple of a unit: what is below the fourth part of the unit
-- counts only by whether it is zero, so that the fraction may be cut there by `jam`.
--
use Rattle.std.specs.Prelude.{◌≡◌, ℕ, suc, ◌+◌, ◌*◌, ◌/◌, ◌%◌, ◌^◌, ◌<◌, ◌≤◌, min}
use Rattle.std.proofs.Common.{sym, ap, ◌∙◌, mod-lt, div-add-mod', mul-le-mul_right, mul-pos, zero-lt-suc, arith, pow_pos}
use Prim.Native.Nat.{compare, Ordering}
use Rattle.std.proofs.Math.Arith.{digits_div, digits_mod}
use Rattle.std.specs.Float.Ieee.{nearest}
use Rattle.std.specs.Float.Ieee.Nearest.{closest}
use Rattle.float.specs.Promises.Jam.{jam}
use Rattle.float.specs.Laws.Near.{Cmp, cmp}
use Rattle.float.specs.Laws.Compare.{cmp_is}

-- `closest` from a whole part q and a rest r
closest_at : (a u q r : ℕ) → a ≡ q * u + r → r < u → closest a u ≡ nearest q (compare (r * 2) u)
closest_at a u q r e h =
    ap (λ (x : ℕ). nearest (x / u) (compare (x % u * 2) u)) e
    ∙ ap (λ (x : ℕ). nearest x (compare ((q * u + r) % u * 2) u)) (digits_div q h)
    ∙ ap (λ (x : ℕ). nearest q (compare (x * 2) u)) (digits_mod q h)

-- the rest t * b + p against the half h * b of the unit, and the same with p cut to whether it is zero
same_order : (t h p b : ℕ) → p < b → compare ((t * b + p) * 2) (b * (2 * h)) ≡ compare ((2 * t + min 1 p) * 2) (2 * (2 * h))
same_order t h p b P = go (compare t h) (cmp t h)
  where
    below : t < h → ((t * b + p) * 2 < b * (2 * h)) × ((2 * t + min 1 p) * 2 < 2 * (2 * h))
    below l = let x : suc t * b ≤ h * b = mul-le-mul_right b l in (omega arith, omega arith)

    above : h < t → (b * (2 * h) < (t * b + p) * 2) × (2 * (2 * h) < (2 * t + min 1 p) * 2)
    above l = let x : suc h * b ≤ t * b = mul-le-mul_right b l in (omega arith, omega arith)

    flat : t ≡ h → p ≡ 0 → ((t * b + p) * 2 ≡ b * (2 * h)) × ((2 * t + min 1 p) * 2 ≡ 2 * (2 * h))
    flat e z = let x : t * b ≡ h * b = ap (λ (y : ℕ). y * b) e in (omega arith, omega arith)

    over : t ≡ h → 0 < p → (b * (2 * h) < (t * b + p) * 2) × (2 * (2 * h) < (2 * t + min 1 p) * 2)
    over e z = let x : t * b ≡ h * b = ap (λ (y : ℕ). y * b) e in (omega arith, omega arith)

    both : (o : Ordering) → Cmp o ((t * b + p) * 2) (b * (2 * h)) × Cmp o ((2 * t + min 1 p) * 2) (2 * (2 * h))
        → compare ((t * b + p) * 2) (b * (2 * h)) ≡ compare ((2 * t + min 1 p) * 2) (2 * (2 * h))
    both o c = cmp_is o ((t * b + p) * 2) (b * (2 * h)) c.0 ∙ sym (cmp_is o ((2 * t + min 1 p) * 2) (2 * (2 * h)) c.1)

    level : t ≡ h → (o : Ordering) → Cmp o p 0 → compare ((t * b + p) * 2) (b * (2 * h)) ≡ compare ((2 * t + min 1 p) * 2) (2 * (2 * h))
    level e Ordering.lt z = both Ordering.eq (flat e (omega arith))
    level e Ordering.eq z = both Ordering.eq (flat e z)
    level e Ordering.gt z = both Ordering.gt (over e z)

    go : (o : Ordering) → Cmp o t h → compare ((t * b + p) * 2) (b * (2 * h)) ≡ compare ((2 * t + min 1 p) * 2) (2 * (2 * h))
    go Ordering.lt l = both Ordering.lt (below l)
    go Ordering.eq e = level e (compare p 0) (cmp p 0)
    go Ordering.gt l = both Ordering.gt (above l)

-- a in units of b * (2 * h), and a in units of b with what is below cut to whether it is zero, in units of 2 * h
closest_cut : (a b h : ℕ) → 0 < b → 0 < h → closest a (b * (2 * h)) ≡ closest (2 * (a / b) + min 1 (a % b)) (2 * (2 * h))
closest_cut a b h B H =
    let w = a / b in
    let p = a % b in
    let q = w / (2 * h) in
    let t = w % (2 * h) in
    let P : p < b = mod-lt a B in
    let T : t < 2 * h = mod-lt w (mul-pos (zero-lt-suc 1) H) in
    let ea : w * b + p ≡ a = div-add-mod' a b in
    let ew : q * (2 * h) + t ≡ w = div-add-mod' w (2 * h) in
    let eb : (q * (2 * h) + t) * b ≡ w * b = ap (λ (x : ℕ). x * b) ew in
    let tb : suc t * b ≤ 2 * h * b = mul-le-mul_right b T in
    closest_at a (b * (2 * h)) q (t * b + p) (omega arith) (omega arith)
    ∙ ap (λ (o : Ordering). nearest q o) (same_order t h p b P)
    ∙ sym (closest_at (2 * w + min 1 p) (2 * (2 * h)) q (2 * t + min 1 p) (omega arith) (omega arith))

-- the same of `jam`
pub closest_jam : (n d h : ℕ) → 0 < h → closest n (2 ^ suc d * (2 * h)) ≡ closest (jam n d) (2 * (2 * h))
closest_jam n d h H = closest_cut n (2 ^ suc d) h (pow_pos (suc d)) H
