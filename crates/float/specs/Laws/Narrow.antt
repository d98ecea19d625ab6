-- The halves of a joint's interval are at most 3217/1024 wide, a little above P, and the half angles of a chart so wide are within 101/128, where
-- `tan-within` holds.
-- Errors are counted in E = 2 ^ 1026 units, which is 2 ^ -48; each step is off by at most E.
use Rattle.std.specs.Prelude.{ℕ, ◌+◌, ◌*◌, ◌^◌, ◌≤◌, false, T, pos, Float}
use Rattle.std.proofs.Common.{arith, lit≤, pow_pos}
use Rattle.std.proofs.Math.Path.{refl}
use Rattle.std.specs.Float.{fin, binary64}
use Rattle.std.specs.Float.Ieee.{fits}
use Rattle.float.specs.Number.{◌⊕◌, ◌⊖◌, ◌⊘◌, middle, zero_float, two_float}
use Rattle.float.specs.Trig.{P}
use Rattle.float.specs.Promises.Order.{Within, Span}
use Rattle.float.specs.Laws.Within.{div_within, numeral_beyond}
use Rattle.float.specs.Laws.Interval.{In}
use Rattle.float.specs.Laws.Close.{Close, Room, close_self, close_add, close_sub}
use Rattle.float.specs.Laws.Sine.{per}
use Rattle.float.specs.Laws.Trigonometry.{tan_widest}
use Rattle.float.specs.Laws.Middle.{left_half, right_half}
use Rattle.float.specs.Laws.Half.{Halved, half_of, close_half, close_wider, Counts, close_within, close_bound, close_plus, Sized, sized}

-- ---- in E: P, 3217/1024, 8 and 101/64
abbrev half_turn : ℕ
half_turn = 884279719003555

abbrev half_width : ℕ
half_width = 884282226638848

abbrev eight : ℕ
eight = 2251799813685248

abbrev angle : ℕ
angle = 444202697621504

-- ---- the widths of the halves, in units: each is h but for 8 E
module _ (E : ℕ) (R : Room E) {c h : Float} (cp cn hp hn : ℕ) (c1 : cp ≤ cn + half_turn * E) (c2 : cn ≤ cp + half_turn * E) (h1 : hn ≤ hp)
    (h2 : hp ≤ hn + half_turn * E) (C : Close c cp cn 0) (H : Close h hp hn 0) where
  lower_close : Close (c ⊖ h) (cp + hn) (cn + hp) E
  lower_close = close_wider (cp + hn) (cn + hp) E refl (omega arith) (close_sub cp cn hp hn 0 0 E R (omega arith) (omega arith) C H)

  upper_close : Close (c ⊕ h) (cp + hp) (cn + hn) E
  upper_close = close_wider (cp + hp) (cn + hn) E refl (omega arith) (close_add cp cn hp hn 0 0 E R (omega arith) (omega arith) C H)

  -- the width is twice h
  width_close : Close (c ⊕ h ⊖ (c ⊖ h)) (hp * 2) (hn * 2) (3 * E)
  width_close =
      close_wider (hp * 2) (hn * 2) (3 * E) (omega arith) (omega arith)
      (close_sub (cp + hp) (cn + hn) (cp + hn) (cn + hp) E E E R (omega arith) (omega arith) upper_close lower_close)

  half_close : Close ((c ⊕ h ⊖ (c ⊖ h)) ⊘ two_float) hp hn (3 * E + E)
  half_close = close_half (hp * 2) (hn * 2) hp hn (3 * E) E R refl (omega arith) (omega arith) width_close

  -- the middle is c
  middle_close : Close (middle (c ⊖ h) (c ⊕ h)) cp cn (6 * E)
  unfolding middle
  middle_close =
      close_wider cp cn (6 * E) (omega arith) (omega arith) (close_add (cp + hn) (cn + hp) hp hn E (3 * E + E) E R (omega arith)
      (omega arith) lower_close half_close)

  first_close : Close (middle (c ⊖ h) (c ⊕ h) ⊖ (c ⊖ h)) hp hn (8 * E)
  first_close =
      close_wider hp hn (8 * E) (omega arith) (omega arith) (close_sub cp cn (cp + hn) (cn + hp) (6 * E) E E R (omega arith)
      (omega arith) middle_close lower_close)

  second_close : Close (c ⊕ h ⊖ middle (c ⊖ h) (c ⊕ h)) hp hn (8 * E)
  second_close =
      close_wider hp hn (8 * E) (omega arith) (omega arith) (close_sub (cp + hp) (cn + hn) cp cn E (6 * E) E R (omega arith)
      (omega arith) upper_close middle_close)

  widths : {B : Float} → Counts B (half_width * E) → Within B (middle (c ⊖ h) (c ⊕ h) ⊖ (c ⊖ h)) × Within B (c ⊕ h ⊖ middle (c ⊖ h) (c ⊕ h))
  widths b = (
    close_within (half_width * E) hp hn (8 * E) b (omega arith) (omega arith) first_close,
    close_within (half_width * E) hp hn (8 * E) b
        (omega arith) (omega arith) second_close,
  )

-- ---- a chart's half angles, in units: half the width but for 3 E
module _ (E : ℕ) (R : Room E) {lo hi : Float} (lp ln up un : ℕ) (l1 : lp ≤ ln + eight * E) (l2 : ln ≤ lp + eight * E)
    (u1 : up ≤ un + eight * E) (u2 : un ≤ up + eight * E) (L : Close lo lp ln 0) (U : Close hi up un 0) where
  chart_width : Close (hi ⊖ lo) (up + ln) (un + lp) E
  chart_width = close_wider (up + ln) (un + lp) E refl (omega arith) (close_sub up un lp ln 0 0 E R (omega arith) (omega arith) U L)

  module _ (w1 : up + ln ≤ un + lp + half_width * E + E) (w2 : un + lp ≤ up + ln + half_width * E + E) where
    chart_half : Halved (hi ⊖ lo) (up + ln) (un + lp) (E + E * 2)
    chart_half = half_of (up + ln) (un + lp) E E R (omega arith) (omega arith) chart_width

    module _ (D : Halved (hi ⊖ lo) (up + ln) (un + lp) (E + E * 2)) where
      near : (D.r ≤ D.s + 444202697621000 * E) × (D.s ≤ D.r + 444202697621000 * E)
      near =
          let a = D.over in
          let b = D.under in
          (omega arith, omega arith)

      origin_close : Close (middle lo hi) (lp + D.r) (ln + D.s) E
      unfolding middle
      origin_close =
          let n = near in
          close_wider (lp + D.r) (ln + D.s) E refl (omega arith)
          (close_add lp ln D.r D.s 0 0 E R (omega arith) (omega arith) L (close_self D.r D.s D.is))

      both_angles : {B : Float} → Counts B (angle * E) → Within B (lo ⊖ middle lo hi) × Within B (hi ⊖ middle lo hi)
      both_angles b =
          let n = near in
          let x = D.over in
          let y = D.under in (
            close_within (angle * E) (lp + (ln + D.s)) (ln + (lp + D.r)) (0 + E + E) b (omega arith) (omega arith)
                (close_sub lp ln (lp + D.r) (ln + D.s) 0 E E R (omega arith) (omega arith) L origin_close),
            close_within (angle * E) (up + (ln + D.s)) (un + (lp + D.r)) (0 + E + E) b (omega arith) (omega arith)
                (close_sub up un (lp + D.r) (ln + D.s) 0 E E R (omega arith) (omega arith) U origin_close),
          )

    angles_units : {B : Float} → Counts B (angle * E) → Within B (lo ⊖ middle lo hi) × Within B (hi ⊖ middle lo hi)
    angles_units b = both_angles chart_half b

-- ---- the laws
abbrev unit : ℕ
unit = 2 ^ 1026

room : Room (2 ^ 1026)
room = (pow_pos 1026, lit≤ tt)

-- a little above P
abbrev pub widest_half : Float
widest_half = per 3217 10

-- An interval of a chart: it can be halved, and is hardly wider than P.
pub record Narrow (lo hi : Float) : Type 0 where
  pub span : Span 3 lo hi
  pub width : Within widest_half (hi ⊖ lo)

pub halves_narrow : (c h : Float) → T (fits binary64 c) → T (fits binary64 h) → Within P c → In zero_float P h → Within P h → Span 3 (c ⊖ h) (c ⊕ h)
    → Narrow (c ⊖ h) (middle (c ⊖ h) (c ⊕ h)) × Narrow (middle (c ⊖ h) (c ⊕ h)) (c ⊕ h)
halves_narrow c h fc fh wc ih wh s = go (sized (half_turn * 2 ^ 1026) counts fc wc) (sized (half_turn * 2 ^ 1026) counts fh wh)
  where
    counts : Counts P (half_turn * 2 ^ 1026)
    counts = record { real = tt; plus = tt; is = refl }

    go : Sized c (half_turn * 2 ^ 1026) → Sized h (half_turn * 2 ^ 1026)
        → Narrow (c ⊖ h) (middle (c ⊖ h) (c ⊕ h)) × Narrow (middle (c ⊖ h) (c ⊕ h)) (c ⊕ h)
    go x y =
        let w = widths (2 ^ 1026) room x.p x.n y.p y.n x.over x.under (close_plus y.p y.n ih.lower y.close) y.over x.close
        y.close {B = widest_half} (record { real = tt; plus = tt; is = refl }) in
        (record { span = left_half s; width = w.0 }, record { span = right_half s; width = w.1 })

pub angles_within : {lo hi : Float} → Narrow lo hi → Within tan_widest ((lo ⊖ middle lo hi) ⊘ two_float) × Within tan_widest ((hi ⊖ middle lo hi) ⊘ two_float)
angles_within {lo} {hi} n =
    go (sized (eight * 2 ^ 1026) counts n.span.lo_fits n.span.lo_within)
    (sized (eight * 2 ^ 1026) counts n.span.hi_fits n.span.hi_within)
  where
    counts : Counts (fin false 1 (pos 3)) (eight * 2 ^ 1026)
    counts = record { real = tt; plus = tt; is = refl }

    halved : {x : Float} → Within (per 101 6) x → Within tan_widest (x ⊘ two_float)
    halved w = div_within binary64 tan_widest tt w (numeral_beyond two_float two_float tt)

    go : Sized lo (eight * 2 ^ 1026) → Sized hi (eight * 2 ^ 1026)
        → Within tan_widest ((lo ⊖ middle lo hi) ⊘ two_float) × Within tan_widest ((hi ⊖ middle lo hi) ⊘ two_float)
    go x y =
        let b = close_bound {B = widest_half} (half_width * 2 ^ 1026) (y.p + x.n) (y.n + x.p) (2 ^ 1026) (record { real = tt; plus = tt; is = refl })
        n.width (chart_width (2 ^ 1026) room x.p x.n y.p y.n x.over x.under y.over y.under x.close y.close) in
        let a = angles_units (2 ^ 1026) room x.p x.n y.p y.n x.over x.under y.over y.under x.close y.close b.0
        b.1 {B = per 101 6} (record { real = tt; plus = tt; is = refl }) in
        (halved a.0, halved a.1)
