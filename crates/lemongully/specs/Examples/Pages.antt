-- Decimals, lines and pages (02, change 4).
use Rattle.std.specs.Prelude.{◌≡◌, refl, [], ◌∷◌, ◌++◌, length, replicate}
use Rattle.std.specs.Float.{binary64}
use Rattle.std.specs.Float.Ieee.{of_bits}
use Rattle.digits.specs.Hex.{spelled}
use Rattle.digits.specs.Decimal.{digits, figures, blanks}
use Rattle.page.specs.Decimal.{decimal}
use Rattle.page.specs.Page.{line, name_line, on_page, pages}

-- 2 ^ -10 is 0.0009765625, and the tie goes down to the even digit
tie_down : decimal (of_bits binary64 0x3F50000000000000) ≡ blanks 5 ++ (48 ∷ 46 ∷ 48 ∷ 48 ∷ 48 ∷ 57 ∷ 55 ∷ 54 ∷ 53 ∷ 54 ∷ 50 ∷ [])
unfolding decimal digits figures of_bits
tie_down = refl

-- 3 * 2 ^ -10 is 0.0029296875, and the tie goes up
tie_up : decimal (of_bits binary64 0x3F68000000000000) ≡ blanks 5 ++ (48 ∷ 46 ∷ 48 ∷ 48 ∷ 50 ∷ 57 ∷ 50 ∷ 57 ∷ 54 ∷ 56 ∷ 56 ∷ [])
unfolding decimal digits figures of_bits
tie_up = refl

-- -0.0 and -0.0000000001 keep their minus
minus_zero : decimal (of_bits binary64 0x8000000000000000) ≡ blanks 4 ++ (45 ∷ 48 ∷ 46 ∷ replicate 9 48)
unfolding decimal digits figures of_bits
minus_zero = refl

minus_little : decimal (of_bits binary64 0xBDDB7CDFD9D7BDBB) ≡ blanks 4 ++ (45 ∷ 48 ∷ 46 ∷ replicate 9 48)
unfolding decimal digits figures of_bits
minus_little = refl

-- 999999.999999999 fills the columns; 999999.9999999996, which rounds to 1000000, is too long, and so is -99999.9999999996
full : decimal (of_bits binary64 0x412E847FFFFFFFF7) ≡ replicate 6 57 ++ (46 ∷ replicate 9 57)
unfolding decimal digits figures of_bits
full = refl

too_long : decimal (of_bits binary64 0x412E847FFFFFFFFD) ≡ replicate 16 42
unfolding decimal digits figures of_bits
too_long = refl

minus_too_long : decimal (of_bits binary64 0xC0F869FFFFFFFFE5) ≡ replicate 16 42
unfolding decimal digits figures of_bits
minus_too_long = refl

-- the line of P at place 61: 3.141592654
half_turn : line 61 0x400921FB54442D18
    ≡ blanks 4 ++ (54 ∷ 49 ∷ []) ++ blanks 2
    ++ (52 ∷ 48 ∷ 48 ∷ 57 ∷ 50 ∷ 49 ∷ 70 ∷ 66 ∷ 53 ∷ 52 ∷ 52 ∷ 52 ∷ 50 ∷ 68 ∷ 49 ∷ 56 ∷ [])
    ++ blanks 7 ++ (51 ∷ 46 ∷ 49 ∷ 52 ∷ 49 ∷ 53 ∷ 57 ∷ 50 ∷ 54 ∷ 53 ∷ 52 ∷ []) ++ blanks 22 ++ (10 ∷ [])
unfolding line decimal digits figures of_bits spelled
half_turn = refl

-- a name of two letters and a zero, and none
short_name : name_line (71 ∷ 103 ∷ 0 ∷ []) ≡ 71 ∷ 103 ∷ (blanks 62 ++ (10 ∷ []))
unfolding name_line
short_name = refl

no_name : name_line [] ≡ blanks 64 ++ (10 ∷ [])
unfolding name_line
no_name = refl

-- how many pages: without angles one, and a second from 61 angles on
no_angle : pages 0 ≡ 1
no_angle = refl

full_page : pages 60 ≡ 1
full_page = refl

one_more : pages 61 ≡ 2
one_more = refl

last_angle : length (on_page 2 (replicate 61 0)) ≡ 1
unfolding on_page
last_angle = refl
