-- The centre and the tolerance of a joint's limits: `compute_centers` of the Rust, for one joint (01, module 4). Definitions only.
use Rattle.std.specs.Prelude.{false, not, ◌||◌, cond, Float}
use Rattle.std.specs.Float.{nan, inf}
use Rattle.std.specs.Float.Ieee.{eq, lt}
use Rattle.std.specs.Float.Ieee.Scale.{finite}
use Rattle.float.specs.Number.{◌⊕◌, ◌⊖◌, ◌⊘◌, rem_euclid, zero_float, two_float}
use Rattle.polynomial.specs.Angle.{two_pi}
use Rattle.sampling.specs.declared.constraints.Center.{Center}

-- The forward arc from a to b, in one step: adding turns until the end lies ahead would not end for large values.
abbrev pub arc : Float → Float → Float
arc a b = rem_euclid (rem_euclid b two_pi ⊖ rem_euclid a two_pi) two_pi

-- Limits that are not finite admit no angle; equal ones are no constraint; values that do not wrap around have their middle; others the forward arc's.
unfoldable pub compute_center : Float → Float → Center
compute_center a b =
    cond (not (finite a) || not (finite b)) (record { center = nan; tolerance = nan })
    (cond (eq a b) (record { center = zero_float; tolerance = inf false })
    (cond (lt a b) (record { center = (a ⊕ b) ⊘ two_float; tolerance = (b ⊖ a) ⊘ two_float })
    (record { center = a ⊕ arc a b ⊘ two_float; tolerance = arc a b ⊘ two_float })))
